-- The contacts that a loop reads one after the other: what is said of those that are left is what is said of all.
-- Assumes nothing.
use Prim.Native.Nat.{ℕ, zero, suc, ◌≤◌, ◌<◌}
use mathlib.Core.Path.{◌≡◌, refl, sym, ap, ◌∙◌}
use mathlib.Core.Bool.{Bool, true, false}
use Rattle.std.specs.Prelude.{Option, Some, None, Result, Ok, Err}
use Rattle.std.specs.Borrow.{Bor}
use Rattle.std.specs.Result.{result_ok}
use Rattle.paper.specs.Refusals.{number}
use Rattle.paper.specs.declared.Refusal.{Refusal}
use Rattle.formats.specs.Answer.{read_of}
use native.Mathlib.Omega.{arith}
use mathlib.Core.List.{List, [], ◌∷◌}
use borrow.Author.Tests.{lt-ltb}
use Rattle.digits.specs.Digits.{Bytes}
use Rattle.formats.specs.Format.{Got, got, bad, and_then, Format, read_series, Each}
use Rattle.formats.proofs.Laws.{Law, times-law}
use Rattle.formats.proofs.Steps.{series-end, series-bad}
use Rattle.fields.specs.Integers.{taken}
use Rattle.framing.specs.After.{on_read}
use Rattle.fields.proofs.Laws.{taken-law}
use Rattle.house.specs.declared.Contact.{Contact}
use Rattle.touch.specs.Touch.{contact}
use Rattle.touch.proofs.Laws.{contact-law}
use Rattle.recordings.specs.Records.{contact_record}
use Rattle.recordings.proofs.Records.{contact-law as record-law}
use Rattle.machine.specs.Table.{contacts}
use Rattle.machine.specs.Conforms.{every}
use Rattle.contacts.specs.Touch.{touch_view}
use Rattle.contacts.specs.Ruling.{source, contacts_by, of_read}
use Rattle.machine.proofs.Conforms.{in_table}

never-none : {A B : Type 0} {a : A} → ◌≡◌ {A = Option A} None (Some a) → B
never-none h = absurd (let z : ◌≡◌ {A = ℕ} 0 1 = cc in omega arith)

-- .. and what is read where a value is kept
pub kept : {A : Type 0} (x : Got A) (r : Result (A × Bor (List ℕ)) Refusal) (a : A) (t : Bor (List ℕ)) → read_of r ≡ x → result_ok r ≡ Some (a, t) → x ≡ got a t.now
kept {A} x (Ok b) a t h w = sym h ∙ ap (λ (p : A × Bor (List ℕ)). got p.0 p.1.now) (let e : b ≡ (a, t) = cc in e)
kept x (Err e) a t h w = never-none w

module _ (format : Format Contact) {A : Type 0} (z : A) (f : List Contact → List ℕ → A) where
  pub read-end : (k : ℕ) (l : List ℕ) → k ≤ 0 → on_read z f (contacts_by format k l) ≡ f [] l
  read-end k l h = ap (on_read z f) (series-end (λ b. format.read) false k l h)

  pub read-bad : (k : ℕ) (l : List ℕ) (e : ℕ) → 0 < k → format.read l ≡ bad e → on_read z f (contacts_by format k l) ≡ z
  read-bad k l e h w = ap (on_read z f) (series-bad (λ b. format.read) false k l e h w)

  -- .. of an answer of which only the value is kept
  pub read-stop : (k : ℕ) (l : List ℕ) (r : Result (Contact × Bor (List ℕ)) Refusal) → 0 < k → read_of r ≡ format.read l → result_ok r ≡ None → on_read z f (contacts_by format k l) ≡ z
  read-stop k l (Ok b) h e w = never-none (sym w)
  read-stop k l (Err x) h e w = read-bad k l (number x) h (sym e)

  -- a contact and the others: g says of the others what f says of all
  front : (g : List Contact → List ℕ → A) (c : Contact) → ((cs : List Contact) (u : List ℕ) → f (c ∷ cs) u ≡ g cs u) → (x : Got (List Contact))
      → on_read z f (and_then x (λ cs u. got (c ∷ cs) u)) ≡ on_read z g x
  front g c h (got cs u) = h cs u
  front g c h (bad e) = refl

  pub read-on : (g : List Contact → List ℕ → A) (k m : ℕ) (l : List ℕ) (c : Contact) (t : List ℕ) → k ≡ suc m → format.read l ≡ got c t
      → ((cs : List Contact) (u : List ℕ) → f (c ∷ cs) u ≡ g cs u) → on_read z f (contacts_by format k l) ≡ on_read z g (contacts_by format m t)
  unfolding read_series
  read-on g k m l c t h w e = rw (h, w) (front g c e (contacts_by format m t))

  -- the contact decides
  settled : (x : Got (List Contact)) → on_read z (λ cs u. z) x ≡ z
  settled (got cs u) = refl
  settled (bad e) = refl

  pub read_off : (k m : ℕ) (l : List ℕ) (c : Contact) (t : List ℕ) → k ≡ suc m → format.read l ≡ got c t
      → ((cs : List Contact) (u : List ℕ) → f (c ∷ cs) u ≡ z) → on_read z f (contacts_by format k l) ≡ z
  read_off k m l c t h w e = read-on (λ cs u. z) k m l c t h w e ∙ settled (contacts_by format m t)

-- two tests that agree
pub read_same : {A : Type 0} (z : A) (f g : List Contact → A) → ((cs : List Contact) → f cs ≡ g cs) → (x : Got (List Contact)) → of_read z f x ≡ of_read z g x
read_same z f g h (got cs t) = h cs
read_same z f g h (bad e) = refl

-- ---- ids are bytes: of a lawful format that holds no others, and so wherever contacts are read

module _ {X : Type 0} (format : Format Contact) (law : Law X format) (fits : (c : Contact) → format.Holds c → c.id < contacts) where
  ids-in : (n : ℕ) (cs : List Contact) → Each (λ b. format.Holds) false n cs → every (in_table touch_view) cs ≡ true
  unfolding Each every
  ids-in zero [] h = refl
  ids-in zero (c ∷ cs) h = absurd h
  ids-in (suc n) [] h = absurd h
  ids-in (suc n) (c ∷ cs) h = rw (lt-ltb c.id contacts (fits c h.0)) (ids-in n cs h.1)

  lawful-ids : (n : ℕ) (l : List ℕ) → Bytes l → of_read true (every (in_table touch_view)) (contacts_by format n l) ≡ true
  lawful-ids n l hl = go (contacts_by format n l) refl
    where
      go : (x : Got (List Contact)) → contacts_by format n l ≡ x → of_read true (every (in_table touch_view)) x ≡ true
      go (got cs t) w = ids-in n cs ((times-law format n law).sound l cs t hl w).0
      go (bad e) w = refl

pub read-ids : (recorded : Bool) (n : ℕ) (l : List ℕ) → Bytes l → of_read true (every (in_table touch_view)) (contacts_by (source recorded) n l) ≡ true
unfolding contact
read-ids true n l hl = lawful-ids contact_record record-law (λ c h. h.0.id) n l hl
read-ids false n l hl = lawful-ids (contact taken) (contact-law taken taken-law) (λ c h. h.0) n l hl
