-- When contacts that are read are those of an opening frame.
-- Assumes nothing.
use Prim.Native.Nat.{ℕ, zero, suc, ◌<◌}
use mathlib.Core.Path.{◌≡◌, refl}
use mathlib.Core.Bool.{true, false, cond}
use mathlib.Core.List.{List, ◌∷◌}
use native.Mathlib.Omega.{arith}
use Rattle.formats.specs.Format.{Got, got, bad, and_then, read_series}
use Rattle.fields.specs.Integers.{taken}
use Rattle.house.specs.declared.Contact.{Contact}
use Rattle.touch.specs.Touch.{contact}
use Rattle.machine.specs.Conforms.{every}
use Rattle.machine.specs.Held.{is_down, is_free, opening}
use Rattle.contacts.specs.Touch.{touch_view}
use Rattle.contacts.specs.Ruling.{contacts_of, of_read}
use Rattle.contacts.proofs.Reading.{read-end}

module _ (held : List ℕ) (n : ℕ) (l : List ℕ) where
  pub read_none : n ≡ 0 → of_read false (opening touch_view held) (contacts_of n l) ≡ false
  unfolding opening
  read_none h = read-end (contact taken) false (λ cs t. opening touch_view held cs) n l (omega arith)

-- at least one contact: by the one rule, or by the other
abbrev ByEither : List ℕ → Got (List Contact) → Type 0
ByEither held x =
    of_read false (opening touch_view held) x ≡ cond (of_read false (every (is_down touch_view)) x) true (of_read false (every (is_free touch_view held)) x)

pub read-opening : (held : List ℕ) (n : ℕ) (l : List ℕ) → 0 < n → ByEither held (contacts_of n l)
unfolding read_series opening
read-opening held zero l h = absurd (omega arith)
read-opening held (suc n) l h = go ((contact taken).read l)
  where
    on : (c : Contact) (x : Got (List Contact)) → ByEither held (and_then x (λ cs u. got (c ∷ cs) u))
    on c (got cs t) = refl
    on c (bad e) = refl

    go : (x : Got Contact) → ByEither held (and_then x (λ c t. and_then (contacts_of n t) (λ cs u. got (c ∷ cs) u)))
    go (got c t) = on c (contacts_of n t)
    go (bad e) = refl
