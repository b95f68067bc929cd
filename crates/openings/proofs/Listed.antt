-- The set of ids: what a frame's contacts leave of it where they can all be read; and the marks of those active, as a loop puts them.
-- Assumes nothing.
use Prim.Native.Nat.{ℕ, ◌+◌, ◌≤◌, ◌<◌}
use mathlib.Core.Path.{◌≡◌, refl, sym, ap, ◌∙◌}
use mathlib.Core.List.{List, [], ◌∷◌, ◌++◌, append-nil}
use native.Mathlib.Omega.{arith}
use native.Mathlib.Numerals.{add-one}
use lib.ListN.{length, get_or, set, take, drop, drop_of_length-le, get_or-map}
use lib.Seq.{drop-cons, take-suc, take_all, length-take-le, append_snoc, set_at}
use Rattle.formats.specs.Format.{got}
use Rattle.fields.specs.Integers.{taken}
use Rattle.house.specs.declared.Contact.{Contact}
use Rattle.touch.specs.Touch.{contact}
use Rattle.states.specs.Table.{out}
use Rattle.machine.specs.Table.{active, one}
use Rattle.machine.specs.Held.{active_ids, with_listing, held_after}
use Rattle.machine.proofs.Held.{active-length}
use Rattle.contacts.specs.Touch.{touch_view}
use Rattle.contacts.specs.Ruling.{contacts_of, table_from}
use Rattle.framing.specs.After.{after_read}
use Rattle.framing.proofs.After.{read_all}

-- those that can all be read, listed
pub listed-all : (n : ℕ) (h l : List ℕ) (cs : List Contact) (rest : List ℕ) → contacts_of n l ≡ got cs rest → after_read (with_listing touch_view) (contact taken) n h l ≡ held_after touch_view h cs
unfolding held_after
listed-all = read_all (with_listing touch_view) (contact taken) (held_after touch_view) (λ a. refl) (λ a c ds. refl)

-- ---- the marks of those active, put one after the other: those before i are put, the others are as they were

abbrev marks_of : List ℕ → List ℕ
marks_of states = active_ids (table_from states [] [])

abbrev pub marked_to : ℕ → List ℕ → List ℕ → List ℕ
marked_to i states held = take i (marks_of states) ++ drop i held

module _ (states held : List ℕ) (i : ℕ) where
  pub mark-put : (marks : List ℕ) (n : ℕ) → i < length states → i < length held → marks ≡ marked_to i states held → n ≡ one (active (get_or states i out)) → set marks i n ≡ marked_to (i + 1) states held
  unfolding active_ids
  mark-put marks n h k e m =
      let ids = marks_of states in
      let long = active-length (table_from states [] []) in
      let w : marks ≡ take i ids ++ get_or held i 0 ∷ drop (i + 1) held = e ∙ ap (λ l. take i ids ++ l) (rw (add-one i) (drop-cons held i 0 k)) in
      let p : length (take i ids) ≡ i = length-take-le i ids (omega (arith, long)) in
      let g : get_or ids i 0 ≡ n = get_or-map (λ s. one (active s)) states i out ∙ sym m in
      let t : take (i + 1) ids ≡ take i ids ++ (n ∷ []) = rw (add-one i, ← g) (take-suc ids i 0 (omega (arith, long))) in
      ap (λ l. set l i n) w ∙ (set_at (take i ids) (get_or held i 0) (drop (i + 1) held) n i p ∙ sym (ap (λ l. l ++ drop (i + 1) held) t ∙ append_snoc (take i ids) n (drop (i + 1) held)))

  pub marked_all : length states ≤ i → length held ≤ i → marked_to i states held ≡ marks_of states
  marked_all h k =
      let ids = marks_of states in
      ap (λ l. take i ids ++ l) (drop_of_length-le held k) ∙ (append-nil (take i ids) ∙ take_all i ids (omega (arith, active-length (table_from states [] []))))
