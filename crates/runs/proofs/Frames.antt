-- The loop over the frames of a message: what is still to come, from the run as it is, gives what all of it gives from the start.
-- Assumes nothing.
use Prim.Native.Nat.{ℕ, zero, suc, ◌-◌, ◌≤◌, ◌<◌}
use mathlib.Core.Path.{◌≡◌, refl, sym, ap, ◌∙◌}
use mathlib.Core.Bool.{Bool, true, false}
use mathlib.Core.List.{List, ◌++◌}
use native.Mathlib.Numerals.{sub-one}
use native.Mathlib.Omega.{arith}
use lib.ListN.{length, take, drop}
use borrow.Rule.Slice.PartMut.{mid_of, put_mid}
use Rattle.slices.proofs.Tails.{tail-is, tail-back}
use Rattle.fields.specs.Integers.{taken}
use Rattle.house.specs.declared.Head.{Head}
use Rattle.touch.specs.Touch.{contact}
use Rattle.frame_records.specs.Frames.{head_in, contacts_in}
use Rattle.machine.specs.Machine.{Arrays}
use Rattle.contacts.specs.Ruling.{contacts_of}
use Rattle.moves.specs.Moves.{behind}
use Rattle.runs.specs.declared.Run.{Run}
use Rattle.runs.specs.Runs.{timed_head, ruling_on, Steps, passing, Passes, Underway, on_frame, on_frames}

timed-count : (untimed : Bool) (h : Head) → (timed_head untimed h).count ≡ h.count
timed-count true h = refl
timed-count false h = refl

-- ---- one more frame

module _ (untimed wet : Bool) (most : ℕ) where
  pub frames-end : (n : ℕ) (l : List ℕ) (u : Underway) → n ≤ 0 → on_frames untimed wet most n l u ≡ u
  unfolding on_frames
  frames-end zero l u h = refl
  frames-end (suc n) l u h = absurd (omega arith)

  frames-on : (n : ℕ) (l : List ℕ) (u : Underway) → 0 < n
      → on_frames untimed wet most n l u ≡ on_frames untimed wet most (n - 1) (behind (contact taken) (head_in l).count (contacts_in l)) (on_frame untimed wet most (timed_head untimed (head_in l)) (contacts_in l) u)
  unfolding on_frames
  frames-on zero l u h = absurd (omega arith)
  frames-on (suc n) l u h = rw sub-one

  module _ (run r : Run) (t v : Arrays) (out : List ℕ) (place : ℕ) where
    abbrev u : Underway
    u = record { run = run; arrays = t; output = out; place = place }

    -- a frame's turn, in the tail that begins at the place
    turn_is : (head : Head) (l rest part : List ℕ) → Steps (ruling_on most run t (contacts_of head.count l)) head l wet run r rest t v (drop place out) part
        → record { run = r; arrays = v; output = take place out ++ part; place = passing place (r.records - run.records) (length out) } ≡ on_frame untimed wet most head l u
    turn_is head l rest part s =
        λ i. record {
          run = s.answer i;
          arrays = s.arrays i;
          output = take place out ++ s.output i;
          place = passing place ((s.answer i).records - run.records) (length out);
        }

    -- .. as it is read in a message, and written through the tail that was lent
    module _ (n : ℕ) (l : List ℕ) (h : 0 < n) (found : Head) (c : List ℕ) (ef : found ≡ head_in l) (ec : c ≡ contacts_in l) (head : Head) (eh : head ≡ timed_head untimed found)
        (rest part : List ℕ) (s : Steps (ruling_on most run t (contacts_of head.count c)) head c wet run r rest t v (mid_of place (length out - place) out) part) where
      abbrev out' : List ℕ
      out' = put_mid place (length out - place) out part

      s' : Steps (ruling_on most run t (contacts_of head.count c)) head c wet run r rest t v (drop place out) part
      s' = rw (tail-is out place) at s

      head-is : head ≡ timed_head untimed (head_in l)
      head-is = eh ∙ ap (timed_head untimed) ef

      count-is : head.count ≡ (head_in l).count
      count-is = ap (λ (g : Head). g.count) head-is ∙ timed-count untimed (head_in l)

      behind-is : rest ≡ behind (contact taken) (head_in l).count (contacts_in l)
      behind-is = s'.passed ∙ (λ i. behind (contact taken) (count-is i) (ec i))

      pub frames-next : (place' : ℕ) → length out' ≡ length out → Passes place (r.records - run.records) (length out') place'
          → on_frames untimed wet most (n - 1) rest (record { run = r; arrays = v; output = out'; place = place' }) ≡ on_frames untimed wet most n l u
      frames-next place' lo p =
          let o : out' ≡ take place out ++ part = tail-back out part place in
          let q : place' ≡ passing place (r.records - run.records) (length out) = p.same ∙ ap (passing place (r.records - run.records)) lo in
          let w : record { run = r; arrays = v; output = out'; place = place' } ≡ on_frame untimed wet most (timed_head untimed (head_in l)) (contacts_in l) u =
          (λ i. record { run = r; arrays = v; output = o i; place = q i }) ∙ turn_is head c rest part s' ∙ (λ i. on_frame untimed wet most (head-is i) (ec i) u) in
          (λ i. on_frames untimed wet most (n - 1) (behind-is i) (w i)) ∙ sym (frames-on n l u h)
