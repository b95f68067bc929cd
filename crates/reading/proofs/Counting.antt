-- The pass that counts: the records counted so far, and those of the frames to come, are those of the whole.
-- Assumes nothing.
use Prim.Native.Nat.{ℕ, suc, ◌+◌, ◌≤◌, ◌<◌}
use mathlib.Core.Path.{◌≡◌, sym, ap, ◌∙◌}
use mathlib.Core.List.{List, []}
use native.Mathlib.Omega.{arith}
use lib.ListN.{length}
use Rattle.std.specs.Prelude.{Some, None}
use Rattle.std.specs.Borrow.{Bor}
use Rattle.formats.specs.Format.{got}
use Rattle.formats.proofs.Steps.{series-end}
use Rattle.house.specs.declared.Head.{Head}
use Rattle.house.specs.declared.Contact.{Contact}
use Rattle.framing.specs.Frame.{Frame}
use Rattle.touch.proofs.Passes.{frame_by}
use Rattle.frame_records.specs.Frames.{record_count, FindsFrame}
use Rattle.frame_records.proofs.Laws.{records-none, records-cons}
use Rattle.frame_records.proofs.Finding.{turn, no-turn}
use Rattle.reading.specs.Passes.{frames}

-- of the whole, with t behind it, k frames are to come at the front of `left`
pub record Counting (whole : List (Frame Contact)) (t : List ℕ) (records : ℕ) (left : List ℕ) (k : ℕ) : Type 0 where
  pub more : List (Frame Contact)
  pub read : (frames k).read left ≡ got more t
  pub same : records + record_count more ≡ record_count whole

module _ (whole : List (Frame Contact)) (t : List ℕ) where
  pub counting-first : (n k : ℕ) (l : List ℕ) → n ≡ k → (frames n).read l ≡ got whole t → Counting whole t 0 l k
  counting-first n k l m e = record { more = whole; read = rw m at e; same = omega arith }

  module _ (records : ℕ) (left : List ℕ) (k : ℕ) (h : Counting whole t records left k) where
    pub counting-next : (head : Head) (s b : Bor (List ℕ)) (j : ℕ) → k ≡ j + 1 → FindsFrame left (Some (head, s, b)) → Counting whole t (records + (head.count + 1)) b.now j
    counting-next head s b j i here =
        let x = turn left head s b here t k j h.more i h.read in
        let n : head.count ≡ length x.frame.contacts = ap (λ (g : Head). g.count) x.head in
        let e : record_count h.more ≡ suc (length x.frame.contacts) + record_count x.others = ap record_count x.all ∙ records-cons x.frame x.others in
        record { more = x.others; read = x.after; same = omega (arith, h.same) }

    -- there is a frame for each that is to come
    pub counting-none : 0 < k → FindsFrame left None → records ≡ record_count whole
    counting-none i here = no-turn left here.0 t k h.more i here.1 h.read

    pub counting-done : k ≤ 0 → records ≡ record_count whole
    counting-done i =
        let p : got [] left ≡ got h.more t = sym (series-end frame_by _ k left i) ∙ h.read in
        let e : [] ≡ h.more = cc in
        let z : record_count h.more ≡ 0 = sym (ap record_count e) ∙ records-none in
        omega (arith, h.same)
