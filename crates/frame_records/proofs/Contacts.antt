-- The pass over a frame's contacts that lays a record of each: each is read where the one before it ended, and laid where its record ended.
-- Assumes nothing.
use Prim.Native.Nat.{ℕ, ◌+◌, ◌-◌, ◌*◌, ◌≤◌, ◌<◌}
use mathlib.Core.Path.{◌≡◌, sym, ap, ◌∙◌}
use mathlib.Core.List.{List, [], ◌++◌}
use native.Mathlib.Omega.{arith}
use lib.ListN.{length, length-append, length-drop}
use borrow.Rule.Slice.PartMut.{mid_of, put_mid}
use Rattle.slices.specs.Writing.{laid, bytes, Writes}
use Rattle.slices.specs.declared.Written.{Written}
use Rattle.slices.proofs.Laws.{writes-done}
use Rattle.slices.proofs.Tails.{laid_at, laid_none, tail-is, wrote}
use Rattle.formats.specs.Format.{got, bad}
use Rattle.fields.specs.Integers.{taken}
use Rattle.house.specs.Layout.{contact_bytes, touched}
use Rattle.house.specs.declared.Contact.{Contact}
use Rattle.house.proofs.Round.{length-contact}
use Rattle.framing.proofs.After.{read-end, read-bad}
use Rattle.touch.specs.Touch.{contact, touch_record}
use Rattle.frame_records.specs.Frames.{records_read, WritesContacts}
use Rattle.frame_records.proofs.Laws.{records-most, records-on}

-- of n contacts of l, laid over d, k are to come, at the front of `left`, and are laid from `pos` on
pub record Laying (n : ℕ) (l d out : List ℕ) (pos : ℕ) (left : List ℕ) (k : ℕ) : Type 0 where
  pub room : pos + 21 * k ≤ length out
  pub long : length out ≡ length d
  pub count : pos + length (records_read k [] left) ≡ length (records_read n [] l)
  pub same : laid_at out pos (records_read k [] left) ≡ laid d (records_read n [] l)

module _ (n : ℕ) (l d : List ℕ) where
  module _ (out : List ℕ) (pos : ℕ) (left : List ℕ) (k : ℕ) (h : Laying n l d out pos left k) where
    -- a contact was read, and its record written through the tail that was lent, which came back as o
    pub laying-next : (c : Contact) (t : List ℕ) (w : Written) (o : List ℕ) (j : ℕ) → k ≡ j + 1 → (contact taken).read left ≡ got c t
        → Writes (bytes (contact_bytes touched c)) w (mid_of pos (length out - pos) out) o → Laying n l d (put_mid pos (length out - pos) out o) (pos + 21) t j
    laying-next c t w o j m one written =
        let e = length-contact touched c in
        let fewer : k - 1 ≡ j = omega arith in
        let q : records_read k [] left ≡ touch_record c ++ records_read j [] t = records-on k left c t (omega arith) one ∙ ap (λ (i : ℕ). touch_record c ++ records_read i [] t) fewer in
        let r : length (records_read k [] left) ≡ 21 + length (records_read j [] t) = ap length q ∙ length-append (touch_record c) _ ∙ ap (λ i. i + length (records_read j [] t)) e in
        let v = writes-done _ _ _ _ written (rw (e, tail-is out pos, length-drop) (omega (arith, h.room))) in
        let u = wrote out pos 21 o (touch_record c) (records_read j [] t) v.output (sym e) (rw (← q) (omega (arith, h.room, records-most k [] left))) in
        record {
          room = omega (arith, h.room, u.long);
          long = u.long ∙ h.long;
          count = omega (arith, h.count, r);
          same = u.same ∙ rw q at h.same;
        }

    -- none is to come
    ended : records_read k [] left ≡ [] → WritesContacts n l pos d out
    ended e = record { count = omega (arith, h.count, ap length e); output = sym (laid_none out pos) ∙ rw e at h.same }

    -- where one cannot be read, or all are
    pub laying-bad : (e : ℕ) → 0 < k → (contact taken).read left ≡ bad e → WritesContacts n l pos d out
    laying-bad e i b = ended (read-bad (λ r c. r ++ touch_record c) (contact taken) [] k left e i b)

    pub laying-done : k ≤ 0 → WritesContacts n l pos d out
    laying-done i = ended (read-end (λ r c. r ++ touch_record c) (contact taken) [] k left i)
