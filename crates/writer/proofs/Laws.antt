-- The line of an entry: what the writer wrote is read off its output, and how long the line is.
-- Assumes nothing.
use Prim.Native.Nat.{ℕ, ◌≤◌}
use mathlib.Core.Path.{◌≡◌, refl, sym, ap}
use mathlib.Core.Bool.{Bool, true, false, cond}
use mathlib.Core.List.{List, [], ◌∷◌}
use native.Mathlib.Omega.{arith}
use lib.Dec.{leb}
use lib.ListN.{length, drop, length-append}
use lib.Seq.{take_at, take_all}
use borrow.Author.Tests.{le-leb}
use Rattle.paper.specs.Refusals.{none}
use Rattle.paper.specs.declared.Milliseconds.{Milliseconds}
use Rattle.slices.specs.Writing.{laid, Draft, bytes, refuse, given, answered, laid_of, left, Writes}
use Rattle.slices.specs.declared.Written.{Written}
use Rattle.slices.proofs.Laws.{given-few}
use Rattle.messages.specs.Header.{most_bytes}
use Rattle.writing.specs.TouchDraft.{touch_draft}
use Rattle.lines.specs.Page.{text_of, Added, decimal, space, front_text, written_text}
use Rattle.lines.proofs.Hexes.{written-short}
use Rattle.writer.specs.Line.{entry_time, draft_in, draft_text, short_word, said_of}

-- the first bytes of an output over which they were laid
front-laid : (d s : List ℕ) → front_text (length s) (laid d s) ≡ front_text (length s) s
unfolding front_text
front-laid d s =
    let n = length-append s (drop (length s) d) in
    let h : length s ≤ length (laid d s) = omega arith in
    let k : length s ≤ length s = omega arith in
    rw (le-leb _ _ h, le-leb _ _ k, take_at s (drop (length s) d) (length s) refl, take_all (length s) s k)

left_is : (x : Draft) (before : List ℕ) → written_text (answered x) (left before x) ≡ draft_text x
unfolding front_text
left_is (bytes s) before = ap (λ (t : List (List ℕ)). space ∷ decimal none ∷ space ∷ decimal (length s) ∷ t) (front-laid before s)
left_is (refuse e) before = refl

pub line-written : (l records : List ℕ) (time : Milliseconds) (w : Written) (before after : List ℕ) (at next : ℕ) (p q : List ℕ) → Writes (touch_draft time records) w before after
    → time ≡ entry_time l → records ≡ drop 4 l → length before ≡ most_bytes → 4 ≤ length l → Added (written_text w after) at next p q → Added (said_of l) at next p q
unfolding said_of
line-written l records time w before after at next p q h t r n k a =
    let d : given (length before) (touch_draft time records) ≡ draft_in l = rw (t, r, n) in
    let e : written_text w after ≡ draft_text (draft_in l) = rw (h.answer, h.output, d) (left_is (draft_in l) before) in
    rw (le-leb _ _ k, sym e) a

-- ---- how long it is

pub line-short : (l : List ℕ) → length (text_of (said_of l)) ≤ 8235
unfolding said_of
line-short l = go (leb 4 (length l))
  where
    go : (b : Bool) → length (text_of (cond b (draft_text (draft_in l)) (short_word ∷ []))) ≤ 8235
    go true = omega (arith, written-short (answered (draft_in l)) (laid_of (draft_in l)), given-few most_bytes (touch_draft (entry_time l) (drop 4 l)))
    go false = omega arith
