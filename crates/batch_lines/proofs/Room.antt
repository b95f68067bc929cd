-- How long the line of an entry is: a page with that much room has all of it.
-- Assumes nothing.
use Prim.Native.Nat.{ℕ, ◌+◌, ◌*◌, ◌≤◌}
use mathlib.Core.Path.{◌≡◌, ap, ◌∙◌}
use mathlib.Core.Bool.{Bool, true, false, cond}
use mathlib.Core.List.{List, [], ◌++◌}
use native.Mathlib.Omega.{arith}
use lib.Dec.{leb}
use lib.ListN.{length, get_or, length-append}
use Rattle.slices.proofs.Tails.{laid_at}
use Rattle.house.specs.Fields.{record_bytes}
use Rattle.intake.specs.Feeding.{answer_numbers}
use Rattle.lines.specs.Page.{Placed, text_of, Added, decimal, front_text}
use Rattle.lines.proofs.Adding.{all-with-room}
use Rattle.lines.proofs.Decimal.{digits-few}
use Rattle.lines.proofs.Hexes.{front-short}
use Rattle.batch_lines.specs.Lines.{name_text, numbers_text, answer_text}

answer-short : (number k : ℕ) (a output : List ℕ) → length (text_of (answer_text number k a output)) ≤ 169 + 2 * (record_bytes * get_or a 5 0)
unfolding answer_text
answer-short number k a output = go (leb answer_numbers (length a))
  where
    go : (b : Bool) → length (text_of (cond b (name_text number k ++ (numbers_text a ++ front_text (record_bytes * get_or a 5 0) output)) [])) ≤ 169 + 2 * (record_bytes * get_or a 5 0)
    go false = omega arith
    go true =
        let d : (n : ℕ) → length (decimal n) ≤ 20 = digits-few 19 in
        simp length-append
        (omega (arith, d number, d k, d (get_or a 0 0), d (get_or a 1 0), d (get_or a 2 0), d (get_or a 3 0), d (get_or a 4 0), d (get_or a 5 0), front-short (record_bytes * get_or a 5 0) output))

-- a page with 169 bytes and two for each byte of the records has room for the line: it stands there whole
pub answer-has-room : (number k : ℕ) (a output : List ℕ) (at next : ℕ) (before after : List ℕ) → Added (answer_text number k a output) at next before after
    → at + 169 + 2 * (record_bytes * get_or a 5 0) ≤ length before
    → let text : List ℕ = text_of (answer_text number k a output) in (next ≡ at + length text) × (after ≡ laid_at before at text)
answer-has-room number k a output at next before after h room =
    let e = h.all ∙ all-with-room (answer_text number k a output) at before (omega (arith, answer-short number k a output)) in
    (ap (λ (p : Placed). p.at) e, ap (λ (p : Placed). p.page) e)
