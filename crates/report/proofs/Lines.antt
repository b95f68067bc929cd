-- Lines that are printed one after the other, and how long they are.
-- Assumes nothing.
use Prim.Native.Nat.{ℕ, suc, ◌+◌, ◌-◌, ◌*◌, ◌≤◌, ◌<◌}
use mathlib.Core.Path.{◌≡◌, refl, sym, ap, ◌∙◌}
use mathlib.Core.Bool.{Bool, true, false, cond}
use mathlib.Core.List.{List, [], ◌∷◌, ◌++◌, append-nil, append_assoc}
use native.Mathlib.Omega.{arith}
use lib.Dec.{leb}
use lib.ListN.{length, take, drop, get_or, length-append}
use lib.Seq.{drop-drop}
use borrow.Author.Tests.{le-leb, leb-true, lt-ltb, le-ltb}
use Rattle.slices.proofs.Tails.{tail-is}
use Rattle.feed.specs.Within.{entry_most}
use Rattle.feed.specs.declared.Window.{Window}
use Rattle.intake.specs.Feeding.{answer_numbers}
use Rattle.lines.specs.Page.{text_of, Added, turned_to, Prints, decimal, cut_word}
use Rattle.lines.proofs.Adding.{text-append}
use Rattle.lines.proofs.Decimal.{digits-few}
use Rattle.lines.proofs.Printing.{prints-none, prints-then, turned-adds}
use Rattle.receiver.specs.Limits.{most_output}
use Rattle.report.specs.Report.{line_of, lines_of, last_of, line_most, suffices, Enough, PrintsFile}

-- ---- one line

pub line-printed : (number : ℕ) (a : List ℕ) (place at next : ℕ) (before after : List ℕ) → line_most ≤ length before → place ≤ length before
    → at ≡ turned_to line_most place before → Added (line_of number a) at next before after → Prints (text_of (line_of number a)) place next before after
line-printed number a place at next before after h i t =
    let d : (n : ℕ) → length (decimal n) ≤ 20 = digits-few 19 in
    let k : length (text_of (line_of number a)) ≤ line_most = simp length-append (omega (arith, d number, d (get_or a 0 0), d (get_or a 1 0), d (get_or a 2 0), d (get_or a 3 0), d (get_or a 5 0))) in
    turned-adds (line_of number a) line_most place at next before after t i h k

-- ---- one after the other

-- what was printed and what is still to be are the whole
pub record Underway (first entries : ℕ) (answers page₀ page : List ℕ) (place at from number left : ℕ) : Type 0 where
  pub list : from + answer_numbers * left ≤ length answers
  pub count : number + left ≡ first + entries
  pub done : List ℕ
  pub printed : Prints done place at page₀ page
  pub rest : done ++ text_of (lines_of number left (drop from answers)) ≡ text_of (lines_of first entries answers)

pub underway-first : (first entries : ℕ) (answers page : List ℕ) (place : ℕ) → answer_numbers * entries ≤ length answers → place ≤ length page
    → Underway first entries answers page page place place 0 first entries
underway-first first entries answers page place h i =
    record { list = omega arith; count = refl; done = []; printed = prints-none place page i; rest = refl }

pub underway-next : (first entries : ℕ) (answers page₀ page : List ℕ) (place at from number left : ℕ) → Underway first entries answers page₀ page place at from number left → 0 < left
    → (next : ℕ) (after : List ℕ) → Prints (text_of (line_of number (take (length answers - from) (drop from answers)))) at next page after
    → Underway first entries answers page₀ after place next (from + answer_numbers) (number + 1) (left - 1)
unfolding lines_of
underway-next first entries answers page₀ page place at from number left u h next after a =
    let t : take (length answers - from) (drop from answers) ≡ drop from answers = tail-is answers from in
    let l : left ≡ suc (left - 1) = omega arith in
    let line = line_of number (drop from answers) in
    let more = lines_of (number + 1) (left - 1) (drop (from + answer_numbers) answers) in
    let one : lines_of number left (drop from answers) ≡ line ++ more =
    ap (λ (n : ℕ). lines_of number n (drop from answers)) l ∙ ap (λ (r : List ℕ). line ++ lines_of (number + 1) (left - 1) r) (drop-drop answer_numbers from answers) in
    record {
      list = omega (arith, u.list);
      count = omega (arith, u.count);
      done = u.done ++ text_of line;
      printed = prints-then u.printed (rw (sym t) a);
      rest =
          append_assoc u.done (text_of line) (text_of more)
          ∙ (ap (λ (s : List ℕ). u.done ++ s) (sym (text-append line more) ∙ sym (ap text_of one)) ∙ u.rest);
    }

pub underway-last : (first entries : ℕ) (answers page₀ page : List ℕ) (place at from number left : ℕ) → Underway first entries answers page₀ page place at from number left → left ≤ 0
    → Prints (text_of (lines_of first entries answers)) place at page₀ page
unfolding lines_of
underway-last first entries answers page₀ page place at from number left u h =
    let z : left ≡ 0 = omega arith in
    let none : lines_of number left (drop from answers) ≡ [] = ap (λ (n : ℕ). lines_of number n (drop from answers)) z in
    let e : u.done ≡ text_of (lines_of first entries answers) = sym (append-nil u.done) ∙ (ap (λ (ss : List (List ℕ)). u.done ++ text_of ss) (sym none) ∙ u.rest) in
    rw (sym e) u.printed

-- ---- the last line

pub cut-printed : (w : Window) (number place at next : ℕ) (before after : List ℕ) → w.at < w.end → line_most ≤ length before → place ≤ length before
    → at ≡ turned_to line_most place before → Added (decimal number ∷ cut_word ∷ []) at next before after → Prints (text_of (last_of w number)) place next before after
cut-printed w number place at next before after c h i e a =
    let k : length (text_of (decimal number ∷ cut_word ∷ [])) ≤ line_most = simp length-append (omega (arith, digits-few 19 number)) in
    rw (lt-ltb _ _ c) (turned-adds (decimal number ∷ cut_word ∷ []) line_most place at next before after e i h k a)

pub none-printed : (w : Window) (number place : ℕ) (page : List ℕ) → w.end ≤ w.at → place ≤ length page → Prints (text_of (last_of w number)) place place page page
none-printed w number place page c i = rw (le-ltb _ _ c) (prints-none place page i)

-- ---- what is lent

pub page-suffices : (space answers output page : ℕ) → suffices space answers output page ≡ true → line_most ≤ page
page-suffices space answers output page = go (leb entry_most space) (leb answer_numbers answers) (leb most_output output)
  where
    go : (a b c : Bool) → cond a (cond b (cond c (leb line_most page) false) false) false ≡ true → line_most ≤ page
    go true true true e = leb-true _ _ e
    go true true false e = absurd (let z : ◌≡◌ {A = ℕ} 0 1 = cc in omega arith)
    go true false c e = absurd (let z : ◌≡◌ {A = ℕ} 0 1 = cc in omega arith)
    go false b c e = absurd (let z : ◌≡◌ {A = ℕ} 0 1 = cc in omega arith)

-- where all suffices, the file is printed
pub printed-where-enough : {r : ℕ} {s₀ s a₀ a o₀ o p₀ p : List ℕ} → PrintsFile r s₀ s a₀ a o₀ o p₀ p
    → Enough s₀ a₀ o₀ p₀ → 1 ≤ r
printed-where-enough {r} {s₀} {s} {a₀} {a} {o₀} {o} {p₀} {p} h k =
    let e : suffices (length s₀) (length a₀) (length o₀) (length p₀) ≡ true = rw (le-leb _ _ k.entry, le-leb _ _ k.answer, le-leb _ _ k.records, le-leb _ _ k.line) in
    rw e at h.by

-- what is as long as something that suffices does so too
pub enough-kept : {s₀ s a₀ a o₀ o p₀ p : List ℕ} → (length s ≡ length s₀) × (length a ≡ length a₀) × (length o ≡ length o₀) × (length p ≡ length p₀) → Enough s₀ a₀ o₀ p₀ → Enough s a o p
enough-kept e h = record { entry = omega (arith, e.0, h.entry); answer = omega (arith, e.1, h.answer); records = omega (arith, e.2, h.records); line = omega (arith, e.3, h.line) }
