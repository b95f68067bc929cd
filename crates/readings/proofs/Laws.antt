-- When what is lent is enough; and the line of a message, what writing it back gives, and how long it is.
-- Assumes nothing.
use Prim.Native.Nat.{ℕ, ◌*◌, ◌≤◌, ◌<◌}
use mathlib.Core.Path.{◌≡◌, refl, sym, ap, subst, ◌∙◌}
use mathlib.Core.Bool.{Bool, true, false, cond}
use mathlib.Core.List.{List, [], ◌∷◌, ◌++◌}
use native.Mathlib.Omega.{arith}
use lib.Dec.{eqb}
use lib.ListN.{length, take, drop, length-append}
use borrow.Author.Tests.{eq-eqb, eqb-true, le-leb, lt-leb}
use Rattle.paper.specs.Refusals.{none}
use Rattle.paper.specs.declared.Milliseconds.{Milliseconds}
use Rattle.slices.specs.Writing.{Draft, bytes, refuse, given, answered, laid_of, left, Writes}
use Rattle.slices.specs.declared.Written.{Written}
use Rattle.slices.proofs.Laws.{given-few, front-left}
use Rattle.house.specs.Fields.{record_bytes}
use Rattle.messages.specs.Header.{most_bytes}
use Rattle.reading.specs.Plain as plain
use Rattle.reading.specs.declared.PlainAnswer.{PlainAnswer}
use Rattle.writing.specs.TouchDraft.{touch_draft}
use Rattle.feed.specs.Within.{entry_most}
use Rattle.receiver.specs.Limits.{most_output}
use Rattle.lines.specs.Page.{text_of, Added, decimal}
use Rattle.lines.proofs.Decimal.{digits-few}
use Rattle.readings.specs.Line.{line_most, read_text, back_draft, same_as, outcome_text, back_text}
use Rattle.readings.specs.Run.{Enough, is_enough, RunsOver}

-- ---- what is lent

module _ (s p o : List ℕ) where
  left_alone : false ≡ is_enough s p o → RunsOver s s p p o o false
  left_alone e = record { answer = e; refused = λ z. (refl, refl, refl); kept = record { space = refl; page = refl; output = refl } }

  pub no-entry : length s < entry_most → RunsOver s s p p o o false
  no-entry h = left_alone (rw (lt-leb _ _ h))

  pub no_line : entry_most ≤ length s → length p < line_most → RunsOver s s p p o o false
  no_line h k = left_alone (rw (le-leb _ _ h, lt-leb _ _ k))

  pub no-records : entry_most ≤ length s → line_most ≤ length p → length o < most_output → RunsOver s s p p o o false
  no-records h k l = left_alone (rw (le-leb _ _ h, le-leb _ _ k, lt-leb _ _ l))

  pub all-enough : Enough s p o → true ≡ is_enough s p o
  all-enough e = rw (le-leb _ _ e.entry, le-leb _ _ e.line, le-leb _ _ e.records)

-- what a caller that lends enough learns
pub not-refused : (s₀ s p₀ p o₀ o : List ℕ) (r : Bool) → RunsOver s₀ s p₀ p o₀ o r → Enough s₀ p₀ o₀ → r ≡ true
not-refused s₀ s p₀ p o₀ o r h k = h.answer ∙ sym (all-enough s₀ p₀ o₀ k)

-- ---- the same bytes

pub not-true : false ≡ true → ⊥
not-true e = let z : ◌≡◌ {A = ℕ} 0 1 = ap (λ (b : Bool). cond b 1 0) e in omega arith

same-only : (l m : List ℕ) → same_as l m ≡ true → l ≡ m
unfolding same_as
same-only [] [] e = refl
same-only [] (y ∷ m) e = absurd (not-true e)
same-only (x ∷ l) [] e = absurd (not-true e)
same-only (x ∷ l) (y ∷ m) e = go (eqb x y) refl (λ k. same-only l m k) e
  where
    go : (b : Bool) → eqb x y ≡ b → (same_as l m ≡ true → l ≡ m) → cond b (same_as l m) false ≡ true → x ∷ l ≡ y ∷ m
    go true q r k = λ i. eqb-true x y q i ∷ r k i
    go false q r k = absurd (not-true k)

same_self : (l : List ℕ) → same_as l l ≡ true
unfolding same_as
same_self [] = refl
same_self (x ∷ l) = rw (eq-eqb x x refl) (same_self l)

pub same-is : (b : Bool) (l m : List ℕ) → (b ≡ true → l ≡ m) × (l ≡ m → b ≡ true) → b ≡ same_as l m
same-is true l m h = sym (rw (h.0 refl) (same_self m))
same-is false l m h = go (same_as l m) refl
  where
    go : (b : Bool) → same_as l m ≡ b → false ≡ b
    go true e = h.1 (same-only l m e)
    go false e = refl

-- ---- what was read

fits-left : (time : Milliseconds) (x : Draft) (before : List ℕ) → record_bytes * (plain.answered time x).records ≤ length (left before x)
fits-left time (bytes s) before = omega (arith, length-append s (drop (length s) before))
fits-left time (refuse e) before = omega arith

-- the records that were written lie within the output
pub records-inside : (strictly : Bool) (l : List ℕ) (a : PlainAnswer) (before after : List ℕ) → plain.ReadsBy strictly l a before after → record_bytes * a.records ≤ length after
records-inside strictly l a before after h =
    rw (h.answer, h.output) (fits-left (plain.time_of (plain.read_by strictly l)) (given (length before) (plain.draft_of (plain.read_by strictly l))) before)

-- ---- what writing it back gives

pub written-few : (d : Draft) (w : Written) (before after : List ℕ) → Writes d w before after → w.bytes ≤ length before
written-few d w before after h = rw h.answer (given-few (length before) d)

pub back-said : (strictly same : Bool) (l : List ℕ) (a : PlainAnswer) (output records : List ℕ) (w : Written) (before after : List ℕ) (at next : ℕ) (p q : List ℕ)
    → a.refusal ≡ none → Writes (touch_draft a.time records) w before after → records ≡ take (record_bytes * a.records) output → length before ≡ most_bytes
    → same ≡ same_as l (take w.bytes after) → Added (outcome_text strictly same w.bytes) at next p q → Added (back_text strictly l a output) at next p q
unfolding back_text
back-said strictly same l a output records w before after at next p q z h r n s t =
    let d : given (length before) (touch_draft a.time records) ≡ back_draft a output = rw (r, n) in
    let e : w ≡ answered (back_draft a output) = h.answer ∙ ap answered d in
    let f : take w.bytes after ≡ laid_of (back_draft a output) = rw (e, h.output, d) (front-left (back_draft a output) before) in
    let g : same ≡ same_as l (laid_of (back_draft a output)) = s ∙ ap (same_as l) f in
    rw (eq-eqb _ _ z) (subst (λ (x : List (List ℕ)). Added x at next p q) (λ i. outcome_text strictly (g i) (e i).bytes) t)

-- ---- how long it is

outcome-short : (strictly same : Bool) (n : ℕ) → length (text_of (outcome_text strictly same n)) ≤ 29
outcome-short strictly true n = omega arith
outcome-short true false n = omega arith
outcome-short false false n = simp length-append (omega (arith, digits-few 19 n))

back-short : (strictly : Bool) (l : List ℕ) (a : PlainAnswer) (output : List ℕ) → length (text_of (back_text strictly l a output)) ≤ 29
unfolding back_text
back-short strictly l a output = go (eqb a.refusal none)
  where
    go : (b : Bool) → let d : Draft = back_draft a output in length (text_of (cond b (outcome_text strictly (same_as l (laid_of d)) (answered d).bytes) [])) ≤ 29
    go true = let d : Draft = back_draft a output in outcome-short strictly (same_as l (laid_of d)) (answered d).bytes
    go false = omega arith

pub line-short : (strictly : Bool) (l : List ℕ) (a : PlainAnswer) (output : List ℕ) → length (text_of (read_text a ++ back_text strictly l a output)) ≤ 92
line-short strictly l a output =
    let few : (n : ℕ) → length (decimal n) ≤ 20 = digits-few 19 in
    simp length-append (omega (arith, few a.refusal, few a.time.0, few a.records, back-short strictly l a output))
