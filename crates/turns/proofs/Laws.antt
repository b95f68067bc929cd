-- Turns: that they meet their contract, what a caller needs of one, and that lines stand whole where the longest has room.
-- Assumes nothing.
use Prim.Native.Nat.{ℕ, ◌+◌, ◌≤◌}
use mathlib.Core.Path.{◌≡◌, refl, ap, ◌∙◌}
use mathlib.Core.List.{List, [], ◌∷◌}
use native.Mathlib.Omega.{arith}
use lib.ListN.{length, length-append}
use Rattle.feed.specs.Within.{HandsOut}
use Rattle.feed.specs.declared.Window.{Window}
use Rattle.feed.specs.declared.Next.{Next}
use Rattle.lines.specs.Page.{Placed, add_all, text_of, Added, turned_to, decimal, line_end, cut_word}
use Rattle.lines.proofs.Adding.{added-to, all-with-room}
use Rattle.lines.proofs.Decimal.{digits-few}
use Rattle.lines.proofs.Printing.{turned-has-room, added-prints, prints-then}
use Rattle.turns.specs.declared.Stand.{Stand}
use Rattle.turns.specs.declared.Turn.{Turn}
use Rattle.turns.specs.Turns.{numbered, turn_of, page_of, Turns, EndsLine, TellsLine}

-- ---- the three turns

module _ (b : Stand) (most : ℕ) (s₀ s p₀ p : List ℕ) (place at : ℕ) (t : place ≡ turned_to most b.at p₀) where
  added-there : (ss : List (List ℕ)) → Added ss place at p₀ p → record { at = at; page = p } ≡ add_all ss (record { at = turned_to most b.at p₀; page = p₀ })
  added-there ss a = a.all ∙ ap (λ (k : ℕ). add_all ss (record { at = k; page = p₀ })) t

  pub turned-entry : (from n : ℕ) (rest : Window) → HandsOut b.window (Next.Entry from n rest) s₀ s → Added (decimal b.number ∷ []) place at p₀ p
      → Turns b most s₀ s p₀ p (Turn.Entry from (from + n) (record { window = rest; at = at; number = b.number }))
  unfolding add_all
  turned-entry from n rest h a =
      let e = added-there (decimal b.number ∷ []) a in
      record {
        next = Next.Entry from n rest;
        read = h;
        turn = λ i. Turn.Entry from (from + n) (record { window = rest; at = (e i).at; number = b.number });
        page = ap (λ (x : Placed). x.page) e;
      }

  pub turned-cut : HandsOut b.window Next.Cut s₀ s → Added (decimal b.number ∷ cut_word ∷ []) place at p₀ p → Turns b most s₀ s p₀ p Turn.Over
  turned-cut h a = record { next = Next.Cut; read = h; turn = refl; page = ap (λ (x : Placed). x.page) (added-there (decimal b.number ∷ cut_word ∷ []) a) }

pub turned-end : (b : Stand) (most : ℕ) (s₀ s p : List ℕ) → HandsOut b.window Next.End s₀ s → Turns b most s₀ s p p Turn.Over
turned-end b most s₀ s p h = record { next = Next.End; read = h; turn = refl; page = refl }

-- ---- what a caller needs

-- an entry within the space, and a line that begins with its number
pub record Begins (b : Stand) (most : ℕ) (s p₀ p : List ℕ) (from to : ℕ) (r : Stand) : Type 0 where
  pub order : from ≤ to
  pub inside : to ≤ length s
  pub number : r.number ≡ b.number
  pub line : Added (decimal b.number ∷ []) (turned_to most b.at p₀) r.at p₀ p

pub turn-begins : (b : Stand) (most : ℕ) (s₀ s p₀ p : List ℕ) (from to : ℕ) (r : Stand) → Turns b most s₀ s p₀ p (Turn.Entry from to r) → Begins b most s p₀ p from to r
turn-begins b most s₀ s p₀ p from to r t = go t.next t.read t.turn t.page
  where
    go : (x : Next) → HandsOut b.window x s₀ s → Turn.Entry from to r ≡ turn_of b most x p₀ → p ≡ page_of b most x p₀ → Begins b most s p₀ p from to r
    go (Next.Entry f n w) h e o =
        let x : from ≡ f = cc in
        let y : to ≡ f + n = cc in
        let z : r ≡ record { window = w; at = (numbered b most p₀).at; number = b.number } = cc in
        let m = h.within.message in
        record {
          order = omega (arith, x, y);
          inside = omega (arith, x, y, m);
          number = ap (λ (k : Stand). k.number) z;
          line = rw (z, o) (added-to (decimal b.number) (turned_to most b.at p₀) p₀);
        }
    go Next.Cut h e o = absurd (let z : ◌≡◌ {A = ℕ} 0 1 = cc in omega arith)
    go Next.End h e o = absurd (let z : ◌≡◌ {A = ℕ} 0 1 = cc in omega arith)

-- ---- lines stand whole

-- where the page has room for the longest line, there is room behind the number for all but the 20 digits that a number has at most
pub line-has-room : (b : Stand) (most : ℕ) (s p₀ p : List ℕ) (from to : ℕ) (r : Stand) → Begins b most s p₀ p from to r → 20 ≤ most → most ≤ length p₀ → r.at + most ≤ length p + 20
line-has-room b most s p₀ p from to r h k l =
    let d = digits-few 19 b.number in
    let t = turned-has-room most b.at p₀ l in
    let n = length-append (decimal b.number) [] in
    let x = h.line.all ∙ all-with-room (decimal b.number ∷ []) (turned_to most b.at p₀) p₀ (omega (arith, d, t, n)) in
    omega (arith, ap (λ (z : Placed). z.at) x, d, t, n, h.line.long)

pub line-told : (ss : List (List ℕ)) (b : Stand) (place : ℕ) (before mid after : List ℕ) (r : Stand) → Added ss b.at place before mid → b.at + (length (text_of ss) + 1) ≤ length before
    → EndsLine b place mid after r → TellsLine ss b before after r
line-told ss b place before mid after r a h e =
    let x = added-prints ss b.at place before mid (omega (arith, h)) a in
    let n = a.all ∙ all-with-room ss b.at before (omega (arith, h)) in
    let y = added-prints (line_end ∷ []) place _ mid _ (omega (arith, h, a.long, ap (λ (z : Placed). z.at) n)) (added-to line_end place mid) in
    record { line = rw (e.stand, e.page) (prints-then x y); window = ap (λ (z : Stand). z.window) e.stand; number = ap (λ (z : Stand). z.number) e.stand }
