-- Two outcomes that the contracts allow are equal; of what is read, where as much was read.
-- Assumes nothing.
use Rattle.std.specs.Prelude.{Option, Some, None}
use Prim.Native.Nat.{ℕ}
use mathlib.Core.Path.{◌≡◌, sym, ap, ◌∙◌}
use mathlib.Core.Bool.{Bool, true, false}
use mathlib.Core.List.{List}
use lib.ListN.{length}
use Rattle.entries.specs.Entries.{front_of}
use Rattle.feed.specs.declared.Window.{Window}
use Rattle.feed.specs.declared.Next.{Next}
use Rattle.feed.specs.Within.{is_inside, bytes_in, FillsBy, Fills, handed_out, HandsOut}

pub opened-unique : (r q : Window) → r ≡ record { at = 0; end = 0 } → q ≡ record { at = 0; end = 0 } → r ≡ q
opened-unique r q x y = x ∙ sym y

-- the window after reading hangs on nothing but where the bytes end that were read
pub fill-unique : (w r q : Window) (before after : List ℕ) → Fills w r before after → Fills w q before after → r.end ≡ q.end → r ≡ q
fill-unique w r q before after x y e = go (is_inside (length before) w) (front_of (bytes_in w before)) x.by y.by
  where
    go : (b : Bool) (f : Option ℕ) → FillsBy b f w r before after → FillsBy b f w q before after → r ≡ q
    go false f x y = x.0 ∙ sym y.0
    go true (Some n) x y = x.0 ∙ sym y.0
    go true None x y = λ i. record { at = (x.begins ∙ sym y.begins) i; end = e i }

pub next-entry-unique : (w : Window) (r q : Next) (before after : List ℕ) (x : HandsOut w r before after) (y : HandsOut w q before after) → x.filled.end ≡ y.filled.end → r ≡ q
next-entry-unique w r q before after x y e =
    x.next ∙ (ap (λ (f : Window). handed_out f after) (fill-unique w x.filled y.filled before after x.fills y.fills e) ∙ sym y.next)
