-- What is handed out of a window lies within it.
-- Assumes nothing.
use Rattle.std.specs.Prelude.{Option, Some, None}
use Prim.Native.Nat.{ℕ, ◌+◌, ◌-◌, ◌≤◌, ◌<◌}
use mathlib.Core.Path.{◌≡◌, refl}
use mathlib.Core.List.{List}
use native.Mathlib.Omega.{arith}
use borrow.Author.Tests.{le-leb, lt-leb}
use lib.ListN.{length, drop, length-drop}
use lib.Seq.{length-take-le}
use Rattle.entries.specs.Entries.{front_of}
use Rattle.entries.proofs.Laws.{front-inside}
use Rattle.feed.specs.declared.Window.{Window}
use Rattle.feed.specs.declared.Next.{Next}
use Rattle.feed.specs.Within.{Inside, bytes_in, Within, front_next, handed_out}

-- a window has as many bytes as there are between its ends
pub window-long : (w : Window) (s : List ℕ) → Inside (length s) w → length (bytes_in w s) ≡ w.end - w.at
window-long w s h = length-take-le (w.end - w.at) (drop w.at s) (omega (arith, h.inside, length-drop w.at s))

-- an entry at the front of a window ends within it
pub entry-ends : (w : Window) (s : List ℕ) (n : ℕ) → Inside (length s) w → front_of (bytes_in w s) ≡ Some n → w.at + (2 + n) ≤ w.end
entry-ends w s n h e = omega (arith, front-inside (bytes_in w s) n e, window-long w s h, h.order)

pub front-within : (w : Window) (s : List ℕ) → Inside (length s) w → Within (length s) (front_next (front_of (bytes_in w s)) w)
front-within w s h = go (front_of (bytes_in w s)) refl
  where
    go : (f : Option ℕ) → front_of (bytes_in w s) ≡ f → Within (length s) (front_next f w)
    go (Some n) e =
        let k = entry-ends w s n h e in
        record { begins = omega arith; message = omega (arith, h.inside); window = record { order = omega arith; inside = h.inside } }
    go None e = record {}

-- an empty window has nothing more to hand out, and any other what is at its front
pub handed-end : (w : Window) (s : List ℕ) → w.end ≤ w.at → Next.End ≡ handed_out w s
handed-end w s h = rw (le-leb _ _ h)

pub handed-front : (w : Window) (s : List ℕ) → w.at < w.end → front_next (front_of (bytes_in w s)) w ≡ handed_out w s
handed-front w s h = rw (lt-leb _ _ h)
