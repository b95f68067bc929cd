-- Windows of a space: nothing of them is lost while more is read, and what is handed out is what stands there. What is read no contract can say.
use Rattle.std.specs.Prelude.{ℕ, ◌+◌, ◌-◌, ◌≤◌, ◌≡◌, Bool, true, false, cond, List, ◌++◌, leb, length, take, drop, Option, Some, None}
use Rattle.entries.specs.Entries.{front_of}
use Rattle.feed.specs.declared.Window.{Window}
use Rattle.feed.specs.declared.Next.{Next}

-- the longest entry: two bytes of length, and the 65,535 that these can say
abbrev pub entry_most : ℕ
entry_most = 65537

-- a window of a space of n bytes
pub record Inside (n : ℕ) (w : Window) : Type 0 where
  pub order : w.at ≤ w.end
  pub inside : w.end ≤ n

-- its bytes
abbrev pub bytes_in : Window → List ℕ → List ℕ
bytes_in w space = take (w.end - w.at) (drop w.at space)

-- the bytes of the window stand at the front, and are so many
pub record Moves (w : Window) (kept : ℕ) (before after : List ℕ) : Type 0 where
  pub count : kept ≡ w.end - w.at
  pub front : take kept after ≡ bytes_in w before
  pub long : length after ≡ length before

-- so many bytes are kept, and the space holds bytes up to `end`
pub record ReadsOn (kept end : ℕ) (before after : List ℕ) : Type 0 where
  pub order : kept ≤ end
  pub inside : end ≤ length after
  pub front : take kept after ≡ take kept before
  pub long : length after ≡ length before

-- ---- a window is filled

-- whether it is a window of a space of n bytes
abbrev pub is_inside : ℕ → Window → Bool
is_inside n w = cond (leb w.at w.end) (leb w.end n) false

-- the window r begins with the bytes of the window w, and then has those that were read
pub record ReadsBehind (w r : Window) (before after : List ℕ) : Type 0 where
  pub begins : r.at ≡ 0
  pub read : List ℕ
  pub kept : bytes_in r after ≡ bytes_in w before ++ read

-- of a window that is not the space's nothing is kept; where a whole entry is at its front nothing is read; otherwise it is read on
abbrev pub FillsBy : Bool → Option ℕ → Window → Window → List ℕ → List ℕ → Type 0
FillsBy false f w r before after = (r ≡ record { at = 0; end = 0 }) × (after ≡ before)
FillsBy true (Some n) w r before after = (r ≡ w) × (after ≡ before)
FillsBy true None w r before after = ReadsBehind w r before after

-- THE CONTRACT of filling the window w, after which it is r
pub record Fills (w r : Window) (before after : List ℕ) : Type 0 where
  pub by : FillsBy (is_inside (length before) w) (front_of (bytes_in w before)) w r before after
  -- what a caller needs beside it
  pub window : Inside (length after) r
  pub long : length after ≡ length before

-- ---- what is handed out

-- an entry's message and the window after it lie within n bytes, and its two length bytes stand before it
pub record Entered (n at long : ℕ) (w : Window) : Type 0 where
  pub begins : 2 ≤ at
  pub message : at + long ≤ n
  pub window : Inside n w

abbrev pub Within : ℕ → Next → Type 0
Within n (Next.Entry at long w) = Entered n at long w
Within n Next.Cut = Unit {0}
Within n Next.End = Unit {0}

-- the entry at the front of a window and the rest behind it, or a part of an entry
abbrev pub front_next : Option ℕ → Window → Next
front_next (Some n) w = Next.Entry (w.at + 2) n (record { at = w.at + 2 + n; end = w.end })
front_next None w = Next.Cut

-- what comes next in a window that was filled
abbrev pub handed_out : Window → List ℕ → Next
handed_out w space = cond (leb w.end w.at) Next.End (front_next (front_of (bytes_in w space)) w)

-- THE CONTRACT of handing out: by the window as it was filled all is decided
pub record HandsOut (w : Window) (r : Next) (before after : List ℕ) : Type 0 where
  pub filled : Window
  pub fills : Fills w filled before after
  pub next : r ≡ handed_out filled after
  -- what a caller needs, and follows
  pub within : Within (length after) r
