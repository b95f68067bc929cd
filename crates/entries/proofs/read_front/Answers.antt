-- `entries::read_front` meets its contract.
-- Assumes nothing.
use Prim.Native.Nat.{◌+◌, ◌≤◌, ◌<◌}
use mathlib.Core.Path.{◌≡◌}
use borrow.Author.Tests.{lt-leb, le-leb}
use native.Mathlib.Omega.{arith}
use lib.ListN.{length}
use Rattle.entries.specs.Entries.{length_at, front_of}
use Rattle.entries.proofs.read_front.Goals as goal

pub returns-then-file-lt2 : goal.returns-then-file-lt2
unfolding front_of
returns-then-file-lt2 c = rw (lt-leb _ _ c.if-file-lt2.true)

pub returns-then-file-n : goal.returns-then-file-n
unfolding front_of
returns-then-file-n c =
    let l = c.args.file.now in
    let a : 2 ≤ length l = c.if-file-lt2.false in
    let e : c.length_of-n.result ≡ length_at l = c.length_of-n.ensures in
    let b : length l < 2 + length_at l = omega arith in
    rw (le-leb _ _ a, lt-leb _ _ b)

pub returns : goal.returns
unfolding front_of
returns c =
    let l = c.args.file.now in
    let a : 2 ≤ length l = c.if-file-lt2.false in
    let e : c.length_of-n.result ≡ length_at l = c.length_of-n.ensures in
    let b : 2 + length_at l ≤ length l = omega arith in
    rw (le-leb _ _ a, le-leb _ _ b, e)
