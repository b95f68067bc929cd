use Rattle.std.proofs.Common.{take}
use Rattle.lines.specs.Page.{Added, hexes}
use Rattle.lines.proofs.add_hexes.Given as goal

-- the bytes before the place are added
abbrev pub invariant-loop-byte : goal.invariant-loop-byte
invariant-loop-byte l = Added (hexes (take l.byte-index l.bytes)) l.place l.at l.initial.page l.page
