-- Document 01, "A bench file": "48 KiB of output for each entry (no message writes more)".
use Rattle.std.specs.Prelude.{ℕ}

abbrev pub most_output : ℕ
most_output = 49152
