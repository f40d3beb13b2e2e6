-- The largest offset, of 64 bits.
use Rattle.std.specs.Prelude.{ℕ}

abbrev pub largest : ℕ
largest = 18446744073709551615
