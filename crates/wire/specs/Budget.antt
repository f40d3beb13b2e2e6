-- How far an offset may go where arithmetic on it must not overflow: 2 to the 40.
use Rattle.std.specs.Prelude.{ℕ}

abbrev pub farthest : ℕ
farthest = 1099511627776

-- A slice that is read is shorter, since its length field has 32 bits: a budget for offsets, and no limit.
abbrev pub longest : ℕ
longest = 8589934592
