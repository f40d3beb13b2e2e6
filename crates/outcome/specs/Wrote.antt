-- What a function that writes text to a lent buffer promises.
use Rattle.std.specs.Prelude.{◌≡◌, List, ℕ, ◌≤◌, length, take, drop}

-- From the bytes a to the bytes b, something was written from `at` up to r, which is at most `most`: the first r bytes are then `text`, the others as they
-- were.
pub record Wrote (a b : List ℕ) (at r most : ℕ) (text : List ℕ) : Type 0 where
  pub is : take r b ≡ text
  pub rest : drop r b ≡ drop r a
  pub onward : at ≤ r
  pub near : r ≤ most
  pub whole : length b ≡ length a
