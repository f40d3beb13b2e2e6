-- Into which of 251 buckets a label falls.
use Rattle.std.specs.Prelude.{List, ℕ, ◌+◌, ◌*◌, ◌%◌, fold}
use Rattle.model.specs.Values.{lowered}

abbrev pub buckets : ℕ
buckets = 251

-- one byte more, in 16 bits
abbrev pub hash_step : ℕ → ℕ → ℕ
hash_step h b = (33 * h + b) % 65536

-- of its small letters, so that labels that are alike fall into one
unfoldable pub hash_of : List ℕ → ℕ
hash_of l = fold hash_step 0 (lowered l) % buckets
