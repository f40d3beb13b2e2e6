-- Entries in their chains: only one of their bucket is for an issuer and a serial.
use mathlib.Core.Path.{◌≡◌, refl}
use mathlib.Core.Bool.{Bool, true, false}
use mathlib.Core.List.{List}
use Prim.Native.Nat.{ℕ}
use Rattle.withdrawals.specs.Sought.{named_at, bucket_of, bucket_at}
use Rattle.withdrawals.proofs.Leaving.{names_both}

pub apart : (s : List ℕ) (issuer serial b : ℕ) → b ≡ bucket_of issuer serial → (at : ℕ) → (bucket_at s at ≡ b → ⊥) → named_at s issuer serial at ≡ false
apart s issuer serial b h at n = go (named_at s issuer serial at) refl
  where
    go : (c : Bool) → named_at s issuer serial at ≡ c → c ≡ false
    go true e = let both = names_both s at issuer serial e in absurd (n (rw (both.0, both.1, h)))
    go false e = refl
