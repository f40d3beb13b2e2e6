-- Runs of bytes, as std's lists have them.
use mathlib.Core.Path.{◌≡◌, refl, ap, ◌∙◌}
use mathlib.Core.Bool.{Bool, ◌&&◌}
use mathlib.Core.List.{List}
use Prim.Native.Nat.{ℕ, ◌+◌, ◌-◌, ◌≤◌}
use native.Mathlib.Omega.{arith}
use lib.ListN.{length, take, drop}
use Rattle.std.specs.List.{list_all}
use Rattle.std.proofs.lemmas.List.Recursion.{same_from_clauses}
use Rattle.model.specs.Bytes.{bytes_at}
use Rattle.model.specs.Lists.{all}
use Rattle.model.proofs.ByteFacts.{part_is}

-- a test of each byte of a part
pub all_part : (f : ℕ → Bool) (n : ℕ) (s : List ℕ) (p : ℕ) → p + n ≤ length s → list_all f (take (p + n - p) (drop p s)) ≡ all f (bytes_at n s p)
all_part f n s p h =
    let e : p + n - p ≡ n = omega arith in
    rw e (ap (list_all f) (part_is n s p h) ∙ same_from_clauses (list_all f) (all f) (λ x b. f x && b) refl (λ _ _. refl) (λ _ _. refl) (bytes_at n s p))
