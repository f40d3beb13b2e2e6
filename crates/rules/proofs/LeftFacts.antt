-- Which body facts are left: one less once one is met, and the best of them is one of them.
use mathlib.Core.Path.{◌≡◌, refl, ap}
use mathlib.Core.Logic.{◌⊎◌, inl, ◌≢◌}
use mathlib.Core.Bool.{true, false, cond}
use mathlib.Core.List.{List, Memᴰ}
use Prim.Native.Nat.{ℕ, zero, suc, ◌≤◌, ◌<◌}
use native.Mathlib.Nat.{not-suc-le-zero}
use native.Mathlib.Omega.{arith}
use Rattle.std.proofs.lemmas.Grind.{get_or-set_at}
use Rattle.std.proofs.lemmas.Bool.Decides.{nat_tests}
use lib.ListN.{length, set}
use lib.Seq.{get_or-set_other}
use lib.Dec.{eqb, ltb}
use Rattle.model.specs.Limits.{unbound}
use Rattle.model.specs.Syntax.{vars_test}
use Rattle.rules.specs.Matching.{at}
use Rattle.rules.specs.Patterns.{Pattern}
use Rattle.rules.specs.Proper.{HasAll}
use Rattle.rules.specs.Planning.{below, is_left}
use Rattle.rules.specs.Planning.{best_upto}
use Rattle.rules.proofs.BelowFacts.{below_less}

-- what is asked of a pattern: at most four body facts, a head of twelve places, and variables below 8, which have a kind where a constraint has them
pub record Sound (p : Pattern) : Type 0 where
  pub few : p.bodies ≤ 4
  pub head : length p.head ≤ 12
  pub rows : (i : ℕ) → i < p.bodies → HasAll 8 (p.body i)
  pub tests : (i : ℕ) → i < p.tests → (v : ℕ) → Memᴰ v (vars_test (p.test i)) → (v < 8) × (p.kind v ≢ 0)

module _ {p : Pattern} (S : Sound p) where
  -- ---- which body facts are left

  pub left_set : (met : List ℕ) (i j : ℕ) → j ≢ i → is_left p (set met i 0) j ≡ is_left p met j
  left_set met i j n = ap (λ (x : ℕ). cond (ltb j p.bodies) (eqb x unbound) false) (get_or-set_other met i j 0 unbound n)

  pub left_there : (met : List ℕ) (i : ℕ) → is_left p met i ≡ true → (i < p.bodies) × (at met i ≡ unbound)
  left_there met i e = grind (arith, nat_tests)

  -- what is left once i is met was left before, and is not i
  pub left_back : (met : List ℕ) (i j : ℕ) → i < length met → is_left p (set met i 0) j ≡ true → (is_left p met j ≡ true) × (j ≢ i)
  left_back met i j l e = grind (arith, nat_tests, get_or-set_at, get_or-set_other)

  pub few : (i : ℕ) (met : List ℕ) → is_left p met i ≡ true → i < 4
  few i met e = let b = (left_there met i e).0 in omega (arith, S.few)

  -- how many are left
  abbrev pub count : List ℕ → ℕ
  count met = length (below 4 (is_left p met))

  pub fewer : (i : ℕ) (met : List ℕ) → i < length met → is_left p met i ≡ true → suc (count (set met i 0)) ≡ count met
  fewer i met l e = below_less 4 i (is_left p met) (is_left p (set met i 0)) (few i met e) e gone (left_set met i)
    where
      gone : is_left p (set met i 0) i ≡ false
      gone = grind (arith, nat_tests, get_or-set_at)

  -- the best is one that is left, if any is
  pub best_is : (n : ℕ) (met β : List ℕ) → n ≤ 4
      → ((best_upto p n met β ≡ 4) × ((i : ℕ) → i < n → is_left p met i ≡ false)) ⊎ ((best_upto p n met β < n) × (is_left p met (best_upto p n met β) ≡ true))
  unfolding best_upto
  best_is zero met β h = inl (refl, λ i l. absurd (not-suc-le-zero l))
  best_is (suc n) met β h = grind (arith, nat_tests, best_is n met β)
