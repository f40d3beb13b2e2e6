-- What version 2 derives, version 1 derives within the same rounds: each use of its rules is one of version 1's, and its reach is part of version 1's.
use mathlib.Core.Path.{◌≡◌, refl, subst, subst₂}
use mathlib.Core.List.Memᴰ
use mathlib.Core.List.{List, Memᴰ}
use Prim.Native.Nat.{ℕ, zero, suc}
use lib.Dec.{T}
use Rattle.model.specs.Syntax.{Expr, Fact, flat, can_say, Assertion, World, Said, Read, world_in}
use Rattle.model.specs.Versions.{carries}
use Rattle.model.specs.Values.{passes}
use Rattle.model.specs.Closure.{Within}
use Rattle.model.specs.Rules.{Rule, cond, can_says, acts_as, covers}
use Rattle.model.specs.Reach.{named_by, Joins, asks, names, Reach}
use Rattle.model.specs.Reached.{issued_in, reach, counting}
use Rattle.model.specs.Requests.{issuers}
use Rattle.model.specs.Withdrawals.{left_in}
use Rattle.model.specs.Deciding.{counted_in}
use Rattle.model.specs.Inputs.{InReach}
use Rattle.theorems.specs.Theorems.{in_version, read_in_version}
use Rattle.model.proofs.ListFacts.{all_of_law, all_in, keep_of, keep_in, member_of, member_in}
use Rattle.model.proofs.ClosureFacts.{derives_more, within_more}
use Rattle.model.proofs.ReachFacts.{reach_of_law, reach_in}
use Rattle.model.proofs.WorldFacts.{passes_world, joining_world, issuers_world, left_world}

-- version 1 carries every verb phrase
carries_all : (f : Fact ℕ) → T (carries 1 f)
carries_all (flat s v ps) = tt
carries_all (can_say s d f) = tt

module _ (W : World) where
  abbrev first : World
  first = in_version 1 W

  abbrev second : World
  second = in_version 2 W

  rule_first : {𝒜 ℬ : List Assertion} → ((a : Assertion) → Memᴰ a 𝒜 → Memᴰ a ℬ) → (ps : List Said) (x : Said) → Rule second 𝒜 ps x → Rule first ℬ ps x
  rule_first h ps x (cond {a} {d} {θ} m n o t) =
      cond (h a m) n o
      (all_in (passes first θ) a.tests (λ c i. subst T (passes_world second first θ c refl refl) (all_of_law (passes second θ) t i)))
  rule_first h ps x can_says = can_says
  rule_first h ps x (acts_as f v) = acts_as f (carries_all f)
  rule_first h ps x (covers c) = covers c

  pub within_first : (𝒜 : List Assertion) (n : ℕ) (x : Said) → Within (Rule second 𝒜) n x → Within (Rule first 𝒜) n x
  within_first 𝒜 = within_more (rule_first (λ a m. m))

  named_first : (f : Fact Expr) {p : ℕ} → Memᴰ p (named_by second f) → Memᴰ p (named_by first f)
  named_first (flat s zero ps) m = absurd (Memᴰ.not-nil m)
  named_first (flat s (suc v) ps) m = m
  named_first (can_say s d f) {p} m = subst (Memᴰ p) (joining_world second first refl s) m

  joins_first : (𝒜 : List Assertion) (asked ps : List ℕ) (p : ℕ) → Joins second 𝒜 asked ps p → Joins first 𝒜 asked ps p
  joins_first 𝒜 asked ps p (asks m) = asks m
  joins_first 𝒜 asked ps p (names {a} m n) = names m (named_first a.head n)

  pub reach_first : (𝒜 : List Assertion) (asked : List ℕ) (p : ℕ) → Reach second 𝒜 asked p → Reach first 𝒜 asked p
  reach_first 𝒜 asked p r = derives_more (joins_first 𝒜 asked) r

  counting_first : (𝒜 : List Assertion) (asked : List ℕ) (a : Assertion) → Memᴰ a (counting second 𝒜 asked) → Memᴰ a (counting first 𝒜 asked)
  counting_first 𝒜 asked a m =
      let p = a.issuer in
      let k = keep_of (issued_in (reach second 𝒜 asked)) 𝒜 m in
      let r = reach_first 𝒜 asked p (reach_of_law second 𝒜 asked p (member_of p (reach second 𝒜 asked) k.1)) in
      keep_in (issued_in (reach first 𝒜 asked)) k.0 (member_in (reach_in first 𝒜 asked p r))

  -- by the assertions that each one's reach counts
  pub rule_counted : (𝒜 : List Assertion) (asked : List ℕ) (ps : List Said) (x : Said)
      → Rule second (counting second 𝒜 asked) ps x → Rule first (counting first 𝒜 asked) ps x
  rule_counted 𝒜 asked = rule_first (counting_first 𝒜 asked)

-- of what was read: what is left and who is asked are the same in both versions
module _ (R : Read) where
  abbrev R₁ : Read
  R₁ = read_in_version 1 R

  abbrev R₂ : Read
  R₂ = read_in_version 2 R

  lefts : left_in R₂ ≡ left_in R₁
  lefts = left_world (world_in R₂) (world_in R₁) refl refl R.withdrawals R.policy.assertions

  asked : issuers R.request.node (world_in R₂) ≡ issuers R.request.node (world_in R₁)
  asked = issuers_world (world_in R₂) (world_in R₁) refl R.request.node

  pub reach_in_first : (p : ℕ) → InReach R₂ p → InReach R₁ p
  reach_in_first p r =
      subst₂ (λ (𝒜 : List Assertion) (l : List ℕ). Reach (world_in R₁) 𝒜 l p) lefts asked
      (reach_first (world_in R) (left_in R₂) (issuers R.request.node (world_in R₂)) p r)

  pub rule_in_first : (ps : List Said) (x : Said) → Rule (world_in R₂) (counted_in R₂) ps x → Rule (world_in R₁) (counted_in R₁) ps x
  rule_in_first ps x r =
      subst₂ (λ (𝒜 : List Assertion) (l : List ℕ). Rule (world_in R₁) (counting (world_in R₁) 𝒜 l) ps x) lefts asked
      (rule_counted (world_in R) (left_in R₂) (issuers R.request.node (world_in R₂)) ps x r)
