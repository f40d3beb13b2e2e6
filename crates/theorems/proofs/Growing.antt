-- What a call answers is answered too where more is derived: by a longer policy, and by version 1 what version 2 answers.
use mathlib.Core.Path.{◌≡◌, refl, sym, subst, subst₂, ◌∙◌}
use mathlib.Core.Logic.{◌↔◌}
use mathlib.Core.List.{List, [], Memᴰ}
use Prim.Native.Nat.{ℕ, ◌<◌}
use lib.ListN.{length, get_or}
use Rattle.model.specs.Limits.{answer_bytes}
use Rattle.model.specs.Syntax.{Assertion, Node, World, Read, world_in}
use Rattle.model.specs.Closure.{Derives}
use Rattle.model.specs.Rules.{Rule}
use Rattle.model.specs.Requests.{issuers, kinds_in, free_kinds, bindings_in}
use Rattle.model.specs.Records.{answers_bytes}
use Rattle.model.specs.Meant.{Outcome, Satisfies, Meant, full_table, full_answers, all_listed}
use Rattle.model.specs.Reached.{counting}
use Rattle.model.specs.Deciding.{decide, counted_in}
use Rattle.model.specs.Decision.{Lent, Report, capacity, room, at_front, reported, decision}
use Rattle.theorems.specs.Theorems as Q
use Rattle.model.specs.Inputs.{Inputs, answer_in, DerivableIn, AnswerIn}
use Rattle.theorems.specs.Theorems.{with_policy, IsDecision, ListedIn, read_in_version}
use Rattle.model.proofs.ClosureFacts.{derives_more}
use Rattle.model.proofs.BindingFacts.{bindings_of_law}
use Rattle.theorems.proofs.Growth.{holds_more, rule_grows}
use Rattle.theorems.proofs.VersionFacts.{rule_in_first}
use Rattle.model.proofs.DecisionFacts.{reports, answer_at, get_d_in, in_get_d}
use Rattle.theorems.proofs.Outcome.{meant_by}
use Rattle.theorems.proofs.Added.{another, with_policy_law, longer_world, longer_left, left_adds, longer_counts}

-- the answers of a decision are those that its buffer lists
binding_length : (W : World) (n : Node) (θ : List ℕ) → Memᴰ θ (bindings_in W n) → length θ ≡ answer_bytes
binding_length W n θ m = (bindings_of_law W.constants (free_kinds W n) θ m).0

module _ (W : World) (𝒜 : List Assertion) (n : Node) (c r : ℕ) (l : Lent) where
  -- listed ↔ satisfying, where there is a decision
  listed↔ : {o : Outcome} → Meant W 𝒜 n c r o → IsDecision (reported o l).verdict → (θ : List ℕ) → ListedIn (reported o l) θ
      ↔ Satisfies W 𝒜 n θ
  listed↔ (full_table m) k θ = absurd k
  listed↔ (full_answers a f m) k θ = absurd k
  listed↔ (all_listed {F} {A} a f b g) k θ = (
    λ k. g.only θ (subst (λ (η : List ℕ). Memᴰ η A) (sym (at k.0 k.1) ∙ k.2) (get_d_in [] A k.0 k.1)),
    λ s. let m = in_get_d [] (g.every θ s) in (m.0, m.1, at m.0 m.1 ∙ m.2),
  )
    where
      at : (i : ℕ) → i < length A → answer_in (at_front l.answer_buffer (answers_bytes A)) i ≡ get_or A i []
      at i k = answer_at A _ (λ η m. binding_length W n η (g.only η m).0) i k

-- two calls that get a decision: an answer of the one that is one of the other is listed there too
module _ (l l' : Lent) (R R' : Read) (h : Inputs l.slices R) (h' : Inputs l'.slices R') where
  listed_more : IsDecision (decision l).verdict → IsDecision (decision l').verdict → (θ : List ℕ) → (AnswerIn R θ → AnswerIn R' θ)
      → ListedIn (decision l) θ → ListedIn (decision l') θ
  listed_more d d' θ more k =
      let e = reports l R h in
      let e' = reports l' R' h' in
      let here = listing l R h (subst (λ (ρ : Report). IsDecision ρ.verdict) e d) in
      let there = listing l' R' h' (subst (λ (ρ : Report). IsDecision ρ.verdict) e' d') in
      subst (λ (ρ : Report). ListedIn ρ θ) (sym e') (there.1 (more (here.0 (subst (λ (ρ : Report). ListedIn ρ θ) e k))))
    where
      listing : (l : Lent) (R : Read) → Inputs l.slices R → IsDecision (reported (decide R (capacity l.fact_buffer) (room l.answer_buffer)) l).verdict
          → ListedIn (reported (decide R (capacity l.fact_buffer) (room l.answer_buffer)) l) θ ↔ AnswerIn R θ
      listing l R h d =
          let c = capacity l.fact_buffer in
          let r = room l.answer_buffer in
          listed↔ (world_in R) (counted_in R) R.request.node c r l (meant_by l.slices R h c r) d θ

pub growing : Q.Growing
growing l longer R L h a x p d d' θ k =
    listed_more l (with_policy longer l) R (another R L) h (with_policy_law R L x.constants x.verbs l longer h a) d d' θ more k
  where
    W : World
    W = world_in R

    n : Node
    n = R.request.node

    -- by what counts of the longer list
    more : AnswerIn R θ → AnswerIn (another R L) θ
    more s = subst₂ (λ (W : World) (𝒜 : List Assertion). Satisfies W 𝒜 n θ) (sym (longer_world R L x)) (sym (longer_counts R L x)) (
      s.0,
      holds_more W W refl refl (kinds_in W n) (Derives (Rule W (counted_in R))) (Derives (Rule W (counting W (longer_left R L x) (issuers n W))))
          (λ y z. derives_more (rule_grows W (issuers n W) (left_adds R L x)) z) n θ p s.1,
    )

-- ---- versions

pub growing_by_version : Q.GrowingByVersion
growing_by_version l other R h a p d d' θ k = listed_more l (with_policy other l) R₂ R₁ h (with_policy_law R₂ R₁.policy refl refl l other h a) d d' θ more k
  where
    R₁ : Read
    R₁ = read_in_version 1 R

    R₂ : Read
    R₂ = read_in_version 2 R

    n : Node
    n = R.request.node

    more : AnswerIn R₂ θ → AnswerIn R₁ θ
    more s = (
      s.0,
      holds_more (world_in R₂) (world_in R₁) refl refl (kinds_in (world_in R) n) (DerivableIn R₂) (DerivableIn R₁)
          (λ y z. derives_more (rule_in_first R) z) n θ p
          s.1,
    )
