-- More assertions derive more, and a request without "not" that held holds still.
use mathlib.Core.Path.{◌≡◌, subst}
use mathlib.Core.Logic.{inl, inr, ⊎_elim}
use mathlib.Core.List.{List, Memᴰ}
use Prim.Native.Nat.{ℕ}
use lib.ListN.{set}
use lib.Dec.{T}
use Rattle.model.specs.Syntax.{Constant, Assertion, World, Said, Node, Nodes, says, test, all_of, any_of, non, exists, end, more}
use Rattle.model.specs.Values.{of_kind}
use Rattle.model.specs.Rules.{Rule}
use Rattle.model.specs.Reached.{issued_in, reach, counting}
use Rattle.model.specs.Requests.{Holds, HoldAll, HoldAny}
use Rattle.model.specs.Inputs.{Adds}
use Rattle.theorems.specs.Theorems.{Positive, Positives}
use Rattle.model.proofs.ListFacts.{member_of, member_in, keep_of, keep_in}
use Rattle.model.proofs.ClosureFacts.{derives_more}
use Rattle.model.proofs.StepFacts.{rule_mono}
use Rattle.model.proofs.ReachFacts.{reach_of_law, reach_in}
use Rattle.theorems.proofs.Outside.{adds_in, joins_more}
use Rattle.model.proofs.WorldFacts.{passes_world}

-- two worlds with the same constants on the same day, in the second of which more is derived
module _ (X W : World) (cs : X.constants ≡ W.constants) (day : X.today ≡ W.today) (kind : ℕ → ℕ) (D E : Said → Type 0) (up : (x : Said) → D x → E x) where
  mutual
    pub holds_more : (n : Node) (θ : List ℕ) → Positive n → Holds X kind D n θ → Holds W kind E n θ
    holds_more (says e f) θ p h = up _ h
    holds_more (test c) θ p h = subst T (passes_world X W θ c cs day) h
    holds_more (all_of ns) θ p h = all_more ns θ p h
    holds_more (any_of ns) θ p h = any_more ns θ p h
    holds_more (non n) θ p h = absurd p
    holds_more (exists v n) θ p h =
        (h.0, subst (λ (l : List Constant). Memᴰ h.0 (of_kind (kind v) 0 l)) cs h.1, holds_more n (set θ v h.0) p h.2)

    all_more : (ns : Nodes) (θ : List ℕ) → Positives ns → HoldAll X kind D ns θ → HoldAll W kind E ns θ
    all_more end θ p h = h
    all_more (more n ns) θ p h = (holds_more n θ p.0 h.0, all_more ns θ p.1 h.1)

    any_more : (ns : Nodes) (θ : List ℕ) → Positives ns → HoldAny X kind D ns θ → HoldAny W kind E ns θ
    any_more end θ p h = h
    any_more (more n ns) θ p h = ⊎_elim (λ k. inl (holds_more n θ p.0 k)) (λ k. inr (any_more ns θ p.1 k)) h

module _ (W : World) (asked : List ℕ) {Q : Assertion → Type 0} {𝒜 ℬ : List Assertion} (s : Adds Q 𝒜 ℬ) where
  counting_grows : {a : Assertion} → Memᴰ a (counting W 𝒜 asked) → Memᴰ a (counting W ℬ asked)
  counting_grows {a} m =
      let p = a.issuer in
      let k = keep_of (issued_in (reach W 𝒜 asked)) 𝒜 m in
      let r = derives_more (joins_more W asked s) (reach_of_law W 𝒜 asked p (member_of p (reach W 𝒜 asked) k.1)) in
      keep_in (issued_in (reach W ℬ asked)) (adds_in s k.0) (member_in (reach_in W ℬ asked p r))

  pub rule_grows : (ps : List Said) (x : Said) → Rule W (counting W 𝒜 asked) ps x → Rule W (counting W ℬ asked) ps x
  rule_grows = rule_mono W (λ a m. counting_grows m)
