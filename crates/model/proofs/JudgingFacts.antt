-- Judging a node is asking whether it holds.
use mathlib.Core.Logic.{◌↔◌, inl, inr, ⊎_elim}
use mathlib.Core.List.{List}
use mathlib.Core.Bool.{Bool}
use Prim.Native.Nat.{ℕ}
use lib.ListN.{set}
use lib.Dec.{T, T_not, not_T}
use Rattle.model.proofs.ListFacts.{and_of, and_in, or_of, or_left, or_right, any_of_law, any_in}
use Rattle.model.specs.Syntax.{World, Said, Node, Nodes, says, test, all_of, any_of, non, exists, end, more}
use Rattle.model.specs.Values.{of_kind}
use Rattle.model.specs.Requests.{Holds, HoldAll, HoldAny}
use Rattle.model.specs.Judging.{judge, judge_all, judge_any}

module _ (W : World) (kind : ℕ → ℕ) (sayable : Said → Bool) (Derivable : Said → Type 0)
    (sayable-of : (x : Said) → T (sayable x) → Derivable x) (sayable-in : (x : Said) → Derivable x → T (sayable x)) where
  abbrev J : Node → List ℕ → Bool
  J = judge W kind sayable

  abbrev H : Node → List ℕ → Type 0
  H = Holds W kind Derivable

  mutual
    pub judge↔ : (n : Node) (θ : List ℕ) → T (J n θ) ↔ H n θ
    judge↔ (says e f) θ = (sayable-of _, sayable-in _)
    judge↔ (test c) θ = (λ t. t, λ t. t)
    judge↔ (all_of ns) θ = judge_all↔ ns θ
    judge↔ (any_of ns) θ = judge_any↔ ns θ
    judge↔ (non n) θ = (λ t h. T_not (J n θ) t ((judge↔ n θ).1 h), λ h. not_T (J n θ) (λ t. h ((judge↔ n θ).0 t)))
    judge↔ (exists v n) θ = (
      λ t. let r = any_of_law (λ c. J n (set θ v c)) (of_kind (kind v) 0 W.constants) t in (r.0, r.1, (judge↔ n (set θ v r.0)).0 r.2),
      λ h. any_in (λ c. J n (set θ v c)) h.1 ((judge↔ n (set θ v h.0)).1 h.2),
    )

    judge_all↔ : (ns : Nodes) (θ : List ℕ) → T (judge_all W kind sayable ns θ) ↔ HoldAll W kind Derivable ns θ
    judge_all↔ end θ = (λ t. t, λ t. t)
    judge_all↔ (more n ns) θ = (
      λ t. let r = and_of (J n θ) (judge_all W kind sayable ns θ) t in ((judge↔ n θ).0 r.0, (judge_all↔ ns θ).0 r.1),
      λ h. and_in (J n θ) (judge_all W kind sayable ns θ) ((judge↔ n θ).1 h.0) ((judge_all↔ ns θ).1 h.1),
    )

    judge_any↔ : (ns : Nodes) (θ : List ℕ) → T (judge_any W kind sayable ns θ) ↔ HoldAny W kind Derivable ns θ
    judge_any↔ end θ = (λ t. t, λ t. t)
    judge_any↔ (more n ns) θ = (
      λ t. ⊎_elim (λ s. inl ((judge↔ n θ).0 s)) (λ s. inr ((judge_any↔ ns θ).0 s)) (or_of (J n θ) (judge_any W kind sayable ns θ) t),
      λ h. ⊎_elim (λ s. or_left (J n θ) _ ((judge↔ n θ).1 s)) (λ s. or_right (J n θ) _ ((judge_any↔ ns θ).1 s)) h,
    )
