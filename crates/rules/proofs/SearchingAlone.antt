-- The same of an assertion without a body: its search begins with nothing matched, and goes along its one plan.
use mathlib.Core.Path.{sym, ◌≡◌, refl, ap, subst}
use mathlib.Core.Logic.{inl}
use mathlib.Core.Bool.{Bool, cond}
use mathlib.Core.List.Memᴰ
use mathlib.Core.List.{List, []}
use Prim.Native.Nat.{ℕ}
use native.Mathlib.Omega.{arith}
use lib.Dec.{eqb}
use borrow.Author.Tests.{le-ltb}
use Rattle.model.specs.Syntax.{Assertion, Constant, World}
use Rattle.rules.specs.Plan.{Plan}
use Rattle.rules.specs.Patterns.{Pattern, Frame}
use Rattle.rules.specs.Cond.{hold, grounded, cond_first, unbound8}
use Rattle.rules.specs.Valid.{marked, given, Valid}
use Rattle.rules.specs.Searching.{Carried, begun, CarriedAlone}
use Rattle.rules.proofs.ExtendFacts.{In, when_of}
use Rattle.rules.proofs.StepFacts.{Search}
use Rattle.rules.proofs.LeftFacts.{Sound}
use Rattle.rules.proofs.VisitedFacts.{At}
use Rattle.rules.proofs.Instances.{alone_in}
use Rattle.rules.proofs.Searching.{along, Ended, ended, whole_of, at_none, begins_of, steps_of}
use Rattle.rules.proofs.Framed as framed
use Rattle.rules.proofs.Framed.{Framed}

module _ {F : Frame} {cs : List Constant} {ks : List ℕ} (S : Search F cs ks []) (sound : Sound F.pattern) (none : F.pattern.bodies ≡ 0)
    (valid : Valid F.pattern 0 (F.pattern.plan 0)) where
  abbrev p : Pattern
  p = F.pattern

  abbrev plan : Plan
  plan = p.plan 0

  given_none : given p 0 ≡ unbound8
  given_none = ap (λ (b : Bool). cond b (marked unbound8 (p.body 0)) unbound8) (le-ltb 0 p.bodies (omega (arith, none)))

  at_start : {τ : List ℕ} → Carried F [] [] τ → At S (given p 0) [] τ
  at_start (begun h) = subst (λ (β : List ℕ). At S β [] unbound8) (sym given_none) (at_none S (begun h))

  pub heads_of : {r : List ℕ} → In r (cond_first F) → Ended S [] r
  unfolding cond_first grounded
  heads_of m =
      let g = when_of (hold F plan.ground_tests unbound8) (when_of (eqb p.bodies 0) m).1 in
      ended S valid (at_start (begins_of S valid g.0)) (λ b. absurd (omega (arith, none))) (steps_of S plan unbound8 g.1).1

  pub carried_alone_law : CarriedAlone F []
  carried_alone_law = record { along = along S valid (λ τ. at_start); heads = (heads_of, λ e. alone_in S valid none (whole_of S sound e.2)) }

-- so it is for each assertion of an accepted policy that has no body
pub carried_alone : {W : World} {𝒜 : List Assertion} {F : Frame} {a : Assertion} → Framed W 𝒜 F a → F.pattern.bodies ≡ 0 → CarriedAlone F []
carried_alone S none =
    carried_alone_law (framed.search S [] (λ q m. absurd (Memᴰ.not-nil m))) (framed.sound S.proper S.laid) none (S.plans 0 (inl refl))
