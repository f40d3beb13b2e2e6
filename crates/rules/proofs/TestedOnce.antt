-- A constraint is tested where it is told newly, and what is told stays told: so it is tested once.
use mathlib.Core.Path.{◌≡◌, sym, subst, ◌∙◌}
use mathlib.Core.Bool.{Bool, true, false, cond, true≢false}
use mathlib.Core.List.Memᴰ
use mathlib.Core.List.{List, [], ◌∷◌, Memᴰ}
use Prim.Native.Nat.{ℕ}
use lib.Dec.{ltb}
use Rattle.constraints.specs.Told.{told_both}
use Rattle.rules.specs.Plan.{finds, Step, Plan}
use Rattle.model.specs.Syntax.{Expr}
use Rattle.rules.specs.Patterns.{Pattern}
use Rattle.rules.specs.Cond.{unbound8}
use Rattle.rules.specs.Valid.{marked, exprs_of, after, Steps, given, Valid}
use Rattle.rules.specs.Searching.{Apart, TestedOnce}
use Rattle.rules.proofs.StepFacts.{Marks}
use Rattle.rules.proofs.MarkFacts.{marked_grows, told_grows}

grows : (b : Bool) (row : List Expr) (β : List ℕ) → Marks β (cond b (marked β row) β)
grows true row β = marked_grows row β
grows false row β = record { of = λ v z. z }

module _ (p : Pattern) where
  -- what a later step tests is not told before
  untold : (ss : List Step) (β : List ℕ) → Steps p β ss → (s : Step) → Memᴰ s ss → (i : ℕ) → Memᴰ i s.tests → told_both β (p.test i) ≡ false
  untold [] β w s m i k = absurd (Memᴰ.not-nil m)
  untold (x ∷ ss) β w s (Memᴰ.head q) i k = (w.0.tests.0 i (subst (λ (z : Step). Memᴰ i z.tests) q k)).before
  untold (x ∷ ss) β w s (Memᴰ.tail m) i k = told_grows (grows (finds x.mode) (exprs_of p x.part) β) (p.test i) (untold ss _ w.1 s m i k)

  apart : (ss : List Step) (β : List ℕ) → Steps p β ss → Apart ss
  apart [] β w = tt
  apart (s ∷ ss) β w = (
    λ e i k x m h. true≢false (sym (w.0.tests.0 i k).now ∙ (rw e at (untold ss (after p s.mode s.part β) w.1 x m i h))),
    apart ss (after p s.mode s.part β) w.1,
  )

  given_grows : (skip : ℕ) → Marks unbound8 (given p skip)
  given_grows skip = grows (ltb skip p.bodies) (p.body skip) unbound8

  pub tested_once : {skip : ℕ} {plan : Plan} → Valid p skip plan → TestedOnce plan
  tested_once {skip} {plan} v = record {
    ground_tests = λ i m k. true≢false (sym (v.ground_tests.0 i m).1 ∙ (v.first.0 i k).before);
    later = λ i m s k h. true≢false (sym (v.ground_tests.0 i m).1
        ∙ told_grows (given_grows skip) (p.test i) (untold plan.steps (given p skip) v.steps s k i h));
    first = λ i m s k h. true≢false (sym (v.first.0 i m).now ∙ untold plan.steps (given p skip) v.steps s k i h);
    steps = apart plan.steps (given p skip) v.steps;
  }
