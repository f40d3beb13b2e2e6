-- Each instance of an assertion is given along a plan that is right: with a fact given in the place of a body fact, and where there is no body.
use mathlib.Core.Path.{◌≡◌, refl, ◌∙◌}
use mathlib.Core.Bool.{true}
use mathlib.Core.List.Memᴰ
use mathlib.Core.List.{List, [], ◌∷◌, map, Memᴰ}
use borrow.Author.Tests.{eq-eqb, lt-ltb, le-ltb}
use Rattle.fact.specs.Places.{fact_of}
use Prim.Native.Nat.{ℕ, ◌+◌, ◌<◌, zero-le}
use native.Mathlib.Omega.{arith}
use lib.ListN.{length, get_or-eq_default}
use Rattle.std.proofs.lemmas.Bool.Decides.{nat_tests}
use Rattle.model.specs.Syntax.{Expr, Constant}
use Rattle.model.specs.Values.{bound}
use Rattle.rules.specs.Matching.{at, fits}
use Rattle.rules.specs.Plan.{Part, body_fact, variable, Step, Plan}
use Rattle.rules.specs.Patterns.{Pattern, Frame}
use Rattle.rules.specs.Cond.{body_row, grounded, cond_at, cond_first, unbound8, allowed, search_by, single, may, head_entry, hold, source_of}
use Rattle.rules.specs.Valid.{Valid, given, There, Steps}
use Rattle.rules.proofs.MatchFacts.{Under, fits_some}
use Rattle.rules.proofs.KindFacts.{upto_in}
use Rattle.rules.proofs.ExtendFacts.{L, In, for_cons, under_start, Binds, stands, Fair, fair_on}
use Rattle.rules.proofs.ExtendFacts.{fair_start}
use Rattle.rules.proofs.Following.{follow_in}
use Rattle.rules.proofs.StepFacts.{Marks, Search, Passes, Met}
use Rattle.rules.proofs.StepFacts.{part_marks, newly_told_law, told_on, hold_in}
use Rattle.rules.proofs.CondFacts.{Does, search_in}

module _ {F : Frame} {cs : List Constant} {ks : List ℕ} {t : L} (S : Search F cs ks t) where
  abbrev p : Pattern
  p = F.pattern

  -- every body fact is met, every constraint holds, and r is the head
  pub record Whole (r ρ : List ℕ) : Type 0 where
    pub binds : Binds S.over ρ
    pub met : (i : ℕ) → i < p.bodies → Met S (body_fact i) ρ
    pub pass : (i : ℕ) → i < p.tests → Passes S ρ i
    pub is : r ≡ head_entry F ρ

  -- a variable has one of the constants
  variable_met : (x : ℕ) → There p (variable x) → (ρ : List ℕ) → Binds S.over ρ → Met S (variable x) ρ
  unfolding source_of allowed
  variable_met x h ρ m = (single (at ρ x), record { among = Memᴰ.map single (upto_in (length F.kinds) 0 (at ρ x) zero-le below); late = refl; row = refl })
    where
      below : at ρ x < 0 + length F.kinds
      below = grind (arith, nat_tests, h.1, stands S.over ρ m x h.0, get_or-eq_default F.kinds 0 {n = at ρ x})

  module _ {skip : ℕ} {plan : Plan} (v : Valid p skip plan) where
    -- a constraint without variables does not change
    ground_tests_hold : {r ρ : List ℕ} → Whole r ρ → hold F plan.ground_tests unbound8 ≡ true
    ground_tests_hold {ρ = ρ} w = hold_in S unbound8 plan.ground_tests (λ i m.
        told_on S {β = unbound8} {τ = unbound8} i (v.ground_tests.0 i m) (record { of = λ v z. z }) (under_start ρ) ∙ w.pass i (v.ground_tests.0 i m).0)

    module _ {τ : List ℕ} (b : Marks (given p skip) τ) (a : Fair S.over τ) where
      plan_in_law : {r ρ : List ℕ} → Whole r ρ → Under τ ρ → In r (search_by F t plan τ)
      unfolding search_by
      plan_in_law {r} {ρ} w u =
          rw (hold_in S τ plan.first (λ i k. told_on S i (newly_told_law (v.first.0 i k)) b u ∙ w.pass i (v.first.0 i k).there))
          (Memᴰ.cast w.is (search_in S plan.steps (given p skip) τ ρ v.steps b a (record { binds = w.binds; done = done plan.steps (given p skip) v.steps }) u))
        where
          part : (x : Part) → There p x → Met S x ρ
          part (body_fact i) h = w.met i h
          part (variable x) h = variable_met x h ρ w.binds

          done : (ss : List Step) (β : List ℕ) → Steps p β ss → (s : Step) → Memᴰ s ss → Does S s ρ
          done [] β k = λ s m. absurd (Memᴰ.not-nil m)
          done (s ∷ ss) β k =
              for_cons (λ (z : Step). Does S z ρ) (record { met = part s.part k.0.there; pass = λ i j. w.pass i (k.0.tests.0 i j).there }) (done ss _ k.1)

  -- ---- with the fact q given

  module _ (there : F.skip < p.bodies) (v : Valid p F.skip (p.plan F.skip)) {q : List ℕ} (mq : In q t) where
    abbrev row : List Expr
    row = body_row F F.skip

    pub given_in : {r ρ : List ℕ} → Whole r ρ → map (bound ρ) row ≡ fact_of q → In r (cond_at F t (fact_of q))
    unfolding cond_at grounded source_of
    given_in {r} {ρ} w e =
        let f = fits_some (may F) row (fact_of q) unbound8 ρ (S.rows F.skip there) (S.ground_facts q mq) (under_start ρ) e
        (λ v l k. stands S.over ρ w.binds v l) in
        let marks : Marks (given p F.skip) f.0 =
        rw (lt-ltb F.skip p.bodies there) (part_marks S (body_fact F.skip) mq f.2 (record { of = λ v z. z })) in
        let found = plan_in_law v marks (fair_on S.over f.2 (fair_start S.over)) w f.3 in
        rw (lt-ltb F.skip p.bodies there, ground_tests_hold v w)
        (follow_in (fits (may F) unbound8 row (fact_of q)) (search_by F t (p.plan F.skip)) r f.0 f.1 found)

-- ---- without a body

module _ {F : Frame} {cs : List Constant} {ks : List ℕ} (S : Search F cs ks []) (v : Valid F.pattern 0 (F.pattern.plan 0)) where
  -- nothing is bound before
  none_marks : F.pattern.bodies ≡ 0 → Marks (given F.pattern 0) unbound8
  none_marks z = rw (le-ltb 0 F.pattern.bodies (omega arith)) (record { of = λ v e. e })

  pub alone_in : {r ρ : List ℕ} → F.pattern.bodies ≡ 0 → Whole S r ρ → In r (cond_first F)
  unfolding cond_first grounded
  alone_in {ρ = ρ} z w =
      rw (eq-eqb F.pattern.bodies 0 z, ground_tests_hold S v w) (plan_in_law S v (none_marks z) (fair_start S.over) w (under_start ρ))
