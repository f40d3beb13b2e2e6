-- The search carries a partial binding on exactly if what is matched so far fits and every constraint whose variables are all bound holds, and lists exactly
-- the heads of the whole ones: for every assertion that an accepted policy lays out, and each of its body facts.
use mathlib.Core.Path.{◌≡◌, refl, sym, ap, subst}
use mathlib.Core.Logic.{◌⊎◌, inl, inr, ◌≢◌}
use mathlib.Core.Bool.{Bool, true, cond}
use mathlib.Core.Option.{some}
use mathlib.Core.List.Memᴰ
use mathlib.Core.List.{List, [], ◌∷◌, Memᴰ}
use Prim.Native.Nat.{ℕ, ◌<◌}
use native.Mathlib.Decide.{ℕ_discrete}
use lib.Dec.{ltb}
use borrow.Author.Tests.{lt-ltb}
use Rattle.model.specs.Syntax.{Assertion, Constant, World}
use Rattle.fact.specs.Places.{fact_of}
use Rattle.rules.specs.Matching.{fits}
use Rattle.rules.specs.Plan.{Part, body_fact, Step, Plan}
use Rattle.rules.specs.Patterns.{Pattern, Frame}
use Rattle.rules.specs.Cond.{source_of, may, body_row, hold, search, search_by, grounded, cond_at, unbound8}
use Rattle.rules.specs.Valid.{marked, Newly, Exactly, given, Valid}
use Rattle.rules.specs.Searching.{Match, Offered, Carried, begun, further, Ends, CarriedAlong, CarriedExactly}
use Rattle.rules.proofs.ExtendFacts.{L, In, when_of, complete}
use Rattle.rules.proofs.TestFacts.{told_in}
use Rattle.rules.proofs.Following.{follow_of}
use Rattle.rules.proofs.StepFacts.{GroundTable, Search, hold_of, hold_in}
use Rattle.rules.proofs.LeftFacts.{Sound}
use Rattle.rules.proofs.CarriedFacts.{carried_fits, fits_carried}
use Rattle.rules.proofs.VisitedFacts.{At, fair, at_next, tested_of, tested_in, step_exact, visits_at, head_visits}
use Rattle.rules.proofs.Instances.{Whole, given_in}
use Rattle.rules.proofs.Framed as framed
use Rattle.rules.proofs.Framed.{Framed}

-- before the first step, along any plan that is right
module _ {F : Frame} {cs : List Constant} {ks : List ℕ} {t : L} (S : Search F cs ks t) where
  pub at_none : Carried F t [] unbound8 → At S unbound8 [] unbound8
  at_none c = record { carried = c; long = refl; marks = record { of = λ v z. z }; back = record { of = λ v z. z } }

  module _ {skip : ℕ} {plan : Plan} (valid : Valid F.pattern skip plan) where
    pub begins_of : hold F plan.ground_tests unbound8 ≡ true → Carried F t [] unbound8
    begins_of h = begun (λ i l e. hold_of S unbound8 plan.ground_tests h i (valid.ground_tests.1 i (l, e)))

    pub begins_in : Carried F t [] unbound8 → hold F plan.ground_tests unbound8 ≡ true
    begins_in c = hold_in S unbound8 plan.ground_tests (λ i m. let n = valid.ground_tests.0 i m in (carried_fits S c).1 i n.0 n.1)

  pub steps_of : (plan : Plan) {r : List ℕ} (τ : List ℕ) → In r (search_by F t plan τ)
      → (hold F plan.first τ ≡ true) × In r (search F t plan.steps τ)
  unfolding search_by
  steps_of plan τ m = when_of (hold F plan.first τ) m

  -- all that is visited along such a plan is carried, if with what is given the variables are bound that the plan takes to be
  pub along : {skip : ℕ} {plan : Plan} {ms : List Match} → Valid F.pattern skip plan
      → ((τ : List ℕ) → Carried F t ms τ → At S (given F.pattern skip) ms τ) → CarriedAlong F t plan ms
  along valid start = record {
    begins = (begins_of valid, begins_in valid);
    visited = λ c v. let came = visits_at S (start _ c) valid.steps v in (came.matches, came.now.carried);
    stepped = λ c v o. let came = visits_at S (start _ c) valid.steps v in step_exact S came.now came.steps.0 o;
  }

  abbrev Matched : ℕ → List Match → Type 0
  Matched i ms = (y : List ℕ) × Memᴰ (body_fact i, y) ms

  abbrev pub Ended : List Match → List ℕ → Type 0
  Ended given r = (ms : List Match) × (θ : List ℕ) × Ends F t given ms θ r

  -- what the search finds along such a plan is the head of a binding that is carried and whole
  pub ended : {skip : ℕ} {plan : Plan} {ms : List Match} {τ r : List ℕ} → Valid F.pattern skip plan → At S (given F.pattern skip) ms τ
      → (skip < F.pattern.bodies → Matched skip ms) → In r (search F t plan.steps τ) → Ended ms r
  ended {skip} {plan} {ms} {τ} valid A m found =
      let v = head_visits S plan.steps found in
      let came = visits_at S A valid.steps v.1 in (
        came.matches,
        v.0,
        record {
          carried = came.now.carried;
          has = λ m. came.old;
          facts = λ i b. fact came.matches b (λ m. came.old) (λ n. let s = valid.facts i b n in by s.0 s.3 (came.new s.0 s.1 s.2)) (ℕ_discrete skip i);
          whole = λ v b k z. came.steps v b k (came.now.marks.of v z);
          head = v.2;
        },
      )
    where
      -- by a step: no step is left
      by : {ms : List Match} {i : ℕ} (s : Step) → s.part ≡ body_fact i → Memᴰ s [] ⊎ ((y : List ℕ) × Memᴰ (s.part, y) ms) → Matched i ms
      by s e (inl k) = absurd (Memᴰ.not-nil k)
      by {ms} s e (inr y) = (y.0, subst (λ (part : Part). Memᴰ (part, y.0) ms) e y.1)

      -- body fact i is the given one, or one that a step matches
      fact : (all : List Match) {i : ℕ} → i < F.pattern.bodies → ((x : Match) → Memᴰ x ms → Memᴰ x all) → (i ≢ skip → Matched i all) → Dec (skip ≡ i)
          → Matched i all
      fact all b old h (yes e) = subst (λ (j : ℕ). Matched j all) e (let g = m (subst (λ (j : ℕ). j < F.pattern.bodies) (sym e) b) in (g.0, old _ g.1))
      fact all b old h (no n) = h (λ e. n (sym e))

  -- what is carried and whole is an instance
  pub whole_of : Sound F.pattern → {given ms : List Match} {θ r : List ℕ} → Ends F t given ms θ r → Whole S r θ
  whole_of sound {θ = θ} E =
      let c = carried_fits S E.carried in
      record {
        binds = complete S.over θ (fair S c.0) E.whole;
        met = λ i l. let y = E.facts i l in let h = c.0.offered (body_fact i) y.0 y.1 in
            (y.0, record { among = h.among; late = h.late; row = c.0.no_less (body_fact i) y.0 y.1 });
        pass = λ i l. c.1 i l (told_in θ (F.pattern.test i) (λ v m. let k = sound.tests i l v m in E.whole v k.0 k.1));
        is = E.head;
      }

module _ {F : Frame} {cs : List Constant} {ks : List ℕ} {t : L} (S : Search F cs ks t) (sound : Sound F.pattern) (there : F.skip < F.pattern.bodies)
    (valid : Valid F.pattern F.skip (F.pattern.plan F.skip)) where
  abbrev p : Pattern
  p = F.pattern

  abbrev plan : Plan
  plan = p.plan F.skip

  -- what is marked with the given fact
  given_is : given p F.skip ≡ marked unbound8 (p.body F.skip)
  given_is = ap (λ (b : Bool). cond b (marked unbound8 (p.body F.skip)) unbound8) (lt-ltb F.skip p.bodies there)

  -- ---- before the first step

  firsts : Exactly p (Newly p unbound8 (marked unbound8 (p.body F.skip))) plan.first
  firsts = subst (λ (β : List ℕ). Exactly p (Newly p unbound8 β) plan.first) given_is valid.first

  abbrev Given : List ℕ → Type 0
  Given q = Offered F t (body_fact F.skip) q

  abbrev Started : List ℕ → List ℕ → Type 0
  Started q τ = Carried F t ((body_fact F.skip, q) ∷ []) τ

  starts_of : {q τ : List ℕ} → Given q → fits (may F) unbound8 (body_row F F.skip) (fact_of q) ≡ some τ → Carried F t [] unbound8
      → hold F plan.first τ ≡ true → Started q τ
  starts_of o e c h = further c (record { offered = o; fit = e; tested = tested_of S (at_none S c) o e plan.first firsts h })

  at_start : {q τ : List ℕ} → Started q τ → At S (given p F.skip) ((body_fact F.skip, q) ∷ []) τ
  at_start {q} {τ} (further (begun h) n) =
      subst (λ (β : List ℕ). At S β ((body_fact F.skip, q) ∷ []) τ) (sym given_is) (at_next S (at_none S (begun h)) n.offered n.fit n.tested)

  -- ---- the heads that are listed

  pub heads_of : {q r : List ℕ} → Given q → In r (cond_at F t (fact_of q)) → Ended S ((body_fact F.skip, q) ∷ []) r
  unfolding cond_at grounded
  heads_of {q} {r} o m =
      let g = when_of (hold F plan.ground_tests unbound8) (when_of (ltb F.skip p.bodies) m).1 in
      let τ = follow_of (fits (may F) unbound8 (body_row F F.skip) (fact_of q)) (search_by F t plan) r g.1 in
      let s = steps_of S plan τ.0 τ.2 in
      ended S valid (at_start (starts_of o τ.1 (begins_of S valid g.0) s.0)) (λ b. (q, Memᴰ.head refl)) s.1

  heads_in : {q r : List ℕ} → Given q → Ended S ((body_fact F.skip, q) ∷ []) r → In r (cond_at F t (fact_of q))
  unfolding source_of
  heads_in {q} o (ms, θ, E) =
      given_in S there valid o.among (whole_of S sound E)
      ((carried_fits S E.carried).0.no_less (body_fact F.skip) q (E.has (body_fact F.skip, q) (Memᴰ.head refl)))

  pub carried_exactly_law : CarriedExactly F t
  carried_exactly_law = record {
    fit = λ ms θ. (carried_fits S, λ h. fits_carried S ms θ h.0 h.1);
    along = λ q. along S valid (λ τ. at_start);
    starts = λ o e c. (starts_of o e c, λ d. tested_in S (at_none S c) o e plan.first firsts (carried_fits S d).1);
    heads = λ o. (heads_of o, heads_in o);
  }

-- so it is for each assertion of an accepted policy, over any table whose facts are ground
pub carried_exactly : {W : World} {𝒜 : List Assertion} {F : Frame} {a : Assertion} → Framed W 𝒜 F a → F.skip < F.pattern.bodies → (t : L)
    → GroundTable t → CarriedExactly F t
carried_exactly {F = F} S there t ground =
    carried_exactly_law (framed.search S t ground) (framed.sound S.proper S.laid) there (S.plans F.skip (inr there))
