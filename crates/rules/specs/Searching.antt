-- The search for the instances of an assertion: which partial bindings are carried on. Request 03: "test a constraint when its last variable is bound. Show
-- that a partial binding is carried on exactly if what is matched so far fits and every constraint whose variables are all bound holds; one without variables
-- is tried before the first body fact."
use Rattle.std.specs.Prelude.{◌≡◌, ◌≢◌, ◌↔◌, true, false, ℕ, ◌<◌, length}
use Rattle.std.proofs.Math.Option.{some}
use mathlib.Core.List.{List, [], ◌∷◌, ◌++◌, map, Memᴰ}
use Rattle.model.specs.Limits.{unbound}
use Rattle.model.specs.Lists.{each}
use Rattle.model.specs.Syntax.{var}
use Rattle.model.specs.Values as P
use Rattle.model.specs.Values.{bound}
use Rattle.constraints.specs.Told.{told_both}
use Rattle.fact.specs.Places.{fact_of}
use Rattle.rules.specs.Matching.{at, fits}
use Rattle.rules.specs.Plan.{Part, body_fact, Mode, every, enough, once, look, finds, Step, Plan}
use Rattle.rules.specs.Patterns.{Frame}
use Rattle.rules.specs.Cond.{may, row_of, places_of, is_late, source_of, hold, carried, search, head_entry, cond_at, cond_first, unbound8}
use Rattle.rules.specs.Valid.{There}

-- ---- no constraint is tested twice

-- where a step binds for good, no step after it tests what it tests; one that only looks binds nothing, and what it tests is tested by the step that binds
abbrev pub Apart : List Step → Type 0
Apart [] = Unit {0}
Apart (s ∷ ss) = (finds s.mode ≡ true → (i : ℕ) → Memᴰ i s.tests → (x : Step) → Memᴰ x ss → Memᴰ i x.tests → ⊥) × Apart ss

-- looks apart, a constraint is tested in one place of a plan only
pub record TestedOnce (plan : Plan) : Type 0 where
  pub ground_tests : (i : ℕ) → Memᴰ i plan.ground_tests → Memᴰ i plan.first → ⊥
  pub later : (i : ℕ) → Memᴰ i plan.ground_tests → (s : Step) → Memᴰ s plan.steps → Memᴰ i s.tests → ⊥
  pub first : (i : ℕ) → Memᴰ i plan.first → (s : Step) → Memᴰ s plan.steps → Memᴰ i s.tests → ⊥
  pub steps : Apart plan.steps

-- ---- what is matched, and what is carried on

-- a body fact with an entry of the table, or a variable with the constant that is chosen for it
abbrev pub Match : Type 0
Match = Part × List ℕ

module _ (F : Frame) (t : List (List ℕ)) where
  -- every constraint whose variables are all bound holds
  abbrev pub Tested : List ℕ → Type 0
  Tested θ = (i : ℕ) → i < F.pattern.tests → told_both θ (F.pattern.test i) ≡ true → P.passes F.world θ (F.pattern.test i) ≡ true

  -- y is an entry that the body fact may have, or a constant
  pub record Offered (part : Part) (y : List ℕ) : Type 0 where
    pub there : There F.pattern part
    pub among : Memᴰ y (source_of F t part)
    pub late : is_late F part y ≡ false

  -- by one more match θ goes on to τ: it fits, and every constraint whose variables are all bound holds
  pub record Next (θ : List ℕ) (part : Part) (y τ : List ℕ) : Type 0 where
    pub offered : Offered part y
    pub fit : fits (may F) θ (row_of F part) (places_of F part y) ≡ some τ
    pub tested : Tested τ

  -- The search itself: what is matched so far, the last match first, and the binding that is carried on.
  pub data Carried : List Match → List ℕ → Type 0 where
    begun : Tested unbound8 → Carried [] unbound8
    further : {ms : List Match} {θ y τ : List ℕ} {part : Part} → Carried ms θ → Next θ part y τ → Carried ((part, y) ∷ ms) τ

  -- What is matched so far fits: the binding is what the matches fix, no more and no less, each constant of its variable's kind.
  pub record Fits (ms : List Match) (θ : List ℕ) : Type 0 where
    pub eight : length θ ≡ 8
    pub offered : (part : Part) (y : List ℕ) → Memᴰ (part, y) ms → Offered part y
    pub no_less : (part : Part) (y : List ℕ) → Memᴰ (part, y) ms → map (bound θ) (row_of F part) ≡ places_of F part y
    pub no_more : (v : ℕ) → at θ v ≢ unbound → (part : Part) × (y : List ℕ) × Memᴰ (part, y) ms × Memᴰ (var v) (row_of F part)
    pub kinds : (v : ℕ) → at θ v ≢ unbound → may F v (at θ v) ≡ true

  -- ---- along a plan

  -- With which binding a step goes on from θ, of those that it carries on. It goes on with less than all of them in three modes, and exactly so:
  -- `enough`: with none after the first from which a head is found. `once`: with the first. `look`: with θ itself, if there is one.
  pub data Goes (go : List ℕ → List (List ℕ)) (θ : List ℕ) : Mode → List (List ℕ) → List ℕ → Type 0 where
    all : {τs : List (List ℕ)} {τ : List ℕ} → Memᴰ τ τs → Goes go θ every τs τ
    first_found : (before after : List (List ℕ)) {τ : List ℕ} → each before go ≡ [] → Goes go θ enough (before ++ τ ∷ after) τ
    first : {τs : List (List ℕ)} {τ : List ℕ} → Goes go θ once (τ ∷ τs) τ
    looked : {τs : List (List ℕ)} {τ : List ℕ} → Goes go θ look (τ ∷ τs) θ

  -- from a binding and the steps that are left, the search comes to another with fewer left
  pub data Visits : List Step → List ℕ → List Step → List ℕ → Type 0 where
    here : {ss : List Step} {θ : List ℕ} → Visits ss θ ss θ
    step : {s : Step} {ss ss' : List Step} {θ τ θ' : List ℕ} → Goes (search F t ss) θ s.mode (each (source_of F t s.part) (carried F s θ)) τ
        → Visits ss τ ss' θ' → Visits (s ∷ ss) θ ss' θ'

  -- a carried binding that is whole: it has the matches that are given, every body fact is matched, every variable bound; and its head is r
  pub record Ends (given ms : List Match) (θ r : List ℕ) : Type 0 where
    pub carried : Carried ms θ
    pub has : (m : Match) → Memᴰ m given → Memᴰ m ms
    pub facts : (i : ℕ) → i < F.pattern.bodies → (y : List ℕ) × Memᴰ (body_fact i, y) ms
    pub whole : (v : ℕ) → v < 8 → F.pattern.kind v ≢ 0 → at θ v ≢ unbound
    pub head : r ≡ head_entry F θ

  -- along a plan, from the matches that are given
  pub record CarriedAlong (plan : Plan) (given : List Match) : Type 0 where
    -- "one without variables is tried before the first body fact": before anything is matched
    pub begins : (hold F plan.ground_tests unbound8 ≡ true) ↔ Carried [] unbound8
    -- wherever the search comes to, its binding is carried, and a step carries it on by y to just the binding to which it goes on so
    pub visited : {τ θ : List ℕ} {ss : List Step} → Carried given τ → Visits plan.steps τ ss θ → (ms : List Match) × Carried ms θ
    pub stepped : {τ θ : List ℕ} {s : Step} {ss : List Step} → Carried given τ → Visits plan.steps τ (s ∷ ss) θ
        → {y σ : List ℕ} → Offered s.part y → Memᴰ σ (carried F s θ y) ↔ Next θ s.part y σ

  -- ---- with q, the entry that body fact `skip` has already

  abbrev given : List ℕ → List Match
  given q = (body_fact F.skip, q) ∷ []

  pub record CarriedExactly : Type 0 where
    -- "a partial binding is carried on exactly if what is matched so far fits and every constraint whose variables are all bound holds"
    pub fit : (ms : List Match) (θ : List ℕ) → Carried ms θ ↔ (Fits ms θ × Tested θ)
    pub along : (q : List ℕ) → CarriedAlong (F.pattern.plan F.skip) (given q)
    -- what is tested with the given fact
    pub starts : {q τ : List ℕ} → Offered (body_fact F.skip) q → fits (may F) unbound8 (row_of F (body_fact F.skip)) (fact_of q) ≡ some τ
        → Carried [] unbound8 → (hold F (F.pattern.plan F.skip).first τ ≡ true) ↔ Carried (given q) τ
    -- the heads that are listed are those of the carried bindings that are whole
    pub heads : {q r : List ℕ} → Offered (body_fact F.skip) q
        → Memᴰ r (cond_at F t (fact_of q)) ↔ ((ms : List Match) × (θ : List ℕ) × Ends (given q) ms θ r)

  -- ---- an assertion without a body: the search begins with nothing matched

  pub record CarriedAlone : Type 0 where
    pub along : CarriedAlong (F.pattern.plan 0) []
    pub heads : {r : List ℕ} → Memᴰ r (cond_first F) ↔ ((ms : List Match) × (θ : List ℕ) × Ends [] ms θ r)
