-- The rule cond over a laid-out assertion: what a fact of the table gives in the place of a body fact is what uses of the rule with it give.
-- The frame is over the model's bindings and constraints and its plan is right, so the search's instances are the rule's.
use mathlib.Core.Path.{◌≡◌, refl, sym, ap, subst, ◌∙◌}
use mathlib.Core.Logic.{inl, inr, ◌≢◌}
use mathlib.Core.Bool.{true}
use mathlib.Core.List.Memᴰ
use mathlib.Core.List.{List, [], ◌∷◌, Memᴰ}
use Prim.Native.Nat.{ℕ, ◌<◌}
use native.Mathlib.Omega.{arith}
use lib.ListN.{length, get_or}
use lib.Dec.{T, eqb, ltb}
use borrow.Author.Tests.{eqb-true, ltb-true}
use Rattle.model.specs.Syntax.{Expr, Fact, map_fact, Assertion, World, Said, said}
use Rattle.model.specs.Values.{bound, passes}
use Rattle.model.specs.Closure.{Within}
use Rattle.model.specs.Rules as R
use Rattle.model.specs.Rules.{Rule, head_of, body_of}
use Rattle.model.specs.Records.{key}
use Rattle.model.proofs.RecordFacts.{arity_map}
use Rattle.fact.specs.Places.{stamp_of, fact_of}
use Rattle.rules.specs.Rows.{no_fact}
use Rattle.rules.specs.Plan.{body_fact}
use Rattle.rules.specs.Patterns.{Frame}
use Rattle.rules.specs.Cond.{head_entry, source_of, cond_at, cond_first}
use Rattle.rules.proofs.MatchFacts.{Ground}
use Rattle.rules.proofs.ExtendFacts.{L, In, when_of}
use Rattle.rules.proofs.StepFacts.{not_new, GroundTable, Search, Met}
use Rattle.rules.proofs.Instances.{given_in, alone_in}
use Rattle.rules.proofs.Searching.{heads_of, whole_of}
use Rattle.rules.proofs.SearchingAlone as alone
use Rattle.model.proofs.ClosureFacts.{first→derives}
use Rattle.rules.proofs.RoundLaw.{Given, Held, within}
use Rattle.rules.proofs.Good.{good, key_below, below_ground}
use Rattle.rules.proofs.UseFacts.{told}
use Rattle.model.proofs.DecisionFacts.{get_d_in, in_get_d}
use Rattle.rules.proofs.Framed.{Framed, sound, ks, hold, Binding, fact_at, body_there, body_is, head_is, tests_of_law, tests_in_law, search}

module _ {W : World} {𝒜 : List Assertion} {F : Frame} {a : Assertion} (S : Framed W 𝒜 F a) where
  abbrev bodies : ℕ
  bodies = F.pattern.bodies

  -- a binding whose constraints hold, and whose body is of rounds 1 to n
  pub record Applies (n : ℕ) (θ : List ℕ) : Type 0 where
    pub binds : Binding S θ
    pub passes : T (hold S θ)
    pub body : (x : Said) → Memᴰ x (body_of a F.depth θ) → Within (Rule W 𝒜) n x

  abbrev Gives : ℕ → List ℕ → Type 0
  Gives n c = Given (Rule W 𝒜) key n F.round c

  -- the head of a binding under which all constraints hold, and each body fact is of these rounds
  head_gives : (n : ℕ) {ρ c : List ℕ} → Binding S ρ → ((i : ℕ) → i < F.pattern.tests → passes F.world ρ (F.pattern.test i) ≡ true)
      → ((i : ℕ) → i < length a.body → Within (Rule W 𝒜) n (fact_at S ρ i)) → c ≡ head_entry F ρ → Gives n c
  head_gives n {ρ} m pass each e =
      (head_of a F.depth ρ, e ∙ head_is S ρ m, (body_of a F.depth ρ, R.cond S.counts S.depth m (tests_in_law S ρ pass), body))
    where
      body : (x : Said) → Memᴰ x (body_of a F.depth ρ) → Within (Rule W 𝒜) n x
      body x k =
          let f = Memᴰ.of_map (λ (f : Fact Expr). said a.issuer F.depth (map_fact (bound ρ) f)) a.body k in
          let i = in_get_d no_fact f.1 in
          subst (Within (Rule W 𝒜) n) (ap (λ (f : Fact Expr). said a.issuer F.depth (map_fact (bound ρ) f)) i.2 ∙ f.2) (each i.0 i.1)

  module _ {n : ℕ} {t : L} (H : Held (Rule W 𝒜) key n t) where
    table_ground : GroundTable t
    table_ground q m =
        let s = H.sound q m in
        let fine = good W 𝒜 S.sources s.1 (first→derives (Rule W 𝒜) s.0 s.1 s.3) in
        subst (λ (r : List ℕ). Ground (fact_of r)) (sym s.2) (below_ground (key s.1) (key_below W s.1 fine))

    abbrev Sr : Search F W.constants (ks S) t
    Sr = search S t table_ground

    -- a body fact that is met is of rounds 1 to n
    met_old : (θ : List ℕ) (i : ℕ) → i < length a.body → Met Sr (body_fact i) θ → Within (Rule W 𝒜) n (fact_at S θ i)
    unfolding source_of
    met_old θ i h m =
        let f : Fact Expr = get_or a.body i no_fact in
        let arity = arity_map W.verbs θ f (S.proper.arities f (get_d_in no_fact a.body i h)) in
        within (told S.sources) H m.0 m.1.among (fact_at S θ i) arity (sym m.1.row ∙ body_is S θ i h)

    -- the entries of the facts before the given one are not of the round `last`
    abbrev pub Earlier : List ℕ → Type 0
    Earlier θ = (i : ℕ) → i < F.skip → (q : List ℕ) → In q t → fact_of q ≡ key (fact_at S θ i) → stamp_of q ≢ F.last

    -- and then the other way round
    old_met : {θ : List ℕ} → Applies n θ → Earlier θ → (i : ℕ) → i < bodies → Met Sr (body_fact i) θ
    unfolding source_of
    old_met {θ} A older i b =
        let h : i < length a.body = omega (arith, S.laid.bodies) in
        let m = H.whole (fact_at S θ i) (A.body (fact_at S θ i) (body_there S θ i h)) in
        let q : List ℕ = m.0 ∷ key (fact_at S θ i) in
        (q, record { among = m.1; late = not_new F.skip F.last i q (λ l. older i l q m.1 refl); row = body_is S θ i h })

    pub cond_gives : (q c : List ℕ) → In q t → In c (cond_at F t (fact_of q)) → Gives n c
    unfolding cond_at source_of
    cond_gives q c mq m =
        let h : F.skip < bodies = ltb-true F.skip bodies (when_of (ltb F.skip bodies) m).0 in
        let fine = sound S.proper S.laid in
        let late = not_new F.skip F.last F.skip q (λ l. absurd (omega arith)) in
        let e = heads_of Sr fine h (S.plans F.skip (inr h)) (record { there = h; among = mq; late = late }) m in
        let w = whole_of Sr fine e.2 in
        head_gives n w.binds w.pass (λ i l. met_old e.1 i l (w.met i (omega (arith, S.laid.bodies)))) w.is

    pub cond_given : {θ : List ℕ} → F.skip < length a.body → Applies n θ → Earlier θ
        → In (F.round ∷ key (head_of a F.depth θ)) (cond_at F t (key (fact_at S θ F.skip)))
    cond_given {θ} h A older =
        let b : F.skip < bodies = omega (arith, S.laid.bodies) in
        let w = H.whole (fact_at S θ F.skip) (A.body (fact_at S θ F.skip) (body_there S θ F.skip h)) in
        let is = sym (head_is S θ A.binds) in
        given_in Sr b (S.plans F.skip (inr b)) w.1
        (record { binds = A.binds; met = old_met A older; pass = tests_of_law S θ A.passes; is = is }) (body_is S θ F.skip h)

  -- ---- an assertion without a body

  abbrev S0 : Search F W.constants (ks S) []
  S0 = search S [] (λ q h. absurd (Memᴰ.not-nil h))

  pub first_gives : (n : ℕ) (c : List ℕ) → In c (cond_first F) → Gives n c
  unfolding cond_first
  first_gives n c m =
      let z : bodies ≡ 0 = eqb-true bodies 0 (when_of (eqb bodies 0) m).0 in
      let fine = sound S.proper S.laid in
      let e = alone.heads_of S0 fine z (S.plans 0 (inl refl)) m in
      let w = whole_of S0 fine e.2 in
      head_gives n w.binds w.pass (λ j h. absurd (omega (arith, S.laid.bodies))) w.is

  pub first_given : (n : ℕ) {θ : List ℕ} → length a.body ≡ 0 → Applies n θ → In (F.round ∷ key (head_of a F.depth θ)) (cond_first F)
  first_given n {θ} z A =
      let e : bodies ≡ 0 = S.laid.bodies ∙ z in
      let is = sym (head_is S θ A.binds) in
      alone_in S0 (S.plans 0 (inl refl)) e (record { binds = A.binds; met = λ i h. absurd (omega arith); pass = tests_of_law S θ A.passes; is = is })
