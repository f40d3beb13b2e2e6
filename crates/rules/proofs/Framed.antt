-- A frame of a laid-out assertion is over the model: its kinds and constraints are the assertion's, its head and body rows are the places of the instances,
-- and its plan is right.
use mathlib.Core.Path.{◌≡◌, refl, sym, ap, ap₂, subst, ◌∙◌}
use mathlib.Core.Logic.{◌⊎◌}
use mathlib.Core.Bool.{Bool, true}
use mathlib.Core.List.Memᴰ
use mathlib.Core.List.{List, [], ◌∷◌, map, Memᴰ}
use Prim.Native.Nat.{ℕ, ◌≤◌, ◌<◌}
use native.Mathlib.Nat.{mod-eq_of_lt}
use native.Mathlib.Omega.{arith}
use lib.ListN.{length, get_or}
use lib.Dec.{T}
use Rattle.model.specs.Limits.{max_nest}
use Rattle.model.specs.Lists.{all}
use Rattle.model.specs.Syntax.{Expr, con, Fact, map_fact, Constraint, Constant, Assertion, World, Said, said, vars_test}
use Rattle.model.specs.Kinds.{variables}
use Rattle.model.specs.Values.{bound, kinds_of, bindings_of, passes}
use Rattle.model.specs.Rules.{depths, head_of, body_of}
use Rattle.model.specs.Records.{key, Fitting}
use Rattle.model.proofs.ListFacts.{all_of_law, all_in}
use Rattle.model.proofs.DecisionFacts.{get_d_in, in_get_d}
use Rattle.model.proofs.BindingFacts.{at_variable}
use Rattle.model.proofs.RecordFacts.{arity_map}
use Rattle.model.proofs.ShapeFacts.{map_formed}
use Rattle.model.proofs.Tests.{T_true}
use Rattle.model.proofs.WorldFacts.{passes_world}
use Rattle.rules.specs.Rows.{row_of, no_fact}
use Rattle.rules.specs.Patterns.{Pattern, Frame}
use Rattle.rules.specs.Cond.{field, head_entry, body_row}
use Rattle.rules.specs.Proper.{Proper, HasAll, Below, Sources}
use Rattle.rules.specs.Laid.{no_test, Laid, Agree}
use Rattle.rules.specs.Valid.{Valid}
use Rattle.rules.proofs.ExtendFacts.{L, Over}
use Rattle.rules.proofs.RowFacts.{row_key, row_length}
use Rattle.rules.proofs.StepFacts.{GroundTable, Search}
use Rattle.rules.proofs.LeftFacts.{Sound}
use Rattle.rules.proofs.Good.{Good, depth_small, key_below}

-- constants below 255 stand in a fact as they are
fields : (θ : List ℕ) (es : List Expr) → Below (map (bound θ) es) → map (field θ) es ≡ map (bound θ) es
fields θ [] b = refl
fields θ (e ∷ es) b = ap₂ ◌∷◌ (mod-eq_of_lt (let h : bound θ e < 255 = b.0 in omega arith)) (fields θ es b.1)

-- a laid-out assertion is one that has a plan which is right
pub sound : {W : World} {a : Assertion} {p : Pattern} → Proper W a → Laid W a p → Sound p
sound {W} {a} {p} P L = record {
  few = omega (arith, L.bodies, L.few);
  head = omega (arith, ap length L.head, row_length a.head P.heads.shape);
  rows = λ i h.
      let l : i < length a.body = omega (arith, L.bodies) in
      subst (HasAll 8) (sym (L.body i l)) (P.rows (get_or a.body i no_fact) (get_d_in no_fact a.body i l));
  tests = λ i h v m.
      let l : i < length a.tests = omega (arith, L.tests) in
      let o = P.occurs (get_or a.tests i no_test) (get_d_in no_test a.tests i l) v (subst (λ (c : Constraint). Memᴰ v (vars_test c)) (L.test i l) m) in
      (o.0, λ z. o.1 (sym (L.kinds v o.0) ∙ z));
}

-- The frame F is of the assertion a, one of those that count, at one of the depths; what is asked of assertions holds.
pub record Framed (W : World) (𝒜 : List Assertion) (F : Frame) (a : Assertion) : Type 0 where
  pub agree : Agree F.world W
  pub few : length W.constants ≤ 255
  pub kinds : F.kinds ≡ map (λ (c : Constant). c.kind) W.constants
  pub sources : Sources W 𝒜
  pub proper : Proper W a
  pub laid : Laid W a F.pattern
  pub counts : Memᴰ a 𝒜
  pub depth : Memᴰ F.depth depths
  pub plans : (skip : ℕ) → (skip ≡ 0) ⊎ (skip < F.pattern.bodies) → Valid F.pattern skip (F.pattern.plan skip)

module _ {W : World} {𝒜 : List Assertion} {F : Frame} {a : Assertion} (S : Framed W 𝒜 F a) where
  abbrev pub d : ℕ
  d = F.depth

  abbrev pub ks : List ℕ
  ks = map (kinds_of W a) variables

  abbrev pub hold : List ℕ → Bool
  hold θ = all (passes W θ) a.tests

  abbrev pub Binding : List ℕ → Type 0
  Binding θ = Memᴰ θ (bindings_of W a)

  -- ---- the frame is over the model's

  over : Over F W.constants ks
  over = record { few = S.few; constants = S.kinds; eight = refl; kinds = λ v l. S.laid.kinds v l ∙ sym (at_variable (kinds_of W a) v l) }

  -- its constraints are the assertion's, and tested alike
  tested : (θ : List ℕ) (c : Constraint) → passes F.world θ c ≡ passes W θ c
  tested θ c = passes_world F.world W θ c S.agree.constants S.agree.today

  pub tests_of_law : (θ : List ℕ) → T (hold θ) → (i : ℕ) → i < F.pattern.tests → passes F.world θ (F.pattern.test i) ≡ true
  tests_of_law θ t i h =
      let l : i < length a.tests = omega (arith, S.laid.tests) in
      tested θ (F.pattern.test i) ∙ ap (passes W θ) (S.laid.test i l) ∙ T_true _ (all_of_law (passes W θ) t (get_d_in no_test a.tests i l))

  pub tests_in_law : (θ : List ℕ) → ((i : ℕ) → i < F.pattern.tests → passes F.world θ (F.pattern.test i) ≡ true) → T (hold θ)
  tests_in_law θ h = all_in (passes W θ) a.tests (λ c m. let i = in_get_d no_test m in let l : i.0 < length a.tests = i.1 in
      rw (← i.2, ← S.laid.test i.0 l, ← tested θ (F.pattern.test i.0), h i.0 (omega (arith, S.laid.tests))) tt)

  -- ---- its facts

  -- body fact i under a binding
  abbrev pub fact_at : List ℕ → ℕ → Said
  fact_at θ i = said a.issuer d (map_fact (bound θ) (get_or a.body i no_fact))

  pub body_there : (θ : List ℕ) (i : ℕ) → i < length a.body → Memᴰ (fact_at θ i) (body_of a d θ)
  body_there θ i h = Memᴰ.map (λ (f : Fact Expr). said a.issuer d (map_fact (bound θ) f)) (get_d_in no_fact a.body i h)

  row_is : (i : ℕ) → i < length a.body → body_row F i ≡ con a.issuer ∷ con d ∷ row_of (get_or a.body i no_fact)
  row_is i h = ap₂ (λ (j : ℕ) (r : List Expr). con j ∷ con d ∷ r) S.laid.issuer (S.laid.body i h)

  pub body_is : (θ : List ℕ) (i : ℕ) → i < length a.body → map (bound θ) (body_row F i) ≡ key (fact_at θ i)
  body_is θ i h = ap (map (bound θ)) (row_is i h) ∙ row_key θ a.issuer d (get_or a.body i no_fact)

  head_bound_law : (θ : List ℕ) → map (bound θ) (con a.issuer ∷ con d ∷ F.pattern.head) ≡ key (head_of a d θ)
  head_bound_law θ = ap (λ (r : List Expr). map (bound θ) (con a.issuer ∷ con d ∷ r)) S.laid.head ∙ row_key θ a.issuer d a.head

  -- the entry of the head
  pub head_is : (θ : List ℕ) → Binding θ → head_entry F θ ≡ F.round ∷ key (head_of a d θ)
  unfolding head_entry
  head_is θ m =
      let fit : Fitting W (head_of a d θ) = arity_map W.verbs θ a.head S.proper.heads.arity in
      let depth = depth_small W 𝒜 S.sources d S.depth in
      let fine : Good W (head_of a d θ) = record {
        arity = fit;
        shape = map_formed (bound θ) max_nest a.head S.proper.heads.shape;
        small = (S.proper.heads.issuer, depth, S.proper.heads.small θ m);
      } in
      let b : Below (map (bound θ) (con a.issuer ∷ con d ∷ F.pattern.head)) = subst Below (sym (head_bound_law θ)) (key_below W (head_of a d θ) fine) in
      ap₂ (λ (i : ℕ) (l : List ℕ). F.round ∷ i ∷ d ∷ l) S.laid.issuer (fields θ F.pattern.head b.1.1) ∙ ap (◌∷◌ F.round) (head_bound_law θ)

  pub search : (t : L) → GroundTable t → Search F W.constants ks t
  search t ground = record { over = over; rows = λ i h. (tt, (tt, (sound S.proper S.laid).rows i h)); ground_facts = ground }
