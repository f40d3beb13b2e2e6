-- One step of the search: the binding that an entry carries on fits, and so does every binding that goes on from it; its constraints stay as they are.
use mathlib.Core.Path.{◌≡◌, refl, sym, ap, subst, ◌∙◌}
use mathlib.Core.Logic.{⊎_elim, ◌≢◌}
use mathlib.Core.Bool.{Bool, true, false, cond}
use mathlib.Core.Option.{some}
use mathlib.Core.List.Memᴰ
use mathlib.Core.List.{List, [], ◌∷◌, map, Memᴰ}
use Prim.Native.Nat.{ℕ, ◌+◌, ◌≤◌, ◌<◌}
use native.Mathlib.Omega.{arith}
use lib.ListN.{length, set, length-map}
use lib.Seq.{get_or-set_other}
use lib.Dec.{T}
use borrow.Author.Tests.{ne_eqb, lt-ltb, le-ltb}
use Rattle.model.specs.Limits.{unbound}
use Rattle.model.specs.Lists.{only}
use Rattle.model.specs.Syntax.{Expr, con, var, today, Constant}
use Rattle.model.specs.Values as P
use Rattle.model.specs.Values.{bound}
use Rattle.model.proofs.ListFacts.{all_of_law, all_in, only_of, only_in}
use Rattle.fact.specs.Places.{stamp_of, fact_of}
use Rattle.model.proofs.Tests.{by_eq, by_lt, T_true}
use Rattle.rules.specs.Matching.{at, fits}
use Rattle.rules.specs.Plan.{Part, body_fact, variable, Step}
use Rattle.rules.specs.Patterns.{Pattern, Frame}
use Rattle.rules.specs.Cond.{upto, single, too_new, may, body_row, hold, row_of, places_of, is_late, carried, source_of}
use Rattle.rules.specs.Valid.{marked, exprs_of, There, Testable, Newly}
use Rattle.rules.specs.Proper.{HasAll}
use Rattle.rules.proofs.MatchFacts.{Under, under_refl, Ground, row_on, row_bound, Fitted, fits_of}
use Rattle.rules.proofs.KindFacts.{upto_of}
use Rattle.rules.proofs.ExtendFacts.{L, In, Over, Binds, Fair, fair_on, unless_of}
use Rattle.rules.proofs.TestFacts.{passes_same, told_bound}
use Rattle.rules.proofs.Following.{follow_of}

-- an entry is too new only for a fact before the one that has its entry, and only if it is of that entry's round
pub not_new : (skip last i : ℕ) (q : List ℕ) → (i < skip → stamp_of q ≢ last) → too_new skip last i q ≡ false
unfolding too_new
not_new skip last i q h = by_lt i skip (λ l. rw (lt-ltb i skip l) (ne_eqb (stamp_of q) last (h l))) (λ l. rw (le-ltb i skip l) refl)

-- ---- which variables are bound

-- what is marked is bound
pub record Marks (β θ : List ℕ) : Type 0 where
  pub of : (v : ℕ) → at θ v ≡ unbound → at β v ≡ unbound

pub marks_row : (es : List Expr) {β τ : List ℕ} → Marks β τ → ((v : ℕ) → Memᴰ (var v) es → at τ v ≢ unbound) → Marks (marked β es) τ
marks_row [] b h = b
marks_row (con c ∷ es) b h = marks_row es b (λ v m. h v (Memᴰ.tail m))
marks_row (today ∷ es) b h = marks_row es b (λ v m. h v (Memᴰ.tail m))
marks_row (var w ∷ es) {β} {τ} b h = marks_row es (record { of = other }) (λ v m. h v (Memᴰ.tail m))
  where
    other : (v : ℕ) → at τ v ≡ unbound → at (set β w 0) v ≡ unbound
    other v z = by_eq v w (λ q. absurd (h v (Memᴰ.head (ap var q)) z)) (λ q. get_or-set_other β w v 0 unbound q ∙ b.of v z)

pub marks_on : {β θ τ : List ℕ} → Marks β θ → Under θ τ → Marks β τ
marks_on {β} {θ} {τ} b u = record { of = λ v z. b.of v (⊎_elim (λ y. y) (λ (y : at θ v ≡ at τ v). y ∙ z) (u.of v)) }

-- a constraint whose last variable is bound newly is told
pub newly_told_law : {p : Pattern} {β γ : List ℕ} {i : ℕ} → Newly p β γ i → Testable p γ i
newly_told_law n = (n.there, n.now)

-- ---- the search

-- the facts of a table are ground
abbrev pub GroundTable : L → Type 0
GroundTable t = (q : List ℕ) → In q t → Ground (fact_of q)

-- What the search stands on: the frame is over the model's bindings, each variable has a place in a binding, and the table's facts are ground.
pub record Search (F : Frame) (cs : List Constant) (ks : List ℕ) (t : L) : Type 0 where
  pub over : Over F cs ks
  pub rows : (i : ℕ) → i < F.pattern.bodies → HasAll 8 (body_row F i)
  pub ground_facts : GroundTable t

module _ {F : Frame} {cs : List Constant} {ks : List ℕ} {t : L} (S : Search F cs ks t) where
  abbrev p : Pattern
  p = F.pattern

  abbrev Bd : List ℕ → Type 0
  Bd ρ = Binds S.over ρ

  abbrev pub Passes : List ℕ → ℕ → Type 0
  Passes ρ i = P.passes F.world ρ (p.test i) ≡ true

  -- ---- what a step goes through

  -- one that y is for, and which y matches
  pub record Meets (part : Part) (ρ y : List ℕ) : Type 0 where
    pub among : In y (source_of F t part)
    pub late : is_late F part y ≡ false
    pub row : map (bound ρ) (row_of F part) ≡ places_of F part y

  abbrev pub Met : Part → List ℕ → Type 0
  Met part ρ = (y : List ℕ) × Meets part ρ y

  few : length F.kinds ≤ 255
  few = omega (arith, ap length S.over.constants, length-map cs (λ (c : Constant). c.kind), S.over.few)

  pub places : (part : Part) (y : List ℕ) → In y (source_of F t part) → Ground (places_of F part y)
  unfolding source_of
  places (body_fact i) y m = S.ground_facts y m
  places (variable v) y m =
      let c = Memᴰ.of_map single (upto 0 (length F.kinds)) m in
      let u = upto_of (length F.kinds) 0 c.0 c.1 in
      subst Ground c.2 (λ z. let e = Memᴰ.eq_of_singleton z in let h : c.0 < 0 + length F.kinds = u.1 in omega (arith, few))

  pub has : (part : Part) (θ : List ℕ) → There p part → length θ ≡ 8 → HasAll (length θ) (row_of F part)
  has (body_fact i) θ h l = subst (λ (n : ℕ). HasAll n (body_row F i)) (sym l) (S.rows i h)
  has (variable v) θ h l = (rw l h.0, tt)

  -- the expressions with the issuer and the depth before them have the same variables
  pub in_row : (part : Part) (v : ℕ) → Memᴰ (var v) (exprs_of p part) → Memᴰ (var v) (row_of F part)
  in_row (body_fact i) v m = Memᴰ.tail (Memᴰ.tail m)
  in_row (variable w) v m = m

  pub of_row : (part : Part) (v : ℕ) → Memᴰ (var v) (row_of F part) → Memᴰ (var v) (exprs_of p part)
  of_row (variable w) v m = m
  of_row (body_fact i) v m = skip (skip m)
    where
      skip : {c : ℕ} {es : List Expr} → Memᴰ (var v) (con c ∷ es) → Memᴰ (var v) es
      skip m = ⊎_elim (λ e. absurd (subst (λ (e : Expr). elim e as (λ x. Type 0) [ con c ↦ ⊥ | var w ↦ Unit {0} | today ↦ ⊥ ]) e tt)) (λ k. k)
          (Memᴰ.cases_cons m)

  -- ---- a binding that is carried on

  -- by y, from θ to τ
  pub record Carries (s : Step) (θ τ y : List ℕ) : Type 0 where
    pub among : In y (source_of F t s.part)
    pub late : is_late F s.part y ≡ false
    pub fitted : Fitted (may F) (row_of F s.part) (places_of F s.part y) θ τ
    pub tests : hold F s.tests τ ≡ true

  pub carried_of : (s : Step) (θ y : List ℕ) {τ : List ℕ} → In τ (carried F s θ y)
      → (is_late F s.part y ≡ false) × (fits (may F) θ (row_of F s.part) (places_of F s.part y) ≡ some τ) × (hold F s.tests τ ≡ true)
  unfolding carried
  carried_of s θ y {τ} e =
      let u = unless_of (is_late F s.part y) e in
      let o = follow_of (fits (may F) θ (row_of F s.part) (places_of F s.part y)) (λ (τ : List ℕ). only (hold F s.tests τ) τ) τ u.1 in
      let r = only_of (hold F s.tests o.0) o.2 in
      let same : τ ≡ o.0 = r.1 in
      (u.0, o.1 ∙ ap some (sym same), ap (hold F s.tests) same ∙ T_true _ r.0)

  pub carries : {s : Step} {θ τ y : List ℕ} → There p s.part → Fair S.over θ → In y (source_of F t s.part) → In τ (carried F s θ y) → Carries s θ τ y
  carries {s} {θ} {τ} {y} h a m e =
      let r = carried_of s θ y e in
      record {
        among = m;
        late = r.0;
        fitted = fits_of (may F) _ _ (has s.part θ h a.eight) (places s.part y m) r.1;
        tests = r.2;
      }

  pub carried_by_law : (s : Step) (θ y : List ℕ) {τ : List ℕ} → is_late F s.part y ≡ false → fits (may F) θ (row_of F s.part) (places_of F s.part y) ≡ some τ
      → hold F s.tests τ ≡ true → In τ (carried F s θ y)
  unfolding carried
  carried_by_law s θ y {τ} l e h = rw (l, e) (only_in (hold F s.tests τ) (subst T (sym h) tt) refl)

  -- what a part matches is bound then
  pub part_marks : (part : Part) {β θ τ y : List ℕ} → In y (source_of F t part) → Fitted (may F) (row_of F part) (places_of F part y) θ τ → Marks β θ
      → Marks (marked β (exprs_of p part)) τ
  part_marks part {τ = τ} {y} m f b =
      marks_row (exprs_of p part) (marks_on b f.under) (λ v k. row_bound (row_of F part) _ τ (places part y m) f.is v (in_row part v k))

  pub marks : {s : Step} {β θ τ y : List ℕ} → Carries s θ τ y → Marks β θ → Marks (marked β (exprs_of p s.part)) τ
  marks {s} c b = part_marks s.part c.among c.fitted b

  -- what it meets, every binding that goes on from it does
  pub meets : {s : Step} {θ τ y ρ : List ℕ} → Carries s θ τ y → Under τ ρ → Meets s.part ρ y
  meets {s} {y = y} c u = record { among = c.among; late = c.late; row = row_on (row_of F s.part) _ (places s.part y c.among) u c.fitted.is }

  -- a constraint whose variables are marked does not change
  pub told_on : {β τ ρ : List ℕ} (i : ℕ) → Testable p β i → Marks β τ → Under τ ρ → P.passes F.world τ (p.test i) ≡ P.passes F.world ρ (p.test i)
  told_on {β} {τ} {ρ} i h b u =
      passes_same F.world (p.test i) τ ρ
      (λ v m. ⊎_elim (λ (z : at τ v ≡ unbound). absurd (told_bound β (p.test i) h.1 v m (b.of v z))) (λ z. z) (u.of v))

  -- the constraints with these numbers hold
  pub hold_of : (θ is : List ℕ) → hold F is θ ≡ true → (i : ℕ) → Memᴰ i is → Passes θ i
  hold_of θ is e i m = T_true _ (all_of_law (λ (i : ℕ). P.passes F.world θ (p.test i)) (subst T (sym e) tt) m)

  pub hold_in : (θ is : List ℕ) → ((i : ℕ) → Memᴰ i is → Passes θ i) → hold F is θ ≡ true
  hold_in θ is h = T_true _ (all_in (λ (i : ℕ). P.passes F.world θ (p.test i)) is (λ i m. subst T (sym (h i m)) tt))

  -- ---- after a step, as it finds or only looks

  module _ {s : Step} {β θ τ y : List ℕ} (c : Carries s θ τ y) (b : Marks β θ) (a : Fair S.over θ) where
    pub on_marks : (f : Bool) → Marks (cond f (marked β (exprs_of p s.part)) β) (cond f τ θ)
    on_marks true = marks c b
    on_marks false = b

    pub on_fair : (f : Bool) → Fair S.over (cond f τ θ)
    on_fair true = fair_on S.over c.fitted a
    on_fair false = a

    pub on_under : (f : Bool) → Under θ (cond f τ θ)
    on_under true = c.fitted.under
    on_under false = under_refl θ
