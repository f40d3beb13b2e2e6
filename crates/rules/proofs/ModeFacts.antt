-- A mode is chosen only where it is right: what nothing else uses is in no step that comes later, nor in the head.
use mathlib.Core.Path.{◌≡◌, refl, sym, ap, subst, ◌∙◌}
use mathlib.Core.Logic.{⊎_elim, ◌≢◌}
use mathlib.Core.Bool.{Bool, true, false, cond}
use mathlib.Core.List.Memᴰ
use mathlib.Core.List.{List, [], ◌∷◌, ◌++◌, Memᴰ}
use Prim.Native.Nat.{ℕ, zero, suc, ◌<◌}
use native.Mathlib.Omega.{arith}
use lib.ListN.{length, get_or, set}
use Rattle.std.proofs.lemmas.Bool.{cond_both}
use Rattle.model.specs.Limits.{unbound}
use Rattle.model.specs.Syntax.{Expr, con, var, today, vars_test}
use Rattle.model.specs.Values.{bound}
use Rattle.constraints.specs.Told.{told_both}
use Rattle.rules.specs.Matching.{at}
use Rattle.rules.specs.Plan.{Part, body_fact, variable, Mode, every, enough, once, finds, Step}
use Rattle.rules.specs.Patterns.{Pattern}
use Rattle.rules.specs.Cond.{unbound8}
use Rattle.rules.specs.Proper.{Has, HasAll}
use Rattle.rules.specs.Valid.{marked, exprs_of, Unused, Suits}
use Rattle.rules.specs.Planning.{head_bound, is_left, with_fact, used_tests, used_facts, used_later, is_apart, mode_by_head, mode_of}
use Rattle.rules.specs.Planning.{sides, below}
use Rattle.rules.specs.Families.{down_from}
use Rattle.model.specs.Lists.{each, only}
use Rattle.model.proofs.ListFacts.{each_in}
use Rattle.rules.proofs.FamilyFacts.{down_in}
use Rattle.rules.proofs.StepFacts.{Marks}
use Rattle.rules.proofs.MarkFacts.{marked_in, told_grows, in_sides}
use Rattle.rules.proofs.MarkFacts.{bound_of, apart_of, below_in}
use Rattle.rules.proofs.LeftFacts.{Sound, left_there}

-- a variable of such a row is below 8
pub small : (es : List Expr) → HasAll 8 es → (v : ℕ) → Memᴰ (var v) es → v < 8
small [] h v m = absurd (Memᴰ.not-nil m)
small (e ∷ es) h v m = ⊎_elim (λ q. subst (Has 8) (sym q) h.0) (small es h.1 v) (Memᴰ.cases_cons m)

-- a row's variable has a place in it
placed : (es : List Expr) (v : ℕ) → Memᴰ (var v) es → (i : ℕ) × (i < length es) × (get_or es i (con 0) ≡ var v)
placed [] v m = absurd (Memᴰ.not-nil m)
placed (e ∷ es) v m =
    ⊎_elim (λ q. (0, omega arith, sym q)) (λ k. let r = placed es v k in (suc r.0, (let l : r.0 < length es = r.1 in omega arith), r.2))
    (Memᴰ.cases_cons m)

marked_append : (β : List ℕ) (es fs : List Expr) → marked β (es ++ fs) ≡ marked (marked β es) fs
marked_append β [] fs = refl
marked_append β (con c ∷ es) fs = marked_append β es fs
marked_append β (var v ∷ es) fs = marked_append (set β v 0) es fs
marked_append β (today ∷ es) fs = marked_append β es fs

module _ {p : Pattern} (S : Sound p) where
  -- ---- what comes later

  -- a step has body facts that are left, variables that are not bound, and constraints that are not told
  abbrev pub Ahead : List ℕ → List ℕ → Part → Type 0
  Ahead met β (body_fact i) = is_left p met i ≡ true
  Ahead met β (variable v) = at β v ≡ unbound

  pub record Later (met β : List ℕ) (s : Step) : Type 0 where
    pub part : Ahead met β s.part
    pub tests : (i : ℕ) → Memᴰ i s.tests → (i < p.tests) × (told_both β (p.test i) ≡ false)

  -- so it was before a step
  pub later_back : {met met' β β' : List ℕ} {s : Step} → ((i : ℕ) → is_left p met' i ≡ true → is_left p met i ≡ true) → Marks β β' → Later met' β' s
      → Later met β s
  later_back {met} {met'} {β} {β'} {s} h b l = record {
    part = go s.part l.part;
    tests = λ i m. ((l.tests i m).0, told_grows b (p.test i) (l.tests i m).1);
  }
    where
      go : (x : Part) → Ahead met' β' x → Ahead met β x
      go (body_fact i) e = h i e
      go (variable v) e = b.of v e

  -- ---- what something else uses is in the rows of the head, of the body facts that are left, and of the constraints that are not told

  facts_are : (n : ℕ) (met used : List ℕ) → used_facts p n met used ≡ marked used (each (below n (is_left p met)) p.body)
  unfolding used_facts below
  facts_are zero met used = refl
  facts_are (suc n) met used = facts_are n met _ ∙ go (is_left p met n)
    where
      go : (b : Bool) → marked (cond b (marked used (p.body n)) used) (each (below n (is_left p met)) p.body)
          ≡ marked used (each (only b n ++ below n (is_left p met)) p.body)
      go true = sym (marked_append used (p.body n) _)
      go false = refl

  abbrev open_rows : List ℕ → ℕ → List Expr
  open_rows β i = cond (told_both β (p.test i)) [] (sides (p.test i))

  tests_are : (n : ℕ) (β used : List ℕ) → used_tests p n β used ≡ marked used (each (down_from n) (open_rows β))
  unfolding used_tests down_from
  tests_are zero β used = refl
  tests_are (suc n) β used = tests_are n β _ ∙ go (told_both β (p.test n))
    where
      go : (b : Bool) → marked (cond b used (marked used (sides (p.test n)))) (each (down_from n) (open_rows β))
          ≡ marked used (cond b [] (sides (p.test n)) ++ each (down_from n) (open_rows β))
      go true = refl
      go false = sym (marked_append used (sides (p.test n)) _)

  -- ---- a mode is right before the steps ss

  -- that by the head, for any part
  pub head_suits : (β : List ℕ) (x : Part) (ss : List Step) → Suits p (mode_by_head p β) x β ss
  head_suits β x ss = cond_both (head_bound p β) enough every (λ (m : Mode). Suits p m x β ss) bound_all (λ f. tt)
    where
      bound_all : head_bound p β ≡ true → (v : ℕ) → Memᴰ (var v) p.head → at β v ≢ unbound
      bound_all f v m =
          let r = placed p.head v m in
          subst (λ (e : Expr). bound β e ≢ unbound) r.2 (bound_of p.head β 12 f r.0 (omega (arith, r.1, S.head)))

  pub head_finds : (β : List ℕ) → finds (mode_by_head p β) ≡ true
  head_finds β = cond_both (head_bound p β) enough every (λ (m : Mode). finds m ≡ true) (λ f. refl) (λ f. refl)

  -- that of body fact i
  module _ (met β : List ℕ) (i : ℕ) (ss : List Step) (l8 : length β ≡ 8) (there : i < p.bodies)
      (ahead : (s : Step) → Memᴰ s ss → Later (set met i 0) (with_fact p β i) s) where
    abbrev met' : List ℕ
    met' = set met i 0

    abbrev β' : List ℕ
    β' = with_fact p β i

    abbrev rows : List Expr
    rows = p.head ++ (each (below 4 (is_left p met')) p.body ++ each (down_from p.tests) (open_rows β'))

    used_are : used_later p met' β' ≡ marked unbound8 rows
    used_are =
        tests_are p.tests β' (used_facts p 4 met' (marked unbound8 p.head))
        ∙ ap (λ (u : List ℕ). marked u (each (down_from p.tests) (open_rows β'))) (facts_are 4 met' (marked unbound8 p.head))
        ∙ sym (marked_append (marked unbound8 p.head) (each (below 4 (is_left p met')) p.body) _)
        ∙ sym (marked_append unbound8 p.head _)

    unused : is_apart p met β i ≡ true → (v : ℕ) → Memᴰ (var v) (p.body i) → at β v ≡ unbound → Unused p ss v
    unfolding is_apart
    unused e v m z = record { head = λ k. nowhere (Memᴰ.append_left _ k); rows = in_rows; tests = in_tests }
      where
        v8 : v < 8
        v8 = small (p.body i) (S.rows i there) v m

        now : at β' v ≢ unbound
        now = marked_in (p.body i) β v m (rw l8 v8)

        nowhere : Memᴰ (var v) rows → ⊥
        nowhere k =
            let free = apart_of 8 β β' (used_later p met' β') e v v8 z now in
            marked_in rows unbound8 v k v8 (ap (λ (u : List ℕ). at u v) (sym used_are) ∙ free)

        in_rows : (s : Step) → Memᴰ s ss → Memᴰ (var v) (exprs_of p s.part) → ⊥
        in_rows s k n = go s.part (ahead s k).part n
          where
            go : (x : Part) → Ahead met' β' x → Memᴰ (var v) (exprs_of p x) → ⊥
            go (body_fact j) a n =
                let j4 : j < 4 = (let b = (left_there S met' j a).0 in omega (arith, S.few)) in
                nowhere (Memᴰ.append_right p.head (Memᴰ.append_left _ (each_in p.body (below_in 4 (is_left p met') j j4 a) n)))
            go (variable w) a n = now (ap (at β') (same (Memᴰ.eq_of_singleton n)) ∙ a)
              where
                same : var v ≡ var w → v ≡ w
                same q = ap (λ (e : Expr). elim e as (λ x. ℕ) [ con c ↦ 0 | var x ↦ x | today ↦ 0 ]) q

        in_tests : (s : Step) → Memᴰ s ss → (j : ℕ) → Memᴰ j s.tests → Memᴰ v (vars_test (p.test j)) → ⊥
        in_tests s k j n o =
            let t = (ahead s k).tests j n in
            let row : Memᴰ (var v) (open_rows β' j) = rw t.1 (in_sides (p.test j) v o) in
            nowhere (Memᴰ.append_right p.head (Memᴰ.append_right (each (below 4 (is_left p met')) p.body)
            (each_in (open_rows β') (down_in p.tests j t.0) row)))

    pub suits : Suits p (mode_of p met β i) (body_fact i) β ss
    unfolding mode_of
    suits =
        cond_both (is_apart p met β i) once (mode_by_head p β) (λ (m : Mode). Suits p m (body_fact i) β ss) unused (λ e. head_suits β (body_fact i) ss)

  pub mode_finds : (met β : List ℕ) (i : ℕ) → finds (mode_of p met β i) ≡ true
  unfolding mode_of
  mode_finds met β i = cond_both (is_apart p met β i) once (mode_by_head p β) (λ (m : Mode). finds m ≡ true) (λ a. refl) (λ a. head_finds β)
