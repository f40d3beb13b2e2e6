-- The asks of an item's demands mean what the model says of the demands (law A), so the cells say whether a choice of kinds fits (law C).
use mathlib.Core.Path.{◌≡◌, refl, sym, ◌∙◌}
use mathlib.Core.Logic.{◌↔◌, ⊎_elim}
use mathlib.Core.Bool.{Bool, true, false, ◌&&◌, ◌||◌}
use mathlib.Core.List.Memᴰ
use mathlib.Core.List.{List, [], ◌∷◌, map, Memᴰ}
use Prim.Native.Nat.{ℕ, zero, suc, ◌≤◌, ◌<◌}
use native.Mathlib.Decide.{dec_lt}
use native.Mathlib.Omega.{arith}
use lib.Dec.{T, eqb, ltb, eqb→eq, ltb→lt, lt→ltb, leb, leb→le}
use lib.ListN.{length, get_or, get_or-eq_default}
use Rattle.model.specs.Lists.{all, each}
use Rattle.model.specs.Syntax.{Expr, con, var, today, Constraint, Constant, vars_of, vars_test}
use Rattle.model.specs.Kinds.{Demands, kind_at, kind_under, in_place, operands, comparable, meets, fitting, kinds, occurring, kind_of}
use Rattle.model.proofs.ListFacts.{and_of, and_in, or_of, or_left, or_right, eqb_in, each_of, all_of_law}
use Rattle.model.proofs.KindFacts.{fitting↔, one_kind_law}
use Rattle.model.proofs.Tests.{by_lt}
use Rattle.model.proofs.ByteFacts.{below_length}
use Rattle.std.proofs.Common.{Option, Some, None, is_some, slice_get}
use Rattle.limits.specs.declared.Kind.{Kind}
use Rattle.limits.specs.Kinds.{number_of}
use Rattle.kinds.specs.declared.Term.{Term}
use Rattle.kinds.specs.declared.Term.TheVariants.{Variable, Any}
use Rattle.kinds.specs.declared.Cell.TheVariants.{Settled}
use Rattle.kinds.specs.Cells.{Cells, Ask, same, feed, nothing}
use Rattle.kinds.specs.Asks.{kind_term, term_of, place_term, ask_place, operator_asks, ask_test, asks_for, Regular}
use Rattle.kinds.specs.Choices.{Choice, kind_in, Meets, MeetsAll}
use Rattle.kinds.proofs.Exact.{number_range}
use Rattle.kinds.proofs.Meaning.{feed_law, sole_kind, member_met, meets_append}

-- ---- the kind of a term

kind_term_law : (κ : List ℕ) (k : ℕ) → k ≤ 4 → kind_in κ (kind_term k) ≡ k
kind_term_law κ zero h = refl
kind_term_law κ (suc zero) h = refl
kind_term_law κ (suc (suc zero)) h = refl
kind_term_law κ (suc (suc (suc zero))) h = refl
kind_term_law κ (suc (suc (suc (suc zero)))) h = refl
kind_term_law κ (suc (suc (suc (suc (suc k))))) h = absurd (omega arith)

module _ (κ : List ℕ) (K : Choice κ) where
  no_kind : (v : ℕ) → 8 ≤ v → get_or κ v 0 ≡ 0
  no_kind v l = let k : length κ ≡ 8 = K.0 in get_or-eq_default κ 0 (omega arith)

  below_eight : (v : ℕ) → 1 ≤ get_or κ v 0 → v < 8
  below_eight v h = by_lt v 8 (λ l. l) (λ l. let e = no_kind v l in absurd (omega arith))

  kind_high : (x : Option Term) → kind_in κ x ≤ 4
  kind_high (Some (Variable v)) = by_lt v 8 (λ l. (K.1 v l).1) (λ l. let e = no_kind v l in omega arith)
  kind_high (Some (Any k)) = (number_range k).1
  kind_high None = omega arith

  -- ---- constraints

  two_of : (k l j : ℕ) → T (eqb k j && eqb l j) → (k ≡ j) × (l ≡ j)
  two_of k l j t = let w = and_of (eqb k j) (eqb l j) t in (eqb→eq k j w.0, eqb→eq l j w.1)

  two_in : (k l j : ℕ) → k ≡ j → l ≡ j → T (eqb k j && eqb l j)
  two_in k l j e d = and_in (eqb k j) (eqb l j) (eqb_in e) (eqb_in d)

  three : (k l : ℕ) → k ≡ l → 3 ≤ k → k ≤ 4 → Dec (k < 4) → T ((eqb k 3 && eqb l 3) || (eqb k 4 && eqb l 4))
  three k l e lo hi (yes h) = or_left (eqb k 3 && eqb l 3) _ (two_in k l 3 (omega arith) (omega arith))
  three k l e lo hi (no h) = or_right (eqb k 3 && eqb l 3) _ (two_in k l 4 (omega arith) (omega arith))

  equal_kinds : (k l : ℕ) → T (eqb k l && ltb 0 k) ↔ (((1 ≤ k) × (k ≡ l)) × Unit {0})
  equal_kinds k l = (
    λ t. let w = and_of (eqb k l) (ltb 0 k) t in ((ltb→lt 0 k w.1, eqb→eq k l w.0), tt),
    λ m. and_in (eqb k l) (ltb 0 k) (eqb_in m.0.1) (lt→ltb 0 k m.0.0),
  )

  both_kind : (j : ℕ) → 1 ≤ j → (k l : ℕ) → T (eqb k j && eqb l j) ↔ (((1 ≤ k) × (k ≡ l)) × (((1 ≤ k) × (k ≡ j)) × Unit {0}))
  both_kind j lo k l = (
    λ t. let e = two_of k l j t in let h : 1 ≤ k = rw e.0 lo in ((h, e.0 ∙ sym e.1), ((h, e.0), tt)),
    λ m. two_in k l j m.1.0.1 (sym m.0.1 ∙ m.1.0.1),
  )

  counted_kinds : (k l : ℕ) → k ≤ 4 → T ((eqb k 3 && eqb l 3) || (eqb k 4 && eqb l 4)) ↔ (((1 ≤ k) × (k ≡ l)) × ((3 ≤ k) × Unit {0}))
  counted_kinds k l hi = (
    λ t. ⊎_elim
        (λ u. let e = two_of k l 3 u in ((omega arith, e.0 ∙ sym e.1), (omega arith, tt)))
        (λ u. let e = two_of k l 4 u in ((omega arith, e.0 ∙ sym e.1), (omega arith, tt)))
        (or_of (eqb k 3 && eqb l 3) (eqb k 4 && eqb l 4) t),
    λ m. three k l m.0.1 m.1.0 hi (dec_lt k 4),
  )

  test_kinds : (op : ℕ) → 1 ≤ op → op ≤ 5 → (x y : Option Term)
      → T (operands op (kind_in κ x) (kind_in κ y)) ↔ MeetsAll κ (same x y ∷ operator_asks op x)
  unfolding operator_asks
  test_kinds zero lo hi x y = absurd (omega arith)
  test_kinds (suc zero) lo hi x y = equal_kinds (kind_in κ x) (kind_in κ y)
  test_kinds (suc (suc zero)) lo hi x y = equal_kinds (kind_in κ x) (kind_in κ y)
  test_kinds (suc (suc (suc zero))) lo hi x y = counted_kinds (kind_in κ x) (kind_in κ y) (kind_high x)
  test_kinds (suc (suc (suc (suc zero)))) lo hi x y = both_kind 2 (omega arith) (kind_in κ x) (kind_in κ y)
  test_kinds (suc (suc (suc (suc (suc zero))))) lo hi x y = both_kind 3 (omega arith) (kind_in κ x) (kind_in κ y)
  test_kinds (suc (suc (suc (suc (suc (suc op)))))) lo hi x y = absurd (omega arith)

  module _ (cs : List Constant) (C : (c : ℕ) → kind_at cs c ≤ 4) where
    of_expr : (e : Expr) → kind_in κ (term_of cs e) ≡ kind_under cs κ e
    unfolding term_of
    of_expr (con c) = kind_term_law κ (kind_at cs c) (C c)
    of_expr (var v) = refl
    of_expr today = refl

    one_test : (c : Constraint) → 1 ≤ c.op → c.op ≤ 5 → T (comparable cs κ c) ↔ MeetsAll κ (ask_test cs c)
    unfolding ask_test
    one_test c lo hi = rw (sym (of_expr c.left), sym (of_expr c.right)) (test_kinds c.op lo hi (term_of cs c.left) (term_of cs c.right))

    all_tests : (ts : List Constraint) → ((c : Constraint) → Memᴰ c ts → (1 ≤ c.op) × (c.op ≤ 5))
        → T (all (comparable cs κ) ts) ↔ MeetsAll κ (each ts (ask_test cs))
    all_tests [] h = (λ t. tt, λ m. tt)
    all_tests (c ∷ ts) h =
        let k = h c (Memᴰ.head refl) in
        let q = one_test c k.0 k.1 in
        let r = all_tests ts (λ x m. h x (Memᴰ.tail m)) in
        let a = meets_append κ (ask_test cs c) (each ts (ask_test cs)) in (
          λ t. let w = and_of (comparable cs κ c) (all (comparable cs κ) ts) t in a.1 (q.0 w.0, r.0 w.1),
          λ m. let w = a.0 m in and_in (comparable cs κ c) (all (comparable cs κ) ts) (q.1 w.0) (r.1 w.1),
        )

    -- ---- places

    in_place_law : (x : Option Term) (k j : ℕ) → kind_in κ x ≡ k → 1 ≤ j → j ≤ 4 → T (eqb k j) ↔ Meets κ (same x (kind_term j))
    in_place_law x k j e l h =
        let d = kind_term_law κ j h in
        (λ t. let q : k ≡ j = eqb→eq k j t in (omega arith, e ∙ q ∙ sym d), λ m. eqb_in (sym e ∙ m.1 ∙ d))

    place_asks : (p : ℕ × Expr) → 1 ≤ p.0 → p.0 ≤ 4 → T (in_place cs κ p) ↔ Meets κ (ask_place cs p)
    unfolding place_term
    place_asks p l h = go p.1
      where
        go : (e : Expr) → T (in_place cs κ (p.0, e)) ↔ Meets κ (ask_place cs (p.0, e))
        go (con c) = in_place_law (kind_term (kind_at cs c)) (kind_at cs c) p.0 (kind_term_law κ (kind_at cs c) (C c)) l h
        go (var v) = in_place_law (Some (Variable v)) (get_or κ v 0) p.0 refl l h
        go today = (λ t. absurd t, λ m. absurd (let w = m.0 in omega arith))

    all_places : (ps : List (ℕ × Expr)) → ((p : ℕ × Expr) → Memᴰ p ps → (1 ≤ p.0) × (p.0 ≤ 4))
        → T (all (in_place cs κ) ps) ↔ MeetsAll κ (map (ask_place cs) ps)
    all_places [] h = (λ t. tt, λ m. tt)
    all_places (p ∷ ps) h =
        let k = h p (Memᴰ.head refl) in
        let q = place_asks p k.0 k.1 in
        let r = all_places ps (λ x m. h x (Memᴰ.tail m)) in
        (λ t. let w = and_of (in_place cs κ p) _ t in (q.0 w.0, r.0 w.1), λ m. and_in (in_place cs κ p) _ (q.1 m.0) (r.1 m.1))

-- LAW A: a choice meets the demands exactly if it meets all that they ask
pub meets_asks : (cs : List Constant) (D : Demands) → Regular cs D → (κ : List ℕ) → Choice κ → T (meets cs D κ) ↔ MeetsAll κ (asks_for cs D)
meets_asks cs D R κ K =
    let p = all_places κ K cs R.constants D.places R.places in
    let q = all_tests κ K cs R.constants D.tests R.tests in
    let a = meets_append κ (map (ask_place cs) D.places) (each D.tests (ask_test cs)) in (
      λ t. let w = and_of (all (in_place cs κ) D.places) (all (comparable cs κ) D.tests) t in a.1 (p.0 w.0, q.0 w.1),
      λ m. let w = a.0 m in and_in (all (in_place cs κ) D.places) (all (comparable cs κ) D.tests) (p.1 w.0) (q.1 w.1),
    )

-- ---- the model's choices are these

kind_of_law : (k : ℕ) → Memᴰ k kinds → (1 ≤ k) × (k ≤ 4)
kind_of_law k m =
    let t = all_of_law (λ (k : ℕ). leb 1 k && leb k 4) {xs = kinds} tt m in
    let r = and_of (leb 1 k) (leb k 4) t in
    (leb→le 1 k r.0, leb→le k 4 r.1)

kind_in_law : (k : ℕ) → 1 ≤ k → k ≤ 4 → Memᴰ k kinds
kind_in_law zero l h = absurd (omega arith)
kind_in_law (suc zero) l h = Memᴰ.head refl
kind_in_law (suc (suc zero)) l h = Memᴰ.tail (Memᴰ.head refl)
kind_in_law (suc (suc (suc zero))) l h = Memᴰ.tail (Memᴰ.tail (Memᴰ.head refl))
kind_in_law (suc (suc (suc (suc zero)))) l h = Memᴰ.tail (Memᴰ.tail (Memᴰ.tail (Memᴰ.head refl)))
kind_in_law (suc (suc (suc (suc (suc k))))) l h = absurd (omega arith)

same_test : (a b : Bool) → (a ≡ true → T b) → (T b → a ≡ true) → a ≡ b
same_test true true f g = refl
same_test true false f g = absurd (f refl)
same_test false true f g = g tt
same_test false false f g = refl

-- the variables that occur are among the eight, where some choice meets what is asked
module _ (cs : List Constant) where
  low_place : (κ : List ℕ) → Choice κ → (e : Expr) (v : ℕ) → Memᴰ v (vars_of e) → 1 ≤ kind_in κ (place_term cs e) → v < 8
  unfolding place_term
  low_place κ K (con c) v m h = absurd (Memᴰ.not-nil m)
  low_place κ K (var w) v m h = let e = Memᴰ.eq_of_singleton m in rw e (below_eight κ K w h)
  low_place κ K today v m h = absurd (Memᴰ.not-nil m)

  low_term : (κ : List ℕ) → Choice κ → (e : Expr) (v : ℕ) → Memᴰ v (vars_of e) → 1 ≤ kind_in κ (term_of cs e) → v < 8
  unfolding term_of
  low_term κ K (con c) v m h = absurd (Memᴰ.not-nil m)
  low_term κ K (var w) v m h = let e = Memᴰ.eq_of_singleton m in rw e (below_eight κ K w h)
  low_term κ K today v m h = absurd (Memᴰ.not-nil m)

  low_test : (κ : List ℕ) → Choice κ → (c : Constraint) (v : ℕ) → MeetsAll κ (ask_test cs c) → Memᴰ v (vars_test c) → v < 8
  unfolding ask_test
  low_test κ K c v m n = ⊎_elim (λ a. low_term κ K c.left v a m.0.0) (λ b. low_term κ K c.right v b (rw m.0.1 at m.0.0)) (Memᴰ.append_cases (vars_of c.left) n)

  tests_met : (κ : List ℕ) (ts : List Constraint) {c : Constraint} → MeetsAll κ (each ts (ask_test cs)) → Memᴰ c ts → MeetsAll κ (ask_test cs c)
  tests_met κ [] m n = absurd (Memᴰ.not-nil n)
  tests_met κ (t ∷ ts) m n =
      let w = (meets_append κ (ask_test cs t) (each ts (ask_test cs))).0 m in
      ⊎_elim (λ e. rw e w.0) (λ k. tests_met κ ts w.1 k) (Memᴰ.cases_cons n)

  low_vars : (D : Demands) (κ : List ℕ) → Choice κ → MeetsAll κ (asks_for cs D) → (v : ℕ) → Memᴰ v (occurring D) → v < 8
  low_vars D κ K m v n =
      let w = (meets_append κ (map (ask_place cs) D.places) (each D.tests (ask_test cs))).0 m in
      ⊎_elim
      (λ a.
      let r = each_of (λ (p : ℕ × Expr). vars_of p.1) D.places a in
      low_place κ K r.0.1 v r.2 (member_met κ (Memᴰ.map (ask_place cs) r.1) w.0).0)
      (λ b. let r = each_of vars_test D.tests b in low_test κ K r.0 v (tests_met κ D.tests w.1 r.1) r.2)
      (Memᴰ.append_cases (each D.places (λ (p : ℕ × Expr). vars_of p.1)) n)

module _ (cs : List Constant) (D : Demands) (R : Regular cs D) where
  -- LAW C, for asks that come to the same: the cells are good exactly if a choice of kinds fits
  pub fits_asks : (qs : List Ask) → ((κ : List ℕ) → Choice κ → MeetsAll κ qs ↔ MeetsAll κ (asks_for cs D)) → is_some (feed qs nothing) ≡ fitting cs D
  fits_asks qs h = same_test (is_some (feed qs nothing)) (fitting cs D)
      (λ e.
      let r = (feed_law qs).0 e in
      let met = (meets_asks cs D R r.0 r.1).1 ((h r.0 r.1).0 r.2) in
      (fitting↔ cs D).1 (r.0, r.1.0, λ v l. let k = r.1.1 v l in kind_in_law (get_or r.0 v 0) k.0 k.1, met))
      (λ t. let r = (fitting↔ cs D).0 t in
      let K : Choice r.0 = (r.1, λ v l. kind_of_law (get_or r.0 v 0) (r.2 v l)) in
      (feed_law qs).1 (r.0, K, (h r.0 K).1 ((meets_asks cs D R r.0 K).0 r.3)))

  -- LAW C
  pub fits : is_some (feed (asks_for cs D) nothing) ≡ fitting cs D
  fits = fits_asks (asks_for cs D) (λ κ K. (λ m. m, λ m. m))

  -- where a choice fits, the variables are among the eight
  pub fits_low : T (fitting cs D) → (v : ℕ) → Memᴰ v (occurring D) → v < 8
  fits_low t = let r = (fitting↔ cs D).0 t in
      let K : Choice r.0 = (r.1, λ v l. kind_of_law (get_or r.0 v 0) (r.2 v l)) in
      low_vars cs D r.0 K ((meets_asks cs D R r.0 K).0 r.3)

  -- LAW D, in the model's words: the cell of a variable with a place in a fact has its kind
  pub kind_cell : (qs : List Ask) → ((κ : List ℕ) → MeetsAll κ qs ↔ MeetsAll κ (asks_for cs D)) → (t : Cells) → feed qs nothing ≡ Some t
      → (v : ℕ) → (¬ (kind_of D.places v ≡ 0)) → (k : Kind) × (slice_get t v ≡ Some (Settled k)) × (number_of k ≡ kind_of D.places v)
  kind_cell qs h t e v n = sole_kind qs t e v (kind_of D.places v) low one
    where
      one : (κ : List ℕ) → Choice κ → MeetsAll κ qs → get_or κ v 0 ≡ kind_of D.places v
      one κ K m =
          one_kind_law cs κ D.places (and_of (all (in_place cs κ) D.places) (all (comparable cs κ) D.tests) ((meets_asks cs D R κ K).1 ((h κ).0 m))).0 v n

      low : v < 8
      low = let r = (feed_law qs).0 (rw e) in below_length r.0 8 r.1.0 v (λ z. n (sym (one r.0 r.1 r.2) ∙ z))
