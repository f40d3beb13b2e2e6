-- The same of constraints, and of assertions up to their item's end.
use mathlib.Core.Path.{◌≡◌, refl, sym, ap, ◌∙◌}
use mathlib.Core.List.{List, [], ◌∷◌}
use mathlib.Core.Bool.{Bool, true, false, ◌&&◌}
use Prim.Native.Nat.{ℕ, zero, suc, ◌+◌, ◌*◌, ◌<◌, ◌≤◌}
use native.Mathlib.Decide.{dec_lt}
use native.Mathlib.Omega.{arith}
use lib.Dec.{eqb, ltb, leb}
use borrow.Author.Tests.{lt-ltb, le-ltb, le-leb, lt-leb, eq-eqb, ne_eqb, eqb-true}
use Rattle.model.specs.Limits.{max_body, max_constraints, max_operator}
use Rattle.model.specs.Syntax.{Expr, Fact, Constraint, Assertion, Verb}
use Rattle.model.specs.Bytes.{byte_at, u16_at, u32_at, choose, both, Reading, got, refused, and_then}
use Rattle.model.specs.Readings.{expr_at, constraint_at, constraints_at, fact_at, fact_end, facts_at, facts_end}
use Rattle.model.specs.Forms.{ends, broken, then_form, fact_form, facts_form, operator_form, operators_form, tests_form, body_form, statement_form}
use Rattle.model.specs.Reader.{times, u16, u32, byte_in}
use Rattle.model.specs.Layout.{expr, constraint, fact, assertion}
use Rattle.model.proofs.ReaderLaws.{then_in, then_out, then_choose, then_then, choose_true, choose_false, u16_in, u16_out, u32_in, u32_out}
use Rattle.model.proofs.ReaderLaws.{byte_in_is, byte_in_out, upto_then, upto_in, upto_out}
use Rattle.model.proofs.FactReader.{as_reading, as_choose, as_choose2, as_skip, as_stop, expr_in_law, expr_out, fact_then, facts_then}

pub both_and : (a b : Bool) → both a b ≡ (a && b)
unfolding both choose
both_and true b = refl
both_and false b = refl

module _ (s : List ℕ) (at e : ℕ) where
  -- ---- a constraint

  abbrev after : ℕ → ℕ → ℕ → Reading Constraint
  after p o q = and_then (expr s at e q) (λ l z. and_then (expr s at e z) (λ r w. got (record { op = o; left = l; right = r }) w))

  after_in : (o p : ℕ) → p + 5 ≤ e → after p o (p + 1) ≡ got (record { op = o; left = expr_at s (p + 1); right = expr_at s (p + 3) }) (p + 5)
  after_in o p h = then_in _ (expr_in_law s at e (p + 1) (p + 3) (omega arith) (omega arith)) ∙ then_in _ (expr_in_law s at e (p + 3) (p + 5) (omega arith) h)

  after_out : (o p : ℕ) → e < p + 5 → after p o (p + 1) ≡ refused 3 at
  after_out o p h = go (dec_lt e (p + 3))
    where
      go : Dec (e < p + 3) → after p o (p + 1) ≡ refused 3 at
      go (yes k) = then_out _ (expr_out s at e (p + 1) (omega arith))
      go (no k) = then_in _ (expr_in_law s at e (p + 1) (p + 3) (omega arith) (omega arith)) ∙ then_out _ (expr_out s at e (p + 3) (omega arith))

  constraint_there : (p : ℕ) → p < e → constraint s at e p ≡ choose (operator_form s p) (after p (byte_at s p) (p + 1)) (refused 3 at)
  unfolding constraint operator_form and_then
  constraint_there p h =
      ap (λ (t : Reading ℕ). and_then t (after p)) (byte_in_is s at e 1 max_operator p h)
      ∙ then_choose (leb 1 (byte_at s p) && leb (byte_at s p) max_operator) (got (byte_at s p) (p + 1)) (refused 3 at) (after p)
      ∙ ap (λ (b : Bool). choose b (after p (byte_at s p) (p + 1)) (refused 3 at)) (sym (both_and (leb 1 (byte_at s p)) (leb (byte_at s p) max_operator)))

  pub constraint_in : (p : ℕ) → p + 5 ≤ e → constraint s at e p ≡ choose (operator_form s p) (got (constraint_at s p) (p + 5)) (refused 3 at)
  constraint_in p h = constraint_there p (omega arith) ∙ ap (λ (t : Reading Constraint). choose (operator_form s p) t (refused 3 at))
      (after_in (byte_at s p) p h)

  pub constraint_out : (p : ℕ) → e < p + 5 → constraint s at e p ≡ refused 3 at
  unfolding constraint
  constraint_out p h = go (dec_lt p e)
    where
      same : (b : Bool) → ◌≡◌ {A = Reading Constraint} (choose b (refused 3 at) (refused 3 at)) (refused 3 at)
      same true = choose_true _ _ refl
      same false = choose_false _ _ refl

      go : Dec (p < e) → constraint s at e p ≡ refused 3 at
      go (yes k) = constraint_there p k ∙ ap (λ (t : Reading Constraint). choose (operator_form s p) t (refused 3 at)) (after_out (byte_at s p) p h)
          ∙ same (operator_form s p)
      go (no k) = then_out _ (byte_in_out s at e 1 max_operator p (omega arith))

  -- ---- n constraints

  pub constraints_in : (n p q : ℕ) → p + 5 * n ≡ q → q ≤ e → times n (constraint s) at e p
      ≡ choose (operators_form n s p) (got (constraints_at n s p) q) (refused 3 at)
  unfolding times operators_form constraints_at choose both and_then
  constraints_in zero p q i h = ap (got []) (let k : p ≡ q = omega arith in k)
  constraints_in (suc n) p q i h = go (operator_form s p) refl (constraints_in n (p + 5) q (omega arith) h)
    where
      again : (c : Bool) → times n (constraint s) at e (p + 5) ≡ choose c (got (constraints_at n s (p + 5)) q) (refused 3 at)
          → and_then (times n (constraint s) at e (p + 5)) (λ xs z. got (constraint_at s p ∷ xs) z)
          ≡ choose c (got (constraint_at s p ∷ constraints_at n s (p + 5)) q) (refused 3 at)
      again true r = then_in _ r
      again false r = then_out _ r

      go : (b : Bool) → operator_form s p ≡ b → times n (constraint s) at e (p + 5) ≡ choose (operators_form n s (p + 5)) (got (constraints_at n s (p + 5)) q)
          (refused 3 at)
          → times (suc n) (constraint s) at e p ≡ choose (choose b (operators_form n s (p + 5)) false) (got (constraints_at (suc n) s p) q) (refused 3 at)
      go true w r = then_in _ (constraint_in p (omega arith) ∙ choose_true _ _ w) ∙ again (operators_form n s (p + 5)) r
      go false w r = then_out _ (constraint_in p (omega arith) ∙ choose_false _ _ w)

  pub constraints_out : (n p : ℕ) → p ≤ e → e < p + 5 * n → times n (constraint s) at e p ≡ refused 3 at
  unfolding times
  constraints_out zero p l h = absurd (omega arith)
  constraints_out (suc n) p l h = go (dec_lt e (p + 5)) (λ k. constraints_out n (p + 5) k (omega arith)) (operator_form s p) refl
    where
      go : Dec (e < p + 5) → (p + 5 ≤ e → times n (constraint s) at e (p + 5) ≡ refused 3 at) → (b : Bool) → operator_form s p ≡ b
          → times (suc n) (constraint s) at e p ≡ refused 3 at
      go (yes k) r b w = then_out _ (constraint_out p k)
      go (no k) r true w = then_in _ (constraint_in p (omega arith) ∙ choose_true _ _ w) ∙ then_out _ (r (omega arith))
      go (no k) r false w = then_out _ (constraint_in p (omega arith) ∙ choose_false _ _ w)

-- ---- the end of an item

module _ {A : Type 0} (at e : ℕ) where
  -- the item ends at q, having been read as x
  abbrev pub closing : A → ℕ → Reading A
  closing x q = and_then (choose (eqb q e) (got tt q) (refused 3 at)) (λ (y : Unit {0}) z. got x z)

  pub closing_yes : (x : A) (q : ℕ) → q ≡ e → closing x q ≡ got x e
  closing_yes x q h = then_in _ (choose_true _ _ (eq-eqb q e h)) ∙ ap (got x) h

  pub closing_no : (x : A) (q : ℕ) → (q ≡ e → ⊥) → closing x q ≡ refused 3 at
  closing_no x q h = then_out _ (choose_false _ _ (ne_eqb q e h))

module _ (s : List ℕ) (vs : List Verb) (at e : ℕ) where
  module _ {A : Type 0} (k : List Constraint → A) where
    -- constraints up to the item's end
    all_tests : (n p : ℕ) → p ≤ e
        → and_then (times n (constraint s) at e p) (λ ts q. closing at e (k ts) q)
        ≡ as_reading at (choose (eqb (p + 5 * n) e) (choose (operators_form n s p) (ends e) broken) broken) (k (constraints_at n s p))
    unfolding choose
    all_tests n p l = go (dec_lt e (p + 5 * n))
      where
        fits : (b : Bool) → eqb (p + 5 * n) e ≡ b → (c : Bool) → times n (constraint s) at e p ≡ choose c (got (constraints_at n s p) (p + 5 * n))
            (refused 3 at)
            → and_then (times n (constraint s) at e p) (λ ts q. closing at e (k ts) q)
            ≡ as_reading at (choose b (choose c (ends e) broken) broken) (k (constraints_at n s p))
        fits true h true r = then_in _ r ∙ closing_yes at e (k (constraints_at n s p)) (p + 5 * n) (eqb-true (p + 5 * n) e h)
        fits true h false r = then_out _ r
        fits false h true r = then_in _ r ∙ then_out _ (choose_false _ _ h)
        fits false h false r = then_out _ r

        go : Dec (e < p + 5 * n) → and_then (times n (constraint s) at e p) (λ ts q. closing at e (k ts) q)
            ≡ as_reading at (choose (eqb (p + 5 * n) e) (choose (operators_form n s p) (ends e) broken) broken) (k (constraints_at n s p))
        go (yes h) = then_out _ (constraints_out s at e n p l h) ∙ sym (as_skip at (choose (operators_form n s p) (ends e) broken) broken
            (k (constraints_at n s p)) (ne_eqb (p + 5 * n) e (λ i. omega arith)))
        go (no h) = fits (eqb (p + 5 * n) e) refl (operators_form n s p) (constraints_in s at e n p (p + 5 * n) refl (omega arith))

    pub tests_is : (p : ℕ) → and_then (byte_in s 0 max_constraints at e p) (λ n q. and_then (times n (constraint s) at e q) (λ ts z. closing at e (k ts) z))
        ≡ as_reading at (tests_form vs s e p) (k (constraints_at (byte_at s p) s (p + 1)))
    unfolding tests_form
    tests_is p = go (dec_lt p e)
      where
        go : Dec (p < e) → and_then (byte_in s 0 max_constraints at e p) (λ n q. and_then (times n (constraint s) at e q) (λ ts z. closing at e (k ts) z))
            ≡ as_reading at (tests_form vs s e p) (k (constraints_at (byte_at s p) s (p + 1)))
        go (yes h) =
            upto_in s at e (λ n q. and_then (times n (constraint s) at e q) (λ ts z. closing at e (k ts) z)) max_constraints p (p + 1) refl (omega arith)
            ∙ ap (λ (t : Reading A). choose (ltb max_constraints (byte_at s p)) (refused 3 at) t) (all_tests (byte_at s p) (p + 1) (omega arith))
            ∙ sym (as_choose at (ltb max_constraints (byte_at s p)) broken
            (choose (eqb (p + 1 + 5 * byte_at s p) e) (choose (operators_form (byte_at s p) s (p + 1)) (ends e) broken) broken)
            (k (constraints_at (byte_at s p) s (p + 1))))
            ∙ sym (as_skip at broken (choose (ltb max_constraints (byte_at s p)) broken
            (choose (eqb (p + 1 + 5 * byte_at s p) e) (choose (operators_form (byte_at s p) s (p + 1)) (ends e) broken) broken))
            (k (constraints_at (byte_at s p) s (p + 1))) (lt-leb e p h))
        go (no h) = upto_out s at e (λ n q. and_then (times n (constraint s) at e q) (λ ts z. closing at e (k ts) z)) max_constraints p (omega arith)
            ∙ sym (as_stop at broken (choose (ltb max_constraints (byte_at s p)) broken
            (choose (eqb (p + 1 + 5 * byte_at s p) e) (choose (operators_form (byte_at s p) s (p + 1)) (ends e) broken) broken))
            (k (constraints_at (byte_at s p) s (p + 1))) (le-leb e p (omega arith)))

  -- where the constraints begin, and what is read from the count of body facts on
  abbrev pub tail_at : ℕ → ℕ
  tail_at p = facts_end vs (byte_at s p) s (p + 1)

  module _ {A : Type 0} (k : List (Fact Expr) → List Constraint → A) where
    pub body_is : (p : ℕ) → and_then (byte_in s 0 max_body at e p) (λ n q. and_then (times n (fact s vs) at e q)
        (λ fs z. and_then (byte_in s 0 max_constraints at e z) (λ m w. and_then (times m (constraint s) at e w) (λ ts y. closing at e (k fs ts) y))))
        ≡ as_reading at (body_form vs s e p) (k (facts_at vs (byte_at s p) s (p + 1)) (constraints_at (byte_at s (tail_at p)) s (tail_at p + 1)))
    unfolding body_form
    body_is p =
        upto_then s at e _ max_body p
        ∙ ap (λ (t : Reading A). choose (leb e p) (refused 3 at) (choose (ltb max_body (byte_at s p)) (refused 3 at) t))
        (facts_then s vs at e (byte_at s p) (p + 1) _ (tests_form vs s e)
        (k (facts_at vs (byte_at s p) s (p + 1)) (constraints_at (byte_at s (tail_at p)) s (tail_at p + 1)))
        (tests_is (k (facts_at vs (byte_at s p) s (p + 1))) (tail_at p)))
        ∙ sym (as_choose2 at (leb e p) (ltb max_body (byte_at s p)) (then_form (facts_form vs s e (byte_at s p) (p + 1)) (tests_form vs s e))
        (k (facts_at vs (byte_at s p) s (p + 1)) (constraints_at (byte_at s (tail_at p)) s (tail_at p + 1))))

  -- what stands from the serial on
  abbrev pub statement_at : ℕ → Assertion
  statement_at p = let b = fact_end vs s (p + 6) in
      record {
        serial = u32_at s p;
        issuer = u16_at s (p + 4);
        head = fact_at vs s (p + 6);
        body = facts_at vs (byte_at s b) s (b + 1);
        tests = constraints_at (byte_at s (tail_at b)) s (tail_at b + 1);
      }

  -- from the count of body facts on, given what stands before
  abbrev from_body : {A : Type 0} → (List (Fact Expr) → List Constraint → A) → ℕ → Reading A
  from_body k z = and_then (byte_in s 0 max_body at e z) (λ n q. and_then (times n (fact s vs) at e q)
      (λ fs z. and_then (byte_in s 0 max_constraints at e z) (λ m w. and_then (times m (constraint s) at e w) (λ ts y. closing at e (k fs ts) y))))

  abbrev from_head : ℕ → ℕ → ℕ → Reading Assertion
  from_head n i z = and_then (fact s vs at e z) (λ h w. from_body (λ fs ts. record { serial = n; issuer = i; head = h; body = fs; tests = ts }) w)

  flattened : (p : ℕ) → and_then (assertion s vs at e p) (λ a q. closing at e a q)
      ≡ and_then (u32 s at e p) (λ n q. and_then (u16 s at e q) (λ i z. from_head n i z))
  unfolding assertion and_then
  flattened p = simp then_then

  pub statement_is : (p : ℕ) → and_then (assertion s vs at e p) (λ a q. closing at e a q) ≡ as_reading at (statement_form vs s e p) (statement_at p)
  unfolding statement_form
  statement_is p = flattened p ∙ go (dec_lt e (p + 6))
    where
      short : Dec (e < p + 4) → e < p + 6 → and_then (u32 s at e p) (λ n q. and_then (u16 s at e q) (λ i z. from_head n i z)) ≡ refused 3 at
      short (yes h) k = then_out _ (u32_out s at e p h)
      short (no h) k = then_in _ (u32_in s at e p (p + 4) refl (omega arith)) ∙ then_out _ (u16_out s at e (p + 4) (omega arith))

      go : Dec (e < p + 6) → and_then (u32 s at e p) (λ n q. and_then (u16 s at e q) (λ i z. from_head n i z))
          ≡ as_reading at (statement_form vs s e p) (statement_at p)
      go (yes h) = short (dec_lt e (p + 4)) h ∙ sym (as_stop at broken (then_form (fact_form vs s e (p + 6)) (body_form vs s e)) (statement_at p)
          (lt-ltb e (p + 6) h))
      go (no h) =
          then_in _ (u32_in s at e p (p + 4) refl (omega arith)) ∙ then_in _ (u16_in s at e (p + 4) (p + 6) (omega arith) (omega arith))
          ∙ fact_then s vs at e (p + 6) (λ h w. from_body (λ fs ts. record {
            serial = u32_at s p;
            issuer = u16_at s (p + 4);
            head = h;
            body = fs;
            tests = ts;
          }) w) (body_form vs s e) (statement_at p)
          (body_is (λ fs ts. record { serial = u32_at s p; issuer = u16_at s (p + 4); head = fact_at vs s (p + 6); body = fs; tests = ts })
          (fact_end vs s (p + 6)))
          ∙ sym (as_skip at broken (then_form (fact_form vs s e (p + 6)) (body_form vs s e)) (statement_at p) (le-ltb e (p + 6) (omega arith)))
