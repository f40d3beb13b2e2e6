-- `Layout.fact` reads what stands at an offset (`Readings`), exactly where its form is right (`Forms`).
use mathlib.Core.Path.{◌≡◌, refl, sym, ap, subst, ◌∙◌}
use mathlib.Core.List.{List, [], ◌∷◌}
use mathlib.Core.Bool.{Bool, true, false}
use Prim.Native.Nat.{ℕ, zero, suc, ◌+◌, ◌-◌, ◌*◌, ◌<◌, ◌≤◌}
use native.Mathlib.Decide.{dec_lt}
use native.Mathlib.Omega.{arith}
use lib.ListN.{length}
use lib.Dec.{ltb, leb}
use borrow.Author.Tests.{lt-ltb, le-ltb, le-leb, lt-leb, eq-eqb, ne_eqb}
use Rattle.model.specs.Limits.{unlimited, max_nest, first_variable, today_code}
use Rattle.model.specs.Syntax.{Expr, Fact, flat, can_say, Verb, con, var, today}
use Rattle.model.specs.Bytes.{byte_at, choose, Reading, got, refused, and_then}
use Rattle.model.specs.Readings.{expr_of, expr_at, exprs_at, arity_of, levels_at, fact_at, fact_end, facts_at, facts_end}
use Rattle.model.specs.Forms.{Form, ends, broken, no_verb, then_form, phrase_form, levels_form, fact_form, facts_form}
use Rattle.model.specs.Reader.{times}
use Rattle.model.specs.Layout.{expr, levels, fact}
use Rattle.model.proofs.ReaderLaws.{then_in, then_out, choose_true, choose_false, byte_in_law, byte_out, u16_in, u16_out, upto_then, upto_in}
use Rattle.model.proofs.ReaderLaws.{upto_out}
use Rattle.model.proofs.ReaderEnds.{form_ends, forms_end}

-- ---- what a form gives of what stands there

module _ {A : Type 0} where
  abbrev pub as_reading : ℕ → Form → A → Reading A
  as_reading at (ends q) x = got x q
  as_reading at broken x = refused 3 at
  as_reading at no_verb x = refused 5 at

  pub as_choose : (at : ℕ) (b : Bool) (φ ψ : Form) (x : A) → as_reading at (choose b φ ψ) x ≡ choose b (as_reading at φ x) (as_reading at ψ x)
  unfolding choose
  as_choose at true φ ψ x = refl
  as_choose at false φ ψ x = refl

  pub as_choose2 : (at : ℕ) (a b : Bool) (φ : Form) (x : A) → as_reading at (choose a broken (choose b broken φ)) x
      ≡ choose a (refused 3 at) (choose b (refused 3 at) (as_reading at φ x))
  unfolding choose
  as_choose2 at true b φ x = refl
  as_choose2 at false true φ x = refl
  as_choose2 at false false φ x = refl

  pub as_skip : (at : ℕ) {b : Bool} (φ ψ : Form) (x : A) → b ≡ false → as_reading at (choose b φ ψ) x ≡ as_reading at ψ x
  unfolding choose
  as_skip at φ ψ x h = rw h

  pub as_stop : (at : ℕ) {b : Bool} (φ ψ : Form) (x : A) → b ≡ true → as_reading at (choose b φ ψ) x ≡ as_reading at φ x
  unfolding choose
  as_stop at φ ψ x h = rw h

module _ {A B : Type 0} where
  pub as_map : (at : ℕ) (φ : Form) (x : A) (g : A → B) → and_then (as_reading at φ x) (λ y q. got (g y) q) ≡ as_reading at φ (g x)
  unfolding and_then
  as_map at (ends q) x g = refl
  as_map at broken x g = refl
  as_map at no_verb x g = refl

  -- one part after another, where the first ends at z if it ends
  pub as_then : (at : ℕ) (φ : Form) (x : A) (z : ℕ) → ((q : ℕ) → φ ≡ ends q → z ≡ q) → (f : A → ℕ → Reading B) (g : ℕ → Form) (y : B)
      → f x z ≡ as_reading at (g z) y → and_then (as_reading at φ x) f ≡ as_reading at (then_form φ g) y
  unfolding and_then then_form
  as_then at (ends q) x z h f g y k = subst (λ (w : ℕ). f x w ≡ as_reading at (g w) y) (h q refl) k
  as_then at broken x z h f g y k = refl
  as_then at no_verb x z h f g y k = refl

-- ---- expressions

-- an expression by its code
pub expr_today : (x : ℕ) → x ≡ today_code → expr_of x ≡ today
unfolding expr_of choose
expr_today x e = rw (eq-eqb x today_code e)

pub expr_con : (x : ℕ) → (x ≡ today_code → ⊥) → x < first_variable → expr_of x ≡ con x
unfolding expr_of choose
expr_con x h l = rw (ne_eqb x today_code h, lt-ltb x first_variable l)

pub expr_var : (x : ℕ) → first_variable ≤ x → expr_of x ≡ var (x - first_variable)
unfolding expr_of choose
expr_var x l = rw (ne_eqb x today_code (λ e. omega arith), le-ltb x first_variable l)

module _ (s : List ℕ) (at e : ℕ) where
  pub expr_in_law : (p q : ℕ) → p + 2 ≡ q → q ≤ e → expr s at e p ≡ got (expr_at s p) q
  unfolding expr expr_of
  expr_in_law p q i h = then_in _ (u16_in s at e p q i h)

  pub expr_out : (p : ℕ) → e < p + 2 → expr s at e p ≡ refused 3 at
  unfolding expr expr_of
  expr_out p h = then_out _ (u16_out s at e p h)

  pub exprs_in : (n p q : ℕ) → p + 2 * n ≡ q → q ≤ e → times n (expr s) at e p ≡ got (exprs_at n s p) q
  unfolding times exprs_at
  exprs_in zero p q i h = ap (got []) (let k : p ≡ q = omega arith in k)
  exprs_in (suc n) p q i h = then_in _ (expr_in_law p (p + 2) refl (omega arith)) ∙ then_in _ (exprs_in n (p + 2) q (omega arith) h)

  pub exprs_out : (n p : ℕ) → p ≤ e → e < p + 2 * n → times n (expr s) at e p ≡ refused 3 at
  unfolding times
  exprs_out zero p l h = absurd (omega arith)
  exprs_out (suc n) p l h = go (dec_lt e (p + 2)) (λ k. exprs_out n (p + 2) k (omega arith))
    where
      go : Dec (e < p + 2) → (p + 2 ≤ e → times n (expr s) at e (p + 2) ≡ refused 3 at) → times (suc n) (expr s) at e p ≡ refused 3 at
      go (yes k) r = then_out _ (expr_out p k)
      go (no k) r = then_in _ (expr_in_law p (p + 2) refl (omega arith)) ∙ then_out _ (r (omega arith))

-- ---- facts

module _ (s : List ℕ) (vs : List Verb) (at e : ℕ) where
  -- parameters
  params_is : (x : Expr) (p : ℕ) → p ≤ e → (v : ℕ)
      → and_then (choose (leb v (length vs)) (got tt p) (refused 5 at))
      (λ (y : Unit {0}) q. and_then (times (arity_of vs v) (expr s) at e q) (λ es z. got (flat x v es) z))
      ≡ as_reading at (choose (ltb (length vs) v) no_verb (choose (ltb e (p + 2 * arity_of vs v)) broken (ends (p + 2 * arity_of vs v))))
      (flat x v (exprs_at (arity_of vs v) s p))
  unfolding choose and_then
  params_is x p l v = go (dec_lt (length vs) v)
    where
      more : Dec (e < p + 2 * arity_of vs v) → and_then (times (arity_of vs v) (expr s) at e p) (λ es z. got (flat x v es) z)
          ≡ as_reading at (choose (ltb e (p + 2 * arity_of vs v)) broken (ends (p + 2 * arity_of vs v))) (flat x v (exprs_at (arity_of vs v) s p))
      more (yes k) = rw (lt-ltb e (p + 2 * arity_of vs v) k) (then_out _ (exprs_out s at e (arity_of vs v) p l k))
      more (no k) = let h : p + 2 * arity_of vs v ≤ e = omega arith in
          rw (le-ltb e (p + 2 * arity_of vs v) h) (then_in _ (exprs_in s at e (arity_of vs v) p (p + 2 * arity_of vs v) refl h))

      go : Dec (length vs < v) → and_then (choose (leb v (length vs)) (got tt p) (refused 5 at))
          (λ (y : Unit {0}) q. and_then (times (arity_of vs v) (expr s) at e q) (λ es z. got (flat x v es) z))
          ≡ as_reading at (choose (ltb (length vs) v) no_verb (choose (ltb e (p + 2 * arity_of vs v)) broken (ends (p + 2 * arity_of vs v))))
          (flat x v (exprs_at (arity_of vs v) s p))
      go (yes k) = rw (lt-ltb (length vs) v k, lt-leb v (length vs) k)
      go (no k) = let h : v ≤ length vs = omega arith in rw (le-ltb (length vs) v h, le-leb v (length vs) h) (more (dec_lt e (p + 2 * arity_of vs v)))

  pub levels_is : (m p : ℕ) → levels s vs m at e p ≡ as_reading at (levels_form vs s e m p) (levels_at vs m s p)
  unfolding levels levels_form levels_at phrase_form arity_of
  levels_is zero p = go (dec_lt e (p + 3))
    where
      short : Dec (e < p + 2) → e < p + 3 → levels s vs zero at e p ≡ refused 3 at
      short (yes k) h = then_out _ (expr_out s at e p k)
      short (no k) h = then_in _ (expr_in_law s at e p (p + 2) refl (omega arith)) ∙ then_out _ (byte_out s at e (p + 2) (omega arith))

      go : Dec (e < p + 3) → levels s vs zero at e p ≡ as_reading at (levels_form vs s e zero p) (levels_at vs zero s p)
      go (yes k) = short (dec_lt e (p + 2)) k ∙ ap (λ (φ : Form). as_reading at φ (levels_at vs zero s p)) (sym (choose_true _ _ (lt-ltb e (p + 3) k)))
      go (no k) =
          then_in _ (expr_in_law s at e p (p + 2) refl (omega arith)) ∙ then_in _ (byte_in_law s at e (p + 2) (p + 3) (omega arith) (omega arith))
          ∙ params_is (expr_at s p) (p + 3) (omega arith) (byte_at s (p + 2))
          ∙ ap (λ (φ : Form). as_reading at φ (levels_at vs zero s p)) (sym (choose_false _ _ (le-ltb e (p + 3) (omega arith))))
  levels_is (suc m) p = go (dec_lt e (p + 3)) (levels_is m (p + 3))
    where
      short : Dec (e < p + 2) → e < p + 3 → levels s vs (suc m) at e p ≡ refused 3 at
      short (yes k) h = then_out _ (expr_out s at e p k)
      short (no k) h = then_in _ (expr_in_law s at e p (p + 2) refl (omega arith)) ∙ upto_out s at e _ unlimited (p + 2) (omega arith)

      go : Dec (e < p + 3) → levels s vs m at e (p + 3) ≡ as_reading at (levels_form vs s e m (p + 3)) (levels_at vs m s (p + 3))
          → levels s vs (suc m) at e p ≡ as_reading at (levels_form vs s e (suc m) p) (levels_at vs (suc m) s p)
      go (yes k) r = short (dec_lt e (p + 2)) k ∙ sym (as_stop at broken _ (levels_at vs (suc m) s p) (lt-ltb e (p + 3) k))
      go (no k) r =
          then_in _ (expr_in_law s at e p (p + 2) refl (omega arith)) ∙ upto_in s at e (λ d q. and_then (levels s vs m at e q)
          (λ f z. got (can_say (expr_at s p) d f) z)) unlimited (p + 2) (p + 3) (omega arith) (omega arith)
          ∙ ap (λ (t : Reading (Fact Expr)). choose (ltb unlimited (byte_at s (p + 2))) (refused 3 at) t)
          (ap (λ (t : Reading (Fact Expr)). and_then t (λ f z. got (can_say (expr_at s p) (byte_at s (p + 2)) f) z)) r
          ∙ as_map at (levels_form vs s e m (p + 3)) (levels_at vs m s (p + 3)) (can_say (expr_at s p) (byte_at s (p + 2))))
          ∙ sym (as_choose at (ltb unlimited (byte_at s (p + 2))) broken (levels_form vs s e m (p + 3)) (levels_at vs (suc m) s p))
          ∙ sym (as_skip at broken _ (levels_at vs (suc m) s p) (le-ltb e (p + 3) (omega arith)))

  pub fact_is : (p : ℕ) → fact s vs at e p ≡ as_reading at (fact_form vs s e p) (fact_at vs s p)
  unfolding fact fact_form fact_at
  fact_is p =
      upto_then s at e _ max_nest p
      ∙ ap (λ (t : Reading (Fact Expr)). choose (leb e p) (refused 3 at) (choose (ltb max_nest (byte_at s p)) (refused 3 at) t))
      (levels_is (byte_at s p) (p + 1))
      ∙ sym (as_choose2 at (leb e p) (ltb max_nest (byte_at s p)) _ _)

  -- a fact, and what follows
  pub fact_then : {B : Type 0} (p : ℕ) (f : Fact Expr → ℕ → Reading B) (g : ℕ → Form) (y : B)
      → f (fact_at vs s p) (fact_end vs s p) ≡ as_reading at (g (fact_end vs s p)) y
      → and_then (fact s vs at e p) f ≡ as_reading at (then_form (fact_form vs s e p) g) y
  fact_then p f g y k = ap (λ (t : Reading (Fact Expr)). and_then t f) (fact_is p)
      ∙ as_then at (fact_form vs s e p) (fact_at vs s p) (fact_end vs s p) (form_ends vs s e p) f g y k

  pub facts_is : (n p : ℕ) → times n (fact s vs) at e p ≡ as_reading at (facts_form vs s e n p) (facts_at vs n s p)
  unfolding times facts_form facts_at
  facts_is zero p = refl
  facts_is (suc n) p =
      fact_then p _ (facts_form vs s e n) _
      (ap (λ (t : Reading (List (Fact Expr))). and_then t (λ xs z. got (fact_at vs s p ∷ xs) z)) (facts_is n (fact_end vs s p))
      ∙ as_map at (facts_form vs s e n (fact_end vs s p)) (facts_at vs n s (fact_end vs s p)) (λ xs. fact_at vs s p ∷ xs))

  pub facts_then : {B : Type 0} (n p : ℕ) (f : List (Fact Expr) → ℕ → Reading B) (g : ℕ → Form) (y : B)
      → f (facts_at vs n s p) (facts_end vs n s p) ≡ as_reading at (g (facts_end vs n s p)) y
      → and_then (times n (fact s vs) at e p) f ≡ as_reading at (then_form (facts_form vs s e n p) g) y
  facts_then n p f g y k = ap (λ (t : Reading (List (Fact Expr))). and_then t f) (facts_is n p)
      ∙ as_then at (facts_form vs s e n p) (facts_at vs n s p) (facts_end vs n s p) (forms_end vs s e n p) f g y k
