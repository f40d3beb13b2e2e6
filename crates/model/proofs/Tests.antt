-- What a computed test says when it is true, and tests that are the same: the laws that every crate above uses.
use mathlib.Core.Path.{◌≡◌, refl, sym, subst, ◌∙◌}
use mathlib.Core.Logic.{◌⊎◌, inl, inr}
use mathlib.Core.Bool.{Bool, true, false, cond, ◌&&◌, not, false≢true}
use Prim.Native.Nat.{ℕ, ◌≤◌, ◌<◌}
use lib.Dec.{T, eqb, ltb}
use borrow.Author.Tests.{eqb-true, eqb-false, ltb-true, ltb-false, eq-eqb, ne_eqb}
use Rattle.model.specs.Bytes.{choose, both}

-- ---- true, as an equation and as a type

pub T_true : (b : Bool) → T b → b ≡ true
T_true true t = refl
T_true false t = absurd t

pub true_T : (b : Bool) → b ≡ true → T b
true_T b e = subst T (sym e) tt

pub dec_t : (b : Bool) → T b ⊎ T (not b)
dec_t true = inl tt
dec_t false = inr tt

-- two tests that follow from each other are the same
pub T_iff : (a b : Bool) → (T a → T b) → (T b → T a) → a ≡ b
T_iff true true f g = refl
T_iff true false f g = absurd (f tt)
T_iff false true f g = absurd (g tt)
T_iff false false f g = refl

-- ---- both of two tests

pub and_true : (a b : Bool) → (a && b) ≡ true → (a ≡ true) × (b ≡ true)
and_true true b e = (refl, e)
and_true false b e = absurd (false≢true e)

pub both_first : (a b : Bool) → both a b ≡ true → a ≡ true
unfolding both choose
both_first true b e = refl
both_first false b e = e

pub both_second : (a b : Bool) → both a b ≡ true → b ≡ true
unfolding both choose
both_second true b e = e
both_second false b e = absurd (false≢true e)

pub both_of : (a b : Bool) → T (both a b) → T a × T b
unfolding both choose
both_of true b t = (tt, t)
both_of false b t = absurd t

-- ---- by cases of a comparison

pub by_eq : {P : Type 0} (x a : ℕ) → (x ≡ a → P) → ((x ≡ a → ⊥) → P) → P
by_eq {P} x a f g = go (eqb x a) refl
  where
    go : (q : Bool) → eqb x a ≡ q → P
    go true e = f (eqb-true x a e)
    go false e = g (eqb-false x a e)

pub by_lt : {P : Type 0} (x a : ℕ) → (x < a → P) → (a ≤ x → P) → P
by_lt {P} x a f g = go (ltb x a) refl
  where
    go : (q : Bool) → ltb x a ≡ q → P
    go true e = f (ltb-true x a e)
    go false e = g (ltb-false x a e)

pub eqb_turned : (v w : ℕ) → eqb v w ≡ eqb w v
eqb_turned v w = by_eq v w (λ e. eq-eqb v w e ∙ sym (eq-eqb w v (sym e))) (λ n. ne_eqb v w n ∙ sym (ne_eqb w v (λ e. n (sym e))))

-- ---- a mark: 1 where a test is true

pub one_test : (b : Bool) → eqb (cond b 1 0) 1 ≡ b
one_test true = refl
one_test false = refl
