-- Laws of decimal digits.
use Prim.Native.Nat.{ℕ, zero, suc, ◌+◌, ◌*◌, ◌/◌, ◌%◌, ◌^◌, ◌≤◌, ◌<◌}
use native.Mathlib.Nat.{pow-suc}
use native.Mathlib.Omega.{arith}
use native.Mathlib.Decide.{dec_lt}
use mathlib.Core.Path.{◌≡◌, refl, sym, ap, ◌∙◌}
use mathlib.Core.List.{List, [], ◌∷◌, ◌++◌}
use lib.ListN.{length, length-append}
use borrow.Author.Tests.{lt-ltb, le-ltb}
use Rattle.outcome.specs.Line.{decimal_by, decimal}

by_none : (n : ℕ) → decimal_by zero n ≡ []
unfolding decimal_by
by_none n = refl

by_one : (k n : ℕ) → n < 10 → decimal_by (suc k) n ≡ (48 + n) ∷ []
unfolding decimal_by
by_one k n h = rw (lt-ltb n 10 h)

by_more : (k n : ℕ) → 10 ≤ n → decimal_by (suc k) n ≡ decimal_by k (n / 10) ++ ((48 + n % 10) ∷ [])
unfolding decimal_by
by_more k n h = rw (le-ltb n 10 h)

-- any two allowances that are enough give the same digits
enough : (k m n : ℕ) → n < k → n < m → decimal_by k n ≡ decimal_by m n
enough zero m n h g = absurd (omega arith)
enough (suc k) zero n h g = absurd (omega arith)
enough (suc k) (suc m) n h g = go (dec_lt n 10) (λ i. enough k m (n / 10) (omega arith) (omega arith))
  where
    go : Dec (n < 10) → (10 ≤ n → decimal_by k (n / 10) ≡ decimal_by m (n / 10)) → decimal_by (suc k) n ≡ decimal_by (suc m) n
    go (yes i) ih = by_one k n i ∙ sym (by_one m n i)
    go (no i) ih = by_more k n (omega arith) ∙ ap (λ (l : List ℕ). l ++ ((48 + n % 10) ∷ [])) (ih (omega arith)) ∙ sym (by_more m n (omega arith))

pub one_digit : (n : ℕ) → n < 10 → decimal n ≡ (48 + n) ∷ []
unfolding decimal
one_digit n h = by_one n n h

pub more_digits : (n : ℕ) → 10 ≤ n → decimal n ≡ decimal (n / 10) ++ ((48 + n % 10) ∷ [])
unfolding decimal
more_digits n h = by_more n n h ∙ ap (λ (l : List ℕ). l ++ ((48 + n % 10) ∷ [])) (enough n (suc (n / 10)) (n / 10) (omega arith) (omega arith))

pub one_length : (n : ℕ) → n < 10 → length (decimal n) ≡ 1
one_length n h = ap length (one_digit n h)

pub more_length : (n : ℕ) → 10 ≤ n → length (decimal n) ≡ length (decimal (n / 10)) + 1
more_length n h = ap length (more_digits n h) ∙ length-append (decimal (n / 10)) ((48 + n % 10) ∷ [])

-- below 10 ^ (m + 1) there are m + 1 digits at most
few : (k m n : ℕ) → n < 10 ^ suc m → length (decimal_by k n) ≤ suc m
few zero m n h = let e : length (decimal_by zero n) ≡ 0 = ap length (by_none n) in omega arith
few (suc k) zero n h = let e : length (decimal_by (suc k) n) ≡ 1 = ap length (by_one k n h) in omega arith
few (suc k) (suc m) n h = go (dec_lt n 10) (λ i. few k m (n / 10) (let e : 10 ^ suc (suc m) ≡ 10 ^ suc m * 10 = pow-suc 10 (suc m) in omega arith))
  where
    go : Dec (n < 10) → (10 ≤ n → length (decimal_by k (n / 10)) ≤ suc m) → length (decimal_by (suc k) n) ≤ suc (suc m)
    go (yes i) ih = let e : length (decimal_by (suc k) n) ≡ 1 = ap length (by_one k n i) in omega arith
    go (no i) ih =
        let g : length (decimal_by k (n / 10)) ≤ suc m = ih (omega arith) in
        let e : length (decimal_by (suc k) n) ≡ length (decimal_by k (n / 10)) + 1 =
        ap length (by_more k n (omega arith)) ∙ length-append (decimal_by k (n / 10)) ((48 + n % 10) ∷ []) in
        omega arith

-- a usize has 20 digits at most
pub twenty : (n : ℕ) → n < 18446744073709551616 → length (decimal n) ≤ 20
unfolding decimal
twenty n h = few (suc n) 19 n (let e : 18446744073709551616 ≤ 10 ^ 20 = omega arith in omega arith)
