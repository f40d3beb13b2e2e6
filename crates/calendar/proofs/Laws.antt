-- The table and the years in closed form are the calendar's, from 2000 to 2100.
use mathlib.Core.Path.{◌≡◌, refl, sym, ap, subst, ◌∙◌}
use mathlib.Core.Bool.{Bool, true, false, cond, ◌&&◌, not, true≢false}
use Prim.Native.Nat.{ℕ, zero, suc, ◌+◌, ◌*◌, ◌-◌, ◌/◌, ◌%◌, ◌≤◌, ◌<◌}
use native.Mathlib.Nat.{not-suc-le-zero}
use native.Mathlib.Decide.{ℕ_discrete}
use native.Mathlib.Omega.{arith}
use lib.Dec.{eqb}
use borrow.Author.Tests.{eq-eqb, ne_eqb, lt-ltb, le-ltb}
use Rattle.model.specs.Calendar.{leap_year, year_days, month_days, Date, date, date_of, days_of_years, days_of_months, day_of, one_year_after, year_after}
use Rattle.model.specs.Years.{IsDate}
use Rattle.model.proofs.CalendarFacts.{months, days_between, twelve, forth}
use Rattle.model.proofs.DaysOfYear.{more, base, late, before, year_days_law}
use Rattle.model.proofs.Years.{dates_are_days, same_date}

-- ---- the first hundred years: each fourth has 366 days

-- computed for all of them
all_below : (ℕ → Bool) → ℕ → Bool
all_below P zero = true
all_below P (suc n) = P n && all_below P n

below_of : (P : ℕ → Bool) (n : ℕ) → all_below P n ≡ true → (k : ℕ) → k < n → P k ≡ true
unfolding all_below
below_of P zero e k h = absurd (not-suc-le-zero h)
below_of P (suc n) e k h = go (P n) refl e (λ e. below_of P n e k) (ℕ_discrete k n)
  where
    go : (b : Bool) → P n ≡ b → (b && all_below P n) ≡ true → (all_below P n ≡ true → k < n → P k ≡ true) → Dec (k ≡ n) → P k ≡ true
    go true q e ih (yes i) = ap P i ∙ q
    go true q e ih (no i) = ih e (omega (arith, i))
    go false q e ih i = absurd (true≢false (sym e))

fourth : (k : ℕ) → k < 100 → leap_year (2000 + k) ≡ eqb (k % 4) 0
unfolding all_below
fourth k h = same_of (leap_year (2000 + k)) (eqb (k % 4) 0) (below_of (λ (k : ℕ). same (leap_year (2000 + k)) (eqb (k % 4) 0)) 100 refl k h)
  where
    same : Bool → Bool → Bool
    same a b = cond a b (not b)

    same_of : (a b : Bool) → cond a b (not b) ≡ true → a ≡ b
    same_of true true e = refl
    same_of true false e = absurd (true≢false (sym e))
    same_of false true e = absurd (true≢false (sym e))
    same_of false false e = refl

-- the days of the first k years
pub years_closed : (k : ℕ) → k ≤ 100 → 365 * k + (k + 3) / 4 ≡ days_of_years k
unfolding days_of_years
years_closed zero h = refl
years_closed (suc k) h = go (ℕ_discrete (k % 4) 0) (years_closed k (omega arith))
  where
    days : year_days (2000 + k) ≡ 365 + more (eqb (k % 4) 0)
    days = year_days_law (2000 + k) ∙ ap (λ (b : Bool). 365 + more b) (fourth k (omega arith))

    go : Dec (k % 4 ≡ 0) → 365 * k + (k + 3) / 4 ≡ days_of_years k → 365 * suc k + (suc k + 3) / 4 ≡ days_of_years k + year_days (2000 + k)
    go (yes z) e = let one : more (eqb (k % 4) 0) ≡ 1 = ap more (eq-eqb (k % 4) 0 z) in omega (arith, e, days, one, z)
    go (no z) e = let none : more (eqb (k % 4) 0) ≡ 0 = ap more (ne_eqb (k % 4) 0 z) in omega (arith, e, days, none, z)

-- ---- months

pub early_month : (y m : ℕ) → 1 ≤ m → m ≤ 12 → m ≤ 2 → base m ≡ days_of_months y (m - 1)
early_month y m a z h =
    let e = before y m a z in
    let none : late m (leap_year y) ≡ 0 = rw (le-ltb 2 m h) in
    omega (arith, e, none)

pub late_month : (y m : ℕ) → 1 ≤ m → m ≤ 12 → 2 < m → base m + more (leap_year y) ≡ days_of_months y (m - 1)
late_month y m a z h =
    let e = before y m a z in
    let some : late m (leap_year y) ≡ more (leap_year y) = rw (lt-ltb 2 m h) in
    omega (arith, e, some)

pub base_most : (m : ℕ) → 1 ≤ m → m ≤ 12 → base m ≤ 334
base_most = months (λ (m : ℕ). base m ≤ 334)
    (omega arith, omega arith, omega arith, omega arith, omega arith, omega arith, omega arith, omega arith, omega arith, omega arith, omega arith, omega arith)

pub month_on : (y m : ℕ) → 1 ≤ m → days_of_months y m ≡ days_of_months y (m - 1) + month_days y m
unfolding days_of_months
month_on y zero h = absurd (omega arith)
month_on y (suc m) h = let same : m ≡ suc m - 1 = omega arith in ap (λ (k : ℕ). days_of_months y k + month_days y (suc m)) same

pub no_month : (y : ℕ) → days_of_months y 0 ≡ 0
unfolding days_of_months
no_month y = refl

pub all_months : (y : ℕ) → days_of_months y 12 ≡ year_days y
unfolding days_of_months
all_months y = twelve y

-- ---- the year of a day: 1,461 days are four years

-- k years have k / 4 leap years, and one more if they end within four
quarters : (k : ℕ) → k % 4 ≡ 0 → (k + 3) / 4 ≡ k / 4
quarters k z = omega (arith, z)

begun : (k : ℕ) → (k % 4 ≡ 0 → ⊥) → (k + 3) / 4 ≡ k / 4 + 1
begun k z = omega (arith, z)

abbrev InYear : ℕ → ℕ → Type 0
InYear n k = (days_of_years k ≤ n) × (n < days_of_years k + year_days (2000 + k)) × (k ≤ 99)

pub year_found : (n : ℕ) → n ≤ 36524 → InYear n (4 * n / 1461)
year_found n h = go (4 * n / 1461) (omega arith) (omega arith) (omega arith) (ℕ_discrete (4 * n / 1461 % 4) 0)
  where
    go : (k : ℕ) → k ≤ 99 → 1461 * k ≤ 4 * n → 4 * n < 1461 * k + 1461 → Dec (k % 4 ≡ 0) → InYear n k
    go k few a b (yes z) =
        let closed = years_closed k (omega (arith, few)) in
        let days : year_days (2000 + k) ≡ 366 = year_days_law (2000 + k) ∙ ap (λ (b : Bool). 365 + more b)
        (fourth k (omega (arith, few)) ∙ eq-eqb (k % 4) 0 z) in
        let q = quarters k z in
        let parts : k ≡ 4 * (k / 4) = omega (arith, z) in
        (omega (arith, closed, q, parts, a), omega (arith, closed, q, parts, days, b), few)
    go k few a b (no z) =
        let closed = years_closed k (omega (arith, few)) in
        let days : year_days (2000 + k) ≡ 365 = year_days_law (2000 + k) ∙ ap (λ (b : Bool). 365 + more b)
        (fourth k (omega (arith, few)) ∙ ne_eqb (k % 4) 0 z) in
        let q = begun k z in
        let least : 4 * (k / 4) + 1 ≤ k = omega (arith, z) in
        let most : k ≤ 4 * (k / 4) + 3 = omega arith in
        (omega (arith, closed, q, least, most, a), omega (arith, closed, q, least, most, days, b), few)

-- ---- dates

-- the day of a month is below 32
pub days_most : (y m : ℕ) → 1 ≤ m → m ≤ 12 → month_days y m ≤ 31
days_most y m a z = (days_between y m a z).1

-- what the code finds is the date of the day
pub found : (n y m o : ℕ) → 2000 ≤ y → n ≡ days_of_years (y - 2000) + o → 1 ≤ m → m ≤ 12 → days_of_months y (m - 1) ≤ o → o < days_of_months y m
    → date y m (o - days_of_months y (m - 1) + 1) ≡ date_of n
found n y m o h e a z l k =
    let d : Date = date y m (o - days_of_months y (m - 1) + 1) in
    let on = month_on y m a in
    let number : day_of d ≡ n = omega (arith, e, l) in
    sym (forth d (record { since = h; month = a; months = z; day = omega arith; days = omega (arith, on, l, k) })) ∙ ap date_of number

-- the year in which a day is found
pub here : (n : ℕ) → n ≤ 36524 → InYear n (2000 + 4 * n / 1461 - 2000) × (2000 + 4 * n / 1461 - 2000 ≡ 4 * n / 1461)
here n h = let same : 2000 + 4 * n / 1461 - 2000 ≡ 4 * n / 1461 = omega arith in (subst (InYear n) (sym same) (year_found n h), same)

-- a day's date, and the date one year after it, are dates; the first of them before 2100
pub dates : (n : ℕ) (d : Date) → d ≡ date_of n → n ≤ 36524 → IsDate (one_year_after d) × (d.year ≤ 2099)
dates n d e h =
    let is : IsDate d = subst IsDate (sym e) (dates_are_days.dated n) in
    let number : day_of d ≡ n = ap day_of e ∙ dates_are_days.back n in
    (same_date.dated d is, (dates_are_days.ranged d is).0 (omega (arith, number, h)))

-- with the day that is kept
pub kept : (y m d e : ℕ) → e ≡ (one_year_after (date y m d)).day → date (y + 1) m e ≡ one_year_after (date y m d)
kept y m d e h = let up : y + 1 ≡ suc y = omega arith in ap (λ (k : ℕ). date k m e) up ∙ ap (date (suc y) m) h

pub year_after_is : (n : ℕ) → day_of (one_year_after (date_of n)) ≡ year_after n
unfolding year_after
year_after_is n = refl
