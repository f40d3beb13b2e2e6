-- A date by how many days of its year are over, and where one year after it lies: before, on or after 29 February.
use mathlib.Core.Path.{◌≡◌, refl, sym, ap, subst, ◌∙◌}
use mathlib.Core.Logic.{◌⊎◌, inl, inr}
use mathlib.Core.Bool.{Bool, true, false, cond, true≢false, ◌&&◌}
use Prim.Native.Nat.{ℕ, zero, suc, ◌+◌, ◌-◌, ◌%◌, ◌≤◌, ◌<◌}
use native.Mathlib.Decide.{dec_lt}
use native.Mathlib.Omega.{arith}
use lib.ListN.{get_or}
use mathlib.Core.List.{[], ◌∷◌}
use lib.Dec.{eqb, ltb}
use borrow.Author.Tests.{eqb-true, eq-eqb, lt-ltb, le-ltb}
use Rattle.model.specs.Calendar.{leap_year, year_days, month_days, Date, date_of, days_of_years, days_of_months, is_leap_day, year_after}
use Rattle.model.specs.Years.{IsDate}
use Rattle.model.proofs.CalendarFacts.{months, dated, year_on}

-- one more where a year has 29 February
abbrev pub more : Bool → ℕ
more b = cond b 1 0

-- ---- the days of a year before a month: the same in every year up to March, and one more in a leap year from then on

abbrev pub base : ℕ → ℕ
base m = get_or (0 ∷ 31 ∷ 59 ∷ 90 ∷ 120 ∷ 151 ∷ 181 ∷ 212 ∷ 243 ∷ 273 ∷ 304 ∷ 334 ∷ []) (m - 1) 0

abbrev pub late : ℕ → Bool → ℕ
late m b = cond (ltb 2 m) (more b) 0

pub both : (P : Bool → Type 0) → P true → P false → (b : Bool) → P b
both P t e true = t
both P t e false = e

pub either : (f g : Bool → ℕ) → f true ≡ g true → f false ≡ g false → (b : Bool) → f b ≡ g b
either f g t e true = t
either f g t e false = e

pub before : (y m : ℕ) → 1 ≤ m → m ≤ 12 → days_of_months y (m - 1) ≡ base m + late m (leap_year y)
unfolding days_of_months
before y = months (λ (m : ℕ). days_of_months y (m - 1) ≡ base m + late m (leap_year y)) (
  either (λ (b : Bool). 0) (λ (b : Bool). 0 + 0) refl refl (leap_year y),
  either (λ (b : Bool). 0 + 31) (λ (b : Bool). 31 + 0) refl refl (leap_year y),
  either (λ (b : Bool). 0 + 31 + cond b 29 28) (λ (b : Bool). 59 + more b) refl refl (leap_year y),
  either (λ (b : Bool). 0 + 31 + cond b 29 28 + 31) (λ (b : Bool). 90 + more b) refl refl (leap_year y),
  either (λ (b : Bool). 0 + 31 + cond b 29 28 + 31 + 30) (λ (b : Bool). 120 + more b) refl refl (leap_year y),
  either (λ (b : Bool). 0 + 31 + cond b 29 28 + 31 + 30 + 31) (λ (b : Bool). 151 + more b) refl refl (leap_year y),
  either (λ (b : Bool). 0 + 31 + cond b 29 28 + 31 + 30 + 31 + 30) (λ (b : Bool). 181 + more b) refl refl (leap_year y),
  either (λ (b : Bool). 0 + 31 + cond b 29 28 + 31 + 30 + 31 + 30 + 31) (λ (b : Bool). 212 + more b) refl refl (leap_year y),
  either (λ (b : Bool). 0 + 31 + cond b 29 28 + 31 + 30 + 31 + 30 + 31 + 31) (λ (b : Bool). 243 + more b) refl refl (leap_year y),
  either (λ (b : Bool). 0 + 31 + cond b 29 28 + 31 + 30 + 31 + 30 + 31 + 31 + 30) (λ (b : Bool). 273 + more b) refl refl (leap_year y),
  either (λ (b : Bool). 0 + 31 + cond b 29 28 + 31 + 30 + 31 + 30 + 31 + 31 + 30 + 31) (λ (b : Bool). 304 + more b) refl refl (leap_year y),
  either (λ (b : Bool). 0 + 31 + cond b 29 28 + 31 + 30 + 31 + 30 + 31 + 31 + 30 + 31 + 30) (λ (b : Bool). 334 + more b) refl refl (leap_year y),
)

-- and the month is over before the year is
pub months_fit : (y m : ℕ) → 1 ≤ m → m ≤ 12 → base m + late m (leap_year y) + month_days y m ≤ 365 + more (leap_year y)
months_fit y = months (λ (m : ℕ). base m + late m (leap_year y) + month_days y m ≤ 365 + more (leap_year y)) (
  both (λ (b : Bool). 0 + 0 + 31 ≤ 365 + more b) (omega arith) (omega arith) (leap_year y),
  both (λ (b : Bool). 31 + 0 + cond b 29 28 ≤ 365 + more b) (omega arith) (omega arith) (leap_year y),
  both (λ (b : Bool). 59 + more b + 31 ≤ 365 + more b) (omega arith) (omega arith) (leap_year y),
  both (λ (b : Bool). 90 + more b + 30 ≤ 365 + more b) (omega arith) (omega arith) (leap_year y),
  both (λ (b : Bool). 120 + more b + 31 ≤ 365 + more b) (omega arith) (omega arith) (leap_year y),
  both (λ (b : Bool). 151 + more b + 30 ≤ 365 + more b) (omega arith) (omega arith) (leap_year y),
  both (λ (b : Bool). 181 + more b + 31 ≤ 365 + more b) (omega arith) (omega arith) (leap_year y),
  both (λ (b : Bool). 212 + more b + 31 ≤ 365 + more b) (omega arith) (omega arith) (leap_year y),
  both (λ (b : Bool). 243 + more b + 30 ≤ 365 + more b) (omega arith) (omega arith) (leap_year y),
  both (λ (b : Bool). 273 + more b + 31 ≤ 365 + more b) (omega arith) (omega arith) (leap_year y),
  both (λ (b : Bool). 304 + more b + 30 ≤ 365 + more b) (omega arith) (omega arith) (leap_year y),
  both (λ (b : Bool). 334 + more b + 31 ≤ 365 + more b) (omega arith) (omega arith) (leap_year y),
)

-- from March on
from_march : (m : ℕ) → 1 ≤ m → m ≤ 12 → 3 ≤ m → 59 ≤ base m
from_march = months (λ (m : ℕ). 3 ≤ m → 59 ≤ base m) (
  (λ h. absurd (omega arith)),
  (λ h. absurd (omega arith)),
  (λ h. omega arith),
  (λ h. omega arith),
  (λ h. omega arith),
  (λ h. omega arith),
  (λ h. omega arith),
  (λ h. omega arith),
  (λ h. omega arith),
  (λ h. omega arith),
  (λ h. omega arith),
  (λ h. omega arith),
)

-- ---- a date by how many days of its year are over

-- two leap years do not follow each other
leap_four : (y : ℕ) → leap_year y ≡ true → y % 4 ≡ 0
leap_four y e = go _ (eqb (y % 4) 0) refl e
  where
    go : (c b : Bool) → eqb (y % 4) 0 ≡ b → (b && c) ≡ true → y % 4 ≡ 0
    go c true q e = eqb-true (y % 4) 0 q
    go c false q e = absurd (true≢false (sym e))

pub not_both : (y : ℕ) → leap_year y ≡ true → leap_year (suc y) ≡ true → ⊥
not_both y a b = let p = leap_four y a in let q = leap_four (suc y) b in omega (arith, p, q)

pub year_days_law : (y : ℕ) → year_days y ≡ 365 + more (leap_year y)
year_days_law y = either (λ (b : Bool). cond b 366 365) (λ (b : Bool). 365 + more b) refl refl (leap_year y)

-- where one year after a day of year y lies, when `over` days of the year are over: before 29 February, on it, after it
abbrev pub After : ℕ → ℕ → ℕ → Type 0
After n y over =
    ((over < 59) × (year_after n ≡ n + (365 + more (leap_year y))))
    ⊎ (((leap_year y ≡ true) × (over ≡ 59) × (year_after n ≡ n + 365))
    ⊎ ((59 + more (leap_year y) ≤ over) × (year_after n ≡ n + (365 + more (leap_year (suc y))))))

-- day n is in year y, whose first day is `start`, and `over` days of it are over
pub record Placed (n : ℕ) : Type 0 where
  pub y : ℕ
  pub start : ℕ
  pub over : ℕ
  pub since : 2000 ≤ y
  pub dates : (date_of n).year ≡ y
  pub starts : start ≡ days_of_years (y - 2000)
  pub is : n ≡ start + over
  pub short : over < 365 + more (leap_year y)
  pub after : After n y over

module _ (n : ℕ) where
  abbrev d : Date
  d = date_of n

  abbrev h : IsDate d
  h = (dated n).0

  abbrev y : ℕ
  y = d.year

  abbrev over : ℕ
  over = base d.month + late d.month (leap_year y) + (d.day - 1)

  pub there : n ≡ days_of_years (y - 2000) + over
  there =
      let k : days_of_months y (d.month - 1) ≡ base d.month + late d.month (leap_year y) = before y d.month h.month h.months in
      sym (dated n).1 ∙ omega (arith, k)

  -- a year on, with that day of the month
  on_day : (e : ℕ) → year_after n ≡ days_of_years (suc y - 2000) + days_of_months (suc y) (d.month - 1) + (e - 1)
      → year_after n ≡ days_of_years (y - 2000) + (365 + more (leap_year y)) + (base d.month + late d.month (leap_year (suc y))) + (e - 1)
  on_day e q = q ∙ (
      let a : days_of_months (suc y) (d.month - 1) ≡ base d.month + late d.month (leap_year (suc y)) = before (suc y) d.month h.month h.months in
      let b : days_of_years (suc y - 2000) ≡ days_of_years (y - 2000) + year_days y = year_on y h.since in
      let c : year_days y ≡ 365 + more (leap_year y) = year_days_law y in
      omega (arith, a, b, c))

  same_day : is_leap_day d ≡ false
      → year_after n ≡ days_of_years (y - 2000) + (365 + more (leap_year y)) + (base d.month + late d.month (leap_year (suc y))) + (d.day - 1)
  unfolding year_after
  same_day e = on_day d.day (rw e)

  leap_day : d.month ≡ 2 → d.day ≡ 29
      → year_after n ≡ days_of_years (y - 2000) + (365 + more (leap_year y)) + (base d.month + late d.month (leap_year (suc y))) + (28 - 1)
  unfolding year_after
  leap_day m e = on_day 28 (rw (m, e))

  -- 29 February or not
  pub sort : (is_leap_day d ≡ false) ⊎ ((d.month ≡ 2) × (d.day ≡ 29))
  sort = go (eqb d.month 2) refl (eqb d.day 29) refl
    where
      go : (a : Bool) → eqb d.month 2 ≡ a → (b : Bool) → eqb d.day 29 ≡ b → ((a && b) ≡ false) ⊎ ((d.month ≡ 2) × (d.day ≡ 29))
      go false p b q = inl refl
      go true p false q = inl refl
      go true p true q = inr (eqb-true d.month 2 p, eqb-true d.day 29 q)

  -- in January and February no day was put in yet
  early : (b : Bool) → d.month ≤ 2 → late d.month b ≡ 0
  early b m = rw (le-ltb 2 d.month m)

  later : (b : Bool) → 2 < d.month → late d.month b ≡ more b
  later b m = rw (lt-ltb 2 d.month m)

  -- 29 February is in a leap year, when 59 days are over
  pub on_leap_day : d.month ≡ 2 → d.day ≡ 29 → (leap_year y ≡ true) × (over ≡ 59)
  on_leap_day m e =
      (go (leap_year y) refl (subst (λ (x : ℕ). x ≤ month_days y 2) e (subst (λ (m : ℕ). d.day ≤ month_days y m) m h.days)), omega (arith, b, e, feb))
    where
      b : late d.month (leap_year y) ≡ 0
      b = early (leap_year y) (omega (arith, m))

      feb : base d.month ≡ 31
      feb = ap base m

      go : (b : Bool) → leap_year y ≡ b → 29 ≤ cond b 29 28 → leap_year y ≡ true
      go true q k = q
      go false q k = absurd (omega arith)

  after : After n y over
  after = go sort (dec_lt 2 d.month)
    where
      some : 1 ≤ d.day
      some = h.day

      -- the 59th day is 28 February
      first_days : d.month ≤ 2 → is_leap_day d ≡ false → base d.month + d.day ≤ 59
      first_days m e = upto d.month h.month m h.days e
        where
          upto : (m : ℕ) → 1 ≤ m → m ≤ 2 → d.day ≤ month_days y m → (eqb m 2 && eqb d.day 29) ≡ false → base m + d.day ≤ 59
          upto zero a z k e = absurd (omega arith)
          upto (suc zero) a z k e = omega arith
          upto (suc (suc zero)) a z k e =
              let most : cond (leap_year y) 29 28 ≤ 29 = both (λ (b : Bool). cond b 29 28 ≤ 29) (omega arith) (omega arith) (leap_year y) in
              let not_last : (d.day ≡ 29 → ⊥) = (λ q. true≢false (sym (eq-eqb d.day 29 q) ∙ e)) in
              omega (arith, most, not_last)
          upto (suc (suc (suc m))) a z k e = absurd (omega arith)

      go : (is_leap_day d ≡ false) ⊎ ((d.month ≡ 2) × (d.day ≡ 29)) → Dec (2 < d.month) → After n y over
      go (inl e) (yes m) =
          let a = from_march d.month h.month h.months m in
          let b = later (leap_year y) m in
          let c = later (leap_year (suc y)) m in
          inr (inr (omega (arith, a, b), same_day e ∙ omega (arith, there, b, c)))
      go (inl e) (no m) =
          let k : d.month ≤ 2 = omega (arith, m) in
          let a = first_days k e in
          let b = early (leap_year y) k in
          let c = early (leap_year (suc y)) k in
          inl (omega (arith, a, b, some), same_day e ∙ omega (arith, there, b, c))
      go (inr (m, e)) z =
          let k : d.month ≤ 2 = omega (arith, m) in
          let b = early (leap_year y) k in
          let c = early (leap_year (suc y)) k in
          let l = on_leap_day m e in
          let one : more (leap_year y) ≡ 1 = ap more l.0 in
          let feb : base d.month ≡ 31 = ap base m in
          inr (inl (l.0, l.1, leap_day m e ∙ omega (arith, there, b, c, one, e, feb)))

  pub placed : Placed n
  placed = record {
    y = y;
    start = days_of_years (y - 2000);
    over = over;
    since = h.since;
    dates = refl;
    starts = refl;
    is = there;
    short = (
        let k = months_fit y d.month h.month h.months in
        let a : 1 ≤ d.day = h.day in
        let b : d.day ≤ month_days y d.month = h.days in
        omega (arith, k, a, b)
        );
    after = after;
  }
