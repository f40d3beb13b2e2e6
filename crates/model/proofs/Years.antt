-- The statements of `specs/Years.antt`: days and dates, the date one year on, how long the year between is, and operator 5 on days.
-- By where a day lies in its year (`DaysOfYear`), and by the order of the years.
use mathlib.Core.Path.{◌≡◌, refl, sym, ap, subst, ◌∙◌}
use mathlib.Core.Logic.{◌↔◌, ◌⊎◌, inl, inr, ⊎_elim}
use mathlib.Core.Bool.{Bool, true, false, cond, true≢false, ◌&&◌}
use Prim.Native.Nat.{ℕ, zero, suc, ◌+◌, ◌-◌, ◌≤◌, ◌<◌}
use native.Mathlib.Decide.{ℕ_discrete, dec_lt}
use native.Mathlib.Omega.{arith}
use lib.Dec.{eqb, leb}
use borrow.Author.Tests.{eqb-true, le-leb}
use Rattle.model.specs.Limits.{max_day}
use Rattle.model.specs.Calendar.{leap_year, year_days, month_days, Date, date, date_of, days_of_years, days_of_months, day_of, is_leap_day, one_year_after}
use Rattle.model.specs.Calendar.{year_after}
use Rattle.model.specs.Years.{IsDate, DatesAreDays, SameDate, LeapBetween, YearLength, PermitYear}
use Rattle.model.proofs.CalendarFacts.{months, forth, dated, year_on}
use Rattle.model.proofs.DaysOfYear.{more, both, year_days_law, not_both, After, Placed, sort, on_leap_day, there, placed}

-- ---- years in their order

one_year : (m : ℕ) → days_of_years m ≤ days_of_years (suc m)
unfolding days_of_years
one_year m = omega arith

grows : (j i : ℕ) → days_of_years j ≤ days_of_years (j + i)
grows j zero = let same : j ≡ j + 0 = omega arith in let e : days_of_years j ≡ days_of_years (j + 0) = ap days_of_years same in omega (arith, e)
grows j (suc i) =
    let up : suc (j + i) ≡ j + suc i = omega arith in
    let e : days_of_years (suc (j + i)) ≡ days_of_years (j + suc i) = ap days_of_years up in
    let k : days_of_years (j + i) ≤ days_of_years (suc (j + i)) = one_year (j + i) in
    omega (arith, grows j i, e, k)

pub ascend : (j k : ℕ) → j ≤ k → days_of_years j ≤ days_of_years k
ascend j k h = let e : j + (k - j) ≡ k = omega arith in subst (λ (m : ℕ). days_of_years j ≤ days_of_years m) e (grows j (k - j))

pub century : days_of_years 100 ≡ 36525
unfolding days_of_years
century = refl

-- ---- 29 Februaries

leap_date : (y : ℕ) → 2000 ≤ y → leap_year y ≡ true → date_of (days_of_years (y - 2000) + 59) ≡ date y 2 29
unfolding days_of_months
leap_date y h l =
    let days : 29 ≤ month_days y 2 = subst (λ (b : Bool). 29 ≤ cond b 29 28) (sym l) (omega arith) in
    let number : days_of_years (y - 2000) + 59 ≡ day_of (date y 2 29) = omega arith in
    ap date_of number ∙ forth (date y 2 29) (record { since = h; month = omega arith; months = omega arith; day = omega arith; days = days })

is_leap : (y : ℕ) → is_leap_day (date y 2 29) ≡ true
is_leap y = refl

-- a 29 February is the 60th day of a leap year
record LeapDay (k : ℕ) : Type 0 where
  y : ℕ
  since : 2000 ≤ y
  leap : leap_year y ≡ true
  is : k ≡ days_of_years (y - 2000) + 59

leap_at : (k : ℕ) → is_leap_day (date_of k) ≡ true → LeapDay k
leap_at k e = go (sort k)
  where
    go : (is_leap_day (date_of k) ≡ false) ⊎ (((date_of k).month ≡ 2) × ((date_of k).day ≡ 29)) → LeapDay k
    go (inl f) = absurd (true≢false (sym e ∙ f))
    go (inr (m, d)) =
        let l = on_leap_day k m d in
        record { y = (date_of k).year; since = (dated k).0.since; leap = l.0; is = there k ∙ ap (λ (o : ℕ). days_of_years ((date_of k).year - 2000) + o) l.1 }

-- ---- the statements

pub dates_are_days : DatesAreDays
dates_are_days = record { dated = λ n. (dated n).0; back = λ n. (dated n).1; forth = forth; ranged = ranged }
  where
    ranged : (d : Date) → IsDate d → (day_of d ≤ max_day) ↔ (d.year ≤ 2099)
    ranged d h = (to (dec_lt 2099 d.year), from)
      where
        p : Placed (day_of d)
        p = placed (day_of d)

        year : p.y ≡ d.year
        year = sym p.dates ∙ ap (λ (e : Date). e.year) (forth d h)

        first : p.start ≡ days_of_years (d.year - 2000)
        first = p.starts ∙ ap (λ (y : ℕ). days_of_years (y - 2000)) year

        to : Dec (2099 < d.year) → day_of d ≤ max_day → d.year ≤ 2099
        to (no l) k = omega (arith, l)
        to (yes l) k =
            let late : days_of_years 100 ≤ days_of_years (d.year - 2000) = ascend 100 (d.year - 2000) (omega arith) in
            let c = century in
            let i : day_of d ≡ p.start + p.over = p.is in
            absurd (omega (arith, late, c, i, first))

        from : d.year ≤ 2099 → day_of d ≤ max_day
        from k =
            let since : 2000 ≤ d.year = h.since in
            let next : days_of_years (suc d.year - 2000) ≡ days_of_years (d.year - 2000) + year_days d.year = year_on d.year since in
            let most : days_of_years (suc d.year - 2000) ≤ days_of_years 100 = ascend (suc d.year - 2000) 100 (omega arith) in
            let c = century in
            let e = year_days_law d.year in
            let i : day_of d ≡ p.start + p.over = p.is in
            let o : p.over < 365 + more (leap_year d.year) = subst (λ (y : ℕ). p.over < 365 + more (leap_year y)) year p.short in
            omega (arith, next, most, c, e, i, o, first)

-- 29 February
leap_parts : (d : Date) → is_leap_day d ≡ true → (d.month ≡ 2) × (d.day ≡ 29)
leap_parts d e = go (eqb d.month 2) refl (eqb d.day 29) refl e
  where
    go : (a : Bool) → eqb d.month 2 ≡ a → (b : Bool) → eqb d.day 29 ≡ b → (a && b) ≡ true → (d.month ≡ 2) × (d.day ≡ 29)
    go false p b q e = absurd (true≢false (sym e))
    go true p false q e = absurd (true≢false (sym e))
    go true p true q e = (eqb-true d.month 2 p, eqb-true d.day 29 q)

pub same_date : SameDate
same_date = record {
  year = λ d. refl;
  same = λ d e. rw e;
  leap = λ d e. rw e (ap (λ (m : ℕ). date (suc d.year) m 28) (leap_parts d e).0);
  dated = λ d h. go d h (is_leap_day d) refl;
}
  where
    -- a month of the next year is as long, but for February
    as_long : (y m n : ℕ) → 1 ≤ m → m ≤ 12 → n ≤ month_days y m → (m ≡ 2 → n ≤ 28) → n ≤ month_days (suc y) m
    as_long y m n a z h f = months (λ (m : ℕ). n ≤ month_days y m → (m ≡ 2 → n ≤ 28) → n ≤ month_days (suc y) m) (
      (λ h f. h),
      (λ h f.
          let l : 28 ≤ cond (leap_year (suc y)) 29 28 = both (λ (b : Bool). 28 ≤ cond b 29 28) (omega arith) (omega arith) (leap_year (suc y)) in
          omega (arith, f refl, l)),
      (λ h f. h),
      (λ h f. h),
      (λ h f. h),
      (λ h f. h),
      (λ h f. h),
      (λ h f. h),
      (λ h f. h),
      (λ h f. h),
      (λ h f. h),
      (λ h f. h),
    ) m a z h f

    go : (d : Date) → IsDate d → (b : Bool) → is_leap_day d ≡ b → IsDate (date (suc d.year) d.month (cond b 28 d.day))
    go d h true e =
        let last : 28 ≤ month_days d.year d.month = let k = h.days in omega (arith, k, (leap_parts d e).1) in
        record {
          since = (let k : 2000 ≤ d.year = h.since in omega arith);
          month = h.month;
          months = h.months;
          day = omega arith;
          days = as_long d.year d.month 28 h.month h.months last (λ q. omega arith);
        }
    go d h false e = record {
      since = (let k : 2000 ≤ d.year = h.since in omega arith);
      month = h.month;
      months = h.months;
      day = h.day;
      days = as_long d.year d.month d.day h.month h.months h.days february;
    }
      where
        february : d.month ≡ 2 → d.day ≤ 28
        february q =
            let most : cond (leap_year d.year) 29 28 ≤ 29 = both (λ (b : Bool). cond b 29 28 ≤ 29) (omega arith) (omega arith) (leap_year d.year) in
            let k : d.day ≤ month_days d.year 2 = subst (λ (m : ℕ). d.day ≤ month_days d.year m) q h.days in
            let not_last : (d.day ≡ 29 → ⊥) = (λ r. true≢false (sym (leapt q r) ∙ e)) in
            omega (arith, most, k, not_last)
          where
            leapt : d.month ≡ 2 → d.day ≡ 29 → is_leap_day d ≡ true
            leapt q r = rw (q, r)

-- whether one more day is put in
more_or_not : (b : Bool) → ((b ≡ true) × (more b ≡ 1)) ⊎ ((b ≡ false) × (more b ≡ 0))
more_or_not true = inl (refl, refl)
more_or_not false = inr (refl, refl)

module _ (n : ℕ) (p : Placed n) where
  lengths : After n p.y p.over → (year_after n ≡ n + 365) ⊎ (year_after n ≡ n + 366)
  lengths (inl (l, e)) = ⊎_elim (λ m. inr (omega (arith, e, m.1))) (λ m. inl (omega (arith, e, m.1))) (more_or_not (leap_year p.y))
  lengths (inr (inl (l, o, e))) = inl e
  lengths (inr (inr (o, e))) = ⊎_elim (λ m. inr (omega (arith, e, m.1))) (λ m. inl (omega (arith, e, m.1))) (more_or_not (leap_year (suc p.y)))

  since : 2000 ≤ p.y
  since = p.since

  first : p.start ≡ days_of_years (p.y - 2000)
  first = p.starts

  is : n ≡ p.start + p.over
  is = p.is

  short : p.over < 365 + more (leap_year p.y)
  short = p.short

  next : days_of_years (suc p.y - 2000) ≡ p.start + (365 + more (leap_year p.y))
  next = year_on p.y since ∙ (let e = year_days_law p.y in omega (arith, e, first))

  -- the 29 February of that year or of the next
  to : After n p.y p.over → year_after n ≡ n + 366 → LeapBetween n (year_after n)
  to (inl (l, e)) q = ⊎_elim
      (λ (m : (leap_year p.y ≡ true) × (more (leap_year p.y) ≡ 1)).
      let here : date_of (days_of_years (p.y - 2000) + 59) ≡ date p.y 2 29 = leap_date p.y since m.0 in
      (days_of_years (p.y - 2000) + 59, omega (arith, is, first), omega (arith, q, is, first), ap is_leap_day here))
      (λ m. absurd (omega (arith, e, q, m.1))) (more_or_not (leap_year p.y))
  to (inr (inl (l, o, e))) q = absurd (omega (arith, e, q))
  to (inr (inr (o, e))) q = ⊎_elim
      (λ (m : (leap_year (suc p.y) ≡ true) × (more (leap_year (suc p.y)) ≡ 1)).
      let here : date_of (days_of_years (suc p.y - 2000) + 59) ≡ date (suc p.y) 2 29 = leap_date (suc p.y) (omega (arith, since)) m.0 in
      (days_of_years (suc p.y - 2000) + 59, omega (arith, is, next, short), omega (arith, q, is, next, o), ap is_leap_day here))
      (λ m. absurd (omega (arith, e, q, m.1))) (more_or_not (leap_year (suc p.y)))

  -- no other 29 February is between
  from : After n p.y p.over → LeapBetween n (year_after n) → year_after n ≡ n + 366
  from a (k, l, h, e) = go a (leap_at k e)
    where
      go : After n p.y p.over → LeapDay k → year_after n ≡ n + 366
      go a w = which (dec_lt w.y p.y) (ℕ_discrete w.y p.y) (ℕ_discrete w.y (suc p.y))
        where
          number : k ≡ days_of_years (w.y - 2000) + 59
          number = w.is

          since' : 2000 ≤ w.y
          since' = w.since

          which : Dec (w.y < p.y) → Dec (w.y ≡ p.y) → Dec (w.y ≡ suc p.y) → year_after n ≡ n + 366
          which (yes b) c d =
              let before : days_of_years (suc w.y - 2000) ≤ days_of_years (p.y - 2000) = ascend (suc w.y - 2000) (p.y - 2000) (omega (arith, since')) in
              let year : days_of_years (suc w.y - 2000) ≡ days_of_years (w.y - 2000) + year_days w.y = year_on w.y since' in
              let days = year_days_law w.y in
              absurd (omega (arith, l, is, first, number, before, year, days))
          which (no b) (yes c) d =
              let leap : leap_year p.y ≡ true = subst (λ (y : ℕ). leap_year y ≡ true) c w.leap in
              let one : more (leap_year p.y) ≡ 1 = ap more leap in
              let same : days_of_years (w.y - 2000) ≡ days_of_years (p.y - 2000) = ap (λ (y : ℕ). days_of_years (y - 2000)) c in
              ⊎_elim (λ (x : (p.over < 59) × (year_after n ≡ n + (365 + more (leap_year p.y)))). omega (arith, x.1, one))
              (λ y. ⊎_elim
              (λ (x : (leap_year p.y ≡ true) × (p.over ≡ 59) × (year_after n ≡ n + 365)). absurd (omega (arith, x.1, l, number, same, is, first)))
              (λ x. absurd (omega (arith, x.0, one, l, number, same, is, first))) y) a
          which (no b) (no c) (yes d) =
              let leap : leap_year (suc p.y) ≡ true = subst (λ (y : ℕ). leap_year y ≡ true) d w.leap in
              let one : more (leap_year (suc p.y)) ≡ 1 = ap more leap in
              let same : days_of_years (w.y - 2000) ≡ days_of_years (suc p.y - 2000) = ap (λ (y : ℕ). days_of_years (y - 2000)) d in
              let common : more (leap_year p.y) ≡ 0 =
              ⊎_elim (λ m. absurd (not_both p.y m.0 leap)) (λ m. m.1) (more_or_not (leap_year p.y)) in
              ⊎_elim (λ (x : (p.over < 59) × (year_after n ≡ n + (365 + more (leap_year p.y)))).
              absurd (omega (arith, x.0, x.1, common, h, number, same, next, is)))
              (λ y. ⊎_elim (λ (x : (leap_year p.y ≡ true) × (p.over ≡ 59) × (year_after n ≡ n + 365)). absurd (not_both p.y x.0 leap))
              (λ x. omega (arith, x.1, one)) y) a
          which (no b) (no c) (no d) =
              let later : days_of_years (suc (suc p.y) - 2000) ≤ days_of_years (w.y - 2000) =
              ascend (suc (suc p.y) - 2000) (w.y - 2000) (omega (arith, since, since', b, c, d)) in
              let year : days_of_years (suc (suc p.y) - 2000) ≡ days_of_years (suc p.y - 2000) + year_days (suc p.y) =
              year_on (suc p.y) (omega (arith, since)) in
              let days = year_days_law (suc p.y) in
              let most : year_after n ≤ n + 366 = ⊎_elim (λ (e : year_after n ≡ n + 365). omega (arith, e)) (λ e. omega (arith, e)) (lengths a) in
              absurd (omega (arith, h, number, later, year, days, next, is, short, most))

pub year_length : YearLength
year_length = record {
  either = λ n. lengths n (placed n) (placed n).after;
  longer = λ n. (to n (placed n) (placed n).after, from n (placed n) (placed n).after);
}

-- ---- operator 5

after_first : year_after 0 ≡ 366
unfolding year_after date_of days_of_years days_of_months
after_first = refl

far : (n : ℕ) → n + 365 ≤ year_after n
far n = ⊎_elim (λ (e : year_after n ≡ n + 365). omega (arith, e)) (λ e. omega (arith, e)) (year_length.either n)

-- one year after a day of 2099 is past all days
past_all : (n : ℕ) → (date_of n).year ≡ 2099 → max_day ≤ year_after n
past_all n y =
    let p = placed n in
    let year : p.y ≡ 2099 = sym p.dates ∙ y in
    let start : p.start ≡ days_of_years 99 = p.starts ∙ ap (λ (y : ℕ). days_of_years (y - 2000)) year in
    let next : days_of_years 100 ≡ days_of_years 99 + 365 = year_on 2099 (omega arith) in
    let c = century in
    let f = far n in
    let i : n ≡ p.start + p.over = p.is in
    omega (arith, start, next, c, f, i)

-- the last day is 31 December 2099
last_day : date_of max_day ≡ date 2099 12 31
unfolding days_of_years days_of_months
last_day = forth (date 2099 12 31) (record { since = omega arith; month = omega arith; months = omega arith; day = omega arith; days = omega arith })

after_last : year_after max_day ≡ 36889
unfolding year_after days_of_years days_of_months
after_last = ap (λ (d : Date). day_of (one_year_after d)) last_day

pub permit_year : PermitYear
permit_year = record {
  first = ap (leb 366) after_first;
  past = ap (leb 367) after_first;
  beyond = after_last;
  below = λ left right l k. rw (le-leb right max_day k, le-leb left (year_after right) (let f = far right in omega (arith, l, f)));
  last = λ left right l k y. rw (le-leb right max_day k, le-leb left (year_after right) (let f = past_all right y in omega (arith, l, f)));
}
