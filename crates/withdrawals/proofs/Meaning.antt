-- What the code reads of withdrawals by the table of kinds is what the model reads by the constants.
use mathlib.Core.Path.{◌≡◌, refl, sym, ◌∙◌, ap, ap₂}
use mathlib.Core.Bool.{Bool, true, false, not, ◌&&◌, cond}
use mathlib.Core.List.Memᴰ
use mathlib.Core.List.{List, [], ◌∷◌, ◌++◌}
use Prim.Native.Nat.{ℕ, zero, suc, ◌+◌, ◌-◌, ◌≤◌, ◌<◌}
use native.Mathlib.Decide.{dec_lt}
use native.Mathlib.Omega.{arith}
use lib.Dec.{eqb, ltb, eqb-suc-zero}
use lib.ListN.{length, drop}
use borrow.Author.Tests.{lt-ltb, le-ltb, ne_eqb}
use Rattle.std.specs.Prelude.{Option, Some, None, is_some, is_none, Ok, Err}
use Rattle.wire.proofs.Reading.{choose_true}
use Rattle.model.specs.Limits.{first_variable, today_code, max_withdrawals, version}
use Rattle.model.specs.Lists.{each}
use Rattle.model.specs.Syntax.{con, var, today, Withdrawal, Constant, Verb, vars_of, vars_test, vars_withdrawal}
use Rattle.model.specs.Kinds.{withdrawal_demands, fitting}
use Rattle.model.specs.Bytes.{byte_at, u16_at, choose, got, refused}
use Rattle.model.specs.Readings.{expr_of, expr_at, constraints_at}
use Rattle.model.specs.Entries.{withdrawal_end, withdrawal_at, withdrawal_form, withdrawal_item, computed_withdrawals, read_withdrawals}
use Rattle.model.proofs.EntryReader.{withdrawals_is}
use Rattle.model.proofs.ReadFacts.{choose_yes}
use Rattle.model.proofs.Shifts.{rest_withdrawal, rest_withdrawal_end, rest_withdrawal_form}
use Rattle.model.proofs.Tests.{T_true}
use Rattle.limits.specs.declared.Kind.TheVariants.{Principal}
use Rattle.kinds.specs.declared.Term.{Term}
use Rattle.kinds.specs.declared.Term.TheVariants.{Any}
use Rattle.kinds.specs.Cells.{Cells, Ask, same, feed, nothing}
use Rattle.kinds.specs.Asks.{asks_for}
use Rattle.kinds.proofs.Model.{fits}
use Rattle.phrases.specs.Tables.{Tables}
use Rattle.phrases.proofs.Model as phrase
use Rattle.phrases.proofs.Ends.{operators_regular}
use Rattle.slices.specs.Steps.{Step, step}
use Rattle.slices.specs.declared.Reason.TheVariants.{Form, Unfit, Variable}
use Rattle.slices.specs.Lists.{standing, item_by, only_list_by, count_of}
use Rattle.slices.proofs.ListFacts.{Reads}
use Rattle.slices.proofs.ListSteps.{only_list_is, only_list_got}
use Rattle.withdrawals.specs.Reading.{closed_expr, test_closed, tests_closed, closed_by, entry_asks, check_by}
use Rattle.withdrawals.specs.Left.{entries_at}
use Rattle.withdrawals.proofs.Steps.{form_within}

-- ---- variables

-- no variable in two lists
none_both : {A : Type 0} (xs ys : List A) (a b : Bool) → a ≡ eqb (length xs) 0 → b ≡ eqb (length ys) 0 → a && b ≡ eqb (length (xs ++ ys)) 0
none_both [] ys a b e f = rw e f
none_both (x ∷ xs) ys a b e f = rw (e, eqb-suc-zero (length xs), eqb-suc-zero (length (xs ++ ys)))

module _ (s : List ℕ) where
  expr_closed : (p : ℕ) → closed_expr s p ≡ eqb (length (vars_of (expr_at s p))) 0
  unfolding expr_of choose
  expr_closed p = go (dec_lt x first_variable)
    where
      x : ℕ
      x = u16_at s p

      low : (b : Bool) → true ≡ eqb (length (vars_of (choose b today (con x)))) 0
      low true = refl
      low false = refl

      go : Dec (x < first_variable) → ltb x first_variable
          ≡ eqb (length (vars_of (choose (eqb x today_code) today (choose (ltb x first_variable) (con x) (var (x - first_variable)))))) 0
      go (yes h) = rw (choose_true (con x) (var (x - first_variable)) (lt-ltb x first_variable h), lt-ltb x first_variable h) (low (eqb x today_code))
      go (no h) =
          let l : first_variable ≤ x = omega arith in
          let n : x ≡ today_code → ⊥ = λ e. omega arith in
          rw (le-ltb x first_variable l, ne_eqb x today_code n)

  test_closed_law : (p : ℕ) → test_closed s p ≡ eqb (length (vars_of (expr_at s (p + 1)) ++ vars_of (expr_at s (p + 3)))) 0
  test_closed_law p = none_both (vars_of (expr_at s (p + 1))) (vars_of (expr_at s (p + 3))) _ _ (expr_closed (p + 1)) (expr_closed (p + 3))

  tests_closed_law : (n p : ℕ) → tests_closed n s p ≡ eqb (length (each (constraints_at n s p) vars_test)) 0
  unfolding tests_closed constraints_at
  tests_closed_law zero p = refl
  tests_closed_law (suc n) p =
      none_both (vars_of (expr_at s (p + 1)) ++ vars_of (expr_at s (p + 3))) (each (constraints_at n s (p + 5)) vars_test) _ _ (test_closed_law p)
      (tests_closed_law n (p + 5))

  closed_is : closed_by s ≡ eqb (length (vars_withdrawal (withdrawal_at s 0))) 0
  unfolding withdrawal_at
  closed_is = none_both (vars_of (expr_at s 0)) _ _ _ (expr_closed 0) (tests_closed_law (byte_at s 6) 7)

-- ---- the entries of an accepted slice

module _ (cs : List Constant) (s : List ℕ) where
  -- what an entry that is read is, and where it ends
  reads : Reads s (withdrawal_item cs s) (withdrawal_at s) (withdrawal_end s)
  unfolding withdrawal_item
  reads = record {
    value = λ before at x e h. let w = entry_got before at x e h in w.0;
    end = λ before at x e h. let w = entry_got before at x e h in w.1;
    within = λ before at x e h. let w = entry_got before at x e h in w.2;
  }
    where
      entry_got : (before : List Withdrawal) (at : ℕ) (x : Withdrawal) (e : ℕ) → withdrawal_item cs s before at ≡ got x e
          → (x ≡ withdrawal_at s at) × (e ≡ withdrawal_end s at) × (e ≤ length s)
      entry_got before at x e h =
          let a = choose_yes (withdrawal_form s at) _ 3 at x e h in
          let b = choose_yes _ _ 5 at x e a.1 in
          let c = choose_yes _ _ 10 at x e b.1 in
          let g = c.1 in
          let v : withdrawal_at s at ≡ x = cc in
          let w : withdrawal_end s at ≡ e = cc in
          let l = form_within s at (T_true _ a.0) in
          (sym v, sym w, omega arith)

-- ---- entries by the table

right_operators : (a b c d : Bool) → choose a false (choose b false (choose c false d)) ≡ true → d ≡ true
unfolding choose
right_operators true b c d h = absurd (let z : ◌≡◌ {A = ℕ} 0 1 = cc in omega arith)
right_operators false true c d h = absurd (let z : ◌≡◌ {A = ℕ} 0 1 = cc in omega arith)
right_operators false false true d h = absurd (let z : ◌≡◌ {A = ℕ} 0 1 = cc in omega arith)
right_operators false false false d h = h

module _ {cs : List Constant} {vs : List Verb} {ks sg : List ℕ} (X : Tables cs vs ks sg) where
  module _ (s : List ℕ) where
    asks_are : entry_asks ks s ≡ asks_for cs (withdrawal_demands (withdrawal_at s 0))
    unfolding entry_asks withdrawal_at
    asks_are = ap₂ (λ (a : Option Term) (l : List Ask). same a (Some (Any Principal)) ∷ l) (phrase.place_is X s 0)
        (phrase.tests_asks_law X s (byte_at s 6) 7)

    fits_is : withdrawal_form s 0 ≡ true → is_some (feed (entry_asks ks s) nothing) ≡ fitting cs (withdrawal_demands (withdrawal_at s 0))
    unfolding withdrawal_form withdrawal_at
    fits_is h =
        ap (λ (qs : List Ask). is_some (feed qs nothing)) asks_are
        ∙ fits cs (withdrawal_demands (withdrawal_at s 0)) (record {
          constants = X.constant_kinds;
          places = λ p m. rw (Memᴰ.eq_of_singleton m) (omega arith, omega arith);
          tests = operators_regular s (byte_at s 6) 7 (right_operators _ _ _ _ h);
        })

  -- the tests agree, the second where the first passes
  judge : {A : Type 0} (a : A) (e at : ℕ) (f : Option Cells) (g h k : Bool) (form : Bool) → (form ≡ true → is_some f ≡ g) → h ≡ k
      → standing at (cond (not form) (Err Form) (cond (is_none f) (Err Unfit) (cond h (Ok e) (Err Variable))))
      ≡ step (choose form (choose g (choose k (got a (at + e)) (refused 10 at)) (refused 5 at)) (refused 3 at))
  unfolding choose step standing
  judge a e at (Some t) g true k true d q = rw (← d refl, ← q)
  judge a e at (Some t) g false k true d q = rw (← d refl, ← q)
  judge a e at None g h k true d q = rw (← d refl)
  judge a e at f g h k false d q = refl

  -- what the bytes from an offset on begin with is the entry at that offset
  pub entry_is : (s : List ℕ) (at : ℕ) (before : List Withdrawal) → item_by (check_by ks) s at ≡ step (withdrawal_item cs s before at)
  unfolding check_by withdrawal_item
  entry_is s at before =
      let r = drop at s in
      let form = rest_withdrawal_form s at 0 at (omega arith) in
      let entry = rest_withdrawal s at 0 at (omega arith) in
      let end = rest_withdrawal_end s at 0 at (omega arith) in
      judge (withdrawal_at r 0) (withdrawal_end r 0) at _ _ _ _ (withdrawal_form r 0) (fits_is r) (closed_is r) ∙ rw (form, entry, end)

-- ---- the slice

-- as many entries as the model reads
pub means : (ks s : List ℕ) (z : Step) → z ≡ only_list_by (check_by ks) s version max_withdrawals
    → (cs : List Constant) (vs : List Verb) (sg : List ℕ) → Tables cs vs ks sg → z ≡ count_of (read_withdrawals cs s)
unfolding computed_withdrawals
means ks s z h cs vs sg X =
    h ∙ only_list_is s (withdrawal_item cs s) (withdrawal_at s) (withdrawal_end s) (reads cs s) version max_withdrawals (check_by ks) (entry_is X s)
    ∙ sym (ap count_of (withdrawals_is cs s))

-- the entries of an accepted slice stand one after another behind their count
pub entries_read : (cs : List Constant) (s : List ℕ) (ws : List Withdrawal) (e : ℕ) → read_withdrawals cs s ≡ got ws e
    → (ws ≡ entries_at s (length ws) 7) × (length ws ≤ max_withdrawals)
unfolding computed_withdrawals
entries_read cs s ws e h =
    only_list_got s (withdrawal_item cs s) (withdrawal_at s) (withdrawal_end s) (reads cs s) version max_withdrawals ws e (sym (withdrawals_is cs s) ∙ h)
