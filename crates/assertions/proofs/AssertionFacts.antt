-- What the code finds of an assertion by the two tables is what the model says of it: form, kinds and safety by its own bytes, and in the last part the whole
-- in a slice in which these stand.
use mathlib.Core.Path.{◌≡◌, refl, sym, ◌∙◌, ap, ap₂, subst}
use mathlib.Core.Bool.{Bool, true, false, ◌&&◌, ◌||◌, cond}
use mathlib.Core.Logic.{⊎_elim}
use mathlib.Core.List.Memᴰ
use mathlib.Core.List.{List, [], ◌∷◌, ◌++◌, map, map-append, append_assoc, Memᴰ}
use Prim.Native.Nat.{ℕ, zero, suc, ◌+◌, ◌≤◌, ◌<◌}
use native.Mathlib.Decide.{dec_lt}
use native.Mathlib.Omega.{arith}
use lib.Dec.{T, eqb, ltb, leb, eqb-suc-zero}
use lib.ListN.{length}
use borrow.Author.Tests.{ltb-false, lt-ltb, le-ltb}
use Rattle.model.proofs.ListFacts.{each_of, each_in, and_of}
use Rattle.model.proofs.ReadFacts.{levels_arity}
use Rattle.std.proofs.Common.{Ok, Err, is_some, take, drop}
use Rattle.std.proofs.lemmas.List.{get_or-take, length-take-le}
use Rattle.model.specs.Limits.{principal}
use Rattle.model.specs.Lists.{all, each, among}
use Rattle.model.specs.Syntax.{Expr, Fact, flat, can_say, Assertion, Constant, Verb, vars_of, vars_in, vars_test}
use Rattle.model.specs.Kinds.{kind_at, param_kinds, pair, places, demands_of, occurring, fitting, fits_assertion}
use Rattle.model.specs.Safety.{is_flat, safe_head, safe_assertion}
use Rattle.model.specs.Bytes.{byte_at, u16_at, choose, got, refused}
use Rattle.model.specs.Readings.{expr_at, levels_at, fact_at, fact_end, facts_end, body_at, tests_at, assertion_read_at}
use Rattle.model.specs.Readings.{assertion_end}
use Rattle.model.specs.Forms as forms
use Rattle.model.specs.Forms.{ends, broken, no_verb, operators_form, tests_form, body_form, statement_form, assertion_form}
use Rattle.model.specs.Policies as policies
use Rattle.model.specs.Policies.{judged, assertion_item}
use Rattle.model.specs.Records.{Arity}
use Rattle.kinds.specs.Cells.{Ask, feed, nothing}
use Rattle.kinds.specs.Asks.{ask_place, ask_test, asks_for, Regular}
use Rattle.kinds.proofs.Model.{fits, fits_low}
use Rattle.phrases.specs.declared.Fault.TheVariants.{Broken}
use Rattle.phrases.specs.Tables.{Tables}
use Rattle.phrases.specs.Phrases.{fact_next, facts_by, code_form}
use Rattle.phrases.specs.Marks.{none, marked, within}
use Rattle.phrases.proofs.Model as phrase
use Rattle.phrases.proofs.Ends.{form_ends, forms_end, operators_regular}
use Rattle.phrases.proofs.Sets.{marked_append, within_is}
use Rattle.slices.specs.declared.Reason.TheVariants.{Form, Unfit, UnsafeAssertion}
use Rattle.slices.specs.Steps.{step}
use Rattle.slices.specs.Lists.{standing, item_by}
use Rattle.assertions.specs.Assertions.{issuer_place, head_place, tests_by, tests_form_by, body_form_by, statement_form_by, body_asks, statement_asks, fits_by}
use Rattle.assertions.specs.Assertions.{body_marks, head_safe_by, tests_safe_by, safe_by, judged_by, formed_by, own_by, check_by}
use Rattle.assertions.proofs.AssertionLaws.{check_cut, check_past, check_whole}
use Rattle.model.proofs.ReaderEnds.{no_broken, then_ends}
use Rattle.model.proofs.Tests.{true_T}
use Rattle.model.proofs.Shifts.{rest_length, rest_byte, rest_u16}
use Rattle.model.proofs.ShiftFacts.{moved, assertion_item_moved}

-- ---- form

code_tests : (a b c d : Bool) (e : ℕ)
    → cond (a || b) (Err Broken) (cond (c && d) (Ok e) (Err Broken))
    ≡ code_form (choose a broken (choose b broken (choose c (choose d (ends e) broken) broken)))
unfolding choose
code_tests true b c d e = refl
code_tests false true c d e = refl
code_tests false false false d e = refl
code_tests false false true false e = refl
code_tests false false true true e = refl

module _ {cs : List Constant} {vs : List Verb} {ks sg : List ℕ} (X : Tables cs vs ks sg) (s : List ℕ) where
  tests_form_law : (p : ℕ) → tests_form_by s p ≡ code_form (tests_form vs s (length s) p)
  unfolding tests_form_by tests_form
  tests_form_law p = code_tests _ _ _ _ (length s)

  body_form_law : (p : ℕ) → body_form_by sg s p ≡ code_form (body_form vs s (length s) p)
  unfolding body_form_by body_form
  body_form_law p =
      ap (cond (leb (length s) p || ltb 4 (byte_at s p)) (Err Broken))
      (phrase.then_code _ _ _ _ (phrase.forms_are X s (byte_at s p) (p + 1)) tests_form_law)
      ∙ phrase.code_either _ _ _

  statement_form_law : statement_form_by sg s ≡ code_form (statement_form vs s (length s) 2)
  unfolding statement_form_by statement_form
  statement_form_law =
      ap (cond (ltb (length s) head_place) (Err Broken)) (phrase.then_code _ _ _ _ (phrase.form_is X s head_place) body_form_law)
      ∙ sym (phrase.code_choose (ltb (length s) head_place) broken _)

-- ---- what an assertion of right form is sure to have

past : (b : Bool) (x : forms.Form) (q : ℕ) → choose b broken x ≡ ends q → (b ≡ false) × (x ≡ ends q)
unfolding choose
past true x q h = absurd (no_broken q h)
past false x q h = (refl, h)

passed : (b : Bool) (x : forms.Form) (q : ℕ) → choose b x broken ≡ ends q → (b ≡ true) × (x ≡ ends q)
unfolding choose
passed true x q h = (refl, h)
passed false x q h = absurd (no_broken q h)

pub record Shaped (vs : List Verb) (s : List ℕ) (at e : ℕ) : Type 0 where
  pub end : e ≡ assertion_end s at
  pub within : e ≤ length s
  pub operators : operators_form (byte_at s (tests_at vs s at)) s (tests_at vs s at + 1) ≡ true

module _ (vs : List Verb) (s : List ℕ) where
  tests_right : (e c q : ℕ) → tests_form vs s e c ≡ ends q → (q ≡ e) × (operators_form (byte_at s c) s (c + 1) ≡ true)
  unfolding tests_form
  tests_right e c q h =
      let o = passed _ _ q (passed _ _ q (past _ _ q (past _ _ q h).1).1).1 in
      let w = o.1 in
      (cc, o.0)

  pub shaped : (at e : ℕ) → assertion_form vs s at ≡ ends e → Shaped vs s at e
  unfolding assertion_form statement_form body_form body_at tests_at
  shaped at e h =
      let a = past _ _ e (past _ _ e h).1 in
      let b = then_ends _ _ e (past _ _ e a.1).1 in
      let c = then_ends _ _ e (past _ _ e (past _ _ e b.2).1).1 in
      let t = tests_right (assertion_end s at) c.0 e c.2 in
      let w = ltb-false (length s) (assertion_end s at) a.0 in
      let m : at + 2 + 6 ≡ at + 8 = omega arith in
      let i : b.0 ≡ fact_end vs s (at + 8) = sym (form_ends vs s (assertion_end s at) (at + 2 + 6) b.0 b.1) ∙ ap (fact_end vs s) m in
      let j : c.0 ≡ facts_end vs (byte_at s b.0) s (b.0 + 1) = sym (forms_end vs s (assertion_end s at) (byte_at s b.0) (b.0 + 1) c.0 c.1) in
      let k : c.0 ≡ tests_at vs s at = j ∙ ap (λ (x : ℕ). facts_end vs (byte_at s x) s (x + 1)) i in
      record { end = t.0; within = omega arith; operators = subst (λ (x : ℕ). operators_form (byte_at s x) s (x + 1) ≡ true) k t.1 }

-- ---- kinds

module _ {cs : List Constant} {vs : List Verb} {ks sg : List ℕ} (X : Tables cs vs ks sg) (s : List ℕ) where
  abbrev stated : Assertion
  stated = assertion_read_at vs s 0

  asks_are : statement_asks ks sg s ≡ asks_for cs (demands_of vs stated)
  unfolding statement_asks body_asks tests_by assertion_read_at body_at tests_at
  asks_are =
      rw (
        phrase.next_is X s head_place,
        phrase.nexts_are X _ s _,
        phrase.fact_asks_law X s head_place,
        phrase.facts_asks_law X s _ _,
        phrase.tests_asks_law X s _ _,
      )
      (sym (ap (λ (l : List Ask). l ++ each stated.tests (ask_test cs))
      (map-append (ask_place cs) (places vs stated.head) (each stated.body (places vs)))
      ∙ append_assoc (map (ask_place cs) (places vs stated.head)) (map (ask_place cs) (each stated.body (places vs))) (each stated.tests (ask_test cs))))

  regular : {e : ℕ} → Shaped vs s 0 e → Regular cs (demands_of vs stated)
  unfolding assertion_read_at
  regular S = record {
    constants = X.constant_kinds;
    places = λ p m. let r = each_of (places vs) (stated.head ∷ stated.body) m in phrase.places_regular X r.0 p r.2;
    tests = operators_regular s _ _ S.operators;
  }

  pub fits_is : {e : ℕ} → Shaped vs s 0 e → fits_by ks sg s ≡ fits_assertion cs vs stated
  unfolding fits_by assertion_read_at
  fits_is S = ap₂ ◌&&◌ (ap (λ (k : ℕ). eqb k principal) (X.kinds (u16_at s issuer_place)))
      (ap (λ (qs : List Ask). is_some (feed qs nothing)) asks_are ∙ fits cs (demands_of vs stated) (regular S))

-- ---- safety: a variable of a fact stands in one of its places

paired : (ks : List ℕ) (es : List Expr) (e : Expr) → length es ≡ length ks → Memᴰ e es → (k : ℕ) × Memᴰ (k, e) (pair ks es)
paired [] es e l m = absurd (none_there es l m)
  where
    none_there : (es : List Expr) → length es ≡ 0 → Memᴰ e es → ⊥
    none_there [] l m = Memᴰ.not-nil m
    none_there (x ∷ es) l m = omega arith
paired (k ∷ ks) [] e l m = absurd (Memᴰ.not-nil m)
paired (k ∷ ks) (x ∷ es) e l m =
    ⊎_elim
    (λ q. (k, Memᴰ.head (ap (λ (y : Expr). (k, y)) q)))
    (λ n. let r = paired ks es e (omega arith) n in (r.0, Memᴰ.tail r.1))
    (Memᴰ.cases_cons m)

placed : (vs : List Verb) (f : Fact Expr) (v : ℕ) → Arity vs f → Memᴰ v (vars_in f)
    → (p : ℕ × Expr) × Memᴰ p (places vs f) × Memᴰ v (vars_of p.1)
placed vs (flat e w es) v a m = ⊎_elim (λ n. ((principal, e), Memᴰ.head refl, n)) later (Memᴰ.append_cases (vars_of e) m)
  where
    later : Memᴰ v (each es vars_of) → (p : ℕ × Expr) × Memᴰ p (places vs (flat e w es)) × Memᴰ v (vars_of p.1)
    later n = let r = each_of vars_of es n in let q = paired (param_kinds vs w) es r.0 a r.1 in ((q.0, r.0), Memᴰ.tail q.1, r.2)
placed vs (can_say e d f) v a m =
    let ih = placed vs f v a in
    ⊎_elim (λ n. ((principal, e), Memᴰ.head refl, n)) (λ n. let r = ih n in (r.0, Memᴰ.tail r.1, r.2)) (Memᴰ.append_cases (vars_of e) m)

-- "In a flat head every variable .. In a nested head the outermost speaker .."
head_levels : (vs : List Verb) (s : List ℕ) (m p : ℕ) (ins : List ℕ) → ((v : ℕ) → Memᴰ v (vars_in (levels_at vs m s p)) → v < 8)
    → cond (eqb m 0) (within 8 (marked (vars_in (levels_at vs m s p)) none) (marked ins none))
    (within 8 (marked (vars_of (expr_at s p)) none) (marked ins none))
    ≡ safe_head (levels_at vs m s p) ins
unfolding levels_at
head_levels vs s zero p ins low = within_is (vars_in (levels_at vs 0 s p)) ins low
head_levels vs s (suc m) p ins low = rw (eqb-suc-zero m) (within_is (vars_of (expr_at s p)) ins (λ v n. low v (Memᴰ.append_left _ n)))

module _ {cs : List Constant} {vs : List Verb} {ks sg : List ℕ} (X : Tables cs vs ks sg) (s : List ℕ) {e : ℕ} (S : Shaped vs s 0 e)
    (fit : T (fitting cs (demands_of vs (assertion_read_at vs s 0)))) where
  abbrev said : Assertion
  said = assertion_read_at vs s 0

  abbrev in_body : List ℕ
  in_body = each said.body vars_in

  low : (v : ℕ) → Memᴰ v (occurring (demands_of vs said)) → v < 8
  low = fits_low cs (demands_of vs said) (regular X s S) fit

  head_low : (v : ℕ) → Memᴰ v (vars_in said.head) → v < 8
  unfolding assertion_read_at fact_at
  head_low v m =
      let r = placed vs said.head v (levels_arity vs (byte_at s head_place) s (head_place + 1)) m in
      low v (Memᴰ.append_left _ (each_in (λ (p : ℕ × Expr). vars_of p.1) (Memᴰ.append_left _ r.1) r.2))

  tests_low : (v : ℕ) → Memᴰ v (each said.tests vars_test) → v < 8
  tests_low v m = low v (Memᴰ.append_right (each (demands_of vs said).places (λ (p : ℕ × Expr). vars_of p.1)) m)

  flat_is : all is_flat (facts_by sg (byte_at s (fact_next sg s head_place)) s (fact_next sg s head_place + 1)) ≡ all is_flat said.body
  unfolding assertion_read_at body_at
  flat_is = rw (phrase.next_is X s head_place, phrase.facts_are X _ s _)

  body_is : (m : List ℕ) → body_marks sg s (fact_next sg s head_place) m ≡ marked in_body m
  unfolding body_marks assertion_read_at body_at
  body_is m = rw (phrase.next_is X s head_place, phrase.facts_are X _ s _)

  head_is : head_safe_by sg s (fact_next sg s head_place) ≡ safe_head said.head in_body
  unfolding head_safe_by assertion_read_at fact_at
  head_is = rw (body_is none, phrase.fact_is X s head_place) (head_levels vs s (byte_at s head_place) (head_place + 1) in_body head_low)

  tests_at_law : tests_by sg s (fact_next sg s head_place) ≡ tests_at vs s 0
  unfolding tests_by tests_at body_at
  tests_at_law = rw (phrase.next_is X s head_place, phrase.nexts_are X _ s _)

  tests_are : tests_safe_by sg s (fact_next sg s head_place) (tests_by sg s (fact_next sg s head_place))
      ≡ among (each said.tests vars_test) (vars_in said.head ++ in_body)
  unfolding tests_safe_by assertion_read_at
  tests_are =
      rw (tests_at_law, body_is _, phrase.fact_is X s head_place)
      (ap (within 8 (marked (each said.tests vars_test) none)) (sym (marked_append (vars_in said.head) in_body none))
      ∙ within_is (each said.tests vars_test) (vars_in said.head ++ in_body) tests_low)

  pub safe_is : safe_by sg s (fact_next sg s head_place) ≡ safe_assertion said
  unfolding safe_by
  safe_is = ap₂ ◌&&◌ (ap₂ ◌&&◌ flat_is head_is) tests_are

-- ---- an assertion's own bytes

-- fit, then safe: the tests agree, the second where the first passes
judge : {A : Type 0} (a : A) (f g h k : Bool) (at n e : ℕ) → n ≡ e → f ≡ g → (g ≡ true → h ≡ k)
    → standing at (cond f (cond h (Ok n) (Err UnsafeAssertion)) (Err Unfit)) ≡ step (moved at (choose g (choose k (got a e) (refused 6 0)) (refused 5 0)))
unfolding choose step standing moved
judge a f true h true at n e w d q = rw (d, q refl, w)
judge a f true h false at n e w d q = let z : at + 0 ≡ at = omega arith in rw (d, q refl, z)
judge a f false h k at n e w d q = let z : at + 0 ≡ at = omega arith in rw (d, z)

module _ {cs : List Constant} {vs : List Verb} {ks sg : List ℕ} (X : Tables cs vs ks sg) (s : List ℕ) (ended : 2 + u16_at s 0 ≡ length s) (at : ℕ) where
  judged_is : (e : ℕ) → Shaped vs s 0 e → standing at (judged_by ks sg s) ≡ step (moved at (judged cs vs (assertion_read_at vs s 0) 0 e))
  unfolding judged_by judged assertion_end
  judged_is e S =
      let end = S.end in
      judge (assertion_read_at vs s 0) _ _ _ _ at (length s) e (omega arith) (fits_is X s S)
      (λ h. safe_is X s S (and_of (eqb (kind_at cs (assertion_read_at vs s 0).issuer) principal) _ (true_T _ h)).1)

  own_form : assertion_form vs s 0 ≡ statement_form vs s (length s) 2
  unfolding assertion_form assertion_end choose
  own_form = rw (ended, le-ltb (length s) 2 (omega arith), le-ltb (length s) (length s) (omega arith))

  own_is : (before : List Assertion) → standing at (own_by ks sg s) ≡ step (moved at (assertion_item cs vs s before 0))
  unfolding assertion_item policies.assertion_by own_by step standing moved
  own_is before = rw (statement_form_law X s, ← own_form) (go (assertion_form vs s 0) refl)
    where
      go : (φ : forms.Form) → assertion_form vs s 0 ≡ φ
          → standing at (formed_by ks sg (code_form φ) s) ≡ step (moved at (policies.assertion_by φ cs vs (assertion_read_at vs s 0) 0))
      go (ends e) h = judged_is e (shaped vs s 0 e h)
      go broken h = let z : at + 0 ≡ at = omega arith in rw z
      go no_verb h = let z : at + 0 ≡ at = omega arith in rw z

-- ---- the same in a slice

own_length : (n : ℕ) (s : List ℕ) → 2 ≤ n → u16_at (take n s) 0 ≡ u16_at s 0
unfolding u16_at
own_length n s h = rw (get_or-take n s 0 0 (omega arith), get_or-take n s 1 0 (omega arith))

module _ (vs : List Verb) (s : List ℕ) (at : ℕ) where
  form_cut : length s < at + 2 → assertion_form vs s at ≡ broken
  unfolding assertion_form choose
  form_cut h = rw (lt-ltb (length s) (at + 2) h)

  form_past : at + 2 ≤ length s → length s < at + 2 + u16_at s at → assertion_form vs s at ≡ broken
  unfolding assertion_form assertion_end choose
  form_past l h = rw (le-ltb (length s) (at + 2) l, lt-ltb (length s) (at + 2 + u16_at s at) h)

module _ {cs : List Constant} {vs : List Verb} {ks sg : List ℕ} (X : Tables cs vs ks sg) (s : List ℕ) (at : ℕ) (before : List Assertion) where
  -- the slice from the assertion on, and the assertion's own bytes, as far as its length says
  abbrev rest : List ℕ
  rest = drop at s

  abbrev own : List ℕ
  own = take (2 + u16_at rest 0) rest

  broken_is : check_by ks sg rest ≡ Err Form → assertion_form vs s at ≡ broken
      → item_by (check_by ks sg) s at ≡ step (assertion_item cs vs s before at)
  unfolding assertion_item policies.assertion_by step standing
  broken_is h f = rw (f, h)

  whole_is : length s ≡ at + length rest → 2 + u16_at rest 0 ≤ length rest → item_by (check_by ks sg) s at ≡ step (assertion_item cs vs s before at)
  whole_is l h =
      let n = length-take-le (2 + u16_at rest 0) rest h in
      let ended : 2 + u16_at own 0 ≡ length own = ap (λ (x : ℕ). 2 + x) (own_length (2 + u16_at rest 0) rest (omega arith)) ∙ sym n in
      let there = λ (p : ℕ) (k : p < length own). get_or-take (2 + u16_at rest 0) rest p 0 (omega arith) ∙ rest_byte s at p (at + p) refl in
      ap (standing at) (check_whole ks sg rest _ refl (omega arith) h)
      ∙ own_is X own ended at before
      ∙ ap step (sym (assertion_item_moved s own at there (omega arith) ended cs vs before))

  pub item_is : item_by (check_by ks sg) s at ≡ step (assertion_item cs vs s before at)
  item_is = go (dec_lt (length s) (at + 2)) (dec_lt (length s) (at + 2 + u16_at s at))
    where
      go : Dec (length s < at + 2) → Dec (length s < at + 2 + u16_at s at) → item_by (check_by ks sg) s at ≡ step (assertion_item cs vs s before at)
      go (yes h) d = let n = rest_length s at in broken_is (check_cut ks sg rest (omega arith)) (form_cut vs s at h)
      go (no h) (yes k) =
          let n = rest_length s at in
          let u = rest_u16 s at 0 at (omega arith) in
          broken_is (check_past ks sg rest _ refl (omega arith) (omega arith)) (form_past vs s at (omega arith) k)
      go (no h) (no k) =
          let n = rest_length s at in
          let u = rest_u16 s at 0 at (omega arith) in
          whole_is (omega arith) (omega arith)
