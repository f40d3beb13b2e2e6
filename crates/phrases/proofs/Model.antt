-- What the code reads by the two tables is what the model reads by the constants and the verbs.
use mathlib.Core.Path.{◌≡◌, refl, sym, ap, ap₂, ◌∙◌}
use mathlib.Core.Logic.{⊎_elim}
use mathlib.Core.Bool.{Bool, true, false, cond, ◌||◌}
use Rattle.std.proofs.Common.{Option, Some, None, Result, Ok, Err, ◌==◌, nat_lt, if◌then◌else◌}
use mathlib.Core.List.Memᴰ
use mathlib.Core.List.{List, [], ◌∷◌, ◌++◌, map, map-append, Memᴰ}
use Prim.Native.Nat.{ℕ, zero, suc, ◌+◌, ◌-◌, ◌*◌, ◌≤◌, ◌<◌}
use native.Mathlib.Decide.{dec_lt}
use native.Mathlib.Omega.{arith}
use lib.Dec.{ltb, leb, eqb}
use lib.ListN.{length, get_or, length-map, get_or-eq_default}
use borrow.Author.Tests.{lt-ltb, le-ltb, ne_eqb}
use Rattle.model.specs.Limits.{principal, first_variable, today_code}
use Rattle.model.specs.Lists.{each}
use Rattle.model.specs.Syntax.{Expr, con, var, today, Fact, flat, can_say, Constant, Verb}
use Rattle.model.specs.Kinds.{param_kinds, pair, places}
use Rattle.model.specs.Bytes.{byte_at, u16_at, choose}
use Rattle.model.specs.Readings.{arity_of, expr_of, expr_at, exprs_at, constraint_at, constraints_at, levels_at, levels_end, fact_at, fact_end, facts_at}
use Rattle.model.specs.Readings.{facts_end}
use Rattle.model.specs.Forms as forms
use Rattle.model.specs.Forms.{then_form, phrase_form, levels_form, fact_form, facts_form}
use Rattle.limits.specs.declared.Kind.TheVariants.{Principal, Day}
use Rattle.kinds.specs.declared.Term.{Term}
use Rattle.kinds.specs.declared.Term.TheVariants.{Variable, Any}
use Rattle.kinds.specs.Cells.{Ask, same}
use Rattle.kinds.specs.Asks.{kind_term, term_of, place_term, ask_place, operator_asks, ask_test}
use Rattle.phrases.specs.declared.Fault.{Fault}
use Rattle.phrases.specs.declared.Fault.TheVariants.{Broken, NoVerb}
use Rattle.phrases.specs.Tables.{Tables}
use Rattle.phrases.specs.Phrases.{arity_by, levels_by, fact_by, fact_next, facts_by, facts_next, code_form, then_by, phrase_form_by, levels_form_by}
use Rattle.phrases.specs.Phrases.{fact_form_by}
use Rattle.phrases.specs.Phrases.{facts_form_by, term_by, place_by, term_at, place_at, params_asks, levels_asks, fact_asks, facts_asks, test_asks, tests_asks}

-- a number past the verbs has no parameters
past_kinds : (vs : List Verb) (v : ℕ) → length vs < v → param_kinds vs v ≡ []
past_kinds vs zero h = absurd (omega arith)
past_kinds vs (suc v) h = get_or-eq_default (map (λ (x : Verb). x.kinds) vs) [] (let e = length-map vs (λ (x : Verb). x.kinds) in omega arith)

past_arity : (vs : List Verb) (v : ℕ) → length vs < v → arity_of vs v ≡ 0
unfolding arity_of
past_arity vs v h = ap length (past_kinds vs v h)

-- the kind of a place of a pair is among the kinds
pub pair_kinds : (js : List ℕ) (es : List Expr) (p : ℕ × Expr) → Memᴰ p (pair js es) → Memᴰ p.0 js
pair_kinds [] es p m = absurd (Memᴰ.not-nil m)
pair_kinds (j ∷ js) [] p m = absurd (Memᴰ.not-nil m)
pair_kinds (j ∷ js) (e ∷ es) p m =
    ⊎_elim (λ q. Memᴰ.head (ap (λ (x : ℕ × Expr). x.0) q)) (λ n. Memᴰ.tail (pair_kinds js es p n)) (Memᴰ.cases_cons m)

pub code_choose : (b : Bool) (x y : forms.Form) → code_form (choose b x y) ≡ cond b (code_form x) (code_form y)
unfolding choose
code_choose true x y = refl
code_choose false x y = refl

-- either of two tests fails
pub code_either : (a b : Bool) (x : forms.Form) → cond (a || b) (Err Broken) (code_form x) ≡ code_form (choose a forms.broken (choose b forms.broken x))
unfolding choose
code_either true b x = refl
code_either false true x = refl
code_either false false x = refl

pub then_code : (x : Result ℕ Fault) (φ : forms.Form) (f : ℕ → Result ℕ Fault) (g : ℕ → forms.Form) → x ≡ code_form φ → ((q : ℕ) → f q ≡ code_form (g q))
    → then_by x f ≡ code_form (then_form φ g)
unfolding then_form
then_code x (forms.ends p) f g e h = rw e (h p)
then_code x forms.broken f g e h = rw e
then_code x forms.no_verb f g e h = rw e

-- where the levels end, counted from their start
levels_end_law : (vs : List Verb) (m : ℕ) (s : List ℕ) (p : ℕ) → levels_end vs m s p ≡ p + 3 + 3 * m + 2 * arity_of vs (byte_at s (p + 3 * m + 2))
unfolding levels_end
levels_end_law vs zero s p =
    let e : p + 2 ≡ p + 3 * 0 + 2 = omega arith in
    let d : p + 3 ≡ p + 3 + 3 * 0 = omega arith in
    ap₂ (λ (x y : ℕ). x + 2 * arity_of vs (byte_at s y)) d e
levels_end_law vs (suc m) s p =
    let e : p + 3 + 3 * m + 2 ≡ p + 3 * suc m + 2 = omega arith in
    let d : p + 3 + 3 + 3 * m ≡ p + 3 + 3 * suc m = omega arith in
    levels_end_law vs m s (p + 3) ∙ ap₂ (λ (x y : ℕ). x + 2 * arity_of vs (byte_at s y)) d e

-- an expression by its class
of_choice : {A : Type 0} (f : Expr → A) (b : Bool) (x y : Expr) → f (choose b x y) ≡ cond b (f x) (f y)
unfolding choose
of_choice f true x y = refl
of_choice f false x y = refl

of_expr : {A : Type 0} (f : Expr → A) (x : ℕ)
    → f (expr_of x) ≡ cond (eqb x today_code) (f today) (cond (ltb x first_variable) (f (con x)) (f (var (x - first_variable))))
unfolding expr_of
of_expr f x =
    of_choice f (eqb x today_code) today _
    ∙ ap (cond (eqb x today_code) (f today)) (of_choice f (ltb x first_variable) (con x) (var (x - first_variable)))

twice : {A : Type 0} (b : Bool) (x y z : A) → cond b x (cond b y z) ≡ cond b x z
twice true x y z = refl
twice false x y z = refl

module _ {cs : List Constant} {vs : List Verb} {ks sg : List ℕ} (X : Tables cs vs ks sg) where
  -- ---- facts, and where they end

  pub arity_is_law : (v : ℕ) → arity_by sg v ≡ arity_of vs v
  unfolding arity_by
  arity_is_law v = go (dec_lt (length vs) v)
    where
      go : Dec (length vs < v) → byte_at sg (4 * v) - 1 ≡ arity_of vs v
      go (yes h) = rw (X.past v h) (sym (past_arity vs v h))
      go (no h) = let e = X.there v (omega arith) in omega arith

  levels_is : (m : ℕ) (s : List ℕ) (p : ℕ) → levels_by sg m s p ≡ levels_at vs m s p
  unfolding levels_by levels_at
  levels_is zero s p = ap (λ (n : ℕ). flat (expr_at s p) (byte_at s (p + 2)) (exprs_at n s (p + 3))) (arity_is_law (byte_at s (p + 2)))
  levels_is (suc m) s p = ap (can_say (expr_at s p) (byte_at s (p + 2))) (levels_is m s (p + 3))

  pub fact_is : (s : List ℕ) (p : ℕ) → fact_by sg s p ≡ fact_at vs s p
  unfolding fact_by fact_at
  fact_is s p = levels_is (byte_at s p) s (p + 1)

  pub next_is : (s : List ℕ) (p : ℕ) → fact_next sg s p ≡ fact_end vs s p
  unfolding fact_next fact_end
  next_is s p =
      let m = byte_at s p in
      let d : p + 4 + 3 * m ≡ p + 1 + 3 + 3 * m = omega arith in
      ap₂ (λ (x a : ℕ). x + 2 * a) d (arity_is_law (byte_at s (p + 1 + 3 * m + 2))) ∙ sym (levels_end_law vs m s (p + 1))

  pub facts_are : (n : ℕ) (s : List ℕ) (p : ℕ) → facts_by sg n s p ≡ facts_at vs n s p
  unfolding facts_by facts_at
  facts_are zero s p = refl
  facts_are (suc n) s p = ap₂ ◌∷◌ (fact_is s p) (facts_are n s (fact_next sg s p) ∙ ap (facts_at vs n s) (next_is s p))

  pub nexts_are : (n : ℕ) (s : List ℕ) (p : ℕ) → facts_next sg n s p ≡ facts_end vs n s p
  unfolding facts_next facts_end
  nexts_are zero s p = refl
  nexts_are (suc n) s p = nexts_are n s (fact_next sg s p) ∙ ap (facts_end vs n s) (next_is s p)

  -- ---- form

  module _ (s : List ℕ) where
    abbrev e : ℕ
    e = length s

    abbrev spans : ℕ → ℕ → forms.Form
    spans p a = choose (ltb e (p + 3 + 2 * a)) forms.broken (forms.ends (p + 3 + 2 * a))

    abbrev verb_form : ℕ → ℕ → Result ℕ Fault
    verb_form p n = if n == 0 then Err NoVerb else if nat_lt e (p + 1 + 2 * n) then Err Broken else Ok (p + 1 + 2 * n)

    verb_is : (p v : ℕ) → verb_form p (byte_at sg (4 * v)) ≡ cond (ltb (length vs) v) (Err NoVerb) (code_form (spans p (arity_of vs v)))
    verb_is p v = go (dec_lt (length vs) v)
      where
        go : Dec (length vs < v) → verb_form p (byte_at sg (4 * v)) ≡ cond (ltb (length vs) v) (Err NoVerb) (code_form (spans p (arity_of vs v)))
        go (yes h) = rw (X.past v h, lt-ltb (length vs) v h)
        go (no h) =
            let t : byte_at sg (4 * v) ≡ suc (arity_of vs v) = X.there v (omega arith) in
            let q : p + 1 + 2 * byte_at sg (4 * v) ≡ p + 3 + 2 * arity_of vs v = omega arith in
            rw (ne_eqb (byte_at sg (4 * v)) 0 (λ z. omega arith), q, le-ltb (length vs) v (omega arith))
            (sym (code_choose (ltb e (p + 3 + 2 * arity_of vs v)) forms.broken (forms.ends (p + 3 + 2 * arity_of vs v))))

    phrase_is : (p : ℕ) → phrase_form_by sg s p ≡ code_form (phrase_form vs s e p)
    unfolding phrase_form_by phrase_form
    phrase_is p =
        let v = byte_at s (p + 2) in
        ap (cond (ltb e (p + 3)) (Err Broken)) (verb_is p v ∙ sym (code_choose (ltb (length vs) v) forms.no_verb (spans p (arity_of vs v))))
        ∙ sym (code_choose (ltb e (p + 3)) forms.broken _)

    levels_form_law : (m p : ℕ) → levels_form_by sg s m p ≡ code_form (levels_form vs s e m p)
    unfolding levels_form_by levels_form
    levels_form_law zero p = phrase_is p
    levels_form_law (suc m) p = rw (levels_form_law m (p + 3)) (code_either (ltb e (p + 3)) (ltb 1 (byte_at s (p + 2))) (levels_form vs s e m (p + 3)))

    pub form_is : (p : ℕ) → fact_form_by sg s p ≡ code_form (fact_form vs s e p)
    unfolding fact_form_by fact_form
    form_is p = rw (levels_form_law (byte_at s p) (p + 1)) (code_either (leb e p) (ltb 3 (byte_at s p)) (levels_form vs s e (byte_at s p) (p + 1)))

    pub forms_are : (n p : ℕ) → facts_form_by sg s n p ≡ code_form (facts_form vs s e n p)
    unfolding facts_form_by facts_form
    forms_are zero p = refl
    forms_are (suc n) p = then_code (fact_form_by sg s p) (fact_form vs s e p) (facts_form_by sg s n) (facts_form vs s e n) (form_is p) (λ q. forms_are n q)

  -- ---- kinds

  term_of_law : (x : ℕ) → term_by ks x ≡ term_of cs (expr_of x)
  unfolding term_by term_of
  term_of_law x =
      ap (λ (k : ℕ). cond (eqb x today_code) (Some (Any Day)) (cond (ltb x first_variable) (kind_term k) (Some (Variable (x - first_variable))))) (X.kinds x)
      ∙ sym (of_expr (term_of cs) x)

  place_of : (x : ℕ) → place_by ks x ≡ place_term cs (expr_of x)
  unfolding place_by term_by place_term
  place_of x =
      twice (eqb x today_code) None (Some (Any Day)) _
      ∙ ap (λ (k : ℕ). cond (eqb x today_code) None (cond (ltb x first_variable) (kind_term k) (Some (Variable (x - first_variable))))) (X.kinds x)
      ∙ sym (of_expr (place_term cs) x)

  module _ (s : List ℕ) where
    pub term_is : (p : ℕ) → term_at ks s p ≡ term_of cs (expr_at s p)
    term_is p = term_of_law (u16_at s p)

    pub place_is : (p : ℕ) → place_at ks s p ≡ place_term cs (expr_at s p)
    place_is p = place_of (u16_at s p)

    params_asks_law : (js : List ℕ) (k p : ℕ) → ((i : ℕ) → i < length js → byte_at sg (k + i) ≡ get_or js i 0)
        → params_asks ks sg s (length js) k p ≡ map (ask_place cs) (pair js (exprs_at (length js) s p))
    unfolding params_asks exprs_at
    params_asks_law [] k p h = refl
    params_asks_law (j ∷ js) k p h =
        let z : k + 0 ≡ k = omega arith in
        ap₂ ◌∷◌
        (ap₂ (λ (a : Option Term) (b : ℕ). same a (kind_term b)) (place_is p) (ap (byte_at sg) (sym z) ∙ h 0 (omega arith)))
        (params_asks_law js (k + 1) (p + 2) (λ i l. let w : k + 1 + i ≡ k + suc i = omega arith in ap (byte_at sg) w ∙ h (suc i) (omega arith)))

    words_asks : (v p : ℕ) → params_asks ks sg s (arity_by sg v) (4 * v + 1) p ≡ map (ask_place cs) (pair (param_kinds vs v) (exprs_at (arity_of vs v) s p))
    unfolding arity_of
    words_asks v p =
        ap (λ (n : ℕ). params_asks ks sg s n (4 * v + 1) p) (arity_is_law v)
        ∙ params_asks_law (param_kinds vs v) (4 * v + 1) p (λ i l. X.params v i (go i l (dec_lt (length vs) v)) l)
      where
        go : (i : ℕ) → i < length (param_kinds vs v) → Dec (length vs < v) → v ≤ length vs
        go i l (yes h) = absurd (let e : length (param_kinds vs v) ≡ 0 = ap length (past_kinds vs v h) in omega arith)
        go i l (no h) = omega arith

    levels_asks_law : (m p : ℕ) → levels_asks ks sg s m p ≡ map (ask_place cs) (places vs (levels_at vs m s p))
    unfolding levels_asks levels_at
    levels_asks_law zero p = ap₂ (λ (a : Option Term) (l : List Ask). same a (Some (Any Principal)) ∷ l) (place_is p) (words_asks (byte_at s (p + 2)) (p + 3))
    levels_asks_law (suc m) p = ap₂ (λ (a : Option Term) (l : List Ask). same a (Some (Any Principal)) ∷ l) (place_is p) (levels_asks_law m (p + 3))

    pub fact_asks_law : (p : ℕ) → fact_asks ks sg s p ≡ map (ask_place cs) (places vs (fact_at vs s p))
    unfolding fact_asks fact_at
    fact_asks_law p = levels_asks_law (byte_at s p) (p + 1)

    pub facts_asks_law : (n p : ℕ) → facts_asks ks sg s n p ≡ map (ask_place cs) (each (facts_at vs n s p) (places vs))
    unfolding facts_asks facts_at
    facts_asks_law zero p = refl
    facts_asks_law (suc n) p =
        ap₂ ◌++◌ (fact_asks_law p) (facts_asks_law n (fact_next sg s p) ∙ ap (λ (q : ℕ). map (ask_place cs) (each (facts_at vs n s q) (places vs)))
        (next_is s p))
        ∙ sym (map-append (ask_place cs) (places vs (fact_at vs s p)) (each (facts_at vs n s (fact_end vs s p)) (places vs)))

    pub test_asks_law : (p : ℕ) → test_asks ks s p ≡ ask_test cs (constraint_at s p)
    unfolding test_asks ask_test
    test_asks_law p = ap₂ (λ (l r : Option Term). same l r ∷ operator_asks (byte_at s p) l) (term_is (p + 1)) (term_is (p + 3))

    pub tests_asks_law : (n p : ℕ) → tests_asks ks s n p ≡ each (constraints_at n s p) (ask_test cs)
    unfolding tests_asks constraints_at
    tests_asks_law zero p = refl
    tests_asks_law (suc n) p = ap₂ ◌++◌ (test_asks_law p) (tests_asks_law n (p + 5))

  -- ---- the places of a fact have kinds of the four

  param_kinds_law : (v k : ℕ) → Memᴰ k (param_kinds vs v) → (1 ≤ k) × (k ≤ 4)
  param_kinds_law v k m = go (dec_lt (length vs) v)
    where
      go : Dec (length vs < v) → (1 ≤ k) × (k ≤ 4)
      go (yes h) = absurd (Memᴰ.not-nil (let n : Memᴰ k [] = rw (past_kinds vs v h) at m in n))
      go (no h) = X.parameter_kinds v (omega arith) k m

  first_kind : (p : ℕ × Expr) (e : Expr) → p ≡ (principal, e) → (1 ≤ p.0) × (p.0 ≤ 4)
  first_kind p e q = rw q (omega arith, omega arith)

  pub places_regular : (f : Fact Expr) (p : ℕ × Expr) → Memᴰ p (places vs f) → (1 ≤ p.0) × (p.0 ≤ 4)
  places_regular (flat s v ps) p m = ⊎_elim (first_kind p s) (λ n. param_kinds_law v p.0 (pair_kinds (param_kinds vs v) ps p n)) (Memᴰ.cases_cons m)
  places_regular (can_say s d f) p m = ⊎_elim (first_kind p s) (places_regular f p) (Memᴰ.cases_cons m)
