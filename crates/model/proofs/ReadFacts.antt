-- What an accepted policy is sure to have: each assertion fits, is safe, and has the parameters that its verbs ask for.
use mathlib.Core.Path.{◌≡◌, refl, sym, ap, subst, ◌∙◌}
use mathlib.Core.Logic.{⊎_elim}
use mathlib.Core.List.Memᴰ
use mathlib.Core.List.{List, [], ◌∷◌, ◌++◌, Memᴰ, map-append}
use mathlib.Core.Bool.{Bool, true, false, not}
use Prim.Native.Nat.{ℕ, zero, suc, ◌+◌, ◌≤◌}
use native.Mathlib.Omega.{arith}
use lib.ListN.{length, get_or, length-map, length-append}
use lib.Dec.{T, eqb, ltb, eqb→eq, nltb→le}
use Rattle.model.specs.Limits.{principal, max_constants, max_verbs, max_assertions, header_bytes}
use Rattle.model.specs.Lists.{all}
use Rattle.model.specs.Syntax.{Expr, con, var, today, Fact, flat, can_say, subject, Assertion, Constant, Verb, Policy}
use Rattle.model.specs.Kinds.{Demands, kind_at, places, demands_of, in_place, comparable, meets, kinds_for, choices_of, fitting, fits_assertion}
use Rattle.model.specs.Kinds.{variables}
use Rattle.model.specs.Safety.{safe_assertion}
use Rattle.model.specs.Bytes.{byte_at, u16_at, choose, Reading, got, refused, and_then}
use Rattle.model.specs.Readings.{arity_of, exprs_at, levels_at, fact_at, assertion_read_at}
use Rattle.model.specs.Forms.{Form, ends, broken, no_verb, assertion_form}
use Rattle.model.specs.Policies.{Item, contents, length_right, headed, ended, items_from, list_at}
use Rattle.model.specs.Policies.{constant_item, verb_item, judged, assertion_by, assertion_item, Accepted}
use Rattle.model.specs.Policies.{policy_of, assertions_from, verbs_from, constants_from, computed_policy, read_policy}
use Rattle.model.proofs.PolicyReader.{policy_is}
use Rattle.model.specs.Records.{Arity}
use Rattle.model.proofs.ListFacts.{and_of, any_of_law}
use Rattle.model.proofs.BindingFacts.{picks_of}
use Rattle.model.proofs.Inside.{Placed}
use Rattle.model.proofs.ByteFacts.{below_length}
use Rattle.model.specs.Inputs.{ReadAs}

-- ---- what must have been read before

module _ {A : Type 0} where
  pub never : (n p e : ℕ) (x : A) → ◌≡◌ {A = Reading A} (refused n p) (got x e) → ⊥
  never n p e x h = let z : ◌≡◌ {A = ℕ} 0 1 = cc in omega arith

  -- a test that refuses where it fails, and one that refuses where it passes
  pub choose_yes : (b : Bool) (r : Reading A) (n p : ℕ) (x : A) (e : ℕ) → choose b r (refused n p) ≡ got x e → T b × (r ≡ got x e)
  unfolding choose
  choose_yes true r n p x e h = (tt, h)
  choose_yes false r n p x e h = absurd (never n p e x h)

  pub choose_no : (b : Bool) (r : Reading A) (n p : ℕ) (x : A) (e : ℕ) → choose b (refused n p) r ≡ got x e → T (not b) × (r ≡ got x e)
  unfolding choose
  choose_no true r n p x e h = absurd (never n p e x h)
  choose_no false r n p x e h = (tt, h)

pub and_then_got : {A B : Type 0} (r : Reading A) (f : A → ℕ → Reading B) (y : B) (e : ℕ) → and_then r f ≡ got y e → (x : A) × (p : ℕ) × (r ≡ got x p)
    × (f x p ≡ got y e)
unfolding and_then
and_then_got (got x p) f y e h = (x, p, refl, h)
and_then_got (refused n p) f y e h = absurd (never n p e y h)

-- ---- what each item of a list has

module _ {A : Type 0} (f : List A → ℕ → Reading A) (Q : A → Type 0) (sound : (before : List A) (p : ℕ) (x : A) (e : ℕ) → f before p ≡ got x e → Q x) where
  abbrev Each : List (Item A) → Type 0
  Each is = (x : A) → Memᴰ x (contents is) → Q x

  snoc : (is : List (Item A)) (i : Item A) → Each is → Q i.of → Each (is ++ i ∷ [])
  snoc is i h q x m =
      ⊎_elim (h x) (λ k. subst Q (sym (Memᴰ.eq_of_singleton k)) q)
      (Memᴰ.append_cases (contents is) (subst (λ (l : List A). Memᴰ x l) (map-append (λ (i : Item A). i.of) is (i ∷ [])) m))

  items_each : (n : ℕ) (is : List (Item A)) (p : ℕ) (js : List (Item A)) (e : ℕ) → Each is → items_from f n is p ≡ got js e → Each js
  unfolding items_from
  items_each zero is p js e h r = subst Each (let q : is ≡ js = cc in q) h
  items_each (suc n) is p js e h r =
      let g = and_then_got (f (contents is) p) (λ x e. items_from f n (is ++ record { at = p; of = x } ∷ []) e) js e r in
      items_each n (is ++ record { at = p; of = g.0 } ∷ []) g.1 js e
      (snoc is (record { at = p; of = g.0 }) h (sound (contents is) p g.0 g.1 g.2)) g.3

  pub list_each : (s : List ℕ) (lowest highest p : ℕ) (js : List (Item A)) (e : ℕ) → list_at s lowest highest f p ≡ got js e → Each js
  unfolding list_at
  list_each s lowest highest p js e r =
      let a = choose_no _ _ 3 p js e r in
      let b = choose_no _ _ 3 p js e a.1 in
      let c = choose_no _ _ 3 p js e b.1 in
      items_each _ [] _ js e (λ x m. absurd (Memᴰ.not-nil m)) c.1

-- how many items a list has: as many as its count says, which is in its range
module _ {A : Type 0} (f : List A → ℕ → Reading A) where
  items_count : (n : ℕ) (is : List (Item A)) (p : ℕ) (js : List (Item A)) (e : ℕ) → items_from f n is p ≡ got js e → length js ≡ length is + n
  unfolding items_from
  items_count zero is p js e r = let q : length js ≡ length is = ap length (let q : js ≡ is = cc in q) in omega arith
  items_count (suc n) is p js e r =
      let g = and_then_got (f (contents is) p) (λ x e. items_from f n (is ++ record { at = p; of = x } ∷ []) e) js e r in
      let i = items_count n (is ++ record { at = p; of = g.0 } ∷ []) g.1 js e g.3 in
      let j = length-append is (record { at = p; of = g.0 } ∷ []) in
      omega arith

  pub list_count : (s : List ℕ) (lowest highest p : ℕ) (js : List (Item A)) (e : ℕ) → list_at s lowest highest f p ≡ got js e → length js ≤ highest
  unfolding list_at
  list_count s lowest highest p js e r =
      let a = choose_no _ _ 3 p js e r in
      let b = choose_no _ _ 3 p js e a.1 in
      let c = choose_no (ltb highest (u16_at s p)) _ 3 p js e b.1 in
      let n = items_count _ [] _ js e c.1 in
      let h = nltb→le highest (u16_at s p) c.0 in
      omega arith

-- ---- assertions

pub record Fine (cs : List Constant) (vs : List Verb) (a : Assertion) : Type 0 where
  pub fit : T (fits_assertion cs vs a)
  pub safe : T (safe_assertion a)
  pub arity : Arity vs a.head

-- whatever stands at an offset, it is read with the number of parameters that its verb asks for
pub exprs_length : (n : ℕ) (s : List ℕ) (p : ℕ) → length (exprs_at n s p) ≡ n
unfolding exprs_at
exprs_length zero s p = refl
exprs_length (suc n) s p = ap suc (exprs_length n s (p + 2))

pub levels_arity : (vs : List Verb) (m : ℕ) (s : List ℕ) (p : ℕ) → Arity vs (levels_at vs m s p)
unfolding levels_at arity_of
levels_arity vs zero s p = exprs_length _ s (p + 3)
levels_arity vs (suc m) s p = levels_arity vs m s (p + 3)

head_arity : (vs : List Verb) (s : List ℕ) (at : ℕ) → Arity vs (assertion_read_at vs s at).head
unfolding assertion_read_at fact_at
head_arity vs s at = levels_arity vs _ s _

item_fine : (cs : List Constant) (vs : List Verb) (s : List ℕ) (before : List Assertion) (at : ℕ) (a : Assertion) (e : ℕ)
    → assertion_item cs vs s before at ≡ got a e → Fine cs vs a
unfolding assertion_item assertion_by judged
item_fine cs vs s before at a e r = go (assertion_form vs s at) r
  where
    go : (φ : Form) → assertion_by φ cs vs (assertion_read_at vs s at) at ≡ got a e → Fine cs vs a
    go (ends q) h =
        let b = choose_yes _ _ 5 at a e h in
        let c = choose_yes _ _ 6 at a e b.1 in
        subst (Fine cs vs) (let k : assertion_read_at vs s at ≡ a = let w = c.1 in cc in k) (record { fit = b.0; safe = c.0; arity = head_arity vs s at })
    go broken h = absurd (never 3 at e a h)
    go no_verb h = absurd (never 5 at e a h)

module _ {A : Type 0} where
  pub headed_got : (latest : ℕ) (s : List ℕ) (r : Reading A) (x : A) (e : ℕ) → headed latest s r ≡ got x e → r ≡ got x e
  unfolding headed
  headed_got latest s r x e h = (choose_yes _ _ 2 1 x e (choose_yes _ _ 1 0 x e h).1).1

  pub ended_got : (s : List ℕ) (x y : A) (p e : ℕ) → ended s x p ≡ got y e → x ≡ y
  unfolding ended
  ended_got s x y p e h = let w = (choose_yes _ _ 3 p y e h).1 in cc

-- ---- an accepted policy

-- its lists are read one after the other, behind version and length
pub record ReadLists (s : List ℕ) (A : Accepted) : Type 0 where
  pub verbs_at : ℕ
  pub assertions_at : ℕ
  pub end : ℕ
  pub version : byte_at s 0 ≡ A.version
  pub header : T (length_right s)
  pub constants : list_at s 1 max_constants (constant_item s) header_bytes ≡ got A.constants verbs_at
  pub verbs : list_at s 0 max_verbs (verb_item s) verbs_at ≡ got A.verbs assertions_at
  pub assertions : list_at s 0 max_assertions (assertion_item (contents A.constants) (contents A.verbs) s) assertions_at ≡ got A.assertions end

pub accepted_lists : (s : List ℕ) (A : Accepted) (e : ℕ) → read_policy s ≡ got A e → ReadLists s A
unfolding computed_policy headed constants_from verbs_from assertions_from
accepted_lists s A e r =
    let h = choose_yes (length_right s) _ 2 1 A e (choose_yes _ _ 1 0 A e (sym (policy_is s) ∙ r)).1 in
    let c = and_then_got _ _ A e h.1 in
    let v = and_then_got _ _ A e c.3 in
    let a = and_then_got _ _ A e v.3 in
    subst (ReadLists s) (ended_got s _ A a.1 e a.3) (record {
      verbs_at = c.1;
      assertions_at = v.1;
      end = a.1;
      version = refl;
      header = h.0;
      constants = c.2;
      verbs = v.2;
      assertions = a.2;
    })

-- each assertion fits, is safe, and its head has its parameters
pub accepted_fine : (s : List ℕ) (A : Accepted) (e : ℕ) → read_policy s ≡ got A e
    → (a : Assertion) → Memᴰ a (policy_of A).assertions → Fine (policy_of A).constants (policy_of A).verbs a
accepted_fine s A e r =
    let L = accepted_lists s A e r in
    list_each (assertion_item (contents A.constants) (contents A.verbs) s) (Fine (contents A.constants) (contents A.verbs))
    (item_fine (contents A.constants) (contents A.verbs) s) s 0 _ L.assertions_at A.assertions L.end L.assertions

pub policy_fine : (policy : List ℕ) (P : Policy) → ReadAs policy P → (a : Assertion) → Memᴰ a P.assertions → Fine P.constants P.verbs a
policy_fine policy P h = subst (λ (P : Policy). (a : Assertion) → Memᴰ a P.assertions → Fine P.constants P.verbs a) h.3
    (accepted_fine policy h.0 h.1 h.2)

-- "Constants (1 to 255 ..)"
pub accepted_count : (s : List ℕ) (A : Accepted) (e : ℕ) → read_policy s ≡ got A e → length (policy_of A).constants ≤ 255
accepted_count s A e r =
    let L = accepted_lists s A e r in
    let n = list_count (constant_item s) s 1 max_constants header_bytes A.constants L.verbs_at L.constants in
    let m = length-map A.constants (λ (i : Item Constant). i.of) in
    omega arith

-- ---- what a fitting head has: its subject is a constant or a variable of the eight

choice_length : (D : Demands) (κ : List ℕ) → Memᴰ κ (choices_of D) → length κ ≡ 8
choice_length D κ m = (picks_of (kinds_for D) 0 variables κ m).0

placed : (cs : List Constant) (κ : List ℕ) (e : Expr) → length κ ≡ 8 → T (in_place cs κ (principal, e)) → Placed e
placed cs κ (con c) l t = tt
placed cs κ (var v) l t = let z : get_or κ v 0 ≡ 1 = eqb→eq (get_or κ v 0) 1 t in below_length κ 8 l v (λ w. omega arith)
placed cs κ today l t = absurd t

subject_first : (cs : List Constant) (vs : List Verb) (κ : List ℕ) (f : Fact Expr) (ps : List (ℕ × Expr)) → T (all (in_place cs κ) (places vs f ++ ps))
    → T (in_place cs κ (principal, subject f))
subject_first cs vs κ (flat s v es) ps t = (and_of (in_place cs κ (principal, s)) _ t).0
subject_first cs vs κ (can_say s d f) ps t = (and_of (in_place cs κ (principal, s)) _ t).0

pub subject_placed : (cs : List Constant) (vs : List Verb) (a : Assertion) → T (fits_assertion cs vs a) → Placed (subject a.head)
subject_placed cs vs a t =
    let D = demands_of vs a in
    let r = any_of_law (meets cs D) (choices_of D) (and_of (eqb (kind_at cs a.issuer) principal) (fitting cs D) t).1 in
    let κ = r.0 in
    let m = and_of (all (in_place cs κ) D.places) (all (comparable cs κ) D.tests) r.2 in
    placed cs κ (subject a.head) (choice_length D κ r.1) (subject_first cs vs κ a.head _ m.0)
