-- Choices of kinds: the computed test finds one exactly if there is one, and a variable has the kind of its first place.
use mathlib.Core.Path.{◌≡◌, refl, sym, ap, subst, ◌∙◌}
use mathlib.Core.Logic.{◌↔◌}
use mathlib.Core.List.Memᴰ
use mathlib.Core.List.{List, [], ◌∷◌, map, Memᴰ}
use mathlib.Core.Bool.{Bool, true, false, cond}
use Prim.Native.Nat.{ℕ, zero, suc, ◌<◌, ◌≤◌}
use native.Mathlib.Decide.{dec_lt}
use native.Mathlib.Omega.{arith}
use lib.ListN.{length, get_or, get_or-eq_default}
use lib.Dec.{T, eqb, eqb→eq}
use Rattle.model.specs.Limits.{principal}
use Rattle.model.specs.Lists.{all, each, member}
use Rattle.model.specs.Syntax.{Expr, con, var, today, Constraint, Constant, Verb, vars_of, vars_test}
use Rattle.model.specs.Kinds.{Demands, param_kinds, no_constant, kind_at, kind_under, in_place, comparable, meets, occurring, kinds, kinds_for, choices_of}
use Rattle.model.specs.Kinds.{fitting, variables, kind_of, is_var}
use Rattle.model.proofs.ListFacts.{and_of, and_in, all_of_law, all_in, any_of_law, any_in, each_in, member_in}
use Rattle.model.proofs.BindingFacts.{picks_of, picks_in, at_variable}

-- a constant of some kind is there
pub kind_there : (cs : List Constant) (c k : ℕ) → kind_at cs c ≡ k → 1 ≤ k → c < length cs
kind_there cs c k e l = go (dec_lt c (length cs))
  where
    go : Dec (c < length cs) → c < length cs
    go (yes h) = h
    go (no h) = absurd (let z : kind_at cs c ≡ 0 = ap (λ (x : Constant). x.kind)
        (get_or-eq_default cs no_constant (let q : length cs ≤ c = omega arith in q)) in omega arith)

-- what holds of each verb's kinds, of those of verb 0 and of none holds at every number
pub kinds_each : (P : List ℕ → Type 0) → P (principal ∷ []) → P [] → (vs : List Verb) → ((v : Verb) → Memᴰ v vs → P v.kinds)
    → (v : ℕ) → P (param_kinds vs v)
kinds_each P one none vs h zero = one
kinds_each P one none vs h (suc v) = go vs h v
  where
    go : (vs : List Verb) → ((v : Verb) → Memᴰ v vs → P v.kinds) → (v : ℕ) → P (get_or (map (λ (x : Verb). x.kinds) vs) v [])
    go [] h v = none
    go (x ∷ vs) h zero = h x (Memᴰ.head refl)
    go (x ∷ vs) h (suc v) = go vs (λ y m. h y (Memᴰ.tail m)) v

-- ---- there is a choice

one_of_all : (b : Bool) (k : ℕ) → Memᴰ k (cond b kinds (principal ∷ [])) → Memᴰ k kinds
one_of_all true k m = m
one_of_all false k m = Memᴰ.head (Memᴰ.eq_of_singleton m)

all_of_one : (b : Bool) (k : ℕ) → Memᴰ k kinds → Memᴰ (cond b k principal) (cond b kinds (principal ∷ []))
all_of_one true k m = m
all_of_one false k m = Memᴰ.head refl

-- a kind for each variable
abbrev Choice : List ℕ → Type 0
Choice κ = (length κ ≡ length variables) × ((v : ℕ) → v < length variables → Memᴰ (get_or κ v 0) kinds)

same_at : (b : Bool) (x y : ℕ) → T b → cond b x y ≡ x
same_at true x y t = refl
same_at false x y t = absurd t

module _ (cs : List Constant) (D : Demands) where
  number : (v : ℕ) → v < 8 → get_or variables v 0 ≡ v
  number v h = at_variable (λ (w : ℕ). w) v h

  choice_of : (κ : List ℕ) → Memᴰ κ (choices_of D) → Choice κ
  choice_of κ m =
      let p = picks_of (kinds_for D) 0 variables κ m in
      (p.0, λ v h. one_of_all (member (get_or variables v 0) (occurring D)) (get_or κ v 0) (p.1 v h))

  -- the same choice, with principal for what does not occur
  abbrev trimmed : List ℕ → List ℕ
  trimmed κ = map (λ (v : ℕ). cond (member v (occurring D)) (get_or κ v 0) principal) variables

  trimmed_in : (κ : List ℕ) → Choice κ → Memᴰ (trimmed κ) (choices_of D)
  trimmed_in κ h = picks_in (kinds_for D) 0 variables (trimmed κ) (
    refl,
    λ v l.
        rw (at_variable (λ (v : ℕ). cond (member v (occurring D)) (get_or κ v 0) principal) v l, number v l)
        (all_of_one (member v (occurring D)) (get_or κ v 0) (h.1 v l)),
  )

  -- what occurs keeps its kind
  trimmed_at : (κ : List ℕ) → Choice κ → (v : ℕ) → Memᴰ v (occurring D) → get_or (trimmed κ) v 0 ≡ get_or κ v 0
  trimmed_at κ h v m = go (dec_lt v 8)
    where
      go : Dec (v < 8) → get_or (trimmed κ) v 0 ≡ get_or κ v 0
      go (yes l) =
          at_variable (λ (v : ℕ). cond (member v (occurring D)) (get_or κ v 0) principal) v l
          ∙ same_at (member v (occurring D)) (get_or κ v 0) principal (member_in m)
      go (no l) = let e : 8 ≤ v = omega arith in get_or-eq_default (trimmed κ) 0 e ∙ sym (get_or-eq_default κ 0 (rw h.0 e))

  under_same : (κ : List ℕ) → Choice κ → (e : Expr) → ((v : ℕ) → Memᴰ v (vars_of e) → Memᴰ v (occurring D))
      → kind_under cs (trimmed κ) e ≡ kind_under cs κ e
  under_same κ h (con c) o = refl
  under_same κ h (var v) o = trimmed_at κ h v (o v (Memᴰ.head refl))
  under_same κ h today o = refl

  place_in : (κ : List ℕ) → Choice κ → (k : ℕ) (e : Expr) → ((v : ℕ) → Memᴰ v (vars_of e) → Memᴰ v (occurring D)) → T (in_place cs κ (k, e))
      → T (in_place cs (trimmed κ) (k, e))
  place_in κ h k (con c) o t = t
  place_in κ h k (var v) o t = subst (λ (n : ℕ). T (eqb n k)) (sym (trimmed_at κ h v (o v (Memᴰ.head refl)))) t
  place_in κ h k today o t = t

  test_in_law : (κ : List ℕ) → Choice κ → (c : Constraint) → ((v : ℕ) → Memᴰ v (vars_test c) → Memᴰ v (occurring D)) → T (comparable cs κ c)
      → T (comparable cs (trimmed κ) c)
  test_in_law κ h c o t =
      let l = under_same κ h c.left (λ v m. o v (Memᴰ.append_left _ m)) in
      let r = under_same κ h c.right (λ v m. o v (Memᴰ.append_right (vars_of c.left) m)) in
      rw (l, r) t

  trimmed_meets : (κ : List ℕ) → Choice κ → T (meets cs D κ) → T (meets cs D (trimmed κ))
  trimmed_meets κ h t =
      let m = and_of (all (in_place cs κ) D.places) (all (comparable cs κ) D.tests) t in
      and_in (all (in_place cs (trimmed κ)) D.places) (all (comparable cs (trimmed κ)) D.tests) (placed m.0) (tested m.1)
    where
      vars_at : ℕ × Expr → List ℕ
      vars_at p = vars_of p.1

      placed : T (all (in_place cs κ) D.places) → T (all (in_place cs (trimmed κ)) D.places)
      placed t = all_in (in_place cs (trimmed κ)) D.places
          (λ p k. place_in κ h p.0 p.1 (λ v n. Memᴰ.append_left _ (each_in vars_at k n)) (all_of_law (in_place cs κ) t k))

      tested : T (all (comparable cs κ) D.tests) → T (all (comparable cs (trimmed κ)) D.tests)
      tested t = all_in (comparable cs (trimmed κ)) D.tests
          (λ c k. test_in_law κ h c (λ v n. Memᴰ.append_right (each D.places vars_at) (each_in vars_test k n)) (all_of_law (comparable cs κ) t k))

  pub fitting↔ : T (fitting cs D)
      ↔ ((κ : List ℕ) × (length κ ≡ length variables) × ((v : ℕ) → v < length variables → Memᴰ (get_or κ v 0) kinds) × T (meets cs D κ))
  fitting↔ = (
    λ t. let r = any_of_law (meets cs D) (choices_of D) t in let h = choice_of r.0 r.1 in (r.0, h.0, h.1, r.2),
    λ h. any_in (meets cs D) (trimmed_in h.0 (h.1, h.2)) (trimmed_meets h.0 (h.1, h.2) h.3),
  )

-- ---- a variable's kind

pub is_var_of : (v : ℕ) (e : Expr) → T (is_var v e) → e ≡ var v
is_var_of v (con c) t = absurd t
is_var_of v (var w) t = ap var (sym (eqb→eq v w t))
is_var_of v today t = absurd t

pub one_kind_law : (cs : List Constant) (κ : List ℕ) (ps : List (ℕ × Expr)) → T (all (in_place cs κ) ps) → (v : ℕ) → (¬ (kind_of ps v ≡ 0))
    → get_or κ v 0 ≡ kind_of ps v
one_kind_law cs κ [] t v h = absurd (h refl)
one_kind_law cs κ (p ∷ ps) t v h = go (is_var v p.1) refl (one_kind_law cs κ ps k.1 v) h
  where
    k : T (in_place cs κ p) × T (all (in_place cs κ) ps)
    k = and_of (in_place cs κ p) (all (in_place cs κ) ps) t

    here : (e : Expr) → e ≡ var v → T (in_place cs κ (p.0, e)) → get_or κ v 0 ≡ p.0
    here e q u = eqb→eq (get_or κ v 0) p.0 (subst (λ (e : Expr). T (in_place cs κ (p.0, e))) q u)

    go : (b : Bool) → is_var v p.1 ≡ b → ((¬ (kind_of ps v ≡ 0)) → get_or κ v 0 ≡ kind_of ps v) → (¬ (cond b p.0 (kind_of ps v) ≡ 0))
        → get_or κ v 0 ≡ cond b p.0 (kind_of ps v)
    go true e ih h = here p.1 (is_var_of v p.1 (subst T (sym e) tt)) k.0
    go false e ih h = ih h
