-- The computed bindings are those that give each variable a constant of its kind, under some choice of kinds that fits; of an assertion.
use mathlib.Core.Path.{◌≡◌, refl, sym, ap, subst, ◌∙◌}
use mathlib.Core.Logic.{◌↔◌}
use mathlib.Core.List.Memᴰ
use mathlib.Core.List.{List, [], ◌∷◌, ◌++◌, map, Memᴰ}
use mathlib.Core.Bool.{Bool, true, false, cond, ◌||◌, not}
use Prim.Native.Nat.{ℕ, zero, suc, ◌+◌, ◌<◌, ◌≤◌}
use native.Mathlib.Decide.{dec_lt}
use native.Mathlib.Omega.{arith}
use lib.ListN.{length, get_or, get_or-eq_default}
use lib.Dec.{T, eqb, leb, leb→le}
use Rattle.model.specs.Limits.{unbound, quantity, principal}
use Rattle.model.specs.Lists.{all, each, member}
use Rattle.model.specs.Syntax.{Expr, con, var, today, Fact, flat, can_say, Constant, Verb, Policy, Assertion, vars_of}
use Rattle.model.specs.Kinds.{no_constant, kind_at, Demands, demands_of, places, pair, param_kinds, in_place, comparable, meets, fitting, kind_of}
use Rattle.model.specs.Kinds.{variables}
use Rattle.model.specs.Values.{choices, of_kind, bindings, bindings_of}
use Rattle.model.specs.Forms.{is_kind}
use Rattle.theorems.specs.Binding.{Fits, Binds, in_places}
use Rattle.model.proofs.ListFacts.{and_of, and_in}
use Rattle.model.specs.Inputs.{ReadAs}
use Rattle.model.proofs.ReadFacts.{Fine, policy_fine}
use Rattle.theorems.proofs.ProperRequests.{policy_kinded}
use Rattle.model.proofs.KindFacts.{fitting↔, one_kind_law}
use Rattle.model.proofs.BindingFacts.{of_kind_of, of_kind_in, bindings_of_law, bindings_in_law, at_variable}

-- ---- one variable

module _ (cs : List Constant) where
  cell_of_law : (b : Bool) (k c κ : ℕ) → (T b → ¬ (k ≡ 0)) → (T b → κ ≡ k) → Memᴰ c (choices cs (cond b k 0)) → (T b → kind_at cs c ≡ κ)
      × (T (not b) → c ≡ unbound)
  cell_of_law true zero c κ n e m = absurd (n tt refl)
  cell_of_law true (suc k) c κ n e m =
      let r = of_kind_of (suc k) 0 c cs m in
      let i : c ≡ r.0 = let z = r.1 in omega arith in
      (λ t. ap (λ (j : ℕ). kind_at cs j) i ∙ sym r.3 ∙ sym (e tt), λ t. absurd t)
  cell_of_law false k c κ n e m = (λ t. absurd t, λ t. Memᴰ.eq_of_singleton m)

  cell_in_law : (b : Bool) (k c κ : ℕ) → (T b → ¬ (k ≡ 0)) → (T b → κ ≡ k) → (T b → kind_at cs c ≡ κ) → (T (not b) → c ≡ unbound)
      → Memᴰ c (choices cs (cond b k 0))
  cell_in_law true zero c κ n e f g = absurd (n tt refl)
  cell_in_law true (suc k) c κ n e f g = go (dec_lt c (length cs))
    where
      h : kind_at cs c ≡ suc k
      h = f tt ∙ e tt

      go : Dec (c < length cs) → Memᴰ c (of_kind (suc k) 0 cs)
      go (yes l) = subst (λ (j : ℕ). Memᴰ j (of_kind (suc k) 0 cs)) (let z : 0 + c ≡ c = omega arith in z) (of_kind_in (suc k) 0 c cs l (sym h))
      go (no l) = absurd (
          let w : get_or cs c no_constant ≡ no_constant = get_or-eq_default cs no_constant (omega arith) in
          let z : 0 ≡ suc k = sym (ap (λ (x : Constant). x.kind) w) ∙ h in
          omega arith
          )
  cell_in_law false k c κ n e f g = subst (λ (j : ℕ). Memᴰ j (unbound ∷ [])) (sym (g tt)) (Memᴰ.head refl)

  -- ---- all eight; S: variables that have a place

  module _ (D : Demands) (S : List ℕ) (has : (v : ℕ) → T (member v S) → ¬ (kind_of D.places v ≡ 0)) where
    abbrev kind_s : ℕ → ℕ
    kind_s v = cond (member v S) (kind_of D.places v) 0

    settled : (κ : List ℕ) → T (meets cs D κ) → (v : ℕ) → T (member v S) → get_or κ v 0 ≡ kind_of D.places v
    settled κ m v t = one_kind_law cs κ D.places (and_of (all (in_place cs κ) D.places) (all (comparable cs κ) D.tests) m).0 v (has v t)

    pub binds_of : T (fitting cs D) → (θ : List ℕ) → Memᴰ θ (bindings cs (map kind_s variables)) → (κ : List ℕ) × Fits cs D κ × Binds cs κ S θ
    binds_of f θ m =
        let w = (fitting↔ cs D).0 f in
        let b = bindings_of_law cs (map kind_s variables) θ m in (
          w.0,
          (w.1, w.2, w.3),
          (
            b.0,
            λ v l. cell_of_law (member v S) (kind_of D.places v) (get_or θ v unbound) (get_or w.0 v 0) (has v) (settled w.0 w.3 v)
                (subst (λ (k : ℕ). Memᴰ (get_or θ v unbound) (choices cs k)) (at_variable kind_s v l) (b.1 v l)),
          ),
        )

    pub binds_in : (θ κ : List ℕ) → Fits cs D κ → Binds cs κ S θ → Memᴰ θ (bindings cs (map kind_s variables))
    binds_in θ κ f b = bindings_in_law cs (map kind_s variables) θ (
      b.0,
      λ v l.
          subst (λ (k : ℕ). Memᴰ (get_or θ v unbound) (choices cs k)) (sym (at_variable kind_s v l))
          (cell_in_law (member v S) (kind_of D.places v) (get_or θ v unbound) (get_or κ v 0) (has v) (settled κ f.2 v) (b.1 v l).0 (b.1 v l).1),
    )

-- ---- which variables have a place, and so a kind

abbrev pub vars_at : List (ℕ × Expr) → List ℕ
vars_at ps = each ps (λ (p : ℕ × Expr). vars_of p.1)

abbrev pub kinded_at : ℕ × Expr → Bool
kinded_at p = is_kind p.0

no_place : (ps : List (ℕ × Expr)) (v : ℕ) → T (not (member v (vars_at ps))) → kind_of ps v ≡ 0
no_place [] v t = refl
no_place ((k, con c) ∷ ps) v t = no_place ps v t
no_place ((k, today) ∷ ps) v t = no_place ps v t
no_place ((k, var w) ∷ ps) v t = go (eqb v w) (member v (vars_at ps)) t (no_place ps v)
  where
    go : (b c : Bool) → T (not (b || c)) → (T (not c) → kind_of ps v ≡ 0) → cond b k (kind_of ps v) ≡ 0
    go true c t r = absurd t
    go false c t r = r t

pub a_place : (ps : List (ℕ × Expr)) → T (all kinded_at ps) → (v : ℕ) → T (member v (vars_at ps)) → ¬ (kind_of ps v ≡ 0)
a_place [] a v t = absurd t
a_place ((k, con c) ∷ ps) a v t = a_place ps (and_of (is_kind k) (all kinded_at ps) a).1 v t
a_place ((k, today) ∷ ps) a v t = a_place ps (and_of (is_kind k) (all kinded_at ps) a).1 v t
a_place ((k, var w) ∷ ps) a v t = go (eqb v w) (member v (vars_at ps)) t (a_place ps (and_of (is_kind k) (all kinded_at ps) a).1 v)
  where
    go : (b c : Bool) → T (b || c) → (T c → ¬ (kind_of ps v ≡ 0)) → ¬ (cond b k (kind_of ps v) ≡ 0)
    go true c t r = λ z. let o : 1 ≤ k = leb→le 1 k (and_of (leb 1 k) (leb k quantity) (and_of (is_kind k) (all kinded_at ps) a).0).0 in omega arith
    go false c t r = r t

map_same : (f g : ℕ → ℕ) → ((v : ℕ) → f v ≡ g v) → (l : List ℕ) → map f l ≡ map g l
map_same f g h [] = refl
map_same f g h (v ∷ l) = rw (h v, map_same f g h l)

placed_kind : (ps : List (ℕ × Expr)) (v : ℕ) → cond (member v (vars_at ps)) (kind_of ps v) 0 ≡ kind_of ps v
placed_kind ps v = go (member v (vars_at ps)) (no_place ps v)
  where
    go : (b : Bool) → (T (not b) → kind_of ps v ≡ 0) → cond b (kind_of ps v) 0 ≡ kind_of ps v
    go true r = refl
    go false r = sym (r tt)

pub all_join : {A : Type 0} (p : A → Bool) (xs ys : List A) → T (all p xs) → T (all p ys) → T (all p (xs ++ ys))
all_join p [] ys a b = b
all_join p (x ∷ xs) ys a b = let c = and_of (p x) (all p xs) a in and_in (p x) (all p (xs ++ ys)) c.0 (all_join p xs ys c.1 b)

module _ (vs : List Verb) (kinded : (v : ℕ) → T (all is_kind (param_kinds vs v))) where
  pair_kinded : (ks : List ℕ) (es : List Expr) → T (all is_kind ks) → T (all kinded_at (pair ks es))
  pair_kinded [] es t = tt
  pair_kinded (k ∷ ks) [] t = tt
  pair_kinded (k ∷ ks) (e ∷ es) t = let a = and_of (is_kind k) (all is_kind ks) t in
      and_in (is_kind k) (all kinded_at (pair ks es)) a.0 (pair_kinded ks es a.1)

  pub places_kinded : (f : Fact Expr) → T (all kinded_at (places vs f))
  places_kinded (flat s v ps) = pair_kinded (param_kinds vs v) ps (kinded v)
  places_kinded (can_say s d f) = places_kinded f

  pub facts_kinded : (fs : List (Fact Expr)) → T (all kinded_at (each fs (places vs)))
  facts_kinded [] = tt
  facts_kinded (f ∷ fs) = all_join kinded_at (places vs f) (each fs (places vs)) (places_kinded f) (facts_kinded fs)

-- "variables range over the policy's constants of their kind", of an assertion of an accepted policy
pub instances : (policy : List ℕ) (P : Policy) → ReadAs policy P → (t : ℕ) (a : Assertion) → Memᴰ a P.assertions → (θ : List ℕ)
    → Memᴰ θ (bindings_of (record { version = P.version; constants = P.constants; verbs = P.verbs; today = t; hierarchy = [] }) a)
    ↔ ((κ : List ℕ) × Fits P.constants (demands_of P.verbs a) κ × Binds P.constants κ (in_places (demands_of P.verbs a)) θ)
instances policy P h t a m θ = (
  λ b. binds_of cs D S has fit θ (subst (λ (ks : List ℕ). Memᴰ θ (bindings cs ks)) (sym same) b),
  λ b. subst (λ (ks : List ℕ). Memᴰ θ (bindings cs ks)) same (binds_in cs D S has θ b.0 b.1 b.2),
)
  where
    cs : List Constant
    cs = P.constants

    D : Demands
    D = demands_of P.verbs a

    S : List ℕ
    S = in_places D

    has : (v : ℕ) → T (member v S) → ¬ (kind_of D.places v ≡ 0)
    has v u = a_place D.places (facts_kinded P.verbs (policy_kinded policy P h) (a.head ∷ a.body)) v u

    fine : Fine P.constants P.verbs a
    fine = policy_fine policy P h a m

    fit : T (fitting cs D)
    fit = (and_of (eqb (kind_at cs a.issuer) principal) (fitting cs D) fine.fit).1

    same : map (λ v. cond (member v S) (kind_of D.places v) 0) variables ≡ map (kind_of D.places) variables
    same = map_same (λ v. cond (member v S) (kind_of D.places v) 0) (kind_of D.places) (placed_kind D.places) variables
