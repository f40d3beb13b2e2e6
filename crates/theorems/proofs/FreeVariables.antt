-- The same of a request that is read: each of its free variables has a place in a fact, so its answer is a constant of its kind.
use mathlib.Core.Path.{◌≡◌, refl, sym, ap, subst, ◌∙◌}
use mathlib.Core.Logic.{◌↔◌, ◌⊎◌, inl, inr, ⊎_elim}
use mathlib.Core.Option.{Option, some}
use mathlib.Core.List.{List, [], ◌∷◌, ◌++◌, Memᴰ, append_assoc}
use mathlib.Core.Bool.{Bool, true, false, ◌&&◌, ◌||◌, not}
use Prim.Native.Nat.{ℕ}
use native.Mathlib.Omega.{arith}
use lib.ListN.{get_or, length}
use lib.Dec.{T, eqb}
use Rattle.model.specs.Lists.{all, each, member, among, without, keep, apart}
use Rattle.model.specs.Syntax.{Expr, Fact, flat, can_say, Constant, Verb, Policy, Request, world_of, Node, Nodes, says, test, all_of, any_of, non}
use Rattle.model.specs.Syntax.{exists, end, more, vars_of, vars_in, vars_test}
use Rattle.model.specs.Records.{Arity}
use Rattle.model.specs.Requests.{free, bindings_in}
use Rattle.model.specs.Safety.{provided, onward, known, known_all, known_any, binders, is_safe, safe_request}
use Rattle.model.proofs.SafetyRules.{provided_of, onward_of, is_safe_of}
use Rattle.model.proofs.CheckedNodes.{Some, Sound, SoundAll, node_checked}
use Rattle.model.specs.Limits.{unbound, version}
use Rattle.model.specs.Kinds.{kinds, kind_at, in_place, comparable}
use Rattle.model.specs.Kinds.{Demands, no_demands, demands_in, demands_all, places, pair, param_kinds, fitting, kind_of}
use Rattle.model.specs.Forms.{is_kind}
use Rattle.theorems.specs.Binding.{Fits, Binds}
use Rattle.model.proofs.ListFacts.{and_of, all_of_law, or_right, keep_of, member_of, member_in}
use Rattle.model.specs.Inputs.{ReadAs, AskedAs}
use Rattle.model.proofs.ReadFacts.{choose_yes, choose_no, and_then_got, headed_got, ended_got}
use Rattle.model.specs.Bytes.{got}
use Rattle.model.specs.Nodes.{safely, request_from, computed_request, read_request}
use Rattle.model.proofs.RequestReader.{request_is}
use Rattle.theorems.proofs.ProperRequests.{policy_kinded, node_fits}
use Rattle.model.proofs.KindFacts.{one_kind_law}
use Rattle.model.proofs.ByteFacts.{below_length}
use Rattle.theorems.proofs.BoundVariables.{vars_at, kinded_at, a_place, all_join, places_kinded, binds_of, binds_in}

-- ---- requests: what is known after a node was known before it or has a place in it

member_append : (v : ℕ) (xs ys : List ℕ) → T (member v (xs ++ ys)) → T (member v xs) ⊎ T (member v ys)
member_append v [] ys t = inr t
member_append v (x ∷ xs) ys t = go (eqb v x) t (member_append v xs ys)
  where
    go : (b : Bool) → T (b || member v (xs ++ ys)) → (T (member v (xs ++ ys)) → T (member v xs) ⊎ T (member v ys)) → T (b || member v xs) ⊎ T (member v ys)
    go true t r = inl tt
    go false t r = r t

member_left : (v : ℕ) (xs ys : List ℕ) → T (member v xs) → T (member v (xs ++ ys))
member_left v [] ys t = absurd t
member_left v (x ∷ xs) ys t = go (eqb v x) t (member_left v xs ys)
  where
    go : (b : Bool) → T (b || member v xs) → (T (member v xs) → T (member v (xs ++ ys))) → T (b || member v (xs ++ ys))
    go true t r = tt
    go false t r = r t

member_right : (v : ℕ) (xs ys : List ℕ) → T (member v ys) → T (member v (xs ++ ys))
member_right v [] ys t = t
member_right v (x ∷ xs) ys t = or_right (eqb v x) (member v (xs ++ ys)) (member_right v xs ys t)

member_keep : (v : ℕ) (p : ℕ → Bool) (xs : List ℕ) → T (member v (keep p xs)) → T (member v xs)
member_keep v p xs t = member_in (keep_of p xs (member_of v (keep p xs) t)).0

vars_at_append : (v : ℕ) (ps qs : List (ℕ × Expr)) → T (member v (vars_at ps)) ⊎ T (member v (vars_at qs)) → T (member v (vars_at (ps ++ qs)))
vars_at_append v ps qs t = subst (λ (l : List ℕ). T (member v l)) (sym (split ps))
    (⊎_elim (member_left v (vars_at ps) (vars_at qs)) (member_right v (vars_at ps) (vars_at qs)) t)
  where
    split : (ps : List (ℕ × Expr)) → vars_at (ps ++ qs) ≡ vars_at ps ++ vars_at qs
    split [] = refl
    split (p ∷ ps) = ap (λ (l : List ℕ). vars_of p.1 ++ l) (split ps) ∙ sym (append_assoc (vars_of p.1) (vars_at ps) (vars_at qs))

params_at : (ks : List ℕ) (es : List Expr) → length es ≡ length ks → vars_at (pair ks es) ≡ each es vars_of
params_at [] [] h = refl
params_at (k ∷ ks) [] h = refl
params_at [] (e ∷ es) h = absurd (omega arith)
params_at (k ∷ ks) (e ∷ es) h = ap (λ (l : List ℕ). vars_of e ++ l) (params_at ks es (omega arith))

module _ (vs : List Verb) where
  fact_at_law : (f : Fact Expr) → Arity vs f → vars_at (places vs f) ≡ vars_in f
  fact_at_law (flat s v ps) a = ap (λ (l : List ℕ). vars_of s ++ l) (params_at (param_kinds vs v) ps a)
  fact_at_law (can_say s d f) a = ap (λ (l : List ℕ). vars_of s ++ l) (fact_at_law f a)

  abbrev Into : List ℕ → List ℕ → List (ℕ × Expr) → Type 0
  Into I O ps = (v : ℕ) → T (member v O) → T (member v I) ⊎ T (member v (vars_at ps))

  mutual
    into : (n : Node) → Sound vs n → (I O : List ℕ) → known n I ≡ some O → Into I O (demands_in n vs).places
    into (says e (flat s v ps)) a I O h u t =
        let w : vars_of e ++ vars_in (flat s v ps) ++ I ≡ O = cc in
        ⊎_elim (λ k. inr (subst (λ (l : List ℕ). T (member u (vars_of e ++ l))) (sym (fact_at_law (flat s v ps) a)) k)) (λ k. inl k)
        (member_append u (vars_of e ++ vars_in (flat s v ps)) I (subst (λ (l : List ℕ). T (member u l)) (sym w) t))
    into (says e (can_say s d f)) a I O h u t =
        let b = provided_of (among (vars_in (can_say s d f)) I) (some (vars_of e ++ I)) O h in
        let w : vars_of e ++ I ≡ O = let k = b.1 in cc in
        ⊎_elim (λ k. inr (member_left u (vars_of e) (vars_at (places vs (can_say s d f))) k)) (λ k. inl k)
        (member_append u (vars_of e) I (subst (λ (l : List ℕ). T (member u l)) (sym w) t))
    into (test c) a I O h u t =
        let b = provided_of (among (vars_test c) I) (some I) O h in
        let w : I ≡ O = let k = b.1 in cc in
        inl (subst (λ (l : List ℕ). T (member u l)) (sym w) t)
    into (all_of ns) a I O h u t = into_all ns a I O h u t
    into (any_of ns) a I O h u t = into_any ns a.1 a.0 I O h u t
    into (non n) a I O h u t =
        let b = provided_of (among (free n) I) (onward (known n I) (λ ws. some I)) O h in
        let c = onward_of (known n I) (λ ws. some I) O b.1 in
        let w : I ≡ O = let k = c.2 in cc in
        inl (subst (λ (l : List ℕ). T (member u l)) (sym w) t)
    into (exists x n) a I O h u t =
        let f : List ℕ → Option (List ℕ) = λ ws. provided (member x ws) (some (without x ws)) in
        let b = provided_of (not (member x I)) (onward (known n I) f) O h in
        let c = onward_of (known n I) f O b.1 in
        let d = provided_of (member x c.0) (some (without x c.0)) O c.2 in
        let w : without x c.0 ≡ O = let k = d.1 in cc in
        into n a.1 I c.0 c.1 u (member_keep u (λ y. not (eqb x y)) c.0 (subst (λ (l : List ℕ). T (member u l)) (sym w) t))

    into_all : (ns : Nodes) → SoundAll vs ns → (I O : List ℕ) → known_all ns I ≡ some O → Into I O (demands_all ns vs).places
    into_all end a I O h u t = let w : I ≡ O = cc in inl (subst (λ (l : List ℕ). T (member u l)) (sym w) t)
    into_all (more n ns) a I O h u t =
        let b = onward_of (known n I) (λ ws. known_all ns ws) O h in
        ⊎_elim
        (λ k. ⊎_elim (λ i. inl i) (λ i. inr (vars_at_append u (demands_in n vs).places (demands_all ns vs).places (inl i))) (into n a.0 I b.0 b.1 u k))
        (λ k. inr (vars_at_append u (demands_in n vs).places (demands_all ns vs).places (inr k)))
        (into_all ns a.1 b.0 O b.2 u t)

    into_any : (ns : Nodes) → SoundAll vs ns → Some vs ns → (I O : List ℕ) → known_any ns I ≡ some O → Into I O (demands_all ns vs).places
    into_any end a o I O h u t = absurd o
    into_any (more n ns) a o I O h u t =
        let b = onward_of (known n I) (λ ws. onward (known_any ns I) (λ us. some (keep (λ w. member w us) ws))) O h in
        let c = onward_of (known_any ns I) (λ us. some (keep (λ w. member w us) b.0)) O b.2 in
        let w : keep (λ y. member y c.0) b.0 ≡ O = let k = c.2 in cc in
        ⊎_elim (λ i. inl i) (λ i. inr (vars_at_append u (demands_in n vs).places (demands_all ns vs).places (inl i)))
        (into n a.0 I b.0 b.1 u (member_keep u (λ y. member y c.0) b.0 (subst (λ (l : List ℕ). T (member u l)) (sym w) t)))

module _ (vs : List Verb) (kinded : (v : ℕ) → T (all is_kind (param_kinds vs v))) where
  mutual
    node_kinded : (n : Node) → T (all kinded_at (demands_in n vs).places)
    node_kinded (says e f) = places_kinded vs kinded f
    node_kinded (test c) = tt
    node_kinded (all_of ns) = nodes_kinded ns
    node_kinded (any_of ns) = nodes_kinded ns
    node_kinded (non n) = node_kinded n
    node_kinded (exists v n) = node_kinded n

    nodes_kinded : (ns : Nodes) → T (all kinded_at (demands_all ns vs).places)
    nodes_kinded end = tt
    nodes_kinded (more n ns) = all_join kinded_at (demands_in n vs).places (demands_all ns vs).places (node_kinded n) (nodes_kinded ns)

-- what a request that is read is sure to have
pub record Asked (cs : List Constant) (vs : List Verb) (n : Node) : Type 0 where
  pub fit : T (fitting cs (demands_in n vs))
  pub sound : Sound vs n
  pub safe : T (safe_request n)

asked : (cs : List Constant) (vs : List Verb) (s : List ℕ) (q : Request) (e : ℕ) → read_request cs vs s ≡ got q e → Asked cs vs q.node
unfolding computed_request request_from safely
asked cs vs s q e h =
    let a = (choose_no _ _ 3 5 q e (choose_no _ _ 3 5 q e (headed_got version s _ q e (sym (request_is cs vs s) ∙ h))).1).1 in
    let b = and_then_got _ _ q e a in
    let c = and_then_got _ _ q e b.3 in
    let d = choose_yes _ _ 7 9 q e c.3 in
    let x = ended_got s _ c.0 b.1 c.1 c.2 in
    let y : c.0 ≡ q = let k = d.1 in cc in
    let w = node_checked vs cs s 8 no_demands 9 b.0 b.1 b.2 in
    subst (λ (r : Request). Asked cs vs r.node) (x ∙ y) (record {
      fit = subst (λ (E : Demands). T (fitting cs E)) w.asked (node_fits cs vs s 8 no_demands 9 b.0 b.1 b.2);
      sound = w.sound;
      safe = subst (λ (r : Request). T (safe_request r.node)) (sym x) d.0;
    })

module _ (policy request : List ℕ) (P : Policy) (q : Request) (h : ReadAs policy P) (r : AskedAs P request q) where
  abbrev cs : List Constant
  cs = P.constants

  abbrev n : Node
  n = q.node

  abbrev D : Demands
  D = demands_in n P.verbs

  -- the reader asked what the whole node asks
  pub whole : Asked cs P.verbs n
  whole = asked cs P.verbs request q r.0 r.1

  after : (O : List ℕ) × (known n [] ≡ some O) × T (among (free n) O)
  after =
      let s = and_of (is_safe (known n []) (free n) && apart (binders n)) (all (λ v. not (member v (free n))) (binders n)) whole.safe in
      is_safe_of (known n []) (free n) (and_of (is_safe (known n []) (free n)) (apart (binders n)) s.0).0

  -- a free variable has a place in a fact, and so a kind
  pub free_placed : (v : ℕ) → T (member v (free n)) → ¬ (kind_of D.places v ≡ 0)
  free_placed v u =
      let t : T (member v after.0) = all_of_law (λ w. member w after.0) after.2 (member_of v (free n) u) in
      let u = into P.verbs n whole.sound [] after.0 after.1 v t in
      a_place D.places (node_kinded P.verbs (policy_kinded policy P h) n) v (⊎_elim (λ z. absurd z) (λ z. z) u)

  -- "Bindings range over the policy's constants of the variable's kind. .. 255 where not free"
  pub answering : (θ : List ℕ) → Memᴰ θ (bindings_in (world_of P q) n) ↔ ((κ : List ℕ) × Fits cs D κ × Binds cs κ (free n) θ)
  answering θ = (λ b. binds_of cs D (free n) free_placed whole.fit θ b, λ b. binds_in cs D (free n) free_placed θ b.0 b.1 b.2)

  -- the answer of a free variable
  pub answered : (θ : List ℕ) → Memᴰ θ (bindings_in (world_of P q) n) → (v : ℕ) → T (member v (free n))
      → Memᴰ (kind_of D.places v) kinds × (kind_at cs (get_or θ v unbound) ≡ kind_of D.places v)
  answered θ m v t =
      let w = (answering θ).0 m in
      let κ = w.0 in
      let f = w.1 in
      let e = one_kind_law cs κ D.places (and_of (all (in_place cs κ) D.places) (all (comparable cs κ) D.tests) f.2).0 v (free_placed v t) in
      let l = below_length κ 8 f.0 v (λ z. free_placed v t (sym e ∙ z)) in
      (subst (λ (k : ℕ). Memᴰ k kinds) e (f.1 v l), (w.2.1 v l).0 t ∙ e)
