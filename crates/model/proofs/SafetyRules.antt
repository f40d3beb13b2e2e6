-- The computed test for safe requests says what the rules of `Safe` say.
use mathlib.Core.Path.{◌≡◌, refl, sym, ap, subst, ◌∙◌}
use mathlib.Core.Logic.{◌↔◌, ◌⊎◌, inl, inr, ⊎_elim}
use mathlib.Core.List.{List, [], ◌∷◌, ◌++◌}
use mathlib.Core.Bool.{Bool, true, false, ◌&&◌, not}
use mathlib.Core.Option.{Option, none, some}
use Prim.Native.Nat.{ℕ, zero, suc, ◌<◌}
use native.Mathlib.Omega.{arith}
use lib.Dec.{T, eqb}
use Rattle.model.specs.Lists.{only, keep, all, member, among, without, apart}
use Rattle.model.specs.Syntax.{flat, can_say, Node, Nodes, says, test, all_of, any_of, non, exists, end, more, vars_of, vars_in, vars_test}
use Rattle.model.specs.Kinds.{variables}
use Rattle.model.specs.Requests.{free}
use Rattle.model.specs.Safety.{provided, onward, known, known_all, known_any, binders, is_safe, safe_request}
use Rattle.model.specs.Safe.{Safe, SafeAll, SafeAny, flat_says, nested_says, compares, all_parts, any_part, negates, binds, no_more, then_all}
use Rattle.model.specs.Safe.{last_part, or_any, SafeRequest}
use Rattle.model.proofs.ListFacts.{and_of, and_in}

-- ---- variables of the eight

abbrev pub Low : List ℕ → Type 0
Low [] = Unit {0}
Low (v ∷ vs) = (v < 8) × Low vs

pub low_append : (xs ys : List ℕ) → Low xs → Low ys → Low (xs ++ ys)
low_append [] ys a b = b
low_append (x ∷ xs) ys a b = (a.0, low_append xs ys a.1 b)

low_keep : (p : ℕ → Bool) (xs : List ℕ) → Low xs → Low (keep p xs)
low_keep p [] a = tt
low_keep p (x ∷ xs) a = go (p x) (low_keep p xs a.1)
  where
    go : (b : Bool) → Low (keep p xs) → Low (only b x ++ keep p xs)
    go true r = (a.0, r)
    go false r = r

low_member : (v : ℕ) → v < 8 → member v variables ≡ true
low_member zero h = refl
low_member (suc zero) h = refl
low_member (suc (suc zero)) h = refl
low_member (suc (suc (suc zero))) h = refl
low_member (suc (suc (suc (suc zero)))) h = refl
low_member (suc (suc (suc (suc (suc zero))))) h = refl
low_member (suc (suc (suc (suc (suc (suc zero)))))) h = refl
low_member (suc (suc (suc (suc (suc (suc (suc zero))))))) h = refl
low_member (suc (suc (suc (suc (suc (suc (suc (suc v)))))))) h = absurd (omega arith)

keep_all : (xs : List ℕ) → Low xs → keep (λ v. member v variables) xs ≡ xs
keep_all [] a = refl
keep_all (x ∷ xs) a = go (member x variables) (low_member x a.0) (keep_all xs a.1)
  where
    go : (b : Bool) → b ≡ true → keep (λ v. member v variables) xs ≡ xs → only b x ++ keep (λ v. member v variables) xs ≡ x ∷ xs
    go true e r = ap (λ (l : List ℕ). x ∷ l) r
    go false e r = absurd (let z : ◌≡◌ {A = ℕ} 0 1 = cc in omega arith)

-- ---- nodes whose variables are of the eight, and whose any-ofs have a part: those that a request is read as

abbrev mutual
  pub Proper : Node → Type 0
  Proper (says e f) = Low (vars_of e) × Low (vars_in f)
  Proper (test c) = Unit {0}
  Proper (all_of ns) = ProperAll ns
  Proper (any_of ns) = ProperAny ns
  Proper (non n) = Proper n
  Proper (exists v n) = Proper n

  pub ProperAll : Nodes → Type 0
  ProperAll end = Unit {0}
  ProperAll (more n ns) = Proper n × ProperAll ns

  pub ProperAny : Nodes → Type 0
  ProperAny end = ⊥
  ProperAny (more n ns) = Proper n × ProperAll ns

-- ---- what a computed set tells

abbrev pub Set : Type 0
Set = Option (List ℕ)

pub provided_of : (b : Bool) (o : Set) (O : List ℕ) → provided b o ≡ some O → T b × (o ≡ some O)
provided_of true o O h = (tt, h)
provided_of false o O h = absurd (let z : ◌≡◌ {A = ℕ} 0 1 = cc in omega arith)

provided_in : (b : Bool) (o : Set) → T b → provided b o ≡ o
provided_in true o t = refl
provided_in false o t = absurd t

pub onward_of : (o : Set) (f : List ℕ → Set) (O : List ℕ) → onward o f ≡ some O → (J : List ℕ) × (o ≡ some J) × (f J ≡ some O)
onward_of none f O h = absurd (let z : ◌≡◌ {A = ℕ} 0 1 = cc in omega arith)
onward_of (some J) f O h = (J, refl, h)

onward_in : (o : Set) (f : List ℕ → Set) (J : List ℕ) → o ≡ some J → onward o f ≡ f J
onward_in o f J h = rw h

-- ---- the computed test follows the rules

-- what the parts of an any-of give from some part on: past the last all eight, which take nothing away
abbrev Rest : List ℕ → Nodes → List ℕ → Type 0
Rest I end K = variables ≡ K
Rest I (more n ns) K = SafeAny I (more n ns) K × Low K

join : (I J K : List ℕ) (n : Node) (ns : Nodes) → Safe I n J → Low J → Rest I ns K → SafeAny I (more n ns) (keep (λ v. member v K) J)
    × Low (keep (λ v. member v K) J)
join I J K n end a l r = subst (λ (X : List ℕ). SafeAny I (more n end) X × Low X) (sym (keep_all J l) ∙ ap (λ (X : List ℕ). keep (λ v. member v X) J) r)
    (last_part a, l)
join I J K n (more m ns) a l r = (or_any a r.0, low_keep (λ v. member v K) J l)

part : (I O : List ℕ) (ns : Nodes) → ProperAny ns → Rest I ns O → SafeAny I ns O × Low O
part I O end p r = absurd p
part I O (more n ns) p r = r

all_proper : (ns : Nodes) → ProperAny ns → ProperAll ns
all_proper end p = tt
all_proper (more n ns) p = p

mutual
  safe_of : (n : Node) (I O : List ℕ) → Proper n → Low I → known n I ≡ some O → Safe I n O × Low O
  safe_of (says e (flat s v ps)) I O p l h = let w : vars_of e ++ vars_in (flat s v ps) ++ I ≡ O = cc in
      subst (λ (X : List ℕ). Safe I (says e (flat s v ps)) X × Low X) w
      (flat_says, low_append (vars_of e ++ vars_in (flat s v ps)) I (low_append (vars_of e) (vars_in (flat s v ps)) p.0 p.1) l)
  safe_of (says e (can_say s d f)) I O p l h =
      let a = provided_of (among (vars_in (can_say s d f)) I) (some (vars_of e ++ I)) O h in
      let w : vars_of e ++ I ≡ O = let k = a.1 in cc in
      subst (λ (X : List ℕ). Safe I (says e (can_say s d f)) X × Low X) w (nested_says a.0, low_append (vars_of e) I p.0 l)
  safe_of (test c) I O p l h =
      let a = provided_of (among (vars_test c) I) (some I) O h in
      let w : I ≡ O = let k = a.1 in cc in
      subst (λ (X : List ℕ). Safe I (test c) X × Low X) w (compares a.0, l)
  safe_of (all_of ns) I O p l h = let a = safe_all ns I O p l h in (all_parts a.0, a.1)
  safe_of (any_of ns) I O p l h = let a = part I O ns p (safe_any ns I O (all_proper ns p) l h) in (any_part a.0, a.1)
  safe_of (non n) I O p l h =
      let a = provided_of (among (free n) I) (onward (known n I) (λ ws. some I)) O h in
      let b = onward_of (known n I) (λ ws. some I) O a.1 in
      let w : I ≡ O = let k = b.2 in cc in
      subst (λ (X : List ℕ). Safe I (non n) X × Low X) w (negates a.0 (safe_of n I b.0 p l b.1).0, l)
  safe_of (exists v n) I O p l h =
      let f : List ℕ → Set = λ ws. provided (member v ws) (some (without v ws)) in
      let a = provided_of (not (member v I)) (onward (known n I) f) O h in
      let b = onward_of (known n I) f O a.1 in
      let c = provided_of (member v b.0) (some (without v b.0)) O b.2 in
      let w : without v b.0 ≡ O = let k = c.1 in cc in
      let r = safe_of n I b.0 p l b.1 in
      subst (λ (X : List ℕ). Safe I (exists v n) X × Low X) w (binds a.0 r.0 c.0, low_keep (λ u. not (eqb v u)) b.0 r.1)

  safe_all : (ns : Nodes) (I O : List ℕ) → ProperAll ns → Low I → known_all ns I ≡ some O → SafeAll I ns O × Low O
  safe_all end I O p l h = let w : I ≡ O = cc in subst (λ (X : List ℕ). SafeAll I end X × Low X) w (no_more, l)
  safe_all (more n ns) I O p l h =
      let a = onward_of (known n I) (λ ws. known_all ns ws) O h in
      let r = safe_of n I a.0 p.0 l a.1 in
      let t = safe_all ns a.0 O p.1 r.1 a.2 in
      (then_all r.0 t.0, t.1)

  safe_any : (ns : Nodes) (I O : List ℕ) → ProperAll ns → Low I → known_any ns I ≡ some O → Rest I ns O
  safe_any end I O p l h = let w : variables ≡ O = cc in w
  safe_any (more n ns) I O p l h =
      let a = onward_of (known n I) (λ ws. onward (known_any ns I) (λ us. some (keep (λ w. member w us) ws))) O h in
      let b = onward_of (known_any ns I) (λ us. some (keep (λ w. member w us) a.0)) O a.2 in
      let w : keep (λ v. member v b.0) a.0 ≡ O = let k = b.2 in cc in
      let r = safe_of n I a.0 p.0 l a.1 in
      subst (λ (X : List ℕ). SafeAny I (more n ns) X × Low X) w (join I a.0 b.0 n ns r.0 r.1 (safe_any ns I b.0 p.1 l b.1))

-- ---- and the rules follow the computed test

abbrev Turned : Node → List ℕ → List ℕ → Type 0
Turned (says e (flat s v ps)) I O = vars_of e ++ vars_in (flat s v ps) ++ I ≡ O
Turned (says e (can_say s d f)) I O = T (among (vars_in (can_say s d f)) I) × (vars_of e ++ I ≡ O)
Turned (test c) I O = T (among (vars_test c) I) × (I ≡ O)
Turned (all_of ns) I O = SafeAll I ns O
Turned (any_of ns) I O = SafeAny I ns O
Turned (non n) I O = (X : List ℕ) × T (among (free n) I) × Safe I n X × (I ≡ O)
Turned (exists v n) I O = (X : List ℕ) × T (not (member v I)) × Safe I n X × T (member v X) × (without v X ≡ O)

turn : {I O : List ℕ} {n : Node} → Safe I n O → Turned n I O
turn flat_says = refl
turn (nested_says a) = (a, refl)
turn (compares a) = (a, refl)
turn (all_parts r) = r
turn (any_part r) = r
turn (negates {O = X} a r) = (X, a, r, refl)
turn (binds {O = X} a r b) = (X, a, r, b, refl)

abbrev TurnedAll : Nodes → List ℕ → List ℕ → Type 0
TurnedAll end I O = I ≡ O
TurnedAll (more n ns) I O = (X : List ℕ) × Safe I n X × SafeAll X ns O

turn_all : {I O : List ℕ} {ns : Nodes} → SafeAll I ns O → TurnedAll ns I O
turn_all no_more = refl
turn_all (then_all {J = X} a r) = (X, a, r)

abbrev TurnedAny : Nodes → List ℕ → List ℕ → Type 0
TurnedAny end I O = ⊥
TurnedAny (more n ns) I O = (X : List ℕ) × Safe I n X × (((ns ≡ end) × (X ≡ O)) ⊎ ((K : List ℕ) × SafeAny I ns K × (keep (λ v. member v K) X ≡ O)))

turn_any : {I O : List ℕ} {ns : Nodes} → SafeAny I ns O → TurnedAny ns I O
turn_any (last_part {O = X} a) = (X, a, inl (refl, refl))
turn_any (or_any {J = X} {K = K} a r) = (X, a, inr (K, r, refl))

mutual
  known_of : (n : Node) (I O : List ℕ) → Proper n → Low I → Safe I n O → known n I ≡ some O
  known_of (says e (flat s v ps)) I O p l h = ap some (turn h)
  known_of (says e (can_say s d f)) I O p l h = let a = turn h in provided_in (among (vars_in (can_say s d f)) I) (some (vars_of e ++ I)) a.0 ∙ ap some a.1
  known_of (test c) I O p l h = let a = turn h in provided_in (among (vars_test c) I) (some I) a.0 ∙ ap some a.1
  known_of (all_of ns) I O p l h = known_all_law ns I O p l (turn h)
  known_of (any_of ns) I O p l h = known_any_law ns I O (all_proper ns p) l (turn h)
  known_of (non n) I O p l h = let a = turn h in provided_in (among (free n) I) (onward (known n I) (λ ws. some I)) a.1
      ∙ onward_in (known n I) (λ ws. some I) a.0 (known_of n I a.0 p l a.2) ∙ ap some a.3
  known_of (exists v n) I O p l h =
      let a = turn h in
      provided_in (not (member v I)) (onward (known n I) (λ ws. provided (member v ws) (some (without v ws)))) a.1
      ∙ onward_in (known n I) (λ ws. provided (member v ws) (some (without v ws))) a.0 (known_of n I a.0 p l a.2)
      ∙ provided_in (member v a.0) (some (without v a.0)) a.3 ∙ ap some a.4

  known_all_law : (ns : Nodes) (I O : List ℕ) → ProperAll ns → Low I → SafeAll I ns O → known_all ns I ≡ some O
  known_all_law end I O p l h = ap some (turn_all h)
  known_all_law (more n ns) I O p l h =
      let a = turn_all h in
      let k = known_of n I a.0 p.0 l a.1 in
      onward_in (known n I) (λ ws. known_all ns ws) a.0 k ∙ known_all_law ns a.0 O p.1 (safe_of n I a.0 p.0 l k).1 a.2

  known_any_law : (ns : Nodes) (I O : List ℕ) → ProperAll ns → Low I → SafeAny I ns O → known_any ns I ≡ some O
  known_any_law end I O p l h = absurd (turn_any h)
  known_any_law (more n ns) I O p l h =
      let a = turn_any h in
      let k = known_of n I a.0 p.0 l a.1 in
      onward_in (known n I) (λ ws. onward (known_any ns I) (λ us. some (keep (λ w. member w us) ws))) a.0 k
      ∙ ⊎_elim
      (λ e. subst (λ (ms : Nodes). onward (known_any ms I) (λ us. some (keep (λ w. member w us) a.0)) ≡ some O) (sym e.0)
      (ap some (keep_all a.0 (safe_of n I a.0 p.0 l k).1 ∙ e.1)))
      (λ r. onward_in (known_any ns I) (λ us. some (keep (λ w. member w us) a.0)) r.0 (known_any_law ns I r.0 p.1 l r.1) ∙ ap some r.2)
      a.2

-- ---- requests

pub is_safe_of : (o : Set) (vs : List ℕ) → T (is_safe o vs) → (O : List ℕ) × (o ≡ some O) × T (among vs O)
is_safe_of none vs t = absurd t
is_safe_of (some O) vs t = (O, refl, t)

-- "7 unsafe request", of a node that a request can be read as
pub safe_request_law : (n : Node) → Proper n → T (safe_request n) ↔ SafeRequest n
safe_request_law n p = (to, from)
  where
    to : T (safe_request n) → SafeRequest n
    to t =
        let a = and_of (is_safe (known n []) (free n) && apart (binders n)) (all (λ v. not (member v (free n))) (binders n)) t in
        let b = and_of (is_safe (known n []) (free n)) (apart (binders n)) a.0 in
        let c = is_safe_of (known n []) (free n) b.0 in
        record { known_after = c.0; safely = (safe_of n [] c.0 p tt c.1).0; free_known = c.2; one_binder = b.1; bound_inside = a.1 }

    from : SafeRequest n → T (safe_request n)
    from r =
        and_in (is_safe (known n []) (free n) && apart (binders n)) (all (λ v. not (member v (free n))) (binders n))
        (and_in (is_safe (known n []) (free n)) (apart (binders n)) (subst (λ (o : Set). T (is_safe o (free n)))
        (sym (known_of n [] r.known_after p tt r.safely)) r.free_known) r.one_binder) r.bound_inside
