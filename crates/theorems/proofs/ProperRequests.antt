-- What a request can be read as under an accepted policy: its variables are of the eight, and each any-of has a part.
use mathlib.Core.Path.{◌≡◌, sym, subst, ◌∙◌}
use mathlib.Core.Logic.{◌↔◌}
use mathlib.Core.List.{List, [], ◌∷◌, ◌++◌}
use mathlib.Core.Bool.{Bool, true, false, ◌&&◌}
use Prim.Native.Nat.{ℕ, zero, suc, ◌+◌, ◌≤◌}
use native.Mathlib.Omega.{arith}
use lib.ListN.{length, get_or}
use lib.Dec.{T, leb, eqb→eq, leb→le}
use Rattle.model.specs.Limits.{principal, quantity}
use Rattle.model.specs.Lists.{all, each}
use Rattle.model.specs.Syntax.{Expr, con, var, today, Fact, flat, can_say, Constant, Verb, Policy, Node, Nodes, says, test, all_of, any_of, non}
use Rattle.model.specs.Syntax.{exists, end, more, vars_of, vars_in}
use Rattle.model.specs.Kinds.{Demands, no_demands, pair, places, param_kinds, demands_in, demands_all, in_place, comparable, fitting}
use Rattle.model.specs.Records.{Arity}
use Rattle.model.specs.Safety.{safe_request}
use Rattle.model.specs.Safe.{SafeRequest}
use Rattle.model.specs.Bytes.{byte_at, choose, both, Reading, got}
use Rattle.model.specs.Readings.{Sort, says_sort, test_sort, all_sort, any_sort, not_sort, exists_sort, no_sort, sort_of, node_at, verb_at}
use Rattle.model.specs.Forms.{Form, ends, broken, no_verb, fact_form, is_kind, verb_form, signature_form}
use Rattle.model.specs.Policies.{contents, verb_item, Accepted, policy_of, read_policy}
use Rattle.model.specs.Nodes.{parts_form, check_parts, fitted, check_says, check_test, check_by, check_node}
use Rattle.model.specs.Layout.{node}
use Rattle.model.specs.Inputs.{ReadAs}
use Rattle.model.proofs.ListFacts.{and_of}
use Rattle.model.proofs.KindFacts.{fitting↔}
use Rattle.model.proofs.ReadFacts.{never, choose_yes, choose_no, and_then_got, list_each, accepted_lists}
use Rattle.model.proofs.KindFacts.{kinds_each}
use Rattle.model.proofs.CheckedNodes.{Some, Sound, SoundAll, node_checked}
use Rattle.model.proofs.RequestReader.{node_is}
use Rattle.model.proofs.SafetyRules.{Low, low_append, Proper, ProperAll, ProperAny, safe_request_law}
use Rattle.model.proofs.Tests.{both_of}
use Rattle.model.proofs.ByteFacts.{below_length}

-- ---- a variable in a place has a kind, so it is of the eight

pub all_append : {A : Type 0} (p : A → Bool) (xs ys : List A) → T (all p (xs ++ ys)) → T (all p xs) × T (all p ys)
all_append p [] ys t = (tt, t)
all_append p (x ∷ xs) ys t = go (p x) t (λ u. all_append p xs ys u)
  where
    go : (b : Bool) → T (b && all p (xs ++ ys)) → (T (all p (xs ++ ys)) → T (all p xs) × T (all p ys)) → T (b && all p xs) × T (all p ys)
    go true t r = r t
    go false t r = absurd t

module _ (cs : List Constant) (κ : List ℕ) (l : length κ ≡ 8) where
  low_place : (k : ℕ) (e : Expr) → T (is_kind k) → T (in_place cs κ (k, e)) → Low (vars_of e)
  low_place k (con c) i t = tt
  low_place k today i t = tt
  low_place k (var v) i t =
      let z : get_or κ v 0 ≡ k = eqb→eq (get_or κ v 0) k t in
      let o : 1 ≤ k = leb→le 1 k (and_of (leb 1 k) (leb k quantity) i).0 in
      (below_length κ 8 l v (λ w. omega arith), tt)

  low_pair : (ks : List ℕ) (es : List Expr) → length es ≡ length ks → T (all is_kind ks) → T (all (in_place cs κ) (pair ks es)) → Low (each es vars_of)
  low_pair ks [] h i t = tt
  low_pair [] (e ∷ es) h i t = absurd (omega arith)
  low_pair (k ∷ ks) (e ∷ es) h i t =
      let a = and_of (is_kind k) (all is_kind ks) i in
      let b = and_of (in_place cs κ (k, e)) (all (in_place cs κ) (pair ks es)) t in
      low_append (vars_of e) (each es vars_of) (low_place k e a.0 b.0) (low_pair ks es (omega arith) a.1 b.1)

  module _ (vs : List Verb) (kinded : (v : ℕ) → T (all is_kind (param_kinds vs v))) where
    low_fact : (f : Fact Expr) → Arity vs f → T (all (in_place cs κ) (places vs f)) → Low (vars_in f)
    low_fact (flat s v ps) a t =
        let b = and_of (in_place cs κ (principal, s)) (all (in_place cs κ) (pair (param_kinds vs v) ps)) t in
        low_append (vars_of s) (each ps vars_of) (low_place principal s tt b.0) (low_pair (param_kinds vs v) ps a (kinded v) b.1)
    low_fact (can_say s d f) a t =
        let b = and_of (in_place cs κ (principal, s)) (all (in_place cs κ) (places vs f)) t in
        low_append (vars_of s) (vars_in f) (low_place principal s tt b.0) (low_fact f a b.1)

    any_proper : (ns : Nodes) → Some vs ns → ProperAll ns → ProperAny ns
    any_proper end a p = a
    any_proper (more n ns) a p = p

    mutual
      proper_of : (n : Node) → Sound vs n → T (all (in_place cs κ) (demands_in n vs).places) → Proper n
      proper_of (says e f) a t = let b = and_of (in_place cs κ (principal, e)) (all (in_place cs κ) (places vs f)) t in
          (low_place principal e tt b.0, low_fact f a b.1)
      proper_of (test c) a t = tt
      proper_of (all_of ns) a t = proper_all ns a t
      proper_of (any_of ns) a t = any_proper ns a.0 (proper_all ns a.1 t)
      proper_of (non n) a t = proper_of n a t
      proper_of (exists v n) a t = proper_of n a.1 t

      proper_all : (ns : Nodes) → SoundAll vs ns → T (all (in_place cs κ) (demands_all ns vs).places) → ProperAll ns
      proper_all end a t = tt
      proper_all (more n ns) a t = let b = all_append (in_place cs κ) (demands_in n vs).places (demands_all ns vs).places t in
          (proper_of n a.0 b.0, proper_all ns a.1 b.1)

-- ---- what all items ask fits

module _ (cs : List Constant) (vs : List Verb) (s : List ℕ) where
  abbrev Fits : (Demands → ℕ → Reading Demands) → Type 0
  Fits h = (D : Demands) (at : ℕ) (E : Demands) (e : ℕ) → h D at ≡ got E e → T (fitting cs E)

  fitted_fits : (D : Demands) (at x : ℕ) (E : Demands) (e : ℕ) → fitted cs vs s D at x ≡ got E e → T (fitting cs E)
  unfolding fitted
  fitted_fits D at x E e r = let c = choose_yes (fitting cs D) (got D x) 5 at E e r in
      subst (λ (F : Demands). T (fitting cs F)) (let w : D ≡ E = let k = c.1 in cc in w) c.0

  says_fits : (φ : Form) (D : Demands) (at : ℕ) (E : Demands) (e : ℕ) → check_says cs vs s φ D at ≡ got E e → T (fitting cs E)
  unfolding check_says
  says_fits (ends x) D at E e r = fitted_fits _ at x E e r
  says_fits broken D at E e r = absurd (never 3 at e E r)
  says_fits no_verb D at E e r = absurd (never 5 at e E r)

  parts_fits : (h : Demands → ℕ → Reading Demands) → Fits h → (n : ℕ) (D : Demands) (at : ℕ) (E : Demands) (e : ℕ) → 1 ≤ n → check_parts h n D at ≡ got E e
      → T (fitting cs E)
  unfolding check_parts
  parts_fits h k zero D at E e o r = absurd (omega arith)
  parts_fits h k (suc zero) D at E e o r =
      let w = and_then_got (h D at) (check_parts h zero) E e r in
      subst (λ (F : Demands). T (fitting cs F)) (let z : w.0 ≡ E = let y = w.3 in cc in z) (k D at w.0 w.1 w.2)
  parts_fits h k (suc (suc n)) D at E e o r =
      let w = and_then_got (h D at) (check_parts h (suc n)) E e r in
      parts_fits h k (suc n) w.0 w.1 E e (omega arith) w.3

  some_parts : (p : ℕ) → T (parts_form s p) → 1 ≤ byte_at s p
  unfolding parts_form both choose
  some_parts p t = leb→le 1 (byte_at s p) (go (leb 1 (byte_at s p)) t)
    where
      go : (b : Bool) → T (choose b (leb (byte_at s p) 8) false) → T b
      go true t = tt
      go false t = t

  by_fits : (k : Sort) (h : Demands → ℕ → Reading Demands) → Fits h → (D : Demands) (at : ℕ) (E : Demands) (e : ℕ) → check_by cs vs s k h D at ≡ got E e
      → T (fitting cs E)
  unfolding check_by check_test
  by_fits says_sort h f D at E e r = says_fits (fact_form vs s (length s) (at + 3)) D at E e r
  by_fits test_sort h f D at E e r = fitted_fits _ at (at + 6) E e (choose_yes _ _ 3 at E e (choose_no _ _ 3 at E e r).1).1
  by_fits all_sort h f D at E e r = let y = choose_yes _ _ 3 at E e r in parts_fits h f (byte_at s (at + 1)) D (at + 2) E e (some_parts (at + 1) y.0) y.1
  by_fits any_sort h f D at E e r = let y = choose_yes _ _ 3 at E e r in parts_fits h f (byte_at s (at + 1)) D (at + 2) E e (some_parts (at + 1) y.0) y.1
  by_fits not_sort h f D at E e r = f D (at + 1) E e r
  by_fits exists_sort h f D at E e r = f D (at + 2) E e (choose_yes _ _ 3 at E e r).1
  by_fits no_sort h f D at E e r = absurd (never 3 at e E r)

  pub node_fits : (d : ℕ) → Fits (check_node cs vs s d)
  unfolding check_node
  node_fits zero D at E e r = absurd (never 3 at e E r)
  node_fits (suc d) D at E e r = by_fits (sort_of (byte_at s at)) (check_node cs vs s d) (node_fits d) D at E e (choose_no _ _ 3 at E e r).1

  pub asked_proper : ((v : ℕ) → T (all is_kind (param_kinds vs v))) → (n : Node) (e : ℕ) → node s cs vs 8 no_demands 0 (length s) 9 ≡ got n e → Proper n
  asked_proper kinded n e h =
      let a = and_then_got (check_node cs vs s 8 no_demands 9) (λ E q. got (node_at vs s 8 9) q) n e (sym (node_is cs vs s 8 no_demands 0 9) ∙ h) in
      let c = node_checked vs cs s 8 no_demands 9 a.0 a.1 a.2 in
      let f = (fitting↔ cs a.0).0 (node_fits 8 no_demands 9 a.0 a.1 a.2) in
      let m = and_of (all (in_place cs f.0) a.0.places) (all (comparable cs f.0) a.0.tests) f.3 in
      let t : T (all (in_place cs f.0) (demands_in (node_at vs s 8 9) vs).places) =
      subst (λ (E : Demands). T (all (in_place cs f.0) E.places)) c.asked m.0 in
      subst Proper (let w : node_at vs s 8 9 ≡ n = let k = a.3 in cc in w) (proper_of cs f.0 f.1 vs kinded (node_at vs s 8 9) c.sound t)

-- ---- the verbs of an accepted policy have kinds

verb_kinded : (s : List ℕ) (before : List Verb) (at : ℕ) (v : Verb) (e : ℕ) → verb_item s before at ≡ got v e → T (all is_kind v.kinds)
unfolding verb_item verb_form signature_form verb_at
verb_kinded s before at v e r =
    let a = choose_yes _ _ 3 at v e r in
    let b = choose_no _ _ 4 at v e a.1 in
    let c = (both_of _ _ (both_of _ _ a.0).1).1 in
    let d = (both_of _ _ (both_of _ _ (both_of _ _ c).1).1).0 in
    subst (λ (w : Verb). T (all is_kind w.kinds)) (let z : verb_at s at ≡ v = let k = b.1 in cc in z) d

accepted_kinded : (s : List ℕ) (A : Accepted) (e : ℕ) → read_policy s ≡ got A e → (v : ℕ) → T (all is_kind (param_kinds (policy_of A).verbs v))
accepted_kinded s A e r =
    let L = accepted_lists s A e r in
    kinds_each (λ (ks : List ℕ). T (all is_kind ks)) tt tt (contents A.verbs)
    (list_each (verb_item s) (λ (x : Verb). T (all is_kind x.kinds)) (verb_kinded s) s 0 _ L.verbs_at A.verbs L.assertions_at L.verbs)

pub policy_kinded : (policy : List ℕ) (P : Policy) → ReadAs policy P → (v : ℕ) → T (all is_kind (param_kinds P.verbs v))
policy_kinded policy P h =
    subst (λ (Q : Policy). (v : ℕ) → T (all is_kind (param_kinds Q.verbs v))) h.3 (accepted_kinded policy h.0 h.1 h.2)

pub safely_asked_law : (policy request : List ℕ) (P : Policy) → ReadAs policy P → (n : Node) (e : ℕ)
    → node request P.constants P.verbs 8 no_demands 0 (length request) 9 ≡ got n e → T (safe_request n) ↔ SafeRequest n
safely_asked_law policy request P h n e r = safe_request_law n (asked_proper P.constants P.verbs request (policy_kinded policy P h) n e r)
