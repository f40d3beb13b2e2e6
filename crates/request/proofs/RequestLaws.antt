-- The whole request: what the code hands out is the model's answer.
use mathlib.Core.Path.{◌≡◌, refl, sym, ◌∙◌, ap, subst}
use mathlib.Core.Logic.{⊎_elim}
use mathlib.Core.Bool.{Bool, true, false, cond, ◌&&◌}
use mathlib.Core.Option as option
use mathlib.Core.Option.{Option, some}
use mathlib.Core.List.Memᴰ
use mathlib.Core.List.{List, [], ◌∷◌, ◌++◌, map, Memᴰ}
use Prim.Native.Nat.{ℕ, ◌<◌}
use native.Mathlib.Omega.{arith}
use lib.ListN.{length}
use lib.Seq.{ext_get_or}
use lib.Dec.{T, eqb, ltb}
use Rattle.model.specs.Limits.{version, max_day, max_depth, first_node_at, header_bytes, length_at, principal}
use Rattle.model.specs.Lists.{each, member, apart}
use Rattle.model.specs.Syntax as syntax
use Rattle.model.specs.Syntax.{Expr, var, Constraint, Constant, Verb, Node, Nodes, says, test, all_of, any_of, non, exists, end, more, vars_of, vars_in}
use Rattle.model.specs.Syntax.{vars_test}
use Rattle.model.specs.Kinds.{Demands, no_demands, places, occurring, demands_in, demands_all, kind_of, variables}
use Rattle.model.specs.Requests.{free}
use Rattle.model.specs.Safety.{known, binders, is_safe, safe_request}
use Rattle.model.specs.Bytes.{u32_at, choose, Reading, got, refused, and_then}
use Rattle.model.specs.Readings.{node_at}
use Rattle.model.specs.Policies.{version_there, length_right, headed, ended}
use Rattle.model.specs.Nodes.{check_node, request_of, safely, request_from, read_request}
use Rattle.model.proofs.ListFacts.{and_of, each_in, member_of, member_in}
use Rattle.model.proofs.BindingFacts.{at_variable, same_variables}
use Rattle.wire.proofs.Reading.{choose_true, choose_false}
use Rattle.kinds.specs.Cells.{Cells, nothing}
use Rattle.kinds.proofs.Model.{fits_low, kind_cell}
use Rattle.phrases.specs.Tables.{Tables}
use Rattle.phrases.specs.Marks.{none, marked}
use Rattle.phrases.proofs.Sets.{marked_append, marked_length, mark_is}
use Rattle.nodes.specs.Tree.{tree_in}
use Rattle.std.specs.Prelude.{slice_get, ◌||◌, if◌then◌else◌, Some, None, Result, Ok, Err}
use Rattle.slices.specs.Steps.{Next, Refused, number_of}
use Rattle.slices.specs.Lists.{headed_at}
use Rattle.slices.specs.declared.Refusal.{Refusal}
use Rattle.safety.specs.Safety.{judged_in}
use Rattle.safety.specs.declared.Judged.{Judged}
use Rattle.request.specs.Requests.{said, answered, marks, handed_out, kind_in, cell_kind, cell_kinds, accepted_in, ended_in, whole_in}
use Rattle.nodes.specs.declared.Reached.{Reached}
use Rattle.request.specs.declared.Request.{Request}
use Rattle.nodes.proofs.TreeLaws.{by_bool, tree_is}
use Rattle.nodes.proofs.ReadLaws.{State, state_fits, Reads, reads_node, state_none}
use Rattle.model.proofs.CheckedNodes.{Sound, SoundAll, node_checked}
use Rattle.safety.proofs.SafeLaws.{Below, Small, SmallAll, mark_at, judged_is}
use Rattle.request.proofs.KindLaws.{head_in, fact_in_law, place_used, told, kind_none, kind_some}
use Rattle.model.proofs.RequestReader.{request_is as plainly}
use Rattle.model.specs.Nodes.{computed_request}
use Rattle.model.proofs.Tests.{true_T}

-- ---- the variables of a sound node whose demands fit are among the eight

module _ (vs : List Verb) where
  placed_low : (D : Demands) → ((v : ℕ) → Memᴰ v (occurring D) → v < 8) → (v k : ℕ) → Memᴰ (k, var v) D.places → v < 8
  placed_low D l v k m = l v (Memᴰ.append_left _ (each_in (λ (p : ℕ × Expr). vars_of p.1) m (Memᴰ.head refl)))

  mutual
    small : (n : Node) → Sound vs n → ((v k : ℕ) → Memᴰ (k, var v) (demands_in n vs).places → v < 8)
        → ((c : Constraint) → Memᴰ c (demands_in n vs).tests → Below (vars_test c)) → Small n
    small (says e f) s l t = λ v m. let r = says_in_law v m in l v r.0 r.1
      where
        says_in_law : (v : ℕ) → Memᴰ v (vars_of e ++ vars_in f) → (k : ℕ) × Memᴰ (k, var v) ((principal, e) ∷ places vs f)
        says_in_law v m = ⊎_elim (λ a. head_in vs v principal e (places vs f) a) (λ a. let r = fact_in_law vs v f s a in (r.0, Memᴰ.tail r.1))
            (Memᴰ.append_cases (vars_of e) m)
    small (test c) s l t = t c (Memᴰ.head refl)
    small (all_of ns) s l t = small_all ns s l t
    small (any_of ns) s l t = small_all ns s.1 l t
    small (non n) s l t = small n s l t
    small (exists v n) s l t = (s.0, small n s.1 l t)

    small_all : (ns : Nodes) → SoundAll vs ns → ((v k : ℕ) → Memᴰ (k, var v) (demands_all ns vs).places → v < 8)
        → ((c : Constraint) → Memᴰ c (demands_all ns vs).tests → Below (vars_test c)) → SmallAll ns
    small_all end s l t = tt
    small_all (more n ns) s l t = (
      small n s.0 (λ v k m. l v k (Memᴰ.append_left _ m)) (λ c m. t c (Memᴰ.append_left _ m)),
      small_all ns s.1 (λ v k m. l v k (Memᴰ.append_right (demands_in n vs).places m)) (λ c m. t c (Memᴰ.append_right (demands_in n vs).tests m)),
    )

  pub node_small : (n : Node) → Sound vs n → ((v : ℕ) → Memᴰ v (occurring (demands_in n vs)) → v < 8) → Small n
  node_small n s l =
      small n s (placed_low (demands_in n vs) l)
      (λ c m v k. l v (Memᴰ.append_right (each (demands_in n vs).places (λ (p : ℕ × Expr). vars_of p.1)) (each_in vars_test m k)))

-- ---- the kinds of variables

frees_are : (vs : List ℕ) → marked vs none ≡ marks vs
frees_are vs =
    ext_get_or 0 (marked vs none) (marks vs) (marked_length vs none)
    (λ v h. let l : v < 8 = omega (arith, marked_length vs none) in mark_at vs v l ∙ sym (at_variable (λ v. cond (member v vs) 1 0) v l))

some_known : (o : Option (List ℕ)) (fs : List ℕ) → T (is_safe o fs) → (ws : List ℕ) × (o ≡ some ws)
some_known option.none fs t = absurd t
some_known (some ws) fs t = (ws, refl)

not_member : (v : ℕ) (l : List ℕ) → member v l ≡ false → Memᴰ v l → ⊥
not_member v l e m = subst T e (member_in m)

module _ (cs : List Constant) (vs : List Verb) (n : Node) (t : Cells) (S : State cs t (demands_in n vs)) (sound : Sound vs n)
    (safe : safe_request n ≡ true) where
  placed : (v : ℕ) → Memᴰ v (free n ++ binders n) → (k : ℕ) × Memᴰ (k, var v) (demands_in n vs).places
  placed v m =
      let a = and_of (is_safe (known n []) (free n) && apart (binders n)) _ (true_T _ safe) in
      let b = and_of (is_safe (known n []) (free n)) (apart (binders n)) a.0 in
      let k = some_known (known n []) (free n) b.0 in
      let w = told vs n sound [] k.0 k.1 in
      ⊎_elim
      (λ x. ⊎_elim (λ z. absurd (Memᴰ.not-nil z)) (λ p. p) (w.frees v x))
      (λ x. ⊎_elim (λ z. absurd (Memᴰ.not-nil z)) (λ p. p) (w.bounds v x))
      (Memᴰ.append_cases (free n) m)

  kind_at : (v : ℕ) → v < 8 → cell_kind t (marked (binders n) (marked (free n) none)) v ≡ kind_of (demands_in n vs).places v
  kind_at v l = rw (← marked_append (free n) (binders n) none, mark_is (free n ++ binders n) v l) (go (member v (free n ++ binders n)) refl)
    where
      ps : List (ℕ × Expr)
      ps = (demands_in n vs).places

      go : (b : Bool) → member v (free n ++ binders n) ≡ b → (if b then kind_in (slice_get t v) else 0) ≡ kind_of ps v
      go true e =
          let p = placed v (member_of v (free n ++ binders n) (true_T _ e)) in
          let h : kind_of ps v ≡ 0 → ⊥ = kind_some ps v p.0 (λ q m. (S.regular.places q m).0) p.1 in
          let c = kind_cell cs (demands_in n vs) S.regular S.asks S.alike t S.fed v h in
          rw c.1 c.2
      go false e =
          sym (kind_none ps v (λ k m. not_member v (free n ++ binders n) e
          (⊎_elim (Memᴰ.append_left _) (Memᴰ.append_right (free n)) (place_used vs n v k m))))

  pub kinds_are_law : cell_kinds t (marked (binders n) (marked (free n) none)) ≡ map (kind_of (demands_in n vs).places) variables
  kinds_are_law = same_variables (cell_kind t (marked (binders n) (marked (free n) none))) (kind_of (demands_in n vs).places) kind_at

-- ---- the answer

module _ {cs : List Constant} {vs : List Verb} {ks sg : List ℕ} (X : Tables cs vs ks sg) (s : List ℕ) where
  abbrev node : Node
  node = node_at vs s max_depth first_node_at

  -- an accepted node: safe or not
  module _ (e : ℕ) (t : Cells) (S : State cs t (demands_in node vs)) (sound : Sound vs node) where
    low : Small node
    low = node_small vs node sound (fits_low cs (demands_in node vs) S.regular (true_T _ (state_fits cs t (demands_in node vs) S)))

    abbrev judged : Judged
    judged = record { free = marked (free node) none; used = marked (binders node) (marked (free node) none) }

    judged_node : judged_in (tree_in sg s max_depth first_node_at) ≡ (if safe_request node then Some judged else None)
    judged_node = ap judged_in (tree_is X s max_depth first_node_at) ∙ judged_is node low

    accepted_is : said (accepted_in ks sg s (judged_in (tree_in sg s max_depth first_node_at)) t) ≡ answered vs (safely cs vs s (request_of cs vs s) e)
    unfolding safely handed_out
    accepted_is =
        by_bool (safe_request node)
        (λ o. rw (
          judged_node,
          choose_true (got (request_of cs vs s) e) (refused 7 first_node_at) o,
          o,
          ← kinds_are_law cs vs node t S sound o,
          ← frees_are (free node),
        ))
        (λ o. rw (judged_node, choose_false (got (request_of cs vs s) e) (refused 7 first_node_at) o, o))

  ended_is : (g : Result Reached Refusal) (x : Reading Demands) → Reads cs g x → check_node cs vs s max_depth no_demands first_node_at ≡ x
      → said (ended_in ks sg s g) ≡ answered vs (and_then x (λ D p. and_then (ended s (request_of cs vs s) p) (safely cs vs s)))
  unfolding and_then ended
  ended_is (Ok g) (got D e) r q =
      let c = node_checked vs cs s max_depth no_demands first_node_at D e q in
      let S : State cs g.cells (demands_in node vs) = subst (State cs g.cells) c.asked r.1 in
      rw r.0
      (by_bool (eqb e (length s))
      (λ o. rw (choose_true (got (request_of cs vs s) e) (refused 3 e) o, o) (accepted_is e g.cells S c.sound))
      (λ o. rw (choose_false (got (request_of cs vs s) e) (refused 3 e) o, o)))
  ended_is (Err g) (refused n p) r q = rw (r.0, r.1)
  ended_is (Ok g) (refused n p) r q = absurd r
  ended_is (Err g) (got D e) r q = absurd r

  two : (a b : Bool) (x y : Result Request Refusal) (u v : Reading syntax.Request) → said x ≡ answered vs u → said y ≡ answered vs v
      → said (if a || b then x else y) ≡ answered vs (choose a u (choose b u v))
  unfolding choose
  two true b x y u v p q = p
  two false true x y u v p q = p
  two false false x y u v p q = q

  whole_is : said (whole_in ks sg s) ≡ answered vs (request_from cs vs s)
  unfolding whole_in request_from
  whole_is =
      two (ltb (length s) first_node_at) (ltb max_day (u32_at s header_bytes)) _ _ (refused 3 header_bytes) _ refl
      (ended_is _ (check_node cs vs s max_depth no_demands first_node_at) (reads_node X s max_depth first_node_at nothing no_demands (state_none X s)) refl)

  -- THE LAW, where the header is refused, and where it is in order
  pub header_refused : (r : Refusal) → Refused (number_of r.reason) r.place ≡ headed_at version s → said (Err r) ≡ answered vs (read_request cs vs s)
  unfolding headed_at computed_request headed choose
  header_refused r = rw (plainly cs vs s) (go (version_there version s) (length_right s) (request_from cs vs s))
    where
      go : (a b : Bool) (x : Reading syntax.Request)
          → Refused (number_of r.reason) r.place ≡ (if a then (if b then Next header_bytes else Refused 2 length_at) else Refused 1 0)
          → said (Err r) ≡ answered vs (choose a (choose b x (refused 2 length_at)) (refused 1 0))
      go true true x h = cc
      go true false x h = cc
      go false b x h = cc

  pub header_right : (p : ℕ) → Next p ≡ headed_at version s → said (whole_in ks sg s) ≡ answered vs (read_request cs vs s)
  unfolding headed_at computed_request headed choose
  header_right p = rw (plainly cs vs s) (go (version_there version s) (length_right s))
    where
      go : (a b : Bool) → Next p ≡ (if a then (if b then Next header_bytes else Refused 2 length_at) else Refused 1 0)
          → said (whole_in ks sg s) ≡ answered vs (choose a (choose b (request_from cs vs s) (refused 2 length_at)) (refused 1 0))
      go true true h = whole_is
      go true false h = cc
      go false b h = cc
