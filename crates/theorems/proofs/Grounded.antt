-- Every derived statement is ground: each number in it is a constant of its place's kind. By induction on the derivation; of an instance its binding says so.
use mathlib.Core.Path.{◌≡◌, refl, sym, ap₂, ◌∙◌}
use mathlib.Core.List.{List, [], ◌∷◌, map, Memᴰ}
use mathlib.Core.Bool.{false}
use Prim.Native.Nat.{ℕ, ◌<◌, ◌≤◌}
use native.Mathlib.Omega.{arith}
use lib.ListN.{length, get_or}
use lib.Dec.{T, eqb, leb, leb→le, eqb→eq}
use Rattle.model.specs.Limits.{principal, quantity, unlimited, unbound, can_act_as}
use Rattle.model.specs.Lists.{all, member}
use Rattle.model.specs.Syntax.{Expr, con, var, today, Fact, flat, can_say, map_fact, about, Assertion, Constant, Verb}
use Rattle.model.specs.Syntax.{Policy, World, Read, world_in, Said, said, vars_of}
use Rattle.model.specs.Kinds.{kind_at, param_kinds, Demands, demands_of, places, pair, in_place, comparable, fitting}
use Rattle.model.specs.Values.{bound}
use Rattle.theorems.specs.Binding.{Fits, Binds, in_places}
use Rattle.model.specs.Closure.{by}
use Rattle.model.specs.Rules.{Rule, cond, can_says, acts_as, covers}
use Rattle.model.specs.Records.{Arity}
use Rattle.model.specs.Deciding.{counted_in}
use Rattle.model.specs.Forms.{is_kind}
use Rattle.model.specs.Inputs.{ReadAs, RankedAs, DerivableIn, GroundFact, GroundSaid}
use Rattle.model.proofs.ListFacts.{and_of, all_of_law, each_in, eqb_in, or_left, member_of, member_in}
use Rattle.model.proofs.ReadFacts.{Fine, policy_fine}
use Rattle.model.proofs.WithdrawalFacts.{counted_in_law}
use Rattle.theorems.proofs.ProperRequests.{policy_kinded}
use Rattle.theorems.proofs.BoundVariables.{kinded_at, facts_kinded, instances}
use Rattle.model.proofs.ByteFacts.{below_length}
use Rattle.model.proofs.LinkFacts.{links_fit, covers_ground}

some_kind : (k : ℕ) → T (is_kind k) → ¬ (k ≡ 0)
some_kind k i z = let o : 1 ≤ k = leb→le 1 k (and_of (leb 1 k) (leb k quantity) i).0 in omega arith

-- ---- under a binding that binds, what stands in a place of a kind is a constant of that kind

module _ (cs : List Constant) (κ θ : List ℕ) (l : length κ ≡ 8) where
  in_place_law : (k : ℕ) (e : Expr) → T (is_kind k) → T (in_place cs κ (k, e))
      → ((v : ℕ) → v < 8 → T (member v (vars_of e)) → kind_at cs (get_or θ v unbound) ≡ get_or κ v 0) → kind_at cs (bound θ e) ≡ k
  in_place_law k (con c) i t h = eqb→eq (kind_at cs c) k t
  in_place_law k today i t h = absurd t
  in_place_law k (var v) i t h =
      let e = eqb→eq (get_or κ v 0) k t in
      h v (below_length κ 8 l v (λ z. some_kind k i (sym e ∙ z))) (or_left (eqb v v) false (eqb_in {m = v} {n = v} refl)) ∙ e

module _ (cs : List Constant) (vs : List Verb) (θ : List ℕ) where
  params_ground : (ks : List ℕ) (es : List Expr) → length es ≡ length ks
      → ((p : ℕ × Expr) → Memᴰ p (pair ks es) → kind_at cs (bound θ p.1) ≡ p.0) → map (kind_at cs) (map (bound θ) es) ≡ ks
  params_ground [] [] a h = refl
  params_ground [] (e ∷ es) a h = absurd (omega arith)
  params_ground (k ∷ ks) [] a h = absurd (omega arith)
  params_ground (k ∷ ks) (e ∷ es) a h =
      ap₂ (λ (c : ℕ) (r : List ℕ). c ∷ r) (h (k, e) (Memᴰ.head refl)) (params_ground ks es (omega arith) (λ p m. h p (Memᴰ.tail m)))

  fact_ground : (f : Fact Expr) → Arity vs f → ((p : ℕ × Expr) → Memᴰ p (places vs f) → kind_at cs (bound θ p.1) ≡ p.0)
      → GroundFact cs vs (map_fact (bound θ) f)
  fact_ground (flat s v ps) a h = (h (principal, s) (Memᴰ.head refl), params_ground (param_kinds vs v) ps a (λ p m. h p (Memᴰ.tail m)))
  fact_ground (can_say s d f) a h = (h (principal, s) (Memᴰ.head refl), fact_ground f a (λ p m. h p (Memᴰ.tail m)))

-- another subject who is a principal
about_ground : (cs : List Constant) (vs : List Verb) (b c : ℕ) (f : Fact ℕ) → kind_at cs b ≡ principal → GroundFact cs vs (about c f)
    → GroundFact cs vs (about b f)
about_ground cs vs b c (flat s v ps) e g = (e, g.1)
about_ground cs vs b c (can_say s d f) e g = (e, g.1)

-- ---- the rules

module _ (policy hierarchy : List ℕ) (R : Read) (r : ReadAs policy R.policy) (k : RankedAs R.policy hierarchy R.hierarchy) where
  abbrev P : Policy
  P = R.policy

  abbrev cs : List Constant
  cs = P.constants

  abbrev vs : List Verb
  vs = P.verbs

  abbrev W : World
  W = world_in R

  fine : (a : Assertion) → Memᴰ a P.assertions → Fine cs vs a
  fine = policy_fine policy P r

  -- an instance's head
  head_ground : (a : Assertion) → Memᴰ a P.assertions → (θ κ : List ℕ) → Fits cs (demands_of vs a) κ → Binds cs κ (in_places (demands_of vs a)) θ
      → GroundFact cs vs (map_fact (bound θ) a.head)
  head_ground a m θ κ f b = fact_ground cs vs θ a.head (fine a m).arity
      (λ p i. at p (each_in (places vs) {x = a.head} {xs = a.head ∷ a.body} (Memᴰ.head refl) i))
    where
      D : Demands
      D = demands_of vs a

      at : (p : ℕ × Expr) → Memᴰ p D.places → kind_at cs (bound θ p.1) ≡ p.0
      at p i =
          in_place_law cs κ θ f.0 p.0 p.1 (all_of_law kinded_at (facts_kinded vs (policy_kinded policy P r) (a.head ∷ a.body)) i)
          (all_of_law (in_place cs κ) (and_of (all (in_place cs κ) D.places) (all (comparable cs κ) D.tests) f.2).0 i)
          (λ v l t. (b.1 v l).0 (member_in (each_in (λ (x : ℕ × Expr). vars_of x.1) i (member_of v (vars_of p.1) t))))

  rule_ground : {ps : List Said} {x : Said} → Rule W (counted_in R) ps x → ((y : Said) → Memᴰ y ps → GroundSaid W y) → GroundSaid W x
  rule_ground (cond {a} {d} {θ} m n o t) h =
      let i = counted_in_law R a m in
      let w = (instances policy P r R.request.today a i θ).0 o in
      let e = (and_of (eqb (kind_at cs a.issuer) principal) (fitting cs (demands_of vs a)) (fine a i).fit).0 in
      (eqb→eq (kind_at cs a.issuer) principal e, n, head_ground a i θ w.0 w.1 w.2)
  rule_ground (can_says {a} {b} {k} {f}) h =
      let g = h (said a unlimited (can_say b k f)) (Memᴰ.head refl) in
      (g.0, g.1, g.2.1)
  rule_ground (acts_as {a} {d} {b} {c} f v) h =
      let g = h (said a d (flat b can_act_as (c ∷ []))) (Memᴰ.head refl) in
      let k = h (said a d (about c f)) (Memᴰ.tail (Memᴰ.head refl)) in
      (g.0, g.1, about_ground cs vs b c f g.2.0 k.2)
  rule_ground (covers {a} {d} {f} c) h =
      let g = h (said a d f) (Memᴰ.head refl) in
      (g.0, g.1, covers_ground cs vs R.hierarchy (links_fit cs vs hierarchy R.hierarchy k.0 k.1) c g.2)

  pub grounded : (x : Said) → DerivableIn R x → GroundSaid W x
  grounded x (by r h) = rule_ground r (λ y e. grounded y (h y e))
