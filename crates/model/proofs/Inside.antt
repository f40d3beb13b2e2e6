-- Each issuer in the reach says the same, in the same rounds, when assertions from outside it count too.
use mathlib.Core.Path.{◌≡◌, refl, sym, subst}
use mathlib.Core.Logic.{◌↔◌, inl, inr, ⊎_elim}
use mathlib.Core.List.Memᴰ
use mathlib.Core.List.{List, [], ◌∷◌, ◌++◌, map, Memᴰ}
use Prim.Native.Nat.{ℕ, zero, suc, ◌<◌}
use lib.ListN.{get_or}
use lib.Dec.{T, eqb, eqb_refl}
use Rattle.model.specs.Limits.{principal, unlimited, unbound}
use Rattle.model.specs.Lists.{each}
use Rattle.model.specs.Syntax.{Expr, con, var, today, Fact, flat, can_say, map_fact, subject, about, Verb, Assertion, Link, World, Said, said}
use Rattle.model.specs.Kinds.{kind_of, variables, places, pair, param_kinds}
use Rattle.model.specs.Versions.{carries, names_actors}
use Rattle.model.specs.Values.{bound, choices, bindings_of, kinds_of}
use Rattle.model.specs.Closure.{by, Within}
use Rattle.model.specs.Hierarchy.{Covers, phrase, nested}
use Rattle.model.specs.Rules.{Rule, cond, can_says, acts_as, covers}
use Rattle.model.specs.Reach.{names, Reach, named_by, joining}
use Rattle.model.specs.Reached.{issued_in, reach, counting}
use Rattle.model.specs.Inputs.{who}
use Rattle.model.proofs.ListFacts.{if_in, member_in, keep_of, keep_in}
use Rattle.model.proofs.ClosureFacts.{within_more}
use Rattle.model.proofs.BindingFacts.{bindings_of_law, at_variable}
use Rattle.model.proofs.StepFacts.{subject_about, rule_mono}
use Rattle.model.proofs.ReachFacts.{reach_in}
use Rattle.model.proofs.Tests.{T_true}

-- ---- bindings

-- a variable of an assertion is bound to a constant of its kind
bound_kind : (W : World) (a : Assertion) (v : ℕ) (θ : List ℕ) → v < 8 → Memᴰ θ (bindings_of W a)
    → Memᴰ (get_or θ v unbound) (choices W.constants (kinds_of W a v))
bound_kind W a v θ h m =
    rw (at_variable (kinds_of W a) v h) at ((bindings_of_law W.constants (map (kinds_of W a) variables) θ m).1 v h)

kind_here_law : (ps : List (ℕ × Expr)) (k v : ℕ) → kind_of ((k, var v) ∷ ps) v ≡ k
kind_here_law ps k v = rw (T_true (eqb v v) (eqb_refl v))

-- ---- what is said within the reach stays within it

-- an expression that may stand in a fact
abbrev pub Placed : Expr → Type 0
Placed (con c) = Unit {0}
Placed (var v) = v < 8
Placed today = ⊥

-- a fact that brings in its subject, in a version
abbrev Vouches : ℕ → Fact ℕ → Type 0
Vouches version (flat s zero ps) = T (names_actors version)
Vouches version (flat s (suc v) ps) = ⊥
Vouches version (can_say s d f) = Unit {0}

-- where acting as another makes someone vouch, the version has actors in the reach: it carries no more than it brings in
vouching_joins : (version b : ℕ) (f : Fact ℕ) → T (carries version f) → Vouches version (about b f) → T (names_actors version)
vouching_joins version b (flat s zero ps) t v = v
vouching_joins version b (flat s (suc n) ps) t v = absurd v
vouching_joins version b (can_say s d f) t v = t

abbrev what : Said → Fact ℕ
what (said a d f) = f

-- what is covered is about the same subject, and brings it in as before
covers_subject : {H : List Link} {f g : Fact ℕ} → Covers H f g → subject f ≡ subject g
covers_subject (phrase r) = refl
covers_subject (nested c) = refl

covers_vouches : {H : List Link} {f g : Fact ℕ} (version : ℕ) → Covers H f g → Vouches version g → Vouches version f
covers_vouches version (phrase {v = zero} r) v = v
covers_vouches version (phrase {v = suc n} r) v = v
covers_vouches version (nested c) v = tt

module _ (W : World) (asked : List ℕ) (𝒜 : List Assertion) (placed : (a : Assertion) → Memᴰ a 𝒜 → Placed (subject a.head)) where
  abbrev In : ℕ → Type 0
  In p = Reach W 𝒜 asked p

  joining_in : (a : Assertion) (θ : List ℕ) (e : Expr) → Memᴰ θ (bindings_of W a) → Placed e → ((v : ℕ) → e ≡ var v → kinds_of W a v ≡ principal)
      → Memᴰ (bound θ e) (joining W e)
  joining_in a θ (con c) m p k = Memᴰ.head refl
  joining_in a θ (var v) m p k = subst (λ (n : ℕ). Memᴰ (get_or θ v unbound) (choices W.constants n)) (k v refl) (bound_kind W a v θ p m)
  joining_in a θ today m p k = absurd p

  kind_subject : (vs : List Verb) (f : Fact Expr) (r : List (ℕ × Expr)) (v : ℕ) → subject f ≡ var v → kind_of (places vs f ++ r) v ≡ principal
  kind_subject vs (flat s n ps) r v e =
      let rest = pair (param_kinds vs n) ps ++ r in
      subst (λ (x : Expr). kind_of ((principal, x) ∷ rest) v ≡ principal) (sym e) (kind_here_law rest principal v)
  kind_subject vs (can_say s d f) r v e =
      subst (λ (x : Expr). kind_of ((principal, x) ∷ (places vs f ++ r)) v ≡ principal) (sym e) (kind_here_law (places vs f ++ r) principal v)

  -- the head's ground subject, where it is one that joins, is among those that the assertion brings in
  head_brings : (a : Assertion) (θ : List ℕ) (f : Fact Expr) → Memᴰ (bound θ (subject f)) (joining W (subject f))
      → Vouches W.version (map_fact (bound θ) f)
      → Memᴰ (subject (map_fact (bound θ) f)) (named_by W f)
  head_brings a θ (flat s zero ps) m v = if_in (names_actors W.version) v m
  head_brings a θ (flat s (suc n) ps) m v = absurd v
  head_brings a θ (can_say s d f) m v = m

  vouch_rule : {ps : List Said} {x : Said} → Rule W 𝒜 ps x → ((y : Said) → Memᴰ y ps → In (who y) → Vouches W.version (what y) → In (subject (what y)))
      → In (who x) → Vouches W.version (what x) → In (subject (what x))
  vouch_rule (cond {a} {d} {θ} m n o t) ih r v =
      let kinds = kind_subject W.verbs a.head (each a.body (places W.verbs)) in
      let subjects = joining_in a θ (subject a.head) o (placed a m) kinds in
      by (names m (head_brings a θ a.head subjects v)) (λ y e. subst In (sym (Memᴰ.eq_of_singleton e)) r)
  vouch_rule (can_says {a} {b} {k} {f}) ih r v =
      ih (said b k f) (Memᴰ.tail (Memᴰ.head refl)) (ih (said a unlimited (can_say b k f)) (Memᴰ.head refl) r tt) v
  vouch_rule (acts_as {a} {d} {b} {c} f t) ih r v =
      let joined = ih (said a d (flat b 0 (c ∷ []))) (Memᴰ.head refl) r (vouching_joins W.version b f t v) in
      subst In (sym (subject_about b f)) joined
  vouch_rule (covers {a} {d} {f} {g} c) ih r v = subst In (covers_subject c) (ih (said a d f) (Memᴰ.head refl) r (covers_vouches W.version c v))

  vouch : (n : ℕ) (x : Said) → Within (Rule W 𝒜) n x → In (who x) → Vouches W.version (what x) → In (subject (what x))
  vouch zero x w r v = absurd w
  vouch (suc n) x (inl w) r v = vouch n x w r v
  vouch (suc n) x (inr u) r v = vouch_rule u.1 (λ y e. vouch n y (u.2 y e)) r v

  abbrev counted : List Assertion
  counted = counting W 𝒜 asked

  inside_rule : {ps : List Said} {x : Said} → Rule W 𝒜 ps x → ((y : Said) → Memᴰ y ps → In (who y) → Vouches W.version (what y) → In (subject (what y)))
      → In (who x) → Rule W counted ps x × ((y : Said) → Memᴰ y ps → In (who y))
  inside_rule (cond {a} {d} {θ} m n o t) ih r = (
    cond (keep_in (issued_in (reach W 𝒜 asked)) m (member_in (reach_in W 𝒜 asked a.issuer r))) n o t,
    λ y e. let q = Memᴰ.of_map (λ (f : Fact Expr). said a.issuer d (map_fact (bound θ) f)) a.body e in subst (λ (z : Said). In (who z)) q.2 r,
  )
  inside_rule (can_says {a} {b} {k} {f}) ih r = (
    can_says,
    λ y e. ⊎_elim
        (λ (q : y ≡ said a unlimited (can_say b k f)). subst (λ (z : Said). In (who z)) (sym q) r)
        (λ (n : Memᴰ y (said b k f ∷ [])).
        let who-says = ih (said a unlimited (can_say b k f)) (Memᴰ.head refl) r tt in
        subst (λ (z : Said). In (who z)) (sym (Memᴰ.eq_of_singleton n)) who-says)
        (Memᴰ.cases_cons e),
  )
  inside_rule (acts_as {a} {d} {b} {c} f t) ih r = (
    acts_as f t,
    λ y e. ⊎_elim
        (λ (q : y ≡ said a d (flat b 0 (c ∷ []))). subst (λ (z : Said). In (who z)) (sym q) r)
        (λ (n : Memᴰ y (said a d (about c f) ∷ [])). subst (λ (z : Said). In (who z)) (sym (Memᴰ.eq_of_singleton n)) r)
        (Memᴰ.cases_cons e),
  )
  inside_rule (covers {a} {d} {f} {g} c) ih r = (covers c, λ y e. subst (λ (z : Said). In (who z)) (sym (Memᴰ.eq_of_singleton e)) r)

  inside_in : (n : ℕ) (x : Said) → In (who x) → Within (Rule W 𝒜) n x → Within (Rule W counted) n x
  inside_in zero x r w = w
  inside_in (suc n) x r (inl w) = inl (inside_in n x r w)
  inside_in (suc n) x r (inr u) =
      let z = inside_rule u.1 (λ y e. vouch n y (u.2 y e)) r in
      inr (u.0, z.0, λ y e. inside_in n y (z.1 y e) (u.2 y e))

  rule_more : (ps : List Said) (x : Said) → Rule W counted ps x → Rule W 𝒜 ps x
  rule_more = rule_mono W (λ a m. (keep_of (issued_in (reach W 𝒜 asked)) 𝒜 m).0)

  pub inside : (n : ℕ) (x : Said) → Reach W 𝒜 asked (who x) → Within (Rule W 𝒜) n x ↔ Within (Rule W counted) n x
  inside n x r = (inside_in n x r, within_more rule_more n x)
