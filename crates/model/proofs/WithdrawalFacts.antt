-- What is left of a policy's assertions, and what it does not depend on.
use mathlib.Core.Path.{◌≡◌, refl, sym, ap, ap₂, subst, ◌∙◌}
use mathlib.Core.Logic.{◌↔◌}
use mathlib.Core.List.{List, [], ◌∷◌, ◌++◌, map, Memᴰ}
use mathlib.Core.Bool.{Bool, true, false, ◌&&◌}
use Prim.Native.Nat.{ℕ}
use lib.ListN.{length}
use lib.Dec.{T, T_not, not_T, eqb, ltb, eqb→eq, eqb_refl}
use Rattle.model.specs.Lists.{keep, only, any, all, each, sorted}
use Rattle.model.specs.Syntax.{Expr, con, var, today, Constraint, Assertion, Withdrawal, World, Node, Said, Read, world_in}
use Rattle.model.specs.Values.{passes}
use Rattle.model.specs.Requests.{issuers}
use Rattle.model.specs.Withdrawals.{is_constant, no_binding, removes, stays, left, left_in}
use Rattle.model.specs.Meant.{Outcome}
use Rattle.model.specs.Rounds.{table}
use Rattle.model.specs.Steps.{step, eq_said, by_cond, by_can_say, by_act_as, by_hierarchy}
use Rattle.model.specs.Reached.{issued_in, brings, join, named, reach, counting}
use Rattle.model.specs.Records.{Entry, key_of}
use Rattle.model.specs.Judging.{answers_of}
use Rattle.model.specs.Deciding.{listed, chosen, outcome, counted_in}
use Rattle.model.specs.Inputs.{Adds, done, keeps, adds, without_serial}
use Rattle.model.proofs.ListFacts.{and_of, and_in, eqb_in, any_of_law, any_in, all_of_law, all_in, keep_of, keep_in}

-- ---- what is left is some of the policy's assertions

pub left_in_law : (R : Read) (a : Assertion) → Memᴰ a (left_in R) → Memᴰ a R.policy.assertions
left_in_law R a m = (keep_of (stays (world_in R) R.withdrawals) R.policy.assertions m).0

-- an assertion is left exactly if no entry has its issuer, its serial, and constraints that all hold
module _ (W : World) (a : Assertion) where
  abbrev Stays : List Withdrawal → Type 0
  Stays ws = (w : Withdrawal) → Memᴰ w ws → w.issuer ≡ con a.issuer → w.serial ≡ a.serial
      → ¬ ((c : Constraint) → Memᴰ c w.tests → T (passes W no_binding c))

  names_it : (w : Withdrawal) → T (is_constant w.issuer a.issuer) → w.issuer ≡ con a.issuer
  names_it w t = go w.issuer t
    where
      go : (e : Expr) → T (is_constant e a.issuer) → e ≡ con a.issuer
      go (con c) t = ap con (eqb→eq c a.issuer t)
      go (var v) t = absurd t
      go today t = absurd t

  removes_of : (w : Withdrawal) → T (removes W a.issuer a.serial w) → (w.issuer ≡ con a.issuer) × (w.serial ≡ a.serial)
      × ((c : Constraint) → Memᴰ c w.tests → T (passes W no_binding c))
  removes_of w t =
      let x = and_of (is_constant w.issuer a.issuer && eqb w.serial a.serial) (all (passes W no_binding) w.tests) t in
      let y = and_of (is_constant w.issuer a.issuer) (eqb w.serial a.serial) x.0 in
      (names_it w y.0, eqb→eq w.serial a.serial y.1, λ c m. all_of_law (passes W no_binding) x.1 m)

  removes_in : (w : Withdrawal) → w.issuer ≡ con a.issuer → w.serial ≡ a.serial
      → ((c : Constraint) → Memᴰ c w.tests → T (passes W no_binding c)) → T (removes W a.issuer a.serial w)
  removes_in w e f h =
      let named : T (is_constant w.issuer a.issuer) = subst (λ (x : Expr). T (is_constant x a.issuer)) (sym e) (eqb_refl a.issuer) in
      and_in (is_constant w.issuer a.issuer && eqb w.serial a.serial) (all (passes W no_binding) w.tests)
      (and_in (is_constant w.issuer a.issuer) (eqb w.serial a.serial) named (eqb_in f)) (all_in (passes W no_binding) w.tests h)

  stays↔ : (ws : List Withdrawal) → T (stays W ws a) ↔ Stays ws
  stays↔ ws = (
    λ t w m e f h. T_not (any (removes W a.issuer a.serial) ws) t (any_in (removes W a.issuer a.serial) m (removes_in w e f h)),
    λ h. not_T (any (removes W a.issuer a.serial) ws) (λ t.
        let r = any_of_law (removes W a.issuer a.serial) ws t in
        let x = removes_of r.0 r.2 in
        h r.0 r.1 x.0 x.1 x.2),
  )

  pub left↔ : (ws : List Withdrawal) (𝒜 : List Assertion) → Memᴰ a (left W ws 𝒜) ↔ (Memᴰ a 𝒜 × Stays ws)
  left↔ ws 𝒜 = (
    λ m. let k = keep_of (stays W ws) 𝒜 m in (k.0, (stays↔ ws).0 k.1),
    λ k. keep_in (stays W ws) k.0 ((stays↔ ws).1 k.1),
  )

-- what counts is some of what is left
pub counted_left : (R : Read) (a : Assertion) → Memᴰ a (counted_in R) → Memᴰ a (left_in R)
counted_left R a m = (keep_of (issued_in (reach (world_in R) (left_in R) (issuers R.request.node (world_in R)))) (left_in R) m).0

pub counted_in_law : (R : Read) (a : Assertion) → Memᴰ a (counted_in R) → Memᴰ a R.policy.assertions
counted_in_law R a m = left_in_law R a (counted_left R a m)

-- without entries all are left
pub left_all : (W : World) (𝒜 : List Assertion) → left W [] 𝒜 ≡ 𝒜
left_all W [] = refl
left_all W (a ∷ 𝒜) = ap (λ (l : List Assertion). a ∷ l) (left_all W 𝒜)

-- of added assertions, those that pass a test are added to those that pass
pub adds_kept : (p : Assertion → Bool) {Q : Assertion → Type 0} {𝒜 ℬ : List Assertion} → Adds Q 𝒜 ℬ → Adds Q (keep p 𝒜) (keep p ℬ)
adds_kept p done = done
adds_kept p {Q} (keeps a {𝒜} {ℬ} s) = go (p a) (adds_kept p s)
  where
    go : (b : Bool) → Adds Q (keep p 𝒜) (keep p ℬ) → Adds Q (only b a ++ keep p 𝒜) (only b a ++ keep p ℬ)
    go true k = keeps a k
    go false k = k
adds_kept p {Q} (adds {a} {𝒜} {ℬ} q s) = go (p a) (adds_kept p s)
  where
    go : (b : Bool) → Adds Q (keep p 𝒜) (keep p ℬ) → Adds Q (keep p 𝒜) (only b a ++ keep p ℬ)
    go true k = adds q k
    go false k = k

-- ---- neither the reach nor the rules look at a serial

module _ (W : World) where
  abbrev bare : List Assertion → List Assertion
  bare 𝒜 = map without_serial 𝒜

  keep_bare : (set : List ℕ) (𝒜 : List Assertion) → keep (issued_in set) (bare 𝒜) ≡ bare (keep (issued_in set) 𝒜)
  keep_bare set [] = refl
  keep_bare set (a ∷ 𝒜) = go (issued_in set a) (keep_bare set 𝒜)
    where
      go : (b : Bool) → keep (issued_in set) (bare 𝒜) ≡ bare (keep (issued_in set) 𝒜)
          → only b (without_serial a) ++ keep (issued_in set) (bare 𝒜) ≡ bare (only b a ++ keep (issued_in set) 𝒜)
      go true e = ap (λ (l : List Assertion). without_serial a ∷ l) e
      go false e = e

  each_bare : {B : Type 0} (f : Assertion → List B) → ((a : Assertion) → f (without_serial a) ≡ f a) → (𝒜 : List Assertion) → each (bare 𝒜) f ≡ each 𝒜 f
  each_bare f h [] = refl
  each_bare f h (a ∷ 𝒜) = ap₂ (λ x y. x ++ y) (h a) (each_bare f h 𝒜)

  join_bare : (𝒜 : List Assertion) (asked set : List ℕ) → join W (bare 𝒜) asked set ≡ join W 𝒜 asked set
  join_bare 𝒜 asked set =
      ap (λ (l : List Assertion). asked ++ each l (brings W)) (keep_bare set 𝒜)
      ∙ ap (λ (l : List ℕ). asked ++ l) (each_bare (brings W) (λ a. refl) (keep (issued_in set) 𝒜))

  reach_bare : (𝒜 : List Assertion) (asked : List ℕ) → reach W (bare 𝒜) asked ≡ reach W 𝒜 asked
  reach_bare 𝒜 asked =
      let joins : join W (bare 𝒜) asked ≡ join W 𝒜 asked = λ i set. join_bare 𝒜 asked set i in
      let all : named W (bare 𝒜) asked ≡ named W 𝒜 asked = ap (λ (l : List ℕ). asked ++ l) (each_bare (brings W) (λ a. refl) 𝒜) in
      λ i. map (λ (e : ℕ × ℕ). e.1) (table eqb (joins i) (length (all i)))

  counting_bare : (𝒜 : List Assertion) (asked : List ℕ) → counting W (bare 𝒜) asked ≡ bare (counting W 𝒜 asked)
  counting_bare 𝒜 asked =
      ap (λ (set : List ℕ). keep (issued_in set) (bare 𝒜)) (reach_bare 𝒜 asked) ∙ keep_bare (reach W 𝒜 asked) 𝒜

  step_bare : (𝒜 : List Assertion) (xs : List Said) → step W (bare 𝒜) xs ≡ step W 𝒜 xs
  step_bare 𝒜 xs =
      ap (λ (l : List Said). l ++ (each xs (by_can_say W xs) ++ (each xs (by_act_as W xs) ++ each xs (by_hierarchy W))))
      (each_bare (by_cond W xs) (λ a. refl) 𝒜)

  outcome_bare : (𝒜 : List Assertion) (n : Node) (c r : ℕ) → outcome W (bare 𝒜) n c r ≡ outcome W 𝒜 n c r
  outcome_bare 𝒜 n c r =
      let steps : step W (bare 𝒜) ≡ step W 𝒜 = λ i xs. step_bare 𝒜 xs i in
      let found : table eq_said (step W (bare 𝒜)) c ≡ table eq_said (step W 𝒜) c = λ i. table eq_said (steps i) c in
      ap (of n c r) found
    where
      -- as in `outcome`, by what was found
      of : Node → ℕ → ℕ → List Entry → Outcome
      of n c r F = let answers = answers_of W n (listed F) in chosen (ltb c (length F)) (ltb r (length answers)) (sorted key_of F) answers

  -- lists that are alike but for serials
  pub serials_aside_law : (𝒜 ℬ : List Assertion) (asked : List ℕ) (n : Node) (c r : ℕ) → bare 𝒜 ≡ bare ℬ
      → outcome W (counting W 𝒜 asked) n c r ≡ outcome W (counting W ℬ asked) n c r
  serials_aside_law 𝒜 ℬ asked n c r e =
      sym (outcome_bare (counting W 𝒜 asked) n c r)
      ∙ (ap (λ (l : List Assertion). outcome W l n c r) (sym (counting_bare 𝒜 asked) ∙ (ap (λ (l : List Assertion). counting W l asked) e
      ∙ counting_bare ℬ asked))
      ∙ outcome_bare (counting W ℬ asked) n c r)
