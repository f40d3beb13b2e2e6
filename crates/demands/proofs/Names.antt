-- The number of a label is that of the only constant that has it: the search ends at the first, and refusal 4 leaves no second.
use mathlib.Core.Path.{◌≡◌, refl, sym, ap, ap₂, subst, ◌∙◌}
use mathlib.Core.Logic.{◌⊎◌, inl, inr}
use mathlib.Core.Bool.{Bool, true, false, ◌&&◌, ◌||◌, false≢true}
use mathlib.Core.List.{List}
use Prim.Native.Nat.{ℕ, zero, suc, ◌+◌, ◌≤◌, ◌<◌}
use native.Mathlib.Omega.{arith}
use lib.ListN.{length, get_or, length-map}
use lib.Dec.{eqb}
use borrow.Author.Tests.{eqb-true, eq-eqb}
use Rattle.model.specs.Limits.{principal, thing}
use Rattle.model.specs.Syntax.{Constant, Policy}
use Rattle.model.specs.Kinds.{no_constant}
use Rattle.model.specs.Values.{alike}
use Rattle.model.specs.Bytes.{choose, Reading}
use Rattle.model.specs.Reader.{Item}
use Rattle.model.specs.Layout.{Accepted, policy_of, read_policy}
use Rattle.model.specs.Inputs.{ReadAs}
use Rattle.model.proofs.Tests.{and_true, by_eq}
use Rattle.model.proofs.ReadFacts.{accepted_count}
use Rattle.model.proofs.Alike.{alike_labels, one_label}
use Rattle.demands.specs.Lookups.{no_number, first_of, is_named, number_in}
use Rattle.demands.specs.Names as Q
use Rattle.demands.specs.Names.{Named, NumberOf}

-- ---- a search by number ends at the first that passes, or none passes

module _ (f : ℕ → Bool) where
  abbrev Found : ℕ → ℕ → ℕ → Type 0
  Found i n r = (i ≤ r) × (r < i + n) × (f r ≡ true)

  abbrev Nothing : ℕ → ℕ → ℕ → Type 0
  Nothing i n r = (r ≡ no_number) × ((j : ℕ) → i ≤ j → j < i + n → f j ≡ true → ⊥)

  first_is : (i n : ℕ) → Found i n (first_of f i n) ⊎ Nothing i n (first_of f i n)
  unfolding first_of choose
  first_is i zero = inr (refl, λ j h k t. omega arith)
  first_is i (suc n) = go (f i) refl (first_is (suc i) n)
    where
      on : (r : ℕ) → f i ≡ false → Found (suc i) n r ⊎ Nothing (suc i) n r → Found i (suc n) r ⊎ Nothing i (suc n) r
      on r e (inl h) = let a = h.0 in let b = h.1 in inl (omega arith, omega arith, h.2)
      on r e (inr h) = inr (h.0, λ j a b t. by_eq j i (λ q. false≢true (sym e ∙ ap f (sym q) ∙ t)) (λ q. h.1 j (omega arith) (omega arith) t))

      go : (b : Bool) → f i ≡ b → Found (suc i) n (first_of f (suc i) n) ⊎ Nothing (suc i) n (first_of f (suc i) n)
          → Found i (suc n) (choose b i (first_of f (suc i) n)) ⊎ Nothing i (suc n) (choose b i (first_of f (suc i) n))
      go true e h = inl (omega arith, omega arith, e)
      go false e h = on (first_of f (suc i) n) e h

-- ---- the constants of an accepted policy

module _ (policy : List ℕ) (P : Policy) (kind : ℕ) (label : List ℕ) (h : ReadAs policy P) where
  abbrev cs : List Constant
  cs = P.constants

  abbrev test : ℕ → Bool
  test i = is_named kind label (get_or cs i no_constant)

  few : length cs ≤ 255
  few = subst (λ (Q : Policy). length Q.constants ≤ 255) h.3 (accepted_count policy h.0 h.1 h.2)

  abbrev has : Bool
  has = eqb kind principal || eqb kind thing

  number_is : number_in (read_policy policy) kind label ≡ choose has (first_of test 0 (length cs)) no_number
  unfolding number_in
  number_is =
      ap (λ (r : Reading Accepted). number_in r kind label) h.2
      ∙ ap (λ (n : ℕ). choose has (first_of (λ i. is_named kind label (get_or (policy_of h.0).constants i no_constant)) 0 n) no_number)
      (sym (length-map h.0.constants (λ (i : Item Constant). i.of)))
      ∙ ap (λ (Q : Policy). choose has (first_of (λ i. is_named kind label (get_or Q.constants i no_constant)) 0 (length Q.constants)) no_number) h.3

  kind_of_law : has ≡ true → (kind ≡ principal) ⊎ (kind ≡ thing)
  kind_of_law e = go (eqb kind principal) (eqb kind thing) refl refl e
    where
      go : (a b : Bool) → eqb kind principal ≡ a → eqb kind thing ≡ b → (a || b) ≡ true → (kind ≡ principal) ⊎ (kind ≡ thing)
      go true b c d t = inl (eqb-true kind principal c)
      go false true c d t = inr (eqb-true kind thing d)
      go false false c d t = absurd (false≢true t)

  has_of : (kind ≡ principal) ⊎ (kind ≡ thing) → has ≡ true
  has_of (inl e) = ap (λ (k : ℕ). eqb k principal || eqb k thing) e
  has_of (inr e) = ap (λ (k : ℕ). eqb k principal || eqb k thing) e

  -- the test of the search
  named_in : (i : ℕ) → i < length cs → has ≡ true → test i ≡ true → Named P kind label i
  named_in i l k t =
      let c = get_or cs i no_constant in
      let a = and_true (eqb c.kind kind) (alike c.label label) t in
      record { there = l; labelled = kind_of_law k; same_kind = eqb-true c.kind kind a.0; same_label = a.1 }

  named_test : (i : ℕ) → Named P kind label i → test i ≡ true
  named_test i N = ap₂ (λ (a b : Bool). a && b) (eq-eqb _ _ N.same_kind) N.same_label

  -- by refusal 4 there is one at most
  named_one : (i j : ℕ) → Named P kind label i → Named P kind label j → i ≡ j
  named_one i j N M =
      let l = (get_or cs i no_constant).label in
      let r = (get_or cs j no_constant).label in
      let labelled = subst (λ (k : ℕ). (k ≡ principal) ⊎ (k ≡ thing)) (sym N.same_kind) N.labelled in
      one_label policy P h i j N.there M.there labelled (N.same_kind ∙ sym M.same_kind)
      (alike_labels.joined l label r N.same_label (alike_labels.turned r label M.same_label))

  -- the number is that of one that is named, or none is
  number_found : (n : ℕ) → n ≡ number_in (read_policy policy) kind label → Named P kind label n ⊎ ((n ≡ no_number) × ((i : ℕ) → Named P kind label i → ⊥))
  unfolding choose
  number_found n e = go has refl (e ∙ number_is) (first_is test 0 (length cs))
    where
      go : (b : Bool) → has ≡ b → n ≡ choose b (first_of test 0 (length cs)) no_number
          → Found test 0 (length cs) (first_of test 0 (length cs)) ⊎ Nothing test 0 (length cs) (first_of test 0 (length cs))
          → Named P kind label n ⊎ ((n ≡ no_number) × ((i : ℕ) → Named P kind label i → ⊥))
      go true b e (inl f) = inl (subst (Named P kind label) (sym e) (let l = f.1 in named_in _ (omega arith) b f.2))
      go true b e (inr f) = inr (e ∙ f.0, λ i N. let l = N.there in f.1 i (omega arith) (omega arith) (named_test i N))
      go false b e f = inr (e, λ i N. false≢true (sym b ∙ has_of N.labelled))

  number_of : (n : ℕ) → n ≡ number_in (read_policy policy) kind label → NumberOf P kind label n
  number_of n e = go (number_found n e)
    where
      go : Named P kind label n ⊎ ((n ≡ no_number) × ((i : ℕ) → Named P kind label i → ⊥)) → NumberOf P kind label n
      go (inl N) = record {
        found = λ i l. (λ q. subst (Named P kind label) q N, named_one n i N);
        none = (λ q. absurd (let l = N.there in let m = few in omega arith), λ q. absurd (q (n, N)));
      }
      go (inr w) = record {
        found = λ i l. (λ q. absurd (let z = w.0 in let m = few in omega arith), λ N. absurd (w.1 i N));
        none = (λ q N. w.1 N.0 N.1, λ q. w.0);
      }

pub the_number : Q.TheNumber
the_number policy P kind label n e h = number_of policy P kind label h n e
