-- Which side a verdict is of, and what it was read from.
use mathlib.Core.Path.{◌≡◌, refl, sym, ap, subst, ◌∙◌}
use mathlib.Core.Logic.{◌↔◌}
use mathlib.Core.List.{List, [], ◌∷◌, Memᴰ}
use Prim.Native.Nat.{ℕ, suc}
use native.Mathlib.Omega.{arith}
use Rattle.model.specs.Syntax.{Policy, Request, Withdrawal, Link, Read}
use Rattle.model.specs.Meant.{Outcome, too_many_facts, too_many_answers, decided}
use Rattle.model.specs.Deciding.{decide, read}
use Rattle.model.specs.Bytes.{Reading, got, refused}
use Rattle.model.specs.Policies.{Accepted, policy_of, read_policy}
use Rattle.model.specs.Decision.{Slices, Lent, Taken, accepted, refused_on, request_under, withdrawals_under, hierarchy_under, sided}
use Rattle.model.specs.Decision.{read_slices, Verdict, refusal, Report, capacity, room, word, untouched, reported, decision_of, decision}
use Rattle.model.specs.Inputs.{ReadAs, AskedAs, WithdrawnAs, Inputs}
use Rattle.theorems.specs.Theorems.{IsDecision}
use Rattle.model.proofs.ListFacts.{member_of}
use Rattle.model.proofs.DecisionFacts.{after_withdrawals, after_request, after_policy, on_policy, on_request_law, on_withdrawals_law}
use Rattle.demands.specs.Demands.{Answered}
use Rattle.demands.proofs.Numbers.{RefusesBy, of_policy, of_request, of_withdrawals, of_hierarchy}
use Rattle.demands.proofs.Numbers.{policy_numbers, request_numbers, withdrawals_numbers, hierarchy_numbers}

-- ---- verdicts differ

pub side_of : (m s p n t k : ℕ) → refusal m s p ≡ refusal n t k → s ≡ t
side_of m s p n t k e = cc

pub number_of : (m s p n t k : ℕ) → refusal m s p ≡ refusal n t k → m ≡ n
number_of m s p n t k e = cc

place_of : (m s p n t k : ℕ) → refusal m s p ≡ refusal n t k → p ≡ k
place_of m s p n t k e = cc

pub word_decides : (A : List (List ℕ)) → IsDecision (word A)
word_decides [] = tt
word_decides (θ ∷ A) = tt

-- a decision is no refusal
pub no_refusal : (v : Verdict) (n s p : ℕ) → IsDecision v → v ≡ refusal n s p → ⊥
no_refusal v n s p d e = subst IsDecision e d

-- what is reported of an outcome has side 0
reported_side : (o : Outcome) (l : Lent) (n s p : ℕ) → (reported o l).verdict ≡ refusal n (suc s) p → ⊥
reported_side too_many_facts l n s p e = let z = side_of 8 0 0 n (suc s) p e in omega arith
reported_side (too_many_answers F) l n s p e = let z = side_of 9 0 0 n (suc s) p e in omega arith
reported_side (decided F A) l n s p e = no_refusal (word A) n (suc s) p (word_decides A) e

-- ---- by what was read of the slices

of_side : (t : Taken) (l : Lent) (n s p : ℕ) → (decision_of t l).verdict ≡ refusal n (suc s) p → t ≡ refused_on n (suc s) p
unfolding decision_of
of_side (accepted R) l n s p e = absurd (reported_side (decide R (capacity l.fact_buffer) (room l.answer_buffer)) l n s p e)
of_side (refused_on m t k) l n s p e = λ i. refused_on (number_of m t k n (suc s) p e i) (side_of m t k n (suc s) p e i) (place_of m t k n (suc s) p e i)

of_kept : (t : Taken) (l : Lent) (n s p : ℕ) → t ≡ refused_on n s p → decision_of t l ≡ untouched n s p l
unfolding decision_of
of_kept t l n s p e = ap (λ (t : Taken). decision_of t l) e

of_accepted : (t : Taken) (l : Lent) → IsDecision (decision_of t l).verdict → (R : Read) × (t ≡ accepted R)
unfolding decision_of
of_accepted (accepted R) l d = (R, refl)
of_accepted (refused_on n s p) l d = absurd d

-- ---- slice by slice

refused_same : {A : Type 0} (m n p k : ℕ) → m ≡ n → p ≡ k → ◌≡◌ {A = Reading A} (refused m p) (refused n k)
refused_same m n p k e f = λ i. refused (e i) (f i)

taken_same : (m s p n t k : ℕ) → refused_on m s p ≡ refused_on n t k → (m ≡ n) × (s ≡ t) × (p ≡ k)
taken_same m s p n t k e = (cc, cc, cc)

not_refused : (R : Read) (n s p : ℕ) → accepted R ≡ refused_on n s p → ⊥
not_refused R n s p e = let z : ◌≡◌ {A = ℕ} 0 1 = cc in omega arith

module _ {A : Type 0} (side : ℕ) (next : A → Taken) where
  -- a refusal of this side is this slice's, where no later one has it
  sided_refused : (r : Reading A) (n p : ℕ) → ((a : A) → next a ≡ refused_on n side p → ⊥) → sided side r next ≡ refused_on n side p → r ≡ refused n p
  unfolding sided
  sided_refused (got a x) n p f e = absurd (f a e)
  sided_refused (refused m k) n p f e = let w = taken_same m side k n side p e in refused_same m n k p w.0 w.2

  sided_other : (r : Reading A) (n t p : ℕ) → (side ≡ t → ⊥) → ((a : A) → next a ≡ refused_on n t p → ⊥) → sided side r next ≡ refused_on n t p → ⊥
  unfolding sided
  sided_other (got a x) n t p d f e = f a e
  sided_other (refused m k) n t p d f e = d (taken_same m side k n t p e).1

  sided_answered : (r : Reading A) (l : Lent) (numbers : List ℕ) → RefusesBy numbers r
      → ((n p : ℕ) → Memᴰ n numbers → Answered (refusal n side p)) → ((a : A) → Answered (decision_of (next a) l).verdict)
      → Answered (decision_of (sided side r next) l).verdict
  unfolding sided decision_of
  sided_answered (got a x) l numbers w f g = g a
  sided_answered (refused n p) l numbers w f g = f n p (member_of n numbers w)

accepted_answered : (R : Read) (l : Lent) → Answered (decision_of (accepted R) l).verdict
unfolding decision_of
accepted_answered R l = go (decide R (capacity l.fact_buffer) (room l.answer_buffer))
  where
    said : (A : List (List ℕ)) → Answered (word A)
    said [] = tt
    said (θ ∷ A) = tt

    go : (o : Outcome) → Answered (reported o l).verdict
    go too_many_facts = (Memᴰ.head refl, refl)
    go (too_many_answers F) = (Memᴰ.tail (Memᴰ.head refl), refl)
    go (decided F A) = said A

-- ---- the decision

module _ (l : Lent) where
  abbrev s : Slices
  s = l.slices

  abbrev made : Report
  made = decision l

  pub made_answered : Answered made.verdict
  unfolding decision read_slices
  made_answered =
      sided_answered 1 (λ (A : Accepted). after_policy s (policy_of A)) (read_policy s.policy) l of_policy (policy_numbers s.policy) (λ n p m. m)
      (λ A. let P = policy_of A in
      sided_answered 2 (after_request s P) (request_under P s) l of_request (request_numbers P.constants P.verbs s.request) (λ n p m. m)
      (λ q. sided_answered 3 (after_withdrawals s P q) (withdrawals_under P s) l of_withdrawals
      (withdrawals_numbers P.constants s.withdrawals) (λ n p m. m)
      (λ ws. sided_answered 4 (λ (H : List Link). accepted (read P q ws H)) (hierarchy_under P s) l of_hierarchy
      (hierarchy_numbers P.constants P.verbs s.hierarchy) (λ n p m. m)
      (λ H. accepted_answered (read P q ws H) l))))

  -- what is read after a slice has none of the sides before
  last_side : (P : Policy) (q : Request) (ws : List Withdrawal) (n t p : ℕ) → (4 ≡ t → ⊥) → after_withdrawals s P q ws ≡ refused_on n t p → ⊥
  last_side P q ws n t p d =
      sided_other 4 (λ (H : List Link). accepted (read P q ws H)) (hierarchy_under P s) n t p d (λ H. not_refused (read P q ws H) n t p)

  later_sides : (P : Policy) (q : Request) (n t p : ℕ) → (3 ≡ t → ⊥) → (4 ≡ t → ⊥) → after_request s P q ≡ refused_on n t p → ⊥
  later_sides P q n t p d e = sided_other 3 (after_withdrawals s P q) (withdrawals_under P s) n t p d (λ ws. last_side P q ws n t p e)

  pub policy_kept : (n p : ℕ) → read_policy s.policy ≡ refused n p → made ≡ untouched n 1 p l
  unfolding decision read_slices sided
  policy_kept n p e = of_kept (read_slices s) l n 1 p (ap (λ (r : Reading Accepted). sided 1 r (λ (A : Accepted). after_policy s (policy_of A))) e)

  pub policy_side_law : (n p : ℕ) → (made.verdict ≡ refusal n 1 p) ↔ (read_policy s.policy ≡ refused n p)
  unfolding decision read_slices
  policy_side_law n p = (
    λ e. sided_refused 1 (λ (A : Accepted). after_policy s (policy_of A)) (read_policy s.policy) n p
        (λ A. let P = policy_of A in sided_other 2 (after_request s P) (request_under P s) n 1 p (λ z. omega arith)
        (λ q. later_sides P q n 1 p (λ z. omega arith) (λ z. omega arith))) (of_side (read_slices s) l n 0 p e),
    λ e. ap (λ (ρ : Report). ρ.verdict) (policy_kept n p e),
  )

  pub request_kept : (P : Policy) → ReadAs s.policy P → (n p : ℕ) → request_under P s ≡ refused n p → made ≡ untouched n 2 p l
  unfolding decision sided
  request_kept P h n p e =
      of_kept (read_slices s) l n 2 p (on_policy s P h ∙ ap (λ (r : Reading Request). sided 2 r (after_request s P)) e)

  pub request_side_law : (P : Policy) → ReadAs s.policy P → (n p : ℕ) → (made.verdict ≡ refusal n 2 p) ↔ (request_under P s ≡ refused n p)
  unfolding decision
  request_side_law P h n p = (
    λ e. sided_refused 2 (after_request s P) (request_under P s) n p (λ q. later_sides P q n 2 p (λ z. omega arith) (λ z. omega arith))
        (sym (on_policy s P h) ∙ of_side (read_slices s) l n 1 p e),
    λ e. ap (λ (ρ : Report). ρ.verdict) (request_kept P h n p e),
  )

  module _ (P : Policy) (q : Request) (h : ReadAs s.policy P) (k : AskedAs P s.request q) where
    pub withdrawals_kept : (n p : ℕ) → withdrawals_under P s ≡ refused n p → made ≡ untouched n 3 p l
    unfolding decision sided
    withdrawals_kept n p e =
        of_kept (read_slices s) l n 3 p (on_request_law s P q h k ∙ ap (λ (r : Reading (List Withdrawal)). sided 3 r (after_withdrawals s P q)) e)

    pub withdrawals_side_law : (n p : ℕ) → (made.verdict ≡ refusal n 3 p) ↔ (withdrawals_under P s ≡ refused n p)
    unfolding decision
    withdrawals_side_law n p = (
      λ e. sided_refused 3 (after_withdrawals s P q) (withdrawals_under P s) n p (λ ws. last_side P q ws n 3 p (λ z. omega arith))
          (sym (on_request_law s P q h k) ∙ of_side (read_slices s) l n 2 p e),
      λ e. ap (λ (ρ : Report). ρ.verdict) (withdrawals_kept n p e),
    )

    module _ (ws : List Withdrawal) (w : WithdrawnAs P s.withdrawals ws) where
      pub hierarchy_kept : (n p : ℕ) → hierarchy_under P s ≡ refused n p → made ≡ untouched n 4 p l
      unfolding decision sided
      hierarchy_kept n p e =
          of_kept (read_slices s) l n 4 p (on_withdrawals_law s P q ws h k w
          ∙ ap (λ (r : Reading (List Link)). sided 4 r (λ (H : List Link). accepted (read P q ws H))) e)

      pub hierarchy_side_law : (n p : ℕ) → (made.verdict ≡ refusal n 4 p) ↔ (hierarchy_under P s ≡ refused n p)
      unfolding decision
      hierarchy_side_law n p = (
        λ e. sided_refused 4 (λ (H : List Link). accepted (read P q ws H)) (hierarchy_under P s) n p (λ H. not_refused (read P q ws H) n 4 p)
            (sym (on_withdrawals_law s P q ws h k w) ∙ of_side (read_slices s) l n 3 p e),
        λ e. ap (λ (ρ : Report). ρ.verdict) (hierarchy_kept n p e),
      )

  -- a decision is on inputs that were accepted
  pub was_accepted : IsDecision made.verdict → (R : Read) × Inputs s R
  unfolding decision
  was_accepted d = of_accepted (read_slices s) l d
