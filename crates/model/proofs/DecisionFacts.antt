-- The decision on bytes: what it reports of an accepted policy and request, and where the answers stand.
use mathlib.Core.Path.{◌≡◌, refl, sym, ap, subst, ◌∙◌}
use mathlib.Core.List.{List, [], ◌∷◌, ◌++◌, Memᴰ, append_assoc}
use Prim.Native.Nat.{ℕ, zero, suc, ◌+◌, ◌*◌, ◌≤◌, ◌<◌, zero-le}
use native.Mathlib.Nat.{not-suc-le-zero, le_of_suc-le-suc}
use native.Mathlib.Omega.{arith}
use lib.ListN.{length, take, drop, get_or}
use lib.Seq.{take_at, drop_at, drop-drop}
use Rattle.model.specs.Limits.{answer_bytes}
use Rattle.model.specs.Lists.{sorted}
use Rattle.model.specs.Syntax.{Assertion, Withdrawal, Link, Policy, Request, Node, World, Read, world_in}
use Rattle.model.specs.Records.{key_of, answers_bytes}
use Rattle.model.specs.Meant.{Outcome}
use Rattle.model.specs.Rounds.{last_round}
use Rattle.model.specs.Deciding.{decide, read, counted_in}
use Rattle.model.specs.Bytes.{Reading, got, refused}
use Rattle.model.specs.Policies.{Accepted, policy_of, read_policy}
use Rattle.model.specs.Decision.{Slices, Lent, Taken, accepted, refused_on, request_under, withdrawals_under, hierarchy_under, sided}
use Rattle.model.specs.Decision.{read_slices, capacity, room, reported, decision_of, decision}
use Rattle.model.specs.Inputs.{ReadAs, AskedAs, WithdrawnAs, RankedAs, Inputs, InputsBySlice, answer_in}
use Rattle.model.proofs.RoundFacts as S
use Rattle.model.proofs.StepFacts.{steps_computed}
use Rattle.model.proofs.OutcomeFacts.{sorted_length, sorted_round, Result, over, many, fine, result, found}

-- ---- accepted inputs

accepted_same : (R S : Read) → accepted R ≡ accepted S → R ≡ S
accepted_same R S e = cc

not_accepted : (n side p : ℕ) (R : Read) → refused_on n side p ≡ accepted R → ⊥
not_accepted n side p R e = let z : ◌≡◌ {A = ℕ} 0 1 = cc in omega arith

sided_accepted : {A : Type 0} (side : ℕ) (r : Reading A) (next : A → Taken) (R : Read) → sided side r next ≡ accepted R
    → (a : A) × (e : ℕ) × (r ≡ got a e) × (next a ≡ accepted R)
unfolding sided
sided_accepted side (got a e) next R h = (a, e, refl, h)
sided_accepted side (refused n p) next R h = absurd (not_accepted n side p R h)

-- what is read after the withdrawals, after the request, and after the policy
abbrev pub after_withdrawals : Slices → Policy → Request → List Withdrawal → Taken
after_withdrawals s P q ws = sided 4 (hierarchy_under P s) (λ (H : List Link). accepted (read P q ws H))

abbrev pub after_request : Slices → Policy → Request → Taken
after_request s P q = sided 3 (withdrawals_under P s) (after_withdrawals s P q)

abbrev pub after_policy : Slices → Policy → Taken
after_policy s P = sided 2 (request_under P s) (after_request s P)

pub on_policy : (s : Slices) (P : Policy) → ReadAs s.policy P → read_slices s ≡ after_policy s P
unfolding read_slices sided
on_policy s P h = ap (λ (r : Reading Accepted). sided 1 r (λ (A : Accepted). after_policy s (policy_of A))) h.2 ∙ ap (after_policy s) h.3

pub on_request_law : (s : Slices) (P : Policy) (q : Request) → ReadAs s.policy P → AskedAs P s.request q → read_slices s ≡ after_request s P q
unfolding sided
on_request_law s P q h k = on_policy s P h ∙ ap (λ (r : Reading Request). sided 2 r (after_request s P)) k.1

pub on_withdrawals_law : (s : Slices) (P : Policy) (q : Request) (ws : List Withdrawal)
    → ReadAs s.policy P → AskedAs P s.request q → WithdrawnAs P s.withdrawals ws → read_slices s ≡ after_withdrawals s P q ws
unfolding sided
on_withdrawals_law s P q ws h k w = on_request_law s P q h k ∙ ap (λ (r : Reading (List Withdrawal)). sided 3 r (after_withdrawals s P q)) w.1

pub slice_by_slice_law : (s : Slices) (R : Read) → Inputs s R → InputsBySlice s R
unfolding read_slices
slice_by_slice_law s R h =
    let k = sided_accepted 1 (read_policy s.policy) (λ (A : Accepted). after_policy s (policy_of A)) R h in
    let P = policy_of k.0 in
    let m = sided_accepted 2 (request_under P s) (after_request s P) R k.3 in
    let w = sided_accepted 3 (withdrawals_under P s) (after_withdrawals s P m.0) R m.3 in
    let r = sided_accepted 4 (hierarchy_under P s) (λ (H : List Link). accepted (read P m.0 w.0 H)) R w.3 in
    let same = accepted_same (read P m.0 w.0 r.0) R r.3 in
    let policy = ap (λ (S : Read). S.policy) same in
    record {
      read_as = (k.0, k.1, k.2, policy);
      asked_as = subst (λ (P : Policy). AskedAs P s.request R.request) policy (m.1, m.2 ∙ ap (λ (S : Read). got S.request m.1) same);
      withdrawn_as = subst (λ (P : Policy). WithdrawnAs P s.withdrawals R.withdrawals) policy
          (w.1, w.2 ∙ ap (λ (S : Read). got S.withdrawals w.1) same);
      ranked_as = subst (λ (P : Policy). RankedAs P s.hierarchy R.hierarchy) policy (r.1, r.2 ∙ ap (λ (S : Read). got S.hierarchy r.1) same);
    }

pub of_slices : (s : Slices) (R : Read) → InputsBySlice s R → Inputs s R
unfolding sided
of_slices s R h =
    on_withdrawals_law s R.policy R.request R.withdrawals h.read_as h.asked_as h.withdrawn_as
    ∙ ap (λ (r : Reading (List Link)). sided 4 r (λ (H : List Link). accepted (read R.policy R.request R.withdrawals H))) h.ranked_as.1

pub reports : (l : Lent) (R : Read) → Inputs l.slices R
    → decision l ≡ reported (decide R (capacity l.fact_buffer) (room l.answer_buffer)) l
unfolding decision decision_of
reports l R h = ap (λ (t : Taken). decision_of t l) h

-- ---- rounds and facts, whatever the bytes

rounds_found : (W : World) (𝒜 : List Assertion) (n : Node) (c r : ℕ) → last_round (sorted key_of (found W 𝒜 n c r)) ≤ length (sorted key_of (found W 𝒜 n c r))
rounds_found W 𝒜 n c r =
    let h = S.rounds_le (steps_computed W 𝒜) (suc c) 0 in
    rw (sorted_round (found W 𝒜 n c r), sorted_length key_of (found W 𝒜 n c r)) (omega arith)

rounds_result : (W : World) (𝒜 : List Assertion) (n : Node) (c r : ℕ) (l : Lent) {o : Outcome} → Result W 𝒜 n c r o
    → (reported o l).rounds ≤ (reported o l).facts
rounds_result W 𝒜 n c r l (over h) = zero-le
rounds_result W 𝒜 n c r l (many h k) = rounds_found W 𝒜 n c r
rounds_result W 𝒜 n c r l (fine h k) = rounds_found W 𝒜 n c r

rounds_of : (t : Taken) (l : Lent) → (decision_of t l).rounds ≤ (decision_of t l).facts
unfolding decision_of
rounds_of (accepted R) l =
    let n = R.request.node in
    let c = capacity l.fact_buffer in
    let r = room l.answer_buffer in
    rounds_result (world_in R) (counted_in R) n c r l (result (world_in R) (counted_in R) n c r)
rounds_of (refused_on n side p) l = zero-le

pub rounds_facts : (l : Lent) → (decision l).rounds ≤ (decision l).facts
unfolding decision
rounds_facts l = rounds_of (read_slices l.slices) l

-- ---- where the answers stand

-- answer i of a list of answers of eight bytes each
pub answer_at : (A : List (List ℕ)) (rest : List ℕ) → ((θ : List ℕ) → Memᴰ θ A → length θ ≡ answer_bytes) → (i : ℕ) → i < length A
    → answer_in (answers_bytes A ++ rest) i ≡ get_or A i []
answer_at [] rest h i l = absurd (not-suc-le-zero l)
answer_at (θ ∷ A) rest h zero l = rw (append_assoc θ (answers_bytes A) rest) (take_at θ (answers_bytes A ++ rest) answer_bytes (h θ (Memᴰ.head refl)))
answer_at (θ ∷ A) rest h (suc i) l =
    let e : answer_bytes * suc i ≡ answer_bytes + answer_bytes * i = omega arith in
    let d : drop (answer_bytes * suc i) (answers_bytes (θ ∷ A) ++ rest) ≡ drop (answer_bytes * i) (answers_bytes A ++ rest) =
    ap (λ (k : ℕ). drop k (answers_bytes (θ ∷ A) ++ rest)) e
    ∙ (sym (drop-drop (answer_bytes * i) answer_bytes (answers_bytes (θ ∷ A) ++ rest))
    ∙ ap (drop (answer_bytes * i))
    (ap (drop answer_bytes) (append_assoc θ (answers_bytes A) rest) ∙ drop_at θ (answers_bytes A ++ rest) answer_bytes (h θ (Memᴰ.head refl)))) in
    ap (take answer_bytes) d ∙ answer_at A rest (λ η m. h η (Memᴰ.tail m)) i (le_of_suc-le-suc l)

module _ {X : Type 0} (d : X) where
  pub get_d_in : (l : List X) (i : ℕ) → i < length l → Memᴰ (get_or l i d) l
  get_d_in [] i h = absurd (not-suc-le-zero h)
  get_d_in (x ∷ l) zero h = Memᴰ.head refl
  get_d_in (x ∷ l) (suc i) h = Memᴰ.tail (get_d_in l i (le_of_suc-le-suc h))

  pub in_get_d : {x : X} {l : List X} → Memᴰ x l → (i : ℕ) × (i < length l) × (get_or l i d ≡ x)
  in_get_d (Memᴰ.head e) = (0, omega arith, sym e)
  in_get_d (Memᴰ.tail m) = let r = in_get_d m in (suc r.0, (let h = r.1 in omega arith), r.2)
