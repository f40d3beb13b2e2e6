-- Withdrawals: a policy with entries is the one without what they withdraw, and serials alone change no call.
use mathlib.Core.Path.{◌≡◌, refl, sym, ap, ◌∙◌}
use mathlib.Core.List.{List, []}
use Prim.Native.Nat.{ℕ}
use Rattle.model.specs.Syntax.{Assertion, Withdrawal, Constant, Policy, Node, World, world_of, with_hierarchy, Read, world_in}
use Rattle.model.specs.Requests.{issuers}
use Rattle.model.specs.Withdrawals.{left, left_in}
use Rattle.model.specs.Bytes.{u16_at, u32_at, choose, got, and_then}
use Rattle.model.specs.Reader.{byte, u16, items, list}
use Rattle.model.specs.Layout.{slice, read_withdrawals}
use Rattle.model.specs.Meant.{Outcome}
use Rattle.model.specs.Reached.{counting}
use Rattle.model.specs.Deciding.{outcome, decide, read}
use Rattle.model.specs.Decision.{Lent}
use Rattle.theorems.specs.Theorems as Q
use Rattle.model.specs.Inputs.{Inputs, InputsBySlice, without_entries}
use Rattle.theorems.specs.Theorems.{with_policy, with_withdrawals, with_assertions}
use Rattle.model.proofs.WithdrawalFacts.{left_all, serials_aside_law}
use Rattle.model.proofs.DecisionFacts.{slice_by_slice_law, of_slices}
use Rattle.theorems.proofs.Added.{another, with_policy_law, same_world, same_report}

-- the slice without entries is accepted by whatever constants
no_entries : (cs : List Constant) → read_withdrawals cs without_entries ≡ got [] 7
unfolding read_withdrawals slice list items u16 byte u32_at u16_at choose and_then
no_entries cs = refl

pub nothing_withdrawn : Q.NothingWithdrawn
nothing_withdrawn s P q H e a k r = (
  of_slices s (read P q [] H)
      (record { read_as = a; asked_as = k; withdrawn_as = (7, ap (read_withdrawals P.constants) e ∙ no_entries P.constants); ranked_as = r }),
  left_all (with_hierarchy H (world_of P q)) P.assertions,
)

-- L is the policy of R but for its assertions
module _ (R : Read) (L : Policy) {𝒜 ℬ : List Assertion} (e : with_assertions 𝒜 L ≡ with_assertions ℬ R.policy) where
  same_constants : L.constants ≡ R.policy.constants
  same_constants = ap (λ (P : Policy). P.constants) e

  same_verbs : L.verbs ≡ R.policy.verbs
  same_verbs = ap (λ (P : Policy). P.verbs) e

  in_world : world_in (another R L) ≡ world_in R
  in_world = same_world R L same_constants same_verbs (ap (λ (P : Policy). P.version) e)

  same_lists : 𝒜 ≡ ℬ
  same_lists = ap (λ (P : Policy). P.assertions) e

pub withdrawn_is_absent : Q.WithdrawnIsAbsent
withdrawn_is_absent l other R L h a e = same_report l l'.slices R R' h inputs same
  where
    l' : Lent
    l' = with_withdrawals without_entries (with_policy other l)

    R' : Read
    R' = read L R.request [] R.hierarchy

    others : InputsBySlice (with_policy other l).slices (another R L)
    others = slice_by_slice_law (with_policy other l).slices (another R L) (with_policy_law R L (same_constants R L e) (same_verbs R L e) l other h a)

    inputs : Inputs l'.slices R'
    inputs = (nothing_withdrawn l'.slices L R.request R.hierarchy refl a others.asked_as others.ranked_as).0

    world : world_in R' ≡ world_in R
    world = in_world R L e

    lefts : left_in R' ≡ left_in R
    lefts = left_all (world_in R') L.assertions ∙ same_lists R L e

    same : (c r : ℕ) → decide R' c r ≡ decide R c r
    same c r = λ i. outcome (world i) (counting (world i) (lefts i) (issuers R.request.node (world i))) R.request.node c r

pub serials_aside : Q.SerialsAside
serials_aside l other R L h a none e =
    same_report l (with_policy other l).slices R (another R L) h (with_policy_law R L (same_constants R L e) (same_verbs R L e) l other h a) same
  where
    W : World
    W = world_in R

    n : Node
    n = R.request.node

    -- by another list of assertions, under the same constants and verbs, without entries
    by : ℕ → ℕ → World → List Withdrawal → List Assertion → Outcome
    by c r U ws 𝒜 = outcome U (counting U (left U ws 𝒜) (issuers n U)) n c r

    all_left : (c r : ℕ) (𝒜 : List Assertion) → by c r W [] 𝒜 ≡ outcome W (counting W 𝒜 (issuers n W)) n c r
    all_left c r 𝒜 = ap (λ (l : List Assertion). outcome W (counting W l (issuers n W)) n c r) (left_all W 𝒜)

    same : (c r : ℕ) → decide (another R L) c r ≡ decide R c r
    same c r =
        (λ i. by c r (in_world R L e i) (none i) L.assertions)
        ∙ (all_left c r L.assertions
        ∙ (serials_aside_law W L.assertions R.policy.assertions (issuers n W) n c r (same_lists R L e)
        ∙ (sym (all_left c r R.policy.assertions) ∙ (λ i. by c r W (sym none i) R.policy.assertions))))
