-- Assertions added to a policy: those from outside the reach change no call, and nothing that is said inside.
use mathlib.Core.Path.{◌≡◌, refl, sym, ap, ◌∙◌}
use mathlib.Core.List.{List}
use Prim.Native.Nat.{ℕ}
use Rattle.model.specs.Syntax.{Assertion, Policy, World, Read, world_in}
use Rattle.model.specs.Requests.{issuers}
use Rattle.model.specs.Withdrawals.{stays, left, left_in}
use Rattle.model.specs.Meant.{Outcome, too_many_facts, too_many_answers, decided}
use Rattle.model.specs.Reached.{counting}
use Rattle.model.specs.Deciding.{outcome, decide, read, counted_in}
use Rattle.model.specs.Decision.{Slices, Lent, capacity, room, reported, decision}
use Rattle.theorems.specs.Theorems as Q
use Rattle.model.specs.Inputs.{Inputs, ReadAs, Adds}
use Rattle.theorems.specs.Theorems.{Longer, with_policy}
use Rattle.theorems.proofs.Outside.{counting_same}
use Rattle.model.proofs.Inside.{inside}
use Rattle.model.proofs.WithdrawalFacts.{left_in_law, adds_kept}
use Rattle.model.proofs.ReadFacts.{subject_placed, policy_fine}
use Rattle.model.proofs.DecisionFacts.{slice_by_slice_law, of_slices, reports}

-- what is read with another policy in the first one's place: where constants and verbs are the same, so are the request, the withdrawals and the hierarchy, and
-- with the version the world
abbrev pub another : Read → Policy → Read
another R L = read L R.request R.withdrawals R.hierarchy

module _ (R : Read) (L : Policy) (cs : L.constants ≡ R.policy.constants) (vs : L.verbs ≡ R.policy.verbs) where
  pub with_policy_law : (l : Lent) (other : List ℕ) → Inputs l.slices R → ReadAs other L → Inputs (with_policy other l).slices (another R L)
  with_policy_law l other h a =
      let k = slice_by_slice_law l.slices R h in
      of_slices (with_policy other l).slices (another R L) (record {
        read_as = a;
        asked_as = (k.asked_as.0, rw (cs, vs) k.asked_as.1);
        withdrawn_as = (k.withdrawn_as.0, rw cs k.withdrawn_as.1);
        ranked_as = (k.ranked_as.0, rw (cs, vs) k.ranked_as.1);
      })

  pub same_world : L.version ≡ R.policy.version → world_in (another R L) ≡ world_in R
  same_world v = λ i. record { version = v i; constants = cs i; verbs = vs i; today = R.request.today; hierarchy = R.hierarchy }

-- the same buffers beside other slices
abbrev pub with_slices : Slices → Lent → Lent
with_slices s l = record { slices = s; fact_buffer = l.fact_buffer; answer_buffer = l.answer_buffer }

-- a report tells nothing of the slices
same_buffers : (o : Outcome) (l : Lent) (s : Slices) → reported o (with_slices s l) ≡ reported o l
same_buffers too_many_facts l s = refl
same_buffers (too_many_answers F) l s = refl
same_buffers (decided F A) l s = refl

-- so calls that decide the same report the same
pub same_report : (l : Lent) (s : Slices) (R R' : Read) → Inputs l.slices R → Inputs s R'
    → ((c r : ℕ) → decide R' c r ≡ decide R c r) → decision (with_slices s l) ≡ decision l
same_report l s R R' h k same =
    let c = capacity l.fact_buffer in
    let r = room l.answer_buffer in
    reports (with_slices s l) R' k
    ∙ (same_buffers (decide R' c r) l s ∙ (ap (λ (o : Outcome). reported o l) (same c r) ∙ sym (reports l R h)))

module _ {X : Assertion → Type 0} (R : Read) (L : Policy) (x : Longer X R.policy L) where
  pub longer_world : world_in (another R L) ≡ world_in R
  longer_world = same_world R L x.constants x.verbs x.version

  -- what is left of the longer policy's list, and which of it count
  abbrev pub longer_left : List Assertion
  longer_left = left (world_in R) R.withdrawals L.assertions

  pub left_adds : Adds X (left_in R) longer_left
  left_adds = adds_kept (stays (world_in R) R.withdrawals) x.assertions

  pub longer_counts : counted_in (another R L) ≡ counting (world_in R) longer_left (issuers R.request.node (world_in R))
  longer_counts = ap (λ (W : World). counting W (left W R.withdrawals L.assertions) (issuers R.request.node W)) longer_world

pub outsiders : Q.Outsiders
outsiders l longer R L h a x =
    same_report l (with_policy longer l).slices R (another R L) h (with_policy_law R L x.constants x.verbs l longer h a)
    (λ c r i. outcome (longer_world R L x i) (counts i) R.request.node c r)
  where
    W : World
    W = world_in R

    counts : counted_in (another R L) ≡ counted_in R
    counts = longer_counts R L x ∙ counting_same W (issuers R.request.node W) (left_in R) (longer_left R L x) (left_adds R L x)

pub insiders : Q.Insiders
insiders s R h n x r =
    let P = R.policy in
    inside (world_in R) (issuers R.request.node (world_in R)) (left_in R)
    (λ a m. subject_placed P.constants P.verbs a (policy_fine s.policy P (slice_by_slice_law s R h).read_as a (left_in_law R a m)).fit) n x r
