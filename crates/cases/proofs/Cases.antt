-- The worked cases, by computation.
use mathlib.Core.Path.{refl}
use mathlib.Core.List.{[]}
use lib.Dec.{T}
use Rattle.model.specs.Lists.{member}
use Rattle.model.specs.Syntax.{Policy, Request, says, flat, con, world_of}
use Rattle.model.specs.Requests.{issuers}
use Rattle.model.specs.Reached.{reach}
use Rattle.model.specs.Bytes.{Reading, got, refused}
use Rattle.model.specs.Bytes.{u16_at, u32_at, choose, and_then}
use Rattle.model.specs.Reader.{sized, times, items, byte, u16, u32, byte_in, rest, list}
use Rattle.model.specs.Calendar.{days_of_years, days_of_months, date_of, year_after}
use Rattle.model.specs.Values.{lower}
use Rattle.model.specs.Layout.{Accepted, policy_of, label, constant, verb, expr, constraint, levels, fact, assertion, constant_item, verb_item}
use Rattle.model.specs.Layout.{assertion_item, withdrawal, withdrawal_item, linked, link_item, asking, parts, node, slice}
use Rattle.model.specs.Layout.{read_policy, read_request, read_withdrawals, read_hierarchy}
use Rattle.model.specs.Deciding.{read}
use Rattle.model.specs.Decision.{sided, read_slices, decision_of, decision}
use Rattle.model.specs.Inputs.{done, keeps, adds}
use Rattle.model.proofs.ListFacts.{member_in}
use Rattle.model.proofs.ReachFacts.{reach_in}
use Rattle.cases.specs.Calls.{P, Q}
use Rattle.cases.specs.Belt.{longer_p, Belt, Turnings, BeltPair}
use Rattle.cases.specs.Refusals.{Refusals}
use Rattle.cases.specs.Withdrawing.{Withdrawing}
use Rattle.cases.specs.Inheriting.{Inheriting}
use Rattle.cases.specs.StandIns.{StandIns}

rows : Belt × Turnings × Refusals × Withdrawing × Inheriting × StandIns
unfolding
    u16_at u32_at choose and_then
    sized times items byte u16 u32 byte_in rest list
    label constant verb expr constraint levels fact assertion constant_item verb_item assertion_item asking parts node slice read_policy read_request
    withdrawal withdrawal_item read_withdrawals linked link_item read_hierarchy
    days_of_years days_of_months date_of year_after lower
    sided read_slices decision_of decision
rows = (refl, refl, refl, refl, (refl, refl), refl)

pub belt : Belt
belt = rows.0

pub turnings : Turnings
turnings = rows.1

pub refusals : Refusals
refusals = rows.2

pub withdrawing : Withdrawing
withdrawing = rows.3

pub inheriting : Inheriting
inheriting = rows.4

pub stand_ins : StandIns
stand_ins = rows.5

-- ---- demand 3 on the belt

abbrev accepted : Reading Accepted → Accepted
accepted (got A e) = A
accepted (refused n p) = record { version = 0; constants = []; verbs = []; assertions = [] }

abbrev asks : Reading Request → Request
asks (got q e) = q
asks (refused n p) = record { today = 0; node = says (con 0) (flat (con 0) 0 []) }

abbrev short : Policy
short = policy_of (accepted (read_policy P))

abbrev long : Policy
long = policy_of (accepted (read_policy longer_p))

abbrev asked : Request
asked = asks (read_request short.constants short.verbs Q)

-- Otto is not reached
not_reached : T (member 2 (reach (world_of short asked) short.assertions (issuers asked.node (world_of short asked)))) → ⊥
unfolding
    u16_at u32_at choose and_then
    sized times items byte u16 u32 byte_in rest list
    label constant verb expr constraint levels fact assertion constant_item verb_item assertion_item asking parts node slice read_policy read_request
    lower
not_reached t = t

pub belt_pair : BeltPair
unfolding
    u16_at u32_at choose and_then
    sized times items byte u16 u32 byte_in rest list
    label constant verb expr constraint levels fact assertion constant_item verb_item assertion_item asking parts node slice read_policy read_request
    withdrawal withdrawal_item read_withdrawals linked link_item read_hierarchy lower
    sided read_slices decision_of decision
belt_pair = record {
  shorter = read short asked [] [];
  longer = long;
  inputs = refl;
  longer_read = (accepted (read_policy longer_p), 130, refl, refl);
  outside = record {
    version = refl;
    constants = refl;
    verbs = refl;
    assertions = keeps _ (keeps _ (keeps _ (adds (λ r. not_reached (member_in (reach_in _ _ _ 2 r))) done)));
  };
  positive = tt;
  shorter_decided = tt;
  longer_decided = tt;
}
