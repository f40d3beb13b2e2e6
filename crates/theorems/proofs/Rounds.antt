-- Rules and rounds, the reach and the versions: what a set is by its rule is what is computed, and version 1 derives what version 2 does.
use Rattle.model.specs.Rules.{Rule}
use Rattle.model.specs.Reached.{issued_in, reach}
use Rattle.theorems.specs.Theorems as Q
use Rattle.model.proofs.ListFacts.{keep_of, keep_in, member_of, member_in}
use Rattle.model.proofs.ClosureFacts.{derives↔within, within_more}
use Rattle.model.proofs.RoundFacts as S
use Rattle.model.proofs.StepFacts.{steps_computed}
use Rattle.model.proofs.ReachFacts.{reach_of_law, reach_in, reach↔}
use Rattle.theorems.proofs.VersionFacts.{within_first, reach_in_first, rule_in_first}
use Rattle.model.proofs.DecisionFacts.{rounds_facts}

-- ---- rules and rounds

pub rules_are_rounds : Q.RulesAreRounds
rules_are_rounds W 𝒜 x = derives↔within (Rule W 𝒜) x

pub computed_rounds : Q.ComputedRounds
computed_rounds W 𝒜 n x = S.round↔ (steps_computed W 𝒜) n x

pub table_entries : Q.TableEntries
table_entries W 𝒜 c h r x = (
  S.table_of (steps_computed W 𝒜) c r x,
  S.table_first (steps_computed W 𝒜) c h r x,
)

pub rounds_at_most_facts : Q.RoundsAtMostFacts
rounds_at_most_facts = rounds_facts

-- ---- the reach

pub computed_reach : Q.ComputedReach
computed_reach W 𝒜 asked = (
  reach↔ W 𝒜 asked,
  λ a. (
    λ m. let k = keep_of (issued_in (reach W 𝒜 asked)) 𝒜 m in (k.0, reach_of_law W 𝒜 asked a.issuer (member_of a.issuer (reach W 𝒜 asked) k.1)),
    λ m. keep_in (issued_in (reach W 𝒜 asked)) m.0 (member_in (reach_in W 𝒜 asked a.issuer m.1)),
  ),
)

-- ---- versions

pub no_more_by_version2 : Q.NoMoreByVersion2
no_more_by_version2 W 𝒜 n x w = within_first W 𝒜 n x w

pub no_more_in_reach : Q.NoMoreInReach
no_more_in_reach R = record { reach = reach_in_first R; within = λ n x w. within_more (rule_in_first R) n x w }
