-- Each statement of `specs/Theorems.antt` is proved under its name in snake case, in one of these files.
pub use Rattle.theorems.proofs.Rounds.{rules_are_rounds, computed_rounds, table_entries, rounds_at_most_facts}
pub use Rattle.theorems.proofs.Rounds.{computed_reach, no_more_by_version2, no_more_in_reach}
pub use Rattle.theorems.proofs.Outcome.{slice_by_slice, meaning, eight, nine, decides, allows, records_tell}
pub use Rattle.theorems.proofs.Added.{outsiders, insiders}
pub use Rattle.theorems.proofs.Growing.{growing, growing_by_version}
pub use Rattle.theorems.proofs.Bindings.{kinds_fit, one_kind, instance_bindings, answer_bindings, whole_node_fits, below_unbound, free_answers, safely_asked}
pub use Rattle.theorems.proofs.Withdrawn.{nothing_withdrawn, withdrawn_is_absent, serials_aside}
pub use Rattle.theorems.proofs.Hierarchy.{no_hierarchy, computed_descendants, ground}
