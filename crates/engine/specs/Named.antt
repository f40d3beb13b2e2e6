-- The specification's limits in the order in which the engine hands them on, and the release.
use Rattle.std.specs.Prelude.{ℕ, ◌+◌, ◌*◌, List, [], ◌∷◌}
use Rattle.model.specs.Limits.{version, policy_versions, max_constants, max_verbs, max_assertions, max_withdrawals, max_links, max_label, max_arity}
use Rattle.model.specs.Limits.{max_nest, max_body}
use Rattle.model.specs.Limits.{max_constraints, max_variable, max_parts, max_depth, max_day, record_bytes, max_records, answer_bytes}

abbrev pub handed_on : List ℕ
handed_on =
    version ∷ policy_versions ∷ max_constants ∷ max_verbs ∷ max_assertions ∷ max_withdrawals ∷ max_links ∷ max_label ∷ max_arity ∷ max_nest ∷ max_body
    ∷ max_constraints ∷ (max_variable + 1) ∷ max_parts ∷ max_depth ∷ max_day ∷ record_bytes ∷ max_records ∷ answer_bytes ∷ []

-- the release 0.1.0: major, minor, patch
abbrev pub release : ℕ
release = 0 * 65536 + 1 * 256 + 0
