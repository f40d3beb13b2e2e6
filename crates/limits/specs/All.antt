-- The model's limits, widths and fixed numbers, in the order of the code's.
use Rattle.std.specs.Prelude.{ℕ, ◌+◌, List, [], ◌∷◌}
use Rattle.model.specs.Limits.{version, policy_versions, length_at, header_bytes, first_node_at, max_constants, max_verbs, max_assertions}
use Rattle.model.specs.Limits.{max_withdrawals, max_links, max_arity, max_nest, max_body}
use Rattle.model.specs.Limits.{max_constraints, max_operator, max_parts, max_depth, max_variable, max_day, max_label, lowest_label_byte, highest_label_byte}
use Rattle.model.specs.Limits.{principal, thing, day, quantity, unlimited, can_act_as, first_variable, today_code, record_bytes, max_records, answer_bytes}
use Rattle.model.specs.Limits.{unbound}

abbrev pub all : List ℕ
all =
    version ∷ policy_versions ∷ length_at ∷ header_bytes ∷ first_node_at ∷ max_constants ∷ max_verbs ∷ max_assertions ∷ max_withdrawals ∷ max_links
    ∷ max_arity ∷ max_nest ∷ max_body ∷ max_constraints ∷ max_operator ∷ max_parts ∷ max_depth ∷ (max_variable + 1)
    ∷ max_day ∷ max_label ∷ lowest_label_byte ∷ highest_label_byte
    ∷ principal ∷ thing ∷ day ∷ quantity ∷ unlimited ∷ can_act_as ∷ first_variable ∷ today_code
    ∷ record_bytes ∷ max_records ∷ answer_bytes ∷ unbound ∷ []
