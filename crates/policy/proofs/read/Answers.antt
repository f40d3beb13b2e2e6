-- One list after the other; what each asks for, those before it give.
use Rattle.std.proofs.Common.{◌≡◌, ℕ, List, ◌+◌, refl, ◌∙◌, arith, rules}
use Rattle.std.specs.Prelude.{Err}
use Rattle.slices.specs.Steps.{Next, step}
use Rattle.slices.proofs.ListFacts.{list_next}
use Rattle.names.proofs.ItemFacts.{constant_reads, verb_reads}
use Rattle.model.specs.Limits.{max_constants, max_verbs}
use Rattle.model.specs.Policies.{list_at, constant_item, verb_item}
use Rattle.policy.specs.Index.{with_tables}
use Rattle.policy.proofs.TableLaws.{kinds_read, signatures_read}
use Rattle.policy.proofs.PolicyFacts.{Constants, Verbs, constants_within, constants_counted, verbs_within, verbs_counted, rest_counted}
use Rattle.policy.proofs.PolicyFacts.{said_refused, header_refused, constants_refused, verbs_refused, assertions_refused, all_taken}
use Rattle.policy.proofs.read.Goals as goal

-- what a list that was read gives
ends : (s : List ℕ) (p : ℕ) → Next p ≡ step (list_at s 1 max_constants (constant_item s) 5) → Constants s p
ends s p h = list_next _ _ _ _ _ _ (constant_reads s) _ _ _ h refl

verbs_end : (s : List ℕ) (p q : ℕ) → Next q ≡ step (list_at s 0 max_verbs (verb_item s) p) → Verbs s p q
verbs_end s p q h = list_next _ _ _ _ _ _ (verb_reads s) _ _ _ h refl

pub returns-in_err-headed : goal.returns-in_err-headed
returns-in_err-headed c =
    let out : c.from_residual.result ≡ Err c.in_err-headed.field-0.0 = search rules in
    said_refused _ out ∙ header_refused _ _ _ c.in_err-headed.ensures.step

pub returns-in_err-second : goal.returns-in_err-second
returns-in_err-second c =
    let out : c.from_residual-in_err-second.result ≡ Err c.in_err-second.field-0.0 = search rules in
    said_refused _ out ∙ constants_refused _ _ c.in_ok-headed.ensures.step _ _ c.in_err-second.ensures

pub verbs-requires : goal.verbs-requires
verbs-requires c = omega (arith, constants_within _ _ (ends _ _ c.in_ok-second.ensures), c.in_ok-headed.ensures.short.1)

pub returns-in_err-third : goal.returns-in_err-third
returns-in_err-third c =
    let out : c.from_residual-in_err-third.result ≡ Err c.in_err-third.field-0.0 = search rules in
    said_refused _ out ∙ verbs_refused _ _ c.in_ok-headed.ensures.step _ (ends _ _ c.in_ok-second.ensures) _ _ c.in_err-third.ensures

pub put_kinds-requires : goal.put_kinds-requires
put_kinds-requires c =
    let few = (constants_counted _ _ (ends _ _ c.in_ok-second.ensures)).most in
    (omega (arith, c.u16_or-constants.ensures.0), omega (arith, c.u16_or-constants.ensures.0))

pub u16_or-verbs-requires : goal.u16_or-verbs-requires
u16_or-verbs-requires c = omega (arith, constants_within _ _ (ends _ _ c.in_ok-second.ensures), c.in_ok-headed.ensures.short.1)

pub overflow_add-second : goal.overflow_add-second
overflow_add-second c = record { fits = omega (arith, constants_within _ _ (ends _ _ c.in_ok-second.ensures), c.in_ok-headed.ensures.short.1) }

pub put_signatures-requires : goal.put_signatures-requires
put_signatures-requires c =
    let few = (verbs_counted _ _ (ends _ _ c.in_ok-second.ensures) _ (verbs_end _ _ _ c.in_ok-third.ensures)).most in
    let near = constants_within _ _ (ends _ _ c.in_ok-second.ensures) in
    (omega (arith, c.u16_or-verbs.ensures.0), omega (arith, c.u16_or-verbs.ensures.0, near, c.in_ok-headed.ensures.short.1))

pub assertions-requires : goal.assertions-requires
assertions-requires c =
    (verbs_within _ _ (ends _ _ c.in_ok-second.ensures) _ (verbs_end _ _ _ c.in_ok-third.ensures), c.in_ok-headed.ensures.short.1)

pub returns-in_err-assertions : goal.returns-in_err-assertions
returns-in_err-assertions c =
    let out : c.from_residual-in_err-assertions.result ≡ Err c.in_err-assertions.field-0.0 = search rules in
    let s = c.args.policy.now in
    let K = ends _ _ c.in_ok-second.ensures in
    let V = verbs_end _ _ _ c.in_ok-third.ensures in
    said_refused _ out
    ∙ assertions_refused s _ c.in_ok-headed.ensures.step _ K _ V _ _
    (kinds_read s 7 c.requires c.u16_or-constants.ensures.0 (constants_counted _ _ K).most c.put_kinds.ensures)
    (signatures_read s (c.in_ok-second.second + 2) c.requires c.u16_or-verbs.ensures.0 (verbs_counted _ _ K _ V).most c.put_signatures.ensures)
    _ _ c.in_err-assertions.ensures

pub put_offsets-requires : goal.put_offsets-requires
unfolding with_tables
put_offsets-requires c =
    let s = c.args.policy.now in
    let K = ends _ _ c.in_ok-second.ensures in
    let V = verbs_end _ _ _ c.in_ok-third.ensures in (
      rw c.requires,
      constants_within _ _ K,
      verbs_within _ _ K _ V,
      c.in_ok-headed.ensures.short.1,
      (constants_counted _ _ K).most,
      (verbs_counted _ _ K _ V).most,
      rest_counted s _ K _ V _ _
          (kinds_read s 7 c.requires c.u16_or-constants.ensures.0 (constants_counted _ _ K).most c.put_kinds.ensures)
          (signatures_read s (c.in_ok-second.second + 2) c.requires c.u16_or-verbs.ensures.0 (verbs_counted _ _ K _ V).most c.put_signatures.ensures)
          _ c.in_ok-assertions.ensures,
    )

pub returns : goal.returns
returns c =
    let s = c.args.policy.now in
    let K = ends _ _ c.in_ok-second.ensures in
    let V = verbs_end _ _ _ c.in_ok-third.ensures in
    all_taken s _ c.in_ok-headed.ensures.step _ K _ V _ _
    (kinds_read s 7 c.requires c.u16_or-constants.ensures.0 (constants_counted _ _ K).most c.put_kinds.ensures)
    (signatures_read s (c.in_ok-second.second + 2) c.requires c.u16_or-verbs.ensures.0 (verbs_counted _ _ K _ V).most c.put_signatures.ensures)
    _ c.in_ok-assertions.ensures _ c.put_offsets.ensures
