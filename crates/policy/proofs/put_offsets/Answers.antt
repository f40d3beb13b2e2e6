-- Each field of the index is what its call gives; the tables were empty before.
use Rattle.std.proofs.Common.{arith}
use Rattle.policy.specs.Index.{with_tables, index_at}
use Rattle.policy.proofs.TableLaws.{starts_held, issuers_held}
use Rattle.policy.proofs.put_offsets.Goals as goal

pub returns : goal.returns
unfolding with_tables index_at
returns c =
    rw (c.put_items.ensures, c.put_items-2.ensures, c.put_assertions.ensures, c.put_issuers.ensures, c.requires.0)
    (rw (
      ← c.u16_or-constants.ensures.0,
      ← c.u16_or-verbs.ensures.0,
      ← c.u16_or-assertions.ensures.0,
      ← c.byte_or-index.ensures.0,
      starts_held _ 255 c.u16_or-constants.result _ (omega (arith, c.u16_or-constants.ensures.0)),
      starts_held _ 64 c.u16_or-verbs.result _ (omega (arith, c.u16_or-verbs.ensures.0)),
      starts_held _ 256 c.u16_or-assertions.result _ (omega (arith, c.u16_or-assertions.ensures.0)),
      issuers_held _ c.u16_or-assertions.result _ (omega (arith, c.u16_or-assertions.ensures.0)),
    ))
