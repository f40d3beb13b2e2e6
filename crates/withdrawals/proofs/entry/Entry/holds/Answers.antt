use Rattle.std.proofs.Common.{rules, refl, ap, ◌∙◌, ◌+◌, ◌*◌, arith}
use Rattle.std.proofs.lemmas.Iterator.{YieldsList-from_range}
use Rattle.std.proofs.lemmas.Iterator.Search.{all_from_yields_List}
use Rattle.model.specs.Lists.{all}
use Rattle.model.specs.Readings.{constraint_at, constraints_at}
use Rattle.model.specs.Values.{passes}
use Rattle.model.specs.Withdrawals.{no_binding}
use Rattle.model.specs.Entries.{withdrawal_at}
use Rattle.constraints.specs.Standing.{world_of}
use Rattle.constraints.proofs.Laws.{all_tests}
use Rattle.withdrawals.proofs.entry.Entry.holds.Goals as goal

pub returns : goal.returns
unfolding withdrawal_at
returns c =
    let s = c.args.self.now.bytes.now in
    let p = c.args.self.now.at + 7 in
    let holds = passes (world_of c.args.values.now) no_binding in
    all_from_yields_List (λ i. holds (constraint_at s (p + 5 * i))) _ _ _ c.all.ensures.ran
    (YieldsList-from_range 0 c.count.result c.count.result refl (omega arith)) (λ i b q k. search rules)
    ∙ all_tests holds s c.count.result p ∙ ap (λ n. all holds (constraints_at n s p)) c.count.ensures.0
