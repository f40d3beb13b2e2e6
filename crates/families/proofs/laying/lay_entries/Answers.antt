use Rattle.std.proofs.Common.{◌≡◌, arith}
use Rattle.families.proofs.Entered.{none_laid, all_laid}
use Rattle.families.proofs.laying.lay_entries.Goals as goal

-- at first none is
pub loop-k-init : goal.loop-k-init
loop-k-init c = none_laid c.requires.1 c.requires.2

-- all of them
pub returns : goal.returns
returns c =
    let all : c.loop-k.k ≡ c.args.entries = omega arith in
    all_laid (rw all at c.loop-k.invariant) c.requires.0
