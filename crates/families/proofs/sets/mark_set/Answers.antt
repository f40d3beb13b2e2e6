use Rattle.std.proofs.Common.{◌+◌, ◌*◌, get_or, refl, sym}
use Rattle.families.specs.Sets.{wide, marked, listed}
use Rattle.families.proofs.Marking.{listed_more}
use Rattle.families.proofs.Uniting.{adds_none, adds_both}
use Rattle.families.proofs.sets.mark_set.Goals as goal

-- at first none are
pub loop-j-init : goal.loop-j-init
unfolding listed
loop-j-init c = let a = c.args in adds_none a.marks.now (listed a.families.now a.at 0) refl

-- those of it are marked
pub loop-j-preserved : goal.loop-j-preserved
loop-j-preserved c =
    let a = c.args in
    let x = a.families.now in
    let j = c.loop-j.j in
    adds_both a.marks.now c.loop-j.marks _ (listed x a.at j) (marked wide (wide * j) (get_or x (a.at + j) 0)) (listed x a.at (j + 1))
    (sym (listed_more x a.at j refl refl)) c.loop-j.invariant c.mark_number.ensures
