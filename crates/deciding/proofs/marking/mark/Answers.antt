-- Place by place: a mark of the reach, or 0 behind them.
use Rattle.std.proofs.Common.{arith, length}
use Rattle.std.proofs.lemmas.List.{places, same_lists}
use Rattle.model.proofs.ByteFacts.{bytes_length, bytes_at_law}
use Rattle.deciding.proofs.marking.mark.Goals as goal

pub returns : goal.returns
returns c =
    let m = c.args.reach.now in
    let n = length c.args.marks.now in
    same_lists _ _ (grind (arith, places, bytes_length n m 0))
    (λ k d h. grind (arith, places, bytes_length n m 0, bytes_at_law n m 0 k, c.copy_from_slice.ensures.after, c.fill.ensures.after))
