use Rattle.std.proofs.Common.{rules, arith}
use Rattle.std.proofs.lemmas.List.{places, same_lists}
use Rattle.outcome.proofs.word.Goals as goal

pub returns : goal.returns
returns c = record {
  is = same_lists _ _ (search (rules, places)) (λ k d h. grind (arith, places, c.copy_from_slice.ensures.after));
  rest = same_lists _ _ (search (rules, places)) (λ k d h. grind (arith, places));
  onward = omega arith;
  near = omega arith;
  whole = search (rules, places);
}
