-- The hierarchy: without entries there are three rules, descendants are computed, and what is derived is ground.
use mathlib.Core.Path.{◌≡◌, refl, ap, ◌∙◌}
use mathlib.Core.List.{List, []}
use Rattle.model.specs.Syntax.{Constant, Verb, world_of}
use Rattle.model.specs.Bytes.{u16_at, u32_at, choose, got, and_then}
use Rattle.model.specs.Reader.{byte, u16, items, list}
use Rattle.model.specs.Layout.{slice, read_hierarchy}
use Rattle.model.specs.Deciding.{read}
use Rattle.theorems.specs.Theorems as Q
use Rattle.model.specs.Inputs.{without_entries}
use Rattle.model.proofs.ClosureFacts.{within_more}
use Rattle.model.proofs.HierarchyFacts.{descendants_of, descendants_in, covered_of, covered_in}
use Rattle.model.proofs.StepFacts.{three_only}
use Rattle.model.proofs.DecisionFacts.{slice_by_slice_law, of_slices}
use Rattle.theorems.proofs.Grounded.{grounded}

-- the slice without entries is accepted by whatever constants and verbs
no_links : (cs : List Constant) (vs : List Verb) → read_hierarchy cs vs without_entries ≡ got [] 7
unfolding read_hierarchy slice list items u16 byte u32_at u16_at choose and_then
no_links cs vs = refl

pub no_hierarchy : Q.NoHierarchy
no_hierarchy s P q ws e a k w = (
  of_slices s (read P q ws []) (record {
    read_as = a;
    asked_as = k;
    withdrawn_as = w;
    ranked_as = (7, ap (read_hierarchy P.constants P.verbs) e ∙ no_links P.constants P.verbs);
  }),
  λ n x. (within_more (three_only (world_of P q) refl) n x, within_more (λ ps y r. r.0) n x),
)

pub computed_descendants : Q.ComputedDescendants
computed_descendants H = (
  λ verb position c d. (descendants_of H verb position c d, descendants_in H verb position c d),
  λ f g. (covered_of H f g, covered_in H),
)

-- ---- ground

pub ground : Q.Ground
ground s R h x d = let i = slice_by_slice_law s R h in grounded s.policy s.hierarchy R i.read_as i.ranked_as x d
