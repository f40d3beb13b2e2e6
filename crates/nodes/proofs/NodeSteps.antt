-- Reading nodes, one step on.
use Rattle.std.proofs.Common.{◌≡◌, refl, List, ℕ, zero, suc, ◌+◌, ◌-◌, true, false, Result, ◌⊎◌, inl, inr, Some, None}
use native.Mathlib.Numerals.{sub-one}
use Rattle.model.specs.Bytes.{byte_at}
use Rattle.slices.specs.declared.Refusal.{Refusal}
use Rattle.slices.specs.declared.Reason.TheVariants as reasons
use Rattle.kinds.specs.Cells.{Cells}
use Rattle.nodes.specs.Tree.{shape_at}
use Rattle.nodes.specs.Nodes.{next, stop, read_then, reads_by, own_form, test_in, says_in, read_of, read_in}
use Rattle.nodes.specs.declared.Reached.{Reached}
use Rattle.nodes.specs.declared.shape.Shape.{Shape}
use Rattle.nodes.specs.declared.shape.Shape.TheVariants.{Says, Test, All, Any, Not, Exists}

pub reads_none : (f : ℕ → Cells → Result Reached Refusal) (n at : ℕ) (t : Cells) → n ≡ 0 → reads_by f n at t ≡ next at t
unfolding reads_by
reads_none f n at t e = rw e

pub reads_more : (f : ℕ → Cells → Result Reached Refusal) (n at : ℕ) (t : Cells) → (n ≡ 0 → ⊥) → reads_by f n at t ≡ read_then (f at t) (reads_by f (n - 1))
unfolding reads_by
reads_more f zero at t h = absurd (h refl)
reads_more f (suc n) at t h = rw sub-one

module _ (ks sg s : List ℕ) where
  -- no node, or one whose own bytes are not in their form
  pub read_broken : (d at : ℕ) (t : Cells) (k : Shape)
      → (d ≡ 0) ⊎ ((shape_at s at ≡ None) ⊎ ((shape_at s at ≡ Some k) × (own_form s k at ≡ false)))
      → read_in ks sg s d at t ≡ stop reasons.Form at
  unfolding read_in
  read_broken d at t k (inl e) = rw e
  read_broken zero at t k (inr h) = refl
  read_broken (suc d) at t k (inr (inl g)) = rw g
  read_broken (suc d) at t k (inr (inr o)) = rw (o.0, o.1)

  read_as : (d at : ℕ) (t : Cells) (k : Shape) → (d ≡ 0 → ⊥) → own_form s k at ≡ true → shape_at s at ≡ Some k
      → read_in ks sg s d at t ≡ read_of ks sg s k (read_in ks sg s (d - 1)) at t
  unfolding read_in
  read_as zero at t k n o g = absurd (n refl)
  read_as (suc d) at t k n o g = rw (g, o, sub-one)

  module _ (d at : ℕ) (t : Cells) (n : d ≡ 0 → ⊥) where
    pub read_says : shape_at s at ≡ Some Says → read_in ks sg s d at t ≡ says_in ks sg s at t
    unfolding read_of own_form
    read_says g = read_as d at t Says n refl g

    pub read_test : shape_at s at ≡ Some Test → read_in ks sg s d at t ≡ test_in ks s at t
    unfolding read_of own_form
    read_test g = read_as d at t Test n refl g

    pub read_inside : (k : Shape) → own_form s k at ≡ true → shape_at s at ≡ Some k → (k ≡ All) ⊎ (k ≡ Any)
        → read_in ks sg s d at t ≡ reads_by (read_in ks sg s (d - 1)) (byte_at s (at + 1)) (at + 2) t
    unfolding read_of
    read_inside k o g (inl e) = rw e at (read_as d at t k n o g)
    read_inside k o g (inr e) = rw e at (read_as d at t k n o g)

    pub read_not : shape_at s at ≡ Some Not → read_in ks sg s d at t ≡ read_in ks sg s (d - 1) (at + 1) t
    unfolding read_of own_form
    read_not g = read_as d at t Not n refl g

    pub read_exists : (k : Shape) → own_form s k at ≡ true → shape_at s at ≡ Some k → k ≡ Exists
        → read_in ks sg s d at t ≡ read_in ks sg s (d - 1) (at + 2) t
    unfolding read_of
    read_exists k o g e = rw e at (read_as d at t k n o g)

pub ruleset read_steps = (reads_none, reads_more, read_broken, read_says, read_test, read_inside, read_not, read_exists)
