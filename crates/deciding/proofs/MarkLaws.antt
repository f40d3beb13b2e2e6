-- The reach's marks in a lent slice are the model's, and a refusal leaves the slice.
use mathlib.Core.Path.{◌≡◌, refl, ap, ap₂, ◌∙◌}
use mathlib.Core.List.{List, ◌∷◌}
use Prim.Native.Nat.{ℕ, zero, suc}
use native.Mathlib.Numerals.{add-one}
use lib.ListN.{length}
use Rattle.model.specs.Syntax.{Read}
use Rattle.model.specs.Bytes.{bytes_at}
use Rattle.model.specs.Decision.{Slices, Taken, refused_on, read_slices}
use Rattle.model.specs.Inputs.{Inputs}
use Rattle.demands.specs.Lookups.{reach_of, marks_from, reached, reached_by, whose_words}
use Rattle.reach.specs.Marks.{Marks}

-- ---- the marks of a set, as bytes

pub bytes_marks : (l m : List ℕ) → Marks l m → (n i : ℕ) → bytes_at n m i ≡ marks_from l n i
unfolding bytes_at marks_from
bytes_marks l m h zero i = refl
bytes_marks l m h (suc n) i = ap₂ (λ (b : ℕ) (t : List ℕ). b ∷ t) (h i) (ap (bytes_at n m) (add-one i) ∙ bytes_marks l m h n (suc i))

-- ---- what the call tells

pub accepted_words : (s : Slices) (R : Read) (marks : List ℕ) → Inputs s R → whose_words s marks ≡ reached 0 0 0 (marks_from (reach_of R) (length marks) 0)
unfolding whose_words reached_by
accepted_words s R marks i = ap (λ (t : Taken). reached_by t marks) i

-- ---- refusals

pub refused_words : (s : Slices) (marks : List ℕ) (n side p : ℕ) → read_slices s ≡ refused_on n side p → whose_words s marks ≡ reached n side p marks
unfolding whose_words reached_by
refused_words s marks n side p e = ap (λ (t : Taken). reached_by t marks) e
