-- The expressions of a fact, each as its place and the number of its kind; and the same by their numbers, as the code finds them.
use Rattle.std.specs.Prelude.{ℕ, zero, suc, ◌+◌, ◌-◌, ◌*◌, List, [], ◌∷◌, min, nat_lt, if◌then◌else◌}
use Rattle.model.specs.Limits.{principal}
use Rattle.model.specs.Bytes.{byte_at}
use Rattle.phrases.specs.declared.Outline.{Outline}
use Rattle.phrases.specs.Phrases.{arity_by}

module _ (sg s : List ℕ) where
  -- n parameters from p on, their kinds from k on
  unfoldable pub parameters_by : ℕ → ℕ → ℕ → List (ℕ × ℕ)
  parameters_by zero k p = []
  parameters_by (suc n) k p = (p, byte_at sg k) ∷ parameters_by n (k + 1) (p + 2)

  -- m speakers, principals as the subject is, and the phrase
  unfoldable pub speakers_by : ℕ → ℕ → List (ℕ × ℕ)
  speakers_by zero p = (p, principal) ∷ parameters_by (arity_by sg (byte_at s (p + 2))) (4 * byte_at s (p + 2) + 1) (p + 3)
  speakers_by (suc m) p = (p, principal) ∷ speakers_by m (p + 3)

  unfoldable pub expressions_by : ℕ → List (ℕ × ℕ)
  expressions_by p = speakers_by (byte_at s p) (p + 1)

  unfoldable pub outline_by : ℕ → Outline
  outline_by p =
      let m = byte_at s p in
      let v = byte_at s (p + 1 + 3 * m + 2) in
      record { first = p + 1; principals = m + 1; kinds = 4 * v + 1; count = m + 1 + arity_by sg v }

abbrev pub place_in : Outline → ℕ → ℕ
place_in o k = o.first + 2 * k + min k o.principals

abbrev pub kind_in : List ℕ → Outline → ℕ → ℕ
kind_in sg o k = if nat_lt k o.principals then principal else byte_at sg (o.kinds + (k - o.principals))
