-- A set of variables as eight marks, 1 for a variable that is in it.
use Rattle.std.specs.Prelude.{ℕ, zero, suc, List, [], ◌∷◌, Bool, true, not, ◌&&◌, ◌||◌, ◌==◌, get_or, set, if◌then◌else◌}

abbrev pub none : List ℕ
none = 0 ∷ 0 ∷ 0 ∷ 0 ∷ 0 ∷ 0 ∷ 0 ∷ 0 ∷ []

-- with these variables; a number from 8 on has no mark
abbrev pub marked : List ℕ → List ℕ → List ℕ
marked [] m = m
marked (v ∷ vs) m = marked vs (set m v 1)

-- each of the first n that has mark 1 in a has it in b
unfoldable pub within : ℕ → List ℕ → List ℕ → Bool
within zero a b = true
within (suc n) a b = within n a b && (not (get_or a n 0 == 1) || get_or b n 0 == 1)

-- a, of the first n without what has not mark 1 in b
unfoldable pub meet : ℕ → List ℕ → List ℕ → List ℕ
meet zero a b = a
meet (suc n) a b = if get_or b n 0 == 1 then meet n a b else set (meet n a b) n 0
