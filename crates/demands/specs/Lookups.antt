-- What the host's look-ups give, from bytes: where constants and verbs stand, the number of a label, and whose words count for a request.
use Rattle.std.specs.Prelude.{List, [], ◌∷◌, ◌++◌, map, Bool, ◌&&◌, ◌||◌, cond, ℕ, zero, suc, length, get_or, take, drop, eqb}
use Rattle.model.specs.Limits.{principal, thing}
use Rattle.model.specs.Lists.{member}
use Rattle.model.specs.Syntax.{Constant, Read, world_in}
use Rattle.model.specs.Kinds.{no_constant}
use Rattle.model.specs.Values.{alike}
use Rattle.model.specs.Requests.{issuers}
use Rattle.model.specs.Withdrawals.{left_in}
use Rattle.model.specs.Reached.{reach}
use Rattle.model.specs.Bytes.{choose, Reading, got, refused}
use Rattle.model.specs.Reader.{Item, contents}
use Rattle.model.specs.Layout.{Accepted}
use Rattle.model.specs.Decision.{Slices, Taken, accepted, refused_on, read_slices}

-- ---- where the items stand: the offset of each length byte, in the order of their numbers; none where the policy is not accepted

abbrev pub offsets : {A : Type 0} → List (Item A) → List ℕ
offsets is = map (λ i. i.at) is

unfoldable pub constant_offsets : Reading Accepted → List ℕ
constant_offsets (got A e) = offsets A.constants
constant_offsets (refused n p) = []

unfoldable pub verb_offsets : Reading Accepted → List ℕ
verb_offsets (got A e) = offsets A.verbs
verb_offsets (refused n p) = []

-- as many as fit, and the rest of the buffer as lent
unfoldable pub laid : List ℕ → List ℕ → List ℕ
laid numbers lent = take (length lent) numbers ++ drop (length numbers) lent

-- ---- the number of a label

-- no constant: the largest number of 32 bits
abbrev pub no_number : ℕ
no_number = 4294967295

-- the first of n numbers from i on that passes the test
unfoldable pub first_of : (ℕ → Bool) → ℕ → ℕ → ℕ
first_of f i zero = no_number
first_of f i (suc n) = choose (f i) i (first_of f (suc i) n)

-- a constant of this kind, with a label alike to this one
abbrev pub is_named : ℕ → List ℕ → Constant → Bool
is_named kind label c = eqb c.kind kind && alike c.label label

-- only principals and things have a label
unfoldable pub number_in : Reading Accepted → ℕ → List ℕ → ℕ
number_in (got A e) kind label =
    choose (eqb kind principal || eqb kind thing)
    (first_of (λ i. is_named kind label (get_or (contents A.constants) i no_constant)) 0 (length A.constants))
    no_number
number_in (refused n p) kind label = no_number

-- ---- whose words count

-- the reach of a request, as a list of constants
abbrev pub reach_of : Read → List ℕ
reach_of R = reach (world_in R) (left_in R) (issuers R.request.node (world_in R))

-- for each of n numbers from i on, 1 if it is in the list, else 0
unfoldable pub marks_from : List ℕ → ℕ → ℕ → List ℕ
marks_from l zero i = []
marks_from l (suc n) i = cond (member i l) 1 0 ∷ marks_from l n (suc i)

-- a refusal's number, side and place, all 0 where there is none, and the lent marks afterwards
pub record Reached : Type 0 where
  pub refusal : ℕ
  pub side : ℕ
  pub place : ℕ
  pub marks : List ℕ

abbrev pub reached : ℕ → ℕ → ℕ → List ℕ → Reached
reached n s p marks = record { refusal = n; side = s; place = p; marks = marks }

unfoldable pub reached_by : Taken → List ℕ → Reached
reached_by (accepted R) marks = reached 0 0 0 (marks_from (reach_of R) (length marks) 0)
reached_by (refused_on n side p) marks = reached n side p marks

unfoldable pub whose_words : Slices → List ℕ → Reached
whose_words s marks = reached_by (read_slices s) marks
