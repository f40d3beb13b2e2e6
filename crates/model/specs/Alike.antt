-- What is proved of labels that are alike, and of refusal 4.
use Rattle.std.specs.Prelude.{◌≡◌, ◌↔◌, ◌⊎◌, List, [], ◌∷◌, ◌++◌, true, ℕ, ◌+◌, ◌≤◌, ◌<◌, length, get_or, take, drop}
use Rattle.model.specs.Limits.{principal, thing}
use Rattle.model.specs.Syntax.{Verb, Policy}
use Rattle.model.specs.Kinds.{no_constant}
use Rattle.model.specs.Values.{lower, lowered, alike, begins, same_value}
use Rattle.model.specs.Bytes.{Reading, got, refused}
use Rattle.model.specs.Layout.{Accepted, read_policy}
use Rattle.model.specs.Labels.{label_of}
use Rattle.model.specs.Inputs.{ReadAs}

-- Capitals are read as small letters, and no other byte as another: `@` (0x40) and a backquote (0x60) stay apart, as do `[` (0x5B) and `{` (0x7B).
pub record OnlyCapitals : Type 0 where
  pub capital : (b : ℕ) → 0x41 ≤ b → b ≤ 0x5A → lower b ≡ b + 0x20
  pub below : (b : ℕ) → b < 0x41 → lower b ≡ b
  pub above : (b : ℕ) → 0x5A < b → lower b ≡ b

-- "Two labels are now alike if they agree after 0x41 to 0x5A are read as 0x61 to 0x7A."
pub record AlikeLabels : Type 0 where
  pub agree : (l r : List ℕ) → (alike l r ≡ true) ↔ (lowered l ≡ lowered r)
  -- an equivalence
  pub itself : (l : List ℕ) → alike l l ≡ true
  pub turned : (l r : List ℕ) → alike l r ≡ true → alike r l ≡ true
  pub joined : (l m r : List ℕ) → alike l m ≡ true → alike m r ≡ true → alike l r ≡ true
  -- a label is alike to itself in small letters, and these are their own
  pub small : (l : List ℕ) → alike l (lowered l) ≡ true
  pub once : (l : List ℕ) → lowered (lowered l) ≡ lowered l
  pub long : (l r : List ℕ) → alike l r ≡ true → length l ≡ length r

-- Operator 4: "left's label begins with right's", both in small letters; so it does not tell labels apart that are alike.
pub record BeginningLabels : Type 0 where
  pub goes_on : (l r : List ℕ) → (begins l r ≡ true) ↔ ((m : List ℕ) × (lowered l ≡ lowered r ++ m))
  pub whichever : (l l' r r' : List ℕ) → alike l l' ≡ true → alike r r' ≡ true → begins l r ≡ begins l' r'

-- "4 constant alike in kind and value .. to an earlier one": in an accepted policy two constants of one kind with values alike are the same constant
abbrev pub OneConstant : Type 0
OneConstant = (policy : List ℕ) (P : Policy) → ReadAs policy P → (i j : ℕ) → i < length P.constants → j < length P.constants
    → (get_or P.constants i no_constant).kind ≡ (get_or P.constants j no_constant).kind
    → same_value (get_or P.constants i no_constant) (get_or P.constants j no_constant) ≡ true → i ≡ j

-- so a principal or a thing is the only one of its kind with its label
abbrev pub OneLabel : Type 0
OneLabel = (policy : List ℕ) (P : Policy) → ReadAs policy P → (i j : ℕ) → i < length P.constants → j < length P.constants
    → ((get_or P.constants i no_constant).kind ≡ principal) ⊎ ((get_or P.constants i no_constant).kind ≡ thing)
    → (get_or P.constants i no_constant).kind ≡ (get_or P.constants j no_constant).kind
    → alike (get_or P.constants i no_constant).label (get_or P.constants j no_constant).label ≡ true → i ≡ j

-- for numbers that no verb has
abbrev pub nameless : Verb
nameless = record { kinds = []; label = [] }

-- ".. or verb label alike": and two verbs with labels alike the same verb
abbrev pub OneVerb : Type 0
OneVerb = (policy : List ℕ) (P : Policy) → ReadAs policy P → (i j : ℕ) → i < length P.verbs → j < length P.verbs
    → alike (get_or P.verbs i nameless).label (get_or P.verbs j nameless).label ≡ true → i ≡ j

-- "Labels handed out keep their own bytes": they are a part of the policy's, whatever the policy and the number
abbrev pub OwnBytes : Type 0
OwnBytes = (policy : List ℕ) (c : ℕ) → (p n : ℕ) × (p + n ≤ length policy) × (label_of policy c ≡ take n (drop p policy))

-- ---- "a policy with "Arm" and "arm" of one kind was accepted and is now refused with 4"

-- a policy of a thing and a constant of a kind, with labels of three bytes, without verbs and assertions
abbrev pub two_constants : ℕ → List ℕ → List ℕ → List ℕ
two_constants kind l r = 1 ∷ 0 ∷ 0 ∷ 0 ∷ 16 ∷ 0 ∷ 2 ∷ (4 ∷ 2 ∷ l) ++ (4 ∷ kind ∷ r) ++ (0 ∷ 0 ∷ 0 ∷ 0 ∷ [])

abbrev place : Reading Accepted → ℕ × ℕ
place (got A e) = (0, e)
place (refused n p) = (n, p)

-- alike to the first; of another kind; `A@m` beside "a`m"
abbrev pub Arms : Type 0
Arms = ◌≡◌ {A = List (ℕ × ℕ)}
    (place (read_policy (two_constants 2 (65 ∷ 114 ∷ 109 ∷ []) (97 ∷ 114 ∷ 109 ∷ [])))
    ∷ place (read_policy (two_constants 1 (65 ∷ 114 ∷ 109 ∷ []) (97 ∷ 114 ∷ 109 ∷ [])))
    ∷ place (read_policy (two_constants 2 (65 ∷ 64 ∷ 109 ∷ []) (97 ∷ 96 ∷ 109 ∷ [])))
    ∷ [])
    ((4, 12) ∷ (0, 21) ∷ (0, 21) ∷ [])
