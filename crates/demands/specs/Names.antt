-- The number that a label has: what a call of `secpal_find` gives. `proofs/Names.antt` has the proof.
use Rattle.std.specs.Prelude.{◌≡◌, ◌↔◌, ◌⊎◌, List, true, ℕ, ◌<◌, length, get_or}
use Rattle.model.specs.Limits.{principal, thing}
use Rattle.model.specs.Syntax.{Policy}
use Rattle.model.specs.Kinds.{no_constant}
use Rattle.model.specs.Values.{alike}
use Rattle.model.specs.Layout.{read_policy}
use Rattle.model.specs.Inputs.{ReadAs}
use Rattle.demands.specs.Lookups.{no_number, number_in}

-- what the contract of `secpal_find` says of a call: n is the number that it gave
abbrev pub FindCall : List ℕ → ℕ → List ℕ → ℕ → Type 0
FindCall policy kind label n = n ≡ number_in (read_policy policy) kind label

-- constant i of the policy is a principal or a thing, as asked for, and its label is alike to this one
pub record Named (P : Policy) (kind : ℕ) (label : List ℕ) (i : ℕ) : Type 0 where
  pub there : i < length P.constants
  pub labelled : (kind ≡ principal) ⊎ (kind ≡ thing)
  pub same_kind : (get_or P.constants i no_constant).kind ≡ kind
  pub same_label : alike (get_or P.constants i no_constant).label label ≡ true

-- by refusal 4 at most one constant has a kind and a label, whatever the case of its letters: the number is that of the only one, and none exactly if none has
pub record NumberOf (P : Policy) (kind : ℕ) (label : List ℕ) (n : ℕ) : Type 0 where
  pub found : (i : ℕ) → i < length P.constants → (n ≡ i) ↔ Named P kind label i
  pub none : (n ≡ no_number) ↔ (¬ ((i : ℕ) × Named P kind label i))

abbrev pub TheNumber : Type 0
TheNumber = (policy : List ℕ) (P : Policy) (kind : ℕ) (label : List ℕ) (n : ℕ) → FindCall policy kind label n → ReadAs policy P → NumberOf P kind label n
