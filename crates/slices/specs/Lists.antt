-- Lists led by a count, whatever their items: `item` says of the bytes that begin with an item how many it has, or why it is refused.
use Rattle.std.specs.Prelude.{ℕ, zero, suc, ◌+◌, List, length, drop, if◌then◌else◌, Result, Ok, Err}
use Rattle.model.specs.Limits.{length_at, header_bytes}
use Rattle.model.specs.Bytes.{u16_at, Reading, got, refused}
use Rattle.model.specs.Policies.{version_there, length_right}
use Rattle.slices.specs.Steps.{Step, Next, Refused, then_step, number_of, count_right, ended_at}
use Rattle.slices.specs.declared.Reason.{Reason}

-- an item that stands at an offset: where the next one does, or the refusal with this place
unfoldable pub standing : ℕ → Result ℕ Reason → Step
standing at (Ok n) = Next (at + n)
standing at (Err r) = Refused (number_of r) at

module _ (item : List ℕ → Result ℕ Reason) (s : List ℕ) where
  -- the item at an offset: the bytes from there on begin with it
  abbrev pub item_by : ℕ → Step
  item_by at = standing at (item (drop at s))

  -- n items from an offset on
  unfoldable pub items_by : ℕ → ℕ → Step
  items_by zero at = Next at
  items_by (suc n) at = then_step (item_by at) (items_by n)

  -- the count at p is there and in its range, and nothing is left over after the items
  unfoldable pub list_by : ℕ → ℕ → ℕ → Step
  list_by lowest highest p =
      if count_right s lowest highest p then then_step (items_by (u16_at s p) (p + 2)) (ended_at s) else Refused 3 p

-- version and length are in order: what the slice says begins behind them
unfoldable pub headed_at : ℕ → List ℕ → Step
headed_at latest s = if version_there latest s then (if length_right s then Next header_bytes else Refused 2 length_at) else Refused 1 0

-- a slice that is one list of up to `most` items: how many there are
unfoldable pub only_list_by : (List ℕ → Result ℕ Reason) → List ℕ → ℕ → ℕ → Step
only_list_by item s latest most = then_step (headed_at latest s) (λ p. then_step (list_by item s 0 most p) (λ e. Next (u16_at s p)))

-- what is handed out of a list that was read
unfoldable pub count_of : {A : Type 0} → Reading (List A) → Step
count_of (got xs e) = Next (length xs)
count_of (refused n p) = Refused n p
