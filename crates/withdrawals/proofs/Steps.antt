-- The definitions of the reader, one step on, as the code takes them.
use mathlib.Core.Path.{◌≡◌, refl, ap, ◌∙◌}
use mathlib.Core.Bool.{Bool, true, false, ◌&&◌}
use mathlib.Core.List.{List}
use Prim.Native.Nat.{ℕ, zero, suc, ◌+◌, ◌*◌, ◌≤◌}
use Rattle.std.specs.List.{list_all, range_with_len}
use native.Mathlib.Omega.{arith}
use lib.ListN.{length}
use borrow.Author.Tests.{ltb-false}
use Rattle.model.specs.Bytes.{choose}
use Rattle.model.specs.Entries.{withdrawal_end, withdrawal_form}
use Rattle.withdrawals.specs.Reading.{test_closed, tests_closed}

-- ---- constraints without variables

-- none of n from p on has any, each by its number
pub closed_each : (s : List ℕ) (n p : ℕ) → list_all (λ (i : ℕ). test_closed s (p + 5 * i)) (range_with_len 0 n) ≡ tests_closed n s p
unfolding tests_closed
closed_each s n p = go n 0 ∙ ap (tests_closed n s) (let e : p + 5 * 0 ≡ p = omega arith in e)
  where
    go : (n i : ℕ) → list_all (λ (i : ℕ). test_closed s (p + 5 * i)) (range_with_len i n) ≡ tests_closed n s (p + 5 * i)
    go zero i = refl
    go (suc n) i =
        let e : p + 5 * (i + 1) ≡ p + 5 * i + 5 = omega arith in
        ap (λ (b : Bool). test_closed s (p + 5 * i) && b) (go n (i + 1) ∙ ap (tests_closed n s) e)

-- where an entry ends: by the end of the bytes
yes_second : (a b : Bool) → choose a false b ≡ true → (a ≡ false) × (b ≡ true)
unfolding choose
yes_second true b h = absurd (let z : ◌≡◌ {A = ℕ} 0 1 = cc in omega arith)
yes_second false b h = (refl, h)

-- what a form that is right tells
pub form_within : (s : List ℕ) (at : ℕ) → withdrawal_form s at ≡ true → withdrawal_end s at ≤ length s
unfolding withdrawal_form
form_within s at h = ltb-false _ _ (yes_second _ _ (yes_second _ _ (yes_second _ _ h).1).1).0
