-- The entries whose constraints hold, put aside one after another; and that one of them is for an assertion exactly if some entry removes it.
use mathlib.Core.Path.{◌≡◌, refl, sym, ap, ap₂, ◌∙◌}
use mathlib.Core.Bool.{Bool, true, false, ◌&&◌, ◌||◌, not}
use mathlib.Core.List.{List, [], ◌∷◌, ◌++◌, append-nil, append_assoc}
use Prim.Native.Nat.{ℕ, zero, suc, ◌+◌, ◌*◌, ◌-◌, ◌≤◌, ◌<◌}
use native.Mathlib.Numerals.{add-one}
use native.Mathlib.Decide.{ℕ_discrete}
use native.Mathlib.Omega.{arith}
use lib.ListN.{length, length-set, get_or, set, take}
use Rattle.std.proofs.Common.{get_or-take}
use lib.Seq.{length-take-le, take-suc-set, get_or-set_same, get_or-set_other}
use Rattle.wire.specs.Budget.{farthest}
use Rattle.model.specs.Lists.{only, any}
use Rattle.model.specs.Syntax.{World}
use Rattle.model.specs.Bytes.{u16_at, u32_at}
use Rattle.model.specs.Withdrawals.{removes}
use Rattle.model.specs.Entries.{withdrawal_end}
use Rattle.phrases.proofs.Laws.{left, done}
use Rattle.slices.specs.Items.{starts_at, items_at}
use Rattle.withdrawals.specs.Left.{entries_at, stays_at}
use Rattle.withdrawals.specs.Sought.{holds_at, holding_at, named_at, unnamed_at, Within}
use Rattle.withdrawals.proofs.Leaving.{and_false}

-- ---- one entry more

module _ (W : World) (s : List ℕ) (n : ℕ) where
  -- of the first i of n entries k are put aside, and those from `at` on are still to be looked at
  pub record Holding (ats : List ℕ) (i at k : ℕ) : Type 0 where
    pub fewer : k ≤ i
    pub long : length ats ≡ 256
    pub near : at ≤ 7 + 2048 * i
    pub aside : (j : ℕ) → j < k → get_or ats j 0 + 2048 ≤ farthest
    pub kept : take k ats ++ holding_at W s (n - i) at ≡ holding_at W s n 7

  pub holding_start : (ats : List ℕ) → length ats ≡ 256 → Holding ats 0 7 0
  holding_start ats l = record {
    fewer = omega arith;
    long = l;
    near = omega arith;
    aside = λ i h. absurd (omega arith);
    kept = ap (λ (m : ℕ). holding_at W s m 7) (omega arith);
  }

  module _ {ats : List ℕ} {i at k : ℕ} (H : Holding ats i at k) (few : n ≤ 256) where
    -- one entry more: its constraints do not hold, or they do
    module _ (h : i < n) (y : ℕ) (end : y ≡ withdrawal_end s at) (l : y ≤ at + 2048) where
      next : holding_at W s (n - i) at ≡ only (holds_at W s at) at ++ holding_at W s (n - (i + 1)) y
      unfolding starts_at
      next = rw (left n i h, end)

      pub holding_passed : holds_at W s at ≡ false → Holding ats (i + 1) y k
      holding_passed e = record {
        fewer = (let f = H.fewer in omega arith);
        long = H.long;
        near = (let f = H.near in omega arith);
        aside = H.aside;
        kept = ap (λ (r : List ℕ). take k ats ++ r) (sym (rw e at next)) ∙ H.kept;
      }

      pub holding_went : holds_at W s at ≡ true → Holding (set ats k at) (i + 1) y (k + 1)
      holding_went e = record {
        fewer = (let f = H.fewer in omega arith);
        long = length-set ats k at ∙ H.long;
        near = (let f = H.near in omega arith);
        aside = λ j g. go j g (ℕ_discrete j k);
        kept =
            ap (λ (m : ℕ). take m (set ats k at) ++ rest) (add-one k)
            ∙ (ap (λ (r : List ℕ). r ++ rest) (take-suc-set ats k at room)
            ∙ (append_assoc (take k ats) (at ∷ []) rest
            ∙ (ap (λ (r : List ℕ). take k ats ++ r) (sym (rw e at next)) ∙ H.kept)));
      }
        where
          rest : List ℕ
          rest = holding_at W s (n - (i + 1)) y

          room : k < length ats
          room = let f = H.fewer in let g = H.long in omega arith

          go : (j : ℕ) → j < k + 1 → Dec (j ≡ k) → get_or (set ats k at) j 0 + 2048 ≤ farthest
          go j g (yes q) = rw (q, get_or-set_same ats k at 0 room) (let f = H.near in omega arith)
          go j g (no q) = rw (get_or-set_other ats k j at 0 q) (H.aside j (omega arith))

    -- all are looked at
    pub holding_end : n ≤ i → i ≤ n → Within (take k ats) × (k ≤ 256) × (take k ats ≡ holding_at W s n 7)
    unfolding starts_at
    holding_end h m =
        let e = done n i h in
        let long = length-take-le k ats room in (
          record { few = omega (arith, long, H.fewer); near = λ j g. let l : j < k = omega (arith, g, long) in rw (get_or-take k ats j 0 l) (H.aside j l) },
          omega (arith, H.fewer),
          sym (append-nil (take k ats)) ∙ (rw e at H.kept),
        )
      where
        room : k ≤ length ats
        room = omega (arith, H.fewer, H.long)

-- ---- an entry removes exactly if its constraints hold and it is for the issuer and the serial

and_right : (a : Bool) → a ≡ (a && true)
and_right true = refl
and_right false = refl

module _ (W : World) (s : List ℕ) where
  removed : (issuer serial n p : ℕ) → any (named_at s issuer serial) (holding_at W s n p) ≡ any (removes W issuer serial) (entries_at s n p)
  unfolding starts_at items_at
  removed issuer serial zero p = refl
  removed issuer serial (suc n) p = go (holds_at W s p) (removed issuer serial n (withdrawal_end s p))
    where
      rest : List ℕ
      rest = holding_at W s n (withdrawal_end s p)

      others : Bool
      others = any (removes W issuer serial) (entries_at s n (withdrawal_end s p))

      go : (b : Bool) → any (named_at s issuer serial) rest ≡ others
          → any (named_at s issuer serial) (only b p ++ rest) ≡ ((named_at s issuer serial p && b) || others)
      go true e = ap₂ ◌||◌ (and_right (named_at s issuer serial p)) e
      go false e = e ∙ sym (ap (λ (b : Bool). b || others) (and_false (named_at s issuer serial p)))

  pub stays_same : (n : ℕ) (ats : List ℕ) → ats ≡ holding_at W s n 7 → (policy : List ℕ) (item issuer : ℕ)
      → unnamed_at s ats policy item issuer ≡ stays_at W (entries_at s n 7) policy item issuer
  stays_same n ats e policy item issuer = rw e (ap not (removed (u16_at policy issuer) (u32_at policy (item + 2)) n 7))
