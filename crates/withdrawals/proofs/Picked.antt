-- The issuers of those that pass a test by item and issuer, kept one after another in the list that they stand in: the first k are kept, and those from i on
-- are still looked at.
use mathlib.Core.Path.{◌≡◌, refl, sym, ap, ap₂, ◌∙◌}
use mathlib.Core.Bool.{Bool, true, false}
use mathlib.Core.List.{List, [], ◌∷◌, ◌++◌, map, append-nil, append_assoc}
use Prim.Native.Nat.{ℕ, ◌+◌, ◌-◌, ◌≤◌, ◌<◌}
use native.Mathlib.Omega.{arith}
use native.Mathlib.Numerals.{add-one}
use lib.ListN.{length, get_or, set, take, drop, drop_of_length-le}
use lib.Seq.{take-length, take-suc-set, drop-cons, drop-set-lt}
use Rattle.model.specs.Lists.{only, keep}
use Rattle.model.specs.Syntax.{World}
use Rattle.slices.specs.Items.{items_at}
use Rattle.assertions.specs.Assertions.{issuer_read_at}
use Rattle.withdrawals.specs.Left.{entries_at, stays_at, picked}

-- by another test that is the same
pub picked_same : (f g : ℕ → ℕ → Bool) → ((i j : ℕ) → f i j ≡ g i j) → (is js : List ℕ) → picked f is js ≡ picked g is js
unfolding picked
picked_same f g h [] js = refl
picked_same f g h (i ∷ is) [] = refl
picked_same f g h (i ∷ is) (j ∷ js) = ap₂ (λ (b : Bool) (l : List ℕ). only b j ++ l) (h i j) (picked_same f g h is js)

-- without entries all stay
pub none_picked : (W : World) (policy s items issuers : List ℕ) (n : ℕ) → n ≡ 0 → length issuers ≤ length items
    → take (length issuers) issuers ≡ picked (stays_at W (entries_at s n 7) policy) items issuers
unfolding items_at picked
none_picked W policy s items issuers n e l = rw e (take-length issuers ∙ sym (go items issuers l))
  where
    go : (is js : List ℕ) → length js ≤ length is → picked (stays_at W [] policy) is js ≡ js
    go [] [] l = refl
    go [] (j ∷ js) l = absurd (omega arith)
    go (i ∷ is) [] l = refl
    go (i ∷ is) (j ∷ js) l = ap (◌∷◌ j) (go is js (omega arith))

-- where each issuer stands six bytes into its item, the issuer tells the item
pub picked_keep : (f : ℕ → ℕ → Bool) (is : List ℕ) → picked f is (map issuer_read_at is) ≡ keep (λ j. f (j - 6) j) (map issuer_read_at is)
unfolding picked issuer_read_at
picked_keep f [] = refl
picked_keep f (i ∷ is) =
    let e : i + 6 - 6 ≡ i = omega arith in
    ap₂ (λ (b : Bool) (l : List ℕ). only b (i + 6) ++ l) (ap (λ (k : ℕ). f k (i + 6)) (sym e)) (picked_keep f is)

module _ (f : ℕ → ℕ → Bool) (items out : List ℕ) (i k : ℕ) where
  -- what will be kept in the end
  abbrev pub picked_of : List ℕ
  picked_of = take k out ++ picked f (drop i items) (drop i out)

  -- all are looked at
  pub ended : length out ≤ i → take k out ≡ picked_of
  unfolding picked
  ended h = rw (drop_of_length-le out h) (rw (none (drop i items)) (sym (append-nil (take k out))))
    where
      none : (is : List ℕ) → picked f is [] ≡ []
      none [] = refl
      none (i ∷ is) = refl

  -- the next one is looked at
  module _ (few : k ≤ i) (there : i < length out) (listed : i < length items) where
    abbrev x : ℕ
    x = get_or out i 0

    abbrev rest : List ℕ
    rest = picked f (drop (i + 1) items) (drop (i + 1) out)

    next : picked f (drop i items) (drop i out) ≡ only (f (get_or items i 0) x) x ++ rest
    unfolding picked
    next = rw (drop-cons items i 0 listed, drop-cons out i 0 there, add-one i) refl

    pub passed : f (get_or items i 0) x ≡ false → take k out ++ rest ≡ picked_of
    passed e = rw (next, e) refl

    pub went : f (get_or items i 0) x ≡ true → take (k + 1) (set out k x) ++ picked f (drop (i + 1) items) (drop (i + 1) (set out k x)) ≡ picked_of
    went e =
        rw (next, e, drop-set-lt (i + 1) out k x (omega arith), add-one k, take-suc-set out k x (omega arith))
        (append_assoc (take k out) (x ∷ []) rest)
