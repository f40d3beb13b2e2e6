-- Numbers laid into a lent buffer, a search by number, and a label beside one in the policy: one step on, as the code takes it.
use mathlib.Core.Path.{◌≡◌, refl, sym, ap, ap₂, ◌∙◌}
use mathlib.Core.Bool.{Bool, true, false}
use mathlib.Core.List.{List, [], ◌∷◌, ◌++◌}
use Prim.Native.Nat.{ℕ, zero, suc, ◌+◌, ◌-◌, min, ◌≤◌, ◌<◌}
use native.Mathlib.Numerals.{add-one}
use native.Mathlib.Omega.{arith}
use lib.ListN.{length, length-take, get_or, set, take, drop}
use lib.Seq.{ext_get_or}
use Rattle.wire.proofs.Reading.{choose_true, choose_false}
use Rattle.model.specs.Bytes.{byte_at, bytes_at, choose}
use Rattle.model.specs.Values.{alike}
use Rattle.labels.proofs.Laws.{alike_lengths}
use Rattle.demands.specs.Lookups.{laid, no_number, first_of}
use Rattle.model.proofs.ByteFacts.{bytes_length, bytes_at_law}

-- ---- the first numbers of L over the first places of a buffer

abbrev pub over : List ℕ → List ℕ → ℕ → List ℕ
over L t i = take i L ++ drop i t

pub over_next : (L t : List ℕ) (i : ℕ) → i < length L → i < length t → set (over L t i) i (get_or L i 0) ≡ over L t (i + 1)
over_next L t i h k = go L t i h k ∙ ap (over L t) (sym (add-one i))
  where
    go : (L t : List ℕ) (i : ℕ) → i < length L → i < length t → set (over L t i) i (get_or L i 0) ≡ over L t (suc i)
    go [] t i h k = absurd (omega arith)
    go (a ∷ L) [] i h k = absurd (omega arith)
    go (a ∷ L) (b ∷ t) zero h k = refl
    go (a ∷ L) (b ∷ t) (suc i) h k = ap (λ (l : List ℕ). a ∷ l) (go L t i (omega arith) (omega arith))

-- as many as fit
pub over_all : (L t : List ℕ) (n i : ℕ) → n ≡ min (length L) (length t) → length (take n L) ≤ i → i ≤ length (take n L) → over L t i ≡ laid L t
unfolding laid
over_all L t n i e h k = ap (over L t) (let l = length-take n L in omega arith) ∙ go L t
  where
    go : (L t : List ℕ) → over L t (min (length L) (length t)) ≡ take (length t) L ++ drop (length L) t
    go [] [] = refl
    go [] (b ∷ t) = let e : min 0 (suc (length t)) ≡ 0 = omega arith in rw e
    go (a ∷ L) [] = let e : min (suc (length L)) 0 ≡ 0 = omega arith in rw e
    go (a ∷ L) (b ∷ t) =
        let e : min (suc (length L)) (suc (length t)) ≡ suc (min (length L) (length t)) = omega arith in
        rw e (ap (λ (l : List ℕ). a ∷ l) (go L t))

pub nothing_laid : (t : List ℕ) → t ≡ laid [] t
unfolding laid
nothing_laid [] = refl
nothing_laid (b ∷ t) = refl

-- ---- a search by number

module _ (f : ℕ → Bool) (n i : ℕ) where
  -- of those from i on: there are none, the first passes, or it doesn't
  pub first_none : n ≤ i → first_of f i (n - i) ≡ no_number
  unfolding first_of
  first_none h = let e : n - i ≡ 0 = omega arith in rw e

  pub first_here_law : i < n → f i ≡ true → first_of f i (n - i) ≡ i
  unfolding first_of
  first_here_law h e = let k : n - i ≡ suc (n - (i + 1)) = omega arith in rw k (choose_true i _ e)

  pub first_on : i < n → f i ≡ false → first_of f i (n - i) ≡ first_of f (i + 1) (n - (i + 1))
  unfolding first_of
  first_on h e = let k : n - i ≡ suc (n - (i + 1)) = omega arith in rw (k, add-one) (choose_false i _ e)

-- tests that agree on the numbers searched find the same
pub first_same : (f g : ℕ → Bool) (i n : ℕ) → ((j : ℕ) → i ≤ j → j < i + n → f j ≡ g j) → first_of f i n ≡ first_of g i n
unfolding first_of
first_same f g i zero h = refl
first_same f g i (suc n) h =
    ap₂ (λ (b : Bool) (r : ℕ). choose b i r) (h i (omega arith) (omega arith)) (first_same f g (suc i) n (λ j k l. h j (omega arith) (omega arith)))

-- ---- labels

all_bytes_law : (l : List ℕ) → bytes_at (length l) l 0 ≡ l
all_bytes_law l =
    ext_get_or 0 (bytes_at (length l) l 0) l (bytes_length (length l) l 0)
    (λ i h. let k : i < length l = rw (bytes_length (length l) l 0) at h in let e : 0 + i ≡ i = omega arith in bytes_at_law (length l) l 0 i k ∙ ap
    (byte_at l) e)

-- the n bytes at p of the policy, beside a label
module _ (s label : List ℕ) (p n m : ℕ) (d : m ≡ n) where
  pub label_same : m ≡ length label → (z : Bool) → z ≡ alike (bytes_at m s p) (bytes_at m label 0) → z ≡ alike (bytes_at n s p) label
  label_same e z h = h ∙ ap₂ (λ (k : ℕ) (l : List ℕ). alike (bytes_at k s p) l) d (ap (λ (k : ℕ). bytes_at k label 0) e ∙ all_bytes_law label)

  pub label_other : (m ≡ length label → ⊥) → false ≡ alike (bytes_at n s p) label
  label_other h = alike_lengths (bytes_at n s p) label (λ e. h (d ∙ sym (bytes_length n s p) ∙ e))
