-- Blocks of bytes of one width, one after another at the front of a buffer, and 0 after them.
use mathlib.Core.Path.{◌≡◌, refl, sym, ap, ◌∙◌}
use mathlib.Core.List.{List, [], ◌∷◌, ◌++◌, Memᴰ, append_assoc}
use Prim.Native.Nat.{ℕ, zero, suc, ◌+◌, ◌-◌, ◌*◌, ◌≤◌, ◌<◌}
use native.Mathlib.Nat.{not-suc-le-zero, le_of_suc-le-suc, mul-zero, mul-suc, add_comm}
use native.Mathlib.Decide.{dec_lt}
use native.Mathlib.Omega.{arith}
use lib.ListN.{length, take, drop, get_or, replicate, length-append, length-replicate, get_or-replicate, get_or-eq_default}
use lib.Seq.{take_at, drop_at, drop-drop, get_or-append-add}
use lib.Dec.{T}
use Rattle.model.specs.Lists.{each, before}
use Rattle.model.specs.Meant.{Ascends}
use Rattle.model.specs.Bytes.{byte_at}
use Rattle.model.specs.Decision.{at_front}
use Rattle.model.proofs.DecisionFacts.{get_d_in}
use Rattle.demands.specs.Demands.{Filled}

times_suc : (w i : ℕ) → w * suc i ≡ w + w * i
times_suc w i = mul-suc w i ∙ add_comm (w * i) w

module _ {X : Type 0} (f : X → List ℕ) (w : ℕ) where
  -- block i is that of element i
  pub block_at : (d : X) (l : List X) (rest : List ℕ) → ((x : X) → Memᴰ x l → length (f x) ≡ w) → (i : ℕ) → i < length l
      → take w (drop (w * i) (each l f ++ rest)) ≡ f (get_or l i d)
  block_at d [] rest h i k = absurd (not-suc-le-zero k)
  block_at d (x ∷ l) rest h zero k =
      ap (λ (n : ℕ). take w (drop n (each (x ∷ l) f ++ rest))) (mul-zero w)
      ∙ (ap (take w) (append_assoc (f x) (each l f) rest) ∙ take_at (f x) (each l f ++ rest) w (h x (Memᴰ.head refl)))
  block_at d (x ∷ l) rest h (suc i) k =
      ap (λ (n : ℕ). take w (drop n (each (x ∷ l) f ++ rest))) (times_suc w i)
      ∙ (ap (take w)
      (sym (drop-drop (w * i) w (each (x ∷ l) f ++ rest))
      ∙ ap (drop (w * i)) (ap (drop w) (append_assoc (f x) (each l f) rest) ∙ drop_at (f x) (each l f ++ rest) w (h x (Memᴰ.head refl))))
      ∙ block_at d l rest (λ y m. h y (Memᴰ.tail m)) i (le_of_suc-le-suc k))

  pub blocks_length : (l : List X) → ((x : X) → Memᴰ x l → length (f x) ≡ w) → length (each l f) ≡ w * length l
  blocks_length [] h = sym (mul-zero w)
  blocks_length (x ∷ l) h =
      length-append (f x) (each l f)
      ∙ (ap (λ (n : ℕ). n + length (each l f)) (h x (Memᴰ.head refl))
      ∙ (ap (λ (n : ℕ). w + n) (blocks_length l (λ y m. h y (Memᴰ.tail m))) ∙ sym (times_suc w (length l))))

-- a buffer with some bytes at its front
zeros : (n i : ℕ) → byte_at (replicate n 0) i ≡ 0
zeros n i = go (dec_lt i n)
  where
    go : Dec (i < n) → byte_at (replicate n 0) i ≡ 0
    go (yes h) = get_or-replicate n i 0 0 h
    go (no h) = get_or-eq_default (replicate n 0) 0 (let e : length (replicate {A = ℕ} n 0) ≡ n = length-replicate n 0 in omega arith)

pub filled_is : (n : ℕ) (buffer bytes : List ℕ) → length bytes ≡ n → n ≤ length buffer → Filled n buffer (at_front buffer bytes)
filled_is n buffer bytes e h = record {
  fits = h;
  long =
      length-append bytes (replicate (length buffer - length bytes) 0)
      ∙ (ap (λ (m : ℕ). length bytes + m) (length-replicate (length buffer - length bytes) 0) ∙ omega arith);
  rest = λ k l m.
      let q : k ≡ length bytes + (k - length bytes) = omega arith in
      ap (λ (i : ℕ). get_or (at_front buffer bytes) i 0) q
      ∙ (get_or-append-add bytes (replicate (length buffer - length bytes) 0) (k - length bytes) 0 ∙ zeros (length buffer - length bytes) (k - length bytes));
}

-- of an ascending list, the earlier comes before the later
pub ascends_at : {X : Type 0} (key : X → List ℕ) (d : X) (l : List X) → Ascends key l → (i j : ℕ) → i < j → j < length l
    → T (before (key (get_or l i d)) (key (get_or l j d)))
ascends_at key d [] a i j h k = absurd (not-suc-le-zero k)
ascends_at key d (x ∷ l) a i zero h k = absurd (not-suc-le-zero h)
ascends_at key d (x ∷ l) a zero (suc j) h k = a.0 (get_or l j d) (get_d_in d l j (le_of_suc-le-suc k))
ascends_at key d (x ∷ l) a (suc i) (suc j) h k = ascends_at key d l a.1 i j (le_of_suc-le-suc h) (le_of_suc-le-suc k)
