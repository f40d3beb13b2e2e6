-- Tables that a loop fills: what is still to be put down, one turn on.
use mathlib.Core.Path.{◌≡◌, refl, sym, ◌∙◌, ap}
use Rattle.std.proofs.Common.{append_assoc}
use mathlib.Core.Bool.{Bool, true, false}
use mathlib.Core.List.{List, [], ◌∷◌, ◌++◌, map}
use Prim.Native.Nat.{ℕ, zero, suc, ◌+◌, ◌-◌, ◌*◌, ◌≤◌, ◌<◌}
use native.Mathlib.Numerals.{add-one}
use native.Mathlib.Omega.{arith}
use borrow.Rule.Slice.PartMut.{put_mid}
use lib.ListN.{length, set, take, drop, replicate, length-replicate, length-map, length-append}
use lib.Seq.{sets, sets-eq, drop-drop}
use Rattle.model.specs.Lists.{each}
use Rattle.model.specs.Bytes.{byte_at, choose}
use Rattle.model.specs.Readings.{item_end}
use Rattle.slices.specs.Items.{starts_at}
use Rattle.assertions.specs.Assertions.{issuer_read_at}
use Rattle.phrases.proofs.Laws.{left}
use Rattle.policy.specs.declared.Index.{Index}
use Rattle.policy.specs.Index.{held, with_tables, empty, kind_of, row_at, kinds_at, signatures_at}

pub any_choice : (b : Bool) (x y : List ℕ) (n : ℕ) → length x ≡ n → length y ≡ n → length (choose b x y) ≡ n
unfolding choose
any_choice true x y n d e = d
any_choice false x y n d e = e

drop_replicate : (k n a : ℕ) → drop k (replicate n a) ≡ replicate (n - k) a
drop_replicate zero n a = let e : n ≡ n - 0 = omega arith in ap (λ (m : ℕ). replicate m a) e
drop_replicate (suc k) zero a = let e : 0 ≡ 0 - suc k = omega arith in ap (λ (m : ℕ). replicate m a) e
drop_replicate (suc k) (suc n) a = let e : n - k ≡ suc n - suc k = omega arith in drop_replicate k n a ∙ ap (λ (m : ℕ). replicate m a) e

-- numbers put down from the front of a table of zeros
pub sets_held : (n : ℕ) (l : List ℕ) → length l ≤ n → sets (replicate n 0) 0 l ≡ held n l
unfolding held
sets_held n l h =
    let e : 0 + length l ≡ length l = omega arith in
    let w : 0 + length l ≤ length {A = ℕ} (replicate n 0) = rw length-replicate (omega arith) in
    sets-eq l (replicate n 0) 0 w ∙ ap (λ (r : List ℕ). l ++ r) (ap (λ (k : ℕ). drop k (replicate n 0)) e ∙ drop_replicate (length l) n 0)

pub starts_length : (g : ℕ → ℕ) (k p : ℕ) → length (starts_at g k p) ≡ k
unfolding starts_at
starts_length g zero p = refl
starts_length g (suc k) p = ap suc (starts_length g k (g p))

-- one part of what is put down after the other
sets_append : (t r rest : List ℕ) (j : ℕ) → sets t j (r ++ rest) ≡ sets (sets t j r) (j + length r) rest
sets_append t [] rest j = let e : j ≡ j + 0 = omega arith in ap (λ (k : ℕ). sets t k rest) e
sets_append t (x ∷ r) rest j =
    let e : suc j + length r ≡ j + suc (length r) = omega arith in
    sets_append (set t j x) r rest (suc j) ∙ ap (λ (k : ℕ). sets (sets (set t j x) (suc j) r) k rest) e

-- a part that is copied in is put down there
part_put : (t r : List ℕ) (a k : ℕ) → a + k ≤ length t → length r ≡ k → put_mid a k t r ≡ sets t a r
part_put t r a k h l =
    let w : a + length r ≤ length t = omega arith in
    sym (sets-eq r t a w
    ∙ append_assoc (take a t) r (drop (a + length r) t)
    ∙ ap (λ (n : ℕ). take a t ++ (r ++ drop (a + n) t)) l
    ∙ ap (λ (x : List ℕ). take a t ++ (r ++ x)) (sym (drop-drop k a t)))

pub mul_less_none : (m n : ℕ) → m * (n - 0) ≡ m * n
mul_less_none m n = ap (λ (k : ℕ). m * k) (let e : n - 0 ≡ n = omega arith in e)

pub mul_one_less : (m n i : ℕ) → i < n → m * (n - i) ≡ m * (n - (i + 1)) + m
mul_one_less m n i h = rw (left n i h) (Rattle.std.proofs.Math.Nat.mul-suc m (n - (i + 1)))

module _ (g : ℕ → ℕ) where
  -- offsets
  pub left_starts : (t : List ℕ) (n i at y : ℕ) → i < n → y ≡ g at → sets t i (starts_at g (n - i) at) ≡ sets (set t i at) (i + 1) (starts_at g (n - (i + 1)) y)
  unfolding starts_at
  left_starts t n i at y h d = rw (left n i h, add-one, d)

  -- a number of each item
  pub left_map : (f : ℕ → ℕ) (t : List ℕ) (n i at y x : ℕ) → i < n → y ≡ g at → x ≡ f at
      → sets t i (map f (starts_at g (n - i) at)) ≡ sets (set t i x) (i + 1) (map f (starts_at g (n - (i + 1)) y))
  unfolding starts_at
  left_map f t n i at y x h d e = rw (left n i h, add-one, d, e)

  -- four numbers of each item
  pub left_rows : (f : ℕ → List ℕ) (t : List ℕ) (n i at y : ℕ) (r : List ℕ) (k : ℕ) → i < n → y ≡ g at → r ≡ f at → length r ≡ 4 → k ≡ 4
      → 4 * i + 8 ≤ length t
      → sets t (4 * i + 4) (each (starts_at g (n - i) at) f) ≡ sets (put_mid (4 * i + 4) k t r) (4 * (i + 1) + 4) (each (starts_at g (n - (i + 1)) y) f)
  unfolding starts_at
  left_rows f t n i at y r k h d e l m w =
      let rest = each (starts_at g (n - (i + 1)) (g at)) f in
      let q : 4 * i + 4 + length r ≡ 4 * (i + 1) + 4 = omega arith in
      let b : 4 * i + 4 + k ≤ length t = omega arith in
      let v : length r ≡ k = omega arith in
      ap (λ (k : ℕ). sets t (4 * i + 4) (each (starts_at g k at) f)) (left n i h)
      ∙ ap (λ (x : List ℕ). sets t (4 * i + 4) (x ++ rest)) (sym e)
      ∙ sets_append t r rest (4 * i + 4)
      ∙ ap (λ (j : ℕ). sets (sets t (4 * i + 4) r) j rest) q
      ∙ ap (λ (x : List ℕ). sets x (4 * (i + 1) + 4) rest) (sym (part_put t r (4 * i + 4) k b v))
      ∙ ap (λ (z : ℕ). sets (put_mid (4 * i + 4) k t r) (4 * (i + 1) + 4) (each (starts_at g (n - (i + 1)) z) f)) (sym d)

  -- everything is left
  pub all_starts : (t : List ℕ) (n at : ℕ) → sets t 0 (starts_at g (n - 0) at) ≡ sets t 0 (starts_at g n at)
  all_starts t n at = let e : n - 0 ≡ n = omega arith in rw e

  pub all_map : (f : ℕ → ℕ) (t : List ℕ) (n at : ℕ) → sets t 0 (map f (starts_at g (n - 0) at)) ≡ sets t 0 (map f (starts_at g n at))
  all_map f t n at = let e : n - 0 ≡ n = omega arith in rw e

  pub all_rows : (f : ℕ → List ℕ) (t : List ℕ) (n at : ℕ) → sets t 4 (each (starts_at g (n - 0) at) f) ≡ sets t 4 (each (starts_at g n at) f)
  all_rows f t n at = let e : n - 0 ≡ n = omega arith in rw e

  -- nothing is left
  none_left : (n i at : ℕ) → n ≤ i → starts_at g (n - i) at ≡ []
  unfolding starts_at
  none_left n i at h = let e : n - i ≡ 0 = omega arith in rw e

  pub done_starts : (t : List ℕ) (n i j at : ℕ) → n ≤ i → sets t j (starts_at g (n - i) at) ≡ t
  done_starts t n i j at h = rw (none_left n i at h)

  pub done_map : (f : ℕ → ℕ) (t : List ℕ) (n i j at : ℕ) → n ≤ i → sets t j (map f (starts_at g (n - i) at)) ≡ t
  done_map f t n i j at h = rw (none_left n i at h)

  pub done_rows : (f : ℕ → List ℕ) (t : List ℕ) (n i j at : ℕ) → n ≤ i → sets t j (each (starts_at g (n - i) at) f) ≡ t
  done_rows f t n i j at h = rw (none_left n i at h)

-- ---- the code's own tables

pub issuer_is : (at r : ℕ) → r ≡ at + 6 → r ≡ issuer_read_at at
unfolding issuer_read_at
issuer_is at r e = e

pub row_length : (s : List ℕ) (at : ℕ) → length (row_at s at) ≡ 4
unfolding row_at
row_length s at = any_choice _ _ _ 4 refl (any_choice _ _ _ 4 refl (any_choice _ _ _ 4 refl refl))

pub kind_at : (s : List ℕ) (at r : ℕ) → r ≡ byte_at s (at + 1) → r ≡ kind_of s at
unfolding kind_of
kind_at s at r e = e

-- ---- a table of zeros, filled

pub starts_held : (g : ℕ → ℕ) (m n p : ℕ) → n ≤ m → sets (replicate m 0) 0 (starts_at g n p) ≡ held m (starts_at g n p)
starts_held g m n p h = sets_held m (starts_at g n p) (rw (starts_length g n p) h)

pub issuers_held : (g : ℕ → ℕ) (n p : ℕ) → n ≤ 256 → sets (replicate 256 0) 0 (map issuer_read_at (starts_at g n p)) ≡ held 256
    (map issuer_read_at (starts_at g n p))
issuers_held g n p h = sets_held 256 _ (rw (length-map, starts_length) h)

-- the kinds as they are put into an index that was empty
pub kinds_read : (s : List ℕ) (p : ℕ) {x : Index} {n m : ℕ} {u : List ℕ} → x ≡ empty → n ≡ m → m ≤ 255
    → u ≡ sets x.kinds 0 (map (kind_of s) (starts_at (item_end s) n p)) → u ≡ kinds_at s m p
unfolding with_tables kinds_at
kinds_read s p {m = m} z e h w =
    w ∙ rw (z, e) (sets_held 255 (map (kind_of s) (starts_at (item_end s) m p)) (rw (length-map, starts_length) h))

rows_length : (s : List ℕ) (g : ℕ → ℕ) (k p : ℕ) → length (each (starts_at g k p) (row_at s)) ≡ 4 * k
unfolding starts_at
rows_length s g zero p = refl
rows_length s g (suc k) p = length-append (row_at s p) _ ∙ (let a = row_length s p in let b = rows_length s g k (g p) in omega arith)

-- and the rows
pub signatures_read : (s : List ℕ) (p : ℕ) {x : Index} {n m : ℕ} {u : List ℕ} → x ≡ empty → n ≡ m → m ≤ 64
    → u ≡ sets (sets x.signatures 0 (2 ∷ 1 ∷ [])) 4 (each (starts_at (item_end s) n p) (row_at s)) → u ≡ signatures_at s m p
unfolding with_tables signatures_at
signatures_read s p {m = m} z e h w =
    let a = rows_length s (item_end s) m p in
    w ∙ rw (z, e) (sets_held 260 (2 ∷ 1 ∷ 0 ∷ 0 ∷ each (starts_at (item_end s) m p) (row_at s)) (omega arith))
