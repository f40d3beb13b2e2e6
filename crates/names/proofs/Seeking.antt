-- The names that are listed: where they stand, their chains, and one more.
use mathlib.Core.Path.{◌≡◌, refl, sym, ap, ap₂, ◌∙◌}
use mathlib.Core.Bool.{Bool, true}
use mathlib.Core.List.{List, [], ◌∷◌, ◌++◌}
use Prim.Native.Nat.{ℕ, zero, suc, ◌+◌, ◌≤◌, ◌<◌}
use native.Mathlib.Decide.{ℕ_discrete}
use native.Mathlib.Omega.{arith}
use Rattle.std.proofs.Common.{get_or-take}
use lib.ListN.{length, get_or, set, take, drop, length-set}
use lib.Seq.{length-take-le, take-suc, get_or-set_same, get_or-set_other}
use Rattle.model.specs.Readings.{item_end, ends_by}
use Rattle.labels.specs.Hash.{buckets}
use Rattle.chains.specs.Chains.{linked}
use Rattle.chains.specs.Offsets.{ChainedBy}
use Rattle.chains.proofs.Offsets.{one_chained, set_chained, taken_chained}
use Rattle.slices.specs.Items.{starts_at}
use Rattle.names.specs.Seeking.{Listed}

pub starts_snoc : (next : ℕ → ℕ) (k p : ℕ) → starts_at next k p ++ ends_by next k p ∷ [] ≡ starts_at next (suc k) p
unfolding starts_at ends_by
starts_snoc next zero p = refl
starts_snoc next (suc k) p = ap (λ (l : List ℕ). p ∷ l) (starts_snoc next k (next p))

-- ---- of the items from p on k are listed

pub record Going (form : List ℕ → Bool) (bucket : List ℕ → ℕ) (s : List ℕ) (p k : ℕ) (ats links : List ℕ) : Type 0 where
  pub there : k ≤ length ats
  pub at : (j : ℕ) → j < k → get_or ats j 0 ≡ ends_by (item_end s) j p
  pub chained : ChainedBy (λ (at : ℕ). bucket (drop at s)) links buckets ats k
  pub within : (j : ℕ) → j < k → get_or ats j 0 ≤ length s
  pub right : (j : ℕ) → j < k → form (drop (get_or ats j 0) s) ≡ true

module _ (form : List ℕ → Bool) (bucket : List ℕ → ℕ) (s : List ℕ) (p : ℕ) where
  abbrev key : ℕ → ℕ
  key at = bucket (drop at s)

  -- nothing is listed yet
  pub going_start : (ats links : List ℕ) → ChainedBy key links buckets ats 0 → Going form bucket s p 0 ats links
  going_start ats links h = record {
    there = omega arith;
    at = λ j i. absurd (omega arith);
    chained = h;
    within = λ j i. absurd (omega arith);
    right = λ j i. absurd (omega arith);
  }

  module _ (k : ℕ) (ats links : List ℕ) (G : Going form bucket s p k ats links) where
    -- they stand where the items begin
    pub going_starts : take k ats ≡ starts_at (item_end s) k p
    unfolding starts_at
    going_starts = go k G.there G.at
      where
        go : (n : ℕ) → n ≤ length ats → ((j : ℕ) → j < n → get_or ats j 0 ≡ ends_by (item_end s) j p) → take n ats ≡ starts_at (item_end s) n p
        go zero l h = refl
        go (suc n) l h =
            take-suc ats n 0 (omega arith)
            ∙ ap₂ (λ (xs : List ℕ) (x : ℕ). xs ++ x ∷ []) (go n (omega arith) (λ j i. h j (omega arith))) (h n (omega arith))
            ∙ starts_snoc (item_end s) n p

    -- one item more, at the end
    module _ (a b : ℕ) (d : a ≡ ends_by (item_end s) k p) (right : form (drop a s) ≡ true) (within : a ≤ length s) (e : b ≡ key a) (l : b < buckets)
        (r : k < length ats) (m : buckets + (k + 1) < length links) where
      pub going_next : Going form bucket s p (k + 1) (set ats k a) (linked links buckets k b)
      going_next = record {
        there = rw length-set (omega arith);
        at = λ j i. listed (λ (x : ℕ). x ≡ ends_by (item_end s) j p) j i (λ z. rw z d) (G.at j);
        chained = one_chained key buckets (set ats k a) links (linked links buckets k b) k b (set_chained key ats links buckets k a G.chained)
            (e ∙ ap key (sym (get_or-set_same ats k a 0 r))) l m refl;
        within = λ j i. listed (λ (x : ℕ). x ≤ length s) j i (λ z. within) (G.within j);
        right = λ j i. listed (λ (x : ℕ). form (drop x s) ≡ true) j i (λ z. right) (G.right j);
      }
        where
          -- what the new one has and those before it have, each has
          listed : (P : ℕ → Type 0) (j : ℕ) → j < k + 1 → (j ≡ k → P a) → (j < k → P (get_or ats j 0)) → P (get_or (set ats k a) j 0)
          listed P j i new old = go (ℕ_discrete j k)
            where
              go : Dec (j ≡ k) → P (get_or (set ats k a) j 0)
              go (yes z) = rw z (rw (get_or-set_same ats k a 0 r) (new z))
              go (no z) = rw (get_or-set_other ats k j a 0 z) (old (omega arith))

    -- those that are listed are in chains, and of right form
    pub going_listed : Listed form bucket s (take k ats) links
    going_listed = record {
      chained = taken_chained key ats links buckets k G.there G.chained;
      there = λ j h. let l : j < k = omega (arith, h, length-take-le k ats G.there) in rw (get_or-take k ats j 0 l) (G.within j l);
      right = λ j h. let l : j < k = omega (arith, h, length-take-le k ats G.there) in rw (get_or-take k ats j 0 l) (G.right j l);
    }

pub linked_long : (x l : List ℕ) (m k b : ℕ) → x ≡ linked l m k b → length x ≡ length l
linked_long x l m k b e = ap length e ∙ simp length-set
