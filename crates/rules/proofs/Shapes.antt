-- What is made of a fact's places is the places of what the rules make of the fact. A fact has fourteen places, so it is the list of them.
use mathlib.Core.Path.{◌≡◌, refl, sym, ap}
use mathlib.Core.List.{List, ◌∷◌, map}
use Prim.Native.Nat.{ℕ, suc, ◌≤◌}
use lib.ListN.{length, get_or, drop}
use lib.Dec.{eqb-suc-zero}
use Rattle.std.specs.List.{range_with_len}
use Rattle.std.proofs.lemmas.List.FromFn.{fill_by_all}
use Rattle.model.specs.Limits.{unlimited}
use Rattle.model.specs.Lists.{pad}
use Rattle.model.specs.Syntax.{Fact, flat, can_say, said, about, subject}
use Rattle.model.specs.Records.{key, nest, Formed}
use Rattle.fact.specs.Places.{inner_of, heard_of, about_of, top_of}
use Rattle.model.proofs.ByteFacts.{length_pad}
use Rattle.model.proofs.ShapeFacts.{key_length}

-- a list is that of its places
places : (n : ℕ) (l : List ℕ) → length l ≡ n → map (λ (k : ℕ). get_or l k 0) (range_with_len 0 n) ≡ l
places n l e = sym (fill_by_all (λ (k : ℕ). get_or l k 0) l n 0 e (λ k h. refl))

module _ (a d : ℕ) where
  all_key : (f : Fact ℕ) → Formed 3 f → map (λ (k : ℕ). get_or (key (said a d f)) k 0) (range_with_len 0 14) ≡ key (said a d f)
  all_key f h = places 14 (key (said a d f)) (key_length (said a d f) h)

  pub heard_key : (b : ℕ) (f : Fact ℕ) → Formed 3 f → heard_of (key (said a d f)) b ≡ key (said b unlimited f)
  unfolding heard_of
  heard_key b f h = ap (λ (l : List ℕ). b ∷ unlimited ∷ drop 2 l) (all_key f h)

  pub about_key : (b : ℕ) (f : Fact ℕ) → Formed 3 f → about_of (key (said a d f)) b ≡ key (said a d (about b f))
  unfolding about_of
  about_key b (flat s v ps) h = ap (λ (l : List ℕ). a ∷ d ∷ 0 ∷ 0 ∷ 0 ∷ 0 ∷ 0 ∷ 0 ∷ 0 ∷ b ∷ drop 10 l) (all_key (flat s v ps) h)
  about_key b (can_say s k f) h =
      rw (eqb-suc-zero (nest f)) (ap (λ (l : List ℕ). a ∷ d ∷ suc (nest f) ∷ b ∷ drop 4 l) (all_key (can_say s k f) h))

  pub top_key : (f : Fact ℕ) → top_of (key (said a d f)) ≡ subject f
  unfolding top_of
  top_key (flat s v ps) = refl
  top_key (can_say s k f) = rw (eqb-suc-zero (nest f)) refl

  three : (ps : List ℕ) → length ps ≤ 3 → map (λ (k : ℕ). get_or (pad 3 ps) k 0) (range_with_len 0 3) ≡ pad 3 ps
  three ps h = places 3 (pad 3 ps) (length_pad 3 ps h)

  pub inner_key : (b k : ℕ) (f : Fact ℕ) → Formed 2 f → inner_of (key (said a d (can_say b k f))) ≡ key (said b k f)
  unfolding inner_of
  inner_key b k (flat s v ps) h = ap (λ (l : List ℕ). b ∷ k ∷ 0 ∷ 0 ∷ 0 ∷ 0 ∷ 0 ∷ 0 ∷ 0 ∷ s ∷ v ∷ l) (three ps h)
  inner_key b k (can_say s1 d1 (flat s v ps)) h = ap (λ (l : List ℕ). b ∷ k ∷ 1 ∷ s1 ∷ d1 ∷ 0 ∷ 0 ∷ 0 ∷ 0 ∷ s ∷ v ∷ l) (three ps h)
  inner_key b k (can_say s1 d1 (can_say s2 d2 (flat s v ps))) h = ap (λ (l : List ℕ). b ∷ k ∷ 2 ∷ s1 ∷ d1 ∷ s2 ∷ d2 ∷ 0 ∷ 0 ∷ s ∷ v ∷ l) (three ps h)
  inner_key b k (can_say s1 d1 (can_say s2 d2 (can_say s3 d3 f))) h = absurd h
