-- Entries by number: how many there are, the one with a number, and lists whose entries agree one by one.
use mathlib.Core.Path.{◌≡◌, refl, sym, ap, ap₂, ◌∙◌}
use mathlib.Core.List.{List, [], ◌∷◌, ◌++◌}
use Prim.Native.Nat.{ℕ, zero, suc, ◌<◌}
use native.Mathlib.Decide.{ℕ_discrete}
use native.Mathlib.Omega.{arith}
use lib.ListN.{length, get_or, length-append, get_or-append}
use lib.Seq.{get_or-append_seam}
use Rattle.model.specs.Syntax.{Link}
use Rattle.hierarchy.specs.Links.{firstly}

pub firstly_length : (f : ℕ → Link) (n : ℕ) → length (firstly f n) ≡ n
unfolding firstly
firstly_length f zero = refl
firstly_length f (suc n) = omega (arith, length-append (firstly f n) (f n ∷ []), firstly_length f n)

pub firstly_at : (f : ℕ → Link) (d : Link) (n k : ℕ) → k < n → get_or (firstly f n) k d ≡ f k
unfolding firstly
firstly_at f d zero k h = absurd (omega arith)
firstly_at f d (suc n) k h = go (ℕ_discrete k n) (λ l. firstly_at f d n k l)
  where
    go : Dec (k ≡ n) → (k < n → get_or (firstly f n) k d ≡ f k) → get_or (firstly f n ++ f n ∷ []) k d ≡ f k
    go (yes e) earlier =
        ap (λ (i : ℕ). get_or (firstly f n ++ f n ∷ []) i d) (e ∙ sym (firstly_length f n)) ∙ get_or-append_seam (firstly f n) (f n) [] d ∙ ap f (sym e)
    go (no e) earlier =
        let l : k < length (firstly f n) = (let q = firstly_length f n in omega (arith, e)) in
        get_or-append (firstly f n) (f n ∷ []) d k l ∙ earlier (omega (arith, e))

pub firstly_same : (f g : ℕ → Link) (n : ℕ) → ((k : ℕ) → k < n → f k ≡ g k) → firstly f n ≡ firstly g n
unfolding firstly
firstly_same f g zero e = refl
firstly_same f g (suc n) e =
    ap₂ (λ (l : List Link) (x : Link). l ++ x ∷ []) (firstly_same f g n (λ k h. e k (omega arith))) (e n (omega arith))
