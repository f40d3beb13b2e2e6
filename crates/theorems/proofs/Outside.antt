-- Assertions whose issuers are outside the reach change neither the reach nor the assertions that count.
use mathlib.Core.Path.{◌≡◌, refl, sym, ap, subst, ◌∙◌}
use mathlib.Core.Logic.{◌↔◌, ◌⊎◌, inl, inr, ⊎_elim}
use mathlib.Core.List.Memᴰ
use mathlib.Core.List.{List, ◌++◌, Memᴰ}
use mathlib.Core.Bool.{Bool, false}
use Prim.Native.Nat.{ℕ}
use Rattle.model.specs.Lists.{keep, only}
use Rattle.model.specs.Syntax.{Assertion, World}
use Rattle.model.specs.Closure.{by}
use Rattle.model.specs.Reach.{Joins, asks, names, Reach}
use Rattle.model.specs.Reached.{issued_in, reach, counting}
use Rattle.model.specs.Inputs.{Adds, done, keeps, adds}
use Rattle.model.proofs.ListFacts.{member_of, member_in, keep_same}
use Rattle.model.proofs.ClosureFacts.{derives_more}
use Rattle.model.proofs.ReachFacts.{reach_of_law, reach_in}
use Rattle.model.proofs.Tests.{T_iff}

module _ {Q : Assertion → Type 0} where
  pub adds_in : {a : Assertion} {𝒜 ℬ : List Assertion} → Adds Q 𝒜 ℬ → Memᴰ a 𝒜 → Memᴰ a ℬ
  adds_in done m = m
  adds_in (keeps a s) m = ⊎_elim Memᴰ.head (λ n. Memᴰ.tail (adds_in s n)) (Memᴰ.cases_cons m)
  adds_in (adds q s) m = Memᴰ.tail (adds_in s m)

  pub adds_of : {a : Assertion} {𝒜 ℬ : List Assertion} → Adds Q 𝒜 ℬ → Memᴰ a ℬ → Memᴰ a 𝒜 ⊎ Q a
  adds_of done m = inl m
  adds_of (keeps b s) m = ⊎_elim (λ e. inl (Memᴰ.head e)) (λ n. ⊎_elim (λ k. inl (Memᴰ.tail k)) inr (adds_of s n)) (Memᴰ.cases_cons m)
  adds_of (adds q s) m = ⊎_elim (λ e. inr (subst Q (sym e) q)) (λ n. adds_of s n) (Memᴰ.cases_cons m)

-- whoever joins still joins with more assertions
pub joins_more : (W : World) (asked : List ℕ) {Q : Assertion → Type 0} {𝒜 ℬ : List Assertion} → Adds Q 𝒜 ℬ
    → (ps : List ℕ) (p : ℕ) → Joins W 𝒜 asked ps p → Joins W ℬ asked ps p
joins_more W asked s ps p (asks m) = asks m
joins_more W asked s ps p (names m n) = names (adds_in s m) n

module _ (W : World) (asked : List ℕ) (𝒜 ℬ : List Assertion) where
  abbrev pub Outside : Assertion → Type 0
  Outside a = ¬ Reach W 𝒜 asked a.issuer

  module _ (s : Adds Outside 𝒜 ℬ) where
    pub reach_back : (p : ℕ) → Reach W ℬ asked p → Reach W 𝒜 asked p
    reach_back p (by (asks m) h) = by (asks m) (λ y e. absurd (Memᴰ.not-nil e))
    reach_back p (by (names {a} m n) h) =
        let i : Reach W 𝒜 asked a.issuer = reach_back a.issuer (h a.issuer (Memᴰ.head refl)) in
        ⊎_elim
        (λ (k : Memᴰ a 𝒜). by (names k n) (λ y e. reach_back y (h y e)))
        (λ (o : Outside a). absurd (o i))
        (adds_of s m)

    -- the reach is the same
    pub reach_same : (p : ℕ) → Reach W ℬ asked p ↔ Reach W 𝒜 asked p
    reach_same p = (reach_back p, derives_more (joins_more W asked s))

    pub issued_same : (a : Assertion) → issued_in (reach W ℬ asked) a ≡ issued_in (reach W 𝒜 asked) a
    issued_same a = T_iff (issued_in (reach W ℬ asked) a) (issued_in (reach W 𝒜 asked) a) (λ t. member_in (back (member_of p (reach W ℬ asked) t)))
        (λ t. member_in (forth (member_of p (reach W 𝒜 asked) t)))
      where
        p : ℕ
        p = a.issuer

        back : Memᴰ p (reach W ℬ asked) → Memᴰ p (reach W 𝒜 asked)
        back m = reach_in W 𝒜 asked p ((reach_same p).0 (reach_of_law W ℬ asked p m))

        forth : Memᴰ p (reach W 𝒜 asked) → Memᴰ p (reach W ℬ asked)
        forth m = reach_in W ℬ asked p ((reach_same p).1 (reach_of_law W 𝒜 asked p m))

  issued_not : (a : Assertion) → Outside a → issued_in (reach W 𝒜 asked) a ≡ false
  issued_not a o =
      T_iff (issued_in (reach W 𝒜 asked) a) false (λ t. o (reach_of_law W 𝒜 asked a.issuer (member_of a.issuer (reach W 𝒜 asked) t))) (λ t. absurd t)

keep_adds : (p : Assertion → Bool) {Q : Assertion → Type 0} → ((a : Assertion) → Q a → p a ≡ false) → {𝒜 ℬ : List Assertion} → Adds Q 𝒜 ℬ → keep p ℬ ≡ keep p 𝒜
keep_adds p o done = refl
keep_adds p o (keeps a s) = ap (λ l. only (p a) a ++ l) (keep_adds p o s)
keep_adds p o (adds {a} q s) = rw (o a q) (keep_adds p o s)

-- the assertions that count are the same, in the same order
pub counting_same : (W : World) (asked : List ℕ) (𝒜 ℬ : List Assertion) → Adds (Outside W asked 𝒜 ℬ) 𝒜 ℬ → counting W ℬ asked ≡ counting W 𝒜 asked
counting_same W asked 𝒜 ℬ s =
    keep_same (issued_in (reach W ℬ asked)) (issued_in (reach W 𝒜 asked)) ℬ (issued_same W asked 𝒜 ℬ s)
    ∙ keep_adds (issued_in (reach W 𝒜 asked)) (issued_not W asked 𝒜 ℬ) s
