-- The outcome of a decision is the one that is meant: what each verdict says, and that records tell entries apart.
use mathlib.Core.Path.{◌≡◌, refl, sym, ap, ◌∙◌}
use mathlib.Core.Logic.{◌↔◌}
use mathlib.Core.List.Memᴰ
use mathlib.Core.List.{List, [], ◌∷◌, Memᴰ, tail-eq_of_cons-eq}
use Prim.Native.Nat.{ℕ, ◌<◌}
use native.Mathlib.Omega.{arith}
use Rattle.model.specs.Syntax.{Assertion, Node, World, Read, world_in}
use Rattle.model.specs.Closure.{First}
use Rattle.model.specs.Rules.{Rule}
use Rattle.model.specs.Records.{Entry, key_of, Arity, Fitting}
use Rattle.model.specs.Meant.{Outcome, decided, MoreThan, AtMost, Enumerates, Derivable}
use Rattle.model.specs.Meant.{FirstIn, Satisfies, itself, Meant, full_table, full_answers, all_listed}
use Rattle.model.specs.Deciding.{decide, counted_in}
use Rattle.model.specs.Decision.{Slices, Lent, allow, deny, refusal, capacity, room, word, reported}
use Rattle.theorems.specs.Theorems as Q
use Rattle.model.specs.Inputs.{Inputs, MeantBy}
use Rattle.model.proofs.ClosureFacts.{first→derives}
use Rattle.model.proofs.RecordFacts.{fits, same_key}
use Rattle.model.proofs.OutcomeFacts.{clash, meant_unique, meant, same_entry}
use Rattle.model.proofs.WithdrawalFacts.{counted_in_law}
use Rattle.model.proofs.ReadFacts.{policy_fine}
use Rattle.model.proofs.DecisionFacts.{slice_by_slice_law, of_slices, reports}

pub slice_by_slice : Q.SliceBySlice
slice_by_slice s R = (slice_by_slice_law s R, of_slices s R)

module _ (s : Slices) (R : Read) (h : Inputs s R) where
  counting_arity : (a : Assertion) → Memᴰ a (counted_in R) → Arity R.policy.verbs a.head
  counting_arity a m =
      (policy_fine s.policy R.policy (slice_by_slice_law s R h).read_as a (counted_in_law R a m)).arity

  pub meant_by : (c r : ℕ) → MeantBy R c r (decide R c r)
  meant_by c r = meant (world_in R) (counted_in R) R.request.node c r counting_arity

pub meaning : Q.Meaning
meaning l R h =
    let c = capacity l.fact_buffer in
    let r = room l.answer_buffer in
    let m = meant_by l.slices R h c r in
    (decide R c r, reports l R h, m, λ o k. meant_unique (world_in R) (counted_in R) R.request.node c r o _ k m)

-- verdicts differ
word_refusal : (A : List (List ℕ)) (n s p : ℕ) → word A ≡ refusal n s p → ⊥
word_refusal [] n s p e = let z : ◌≡◌ {A = ℕ} 0 1 = cc in omega arith
word_refusal (θ ∷ A) n s p e = let z : ◌≡◌ {A = ℕ} 0 1 = cc in omega arith

apart : (n m s p : ℕ) → n < m → refusal n s p ≡ refusal m s p → ⊥
apart n m s p h e = let z : n ≡ m = cc in omega arith

module _ (W : World) (𝒜 : List Assertion) (n : Node) (c r : ℕ) (l : Lent) where
  eight↔ : {o : Outcome} → Meant W 𝒜 n c r o → ((reported o l).verdict ≡ refusal 8 0 0) ↔ MoreThan c (Derivable W 𝒜 n)
  eight↔ (full_table m) = (λ e. m, λ k. refl)
  eight↔ (full_answers a F m) = (λ e. absurd (apart 8 9 0 0 (omega arith) (sym e)), λ k. absurd (clash c (Derivable W 𝒜 n) k a))
  eight↔ (all_listed {A = A} a F b G) = (λ e. absurd (word_refusal A 8 0 0 e), λ k. absurd (clash c (Derivable W 𝒜 n) k a))

  nine↔ : {o : Outcome} → Meant W 𝒜 n c r o → ((reported o l).verdict ≡ refusal 9 0 0) ↔ (AtMost c (Derivable W 𝒜 n) × MoreThan r (Satisfies W 𝒜 n))
  nine↔ (full_table m) = (λ e. absurd (apart 8 9 0 0 (omega arith) e), λ k. absurd (clash c (Derivable W 𝒜 n) m k.0))
  nine↔ (full_answers a F m) = (λ e. (a, m), λ k. refl)
  nine↔ (all_listed {A = A} a F b G) = (λ e. absurd (word_refusal A 9 0 0 e), λ k. absurd (clash r (Satisfies W 𝒜 n) k.1 b))

  -- there is room for all
  decided_as : {o : Outcome} → Meant W 𝒜 n c r o → AtMost c (Derivable W 𝒜 n) → AtMost r (Satisfies W 𝒜 n)
      → (F : List Entry) × (A : List (List ℕ)) × Enumerates key_of (FirstIn W 𝒜 n) F × Enumerates itself (Satisfies W 𝒜 n) A × (o ≡ decided F A)
  decided_as (full_table m) a b = absurd (clash c (Derivable W 𝒜 n) m a)
  decided_as (full_answers k F m) a b = absurd (clash r (Satisfies W 𝒜 n) m b)
  decided_as (all_listed {F} {A} k f l g) a b = (F, A, f, g, refl)

pub eight : Q.Eight
eight l R h =
    let c = capacity l.fact_buffer in
    let r = room l.answer_buffer in
    rw (reports l R h) (eight↔ (world_in R) (counted_in R) R.request.node c r l (meant_by l.slices R h c r))

pub nine : Q.Nine
nine l R h =
    let c = capacity l.fact_buffer in
    let r = room l.answer_buffer in
    rw (reports l R h) (nine↔ (world_in R) (counted_in R) R.request.node c r l (meant_by l.slices R h c r))

pub decides : Q.Decides
decides l R h a b =
    let c = capacity l.fact_buffer in
    let r = room l.answer_buffer in
    let d = decided_as (world_in R) (counted_in R) R.request.node c r l (meant_by l.slices R h c r) a b in
    (d.0, d.1, d.2, d.3, reports l R h ∙ ap (λ (o : Outcome). reported o l) d.4)

allow↔ : {X : List ℕ → Type 0} (A : List (List ℕ)) → Enumerates itself X A → ((word A ≡ allow) ↔ ((θ : List ℕ) × X θ))
    × ((word A ≡ deny) ↔ (¬ ((θ : List ℕ) × X θ)))
allow↔ [] e = (
  (λ k. absurd (let z : ◌≡◌ {A = ℕ} 0 1 = cc in omega arith), λ k. absurd (Memᴰ.not-nil (e.every k.0 k.1))),
  (λ k m. Memᴰ.not-nil (e.every m.0 m.1), λ k. refl),
)
allow↔ (θ ∷ A) e = (
  (λ k. (θ, e.only θ (Memᴰ.head refl)), λ k. refl),
  (λ k. absurd (let z : ◌≡◌ {A = ℕ} 0 1 = cc in omega arith), λ k. absurd (k (θ, e.only θ (Memᴰ.head refl)))),
)

pub allows : Q.Allows
allows l R h a b =
    let d = decides l R h a b in
    rw d.4 (allow↔ d.1 d.3)

pub records_tell : Q.RecordsTell
records_tell s R h e e' f g r =
    same_entry W 𝒜 R.request.node 0 0 (counting_arity s R h) e e' f g
    (same_key W 𝒜 (counting_arity s R h) e.1 e'.1 (fitting e f) (fitting e' g) (tail-eq_of_cons-eq (tail-eq_of_cons-eq r)))
  where
    W : World
    W = world_in R

    𝒜 : List Assertion
    𝒜 = counted_in R

    fitting : (e : Entry) → First (Rule W 𝒜) e.0 e.1 → Fitting W e.1
    fitting e f = fits W 𝒜 (counting_arity s R h) e.1 (first→derives (Rule W 𝒜) e.0 e.1 f)
