-- The marks of a call of `secpal_reach` say who is in the reach.
use mathlib.Core.Path.{◌≡◌, refl, sym, ap, subst, ◌∙◌}
use mathlib.Core.Logic.{◌↔◌}
use mathlib.Core.Bool.{Bool, true, false, cond}
use mathlib.Core.List.{List, Memᴰ}
use Prim.Native.Nat.{ℕ, zero, suc, ◌+◌, ◌<◌}
use native.Mathlib.Omega.{arith}
use lib.ListN.{length}
use lib.Dec.{T}
use Rattle.model.specs.Lists.{member}
use Rattle.model.specs.Syntax.{Assertion, Read, world_in}
use Rattle.model.specs.Requests.{issuers}
use Rattle.model.specs.Withdrawals.{left_in}
use Rattle.model.specs.Bytes.{byte_at}
use Rattle.model.specs.Decision.{Slices, Taken}
use Rattle.model.specs.Inputs.{Inputs, InReach, Adds, done, keeps, adds}
use Rattle.model.proofs.ListFacts.{member_of, member_in}
use Rattle.theorems.proofs.Theorems.{computed_reach}
use Rattle.demands.specs.Lookups.{reach_of, marks_from, Reached, reached, reached_by, whose_words}
use Rattle.demands.specs.Demands.{MarksOf}
use Rattle.model.proofs.Tests.{T_true}

-- ---- marks

marks_long : (l : List ℕ) (n j : ℕ) → length (marks_from l n j) ≡ n
unfolding marks_from
marks_long l zero j = refl
marks_long l (suc n) j = ap suc (marks_long l n (suc j))

marks_at : (l : List ℕ) (n j i : ℕ) → i < n → byte_at (marks_from l n j) i ≡ cond (member (j + i) l) 1 0
unfolding marks_from
marks_at l zero j i h = absurd (omega arith)
marks_at l (suc n) j zero h = let e : j ≡ j + 0 = omega arith in ap (λ (k : ℕ). cond (member k l) 1 0) e
marks_at l (suc n) j (suc i) h = let e : suc j + i ≡ j + suc i = omega arith in marks_at l n (suc j) i (omega arith) ∙ ap (λ (k : ℕ). cond (member k l) 1 0) e

-- a mark tells whether a number is in the list
one_in : (i : ℕ) (l : List ℕ) (m : ℕ) → m ≡ cond (member i l) 1 0 → (m ≡ 1) ↔ Memᴰ i l
one_in i l m e = (λ k. member_of i l (there (member i l) (sym e ∙ k)), λ k. e ∙ ap (λ (b : Bool). cond b 1 0) (T_true (member i l) (member_in k)))
  where
    there : (b : Bool) → ◌≡◌ {A = ℕ} (cond b 1 0) 1 → T b
    there true h = tt
    there false h = absurd (omega arith)

one_or_none : (b : Bool) (m : ℕ) → m ≡ cond b 1 0 → ((m ≡ 1) → ⊥) → m ≡ 0
one_or_none true m e h = absurd (h e)
one_or_none false m e h = e

-- ---- accepted slices

module _ (s : Slices) (R : Read) (marks : List ℕ) (h : Inputs s R) where
  abbrev set : List ℕ
  set = reach_of R

  pub given : whose_words s marks ≡ reached 0 0 0 (marks_from set (length marks) 0)
  unfolding whose_words reached_by
  given = ap (λ (t : Taken). reached_by t marks) h

  mark_is : (i : ℕ) → i < length marks → byte_at (marks_from set (length marks) 0) i ≡ cond (member i set) 1 0
  mark_is i l = let e : 0 + i ≡ i = omega arith in marks_at set (length marks) 0 i l ∙ ap (λ (k : ℕ). cond (member k set) 1 0) e

  inside : (i : ℕ) → i < length marks → (byte_at (marks_from set (length marks) 0) i ≡ 1) ↔ InReach R i
  inside i l =
      let m = one_in i set _ (mark_is i l) in
      let c = (computed_reach (world_in R) (left_in R) (issuers R.request.node (world_in R))).0 i in
      (λ k. c.0 (m.0 k), λ k. m.1 (c.1 k))

  marks_given : MarksOf R marks (reached 0 0 0 (marks_from set (length marks) 0))
  marks_given = record {
    accepted = refl;
    long = marks_long set (length marks) 0;
    inside = inside;
    outside = λ i l. (
      λ z k. (let o = (inside i l).1 k in omega arith),
      λ n. one_or_none (member i set) _ (mark_is i l) (λ o. n ((inside i l).0 o)),
    );
  }

  pub marks_of_law : (κ : Reached) → κ ≡ whose_words s marks → MarksOf R marks κ
  marks_of_law κ c = subst (MarksOf R marks) (sym (c ∙ given)) marks_given

-- ---- added assertions, by another property of them

pub adds_by : {X Y : Assertion → Type 0} → ((a : Assertion) → X a → Y a) → {𝒜 ℬ : List Assertion} → Adds X 𝒜 ℬ → Adds Y 𝒜 ℬ
adds_by f done = done
adds_by f (keeps a s) = keeps a (adds_by f s)
adds_by f (adds x s) = adds (f _ x) (adds_by f s)
