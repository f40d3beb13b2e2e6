-- What both buffers hold, where a table and answers stand.
use mathlib.Core.Path.{◌≡◌, refl, sym, ap, subst, subst₂, ◌∙◌}
use mathlib.Core.Logic.{◌↔◌, ◌⊎◌, inl, inr}
use mathlib.Core.List.Memᴰ
use mathlib.Core.List.{List, [], ◌∷◌, map, Memᴰ}
use Prim.Native.Nat.{ℕ, suc, ◌*◌, ◌≤◌, ◌<◌, max}
use native.Mathlib.Decide.{dec_le}
use native.Mathlib.Omega.{arith}
use lib.ListN.{length, drop, get_or, length-map}
use lib.Dec.{T}
use Rattle.model.specs.Limits.{record_bytes, answer_bytes}
use Rattle.model.specs.Lists.{before}
use Rattle.model.specs.Syntax.{Assertion, Read, World, world_in, Said, said, flat}
use Rattle.model.specs.Closure.{Within}
use Rattle.model.specs.Rules.{Rule}
use Rattle.model.specs.Requests.{issuers, free_kinds}
use Rattle.model.specs.Records.{Entry, key, key_of, record_of, records_of, answer_of, answers_bytes}
use Rattle.model.specs.Meant.{AtMost, Distinct, Ascends, Enumerates, itself}
use Rattle.model.specs.Rounds.{last_round}
use Rattle.model.specs.Deciding.{counted_in}
use Rattle.model.specs.Withdrawals.{left_in}
use Rattle.model.proofs.WithdrawalFacts.{counted_in_law}
use Rattle.model.specs.Decision.{Slices, Lent, Verdict, allow, deny, report, capacity, room, at_front}
use Rattle.model.specs.Inputs.{Inputs, DerivableIn, EntryIn, AnswerIn, InReach, answer_in}
use Rattle.model.proofs.ShapeFacts.{key_length, shaped}
use Rattle.model.proofs.Order.{before_irrefl, ascends_distinct}
use Rattle.model.proofs.ClosureFacts.{first→derives}
use Rattle.model.proofs.RoundFacts as S
use Rattle.model.proofs.BindingFacts.{bindings_of_law}
use Rattle.model.proofs.StepFacts.{steps_computed}
use Rattle.model.proofs.DecisionFacts.{slice_by_slice_law, get_d_in, in_get_d}
use Rattle.theorems.proofs.Theorems.{computed_reach}
use Rattle.demands.specs.Demands.{record_in, TableOf, AnswersOf}
use Rattle.demands.proofs.Blocks.{block_at, blocks_length, filled_is, ascends_at}
use Rattle.demands.proofs.RecordLength.{policy_formed}

-- the statements of an ascending table are distinct
abbrev statement : Entry → Said
statement e = e.1

distinct_statements : (F : List Entry) → Ascends key_of F → Distinct (map statement F)
distinct_statements [] a = tt
distinct_statements (e ∷ F) a = (
  λ m. let w = Memᴰ.of_map statement F m in before_irrefl (key_of e) (subst (λ (x : Said). T (before (key_of e) (key x))) w.2 (a.0 w.0 w.1)),
  distinct_statements F a.1,
)

-- an entry has the last round, unless there is none
last_of : (F : List Entry) → ((x : Said) × Memᴰ {A = Entry} (last_round F, x) F) ⊎ ((length F ≡ 0) × (last_round F ≡ 0))
last_of [] = inr (refl, refl)
last_of (e ∷ F) = go (dec_le (last_round F) e.0) (last_of F)
  where
    go : Dec (last_round F ≤ e.0) → ((x : Said) × Memᴰ {A = Entry} (last_round F, x) F) ⊎ ((length F ≡ 0) × (last_round F ≡ 0))
        → ((x : Said) × Memᴰ {A = Entry} (max e.0 (last_round F), x) (e ∷ F)) ⊎ ((suc (length F) ≡ 0) × (max e.0 (last_round F) ≡ 0))
    go (yes h) r = let q : max e.0 (last_round F) ≡ e.0 = omega arith in inl (e.1, Memᴰ.head (λ i. (q i, e.1)))
    go (no h) (inl m) =
        let q : last_round F ≡ max e.0 (last_round F) = omega arith in
        inl (m.0, Memᴰ.tail (subst (λ (r : ℕ). Memᴰ {A = Entry} (r, m.0) F) q m.1))
    go (no h) (inr z) = absurd (let q : last_round F ≡ 0 = z.1 in omega arith)

none : Entry
none = (0, said 0 0 (flat 0 0 []))

-- ---- the reach and the rounds

pub counts↔ : (R : Read) (a : Assertion) → Memᴰ a (counted_in R) ↔ (Memᴰ a (left_in R) × InReach R a.issuer)
counts↔ R a = (computed_reach (world_in R) (left_in R) (issuers R.request.node (world_in R))).1 a

module _ (R : Read) where
  abbrev W : World
  W = world_in R

  abbrev 𝒜 : List Assertion
  𝒜 = counted_in R

  pub entry_derives : (r : ℕ) (x : Said) → EntryIn R (r, x) → DerivableIn R x
  entry_derives = first→derives (Rule W 𝒜)

  pub first_round_law : (n : ℕ) (x : Said) → Within (Rule W 𝒜) n x → (r : ℕ) × EntryIn R (r, x)
  first_round_law n x w = let f = S.first (steps_computed W 𝒜) n x w in (suc f.0, f.2)

  -- ---- a table within its capacity

  pub table_fits : (c : ℕ) (F : List Entry) → AtMost c (DerivableIn R) → Enumerates key_of (EntryIn R) F → length F ≤ c
  table_fits c F a f =
      let l : length (map statement F) ≤ c =
      a (map statement F) (distinct_statements F f.ascends)
      (λ x m. let w = Memᴰ.of_map statement F m in subst (DerivableIn R) w.2 (entry_derives w.0.0 w.0.1 (f.only w.0 w.1))) in
      omega (arith, length-map F statement)

  module _ (s : Slices) (h : Inputs s R) where
    pub record_length : (e : Entry) → EntryIn R e → length (record_of e) ≡ record_bytes
    record_length e f =
        let read = (slice_by_slice_law s R h).read_as in
        ap (λ (n : ℕ). suc (suc n)) (key_length e.1 (shaped W 𝒜 (λ a m. policy_formed s.policy R.policy read a (counted_in_law R a m)) e.1
        (entry_derives e.0 e.1 f)))

  module _ (l : Lent) (h : Inputs l.slices R) where
    abbrev facts : List ℕ
    facts = l.fact_buffer

    pub table_of : (F : List Entry) → Enumerates key_of (EntryIn R) F → length F ≤ capacity facts → (v : Verdict) (n : ℕ) (answers : List ℕ)
        → TableOf l R (report v (length F) (last_round F) n (at_front facts (records_of F)) answers)
    table_of F f k v n answers = record {
      stands = λ b. (
        λ s. (get_or F s.0 none, f.only (get_or F s.0 none) (get_d_in none F s.0 s.1), sym (at s.0 s.1) ∙ s.2),
        λ t. let m = in_get_d none (f.every t.0 t.1) in (m.0, m.1, at m.0 m.1 ∙ (ap record_of m.2 ∙ t.2)),
      );
      ascends = λ i j p k. subst₂ (λ (a b : List ℕ). T (before (drop 2 a) (drop 2 b))) (sym (at i (omega arith))) (sym (at j k))
          (ascends_at key_of none F f.ascends i j p k);
      rounds = λ e m. S.last_round_in e.0 e.1 F (f.every e m);
      last = go (last_of F);
      filled = filled_is (record_bytes * length F) facts (records_of F) (blocks_length record_of record_bytes F long) (omega arith);
    }
      where
        long : (e : Entry) → Memᴰ e F → length (record_of e) ≡ record_bytes
        long e m = record_length l.slices h e (f.only e m)

        at : (i : ℕ) → i < length F → record_in (at_front facts (records_of F)) i ≡ record_of (get_or F i none)
        at i k = block_at record_of record_bytes none F _ long i k

        go : ((x : Said) × Memᴰ {A = Entry} (last_round F, x) F) ⊎ ((length F ≡ 0) × (last_round F ≡ 0))
            → ((x : Said) × EntryIn R (last_round F, x)) ⊎ ((length F ≡ 0) × (last_round F ≡ 0))
        go (inl m) = inl (m.0, f.only (last_round F, m.0) m.1)
        go (inr z) = inr z

  -- ---- answers within their room

  binding_length : (θ : List ℕ) → AnswerIn R θ → length θ ≡ answer_bytes
  binding_length θ s = (bindings_of_law W.constants (free_kinds W R.request.node) θ s.0).0

  module _ (l : Lent) (A : List (List ℕ)) (g : Enumerates itself (AnswerIn R) A) (b : AtMost (room l.answer_buffer) (AnswerIn R)) where
    abbrev answers : List ℕ
    answers = l.answer_buffer

    long : (θ : List ℕ) → Memᴰ θ A → length θ ≡ answer_bytes
    long θ m = binding_length θ (g.only θ m)

    at : (i : ℕ) → i < length A → answer_in (at_front answers (answers_bytes A)) i ≡ get_or A i []
    at i k = block_at answer_of answer_bytes [] A _ long i k

    pub answers_of_law : (v : Verdict) (n r : ℕ) (facts : List ℕ) → ((v ≡ allow) ↔ ((θ : List ℕ) × AnswerIn R θ))
        × ((v ≡ deny) ↔ (¬ ((θ : List ℕ) × AnswerIn R θ)))
        → AnswersOf l R (report v n r (length A) facts (at_front answers (answers_bytes A)))
    answers_of_law v n r facts w =
        let fits : length A ≤ room answers = b A (ascends_distinct itself A g.ascends) g.only in
        record {
          allows = w.0;
          denies = w.1;
          lists = λ θ. (
            λ s. g.only θ (subst (λ (η : List ℕ). Memᴰ η A) (sym (at s.0 s.1) ∙ s.2) (get_d_in [] A s.0 s.1)),
            λ s. let m = in_get_d [] (g.every θ s) in (m.0, m.1, at m.0 m.1 ∙ m.2),
          );
          ascends = λ i j p k. subst₂ (λ (a b : List ℕ). T (before a b)) (sym (at i (omega arith))) (sym (at j k))
              (ascends_at itself [] A g.ascends i j p k);
          filled = filled_is (answer_bytes * length A) answers (answers_bytes A) (blocks_length answer_of answer_bytes A long) (omega arith);
        }
