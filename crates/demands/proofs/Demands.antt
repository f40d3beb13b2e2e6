-- The proofs of `specs/Demands.antt`, each under its statement's name in small letters.
use mathlib.Core.Path.{◌≡◌, refl, sym, ap, subst, ◌∙◌}
use mathlib.Core.Logic.{◌↔◌}
use mathlib.Core.List.{List}
use Prim.Native.Nat.{ℕ}
use native.Mathlib.Omega.{arith}
use Rattle.model.specs.Syntax.{Assertion, Read, world_in}
use Rattle.model.specs.Rules.{Rule}
use Rattle.model.specs.Meant.{Outcome, AtMost, full_table, full_answers, all_listed}
use Rattle.model.specs.Deciding.{counted_in}
use Rattle.model.specs.Decision.{Lent, allow, deny, refusal, Report, report, capacity, room, word, cleared, reported, decision}
use Rattle.model.specs.Inputs.{Inputs, DerivableIn, AnswerIn, MeantBy}
use Rattle.theorems.specs.Theorems.{IsDecision, ListedIn, IssuedOutside}
use Rattle.model.proofs.ClosureFacts.{derives→within, first_unique}
use Rattle.model.proofs.WithdrawalFacts.{left↔}
use Rattle.theorems.proofs.Theorems as M
use Rattle.demands.specs.Demands as Q
use Rattle.demands.specs.Demands.{TableOf, AnswersOf, AnsweredAs, Unmarked}
use Rattle.demands.proofs.Sides.{number_of, no_refusal, word_decides, made_answered, policy_kept, policy_side_law, request_kept, request_side_law}
use Rattle.demands.proofs.Sides.{withdrawals_kept, withdrawals_side_law, hierarchy_kept, hierarchy_side_law, was_accepted}
use Rattle.demands.proofs.Marking.{marks_of_law, adds_by}
use Rattle.demands.proofs.Holding.{counts↔, entry_derives, first_round_law, table_fits, record_length, table_of, answers_of_law}

-- ---- by the outcome that is meant

module _ (l : Lent) (R : Read) (h : Inputs l.slices R) where
  abbrev facts : List ℕ
  facts = l.fact_buffer

  abbrev answers : List ℕ
  answers = l.answer_buffer

  abbrev made : Report
  made = decision l

  abbrev by : Outcome → Report
  by o = reported o l

  abbrev IsMeant : Outcome → Type 0
  IsMeant o = MeantBy R (capacity facts) (room answers) o

  eight_leaves_law : {o : Outcome} → IsMeant o → made ≡ by o → made.verdict ≡ refusal 8 0 0 → made ≡ report (refusal 8 0 0) 0 0 0 (cleared facts) answers
  eight_leaves_law (full_table m) e v = e
  eight_leaves_law (full_answers a f m) e v = absurd (let z = number_of 9 0 0 8 0 0 (sym (ap (λ (ρ : Report). ρ.verdict) e) ∙ v) in omega arith)
  eight_leaves_law (all_listed {A = A} a f b g) e v = absurd (no_refusal (word A) 8 0 0 (word_decides A) (sym (ap (λ (ρ : Report). ρ.verdict) e) ∙ v))

  nine_leaves_law : {o : Outcome} → IsMeant o → (by o).verdict ≡ refusal 9 0 0
      → TableOf l R (by o) × ((by o).answers ≡ 0) × ((by o).answer_buffer ≡ cleared answers)
  nine_leaves_law (full_table m) v = absurd (let z = number_of 8 0 0 9 0 0 v in omega arith)
  nine_leaves_law (full_answers {F} a f m) v =
      (table_of R l h F f (table_fits R (capacity facts) F a f) (refusal 9 0 0) 0 (cleared answers), refl, refl)
  nine_leaves_law (all_listed {A = A} a f b g) v = absurd (no_refusal (word A) 9 0 0 (word_decides A) v)

  both_fit : {o : Outcome} → IsMeant o → IsDecision (by o).verdict → AtMost (capacity facts) (DerivableIn R) × AtMost (room answers) (AnswerIn R)
  both_fit (full_table m) d = absurd d
  both_fit (full_answers a f m) d = absurd d
  both_fit (all_listed a f b g) d = (a, b)

  table : {o : Outcome} → IsMeant o → IsDecision (by o).verdict → TableOf l R (by o)
  table (full_table m) d = absurd d
  table (full_answers a f m) d = absurd d
  table (all_listed {F} {A} a f b g) d = table_of R l h F f (table_fits R (capacity facts) F a f) (word A) _ _

  -- what allow and deny say of answers
  abbrev Told : Report → Type 0
  Told ρ = ((ρ.verdict ≡ allow) ↔ ((θ : List ℕ) × AnswerIn R θ)) × ((ρ.verdict ≡ deny) ↔ (¬ ((θ : List ℕ) × AnswerIn R θ)))

  listed : {o : Outcome} → IsMeant o → made ≡ by o → IsDecision (by o).verdict → AnswersOf l R (by o)
  listed (full_table m) e d = absurd d
  listed (full_answers a f m) e d = absurd d
  listed (all_listed {F} {A} a f b g) e d = answers_of_law R l A g b (word A) _ _ _ (subst Told e (M.allows l R h a b))

-- ---- demand 1

module _ (l : Lent) where
  answered_as : AnsweredAs l (decision l)
  answered_as = record {
    answered = made_answered l;
    few_rounds = M.rounds_at_most_facts l;
    policy_side = policy_side_law l;
    policy_keeps = policy_kept l;
    request_side = request_side_law l;
    request_keeps = request_kept l;
    withdrawals_side = withdrawals_side_law l;
    withdrawals_keeps = withdrawals_kept l;
    hierarchy_side = λ P q ws h k w. hierarchy_side_law l P q h k ws w;
    hierarchy_keeps = λ P q ws h k w. hierarchy_kept l P q h k ws w;
    eight = M.eight l;
    eight_leaves = λ R h v. let m = M.meaning l R h in eight_leaves_law l R h m.2 m.1 v;
    nine = M.nine l;
    nine_leaves = λ R h v.
        let m = M.meaning l R h in
        subst (λ (ρ : Report). TableOf l R ρ × (ρ.answers ≡ 0) × (ρ.answer_buffer ≡ cleared l.answer_buffer)) (sym m.1)
        (nine_leaves_law l R h m.2 (sym (ap (λ (ρ : Report). ρ.verdict) m.1) ∙ v));
    decides = (
      λ d.
          let r = was_accepted l d in
          let m = M.meaning l r.0 r.1 in
          let w = both_fit l r.0 r.1 m.2 (subst (λ (ρ : Report). IsDecision ρ.verdict) m.1 d) in
          (r.0, r.1, w.0, w.1),
      λ r.
          let d = M.decides l r.0 r.1 r.2 r.3 in
          subst (λ (ρ : Report). IsDecision ρ.verdict) (sym d.4) (word_decides d.1),
    );
  }

pub every_input : Q.EveryInput
every_input l ρ c = subst (AnsweredAs l) (sym c) (answered_as l)

-- ---- demand 2

pub the_table : Q.TheTable
the_table l R ρ c h d =
    let m = M.meaning l R h in
    let e : ρ ≡ reported m.0 l = c ∙ m.1 in
    subst (TableOf l R) (sym e) (table l R h m.2 (subst (λ (ρ : Report). IsDecision ρ.verdict) e d))

pub the_answers : Q.TheAnswers
the_answers l R ρ c h d =
    let m = M.meaning l R h in
    let e : ρ ≡ reported m.0 l = c ∙ m.1 in
    subst (AnswersOf l R) (sym e) (listed l R h m.2 m.1 (subst (λ (ρ : Report). IsDecision ρ.verdict) e d))

pub the_rounds : Q.TheRounds
the_rounds R x = (
  (λ d. let w = derives→within (Rule (world_in R) (counted_in R)) d in first_round_law R w.0 x w.1, λ r. entry_derives R r.0 x r.1),
  λ r s f g. first_unique (Rule (world_in R) (counted_in R)) r s x f g,
)

pub the_reach : Q.TheReach
the_reach = counts↔

pub what_is_left : Q.WhatIsLeft
what_is_left R a = left↔ (world_in R) a R.withdrawals R.policy.assertions

pub the_records : Q.TheRecords
the_records = ((λ s R h e f. record_length R s h e f), M.records_tell)

-- ---- demand 3

pub outsiders_call : Q.OutsidersCall
outsiders_call l longer R L ρ ρ' c c' h a x = c' ∙ (M.outsiders l longer R L h a x ∙ sym c)

-- what holds of two decisions holds of what two calls report
reported_more : {ρ ρ' δ δ' : Report} → ρ ≡ δ → ρ' ≡ δ' → (θ : List ℕ)
    → (IsDecision δ.verdict → IsDecision δ'.verdict → ListedIn δ θ → ListedIn δ' θ)
    → IsDecision ρ.verdict → IsDecision ρ'.verdict → ListedIn ρ θ → ListedIn ρ' θ
reported_more c c' θ more d d' k =
    subst (λ (ρ : Report). ListedIn ρ θ) (sym c')
    (more (subst (λ (ρ : Report). IsDecision ρ.verdict) c d) (subst (λ (ρ : Report). IsDecision ρ.verdict) c' d')
    (subst (λ (ρ : Report). ListedIn ρ θ) c k))

pub growing_call : Q.GrowingCall
growing_call l longer R L ρ ρ' c c' h a x p d d' θ k = reported_more c c' θ (λ d d' k. M.growing l longer R L h a x p d d' θ k) d d' k

pub insiders_say : Q.InsidersSay
insiders_say = M.insiders

-- ---- withdrawals

pub withdrawn_call : Q.WithdrawnCall
withdrawn_call l other R L ρ ρ' c c' h a e = c' ∙ (M.withdrawn_is_absent l other R L h a e ∙ sym c)

pub without_entries : Q.WithoutEntries
without_entries = M.nothing_withdrawn

pub serials_call : Q.SerialsCall
serials_call l other R L ρ ρ' c c' h a none e = c' ∙ (M.serials_aside l other R L h a none e ∙ sym c)

-- ---- the hierarchy

pub without_hierarchy : Q.WithoutHierarchy
without_hierarchy = M.no_hierarchy

pub the_descendants : Q.TheDescendants
the_descendants = M.computed_descendants

pub the_ground : Q.TheGround
the_ground = M.ground

-- ---- versions

pub versions_derive : Q.VersionsDerive
versions_derive = (M.no_more_by_version2, M.no_more_in_reach)

pub versions_call : Q.VersionsCall
versions_call l other R ρ ρ' c c' h a p d d' θ k = reported_more c c' θ (λ d d' k. M.growing_by_version l other R h a p d d' θ k) d d' k

-- ---- whose words count

pub the_marks : Q.TheMarks
the_marks s R marks κ c h = marks_of_law s R marks h κ c

pub unmarked_call : Q.UnmarkedCall
unmarked_call l longer marks R L κ ρ ρ' k c c' h a x =
    let m = the_marks l.slices R marks κ k h in
    let outside : (a : Assertion) → Unmarked κ.marks a → IssuedOutside R a = λ a u. (m.outside a.issuer (omega (arith, u.0, m.long))).0 u.1 in
    outsiders_call l longer R L ρ ρ' c c' h a
    (record { version = x.version; constants = x.constants; verbs = x.verbs; assertions = adds_by outside x.assertions })
