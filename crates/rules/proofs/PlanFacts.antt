-- The plan of an assertion is right, whichever body fact has its entry already.
-- The order of the body facts does not matter for it: each that is left comes once, a constraint is tested by the step that tells it, and a mode is chosen
-- only where it is right.
use mathlib.Core.Path.{◌≡◌, refl, sym, ap, subst, ◌∙◌}
use mathlib.Core.Logic.{◌⊎◌, inl, inr, ⊎_elim, ◌≢◌}
use mathlib.Core.Bool.{Bool, true, false, cond, true≢false}
use mathlib.Core.List.Memᴰ
use mathlib.Core.List.{List, ◌∷◌, Memᴰ}
use Prim.Native.Nat.{ℕ, zero, suc, ◌≤◌, ◌<◌, ◌%◌, zero-le}
use native.Mathlib.Nat.{mod-eq_of_lt}
use native.Mathlib.Omega.{arith}
use lib.ListN.{length, set, length-set}
use lib.Dec.{eqb, ltb}
use borrow.Author.Tests.{eq-eqb, ltb-true, lt-ltb, le-ltb}
use Rattle.model.specs.Limits.{unbound}
use Rattle.constraints.specs.Told.{told_both}
use Rattle.std.proofs.lemmas.Bool.{cases_Bool, cond_both}
use Rattle.model.proofs.Tests.{by_eq}
use Rattle.rules.specs.Matching.{at}
use Rattle.rules.specs.Plan.{body_fact, every, look, finds, Step}
use Rattle.rules.specs.Patterns.{Pattern}
use Rattle.rules.specs.Cond.{unbound8}
use Rattle.rules.specs.Valid.{marked, exprs_of, There, Newly, Suits, Right, Steps, Some, given, Valid}
use Rattle.rules.specs.Planning.{looks_at, newly_told, new_tests, is_left, with_fact}
use Rattle.rules.specs.Planning.{next_fact, passed, choice, choices, looks, mode_by_head, leader, with_leader, leading}
use Rattle.rules.specs.Planning.{meeting, meeting_on, led_on, steps_from, plan_of}
use Rattle.rules.proofs.ExtendFacts.{unbound_at}
use Rattle.rules.proofs.TestFacts.{told_in}
use Rattle.rules.proofs.MarkFacts.{set_grows, set_in, marked_long, marked_grows, below_of, below_in}
use Rattle.rules.proofs.BelowFacts.{below_most, below_some}
use Rattle.rules.proofs.LeftFacts.{Sound, left_set, left_there, left_back, few, count, fewer, best_is}
use Rattle.rules.proofs.ModeFacts.{Ahead, Later, later_back, head_suits, head_finds, suits, mode_finds}
use Rattle.rules.proofs.ChoiceFacts.{passed_of, not_passed, leader_free}

module _ {p : Pattern} (S : Sound p) where
  -- ---- steps that serve: they are right, and all that is left is met and tested by them

  record Serves (met β : List ℕ) (ss : List Step) : Type 0 where
    steps : Steps p β ss
    tests : (i : ℕ) → i < p.tests → told_both β (p.test i) ≡ false → Some p (λ (s : Step). Memᴰ i s.tests) ss
    later : (s : Step) → Memᴰ s ss → Later S met β s
    facts : (i : ℕ) → is_left p met i ≡ true → Some p (λ (s : Step). s.part ≡ body_fact i) ss

  new_of : (β γ : List ℕ) (i : ℕ) → Memᴰ i (new_tests p β γ) → Newly p β γ i
  new_of β γ i m =
      let r = below_of p.tests (newly_told p β γ) i m in
      let e = r.1 in
      record { there = r.0; before = grind (arith, cases_Bool); now = grind (arith, cases_Bool) }

  new_in : (β γ : List ℕ) (i : ℕ) → Newly p β γ i → Memᴰ i (new_tests p β γ)
  new_in β γ i n = below_in p.tests (newly_told p β γ) i n.there (ap (λ (b : Bool). cond b false (told_both γ (p.test i))) n.before ∙ n.now)

  further : {P : Step → Type 0} {s : Step} {ss : List Step} → Some p P ss → Some p P (s ∷ ss)
  further (x, m, e, h) = (x, Memᴰ.tail m, e, h)

  -- a step that tests what it tells, before steps that serve
  module _ (s : Step) (β : List ℕ) where
    abbrev γ : List ℕ
    γ = marked β (exprs_of p s.part)

    here : {ss : List Step} → There p s.part → Suits p s.mode s.part β ss → s.tests ≡ new_tests p β γ → Right p β s ss
    here t u e = record {
      there = t;
      tests = (λ i m. new_of β γ i (subst (Memᴰ i) e m), λ i n. subst (Memᴰ i) (sym e) (new_in β γ i n));
      suits = u;
    }

    add : {met met' : List ℕ} {ss : List Step} → Serves met' γ ss → Right p β s ss → finds s.mode ≡ true → s.tests ≡ new_tests p β γ
        → Ahead S met β s.part → ((i : ℕ) → is_left p met i ≡ true → (is_left p met' i ≡ true) ⊎ (s.part ≡ body_fact i))
        → ((i : ℕ) → is_left p met' i ≡ true → is_left p met i ≡ true)
        → Serves met β (s ∷ ss)
    add {met} {met'} {ss} rest right f e a split back = record {
      steps = (right, subst (λ (b : Bool). Steps p (cond b γ β) ss) (sym f) rest.steps);
      tests = λ i l n. ⊎_elim
          (λ q. (s, Memᴰ.head refl, f, subst (Memᴰ i) (sym e) (new_in β γ i (record { there = l; before = n; now = q }))))
          (λ q. further (rest.tests i l q)) (cases_Bool (told_both γ (p.test i)));
      later = λ x m. ⊎_elim
          (λ (q : x ≡ s). subst (Later S met β) (sym q) (record {
            part = a;
            tests = λ i k. let r = new_of β γ i (subst (Memᴰ i) e k) in
                (r.there, r.before);
          }))
          (λ k. later_back S back (marked_grows (exprs_of p s.part) β) (rest.later x k)) (Memᴰ.cases_cons m);
      facts = λ i n. ⊎_elim (λ k. further (rest.facts i k)) (λ q. (s, Memᴰ.head refl, f, q)) (split i n);
    }

  -- ---- the variables that no body fact binds

  module _ (met : List ℕ) (none : (i : ℕ) → is_left p met i ≡ true → ⊥) where
    -- the variables from k on are bound
    abbrev From : ℕ → List ℕ → Type 0
    From k β = (v : ℕ) → v < 8 → k ≤ v → p.kind v ≢ 0 → at β v ≢ unbound

    choices_serve : (k : ℕ) (β : List ℕ) → length β ≡ 8 → From k β → Serves met β (choices p k β)
    unfolding choices
    choices_serve zero β l h = record {
      steps = λ v v8 n. h v v8 zero-le n;
      tests = λ i k e. absurd (true≢false (sym (told_in β (p.test i) (λ v m. let r = S.tests i k v m in h v r.0 zero-le r.1)) ∙ e));
      later = λ s m. absurd (Memᴰ.not-nil m);
      facts = λ i e. absurd (none i e);
    }
    choices_serve (suc k) β l h =
        let γ : List ℕ = set β (k % 8) 0 in
        let s : Step = choice p every (k % 8) β in
        cond_both (passed p k β) (choices p k β) (s ∷ choices p k γ) (Serves met β)
        (λ q. choices_serve k β l (λ v v8 b n. by_eq v k
        (λ x. subst (λ (j : ℕ). at β j ≢ unbound) (sym x) (passed_of p k β (omega arith) q (subst (λ (j : ℕ). p.kind j ≢ 0) x n)))
        (λ x. h v v8 (omega (arith, x)) n)))
        (λ q.
        let n = not_passed p k β q in
        let rest = choices_serve k γ (length-set β (k % 8) 0 ∙ l) (λ v v8 b n. by_eq v (k % 8)
        (λ x. subst (λ (j : ℕ). at γ j ≢ unbound) (sym x) (set_in β (k % 8) (rw l (omega arith))))
        (λ x. λ z. h v v8 (omega (arith, x)) n ((set_grows β (k % 8)).of v z))) in
        add s β rest (here s β (omega arith, n.1) tt refl) refl refl n.0 (λ i e. inl e) (λ i e. e))

    looks_serve : (n : ℕ) (β : List ℕ) → n ≤ 8 → length β ≡ 8 → Serves met β (looks p n β)
    unfolding looks
    looks_serve zero β h l = choices_serve 16 β l (λ v v8 b n. absurd (omega arith))
    looks_serve (suc v) β h l =
        let rest = looks_serve v β (omega arith) l in
        cond_both (looks_at p v β) (choice p look v β ∷ looks p v β) (looks p v β) (Serves met β) (looks_too rest) (λ q. rest)
      where
        looks_too : Serves met β (looks p v β) → looks_at p v β ≡ true → Serves met β (choice p look v β ∷ looks p v β)
        looks_too rest q =
            let n = not_passed p v β (grind (arith, cases_Bool)) in
            let v8 : v % 8 ≡ v = mod-eq_of_lt (omega arith) in
            let unset : at β v ≡ unbound = ap (at β) (sym v8) ∙ n.0 in
            record {
              steps = (
                record {
                  there = (omega arith, subst (λ (j : ℕ). p.kind j ≢ 0) v8 n.1);
                  tests = (new_of β (set β v 0), new_in β (set β v 0));
                  suits = tt;
                },
                rest.steps,
              );
              tests = λ i k e. further (rest.tests i k e);
              later = λ s m. ⊎_elim
                  (λ (z : s ≡ choice p look v β). subst (Later S met β) (sym z)
                  (record { part = unset; tests = λ i k. let r = new_of β (set β v 0) i k in (r.there, r.before) }))
                  (rest.later s) (Memᴰ.cases_cons m);
              facts = λ i e. absurd (none i e);
            }

  -- ---- the body facts

  -- one that is left, before steps that serve once it is met
  meet : (rest : List ℕ → List ℕ → List Step) (met β : List ℕ) (i : ℕ) → is_left p met i ≡ true → length met ≡ 8 → length β ≡ 8
      → Serves (set met i 0) (with_fact p β i) (rest (set met i 0) (with_fact p β i)) → Serves met β (meeting_on p rest met β i)
  meet rest met β i e lm lb serves =
      let s : Step = meeting p met β i in
      let there = (left_there S met i e).0 in
      add s β serves (here s β there (suits S met β i _ lb there serves.later) refl) (mode_finds S met β i) refl e
      (λ j f. by_eq j i (λ q. inr (ap body_fact (sym q))) (λ q. inl (left_set S met i j q ∙ f)))
      (λ j f. (left_back S met i j (omega (arith, lm, few S i met e)) f).0)

  -- the choice of a variable that can be chosen, if v is one
  lead : (met β : List ℕ) (v : ℕ) (ss : List Step) → (v < 8 → (at β v ≡ unbound) × (p.kind v ≢ 0)) → Serves met (with_leader p β v) ss
      → Serves met β (leading p β v ss)
  lead met β v ss free serves =
      let s : Step = choice p (mode_by_head p β) v β in
      cond_both (ltb v 8) (s ∷ ss) ss (Serves met β)
      (λ q.
      let l = ltb-true v 8 q in
      let f = free l in
      add s β (rw q at serves) (here s β (l, f.1) (head_suits S β s.part ss) refl) (head_finds S β) refl f.0 (λ i e. inl e) (λ i e. e))
      (λ q. rw q at serves)

  led_long : (β : List ℕ) (v : ℕ) → length β ≡ 8 → length (with_leader p β v) ≡ 8
  led_long β v l = cond_both (ltb v 8) (set β v 0) β (λ (γ : List ℕ). length γ ≡ 8) (λ q. length-set β v 0 ∙ l) (λ q. l)

  steps_serve : (n : ℕ) (met β : List ℕ) → count S met ≤ n → length met ≡ 8 → length β ≡ 8 → Serves met β (steps_from p n met β)
  unfolding steps_from
  steps_serve zero met β c lm lb = looks_serve met (λ i e. absurd (omega (arith, below_some 4 i (is_left p met) (few S i met e) e))) 8 β (omega arith) lb
  steps_serve (suc n) met β c lm lb = go (best_is S 4 met β (omega arith)) (λ met β c lm lb. steps_serve n met β c lm lb)
    where
      go : ((next_fact p met β ≡ 4) × ((i : ℕ) → i < 4 → is_left p met i ≡ false)) ⊎ ((next_fact p met β < 4) × (is_left p met (next_fact p met β) ≡ true))
          → ((met β : List ℕ) → count S met ≤ n → length met ≡ 8 → length β ≡ 8 → Serves met β (steps_from p n met β))
          → Serves met β (cond (ltb (next_fact p met β) 4) (led_on p (steps_from p n) met β (next_fact p met β)) (looks p 8 β))
      go (inl r) ih =
          rw (le-ltb (next_fact p met β) 4 (omega (arith, r.0)))
          (looks_serve met (λ i e. true≢false (sym e ∙ r.1 i (few S i met e))) 8 β (omega arith) lb)
      go (inr r) ih =
          let i : ℕ = next_fact p met β in
          let v : ℕ = leader p met β i in
          let γ : List ℕ = with_leader p β v in
          let lg = led_long β v lb in
          let less : count S (set met i 0) ≤ n = omega (arith, fewer S i met (omega (arith, r.0)) r.1) in
          let rest = ih (set met i 0) (with_fact p γ i) less (length-set met i 0 ∙ lm) (marked_long (p.body i) γ ∙ lg) in
          rw (lt-ltb i 4 r.0) (lead met β v _ (leader_free p met β i) (meet (steps_from p n) met γ i r.1 lm lg rest))

  pub plan_valid : (skip : ℕ) → Valid p skip (plan_of p skip)
  unfolding plan_of
  plan_valid skip =
      let v = steps_serve 4 (set unbound8 skip 0) (given p skip) (below_most 4 (is_left p (set unbound8 skip 0))) (length-set unbound8 skip 0) given_long in
      record {
        ground_tests = (below_of p.tests groundly, λ i n. below_in p.tests groundly i n.0 n.1);
        first = (new_of unbound8 (given p skip), new_in unbound8 (given p skip));
        steps = v.steps;
        facts = λ i l n. v.facts i (left_set S unbound8 skip i n ∙ ap (λ (b : Bool). cond b (eqb (at unbound8 i) unbound) false) (lt-ltb i p.bodies l)
            ∙ eq-eqb (at unbound8 i) unbound (unbound_at i));
        tests = λ i l. ⊎_elim (λ g. inl (below_in p.tests groundly i l g))
            (λ g. inr (⊎_elim (λ e. inl (new_in unbound8 (given p skip) i (record { there = l; before = g; now = e }))) (λ e. inr (v.tests i l e))
            (cases_Bool (told_both (given p skip) (p.test i)))))
            (cases_Bool (groundly i));
      }
    where
      groundly : ℕ → Bool
      groundly = λ (i : ℕ). told_both unbound8 (p.test i)

      given_long : length (given p skip) ≡ 8
      given_long =
          cond_both (ltb skip p.bodies) (marked unbound8 (p.body skip)) unbound8 (λ (γ : List ℕ). length γ ≡ 8)
          (λ q. marked_long (p.body skip) unbound8) (λ q. refl)
