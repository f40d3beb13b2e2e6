-- A fact's expressions as a list: the list has what the fact asks and its variables, and expression k stands where the code finds it.
use Rattle.std.proofs.Common.{◌≡◌, ℕ, zero, suc, ◌+◌, ◌-◌, ◌*◌, ◌<◌, ◌≤◌, List, [], ◌∷◌, ◌++◌, map, drop, length, get_or}
use Rattle.std.proofs.Common.{Some, option_and_then, refl, arith}
use mathlib.Core.Path.{ap, ap₂, ◌∙◌}
use Rattle.std.proofs.lemmas.List.{drop_more}
use Rattle.std.proofs.Math.ListN.{drop_of_length-le}
use Rattle.std.proofs.Math.Nat.{zero-min, suc-min-suc}
use native.Mathlib.Decide.{dec_lt}
use borrow.Author.Tests.{lt-ltb, le-ltb}
use Rattle.model.specs.Limits.{principal}
use Rattle.model.specs.Lists.{each}
use Rattle.model.specs.Syntax.{vars_of, vars_in}
use Rattle.model.specs.Bytes.{byte_at}
use Rattle.model.specs.Readings.{expr_at, exprs_at}
use Rattle.kinds.specs.Cells.{Cells, Ask, same, asked, feed}
use Rattle.kinds.specs.Asks.{kind_term}
use Rattle.phrases.specs.declared.Outline.{Outline}
use Rattle.phrases.specs.Phrases.{arity_by, levels_by, fact_by, place_at, params_asks, levels_asks, fact_asks}
use Rattle.phrases.specs.Marks.{marked}
use Rattle.phrases.specs.Outlines.{parameters_by, speakers_by, expressions_by, outline_by, place_in, kind_in}
use Rattle.phrases.proofs.Sets.{marked_append}

-- ---- what is asked of each, and its variables

abbrev pub ask_of : List ℕ → List ℕ → ℕ × ℕ → Ask
ask_of ks s e = same (place_at ks s e.0) (kind_term e.1)

abbrev pub vars_at : List ℕ → ℕ × ℕ → List ℕ
vars_at s e = vars_of (expr_at s e.0)

module _ (ks sg s : List ℕ) where
  parameters_asked : (n k p : ℕ) → params_asks ks sg s n k p ≡ map (ask_of ks s) (parameters_by sg s n k p)
  unfolding params_asks parameters_by
  parameters_asked zero k p = refl
  parameters_asked (suc n) k p = ap (λ (l : List Ask). ask_of ks s (p, byte_at sg k) ∷ l) (parameters_asked n (k + 1) (p + 2))

  speakers_asked : (m p : ℕ) → levels_asks ks sg s m p ≡ map (ask_of ks s) (speakers_by sg s m p)
  unfolding levels_asks speakers_by
  speakers_asked zero p = ap (λ (l : List Ask). ask_of ks s (p, principal) ∷ l) (parameters_asked _ _ (p + 3))
  speakers_asked (suc m) p = ap (λ (l : List Ask). ask_of ks s (p, principal) ∷ l) (speakers_asked m (p + 3))

  pub all_asked : (p : ℕ) → fact_asks ks sg s p ≡ map (ask_of ks s) (expressions_by sg s p)
  unfolding fact_asks expressions_by
  all_asked p = speakers_asked (byte_at s p) (p + 1)

module _ (sg s : List ℕ) where
  parameters_vars : (n k p : ℕ) → each (exprs_at n s p) vars_of ≡ each (parameters_by sg s n k p) (vars_at s)
  unfolding exprs_at parameters_by
  parameters_vars zero k p = refl
  parameters_vars (suc n) k p = ap (λ (l : List ℕ). vars_of (expr_at s p) ++ l) (parameters_vars n (k + 1) (p + 2))

  speakers_vars : (m p : ℕ) → vars_in (levels_by sg m s p) ≡ each (speakers_by sg s m p) (vars_at s)
  unfolding levels_by speakers_by
  speakers_vars zero p = ap (λ (l : List ℕ). vars_of (expr_at s p) ++ l) (parameters_vars _ _ (p + 3))
  speakers_vars (suc m) p = ap (λ (l : List ℕ). vars_of (expr_at s p) ++ l) (speakers_vars m (p + 3))

  pub all_vars : (p : ℕ) → vars_in (fact_by sg s p) ≡ each (expressions_by sg s p) (vars_at s)
  unfolding fact_by expressions_by
  all_vars p = speakers_vars (byte_at s p) (p + 1)

  -- ---- by their numbers

  parameters_length : (n k p : ℕ) → length (parameters_by sg s n k p) ≡ n
  unfolding parameters_by
  parameters_length zero k p = refl
  parameters_length (suc n) k p = ap suc (parameters_length n (k + 1) (p + 2))

  parameter : (n k p i : ℕ) → i < n → get_or (parameters_by sg s n k p) i (0, 0) ≡ (p + 2 * i, byte_at sg (k + i))
  unfolding parameters_by
  parameter zero k p i h = absurd (omega arith)
  parameter (suc n) k p zero h =
      let a : p ≡ p + 2 * 0 = omega arith in
      let b : k ≡ k + 0 = omega arith in
      ap₂ (λ (x y : ℕ). (x, byte_at sg y)) a b
  parameter (suc n) k p (suc i) h =
      let a : p + 2 + 2 * i ≡ p + 2 * suc i = omega arith in
      let b : k + 1 + i ≡ k + suc i = omega arith in
      parameter n (k + 1) (p + 2) i (omega arith) ∙ ap₂ (λ (x y : ℕ). (x, byte_at sg y)) a b

  -- the verb of m speakers and a phrase from p on
  abbrev verb : ℕ → ℕ → ℕ
  verb m p = byte_at s (p + 3 * m + 2)

  abbrev here : ℕ → ℕ → Outline
  here m p = record { first = p; principals = m + 1; kinds = 4 * verb m p + 1; count = m + 1 + arity_by sg (verb m p) }

  verb_here : (p : ℕ) → byte_at s (p + 2) ≡ verb 0 p
  verb_here p = ap (byte_at s) (let a : p + 2 ≡ p + 3 * 0 + 2 = omega arith in a)

  verb_next : (m p : ℕ) → verb m (p + 3) ≡ verb (suc m) p
  verb_next m p = ap (byte_at s) (let a : p + 3 + 3 * m + 2 ≡ p + 3 * suc m + 2 = omega arith in a)

  speakers_length : (m p : ℕ) → length (speakers_by sg s m p) ≡ (here m p).count
  unfolding speakers_by
  speakers_length zero p =
      let v = byte_at s (p + 2) in
      omega (arith, ap (arity_by sg) (verb_here p), parameters_length (arity_by sg v) (4 * v + 1) (p + 3))
  speakers_length (suc m) p = omega (arith, ap (arity_by sg) (verb_next m p), speakers_length m (p + 3))

  -- expression k of an outline
  abbrev of_outline : Outline → ℕ → ℕ × ℕ
  of_outline o k = (place_in o k, kind_in sg o k)

  as_pair : {a b c d : ℕ} → a ≡ c → b ≡ d → ◌≡◌ {A = ℕ × ℕ} (a, b) (c, d)
  as_pair = ap₂ (λ (x y : ℕ). (x, y))

  -- the first expression, one behind a subject that stands first, and one behind a speaker

  first_is : (o : Outline) → 0 < o.principals → ◌≡◌ {A = ℕ × ℕ} (o.first, principal) (of_outline o 0)
  first_is o h = rw (lt-ltb 0 o.principals h) (as_pair (omega (arith, zero-min o.principals)) refl)

  past_subject : (p i : ℕ) → ◌≡◌ {A = ℕ × ℕ} (p + 3 + 2 * i, byte_at sg (4 * byte_at s (p + 2) + 1 + i)) (of_outline (here 0 p) (suc i))
  past_subject p i =
      let a : i ≡ suc i - 1 = omega arith in
      rw (le-ltb (suc i) 1 (omega arith), verb_here p)
      (as_pair (omega (arith, suc-min-suc i 0)) (ap (λ (x : ℕ). byte_at sg (4 * verb 0 p + 1 + x)) a))

  past_speaker : (m p k : ℕ) → of_outline (here m (p + 3)) k ≡ of_outline (here (suc m) p) (suc k)
  past_speaker m p k = as_pair (omega (arith, suc-min-suc k (m + 1))) (go (dec_lt k (m + 1)))
    where
      go : Dec (k < m + 1) → kind_in sg (here m (p + 3)) k ≡ kind_in sg (here (suc m) p) (suc k)
      go (yes h) = rw (lt-ltb k (m + 1) h, lt-ltb (suc k) (suc m + 1) (omega arith))
      go (no h) =
          let a : suc k - (suc m + 1) ≡ k - (m + 1) = omega arith in
          rw (le-ltb k (m + 1) (omega arith), le-ltb (suc k) (suc m + 1) (omega arith), a, verb_next m p)

  speaker : (m p k : ℕ) → k < (here m p).count → get_or (speakers_by sg s m p) k (0, 0) ≡ of_outline (here m p) k
  unfolding speakers_by
  speaker zero p zero h = first_is (here 0 p) (omega arith)
  speaker zero p (suc i) h =
      let v = byte_at s (p + 2) in
      parameter (arity_by sg v) (4 * v + 1) (p + 3) i (omega (arith, ap (arity_by sg) (verb_here p))) ∙ past_subject p i
  speaker (suc m) p zero h = first_is (here (suc m) p) (omega arith)
  speaker (suc m) p (suc k) h = speaker m (p + 3) k (omega (arith, ap (arity_by sg) (verb_next m p))) ∙ past_speaker m p k

-- ---- as the loops take them: one more, and the end

module _ (sg s : List ℕ) (p k : ℕ) where
  abbrev rest : List (ℕ × ℕ)
  rest = drop k (expressions_by sg s p)

  abbrev at : ℕ
  at = place_in (outline_by sg s p) k

  abbrev kind : ℕ
  kind = kind_in sg (outline_by sg s p) k

  pub rest_step : k < (outline_by sg s p).count → rest ≡ (at, kind) ∷ drop (k + 1) (expressions_by sg s p)
  unfolding outline_by expressions_by
  rest_step h =
      drop_more (expressions_by sg s p) k (0, 0) (rw (speakers_length sg s (byte_at s p) (p + 1)) h)
      ∙ ap (λ (x : ℕ × ℕ). x ∷ drop (k + 1) (expressions_by sg s p)) (speaker sg s (byte_at s p) (p + 1) k h)

  pub rest_end : (outline_by sg s p).count ≤ k → rest ≡ []
  unfolding outline_by expressions_by
  rest_end h = drop_of_length-le (expressions_by sg s p) (rw (speakers_length sg s (byte_at s p) (p + 1)) h)

  module _ (ks : List ℕ) (t : Cells) where
    pub fit_step : k < (outline_by sg s p).count → feed (map (ask_of ks s) rest) t
        ≡ option_and_then (feed (map (ask_of ks s) (drop (k + 1) (expressions_by sg s p)))) (asked (same (place_at ks s at) (kind_term kind)) t)
    unfolding feed
    fit_step h = rw (rest_step h)

    pub fit_end : (outline_by sg s p).count ≤ k → feed (map (ask_of ks s) rest) t ≡ Some t
    unfolding feed
    fit_end h = rw (rest_end h)

  module _ (m : List ℕ) where
    pub marks_step : k < (outline_by sg s p).count → marked (each rest (vars_at s)) m
        ≡ marked (each (drop (k + 1) (expressions_by sg s p)) (vars_at s)) (marked (vars_of (expr_at s at)) m)
    marks_step h = rw (rest_step h) (marked_append (vars_of (expr_at s at)) _ m)

    pub marks_end : (outline_by sg s p).count ≤ k → marked (each rest (vars_at s)) m ≡ m
    marks_end h = rw (rest_end h)
