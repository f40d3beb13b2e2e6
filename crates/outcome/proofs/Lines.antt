-- The line, from its pieces.
use Prim.Native.Nat.{ℕ, ◌+◌, ◌≤◌, ◌<◌}
use native.Mathlib.Omega.{arith}
use mathlib.Core.Path.{◌≡◌, refl, sym, ◌∙◌}
use mathlib.Core.List.{List, [], ◌++◌}
use lib.ListN.{length, take, drop}
use lib.Seq.{length-take-le}
use Rattle.outcome.specs.Line.{text, decimal, decision_line, side_word, refusal_line, line_by, line_of}
use Rattle.outcome.specs.Reported.{report_of}
use Rattle.outcome.specs.Wrote.{Wrote}
use Rattle.outcome.specs.declared.Outcome.{Outcome}
use Rattle.outcome.specs.declared.Outcome.TheVariants.{Allow, Deny, Refused, TooManyFacts, TooManyAnswers}
use Rattle.outcome.proofs.Decimals.{twenty}
use Rattle.outcome.proofs.Writing.{onto}

-- a word, then a number
pub labelled_is : {a b c : List ℕ} {r q : ℕ} (at : ℕ) (w : List ℕ) (n : ℕ) → n < 18446744073709551616
    → Wrote a b at r (at + length w) (take at a ++ w) → Wrote b c r q (r + length (decimal n)) (take r b ++ decimal n)
    → Wrote a c at q (at + length w + 20) (take at a ++ w ++ decimal n)
labelled_is at w n h v u = onto (λ l. l ++ decimal n) (at + length w + 20) v u (λ i. let j = twenty n h in omega arith)

-- three numbers after the decision word
pub counts_are : {a b c d e : List ℕ} {p q r s : ℕ} (at facts rounds answers : ℕ)
    → Wrote a b at p (at + 7 + 20) (take at a ++ text " facts " ++ decimal facts)
    → Wrote b c p q (p + 8 + 20) (take p b ++ text " rounds " ++ decimal rounds)
    → Wrote c d q r (q + 9 + 20) (take q c ++ text " answers " ++ decimal answers)
    → Wrote d e r s (r + 1) (take r d ++ text "\n")
    → Wrote a e at s (at + 85) (decision_line (take at a) facts rounds answers)
unfolding decision_line
counts_are at facts rounds answers v w x y =
    onto (λ l. l ++ text "\n") (at + 85)
    (onto (λ l. l ++ text " answers " ++ decimal answers) (at + 84)
    (onto (λ l. l ++ text " rounds " ++ decimal rounds) (at + 55) v w (λ i. omega arith)) x (λ i. omega arith)) y (λ i. omega arith)

-- number, side and place: the side's word has at most thirteen bytes
pub refused_is : {a b c d e : List ℕ} {p q r s : ℕ} (number side place : ℕ) (w : List ℕ) → w ≡ side_word side → length w ≤ 13
    → place < 18446744073709551616
    → Wrote a b 0 p 28 (text "refused " ++ decimal number)
    → Wrote b c p q (p + length w) (take p b ++ w)
    → Wrote c d q r (q + length (decimal place)) (take q c ++ decimal place)
    → Wrote d e r s (r + 1) (take r d ++ text "\n")
    → Wrote a e 0 s 96 (refusal_line number side place)
unfolding refusal_line
refused_is number side place word is short h v w x y =
    rw (← is)
    (onto (λ l. l ++ text "\n") 96
    (onto (λ l. l ++ decimal place) 61
    (onto (λ l. l ++ word) 41 v w (λ i. omega arith)) x (λ i. let j = twenty place h in omega arith)) y (λ i. omega arith))

-- ---- the line of each outcome

-- what `line` promises: from the bytes a to the bytes b the line of o was written, r bytes long
abbrev Line : List ℕ → List ℕ → ℕ → Outcome → Type 0
Line a b r o = ((r ≤ length b) × (r ≡ length (take r b))) × ((take r b ≡ line_of (report_of o [] [])) × (drop r b ≡ drop r a))

line_is : {a b : List ℕ} {r : ℕ} (o : Outcome) (t : List ℕ) → line_of (report_of o [] []) ≡ t → length a ≡ 96 → Wrote a b 0 r 96 t → Line a b r o
line_is {b = b} {r = r} o t e l w =
    let i = w.near in
    let j = w.whole in
    let k : r ≤ length b = omega arith in
    ((k, sym (length-take-le r b k)), (w.is ∙ sym e, w.rest))

pub allow_is : {a b c : List ℕ} {p q : ℕ} (o : Outcome) (facts rounds answers : ℕ) → o ≡ Outcome.Allow facts rounds answers → length a ≡ 96
    → Wrote a b 0 p 5 (text "allow") → Wrote b c p q (p + 85) (decision_line (take p b) facts rounds answers) → Line a c q o
unfolding line_of line_by
allow_is o facts rounds answers e l v w = line_is o (decision_line (text "allow") facts rounds answers) (rw e) l
    (onto (λ x. decision_line x facts rounds answers) 96 v w (λ i. omega arith))

pub deny_is : {a b c : List ℕ} {p q : ℕ} (o : Outcome) (facts rounds : ℕ) → o ≡ Outcome.Deny facts rounds → length a ≡ 96
    → Wrote a b 0 p 4 (text "deny") → Wrote b c p q (p + 85) (decision_line (take p b) facts rounds 0) → Line a c q o
unfolding line_of line_by
deny_is o facts rounds e l v w = line_is o (decision_line (text "deny") facts rounds 0) (rw e) l
    (onto (λ x. decision_line x facts rounds 0) 96 v w (λ i. omega arith))

pub facts_are : {a b : List ℕ} {r : ℕ} (o : Outcome) → o ≡ Outcome.TooManyFacts → length a ≡ 96 → Wrote a b 0 r 96 (refusal_line 8 0 0) → Line a b r o
unfolding line_of line_by
facts_are o e l w = line_is o (refusal_line 8 0 0) (rw e) l w

pub answers_are : {a b : List ℕ} {r : ℕ} (o : Outcome) (facts rounds : ℕ) → o ≡ Outcome.TooManyAnswers facts rounds → length a ≡ 96
    → Wrote a b 0 r 96 (refusal_line 9 0 0) → Line a b r o
unfolding line_of line_by
answers_are o facts rounds e l w = line_is o (refusal_line 9 0 0) (rw e) l w

-- the line does not read the buffers
pub any_buffers : (o : Outcome) (facts answers : List ℕ) → line_of (report_of o facts answers) ≡ line_of (report_of o [] [])
unfolding line_of
any_buffers (Allow f r a) facts answers = refl
any_buffers (Deny f r) facts answers = refl
any_buffers (Refused side why) facts answers = refl
any_buffers TooManyFacts facts answers = refl
any_buffers (TooManyAnswers f r) facts answers = refl
