-- One piece of text written after another.
use Prim.Native.Nat.{ℕ, ◌+◌, ◌-◌, ◌/◌, ◌%◌, ◌≤◌, ◌<◌}
use native.Mathlib.Numerals.{add-one}
use native.Mathlib.Omega.{arith}
use mathlib.Core.Path.{◌≡◌, refl, sym, ap, subst, ◌∙◌}
use mathlib.Core.List.{List, [], ◌∷◌, ◌++◌, append_assoc}
use lib.ListN.{length, take, drop, set, length-set}
use lib.Seq.{take-suc-set, drop-set-lt, drop-drop}
use Rattle.outcome.specs.Line.{decimal}
use Rattle.outcome.specs.Wrote.{Wrote}
use Rattle.outcome.proofs.Decimals.{one_digit, more_digits, one_length, more_length}

-- lists that agree from r on agree from q on
further : (a b : List ℕ) (r q : ℕ) → drop r b ≡ drop r a → r ≤ q → drop q b ≡ drop q a
further a b r q e h =
    let i : r + (q - r) ≡ q = omega arith in
    let go : (l : List ℕ) → drop (q - r) (drop r l) ≡ drop q l = λ l. drop-drop (q - r) r l ∙ ap (λ (k : ℕ). drop k l) i in
    sym (go b) ∙ ap (drop (q - r)) e ∙ go a

-- a byte after the text
pub byte : (a b : List ℕ) (at r most more x : ℕ) (t : List ℕ) → Wrote a b at r most t → r < length b → most + 1 ≤ more
    → Wrote a (set b r x) at (r + 1) more (t ++ (x ∷ []))
byte a b at r most more x t w h g = record {
  is = ap (λ (k : ℕ). take k (set b r x)) (add-one r) ∙ take-suc-set b r x h ∙ ap (λ (l : List ℕ). l ++ (x ∷ [])) w.is;
  rest = drop-set-lt (r + 1) b r x (omega arith) ∙ further a b r (r + 1) w.rest (omega arith);
  onward = let i = w.onward in omega arith;
  near = let i = w.near in omega arith;
  whole = length-set b r x ∙ w.whole;
}

pub start : (a : List ℕ) (at : ℕ) → Wrote a a at at at (take at a)
start a at = record { is = refl; rest = refl; onward = omega arith; near = omega arith; whole = refl }

-- what goes on from the first r bytes of b goes on from their text
pub onto : {a b c : List ℕ} {at r most q some : ℕ} {t : List ℕ} (f : List ℕ → List ℕ) (more : ℕ) → Wrote a b at r most t → Wrote b c r q some (f (take r b))
    → (r ≤ most → some ≤ more) → Wrote a c at q more (f t)
onto {a = a} {b = b} {r = r} {q = q} f more v w h = record {
  is = w.is ∙ ap f v.is;
  rest = w.rest ∙ further a b r q v.rest w.onward;
  onward = let i = w.onward in let j = v.onward in omega arith;
  near = let i = w.near in let j = h v.near in omega arith;
  whole = w.whole ∙ v.whole;
}

-- ---- digits

pub digits_one : (a : List ℕ) (at n x : ℕ) → n < 10 → at + length (decimal n) ≤ length a → x ≡ 48 + n
    → Wrote a (set a at x) at (at + 1) (at + length (decimal n)) (take at a ++ decimal n)
digits_one a at n x h g e =
    let l : length (decimal n) ≡ 1 = one_length n h in
    subst (λ (d : List ℕ). Wrote a (set a at x) at (at + 1) (at + length (decimal n)) (take at a ++ d)) (ap (λ (y : ℕ). y ∷ []) e ∙ sym (one_digit n h))
    (byte a a at at at (at + length (decimal n)) x (take at a) (start a at) (omega arith) (omega arith))

pub digits_more : (a b : List ℕ) (at n r x : ℕ) → 10 ≤ n → at + length (decimal n) ≤ length a
    → Wrote a b at r (at + length (decimal (n / 10))) (take at a ++ decimal (n / 10)) → x ≡ 48 + n % 10
    → Wrote a (set b r x) at (r + 1) (at + length (decimal n)) (take at a ++ decimal n)
digits_more a b at n r x h g w e =
    let l : length (decimal n) ≡ length (decimal (n / 10)) + 1 = more_length n h in
    let i = w.near in
    let j = w.whole in
    subst (λ (d : List ℕ). Wrote a (set b r x) at (r + 1) (at + length (decimal n)) d)
    (append_assoc (take at a) (decimal (n / 10)) (x ∷ [])
    ∙ ap (λ (l : List ℕ). take at a ++ l) (ap (λ (y : ℕ). decimal (n / 10) ++ (y ∷ [])) e ∙ sym (more_digits n h)))
    (byte a b at r (at + length (decimal (n / 10))) (at + length (decimal n)) x (take at a ++ decimal (n / 10)) w (omega arith) (omega arith))
