-- Laws by which `search reading` closes what a reader's `return` asks: that its answer is what a specification by `choose` says there.
use mathlib.Core.Path.{◌≡◌, refl, sym, ◌∙◌}
use mathlib.Core.Bool.{Bool, true, false, ◌&&◌, ◌||◌, not, false≢true}
use Prim.Native.Nat.{ℕ, zero, suc, ◌≤◌}
use lib.Dec.{ltb, leb, eqb}
use lib.ListN.{length, get_or}
use mathlib.Core.List.{List, [], ◌∷◌}
use borrow.Author.Tests.{lt-ltb, le-ltb, le-leb, lt-leb, eq-eqb, ne_eqb, not-true, not-false}
use native.Mathlib.Omega.{arith}
use Rattle.model.specs.Bytes.{choose, both}
pub use Rattle.model.proofs.Tests.{both_first, both_second}

pub choose_true : {A : Type 0} {b : Bool} (x y : A) → b ≡ true → choose b x y ≡ x
unfolding choose
choose_true x y e = rw e

pub choose_false : {A : Type 0} {b : Bool} (x y : A) → b ≡ false → choose b x y ≡ y
unfolding choose
choose_false x y e = rw e

-- the answer where a test held, and where it failed
pub on_yes : {A : Type 0} (b : Bool) (x y z : A) → b ≡ true → z ≡ x → z ≡ choose b x y
on_yes b x y z e p = p ∙ sym (choose_true x y e)

pub on_no : {A : Type 0} (b : Bool) (x y z : A) → b ≡ false → z ≡ y → z ≡ choose b x y
on_no b x y z e p = p ∙ sym (choose_false x y e)

pub both_yes : (a b z : Bool) → a ≡ true → z ≡ b → z ≡ both a b
unfolding both
both_yes a b z = on_yes a b false z

pub both_no : (a b z : Bool) → a ≡ false → z ≡ false → z ≡ both a b
unfolding both
both_no a b z = on_no a b false z

pub and_yes : (a b z : Bool) → a ≡ true → z ≡ b → z ≡ a && b
and_yes true b z e p = p
and_yes false b z e p = absurd (false≢true e)

pub and_no : (a b z : Bool) → a ≡ false → z ≡ false → z ≡ a && b
and_no true b z e p = absurd (false≢true (sym e))
and_no false b z e p = p

pub or_yes : (a b z : Bool) → a ≡ true → z ≡ true → z ≡ a || b
or_yes true b z e p = p
or_yes false b z e p = absurd (false≢true e)

pub or_no : (a b z : Bool) → a ≡ false → z ≡ b → z ≡ a || b
or_no true b z e p = absurd (false≢true (sym e))
or_no false b z e p = p

-- a callee's result r stands for the test b
pub via : {r b t : Bool} → r ≡ b → r ≡ t → b ≡ t
via p q = sym p ∙ q

pub via_not : {r b : Bool} → r ≡ b → not r ≡ true → b ≡ false
via_not {r} p q = sym p ∙ not-true r q

pub via_not' : {r b : Bool} → r ≡ b → not r ≡ false → b ≡ true
via_not' {r} p q = sym p ∙ not-false r q

-- a test of a number that a callee returned
pub eqb_of : (a b c d : ℕ) → a ≡ b → c ≡ d → eqb a c ≡ eqb b d
eqb_of a b c d p q = rw (p, q)

pub leb_of : (a b c d : ℕ) → a ≡ b → c ≡ d → leb a c ≡ leb b d
leb_of a b c d p q = rw (p, q)

pub ltb_of : (a b c d : ℕ) → a ≡ b → c ≡ d → ltb a c ≡ ltb b d
ltb_of a b c d p q = rw (p, q)

pub ruleset reading = (
  eqb_of,
  leb_of,
  ltb_of,
  on_yes,
  on_no,
  both_yes,
  both_no,
  and_yes,
  and_no,
  or_yes,
  or_no,
  via,
  via_not,
  via_not',
  lt-ltb,
  le-ltb,
  le-leb,
  lt-leb,
  eq-eqb,
  ne_eqb,
)

-- past the end a byte reads as 0
pub past_end : (s : List ℕ) (i : ℕ) → length s ≤ i → get_or s i 0 ≡ 0
past_end [] i h = refl
past_end (x ∷ xs) zero h = absurd (omega arith)
past_end (x ∷ xs) (suc i) h = past_end xs i (omega arith)
