-- What a form that is right tells: where the part ends (the model's laws), and that the operators have a meaning.
use mathlib.Core.Path.{◌≡◌, refl, ap}
use mathlib.Core.Logic.{⊎_elim}
use mathlib.Core.Bool.{true}
use mathlib.Core.List.Memᴰ
use mathlib.Core.List.{List, Memᴰ}
use Prim.Native.Nat.{ℕ, zero, suc, ◌+◌, ◌≤◌}
use lib.Dec.{leb}
use borrow.Author.Tests.{leb-true}
use Rattle.model.specs.Syntax.{Constraint}
use Rattle.model.specs.Bytes.{byte_at}
use Rattle.model.specs.Readings.{constraints_at}
use Rattle.model.specs.Forms as forms
use Rattle.model.specs.Forms.{ends, broken, no_verb, operator_form, operators_form}
pub use Rattle.model.proofs.ReaderEnds.{form_ends, form_within, forms_end, forms_within}
use Rattle.wire.proofs.Reading.{both_first, both_second}
use Rattle.std.proofs.Common.{Ok, Err}
use Rattle.phrases.specs.declared.Fault.TheVariants.{Broken, NoVerb}
use Rattle.phrases.specs.Phrases.{code_form}

-- ---- the code's answer tells the model's

pub code_ends : (φ : forms.Form) (q : ℕ) → code_form φ ≡ Ok q → φ ≡ ends q
code_ends (ends p) q e = ap ends (let d : p ≡ q = cc in d)
code_ends broken q e = absurd (cc)
code_ends no_verb q e = absurd (cc)

pub code_broken : (φ : forms.Form) → code_form φ ≡ Err Broken → φ ≡ broken
code_broken (ends p) e = absurd (cc)
code_broken broken e = refl
code_broken no_verb e = absurd (cc)

pub code_no_verb : (φ : forms.Form) → code_form φ ≡ Err NoVerb → φ ≡ no_verb
code_no_verb (ends p) e = absurd (cc)
code_no_verb broken e = absurd (cc)
code_no_verb no_verb e = refl

-- ---- constraints

pub operator_regular : (s : List ℕ) (p : ℕ) → operator_form s p ≡ true → (1 ≤ byte_at s p) × (byte_at s p ≤ 5)
unfolding operator_form
operator_regular s p h = (
  leb-true 1 (byte_at s p) (both_first (leb 1 (byte_at s p)) (leb (byte_at s p) 5) h),
  leb-true (byte_at s p) 5 (both_second (leb 1 (byte_at s p)) (leb (byte_at s p) 5) h),
)

pub operators_regular : (s : List ℕ) (n p : ℕ) → operators_form n s p ≡ true → (c : Constraint) → Memᴰ c (constraints_at n s p) → (1 ≤ c.op) × (c.op ≤ 5)
unfolding operators_form constraints_at
operators_regular s zero p h c m = absurd (Memᴰ.not-nil m)
operators_regular s (suc n) p h c m =
    ⊎_elim
    (λ q. rw q (operator_regular s p (both_first (operator_form s p) (operators_form n s (p + 5)) h)))
    (λ k. operators_regular s n (p + 5) (both_second (operator_form s p) (operators_form n s (p + 5)) h) c k)
    (Memᴰ.cases_cons m)
