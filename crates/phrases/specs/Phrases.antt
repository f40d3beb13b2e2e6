-- Facts and constraints as the code reads them, by the two tables: what they are, where they end, their form, and what they ask of the kinds.
use Rattle.std.specs.Prelude.{ℕ, zero, suc, ◌+◌, ◌-◌, ◌*◌, List, [], ◌∷◌, ◌++◌, ◌||◌, ◌==◌, nat_lt, nat_le, if◌then◌else◌, length}
use Rattle.std.specs.Prelude.{Option, Some, None, Result, Ok, Err}
use Rattle.model.specs.Limits.{max_nest, unlimited, first_variable, today_code}
use Rattle.model.specs.Syntax.{Expr, Fact, flat, can_say}
use Rattle.model.specs.Bytes.{byte_at, u16_at}
use Rattle.model.specs.Readings.{expr_at, exprs_at}
use Rattle.model.specs.Forms as forms
use Rattle.limits.specs.declared.Kind.TheVariants.{Principal, Day}
use Rattle.kinds.specs.declared.Term.{Term}
use Rattle.kinds.specs.declared.Term.TheVariants.{Variable, Any}
use Rattle.kinds.specs.Cells.{Ask, same}
use Rattle.kinds.specs.Asks.{kind_term, operator_asks}
use Rattle.phrases.specs.declared.Fault.{Fault}
use Rattle.phrases.specs.declared.Fault.TheVariants.{Broken, NoVerb}

-- how many parameters verb v has, none past the verbs
unfoldable pub arity_by : List ℕ → ℕ → ℕ
arity_by sg v = byte_at sg (4 * v) - 1

-- ---- facts, and where they end

module _ (sg : List ℕ) where
  -- m levels of speaker and depth, and the phrase: subject, verb and parameters
  unfoldable pub levels_by : ℕ → List ℕ → ℕ → Fact Expr
  levels_by zero s p = flat (expr_at s p) (byte_at s (p + 2)) (exprs_at (arity_by sg (byte_at s (p + 2))) s (p + 3))
  levels_by (suc m) s p = can_say (expr_at s p) (byte_at s (p + 2)) (levels_by m s (p + 3))

  unfoldable pub fact_by : List ℕ → ℕ → Fact Expr
  fact_by s p = levels_by (byte_at s p) s (p + 1)

  unfoldable pub fact_next : List ℕ → ℕ → ℕ
  fact_next s p = p + 4 + 3 * byte_at s p + 2 * arity_by sg (byte_at s (p + 1 + 3 * byte_at s p + 2))

  -- n facts from p on
  unfoldable pub facts_by : ℕ → List ℕ → ℕ → List (Fact Expr)
  facts_by zero s p = []
  facts_by (suc n) s p = fact_by s p ∷ facts_by n s (fact_next s p)

  unfoldable pub facts_next : ℕ → List ℕ → ℕ → ℕ
  facts_next zero s p = p
  facts_next (suc n) s p = facts_next n s (fact_next s p)

-- ---- form

-- the model's answer, as the code gives it
abbrev pub code_form : forms.Form → Result ℕ Fault
code_form (forms.ends p) = Ok p
code_form forms.broken = Err Broken
code_form forms.no_verb = Err NoVerb

-- one part after another: a fault ends it
abbrev pub then_by : Result ℕ Fault → (ℕ → Result ℕ Fault) → Result ℕ Fault
then_by (Ok p) f = f p
then_by (Err x) f = Err x

-- in an item that ends with its bytes
module _ (sg s : List ℕ) where
  unfoldable pub phrase_form_by : ℕ → Result ℕ Fault
  phrase_form_by p =
      if nat_lt (length s) (p + 3) then Err Broken
      else if byte_at sg (4 * byte_at s (p + 2)) == 0 then Err NoVerb
      else if nat_lt (length s) (p + 1 + 2 * byte_at sg (4 * byte_at s (p + 2))) then Err Broken
      else Ok (p + 1 + 2 * byte_at sg (4 * byte_at s (p + 2)))

  unfoldable pub levels_form_by : ℕ → ℕ → Result ℕ Fault
  levels_form_by zero p = phrase_form_by p
  levels_form_by (suc m) p = if nat_lt (length s) (p + 3) || nat_lt unlimited (byte_at s (p + 2)) then Err Broken else levels_form_by m (p + 3)

  unfoldable pub fact_form_by : ℕ → Result ℕ Fault
  fact_form_by p = if nat_le (length s) p || nat_lt max_nest (byte_at s p) then Err Broken else levels_form_by (byte_at s p) (p + 1)

  unfoldable pub facts_form_by : ℕ → ℕ → Result ℕ Fault
  facts_form_by zero p = Ok p
  facts_form_by (suc n) p = then_by (fact_form_by p) (facts_form_by n)

-- ---- kinds: expressions as terms

-- in a constraint
unfoldable pub term_by : List ℕ → ℕ → Option Term
term_by ks x =
    if x == today_code then Some (Any Day)
    else if nat_lt x first_variable then kind_term (byte_at ks x)
    else Some (Variable (x - first_variable))

-- in a fact, where today has no fit
unfoldable pub place_by : List ℕ → ℕ → Option Term
place_by ks x = if x == today_code then None else term_by ks x

abbrev pub term_at : List ℕ → List ℕ → ℕ → Option Term
term_at ks s p = term_by ks (u16_at s p)

abbrev pub place_at : List ℕ → List ℕ → ℕ → Option Term
place_at ks s p = place_by ks (u16_at s p)

-- ---- kinds: what is asked

module _ (ks sg s : List ℕ) where
  -- n parameters from p on, their kinds from k on
  unfoldable pub params_asks : ℕ → ℕ → ℕ → List Ask
  params_asks zero k p = []
  params_asks (suc n) k p = same (place_at ks s p) (kind_term (byte_at sg k)) ∷ params_asks n (k + 1) (p + 2)

  -- m speakers, principals as the subject is, and the phrase
  unfoldable pub levels_asks : ℕ → ℕ → List Ask
  levels_asks zero p = same (place_at ks s p) (Some (Any Principal)) ∷ params_asks (arity_by sg (byte_at s (p + 2))) (4 * byte_at s (p + 2) + 1) (p + 3)
  levels_asks (suc m) p = same (place_at ks s p) (Some (Any Principal)) ∷ levels_asks m (p + 3)

  unfoldable pub fact_asks : ℕ → List Ask
  fact_asks p = levels_asks (byte_at s p) (p + 1)

  unfoldable pub facts_asks : ℕ → ℕ → List Ask
  facts_asks zero p = []
  facts_asks (suc n) p = fact_asks p ++ facts_asks n (fact_next sg s p)

module _ (ks s : List ℕ) where
  unfoldable pub test_asks : ℕ → List Ask
  test_asks p = same (term_at ks s (p + 1)) (term_at ks s (p + 3)) ∷ operator_asks (byte_at s p) (term_at ks s (p + 1))

  unfoldable pub tests_asks : ℕ → ℕ → List Ask
  tests_asks zero p = []
  tests_asks (suc n) p = test_asks p ++ tests_asks n (p + 5)
