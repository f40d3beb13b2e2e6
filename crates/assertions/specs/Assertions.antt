-- Assertions as the code reads them, by the two tables: their form, what they ask of the kinds, and whether they are safe.
use Rattle.std.specs.Prelude.{ℕ, ◌+◌, ◌*◌, List, ◌++◌, Bool, ◌&&◌, ◌||◌, ◌==◌, nat_lt, nat_le, if◌then◌else◌, length, take, Result, Ok, Err, is_some}
use Rattle.model.specs.Limits.{max_assertions, max_body, max_constraints, principal}
use Rattle.model.specs.Lists.{all, each}
use Rattle.model.specs.Syntax.{Verb, Assertion, vars_of, vars_in, vars_test}
use Rattle.model.specs.Safety.{is_flat}
use Rattle.model.specs.Bytes.{byte_at, u16_at}
use Rattle.model.specs.Readings.{expr_at, fact_at, fact_end, facts_at, facts_end, constraints_at}
use Rattle.model.specs.Forms.{operators_form}
use Rattle.kinds.specs.Cells.{Ask, feed, nothing}
use Rattle.phrases.specs.declared.Fault.{Fault}
use Rattle.phrases.specs.declared.Fault.TheVariants.{Broken, NoVerb}
use Rattle.phrases.specs.Phrases.{fact_next, facts_next, fact_by, facts_by, then_by, fact_form_by, facts_form_by, fact_asks, facts_asks, tests_asks}
use Rattle.phrases.specs.Marks.{none, marked, within}
use Rattle.slices.specs.declared.Reason.{Reason}
use Rattle.slices.specs.declared.Reason.TheVariants.{Form, Unfit, UnsafeAssertion}
use Rattle.slices.specs.Steps.{Step}
use Rattle.slices.specs.Lists.{list_by}

-- "2-byte length .., 4-byte serial .., issuer, head fact": where the issuer of the assertion at an offset stands
unfoldable pub issuer_read_at : ℕ → ℕ
issuer_read_at at = at + 6

-- what an assertion says from its issuer on, wherever that stands
module _ (vs : List Verb) (s : List ℕ) where
  unfoldable pub body_from : ℕ → ℕ
  body_from from = fact_end vs s (from + 2)

  unfoldable pub tests_from : ℕ → ℕ
  tests_from from = facts_end vs (byte_at s (body_from from)) s (body_from from + 1)

  unfoldable pub stated_at : ℕ → ℕ → Assertion
  stated_at serial from = record {
    serial = serial;
    issuer = u16_at s from;
    head = fact_at vs s (from + 2);
    body = facts_at vs (byte_at s (body_from from)) s (body_from from + 1);
    tests = constraints_at (byte_at s (tests_from from)) s (tests_from from + 1);
  }

-- ==== From here on s is an assertion's own bytes, from the two of its length on, wherever they stand.

-- ---- where its parts stand: "2-byte length .., 4-byte serial .., issuer, head fact"

abbrev pub issuer_place : ℕ
issuer_place = 6

abbrev pub head_place : ℕ
head_place = 8

-- where the count of constraints stands, that of body facts standing at b
unfoldable pub tests_by : List ℕ → List ℕ → ℕ → ℕ
tests_by sg s b = facts_next sg (byte_at s b) s (b + 1)

-- ---- form

-- what the code's readers of it say: that it is right, and then it ends there
abbrev pub ends : {A : Type 0} → ℕ → Result A Fault → Result ℕ Fault
ends e (Ok x) = Ok e
ends e (Err f) = Err f

-- constraints, whose count stands at p; they end the item
unfoldable pub tests_form_by : List ℕ → ℕ → Result ℕ Fault
tests_form_by s p =
    if nat_le (length s) p || nat_lt max_constraints (byte_at s p) then Err Broken
    else if (p + 1 + 5 * byte_at s p == length s) && operators_form (byte_at s p) s (p + 1) then Ok (length s)
    else Err Broken

module _ (sg s : List ℕ) where
  -- body facts, whose count stands at p, and constraints
  unfoldable pub body_form_by : ℕ → Result ℕ Fault
  body_form_by p =
      if nat_le (length s) p || nat_lt max_body (byte_at s p) then Err Broken
      else then_by (facts_form_by sg s (byte_at s p) (p + 1)) (tests_form_by s)

  -- serial and issuer, head, body and constraints
  unfoldable pub statement_form_by : Result ℕ Fault
  statement_form_by = if nat_lt (length s) head_place then Err Broken else then_by (fact_form_by sg s head_place) body_form_by

-- ---- kinds

module _ (ks sg s : List ℕ) where
  -- of the body, whose count stands at b, and of the constraints
  unfoldable pub body_asks : ℕ → List Ask
  body_asks b = facts_asks ks sg s (byte_at s b) (b + 1) ++ tests_asks ks s (byte_at s (tests_by sg s b)) (tests_by sg s b + 1)

  -- of the head, the body and the constraints
  unfoldable pub statement_asks : List Ask
  statement_asks = fact_asks ks sg s head_place ++ body_asks (fact_next sg s head_place)

  -- the issuer is a principal constant, and some choice of kinds fits
  unfoldable pub fits_by : Bool
  fits_by = (byte_at ks (u16_at s issuer_place) == principal) && is_some (feed statement_asks nothing)

-- ---- safety, the count of body facts standing at b

module _ (sg s : List ℕ) where
  -- the variables of the body
  unfoldable pub body_marks : ℕ → List ℕ → List ℕ
  body_marks b m = marked (each (facts_by sg (byte_at s b) s (b + 1)) vars_in) m

  unfoldable pub head_safe_by : ℕ → Bool
  head_safe_by b =
      if byte_at s head_place == 0 then within 8 (marked (vars_in (fact_by sg s head_place)) none) (body_marks b none)
      else within 8 (marked (vars_of (expr_at s (head_place + 1))) none) (body_marks b none)

  -- the constraints' variables, their count at c
  unfoldable pub tests_safe_by : ℕ → ℕ → Bool
  tests_safe_by b c =
      within 8 (marked (each (constraints_at (byte_at s c) s (c + 1)) vars_test) none) (body_marks b (marked (vars_in (fact_by sg s head_place)) none))

  unfoldable pub safe_by : ℕ → Bool
  safe_by b = all is_flat (facts_by sg (byte_at s b) s (b + 1)) && head_safe_by b && tests_safe_by b (tests_by sg s b)

-- ---- one after the other

module _ (ks sg : List ℕ) where
  -- of right form: how many bytes it has
  unfoldable pub judged_by : List ℕ → Result ℕ Reason
  judged_by s =
      if fits_by ks sg s then (if safe_by sg s (fact_next sg s head_place) then Ok (length s) else Err UnsafeAssertion)
      else Err Unfit

  abbrev pub formed_by : Result ℕ Fault → List ℕ → Result ℕ Reason
  formed_by (Ok e) s = judged_by s
  formed_by (Err Broken) s = Err Form
  formed_by (Err NoVerb) s = Err Unfit

  -- an assertion's own bytes
  unfoldable pub own_by : List ℕ → Result ℕ Reason
  own_by s = formed_by (statement_form_by sg s) s

  -- the assertion that the bytes begin with: its length is there, and does not pass the end
  unfoldable pub check_by : List ℕ → Result ℕ Reason
  check_by s =
      if nat_lt (length s) 2 || nat_lt (length s) (2 + u16_at s 0) then Err Form
      else own_by (take (2 + u16_at s 0) s)

  -- their count at p; nothing is left over after them
  unfoldable pub assertions_by : List ℕ → ℕ → Step
  assertions_by s p = list_by check_by s 0 max_assertions p
