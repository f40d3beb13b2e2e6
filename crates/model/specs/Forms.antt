-- Computed: form (refusal 3), by offsets. Of constants and verbs a test, of facts and assertions where they end.
use Rattle.std.specs.Prelude.{ℕ, zero, suc, ◌+◌, ◌-◌, ◌*◌, List, Bool, true, ◌&&◌, length, eqb, ltb, leb}
use Rattle.model.specs.Limits.{max_label, lowest_label_byte, highest_label_byte, max_day, max_arity, max_nest, max_body, max_constraints, max_operator}
use Rattle.model.specs.Limits.{unlimited, day, quantity}
use Rattle.model.specs.Lists.{all}
use Rattle.model.specs.Syntax.{Verb}
use Rattle.model.specs.Bytes.{byte_at, u32_at, bytes_at, choose, both}
use Rattle.model.specs.Readings.{item_end, has_label, arity_of, assertion_end}

-- ---- "label of 1 to 32 bytes in 0x21 to 0x7E"

abbrev pub label_byte : ℕ → Bool
label_byte b = leb lowest_label_byte b && leb b highest_label_byte

unfoldable pub label_form : ℕ → List ℕ → ℕ → Bool
label_form n s p = both (leb 1 n) (both (leb n max_label) (all label_byte (bytes_at n s p)))

-- the item at `at` is there and ends by the end of the bytes
unfoldable pub item_there : List ℕ → ℕ → Bool
item_there s at = both (ltb at (length s)) (leb (item_end s at) (length s))

-- "Kind 1 principal and 2 thing: label ... Kind 3 day: 4 bytes, .. 0 to 36,524. Kind 4 quantity: 4 bytes, any value."
unfoldable pub number_form : List ℕ → ℕ → Bool
number_form s at = choose (eqb (byte_at s (at + 1)) day) (leb (u32_at s (at + 2)) max_day) (eqb (byte_at s (at + 1)) quantity)

unfoldable pub value_form : List ℕ → ℕ → Bool
value_form s at = choose (has_label (byte_at s (at + 1))) (label_form (byte_at s at - 1) s (at + 2)) (both (eqb (byte_at s at) 5) (number_form s at))

unfoldable pub constant_form : List ℕ → ℕ → Bool
constant_form s at = both (item_there s at) (both (leb 2 (byte_at s at)) (value_form s at))

abbrev pub is_kind : ℕ → Bool
is_kind k = leb 1 k && leb k quantity

-- "arity byte 0 to 3, one kind byte per parameter, label as above"
unfoldable pub signature_form : List ℕ → ℕ → Bool
signature_form s at =
    both (leb (byte_at s (at + 1)) max_arity)
    (both (leb (1 + byte_at s (at + 1)) (byte_at s at))
    (both (all is_kind (bytes_at (byte_at s (at + 1)) s (at + 2)))
    (label_form (byte_at s at - 1 - byte_at s (at + 1)) s (at + 2 + byte_at s (at + 1)))))

unfoldable pub verb_form : List ℕ → ℕ → Bool
verb_form s at = both (item_there s at) (both (leb 1 (byte_at s at)) (signature_form s at))

-- ---- facts and assertions: where the part read ends; no form (3); or a verb number past the verbs, which ends the reading (5)

pub data Form : Type 0 where
  ends : ℕ → Form
  broken no_verb : Form

unfoldable pub then_form : Form → (ℕ → Form) → Form
then_form (ends p) f = f p
then_form broken f = broken
then_form no_verb f = no_verb

-- "operator .. with no meaning"
unfoldable pub operator_form : List ℕ → ℕ → Bool
operator_form s p = both (leb 1 (byte_at s p)) (leb (byte_at s p) max_operator)

-- n constraints from p on
unfoldable pub operators_form : ℕ → List ℕ → ℕ → Bool
operators_form zero s p = true
operators_form (suc n) s p = both (operator_form s p) (operators_form n s (p + 5))

-- in an item that ends at `e`
module _ (vs : List Verb) (s : List ℕ) (e : ℕ) where
  -- subject, verb and parameters from p on
  unfoldable pub phrase_form : ℕ → Form
  phrase_form p =
      choose (ltb e (p + 3)) broken
      (choose (ltb (length vs) (byte_at s (p + 2))) no_verb
      (choose (ltb e (p + 3 + 2 * arity_of vs (byte_at s (p + 2)))) broken
      (ends (p + 3 + 2 * arity_of vs (byte_at s (p + 2))))))

  -- m levels of speaker and depth, and the phrase
  unfoldable pub levels_form : ℕ → ℕ → Form
  levels_form zero p = phrase_form p
  levels_form (suc m) p = choose (ltb e (p + 3)) broken (choose (ltb unlimited (byte_at s (p + 2))) broken (levels_form m (p + 3)))

  unfoldable pub fact_form : ℕ → Form
  fact_form p = choose (leb e p) broken (choose (ltb max_nest (byte_at s p)) broken (levels_form (byte_at s p) (p + 1)))

  unfoldable pub facts_form : ℕ → ℕ → Form
  facts_form zero p = ends p
  facts_form (suc n) p = then_form (fact_form p) (facts_form n)

  -- constraints, whose count stands at p; they end the item
  unfoldable pub tests_form : ℕ → Form
  tests_form p =
      choose (leb e p) broken
      (choose (ltb max_constraints (byte_at s p)) broken
      (choose (eqb (p + 1 + 5 * byte_at s p) e) (choose (operators_form (byte_at s p) s (p + 1)) (ends e) broken) broken))

  -- body facts, whose count stands at p, and constraints
  unfoldable pub body_form : ℕ → Form
  body_form p =
      choose (leb e p) broken
      (choose (ltb max_body (byte_at s p)) broken
      (then_form (facts_form (byte_at s p) (p + 1)) tests_form))

  -- serial and issuer from p on, head, body and constraints
  unfoldable pub statement_form : ℕ → Form
  statement_form p = choose (ltb e (p + 6)) broken (then_form (fact_form (p + 6)) body_form)

-- the assertion at `at`: its length is there, and does not pass the end
unfoldable pub assertion_form : List Verb → List ℕ → ℕ → Form
assertion_form vs s at =
    choose (ltb (length s) (at + 2)) broken
    (choose (ltb (length s) (assertion_end s at)) broken
    (statement_form vs s (assertion_end s at) (at + 2)))
