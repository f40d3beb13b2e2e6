-- What an item of right form is sure to have, and when two constants or two verbs are alike.
use mathlib.Core.Path.{◌≡◌, refl, sym, ◌∙◌, ap}
use mathlib.Core.Bool.{Bool, true, false, ◌&&◌}
use mathlib.Core.List.{List, []}
use Prim.Native.Nat.{ℕ, ◌+◌, ◌-◌, ◌≤◌}
use native.Mathlib.Omega.{arith}
use lib.Dec.{eqb, leb, ltb}
use lib.ListN.{length}
use borrow.Author.Tests.{leb-true, eqb-true, eq-eqb, ne_eqb}
use Rattle.wire.proofs.Reading.{both_first, both_second, choose_false, and_yes, and_no}
use Rattle.model.specs.Bytes.{byte_at, u32_at, bytes_at, choose, both}
use Rattle.model.specs.Values.{alike}
use Rattle.model.specs.Readings.{item_end, has_label, constant_read_at, verb_at}
use Rattle.model.specs.Forms.{label_form, item_there, number_form, value_form, constant_form, signature_form, verb_form}
use Rattle.model.specs.Policies.{alike_constants, alike_verbs}

in_turn : (a b c : Bool) → both a (both b c) ≡ (a && (b && c))
unfolding both choose
in_turn true true c = refl
in_turn true false c = refl
in_turn false b c = refl

module _ (s : List ℕ) (at : ℕ) where
  pub there_within : item_there s at ≡ true → item_end s at ≤ length s
  unfolding item_there
  there_within h = leb-true (item_end s at) (length s) (both_second (ltb at (length s)) _ h)

  pub constant_within : constant_form s at ≡ true → item_end s at ≤ length s
  unfolding constant_form
  constant_within h = there_within (both_first (item_there s at) _ h)

  pub constant_two : constant_form s at ≡ true → 2 ≤ byte_at s at
  unfolding constant_form
  constant_two h = leb-true 2 (byte_at s at) (both_first _ (value_form s at) (both_second (item_there s at) _ h))

  pub number_five : constant_form s at ≡ true → has_label (byte_at s (at + 1)) ≡ false → byte_at s at ≡ 5
  unfolding constant_form value_form
  number_five h k =
      let v = both_second (leb 2 (byte_at s at)) _ (both_second (item_there s at) _ h) in
      eqb-true (byte_at s at) 5 (both_first _ (number_form s at) (sym (choose_false _ _ k) ∙ v))

  pub verb_within : verb_form s at ≡ true → item_end s at ≤ length s
  unfolding verb_form
  verb_within h = there_within (both_first (item_there s at) _ h)

  -- the label of a verb has at least one byte
  pub verb_label : verb_form s at ≡ true → 2 + byte_at s (at + 1) ≤ byte_at s at
  unfolding verb_form signature_form label_form
  verb_label h =
      let g = both_second (leb 1 (byte_at s at)) _ (both_second (item_there s at) _ h) in
      let l = both_second (leb (1 + byte_at s (at + 1)) (byte_at s at)) _ (both_second _ _ g) in
      let n = leb-true 1 (byte_at s at - 1 - byte_at s (at + 1)) (both_first _ _ (both_second _ _ l)) in
      omega arith

-- ---- the same of the bytes that begin with an item, as the code reads them

module _ (s : List ℕ) where
  pub there_inside : item_there s 0 ≡ true → 1 + byte_at s 0 ≤ length s
  unfolding item_end
  there_inside h = there_within s 0 h

  pub there_begun : item_there s 0 ≡ true → 1 ≤ length s
  there_begun h = omega (arith, there_inside h)

  pub constant_inside : constant_form s 0 ≡ true → 1 + byte_at s 0 ≤ length s
  unfolding item_end
  constant_inside h = constant_within s 0 h

  pub verb_inside : verb_form s 0 ≡ true → 1 + byte_at s 0 ≤ length s
  unfolding item_end
  verb_inside h = verb_within s 0 h

  -- the bytes before a label, and those of a number, are there
  pub constant_start : constant_form s 0 ≡ true → 3 ≤ length s
  constant_start h = omega (arith, constant_inside h, constant_two s 0 h)

  pub verb_long : verb_form s 0 ≡ true → 2 + byte_at s 1 ≤ byte_at s 0
  verb_long h = verb_label s 0 h

  pub verb_start : verb_form s 0 ≡ true → 3 ≤ length s
  verb_start h = omega (arith, verb_inside h, verb_long h)

  pub number_there : constant_form s 0 ≡ true → has_label (byte_at s 1) ≡ false → 6 ≤ length s
  number_there h k = omega (arith, constant_inside h, number_five s 0 h k)

  -- the forms, test by test
  pub constant_tests : constant_form s 0 ≡ (item_there s 0 && (leb 2 (byte_at s 0) && value_form s 0))
  unfolding constant_form
  constant_tests = in_turn (item_there s 0) (leb 2 (byte_at s 0)) (value_form s 0)

  pub verb_tests : verb_form s 0 ≡ (item_there s 0 && (leb 1 (byte_at s 0) && signature_form s 0))
  unfolding verb_form
  verb_tests = in_turn (item_there s 0) (leb 1 (byte_at s 0)) (signature_form s 0)

-- what the code is proved by
pub ruleset form_tests = (there_inside, there_begun, there_within, constant_tests, verb_tests)

-- ---- "alike in kind and value"

numbers_none : (b : Bool) → (b && true) ≡ b
numbers_none true = refl
numbers_none false = refl

labelled : (b c : Bool) (l m : List ℕ) (x y : ℕ) → b ≡ true → c ≡ true
    → (alike (choose b l []) (choose c m []) && eqb (choose b 0 x) (choose c 0 y)) ≡ alike l m
unfolding choose
labelled b c l m x y d e = rw (d, e) (numbers_none (alike l m))

numbered : (b c : Bool) (l m : List ℕ) (x y : ℕ) → b ≡ false → c ≡ false
    → (alike (choose b l []) (choose c m []) && eqb (choose b 0 x) (choose c 0 y)) ≡ eqb x y
unfolding choose
numbered b c l m x y d e = rw (d, e)

module _ (s t : List ℕ) where
  pub kinds_differ : (byte_at s 1 ≡ byte_at t 1 → ⊥) → false ≡ alike_constants (constant_read_at s 0) (constant_read_at t 0)
  unfolding constant_read_at
  kinds_differ h = and_no _ _ false (ne_eqb _ _ h) refl

  pub alike_labels_law : (z : Bool) → byte_at s 1 ≡ byte_at t 1 → has_label (byte_at s 1) ≡ true
      → z ≡ alike (bytes_at (byte_at s 0 - 1) s 2) (bytes_at (byte_at t 0 - 1) t 2) → z ≡ alike_constants (constant_read_at s 0) (constant_read_at t 0)
  unfolding constant_read_at
  alike_labels_law z e k h =
      and_yes (eqb (byte_at s 1) (byte_at t 1)) _ z (eq-eqb _ _ e)
      (h ∙ sym (labelled (has_label (byte_at s 1)) (has_label (byte_at t 1)) _ _ _ _ k (ap has_label (sym e) ∙ k)))

  pub alike_numbers : (z : Bool) → byte_at s 1 ≡ byte_at t 1 → has_label (byte_at s 1) ≡ false → z ≡ eqb (u32_at s 2) (u32_at t 2)
      → z ≡ alike_constants (constant_read_at s 0) (constant_read_at t 0)
  unfolding constant_read_at
  alike_numbers z e k h =
      and_yes (eqb (byte_at s 1) (byte_at t 1)) _ z (eq-eqb _ _ e)
      (h ∙ sym (numbered (has_label (byte_at s 1)) (has_label (byte_at t 1)) _ _ _ _ k (ap has_label (sym e) ∙ k)))

  pub verbs_alike : (z : Bool)
      → z ≡ alike (bytes_at (byte_at s 0 - 1 - byte_at s 1) s (2 + byte_at s 1)) (bytes_at (byte_at t 0 - 1 - byte_at t 1) t (2 + byte_at t 1))
      → z ≡ alike_verbs (verb_at s 0) (verb_at t 0)
  unfolding verb_at
  verbs_alike z h = h
