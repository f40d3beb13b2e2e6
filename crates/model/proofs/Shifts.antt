-- What stands at an offset of a slice is what the rest of the slice from there on begins with. By these laws the readers of items, which are lent that rest and
-- do not know its offset, mean what the model says by offsets. `at` is where the rest begins, p a place in it, and q the same place in the slice.
use mathlib.Core.Path.{◌≡◌, refl, sym, ap, ap₂, ◌∙◌}
use mathlib.Core.List.{List, ◌∷◌}
use Prim.Native.Nat.{ℕ, zero, suc, ◌+◌, ◌-◌, ◌*◌, ◌≤◌, ◌<◌}
use native.Mathlib.Decide.{dec_lt}
use native.Mathlib.Omega.{arith}
use lib.Dec.{ltb, leb}
use lib.ListN.{length, take, drop}
use lib.Seq.{take_all}
use borrow.Author.Tests.{lt-ltb, le-ltb, le-leb, lt-leb}
use Rattle.std.proofs.lemmas.List as lists
use Rattle.model.specs.Bytes.{byte_at, u16_at, u32_at, bytes_at, both}
use Rattle.model.specs.Readings.{item_end, constant_read_at, verb_at, expr_of, expr_at, exprs_at, constraint_at, constraints_at}
use Rattle.model.specs.Forms.{label_form, item_there, number_form, value_form, constant_form, signature_form, verb_form}
use Rattle.model.specs.Forms.{operator_form, operators_form}
use Rattle.model.specs.Entries.{withdrawal_end, withdrawal_at, withdrawal_form, link_at}

module _ (s : List ℕ) (at : ℕ) where
  abbrev rest : List ℕ
  rest = drop at s

  -- ---- how long the rest is

  pub rest_length : length rest ≡ length s - at
  rest_length = lists.length-drop at s

  -- `&s[at..]`, as code lends it
  pub rest_is : take (length s - at) rest ≡ rest
  rest_is = take_all (length s - at) rest (omega (arith, rest_length))

  -- a place in it is before its end
  pub rest_begun : (p q : ℕ) → q ≡ at + p → ltb p (length rest) ≡ ltb q (length s)
  rest_begun p q e = go (dec_lt q (length s))
    where
      go : Dec (q < length s) → ltb p (length rest) ≡ ltb q (length s)
      go (yes h) = lt-ltb p (length rest) (omega (arith, e, rest_length)) ∙ sym (lt-ltb q (length s) h)
      go (no h) = le-ltb p (length rest) (omega (arith, e, rest_length)) ∙ sym (le-ltb q (length s) (omega arith))

  -- what has bytes in it ends by its end, or past it
  pub rest_within : (p q : ℕ) → 1 ≤ p → q ≡ at + p → leb p (length rest) ≡ leb q (length s)
  rest_within p q l e = go (dec_lt (length s) q)
    where
      go : Dec (length s < q) → leb p (length rest) ≡ leb q (length s)
      go (yes h) = lt-leb p (length rest) (omega (arith, l, e, rest_length)) ∙ sym (lt-leb q (length s) h)
      go (no h) = le-leb p (length rest) (omega (arith, l, e, rest_length)) ∙ sym (le-leb q (length s) (omega arith))

  pub rest_past : (p q : ℕ) → 1 ≤ p → q ≡ at + p → ltb (length rest) p ≡ ltb (length s) q
  rest_past p q l e = go (dec_lt (length s) q)
    where
      go : Dec (length s < q) → ltb (length rest) p ≡ ltb (length s) q
      go (yes h) = lt-ltb (length rest) p (omega (arith, l, e, rest_length)) ∙ sym (lt-ltb (length s) q h)
      go (no h) = le-ltb (length rest) p (omega (arith, l, e, rest_length)) ∙ sym (le-ltb (length s) q (omega arith))

  -- ---- bytes and numbers

  pub rest_byte : (p q : ℕ) → q ≡ at + p → byte_at rest p ≡ byte_at s q
  rest_byte p q e = lists.get_or-drop at s p 0 ∙ ap (byte_at s) (sym e)

  pub rest_u16 : (p q : ℕ) → q ≡ at + p → u16_at rest p ≡ u16_at s q
  unfolding u16_at
  rest_u16 p q e = ap₂ (λ (a b : ℕ). 256 * a + b) (rest_byte p q e) (rest_byte (p + 1) (q + 1) (omega (arith, e)))

  pub rest_u32 : (p q : ℕ) → q ≡ at + p → u32_at rest p ≡ u32_at s q
  unfolding u32_at
  rest_u32 p q e = ap₂ (λ (a b : ℕ). 65536 * a + b) (rest_u16 p q e) (rest_u16 (p + 2) (q + 2) (omega (arith, e)))

  pub rest_bytes : (n p q : ℕ) → q ≡ at + p → bytes_at n rest p ≡ bytes_at n s q
  unfolding bytes_at
  rest_bytes zero p q e = refl
  rest_bytes (suc n) p q e = ap₂ ◌∷◌ (rest_byte p q e) (rest_bytes n (p + 1) (q + 1) (omega (arith, e)))

  -- ---- expressions and constraints

  pub rest_expr : (p q : ℕ) → q ≡ at + p → expr_at rest p ≡ expr_at s q
  rest_expr p q e = ap expr_of (rest_u16 p q e)

  pub rest_exprs : (n p q : ℕ) → q ≡ at + p → exprs_at n rest p ≡ exprs_at n s q
  unfolding exprs_at
  rest_exprs zero p q e = refl
  rest_exprs (suc n) p q e = ap₂ ◌∷◌ (rest_expr p q e) (rest_exprs n (p + 2) (q + 2) (omega (arith, e)))

  pub rest_constraint : (p q : ℕ) → q ≡ at + p → constraint_at rest p ≡ constraint_at s q
  rest_constraint p q e =
      let op = rest_byte p q e in
      let left = rest_expr (p + 1) (q + 1) (omega (arith, e)) in
      let right = rest_expr (p + 3) (q + 3) (omega (arith, e)) in
      rw (op, left, right)

  pub rest_constraints : (n p q : ℕ) → q ≡ at + p → constraints_at n rest p ≡ constraints_at n s q
  unfolding constraints_at
  rest_constraints zero p q e = refl
  rest_constraints (suc n) p q e = ap₂ ◌∷◌ (rest_constraint p q e) (rest_constraints n (p + 5) (q + 5) (omega (arith, e)))

  pub rest_operator_form : (p q : ℕ) → q ≡ at + p → operator_form rest p ≡ operator_form s q
  unfolding operator_form
  rest_operator_form p q e = rw (rest_byte p q e)

  pub rest_operators_form : (n p q : ℕ) → q ≡ at + p → operators_form n rest p ≡ operators_form n s q
  unfolding operators_form
  rest_operators_form zero p q e = refl
  rest_operators_form (suc n) p q e = ap₂ both (rest_operator_form p q e) (rest_operators_form n (p + 5) (q + 5) (omega (arith, e)))

  -- ---- constants and verbs

  pub rest_item_end : (p q : ℕ) → q ≡ at + p → at + item_end rest p ≡ item_end s q
  unfolding item_end
  rest_item_end p q e = let b = rest_byte p q e in omega (arith, e, b)

  pub rest_constant : (p q : ℕ) → q ≡ at + p → constant_read_at rest p ≡ constant_read_at s q
  unfolding constant_read_at
  rest_constant p q e =
      let length_byte = rest_byte p q e in
      let kind = rest_byte (p + 1) (q + 1) (omega (arith, e)) in
      let number = rest_u32 (p + 2) (q + 2) (omega (arith, e)) in
      let label = rest_bytes (byte_at s q - 1) (p + 2) (q + 2) (omega (arith, e)) in
      rw (length_byte, kind, number, label)

  pub rest_verb : (p q : ℕ) → q ≡ at + p → verb_at rest p ≡ verb_at s q
  unfolding verb_at
  rest_verb p q e =
      let length_byte = rest_byte p q e in
      let arity = rest_byte (p + 1) (q + 1) (omega (arith, e)) in
      let a = byte_at s (q + 1) in
      let kinds = rest_bytes a (p + 2) (q + 2) (omega (arith, e)) in
      let label = rest_bytes (byte_at s q - 1 - a) (p + 2 + a) (q + 2 + a) (omega (arith, e)) in
      rw (length_byte, arity, kinds, label)

  pub rest_label_form : (n p q : ℕ) → q ≡ at + p → label_form n rest p ≡ label_form n s q
  unfolding label_form
  rest_label_form n p q e = rw (rest_bytes n p q e)

  pub rest_item_there : (p q : ℕ) → q ≡ at + p → item_there rest p ≡ item_there s q
  unfolding item_there item_end
  rest_item_there p q e =
      ap₂ both (rest_begun p q e) (rest_within (p + 1 + byte_at rest p) (q + 1 + byte_at s q) (omega arith) (let b = rest_byte p q e in omega (arith, e, b)))

  pub rest_constant_form : (p q : ℕ) → q ≡ at + p → constant_form rest p ≡ constant_form s q
  unfolding constant_form value_form number_form
  rest_constant_form p q e =
      let there = rest_item_there p q e in
      let length_byte = rest_byte p q e in
      let kind = rest_byte (p + 1) (q + 1) (omega (arith, e)) in
      let number = rest_u32 (p + 2) (q + 2) (omega (arith, e)) in
      let label = rest_label_form (byte_at s q - 1) (p + 2) (q + 2) (omega (arith, e)) in
      rw (there, length_byte, kind, number, label)

  pub rest_verb_form : (p q : ℕ) → q ≡ at + p → verb_form rest p ≡ verb_form s q
  unfolding verb_form signature_form
  rest_verb_form p q e =
      let there = rest_item_there p q e in
      let length_byte = rest_byte p q e in
      let arity = rest_byte (p + 1) (q + 1) (omega (arith, e)) in
      let a = byte_at s (q + 1) in
      let kinds = rest_bytes a (p + 2) (q + 2) (omega (arith, e)) in
      let label = rest_label_form (byte_at s q - 1 - a) (p + 2 + a) (q + 2 + a) (omega (arith, e)) in
      rw (there, length_byte, arity, kinds, label)

  -- ---- entries of the added slices

  pub rest_withdrawal_end : (p q : ℕ) → q ≡ at + p → at + withdrawal_end rest p ≡ withdrawal_end s q
  unfolding withdrawal_end
  rest_withdrawal_end p q e = let count = rest_byte (p + 6) (q + 6) (omega (arith, e)) in omega (arith, e, count)

  pub rest_withdrawal : (p q : ℕ) → q ≡ at + p → withdrawal_at rest p ≡ withdrawal_at s q
  unfolding withdrawal_at
  rest_withdrawal p q e =
      let issuer = rest_u16 p q e in
      let serial = rest_u32 (p + 2) (q + 2) (omega (arith, e)) in
      let count = rest_byte (p + 6) (q + 6) (omega (arith, e)) in
      let tests = rest_constraints (byte_at s (q + 6)) (p + 7) (q + 7) (omega (arith, e)) in
      rw (issuer, serial, count, tests)

  pub rest_withdrawal_form : (p q : ℕ) → q ≡ at + p → withdrawal_form rest p ≡ withdrawal_form s q
  unfolding withdrawal_form withdrawal_end
  rest_withdrawal_form p q e =
      let count = rest_byte (p + 6) (q + 6) (omega (arith, e)) in
      let n = byte_at s (q + 6) in
      let begun = rest_past (p + 7) (q + 7) (omega arith) (omega (arith, e)) in
      let ends = rest_past (p + 7 + 5 * n) (q + 7 + 5 * n) (omega arith) (omega (arith, e)) in
      let operators = rest_operators_form n (p + 7) (q + 7) (omega (arith, e)) in
      rw (count, begun, ends, operators)

  pub rest_link : (p q : ℕ) → q ≡ at + p → link_at rest p ≡ link_at s q
  unfolding link_at
  rest_link p q e =
      let verb = rest_byte p q e in
      let position = rest_byte (p + 1) (q + 1) (omega (arith, e)) in
      let parent = rest_u16 (p + 2) (q + 2) (omega (arith, e)) in
      let child = rest_u16 (p + 4) (q + 4) (omega (arith, e)) in
      rw (verb, position, parent, child)
