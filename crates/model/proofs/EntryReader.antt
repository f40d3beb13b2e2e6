-- The slices of entries: `Layout`'s readers are the computed ones for every byte list.
use mathlib.Core.Path.{◌≡◌, refl, sym, ap, ◌∙◌}
use mathlib.Core.List.{List}
use mathlib.Core.Bool.{Bool, true, false, not}
use Prim.Native.Nat.{ℕ, ◌+◌, ◌*◌, ◌<◌, ◌≤◌}
use native.Mathlib.Decide.{dec_lt}
use native.Mathlib.Omega.{arith}
use lib.ListN.{length}
use lib.Dec.{eqb, ltb, leb}
use borrow.Author.Tests.{lt-ltb, le-ltb, le-leb, lt-leb}
use Rattle.model.specs.Limits.{max_withdrawals, max_links, link_bytes, max_constraints, version, header_bytes}
use Rattle.model.specs.Syntax.{Expr, Withdrawal, Link, Constant, Verb, vars_withdrawal}
use Rattle.model.specs.Kinds.{withdrawal_demands, fitting, fits_link}
use Rattle.model.specs.Bytes.{byte_at, u32_at, choose, Reading, got, refused, and_then}
use Rattle.model.specs.Readings.{expr_at, constraints_at}
use Rattle.model.specs.Forms.{operators_form}
use Rattle.model.specs.Policies.{contents}
use Rattle.model.specs.Reader.{times, byte, u16, byte_in}
use Rattle.model.specs.Layout.{constraint, withdrawal, withdrawal_item, linked, link_item}
use Rattle.model.specs.Entries.{withdrawal_end, withdrawal_at, withdrawal_form, computed_withdrawals, read_withdrawals}
use Rattle.model.specs.Entries.{link_at, link_judged, computed_hierarchy, read_hierarchy}
use Rattle.model.specs.Entries as entries
use Rattle.model.proofs.ReaderLaws.{then_in, then_out, choose_true, choose_false, byte_in_law, byte_out, u16_in, u16_out, u32_in, u32_out, upto_in, upto_out}
use Rattle.model.proofs.FactReader.{expr_in_law, expr_out}
use Rattle.model.proofs.AssertionReader.{constraints_in, constraints_out}
use Rattle.model.proofs.PolicyReader.{list_is, then_same, slice_is, ended_is}

-- ---- withdrawals

module _ (s : List ℕ) (at : ℕ) where
  abbrev n : ℕ
  n = byte_at s (at + 6)

  -- an entry's constraints, and from its count byte on
  abbrev from_tests : Expr → ℕ → ℕ → ℕ → Reading Withdrawal
  from_tests i k m q = and_then (times m (constraint s) at (length s) q) (λ ts z. got (record { issuer = i; serial = k; tests = ts }) z)

  abbrev from_count : Expr → ℕ → ℕ → Reading Withdrawal
  from_count i k q = and_then (byte_in s 0 max_constraints at (length s) q) (from_tests i k)

  abbrev whole : Withdrawal
  whole = withdrawal_at s at

  -- n constraints from the count on
  tests_is : at + 7 ≤ length s → from_tests (expr_at s at) (u32_at s (at + 2)) n (at + 7)
      ≡ choose (ltb (length s) (at + 7 + 5 * n)) (refused 3 at) (choose (operators_form n s (at + 7)) (got whole (at + 7 + 5 * n)) (refused 3 at))
  unfolding withdrawal_at choose
  tests_is h = go (dec_lt (length s) (at + 7 + 5 * n))
    where
      found : (b : Bool) → times n (constraint s) at (length s) (at + 7) ≡ choose b (got (constraints_at n s (at + 7)) (at + 7 + 5 * n)) (refused 3 at)
          → from_tests (expr_at s at) (u32_at s (at + 2)) n (at + 7) ≡ choose b (got whole (at + 7 + 5 * n)) (refused 3 at)
      found true r = then_in _ r
      found false r = then_out _ r

      go : Dec (length s < at + 7 + 5 * n) → from_tests (expr_at s at) (u32_at s (at + 2)) n (at + 7)
          ≡ choose (ltb (length s) (at + 7 + 5 * n)) (refused 3 at) (choose (operators_form n s (at + 7)) (got whole (at + 7 + 5 * n)) (refused 3 at))
      go (yes k) = then_out _ (constraints_out s at (length s) n (at + 7) h k) ∙ sym (choose_true _ _ (lt-ltb (length s) (at + 7 + 5 * n) k))
      go (no k) =
          let l : at + 7 + 5 * n ≤ length s = omega arith in
          found (operators_form n s (at + 7)) (constraints_in s at (length s) n (at + 7) (at + 7 + 5 * n) refl l)
          ∙ sym (choose_false _ _ (le-ltb (length s) (at + 7 + 5 * n) l))

  -- where the first seven bytes are there
  count_is : at + 7 ≤ length s → withdrawal s at (length s) at ≡ choose (ltb max_constraints n) (refused 3 at)
      (from_tests (expr_at s at) (u32_at s (at + 2)) n (at + 7))
  unfolding withdrawal
  count_is h =
      then_in _ (expr_in_law s at (length s) at (at + 2) refl (omega arith)) ∙ then_in _ (u32_in s at (length s) (at + 2) (at + 6) (omega arith) (omega arith))
      ∙ upto_in s at (length s) (from_tests (expr_at s at) (u32_at s (at + 2))) max_constraints (at + 6) (at + 7) (omega arith) h

  short_is : length s < at + 7 → withdrawal s at (length s) at ≡ refused 3 at
  unfolding withdrawal
  short_is h = go (dec_lt (length s) (at + 2)) (dec_lt (length s) (at + 6))
    where
      go : Dec (length s < at + 2) → Dec (length s < at + 6) → withdrawal s at (length s) at ≡ refused 3 at
      go (yes k) d = then_out _ (expr_out s at (length s) at k)
      go (no k) (yes l) = then_in _ (expr_in_law s at (length s) at (at + 2) refl (omega arith)) ∙ then_out _ (u32_out s at (length s) (at + 2) (omega arith))
      go (no k) (no l) =
          then_in _ (expr_in_law s at (length s) at (at + 2) refl (omega arith)) ∙ then_in _
          (u32_in s at (length s) (at + 2) (at + 6) (omega arith) (omega arith))
          ∙ upto_out s at (length s) (from_tests (expr_at s at) (u32_at s (at + 2))) max_constraints (at + 6) (omega arith)

  -- an entry is read where its form is right
  withdrawal_is : withdrawal s at (length s) at ≡ choose (withdrawal_form s at) (got whole (withdrawal_end s at)) (refused 3 at)
  unfolding withdrawal_form withdrawal_end choose
  withdrawal_is = go (dec_lt (length s) (at + 7))
    where
      E : ℕ
      E = at + 7 + 5 * n

      same : (a b c : Bool) → choose a (refused 3 at) (choose b (refused 3 at) (choose c (got whole E) (refused 3 at)))
          ≡ choose (choose a false (choose b false c)) (got whole E) (refused 3 at)
      same true b c = refl
      same false true c = refl
      same false false c = refl

      go : Dec (length s < at + 7) → withdrawal s at (length s) at ≡ choose (withdrawal_form s at) (got whole (withdrawal_end s at)) (refused 3 at)
      go (yes h) = short_is h ∙ rw (lt-ltb (length s) (at + 7) h)
      go (no h) =
          let l : at + 7 ≤ length s = omega arith in
          rw (le-ltb (length s) (at + 7) l)
          (count_is l ∙ ap (choose (ltb max_constraints n) (refused 3 at)) (tests_is l)
          ∙ same (ltb max_constraints n) (ltb (length s) E) (operators_form n s (at + 7)))

  -- "5 .., 10 .. after 5 within its item"
  pub withdrawal_item_is : (cs : List Constant) (earlier : List Withdrawal) → withdrawal_item s cs earlier at (length s) at
      ≡ entries.withdrawal_item cs s earlier at
  unfolding withdrawal_item entries.withdrawal_item and_then choose
  withdrawal_item_is cs earlier = ap (λ (t : Reading Withdrawal). and_then t checked) withdrawal_is
      ∙ go (withdrawal_form s at) (fitting cs (withdrawal_demands whole)) (eqb (length (vars_withdrawal whole)) 0) refl refl
    where
      checked : Withdrawal → ℕ → Reading Withdrawal
      checked w q = and_then (choose (fitting cs (withdrawal_demands w)) (got tt q) (refused 5 at))
          (λ (x : Unit {0}) z. and_then (choose (eqb (length (vars_withdrawal w)) 0) (got tt z) (refused 10 at)) (λ (y : Unit {0}) z. got w z))

      go : (a b c : Bool) → fitting cs (withdrawal_demands whole) ≡ b → eqb (length (vars_withdrawal whole)) 0 ≡ c
          → and_then (choose a (got whole (withdrawal_end s at)) (refused 3 at)) checked
          ≡ choose a (choose b (choose c (got whole (withdrawal_end s at)) (refused 10 at)) (refused 5 at)) (refused 3 at)
      go true true true e f = rw (e, f)
      go true true false e f = rw (e, f)
      go true false c e f = rw e
      go false b c e f = refl

-- the reader in one walk is the computed one
pub withdrawals_is : (cs : List Constant) (s : List ℕ) → read_withdrawals cs s ≡ computed_withdrawals cs s
unfolding read_withdrawals computed_withdrawals
withdrawals_is cs s = slice_is version s _ _
    (then_same _ _
    (list_is s (withdrawal_item s cs) (entries.withdrawal_item cs s) (λ earlier p. withdrawal_item_is s p cs earlier) 0 max_withdrawals 0 header_bytes)
    (λ ws p. ended_is s (contents ws) 0 p))

-- ---- the hierarchy

module _ (vs : List Verb) (s : List ℕ) (at : ℕ) where
  -- an entry from its parent on, and from its position on
  abbrev from_parent : ℕ → ℕ → ℕ → Reading Link
  from_parent v k q = and_then (u16 s at (length s) q) (λ p z. and_then (u16 s at (length s) z)
      (λ c z. got (record { verb = v; position = k; parent = p; child = c }) z))

  abbrev from_position : ℕ → ℕ → Reading Link
  from_position v q = and_then (byte s at (length s) q) (from_parent v)

  abbrev from_verb : ℕ → ℕ → Reading Link
  from_verb v q = and_then (choose (leb v (length vs)) (got tt q) (refused 5 at)) (λ (x : Unit {0}) z. from_position v z)

  position_in : at + link_bytes ≤ length s → from_position (byte_at s at) (at + 1) ≡ got (link_at s at) (at + link_bytes)
  unfolding link_at
  position_in h =
      then_in _ (byte_in_law s at (length s) (at + 1) (at + 2) (omega arith) (omega arith))
      ∙ then_in _ (u16_in s at (length s) (at + 2) (at + 4) (omega arith) (omega arith))
      ∙ then_in _ (u16_in s at (length s) (at + 4) (at + 6) (omega arith) (omega arith))

  position_out : length s < at + link_bytes → from_position (byte_at s at) (at + 1) ≡ refused 3 at
  position_out h = go (dec_lt (length s) (at + 2)) (dec_lt (length s) (at + 4))
    where
      go : Dec (length s < at + 2) → Dec (length s < at + 4) → from_position (byte_at s at) (at + 1) ≡ refused 3 at
      go (yes k) d = then_out _ (byte_out s at (length s) (at + 1) (omega arith))
      go (no k) (yes l) =
          then_in _ (byte_in_law s at (length s) (at + 1) (at + 2) (omega arith) (omega arith)) ∙ then_out _ (u16_out s at (length s) (at + 2) (omega arith))
      go (no k) (no l) =
          then_in _ (byte_in_law s at (length s) (at + 1) (at + 2) (omega arith) (omega arith))
          ∙ then_in _ (u16_in s at (length s) (at + 2) (at + 4) (omega arith) (omega arith))
          ∙ then_out _ (u16_out s at (length s) (at + 4) (omega arith))

  position_is : from_position (byte_at s at) (at + 1)
      ≡ choose (ltb (length s) (at + link_bytes)) (refused 3 at) (got (link_at s at) (at + link_bytes))
  position_is = go (dec_lt (length s) (at + link_bytes))
    where
      go : Dec (length s < at + link_bytes) → from_position (byte_at s at) (at + 1)
          ≡ choose (ltb (length s) (at + link_bytes)) (refused 3 at) (got (link_at s at) (at + link_bytes))
      go (yes h) = position_out h ∙ sym (choose_true _ _ (lt-ltb (length s) (at + link_bytes) h))
      go (no h) = position_in (omega arith) ∙ sym (choose_false _ _ (le-ltb (length s) (at + link_bytes) (omega arith)))

  verb_is : from_verb (byte_at s at) (at + 1) ≡ choose (ltb (length vs) (byte_at s at)) (refused 5 at) (from_position (byte_at s at) (at + 1))
  verb_is = go (dec_lt (length vs) (byte_at s at))
    where
      go : Dec (length vs < byte_at s at) → from_verb (byte_at s at) (at + 1)
          ≡ choose (ltb (length vs) (byte_at s at)) (refused 5 at) (from_position (byte_at s at) (at + 1))
      go (yes h) =
          then_out _ (choose_false _ _ (lt-leb (byte_at s at) (length vs) h)) ∙ sym (choose_true _ _ (lt-ltb (length vs) (byte_at s at) h))
      go (no h) =
          let l : byte_at s at ≤ length vs = omega arith in
          then_in _ (choose_true _ _ (le-leb (byte_at s at) (length vs) l)) ∙ sym (choose_false _ _ (le-ltb (length vs) (byte_at s at) l))

  linked_is : linked s vs at (length s) at ≡ choose (ltb (length s) (at + 1)) (refused 3 at)
      (choose (ltb (length vs) (byte_at s at)) (refused 5 at)
      (choose (ltb (length s) (at + link_bytes)) (refused 3 at) (got (link_at s at) (at + link_bytes))))
  unfolding linked
  linked_is = go (dec_lt (length s) (at + 1))
    where
      go : Dec (length s < at + 1) → linked s vs at (length s) at ≡ choose (ltb (length s) (at + 1)) (refused 3 at)
          (choose (ltb (length vs) (byte_at s at)) (refused 5 at)
          (choose (ltb (length s) (at + link_bytes)) (refused 3 at) (got (link_at s at) (at + link_bytes))))
      go (yes h) = then_out _ (byte_out s at (length s) at (omega arith)) ∙ sym (choose_true _ _ (lt-ltb (length s) (at + 1) h))
      go (no h) =
          then_in _ (byte_in_law s at (length s) at (at + 1) refl (omega arith))
          ∙ verb_is
          ∙ ap (choose (ltb (length vs) (byte_at s at)) (refused 5 at)) position_is
          ∙ sym (choose_false _ _ (le-ltb (length s) (at + 1) (omega arith)))

  -- "5 .., 11 .. after 5 in its entry"
  pub link_item_is : (cs : List Constant) (earlier : List Link) → link_item s cs vs earlier at (length s) at ≡ entries.link_item cs vs s earlier at
  unfolding link_item entries.link_item link_judged and_then choose
  link_item_is cs earlier = ap (λ (t : Reading Link). and_then t checked) linked_is
      ∙ go (ltb (length s) (at + 1)) (ltb (length vs) (byte_at s at)) (ltb (length s) (at + link_bytes)) (fits_link cs vs l) (eqb l.parent l.child) refl refl
    where
      l : Link
      l = link_at s at

      checked : Link → ℕ → Reading Link
      checked l q = and_then (choose (fits_link cs vs l) (got tt q) (refused 5 at))
          (λ (x : Unit {0}) z. and_then (choose (not (eqb l.parent l.child)) (got tt z) (refused 11 at)) (λ (y : Unit {0}) z. got l z))

      go : (a b c d e : Bool) → fits_link cs vs l ≡ d → eqb l.parent l.child ≡ e
          → and_then (choose a (refused 3 at) (choose b (refused 5 at) (choose c (refused 3 at) (got l (at + link_bytes))))) checked
          ≡ choose a (refused 3 at) (choose b (refused 5 at) (choose c (refused 3 at)
          (choose d (choose e (refused 11 at) (got l (at + link_bytes))) (refused 5 at))))
      go true b c d e f g = refl
      go false true c d e f g = refl
      go false false true d e f g = refl
      go false false false true true f g = rw (f, g)
      go false false false true false f g = rw (f, g)
      go false false false false e f g = rw f

-- the reader in one walk is the computed one
pub hierarchy_is : (cs : List Constant) (vs : List Verb) (s : List ℕ) → read_hierarchy cs vs s ≡ computed_hierarchy cs vs s
unfolding read_hierarchy computed_hierarchy
hierarchy_is cs vs s = slice_is version s _ _
    (then_same _ _ (list_is s (link_item s cs vs) (entries.link_item cs vs s) (λ earlier p. link_item_is vs s p cs earlier) 0 max_links 0 header_bytes)
    (λ ls p. ended_is s (contents ls) 0 p))
