-- The items of a policy: `Layout`'s readers of constants, verbs and assertions are the computed ones, refusals and places included.
use mathlib.Core.Path.{◌≡◌, refl, sym, ap, ◌∙◌}
use mathlib.Core.List.{List, []}
use mathlib.Core.Bool.{Bool, true, false, ◌&&◌, not}
use Prim.Native.Nat.{ℕ, zero, suc, ◌+◌, ◌-◌, ◌<◌, ◌≤◌}
use native.Mathlib.Decide.{dec_lt}
use native.Mathlib.Omega.{arith}
use lib.ListN.{length}
use lib.Dec.{eqb, leb}
use borrow.Author.Tests.{lt-ltb, le-ltb, le-leb, lt-leb, eq-eqb, ne_eqb}
use Rattle.model.specs.Limits.{max_arity, max_label, max_day, day, quantity}
use Rattle.model.specs.Lists.{any, all}
use Rattle.model.specs.Syntax.{Assertion, Constant, Verb}
use Rattle.model.specs.Kinds.{fits_assertion}
use Rattle.model.specs.Safety.{safe_assertion}
use Rattle.model.specs.Bytes.{byte_at, u16_at, u32_at, bytes_at, choose, both, Reading, got, refused, and_then}
use Rattle.model.specs.Readings.{item_end, has_label, constant_read_at, verb_at, body_at, tests_at, assertion_read_at, assertion_end}
use Rattle.model.specs.Forms.{Form, ends, broken, no_verb, label_byte, label_form, item_there, number_form, value_form, constant_form, is_kind}
use Rattle.model.specs.Forms.{signature_form, verb_form, statement_form, assertion_form}
use Rattle.model.specs.Policies.{alike_constants, alike_verbs, judged, assertion_by}
use Rattle.model.specs.Policies as policies
use Rattle.model.specs.Reader.{◌>>=◌, ◌>>◌, Reader, pure, require, sized, times, byte, u16, u32, byte_in, rest}
use Rattle.model.specs.Layout.{label, constant, verb, assertion, constant_item, verb_item, assertion_item}
use Rattle.model.proofs.ReaderLaws.{then_in, then_out, then_choose, then_then, choose_true, choose_false, byte_in_law, byte_out, u16_in, u16_out}
use Rattle.model.proofs.ReaderLaws.{u32_in, u32_out, byte_in_is, byte_in_out, upto_in, upto_out}
use Rattle.model.proofs.FactReader.{as_reading, as_skip, as_stop}
use Rattle.model.proofs.AssertionReader.{closing, closing_yes, closing_no, statement_at, statement_is}
use Rattle.model.proofs.ByteFacts.{bytes_length}

-- ---- sized items

module _ {A : Type 0} (s : List ℕ) (r : Reader A) (at e : ℕ) where
  abbrev pub inside : ℕ → ℕ → Reading A
  inside E p = and_then (r at E p) (λ x q. closing at E x q)

  sized1_in : (p : ℕ) → p < e → p + 1 + byte_at s p ≤ e → sized (byte s) r at e p ≡ inside (p + 1 + byte_at s p) (p + 1)
  unfolding sized
  sized1_in p h k = then_in _ (byte_in_law s at e p (p + 1) refl (omega arith)) ∙ choose_true _ _ (le-leb (p + 1 + byte_at s p) e k)

  sized1_past : (p : ℕ) → p < e → e < p + 1 + byte_at s p → sized (byte s) r at e p ≡ refused 3 at
  unfolding sized
  sized1_past p h k = then_in _ (byte_in_law s at e p (p + 1) refl (omega arith)) ∙ choose_false _ _ (lt-leb (p + 1 + byte_at s p) e k)

  sized1_out : (p : ℕ) → e ≤ p → sized (byte s) r at e p ≡ refused 3 at
  unfolding sized
  sized1_out p h = then_out _ (byte_out s at e p h)

  pub sized2_in : (p : ℕ) → p + 2 + u16_at s p ≤ e → sized (u16 s) r at e p ≡ inside (p + 2 + u16_at s p) (p + 2)
  unfolding sized
  sized2_in p k = then_in _ (u16_in s at e p (p + 2) refl (omega arith)) ∙ choose_true _ _ (le-leb (p + 2 + u16_at s p) e k)

  sized2_past : (p : ℕ) → p + 2 ≤ e → e < p + 2 + u16_at s p → sized (u16 s) r at e p ≡ refused 3 at
  unfolding sized
  sized2_past p h k = then_in _ (u16_in s at e p (p + 2) refl (omega arith)) ∙ choose_false _ _ (lt-leb (p + 2 + u16_at s p) e k)

  sized2_out : (p : ℕ) → e < p + 2 → sized (u16 s) r at e p ≡ refused 3 at
  unfolding sized
  sized2_out p h = then_out _ (u16_out s at e p h)

-- ---- assertions

module _ (s : List ℕ) (cs : List Constant) (vs : List Verb) (at : ℕ) where
  statement_eq : statement_at s vs at (length s) (at + 2) ≡ assertion_read_at vs s at
  unfolding assertion_read_at tests_at body_at
  statement_eq =
      let a : at + 2 + 4 ≡ at + 6 = omega arith in
      let b : at + 2 + 6 ≡ at + 8 = omega arith in
      rw (a, b)

  checks : (φ : Form) (a : Assertion)
      → and_then (as_reading at φ a) (λ a q. and_then (choose (fits_assertion cs vs a) (got tt q) (refused 5 at))
      (λ (x : Unit {0}) z. and_then (choose (safe_assertion a) (got tt z) (refused 6 at)) (λ (y : Unit {0}) w. got a w)))
      ≡ assertion_by φ cs vs a at
  unfolding and_then assertion_by judged choose
  checks (ends q) a = go (fits_assertion cs vs a) (safe_assertion a)
    where
      go : (b c : Bool) → and_then (choose b (got tt q) (refused 5 at))
          (λ (x : Unit {0}) z. and_then (choose c (got tt z) (refused 6 at)) (λ (y : Unit {0}) w. got a w))
          ≡ choose b (choose c (got a q) (refused 6 at)) (refused 5 at)
      go true true = refl
      go true false = refl
      go false c = refl
  checks broken a = refl
  checks no_verb a = refl

  sized_assertion : sized (u16 s) (assertion s vs) at (length s) at ≡ as_reading at (assertion_form vs s at) (assertion_read_at vs s at)
  unfolding assertion_form assertion_end
  sized_assertion = go (dec_lt (length s) (at + 2)) (dec_lt (length s) (at + 2 + u16_at s at))
    where
      go : Dec (length s < at + 2) → Dec (length s < at + 2 + u16_at s at)
          → sized (u16 s) (assertion s vs) at (length s) at ≡ as_reading at (assertion_form vs s at) (assertion_read_at vs s at)
      go (yes h) d = sized2_out s (assertion s vs) at (length s) at h ∙ sym (as_stop at broken _ (assertion_read_at vs s at) (lt-ltb (length s) (at + 2) h))
      go (no h) (yes k) = sized2_past s (assertion s vs) at (length s) at (omega arith) k
          ∙ sym (as_skip at broken _ (assertion_read_at vs s at) (le-ltb (length s) (at + 2) (omega arith))
          ∙ as_stop at broken _ (assertion_read_at vs s at) (lt-ltb (length s) (at + 2 + u16_at s at) k))
      go (no h) (no k) =
          sized2_in s (assertion s vs) at (length s) at (omega arith) ∙ statement_is s vs at (at + 2 + u16_at s at) (at + 2)
          ∙ ap (λ (a : Assertion). as_reading at (statement_form vs s (at + 2 + u16_at s at) (at + 2)) a) statement_eq
          ∙ sym (as_skip at broken _ (assertion_read_at vs s at) (le-ltb (length s) (at + 2) (omega arith))
          ∙ as_skip at broken _ (assertion_read_at vs s at) (le-ltb (length s) (at + 2 + u16_at s at) (omega arith)))

  pub assertion_item_is : (earlier : List Assertion) → assertion_item s cs vs earlier at (length s) at ≡ policies.assertion_item cs vs s earlier at
  unfolding assertion_item policies.assertion_item
  assertion_item_is earlier = ap (λ (t : Reading Assertion). and_then t (λ a q. and_then (choose (fits_assertion cs vs a) (got tt q) (refused 5 at))
      (λ (x : Unit {0}) z. and_then (choose (safe_assertion a) (got tt z) (refused 6 at)) (λ (y : Unit {0}) w. got a w)))) sized_assertion
      ∙ checks (assertion_form vs s at) (assertion_read_at vs s at)

-- ---- labels and kinds

and3 : (a b c : Bool) → both a (both b c) ≡ (a && b && c)
unfolding both choose
and3 true true c = refl
and3 true false c = refl
and3 false b c = refl

module _ (s : List ℕ) (at e : ℕ) where
  bytes_in : (n p q : ℕ) → p + n ≡ q → q ≤ e → times n (byte s) at e p ≡ got (bytes_at n s p) q
  unfolding times bytes_at
  bytes_in zero p q i h = ap (got []) (let k : p ≡ q = omega arith in k)
  bytes_in (suc n) p q i h = then_in _ (byte_in_law s at e p (p + 1) refl (omega arith)) ∙ then_in _ (bytes_in n (p + 1) q (omega arith) h)

  label_is : (n p : ℕ) → p + n ≡ e → label s at e p ≡ choose (label_form n s p) (got (bytes_at n s p) e) (refused 3 at)
  unfolding label label_form rest and_then
  label_is n p i =
      let w : e - p ≡ n = omega arith in
      then_in _ (ap (λ (m : ℕ). times m (byte s) at e p) w ∙ bytes_in n p e i (omega arith))
      ∙ ap (λ (m : ℕ). and_then (choose (leb 1 m && leb m max_label && all label_byte (bytes_at n s p)) (got tt e) (refused 3 at))
      (λ (x : Unit {0}) q. got (bytes_at n s p) q)) (bytes_length n s p)
      ∙ then_choose (leb 1 n && leb n max_label && all label_byte (bytes_at n s p)) (got tt e) (refused 3 at) (λ (x : Unit {0}) q. got (bytes_at n s p) q)
      ∙ ap (λ (b : Bool). choose b (got (bytes_at n s p) e) (refused 3 at)) (sym (and3 (leb 1 n) (leb n max_label) (all label_byte (bytes_at n s p))))

  kinds_in_law : (n p q : ℕ) → p + n ≡ q → q ≤ e → times n (byte_in s 1 quantity) at e p ≡ choose (all is_kind (bytes_at n s p)) (got (bytes_at n s p) q)
      (refused 3 at)
  unfolding times bytes_at choose
  kinds_in_law zero p q i h = ap (got []) (let k : p ≡ q = omega arith in k)
  kinds_in_law (suc n) p q i h = go (is_kind (byte_at s p)) (all is_kind (bytes_at n s (p + 1))) (byte_in_is s at e 1 quantity p (omega arith))
      (kinds_in_law n (p + 1) q (omega arith) h)
    where
      go : (b c : Bool) → byte_in s 1 quantity at e p ≡ choose b (got (byte_at s p) (p + 1)) (refused 3 at)
          → times n (byte_in s 1 quantity) at e (p + 1) ≡ choose c (got (bytes_at n s (p + 1)) q) (refused 3 at)
          → times (suc n) (byte_in s 1 quantity) at e p ≡ choose (b && c) (got (bytes_at (suc n) s p) q) (refused 3 at)
      go true true x y = then_in _ x ∙ then_in _ y
      go true false x y = then_in _ x ∙ then_out _ y
      go false c x y = then_out _ x

  kinds_out : (n p : ℕ) → p ≤ e → e < p + n → times n (byte_in s 1 quantity) at e p ≡ refused 3 at
  unfolding times choose
  kinds_out zero p l h = absurd (omega arith)
  kinds_out (suc n) p l h = go (dec_lt p e) (λ k. kinds_out n (p + 1) k (omega arith))
    where
      there : (b : Bool) → byte_in s 1 quantity at e p ≡ choose b (got (byte_at s p) (p + 1)) (refused 3 at)
          → times n (byte_in s 1 quantity) at e (p + 1) ≡ refused 3 at → times (suc n) (byte_in s 1 quantity) at e p ≡ refused 3 at
      there true x r = then_in _ x ∙ then_out _ r
      there false x r = then_out _ x

      go : Dec (p < e) → (p + 1 ≤ e → times n (byte_in s 1 quantity) at e (p + 1) ≡ refused 3 at) → times (suc n) (byte_in s 1 quantity) at e p ≡ refused 3 at
      go (yes k) r = there (is_kind (byte_at s p)) (byte_in_is s at e 1 quantity p k) (r (omega arith))
      go (no k) r = then_out _ (byte_in_out s at e 1 quantity p (omega arith))

-- ---- an item led by a length byte

module _ {A : Type 0} (s : List ℕ) (r : Reader A) (at : ℕ) (b : Bool) (x : A) where
  abbrev E : ℕ
  E = at + 1 + byte_at s at

  item_is : (at < length s → E ≤ length s → inside s r at (length s) E (at + 1) ≡ choose b (got x E) (refused 3 at))
      → sized (byte s) r at (length s) at ≡ choose (both (item_there s at) b) (got x (item_end s at)) (refused 3 at)
  unfolding item_there item_end both choose
  item_is f = go (dec_lt at (length s)) (dec_lt (length s) E)
    where
      go : Dec (at < length s) → Dec (length s < E) → sized (byte s) r at (length s) at ≡ choose (both (item_there s at) b) (got x (item_end s at))
          (refused 3 at)
      go (no h) d = let k : length s ≤ at = omega arith in sized1_out s r at (length s) at k ∙ rw (le-ltb at (length s) k)
      go (yes h) (yes k) = sized1_past s r at (length s) at h k ∙ rw (lt-ltb at (length s) h, lt-leb E (length s) k)
      go (yes h) (no k) = let l : E ≤ length s = omega arith in sized1_in s r at (length s) at h l ∙ rw (lt-ltb at (length s) h, le-leb E (length s) l) (f h l)

-- ---- constants

module _ (s : List ℕ) (at : ℕ) where
  abbrev F : ℕ
  F = at + 1 + byte_at s at

  abbrev labelled : ℕ → Reader Constant
  labelled k = do l ← label s; pure (record { kind = k; label = l; number = 0 })

  abbrev numbered : ℕ → Reader Constant
  numbered k = do n ← u32 s; require 3 (choose (eqb k day) (leb n max_day) (eqb k quantity)); pure (record { kind = k; label = []; number = n })

  abbrev close : Constant → ℕ → Reading Constant
  close c q = closing at F c q

  -- a label, where there are n bytes in the item
  labelled_is : (k : ℕ) → 1 ≤ byte_at s at
      → and_then (labelled k at F (at + 2)) close ≡ choose (label_form (byte_at s at - 1) s (at + 2))
      (got (record { kind = k; label = bytes_at (byte_at s at - 1) s (at + 2); number = 0 }) F) (refused 3 at)
  unfolding choose and_then
  labelled_is k h = then_then (label s at F (at + 2)) _ close ∙ go (label_form (byte_at s at - 1) s (at + 2))
      (label_is s at F (byte_at s at - 1) (at + 2) (omega arith))
    where
      go : (b : Bool) → label s at F (at + 2) ≡ choose b (got (bytes_at (byte_at s at - 1) s (at + 2)) F) (refused 3 at)
          → and_then (label s at F (at + 2)) (λ l q. close (record { kind = k; label = l; number = 0 }) q)
          ≡ choose b (got (record { kind = k; label = bytes_at (byte_at s at - 1) s (at + 2); number = 0 }) F) (refused 3 at)
      go true r = then_in _ r ∙ closing_yes at F _ F refl
      go false r = then_out _ r

  -- a number
  numbered_is : (k : ℕ) → 1 ≤ byte_at s at
      → and_then (numbered k at F (at + 2)) close
      ≡ choose (both (eqb (byte_at s at) 5) (choose (eqb k day) (leb (u32_at s (at + 2)) max_day) (eqb k quantity)))
      (got (record { kind = k; label = []; number = u32_at s (at + 2) }) F) (refused 3 at)
  unfolding choose and_then both
  numbered_is k h = go (dec_lt F (at + 6)) (dec_lt 5 (byte_at s at)) (choose (eqb k day) (leb (u32_at s (at + 2)) max_day) (eqb k quantity)) refl
    where
      c : Constant
      c = record { kind = k; label = []; number = u32_at s (at + 2) }

      test : (b : Bool) → and_then (and_then (choose b (got tt (at + 6)) (refused 3 at)) (λ (x : Unit {0}) q. got c q)) close
          ≡ choose b (close c (at + 6)) (refused 3 at)
      test true = refl
      test false = refl

      read : at + 6 ≤ F → and_then (numbered k at F (at + 2)) close ≡ choose (choose (eqb k day) (leb (u32_at s (at + 2)) max_day) (eqb k quantity))
          (close c (at + 6)) (refused 3 at)
      read l = ap (λ (t : Reading ℕ). and_then (and_then t (λ n q. and_then {B = Constant} (choose (choose (eqb k day) (leb n max_day) (eqb k quantity))
          (got tt q) (refused 3 at)) (λ (x : Unit {0}) q. got (record { kind = k; label = []; number = n }) q))) close)
          (u32_in s at F (at + 2) (at + 6) (omega arith) l) ∙ test (choose (eqb k day) (leb (u32_at s (at + 2)) max_day) (eqb k quantity))

      go : Dec (F < at + 6) → Dec (5 < byte_at s at) → (b : Bool) → choose (eqb k day) (leb (u32_at s (at + 2)) max_day) (eqb k quantity) ≡ b
          → and_then (numbered k at F (at + 2)) close ≡ choose (choose (eqb (byte_at s at) 5) b false) (got c F) (refused 3 at)
      go (yes l) d b w = let n : byte_at s at ≡ 5 → ⊥ = λ i. omega arith in
          ap (λ (t : Reading ℕ). and_then (and_then t (λ n q. and_then {B = Constant} (choose (choose (eqb k day) (leb n max_day) (eqb k quantity)) (got tt q)
          (refused 3 at)) (λ (x : Unit {0}) q. got (record { kind = k; label = []; number = n }) q))) close)
          (u32_out s at F (at + 2) (omega arith)) ∙ rw (ne_eqb (byte_at s at) 5 n)
      go (no l) (yes m) true w = let n : byte_at s at ≡ 5 → ⊥ = λ i. omega arith in
          read (omega arith) ∙ rw w (closing_no at F c (at + 6) (λ i. omega arith) ∙ rw (ne_eqb (byte_at s at) 5 n))
      go (no l) (yes m) false w = let n : byte_at s at ≡ 5 → ⊥ = λ i. omega arith in read (omega arith) ∙ rw (w, ne_eqb (byte_at s at) 5 n)
      go (no l) (no m) true w = let n : byte_at s at ≡ 5 = omega arith in
          read (omega arith) ∙ rw w (closing_yes at F c (at + 6) (omega arith) ∙ rw (eq-eqb (byte_at s at) 5 n))
      go (no l) (no m) false w = let n : byte_at s at ≡ 5 = omega arith in read (omega arith) ∙ rw (w, eq-eqb (byte_at s at) 5 n)

  value_is : 1 ≤ byte_at s at → inside s (constant s) at (length s) F (at + 1) ≡ choose (value_form s at) (got (constant_read_at s at) F) (refused 3 at)
  unfolding constant value_form number_form constant_read_at and_then choose
  value_is h =
      ap (λ (t : Reading ℕ). and_then (and_then t (λ k q. choose (has_label k) (labelled k) (numbered k) at F q)) close)
      (byte_in_law s at F (at + 1) (at + 2) (omega arith) (omega arith))
      ∙ go (has_label (byte_at s (at + 1)))
    where
      k : ℕ
      k = byte_at s (at + 1)

      go : (b : Bool) → and_then (choose b (labelled k) (numbered k) at F (at + 2)) close
          ≡ choose (choose b (label_form (byte_at s at - 1) s (at + 2)) (both (eqb (byte_at s at) 5) (number_form s at)))
          (got (record { kind = k; label = choose b (bytes_at (byte_at s at - 1) s (at + 2)) []; number = choose b 0 (u32_at s (at + 2)) }) F) (refused 3 at)
      go true = labelled_is k h
      go false = numbered_is k h

  one_byte : byte_at s at ≡ 1 → value_form s at ≡ false
  unfolding value_form label_form both choose
  one_byte h = go (has_label (byte_at s (at + 1)))
    where
      go : (b : Bool) → choose b (label_form (byte_at s at - 1) s (at + 2)) (both (eqb (byte_at s at) 5) (number_form s at)) ≡ false
      go true = rw h
      go false = rw h

  constant_inner : inside s (constant s) at (length s) F (at + 1) ≡ choose (both (leb 2 (byte_at s at)) (value_form s at)) (got (constant_read_at s at) F)
      (refused 3 at)
  unfolding both choose and_then constant
  constant_inner = go (dec_lt (byte_at s at) 1) (dec_lt (byte_at s at) 2)
    where
      none : byte_at s at < 1 → inside s (constant s) at (length s) F (at + 1) ≡ refused 3 at
      none h = then_out _ (then_out _ (byte_out s at F (at + 1) (omega arith)))

      go : Dec (byte_at s at < 1) → Dec (byte_at s at < 2) → inside s (constant s) at (length s) F (at + 1)
          ≡ choose (both (leb 2 (byte_at s at)) (value_form s at)) (got (constant_read_at s at) F) (refused 3 at)
      go (yes h) d = let l : byte_at s at < 2 = omega arith in none h ∙ rw (lt-leb 2 (byte_at s at) l)
      go (no h) (yes l) = let i : byte_at s at ≡ 1 = omega arith in value_is (omega arith) ∙ rw (one_byte i, lt-leb 2 (byte_at s at) l)
      go (no h) (no l) = let i : 2 ≤ byte_at s at = omega arith in value_is (omega arith) ∙ rw (le-leb 2 (byte_at s at) i)

  constant_is : sized (byte s) (constant s) at (length s) at ≡ choose (constant_form s at) (got (constant_read_at s at) (item_end s at)) (refused 3 at)
  unfolding constant_form
  constant_is = item_is s (constant s) at (both (leb 2 (byte_at s at)) (value_form s at)) (constant_read_at s at) (λ h l. constant_inner)

-- "4 .. alike .. to an earlier one"
module _ {A : Type 0} where
  alike_is : (at : ℕ) (b : Bool) (c : A → Bool) (x : A) (e : ℕ) → and_then (choose b (got x e) (refused 3 at))
      (λ x q. and_then (choose (not (c x)) (got tt q) (refused 4 at)) (λ (y : Unit {0}) z. got x z))
      ≡ choose b (choose (c x) (refused 4 at) (got x e)) (refused 3 at)
  unfolding and_then choose
  alike_is at true c x e = go (c x)
    where
      go : (d : Bool) → and_then (choose (not d) (got tt e) (refused 4 at)) (λ (y : Unit {0}) z. got x z) ≡ choose d (refused 4 at) (got x e)
      go true = refl
      go false = refl
  alike_is at false c x e = refl

pub constant_item_is : (s : List ℕ) (at : ℕ) (earlier : List Constant) → constant_item s earlier at (length s) at ≡ policies.constant_item s earlier at
unfolding constant_item policies.constant_item
constant_item_is s at earlier =
    ap (λ (t : Reading Constant). and_then t (λ x q. and_then (choose (not (any (alike_constants x) earlier)) (got tt q) (refused 4 at))
    (λ (y : Unit {0}) z. got x z))) (constant_is s at)
    ∙ alike_is at (constant_form s at) (λ x. any (alike_constants x) earlier) (constant_read_at s at) (item_end s at)

-- ---- verbs

module _ (s : List ℕ) (at : ℕ) where
  abbrev G : ℕ
  G = at + 1 + byte_at s at

  abbrev shut : Verb → ℕ → Reading Verb
  shut v q = closing at G v q

  -- kinds and label, after the arity
  abbrev after_arity : ℕ → ℕ → Reading Verb
  after_arity m q = and_then (times m (byte_in s 1 quantity) at G q) (λ ks z. and_then (label s at G z) (λ l w. shut (record { kinds = ks; label = l }) w))

  verb_flat : inside s (verb s) at (length s) G (at + 1) ≡ and_then (byte_in s 0 max_arity at G (at + 1)) after_arity
  unfolding verb and_then
  verb_flat = simp then_then

  labels_is : (m : ℕ) (ks : List ℕ) → 1 + m ≤ byte_at s at
      → and_then (label s at G (at + 2 + m)) (λ l w. shut (record { kinds = ks; label = l }) w)
      ≡ choose (label_form (byte_at s at - 1 - m) s (at + 2 + m)) (got (record { kinds = ks; label = bytes_at (byte_at s at - 1 - m) s (at + 2 + m) }) G)
      (refused 3 at)
  unfolding choose
  labels_is m ks h = go (label_form (byte_at s at - 1 - m) s (at + 2 + m)) (label_is s at G (byte_at s at - 1 - m) (at + 2 + m) (omega arith))
    where
      go : (b : Bool) → label s at G (at + 2 + m) ≡ choose b (got (bytes_at (byte_at s at - 1 - m) s (at + 2 + m)) G) (refused 3 at)
          → and_then (label s at G (at + 2 + m)) (λ l w. shut (record { kinds = ks; label = l }) w)
          ≡ choose b (got (record { kinds = ks; label = bytes_at (byte_at s at - 1 - m) s (at + 2 + m) }) G) (refused 3 at)
      go true r = then_in _ r ∙ closing_yes at G _ G refl
      go false r = then_out _ r

  abbrev verb_of : ℕ → Verb
  verb_of m = record { kinds = bytes_at m s (at + 2); label = bytes_at (byte_at s at - 1 - m) s (at + 2 + m) }

  arity_is_law : (m : ℕ) → 1 ≤ byte_at s at → after_arity m (at + 2)
      ≡ choose (both (leb (1 + m) (byte_at s at)) (both (all is_kind (bytes_at m s (at + 2))) (label_form (byte_at s at - 1 - m) s (at + 2 + m))))
      (got (verb_of m) G) (refused 3 at)
  unfolding choose both
  arity_is_law m h = go (dec_lt (byte_at s at) (1 + m))
    where
      fits : 1 + m ≤ byte_at s at → (b : Bool) → times m (byte_in s 1 quantity) at G (at + 2) ≡ choose b (got (bytes_at m s (at + 2)) (at + 2 + m))
          (refused 3 at)
          → after_arity m (at + 2) ≡ choose (choose b (label_form (byte_at s at - 1 - m) s (at + 2 + m)) false) (got (verb_of m) G) (refused 3 at)
      fits l true r = then_in _ r ∙ labels_is m (bytes_at m s (at + 2)) l
      fits l false r = then_out _ r

      go : Dec (byte_at s at < 1 + m) → after_arity m (at + 2)
          ≡ choose (both (leb (1 + m) (byte_at s at)) (both (all is_kind (bytes_at m s (at + 2))) (label_form (byte_at s at - 1 - m) s (at + 2 + m))))
          (got (verb_of m) G) (refused 3 at)
      go (yes k) = then_out _ (kinds_out s at G m (at + 2) (omega arith) (omega arith)) ∙ rw (lt-leb (1 + m) (byte_at s at) k)
      go (no k) = let l : 1 + m ≤ byte_at s at = omega arith in fits l (all is_kind (bytes_at m s (at + 2)))
          (kinds_in_law s at G m (at + 2) (at + 2 + m) refl (omega arith)) ∙ rw (le-leb (1 + m) (byte_at s at) l)

  verb_inner : inside s (verb s) at (length s) G (at + 1) ≡ choose (both (leb 1 (byte_at s at)) (signature_form s at)) (got (verb_at s at) G) (refused 3 at)
  unfolding both choose signature_form verb_at
  verb_inner = verb_flat ∙ go (dec_lt (byte_at s at) 1) (dec_lt 3 (byte_at s (at + 1)))
    where
      go : Dec (byte_at s at < 1) → Dec (3 < byte_at s (at + 1)) → and_then (byte_in s 0 max_arity at G (at + 1)) after_arity
          ≡ choose (both (leb 1 (byte_at s at)) (signature_form s at)) (got (verb_at s at) G) (refused 3 at)
      go (yes h) d = upto_out s at G after_arity max_arity (at + 1) (omega arith) ∙ rw (lt-leb 1 (byte_at s at) h)
      go (no h) (yes k) = let l : 1 ≤ byte_at s at = omega arith in
          upto_in s at G after_arity max_arity (at + 1) (at + 2) (omega arith) (omega arith) ∙ choose_true _ _ (lt-ltb 3 (byte_at s (at + 1)) k)
          ∙ rw (le-leb 1 (byte_at s at) l, lt-leb (byte_at s (at + 1)) 3 k)
      go (no h) (no k) = let l : 1 ≤ byte_at s at = omega arith in let m : byte_at s (at + 1) ≤ 3 = omega arith in
          upto_in s at G after_arity max_arity (at + 1) (at + 2) (omega arith) (omega arith) ∙ choose_false _ _ (le-ltb 3 (byte_at s (at + 1)) m)
          ∙ arity_is_law (byte_at s (at + 1)) l ∙ rw (le-leb 1 (byte_at s at) l, le-leb (byte_at s (at + 1)) 3 m)

  verb_is : sized (byte s) (verb s) at (length s) at ≡ choose (verb_form s at) (got (verb_at s at) (item_end s at)) (refused 3 at)
  unfolding verb_form
  verb_is = item_is s (verb s) at (both (leb 1 (byte_at s at)) (signature_form s at)) (verb_at s at) (λ h l. verb_inner)

  pub verb_item_is : (earlier : List Verb) → verb_item s earlier at (length s) at ≡ policies.verb_item s earlier at
  unfolding verb_item policies.verb_item
  verb_item_is earlier =
      ap (λ (t : Reading Verb). and_then t (λ x q. and_then (choose (not (any (alike_verbs x) earlier)) (got tt q) (refused 4 at))
      (λ (y : Unit {0}) z. got x z))) verb_is
      ∙ alike_is at (verb_form s at) (λ x. any (alike_verbs x) earlier) (verb_at s at) (item_end s at)
