-- Which assertions are left, one step on, as the code finds it; and that it is the model's list.
use mathlib.Core.Path.{◌≡◌, refl, sym, ap, ap₂, ◌∙◌}
use mathlib.Core.Bool.{Bool, true, false, ◌&&◌, not}
use mathlib.Core.List.{List, [], ◌∷◌}
use Prim.Native.Nat.{ℕ, ◌+◌, ◌-◌}
use lib.Dec.{eqb, ltb}
use lib.ListN.{length, take}
use lib.Seq.{take-length}
use borrow.Author.Tests.{eqb-true, eq-eqb, ne_eqb}
use Rattle.model.proofs.Tests.{and_true}
use Rattle.model.specs.Limits.{first_variable, today_code}
use Rattle.model.specs.Lists.{keep}
use Rattle.model.specs.Syntax.{con, var, today, World}
use Rattle.model.specs.Bytes.{u16_at, u32_at, choose}
use Rattle.model.specs.Readings.{expr_of}
use Rattle.model.specs.Withdrawals.{is_constant}
use Rattle.model.specs.Entries.{withdrawal_at}
use Rattle.slices.specs.Items.{items_at}
use Rattle.withdrawals.specs.Left.{entries_at, named, stays_at}

-- ---- an entry for an issuer and a serial

-- a number that is neither today's nor a variable's is a constant's
constant_is : (x issuer : ℕ) → is_constant (expr_of x) issuer ≡ ((not (eqb x today_code) && ltb x first_variable) && eqb x issuer)
unfolding expr_of choose
constant_is x issuer = go (eqb x today_code) (ltb x first_variable)
  where
    go : (a b : Bool) → is_constant (choose a today (choose b (con x) (var (x - first_variable)))) issuer ≡ ((not a && b) && eqb x issuer)
    go true b = refl
    go false true = refl
    go false false = refl

pub and_false : (a : Bool) → (a && false) ≡ false
and_false true = refl
and_false false = refl

module _ (s : List ℕ) (at issuer serial : ℕ) where
  abbrev x : ℕ
  x = u16_at s at

  abbrev code : Bool
  code = not (eqb x today_code) && ltb x first_variable

  pub names_is : named (withdrawal_at s at) issuer serial ≡ ((code && eqb x issuer) && eqb (u32_at s (at + 2)) serial)
  unfolding withdrawal_at
  names_is = ap (λ (b : Bool). b && eqb (u32_at s (at + 2)) serial) (constant_is x issuer)

  pub names_other : (x ≡ issuer → ⊥) → false ≡ named (withdrawal_at s at) issuer serial
  names_other n = sym (names_is ∙ (ap (λ (b : Bool). (code && b) && eqb (u32_at s (at + 2)) serial) (ne_eqb x issuer n)
      ∙ ap (λ (b : Bool). b && eqb (u32_at s (at + 2)) serial) (and_false code)))

  pub names_same : (z : Bool) → x ≡ issuer → code ≡ true → z ≡ eqb (u32_at s (at + 2)) serial → z ≡ named (withdrawal_at s at) issuer serial
  names_same z e h g = g ∙ sym (names_is ∙ ap₂ (λ (a b : Bool). (a && b) && eqb (u32_at s (at + 2)) serial) h (eq-eqb x issuer e))

  -- an entry that is for them has both
  pub names_both : named (withdrawal_at s at) issuer serial ≡ true → (x ≡ issuer) × (u32_at s (at + 2) ≡ serial)
  names_both h =
      let fields = and_true (code && eqb x issuer) (eqb (u32_at s (at + 2)) serial) (sym names_is ∙ h) in
      let first = and_true code (eqb x issuer) fields.0 in
      (eqb-true x issuer first.1, eqb-true (u32_at s (at + 2)) serial fields.1)

  pub names_none : code ≡ false → false ≡ named (withdrawal_at s at) issuer serial
  names_none h = sym (names_is ∙ ap (λ (a : Bool). (a && eqb x issuer) && eqb (u32_at s (at + 2)) serial) h)

-- without entries all stay
pub none_removed : (W : World) (policy s issuers : List ℕ) (n : ℕ) → n ≡ 0
    → take (length issuers) issuers ≡ keep (λ at. stays_at W (entries_at s n 7) policy (at - 6) at) issuers
unfolding items_at
none_removed W policy s issuers n e = rw e (take-length issuers ∙ sym (go issuers))
  where
    go : (l : List ℕ) → keep (λ at. stays_at W [] policy (at - 6) at) l ≡ l
    go [] = refl
    go (at ∷ l) = ap (◌∷◌ at) (go l)
