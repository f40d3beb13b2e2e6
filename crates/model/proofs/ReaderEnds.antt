-- What a form that is right tells: where a fact ends, past its start and not past the item's end.
use mathlib.Core.Path.{◌≡◌, refl, sym, ap, ◌∙◌}
use mathlib.Core.List.{List}
use mathlib.Core.Bool.{Bool, true, false}
use Prim.Native.Nat.{ℕ, zero, suc, ◌+◌, ◌*◌, ◌<◌, ◌≤◌}
use native.Mathlib.Omega.{arith}
use lib.ListN.{length}
use lib.Dec.{ltb, leb}
use borrow.Author.Tests.{ltb-false}
use Rattle.model.specs.Syntax.{Verb}
use Rattle.model.specs.Bytes.{byte_at, choose}
use Rattle.model.specs.Readings.{arity_of, levels_end, fact_end, facts_end}
use Rattle.model.specs.Forms as forms
use Rattle.model.specs.Forms.{ends, broken, no_verb, then_form, phrase_form, levels_form, fact_form, facts_form}

-- a test that a form has passed
pub past : (b : Bool) (x y : forms.Form) (q : ℕ) → ((p : ℕ) → x ≡ ends p → ⊥) → choose b x y ≡ ends q → (b ≡ false) × (y ≡ ends q)
unfolding choose
past true x y q n e = absurd (n q e)
past false x y q n e = (refl, e)

pub no_broken : (p : ℕ) → broken ≡ ends p → ⊥
no_broken p e = let z : ◌≡◌ {A = ℕ} 0 1 = cc in omega arith

pub no_no_verb : (p : ℕ) → no_verb ≡ ends p → ⊥
no_no_verb p e = let z : ◌≡◌ {A = ℕ} 0 1 = cc in omega arith

pub then_ends : (φ : forms.Form) (f : ℕ → forms.Form) (q : ℕ) → then_form φ f ≡ ends q → (p : ℕ) × (φ ≡ ends p) × (f p ≡ ends q)
unfolding then_form
then_ends (ends p) f q e = (p, refl, e)
then_ends broken f q e = absurd (no_broken q e)
then_ends no_verb f q e = absurd (no_no_verb q e)

module _ (vs : List Verb) (s : List ℕ) (e : ℕ) where
  -- ---- facts: where they end, and that it is past their start and not past the item's end

  phrase_ends : (p q : ℕ) → phrase_form vs s e p ≡ ends q → (q ≡ p + 3 + 2 * arity_of vs (byte_at s (p + 2))) × (q ≤ e)
  unfolding phrase_form
  phrase_ends p q h =
      let a = past (ltb e (p + 3)) broken _ q no_broken h in
      let b = past (ltb (length vs) (byte_at s (p + 2))) no_verb _ q no_no_verb a.1 in
      let c = past (ltb e (p + 3 + 2 * arity_of vs (byte_at s (p + 2)))) broken _ q no_broken b.1 in
      let d : p + 3 + 2 * arity_of vs (byte_at s (p + 2)) ≡ q = let w = c.1 in cc in
      let l = ltb-false e (p + 3 + 2 * arity_of vs (byte_at s (p + 2))) c.0 in
      (sym d, omega arith)

  levels_ends : (m p q : ℕ) → levels_form vs s e m p ≡ ends q → (levels_end vs m s p ≡ q) × (p < q) × (q ≤ e)
  unfolding levels_form levels_end
  levels_ends zero p q h = let r = phrase_ends p q h in (sym r.0, omega arith, r.1)
  levels_ends (suc m) p q h =
      let a = past (ltb e (p + 3)) broken _ q no_broken h in
      let b = past (ltb 1 (byte_at s (p + 2))) broken _ q no_broken a.1 in
      let r = levels_ends m (p + 3) q b.1 in
      (r.0, omega arith, r.2)

  fact_ends : (p q : ℕ) → fact_form vs s e p ≡ ends q → (fact_end vs s p ≡ q) × (p < q) × (q ≤ e)
  unfolding fact_form fact_end
  fact_ends p q h =
      let a = past (leb e p) broken _ q no_broken h in
      let b = past (ltb 3 (byte_at s p)) broken _ q no_broken a.1 in
      let r = levels_ends (byte_at s p) (p + 1) q b.1 in
      (r.0, omega arith, r.2)

  pub form_ends : (p q : ℕ) → fact_form vs s e p ≡ ends q → fact_end vs s p ≡ q
  form_ends p q h = (fact_ends p q h).0

  pub form_within : (p q : ℕ) → fact_form vs s e p ≡ ends q → (p < q) × (q ≤ e)
  form_within p q h = let r = fact_ends p q h in (r.1, r.2)

  pub forms_end : (n p q : ℕ) → facts_form vs s e n p ≡ ends q → facts_end vs n s p ≡ q
  unfolding facts_form facts_end
  forms_end zero p q h = let d : p ≡ q = cc in d
  forms_end (suc n) p q h =
      let r = then_ends (fact_form vs s e p) (facts_form vs s e n) q h in
      ap (facts_end vs n s) (form_ends p r.0 r.1) ∙ forms_end n r.0 q r.2

  pub forms_within : (n p q : ℕ) → p ≤ e → facts_form vs s e n p ≡ ends q → (p ≤ q) × (q ≤ e)
  unfolding facts_form
  forms_within zero p q l h = let d : p ≡ q = cc in (omega arith, omega arith)
  forms_within (suc n) p q l h =
      let r = then_ends (fact_form vs s e p) (facts_form vs s e n) q h in
      let a = form_within p r.0 r.1 in
      let b = forms_within n r.0 q a.1 r.2 in
      (omega arith, b.1)
