-- Each recursive definition of the specification, one step on, as the code's loops take it, and at their end.
use Rattle.std.proofs.Common.{◌≡◌, ℕ, suc, ◌+◌, ◌-◌, ◌*◌, ◌<◌, ◌≤◌, Bool, true, false, ◌&&◌, List, ◌||◌, nat_lt, if◌then◌else◌}
use Rattle.std.proofs.Common.{length, Some, option_and_then, Ok, Err, refl, arith}
use Rattle.model.specs.Bytes.{byte_at, both, choose}
use Rattle.model.specs.Forms.{operator_form, operators_form}
use Rattle.kinds.specs.Cells.{Cells, feed}
use Rattle.kinds.proofs.Laws.{feed_append}
use Rattle.phrases.specs.declared.Fault.TheVariants.{Broken}
use Rattle.phrases.specs.Phrases.{fact_next, facts_next, then_by, phrase_form_by, levels_form_by, fact_form_by, facts_form_by}
use Rattle.phrases.specs.Phrases.{fact_asks, facts_asks, test_asks, tests_asks}

-- what is left of n after i, before one more and at the end
pub left : (n i : ℕ) → i < n → n - i ≡ suc (n - (i + 1))
left n i h = omega arith

pub done : (n i : ℕ) → n ≤ i → n - i ≡ 0
done n i h = omega arith

-- the i-th of parts of w bytes from p on, and the next
pub next : (p w i : ℕ) → p + w * i + w ≡ p + w * (i + 1)
next p w i = omega arith

-- ---- where facts end

module _ (sg s : List ℕ) (n i p : ℕ) where
  pub nexts_step : i < n → facts_next sg (n - i) s p ≡ facts_next sg (n - (i + 1)) s (fact_next sg s p)
  unfolding facts_next
  nexts_step h = rw (left n i h)

  pub nexts_end : n ≤ i → facts_next sg (n - i) s p ≡ p
  unfolding facts_next
  nexts_end h = rw (done n i h)

-- ---- form

module _ (sg s : List ℕ) (n i p : ℕ) where
  pub levels_step : i < n → levels_form_by sg s (n - i) (p + 3 * i)
      ≡ (if nat_lt (length s) (p + 3 * i + 3) || nat_lt 1 (byte_at s (p + 3 * i + 2)) then Err Broken else levels_form_by sg s (n - (i + 1)) (p + 3 * (i + 1)))
  unfolding levels_form_by
  levels_step h = rw (left n i h, ← next p 3 i)

  pub levels_end : n ≤ i → levels_form_by sg s (n - i) p ≡ phrase_form_by sg s p
  unfolding levels_form_by
  levels_end h = rw (done n i h)

  pub forms_step : i < n → facts_form_by sg s (n - i) p ≡ then_by (fact_form_by sg s p) (facts_form_by sg s (n - (i + 1)))
  unfolding facts_form_by
  forms_step h = rw (left n i h)

  pub forms_end : n ≤ i → facts_form_by sg s (n - i) p ≡ Ok p
  unfolding facts_form_by
  forms_end h = rw (done n i h)

both_is : (a b : Bool) → both a b ≡ a && b
unfolding both choose
both_is true b = refl
both_is false b = refl

module _ (s : List ℕ) (n i p : ℕ) where
  pub operators_step : i < n → operators_form (n - i) s (p + 5 * i) ≡ operator_form s (p + 5 * i) && operators_form (n - (i + 1)) s (p + 5 * (i + 1))
  unfolding operators_form
  operators_step h = rw (left n i h, ← next p 5 i) (both_is _ _)

  pub operators_end : n ≤ i → operators_form (n - i) s p ≡ true
  unfolding operators_form
  operators_end h = rw (done n i h)

-- ---- kinds

module _ (ks sg s : List ℕ) (n i : ℕ) where
  pub facts_step : (p : ℕ) (t : Cells) → i < n → feed (facts_asks ks sg s (n - i) p) t
      ≡ option_and_then (feed (facts_asks ks sg s (n - (i + 1)) (fact_next sg s p))) (feed (fact_asks ks sg s p) t)
  unfolding facts_asks
  facts_step p t h = rw (left n i h) (feed_append _ _ t)

  pub facts_end : (p : ℕ) (t : Cells) → n ≤ i → feed (facts_asks ks sg s (n - i) p) t ≡ Some t
  unfolding facts_asks feed
  facts_end p t h = rw (done n i h)

module _ (ks s : List ℕ) (n i p : ℕ) (t : Cells) where
  pub tests_step : i < n → feed (tests_asks ks s (n - i) (p + 5 * i)) t
      ≡ option_and_then (feed (tests_asks ks s (n - (i + 1)) (p + 5 * (i + 1)))) (feed (test_asks ks s (p + 5 * i)) t)
  unfolding tests_asks
  tests_step h = rw (left n i h, ← next p 5 i) (feed_append _ _ t)

  pub tests_end : n ≤ i → feed (tests_asks ks s (n - i) p) t ≡ Some t
  unfolding tests_asks feed
  tests_end h = rw (done n i h)
