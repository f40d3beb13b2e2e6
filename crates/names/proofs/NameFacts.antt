-- A list of names as the code reads it: one name after another, and what the model reads there.
use Rattle.std.proofs.Common.{◌≡◌, ℕ, zero, suc, ◌+◌, ◌-◌, ◌<◌, ◌≤◌, Bool, true, false, cond, List, [], ◌∷◌, ◌++◌, map, drop, Result, Ok, Err}
use Rattle.std.proofs.Common.{refl, sym, ap, ap₂, ◌∙◌, arith}
use mathlib.Core.List.{map-append}
use mathlib.Core.Bool.{◌||◌, false≢true}
use Rattle.model.specs.Bytes.{u16_at, choose, Reading, got, refused, and_then}
use Rattle.model.specs.Lists.{any}
use Rattle.model.specs.Readings.{item_end, ends_by}
use Rattle.model.specs.Policies.{Item, contents, items_from, list_at}
use Rattle.model.proofs.Shifts.{rest_item_end}
use Rattle.slices.specs.Steps.{Next, Refused, step, then_step, number_of, count_right}
use Rattle.slices.specs.Lists.{standing}
use Rattle.slices.specs.declared.Reason.{Reason}
use Rattle.slices.specs.declared.Reason.TheVariants.{Form, Repeated}
use Rattle.slices.specs.Items.{starts_at}
use Rattle.slices.proofs.ListFacts.{ends_snoc, list_is}
use Rattle.names.specs.Names.{name_by, names_by, name_list}
use Rattle.names.proofs.Seeking.{starts_snoc}

module _ (form : List ℕ → Bool) (alike : List ℕ → List ℕ → Bool) (s : List ℕ) where
  abbrev next : ℕ → ℕ
  next = item_end s

  -- ---- one name after another

  pub names_more : (n k p at m : ℕ) → k < n → at ≡ ends_by next k p → name_by form alike s (starts_at next k p) (drop at s) ≡ Ok m
      → names_by form alike s (n - k) (starts_at next k p) at ≡ names_by form alike s (n - (k + 1)) (starts_at next (k + 1) p) (at + m)
  unfolding names_by then_step standing
  names_more n k p at m h d g =
      let e : n - k ≡ suc (n - (k + 1)) = omega arith in
      let j : suc k ≡ k + 1 = omega arith in
      rw (e, g) (ap (λ (l : List ℕ). names_by form alike s (n - (k + 1)) l (at + m))
      (ap (λ (x : ℕ). starts_at next k p ++ x ∷ []) d ∙ starts_snoc next k p ∙ ap (λ (i : ℕ). starts_at next i p) j))

  pub names_stop : (n k p at : ℕ) (r : Reason) → k < n → name_by form alike s (starts_at next k p) (drop at s) ≡ Err r
      → names_by form alike s (n - k) (starts_at next k p) at ≡ Refused (number_of r) at
  unfolding names_by then_step standing
  names_stop n k p at r h g = let j : n - k ≡ suc (n - (k + 1)) = omega arith in rw (j, g)

  pub names_none : (n k p at : ℕ) → n ≤ k → names_by form alike s (n - k) (starts_at next k p) at ≡ Next at
  unfolding names_by
  names_none n k p at h = let j : n - k ≡ 0 = omega arith in rw j

  -- a name that is taken is of right form, and has the bytes that it says
  pub name_taken : (before item : List ℕ) (m : ℕ) → name_by form alike s before item ≡ Ok m → (form item ≡ true) × (m ≡ item_end item 0)
  unfolding name_by
  name_taken before item m = go (form item) (any (λ at. alike item (drop at s)) before)
    where
      go : (a b : Bool) → ◌≡◌ {A = Result ℕ Reason} (cond a (cond b (Err Repeated) (Ok (item_end item 0))) (Err Form)) (Ok m)
          → (a ≡ true) × (m ≡ item_end item 0)
      go true false h = (refl, cc)
      go true true h = absurd (cc)
      go false b h = absurd (cc)

  -- where it is taken, the next one stands behind it
  pub taken_ends : (k p at m : ℕ) → at ≡ ends_by next k p → m ≡ item_end (drop at s) 0 → at + m ≡ ends_by next (k + 1) p
  taken_ends k p at m d h =
      let j : suc k ≡ k + 1 = omega arith in
      ap (λ (n : ℕ). at + n) h ∙ rest_item_end s at 0 at (omega arith) ∙ ap next d ∙ sym (ends_snoc next k p) ∙ ap (λ (i : ℕ). ends_by next i p) j

  -- ---- what the model reads

  module _ {A : Type 0} (of : ℕ → A) (same : A → A → Bool) (right : ℕ → Bool) (formed : (at : ℕ) → form (drop at s) ≡ right at)
      (agree : (q p : ℕ) → alike (drop q s) (drop p s) ≡ same (of q) (of p)) where
    abbrev read : List A → ℕ → Reading A
    read before at = choose (right at) (choose (any (same (of at)) before) (refused 4 at) (got (of at) (next at))) (refused 3 at)

    abbrev seen : ℕ → List ℕ → Bool
    seen at l = any (λ (p : ℕ). alike (drop at s) (drop p s)) l

    any_agree : (at : ℕ) (l : List ℕ) → seen at l ≡ any (same (of at)) (map of l)
    any_agree at [] = refl
    any_agree at (p ∷ l) = ap₂ (λ (a b : Bool). a || b) (agree at p) (any_agree at l)

    -- one name, where the names after it are what the model reads
    name_is : (n : ℕ) (l : List ℕ) (is : List (Item A)) (at m : ℕ) (b c : Bool) → b ≡ c → at + m ≡ next at
        → names_by form alike s n (l ++ at ∷ []) (next at) ≡ step (items_from read n (is ++ record { at = at; of = of at } ∷ []) (next at))
        → (a : Bool) → then_step (standing at (cond a (cond b (Err Repeated) (Ok m)) (Err Form))) (names_by form alike s n (l ++ at ∷ []))
        ≡ step (and_then (choose a (choose c (refused 4 at) (got (of at) (next at))) (refused 3 at))
        (λ x e. items_from read n (is ++ record { at = at; of = x } ∷ []) e))
    unfolding then_step standing and_then choose step
    name_is n l is at m true true e d rest true = refl
    name_is n l is at m false false e d rest true = ap (names_by form alike s n (l ++ at ∷ [])) d ∙ rest
    name_is n l is at m true false e d rest a = absurd (false≢true (sym e))
    name_is n l is at m false true e d rest a = absurd (false≢true e)
    name_is n l is at m b c e d rest false = refl

    names_are : (n : ℕ) (l : List ℕ) (is : List (Item A)) (at : ℕ) → contents is ≡ map of l → names_by form alike s n l at ≡ step (items_from read n is at)
    unfolding names_by items_from step name_by
    names_are zero l is at h = refl
    names_are (suc n) l is at h =
        rw (h, formed at)
        (name_is n l is at (item_end (drop at s) 0) (seen at l) (any (same (of at)) (map of l)) (any_agree at l) (rest_item_end s at 0 at (omega arith))
        (names_are n (l ++ at ∷ []) (is ++ record { at = at; of = of at } ∷ []) (next at)
        (map-append (λ (i : Item A). i.of) is (record { at = at; of = of at } ∷ []) ∙ ap (λ (x : List A). x ++ of at ∷ []) h ∙ sym (map-append of l (at ∷ []))))
        (right at))

    pub list_names : (lowest highest p : ℕ) → name_list form alike s lowest highest p ≡ step (list_at s lowest highest read p)
    unfolding name_list choose step
    list_names lowest highest p = rw (list_is s lowest highest read p) (go (count_right s lowest highest p))
      where
        go : (b : Bool) → cond b (names_by form alike s (u16_at s p) [] (p + 2)) (Refused 3 p)
            ≡ step (choose b (items_from read (u16_at s p) [] (p + 2)) (refused 3 p))
        go true = names_are (u16_at s p) [] [] (p + 2) refl
        go false = refl
