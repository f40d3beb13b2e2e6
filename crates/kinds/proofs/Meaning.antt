-- The cells fail exactly where no choice of kinds meets all that was asked (law B), and a cell that is a kind is the one kind that a choice can give (law D).
use mathlib.Core.Path.{◌≡◌, refl, sym, ap, subst, ◌∙◌}
use mathlib.Core.Logic.{◌↔◌}
use mathlib.Core.Bool.{true, false≢true}
use mathlib.Core.List.{List, [], ◌∷◌, ◌++◌, map, Memᴰ}
use Prim.Native.Nat.{ℕ, zero, suc, ◌≤◌, ◌<◌}
use native.Mathlib.Omega.{arith}
use lib.ListN.{length, get_or, length-map}
use Rattle.std.proofs.Common.{Option, Some, None, is_some, slice_get}
use Rattle.std.proofs.lemmas.Option.{get_or_from_slice_get, slice_get-get_or, slice_get_within}
use Rattle.std.proofs.lemmas.List.{get_or-map}
use Rattle.limits.specs.declared.Kind.{Kind}
use Rattle.limits.specs.Kinds.{number_of}
use Rattle.kinds.specs.declared.Term.TheVariants.{Variable, Any}
use Rattle.kinds.specs.declared.Cell.{Cell}
use Rattle.kinds.specs.declared.Cell.TheVariants.{Leads, Settled, Counted}
use Rattle.kinds.specs.Cells.{Cells, Ask, same, is_counted, feed, nothing}
use Rattle.kinds.specs.Choices.{Choice, Meets, MeetsAll, Meetable}
use Rattle.kinds.proofs.Exact.{cell, cell_kind, one_kind, number_range, counted_kind, Proper, Good, Solves, Becomes, Exact, feed_exact}

-- ---- choices that cells stand for: kind a for each class, kind b for each class of days or quantities

abbrev pick : ℕ → ℕ → Cell → ℕ
pick a b (Leads v) = a
pick a b (Settled k) = number_of k
pick a b (Counted v) = b

module _ (a b : ℕ) where
  abbrev chosen : Cells → List ℕ
  chosen t = map (pick a b) t

  chosen_at : (t : Cells) → Good t → (v : ℕ) → v < 8 → get_or (chosen t) v 0 ≡ pick a b (cell t v)
  chosen_at t G v l = let g : length t ≡ 8 = G.0 in get_or-map (pick a b) t v (Leads v) 0 (omega arith)

module _ (a b : ℕ) (la : 1 ≤ a) (ha : a ≤ 4) (lb : 3 ≤ b) (hb : b ≤ 4) (t : Cells) (G : Good t) where
  chosen_kind : (c : Cell) → (1 ≤ pick a b c) × (pick a b c ≤ 4)
  chosen_kind (Leads v) = (la, ha)
  chosen_kind (Settled k) = number_range k
  chosen_kind (Counted v) = (omega arith, hb)

  chosen_solves : (c : Cell) → Proper t c → (pick a b c ≡ cell_kind (chosen a b t) c) × (is_counted c ≡ true → 3 ≤ pick a b c)
  chosen_solves (Leads v) P = (sym (chosen_at a b t G v P.0 ∙ ap (pick a b) P.1), λ e. absurd (false≢true e))
  chosen_solves (Settled k) P = (refl, counted_kind k)
  chosen_solves (Counted v) P = (sym (chosen_at a b t G v P.0 ∙ ap (pick a b) P.1), λ e. lb)

  chosen_choice : Choice (chosen a b t)
  chosen_choice = (length-map t (pick a b) ∙ G.0, λ v l. rw (chosen_at a b t G v l) (chosen_kind (cell t v)))

  chosen_solved : Solves (chosen a b t) t
  chosen_solved v l = rw (chosen_at a b t G v l) (chosen_solves (cell t v) (G.1 v l))

-- ---- nothing is settled yet

nothing_at : (v : ℕ) → v < 8 → cell nothing v ≡ Leads v
nothing_at zero l = refl
nothing_at (suc zero) l = refl
nothing_at (suc (suc zero)) l = refl
nothing_at (suc (suc (suc zero))) l = refl
nothing_at (suc (suc (suc (suc zero)))) l = refl
nothing_at (suc (suc (suc (suc (suc zero))))) l = refl
nothing_at (suc (suc (suc (suc (suc (suc zero)))))) l = refl
nothing_at (suc (suc (suc (suc (suc (suc (suc zero))))))) l = refl
nothing_at (suc (suc (suc (suc (suc (suc (suc (suc v)))))))) l = absurd (omega arith)

good_nothing : Good nothing
good_nothing = (refl, λ v l. rw (nothing_at v l) (l, nothing_at v l))

any_solves : (κ : List ℕ) → Solves κ nothing
any_solves κ v l = rw (nothing_at v l) (refl, λ e. absurd (false≢true e))

pub member_met : (κ : List ℕ) {q : Ask} {qs : List Ask} → Memᴰ q qs → MeetsAll κ qs → Meets κ q
member_met κ (Memᴰ.head e) m = rw e m.0
member_met κ (Memᴰ.tail n) m = member_met κ n m.1

-- what an exact step from nothing says of the choices
met : (f : Option Cells) (C : List ℕ → Type 0) → Exact nothing f C → (is_some f ≡ true) ↔ ((κ : List ℕ) × Choice κ × C κ)
met None C X = (λ e. absurd (false≢true e), λ F. absurd (X F.0 F.1 (any_solves F.0) F.2))
met (Some t) C X =
    let K = chosen_choice 1 3 (omega arith) (omega arith) (omega arith) (omega arith) t X.sound in
    let s = chosen_solved 1 3 (omega arith) (omega arith) (omega arith) (omega arith) t X.sound in
    (λ e. (chosen 1 3 t, K, (X.back (chosen 1 3 t) K s).1), λ F. refl)

module _ (qs : List Ask) where
  exact : Exact nothing (feed qs nothing) (λ κ. MeetsAll κ qs)
  exact = feed_exact qs nothing good_nothing

  -- LAW B: what was asked is taken exactly if some choice of kinds for the eight variables meets it all
  pub feed_law : (is_some (feed qs nothing) ≡ true) ↔ Meetable qs
  feed_law = met (feed qs nothing) (λ κ. MeetsAll κ qs) exact

  module _ (t : Cells) (e : feed qs nothing ≡ Some t) where
    after : Becomes nothing t (λ κ. MeetsAll κ qs)
    after = subst (λ f. Exact nothing f (λ κ. MeetsAll κ qs)) e exact

    -- LAW D, first half: a cell that is a kind says the kind that every choice gives
    pub settled_kind : (κ : List ℕ) → Choice κ → MeetsAll κ qs → (v : ℕ) (k : Kind) → slice_get t v ≡ Some (Settled k) → get_or κ v 0 ≡ number_of k
    settled_kind κ K m v k s =
        let g : length t ≡ 8 = after.sound.0 in
        let l : v < length t = slice_get_within t v (Settled k) s in
        (after.on κ K (any_solves κ) m v (omega arith)).0 ∙ ap (cell_kind κ) (get_or_from_slice_get t v (Settled k) (Leads v) s)

    -- and where every choice gives v the kind k, the cell of v says k
    module _ (v k : ℕ) (l : v < 8) (one : (κ : List ℕ) → Choice κ → MeetsAll κ qs → get_or κ v 0 ≡ k) where
      picked : (a b : ℕ) → 1 ≤ a → a ≤ 4 → 3 ≤ b → b ≤ 4 → pick a b (cell t v) ≡ k
      picked a b la ha lb hb =
          let G = after.sound in
          let K = chosen_choice a b la ha lb hb t G in
          sym (chosen_at a b t G v l) ∙ one (chosen a b t) K (after.back (chosen a b t) K (chosen_solved a b la ha lb hb t G)).1

      pub sole_kind : (c : Kind) × (slice_get t v ≡ Some (Settled c)) × (number_of c ≡ k)
      sole_kind = go (cell t v) here (picked 1 3 (omega arith) (omega arith) (omega arith) (omega arith))
          (picked 2 4 (omega arith) (omega arith) (omega arith) (omega arith))
        where
          here : slice_get t v ≡ Some (cell t v)
          here = let g : length t ≡ 8 = after.sound.0 in slice_get-get_or t v (Leads v) (omega arith)

          go : (c : Cell) → slice_get t v ≡ Some c → pick 1 3 c ≡ k → pick 2 4 c ≡ k
              → (j : Kind) × (slice_get t v ≡ Some (Settled j)) × (number_of j ≡ k)
          go (Leads w) d x y = absurd (omega arith)
          go (Settled j) d x y = (j, d, x)
          go (Counted w) d x y = absurd (omega arith)

    -- LAW D, second half: a variable that was asked to be of kind k has the cell of kind k
    pub asked_kind : (v : ℕ) (k : Kind) → v < 8 → Memᴰ (same (Some (Variable v)) (Some (Any k))) qs → slice_get t v ≡ Some (Settled k)
    asked_kind v k l ask =
        let s = sole_kind v (number_of k) l (λ κ K m. (member_met κ ask m).1) in
        s.1 ∙ ap (λ (j : Kind). Some (Settled j)) (one_kind s.0 k s.2)

-- asks one after the other
pub meets_append : (κ : List ℕ) (xs ys : List Ask) → MeetsAll κ (xs ++ ys) ↔ (MeetsAll κ xs × MeetsAll κ ys)
meets_append κ [] ys = (λ m. (tt, m), λ m. m.1)
meets_append κ (x ∷ xs) ys = (λ m. let r = (meets_append κ xs ys).0 m.1 in ((m.0, r.0), r.1), λ m. (m.0.0, (meets_append κ xs ys).1 (m.0.1, m.1)))
