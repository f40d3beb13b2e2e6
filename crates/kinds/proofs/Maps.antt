-- What an array's map gives by a closure that leaves what it captured as it is: the map of the list.
use mathlib.Core.Path.{◌≡◌, ap, sym, ◌∙◌, subst}
use mathlib.Core.List.{List, map}
use Prim.Native.Nat.{ℕ, zero, suc, ◌+◌, ◌<◌, ◌≤◌}
use native.Mathlib.Decide.{dec_lt}
use native.Mathlib.Omega.{arith}
use lib.ListN.{length, get_or, length-map}
use denote.Param.Members.{Mut, Called}
use Rattle.std.proofs.lemmas.List.{ext_get_or, get_or-map}
use Rattle.std.specs.Array.{MapsFrom, IsMapOf}

module _ {F A B : Type 0} (g : Mut F (A × Unit {0}) B) (h : A → B) (d : A) (e : B) (xs : List A) (ys : List B) where
  each : (f : F) → ((x : A) (y : B) (q : F) → Called g f (x, tt) y q → (q ≡ f) × (y ≡ h x)) → (n i j : ℕ) → MapsFrom g f xs ys i n → i ≤ j → j < i + n
      → get_or ys j e ≡ h (get_or xs j d)
  each f does zero i j m low high = absurd (omega arith)
  each f does (suc n) i j m low high =
      let told = does (m.1) (m.2) (m.0) (m.5) in
      let here : get_or ys i e ≡ h (get_or xs i d) = m.4.1 e ∙ told.1 ∙ ap h (sym (m.3.1 d)) in
      go here (λ l. each f does n (i + 1) j (subst (λ k. MapsFrom g k xs ys (i + 1) n) told.0 m.6) l (omega arith)) (dec_lt i j)
    where
      go : get_or ys i e ≡ h (get_or xs i d) → (i + 1 ≤ j → get_or ys j e ≡ h (get_or xs j d)) → Dec (i < j) → get_or ys j e ≡ h (get_or xs j d)
      go here later (yes l) = later (omega arith)
      go here later (no l) = let same : i ≡ j = omega (arith, l) in subst (λ k. get_or ys k e ≡ h (get_or xs k d)) same here

  pub map_is : (f : F) → ((x : A) (y : B) (q : F) → Called g f (x, tt) y q → (q ≡ f) × (y ≡ h x)) → IsMapOf g f xs ys (length xs) → ys ≡ map h xs
  map_is f does m =
      ext_get_or e ys (map h xs) (m.long ∙ sym (length-map xs h)) (λ i l.
      let below : i < length xs = omega (arith, m.long) in
      each f does (length xs) 0 i m.each (omega arith) (omega (arith, below)) ∙ sym (get_or-map h xs i d e below))
