-- A partial binding is carried on exactly if what is matched so far fits and every constraint whose variables are all bound holds.
-- From right to left: match by match the same constants fit again, so some binding is carried from which the given one goes on, and a constraint that is
-- told on the way is told under the given one too, with the same constants. What the given one binds is fixed by a match, so the two are the same.
use mathlib.Core.Path.{◌≡◌, refl, sym, subst, ◌∙◌}
use mathlib.Core.Logic.{⊎_elim, ◌≢◌}
use mathlib.Core.Bool.{true}
use mathlib.Core.List.Memᴰ
use mathlib.Core.List.{List, [], ◌∷◌, map, Memᴰ}
use Prim.Native.Nat.{ℕ}
use native.Mathlib.Omega.{arith}
use lib.Seq.{ext_get_or}
use Rattle.model.specs.Limits.{unbound}
use Rattle.model.specs.Syntax.{Constant}
use Rattle.model.specs.Values.{bound}
use Rattle.rules.specs.Matching.{at}
use Rattle.rules.specs.Patterns.{Frame}
use Rattle.rules.specs.Cond.{may, row_of, places_of, unbound8}
use Rattle.rules.specs.Searching.{Match, Tested, Offered, Carried, begun, further, Fits}
use Rattle.rules.proofs.MatchFacts.{Under, row_on, row_bound, fits_of, fits_some}
use Rattle.rules.proofs.ExtendFacts.{L, for_cons, unbound_at, under_start}
use Rattle.rules.proofs.TestFacts.{passes_same, told_bound, told_in}
use Rattle.rules.proofs.StepFacts.{Search, places, has}

module _ {F : Frame} {cs : List Constant} {ks : List ℕ} {t : L} (S : Search F cs ks t) where
  -- ---- what is carried fits

  pub carried_fits : {ms : List Match} {θ : List ℕ} → Carried F t ms θ → Fits F t ms θ × Tested F t θ
  carried_fits (begun h) = (
    record {
      eight = refl;
      offered = λ part y m. absurd (Memᴰ.not-nil m);
      no_less = λ part y m. absurd (Memᴰ.not-nil m);
      no_more = λ v n. absurd (n (unbound_at v));
      kinds = λ v n. absurd (n (unbound_at v));
    },
    h,
  )
  carried_fits (further {ms} {θ} {y} {τ} {part} c n) =
      let old : Fits F t ms θ = (carried_fits c).0 in
      let f = fits_of (may F) (row_of F part) (places_of F part y) (has S part θ n.offered.there old.eight) (places S part y n.offered.among)
      n.fit in (
        record {
          eight = f.long ∙ old.eight;
          offered = λ p x. for_cons (λ (m : Match). Offered F t m.0 m.1) n.offered (λ m. old.offered m.0 m.1) (p, x);
          no_less = λ p x. for_cons (λ (m : Match). map (bound τ) (row_of F m.0) ≡ places_of F m.0 m.1) f.is
              (λ m k. row_on (row_of F m.0) _ (places S m.0 m.1 (old.offered m.0 m.1 k).among) f.under (old.no_less m.0 m.1 k)) (p, x);
          no_more = λ v h. ⊎_elim (λ q. let m = old.no_more v (λ z. h (q ∙ z)) in (m.0, m.1, Memᴰ.tail m.2, m.3))
              (λ q. (part, y, Memᴰ.head refl, q.0)) (f.new v);
          kinds = λ v h. grind (arith, f.new v, old.kinds v);
        },
        n.tested,
      )

  -- ---- what fits is carried

  -- what is told is told under a binding that goes on, and the constants are the same
  tested_under : {τ θ : List ℕ} → Under τ θ → Tested F t θ → Tested F t τ
  tested_under {τ} {θ} u h i l e =
      let told = told_bound τ (F.pattern.test i) e in
      passes_same F.world (F.pattern.test i) τ θ (λ v m. grind (arith, u.of v, told v m))
      ∙ h i l (told_in θ (F.pattern.test i) (λ v m. grind (arith, u.of v, told v m)))

  -- matches that θ fits lead to a binding from which it goes on
  leads : {θ : List ℕ} → ((v : ℕ) → at θ v ≢ unbound → may F v (at θ v) ≡ true) → Tested F t θ → (ms : List Match)
      → ((m : Match) → Memᴰ m ms → Offered F t m.0 m.1 × (map (bound θ) (row_of F m.0) ≡ places_of F m.0 m.1))
      → (τ : List ℕ) × Carried F t ms τ × Under τ θ
  leads {θ} kinds tested [] h = (unbound8, begun (tested_under (under_start θ) tested), under_start θ)
  leads {θ} kinds tested ((part, y) ∷ ms) h =
      let r = leads kinds tested ms (λ m k. h m (Memᴰ.tail k)) in
      let o = h (part, y) (Memᴰ.head refl) in
      let ground = places S part y o.0.among in
      let has8 = has S part r.0 o.0.there (carried_fits r.1).0.eight in
      let f = fits_some (may F) (row_of F part) _ r.0 θ has8 ground r.2 o.1 (λ v l k. kinds v (row_bound (row_of F part) _ θ ground o.1 v k)) in
      (f.0, further r.1 (record { offered = o.0; fit = f.1; tested = tested_under f.3 tested }), f.3)

  pub fits_carried : (ms : List Match) (θ : List ℕ) → Fits F t ms θ → Tested F t θ → Carried F t ms θ
  fits_carried ms θ f h =
      let r = leads f.kinds h ms (λ m k. (f.offered m.0 m.1 k, f.no_less m.0 m.1 k)) in
      let τ : List ℕ = r.0 in
      let g = (carried_fits r.1).0 in
      let there : (v : ℕ) → at θ v ≢ unbound → at τ v ≢ unbound =
      λ v n. let m = f.no_more v n in row_bound (row_of F m.0) _ τ (places S m.0 m.1 (g.offered m.0 m.1 m.2).among) (g.no_less m.0 m.1 m.2) v m.3 in
      subst (Carried F t ms) (ext_get_or unbound τ θ (g.eight ∙ sym f.eight) (λ v l. grind (arith, r.2.of v, there v))) r.1
