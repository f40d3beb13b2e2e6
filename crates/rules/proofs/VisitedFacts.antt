-- Along a plan that is right, a step carries a binding on by an entry exactly if the match fits and every constraint whose variables are all bound holds:
-- it tests those whose last variable it binds, and the others held before. So the search comes to bindings that are carried, and to no others.
use mathlib.Core.Path.{◌≡◌, refl, sym, subst, ◌∙◌}
use mathlib.Core.Logic.{◌⊎◌, inl, inr, ⊎_elim, ◌↔◌}
use mathlib.Core.Bool.{Bool, true, false, cond}
use mathlib.Core.Option.{some}
use mathlib.Core.List.Memᴰ
use mathlib.Core.List.{List, [], ◌∷◌, Memᴰ}
use Prim.Native.Nat.{ℕ}
use lib.ListN.{length}
use Rattle.model.specs.Limits.{unbound}
use Rattle.model.specs.Lists.{each}
use Rattle.model.specs.Syntax.{var, Constant}
use Rattle.model.proofs.ListFacts.{each_of}
use Rattle.constraints.specs.Told.{told_both}
use Rattle.std.proofs.lemmas.Bool.{cases_Bool}
use Rattle.model.proofs.Tests.{by_eq}
use Rattle.rules.specs.Matching.{at, fits}
use Rattle.rules.specs.Plan.{Part, Mode, every, enough, once, look, finds, Step}
use Rattle.rules.specs.Patterns.{Pattern, Frame}
use Rattle.rules.specs.Cond.{may, row_of, places_of, source_of, hold, go_on, carried, search, head_entry, unbound8}
use Rattle.rules.specs.Valid.{marked, exprs_of, Newly, Exactly, after, Right, Steps}
use Rattle.rules.specs.Searching.{Match, Tested, Offered, Next, Carried, further, Fits, Goes, all, first_found, first, looked, Visits, here, step}
use Rattle.rules.proofs.MatchFacts.{Fitted, fits_of}
use Rattle.rules.proofs.ExtendFacts.{L, In, Fair}
use Rattle.rules.proofs.TestFacts.{passes_same, told_bound}
use Rattle.rules.proofs.Following.{onward, first_that}
use Rattle.rules.proofs.StepFacts.{Marks, Search, places, has, of_row, carried_of, carried_by_law, part_marks, hold_of, hold_in}
use Rattle.rules.proofs.MarkFacts.{marked_long, marked_grows, marked_in, told_grows, told_up}
use Rattle.rules.proofs.ModeFacts.{small}
use Rattle.rules.proofs.CarriedFacts.{carried_fits}

-- ---- what a step goes on with

-- one of those that it carries on, or θ where it only looks
pub goes_of : {go : List ℕ → L} {θ : List ℕ} {F : Frame} {t : L} {m : Mode} {τs : L} {τ : List ℕ} → Goes F t go θ m τs τ
    → (σ : List ℕ) × In σ τs × (τ ≡ onward m θ σ)
goes_of (all {τ = τ} m) = (τ, m, refl)
goes_of (first_found before after {τ} e) = (τ, Memᴰ.append_right before (Memᴰ.head refl), refl)
goes_of (first {τ = τ}) = (τ, Memᴰ.head refl, refl)
goes_of (looked {τ = τ}) = (τ, Memᴰ.head refl, refl)

-- what is given comes of a binding that it goes on with
module _ (F : Frame) (t : L) (go : List ℕ → L) (θ : List ℕ) where
  pub goes_on_law : (m : Mode) (τs : L) {r : List ℕ} → In r (go_on m go θ τs) → (τ : List ℕ) × Goes F t go θ m τs τ × In r (go τ)
  unfolding go_on
  goes_on_law every τs i = let s = each_of go τs i in (s.0, all s.1, s.2)
  goes_on_law enough τs i = let s = first_that go τs i in (s.2, subst (λ (l : L). Goes F t go θ enough l s.2) s.3 (first_found s.0 s.1 s.4), s.5)
  goes_on_law once [] i = absurd (Memᴰ.not-nil i)
  goes_on_law once (τ ∷ τs) i = (τ, first, i)
  goes_on_law look [] i = absurd (Memᴰ.not-nil i)
  goes_on_law look (τ ∷ τs) i = (θ, looked, i)

module _ {F : Frame} {cs : List Constant} {ks : List ℕ} {t : L} (S : Search F cs ks t) where
  abbrev p : Pattern
  p = F.pattern

  -- θ is carried with these matches, and its variables are those that are marked
  pub record At (β : List ℕ) (ms : List Match) (θ : List ℕ) : Type 0 where
    pub carried : Carried F t ms θ
    pub long : length β ≡ 8
    pub marks : Marks β θ
    pub back : Marks θ β

  pub fair : {ms : List Match} {θ : List ℕ} → Fits F t ms θ → Fair S.over θ
  fair {θ = θ} f = record { eight = f.eight; kinds = λ v l. by_eq (at θ v) unbound inl (λ n. inr (f.kinds v n)) }

  -- ---- one match more

  module _ {β : List ℕ} {ms : List Match} {θ : List ℕ} (A : At β ms θ) {part : Part} {y σ : List ℕ} (o : Offered F t part y)
      (e : fits (may F) θ (row_of F part) (places_of F part y) ≡ some σ) where
    abbrev γ : List ℕ
    γ = marked β (exprs_of p part)

    eight : length θ ≡ 8
    eight = (carried_fits S A.carried).0.eight

    pub fitted : Fitted (may F) (row_of F part) (places_of F part y) θ σ
    fitted = fits_of (may F) _ _ (has S part θ o.there eight) (places S part y o.among) e

    pub marks_now : Marks γ σ
    marks_now = part_marks S part o.among fitted A.marks

    back_now : Marks σ γ
    back_now = record { of = λ v z. go v z (fitted.new v) }
      where
        go : (v : ℕ) → at γ v ≡ unbound → (at σ v ≡ at θ v) ⊎ (Memᴰ (var v) (row_of F part) × (may F v (at σ v) ≡ true)) → at σ v ≡ unbound
        go v z (inl q) = q ∙ A.back.of v ((marked_grows (exprs_of p part) β).of v z)
        go v z (inr q) =
            absurd (marked_in (exprs_of p part) β v (of_row S part v q.0)
            (rw A.long (small (row_of F part) (has S part unbound8 o.there refl) v q.0)) z)

    pub at_next : Tested F t σ → At γ ((part, y) ∷ ms) σ
    at_next h = record {
      carried = further A.carried (record { offered = o; fit = e; tested = h });
      long = marked_long (exprs_of p part) β ∙ A.long;
      marks = marks_now;
      back = back_now;
    }

    -- the constraints whose last variable is bound by it hold exactly if all that are told do
    module _ (is : List ℕ) (x : Exactly p (Newly p β γ) is) where
      pub tested_of : hold F is σ ≡ true → Tested F t σ
      tested_of h i l d =
          ⊎_elim
          (λ q. sym (passes_same F.world (p.test i) θ σ
          (λ v m. ⊎_elim (λ (z : at θ v ≡ unbound). absurd (told_bound θ (p.test i) q v m z)) (λ z. z) (fitted.under.of v)))
          ∙ (carried_fits S A.carried).1 i l q)
          (λ q. hold_of S σ is h i (x.1 i (record { there = l; before = told_grows A.marks (p.test i) q; now = told_up back_now (p.test i) d })))
          (cases_Bool (told_both θ (p.test i)))

      pub tested_in : Tested F t σ → hold F is σ ≡ true
      tested_in h = hold_in S σ is (λ i m. let n = x.0 i m in h i n.there (told_up marks_now (p.test i) n.now))

  -- ---- one step

  module _ {β : List ℕ} {ms : List Match} {θ : List ℕ} (A : At β ms θ) {s : Step} {ss : List Step} (w : Right p β s ss) where
    pub step_exact : {y σ : List ℕ} → Offered F t s.part y → In σ (carried F s θ y) ↔ Next F t θ s.part y σ
    step_exact {y} {σ} o = (
      λ m. let r = carried_of S s θ y m in record { offered = o; fit = r.1; tested = tested_of A o r.1 s.tests w.tests r.2 },
      λ n. carried_by_law S s θ y o.late n.fit (tested_in A o n.fit s.tests w.tests n.tested),
    )

    -- what is matched after it
    abbrev matched : Bool → List ℕ → List Match
    matched f y = cond f ((s.part, y) ∷ ms) ms

    at_on : {y σ : List ℕ} → Next F t θ s.part y σ → (f : Bool) → At (cond f (marked β (exprs_of p s.part)) β) (matched f y) (cond f σ θ)
    at_on n true = at_next A n.offered n.fit n.tested
    at_on n false = A

    kept : (f : Bool) (y : List ℕ) {x : Match} → Memᴰ x ms → Memᴰ x (matched f y)
    kept true y k = Memᴰ.tail k
    kept false y k = k

    pub record Went (τ : List ℕ) : Type 0 where
      pub by : List ℕ
      pub now : At (after p s.mode s.part β) (matched (finds s.mode) by) τ
      pub old : {x : Match} → Memᴰ x ms → Memᴰ x (matched (finds s.mode) by)
      pub new : finds s.mode ≡ true → Memᴰ (s.part, by) (matched (finds s.mode) by)

    pub goes_at : {τ : List ℕ} → Goes F t (search F t ss) θ s.mode (each (source_of F t s.part) (carried F s θ)) τ → Went τ
    goes_at {τ} g =
        let c = goes_of g in
        let y = each_of (carried F s θ) (source_of F t s.part) c.1 in
        let o : Offered F t s.part y.0 = record { there = w.there; among = y.1; late = (carried_of S s θ y.0 y.2).0 } in
        record {
          by = y.0;
          now = subst (At (after p s.mode s.part β) (matched (finds s.mode) y.0)) (sym c.2) (at_on ((step_exact o).0 y.2) (finds s.mode));
          old = kept (finds s.mode) y.0;
          new = λ e. rw e (Memᴰ.head refl);
        }

  -- ---- all that the search comes to

  -- it comes to steps ss' with θ', which is carried; every step in between that binds for good has its match
  pub record Came (ss : List Step) (ms : List Match) (ss' : List Step) (θ' : List ℕ) : Type 0 where
    pub β : List ℕ
    pub matches : List Match
    pub now : At β matches θ'
    pub steps : Steps p β ss'
    pub old : {x : Match} → Memᴰ x ms → Memᴰ x matches
    pub new : (s : Step) → Memᴰ s ss → finds s.mode ≡ true → Memᴰ s ss' ⊎ ((y : List ℕ) × Memᴰ (s.part, y) matches)

  pub visits_at : {β : List ℕ} {ms : List Match} {ss ss' : List Step} {θ θ' : List ℕ} → At β ms θ → Steps p β ss → Visits F t ss θ ss' θ' → Came ss ms ss' θ'
  visits_at {β} {ms} A w here = record { β = β; matches = ms; now = A; steps = w; old = λ k. k; new = λ s m e. inl m }
  visits_at {β} {ms} A w (step {s} {ss} {ss'} g v) =
      let one = goes_at A w.0 g in
      let rest = visits_at {β = after p s.mode s.part β} one.now w.1 v in
      record {
        β = rest.β;
        matches = rest.matches;
        now = rest.now;
        steps = rest.steps;
        old = λ k. rest.old (one.old k);
        new = λ x m e. ⊎_elim
            (λ (q : x ≡ s). inr (
              one.by,
              subst (λ (z : Step). Memᴰ (z.part, one.by) rest.matches) (sym q)
                  (rest.old (one.new (subst (λ (z : Step). finds z.mode ≡ true) q e))),
            ))
            (λ k. rest.new x k e) (Memᴰ.cases_cons m);
      }

  -- a head that is listed is that of a binding to which the search comes with no step left
  pub head_visits : (ss : List Step) {θ r : List ℕ} → In r (search F t ss θ) → (θ' : List ℕ) × Visits F t ss θ [] θ' × (r ≡ head_entry F θ')
  unfolding search
  head_visits [] {θ} m = (θ, here, Memᴰ.eq_of_singleton m)
  head_visits (s ∷ ss) {θ} m =
      let g = goes_on_law F t (search F t ss) θ s.mode (each (source_of F t s.part) (carried F s θ)) m in
      let v = head_visits ss g.2 in
      (v.0, step g.1 v.1, v.2)
