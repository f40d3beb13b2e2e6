-- Items one after another, one step on, as the code takes them.
use mathlib.Core.Path.{◌≡◌, refl, sym, ◌∙◌, ap, subst}
use mathlib.Core.Bool.{Bool, true, false, false≢true}
use mathlib.Core.Logic.{⊎_elim}
use mathlib.Core.List.Memᴰ
use mathlib.Core.List.{List, [], ◌∷◌, ◌++◌, Memᴰ}
use Prim.Native.Nat.{ℕ, zero, suc, ◌+◌, ◌<◌, ◌≤◌}
use native.Mathlib.Omega.{arith}
use lib.ListN.{length, get_or, length-map}
use borrow.Author.Tests.{ltb-false}
use Rattle.model.specs.Bytes.{byte_at, u16_at, choose, Reading, got, refused, and_then}
use Rattle.model.specs.Readings.{item_end, ends_by}
use Rattle.model.proofs.ReadFacts.{and_then_got, choose_yes}
use Rattle.model.specs.Policies.{Item, contents, offsets, items_from, list_at}
pub use Rattle.model.proofs.Tests.{T_true}
use Rattle.slices.specs.Steps.{Step, Next, Refused, step, count_right}
use Rattle.slices.specs.Items.{starts_at, items_at}

-- ---- where items end

pub ends_after : (g : ℕ → ℕ) → ((x : ℕ) → x < g x) → (k p : ℕ) → p ≤ ends_by g k p
unfolding ends_by
ends_after g up zero p = omega arith
ends_after g up (suc k) p = let h = ends_after g up k (g p) in let u = up p in omega arith

pub ends_snoc : (g : ℕ → ℕ) (k p : ℕ) → ends_by g (suc k) p ≡ g (ends_by g k p)
unfolding ends_by
ends_snoc g zero p = refl
ends_snoc g (suc k) p = ends_snoc g k (g p)

pub item_up : (s : List ℕ) (x : ℕ) → x < item_end s x
unfolding item_end
item_up s x = omega arith

-- an item of one length byte ends where the code finds it to end
pub item_end_law : (s : List ℕ) (p r : ℕ) → r ≡ byte_at s p → p + 1 + r ≡ item_end s p
unfolding item_end
item_end_law s p r e = rw e

-- ---- one item more

module _ {A : Type 0} (of : ℕ → A) (next : ℕ → ℕ) where
  pub items_snoc : (k p : ℕ) → items_at of next k p ++ record { at = ends_by next k p; of = of (ends_by next k p) } ∷ [] ≡ items_at of next (suc k) p
  unfolding items_at ends_by
  items_snoc zero p = refl
  items_snoc (suc k) p = ap (λ (l : List (Item A)). record { at = p; of = of p } ∷ l) (items_snoc k (next p))

-- ---- the items of a list, read one after the other

pub next_not : (n p e : ℕ) → Refused n p ≡ Next e → ⊥
next_not n p e h = let z : ◌≡◌ {A = ℕ} 0 1 = cc in omega arith

module _ {A : Type 0} where
  pub step_refused : (r : Reading A) (n p : ℕ) → step r ≡ Refused n p → r ≡ refused n p
  unfolding step
  step_refused (got x e) n p h = let z : ◌≡◌ {A = ℕ} 0 1 = cc in absurd (omega arith)
  step_refused (refused m q) n p h = cc

  pub step_next : (r : Reading A) (e : ℕ) → step r ≡ Next e → (x : A) × (r ≡ got x e)
  unfolding step
  step_next (got x d) e h = (x, cc)
  step_next (refused n p) e h = absurd (next_not n p e h)

-- a reader of items, `f`: what it reads at an offset is `of` it, and ends at `next`, by the end of the bytes
pub record Reads {A : Type 0} (s : List ℕ) (f : List A → ℕ → Reading A) (of : ℕ → A) (next : ℕ → ℕ) : Type 0 where
  pub value : (before : List A) (at : ℕ) (x : A) (e : ℕ) → f before at ≡ got x e → x ≡ of at
  pub end : (before : List A) (at : ℕ) (x : A) (e : ℕ) → f before at ≡ got x e → e ≡ next at
  pub within : (before : List A) (at : ℕ) (x : A) (e : ℕ) → f before at ≡ got x e → e ≤ length s

module _ {A : Type 0} (s : List ℕ) (f : List A → ℕ → Reading A) (of : ℕ → A) (next : ℕ → ℕ) (reads : Reads s f of next) where
  -- with one item more
  items_got : (n : ℕ) (k p at : ℕ) (x : A) (e : ℕ) → at ≡ ends_by next k p → f (contents (items_at of next k p)) at ≡ got x e
      → items_from f (suc n) (items_at of next k p) at ≡ items_from f n (items_at of next (suc k) p) e
  unfolding items_from and_then
  items_got n k p at x e d h =
      rw h (ap (λ (is : List (Item A)). items_from f n is e)
      (ap (λ (i : Item A). items_at of next k p ++ i ∷ []) (let v : x ≡ of at = reads.value _ at x e h in rw (v, d)) ∙ items_snoc of next k p))

  -- what was read is what stands there
  items_all : (n k m p at : ℕ) (js : List (Item A)) (e : ℕ) → k + n ≡ m → at ≡ ends_by next k p → at ≤ length s
      → items_from f n (items_at of next k p) at ≡ got js e
      → (js ≡ items_at of next m p) × (e ≤ length s)
  unfolding items_from
  items_all zero k m p at js e c d l h =
      let i : items_at of next k p ≡ js = cc in
      let q : at ≡ e = cc in
      let g : k ≡ m = omega arith in
      (sym i ∙ ap (λ (n : ℕ). items_at of next n p) g, rw q at l)
  items_all (suc n) k m p at js e c d l h =
      let r = and_then_got (f (contents (items_at of next k p)) at) _ js e h in
      let w = reads.end _ at r.0 r.1 r.2 in
      let here = w ∙ ap next d ∙ sym (ends_snoc next k p) in
      let within = reads.within _ at r.0 r.1 r.2 in
      items_all n (suc k) m p r.1 js e (omega arith) here within (sym (items_got n k p at r.0 r.1 d r.2) ∙ h)

-- ---- a list: its count, and its items

tests : {A : Type 0} (a b c : Bool) (r x : A) → choose a r (choose b r (choose c r x)) ≡ choose (choose a false (choose b false (choose c false true))) x r
unfolding choose
tests true b c r x = refl
tests false true c r x = refl
tests false false true r x = refl
tests false false false r x = refl

module _ {A : Type 0} (s : List ℕ) (lowest highest : ℕ) (f : List A → ℕ → Reading A) (p : ℕ) where
  pub list_is : list_at s lowest highest f p ≡ choose (count_right s lowest highest p) (items_from f (u16_at s p) [] (p + 2)) (refused 3 p)
  unfolding list_at count_right
  list_is = tests _ _ _ _ _

-- the count of a list that is there
pub record Counted (s : List ℕ) (lowest highest p : ℕ) : Type 0 where
  pub there : p + 2 ≤ length s
  pub least : lowest ≤ u16_at s p
  pub most : u16_at s p ≤ highest

no_first : (b x : Bool) → choose b false x ≡ true → b ≡ false
unfolding choose
no_first true x e = sym e
no_first false x e = refl

no_rest : (b x : Bool) → choose b false x ≡ true → x ≡ true
unfolding choose
no_rest true x e = absurd (false≢true e)
no_rest false x e = e

pub counted : (s : List ℕ) (lowest highest p : ℕ) → count_right s lowest highest p ≡ true → Counted s lowest highest p
unfolding count_right
counted s lowest highest p h =
    let a = no_first _ _ h in
    let b = no_first _ _ (no_rest _ _ h) in
    let c = no_first _ _ (no_rest _ _ (no_rest _ _ h)) in
    record { there = ltb-false _ _ a; least = ltb-false _ _ b; most = ltb-false _ _ c }

pub count_there : (s : List ℕ) (lowest highest p : ℕ) → count_right s lowest highest p ≡ true → p + 2 ≤ length s
count_there s lowest highest p h = (counted s lowest highest p h).there

module _ {A : Type 0} (s : List ℕ) (lowest highest : ℕ) (f : List A → ℕ → Reading A) (of : ℕ → A) (next : ℕ → ℕ) (reads : Reads s f of next) (p : ℕ) where
  pub list_got : (js : List (Item A)) (e : ℕ) → list_at s lowest highest f p ≡ got js e
      → (js ≡ items_at of next (u16_at s p) (p + 2)) × (e ≤ length s) × Counted s lowest highest p
  unfolding items_at ends_by
  list_got js e h =
      let r = choose_yes (count_right s lowest highest p) _ 3 p js e (sym (list_is s lowest highest f p) ∙ h) in
      let c = counted s lowest highest p (T_true _ r.0) in
      let i = items_all s f of next reads (u16_at s p) 0 (u16_at s p) (p + 2) (p + 2) js e (omega arith) refl c.there r.1 in
      (i.0, i.1, c)

  pub list_next : (y : Step) (e : ℕ) → y ≡ step (list_at s lowest highest f p) → y ≡ Next e
      → list_at s lowest highest f p ≡ got (items_at of next (u16_at s p) (p + 2)) e
  list_next y e d h =
      let r = step_next (list_at s lowest highest f p) e (sym d ∙ h) in
      r.1 ∙ ap (λ (is : List (Item A)). got is e) (list_got r.0 e r.1).0

-- ---- what each item of a list has at its place

module _ {A : Type 0} (s : List ℕ) (f : List A → ℕ → Reading A) (of : ℕ → A) (next : ℕ → ℕ) (reads : Reads s f of next) (P : ℕ → Type 0)
    (right : (before : List A) (at : ℕ) (x : A) (e : ℕ) → f before at ≡ got x e → P at) where
  items_right : (n : ℕ) (is : List (Item A)) (at : ℕ) (js : List (Item A)) (e : ℕ) → items_from f n is at ≡ got js e → (j : ℕ) → j < n → P (ends_by next j at)
  unfolding items_from ends_by
  items_right zero is at js e h j l = absurd (omega arith)
  items_right (suc n) is at js e h zero l =
      let r = and_then_got (f (contents is) at) _ js e h in
      right (contents is) at r.0 r.1 r.2
  items_right (suc n) is at js e h (suc j) l =
      let r = and_then_got (f (contents is) at) _ js e h in
      subst (λ (q : ℕ). P (ends_by next j q)) (reads.end (contents is) at r.0 r.1 r.2) (items_right n _ r.1 js e r.3 j (omega arith))

  pub list_right : (lowest highest p : ℕ) (js : List (Item A)) (e : ℕ) → list_at s lowest highest f p ≡ got js e → (j : ℕ) → j < u16_at s p
      → P (ends_by next j (p + 2))
  list_right lowest highest p js e h =
      let r = choose_yes (count_right s lowest highest p) _ 3 p js e (sym (list_is s lowest highest f p) ∙ h) in
      items_right (u16_at s p) [] (p + 2) js e r.1

-- ---- items, their contents and their offsets, by number

module _ {A : Type 0} (of : ℕ → A) (next : ℕ → ℕ) where
  pub items_length : (k p : ℕ) → length (items_at of next k p) ≡ k
  unfolding items_at
  items_length zero p = refl
  items_length (suc k) p = ap suc (items_length k (next p))

  pub items_starts : (k p : ℕ) → offsets (items_at of next k p) ≡ starts_at next k p
  unfolding items_at starts_at
  items_starts zero p = refl
  items_starts (suc k) p = ap (λ (l : List ℕ). p ∷ l) (items_starts k (next p))

  pub contents_length : (k p : ℕ) → length (contents (items_at of next k p)) ≡ k
  contents_length k p = rw length-map (items_length k p)

  pub contents_at : (k p j : ℕ) (d : A) → j < k → get_or (contents (items_at of next k p)) j d ≡ of (ends_by next j p)
  unfolding items_at ends_by
  contents_at zero p j d l = absurd (omega arith)
  contents_at (suc k) p zero d l = refl
  contents_at (suc k) p (suc j) d l = contents_at k (next p) j d (omega arith)

  -- what holds of each by number holds of each
  pub contents_each : (P : A → Type 0) (k p : ℕ) → ((j : ℕ) → j < k → P (of (ends_by next j p))) → (x : A) → Memᴰ x (contents (items_at of next k p)) → P x
  unfolding items_at ends_by
  contents_each P zero p h x m = absurd (Memᴰ.not-nil m)
  contents_each P (suc k) p h x m =
      ⊎_elim (λ e. subst P (sym e) (h 0 (omega arith))) (λ n. contents_each P k (next p) (λ j l. h (suc j) (omega arith)) x n) (Memᴰ.cases_cons m)

pub starts_at_law : (next : ℕ → ℕ) (k p j : ℕ) → j < k → get_or (starts_at next k p) j 0 ≡ ends_by next j p
unfolding starts_at ends_by
starts_at_law next zero p j l = absurd (omega arith)
starts_at_law next (suc k) p zero l = refl
starts_at_law next (suc k) p (suc j) l = starts_at_law next k (next p) j (omega arith)
