-- What an accepted hierarchy is sure to have: each entry fits. So a descendant is a constant of its place's kind, and what a ground fact covers is ground.
use mathlib.Core.Path.{◌≡◌, sym, ap, ap₂, subst, ◌∙◌}
use mathlib.Core.Bool.{Bool, not, ◌&&◌}
use mathlib.Core.List.{List, [], ◌∷◌, map, Memᴰ, cons≢nil, head-eq_of_cons-eq, tail-eq_of_cons-eq}
use Prim.Native.Nat.{ℕ, suc, ◌+◌, ◌-◌, ◌≤◌}
use native.Mathlib.Omega.{arith}
use lib.ListN.{length, get_or}
use lib.Dec.{T, eqb, leb, eqb→eq}
use Rattle.model.specs.Limits.{can_act_as, version, header_bytes, max_links}
use Rattle.model.specs.Syntax.{Fact, Link, Constant, Verb}
use Rattle.model.specs.Kinds.{kind_at, param_kinds, kind_of_link, fits_link}
use Rattle.model.specs.Closure.{by}
use Rattle.model.specs.Hierarchy.{link, child, onward, Below, Replaced, end, stays, falls, Covers, phrase, nested}
use Rattle.model.specs.Bytes.{got}
use Rattle.model.specs.Entries.{link_at, link_judged, link_item, computed_hierarchy, read_hierarchy}
use Rattle.model.specs.Inputs.{GroundFact}
use Rattle.model.proofs.ListFacts.{and_of}
use Rattle.model.proofs.ReadFacts.{choose_yes, choose_no, and_then_got, headed_got, ended_got, list_each}
use Rattle.model.proofs.EntryReader.{hierarchy_is}

-- ---- each entry fits

abbrev pub Fit : List Constant → List Verb → List Link → Type 0
Fit cs vs H = (l : Link) → Memᴰ l H → T (fits_link cs vs l)

link_fits : (cs : List Constant) (vs : List Verb) (s : List ℕ) (earlier : List Link) (at : ℕ) (l : Link) (e : ℕ) → link_item cs vs s earlier at ≡ got l e
    → T (fits_link cs vs l)
unfolding link_item link_judged
link_fits cs vs s earlier at l e r =
    let a = choose_no _ _ 3 at l e r in
    let b = choose_no _ _ 5 at l e a.1 in
    let c = choose_no _ _ 3 at l e b.1 in
    let d = choose_yes _ _ 5 at l e c.1 in
    let f = choose_no _ _ 11 at l e d.1 in
    subst (λ (l : Link). T (fits_link cs vs l)) (let k : link_at s at ≡ l = let w = f.1 in cc in k) d.0

pub links_fit : (cs : List Constant) (vs : List Verb) (s : List ℕ) (H : List Link) (e : ℕ) → read_hierarchy cs vs s ≡ got H e → Fit cs vs H
unfolding computed_hierarchy
links_fit cs vs s H e r =
    let a = and_then_got _ _ H e (headed_got version s _ H e (sym (hierarchy_is cs vs s) ∙ r)) in
    let q = ended_got s _ H a.1 e a.3 in
    subst (Fit cs vs) q (list_each (link_item cs vs s) (λ (l : Link). T (fits_link cs vs l)) (link_fits cs vs s) s 0 max_links header_bytes a.0 a.1 a.2)

-- ---- descendants and parameters

module _ (cs : List Constant) (vs : List Verb) (H : List Link) (fit : Fit cs vs H) where
  -- the kind of the parameter at a position of a verb
  abbrev kind_in : ℕ → ℕ → ℕ
  kind_in verb position = get_or (param_kinds vs verb) (position - 1) 0

  child_kind : (l : Link) → Memᴰ l H → kind_at cs l.child ≡ kind_of_link vs l
  child_kind l m =
      eqb→eq (kind_at cs l.child) (kind_of_link vs l)
      (and_of
      (not (eqb l.verb can_act_as) && leb 1 l.position && leb l.position (length (param_kinds vs l.verb))
      && eqb (kind_at cs l.parent) (kind_of_link vs l)) (eqb (kind_at cs l.child) (kind_of_link vs l)) (fit l m)).1

  below_kind : (verb position c d : ℕ) → Below H verb position c d → kind_at cs d ≡ kind_in verb position
  below_kind verb position c d (by (child m) h) = child_kind (link verb position c d) m
  below_kind verb position c d (by (onward {b} m) h) = child_kind (link verb position b d) m

  -- the kinds that parameters from a position on should have
  abbrev From : ℕ → ℕ → List ℕ → Type 0
  From verb position ks = (j : ℕ) → get_or (param_kinds vs verb) (position + j - 1) 0 ≡ get_or ks j 0

  from_next : (verb position k : ℕ) (ks : List ℕ) → 1 ≤ position → From verb position (k ∷ ks) → From verb (suc position) ks
  from_next verb position k ks o f j =
      let e : suc position + j - 1 ≡ position + suc j - 1 = omega arith in
      ap (λ (n : ℕ). get_or (param_kinds vs verb) n 0) e ∙ f (suc j)

  replaced_ground : (verb : ℕ) {position : ℕ} {b : Bool} {ps qs : List ℕ} → Replaced H verb position b ps qs
      → (ks : List ℕ) → 1 ≤ position → From verb position ks → map (kind_at cs) ps ≡ ks → map (kind_at cs) qs ≡ ks
  replaced_ground verb end ks o f e = e
  replaced_ground verb (stays r) [] o f e = absurd (cons≢nil e)
  replaced_ground verb (stays {position} {c} r) (k ∷ ks) o f e =
      ap₂ (λ (x : ℕ) (l : List ℕ). x ∷ l) (head-eq_of_cons-eq e)
      (replaced_ground verb r ks (omega arith) (from_next verb position k ks o f) (tail-eq_of_cons-eq e))
  replaced_ground verb (falls w r) [] o f e = absurd (cons≢nil e)
  replaced_ground verb (falls {position} {c} {d} w r) (k ∷ ks) o f e =
      let z : position - 1 ≡ position + 0 - 1 = omega arith in
      ap₂ (λ (x : ℕ) (l : List ℕ). x ∷ l) (below_kind verb position c d w ∙ (ap (λ (n : ℕ). get_or (param_kinds vs verb) n 0) z ∙ f 0))
      (replaced_ground verb r ks (omega arith) (from_next verb position k ks o f) (tail-eq_of_cons-eq e))

  pub covers_ground : {f g : Fact ℕ} → Covers H f g → GroundFact cs vs f → GroundFact cs vs g
  covers_ground (phrase {s} {v} r) g =
      let all : From v 1 (param_kinds vs v) = λ j. let e : 1 + j - 1 ≡ j = omega arith in ap (λ (n : ℕ). get_or (param_kinds vs v) n 0) e in
      (g.0, replaced_ground v r (param_kinds vs v) (omega arith) all g.1)
  covers_ground (nested c) g = (g.0, covers_ground c g.1)
