-- The hierarchy: a fact gives, on its places, the facts that it covers, and nothing else. Each of its three parameters is replaced by one of its family; a
-- place past the verb's parameters has 0, which no entry is about.
use mathlib.Core.Path.{◌≡◌, refl, sym, ap, subst, ◌∙◌}
use mathlib.Core.Logic.{◌⊎◌, inl, inr}
use mathlib.Core.Bool.{Bool, true, false, ◌||◌, not, true≢false}
use mathlib.Core.List.Memᴰ
use mathlib.Core.List.{List, [], ◌∷◌, Memᴰ}
use Prim.Native.Nat.{ℕ, zero, suc, ◌+◌, ◌≤◌, ◌<◌}
use native.Mathlib.Omega.{arith}
use lib.ListN.{length, get_or}
use lib.Dec.{T}
use borrow.Author.Tests.{eq-eqb, ne_eqb}
use Rattle.model.proofs.Tests.{by_eq}
use Rattle.model.specs.Lists.{pad}
use Rattle.model.specs.Syntax.{Fact, flat, can_say, Link, Said, said, Assertion, World}
use Rattle.model.specs.Kinds.{param_kinds}
use Rattle.model.specs.Records.{key, Formed}
use Rattle.model.specs.Closure.{Within, by}
use Rattle.model.specs.Hierarchy as covering
use Rattle.model.specs.Hierarchy.{child, onward, Replaced, end, stays, falls, Covers, nested}
use Rattle.model.specs.Rules.{Rule, covers}
use Rattle.model.proofs.ListFacts.{only_of, each_of, each_in}
use Rattle.model.proofs.ClosureFacts.{within→derives}
use Rattle.fact.specs.Places.{verb_of, first_of, second_of, third_of, replaced_of, same_fact, number_of}
use Rattle.rules.specs.Proper.{Sources, Below, SmallFact}
use Rattle.rules.specs.Families.{ordered_of, other_gives, thirds_of, seconds_of, firsts_of, covers_of}
use Rattle.rules.proofs.ExtendFacts.{In}
use Rattle.rules.proofs.RoundLaw.{Given}
use Rattle.rules.proofs.Good.{Good, good, below_at}
use Rattle.rules.proofs.UseFacts.{now_good, same_places}
use Rattle.rules.proofs.FamilyFacts.{ordered_of_law, ordered_self, ordered_in_law}

-- ---- the innermost verb and its parameters

abbrev verb_in : Fact ℕ → ℕ
verb_in (flat s v ps) = v
verb_in (can_say s d f) = verb_in f

abbrev params_in : Fact ℕ → List ℕ
params_in (flat s v ps) = ps
params_in (can_say s d f) = params_in f

abbrev with_params : List ℕ → Fact ℕ → Fact ℕ
with_params qs (flat s v ps) = flat s v qs
with_params qs (can_say s d f) = can_say s d (with_params qs f)

with_own : (f : Fact ℕ) → with_params (params_in f) f ≡ f
with_own (flat s v ps) = refl
with_own (can_say s d f) = ap (can_say s d) (with_own f)

params_few : (n : ℕ) (f : Fact ℕ) → Formed n f → length (params_in f) ≤ 3
params_few n (flat s v ps) h = h
params_few zero (can_say s d f) h = absurd h
params_few (suc n) (can_say s d f) h = params_few n f h

params_small : (f : Fact ℕ) → SmallFact f → Below (params_in f)
params_small (flat s v ps) h = h.2
params_small (can_say s d f) h = params_small f h.2

module _ {H : List Link} where
  covers_by : (f : Fact ℕ) {qs : List ℕ} → Replaced H (verb_in f) 1 true (params_in f) qs → Covers H f (with_params qs f)
  covers_by (flat s v ps) r = covering.phrase r
  covers_by (can_say s d f) r = nested (covers_by f r)

  covers_is : {f g : Fact ℕ} → Covers H f g → (qs : List ℕ) × Replaced H (verb_in f) 1 true (params_in f) qs × (g ≡ with_params qs f)
  covers_is (covering.phrase {s} {v} {ps} {qs} r) = (qs, r, refl)
  covers_is (nested {s} {d} c) = let w = covers_is c in (w.0, w.1, ap (can_say s d) w.2)

-- ---- places

-- three parameters, 0 where there is none
three_of : (ps : List ℕ) → length ps ≤ 3 → pad 3 ps ≡ get_or ps 0 0 ∷ get_or ps 1 0 ∷ get_or ps 2 0 ∷ []
three_of [] h = refl
three_of (a ∷ []) h = refl
three_of (a ∷ b ∷ []) h = refl
three_of (a ∷ b ∷ c ∷ []) h = refl
three_of (a ∷ b ∷ c ∷ e ∷ ps) h = absurd (omega arith)

module _ (a d : ℕ) where
  abbrev Fields : Fact ℕ → List ℕ → Type 0
  Fields f l =
      (verb_of (key (said a d f)) ≡ verb_in f) × (first_of (key (said a d f)) ≡ get_or l 0 0) × (second_of (key (said a d f)) ≡ get_or l 1 0)
      × (third_of (key (said a d f)) ≡ get_or l 2 0)

  padded_key : (f : Fact ℕ) → Formed 3 f → Fields f (pad 3 (params_in f))
  padded_key (flat s v ps) h = (refl, refl, refl, refl)
  padded_key (can_say s1 d1 (flat s v ps)) h = (refl, refl, refl, refl)
  padded_key (can_say s1 d1 (can_say s2 d2 (flat s v ps))) h = (refl, refl, refl, refl)
  padded_key (can_say s1 d1 (can_say s2 d2 (can_say s3 d3 (flat s v ps)))) h = (refl, refl, refl, refl)
  padded_key (can_say s1 d1 (can_say s2 d2 (can_say s3 d3 (can_say s4 d4 f)))) h = absurd h

  replaced_key : (f : Fact ℕ) → Formed 3 f → (qs : List ℕ) (x y z : ℕ) → pad 3 qs ≡ x ∷ y ∷ z ∷ []
      → replaced_of (key (said a d f)) x y z ≡ key (said a d (with_params qs f))
  unfolding replaced_of
  replaced_key (flat s v ps) h qs x y z e = ap (λ (l : List ℕ). a ∷ d ∷ 0 ∷ 0 ∷ 0 ∷ 0 ∷ 0 ∷ 0 ∷ 0 ∷ s ∷ v ∷ l) (sym e)
  replaced_key (can_say s1 d1 (flat s v ps)) h qs x y z e = ap (λ (l : List ℕ). a ∷ d ∷ 1 ∷ s1 ∷ d1 ∷ 0 ∷ 0 ∷ 0 ∷ 0 ∷ s ∷ v ∷ l) (sym e)
  replaced_key (can_say s1 d1 (can_say s2 d2 (flat s v ps))) h qs x y z e = ap (λ (l : List ℕ). a ∷ d ∷ 2 ∷ s1 ∷ d1 ∷ s2 ∷ d2 ∷ 0 ∷ 0 ∷ s ∷ v ∷ l) (sym e)
  replaced_key (can_say s1 d1 (can_say s2 d2 (can_say s3 d3 (flat s v ps)))) h qs x y z e =
      ap (λ (l : List ℕ). a ∷ d ∷ 3 ∷ s1 ∷ d1 ∷ s2 ∷ d2 ∷ s3 ∷ d3 ∷ s ∷ v ∷ l) (sym e)
  replaced_key (can_say s1 d1 (can_say s2 d2 (can_say s3 d3 (can_say s4 d4 f)))) h qs x y z e = absurd h

  fields_key : (f : Fact ℕ) → Formed 3 f → Fields f (get_or (params_in f) 0 0 ∷ get_or (params_in f) 1 0 ∷ get_or (params_in f) 2 0 ∷ [])
  fields_key f h = subst (Fields f) (three_of (params_in f) (params_few 3 f h)) (padded_key f h)

-- ---- three choices, and what is replaced

module _ (H : List Link) (verb : ℕ) where
  -- c is left, or a descendant takes its place
  data Choice (position c : ℕ) : ℕ → Bool → Type 0 where
    left : Choice position c c false
    taken : {x : ℕ} → covering.Below H verb position c x → Choice position c x true

  choose : (position c x : ℕ) → (x ≡ c) ⊎ covering.Below H verb position c x → (b : Bool) × Choice position c x b
  choose position c x (inl e) = (false, subst (λ (y : ℕ). Choice position c y false) (sym e) left)
  choose position c x (inr w) = (true, taken w)

  join : {position c x : ℕ} {a b : Bool} {ps qs : List ℕ} → Choice position c x a → Replaced H verb (suc position) b ps qs
      → Replaced H verb position (a || b) (c ∷ ps) (x ∷ qs)
  join left r = stays r
  join (taken w) r = falls w r

  -- nothing is replaced
  unreplaced : {position : ℕ} {b : Bool} {ps qs : List ℕ} → Replaced H verb position b ps qs → b ≡ false → qs ≡ ps
  unreplaced end e = refl
  unreplaced (stays {c = c} r) e = ap (◌∷◌ c) (unreplaced r e)
  unreplaced (falls w r) e = absurd (true≢false e)

  -- one parameter after another
  abbrev AtPlace : ℕ → List ℕ → List ℕ → ℕ → Type 0
  AtPlace position ps qs j = (get_or qs j 0 ≡ get_or ps j 0) ⊎ covering.Below H verb position (get_or ps j 0) (get_or qs j 0)

  pointwise : {position : ℕ} {b : Bool} {ps qs : List ℕ} → Replaced H verb position b ps qs → (j : ℕ) → AtPlace (j + position) ps qs j
  pointwise end j = inl refl
  pointwise (stays r) zero = inl refl
  pointwise (stays {position} {c} {b} {ps} {qs} r) (suc j) =
      let e : j + suc position ≡ suc j + position = omega arith in
      subst (λ (p : ℕ). AtPlace p ps qs j) e (pointwise r j)
  pointwise (falls {position} {c} {d} {b} {ps} {qs} w r) zero =
      let e : position ≡ 0 + position = omega arith in
      subst (λ (p : ℕ). AtPlace p (c ∷ ps) (d ∷ qs) 0) e (inr w)
  pointwise (falls {position} {c} {d} {b} {ps} {qs} w r) (suc j) =
      let e : j + suc position ≡ suc j + position = omega arith in
      subst (λ (p : ℕ). AtPlace p ps qs j) e (pointwise r j)

  -- a place past the parameters is left
  abbrev NonePast : ℕ → Type 0
  NonePast n = (position c x : ℕ) → n < position → covering.Below H verb position c x → ⊥

  stayed : {position x : ℕ} {b : Bool} {n : ℕ} → NonePast n → n < position → Choice position 0 x b → x ≡ 0
  stayed none h left = refl
  stayed none h (taken w) = absurd (none _ _ _ h w)

  -- three choices make a list of parameters
  abbrev Chosen : List ℕ → ℕ → ℕ → ℕ → Type 0
  Chosen ps x y z = (qs : List ℕ) × (b : Bool) × Replaced H verb 1 b ps qs × (pad 3 qs ≡ x ∷ y ∷ z ∷ [])

  chosen : (ps : List ℕ) → length ps ≤ 3 → NonePast (length ps) → {x y z : ℕ} {a b c : Bool}
      → Choice 1 (get_or ps 0 0) x a → Choice 2 (get_or ps 1 0) y b → Choice 3 (get_or ps 2 0) z c → Chosen ps x y z
  chosen [] h none {x} {y} {z} p q r =
      let i = stayed none (omega arith) p in
      let j = stayed none (omega arith) q in
      let k = stayed none (omega arith) r in
      ([], false, end, λ t. sym i t ∷ sym j t ∷ sym k t ∷ [])
  chosen (e ∷ []) h none {x} {y} {z} p q r =
      let j = stayed none (omega arith) q in
      let k = stayed none (omega arith) r in
      (x ∷ [], _, join p end, λ t. x ∷ sym j t ∷ sym k t ∷ [])
  chosen (e ∷ f ∷ []) h none {x} {y} {z} p q r =
      let k = stayed none (omega arith) r in
      (x ∷ y ∷ [], _, join p (join q end), λ t. x ∷ y ∷ sym k t ∷ [])
  chosen (e ∷ f ∷ g ∷ []) h none {x} {y} {z} p q r = (x ∷ y ∷ z ∷ [], _, join p (join q (join r end)), refl)
  chosen (e ∷ f ∷ g ∷ i ∷ ps) h none p q r = absurd (omega arith)

-- ---- a round under way

module _ {W : World} {𝒜 : List Assertion} (sources : Sources W 𝒜) (n round : ℕ) where
  abbrev H : List Link
  H = W.hierarchy

  abbrev Now : Said → Type 0
  Now x = Within (Rule W 𝒜) n x

  children_small : (l : Link) → Memᴰ l H → l.child < 255
  children_small l m = (sources.links l m).small

  -- no entry is about a place past the verb's parameters
  none_past : (verb : ℕ) → NonePast H verb (length (param_kinds W.verbs verb))
  none_past verb position c x h (by (child m) k) = let i = (sources.links _ m).within in omega arith
  none_past verb position c x h (by (onward m) k) = let i = (sources.links _ m).within in omega arith

  module _ (a d : ℕ) (f : Fact ℕ) (w : Now (said a d f)) where
    g : Good W (said a d f)
    g = now_good sources n round (said a d f) w

    abbrev ps : List ℕ
    ps = params_in f

    abbrev v : ℕ
    v = verb_in f

    arity : length ps ≡ length (param_kinds W.verbs v)
    unfolding g
    arity = of f g.arity
      where
        of : (f : Fact ℕ) → Rattle.model.specs.Records.Arity W.verbs f → length (params_in f) ≡ length (param_kinds W.verbs (verb_in f))
        of (flat s v qs) e = e
        of (can_say s d f) e = of f e

    few : length ps ≤ 3
    unfolding g
    few = params_few 3 f g.shape

    small : (j : ℕ) → get_or ps j 0 < 255
    unfolding g
    small = below_at ps (params_small f g.small.2)

    abbrev family : ℕ → ℕ → List ℕ
    family position j = ordered_of H v position (get_or ps j 0)

    -- the entries, by the fact's own verb and parameters
    by_fields : covers_of round (key (said a d f)) H ≡ firsts_of round (key (said a d f)) (family 1 0) (family 2 1) (family 3 2)
    unfolding covers_of g
    by_fields =
        let at = fields_key a d f g.shape in
        λ i. firsts_of round (key (said a d f)) (ordered_of H (at.0 i) 1 (at.1 i)) (ordered_of H (at.0 i) 2 (at.2 i)) (ordered_of H (at.0 i) 3 (at.3 i))

    other_of : (x y z : ℕ) → Memᴰ x (family 1 0) → Memᴰ y (family 2 1) → Memᴰ z (family 3 2)
        → (c : List ℕ) → In c (other_gives round (key (said a d f)) x y z) → Given (Rule W 𝒜) key n round c
    unfolding other_gives g small
    other_of x y z mx my mz c m =
        let o = only_of (not (same_fact (replaced_of (key (said a d f)) x y z) (key (said a d f)))) m in
        let s = chosen H v ps few (λ p c x h. none_past v p c x (omega (arith, arity)))
        (choose H v 1 _ x (ordered_of_law H v 1 children_small _ (small 0) x mx)).1 (choose H v 2 _ y (ordered_of_law H v 2 children_small _ (small 1) y my)).1
        (choose H v 3 _ z (ordered_of_law H v 3 children_small _ (small 2) z mz)).1 in
        made s.0 s.1 s.2 (replaced_key a d f g.shape s.0 x y z s.3) o.0 o.1
      where
        made : (qs : List ℕ) (b : Bool) → Replaced H v 1 b ps qs → replaced_of (key (said a d f)) x y z ≡ key (said a d (with_params qs f))
            → T (not (same_fact (replaced_of (key (said a d f)) x y z) (key (said a d f)))) → c ≡ round ∷ replaced_of (key (said a d f)) x y z
            → Given (Rule W 𝒜) key n round c
        made qs true r e t i = (
          said a d (with_params qs f),
          i ∙ ap (◌∷◌ round) e,
          (said a d f ∷ [], covers (covers_by f r), λ y h. subst Now (sym (Memᴰ.eq_of_singleton h)) w),
        )
        made qs false r e t i =
            let own : replaced_of (key (said a d f)) x y z ≡ key (said a d f) =
            e ∙ ap (λ (l : List ℕ). key (said a d (with_params l f))) (unreplaced H v r refl) ∙ ap (λ (h : Fact ℕ). key (said a d h)) (with_own f) in
            absurd (subst (λ (b : Bool). T (not b)) (eq-eqb (number_of (replaced_of (key (said a d f)) x y z)) (number_of (key (said a d f)))
            (ap number_of own)) t)

    pub cover_of : (c : List ℕ) → In c (covers_of round (key (said a d f)) H) → Given (Rule W 𝒜) key n round c
    unfolding firsts_of seconds_of thirds_of
    cover_of c m =
        let i = each_of (seconds_of round (key (said a d f)) (family 2 1) (family 3 2)) (family 1 0)
        (subst (In c) by_fields m) in
        let j = each_of (thirds_of round (key (said a d f)) (family 3 2) i.0) (family 2 1) i.2 in
        let k = each_of (other_gives round (key (said a d f)) i.0 j.0) (family 3 2) j.2 in
        other_of i.0 j.0 k.0 i.1 j.1 k.1 c k.2

    in_family : (position j : ℕ) (x : ℕ) → (x ≡ get_or ps j 0) ⊎ covering.Below H v position (get_or ps j 0) x → Memᴰ x (family position j)
    unfolding small
    in_family position j x (inl e) = Memᴰ.cast e (ordered_self H v position children_small (get_or ps j 0) (small j))
    in_family position j x (inr u) = ordered_in_law H v position children_small (get_or ps j 0) (small j) x u

    -- what is covered is the fact itself, or is given
    pub cover_in : (h : Fact ℕ) → Covers H f h → Now (said a d h) ⊎ In (round ∷ key (said a d h)) (covers_of round (key (said a d f)) H)
    unfolding firsts_of seconds_of thirds_of other_gives g
    cover_in h c =
        by_eq (number_of (replaced_of (key (said a d f)) x y z)) (number_of (key (said a d f)))
        (λ e. inl (subst Now (sym (same_places sources (said a d h) (said a d f) covered g (eq-eqb _ _ (ap number_of (sym is) ∙ e)))) w))
        (λ n. inr (subst (In (round ∷ key (said a d h))) (sym by_fields)
        (each_in (seconds_of round (key (said a d f)) (family 2 1) (family 3 2)) (in_family 1 0 x (pointwise H v r.1 0))
        (each_in (thirds_of round (key (said a d f)) (family 3 2) x) (in_family 2 1 y (pointwise H v r.1 1))
        (each_in (other_gives round (key (said a d f)) x y) (in_family 3 2 z (pointwise H v r.1 2))
        (rw (ne_eqb (number_of (replaced_of (key (said a d f)) x y z)) (number_of (key (said a d f))) n) (Memᴰ.head (ap (◌∷◌ round) (sym is)))))))))
      where
        r : (qs : List ℕ) × Replaced H v 1 true ps qs × (h ≡ with_params qs f)
        r = covers_is c

        x : ℕ
        x = get_or r.0 0 0

        y : ℕ
        y = get_or r.0 1 0

        z : ℕ
        z = get_or r.0 2 0

        is : replaced_of (key (said a d f)) x y z ≡ key (said a d h)
        is =
            let few : length r.0 ≤ 3 = (let k = Rattle.model.proofs.HierarchyFacts.replaced_length H v r.1 in omega (arith, few)) in
            replaced_key a d f g.shape r.0 x y z (three_of r.0 few) ∙ ap (λ (h : Fact ℕ). key (said a d h)) (sym r.2)

        covered : Good W (said a d h)
        covered = good W 𝒜 sources (said a d h) (within→derives (Rule W 𝒜) (said a d h) (suc n)
            (inr (said a d f ∷ [], covers c, λ y m. subst Now (sym (Memᴰ.eq_of_singleton m)) w)))
