-- In a safe request every variable that is used has a place in a fact, and its cell stands for its kind.
use mathlib.Core.Path.{◌≡◌, refl, sym, ◌∙◌, ap, subst}
use mathlib.Core.Logic.{◌⊎◌, inl, inr, ⊎_elim}
use mathlib.Core.Bool.{Bool, true, false, cond, not}
use mathlib.Core.Option as option
use mathlib.Core.Option.{Option, some}
use mathlib.Core.List.Memᴰ
use mathlib.Core.List.{List, [], ◌∷◌, ◌++◌, Memᴰ}
use Prim.Native.Nat.{ℕ, ◌≤◌}
use native.Mathlib.Omega.{arith}
use lib.ListN.{length}
use lib.Dec.{T, T_not, eqb, eqb→eq, eqb_refl}
use Rattle.model.specs.Limits.{principal}
use Rattle.model.specs.Lists.{member, among, without}
use Rattle.model.specs.Syntax.{Expr, con, var, today, Fact, flat, can_say, Verb, Node, Nodes, says, test, all_of, any_of, non, exists, end, more, vars_of}
use Rattle.model.specs.Syntax.{vars_in, vars_test}
use Rattle.model.specs.Kinds.{pair, param_kinds, places, demands_in, demands_all, is_var, kind_of}
use Rattle.model.specs.Requests.{free, free_all}
use Rattle.model.specs.Safety.{provided, onward, known, known_all, known_any, binders, binders_all}
use Rattle.model.specs.Records.{Arity}
use Rattle.model.proofs.ListFacts.{all_of_law, each_of, each_in, keep_of, keep_in, member_of, member_in}
use Rattle.model.proofs.CheckedNodes.{Some, Sound, SoundAll}
use Rattle.model.proofs.KindFacts.{is_var_of}
use Rattle.model.proofs.Tests.{T_true}

-- ---- places

here : (v : ℕ) (e : Expr) → Memᴰ v (vars_of e) → e ≡ var v
here v (con c) m = absurd (Memᴰ.not-nil m)
here v (var w) m = ap var (sym (Memᴰ.eq_of_singleton m))
here v today m = absurd (Memᴰ.not-nil m)

pair_in : (e : Expr) (ks : List ℕ) (es : List Expr) → length es ≡ length ks → Memᴰ e es → (k : ℕ) × Memᴰ (k, e) (pair ks es)
pair_in e [] [] l m = absurd (Memᴰ.not-nil m)
pair_in e [] (x ∷ es) l m = absurd (omega arith)
pair_in e (k ∷ ks) [] l m = absurd (omega arith)
pair_in e (k ∷ ks) (x ∷ es) l m =
    ⊎_elim (λ q. (k, Memᴰ.head (ap (λ (y : Expr). (k, y)) q))) (λ n. let r = pair_in e ks es (omega arith) n in (r.0, Memᴰ.tail r.1))
    (Memᴰ.cases_cons m)

pair_of : (k : ℕ) (e : Expr) (ks : List ℕ) (es : List Expr) → Memᴰ (k, e) (pair ks es) → Memᴰ e es
pair_of k e [] es m = absurd (Memᴰ.not-nil m)
pair_of k e (j ∷ ks) [] m = absurd (Memᴰ.not-nil m)
pair_of k e (j ∷ ks) (x ∷ es) m = ⊎_elim (λ q. Memᴰ.head (ap (λ (p : ℕ × Expr). p.1) q)) (λ n. Memᴰ.tail (pair_of k e ks es n))
    (Memᴰ.cases_cons m)

module _ (vs : List Verb) where
  abbrev In : ℕ → List (ℕ × Expr) → Type 0
  In v ps = (k : ℕ) × Memᴰ (k, var v) ps

  pub head_in : (v k : ℕ) (e : Expr) (ps : List (ℕ × Expr)) → Memᴰ v (vars_of e) → In v ((k, e) ∷ ps)
  head_in v k e ps m = (k, Memᴰ.head (ap (λ (y : Expr). (k, y)) (sym (here v e m))))

  pub fact_in_law : (v : ℕ) (f : Fact Expr) → Arity vs f → Memᴰ v (vars_in f) → In v (places vs f)
  fact_in_law v (flat s w ps) a m =
      ⊎_elim (head_in v principal s (pair (param_kinds vs w) ps))
      (λ n.
      let r = each_of vars_of ps n in
      let q = pair_in r.0 (param_kinds vs w) ps a r.1 in
      (q.0, Memᴰ.tail (subst (λ (e : Expr). Memᴰ (q.0, e) (pair (param_kinds vs w) ps)) (here v r.0 r.2) q.1)))
      (Memᴰ.append_cases (vars_of s) m)
  fact_in_law v (can_say s d f) a m =
      ⊎_elim (head_in v principal s (places vs f)) (λ n. let r = fact_in_law v f a n in (r.0, Memᴰ.tail r.1)) (Memᴰ.append_cases (vars_of s) m)

  own : (v k j : ℕ) (e : Expr) → ◌≡◌ {A = ℕ × Expr} (k, var v) (j, e) → Memᴰ v (vars_of e)
  own v k j e q = subst (λ (x : Expr). Memᴰ v (vars_of x)) (ap (λ (p : ℕ × Expr). p.1) q) (Memᴰ.head refl)

  fact_of : (v k : ℕ) (f : Fact Expr) → Memᴰ (k, var v) (places vs f) → Memᴰ v (vars_in f)
  fact_of v k (flat s w ps) m =
      ⊎_elim (λ q. Memᴰ.append_left _ (own v k principal s q)) (λ n. Memᴰ.append_right (vars_of s)
      (each_in vars_of (pair_of k (var v) (param_kinds vs w) ps n) (Memᴰ.head refl)))
      (Memᴰ.cases_cons m)
  fact_of v k (can_say s d f) m = ⊎_elim (λ q. Memᴰ.append_left _ (own v k principal s q)) (λ n. Memᴰ.append_right (vars_of s) (fact_of v k f n))
      (Memᴰ.cases_cons m)

  -- ---- what has a place is free or bound

  abbrev Used : ℕ → List ℕ → List ℕ → Type 0
  Used v fs bs = Memᴰ v fs ⊎ Memᴰ v bs

  mutual
    pub place_used : (n : Node) (v k : ℕ) → Memᴰ (k, var v) (demands_in n vs).places → Used v (free n) (binders n)
    place_used (says e f) v k m = inl (⊎_elim (λ q. Memᴰ.append_left _ (own v k principal e q)) (λ n. Memᴰ.append_right (vars_of e) (fact_of v k f n))
        (Memᴰ.cases_cons m))
    place_used (test c) v k m = absurd (Memᴰ.not-nil m)
    place_used (all_of ns) v k m = places_used ns v k m
    place_used (any_of ns) v k m = places_used ns v k m
    place_used (non n) v k m = place_used n v k m
    place_used (exists w n) v k m = ⊎_elim (λ a. split (eqb w v) refl a) (λ b. inr (Memᴰ.tail b)) (place_used n v k m)
      where
        split : (b : Bool) → eqb w v ≡ b → Memᴰ v (free n) → Used v (without w (free n)) (w ∷ binders n)
        split true e a = inr (Memᴰ.head (sym (eqb→eq w v (subst T (sym e) tt))))
        split false e a = inl (keep_in (λ x. not (eqb w x)) a (subst (λ (b : Bool). T (not b)) (sym e) tt))

    places_used : (ns : Nodes) (v k : ℕ) → Memᴰ (k, var v) (demands_all ns vs).places → Used v (free_all ns) (binders_all ns)
    places_used end v k m = absurd (Memᴰ.not-nil m)
    places_used (more n ns) v k m =
        ⊎_elim
        (λ a. ⊎_elim (λ x. inl (Memᴰ.append_left _ x)) (λ x. inr (Memᴰ.append_left _ x)) (place_used n v k a))
        (λ a. ⊎_elim (λ x. inl (Memᴰ.append_right (free n) x)) (λ x. inr (Memᴰ.append_right (binders n) x)) (places_used ns v k a))
        (Memᴰ.append_cases (demands_in n vs).places m)

  -- ---- what is used in a safe node has a place, if it was not known before

  -- of the variables xs each is known before or has a place
  abbrev Covered : List ℕ → List (ℕ × Expr) → List ℕ → Type 0
  Covered us ps xs = (v : ℕ) → Memᴰ v xs → Memᴰ v us ⊎ In v ps

  pub record Told (us : List ℕ) (ps : List (ℕ × Expr)) (fs bs ws : List ℕ) : Type 0 where
    pub after : Covered us ps ws
    pub frees : Covered us ps fs
    pub bounds : Covered us ps bs

  before : (us : List ℕ) (ps : List (ℕ × Expr)) → Covered us ps us
  before us ps v m = inl m

  nil : (us : List ℕ) (ps : List (ℕ × Expr)) → Covered us ps []
  nil us ps v m = absurd (Memᴰ.not-nil m)

  known_ones : (us : List ℕ) (ps : List (ℕ × Expr)) (xs : List ℕ) → T (among xs us) → Covered us ps xs
  known_ones us ps xs t v m = inl (member_of v us (all_of_law (λ x. member x us) t m))

  either : (us : List ℕ) (ps : List (ℕ × Expr)) (xs ys : List ℕ) → Covered us ps xs → Covered us ps ys → Covered us ps (xs ++ ys)
  either us ps xs ys p q v m = ⊎_elim (p v) (q v) (Memᴰ.append_cases xs m)

  in_left : (v : ℕ) (ps qs : List (ℕ × Expr)) → In v ps → In v (ps ++ qs)
  in_left v ps qs r = (r.0, Memᴰ.append_left qs r.1)

  in_right : (v : ℕ) (ps qs : List (ℕ × Expr)) → In v qs → In v (ps ++ qs)
  in_right v ps qs r = (r.0, Memᴰ.append_right ps r.1)

  left : (us : List ℕ) (ps qs : List (ℕ × Expr)) (xs : List ℕ) → Covered us ps xs → Covered us (ps ++ qs) xs
  left us ps qs xs p v m = ⊎_elim inl (λ r. inr (in_left v ps qs r)) (p v m)

  right : (us : List ℕ) (ps qs : List (ℕ × Expr)) (xs : List ℕ) → Covered us qs xs → Covered us (ps ++ qs) xs
  right us ps qs xs p v m = ⊎_elim inl (λ r. inr (in_right v ps qs r)) (p v m)

  -- where `ms` are known after a first part
  onto : (us ms : List ℕ) (ps qs : List (ℕ × Expr)) (xs : List ℕ) → Covered us ps ms → Covered ms qs xs → Covered us (ps ++ qs) xs
  onto us ms ps qs xs p q v m = ⊎_elim (λ k. ⊎_elim inl (λ r. inr (in_left v ps qs r)) (p v k)) (λ r. inr (in_right v ps qs r)) (q v m)

  provided_some : (b : Bool) (o : Option (List ℕ)) (ws : List ℕ) → provided b o ≡ some ws → T b × (o ≡ some ws)
  provided_some true o ws e = (tt, e)
  provided_some false o ws e = let z : ◌≡◌ {A = ℕ} 0 1 = cc in absurd (omega arith)

  onward_some : (o : Option (List ℕ)) (f : List ℕ → Option (List ℕ)) (ws : List ℕ) → onward o f ≡ some ws → (us : List ℕ) × (o ≡ some us) × (f us ≡ some ws)
  onward_some option.none f ws e = let z : ◌≡◌ {A = ℕ} 0 1 = cc in absurd (omega arith)
  onward_some (some us) f ws e = (us, refl, e)

  the_same : (us ws : List ℕ) → some us ≡ some ws → us ≡ ws
  the_same us ws e = cc

  unknown : (v : ℕ) (us : List ℕ) → T (not (member v us)) → Memᴰ v us → ⊥
  unknown v us t m = T_not (member v us) t (member_in m)

  says_covered : (e : Expr) (f : Fact Expr) → Arity vs f → (us : List ℕ) → Covered us ((principal, e) ∷ places vs f) (vars_of e ++ vars_in f)
  says_covered e f a us v m = inr (⊎_elim (head_in v principal e (places vs f)) (λ n. let r = fact_in_law v f a n in (r.0, Memᴰ.tail r.1))
      (Memᴰ.append_cases (vars_of e) m))

  mutual
    pub told : (n : Node) → Sound vs n → (us ws : List ℕ) → known n us ≡ some ws → Told us (demands_in n vs).places (free n) (binders n) ws
    told (says e (flat s w xs)) a us ws r =
        let ps = (demands_in (says e (flat s w xs)) vs).places in
        let c : Covered us ps (vars_of e ++ vars_in (flat s w xs)) = says_covered e (flat s w xs) a us in
        record {
          after = subst (Covered us ps) (the_same _ ws r) (either us ps (vars_of e ++ vars_in (flat s w xs)) us c (before us ps));
          frees = c;
          bounds = nil us ps;
        }
    told (says e (can_say s d f)) a us ws r =
        let ps = (demands_in (says e (can_say s d f)) vs).places in
        let c : Covered us ps (vars_of e ++ vars_in (can_say s d f)) = says_covered e (can_say s d f) a us in
        let o = provided_some (among (vars_in (can_say s d f)) us) (some (vars_of e ++ us)) ws r in
        record {
          after = subst (Covered us ps) (the_same _ ws o.1) (either us ps (vars_of e) us (λ v m. c v (Memᴰ.append_left _ m)) (before us ps));
          frees = c;
          bounds = nil us ps;
        }
    told (test c) a us ws r =
        let o = provided_some (among (vars_test c) us) (some us) ws r in
        record { after = subst (Covered us []) (the_same us ws o.1) (before us []); frees = known_ones us [] (vars_test c) o.0; bounds = nil us [] }
    told (all_of ns) a us ws r = told_all ns a us ws r
    told (any_of ns) a us ws r = let i = told_any ns a.1 us ws r in record { after = after_any ns a.0 a.1 us ws r; frees = i.0; bounds = i.1 }
    told (non n) a us ws r =
        let ps = (demands_in n vs).places in
        let o = provided_some (among (free n) us) (onward (known n us) (λ x. some us)) ws r in
        let k = onward_some (known n us) (λ x. some us) ws o.1 in
        let i = told n a us k.0 k.1 in
        record { after = subst (Covered us ps) (the_same us ws k.2) (before us ps); frees = i.frees; bounds = i.bounds }
    told (exists w n) a us ws r =
        let ps = (demands_in n vs).places in
        let o = provided_some (not (member w us)) (onward (known n us) (λ x. provided (member w x) (some (without w x)))) ws r in
        let k = onward_some (known n us) (λ x. provided (member w x) (some (without w x))) ws o.1 in
        let q = provided_some (member w k.0) (some (without w k.0)) ws k.2 in
        let i = told n a.1 us k.0 k.1 in
        let bound : In w ps = ⊎_elim (λ m. absurd (unknown w us o.0 m)) (λ p. p) (i.after w (member_of w k.0 q.0)) in
        record {
          after = subst (Covered us ps) (the_same _ ws q.1) (λ v m. i.after v (keep_of (λ x. not (eqb w x)) k.0 m).0);
          frees = λ v m. i.frees v (keep_of (λ x. not (eqb w x)) (free n) m).0;
          bounds = λ v m. ⊎_elim (λ e. inr (subst (λ (x : ℕ). In x ps) (sym e) bound)) (i.bounds v) (Memᴰ.cases_cons m);
        }

    told_all : (ns : Nodes) → SoundAll vs ns → (us ws : List ℕ) → known_all ns us ≡ some ws → Told us (demands_all ns vs).places (free_all ns)
        (binders_all ns) ws
    told_all end a us ws r = record { after = subst (Covered us []) (the_same us ws r) (before us []); frees = nil us []; bounds = nil us [] }
    told_all (more n ns) a us ws r =
        let ps = (demands_in n vs).places in
        let qs = (demands_all ns vs).places in
        let k = onward_some (known n us) (known_all ns) ws r in
        let i = told n a.0 us k.0 k.1 in
        let j = told_all ns a.1 k.0 ws k.2 in
        record {
          after = onto us k.0 ps qs ws i.after j.after;
          frees = either us (ps ++ qs) (free n) (free_all ns) (left us ps qs (free n) i.frees) (onto us k.0 ps qs (free_all ns) i.after j.frees);
          bounds = either us (ps ++ qs) (binders n) (binders_all ns) (left us ps qs (binders n) i.bounds)
              (onto us k.0 ps qs (binders_all ns) i.after j.bounds);
        }

    -- an any-of has a part: what is known after it is known after the first
    after_any : (ns : Nodes) → Some vs ns → SoundAll vs ns → (us ws : List ℕ) → known_any ns us ≡ some ws → Covered us (demands_all ns vs).places ws
    after_any end o a us ws r = absurd o
    after_any (more n ns) o a us ws r =
        let ps = (demands_in n vs).places in
        let qs = (demands_all ns vs).places in
        let k = onward_some (known n us) _ ws r in
        let l = onward_some (known_any ns us) _ ws k.2 in
        let i = told n a.0 us k.0 k.1 in
        subst (Covered us (ps ++ qs)) (the_same _ ws l.2) (λ v m. left us ps qs k.0 i.after v (keep_of (λ x. member x l.0) k.0 m).0)

    told_any : (ns : Nodes) → SoundAll vs ns → (us ws : List ℕ) → known_any ns us ≡ some ws → Covered us (demands_all ns vs).places (free_all ns)
        × Covered us (demands_all ns vs).places (binders_all ns)
    told_any end a us ws r = (nil us [], nil us [])
    told_any (more n ns) a us ws r =
        let ps = (demands_in n vs).places in
        let qs = (demands_all ns vs).places in
        let k = onward_some (known n us) _ ws r in
        let l = onward_some (known_any ns us) _ ws k.2 in
        let i = told n a.0 us k.0 k.1 in
        let j = told_any ns a.1 us l.0 l.1 in (
          either us (ps ++ qs) (free n) (free_all ns) (left us ps qs (free n) i.frees) (right us ps qs (free_all ns) j.0),
          either us (ps ++ qs) (binders n) (binders_all ns) (left us ps qs (binders n) i.bounds) (right us ps qs (binders_all ns) j.1),
        )

-- ---- the kind of a variable that has a place, and of one that has none

pub kind_none : (ps : List (ℕ × Expr)) (v : ℕ) → ((k : ℕ) → Memᴰ (k, var v) ps → ⊥) → kind_of ps v ≡ 0
kind_none [] v h = refl
kind_none (p ∷ ps) v h = go (is_var v p.1) refl (kind_none ps v (λ k m. h k (Memᴰ.tail m)))
  where
    go : (b : Bool) → is_var v p.1 ≡ b → kind_of ps v ≡ 0 → cond b p.0 (kind_of ps v) ≡ 0
    go true e ih = absurd (h p.0 (Memᴰ.head (ap (λ (x : Expr). (p.0, x)) (sym (is_var_of v p.1 (subst T (sym e) tt))))))
    go false e ih = ih

pub kind_some : (ps : List (ℕ × Expr)) (v k : ℕ) → ((p : ℕ × Expr) → Memᴰ p ps → 1 ≤ p.0) → Memᴰ (k, var v) ps → kind_of ps v ≡ 0 → ⊥
kind_some [] v k h m = absurd (Memᴰ.not-nil m)
kind_some (p ∷ ps) v k h m = go (is_var v p.1) refl (kind_some ps v k (λ q n. h q (Memᴰ.tail n)))
  where
    go : (b : Bool) → is_var v p.1 ≡ b → (Memᴰ (k, var v) ps → kind_of ps v ≡ 0 → ⊥) → cond b p.0 (kind_of ps v) ≡ 0 → ⊥
    go true e ih z = let l = h p (Memᴰ.head refl) in omega arith
    go false e ih z =
        ⊎_elim
        (λ q. let w : is_var v p.1 ≡ true = ap (λ (x : ℕ × Expr). is_var v x.1) (sym q) ∙ T_true (eqb v v) (eqb_refl v) in let o : ◌≡◌ {A = ℕ} 0 1 = cc in
        omega arith)
        (λ n. ih n z)
        (Memᴰ.cases_cons m)
