-- Each step of the cells is exact: after it they stand for those choices of kinds that they stood for before and that meet what was asked.
use mathlib.Core.Path.{◌≡◌, refl, sym, ap, ◌∙◌}
use mathlib.Core.Bool.{Bool, true, false, false≢true}
use mathlib.Core.List.{List, [], ◌∷◌}
use Prim.Native.Nat.{ℕ, ◌≤◌, ◌<◌}
use native.Mathlib.Omega.{arith}
use Rattle.std.proofs.Common.{Option, Some, None, option_and_then, MatchOption, if◌then◌else◌}
use Rattle.std.proofs.lemmas.List.{get_or-map}
use Rattle.std.proofs.lemmas.Option.{slice_get-get_or, slice_get_past}
use lib.ListN.{length, get_or, get_or-eq_default, length-map}
use borrow.Author.Tests.{eqb-true, eq-eqb}
use Rattle.limits.specs.declared.Kind.{Kind}
use Rattle.limits.specs.declared.Kind.TheVariants.{Principal, Thing, Day, Quantity}
use Rattle.limits.specs.Kinds.{number_of}
use Rattle.kinds.specs.declared.Term.{Term}
use Rattle.kinds.specs.declared.Term.TheVariants.{Variable, Any}
use Rattle.kinds.specs.declared.Cell.{Cell}
use Rattle.kinds.specs.declared.Cell.TheVariants.{Leads, Settled, Counted}
use Rattle.kinds.specs.Cells.{Cells, Ask, same, number, same_cell, renamed, relabel, cell_of, is_counted, joined, merged, counted, alike, numbered, asked, feed}
use Rattle.kinds.specs.Choices.{Choice, kind_in, Meets, MeetsAll}
use Rattle.model.proofs.Tests.{by_lt}

-- ---- two cells are one, or not

pub one_kind : (k l : Kind) → number_of k ≡ number_of l → k ≡ l
one_kind Principal Principal e = refl
one_kind Thing Thing e = refl
one_kind Day Day e = refl
one_kind Quantity Quantity e = refl
one_kind k l e = absurd (omega arith)

same_true : (a b : Cell) → same_cell a b ≡ true → a ≡ b
same_true (Leads v) (Leads w) e = ap Leads (eqb-true v w e)
same_true (Settled k) (Settled l) e = ap Settled (one_kind k l (eqb-true (number_of k) (number_of l) e))
same_true (Counted v) (Counted w) e = ap Counted (eqb-true v w e)
same_true _ _ e = absurd (false≢true e)

same_itself : (a : Cell) → same_cell a a ≡ true
same_itself (Leads v) = eq-eqb v v refl
same_itself (Settled k) = eq-eqb (number_of k) (number_of k) refl
same_itself (Counted v) = eq-eqb v v refl

differs : (c a : Cell) → (c ≡ a → ⊥) → same_cell c a ≡ false
differs c a n = go (same_cell c a) refl
  where
    go : (q : Bool) → same_cell c a ≡ q → q ≡ false
    go true e = absurd (n (same_true c a e))
    go false e = refl

by_cell : {P : Type 0} (c a : Cell) → (c ≡ a → P) → (same_cell c a ≡ false → (c ≡ a → ⊥) → P) → P
by_cell {P} c a f g = go (same_cell c a) refl
  where
    go : (q : Bool) → same_cell c a ≡ q → P
    go true e = f (same_true c a e)
    go false e = g e (λ h. false≢true (sym e ∙ ap (λ (x : Cell). same_cell x a) h ∙ same_itself a))

-- ---- the cell of each variable

abbrev pub cell : Cells → ℕ → Cell
cell t v = get_or t v (Leads v)

relabel_at : (t : Cells) (a b : Cell) (v : ℕ) → v < length t → cell (relabel t a b) v ≡ renamed a b (cell t v)
relabel_at t a b v l = get_or-map (renamed a b) t v (Leads v) (Leads v) l

-- ---- what cells mean

abbrev pub cell_kind : List ℕ → Cell → ℕ
cell_kind κ (Leads v) = get_or κ v 0
cell_kind κ (Settled k) = number_of k
cell_kind κ (Counted v) = get_or κ v 0

-- a class is led by one of the eight, which is in it
abbrev pub Proper : Cells → Cell → Type 0
Proper t (Leads v) = (v < 8) × (cell t v ≡ Leads v)
Proper t (Settled k) = Unit {0}
Proper t (Counted v) = (v < 8) × (cell t v ≡ Counted v)

abbrev pub Good : Cells → Type 0
Good t = (length t ≡ 8) × ((v : ℕ) → v < 8 → Proper t (cell t v))

abbrev pub Solves : List ℕ → Cells → Type 0
Solves κ t = (v : ℕ) → v < 8 → (get_or κ v 0 ≡ cell_kind κ (cell t v)) × (is_counted (cell t v) ≡ true → 3 ≤ get_or κ v 0)

pub counted_kind : (k : Kind) → is_counted (Settled k) ≡ true → 3 ≤ number_of k
counted_kind Principal e = absurd (false≢true e)
counted_kind Thing e = absurd (false≢true e)
counted_kind Day e = omega arith
counted_kind Quantity e = omega arith

other_kind : (k : Kind) → is_counted (Settled k) ≡ false → number_of k ≤ 2
other_kind Principal e = omega arith
other_kind Thing e = omega arith
other_kind Day e = absurd (false≢true (sym e))
other_kind Quantity e = absurd (false≢true (sym e))

low : (κ : List ℕ) (t : Cells) (c : Cell) → Proper t c → Solves κ t → is_counted c ≡ true → 3 ≤ cell_kind κ c
low κ t (Leads v) P s e = absurd (false≢true e)
low κ t (Settled k) P s e = counted_kind k e
low κ t (Counted v) P s e = (s v P.0).1 (rw P.1 e)

-- ---- class a becomes b

-- what a class may become: one of days or quantities stays one
abbrev pub Gives : Cell → Cell → Type 0
Gives (Leads v) b = Unit {0}
Gives (Settled k) b = ⊥
Gives (Counted v) b = is_counted b ≡ true

gives_counted : (a b : Cell) → Gives a b → is_counted a ≡ true → is_counted b ≡ true
gives_counted (Leads v) b g e = absurd (false≢true e)
gives_counted (Settled k) b g e = absurd g
gives_counted (Counted v) b g e = g

module _ (t : Cells) (G : Good t) (a b : Cell) (ne : a ≡ b → ⊥) (A : Proper t a) (gives : Gives a b) where
  hit : (v : ℕ) → v < 8 → cell t v ≡ a → cell (relabel t a b) v ≡ b
  hit v l e = let g : length t ≡ 8 = G.0 in relabel_at t a b v (omega arith) ∙ rw (e, same_itself a) refl

  miss : (v : ℕ) → v < 8 → same_cell (cell t v) a ≡ false → cell (relabel t a b) v ≡ cell t v
  miss v l h = let g : length t ≡ 8 = G.0 in relabel_at t a b v (omega arith) ∙ rw h refl

  stays : (c : Cell) → same_cell c a ≡ false → Proper t c → Proper (relabel t a b) c
  stays (Leads v) n P = (P.0, miss v P.0 (rw P.1 n) ∙ P.1)
  stays (Settled k) n P = tt
  stays (Counted v) n P = (P.0, miss v P.0 (rw P.1 n) ∙ P.1)

  good_after : Proper (relabel t a b) b → Good (relabel t a b)
  good_after B = (
    length-map t (renamed a b) ∙ G.0,
    λ v l. by_cell (cell t v) a
        (λ e. rw (hit v l e) B)
        (λ h n. rw (miss v l h) (stays (cell t v) h (G.1 v l))),
  )

  solves_after : (κ : List ℕ) → Solves κ t → cell_kind κ a ≡ cell_kind κ b → (is_counted b ≡ true → 3 ≤ cell_kind κ b) → Solves κ (relabel t a b)
  solves_after κ s q lo v l =
      by_cell (cell t v) a
      (λ e. let k : get_or κ v 0 ≡ cell_kind κ b = (s v l).0 ∙ ap (cell_kind κ) e ∙ q in rw (hit v l e) (k, λ h. rw k (lo h)))
      (λ h n. rw (miss v l h) (s v l))

  -- the leader's kind
  led : (κ : List ℕ) (v : ℕ) → v < 8 → cell t v ≡ a → Solves κ (relabel t a b) → get_or κ v 0 ≡ cell_kind κ b
  led κ v l e s = (s v l).0 ∙ ap (cell_kind κ) (hit v l e)

  same_after : (κ : List ℕ) → Solves κ (relabel t a b) → (c : Cell) → c ≡ a → Proper t c → Gives c b → cell_kind κ c ≡ cell_kind κ b
  same_after κ s (Leads v) e P g = led κ v P.0 (P.1 ∙ e) s
  same_after κ s (Settled k) e P g = absurd g
  same_after κ s (Counted v) e P g = led κ v P.0 (P.1 ∙ e) s

  solves_before : (κ : List ℕ) → Solves κ (relabel t a b) → Solves κ t
  solves_before κ s v l =
      by_cell (cell t v) a
      (λ e.
      let same = same_after κ s a refl A gives in
      (led κ v l e s ∙ sym same ∙ ap (cell_kind κ) (sym e), λ h. (s v l).1 (rw (hit v l e) (gives_counted a b gives (rw e at h)))))
      (λ h n. let m = miss v l h in ((s v l).0 ∙ ap (cell_kind κ) m, λ i. (s v l).1 (rw m i)))

-- ---- each step is exact: its cells mean what the cells before meant, and what was asked

pub record Becomes (t u : Cells) (C : List ℕ → Type 0) : Type 0 where
  pub sound : Good u
  pub back : (κ : List ℕ) → Choice κ → Solves κ u → Solves κ t × C κ
  pub on : (κ : List ℕ) → Choice κ → Solves κ t → C κ → Solves κ u

abbrev pub Never : Cells → (List ℕ → Type 0) → Type 0
Never t C = (κ : List ℕ) → Choice κ → Solves κ t → C κ → ⊥

abbrev pub Exact : Cells → Option Cells → (List ℕ → Type 0) → Type 0
Exact t f C = MatchOption f (Never t C) (λ u. Becomes t u C)

kept : (t : Cells) (C : List ℕ → Type 0) → Good t → ((κ : List ℕ) → Choice κ → Solves κ t → C κ) → Becomes t t C
kept t C G c = record {
  sound = G;
  back = λ κ K s. (s, c κ K s);
  on = λ κ K s q. s;
}

abbrev OneKind : Cell → Cell → List ℕ → Type 0
OneKind a b κ = cell_kind κ a ≡ cell_kind κ b

becomes : (t : Cells) → Good t → (a b : Cell) → (a ≡ b → ⊥) → Proper t a → Gives a b → Proper t b → Becomes t (relabel t a b) (OneKind a b)
becomes t G a b ne A g B = record {
  sound = good_after t G a b ne A g (stays t G a b ne A g b (differs b a (λ q. ne (sym q))) B);
  back = λ κ K s. (solves_before t G a b ne A g κ s, same_after t G a b ne A g κ s a refl A g);
  on = λ κ K s q. solves_after t G a b ne A g κ s q (low κ t b B s);
}

-- the same condition, said otherwise
said : (t : Cells) (f : Option Cells) (C D : List ℕ → Type 0) → ((κ : List ℕ) → Choice κ → Solves κ t → C κ → D κ)
    → ((κ : List ℕ) → Choice κ → Solves κ t → D κ → C κ) → Exact t f C → Exact t f D
said t None C D to of X = λ κ K s d. X κ K s (of κ K s d)
said t (Some u) C D to of X = record {
  sound = X.sound;
  back = λ κ K s. let r = X.back κ K s in (r.0, to κ K r.0 r.1);
  on = λ κ K s d. X.on κ K s (of κ K s d);
}

turned : (t : Cells) (f : Option Cells) (a b : Cell) → Exact t f (OneKind a b) → Exact t f (OneKind b a)
turned t f a b X = said t f (OneKind a b) (OneKind b a) (λ κ K s q. sym q) (λ κ K s q. sym q) X

-- a kind beside a class of days or quantities
beside : (t : Cells) → Good t → (v : ℕ) (k : Kind) → Proper t (Counted v)
    → Exact t (if is_counted (Settled k) then Some (relabel t (Counted v) (Settled k)) else None) (OneKind (Counted v) (Settled k))
beside t G v k P = go (is_counted (Settled k)) refl
  where
    apart : (e : Counted v ≡ Settled k) → ⊥
    apart e = false≢true (ap (same_cell (Settled k)) e ∙ same_itself (Settled k))

    go : (q : Bool) → is_counted (Settled k) ≡ q
        → Exact t (if q then Some (relabel t (Counted v) (Settled k)) else None) (OneKind (Counted v) (Settled k))
    go true e = becomes t G (Counted v) (Settled k) apart P e tt
    go false e = λ κ K s q. let w : 3 ≤ get_or κ v 0 = low κ t (Counted v) P s refl in let h = other_kind k e in omega arith

joined_exact : (t : Cells) → Good t → (a b : Cell) → (a ≡ b → ⊥) → Proper t a → Proper t b → Exact t (joined t a b) (OneKind a b)
joined_exact t G (Leads v) b ne A B = becomes t G (Leads v) b ne A tt B
joined_exact t G (Settled k) (Leads v) ne A B =
    turned t (Some (relabel t (Leads v) (Settled k))) (Leads v) (Settled k) (becomes t G (Leads v) (Settled k) (λ q. ne (sym q)) B tt A)
joined_exact t G (Settled k) (Settled l) ne A B = λ κ K s q. ne (ap Settled (one_kind k l q))
joined_exact t G (Settled k) (Counted v) ne A B = turned t _ (Counted v) (Settled k) (beside t G v k B)
joined_exact t G (Counted v) (Leads w) ne A B =
    turned t (Some (relabel t (Leads w) (Counted v))) (Leads w) (Counted v) (becomes t G (Leads w) (Counted v) (λ q. ne (sym q)) B tt A)
joined_exact t G (Counted v) (Settled k) ne A B = beside t G v k A
joined_exact t G (Counted v) (Counted w) ne A B = becomes t G (Counted v) (Counted w) ne A refl B

merged_exact : (t : Cells) → Good t → (a b : Cell) → Proper t a → Proper t b → Exact t (merged t a b) (OneKind a b)
merged_exact t G a b A B =
    by_cell a b
    (λ e. rw (e, same_itself b) (kept t (OneKind b b) G (λ κ K s. refl)))
    (λ h n. rw h (joined_exact t G a b n A B))

-- ---- what is asked

-- a term has a cell of its kind, or it has no kind
abbrev Stands : Cells → Term → Option Cell → Type 0
Stands t x o =
    MatchOption o ((κ : List ℕ) → Choice κ → kind_in κ (Some x) ≡ 0)
    (λ c. Proper t c × ((κ : List ℕ) → Choice κ → Solves κ t → (kind_in κ (Some x) ≡ cell_kind κ c) × (1 ≤ kind_in κ (Some x))))

pub number_range : (k : Kind) → (1 ≤ number_of k) × (number_of k ≤ 4)
number_range Principal = (omega arith, omega arith)
number_range Thing = (omega arith, omega arith)
number_range Day = (omega arith, omega arith)
number_range Quantity = (omega arith, omega arith)

term_cell : (t : Cells) → Good t → (x : Term) → Stands t x (cell_of t x)
term_cell t G (Variable v) =
    let g : length t ≡ 8 = G.0 in
    by_lt v 8
    (λ l. rw (slice_get-get_or t v (Leads v) (omega arith)) (G.1 v l, λ κ K s. ((s v l).0, (K.1 v l).0)))
    (λ l. rw (slice_get_past t v (omega arith)) (λ κ K. let k : length κ ≡ 8 = K.0 in get_or-eq_default κ 0 (omega arith)))
term_cell t G (Any k) = (tt, λ κ K s. (refl, (number_range k).0))

alike_exact : (t : Cells) → Good t → (l r : Term) → Exact t (alike t l r) (λ κ. Meets κ (same (Some l) (Some r)))
alike_exact t G l r = go (cell_of t l) (cell_of t r) (term_cell t G l) (term_cell t G r)
  where
    go : (o p : Option Cell) → Stands t l o → Stands t r p
        → Exact t (option_and_then (λ a. option_and_then (merged t a) p) o) (λ κ. Meets κ (same (Some l) (Some r)))
    go None p L R = λ κ K s q. let h = q.0 in let e = L κ K in omega arith
    go (Some a) None L R = λ κ K s q. let h = q.0 in let d = q.1 in let e = R κ K in omega arith
    go (Some a) (Some b) L R = said t (merged t a b) (OneKind a b) (λ κ. Meets κ (same (Some l) (Some r)))
        (λ κ K s q. let x = L.1 κ K s in (x.1, x.0 ∙ q ∙ sym (R.1 κ K s).0))
        (λ κ K s q. sym (L.1 κ K s).0 ∙ q.1 ∙ (R.1 κ K s).0)
        (merged_exact t G a b L.0 R.0)

counted_exact : (t : Cells) → Good t → (a : Cell) → Proper t a → Exact t (counted t a) (λ κ. 3 ≤ cell_kind κ a)
counted_exact t G (Leads v) A =
    let ne : Leads v ≡ Counted v → ⊥ = λ e. false≢true (ap is_counted e) in
    let w : cell (relabel t (Leads v) (Counted v)) v ≡ Counted v = hit t G (Leads v) (Counted v) ne A tt v A.0 A.1 in
    record {
      sound = good_after t G (Leads v) (Counted v) ne A tt (A.0, w);
      back = λ κ K s. (solves_before t G (Leads v) (Counted v) ne A tt κ s, (s v A.0).1 (rw w refl));
      on = λ κ K s q. solves_after t G (Leads v) (Counted v) ne A tt κ s refl (λ h. q);
    }
counted_exact t G (Settled k) A = go (is_counted (Settled k)) refl
  where
    go : (q : Bool) → is_counted (Settled k) ≡ q → Exact t (if q then Some t else None) (λ κ. 3 ≤ number_of k)
    go true e = kept t (λ κ. 3 ≤ number_of k) G (λ κ K s. counted_kind k e)
    go false e = λ κ K s q. let h = other_kind k e in omega arith
counted_exact t G (Counted v) A = kept t (λ κ. 3 ≤ get_or κ v 0) G (λ κ K s. low κ t (Counted v) A s refl)

numbered_exact : (t : Cells) → Good t → (l : Term) → Exact t (numbered t l) (λ κ. Meets κ (number (Some l)))
numbered_exact t G l = go (cell_of t l) (term_cell t G l)
  where
    go : (o : Option Cell) → Stands t l o → Exact t (option_and_then (counted t) o) (λ κ. Meets κ (number (Some l)))
    go None L = λ κ K s q. let e = L κ K in omega arith
    go (Some a) L = said t (counted t a) (λ κ. 3 ≤ cell_kind κ a) (λ κ. Meets κ (number (Some l)))
        (λ κ K s q. rw (L.1 κ K s).0 q)
        (λ κ K s q. rw (L.1 κ K s).0 at q)
        (counted_exact t G a L.0)

asked_exact : (a : Ask) (t : Cells) → Good t → Exact t (asked a t) (λ κ. Meets κ a)
unfolding asked
asked_exact (same (Some l) (Some r)) t G = alike_exact t G l r
asked_exact (same (Some l) None) t G = λ κ K s q. let h = q.0 in let e = q.1 in omega arith
asked_exact (same None r) t G = λ κ K s q. let h = q.0 in omega arith
asked_exact (number (Some l)) t G = numbered_exact t G l
asked_exact (number None) t G = λ κ K s q. omega arith

-- ---- all that is asked

both_of : (t : Cells) (f : Option Cells) (g : Cells → Option Cells) (C D : List ℕ → Type 0) → Exact t f C
    → ((u : Cells) → Good u → Exact u (g u) D) → Exact t (option_and_then g f) (λ κ. C κ × D κ)
both_of t None g C D X Y = λ κ K s q. X κ K s q.0
both_of t (Some u) g C D X Y = after (g u) (Y u X.sound)
  where
    after : (f : Option Cells) → Exact u f D → Exact t f (λ κ. C κ × D κ)
    after None Z = λ κ K s q. Z κ K (X.on κ K s q.0) q.1
    after (Some w) Z = record {
      sound = Z.sound;
      back = λ κ K s. let r = Z.back κ K s in let p = X.back κ K r.0 in (p.0, (p.1, r.1));
      on = λ κ K s q. Z.on κ K (X.on κ K s q.0) q.1;
    }

pub feed_exact : (qs : List Ask) (t : Cells) → Good t → Exact t (feed qs t) (λ κ. MeetsAll κ qs)
unfolding feed
feed_exact [] t G = kept t (λ κ. Unit {0}) G (λ κ K s. tt)
feed_exact (a ∷ qs) t G = both_of t (asked a t) (feed qs) (λ κ. Meets κ a) (λ κ. MeetsAll κ qs) (asked_exact a t G) (λ u H. feed_exact qs u H)
