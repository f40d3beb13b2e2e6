-- An accepted policy: its constants and verbs stand where the reader's index says, at offsets that fit 32 bits.
use mathlib.Core.Path.{◌≡◌, refl, sym, ap, ap₂, subst, ◌∙◌}
use mathlib.Core.Logic.{⊎_elim}
use mathlib.Core.Bool.{Bool, true, false, ◌&&◌}
use mathlib.Core.List.Memᴰ
use mathlib.Core.List.{List, [], ◌∷◌, ◌++◌, Memᴰ}
use Prim.Native.Nat.{ℕ, zero, suc, ◌+◌, ◌-◌, ◌*◌, ◌≤◌, ◌<◌}
use native.Mathlib.Omega.{arith}
use lib.Dec.{eqb, ltb, nltb→le}
use lib.ListN.{length, get_or, take, length-map, length-append}
use borrow.Author.Tests.{eqb-true}
use Rattle.model.specs.Limits.{max_constants, max_verbs}
use Rattle.model.specs.Syntax.{Constant, Verb}
use Rattle.model.specs.Kinds.{no_constant}
use Rattle.model.specs.Values.{alike}
use Rattle.model.specs.Bytes.{byte_at, u16_at, bytes_at, choose, Reading, got, refused}
use Rattle.model.specs.Readings.{item_end, has_label, constant_read_at}
use Rattle.model.specs.Policies.{Item, contents, offsets, items_from, list_at, constant_item, verb_item, Accepted}
use Rattle.model.specs.Policies.{read_policy}
use Rattle.model.proofs.ReadFacts.{choose_yes, choose_no, and_then_got, accepted_lists}
use Rattle.wire.proofs.Reading.{choose_true, choose_false}
use Rattle.policy.specs.declared.Index.{Index}
use Rattle.std.specs.Prelude.{Err}
use Rattle.policy.specs.Index.{held, kind_table, index_of, handed_out, HandsOut}
use Rattle.policy.proofs.PolicyFacts.{accepted_by, index_got, refused_got}
use Rattle.names.proofs.FormFacts.{constant_two}
use Rattle.names.proofs.ItemFacts.{constant_right}
use Rattle.policy.proofs.TableFacts.{kind_is, held_front}
use Rattle.demands.specs.Lookups.{constant_offsets, verb_offsets, no_number, first_of, is_named, number_in}
use Rattle.lookup.specs.Named.{Near, Standing, named_at}
use Rattle.lookup.proofs.Laws.{first_same}

-- ---- the items of a list: what `f` gives stands at its offset, and an item has at most 256 bytes

module _ {A : Type 0} (f : List A → ℕ → Reading A) (P : ℕ → A → Type 0)
    (sound : (before : List A) (at : ℕ) (x : A) (e : ℕ) → f before at ≡ got x e → P at x × (at ≤ e) × (e ≤ at + 256)) where
  -- each has what is said of it, and stands at b at the latest
  abbrev Each : ℕ → List (Item A) → Type 0
  Each b is = (i : Item A) → Memᴰ i is → P i.at i.of × (i.at ≤ b)

  snoc : (is : List (Item A)) (i : Item A) (e : ℕ) → Each i.at is → P i.at i.of → i.at ≤ e → Each e (is ++ i ∷ [])
  snoc is i e h q l j m =
      ⊎_elim (λ k. let r = h j k in (r.0, omega (arith, r.1)))
      (λ k. subst (λ (i : Item A). P i.at i.of × (i.at ≤ e)) (sym (Memᴰ.eq_of_singleton k)) (q, l))
      (Memᴰ.append_cases is m)

  items_stand : (n : ℕ) (is : List (Item A)) (p : ℕ) (js : List (Item A)) (e : ℕ) → Each p is → items_from f n is p ≡ got js e
      → Each e js × (e ≤ p + 256 * n) × (length js ≡ length is + n)
  unfolding items_from
  items_stand zero is p js e h r =
      let q : is ≡ js = cc in
      let d : p ≡ e = cc in
      (subst (Each e) q (subst (λ (b : ℕ). Each b is) d h), omega (arith, d), omega (arith, ap length q))
  items_stand (suc n) is p js e h r =
      let g = and_then_got (f (contents is) p) (λ x e. items_from f n (is ++ record { at = p; of = x } ∷ []) e) js e r in
      let s = sound (contents is) p g.0 g.1 g.2 in
      let i : Item A = record { at = p; of = g.0 } in
      let t = items_stand n (is ++ i ∷ []) g.1 js e (snoc is i g.1 h s.0 s.1) g.3 in
      (t.0, omega (arith, t.1, s.2), omega (arith, t.2, length-append is (i ∷ [])))

  pub list_stands : (s : List ℕ) (lowest highest p : ℕ) (js : List (Item A)) (e : ℕ) → list_at s lowest highest f p ≡ got js e
      → Each e js × (e ≤ p + 2 + 256 * highest) × (length js ≤ highest)
  unfolding list_at
  list_stands s lowest highest p js e r =
      let a = choose_no _ _ 3 p js e r in
      let b = choose_no _ _ 3 p js e a.1 in
      let c = choose_no (ltb highest (u16_at s p)) _ 3 p js e b.1 in
      let h = nltb→le highest (u16_at s p) c.0 in
      let t = items_stand (u16_at s p) [] (p + 2) js e (λ i m. absurd (Memᴰ.not-nil m)) c.1 in
      (t.0, omega (arith, t.1, h), omega (arith, t.2, h))

-- by number
by_number : {A : Type 0} (Q : Item A → Type 0) (js : List (Item A)) → ((i : Item A) → Memᴰ i js → Q i) → (d : A) (k : ℕ) → k < length js
    → (i : Item A) × Q i × (get_or (offsets js) k 0 ≡ i.at) × (get_or (contents js) k d ≡ i.of)
by_number Q [] h d k l = absurd (omega arith)
by_number Q (i ∷ js) h d zero l = (i, h i (Memᴰ.head refl), refl, refl)
by_number Q (i ∷ js) h d (suc k) l = by_number Q js (λ j m. h j (Memᴰ.tail m)) d k (omega arith)

-- ---- the two readers

item_got : {A : Type 0} (form alike : Bool) (v x : A) (at f e : ℕ) → choose form (choose alike (refused 4 at) (got v f)) (refused 3 at) ≡ got x e → (x ≡ v)
    × (e ≡ f)
item_got form alike v x at f e h =
    let b = (choose_no alike _ 4 at x e (choose_yes form _ 3 at x e h).1).1 in
    let p : x ≡ v = cc in
    let q : e ≡ f = cc in
    (p, q)

module _ (s : List ℕ) (bytes : (i : ℕ) → byte_at s i < 256) where
  item_short : (at e : ℕ) → e ≡ item_end s at → (at ≤ e) × (e ≤ at + 256)
  unfolding item_end
  item_short at e d = (omega (arith, d), omega (arith, d, bytes at))

  -- a constant that is read: what stands at its offset, and its length is not 0
  abbrev ConstantAt : ℕ → Constant → Type 0
  ConstantAt at c = (c ≡ constant_read_at s at) × (1 ≤ byte_at s at)

  constant_sound : (before : List Constant) (at : ℕ) (c : Constant) (e : ℕ) → constant_item s before at ≡ got c e → ConstantAt at c × (at ≤ e) × (e ≤ at + 256)
  unfolding constant_item
  constant_sound before at c e h =
      let r = item_got _ _ _ c at _ e h in
      let t = constant_two s at (constant_right s before at c e h) in
      let l = item_short at e r.1 in
      ((r.0, omega (arith, t)), l.0, l.1)

  verb_sound : (before : List Verb) (at : ℕ) (v : Verb) (e : ℕ) → verb_item s before at ≡ got v e → Unit {0} × (at ≤ e) × (e ≤ at + 256)
  unfolding verb_item
  verb_sound before at v e h = let r = item_got _ _ _ v at _ e h in let l = item_short at e r.1 in (tt, l.0, l.1)

  -- ---- the whole policy

  record Stand (A : Accepted) : Type 0 where
    constants : (k : ℕ) → k < length A.constants → (i : Item Constant) × (ConstantAt i.at i.of × (i.at < 4294967296))
        × (get_or (offsets A.constants) k 0 ≡ i.at) × (get_or (contents A.constants) k no_constant ≡ i.of)
    verbs : (k : ℕ) → k < length A.verbs → get_or (offsets A.verbs) k 0 < 4294967296
    few_constants : length A.constants ≤ max_constants
    few_verbs : length A.verbs ≤ max_verbs

  accepted_stand : (A : Accepted) (e : ℕ) → read_policy s ≡ got A e → Stand A
  accepted_stand A e h =
      let L = accepted_lists s A e h in
      let C = list_stands (constant_item s) ConstantAt constant_sound s 1 max_constants 5 A.constants L.verbs_at L.constants in
      let verbs = list_stands (verb_item s) (λ (at : ℕ) (v : Verb). Unit {0}) verb_sound s 0 max_verbs L.verbs_at A.verbs L.assertions_at L.verbs in
      record {
        constants = by_number (λ (i : Item Constant). ConstantAt i.at i.of × (i.at < 4294967296)) A.constants
            (λ i m. let q = C.0 i m in (q.0, omega (arith, q.1, C.1))) no_constant;
        verbs = λ k l.
            let w = by_number (λ (i : Item Verb). i.at < 4294967296) A.verbs (λ i m. let q = verbs.0 i m in omega (arith, q.1, verbs.1, C.1))
            (record { kinds = []; label = [] }) k l in
            omega (arith, w.1, w.2);
        few_constants = C.2;
        few_verbs = verbs.2;
      }

-- ---- as the code takes it

-- the first numbers of a list that the reader handed out, and the model's offsets
pub record Laid (ats : List ℕ) (count most : ℕ) (model : List ℕ) : Type 0 where
  pub near : Near (take count ats)
  pub few : count ≤ most
  pub front : take count ats ≡ model

front_of_law : {A : Type 0} (n : ℕ) (js : List (Item A)) → take (length js) (held n (offsets js)) ≡ offsets js
front_of_law n js = ap (λ (k : ℕ). take k (held n (offsets js))) (sym (length-map js (λ i. i.at))) ∙ held_front n (offsets js)

laid_of : {A : Type 0} (n : ℕ) (js : List (Item A)) → length js ≤ n → ((k : ℕ) → k < length js → get_or (offsets js) k 0 < 4294967296)
    → Laid (held n (offsets js)) (length js) n (offsets js)
laid_of n js few small = record {
  near = record { small = rw front_of_law (λ k h. small k (rw length-map at h)) };
  few = few;
  front = front_of_law n js;
}

-- a policy that is refused has none
pub none_refused : (s : List ℕ) (n p : ℕ) → Err (n, p) ≡ handed_out (read_policy s)
    → (constant_offsets (read_policy s) ≡ []) × (verb_offsets (read_policy s) ≡ [])
    × ((kind : ℕ) (label : List ℕ) → number_in (read_policy s) kind label ≡ no_number)
unfolding constant_offsets verb_offsets number_in
none_refused s n p i =
    let e = refused_got (read_policy s) n p i in
    (ap constant_offsets e, ap verb_offsets e, λ kind label. ap (λ (r : Reading Accepted). number_in r kind label) e)

-- kinds without labels
pub no_number_law : (s : List ℕ) (kind : ℕ) (label : List ℕ) → has_label kind ≡ false → no_number ≡ number_in (read_policy s) kind label
unfolding number_in
no_number_law s kind label k = go (read_policy s)
  where
    go : (r : Reading Accepted) → no_number ≡ number_in r kind label
    go (got A e) = sym (choose_false _ no_number k)
    go (refused n p) = refl

-- x is what the reader handed out
module _ (s : List ℕ) (x : Index) (h : HandsOut s x) (bytes : (i : ℕ) → byte_at s i < 256) where
  read_as : (A : Accepted) × (e : ℕ) × (read_policy s ≡ got A e)
  read_as = accepted_by (read_policy s) x h

  is : x ≡ index_of read_as.0
  is = index_got (read_policy s) x h read_as.0 read_as.1 read_as.2

  S : Stand s bytes read_as.0
  S = accepted_stand s bytes read_as.0 read_as.1 read_as.2

  pub constants_laid : Laid x.constant_at x.constants max_constants (constant_offsets (read_policy s))
  unfolding index_of constant_offsets
  constants_laid =
      rw (is, read_as.2) (laid_of max_constants read_as.0.constants S.few_constants (λ k q. let c = S.constants k q in omega (arith, c.2, c.1.1)))

  pub verbs_laid : Laid x.verb_at x.verbs max_verbs (verb_offsets (read_policy s))
  unfolding index_of verb_offsets
  verbs_laid = rw (is, read_as.2) (laid_of max_verbs read_as.0.verbs S.few_verbs S.verbs)

  -- an item stands at each offset, whose length is not 0
  pub constants_stand : Standing s (take x.constants x.constant_at)
  unfolding constant_offsets
  constants_stand =
      let L = constants_laid in
      let offsets_are : take x.constants x.constant_at ≡ offsets read_as.0.constants = L.front ∙ ap constant_offsets read_as.2 in
      record {
        near = L.near;
        long = rw offsets_are (λ k q.
            let c = S.constants k (rw length-map at q) in
            subst (λ (p : ℕ). 1 ≤ byte_at s p) (sym c.2) c.1.0.1);
      }

  -- the number that the search by offsets finds is the model's
  pub number_is : (kind : ℕ) (label : List ℕ) → has_label kind ≡ true
      → first_of (λ j. named_at s x.kinds kind label j (get_or (take x.constants x.constant_at) j 0)) 0 (length (take x.constants x.constant_at))
      ≡ number_in (read_policy s) kind label
  unfolding index_of number_in constant_read_at first_of constant_offsets
  number_is kind label k =
      let A = read_as.0 in
      let L = constants_laid in
      let front : take x.constants x.constant_at ≡ offsets A.constants = L.front ∙ ap constant_offsets read_as.2 in
      let kinds : x.kinds ≡ kind_table (contents A.constants) = ap (λ (y : Index). y.kinds) is in
      ap₂ (λ (ks o : List ℕ). first_of (λ j. named_at s ks kind label j (get_or o j 0)) 0 (length o)) kinds front
      ∙ ap (first_of (λ j. named_at s (kind_table (contents A.constants)) kind label j (get_or (offsets A.constants) j 0)) 0)
      (length-map A.constants (λ i. i.at))
      ∙ first_same _ _ 0 (length A.constants) test
      ∙ sym (ap (λ (r : Reading Accepted). number_in r kind label) read_as.2 ∙ choose_true _ no_number k)
    where
      same : (kind' : ℕ) (l l' : List ℕ) → (kind' ≡ kind → l ≡ l') → (eqb kind' kind && alike l label) ≡ (eqb kind' kind && alike l' label)
      same kind' l l' f = cases (eqb kind' kind) refl
        where
          cases : (b : Bool) → eqb kind' kind ≡ b → (b && alike l label) ≡ (b && alike l' label)
          cases true t = ap (λ (m : List ℕ). alike m label) (f (eqb-true kind' kind t))
          cases false t = refl

      test : (j : ℕ) → 0 ≤ j → j < 0 + length read_as.0.constants
          → named_at s (kind_table (contents read_as.0.constants)) kind label j (get_or (offsets read_as.0.constants) j 0) ≡ is_named kind label
          (get_or (contents read_as.0.constants) j no_constant)
      test j a l =
          let c = S.constants j (omega arith) in
          let is : get_or (contents read_as.0.constants) j no_constant ≡ constant_read_at s c.0.at = c.3 ∙ c.1.0.0 in
          ap₂ (λ (n p : ℕ). eqb n kind && alike (bytes_at (byte_at s p - 1) s (p + 2)) label)
          (kind_is (contents read_as.0.constants) j ∙ ap (λ (c : Constant). c.kind) is) c.2
          ∙ same (byte_at s (c.0.at + 1)) _ _ (λ e. sym (choose_true _ [] (ap has_label e ∙ k)))
          ∙ ap (is_named kind label) (sym is)
