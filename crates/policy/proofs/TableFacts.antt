-- The two tables say what the model's lists of constants and verbs say.
use mathlib.Core.Path.{◌≡◌, refl, sym, ◌∙◌, ap, ap₂, subst}
use mathlib.Core.Bool.{Bool, true, false}
use mathlib.Core.Logic.{⊎_elim}
use mathlib.Core.List.Memᴰ
use mathlib.Core.List.{List, [], ◌∷◌, ◌++◌, map, Memᴰ}
use Prim.Native.Nat.{ℕ, zero, suc, ◌+◌, ◌-◌, ◌*◌, ◌≤◌, ◌<◌}
use native.Mathlib.Omega.{arith}
use native.Mathlib.Decide.{dec_lt}
use lib.Dec.{eqb, leb, leb→le, eqb→eq}
use lib.ListN.{length, get_or, replicate, length-map, length-append, get_or-append, get_or-eq_default, get_or-map}
use lib.Seq.{get_or-append-add, take_at}
use borrow.Author.Tests.{leb-true, eqb-true}
use Rattle.wire.proofs.Reading.{both_first, both_second, choose_false}
use Rattle.model.specs.Limits.{principal}
use Rattle.model.specs.Lists.{each, pad}
use Rattle.model.specs.Syntax.{Constant, Verb}
use Rattle.model.specs.Kinds.{no_constant, kind_at, param_kinds}
use Rattle.model.specs.Bytes.{byte_at, u32_at, bytes_at, choose}
use Rattle.model.specs.Readings.{item_end, ends_by, has_label, constant_read_at, verb_at, arity_of}
use Rattle.model.specs.Forms.{is_kind, item_there, number_form, value_form, constant_form, signature_form, verb_form}
use Rattle.model.specs.Policies.{contents}
use Rattle.model.proofs.ListFacts.{and_of, or_of, all_of_law}
use Rattle.phrases.specs.Tables.{Tables}
use Rattle.slices.specs.Items.{starts_at, items_at, constants_at, verbs_at}
use Rattle.policy.specs.Index.{held, kind_table, row_of, rows_of, verb_table, kind_of, row_at, kinds_at, signatures_at}
use Rattle.model.proofs.ByteFacts.{zeros, length_pad, bytes_length}
use Rattle.model.proofs.Tests.{true_T}
use lib.ListN.{take, length-append}

-- ---- a table read past its numbers gives 0

over_zeros : (l : List ℕ) (n i : ℕ) → get_or (l ++ replicate n 0) i 0 ≡ get_or l i 0
over_zeros [] n i = zeros n i
over_zeros (x ∷ l) n zero = refl
over_zeros (x ∷ l) n (suc i) = over_zeros l n i

pub held_at : (n : ℕ) (l : List ℕ) (i : ℕ) → get_or (held n l) i 0 ≡ get_or l i 0
unfolding held
held_at n l i = over_zeros l (n - length l) i

pub held_front : (n : ℕ) (l : List ℕ) → take (length l) (held n l) ≡ l
unfolding held
held_front n l = take_at l (replicate (n - length l) 0) (length l) refl

pub held_long : (n : ℕ) (l : List ℕ) → length l ≤ length (held n l)
unfolding held
held_long n l = omega (arith, length-append l (replicate (n - length l) 0))

pad_at : (n : ℕ) (l : List ℕ) (i : ℕ) → get_or (pad n l) i 0 ≡ get_or l i 0
pad_at zero l i = refl
pad_at (suc n) [] zero = refl
pad_at (suc n) [] (suc i) = pad_at n [] i
pad_at (suc n) (x ∷ l) zero = refl
pad_at (suc n) (x ∷ l) (suc i) = pad_at n l i

-- ---- the kind of each constant

kinds_map : (s : List ℕ) (n p : ℕ) → map (kind_of s) (starts_at (item_end s) n p) ≡ map (λ (c : Constant). c.kind) (contents (constants_at s n p))
unfolding starts_at items_at constant_read_at kind_of
kinds_map s zero p = refl
kinds_map s (suc n) p = ap (λ (l : List ℕ). byte_at s (p + 1) ∷ l) (kinds_map s n (item_end s p))

pub kinds_are_law : (s : List ℕ) (n p : ℕ) → kinds_at s n p ≡ kind_table (contents (constants_at s n p))
unfolding kinds_at kind_table
kinds_are_law s n p = ap (held 255) (kinds_map s n p)

pub kind_is : (cs : List Constant) (c : ℕ) → byte_at (kind_table cs) c ≡ kind_at cs c
unfolding kind_table
kind_is cs c = held_at 255 _ c ∙ get_or-map (λ (c : Constant). c.kind) cs c no_constant

-- ---- the rows of verbs

row_is : (s : List ℕ) (at a : ℕ) → a ≤ 3 →
    choose (eqb a 0) (1 ∷ 0 ∷ 0 ∷ 0 ∷ [])
    (choose (eqb a 1) (2 ∷ byte_at s (at + 2) ∷ 0 ∷ 0 ∷ [])
    (choose (eqb a 2) (3 ∷ byte_at s (at + 2) ∷ byte_at s (at + 3) ∷ 0 ∷ [])
    (4 ∷ byte_at s (at + 2) ∷ byte_at s (at + 3) ∷ byte_at s (at + 4) ∷ []))) ≡ row_of (bytes_at a s (at + 2))
unfolding choose bytes_at
row_is s at zero h = refl
row_is s at (suc zero) h = refl
row_is s at (suc (suc zero)) h = let e : at + 3 ≡ at + 2 + 1 = omega arith in rw e
row_is s at (suc (suc (suc zero))) h = let e : at + 3 ≡ at + 2 + 1 = omega arith in let d : at + 4 ≡ at + 2 + 1 + 1 = omega arith in rw (e, d)
row_is s at (suc (suc (suc (suc a)))) h = absurd (omega arith)

-- each verb has at most three parameters
rows_map : (s : List ℕ) (n p : ℕ) → ((j : ℕ) → j < n → byte_at s (ends_by (item_end s) j p + 1) ≤ 3)
    → each (starts_at (item_end s) n p) (row_at s) ≡ each (map (λ (v : Verb). v.kinds) (contents (verbs_at s n p))) row_of
unfolding starts_at items_at verb_at row_at ends_by
rows_map s zero p h = refl
rows_map s (suc n) p h =
    ap₂ (λ (x y : List ℕ). x ++ y) (row_is s p (byte_at s (p + 1)) (h 0 (omega arith))) (rows_map s n (item_end s p) (λ j l. h (suc j) (omega arith)))

pub rows_are : (s : List ℕ) (n p : ℕ) → ((j : ℕ) → j < n → byte_at s (ends_by (item_end s) j p + 1) ≤ 3)
    → signatures_at s n p ≡ verb_table (contents (verbs_at s n p))
unfolding signatures_at verb_table rows_of
rows_are s n p h = ap (λ (l : List ℕ). held 260 (2 ∷ 1 ∷ 0 ∷ 0 ∷ l)) (rows_map s n p h)

-- the byte at a place of a row
abbrev Short : List (List ℕ) → Type 0
Short rows = (r : List ℕ) → Memᴰ r rows → length r ≤ 3

row_length : (r : List ℕ) → length r ≤ 3 → length (row_of r) ≡ 4
row_length r h = length_pad 4 (suc (length r) ∷ r) (omega arith)

in_row : (rows : List (List ℕ)) → Short rows → (v j : ℕ) → v < length rows → j < 4 → get_or (each rows row_of) (4 * v + j) 0 ≡ get_or
    (row_of (get_or rows v [])) j 0
in_row [] h v j l k = absurd (omega arith)
in_row (r ∷ rows) h zero j l k =
    let e : 0 + j ≡ j = omega arith in
    let w : j < length (row_of r) = rw (row_length r (h r (Memᴰ.head refl))) k in
    ap (λ (i : ℕ). get_or (row_of r ++ each rows row_of) i 0) e ∙ get_or-append (row_of r) (each rows row_of) 0 j w
in_row (r ∷ rows) h (suc v) j l k =
    let w = row_length r (h r (Memᴰ.head refl)) in
    let e : 4 * suc v + j ≡ length (row_of r) + (4 * v + j) = rw w (omega arith) in
    ap (λ (i : ℕ). get_or (row_of r ++ each rows row_of) i 0) e ∙ get_or-append-add (row_of r) (each rows row_of) (4 * v + j) 0
    ∙ in_row rows (λ q m. h q (Memᴰ.tail m)) v j (omega arith) k

past_rows : (rows : List (List ℕ)) → Short rows → (v j : ℕ) → length rows ≤ v → get_or (each rows row_of) (4 * v + j) 0 ≡ 0
past_rows [] h v j l = refl
past_rows (r ∷ rows) h zero j l = absurd (omega arith)
past_rows (r ∷ rows) h (suc v) j l =
    let w = row_length r (h r (Memᴰ.head refl)) in
    let e : 4 * suc v + j ≡ length (row_of r) + (4 * v + j) = rw w (omega arith) in
    ap (λ (i : ℕ). get_or (row_of r ++ each rows row_of) i 0) e ∙ get_or-append-add (row_of r) (each rows row_of) (4 * v + j) 0
    ∙ past_rows rows (λ q m. h q (Memᴰ.tail m)) v j (omega arith)

-- ---- what form has made sure of

or_low : (k : ℕ) → has_label k ≡ true → k ≤ 4
or_low k h = ⊎_elim (λ t. let e = eqb→eq k 1 t in omega arith) (λ t. let e = eqb→eq k 2 t in omega arith) (or_of (eqb k 1) (eqb k 2) (true_T _ h))

pub constant_kind : (s : List ℕ) (at : ℕ) → constant_form s at ≡ true → (constant_read_at s at).kind ≤ 4
unfolding constant_form value_form number_form constant_read_at
constant_kind s at h = go (has_label (byte_at s (at + 1))) refl
  where
    v : value_form s at ≡ true
    v = both_second (leb 2 (byte_at s at)) _ (both_second (item_there s at) _ h)

    num : (b : Bool) → eqb (byte_at s (at + 1)) 3 ≡ b → choose b (leb (u32_at s (at + 2)) 36524) (eqb (byte_at s (at + 1)) 4) ≡ true → byte_at s (at + 1) ≤ 4
    num true e w = let q = eqb-true (byte_at s (at + 1)) 3 e in omega arith
    num false e w = let q = eqb-true (byte_at s (at + 1)) 4 (sym (choose_false _ _ refl) ∙ w) in omega arith

    go : (b : Bool) → has_label (byte_at s (at + 1)) ≡ b → byte_at s (at + 1) ≤ 4
    go true e = or_low (byte_at s (at + 1)) e
    go false e = num (eqb (byte_at s (at + 1)) 3) refl (both_second (eqb (byte_at s at) 5) _ (sym (choose_false _ _ e) ∙ v))

-- at most three parameters, each of one of the four kinds
pub record Signed (v : Verb) : Type 0 where
  pub few : length v.kinds ≤ 3
  pub known : (k : ℕ) → Memᴰ k v.kinds → (1 ≤ k) × (k ≤ 4)

pub verb_signed : (s : List ℕ) (at : ℕ) → verb_form s at ≡ true → Signed (verb_at s at)
unfolding verb_form signature_form verb_at
verb_signed s at h =
    let g = both_second (leb 1 (byte_at s at)) _ (both_second (item_there s at) _ h) in
    let a = leb-true (byte_at s (at + 1)) 3 (both_first _ _ g) in
    let i = both_first _ _ (both_second (leb (1 + byte_at s (at + 1)) (byte_at s at)) _ (both_second (leb (byte_at s (at + 1)) 3) _ g)) in
    record {
      few = rw (bytes_length (byte_at s (at + 1)) s (at + 2)) a;
      known = λ k m. let t = and_of (leb 1 k) (leb k 4) (all_of_law is_kind (true_T _ i) m) in (leb→le 1 k t.0, leb→le k 4 t.1);
    }

pub verb_arity : (s : List ℕ) (at : ℕ) → verb_form s at ≡ true → byte_at s (at + 1) ≤ 3
unfolding verb_at
verb_arity s at h = let f = (verb_signed s at h).few in rw (bytes_length (byte_at s (at + 1)) s (at + 2)) at f

-- ---- the tables

map_of : {A B : Type 0} {f : A → B} {y : B} (xs : List A) → Memᴰ y (map f xs) → (x : A) × Memᴰ x xs × (y ≡ f x)
map_of [] m = absurd (Memᴰ.not-nil m)
map_of (x ∷ xs) m = ⊎_elim (λ e. (x, Memᴰ.head refl, e)) (λ n. let r = map_of xs n in (r.0, Memᴰ.tail r.1, r.2)) (Memᴰ.cases_cons m)

get_d_in : {A : Type 0} (l : List A) (i : ℕ) (d : A) → i < length l → Memᴰ (get_or l i d) l
get_d_in [] i d h = absurd (omega arith)
get_d_in (x ∷ l) zero d h = Memᴰ.head refl
get_d_in (x ∷ l) (suc i) d h = Memᴰ.tail (get_d_in l i d (omega arith))

module _ (cs : List Constant) (vs : List Verb) (low : (c : Constant) → Memᴰ c cs → c.kind ≤ 4) (signed : (v : Verb) → Memᴰ v vs → Signed v) where
  abbrev rows : List (List ℕ)
  rows = (principal ∷ []) ∷ map (λ (v : Verb). v.kinds) vs

  rows_signed : (r : List ℕ) → Memᴰ r rows → (length r ≤ 3) × ((k : ℕ) → Memᴰ k r → (1 ≤ k) × (k ≤ 4))
  rows_signed r m = ⊎_elim first later (Memᴰ.cases_cons m)
    where
      first : r ≡ principal ∷ [] → (length r ≤ 3) × ((k : ℕ) → Memᴰ k r → (1 ≤ k) × (k ≤ 4))
      first e = rw e (omega arith, λ k n. let q : k ≡ 1 = Memᴰ.eq_of_singleton n in (omega arith, omega arith))

      later : Memᴰ r (map (λ (v : Verb). v.kinds) vs) → (length r ≤ 3) × ((k : ℕ) → Memᴰ k r → (1 ≤ k) × (k ≤ 4))
      later n =
          let q = map_of vs n in
          let g = signed q.0 q.1 in
          subst (λ (r : List ℕ). (length r ≤ 3) × ((k : ℕ) → Memᴰ k r → (1 ≤ k) × (k ≤ 4))) (sym q.2) (g.few, g.known)

  params_row_law : (v : ℕ) → param_kinds vs v ≡ get_or rows v []
  params_row_law zero = refl
  params_row_law (suc v) = refl

  rows_length : length rows ≡ suc (length vs)
  rows_length = ap suc (simp length-map)

  in_table : (v j : ℕ) → v ≤ length vs → j < 4 → byte_at (verb_table vs) (4 * v + j) ≡ get_or (row_of (param_kinds vs v)) j 0
  unfolding verb_table rows_of
  in_table v j l k =
      held_at 260 (each rows row_of) (4 * v + j)
      ∙ in_row rows (λ r m. (rows_signed r m).0) v j (let e = rows_length in omega arith) k
      ∙ ap (λ (r : List ℕ). get_or (row_of r) j 0) (sym (params_row_law v))

  kind_low : (c : ℕ) → kind_at cs c ≤ 4
  kind_low c = go (dec_lt c (length cs))
    where
      go : Dec (c < length cs) → kind_at cs c ≤ 4
      go (yes h) = low (get_or cs c no_constant) (get_d_in cs c no_constant h)
      go (no h) =
          let e : get_or cs c no_constant ≡ no_constant = get_or-eq_default cs no_constant (omega arith) in
          subst (λ (d : Constant). d.kind ≤ 4) (sym e) (omega arith)

  row_signed : (v : ℕ) → v ≤ length vs → (length (param_kinds vs v) ≤ 3) × ((k : ℕ) → Memᴰ k (param_kinds vs v) → (1 ≤ k) × (k ≤ 4))
  row_signed v l = rw (params_row_law v) (rows_signed (get_or rows v []) (get_d_in rows v [] (let e = rows_length in omega arith)))

  past : (v : ℕ) → length vs < v → byte_at (verb_table vs) (4 * v) ≡ 0
  unfolding verb_table rows_of
  past v l =
      let e : 4 * v ≡ 4 * v + 0 = omega arith in
      ap (byte_at (held 260 (each rows row_of))) e
      ∙ held_at 260 (each rows row_of) (4 * v + 0)
      ∙ past_rows rows (λ r m. (rows_signed r m).0) v 0 (let d = rows_length in omega arith)

  params : (v i : ℕ) → v ≤ length vs → i < length (param_kinds vs v) → byte_at (verb_table vs) (4 * v + 1 + i) ≡ get_or (param_kinds vs v) i 0
  params v i l k =
      let e : 4 * v + 1 + i ≡ 4 * v + suc i = omega arith in
      let f = (row_signed v l).0 in
      ap (byte_at (verb_table vs)) e ∙ in_table v (suc i) l (omega arith) ∙ pad_at 3 (param_kinds vs v) i

  pub tables : Tables cs vs (kind_table cs) (verb_table vs)
  unfolding arity_of
  tables = record {
    kinds = kind_is cs;
    there = λ v l. let e : 4 * v ≡ 4 * v + 0 = omega arith in ap (byte_at (verb_table vs)) e ∙ in_table v 0 l (omega arith);
    past = λ v l. past v l;
    params = λ v i l k. params v i l k;
    constant_kinds = kind_low;
    parameter_kinds = λ v l. (row_signed v l).1;
  }
