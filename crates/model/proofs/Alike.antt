-- The proofs of `specs/Alike.antt`, each under its statement's name in small letters.
use mathlib.Core.Path.{◌≡◌, refl, sym, ap, ap₂, subst, ◌∙◌}
use mathlib.Core.Logic.{◌⊎◌, inl, inr}
use mathlib.Core.Bool.{Bool, true, false, ◌&&◌, false≢true}
use mathlib.Core.List.{List, [], ◌∷◌, Memᴰ}
use Prim.Native.Nat.{ℕ, zero, suc, ◌+◌, ◌-◌, ◌≤◌}
use native.Mathlib.Omega.{arith}
use lib.ListN.{length, get_or, take, drop}
use lib.Dec.{T, T_not, eqb, ltb, leb}
use borrow.Author.Tests.{eq-eqb, leb-true}
use Rattle.model.specs.Limits.{principal, thing, max_constants, max_verbs, header_bytes}
use Rattle.model.specs.Lists.{any, front}
use Rattle.model.specs.Syntax.{Constant, Verb, Policy}
use Rattle.model.specs.Kinds.{no_constant}
use Rattle.model.specs.Values.{lower, lowered, alike, same_value}
use Rattle.model.specs.Bytes.{byte_at, u16_at, u32_at, bytes_at, choose, Reading, got, refused, and_then}
use Rattle.model.specs.Reader.{sized, times, items, byte, u16, u32, byte_in, rest, list}
use Rattle.model.specs.Layout.{label, constant, verb, slice}
use Rattle.model.specs.Layout as layout
use Rattle.model.specs.Labels.{label_in, label_of}
use Rattle.model.specs.Readings.{item_end, has_label, constant_read_at}
use Rattle.model.specs.Forms.{item_there, constant_form}
use Rattle.model.specs.Policies.{contents, Accepted, policy_of, read_policy, alike_constants, alike_verbs, constant_item, verb_item}
use Rattle.model.specs.Inputs.{ReadAs}
use Rattle.model.specs.Alike.{OnlyCapitals, AlikeLabels, BeginningLabels, OneConstant, OneLabel, OneVerb, nameless, OwnBytes, Arms}
use Rattle.model.proofs.Tests.{T_true, true_T, both_of, eqb_turned}
use Rattle.model.proofs.ListFacts.{and_of, and_in}
use Rattle.model.proofs.ReadFacts.{choose_yes, choose_no, list_each, accepted_lists}
use Rattle.model.proofs.ByteFacts.{part_is}
use Rattle.model.proofs.AlikeFacts.{lower_capital, lower_below, lower_above, lowered_once, alike_agree, agree_alike, alike_long, front_of_law, front_in_law}
use Rattle.model.proofs.AlikeFacts.{mem_at, Apart, list_apart, apart_one}

pub only_capitals : OnlyCapitals
only_capitals = record { capital = lower_capital; below = lower_below; above = lower_above }

pub alike_labels : AlikeLabels
alike_labels = record {
  agree = λ l r. (alike_agree l r, agree_alike l r);
  itself = λ l. agree_alike l l refl;
  turned = λ l r e. agree_alike r l (sym (alike_agree l r e));
  joined = λ l m r d e. agree_alike l r (alike_agree l m d ∙ alike_agree m r e);
  small = λ l. agree_alike l (lowered l) (sym (lowered_once l));
  once = lowered_once;
  long = alike_long;
}

pub beginning_labels : BeginningLabels
beginning_labels = record {
  goes_on = λ l r. (front_of_law (lowered r) (lowered l), λ h. subst (λ (m : List ℕ). front (lowered r) m ≡ true) (sym h.1) (front_in_law (lowered r) h.0));
  whichever = λ l l' r r' d e. ap₂ (λ (m k : List ℕ). front k m) (alike_agree l l' d) (alike_agree r r' e);
}

-- ---- refusal 4

-- an item that is read is alike to none before it
item_new : {A : Type 0} (form seen : Bool) (v x : A) (at f e : ℕ) → choose form (choose seen (refused 4 at) (got v f)) (refused 3 at) ≡ got x e
    → (v ≡ x) × (T seen → ⊥)
item_new form seen v x at f e h =
    let b = choose_no seen _ 4 at x e (choose_yes form _ 3 at x e h).1 in
    (let w = b.1 in let q : v ≡ x = cc in q, T_not seen b.0)

constant_new : (s : List ℕ) (earlier : List Constant) (p : ℕ) (c : Constant) (e : ℕ) → constant_item s earlier p ≡ got c e
    → T (any (alike_constants c) earlier) → ⊥
unfolding constant_item
constant_new s earlier p c e h = let r = item_new _ _ _ c p _ e h in subst (λ (d : Constant). T (any (alike_constants d) earlier) → ⊥) r.0 r.1

verb_new : (s : List ℕ) (earlier : List Verb) (p : ℕ) (v : Verb) (e : ℕ) → verb_item s earlier p ≡ got v e → T (any (alike_verbs v) earlier) → ⊥
unfolding verb_item
verb_new s earlier p v e h = let r = item_new _ _ _ v p _ e h in subst (λ (w : Verb). T (any (alike_verbs w) earlier) → ⊥) r.0 r.1

-- in an accepted policy none is alike to one before it
abbrev AllNew : Policy → Type 0
AllNew P = Apart no_constant alike_constants P.constants × Apart nameless alike_verbs P.verbs

accepted_new : (s : List ℕ) (A : Accepted) (e : ℕ) → read_policy s ≡ got A e → AllNew (policy_of A)
accepted_new s A e r =
    let L = accepted_lists s A e r in (
      list_apart no_constant alike_constants (constant_item s) (constant_new s) s 1 max_constants header_bytes A.constants L.verbs_at L.constants,
      list_apart nameless alike_verbs (verb_item s) (verb_new s) s 0 max_verbs L.verbs_at A.verbs L.assertions_at L.verbs,
    )

policy_new : (policy : List ℕ) (P : Policy) → ReadAs policy P → AllNew P
policy_new policy P h = subst AllNew h.3 (accepted_new policy h.0 h.1 h.2)

-- which of two comes first does not matter
labels_turned : (l r : List ℕ) → T (alike l r) → T (alike r l)
labels_turned l r t = true_T _ (agree_alike r l (sym (alike_agree l r (T_true _ t))))

constants_turned : (c d : Constant) → T (alike_constants c d) → T (alike_constants d c)
constants_turned c d t =
    let k = and_of (eqb c.kind d.kind) (same_value c d) t in
    let v = and_of (alike c.label d.label) (eqb c.number d.number) k.1 in
    and_in (eqb d.kind c.kind) (same_value d c) (subst T (eqb_turned c.kind d.kind) k.0)
    (and_in (alike d.label c.label) (eqb d.number c.number) (labels_turned c.label d.label v.0)
    (subst T (eqb_turned c.number d.number) v.1))

pub one_constant : OneConstant
one_constant policy P h i j m k e v =
    let c = get_or P.constants i no_constant in
    let d = get_or P.constants j no_constant in
    apart_one no_constant alike_constants constants_turned P.constants (policy_new policy P h).0 i j m k
    (and_in (eqb c.kind d.kind) (same_value c d) (true_T _ (eq-eqb _ _ e)) (true_T _ v))

-- what holds of every constant that is read holds of those of an accepted policy
constants_each : (Q : Constant → Type 0) (s : List ℕ)
    → ((earlier : List Constant) (at : ℕ) (c : Constant) (e : ℕ) → constant_item s earlier at ≡ got c e → Q c)
    → (A : Accepted) (e : ℕ) → read_policy s ≡ got A e → (c : Constant) → Memᴰ c (contents A.constants) → Q c
constants_each Q s item A e r =
    let L = accepted_lists s A e r in list_each (constant_item s) Q item s 1 max_constants header_bytes A.constants L.verbs_at L.constants

-- a constant that has a label has number 0
abbrev Plain : Constant → Type 0
Plain c = has_label c.kind ≡ true → c.number ≡ 0

zero_by : (b : Bool) (n : ℕ) → b ≡ true → ◌≡◌ {A = ℕ} (choose b 0 n) 0
unfolding choose
zero_by true n k = refl
zero_by false n k = absurd (false≢true k)

labelled_zero : (s : List ℕ) (earlier : List Constant) (at : ℕ) (c : Constant) (e : ℕ) → constant_item s earlier at ≡ got c e → Plain c
unfolding constant_item constant_read_at
labelled_zero s earlier at c e h = subst Plain (item_new _ _ (constant_read_at s at) c at _ e h).0 (zero_by (has_label (byte_at s (at + 1))) _)

policy_zero : (policy : List ℕ) (P : Policy) → ReadAs policy P → (c : Constant) → Memᴰ c P.constants → Plain c
policy_zero policy P h =
    subst (λ (Q : Policy). (c : Constant) → Memᴰ c Q.constants → Plain c) h.3
    (constants_each Plain policy (labelled_zero policy) h.0 h.1 h.2)

pub one_label : OneLabel
one_label policy P h i j m k named e same =
    let c = get_or P.constants i no_constant in
    let d = get_or P.constants j no_constant in
    let has : has_label c.kind ≡ true = has_label_law c.kind named in
    let zero_c : c.number ≡ 0 = policy_zero policy P h c (mem_at no_constant P.constants i m) has in
    let zero_d : d.number ≡ 0 = policy_zero policy P h d (mem_at no_constant P.constants j k) (ap has_label (sym e) ∙ has) in
    one_constant policy P h i j m k e (ap₂ (λ (a b : Bool). a && b) same (eq-eqb _ _ (zero_c ∙ sym zero_d)))
  where
    has_label_law : (k : ℕ) → (k ≡ principal) ⊎ (k ≡ thing) → has_label k ≡ true
    has_label_law k (inl e) = ap has_label e
    has_label_law k (inr e) = ap has_label e

pub one_verb : OneVerb
one_verb policy P h i j m k v =
    apart_one nameless alike_verbs (λ v w. labels_turned v.label w.label) P.verbs (policy_new policy P h).1 i j m k (true_T _ v)

-- ---- labels handed out

module _ (s : List ℕ) where
  abbrev Part : List ℕ → Type 0
  Part l = (p n : ℕ) × (p + n ≤ length s) × (l ≡ take n (drop p s))

  no_part_law : Part []
  no_part_law = (0, 0, omega arith, refl)

  label_part_law : (b : Bool) (at n : ℕ) → at + 1 + n ≤ length s → 2 ≤ n → Part (choose b (bytes_at (n - 1) s (at + 2)) [])
  unfolding choose
  label_part_law true at n fits long = let l : at + 2 + (n - 1) ≤ length s = omega arith in (at + 2, n - 1, l, sym (part_is (n - 1) s (at + 2) l))
  label_part_law false at n fits long = no_part_law

  -- the label of a constant that is read is what stands behind its kind
  constant_part : (earlier : List Constant) (at : ℕ) (c : Constant) (e : ℕ) → constant_item s earlier at ≡ got c e → Part c.label
  unfolding constant_item constant_read_at constant_form item_there item_end
  constant_part earlier at c e h =
      let there = both_of (item_there s at) _ (choose_yes (constant_form s at) _ 3 at c e h).0 in
      let fits = leb-true _ _ (T_true _ (both_of (ltb at (length s)) _ there.0).1) in
      let long = leb-true _ _ (T_true _ (both_of (leb 2 (byte_at s at)) _ there.1).0) in
      subst (λ (d : Constant). Part d.label) (item_new _ _ (constant_read_at s at) c at _ e h).0
      (label_part_law (has_label (byte_at s (at + 1))) at (byte_at s at) fits long)

pub own_bytes : OwnBytes
unfolding label_of label_in
own_bytes policy c = go (read_policy policy) refl
  where
    by_number : (l : List Constant) → ((x : Constant) → Memᴰ x l → Part policy x.label) → (c : ℕ) → Part policy (get_or l c no_constant).label
    by_number [] h c = no_part_law policy
    by_number (x ∷ l) h zero = h x (Memᴰ.head refl)
    by_number (x ∷ l) h (suc c) = by_number l (λ y m. h y (Memᴰ.tail m)) c

    go : (r : Reading Accepted) → read_policy policy ≡ r → Part policy (label_in r c)
    go (got A e) h = by_number (contents A.constants) (constants_each (λ (c : Constant). Part policy c.label) policy (constant_part policy) A e h) c
    go (refused n p) h = no_part_law policy

pub arms : Arms
unfolding
    u16_at u32_at choose and_then
    sized times items byte u16 u32 byte_in rest list
    label constant verb layout.constant_item layout.verb_item layout.assertion_item slice read_policy
    lower
arms = refl
