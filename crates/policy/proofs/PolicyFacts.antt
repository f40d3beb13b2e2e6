-- From the lists to the whole policy.
use mathlib.Core.Path.{◌≡◌, refl, sym, ◌∙◌, ap, ap₂, subst}
use mathlib.Core.Bool.{Bool, true, false}
use mathlib.Core.List.{List}
use Prim.Native.Nat.{ℕ, ◌+◌, ◌≤◌, ◌<◌}
use lib.ListN.{length}
use Rattle.std.specs.Prelude.{Result, Ok, Err, if◌then◌else◌}
use Rattle.model.specs.Limits.{max_constants, max_verbs, max_assertions, policy_versions, length_at, header_bytes}
use Rattle.model.specs.Syntax.{Assertion, Constant, Verb}
use Rattle.model.specs.Bytes.{byte_at, u16_at, choose, Reading, got, refused, and_then}
use Rattle.model.specs.Readings.{item_end, ends_by, constant_read_at, verb_at, assertion_read_at, assertion_end}
use Rattle.model.specs.Forms as forms
use Rattle.model.specs.Forms.{ends, broken, no_verb, constant_form, verb_form, assertion_form}
use Rattle.model.specs.Policies.{Item, contents, version_there, length_right, headed, ended, list_at, constant_item, verb_item, judged}
use Rattle.model.specs.Policies.{assertion_by}
use Rattle.model.specs.Policies.{assertion_item, Accepted, assertions_from, verbs_from, constants_from, computed_policy, read_policy}
use Rattle.model.proofs.PolicyReader.{policy_is}
use Rattle.model.proofs.ReadFacts.{never, choose_yes, and_then_got}
use Rattle.phrases.specs.Tables.{Tables}
use Rattle.policy.specs.declared.Index.{Index}
use Rattle.slices.specs.Steps.{Next, Refused, step, number_of}
use Rattle.slices.specs.declared.Refusal.{Refusal}
use Rattle.slices.specs.Items.{constants_at, verbs_at, assertions_at}
use Rattle.slices.specs.Lists.{headed_at}
use Rattle.policy.specs.Index.{verb_table, index_of, handed_out, said, kinds_at, signatures_at, index_at}
use Rattle.assertions.specs.Assertions.{check_by, assertions_by}
use Rattle.slices.proofs.ListFacts.{Reads, Counted, step_refused, step_next, list_got, list_right, items_length, items_starts}
use Rattle.slices.proofs.ListFacts.{contents_each}
use Rattle.slices.proofs.ListSteps.{list_steps}
use Rattle.names.proofs.ItemFacts.{constant_reads, verb_reads, constant_right, verb_right}
use Rattle.policy.proofs.TableFacts.{kinds_are_law, rows_are, constant_kind, Signed, verb_signed, verb_arity, tables}
use Rattle.assertions.proofs.AssertionFacts.{Shaped, shaped, item_is}

-- ---- assertions, one after the other

module _ (cs : List Constant) (vs : List Verb) (s : List ℕ) where
  record Got (at e : ℕ) (x : Assertion) : Type 0 where
    value : x ≡ assertion_read_at vs s at
    shape : Shaped vs s at e

  judged_got : (at q : ℕ) (x : Assertion) (e : ℕ) → judged cs vs (assertion_read_at vs s at) at q ≡ got x e → (x ≡ assertion_read_at vs s at) × (e ≡ q)
  unfolding judged
  judged_got at q x e h = let r = (choose_yes _ _ 6 at x e (choose_yes _ _ 5 at x e h).1).1 in (cc, cc)

  assertion_got : (before : List Assertion) (at : ℕ) (x : Assertion) (e : ℕ) → assertion_item cs vs s before at ≡ got x e → Got at e x
  unfolding assertion_item assertion_by
  assertion_got before at x e h = go (assertion_form vs s at) refl h
    where
      go : (φ : forms.Form) → assertion_form vs s at ≡ φ → assertion_by φ cs vs (assertion_read_at vs s at) at ≡ got x e → Got at e x
      go (ends q) f g = let r = judged_got at q x e g in record { value = r.0; shape = subst (λ (d : ℕ). Shaped vs s at d) (sym r.1) (shaped vs s at q f) }
      go broken f g = absurd (never 3 at e x g)
      go no_verb f g = absurd (never 5 at e x g)

  pub assertion_reads : Reads s (assertion_item cs vs s) (assertion_read_at vs s) (assertion_end s)
  assertion_reads = record {
    value = λ b at x e h. (assertion_got b at x e h).value;
    end = λ b at x e h. (assertion_got b at x e h).shape.end;
    within = λ b at x e h. (assertion_got b at x e h).shape.within;
  }

abbrev made : List ℕ → List (Item Constant) → List (Item Verb) → List (Item Assertion) → Accepted
made s cis vis A = record { version = byte_at s 0; constants = cis; verbs = vis; assertions = A }

module _ (s : List ℕ) (cis : List (Item Constant)) (vis : List (Item Verb)) {ks sg : List ℕ} (X : Tables (contents cis) (contents vis) ks sg) where
  pub assertions_are : (p : ℕ) → assertions_by ks sg s p ≡ step (assertions_from s cis vis p)
  unfolding assertions_by assertions_from
  assertions_are p =
      list_steps s (assertion_item (contents cis) (contents vis) s) (check_by ks sg) (item_is X s) (made s cis vis) 0 max_assertions p

-- ---- the tables of a policy whose constants and verbs are in order

-- the constants' list ends at p, the verbs' at q
abbrev pub Constants : List ℕ → ℕ → Type 0
Constants s p = list_at s 1 max_constants (constant_item s) 5 ≡ got (constants_at s (u16_at s 5) 7) p

abbrev pub Verbs : List ℕ → ℕ → ℕ → Type 0
Verbs s p q = list_at s 0 max_verbs (verb_item s) p ≡ got (verbs_at s (u16_at s p) (p + 2)) q

-- each constant of the list has right form
abbrev pub ConstantsRight : List ℕ → Type 0
ConstantsRight s = (j : ℕ) → j < u16_at s 5 → constant_form s (ends_by (item_end s) j 7) ≡ true

module _ (s : List ℕ) (p : ℕ) (K : Constants s p) where
  pub constants_within : p ≤ length s
  constants_within = (list_got s 1 max_constants (constant_item s) (constant_read_at s) (item_end s) (constant_reads s) 5 _ p K).1

  pub constants_counted : Counted s 1 max_constants 5
  constants_counted = (list_got s 1 max_constants (constant_item s) (constant_read_at s) (item_end s) (constant_reads s) 5 _ p K).2

  pub constants_right : ConstantsRight s
  constants_right =
      list_right s (constant_item s) (constant_read_at s) (item_end s) (constant_reads s) (λ at. constant_form s at ≡ true)
      (constant_right s) 1 max_constants 5 _ p K

  module _ (q : ℕ) (W : Verbs s p q) where
    pub verbs_within : q ≤ length s
    verbs_within = (list_got s 0 max_verbs (verb_item s) (verb_at s) (item_end s) (verb_reads s) p _ q W).1

    pub verbs_counted : Counted s 0 max_verbs p
    verbs_counted = (list_got s 0 max_verbs (verb_item s) (verb_at s) (item_end s) (verb_reads s) p _ q W).2

    verbs_right : (j : ℕ) → j < u16_at s p → verb_form s (ends_by (item_end s) j (p + 2)) ≡ true
    verbs_right = list_right s (verb_item s) (verb_at s) (item_end s) (verb_reads s) (λ at. verb_form s at ≡ true) (verb_right s) 0 max_verbs p _ q W

    signatures_are : signatures_at s (u16_at s p) (p + 2) ≡ verb_table (contents (verbs_at s (u16_at s p) (p + 2)))
    signatures_are = rows_are s (u16_at s p) (p + 2) (λ j l. verb_arity s _ (verbs_right j l))

    pub read_tables : Tables (contents (constants_at s (u16_at s 5) 7)) (contents (verbs_at s (u16_at s p) (p + 2)))
        (kinds_at s (u16_at s 5) 7) (signatures_at s (u16_at s p) (p + 2))
    read_tables =
        rw (kinds_are_law s (u16_at s 5) 7, signatures_are)
        (tables _ _
        (contents_each (constant_read_at s) (item_end s) (λ (c : Constant). c.kind ≤ 4) (u16_at s 5) 7 (λ j l. constant_kind s _ (constants_right j l)))
        (contents_each (verb_at s) (item_end s) Signed (u16_at s p) (p + 2) (λ j l. verb_signed s _ (verbs_right j l))))

    -- what the model reads from here on
    abbrev rest : ℕ → Reading Accepted
    rest = assertions_from s (constants_at s (u16_at s 5) 7) (verbs_at s (u16_at s p) (p + 2))

    abbrev with_assertions_law : List (Item Assertion) → Accepted
    with_assertions_law = made s (constants_at s (u16_at s 5) 7) (verbs_at s (u16_at s p) (p + 2))

    abbrev whole : Accepted
    whole = with_assertions_law (assertions_at (contents (verbs_at s (u16_at s p) (p + 2))) s (u16_at s q) (q + 2))

    -- the assertions are in order: their count, and all that was read
    rest_got : (e : ℕ) → step (rest q) ≡ Next e → Counted s 0 max_assertions q × (rest q ≡ got whole e)
    unfolding assertions_from ended
    rest_got e h =
        let r = step_next (rest q) e h in
        let a = and_then_got _ _ r.0 e r.1 in
        let l = list_got s 0 max_assertions _ _ _ (assertion_reads _ _ s) q a.0 a.1 a.2 in
        let w = (choose_yes _ _ 3 a.1 r.0 e a.3).1 in
        let x : r.0 ≡ with_assertions_law a.0 = cc in
        (l.2, r.1 ∙ ap (λ (A : Accepted). got A e) (x ∙ ap with_assertions_law l.0))

    index_is : index_at s p q (kinds_at s (u16_at s 5) 7) (signatures_at s (u16_at s p) (p + 2)) ≡ index_of whole
    unfolding index_at index_of
    index_is = rw (kinds_are_law s (u16_at s 5) 7, signatures_are) (simp (items_length, items_starts))

    module _ (ks sg : List ℕ) (k : ks ≡ kinds_at s (u16_at s 5) 7) (g : sg ≡ signatures_at s (u16_at s p) (p + 2)) where
      rest_is : step (rest q) ≡ assertions_by ks sg s q
      rest_is = sym (ap₂ (λ (ks sg : List ℕ). assertions_by ks sg s q) k g ∙ assertions_are s _ _ read_tables q)

      pub rest_counted : (e : ℕ) → Next e ≡ assertions_by ks sg s q → u16_at s q ≤ max_assertions
      rest_counted e h = (rest_got e (rest_is ∙ sym h)).0.most

      rest_taken : (e : ℕ) → Next e ≡ assertions_by ks sg s q → (z : Index) → z ≡ index_at s p q ks sg → Ok z ≡ handed_out (rest q)
      unfolding handed_out
      rest_taken e h z i =
          ap Ok (i ∙ ap₂ (λ (ks sg : List ℕ). index_at s p q ks sg) k g ∙ index_is) ∙ ap handed_out (sym (rest_got e (rest_is ∙ sym h)).1)

      rest_refused : (n r : ℕ) → Refused n r ≡ assertions_by ks sg s q → Err (n, r) ≡ handed_out (rest q)
      unfolding handed_out
      rest_refused n r h = ap handed_out (sym (step_refused (rest q) n r (rest_is ∙ sym h)))

-- ---- the reader's steps, as the code takes them

-- a refusal, whatever the index holds
pub said_refused : {r : Result Unit Refusal} {why : Refusal} (x : Index) → r ≡ Err why → said r x ≡ Err (number_of why.reason, why.place)
said_refused x e = ap (λ (r : Result Unit Refusal). said r x) e

module _ (s : List ℕ) where
  -- version and length
  pub header_refused : (n p : ℕ) → Refused n p ≡ headed_at policy_versions s → Err (n, p) ≡ handed_out (read_policy s)
  unfolding headed_at computed_policy headed choose handed_out
  header_refused n p = rw policy_is (go (version_there policy_versions s) (length_right s) (constants_from s))
    where
      go : (a b : Bool) (x : Reading Accepted) → Refused n p ≡ (if a then (if b then Next header_bytes else Refused 2 length_at) else Refused 1 0)
          → Err (n, p) ≡ handed_out (choose a (choose b x (refused 2 length_at)) (refused 1 0))
      go true true x h = cc
      go true false x h = cc
      go false b x h = cc

  header_got : (p : ℕ) → Next p ≡ headed_at policy_versions s → read_policy s ≡ constants_from s
  unfolding headed_at computed_policy headed choose
  header_got p = rw policy_is (go (version_there policy_versions s) (length_right s))
    where
      go : (a b : Bool) → Next p ≡ (if a then (if b then Next header_bytes else Refused 2 length_at) else Refused 1 0)
          → choose a (choose b (constants_from s) (refused 2 length_at)) (refused 1 0) ≡ constants_from s
      go true true h = refl
      go true false h = cc
      go false b h = cc

  module _ (first : ℕ) (H : Next first ≡ headed_at policy_versions s) where
    pub constants_refused : (n p : ℕ) → Refused n p ≡ step (list_at s 1 max_constants (constant_item s) 5) → Err (n, p) ≡ handed_out (read_policy s)
    unfolding handed_out constants_from and_then
    constants_refused n p h = rw (header_got first H, step_refused (list_at s 1 max_constants (constant_item s) 5) n p (sym h))

    module _ (p : ℕ) (K : Constants s p) where
      constants_then : read_policy s ≡ verbs_from s (constants_at s (u16_at s 5) 7) p
      unfolding constants_from and_then
      constants_then = rw (header_got first H, K)

      pub verbs_refused : (n r : ℕ) → Refused n r ≡ step (list_at s 0 max_verbs (verb_item s) p) → Err (n, r) ≡ handed_out (read_policy s)
      unfolding handed_out verbs_from and_then
      verbs_refused n r h = rw (constants_then, step_refused (list_at s 0 max_verbs (verb_item s) p) n r (sym h))

      module _ (q : ℕ) (W : Verbs s p q) (ks sg : List ℕ) (k : ks ≡ kinds_at s (u16_at s 5) 7) (g : sg ≡ signatures_at s (u16_at s p) (p + 2)) where
        verbs_then : read_policy s ≡ rest s p K q W q
        unfolding verbs_from and_then
        verbs_then = rw (constants_then, W)

        pub assertions_refused : (n r : ℕ) → Refused n r ≡ assertions_by ks sg s q → Err (n, r) ≡ handed_out (read_policy s)
        assertions_refused n r h = rw verbs_then (rest_refused s p K q W ks sg k g n r h)

        pub all_taken : (e : ℕ) → Next e ≡ assertions_by ks sg s q → (z : Index) → z ≡ index_at s p q ks sg → Ok z ≡ handed_out (read_policy s)
        all_taken e h z i = rw verbs_then (rest_taken s p K q W ks sg k g e h z i)

-- ---- what was handed out, by what was read

module _ (r : Reading Accepted) (x : Index) (i : Ok x ≡ handed_out r) where
  pub accepted_by : (A : Accepted) × (e : ℕ) × (r ≡ got A e)
  unfolding handed_out
  accepted_by = go r refl
    where
      go : (y : Reading Accepted) → r ≡ y → (A : Accepted) × (e : ℕ) × (r ≡ got A e)
      go (got A e) h = (A, e, h)
      go (refused n p) h = absurd (let w : Ok x ≡ handed_out (refused n p) = i ∙ ap handed_out h in let z : ⊥ = cc in z)

  pub index_got : (A : Accepted) (e : ℕ) → r ≡ got A e → x ≡ index_of A
  unfolding handed_out
  index_got A e h = let w : Ok x ≡ handed_out (got A e) = i ∙ ap handed_out h in cc

pub refused_got : (r : Reading Accepted) (n p : ℕ) → Err (n, p) ≡ handed_out r → r ≡ refused n p
unfolding handed_out
refused_got (got A e) n p h = absurd (let z : ⊥ = cc in z)
refused_got (refused m k) n p h =
    let same : ◌≡◌ {A = ℕ × ℕ} (n, p) (m, k) = cc in
    ap (λ (x : ℕ × ℕ). refused x.0 x.1) (sym same)
