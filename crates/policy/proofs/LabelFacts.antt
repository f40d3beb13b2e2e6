-- The label of a constant is a part of the policy's bytes.
use mathlib.Core.Path.{◌≡◌, refl, sym, ◌∙◌, ap}
use Rattle.std.specs.Prelude.{Result, Ok, Err, if◌then◌else◌}
use mathlib.Core.Bool.{Bool, true, false}
use mathlib.Core.List.{List, [], map}
use Prim.Native.Nat.{ℕ, ◌+◌, ◌-◌, ◌≤◌, ◌<◌}
use native.Mathlib.Omega.{arith}
use native.Mathlib.Decide.{dec_lt}
use borrow.Author.Tests.{lt-ltb, le-ltb}
use lib.ListN.{length, get_or, take, drop, get_or-eq_default}
use Rattle.wire.proofs.Reading.{choose_true, choose_false}
use Rattle.model.specs.Limits.{max_constants}
use Rattle.model.specs.Syntax.{Constant}
use Rattle.model.specs.Kinds.{no_constant}
use Rattle.model.specs.Bytes.{byte_at, u16_at, Reading, got}
use Rattle.model.specs.Readings.{item_end, ends_by, has_label, constant_read_at}
use Rattle.model.specs.Forms.{constant_form}
use Rattle.model.specs.Policies.{Item, contents, constant_item, Accepted, read_policy}
use Rattle.model.proofs.ReadFacts.{accepted_lists}
use Rattle.policy.specs.declared.Index.{Index}
use Rattle.policy.specs.declared.Part.{Part}
use Rattle.slices.specs.Items.{constants_at}
use Rattle.policy.specs.Index.{held, index_of, handed_out, label_in, label_of, no_part, part_at, label_part}
use Rattle.names.proofs.FormFacts.{constant_within, constant_two}
use Rattle.slices.proofs.ListFacts.{list_got, items_length, items_starts, contents_at, contents_length, starts_at_law}
use Rattle.names.proofs.ItemFacts.{constant_reads}
use Rattle.policy.proofs.TableFacts.{held_at, kind_is}
use Rattle.policy.proofs.PolicyFacts.{Constants, ConstantsRight, constants_counted, constants_right, accepted_by, index_got, refused_got}
use Rattle.model.proofs.ByteFacts.{part_is}

-- ---- what an accepted policy has

record Read (s : List ℕ) (A : Accepted) : Type 0 where
  constants : A.constants ≡ constants_at s (u16_at s 5) 7
  few : u16_at s 5 ≤ max_constants
  right : ConstantsRight s

read_got : (s : List ℕ) (A : Accepted) (e : ℕ) → read_policy s ≡ got A e → Read s A
read_got s A e h =
    let L = accepted_lists s A e h in
    let l = list_got s 1 max_constants (constant_item s) (constant_read_at s) (item_end s) (constant_reads s) 5 A.constants L.verbs_at L.constants in
    let k : Constants s L.verbs_at = L.constants ∙ ap (λ (is : List (Item Constant)). got is L.verbs_at) l.0 in
    record { constants = l.0; few = (constants_counted s L.verbs_at k).most; right = constants_right s L.verbs_at k }

-- ---- by number

module _ (s : List ℕ) (A : Accepted) (e : ℕ) (h : read_policy s ≡ got A e) where
  there : Read s A
  there = read_got s A e h

  counts : (index_of A).constants ≡ u16_at s 5
  unfolding index_of
  counts = ap (λ (is : List (Item Constant)). length is) there.constants ∙ items_length (constant_read_at s) (item_end s) (u16_at s 5) 7

  offset_at : (c : ℕ) → c < u16_at s 5 → get_or (index_of A).constant_at c 0 ≡ ends_by (item_end s) c 7
  unfolding index_of
  offset_at c l =
      ap (λ (is : List (Item Constant)). get_or (held max_constants (map (λ (i : Item Constant). i.at) is)) c 0) there.constants
      ∙ held_at max_constants _ c ∙ ap (λ (o : List ℕ). get_or o c 0) (items_starts (constant_read_at s) (item_end s) (u16_at s 5) 7)
      ∙ starts_at_law (item_end s) (u16_at s 5) 7 c l

  constant_at : (c : ℕ) → c < u16_at s 5 → get_or (contents A.constants) c no_constant ≡ constant_read_at s (ends_by (item_end s) c 7)
  constant_at c l = ap (λ (is : List (Item Constant)). get_or (contents is) c no_constant) there.constants
      ∙ contents_at (constant_read_at s) (item_end s) (u16_at s 5) 7 c no_constant l

  kind_at : (c : ℕ) → c < u16_at s 5 → get_or (index_of A).kinds c 0 ≡ byte_at s (ends_by (item_end s) c 7 + 1)
  unfolding index_of constant_read_at
  kind_at c l = kind_is (contents A.constants) c ∙ ap (λ (d : Constant). d.kind) (constant_at c l)

  no_constant_law : (c : ℕ) → u16_at s 5 ≤ c → get_or (contents A.constants) c no_constant ≡ no_constant
  no_constant_law c l =
      ap (λ (is : List (Item Constant)). get_or (contents is) c no_constant) there.constants
      ∙ get_or-eq_default (contents (constants_at s (u16_at s 5) 7)) no_constant (rw (contents_length (constant_read_at s) (item_end s) (u16_at s 5) 7) l)

-- ---- as the code takes it: x is what the reader handed out

module _ (s : List ℕ) (x : Index) (i : Ok x ≡ handed_out (read_policy s)) where
  read_as : (A : Accepted) × (e : ℕ) × (read_policy s ≡ got A e)
  read_as = accepted_by (read_policy s) x i

  index_is : x ≡ index_of read_as.0
  index_is = index_got (read_policy s) x i read_as.0 read_as.1 read_as.2

  count_is : x.constants ≡ u16_at s 5
  count_is = ap (λ (y : Index). y.constants) index_is ∙ counts s read_as.0 read_as.1 read_as.2

  pub few : x.constants ≤ max_constants
  few = rw count_is (there s read_as.0 read_as.1 read_as.2).few

  label_read : (c : ℕ) → (get_or (contents read_as.0.constants) c no_constant).label ≡ label_of s c
  unfolding label_of label_in
  label_read c = ap (λ (r : Reading Accepted). label_in r c) (sym read_as.2)

  module _ (c : ℕ) where
    pub label_past : x.constants ≤ c → [] ≡ label_of s c
    label_past l =
        sym (ap (λ (d : Constant). d.label) (no_constant_law s read_as.0 read_as.1 read_as.2 c (omega (arith, count_is, l)))) ∙ label_read c

    module _ (l : c < x.constants) where
      abbrev at : ℕ
      at = get_or x.constant_at c 0

      numbered : c < u16_at s 5
      numbered = omega (arith, count_is, l)

      at_is : at ≡ ends_by (item_end s) c 7
      at_is = ap (λ (y : Index). get_or y.constant_at c 0) index_is ∙ offset_at s read_as.0 read_as.1 read_as.2 c numbered

      formed : constant_form s at ≡ true
      formed = rw at_is ((there s read_as.0 read_as.1 read_as.2).right c numbered)

      kind_read : get_or x.kinds c 0 ≡ byte_at s (at + 1)
      kind_read =
          ap (λ (y : Index). get_or y.kinds c 0) index_is ∙ kind_at s read_as.0 read_as.1 read_as.2 c numbered
          ∙ ap (λ (p : ℕ). byte_at s (p + 1)) (sym at_is)

      labelled : (constant_read_at s at).label ≡ label_of s c
      labelled =
          ap (λ (p : ℕ). (constant_read_at s p).label) at_is
          ∙ sym (ap (λ (d : Constant). d.label) (constant_at s read_as.0 read_as.1 read_as.2 c numbered)) ∙ label_read c

      pub stands : (2 ≤ byte_at s at) × (at + 1 + byte_at s at ≤ length s)
      unfolding item_end
      stands = (constant_two s at formed, constant_within s at formed)

      pub label_other : has_label (get_or x.kinds c 0) ≡ false → [] ≡ label_of s c
      unfolding constant_read_at
      label_other h = sym (choose_false _ _ (ap has_label (sym kind_read) ∙ h)) ∙ labelled

      pub label_there : has_label (get_or x.kinds c 0) ≡ true → (r : ℕ) → r ≡ byte_at s at
          → take (at + 1 + r - (at + 2)) (drop (at + 2) s) ≡ label_of s c
      unfolding constant_read_at
      label_there h r e =
          let w = stands in
          let n : at + 1 + r - (at + 2) ≡ byte_at s at - 1 = omega arith in
          ap (λ (n : ℕ). take n (drop (at + 2) s)) n ∙ part_is (byte_at s at - 1) s (at + 2) (omega arith)
          ∙ sym (choose_true _ _ (ap has_label (sym kind_read) ∙ h)) ∙ labelled

pub label_refused : (s : List ℕ) (c n p : ℕ) → Err (n, p) ≡ handed_out (read_policy s) → [] ≡ label_of s c
unfolding label_of label_in
label_refused s c n p i = ap (λ (r : Reading Accepted). label_in r c) (sym (refused_got (read_policy s) n p i))

-- ---- the part

abbrev pub slice : List ℕ → Part → List ℕ
slice s p = take (p.to - p.from) (drop p.from s)

pub record Within (s : List ℕ) (p : Part) : Type 0 where
  pub ordered : p.from ≤ p.to
  pub inside : p.to ≤ length s

none_within : (s : List ℕ) → Within s no_part
none_within s = record { ordered = omega arith; inside = omega arith }

module _ (s : List ℕ) (c : ℕ) where
  pub label_is : slice s (label_part (handed_out (read_policy s)) s c) ≡ label_of s c
  unfolding label_part
  label_is = go (handed_out (read_policy s)) refl
    where
      go : (r : Result Index (ℕ × ℕ)) → r ≡ handed_out (read_policy s) → slice s (label_part r s c) ≡ label_of s c
      go (Ok x) i = by (dec_lt c x.constants)
        where
          kinds : c < x.constants → (b : Bool) → has_label (get_or x.kinds c 0) ≡ b
              → slice s (if b then part_at s (get_or x.constant_at c 0) else no_part) ≡ label_of s c
          kinds l true h = label_there s x i c l h _ refl
          kinds l false h = label_other s x i c l h

          by : Dec (c < x.constants) → slice s (label_part (Ok x) s c) ≡ label_of s c
          by (yes l) = rw (lt-ltb c x.constants l) (kinds l (has_label (get_or x.kinds c 0)) refl)
          by (no l) = rw (le-ltb c x.constants (omega arith)) (label_past s x i c (omega arith))
      go (Err (n, p)) i = label_refused s c n p i

  pub label_inside : Within s (label_part (handed_out (read_policy s)) s c)
  unfolding label_part
  label_inside = go (handed_out (read_policy s)) refl
    where
      go : (r : Result Index (ℕ × ℕ)) → r ≡ handed_out (read_policy s) → Within s (label_part r s c)
      go (Ok x) i = by (dec_lt c x.constants)
        where
          kinds : c < x.constants → (b : Bool) → Within s (if b then part_at s (get_or x.constant_at c 0) else no_part)
          kinds l true = let w = stands s x i c l in record { ordered = omega arith; inside = omega arith }
          kinds l false = none_within s

          by : Dec (c < x.constants) → Within s (label_part (Ok x) s c)
          by (yes l) = rw (lt-ltb c x.constants l) (kinds l (has_label (get_or x.kinds c 0)))
          by (no l) = rw (le-ltb c x.constants (omega arith)) (none_within s)
      go (Err (n, p)) i = none_within s
