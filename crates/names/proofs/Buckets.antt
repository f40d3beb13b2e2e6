-- Items that are alike fall into one bucket, and in which one the code finds them.
use mathlib.Core.Path.{◌≡◌, refl, sym, ap, ◌∙◌}
use mathlib.Core.Bool.{Bool, true, false}
use mathlib.Core.List.{List, []}
use Prim.Native.Nat.{ℕ, ◌+◌, ◌-◌, ◌%◌, ◌<◌}
use native.Mathlib.Omega.{arith}
use borrow.Author.Tests.{eqb-true}
use Rattle.wire.proofs.Reading.{choose_true, choose_false}
use Rattle.model.specs.Syntax.{Constant, Verb}
use Rattle.model.specs.Bytes.{byte_at, u32_at, bytes_at, choose}
use Rattle.model.specs.Readings.{has_label, constant_read_at, verb_at}
use Rattle.model.specs.Policies.{alike_constants, alike_verbs}
use Rattle.model.proofs.Tests.{and_true}
use Rattle.labels.specs.Hash.{buckets, hash_of}
use Rattle.labels.proofs.Laws.{alike_hash, hash_small}
use Rattle.names.specs.Seeking.{constant_bucket, verb_bucket}
use Rattle.names.proofs.FormFacts.{constant_inside, constant_start, verb_start, number_there}
use Rattle.names.proofs.FormFacts.{kinds_differ, alike_labels_law, alike_numbers, verb_inside, verb_long, verbs_alike, constant_two}

not_true : (b : Bool) → (b ≡ true → ⊥) → b ≡ false
not_true true h = absurd (h refl)
not_true false h = refl

constants_bucket : (c d : Constant) → alike_constants c d ≡ true → constant_bucket d ≡ constant_bucket c
constants_bucket c d e =
    let k = and_true _ _ e in
    let v = and_true _ _ k.1 in
    let kind : d.kind ≡ c.kind = sym (eqb-true c.kind d.kind k.0) in
    let label : hash_of d.label ≡ hash_of c.label = sym (alike_hash c.label d.label v.0) in
    let number : d.number ≡ c.number = sym (eqb-true c.number d.number v.1) in
    rw (kind, label, number)

pub constants_apart : (c d : Constant) → (constant_bucket d ≡ constant_bucket c → ⊥) → alike_constants c d ≡ false
constants_apart c d h = not_true _ (λ e. h (constants_bucket c d e))

pub verbs_apart : (v w : Verb) → (verb_bucket w ≡ verb_bucket v → ⊥) → alike_verbs v w ≡ false
verbs_apart v w h = not_true _ (λ e. h (sym (alike_hash v.label w.label e)))

pub constant_bucket_law : (c : Constant) → constant_bucket c < buckets
unfolding choose
constant_bucket_law c = go (has_label c.kind)
  where
    go : (b : Bool) → choose b (hash_of c.label) (c.number % buckets) < buckets
    go true = hash_small c.label
    go false = omega arith

pub verb_bucket_law : (v : Verb) → verb_bucket v < buckets
verb_bucket_law v = hash_small v.label

-- ---- the bucket of what the bytes begin with, as the code finds it

module _ (s : List ℕ) where
  pub label_bucket : has_label (byte_at s 1) ≡ true → (r n : ℕ) → n ≡ byte_at s 0 → r ≡ hash_of (bytes_at (n - 1) s 2)
      → r ≡ constant_bucket (constant_read_at s 0)
  unfolding constant_read_at
  label_bucket h r n d e =
      e ∙ ap (λ (m : ℕ). hash_of (bytes_at (m - 1) s 2)) d
      ∙ sym (choose_true _ _ h ∙ ap hash_of (choose_true (bytes_at (byte_at s 0 - 1) s 2) [] h))

  pub number_bucket : has_label (byte_at s 1) ≡ false → (r : ℕ) → r ≡ u32_at s 2 → r % buckets ≡ constant_bucket (constant_read_at s 0)
  unfolding constant_read_at
  number_bucket h r e = ap (λ (n : ℕ). n % buckets) e ∙ sym (choose_false _ _ h ∙ ap (λ (n : ℕ). n % buckets) (choose_false 0 (u32_at s 2) h))

  pub name_bucket : (r n a : ℕ) → a ≡ byte_at s 1 → n ≡ byte_at s 0 → r ≡ hash_of (bytes_at (n - 1 - a) s (2 + a)) → r ≡ verb_bucket (verb_at s 0)
  unfolding verb_at
  name_bucket r n a d e h =
      h ∙ ap (λ (m : ℕ). hash_of (bytes_at (m - 1 - a) s (2 + a))) e ∙ ap (λ (b : ℕ). hash_of (bytes_at (byte_at s 0 - 1 - b) s (2 + b))) d

-- what the code is proved by, of an item of right form
pub ruleset constant_facts = (
  constant_inside,
  constant_two,
  constant_start,
  number_there,
  constants_apart,
  kinds_differ,
  alike_labels_law,
  alike_numbers,
  label_bucket,
  number_bucket,
)

pub ruleset verb_facts = (verb_inside, verb_long, verb_start, verbs_apart, verbs_alike, name_bucket)
