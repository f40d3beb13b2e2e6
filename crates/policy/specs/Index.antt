-- What the policy reader hands out.
use Rattle.std.specs.Prelude.{◌≡◌, ℕ, suc, ◌+◌, ◌-◌, List, [], ◌∷◌, ◌++◌, map, length, get_or, replicate, eqb, nat_lt, if◌then◌else◌, Result, Ok, Err}
use Rattle.model.specs.Limits.{max_constants, max_verbs, max_assertions, principal}
use Rattle.model.specs.Lists.{each, pad}
use Rattle.model.specs.Syntax.{Constant, Verb}
unfoldable pub use Rattle.model.specs.Labels.{label_in, label_of}
use Rattle.model.specs.Bytes.{byte_at, u16_at, choose, Reading, got, refused}
use Rattle.model.specs.Readings.{item_end, assertion_end, has_label}
use Rattle.model.specs.Policies.{contents, offsets, Accepted, read_policy}
use Rattle.slices.specs.Items.{starts_at}
use Rattle.assertions.specs.Assertions.{issuer_read_at}
use Rattle.slices.specs.Steps.{number_of}
use Rattle.slices.specs.declared.Refusal.{Refusal}
use Rattle.policy.specs.declared.Index.{Index}
use Rattle.policy.specs.declared.Part.{Part}

-- n numbers: these, and 0 past the last
unfoldable pub held : ℕ → List ℕ → List ℕ
held n l = l ++ replicate (n - length l) 0

-- the kind of each constant
unfoldable pub kind_table : List Constant → List ℕ
kind_table cs = held max_constants (map (λ (c : Constant). c.kind) cs)

-- four bytes for a verb: its arity and one, and the kinds of its parameters
abbrev pub row_of : List ℕ → List ℕ
row_of ks = pad 4 (suc (length ks) ∷ ks)

-- from verb 0 on, "can act as", with one principal parameter
unfoldable pub rows_of : List Verb → List ℕ
rows_of vs = each ((principal ∷ []) ∷ map (λ (v : Verb). v.kinds) vs) row_of

unfoldable pub verb_table : List Verb → List ℕ
verb_table vs = held 260 (rows_of vs)

unfoldable pub index_of : Accepted → Index
index_of A = record {
  version = A.version;
  constants = length A.constants;
  verbs = length A.verbs;
  assertions = length A.assertions;
  constant_at = held max_constants (offsets A.constants);
  verb_at = held max_verbs (offsets A.verbs);
  assertion_at = held max_assertions (offsets A.assertions);
  issuer_at = held max_assertions (map issuer_read_at (offsets A.assertions));
  kinds = kind_table (contents A.constants);
  signatures = verb_table (contents A.verbs);
}

-- nothing is read yet but what assertions are read by: the kinds of the constants, the rows of the verbs
unfoldable pub with_tables : List ℕ → List ℕ → Index
with_tables kinds signatures = record {
  version = 0;
  constants = 0;
  verbs = 0;
  assertions = 0;
  constant_at = replicate max_constants 0;
  verb_at = replicate max_verbs 0;
  assertion_at = replicate max_assertions 0;
  issuer_at = replicate max_assertions 0;
  kinds = kinds;
  signatures = signatures;
}

-- nothing at all
abbrev pub empty : Index
empty = with_tables (replicate max_constants 0) (replicate 260 0)

-- ---- THE PROMISE: the index of an accepted policy, or a refusal's number and place, as the code gives it

unfoldable pub handed_out : Reading Accepted → Result Index (ℕ × ℕ)
handed_out (got A e) = Ok (index_of A)
handed_out (refused n p) = Err (n, p)

-- what the code's result and its index say
abbrev pub said : Result Unit Refusal → Index → Result Index (ℕ × ℕ)
said (Ok u) x = Ok x
said (Err r) x = Err (number_of r.reason, r.place)

-- x is what the reader hands out of these bytes
abbrev pub HandsOut : List ℕ → Index → Type 0
HandsOut policy x = Ok x ≡ handed_out (read_policy policy)

-- ---- the same as the code finds it, by offsets: the verbs' count at p, the assertions' at q

-- the row of the verb at `at`
unfoldable pub row_at : List ℕ → ℕ → List ℕ
row_at s at =
    choose (eqb (byte_at s (at + 1)) 0) (1 ∷ 0 ∷ 0 ∷ 0 ∷ [])
    (choose (eqb (byte_at s (at + 1)) 1) (2 ∷ byte_at s (at + 2) ∷ 0 ∷ 0 ∷ [])
    (choose (eqb (byte_at s (at + 1)) 2) (3 ∷ byte_at s (at + 2) ∷ byte_at s (at + 3) ∷ 0 ∷ [])
    (4 ∷ byte_at s (at + 2) ∷ byte_at s (at + 3) ∷ byte_at s (at + 4) ∷ [])))

-- the kind of the constant at `at`
unfoldable pub kind_of : List ℕ → ℕ → ℕ
kind_of s at = byte_at s (at + 1)

unfoldable pub kinds_at : List ℕ → ℕ → ℕ → List ℕ
kinds_at s n p = held max_constants (map (kind_of s) (starts_at (item_end s) n p))

unfoldable pub signatures_at : List ℕ → ℕ → ℕ → List ℕ
signatures_at s n p = held 260 (2 ∷ 1 ∷ 0 ∷ 0 ∷ each (starts_at (item_end s) n p) (row_at s))

unfoldable pub index_at : List ℕ → ℕ → ℕ → List ℕ → List ℕ → Index
index_at s p q ks sg = record {
  version = byte_at s 0;
  constants = u16_at s 5;
  verbs = u16_at s p;
  assertions = u16_at s q;
  constant_at = held max_constants (starts_at (item_end s) (u16_at s 5) 7);
  verb_at = held max_verbs (starts_at (item_end s) (u16_at s p) (p + 2));
  assertion_at = held max_assertions (starts_at (assertion_end s) (u16_at s q) (q + 2));
  issuer_at = held max_assertions (map issuer_read_at (starts_at (assertion_end s) (u16_at s q) (q + 2)));
  kinds = ks;
  signatures = sg;
}

-- where the label of constant c stands
abbrev pub no_part : Part
no_part = record { from = 0; to = 0 }

abbrev pub part_at : List ℕ → ℕ → Part
part_at s at = record { from = at + 2; to = at + 1 + byte_at s at }

unfoldable pub label_part : Result Index (ℕ × ℕ) → List ℕ → ℕ → Part
label_part (Ok x) s c =
    if nat_lt c x.constants then (if has_label (get_or x.kinds c 0) then part_at s (get_or x.constant_at c 0) else no_part) else no_part
label_part (Err r) s c = no_part
