-- Computed: the policy reader by offsets, item by item, as the code goes (`proofs/PolicyReader`: it is `Layout.read_policy` for every byte list).
use Rattle.std.specs.Prelude.{ℕ, zero, suc, ◌+◌, ◌-◌, List, [], ◌∷◌, ◌++◌, map, Bool, ◌&&◌, length, eqb, ltb, leb}
use Rattle.model.specs.Limits.{max_constants, max_verbs, max_assertions, policy_versions, length_at, header_bytes}
use Rattle.model.specs.Lists.{any}
use Rattle.model.specs.Syntax.{Assertion, Constant, Verb}
use Rattle.model.specs.Kinds.{fits_assertion}
use Rattle.model.specs.Values.{alike, same_value}
use Rattle.model.specs.Safety.{safe_assertion}
pub use Rattle.model.specs.Reader.{Item, contents}
pub use Rattle.model.specs.Layout.{Accepted, policy_of}
unfoldable pub use Rattle.model.specs.Layout.{read_policy}
use Rattle.model.specs.Bytes.{byte_at, u16_at, u32_at, choose, both, Reading, got, refused, and_then}
use Rattle.model.specs.Readings.{item_end, constant_read_at, verb_at, assertion_read_at}
use Rattle.model.specs.Forms.{Form, ends, broken, no_verb, constant_form, verb_form, assertion_form}

-- ---- every slice: version, length; a list of items; nothing left over

-- "1 version absent or not 1 (place 0). 2 length field short or wrong (place 1)."; the versions that a slice takes are 1 to `latest`
unfoldable pub version_there : ℕ → List ℕ → Bool
version_there latest s = both (ltb 0 (length s)) (both (leb 1 (byte_at s 0)) (leb (byte_at s 0) latest))

unfoldable pub length_right : List ℕ → Bool
length_right s = both (leb header_bytes (length s)) (eqb (u32_at s length_at) (length s - header_bytes))

unfoldable pub headed : {A : Type 0} → ℕ → List ℕ → Reading A → Reading A
headed latest s r = choose (version_there latest s) (choose (length_right s) r (refused 2 length_at)) (refused 1 0)

-- "bytes left over": the place is the first of them
unfoldable pub ended : {A : Type 0} → List ℕ → A → ℕ → Reading A
ended s x p = choose (eqb p (length s)) (got x p) (refused 3 p)

abbrev pub offsets : {A : Type 0} → List (Item A) → List ℕ
offsets is = map (λ i. i.at) is

-- "front to back by item": n items from p on, each read by `f` given those before it
unfoldable pub items_from : {A : Type 0} → (List A → ℕ → Reading A) → ℕ → List (Item A) → ℕ → Reading (List (Item A))
items_from f zero is p = got is p
items_from f (suc n) is p = and_then (f (contents is) p) (λ x e. items_from f n (is ++ record { at = p; of = x } ∷ []) e)

-- "three lists, each led by a 2-byte count": a count outside its range, or not there, has its own place
unfoldable pub list_at : {A : Type 0} → List ℕ → ℕ → ℕ → (List A → ℕ → Reading A) → ℕ → Reading (List (Item A))
list_at s lowest highest f p =
    choose (ltb (length s) (p + 2)) (refused 3 p)
    (choose (ltb (u16_at s p) lowest) (refused 3 p)
    (choose (ltb highest (u16_at s p)) (refused 3 p)
    (items_from f (u16_at s p) [] (p + 2))))

-- ---- the items of a policy: "within an item 3, 4, 5, 6"

-- "4 constant alike in kind and value, or verb label alike, to an earlier one"
abbrev pub alike_constants : Constant → Constant → Bool
alike_constants c d = eqb c.kind d.kind && same_value c d

abbrev pub alike_verbs : Verb → Verb → Bool
alike_verbs v w = alike v.label w.label

unfoldable pub constant_item : List ℕ → List Constant → ℕ → Reading Constant
constant_item s cs at =
    choose (constant_form s at)
    (choose (any (alike_constants (constant_read_at s at)) cs) (refused 4 at) (got (constant_read_at s at) (item_end s at)))
    (refused 3 at)

unfoldable pub verb_item : List ℕ → List Verb → ℕ → Reading Verb
verb_item s vs at =
    choose (verb_form s at)
    (choose (any (alike_verbs (verb_at s at)) vs) (refused 4 at) (got (verb_at s at) (item_end s at)))
    (refused 3 at)

-- "5 expression, kind or verb number with no fit. 6 unsafe assertion."
unfoldable pub judged : List Constant → List Verb → Assertion → ℕ → ℕ → Reading Assertion
judged cs vs a at e = choose (fits_assertion cs vs a) (choose (safe_assertion a) (got a e) (refused 6 at)) (refused 5 at)

-- "A verb number past the verbs ends the reading of its item: it gives 5"
unfoldable pub assertion_by : Form → List Constant → List Verb → Assertion → ℕ → Reading Assertion
assertion_by (ends e) cs vs a at = judged cs vs a at e
assertion_by broken cs vs a at = refused 3 at
assertion_by no_verb cs vs a at = refused 5 at

unfoldable pub assertion_item : List Constant → List Verb → List ℕ → List Assertion → ℕ → Reading Assertion
assertion_item cs vs s before at = assertion_by (assertion_form vs s at) cs vs (assertion_read_at vs s at) at

-- ---- the whole

-- "Then three lists": constants, 1 to 255; verbs, 0 to 64; assertions, 0 to 256
unfoldable pub assertions_from : List ℕ → List (Item Constant) → List (Item Verb) → ℕ → Reading Accepted
assertions_from s cs vs p =
    and_then (list_at s 0 max_assertions (assertion_item (contents cs) (contents vs) s) p)
    (λ 𝒜 e. ended s (record { version = byte_at s 0; constants = cs; verbs = vs; assertions = 𝒜 }) e)

unfoldable pub verbs_from : List ℕ → List (Item Constant) → ℕ → Reading Accepted
verbs_from s cs p = and_then (list_at s 0 max_verbs (verb_item s) p) (λ vs e. assertions_from s cs vs e)

unfoldable pub constants_from : List ℕ → Reading Accepted
constants_from s = and_then (list_at s 1 max_constants (constant_item s) header_bytes) (λ cs e. verbs_from s cs e)

unfoldable pub computed_policy : List ℕ → Reading Accepted
computed_policy s = headed policy_versions s (constants_from s)
