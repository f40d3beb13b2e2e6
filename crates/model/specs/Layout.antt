-- The bytes of the slices, in document 01's order: what they say, or the refusal with its place ("Policy bytes", "Request bytes", "Refusals from the input";
-- requests 02 and 05).
use Rattle.std.specs.Prelude.{ℕ, zero, suc, ◌-◌, List, [], ◌&&◌, ◌||◌, not, length, eqb, ltb, leb}
use Rattle.model.specs.Limits.{principal, thing, day, quantity}
use Rattle.model.specs.Lists.{any, all}
use Rattle.model.specs.Syntax.{Expr, con, var, today, Fact, flat, can_say, Constraint, Assertion, Withdrawal, Link, Constant, Verb, Policy}
use Rattle.model.specs.Syntax.{vars_withdrawal}
use Rattle.model.specs.Syntax.{Node, Nodes, says, test, all_of, any_of, non, exists, end, more, Request}
use Rattle.model.specs.Kinds.{param_kinds, Demands, no_demands, joined, demands_in, withdrawal_demands, fitting, fits_link, fits_assertion}
use Rattle.model.specs.Safety.{safe_assertion, safe_request}
use Rattle.model.specs.Bytes.{byte_at, u32_at, choose, Reading, refused}
use Rattle.model.specs.Values.{alike, same_value}
use Rattle.model.specs.Reader.{Item, contents, Reader, pure, refuse, placed, item, ◌>>=◌, ◌>>◌, require, ending}
use Rattle.model.specs.Reader.{sized, times, byte, u16, u32, byte_in, rest, list}

-- ---- what is read

-- what an accepted policy says, and where it stands; constants are numbered from 0, verbs from 1
pub record Accepted : Type 0 where
  pub version : ℕ
  pub constants : List (Item Constant)
  pub verbs : List (Item Verb)
  pub assertions : List (Item Assertion)

abbrev pub policy_of : Accepted → Policy
policy_of A = record { version = A.version; constants = contents A.constants; verbs = contents A.verbs; assertions = contents A.assertions }

module _ (s : List ℕ) where
  -- ---- constants: "a kind byte, a value"; verbs: "arity byte 0 to 3, one kind byte per parameter, label as above"

  -- "label of 1 to 32 bytes in 0x21 to 0x7E"
  unfoldable pub label : Reader (List ℕ)
  label = do
    l ← rest s
    require 3 (leb 1 (length l) && leb (length l) 32 && all (λ b. leb 0x21 b && leb b 0x7E) l)
    pure l

  -- "Kind 1 principal and 2 thing: label .. Kind 3 day: 4 bytes, .. 0 to 36,524. Kind 4 quantity: 4 bytes, any value."
  unfoldable pub constant : Reader Constant
  constant = do
    k ← byte s
    choose (eqb k principal || eqb k thing) (do l ← label; pure (record { kind = k; label = l; number = 0 }))
        (do n ← u32 s; require 3 (choose (eqb k day) (leb n 36524) (eqb k quantity)); pure (record { kind = k; label = []; number = n }))

  -- the kinds are 1 to 4
  unfoldable pub verb : Reader Verb
  verb = do
    m ← byte_in s 0 3
    ks ← times m (byte_in s 1 4)
    l ← label
    pure (record { kinds = ks; label = l })

  -- ---- expressions, constraints, facts, assertions

  -- "2 bytes: 0 to 254 a constant, 0x8000 to 0x8007 a variable, 0x4000 today".
  -- Any other number is that of a constant or a variable that is not there: it has no kind, so it fits nowhere, and gives 5.
  unfoldable pub expr : Reader Expr
  expr = do x ← u16 s; pure (choose (eqb x 0x4000) today (choose (ltb x 0x8000) (con x) (var (x - 0x8000))))

  -- "A constraint: operator byte, left, right." Operators are 1 to 5.
  unfoldable pub constraint : Reader Constraint
  constraint = do
    o ← byte_in s 1 5
    l ← expr
    r ← expr
    pure (record { op = o; left = l; right = r })

  module _ (vs : List Verb) where
    -- "for each level a principal speaker and a depth byte (0, or 1 for unlimited); a principal subject; a verb byte; its parameters"
    -- "A verb number past the verbs ends the reading of its item: it gives 5"
    unfoldable pub levels : ℕ → Reader (Fact Expr)
    levels zero = do
      subject ← expr
      v ← byte s
      require 5 (leb v (length vs))
      es ← times (length (param_kinds vs v)) expr
      pure (flat subject v es)
    levels (suc m) = do
      speaker ← expr
      depth ← byte_in s 0 1
      f ← levels m
      pure (can_say speaker depth f)

    -- "A fact: a nest byte 0 to 3"
    unfoldable pub fact : Reader (Fact Expr)
    fact = do m ← byte_in s 0 3; levels m

    -- "4-byte serial (no effect), issuer, head fact, a count byte 0 to 4 and that many body facts, a count byte 0 to 4 and that many constraints".
    -- The issuer is a constant's number: any other number is no principal, and gives 5.
    unfoldable pub assertion : Reader Assertion
    assertion = do
      serial ← u32 s
      issuer ← u16 s
      head ← fact
      b ← byte_in s 0 4
      body ← times b fact
      t ← byte_in s 0 4
      tests ← times t constraint
      pure (record { serial = serial; issuer = issuer; head = head; body = body; tests = tests })

  -- ---- items: "a length byte (bytes after it in the item)", of an assertion "2-byte length counted alike"; "within an item 3, 4, 5, 6"

  -- "4 constant alike in kind and value, or verb label alike, to an earlier one"
  unfoldable pub constant_item : List Constant → Reader Constant
  constant_item earlier = do
    c ← sized (byte s) constant
    require 4 (not (any (λ d. eqb c.kind d.kind && same_value c d) earlier))
    pure c

  unfoldable pub verb_item : List Verb → Reader Verb
  verb_item earlier = do
    v ← sized (byte s) verb
    require 4 (not (any (λ w. alike v.label w.label) earlier))
    pure v

  -- "5 expression, kind or verb number with no fit. 6 unsafe assertion."
  unfoldable pub assertion_item : List Constant → List Verb → List Assertion → Reader Assertion
  assertion_item cs vs earlier = do
    a ← sized (u16 s) (assertion vs)
    require 5 (fits_assertion cs vs a)
    require 6 (safe_assertion a)
    pure a

  -- ---- entries: an item without a length is its own bytes. "within an item 3, .. 5", and then 10 or 11

  -- request 02: "entries of issuer, 4-byte serial, count byte and constraints"; "a constraint count is 0 to 4"
  unfoldable pub withdrawal : Reader Withdrawal
  withdrawal = do
    issuer ← expr
    serial ← u32 s
    t ← byte_in s 0 4
    tests ← times t constraint
    pure (record { issuer = issuer; serial = serial; tests = tests })

  -- "Refusals 1, 2, 3 and 5 apply with side 3"; "10, an entry with a variable, as issuer too, after 5 within its item"
  unfoldable pub withdrawal_item : List Constant → List Withdrawal → Reader Withdrawal
  withdrawal_item cs earlier = do
    w ← withdrawal
    require 5 (fitting cs (withdrawal_demands w))
    require 10 (eqb (length (vars_withdrawal w)) 0)
    pure w

  -- request 05: "verb, parameter position from 1, parent and child". "a constant is an expression": a number that is no constant's has no kind, and gives 5.
  -- "A verb number past the verbs ends the reading of its item: it gives 5"
  unfoldable pub linked : List Verb → Reader Link
  linked vs = do
    verb ← byte s
    require 5 (leb verb (length vs))
    position ← byte s
    parent ← u16 s
    child ← u16 s
    pure (record { verb = verb; position = position; parent = parent; child = child })

  -- "Refusals 1, 2, 3 and 5 apply with side 4"; "11, parent equal to child, after 5 in its entry"
  unfoldable pub link_item : List Constant → List Verb → List Link → Reader Link
  link_item cs vs earlier = do
    l ← linked vs
    require 5 (fits_link cs vs l)
    require 11 (not (eqb l.parent l.child))
    pure l

  -- ---- nodes: "each node are items, a node's item being its own bytes without the nodes inside it". D is what the items before it ask of the kinds.

  module _ (cs : List Constant) (vs : List Verb) where
    -- "Kinds give 5 at the first item for which no choice of kinds for the variables fits it together with the earlier items"
    unfoldable pub asking : Demands → Node → Reader Node
    asking D n = do require 5 (fitting cs (joined D (demands_in n vs))); pure n

    -- n nodes, each read by `r`, which is told what all before it ask
    unfoldable pub parts : (Demands → Reader Node) → ℕ → Demands → Reader Nodes
    parts r zero D = pure end
    parts r (suc n) D = do x ← r D; xs ← parts r n (joined D (demands_in x vs)); pure (more x xs)

    -- "1 says (issuer, fact); 2 constraint; 3 all-of and 4 any-of (count byte 1 to 8, nodes); 5 not; 6 exists (variable byte 0 to 7, node)".
    -- A node may hold others d - 1 deep; with d = 0 it is "one deeper than 8", and that is 3.
    unfoldable pub node : ℕ → Demands → Reader Node
    node zero D = item (refuse 3)
    node (suc d) D = item do
      b ← byte s
      choose (eqb b 1) (do i ← expr; f ← fact vs; asking D (says i f))
          (choose (eqb b 2) (do c ← constraint; asking D (test c))
          (choose (eqb b 3) (do n ← byte_in s 1 8; ns ← parts (node d) n D; pure (all_of ns))
          (choose (eqb b 4) (do n ← byte_in s 1 8; ns ← parts (node d) n D; pure (any_of ns))
          (choose (eqb b 5) (do n ← node d D; pure (non n))
          (choose (eqb b 6) (do v ← byte_in s 0 7; n ← node d D; pure (exists v n))
          (refuse 3))))))

  -- ---- the whole

  -- "Byte 0: version, 1. Bytes 1 to 4: count of all bytes after them." "1 version absent or not 1 (place 0). 2 length field short or wrong (place 1)."
  -- The versions that a slice takes are 1 to `latest`.
  unfoldable pub slice : {A : Type 0} → ℕ → Reader A → Reading A
  slice latest r =
      choose (ltb 0 (length s) && (leb 1 (byte_at s 0) && leb (byte_at s 0) latest))
      (choose (leb 5 (length s) && eqb (u32_at s 1) (length s - 5))
      (r 0 (length s) 5)
      (refused 2 1)) (refused 1 0)

-- "Constants (1 to 255 ..) .. Verbs (0 to 64 ..) .. Assertions (0 to 256)"; "for leftovers, the first of them".
-- Request 06: "Version 2 has the same layout"; "Refusal 1 on side 1 now means absent or neither 1 nor 2."
unfoldable pub read_policy : List ℕ → Reading Accepted
read_policy s = slice s 2 do
  cs ← list s 1 255 (constant_item s)
  vs ← list s 0 64 (verb_item s)
  𝒜 ← list s 0 256 (assertion_item s (contents cs) (contents vs))
  item ending
  pure (record { version = byte_at s 0; constants = cs; verbs = vs; assertions = 𝒜 })

-- "today (4 bytes, 0 to 36,524), one node"; "the first has depth 1, and 8 is the deepest"; "7 unsafe request (place 9)", which "comes last"
unfoldable pub read_request : List Constant → List Verb → List ℕ → Reading Request
read_request cs vs s = slice s 1 do
  t ← item do t ← u32 s; require 3 (leb t 36524); pure t
  n ← node s cs vs 8 no_demands
  item ending
  placed 9 (require 7 (safe_request n))
  pure (record { today = t; node = n })

-- request 02: "laid out with version, length and 2-byte count (0 to 256)"
unfoldable pub read_withdrawals : List Constant → List ℕ → Reading (List Withdrawal)
read_withdrawals cs s = slice s 1 do
  ws ← list s 0 256 (withdrawal_item s cs)
  item ending
  pure (contents ws)

-- request 05: "(version, length, 2-byte count of 0 to 1,024)"
unfoldable pub read_hierarchy : List Constant → List Verb → List ℕ → Reading (List Link)
read_hierarchy cs vs s = slice s 1 do
  ls ← list s 0 1024 (link_item s cs vs)
  item ending
  pure (contents ls)
