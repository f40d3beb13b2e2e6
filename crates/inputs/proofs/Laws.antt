-- What the three readers hand out tells what they read; taken together it is what the model takes.
use Rattle.std.proofs.Common.{◌≡◌, ℕ, List, length, refl, sym, ap}
use Rattle.std.specs.Prelude.{Result, Ok, Err}
use Rattle.model.specs.Syntax as syntax
use Rattle.model.specs.Syntax.{Policy, Verb, Withdrawal, Link}
use Rattle.model.specs.Bytes.{Reading, got, refused}
use Rattle.model.specs.Nodes.{read_request}
use Rattle.model.specs.Entries.{read_withdrawals, read_hierarchy}
use Rattle.model.specs.Decision.{sided}
use Rattle.slices.specs.Steps.{Next}
use Rattle.slices.specs.Steps.{Refused as Stopped}
use Rattle.slices.specs.Lists.{count_of}
use Rattle.request.specs.Requests as requests
use Rattle.request.specs.declared.Request.{Request}
use Rattle.slices.specs.declared.Refusal.{Refusal}
use Rattle.slices.specs.Sides.{on_side}
use Rattle.slices.specs.declared.sides.Refused.{Refused}
use Rattle.slices.specs.declared.sides.Side.{Side}
use Rattle.inputs.specs.Handed.{handed_out, after_policy}
use Rattle.inputs.specs.declared.Handed.{Handed}

-- ---- entries, from their count

module _ {A : Type 0} where
  pub count_got : (y : Reading (List A)) (n : ℕ) → Next n ≡ count_of y → (xs : List A) × (e : ℕ) × (y ≡ got xs e) × (n ≡ length xs)
  unfolding count_of
  count_got (got xs e) n h = (xs, e, refl, cc)
  count_got (refused m p) n h = absurd (let z : ⊥ = cc in z)

  pub count_refused : (y : Reading (List A)) (n p : ℕ) → Stopped n p ≡ count_of y → y ≡ refused n p
  unfolding count_of
  count_refused (got xs e) n p h = absurd (let z : ⊥ = cc in z)
  count_refused (refused m q) n p h = cc

-- ---- a request

module _ (vs : List Verb) where
  pub request_got : (y : Reading syntax.Request) (r : Request) → Ok r ≡ requests.answered vs y
      → (q : syntax.Request) × (e : ℕ) × (y ≡ got q e) × (r ≡ requests.handed_out vs q)
  request_got (got q e) r h = (q, e, refl, cc)
  request_got (refused n p) r h = absurd (let z : ⊥ = cc in z)

  pub request_refused : (y : Reading syntax.Request) (n p : ℕ) → Err (n, p) ≡ requests.answered vs y → y ≡ refused n p
  request_refused (got q e) n p h = absurd (let z : ⊥ = cc in z)
  request_refused (refused m q) n p h =
      let same : ◌≡◌ {A = ℕ × ℕ} (n, p) (m, q) = cc in
      ap (λ (x : ℕ × ℕ). refused x.0 x.1) (sym same)

-- ---- with its side

module _ {A : Type 0} (side : Side) where
  pub says_ok : (z : Result A Refusal) (x : A) → on_side side z ≡ Ok x → z ≡ Ok x
  says_ok (Ok y) x h = let e : y ≡ x = cc in ap Ok e
  says_ok (Err r) x h = absurd (let z : ⊥ = cc in z)

  pub says_err : (z : Result A Refusal) (e : Refused) → on_side side z ≡ Err e → (r : Refusal) × (z ≡ Err r) × (e ≡ record { side = side; refusal = r })
  says_err (Ok y) e h = absurd (let z : ⊥ = cc in z)
  says_err (Err r) e h = (r, refl, cc)

-- ---- one after the other

same : {r r' : Request} {m m' n n' : ℕ} → r ≡ r' → m ≡ m' → n ≡ n' → ◌≡◌ {A = Result Handed (ℕ × ℕ × ℕ)}
    (Ok (record { request = r; withdrawals = m; links = n })) (Ok (record { request = r'; withdrawals = m'; links = n' }))
same e f g = rw (e, f, g)

module _ (P : Policy) (request withdrawals hierarchy : List ℕ) where
  abbrev asked : Reading syntax.Request
  asked = read_request P.constants P.verbs request

  abbrev withdrawn : Reading (List Withdrawal)
  withdrawn = read_withdrawals P.constants withdrawals

  abbrev linked : Reading (List Link)
  linked = read_hierarchy P.constants P.verbs hierarchy

  pub refused_first : (n p : ℕ) → Err (n, p) ≡ requests.answered P.verbs asked → Err (n, 2, p) ≡ handed_out (after_policy P request withdrawals hierarchy)
  unfolding handed_out sided
  refused_first n p h = rw (request_refused P.verbs asked n p h)

  module _ (r : Request) (h : Ok r ≡ requests.answered P.verbs asked) where
    pub refused_second : (n p : ℕ) → Stopped n p ≡ count_of withdrawn → Err (n, 3, p) ≡ handed_out (after_policy P request withdrawals hierarchy)
    unfolding handed_out sided
    refused_second n p g = rw ((request_got P.verbs asked r h).2, count_refused withdrawn n p g)

    module _ (m : ℕ) (g : Next m ≡ count_of withdrawn) where
      pub refused_third : (n p : ℕ) → Stopped n p ≡ count_of linked → Err (n, 4, p) ≡ handed_out (after_policy P request withdrawals hierarchy)
      unfolding handed_out sided
      refused_third n p f = rw ((request_got P.verbs asked r h).2, (count_got withdrawn m g).2, count_refused linked n p f)

      pub all_taken : (n : ℕ) → Next n ≡ count_of linked
          → Ok (record { request = r; withdrawals = m; links = n }) ≡ handed_out (after_policy P request withdrawals hierarchy)
      unfolding handed_out sided
      all_taken n f =
          let a = request_got P.verbs asked r h in
          let b = count_got withdrawn m g in
          let c = count_got linked n f in
          rw (a.2, b.2, c.2) (same a.3 b.3 c.3)
