-- What is handed out of the slices under an accepted policy: all are accepted, or the model refuses them with the same number, side and place.
use mathlib.Core.Path.{◌≡◌, refl, sym, ap, subst, ◌∙◌}
use mathlib.Core.List.{List}
use Prim.Native.Nat.{ℕ, ◌≤◌}
use Rattle.std.specs.Prelude.{Result, Ok, Err}
use lib.ListN.{length}
use Rattle.model.specs.Syntax as syntax
use Rattle.model.specs.Syntax.{Policy, Withdrawal, Link}
use Rattle.model.specs.Bytes.{Reading, got, refused}
use Rattle.model.specs.Policies.{Accepted, policy_of, read_policy}
use Rattle.model.specs.Nodes.{read_request}
use Rattle.model.specs.Entries.{read_withdrawals, read_hierarchy}
use Rattle.model.specs.Deciding.{read}
use Rattle.model.specs.Decision.{Lent, slices, Taken, accepted, refused_on, sided, read_slices, untouched, decision_of, decision}
use Rattle.model.specs.Inputs.{Inputs}
use Rattle.model.proofs.DecisionFacts.{of_slices, on_policy}
use Rattle.demands.specs.Demands.{Call}
use Rattle.wire.specs.Budget.{longest}
use Rattle.phrases.specs.Tables.{Tables}
use Rattle.policy.specs.Index.{index_of, HandsOut}
use Rattle.policy.specs.declared.Index.{Index}
use Rattle.policy.proofs.PolicyFacts.{accepted_by, index_got}
use Rattle.program.proofs.Accepted.{accepted_known}
use Rattle.request.specs.Requests as requests
use Rattle.slices.specs.Steps.{number_of}
use Rattle.slices.specs.Sides.{side_of}
use Rattle.slices.specs.declared.sides.Refused.{Refused}
use Rattle.inputs.specs.Handed.{said, handed_out, after_policy}
use Rattle.inputs.specs.Accepts.{Hands}
use Rattle.inputs.specs.declared.Handed.{Handed}

-- ---- an accepted policy's tables, in the words of the reader's index

pub tables : (policy : List ℕ) (A : Accepted) (e : ℕ) → read_policy policy ≡ got A e → (x : Index) → HandsOut policy x
    → Tables (policy_of A).constants (policy_of A).verbs x.kinds x.signatures
unfolding index_of
tables policy A e r x i =
    subst (λ (x : Index). Tables (policy_of A).constants (policy_of A).verbs x.kinds x.signatures) (sym (index_got (read_policy policy) x i A e r))
    (accepted_known policy A e r).tables

-- ---- what was read, from what was handed out

module _ (P : Policy) where
  abbrev taken : Reading syntax.Request → Reading (List Withdrawal) → Reading (List Link) → Taken
  taken y yw yh =
      sided 2 y (λ (q : syntax.Request). sided 3 yw (λ (ws : List Withdrawal). sided 4 yh (λ (H : List Link). accepted (read P q ws H))))

  -- all three are read, and h has the request and the counts
  record All (y : Reading syntax.Request) (yw : Reading (List Withdrawal)) (yh : Reading (List Link)) (h : Handed) : Type 0 where
    q : syntax.Request
    last : ℕ
    asked : y ≡ got q last
    ws : List Withdrawal
    last_entry : ℕ
    withdrawn : yw ≡ got ws last_entry
    H : List Link
    last_link : ℕ
    linked : yh ≡ got H last_link
    request : h.request ≡ requests.handed_out P.verbs q
    entries : h.withdrawals ≡ length ws
    links : h.links ≡ length H

  all : (y : Reading syntax.Request) (yw : Reading (List Withdrawal)) (yh : Reading (List Link)) (h : Handed) → Ok h ≡ handed_out (taken y yw yh)
      → All y yw yh h
  unfolding sided handed_out
  all (refused n p) yw yh h e = absurd (let z : ⊥ = cc in z)
  all (got q m) (refused n p) yh h e = absurd (let z : ⊥ = cc in z)
  all (got q m) (got ws k) (refused n p) h e = absurd (let z : ⊥ = cc in z)
  all (got q m) (got ws k) (got H l) h e = record {
    q = q;
    last = m;
    asked = refl;
    ws = ws;
    last_entry = k;
    withdrawn = refl;
    H = H;
    last_link = l;
    linked = refl;
    request = cc;
    entries = cc;
    links = cc;
  }

  none : (t : Taken) (n side p : ℕ) → Err (n, side, p) ≡ handed_out t → t ≡ refused_on n side p
  unfolding handed_out
  none (accepted R) n side p e = absurd (let z : ⊥ = cc in z)
  none (refused_on m s q) n side p e =
      let same : ◌≡◌ {A = ℕ × ℕ × ℕ} (n, side, p) (m, s, q) = cc in
      ap (λ (x : ℕ × ℕ × ℕ). refused_on x.0 x.1 x.2) (sym same)

-- ---- under an accepted policy

module _ (policy request withdrawals hierarchy : List ℕ) (x : Index) (i : HandsOut policy x)
    (z : Result Handed Refused) (means : (P : Policy) → Tables P.constants P.verbs x.kinds x.signatures
    → said z ≡ handed_out (after_policy P request withdrawals hierarchy)) where
  policy_got : (A : Accepted) × (e : ℕ) × (read_policy policy ≡ got A e)
  policy_got = accepted_by (read_policy policy) x i

  abbrev A : Accepted
  A = policy_got.0

  abbrev P : Policy
  P = policy_of A

  told : said z ≡ handed_out (after_policy P request withdrawals hierarchy)
  told = let w = policy_got in means P (tables policy w.0 w.1 w.2 x i)

  pub hands : (h : Handed) → z ≡ Ok h → (length request ≤ longest) × (length hierarchy ≤ longest)
      → (B : Accepted) × (q : syntax.Request) × (ws : List syntax.Withdrawal) × (H : List syntax.Link) × Hands policy request withdrawals hierarchy x h B q ws H
  hands h e s =
      let w = policy_got in
      let t = all P (read_request P.constants P.verbs request) (read_withdrawals P.constants withdrawals)
      (read_hierarchy P.constants P.verbs hierarchy) h (sym (ap said e) ∙ told) in (
        w.0,
        t.q,
        t.ws,
        t.H,
        record {
          takes = record {
            accepts = record { end = w.1; read = w.2; index = i; last = t.last; asked = t.asked };
            handed = t.request;
            short = s.0;
          };
          withdraws = record { end = t.last_entry; read = t.withdrawn; counts = t.entries };
          links = record { end = t.last_link; read = t.linked; count = t.links };
        },
      )

  pub refuses : (r : Refused) → z ≡ Err r
      → read_slices (slices policy request withdrawals hierarchy) ≡ refused_on (number_of r.refusal.reason) (side_of r.side) r.refusal.place
  refuses r e =
      let w = policy_got in
      on_policy (slices policy request withdrawals hierarchy) P (w.0, w.1, w.2, refl) ∙ none P _ _ _ _ (sym (ap said e) ∙ told)

-- what the model reports then
pub refused_call : (l : Lent) (n side p : ℕ) → read_slices l.slices ≡ refused_on n side p → Call l (untouched n side p l)
unfolding decision decision_of
refused_call l n side p e = sym (ap (λ (t : Taken). decision_of t l) e)

-- and what the slices say where they are accepted
pub inputs : {policy request withdrawals hierarchy : List ℕ} {x : Index} {h : Handed} {A : Accepted} {q : syntax.Request} {ws : List Withdrawal} {H : List Link}
    → Hands policy request withdrawals hierarchy x h A q ws H → Inputs (slices policy request withdrawals hierarchy) (read (policy_of A) q ws H)
inputs {policy} {request} {withdrawals} {hierarchy} {A = A} {q = q} {ws = ws} {H = H} k =
    let a = k.takes.accepts in
    of_slices (slices policy request withdrawals hierarchy) (read (policy_of A) q ws H) (record {
      read_as = (A, a.end, a.read, refl);
      asked_as = (a.last, a.asked);
      withdrawn_as = (k.withdraws.end, k.withdraws.read);
      ranked_as = (k.links.end, k.links.read);
    })
