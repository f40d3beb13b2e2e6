-- Kinds and bindings: which kinds fit, which bindings there are, what an answer binds. And requests that are asked safely.
use mathlib.Core.Path.{sym, ap, subst, ◌∙◌}
use Prim.Native.Nat.{◌≤◌, ◌<◌}
use native.Mathlib.Omega.{arith}
use native.Mathlib.Decide.{dec_lt}
use lib.ListN.{length, get_or, get_or-eq_default}
use Rattle.model.specs.Limits.{unbound}
use Rattle.model.specs.Lists.{all}
use Rattle.model.specs.Syntax.{Constant, Policy}
use Rattle.model.specs.Kinds.{no_constant, demands_in, in_place, comparable}
use Rattle.theorems.specs.Theorems as Q
use Rattle.model.proofs.ListFacts.{and_of}
use Rattle.model.proofs.ReadFacts.{accepted_count}
use Rattle.model.proofs.KindFacts.{fitting↔, one_kind_law}
use Rattle.model.proofs.DecisionFacts.{slice_by_slice_law}
use Rattle.theorems.proofs.ProperRequests.{safely_asked_law}
use Rattle.theorems.proofs.BoundVariables.{instances}
use Rattle.theorems.proofs.FreeVariables.{whole, free_placed, answering, answered}

pub kinds_fit : Q.KindsFit
kinds_fit cs D = (λ t. let w = (fitting↔ cs D).0 t in (w.0, (w.1, w.2, w.3)), λ w. (fitting↔ cs D).1 (w.0, w.1.0, w.1.1, w.1.2))

pub one_kind : Q.OneKind
one_kind cs D κ t v h = one_kind_law cs κ D.places (and_of (all (in_place cs κ) D.places) (all (comparable cs κ) D.tests) t).0 v h

pub instance_bindings : Q.InstanceBindings
instance_bindings policy P q r a m θ = instances policy P r q.today a m θ

pub answer_bindings : Q.AnswerBindings
answer_bindings s R h θ =
    let i = slice_by_slice_law s R h in
    answering s.policy s.request R.policy R.request i.read_as i.asked_as θ

pub whole_node_fits : Q.WholeNodeFits
whole_node_fits s R h =
    let i = slice_by_slice_law s R h in
    let P = R.policy in
    (kinds_fit P.constants (demands_in R.request.node P.verbs)).0 (whole s.policy s.request P R.request i.read_as i.asked_as).fit

pub below_unbound : Q.BelowUnbound
below_unbound policy P r c n = go (dec_lt c unbound)
  where
    few : length P.constants ≤ 255
    few = subst (λ (Q : Policy). length Q.constants ≤ 255) r.3 (accepted_count policy r.0 r.1 r.2)

    go : Dec (c < unbound) → c < unbound
    go (yes h) = h
    go (no h) = absurd (n (ap (λ (x : Constant). x.kind) (get_or-eq_default P.constants no_constant
        (let l : length P.constants ≤ c = omega (arith, few) in l))))

pub free_answers : Q.FreeAnswers
free_answers s R h θ a v t =
    let i = slice_by_slice_law s R h in
    let P = R.policy in
    let q = R.request in
    let k = answered s.policy s.request P q i.read_as i.asked_as θ a.0 v t in
    let placed = free_placed s.policy s.request P q i.read_as i.asked_as v t in
    (k.0, k.1, below_unbound s.policy P i.read_as (get_or θ v unbound) (λ z. placed (sym k.1 ∙ z)))

-- ---- safety

pub safely_asked : Q.SafelyAsked
safely_asked policy request P h n e r = safely_asked_law policy request P h n e r
