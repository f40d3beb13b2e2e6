-- Safe requests, as rules (document 002's judgement, with document 01's stricter points): `Theorems.SafelyAsked` says that refusal 7 is given where they fail.
use Rattle.std.specs.Prelude.{List, [], ◌++◌, not, ℕ, T}
use Rattle.model.specs.Lists.{keep, all, member, among, without, apart}
use Rattle.model.specs.Syntax.{Expr, Fact, flat, can_say, Constraint, vars_of, vars_in, vars_test}
use Rattle.model.specs.Syntax.{Node, Nodes, says, test, all_of, any_of, non, exists, end, more}
use Rattle.model.specs.Requests.{free}
use Rattle.model.specs.Safety.{binders}

-- `Safe I n O`: where I are known before it, n is safe, and O are known after it
mutual
  pub data Safe : List ℕ → Node → List ℕ → Type 0 where
    -- "a flat says adds its variables"
    flat_says : {I : List ℕ} {e s : Expr} {v : ℕ} {ps : List Expr} → Safe I (says e (flat s v ps)) (vars_of e ++ vars_in (flat s v ps) ++ I)
    -- "a nested says needs its fact's known and adds its issuer's"
    nested_says : {I : List ℕ} {e s : Expr} {d : ℕ} {f : Fact Expr} → T (among (vars_in (can_say s d f)) I) → Safe I (says e (can_say s d f)) (vars_of e ++ I)
    -- "a constraint needs its variables known"
    compares : {I : List ℕ} {c : Constraint} → T (among (vars_test c) I) → Safe I (test c) I
    all_parts : {I O : List ℕ} {ns : Nodes} → SafeAll I ns O → Safe I (all_of ns) O
    any_part : {I O : List ℕ} {ns : Nodes} → SafeAny I ns O → Safe I (any_of ns) O
    -- "and a not its free ones"; stricter: "what a not holds is itself safe from the same set"
    negates : {I O : List ℕ} {n : Node} → T (among (free n) I) → Safe I n O → Safe I (non n) I
    -- "exists needs its variable unknown before and known after, then drops it"
    binds : {I O : List ℕ} {v : ℕ} {n : Node} → T (not (member v I)) → Safe I n O → T (member v O) → Safe I (exists v n) (without v O)

  -- "all-of hands the set on"
  pub data SafeAll : List ℕ → Nodes → List ℕ → Type 0 where
    no_more : {I : List ℕ} → SafeAll I end I
    then_all : {I J O : List ℕ} {n : Node} {ns : Nodes} → Safe I n J → SafeAll J ns O → SafeAll I (more n ns) O

  -- "any-of starts each part alike and keeps the intersection"
  pub data SafeAny : List ℕ → Nodes → List ℕ → Type 0 where
    last_part : {I O : List ℕ} {n : Node} → Safe I n O → SafeAny I (more n end) O
    or_any : {I J K : List ℕ} {n : Node} {ns : Nodes} → Safe I n J → SafeAny I ns K → SafeAny I (more n ns) (keep (λ v. member v K) J)

-- stricter: "all free variables are known at the end, a bound number is used nowhere outside its one binder"
pub record SafeRequest (n : Node) : Type 0 where
  pub known_after : List ℕ
  pub safely : Safe [] n known_after
  pub free_known : T (among (free n) known_after)
  pub one_binder : T (apart (binders n))
  pub bound_inside : T (all (λ v. not (member v (free n))) (binders n))
