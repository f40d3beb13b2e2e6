-- The walks find what the model says is free and what is bound.
use Rattle.std.specs.Prelude.{◌≡◌, ℕ, Bool, true, false, not, List, [], ◌∷◌, ◌++◌, get_or, set, Option, Some, None, option_and_then, if◌then◌else◌, eqb}
use Rattle.std.proofs.Common.{refl, sym, ◌∙◌, ap}
use lib.Seq.{set-get_or, set-set, set_comm}
use borrow.Author.Tests.{eqb-true, eqb-false}
use Rattle.model.specs.Lists.{only, without}
use Rattle.model.specs.Syntax.{Node, Nodes, says, test, all_of, any_of, non, exists, end, more, vars_of, vars_in}
use Rattle.model.specs.Requests.{free, free_all}
use Rattle.model.specs.Safety.{binders, binders_all}
use Rattle.phrases.specs.Marks.{marked}
use Rattle.phrases.proofs.Sets.{marked_append}
use Rattle.nodes.specs.Walk.{walked, all_walked, Settled}
use Rattle.safety.specs.Safety.{taken}
use Rattle.safety.specs.Walks.{free_steps, newly, binders_steps}

-- ---- free variables

-- without v, whatever its mark is then
set_apart : (v x : ℕ) (xs m : List ℕ) → set (marked xs m) v x ≡ marked (without v xs) (set m v x)
set_apart v x [] m = refl
set_apart v x (w ∷ ws) m = go (eqb v w) refl (λ k. set_apart v x ws k)
  where
    go : (b : Bool) → eqb v w ≡ b → ((k : List ℕ) → set (marked ws k) v x ≡ marked (without v ws) (set k v x))
        → set (marked ws (set m w 1)) v x ≡ marked (only (not b) w ++ without v ws) (set m v x)
    go true e ih = let d : v ≡ w = eqb-true v w e in rw (← d) (ih (set m v 1) ∙ ap (marked (without v ws)) (set-set m v 1 x))
    go false e ih = ih (set m w 1) ∙ ap (marked (without v ws)) (set_comm m w v 1 x (λ q. eqb-false v w e (sym q)))

set_back : (v : ℕ) (xs m : List ℕ) → set (marked xs m) v (get_or m v 0) ≡ marked (without v xs) m
set_back v xs m = set_apart v (get_or m v 0) xs m ∙ ap (marked (without v xs)) (set-get_or m v 0)

mutual
  unfolding walked all_walked

  pub free_walked : (n : Node) (m : List ℕ) → walked free_steps n m ≡ marked (free n) m
  free_walked (says e f) m = sym (marked_append (vars_of e) (vars_in f) m)
  free_walked (test c) m = refl
  free_walked (all_of ns) m = free_all_walked ns m
  free_walked (any_of ns) m = free_all_walked ns m
  free_walked (non n) m = free_walked n m
  free_walked (exists v n) m = ap (λ (u : List ℕ). set u v (get_or m v 0)) (free_walked n m) ∙ set_back v (free n) m

  free_all_walked : (ns : Nodes) (m : List ℕ) → all_walked free_steps ns m ≡ marked (free_all ns) m
  free_all_walked end m = refl
  free_all_walked (more n ns) m =
      free_all_walked ns (walked free_steps n m) ∙ ap (marked (free_all ns)) (free_walked n m) ∙ sym (marked_append (free n) (free_all ns) m)

-- ---- what is bound

under : (b : Bool) (x y : Option (List ℕ)) (g : List ℕ → Option (List ℕ)) → x ≡ option_and_then g y
    → (if b then x else None) ≡ option_and_then g (if b then y else None)
under true x y g p = p
under false x y g p = refl

taken_append : (xs ys m : List ℕ) → taken (xs ++ ys) m ≡ option_and_then (taken ys) (taken xs m)
unfolding taken
taken_append [] ys m = refl
taken_append (x ∷ xs) ys m = under (eqb (get_or m x 0) 0) _ _ (taken ys) (taken_append xs ys (set m x 1))

none_taken : (o : Option (List ℕ)) → o ≡ option_and_then (taken []) o
unfolding taken
none_taken None = refl
none_taken (Some m) = refl

one_taken : (v : ℕ) (xs : List ℕ) (o : Option (List ℕ)) → option_and_then (taken xs) (option_and_then (newly v) o) ≡ option_and_then (taken (v ∷ xs)) o
unfolding taken
one_taken v xs None = refl
one_taken v xs (Some m) = sym (under (eqb (get_or m v 0) 0) _ _ (taken xs) refl)

both_taken : (xs ys : List ℕ) (o : Option (List ℕ)) → option_and_then (taken ys) (option_and_then (taken xs) o) ≡ option_and_then (taken (xs ++ ys)) o
both_taken xs ys None = refl
both_taken xs ys (Some m) = sym (taken_append xs ys m)

mutual
  unfolding walked all_walked

  pub binders_walked : (n : Node) (o : Option (List ℕ)) → walked binders_steps n o ≡ option_and_then (taken (binders n)) o
  binders_walked (says e f) o = none_taken o
  binders_walked (test c) o = none_taken o
  binders_walked (all_of ns) o = binders_all_walked ns o
  binders_walked (any_of ns) o = binders_all_walked ns o
  binders_walked (non n) o = binders_walked n o
  binders_walked (exists v n) o = binders_walked n (option_and_then (newly v) o) ∙ one_taken v (binders n) o

  binders_all_walked : (ns : Nodes) (o : Option (List ℕ)) → all_walked binders_steps ns o ≡ option_and_then (taken (binders_all ns)) o
  binders_all_walked end o = none_taken o
  binders_all_walked (more n ns) o =
      binders_all_walked ns (walked binders_steps n o) ∙ ap (option_and_then (taken (binders_all ns))) (binders_walked n o)
      ∙ both_taken (binders n) (binders_all ns) o

-- once a number was not new, no node makes it so
pub binders_settled : Settled binders_steps None
binders_settled n = binders_walked n None
