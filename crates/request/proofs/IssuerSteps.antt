-- The request's issuers, one step on.
use Rattle.std.proofs.Common.{◌≡◌, refl, sym, ◌∙◌, ap, List, false, ℕ, ◌+◌, ◌-◌, ◌≤◌, ◌<◌, length, get_or, set, drop}
use native.Mathlib.Numerals.{add-one}
use lib.ListN.{drop_of_length-le}
use lib.Seq.{drop-cons}
use lib.Dec.{eqb, ltb}
use borrow.Author.Tests.{eq-eqb, ne_eqb, lt-ltb, le-ltb}
use Rattle.model.specs.Limits.{principal}
use Rattle.model.specs.Syntax.{con, var, today, World, Node, Nodes, says, test, all_of, any_of, non, exists, end, more}
use Rattle.model.specs.Values.{of_kind}
use Rattle.model.specs.Reach.{joining}
use Rattle.model.specs.Requests.{issuers, issuers_all}
use Rattle.model.specs.Bytes.{u16_at, choose}
use Rattle.model.specs.Readings.{expr_of, expr_at}
use Rattle.wire.proofs.Reading.{choose_true, choose_false}
use Rattle.phrases.specs.Marks.{marked}
use Rattle.phrases.proofs.Sets.{marked_append}
use Rattle.nodes.specs.Walk.{walked, all_walked}
use Rattle.request.specs.Issuing.{constants_by, issuer_steps as steps}

-- ---- all principals from constant c on

abbrev pub rest : List ℕ → ℕ → List ℕ → List ℕ
rest ks c u = marked (of_kind principal c (constants_by (drop c ks))) u

pub rest_end : (ks : List ℕ) (c : ℕ) (u : List ℕ) → length ks ≤ c → rest ks c u ≡ u
rest_end ks c u h = rw (drop_of_length-le ks h)

pub rest_yes : (ks : List ℕ) (c : ℕ) (u : List ℕ) → c < length ks → get_or ks c 0 ≡ 1 → rest ks c u ≡ rest ks (c + 1) (set u c 1)
rest_yes ks c u h e = rw (drop-cons ks c 0 h, e, add-one)

pub rest_no : (ks : List ℕ) (c : ℕ) (u : List ℕ) → c < length ks → (get_or ks c 0 ≡ 1 → ⊥) → rest ks c u ≡ rest ks (c + 1) u
rest_no ks c u h e =
    let f : eqb 1 (get_or ks c 0) ≡ false = ne_eqb 1 (get_or ks c 0) (λ z. e (sym z)) in
    rw (drop-cons ks c 0 h, f, add-one)

-- ---- an issuer

module _ (W : World) (s : List ℕ) (p : ℕ) (m : List ℕ) where
  pub issuer_today : u16_at s p ≡ 0x4000 → marked (joining W (expr_at s p)) m ≡ m
  unfolding expr_of
  issuer_today e = rw (eq-eqb (u16_at s p) 0x4000 e, choose_true today (choose (ltb (u16_at s p) 0x8000) (con (u16_at s p)) (var (u16_at s p - 0x8000))) refl)

  pub issuer_constant : (u16_at s p ≡ 0x4000 → ⊥) → u16_at s p < 0x8000 → marked (joining W (expr_at s p)) m ≡ set m (u16_at s p) 1
  unfolding expr_of
  issuer_constant e l =
      let x = u16_at s p in
      let other = choose (ltb x 0x8000) (con x) (var (x - 0x8000)) in
      rw (choose_false today other (ne_eqb x 0x4000 e), choose_true (con x) (var (x - 0x8000)) (lt-ltb x 0x8000 l))

  pub issuer_variable : (u16_at s p ≡ 0x4000 → ⊥) → 0x8000 ≤ u16_at s p → marked (joining W (expr_at s p)) m ≡ marked (of_kind principal 0 W.constants) m
  unfolding expr_of
  issuer_variable e l =
      let x = u16_at s p in
      let other = choose (ltb x 0x8000) (con x) (var (x - 0x8000)) in
      rw (choose_false today other (ne_eqb x 0x4000 e), choose_false (con x) (var (x - 0x8000)) (le-ltb x 0x8000 l))

pub ruleset issuer_steps = (issuer_today, issuer_constant, issuer_variable)

-- ---- nodes

module _ (W : World) where
  mutual
    unfolding walked all_walked

    pub issuers_walked : (n : Node) (m : List ℕ) → walked (steps W) n m ≡ marked (issuers n W) m
    issuers_walked (says e f) m = refl
    issuers_walked (test c) m = refl
    issuers_walked (all_of ns) m = issuers_all_walked ns m
    issuers_walked (any_of ns) m = issuers_all_walked ns m
    issuers_walked (non n) m = issuers_walked n m
    issuers_walked (exists v n) m = issuers_walked n m

    issuers_all_walked : (ns : Nodes) (m : List ℕ) → all_walked (steps W) ns m ≡ marked (issuers_all ns W) m
    issuers_all_walked end m = refl
    issuers_all_walked (more n ns) m =
        issuers_all_walked ns (walked (steps W) n m) ∙ ap (marked (issuers_all ns W)) (issuers_walked n m)
        ∙ sym (marked_append (issuers n W) (issuers_all ns W) m)
