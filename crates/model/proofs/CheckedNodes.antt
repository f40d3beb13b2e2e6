-- What an accepted node is sure to have: it ends where its tree ends, it asked what its tree asks, and the tree is sound.
use mathlib.Core.Path.{◌≡◌, refl, sym, ◌∙◌, ap, subst}
use mathlib.Core.List.{List, append_assoc, append-nil}
use Prim.Native.Nat.{ℕ, zero, suc, ◌+◌, ◌≤◌, ◌<◌}
use native.Mathlib.Omega.{arith}
use lib.ListN.{length}
use lib.Dec.{ltb, leb}
use borrow.Author.Tests.{leb-true}
use Rattle.model.specs.Syntax.{Constant, Verb, Node, Nodes, says, test, all_of, any_of, non, exists, end, more}
use Rattle.model.specs.Kinds.{Demands, no_demands, joined, demands_in, demands_all, fitting}
use Rattle.model.specs.Bytes.{byte_at, Reading, got}
use Rattle.model.specs.Readings.{expr_at, fact_at, fact_end, constraint_at, Sort, says_sort, test_sort, all_sort, any_sort, not_sort, exists_sort, no_sort}
use Rattle.model.specs.Readings.{sort_of, ends_by, nodes_by, end_by, node_end, node_by, node_at}
use Rattle.model.specs.Forms.{Form, ends, broken, no_verb, fact_form}
use Rattle.model.specs.Nodes.{parts_form, variable_form, check_parts, fitted, check_says, check_test, check_by, check_node}
use Rattle.model.specs.Records.{Arity}
use Rattle.model.proofs.ReadFacts.{never, choose_yes, choose_no, and_then_got, levels_arity}
use Rattle.model.proofs.ReaderEnds.{form_ends}
use Rattle.model.proofs.Tests.{T_true, both_first, both_second}

-- ---- demands, one after another

joined_assoc : (D E F : Demands) → joined (joined D E) F ≡ joined D (joined E F)
joined_assoc D E F = rw (append_assoc D.places E.places F.places, append_assoc D.tests E.tests F.tests)

joined_none : (D : Demands) → D ≡ joined D no_demands
joined_none D = rw (append-nil D.places, append-nil D.tests)

-- ---- each verb has its number of parameters, an any-of has a part, a bound variable is one of the eight

module _ (vs : List Verb) where
  abbrev pub Some : Nodes → Type 0
  Some end = ⊥
  Some (more n ns) = Unit {0}

  abbrev mutual
    pub Sound : Node → Type 0
    Sound (says e f) = Arity vs f
    Sound (test c) = Unit {0}
    Sound (all_of ns) = SoundAll ns
    Sound (any_of ns) = Some ns × SoundAll ns
    Sound (non n) = Sound n
    Sound (exists v n) = (v < 8) × Sound n

    pub SoundAll : Nodes → Type 0
    SoundAll end = Unit {0}
    SoundAll (more n ns) = Sound n × SoundAll ns

  fact_arity : (s : List ℕ) (p : ℕ) → Arity vs (fact_at vs s p)
  unfolding fact_at
  fact_arity s p = levels_arity vs (byte_at s p) s (p + 1)

  -- ---- what reading makes sure of

  pub record Checked (D E : Demands) (e : ℕ) (n : Node) (q : ℕ) : Type 0 where
    pub to : e ≡ q
    pub asked : E ≡ joined D (demands_in n vs)
    pub sound : Sound n

  pub record CheckedAll (D E : Demands) (e : ℕ) (ns : Nodes) (q : ℕ) : Type 0 where
    pub to : e ≡ q
    pub asked : E ≡ joined D (demands_all ns vs)
    pub sound : SoundAll ns

  -- what `h` accepts is a node `f`, which ends at `g`
  abbrev pub Checks : (Demands → ℕ → Reading Demands) → (ℕ → Node) → (ℕ → ℕ) → Type 0
  Checks h f g = (D : Demands) (at : ℕ) (E : Demands) (e : ℕ) → h D at ≡ got E e → Checked D E e (f at) (g at)

  parts_checked : (h : Demands → ℕ → Reading Demands) (f : ℕ → Node) (g : ℕ → ℕ) → Checks h f g → (n : ℕ) (D : Demands) (at : ℕ) (E : Demands) (e : ℕ)
      → check_parts h n D at ≡ got E e
      → CheckedAll D E e (nodes_by f g n at) (ends_by g n at)
  unfolding check_parts nodes_by ends_by
  parts_checked h f g k zero D at E e r = record { to = let q : e ≡ at = cc in q; asked = let q : E ≡ D = cc in q ∙ joined_none D; sound = tt }
  parts_checked h f g k (suc n) D at E e r =
      let w = and_then_got (h D at) (check_parts h n) E e r in
      let a = k D at w.0 w.1 w.2 in
      let b = parts_checked h f g k n w.0 w.1 E e w.3 in
      let c : CheckedAll w.0 E e (nodes_by f g n (g at)) (ends_by g n (g at)) =
      subst (λ (p : ℕ). CheckedAll w.0 E e (nodes_by f g n p) (ends_by g n p)) a.to b in
      record {
        to = c.to;
        asked = c.asked ∙ ap (λ (F : Demands). joined F (demands_all (nodes_by f g n (g at)) vs)) a.asked
            ∙ joined_assoc D (demands_in (f at) vs) (demands_all (nodes_by f g n (g at)) vs);
        sound = (a.sound, c.sound);
      }

  module _ (cs : List Constant) (s : List ℕ) where
    fitted_got : (D : Demands) (at x : ℕ) (E : Demands) (e : ℕ) → fitted cs vs s D at x ≡ got E e → (E ≡ D) × (e ≡ x)
    unfolding fitted
    fitted_got D at x E e r = let w = (choose_yes (fitting cs D) (got D x) 5 at E e r).1 in (cc, cc)

    says_checked : (φ : Form) (D : Demands) (at : ℕ) (E : Demands) (e : ℕ) → fact_form vs s (length s) (at + 3) ≡ φ → check_says cs vs s φ D at ≡ got E e
        → Checked D E e (says (expr_at s (at + 1)) (fact_at vs s (at + 3))) (fact_end vs s (at + 3))
    unfolding check_says
    says_checked (ends x) D at E e q r =
        let w = fitted_got _ at x E e r in
        record { to = w.1 ∙ sym (form_ends vs s (length s) (at + 3) x q); asked = w.0; sound = fact_arity s (at + 3) }
    says_checked broken D at E e q r = absurd (never 3 at e E r)
    says_checked no_verb D at E e q r = absurd (never 5 at e E r)

    test_checked : (D : Demands) (at : ℕ) (E : Demands) (e : ℕ) → check_test cs vs s D at ≡ got E e → Checked D E e (test (constraint_at s (at + 1))) (at + 6)
    unfolding check_test
    test_checked D at E e r =
        let w = fitted_got _ at (at + 6) E e (choose_yes _ _ 3 at E e (choose_no _ _ 3 at E e r).1).1 in
        record { to = w.1; asked = w.0; sound = tt }

    some_part : (f : ℕ → Node) (g : ℕ → ℕ) (n at : ℕ) → 1 ≤ n → Some (nodes_by f g n at)
    unfolding nodes_by
    some_part f g zero at h = absurd (omega arith)
    some_part f g (suc n) at h = tt

    by_checked : (k : Sort) (h : Demands → ℕ → Reading Demands) (f : ℕ → Node) (g : ℕ → ℕ) → Checks h f g → (D : Demands) (at : ℕ) (E : Demands) (e : ℕ)
        → check_by cs vs s k h D at ≡ got E e
        → Checked D E e (node_by vs s k f g at) (end_by vs s k g at)
    unfolding check_by node_by end_by parts_form variable_form
    by_checked says_sort h f g c D at E e r = says_checked (fact_form vs s (length s) (at + 3)) D at E e refl r
    by_checked test_sort h f g c D at E e r = test_checked D at E e r
    by_checked all_sort h f g c D at E e r =
        let w = parts_checked h f g c (byte_at s (at + 1)) D (at + 2) E e (choose_yes _ _ 3 at E e r).1 in
        record { to = w.to; asked = w.asked; sound = w.sound }
    by_checked any_sort h f g c D at E e r =
        let y = choose_yes _ _ 3 at E e r in
        let w = parts_checked h f g c (byte_at s (at + 1)) D (at + 2) E e y.1 in
        let o = leb-true 1 (byte_at s (at + 1)) (both_first (leb 1 (byte_at s (at + 1))) (leb (byte_at s (at + 1)) 8) (T_true _ y.0)) in
        record { to = w.to; asked = w.asked; sound = (some_part f g (byte_at s (at + 1)) (at + 2) o, w.sound) }
    by_checked not_sort h f g c D at E e r = let w = c D (at + 1) E e r in record { to = w.to; asked = w.asked; sound = w.sound }
    by_checked exists_sort h f g c D at E e r =
        let y = choose_yes _ _ 3 at E e r in
        let w = c D (at + 2) E e y.1 in
        let o = leb-true (byte_at s (at + 1)) 7 (both_second (ltb (at + 1) (length s)) (leb (byte_at s (at + 1)) 7) (T_true _ y.0)) in
        record { to = w.to; asked = w.asked; sound = (omega arith, w.sound) }
    by_checked no_sort h f g c D at E e r = absurd (never 3 at e E r)

    pub node_checked : (d : ℕ) → Checks (check_node cs vs s d) (node_at vs s d) (node_end vs s d)
    unfolding check_node node_at node_end
    node_checked zero D at E e r = absurd (never 3 at e E r)
    node_checked (suc d) D at E e r = by_checked (sort_of (byte_at s at)) (check_node cs vs s d) (node_at vs s d) (node_end vs s d) (node_checked d) D at E e
        (choose_no _ _ 3 at E e r).1
