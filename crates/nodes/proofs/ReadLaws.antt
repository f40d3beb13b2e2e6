-- The code's reading is the model's: with the cells handed on, kinds refuse the first node at which no choice of kinds fits all nodes so far.
use mathlib.Core.Path.{◌≡◌, refl, sym, ◌∙◌, ap, subst}
use mathlib.Core.Logic.{◌↔◌, ⊎_elim}
use mathlib.Core.Bool.{Bool, true, false}
use mathlib.Core.List.Memᴰ
use mathlib.Core.List.{List, [], ◌∷◌, ◌++◌, map, map-append}
use Prim.Native.Nat.{ℕ, zero, suc, ◌+◌}
use native.Mathlib.Omega.{arith}
use lib.ListN.{length}
use lib.Dec.{ltb, leb}
use Rattle.std.specs.Prelude.{◌||◌, not, if◌then◌else◌, is_some, option_and_then, Option, Some, None, Result, Ok, Err}
use borrow.Author.Tests.{leb-true}
use Rattle.model.specs.Lists.{each}
use Rattle.model.specs.Syntax.{Constant, Verb}
use Rattle.model.specs.Kinds.{Demands, no_demands, joined, places, says_demands, test_demands, fitting}
use Rattle.model.specs.Bytes.{byte_at, choose, Reading, got, refused, and_then}
use Rattle.model.specs.Readings.{expr_at, fact_at, constraint_at}
use Rattle.model.specs.Forms as forms
use Rattle.model.specs.Nodes.{parts_form, variable_form, check_parts, fitted, check_says, check_test, check_by, check_node}
use Rattle.model.proofs.ListFacts.{each_append}
use Rattle.wire.proofs.Reading.{choose_true, choose_false, both_first, both_second, past_end}
use Rattle.kinds.specs.Cells.{Cells, Ask, feed, nothing}
use Rattle.kinds.specs.Asks.{ask_place, ask_test, asks_for, Regular}
use Rattle.kinds.specs.Choices.{MeetsAll}
use Rattle.kinds.proofs.Laws.{feed_append}
use Rattle.kinds.proofs.Meaning.{meets_append}
use Rattle.kinds.proofs.Model.{fits_asks}
use Rattle.phrases.specs.Tables.{Tables}
use Rattle.phrases.specs.Phrases.{test_asks, code_form}
use Rattle.phrases.proofs.Model.{form_is, place_is, fact_asks_law, test_asks_law, places_regular}
use Rattle.nodes.specs.Tree.{shape_of, shape_at}
use Rattle.slices.specs.Steps.{number_of}
use Rattle.slices.specs.declared.Refusal.{Refusal}
use Rattle.slices.specs.declared.Reason.TheVariants as reasons
use Rattle.nodes.specs.Nodes.{stop, read_then, reads_by, own_form, fits_to, test_in, says_asks, says_to, says_in, read_of, formed_of, read_in}
use Rattle.nodes.specs.declared.Reached.{Reached}
use Rattle.nodes.specs.declared.shape.Shape.{Shape}
use Rattle.nodes.specs.declared.shape.Shape.TheVariants.{Says, Test, All, Any, Not, Exists}
use Rattle.nodes.proofs.TreeLaws.{by_bool, named, sort_is}

-- ---- what two items ask together

module _ (cs : List Constant) where
  meets_joined : (κ : List ℕ) (D E : Demands) → MeetsAll κ (asks_for cs (joined D E)) ↔ (MeetsAll κ (asks_for cs D) × MeetsAll κ (asks_for cs E))
  meets_joined κ D E =
      let pD = map (ask_place cs) D.places in
      let pE = map (ask_place cs) E.places in
      let tD = each D.tests (ask_test cs) in
      let tE = each E.tests (ask_test cs) in
      let whole = meets_append κ (map (ask_place cs) (D.places ++ E.places)) (each (D.tests ++ E.tests) (ask_test cs)) in
      let ps = meets_append κ pD pE in
      let ts = meets_append κ tD tE in
      let d = meets_append κ pD tD in
      let e = meets_append κ pE tE in
      let mp : map (ask_place cs) (D.places ++ E.places) ≡ pD ++ pE = map-append (ask_place cs) D.places E.places in
      let mt : each (D.tests ++ E.tests) (ask_test cs) ≡ tD ++ tE = each_append (ask_test cs) D.tests E.tests in (
        λ h.
            let w = whole.0 h in
            let a = ps.0 (subst (MeetsAll κ) mp w.0) in
            let b = ts.0 (subst (MeetsAll κ) mt w.1) in
            (d.1 (a.0, b.0), e.1 (a.1, b.1)),
        λ h.
            let a = d.0 h.0 in
            let b = e.0 h.1 in
            whole.1 (subst (MeetsAll κ) (sym mp) (ps.1 (a.0, b.0)), subst (MeetsAll κ) (sym mt) (ts.1 (a.1, b.1))),
      )

  regular_joined : (D E : Demands) → Regular cs D → Regular cs E → Regular cs (joined D E)
  regular_joined D E R S = record {
    constants = R.constants;
    places = λ p m. ⊎_elim (R.places p) (S.places p) (Memᴰ.append_cases D.places m);
    tests = λ c m. ⊎_elim (R.tests c) (S.tests c) (Memᴰ.append_cases D.tests m);
  }

  -- the cells t are what the items so far, which ask D, have left
  pub record State (t : Cells) (D : Demands) : Type 0 where
    pub asks : List Ask
    pub fed : feed asks nothing ≡ Some t
    pub alike : (κ : List ℕ) → MeetsAll κ asks ↔ MeetsAll κ (asks_for cs D)
    pub regular : Regular cs D

  pub state_fits : (t : Cells) (D : Demands) → State t D → fitting cs D ≡ true
  state_fits t D S = sym (fits_asks cs D S.regular S.asks (λ κ K. S.alike κ)) ∙ ap is_some S.fed

  -- a reading of the code agrees with one of the model
  abbrev pub Reads : Result Reached Refusal → Reading Demands → Type 0
  Reads (Ok r) (got D e) = (r.at ≡ e) × State r.cells D
  Reads (Err x) (refused n p) = (number_of x.reason ≡ n) × (x.place ≡ p)
  Reads (Ok r) (refused n p) = ⊥
  Reads (Err x) (got D e) = ⊥

  -- the cells where the model goes on
  pub reached_state : (g : Result Reached Refusal) (D : Demands) (e : ℕ) → Reads g (got D e) → (t : Cells) × State t D
  reached_state (Ok r) D e h = (r.cells, h.1)
  reached_state (Err x) D e h = absurd h

  -- what ends a reading, by a first test or by a second
  reads_unless : (a b : Bool) (x y : Result Reached Refusal) (u v : Reading Demands) → Reads x u → Reads (if not b then x else y) v
      → Reads (if a || not b then x else y) (choose a u v)
  unfolding choose
  reads_unless true b x y u v p q = p
  reads_unless false b x y u v p q = q

  reads_formed : (b : Bool) (x : Result Reached Refusal) (v : Reading Demands) (at : ℕ) → Reads x v
      → Reads (if b then x else stop reasons.Form at) (choose b v (refused 3 at))
  unfolding choose
  reads_formed true x v at p = p
  reads_formed false x v at p = (refl, refl)

  -- an item that asks E, after those that ask D
  module _ (t : Cells) (D E : Demands) (qs : List Ask) (S : State t D) (same-asks : (κ : List ℕ) → MeetsAll κ qs ↔ MeetsAll κ (asks_for cs E))
      (R : Regular cs E) where
    fed_on : feed (S.asks ++ qs) nothing ≡ feed qs t
    fed_on = feed_append S.asks qs nothing ∙ ap (option_and_then (feed qs)) S.fed

    both_met : (κ : List ℕ) → MeetsAll κ (S.asks ++ qs) ↔ MeetsAll κ (asks_for cs (joined D E))
    both_met κ =
        let a = meets_append κ S.asks qs in
        let b = meets_joined κ D E in (
          λ h. let w = a.0 h in b.1 ((S.alike κ).0 w.0, (same-asks κ).0 w.1),
          λ h. let w = b.0 h in a.1 ((S.alike κ).1 w.0, (same-asks κ).1 w.1),
        )

    fits_on : is_some (feed qs t) ≡ fitting cs (joined D E)
    fits_on = ap is_some (sym fed_on) ∙ fits_asks cs (joined D E) (regular_joined D E S.regular R) (S.asks ++ qs) (λ κ K. both_met κ)

    reads_item : (vs : List Verb) (s : List ℕ) (at e : ℕ) → Reads (fits_to (feed qs t) at e) (fitted cs vs s (joined D E) at e)
    unfolding fitted
    reads_item vs s at e = go (feed qs t) refl
      where
        go : (o : Option Cells) → feed qs t ≡ o → Reads (fits_to o at e) (choose (fitting cs (joined D E)) (got (joined D E) e) (refused 5 at))
        go (Some u) f =
            rw (choose_true (got (joined D E) e) (refused 5 at) (sym fits_on ∙ ap is_some f))
            (refl, record { asks = S.asks ++ qs; fed = fed_on ∙ f; alike = both_met; regular = regular_joined D E S.regular R })
        go None f = rw (choose_false (got (joined D E) e) (refused 5 at) (sym fits_on ∙ ap is_some f)) (refl, refl)

  reads_then : (g : Result Reached Refusal) (x : Reading Demands) (f : ℕ → Cells → Result Reached Refusal) (h : Demands → ℕ → Reading Demands) → Reads g x
      → ((t : Cells) (D : Demands) (p : ℕ) → State t D → Reads (f p t) (h D p)) → Reads (read_then g f) (and_then x h)
  unfolding and_then
  reads_then (Ok g) (got D e) f h r k = rw r.0 (k g.cells D e r.1)
  reads_then (Err g) (refused n p) f h r k = r
  reads_then (Ok g) (refused n p) f h r k = absurd r
  reads_then (Err g) (got D e) f h r k = absurd r

  abbrev Agree : (ℕ → Cells → Result Reached Refusal) → (Demands → ℕ → Reading Demands) → Type 0
  Agree f h = (at : ℕ) (t : Cells) (D : Demands) → State t D → Reads (f at t) (h D at)

  reads_parts : (f : ℕ → Cells → Result Reached Refusal) (h : Demands → ℕ → Reading Demands) → Agree f h → (n at : ℕ) (t : Cells) (D : Demands) → State t D
      → Reads (reads_by f n at t) (check_parts h n D at)
  unfolding reads_by check_parts
  reads_parts f h a zero at t D S = (refl, S)
  reads_parts f h a (suc n) at t D S = reads_then (f at t) (h D at) (reads_by f n) (check_parts h n) (a at t D S) (λ u E p T. reads_parts f h a n p u E T)

module _ {cs : List Constant} {vs : List Verb} {ks sg : List ℕ} (X : Tables cs vs ks sg) (s : List ℕ) where
  -- ---- says nodes and constraints

  says_met : (at : ℕ) (κ : List ℕ) → MeetsAll κ (says_asks ks sg s at) ↔ MeetsAll κ (asks_for cs (says_demands vs (expr_at s (at + 1)) (fact_at vs s (at + 3))))
  unfolding says_asks
  says_met at κ =
      let a = meets_append κ (ask_place cs (1, expr_at s (at + 1)) ∷ map (ask_place cs) (places vs (fact_at vs s (at + 3)))) [] in
      rw (place_is X s (at + 1), fact_asks_law X s (at + 3)) (λ h. a.1 (h, tt), λ h. (a.0 h).0)

  says_regular : (at : ℕ) → Regular cs (says_demands vs (expr_at s (at + 1)) (fact_at vs s (at + 3)))
  says_regular at = record {
    constants = X.constant_kinds;
    places = λ p m. ⊎_elim (λ e. rw e (omega arith, omega arith)) (places_regular X (fact_at vs s (at + 3)) p) (Memᴰ.cases_cons m);
    tests = λ c m. absurd (Memᴰ.not-nil m);
  }

  test_met : (p : ℕ) (κ : List ℕ) → MeetsAll κ (test_asks ks s p) ↔ MeetsAll κ (asks_for cs (test_demands (constraint_at s p)))
  test_met p κ = let a = meets_append κ (ask_test cs (constraint_at s p)) [] in rw (test_asks_law X s p) (λ h. a.1 (h, tt), λ h. (a.0 h).0)

  test_regular : (p : ℕ) → forms.operator_form s p ≡ true → Regular cs (test_demands (constraint_at s p))
  unfolding forms.operator_form
  test_regular p o = record {
    constants = X.constant_kinds;
    places = λ q m. absurd (Memᴰ.not-nil m);
    tests = λ c m.
        let n = byte_at s p in
        rw (Memᴰ.eq_of_singleton m)
        (leb-true 1 n (both_first (leb 1 n) (leb n 5) o), leb-true n 5 (both_second (leb 1 n) (leb n 5) o));
  }

  reads_says : (φ : forms.Form) (at : ℕ) (t : Cells) (D : Demands) → State cs t D → Reads cs (says_to ks sg s (code_form φ) at t) (check_says cs vs s φ D at)
  unfolding check_says
  reads_says (forms.ends e) at t D S = reads_item cs t D _ (says_asks ks sg s at) S (says_met at) (says_regular at) vs s at e
  reads_says forms.broken at t D S = (refl, refl)
  reads_says forms.no_verb at t D S = (refl, refl)

  reads_test : (at : ℕ) (t : Cells) (D : Demands) → State cs t D → Reads cs (test_in ks s at t) (check_test cs vs s D at)
  unfolding test_in check_test
  reads_test at t D S =
      reads_unless cs (ltb (length s) (at + 6)) (forms.operator_form s (at + 1)) (stop reasons.Form at) fits (refused 3 at) _ (refl, refl)
      (by_bool (forms.operator_form s (at + 1))
      (λ o.
      rw (choose_true asked (refused 3 at) o, o)
      (reads_item cs t D _ (test_asks ks s (at + 1)) S (test_met (at + 1)) (test_regular (at + 1) o) vs s at (at + 6)))
      (λ o. rw (choose_false asked (refused 3 at) o, o) (refl, refl)))
    where
      fits : Result Reached Refusal
      fits = fits_to (feed (test_asks ks s (at + 1)) t) at (at + 6)

      asked : Reading Demands
      asked = fitted cs vs s (joined D (test_demands (constraint_at s (at + 1)))) at (at + 6)

  -- ---- nodes

  reads_of : (k : Option Shape) (f : ℕ → Cells → Result Reached Refusal) (h : Demands → ℕ → Reading Demands) → Agree cs f h
      → (at : ℕ) (t : Cells) (D : Demands) → State cs t D
      → Reads cs (formed_of ks sg s k f at t) (check_by cs vs s (named k) h D at)
  unfolding own_form read_of check_by says_in
  reads_of (Some Says) f h a at t D S = rw (form_is X s (at + 3)) (reads_says (forms.fact_form vs s (length s) (at + 3)) at t D S)
  reads_of (Some Test) f h a at t D S = reads_test at t D S
  reads_of (Some All) f h a at t D S = reads_formed cs (parts_form s (at + 1)) _ _ at (reads_parts cs f h a (byte_at s (at + 1)) (at + 2) t D S)
  reads_of (Some Any) f h a at t D S = reads_formed cs (parts_form s (at + 1)) _ _ at (reads_parts cs f h a (byte_at s (at + 1)) (at + 2) t D S)
  reads_of (Some Not) f h a at t D S = a (at + 1) t D S
  reads_of (Some Exists) f h a at t D S = reads_formed cs (variable_form s (at + 1)) _ _ at (a (at + 2) t D S)
  reads_of None f h a at t D S = (refl, refl)

  -- THE LAW
  pub reads_node : (d at : ℕ) (t : Cells) (D : Demands) → State cs t D → Reads cs (read_in ks sg s d at t) (check_node cs vs s d D at)
  unfolding read_in check_node shape_of choose
  reads_node zero at t D S = (refl, refl)
  reads_node (suc d) at t D S =
      by_bool (leb (length s) at)
      (λ o. rw (o, past_end s at (leb-true (length s) at o)) (refl, refl))
      (λ o. rw (o, sort_is (byte_at s at)) (reads_of (shape_at s at) (read_in ks sg s d) (check_node cs vs s d) (λ p u E T. reads_node d p u E T) at t D S))

  pub state_none : State cs nothing no_demands
  unfolding feed
  state_none = record {
    asks = [];
    fed = refl;
    alike = λ κ. (λ h. h, λ h. h);
    regular = record { constants = X.constant_kinds; places = λ p m. absurd (Memᴰ.not-nil m); tests = λ c m. absurd (Memᴰ.not-nil m) };
  }
