-- The readers of constants and verbs read what stands at an offset.
use mathlib.Core.Path.{◌≡◌}
use mathlib.Core.Bool.{Bool, true}
use mathlib.Core.List.{List}
use Prim.Native.Nat.{ℕ}
use Rattle.model.specs.Bytes.{choose, got, refused}
use Rattle.model.specs.Syntax.{Constant, Verb}
use Rattle.model.specs.Readings.{item_end, constant_read_at, verb_at}
use Rattle.model.specs.Forms.{constant_form, verb_form}
use Rattle.model.specs.Policies.{constant_item, verb_item}
use Rattle.model.proofs.ReadFacts.{choose_yes, choose_no}
use Rattle.names.proofs.FormFacts.{constant_within, verb_within}
use Rattle.slices.proofs.ListFacts.{Reads, T_true}

-- an item that is read: of right form, not alike, what stands at its offset
module _ {A : Type 0} (form alike : Bool) (v x : A) (at f e : ℕ) where
  item_got : choose form (choose alike (refused 4 at) (got v f)) (refused 3 at) ≡ got x e → (form ≡ true) × (x ≡ v) × (e ≡ f)
  item_got h =
      let a = choose_yes form _ 3 at x e h in
      let b = (choose_no alike _ 4 at x e a.1).1 in
      let p : x ≡ v = cc in
      let q : e ≡ f = cc in
      (T_true form a.0, p, q)

module _ (s : List ℕ) where
  pub constant_reads : Reads s (constant_item s) (constant_read_at s) (item_end s)
  unfolding constant_item
  constant_reads = record {
    value = λ cs at x e h. (item_got _ _ _ x at _ e h).1;
    end = λ cs at x e h. (item_got _ _ _ x at _ e h).2;
    within = λ cs at x e h. let r = item_got _ _ _ x at _ e h in rw r.2 (constant_within s at r.0);
  }

  pub verb_reads : Reads s (verb_item s) (verb_at s) (item_end s)
  unfolding verb_item
  verb_reads = record {
    value = λ vs at x e h. (item_got _ _ _ x at _ e h).1;
    end = λ vs at x e h. (item_got _ _ _ x at _ e h).2;
    within = λ vs at x e h. let r = item_got _ _ _ x at _ e h in rw r.2 (verb_within s at r.0);
  }

  pub constant_right : (cs : List Constant) (at : ℕ) (x : Constant) (e : ℕ) → constant_item s cs at ≡ got x e → constant_form s at ≡ true
  unfolding constant_item
  constant_right cs at x e h = (item_got _ _ _ x at _ e h).0

  pub verb_right : (vs : List Verb) (at : ℕ) (x : Verb) (e : ℕ) → verb_item s vs at ≡ got x e → verb_form s at ≡ true
  unfolding verb_item
  verb_right vs at x e h = (item_got _ _ _ x at _ e h).0
