-- What the code reads of the hierarchy by the tables of kinds and signatures is what the model reads by the constants and verbs.
use mathlib.Core.Path.{◌≡◌, refl, sym, ◌∙◌, ap}
use mathlib.Core.Bool.{Bool, true, false, not, cond}
use Rattle.std.specs.Prelude.{Ok, Err}
use mathlib.Core.List.{List}
use Prim.Native.Nat.{ℕ, zero, suc, ◌+◌, ◌-◌, ◌*◌, ◌≤◌, ◌<◌}
use native.Mathlib.Decide.{ℕ_discrete, dec_lt}
use native.Mathlib.Omega.{arith}
use lib.Dec.{eqb, ltb, eqb-suc-zero}
use lib.ListN.{length, drop, get_or}
use borrow.Author.Tests.{lt-ltb, le-ltb, le-leb, lt-leb, eq-eqb, ne_eqb}
use Rattle.model.specs.Limits.{max_links, link_bytes, version}
use Rattle.model.specs.Syntax.{Link, Constant, Verb}
use Rattle.model.specs.Kinds.{param_kinds, fits_link}
use Rattle.model.specs.Bytes.{byte_at, u16_at, choose, got, refused}
use Rattle.model.specs.Readings.{arity_of}
use Rattle.model.specs.Policies.{contents}
use Rattle.model.specs.Entries.{link_at, link_judged, link_item, computed_hierarchy, read_hierarchy}
use Rattle.model.proofs.EntryReader.{hierarchy_is}
use Rattle.model.proofs.ReadFacts.{choose_yes, choose_no}
use Rattle.model.proofs.Shifts.{rest_past, rest_byte, rest_u16}
use Rattle.phrases.specs.Tables.{Tables}
use Rattle.slices.specs.Steps.{Step, step}
use Rattle.slices.specs.declared.Reason.TheVariants.{Form, Unfit, OwnPart}
use Rattle.slices.specs.Items.{items_at}
use Rattle.slices.specs.Lists.{standing, item_by, only_list_by, count_of}
use Rattle.slices.proofs.ListFacts.{Reads}
use Rattle.slices.proofs.ListSteps.{only_list_is, only_list_got}
use Rattle.hierarchy.specs.Reading.{fits_by, check_by}

abbrev pub after : ℕ → ℕ
after at = at + link_bytes

-- ---- the entries of an accepted slice

module _ (cs : List Constant) (vs : List Verb) (s : List ℕ) where
  -- what an entry that is read is, and where it ends
  entry_got : (before : List Link) (at : ℕ) (x : Link) (e : ℕ) → link_item cs vs s before at ≡ got x e
      → (x ≡ link_at s at) × (e ≡ after at) × (e ≤ length s)
  unfolding link_item link_judged
  entry_got before at x e h =
      let a = choose_no _ _ 3 at x e h in
      let b = choose_no _ _ 5 at x e a.1 in
      let c = choose_no (ltb (length s) (at + link_bytes)) _ 3 at x e b.1 in
      let d = choose_yes _ _ 5 at x e c.1 in
      let f = choose_no _ _ 11 at x e d.1 in
      let g = f.1 in
      let v : link_at s at ≡ x = cc in
      let w : after at ≡ e = cc in
      let l : at + link_bytes ≤ length s = lib.Dec.nltb→le (length s) (at + link_bytes) c.0 in
      (sym v, sym w, omega arith)

  reads : Reads s (link_item cs vs s) (link_at s) after
  reads = record {
    value = λ before at x e h. (entry_got before at x e h).0;
    end = λ before at x e h. (entry_got before at x e h).1;
    within = λ before at x e h. (entry_got before at x e h).2;
  }

-- ---- entries by the tables

module _ {cs : List Constant} {vs : List Verb} {ks sg : List ℕ} (X : Tables cs vs ks sg) where
  module _ (s : List ℕ) where
    abbrev v : ℕ
    v = byte_at s 0

    abbrev p : ℕ
    p = byte_at s 1

    -- the verb is there: arity and kinds are its own
    fits_is : v ≤ length vs → fits_by ks sg s ≡ fits_link cs vs (link_at s 0)
    unfolding link_at arity_of
    fits_is h = go (ℕ_discrete v 0) (ℕ_discrete p 0) (dec_lt p (suc (arity_of vs v)))
      where
        go : Dec (v ≡ 0) → Dec (p ≡ 0) → Dec (p < suc (arity_of vs v)) → fits_by ks sg s ≡ fits_link cs vs (link_at s 0)
        go (yes e) d f = rw (eq-eqb v 0 e)
        go (no e) (yes d) f = rw (ne_eqb v 0 e, eq-eqb p 0 d, lt-leb 1 p (omega arith))
        go (no e) (no d) (no f) =
            rw (
              ne_eqb v 0 e,
              ne_eqb p 0 d,
              X.there v h,
              le-ltb p (suc (arity_of vs v)) (omega (arith, f)),
              le-leb 1 p (omega (arith, d)),
              lt-leb p (length (param_kinds vs v)) (omega (arith, f)),
            )
        go (no e) (no d) (yes f) =
            let i : 4 * v + p ≡ 4 * v + 1 + (p - 1) = omega (arith, d) in
            let k : byte_at sg (4 * v + p) ≡ get_or (param_kinds vs v) (p - 1) 0 = ap (byte_at sg) i ∙ X.params v (p - 1) h (omega (arith, d)) in
            rw (
              ne_eqb v 0 e,
              ne_eqb p 0 d,
              X.there v h,
              lt-ltb p (suc (arity_of vs v)) f,
              le-leb 1 p (omega (arith, d)),
              le-leb p (length (param_kinds vs v)) (omega arith),
              k,
              X.kinds (u16_at s 2),
              X.kinds (u16_at s 4),
            )

    -- a verb past the verbs has no row
    past_is : eqb (byte_at sg (4 * v)) 0 ≡ ltb (length vs) v
    past_is = go (dec_lt (length vs) v)
      where
        go : Dec (length vs < v) → eqb (byte_at sg (4 * v)) 0 ≡ ltb (length vs) v
        go (yes h) = eq-eqb (byte_at sg (4 * v)) 0 (X.past v h) ∙ sym (lt-ltb (length vs) v h)
        go (no h) =
            let l : v ≤ length vs = omega arith in
            ne_eqb (byte_at sg (4 * v)) 0 (λ z. let t = X.there v l in omega arith) ∙ sym (le-ltb (length vs) v l)

  -- the tests agree, one of the fit where the verb is there
  judge : {A : Type 0} (x : A) (at : ℕ) (a b c d f b' d' : Bool) → b ≡ b' → (b' ≡ false → d ≡ d')
      → standing at (cond a (Err Form) (cond b (Err Unfit) (cond c (Err Form) (cond (not d) (Err Unfit) (cond f (Err OwnPart) (Ok link_bytes))))))
      ≡ step (choose a (refused 3 at) (choose b' (refused 5 at)
      (choose c (refused 3 at) (choose d' (choose f (refused 11 at) (got x (after at))) (refused 5 at)))))
  unfolding choose step standing
  judge x at true b c d f b' d' p q = refl
  judge x at false b c d f true d' p q = rw p
  judge x at false b true d f false d' p q = rw p
  judge x at false b false true true false d' p q = rw (p, ← q refl)
  judge x at false b false true false false d' p q = rw (p, ← q refl)
  judge x at false b false false f false d' p q = rw (p, ← q refl)

  -- what the bytes from an offset on begin with is the entry at that offset
  pub entry_is : (s : List ℕ) (at : ℕ) (before : List Link) → item_by (check_by ks sg) s at ≡ step (link_item cs vs s before at)
  unfolding check_by link_item link_judged link_at
  entry_is s at before =
      let r = drop at s in
      let begun = none_begun (length r) ∙ rest_past s at 1 (at + 1) (omega arith) refl in
      let ends = rest_past s at 6 (at + 6) (omega arith) refl in
      let verb = rest_byte s at 0 at (omega arith) in
      let position = rest_byte s at 1 (at + 1) refl in
      let parent = rest_u16 s at 2 (at + 2) refl in
      let child = rest_u16 s at 4 (at + 4) refl in
      judge (link_at r 0) at (eqb (length r) 0) _ (ltb (length r) 6) (fits_by ks sg r) (eqb (u16_at r 2) (u16_at r 4)) (ltb (length vs) (byte_at r 0))
      (fits_link cs vs (link_at r 0)) (past_is r) (λ n. fits_is r (borrow.Author.Tests.ltb-false (length vs) (byte_at r 0) n))
      ∙ rw (begun, ends, verb, position, parent, child)
    where
      none_begun : (n : ℕ) → eqb n 0 ≡ ltb n 1
      none_begun zero = refl
      none_begun (suc n) = eqb-suc-zero n ∙ sym (le-ltb (suc n) 1 (omega arith))

-- ---- the slice

-- as many entries as the model reads
pub means : (ks sg s : List ℕ) (z : Step) → z ≡ only_list_by (check_by ks sg) s version max_links
    → (cs : List Constant) (vs : List Verb) → Tables cs vs ks sg → z ≡ count_of (read_hierarchy cs vs s)
unfolding computed_hierarchy
means ks sg s z h cs vs X =
    h ∙ only_list_is s (link_item cs vs s) (link_at s) after (reads cs vs s) version max_links (check_by ks sg) (entry_is X s)
    ∙ sym (ap count_of (hierarchy_is cs vs s))

-- the entries of an accepted slice stand one after another behind their count
pub entries_read : (cs : List Constant) (vs : List Verb) (s : List ℕ) (ls : List Link) (e : ℕ) → read_hierarchy cs vs s ≡ got ls e
    → (ls ≡ contents (items_at (link_at s) after (length ls) 7)) × (length ls ≤ max_links)
unfolding computed_hierarchy
entries_read cs vs s ls e h =
    only_list_got s (link_item cs vs s) (link_at s) after (reads cs vs s) version max_links ls e (sym (hierarchy_is cs vs s) ∙ h)
