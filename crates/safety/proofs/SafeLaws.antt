-- Safety on marks is the model's safety on lists, where the variables are among the eight.
use mathlib.Core.Path.{◌≡◌, refl, sym, ◌∙◌, ap, ap₂}
use mathlib.Core.Logic.{⊎_elim}
use mathlib.Core.Bool.{Bool, true, false, cond, ◌&&◌, ◌||◌, not, or_comm, and-false}
use mathlib.Core.Option as option
use mathlib.Core.Option.{Option, some}
use mathlib.Core.List.Memᴰ
use mathlib.Core.List.{List, [], ◌∷◌, ◌++◌, Memᴰ}
use Prim.Native.Nat.{ℕ, ◌<◌}
use native.Mathlib.Omega.{arith}
use lib.ListN.{get_or, set}
use lib.Seq.{ext_get_or}
use lib.Dec.{eqb}
use Rattle.model.specs.Lists.{all, keep, member, among, without, apart}
use Rattle.model.specs.Syntax.{flat, can_say, Node, Nodes, says, test, all_of, any_of, non, exists, end, more, vars_of, vars_in, vars_test}
use Rattle.model.specs.Requests.{free, free_all}
use Rattle.model.specs.Safety.{provided, onward, known, known_all, known_any, binders, binders_all, is_safe, safe_request}
use Rattle.model.proofs.ListFacts.{keep_of, member_append}
use Rattle.model.proofs.BindingFacts.{at_variable}
use Rattle.phrases.specs.Marks.{none, marked, meet}
use Rattle.phrases.proofs.Sets.{marked_append, marked_length, marked_at, within_is, meet_is, drop_is, mark_is}
use Rattle.std.specs.Prelude.{Option as Answer, Some, None, option_and_then, if◌then◌else◌}
use Rattle.safety.specs.Safety.{taken, needed, dropped, known_says, known_in, known_all_in, known_any_in, judged_known, judged_in}
use Rattle.model.proofs.Tests.{eqb_turned}
use Rattle.safety.specs.declared.Judged.{Judged}

-- ---- marks

none_at : (v : ℕ) → v < 8 → get_or none v 0 ≡ 0
none_at v h = at_variable (λ _. 0) v h

pub mark_at : (xs : List ℕ) (v : ℕ) → v < 8 → get_or (marked xs none) v 0 ≡ cond (member v xs) 1 0
mark_at xs v h = marked_at xs none v h ∙ ap (cond (member v xs) 1) (none_at v h)

zero_test : (b : Bool) → eqb (cond b 1 0) 0 ≡ not b
zero_test true = refl
zero_test false = refl

out : (vs : List ℕ) (v : ℕ) → v < 8 → eqb (get_or (marked vs none) v 0) 0 ≡ not (member v vs)
out vs v h = rw (mark_at vs v h) (zero_test (member v vs))

-- lists with the same members have the same marks
pub same_marks : (xs ys : List ℕ) → ((v : ℕ) → member v xs ≡ member v ys) → marked xs none ≡ marked ys none
same_marks xs ys e =
    ext_get_or 0 (marked xs none) (marked ys none) (marked_length xs none ∙ sym (marked_length ys none))
    (λ v h. let l : v < 8 = omega (arith, marked_length xs none) in mark_at xs v l ∙ ap (λ (b : Bool). cond b 1 0) (e v) ∙ sym (mark_at ys v l))

pub swap : (xs ys : List ℕ) → marked (xs ++ ys) none ≡ marked (ys ++ xs) none
swap xs ys = same_marks (xs ++ ys) (ys ++ xs) (λ v. member_append v xs ys ∙ or_comm (member v xs) (member v ys) ∙ sym (member_append v ys xs))

swapped : (w : ℕ) (xs ys zs : List ℕ) → member w (xs ++ (ys ++ zs)) ≡ member w (ys ++ xs ++ zs)
swapped w xs ys zs =
    member_append w xs (ys ++ zs) ∙ ap (λ (b : Bool). member w xs || b) (member_append w ys zs) ∙ three (member w xs) (member w ys) (member w zs)
    ∙ ap (λ (b : Bool). b || member w zs) (sym (member_append w ys xs)) ∙ sym (member_append w (ys ++ xs) zs)
  where
    three : (a b c : Bool) → (a || (b || c)) ≡ (b || a || c)
    three true true c = refl
    three true false c = refl
    three false true c = refl
    three false false c = refl

-- with xs, after vs
added : (xs vs : List ℕ) → marked xs (marked vs none) ≡ marked (xs ++ vs) none
added xs vs = sym (marked_append vs xs none) ∙ swap vs xs

-- ---- what is known

-- the model's list of known variables, as marks
abbrev known_as : Option (List ℕ) → Answer (List ℕ)
known_as option.none = None
known_as (some ws) = Some (marked ws none)

provided_is : (b : Bool) (o : Option (List ℕ)) → (if b then known_as o else None) ≡ known_as (provided b o)
provided_is true o = refl
provided_is false o = refl

onward_is : (o : Option (List ℕ)) (f : List ℕ → Answer (List ℕ)) (g : List ℕ → Option (List ℕ)) → ((ws : List ℕ) → f (marked ws none) ≡ known_as (g ws))
    → option_and_then f (known_as o) ≡ known_as (onward o g)
onward_is option.none f g h = refl
onward_is (some ws) f g h = h ws

then_is : (k : Answer (List ℕ)) (o : Option (List ℕ)) (f : List ℕ → Answer (List ℕ)) (g : List ℕ → Option (List ℕ)) → k ≡ known_as o
    → ((ws : List ℕ) → f (marked ws none) ≡ known_as (g ws)) → option_and_then f k ≡ known_as (onward o g)
then_is k o f g e h = rw e (onward_is o f g h)

abbrev pub Below : List ℕ → Type 0
Below xs = (v : ℕ) → Memᴰ v xs → v < 8

needed_is : (xs vs u : List ℕ) → Below xs → needed (marked xs none) (marked vs none) u ≡ (if among xs vs then Some u else None)
needed_is xs vs u h = rw (within_is xs vs h)

-- what is needed, and then f
needed_then : (b : Bool) (m : List ℕ) (f : List ℕ → Answer (List ℕ)) (o : Option (List ℕ)) → f m ≡ known_as o
    → option_and_then f (if b then Some m else None) ≡ known_as (provided b o)
needed_then true m f o h = h
needed_then false m f o h = refl

dropped_is : (v : ℕ) (ws : List ℕ) → v < 8 → dropped v (marked ws none) ≡ known_as (provided (member v ws) (some (without v ws)))
dropped_is v ws h = rw (mark_is ws v h, drop_is v ws) (provided_is (member v ws) (some (without v ws)))

-- ---- nodes whose variables are among the eight

abbrev mutual
  pub Small : Node → Type 0
  Small (says e f) = Below (vars_of e ++ vars_in f)
  Small (test c) = Below (vars_test c)
  Small (all_of ns) = SmallAll ns
  Small (any_of ns) = SmallAll ns
  Small (non n) = Small n
  Small (exists v n) = (v < 8) × Small n

  pub SmallAll : Nodes → Type 0
  SmallAll end = Unit {0}
  SmallAll (more n ns) = Small n × SmallAll ns

mutual
  pub free_below : (n : Node) → Small n → Below (free n)
  free_below (says e f) h = h
  free_below (test c) h = h
  free_below (all_of ns) h = free_all_below ns h
  free_below (any_of ns) h = free_all_below ns h
  free_below (non n) h = free_below n h
  free_below (exists v n) h = λ w m. free_below n h.1 w (keep_of (λ x. not (eqb v x)) (free n) m).0

  free_all_below : (ns : Nodes) → SmallAll ns → Below (free_all ns)
  free_all_below end h = λ w m. absurd (Memᴰ.not-nil m)
  free_all_below (more n ns) h = λ w m. ⊎_elim (free_below n h.0 w) (free_all_below ns h.1 w) (Memᴰ.append_cases (free n) m)

mutual
  pub binders_below : (n : Node) → Small n → Below (binders n)
  binders_below (says e f) h = λ w m. absurd (Memᴰ.not-nil m)
  binders_below (test c) h = λ w m. absurd (Memᴰ.not-nil m)
  binders_below (all_of ns) h = binders_all_below ns h
  binders_below (any_of ns) h = binders_all_below ns h
  binders_below (non n) h = binders_below n h
  binders_below (exists v n) h = λ w m. ⊎_elim (λ e. rw e h.0) (binders_below n h.1 w) (Memᴰ.cases_cons m)

  binders_all_below : (ns : Nodes) → SmallAll ns → Below (binders_all ns)
  binders_all_below end h = λ w m. absurd (Memᴰ.not-nil m)
  binders_all_below (more n ns) h = λ w m. ⊎_elim (binders_below n h.0 w) (binders_all_below ns h.1 w) (Memᴰ.append_cases (binders n) m)

mutual
  unfolding known_in known_all_in known_any_in known_says

  pub known_is : (n : Node) (vs : List ℕ) → Small n → known_in n (marked vs none) ≡ known_as (known n vs)
  known_is (says e (flat s v ps)) vs h =
      ap Some
      (ap (marked (vars_in (flat s v ps))) (added (vars_of e) vs) ∙ added (vars_in (flat s v ps)) (vars_of e ++ vs)
      ∙ same_marks (vars_in (flat s v ps) ++ (vars_of e ++ vs)) (vars_of e ++ vars_in (flat s v ps) ++ vs)
      (λ w. swapped w (vars_in (flat s v ps)) (vars_of e) vs))
  known_is (says e (can_say s d f)) vs h =
      needed_is (vars_in (can_say s d f)) vs (marked (vars_of e) (marked vs none)) (λ w m. h w (Memᴰ.append_right (vars_of e) m))
      ∙ ap (λ (u : List ℕ). if among (vars_in (can_say s d f)) vs then Some u else None) (added (vars_of e) vs)
      ∙ provided_is (among (vars_in (can_say s d f)) vs) (some (vars_of e ++ vs))
  known_is (test c) vs h = needed_is (vars_test c) vs (marked vs none) h ∙ provided_is (among (vars_test c) vs) (some vs)
  known_is (all_of ns) vs h = known_all_is ns vs h
  known_is (any_of ns) vs h = known_any_is ns vs h
  known_is (non n) vs h =
      let K = known_in n (marked vs none) in
      let rest = then_is K (known n vs) (λ _. Some (marked vs none)) (λ ws. some vs) (known_is n vs h) (λ ws. refl) in
      ap (option_and_then (λ _. option_and_then (λ _. Some (marked vs none)) K)) (needed_is (free n) vs (marked vs none) (free_below n h))
      ∙ needed_then (among (free n) vs) (marked vs none) _ (onward (known n vs) (λ ws. some vs)) rest
  known_is (exists v n) vs h =
      ap₂ (λ (b : Bool) (k : Answer (List ℕ)). if b then k else None) (out vs v h.0)
      (then_is (known_in n (marked vs none)) (known n vs) (dropped v) (λ ws. provided (member v ws) (some (without v ws)))
      (known_is n vs h.1) (λ ws. dropped_is v ws h.0))
      ∙ provided_is (not (member v vs)) (onward (known n vs) (λ ws. provided (member v ws) (some (without v ws))))

  known_all_is : (ns : Nodes) (vs : List ℕ) → SmallAll ns → known_all_in ns (marked vs none) ≡ known_as (known_all ns vs)
  known_all_is end vs h = refl
  known_all_is (more n ns) vs h =
      then_is (known_in n (marked vs none)) (known n vs) (known_all_in ns) (known_all ns) (known_is n vs h.0) (λ ws. known_all_is ns ws h.1)

  known_any_is : (ns : Nodes) (vs : List ℕ) → SmallAll ns → known_any_in ns (marked vs none) ≡ known_as (known_any ns vs)
  known_any_is end vs h = refl
  known_any_is (more n ns) vs h =
      then_is (known_in n (marked vs none)) (known n vs) _ (λ ws. onward (known_any ns vs) (λ us. some (keep (λ w. member w us) ws))) (known_is n vs h.0)
      (λ ws. then_is (known_any_in ns (marked vs none)) (known_any ns vs) (λ w. Some (meet 8 (marked ws none) w)) (λ us. some (keep (λ w. member w us) ws))
      (known_any_is ns vs h.1) (λ us. ap Some (meet_is ws us)))

-- ---- binders

all_out : (v : ℕ) (vs xs : List ℕ) → all (λ w. not (member w (v ∷ vs))) xs ≡ (not (member v xs) && all (λ w. not (member w vs)) xs)
all_out v vs [] = refl
all_out v vs (x ∷ xs) = step (eqb x v) (eqb v x) (eqb_turned x v) (member x vs) (member v xs) (all (λ w. not (member w vs)) xs) (all_out v vs xs)
  where
    step : (a b : Bool) → a ≡ b → (c d e : Bool) {r : Bool} → r ≡ (not d && e) → (not (a || c) && r) ≡ (not (b || d) && (not c && e))
    step true b p c d e q = rw (← p)
    step false b p true d e q = rw (← p) (sym (and-false (not d)))
    step false b p false d e q = rw (← p) q

taken_is : (xs vs : List ℕ) → Below xs
    → taken xs (marked vs none) ≡ (if apart xs && all (λ v. not (member v vs)) xs then Some (marked xs (marked vs none)) else None)
unfolding taken
taken_is [] vs h = refl
taken_is (x ∷ xs) vs h =
    let l : x < 8 = h x (Memᴰ.head refl) in
    let one : marked (x ∷ []) (marked vs none) ≡ marked (x ∷ vs) none = added (x ∷ []) vs in
    let m = set (marked vs none) x 1 in
    let ih : taken xs m ≡ (if apart xs && all (λ v. not (member v (x ∷ vs))) xs then Some (marked xs m) else None) =
    rw one (taken_is xs (x ∷ vs) (λ v m. h v (Memᴰ.tail m))) in
    let later = ih ∙ ap (λ (b : Bool). if apart xs && b then Some (marked xs m) else None) (all_out x vs xs) in
    rw (out vs x l) (ap (λ (k : Answer (List ℕ)). if not (member x vs) then k else None) later
    ∙ sum (not (member x vs)) (apart xs) (not (member x xs)) (all (λ v. not (member v vs)) xs) (Some (marked xs m)))
  where
    sum : (a b c d : Bool) (k : Answer (List ℕ)) → (if a then (if b && (c && d) then k else None) else None) ≡ (if (c && b) && (a && d) then k else None)
    sum true true true d k = refl
    sum true true false d k = refl
    sum true false true d k = refl
    sum true false false d k = refl
    sum false true true d k = refl
    sum false true false d k = refl
    sum false false true d k = refl
    sum false false false d k = refl

-- ---- the whole request

-- THE LAW
pub judged_is : (n : Node) → Small n
    → judged_in n ≡ (if safe_request n then Some (record { free = marked (free n) none; used = marked (binders n) (marked (free n) none) }) else None)
unfolding judged_in
judged_is n h =
    rw (taken_is (binders n) (free n) (binders_below n h), known_is n [] h)
    (go (apart (binders n)) (all (λ v. not (member v (free n))) (binders n)) (known n []))
  where
    f : List ℕ
    f = marked (free n) none

    u : List ℕ
    u = marked (binders n) (marked (free n) none)

    safely : Answer Judged
    safely = Some (record { free = f; used = u })

    last : (c : Bool) → (if c then safely else None) ≡ (if c && true && true then safely else None)
    last true = refl
    last false = refl

    go : (a b : Bool) (o : Option (List ℕ))
        → option_and_then (λ u. option_and_then (judged_known f u) (known_as o)) (if a && b then Some u else None)
        ≡ (if is_safe o (free n) && a && b then safely else None)
    go true true option.none = refl
    go true true (some ws) = rw (within_is (free n) ws (free_below n h)) (last (among (free n) ws))
    go true false option.none = refl
    go true false (some ws) = ap (λ (b : Bool). if b then safely else None) (sym (and-false (among (free n) ws && true)))
    go false b option.none = refl
    go false b (some ws) = ap (λ (c : Bool). if c && b then safely else None) (sym (and-false (among (free n) ws)))
