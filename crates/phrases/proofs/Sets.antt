-- Marks are sets of variables: what the model says of lists of variables, said of their marks.
use mathlib.Core.Path.{◌≡◌, refl, sym, ◌∙◌, ap, subst}
use mathlib.Core.Bool.{Bool, true, false, ◌||◌, ◌&&◌, not, cond}
use mathlib.Core.List.{List, [], ◌∷◌, ◌++◌, Memᴰ}
use Prim.Native.Nat.{ℕ, zero, suc, ◌≤◌, ◌<◌}
use native.Mathlib.Omega.{arith}
use lib.Dec.{T, eqb, eqb→eq}
use lib.ListN.{length, get_or, set, length-set}
use lib.Seq.{get_or-set_same, get_or-set_other, ext_get_or}
use borrow.Author.Tests.{eq-eqb, ne_eqb}
use Rattle.model.specs.Lists.{keep, member, among, without}
use Rattle.model.proofs.ListFacts.{and_of, and_in, all_of_law, all_in, keep_of, keep_in, member_of, member_in}
use Rattle.phrases.specs.Marks.{none, marked, within, meet}
use Rattle.model.proofs.Tests.{true_T, by_eq, T_iff, eqb_turned}
use Rattle.std.proofs.lemmas.Bool.{false_from_ne_true}

pub marked_append : (xs ys m : List ℕ) → marked (xs ++ ys) m ≡ marked ys (marked xs m)
marked_append [] ys m = refl
marked_append (x ∷ xs) ys m = marked_append xs ys (set m x 1)

pub marked_length : (vs m : List ℕ) → length (marked vs m) ≡ length m
marked_length [] m = refl
marked_length (v ∷ vs) m = marked_length vs (set m v 1) ∙ length-set m v 1

set_at_law : (m : List ℕ) (v w x : ℕ) → w < length m → get_or (set m v x) w 0 ≡ cond (eqb w v) x (get_or m w 0)
set_at_law m v w x l = by_eq w v
    (λ e. rw (eq-eqb w v e) (rw e (get_or-set_same m v x 0 (rw (sym e) l))))
    (λ n. rw (ne_eqb w v n) (get_or-set_other m v w x 0 n))

cond_or : (a b : Bool) (x : ℕ) → cond b 1 (cond a 1 x) ≡ cond (a || b) 1 x
cond_or true true x = refl
cond_or true false x = refl
cond_or false true x = refl
cond_or false false x = refl

pub marked_at : (vs m : List ℕ) (v : ℕ) → v < length m → get_or (marked vs m) v 0 ≡ cond (member v vs) 1 (get_or m v 0)
marked_at [] m v l = refl
marked_at (w ∷ vs) m v l =
    marked_at vs (set m w 1) v (rw (length-set m w 1) l)
    ∙ ap (cond (member v vs) 1) (set_at_law m w v 1 l)
    ∙ cond_or (eqb v w) (member v vs) (get_or m v 0)

none_at : (v : ℕ) → get_or none v 0 ≡ 0
none_at zero = refl
none_at (suc zero) = refl
none_at (suc (suc zero)) = refl
none_at (suc (suc (suc zero))) = refl
none_at (suc (suc (suc (suc zero)))) = refl
none_at (suc (suc (suc (suc (suc zero))))) = refl
none_at (suc (suc (suc (suc (suc (suc zero)))))) = refl
none_at (suc (suc (suc (suc (suc (suc (suc zero))))))) = refl
none_at (suc (suc (suc (suc (suc (suc (suc (suc v)))))))) = refl

-- a mark
abbrev bit : Bool → ℕ
bit b = cond b 1 0

mark_bit : (b : Bool) → eqb (bit b) 1 ≡ b
mark_bit true = refl
mark_bit false = refl

of_none : (vs : List ℕ) (v : ℕ) → v < 8 → get_or (marked vs none) v 0 ≡ bit (member v vs)
of_none vs v l = marked_at vs none v l ∙ ap (cond (member v vs) 1) (none_at v)

pub mark_is : (vs : List ℕ) (v : ℕ) → v < 8 → eqb (get_or (marked vs none) v 0) 1 ≡ member v vs
mark_is vs v l = ap (λ (x : ℕ). eqb x 1) (of_none vs v l) ∙ mark_bit (member v vs)

-- `within`, mark by mark

module _ (a b : List ℕ) where
  abbrev Held : ℕ → Type 0
  Held v = T (eqb (get_or a v 0) 1) → T (eqb (get_or b v 0) 1)

  imp_of : (p q : Bool) → T (not p || q) → T p → T q
  imp_of true q t u = t
  imp_of false q t u = absurd u

  imp_in : (p q : Bool) → (T p → T q) → T (not p || q)
  imp_in true q f = f tt
  imp_in false q f = tt

  within_of : (n : ℕ) → T (within n a b) → (v : ℕ) → v < n → Held v
  unfolding within
  within_of zero t v l = absurd (omega arith)
  within_of (suc n) t v l =
      let r = and_of (within n a b) (not (eqb (get_or a n 0) 1) || eqb (get_or b n 0) 1) t in
      by_eq v n
      (λ (e : v ≡ n). rw e (imp_of (eqb (get_or a n 0) 1) (eqb (get_or b n 0) 1) r.1))
      (λ (d : v ≡ n → ⊥). within_of n r.0 v (omega arith))

  within_in : (n : ℕ) → ((v : ℕ) → v < n → Held v) → T (within n a b)
  unfolding within
  within_in zero h = tt
  within_in (suc n) h =
      and_in (within n a b) (not (eqb (get_or a n 0) 1) || eqb (get_or b n 0) 1)
      (within_in n (λ v l. h v (omega arith))) (imp_in (eqb (get_or a n 0) 1) (eqb (get_or b n 0) 1) (h n (omega arith)))

  -- what the code finds of a mark that is missing
  pub within_not : (n v : ℕ) → v < n → get_or a v 0 ≡ 1 → (get_or b v 0 ≡ 1 → ⊥) → within n a b ≡ false
  within_not n v l e d = false_from_ne_true (within n a b) (λ q. bare (get_or b v 0) d (within_of n (true_T (within n a b) q) v l (rw e tt)))
    where
      bare : (x : ℕ) → (x ≡ 1 → ⊥) → T (eqb x 1) → ⊥
      bare x f t = f (eqb→eq x 1 t)

-- of variables among the eight: each of the first is among the second
pub within_is : (vs ws : List ℕ) → ((v : ℕ) → Memᴰ v vs → v < 8) → within 8 (marked vs none) (marked ws none) ≡ among vs ws
within_is vs ws low = T_iff (within 8 (marked vs none) (marked ws none)) (among vs ws)
    (λ t. all_in (λ v. member v ws) vs (λ v m. forth t v (low v m) m))
    (λ t. within_in (marked vs none) (marked ws none) 8 (back t))
  where
    forth : T (within 8 (marked vs none) (marked ws none)) → (v : ℕ) → v < 8 → Memᴰ v vs → T (member v ws)
    forth t v l m = subst T (mark_is ws v l) (within_of (marked vs none) (marked ws none) 8 t v l (subst T (sym (mark_is vs v l)) (member_in m)))

    back : T (among vs ws) → (v : ℕ) → v < 8 → Held (marked vs none) (marked ws none) v
    back t v l u = subst T (sym (mark_is ws v l)) (all_of_law (λ v. member v ws) t (member_of v vs (subst T (mark_is vs v l) u)))

-- `meet`, mark by mark

module _ (a b : List ℕ) where
  kept_or_cut : (q : Bool) (n : ℕ) (m : List ℕ) (v : ℕ) → v < length m
      → get_or (cond q m (set m n 0)) v 0 ≡ cond (eqb v n) (cond q (get_or m v 0) 0) (get_or m v 0)
  kept_or_cut true n m v l = by_eq v n (λ e. rw (eq-eqb v n e)) (λ d. rw (ne_eqb v n d))
  kept_or_cut false n m v l =
      by_eq v n
      (λ e. rw (eq-eqb v n e) (rw e (get_or-set_same m n 0 0 (rw (sym e) l))))
      (λ d. rw (ne_eqb v n d) (get_or-set_other m n v 0 0 d))

  cut_length : (q : Bool) (n : ℕ) (m : List ℕ) → length (cond q m (set m n 0)) ≡ length m
  cut_length true n m = refl
  cut_length false n m = length-set m n 0

  meet_length : (n : ℕ) → length (meet n a b) ≡ length a
  unfolding meet
  meet_length zero = refl
  meet_length (suc n) = cut_length (eqb (get_or b n 0) 1) n (meet n a b) ∙ meet_length n

  meet_step : (n v : ℕ) → v < length a
      → get_or (meet (suc n) a b) v 0 ≡ cond (eqb v n) (cond (eqb (get_or b n 0) 1) (get_or (meet n a b) v 0) 0) (get_or (meet n a b) v 0)
  unfolding meet
  meet_step n v l = kept_or_cut (eqb (get_or b n 0) 1) n (meet n a b) v (rw (meet_length n) l)

  meet_past : (n v : ℕ) → n ≤ v → v < length a → get_or (meet n a b) v 0 ≡ get_or a v 0
  unfolding meet
  meet_past zero v h l = refl
  meet_past (suc n) v h l = meet_step n v l ∙ rw (ne_eqb v n (λ e. omega arith)) (meet_past n v (omega arith) l)

  meet_at : (n v : ℕ) → v < n → v < length a → get_or (meet n a b) v 0 ≡ cond (eqb (get_or b v 0) 1) (get_or a v 0) 0
  meet_at zero v h l = absurd (omega arith)
  meet_at (suc n) v h l =
      by_eq v n
      (λ (e : v ≡ n). meet_step n v l ∙ rw (eq-eqb v n e) (rw e (ap (λ (x : ℕ). cond (eqb (get_or b n 0) 1) x 0) (meet_past n n (omega arith) (rw (sym e) l)))))
      (λ (d : v ≡ n → ⊥). meet_step n v l ∙ rw (ne_eqb v n d) (meet_at n v (omega arith) l))

member_keep : (p : ℕ → Bool) (v : ℕ) (vs : List ℕ) → member v (keep p vs) ≡ member v vs && p v
member_keep p v vs = T_iff (member v (keep p vs)) (member v vs && p v)
    (λ t. let r = keep_of p vs (member_of v (keep p vs) t) in and_in (member v vs) (p v) (member_in r.0) r.1)
    (λ t. let r = and_of (member v vs) (p v) t in member_in (keep_in p (member_of v vs r.0) r.1))

cond_and : (a b : Bool) → cond b (bit a) 0 ≡ bit (a && b)
cond_and true true = refl
cond_and true false = refl
cond_and false true = refl
cond_and false false = refl

-- two sets are alike where their marks are
same_marks : (a b : List ℕ) → length a ≡ 8 → length b ≡ 8 → ((v : ℕ) → v < 8 → get_or a v 0 ≡ get_or b v 0) → a ≡ b
same_marks a b k l h = ext_get_or 0 a b (k ∙ sym l) (λ v m. h v (rw k at m))

none_length : (vs : List ℕ) → length (marked vs none) ≡ 8
none_length vs = marked_length vs none

-- the intersection
pub meet_is : (vs ws : List ℕ) → meet 8 (marked vs none) (marked ws none) ≡ marked (keep (λ w. member w ws) vs) none
meet_is vs ws = same_marks (meet 8 (marked vs none) (marked ws none)) (marked (keep (λ w. member w ws) vs) none)
    (meet_length (marked vs none) (marked ws none) 8 ∙ none_length vs) (none_length (keep (λ w. member w ws) vs)) (λ v l.
    meet_at (marked vs none) (marked ws none) 8 v l (rw (none_length vs) l)
    ∙ ap (λ (q : Bool). cond q (get_or (marked vs none) v 0) 0) (mark_is ws v l)
    ∙ ap (λ (x : ℕ). cond (member v ws) x 0) (of_none vs v l)
    ∙ cond_and (member v vs) (member v ws)
    ∙ ap bit (sym (member_keep (λ w. member w ws) v vs))
    ∙ sym (of_none (keep (λ w. member w ws) vs) v l))

cond_out : (a b c : Bool) → c ≡ b → cond b 0 (bit a) ≡ bit (a && not c)
cond_out true true c e = rw e
cond_out true false c e = rw e
cond_out false true c e = refl
cond_out false false c e = refl

-- one variable taken out
pub drop_is : (v : ℕ) (vs : List ℕ) → set (marked vs none) v 0 ≡ marked (without v vs) none
drop_is v vs = same_marks (set (marked vs none) v 0) (marked (without v vs) none)
    (length-set (marked vs none) v 0 ∙ none_length vs) (none_length (without v vs)) (λ w l.
    set_at_law (marked vs none) v w 0 (rw (none_length vs) l)
    ∙ ap (cond (eqb w v) 0) (of_none vs w l)
    ∙ cond_out (member w vs) (eqb w v) (eqb v w) (eqb_turned v w)
    ∙ ap bit (sym (member_keep (λ x. not (eqb v x)) w vs))
    ∙ sym (of_none (without v vs) w l))
