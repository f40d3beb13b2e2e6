-- Lists as the code reads them are what the model reads, whatever their items.
use Rattle.std.proofs.Common.{◌≡◌, ℕ, zero, suc, ◌+◌, ◌-◌, ◌<◌, ◌≤◌, Bool, true, false, cond, List, [], ◌∷◌, ◌++◌, length, drop, Result, Ok, Err}
use Rattle.std.proofs.Common.{refl, sym, ap, ◌∙◌, arith}
use lib.Dec.{eqb}
use Rattle.model.specs.Limits.{length_at, header_bytes}
use Rattle.model.specs.Bytes.{u16_at, choose, Reading, got, refused, and_then}
use Rattle.model.specs.Policies.{Item, contents, version_there, length_right, headed, ended, items_from, list_at}
use Rattle.model.proofs.ReadFacts.{choose_yes, and_then_got}
use Rattle.slices.specs.Steps.{Step, Next, Refused, step, then_step, number_of, count_right, ended_at}
use Rattle.slices.specs.declared.Reason.{Reason}
use Rattle.slices.specs.Items.{items_at}
use Rattle.slices.specs.Lists.{standing, item_by, items_by, list_by, headed_at, only_list_by, count_of}
use Rattle.slices.proofs.ListFacts.{Reads, list_is, list_got, contents_length}

-- ---- one item after another

module _ (item : List ℕ → Result ℕ Reason) (s : List ℕ) where
  -- the next item goes on, or is refused
  pub items_more : (n i at m : ℕ) → i < n → item (drop at s) ≡ Ok m → items_by item s (n - i) at ≡ items_by item s (n - (i + 1)) (at + m)
  unfolding items_by then_step standing
  items_more n i at m h g = let k : n - i ≡ suc (n - (i + 1)) = omega arith in rw (k, g)

  pub items_stop : (n i at : ℕ) (r : Reason) → i < n → item (drop at s) ≡ Err r → items_by item s (n - i) at ≡ Refused (number_of r) at
  unfolding items_by then_step standing
  items_stop n i at r h g = let k : n - i ≡ suc (n - (i + 1)) = omega arith in rw (k, g)

  pub items_none : (n i at : ℕ) → n ≤ i → items_by item s (n - i) at ≡ Next at
  unfolding items_by
  items_none n i at h = let k : n - i ≡ 0 = omega arith in rw k

-- ---- the model's reader of items `f`, where each item gives what it reads

-- nothing is left over
ended_is : {A B : Type 0} (s : List ℕ) (g : A → B) (r : Reading A) → then_step (step r) (ended_at s) ≡ step (and_then r (λ x e. ended s (g x) e))
unfolding then_step step and_then ended ended_at choose
ended_is s g (got x e) = go (eqb e (length s))
  where
    go : (b : Bool) → choose b (Next e) (Refused 3 e) ≡ step (choose b (got (g x) e) (refused 3 e))
    go true = refl
    go false = refl
ended_is s g (refused n p) = refl

module _ {A : Type 0} (s : List ℕ) (f : List A → ℕ → Reading A) (item : List ℕ → Result ℕ Reason)
    (item_is : (at : ℕ) (before : List A) → item_by item s at ≡ step (f before at)) where
  items_are : (n : ℕ) (is : List (Item A)) (at : ℕ) → items_by item s n at ≡ step (items_from f n is at)
  unfolding items_by items_from step then_step and_then
  items_are zero is at = refl
  items_are (suc n) is at = ap (λ (t : Step). then_step t (items_by item s n)) (item_is at (contents is))
      ∙ go (f (contents is) at) (λ x e. items_are n (is ++ record { at = at; of = x } ∷ []) e)
    where
      go : (r : Reading A) → ((x : A) (e : ℕ) → items_by item s n e ≡ step (items_from f n (is ++ record { at = at; of = x } ∷ []) e))
          → then_step (step r) (items_by item s n) ≡ step (and_then r (λ x e. items_from f n (is ++ record { at = at; of = x } ∷ []) e))
      go (got x e) h = h x e
      go (refused m p) h = refl

  pub list_steps : {B : Type 0} (g : List (Item A) → B) (lowest highest p : ℕ)
      → list_by item s lowest highest p ≡ step (and_then (list_at s lowest highest f p) (λ is e. ended s (g is) e))
  unfolding list_by choose and_then step
  list_steps g lowest highest p =
      rw (list_is s lowest highest f p, items_are (u16_at s p) [] (p + 2)) (go (count_right s lowest highest p))
    where
      items : Reading (List (Item A))
      items = items_from f (u16_at s p) [] (p + 2)

      go : (b : Bool) → cond b (then_step (step items) (ended_at s)) (Refused 3 p)
          ≡ step (and_then (choose b items (refused 3 p)) (λ is e. ended s (g is) e))
      go true = ended_is s g items
      go false = refl

-- ---- a slice that is one list

module _ {A : Type 0} (s : List ℕ) (f : List A → ℕ → Reading A) (of : ℕ → A) (next : ℕ → ℕ) (reads : Reads s f of next) (latest most : ℕ) where
  abbrev read : Reading (List A)
  read = and_then (list_at s 0 most f header_bytes) (λ is e. ended s (contents is) e)

  -- as many items as are counted
  read_count : (xs : List A) (e : ℕ) → read ≡ got xs e
      → (xs ≡ contents (items_at of next (u16_at s header_bytes) (header_bytes + 2))) × (u16_at s header_bytes ≡ length xs) × (u16_at s header_bytes ≤ most)
  unfolding ended
  read_count xs e h =
      let a = and_then_got (list_at s 0 most f header_bytes) _ xs e h in
      let b = choose_yes _ _ 3 a.1 xs e a.3 in
      let g = b.1 in
      let v : contents a.0 ≡ xs = cc in
      let l = list_got s 0 most f of next reads header_bytes a.0 a.1 a.2 in
      let w = sym v ∙ ap contents l.0 in
      (w, sym (ap length w ∙ contents_length of next (u16_at s header_bytes) (header_bytes + 2)), l.2.most)

  -- the items of an accepted slice stand one after another behind their count
  pub only_list_got : (xs : List A) (e : ℕ) → headed latest s read ≡ got xs e
      → (xs ≡ contents (items_at of next (length xs) (header_bytes + 2))) × (length xs ≤ most)
  unfolding headed
  only_list_got xs e h =
      let a = choose_yes _ _ 1 0 xs e h in
      let b = choose_yes _ _ 2 length_at xs e a.1 in
      let r = read_count xs e b.1 in
      (r.0 ∙ ap (λ (n : ℕ). contents (items_at of next n (header_bytes + 2))) r.1, omega (arith, r.1, r.2))

  -- and its reader gives how many they are
  pub only_list_is : (item : List ℕ → Result ℕ Reason) → ((at : ℕ) (before : List A) → item_by item s at ≡ step (f before at))
      → only_list_by item s latest most ≡ count_of (headed latest s read)
  unfolding only_list_by headed_at headed count_of then_step step choose
  only_list_is item is = go (version_there latest s) (length_right s)
    where
      last : (r : Reading (List A)) → read ≡ r → then_step (step r) (λ e. Next (u16_at s header_bytes)) ≡ count_of r
      last (got xs e) h = ap Next (read_count xs e h).1
      last (refused n p) h = refl

      go : (v l : Bool)
          → then_step (cond v (cond l (Next header_bytes) (Refused 2 length_at)) (Refused 1 0))
          (λ p. then_step (list_by item s 0 most p) (λ e. Next (u16_at s p)))
          ≡ count_of (choose v (choose l read (refused 2 length_at)) (refused 1 0))
      go true true =
          ap (λ (t : Step). then_step t (λ e. Next (u16_at s header_bytes))) (list_steps s f item is contents 0 most header_bytes) ∙ last read refl
      go true false = refl
      go false l = refl
