-- Asks one after the other, as the code takes them.
use Rattle.std.proofs.Common.{◌≡◌, List, [], ◌∷◌, ◌++◌, Option, Some, None, option_and_then, refl}
use Rattle.kinds.specs.declared.Term.{Term}
use Rattle.kinds.specs.Cells.{Cells, Ask, same, asked, alike, feed}

-- no ask, one, and one before the others
pub feed_none : (t : Cells) → feed [] t ≡ Some t
unfolding feed
feed_none t = refl

pub feed_one : (a : Ask) (t : Cells) → feed (a ∷ []) t ≡ asked a t
unfolding feed
feed_one a t = itself (asked a t)
  where
    itself : (f : Option Cells) → option_and_then Some f ≡ f
    itself None = refl
    itself (Some u) = refl

pub feed_more : (l r : Option Term) (qs : List Ask) (t : Cells) → feed (same l r ∷ qs) t ≡ option_and_then (feed qs) (asked (same l r) t)
unfolding feed
feed_more l r qs t = refl

-- two terms of one kind: neither may be missing
pub asked_same : (l r : Term) (t : Cells) → asked (same (Some l) (Some r)) t ≡ alike t l r
unfolding asked
asked_same l r t = refl

pub none_left : (r : Option Term) (t : Cells) → asked (same None r) t ≡ None
unfolding asked
none_left r t = refl

pub none_right : (l : Option Term) (t : Cells) → asked (same l None) t ≡ None
unfolding asked
none_right None t = refl
none_right (Some l) t = refl

pub ruleset asking = (asked_same, none_left, none_right)

-- items one after the other: the cells are handed on
pub feed_append : (xs ys : List Ask) (t : Cells) → feed (xs ++ ys) t ≡ option_and_then (feed ys) (feed xs t)
unfolding feed
feed_append [] ys t = refl
feed_append (x ∷ xs) ys t = go (asked x t) (feed_append xs ys)
  where
    go : (f : Option Cells) → ((u : Cells) → feed (xs ++ ys) u ≡ option_and_then (feed ys) (feed xs u))
        → option_and_then (feed (xs ++ ys)) f ≡ option_and_then (feed ys) (option_and_then (feed xs) f)
    go None h = refl
    go (Some u) h = h u
