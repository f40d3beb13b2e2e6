-- A constant without children is its family; else the set of the owner has it, where it is behind entry k.
use Rattle.std.proofs.Common.{ℕ, ◌/◌, ◌%◌, sym, ap, arith}
use Rattle.families.specs.Laid.{links_in}
use Rattle.families.specs.Kin.{family_in}
use Rattle.families.specs.Sets.{wide, set_at, listed}
use Rattle.families.proofs.Owning.{owner_none, owner_low, owner_set}
use Rattle.families.proofs.Uniting.{adds_one, adds_same, adds_set}
use Rattle.families.proofs.Covered.{family_alone}
use Rattle.families.proofs.entries.Entries.take_in.Goals as goal

-- alone
pub returns-in-None : goal.returns-in-None
returns-in-None c =
    let a = c.args in
    adds_one a.marks.now a.child (family_in a.self.now.families.now a.self.now.count a.key a.child) (omega (arith, c.ranges.child.fits))
    (family_alone (links_in a.self.now.families.now a.self.now.count) (a.key / 4) (a.key % 4) a.child
    (owner_none a.self.now.families.now a.self.now.count a.key a.child (sym c.in-None.ensures)))

pub set_at-requires : goal.set_at-requires
set_at-requires c =
    (c.requires.0.entered.few, owner_low c.requires.0 c.args.key c.args.child c.in-Some.i (sym c.in-Some.ensures))

-- its set stands there
pub mark_set-requires : goal.mark_set-requires
mark_set-requires c =
    let low = owner_low c.requires.0 c.args.key c.args.child c.in-Some.i (sym c.in-Some.ensures) in
    omega (arith, c.set_at.ensures, low, c.requires.0.room)

-- it has the family
pub returns-else-i-k : goal.returns-else-i-k
returns-else-i-k c =
    let a = c.args in
    let k = c.in-Some.i in
    adds_set a.marks.now _ a.self.now.families.now (set_at a.self.now.count k) (family_in a.self.now.families.now a.self.now.count a.key a.child)
    (owner_set c.requires.0 a.key a.child k (sym c.in-Some.ensures) (omega (arith, c.if-i-k.false)))
    (adds_same a.marks.now _ (listed a.self.now.families.now c.set_at.result wide) (listed a.self.now.families.now (set_at a.self.now.count k) wide)
    (ap (λ (i : ℕ). listed a.self.now.families.now i wide) (sym c.set_at.ensures)) c.mark_set.ensures)
