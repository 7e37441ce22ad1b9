use Rattle.std.proofs.Common.{◌≡◌, arith, refl}
use Rattle.c65_mach.specs.Table.{row_of, row_for}
use Rattle.c65_mach.proofs.Advancing.{at_shared}
use Rattle.c65_mach.proofs.machine.Machine.advance_2.Goals as goal

pub returns-in-0 : goal.returns-in-0
unfolding row_of row_for
returns-in-0 c = at_shared 0x20 _ 0 _ _ _ _ _ c.in-0.is refl refl c.plain.ensures

pub returns-in-1 : goal.returns-in-1
unfolding row_of row_for
returns-in-1 c = at_shared 0x20 _ 1 _ _ _ _ _ c.in-1.is refl refl c.plain-in-1.ensures

pub returns-in-2 : goal.returns-in-2
unfolding row_of row_for
returns-in-2 c = at_shared 0x20 _ 2 _ _ _ _ _ c.in-2.is refl refl (refl, refl)

pub returns-in-3 : goal.returns-in-3
unfolding row_of row_for
returns-in-3 c = at_shared 0x20 _ 3 _ _ _ _ _ c.in-3.is refl refl (refl, refl)

pub returns-in-4 : goal.returns-in-4
unfolding row_of row_for
returns-in-4 c = at_shared 0x20 _ 4 _ _ _ _ _ c.in-4.is refl refl c.plain-in-4.ensures

pub returns-in-5 : goal.returns-in-5
unfolding row_of row_for
returns-in-5 c = at_shared 0x20 _ 5 _ _ _ _ _ c.in-5.is refl refl c.plain-in-5.ensures

pub returns-in-6 : goal.returns-in-6
unfolding row_of row_for
returns-in-6 c = at_shared 0x20 _ 6 _ _ _ _ _ c.in-6.is refl refl c.plain-in-6.ensures

pub returns-in-7 : goal.returns-in-7
unfolding row_of row_for
returns-in-7 c = at_shared 0x20 _ 7 _ _ _ _ _ c.in-7.is refl refl (refl, refl)

pub returns-in-8 : goal.returns-in-8
unfolding row_of row_for
returns-in-8 c = at_shared 0x20 _ 8 _ _ _ _ _ c.in-8.is refl refl c.plain-in-8.ensures

pub returns-in-9 : goal.returns-in-9
unfolding row_of row_for
returns-in-9 c = at_shared 0x20 _ 9 _ _ _ _ _ c.in-9.is refl refl c.plain-in-9.ensures

pub returns-in-10 : goal.returns-in-10
unfolding row_of row_for
returns-in-10 c = at_shared 0x20 _ 10 _ _ _ _ _ c.in-10.is refl refl c.plain-in-10.ensures

pub returns-in-11 : goal.returns-in-11
unfolding row_of row_for
returns-in-11 c = at_shared 0x20 _ 11 _ _ _ _ _ c.in-11.is refl refl (refl, refl)

pub returns-in-12 : goal.returns-in-12
unfolding row_of row_for
returns-in-12 c = at_shared 0x20 _ 12 _ _ _ _ _ c.in-12.is refl refl c.plain-in-12.ensures

pub returns-in-13 : goal.returns-in-13
unfolding row_of row_for
returns-in-13 c = at_shared 0x20 _ 13 _ _ _ _ _ c.in-13.is refl refl c.plain-in-13.ensures

pub returns-in-14 : goal.returns-in-14
unfolding row_of row_for
returns-in-14 c = at_shared 0x20 _ 14 _ _ _ _ _ c.in-14.is refl refl c.plain-in-14.ensures

pub returns-in_default : goal.returns-in_default
unfolding row_of row_for
returns-in_default c = let low : c.args.low ≡ 15 = (omega arith) in at_shared 0x20 _ 15 _ _ _ _ _ low refl refl (refl, refl)
