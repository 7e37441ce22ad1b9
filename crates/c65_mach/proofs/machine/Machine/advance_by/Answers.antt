use Rattle.std.proofs.Common.{arith}
use Rattle.c65_mach.proofs.Advancing.{at_byte}
use Rattle.c65_mach.proofs.machine.Machine.advance_by.Goals as goal

pub returns-in-0 : goal.returns-in-0
returns-in-0 c = at_byte _ _ _ _ _ _ (omega (arith, c.in-0.is)) c.advance_0.ensures

pub returns-in-1 : goal.returns-in-1
returns-in-1 c = at_byte _ _ _ _ _ _ (omega (arith, c.in-1.is)) c.advance_1.ensures

pub returns-in-2 : goal.returns-in-2
returns-in-2 c = at_byte _ _ _ _ _ _ (omega (arith, c.in-2.is)) c.advance_2.ensures

pub returns-in-3 : goal.returns-in-3
returns-in-3 c = at_byte _ _ _ _ _ _ (omega (arith, c.in-3.is)) c.advance_3.ensures

pub returns-in-4 : goal.returns-in-4
returns-in-4 c = at_byte _ _ _ _ _ _ (omega (arith, c.in-4.is)) c.advance_4.ensures

pub returns-in-5 : goal.returns-in-5
returns-in-5 c = at_byte _ _ _ _ _ _ (omega (arith, c.in-5.is)) c.advance_5.ensures

pub returns-in-6 : goal.returns-in-6
returns-in-6 c = at_byte _ _ _ _ _ _ (omega (arith, c.in-6.is)) c.advance_6.ensures

pub returns-in-7 : goal.returns-in-7
returns-in-7 c = at_byte _ _ _ _ _ _ (omega (arith, c.in-7.is)) c.advance_7.ensures

pub returns-in-8 : goal.returns-in-8
returns-in-8 c = at_byte _ _ _ _ _ _ (omega (arith, c.in-8.is)) c.advance_8.ensures

pub returns-in-9 : goal.returns-in-9
returns-in-9 c = at_byte _ _ _ _ _ _ (omega (arith, c.in-9.is)) c.advance_9.ensures

pub returns-in-10 : goal.returns-in-10
returns-in-10 c = at_byte _ _ _ _ _ _ (omega (arith, c.in-10.is)) c.advance_a.ensures

pub returns-in-11 : goal.returns-in-11
returns-in-11 c = at_byte _ _ _ _ _ _ (omega (arith, c.in-11.is)) c.advance_b.ensures

pub returns-in-12 : goal.returns-in-12
returns-in-12 c = at_byte _ _ _ _ _ _ (omega (arith, c.in-12.is)) c.advance_c.ensures

pub returns-in-13 : goal.returns-in-13
returns-in-13 c = at_byte _ _ _ _ _ _ (omega (arith, c.in-13.is)) c.advance_d.ensures

pub returns-in-14 : goal.returns-in-14
returns-in-14 c = at_byte _ _ _ _ _ _ (omega (arith, c.in-14.is)) c.advance_e.ensures

pub returns-in_default : goal.returns-in_default
returns-in_default c = at_byte _ _ _ _ _ _ (omega arith) c.advance_f.ensures
