use Rattle.std.proofs.Common.{ap, ◌∙◌, arith}
use Rattle.c65_mach.specs.Table.{row_of}
use Rattle.c65_mach.proofs.rows.decode.Goals as goal

pub returns-in-0 : goal.returns-in-0
returns-in-0 c = c.row_0.ensures ∙ ap row_of (omega (arith, c.in-0.is))

pub returns-in-1 : goal.returns-in-1
returns-in-1 c = c.row_1.ensures ∙ ap row_of (omega (arith, c.in-1.is))

pub returns-in-2 : goal.returns-in-2
returns-in-2 c = c.row_2.ensures ∙ ap row_of (omega (arith, c.in-2.is))

pub returns-in-3 : goal.returns-in-3
returns-in-3 c = c.row_3.ensures ∙ ap row_of (omega (arith, c.in-3.is))

pub returns-in-4 : goal.returns-in-4
returns-in-4 c = c.row_4.ensures ∙ ap row_of (omega (arith, c.in-4.is))

pub returns-in-5 : goal.returns-in-5
returns-in-5 c = c.row_5.ensures ∙ ap row_of (omega (arith, c.in-5.is))

pub returns-in-6 : goal.returns-in-6
returns-in-6 c = c.row_6.ensures ∙ ap row_of (omega (arith, c.in-6.is))

pub returns-in-7 : goal.returns-in-7
returns-in-7 c = c.row_7.ensures ∙ ap row_of (omega (arith, c.in-7.is))

pub returns-in-8 : goal.returns-in-8
returns-in-8 c = c.row_8.ensures ∙ ap row_of (omega (arith, c.in-8.is))

pub returns-in-9 : goal.returns-in-9
returns-in-9 c = c.row_9.ensures ∙ ap row_of (omega (arith, c.in-9.is))

pub returns-in-10 : goal.returns-in-10
returns-in-10 c = c.row_a.ensures ∙ ap row_of (omega (arith, c.in-10.is))

pub returns-in-11 : goal.returns-in-11
returns-in-11 c = c.row_b.ensures ∙ ap row_of (omega (arith, c.in-11.is))

pub returns-in-12 : goal.returns-in-12
returns-in-12 c = c.row_c.ensures ∙ ap row_of (omega (arith, c.in-12.is))

pub returns-in-13 : goal.returns-in-13
returns-in-13 c = c.row_d.ensures ∙ ap row_of (omega (arith, c.in-13.is))

pub returns-in-14 : goal.returns-in-14
returns-in-14 c = c.row_e.ensures ∙ ap row_of (omega (arith, c.in-14.is))

pub returns-in_default : goal.returns-in_default
returns-in_default c = c.row_f.ensures ∙ ap row_of (omega arith)
