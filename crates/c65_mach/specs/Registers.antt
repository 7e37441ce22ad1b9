-- The registers and flags as one value, whose byte p has the flags at their bits (MCS6500 Programming Manual, chapter 3).
use Rattle.std.specs.Prelude.{ℕ, ◌+◌, ◌*◌}
use Rattle.c65_mach.specs.declared.registers.Regs.{Regs}
use Rattle.c65_mach.specs.State.{State}
use Rattle.c65_mach.specs.Step.{bit, unpacked}

-- the flags at bits 7, 6, 3, 2, 1 and 0; bits 4 and 5 are clear
abbrev pub flags_of : State → ℕ
flags_of t = 128 * bit t.regs.n + 64 * bit t.regs.v + 8 * bit t.d + 4 * bit t.i + 2 * bit t.regs.z + bit t.regs.c

abbrev pub regs_of : State → Regs
regs_of t = record { a = t.regs.a; x = t.regs.x; y = t.regs.y; s = t.s; p = flags_of t; pc = t.pc }

abbrev pub with_regs : Regs → State → State
with_regs r t = unpacked r.p (record t { regs = record t.regs { a = r.a; x = r.x; y = r.y }; s = r.s; pc = r.pc })
