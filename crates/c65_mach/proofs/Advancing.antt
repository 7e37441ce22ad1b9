-- Rows that are done, from the digits of their opcode.
use Rattle.std.proofs.Common.{◌≡◌, ℕ, ◌+◌, Some, None, refl, sym, subst}
use Rattle.std.specs.Prelude.{Option, Ok, Err}
use Rattle.c65_base.specs.declared.options.Cpu.{Cpu}
use Rattle.c65_base.specs.declared.options.Cpu.TheVariants.{Nmos, Cmos}
use Rattle.c65_base.specs.declared.refusal.Refusal.TheVariants.{Illegal}
use Rattle.c65_mach.specs.declared.rows.Row.{Row}
use Rattle.c65_mach.specs.State.{State}
use Rattle.c65_mach.specs.Step.{Steps, cycles_of}
use Rattle.c65_mach.specs.Advance.{Advances, added}
use Rattle.c65_mach.specs.Table.{row_for}

-- a row that both processors have, or neither
pub at_shared : (high low digit : ℕ) (cpu : Cpu) (row : Option Row) (old new : State) (result : Option ℕ) → low ≡ digit → row_for Nmos (high + digit) ≡ row → row_for Cmos (high + digit) ≡ row → Advances row old new result → Advances (row_for cpu (high + low)) old new result
at_shared high low digit Nmos row old new result same first second h = rw (same, first) h
at_shared high low digit Cmos row old new result same first second h = rw (same, second) h

-- a row that the 65C02 adds
pub at_added : (high low digit : ℕ) (cpu : Cpu) (row : Row) (old new : State) (result : Option ℕ) → low ≡ digit → row_for Nmos (high + digit) ≡ None → row_for Cmos (high + digit) ≡ Some row → Advances (added cpu row) old new result → Advances (row_for cpu (high + low)) old new result
at_added high low digit Nmos row old new result same first second h = rw (same, first) h
at_added high low digit Cmos row old new result same first second h = rw (same, second) h

pub at_low : (high low digit : ℕ) (cpu : Cpu) (old new : State) (result : Option ℕ) → low ≡ digit → Advances (row_for cpu (high + digit)) old new result → Advances (row_for cpu (high + low)) old new result
at_low high low digit cpu old new result same h = rw same h

pub at_cpu : (cpu which : Cpu) (byte : ℕ) (row : Option Row) (old new : State) (result : Option ℕ) → cpu ≡ which → row_for which byte ≡ row → Advances row old new result → Advances (row_for cpu byte) old new result
at_cpu cpu which byte row old new result same is h = rw (same, is) h

pub at_byte : (sum byte : ℕ) (cpu : Cpu) (old new : State) (result : Option ℕ) → sum ≡ byte → Advances (row_for cpu sum) old new result → Advances (row_for cpu byte) old new result
at_byte sum byte cpu old new result same h = subst (λ (n : ℕ). Advances (row_for cpu n) old new result) same h

-- what is told of a row that was done, and of a byte without a row
pub stepped : (row : Option Row) (old new : State) (cycles : ℕ) → Advances row old new (Some cycles) → Steps row old new (Ok cycles)
stepped None old new cycles h = let none = h.1 in absurd cc
stepped (Some row) old new cycles h = let same : cycles ≡ cycles_of row old = cc (h.1) in (h.0, rw same refl)

pub refused : (row : Option Row) (old new : State) (pc : ℕ) → pc ≡ old.pc → Advances row old new None → Steps row old new (Err (Illegal pc))
refused None old new pc same h = (h.0, rw same refl)
refused (Some row) old new pc same h = let some = h.1 in absurd cc
