-- A row on a machine with another processor.
use Rattle.std.proofs.Common.{◌≡◌, ℕ, ◌==◌, ◌%◌, ◌+◌, ◌*◌, Bool, true, false, refl, sym, ap, ◌∙◌}
use Rattle.std.specs.Prelude.{if◌then◌else◌}
use Rattle.c65_base.specs.declared.options.Cpu.{Cpu}
use Rattle.c65_base.specs.declared.options.Cpu.TheVariants.{Nmos, Cmos}
use Rattle.c65_mach.specs.declared.rows.Row.{Row}
use Rattle.c65_mach.specs.declared.rows.Op.{Op}
use Rattle.c65_mach.specs.declared.rows.Op.TheVariants.{Jmp}
use Rattle.c65_mach.specs.declared.rows.Mode.{Mode}
use Rattle.c65_mach.specs.declared.rows.Mode.TheVariants.{Indirect, Accumulator}
use Rattle.c65_mach.specs.State.{State, read}
use Rattle.c65_mach.specs.Step.{Kind, Reads, Stores, Changes, Branches, Registers, Moves, Place, direct, after, word_at, jump_next, place_of, size_of, change, branch, is_taken, moved, act_by, kind_of, act, done}
use Rattle.c65_sim_law_cpu.specs.Laws.{machine_on}
use Rattle.c65_sim_law_cpu.proofs.Tables.{is_indirect}

change_on : (cpu : Cpu) (op : Op) (mode : Mode) (at : ℕ) (t : State) → change op mode at (machine_on cpu t) ≡ machine_on cpu (change op mode at t)
change_on cpu op Accumulator at t = refl
change_on cpu op _ at t = refl

branch_on : (cpu : Cpu) (taken : Bool) (at : ℕ) (t : State) → branch taken at (machine_on cpu t) ≡ machine_on cpu (branch taken at t)
branch_on cpu true at t = refl
branch_on cpu false at t = refl

moved_on : (cpu : Cpu) (op : Op) (at : ℕ) (t : State) → moved op at (machine_on cpu t) ≡ machine_on cpu (moved op at t)
moved_on cpu Jmp at t = refl
moved_on cpu _ at t = refl

act_on : (cpu : Cpu) (kind : Kind) (op : Op) (mode : Mode) (at : ℕ) (t : State) → act_by kind op mode at (machine_on cpu t) ≡ machine_on cpu (act_by kind op mode at t)
act_on cpu Reads op mode at t = refl
act_on cpu Stores op mode at t = refl
act_on cpu Changes op mode at t = change_on cpu op mode at t
act_on cpu Branches op mode at t = branch_on cpu (is_taken op t.regs) at t
act_on cpu Registers op mode at t = refl
act_on cpu Moves op mode at t = moved_on cpu op at t

pub done_on : (cpu : Cpu) (row : Row) (t : State) → place_of row.mode (machine_on cpu t) ≡ place_of row.mode t → done row (machine_on cpu t) ≡ machine_on cpu (done row t)
done_on cpu row t same =
    let far : State = record t { pc = after t.pc (size_of row.mode) } in
    ap (λ (p : Place). act row.op row.mode p.0 (machine_on cpu far)) same ∙ act_on cpu (kind_of row.op) row.op row.mode (place_of row.mode t).0 far

-- where the operand is, for every mode but that of `JMP (abs)`
pub place_on : (cpu : Cpu) (mode : Mode) (t : State) → is_indirect mode ≡ false → place_of mode (machine_on cpu t) ≡ place_of mode t
place_on cpu Indirect t h = absurd cc
place_on cpu _ t h = refl

next_on : (cpu : Cpu) (at : ℕ) → (at % 256 == 255) ≡ false → jump_next cpu at ≡ after at 1
next_on Nmos at h = rw h refl
next_on Cmos at h = refl

-- and for that one where the operand does not end its page
pub jump_on : (cpu : Cpu) (t : State) → (word_at t.mem (after t.pc 1) % 256 == 255) ≡ false → place_of Indirect (machine_on cpu t) ≡ place_of Indirect t
jump_on cpu t h =
    let at : ℕ = word_at t.mem (after t.pc 1) in
    let P : ℕ → Place = λ n. direct (read t.mem at + 256 * read t.mem n) in
    ap P (next_on cpu at h) ∙ sym (ap P (next_on t.cpu at h))
