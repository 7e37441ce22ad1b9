-- Runs on both processors.
use Rattle.std.proofs.Common.{◌≡◌, ◌≢◌, inl, inr, ℕ, ◌==◌, ◌%◌, ◌<◌, zero, suc, Bool, true, false, List, Option, Some, None, refl, sym, ap, subst, ◌∙◌, arith}
use Rattle.std.specs.Prelude.{if◌then◌else◌, ◌&&◌}
use Rattle.std.proofs.lemmas.Bool.{false≢true, eq-eqb, cases_lt, le-leb, lt-leb}
use Rattle.std.proofs.lemmas.Bool.Decides.{eqb_tells}
use Rattle.c65_base.specs.declared.options.Cpu.{Cpu}
use Rattle.c65_base.specs.declared.options.Cpu.TheVariants.{Nmos, Cmos}
use Rattle.c65_mach.specs.declared.rows.Op.TheVariants.{Jmp}
use Rattle.c65_mach.specs.declared.rows.Mode.TheVariants.{Indirect}
use Rattle.c65_mach.specs.declared.rows.Row.{Row}
use Rattle.c65_mach.specs.State.{State, read}
use Rattle.c65_mach.specs.Table.{row_of, row_for}
use Rattle.c65_mach.specs.Step.{after, word_at, row_at, step_by, step, done}
use Rattle.c65_mach.specs.Hooks.{descriptor_of}
use Rattle.c65_mach.specs.Run.{Setting, Moment, Progress, Running, Ended, Stopped, turn, row_done, next, onward, is_hook, moment_of, begins}
use Rattle.c65_sim.specs.Differing.{jumps_at_page_end, differs_next, differs_in, either}
use Rattle.c65_sim.proofs.TurnLaws.{no_hook as row_turn}
use Rattle.c65_sim_law_cpu.specs.Laws.{machine_on, moment_on, on, MeetsRows, ProcessorsAgree}
use Rattle.c65_sim_law_cpu.proofs.Tables.{shared, direct, is_indirect}
use Rattle.c65_sim_law_cpu.proofs.Rows.{done_on, place_on, jump_on}

choose : (cpu : Cpu) (b : Bool) (p q p' q' : Progress) → p' ≡ on cpu p → (b ≡ false → q' ≡ on cpu q) → (if b then p' else q') ≡ on cpu (if b then p else q)
choose cpu true p q p' q' e e' = e
choose cpu false p q p' q' e e' = e' refl

apart : (a b : ℕ) → (a == b) ≡ false → a ≢ b
apart a b h e = false≢true (sym h ∙ eq-eqb a b e)

-- an address that is none of the six is no hook
no_hook : (pc : ℕ) → (pc == 0xFFF4) ≡ false → (pc == 0xFFF5) ≡ false → (pc == 0xFFF6) ≡ false → (pc == 0xFFF7) ≡ false → (pc == 0xFFF8) ≡ false → (pc == 0xFFF9) ≡ false → is_hook pc ≡ false
no_hook pc a b c d e f =
    elim (cases_lt pc 0xFFF4) [
      | inl below ↦ rw (lt-leb 0xFFF4 pc below) refl
      | inr least ↦ elim (cases_lt 0xFFF9 pc) [
        | inl above ↦ rw (le-leb 0xFFF4 pc least, lt-leb pc 0xFFF9 above) refl
        | inr most ↦ absurd (omega (arith, least, most, apart pc 0xFFF4 a, apart pc 0xFFF5 b, apart pc 0xFFF6 c, apart pc 0xFFF7 d, apart pc 0xFFF8 e, apart pc 0xFFF9 f))
      ]
    ]

-- a turn that is a hook's, or a row that agrees
turn_on : (cpu : Cpu) (setting : Setting) (now : Moment)
    → (is_hook now.machine.pc ≡ false → row_done (moment_on cpu now) (step (machine_on cpu now.machine)) ≡ on cpu (row_done now (step now.machine)))
    → turn setting (moment_on cpu now) ≡ on cpu (turn setting now)
turn_on cpu setting now row =
    let m : State = now.machine in
    choose cpu (m.pc == 0xFFF4) _ _ _ _ refl (λ a.
    choose cpu (m.pc == 0xFFF5) _ _ _ _ refl (λ b.
    choose cpu (m.pc == 0xFFF6) _ _ _ _ (choose cpu (descriptor_of setting.sp m == 0) _ _ _ _ refl (λ h. refl)) (λ c.
    choose cpu (m.pc == 0xFFF7) _ _ _ _ (choose cpu (descriptor_of setting.sp m == 1) _ _ _ _ refl (λ h. refl)) (λ d.
    choose cpu (m.pc == 0xFFF8) _ _ _ _ refl (λ e.
    choose cpu (m.pc == 0xFFF9) _ _ _ _ refl (λ f. row (no_hook m.pc a b c d e f)))))))

-- a row keeps the processor
row_keeps : (now : Moment) (r : Option Row) → row_done now (step_by r now.machine) ≡ on now.machine.cpu (row_done now (step_by r now.machine))
row_keeps now None = refl
row_keeps now (Some row) = ap (λ (m : State). Running (record now { machine = m })) (done_on now.machine.cpu row now.machine refl)

abbrev cpu_of : Progress → Cpu
cpu_of p = (moment_of p).machine.cpu

on_cpu : (cpu : Cpu) (p : Progress) → cpu_of (on cpu p) ≡ cpu
on_cpu cpu (Running now) = refl
on_cpu cpu (Ended now status) = refl
on_cpu cpu (Stopped now) = refl

turn_keeps : (setting : Setting) (now : Moment) → cpu_of (turn setting now) ≡ now.machine.cpu
turn_keeps setting now =
    ap cpu_of (turn_on now.machine.cpu setting now (λ h. row_keeps now (row_at now.machine))) ∙ on_cpu now.machine.cpu (turn setting now)

abbrev nmos_jump : Row
nmos_jump = record { op = Jmp; mode = Indirect; cycles = 5; page = false }

-- the jump where its operand does not end its page
jump_agrees : (now : Moment) (row : Row) (byte : ℕ) → read now.machine.mem now.machine.pc ≡ byte → byte ≡ 0x6C → row_of byte ≡ Some row → is_hook now.machine.pc ≡ false
    → jumps_at_page_end now.machine ≡ false
    → row_done (moment_on Cmos now) (step_by (row_for Cmos byte) (machine_on Cmos now.machine)) ≡ on Cmos (row_done now (step_by (Some row) now.machine))
unfolding row_of row_for
jump_agrees now row byte at six is hook jump =
    let m : State = now.machine in
    let inside : (word_at m.mem (after m.pc 1) % 256 == 255) ≡ false = rw (hook, at ∙ six) at jump in
    let row6502 : Some nmos_jump ≡ Some row = sym (ap row_of six) ∙ is in
    let row_is : nmos_jump ≡ row = cc in
    ap (λ b. row_done (moment_on Cmos now) (step_by (row_for Cmos b) (machine_on Cmos m))) six
    ∙ ap (λ (u : State). Running (record now { machine = u })) (done_on Cmos nmos_jump m (jump_on Cmos m inside))
    ∙ ap (λ r. on Cmos (row_done now (step_by (Some r) m))) row_is

-- a row that both processors do alike
row_agrees : (now : Moment) (r : Option Row) (byte : ℕ) → read now.machine.mem now.machine.pc ≡ byte → now.machine.cpu ≡ Nmos → row_of byte ≡ r → is_hook now.machine.pc ≡ false
    → jumps_at_page_end now.machine ≡ false → MeetsRows (row_done now (step_by r now.machine))
    → row_done (moment_on Cmos now) (step_by (row_for Cmos byte) (machine_on Cmos now.machine)) ≡ on Cmos (row_done now (step_by r now.machine))
row_agrees now None byte at nmos is hook jump meets = absurd meets
row_agrees now (Some row) byte at nmos is hook jump meets =
    elim (eqb_tells byte 0x6C) [
      | inl six ↦ jump_agrees now row byte at six.1 is hook jump
      | inr other ↦
          ap (λ r. row_done (moment_on Cmos now) (step_by r (machine_on Cmos now.machine))) (shared byte row is other.0)
          ∙ ap (λ (m : State). Running (record now { machine = m })) (done_on Cmos row now.machine (place_on Cmos row.mode now.machine (direct byte row is other.0)))
    ]

-- each byte
step_agrees : (now : Moment) → now.machine.cpu ≡ Nmos → is_hook now.machine.pc ≡ false → jumps_at_page_end now.machine ≡ false → MeetsRows (row_done now (step now.machine))
    → row_done (moment_on Cmos now) (step (machine_on Cmos now.machine)) ≡ on Cmos (row_done now (step now.machine))
unfolding row_for
step_agrees now nmos hook jump meets =
    let byte : ℕ = read now.machine.mem now.machine.pc in
    let same : step now.machine ≡ step_by (row_of byte) now.machine = ap (λ cpu. step_by (row_for cpu byte) now.machine) nmos in
    row_agrees now (row_of byte) byte refl nmos refl hook jump (subst (λ s. MeetsRows (row_done now s)) same meets)
    ∙ ap (λ s. on Cmos (row_done now s)) (sym same)

neither : (a b : Bool) → either a b ≡ false → (a ≡ false) × (b ≡ false)
neither true b h = absurd (false≢true (sym h))
neither false b h = (refl, h)

met_before : (setting : Setting) (p : Progress) → MeetsRows (next setting p) → MeetsRows p
met_before setting (Running now) h = tt
met_before setting (Ended now status) h = tt
met_before setting (Stopped now) h = h

next_agrees : (setting : Setting) (p : Progress) → cpu_of p ≡ Nmos → differs_next p ≡ false → MeetsRows (next setting p)
    → (next setting (on Cmos p) ≡ on Cmos (next setting p)) × (cpu_of (next setting p) ≡ Nmos)
next_agrees setting (Running now) nmos jump meets =
    (turn_on Cmos setting now (λ hook. step_agrees now nmos hook jump (subst MeetsRows (row_turn setting now.machine now.input now.output hook) meets)), turn_keeps setting now ∙ nmos)
next_agrees setting (Ended now status) nmos jump meets = (refl, nmos)
next_agrees setting (Stopped now) nmos jump meets = (refl, nmos)

agree_after : (setting : Setting) (rows : ℕ) (start : Progress) → cpu_of start ≡ Nmos → MeetsRows (onward setting rows start) → differs_in setting rows start ≡ false
    → (onward setting rows (on Cmos start) ≡ on Cmos (onward setting rows start)) × (cpu_of (onward setting rows start) ≡ Nmos)
unfolding onward differs_in
agree_after setting zero start nmos meets jumps = (refl, nmos)
agree_after setting (suc rows) start nmos meets jumps =
    let p : Progress = onward setting rows start in
    let parts = neither (differs_in setting rows start) (differs_next p) jumps in
    let before = agree_after setting rows start nmos (met_before setting p meets) parts.0 in
    let step = next_agrees setting p before.1 parts.1 meets in
    (ap (next setting) before.0 ∙ step.0, step.1)

pub agreed : ProcessorsAgree
agreed image args input rows nmos meets jumps = (agree_after _ rows (Running (begins image input)) nmos meets jumps).0
