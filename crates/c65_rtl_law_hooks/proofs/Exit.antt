-- `exit`: the hook ends the run.
use Rattle.std.proofs.Common.{◌≡◌, ℕ, ◌+◌, ◌≤◌, List, [], ◌∷◌, Some, slice_get, length, refl, ap, arith}
use Rattle.std.specs.Prelude.{sum_by}
use Rattle.std.proofs.lemmas.List.Sums.{sum_by-cons}
use Rattle.std.proofs.lemmas.List.Elements.{All-nil}
use Rattle.c65_mach.specs.declared.rows.Op.TheVariants.{Rts}
use Rattle.c65_code.specs.declared.routine.Routine.TheVariants as routines
use Rattle.c65_base.specs.declared.library.Library.TheVariants.{Exit}
use Rattle.c65_code.specs.declared.line.Line.{Line}
use Rattle.c65_code.specs.LineState.{Place, State, Frame, s_of}
use Rattle.c65_code.specs.Forms.{Run}
use Rattle.c65_code.specs.Parts.{no_parts}
use Rattle.c65_code.specs.Moves.{settle}
use Rattle.c65_code.specs.Rows.{Row, row_by, costing}
use Rattle.c65_code.specs.RawMachine.{RawSetting, here, HasDone, called, entry_of, MayRun, Runs, MeetsRow, reach_of}
use Rattle.c65_rtl.specs.Assembly.{implied, call}
use Rattle.c65_rtl.specs.Routines.{lines_of}
use Rattle.c65_rtl.proofs.Ways.{on_form, moved_to}
use Rattle.c65_rtl.proofs.Pushes.{meets_by}

abbrev exit_lines : List Line
exit_lines = call routines.HookExit ∷ implied Rts ∷ []

abbrev exit_row : State → Row
exit_row t = record (costing 256 (row_by (routines.Library Exit) t)) { ends = Some t.regs.a }

exit_runs : (s : RawSetting) → s.lines (s.routine (routines.Library Exit)) ≡ exit_lines → (back : Place) (t : State) → MayRun s (exit_row t) t → Runs s (routines.Library Exit) (exit_row t) back t
exit_runs s has back t may =
    let f : ℕ = s.routine (routines.Library Exit) in
    let deep = may.room.hard in
    let frame : Frame = record { back = back; pushed = t.pushed; gives = no_parts } in
    let sum : sum_by (λ (f : Frame). 2 + length f.pushed) (frame ∷ t.frames) ≡ 2 + length t.pushed + sum_by (λ (f : Frame). 2 + length f.pushed) t.frames = sum_by-cons (λ (f : Frame). 2 + length f.pushed) frame t.frames in
    let room : (reach_of t).hard + 2 ≤ s_of (called back t) = omega arith in
    record {
      weight = 2;
      within = omega arith;
      comes = moved_to s (reach_of t) (HasDone (Some t.regs.a) (exit_row t) back t) 2 (entry_of s f) (f, 0) (called back t) (called back t)
          (ap (λ (ls : List Line). let q : Place = (f, settle ls 0) in q) has) refl
          (on_form s (reach_of t) (HasDone (Some t.regs.a) (exit_row t) back t) (call routines.HookExit) (Run routines.HookExit) 0 2 (f, 0) (called back t) refl
          (ap (λ (ls : List Line). slice_get ls 0) has) may.running (room, All-nil _, All-nil _) (omega arith)
          (λ q u g bytes. let m = g.1 in here (m.ended, m.output)));
    }

pub exit : (s : RawSetting) → s.lines (s.routine (routines.Library Exit)) ≡ lines_of (routines.Library Exit) → MeetsRow s (routines.Library Exit)
exit s has = meets_by s (routines.Library Exit) exit_row (λ t. refl) (exit_runs s has)
