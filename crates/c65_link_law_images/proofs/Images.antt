-- From the first row the image follows the lines, where main takes no arguments.
use Rattle.std.proofs.Common.{◌≡◌, ℕ, zero, suc, ◌+◌, ◌<◌, ◌≤◌, ◌==◌, ◌&&◌, ◌⊎◌, inl, inr, Bool, true, false, if◌then◌else◌, IsTrue, List, [], ◌∷◌, All, map, Option, Some, None, Ok, length, slice_get, refl, ap, sym, ◌∙◌, subst, arith}
use Rattle.std.specs.List.{sum_by}
use Rattle.std.proofs.lemmas.Bool.{cases_order}
use Rattle.std.proofs.lemmas.List.Elements.{All-nil}
use Rattle.c65_base.specs.declared.options.Cpu.{Cpu}
use Rattle.c65_mach.specs.declared.image.Image.{Image}
use Rattle.c65_mach.specs.State.{read, loaded_memory}
use Rattle.c65_mach.specs.Step.{kind_of}
use Rattle.c65_mach.specs.Run.{Setting, Moment}
use Rattle.c65_sim.specs.Budgets.{is_too_deep}
use Rattle.c65_code.specs.declared.routine.Routine.{Routine}
use Rattle.c65_code.specs.declared.routine.Routine.TheVariants as routines
use Rattle.c65_code.specs.declared.line.Callee.TheVariants as callees
use Rattle.c65_code.specs.declared.line.Line.{Line}
use Rattle.c65_code.specs.declared.line.Line.TheVariants.{Do, Call}
use Rattle.c65_code.specs.declared.code.Code.{Code}
use Rattle.c65_code.specs.Parts.{no_parts}
use Rattle.c65_code.specs.LineState.{write, Place, State, Frame, IsBytes}
use Rattle.c65_code.specs.Placement.{setting_of, segment_of, is_function_of, is_nothing, library_of}
use Rattle.c65_code.specs.Processors.{RunsOn}
use Rattle.c65_code.specs.Moves.{settle, next, effect}
use Rattle.c65_code.specs.Steady.{HasLines}
use Rattle.c65_code.specs.RawMachine.{RawSetting, IsRuntime, called, line_after}
use Rattle.c65_link.specs.Linked.{linked_for}
use Rattle.c65_link.specs.Runtime.{routine_lines}
use Rattle.c65_link_law_spots.specs.Places.{place_in}
use Rattle.c65_link_law_spots.specs.Sound.{IsSound}
use Rattle.c65_link_law_follow.specs.Agree.{Ground, Agrees, Points, none, more}
use Rattle.c65_link_law_follow.specs.Agree.{Goes, LeadsTo, Pushed}
use Rattle.c65_link_law_follow.proofs.Bytes.{Moved}
use Rattle.c65_link_law_follow.proofs.Stack.{frames_bytes}
use Rattle.c65_link_law_follow.proofs.Follow.{call_moves, room_for}
use Rattle.c65_link_law_laid.specs.Linked.{start_number, with_main, raw_in, place_at, ground_in}
use Rattle.c65_link_law_laid.specs.Laws.{AreLineNumbers}
use Rattle.c65_link_law_laid.proofs.Linked.{the_start}
use Rattle.c65_link_law_runs.proofs.Runs.{goes_both}
use Rattle.c65_link_law_reach.specs.Reach.{runtime_in, exit_place, code_ground, IsAt, HasArrived, IsAtLine}
use Rattle.c65_link_law_reach.proofs.Steps.{Image_, lines_setting}
use Rattle.c65_code.specs.declared.line.Operand.TheVariants as operands
use Rattle.c65_mach.specs.declared.rows.Op.TheVariants as ops
use Rattle.c65_mach.specs.declared.rows.Mode.TheVariants.{Indirect}
use Rattle.c65_link.specs.Bytes.{callee_address}
use Rattle.c65_code.specs.Comes.{Seen, Shown, seen_at, Shows, Comes, here, on}
use Rattle.c65_link_law_reach.specs.Reach.{Passes}
use Rattle.c65_mach.specs.Run.{Progress, Running, Ended, begins, onward, moment_of, setting_of as setting_for}
use Rattle.c65_mach.specs.declared.rows.Op.TheVariants as ops
use Rattle.c65_mach.specs.declared.rows.Mode.TheVariants as modes
use Rattle.c65_code.specs.declared.line.Operand.TheVariants as operands
use Rattle.c65_code.specs.Starts.{IsMain, IsStart, IsMainCalled}
use Rattle.c65_code.specs.Comes.{ComesFrom, first_place, none_seen}
use Rattle.c65_link.specs.Linked.{entry_of as entry_routine}
use Rattle.c65_link_law_spots.specs.Laws.{AreDataLoaded}
use Rattle.c65_link_law_spots.proofs.Loaded.{IsShaped, shaped, data_are_loaded}
use Rattle.c65_link_law_reach.proofs.Reach.{IsCarried, image_known, none_arrives, reach}
use Rattle.c65_link_law_reach.proofs.Standing.{at_entry}
use Rattle.c65_link_law_runs.proofs.Moves.{weaker}
use Rattle.c65_link_law_reach.proofs.Calls.{function_there, function_entry}
use Rattle.c65_link_law_images.specs.Reaches.{Reaches, IsShownBy}
use Rattle.c65_link_law_images.specs.Laws.{AreBytes}
use Rattle.c65_code.specs.Effects.{ax as ax_parts}
use Rattle.c65_rtl.specs.Library.{stack_top}
use Rattle.c65_link_law_runs.proofs.Kept.{one_written}
use Rattle.c65_link_law_reach.specs.Reach.{goes_on as goes_further, has_ended as has_stopped}
use Rattle.c65_link_law_images.proofs.First.{memory_bytes, first_state, first_agrees, IsAway, start_away, Went, plain_went, onward_goes, onward_ends, free_all, holds_all, main_is}

-- codes whose main takes no arguments
abbrev pub PlainImagesFollow : Type 1
PlainImagesFollow = (cpu : Cpu) (code : Code) (image : Image) → RunsOn cpu code → IsSound code → AreLineNumbers code → linked_for cpu code ≡ Ok image → AreBytes image.payload → code.main_args ≡ false → (main : ℕ) → IsMain code main
    → (args : List (List ℕ)) (input : List ℕ) (test : Shown → Seen → Bool) (w : ℕ) → All AreBytes args → AreBytes input → IsRuntime (runtime_in code args)
    → ((t : State) → IsStart code (place_in code) args input t → ComesFrom (setting_of code (place_in code)) main test w t)
    → (Inv : Place → State → Type 0) → IsCarried code Inv → ((t : State) → IsStart code (place_in code) args input t → Inv (first_place (setting_of code (place_in code)) main) t)
    → Reaches (HasArrived (code_ground cpu code image) code Inv) image args input test w

-- The states of the start: the sp is $FFF0

abbrev pub state_1 : Image → List ℕ → State
state_1 image input = effect (kind_of ops.Lda) ops.Lda modes.Immediate 0xF0 (first_state image input)

abbrev pub state_2 : Image → List ℕ → State
state_2 image input = effect (kind_of ops.Sta) ops.Sta modes.ZeroPage 0 (state_1 image input)

abbrev pub state_3 : Image → List ℕ → State
state_3 image input = effect (kind_of ops.Lda) ops.Lda modes.Immediate 0xFF (state_2 image input)

abbrev pub state_4 : Image → List ℕ → State
state_4 image input = effect (kind_of ops.Sta) ops.Sta modes.ZeroPage 1 (state_3 image input)

no_bytes : All (λ v. v < 256) []
no_bytes = All-nil (λ v. v < 256)

no_frames : All (λ (f : Frame). All (λ v. v < 256) f.pushed) []
no_frames = All-nil (λ (f : Frame). All (λ v. v < 256) f.pushed)

first_bytes : (image : Image) (input : List ℕ) → AreBytes image.payload → IsBytes (first_state image input)
first_bytes image input h = record { a = omega arith; x = omega arith; y = omega arith; zp = λ j. omega arith; mem = λ c. memory_bytes image c h; pushed = no_bytes; frames = no_frames }

zp_2 : (j : ℕ) → write (λ k. 0) 0 0xF0 j < 256
zp_2 = one_written (λ k. 0) 0 0xF0 (λ k. omega arith) (omega arith)

pub bytes_4 : (image : Image) (input : List ℕ) → AreBytes image.payload → IsBytes (state_4 image input)
bytes_4 image input h = record { a = omega arith; x = omega arith; y = omega arith; zp = one_written (write (λ k. 0) 0 0xF0) 1 0xFF zp_2 (omega arith); mem = λ c. memory_bytes image c h; pushed = no_bytes; frames = no_frames }

-- The lines of the start

plain_start : (code : Code) (args : List (List ℕ)) (main : ℕ) → IsSound code → IsMain code main → code.main_args ≡ false → (raw_in code args).lines (start_number code) ≡ map (with_main main) (routine_lines routines.Start)
plain_start code args main s m plain =
    the_start code ∙ ap (λ (n : ℕ). map (with_main n) (routine_lines (entry_routine code))) (main_is code main s m)
    ∙ ap (λ (b : Bool). map (with_main main) (routine_lines (if b then routines.StartArgs else routines.Start))) plain

-- the first four lines set the sp
pub first_lines : (r : Routine) (main : ℕ) (lines : List Line) → lines ≡ map (with_main main) (routine_lines r) → ((j : ℕ) → j < 4 → slice_get (map (with_main main) (routine_lines r)) j ≡ slice_get stack_top j) → (j : ℕ) → j < 4 → slice_get lines j ≡ slice_get stack_top j
first_lines r main lines e h j less = ap (λ (ls : List Line). slice_get ls j) e ∙ h j less

pub four_of : (b : Bool) (main j : ℕ) → j < 4 → slice_get (map (with_main main) (routine_lines (if b then routines.StartArgs else routines.Start))) j ≡ slice_get stack_top j
four_of true main zero less = refl
four_of true main (suc zero) less = refl
four_of true main (suc (suc zero)) less = refl
four_of true main (suc (suc (suc zero))) less = refl
four_of true main (suc (suc (suc (suc j)))) less = absurd (omega (arith, less))
four_of false main zero less = refl
four_of false main (suc zero) less = refl
four_of false main (suc (suc zero)) less = refl
four_of false main (suc (suc (suc zero))) less = refl
four_of false main (suc (suc (suc (suc j)))) less = absurd (omega (arith, less))

pub started : (cpu : Cpu) (code : Code) (image : Image) (args : List (List ℕ)) (setting : Setting) (input : List ℕ) (main : ℕ) → Image_ cpu code image args setting → linked_for cpu code ≡ Ok image → AreBytes image.payload → ((j : ℕ) → j < 4 → slice_get ((raw_in code args).lines (start_number code)) j ≡ slice_get stack_top j)
    → Went (IsAway cpu code image) (ground_in cpu code image 255 None) setting 4 (start_number code, 4) (state_4 image input) (begins image input)
started cpu code image args setting input main i linked_is h lines =
    let first : Moment = begins image input in
    let w0 : Went (IsAway cpu code image) (ground_in cpu code image 255 None) setting 0 (start_number code, 0) (first_state image input) first = record { then_at = first; rows = 0; within = omega arith; goes = none; bytes = first_bytes image input h; agrees = first_agrees cpu code image input linked_is } in
    let w1 : Went (IsAway cpu code image) (ground_in cpu code image 255 None) setting 1 (start_number code, 1) (state_1 image input) first =
    plain_went cpu code image args setting 0 0 ops.Lda modes.Immediate (operands.Byte 0xF0) first (first_state image input) i (lines 0 (omega arith)) refl tt w0 in
    let w2 : Went (IsAway cpu code image) (ground_in cpu code image 255 None) setting 2 (start_number code, 2) (state_2 image input) first =
    plain_went cpu code image args setting 1 1 ops.Sta modes.ZeroPage (operands.Zero 0) first (state_1 image input) i (lines 1 (omega arith)) refl (omega arith) w1 in
    let w3 : Went (IsAway cpu code image) (ground_in cpu code image 255 None) setting 3 (start_number code, 3) (state_3 image input) first =
    plain_went cpu code image args setting 2 2 ops.Lda modes.Immediate (operands.Byte 0xFF) first (state_2 image input) i (lines 2 (omega arith)) refl tt w2 in
    plain_went cpu code image args setting 3 3 ops.Sta modes.ZeroPage (operands.Zero 1) first (state_3 image input) i (lines 3 (omega arith)) refl (omega arith) w3

-- Main is called

pub on_main : (cpu : Cpu) (code : Code) (image : Image) (at : ℕ) (back : Place) (t : State) (m : Moment) → t.pushed ≡ [] → t.frames ≡ [] → place_at code (read (loaded_memory image)) back ≡ place_at code (read (loaded_memory image)) (exit_place code) → Agrees (ground_in cpu code image 255 None) at (called back t) m
    → Agrees (code_ground cpu code image) at t m
on_main cpu code image at back t m none_pushed no_calls back_is a =
    let frame : Frame = record { back = back; pushed = t.pushed; gives = no_parts } in
    let sum = a.s in
    let bytes = frames_bytes frame t.frames in
    let one : length t.pushed ≡ 0 = ap length none_pushed in
    let two : sum_by (λ (f : Frame). 2 + length f.pushed) t.frames ≡ 0 = ap (sum_by (λ (f : Frame). 2 + length f.pushed)) no_calls in
    let low : m.machine.s + 0 ≡ m.machine.s + length t.pushed = omega (arith, one) in
    record {
      cpu = a.cpu;
      pc = a.pc;
      regs = a.regs;
      d = a.d;
      s = omega (arith, sum, bytes, one, two);
      size = a.size;
      zp = a.zp;
      mem = a.mem;
      code = a.code;
      pushed = subst (λ (vs : List ℕ). Pushed (read m.machine.mem) m.machine.s vs) (sym none_pushed) tt;
      points = subst (λ (fs : List Frame). Points (place_at code (read (loaded_memory image))) (Some (place_at code (read (loaded_memory image)) (exit_place code))) (read m.machine.mem) (m.machine.s + length t.pushed) fs) (sym no_calls)
          (subst (λ (k : ℕ). LeadsTo (read m.machine.mem) k (place_at code (read (loaded_memory image)) (exit_place code))) low (subst (λ (k : ℕ). LeadsTo (read m.machine.mem) (m.machine.s + 0) k) back_is a.points.0));
      input = a.input;
      output = a.output;
    }

-- The end

one_arrival : (q : Place) (f p : ℕ) → seen_at q none_seen f p ≤ 1
one_arrival q f p = by ((f == q.0) && (p == q.1))
  where
    by : (b : Bool) → (if b then 1 else 0) ≤ 1
    by true = omega arith
    by false = omega arith

-- before its first row the run stands at the start
pub begins_away : (cpu : Cpu) (code : Code) (image : Image) (args : List (List ℕ)) (setting : Setting) (input : List ℕ) (main : ℕ) → Image_ cpu code image args setting → linked_for cpu code ≡ Ok image → ((j : ℕ) → j < 4 → slice_get ((raw_in code args).lines (start_number code)) j ≡ slice_get stack_top j) → IsAway cpu code image (begins image input)
begins_away cpu code image args setting input main i linked_is lines =
    start_away cpu code image args setting 0 (Do ops.Lda modes.Immediate (operands.Byte 0xF0)) (begins image input) i (lines 0 (omega arith)) tt (first_agrees cpu code image input linked_is).pc

pub at_once : (P : Moment → Type 0) (image : Image) (args : List (List ℕ)) (input : List ℕ) (test : Shown → Seen → Bool) (w : ℕ) (q : Place) → P (begins image input) → IsTrue (test (record { output = []; ended = None }) (seen_at q none_seen)) → Reaches P image args input test w
at_once P image args input test w q first holds = record {
  rows = 0;
  within = omega arith;
  seen = seen_at q none_seen;
  shown = record { output = []; ended = None };
  shows = subst (IsShownBy (record { output = []; ended = None })) (sym (onward_goes P (setting_for image args) 0 (begins image input) (begins image input) none)) refl;
  passes = holds;
  few = λ f p. one_arrival q f p;
  free = λ k l. absurd (omega (arith, l));
  recorded = λ k l. holds_all P (setting_for image args) 0 (begins image input) (begins image input) k none first l;
}

pub in_time : (P : Moment → Type 0) (image : Image) (args : List (List ℕ)) (input : List ℕ) (test : Shown → Seen → Bool) (w j : ℕ) (q : Place) (n : Moment) → j ≤ 93 → Goes P (setting_for image args) j (begins image input) n → Passes P (setting_for image args) (w + 2) n test (seen_at q none_seen) → Reaches P image args input test w
in_time P image args input test w j q n small first (goes_further rows m arrivals within goes last holds few) =
    let setting : Setting = setting_for image args in
    let all : Goes P setting (j + rows) (begins image input) m = goes_both P setting j rows (j + rows) (begins image input) n m refl first goes in
    record {
      rows = j + rows;
      within = omega (arith, within, small);
      seen = arrivals;
      shown = record { output = m.output; ended = None };
      shows = subst (IsShownBy (record { output = m.output; ended = None })) (sym (onward_goes P setting (j + rows) (begins image input) m all)) refl;
      passes = holds;
      few = λ f p. (let a = few f p in let b = one_arrival q f p in omega (arith, a, b));
      free = λ k l. free_all P setting (j + rows) (begins image input) m k all l;
      recorded = λ k l. holds_all P setting (j + rows) (begins image input) m k all last l;
    }
in_time P image args input test w j q n small first (has_stopped rows status last arrivals within goes free at turn_is holds few) =
    record {
      rows = j + rows + 1;
      within = omega (arith, within, small);
      seen = arrivals;
      shown = record { output = last.output; ended = Some status };
      shows = subst (IsShownBy (record { output = last.output; ended = Some status })) (sym ended) refl;
      passes = holds;
      few = λ f p. (let a = few f p in let b = one_arrival q f p in omega (arith, a, b));
      free = λ k l. before k l (cases_order k (j + rows));
      recorded = λ k l. then_holds k l (cases_order k (j + rows + 1));
    }
  where
    setting : Setting
    setting = setting_for image args

    all : Goes P setting (j + rows) (begins image input) last
    all = goes_both P setting j rows (j + rows) (begins image input) n last refl first goes

    ended : onward setting (j + rows + 1) (Running (begins image input)) ≡ Ended last status
    ended = onward_ends P setting (j + rows) (begins image input) last status all turn_is

    before : (k : ℕ) → k < j + rows + 1 → (k ≡ j + rows) ⊎ ((k < j + rows) ⊎ (j + rows < k)) → is_too_deep (moment_of (onward setting k (Running (begins image input)))).machine ≡ false
    before k l (inl e) =
        ap (λ (x : ℕ). is_too_deep (moment_of (onward setting x (Running (begins image input)))).machine) e
        ∙ ap (λ (p : Progress). is_too_deep (moment_of p).machine) (onward_goes P setting (j + rows) (begins image input) last all) ∙ free
    before k l (inr (inl less)) = free_all P setting (j + rows) (begins image input) last k all less
    before k l (inr (inr above)) = absurd (omega (arith, l, above))

    then_holds : (k : ℕ) → k ≤ j + rows + 1 → (k ≡ j + rows + 1) ⊎ ((k < j + rows + 1) ⊎ (j + rows + 1 < k)) → P (moment_of (onward setting k (Running (begins image input))))
    then_holds k l (inl e) = subst (λ (x : ℕ). P (moment_of (onward setting x (Running (begins image input))))) (sym e) (subst (λ (p : Progress). P (moment_of p)) (sym ended) at)
    then_holds k l (inr (inl less)) = holds_all P setting (j + rows) (begins image input) last k all at (omega (arith, less))
    then_holds k l (inr (inr above)) = absurd (omega (arith, l, above))

-- All of it

pub has_some : (lines : List Line) (k : ℕ) (l : Line) → slice_get lines k ≡ Some l → HasLines lines
has_some [] k l h = (let z : ◌≡◌ {A = Option Line} None (Some l) = h in absurd cc)
has_some (x ∷ lines) k l h = tt

pub no_library : (code : Code) (f : ℕ) → HasLines ((lines_setting code).lines f) → (lines_setting code).library f ≡ None
no_library code f has = by ((lines_setting code).lines f) refl has (is_function_of code f)
  where
    asked : (b c : Bool) → c ≡ false → (if b && c then library_of (slice_get code.symbols f) else None) ≡ None
    asked true c e = ap (λ (x : Bool). if x then library_of (slice_get code.symbols f) else None) e
    asked false c e = refl

    by : (lines : List Line) → (lines_setting code).lines f ≡ lines → HasLines lines → (b : Bool) → (if is_function_of code f && is_nothing (segment_of code.functions f).lines then library_of (slice_get code.symbols f) else None) ≡ None
    by [] e h b = absurd h
    by (l ∷ lines) e h b = asked (is_function_of code f) (is_nothing (segment_of code.functions f).lines) (ap is_nothing e)

-- main's first line is one, and no call is active
pub at_main : (code : Code) (main : ℕ) (t : State) → IsSound code → HasLines ((lines_setting code).lines main) → t.frames ≡ [] → IsAtLine code (first_place (lines_setting code) main) t
at_main code main t s has no_calls =
    let first = at_entry code main s has in
    record { line = first.0; at = first.1; frames = subst (λ (fs : List Frame). All (λ (frame : Frame). (l : Line) × IsAt code frame.back l) fs) (sym no_calls) (All-nil (λ (frame : Frame). (l : Line) × IsAt code frame.back l)) }

main_called : (cpu : Cpu) (code : Code) (image : Image) (args : List (List ℕ)) (input : List ℕ) (Inv : Place → State → Type 0) (test : Shown → Seen → Bool) (w main : ℕ) → Image_ cpu code image args (setting_for image args) → linked_for cpu code ≡ Ok image → AreBytes image.payload → code.main_args ≡ false → AreBytes input
    → (raw_in code args).lines (start_number code) ≡ map (with_main main) (routine_lines routines.Start) → HasLines ((lines_setting code).lines main)
    → Comes (lines_setting code) (Shows test) w (first_place (lines_setting code) main) (state_4 image input) (seen_at (first_place (lines_setting code) main) none_seen) → IsCarried code Inv → Inv (first_place (lines_setting code) main) (state_4 image input) → Reaches (HasArrived (code_ground cpu code image) code Inv) image args input test w
main_called cpu code image args input Inv test w main i linked_is h plain given lines has comes carried inv =
    let setting : Setting = setting_for image args in
    let g : Ground = ground_in cpu code image 255 None in
    let s : RawSetting = raw_in code args in
    let f : ℕ = start_number code in
    let t : State = state_4 image input in
    let to : Place = first_place (lines_setting code) main in
    let known = function_there code main i.sound has in
    let call : Line = Call (callees.Function (record { 0 = main }) ax_parts ax_parts) in
    let there_is : slice_get (s.lines f) 4 ≡ Some call = ap (λ (ls : List Line). slice_get ls 4) lines in
    let away : Moment → Type 0 = IsAway cpu code image in
    let P : Moment → Type 0 = HasArrived (code_ground cpu code image) code Inv in
    let w4 : Went (IsAway cpu code image) g setting 4 (f, 4) t (begins image input) = started cpu code image args setting input main i linked_is h (first_lines routines.Start main (s.lines f) lines (four_of false main)) in
    let leads : callee_address i.start_laid.spot (callees.Function (record { 0 = main }) ax_parts ax_parts) ≡ g.at to = i.start_laid.calls 4 call there_is known.1 ∙ function_entry cpu code image args main known.0 (no_library code main has) in
    let m : Moved g setting (g.at to) (called (line_after s (f, 4)) t) w4.then_at = call_moves g s setting f 4 (callees.Function (record { 0 = main }) ax_parts ax_parts) (g.at to) t w4.then_at i.start_ground i.start_laid there_is leads
    (room_for g s (g.at (f, 4)) 2 0 t w4.then_at i.start_ground w4.agrees (omega arith)) w4.agrees in
    let back : g.at (line_after s (f, 4)) ≡ g.at (exit_place code) = i.start_laid.settled 5 ∙ ap (λ (b : Bool). g.at (f, if b then 16 else 5)) (sym plain) in
    let agrees : Agrees (code_ground cpu code image) (g.at to) t m.next = on_main cpu code image (g.at to) (line_after s (f, 4)) t m.next refl refl back m.agrees in
    let within = w4.within in
    let called_away : away w4.then_at = start_away cpu code image args setting 4 call w4.then_at i there_is tt w4.agrees.pc in
    let first : Goes away setting (w4.rows + 1) (begins image input) m.next = goes_both away setting w4.rows 1 (w4.rows + 1) (begins image input) w4.then_at m.next refl w4.goes (more {n = m.next} m.turn_is m.free called_away none) in
    in_time P image args input test w (w4.rows + 1) to m.next (omega (arith, within)) (weaker away P setting (w4.rows + 1) (begins image input) m.next (λ x z. none_arrives (code_ground cpu code image) code Inv x z) first)
    (reach cpu code image args setting Inv test w to t m.next (seen_at to none_seen) i carried comes (record { running = refl; bytes = bytes_4 image input h; input = given }) (All-nil (λ (x : Frame). x.back.0 < length code.symbols)) (at_main code main t i.sound has refl) inv agrees)

pub plain_images_follow : PlainImagesFollow
plain_images_follow cpu code image runs s numbers linked_is payload plain main is_main args input test w args_bytes given runtime all Inv carried inv =
    by (all t begun_there)
  where
    t : State
    t = state_4 image input

    sh : IsShaped code cpu image
    sh = shaped code cpu image linked_is

    i : Image_ cpu code image args (setting_for image args)
    i = image_known cpu code image args (setting_for image args) runs s numbers linked_is (record { sp = sh.sp; args = refl; bytes = args_bytes }) runtime

    data_there : AreDataLoaded code image
    data_there = data_are_loaded code cpu image s linked_is

    begun_there : IsStart code (place_in code) args input t
    begun_there = record {
      called = subst (λ (b : Bool). IsMainCalled b args t) (sym plain) refl;
      data_placed = λ j k v datum is byte. data_there.stored j k v datum is byte;
      zeros_placed = λ j k datum is low high. data_there.zeros j k datum is low high;
      pushed = refl;
      frames = refl;
      input = refl;
      output = refl;
      ended = refl;
      bytes = bytes_4 image input payload;
    }

    by : Comes (lines_setting code) (Shows test) w (first_place (lines_setting code) main) t (seen_at (first_place (lines_setting code) main) none_seen) → Reaches (HasArrived (code_ground cpu code image) code Inv) image args input test w
    by (here holds calm) =
        at_once (HasArrived (code_ground cpu code image) code Inv) image args input test w (first_place (lines_setting code) main)
        (none_arrives (code_ground cpu code image) code Inv (begins image input) (begins_away cpu code image args (setting_for image args) input main i linked_is (first_lines routines.Start main ((raw_in code args).lines (start_number code)) (plain_start code args main s is_main plain) (four_of false main)))) holds
    by (on l at steady c weighs le wq wu moves next) =
        main_called cpu code image args input Inv test w main i linked_is payload plain given (plain_start code args main s is_main plain)
        (has_some ((lines_setting code).lines main) (settle ((lines_setting code).lines main) 0) l at) (on l at steady c weighs le wq wu moves next) carried (inv t begun_there)
