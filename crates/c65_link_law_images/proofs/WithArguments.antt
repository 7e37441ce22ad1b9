-- From the first row the image follows the lines, also where main takes arguments.
use Rattle.std.proofs.Common.{◌≡◌, ℕ, suc, ◌+◌, ◌-◌, ◌*◌, ◌<◌, ◌≤◌, inl, inr, Bool, true, false, if◌then◌else◌, List, [], ◌∷◌, All, map, Some, None, Ok, length, slice_get, refl, ap, sym, ◌∙◌, subst, arith}
use Rattle.std.specs.List.{sum_by}
use Rattle.std.proofs.lemmas.List.Elements.{All-nil}
use Rattle.c65_base.specs.declared.options.Cpu.{Cpu}
use Rattle.c65_mach.specs.declared.image.Image.{Image}
use Rattle.c65_mach.specs.State.{read, loaded_memory}
use Rattle.c65_mach.specs.Step.{kind_of}
use Rattle.c65_mach.specs.Run.{Setting, Moment}
use Rattle.c65_code.specs.declared.parts.Part.TheVariants.{Zp}
use Rattle.c65_code.specs.declared.routine.Routine.TheVariants as routines
use Rattle.c65_code.specs.declared.line.Callee.TheVariants as callees
use Rattle.c65_code.specs.declared.line.Line.{Line}
use Rattle.c65_code.specs.declared.line.Line.TheVariants.{Call}
use Rattle.c65_code.specs.declared.code.Code.{Code}
use Rattle.c65_code.specs.declared.code.Datum.{Datum}
use Rattle.c65_code.specs.LineState.{Place, State, Frame, sp_of, zero_word}
use Rattle.c65_code.specs.Placement.{setting_of}
use Rattle.c65_code.specs.Processors.{RunsOn}
use Rattle.c65_code.specs.Forms.{Run}
use Rattle.c65_code.specs.Rows.{Meets}
use Rattle.c65_code.specs.Moves.{settle, next, effect}
use Rattle.c65_code.specs.Steady.{HasLines}
use Rattle.c65_code.specs.RawMachine.{RawSetting, IsRuntime, called, line_after}
use Rattle.c65_link.specs.Linked.{linked_for}
use Rattle.c65_link.specs.Runtime.{routine_lines}
use Rattle.c65_link_law_spots.specs.Places.{place_in, address_in}
use Rattle.c65_link_law_spots.specs.Sound.{IsSound}
use Rattle.c65_link_law_spots.specs.Laws.{AreUsesChosen}
use Rattle.c65_link_law_spots.proofs.Uses.{uses_are_chosen}
use Rattle.c65_link_law_follow.specs.Agree.{Ground, Agrees, Goes, none, more}
use Rattle.c65_link_law_follow.proofs.Bytes.{Moved}
use Rattle.c65_link_law_follow.proofs.Follow.{call_moves, room_for}
use Rattle.c65_link_law_laid.specs.Linked.{start_number, with_main, raw_in, place_at, ground_in}
use Rattle.c65_link_law_laid.specs.Laws.{AreLineNumbers}
use Rattle.c65_link_law_laid.proofs.Linked.{the_start}
use Rattle.c65_link_law_runs.specs.Follows.{IsRunning}
use Rattle.c65_link_law_runs.proofs.Moves.{weaker}
use Rattle.c65_link_law_runs.proofs.Runs.{goes_both}
use Rattle.c65_link_law_reach.specs.Reach.{runtime_in, exit_place, code_ground, HasArrived, at_first, by_move, AreCallers}
use Rattle.c65_link_law_reach.proofs.Steps.{Image_, lines_setting, away_hook}
use Rattle.c65_code.specs.declared.line.Operand.TheVariants as operands
use Rattle.c65_mach.specs.declared.rows.Op.TheVariants as ops
use Rattle.c65_mach.specs.declared.rows.Mode.TheVariants.{Indirect}
use Rattle.c65_link.specs.Bytes.{callee_address}
use Rattle.c65_code.specs.Comes.{Seen, Shown, seen_at, Shows, Comes, here, on}
use Rattle.c65_mach.specs.Run.{begins, setting_of as setting_for}
use Rattle.c65_mach.specs.declared.rows.Op.TheVariants as ops
use Rattle.c65_mach.specs.declared.rows.Mode.TheVariants as modes
use Rattle.c65_code.specs.declared.line.Operand.TheVariants as operands
use Rattle.c65_code.specs.Starts.{IsMain, IsStart, IsMainCalled}
use Rattle.c65_code.specs.Comes.{ComesFrom, first_place, none_seen}
use Rattle.c65_code.specs.Placement.{initial_byte, IsDatumOf, size_of_datum, bytes_of_cells}
use Rattle.c65_link_law_spots.proofs.Places.{cells_length}
use Rattle.std.proofs.lemmas.Option.{slice_get_within}
use Rattle.std.proofs.lemmas.List.Sums.{sum_by-cons}
use Rattle.c65_link.specs.Linked.{entry_of as entry_routine}
use Rattle.c65_link_law_spots.specs.Laws.{AreDataLoaded}
use Rattle.c65_link_law_spots.proofs.Loaded.{IsShaped, shaped, data_are_loaded}
use Rattle.c65_link_law_reach.proofs.Reach.{IsCarried, image_known, none_arrives, reach, same_shown}
use Rattle.c65_link_law_reach.proofs.Calls.{function_there, function_entry}
use Rattle.c65_link_law_images.specs.Reaches.{Reaches}
use Rattle.c65_link_law_images.specs.Laws.{AreBytes}
use Rattle.c65_code.specs.Effects.{ax as ax_parts}
use Rattle.c65_link_law_images.proofs.First.{IsAway, start_away, Went, plain_went, main_is}
use Rattle.std.proofs.Common.{◌%◌, ◌/◌}
use Rattle.c65_code.specs.Rows.{written}
use Rattle.c65_code.specs.Texts.{listed}
use Rattle.c65_code.specs.LineState.{ax_of}
use Rattle.c65_code.specs.Rows.{word_bytes}
use Rattle.c65_code.specs.Starts.{AreLaid, HasArguments}
use Rattle.c65_code.specs.RawMachine.{arg_writes, args_size}
use Rattle.c65_mach.specs.Step.{after}
use Rattle.c65_sim.specs.View.{arguments_size}
use Rattle.c65_link_law_runs.specs.Follows.{HasArgumentRoom}
use Rattle.c65_link_law_runs.proofs.Answers.{hooks_are_free, written_both}
use Rattle.c65_link_law_runs.proofs.Hooks.{Served, IsMetBy}
use Rattle.c65_link_law_runs.proofs.Arguments.{args_row, args_state, args_served, args_met}
use Rattle.c65_link_law_images.specs.Laws.{IsRun, ImagesFollow}
use Rattle.c65_link_law_images.proofs.Images.{state_4, first_lines, four_of, started, on_main, begins_away, at_once, in_time, at_main, has_some, no_library, plain_images_follow}
use Rattle.c65_link_law_images.proofs.Lie.{other_bytes, own_byte, untouched, lie, laid_same as laid_from}
use Rattle.c65_link_law_images.proofs.Push.{push_row_at, Pushed_, pushed_went}

-- The states up to the call of the hook: AX is the address of the stack's lowest word, and so is ptr1

abbrev state_8 : Image → List ℕ → State
state_8 image input =
    effect (kind_of ops.Stx) ops.Stx modes.ZeroPage 9 (effect (kind_of ops.Ldx) ops.Ldx modes.Immediate 0xF7 (effect (kind_of ops.Sta) ops.Sta modes.ZeroPage 8 (effect (kind_of ops.Lda) ops.Lda modes.Immediate 0xF0 (state_4 image input))))

size_same : (args : List (List ℕ)) → sum_by (λ (arg : List ℕ). length arg + 1) args ≡ args_size args
size_same [] = refl
size_same (arg ∷ args) = sum_by-cons (λ (x : List ℕ). length x + 1) arg args ∙ ap (λ (n : ℕ). length arg + 1 + n) (size_same args)

start_lines : (code : Code) (args : List (List ℕ)) (main : ℕ) → IsSound code → IsMain code main → code.main_args ≡ true → (raw_in code args).lines (start_number code) ≡ map (with_main main) (routine_lines routines.StartArgs)
start_lines code args main s m given =
    the_start code ∙ ap (λ (n : ℕ). map (with_main n) (routine_lines (entry_routine code))) (main_is code main s m)
    ∙ ap (λ (b : Bool). map (with_main main) (routine_lines (if b then routines.StartArgs else routines.Start))) given

-- the state when the hook has answered
abbrev state_9 : Image → List (List ℕ) → List ℕ → State
state_9 image args input = args_state args (state_8 image input)

-- what main's call comes from: the state that pushax has left, and how it is loaded from
record Ready (cpu : Cpu) (code : Code) (image : Image) (args : List (List ℕ)) (setting : Setting) (input : List ℕ) : Type 0 where
  push : Pushed_ (IsAway cpu code image) (ground_in cpu code image 255 None) setting 42 (start_number code, 10) (state_9 image args input) (begins image input)
  room : args_size args + 2 * (length args + 1) ≤ 1024

ready : (cpu : Cpu) (code : Code) (image : Image) (args : List (List ℕ)) (setting : Setting) (input : List ℕ) (main : ℕ) → Image_ cpu code image args setting → linked_for cpu code ≡ Ok image → AreBytes image.payload → AreBytes input → arguments_size args ≤ 1024 → code.main_args ≡ true
    → (raw_in code args).lines (start_number code) ≡ map (with_main main) (routine_lines routines.StartArgs) → Ready cpu code image args setting input
ready cpu code image args setting input main i linked_is h given few with_args lines =
    let g : Ground = ground_in cpu code image 255 None in
    let s : RawSetting = raw_in code args in
    let f : ℕ = start_number code in
    let first : Moment = begins image input in
    let size = size_same args in
    let small : args_size args + 2 * (length args + 1) ≤ 1024 = omega (arith, few, size) in
    let w4 : Went (IsAway cpu code image) g setting 4 (f, 4) (state_4 image input) first = started cpu code image args setting input main i linked_is h (first_lines routines.StartArgs main (s.lines f) lines (four_of true main)) in
    let w5 = plain_went cpu code image args setting 4 4 ops.Lda modes.Immediate (operands.Byte 0xF0) first (state_4 image input) i (ap (λ (ls : List Line). slice_get ls 4) lines) refl tt w4 in
    let t5 : State = effect (kind_of ops.Lda) ops.Lda modes.Immediate 0xF0 (state_4 image input) in
    let w6 = plain_went cpu code image args setting 5 5 ops.Sta modes.ZeroPage (operands.Zero 8) first t5 i (ap (λ (ls : List Line). slice_get ls 5) lines) refl (omega arith) w5 in
    let t6 : State = effect (kind_of ops.Sta) ops.Sta modes.ZeroPage 8 t5 in
    let w7 = plain_went cpu code image args setting 6 6 ops.Ldx modes.Immediate (operands.Byte 0xF7) first t6 i (ap (λ (ls : List Line). slice_get ls 6) lines) refl tt w6 in
    let t7 : State = effect (kind_of ops.Ldx) ops.Ldx modes.Immediate 0xF7 t6 in
    let w8 : Went (IsAway cpu code image) g setting 8 (f, 8) (state_8 image input) first = plain_went cpu code image args setting 7 7 ops.Stx modes.ZeroPage (operands.Zero 9) first t7 i (ap (λ (ls : List Line). slice_get ls 7) lines) refl (omega arith) w7 in
    let t8 : State = state_8 image input in
    let sp8 : sp_of t8 ≡ 65520 = refl in
    let ax8 : ax_of t8 ≡ 63472 = refl in
    let hook : slice_get (s.lines f) 8 ≡ Some (Call (callees.Routine routines.HookArgs)) = ap (λ (ls : List Line). slice_get ls 8) lines in
    let m : Moved g setting 0xFFF8 (called (line_after s (f, 8)) t8) w8.then_at = call_moves g s setting f 8 (callees.Routine routines.HookArgs) 0xFFF8 t8 w8.then_at i.start_ground i.start_laid hook (i.start_laid.calls 8 (Call (callees.Routine routines.HookArgs)) hook)
    (room_for g s (g.at (f, 8)) 2 0 t8 w8.then_at i.start_ground w8.agrees (omega arith)) w8.agrees in
    let has_room : HasArgumentRoom s (Run routines.HookArgs) t8 = (omega (arith, small, sp8), omega (arith, sp8), omega (arith, ax8), omega (arith, ax8)) in
    let back_low : g.at (line_after s (f, 8)) ≤ 65535 = (let to = i.start_ground.to (line_after s (f, 8)) in let high = i.start_ground.high in omega (arith, to, high)) in
    let served : Served g setting (line_after s (f, 8)) (state_9 image args input) m.next = args_served g s setting (line_after s (f, 8)) t8 m.next i.start_ground i.set has_room m.agrees back_low in
    let met : IsMetBy (args_row args t8) t8 (state_9 image args input) = args_met s setting t8 i.set has_room (record { running = refl; bytes = w8.bytes; input = given }) in
    let within = w8.within in let far = m.agrees.pc in
    let w9 : Went (IsAway cpu code image) g setting 10 (f, 9) (state_9 image args input) first = record {
      then_at = served.next;
      rows = w8.rows + 2;
      within = omega (arith, within);
      goes = goes_both (IsAway cpu code image) setting w8.rows 2 (w8.rows + 2) first w8.then_at served.next refl w8.goes (more {n = m.next} {o = served.next} m.turn_is m.free (start_away cpu code image args setting 8 (Call (callees.Routine routines.HookArgs)) w8.then_at i hook tt w8.agrees.pc) (more {n = served.next} {o = served.next} served.turn_is (hooks_are_free m.next.machine 0xFFF8 m.agrees.pc refl) (away_hook cpu code image args setting m.next.machine.pc i (omega (arith, far))) none));
      bytes = met.bytes;
      agrees = subst (λ (k : ℕ). Agrees g k (state_9 image args input) served.next) (i.start_laid.settled 9) served.agrees;
    } in
    let sp9 : sp_of (state_9 image args input) ≡ 65520 - 2 * (length args + 1) - args_size args = omega arith in
    let uses : AreUsesChosen code = uses_are_chosen code in
    let entry : slice_get (routine_lines (entry_routine code)) 9 ≡ Some (Call (callees.Routine routines.PushAx)) = ap (λ (b : Bool). slice_get (routine_lines (if b then routines.StartArgs else routines.Start)) 9) with_args in
    record {
      push = pushed_went cpu code image args setting 10 9 first (state_9 image args input) i (uses.entry 9 (Call (callees.Routine routines.PushAx)) routines.PushAx entry refl refl) (ap (λ (ls : List Line). slice_get ls 9) lines)
          refl refl refl given (omega (arith, small, sp9)) (omega (arith, sp9)) w9;
      room = small;
    }

-- From the state that pushax leaves, main is called with the argument list in AX

abbrev loaded_1 : State → State
loaded_1 u = effect (kind_of ops.Ldy) ops.Ldy modes.Immediate 1 u

abbrev loaded_2 : State → State
loaded_2 u = effect (kind_of ops.Lda) ops.Lda modes.IndirectY 8 (loaded_1 u)

abbrev loaded_3 : State → State
loaded_3 u = effect (kind_of ops.Tax) ops.Tax modes.Implied 0 (loaded_2 u)

abbrev loaded_4 : State → State
loaded_4 u = effect (kind_of ops.Dey) ops.Dey modes.Implied 0 (loaded_3 u)

abbrev loaded_5 : State → State
loaded_5 u = effect (kind_of ops.Lda) ops.Lda modes.IndirectY 8 (loaded_4 u)

abbrev list_of : List (List ℕ) → ℕ
list_of args = 65520 - 2 * (length args + 1)

-- what memory has after pushax
record Kept_ (image : Image) (args : List (List ℕ)) (input : List ℕ) (u : State) : Type 0 where
  sp : sp_of u ≡ list_of args - args_size args - 2
  word : zero_word u 8 ≡ 63472
  above : (b : ℕ) → list_of args - args_size args ≤ b → u.mem b ≡ written (read (loaded_memory image)) (arg_writes args (list_of args) (list_of args)) b
  below : (b : ℕ) → b < 63472 → u.mem b ≡ read (loaded_memory image) b
  list_low : u.mem 63472 ≡ list_of args % 256
  list_high : u.mem 63473 ≡ list_of args / 256 % 256
  count_low : u.mem (list_of args - args_size args - 2) ≡ length args % 256
  count_high : u.mem (list_of args - args_size args - 2 + 1) ≡ length args / 256
  pushed : u.pushed ≡ []
  frames : u.frames ≡ []
  input_is : u.input ≡ input
  output : u.output ≡ []
  ended : u.ended ≡ None

kept_there : (image : Image) (args : List (List ℕ)) (input : List ℕ) (u : State) → args_size args + 2 * (length args + 1) ≤ 1024 → Meets (push_row_at (state_9 image args input)) (state_9 image args input) u → Kept_ image args input u
kept_there image args input u small met =
    record {
      sp = met.sp ∙ (let z : sp_of t9 - 2 ≡ list - args_size args - 2 = omega (arith, sp9) in z);
      word = (let one = met.kept (Zp 8) refl in let two = met.kept (Zp 9) refl in omega (arith, one, two));
      above = λ b from. met.mem b (inr (inl (omega (arith, from, sp9)))) ∙ other_bytes pair (sp_of t9 - 2) b t9.mem (inr (omega (arith, from, sp9, small))) ∙ split b ∙ other_bytes (word_bytes list) 63472 b laid (inr (omega (arith, from, small)));
      below = λ b less. outside b (omega (arith, less)) ∙ other_bytes (word_bytes list) 63472 b laid (inl less) ∙ untouched args list list b m0 (omega (arith, small)) (inl (omega (arith, less, small))) (inl (omega (arith, less, small)));
      list_low = outside 63472 (omega arith) ∙ own_byte (word_bytes list) 63472 0 (list % 256) laid refl;
      list_high = outside 63473 (omega arith) ∙ own_byte (word_bytes list) 63472 1 (list / 256 % 256) laid refl;
      count_low = ap u.mem (let z : list - args_size args - 2 ≡ sp_of t9 - 2 + 0 = omega (arith, sp9) in z) ∙ met.mem (sp_of t9 - 2 + 0) (inr (inr (omega arith))) ∙ own_byte pair (sp_of t9 - 2) 0 (length args % 256) t9.mem refl;
      count_high = ap u.mem (let z : list - args_size args - 2 + 1 ≡ sp_of t9 - 2 + 1 = omega (arith, sp9) in z) ∙ met.mem (sp_of t9 - 2 + 1) (inr (inr (omega arith))) ∙ own_byte pair (sp_of t9 - 2) 1 (length args / 256) t9.mem refl;
      pushed = met.pushed;
      frames = met.frames;
      input_is = met.input;
      output = met.output;
      ended = met.ended;
    }
  where
    t9 : State
    t9 = state_9 image args input

    list : ℕ
    list = list_of args

    m0 : ℕ → ℕ
    m0 = read (loaded_memory image)

    laid : ℕ → ℕ
    laid = written m0 (arg_writes args list list)

    pair : List ℕ
    pair = t9.regs.a ∷ t9.regs.x ∷ []

    sp9 : sp_of t9 ≡ list - args_size args
    sp9 = omega arith

    split : (b : ℕ) → t9.mem b ≡ written laid (listed (word_bytes list) 63472) b
    split b = ap (λ (f : ℕ → ℕ). f b) (written_both (arg_writes args list list) (listed (word_bytes list) 63472) m0)

    outside : (b : ℕ) → b ≤ 63473 → u.mem b ≡ written laid (listed (word_bytes list) 63472) b
    outside b less = met.mem b (inl (omega (arith, less, sp9, small))) ∙ other_bytes pair (sp_of t9 - 2) b t9.mem (inl (omega (arith, less, sp9, small))) ∙ split b

-- the call of main
call_main : (cpu : Cpu) (code : Code) (image : Image) (args : List (List ℕ)) (input : List ℕ) (Inv : Place → State → Type 0) (test : Shown → Seen → Bool) (w main k j : ℕ) (t : State) → Image_ cpu code image args (setting_for image args) → slice_get ((raw_in code args).lines (start_number code)) j ≡ Some (Call (callees.Function (record { 0 = main }) ax_parts ax_parts))
    → place_at code (read (loaded_memory image)) (start_number code, suc j) ≡ place_at code (read (loaded_memory image)) (exit_place code) → t.pushed ≡ [] → t.frames ≡ [] → IsRunning t → k ≤ 92 → Went (IsAway cpu code image) (ground_in cpu code image 255 None) (setting_for image args) k (start_number code, j) t (begins image input)
    → HasLines ((lines_setting code).lines main) → Comes (lines_setting code) (Shows test) w (first_place (lines_setting code) main) t (seen_at (first_place (lines_setting code) main) none_seen) → IsCarried code Inv → Inv (first_place (lines_setting code) main) t → Reaches (HasArrived (code_ground cpu code image) code Inv) image args input test w
call_main cpu code image args input Inv test w main k j t i held exit_is none_pushed no_calls running small went has comes carried inv =
    let setting : Setting = setting_for image args in
    let g : Ground = ground_in cpu code image 255 None in
    let s : RawSetting = raw_in code args in
    let f : ℕ = start_number code in
    let to : Place = first_place (lines_setting code) main in
    let known = function_there code main i.sound has in
    let call : Line = Call (callees.Function (record { 0 = main }) ax_parts ax_parts) in
    let leads : callee_address i.start_laid.spot (callees.Function (record { 0 = main }) ax_parts ax_parts) ≡ g.at to = i.start_laid.calls j call held known.1 ∙ function_entry cpu code image args main known.0 (no_library code main has) in
    let one : length t.pushed ≡ 0 = ap length none_pushed in
    let two : sum_by (λ (x : Frame). 2 + length x.pushed) t.frames ≡ 0 = ap (sum_by (λ (x : Frame). 2 + length x.pushed)) no_calls in
    let m : Moved g setting (g.at to) (called (line_after s (f, j)) t) went.then_at = call_moves g s setting f j (callees.Function (record { 0 = main }) ax_parts ax_parts) (g.at to) t went.then_at i.start_ground i.start_laid held leads
    (room_for g s (g.at (f, j)) 2 0 t went.then_at i.start_ground went.agrees (omega (arith, one, two))) went.agrees in
    let back : g.at (line_after s (f, j)) ≡ g.at (exit_place code) = i.start_laid.settled (suc j) ∙ exit_is in
    let agrees : Agrees (code_ground cpu code image) (g.at to) t m.next = on_main cpu code image (g.at to) (line_after s (f, j)) t m.next none_pushed no_calls back m.agrees in
    let within = went.within in
    let away : Moment → Type 0 = IsAway cpu code image in
    let P : Moment → Type 0 = HasArrived (code_ground cpu code image) code Inv in
    let called_away : away went.then_at = start_away cpu code image args setting j call went.then_at i held tt went.agrees.pc in
    let first : Goes away setting (went.rows + 1) (begins image input) m.next = goes_both away setting went.rows 1 (went.rows + 1) (begins image input) went.then_at m.next refl went.goes (more {n = m.next} m.turn_is m.free called_away none) in
    in_time P image args input test w (went.rows + 1) to m.next (omega (arith, within, small)) (weaker away P setting (went.rows + 1) (begins image input) m.next (λ x z. none_arrives (code_ground cpu code image) code Inv x z) first)
    (reach cpu code image args setting Inv test w to t m.next (seen_at to none_seen) i carried comes running (subst (AreCallers code) (sym no_calls) (All-nil (λ (x : Frame). x.back.0 < length code.symbols))) (at_main code main t i.sound has no_calls) inv agrees)

-- the lines behind pushax
loaded_went : (cpu : Cpu) (code : Code) (image : Image) (args : List (List ℕ)) (setting : Setting) (main : ℕ) (u : State) (first : Moment) → Image_ cpu code image args setting → (raw_in code args).lines (start_number code) ≡ map (with_main main) (routine_lines routines.StartArgs) → zero_word u 8 ≡ 63472
    → Went (IsAway cpu code image) (ground_in cpu code image 255 None) setting 42 (start_number code, 10) u first → Went (IsAway cpu code image) (ground_in cpu code image 255 None) setting 47 (start_number code, 15) (loaded_5 u) first
loaded_went cpu code image args setting main u first i lines word w10 =
    let g : Ground = ground_in cpu code image 255 None in
    let f : ℕ = start_number code in
    let high : after (zero_word u 8) 1 ≡ 63473 = omega (arith, word) in
    let low : after (zero_word u 8) 0 ≡ 63472 = omega (arith, word) in
    let w11 : Went (IsAway cpu code image) g setting 43 (f, 11) (loaded_1 u) first = plain_went cpu code image args setting 42 10 ops.Ldy modes.Immediate (operands.Byte 1) first u i (ap (λ (ls : List Line). slice_get ls 10) lines) refl tt w10 in
    let w12 : Went (IsAway cpu code image) g setting 44 (f, 12) (loaded_2 u) first = plain_went cpu code image args setting 43 11 ops.Lda modes.IndirectY (operands.Zero 8) first (loaded_1 u) i (ap (λ (ls : List Line). slice_get ls 11) lines) refl (inr (omega (arith, high), omega (arith, high))) w11 in
    let w13 : Went (IsAway cpu code image) g setting 45 (f, 13) (loaded_3 u) first = plain_went cpu code image args setting 44 12 ops.Tax modes.Implied operands.Nothing first (loaded_2 u) i (ap (λ (ls : List Line). slice_get ls 12) lines) refl tt w12 in
    let w14 : Went (IsAway cpu code image) g setting 46 (f, 14) (loaded_4 u) first = plain_went cpu code image args setting 45 13 ops.Dey modes.Implied operands.Nothing first (loaded_3 u) i (ap (λ (ls : List Line). slice_get ls 13) lines) refl tt w13 in
    plain_went cpu code image args setting 46 14 ops.Lda modes.IndirectY (operands.Zero 8) first (loaded_4 u) i (ap (λ (ls : List Line). slice_get ls 14) lines) refl (inr (omega (arith, low), omega (arith, low))) w14

has_arguments : (image : Image) (args : List (List ℕ)) (input : List ℕ) (u : State) → args_size args + 2 * (length args + 1) ≤ 1024 → Kept_ image args input u → HasArguments args (loaded_5 u)
has_arguments image args input u small k =
    let list : ℕ = list_of args in
    let word = k.word in let sp = k.sp in
    let a : u.mem (after (zero_word u 8) 0) ≡ list % 256 = ap u.mem (let z : after (zero_word u 8) 0 ≡ 63472 = omega (arith, word) in z) ∙ k.list_low in
    let x : u.mem (after (zero_word u 8) 1) ≡ list / 256 % 256 = ap u.mem (let z : after (zero_word u 8) 1 ≡ 63473 = omega (arith, word) in z) ∙ k.list_high in
    let low : u.mem (sp_of u) ≡ length args % 256 = ap u.mem sp ∙ k.count_low in
    let high : u.mem (sp_of u + 1) ≡ length args / 256 = ap (λ (n : ℕ). u.mem (n + 1)) sp ∙ k.count_high in
    let end : list - args_size args ≡ sp_of u + 2 = omega (arith, sp, small) in
    let laid : AreLaid (written (read (loaded_memory image)) (arg_writes args list list)) args list list (list - args_size args) = lie args list list (read (loaded_memory image)) (omega (arith, small)) (omega arith) (omega arith) in
    record {
      argc = omega (arith, low, high);
      argv = omega (arith, a, x);
      laid = subst (λ (n : ℕ). AreLaid u.mem args list list n) end (laid_from args (written (read (loaded_memory image)) (arg_writes args list list)) u.mem (list - args_size args) list list (list - args_size args) k.above (omega arith) (omega (arith, small)) laid);
    }

given_images_follow : (cpu : Cpu) (code : Code) (image : Image) → RunsOn cpu code → IsSound code → AreLineNumbers code → linked_for cpu code ≡ Ok image → AreBytes image.payload → code.main_args ≡ true → (main : ℕ) → IsMain code main
    → (args : List (List ℕ)) (input : List ℕ) (test : Shown → Seen → Bool) (w : ℕ) → All AreBytes args → AreBytes input → arguments_size args ≤ 1024 → IsRuntime (runtime_in code args)
    → ((t : State) → IsStart code (place_in code) args input t → ComesFrom (setting_of code (place_in code)) main test w t)
    → (Inv : Place → State → Type 0) → IsCarried code Inv → ((t : State) → IsStart code (place_in code) args input t → Inv (first_place (setting_of code (place_in code)) main) t) → Reaches (HasArrived (code_ground cpu code image) code Inv) image args input test w
given_images_follow cpu code image runs s numbers linked_is payload given main is_main args input test w args_bytes input_bytes few runtime all Inv carried inv = by (all t begun_there)
  where
    sh : IsShaped code cpu image
    sh = shaped code cpu image linked_is

    i : Image_ cpu code image args (setting_for image args)
    i = image_known cpu code image args (setting_for image args) runs s numbers linked_is (record { sp = sh.sp; args = refl; bytes = args_bytes }) runtime

    lines : (raw_in code args).lines (start_number code) ≡ map (with_main main) (routine_lines routines.StartArgs)
    lines = start_lines code args main s is_main given

    r : Ready cpu code image args (setting_for image args) input
    r = ready cpu code image args (setting_for image args) input main i linked_is payload input_bytes few given lines

    u : State
    u = r.push.state

    k : Kept_ image args input u
    k = kept_there image args input u r.room r.push.meets

    t : State
    t = loaded_5 u

    went : Went (IsAway cpu code image) (ground_in cpu code image 255 None) (setting_for image args) 47 (start_number code, 15) t (begins image input)
    went = loaded_went cpu code image args (setting_for image args) main u (begins image input) i lines k.word r.push.went

    data_there : AreDataLoaded code image
    data_there = data_are_loaded code cpu image s linked_is

    datum_low : (j n : ℕ) (datum : Datum) → IsDatumOf code j datum → n < size_of_datum datum → address_in code datum.sym.0 + n < 63472
    datum_low j n datum is less = (let high = i.place.high j datum is in omega (arith, high, less))

    stored_low : (j n v : ℕ) (datum : Datum) → IsDatumOf code j datum → initial_byte (place_in code) datum n ≡ Some v → address_in code datum.sym.0 + n < 63472
    stored_low j n v datum is byte = (let less = slice_get_within (bytes_of_cells (place_in code) datum.cells) n v byte in let size = cells_length (place_in code) datum.cells in datum_low j n datum is (omega (arith, less, size)))

    begun_there : IsStart code (place_in code) args input t
    begun_there = record {
      called = subst (λ (b : Bool). IsMainCalled b args t) (sym given) (has_arguments image args input u r.room k);
      data_placed = λ j n v datum is byte. k.below (address_in code datum.sym.0 + n) (stored_low j n v datum is byte) ∙ data_there.stored j n v datum is byte;
      zeros_placed = λ j n datum is low high. k.below (address_in code datum.sym.0 + n) (datum_low j n datum is high) ∙ data_there.zeros j n datum is low high;
      pushed = k.pushed;
      frames = k.frames;
      input = k.input_is;
      output = k.output;
      ended = k.ended;
      bytes = went.bytes;
    }

    by : Comes (lines_setting code) (Shows test) w (first_place (lines_setting code) main) t (seen_at (first_place (lines_setting code) main) none_seen) → Reaches (HasArrived (code_ground cpu code image) code Inv) image args input test w
    by (here holds calm) =
        at_once (HasArrived (code_ground cpu code image) code Inv) image args input test w (first_place (lines_setting code) main)
        (none_arrives (code_ground cpu code image) code Inv (begins image input) (begins_away cpu code image args (setting_for image args) input main i linked_is (first_lines routines.StartArgs main ((raw_in code args).lines (start_number code)) lines (four_of true main)))) (same_shown test (seen_at (first_place (lines_setting code) main) none_seen) t [] None k.output k.ended holds)
    by (on l at steady c weighs le wq wu moves next) =
        call_main cpu code image args input Inv test w main 47 15 t i (ap (λ (ls : List Line). slice_get ls 15) lines) (ap (λ (b : Bool). place_at code (read (loaded_memory image)) (start_number code, if b then 16 else 5)) (sym given))
        k.pushed k.frames (record { running = k.ended; bytes = went.bytes; input = subst (λ (xs : List ℕ). All (λ v. v < 256) xs) (sym k.input_is) input_bytes }) (omega arith) went
        (has_some ((lines_setting code).lines main) (settle ((lines_setting code).lines main) 0) l at) (on l at steady c weighs le wq wu moves next) carried (inv t begun_there)

pub images_follow : ImagesFollow
images_follow cpu code image runs s numbers linked_is payload main is_main args input test w args_bytes input_bytes few runtime all = by code.main_args refl
  where
    Inv : Place → State → Type 0
    Inv = IsRun code main args input

    carried : IsCarried code Inv
    carried l p q t u run at steady moves = (run.0, run.1, by_move l run.2 at steady moves)

    begun : (t : State) → IsStart code (place_in code) args input t → Inv (first_place (lines_setting code) main) t
    begun t is = (t, is, at_first)

    by : (b : Bool) → code.main_args ≡ b → Reaches (HasArrived (code_ground cpu code image) code Inv) image args input test w
    by true e = given_images_follow cpu code image runs s numbers linked_is payload e main is_main args input test w args_bytes input_bytes few runtime all Inv carried begun
    by false e = plain_images_follow cpu code image runs s numbers linked_is payload e main is_main args input test w args_bytes input_bytes runtime all Inv carried begun
