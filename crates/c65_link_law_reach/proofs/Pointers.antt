-- Calls through ptr4, and so each move of the lines of a code.
use Rattle.std.proofs.Common.{◌≡◌, ℕ, suc, ◌+◌, ◌≤◌, inl, inr, List, Option, Some, None, length, slice_get, refl, ap, sym, ◌∙◌, subst, arith}
use Rattle.c65_base.specs.declared.options.Cpu.{Cpu}
use Rattle.c65_base.specs.declared.library.Library.{Library}
use Rattle.c65_mach.specs.declared.image.Image.{Image}
use Rattle.c65_mach.specs.State.{read, loaded_memory}
use Rattle.c65_mach.specs.Step.{kind_of}
use Rattle.c65_mach.specs.Run.{Setting, Moment}
use Rattle.c65_code.specs.declared.parts.RegSet.{RegSet}
use Rattle.c65_code.specs.declared.routine.Routine.TheVariants as routines
use Rattle.c65_code.specs.Numbering.{number_of}
use Rattle.c65_code.specs.declared.line.Sym.{Sym}
use Rattle.c65_code.specs.declared.line.Callee.TheVariants as callees
use Rattle.c65_code.specs.declared.line.Line.{Line}
use Rattle.c65_code.specs.declared.line.Line.TheVariants.{Label, Do, Call}
use Rattle.c65_code.specs.declared.code.Code.{Code}
use Rattle.c65_code.specs.Parts.{union_of}
use Rattle.c65_code.specs.Effects.{ptr4_bytes}
use Rattle.c65_code.specs.LineState.{Place, State}
use Rattle.c65_code.specs.Placement.{IsPlacement, stack_start}
use Rattle.c65_code.specs.Forms.{Far, form_of}
use Rattle.c65_code.specs.Rows.{Row, row_of}
use Rattle.c65_code.specs.Moves.{settle, IsCallee, Calls, MeetsRow, Moves as LineMoves}
use Rattle.c65_code.specs.Weights.{Weighs, call_weight, row_cost}
use Rattle.c65_code.specs.Steady.{IsCalm, IsSteady, RowHasRoom, IsCallable}
use Rattle.c65_code.specs.RawMachine.{RawSetting, RawGoes, called, entry_of, target_of}
use Rattle.c65_link_law_spots.specs.Places.{place_in}
use Rattle.c65_link_law_spots.specs.Laws.{IsChosen, AreUsesChosen, IsUnit, routine}
use Rattle.c65_link_law_spots.proofs.Uses.{uses_are_chosen}
use Rattle.c65_link_law_follow.specs.Agree.{Ground, Agrees, IsFirstOr, IsInside, Arrives, more}
use Rattle.c65_link_law_follow.specs.Agree.{Goes}
use Rattle.c65_link_law_follow.specs.Laid.{IsLaid}
use Rattle.c65_link_law_follow.proofs.Bytes.{Moved}
use Rattle.c65_link_law_follow.proofs.Follow.{lines_are_followed}
use Rattle.c65_link_law_laid.specs.Linked.{raw_in, IsByteOf}
use Rattle.c65_link_law_runs.specs.Follows.{IsRunning}
use Rattle.c65_link_law_runs.proofs.Moves.{weaker}
use Rattle.c65_link_law_runs.proofs.Kept.{called_kept}
use Rattle.c65_link_law_reach.specs.Reach.{code_ground, IsElsewhere, AreCallers}
use Rattle.c65_link_law_reach.proofs.Units.{op_calls}
use Rattle.c65_link_law_reach.proofs.Steps.{Image_, lines_setting, LineOf, away_inside, away_outside, Steps, steps_on}
use Rattle.c65_code.specs.declared.line.Operand.TheVariants as operands
use Rattle.c65_mach.specs.declared.rows.Op.TheVariants as ops
use Rattle.c65_mach.specs.declared.rows.Mode.TheVariants.{Indirect}
use Rattle.c65_link_law_reach.proofs.Calls.{back_of, laid_at, line_at, called_at, entered, on_entered, entered_running, entered_callers, enters_function, function_there, function_entry, enter_steps, routine_steps, run_steps, library_steps}
use Rattle.c65_link_law_reach.proofs.Units.{raw_routine}
use Rattle.c65_link_law_reach.proofs.Local.{local_steps}

-- two functions at one address are one
same_callee : (code : Code) (t : State) (f h : ℕ) → IsPlacement code (place_in code) → IsCallee (lines_setting code) t f → IsCallee (lines_setting code) t h → h ≡ f
same_callee code t f h place one other = place.function_own h f other.0 one.0 (other.1 ∙ sym one.1)

-- where the jump through ptr4 has led
record Jumped (cpu : Cpu) (code : Code) (image : Image) (args : List (List ℕ)) (setting : Setting) (f : ℕ) (p : Place) (t : State) (now : Moment) : Type 0 where
  rows : ℕ
  least : 1 ≤ rows
  within : rows ≤ 2
  then_at : Moment
  goes : Goes (IsFirstOr (IsElsewhere (code_ground cpu code image) code) now) setting rows now then_at
  agrees : Agrees (code_ground cpu code image) ((code_ground cpu code image).at (entry_of (raw_in code args) (target_of (raw_in code args) ((raw_in code args).library f) f))) (called (back_of code p) t) then_at

-- the rows of a line of the runtime
callptr_row : (cpu : Cpu) (code : Code) (image : Image) (args : List (List ℕ)) (setting : Setting) (p : Place) (first m : Moment) → Image_ cpu code image args setting → IsUnit code p.0 → length code.symbols ≤ p.0 → IsByteOf code (read (loaded_memory image)) p ((code_ground cpu code image).at p)
    → first.machine.pc ≡ (code_ground cpu code image).at p → IsFirstOr (IsInside (code_ground cpu code image) p) first m → IsElsewhere (code_ground cpu code image) code m.machine.pc
callptr_row cpu code image args setting p first m i unit high byte is (inl e) =
    away_outside cpu code image args setting p m.machine.pc i unit high (subst (λ (b : ℕ). IsByteOf code (read (loaded_memory image)) p b) (sym (ap (λ (x : Moment). x.machine.pc) e ∙ is)) byte)
callptr_row cpu code image args setting p first m i unit high byte is (inr h) = away_inside cpu code image args setting p m.machine.pc i unit h

jumped : (cpu : Cpu) (code : Code) (image : Image) (args : List (List ℕ)) (setting : Setting) (f : ℕ) (reads gives : RegSet) (p : Place) (t : State) (now : Moment) → Image_ cpu code image args setting → LineOf code args p (Call (callees.Pointer reads gives)) → IsRunning t → IsCalm (lines_setting code) t → IsCallee (lines_setting code) t f
    → Agrees (code_ground cpu code image) ((code_ground cpu code image).at p) t now → Jumped cpu code image args setting f p t now
jumped cpu code image args setting f reads gives p t now i lo r calm callee a =
    let g : Ground = code_ground cpu code image in
    let s : RawSetting = raw_in code args in
    let n : ℕ = length code.symbols + number_of routines.CallPtr4 in
    let jump : Line = Do ops.Jmp Indirect (operands.Zero 14) in
    let laid : IsLaid g s p.0 = laid_at cpu code image args setting (Call (callees.Pointer reads gives)) p i lo in
    let uses : AreUsesChosen code = uses_are_chosen code in
    let chosen : IsChosen code routines.CallPtr4 = uses.function lo.number p.1 lo.unit (Call (callees.Pointer reads gives)) routines.CallPtr4 lo.there lo.here refl refl in
    let m : Moved g setting (g.at (entry_of s n)) (called (back_of code p) t) now =
    called_at cpu code image args setting (callees.Pointer reads gives) p (g.at (entry_of s n)) t now i lo (laid.calls p.1 (Call (callees.Pointer reads gives)) (line_at code args (Call (callees.Pointer reads gives)) p lo)) calm.hard a in
    let entry : g.at (entry_of s n) ≡ g.at (n, 0) = ap (λ (ls : List Line). g.at (n, settle ls 0)) (raw_routine code args routines.CallPtr4) in
    let here : slice_get (s.lines n) 0 ≡ Some jump = ap (λ (ls : List Line). slice_get ls 0) (raw_routine code args routines.CallPtr4) in
    let t1 : State = called (back_of code p) t in
    let v : Arrives g setting 1 m.next (IsInside g (n, 0)) (RawGoes s (Far 14) (n, 0) t1) = lines_are_followed g s setting (record { soft = stack_start; hard = 0 }) n 0 jump t1 m.next i.ground (i.laid n (routine routines.CallPtr4 chosen refl) (λ e. omega (arith, e), λ e. omega (arith, e))) here tt (omega arith) (called_kept (back_of code p) t r.bytes) (omega arith)
    (omega arith, f, callee.0, callee.1) (subst (λ (k : ℕ). Agrees g k t1 m.next) entry m.agrees) in
    let same : v.holds.0 ≡ f = same_callee code t f v.holds.0 i.place callee (v.holds.1, v.holds.2) in
    let to : v.place ≡ entry_of s (target_of s (s.library f) f) = v.holds.3 ∙ ap (λ (k : ℕ). entry_of s (target_of s (s.library k) k)) same in
    let within = v.within in
    let unit : IsUnit code n = routine routines.CallPtr4 chosen refl in
    let byte : IsByteOf code (read (loaded_memory image)) (n, 0) (g.at (n, 0)) = i.first (n, 0) jump unit here tt in
    let in_callptr : (x : Moment) → IsFirstOr (IsInside g (n, 0)) m.next x → IsElsewhere g code x.machine.pc = λ x h. callptr_row cpu code image args setting (n, 0) m.next x i unit (omega arith) byte (m.agrees.pc ∙ entry) h in
    record {
      rows = suc v.rows;
      least = omega arith;
      within = omega (arith, within);
      then_at = v.then_at;
      goes = more {n = m.next} m.turn_is m.free (inl refl) (weaker (IsFirstOr (IsInside g (n, 0)) m.next) (IsFirstOr (IsElsewhere g code) now) setting v.rows m.next v.then_at (λ x h. inr (in_callptr x h)) v.goes);
      agrees = subst (λ (x : Place). Agrees g (g.at x) t1 v.then_at) to (subst (λ (x : State). Agrees g (g.at v.place) x v.then_at) v.holds.4 v.agrees);
    }

pointer_steps : (o : Option Library) (cpu : Cpu) (code : Code) (image : Image) (args : List (List ℕ)) (setting : Setting) (c f : ℕ) (reads gives : RegSet) (p : Place) (t : State) (now : Moment) (wq : Place) (wu : State) → (lines_setting code).library f ≡ o → Image_ cpu code image args setting → LineOf code args p (Call (callees.Pointer reads gives)) → IsRunning t → AreCallers code t.frames → IsCalm (lines_setting code) t
    → IsCallee (lines_setting code) t f → IsCallable (lines_setting code) o f reads t → c ≡ call_weight o t → Calls (lines_setting code) o f (union_of reads ptr4_bytes) gives p t wq wu → LineMoves (lines_setting code) (Call (callees.Pointer reads gives)) p t wq wu
    → Agrees (code_ground cpu code image) ((code_ground cpu code image).at p) t now → Steps (code_ground cpu code image) setting c now code (Call (callees.Pointer reads gives)) p t
pointer_steps None cpu code image args setting c f reads gives p t now wq wu e i lo r callers calm callee has weighs calls moves a =
    let g : Ground = code_ground cpu code image in
    let j : Jumped cpu code image args setting f p t now = jumped cpu code image args setting f reads gives p t now i lo r calm callee a in
    let known = function_there code f i.sound has in
    let to : Place = (f, settle ((lines_setting code).lines f) 0) in
    let running : IsRunning (entered code gives p t) = entered_running code gives p t r in
    let within = j.within in
    steps_on j.rows j.then_at to (entered code gives p t) j.least (omega (arith, within, weighs)) j.goes
    (record { running = r.running; goes = (f, callee, subst (λ (o : Option Library). Calls (lines_setting code) o f (union_of reads ptr4_bytes) gives p t to (entered code gives p t)) (sym e) (enters_function code f (union_of reads ptr4_bytes) gives p t)); bytes = running.bytes })
    running (entered_callers code args (Call (callees.Pointer reads gives)) gives p t lo callers)
    (on_entered g code gives (g.at to) p t j.then_at (subst (λ (k : ℕ). Agrees g k (called (back_of code p) t) j.then_at) (function_entry cpu code image args f known.0 e) j.agrees))
pointer_steps (Some lib) cpu code image args setting c f reads gives p t now wq wu e i lo r callers calm callee has weighs calls moves a = by (row_of (routines.Library lib) t) refl has.0 weighs calls.1
  where
    by : (x : Option Row) → row_of (routines.Library lib) t ≡ x → RowHasRoom (place_in code) x t → c ≡ 8 + row_cost x → MeetsRow x t wu → Steps (code_ground cpu code image) setting c now code (Call (callees.Pointer reads gives)) p t
    by None is room cost met = absurd room
    by (Some row) is room cost met =
        let g : Ground = code_ground cpu code image in
        let s : RawSetting = raw_in code args in
        let j : Jumped cpu code image args setting f p t now = jumped cpu code image args setting f reads gives p t now i lo r calm callee a in
        let within = j.within in
        routine_steps cpu code image args setting j.rows c (Call (callees.Pointer reads gives)) (routines.Library lib) row p t now j.then_at i lo r callers calm (i.library f lib callee.0 e) is room j.least (omega (arith, within, cost))
        (λ u h. (f, callee, subst (λ (o : Option Library). Calls (lines_setting code) o f (union_of reads ptr4_bytes) gives p t (back_of code p) u) (sym e) (refl, subst (λ (x : Option Row). MeetsRow x t u) (sym is) h))) wq wu moves met j.goes
        (subst (λ (o : Option Library). Agrees g (g.at (entry_of s (target_of s o f))) (called (back_of code p) t) j.then_at) e j.agrees)

-- All moves

function_steps : (o : Option Library) (cpu : Cpu) (code : Code) (image : Image) (args : List (List ℕ)) (setting : Setting) (c : ℕ) (f : Sym) (reads gives : RegSet) (p : Place) (t : State) (now : Moment) (wq : Place) (wu : State) → (lines_setting code).library f.0 ≡ o → Image_ cpu code image args setting → LineOf code args p (Call (callees.Function f reads gives)) → IsRunning t → AreCallers code t.frames → IsCalm (lines_setting code) t
    → IsCallable (lines_setting code) o f.0 reads t → c ≡ call_weight o t → Calls (lines_setting code) o f.0 reads gives p t wq wu → LineMoves (lines_setting code) (Call (callees.Function f reads gives)) p t wq wu
    → Agrees (code_ground cpu code image) ((code_ground cpu code image).at p) t now → Steps (code_ground cpu code image) setting c now code (Call (callees.Function f reads gives)) p t
function_steps None cpu code image args setting c f reads gives p t now wq wu e i lo r callers calm has weighs calls moves a = enter_steps cpu code image args setting c f reads gives p t now i lo r callers calm e has (omega (arith, weighs)) a
function_steps (Some lib) cpu code image args setting c f reads gives p t now wq wu e i lo r callers calm has weighs calls moves a =
    library_steps (row_of (routines.Library lib) t) cpu code image args setting c f reads gives lib p t now wq wu refl i lo r callers calm e has.0 weighs calls.1 moves a

pub move_steps : (l : Line) (cpu : Cpu) (code : Code) (image : Image) (args : List (List ℕ)) (setting : Setting) (c : ℕ) (p : Place) (t : State) (now : Moment) (wq : Place) (wu : State) → Image_ cpu code image args setting → LineOf code args p l → IsRunning t → AreCallers code t.frames → IsSteady (lines_setting code) l t → Weighs (lines_setting code) (form_of l) t c → LineMoves (lines_setting code) l p t wq wu
    → Agrees (code_ground cpu code image) ((code_ground cpu code image).at p) t now → Steps (code_ground cpu code image) setting c now code l p t
move_steps (Label k) cpu code image args setting c p t now wq wu i lo r callers steady weighs moves a = absurd steady.within
move_steps (Do op mode operand) cpu code image args setting c p t now wq wu i lo r callers steady weighs moves a =
    local_steps (form_of (Do op mode operand)) cpu code image args setting c (Do op mode operand) p t now i lo refl (op_calls (kind_of op) op mode operand) r callers steady.calm steady.within weighs a
move_steps (Call (callees.Routine q)) cpu code image args setting c p t now wq wu i lo r callers steady weighs moves a =
    run_steps (row_of q t) cpu code image args setting c q p t now wq wu refl i lo r callers steady.calm steady.within weighs moves.goes.1 moves a
move_steps (Call (callees.Function f reads gives)) cpu code image args setting c p t now wq wu i lo r callers steady weighs moves a =
    function_steps ((lines_setting code).library f.0) cpu code image args setting c f reads gives p t now wq wu refl i lo r callers steady.calm steady.within weighs moves.goes moves a
move_steps (Call (callees.Pointer reads gives)) cpu code image args setting c p t now wq wu i lo r callers steady weighs moves a =
    let w = steady.within in
    let g = moves.goes in
    let f : ℕ = w.0 in
    let weighed : weighs.0 ≡ f = same_callee code t f weighs.0 i.place w.1 weighs.1 in
    let moved : g.0 ≡ f = same_callee code t f g.0 i.place w.1 g.1 in
    pointer_steps ((lines_setting code).library f) cpu code image args setting c f reads gives p t now wq wu refl i lo r callers steady.calm w.1 w.2 (weighs.2 ∙ ap (λ (k : ℕ). call_weight ((lines_setting code).library k) t) weighed)
    (subst (λ (k : ℕ). Calls (lines_setting code) ((lines_setting code).library k) k (union_of reads ptr4_bytes) gives p t wq wu) moved g.2) moves a
