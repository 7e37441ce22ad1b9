-- Calls of functions and of routines.
use Rattle.std.proofs.Common.{◌≡◌, ℕ, zero, suc, ◌+◌, ◌<◌, ◌≤◌, ◌&&◌, inl, inr, Bool, true, false, if◌then◌else◌, IsTrue, List, [], ◌∷◌, All, Option, Some, None, unwrap_or, length, slice_get, refl, ap, sym, ◌∙◌, subst, arith}
use Rattle.std.proofs.lemmas.Bool.{le-ltb, ne_eqb}
use Rattle.std.proofs.lemmas.List.Elements.{All-nil, All-cons, All-head, All-tail}
use Rattle.c65_base.specs.declared.options.Cpu.{Cpu}
use Rattle.c65_base.specs.declared.library.Library.{Library}
use Rattle.c65_mach.specs.declared.image.Image.{Image}
use Rattle.c65_mach.specs.State.{read, loaded_memory}
use Rattle.c65_mach.specs.Run.{Setting, Moment, Ended, turn}
use Rattle.c65_sim.specs.Budgets.{is_too_deep}
use Rattle.c65_code.specs.declared.parts.RegSet.{RegSet}
use Rattle.c65_code.specs.declared.routine.Routine.{Routine}
use Rattle.c65_code.specs.declared.routine.Routine.TheVariants as routines
use Rattle.c65_code.specs.Numbering.{number_of}
use Rattle.c65_code.specs.declared.line.Sym.{Sym}
use Rattle.c65_code.specs.declared.line.Callee.{Callee}
use Rattle.c65_code.specs.declared.line.Callee.TheVariants as callees
use Rattle.c65_code.specs.declared.line.Line.{Line}
use Rattle.c65_code.specs.declared.line.Line.TheVariants.{Call}
use Rattle.c65_code.specs.declared.code.Code.{Code}
use Rattle.c65_code.specs.declared.code.Datum.{Datum}
use Rattle.c65_code.specs.Parts.{no_parts}
use Rattle.c65_code.specs.LineState.{Place, State, Frame, s_of, IsBytes}
use Rattle.c65_code.specs.Placement.{segment_of, is_function_of, is_nothing, library_of, has_datum}
use Rattle.c65_code.proofs.FunctionLaws.{has_segment_at, body_of_lines, function_from}
use Rattle.c65_code.specs.Segments.{Segment}
use Rattle.c65_code.specs.Forms.{form_of}
use Rattle.c65_code.specs.Rows.{Row, Meets, row_of}
use Rattle.c65_code.specs.Moves.{settle, Enters, Calls, MeetsRow, Goes as LineGoes, Moves as LineMoves}
use Rattle.c65_code.specs.Weights.{row_cost}
use Rattle.c65_code.specs.Steady.{IsCalm, HasRoom, RowHasRoom, HasLines}
use Rattle.c65_code.specs.RawMachine.{RawSetting, HasDone, MayRun, Runs, reach_of, called, line_after, entry_of, target_of}
use Rattle.c65_link_law_spots.specs.Places.{place_in}
use Rattle.c65_link_law_spots.specs.Sound.{IsSound}
use Rattle.c65_link_law_spots.specs.Laws.{IsChosen, AreUsesChosen, function, routine}
use Rattle.c65_link_law_spots.proofs.Uses.{uses_are_chosen}
use Rattle.c65_link_law_follow.specs.Agree.{Ground, Agrees, none, more, IsFirstOr}
use Rattle.c65_link_law_follow.specs.Agree.{Goes}
use Rattle.c65_link_law_follow.specs.Laid.{IsLaid, hook_address}
use Rattle.c65_link_law_follow.proofs.Bytes.{Moved}
use Rattle.c65_link_law_follow.proofs.Stack.{frames_bytes}
use Rattle.c65_link_law_follow.proofs.Follow.{call_moves, room_for}
use Rattle.c65_link_law_laid.specs.Linked.{raw_in}
use Rattle.c65_link_law_laid.proofs.Tables.{is_start, lined}
use Rattle.c65_link_law_laid.proofs.Linked.{segment_from}
use Rattle.c65_link_law_runs.specs.Follows.{Follows, goes_on, has_ended, IsRunning}
use Rattle.c65_link_law_runs.specs.Laws.{IsAmong, HasCome, IsInUnits, in_line, in_hook}
use Rattle.c65_link_law_runs.proofs.Kept.{called_kept}
use Rattle.c65_link_law_runs.proofs.Moves.{weaker}
use Rattle.c65_link_law_runs.proofs.Runs.{goes_both, runs_are_followed}
use Rattle.c65_link_law_reach.specs.Reach.{runtime_in, code_ground, IsElsewhere, AreCallers}
use Rattle.c65_link_law_reach.proofs.Units.{units_in, runtime_line, runtime_ground, entry_same, chosen_unit, function_unit}
use Rattle.c65_link_law_reach.proofs.Steps.{Image_, lines_setting, LineOf, same_lines, away_outside, away_hook, Steps, steps_on, steps_out}
use Rattle.c65_link_law_spots.proofs.Marks.{same_number}
use Rattle.c65_link.specs.Bytes.{callee_address}
use Rattle.c65_link_law_reach.proofs.Local.{keeps_all}

-- where a call goes back to
abbrev pub back_of : Code → Place → Place
back_of code p = (p.0, settle ((lines_setting code).lines p.0) (suc p.1))

same_back : (code : Code) (args : List (List ℕ)) (l : Line) (p : Place) → LineOf code args p l → line_after (raw_in code args) p ≡ back_of code p
same_back code args l p lo = ap (λ (ls : List Line). (p.0, settle ls (suc p.1))) lo.same

-- what the function's line is laid as
pub laid_at : (cpu : Cpu) (code : Code) (image : Image) (args : List (List ℕ)) (setting : Setting) (l : Line) (p : Place) → Image_ cpu code image args setting → LineOf code args p l → IsLaid (code_ground cpu code image) (raw_in code args) p.0
laid_at cpu code image args setting l p i lo = (let inside = lo.inside in i.laid p.0 (function lo.number lo.unit lo.there lo.is) (λ e. omega (arith, inside, e), λ e. omega (arith, inside, e)))

pub line_at : (code : Code) (args : List (List ℕ)) (l : Line) (p : Place) → LineOf code args p l → slice_get ((raw_in code args).lines p.0) p.1 ≡ Some l
line_at code args l p lo = ap (λ (ls : List Line). slice_get ls p.1) lo.same ∙ lo.own

-- the call itself
pub called_at : (cpu : Cpu) (code : Code) (image : Image) (args : List (List ℕ)) (setting : Setting) (callee : Callee) (p : Place) (to : ℕ) (t : State) (now : Moment) → (i : Image_ cpu code image args setting) → (lo : LineOf code args p (Call callee)) → callee_address (laid_at cpu code image args setting (Call callee) p i lo).spot callee ≡ to → 3 ≤ s_of t
    → Agrees (code_ground cpu code image) ((code_ground cpu code image).at p) t now → Moved (code_ground cpu code image) setting to (called (back_of code p) t) now
called_at cpu code image args setting callee p to t now i lo leads deep a =
    let g : Ground = code_ground cpu code image in
    let s : RawSetting = raw_in code args in
    subst (λ (b : Place). Moved g setting to (called b t) now) (same_back code args (Call callee) p lo)
    (call_moves g s setting p.0 p.1 callee to t now i.ground (laid_at cpu code image args setting (Call callee) p i lo) (line_at code args (Call callee) p lo) leads (room_for g s (g.at p) 2 0 t now i.ground a (omega (arith, deep))) a)

-- Functions

abbrev pub entered : Code → RegSet → Place → State → State
entered code gives p t = record t { pushed = []; frames = record { back = back_of code p; pushed = t.pushed; gives = gives } ∷ t.frames }

pub on_entered : (g : Ground) (code : Code) (gives : RegSet) (at : ℕ) (p : Place) (t : State) (m : Moment) → Agrees g at (called (back_of code p) t) m → Agrees g at (entered code gives p t) m
on_entered g code gives at p t m a =
    let one = frames_bytes (record { back = back_of code p; pushed = t.pushed; gives = no_parts }) t.frames in
    let two = frames_bytes (record { back = back_of code p; pushed = t.pushed; gives = gives }) t.frames in
    let sum = a.s in
    record {
      cpu = a.cpu;
      pc = a.pc;
      regs = a.regs;
      d = a.d;
      s = omega (arith, sum, one, two);
      size = a.size;
      zp = a.zp;
      mem = a.mem;
      code = a.code;
      pushed = a.pushed;
      points = a.points;
      input = a.input;
      output = a.output;
    }

pub entered_running : (code : Code) (gives : RegSet) (p : Place) (t : State) → IsRunning t → IsRunning (entered code gives p t)
entered_running code gives p t r =
    let b = r.bytes in
    record {
      running = r.running;
      bytes = record {
        a = b.a;
        x = b.x;
        y = b.y;
        zp = b.zp;
        mem = b.mem;
        pushed = All-nil (λ v. v < 256);
        frames = All-cons (λ (f : Frame). All (λ v. v < 256) f.pushed) (record { back = back_of code p; pushed = t.pushed; gives = gives }) t.frames b.pushed b.frames;
      };
      input = r.input;
    }

pub entered_callers : (code : Code) (args : List (List ℕ)) (l : Line) (gives : RegSet) (p : Place) (t : State) → LineOf code args p l → AreCallers code t.frames → AreCallers code (entered code gives p t).frames
entered_callers code args l gives p t lo callers = All-cons (λ (f : Frame). f.back.0 < length code.symbols) (record { back = back_of code p; pushed = t.pushed; gives = gives }) t.frames lo.inside callers

pub enters_function : (code : Code) (f : ℕ) (reads gives : RegSet) (p : Place) (t : State) → Enters (lines_setting code) f reads gives p t (f, settle ((lines_setting code).lines f) 0) (entered code gives p t)
enters_function code f reads gives p t = record { to = refl; keeps = keeps_all _ t [] (record { back = back_of code p; pushed = t.pushed; gives = gives } ∷ t.frames); pushed = refl; frames = refl }

-- a function with lines
pub function_there : (code : Code) (f : ℕ) → IsSound code → HasLines ((lines_setting code).lines f) → (f < length code.symbols) × IsTrue (is_function_of code f)
function_there code f s has = by ((lines_setting code).lines f) refl has
  where
    clear : (k : ℕ) (u : Sym × Segment) → slice_get code.functions k ≡ Some u → u.0.0 ≡ f → (ds : List Datum) → ((j : ℕ) (d : Datum) → slice_get ds j ≡ Some d → u.0.0 ≡ d.sym.0 → ⊥) → has_datum ds f ≡ false
    clear k u there is [] apart = refl
    clear k u there is (d ∷ ds) apart =
        ap (λ (b : Bool). if b then true else has_datum ds f) (ne_eqb d.sym.0 f (λ e. apart 0 d refl (is ∙ sym e))) ∙ clear k u there is ds (λ j. apart (suc j))

    by : (lines : List Line) → (lines_setting code).lines f ≡ lines → HasLines lines → (f < length code.symbols) × IsTrue (is_function_of code f)
    by [] e h = absurd h
    by (l ∷ lines) e h =
        let it = segment_from code.functions f 0 l (ap (λ (ls : List Line). slice_get ls 0) e) in
        let known = s.writable.function_known it.0 it.1 it.2 in
        let is = it.4 in
        let inside : f < length code.symbols = omega (arith, known, is) in (
          inside,
          function_from code f inside (clear it.0 it.1 it.2 it.4 code.datums (λ j d there same. s.writable.apart it.0 j it.1 d it.2 there same))
              (body_of_lines code f (has_segment_at code.functions it.0 it.1 f it.2 it.4)),
        )

-- a function's first line, where its symbol is called
pub function_entry : (cpu : Cpu) (code : Code) (image : Image) (args : List (List ℕ)) (f : ℕ) → f < length code.symbols → (raw_in code args).library f ≡ None
    → (code_ground cpu code image).at (entry_of (raw_in code args) (target_of (raw_in code args) ((raw_in code args).library f) f)) ≡ (code_ground cpu code image).at (f, settle ((lines_setting code).lines f) 0)
function_entry cpu code image args f inside none_there =
    ap (λ (o : Option Library). (code_ground cpu code image).at (entry_of (raw_in code args) (target_of (raw_in code args) o f))) none_there
    ∙ ap (λ (ls : List Line). (code_ground cpu code image).at (f, settle ls 0)) (same_lines code args f inside)

-- a call of a function with lines
pub enter_steps : (cpu : Cpu) (code : Code) (image : Image) (args : List (List ℕ)) (setting : Setting) (c : ℕ) (f : Sym) (reads gives : RegSet) (p : Place) (t : State) (now : Moment) → Image_ cpu code image args setting → LineOf code args p (Call (callees.Function f reads gives)) → IsRunning t → AreCallers code t.frames → IsCalm (lines_setting code) t
    → (lines_setting code).library f.0 ≡ None → HasLines ((lines_setting code).lines f.0) → 1 ≤ c → Agrees (code_ground cpu code image) ((code_ground cpu code image).at p) t now → Steps (code_ground cpu code image) setting c now code (Call (callees.Function f reads gives)) p t
enter_steps cpu code image args setting c f reads gives p t now i lo r callers calm none_there has le a =
    let g : Ground = code_ground cpu code image in
    let known = function_there code f.0 i.sound has in
    let laid : IsLaid g (raw_in code args) p.0 = laid_at cpu code image args setting (Call (callees.Function f reads gives)) p i lo in
    let to : Place = (f.0, settle ((lines_setting code).lines f.0) 0) in
    let leads : callee_address laid.spot (callees.Function f reads gives) ≡ g.at to = laid.calls p.1 (Call (callees.Function f reads gives)) (line_at code args (Call (callees.Function f reads gives)) p lo) known.1 ∙ function_entry cpu code image args f.0 known.0 none_there in
    let m : Moved g setting (g.at to) (called (back_of code p) t) now = called_at cpu code image args setting (callees.Function f reads gives) p (g.at to) t now i lo leads calm.hard a in
    let running : IsRunning (entered code gives p t) = entered_running code gives p t r in
    steps_on 1 m.next to (entered code gives p t) (omega arith) le (more {n = m.next} m.turn_is m.free (inl refl) none)
    (record { running = r.running; goes = subst (λ (o : Option Library). Calls (lines_setting code) o f.0 reads gives p t to (entered code gives p t)) (sym none_there) (enters_function code f.0 reads gives p t); bytes = running.bytes })
    running (entered_callers code args (Call (callees.Function f reads gives)) gives p t lo callers) (on_entered g code gives (g.at to) p t m.next m.agrees)

-- Routines

-- the hooks and the starts have no rows
row_unhooked : (r : Routine) (t : State) (row : Row) → row_of r t ≡ Some row → hook_address r ≡ None
row_unhooked routines.HookOpen t row h = absurd cc
row_unhooked routines.HookClose t row h = absurd cc
row_unhooked routines.HookRead t row h = absurd cc
row_unhooked routines.HookWrite t row h = absurd cc
row_unhooked routines.HookArgs t row h = absurd cc
row_unhooked routines.HookExit t row h = absurd cc
row_unhooked _ t row h = refl

no_start_row : (r : Routine) (t : State) (row : Row) → row_of r t ≡ Some row → is_start r ≡ false
no_start_row r t row h = by (number_of r) refl
  where
    start : r ≡ routines.Start → ⊥
    start e = (let z : ◌≡◌ {A = Option Row} None (Some row) = ap (λ (x : Routine). row_of x t) (sym e) ∙ h in absurd cc)

    start_args : r ≡ routines.StartArgs → ⊥
    start_args e = (let z : ◌≡◌ {A = Option Row} None (Some row) = ap (λ (x : Routine). row_of x t) (sym e) ∙ h in absurd cc)

    by : (n : ℕ) → number_of r ≡ n → is_start r ≡ false
    by zero e = absurd (start (same_number r routines.Start e))
    by (suc zero) e = absurd (start_args (same_number r routines.StartArgs e))
    by (suc (suc n)) e = le-ltb (number_of r) 2 (omega (arith, e))

-- From the first line of a routine, called from a line of a function, its row is followed.
pub routine_steps : (cpu : Cpu) (code : Code) (image : Image) (args : List (List ℕ)) (setting : Setting) (j c : ℕ) (l : Line) (r : Routine) (row : Row) (p : Place) (t : State) (now n : Moment) → Image_ cpu code image args setting → LineOf code args p l → IsRunning t → AreCallers code t.frames → IsCalm (lines_setting code) t
    → IsChosen code r → row_of r t ≡ Some row → HasRoom (place_in code) row t → 1 ≤ j → j + row.cost ≤ c + 1
    → ((u : State) → Meets row t u → LineGoes (lines_setting code) (form_of l) p t (back_of code p) u)
    → (wq : Place) (wu : State) → LineMoves (lines_setting code) l p t wq wu → Meets row t wu
    → Goes (IsFirstOr (IsElsewhere (code_ground cpu code image) code) now) setting j now n → Agrees (code_ground cpu code image) ((code_ground cpu code image).at (entry_of (raw_in code args) ((raw_in code args).routine r))) (called (back_of code p) t) n
    → Steps (code_ground cpu code image) setting c now code l p t
routine_steps cpu code image args setting j c l r row p t now n i lo run callers calm chosen row_is room least le gives wq wu moves met goes a = by f
  where
    g : Ground
    g = code_ground cpu code image

    s : RawSetting
    s = runtime_in code args

    back : Place
    back = back_of code p

    entry : Place
    entry = entry_of s (s.routine r)

    may : MayRun s row t
    may = record { room = room; high = calm.high; bytes = run.bytes; running = run.running; data_low = λ b d. (let from = i.ground.data_from b d in let low = i.ground.low in (omega (arith, from, low), i.ground.data_to b d)) }

    runs : Runs s r row back t
    runs = i.runtime.meets r row back t row_is may

    own : IsAmong (units_in code) entry (called back t)
    own = record {
      place = chosen_unit code r chosen (no_start_row r t row row_is);
      frames = All-cons (λ (frame : Frame). IsTrue (units_in code frame.back.0)) (record { back = back; pushed = t.pushed; gives = no_parts }) t.frames (function_unit code p.0 lo.inside)
          (all_units t.frames callers);
    }
      where
        all_units : (fs : List Frame) → AreCallers code fs → All (λ (frame : Frame). IsTrue (units_in code frame.back.0)) fs
        all_units [] h = All-nil (λ (frame : Frame). IsTrue (units_in code frame.back.0))
        all_units (x ∷ fs) h = All-cons (λ (frame : Frame). IsTrue (units_in code frame.back.0)) x fs (function_unit code x.back.0 (All-head (λ (frame : Frame). frame.back.0 < length code.symbols) x fs h)) (all_units fs (All-tail (λ (frame : Frame). frame.back.0 < length code.symbols) x fs h))

    there : Agrees g (g.at entry) (called back t) n
    there = subst (λ (k : ℕ). Agrees g k (called back t) n) (entry_same code args (read (loaded_memory image)) (s.routine r)) a

    f : Follows (λ m. IsInUnits g s (units_in code) m.machine.pc) g setting 0 runs.weight n (HasCome (HasDone row.ends row back t) (IsAmong (units_in code)))
    f = runs_are_followed g s setting (reach_of t) (units_in code) row back t runs.weight entry (called back t) n (runtime_ground code args (read (loaded_memory image)) g refl i.ground) (record { sp = i.set.sp; args = i.set.args; bytes = i.set.bytes })
        (let soft = room.soft in omega (arith, soft)) i.units runs.comes own (record { running = run.running; bytes = called_kept back t run.bytes; input = run.input }) there

    P : Moment → Type 0
    P = IsFirstOr (IsElsewhere g code) now

    InUnits : Moment → Type 0
    InUnits m = IsInUnits g s (units_in code) m.machine.pc

    in_runtime : (b : ℕ) → IsInUnits g s (units_in code) b → IsElsewhere g code b
    in_runtime b (in_line q l unit held from to) =
        let it = runtime_line code args q.0 q.1 l unit held in
        let is = it.2 in
        away_outside cpu code image args setting q b i (routine it.0 it.1 it.2) (omega (arith, is)) (record { from = from; to = to })
    in_runtime b (in_hook high) = away_hook cpu code image args setting b i high

    on_way : (o : Option ℕ) → row.ends ≡ o → (rows : ℕ) (m : Moment) (q : Place) (u : State) → rows ≤ runs.weight → Goes (λ m. IsInUnits g s (units_in code) m.machine.pc) setting rows n m → HasDone o row back t q u → IsBytes u → All (λ v. v < 256) u.input → u.ended ≡ None → Agrees g (g.at q) u m → Steps g setting c now code l p t
    on_way None e rows m q u within rest done bytes input running agrees =
        let cost = runs.within in
        steps_on (j + rows) m back u (omega (arith, least)) (omega (arith, within, cost, le)) (goes_both P setting j rows (j + rows) now n m refl goes (weaker InUnits P setting rows n m (λ x h. inr (in_runtime x.machine.pc h)) rest))
        (record { running = run.running; goes = gives u done.1; bytes = bytes }) (record { running = running; bytes = bytes; input = input }) (subst (AreCallers code) (sym done.1.frames) callers)
        (subst (λ (x : Place). Agrees g (g.at x) u m) done.0 agrees)
    on_way (Some status) e rows m q u within rest done bytes input running agrees = absurd (let z : ◌≡◌ {A = Option ℕ} None (Some status) = sym running ∙ done.0 in cc)

    at_end : (o : Option ℕ) → row.ends ≡ o → (rows status : ℕ) (last : Moment) (q : Place) (u : State) → rows + 1 ≤ runs.weight → Goes (λ m. IsInUnits g s (units_in code) m.machine.pc) setting rows n last → is_too_deep last.machine ≡ false → IsInUnits g s (units_in code) last.machine.pc → turn setting last ≡ Ended last status → HasDone o row back t q u → u.ended ≡ Some status → u.output ≡ last.output → Steps g setting c now code l p t
    at_end None e rows status last q u within rest free at_last turn_is done ended output = absurd (let z : ◌≡◌ {A = Option ℕ} None (Some status) = sym (done.1.ended ∙ e) ∙ ended in cc)
    at_end (Some other) e rows status last q u within rest free at_last turn_is done ended output =
        let cost = runs.within in
        steps_out (j + rows) status last wq wu (omega (arith, within, cost, le)) (goes_both P setting j rows (j + rows) now n last refl goes (weaker InUnits P setting rows n last (λ x h. inr (in_runtime x.machine.pc h)) rest)) free (in_runtime last.machine.pc at_last) turn_is moves (met.ended ∙ e ∙ sym done.0 ∙ ended) (met.output ∙ sym done.1 ∙ output)

    by : Follows (λ m. IsInUnits g s (units_in code) m.machine.pc) g setting 0 runs.weight n (HasCome (HasDone row.ends row back t) (IsAmong (units_in code))) → Steps g setting c now code l p t
    by (goes_on rows m q u some within rest holds running agrees) = on_way row.ends refl rows m q u within rest holds.holds holds.bytes holds.input running agrees
    by (has_ended rows status last q u some within rest free at_last turn_is holds ended output) = at_end row.ends refl rows status last q u within rest free at_last turn_is holds.holds ended output

-- a call of a routine
pub run_steps : (o : Option Row) (cpu : Cpu) (code : Code) (image : Image) (args : List (List ℕ)) (setting : Setting) (c : ℕ) (r : Routine) (p : Place) (t : State) (now : Moment) (wq : Place) (wu : State) → row_of r t ≡ o → Image_ cpu code image args setting → LineOf code args p (Call (callees.Routine r)) → IsRunning t → AreCallers code t.frames → IsCalm (lines_setting code) t
    → RowHasRoom (place_in code) o t → c ≡ row_cost o → MeetsRow o t wu → LineMoves (lines_setting code) (Call (callees.Routine r)) p t wq wu
    → Agrees (code_ground cpu code image) ((code_ground cpu code image).at p) t now → Steps (code_ground cpu code image) setting c now code (Call (callees.Routine r)) p t
run_steps None cpu code image args setting c r p t now wq wu e i lo run callers calm room weighs met moves a = absurd room
run_steps (Some row) cpu code image args setting c r p t now wq wu e i lo run callers calm room weighs met moves a =
    let g : Ground = code_ground cpu code image in
    let s : RawSetting = raw_in code args in
    let unhooked : hook_address r ≡ None = row_unhooked r t row e in
    let uses : AreUsesChosen code = uses_are_chosen code in
    let laid : IsLaid g s p.0 = laid_at cpu code image args setting (Call (callees.Routine r)) p i lo in
    let to : ℕ = g.at (entry_of s (s.routine r)) in
    let leads : callee_address laid.spot (callees.Routine r) ≡ to = laid.calls p.1 (Call (callees.Routine r)) (line_at code args (Call (callees.Routine r)) p lo) ∙ ap (λ (x : Option ℕ). unwrap_or x to) unhooked in
    let m : Moved g setting to (called (back_of code p) t) now = called_at cpu code image args setting (callees.Routine r) p to t now i lo leads calm.hard a in
    routine_steps cpu code image args setting 1 c (Call (callees.Routine r)) r row p t now m.next i lo run callers calm (uses.function lo.number p.1 lo.unit (Call (callees.Routine r)) r lo.there lo.here refl (lined r unhooked)) e room (omega arith) (omega (arith, weighs))
    (λ u h. (refl, subst (λ (x : Option Row). MeetsRow x t u) (sym e) h)) wq wu moves met (more {n = m.next} m.turn_is m.free (inl refl) none) m.agrees

-- a call of a library function under its symbol
function_of_library : (code : Code) (f : ℕ) (l : Library) → (lines_setting code).library f ≡ Some l → IsTrue (is_function_of code f)
function_of_library code f l h = by (is_function_of code f) refl
  where
    by : (b : Bool) → is_function_of code f ≡ b → is_function_of code f ≡ true
    by true e = e
    by false e = (let z : ◌≡◌ {A = Option Library} None (Some l) = sym (ap (λ (b : Bool). if b && is_nothing (segment_of code.functions f).lines then library_of (slice_get code.symbols f) else None) e) ∙ h in absurd cc)

pub library_steps : (o : Option Row) (cpu : Cpu) (code : Code) (image : Image) (args : List (List ℕ)) (setting : Setting) (c : ℕ) (f : Sym) (reads gives : RegSet) (lib : Library) (p : Place) (t : State) (now : Moment) (wq : Place) (wu : State) → row_of (routines.Library lib) t ≡ o → Image_ cpu code image args setting → LineOf code args p (Call (callees.Function f reads gives)) → IsRunning t → AreCallers code t.frames → IsCalm (lines_setting code) t
    → (lines_setting code).library f.0 ≡ Some lib → RowHasRoom (place_in code) o t → c ≡ 8 + row_cost o → MeetsRow o t wu → LineMoves (lines_setting code) (Call (callees.Function f reads gives)) p t wq wu
    → Agrees (code_ground cpu code image) ((code_ground cpu code image).at p) t now → Steps (code_ground cpu code image) setting c now code (Call (callees.Function f reads gives)) p t
library_steps None cpu code image args setting c f reads gives lib p t now wq wu e i lo run callers calm is room weighs met moves a = absurd room
library_steps (Some row) cpu code image args setting c f reads gives lib p t now wq wu e i lo run callers calm is room weighs met moves a =
    let g : Ground = code_ground cpu code image in
    let s : RawSetting = raw_in code args in
    let function_is : IsTrue (is_function_of code f.0) = function_of_library code f.0 lib is in
    let laid : IsLaid g s p.0 = laid_at cpu code image args setting (Call (callees.Function f reads gives)) p i lo in
    let to : ℕ = g.at (entry_of s (s.routine (routines.Library lib))) in
    let leads : callee_address laid.spot (callees.Function f reads gives) ≡ to = laid.calls p.1 (Call (callees.Function f reads gives)) (line_at code args (Call (callees.Function f reads gives)) p lo) function_is ∙ ap (λ (o : Option Library). g.at (entry_of s (target_of s o f.0))) is in
    let m : Moved g setting to (called (back_of code p) t) now = called_at cpu code image args setting (callees.Function f reads gives) p to t now i lo leads calm.hard a in
    routine_steps cpu code image args setting 1 c (Call (callees.Function f reads gives)) (routines.Library lib) row p t now m.next i lo run callers calm (i.library f.0 lib function_is is) e room (omega arith) (omega (arith, weighs))
    (λ u h. subst (λ (o : Option Library). Calls (lines_setting code) o f.0 reads gives p t (back_of code p) u) (sym is) (refl, subst (λ (x : Option Row). MeetsRow x t u) (sym e) h)) wq wu moves met (more {n = m.next} m.turn_is m.free (inl refl) none) m.agrees
