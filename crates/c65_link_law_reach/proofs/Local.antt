-- Lines that leave the active function active, and returns to functions.
use Rattle.std.proofs.Common.{◌≡◌, ℕ, suc, ◌+◌, ◌<◌, ◌≤◌, ◌⊎◌, inl, inr, Bool, true, false, if◌then◌else◌, IsTrue, List, [], ◌∷◌, map, Option, Some, None, length, slice_get, refl, ap, sym, ◌∙◌, subst, arith}
use Rattle.std.specs.List.{sum_by}
use Rattle.std.proofs.lemmas.List.{append-nil}
use Rattle.std.proofs.lemmas.List.Elements.{All-nil, All-tail}
use Rattle.c65_base.specs.declared.options.Cpu.{Cpu}
use Rattle.c65_mach.specs.declared.image.Image.{Image}
use Rattle.c65_mach.specs.State.{read, loaded_memory}
use Rattle.c65_mach.specs.Step.{Kind, kind_of}
use Rattle.c65_mach.specs.Run.{Setting, Moment}
use Rattle.c65_code.specs.declared.parts.Part.{Part}
use Rattle.c65_code.specs.declared.parts.Part.TheVariants.{A, X, Y, Zp, N, V, Z, C}
use Rattle.c65_code.specs.declared.parts.RegSet.{RegSet}
use Rattle.c65_code.specs.declared.routine.Routine.{Routine}
use Rattle.c65_code.specs.declared.routine.Routine.TheVariants as routines
use Rattle.c65_code.specs.declared.line.Callee.TheVariants as callees
use Rattle.c65_code.specs.declared.line.Line.{Line}
use Rattle.c65_code.specs.declared.line.Line.TheVariants.{Call}
use Rattle.c65_code.specs.declared.code.Code.{Code}
use Rattle.c65_code.specs.LineState.{Place, State, Frame, s_of, sp_of, Same}
use Rattle.c65_code.specs.Placement.{Placement, stack_start, stack_end, word_of}
use Rattle.c65_code.specs.Forms.{Form, Mark, Plain, Branch, Jump, Far, Push, Pull, Depth, Return, Run, Enter, Through, Stray, form_of}
use Rattle.c65_code.specs.Moves.{Ref, Given, ZeroAt, MemAt, ref_of, next, effect, Keeps, Returns, Goes as LineGoes}
use Rattle.c65_code.specs.Weights.{Weighs}
use Rattle.c65_code.specs.Steady.{IsCalm, IsAllowed, IsWithin}
use Rattle.c65_code.specs.RawMachine.{RawSetting, IsReachable, IsRawOpen, RawReturns, HasFrame}
use Rattle.c65_link.specs.Runtime.{routine_lines}
use Rattle.c65_link_law_spots.specs.Places.{place_in}
use Rattle.c65_link_law_spots.specs.Laws.{IsUnit, function, start}
use Rattle.c65_link_law_follow.specs.Agree.{Ground, Agrees, more, IsFirstOr}
use Rattle.c65_link_law_follow.specs.Laid.{IsLaid}
use Rattle.c65_link_law_follow.proofs.Bytes.{Moved}
use Rattle.c65_link_law_follow.proofs.Follow.{last_line}
use Rattle.c65_link_law_laid.specs.Linked.{start_number, with_main, main_number, raw_in, ground_in, IsByteOf}
use Rattle.c65_link_law_laid.proofs.Linked.{the_start}
use Rattle.c65_link_law_runs.specs.Follows.{IsOnTheWay, Follows, goes_on, has_ended, IsRunning}
use Rattle.c65_link_law_runs.specs.Laws.{Leads}
use Rattle.c65_link_law_runs.proofs.Kept.{Stays, effect_stays}
use Rattle.c65_link_law_runs.proofs.Moves.{weaker, moves_are_followed}
use Rattle.c65_link_law_reach.specs.Reach.{exit_place, code_ground, IsElsewhere, AreCallers}
use Rattle.c65_link_law_reach.proofs.Units.{is_call}
use Rattle.c65_link_law_reach.proofs.Steps.{Image_, lines_setting, LineOf, away_outside, away_runtime, Steps, steps_out, Turned, step_by}

-- where the lines may name an address
allowed_open : (ref : Ref) (place : Placement) (kind : Kind) (t : State) → stack_start ≤ sp_of t → IsAllowed place kind ref t → IsRawOpen place (record { soft = stack_start; hard = 0 }) ref
allowed_open (Given v) place kind t low h = tt
allowed_open (ZeroAt i) place kind t low h = h.0
allowed_open (MemAt b) place kind t low h = by h
  where
    by : IsTrue (place.is_data b) ⊎ ((sp_of t ≤ b) × (b < stack_end)) → IsTrue (place.is_data b) ⊎ ((stack_start ≤ b) × (b < stack_end))
    by (inl d) = inl d
    by (inr k) = (let from = k.0 in inr (omega (arith, from, low), k.1))

-- a line after which another one of the function comes
turned_on : (cpu : Cpu) (code : Code) (image : Image) (args : List (List ℕ)) (form : Form) (l : Line) (p : Place) (t : State) (q : Place) (u : State) (m : Moment) → LineOf code args p l → AreCallers code t.frames → u.frames ≡ t.frames
    → q ≡ (p.0, next ((raw_in code args).lines p.0) form p.1 t.regs) → (q ≡ (p.0, next ((lines_setting code).lines p.0) form p.1 t.regs) → LineGoes (lines_setting code) form p t q u) → IsRunning u → Agrees (code_ground cpu code image) ((code_ground cpu code image).at q) u m
    → Turned (code_ground cpu code image) code form p t m
turned_on cpu code image args form l p t q u m lo callers frames to goes r a = record {
  place = q;
  state = u;
  goes = goes (to ∙ ap (λ (ls : List Line). (p.0, next ls form p.1 t.regs)) lo.same);
  running = r;
  callers = subst (AreCallers code) (sym frames) callers;
  agrees = a;
}

same_part : (x : Part) (t : State) (pushed : List ℕ) (frames : List Frame) → Same x t (record t { pushed = pushed; frames = frames })
same_part A t pushed frames = refl
same_part X t pushed frames = refl
same_part Y t pushed frames = refl
same_part (Zp i) t pushed frames = refl
same_part N t pushed frames = refl
same_part V t pushed frames = refl
same_part Z t pushed frames = refl
same_part C t pushed frames = refl

pub keeps_all : (parts : RegSet) (t : State) (pushed : List ℕ) (frames : List Frame) → Keeps parts t (record t { pushed = pushed; frames = frames })
keeps_all parts t pushed frames = record { part = λ x h. same_part x t pushed frames; high = λ i h. refl; mem = refl; input = refl; output = refl; ended = refl }

returned : (code : Code) (frames : List Frame) (p : Place) (t : State) (q : Place) (u : State) → AreCallers code frames → RawReturns frames t q u → Returns (lines_setting code) frames p t q u × AreCallers code u.frames
returned code [] p t q u callers h = absurd h
returned code (frame ∷ frames) p t q u callers h =
    let new : State = record t { pushed = frame.pushed; frames = frames } in
    subst (λ (x : State). Returns (lines_setting code) (frame ∷ frames) p t q x × AreCallers code x.frames) (sym h.2)
    ((h.0, h.1, keeps_all _ t frame.pushed frames, refl, refl), All-tail (λ (f : Frame). f.back.0 < length code.symbols) frame frames callers)

-- behind its call of main the start calls exit
exit_there : (b : Bool) (main : ℕ) → slice_get (map (with_main main) (routine_lines (if b then routines.StartArgs else routines.Start))) (if b then 16 else 5) ≡ Some (Call (callees.Routine routines.HookExit))
exit_there true main = refl
exit_there false main = refl

-- the return of main: the start calls exit with A
main_returns : (cpu : Cpu) (code : Code) (image : Image) (args : List (List ℕ)) (setting : Setting) (c : ℕ) (l : Line) (p : Place) (t : State) (now : Moment) → Image_ cpu code image args setting → LineOf code args p l → form_of l ≡ Return → IsRunning t → t.pushed ≡ [] → t.frames ≡ [] → 1 ≤ c
    → Agrees (code_ground cpu code image) ((code_ground cpu code image).at p) t now → Steps (code_ground cpu code image) setting c now code l p t
main_returns cpu code image args setting c l p t now i lo is r none_pushed no_frames le a = by v
  where
    g : Ground
    g = code_ground cpu code image

    h : Ground
    h = ground_in cpu code image 255 None

    s : RawSetting
    s = raw_in code args

    exit_at : Place
    exit_at = exit_place code

    laid : IsLaid g s p.0
    laid = (let inside = lo.inside in i.laid p.0 (function lo.number lo.unit lo.there lo.is) (λ e. omega (arith, inside, e), λ e. omega (arith, inside, e)))

    there : slice_get (s.lines p.0) p.1 ≡ Some l
    there = ap (λ (ls : List Line). slice_get ls p.1) lo.same ∙ lo.own

    to_low : h.at exit_at ≤ 65535
    to_low = (let to = i.start_ground.to exit_at in let high = i.start_ground.high in omega (arith, to, high))

    first : Moved h setting (h.at exit_at) t now
    first = last_line g s setting p.0 p.1 (h.at exit_at) 255 l t now i.ground laid there is refl to_low refl none_pushed no_frames a

    calls_exit : slice_get (s.lines (start_number code)) exit_at.1 ≡ Some (Call (callees.Routine routines.HookExit))
    calls_exit = ap (λ (ls : List Line). slice_get ls exit_at.1) (the_start code) ∙ exit_there code.main_args (main_number code)

    unit : IsUnit code (start_number code)
    unit = start refl

    in_start : (m : Moment) → IsFirstOr (IsOnTheWay h exit_at) first.next m → IsElsewhere g code m.machine.pc
    in_start m (inl e) =
        away_outside cpu code image args setting exit_at m.machine.pc i unit (omega arith)
        (subst (λ (b : ℕ). IsByteOf code (read (loaded_memory image)) exit_at b) (sym (ap (λ (x : Moment). x.machine.pc) e ∙ first.agrees.pc)) (i.first exit_at (Call (callees.Routine routines.HookExit)) unit calls_exit tt))
    in_start m (inr z) = away_runtime cpu code image args setting exit_at m.machine.pc i unit (omega arith) z

    room : 2 ≤ s_of t
    room = (let one : length t.pushed ≡ 0 = ap length none_pushed in let two : sum_by (λ (f : Frame). 2 + length f.pushed) t.frames ≡ 0 = ap (sum_by (λ (f : Frame). 2 + length f.pushed)) no_frames in omega (arith, one, two))

    v : Follows (IsFirstOr (IsOnTheWay h exit_at) first.next) h setting 1 2 first.next (Leads s (Call (callees.Routine routines.HookExit)) exit_at t)
    v = moves_are_followed h s setting (record { soft = stack_start; hard = 0 }) (start_number code) exit_at.1 (Call (callees.Routine routines.HookExit)) t first.next i.start_ground i.start_laid i.set calls_exit tt tt r (omega arith)
        (omega (arith, room), All-nil (IsReachable s.place (record { soft = stack_start; hard = 0 })), All-nil (IsReachable s.place (record { soft = stack_start; hard = 0 }))) first.agrees

    by : Follows (IsFirstOr (IsOnTheWay h exit_at) first.next) h setting 1 2 first.next (Leads s (Call (callees.Routine routines.HookExit)) exit_at t) → Steps g setting c now code l p t
    by (goes_on rows m q u some within goes leads running agrees) = absurd (let z : ◌≡◌ {A = Option ℕ} None (Some t.regs.a) = sym running ∙ leads.moves.goes.1.ended in cc)
    by (has_ended rows status last q u some within goes free at_last turn_is leads ended output) =
        let b = r.bytes in
        let u2 : State = record t { ended = Some t.regs.a } in
        let returns : Returns (lines_setting code) t.frames p t p u2 = subst (λ (fs : List Frame). Returns (lines_setting code) fs p t p u2) (sym no_frames) (t.regs.a, λ e. refl, b.a, none_pushed, refl, refl) in
        steps_out (suc rows) status last p u2 (omega (arith, within, le)) (more {n = first.next} first.turn_is first.free (inl refl) (weaker (IsFirstOr (IsOnTheWay h exit_at) first.next) (IsFirstOr (IsElsewhere g code) now) setting rows first.next last (λ m z. inr (in_start m z)) goes)) free (in_start last at_last) turn_is
        (record {
          running = r.running;
          goes = subst (λ (x : Form). LineGoes (lines_setting code) x p t p u2) (sym is) returns;
          bytes = record { a = b.a; x = b.x; y = b.y; zp = b.zp; mem = b.mem; pushed = b.pushed; frames = b.frames };
        })
        (sym leads.moves.goes.1.ended ∙ ended) (sym (append-nil t.output) ∙ sym leads.moves.goes.1.output ∙ output)

-- All of these

return_steps : (frames : List Frame) (cpu : Cpu) (code : Code) (image : Image) (args : List (List ℕ)) (setting : Setting) (c : ℕ) (l : Line) (p : Place) (t : State) (now : Moment) → t.frames ≡ frames → Image_ cpu code image args setting → LineOf code args p l → form_of l ≡ Return → IsRunning t → AreCallers code t.frames → t.pushed ≡ [] → 1 ≤ c
    → Agrees (code_ground cpu code image) ((code_ground cpu code image).at p) t now → Steps (code_ground cpu code image) setting c now code l p t
return_steps [] cpu code image args setting c l p t now e i lo is r callers none_pushed le a = main_returns cpu code image args setting c l p t now i lo is r none_pushed e le a
return_steps (frame ∷ frames) cpu code image args setting c l p t now e i lo is r callers none_pushed le a =
    step_by cpu code image args setting c Return l p t now i lo is (λ q z. (let x : ◌≡◌ {A = Form} Return (Run q) = z in absurd cc)) tt (none_pushed, subst HasFrame (sym e) tt) le r
    (λ q u m goes running agrees. (let it = returned code t.frames p t q u callers goes in record { place = q; state = u; goes = it.0; running = running; callers = it.1; agrees = agrees })) a

no_run : (form : Form) (r : Routine) → is_call form ≡ false → form ≡ Run r → ⊥
no_run form r e is = (let z : false ≡ true = sym e ∙ ap is_call is in absurd cc)

pub local_steps : (form : Form) (cpu : Cpu) (code : Code) (image : Image) (args : List (List ℕ)) (setting : Setting) (c : ℕ) (l : Line) (p : Place) (t : State) (now : Moment) → Image_ cpu code image args setting → LineOf code args p l → form_of l ≡ form → is_call form ≡ false → IsRunning t → AreCallers code t.frames → IsCalm (lines_setting code) t
    → IsWithin (lines_setting code) form t → Weighs (lines_setting code) form t c → Agrees (code_ground cpu code image) ((code_ground cpu code image).at p) t now → Steps (code_ground cpu code image) setting c now code l p t
local_steps (Plain op mode operand) cpu code image args setting c l p t now i lo is own r callers calm within weighs a =
    let w : ℕ = word_of (place_in code) operand in
    let stays : Stays t (effect (kind_of op) op mode w t) = effect_stays (kind_of op) op mode w t in
    step_by cpu code image args setting c (Plain op mode operand) l p t now i lo is (λ q z. no_run (Plain op mode operand) q refl z) tt (allowed_open (ref_of mode w t) (place_in code) (kind_of op) t calm.low within) (omega (arith, weighs)) r
    (λ q u m goes running agrees. turned_on cpu code image args (Plain op mode operand) l p t q u m lo callers (ap (λ (x : State). x.frames) goes.1 ∙ stays.2) goes.0 (λ to. (to, goes.1)) running agrees) a
local_steps (Branch op k) cpu code image args setting c l p t now i lo is own r callers calm within weighs a =
    step_by cpu code image args setting c (Branch op k) l p t now i lo is (λ q z. no_run (Branch op k) q refl z) tt tt (omega (arith, weighs)) r
    (λ q u m goes running agrees. turned_on cpu code image args (Branch op k) l p t q u m lo callers (ap (λ (x : State). x.frames) goes.1) goes.0 (λ to. (to, goes.1)) running agrees) a
local_steps (Jump k) cpu code image args setting c l p t now i lo is own r callers calm within weighs a =
    step_by cpu code image args setting c (Jump k) l p t now i lo is (λ q z. no_run (Jump k) q refl z) tt tt (omega (arith, weighs)) r
    (λ q u m goes running agrees. turned_on cpu code image args (Jump k) l p t q u m lo callers (ap (λ (x : State). x.frames) goes.1) goes.0 (λ to. (to, goes.1)) running agrees) a
local_steps Push cpu code image args setting c l p t now i lo is own r callers calm within weighs a =
    let deep = calm.hard in
    step_by cpu code image args setting c Push l p t now i lo is (λ q z. no_run Push q refl z) tt (omega (arith, deep)) (omega (arith, weighs)) r
    (λ q u m goes running agrees. turned_on cpu code image args Push l p t q u m lo callers (ap (λ (x : State). x.frames) goes.1) goes.0 (λ to. (to, goes.1)) running agrees) a
local_steps Pull cpu code image args setting c l p t now i lo is own r callers calm within weighs a =
    step_by cpu code image args setting c Pull l p t now i lo is (λ q z. no_run Pull q refl z) tt within (omega (arith, weighs)) r
    (λ q u m goes running agrees. turned_on cpu code image args Pull l p t q u m lo callers (ap (λ (x : State). x.frames) goes.1.3) goes.0 (λ to. (to, goes.1)) running agrees) a
local_steps Depth cpu code image args setting c l p t now i lo is own r callers calm within weighs a =
    step_by cpu code image args setting c Depth l p t now i lo is (λ q z. no_run Depth q refl z) refl tt (omega (arith, weighs)) r
    (λ q u m goes running agrees. turned_on cpu code image args Depth l p t q u m lo callers (ap (λ (x : State). x.frames) goes.1) goes.0 (λ to. (to, goes.1)) running agrees) a
local_steps Return cpu code image args setting c l p t now i lo is own r callers calm within weighs a = return_steps t.frames cpu code image args setting c l p t now refl i lo is r callers within (omega (arith, weighs)) a
local_steps Mark cpu code image args setting c l p t now i lo is own r callers calm within weighs a = absurd within
local_steps (Far k) cpu code image args setting c l p t now i lo is own r callers calm within weighs a = absurd within
local_steps Stray cpu code image args setting c l p t now i lo is own r callers calm within weighs a = absurd within
local_steps (Run q) cpu code image args setting c l p t now i lo is own r callers calm within weighs a = absurd (let z : true ≡ false = own in cc)
local_steps (Enter f reads gives) cpu code image args setting c l p t now i lo is own r callers calm within weighs a = absurd (let z : true ≡ false = own in cc)
local_steps (Through reads gives) cpu code image args setting c l p t now i lo is own r callers calm within weighs a = absurd (let z : true ≡ false = own in cc)
