-- Each line that stays within its bounds is followed, calls of hooks too.
use Rattle.std.proofs.Common.{◌≡◌, ℕ, ◌+◌, ◌<◌, ◌≤◌, ◌==◌, ◌&&◌, inl, inr, not, Bool, true, false, List, All, Option, Some, slice_get, refl, ap, sym, ◌∙◌, subst, arith}
use Rattle.std.proofs.lemmas.Bool.{and_parts}
use Rattle.std.proofs.lemmas.List.{append-nil}
use Rattle.c65_mach.specs.declared.rows.Op.{Op}
use Rattle.c65_mach.specs.declared.rows.Op.TheVariants as ops
use Rattle.c65_mach.specs.declared.rows.Mode.{Mode}
use Rattle.c65_mach.specs.State.{Regs}
use Rattle.c65_mach.specs.Step.{Kind, Branches, Moves, kind_of}
use Rattle.c65_mach.specs.Run.{Setting, Moment, Ended, is_hook}
use Rattle.c65_code.specs.declared.parts.Part.{Part}
use Rattle.c65_code.specs.declared.parts.Part.TheVariants.{A, X, Y, Zp, N, V, Z, C}
use Rattle.c65_code.specs.declared.routine.Routine.{Routine}
use Rattle.c65_code.specs.declared.routine.Routine.TheVariants as routines
use Rattle.c65_code.specs.declared.line.Operand.{Operand}
use Rattle.c65_code.specs.declared.line.Operand.TheVariants as operands
use Rattle.c65_code.specs.declared.line.Callee.{Callee}
use Rattle.c65_code.specs.declared.line.Callee.TheVariants as callees
use Rattle.c65_code.specs.declared.line.Line.{Line}
use Rattle.c65_code.specs.declared.line.Line.TheVariants.{Label, Do, Call}
use Rattle.c65_code.specs.LineState.{Place, State, word_at, sp_of, s_of, Same}
use Rattle.c65_code.specs.Placement.{stack_start}
use Rattle.c65_code.specs.Segments.{has_row, takes, is_barred}
use Rattle.c65_code.specs.Forms.{Form, Run, op_form, move_form, jump_form, branch_form, form_of}
use Rattle.c65_code.specs.Rows.{Row, Meets}
use Rattle.c65_code.specs.RawMachine.{RawSetting, Bounds, IsHookWithin, IsRawWithin, RawGoes, RawRuns, raw_weight, hook_row, quiet, called, line_after}
use Rattle.c65_link.specs.Bytes.{callee_address}
use Rattle.c65_link_law_follow.specs.Agree.{Ground, Agrees, Goes, none, more, IsFirstOr, IsInside, Arrives}
use Rattle.c65_link_law_follow.specs.Laid.{IsLaid, IsGround, IsOperandNumber}
use Rattle.c65_link_law_follow.specs.Laws.{IsNoHook, IsCounted}
use Rattle.c65_link_law_follow.proofs.Bytes.{Moved}
use Rattle.c65_link_law_follow.proofs.Follow.{lines_are_followed, call_moves, room_for}
use Rattle.c65_link_law_runs.specs.Follows.{IsOnTheWay, Follows, goes_on, has_ended, IsSetFor, IsRunning, HasArgumentRoom}
use Rattle.c65_link_law_runs.specs.Laws.{Leads, MovesAreFollowed}
use Rattle.c65_link_law_runs.proofs.Kept.{IsByteNumber, HasByteOperand, IsKeptBy, kept_by}
use Rattle.c65_link_law_runs.proofs.Answers.{turn_there, hooks_are_free}
use Rattle.c65_link_law_runs.proofs.Hooks.{Served, two_rows, sp_low, IsMetBy, read_row, read_state, read_served, read_met}
use Rattle.c65_link_law_runs.proofs.Writes.{write_row, write_state, write_served, write_met, open_row, open_served, open_met, close_row, close_state, close_served, close_met}
use Rattle.c65_link_law_runs.proofs.Arguments.{args_row, args_state, args_served, args_met}

-- what holds before each row

pub weaker : (P Q : Moment → Type 0) (setting : Setting) (k : ℕ) (a b : Moment) → ((m : Moment) → P m → Q m) → Goes P setting k a b → Goes Q setting k a b
weaker P Q setting k a b h none = none
weaker P Q setting k a b h (more {k = i} {n = n} is free at rest) = more {n = n} is free (h a at) (weaker P Q setting i n b h rest)

on_way : (g : Ground) (p : Place) (now m : Moment) → IsFirstOr (IsInside g p) now m → IsFirstOr (IsOnTheWay g p) now m
on_way g p now m (inl e) = inl e
on_way g p now m (inr h) = inr (inl h)

-- Lines that call no hook

followed : (g : Ground) (s : RawSetting) (setting : Setting) (bounds : Bounds) (f p : ℕ) (l : Line) (t : State) (now : Moment) → IsGround g s → IsLaid g s f → slice_get (s.lines f) p ≡ Some l → IsCounted g s (form_of l) → IsNoHook s (form_of l) t → HasByteOperand (form_of l)
    → IsRunning t → stack_start ≤ bounds.soft → IsRawWithin s bounds (form_of l) t → Agrees g (g.at (f, p)) t now → Follows (IsFirstOr (IsOnTheWay g (f, p)) now) g setting 1 (raw_weight (form_of l)) now (Leads s l (f, p) t)
followed g s setting bounds f p l t now ground laid here counted no_hook has r soft within a =
    let v : Arrives g setting (raw_weight (form_of l)) now (IsInside g (f, p)) (RawGoes s (form_of l) (f, p) t) = lines_are_followed g s setting bounds f p l t now ground laid here no_hook counted r.bytes soft within a in
    let k : IsKeptBy t v.state = kept_by (form_of l) s (f, p) t v.place v.state no_hook has r.bytes v.holds in
    goes_on v.rows v.then_at v.place v.state v.least v.within (weaker (IsFirstOr (IsInside g (f, p)) now) (IsFirstOr (IsOnTheWay g (f, p)) now) setting v.rows now v.then_at (λ m h. on_way g (f, p) now m h) v.goes)
    (record { moves = record { running = r.running; goes = v.holds; bytes = k.bytes }; input = subst (λ (xs : List ℕ). All (λ v. v < 256) xs) (sym k.input) r.input })
    (k.ended ∙ r.running) v.agrees

byte_number : (operand : Operand) → IsOperandNumber operand → IsByteNumber operand
byte_number (operands.Byte v) h = h
byte_number _ h = tt

-- an operation calls nothing

abbrev Both : RawSetting → State → Form → Type 0
Both s t form = IsNoHook s form t × HasByteOperand form

jump_quiet : (operand : Operand) (s : RawSetting) (t : State) → Both s t (jump_form operand)
jump_quiet (operands.To l) s t = (tt, tt)
jump_quiet (operands.Zero i) s t = (tt, tt)
jump_quiet _ s t = (tt, tt)

move_quiet : (op : Op) (operand : Operand) (s : RawSetting) (t : State) → Both s t (move_form op operand)
move_quiet ops.Jmp operand s t = jump_quiet operand s t
move_quiet ops.Pha operand s t = (tt, tt)
move_quiet ops.Pla operand s t = (tt, tt)
move_quiet ops.Tsx operand s t = (tt, tt)
move_quiet ops.Rts operand s t = (tt, tt)
move_quiet _ operand s t = (tt, tt)

branch_quiet : (operand : Operand) (op : Op) (s : RawSetting) (t : State) → Both s t (branch_form op operand)
branch_quiet (operands.To l) op s t = (tt, tt)
branch_quiet _ op s t = (tt, tt)

op_quiet : (k : Kind) (op : Op) (mode : Mode) (operand : Operand) (s : RawSetting) (t : State) → takes op mode operand ≡ true → IsByteNumber operand → Both s t (op_form k op mode operand)
op_quiet Branches op mode operand s t h n = branch_quiet operand op s t
op_quiet Moves op mode operand s t h n = move_quiet op operand s t
op_quiet _ op mode operand s t h n = (tt, (h, n))

do_line : (g : Ground) (s : RawSetting) (f p : ℕ) (op : Op) (mode : Mode) (operand : Operand) (t : State) → IsLaid g s f → slice_get (s.lines f) p ≡ Some (Do op mode operand) → Both s t (form_of (Do op mode operand))
do_line g s f p op mode operand t laid here =
    let fit = and_parts (has_row op mode) (takes op mode operand && not (is_barred op)) (laid.fit p (Do op mode operand) here) in
    let taken = and_parts (takes op mode operand) (not (is_barred op)) fit.1 in
    op_quiet (kind_of op) op mode operand s t taken.0 (byte_number operand (laid.numbers p (Do op mode operand) here))

-- a line that calls no routine
pub quiet_line : (l : Line) (g : Ground) (s : RawSetting) (f p : ℕ) (t : State) → IsLaid g s f → slice_get (s.lines f) p ≡ Some l → ((r : Routine) → form_of l ≡ Run r → ⊥) → IsNoHook s (form_of l) t × HasByteOperand (form_of l)
quiet_line (Label k) g s f p t laid here other = (tt, tt)
quiet_line (Do op mode operand) g s f p t laid here other = do_line g s f p op mode operand t laid here
quiet_line (Call (callees.Routine r)) g s f p t laid here other = absurd (other r refl)
quiet_line (Call (callees.Function h reads gives)) g s f p t laid here other = (tt, tt)
quiet_line (Call (callees.Pointer reads gives)) g s f p t laid here other = (tt, tt)

-- Calls of hooks

-- the call itself
hook_called : (g : Ground) (s : RawSetting) (setting : Setting) (bounds : Bounds) (f p : ℕ) (r : Routine) (hook : ℕ) (t : State) (now : Moment) → IsGround g s → (laid : IsLaid g s f) → slice_get (s.lines f) p ≡ Some (Call (callees.Routine r)) → callee_address laid.spot (callees.Routine r) ≡ hook
    → bounds.hard + 2 ≤ s_of t → Agrees g (g.at (f, p)) t now → Moved g setting hook (called (line_after s (f, p)) t) now
hook_called g s setting bounds f p r hook t now ground laid here leads deep a = call_moves g s setting f p (callees.Routine r) hook t now ground laid here leads (room_for g s (g.at (f, p)) 2 bounds.hard t now ground a deep) a

low_back : (g : Ground) (s : RawSetting) (q : Place) → IsGround g s → g.at q ≤ 65535
low_back g s q ground = (let to = ground.to q in let high = ground.high in omega (arith, to, high))

hook_done : (g : Ground) (s : RawSetting) (setting : Setting) (f p : ℕ) (r : Routine) (hook : ℕ) (row : Row) (t u : State) (now : Moment) → hook_row s.args r t ≡ Some row → is_hook hook ≡ true → (m : Moved g setting hook (called (line_after s (f, p)) t) now) → Served g setting (line_after s (f, p)) u m.next → IsMetBy row t u → IsRunning t
    → Follows (IsFirstOr (IsOnTheWay g (f, p)) now) g setting 1 2 now (Leads s (Call (callees.Routine r)) (f, p) t)
hook_done g s setting f p r hook row t u now is hooked m served met running =
    let back : Place = line_after s (f, p) in
    two_rows g setting (f, p) hook back (called back t) u now (Leads s (Call (callees.Routine r)) (f, p) t) hooked m served
    (record { moves = record { running = running.running; goes = subst (λ (o : Option Row). RawRuns s o r (f, p) t back u) (sym is) (refl, met.meets); bytes = met.bytes }; input = met.input }) met.ended

-- `exit`

abbrev exit_row : State → Row
exit_row t = record (quiet routines.HookExit t) { ends = Some t.regs.a }

abbrev exit_state : State → State
exit_state t = record t { ended = Some t.regs.a }

exit_parts : (p : Part) (t : State) → Same p t (exit_state t)
exit_parts A t = refl
exit_parts X t = refl
exit_parts Y t = refl
exit_parts N t = refl
exit_parts V t = refl
exit_parts Z t = refl
exit_parts C t = refl
exit_parts (Zp i) t = refl

exit_met : (t : State) → Meets (exit_row t) t (exit_state t)
exit_met t = record {
  sp = refl;
  a = tt;
  x = tt;
  sreg = tt;
  pointers = tt;
  bank = tt;
  kept = λ p h. exit_parts p t;
  high = λ i h. refl;
  mem = λ b h. refl;
  pushed = refl;
  frames = refl;
  input = refl;
  output = sym (append-nil t.output);
  ended = refl;
}

exit_line : (g : Ground) (s : RawSetting) (setting : Setting) (f p : ℕ) (t : State) (now : Moment) → Moved g setting 0xFFF9 (called (line_after s (f, p)) t) now → IsRunning t → Follows (IsFirstOr (IsOnTheWay g (f, p)) now) g setting 1 2 now (Leads s (Call (callees.Routine routines.HookExit)) (f, p) t)
exit_line g s setting f p t now m r =
    let b = r.bytes in
    let n : Moment = m.next in let pc = m.agrees.pc in
    has_ended 1 t.regs.a n (line_after s (f, p)) (exit_state t) (omega arith) (omega arith) (more m.turn_is m.free (inl refl) none) (hooks_are_free n.machine 0xFFF9 m.agrees.pc refl) (inr (inr (omega (arith, pc))))
    (turn_there setting n 0xFFF9 m.agrees.pc ∙ ap (λ (x : Regs). Ended n x.a) m.agrees.regs)
    (record {
      moves = record { running = r.running; goes = (refl, exit_met t); bytes = record { a = b.a; x = b.x; y = b.y; zp = b.zp; mem = b.mem; pushed = b.pushed; frames = b.frames } };
      input = r.input;
    })
    refl (sym m.agrees.output)

read_line : (g : Ground) (s : RawSetting) (setting : Setting) (bounds : Bounds) (f p : ℕ) (t : State) (now : Moment) → IsGround g s → IsSetFor s setting → stack_start ≤ bounds.soft → Moved g setting 0xFFF6 (called (line_after s (f, p)) t) now → IsRunning t
    → IsHookWithin s.place bounds (Some (read_row (word_at t.mem (sp_of t + 2) == 0) t)) t → Follows (IsFirstOr (IsOnTheWay g (f, p)) now) g setting 1 2 now (Leads s (Call (callees.Routine routines.HookRead)) (f, p) t)
read_line g s setting bounds f p t now ground set soft m r within = by (word_at t.mem (sp_of t + 2) == 0) refl within
  where
    low : (b : Bool) → IsHookWithin s.place bounds (Some (read_row b t)) t → sp_of t + 4 < 65536
    low true w = sp_low s bounds g t ground soft w.1
    low false w = sp_low s bounds g t ground soft w.1

    by : (b : Bool) → (word_at t.mem (sp_of t + 2) == 0) ≡ b → IsHookWithin s.place bounds (Some (read_row b t)) t → Follows (IsFirstOr (IsOnTheWay g (f, p)) now) g setting 1 2 now (Leads s (Call (callees.Routine routines.HookRead)) (f, p) t)
    by b e w = hook_done g s setting f p routines.HookRead 0xFFF6 (read_row b t) t (read_state b t) now (ap (λ (c : Bool). Some (read_row c t)) e) refl m
        (read_served g s setting bounds (line_after s (f, p)) t m.next b ground set soft m.agrees (low_back g s (line_after s (f, p)) ground) e w) (read_met b t r (low b w)) r

write_line : (g : Ground) (s : RawSetting) (setting : Setting) (bounds : Bounds) (f p : ℕ) (t : State) (now : Moment) → IsGround g s → IsSetFor s setting → stack_start ≤ bounds.soft → Moved g setting 0xFFF7 (called (line_after s (f, p)) t) now → IsRunning t
    → IsHookWithin s.place bounds (Some (write_row (word_at t.mem (sp_of t + 2) == 1) t)) t → Follows (IsFirstOr (IsOnTheWay g (f, p)) now) g setting 1 2 now (Leads s (Call (callees.Routine routines.HookWrite)) (f, p) t)
write_line g s setting bounds f p t now ground set soft m r within = by (word_at t.mem (sp_of t + 2) == 1) refl within
  where
    low : (b : Bool) → IsHookWithin s.place bounds (Some (write_row b t)) t → sp_of t + 4 < 65536
    low true w = sp_low s bounds g t ground soft w.1
    low false w = sp_low s bounds g t ground soft w.1

    by : (b : Bool) → (word_at t.mem (sp_of t + 2) == 1) ≡ b → IsHookWithin s.place bounds (Some (write_row b t)) t → Follows (IsFirstOr (IsOnTheWay g (f, p)) now) g setting 1 2 now (Leads s (Call (callees.Routine routines.HookWrite)) (f, p) t)
    by b e w = hook_done g s setting f p routines.HookWrite 0xFFF7 (write_row b t) t (write_state b t) now (ap (λ (c : Bool). Some (write_row c t)) e) refl m
        (write_served g s setting bounds (line_after s (f, p)) t m.next b ground set soft m.agrees (low_back g s (line_after s (f, p)) ground) e w) (write_met b t r (low b w)) r

call_line : (callee : Callee) (g : Ground) (s : RawSetting) (setting : Setting) (bounds : Bounds) (f p : ℕ) (t : State) (now : Moment) → IsGround g s → IsLaid g s f → IsSetFor s setting → slice_get (s.lines f) p ≡ Some (Call callee) → IsCounted g s (form_of (Call callee)) → HasArgumentRoom s (form_of (Call callee)) t
    → IsRunning t → stack_start ≤ bounds.soft → IsRawWithin s bounds (form_of (Call callee)) t → Agrees g (g.at (f, p)) t now → Follows (IsFirstOr (IsOnTheWay g (f, p)) now) g setting 1 (raw_weight (form_of (Call callee))) now (Leads s (Call callee) (f, p) t)
call_line (callees.Function h reads gives) g s setting bounds f p t now ground laid set here counted room r soft within a = followed g s setting bounds f p (Call (callees.Function h reads gives)) t now ground laid here counted tt tt r soft within a
call_line (callees.Pointer reads gives) g s setting bounds f p t now ground laid set here counted room r soft within a = followed g s setting bounds f p (Call (callees.Pointer reads gives)) t now ground laid here counted tt tt r soft within a
call_line (callees.Routine routines.HookOpen) g s setting bounds f p t now ground laid set here counted room r soft within a =
    let back : Place = line_after s (f, p) in
    let m = hook_called g s setting bounds f p routines.HookOpen 0xFFF4 t now ground laid here (laid.calls p (Call (callees.Routine routines.HookOpen)) here) within.0 a in
    hook_done g s setting f p routines.HookOpen 0xFFF4 (open_row t) t _ now refl refl m (open_served g s setting back t m.next set m.agrees (low_back g s back ground)) (open_met t r) r
call_line (callees.Routine routines.HookClose) g s setting bounds f p t now ground laid set here counted room r soft within a =
    let back : Place = line_after s (f, p) in
    let m = hook_called g s setting bounds f p routines.HookClose 0xFFF5 t now ground laid here (laid.calls p (Call (callees.Routine routines.HookClose)) here) within.0 a in
    hook_done g s setting f p routines.HookClose 0xFFF5 (close_row t) t (close_state t) now refl refl m (close_served g setting back t m.next m.agrees (low_back g s back ground)) (close_met t r) r
call_line (callees.Routine routines.HookRead) g s setting bounds f p t now ground laid set here counted room r soft within a =
    let m = hook_called g s setting bounds f p routines.HookRead 0xFFF6 t now ground laid here (laid.calls p (Call (callees.Routine routines.HookRead)) here) within.0 a in
    read_line g s setting bounds f p t now ground set soft m r within
call_line (callees.Routine routines.HookWrite) g s setting bounds f p t now ground laid set here counted room r soft within a =
    let m = hook_called g s setting bounds f p routines.HookWrite 0xFFF7 t now ground laid here (laid.calls p (Call (callees.Routine routines.HookWrite)) here) within.0 a in
    write_line g s setting bounds f p t now ground set soft m r within
call_line (callees.Routine routines.HookArgs) g s setting bounds f p t now ground laid set here counted room r soft within a =
    let back : Place = line_after s (f, p) in
    let m = hook_called g s setting bounds f p routines.HookArgs 0xFFF8 t now ground laid here (laid.calls p (Call (callees.Routine routines.HookArgs)) here) within.0 a in
    hook_done g s setting f p routines.HookArgs 0xFFF8 (args_row s.args t) t (args_state s.args t) now refl refl m (args_served g s setting back t m.next ground set room m.agrees (low_back g s back ground)) (args_met s setting t set room r) r
call_line (callees.Routine routines.HookExit) g s setting bounds f p t now ground laid set here counted room r soft within a =
    exit_line g s setting f p t now (hook_called g s setting bounds f p routines.HookExit 0xFFF9 t now ground laid here (laid.calls p (Call (callees.Routine routines.HookExit)) here) within.0 a) r
call_line (callees.Routine q) g s setting bounds f p t now ground laid set here counted room r soft within a = followed g s setting bounds f p (Call (callees.Routine q)) t now ground laid here counted refl tt r soft within a

pub moves_are_followed : MovesAreFollowed
moves_are_followed g s setting bounds f p (Label l) t now ground laid set here counted room r soft within a = absurd within
moves_are_followed g s setting bounds f p (Do op mode operand) t now ground laid set here counted room r soft within a =
    let q = do_line g s f p op mode operand t laid here in
    followed g s setting bounds f p (Do op mode operand) t now ground laid here counted q.0 q.1 r soft within a
moves_are_followed g s setting bounds f p (Call callee) t now ground laid set here counted room r soft within a = call_line callee g s setting bounds f p t now ground laid set here counted room r soft within a
