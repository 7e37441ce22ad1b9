-- The start calls pushax, whose row is followed.
use Rattle.std.proofs.Common.{◌≡◌, ℕ, suc, ◌+◌, ◌-◌, ◌<◌, ◌≤◌, ◌==◌, ◌||◌, ◌⊎◌, inl, inr, Bool, true, false, nat_lt, if◌then◌else◌, IsTrue, List, [], ◌∷◌, All, Option, Some, None, length, slice_get, refl, ap, sym, ◌∙◌, subst, arith, eqb-true}
use Rattle.std.specs.List.{sum_by}
use Rattle.std.proofs.lemmas.Bool.{le-ltb, eq-eqb}
use Rattle.std.proofs.lemmas.List.Elements.{All-nil, All-cons}
use Rattle.c65_base.specs.declared.options.Cpu.{Cpu}
use Rattle.c65_mach.specs.declared.image.Image.{Image}
use Rattle.c65_mach.specs.State.{read, loaded_memory}
use Rattle.c65_mach.specs.Step.{Kind, kind_of}
use Rattle.c65_mach.specs.Run.{Setting, Moment}
use Rattle.c65_code.specs.declared.routine.Routine.TheVariants as routines
use Rattle.c65_code.specs.Numbering.{number_of}
use Rattle.c65_code.specs.declared.line.Callee.TheVariants as callees
use Rattle.c65_code.specs.declared.line.Line.{Line}
use Rattle.c65_code.specs.declared.line.Line.TheVariants.{Label, Do, Call}
use Rattle.c65_code.specs.declared.code.Code.{Code}
use Rattle.c65_code.specs.Parts.{no_parts}
use Rattle.c65_code.specs.LineState.{Place, State, Frame, s_of, sp_of, IsBytes}
use Rattle.c65_code.specs.Placement.{stack_start, stack_end}
use Rattle.c65_code.specs.Forms.{Form, Run, Through, form_of}
use Rattle.c65_code.specs.Rows.{Row, Meets}
use Rattle.c65_code.specs.Steady.{HasRoom}
use Rattle.c65_code.specs.RawMachine.{RawSetting, HasDone, MayRun, Runs, reach_of, called, line_after, entry_of}
use Rattle.c65_link.specs.Runtime.{routine_lines}
use Rattle.c65_link_law_spots.specs.Places.{place_in}
use Rattle.c65_link_law_spots.specs.Laws.{IsChosen, routine}
use Rattle.c65_link_law_follow.specs.Agree.{Ground, Agrees, more}
use Rattle.c65_link_law_follow.specs.Laid.{IsLaid}
use Rattle.c65_link_law_follow.specs.Laws.{IsCounted}
use Rattle.c65_link_law_follow.proofs.Bytes.{Moved}
use Rattle.c65_link_law_follow.proofs.Follow.{call_moves, room_for}
use Rattle.c65_link_law_laid.specs.Linked.{start_number, raw_in, ground_in}
use Rattle.c65_link_law_runs.specs.Follows.{Follows}
use Rattle.c65_link_law_runs.specs.Laws.{AreUnits, IsAmong, HasCome, IsInUnits, in_line, in_hook}
use Rattle.c65_link_law_runs.proofs.Moves.{weaker}
use Rattle.c65_link_law_runs.proofs.Kept.{called_kept}
use Rattle.c65_link_law_runs.proofs.Runs.{goes_both, runs_are_followed}
use Rattle.c65_link_law_reach.specs.Reach.{runtime_in, code_ground, IsElsewhere}
use Rattle.c65_link_law_reach.proofs.Units.{routine_at, runtime_ground, entry_same}
use Rattle.c65_link_law_reach.proofs.Units.{is_call}
use Rattle.c65_link_law_reach.proofs.Steps.{Image_, away_outside, away_hook}
use Rattle.c65_code.specs.declared.line.Operand.TheVariants as operands
use Rattle.c65_mach.specs.declared.rows.Op.TheVariants as ops
use Rattle.c65_link.specs.Bytes.{callee_address}
use Rattle.c65_mach.specs.declared.rows.Op.TheVariants as ops
use Rattle.c65_mach.specs.declared.rows.Mode.{Mode}
use Rattle.c65_mach.specs.declared.rows.Op.{Op}
use Rattle.c65_code.specs.declared.line.Operand.{Operand}
use Rattle.c65_code.specs.declared.line.Operand.TheVariants as operands
use Rattle.c65_link_law_images.proofs.First.{IsAway, Went, start_away}
use Rattle.std.proofs.Common.{min, max}
use Rattle.std.proofs.lemmas.Bool.{or_cases, or_left, or_right}
use Rattle.c65_code.specs.Rows.{push_row}
use Rattle.c65_code.specs.Steady.{IsOpen}
use Rattle.c65_code.specs.declared.line.Operand.{Operand}
use Rattle.c65_code.specs.declared.routine.TheConstants.Routine.{ALL}
use Rattle.c65_mach.specs.Step.{Branches, Moves}
use Rattle.c65_code.specs.Forms.{op_form, move_form, jump_form, branch_form}
use Rattle.c65_link_law_spots.specs.Places.{lines_by, spot_in}
use Rattle.c65_link_law_runs.specs.Laws.{LeadsToFunction}
use Rattle.c65_link_law_runs.specs.Follows.{goes_on as goes_still, has_ended as has_gone}
use Rattle.c65_link_law_reach.proofs.Units.{laid_same, empty_laid, nothing_there, no_start, raw_routine, is_call}
use Rattle.c65_link_law_laid.proofs.Tables.{all_there}

-- Lines that neither call nor leave the routine, nor ask for S

abbrev is_flat_line : Line → Bool
is_flat_line (Do ops.Jmp mode (operands.Zero k)) = false
is_flat_line (Do ops.Tsx mode operand) = false
is_flat_line (Call callee) = false
is_flat_line _ = true

abbrev IsFlat : Ground → RawSetting → Form → Type 0
IsFlat g s form = IsCounted g s form × (LeadsToFunction form → ⊥) × (is_call form ≡ false)

flat_jump : (operand : Operand) (g : Ground) (s : RawSetting) (mode : Mode) → is_flat_line (Do ops.Jmp mode operand) ≡ true → IsFlat g s (jump_form operand)
flat_jump (operands.To l) g s mode h = (tt, λ z. z, refl)
flat_jump (operands.Zero k) g s mode h = (let z : false ≡ true = h in absurd cc)
flat_jump _ g s mode h = (tt, λ z. z, refl)

flat_move : (op : Op) (operand : Operand) (g : Ground) (s : RawSetting) (mode : Mode) → is_flat_line (Do op mode operand) ≡ true → IsFlat g s (move_form op operand)
flat_move ops.Jmp operand g s mode h = flat_jump operand g s mode h
flat_move ops.Tsx operand g s mode h = (let z : false ≡ true = h in absurd cc)
flat_move ops.Pha operand g s mode h = (tt, λ z. z, refl)
flat_move ops.Pla operand g s mode h = (tt, λ z. z, refl)
flat_move ops.Rts operand g s mode h = (tt, λ z. z, refl)
flat_move _ operand g s mode h = (tt, λ z. z, refl)

flat_branch : (operand : Operand) (op : Op) (g : Ground) (s : RawSetting) → IsFlat g s (branch_form op operand)
flat_branch (operands.To l) op g s = (tt, λ z. z, refl)
flat_branch _ op g s = (tt, λ z. z, refl)

flat_op : (k : Kind) (op : Op) (mode : Mode) (operand : Operand) (g : Ground) (s : RawSetting) → is_flat_line (Do op mode operand) ≡ true → IsFlat g s (op_form k op mode operand)
flat_op Branches op mode operand g s h = flat_branch operand op g s
flat_op Moves op mode operand g s h = flat_move op operand g s mode h
flat_op _ op mode operand g s h = (tt, λ z. z, refl)

flat_line : (l : Line) (g : Ground) (s : RawSetting) → is_flat_line l ≡ true → IsFlat g s (form_of l)
flat_line (Label k) g s h = (tt, λ z. z, refl)
flat_line (Do op mode operand) g s h = flat_op (kind_of op) op mode operand g s h
flat_line (Call callee) g s h = (let z : false ≡ true = h in absurd cc)

flat_push : (p : ℕ) (l : Line) → slice_get (routine_lines routines.PushAx) p ≡ Some l → is_flat_line l ≡ true
flat_push p l held = all_there is_flat_line (routine_lines routines.PushAx) p l refl held

-- The units: pushax, with functions and the start as units without lines

push_number : Code → ℕ
push_number code = length code.symbols + number_of routines.PushAx

abbrev push_units : Code → ℕ → Bool
push_units code f = nat_lt f (length code.symbols) || ((f == start_number code) || (f == length code.symbols + 59))

data KnownUnit (code : Code) (args : List (List ℕ)) (f : ℕ) : Type 0 where
  lineless : (runtime_in code args).lines f ≡ [] → KnownUnit code args f
  pushing_unit : f ≡ length code.symbols + 59 → KnownUnit code args f

known_unit : (code : Code) (args : List (List ℕ)) (f : ℕ) → IsTrue (push_units code f) → KnownUnit code args f
known_unit code args f h = by (or_cases (nat_lt f (length code.symbols)) ((f == start_number code) || (f == length code.symbols + 59)) h)
  where
    at : (f == start_number code) ≡ true → (runtime_in code args).lines f ≡ []
    at e =
        let same : f ≡ start_number code = eqb-true f (start_number code) e in
        ap (λ (b : Bool). if b then [] else lines_by (slice_get ALL (f - length code.symbols))) (le-ltb f (length code.symbols) (omega (arith, same)))
        ∙ ap (λ (k : ℕ). lines_by (slice_get ALL k)) (let z : f - length code.symbols ≡ 123 = omega (arith, same) in z)

    rest : ((f == start_number code) ≡ true) ⊎ ((f == length code.symbols + 59) ≡ true) → KnownUnit code args f
    rest (inl e) = lineless (at e)
    rest (inr e) = pushing_unit (eqb-true f (length code.symbols + 59) e)

    by : (nat_lt f (length code.symbols) ≡ true) ⊎ (((f == start_number code) || (f == length code.symbols + 59)) ≡ true) → KnownUnit code args f
    by (inl e) = lineless (ap (λ (b : Bool). if b then [] else lines_by (slice_get ALL (f - length code.symbols))) e)
    by (inr e) = rest (or_cases (f == start_number code) (f == length code.symbols + 59) e)

push_line : (code : Code) (args : List (List ℕ)) (f p : ℕ) (l : Line) → IsTrue (push_units code f) → slice_get ((runtime_in code args).lines f) p ≡ Some l → is_flat_line l ≡ true
push_line code args f p l unit held = by (known_unit code args f unit)
  where
    by : KnownUnit code args f → is_flat_line l ≡ true
    by (lineless e) = nothing_there ((runtime_in code args).lines f) p l e held
    by (pushing_unit is) = flat_push p l (ap (λ (ls : List Line). slice_get ls p) (sym (ap (runtime_in code args).lines is ∙ routine_at code args routines.PushAx)) ∙ held)

-- only pushax has lines
push_unit : (code : Code) (args : List (List ℕ)) (f p : ℕ) (l : Line) → IsTrue (push_units code f) → slice_get ((runtime_in code args).lines f) p ≡ Some l → f ≡ length code.symbols + number_of routines.PushAx
push_unit code args f p l unit held = by (known_unit code args f unit)
  where
    by : KnownUnit code args f → f ≡ length code.symbols + number_of routines.PushAx
    by (lineless e) = nothing_there ((runtime_in code args).lines f) p l e held
    by (pushing_unit is) = is

push_are_units : (cpu : Cpu) (code : Code) (image : Image) (args : List (List ℕ)) (setting : Setting) → Image_ cpu code image args setting → IsChosen code routines.PushAx → AreUnits (ground_in cpu code image 255 None) (runtime_in code args) (push_units code)
push_are_units cpu code image args setting i chosen =
    record {
      laid = λ f h. laid_by f (known_unit code args f h);
      counted = λ f p l h held. (flat_line l g (runtime_in code args) (push_line code args f p l h held)).0;
      no_arguments = λ f p l h held is. no_call f p l h held (Run routines.HookArgs) is refl;
      called = λ f p l r h held is lines. absurd (no_call f p l h held (Run r) is refl);
      through = λ f p l reads gives h held is. absurd (no_call f p l h held (Through reads gives) is refl);
      functions = λ f p k l h held leads is. absurd ((flat_line l g (runtime_in code args) (push_line code args f p l h held)).1 leads);
    }
  where
    g : Ground
    g = ground_in cpu code image 255 None

    no_call : (f p : ℕ) (l : Line) → IsTrue (push_units code f) → slice_get ((runtime_in code args).lines f) p ≡ Some l → (form : Form) → form_of l ≡ form → is_call form ≡ true → ⊥
    no_call f p l h held form is call = (let z : false ≡ true = sym (flat_line l g (runtime_in code args) (push_line code args f p l h held)).2 ∙ ap is_call is ∙ call in absurd cc)

    laid_by : (f : ℕ) → KnownUnit code args f → IsLaid g (runtime_in code args) f
    laid_by f (lineless e) = empty_laid g (runtime_in code args) (spot_in code f) f e
    laid_by f (pushing_unit is) =
        let n : ℕ = length code.symbols + number_of routines.PushAx in
        subst (λ (k : ℕ). IsLaid g (runtime_in code args) k) (sym is)
        (laid_same g (raw_in code args) (runtime_in code args).lines n (routine_at code args routines.PushAx ∙ sym (raw_routine code args routines.PushAx)) (λ k. entry_same code args (read (loaded_memory image)) k)
        (i.start_units n (routine routines.PushAx chosen refl) (no_start code routines.PushAx refl)))

-- The call

abbrev pub push_row_at : State → Row
push_row_at t = push_row routines.PushAx (t.regs.a ∷ t.regs.x ∷ []) t

pub record Pushed_ (P : Moment → Type 0) (g : Ground) (setting : Setting) (k : ℕ) (p : Place) (t : State) (first : Moment) : Type 0 where
  pub state : State
  pub meets : Meets (push_row_at t) t state
  pub input : All (λ v. v < 256) state.input
  pub went : Went P g setting k p state first

pub pushed_went : (cpu : Cpu) (code : Code) (image : Image) (args : List (List ℕ)) (setting : Setting) (k j : ℕ) (first : Moment) (t : State) → Image_ cpu code image args setting → IsChosen code routines.PushAx → slice_get ((raw_in code args).lines (start_number code)) j ≡ Some (Call (callees.Routine routines.PushAx))
    → t.pushed ≡ [] → t.frames ≡ [] → t.ended ≡ None → All (λ v. v < 256) t.input → stack_start + 64 ≤ sp_of t → sp_of t ≤ stack_end → Went (IsAway cpu code image) (ground_in cpu code image 255 None) setting k (start_number code, j) t first → Pushed_ (IsAway cpu code image) (ground_in cpu code image 255 None) setting (k + 32) (start_number code, suc j) t first
pushed_went cpu code image args setting k j first t i chosen held none_pushed no_calls going input_bytes soft high w = by f
  where
    h : Ground
    h = ground_in cpu code image 255 None

    s : RawSetting
    s = raw_in code args

    f0 : ℕ
    f0 = start_number code

    row : Row
    row = push_row_at t

    back : Place
    back = line_after s (f0, j)

    deep : 253 ≤ s_of t
    deep = (let one : length t.pushed ≡ 0 = ap length none_pushed in let two : sum_by (λ (f : Frame). 2 + length f.pushed) t.frames ≡ 0 = ap (sum_by (λ (f : Frame). 2 + length f.pushed)) no_calls in omega (arith, one, two))

    leads : callee_address i.start_laid.spot (callees.Routine routines.PushAx) ≡ h.at (entry_of s (s.routine routines.PushAx))
    leads = i.start_laid.calls j (Call (callees.Routine routines.PushAx)) held

    m : Moved h setting (h.at (entry_of s (s.routine routines.PushAx))) (called back t) w.then_at
    m = call_moves h s setting f0 j (callees.Routine routines.PushAx) (h.at (entry_of s (s.routine routines.PushAx))) t w.then_at i.start_ground i.start_laid held leads (room_for h s (h.at (f0, j)) 2 0 t w.then_at i.start_ground w.agrees (omega (arith, deep))) w.agrees

    near : (b : ℕ) → sp_of t - 2 ≤ b → b < stack_end → IsOpen (place_in code) (min (sp_of t) (sp_of t - 2)) b
    near b from to = inr (omega (arith, from), to)

    room : HasRoom (place_in code) row t
    room = record {
      ready = refl;
      soft = soft;
      hard = omega (arith, deep);
      near = All-cons (IsOpen (place_in code) (min (sp_of t) (sp_of t - 2))) (sp_of t - 2) ((sp_of t - 2 + 1) ∷ []) (near (sp_of t - 2) (omega arith) (omega (arith, soft, high)))
          (All-cons (IsOpen (place_in code) (min (sp_of t) (sp_of t - 2))) (sp_of t - 2 + 1) [] (near (sp_of t - 2 + 1) (omega arith) (omega (arith, soft, high))) (All-nil (IsOpen (place_in code) (min (sp_of t) (sp_of t - 2)))));
      far = All-nil (IsOpen (place_in code) (max (sp_of t) (sp_of t - 2)));
    }

    may : MayRun (runtime_in code args) row t
    may = record { room = room; high = high; bytes = w.bytes; running = going; data_low = λ b d. (let from = i.ground.data_from b d in let low = i.ground.low in (omega (arith, from, low), i.ground.data_to b d)) }

    runs : Runs (runtime_in code args) routines.PushAx row back t
    runs = i.runtime.meets routines.PushAx row back t refl may

    entry : Place
    entry = entry_of (runtime_in code args) (s.routine routines.PushAx)

    own : IsAmong (push_units code) entry (called back t)
    own = record {
      place = or_right (nat_lt (s.routine routines.PushAx) (length code.symbols)) ((s.routine routines.PushAx == f0) || (s.routine routines.PushAx == length code.symbols + 59))
          (or_right (s.routine routines.PushAx == f0) (s.routine routines.PushAx == length code.symbols + 59) (eq-eqb (s.routine routines.PushAx) (length code.symbols + 59) refl));
      frames = All-cons (λ (frame : Frame). IsTrue (push_units code frame.back.0)) (record { back = back; pushed = t.pushed; gives = no_parts }) t.frames
          (or_right (nat_lt f0 (length code.symbols)) ((f0 == start_number code) || (f0 == length code.symbols + 59)) (or_left (f0 == start_number code) (f0 == length code.symbols + 59) (eq-eqb f0 (start_number code) refl)))
          (subst (λ (fs : List Frame). All (λ (frame : Frame). IsTrue (push_units code frame.back.0)) fs) (sym no_calls) (All-nil (λ (frame : Frame). IsTrue (push_units code frame.back.0))));
    }

    InUnits : Moment → Type 0
    InUnits x = IsInUnits h (runtime_in code args) (push_units code) x.machine.pc

    in_pushax : (b : ℕ) → IsInUnits h (runtime_in code args) (push_units code) b → IsElsewhere (code_ground cpu code image) code b
    in_pushax b (in_line q l unit there_is from to) =
        let is = push_unit code args q.0 q.1 l unit there_is in
        away_outside cpu code image args setting q b i (routine routines.PushAx chosen is) (omega (arith, is)) (record { from = from; to = to })
    in_pushax b (in_hook far) = away_hook cpu code image args setting b i far

    there : Agrees h (h.at entry) (called back t) m.next
    there = subst (λ (x : ℕ). Agrees h x (called back t) m.next) (entry_same code args (read (loaded_memory image)) (s.routine routines.PushAx)) m.agrees

    f : Follows InUnits h setting 0 runs.weight m.next (HasCome (HasDone row.ends row back t) (IsAmong (push_units code)))
    f = runs_are_followed h (runtime_in code args) setting (reach_of t) (push_units code) row back t runs.weight entry (called back t) m.next (runtime_ground code args (read (loaded_memory image)) h refl i.start_ground) (record { sp = i.set.sp; args = i.set.args; bytes = i.set.bytes })
        (omega (arith, soft)) (push_are_units cpu code image args setting i chosen) runs.comes own (record { running = going; bytes = called_kept back t w.bytes; input = input_bytes }) there

    by : Follows InUnits h setting 0 runs.weight m.next (HasCome (HasDone row.ends row back t) (IsAmong (push_units code))) → Pushed_ (IsAway cpu code image) h setting (k + 32) (f0, suc j) t first
    by (has_gone rows status last q u some within goes free at turn_is holds ended output) = absurd (let z : ◌≡◌ {A = Option ℕ} None (Some status) = sym holds.holds.1.ended ∙ ended in cc)
    by (goes_still rows n q u some within goes holds running agrees) =
        let cost = runs.within in let before = w.within in
        let done : (q ≡ back) × Meets row t u × IsBytes u = holds.holds in
        record {
          state = u;
          meets = done.1;
          input = holds.input;
          went = record {
            then_at = n;
            rows = w.rows + suc rows;
            within = omega (arith, cost, before, within);
            goes = goes_both (IsAway cpu code image) setting w.rows (suc rows) (w.rows + suc rows) first w.then_at n refl w.goes
                (more {n = m.next} m.turn_is m.free (start_away cpu code image args setting j (Call (callees.Routine routines.PushAx)) w.then_at i held tt w.agrees.pc) (weaker InUnits (IsAway cpu code image) setting rows m.next n (λ x z. in_pushax x.machine.pc z) goes));
            bytes = holds.bytes;
            agrees = subst (λ (x : ℕ). Agrees h x u n) (i.start_laid.settled (suc j)) (subst (λ (x : Place). Agrees h (h.at x) u n) done.0 agrees);
          };
        }
