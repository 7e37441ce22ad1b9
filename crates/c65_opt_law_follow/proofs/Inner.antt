-- Lines of windows: what they show, where they lead, and what they weigh.
use Rattle.std.proofs.Common.{◌≡◌, ℕ, suc, ◌+◌, ◌≤◌, Bool, true, false, Option, Some, None, List, [], ◌∷◌, ◌++◌, refl, sym, subst, ap, ◌∙◌, arith}
use Rattle.std.proofs.lemmas.List.{append-nil}
use Rattle.c65_base.specs.declared.library.Library.{Library}
use Rattle.c65_base.specs.declared.library.Library.TheVariants.{Putchar, Getchar, Puts, Exit, Memcpy, Memset, Strcmp, Strcpy, Strlen, Printf}
use Rattle.c65_mach.specs.State.{Regs}
use Rattle.c65_mach.specs.declared.rows.Op.{Op}
use Rattle.c65_mach.specs.declared.rows.Mode.{Mode}
use Rattle.c65_mach.specs.declared.rows.Mode.TheVariants.{Accumulator}
use Rattle.c65_mach.specs.Step.{signed, stored, changed, is_taken, Kind, Reads, Stores, Changes, Registers, Branches, Moves as Moving, kind_of}
use Rattle.c65_code.proofs.WeightLaws.{row_costs}
use Rattle.c65_code.specs.declared.line.Line.{Line}
use Rattle.c65_code.specs.declared.parts.RegSet.{RegSet}
use Rattle.c65_code.specs.declared.routine.Routine.{Routine}
use Rattle.c65_code.specs.declared.routine.Routine.TheVariants as routines
use Rattle.c65_code.specs.declared.routine.Width.{Width}
use Rattle.c65_code.specs.declared.routine.Width.TheVariants.{Ax, Eax}
use Rattle.c65_code.specs.Comes.{Shown, shown_by}
use Rattle.c65_code.specs.Forms.{Form, Plain, Branch, Jump, Push, Pull, Depth, Run, Enter, Through, IsLocal, form_of}
use Rattle.c65_code.specs.LineState.{State, sp_of, sreg_of}
use Rattle.c65_code.specs.Moves.{Ref, Given, ZeroAt, MemAt, ref_of, value_at, put, change, effect, settle, labelled, next, MeetsRow, Does}
use Rattle.c65_code.specs.Numbers.{result_width, tos_result, unary_width, unary_result}
use Rattle.c65_code.specs.Placement.{Placement, Setting, word_of}
use Rattle.c65_code.specs.Rows.{Row, row_by, costing, popping, giving, giving_if, read_row, number_at, size_of, primary_of, tos_cost, row_of}
use Rattle.c65_code.specs.Weights.{row_cost, call_weight, Weighs}
use Rattle.c65_opt_law_near.specs.Near.{before}
use Rattle.c65_opt_law_follow.specs.Windows.{WayOut, ToLabel, IsSilent, IsPassed, IsInner, weight_of, live_by}

-- ---- kinds

pub data InnerKind (line : Line) : Type 0 where
  passed : IsPassed (form_of line) → InnerKind line
  jump : (label : ℕ) → form_of line ≡ Jump label → InnerKind line
  branch : (op : Op) (label : ℕ) → form_of line ≡ Branch op label → InnerKind line

pub inner_kind : (line : Line) → IsInner (form_of line) → InnerKind line
inner_kind line i = by (form_of line) refl i
  where
    by : (form : Form) → form_of line ≡ form → IsInner form → InnerKind line
    by (Branch op label) e i = branch op label e
    by (Jump label) e i = jump label e
    by (Plain op mode operand) e i = passed (subst IsPassed (sym e) tt)
    by Push e i = passed (subst IsPassed (sym e) tt)
    by Pull e i = passed (subst IsPassed (sym e) tt)
    by Depth e i = passed (subst IsPassed (sym e) tt)
    by (Run r) e i = passed (subst IsPassed (sym e) i)
    by _ e i = absurd i

pub passed_local : (form : Form) → IsPassed form → IsLocal form
passed_local (Plain op mode operand) i = tt
passed_local Push i = tt
passed_local Pull i = tt
passed_local Depth i = tt
passed_local (Run r) i = tt
passed_local _ i = absurd i

pub inner_local : (form : Form) → IsInner form → IsLocal form
inner_local (Branch op label) i = tt
inner_local (Jump label) i = tt
inner_local (Plain op mode operand) i = tt
inner_local Push i = tt
inner_local Pull i = tt
inner_local Depth i = tt
inner_local (Run r) i = tt
inner_local _ i = absurd i

pub passed_next : (lines : List Line) (form : Form) (q : ℕ) (regs : Regs) → IsPassed form → next lines form q regs ≡ settle lines (suc q)
passed_next lines (Plain op mode operand) q regs i = refl
passed_next lines Push q regs i = refl
passed_next lines Pull q regs i = refl
passed_next lines Depth q regs i = refl
passed_next lines (Run r) q regs i = refl
passed_next lines _ q regs i = absurd i

pub live_passed : (out : RegSet) (after : WayOut → RegSet) (line : Line) (form : Form) (rest : RegSet) → IsPassed form → live_by out after line form rest ≡ before out line rest
live_passed out after line (Plain op mode operand) rest i = refl
live_passed out after line Push rest i = refl
live_passed out after line Pull rest i = refl
live_passed out after line Depth rest i = refl
live_passed out after line (Run r) rest i = refl
live_passed out after line _ rest i = absurd i

pub weighs_passed : (s : Setting) (form : Form) (t : State) → IsPassed form → Weighs s form t (weight_of form t)
weighs_passed s (Plain op mode operand) t i = refl
weighs_passed s Push t i = refl
weighs_passed s Pull t i = refl
weighs_passed s Depth t i = refl
weighs_passed s (Run r) t i = refl
weighs_passed s _ t i = absurd i

pub weighs_local : (s : Setting) (form : Form) (t : State) (c : ℕ) → IsLocal form → Weighs s form t c → c ≡ weight_of form t
weighs_local s (Plain op mode operand) t c i w = w
weighs_local s (Branch op label) t c i w = w
weighs_local s (Jump label) t c i w = w
weighs_local s Push t c i w = w
weighs_local s Pull t c i w = w
weighs_local s Depth t c i w = w
weighs_local s (Run r) t c i w = w
weighs_local s _ t c i w = absurd i

pub local_weighs : (s : Setting) (form : Form) (t : State) → IsLocal form → Weighs s form t (weight_of form t)
local_weighs s (Plain op mode operand) t i = refl
local_weighs s (Branch op label) t i = refl
local_weighs s (Jump label) t i = refl
local_weighs s Push t i = refl
local_weighs s Pull t i = refl
local_weighs s Depth t i = refl
local_weighs s (Run r) t i = refl
local_weighs s _ t i = absurd i

call_weighs : (o : Option Library) (t : State) → 1 ≤ call_weight o t
call_weighs None t = omega arith
call_weighs (Some f) t = omega arith

pub form_weighs : (s : Setting) (form : Form) (t : State) (w : ℕ) → Weighs s form t w → 1 ≤ w
form_weighs s (Branch op label) t w h = omega (arith, h)
form_weighs s (Run r) t w h = omega (arith, h, row_costs r t)
form_weighs s (Enter f reads gives) t w h = omega (arith, h, call_weighs (s.library f) t)
form_weighs s (Through reads gives) t w h = omega (arith, h.2, call_weighs (s.library h.0) t)
form_weighs s _ t w h = omega (arith, h)

-- ---- what they show

-- a row that writes nothing, and after which the run goes on
abbrev IsQuiet : Option Row → Type 0
IsQuiet None = Unit {0}
IsQuiet (Some row) = (row.out ≡ []) × (row.ends ≡ None)

quiet_giving : (width : Width) (v : ℕ) (row : Row) → IsQuiet (Some row) → IsQuiet (Some (giving width v row))
quiet_giving Ax v row q = q
quiet_giving Eax v row q = q

quiet_if : (width : Width) (v : Option ℕ) (row : Row) → IsQuiet (Some row) → IsQuiet (Some (giving_if width v row))
quiet_if width None row q = q
quiet_if width (Some v) row q = quiet_giving width v row q

quiet_read : (input : List ℕ) (t : State) (row : Row) → IsQuiet (Some row) → IsQuiet (Some (read_row input t row))
quiet_read [] t row q = q
quiet_read (v ∷ input) t row q = q

quiet_row : (r : Routine) (t : State) → IsSilent r → IsQuiet (row_of r t)
quiet_row (routines.Tos op width) t i = quiet_if (result_width op width) (tos_result op width (number_at width t.mem (sp_of t)) (primary_of width t)) (costing (tos_cost op) (popping (size_of width) t (row_by (routines.Tos op width) t))) (refl, refl)
quiet_row (routines.Unary op width) t i = quiet_giving (unary_width op width) (unary_result op width (primary_of width t)) (costing 256 (row_by (routines.Unary op width) t)) (refl, refl)
quiet_row routines.StkChk t i = absurd i
quiet_row (routines.Library Getchar) t i = quiet_read t.input t (costing 256 (row_by (routines.Library Getchar) t)) (refl, refl)
quiet_row (routines.Library Putchar) t i = absurd i
quiet_row (routines.Library Puts) t i = absurd i
quiet_row (routines.Library Printf) t i = absurd i
quiet_row (routines.Library Exit) t i = absurd i
quiet_row (routines.Library Memcpy) t i = (refl, refl)
quiet_row (routines.Library Memset) t i = (refl, refl)
quiet_row (routines.Library Strcmp) t i = (refl, refl)
quiet_row (routines.Library Strcpy) t i = (refl, refl)
quiet_row (routines.Library Strlen) t i = (refl, refl)
quiet_row routines.CallPtr4 t i = tt
quiet_row routines.Start t i = tt
quiet_row routines.StartArgs t i = tt
quiet_row routines.HookOpen t i = tt
quiet_row routines.HookClose t i = tt
quiet_row routines.HookRead t i = tt
quiet_row routines.HookWrite t i = tt
quiet_row routines.HookArgs t i = tt
quiet_row routines.HookExit t i = tt
quiet_row _ t i = (refl, refl)

put_shown : (ref : Ref) (v : ℕ) (t : State) → shown_by (put ref v t) ≡ shown_by t
put_shown (Given w) v t = refl
put_shown (ZeroAt i) v t = refl
put_shown (MemAt b) v t = refl

change_shown : (op : Op) (mode : Mode) (w : ℕ) (t : State) → shown_by (change op mode w t) ≡ shown_by t
change_shown op Accumulator w t = refl
change_shown op mode w t = put_shown (ref_of mode w t) (changed op (value_at (ref_of mode w t) t) t.regs).0 (record t { regs = record (signed (changed op (value_at (ref_of mode w t) t) t.regs).0 t.regs) { c = (changed op (value_at (ref_of mode w t) t) t.regs).1 } })

effect_shown : (k : Kind) (op : Op) (mode : Mode) (w : ℕ) (t : State) → shown_by (effect k op mode w t) ≡ shown_by t
effect_shown Reads op mode w t = refl
effect_shown Stores op mode w t = put_shown (ref_of mode w t) (stored op t.regs) t
effect_shown Changes op mode w t = change_shown op mode w t
effect_shown Registers op mode w t = refl
effect_shown Branches op mode w t = refl
effect_shown Moving op mode w t = refl

row_shown : (o : Option Row) (t u : State) → IsQuiet o → t.ended ≡ None → MeetsRow o t u → shown_by u ≡ shown_by t
row_shown None t u q running m = absurd m
row_shown (Some row) t u q running m =
    ap (λ (o : List ℕ). record { output = o; ended = u.ended }) (m.output ∙ (ap (λ (o : List ℕ). t.output ++ o) q.0 ∙ append-nil t.output))
    ∙ ap (λ (e : Option ℕ). record { output = t.output; ended = e }) (m.ended ∙ (q.1 ∙ sym running))

pub does_shown : (place : Placement) (form : Form) (t u : State) → IsPassed form → t.ended ≡ None → Does place form t u → shown_by u ≡ shown_by t
does_shown place (Plain op mode operand) t u i running d = ap shown_by d ∙ effect_shown (kind_of op) op mode (word_of place operand) t
does_shown place Push t u i running d = ap shown_by d
does_shown place Pull t u i running d = ap shown_by d.3
does_shown place Depth t u i running d = ap shown_by d
does_shown place (Run r) t u i running d = row_shown (row_of r t) t u (quiet_row r t i) running d
does_shown place _ t u i running d = absurd i

pub still_running : (t u : State) → shown_by u ≡ shown_by t → t.ended ≡ None → u.ended ≡ None
still_running t u same running = ap (λ (s : Shown). s.ended) same ∙ running
