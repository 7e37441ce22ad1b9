-- Operations in a row from near states.
use Rattle.std.proofs.Common.{◌≡◌, ℕ, ◌+◌, ◌-◌, true, List, ◌∷◌, None, length, sym, subst, ap, ◌∙◌, arith}
use Rattle.std.specs.Prelude.{sum_by}
use Rattle.std.proofs.lemmas.Bool.{and_parts}
use Rattle.c65_mach.specs.declared.rows.Op.{Op}
use Rattle.c65_mach.specs.declared.rows.Op.TheVariants as ops
use Rattle.c65_mach.specs.declared.rows.Mode.{Mode}
use Rattle.c65_mach.specs.declared.rows.Mode.TheVariants.{Implied, Accumulator, Immediate, Indirect, Relative, AbsoluteIndirectX}
use Rattle.c65_mach.specs.Step.{with_a, Kind, Reads, Stores, Changes, Registers, Branches, Moves, kind_of}
use Rattle.c65_code.specs.declared.line.Callee.TheVariants as callees
use Rattle.c65_code.specs.declared.line.Line.{Line}
use Rattle.c65_code.specs.declared.line.Line.TheVariants.{Label, Do, Call}
use Rattle.c65_code.specs.declared.line.Operand.{Operand}
use Rattle.c65_code.specs.declared.line.Operand.TheVariants.{Byte, Low, High, Zero, To}
use Rattle.c65_code.specs.declared.parts.RegSet.{RegSet}
use Rattle.c65_code.specs.Forms.{Form, Plain, Branch, Jump, Push, Pull, Depth, IsLocal, op_form, form_of}
use Rattle.c65_code.specs.LineLaws.{given_of, IsGivenByte}
use Rattle.c65_code.specs.LineState.{Place, Frame, State, s_of, IsBytes}
use Rattle.c65_code.specs.Moves.{ref_of, Does, Goes}
use Rattle.c65_code.specs.Placement.{Placement, Setting, word_of}
use Rattle.c65_code.specs.Segments.{has_row, takes}
use Rattle.c65_code.specs.Steady.{IsSteady}
use Rattle.c65_code_law.proofs.Sticks.{never_sticks}
use Rattle.c65_know_law.proofs.Runs.{does_frames}
use Rattle.c65_opt_law_near.proofs.Operations.{operations_stay_near, operations_stay_steady}
use Rattle.c65_opt_law_near.specs.Laws.{IsLow, IsOperation, IsAnswered}
use Rattle.c65_opt_law_near.specs.Near.{before, Near}
use Rattle.c65_optarith_law.specs.Straight.{Steps, Straight, done, by}
use Rattle.c65_opt_law_straight.specs.Laws.{before_all, IsByteLine, IsInRow, AreInRow, AreAsDeep, LinesStayNear}

-- ---- operands that are bytes

given_mode : (place : Placement) (mode : Mode) (operand : Operand) (op : Op) (t : State) → takes op mode operand ≡ true → IsByteLine (Do op mode operand) → IsGivenByte (ref_of mode (word_of place operand) t)
given_mode place Immediate (Byte v) op t fit h = h
given_mode place Immediate (Low sym offset) op t fit h = omega arith
given_mode place Immediate (High sym offset) op t fit h = omega arith
given_mode place Immediate _ op t fit h = absurd (cc)
given_mode place Implied operand op t fit h = omega arith
given_mode place Accumulator operand op t fit h = omega arith
given_mode place Indirect operand op t fit h = omega arith
given_mode place Relative operand op t fit h = omega arith
given_mode place AbsoluteIndirectX operand op t fit h = omega arith
given_mode place _ operand op t fit h = tt

given_kind : (s : Setting) (op : Op) (mode : Mode) (operand : Operand) (t : State) (k : Kind) → takes op mode operand ≡ true → IsByteLine (Do op mode operand) → IsOperation (op_form k op mode operand) → IsGivenByte (given_of s (op_form k op mode operand) t)
given_kind s op mode operand t Reads fit h i = given_mode s.place mode operand op t fit h
given_kind s op mode operand t Stores fit h i = given_mode s.place mode operand op t fit h
given_kind s op mode operand t Changes fit h i = given_mode s.place mode operand op t fit h
given_kind s op mode operand t Registers fit h i = given_mode s.place mode operand op t fit h
given_kind s op mode (To l) t Branches fit h i = omega arith
given_kind s op mode _ t Branches fit h i = absurd i
given_kind s ops.Jmp mode (To l) t Moves fit h i = omega arith
given_kind s ops.Jmp mode (Zero j) t Moves fit h i = absurd i
given_kind s ops.Jmp mode _ t Moves fit h i = absurd i
given_kind s ops.Pha mode operand t Moves fit h i = omega arith
given_kind s ops.Pla mode operand t Moves fit h i = omega arith
given_kind s ops.Tsx mode operand t Moves fit h i = omega arith
given_kind s _ mode operand t Moves fit h i = absurd i

pub given_line : (s : Setting) (line : Line) (t : State) → IsInRow line → IsGivenByte (given_of s (form_of line) t)
given_line s (Label l) t h = absurd h.operation
given_line s (Do op mode operand) t h =
    let row = and_parts (has_row op mode) _ h.fit in
    let mine = and_parts (takes op mode operand) _ row.1 in
    given_kind s op mode operand t (kind_of op) mine.0 h.byte h.operation
given_line s (Call (callees.Routine r)) t h = absurd h.operation
given_line s (Call (callees.Function f reads gives)) t h = absurd h.operation
given_line s (Call (callees.Pointer reads gives)) t h = absurd h.operation

-- ---- what an operation does

does_of : (s : Setting) (form : Form) (p q : Place) (t u : State) → IsOperation form → Goes s form p t q u → Does s.place form t u
does_of s (Plain op mode operand) p q t u i g = g.1
does_of s (Branch op l) p q t u i g = g.1
does_of s (Jump l) p q t u i g = g.1
does_of s Push p q t u i g = g.1
does_of s Pull p q t u i g = g.1
does_of s Depth p q t u i g = g.1
does_of s _ p q t u i g = absurd i

local : (form : Form) → IsOperation form → IsLocal form
local (Plain op mode operand) i = tt
local (Branch op l) i = tt
local (Jump l) i = tt
local Push i = tt
local Pull i = tt
local Depth i = tt
local _ i = absurd i

-- it leads to one state
pub does_one : (place : Placement) (form : Form) (t u v : State) → IsOperation form → Does place form t u → Does place form t v → u ≡ v
does_one place (Plain op mode operand) t u v i d e = d ∙ sym e
does_one place (Branch op l) t u v i d e = d ∙ sym e
does_one place (Jump l) t u v i d e = d ∙ sym e
does_one place Push t u v i d e = d ∙ sym e
does_one place Pull t u v i d e =
    let both : d.0 ∷ d.1 ≡ e.0 ∷ e.1 = sym d.2 ∙ e.2 in
    let first : d.0 ≡ e.0 = cc in
    let rest : d.1 ≡ e.1 = cc in
    d.3 ∙ (ap (λ (x : ℕ). record t { regs = with_a x t.regs; pushed = d.1 }) first ∙ (ap (λ (xs : List ℕ). record t { regs = with_a e.0 t.regs; pushed = xs }) rest ∙ sym e.3))
does_one place Depth t u v i d e = d ∙ sym e
does_one place _ t u v i d e = absurd i

-- ---- lines in a row

hard_same : (live : RegSet) (t u : State) → Near live t u → AreAsDeep t u → s_of t ≡ s_of u
hard_same live t u n deep =
    ap (λ (vs : List ℕ). 253 - (length vs + sum_by (λ (f : Frame). 2 + length f.pushed) t.frames)) n.pushed ∙ ap (λ (k : ℕ). 253 - (length u.pushed + k)) deep

module _ (s : Setting) (low : IsLow s.place) (out after : RegSet) where
  -- one line, from a state that leads to a near one
  record Led (line : Line) (rest : RegSet) (u v : State) : Type 0 where
    state : State
    steps : Steps s line u state
    near : Near rest v state
    deep : AreAsDeep v state
    bytes : IsBytes state

  one_line : (line : Line) (rest : RegSet) (t u v : State) → IsInRow line → Steps s line t v → IsBytes u → AreAsDeep t u → Near (before out line rest) t u → Led line rest u v
  one_line line rest t u v row step bytes deep n =
      let hard : s_of t ≡ s_of u = hard_same (before out line rest) t u n deep in
      let steady : IsSteady s line u = operations_stay_steady s out line low row.fit row.operation rest t u step.steady bytes hard n in
      let running : u.ended ≡ None = sym n.ended ∙ step.running in
      let go = never_sticks s line (0, 0) u (given_line s line u row) steady running in
      let does : Does s.place (form_of line) u go.1 = does_of s (form_of line) (0, 0) go.0 u go.1 row.operation go.2.goes in
      let back : IsAnswered s.place line rest t go.1 = operations_stay_near s out line low row.fit row.operation rest t u go.1 step.steady hard n does in
      let same : back.state ≡ v = does_one s.place (form_of line) t back.state v row.operation back.does step.does in
      let first : v.frames ≡ t.frames = does_frames s.place (form_of line) t v (local (form_of line) row.operation) step.does in
      let second : go.1.frames ≡ u.frames = does_frames s.place (form_of line) u go.1 (local (form_of line) row.operation) does in
      record {
        state = go.1;
        steps = record { onward = step.onward; running = running; steady = steady; does = does; bytes = go.2.bytes };
        near = subst (λ (x : State). Near rest x go.1) same back.near;
        deep = ap (sum_by (λ (f : Frame). 2 + length f.pushed)) first ∙ (deep ∙ ap (sum_by (λ (f : Frame). 2 + length f.pushed)) (sym second));
        bytes = go.2.bytes;
      }

  in_row : {lines : List Line} {t v : State} → Straight s lines t v → AreInRow lines → (u : State) → IsBytes u → AreAsDeep t u → Near (before_all out lines after) t u
      → (x : State) × Straight s lines u x × Near after v x × AreAsDeep v x × IsBytes x
  in_row done rows u bytes deep n = (u, done, n, deep, bytes)
  in_row {t = t} (by {line = line} {lines = lines} {u = m} step rest) rows u bytes deep n =
      let led = one_line line (before_all out lines after) t u m rows.0 step bytes deep n in
      let more = in_row rest rows.1 led.state led.bytes led.deep led.near in
      (more.0, by led.steps more.1, more.2, more.3, more.4)

pub lines_stay_near : LinesStayNear
lines_stay_near s out lines after t u v low rows straight bytes deep n = in_row s low out after straight rows u bytes deep n
