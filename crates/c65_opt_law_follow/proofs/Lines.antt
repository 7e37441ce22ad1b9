-- Local lines from near states.
use Rattle.std.proofs.Common.{◌≡◌, ℕ, suc, ◌+◌, ◌-◌, ◌≤◌, ◌⊎◌, inl, inr, Bool, true, false, Option, Some, None, List, [], ◌∷◌, length, IsTrue, if◌then◌else◌, refl, sym, subst, ap, ◌∙◌, arith, lit<}
use Rattle.std.specs.Prelude.{sum_by}
use Rattle.c65_mach.specs.State.{Regs}
use Rattle.c65_mach.specs.declared.rows.Op.{Op}
use Rattle.c65_mach.specs.declared.rows.Op.TheVariants as ops
use Rattle.c65_mach.specs.declared.rows.Mode.{Mode}
use Rattle.c65_mach.specs.Step.{is_not, is_taken, Kind, Reads, Stores, Changes, Registers, Branches, Moves as Moving, kind_of}
use Rattle.c65_code.specs.declared.line.Callee.TheVariants as callees
use Rattle.c65_code.specs.declared.line.Line.{Line}
use Rattle.c65_code.specs.declared.line.Line.TheVariants.{Label, Do, Call}
use Rattle.c65_code.specs.declared.line.Operand.{Operand}
use Rattle.c65_code.specs.declared.line.Operand.TheVariants.{To, Zero}
use Rattle.c65_code.specs.declared.parts.Part.{Part}
use Rattle.c65_code.specs.declared.parts.Part.TheVariants.{N, V, Z, C}
use Rattle.c65_code.specs.declared.parts.RegSet.{RegSet}
use Rattle.c65_code.specs.declared.routine.Routine.{Routine}
use Rattle.c65_code.specs.Forms.{Form, Plain, Branch, Jump, Push, Pull, Depth, Run, IsLocal, op_form, form_of}
use Rattle.c65_code.specs.LineLaws.{given_of, IsGivenByte}
use Rattle.c65_code.specs.LineState.{Place, Frame, State, sp_of, s_of, IsBytes}
use Rattle.c65_code.specs.Moves.{Does, Goes, Moves, labelled, settle, next}
use Rattle.c65_code.specs.Placement.{Placement, Setting, stack_start}
use Rattle.c65_code.specs.Rows.{row_of}
use Rattle.c65_code.specs.Segments.{is_fit}
use Rattle.c65_code.specs.Steady.{IsSteady}
use Rattle.c65_code_law.proofs.Sticks.{never_sticks}
use Rattle.c65_opt_law_near.proofs.Operations.{calm_stays, operations_stay_near, operations_stay_steady}
use Rattle.c65_opt_law_near.proofs.Sets.{read_before}
use Rattle.c65_opt_law_near.specs.Laws.{IsLow, IsOperation}
use Rattle.c65_opt_law_near.specs.Near.{before, Near}
use Rattle.c65_opt_law_rows.proofs.Routines.{routines_stay_near}
use Rattle.c65_opt_law_rows.specs.Laws.{called, StaysNear}
use Rattle.c65_opt_law_straight.proofs.Rows.{given_line, does_one}
use Rattle.c65_opt_law_straight.specs.Laws.{IsByteLine, AreAsDeep}
use Rattle.c65_opt_law_follow.specs.Windows.{weight_of}
use Rattle.c65_opt_law_follow.proofs.Near.{hard_same}

-- ---- a local line is an operation or a call of a routine

op_operation : (op : Op) (mode : Mode) (operand : Operand) (k : Kind) → IsLocal (op_form k op mode operand) → IsOperation (op_form k op mode operand)
op_operation op mode operand Reads i = tt
op_operation op mode operand Stores i = tt
op_operation op mode operand Changes i = tt
op_operation op mode operand Registers i = tt
op_operation op mode (To l) Branches i = tt
op_operation op mode _ Branches i = absurd i
op_operation ops.Jmp mode (To l) Moving i = tt
op_operation ops.Jmp mode (Zero j) Moving i = absurd i
op_operation ops.Jmp mode _ Moving i = absurd i
op_operation ops.Pha mode operand Moving i = tt
op_operation ops.Pla mode operand Moving i = tt
op_operation ops.Tsx mode operand Moving i = tt
op_operation _ mode operand Moving i = absurd i

pub local_kind : (l : Line) → IsLocal (form_of l) → IsOperation (form_of l) ⊎ ((r : Routine) × (l ≡ called r))
local_kind (Label k) i = absurd i
local_kind (Do op mode operand) i = inl (op_operation op mode operand (kind_of op) i)
local_kind (Call (callees.Routine r)) i = inr (r, refl)
local_kind (Call (callees.Function f reads gives)) i = absurd i
local_kind (Call (callees.Pointer reads gives)) i = absurd i

-- ---- moves by local lines

pub goes_local : (s : Setting) (form : Form) (p q : Place) (t u : State) → IsLocal form → Goes s form p t q u → (q ≡ (p.0, next (s.lines p.0) form p.1 t.regs)) × Does s.place form t u
goes_local s (Plain op mode operand) p q t u i g = g
goes_local s (Branch op l) p q t u i g = g
goes_local s (Jump l) p q t u i g = g
goes_local s Push p q t u i g = g
goes_local s Pull p q t u i g = g
goes_local s Depth p q t u i g = g
goes_local s (Run r) p q t u i g = g
goes_local s _ p q t u i g = absurd i

pub local_goes : (s : Setting) (form : Form) (p q : Place) (t u : State) → IsLocal form → (q ≡ (p.0, next (s.lines p.0) form p.1 t.regs)) × Does s.place form t u → Goes s form p t q u
local_goes s (Plain op mode operand) p q t u i g = g
local_goes s (Branch op l) p q t u i g = g
local_goes s (Jump l) p q t u i g = g
local_goes s Push p q t u i g = g
local_goes s Pull p q t u i g = g
local_goes s Depth p q t u i g = g
local_goes s (Run r) p q t u i g = g
local_goes s _ p q t u i g = absurd i

-- ---- flags of branches

pub record IsBranch (l : Line) (op : Op) (k : ℕ) : Type 0 where
  pub mode : Mode
  pub line : l ≡ Do op mode (To k)
  pub kind : kind_of op ≡ Branches

branch_of : (op o : Op) (mode : Mode) (operand : Operand) (k : ℕ) (kind : Kind) → kind_of op ≡ kind → op_form kind op mode operand ≡ Branch o k → IsBranch (Do op mode operand) o k
branch_of op o mode operand k Reads e h = absurd (cc)
branch_of op o mode operand k Stores e h = absurd (cc)
branch_of op o mode operand k Changes e h = absurd (cc)
branch_of op o mode operand k Registers e h = absurd (cc)
branch_of op o mode (To l) k Branches e h =
    let one : op ≡ o = cc in
    let two : l ≡ k = cc in
    record { mode = mode; line = ap (λ (x : Op). Do x mode (To l)) one ∙ ap (λ (x : ℕ). Do o mode (To x)) two; kind = ap kind_of (sym one) ∙ e }
branch_of op o mode _ k Branches e h = absurd (cc)
branch_of ops.Jmp o mode (To l) k Moving e h = absurd (cc)
branch_of ops.Jmp o mode (Zero j) k Moving e h = absurd (cc)
branch_of ops.Jmp o mode _ k Moving e h = absurd (cc)
branch_of ops.Pha o mode operand k Moving e h = absurd (cc)
branch_of ops.Pla o mode operand k Moving e h = absurd (cc)
branch_of ops.Tsx o mode operand k Moving e h = absurd (cc)
branch_of ops.Rts o mode operand k Moving e h = absurd (cc)
branch_of _ o mode operand k Moving e h = absurd (cc)

pub branch_line : (l : Line) (op : Op) (k : ℕ) → form_of l ≡ Branch op k → IsBranch l op k
branch_line (Label j) op k h = absurd (cc)
branch_line (Do o mode operand) op k h = branch_of o op mode operand k (kind_of o) refl h
branch_line (Call (callees.Routine r)) op k h = absurd (cc)
branch_line (Call (callees.Function f reads gives)) op k h = absurd (cc)
branch_line (Call (callees.Pointer reads gives)) op k h = absurd (cc)

module _ (out after : RegSet) (mode : Mode) (operand : Operand) (t u : State) where
  op_taken : (op : Op) → kind_of op ≡ Branches → Near (before out (Do op mode operand) after) t u → is_taken op t.regs ≡ is_taken op u.regs
  op_taken ops.Bcc e n = ap is_not (n.part C (read_before out (Do ops.Bcc mode operand) after C refl))
  op_taken ops.Bcs e n = n.part C (read_before out (Do ops.Bcs mode operand) after C refl)
  op_taken ops.Beq e n = n.part Z (read_before out (Do ops.Beq mode operand) after Z refl)
  op_taken ops.Bmi e n = n.part N (read_before out (Do ops.Bmi mode operand) after N refl)
  op_taken ops.Bne e n = ap is_not (n.part Z (read_before out (Do ops.Bne mode operand) after Z refl))
  op_taken ops.Bpl e n = ap is_not (n.part N (read_before out (Do ops.Bpl mode operand) after N refl))
  op_taken ops.Bra e n = refl
  op_taken ops.Bvc e n = ap is_not (n.part V (read_before out (Do ops.Bvc mode operand) after V refl))
  op_taken ops.Bvs e n = n.part V (read_before out (Do ops.Bvs mode operand) after V refl)
  op_taken _ e n = absurd (cc)

pub taken_same : (out after : RegSet) (l : Line) (op : Op) (k : ℕ) (t u : State) → form_of l ≡ Branch op k → Near (before out l after) t u → is_taken op t.regs ≡ is_taken op u.regs
taken_same out after l op k t u e n =
    let b = branch_line l op k e in
    op_taken out after b.mode (To k) t u op b.kind (subst (λ (x : Line). Near (before out x after) t u) b.line n)

pub next_same : (out after : RegSet) (l : Line) (lines : List Line) (q : ℕ) (t u : State) → Near (before out l after) t u → next lines (form_of l) q t.regs ≡ next lines (form_of l) q u.regs
next_same out after l lines q t u n = by (form_of l) refl
  where
    by : (form : Form) → form_of l ≡ form → next lines form q t.regs ≡ next lines form q u.regs
    by (Branch op k) e = ap (λ (b : Bool). settle lines (if b then labelled lines k else suc q)) (taken_same out after l op k t u e n)
    by (Jump k) e = refl
    by _ e = refl

-- ---- near states

module _ (s : Setting) (low : IsLow s.place) (out : RegSet) where
  given_local : (l : Line) (t : State) → is_fit l ≡ true → IsByteLine l → IsLocal (form_of l) → IsGivenByte (given_of s (form_of l) t)
  given_local l t fit byte i = by (local_kind l i)
    where
      by : IsOperation (form_of l) ⊎ ((r : Routine) × (l ≡ called r)) → IsGivenByte (given_of s (form_of l) t)
      by (inl o) = given_line s l t (record { fit = fit; operation = o; byte = byte })
      by (inr r) = subst (λ (x : Line). IsGivenByte (given_of s (form_of x) t)) (sym r.1) (lit< tt)

  -- where it is steady, it leads somewhere
  pub record Leads (l : Line) (t : State) : Type 0 where
    pub state : State
    pub does : Does s.place (form_of l) t state
    pub bytes : IsBytes state

  pub leads : (l : Line) (t : State) → is_fit l ≡ true → IsByteLine l → IsLocal (form_of l) → IsSteady s l t → t.ended ≡ None → Leads l t
  leads l t fit byte i steady running =
      let go = never_sticks s l (0, 0) t (given_local l t fit byte i) steady running in
      record { state = go.1; does = (goes_local s (form_of l) (0, 0) go.0 t go.1 i go.2.goes).1; bytes = go.2.bytes }

  pub record Answered (l : Line) (after : RegSet) (t u : State) : Type 0 where
    pub state : State
    pub does : Does s.place (form_of l) t state
    pub bytes : IsBytes state
    pub near : Near after state u

  module _ (l : Line) (fit : is_fit l ≡ true) (byte : IsByteLine l) (i : IsLocal (form_of l)) (after : RegSet) (t u : State) (steady : IsSteady s l t) (deep : AreAsDeep t u) (n : Near (before out l after) t u) where
    pub stays_steady : IsBytes u → IsSteady s l u
    stays_steady bytes = by (local_kind l i)
      where
        hard : s_of t ≡ s_of u
        hard = hard_same (before out l after) t u n deep

        run : (r : Routine) → IsSteady s (called r) t → Near (before out (called r) after) t u → IsSteady s (called r) u
        run r st m = record { calm = calm_stays s (before out (called r) after) t u low st.calm bytes hard m; within = (routines_stay_near s out r low after t u st hard m).room }

        by : IsOperation (form_of l) ⊎ ((r : Routine) × (l ≡ called r)) → IsSteady s l u
        by (inl o) = operations_stay_steady s out l low fit o after t u steady bytes hard n
        by (inr r) = subst (λ (x : Line). IsSteady s x u) (sym r.1) (run r.0 (subst (λ (x : Line). IsSteady s x t) r.1 steady) (subst (λ (x : Line). Near (before out x after) t u) r.1 n))

    pub weighs_same : weight_of (form_of l) u ≡ weight_of (form_of l) t
    weighs_same = by (local_kind l i)
      where
        hard : s_of t ≡ s_of u
        hard = hard_same (before out l after) t u n deep

        one : (form : Form) → IsOperation form → weight_of form u ≡ weight_of form t
        one (Plain op mode operand) o = refl
        one (Branch op k) o = refl
        one (Jump k) o = refl
        one Push o = refl
        one Pull o = refl
        one Depth o = refl
        one _ o = absurd o

        by : IsOperation (form_of l) ⊎ ((r : Routine) × (l ≡ called r)) → weight_of (form_of l) u ≡ weight_of (form_of l) t
        by (inl o) = one (form_of l) o
        by (inr r) = subst (λ (x : Line). weight_of (form_of x) u ≡ weight_of (form_of x) t) (sym r.1)
            (routines_stay_near s out r.0 low after t u (subst (λ (x : Line). IsSteady s x t) r.1 steady) hard (subst (λ (x : Line). Near (before out x after) t u) r.1 n)).cost

    -- where all states to which the line leads have their sp in the software stack
    pub answered : t.ended ≡ None → ((v : State) → Does s.place (form_of l) t v → IsBytes v → stack_start ≤ sp_of v) → (v : State) → Does s.place (form_of l) u v → IsBytes v → Answered l after t v
    answered running above v does bytes = by (local_kind l i)
      where
        hard : s_of t ≡ s_of u
        hard = hard_same (before out l after) t u n deep

        first : Leads l t
        first = leads l t fit byte i steady running

        run : (r : Routine) → IsSteady s (called r) t → Near (before out (called r) after) t u → Does s.place (form_of (called r)) u v → (w : State) → Does s.place (form_of (called r)) t w → IsBytes w → stack_start ≤ sp_of w → Answered (called r) after t v
        run r st m d w dw bw lw = let x = (routines_stay_near s out r low after t u st hard m).answered w v dw bw lw d bytes in record { state = x.state; does = x.meets; bytes = x.bytes; near = x.near }

        by : IsOperation (form_of l) ⊎ ((r : Routine) × (l ≡ called r)) → Answered l after t v
        by (inl o) =
            let x = operations_stay_near s out l low fit o after t u v steady hard n does in
            let same : first.state ≡ x.state = does_one s.place (form_of l) t first.state x.state o first.does x.does in
            record { state = x.state; does = x.does; bytes = subst IsBytes same first.bytes; near = x.near }
        by (inr r) =
            subst (λ (x : Line). Answered x after t v) (sym r.1) (run r.0 (subst (λ (x : Line). IsSteady s x t) r.1 steady) (subst (λ (x : Line). Near (before out x after) t u) r.1 n) (subst (λ (x : Line). Does s.place (form_of x) u v) r.1 does)
            first.state (subst (λ (x : Line). Does s.place (form_of x) t first.state) r.1 first.does) first.bytes (above first.state first.does first.bytes))
