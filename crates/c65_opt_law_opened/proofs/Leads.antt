-- Lines behind one another that lead steadily to what holds behind them.
use Rattle.std.proofs.Common.{◌≡◌, ℕ, suc, ◌+◌, ◌≤◌, List, [], ◌∷◌, ◌++◌, length, Some, refl, sym, subst, ap, ◌∙◌, arith}
use Rattle.c65_mach.specs.declared.rows.Op.{Op}
use Rattle.c65_mach.specs.declared.rows.Op.TheVariants as ops
use Rattle.c65_mach.specs.declared.rows.Mode.{Mode}
use Rattle.c65_mach.specs.declared.rows.Mode.TheVariants.{Implied, Accumulator, Immediate}
use Rattle.c65_mach.specs.Step.{Kind, Reads, Changes, Registers, kind_of, with_a}
use Rattle.c65_code.specs.declared.line.Line.{Line}
use Rattle.c65_code.specs.declared.line.Line.TheVariants.{Do}
use Rattle.c65_code.specs.declared.line.Operand.{Operand}
use Rattle.c65_code.specs.declared.line.Operand.TheVariants.{Nothing, Byte}
use Rattle.c65_code.specs.Forms.{Form, Plain, op_form, form_of}
use Rattle.c65_code.specs.LineState.{State, sp_of, s_of, IsBytes}
use Rattle.c65_code.specs.Moves.{Does, ref_of, effect}
use Rattle.c65_code.specs.Placement.{Setting, word_of}
use Rattle.c65_code.specs.Steady.{IsCalm, IsAllowed, IsSteady, IsWithin}
use Rattle.c65_pass.specs.Registers.{alone}
use Rattle.c65_opt_law_follow.specs.Windows.{WayOut, Behind, IsPassed, weight_of, Way, ends, goes, jumps, branches, passes, Safe, safe_end, safe_line}

-- a line that is passed steadily, and behind which something holds of what is left of a weight
pub record Passes (s : Setting) (line : Line) (w : ℕ) (t : State) (Then : ℕ → State → Type 0) : Type 0 where
  pub passed : IsPassed (form_of line)
  pub steady : IsSteady s line t
  pub rest : ℕ
  pub enough : weight_of (form_of line) t + rest ≤ w
  pub next : (u : State) → Does s.place (form_of line) t u → IsBytes u → Then rest u

module _ (s : Setting) (P : State → Type 0) where
  -- the lines are passed within a weight, and P holds behind them
  abbrev pub Leads : List Line → ℕ → State → Type 0
  Leads [] w t = P t
  Leads (line ∷ lines) w t = Passes s line w t (Leads lines)

  pub leads_safe : (lines : List Line) (n w : ℕ) (t : State) → n ≤ w → Leads lines n t → Safe s lines w t
  leads_safe [] n w t le h = safe_end
  leads_safe (line ∷ lines) n w t le h = safe_line {v = h.rest} h.passed h.steady (omega (arith, h.enough, le)) (λ u d b. leads_safe lines h.rest h.rest u (omega arith) (h.next u d b))

  -- where ways through them lead
  pub record IsLed (w : ℕ) (e : WayOut) (u : State) (c : ℕ) : Type 0 where
    pub behind : e ≡ Behind
    pub holds : P u
    pub bytes : IsBytes u
    pub within : c ≤ w

  pub leads_through : (lines : List Line) (w : ℕ) (t : State) (e : WayOut) (u : State) (c : ℕ) → Leads lines w t → IsBytes t → Way s.place lines t e u c → IsLed w e u c
  leads_through [] w t e u c h bytes ends = record { behind = refl; holds = h; bytes = bytes; within = omega arith }
  leads_through (line ∷ lines) w t e u c h bytes (goes {u = m} {w = v} i d b way) =
      let later : IsLed h.rest e u v = leads_through lines h.rest m e u v (h.next m d b) b way in
      record { behind = later.behind; holds = later.holds; bytes = later.bytes; within = omega (arith, later.within, h.enough) }
  leads_through (line ∷ lines) w t e u c h bytes (jumps l f) = absurd (subst IsPassed f h.passed)
  leads_through (line ∷ lines) w t e u c h bytes (branches op l f z) = absurd (subst IsPassed f h.passed)
  leads_through (line ∷ lines) w t e u c h bytes (passes op l f z way) = absurd (subst IsPassed f h.passed)

module _ (s : Setting) where
  -- an operation that is passed, and that leaves both stacks and constant bytes
  pub record Passable (kind : Kind) (op : Op) (mode : Mode) (operand : Operand) (t : State) : Type 0 where
    pub form : op_form kind op mode operand ≡ Plain op mode operand
    pub allowed : IsAllowed s.place kind (ref_of mode (word_of s.place operand) t) t
    pub sp : sp_of (effect kind op mode (word_of s.place operand) t) ≡ sp_of t
    pub depth : s_of (effect kind op mode (word_of s.place operand) t) ≡ s_of t
    pub constant : (b v : ℕ) → s.place.constant b ≡ Some v → t.mem b ≡ v → (effect kind op mode (word_of s.place operand) t).mem b ≡ v

  -- the state behind operations, one after the other
  abbrev pub behind : List Line → State → State
  behind [] t = t
  behind (Do op mode operand ∷ lines) t = behind lines (effect (kind_of op) op mode (word_of s.place operand) t)
  behind (line ∷ lines) t = behind lines t

  abbrev pub AllPassable : List Line → State → Type 0
  AllPassable [] t = Unit {0}
  AllPassable (Do op mode operand ∷ lines) t = Passable (kind_of op) op mode operand t × AllPassable lines (effect (kind_of op) op mode (word_of s.place operand) t)
  AllPassable _ t = ⊥

  pub calm_on : (t u : State) → IsCalm s t → sp_of u ≡ sp_of t → s_of u ≡ s_of t → ((b v : ℕ) → s.place.constant b ≡ Some v → t.mem b ≡ v → u.mem b ≡ v) → IsBytes u → IsCalm s u
  calm_on t u calm sp depth constant bytes = record {
    low = omega (arith, calm.low, sp);
    high = omega (arith, calm.high, sp);
    hard = omega (arith, calm.hard, depth);
    constant = λ b v e. constant b v e (calm.constant b v e);
    bytes = bytes;
  }

  -- a few lines of operations that lead to what holds
  pub record IsPassedTo (lines : List Line) (t : State) (Holds : State → Type 0) : Type 0 where
    pub few : length lines ≤ 32
    pub passable : AllPassable lines t
    pub holds : Holds (behind lines t)

  module _ (P : State → Type 0) where
    -- operations, and then other lines
    pub leads_on : (xs ys : List Line) (w : ℕ) (t : State) → AllPassable xs t → IsCalm s t → (IsCalm s (behind xs t) → Leads s P ys w (behind xs t)) → Leads s P (xs ++ ys) (length xs + w) t
    leads_on [] ys w t all calm then = let same : w ≡ length {A = Line} [] + w = omega arith in subst (λ (n : ℕ). Leads s P ys n t) same (then calm)
    leads_on (Do op mode operand ∷ xs) ys w t all calm then =
        let form : form_of (Do op mode operand) ≡ Plain op mode operand = all.0.form in
        let to : State = effect (kind_of op) op mode (word_of s.place operand) t in
        record {
          passed = subst IsPassed (sym form) tt;
          steady = record { calm = calm; within = subst (λ (f : Form). IsWithin s f t) (sym form) all.0.allowed };
          rest = length xs + w;
          enough = subst (λ (f : Form). weight_of f t + (length xs + w) ≤ suc (length xs) + w) (sym form) (omega arith);
          next = λ u d b.
              let same : u ≡ to = subst (λ (f : Form). Does s.place f t u) form d in
              subst (Leads s P (xs ++ ys) (length xs + w)) (sym same) (leads_on xs ys w to all.1 (calm_on t to calm all.0.sp all.0.depth all.0.constant (subst IsBytes same b)) then);
        }
    leads_on (line ∷ xs) ys w t all calm then = absurd all

    -- ---- page 1

    abbrev pub a_pushed : State → State
    a_pushed t = record t { pushed = t.regs.a ∷ t.pushed }

    abbrev pub a_pulled : ℕ → List ℕ → State → State
    a_pulled v rest t = record t { regs = with_a v t.regs; pushed = rest }

    pub leads_push : (lines : List Line) (w : ℕ) (t : State) → IsCalm s t → 4 ≤ s_of t → (IsCalm s (a_pushed t) → Leads s P lines w (a_pushed t)) → Leads s P (alone ops.Pha ∷ lines) (1 + w) t
    leads_push lines w t calm room then = record {
      passed = tt;
      steady = record { calm = calm; within = tt };
      rest = w;
      enough = omega arith;
      next = λ u d b. subst (Leads s P lines w) (sym d) (then (record { low = calm.low; high = calm.high; hard = omega (arith, room); constant = calm.constant; bytes = subst IsBytes d b }));
    }

    pub leads_pull : (lines : List Line) (w : ℕ) (t : State) (v : ℕ) (rest : List ℕ) → t.pushed ≡ v ∷ rest → IsCalm s t → (IsCalm s (a_pulled v rest t) → Leads s P lines w (a_pulled v rest t)) → Leads s P (alone ops.Pla ∷ lines) (1 + w) t
    leads_pull lines w t v rest e calm then = record {
      passed = tt;
      steady = record { calm = calm; within = (v, rest, e) };
      rest = w;
      enough = omega arith;
      next = λ u d b.
          let same : v ∷ rest ≡ d.0 ∷ d.1 = sym e ∙ d.2 in
          let first : d.0 ≡ v = cc in
          let others : d.1 ≡ rest = cc in
          let to : u ≡ a_pulled v rest t = d.3 ∙ (ap (λ (x : ℕ). a_pulled x d.1 t) first ∙ ap (λ (x : List ℕ). a_pulled v x t) others) in
          subst (Leads s P lines w) (sym to) (then (record { low = calm.low; high = calm.high; hard = omega (arith, calm.hard, ap length e); constant = calm.constant; bytes = subst IsBytes to b }));
    }

  -- ---- operations on registers and the zero page

  pub registers : (op : Op) (t : State) → Passable Registers op Implied Nothing t
  registers op t = record { form = refl; allowed = tt; sp = refl; depth = refl; constant = λ b v e h. h }

  pub immediate : (op : Op) (o : Operand) (t : State) → Passable Reads op Immediate o t
  immediate op o t = record { form = refl; allowed = tt; sp = refl; depth = refl; constant = λ b v e h. h }

  pub number : (op : Op) (v : ℕ) (t : State) → Passable Reads op Immediate (Byte v) t
  number op v t = record { form = refl; allowed = tt; sp = refl; depth = refl; constant = λ b v e h. h }

  pub accumulator : (op : Op) (t : State) → Passable Changes op Accumulator Nothing t
  accumulator op t = record { form = refl; allowed = tt; sp = refl; depth = refl; constant = λ b v e h. h }
