-- Each line that stays within its bounds is followed by one row or two.
use Rattle.std.proofs.Common.{◌≡◌, ℕ, suc, ◌+◌, ◌<◌, ◌≤◌, ◌&&◌, ◌⊎◌, inl, inr, Bool, true, false, not, if◌then◌else◌, List, [], ◌∷◌, Option, Some, None, unwrap_or, slice_get, slice_index, ap, sym, refl, subst, ◌∙◌, arith}
use Rattle.std.proofs.lemmas.Bool.{and_parts, or_cases}
use Rattle.c65_base.specs.declared.options.Cpu.{Cpu}
use Rattle.c65_base.specs.declared.options.Cpu.TheVariants.{Nmos, Cmos}
use Rattle.c65_mach.specs.declared.rows.Op.{Op}
use Rattle.c65_mach.specs.declared.rows.Op.TheVariants as ops
use Rattle.c65_mach.specs.declared.rows.Mode.{Mode}
use Rattle.c65_mach.specs.declared.rows.Mode.TheVariants.{Implied, Accumulator, Absolute, Indirect, Relative}
use Rattle.c65_mach.specs.Step.{size_of, branched, is_taken, Kind, Reads, Stores, Changes, Branches, Registers, Moves, kind_of, with_a}
use Rattle.c65_mach.specs.Run.{Setting, Moment}
use Rattle.c65_code.specs.declared.routine.Routine.{Routine}
use Rattle.c65_code.specs.declared.routine.Routine.TheVariants as routines
use Rattle.c65_code.specs.declared.line.Sym.{Sym}
use Rattle.c65_code.specs.declared.line.Operand.{Operand}
use Rattle.c65_code.specs.declared.line.Operand.TheVariants as operands
use Rattle.c65_code.specs.declared.line.Callee.{Callee}
use Rattle.c65_code.specs.declared.line.Callee.TheVariants as callees
use Rattle.c65_code.specs.declared.line.Line.{Line}
use Rattle.c65_code.specs.declared.line.Line.TheVariants.{Label, Do, Call}
use Rattle.c65_code.specs.LineState.{Place, State, Frame, s_of, zero_word}
use Rattle.c65_code.specs.Placement.{Placement, word_of, stack_start}
use Rattle.c65_code.specs.Segments.{is_nmos_row, is_added_row, has_row, is_barred, takes, is_implied}
use Rattle.c65_code.specs.Forms.{Form, Plain, Branch, Jump, Far, Push, Pull, Depth, Return, Run, Enter, Through, op_form, move_form, jump_form, branch_form, callee_form, form_of}
use Rattle.c65_code.specs.Rows.{Row}
use Rattle.c65_code.specs.Moves.{ref_of, effect, labelled, settle, next}
use Rattle.c65_code.specs.RawMachine.{RawSetting, Bounds, IsRawOpen, HasFrame, IsHookWithin, IsRawWithin, RawGoes, RawRuns, RawReturns, raw_weight, hook_row, called, line_after, entry_of, target_of}
use Rattle.c65_link.specs.Opcodes.{opcode_of, opposite_of}
use Rattle.c65_link.specs.Bytes.{Spot, instruction, operand_bytes, word_bytes, callee_address}
use Rattle.c65_link.specs.Symbols.{operand_symbol}
use Rattle.c65_link.proofs.TableLaws.{opposites_differ}
use Rattle.c65_link_law.specs.Coded.{Memory, Stands, label_at, word_at, IsBranch, short, long, IsInstruction}
use Rattle.c65_link_law_follow.specs.Agree.{Ground, Agrees, none, more, IsInside, Arrives}
use Rattle.c65_link_law_follow.specs.Laid.{IsLaid, IsGround, IsLineOf, IsOperandNumber, hook_address}
use Rattle.c65_link_law_follow.specs.Laws.{IsNoHook, IsCounted, LinesAreFollowed}
use Rattle.c65_link_law_follow.proofs.Rows.{HasRowOn, rowed, both_have, row_on, opposite_row}
use Rattle.c65_link_law_follow.proofs.Bytes.{Here, Moved, moved_to, HasOperand}
use Rattle.c65_link_law_follow.proofs.Fits.{IsStorable, reads_fit, stores_fit, changes_fit, registers_fit, IsGiven, given, operand_word}
use Rattle.c65_link_law_follow.proofs.Local.{Given_, do_reads, do_stores, do_changes, do_accumulator, do_registers, has_operand}
use Rattle.c65_link_law_follow.proofs.Stack.{jumps, fars, branch_row, do_push, enters, returns, last_return, do_pull, do_depth}

-- one row
one : (g : Ground) (setting : Setting) (most : ℕ) (now : Moment) (Later : ℕ → Type 0) (Q : Place → State → Type 0) (q : Place) (u : State) → 1 ≤ most → Q q u → Moved g setting (g.at q) u now → Arrives g setting most now Later Q
one g setting most now Later Q q u le h m = record {
  rows = 1;
  least = omega arith;
  within = le;
  then_at = m.next;
  place = q;
  state = u;
  holds = h;
  goes = more m.turn_is m.free (inl refl) none;
  agrees = m.agrees;
}

-- What a line's instruction is, where it is no branch

is_plain : (mode : Mode) (m : Memory) (spot : Spot) (at next : ℕ) (op : Op) (operand : Operand) → (mode ≡ Relative → ⊥) → IsInstruction m spot at next op mode operand → Stands m at (instruction op mode (word_at spot operand)) × (next ≡ at + size_of mode)
is_plain Relative m spot at next op operand h c = absurd (h refl)
is_plain _ m spot at next op operand h c = c

-- a line as it stands: its fitness, its bytes, and that the processor has its row
record Stood (g : Ground) (s : RawSetting) (f p : ℕ) (spot : Spot) (op : Op) (mode : Mode) (operand : Operand) : Type 0 where
  row : has_row op mode ≡ true
  own : HasRowOn g.cpu op mode
  fits : takes op mode operand ≡ true
  number : IsOperandNumber operand
  coded : IsInstruction g.byte spot (g.at (f, p)) (g.at (f, suc p)) op mode operand
  symbols : (sym : Sym) → operand_symbol operand ≡ Some sym → slice_index spot.symbols sym.0 ≡ g.place.address sym.0

own_by : (cpu : Cpu) (op : Op) (mode : Mode) (operand : Operand) → IsLineOf cpu (Do op mode operand) → cpu ≡ Nmos → not (is_added_row op mode) ≡ true
own_by Nmos op mode operand h e = h
own_by Cmos op mode operand h e = absurd cc

stood : (g : Ground) (s : RawSetting) (f p : ℕ) (op : Op) (mode : Mode) (operand : Operand) → (laid : IsLaid g s f) → slice_get (s.lines f) p ≡ Some (Do op mode operand) → Stood g s f p laid.spot op mode operand
stood g s f p op mode operand laid here =
    let fit = and_parts (has_row op mode) (takes op mode operand && not (is_barred op)) (laid.fit p (Do op mode operand) here) in
    let rest = and_parts (takes op mode operand) (not (is_barred op)) fit.1 in
    record {
      row = fit.0;
      own = row_on g.cpu op mode fit.0 (own_by g.cpu op mode operand (laid.own p (Do op mode operand) here));
      fits = rest.0;
      number = laid.numbers p (Do op mode operand) here;
      coded = laid.coded p (Do op mode operand) here;
      symbols = λ sym e. laid.symbols p (Do op mode operand) sym here e;
    }

here_at : (g : Ground) (s : RawSetting) (at to : ℕ) (op : Op) (mode : Mode) → IsGround g s → HasRowOn g.cpu op mode → g.byte at ≡ opcode_of op mode → 512 ≤ at → at + size_of mode ≤ to → to ≤ g.end → Here g at op mode
here_at g s at to op mode ground own byte from le high = record {
  opcode = byte;
  row = rowed g.cpu op mode own;
  from = from;
  to = omega (arith, le, high);
  high = ground.high;
}

same_or_more : (at to n : ℕ) → to ≡ at + n → at + n ≤ to
same_or_more at to n e = omega (arith, e)

-- Lines of registers and memory

not_relative : (mode : Mode) → HasOperand mode → mode ≡ Relative → ⊥
not_relative mode has e = subst HasOperand e has

given_there : (g : Ground) (s : RawSetting) (bounds : Bounds) (f p : ℕ) (op : Op) (mode : Mode) (operand : Operand) (t : State) → IsGround g s → (laid : IsLaid g s f) → Stood g s f p laid.spot op mode operand → (kind_of op ≡ Moves → ⊥) → HasOperand mode
    → IsRawOpen g.place bounds (ref_of mode (word_of g.place operand) t) → Given_ g bounds (g.at (f, p)) (g.at (f, suc p)) op mode (word_of g.place operand) t
given_there g s bounds f p op mode operand t ground laid st k has is_open =
    let c = is_plain mode g.byte laid.spot (g.at (f, p)) (g.at (f, suc p)) op operand (not_relative mode has) st.coded in
    let it : IsGiven mode operand = given op mode operand k has st.fits st.number in
    let word : word_at laid.spot operand ≡ word_of g.place operand = operand_word g.place laid.spot operand st.symbols it.plain in
    record {
      here = here_at g s (g.at (f, p)) (g.at (f, suc p)) op mode ground st.own c.0.0 (ground.from (f, p)) (same_or_more (g.at (f, p)) (g.at (f, suc p)) (size_of mode) c.1) (ground.to (f, suc p));
      rest = subst (λ (w : ℕ). Stands g.byte (g.at (f, p) + 1) (operand_bytes mode w)) word c.0.1;
      small = it.small g.place;
      is_open = is_open;
      next = c.1;
      rows = st.row;
    }

no_move : (op : Op) (k : Kind) → kind_of op ≡ k → (k ≡ Moves → ⊥) → kind_of op ≡ Moves → ⊥
no_move op k is other e = other (sym is ∙ e)

accumulator_line : (g : Ground) (s : RawSetting) (setting : Setting) (f p : ℕ) (op : Op) (mode : Mode) (operand : Operand) (t : State) (now : Moment) → IsGround g s → (laid : IsLaid g s f) → Stood g s f p laid.spot op mode operand → kind_of op ≡ Changes → mode ≡ Accumulator
    → Agrees g (g.at (f, p)) t now → Moved g setting (g.at (f, suc p)) (effect Changes op mode (word_of g.place operand) t) now
accumulator_line g s setting f p op mode operand t now ground laid st k is a =
    let c = is_plain mode g.byte laid.spot (g.at (f, p)) (g.at (f, suc p)) op operand (λ e. (let z : ◌≡◌ {A = Mode} Accumulator Relative = sym is ∙ e in absurd cc)) st.coded in
    let h : Here g (g.at (f, p)) op mode = here_at g s (g.at (f, p)) (g.at (f, suc p)) op mode ground st.own c.0.0 (ground.from (f, p)) (same_or_more (g.at (f, p)) (g.at (f, suc p)) (size_of mode) c.1) (ground.to (f, suc p)) in
    let size : size_of mode ≡ 1 = ap size_of is in let after_it = c.1 in
    subst (λ (d : Mode). Moved g setting (g.at (f, suc p)) (effect Changes op d (word_of g.place operand) t) now) (sym is)
    (do_accumulator g setting (g.at (f, p)) (g.at (f, suc p)) op (word_of g.place operand) t now a k (subst (λ (d : Mode). Here g (g.at (f, p)) op d) is h) (omega (arith, size, after_it)))

register_line : (g : Ground) (s : RawSetting) (setting : Setting) (f p : ℕ) (op : Op) (mode : Mode) (operand : Operand) (t : State) (now : Moment) → IsGround g s → (laid : IsLaid g s f) → Stood g s f p laid.spot op mode operand → kind_of op ≡ Registers
    → Agrees g (g.at (f, p)) t now → Moved g setting (g.at (f, suc p)) (effect Registers op mode (word_of g.place operand) t) now
register_line g s setting f p op mode operand t now ground laid st k a =
    let is : mode ≡ Implied = registers_fit op mode k st.row in
    let c = is_plain mode g.byte laid.spot (g.at (f, p)) (g.at (f, suc p)) op operand (λ e. (let z : ◌≡◌ {A = Mode} Implied Relative = sym is ∙ e in absurd cc)) st.coded in
    let h : Here g (g.at (f, p)) op mode = here_at g s (g.at (f, p)) (g.at (f, suc p)) op mode ground st.own c.0.0 (ground.from (f, p)) (same_or_more (g.at (f, p)) (g.at (f, suc p)) (size_of mode) c.1) (ground.to (f, suc p)) in
    do_registers g setting (g.at (f, p)) (g.at (f, suc p)) op mode (word_of g.place operand) t now a k h c.1

-- the kinds of plain lines
data IsPlainKind : Kind → Type 0 where
  it_reads : IsPlainKind Reads
  it_stores : IsPlainKind Stores
  it_changes : IsPlainKind Changes
  it_registers : IsPlainKind Registers

plain_line : (g : Ground) (s : RawSetting) (setting : Setting) (bounds : Bounds) (f p : ℕ) (k : Kind) (op : Op) (mode : Mode) (operand : Operand) (t : State) (now : Moment) → IsGround g s → (laid : IsLaid g s f) → stack_start ≤ bounds.soft
    → Stood g s f p laid.spot op mode operand → IsPlainKind k → kind_of op ≡ k → IsRawOpen g.place bounds (ref_of mode (word_of g.place operand) t)
    → Agrees g (g.at (f, p)) t now → Moved g setting (g.at (f, suc p)) (effect k op mode (word_of g.place operand) t) now
plain_line g s setting bounds f p _ op mode operand t now ground laid soft st it_reads k is_open a =
    let has : HasOperand mode = reads_fit op mode k st.row in
    do_reads g s setting bounds (g.at (f, p)) (g.at (f, suc p)) op mode (word_of g.place operand) t now ground soft a k has (given_there g s bounds f p op mode operand t ground laid st (no_move op Reads k (λ e. absurd cc)) has is_open)
plain_line g s setting bounds f p _ op mode operand t now ground laid soft st it_stores k is_open a =
    let fits : IsStorable mode = stores_fit op mode k st.row in
    do_stores g s setting bounds (g.at (f, p)) (g.at (f, suc p)) op mode (word_of g.place operand) t now ground soft a k fits (given_there g s bounds f p op mode operand t ground laid st (no_move op Stores k (λ e. absurd cc)) (has_operand mode fits) is_open)
plain_line g s setting bounds f p _ op mode operand t now ground laid soft st it_changes k is_open a = by (changes_fit op mode k st.row)
  where
    by : (mode ≡ Accumulator) ⊎ IsStorable mode → Moved g setting (g.at (f, suc p)) (effect Changes op mode (word_of g.place operand) t) now
    by (inl is) = accumulator_line g s setting f p op mode operand t now ground laid st k is a
    by (inr fits) = do_changes g s setting bounds (g.at (f, p)) (g.at (f, suc p)) op mode (word_of g.place operand) t now ground soft a k fits (given_there g s bounds f p op mode operand t ground laid st (no_move op Changes k (λ e. absurd cc)) (has_operand mode fits) is_open)
plain_line g s setting bounds f p _ op mode operand t now ground laid soft st it_registers k is_open a = register_line g s setting f p op mode operand t now ground laid st k a

-- its place and state
plain_goes : (g : Ground) (s : RawSetting) (setting : Setting) (f p : ℕ) (k : Kind) (op : Op) (mode : Mode) (operand : Operand) (t : State) (now : Moment) → IsGround g s → (laid : IsLaid g s f) → kind_of op ≡ k
    → Moved g setting (g.at (f, suc p)) (effect k op mode (word_of g.place operand) t) now → Arrives g setting 1 now (IsInside g (f, p)) (RawGoes s (Plain op mode operand) (f, p) t)
plain_goes g s setting f p k op mode operand t now ground laid is m =
    one g setting 1 now (IsInside g (f, p)) (RawGoes s (Plain op mode operand) (f, p) t) (f, settle (s.lines f) (suc p)) (effect k op mode (word_of g.place operand) t) (omega arith)
    (refl, ap (λ (x : Kind). effect x op mode (word_of g.place operand) t) (sym is) ∙ ap (λ (x : Placement). effect (kind_of op) op mode (word_of x operand) t) (sym ground.place))
    (moved_to g setting (g.at (f, suc p)) (g.at (f, settle (s.lines f) (suc p))) _ now (sym (laid.settled (suc p))) m)

-- Branches

branches_fit : (op : Op) (mode : Mode) → kind_of op ≡ Branches → is_nmos_row op mode ≡ true → mode ≡ Relative
branches_fit ops.Bcc Relative k h = refl
branches_fit ops.Bcs Relative k h = refl
branches_fit ops.Beq Relative k h = refl
branches_fit ops.Bmi Relative k h = refl
branches_fit ops.Bne Relative k h = refl
branches_fit ops.Bpl Relative k h = refl
branches_fit ops.Bvc Relative k h = refl
branches_fit ops.Bvs Relative k h = refl
branches_fit _ _ k h = absurd cc

no_added : (op : Op) (mode : Mode) → kind_of op ≡ Branches → is_added_row op mode ≡ true → ⊥
no_added ops.Bcc mode k h = absurd cc
no_added ops.Bcs mode k h = absurd cc
no_added ops.Beq mode k h = absurd cc
no_added ops.Bmi mode k h = absurd cc
no_added ops.Bne mode k h = absurd cc
no_added ops.Bpl mode k h = absurd cc
no_added ops.Bra mode k h = absurd cc
no_added ops.Bvc mode k h = absurd cc
no_added ops.Bvs mode k h = absurd cc
no_added _ mode k h = absurd cc

branch_nmos : (op : Op) (mode : Mode) → kind_of op ≡ Branches → has_row op mode ≡ true → is_nmos_row op mode ≡ true
branch_nmos op mode k h = by (or_cases (is_nmos_row op mode) (is_added_row op mode) h)
  where
    by : (is_nmos_row op mode ≡ true) ⊎ (is_added_row op mode ≡ true) → is_nmos_row op mode ≡ true
    by (inl e) = e
    by (inr e) = absurd (no_added op mode k e)

opposite_kind : (op : Op) → kind_of op ≡ Branches → is_nmos_row op Relative ≡ true → kind_of (opposite_of op) ≡ Branches
opposite_kind ops.Bcc k h = refl
opposite_kind ops.Bcs k h = refl
opposite_kind ops.Beq k h = refl
opposite_kind ops.Bmi k h = refl
opposite_kind ops.Bne k h = refl
opposite_kind ops.Bpl k h = refl
opposite_kind ops.Bvc k h = refl
opposite_kind ops.Bvs k h = refl
opposite_kind _ k h = absurd cc

-- where a branch leads
abbrev branch_place : RawSetting → ℕ → ℕ → ℕ → Bool → Place
branch_place s f p l b = (f, settle (s.lines f) (if b then labelled (s.lines f) l else suc p))

branch_goes : (g : Ground) (s : RawSetting) (setting : Setting) (f p : ℕ) (op : Op) (l : ℕ) (t : State) (now : Moment) (b : Bool) → is_taken op t.regs ≡ b → Moved g setting (g.at (branch_place s f p l b)) t now → Arrives g setting 2 now (IsInside g (f, p)) (RawGoes s (Branch op l) (f, p) t)
branch_goes g s setting f p op l t now b e m =
    one g setting 2 now (IsInside g (f, p)) (RawGoes s (Branch op l) (f, p) t) (branch_place s f p l b) t (omega arith) (ap (branch_place s f p l) (sym e), refl) m

short_line : (g : Ground) (s : RawSetting) (setting : Setting) (f p : ℕ) (op : Op) (l : ℕ) (t : State) (now : Moment) (b : Bool) → (laid : IsLaid g s f) → is_taken op t.regs ≡ b → kind_of op ≡ Branches → Here g (g.at (f, p)) op Relative
    → branched (g.at (f, p) + 2) (g.byte (g.at (f, p) + 1)) ≡ g.at (f, labelled (s.lines f) l) → g.at (f, suc p) ≡ g.at (f, p) + 2 → Agrees g (g.at (f, p)) t now → Arrives g setting 2 now (IsInside g (f, p)) (RawGoes s (Branch op l) (f, p) t)
short_line g s setting f p op l t now true laid e k h reach after_it a =
    branch_goes g s setting f p op l t now true e (branch_row g setting (g.at (f, p)) (g.at (branch_place s f p l true)) op t now true a k h e (laid.settled (labelled (s.lines f) l) ∙ sym reach))
short_line g s setting f p op l t now false laid e k h reach after_it a =
    branch_goes g s setting f p op l t now false e (branch_row g setting (g.at (f, p)) (g.at (branch_place s f p l false)) op t now false a k h e (laid.settled (suc p) ∙ after_it))

-- the opposite branch round a jump
over : (at : ℕ) → at + 5 ≤ 65535 → branched (at + 2) 3 ≡ at + 5
over at h = omega (arith, h)

long_line : (g : Ground) (s : RawSetting) (setting : Setting) (f p : ℕ) (op : Op) (l : ℕ) (t : State) (now : Moment) (b : Bool) → IsGround g s → (laid : IsLaid g s f) → is_taken op t.regs ≡ b → kind_of op ≡ Branches → is_nmos_row op Relative ≡ true
    → Stands g.byte (g.at (f, p)) (opcode_of (opposite_of op) Relative ∷ 3 ∷ opcode_of ops.Jmp Absolute ∷ word_bytes (g.at (f, labelled (s.lines f) l))) → g.at (f, suc p) ≡ g.at (f, p) + 5
    → (has_row op Relative ≡ true) → Agrees g (g.at (f, p)) t now → Arrives g setting 2 now (IsInside g (f, p)) (RawGoes s (Branch op l) (f, p) t)
long_line g s setting f p op l t now false ground laid e k nmos c after_it rows a =
    let at : ℕ = g.at (f, p) in
    let high = ground.high in let upto = ground.to (f, suc p) in
    let h : Here g at (opposite_of op) Relative = here_at g s at (g.at (f, suc p)) (opposite_of op) Relative ground (both_have g.cpu (opposite_of op) Relative (opposite_row op nmos)) c.0 (ground.from (f, p)) (omega (arith, after_it)) upto in
    let taken : is_taken (opposite_of op) t.regs ≡ true = opposites_differ op t.regs rows ∙ ap not e in
    let reach : branched (at + 2) (g.byte (at + 1)) ≡ at + 5 = ap (branched (at + 2)) c.1.0 ∙ over at (omega (arith, after_it, upto, high)) in
    branch_goes g s setting f p op l t now false e (branch_row g setting at (g.at (branch_place s f p l false)) (opposite_of op) t now true a (opposite_kind op k nmos) h taken (laid.settled (suc p) ∙ after_it ∙ sym reach))
long_line g s setting f p op l t now true ground laid e k nmos c after_it rows a =
    let at : ℕ = g.at (f, p) in
    let high = ground.high in let upto = ground.to (f, suc p) in let from = ground.from (f, p) in
    let h : Here g at (opposite_of op) Relative = here_at g s at (g.at (f, suc p)) (opposite_of op) Relative ground (both_have g.cpu (opposite_of op) Relative (opposite_row op nmos)) c.0 from (omega (arith, after_it)) upto in
    let taken : is_taken (opposite_of op) t.regs ≡ false = opposites_differ op t.regs rows ∙ ap not e in
    let two : at + 1 + 1 ≡ at + 2 = omega arith in
    let first : Moved g setting (at + 1 + 1) t now = branch_row g setting at (at + 1 + 1) (opposite_of op) t now false a (opposite_kind op k nmos) h taken two in
    let j : Here g (at + 1 + 1) ops.Jmp Absolute = here_at g s (at + 1 + 1) (g.at (f, suc p)) ops.Jmp Absolute ground (both_have g.cpu ops.Jmp Absolute refl) c.1.1.0 (omega (arith, from)) (omega (arith, after_it)) upto in
    let second : Moved g setting (g.at (f, labelled (s.lines f) l)) t first.next = jumps g setting (at + 1 + 1) (g.at (f, labelled (s.lines f) l)) t first.next first.agrees j c.1.1.1 in
    let there : Moved g setting (g.at (branch_place s f p l true)) t first.next = moved_to g setting (g.at (f, labelled (s.lines f) l)) (g.at (branch_place s f p l true)) t first.next (sym (laid.settled (labelled (s.lines f) l))) second in
    record {
      rows = 2;
      least = omega arith;
      within = omega arith;
      then_at = there.next;
      place = branch_place s f p l true;
      state = t;
      holds = (ap (branch_place s f p l) (sym e), refl);
      goes = (let pc = first.agrees.pc in more {o = there.next} first.turn_is first.free (inl refl) (more {o = there.next} there.turn_is there.free (inr (omega (arith, pc), omega (arith, pc, after_it))) none));
      agrees = there.agrees;
    }

branch_by : (g : Ground) (s : RawSetting) (setting : Setting) (f p : ℕ) (op : Op) (l : ℕ) (t : State) (now : Moment) → IsGround g s → (laid : IsLaid g s f) → kind_of op ≡ Branches → has_row op Relative ≡ true → is_nmos_row op Relative ≡ true
    → label_at laid.spot l ≡ g.at (f, labelled (s.lines f) l) → IsBranch g.byte op (g.at (f, p)) (g.at (f, suc p)) (label_at laid.spot l) → Agrees g (g.at (f, p)) t now → Arrives g setting 2 now (IsInside g (f, p)) (RawGoes s (Branch op l) (f, p) t)
branch_by g s setting f p op l t now ground laid k rows nmos label (short byte reach after_it) a =
    let h : Here g (g.at (f, p)) op Relative = here_at g s (g.at (f, p)) (g.at (f, suc p)) op Relative ground (both_have g.cpu op Relative nmos) byte (ground.from (f, p)) (omega (arith, after_it)) (ground.to (f, suc p)) in
    short_line g s setting f p op l t now (is_taken op t.regs) laid refl k h (reach ∙ label) after_it a
branch_by g s setting f p op l t now ground laid k rows nmos label (long bytes after_it) a =
    long_line g s setting f p op l t now (is_taken op t.regs) ground laid refl k nmos
    (subst (λ (n : ℕ). Stands g.byte (g.at (f, p)) (opcode_of (opposite_of op) Relative ∷ 3 ∷ opcode_of ops.Jmp Absolute ∷ word_bytes n)) label bytes) after_it rows a

branch_line : (g : Ground) (s : RawSetting) (setting : Setting) (f p : ℕ) (op : Op) (mode : Mode) (l : ℕ) (t : State) (now : Moment) → IsGround g s → (laid : IsLaid g s f) → slice_get (s.lines f) p ≡ Some (Do op mode (operands.To l)) → kind_of op ≡ Branches
    → Agrees g (g.at (f, p)) t now → Arrives g setting 2 now (IsInside g (f, p)) (RawGoes s (Branch op l) (f, p) t)
branch_line g s setting f p op mode l t now ground laid here k a =
    let st : Stood g s f p laid.spot op mode (operands.To l) = stood g s f p op mode (operands.To l) laid here in
    let nmos : is_nmos_row op mode ≡ true = branch_nmos op mode k st.row in
    let is : mode ≡ Relative = branches_fit op mode k nmos in
    let coded : IsInstruction g.byte laid.spot (g.at (f, p)) (g.at (f, suc p)) op Relative (operands.To l) = subst (λ (d : Mode). IsInstruction g.byte laid.spot (g.at (f, p)) (g.at (f, suc p)) op d (operands.To l)) is st.coded in
    branch_by g s setting f p op l t now ground laid k (subst (λ (d : Mode). has_row op d ≡ true) is st.row) (subst (λ (d : Mode). is_nmos_row op d ≡ true) is nmos)
    (laid.labels l (laid.targets p (Do op mode (operands.To l)) here)) coded a

-- Jumps, pushes, pulls and returns

implied_is : (mode : Mode) → is_implied mode ≡ true → mode ≡ Implied
implied_is Implied h = refl
implied_is _ h = absurd cc

jump_line : (g : Ground) (s : RawSetting) (setting : Setting) (f p : ℕ) (l : ℕ) (t : State) (now : Moment) → IsGround g s → (laid : IsLaid g s f) → slice_get (s.lines f) p ≡ Some (Do ops.Jmp Absolute (operands.To l)) → Agrees g (g.at (f, p)) t now
    → Arrives g setting 1 now (IsInside g (f, p)) (RawGoes s (Jump l) (f, p) t)
jump_line g s setting f p l t now ground laid here a =
    let st : Stood g s f p laid.spot ops.Jmp Absolute (operands.To l) = stood g s f p ops.Jmp Absolute (operands.To l) laid here in
    let label : label_at laid.spot l ≡ g.at (f, labelled (s.lines f) l) = laid.labels l (laid.targets p (Do ops.Jmp Absolute (operands.To l)) here) in
    let after_it = st.coded.1 in
    let h : Here g (g.at (f, p)) ops.Jmp Absolute = here_at g s (g.at (f, p)) (g.at (f, suc p)) ops.Jmp Absolute ground st.own st.coded.0.0 (ground.from (f, p)) (omega (arith, after_it)) (ground.to (f, suc p)) in
    let to : label_at laid.spot l ≡ g.at (f, settle (s.lines f) (labelled (s.lines f) l)) = label ∙ sym (laid.settled (labelled (s.lines f) l)) in
    one g setting 1 now (IsInside g (f, p)) (RawGoes s (Jump l) (f, p) t) (f, settle (s.lines f) (labelled (s.lines f) l)) t (omega arith) (refl, refl)
    (jumps g setting (g.at (f, p)) (g.at (f, settle (s.lines f) (labelled (s.lines f) l))) t now a h (subst (λ (n : ℕ). Stands g.byte (g.at (f, p) + 1) (word_bytes n)) to st.coded.0.1))

far_line : (g : Ground) (s : RawSetting) (setting : Setting) (bounds : Bounds) (f p : ℕ) (i : ℕ) (t : State) (now : Moment) → IsGround g s → (laid : IsLaid g s f) → slice_get (s.lines f) p ≡ Some (Do ops.Jmp Indirect (operands.Zero i)) → i < 255 → IsRawWithin s bounds (Far i) t → Agrees g (g.at (f, p)) t now
    → Arrives g setting 1 now (IsInside g (f, p)) (RawGoes s (Far i) (f, p) t)
far_line g s setting bounds f p i t now ground laid here small within a =
    let st : Stood g s f p laid.spot ops.Jmp Indirect (operands.Zero i) = stood g s f p ops.Jmp Indirect (operands.Zero i) laid here in
    let after_it = st.coded.1 in
    let h : Here g (g.at (f, p)) ops.Jmp Indirect = here_at g s (g.at (f, p)) (g.at (f, suc p)) ops.Jmp Indirect ground st.own st.coded.0.0 (ground.from (f, p)) (omega (arith, after_it)) (ground.to (f, suc p)) in
    let callee : ℕ = within.1 in
    let q : Place = entry_of s (target_of s (s.library callee) callee) in
    let to : g.at q ≡ zero_word t i = sym (ground.functions callee within.2) ∙ ap (λ (x : Placement). x.address callee) (sym ground.place) ∙ within.3 in
    one g setting 1 now (IsInside g (f, p)) (RawGoes s (Far i) (f, p) t) q t (omega arith) (callee, within.2, within.3, refl, refl)
    (fars g setting (g.at (f, p)) i (g.at q) t now a h st.coded.0.1 small to)

-- S has room for as many bytes as the machine on lines has
pub room_for : (g : Ground) (s : RawSetting) (at n bound : ℕ) (t : State) (now : Moment) → IsGround g s → Agrees g at t now → bound + n ≤ s_of t → n ≤ now.machine.s
room_for g s at n bound t now ground a le = let sum = a.s in let bottom = ground.bottom in omega (arith, sum, bottom, le)

-- an instruction of one byte
implied_here : (g : Ground) (s : RawSetting) (f p : ℕ) (op : Op) (mode : Mode) (operand : Operand) → IsGround g s → (laid : IsLaid g s f) → (st : Stood g s f p laid.spot op mode operand) → mode ≡ Implied → Here g (g.at (f, p)) op Implied × (g.at (f, suc p) ≡ g.at (f, p) + 1)
implied_here g s f p op mode operand ground laid st is =
    let coded : IsInstruction g.byte laid.spot (g.at (f, p)) (g.at (f, suc p)) op Implied operand = subst (λ (d : Mode). IsInstruction g.byte laid.spot (g.at (f, p)) (g.at (f, suc p)) op d operand) is st.coded in
    let own : HasRowOn g.cpu op Implied = subst (λ (d : Mode). HasRowOn g.cpu op d) is st.own in
    let after_it = coded.1 in
    (here_at g s (g.at (f, p)) (g.at (f, suc p)) op Implied ground own coded.0.0 (ground.from (f, p)) (omega (arith, after_it)) (ground.to (f, suc p)), after_it)

on_next : (g : Ground) (s : RawSetting) (setting : Setting) (f p : ℕ) (u : State) (now : Moment) (form : Form) (t : State) → IsLaid g s f → RawGoes s form (f, p) t (f, settle (s.lines f) (suc p)) u → Moved g setting (g.at (f, suc p)) u now → Arrives g setting 1 now (IsInside g (f, p)) (RawGoes s form (f, p) t)
on_next g s setting f p u now form t laid h m =
    one g setting 1 now (IsInside g (f, p)) (RawGoes s form (f, p) t) (f, settle (s.lines f) (suc p)) u (omega arith) h (moved_to g setting (g.at (f, suc p)) (g.at (f, settle (s.lines f) (suc p))) u now (sym (laid.settled (suc p))) m)

push_line : (g : Ground) (s : RawSetting) (setting : Setting) (bounds : Bounds) (f p : ℕ) (mode : Mode) (operand : Operand) (t : State) (now : Moment) → IsGround g s → (laid : IsLaid g s f) → slice_get (s.lines f) p ≡ Some (Do ops.Pha mode operand) → IsRawWithin s bounds Push t → Agrees g (g.at (f, p)) t now
    → Arrives g setting 1 now (IsInside g (f, p)) (RawGoes s Push (f, p) t)
push_line g s setting bounds f p mode operand t now ground laid here within a =
    let st : Stood g s f p laid.spot ops.Pha mode operand = stood g s f p ops.Pha mode operand laid here in
    let h = implied_here g s f p ops.Pha mode operand ground laid st (implied_is mode (plain_row mode st.row)) in
    on_next g s setting f p (record t { pushed = t.regs.a ∷ t.pushed }) now Push t laid (refl, refl)
    (do_push g setting (g.at (f, p)) (g.at (f, suc p)) t now a ground.page h.0 h.1 (room_for g s (g.at (f, p)) 1 bounds.hard t now ground a within))
  where
    plain_row : (mode : Mode) → has_row ops.Pha mode ≡ true → is_implied mode ≡ true
    plain_row Implied e = refl
    plain_row _ e = absurd cc

pull_line : (g : Ground) (s : RawSetting) (setting : Setting) (bounds : Bounds) (f p : ℕ) (mode : Mode) (operand : Operand) (t : State) (now : Moment) → IsGround g s → (laid : IsLaid g s f) → slice_get (s.lines f) p ≡ Some (Do ops.Pla mode operand) → IsRawWithin s bounds Pull t → Agrees g (g.at (f, p)) t now
    → Arrives g setting 1 now (IsInside g (f, p)) (RawGoes s Pull (f, p) t)
pull_line g s setting bounds f p mode operand t now ground laid here within a =
    let st : Stood g s f p laid.spot ops.Pla mode operand = stood g s f p ops.Pla mode operand laid here in
    let h = implied_here g s f p ops.Pla mode operand ground laid st (implied_is mode (plain_row mode st.row)) in
    let m = do_pull g setting (g.at (f, p)) (g.at (f, suc p)) within.0 within.1 t now a h.0 h.1 within.2 in
    on_next g s setting f p (record t { regs = with_a within.0 t.regs; pushed = within.1 }) now Pull t laid (refl, (within.0, within.1, within.2, refl)) m
  where
    plain_row : (mode : Mode) → has_row ops.Pla mode ≡ true → is_implied mode ≡ true
    plain_row Implied e = refl
    plain_row _ e = absurd cc

depth_line : (g : Ground) (s : RawSetting) (setting : Setting) (f p : ℕ) (mode : Mode) (operand : Operand) (t : State) (now : Moment) → IsGround g s → (laid : IsLaid g s f) → slice_get (s.lines f) p ≡ Some (Do ops.Tsx mode operand) → g.top ≡ 253 → Agrees g (g.at (f, p)) t now
    → Arrives g setting 1 now (IsInside g (f, p)) (RawGoes s Depth (f, p) t)
depth_line g s setting f p mode operand t now ground laid here top a =
    let st : Stood g s f p laid.spot ops.Tsx mode operand = stood g s f p ops.Tsx mode operand laid here in
    let h = implied_here g s f p ops.Tsx mode operand ground laid st (implied_is mode (plain_row mode st.row)) in
    on_next g s setting f p _ now Depth t laid (refl, refl) (do_depth g setting (g.at (f, p)) (g.at (f, suc p)) t now a h.0 h.1 top)
  where
    plain_row : (mode : Mode) → has_row ops.Tsx mode ≡ true → is_implied mode ≡ true
    plain_row Implied e = refl
    plain_row _ e = absurd cc

return_line : (g : Ground) (s : RawSetting) (setting : Setting) (bounds : Bounds) (f p : ℕ) (mode : Mode) (operand : Operand) (t : State) (now : Moment) → IsGround g s → (laid : IsLaid g s f) → slice_get (s.lines f) p ≡ Some (Do ops.Rts mode operand) → IsRawWithin s bounds Return t → Agrees g (g.at (f, p)) t now
    → Arrives g setting 1 now (IsInside g (f, p)) (RawGoes s Return (f, p) t)
return_line g s setting bounds f p mode operand t now ground laid here within a = by t.frames refl within.1
  where
    plain_row : (mode : Mode) → has_row ops.Rts mode ≡ true → is_implied mode ≡ true
    plain_row Implied e = refl
    plain_row _ e = absurd cc

    by : (fs : List Frame) → t.frames ≡ fs → HasFrame fs → Arrives g setting 1 now (IsInside g (f, p)) (RawGoes s Return (f, p) t)
    by [] e has = absurd (subst HasFrame e within.1)
    by (frame ∷ frames) e has =
        let st : Stood g s f p laid.spot ops.Rts mode operand = stood g s f p ops.Rts mode operand laid here in
        let h = implied_here g s f p ops.Rts mode operand ground laid st (implied_is mode (plain_row mode st.row)) in
        let upto = ground.to frame.back in let high = ground.high in
        let u : State = record t { pushed = frame.pushed; frames = frames } in
        let goes : RawGoes s Return (f, p) t frame.back u = subst (λ (fs : List Frame). RawReturns fs t frame.back u) (sym e) (within.0, refl, refl) in
        one g setting 1 now (IsInside g (f, p)) (RawGoes s Return (f, p) t) frame.back u (omega arith) goes (returns g setting (g.at (f, p)) frame frames t now a (omega (arith, upto, high)) h.0 within.0 e)

-- the return of the last call
pub last_line : (g : Ground) (s : RawSetting) (setting : Setting) (f p to top : ℕ) (l : Line) (t : State) (now : Moment) → IsGround g s → IsLaid g s f → slice_get (s.lines f) p ≡ Some l → form_of l ≡ Return → g.last ≡ Some to → to ≤ 65535 → top ≡ g.top + 2 → t.pushed ≡ [] → t.frames ≡ []
    → Agrees g (g.at (f, p)) t now → Moved (record g { top = top; last = None }) setting to t now
last_line g s setting f p to top (Label k) t now ground laid here is last fits above empty frames a = absurd cc
last_line g s setting f p to top (Call callee) t now ground laid here is last fits above empty frames a = absurd (no_callee callee is)
  where
    no_callee : (callee : Callee) → callee_form callee ≡ Return → ⊥
    no_callee (callees.Routine r) e = absurd cc
    no_callee (callees.Function h reads gives) e = absurd cc
    no_callee (callees.Pointer reads gives) e = absurd cc
last_line g s setting f p to top (Do op mode operand) t now ground laid here is last fits above empty frames a = by (kind_of op) refl is
  where
    implied : (mode : Mode) → has_row ops.Rts mode ≡ true → is_implied mode ≡ true
    implied Implied e = refl
    implied _ e = absurd cc

    jump : (operand : Operand) → jump_form operand ≡ Return → ⊥
    jump (operands.To l) e = absurd cc
    jump (operands.Zero i) e = absurd cc
    jump _ e = absurd cc

    branch : (operand : Operand) → branch_form op operand ≡ Return → ⊥
    branch (operands.To l) e = absurd cc
    branch _ e = absurd cc

    moves : (x : Op) → move_form x operand ≡ Return → x ≡ ops.Rts
    moves ops.Rts e = refl
    moves ops.Jmp e = absurd (jump operand e)
    moves ops.Pha e = absurd cc
    moves ops.Pla e = absurd cc
    moves ops.Tsx e = absurd cc
    moves _ e = absurd cc

    at : op ≡ ops.Rts → Moved (record g { top = top; last = None }) setting to t now
    at e =
        let it : slice_get (s.lines f) p ≡ Some (Do ops.Rts mode operand) = here ∙ ap (λ (x : Op). Some (Do x mode operand)) e in
        let st : Stood g s f p laid.spot ops.Rts mode operand = stood g s f p ops.Rts mode operand laid it in
        let h = implied_here g s f p ops.Rts mode operand ground laid st (implied_is mode (implied mode st.row)) in
        last_return g setting (g.at (f, p)) to top t now a h.0 last fits above empty frames

    by : (k : Kind) → kind_of op ≡ k → op_form k op mode operand ≡ Return → Moved (record g { top = top; last = None }) setting to t now
    by Moves k e = at (moves op e)
    by Branches k e = absurd (branch operand e)
    by Reads k e = absurd cc
    by Stores k e = absurd cc
    by Changes k e = absurd cc
    by Registers k e = absurd cc

-- Calls

pub call_moves : (g : Ground) (s : RawSetting) (setting : Setting) (f p : ℕ) (callee : Callee) (to : ℕ) (t : State) (now : Moment) → IsGround g s → (laid : IsLaid g s f) → slice_get (s.lines f) p ≡ Some (Call callee) → callee_address laid.spot callee ≡ to → 2 ≤ now.machine.s
    → Agrees g (g.at (f, p)) t now → Moved g setting to (called (line_after s (f, p)) t) now
call_moves g s setting f p callee to t now ground laid here leads deep a =
    let c = laid.coded p (Call callee) here in
    let after_it = c.1 in
    let h : Here g (g.at (f, p)) ops.Jsr Absolute = here_at g s (g.at (f, p)) (g.at (f, suc p)) ops.Jsr Absolute ground (both_have g.cpu ops.Jsr Absolute refl) c.0.0 (ground.from (f, p)) (omega (arith, after_it)) (ground.to (f, suc p)) in
    enters g setting (g.at (f, p)) to (line_after s (f, p)) t now a ground.page h (subst (λ (n : ℕ). Stands g.byte (g.at (f, p) + 1) (word_bytes n)) leads c.0.1) (laid.settled (suc p) ∙ after_it) deep

no_hook_there : (s : RawSetting) (r : Routine) (t : State) → hook_row s.args r t ≡ None → hook_address r ≡ None
no_hook_there s routines.HookOpen t h = absurd cc
no_hook_there s routines.HookClose t h = absurd cc
no_hook_there s routines.HookRead t h = absurd cc
no_hook_there s routines.HookWrite t h = absurd cc
no_hook_there s routines.HookArgs t h = absurd cc
no_hook_there s routines.HookExit t h = absurd cc
no_hook_there s _ t h = refl

run_line : (g : Ground) (s : RawSetting) (setting : Setting) (bounds : Bounds) (f p : ℕ) (r : Routine) (t : State) (now : Moment) → IsGround g s → (laid : IsLaid g s f) → slice_get (s.lines f) p ≡ Some (Call (callees.Routine r)) → hook_row s.args r t ≡ None → IsRawWithin s bounds (Run r) t → Agrees g (g.at (f, p)) t now
    → Arrives g setting 2 now (IsInside g (f, p)) (RawGoes s (Run r) (f, p) t)
run_line g s setting bounds f p r t now ground laid here no_hook within a =
    let le : bounds.hard + 2 ≤ s_of t = subst (λ (o : Option Row). IsHookWithin s.place bounds o t) no_hook within in
    let q : Place = entry_of s (s.routine r) in
    let unhooked : hook_address r ≡ None = no_hook_there s r t no_hook in
    let leads : callee_address laid.spot (callees.Routine r) ≡ g.at q = laid.calls p (Call (callees.Routine r)) here ∙ ap (λ (o : Option ℕ). unwrap_or o (g.at q)) unhooked in
    let goes : RawGoes s (Run r) (f, p) t q (called (line_after s (f, p)) t) = subst (λ (o : Option Row). RawRuns s o r (f, p) t q (called (line_after s (f, p)) t)) (sym no_hook) (refl, refl) in
    one g setting 2 now (IsInside g (f, p)) (RawGoes s (Run r) (f, p) t) q (called (line_after s (f, p)) t) (omega arith) goes
    (call_moves g s setting f p (callees.Routine r) (g.at q) t now ground laid here leads (room_for g s (g.at (f, p)) 2 bounds.hard t now ground a le) a)

call_line : (g : Ground) (s : RawSetting) (setting : Setting) (bounds : Bounds) (f p : ℕ) (callee : Callee) (t : State) (now : Moment) → IsGround g s → (laid : IsLaid g s f) → slice_get (s.lines f) p ≡ Some (Call callee) → IsNoHook s (callee_form callee) t → IsCounted g s (callee_form callee) → IsRawWithin s bounds (callee_form callee) t → Agrees g (g.at (f, p)) t now
    → Arrives g setting (raw_weight (callee_form callee)) now (IsInside g (f, p)) (RawGoes s (callee_form callee) (f, p) t)
call_line g s setting bounds f p (callees.Routine r) t now ground laid here no_hook counted within a = run_line g s setting bounds f p r t now ground laid here no_hook within a
call_line g s setting bounds f p (callees.Function callee reads gives) t now ground laid here no_hook counted within a =
    let q : Place = entry_of s (target_of s (s.library callee.0) callee.0) in
    one g setting 1 now (IsInside g (f, p)) (RawGoes s (Enter callee.0 reads gives) (f, p) t) q (called (line_after s (f, p)) t) (omega arith) (refl, refl)
    (call_moves g s setting f p (callees.Function callee reads gives) (g.at q) t now ground laid here (laid.calls p (Call (callees.Function callee reads gives)) here counted) (room_for g s (g.at (f, p)) 2 bounds.hard t now ground a within) a)
call_line g s setting bounds f p (callees.Pointer reads gives) t now ground laid here no_hook counted within a =
    let q : Place = entry_of s (s.routine routines.CallPtr4) in
    one g setting 1 now (IsInside g (f, p)) (RawGoes s (Through reads gives) (f, p) t) q (called (line_after s (f, p)) t) (omega arith) (refl, refl)
    (call_moves g s setting f p (callees.Pointer reads gives) (g.at q) t now ground laid here (laid.calls p (Call (callees.Pointer reads gives)) here) (room_for g s (g.at (f, p)) 2 bounds.hard t now ground a within) a)

-- All lines

jump_by : (g : Ground) (s : RawSetting) (setting : Setting) (bounds : Bounds) (f p : ℕ) (mode : Mode) (operand : Operand) (t : State) (now : Moment) → IsGround g s → (laid : IsLaid g s f) → slice_get (s.lines f) p ≡ Some (Do ops.Jmp mode operand) → (has_row ops.Jmp mode ≡ true) × (takes ops.Jmp mode operand ≡ true) → IsCounted g s (jump_form operand) → IsRawWithin s bounds (jump_form operand) t → Agrees g (g.at (f, p)) t now
    → Arrives g setting (raw_weight (jump_form operand)) now (IsInside g (f, p)) (RawGoes s (jump_form operand) (f, p) t)
jump_by g s setting bounds f p Absolute (operands.To l) t now ground laid here fits counted within a = jump_line g s setting f p l t now ground laid here a
jump_by g s setting bounds f p Indirect (operands.Zero i) t now ground laid here fits counted within a = far_line g s setting bounds f p i t now ground laid here counted within a
jump_by g s setting bounds f p _ (operands.To l) t now ground laid here fits counted within a = (let e = fits.0 in let z = fits.1 in absurd cc)
jump_by g s setting bounds f p _ (operands.Zero i) t now ground laid here fits counted within a = (let e = fits.0 in let z = fits.1 in absurd cc)
jump_by g s setting bounds f p _ _ t now ground laid here fits counted within a = absurd within

moves_line : (g : Ground) (s : RawSetting) (setting : Setting) (bounds : Bounds) (f p : ℕ) (op : Op) (mode : Mode) (operand : Operand) (t : State) (now : Moment) → IsGround g s → (laid : IsLaid g s f) → slice_get (s.lines f) p ≡ Some (Do op mode operand) → IsCounted g s (move_form op operand) → IsRawWithin s bounds (move_form op operand) t → Agrees g (g.at (f, p)) t now
    → Arrives g setting (raw_weight (move_form op operand)) now (IsInside g (f, p)) (RawGoes s (move_form op operand) (f, p) t)
moves_line g s setting bounds f p ops.Jmp mode operand t now ground laid here counted within a =
    let st : Stood g s f p laid.spot ops.Jmp mode operand = stood g s f p ops.Jmp mode operand laid here in
    jump_by g s setting bounds f p mode operand t now ground laid here (st.row, st.fits) counted within a
moves_line g s setting bounds f p ops.Pha mode operand t now ground laid here counted within a = push_line g s setting bounds f p mode operand t now ground laid here within a
moves_line g s setting bounds f p ops.Pla mode operand t now ground laid here counted within a = pull_line g s setting bounds f p mode operand t now ground laid here within a
moves_line g s setting bounds f p ops.Tsx mode operand t now ground laid here counted within a = depth_line g s setting f p mode operand t now ground laid here counted a
moves_line g s setting bounds f p ops.Rts mode operand t now ground laid here counted within a = return_line g s setting bounds f p mode operand t now ground laid here within a
moves_line g s setting bounds f p _ mode operand t now ground laid here counted within a = absurd within

branches_line : (g : Ground) (s : RawSetting) (setting : Setting) (bounds : Bounds) (f p : ℕ) (op : Op) (mode : Mode) (operand : Operand) (t : State) (now : Moment) → IsGround g s → (laid : IsLaid g s f) → slice_get (s.lines f) p ≡ Some (Do op mode operand) → kind_of op ≡ Branches → IsRawWithin s bounds (branch_form op operand) t → Agrees g (g.at (f, p)) t now
    → Arrives g setting (raw_weight (branch_form op operand)) now (IsInside g (f, p)) (RawGoes s (branch_form op operand) (f, p) t)
branches_line g s setting bounds f p op mode (operands.To l) t now ground laid here k within a = branch_line g s setting f p op mode l t now ground laid here k a
branches_line g s setting bounds f p op mode _ t now ground laid here k within a = absurd within

do_line : (g : Ground) (s : RawSetting) (setting : Setting) (bounds : Bounds) (f p : ℕ) (k : Kind) (op : Op) (mode : Mode) (operand : Operand) (t : State) (now : Moment) → IsGround g s → (laid : IsLaid g s f) → slice_get (s.lines f) p ≡ Some (Do op mode operand) → kind_of op ≡ k → stack_start ≤ bounds.soft
    → IsCounted g s (op_form k op mode operand) → IsRawWithin s bounds (op_form k op mode operand) t → Agrees g (g.at (f, p)) t now
    → Arrives g setting (raw_weight (op_form k op mode operand)) now (IsInside g (f, p)) (RawGoes s (op_form k op mode operand) (f, p) t)
do_line g s setting bounds f p Reads op mode operand t now ground laid here k soft counted within a =
    plain_goes g s setting f p Reads op mode operand t now ground laid k (plain_line g s setting bounds f p Reads op mode operand t now ground laid soft (stood g s f p op mode operand laid here) it_reads k (subst (λ (x : Placement). IsRawOpen x bounds (ref_of mode (word_of x operand) t)) ground.place within) a)
do_line g s setting bounds f p Stores op mode operand t now ground laid here k soft counted within a =
    plain_goes g s setting f p Stores op mode operand t now ground laid k (plain_line g s setting bounds f p Stores op mode operand t now ground laid soft (stood g s f p op mode operand laid here) it_stores k (subst (λ (x : Placement). IsRawOpen x bounds (ref_of mode (word_of x operand) t)) ground.place within) a)
do_line g s setting bounds f p Changes op mode operand t now ground laid here k soft counted within a =
    plain_goes g s setting f p Changes op mode operand t now ground laid k (plain_line g s setting bounds f p Changes op mode operand t now ground laid soft (stood g s f p op mode operand laid here) it_changes k (subst (λ (x : Placement). IsRawOpen x bounds (ref_of mode (word_of x operand) t)) ground.place within) a)
do_line g s setting bounds f p Registers op mode operand t now ground laid here k soft counted within a =
    plain_goes g s setting f p Registers op mode operand t now ground laid k (plain_line g s setting bounds f p Registers op mode operand t now ground laid soft (stood g s f p op mode operand laid here) it_registers k (subst (λ (x : Placement). IsRawOpen x bounds (ref_of mode (word_of x operand) t)) ground.place within) a)
do_line g s setting bounds f p Branches op mode operand t now ground laid here k soft counted within a = branches_line g s setting bounds f p op mode operand t now ground laid here k within a
do_line g s setting bounds f p Moves op mode operand t now ground laid here k soft counted within a = moves_line g s setting bounds f p op mode operand t now ground laid here counted within a

pub lines_are_followed : LinesAreFollowed
lines_are_followed g s setting bounds f p (Label l) t now ground laid here no_hook counted bytes soft within a = absurd within
lines_are_followed g s setting bounds f p (Do op mode operand) t now ground laid here no_hook counted bytes soft within a = do_line g s setting bounds f p (kind_of op) op mode operand t now ground laid here refl soft counted within a
lines_are_followed g s setting bounds f p (Call callee) t now ground laid here no_hook counted bytes soft within a = call_line g s setting bounds f p callee t now ground laid here no_hook counted within a
