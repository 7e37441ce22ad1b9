-- Each line hands on what is known before it.
use Rattle.std.proofs.Common.{◌≡◌, ℕ, suc, zero, Bool, true, false, if◌then◌else◌, Option, Some, None, List, [], ◌∷◌, ◌++◌, refl, sym, subst, ap, ◌∙◌}
use Rattle.std.specs.Prelude.{slice_get}
use Rattle.std.specs.List.{list_all}
use Rattle.std.proofs.lemmas.Bool.{and_parts}
use Rattle.c65_mach.specs.declared.rows.Op.{Op}
use Rattle.c65_mach.specs.declared.rows.Op.TheVariants as ops
use Rattle.c65_mach.specs.declared.rows.Mode.{Mode}
use Rattle.c65_mach.specs.Step.{is_taken, Kind, Reads, Stores, Changes, Registers, Branches, Moves, kind_of}
use Rattle.c65_code.specs.declared.line.Operand.{Operand}
use Rattle.c65_code.specs.declared.line.Operand.TheVariants.{To, Zero}
use Rattle.c65_code.specs.declared.line.Callee.TheVariants as callees
use Rattle.c65_code.specs.declared.line.Line.{Line}
use Rattle.c65_code.specs.declared.line.Line.TheVariants.{Label, Do, Call}
use Rattle.c65_code.specs.Forms.{IsLocal, op_form, form_of}
use Rattle.c65_code.specs.LineState.{State, IsBytes}
use Rattle.c65_code.specs.Moves.{labelled, settle, next, effect, Does}
use Rattle.c65_code.specs.Placement.{Placement, word_of}
use Rattle.c65_code.specs.Segments.{is_fit}
use Rattle.c65_know.specs.declared.note.Note.{Note}
use Rattle.c65_know.specs.Notes.{nothing_known}
use Rattle.c65_know.specs.Rows.{taken_in, row_by, after_row, tested_by, takes_at, passed_by}
use Rattle.c65_know.specs.Known.{Way, after_line, note_at, ways_of, known_from, known_of}
use Rattle.c65_know_law.specs.Truth.{IsNoted, IsTrueOf}
use Rattle.c65_know_law.specs.Laws.{AreFit, IsCall, Knows, NotesAreHandedOn}
use Rattle.c65_know_law.proofs.Truths.{nothing_noted, Comes}
use Rattle.c65_know_law.proofs.Passing.{arrives, IsAt, goes_on, goes_to, goes_back}
use Rattle.c65_know_law.proofs.Registers.{IsPlain}
use Rattle.c65_know_law.proofs.Rows.{row_kept}
use Rattle.c65_know_law.proofs.Calls.{call_kept}
use Rattle.c65_know_law.proofs.Branches.{taken_noted, passed_noted}

-- ---- the note of a line

no_line : (l : Line) → None ≡ Some l → ⊥
no_line l e = cc

same_line : (k l : Line) → Some k ≡ Some l → k ≡ l
same_line k l e = cc

has_note : (lines : List Line) (p : ℕ) (way : Option Note) (ways : List Way) (line : Line) → slice_get lines p ≡ Some line → (n : Note) × (slice_get (known_from way ways lines) p ≡ Some n)
has_note [] p way ways line e = absurd (no_line line e)
has_note (first ∷ later) zero way ways line e = (note_at way ways first later, refl)
has_note (first ∷ later) (suc p) way ways line e = has_note later p (after_line first (note_at way ways first later)) (ways ++ ways_of first (note_at way ways first later)) line e

fit_at : (lines : List Line) (p : ℕ) (line : Line) → AreFit lines → slice_get lines p ≡ Some line → is_fit line ≡ true
fit_at [] p line fit e = absurd (no_line line e)
fit_at (first ∷ later) zero line fit e = let both = and_parts (is_fit first) (list_all is_fit later) fit in subst (λ (l : Line). is_fit l ≡ true) (same_line first line e) both.0
fit_at (first ∷ later) (suc p) line fit e = let both = and_parts (is_fit first) (list_all is_fit later) fit in fit_at later p line both.1 e

-- ---- calls

no_call : (op : Op) (mode : Mode) (operand : Operand) (k : Kind) → IsCall (op_form k op mode operand) → ⊥
no_call op mode operand Reads h = h
no_call op mode operand Stores h = h
no_call op mode operand Changes h = h
no_call op mode operand Registers h = h
no_call op mode (To l) Branches h = h
no_call op mode _ Branches h = h
no_call ops.Jmp mode (To l) Moves h = h
no_call ops.Jmp mode (Zero i) Moves h = h
no_call ops.Jmp mode _ Moves h = h
no_call _ mode operand Moves h = h

after_call_line : (line : Line) (n : Note) → IsCall (form_of line) → after_line line n ≡ Some nothing_known
after_call_line (Label l) n h = absurd h
after_call_line (Do op mode operand) n h = absurd (no_call op mode operand (kind_of op) h)
after_call_line (Call (callees.Routine r)) n h = absurd h
after_call_line (Call (callees.Function f reads gives)) n h = refl
after_call_line (Call (callees.Pointer reads gives)) n h = refl

-- ---- operations

-- the next line comes behind an operation
plain_flow : (op : Op) (mode : Mode) (operand : Operand) (n : Note) (u : State) → IsPlain (kind_of op) → IsNoted (after_row op mode operand n) u → Comes (after_line (Do op mode operand) n) u
plain_flow ops.Bcc mode operand n u h r = absurd h
plain_flow ops.Bcs mode operand n u h r = absurd h
plain_flow ops.Beq mode operand n u h r = absurd h
plain_flow ops.Bmi mode operand n u h r = absurd h
plain_flow ops.Bne mode operand n u h r = absurd h
plain_flow ops.Bpl mode operand n u h r = absurd h
plain_flow ops.Bra mode operand n u h r = absurd h
plain_flow ops.Bvc mode operand n u h r = absurd h
plain_flow ops.Bvs mode operand n u h r = absurd h
plain_flow ops.Jmp mode operand n u h r = absurd h
plain_flow ops.Rts mode operand n u h r = absurd h
plain_flow _ mode operand n u h r = r

branch_flow : (op : Op) (mode : Mode) (l : ℕ) (n : Note) (u : State) → kind_of op ≡ Branches → Comes (passed_by (tested_by op) (takes_at op) n) u → Comes (after_line (Do op mode (To l)) n) u
branch_flow ops.Bcc mode l n u e r = r
branch_flow ops.Bcs mode l n u e r = r
branch_flow ops.Beq mode l n u e r = r
branch_flow ops.Bmi mode l n u e r = r
branch_flow ops.Bne mode l n u e r = r
branch_flow ops.Bpl mode l n u e r = r
branch_flow ops.Bra mode l n u e r = r
branch_flow ops.Bvc mode l n u e r = r
branch_flow ops.Bvs mode l n u e r = r
branch_flow _ mode l n u e r = absurd (cc)

module _ (place : Placement) (lines : List Line) (q : ℕ) (t u : State) (n : Note) (bytes : IsBytes t) (noted : IsNoted n t) where
  -- behind the line
  behind : (line : Line) → IsAt lines (known_of lines) q line n → Comes (after_line line n) u → IsTrueOf (slice_get (known_of lines) (settle lines (suc q))) u
  behind line at come = goes_on lines q (Some nothing_known) [] line n u at come

  after_plain : (op : Op) (mode : Mode) (operand : Operand) (k : Kind) → is_fit (Do op mode operand) ≡ true → kind_of op ≡ k → IsPlain k → u ≡ effect (kind_of op) op mode (word_of place operand) t → Comes (after_line (Do op mode operand) n) u
  after_plain op mode operand k fit e plain d =
      let row : IsNoted (row_by op mode operand (taken_in (kind_of op) mode operand n) n) u = subst (λ (j : Kind). IsNoted (row_by op mode operand (taken_in j mode operand n) n) u) (sym e) (row_kept place op mode operand n t fit bytes noted k e plain u (d ∙ ap (λ (j : Kind). effect j op mode (word_of place operand) t) e)) in
      plain_flow op mode operand n u (subst IsPlain (sym e) plain) row

  after_branch : (op : Op) (mode : Mode) (l : ℕ) → IsAt lines (known_of lines) q (Do op mode (To l)) n → kind_of op ≡ Branches → u ≡ t → IsTrueOf (slice_get (known_of lines) (settle lines (if is_taken op t.regs then labelled lines l else suc q))) u
  after_branch op mode l at e d = subst (λ (s : State). IsTrueOf (slice_get (known_of lines) (settle lines (if is_taken op t.regs then labelled lines l else suc q))) s) (sym d) (pick (is_taken op t.regs) refl)
    where
      pick : (b : Bool) → is_taken op t.regs ≡ b → IsTrueOf (slice_get (known_of lines) (settle lines (if b then labelled lines l else suc q))) t
      pick true h = goes_to lines q (Some nothing_known) [] op mode l n t at (taken_noted op n t e h noted)
      pick false h = goes_on lines q (Some nothing_known) [] (Do op mode (To l)) n t at (branch_flow op mode l n t e (passed_noted op n t e h noted))

  after_do : (op : Op) (mode : Mode) (operand : Operand) (k : Kind) → IsAt lines (known_of lines) q (Do op mode operand) n → is_fit (Do op mode operand) ≡ true → kind_of op ≡ k → IsLocal (op_form k op mode operand)
      → Does place (op_form k op mode operand) t u → IsTrueOf (slice_get (known_of lines) (next lines (op_form k op mode operand) q t.regs)) u
  after_do op mode operand Reads at fit e i d = behind (Do op mode operand) at (after_plain op mode operand Reads fit e tt d)
  after_do op mode operand Stores at fit e i d = behind (Do op mode operand) at (after_plain op mode operand Stores fit e tt d)
  after_do op mode operand Changes at fit e i d = behind (Do op mode operand) at (after_plain op mode operand Changes fit e tt d)
  after_do op mode operand Registers at fit e i d = behind (Do op mode operand) at (after_plain op mode operand Registers fit e tt d)
  after_do op mode (To l) Branches at fit e i d = after_branch op mode l at e d
  after_do op mode _ Branches at fit e i d = absurd i
  after_do ops.Jmp mode (To l) Moves at fit e i d = goes_to lines q (Some nothing_known) [] ops.Jmp mode l n u at (subst (IsNoted n) (sym d) noted)
  after_do ops.Jmp mode (Zero j) Moves at fit e i d = absurd i
  after_do ops.Jmp mode _ Moves at fit e i d = absurd i
  after_do ops.Pha mode operand Moves at fit e i d = behind (Do ops.Pha mode operand) at (subst (IsNoted n) (sym d) (record { a = noted.a; x = noted.x; y = noted.y; s0 = noted.s0; s1 = noted.s1; p0 = noted.p0; p1 = noted.p1; t1 = noted.t1; n = noted.n; v = noted.v; z = noted.z; c = noted.c }))
  after_do ops.Pla mode operand Moves at fit e i d = behind (Do ops.Pla mode operand) at (subst (IsNoted (record n { a = None; n = None; z = None })) (sym d.3) (record { a = tt; x = noted.x; y = noted.y; s0 = noted.s0; s1 = noted.s1; p0 = noted.p0; p1 = noted.p1; t1 = noted.t1; n = tt; v = noted.v; z = tt; c = noted.c }))
  after_do ops.Tsx mode operand Moves at fit e i d = behind (Do ops.Tsx mode operand) at (subst (IsNoted (record n { x = None; n = None; z = None })) (sym d) (record { a = noted.a; x = tt; y = noted.y; s0 = noted.s0; s1 = noted.s1; p0 = noted.p0; p1 = noted.p1; t1 = noted.t1; n = tt; v = noted.v; z = tt; c = noted.c }))
  after_do _ mode operand Moves at fit e i d = absurd i

  after_line_kept : (line : Line) → IsAt lines (known_of lines) q line n → is_fit line ≡ true → IsLocal (form_of line) → Does place (form_of line) t u → u.ended ≡ None
      → IsTrueOf (slice_get (known_of lines) (next lines (form_of line) q t.regs)) u
  after_line_kept (Label l) at fit i d running = absurd i
  after_line_kept (Do op mode operand) at fit i d running = after_do op mode operand (kind_of op) at fit refl i d
  after_line_kept (Call (callees.Routine r)) at fit i d running = behind (Call (callees.Routine r)) at (call_kept r n t u bytes noted d running)
  after_line_kept (Call (callees.Function f reads gives)) at fit i d running = absurd i
  after_line_kept (Call (callees.Pointer reads gives)) at fit i d running = absurd i

pub handed_on : NotesAreHandedOn
handed_on place lines fit = record {
  entry = λ t running. arrives lines (Some nothing_known) [] t (nothing_noted t);
  behind_call = called;
  line = moved;
  back = λ q k l u e target le running. goes_back lines q (Some nothing_known) [] l k u e target le;
}
  where
    called : (q : ℕ) (l : Line) (t : State) → slice_get lines q ≡ Some l → IsCall (form_of l) → Knows lines (settle lines (suc q)) t
    called q l t e i running =
        let has = has_note lines q (Some nothing_known) [] l e in
        goes_on lines q (Some nothing_known) [] l has.0 t (e, has.1) (subst (λ (o : Option Note). Comes o t) (sym (after_call_line l has.0 i)) (nothing_noted t))

    moved : (q : ℕ) (l : Line) (t u : State) → slice_get lines q ≡ Some l → IsLocal (form_of l) → IsBytes t → t.ended ≡ None → Does place (form_of l) t u → Knows lines q t → Knows lines (next lines (form_of l) q t.regs) u
    moved q l t u e i bytes running d known going =
        let has = has_note lines q (Some nothing_known) [] l e in
        let noted : IsNoted has.0 t = subst (λ (o : Option Note). IsTrueOf o t) has.1 (known running) in
        after_line_kept place lines q t u has.0 bytes noted l (e, has.1) (fit_at lines q l fit e) i d going
