-- A line of a function is read as it is written.
use Rattle.std.proofs.Common.{◌≡◌, ℕ, ◌<◌, ◌==◌, ◌&&◌, not, Bool, true, false, IsTrue, List, [], ◌∷◌, ◌++◌, Option, Some, None, option_map, codes, decimal, bytes_eq, length, refl, sym, ap, ◌∙◌, inl, inr, append_assoc}
use Rattle.std.specs.Prelude.{if◌then◌else◌}
use Rattle.std.proofs.lemmas.Bool.{and_parts, eqb-true, false≢true}
use Rattle.std.specs.List.{list_all}
use Rattle.std.proofs.lemmas.List.{append-nil}
use Rattle.c65_mach.specs.declared.rows.Op.{Op}
use Rattle.c65_mach.specs.declared.rows.Mode.{Mode}
use Rattle.c65_mach.specs.declared.rows.Mode.TheVariants.{Implied, Accumulator, Immediate, ZeroPage, ZeroPageX, ZeroPageY, Absolute, AbsoluteX, AbsoluteY, IndirectX, IndirectY, Indirect, Relative, ZeroPageIndirect, AbsoluteIndirectX}
use Rattle.c65_code.specs.declared.parts.RegSet.{RegSet}
use Rattle.c65_code.specs.declared.routine.Routine.{Routine}
use Rattle.c65_code.specs.declared.line.Operand.{Operand}
use Rattle.c65_code.specs.declared.line.Operand.TheVariants as operands
use Rattle.c65_code.specs.declared.line.Callee.{Callee}
use Rattle.c65_code.specs.declared.line.Callee.TheVariants as callees
use Rattle.c65_code.specs.declared.line.Line.{Line}
use Rattle.c65_code.specs.declared.line.Line.TheVariants as lines
use Rattle.c65_code.specs.declared.code.Symbol.{Symbol}
use Rattle.c65_code.specs.Names.{name_of}
use Rattle.c65_code.specs.Segments.{has_row, takes, is_fit, is_barred}
use Rattle.c65_code.specs.Writable.{is_letter, is_letter_or_digit, is_external, IsSpelling, IsLetters, IsDirect}
use Rattle.c65_code.proofs.RoutineNames.{found_by_name}
use Rattle.c65_asm.specs.Text.{mnemonic_of, sym_text, label_text, before, operand_text, behind, set_text, passed_text, callee_text, line_text}
use Rattle.c65_asm.specs.Words.{and_read, number_in, is_symbol, set_in}
use Rattle.c65_asm.specs.Rows.{Spelled, Nothing, Called, Run, Enter, Through, Told, Label, Do, Call, operand_in, call_by, sets_in, called_from, called_in, operation, instruction_from, instruction_in, row_in}
use Rattle.c65_asm.proofs.WordLaws.{number_read, lacks, lacks-append, cut_there, cut_nowhere, word_lacks, decimal_word, byte_lacks, symbol_is, spelling_word}
use Rattle.c65_asm.proofs.SetLaws.{set_read, set_lacks_comma, set_lacks_feed}
use Rattle.c65_asm.proofs.NameLaws.{op_read, mnemonic_word, no_call, routine_word}
use Rattle.c65_asm.proofs.OperandLaws.{named_operand, IsWellOperand, place_lacks, about, inner_text, operand_read}

abbrev pub named_callee : List Symbol → Callee → Called
named_callee symbols (callees.Routine r) = Run r
named_callee symbols (callees.Function f reads gives) = Enter (sym_text symbols f) reads gives
named_callee symbols (callees.Pointer reads gives) = Through reads gives

abbrev pub named_line : List Symbol → Line → Told
named_line symbols (lines.Label l) = Label l
named_line symbols (lines.Do op mode o) = Do op mode (named_operand symbols o)
named_line symbols (lines.Call callee) = Call (named_callee symbols callee)

abbrev pub IsWellCallee : List Symbol → Callee → Type 0
IsWellCallee symbols (callees.Routine r) = Unit {0}
IsWellCallee symbols (callees.Function f reads gives) = IsSpelling (sym_text symbols f) × IsLetters reads × IsLetters gives
IsWellCallee symbols (callees.Pointer reads gives) = IsLetters reads × IsLetters gives

-- a line that may be written, with numbers of their types
abbrev pub IsWellLine : List Symbol → Line → Type 0
IsWellLine symbols (lines.Label l) = l < 4294967296
IsWellLine symbols (lines.Do op mode o) = IsTrue (is_fit (lines.Do op mode o)) × IsDirect mode × IsWellOperand symbols o
IsWellLine symbols (lines.Call callee) = IsWellCallee symbols callee

-- a line without its line feed
abbrev pub line_body : List Symbol → Line → List ℕ
line_body symbols (lines.Label l) = label_text l ++ codes ":"
line_body symbols (lines.Do op mode o) = codes "\t" ++ mnemonic_of op ++ before mode ++ operand_text symbols o ++ behind mode
line_body symbols (lines.Call callee) = codes "\tJSR " ++ callee_text symbols callee

pub body_is : (symbols : List Symbol) (line : Line) → line_text symbols line ≡ line_body symbols line ++ 10 ∷ []
body_is symbols (lines.Label l) = sym (append_assoc (label_text l) (codes ":") (10 ∷ []))
body_is symbols (lines.Do op mode o) = refl
body_is symbols (lines.Call callee) = refl

-- no line feed

operand_lacks : (symbols : List Symbol) (o : Operand) → IsWellOperand symbols o → lacks 10 (operand_text symbols o) ≡ true
operand_lacks symbols operands.Nothing w = refl
operand_lacks symbols (operands.Byte v) w = byte_lacks 10 v refl refl w
operand_lacks symbols (operands.Low sym offset) w = place_lacks 10 (sym_text symbols sym) offset refl refl w.0 w.1
operand_lacks symbols (operands.High sym offset) w = place_lacks 10 (sym_text symbols sym) offset refl refl w.0 w.1
operand_lacks symbols (operands.Zero v) w = byte_lacks 10 v refl refl w
operand_lacks symbols (operands.At sym offset) w = place_lacks 10 (sym_text symbols sym) offset refl refl w.0 w.1
operand_lacks symbols (operands.To l) w = word_lacks 10 (decimal l) refl (decimal_word l w)

before_lacks : (mode : Mode) → lacks 10 (before mode) ≡ true
before_lacks Implied = refl
before_lacks Accumulator = refl
before_lacks Immediate = refl
before_lacks IndirectX = refl
before_lacks IndirectY = refl
before_lacks Indirect = refl
before_lacks ZeroPageIndirect = refl
before_lacks _ = refl

behind_lacks : (mode : Mode) → lacks 10 (behind mode) ≡ true
behind_lacks ZeroPageX = refl
behind_lacks ZeroPageY = refl
behind_lacks AbsoluteX = refl
behind_lacks AbsoluteY = refl
behind_lacks IndirectX = refl
behind_lacks IndirectY = refl
behind_lacks Indirect = refl
behind_lacks ZeroPageIndirect = refl
behind_lacks _ = refl

passed_lacks : (reads gives : RegSet) → IsLetters reads → IsLetters gives → lacks 10 (passed_text reads gives) ≡ true
passed_lacks reads gives r g = lacks-append 10 (codes "," ++ set_text reads ++ codes ",") (set_text gives) (lacks-append 10 (set_text reads) (codes ",") (set_lacks_feed reads r) refl) (set_lacks_feed gives g)

callee_lacks : (symbols : List Symbol) (c : Callee) → IsWellCallee symbols c → lacks 10 (callee_text symbols c) ≡ true
callee_lacks symbols (callees.Routine r) w = word_lacks 10 (name_of r) refl (routine_word r)
callee_lacks symbols (callees.Function f reads gives) w = lacks-append 10 (sym_text symbols f) (passed_text reads gives) (word_lacks 10 (sym_text symbols f) refl (spelling_word (sym_text symbols f) w.0)) (passed_lacks reads gives w.1 w.2)
callee_lacks symbols (callees.Pointer reads gives) w = passed_lacks reads gives w.0 w.1

pub line_lacks : (symbols : List Symbol) (line : Line) → IsWellLine symbols line → lacks 10 (line_body symbols line) ≡ true
line_lacks symbols (lines.Label l) w = lacks-append 10 (decimal l) (codes ":") (word_lacks 10 (decimal l) refl (decimal_word l w)) refl
line_lacks symbols (lines.Do op mode o) w =
    lacks-append 10 (mnemonic_of op ++ before mode ++ operand_text symbols o) (behind mode)
    (lacks-append 10 (mnemonic_of op ++ before mode) (operand_text symbols o)
    (lacks-append 10 (mnemonic_of op) (before mode) (word_lacks 10 (mnemonic_of op) refl (mnemonic_word op)) (before_lacks mode))
    (operand_lacks symbols o w.2))
    (behind_lacks mode)
line_lacks symbols (lines.Call callee) w = callee_lacks symbols callee w

-- calls

sets_read : (reads gives : RegSet) → IsLetters reads → IsLetters gives → sets_in ((set_text reads ++ codes ",") ++ set_text gives) ≡ Some (reads, gives)
sets_read reads gives r g =
    ap sets_in (append_assoc (set_text reads) (codes ",") (set_text gives))
    ∙ ap (λ (o : Option (List ℕ × List ℕ)). and_read o (λ p. and_read (set_in p.0) (λ a. option_map (λ b. (a, b)) (set_in p.1)))) (cut_there 44 (set_text reads) (set_text gives) (set_lacks_comma reads r))
    ∙ ap (λ (o : Option RegSet). and_read o (λ a. option_map (λ b. (a, b)) (set_in (set_text gives)))) (set_read reads r)
    ∙ ap (λ (o : Option RegSet). option_map (λ b. (reads, b)) o) (set_read gives g)

-- no symbol is spelled as the call through a pointer
no_pointer : (symbol : List ℕ) → IsSpelling symbol → bytes_eq symbol (codes "callptr4") ≡ false
no_pointer symbol (inl h) = external symbol h
  where
    external : (symbol : List ℕ) → is_external symbol ≡ true → bytes_eq symbol (codes "callptr4") ≡ false
    external [] h = refl
    external (u ∷ []) h = absurd (false≢true h)
    external (u ∷ first ∷ rest) h =
        let p = and_parts (u == 95) (is_letter first && list_all is_letter_or_digit rest) h in
        let e : u ≡ 95 = eqb-true u 95 p.0 in
        ap (λ c. bytes_eq (c ∷ first ∷ rest) (codes "callptr4")) e
no_pointer symbol (inr (inl (n, small, e))) = ap (λ s. bytes_eq s (codes "callptr4")) e
no_pointer symbol (inr (inr (n, small, e))) = ap (λ s. bytes_eq s (codes "callptr4")) e

call_is : (symbol : List ℕ) (reads gives : RegSet) → IsSpelling symbol → call_by symbol reads gives ≡ Some (Enter symbol reads gives)
call_is symbol reads gives s =
    ap (λ (t : Bool). if t then Some (Through reads gives) else if is_symbol symbol then Some (Enter symbol reads gives) else None) (no_pointer symbol s)
    ∙ ap (λ (t : Bool). if t then Some (Enter symbol reads gives) else None) (symbol_is symbol s)

pub callee_read : (symbols : List Symbol) (c : Callee) → IsWellCallee symbols c → called_in (callee_text symbols c) ≡ Some (named_callee symbols c)
callee_read symbols (callees.Routine r) w =
    ap (called_from (name_of r)) (cut_nowhere 44 (name_of r) (word_lacks 44 (name_of r) refl (routine_word r)))
    ∙ ap (λ (o : Option Routine). option_map Run o) (found_by_name (name_of r) r refl)
callee_read symbols (callees.Function f reads gives) w =
    let symbol = sym_text symbols f in
    ap (called_from (symbol ++ passed_text reads gives)) (cut_there 44 symbol ((set_text reads ++ codes ",") ++ set_text gives) (word_lacks 44 symbol refl (spelling_word symbol w.0)))
    ∙ ap (λ (o : Option (RegSet × RegSet)). and_read o (λ s. call_by symbol s.0 s.1)) (sets_read reads gives w.1 w.2)
    ∙ call_is symbol reads gives w.0
callee_read symbols (callees.Pointer reads gives) w =
    ap (λ (o : Option (RegSet × RegSet)). and_read o (λ s. call_by (codes "callptr4") s.0 s.1)) (sets_read reads gives w.0 w.1)

-- instructions

implied_read : (symbols : List Symbol) (op : Op) (o : Operand) → takes op Implied o ≡ true → row_in (line_body symbols (lines.Do op Implied o)) ≡ Some (named_line symbols (lines.Do op Implied o))
implied_read symbols op operands.Nothing h =
    let e : mnemonic_of op ++ [] ++ [] ++ [] ≡ mnemonic_of op = append-nil (mnemonic_of op ++ [] ++ []) ∙ append-nil (mnemonic_of op ++ []) ∙ append-nil (mnemonic_of op) in
    ap instruction_in e
    ∙ ap (instruction_from (mnemonic_of op)) (cut_nowhere 32 (mnemonic_of op) (word_lacks 32 (mnemonic_of op) refl (mnemonic_word op)))
    ∙ ap (λ (o : Option Op). option_map (λ op. Do op Implied Nothing) o) (op_read op)
implied_read symbols op _ h = absurd (false≢true h)

-- what stands before an operand is a space and what belongs to it
spaced : (mode : Mode) → (mode ≡ Implied → ⊥) → before mode ≡ 32 ∷ about mode
spaced Implied n = absurd (n refl)
spaced Accumulator n = refl
spaced Immediate n = refl
spaced IndirectX n = refl
spaced IndirectY n = refl
spaced Indirect n = refl
spaced ZeroPageIndirect n = refl
spaced _ n = refl

operated : (symbols : List Symbol) (op : Op) (mode : Mode) (o : Operand) → has_row op mode ≡ true → takes op mode o ≡ true → not (is_barred op) ≡ true → IsDirect mode → IsWellOperand symbols o → (mode ≡ Implied → ⊥) → row_in (line_body symbols (lines.Do op mode o)) ≡ Some (named_line symbols (lines.Do op mode o))
operated symbols op mode o r t b d w n =
    let mn = mnemonic_of op in
    let inner = inner_text symbols mode o in
    let text = operand_text symbols o in
    let a : mn ++ before mode ++ text ++ behind mode ≡ mn ++ (32 ∷ inner) =
    ap (λ (s : List ℕ). mn ++ s ++ text ++ behind mode) (spaced mode n) ∙ ap (λ (s : List ℕ). s ++ behind mode) (append_assoc mn (32 ∷ about mode) text) ∙ append_assoc mn ((32 ∷ about mode) ++ text) (behind mode) in
    ap instruction_in a
    ∙ ap (instruction_from (mn ++ (32 ∷ inner))) (cut_there 32 mn inner (word_lacks 32 mn refl (mnemonic_word op)))
    ∙ ap (λ (o : Option Op). and_read o (operation inner)) (op_read op)
    ∙ ap (λ (j : Bool). if j then option_map Call (called_in inner) else option_map (λ p. Do op p.0 p.1) (operand_in op inner)) (no_call op b)
    ∙ ap (λ (p : Option (Mode × Spelled)). option_map (λ p. Do op p.0 p.1) p) (operand_read symbols op mode o r t d w n)

do_read : (symbols : List Symbol) (op : Op) (mode : Mode) (o : Operand) → has_row op mode ≡ true → takes op mode o ≡ true → not (is_barred op) ≡ true → IsDirect mode → IsWellOperand symbols o → row_in (line_body symbols (lines.Do op mode o)) ≡ Some (named_line symbols (lines.Do op mode o))
do_read symbols op Implied o r t b d w = implied_read symbols op o t
do_read symbols op Accumulator o r t b d w = operated symbols op Accumulator o r t b d w (λ e. cc)
do_read symbols op Immediate o r t b d w = operated symbols op Immediate o r t b d w (λ e. cc)
do_read symbols op ZeroPage o r t b d w = operated symbols op ZeroPage o r t b d w (λ e. cc)
do_read symbols op ZeroPageX o r t b d w = operated symbols op ZeroPageX o r t b d w (λ e. cc)
do_read symbols op ZeroPageY o r t b d w = operated symbols op ZeroPageY o r t b d w (λ e. cc)
do_read symbols op Absolute o r t b d w = operated symbols op Absolute o r t b d w (λ e. cc)
do_read symbols op AbsoluteX o r t b d w = operated symbols op AbsoluteX o r t b d w (λ e. cc)
do_read symbols op AbsoluteY o r t b d w = operated symbols op AbsoluteY o r t b d w (λ e. cc)
do_read symbols op IndirectX o r t b d w = operated symbols op IndirectX o r t b d w (λ e. cc)
do_read symbols op IndirectY o r t b d w = operated symbols op IndirectY o r t b d w (λ e. cc)
do_read symbols op Indirect o r t b d w = operated symbols op Indirect o r t b d w (λ e. cc)
do_read symbols op Relative o r t b d w = operated symbols op Relative o r t b d w (λ e. cc)
do_read symbols op ZeroPageIndirect o r t b d w = operated symbols op ZeroPageIndirect o r t b d w (λ e. cc)
do_read symbols op AbsoluteIndirectX o r t b d w = absurd (false≢true t)

pub line_read : (symbols : List Symbol) (line : Line) → IsWellLine symbols line → row_in (line_body symbols line) ≡ Some (named_line symbols line)
line_read symbols (lines.Label l) w =
    ap (λ (o : Option (List ℕ × List ℕ)). and_read o (λ p. if length p.1 == 0 then option_map Label (number_in p.0) else None)) (cut_there 58 (decimal l) [] (word_lacks 58 (decimal l) refl (decimal_word l w)))
    ∙ ap (λ (o : Option ℕ). option_map Label o) (number_read l w)
line_read symbols (lines.Do op mode o) w =
    let p = and_parts (has_row op mode) (takes op mode o && not (is_barred op)) w.0 in
    let q = and_parts (takes op mode o) (not (is_barred op)) p.1 in
    do_read symbols op mode o p.0 q.0 q.1 w.1 w.2
line_read symbols (lines.Call callee) w = ap (λ (o : Option Called). option_map Call o) (callee_read symbols callee w)
