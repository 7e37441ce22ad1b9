-- Lines stand where the bytes of those before them put them.
use Rattle.std.proofs.Common.{◌≡◌, ℕ, zero, suc, ◌+◌, ◌≤◌, ◌==◌, ◌&&◌, ◌⊎◌, inl, inr, not, Bool, true, false, nat_eq, if◌then◌else◌, List, [], ◌∷◌, map, Option, Some, None, slice_get, slice_index, refl, ap, sym, ◌∙◌, subst, arith, eqb-true}
use Rattle.std.specs.List.{list_all}
use Rattle.std.proofs.lemmas.Bool.{and_parts, or_cases, eq-eqb, ne_eqb}
use Rattle.c65_mach.specs.declared.rows.Op.{Op}
use Rattle.c65_mach.specs.declared.rows.Op.TheVariants as ops
use Rattle.c65_mach.specs.declared.rows.Mode.{Mode}
use Rattle.c65_mach.specs.declared.rows.Mode.TheVariants.{Absolute, Relative}
use Rattle.c65_code.specs.declared.line.Sym.{Sym}
use Rattle.c65_code.specs.declared.line.Operand.{Operand}
use Rattle.c65_code.specs.declared.line.Operand.TheVariants as operands
use Rattle.c65_code.specs.declared.line.Callee.TheVariants as callees
use Rattle.c65_code.specs.declared.line.Line.{Line}
use Rattle.c65_code.specs.declared.line.Line.TheVariants.{Label, Do, Call}
use Rattle.c65_code.specs.Segments.{has_row, takes, is_barred, is_fit, labels_of, is_among}
use Rattle.c65_code.specs.Moves.{labelled, settle}
use Rattle.c65_link.specs.Opcodes.{opcode_of, opposite_of}
use Rattle.c65_link.specs.Bytes.{Spot, instruction}
use Rattle.c65_link.specs.Symbols.{operand_symbol, line_symbol}
use Rattle.c65_link_law.specs.Coded.{Memory, Stands, label_at, word_at, short, long, IsInstruction, IsCoded, AreCoded}
use Rattle.c65_link_law_laid.specs.Linked.{line_end, line_at, with_main}

none_there : {A P : Type 0} (x : A) → ◌≡◌ {A = Option A} None (Some x) → P
none_there x h = absurd cc

pub same_there : {A : Type 0} (x y : A) → Some x ≡ Some y → x ≡ y
same_there x y h = cc

-- The end of a line

own_opcode : (op : Op) → has_row op Relative ≡ true → opcode_of (opposite_of op) Relative ≡ opcode_of op Relative → ⊥
own_opcode ops.Bcc h e = omega (arith, e)
own_opcode ops.Bcs h e = omega (arith, e)
own_opcode ops.Beq h e = omega (arith, e)
own_opcode ops.Bmi h e = omega (arith, e)
own_opcode ops.Bne h e = omega (arith, e)
own_opcode ops.Bpl h e = omega (arith, e)
own_opcode ops.Bvc h e = omega (arith, e)
own_opcode ops.Bvs h e = omega (arith, e)
own_opcode _ h e = absurd (let z : false ≡ true = h in cc)

next_do : (mode : Mode) (m : Memory) (spot : Spot) (at next : ℕ) (op : Op) (operand : Operand) → has_row op mode ≡ true → IsInstruction m spot at next op mode operand → next ≡ line_end m at (Do op mode operand)
next_do Relative m spot at next op operand row (short byte reach is) = is ∙ sym (ap (λ (b : Bool). if b then at + 2 else at + 5) (eq-eqb (m at) (opcode_of op Relative) byte))
next_do Relative m spot at next op operand row (long bytes is) = is ∙ sym (ap (λ (b : Bool). if b then at + 2 else at + 5) (ne_eqb (m at) (opcode_of op Relative) (λ e. own_opcode op row (sym bytes.0 ∙ e))))
next_do _ m spot at next op operand row c = c.1

line_next : (line : Line) (m : Memory) (spot : Spot) (at next : ℕ) → is_fit line ≡ true → IsCoded m spot at next line → next ≡ line_end m at line
line_next (Label l) m spot at next fit c = c.1
line_next (Do op mode operand) m spot at next fit c = next_do mode m spot at next op operand (and_parts (has_row op mode) (takes op mode operand && not (is_barred op)) fit).0 c
line_next (Call callee) m spot at next fit c = c.1

do_grows : (mode : Mode) (m : Memory) (at : ℕ) (op : Op) (operand : Operand) → at ≤ line_end m at (Do op mode operand)
do_grows Relative m at op operand = by (m at == opcode_of op Relative)
  where
    by : (b : Bool) → at ≤ (if b then at + 2 else at + 5)
    by true = omega arith
    by false = omega arith
do_grows _ m at op operand = omega arith

pub line_grows : (line : Line) (m : Memory) (at : ℕ) → at ≤ line_end m at line
line_grows (Label l) m at = omega arith
line_grows (Do op mode operand) m at = do_grows mode m at op operand
line_grows (Call callee) m at = omega arith

-- Lines one behind another

pub first_at : (lines : List Line) (m : Memory) (at : ℕ) → line_at m at lines 0 ≡ at
first_at [] m at = refl
first_at (line ∷ lines) m at = refl

pub from_at : (lines : List Line) (m : Memory) (at p : ℕ) → at ≤ line_at m at lines p
from_at [] m at p = omega arith
from_at (line ∷ lines) m at zero = omega arith
from_at (line ∷ lines) m at (suc p) = let a = line_grows line m at in let b = from_at lines m (line_end m at line) p in omega (arith, a, b)

-- the lines behind the first
rest_of : (line : Line) (lines : List Line) (m : Memory) (spot : Spot) (at end : ℕ) → is_fit line ≡ true → AreCoded m spot at (line ∷ lines) end → AreCoded m spot (line_end m at line) lines end
rest_of line lines m spot at end fit c = subst (λ (n : ℕ). AreCoded m spot n lines end) (line_next line m spot at c.0 fit c.1) c.2

pub upto_at : (lines : List Line) (m : Memory) (spot : Spot) (at end p : ℕ) → list_all is_fit lines ≡ true → AreCoded m spot at lines end → line_at m at lines p ≤ end
upto_at [] m spot at end p fit c = omega (arith, c)
upto_at (line ∷ lines) m spot at end zero fit c =
    let fits = and_parts (is_fit line) (list_all is_fit lines) fit in
    let a = line_grows line m at in
    let b = from_at lines m (line_end m at line) 0 in
    let upto = upto_at lines m spot (line_end m at line) end 0 fits.1 (rest_of line lines m spot at end fits.0 c) in
    omega (arith, a, b, upto)
upto_at (line ∷ lines) m spot at end (suc p) fit c =
    let fits = and_parts (is_fit line) (list_all is_fit lines) fit in
    upto_at lines m spot (line_end m at line) end p fits.1 (rest_of line lines m spot at end fits.0 c)

pub coded_at : (lines : List Line) (m : Memory) (spot : Spot) (at end p : ℕ) (l : Line) → list_all is_fit lines ≡ true → AreCoded m spot at lines end → slice_get lines p ≡ Some l → IsCoded m spot (line_at m at lines p) (line_at m at lines (suc p)) l
coded_at [] m spot at end p l fit c here = none_there l here
coded_at (line ∷ lines) m spot at end zero l fit c here =
    let fits = and_parts (is_fit line) (list_all is_fit lines) fit in
    let next : c.0 ≡ line_at m (line_end m at line) lines 0 = line_next line m spot at c.0 fits.0 c.1 ∙ sym (first_at lines m (line_end m at line)) in
    subst (λ (x : Line). IsCoded m spot at (line_at m (line_end m at line) lines 0) x) (same_there line l here) (subst (λ (n : ℕ). IsCoded m spot at n line) next c.1)
coded_at (line ∷ lines) m spot at end (suc p) l fit c here =
    let fits = and_parts (is_fit line) (list_all is_fit lines) fit in
    coded_at lines m spot (line_end m at line) end p l fits.1 (rest_of line lines m spot at end fits.0 c) here

pub settled_at : (lines : List Line) (m : Memory) (at p : ℕ) → line_at m at lines (settle lines p) ≡ line_at m at lines p
settled_at [] m at p = refl
settled_at (Label k ∷ lines) m at zero = settled_at lines m at 0 ∙ first_at lines m at
settled_at (Do op mode operand ∷ lines) m at zero = refl
settled_at (Call callee ∷ lines) m at zero = refl
settled_at (Label k ∷ lines) m at (suc p) = settled_at lines m at p
settled_at (Do op mode operand ∷ lines) m at (suc p) = settled_at lines m (line_end m at (Do op mode operand)) p
settled_at (Call callee ∷ lines) m at (suc p) = settled_at lines m (at + 3) p

pub labels_at : (lines : List Line) (m : Memory) (spot : Spot) (at end l : ℕ) → list_all is_fit lines ≡ true → AreCoded m spot at lines end → is_among (labels_of lines) l ≡ true → label_at spot l ≡ line_at m at lines (labelled lines l)
labels_at [] m spot at end l fit c h = (let z : false ≡ true = h in absurd cc)
labels_at (Label k ∷ lines) m spot at end l fit c h = by (k == l) refl (λ among. labels_at lines m spot at end l fit (rest_of (Label k) lines m spot at end refl c) among)
  where
    other : (k == l) ≡ false → (nat_eq l k ≡ true) ⊎ (is_among (labels_of lines) l ≡ true) → is_among (labels_of lines) l ≡ true
    other e (inl same) = (let z : true ≡ false = sym (eq-eqb k l (sym (eqb-true l k same))) ∙ e in absurd cc)
    other e (inr among) = among

    by : (b : Bool) → (k == l) ≡ b → (is_among (labels_of lines) l ≡ true → label_at spot l ≡ line_at m at lines (labelled lines l)) → label_at spot l ≡ line_at m at (Label k ∷ lines) (labelled (Label k ∷ lines) l)
    by true e rest = ap (label_at spot) (sym (eqb-true k l e)) ∙ sym c.1.0 ∙ ap (λ (b : Bool). line_at m at (Label k ∷ lines) (if b then 0 else suc (labelled lines l))) (sym e)
    by false e rest = rest (other e (or_cases (nat_eq l k) (is_among (labels_of lines) l) h)) ∙ ap (λ (b : Bool). line_at m at (Label k ∷ lines) (if b then 0 else suc (labelled lines l))) (sym e)
labels_at (Do op mode operand ∷ lines) m spot at end l fit c h =
    let line : Line = Do op mode operand in
    let fits = and_parts (is_fit line) (list_all is_fit lines) fit in
    labels_at lines m spot (line_end m at line) end l fits.1 (rest_of line lines m spot at end fits.0 c) h
labels_at (Call callee ∷ lines) m spot at end l fit c h =
    labels_at lines m spot (at + 3) end l fit (rest_of (Call callee) lines m spot at end refl c) h

-- What symbols mean where none is named

abbrev pub among : Spot → List ℕ → Spot
among spot symbols = record spot { symbols = symbols }

same_word : (spot : Spot) (symbols : List ℕ) (operand : Operand) → operand_symbol operand ≡ None → word_at spot operand ≡ word_at (among spot symbols) operand
same_word spot symbols operands.Nothing h = refl
same_word spot symbols (operands.Byte v) h = refl
same_word spot symbols (operands.Low s o) h = absurd cc
same_word spot symbols (operands.High s o) h = absurd cc
same_word spot symbols (operands.Zero i) h = refl
same_word spot symbols (operands.At s o) h = absurd cc
same_word spot symbols (operands.To l) h = refl

same_do : (mode : Mode) (m : Memory) (spot : Spot) (symbols : List ℕ) (at next : ℕ) (op : Op) (operand : Operand) → operand_symbol operand ≡ None → IsInstruction m spot at next op mode operand → IsInstruction m (among spot symbols) at next op mode operand
same_do Relative m spot symbols at next op operand h c = c
same_do mode m spot symbols at next op operand h c = (subst (λ (w : ℕ). Stands m at (instruction op mode w)) (same_word spot symbols operand h) c.0, c.1)

same_line : (line : Line) (m : Memory) (spot : Spot) (symbols : List ℕ) (at next : ℕ) → line_symbol line ≡ None → IsCoded m spot at next line → IsCoded m (among spot symbols) at next line
same_line (Label l) m spot symbols at next h c = c
same_line (Do op mode operand) m spot symbols at next h c = same_do mode m spot symbols at next op operand h c
same_line (Call (callees.Routine r)) m spot symbols at next h c = c
same_line (Call (callees.Function f reads gives)) m spot symbols at next h c = absurd cc
same_line (Call (callees.Pointer reads gives)) m spot symbols at next h c = c

abbrev pub is_none : Option Sym → Bool
is_none None = true
is_none (Some s) = false

abbrev pub names_none : Line → Bool
names_none line = is_none (line_symbol line)

none_by : (o : Option Sym) → is_none o ≡ true → o ≡ None
none_by None h = refl
none_by (Some s) h = absurd cc

pub same_lines : (lines : List Line) (m : Memory) (spot : Spot) (symbols : List ℕ) (at end : ℕ) → list_all names_none lines ≡ true → AreCoded m spot at lines end → AreCoded m (among spot symbols) at lines end
same_lines [] m spot symbols at end h c = c
same_lines (line ∷ lines) m spot symbols at end h c =
    let parts = and_parts (names_none line) (list_all names_none lines) h in
    (c.0, same_line line m spot symbols at c.0 (none_by (line_symbol line) parts.0) c.1, same_lines lines m spot symbols c.0 end parts.1 c.2)

-- The start, whose symbol 0 is main

abbrev pub is_start_line : Line → Bool
is_start_line (Call (callees.Function f reads gives)) = f.0 == 0
is_start_line line = names_none line

main_line : (line : Line) (m : Memory) (spot : Spot) (symbols : List ℕ) (main at next : ℕ) → spot.symbols ≡ slice_index symbols main ∷ [] → is_start_line line ≡ true → IsCoded m spot at next line → IsCoded m (among spot symbols) at next (with_main main line)
main_line (Label l) m spot symbols main at next e h c = c
main_line (Do op mode operand) m spot symbols main at next e h c = same_do mode m spot symbols at next op operand (none_by (operand_symbol operand) h) c
main_line (Call (callees.Routine r)) m spot symbols main at next e h c = c
main_line (Call (callees.Pointer reads gives)) m spot symbols main at next e h c = c
main_line (Call (callees.Function f reads gives)) m spot symbols main at next e h c =
    let zeroth : f.0 ≡ 0 = eqb-true f.0 0 h in
    let is : slice_index spot.symbols f.0 ≡ slice_index symbols main = ap (λ (xs : List ℕ). slice_index xs f.0) e ∙ ap (slice_index (slice_index symbols main ∷ [])) zeroth in
    (subst (λ (w : ℕ). Stands m at (instruction ops.Jsr Absolute w)) is c.0, c.1)

pub main_lines : (lines : List Line) (m : Memory) (spot : Spot) (symbols : List ℕ) (main at end : ℕ) → spot.symbols ≡ slice_index symbols main ∷ [] → list_all is_start_line lines ≡ true → AreCoded m spot at lines end → AreCoded m (among spot symbols) at (map (with_main main) lines) end
main_lines [] m spot symbols main at end e h c = c
main_lines (line ∷ lines) m spot symbols main at end e h c =
    let parts = and_parts (is_start_line line) (list_all is_start_line lines) h in
    (c.0, main_line line m spot symbols main at c.0 e parts.0 c.1, main_lines lines m spot symbols main c.0 end e parts.1 c.2)
