-- A processor has the row of each line's opcode.
use Rattle.std.proofs.Common.{◌≡◌, ℕ, ◌==◌, ◌||◌, ◌⊎◌, inl, inr, Bool, true, false, not, cond, IsTrue, is_none, List, [], ◌∷◌, Option, Some, None, refl, ap, sym, ◌∙◌, subst, eqb-true}
use Rattle.std.specs.List.{list_all}
use Rattle.std.proofs.lemmas.Bool.{and_parts, or_cases, both_ways, not-true}
use Rattle.c65_base.specs.declared.options.Cpu.{Cpu}
use Rattle.c65_base.specs.declared.options.Cpu.TheVariants.{Nmos, Cmos}
use Rattle.c65_mach.specs.declared.rows.Op.{Op}
use Rattle.c65_mach.specs.declared.rows.Op.TheVariants as ops
use Rattle.c65_mach.specs.declared.rows.Mode.{Mode}
use Rattle.c65_mach.specs.declared.rows.Mode.TheVariants.{Relative, Indirect}
use Rattle.c65_mach.specs.declared.rows.Row.{Row}
use Rattle.c65_mach.specs.Table.{Entry, table, own_rows, found, or_row, row_of, row_for}
use Rattle.c65_code.specs.Segments.{is_nmos_row, is_added_row, has_row}
use Rattle.c65_code.specs.Opcodes.{HasOpcode, HasAddedOpcode}
use Rattle.c65_code.proofs.OpcodeLaws.{rows_are_the_tables, added_rows_are_the_tables}
use Rattle.c65_link.specs.Opcodes.{opcode_of, opposite_of}
use Rattle.c65_link.proofs.TableLaws.{opcodes_are_the_tables}

-- the row at an opcode
pub record Rowed (cpu : Cpu) (byte : ℕ) (op : Op) (mode : Mode) : Type 0 where
  pub row : Row
  pub is : row_for cpu byte ≡ Some row
  pub op_is : row.op ≡ op
  pub mode_is : row.mode ≡ mode

-- The 65C02 has the rows of the 6502: its own are at other bytes, but for the jump through a word.

is_plain : Entry → Bool
is_plain e = is_none (found e.byte own_rows) || (e.byte == 0x6C)

all_plain : list_all is_plain table ≡ true
unfolding is_plain
all_plain = refl

none_is : (o : Option Row) → is_none o ≡ true → o ≡ None
none_is None h = refl
none_is (Some row) h = absurd cc

plain : (byte : ℕ) (es : List Entry) (row : Row) → list_all is_plain es ≡ true → found byte es ≡ Some row → (found byte own_rows ≡ None) ⊎ (byte ≡ 0x6C)
unfolding is_plain
plain byte [] row all h = absurd cc
plain byte (e ∷ es) row all h =
    let parts = and_parts (is_plain e) (list_all is_plain es) all in
    by (byte == e.byte) refl (or_cases (is_none (found e.byte own_rows)) (e.byte == 0x6C) parts.0) h (plain byte es row parts.1)
  where
    by : (b : Bool) → (byte == e.byte) ≡ b → (is_none (found e.byte own_rows) ≡ true) ⊎ ((e.byte == 0x6C) ≡ true) → cond b (Some e.row) (found byte es) ≡ Some row → (found byte es ≡ Some row → (found byte own_rows ≡ None) ⊎ (byte ≡ 0x6C)) → (found byte own_rows ≡ None) ⊎ (byte ≡ 0x6C)
    by true at (inl none) g rest = inl (ap (λ (n : ℕ). found n own_rows) (eqb-true byte e.byte at) ∙ none_is (found e.byte own_rows) none)
    by true at (inr jump) g rest = inr (eqb-true byte e.byte at ∙ eqb-true e.byte 0x6C jump)
    by false at c g rest = rest g

jump_row : Row
jump_row = record { op = ops.Jmp; mode = Indirect; cycles = 5; page = false }

jump_is : row_of 0x6C ≡ Some jump_row
unfolding row_of jump_row
jump_is = refl

own_jump : Rowed Cmos 0x6C ops.Jmp Indirect
unfolding row_for row_of
own_jump = record { row = record { op = ops.Jmp; mode = Indirect; cycles = 6; page = false }; is = refl; op_is = refl; mode_is = refl }

same_row : (a b : Row) → Some a ≡ Some b → a ≡ b
same_row a b h = cc

jump_op : jump_row.op ≡ ops.Jmp
unfolding jump_row
jump_op = refl

jump_mode : jump_row.mode ≡ Indirect
unfolding jump_row
jump_mode = refl

nmos_rowed : (op : Op) (mode : Mode) → HasOpcode op mode → Rowed Nmos (opcode_of op mode) op mode
unfolding row_for
nmos_rowed op mode h =
    let at : opcode_of h.row.op h.row.mode ≡ h.byte = opcodes_are_the_tables Nmos h.byte h.row h.found in
    let byte : opcode_of op mode ≡ h.byte = ap (λ (o : Op). opcode_of o mode) (sym h.op_is) ∙ ap (opcode_of h.row.op) (sym h.mode_is) ∙ at in
    record { row = h.row; is = ap row_of byte ∙ h.found; op_is = h.op_is; mode_is = h.mode_is }

cmos_rowed : (op : Op) (mode : Mode) → HasOpcode op mode → Rowed Cmos (opcode_of op mode) op mode
unfolding row_for row_of
cmos_rowed op mode h =
    let at : opcode_of h.row.op h.row.mode ≡ h.byte = opcodes_are_the_tables Nmos h.byte h.row h.found in
    let byte : opcode_of op mode ≡ h.byte = ap (λ (o : Op). opcode_of o mode) (sym h.op_is) ∙ ap (opcode_of h.row.op) (sym h.mode_is) ∙ at in
    by byte (plain h.byte table h.row all_plain h.found)
  where
    by : opcode_of op mode ≡ h.byte → (found h.byte own_rows ≡ None) ⊎ (h.byte ≡ 0x6C) → Rowed Cmos (opcode_of op mode) op mode
    by byte (inl none) = record { row = h.row; is = ap (row_for Cmos) byte ∙ ap (λ (o : Option Row). or_row o (row_of h.byte)) none ∙ h.found; op_is = h.op_is; mode_is = h.mode_is }
    by byte (inr jump) =
        let same : h.row ≡ jump_row = same_row h.row jump_row (sym h.found ∙ ap row_of jump ∙ jump_is) in
        let op_is : ops.Jmp ≡ op = sym (ap (λ (r : Row). r.op) same ∙ jump_op) ∙ h.op_is in
        let mode_is : Indirect ≡ mode = sym (ap (λ (r : Row). r.mode) same ∙ jump_mode) ∙ h.mode_is in
        subst (λ (n : ℕ). Rowed Cmos n op mode) (sym (byte ∙ jump)) (subst (λ (o : Op). Rowed Cmos 0x6C o mode) op_is (subst (λ (m : Mode). Rowed Cmos 0x6C ops.Jmp m) mode_is own_jump))

added_rowed : (op : Op) (mode : Mode) → HasAddedOpcode op mode → Rowed Cmos (opcode_of op mode) op mode
unfolding row_for
added_rowed op mode h =
    let is : row_for Cmos h.byte ≡ Some h.row = ap (λ (o : Option Row). or_row o (row_of h.byte)) h.found in
    let at : opcode_of h.row.op h.row.mode ≡ h.byte = opcodes_are_the_tables Cmos h.byte h.row is in
    let byte : opcode_of op mode ≡ h.byte = ap (λ (o : Op). opcode_of o mode) (sym h.op_is) ∙ ap (opcode_of h.row.op) (sym h.mode_is) ∙ at in
    record { row = h.row; is = ap (row_for Cmos) byte ∙ is; op_is = h.op_is; mode_is = h.mode_is }

-- which rows a processor has
abbrev pub HasRowOn : Cpu → Op → Mode → Type 0
HasRowOn Nmos op mode = IsTrue (is_nmos_row op mode)
HasRowOn Cmos op mode = IsTrue (has_row op mode)

pub rowed : (cpu : Cpu) (op : Op) (mode : Mode) → HasRowOn cpu op mode → Rowed cpu (opcode_of op mode) op mode
rowed Nmos op mode h = nmos_rowed op mode ((rows_are_the_tables op mode).0 h)
rowed Cmos op mode h = by (or_cases (is_nmos_row op mode) (is_added_row op mode) h)
  where
    by : (is_nmos_row op mode ≡ true) ⊎ (is_added_row op mode ≡ true) → Rowed Cmos (opcode_of op mode) op mode
    by (inl g) = cmos_rowed op mode ((rows_are_the_tables op mode).0 g)
    by (inr g) = added_rowed op mode (added_rows_are_the_tables op mode g)

-- a row of the 6502 is one of both
pub both_have : (cpu : Cpu) (op : Op) (mode : Mode) → is_nmos_row op mode ≡ true → HasRowOn cpu op mode
both_have Nmos op mode h = h
both_have Cmos op mode h = or_first (is_nmos_row op mode) (is_added_row op mode) h
  where
    or_first : (a b : Bool) → a ≡ true → (a || b) ≡ true
    or_first true b e = refl
    or_first false b e = absurd cc

pub row_on : (cpu : Cpu) (op : Op) (mode : Mode) → has_row op mode ≡ true → (cpu ≡ Nmos → not (is_added_row op mode) ≡ true) → HasRowOn cpu op mode
row_on Cmos op mode h own = h
row_on Nmos op mode h own = by (or_cases (is_nmos_row op mode) (is_added_row op mode) h)
  where
    by : (is_nmos_row op mode ≡ true) ⊎ (is_added_row op mode ≡ true) → is_nmos_row op mode ≡ true
    by (inl g) = g
    by (inr g) = absurd (both_ways (is_added_row op mode) (not-true (is_added_row op mode) (own refl)) g)

-- the opposite of a branch has a row
pub opposite_row : (op : Op) → is_nmos_row op Relative ≡ true → is_nmos_row (opposite_of op) Relative ≡ true
opposite_row ops.Bcc h = refl
opposite_row ops.Bcs h = refl
opposite_row ops.Beq h = refl
opposite_row ops.Bmi h = refl
opposite_row ops.Bne h = refl
opposite_row ops.Bpl h = refl
opposite_row ops.Bvc h = refl
opposite_row ops.Bvs h = refl
opposite_row op h = h
