-- The tables against what they have to be.
use Rattle.std.proofs.Common.{◌≡◌, ◌==◌, ℕ, Bool, true, false, not, IsTrue, List, [], ◌∷◌, ◌++◌, Option, Some, None, cond, refl, sym, ◌∙◌, eqb-true, subst, slice_get}
use Rattle.std.specs.List.{list_all}
use Rattle.std.proofs.lemmas.Bool.{and_parts}
use Rattle.c65_base.specs.declared.options.Cpu.TheVariants.{Nmos, Cmos}
use Rattle.c65_mach.specs.declared.rows.Op.{Op}
use Rattle.c65_mach.specs.declared.rows.Op.TheVariants as ops
use Rattle.c65_mach.specs.declared.rows.Mode.{Mode}
use Rattle.c65_mach.specs.declared.rows.Mode.TheVariants.{Relative}
use Rattle.c65_mach.specs.declared.rows.Row.{Row}
use Rattle.c65_mach.specs.State.{Regs}
use Rattle.c65_mach.specs.Step.{is_taken, is_not}
use Rattle.c65_mach.specs.Table.{Entry, table, own_rows, found, or_row, row_of, row_for}
use Rattle.c65_code.specs.Segments.{has_row}
use Rattle.c65_link.specs.Opcodes.{opcode_of, opposite_of}
use Rattle.c65_link.specs.Laws.{OpcodesAreTheTables, OppositesDiffer, CallsGoOn}

abbrev is_right : Entry → Bool
is_right e = opcode_of e.row.op e.row.mode == e.byte

-- the opcode of a row that was found is the byte
picked : (b : Bool) (byte : ℕ) (e : Entry) (rest : Option Row) (row : Row) → (byte == e.byte) ≡ b → is_right e ≡ true → (rest ≡ Some row → opcode_of row.op row.mode ≡ byte) → cond b (Some e.row) rest ≡ Some row → opcode_of row.op row.mode ≡ byte
picked true byte e rest row at right there found =
    let same : e.row ≡ row = cc in
    subst (λ (r : Row). opcode_of r.op r.mode ≡ byte) same (eqb-true (opcode_of e.row.op e.row.mode) e.byte right ∙ sym (eqb-true byte e.byte at))
picked false byte e rest row at right there found = there found

found_right : (byte : ℕ) (es : List Entry) (row : Row) → list_all is_right es ≡ true → found byte es ≡ Some row → opcode_of row.op row.mode ≡ byte
found_right byte [] row all e = absurd cc
found_right byte (entry ∷ es) row all e =
    let parts = and_parts (is_right entry) (list_all is_right es) all in
    picked (byte == entry.byte) byte entry (found byte es) row refl parts.0 (λ f. found_right byte es row parts.1 f) e

all_right : list_all is_right table ≡ true
all_right = refl

own_right : list_all is_right own_rows ≡ true
own_right = refl

either_right : (byte : ℕ) (own other : Option Row) (row : Row) → ((r : Row) → own ≡ Some r → opcode_of r.op r.mode ≡ byte) → ((r : Row) → other ≡ Some r → opcode_of r.op r.mode ≡ byte)
    → or_row own other ≡ Some row → opcode_of row.op row.mode ≡ byte
either_right byte (Some r) other row first second e = first row e
either_right byte None other row first second e = second row e

pub opcodes_are_the_tables : OpcodesAreTheTables
unfolding row_of row_for
opcodes_are_the_tables Nmos byte row e = found_right byte table row all_right e
opcodes_are_the_tables Cmos byte row e = either_right byte (found byte own_rows) (found byte table) row (λ r h. found_right byte own_rows r own_right h) (λ r h. found_right byte table r all_right h) e

twice : (b : Bool) → b ≡ not (is_not b)
twice true = refl
twice false = refl

once : (b : Bool) → is_not b ≡ not b
once true = refl
once false = refl

none : {P : Type 0} → false ≡ true → P
none e = absurd cc

pub opposites_differ : OppositesDiffer
opposites_differ ops.Bcc r h = twice r.c
opposites_differ ops.Bcs r h = once r.c
opposites_differ ops.Beq r h = once r.z
opposites_differ ops.Bmi r h = once r.n
opposites_differ ops.Bne r h = twice r.z
opposites_differ ops.Bpl r h = twice r.n
opposites_differ ops.Bvc r h = twice r.v
opposites_differ ops.Bvs r h = once r.v
opposites_differ op r h = none h

pub calls_go_on : CallsGoOn
calls_go_on = refl
