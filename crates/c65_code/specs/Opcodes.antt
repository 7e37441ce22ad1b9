-- That the rows of lines are those of the tables of opcodes.
use Rattle.std.specs.Prelude.{◌≡◌, ◌↔◌, ℕ, IsTrue, Some}
use Rattle.c65_mach.specs.declared.rows.Op.{Op}
use Rattle.c65_mach.specs.declared.rows.Mode.{Mode}
use Rattle.c65_mach.specs.declared.rows.Row.{Row}
use Rattle.c65_mach.specs.Table.{row_of, own_rows, found}
use Rattle.c65_code.specs.Segments.{is_nmos_row, is_added_row}

-- some byte has a row of this operation in this mode
pub record HasOpcode (op : Op) (mode : Mode) : Type 0 where
  pub byte : ℕ
  pub row : Row
  pub found : row_of byte ≡ Some row
  pub op_is : row.op ≡ op
  pub mode_is : row.mode ≡ mode

abbrev pub RowsAreTheTables : Type 0
RowsAreTheTables = (op : Op) (mode : Mode) → IsTrue (is_nmos_row op mode) ↔ HasOpcode op mode

-- the same of the rows that the 65C02 adds
pub record HasAddedOpcode (op : Op) (mode : Mode) : Type 0 where
  pub byte : ℕ
  pub row : Row
  pub found : found byte own_rows ≡ Some row
  pub op_is : row.op ≡ op
  pub mode_is : row.mode ≡ mode

abbrev pub AddedRowsAreTheTables : Type 0
AddedRowsAreTheTables = (op : Op) (mode : Mode) → IsTrue (is_added_row op mode) → HasAddedOpcode op mode
