-- Cells of data that have one text, however many bytes stand on their line before them.
use Rattle.std.specs.Prelude.{◌≡◌, ℕ, List}
use Rattle.c65_code.specs.declared.code.Symbol.{Symbol}
use Rattle.c65_code.specs.declared.code.DataCell.{DataCell}
use Rattle.c65_asm.specs.Text.{cell_text, opened, cells_text}

pub record HaveOneCell (ours : List Symbol) (cell : DataCell) (theirs : List Symbol) (other : DataCell) : Type 0 where
  pub text : (count : ℕ) → cell_text ours count cell ≡ cell_text theirs count other
  pub opened : (count : ℕ) → opened count cell ≡ opened count other

abbrev pub HaveOneCells : List Symbol → List DataCell → List Symbol → List DataCell → Type 0
HaveOneCells ours cells theirs others = (count : ℕ) → cells_text ours count cells ≡ cells_text theirs count others
