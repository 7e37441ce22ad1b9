-- A function, and data, whose end has not come.
use Rattle.std.specs.Prelude.{Bool, List}
use Rattle.c65_code.specs.declared.parts.RegSet.{RegSet}
use Rattle.c65_code.specs.declared.line.Sym.{Sym}
use Rattle.c65_code.specs.declared.line.Line.{Line}
use Rattle.c65_code.specs.declared.code.DatumKind.{DatumKind}
use Rattle.c65_code.specs.declared.code.DataCell.{DataCell}

pub record OpenedFunction : Type 0 where
  pub sym : Sym
  pub out : RegSet
  pub lines : List Line

pub record OpenedDatum : Type 0 where
  pub sym : Sym
  pub kind : DatumKind
  pub cells : List DataCell
  pub has_room : Bool
