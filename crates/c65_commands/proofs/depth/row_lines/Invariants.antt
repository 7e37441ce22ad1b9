use Rattle.std.proofs.Common.{◌≡◌, ◌++◌, map, drop}
use Rattle.c65_base.specs.Lines.{joined}
use Rattle.c65_csem.specs.Views.{unit_of}
use Rattle.c65_commands.specs.Depth.{row_line, row_lines}
use Rattle.c65_commands.proofs.depth.row_lines.Given as goal

abbrev pub invariant-loop-row : goal.invariant-loop-row
invariant-loop-row l =
    l.text.items ++ joined (map (row_line l.joined.names (unit_of l.joined.program.0)) (drop l.row-index l.rows)) ≡ row_lines l.joined.names (unit_of l.joined.program.0) l.rows
