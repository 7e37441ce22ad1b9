use Rattle.std.proofs.Common.{◌≡◌, drop}
use Rattle.std.specs.List.{list_all}
use Rattle.c65_code.specs.Processors.{is_nmos_line}
use Rattle.c65_asm_fit.proofs.processors.are_nmos_lines.Given as goal

abbrev pub invariant-loop-line : goal.invariant-loop-line
invariant-loop-line l = list_all is_nmos_line (drop l.line-index l.lines) ≡ list_all is_nmos_line l.lines
