use Rattle.std.proofs.Common.{◌≡◌, ℕ, List, Some, Result, Ok}
use Rattle.c65_base.specs.declared.refusal.Refusal.{Refusal}
use Rattle.c65_lex.specs.declared.token.PpUnit.{PpUnit}
use Rattle.c65_ppfile.specs.Counts.{Serves, outside}
use Rattle.c65_ppdir.specs.Units.{Held, around, reached, IsToldUnit, rest_from, rest}
use Rattle.c65_ppdir.proofs.entry.read_lines.Given as goal

abbrev pub invariant-loop : goal.invariant-loop
invariant-loop g l = record {
  serves : Serves {T = Unit {0}} l.fn.folders (outside (g.F.Files.contents l.fn.files) (g.F.Files.write_faults l.fn.files) (g.F.Files.faults l.fn.files) (g.F.Files.misses l.fn.files)) (outside (g.F.Files.contents l.files) (g.F.Files.write_faults l.files) (g.F.Files.faults l.files) (g.F.Files.misses l.files)) (Ok tt);
  signed : l.unit.included.is_char_signed ≡ l.fn.unit.included.is_char_signed;
  told : (held : Held) → g.F.Files.contents l.fn.files ≡ Some held → IsToldUnit held l.fn.unit → IsToldUnit held l.unit;
  goes : (held : Held) → g.F.Files.contents l.fn.files ≡ Some held → IsToldUnit held l.fn.unit → (n : ℕ) (z : Result (PpUnit × List (List ℕ)) Refusal) → rest_from n (around held l.fn.folders l.fn.unit.included.is_char_signed) (reached held l.unit l.names l.paths.items) z → rest (around held l.fn.folders l.fn.unit.included.is_char_signed) (reached held l.fn.unit l.fn.names l.fn.paths.items) z;
}
