use Rattle.std.proofs.Common.{◌≡◌, Some, Ok}
use Rattle.c65_ppfile.specs.Counts.{Serves, outside}
use Rattle.c65_pptext.specs.Reading.{Held, IsTold, text_as}
use Rattle.c65_pptext.proofs.Leads.{Leads}
use Rattle.c65_pptext.proofs.text.FileText.read.Given as goal

abbrev pub invariant-loop : goal.invariant-loop
invariant-loop g l = record {
  serves : Serves {T = Unit {0}} l.fn.folders (outside (g.F.Files.contents l.fn.files) (g.F.Files.write_faults l.fn.files) (g.F.Files.faults l.fn.files) (g.F.Files.misses l.fn.files)) (outside (g.F.Files.contents l.files) (g.F.Files.write_faults l.files) (g.F.Files.faults l.files) (g.F.Files.misses l.files)) (Ok tt);
  named : l.names ≡ l.fn.names;
  told : (held : Held) → g.F.Files.contents l.fn.files ≡ Some held → IsTold held l.fn.self → IsTold held l.self × Leads l.header (text_as held l.fn.self) (text_as held l.self);
}
