use Rattle.std.proofs.Common.{◌≡◌, ◌⊎◌, Ok, drop}
use Rattle.c65_io.specs.Causes.{Rose}
use Rattle.c65_ppfile.specs.Counts.{Serves, outside}
use Rattle.c65_ppfile.specs.Finding.{first_found}
use Rattle.c65_ppfile.proofs.files.find_first.Given as goal

abbrev pub invariant-loop-path : goal.invariant-loop-path
invariant-loop-path g l = record {
  serves : Serves {T = Unit {0}} l.fn.folders (outside (g.F.Files.contents l.fn.files) (g.F.Files.write_faults l.fn.files) (g.F.Files.faults l.fn.files) (g.F.Files.misses l.fn.files)) (outside (g.F.Files.contents l.files) (g.F.Files.write_faults l.files) (g.F.Files.faults l.files) (g.F.Files.misses l.files)) (Ok tt);
  rose : Rose (g.F.Files.misses l.fn.files) (g.F.Files.misses l.files) ⊎ (l.path-index ≡ 0);
  passed : first_found (g.F.Files.contents l.fn.files) (drop l.path-index l.paths) ≡ first_found (g.F.Files.contents l.fn.files) l.paths;
}
