use Rattle.std.proofs.Common.{◌≡◌, ℕ, Some, Result, Ok}
use Rattle.c65_base.specs.declared.refusal.Refusal.{Refusal}
use Rattle.c65_ppfile.specs.Counts.{Serves, outside}
use Rattle.c65_pptext.specs.Reading.{Held}
use Rattle.c65_ppdir.specs.Files.{OpenFile, IsToldFile, opened_as}
use Rattle.c65_ppdir.specs.Opening.{skipping, skipped}
use Rattle.c65_ppdir.proofs.opened.Opened.skip_line.Given as goal

abbrev pub invariant-loop : goal.invariant-loop
invariant-loop g l = record {
  serves : Serves {T = Unit {0}} l.fn.folders (outside (g.F.Files.contents l.fn.files) (g.F.Files.write_faults l.fn.files) (g.F.Files.faults l.fn.files) (g.F.Files.misses l.fn.files)) (outside (g.F.Files.contents l.files) (g.F.Files.write_faults l.files) (g.F.Files.faults l.files) (g.F.Files.misses l.files)) (Ok tt);
  goes : (held : Held) → g.F.Files.contents l.fn.files ≡ Some held → IsToldFile held l.fn.self → IsToldFile held l.self × ((n : ℕ) (z : Result OpenFile Refusal) → skipping n (opened_as held l.self) z → skipped (opened_as held l.fn.self) z);
}
