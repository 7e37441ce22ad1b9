use Rattle.std.proofs.Common.{◌≡◌, ℕ, Some, Result, Ok}
use Rattle.c65_base.specs.declared.refusal.Refusal.{Refusal}
use Rattle.c65_ppfile.specs.Counts.{Serves, outside}
use Rattle.c65_pptext.specs.Reading.{Held}
use Rattle.c65_ppdir.specs.Files.{IsToldFile}
use Rattle.c65_ppdir.specs.LineActions.{text_from, text_line}
use Rattle.c65_ppdir.specs.Progress.{Progress, progress}
use Rattle.c65_ppdir.proofs.reader.Reader.text_line.Given as goal

abbrev pub invariant-loop : goal.invariant-loop
invariant-loop g l = record {
  serves : Serves {T = Unit {0}} l.fn.folders (outside (g.F.Files.contents l.fn.files) (g.F.Files.write_faults l.fn.files) (g.F.Files.faults l.fn.files) (g.F.Files.misses l.fn.files)) (outside (g.F.Files.contents l.files) (g.F.Files.write_faults l.files) (g.F.Files.faults l.files) (g.F.Files.misses l.files)) (Ok tt);
  goes : (held : Held) → g.F.Files.contents l.fn.files ≡ Some held → IsToldFile held l.fn.file → IsToldFile held l.file × ((n : ℕ) (z : Result Progress Refusal) → text_from n (progress held l.self l.file l.names) z → text_line (progress held l.fn.self l.fn.file l.fn.names) z);
}
