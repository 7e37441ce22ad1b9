use Rattle.std.proofs.Common.{◌≡◌, ℕ, Some, Ok}
use Rattle.c65_ppfile.specs.Counts.{Serves, outside}
use Rattle.c65_pptext.specs.Reading.{Held}
use Rattle.c65_ppdir.specs.Files.{IsToldFile, opened_as}
use Rattle.c65_ppdir.specs.Gathering.{Gathering, Gathers, IsLineRead}
use Rattle.c65_ppdir.proofs.opened.Opened.read_line.Given as goal

abbrev pub invariant-loop : goal.invariant-loop
invariant-loop g l = record {
  serves : Serves {T = Unit {0}} l.fn.folders (outside (g.F.Files.contents l.fn.files) (g.F.Files.write_faults l.fn.files) (g.F.Files.faults l.fn.files) (g.F.Files.misses l.fn.files)) (outside (g.F.Files.contents l.files) (g.F.Files.write_faults l.files) (g.F.Files.faults l.files) (g.F.Files.misses l.files)) (Ok tt);
  goes : (held : Held) → g.F.Files.contents l.fn.files ≡ Some held → IsToldFile held l.fn.self → IsToldFile held l.self × ((n : ℕ) (x : Gathering) → Gathers n l.hash l.tokens.items (opened_as held l.self) l.names x → IsLineRead l.hash (opened_as held l.fn.self) l.fn.names x);
}
