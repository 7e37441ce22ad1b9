use Rattle.c65_lex.specs.declared.token.PpUnit.{PpUnit}
use Rattle.c65_lex.specs.declared.token.PpToken.{PpToken}
use Rattle.std.proofs.Common.{List}
use Rattle.c65_ppfile.proofs.Counts.{relocated}
use Rattle.c65_ppfile.proofs.Missing.{relocated_misses}
use Rattle.c65_ppdir.specs.Units.{unit_of}
use Rattle.c65_ppdir.proofs.Wholes.{whole_stops}
use Rattle.c65_ppdir.proofs.entry.preprocess.Goals as goal

pub returns-in-Err-read_unit-clause-missing : goal.returns-in-Err-read_unit-clause-missing
returns-in-Err-read_unit-clause-missing g c =
    relocated (List PpToken) PpUnit c.args.folders.now _ _ c.in-Err-read_unit.refusal c.located.result c.located.ensures.same c.in-Err-read_unit.ensures.serves.missing

pub returns-in-Err-read_unit-clause-sought : goal.returns-in-Err-read_unit-clause-sought
returns-in-Err-read_unit-clause-sought g c =
    relocated_misses (List PpToken) PpUnit (g.F.Files.contents c.args.files.now) c.args.folders.now c.args.path.now c.in-Err-read_unit.refusal c.located.result c.located.ensures.same c.in-Err-read_unit.ensures.misses

pub returns-in-Err-read_unit-clause-exact : goal.returns-in-Err-read_unit-clause-exact
returns-in-Err-read_unit-clause-exact g c =
    λ held told.
    whole_stops (λ (ts : List PpToken). (unit_of ts c.read_unit.new.paths.items, c.read_unit.new.names)) held c.args.options.now c.args.defines.now c.args.folders.now c.args.path.now c.args.names.now c.begin_macros.new.names c.read_unit.new.paths.items c.in-Ok.macros c.in-Err-read_unit.refusal c.located.result
    c.in-Ok.ensures.exact c.located.ensures.exact (c.in-Err-read_unit.ensures.exact held told c.new-paths.ensures.items)
