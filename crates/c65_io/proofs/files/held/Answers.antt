use Rattle.std.proofs.Common.{sym}
use Rattle.c65_io.proofs.FileLaws.{found, lacking}
use Rattle.c65_io.proofs.files.held.Goals as goal

pub returns-in-None : goal.returns-in-None
returns-in-None c = sym (lacking c.args.path.now c.args.files.now (sym c.in-None.ensures))

pub returns-in-Some : goal.returns-in-Some
returns-in-Some c = found c.args.path.now c.args.files.now c.in-Some.index c.as_slice.result.now c.index-files-index.result c.in-Some.ensures c.as_slice.ensures
