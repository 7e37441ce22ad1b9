use Rattle.std.proofs.Common.{sym}
use Rattle.c65_ctype.specs.Views.{fn_of}
use Rattle.c65_init_join.proofs.RaisedLaws.{fn_unraised}
use Rattle.c65_init_join.proofs.unit.raise_fn.Goals as goal

pub returns-else-by-gt0 : goal.returns-else-by-gt0
returns-else-by-gt0 c = sym (fn_unraised c.args.by (fn_of c.args.ty.now) c.if-by-gt0.false)
