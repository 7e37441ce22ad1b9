use Rattle.std.proofs.Common.{sym}
use Rattle.c65_ctype.specs.Views.{qty_of}
use Rattle.c65_init_join.proofs.RaisedLaws.{unraised}
use Rattle.c65_init_join.proofs.unit.raise_type.Goals as goal

pub returns-else-by-gt0 : goal.returns-else-by-gt0
returns-else-by-gt0 c = sym (unraised c.args.by (qty_of c.args.ty.now) c.if-by-gt0.false)
