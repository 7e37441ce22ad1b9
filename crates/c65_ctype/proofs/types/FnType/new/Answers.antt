use Rattle.c65_ctype.proofs.ViewLaws.{fn_made}
use Rattle.c65_ctype.proofs.types.FnType.new.Goals as goal

pub returns : goal.returns
returns c = fn_made c.args.given c.args.params c.args.variadic c.args.cdecl
