use Rattle.std.proofs.Common.{subst}
use Rattle.c65_base.specs.Answers.{Gives}
use Rattle.c65_ctype.specs.declared.types.TagTable.{TagTable}
use Rattle.c65_ctype.specs.Views.{ty_of, types_of}
use Rattle.c65_csem.specs.Views.{typed_of}
use Rattle.c65_elab_convert.specs.Changes.{assigned_of}
use Rattle.c65_init.proofs.values.converted.Goals as goal

pub returns : goal.returns
returns c = subst (λ (u : TagTable). Gives typed_of c.assigned.result (assigned_of (types_of u) c.args.pos (ty_of c.args.ty.now) (typed_of c.args.typed))) c.types.ensures c.assigned.ensures
