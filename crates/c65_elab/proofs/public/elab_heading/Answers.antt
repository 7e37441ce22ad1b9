use Rattle.std.proofs.Common.{map, ap}
use Rattle.c65_ctype.specs.Views.{qty_of, types_of}
use Rattle.c65_elab_scope.specs.Scopes.{scope_of}
use Rattle.c65_elab_declare.specs.Declarators.{part_of}
use Rattle.c65_elab.proofs.Headed.{headed_gives}
use Rattle.c65_elab.proofs.public.elab_heading.Goals as goal

pub returns : goal.returns
returns c = headed_gives (qty_of c.args.base.now) c.args.item.now (scope_of c.args.scope.now) c.in_ok-name.name (map part_of c.in_ok-name.list.items) (scope_of c.parts.new.scope) (scope_of c.leave_parameters.new.scope) c.object_count-objects.result c.in_ok-enumerators.enumerators.items (types_of c.types.result.now) (map part_of c.deref.result.now) (qty_of c.in_ok-ty.ty) c.heading_of.result c.in_ok-name.ensures c.in_ok-enumerators.ensures.left c.object_count-objects.ensures c.in_ok-enumerators.ensures.constants (ap types_of c.types.ensures) (ap (map part_of) c.deref.ensures.value) c.in_ok-ty.ensures c.heading_of.ensures
