use Rattle.std.proofs.Common.{false}
use Rattle.c65_ctype.specs.Views.{qty_of}
use Rattle.c65_elab_scope.specs.Scopes.{scope_of}
use Rattle.c65_tree.specs.View.{declarator_of}
use Rattle.c65_elab_law.proofs.Answered.{if_gives}
use Rattle.c65_elab_law.proofs.StepLaws.{shape_keeps}
use Rattle.c65_elab_law.proofs.TypingLaws.{parts_in_keeps}
use Rattle.c65_elab_law.proofs.calls.typed_declarator.Goals as goal

pub returns : goal.returns
returns c = if_gives _ _ c.elab_declarator.result _ c.elab_declarator.ensures (λ x same. shape_keeps (declarator_of c.args.item.now) (qty_of c.args.base.now) (parts_in_keeps (declarator_of c.args.item.now) c.requires.ranged false) (scope_of c.args.scope.now) ((x.0, qty_of x.1), scope_of c.elab_declarator.new.scope) c.requires.scoped same)
