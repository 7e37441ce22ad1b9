use Rattle.c65_ctype.specs.Views.{qty_of}
use Rattle.c65_elab_declare.specs.Headings.{heading_of}
use Rattle.c65_elab_scope.specs.Scopes.{scope_of}
use Rattle.c65_tree.specs.View.{declarator_of}
use Rattle.c65_elab_law.proofs.Answered.{if_gives}
use Rattle.c65_elab_law.proofs.HeadingLaws.{headed_keeps}
use Rattle.c65_elab_law.proofs.calls.typed_heading.Goals as goal

pub returns : goal.returns
returns c = if_gives _ _ c.elab_heading.result _ c.elab_heading.ensures (λ h same. headed_keeps (qty_of c.args.base.now) (declarator_of c.args.item.now) (scope_of c.args.scope.now) (heading_of h, scope_of c.elab_heading.new.scope) c.requires.ranged c.requires.scoped same)
