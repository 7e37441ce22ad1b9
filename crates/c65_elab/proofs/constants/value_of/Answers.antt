use Rattle.std.proofs.Common.{sym, subst}
use Rattle.c65_base.specs.declared.refusal.Pos.{Pos}
use Rattle.c65_base.specs.Answers.{Gives}
use Rattle.c65_csem.specs.Views.{typed_of}
use Rattle.c65_elab.specs.Constants.{value_at}
use Rattle.c65_elab.proofs.Parts.{place_is}
use Rattle.c65_elab.proofs.constants.value_of.Goals as goal

pub returns : goal.returns
returns c = subst (λ (l : Pos). Gives (λ z. z) c.value_at.result (value_at (typed_of c.args.e.now) l)) (sym (place_is c.args.tree.now.pos c.args.tree.now.kind)) c.value_at.ensures
