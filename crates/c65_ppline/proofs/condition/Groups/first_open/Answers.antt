use Rattle.std.proofs.Common.{◌∙◌, ap, sym}
use Rattle.std.proofs.lemmas.List.{reverse-reverse}
use Rattle.c65_ppline.specs.Conditions.{first_pos, first_open}
use Rattle.c65_ppline.proofs.condition.Groups.first_open.Goals as goal

pub returns : goal.returns
returns c =
    c.first_pos.ensures ∙ ap first_pos (c.deref.ensures.value ∙ sym (reverse-reverse c.self.inside.groups.items)) ∙ ap first_open c.self.view_is
