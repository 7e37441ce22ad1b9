use Rattle.std.proofs.Common.{◌≡◌, ap, sym, ◌∙◌}
use Rattle.std.specs.List.{list_any}
use Rattle.c65_tree.specs.View.{specifier_of}
use Rattle.c65_parse_grammar.specs.Parts.{is_type_specifier}
use Rattle.c65_decl.proofs.Specifying.{type_among}
use Rattle.c65_decl.proofs.trees.has_type.Goals as goal

pub returns : goal.returns
returns c = c.any_type.ensures ∙ ap (list_any (λ q. is_type_specifier (specifier_of q))) c.deref.ensures.value ∙ sym (type_among c.args.specifiers.now)
