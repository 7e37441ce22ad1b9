use Rattle.std.proofs.Common.{◌≡◌, drop}
use Rattle.std.specs.List.{list_any}
use Rattle.c65_tree.specs.View.{specifier_of}
use Rattle.c65_parse_grammar.specs.Parts.{is_typedef_specifier}
use Rattle.c65_decl.proofs.trees.any_typedef.Given as goal

abbrev pub invariant-loop-item : goal.invariant-loop-item
invariant-loop-item l = list_any (λ q. is_typedef_specifier (specifier_of q)) (drop l.item-index l.items) ≡ list_any (λ q. is_typedef_specifier (specifier_of q)) l.items
