use Rattle.std.proofs.Common.{◌≡◌, ◌∙◌, List, map, sym, ap}
use Rattle.c65_tree.specs.declared.stmt.Initialiser.{Initialiser}
use Rattle.c65_tree.specs.declared.stmt.InitKind.{InitKind}
use Rattle.c65_tree.specs.View.{init_at, init_of}
use Rattle.c65_init_cells.specs.Values.{init_text, only_text}
use Rattle.c65_init_cells.proofs.ItemLaws.{text_list}
use Rattle.c65_init_cells.proofs.texts.whole_text.Goals as goal

pub returns-in-List : goal.returns-in-List
returns-in-List c = c.text_in.ensures ∙ ap (λ (is : List Initialiser). only_text (map init_of is)) c.deref.ensures.value ∙ sym (ap (λ (k : InitKind). init_text (init_at c.args.init.now.pos k)) c.in-List.is ∙ text_list c.args.init.now.pos c.in-List.items)
