use Rattle.std.proofs.Common.{◌∙◌, sym, ap, true}
use Rattle.c65_lex.specs.declared.token.PpKind.TheVariants as kinds
use Rattle.std.specs.Prelude.{decimal}
use Rattle.c65_macro.specs.Table.{same_name, line_of}
use Rattle.c65_macro.specs.Sets.{Set, set_of}
use Rattle.c65_macro.specs.Items.{Item, made, done}
use Rattle.c65_macro.specs.Expand
use Rattle.c65_macro.specs.Views.{item_of}
use Rattle.c65_macro.proofs.Seen.{gives_same}
use Rattle.c65_macro.proofs.Replacing.{if_true, if_false}
use Rattle.c65_macro.proofs.table.Macros.place_token.Goals as goal

pub returns-then-is_line-clause-value : goal.returns-then-is_line-clause-value
returns-then-is_line-clause-value c = λ nodes h.
    let table = c.args.self.now in
    let i = item_of nodes c.args.item in
    gives_same (item_of nodes) c.line_number.result c.line_number.new.names (Expand.place_token table c.args.names.now i c.args.name) (made c.args.names.now kinds.Number (decimal (line_of table i.token)) i.token.pos i.token.space (set_of nodes c.args.hide.0))
    (if_true (same_name c.args.name table.words.line) _ _ (sym c.is_line.ensures ∙ c.if-is_line.true) ∙ ap (λ (s : Set). made c.args.names.now kinds.Number (decimal (line_of table i.token)) i.token.pos i.token.space s) (sym h))
    (c.line_number.ensures.value nodes)

pub returns-clause-value : goal.returns-clause-value
returns-clause-value c = λ nodes h.
    let table = c.args.self.now in
    let i = item_of nodes c.args.item in
    if_false (same_name c.args.name table.words.line) _ _ (sym c.is_line.ensures ∙ c.if-is_line.false)
    ∙ ap (λ (s : Set). done c.args.names.now (record { token = record { kind = kinds.Text; spelling = table.file; pos = i.token.pos; space = i.token.space }; hide = s; put = true })) (sym h)
    ∙ ap (λ (x : Item). done c.args.names.now x) (sym (c.file_name.ensures nodes))
