use Rattle.std.proofs.Common.{◌≡◌, ◌≢◌, ap, subst, ◌∙◌, sym, None, Ok, List, [], ◌∷◌, ◌++◌, length}
use Rattle.indexmap.proofs.CallerLemmas.{insert_entry-new}
use Rattle.c65_base.specs.declared.refusal.Size.TheVariants as sizes
use Rattle.c65_base.specs.Limits.{limit_of}
use Rattle.c65_base.specs.declared.names.Name.{Name}
use Rattle.c65_macro.specs.declared.item.Macro.{Macro}
use Rattle.c65_macro.specs.contracts.table.Macros.{the_view}
use Rattle.c65_macro.specs.Table.{Table, find}
use Rattle.c65_macro.specs.Definitions.{added, same_macro}
use Rattle.c65_macro.proofs.Tables.{added-new, not_mapped}
use Rattle.c65_macro.proofs.table.Macros.add.Goals as goal

pub returns-clause-ok : goal.returns-clause-ok
returns-clause-ok c =
    let inside = c.self.inside in
    let after : List (Name × Macro) → Table = λ es. record { predefined = inside.predefined.entries; defined = es; words = inside.words; file = inside.file; offset = inside.offset } in
    let none : find c.args.item.name inside.defined.entries ≡ None = subst (λ t. find c.args.item.name t.defined ≡ None) (sym c.self.view_is) (not_mapped (λ old. same_macro old c.args.item) _ c.requires) in
    let e : c.insert.new.self.entries ≡ inside.defined.entries ++ (c.args.item.name, c.args.item) ∷ [] = c.in_ok-insert.ensures.entries ∙ insert_entry-new _ inside.defined c.args.item.name c.args.item none in
    let n : length inside.defined.entries ≡ c.len.result = sym c.len.ensures.len in
    let room : length inside.defined.entries ≢ limit_of sizes.Macros = λ (h : length inside.defined.entries ≡ limit_of sizes.Macros). c.if-len-eq-MACROS.false (sym n ∙ h) in
    subst (λ t. added t c.args.item c.args.pos None ≡ Ok (after c.insert.new.self.entries)) c.self.view_is (added-new (the_view inside) c.args.item c.args.pos room ∙ ap (λ es. Ok (after es)) (sym e))
