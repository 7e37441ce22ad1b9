use Rattle.std.proofs.Common.{◌∙◌, ℕ, List, [], ◌∷◌, ap, sym}
use Rattle.c65_base.specs.declared.names.Name.{Name}
use Rattle.c65_lex.specs.declared.token.PpKind.{PpKind}
use Rattle.c65_macro.specs.declared.item.Macro.{Macro}
use Rattle.c65_macro.specs.Items.{Outcome, done, ◌>>=◌, learn}
use Rattle.c65_macro.specs.Predefined
use Rattle.c65_macro.proofs.predefined.add_given.Goals as goal

pub returns-clause-value : goal.returns-clause-value
returns-clause-value c =
    let given = c.args.given in
    let macros = c.args.table.now.entries in
    let names = c.spelled.new.names in
    let f : List (List ℕ) → Name → Outcome (List (Name × Macro)) = λ names n. learn names (Predefined.text given) >>= λ names t. done names (Predefined.put macros n (Predefined.one_token (Predefined.kind given) t ∷ [])) in
    let g : List (List ℕ) → Name → Outcome (List (Name × Macro)) = λ names t. done names (Predefined.put macros c.in_ok-name.name (Predefined.one_token (Predefined.kind given) t ∷ [])) in
    ap (λ s. learn c.args.names.now s >>= f) (sym c.name.ensures)
    ∙ ap (λ (z : Outcome Name). z >>= f) c.in_ok-name.ensures.value
    ∙ ap (λ s. learn names s >>= g) (sym c.text.ensures)
    ∙ ap (λ (z : Outcome Name). z >>= g) c.in_ok-spelling.ensures.value
    ∙ ap (λ (k : PpKind). done c.spelled-2.new.names (Predefined.put macros c.in_ok-name.name (Predefined.one_token k c.in_ok-spelling.spelling ∷ []))) (sym c.kind.ensures)
    ∙ ap (λ l. done c.spelled-2.new.names l) (sym c.in_ok-add.ensures)
