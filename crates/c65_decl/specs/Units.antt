-- Function definitions and units (C90 6.7): the tree, the tokens behind it and the scope there.
use Rattle.std.specs.Prelude.{ℕ, List, [], ◌∷◌, ◌++◌, length, map, nat_eq, Bool, true, false, ◌&&◌, not, Result, Ok, Err, if◌then◌else◌}
use Rattle.c65_base.specs.Answers.{Fault, ◌>>=◌}
use Rattle.c65_scan.specs.declared.token.Token.{Token}
use Rattle.c65_tree.specs.declared.stmt.Item.{Item}
use Rattle.c65_tree.specs.Trees.{DeclTree, DeclaratorTree, SpecifiersTree, FunctionTree, ItemTree, declaration, definition, UnitTree}
use Rattle.c65_tree.specs.View.{item_of}
use Rattle.c65_parse_grammar.specs.Parts.{is_empty}
use Rattle.c65_parse_names.specs.Scopes.{Blocks, opened, closed}
use Rattle.c65_parse_names.specs.Blocks.{no_types}
use Rattle.c65_parse.specs.Machine.{nothing_there}
use Rattle.c65_parse.specs.Reading.{Answer, specifiers_read}
use Rattle.c65_parse_frames.specs.declared.sign.Mark.TheVariants as marks
use Rattle.c65_decl.specs.Words.{goes_on}
use Rattle.c65_decl.specs.Here.{sign_here, is_here, unexpected}
use Rattle.c65_decl.specs.Declaring.{naming_of, named_read, in_function}
use Rattle.c65_decl.specs.Decls.{declaration_from, empty_declaration, declarations_read}
use Rattle.c65_decl.specs.Statements.{statement_read}

abbrev pub body_read : (limit : ℕ) → List Token → SpecifiersTree → DeclaratorTree → List DeclTree → Blocks → List Token → Answer FunctionTree
body_read limit unit q d ds scope ts = do
  s ← statement_read limit unit scope ts
  Ok (record { specifiers = q; declarator = d; declarations = ds; body = s.0 }, s.1, closed s.2)

abbrev pub body_needed : (limit : ℕ) → List Token → SpecifiersTree → DeclaratorTree → List DeclTree → Blocks → List Token → Answer FunctionTree
body_needed limit unit q d ds scope ts = if is_here marks.OpenBrace ts then body_read limit unit q d ds scope ts else unexpected ts

-- behind its head: the declarations of old-style parameters and the body, in a block that its parameters begin (C90 6.7.1)
abbrev pub function_read : (limit : ℕ) → List Token → SpecifiersTree → DeclaratorTree → Blocks → List Token → Answer FunctionTree
function_read limit unit q d scope ts = do
  ds ← declarations_read limit unit (in_function d (opened scope)) ts
  body_needed limit unit q d ds.0 ds.2 ds.1

abbrev pub declaration_item : (limit : ℕ) → List Token → SpecifiersTree → DeclaratorTree → Blocks → List Token → Answer ItemTree
declaration_item limit unit q d scope ts = do
  e ← declaration_from limit unit q d scope ts
  Ok (declaration e.0, e.1, e.2)

abbrev pub function_item : (limit : ℕ) → List Token → SpecifiersTree → DeclaratorTree → Blocks → List Token → Answer ItemTree
function_item limit unit q d scope ts = do
  f ← function_read limit unit q d scope ts
  Ok (definition f.0, f.1, f.2)

abbrev pub item_from : (limit : ℕ) → List Token → SpecifiersTree → DeclaratorTree → Bool → Blocks → List Token → Answer ItemTree
item_from limit unit q d may_declare scope ts = if may_declare && goes_on (sign_here ts) then declaration_item limit unit q d scope ts else function_item limit unit q d scope ts

abbrev pub empty_item : SpecifiersTree → Blocks → List Token → Answer ItemTree
empty_item q scope ts = let e = empty_declaration q scope ts in Ok (declaration e.0, e.1, e.2)

abbrev pub declared_item : (limit : ℕ) → List Token → SpecifiersTree → Blocks → List Token → Answer ItemTree
declared_item limit unit q scope ts = do
  d ← named_read limit (naming_of q) scope ts
  item_from limit unit q d.0 (not (is_empty q)) d.2 d.1

abbrev pub behind_specifiers : (limit : ℕ) → List Token → SpecifiersTree → Blocks → List Token → Answer ItemTree
behind_specifiers limit unit q scope ts = if not (is_empty q) && is_here marks.Semicolon ts then empty_item q scope ts else declared_item limit unit q scope ts

-- a declaration or a definition; a declaration has a specifier
abbrev pub item_read : (limit : ℕ) → List Token → Blocks → List Token → Answer ItemTree
item_read limit unit scope ts = do
  q ← specifiers_read limit scope ts
  behind_specifiers limit unit q.0 q.2 q.1

abbrev pub items_of : List Item → List ItemTree
items_of is = map item_of is

abbrev pub with_item : List ItemTree → ItemTree → List ItemTree
with_item is i = is ++ i ∷ []

abbrev pub items_next : (List ItemTree → Blocks → List Token → Result (List ItemTree) Fault) → List ItemTree → Blocks → List Token → Result (List ItemTree) Fault
items_next go is scope ts = if is_here marks.End ts then Ok is else go is scope ts

abbrev pub items_run : (limit : ℕ) → List Token → List Token → List ItemTree → Blocks → List Token → Result (List ItemTree) Fault
items_run limit unit [] is scope ts = unexpected ts
items_run limit unit (u ∷ us) is scope ts = item_read limit unit scope ts >>= λ i. items_next (items_run limit unit us) (with_item is i.0) i.2 i.1

abbrev pub items_read : (limit : ℕ) → List Token → Blocks → List Token → Result (List ItemTree) Fault
items_read limit unit scope ts = items_run limit unit unit [] scope ts

abbrev pub whole_unit : (limit : ℕ) → List Token → Result UnitTree Fault
whole_unit limit unit = do
  is ← items_read limit unit (no_types ∷ []) unit
  Ok (record { items = is })

-- C90 6.7: one item or more, and the end; a list without an End is refused as an empty file is
abbrev pub unit_read : (limit : ℕ) → List Token → Result UnitTree Fault
unit_read limit unit = if nat_eq (length unit) 0 then Err nothing_there else whole_unit limit unit
