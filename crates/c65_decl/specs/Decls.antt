-- Declarations (C90 6.5): the tree, the tokens behind it and the scope there.
use Rattle.std.specs.Prelude.{ℕ, List, [], ◌∷◌, ◌++◌, map, Option, Ok, if◌then◌else◌}
use Rattle.c65_base.specs.Answers.{◌>>=◌}
use Rattle.c65_scan.specs.declared.token.Token.{Token}
use Rattle.c65_tree.specs.declared.stmt.Decl.{Decl}
use Rattle.c65_tree.specs.declared.stmt.InitDeclarator.{InitDeclarator}
use Rattle.c65_tree.specs.Trees.{DeclTree, DeclaratorTree, InitTree, InitDeclaratorTree, SpecifiersTree}
use Rattle.c65_tree.specs.View.{decl_of, declarator_of, init_declarator_of}
use Rattle.c65_parse_names.specs.Scopes.{Blocks}
use Rattle.c65_parse.specs.Reading.{Answer, after_token, specifiers_read}
use Rattle.c65_parse_frames.specs.declared.sign.Mark.TheVariants as marks
use Rattle.c65_decl.specs.declared.declaration.Declared.{Declared}
use Rattle.c65_decl.specs.declared.declaration.Declared.TheVariants as d
use Rattle.c65_decl.specs.declared.names.Naming.{Naming}
use Rattle.c65_decl.specs.Here.{is_here, begins_specifiers, unexpected, expected}
use Rattle.c65_decl.specs.Declaring.{naming_of, named_read}
use Rattle.c65_decl.specs.Initialisers.{optional_init_read}

-- where a reading of declarators stands: behind the last, or behind one more whose initialiser is still to be read
pub data Progress : Type 0 where
  all_declared : List InitDeclaratorTree → Progress
  more_declared : List InitDeclaratorTree → DeclaratorTree → Progress

abbrev pub declarators_of : List InitDeclarator → List InitDeclaratorTree
declarators_of ds = map init_declarator_of ds

abbrev pub declared_of : Declared → Progress
declared_of (d.All ds) = all_declared (declarators_of ds.items)
declared_of (d.More ds e) = more_declared (declarators_of ds.items) (declarator_of e)

abbrev pub decls_of : List Decl → List DeclTree
decls_of ds = map decl_of ds

abbrev pub with_declarator : List InitDeclaratorTree → DeclaratorTree → Option InitTree → List InitDeclaratorTree
with_declarator ds e i = ds ++ record { declarator = e; init = i } ∷ []

abbrev pub last_declarator : List InitDeclaratorTree → Blocks → List Token → Answer Progress
last_declarator ds scope ts = do
  a ← expected marks.Semicolon scope ts
  Ok (all_declared ds, a.0, a.1)

abbrev pub next_declarator : (limit : ℕ) → Naming → List InitDeclaratorTree → Blocks → List Token → Answer Progress
next_declarator limit naming ds scope ts = do
  e ← named_read limit naming scope ts
  Ok (more_declared ds e.0, e.1, e.2)

abbrev pub behind_declarator : (limit : ℕ) → Naming → List InitDeclaratorTree → Blocks → List Token → Answer Progress
behind_declarator limit naming ds scope ts = if is_here marks.Comma ts then next_declarator limit naming ds scope (after_token ts) else last_declarator ds scope ts

-- a declarator's initialiser, if it has one, and the next declarator behind a comma
abbrev pub declarators_step : (limit : ℕ) → List Token → Naming → List InitDeclaratorTree → DeclaratorTree → Blocks → List Token → Answer Progress
declarators_step limit unit naming ds e scope ts = do
  i ← optional_init_read limit unit scope ts
  behind_declarator limit naming (with_declarator ds e i.0) i.2 i.1

abbrev pub declarators_next : (List InitDeclaratorTree → DeclaratorTree → Blocks → List Token → Answer (List InitDeclaratorTree)) → Progress × List Token × Blocks → Answer (List InitDeclaratorTree)
declarators_next go (all_declared ds, ts, scope) = Ok (ds, ts, scope)
declarators_next go (more_declared ds e, ts, scope) = go ds e scope ts

abbrev pub declarators_run : (limit : ℕ) → List Token → Naming → List Token → List InitDeclaratorTree → DeclaratorTree → Blocks → List Token → Answer (List InitDeclaratorTree)
declarators_run limit unit naming [] ds e scope ts = unexpected ts
declarators_run limit unit naming (u ∷ us) ds e scope ts = declarators_step limit unit naming ds e scope ts >>= declarators_next (declarators_run limit unit naming us)

abbrev pub declarators_read : (limit : ℕ) → List Token → Naming → DeclaratorTree → Blocks → List Token → Answer (List InitDeclaratorTree)
declarators_read limit unit naming first scope ts = declarators_run limit unit naming unit [] first scope ts

-- with these specifiers and this first declarator
abbrev pub declaration_from : (limit : ℕ) → List Token → SpecifiersTree → DeclaratorTree → Blocks → List Token → Answer DeclTree
declaration_from limit unit q first scope ts = do
  ds ← declarators_read limit unit (naming_of q) first scope ts
  Ok (record { specifiers = q; declarators = ds.0 }, ds.1, ds.2)

-- without declarators, at the semicolon
abbrev pub empty_declaration : SpecifiersTree → Blocks → List Token → DeclTree × List Token × Blocks
empty_declaration q scope ts = (record { specifiers = q; declarators = [] }, after_token ts, scope)

abbrev pub declarators_begun : (limit : ℕ) → List Token → SpecifiersTree → Blocks → List Token → Answer DeclTree
declarators_begun limit unit q scope ts = do
  e ← named_read limit (naming_of q) scope ts
  declaration_from limit unit q e.0 e.2 e.1

abbrev pub behind_specifiers : (limit : ℕ) → List Token → SpecifiersTree → Blocks → List Token → Answer DeclTree
behind_specifiers limit unit q scope ts = if is_here marks.Semicolon ts then Ok (empty_declaration q scope ts) else declarators_begun limit unit q scope ts

abbrev pub declaration_read : (limit : ℕ) → List Token → Blocks → List Token → Answer DeclTree
declaration_read limit unit scope ts = do
  q ← specifiers_read limit scope ts
  behind_specifiers limit unit q.0 q.2 q.1

abbrev pub with_decl : List DeclTree → DeclTree → List DeclTree
with_decl ds e = ds ++ e ∷ []

-- declarations as long as specifiers stand here
abbrev pub declarations_run : (limit : ℕ) → List Token → List Token → List DeclTree → Blocks → List Token → Answer (List DeclTree)
declarations_run limit unit [] ds scope ts = unexpected ts
declarations_run limit unit (u ∷ us) ds scope ts = if begins_specifiers scope ts then (declaration_read limit unit scope ts >>= λ e. declarations_run limit unit us (with_decl ds e.0) e.2 e.1) else Ok (ds, ts, scope)

abbrev pub declarations_read : (limit : ℕ) → List Token → Blocks → List Token → Answer (List DeclTree)
declarations_read limit unit scope ts = declarations_run limit unit unit [] scope ts
