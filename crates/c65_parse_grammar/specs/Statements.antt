-- The productions of C90 6.5 and 6.5.7, 6.6 and 6.7: declarations and initialisers, statements, and units. Each says
-- which tokens a tree has in a scope.
use Rattle.std.specs.Prelude.{◌≡◌, ◌≤◌, Bool, true, false, Option, None, Some, List, [], ◌∷◌}
use Rattle.c65_base.specs.declared.refusal.Pos.{Pos}
use Rattle.c65_scan.specs.declared.token.Keyword.TheVariants as keywords
use Rattle.c65_scan.specs.declared.token.Punct.TheVariants as puncts
use Rattle.c65_scan.specs.declared.token.TokenKind.TheVariants as kinds
use Rattle.c65_tree.specs.Trees as t
use Rattle.c65_parse_grammar.specs.Phrases.{Phrase, ◌▸◌, nothing, given, one, some, word, some_word, mark, some_mark}
use Rattle.c65_parse_grammar.specs.Spellings.{comma_unless}
use Rattle.c65_parse_grammar.specs.Parts.{level, start, declarator_start, has_type, is_typedef}
use Rattle.c65_parse_grammar.specs.Scopes.{Scope, after, after_specifiers, after_inits, after_maybe_init, declared, after_decl, after_decls, after_option, after_stmt, after_stmts, in_function, after_head, after_item}
use Rattle.c65_parse_grammar.specs.Expressions.{named, expr, specifiers, declarator}

abbrev pub is_no_init : t.InitList → Bool
is_no_init t.no_inits = true
is_no_init (t.and_init is i) = false

-- a comma, or nothing
abbrev pub optional_comma : Phrase
optional_comma ts = (without : Bool) × comma_unless without ts

-- C90 6.5.7
abbrev mutual
  pub initialiser : Scope → t.InitTree → Phrase
  initialiser sc (t.value l e) = given ((start e ≡ l) × (1 ≤ level e)) (expr sc e)
  initialiser sc (t.list l is) = mark l puncts.OpenBrace ▸ given (is_no_init is ≡ false) (initialisers sc is) ▸ optional_comma ▸ some_mark puncts.CloseBrace

  pub initialisers : Scope → t.InitList → Phrase
  initialisers sc t.no_inits = nothing
  initialisers sc (t.and_init is i) = initialisers sc is ▸ comma_unless (is_no_init is) ▸ initialiser (after_inits sc is) i

abbrev pub optional_init : Scope → Option t.InitTree → Phrase
optional_init sc None = nothing
optional_init sc (Some i) = some_mark puncts.Equal ▸ initialiser sc i

-- declarators behind these specifiers, each declared before its initialiser (C90 6.5, 6.1.2.1)
abbrev pub init_declarators : Bool → t.SpecifiersTree → Scope → List t.InitDeclaratorTree → Phrase
init_declarators first q sc [] = nothing
init_declarators first q sc (d ∷ ds) =
    let inner = declared (is_typedef q) sc d.declarator in
    comma_unless first ▸ declarator (named (has_type q)) sc (declarator_start d.declarator) d.declarator ▸ optional_init inner d.init ▸ init_declarators false q (after_maybe_init inner d.init) ds

-- C90 6.5: at least one specifier, and declarators or none
abbrev pub declaration : Scope → t.DeclTree → Phrase
declaration sc d = specifiers sc true d.specifiers ▸ init_declarators true d.specifiers (after_specifiers sc d.specifiers) d.declarators ▸ some_mark puncts.Semicolon

abbrev pub declarations : Scope → List t.DeclTree → Phrase
declarations sc [] = nothing
declarations sc (d ∷ ds) = declaration sc d ▸ declarations (after_decl sc d) ds

abbrev pub optional_expr : Scope → Option t.ExprTree → Phrase
optional_expr sc None = nothing
optional_expr sc (Some e) = expr sc e

abbrev pub first_place : Pos → Option t.ExprTree → Type 0
first_place l None = Unit {0}
first_place l (Some e) = start e ≡ l

-- an expression or nothing, and the semicolon, which has this place where it is the first token (C90 6.6.3)
abbrev pub expression_statement : Scope → Pos → Option t.ExprTree → Phrase
expression_statement sc l None = mark l puncts.Semicolon
expression_statement sc l (Some e) = given (start e ≡ l) (expr sc e ▸ some_mark puncts.Semicolon)

-- in parentheses
abbrev pub test : Scope → t.ExprTree → Phrase
test sc e = some_mark puncts.OpenParen ▸ expr sc e ▸ some_mark puncts.CloseParen

abbrev mutual
  -- whether an `else` behind the statement belongs elsewhere
  pub is_closed : t.StmtTree → Bool
  is_closed (t.label l n s) = is_closed s
  is_closed (t.case l e s) = is_closed s
  is_closed (t.default l s) = is_closed s
  is_closed (t.block l ds ss) = true
  is_closed (t.eval l e) = true
  is_closed (t.if_stmt l e s r) = is_closed_else r
  is_closed (t.switch l e s) = is_closed s
  is_closed (t.while l e s) = is_closed s
  is_closed (t.do_while l s e) = true
  is_closed (t.for l e f g s) = is_closed s
  is_closed (t.goto l n) = true
  is_closed (t.continue l) = true
  is_closed (t.break l) = true
  is_closed (t.return l e) = true

  pub is_closed_else : t.MaybeStmt → Bool
  is_closed_else t.no_stmt = false
  is_closed_else (t.a_stmt s) = is_closed s

-- an `else` belongs to the nearest `if` without one (C90 6.6.4.1)
abbrev pub before_else : t.StmtTree → t.MaybeStmt → Type 0
before_else s t.no_stmt = Unit {0}
before_else s (t.a_stmt r) = is_closed s ≡ true

-- C90 6.6
abbrev mutual
  pub statement : Scope → t.StmtTree → Phrase
  statement sc (t.label l n s) = one l (kinds.Name n) ▸ some_mark puncts.Colon ▸ statement sc s
  statement sc (t.case l e s) = word l keywords.Case ▸ given (2 ≤ level e) (expr sc e) ▸ some_mark puncts.Colon ▸ statement (after sc e) s
  statement sc (t.default l s) = word l keywords.Default ▸ some_mark puncts.Colon ▸ statement sc s
  statement sc (t.block l ds ss) = mark l puncts.OpenBrace ▸ declarations sc ds ▸ statements (after_decls sc ds) ss ▸ some_mark puncts.CloseBrace
  statement sc (t.eval l e) = expression_statement sc l e
  statement sc (t.if_stmt l e s r) = word l keywords.If ▸ test sc e ▸ given (before_else s r) (statement (after sc e) s) ▸ otherwise (after_stmt (after sc e) s) r
  statement sc (t.switch l e s) = word l keywords.Switch ▸ test sc e ▸ statement (after sc e) s
  statement sc (t.while l e s) = word l keywords.While ▸ test sc e ▸ statement (after sc e) s
  statement sc (t.do_while l s e) = word l keywords.Do ▸ statement sc s ▸ some_word keywords.While ▸ test (after_stmt sc s) e ▸ some_mark puncts.Semicolon
  statement sc (t.for l e f g s) =
      word l keywords.For ▸ some_mark puncts.OpenParen ▸ optional_expr sc e ▸ some_mark puncts.Semicolon
      ▸ optional_expr (after_option sc e) f ▸ some_mark puncts.Semicolon
      ▸ optional_expr (after_option (after_option sc e) f) g ▸ some_mark puncts.CloseParen
      ▸ statement (after_option (after_option (after_option sc e) f) g) s
  statement sc (t.goto l n) = word l keywords.Goto ▸ some (kinds.Name n) ▸ some_mark puncts.Semicolon
  statement sc (t.continue l) = word l keywords.Continue ▸ some_mark puncts.Semicolon
  statement sc (t.break l) = word l keywords.Break ▸ some_mark puncts.Semicolon
  statement sc (t.return l e) = word l keywords.Return ▸ optional_expr sc e ▸ some_mark puncts.Semicolon

  pub otherwise : Scope → t.MaybeStmt → Phrase
  otherwise sc t.no_stmt = nothing
  otherwise sc (t.a_stmt r) = some_word keywords.Else ▸ statement sc r

  pub statements : Scope → t.StmtList → Phrase
  statements sc t.no_stmts = nothing
  statements sc (t.and_stmt ss s) = statements sc ss ▸ statement (after_stmts sc ss) s

-- no specifiers have the place of what stands behind them
abbrev pub head_specifiers : Scope → Pos → t.SpecifiersTree → Phrase
head_specifiers sc m (t.specifiers l t.no_specifiers) = given (l ≡ m) nothing
head_specifiers sc m (t.specifiers l (t.and_specifier qs q)) = specifiers sc true (t.specifiers l (t.and_specifier qs q))

abbrev pub is_block : t.StmtTree → Bool
is_block (t.block l ds ss) = true
is_block _ = false

-- C90 6.7.1: the specifiers may lack; the declarations are those of old-style parameters
abbrev pub function : Scope → t.FunctionTree → Phrase
function sc f =
    let inner = in_function (after_head sc f) f.declarator in
    head_specifiers sc (declarator_start f.declarator) f.specifiers
    ▸ declarator (named (has_type f.specifiers)) (after_specifiers sc f.specifiers) (declarator_start f.declarator) f.declarator
    ▸ declarations inner f.declarations
    ▸ given (is_block f.body ≡ true) (statement (after_decls inner f.declarations) f.body)

abbrev pub item : Scope → t.ItemTree → Phrase
item sc (t.declaration d) = declaration sc d
item sc (t.definition f) = function sc f

abbrev pub items : Scope → List t.ItemTree → Phrase
items sc [] = nothing
items sc (i ∷ is) = item sc i ▸ items (after_item sc i) is

abbrev pub some_items : Scope → List t.ItemTree → Phrase
some_items sc [] ts = ⊥
some_items sc (i ∷ is) ts = items sc (i ∷ is) ts

-- C90 6.7: one item or more, and the end
abbrev pub translation_unit : Scope → t.UnitTree → Phrase
translation_unit sc u = some_items sc u.items ▸ some kinds.End
