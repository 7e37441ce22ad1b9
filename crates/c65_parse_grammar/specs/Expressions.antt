-- The productions of C90 6.3 and of what holds with them: type names, specifiers, members, enumerators, declarators and
-- parameters (C90 6.5.2 to 6.5.5). Each says which tokens a tree has in a scope. A list has its items in their order.
use Rattle.std.specs.Prelude.{◌≡◌, ◌+◌, ◌≤◌, Bool, true, false, if◌then◌else◌, Option, None, Some, is_some, List, [], ◌∷◌}
use Rattle.c65_base.specs.declared.names.Name.{Name}
use Rattle.c65_base.specs.declared.refusal.Pos.{Pos}
use Rattle.c65_scan.specs.declared.token.Keyword.TheVariants as keywords
use Rattle.c65_scan.specs.declared.token.Punct.{Punct}
use Rattle.c65_scan.specs.declared.token.Punct.TheVariants as puncts
use Rattle.c65_scan.specs.declared.token.TokenKind.TheVariants as kinds
use Rattle.c65_tree.specs.Trees as t
use Rattle.c65_parse_grammar.specs.Phrases.{Phrase, ◌▸◌, nothing, never, given, at_some, one, some, word, mark, some_mark}
use Rattle.c65_parse_grammar.specs.Spellings.{binary_punct, assign_punct, unary_punct, step_punct, is_before, member_punct, word_keyword, storage_keyword, tag_keyword, calling_keyword, optional_name, comma_unless, qualifiers}
use Rattle.c65_parse_grammar.specs.Parts.{level_of_binary, level_of_step, level, declarator_start, first_place, list_has_type, has_type, is_empty_list, declared_name, first_name, is_nameless, is_direct}
use Rattle.c65_parse_grammar.specs.Scopes.{Scope, after, after_exprs, after_type, after_specifiers, after_list, after_member_decls, after_member_list, after_enumerator_list, after_declarator, after_maybe_declarator, after_params}

-- what a declarator declares: a name that must stand, a name that may lack, a member, or none; the flag says that a
-- type specifier stands before it
pub data Sort : Type 0 where
  named : Bool → Sort
  param : Bool → Sort
  member : Bool → Sort
  abstract : Sort

-- where no type specifier stands, no name that is a type is declared anew (C90 6.5.6)
abbrev pub takes_name : Sort → Bool → Bool
takes_name (named typed) is_type = if is_type then typed else true
takes_name (param typed) is_type = if is_type then typed else true
takes_name (member typed) is_type = if is_type then typed else true
takes_name abstract is_type = false

abbrev pub may_lack : Sort → Bool
may_lack (named typed) = false
may_lack (param typed) = true
may_lack (member typed) = false
may_lack abstract = true

abbrev pub begins_with_type : Scope → Option Name → Bool
begins_with_type sc None = false
begins_with_type sc (Some n) = sc n

-- a parenthesis groups what it holds, where that is no empty declarator, and where the name may lack, what begins with
-- no type (C90 6.5.4.3, 6.5.5)
abbrev pub groups : Sort → Scope → t.DeclaratorTree → Bool
groups s sc d = if is_nameless d then false else (if may_lack s then (if begins_with_type sc (first_name d) then false else true) else true)

abbrev pub is_no_expr : t.ExprList → Bool
is_no_expr t.no_exprs = true
is_no_expr (t.and_expr es e) = false

abbrev pub is_no_member_decl : t.MemberDeclList → Bool
is_no_member_decl t.no_member_decls = true
is_no_member_decl (t.and_member_decl ds q ms) = false

abbrev pub is_no_member : t.MemberList → Bool
is_no_member t.no_more_members = true
is_no_member (t.and_member ms l d w) = false

abbrev pub is_no_enumerator : t.EnumeratorList → Bool
is_no_enumerator t.no_more_enumerators = true
is_no_enumerator (t.and_enumerator es l n v) = false

abbrev pub is_no_param : t.ParamList → Bool
is_no_param t.no_more_params = true
is_no_param (t.and_param ps q d) = false

-- an assignment's own token; a comparison has no compound form
abbrev pub assign_mark : Pos → Option Punct → Phrase
assign_mark l None = never
assign_mark l (Some p) = mark l p

abbrev pub has_expr : t.MaybeExpr → Bool
has_expr t.no_expr = false
has_expr (t.an_expr e) = true

-- the colon before a width, which is the first token of a member without a declarator
abbrev pub width_mark : Pos → t.MaybeDeclarator → Phrase
width_mark l t.no_declarator = mark l puncts.Colon
width_mark l (t.a_declarator d) = some_mark puncts.Colon

-- names that are no types, with commas (C90 6.5.4.3)
abbrev pub identifiers : Bool → Scope → List (Name × Pos) → Phrase
identifiers first sc [] = nothing
identifiers first sc (n ∷ ns) = comma_unless first ▸ given (sc n.0 ≡ false) (one n.1 (kinds.Name n.0)) ▸ identifiers false sc ns

abbrev pub identifier_list : Scope → List (Name × Pos) → Phrase
identifier_list sc [] = never
identifier_list sc (n ∷ ns) = identifiers true sc (n ∷ ns)

-- an operator before its operand, or behind it
abbrev pub in_order : Bool → Phrase → Phrase → Phrase
in_order true operator operand = operator ▸ operand
in_order false operator operand = operand ▸ operator

abbrev pub comma_at : Bool → Pos → Phrase
comma_at true l = nothing
comma_at false l = mark l puncts.Comma

abbrev mutual
  -- C90 6.3
  pub expr : Scope → t.ExprTree → Phrase
  expr sc (t.name l n) = given (sc n ≡ false) (one l (kinds.Name n))
  expr sc (t.number l ty n) = one l (kinds.Number ty n)
  expr sc (t.text l bs) = one l (kinds.Text bs)
  expr sc (t.paren l e) = mark l puncts.OpenParen ▸ expr sc e ▸ some_mark puncts.CloseParen
  expr sc (t.index l a i) = given (15 ≤ level a) (expr sc a) ▸ mark l puncts.OpenBracket ▸ expr (after sc a) i ▸ some_mark puncts.CloseBracket
  expr sc (t.call l f es) = given (15 ≤ level f) (expr sc f) ▸ mark l puncts.OpenParen ▸ arguments (after sc f) es ▸ some_mark puncts.CloseParen
  expr sc (t.member l e arrow n) = given (15 ≤ level e) (expr sc e) ▸ mark l (member_punct arrow) ▸ some (kinds.Name n)
  expr sc (t.step l how e) = in_order (is_before how) (mark l (step_punct how)) (given (level_of_step (is_before how) ≤ level e) (expr sc e))
  expr sc (t.unary l op e) = mark l (unary_punct op) ▸ given (13 ≤ level e) (expr sc e)
  expr sc (t.sizeof_expr l e) = word l keywords.Sizeof ▸ given (14 ≤ level e) (expr sc e)
  expr sc (t.sizeof_type l ty) = word l keywords.Sizeof ▸ some_mark puncts.OpenParen ▸ at_some (λ m. type_name sc m ty ▸ mark m puncts.CloseParen)
  expr sc (t.cast l ty e) = mark l puncts.OpenParen ▸ at_some (λ m. type_name sc m ty ▸ mark m puncts.CloseParen) ▸ given (13 ≤ level e) (expr (after_type sc ty) e)
  expr sc (t.binary l op a b) = given (level_of_binary op ≤ level a) (expr sc a) ▸ mark l (binary_punct op) ▸ given (level_of_binary op + 1 ≤ level b) (expr (after sc a) b)
  expr sc (t.and_also l a b) = given (4 ≤ level a) (expr sc a) ▸ mark l puncts.AndAnd ▸ given (5 ≤ level b) (expr (after sc a) b)
  expr sc (t.or_else l a b) = given (3 ≤ level a) (expr sc a) ▸ mark l puncts.OrOr ▸ given (4 ≤ level b) (expr (after sc a) b)
  expr sc (t.conditional l c a b) = given (3 ≤ level c) (expr sc c) ▸ mark l puncts.Question ▸ expr (after sc c) a ▸ some_mark puncts.Colon ▸ given (2 ≤ level b) (expr (after (after sc c) a) b)
  expr sc (t.assign l op a b) = given (14 ≤ level a) (expr sc a) ▸ assign_mark l (assign_punct op) ▸ given (1 ≤ level b) (expr (after sc a) b)
  expr sc (t.comma l a b) = expr sc a ▸ mark l puncts.Comma ▸ given (1 ≤ level b) (expr (after sc a) b)

  -- C90 6.3.2.2
  pub arguments : Scope → t.ExprList → Phrase
  arguments sc t.no_exprs = nothing
  arguments sc (t.and_expr es e) = arguments sc es ▸ comma_unless (is_no_expr es) ▸ given (1 ≤ level e) (expr (after_exprs sc es) e)

  -- behind a mark, a constant expression (C90 6.4); or nothing
  pub optional_constant : Scope → Phrase → t.MaybeExpr → Phrase
  optional_constant sc before t.no_expr = nothing
  optional_constant sc before (t.an_expr e) = before ▸ given (2 ≤ level e) (expr sc e)

  -- before a token at this place (C90 6.5.5)
  pub type_name : Scope → Pos → t.TypeTree → Phrase
  type_name sc m (t.type_name q d) = specifiers sc false q ▸ declarator abstract (after_specifiers sc q) m d

  -- one or more (C90 6.5); the flag says that a storage class may stand among them
  pub specifiers : Scope → Bool → t.SpecifiersTree → Phrase
  specifiers sc storage (t.specifiers l qs) = given ((is_empty_list qs ≡ false) × (first_place l qs ≡ l)) (specifier_list sc storage qs)

  pub specifier_list : Scope → Bool → t.SpecifierList → Phrase
  specifier_list sc storage t.no_specifiers = nothing
  specifier_list sc storage (t.and_specifier qs q) = specifier_list sc storage qs ▸ specifier (after_list sc qs) storage (list_has_type qs) q

  -- a name that is a type is a type specifier where none stands before it
  pub specifier : Scope → Bool → Bool → t.SpecifierTree → Phrase
  specifier sc storage typed (t.storage l c) = given (storage ≡ true) (word l (storage_keyword c))
  specifier sc storage typed (t.word l w) = word l (word_keyword w)
  specifier sc storage typed (t.typedef_name l n) = given ((typed ≡ false) × (sc n ≡ true)) (one l (kinds.Name n))
  specifier sc storage typed (t.tagged l union tag ms) = word l (tag_keyword union) ▸ optional_name tag ▸ members_in_braces sc (is_some tag) ms
  specifier sc storage typed (t.enum l tag es) = word l keywords.Enum ▸ optional_name tag ▸ enumerators_in_braces sc (is_some tag) es

  -- C90 6.5.2.1; without a tag they must stand
  pub members_in_braces : Scope → Bool → t.MaybeMembers → Phrase
  members_in_braces sc has_tag t.no_members = given (has_tag ≡ true) nothing
  members_in_braces sc has_tag (t.the_members ds) = given (is_no_member_decl ds ≡ false) (some_mark puncts.OpenBrace ▸ member_decls sc ds ▸ some_mark puncts.CloseBrace)

  pub member_decls : Scope → t.MemberDeclList → Phrase
  member_decls sc t.no_member_decls = nothing
  member_decls sc (t.and_member_decl ds q ms) = member_decls sc ds ▸ specifiers (after_member_decls sc ds) false q ▸ given (is_no_member ms ≡ false) (members (after_specifiers (after_member_decls sc ds) q) (has_type q) ms) ▸ some_mark puncts.Semicolon

  pub members : Scope → Bool → t.MemberList → Phrase
  members sc typed t.no_more_members = nothing
  members sc typed (t.and_member ms l d w) = members sc typed ms ▸ comma_unless (is_no_member ms) ▸ member_declarator (after_member_list sc ms) typed l (has_expr w) d ▸ optional_constant (after_maybe_declarator (after_member_list sc ms) d) (width_mark l d) w

  pub member_declarator : Scope → Bool → Pos → Bool → t.MaybeDeclarator → Phrase
  member_declarator sc typed l has_width t.no_declarator = given (has_width ≡ true) nothing
  member_declarator sc typed l has_width (t.a_declarator d) = given (declarator_start d ≡ l) (declarator (member typed) sc l d)

  -- C90 6.5.2.2; without a tag they must stand
  pub enumerators_in_braces : Scope → Bool → t.MaybeEnumerators → Phrase
  enumerators_in_braces sc has_tag t.no_enumerators = given (has_tag ≡ true) nothing
  enumerators_in_braces sc has_tag (t.the_enumerators es) = given (is_no_enumerator es ≡ false) (some_mark puncts.OpenBrace ▸ enumerators sc es ▸ some_mark puncts.CloseBrace)

  pub enumerators : Scope → t.EnumeratorList → Phrase
  enumerators sc t.no_more_enumerators = nothing
  enumerators sc (t.and_enumerator es l n v) = enumerators sc es ▸ comma_unless (is_no_enumerator es) ▸ one l (kinds.Name n) ▸ optional_constant (after_enumerator_list sc es) (some_mark puncts.Equal) v

  -- before a token at this place (C90 6.5.4, 6.5.5)
  pub declarator : Sort → Scope → Pos → t.DeclaratorTree → Phrase
  declarator s sc m (t.nameless l) = given ((may_lack s ≡ true) × (l ≡ m)) nothing
  declarator s sc m (t.named l n) = given (takes_name s (sc n) ≡ true) (one l (kinds.Name n))
  declarator s sc m (t.grouped l d) = given (groups s sc d ≡ true) (mark l puncts.OpenParen ▸ at_some (λ k. declarator s sc k d ▸ mark k puncts.CloseParen))
  declarator s sc m (t.calling l cdecl d) = word l (calling_keyword cdecl) ▸ declarator s sc m d
  declarator s sc m (t.pointer l c v d) = mark l puncts.Star ▸ qualifiers c v ▸ declarator s sc m d
  declarator s sc m (t.array l d n) = given (is_direct d ≡ true) (declarator s sc l d) ▸ mark l puncts.OpenBracket ▸ optional_constant (after_declarator sc d) nothing n ▸ some_mark puncts.CloseBracket
  declarator s sc m (t.function l d ps) = given (is_direct d ≡ true) (declarator s sc l d) ▸ mark l puncts.OpenParen ▸ params (after_declarator sc d) (is_some (declared_name d)) ps

  -- with the parenthesis that closes them; names alone stand only behind a declarator with a name (C90 6.5.4.3)
  pub params : Scope → Bool → t.ParamsTree → Phrase
  params sc has_name t.no_params = some_mark puncts.CloseParen
  params sc has_name (t.param_names ns) = given (has_name ≡ true) (identifier_list sc ns) ▸ some_mark puncts.CloseParen
  params sc has_name (t.param_types ps true) = given (is_no_param ps ≡ false) (at_some (λ k. param_list sc k ps ▸ mark k puncts.Comma)) ▸ some_mark puncts.Ellipsis ▸ some_mark puncts.CloseParen
  params sc has_name (t.param_types ps false) = given (is_no_param ps ≡ false) (at_some (λ k. param_list sc k ps ▸ mark k puncts.CloseParen))

  -- before a token at this place
  pub param_list : Scope → Pos → t.ParamList → Phrase
  param_list sc m t.no_more_params = nothing
  param_list sc m (t.and_param ps q d) = at_some (λ k. param_list sc k ps ▸ comma_at (is_no_param ps) k) ▸ specifiers (after_params sc ps) true q ▸ declarator (param (has_type q)) (after_specifiers (after_params sc ps) q) m d
