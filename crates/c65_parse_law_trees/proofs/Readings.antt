-- What it is that a tree is read: from each state in which it is needed, its tokens lead to the state that has it.
use Rattle.std.proofs.Common.{◌≡◌, ℕ, suc, ◌+◌, ◌≤◌, List, ◌∷◌, ◌++◌, length, Bool, true, false}
use Rattle.std.specs.Prelude.{Option, None, Some}
use Rattle.c65_base.specs.declared.names.Name.{Name}
use Rattle.c65_base.specs.declared.refusal.Pos.{Pos}
use Rattle.c65_scan.specs.declared.token.Punct.{Punct}
use Rattle.c65_scan.specs.declared.token.Punct.TheVariants as puncts
use Rattle.c65_scan.specs.declared.token.Token.{Token}
use Rattle.c65_scan.specs.declared.token.TokenKind.TheVariants as kinds
use Rattle.c65_tree.specs.Trees as t
use Rattle.c65_tree.specs.Depth.{expr_depth, exprs_depth, type_depth, specifier_list_depth, specifier_depth, member_decls_depth, member_list_depth, enumerator_list_depth, declarator_depth, param_list_depth}
use Rattle.c65_parse_trees.specs.Levels.{level_of}
use Rattle.c65_parse_trees.specs.Listings.{Listing, Listed, Body, MembersPart, EnumPart, ParamsPart, nothing_listed, list_with, with_enum, first_or}
use Rattle.c65_parse_names.specs.Scopes.{Blocks}
use Rattle.c65_parse.specs.declared.frame.Sort.{Sort}
use Rattle.c65_parse.specs.declared.frame.TypeUse.{TypeUse}
use Rattle.c65_parse.specs.Frames.{Frame, in_call, in_type, in_type_declarator, in_members, in_params, in_param, Held, operand, called, have_expr, specifiers, more_members, member, enumerator, declarator, have_declarator}
use Rattle.c65_parse.specs.Expressions.{hole, with_decl}
use Rattle.c65_parse.specs.Machine.{run}
use Rattle.c65_parse_grammar.specs.Phrases.{token}
use Rattle.c65_parse_grammar.specs.Parts.{has_type, is_typedef, list_has_type, list_is_typedef, specifier_place, is_type_specifier, is_typedef_specifier}
use Rattle.c65_parse_grammar.specs.Scopes.{Scope, after, after_exprs, after_type, after_specifiers, after_list, after_specifier, after_member_decls, after_member_list, after_enumerator_list, after_declarator, after_params}
use Rattle.c65_parse_grammar.specs.Expressions as g
use Rattle.c65_parse_law_trees.specs.Tokens.{sort_of, Bare, NoSuffix}
use Rattle.c65_parse_law_trees.proofs.Edges.{edge, Follows}
use Rattle.c65_parse_law_trees.proofs.Runs.{First}

abbrev pub ReadsExpr : (limit : ℕ) → t.ExprTree → Type 0
ReadsExpr limit e = (least : ℕ) (sc : Scope) (outer : Blocks) (fs : List Frame) (xs rest : List Token) → g.expr sc e xs → hole least fs ≤ level_of e → expr_depth e + length fs ≤ limit → Follows (edge (level_of e)) rest
    → run limit least (sc ∷ outer) fs operand (xs ++ rest) ≡ run limit least (after sc e ∷ outer) fs (have_expr e) rest

abbrev pub ReadsMaybe : (limit : ℕ) → t.MaybeExpr → Type 0
ReadsMaybe limit t.no_expr = Unit {0}
ReadsMaybe limit (t.an_expr e) = ReadsExpr limit e

-- arguments, the first of them behind the parenthesis
abbrev pub ReadsExprs : (limit : ℕ) → t.ExprList → Type 0
ReadsExprs limit t.no_exprs = Unit {0}
ReadsExprs limit (t.and_expr es e) = (least : ℕ) (sc : Scope) (outer : Blocks) (l : Pos) (f : t.ExprTree) (fs : List Frame) (xs rest : List Token) → g.arguments sc (t.and_expr es e) xs → exprs_depth (t.and_expr es e) + suc (length fs) ≤ limit → Follows 0 rest
    → run limit least (sc ∷ outer) fs (called l f) (xs ++ rest) ≡ run limit least (after_exprs sc (t.and_expr es e) ∷ outer) (in_call l f es ∷ fs) (have_expr e) rest

-- a type name in parentheses, as far as their end
abbrev pub ReadsType : (limit : ℕ) → t.TypeTree → Type 0
ReadsType limit (t.type_name q d) = (least : ℕ) (sc : Scope) (outer : Blocks) (l : Pos) (purpose : TypeUse) (fs : List Frame) (m : Pos) (xs rest : List Token) → g.type_name sc m (t.type_name q d) xs → type_depth (t.type_name q d) + suc (length fs) ≤ limit
    → run limit least (sc ∷ outer) (in_type l purpose ∷ fs) (specifiers (nothing_listed false)) (xs ++ token (kinds.Punct puncts.CloseParen) m ∷ rest) ≡ run limit least (after_type sc (t.type_name q d) ∷ outer) (in_type_declarator l purpose q ∷ fs) (have_declarator d) (token (kinds.Punct puncts.CloseParen) m ∷ rest)

abbrev pub first_of : t.SpecifierList → Option Pos
first_of t.no_specifiers = None
first_of (t.and_specifier qs q) = Some (first_or (first_of qs) (specifier_place q))

-- what is noted of specifiers
abbrev pub listing_of : Bool → t.SpecifierList → Listing
listing_of storage qs = record { first = first_of qs; items = qs; has_type = list_has_type qs; is_typedef = list_is_typedef qs; takes_storage = storage }

abbrev pub listed_of : t.SpecifiersTree → Listed
listed_of q = record { tree = q; has_type = has_type q; is_typedef = is_typedef q }

abbrev pub NoBrace : Token → Type 0
NoBrace tok = elim tok.kind as (λ _. Type 0) [
  | kinds.Punct puncts.OpenBrace ↦ ⊥
  | _ ↦ Unit {0}
]

abbrev pub ReadsList : (limit : ℕ) → t.SpecifierList → Type 0
ReadsList limit qs = (least : ℕ) (sc : Scope) (outer : Blocks) (storage : Bool) (fs : List Frame) (xs rest : List Token) → g.specifier_list sc storage qs xs → specifier_list_depth qs + length fs ≤ limit → First NoBrace rest
    → run limit least (sc ∷ outer) fs (specifiers (nothing_listed storage)) (xs ++ rest) ≡ run limit least (after_list sc qs ∷ outer) fs (specifiers (listing_of storage qs)) rest

abbrev pub ReadsSpecifiers : (limit : ℕ) → t.SpecifiersTree → Type 0
ReadsSpecifiers limit (t.specifiers l qs) = ReadsList limit qs

-- one more specifier
abbrev pub ReadsSpecifier : (limit : ℕ) → t.SpecifierTree → Type 0
ReadsSpecifier limit q = (least : ℕ) (sc : Scope) (outer : Blocks) (so_far : Listing) (fs : List Frame) (xs rest : List Token) → g.specifier sc so_far.takes_storage so_far.has_type q xs → specifier_depth q + length fs ≤ limit → First NoBrace rest
    → run limit least (sc ∷ outer) fs (specifiers so_far) (xs ++ rest) ≡ run limit least (after_specifier sc q ∷ outer) fs (specifiers (list_with so_far (specifier_place q) q (is_type_specifier q) (is_typedef_specifier q))) rest

abbrev pub body : Listing → Pos → Bool → Option Name → t.MemberDeclList → Body
body q l union tag ds = record { outer = q; pos = l; is_union = union; tag = tag; decls = ds }

-- declarations of members, the first of them behind the brace
abbrev pub ReadsDecls : (limit : ℕ) → t.MemberDeclList → Type 0
ReadsDecls limit t.no_member_decls = Unit {0}
ReadsDecls limit (t.and_member_decl ds q ms) = (least : ℕ) (sc : Scope) (outer : Blocks) (so_far : Listing) (l : Pos) (union : Bool) (tag : Option Name) (fs : List Frame) (xs rest : List Token) → g.member_decls sc (t.and_member_decl ds q ms) xs → member_decls_depth (t.and_member_decl ds q ms) + suc (length fs) ≤ limit
    → run limit least (sc ∷ outer) (in_members (body so_far l union tag t.no_member_decls) ∷ fs) (specifiers (nothing_listed false)) (xs ++ rest) ≡ run limit least (after_member_decls sc (t.and_member_decl ds q ms) ∷ outer) fs (more_members (body so_far l union tag (t.and_member_decl ds q ms))) rest

abbrev pub ReadsMembers_in : (limit : ℕ) → t.MaybeMembers → Type 0
ReadsMembers_in limit t.no_members = Unit {0}
ReadsMembers_in limit (t.the_members ds) = ReadsDecls limit ds

abbrev pub part_of : Body → t.SpecifiersTree → t.MemberList → MembersPart
part_of b q ms = record { body = b; specifiers = listed_of q; members = ms }

-- a comma, or the mark behind the last
abbrev pub member_mark : Bool → Punct
member_mark true = puncts.Semicolon
member_mark false = puncts.Comma

abbrev pub member_held : Bool → MembersPart → Held
member_held true part = more_members (with_decl part)
member_held false part = member part

-- members, and the mark behind them
abbrev pub ReadsMembers : (limit : ℕ) → t.MemberList → Type 0
ReadsMembers limit t.no_more_members = Unit {0}
ReadsMembers limit (t.and_member ms l d w) = (least : ℕ) (sc : Scope) (outer : Blocks) (b : Body) (q : t.SpecifiersTree) (fs : List Frame) (last : Bool) (m : Pos) (xs rest : List Token) → g.members sc (has_type q) (t.and_member ms l d w) xs → member_list_depth (t.and_member ms l d w) + suc (length fs) ≤ limit
    → run limit least (sc ∷ outer) fs (member (part_of b q t.no_more_members)) (xs ++ token (kinds.Punct (member_mark last)) m ∷ rest) ≡ run limit least (after_member_list sc (t.and_member ms l d w) ∷ outer) fs (member_held last (part_of b q (t.and_member ms l d w))) rest

abbrev pub enum_part : Listing → Pos → Option Name → t.EnumeratorList → EnumPart
enum_part q l tag es = record { outer = q; pos = l; tag = tag; enumerators = es }

abbrev pub enumerator_mark : Bool → Punct
enumerator_mark true = puncts.CloseBrace
enumerator_mark false = puncts.Comma

abbrev pub enumerator_held : Bool → EnumPart → Held
enumerator_held true part = specifiers (with_enum part)
enumerator_held false part = enumerator part

-- enumerators, and the mark behind them
abbrev pub ReadsEnumerators : (limit : ℕ) → t.EnumeratorList → Type 0
ReadsEnumerators limit t.no_more_enumerators = Unit {0}
ReadsEnumerators limit (t.and_enumerator es l n v) = (least : ℕ) (sc : Scope) (outer : Blocks) (so_far : Listing) (k : Pos) (tag : Option Name) (fs : List Frame) (last : Bool) (m : Pos) (xs rest : List Token) → g.enumerators sc (t.and_enumerator es l n v) xs → enumerator_list_depth (t.and_enumerator es l n v) + suc (length fs) ≤ limit
    → run limit least (sc ∷ outer) fs (enumerator (enum_part so_far k tag t.no_more_enumerators)) (xs ++ token (kinds.Punct (enumerator_mark last)) m ∷ rest) ≡ run limit least (after_enumerator_list sc (t.and_enumerator es l n v) ∷ outer) fs (enumerator_held last (enum_part so_far k tag (t.and_enumerator es l n v))) rest

abbrev pub ReadsEnumerators_in : (limit : ℕ) → t.MaybeEnumerators → Type 0
ReadsEnumerators_in limit t.no_enumerators = Unit {0}
ReadsEnumerators_in limit (t.the_enumerators es) = ReadsEnumerators limit es

-- a token that ends the declarator
abbrev pub Halts : t.DeclaratorTree → Token → Type 0
Halts (t.nameless l) tok = (tok.pos ≡ l) × Bare tok.kind
Halts (t.named l n) tok = Unit {0}
Halts (t.grouped l d) tok = Unit {0}
Halts (t.calling l cdecl d) tok = NoSuffix tok.kind × Halts d tok
Halts (t.pointer l c v d) tok = NoSuffix tok.kind × Halts d tok
Halts (t.array l d n) tok = Unit {0}
Halts (t.function l d ps) tok = Unit {0}

abbrev pub ReadsDeclarator : (limit : ℕ) → t.DeclaratorTree → Type 0
ReadsDeclarator limit d = (least : ℕ) (sc : Scope) (outer : Blocks) (sort : Sort) (fs : List Frame) (m : Pos) (xs rest : List Token) → g.declarator (sort_of sort) sc m d xs → declarator_depth d + length fs ≤ limit → First (Halts d) rest
    → run limit least (sc ∷ outer) fs (declarator sort) (xs ++ rest) ≡ run limit least (after_declarator sc d ∷ outer) fs (have_declarator d) rest

abbrev pub ReadsMaybeDeclarator : (limit : ℕ) → t.MaybeDeclarator → Type 0
ReadsMaybeDeclarator limit t.no_declarator = Unit {0}
ReadsMaybeDeclarator limit (t.a_declarator d) = ReadsDeclarator limit d

abbrev pub params_part : Pos → t.DeclaratorTree → t.ParamList → ParamsPart
params_part l d ps = record { pos = l; declarator = d; params = ps }

abbrev pub param_mark : Bool → Punct
param_mark true = puncts.CloseParen
param_mark false = puncts.Comma

-- parameters, before the mark behind them
abbrev pub ReadsParams : (limit : ℕ) → t.ParamList → Type 0
ReadsParams limit t.no_more_params = Unit {0}
ReadsParams limit (t.and_param ps q d) = (least : ℕ) (sc : Scope) (outer : Blocks) (l : Pos) (of : t.DeclaratorTree) (fs : List Frame) (last : Bool) (m : Pos) (xs rest : List Token) → g.param_list sc m (t.and_param ps q d) xs → param_list_depth (t.and_param ps q d) + suc (length fs) ≤ limit
    → run limit least (sc ∷ outer) (in_params (params_part l of t.no_more_params) ∷ fs) (specifiers (nothing_listed true)) (xs ++ token (kinds.Punct (param_mark last)) m ∷ rest)
    ≡ run limit least (after_declarator (after_specifiers (after_params sc ps) q) d ∷ outer) (in_param (params_part l of ps) (listed_of q) ∷ fs) (have_declarator d) (token (kinds.Punct (param_mark last)) m ∷ rest)

abbrev pub ReadsParamsTree : (limit : ℕ) → t.ParamsTree → Type 0
ReadsParamsTree limit t.no_params = Unit {0}
ReadsParamsTree limit (t.param_names ns) = Unit {0}
ReadsParamsTree limit (t.param_types ps more) = ReadsParams limit ps
