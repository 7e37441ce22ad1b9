-- What stands on the stack: the tokens that each open construct has so far, and the scope at its place.
use Rattle.std.proofs.Common.{◌≡◌, ℕ, ◌≤◌, List, [], ◌∷◌, Bool, true, false}
use Rattle.std.specs.Prelude.{Option, None, is_some, if◌then◌else◌}
use Rattle.c65_base.specs.declared.names.Name.{Name}
use Rattle.c65_base.specs.declared.refusal.Pos.{Pos}
use Rattle.c65_scan.specs.declared.token.Keyword.TheVariants as keywords
use Rattle.c65_scan.specs.declared.token.Punct.TheVariants as puncts
use Rattle.c65_scan.specs.declared.token.TokenKind.TheVariants as kinds
use Rattle.c65_tree.specs.Trees as t
use Rattle.c65_parse_trees.specs.declared.operator.Infix.{Infix}
use Rattle.c65_parse_trees.specs.declared.operator.Infix.TheVariants as infixes
use Rattle.c65_parse_trees.specs.declared.operator.Prefix.{Prefix}
use Rattle.c65_parse_trees.specs.declared.operator.Prefix.TheVariants as prefixes
use Rattle.c65_parse_trees.specs.Levels.{level_of, left_of_infix, level_of_infix}
use Rattle.c65_parse_trees.specs.Listings.{Listing, Listed, TagPart, Body, MembersPart, EnumPart, ParamsPart, NamesPart, first_or}
use Rattle.c65_parse_names.specs.Scopes.{Blocks}
use Rattle.c65_parse.specs.declared.frame.Derivation.{Derivation}
use Rattle.c65_parse.specs.declared.frame.Derivation.TheVariants as derivations
use Rattle.c65_parse.specs.declared.frame.TypeUse.{TypeUse}
use Rattle.c65_parse.specs.declared.frame.TypeUse.TheVariants as uses
use Rattle.c65_parse.specs.Frames as m
use Rattle.c65_parse.specs.Frames.{Operation, Frame, in_operation, in_paren, in_index, in_call, in_then, in_bound, in_width, in_value, in_type, in_type_declarator, in_members, in_member, in_params, in_param, in_group, in_derived}
use Rattle.c65_parse.specs.Expressions.{hole}
use Rattle.c65_parse_grammar.specs.Phrases.{Phrase, ◌▸◌, given, at_some, one, word, mark, some_mark}
use Rattle.c65_parse_grammar.specs.Spellings.{binary_punct, assign_punct, unary_punct, step_punct, is_before, calling_keyword, tag_keyword, optional_name, comma_unless, qualifiers}
use Rattle.c65_parse_grammar.specs.Parts.{list_has_type, list_is_typedef, has_type, is_typedef, is_empty_list, first_place, declarator_start, first_name, is_direct}
use Rattle.c65_parse_grammar.specs.Scopes.{Scope, after, after_exprs, after_type, after_specifiers, after_list, after_member_decls, after_member_list, after_enumerator_list, after_declarator, after_maybe_declarator, after_params}
use Rattle.c65_parse_grammar.specs.Expressions as g
use Rattle.c65_parse_grammar.specs.Expressions.{may_lack, begins_with_type, is_no_expr, is_no_member, is_no_enumerator, is_no_param, assign_mark, width_mark, identifier_list, comma_at}
use Rattle.c65_parse_law_sound.proofs.Says.{tag_word}

-- where a reading begins: the scope and the blocks round it, the least level of an expression, what a declarator there
-- declares, and whether a storage class may stand there
pub record Start : Type 0 where
  pub scope : Scope
  pub outer : Blocks
  pub least : ℕ
  pub sort : g.Sort
  pub storage : Bool

-- scopes behind what is being read
abbrev pub body_scope : Scope → Body → Scope
body_scope b body = after_member_decls (after_list b body.outer.items) body.decls

abbrev pub member_scope : Scope → MembersPart → Scope
member_scope b part = after_member_list (after_specifiers (body_scope b part.body) part.specifiers.tree) part.members

abbrev pub enum_scope : Scope → EnumPart → Scope
enum_scope b part = after_enumerator_list (after_list b part.outer.items) part.enumerators

abbrev pub params_scope : Scope → ParamsPart → Scope
params_scope b part = after_params (after_declarator b part.declarator) part.params

abbrev pub in_operation_scope : Scope → Operation → Scope
in_operation_scope b (m.in_prefix l p) = b
in_operation_scope b (m.in_cast l ty) = after_type b ty
in_operation_scope b (m.in_right l i a) = after b a
in_operation_scope b (m.in_else l c a) = after (after b c) a

-- the scope at the place
abbrev pub inside : Scope → Frame → Scope
inside b (in_operation o) = in_operation_scope b o
inside b (in_paren l) = b
inside b (in_index l a) = after b a
inside b (in_call l f es) = after_exprs (after b f) es
inside b (in_then l c) = after b c
inside b (in_bound l d) = after_declarator b d
inside b (in_width part l d) = after_maybe_declarator (member_scope b part) d
inside b (in_value part n l) = enum_scope b part
inside b (in_type l purpose) = b
inside b (in_type_declarator l purpose q) = after_specifiers b q
inside b (in_members body) = body_scope b body
inside b (in_member part l) = member_scope b part
inside b (in_params part) = params_scope b part
inside b (in_param part q) = after_specifiers (params_scope b part) q.tree
inside b (in_group l) = b
inside b (in_derived l how) = b

-- parameters are a block of their own
abbrev pub outside : Scope → Frame → Blocks → Blocks
outside b (in_params part) outer = after_declarator b part.declarator ∷ outer
outside b (in_param part q) outer = after_declarator b part.declarator ∷ outer
outside b _ outer = outer

abbrev pub scope_at : Start → List Frame → Scope
scope_at w [] = w.scope
scope_at w (f ∷ fs) = inside (scope_at w fs) f

abbrev pub outer_at : Start → List Frame → Blocks
outer_at w [] = w.outer
outer_at w (f ∷ fs) = outside (scope_at w fs) f (outer_at w fs)

abbrev pub sort_at : Start → List Frame → g.Sort
sort_at w [] = w.sort
sort_at w (in_type_declarator l purpose q ∷ fs) = g.abstract
sort_at w (in_param part q ∷ fs) = g.param q.has_type
sort_at w (in_member part l ∷ fs) = g.member part.specifiers.has_type
sort_at w (f ∷ fs) = sort_at w fs

abbrev pub storage_at : Start → List Frame → Bool
storage_at w [] = w.storage
storage_at w (in_params part ∷ fs) = true
storage_at w (f ∷ fs) = false

-- what the machine notes of specifiers is so
pub record IsListing (q : Listing) : Type 0 where
  pub first : (l : Pos) → first_place l q.items ≡ first_or q.first l
  pub typed : q.has_type ≡ list_has_type q.items
  pub typedefs : q.is_typedef ≡ list_is_typedef q.items
  pub begun : is_some q.first ≡ (if is_empty_list q.items then false else true)

pub record IsListed (q : Listed) : Type 0 where
  pub typed : q.has_type ≡ has_type q.tree
  pub typedefs : q.is_typedef ≡ is_typedef q.tree

abbrev pub listing : Scope → Listing → Phrase
listing b q = given (IsListing q) (g.specifier_list b q.takes_storage q.items)

abbrev pub listed : Scope → Bool → Listed → Phrase
listed b storage q = given (IsListed q) (g.specifiers b storage q.tree)

-- the tokens of what is being read
abbrev pub tag_front : Scope → TagPart → Phrase
tag_front b part = listing b part.outer ▸ word part.pos (tag_word part.word)

abbrev pub body_front : Scope → Body → Phrase
body_front b body = (((listing b body.outer ▸ word body.pos (tag_keyword body.is_union)) ▸ optional_name body.tag) ▸ some_mark puncts.OpenBrace) ▸ g.member_decls (after_list b body.outer.items) body.decls

abbrev pub member_front : Scope → MembersPart → Phrase
member_front b part = (body_front b part.body ▸ listed (body_scope b part.body) false part.specifiers) ▸ (g.members (after_specifiers (body_scope b part.body) part.specifiers.tree) (has_type part.specifiers.tree) part.members ▸ comma_unless (is_no_member part.members))

abbrev pub enum_front : Scope → EnumPart → Phrase
enum_front b part = (((listing b part.outer ▸ word part.pos keywords.Enum) ▸ optional_name part.tag) ▸ some_mark puncts.OpenBrace) ▸ (g.enumerators (after_list b part.outer.items) part.enumerators ▸ comma_unless (is_no_enumerator part.enumerators))

-- a direct declarator and the mark behind it
abbrev pub suffix_front : g.Sort → Scope → Pos → t.DeclaratorTree → Phrase
suffix_front s b l d = given (is_direct d ≡ true) (g.declarator s b l d) ▸ mark l puncts.OpenParen

abbrev pub params_front : g.Sort → Scope → ParamsPart → Phrase
params_front s b part = suffix_front s b part.pos part.declarator ▸ at_some (λ k. g.param_list (after_declarator b part.declarator) k part.params ▸ comma_at (is_no_param part.params) k)

abbrev pub more_params_front : g.Sort → Scope → ParamsPart → Phrase
more_params_front s b part = suffix_front s b part.pos part.declarator ▸ given (is_no_param part.params ≡ false) (at_some (λ k. g.param_list (after_declarator b part.declarator) k part.params ▸ mark k puncts.Comma))

abbrev pub names_front : g.Sort → Scope → NamesPart → Phrase
names_front s b part = suffix_front s b part.pos part.declarator ▸ identifier_list (after_declarator b part.declarator) part.names

abbrev pub prefix_mark : Pos → Prefix → Phrase
prefix_mark l (prefixes.Unary op) = mark l (unary_punct op)
prefix_mark l (prefixes.Step how) = given (is_before how ≡ true) (mark l (step_punct how))
prefix_mark l prefixes.Sizeof = word l keywords.Sizeof

abbrev pub infix_mark : Pos → Infix → Phrase
infix_mark l (infixes.Binary op) = mark l (binary_punct op)
infix_mark l infixes.And = mark l puncts.AndAnd
infix_mark l infixes.Or = mark l puncts.OrOr
infix_mark l (infixes.Assign op) = assign_mark l (assign_punct op)
infix_mark l infixes.Comma = mark l puncts.Comma

-- an expression of at least this level
abbrev pub tight : ℕ → Scope → t.ExprTree → Phrase
tight least b e = given (least ≤ level_of e) (g.expr b e)

abbrev pub operation_front : Scope → Operation → Phrase
operation_front b (m.in_prefix l p) = prefix_mark l p
operation_front b (m.in_cast l ty) = mark l puncts.OpenParen ▸ at_some (λ k. g.type_name b k ty ▸ mark k puncts.CloseParen)
operation_front b (m.in_right l i a) = tight (left_of_infix i) b a ▸ infix_mark l i
operation_front b (m.in_else l c a) = ((tight 3 b c ▸ mark l puncts.Question) ▸ g.expr (after b c) a) ▸ some_mark puncts.Colon

abbrev pub derivation_front : Pos → Derivation → Phrase
derivation_front l (derivations.Pointer constant volatile) = mark l puncts.Star ▸ qualifiers constant volatile
derivation_front l (derivations.Calling cdecl) = word l (calling_keyword cdecl)

abbrev pub type_front : Pos → TypeUse → Phrase
type_front l uses.Cast = mark l puncts.OpenParen
type_front l uses.Sizeof = word l keywords.Sizeof ▸ some_mark puncts.OpenParen

-- the tokens of a construct before its place
abbrev pub frame_front : g.Sort → Scope → Frame → Phrase
frame_front s b (in_operation o) = operation_front b o
frame_front s b (in_paren l) = mark l puncts.OpenParen
frame_front s b (in_index l a) = tight 15 b a ▸ mark l puncts.OpenBracket
frame_front s b (in_call l f es) = (tight 15 b f ▸ mark l puncts.OpenParen) ▸ (g.arguments (after b f) es ▸ comma_unless (is_no_expr es))
frame_front s b (in_then l c) = tight 3 b c ▸ mark l puncts.Question
frame_front s b (in_bound l d) = given (is_direct d ≡ true) (g.declarator s b l d) ▸ mark l puncts.OpenBracket
frame_front s b (in_width part l d) = member_front b part ▸ (g.member_declarator (member_scope b part) (has_type part.specifiers.tree) l true d ▸ width_mark l d)
frame_front s b (in_value part n l) = (enum_front b part ▸ one l (kinds.Name n)) ▸ some_mark puncts.Equal
frame_front s b (in_type l purpose) = type_front l purpose
frame_front s b (in_type_declarator l purpose q) = type_front l purpose ▸ g.specifiers b false q
frame_front s b (in_members body) = body_front b body
frame_front s b (in_member part l) = member_front b part
frame_front s b (in_params part) = params_front s b part
frame_front s b (in_param part q) = params_front s b part ▸ listed (params_scope b part) true q
frame_front s b (in_group l) = mark l puncts.OpenParen
frame_front s b (in_derived l how) = derivation_front l how

abbrev pub fronts : Start → List Frame → Phrase
fronts w [] = λ ts. ts ≡ []
fronts w (f ∷ fs) = fronts w fs ▸ frame_front (sort_at w fs) (scope_at w fs) f

-- where the name may lack, no type's name begins a group
abbrev pub lacks : g.Sort → Scope → Option Name → Bool
lacks s b n = if may_lack s then (if begins_with_type b n then false else true) else true

-- what a place asks of a declarator that begins with this token
abbrev pub Suits : Start → List Frame → Pos → Option Name → Type 0
Suits w (in_member part first ∷ fs) l n = l ≡ first
Suits w (in_group first ∷ fs) l n = lacks (sort_at w fs) (scope_at w fs) n ≡ true
Suits w _ l n = Unit {0}

abbrev pub SuitsTree : Start → List Frame → t.DeclaratorTree → Type 0
SuitsTree w fs d = Suits w fs (declarator_start d) (first_name d)

abbrev pub NoGroup : List Frame → Type 0
NoGroup (in_group l ∷ fs) = ⊥
NoGroup _ = Unit {0}

-- the level of the operation's tree
abbrev pub rank_of_operation : Operation → ℕ
rank_of_operation (m.in_prefix l p) = 14
rank_of_operation (m.in_cast l ty) = 13
rank_of_operation (m.in_right l i a) = level_of_infix i
rank_of_operation (m.in_else l c a) = 2

abbrev pub TakesType : ℕ → TypeUse → Type 0
TakesType h uses.Cast = h ≤ 13
TakesType h uses.Sizeof = Unit {0}

-- what a construct owes to what is round it
abbrev pub Stands : Start → List Frame → Frame → Type 0
Stands w fs (in_operation o) = hole w.least fs ≤ rank_of_operation o
Stands w fs (in_then l c) = hole w.least fs ≤ 2
Stands w fs (in_type l purpose) = TakesType (hole w.least fs) purpose
Stands w fs (in_type_declarator l purpose q) = TakesType (hole w.least fs) purpose
Stands w fs (in_bound l d) = SuitsTree w fs d
Stands w fs (in_params part) = SuitsTree w fs part.declarator
Stands w fs (in_param part q) = SuitsTree w fs part.declarator
Stands w fs (in_members body) = body.outer.takes_storage ≡ storage_at w fs
Stands w fs (in_member part l) = part.body.outer.takes_storage ≡ storage_at w fs
Stands w fs (in_width part l d) = part.body.outer.takes_storage ≡ storage_at w fs
Stands w fs (in_value part n l) = part.outer.takes_storage ≡ storage_at w fs
Stands w fs (in_group l) = Suits w fs l None
Stands w fs (in_derived l how) = Suits w fs l None
Stands w fs _ = Unit {0}

abbrev pub Stand : Start → List Frame → Type 0
Stand w [] = w.least ≤ 13
Stand w (f ∷ fs) = Stands w fs f × Stand w fs
