-- What a token does where an expression is begun or goes on (C90 6.3).
use Rattle.std.specs.Prelude.{ℕ, ◌+◌, List, [], ◌∷◌, length, Bool, true, false, nat_le, nat_lt, if◌then◌else◌, Option, None, Some}
use Rattle.c65_base.specs.declared.refusal.Pos.{Pos}
use Rattle.c65_base.specs.declared.names.Name.{Name}
use Rattle.c65_base.specs.declared.operators.StepKind.{StepKind}
use Rattle.c65_base.specs.declared.operators.StepKind.TheVariants as steps
use Rattle.c65_scan.specs.declared.token.Token.{Token}
use Rattle.c65_scan.specs.declared.token.TokenKind.{TokenKind}
use Rattle.c65_scan.specs.declared.token.TokenKind.TheVariants as kinds
use Rattle.c65_tree.specs.Trees
use Rattle.c65_tree.specs.Trees.{ExprTree, ExprList, no_exprs, and_expr, DeclaratorTree, MaybeDeclarator, MaybeExpr, an_expr, and_member, and_member_decl, and_enumerator}
use Rattle.c65_tree.specs.Depth.{expr_depth}
use Rattle.c65_parse_trees.specs.declared.operator.Infix.{Infix}
use Rattle.c65_parse_trees.specs.declared.operator.Prefix.{Prefix}
use Rattle.c65_parse_trees.specs.declared.sign.Sign.{Sign}
use Rattle.c65_parse_trees.specs.declared.sign.Sign.TheVariants as signs
use Rattle.c65_parse.specs.declared.frame.Change.TheVariants as changes
use Rattle.c65_parse_trees.specs.Levels.{level_of, right_of_infix, right_of_prefix}
use Rattle.c65_parse_trees.specs.Plugs.{infix_tree, prefix_tree}
use Rattle.c65_parse_trees.specs.Signs.{left_of, rank_of, infix_of, prefix_of}
use Rattle.c65_parse_trees.specs.Listings.{MembersPart, Body, EnumPart, with_enum, nothing_listed}
use Rattle.c65_parse.specs.Frames.{Operation, in_prefix, in_cast, in_right, in_else, Frame, in_operation, in_paren, in_index, in_call, in_then, in_bound, in_width, in_value, Held, operand, opened, sizeof_word, called, dotted, have_expr, specifiers, more_members, member, enumerator, have_declarator, Next, go, stop, deep, fail, done_expr}

abbrev pub goes : List Frame → Held → Next
goes fs h = go fs h changes.Nothing

-- only where the tree keeps the limit
abbrev pub within : Bool → Next → Next
within true n = n
within false n = deep

-- whether a tree of this depth has room in what is open
abbrev pub has_room : (limit : ℕ) → List Frame → ℕ → Bool
has_room limit fs depth = nat_le (depth + length fs) limit

-- the token as a whole expression (C90 6.3.1)
abbrev pub leaf_of_kind : Pos → TokenKind → Bool → Option ExprTree
leaf_of_kind l (kinds.Keyword k) is_type = None
leaf_of_kind l (kinds.Name n) true = None
leaf_of_kind l (kinds.Name n) false = Some (Trees.name l n)
leaf_of_kind l (kinds.Number t n) is_type = Some (Trees.number l t n)
leaf_of_kind l (kinds.Text bytes) is_type = Some (Trees.text l bytes)
leaf_of_kind l (kinds.Punct p) is_type = None
leaf_of_kind l kinds.End is_type = None

abbrev pub leaf_of : Token → Bool → Option ExprTree
leaf_of token is_type = leaf_of_kind token.pos token.kind is_type

abbrev pub names_type : Sign → Bool
names_type (signs.Name n is_type) = is_type
names_type _ = false

abbrev pub begin_by : (limit : ℕ) → List Frame → Pos → Sign → Option Prefix → Next
begin_by limit fs l sign (Some p) = within (has_room limit fs 2) (goes (in_operation (in_prefix l p) ∷ fs) operand)
begin_by limit fs l signs.Sizeof None = within (has_room limit fs 2) (goes fs (sizeof_word l))
begin_by limit fs l signs.Open None = within (has_room limit fs 2) (goes fs (opened l))
begin_by limit fs l sign None = fail

abbrev pub begin_with : (limit : ℕ) → List Frame → Pos → Sign → Option ExprTree → Next
begin_with limit fs l sign (Some e) = within (has_room limit fs 1) (goes fs (have_expr e))
begin_with limit fs l sign None = begin_by limit fs l sign (prefix_of sign)

-- an operand is needed
unfoldable pub operand_step : (limit : ℕ) → List Frame → Token → Sign → Next
operand_step limit fs token sign = begin_with limit fs token.pos sign (leaf_of token (names_type sign))

-- the least level that the place takes
abbrev pub hole_of : Operation → ℕ
hole_of (in_prefix l p) = right_of_prefix p
hole_of (in_cast l t) = 13
hole_of (in_right l i a) = right_of_infix i
hole_of (in_else l c a) = 2

abbrev pub plug : Operation → ExprTree → ExprTree
plug (in_prefix l p) e = prefix_tree l p e
plug (in_cast l t) e = Trees.cast l t e
plug (in_right l i a) e = infix_tree l i a e
plug (in_else l c a) e = Trees.conditional l c a e

abbrev pub hole_of_frame : Frame → ℕ
hole_of_frame (in_operation o) = hole_of o
hole_of_frame (in_call l f es) = 1
hole_of_frame (in_bound l d) = 2
hole_of_frame (in_width part l d) = 2
hole_of_frame (in_value part n l) = 2
hole_of_frame _ = 0

-- the innermost place; where nothing is open it takes this level
abbrev pub hole : ℕ → List Frame → ℕ
hole least [] = least
hole least (f ∷ fs) = hole_of_frame f

-- whether a token that goes on to this level ends the construct
abbrev pub ends : ℕ → Frame → Bool
ends rank (in_operation o) = nat_lt rank (hole_of o)
ends rank _ = false

abbrev pub plug_frame : Frame → ExprTree → ExprTree
plug_frame (in_operation o) e = plug o e
plug_frame _ e = e

-- the expression before a token that goes on to this level, with the operations that it ends
abbrev pub reduce : ℕ → ExprTree → List Frame → ExprTree × List Frame
reduce rank e [] = (e, [])
reduce rank e (f ∷ fs) = if ends rank f then reduce rank (plug_frame f e) fs else (e, f ∷ fs)

abbrev pub goes_on : ℕ → ExprTree → List Frame → Sign → Bool
goes_on least e fs sign = if nat_le (left_of sign) (level_of e) then nat_le (hole least fs) (rank_of sign) else false

abbrev pub post : Bool → StepKind
post false = steps.PostInc
post true = steps.PostDec

unfoldable pub extend_by : Option Infix → ExprTree → List Frame → Pos → Sign → Next
extend_by (Some i) e fs l sign = goes (in_operation (in_right l i e) ∷ fs) operand
extend_by None e fs l signs.Open = goes fs (called l e)
extend_by None e fs l signs.OpenBracket = goes (in_index l e ∷ fs) operand
extend_by None e fs l (signs.Member arrow) = goes fs (dotted l arrow e)
extend_by None e fs l (signs.Step down) = goes fs (have_expr (Trees.step l (post down) e))
extend_by None e fs l signs.Question = goes (in_then l e ∷ fs) operand
extend_by None e fs l sign = fail

abbrev pub close_paren : Pos → ExprTree → List Frame → Sign → Next
close_paren l e fs signs.Close = goes fs (have_expr (Trees.paren l e))
close_paren l e fs _ = fail

abbrev pub close_index : Pos → ExprTree → ExprTree → List Frame → Sign → Next
close_index l a e fs signs.CloseBracket = goes fs (have_expr (Trees.index l a e))
close_index l a e fs _ = fail

abbrev pub close_call : Pos → ExprTree → ExprList → List Frame → Sign → Next
close_call l f es fs signs.Close = goes fs (have_expr (Trees.call l f es))
close_call l f es fs signs.Comma = goes (in_call l f es ∷ fs) operand
close_call l f es fs _ = fail

abbrev pub close_then : Pos → ExprTree → ExprTree → List Frame → Sign → Next
close_then l c e fs signs.Colon = goes (in_operation (in_else l c e) ∷ fs) operand
close_then l c e fs _ = fail

abbrev pub close_bound : Pos → DeclaratorTree → ExprTree → List Frame → Sign → Next
close_bound l d e fs signs.CloseBracket = goes fs (have_declarator (Trees.array l d (an_expr e)))
close_bound l d e fs _ = fail

-- with one more member
abbrev pub with_member : MembersPart → Pos → MaybeDeclarator → MaybeExpr → MembersPart
with_member part l d w = record { body = part.body; specifiers = part.specifiers; members = and_member part.members l d w }

-- with one more declaration of members
abbrev pub with_decl : MembersPart → Body
with_decl part = record { outer = part.body.outer; pos = part.body.pos; is_union = part.body.is_union; tag = part.body.tag; decls = and_member_decl part.body.decls part.specifiers.tree part.members }

-- behind a member
unfoldable pub close_member : MembersPart → List Frame → Sign → Next
close_member part fs signs.Comma = goes fs (member part)
close_member part fs signs.Semicolon = goes fs (more_members (with_decl part))
close_member part fs _ = fail

-- with one more enumerator
abbrev pub with_enumerator : EnumPart → Name → Pos → MaybeExpr → EnumPart
with_enumerator part n l v = record { outer = part.outer; pos = part.pos; tag = part.tag; enumerators = and_enumerator part.enumerators l n v }

-- behind an enumerator, which is declared there (C90 6.1.2.1)
unfoldable pub close_enumerator : EnumPart → Name → List Frame → Sign → Next
close_enumerator part n fs signs.Comma = go fs (enumerator part) (changes.Declare n false)
close_enumerator part n fs signs.CloseBrace = go fs (specifiers (with_enum part)) (changes.Declare n false)
close_enumerator part n fs _ = fail

-- behind a whole expression
unfoldable pub close : ExprTree → List Frame → Sign → Next
close e [] sign = stop (done_expr e)
close e (in_paren l ∷ fs) sign = close_paren l e fs sign
close e (in_index l a ∷ fs) sign = close_index l a e fs sign
close e (in_call l f es ∷ fs) sign = close_call l f (and_expr es e) fs sign
close e (in_then l c ∷ fs) sign = close_then l c e fs sign
close e (in_bound l d ∷ fs) sign = close_bound l d e fs sign
close e (in_width part first d ∷ fs) sign = close_member (with_member part first d (an_expr e)) fs sign
close e (in_value part n l ∷ fs) sign = close_enumerator (with_enumerator part n l (an_expr e)) n fs sign
close e (f ∷ fs) sign = fail

abbrev pub extend : (limit : ℕ) → ℕ → ExprTree → List Frame → Pos → Sign → Next
extend limit least e fs l sign = if goes_on least e fs sign then within (nat_le (expr_depth e + (length fs + 1)) limit) (extend_by (infix_of sign) e fs l sign) else close e fs sign

-- behind an expression
unfoldable pub expr_step : (limit : ℕ) → ℕ → ExprTree → List Frame → Pos → Sign → Next
expr_step limit least e fs l sign = let r = reduce (rank_of sign) e fs in extend limit least r.0 r.1 l sign
