-- What is open while trees are read, what was read last, and what a token does.
use Rattle.std.specs.Prelude.{List, Bool, Option}
use Rattle.c65_base.specs.declared.refusal.Pos.{Pos}
use Rattle.c65_base.specs.declared.names.Name.{Name}
use Rattle.c65_tree.specs.Trees.{ExprTree, ExprList, TypeTree, DeclaratorTree, MaybeDeclarator, SpecifiersTree}
use Rattle.c65_parse_trees.specs.declared.operator.Infix.{Infix}
use Rattle.c65_parse_trees.specs.declared.operator.Prefix.{Prefix}
use Rattle.c65_parse.specs.declared.frame.Sort.{Sort}
use Rattle.c65_parse.specs.declared.frame.TypeUse.{TypeUse}
use Rattle.c65_parse.specs.declared.frame.Derivation.{Derivation}
use Rattle.c65_parse.specs.declared.frame.Change.{Change}
use Rattle.c65_parse_trees.specs.Listings.{Listing, Listed, TagPart, Body, MembersPart, EnumPart, ParamsPart, NamesPart}

-- an operation that lacks its last operand
pub data Operation : Type 0 where
  in_prefix : Pos → Prefix → Operation
  in_cast : Pos → TypeTree → Operation
  in_right : Pos → Infix → ExprTree → Operation
  in_else : Pos → ExprTree → ExprTree → Operation

-- a construct with a place for the tree that is read next; each is one level of depth
pub data Frame : Type 0 where
  in_operation : Operation → Frame
  in_paren : Pos → Frame
  in_index : Pos → ExprTree → Frame
  in_call : Pos → ExprTree → ExprList → Frame
  in_then : Pos → ExprTree → Frame
  in_bound : Pos → DeclaratorTree → Frame
  in_width : MembersPart → Pos → MaybeDeclarator → Frame
  in_value : EnumPart → Name → Pos → Frame
  in_type : Pos → TypeUse → Frame
  in_type_declarator : Pos → TypeUse → SpecifiersTree → Frame
  in_members : Body → Frame
  in_member : MembersPart → Pos → Frame
  in_params : ParamsPart → Frame
  in_param : ParamsPart → Listed → Frame
  in_group : Pos → Frame
  in_derived : Pos → Derivation → Frame

-- what was read since the innermost construct was begun
pub data Held : Type 0 where
  operand : Held
  opened : Pos → Held
  sizeof_word : Pos → Held
  sizeof_opened : Pos → Pos → Held
  called : Pos → ExprTree → Held
  dotted : Pos → Bool → ExprTree → Held
  have_expr : ExprTree → Held
  specifiers : Listing → Held
  tag : TagPart → Held
  tag_name : TagPart → Name → Held
  more_members : Body → Held
  member : MembersPart → Held
  enumerator : EnumPart → Held
  enumerator_name : EnumPart → Name → Pos → Held
  declarator : Sort → Held
  qualifiers : Pos → Bool → Bool → Sort → Held
  opened_declarator : Pos → Sort → Held
  have_declarator : DeclaratorTree → Held
  opened_bound : Pos → DeclaratorTree → Held
  opened_params : Pos → DeclaratorTree → Held
  more_params : ParamsPart → Held
  ellipsis : ParamsPart → Held
  names : NamesPart → Held
  names_end : NamesPart → Held

-- a tree that has ended
pub data Done : Type 0 where
  done_expr : ExprTree → Done
  done_specifiers : Listed → Done
  done_declarator : DeclaratorTree → Done

-- what a token does: the reading goes on, ends before the token, or cannot go on within the limit, or at all
pub data Next : Type 0 where
  go : List Frame → Held → Change → Next
  stop : Done → Next
  deep : Next
  fail : Next
