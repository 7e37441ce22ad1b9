-- What is open in the code, without where it lies in memory.
use Rattle.std.specs.Prelude.{List, map, reverse}
use Rattle.c65_tree.specs.Trees.{no_exprs, no_more_members, no_member_decls, no_more_enumerators, no_more_params}
use Rattle.c65_tree.specs.View.{expr_of, type_of, declarator_of, specifiers_of, exprs_from, members_from, member_decls_from, enumerators_from, params_from}
use Rattle.c65_parse.specs.declared.frame.Operation.{Operation}
use Rattle.c65_parse.specs.declared.frame.Operation.TheVariants as o
use Rattle.c65_parse.specs.declared.frame.Frame.{Frame}
use Rattle.c65_parse.specs.declared.frame.Frame.TheVariants as f
use Rattle.c65_parse.specs.declared.frame.Held.{Held}
use Rattle.c65_parse.specs.declared.frame.Held.TheVariants as h
use Rattle.c65_parse.specs.declared.frame.Done.{Done}
use Rattle.c65_parse.specs.declared.frame.Done.TheVariants as d
use Rattle.c65_parse.specs.declared.frame.Step.{Step}
use Rattle.c65_parse.specs.declared.frame.Step.TheVariants as s
use Rattle.c65_parse.specs.declared.frame.TagPart.{TagPart}
use Rattle.c65_parse.specs.declared.frame.Body.{Body}
use Rattle.c65_parse.specs.declared.frame.MembersPart.{MembersPart}
use Rattle.c65_parse.specs.declared.frame.EnumPart.{EnumPart}
use Rattle.c65_parse.specs.declared.frame.ParamsPart.{ParamsPart}
use Rattle.c65_parse.specs.declared.frame.NamesPart.{NamesPart}
use Rattle.c65_parse_trees.specs.Listings
use Rattle.c65_parse_trees.specs.Lists.{listing_of, listed_of}
use Rattle.c65_parse_trees.specs.Optional.{option_declarator}
use Rattle.c65_parse.specs.Frames

abbrev pub operation_of : Operation → Frames.Operation
operation_of (o.Prefix l p) = Frames.in_prefix l p
operation_of (o.Cast l t) = Frames.in_cast l (type_of t.name)
operation_of (o.Right l i a) = Frames.in_right l i (expr_of a.expr)
operation_of (o.Else l c a) = Frames.in_else l (expr_of c.expr) (expr_of a.expr)

abbrev pub tag_part_of : TagPart → Listings.TagPart
tag_part_of part = record { outer = listing_of part.outer; pos = part.pos; word = part.word }

abbrev pub body_of : Body → Listings.Body
body_of body = record { outer = listing_of body.outer; pos = body.pos; is_union = body.is_union; tag = body.tag; decls = member_decls_from no_member_decls body.decls.decls.items }

abbrev pub members_part_of : MembersPart → Listings.MembersPart
members_part_of part = record { body = body_of part.body; specifiers = listed_of part.specifiers; members = members_from no_more_members part.members.members.items }

abbrev pub enum_part_of : EnumPart → Listings.EnumPart
enum_part_of part = record { outer = listing_of part.outer; pos = part.pos; tag = part.tag; enumerators = enumerators_from no_more_enumerators part.enumerators.enumerators.items }

abbrev pub params_part_of : ParamsPart → Listings.ParamsPart
params_part_of part = record { pos = part.pos; declarator = declarator_of part.declarator.declarator; params = params_from no_more_params part.params.params.items }

abbrev pub names_part_of : NamesPart → Listings.NamesPart
names_part_of part = record { pos = part.pos; declarator = declarator_of part.declarator.declarator; names = part.names.items }

abbrev pub frame_of : Frame → Frames.Frame
frame_of (f.Operation operation) = Frames.in_operation (operation_of operation)
frame_of (f.Paren l) = Frames.in_paren l
frame_of (f.Index l a) = Frames.in_index l (expr_of a.expr)
frame_of (f.Call l g es) = Frames.in_call l (expr_of g.expr) (exprs_from no_exprs es.exprs.items)
frame_of (f.Then l c) = Frames.in_then l (expr_of c.expr)
frame_of (f.Bound l e) = Frames.in_bound l (declarator_of e.declarator)
frame_of (f.Width part l e) = Frames.in_width (members_part_of part) l (option_declarator e)
frame_of (f.Value part n l) = Frames.in_value (enum_part_of part) n l
frame_of (f.Type l purpose) = Frames.in_type l purpose
frame_of (f.TypeDeclarator l purpose q) = Frames.in_type_declarator l purpose (specifiers_of q.specifiers)
frame_of (f.Members body) = Frames.in_members (body_of body)
frame_of (f.Member part l) = Frames.in_member (members_part_of part) l
frame_of (f.Params part) = Frames.in_params (params_part_of part)
frame_of (f.Param part q) = Frames.in_param (params_part_of part) (listed_of q)
frame_of (f.Group l) = Frames.in_group l
frame_of (f.Derived l how) = Frames.in_derived l how

abbrev pub stack_of : List Frame → List Frames.Frame
stack_of fs = map frame_of (reverse fs)

abbrev pub held_of : Held → Frames.Held
held_of h.Operand = Frames.operand
held_of (h.Opened l) = Frames.opened l
held_of (h.Sizeof l) = Frames.sizeof_word l
held_of (h.SizeofOpened l m) = Frames.sizeof_opened l m
held_of (h.Called l e) = Frames.called l (expr_of e.expr)
held_of (h.Dotted l arrow e) = Frames.dotted l arrow (expr_of e.expr)
held_of (h.Expr e) = Frames.have_expr (expr_of e.expr)
held_of (h.Specifiers q) = Frames.specifiers (listing_of q)
held_of (h.Tag part) = Frames.tag (tag_part_of part)
held_of (h.TagName part n) = Frames.tag_name (tag_part_of part) n
held_of (h.MoreMembers body) = Frames.more_members (body_of body)
held_of (h.Member part) = Frames.member (members_part_of part)
held_of (h.Enumerator part) = Frames.enumerator (enum_part_of part)
held_of (h.EnumeratorName part n l) = Frames.enumerator_name (enum_part_of part) n l
held_of (h.Declarator sort) = Frames.declarator sort
held_of (h.Qualifiers l constant volatile sort) = Frames.qualifiers l constant volatile sort
held_of (h.OpenedDeclarator l sort) = Frames.opened_declarator l sort
held_of (h.Declared e) = Frames.have_declarator (declarator_of e.declarator)
held_of (h.OpenedBound l e) = Frames.opened_bound l (declarator_of e.declarator)
held_of (h.OpenedParams l e) = Frames.opened_params l (declarator_of e.declarator)
held_of (h.MoreParams part) = Frames.more_params (params_part_of part)
held_of (h.Ellipsis part) = Frames.ellipsis (params_part_of part)
held_of (h.Names part) = Frames.names (names_part_of part)
held_of (h.NamesEnd part) = Frames.names_end (names_part_of part)

abbrev pub done_of : Done → Frames.Done
done_of (d.Expr e) = Frames.done_expr (expr_of e.expr)
done_of (d.Specifiers q) = Frames.done_specifiers (listed_of q)
done_of (d.Declarator e) = Frames.done_declarator (declarator_of e.declarator)

abbrev pub next_of : Step → Frames.Next
next_of (s.Go reading change) = Frames.go (stack_of reading.frames.items) (held_of reading.held) change
next_of (s.Stop done) = Frames.stop (done_of done)
next_of s.Deep = Frames.deep
next_of s.Fail = Frames.fail
