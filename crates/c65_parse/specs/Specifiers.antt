-- What a token does among specifiers, members and enumerators (C90 6.5 to 6.5.3).
use Rattle.std.specs.Prelude.{ℕ, List, [], ◌∷◌, Bool, true, false, if◌then◌else◌, Option, None, Some, is_some}
use Rattle.c65_base.specs.declared.refusal.Pos.{Pos}
use Rattle.c65_base.specs.declared.names.Name.{Name}
use Rattle.c65_tree.specs.Trees.{no_more_members, no_member_decls, no_more_enumerators, no_declarator, no_expr}
use Rattle.c65_parse_trees.specs.declared.operator.Infix.TheVariants as infixes
use Rattle.c65_parse_trees.specs.declared.sign.Sign.{Sign}
use Rattle.c65_parse_trees.specs.declared.sign.Sign.TheVariants as signs
use Rattle.c65_parse_trees.specs.declared.sign.TagWord.{TagWord}
use Rattle.c65_parse_trees.specs.declared.sign.TagWord.TheVariants as tags
use Rattle.c65_parse.specs.declared.frame.Sort.TheVariants as sorts
use Rattle.c65_parse_trees.specs.Listings.{Listing, Listed, TagPart, Body, MembersPart, EnumPart, nothing_listed, with_storage, with_word, with_typedef_name, with_tag, with_body, ended}
use Rattle.c65_parse.specs.Frames.{Frame, in_type, in_type_declarator, in_members, in_member, in_params, in_param, in_width, in_value, Held, operand, specifiers, tag, tag_name, member, enumerator, enumerator_name, Next, stop, fail, done_specifiers}
use Rattle.c65_parse.specs.Expressions.{goes, within, has_room, with_enumerator, close_enumerator}
use Rattle.c65_parse.specs.Declarators.{declarator_step}

-- a member is needed (C90 6.5.2.1)
unfoldable pub member_step : (limit : ℕ) → MembersPart → List Frame → Pos → Sign → Next
member_step limit part fs l signs.Colon = goes (in_width part l no_declarator ∷ fs) operand
member_step limit part fs l sign = declarator_step limit (sorts.Member part.specifiers.has_type) (in_member part l ∷ fs) l sign

-- behind specifiers
unfoldable pub end_listed : (limit : ℕ) → Listed → List Frame → Pos → Sign → Next
end_listed limit q (in_type at purpose ∷ fs) l sign = declarator_step limit sorts.Abstract (in_type_declarator at purpose q.tree ∷ fs) l sign
end_listed limit q (in_params part ∷ fs) l sign = declarator_step limit (sorts.Param q.has_type) (in_param part q ∷ fs) l sign
end_listed limit q (in_members body ∷ fs) l sign = member_step limit (record { body = body; specifiers = q; members = no_more_members }) fs l sign
end_listed limit q _ l sign = fail

-- only where nothing is open there may be none of them
unfoldable pub end_specifiers : (limit : ℕ) → Listing → List Frame → Pos → Sign → Next
end_specifiers limit q [] l sign = stop (done_specifiers (ended q l))
end_specifiers limit q (f ∷ fs) l sign = if is_some q.first then end_listed limit (ended q l) (f ∷ fs) l sign else fail

-- among specifiers: a type's name is a type specifier where none stands before it
unfoldable pub specifiers_step : (limit : ℕ) → Listing → List Frame → Pos → Sign → Next
specifiers_step limit q fs l (signs.Word w) = goes fs (specifiers (with_word q l w))
specifiers_step limit q fs l (signs.Storage c) = if q.takes_storage then goes fs (specifiers (with_storage q l c)) else end_specifiers limit q fs l (signs.Storage c)
specifiers_step limit q fs l (signs.Tag w) = goes fs (tag (record { outer = q; pos = l; word = w }))
specifiers_step limit q fs l (signs.Name n true) = if q.has_type then end_specifiers limit q fs l (signs.Name n true) else goes fs (specifiers (with_typedef_name q l n))
specifiers_step limit q fs l sign = end_specifiers limit q fs l sign

abbrev pub is_enum : TagWord → Bool
is_enum tags.Struct = false
is_enum tags.Union = false
is_enum tags.Enum = true

abbrev pub is_union_word : TagWord → Bool
is_union_word tags.Struct = false
is_union_word tags.Union = true
is_union_word tags.Enum = false

abbrev pub body_of : TagPart → Option Name → Body
body_of part n = record { outer = part.outer; pos = part.pos; is_union = is_union_word part.word; tag = n; decls = no_member_decls }

abbrev pub enum_of : TagPart → Option Name → EnumPart
enum_of part n = record { outer = part.outer; pos = part.pos; tag = n; enumerators = no_more_enumerators }

-- behind the brace after a structure's, a union's or an enumeration's word
unfoldable pub open_body : (limit : ℕ) → TagPart → Option Name → List Frame → Next
open_body limit part n fs = if is_enum part.word then goes fs (enumerator (enum_of part n)) else within (has_room limit fs 2) (goes (in_members (body_of part n) ∷ fs) (specifiers (nothing_listed false)))

-- behind that word (C90 6.5.2.3)
unfoldable pub tag_step : (limit : ℕ) → TagPart → List Frame → Sign → Next
tag_step limit part fs (signs.Name n is_type) = goes fs (tag_name part n)
tag_step limit part fs signs.OpenBrace = open_body limit part None fs
tag_step limit part fs _ = fail

unfoldable pub tag_name_step : (limit : ℕ) → TagPart → Name → List Frame → Pos → Sign → Next
tag_name_step limit part n fs l signs.OpenBrace = open_body limit part (Some n) fs
tag_name_step limit part n fs l sign = specifiers_step limit (with_tag part n) fs l sign

-- behind a declaration of members
unfoldable pub more_members_step : (limit : ℕ) → Body → List Frame → Pos → Sign → Next
more_members_step limit body fs l signs.CloseBrace = goes fs (specifiers (with_body body))
more_members_step limit body fs l sign = specifiers_step limit (nothing_listed false) (in_members body ∷ fs) l sign

-- an enumerator is needed (C90 6.5.2.2)
unfoldable pub enumerator_step : EnumPart → List Frame → Pos → Sign → Next
enumerator_step part fs l (signs.Name n is_type) = goes fs (enumerator_name part n l)
enumerator_step part fs l _ = fail

unfoldable pub enumerator_name_step : (limit : ℕ) → EnumPart → Name → Pos → List Frame → Sign → Next
enumerator_name_step limit part n l fs (signs.Infix (infixes.Assign None)) = within (has_room limit fs 2) (goes (in_value part n l ∷ fs) operand)
enumerator_name_step limit part n l fs sign = close_enumerator (with_enumerator part n l no_expr) n fs sign
