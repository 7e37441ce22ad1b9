-- What a token asks of the limit among specifiers, members and enumerators.
use Rattle.std.proofs.Common.{◌+◌, List, [], ◌∷◌, length, true, false}
use Rattle.std.specs.Prelude.{Option, None, Some, is_some}
use Rattle.c65_base.specs.declared.names.Name.{Name}
use Rattle.c65_base.specs.declared.refusal.Pos.{Pos}
use Rattle.c65_tree.specs.Trees as t
use Rattle.c65_parse_trees.specs.declared.operator.Infix.TheVariants as infixes
use Rattle.c65_parse_trees.specs.declared.sign.Sign.{Sign}
use Rattle.c65_parse_trees.specs.declared.sign.Sign.TheVariants as signs
use Rattle.c65_parse_trees.specs.Listings.{Listing, Listed, TagPart, Body, MembersPart, EnumPart, nothing_listed, with_storage, with_word, with_typedef_name, with_tag, with_body, ended}
use Rattle.c65_parse.specs.declared.frame.Sort.TheVariants as sorts
use Rattle.c65_parse.specs.Frames.{Frame, in_type, in_type_declarator, in_members, in_member, in_params, in_param, in_width, in_value, operand, specifiers, tag, tag_name, enumerator, enumerator_name, stop, fail, done_specifiers}
use Rattle.c65_parse.specs.Expressions.{within, has_room, goes, with_enumerator, close_enumerator}
use Rattle.c65_parse.specs.Specifiers.{member_step, end_listed, end_specifiers, specifiers_step, is_enum, body_of, enum_of, open_body, tag_step, tag_name_step, more_members_step, enumerator_step, enumerator_name_step}
use Rattle.c65_parse_law_depth.proofs.Needs.{Needs, needs_nothing, goes_needs, fails_needs, room_needs, if_needs}
use Rattle.c65_parse_law_depth.proofs.Expressions.{enumerator_shallow}
use Rattle.c65_parse_law_depth.proofs.Declarators.{declarator_needs}

pub member_needs : (part : MembersPart) (fs : List Frame) (l : Pos) (sign : Sign) → Needs (λ limit. member_step limit part fs l sign)
unfolding member_step
member_needs part fs l signs.Colon = goes_needs (in_width part l t.no_declarator ∷ fs) operand
member_needs part fs l sign = declarator_needs (sorts.Member part.specifiers.has_type) (in_member part l ∷ fs) l sign

end_listed_needs : (q : Listed) (fs : List Frame) (l : Pos) (sign : Sign) → Needs (λ limit. end_listed limit q fs l sign)
unfolding end_listed
end_listed_needs q (in_type at purpose ∷ fs) l sign = declarator_needs sorts.Abstract (in_type_declarator at purpose q.tree ∷ fs) l sign
end_listed_needs q (in_params part ∷ fs) l sign = declarator_needs (sorts.Param q.has_type) (in_param part q ∷ fs) l sign
end_listed_needs q (in_members body ∷ fs) l sign = member_needs (record { body = body; specifiers = q; members = t.no_more_members }) fs l sign
end_listed_needs q _ l sign = fails_needs

end_specifiers_needs : (q : Listing) (fs : List Frame) (l : Pos) (sign : Sign) → Needs (λ limit. end_specifiers limit q fs l sign)
unfolding end_specifiers
end_specifiers_needs q [] l sign = needs_nothing (stop (done_specifiers (ended q l))) tt
end_specifiers_needs q (f ∷ fs) l sign = if_needs (is_some q.first) (λ limit. end_listed limit (ended q l) (f ∷ fs) l sign) (λ limit. fail) (end_listed_needs (ended q l) (f ∷ fs) l sign) fails_needs

pub specifiers_needs : (q : Listing) (fs : List Frame) (l : Pos) (sign : Sign) → Needs (λ limit. specifiers_step limit q fs l sign)
unfolding specifiers_step
specifiers_needs q fs l (signs.Word w) = goes_needs fs (specifiers (with_word q l w))
specifiers_needs q fs l (signs.Storage c) = if_needs q.takes_storage (λ limit. goes fs (specifiers (with_storage q l c))) (λ limit. end_specifiers limit q fs l (signs.Storage c)) (goes_needs fs (specifiers (with_storage q l c))) (end_specifiers_needs q fs l (signs.Storage c))
specifiers_needs q fs l (signs.Tag w) = goes_needs fs (tag (record { outer = q; pos = l; word = w }))
specifiers_needs q fs l (signs.Name n true) = if_needs q.has_type (λ limit. end_specifiers limit q fs l (signs.Name n true)) (λ limit. goes fs (specifiers (with_typedef_name q l n))) (end_specifiers_needs q fs l (signs.Name n true)) (goes_needs fs (specifiers (with_typedef_name q l n)))
specifiers_needs q fs l sign = end_specifiers_needs q fs l sign

open_body_needs : (part : TagPart) (n : Option Name) (fs : List Frame) → Needs (λ limit. open_body limit part n fs)
unfolding open_body
open_body_needs part n fs = if_needs (is_enum part.word) (λ limit. goes fs (enumerator (enum_of part n))) (λ limit. within (has_room limit fs 2) (goes (in_members (body_of part n) ∷ fs) (specifiers (nothing_listed false)))) (goes_needs fs (enumerator (enum_of part n))) (room_needs (2 + length fs) (in_members (body_of part n) ∷ fs) (specifiers (nothing_listed false)))

pub tag_needs : (part : TagPart) (fs : List Frame) (sign : Sign) → Needs (λ limit. tag_step limit part fs sign)
unfolding tag_step
tag_needs part fs (signs.Name n is_type) = goes_needs fs (tag_name part n)
tag_needs part fs signs.OpenBrace = open_body_needs part None fs
tag_needs part fs _ = fails_needs

pub tag_name_needs : (part : TagPart) (n : Name) (fs : List Frame) (l : Pos) (sign : Sign) → Needs (λ limit. tag_name_step limit part n fs l sign)
unfolding tag_name_step
tag_name_needs part n fs l signs.OpenBrace = open_body_needs part (Some n) fs
tag_name_needs part n fs l sign = specifiers_needs (with_tag part n) fs l sign

pub more_members_needs : (body : Body) (fs : List Frame) (l : Pos) (sign : Sign) → Needs (λ limit. more_members_step limit body fs l sign)
unfolding more_members_step
more_members_needs body fs l signs.CloseBrace = goes_needs fs (specifiers (with_body body))
more_members_needs body fs l sign = specifiers_needs (nothing_listed false) (in_members body ∷ fs) l sign

pub enumerator_needs : (part : EnumPart) (fs : List Frame) (l : Pos) (sign : Sign) → Needs (λ limit. enumerator_step part fs l sign)
unfolding enumerator_step
enumerator_needs part fs l (signs.Name n is_type) = goes_needs fs (enumerator_name part n l)
enumerator_needs part fs l _ = fails_needs

pub enumerator_name_needs : (part : EnumPart) (n : Name) (l : Pos) (fs : List Frame) (sign : Sign) → Needs (λ limit. enumerator_name_step limit part n l fs sign)
unfolding enumerator_name_step
enumerator_name_needs part n l fs (signs.Infix (infixes.Assign None)) = room_needs (2 + length fs) (in_value part n l ∷ fs) operand
enumerator_name_needs part n l fs sign = needs_nothing (close_enumerator (with_enumerator part n l t.no_expr) n fs sign) (enumerator_shallow (with_enumerator part n l t.no_expr) n fs sign)
