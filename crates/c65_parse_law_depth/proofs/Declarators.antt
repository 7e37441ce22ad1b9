-- What a token asks of the limit where a declarator is begun or goes on.
use Rattle.std.proofs.Common.{◌+◌, List, [], ◌∷◌, length, Bool, true, false, if◌then◌else◌}
use Rattle.c65_base.specs.declared.refusal.Pos.{Pos}
use Rattle.c65_tree.specs.Trees as t
use Rattle.c65_tree.specs.Depth.{declarator_depth}
use Rattle.c65_parse_trees.specs.declared.sign.Sign.{Sign}
use Rattle.c65_parse_trees.specs.declared.sign.Sign.TheVariants as signs
use Rattle.c65_parse_trees.specs.Listings.{Listed, MembersPart, ParamsPart}
use Rattle.c65_parse.specs.declared.frame.Derivation.TheVariants as derivations
use Rattle.c65_parse.specs.declared.frame.Sort.{Sort}
use Rattle.c65_parse.specs.declared.frame.TypeUse.{TypeUse}
use Rattle.c65_parse.specs.declared.frame.TypeUse.TheVariants as uses
use Rattle.c65_parse.specs.Frames.{Frame, in_type_declarator, in_member, in_param, in_group, in_derived, declarator, qualifiers, opened_declarator, have_declarator, opened_bound, opened_params}
use Rattle.c65_parse.specs.Expressions.{goes, with_member}
use Rattle.c65_parse.specs.Declarators.{is_optional, takes_name, reduce_declarator, close_group, with_type, close_type, close_param, close_member_declarator, close_declarator, declarator_end, without_name, open_group, declarator_step}
use Rattle.c65_parse_law_depth.proofs.Needs.{IsGo, IsShallow, Needs, needs_nothing, goes_needs, fails_needs, room_needs, within_needs, if_needs}
use Rattle.c65_parse_law_depth.proofs.Expressions.{member_shallow}

group_shallow : (l : Pos) (d : t.DeclaratorTree) (fs : List Frame) (sign : Sign) → IsShallow (close_group l d fs sign)
group_shallow l d fs signs.Close = tt
group_shallow l d fs _ = tt

with_type_shallow : (l : Pos) (purpose : TypeUse) (ty : t.TypeTree) (fs : List Frame) → IsShallow (with_type l purpose ty fs)
with_type_shallow l uses.Cast ty fs = tt
with_type_shallow l uses.Sizeof ty fs = tt

type_shallow : (l : Pos) (purpose : TypeUse) (q : t.SpecifiersTree) (d : t.DeclaratorTree) (fs : List Frame) (sign : Sign) → IsShallow (close_type l purpose q d fs sign)
type_shallow l purpose q d fs signs.Close = with_type_shallow l purpose (t.type_name q d) fs
type_shallow l purpose q d fs _ = tt

param_shallow : (part : ParamsPart) (q : Listed) (d : t.DeclaratorTree) (fs : List Frame) (sign : Sign) → IsShallow (close_param part q d fs sign)
unfolding close_param
param_shallow part q d fs signs.Comma = tt
param_shallow part q d fs signs.Close = tt
param_shallow part q d fs _ = tt

member_declarator_shallow : (part : MembersPart) (first : Pos) (d : t.DeclaratorTree) (fs : List Frame) (sign : Sign) → IsShallow (close_member_declarator part first d fs sign)
unfolding close_member_declarator
member_declarator_shallow part first d fs signs.Colon = tt
member_declarator_shallow part first d fs sign = member_shallow (with_member part first (t.a_declarator d) t.no_expr) fs sign

close_declarator_shallow : (d : t.DeclaratorTree) (fs : List Frame) (sign : Sign) → IsShallow (close_declarator d fs sign)
unfolding close_declarator
close_declarator_shallow d [] sign = tt
close_declarator_shallow d (in_group l ∷ fs) sign = group_shallow l d fs sign
close_declarator_shallow d (in_type_declarator l purpose q ∷ fs) sign = type_shallow l purpose q d fs sign
close_declarator_shallow d (in_param part q ∷ fs) sign = param_shallow part q d fs sign
close_declarator_shallow d (in_member part first ∷ fs) sign = member_declarator_shallow part first d fs sign
close_declarator_shallow d (f ∷ fs) sign = tt

pub declarator_end_needs : (d : t.DeclaratorTree) (fs : List Frame) (l : Pos) (sign : Sign) → Needs (λ limit. declarator_end limit d fs l sign)
unfolding declarator_end
declarator_end_needs d fs l signs.OpenBracket = room_needs (declarator_depth d + (length fs + 1)) fs (opened_bound l d)
declarator_end_needs d fs l signs.Open = room_needs (declarator_depth d + (length fs + 1)) fs (opened_params l d)
declarator_end_needs d fs l sign = let r = reduce_declarator d fs in needs_nothing (close_declarator r.0 r.1 sign) (close_declarator_shallow r.0 r.1 sign)

nameless_needs : (b : Bool) (fs : List Frame) (l : Pos) (sign : Sign) → Needs (λ limit. without_name limit b fs l sign)
unfolding without_name
nameless_needs true fs l sign = declarator_end_needs (t.nameless l) fs l sign
nameless_needs false fs l sign = fails_needs

opens_group : (b : Bool) (sort : Sort) (fs : List Frame) (l : Pos) → IsGo (if b then goes fs (opened_declarator l sort) else goes (in_group l ∷ fs) (declarator sort))
opens_group true sort fs l = tt
opens_group false sort fs l = tt

pub declarator_needs : (sort : Sort) (fs : List Frame) (l : Pos) (sign : Sign) → Needs (λ limit. declarator_step limit sort fs l sign)
unfolding declarator_step
declarator_needs sort fs l signs.Star = room_needs (2 + length fs) fs (qualifiers l false false sort)
declarator_needs sort fs l (signs.Calling cdecl) = room_needs (2 + length fs) (in_derived l (derivations.Calling cdecl) ∷ fs) (declarator sort)
declarator_needs sort fs l signs.Open = within_needs (2 + length fs) (open_group sort fs l) (opens_group (is_optional sort) sort fs l)
declarator_needs sort fs l (signs.Name n is_type) = if_needs (takes_name sort is_type) (λ limit. goes fs (have_declarator (t.named l n))) (λ limit. without_name limit (is_optional sort) fs l (signs.Name n is_type)) (goes_needs fs (have_declarator (t.named l n))) (nameless_needs (is_optional sort) fs l (signs.Name n is_type))
declarator_needs sort fs l sign = nameless_needs (is_optional sort) fs l sign
