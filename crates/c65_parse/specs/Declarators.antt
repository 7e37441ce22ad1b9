-- What a token does where a declarator is begun or goes on (C90 6.5.4, 6.5.5).
use Rattle.std.specs.Prelude.{ℕ, ◌+◌, List, [], ◌∷◌, length, Bool, true, false, nat_le, if◌then◌else◌, Option, None, Some}
use Rattle.c65_base.specs.declared.refusal.Pos.{Pos}
use Rattle.c65_base.specs.declared.names.Name.{Name}
use Rattle.c65_tree.specs.Trees
use Rattle.c65_tree.specs.Trees.{DeclaratorTree, SpecifiersTree, TypeTree, no_expr, a_declarator, type_name, and_param, param_types}
use Rattle.c65_tree.specs.Depth.{declarator_depth}
use Rattle.c65_parse_trees.specs.declared.sign.Sign.{Sign}
use Rattle.c65_parse_trees.specs.declared.sign.Sign.TheVariants as signs
use Rattle.c65_parse.specs.declared.frame.Change.{Change}
use Rattle.c65_parse.specs.declared.frame.Change.TheVariants as changes
use Rattle.c65_parse.specs.declared.frame.Derivation.{Derivation}
use Rattle.c65_parse.specs.declared.frame.Derivation.TheVariants as derivations
use Rattle.c65_parse.specs.declared.frame.Sort.{Sort}
use Rattle.c65_parse.specs.declared.frame.Sort.TheVariants as sorts
use Rattle.c65_parse.specs.declared.frame.TypeUse.{TypeUse}
use Rattle.c65_parse.specs.declared.frame.TypeUse.TheVariants as uses
use Rattle.c65_parse_trees.specs.Names.{declared_name}
use Rattle.c65_parse_trees.specs.Listings.{Listed, MembersPart, ParamsPart, nothing_listed}
use Rattle.c65_parse.specs.Frames.{Frame, in_operation, in_cast, in_type_declarator, in_member, in_param, in_group, in_derived, in_width, Held, operand, have_expr, member, more_members, declarator, qualifiers, opened_declarator, have_declarator, opened_bound, opened_params, more_params, Next, go, stop, fail, done_declarator}
use Rattle.c65_parse.specs.Expressions.{goes, within, has_room, with_member, close_member}

-- whether a name may stand there that is a type's, or is none: a declaration without a type specifier declares no
-- type's name anew (C90 6.5.6)
abbrev pub takes_name : Sort → Bool → Bool
takes_name (sorts.Named typed) is_type = if typed then true else (if is_type then false else true)
takes_name (sorts.Param typed) is_type = if typed then true else (if is_type then false else true)
takes_name (sorts.Member typed) is_type = if typed then true else (if is_type then false else true)
takes_name sorts.Abstract is_type = false

-- whether the name may lack
abbrev pub is_optional : Sort → Bool
is_optional (sorts.Named typed) = false
is_optional (sorts.Param typed) = true
is_optional (sorts.Member typed) = false
is_optional sorts.Abstract = true

abbrev pub derived : Pos → Derivation → DeclaratorTree → DeclaratorTree
derived l (derivations.Pointer constant volatile) d = Trees.pointer l constant volatile d
derived l (derivations.Calling cdecl) d = Trees.calling l cdecl d

abbrev pub is_derived : Frame → Bool
is_derived (in_derived l how) = true
is_derived _ = false

abbrev pub plug_declarator : Frame → DeclaratorTree → DeclaratorTree
plug_declarator (in_derived l how) d = derived l how d
plug_declarator _ d = d

-- the declarator behind its suffixes, with what stands before it
abbrev pub reduce_declarator : DeclaratorTree → List Frame → DeclaratorTree × List Frame
reduce_declarator d [] = (d, [])
reduce_declarator d (f ∷ fs) = if is_derived f then reduce_declarator (plug_declarator f d) fs else (d, f ∷ fs)

abbrev pub close_group : Pos → DeclaratorTree → List Frame → Sign → Next
close_group l d fs signs.Close = goes fs (have_declarator (Trees.grouped l d))
close_group l d fs _ = fail

abbrev pub with_type : Pos → TypeUse → TypeTree → List Frame → Next
with_type l uses.Cast t fs = goes (in_operation (in_cast l t) ∷ fs) operand
with_type l uses.Sizeof t fs = goes fs (have_expr (Trees.sizeof_type l t))

abbrev pub close_type : Pos → TypeUse → SpecifiersTree → DeclaratorTree → List Frame → Sign → Next
close_type l purpose q d fs signs.Close = with_type l purpose (type_name q d) fs
close_type l purpose q d fs _ = fail

abbrev pub declares : Option Name → Bool → Change
declares None is_typedef = changes.Nothing
declares (Some n) is_typedef = changes.Declare n is_typedef

-- with one more parameter
abbrev pub with_param : ParamsPart → SpecifiersTree → DeclaratorTree → ParamsPart
with_param part q d = record { pos = part.pos; declarator = part.declarator; params = and_param part.params q d }

-- the function declarator at the end of its parameters
abbrev pub with_params : ParamsPart → Bool → DeclaratorTree
with_params part more = Trees.function part.pos part.declarator (param_types part.params more)

-- behind a parameter, which is declared there (C90 6.1.2.1)
unfoldable pub close_param : ParamsPart → Listed → DeclaratorTree → List Frame → Sign → Next
close_param part q d fs signs.Comma = go fs (more_params (with_param part q.tree d)) (declares (declared_name d) q.is_typedef)
close_param part q d fs signs.Close = go fs (have_declarator (with_params (with_param part q.tree d) false)) changes.Close
close_param part q d fs _ = fail

-- behind a member's declarator
unfoldable pub close_member_declarator : MembersPart → Pos → DeclaratorTree → List Frame → Sign → Next
close_member_declarator part first d fs signs.Colon = goes (in_width part first (a_declarator d) ∷ fs) operand
close_member_declarator part first d fs sign = close_member (with_member part first (a_declarator d) no_expr) fs sign

-- behind a whole declarator
unfoldable pub close_declarator : DeclaratorTree → List Frame → Sign → Next
close_declarator d [] sign = stop (done_declarator d)
close_declarator d (in_group l ∷ fs) sign = close_group l d fs sign
close_declarator d (in_type_declarator l purpose q ∷ fs) sign = close_type l purpose q d fs sign
close_declarator d (in_param part q ∷ fs) sign = close_param part q d fs sign
close_declarator d (in_member part first ∷ fs) sign = close_member_declarator part first d fs sign
close_declarator d (f ∷ fs) sign = fail

-- behind a direct declarator
unfoldable pub declarator_end : (limit : ℕ) → DeclaratorTree → List Frame → Pos → Sign → Next
declarator_end limit d fs l signs.OpenBracket = within (nat_le (declarator_depth d + (length fs + 1)) limit) (goes fs (opened_bound l d))
declarator_end limit d fs l signs.Open = within (nat_le (declarator_depth d + (length fs + 1)) limit) (goes fs (opened_params l d))
declarator_end limit d fs l sign = let r = reduce_declarator d fs in close_declarator r.0 r.1 sign

unfoldable pub without_name : (limit : ℕ) → Bool → List Frame → Pos → Sign → Next
without_name limit true fs l sign = declarator_end limit (Trees.nameless l) fs l sign
without_name limit false fs l sign = fail

abbrev pub open_group : Sort → List Frame → Pos → Next
open_group sort fs l = if is_optional sort then goes fs (opened_declarator l sort) else goes (in_group l ∷ fs) (declarator sort)

-- a declarator is needed
unfoldable pub declarator_step : (limit : ℕ) → Sort → List Frame → Pos → Sign → Next
declarator_step limit sort fs l signs.Star = within (has_room limit fs 2) (goes fs (qualifiers l false false sort))
declarator_step limit sort fs l (signs.Calling cdecl) = within (has_room limit fs 2) (goes (in_derived l (derivations.Calling cdecl) ∷ fs) (declarator sort))
declarator_step limit sort fs l signs.Open = within (has_room limit fs 2) (open_group sort fs l)
declarator_step limit sort fs l (signs.Name n is_type) = if takes_name sort is_type then goes fs (have_declarator (Trees.named l n)) else without_name limit (is_optional sort) fs l (signs.Name n is_type)
declarator_step limit sort fs l sign = without_name limit (is_optional sort) fs l sign
