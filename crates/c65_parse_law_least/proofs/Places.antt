-- What stands open is made of constructs that take what is read next, and leaves room for it.
use Rattle.std.proofs.Common.{◌≡◌, ℕ, ◌+◌, ◌≤◌, List, [], ◌∷◌, length, Bool, true, false, refl, arith}
use Rattle.std.proofs.lemmas.Bool.{leb-true}
use Rattle.std.specs.Prelude.{nat_le, Option, None, Some, is_some, if◌then◌else◌}
use Rattle.c65_base.specs.declared.names.Name.{Name}
use Rattle.c65_base.specs.declared.refusal.Pos.{Pos}
use Rattle.c65_scan.specs.declared.token.Token.{Token}
use Rattle.c65_tree.specs.Trees as t
use Rattle.c65_tree.specs.Depth.{expr_depth, declarator_depth}
use Rattle.c65_parse_trees.specs.declared.operator.Infix.{Infix}
use Rattle.c65_parse_trees.specs.declared.operator.Infix.TheVariants as infixes
use Rattle.c65_parse_trees.specs.declared.operator.Prefix.{Prefix}
use Rattle.c65_parse_trees.specs.declared.operator.Prefix.TheVariants as prefixes
use Rattle.c65_parse_trees.specs.declared.sign.Sign.{Sign}
use Rattle.c65_parse_trees.specs.declared.sign.Sign.TheVariants as signs
use Rattle.c65_parse_trees.specs.declared.sign.Word.TheVariants as words
use Rattle.c65_parse_trees.specs.Names
use Rattle.c65_parse_trees.specs.Signs.{sign_of, prefix_of, infix_of, rank_of, begins_type, begins_specifiers}
use Rattle.c65_parse_trees.specs.Listings.{Listing, Listed, TagPart, Body, MembersPart, EnumPart, ParamsPart, NamesPart, nothing_listed, with_storage, with_typedef_name, with_tag, ended}
use Rattle.c65_parse_names.specs.Scopes.{Blocks, is_type_in}
use Rattle.c65_parse.specs.declared.frame.Derivation.TheVariants as derivations
use Rattle.c65_parse.specs.declared.frame.Sort.{Sort}
use Rattle.c65_parse.specs.declared.frame.Sort.TheVariants as sorts
use Rattle.c65_parse.specs.declared.frame.TypeUse.{TypeUse}
use Rattle.c65_parse.specs.declared.frame.TypeUse.TheVariants as uses
use Rattle.c65_parse.specs.Frames.{in_prefix, Frame, in_operation, in_paren, in_index, in_call, in_then, in_bound, in_width, in_value, in_type, in_type_declarator, in_members, in_member, in_params, in_param, in_group, in_derived, Held, operand, opened, sizeof_word, sizeof_opened, called, dotted, have_expr, specifiers, tag, tag_name, more_members, member, enumerator, enumerator_name, declarator, qualifiers, opened_declarator, have_declarator, opened_bound, opened_params, more_params, ellipsis, names, names_end, Done, done_expr, done_specifiers, done_declarator, Next, go, stop, deep, fail}
use Rattle.c65_parse.specs.Expressions.{goes, within, has_room, names_type, leaf_of, begin_by, begin_with, operand_step, ends, plug_frame, reduce, goes_on, extend_by, close_paren, close_index, close_call, close_then, close_bound, with_member, close_member, with_enumerator, close_enumerator, close, extend, expr_step, hole}
use Rattle.c65_parse.specs.Declarators.{is_optional, is_derived, plug_declarator, reduce_declarator, close_group, with_type, close_type, close_param, close_member_declarator, close_declarator, declarator_end, without_name, open_group, declarator_step, takes_name}
use Rattle.c65_parse.specs.Specifiers.{member_step, end_listed, end_specifiers, specifiers_step, is_enum, body_of, enum_of, open_body, tag_step, tag_name_step, more_members_step, enumerator_step, enumerator_name_step}
use Rattle.c65_parse.specs.Machine.{opened_step, sizeof_step, sizeof_opened_step, called_step, dotted_step, qualifiers_step, in_block, params_step, opened_declarator_step, opened_bound_step, opened_params_step, more_params_step, ellipsis_step, names_step, names_end_step, step_by, step}
use Rattle.c65_parse_law_alike.proofs.Alike.{expr_deep}

pub data Place : Type 0 where
  of_expr : Place
  of_specifiers : Place
  of_declarator : Place

abbrev pub Same : Place → Place → Type 0
Same of_expr of_expr = Unit {0}
Same of_specifiers of_specifiers = Unit {0}
Same of_declarator of_declarator = Unit {0}
Same _ _ = ⊥

-- what a construct takes next
abbrev pub inside : Frame → Place
inside (in_type l purpose) = of_specifiers
inside (in_members body) = of_specifiers
inside (in_params part) = of_specifiers
inside (in_type_declarator l purpose q) = of_declarator
inside (in_member part l) = of_declarator
inside (in_param part q) = of_declarator
inside (in_group l) = of_declarator
inside (in_derived l how) = of_declarator
inside _ = of_expr

-- what it is a part of
abbrev pub round : Frame → Place
round (in_bound l d) = of_declarator
round (in_params part) = of_declarator
round (in_param part q) = of_declarator
round (in_group l) = of_declarator
round (in_derived l how) = of_declarator
round (in_width part l d) = of_specifiers
round (in_value part n l) = of_specifiers
round (in_members body) = of_specifiers
round (in_member part l) = of_specifiers
round _ = of_expr

-- whether there is room for an operand in another construct in its place
abbrev pub Roomy : (limit : ℕ) → ℕ → Frame → Type 0
Roomy limit n (in_call l f es) = 2 + n ≤ limit
Roomy limit n (in_then l c) = 2 + n ≤ limit
Roomy limit n (in_width part l d) = 2 + n ≤ limit
Roomy limit n (in_type l purpose) = 2 + n ≤ limit
Roomy limit n (in_type_declarator l purpose q) = 2 + n ≤ limit
Roomy limit n (in_members body) = 2 + n ≤ limit
Roomy limit n (in_member part l) = 2 + n ≤ limit
Roomy limit n _ = Unit {0}

-- what is open takes this next, and the whole is of the sort that was asked for
abbrev pub Takes : (limit : ℕ) → Place → Place → List Frame → Type 0
Takes limit top p [] = Same top p
Takes limit top p (f ∷ fs) = Same (inside f) p × Roomy limit (length fs) f × Takes limit top (round f) fs

abbrev pub Stands : (limit : ℕ) → Place → List Frame → Held → Type 0
Stands limit top fs operand = (1 + length fs ≤ limit) × Takes limit top of_expr fs
Stands limit top fs (opened l) = (2 + length fs ≤ limit) × Takes limit top of_expr fs
Stands limit top fs (sizeof_word l) = (2 + length fs ≤ limit) × Takes limit top of_expr fs
Stands limit top fs (sizeof_opened l m) = (2 + length fs ≤ limit) × Takes limit top of_expr fs
Stands limit top fs (called l e) = (2 + length fs ≤ limit) × Takes limit top of_expr fs
Stands limit top fs (dotted l arrow e) = Takes limit top of_expr fs
Stands limit top fs (have_expr e) = Takes limit top of_expr fs
Stands limit top fs (specifiers q) = Takes limit top of_specifiers fs
Stands limit top fs (tag part) = Takes limit top of_specifiers fs
Stands limit top fs (tag_name part n) = Takes limit top of_specifiers fs
Stands limit top fs (more_members body) = (2 + length fs ≤ limit) × Takes limit top of_specifiers fs
Stands limit top fs (member part) = (2 + length fs ≤ limit) × Takes limit top of_specifiers fs
Stands limit top fs (enumerator part) = Takes limit top of_specifiers fs
Stands limit top fs (enumerator_name part n l) = Takes limit top of_specifiers fs
Stands limit top fs (opened_bound l d) = (2 + length fs ≤ limit) × Takes limit top of_declarator fs
Stands limit top fs _ = Takes limit top of_declarator fs

abbrev pub place_of : Done → Place
place_of (done_expr e) = of_expr
place_of (done_specifiers q) = of_specifiers
place_of (done_declarator d) = of_declarator

abbrev pub Keeps : (limit : ℕ) → Place → Next → Type 0
Keeps limit top (go fs h change) = Stands limit top fs h
Keeps limit top (stop d) = Same top (place_of d)
Keeps limit top deep = Unit {0}
Keeps limit top fail = Unit {0}

within_keeps : (limit : ℕ) (top : Place) (b : Bool) (n : Next) → (b ≡ true → Keeps limit top n) → Keeps limit top (within b n)
within_keeps limit top true n f = f refl
within_keeps limit top false n f = tt

if_keeps : (limit : ℕ) (top : Place) (b : Bool) (n m : Next) → Keeps limit top n → Keeps limit top m → Keeps limit top (if b then n else m)
if_keeps limit top true n m h k = h
if_keeps limit top false n m h k = k

begin_by_keeps : (limit : ℕ) (top : Place) (fs : List Frame) (l : Pos) (sign : Sign) → Takes limit top of_expr fs → (o : Option Prefix) → Keeps limit top (begin_by limit fs l sign o)
begin_by_keeps limit top fs l sign h (Some p) = within_keeps limit top (has_room limit fs 2) (goes (in_operation (in_prefix l p) ∷ fs) operand) (λ e. let room = leb-true _ _ e in (omega (arith, room), (tt, tt, h)))
begin_by_keeps limit top fs l signs.Sizeof h None = within_keeps limit top (has_room limit fs 2) (goes fs (sizeof_word l)) (λ e. (leb-true _ _ e, h))
begin_by_keeps limit top fs l signs.Open h None = within_keeps limit top (has_room limit fs 2) (goes fs (opened l)) (λ e. (leb-true _ _ e, h))
begin_by_keeps limit top fs l _ h None = tt

begin_keeps : (limit : ℕ) (top : Place) (fs : List Frame) (l : Pos) (sign : Sign) → Takes limit top of_expr fs → (o : Option t.ExprTree) → Keeps limit top (begin_with limit fs l sign o)
begin_keeps limit top fs l sign h (Some e) = within_keeps limit top (has_room limit fs 1) (goes fs (have_expr e)) (λ r. h)
begin_keeps limit top fs l sign h None = begin_by_keeps limit top fs l sign h (prefix_of sign)

operand_keeps : (limit : ℕ) (top : Place) (fs : List Frame) (tok : Token) (sign : Sign) → Takes limit top of_expr fs → Keeps limit top (operand_step limit fs tok sign)
unfolding operand_step
operand_keeps limit top fs tok sign h = begin_keeps limit top fs tok.pos sign h (leaf_of tok (names_type sign))

pick_keeps : (limit : ℕ) (top : Place) (rank : ℕ) (e : t.ExprTree) (f : Frame) (fs : List Frame) (b : Bool) (r : t.ExprTree × List Frame) → ends rank f ≡ b → Takes limit top of_expr (f ∷ fs) → (Takes limit top of_expr fs → Takes limit top of_expr r.1) → Takes limit top of_expr (if b then r else (e, f ∷ fs)).1
pick_keeps limit top rank e f fs false r q h k = h
pick_keeps limit top rank e (in_operation o) fs true r q h k = k h.2
pick_keeps limit top rank e _ fs true r q h k = absurd cc

reduce_keeps : (limit : ℕ) (top : Place) (rank : ℕ) (e : t.ExprTree) (fs : List Frame) → Takes limit top of_expr fs → Takes limit top of_expr (reduce rank e fs).1
reduce_keeps limit top rank e [] h = h
reduce_keeps limit top rank e (f ∷ fs) h = pick_keeps limit top rank e f fs (ends rank f) (reduce rank (plug_frame f e) fs) refl h (reduce_keeps limit top rank (plug_frame f e) fs)

member_keeps : (limit : ℕ) (top : Place) (part : MembersPart) (fs : List Frame) (sign : Sign) → 2 + length fs ≤ limit → Takes limit top of_specifiers fs → Keeps limit top (close_member part fs sign)
unfolding close_member
member_keeps limit top part fs signs.Comma room h = (room, h)
member_keeps limit top part fs signs.Semicolon room h = (room, h)
member_keeps limit top part fs _ room h = tt

enumerator_keeps : (limit : ℕ) (top : Place) (part : EnumPart) (n : Name) (fs : List Frame) (sign : Sign) → Takes limit top of_specifiers fs → Keeps limit top (close_enumerator part n fs sign)
unfolding close_enumerator
enumerator_keeps limit top part n fs signs.Comma h = h
enumerator_keeps limit top part n fs signs.CloseBrace h = h
enumerator_keeps limit top part n fs _ h = tt

paren_keeps : (limit : ℕ) (top : Place) (l : Pos) (e : t.ExprTree) (fs : List Frame) (sign : Sign) → Takes limit top of_expr fs → Keeps limit top (close_paren l e fs sign)
paren_keeps limit top l e fs signs.Close h = h
paren_keeps limit top l e fs _ h = tt

index_keeps : (limit : ℕ) (top : Place) (l : Pos) (a e : t.ExprTree) (fs : List Frame) (sign : Sign) → Takes limit top of_expr fs → Keeps limit top (close_index l a e fs sign)
index_keeps limit top l a e fs signs.CloseBracket h = h
index_keeps limit top l a e fs _ h = tt

call_keeps : (limit : ℕ) (top : Place) (l : Pos) (f : t.ExprTree) (es : t.ExprList) (fs : List Frame) (sign : Sign) → 2 + length fs ≤ limit → Takes limit top of_expr fs → Keeps limit top (close_call l f es fs sign)
call_keeps limit top l f es fs signs.Close room h = h
call_keeps limit top l f es fs signs.Comma room h = (omega (arith, room), (tt, room, h))
call_keeps limit top l f es fs _ room h = tt

then_keeps : (limit : ℕ) (top : Place) (l : Pos) (c e : t.ExprTree) (fs : List Frame) (sign : Sign) → 2 + length fs ≤ limit → Takes limit top of_expr fs → Keeps limit top (close_then l c e fs sign)
then_keeps limit top l c e fs signs.Colon room h = (omega (arith, room), (tt, tt, h))
then_keeps limit top l c e fs _ room h = tt

bound_keeps : (limit : ℕ) (top : Place) (l : Pos) (d : t.DeclaratorTree) (e : t.ExprTree) (fs : List Frame) (sign : Sign) → Takes limit top of_declarator fs → Keeps limit top (close_bound l d e fs sign)
bound_keeps limit top l d e fs signs.CloseBracket h = h
bound_keeps limit top l d e fs _ h = tt

close_keeps : (limit : ℕ) (top : Place) (e : t.ExprTree) (fs : List Frame) (sign : Sign) → Takes limit top of_expr fs → Keeps limit top (close e fs sign)
unfolding close
close_keeps limit top e [] sign h = h
close_keeps limit top e (in_paren l ∷ fs) sign h = paren_keeps limit top l e fs sign h.2
close_keeps limit top e (in_index l a ∷ fs) sign h = index_keeps limit top l a e fs sign h.2
close_keeps limit top e (in_call l f es ∷ fs) sign h = call_keeps limit top l f (t.and_expr es e) fs sign h.1 h.2
close_keeps limit top e (in_then l c ∷ fs) sign h = then_keeps limit top l c e fs sign h.1 h.2
close_keeps limit top e (in_bound l d ∷ fs) sign h = bound_keeps limit top l d e fs sign h.2
close_keeps limit top e (in_width part l d ∷ fs) sign h = member_keeps limit top (with_member part l d (t.an_expr e)) fs sign h.1 h.2
close_keeps limit top e (in_value part n l ∷ fs) sign h = enumerator_keeps limit top (with_enumerator part n l (t.an_expr e)) n fs sign h.2
close_keeps limit top e (f ∷ fs) sign h = tt

extend_by_keeps : (limit : ℕ) (top : Place) (o : Option Infix) (e : t.ExprTree) (fs : List Frame) (l : Pos) (sign : Sign) → Takes limit top of_expr fs → 2 + length fs ≤ limit → Keeps limit top (extend_by o e fs l sign)
unfolding extend_by
extend_by_keeps limit top (Some i) e fs l sign h room = (omega (arith, room), (tt, tt, h))
extend_by_keeps limit top None e fs l signs.Open h room = (room, h)
extend_by_keeps limit top None e fs l signs.OpenBracket h room = (omega (arith, room), (tt, tt, h))
extend_by_keeps limit top None e fs l (signs.Member arrow) h room = h
extend_by_keeps limit top None e fs l (signs.Step down) h room = h
extend_by_keeps limit top None e fs l signs.Question h room = (omega (arith, room), (tt, room, h))
extend_by_keeps limit top None e fs l _ h room = tt

extend_keeps : (limit : ℕ) (top : Place) (least : ℕ) (e : t.ExprTree) (fs : List Frame) (l : Pos) (sign : Sign) → Takes limit top of_expr fs → Keeps limit top (extend limit least e fs l sign)
extend_keeps limit top least e fs l sign h = if_keeps limit top (goes_on least e fs sign) (within (nat_le (expr_depth e + (length fs + 1)) limit) (extend_by (infix_of sign) e fs l sign)) (close e fs sign) (within_keeps limit top (nat_le (expr_depth e + (length fs + 1)) limit) (extend_by (infix_of sign) e fs l sign) (λ r. let room = leb-true _ _ r in let one = expr_deep e in extend_by_keeps limit top (infix_of sign) e fs l sign h (omega (arith, room, one)))) (close_keeps limit top e fs sign h)

expr_keeps : (limit : ℕ) (top : Place) (least : ℕ) (e : t.ExprTree) (fs : List Frame) (l : Pos) (sign : Sign) → Takes limit top of_expr fs → Keeps limit top (expr_step limit least e fs l sign)
unfolding expr_step
expr_keeps limit top least e fs l sign h = extend_keeps limit top least (reduce (rank_of sign) e fs).0 (reduce (rank_of sign) e fs).1 l sign (reduce_keeps limit top (rank_of sign) e fs h)

-- declarators
pick_declarator : (limit : ℕ) (top : Place) (f : Frame) (d : t.DeclaratorTree) (fs : List Frame) (r : t.DeclaratorTree × List Frame) → Takes limit top of_declarator (f ∷ fs) → (Takes limit top of_declarator fs → Takes limit top of_declarator r.1) → Takes limit top of_declarator (if is_derived f then r else (d, f ∷ fs)).1
pick_declarator limit top (in_derived l how) d fs r h k = k h.2
pick_declarator limit top _ d fs r h k = h

reduce_declarator_keeps : (limit : ℕ) (top : Place) (d : t.DeclaratorTree) (fs : List Frame) → Takes limit top of_declarator fs → Takes limit top of_declarator (reduce_declarator d fs).1
reduce_declarator_keeps limit top d [] h = h
reduce_declarator_keeps limit top d (f ∷ fs) h = pick_declarator limit top f d fs (reduce_declarator (plug_declarator f d) fs) h (reduce_declarator_keeps limit top (plug_declarator f d) fs)

group_keeps : (limit : ℕ) (top : Place) (l : Pos) (d : t.DeclaratorTree) (fs : List Frame) (sign : Sign) → Takes limit top of_declarator fs → Keeps limit top (close_group l d fs sign)
group_keeps limit top l d fs signs.Close h = h
group_keeps limit top l d fs _ h = tt

with_type_keeps : (limit : ℕ) (top : Place) (l : Pos) (purpose : TypeUse) (ty : t.TypeTree) (fs : List Frame) → 2 + length fs ≤ limit → Takes limit top of_expr fs → Keeps limit top (with_type l purpose ty fs)
with_type_keeps limit top l uses.Cast ty fs room h = (omega (arith, room), (tt, tt, h))
with_type_keeps limit top l uses.Sizeof ty fs room h = h

type_keeps : (limit : ℕ) (top : Place) (l : Pos) (purpose : TypeUse) (q : t.SpecifiersTree) (d : t.DeclaratorTree) (fs : List Frame) (sign : Sign) → 2 + length fs ≤ limit → Takes limit top of_expr fs → Keeps limit top (close_type l purpose q d fs sign)
type_keeps limit top l purpose q d fs signs.Close room h = with_type_keeps limit top l purpose (t.type_name q d) fs room h
type_keeps limit top l purpose q d fs _ room h = tt

param_keeps : (limit : ℕ) (top : Place) (part : ParamsPart) (q : Listed) (d : t.DeclaratorTree) (fs : List Frame) (sign : Sign) → Takes limit top of_declarator fs → Keeps limit top (close_param part q d fs sign)
unfolding close_param
param_keeps limit top part q d fs signs.Comma h = h
param_keeps limit top part q d fs signs.Close h = h
param_keeps limit top part q d fs _ h = tt

member_declarator_keeps : (limit : ℕ) (top : Place) (part : MembersPart) (first : Pos) (d : t.DeclaratorTree) (fs : List Frame) (sign : Sign) → 2 + length fs ≤ limit → Takes limit top of_specifiers fs → Keeps limit top (close_member_declarator part first d fs sign)
unfolding close_member_declarator
member_declarator_keeps limit top part first d fs signs.Colon room h = (omega (arith, room), (tt, room, h))
member_declarator_keeps limit top part first d fs sign room h = member_keeps limit top (with_member part first (t.a_declarator d) t.no_expr) fs sign room h

close_declarator_keeps : (limit : ℕ) (top : Place) (d : t.DeclaratorTree) (fs : List Frame) (sign : Sign) → Takes limit top of_declarator fs → Keeps limit top (close_declarator d fs sign)
unfolding close_declarator
close_declarator_keeps limit top d [] sign h = h
close_declarator_keeps limit top d (in_group l ∷ fs) sign h = group_keeps limit top l d fs sign h.2
close_declarator_keeps limit top d (in_type_declarator l purpose q ∷ fs) sign h = type_keeps limit top l purpose q d fs sign h.1 h.2
close_declarator_keeps limit top d (in_param part q ∷ fs) sign h = param_keeps limit top part q d fs sign h.2
close_declarator_keeps limit top d (in_member part first ∷ fs) sign h = member_declarator_keeps limit top part first d fs sign h.1 h.2
close_declarator_keeps limit top d (f ∷ fs) sign h = tt

some_depth : (d : t.DeclaratorTree) → 1 ≤ declarator_depth d
some_depth (t.nameless l) = omega arith
some_depth (t.named l n) = omega arith
some_depth (t.grouped l d) = omega arith
some_depth (t.calling l cdecl d) = omega arith
some_depth (t.pointer l c v d) = omega arith
some_depth (t.array l d n) = omega arith
some_depth (t.function l d ps) = omega arith

declarator_end_keeps : (limit : ℕ) (top : Place) (d : t.DeclaratorTree) (fs : List Frame) (l : Pos) (sign : Sign) → Takes limit top of_declarator fs → Keeps limit top (declarator_end limit d fs l sign)
unfolding declarator_end
declarator_end_keeps limit top d fs l signs.OpenBracket h = within_keeps limit top (nat_le (declarator_depth d + (length fs + 1)) limit) (goes fs (opened_bound l d)) (λ r. let room = leb-true _ _ r in let one = some_depth d in (omega (arith, room, one), h))
declarator_end_keeps limit top d fs l signs.Open h = within_keeps limit top (nat_le (declarator_depth d + (length fs + 1)) limit) (goes fs (opened_params l d)) (λ r. h)
declarator_end_keeps limit top d fs l sign h = close_declarator_keeps limit top (reduce_declarator d fs).0 (reduce_declarator d fs).1 sign (reduce_declarator_keeps limit top d fs h)

nameless_keeps : (limit : ℕ) (top : Place) (b : Bool) (fs : List Frame) (l : Pos) (sign : Sign) → Takes limit top of_declarator fs → Keeps limit top (without_name limit b fs l sign)
unfolding without_name
nameless_keeps limit top true fs l sign h = declarator_end_keeps limit top (t.nameless l) fs l sign h
nameless_keeps limit top false fs l sign h = tt

declarator_keeps : (limit : ℕ) (top : Place) (sort : Sort) (fs : List Frame) (l : Pos) (sign : Sign) → Takes limit top of_declarator fs → Keeps limit top (declarator_step limit sort fs l sign)
unfolding declarator_step
declarator_keeps limit top sort fs l signs.Star h = within_keeps limit top (has_room limit fs 2) (goes fs (qualifiers l false false sort)) (λ r. h)
declarator_keeps limit top sort fs l (signs.Calling cdecl) h = within_keeps limit top (has_room limit fs 2) (goes (in_derived l (derivations.Calling cdecl) ∷ fs) (declarator sort)) (λ r. (tt, tt, h))
declarator_keeps limit top sort fs l signs.Open h = within_keeps limit top (has_room limit fs 2) (open_group sort fs l) (λ r. if_keeps limit top (is_optional sort) (goes fs (opened_declarator l sort)) (goes (in_group l ∷ fs) (declarator sort)) h (tt, tt, h))
declarator_keeps limit top sort fs l (signs.Name n is_type) h = if_keeps limit top (takes_name sort is_type) (goes fs (have_declarator (t.named l n))) (without_name limit (is_optional sort) fs l (signs.Name n is_type)) h (nameless_keeps limit top (is_optional sort) fs l (signs.Name n is_type) h)
declarator_keeps limit top sort fs l sign h = nameless_keeps limit top (is_optional sort) fs l sign h

-- specifiers and members
member_step_keeps : (limit : ℕ) (top : Place) (part : MembersPart) (fs : List Frame) (l : Pos) (sign : Sign) → 2 + length fs ≤ limit → Takes limit top of_specifiers fs → Keeps limit top (member_step limit part fs l sign)
unfolding member_step
member_step_keeps limit top part fs l signs.Colon room h = (omega (arith, room), (tt, room, h))
member_step_keeps limit top part fs l sign room h = declarator_keeps limit top (sorts.Member part.specifiers.has_type) (in_member part l ∷ fs) l sign (tt, room, h)

listed_keeps : (limit : ℕ) (top : Place) (q : Listed) (fs : List Frame) (l : Pos) (sign : Sign) → Takes limit top of_specifiers fs → Keeps limit top (end_listed limit q fs l sign)
unfolding end_listed
listed_keeps limit top q (in_type k purpose ∷ fs) l sign h = declarator_keeps limit top sorts.Abstract (in_type_declarator k purpose q.tree ∷ fs) l sign (tt, h.1, h.2)
listed_keeps limit top q (in_params part ∷ fs) l sign h = declarator_keeps limit top (sorts.Param q.has_type) (in_param part q ∷ fs) l sign (tt, tt, h.2)
listed_keeps limit top q (in_members body ∷ fs) l sign h = member_step_keeps limit top (record { body = body; specifiers = q; members = t.no_more_members }) fs l sign h.1 h.2
listed_keeps limit top q _ l sign h = tt

list_keeps : (limit : ℕ) (top : Place) (q : Listing) (fs : List Frame) (l : Pos) (sign : Sign) → Takes limit top of_specifiers fs → Keeps limit top (end_specifiers limit q fs l sign)
unfolding end_specifiers
list_keeps limit top q [] l sign h = h
list_keeps limit top q (f ∷ fs) l sign h = if_keeps limit top (is_some q.first) (end_listed limit (ended q l) (f ∷ fs) l sign) fail (listed_keeps limit top (ended q l) (f ∷ fs) l sign h) tt

specifiers_keep : (limit : ℕ) (top : Place) (q : Listing) (fs : List Frame) (l : Pos) (sign : Sign) → Takes limit top of_specifiers fs → Keeps limit top (specifiers_step limit q fs l sign)
unfolding specifiers_step
specifiers_keep limit top q fs l (signs.Word w) h = h
specifiers_keep limit top q fs l (signs.Storage c) h = if_keeps limit top q.takes_storage (goes fs (specifiers (with_storage q l c))) (end_specifiers limit q fs l (signs.Storage c)) h (list_keeps limit top q fs l (signs.Storage c) h)
specifiers_keep limit top q fs l (signs.Tag w) h = h
specifiers_keep limit top q fs l (signs.Name n true) h = if_keeps limit top q.has_type (end_specifiers limit q fs l (signs.Name n true)) (goes fs (specifiers (with_typedef_name q l n))) (list_keeps limit top q fs l (signs.Name n true) h) h
specifiers_keep limit top q fs l sign h = list_keeps limit top q fs l sign h

body_keeps : (limit : ℕ) (top : Place) (part : TagPart) (n : Option Name) (fs : List Frame) → Takes limit top of_specifiers fs → Keeps limit top (open_body limit part n fs)
unfolding open_body
body_keeps limit top part n fs h = if_keeps limit top (is_enum part.word) (goes fs (enumerator (enum_of part n))) (within (has_room limit fs 2) (goes (in_members (body_of part n) ∷ fs) (specifiers (nothing_listed false)))) h (within_keeps limit top (has_room limit fs 2) (goes (in_members (body_of part n) ∷ fs) (specifiers (nothing_listed false))) (λ r. (tt, leb-true _ _ r, h)))

tag_keeps : (limit : ℕ) (top : Place) (part : TagPart) (fs : List Frame) (sign : Sign) → Takes limit top of_specifiers fs → Keeps limit top (tag_step limit part fs sign)
unfolding tag_step
tag_keeps limit top part fs (signs.Name n is_type) h = h
tag_keeps limit top part fs signs.OpenBrace h = body_keeps limit top part None fs h
tag_keeps limit top part fs _ h = tt

tag_name_keeps : (limit : ℕ) (top : Place) (part : TagPart) (n : Name) (fs : List Frame) (l : Pos) (sign : Sign) → Takes limit top of_specifiers fs → Keeps limit top (tag_name_step limit part n fs l sign)
unfolding tag_name_step
tag_name_keeps limit top part n fs l signs.OpenBrace h = body_keeps limit top part (Some n) fs h
tag_name_keeps limit top part n fs l sign h = specifiers_keep limit top (with_tag part n) fs l sign h

more_members_keep : (limit : ℕ) (top : Place) (body : Body) (fs : List Frame) (l : Pos) (sign : Sign) → 2 + length fs ≤ limit → Takes limit top of_specifiers fs → Keeps limit top (more_members_step limit body fs l sign)
unfolding more_members_step
more_members_keep limit top body fs l signs.CloseBrace room h = h
more_members_keep limit top body fs l sign room h = specifiers_keep limit top (nothing_listed false) (in_members body ∷ fs) l sign (tt, room, h)

enumerator_step_keeps : (limit : ℕ) (top : Place) (part : EnumPart) (fs : List Frame) (l : Pos) (sign : Sign) → Takes limit top of_specifiers fs → Keeps limit top (enumerator_step part fs l sign)
unfolding enumerator_step
enumerator_step_keeps limit top part fs l (signs.Name n is_type) h = h
enumerator_step_keeps limit top part fs l _ h = tt

enumerator_name_keeps : (limit : ℕ) (top : Place) (part : EnumPart) (n : Name) (l : Pos) (fs : List Frame) (sign : Sign) → Takes limit top of_specifiers fs → Keeps limit top (enumerator_name_step limit part n l fs sign)
unfolding enumerator_name_step
enumerator_name_keeps limit top part n l fs (signs.Infix (infixes.Assign None)) h = within_keeps limit top (has_room limit fs 2) (goes (in_value part n l ∷ fs) operand) (λ r. let room = leb-true _ _ r in (omega (arith, room), (tt, tt, h)))
enumerator_name_keeps limit top part n l fs sign h = enumerator_keeps limit top (with_enumerator part n l t.no_expr) n fs sign h

-- the rest of the machine
opened_keeps : (limit : ℕ) (top : Place) (l : Pos) (fs : List Frame) (tok : Token) (sign : Sign) → 2 + length fs ≤ limit → Takes limit top of_expr fs → Keeps limit top (opened_step limit l fs tok sign)
unfolding opened_step
opened_keeps limit top l fs tok sign room h = if_keeps limit top (begins_type sign) (if nat_le (hole 0 fs) 13 then specifiers_step limit (nothing_listed false) (in_type l uses.Cast ∷ fs) tok.pos sign else fail) (operand_step limit (in_paren l ∷ fs) tok sign) (if_keeps limit top (nat_le (hole 0 fs) 13) (specifiers_step limit (nothing_listed false) (in_type l uses.Cast ∷ fs) tok.pos sign) fail (specifiers_keep limit top (nothing_listed false) (in_type l uses.Cast ∷ fs) tok.pos sign (tt, room, h)) tt) (operand_keeps limit top (in_paren l ∷ fs) tok sign (tt, tt, h))

sizeof_keeps : (limit : ℕ) (top : Place) (l : Pos) (fs : List Frame) (tok : Token) (sign : Sign) → 2 + length fs ≤ limit → Takes limit top of_expr fs → Keeps limit top (sizeof_step limit l fs tok sign)
unfolding sizeof_step
sizeof_keeps limit top l fs tok signs.Open room h = (room, h)
sizeof_keeps limit top l fs tok sign room h = operand_keeps limit top (in_operation (in_prefix l prefixes.Sizeof) ∷ fs) tok sign (tt, tt, h)

sizeof_opened_keeps : (limit : ℕ) (top : Place) (l m : Pos) (fs : List Frame) (tok : Token) (sign : Sign) → 2 + length fs ≤ limit → Takes limit top of_expr fs → Keeps limit top (sizeof_opened_step limit l m fs tok sign)
unfolding sizeof_opened_step
sizeof_opened_keeps limit top l m fs tok sign room h = if_keeps limit top (begins_type sign) (specifiers_step limit (nothing_listed false) (in_type l uses.Sizeof ∷ fs) tok.pos sign) (operand_step limit (in_paren m ∷ in_operation (in_prefix l prefixes.Sizeof) ∷ fs) tok sign) (specifiers_keep limit top (nothing_listed false) (in_type l uses.Sizeof ∷ fs) tok.pos sign (tt, room, h)) (operand_keeps limit top (in_paren m ∷ in_operation (in_prefix l prefixes.Sizeof) ∷ fs) tok sign (tt, tt, (tt, tt, h)))

called_keeps : (limit : ℕ) (top : Place) (l : Pos) (e : t.ExprTree) (fs : List Frame) (tok : Token) (sign : Sign) → 2 + length fs ≤ limit → Takes limit top of_expr fs → Keeps limit top (called_step limit l e fs tok sign)
unfolding called_step
called_keeps limit top l e fs tok signs.Close room h = h
called_keeps limit top l e fs tok sign room h = operand_keeps limit top (in_call l e t.no_exprs ∷ fs) tok sign (tt, room, h)

dotted_keeps : (limit : ℕ) (top : Place) (l : Pos) (arrow : Bool) (e : t.ExprTree) (fs : List Frame) (sign : Sign) → Takes limit top of_expr fs → Keeps limit top (dotted_step l arrow e fs sign)
unfolding dotted_step
dotted_keeps limit top l arrow e fs (signs.Name n is_type) h = h
dotted_keeps limit top l arrow e fs _ h = tt

qualifiers_keep : (limit : ℕ) (top : Place) (start : Pos) (c v : Bool) (sort : Sort) (fs : List Frame) (l : Pos) (sign : Sign) → Takes limit top of_declarator fs → Keeps limit top (qualifiers_step limit start c v sort fs l sign)
unfolding qualifiers_step
qualifiers_keep limit top start c v sort fs l (signs.Word words.Const) h = h
qualifiers_keep limit top start c v sort fs l (signs.Word words.Volatile) h = h
qualifiers_keep limit top start c v sort fs l sign h = declarator_keeps limit top sort (in_derived start (derivations.Pointer c v) ∷ fs) l sign (tt, tt, h)

block_keeps : (limit : ℕ) (top : Place) (n : Next) → Keeps limit top n → Keeps limit top (in_block n)
block_keeps limit top (go fs h change) k = k
block_keeps limit top (stop done) k = k
block_keeps limit top deep k = tt
block_keeps limit top fail k = tt

params_keep : (limit : ℕ) (top : Place) (start : Pos) (d : t.DeclaratorTree) (fs : List Frame) (l : Pos) (sign : Sign) → Takes limit top of_declarator fs → Keeps limit top (params_step limit start d fs l sign)
unfolding params_step
params_keep limit top start d fs l sign h = let part : ParamsPart = record { pos = start; declarator = d; params = t.no_more_params } in block_keeps limit top (specifiers_step limit (nothing_listed true) (in_params part ∷ fs) l sign) (specifiers_keep limit top (nothing_listed true) (in_params part ∷ fs) l sign (tt, tt, h))

opened_declarator_keeps : (limit : ℕ) (top : Place) (start : Pos) (sort : Sort) (fs : List Frame) (l : Pos) (sign : Sign) → Takes limit top of_declarator fs → Keeps limit top (opened_declarator_step limit start sort fs l sign)
unfolding opened_declarator_step
opened_declarator_keeps limit top start sort fs l signs.Close h = h
opened_declarator_keeps limit top start sort fs l sign h = if_keeps limit top (begins_specifiers sign) (params_step limit start (t.nameless start) fs l sign) (declarator_step limit sort (in_group start ∷ fs) l sign) (params_keep limit top start (t.nameless start) fs l sign h) (declarator_keeps limit top sort (in_group start ∷ fs) l sign (tt, tt, h))

opened_bound_keeps : (limit : ℕ) (top : Place) (start : Pos) (d : t.DeclaratorTree) (fs : List Frame) (tok : Token) (sign : Sign) → Takes limit top of_declarator fs → Keeps limit top (opened_bound_step limit start d fs tok sign)
unfolding opened_bound_step
opened_bound_keeps limit top start d fs tok signs.CloseBracket h = h
opened_bound_keeps limit top start d fs tok sign h = operand_keeps limit top (in_bound start d ∷ fs) tok sign (tt, tt, h)

opened_params_keep : (limit : ℕ) (top : Place) (start : Pos) (d : t.DeclaratorTree) (fs : List Frame) (l : Pos) (sign : Sign) → Takes limit top of_declarator fs → Keeps limit top (opened_params_step limit start d fs l sign)
unfolding opened_params_step
opened_params_keep limit top start d fs l signs.Close h = h
opened_params_keep limit top start d fs l (signs.Name n false) h = if_keeps limit top (is_some (Names.declared_name d)) (goes fs (names_end (record { pos = start; declarator = d; names = (n, l) ∷ [] }))) fail h tt
opened_params_keep limit top start d fs l sign h = if_keeps limit top (begins_specifiers sign) (params_step limit start d fs l sign) fail (params_keep limit top start d fs l sign h) tt

more_params_keep : (limit : ℕ) (top : Place) (part : ParamsPart) (fs : List Frame) (l : Pos) (sign : Sign) → Takes limit top of_declarator fs → Keeps limit top (more_params_step limit part fs l sign)
unfolding more_params_step
more_params_keep limit top part fs l signs.Ellipsis h = h
more_params_keep limit top part fs l sign h = specifiers_keep limit top (nothing_listed true) (in_params part ∷ fs) l sign (tt, tt, h)

ellipsis_keeps : (limit : ℕ) (top : Place) (part : ParamsPart) (fs : List Frame) (sign : Sign) → Takes limit top of_declarator fs → Keeps limit top (ellipsis_step part fs sign)
unfolding ellipsis_step
ellipsis_keeps limit top part fs signs.Close h = h
ellipsis_keeps limit top part fs _ h = tt

names_keep : (limit : ℕ) (top : Place) (part : NamesPart) (fs : List Frame) (l : Pos) (sign : Sign) → Takes limit top of_declarator fs → Keeps limit top (names_step part fs l sign)
unfolding names_step
names_keep limit top part fs l (signs.Name n false) h = h
names_keep limit top part fs l _ h = tt

names_end_keep : (limit : ℕ) (top : Place) (part : NamesPart) (fs : List Frame) (sign : Sign) → Takes limit top of_declarator fs → Keeps limit top (names_end_step part fs sign)
unfolding names_end_step
names_end_keep limit top part fs signs.Comma h = h
names_end_keep limit top part fs signs.Close h = h
names_end_keep limit top part fs _ h = tt

step_by_keeps : (limit : ℕ) (top : Place) (least : ℕ) (fs : List Frame) (held : Held) (tok : Token) (sign : Sign) → Stands limit top fs held → Keeps limit top (step_by limit least fs held tok sign)
step_by_keeps limit top least fs operand tok sign h = operand_keeps limit top fs tok sign h.1
step_by_keeps limit top least fs (opened l) tok sign h = opened_keeps limit top l fs tok sign h.0 h.1
step_by_keeps limit top least fs (sizeof_word l) tok sign h = sizeof_keeps limit top l fs tok sign h.0 h.1
step_by_keeps limit top least fs (sizeof_opened l m) tok sign h = sizeof_opened_keeps limit top l m fs tok sign h.0 h.1
step_by_keeps limit top least fs (called l e) tok sign h = called_keeps limit top l e fs tok sign h.0 h.1
step_by_keeps limit top least fs (dotted l arrow e) tok sign h = dotted_keeps limit top l arrow e fs sign h
step_by_keeps limit top least fs (have_expr e) tok sign h = expr_keeps limit top least e fs tok.pos sign h
step_by_keeps limit top least fs (specifiers q) tok sign h = specifiers_keep limit top q fs tok.pos sign h
step_by_keeps limit top least fs (tag part) tok sign h = tag_keeps limit top part fs sign h
step_by_keeps limit top least fs (tag_name part n) tok sign h = tag_name_keeps limit top part n fs tok.pos sign h
step_by_keeps limit top least fs (more_members body) tok sign h = more_members_keep limit top body fs tok.pos sign h.0 h.1
step_by_keeps limit top least fs (member part) tok sign h = member_step_keeps limit top part fs tok.pos sign h.0 h.1
step_by_keeps limit top least fs (enumerator part) tok sign h = enumerator_step_keeps limit top part fs tok.pos sign h
step_by_keeps limit top least fs (enumerator_name part n l) tok sign h = enumerator_name_keeps limit top part n l fs sign h
step_by_keeps limit top least fs (declarator sort) tok sign h = declarator_keeps limit top sort fs tok.pos sign h
step_by_keeps limit top least fs (qualifiers l c v sort) tok sign h = qualifiers_keep limit top l c v sort fs tok.pos sign h
step_by_keeps limit top least fs (opened_declarator l sort) tok sign h = opened_declarator_keeps limit top l sort fs tok.pos sign h
step_by_keeps limit top least fs (have_declarator d) tok sign h = declarator_end_keeps limit top d fs tok.pos sign h
step_by_keeps limit top least fs (opened_bound l d) tok sign h = opened_bound_keeps limit top l d fs tok sign h.1
step_by_keeps limit top least fs (opened_params l d) tok sign h = opened_params_keep limit top l d fs tok.pos sign h
step_by_keeps limit top least fs (more_params part) tok sign h = more_params_keep limit top part fs tok.pos sign h
step_by_keeps limit top least fs (ellipsis part) tok sign h = ellipsis_keeps limit top part fs sign h
step_by_keeps limit top least fs (names part) tok sign h = names_keep limit top part fs tok.pos sign h
step_by_keeps limit top least fs (names_end part) tok sign h = names_end_keep limit top part fs sign h

pub step_keeps : (limit : ℕ) (top : Place) (least : ℕ) (scope : Blocks) (fs : List Frame) (held : Held) (tok : Token) → Stands limit top fs held → Keeps limit top (step limit least scope fs held tok)
unfolding step
step_keeps limit top least scope fs held tok h = step_by_keeps limit top least fs held tok (sign_of (is_type_in scope) tok) h
