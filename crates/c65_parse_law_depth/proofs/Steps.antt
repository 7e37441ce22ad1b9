-- What a step asks of the limit, whatever is open and whatever was read.
use Rattle.std.proofs.Common.{◌≡◌, ℕ, ◌≤◌, ◌⊎◌, List, [], ◌∷◌, Bool, true, false, if◌then◌else◌, nat_le}
use Rattle.std.specs.Prelude.{is_some}
use Rattle.c65_base.specs.declared.refusal.Pos.{Pos}
use Rattle.c65_scan.specs.declared.token.Token.{Token}
use Rattle.c65_tree.specs.Trees as t
use Rattle.c65_parse_trees.specs.declared.operator.Prefix.TheVariants as prefixes
use Rattle.c65_parse_trees.specs.declared.sign.Sign.{Sign}
use Rattle.c65_parse_trees.specs.declared.sign.Sign.TheVariants as signs
use Rattle.c65_parse_trees.specs.declared.sign.Word.TheVariants as words
use Rattle.c65_parse_trees.specs.Listings.{ParamsPart, NamesPart, nothing_listed}
use Rattle.c65_parse_trees.specs.Names
use Rattle.c65_parse_trees.specs.Signs.{sign_of, begins_type, begins_specifiers}
use Rattle.c65_parse_names.specs.Scopes.{Blocks, is_type_in}
use Rattle.c65_parse.specs.declared.frame.Derivation.TheVariants as derivations
use Rattle.c65_parse.specs.declared.frame.Sort.{Sort}
use Rattle.c65_parse.specs.declared.frame.TypeUse.TheVariants as uses
use Rattle.c65_parse.specs.Frames.{Frame, in_operation, in_prefix, in_paren, in_call, in_bound, in_type, in_params, in_group, in_derived, Held, operand, opened, sizeof_word, sizeof_opened, called, dotted, have_expr, specifiers, tag, tag_name, more_members, member, enumerator, enumerator_name, declarator, qualifiers, opened_declarator, have_declarator, opened_bound, opened_params, more_params, ellipsis, names, names_end, deep, fail}
use Rattle.c65_parse.specs.Expressions.{goes, operand_step, hole}
use Rattle.c65_parse.specs.Declarators.{declarator_step}
use Rattle.c65_parse.specs.Specifiers.{specifiers_step}
use Rattle.c65_parse.specs.Machine.{opened_step, sizeof_step, sizeof_opened_step, called_step, dotted_step, qualifiers_step, params_step, opened_declarator_step, opened_bound_step, opened_params_step, more_params_step, ellipsis_step, names_step, names_end_step, step_by, step}
use Rattle.c65_parse_law_depth.proofs.Needs.{IsShallow, Needs, needs_nothing, goes_needs, fails_needs, if_needs, block_needs, needs_grow, Opens, needs_open}
use Rattle.c65_parse_law_depth.proofs.Expressions.{operand_needs, expr_needs}
use Rattle.c65_parse_law_depth.proofs.Declarators.{declarator_needs, declarator_end_needs}
use Rattle.c65_parse_law_depth.proofs.Specifiers.{member_needs, specifiers_needs, tag_needs, tag_name_needs, more_members_needs, enumerator_needs, enumerator_name_needs}

opened_needs : (l : Pos) (fs : List Frame) (tok : Token) (sign : Sign) → Needs (λ limit. opened_step limit l fs tok sign)
unfolding opened_step
opened_needs l fs tok sign = if_needs (begins_type sign) (λ limit. if nat_le (hole 0 fs) 13 then specifiers_step limit (nothing_listed false) (in_type l uses.Cast ∷ fs) tok.pos sign else fail) (λ limit. operand_step limit (in_paren l ∷ fs) tok sign)
    (if_needs (nat_le (hole 0 fs) 13) (λ limit. specifiers_step limit (nothing_listed false) (in_type l uses.Cast ∷ fs) tok.pos sign) (λ limit. fail) (specifiers_needs (nothing_listed false) (in_type l uses.Cast ∷ fs) tok.pos sign) fails_needs)
    (operand_needs (in_paren l ∷ fs) tok sign)

sizeof_needs : (l : Pos) (fs : List Frame) (tok : Token) (sign : Sign) → Needs (λ limit. sizeof_step limit l fs tok sign)
unfolding sizeof_step
sizeof_needs l fs tok signs.Open = goes_needs fs (sizeof_opened l tok.pos)
sizeof_needs l fs tok sign = operand_needs (in_operation (in_prefix l prefixes.Sizeof) ∷ fs) tok sign

sizeof_opened_needs : (l m : Pos) (fs : List Frame) (tok : Token) (sign : Sign) → Needs (λ limit. sizeof_opened_step limit l m fs tok sign)
unfolding sizeof_opened_step
sizeof_opened_needs l m fs tok sign = if_needs (begins_type sign) (λ limit. specifiers_step limit (nothing_listed false) (in_type l uses.Sizeof ∷ fs) tok.pos sign) (λ limit. operand_step limit (in_paren m ∷ in_operation (in_prefix l prefixes.Sizeof) ∷ fs) tok sign) (specifiers_needs (nothing_listed false) (in_type l uses.Sizeof ∷ fs) tok.pos sign) (operand_needs (in_paren m ∷ in_operation (in_prefix l prefixes.Sizeof) ∷ fs) tok sign)

called_needs : (l : Pos) (e : t.ExprTree) (fs : List Frame) (tok : Token) (sign : Sign) → Needs (λ limit. called_step limit l e fs tok sign)
unfolding called_step
called_needs l e fs tok signs.Close = goes_needs fs (have_expr (t.call l e t.no_exprs))
called_needs l e fs tok sign = operand_needs (in_call l e t.no_exprs ∷ fs) tok sign

dotted_needs : (l : Pos) (arrow : Bool) (e : t.ExprTree) (fs : List Frame) (sign : Sign) → Needs (λ limit. dotted_step l arrow e fs sign)
unfolding dotted_step
dotted_needs l arrow e fs (signs.Name n is_type) = goes_needs fs (have_expr (t.member l e arrow n))
dotted_needs l arrow e fs _ = fails_needs

qualifiers_needs : (start : Pos) (c v : Bool) (sort : Sort) (fs : List Frame) (l : Pos) (sign : Sign) → Needs (λ limit. qualifiers_step limit start c v sort fs l sign)
unfolding qualifiers_step
qualifiers_needs start c v sort fs l (signs.Word words.Const) = goes_needs fs (qualifiers start true v sort)
qualifiers_needs start c v sort fs l (signs.Word words.Volatile) = goes_needs fs (qualifiers start c true sort)
qualifiers_needs start c v sort fs l sign = declarator_needs sort (in_derived start (derivations.Pointer c v) ∷ fs) l sign

params_needs : (start : Pos) (d : t.DeclaratorTree) (fs : List Frame) (l : Pos) (sign : Sign) → Needs (λ limit. params_step limit start d fs l sign)
unfolding params_step
params_needs start d fs l sign = let part : ParamsPart = record { pos = start; declarator = d; params = t.no_more_params } in block_needs (λ limit. specifiers_step limit (nothing_listed true) (in_params part ∷ fs) l sign) (specifiers_needs (nothing_listed true) (in_params part ∷ fs) l sign)

opened_declarator_needs : (start : Pos) (sort : Sort) (fs : List Frame) (l : Pos) (sign : Sign) → Needs (λ limit. opened_declarator_step limit start sort fs l sign)
unfolding opened_declarator_step
opened_declarator_needs start sort fs l signs.Close = goes_needs fs (have_declarator (t.function start (t.nameless start) t.no_params))
opened_declarator_needs start sort fs l sign = if_needs (begins_specifiers sign) (λ limit. params_step limit start (t.nameless start) fs l sign) (λ limit. declarator_step limit sort (in_group start ∷ fs) l sign) (params_needs start (t.nameless start) fs l sign) (declarator_needs sort (in_group start ∷ fs) l sign)

opened_bound_needs : (start : Pos) (d : t.DeclaratorTree) (fs : List Frame) (tok : Token) (sign : Sign) → Needs (λ limit. opened_bound_step limit start d fs tok sign)
unfolding opened_bound_step
opened_bound_needs start d fs tok signs.CloseBracket = goes_needs fs (have_declarator (t.array start d t.no_expr))
opened_bound_needs start d fs tok sign = operand_needs (in_bound start d ∷ fs) tok sign

opened_params_needs : (start : Pos) (d : t.DeclaratorTree) (fs : List Frame) (l : Pos) (sign : Sign) → Needs (λ limit. opened_params_step limit start d fs l sign)
unfolding opened_params_step
opened_params_needs start d fs l signs.Close = goes_needs fs (have_declarator (t.function start d t.no_params))
opened_params_needs start d fs l (signs.Name n false) = if_needs (is_some (Names.declared_name d)) (λ limit. goes fs (names_end (record { pos = start; declarator = d; names = (n, l) ∷ [] }))) (λ limit. fail) (goes_needs fs (names_end (record { pos = start; declarator = d; names = (n, l) ∷ [] }))) fails_needs
opened_params_needs start d fs l sign = if_needs (begins_specifiers sign) (λ limit. params_step limit start d fs l sign) (λ limit. fail) (params_needs start d fs l sign) fails_needs

more_params_needs : (part : ParamsPart) (fs : List Frame) (l : Pos) (sign : Sign) → Needs (λ limit. more_params_step limit part fs l sign)
unfolding more_params_step
more_params_needs part fs l signs.Ellipsis = goes_needs fs (ellipsis part)
more_params_needs part fs l sign = specifiers_needs (nothing_listed true) (in_params part ∷ fs) l sign

ellipsis_shallow : (part : ParamsPart) (fs : List Frame) (sign : Sign) → IsShallow (ellipsis_step part fs sign)
unfolding ellipsis_step
ellipsis_shallow part fs signs.Close = tt
ellipsis_shallow part fs _ = tt

names_shallow : (part : NamesPart) (fs : List Frame) (l : Pos) (sign : Sign) → IsShallow (names_step part fs l sign)
unfolding names_step
names_shallow part fs l (signs.Name n false) = tt
names_shallow part fs l _ = tt

names_end_shallow : (part : NamesPart) (fs : List Frame) (sign : Sign) → IsShallow (names_end_step part fs sign)
unfolding names_end_step
names_end_shallow part fs signs.Comma = tt
names_end_shallow part fs signs.Close = tt
names_end_shallow part fs _ = tt

step_by_needs : (least : ℕ) (fs : List Frame) (held : Held) (tok : Token) (sign : Sign) → Needs (λ limit. step_by limit least fs held tok sign)
step_by_needs least fs operand tok sign = operand_needs fs tok sign
step_by_needs least fs (opened l) tok sign = opened_needs l fs tok sign
step_by_needs least fs (sizeof_word l) tok sign = sizeof_needs l fs tok sign
step_by_needs least fs (sizeof_opened l m) tok sign = sizeof_opened_needs l m fs tok sign
step_by_needs least fs (called l e) tok sign = called_needs l e fs tok sign
step_by_needs least fs (dotted l arrow e) tok sign = dotted_needs l arrow e fs sign
step_by_needs least fs (have_expr e) tok sign = expr_needs least e fs tok.pos sign
step_by_needs least fs (specifiers q) tok sign = specifiers_needs q fs tok.pos sign
step_by_needs least fs (tag part) tok sign = tag_needs part fs sign
step_by_needs least fs (tag_name part n) tok sign = tag_name_needs part n fs tok.pos sign
step_by_needs least fs (more_members body) tok sign = more_members_needs body fs tok.pos sign
step_by_needs least fs (member part) tok sign = member_needs part fs tok.pos sign
step_by_needs least fs (enumerator part) tok sign = enumerator_needs part fs tok.pos sign
step_by_needs least fs (enumerator_name part n l) tok sign = enumerator_name_needs part n l fs sign
step_by_needs least fs (declarator sort) tok sign = declarator_needs sort fs tok.pos sign
step_by_needs least fs (qualifiers l c v sort) tok sign = qualifiers_needs l c v sort fs tok.pos sign
step_by_needs least fs (opened_declarator l sort) tok sign = opened_declarator_needs l sort fs tok.pos sign
step_by_needs least fs (have_declarator d) tok sign = declarator_end_needs d fs tok.pos sign
step_by_needs least fs (opened_bound l d) tok sign = opened_bound_needs l d fs tok sign
step_by_needs least fs (opened_params l d) tok sign = opened_params_needs l d fs tok.pos sign
step_by_needs least fs (more_params part) tok sign = more_params_needs part fs tok.pos sign
step_by_needs least fs (ellipsis part) tok sign = needs_nothing (ellipsis_step part fs sign) (ellipsis_shallow part fs sign)
step_by_needs least fs (names part) tok sign = needs_nothing (names_step part fs tok.pos sign) (names_shallow part fs tok.pos sign)
step_by_needs least fs (names_end part) tok sign = needs_nothing (names_end_step part fs sign) (names_end_shallow part fs sign)

pub step_needs : (least : ℕ) (scope : Blocks) (fs : List Frame) (held : Held) (tok : Token) → Needs (λ limit. step limit least scope fs held tok)
unfolding step
step_needs least scope fs held tok = step_by_needs least fs held tok (sign_of (is_type_in scope) tok)

-- a greater limit changes nothing but what is too deep
pub step_grows : (limit more : ℕ) → limit ≤ more → (least : ℕ) (scope : Blocks) (fs : List Frame) (held : Held) (tok : Token) → (step limit least scope fs held tok ≡ deep) ⊎ (step limit least scope fs held tok ≡ step more least scope fs held tok)
step_grows limit more fits least scope fs held tok = needs_grow (λ limit. step limit least scope fs held tok) (step_needs least scope fs held tok) limit more fits

-- where a step is too deep, it goes on within some greater limit
pub step_opens : (limit least : ℕ) (scope : Blocks) (fs : List Frame) (held : Held) (tok : Token) → step limit least scope fs held tok ≡ deep → Opens (λ more. step more least scope fs held tok) limit
step_opens limit least scope fs held tok h = needs_open (λ more. step more least scope fs held tok) (step_needs least scope fs held tok) limit h
