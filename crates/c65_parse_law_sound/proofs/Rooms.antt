-- That no tree is deeper than the limit: what is open and what is held leave room for each other.
use Rattle.std.proofs.Common.{◌≡◌, ℕ, suc, ◌+◌, ◌≤◌, List, [], ◌∷◌, length, Bool, true, false, refl, ap, arith}
use Rattle.std.proofs.lemmas.Bool.{leb-true}
use Rattle.std.specs.Prelude.{max, nat_le, Option, None, Some, is_some, if◌then◌else◌, Ok, Err}
use Rattle.c65_base.specs.Answers.{large}
use Rattle.c65_base.specs.declared.names.Name.{Name}
use Rattle.c65_base.specs.declared.refusal.Pos.{Pos}
use Rattle.c65_base.specs.declared.refusal.Size.TheVariants.{Depth}
use Rattle.c65_scan.specs.declared.token.Token.{Token}
use Rattle.c65_scan.specs.declared.token.TokenKind.{TokenKind}
use Rattle.c65_scan.specs.declared.token.TokenKind.TheVariants as kinds
use Rattle.c65_tree.specs.Trees as t
use Rattle.c65_tree.specs.Depth.{expr_depth, exprs_depth, type_depth, specifiers_depth, specifier_list_depth, specifier_depth, member_decls_depth, member_list_depth, enumerator_list_depth, declarator_depth, maybe_declarator_depth, maybe_expr_depth, param_list_depth}
use Rattle.c65_parse_trees.specs.declared.operator.Infix.{Infix}
use Rattle.c65_parse_trees.specs.declared.operator.Infix.TheVariants as infixes
use Rattle.c65_parse_trees.specs.declared.operator.Prefix.{Prefix}
use Rattle.c65_parse_trees.specs.declared.operator.Prefix.TheVariants as prefixes
use Rattle.c65_parse_trees.specs.declared.sign.Sign.{Sign}
use Rattle.c65_parse_trees.specs.declared.sign.Sign.TheVariants as signs
use Rattle.c65_parse_trees.specs.declared.sign.TagWord.{TagWord}
use Rattle.c65_parse_trees.specs.declared.sign.TagWord.TheVariants as tags
use Rattle.c65_parse_trees.specs.declared.sign.Word.TheVariants as words
use Rattle.c65_parse_trees.specs.Names
use Rattle.c65_parse_trees.specs.Plugs.{infix_tree, prefix_tree}
use Rattle.c65_parse_trees.specs.Signs.{sign_of, prefix_of, infix_of, rank_of, begins_type, begins_specifiers}
use Rattle.c65_parse_trees.specs.Listings.{Listing, Listed, TagPart, Body, MembersPart, EnumPart, ParamsPart, NamesPart, nothing_listed, with_storage, with_typedef_name, tag_tree, with_tag, ended}
use Rattle.c65_parse_names.specs.Scopes.{Blocks, is_type_in}
use Rattle.c65_parse.specs.declared.frame.Derivation.{Derivation}
use Rattle.c65_parse.specs.declared.frame.Derivation.TheVariants as derivations
use Rattle.c65_parse.specs.declared.frame.Sort.{Sort}
use Rattle.c65_parse.specs.declared.frame.Sort.TheVariants as sorts
use Rattle.c65_parse.specs.declared.frame.TypeUse.{TypeUse}
use Rattle.c65_parse.specs.declared.frame.TypeUse.TheVariants as uses
use Rattle.c65_parse.specs.Frames.{Operation, in_prefix, in_cast, in_right, in_else, Frame, in_operation, in_paren, in_index, in_call, in_then, in_bound, in_width, in_value, in_type, in_type_declarator, in_members, in_member, in_params, in_param, in_group, in_derived, Held, operand, opened, sizeof_word, sizeof_opened, called, dotted, have_expr, specifiers, tag, tag_name, more_members, member, enumerator, enumerator_name, declarator, qualifiers, opened_declarator, have_declarator, opened_bound, opened_params, more_params, ellipsis, names, names_end, Done, done_expr, done_specifiers, done_declarator, Next, go, stop, deep, fail}
use Rattle.c65_parse.specs.Expressions.{goes, within, has_room, names_type, leaf_of_kind, leaf_of, begin_by, begin_with, operand_step, plug, ends, plug_frame, reduce, goes_on, extend_by, close_paren, close_index, close_call, close_then, close_bound, with_member, close_member, with_enumerator, close_enumerator, close, extend, expr_step, hole}
use Rattle.c65_parse.specs.Declarators.{is_optional, derived, is_derived, plug_declarator, reduce_declarator, close_group, with_type, close_type, with_param, close_param, close_member_declarator, close_declarator, declarator_end, without_name, open_group, declarator_step, takes_name}
use Rattle.c65_parse.specs.Specifiers.{member_step, end_listed, end_specifiers, specifiers_step, is_enum, body_of, enum_of, open_body, tag_step, tag_name_step, more_members_step, enumerator_step, enumerator_name_step}
use Rattle.c65_parse.specs.Machine.{opened_step, sizeof_step, sizeof_opened_step, called_step, dotted_step, qualifiers_step, in_block, params_step, opened_declarator_step, opened_bound_step, opened_params_step, more_params_step, ellipsis_step, names_step, names_end_step, step_by, step, changed, Reading, run, fault_at}
use Rattle.c65_parse_law_sound.proofs.Phrases.{some_is, no_none}

-- a tree of this depth among so many constructs
abbrev pub Below : (limit : ℕ) → ℕ → ℕ → Type 0
Below limit depth n = depth + n ≤ limit

pub record BodyFits (limit : ℕ) (n : ℕ) (b : Body) : Type 0 where
  pub outer : Below limit (specifier_list_depth b.outer.items) n
  pub decls : Below limit (member_decls_depth b.decls) (suc n)
  pub room : 2 + n ≤ limit

pub record MembersFit (limit : ℕ) (n : ℕ) (part : MembersPart) : Type 0 where
  pub body : BodyFits limit n part.body
  pub listed : Below limit (specifiers_depth part.specifiers.tree) (suc n)
  pub members : Below limit (member_list_depth part.members) (suc n)

pub record EnumFits (limit : ℕ) (n : ℕ) (part : EnumPart) : Type 0 where
  pub outer : Below limit (specifier_list_depth part.outer.items) n
  pub enumerators : Below limit (enumerator_list_depth part.enumerators) (suc n)
  pub room : 1 + n ≤ limit

pub record ParamsFit (limit : ℕ) (n : ℕ) (part : ParamsPart) : Type 0 where
  pub direct : Below limit (declarator_depth part.declarator) (suc n)
  pub params : Below limit (param_list_depth part.params) (suc n)
  pub room : 2 + n ≤ limit

abbrev pub OperationFits : (limit : ℕ) → ℕ → Operation → Type 0
OperationFits limit n (in_prefix l p) = Unit {0}
OperationFits limit n (in_cast l ty) = Below limit (type_depth ty) (suc n)
OperationFits limit n (in_right l i a) = Below limit (expr_depth a) (suc n)
OperationFits limit n (in_else l c a) = Below limit (expr_depth c) (suc n) × Below limit (expr_depth a) (suc n)

-- a construct round which so many stand
abbrev pub Room : (limit : ℕ) → ℕ → Frame → Type 0
Room limit n (in_operation o) = OperationFits limit n o
Room limit n (in_paren l) = Unit {0}
Room limit n (in_index l a) = Below limit (expr_depth a) (suc n)
Room limit n (in_call l f es) = Below limit (expr_depth f) (suc n) × Below limit (exprs_depth es) (suc n)
Room limit n (in_then l c) = Below limit (expr_depth c) (suc n)
Room limit n (in_bound l d) = Below limit (declarator_depth d) (suc n)
Room limit n (in_width part l d) = MembersFit limit n part × Below limit (maybe_declarator_depth d) (suc n)
Room limit n (in_value part m l) = EnumFits limit n part
Room limit n (in_type l purpose) = Unit {0}
Room limit n (in_type_declarator l purpose q) = Below limit (specifiers_depth q) (suc n)
Room limit n (in_members body) = BodyFits limit n body
Room limit n (in_member part l) = MembersFit limit n part
Room limit n (in_params part) = ParamsFit limit n part
Room limit n (in_param part q) = ParamsFit limit n part × Below limit (specifiers_depth q.tree) (suc n)
Room limit n (in_group l) = Unit {0}
Room limit n (in_derived l how) = Unit {0}

abbrev pub Rooms : (limit : ℕ) → List Frame → Type 0
Rooms limit [] = Unit {0}
Rooms limit (f ∷ fs) = Room limit (length fs) f × Rooms limit fs

abbrev pub Kept : (limit : ℕ) → ℕ → Held → Type 0
Kept limit n operand = Unit {0}
Kept limit n (opened l) = 2 + n ≤ limit
Kept limit n (sizeof_word l) = 2 + n ≤ limit
Kept limit n (sizeof_opened l k) = 2 + n ≤ limit
Kept limit n (called l e) = Below limit (expr_depth e) (suc n)
Kept limit n (dotted l arrow e) = Below limit (expr_depth e) (suc n)
Kept limit n (have_expr e) = Below limit (expr_depth e) n
Kept limit n (specifiers q) = Below limit (specifier_list_depth q.items) n × (1 + n ≤ limit)
Kept limit n (tag part) = Below limit (specifier_list_depth part.outer.items) n × (1 + n ≤ limit)
Kept limit n (tag_name part m) = Below limit (specifier_list_depth part.outer.items) n × (1 + n ≤ limit)
Kept limit n (more_members body) = BodyFits limit n body
Kept limit n (member part) = MembersFit limit n part
Kept limit n (enumerator part) = EnumFits limit n part
Kept limit n (enumerator_name part m l) = EnumFits limit n part
Kept limit n (declarator sort) = 1 + n ≤ limit
Kept limit n (qualifiers l c v sort) = 2 + n ≤ limit
Kept limit n (opened_declarator l sort) = 2 + n ≤ limit
Kept limit n (have_declarator d) = Below limit (declarator_depth d) n
Kept limit n (opened_bound l d) = Below limit (declarator_depth d) (suc n)
Kept limit n (opened_params l d) = Below limit (declarator_depth d) (suc n)
Kept limit n (more_params part) = ParamsFit limit n part
Kept limit n (ellipsis part) = ParamsFit limit n part
Kept limit n (names part) = Below limit (declarator_depth part.declarator) (suc n)
Kept limit n (names_end part) = Below limit (declarator_depth part.declarator) (suc n)

abbrev pub SmallDone : (limit : ℕ) → Done → Type 0
SmallDone limit (done_expr e) = expr_depth e ≤ limit
SmallDone limit (done_specifiers q) = specifiers_depth q.tree ≤ limit
SmallDone limit (done_declarator d) = declarator_depth d ≤ limit

abbrev pub Small : (limit : ℕ) → Next → Type 0
Small limit (go fs h change) = Rooms limit fs × Kept limit (length fs) h
Small limit (stop done) = SmallDone limit done
Small limit deep = Unit {0}
Small limit fail = Unit {0}

small_within : (limit : ℕ) (b : Bool) (n : Next) → (b ≡ true → Small limit n) → Small limit (within b n)
small_within limit true n f = f refl
small_within limit false n f = tt

small_if : (limit : ℕ) (b : Bool) (n m : Next) → Small limit n → Small limit m → Small limit (if b then n else m)
small_if limit true n m h k = h
small_if limit false n m h k = k

leaf_depth : (l : Pos) (k : TokenKind) (b : Bool) (e : t.ExprTree) → leaf_of_kind l k b ≡ Some e → 1 ≡ expr_depth e
leaf_depth l (kinds.Keyword k) b e q = absurd (no_none e q)
leaf_depth l (kinds.Name n) true e q = absurd (no_none e q)
leaf_depth l (kinds.Name n) false e q = ap expr_depth (some_is (t.name l n) e q)
leaf_depth l (kinds.Number ty n) b e q = ap expr_depth (some_is (t.number l ty n) e q)
leaf_depth l (kinds.Text bs) b e q = ap expr_depth (some_is (t.text l bs) e q)
leaf_depth l (kinds.Punct p) b e q = absurd (no_none e q)
leaf_depth l kinds.End b e q = absurd (no_none e q)

begin_by_small : (limit : ℕ) (fs : List Frame) (l : Pos) (sign : Sign) → Rooms limit fs → (o : Option Prefix) → Small limit (begin_by limit fs l sign o)
begin_by_small limit fs l sign h (Some p) = small_within limit (has_room limit fs 2) (goes (in_operation (in_prefix l p) ∷ fs) operand) (λ e. ((tt, h), tt))
begin_by_small limit fs l signs.Sizeof h None = small_within limit (has_room limit fs 2) (goes fs (sizeof_word l)) (λ e. (h, leb-true _ _ e))
begin_by_small limit fs l signs.Open h None = small_within limit (has_room limit fs 2) (goes fs (opened l)) (λ e. (h, leb-true _ _ e))
begin_by_small limit fs l _ h None = tt

begin_small : (limit : ℕ) (fs : List Frame) (tok : Token) (sign : Sign) → Rooms limit fs → (o : Option t.ExprTree) → leaf_of_kind tok.pos tok.kind (names_type sign) ≡ o → Small limit (begin_with limit fs tok.pos sign o)
begin_small limit fs tok sign h (Some e) q = small_within limit (has_room limit fs 1) (goes fs (have_expr e)) (λ r. let one = leaf_depth tok.pos tok.kind (names_type sign) e q in let room = leb-true _ _ r in (h, omega (arith, one, room)))
begin_small limit fs tok sign h None q = begin_by_small limit fs tok.pos sign h (prefix_of sign)

operand_small : (limit : ℕ) (fs : List Frame) (tok : Token) (sign : Sign) → Rooms limit fs → Small limit (operand_step limit fs tok sign)
unfolding operand_step
operand_small limit fs tok sign h = begin_small limit fs tok sign h (leaf_of tok (names_type sign)) refl

prefix_depth : (l : Pos) (p : Prefix) (e : t.ExprTree) → expr_depth (prefix_tree l p e) ≡ expr_depth e + 1
prefix_depth l (prefixes.Unary op) e = refl
prefix_depth l (prefixes.Step how) e = refl
prefix_depth l prefixes.Sizeof e = refl

infix_depth : (l : Pos) (i : Infix) (a b : t.ExprTree) → expr_depth (infix_tree l i a b) ≡ max (expr_depth a) (expr_depth b) + 1
infix_depth l (infixes.Binary op) a b = refl
infix_depth l infixes.And a b = refl
infix_depth l infixes.Or a b = refl
infix_depth l (infixes.Assign op) a b = refl
infix_depth l infixes.Comma a b = refl

plug_small : (limit : ℕ) (n : ℕ) (o : Operation) (e : t.ExprTree) → OperationFits limit n o → Below limit (expr_depth e) (suc n) → Below limit (expr_depth (plug o e)) n
plug_small limit n (in_prefix l p) e h k = omega (arith, prefix_depth l p e)
plug_small limit n (in_cast l ty) e h k = omega arith
plug_small limit n (in_right l i a) e h k = omega (arith, infix_depth l i a e)
plug_small limit n (in_else l c a) e h k = omega (arith, h.0, h.1)

abbrev Fits : (limit : ℕ) → t.ExprTree × List Frame → Type 0
Fits limit r = Rooms limit r.1 × Below limit (expr_depth r.0) (length r.1)

pick_small : (limit : ℕ) (rank : ℕ) (e : t.ExprTree) (f : Frame) (fs : List Frame) (b : Bool) (r : t.ExprTree × List Frame) → ends rank f ≡ b → Fits limit (e, f ∷ fs) → (Fits limit (plug_frame f e, fs) → Fits limit r) → Fits limit (if b then r else (e, f ∷ fs))
pick_small limit rank e f fs false r q h k = h
pick_small limit rank e (in_operation o) fs true r q h k = k (h.0.1, plug_small limit (length fs) o e h.0.0 h.1)
pick_small limit rank e _ fs true r q h k = absurd cc

reduce_small : (limit : ℕ) (rank : ℕ) (e : t.ExprTree) (fs : List Frame) → Fits limit (e, fs) → Fits limit (reduce rank e fs)
reduce_small limit rank e [] h = h
reduce_small limit rank e (f ∷ fs) h = pick_small limit rank e f fs (ends rank f) (reduce rank (plug_frame f e) fs) refl h (reduce_small limit rank (plug_frame f e) fs)

member_small : (limit : ℕ) (part : MembersPart) (fs : List Frame) (sign : Sign) → Rooms limit fs → MembersFit limit (length fs) part → Small limit (close_member part fs sign)
unfolding close_member
member_small limit part fs signs.Comma h k = (h, k)
member_small limit part fs signs.Semicolon h k = (h, record { outer = k.body.outer; decls = omega (arith, k.body.decls, k.listed, k.members); room = k.body.room })
member_small limit part fs _ h k = tt

enumerator_small : (limit : ℕ) (part : EnumPart) (n : Name) (fs : List Frame) (sign : Sign) → Rooms limit fs → EnumFits limit (length fs) part → Small limit (close_enumerator part n fs sign)
unfolding close_enumerator
enumerator_small limit part n fs signs.Comma h k = (h, k)
enumerator_small limit part n fs signs.CloseBrace h k = (h, (omega (arith, k.outer, k.enumerators), k.room))
enumerator_small limit part n fs _ h k = tt

paren_small : (limit : ℕ) (l : Pos) (e : t.ExprTree) (fs : List Frame) (sign : Sign) → Rooms limit fs → Below limit (expr_depth e) (suc (length fs)) → Small limit (close_paren l e fs sign)
paren_small limit l e fs signs.Close h k = (h, omega arith)
paren_small limit l e fs _ h k = tt

index_small : (limit : ℕ) (l : Pos) (a e : t.ExprTree) (fs : List Frame) (sign : Sign) → Rooms limit fs → Below limit (expr_depth a) (suc (length fs)) → Below limit (expr_depth e) (suc (length fs)) → Small limit (close_index l a e fs sign)
index_small limit l a e fs signs.CloseBracket h j k = (h, omega arith)
index_small limit l a e fs _ h j k = tt

call_small : (limit : ℕ) (l : Pos) (f : t.ExprTree) (es : t.ExprList) (fs : List Frame) (sign : Sign) → Rooms limit fs → Below limit (expr_depth f) (suc (length fs)) → Below limit (exprs_depth es) (suc (length fs)) → Small limit (close_call l f es fs sign)
call_small limit l f es fs signs.Close h j k = (h, omega arith)
call_small limit l f es fs signs.Comma h j k = (((j, k), h), tt)
call_small limit l f es fs _ h j k = tt

then_small : (limit : ℕ) (l : Pos) (c e : t.ExprTree) (fs : List Frame) (sign : Sign) → Rooms limit fs → Below limit (expr_depth c) (suc (length fs)) → Below limit (expr_depth e) (suc (length fs)) → Small limit (close_then l c e fs sign)
then_small limit l c e fs signs.Colon h j k = (((j, k), h), tt)
then_small limit l c e fs _ h j k = tt

bound_small : (limit : ℕ) (l : Pos) (d : t.DeclaratorTree) (e : t.ExprTree) (fs : List Frame) (sign : Sign) → Rooms limit fs → Below limit (declarator_depth d) (suc (length fs)) → Below limit (expr_depth e) (suc (length fs)) → Small limit (close_bound l d e fs sign)
bound_small limit l d e fs signs.CloseBracket h j k = (h, omega arith)
bound_small limit l d e fs _ h j k = tt

width_fits : (limit : ℕ) (n : ℕ) (part : MembersPart) (l : Pos) (d : t.MaybeDeclarator) (v : t.MaybeExpr) → MembersFit limit n part → Below limit (maybe_declarator_depth d) (suc n) → Below limit (maybe_expr_depth v) (suc n) → MembersFit limit n (with_member part l d v)
width_fits limit n part l d v h j k = record { body = h.body; listed = h.listed; members = omega (arith, h.members, j, k) }

value_fits : (limit : ℕ) (n : ℕ) (part : EnumPart) (m : Name) (l : Pos) (v : t.MaybeExpr) → EnumFits limit n part → Below limit (maybe_expr_depth v) (suc n) → EnumFits limit n (with_enumerator part m l v)
value_fits limit n part m l v h k = record { outer = h.outer; enumerators = omega (arith, h.enumerators, k); room = h.room }

close_small : (limit : ℕ) (e : t.ExprTree) (fs : List Frame) (sign : Sign) → Rooms limit fs → Below limit (expr_depth e) (length fs) → Small limit (close e fs sign)
unfolding close
close_small limit e [] sign h k = omega (arith, k)
close_small limit e (in_paren l ∷ fs) sign h k = paren_small limit l e fs sign h.1 k
close_small limit e (in_index l a ∷ fs) sign h k = index_small limit l a e fs sign h.1 h.0 k
close_small limit e (in_call l f es ∷ fs) sign h k = call_small limit l f (t.and_expr es e) fs sign h.1 h.0.0 (let j = h.0.1 in omega (arith, j, k))
close_small limit e (in_then l c ∷ fs) sign h k = then_small limit l c e fs sign h.1 h.0 k
close_small limit e (in_bound l d ∷ fs) sign h k = bound_small limit l d e fs sign h.1 h.0 k
close_small limit e (in_width part l d ∷ fs) sign h k = member_small limit (with_member part l d (t.an_expr e)) fs sign h.1 (width_fits limit (length fs) part l d (t.an_expr e) h.0.0 h.0.1 k)
close_small limit e (in_value part n l ∷ fs) sign h k = enumerator_small limit (with_enumerator part n l (t.an_expr e)) n fs sign h.1 (value_fits limit (length fs) part n l (t.an_expr e) h.0 k)
close_small limit e (f ∷ fs) sign h k = tt

extend_by_small : (limit : ℕ) (o : Option Infix) (e : t.ExprTree) (fs : List Frame) (l : Pos) (sign : Sign) → Rooms limit fs → expr_depth e + (length fs + 1) ≤ limit → Small limit (extend_by o e fs l sign)
unfolding extend_by
extend_by_small limit (Some i) e fs l sign h k = ((omega arith, h), tt)
extend_by_small limit None e fs l signs.Open h k = (h, omega arith)
extend_by_small limit None e fs l signs.OpenBracket h k = ((omega arith, h), tt)
extend_by_small limit None e fs l (signs.Member arrow) h k = (h, omega arith)
extend_by_small limit None e fs l (signs.Step down) h k = (h, omega arith)
extend_by_small limit None e fs l signs.Question h k = ((omega arith, h), tt)
extend_by_small limit None e fs l _ h k = tt

extend_small : (limit : ℕ) (least : ℕ) (e : t.ExprTree) (fs : List Frame) (l : Pos) (sign : Sign) → Rooms limit fs → Below limit (expr_depth e) (length fs) → Small limit (extend limit least e fs l sign)
extend_small limit least e fs l sign h k = small_if limit (goes_on least e fs sign) _ _ (small_within limit (nat_le (expr_depth e + (length fs + 1)) limit) (extend_by (infix_of sign) e fs l sign) (λ r. extend_by_small limit (infix_of sign) e fs l sign h (leb-true _ _ r))) (close_small limit e fs sign h k)

expr_small : (limit : ℕ) (least : ℕ) (e : t.ExprTree) (fs : List Frame) (l : Pos) (sign : Sign) → Rooms limit fs → Below limit (expr_depth e) (length fs) → Small limit (expr_step limit least e fs l sign)
unfolding expr_step
expr_small limit least e fs l sign h k = let r = reduce_small limit (rank_of sign) e fs (h, k) in extend_small limit least (reduce (rank_of sign) e fs).0 (reduce (rank_of sign) e fs).1 l sign r.0 r.1

-- declarators
derived_small : (limit : ℕ) (n : ℕ) (l : Pos) (how : Derivation) (d : t.DeclaratorTree) → Below limit (declarator_depth d) (suc n) → Below limit (declarator_depth (derived l how d)) n
derived_small limit n l (derivations.Pointer c v) d k = omega arith
derived_small limit n l (derivations.Calling cdecl) d k = omega arith

abbrev DeclaratorFits : (limit : ℕ) → t.DeclaratorTree × List Frame → Type 0
DeclaratorFits limit r = Rooms limit r.1 × Below limit (declarator_depth r.0) (length r.1)

pick_declarator : (limit : ℕ) (f : Frame) (d : t.DeclaratorTree) (fs : List Frame) (r : t.DeclaratorTree × List Frame) → DeclaratorFits limit (d, f ∷ fs) → (DeclaratorFits limit (plug_declarator f d, fs) → DeclaratorFits limit r) → DeclaratorFits limit (if is_derived f then r else (d, f ∷ fs))
pick_declarator limit (in_derived l how) d fs r h k = k (h.0.1, derived_small limit (length fs) l how d h.1)
pick_declarator limit _ d fs r h k = h

reduce_declarator_small : (limit : ℕ) (d : t.DeclaratorTree) (fs : List Frame) → DeclaratorFits limit (d, fs) → DeclaratorFits limit (reduce_declarator d fs)
reduce_declarator_small limit d [] h = h
reduce_declarator_small limit d (f ∷ fs) h = pick_declarator limit f d fs (reduce_declarator (plug_declarator f d) fs) h (reduce_declarator_small limit (plug_declarator f d) fs)

group_small : (limit : ℕ) (l : Pos) (d : t.DeclaratorTree) (fs : List Frame) (sign : Sign) → Rooms limit fs → Below limit (declarator_depth d) (suc (length fs)) → Small limit (close_group l d fs sign)
group_small limit l d fs signs.Close h k = (h, omega arith)
group_small limit l d fs _ h k = tt

with_type_small : (limit : ℕ) (l : Pos) (purpose : TypeUse) (ty : t.TypeTree) (fs : List Frame) → Rooms limit fs → Below limit (type_depth ty) (suc (length fs)) → Small limit (with_type l purpose ty fs)
with_type_small limit l uses.Cast ty fs h k = ((k, h), tt)
with_type_small limit l uses.Sizeof ty fs h k = (h, omega arith)

type_small : (limit : ℕ) (l : Pos) (purpose : TypeUse) (q : t.SpecifiersTree) (d : t.DeclaratorTree) (fs : List Frame) (sign : Sign) → Rooms limit fs → Below limit (specifiers_depth q) (suc (length fs)) → Below limit (declarator_depth d) (suc (length fs)) → Small limit (close_type l purpose q d fs sign)
type_small limit l purpose q d fs signs.Close h j k = with_type_small limit l purpose (t.type_name q d) fs h (omega arith)
type_small limit l purpose q d fs _ h j k = tt

param_fits : (limit : ℕ) (n : ℕ) (part : ParamsPart) (q : t.SpecifiersTree) (d : t.DeclaratorTree) → ParamsFit limit n part → Below limit (specifiers_depth q) (suc n) → Below limit (declarator_depth d) (suc n) → ParamsFit limit n (with_param part q d)
param_fits limit n part q d h j k = record { direct = h.direct; params = omega (arith, h.params, j, k); room = h.room }

param_small : (limit : ℕ) (part : ParamsPart) (q : Listed) (d : t.DeclaratorTree) (fs : List Frame) (sign : Sign) → Rooms limit fs → ParamsFit limit (length fs) (with_param part q.tree d) → Small limit (close_param part q d fs sign)
unfolding close_param
param_small limit part q d fs signs.Comma h k = (h, k)
param_small limit part q d fs signs.Close h k = (h, omega (arith, k.direct, k.params))
param_small limit part q d fs _ h k = tt

member_declarator_small : (limit : ℕ) (part : MembersPart) (first : Pos) (d : t.DeclaratorTree) (fs : List Frame) (sign : Sign) → Rooms limit fs → MembersFit limit (length fs) part → Below limit (declarator_depth d) (suc (length fs)) → Small limit (close_member_declarator part first d fs sign)
unfolding close_member_declarator
member_declarator_small limit part first d fs signs.Colon h j k = (((j, k), h), tt)
member_declarator_small limit part first d fs sign h j k = member_small limit (with_member part first (t.a_declarator d) t.no_expr) fs sign h (width_fits limit (length fs) part first (t.a_declarator d) t.no_expr j k (let room = j.body.room in omega (arith, room)))

close_declarator_small : (limit : ℕ) (d : t.DeclaratorTree) (fs : List Frame) (sign : Sign) → Rooms limit fs → Below limit (declarator_depth d) (length fs) → Small limit (close_declarator d fs sign)
unfolding close_declarator
close_declarator_small limit d [] sign h k = omega (arith, k)
close_declarator_small limit d (in_group l ∷ fs) sign h k = group_small limit l d fs sign h.1 k
close_declarator_small limit d (in_type_declarator l purpose q ∷ fs) sign h k = type_small limit l purpose q d fs sign h.1 h.0 k
close_declarator_small limit d (in_param part q ∷ fs) sign h k = param_small limit part q d fs sign h.1 (param_fits limit (length fs) part q.tree d h.0.0 h.0.1 k)
close_declarator_small limit d (in_member part first ∷ fs) sign h k = member_declarator_small limit part first d fs sign h.1 h.0 k
close_declarator_small limit d (f ∷ fs) sign h k = tt

declarator_end_small : (limit : ℕ) (d : t.DeclaratorTree) (fs : List Frame) (l : Pos) (sign : Sign) → Rooms limit fs → Below limit (declarator_depth d) (length fs) → Small limit (declarator_end limit d fs l sign)
unfolding declarator_end
declarator_end_small limit d fs l signs.OpenBracket h k = small_within limit (nat_le (declarator_depth d + (length fs + 1)) limit) (goes fs (opened_bound l d)) (λ r. let room = leb-true _ _ r in (h, omega (arith, room)))
declarator_end_small limit d fs l signs.Open h k = small_within limit (nat_le (declarator_depth d + (length fs + 1)) limit) (goes fs (opened_params l d)) (λ r. let room = leb-true _ _ r in (h, omega (arith, room)))
declarator_end_small limit d fs l sign h k = let r = reduce_declarator_small limit d fs (h, k) in close_declarator_small limit (reduce_declarator d fs).0 (reduce_declarator d fs).1 sign r.0 r.1

nameless_small : (limit : ℕ) (b : Bool) (fs : List Frame) (l : Pos) (sign : Sign) → Rooms limit fs → 1 + length fs ≤ limit → Small limit (without_name limit b fs l sign)
unfolding without_name
nameless_small limit true fs l sign h k = declarator_end_small limit (t.nameless l) fs l sign h k
nameless_small limit false fs l sign h k = tt

open_group_small : (limit : ℕ) (sort : Sort) (fs : List Frame) (l : Pos) → Rooms limit fs → 2 + length fs ≤ limit → Small limit (open_group sort fs l)
open_group_small limit sort fs l h k = small_if limit (is_optional sort) (goes fs (opened_declarator l sort)) (goes (in_group l ∷ fs) (declarator sort)) (h, k) ((tt, h), omega arith)

declarator_small : (limit : ℕ) (sort : Sort) (fs : List Frame) (l : Pos) (sign : Sign) → Rooms limit fs → 1 + length fs ≤ limit → Small limit (declarator_step limit sort fs l sign)
unfolding declarator_step
declarator_small limit sort fs l signs.Star h k = small_within limit (has_room limit fs 2) (goes fs (qualifiers l false false sort)) (λ r. (h, leb-true _ _ r))
declarator_small limit sort fs l (signs.Calling cdecl) h k = small_within limit (has_room limit fs 2) (goes (in_derived l (derivations.Calling cdecl) ∷ fs) (declarator sort)) (λ r. let room = leb-true _ _ r in ((tt, h), omega (arith, room)))
declarator_small limit sort fs l signs.Open h k = small_within limit (has_room limit fs 2) (open_group sort fs l) (λ r. open_group_small limit sort fs l h (leb-true _ _ r))
declarator_small limit sort fs l (signs.Name n is_type) h k = small_if limit (takes_name sort is_type) (goes fs (have_declarator (t.named l n))) _ (h, k) (nameless_small limit (is_optional sort) fs l (signs.Name n is_type) h k)
declarator_small limit sort fs l sign h k = nameless_small limit (is_optional sort) fs l sign h k

-- specifiers
member_step_small : (limit : ℕ) (part : MembersPart) (fs : List Frame) (l : Pos) (sign : Sign) → Rooms limit fs → MembersFit limit (length fs) part → Small limit (member_step limit part fs l sign)
unfolding member_step
member_step_small limit part fs l signs.Colon h k = (((k, (let room = k.body.room in omega (arith, room))), h), tt)
member_step_small limit part fs l sign h k = declarator_small limit (sorts.Member part.specifiers.has_type) (in_member part l ∷ fs) l sign (k, h) (let room = k.body.room in omega (arith, room))

end_listed_small : (limit : ℕ) (q : Listed) (fs : List Frame) (l : Pos) (sign : Sign) → Rooms limit fs → Below limit (specifiers_depth q.tree) (length fs) → 1 + length fs ≤ limit → Small limit (end_listed limit q fs l sign)
unfolding end_listed
end_listed_small limit q (in_type at purpose ∷ fs) l sign h j k = declarator_small limit sorts.Abstract (in_type_declarator at purpose q.tree ∷ fs) l sign (j, h.1) k
end_listed_small limit q (in_params part ∷ fs) l sign h j k = declarator_small limit (sorts.Param q.has_type) (in_param part q ∷ fs) l sign ((h.0, j), h.1) k
end_listed_small limit q (in_members body ∷ fs) l sign h j k = member_step_small limit (record { body = body; specifiers = q; members = t.no_more_members }) fs l sign h.1 (record { body = h.0; listed = j; members = omega (arith, k) })
end_listed_small limit q _ l sign h j k = tt

end_small : (limit : ℕ) (q : Listing) (fs : List Frame) (l : Pos) (sign : Sign) → Rooms limit fs → Below limit (specifier_list_depth q.items) (length fs) → 1 + length fs ≤ limit → Small limit (end_specifiers limit q fs l sign)
unfolding end_specifiers
end_small limit q [] l sign h j k = omega (arith, j)
end_small limit q (f ∷ fs) l sign h j k = small_if limit (is_some q.first) _ fail (end_listed_small limit (ended q l) (f ∷ fs) l sign h j k) tt

specifiers_small : (limit : ℕ) (q : Listing) (fs : List Frame) (l : Pos) (sign : Sign) → Rooms limit fs → Below limit (specifier_list_depth q.items) (length fs) → 1 + length fs ≤ limit → Small limit (specifiers_step limit q fs l sign)
unfolding specifiers_step
specifiers_small limit q fs l (signs.Word w) h j k = (h, (omega (arith, j, k), k))
specifiers_small limit q fs l (signs.Storage c) h j k = small_if limit q.takes_storage (goes fs (specifiers (with_storage q l c))) _ (h, (omega (arith, j, k), k)) (end_small limit q fs l (signs.Storage c) h j k)
specifiers_small limit q fs l (signs.Tag w) h j k = (h, (j, k))
specifiers_small limit q fs l (signs.Name n true) h j k = small_if limit q.has_type _ (goes fs (specifiers (with_typedef_name q l n))) (end_small limit q fs l (signs.Name n true) h j k) (h, (omega (arith, j, k), k))
specifiers_small limit q fs l sign h j k = end_small limit q fs l sign h j k

-- nothing is listed yet
begun_small : (limit : ℕ) (b : Bool) (fs : List Frame) (l : Pos) (sign : Sign) → Rooms limit fs → 1 + length fs ≤ limit → Small limit (specifiers_step limit (nothing_listed b) fs l sign)
begun_small limit b fs l sign h k = specifiers_small limit (nothing_listed b) fs l sign h (omega (arith, k)) k

open_body_small : (limit : ℕ) (part : TagPart) (n : Option Name) (fs : List Frame) → Rooms limit fs → Below limit (specifier_list_depth part.outer.items) (length fs) → 1 + length fs ≤ limit → Small limit (open_body limit part n fs)
unfolding open_body
open_body_small limit part n fs h j k = small_if limit (is_enum part.word) (goes fs (enumerator (enum_of part n))) _
    (h, record { outer = j; enumerators = omega (arith, k); room = k })
    (small_within limit (has_room limit fs 2) (goes (in_members (body_of part n) ∷ fs) (specifiers (nothing_listed false))) (λ r. let room = leb-true _ _ r in ((record { outer = j; decls = omega (arith, k); room = room }, h), (omega (arith, k), omega (arith, room)))))

tag_small : (limit : ℕ) (part : TagPart) (fs : List Frame) (sign : Sign) → Rooms limit fs → Below limit (specifier_list_depth part.outer.items) (length fs) → 1 + length fs ≤ limit → Small limit (tag_step limit part fs sign)
unfolding tag_step
tag_small limit part fs (signs.Name n is_type) h j k = (h, (j, k))
tag_small limit part fs signs.OpenBrace h j k = open_body_small limit part None fs h j k
tag_small limit part fs _ h j k = tt

tag_depth : (l : Pos) (wd : TagWord) (n : Name) → specifier_depth (tag_tree l wd n) ≡ 1
tag_depth l tags.Struct n = refl
tag_depth l tags.Union n = refl
tag_depth l tags.Enum n = refl

tag_fits : (limit : ℕ) (part : TagPart) (n : Name) (fs : List Frame) → Below limit (specifier_list_depth part.outer.items) (length fs) → 1 + length fs ≤ limit → Below limit (specifier_list_depth (with_tag part n).items) (length fs)
tag_fits limit part n fs j k = omega (arith, j, k, tag_depth part.pos part.word n)

tag_name_small : (limit : ℕ) (part : TagPart) (n : Name) (fs : List Frame) (l : Pos) (sign : Sign) → Rooms limit fs → Below limit (specifier_list_depth part.outer.items) (length fs) → 1 + length fs ≤ limit → Small limit (tag_name_step limit part n fs l sign)
unfolding tag_name_step
tag_name_small limit part n fs l signs.OpenBrace h j k = open_body_small limit part (Some n) fs h j k
tag_name_small limit part n fs l sign h j k = specifiers_small limit (with_tag part n) fs l sign h (tag_fits limit part n fs j k) k

more_members_small : (limit : ℕ) (body : Body) (fs : List Frame) (l : Pos) (sign : Sign) → Rooms limit fs → BodyFits limit (length fs) body → Small limit (more_members_step limit body fs l sign)
unfolding more_members_step
more_members_small limit body fs l signs.CloseBrace h k = (h, (omega (arith, k.outer, k.decls), omega (arith, k.room)))
more_members_small limit body fs l sign h k = begun_small limit false (in_members body ∷ fs) l sign (k, h) (let room = k.room in omega (arith, room))

enumerator_step_small : (limit : ℕ) (part : EnumPart) (fs : List Frame) (l : Pos) (sign : Sign) → Rooms limit fs → EnumFits limit (length fs) part → Small limit (enumerator_step part fs l sign)
unfolding enumerator_step
enumerator_step_small limit part fs l (signs.Name n is_type) h k = (h, k)
enumerator_step_small limit part fs l _ h k = tt

enumerator_name_small : (limit : ℕ) (part : EnumPart) (n : Name) (l : Pos) (fs : List Frame) (sign : Sign) → Rooms limit fs → EnumFits limit (length fs) part → Small limit (enumerator_name_step limit part n l fs sign)
unfolding enumerator_name_step
enumerator_name_small limit part n l fs (signs.Infix (infixes.Assign None)) h k = small_within limit (has_room limit fs 2) (goes (in_value part n l ∷ fs) operand) (λ r. ((k, h), tt))
enumerator_name_small limit part n l fs sign h k = enumerator_small limit (with_enumerator part n l t.no_expr) n fs sign h (value_fits limit (length fs) part n l t.no_expr k (let room = k.room in omega (arith, room)))

-- the rest of the machine
opened_small : (limit : ℕ) (l : Pos) (fs : List Frame) (tok : Token) (sign : Sign) → Rooms limit fs → 2 + length fs ≤ limit → Small limit (opened_step limit l fs tok sign)
unfolding opened_step
opened_small limit l fs tok sign h k = small_if limit (begins_type sign) _ _ (small_if limit (nat_le (hole 0 fs) 13) _ fail (begun_small limit false (in_type l uses.Cast ∷ fs) tok.pos sign (tt, h) (omega (arith, k))) tt) (operand_small limit (in_paren l ∷ fs) tok sign (tt, h))

sizeof_small : (limit : ℕ) (l : Pos) (fs : List Frame) (tok : Token) (sign : Sign) → Rooms limit fs → 2 + length fs ≤ limit → Small limit (sizeof_step limit l fs tok sign)
unfolding sizeof_step
sizeof_small limit l fs tok signs.Open h k = (h, k)
sizeof_small limit l fs tok sign h k = operand_small limit (in_operation (in_prefix l prefixes.Sizeof) ∷ fs) tok sign (tt, h)

sizeof_opened_small : (limit : ℕ) (l m : Pos) (fs : List Frame) (tok : Token) (sign : Sign) → Rooms limit fs → 2 + length fs ≤ limit → Small limit (sizeof_opened_step limit l m fs tok sign)
unfolding sizeof_opened_step
sizeof_opened_small limit l m fs tok sign h k = small_if limit (begins_type sign) _ _ (begun_small limit false (in_type l uses.Sizeof ∷ fs) tok.pos sign (tt, h) (omega (arith, k))) (operand_small limit (in_paren m ∷ in_operation (in_prefix l prefixes.Sizeof) ∷ fs) tok sign (tt, (tt, h)))

called_small : (limit : ℕ) (l : Pos) (e : t.ExprTree) (fs : List Frame) (tok : Token) (sign : Sign) → Rooms limit fs → Below limit (expr_depth e) (suc (length fs)) → Small limit (called_step limit l e fs tok sign)
unfolding called_step
called_small limit l e fs tok signs.Close h k = (h, omega (arith, k))
called_small limit l e fs tok sign h k = operand_small limit (in_call l e t.no_exprs ∷ fs) tok sign ((k, omega (arith, k)), h)

dotted_small : (limit : ℕ) (l : Pos) (arrow : Bool) (e : t.ExprTree) (fs : List Frame) (sign : Sign) → Rooms limit fs → Below limit (expr_depth e) (suc (length fs)) → Small limit (dotted_step l arrow e fs sign)
unfolding dotted_step
dotted_small limit l arrow e fs (signs.Name n is_type) h k = (h, omega (arith, k))
dotted_small limit l arrow e fs _ h k = tt

qualifiers_small : (limit : ℕ) (start : Pos) (c v : Bool) (sort : Sort) (fs : List Frame) (l : Pos) (sign : Sign) → Rooms limit fs → 2 + length fs ≤ limit → Small limit (qualifiers_step limit start c v sort fs l sign)
unfolding qualifiers_step
qualifiers_small limit start c v sort fs l (signs.Word words.Const) h k = (h, k)
qualifiers_small limit start c v sort fs l (signs.Word words.Volatile) h k = (h, k)
qualifiers_small limit start c v sort fs l sign h k = declarator_small limit sort (in_derived start (derivations.Pointer c v) ∷ fs) l sign (tt, h) (omega (arith, k))

block_small : (limit : ℕ) (n : Next) → Small limit n → Small limit (in_block n)
block_small limit (go fs h change) k = k
block_small limit (stop done) k = k
block_small limit deep k = tt
block_small limit fail k = tt

params_small : (limit : ℕ) (start : Pos) (d : t.DeclaratorTree) (fs : List Frame) (l : Pos) (sign : Sign) → Rooms limit fs → Below limit (declarator_depth d) (suc (length fs)) → 2 + length fs ≤ limit → Small limit (params_step limit start d fs l sign)
unfolding params_step
params_small limit start d fs l sign h j k = let part : ParamsPart = record { pos = start; declarator = d; params = t.no_more_params } in block_small limit _ (begun_small limit true (in_params part ∷ fs) l sign (record { direct = j; params = omega (arith, k); room = k }, h) (omega (arith, k)))

opened_declarator_small : (limit : ℕ) (start : Pos) (sort : Sort) (fs : List Frame) (l : Pos) (sign : Sign) → Rooms limit fs → 2 + length fs ≤ limit → Small limit (opened_declarator_step limit start sort fs l sign)
unfolding opened_declarator_step
opened_declarator_small limit start sort fs l signs.Close h k = (h, k)
opened_declarator_small limit start sort fs l sign h k = small_if limit (begins_specifiers sign) _ _ (params_small limit start (t.nameless start) fs l sign h (omega (arith, k)) k) (declarator_small limit sort (in_group start ∷ fs) l sign (tt, h) (omega (arith, k)))

opened_bound_small : (limit : ℕ) (start : Pos) (d : t.DeclaratorTree) (fs : List Frame) (tok : Token) (sign : Sign) → Rooms limit fs → Below limit (declarator_depth d) (suc (length fs)) → Small limit (opened_bound_step limit start d fs tok sign)
unfolding opened_bound_step
opened_bound_small limit start d fs tok signs.CloseBracket h k = (h, omega (arith, k))
opened_bound_small limit start d fs tok sign h k = operand_small limit (in_bound start d ∷ fs) tok sign (k, h)

some_depth : (d : t.DeclaratorTree) → 1 ≤ declarator_depth d
some_depth (t.nameless l) = omega arith
some_depth (t.named l n) = omega arith
some_depth (t.grouped l d) = omega arith
some_depth (t.calling l cdecl d) = omega arith
some_depth (t.pointer l c v d) = omega arith
some_depth (t.array l d n) = omega arith
some_depth (t.function l d ps) = omega arith

opened_params_small : (limit : ℕ) (start : Pos) (d : t.DeclaratorTree) (fs : List Frame) (l : Pos) (sign : Sign) → Rooms limit fs → Below limit (declarator_depth d) (suc (length fs)) → Small limit (opened_params_step limit start d fs l sign)
unfolding opened_params_step
opened_params_small limit start d fs l signs.Close h k = (h, omega (arith, k))
opened_params_small limit start d fs l (signs.Name n false) h k = small_if limit (is_some (Names.declared_name d)) (goes fs (names_end (record { pos = start; declarator = d; names = (n, l) ∷ [] }))) fail (h, k) tt
opened_params_small limit start d fs l sign h k = small_if limit (begins_specifiers sign) _ fail (params_small limit start d fs l sign h k (let one = some_depth d in omega (arith, one, k))) tt

more_params_small : (limit : ℕ) (part : ParamsPart) (fs : List Frame) (l : Pos) (sign : Sign) → Rooms limit fs → ParamsFit limit (length fs) part → Small limit (more_params_step limit part fs l sign)
unfolding more_params_step
more_params_small limit part fs l signs.Ellipsis h k = (h, k)
more_params_small limit part fs l sign h k = begun_small limit true (in_params part ∷ fs) l sign (k, h) (let room = k.room in omega (arith, room))

ellipsis_small : (limit : ℕ) (part : ParamsPart) (fs : List Frame) (sign : Sign) → Rooms limit fs → ParamsFit limit (length fs) part → Small limit (ellipsis_step part fs sign)
unfolding ellipsis_step
ellipsis_small limit part fs signs.Close h k = (h, omega (arith, k.direct, k.params))
ellipsis_small limit part fs _ h k = tt

names_small : (limit : ℕ) (part : NamesPart) (fs : List Frame) (l : Pos) (sign : Sign) → Rooms limit fs → Below limit (declarator_depth part.declarator) (suc (length fs)) → Small limit (names_step part fs l sign)
unfolding names_step
names_small limit part fs l (signs.Name n false) h k = (h, k)
names_small limit part fs l _ h k = tt

names_end_small : (limit : ℕ) (part : NamesPart) (fs : List Frame) (sign : Sign) → Rooms limit fs → Below limit (declarator_depth part.declarator) (suc (length fs)) → Small limit (names_end_step part fs sign)
unfolding names_end_step
names_end_small limit part fs signs.Comma h k = (h, k)
names_end_small limit part fs signs.Close h k = (h, omega (arith, k))
names_end_small limit part fs _ h k = tt

step_by_small : (limit : ℕ) (least : ℕ) (fs : List Frame) (held : Held) (tok : Token) (sign : Sign) → Rooms limit fs → Kept limit (length fs) held → Small limit (step_by limit least fs held tok sign)
step_by_small limit least fs operand tok sign h k = operand_small limit fs tok sign h
step_by_small limit least fs (opened l) tok sign h k = opened_small limit l fs tok sign h k
step_by_small limit least fs (sizeof_word l) tok sign h k = sizeof_small limit l fs tok sign h k
step_by_small limit least fs (sizeof_opened l m) tok sign h k = sizeof_opened_small limit l m fs tok sign h k
step_by_small limit least fs (called l e) tok sign h k = called_small limit l e fs tok sign h k
step_by_small limit least fs (dotted l arrow e) tok sign h k = dotted_small limit l arrow e fs sign h k
step_by_small limit least fs (have_expr e) tok sign h k = expr_small limit least e fs tok.pos sign h k
step_by_small limit least fs (specifiers q) tok sign h k = specifiers_small limit q fs tok.pos sign h k.0 k.1
step_by_small limit least fs (tag part) tok sign h k = tag_small limit part fs sign h k.0 k.1
step_by_small limit least fs (tag_name part n) tok sign h k = tag_name_small limit part n fs tok.pos sign h k.0 k.1
step_by_small limit least fs (more_members body) tok sign h k = more_members_small limit body fs tok.pos sign h k
step_by_small limit least fs (member part) tok sign h k = member_step_small limit part fs tok.pos sign h k
step_by_small limit least fs (enumerator part) tok sign h k = enumerator_step_small limit part fs tok.pos sign h k
step_by_small limit least fs (enumerator_name part n l) tok sign h k = enumerator_name_small limit part n l fs sign h k
step_by_small limit least fs (declarator sort) tok sign h k = declarator_small limit sort fs tok.pos sign h k
step_by_small limit least fs (qualifiers l c v sort) tok sign h k = qualifiers_small limit l c v sort fs tok.pos sign h k
step_by_small limit least fs (opened_declarator l sort) tok sign h k = opened_declarator_small limit l sort fs tok.pos sign h k
step_by_small limit least fs (have_declarator d) tok sign h k = declarator_end_small limit d fs tok.pos sign h k
step_by_small limit least fs (opened_bound l d) tok sign h k = opened_bound_small limit l d fs tok sign h k
step_by_small limit least fs (opened_params l d) tok sign h k = opened_params_small limit l d fs tok.pos sign h k
step_by_small limit least fs (more_params part) tok sign h k = more_params_small limit part fs tok.pos sign h k
step_by_small limit least fs (ellipsis part) tok sign h k = ellipsis_small limit part fs sign h k
step_by_small limit least fs (names part) tok sign h k = names_small limit part fs tok.pos sign h k
step_by_small limit least fs (names_end part) tok sign h k = names_end_small limit part fs sign h k

step_small : (limit : ℕ) (least : ℕ) (scope : Blocks) (fs : List Frame) (held : Held) (tok : Token) → Rooms limit fs → Kept limit (length fs) held → Small limit (step limit least scope fs held tok)
unfolding step
step_small limit least scope fs held tok h k = step_by_small limit least fs held tok (sign_of (is_type_in scope) tok) h k

-- the tree that was read is small
abbrev pub SmallRead : (limit : ℕ) → Reading → Type 0
SmallRead limit (Ok (done, rest, scope)) = SmallDone limit done
SmallRead limit (Err e) = Unit {0}

next_small : (limit : ℕ) (least : ℕ) (tok : Token) (tokens : List Token) (scope : Blocks) (n : Next) → Small limit n → ((fs : List Frame) (held : Held) (scope : Blocks) → Rooms limit fs → Kept limit (length fs) held → SmallRead limit (run limit least scope fs held tokens))
    → SmallRead limit (elim n as (λ _. Reading) [ go gs next change ↦ run limit least (changed change scope) gs next tokens | stop done ↦ Ok (done, tok ∷ tokens, scope) | deep ↦ Err (large Depth 257) | fail ↦ Err (fault_at tok) ])
next_small limit least tok tokens scope (go fs held change) h f = f fs held (changed change scope) h.0 h.1
next_small limit least tok tokens scope (stop done) h f = h
next_small limit least tok tokens scope deep h f = tt
next_small limit least tok tokens scope fail h f = tt

pub run_small : (limit : ℕ) (least : ℕ) (tokens : List Token) (fs : List Frame) (held : Held) (scope : Blocks) → Rooms limit fs → Kept limit (length fs) held → SmallRead limit (run limit least scope fs held tokens)
run_small limit least [] fs held scope h k = tt
run_small limit least (tok ∷ tokens) fs held scope h k = next_small limit least tok tokens scope (step limit least scope fs held tok) (step_small limit least scope fs held tok h k) (λ gs next inner r s. run_small limit least tokens gs next inner r s)
