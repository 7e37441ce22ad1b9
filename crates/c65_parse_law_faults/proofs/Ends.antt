-- What the end of the tokens does to what is open: nothing goes on with it.
use Rattle.std.proofs.Common.{◌≡◌, ℕ, List, [], ◌∷◌, Bool, true, false, sym, subst}
use Rattle.std.specs.Prelude.{◌+◌, length, nat_le, if◌then◌else◌, is_some}
use Rattle.c65_base.specs.declared.refusal.Pos.{Pos}
use Rattle.c65_scan.specs.declared.token.Token.{Token}
use Rattle.c65_scan.specs.declared.token.TokenKind.TheVariants as kinds
use Rattle.c65_tree.specs.Trees as t
use Rattle.c65_tree.specs.Depth.{expr_depth}
use Rattle.c65_parse_trees.specs.declared.sign.Sign.TheVariants as signs
use Rattle.c65_parse_trees.specs.Listings.{Listing, Listed, MembersPart, ended}
use Rattle.c65_parse_names.specs.Scopes.{Blocks}
use Rattle.c65_parse.specs.declared.frame.Sort.{Sort}
use Rattle.c65_parse.specs.Frames.{Frame, in_operation, in_paren, in_index, in_call, in_then, in_bound, in_width, in_value, in_type, in_type_declarator, in_members, in_member, in_params, in_param, in_group, in_derived, Held, operand, opened, sizeof_word, sizeof_opened, called, dotted, have_expr, specifiers, tag, tag_name, more_members, member, enumerator, enumerator_name, declarator, qualifiers, opened_declarator, have_declarator, opened_bound, opened_params, more_params, ellipsis, names, names_end, Next, go, stop, deep, fail}
use Rattle.c65_parse.specs.Expressions.{within, operand_step, reduce, goes_on, extend_by, close, close_member, close_enumerator, expr_step}
use Rattle.c65_parse.specs.Declarators.{is_optional, reduce_declarator, close_param, close_member_declarator, close_declarator, declarator_end, without_name, declarator_step}
use Rattle.c65_parse.specs.Specifiers.{member_step, end_listed, end_specifiers, specifiers_step, tag_step, tag_name_step, more_members_step, enumerator_step, enumerator_name_step}
use Rattle.c65_parse.specs.Machine.{opened_step, sizeof_step, sizeof_opened_step, called_step, dotted_step, qualifiers_step, opened_declarator_step, opened_bound_step, opened_params_step, more_params_step, ellipsis_step, names_step, names_end_step, step_by, step}
use Rattle.c65_parse_grammar.specs.Phrases.{token}

abbrev pub NoGo : Next → Type 0
NoGo (go fs held change) = ⊥
NoGo (stop done) = Unit {0}
NoGo deep = Unit {0}
NoGo fail = Unit {0}

within_fail : (b : Bool) → NoGo (within b fail)
within_fail true = tt
within_fail false = tt

either : (b : Bool) (n m : Next) → NoGo n → NoGo m → NoGo (if b then n else m)
either true n m h k = h
either false n m h k = k

operand_ends : (limit : ℕ) (fs : List Frame) (l : Pos) → NoGo (operand_step limit fs (token kinds.End l) signs.Other)
unfolding operand_step
operand_ends limit fs l = tt

close_ends : (e : t.ExprTree) (fs : List Frame) → NoGo (close e fs signs.Other)
unfolding close close_member close_enumerator
close_ends e [] = tt
close_ends e (in_operation o ∷ fs) = tt
close_ends e (in_paren l ∷ fs) = tt
close_ends e (in_index l a ∷ fs) = tt
close_ends e (in_call l f es ∷ fs) = tt
close_ends e (in_then l c ∷ fs) = tt
close_ends e (in_bound l d ∷ fs) = tt
close_ends e (in_width part l d ∷ fs) = tt
close_ends e (in_value part n l ∷ fs) = tt
close_ends e (in_type l purpose ∷ fs) = tt
close_ends e (in_type_declarator l purpose q ∷ fs) = tt
close_ends e (in_members body ∷ fs) = tt
close_ends e (in_member part l ∷ fs) = tt
close_ends e (in_params part ∷ fs) = tt
close_ends e (in_param part q ∷ fs) = tt
close_ends e (in_group l ∷ fs) = tt
close_ends e (in_derived l how ∷ fs) = tt

expr_ends : (limit : ℕ) (least : ℕ) (e : t.ExprTree) (fs : List Frame) (l : Pos) → NoGo (expr_step limit least e fs l signs.Other)
unfolding expr_step extend_by
expr_ends limit least e fs l =
    let r = reduce 0 e fs in
    let room = nat_le (expr_depth r.0 + (length r.1 + 1)) limit in
    either (goes_on least r.0 r.1 signs.Other) (within room fail) (close r.0 r.1 signs.Other) (within_fail room) (close_ends r.0 r.1)

declared_ends : (d : t.DeclaratorTree) (fs : List Frame) → NoGo (close_declarator d fs signs.Other)
unfolding close_declarator close_param close_member_declarator close_member
declared_ends d [] = tt
declared_ends d (in_operation o ∷ fs) = tt
declared_ends d (in_paren l ∷ fs) = tt
declared_ends d (in_index l a ∷ fs) = tt
declared_ends d (in_call l f es ∷ fs) = tt
declared_ends d (in_then l c ∷ fs) = tt
declared_ends d (in_bound l e ∷ fs) = tt
declared_ends d (in_width part l e ∷ fs) = tt
declared_ends d (in_value part n l ∷ fs) = tt
declared_ends d (in_type l purpose ∷ fs) = tt
declared_ends d (in_type_declarator l purpose q ∷ fs) = tt
declared_ends d (in_members body ∷ fs) = tt
declared_ends d (in_member part l ∷ fs) = tt
declared_ends d (in_params part ∷ fs) = tt
declared_ends d (in_param part q ∷ fs) = tt
declared_ends d (in_group l ∷ fs) = tt
declared_ends d (in_derived l how ∷ fs) = tt

end_ends : (limit : ℕ) (d : t.DeclaratorTree) (fs : List Frame) (l : Pos) → NoGo (declarator_end limit d fs l signs.Other)
unfolding declarator_end
end_ends limit d fs l = declared_ends (reduce_declarator d fs).0 (reduce_declarator d fs).1

nameless_ends : (limit : ℕ) (optional : Bool) (fs : List Frame) (l : Pos) → NoGo (without_name limit optional fs l signs.Other)
unfolding without_name
nameless_ends limit true fs l = end_ends limit (t.nameless l) fs l
nameless_ends limit false fs l = tt

declarator_ends : (limit : ℕ) (sort : Sort) (fs : List Frame) (l : Pos) → NoGo (declarator_step limit sort fs l signs.Other)
unfolding declarator_step
declarator_ends limit sort fs l = nameless_ends limit (is_optional sort) fs l

member_ends : (limit : ℕ) (part : MembersPart) (fs : List Frame) (l : Pos) → NoGo (member_step limit part fs l signs.Other)
unfolding member_step
member_ends limit part fs l = declarator_ends limit _ (in_member part l ∷ fs) l

listed_ends : (limit : ℕ) (q : Listed) (fs : List Frame) (l : Pos) → NoGo (end_listed limit q fs l signs.Other)
unfolding end_listed
listed_ends limit q [] l = tt
listed_ends limit q (in_operation o ∷ fs) l = tt
listed_ends limit q (in_paren k ∷ fs) l = tt
listed_ends limit q (in_index k a ∷ fs) l = tt
listed_ends limit q (in_call k f es ∷ fs) l = tt
listed_ends limit q (in_then k c ∷ fs) l = tt
listed_ends limit q (in_bound k e ∷ fs) l = tt
listed_ends limit q (in_width part k e ∷ fs) l = tt
listed_ends limit q (in_value part n k ∷ fs) l = tt
listed_ends limit q (in_type k purpose ∷ fs) l = declarator_ends limit _ (in_type_declarator k purpose q.tree ∷ fs) l
listed_ends limit q (in_type_declarator k purpose e ∷ fs) l = tt
listed_ends limit q (in_members body ∷ fs) l = member_ends limit _ fs l
listed_ends limit q (in_member part k ∷ fs) l = tt
listed_ends limit q (in_params part ∷ fs) l = declarator_ends limit _ (in_param part q ∷ fs) l
listed_ends limit q (in_param part e ∷ fs) l = tt
listed_ends limit q (in_group k ∷ fs) l = tt
listed_ends limit q (in_derived k how ∷ fs) l = tt

list_ends : (limit : ℕ) (q : Listing) (fs : List Frame) (l : Pos) → NoGo (end_specifiers limit q fs l signs.Other)
unfolding end_specifiers
list_ends limit q [] l = tt
list_ends limit q (f ∷ fs) l = either (is_some q.first) _ fail (listed_ends limit (ended q l) (f ∷ fs) l) tt

specifiers_end : (limit : ℕ) (q : Listing) (fs : List Frame) (l : Pos) → NoGo (specifiers_step limit q fs l signs.Other)
unfolding specifiers_step
specifiers_end limit q fs l = list_ends limit q fs l

held_ends : (limit : ℕ) (least : ℕ) (fs : List Frame) (held : Held) (l : Pos) → NoGo (step_by limit least fs held (token kinds.End l) signs.Other)
unfolding opened_step sizeof_step sizeof_opened_step called_step dotted_step qualifiers_step opened_declarator_step opened_bound_step opened_params_step more_params_step ellipsis_step names_step names_end_step tag_step tag_name_step more_members_step enumerator_step enumerator_name_step close_enumerator
held_ends limit least fs operand l = operand_ends limit fs l
held_ends limit least fs (opened k) l = operand_ends limit (in_paren k ∷ fs) l
held_ends limit least fs (sizeof_word k) l = operand_ends limit _ l
held_ends limit least fs (sizeof_opened k m) l = operand_ends limit _ l
held_ends limit least fs (called k f) l = operand_ends limit _ l
held_ends limit least fs (dotted k arrow e) l = tt
held_ends limit least fs (have_expr e) l = expr_ends limit least e fs l
held_ends limit least fs (specifiers q) l = specifiers_end limit q fs l
held_ends limit least fs (tag part) l = tt
held_ends limit least fs (tag_name part n) l = specifiers_end limit _ fs l
held_ends limit least fs (more_members body) l = specifiers_end limit _ (in_members body ∷ fs) l
held_ends limit least fs (member part) l = member_ends limit part fs l
held_ends limit least fs (enumerator part) l = tt
held_ends limit least fs (enumerator_name part n k) l = tt
held_ends limit least fs (declarator sort) l = declarator_ends limit sort fs l
held_ends limit least fs (qualifiers k c v sort) l = declarator_ends limit sort _ l
held_ends limit least fs (opened_declarator k sort) l = declarator_ends limit sort (in_group k ∷ fs) l
held_ends limit least fs (have_declarator d) l = end_ends limit d fs l
held_ends limit least fs (opened_bound k d) l = operand_ends limit (in_bound k d ∷ fs) l
held_ends limit least fs (opened_params k d) l = tt
held_ends limit least fs (more_params part) l = specifiers_end limit _ (in_params part ∷ fs) l
held_ends limit least fs (ellipsis part) l = tt
held_ends limit least fs (names part) l = tt
held_ends limit least fs (names_end part) l = tt

token_ends : (limit : ℕ) (least : ℕ) (scope : Blocks) (fs : List Frame) (held : Held) (l : Pos) → NoGo (step limit least scope fs held (token kinds.End l))
unfolding step
token_ends limit least scope fs held l = held_ends limit least fs held l

pub end_stops : (limit : ℕ) (least : ℕ) (scope : Blocks) (fs : List Frame) (held : Held) (tok : Token) → tok.kind ≡ kinds.End → NoGo (step limit least scope fs held tok)
end_stops limit least scope fs held tok e = subst (λ k. NoGo (step limit least scope fs held (token k tok.pos))) (sym e) (token_ends limit least scope fs held tok.pos)
