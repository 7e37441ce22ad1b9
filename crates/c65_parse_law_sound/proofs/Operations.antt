-- An operation with its last operand is the grammar's expression.
use Rattle.std.proofs.Common.{◌≡◌, ℕ, ◌+◌, ◌≤◌, List, refl, subst, arith}
use Rattle.c65_base.specs.declared.operators.BinaryOp.{BinaryOp}
use Rattle.c65_base.specs.declared.operators.StepKind.TheVariants as steps
use Rattle.c65_base.specs.declared.refusal.Pos.{Pos}
use Rattle.c65_scan.specs.declared.token.Token.{Token}
use Rattle.c65_tree.specs.Trees as t
use Rattle.c65_parse_trees.specs.declared.operator.Infix.{Infix}
use Rattle.c65_parse_trees.specs.declared.operator.Infix.TheVariants as infixes
use Rattle.c65_parse_trees.specs.declared.operator.Prefix.{Prefix}
use Rattle.c65_parse_trees.specs.declared.operator.Prefix.TheVariants as prefixes
use Rattle.c65_parse_trees.specs.Levels.{level_of, right_of_infix, right_of_prefix, left_of_infix}
use Rattle.c65_parse_trees.specs.Plugs.{infix_tree, prefix_tree}
use Rattle.c65_parse.specs.Frames.{Operation, in_prefix, in_cast, in_right, in_else}
use Rattle.c65_parse.specs.Expressions.{hole_of, plug}
use Rattle.c65_parse_grammar.specs.Phrases.{◌▸◌, given}
use Rattle.c65_parse_grammar.specs.Parts.{level}
use Rattle.c65_parse_grammar.specs.Parts as parts
use Rattle.c65_parse_grammar.specs.Scopes.{Scope, after}
use Rattle.c65_parse_grammar.specs.Expressions as g
use Rattle.c65_parse_law_sound.proofs.Phrases.{regroup, map_left, map_right, false_true}
use Rattle.c65_parse_law_alike.proofs.Alike.{binary_level, level_is}
use Rattle.c65_parse_law_sound.proofs.Places.{tight, prefix_mark, infix_mark, operation_front, in_operation_scope, rank_of_operation}

-- the level as the grammar has it
pub loosen : (least : ℕ) (b : Scope) (e : t.ExprTree) (ts : List Token) → tight least b e ts → given (least ≤ level e) (g.expr b e) ts
loosen least b e ts q = (subst (λ k. least ≤ k) (level_is e) q.0, q.1)

loosen_binary : (extra : ℕ) (op : BinaryOp) (b : Scope) (e : t.ExprTree) (ts : List Token) → (left_of_infix (infixes.Binary op) + extra ≤ level_of e) × g.expr b e ts → (parts.level_of_binary op + extra ≤ level e) × g.expr b e ts
loosen_binary extra op b e ts q = (subst (λ k. k + extra ≤ level e) (binary_level op) (subst (λ k. left_of_infix (infixes.Binary op) + extra ≤ k) (level_is e) q.0), q.1)

loosen_left : (op : BinaryOp) (b : Scope) (e : t.ExprTree) (ts : List Token) → tight (left_of_infix (infixes.Binary op)) b e ts → given (parts.level_of_binary op ≤ level e) (g.expr b e) ts
loosen_left op b e ts q = (subst (λ k. k ≤ level e) (binary_level op) (subst (λ k. left_of_infix (infixes.Binary op) ≤ k) (level_is e) q.0), q.1)

prefix_built : (l : Pos) (p : Prefix) (b : Scope) (e : t.ExprTree) (ts : List Token) → (prefix_mark l p ▸ tight (right_of_prefix p) b e) ts → g.expr b (prefix_tree l p e) ts
prefix_built l (prefixes.Unary op) b e ts p = map_right (loosen 13 b e) p
prefix_built l (prefixes.Step steps.PreInc) b e ts p = (p.0, p.1, p.2, p.3.1, loosen 14 b e p.1 p.4)
prefix_built l (prefixes.Step steps.PreDec) b e ts p = (p.0, p.1, p.2, p.3.1, loosen 14 b e p.1 p.4)
prefix_built l (prefixes.Step steps.PostInc) b e ts p = absurd (false_true (p.3.0))
prefix_built l (prefixes.Step steps.PostDec) b e ts p = absurd (false_true (p.3.0))
prefix_built l prefixes.Sizeof b e ts p = map_right (loosen 14 b e) p

infix_built : (l : Pos) (i : Infix) (b : Scope) (a e : t.ExprTree) (ts : List Token) → (tight (left_of_infix i) b a ▸ (infix_mark l i ▸ tight (right_of_infix i) (after b a) e)) ts → g.expr b (infix_tree l i a e) ts
infix_built l (infixes.Binary op) b a e ts p = map_left (loosen_left op b a) (map_right (λ xs q. map_right (loosen_binary 1 op (after b a) e) q) p)
infix_built l infixes.And b a e ts p = map_left (loosen 4 b a) (map_right (λ xs q. map_right (loosen 5 (after b a) e) q) p)
infix_built l infixes.Or b a e ts p = map_left (loosen 3 b a) (map_right (λ xs q. map_right (loosen 4 (after b a) e) q) p)
infix_built l (infixes.Assign op) b a e ts p = map_left (loosen 14 b a) (map_right (λ xs q. map_right (loosen 1 (after b a) e) q) p)
infix_built l infixes.Comma b a e ts p = map_left (λ xs q. q.1) (map_right (λ xs q. map_right (loosen 1 (after b a) e) q) p)

pub built : (o : Operation) (b : Scope) (e : t.ExprTree) (ts : List Token) → (operation_front b o ▸ tight (hole_of o) (in_operation_scope b o) e) ts → g.expr b (plug o e) ts
built (in_prefix l p) b e ts q = prefix_built l p b e ts q
built (in_cast l ty) b e ts q = map_right (λ xs r. map_right (loosen 13 (in_operation_scope b (in_cast l ty)) e) r) (regroup q)
built (in_right l i a) b e ts q = infix_built l i b a e ts (regroup q)
built (in_else l c a) b e ts q = map_left (loosen 3 b c) (map_right (λ xs r. map_right (λ ys s. map_right (λ zs u. map_right (loosen 2 (after (after b c) a) e) u) s) r) (regroup (regroup (regroup q))))

prefix_rank : (l : Pos) (p : Prefix) (e : t.ExprTree) → 14 ≤ level_of (prefix_tree l p e)
prefix_rank l (prefixes.Unary op) e = omega arith
prefix_rank l (prefixes.Step steps.PreInc) e = omega arith
prefix_rank l (prefixes.Step steps.PreDec) e = omega arith
prefix_rank l (prefixes.Step steps.PostInc) e = omega arith
prefix_rank l (prefixes.Step steps.PostDec) e = omega arith
prefix_rank l prefixes.Sizeof e = omega arith

infix_rank : (l : Pos) (i : Infix) (a e : t.ExprTree) → rank_of_operation (in_right l i a) ≤ level_of (infix_tree l i a e)
infix_rank l (infixes.Binary op) a e = omega arith
infix_rank l infixes.And a e = omega arith
infix_rank l infixes.Or a e = omega arith
infix_rank l (infixes.Assign op) a e = omega arith
infix_rank l infixes.Comma a e = omega arith

pub rank_kept : (o : Operation) (e : t.ExprTree) → rank_of_operation o ≤ level_of (plug o e)
rank_kept (in_prefix l p) e = prefix_rank l p e
rank_kept (in_cast l ty) e = omega arith
rank_kept (in_right l i a) e = infix_rank l i a e
rank_kept (in_else l c a) e = omega arith

infix_after : (l : Pos) (i : Infix) (b : Scope) (a e : t.ExprTree) → after (after b a) e ≡ after b (infix_tree l i a e)
infix_after l (infixes.Binary op) b a e = refl
infix_after l infixes.And b a e = refl
infix_after l infixes.Or b a e = refl
infix_after l (infixes.Assign op) b a e = refl
infix_after l infixes.Comma b a e = refl

prefix_after : (l : Pos) (p : Prefix) (b : Scope) (e : t.ExprTree) → after b e ≡ after b (prefix_tree l p e)
prefix_after l (prefixes.Unary op) b e = refl
prefix_after l (prefixes.Step how) b e = refl
prefix_after l prefixes.Sizeof b e = refl

pub plug_after : (o : Operation) (b : Scope) (e : t.ExprTree) → after (in_operation_scope b o) e ≡ after b (plug o e)
plug_after (in_prefix l p) b e = prefix_after l p b e
plug_after (in_cast l ty) b e = refl
plug_after (in_right l i a) b e = infix_after l i b a e
plug_after (in_else l c a) b e = refl
