-- Expressions of one part, and of an operator with its operands.
use Rattle.std.proofs.Common.{◌≡◌, ℕ, suc, ◌+◌, ◌<◌, ◌≤◌, List, ◌∷◌, ◌++◌, length, Bool, true, false, refl, ap, ◌∙◌, inl, inr, arith}
use Rattle.std.specs.Prelude.{Option, None, Some, ◌⊎◌, max}
use Rattle.c65_base.specs.declared.names.Name.{Name}
use Rattle.c65_base.specs.declared.operators.BinaryOp.{BinaryOp}
use Rattle.c65_base.specs.declared.operators.BinaryOp.TheVariants as ops
use Rattle.c65_base.specs.declared.operators.StepKind.{StepKind}
use Rattle.c65_base.specs.declared.operators.StepKind.TheVariants as step_kinds
use Rattle.c65_base.specs.declared.operators.UnaryOp.{UnaryOp}
use Rattle.c65_base.specs.declared.operators.UnaryOp.TheVariants as unaries
use Rattle.c65_base.specs.declared.refusal.Pos.{Pos}
use Rattle.c65_ints.specs.declared.types.IntType.{IntType}
use Rattle.c65_scan.specs.declared.token.Punct.{Punct}
use Rattle.c65_scan.specs.declared.token.Punct.TheVariants as puncts
use Rattle.c65_scan.specs.declared.token.Token.{Token}
use Rattle.c65_scan.specs.declared.token.TokenKind.TheVariants as kinds
use Rattle.c65_tree.specs.Trees as t
use Rattle.c65_tree.specs.Depth.{expr_depth}
use Rattle.c65_parse_trees.specs.declared.operator.Infix.{Infix}
use Rattle.c65_parse_trees.specs.declared.operator.Infix.TheVariants as infixes
use Rattle.c65_parse_trees.specs.declared.operator.Prefix.{Prefix}
use Rattle.c65_parse_trees.specs.declared.operator.Prefix.TheVariants as prefixes
use Rattle.c65_parse_trees.specs.declared.sign.Sign.{Sign}
use Rattle.c65_parse_trees.specs.declared.sign.Sign.TheVariants as signs
use Rattle.c65_parse_trees.specs.Levels.{level_of, level_of_infix, left_of_infix, right_of_infix, right_of_prefix, level_of_binary}
use Rattle.c65_parse_trees.specs.Plugs.{infix_tree, prefix_tree}
use Rattle.c65_parse_trees.specs.Signs.{sign_of_punct, left_of, rank_of, infix_of, prefix_of}
use Rattle.c65_parse_names.specs.Scopes.{Blocks}
use Rattle.c65_parse.specs.declared.frame.Change.{Change}
use Rattle.c65_parse.specs.Frames.{in_prefix, in_right, in_else, Frame, in_operation, in_index, in_then, Held, go, operand, dotted, have_expr}
use Rattle.c65_parse.specs.Expressions.{goes, leaf_of_kind, hole_of_frame, hole, ends, goes_on, extend_by, close}
use Rattle.c65_parse.specs.Machine.{run, changed, dotted_step}
use Rattle.c65_parse_grammar.specs.Phrases.{◌▸◌, token, given, mark}
use Rattle.c65_parse_grammar.specs.Spellings.{binary_punct, assign_punct, unary_punct}
use Rattle.c65_parse_grammar.specs.Parts as parts
use Rattle.c65_parse_grammar.specs.Scopes.{Scope, after}
use Rattle.c65_parse_grammar.specs.Expressions as g
use Rattle.c65_parse_law_alike.proofs.Alike.{level_is, binary_level, expr_deep}
use Rattle.c65_parse_law_trees.proofs.Edges.{edge, Follows, lower, edge_above, edge_same, edge_top}
use Rattle.c65_parse_law_trees.proofs.Runs.{takes, steps, single, Leads, before, behind, behind_some, between, between_some}
use Rattle.c65_parse_law_trees.proofs.Steps.{leaf_goes, prefix_goes, binary_between, extends, no_operator, low_operator, closes, absorbs}
use Rattle.c65_parse_law_trees.proofs.Readings.{ReadsExpr}

pub reads_name : (limit : ℕ) (l : Pos) (n : Name) → ReadsExpr limit (t.name l n)
reads_name limit l n least sc outer fs xs rest p h r f = single (Leads limit least sc outer fs operand (run limit least (sc ∷ outer) fs (have_expr (t.name l n)) rest)) l (kinds.Name n) xs rest p.1
    (steps limit least sc outer fs operand (token (kinds.Name n) l) rest fs (have_expr (t.name l n)) (leaf_goes limit fs (token (kinds.Name n) l) (signs.Name n (sc n)) (t.name l n) (ap (leaf_of_kind l (kinds.Name n)) p.0) (omega arith)))

pub reads_number : (limit : ℕ) (l : Pos) (ty : IntType) (n : ℕ) → ReadsExpr limit (t.number l ty n)
reads_number limit l ty n least sc outer fs xs rest p h r f = single (Leads limit least sc outer fs operand (run limit least (sc ∷ outer) fs (have_expr (t.number l ty n)) rest)) l (kinds.Number ty n) xs rest p
    (steps limit least sc outer fs operand (token (kinds.Number ty n) l) rest fs (have_expr (t.number l ty n)) (leaf_goes limit fs (token (kinds.Number ty n) l) signs.Literal (t.number l ty n) refl (omega arith)))

pub reads_text : (limit : ℕ) (l : Pos) (bs : List ℕ) → ReadsExpr limit (t.text l bs)
reads_text limit l bs least sc outer fs xs rest p h r f = single (Leads limit least sc outer fs operand (run limit least (sc ∷ outer) fs (have_expr (t.text l bs)) rest)) l (kinds.Text bs) xs rest p
    (steps limit least sc outer fs operand (token (kinds.Text bs) l) rest fs (have_expr (t.text l bs)) (leaf_goes limit fs (token (kinds.Text bs) l) signs.Literal (t.text l bs) refl (omega arith)))

-- a mark that goes on with no expression in this place
abbrev pub Quits : Frame → Punct → Type 0
Quits f p = (left_of (sign_of_punct p) ≡ 16) ⊎ (rank_of (sign_of_punct p) < hole_of_frame f)

quits : (least : ℕ) (e : t.ExprTree) (f : Frame) (fs : List Frame) (p : Punct) → Quits f p → goes_on least e (f ∷ fs) (sign_of_punct p) ≡ false
quits least e f fs p (inl h) = no_operator least e (f ∷ fs) (sign_of_punct p) h
quits least e f fs p (inr h) = low_operator least e (f ∷ fs) (sign_of_punct p) h

-- an expression in its place, and the mark behind it
pub encloses : (limit : ℕ) (e : t.ExprTree) → ReadsExpr limit e → (least : ℕ) (sc : Scope) (outer : Blocks) (f : Frame) (fs : List Frame) (xs : List Token) (p : Punct) (l : Pos) (rest : List Token) (gs : List Frame) (next : Held) (change : Change)
    → g.expr sc e xs → hole_of_frame f ≤ level_of e → expr_depth e + suc (length fs) ≤ limit → rank_of (sign_of_punct p) ≡ 0 → ends (rank_of (sign_of_punct p)) f ≡ false → Quits f p → close e (f ∷ fs) (sign_of_punct p) ≡ go gs next change
    → run limit least (sc ∷ outer) (f ∷ fs) operand (xs ++ (token (kinds.Punct p) l ∷ rest)) ≡ run limit least (changed change (after sc e ∷ outer)) gs next rest
encloses limit e reads least sc outer f fs xs p l rest gs next change pe h r z q s k =
    reads least sc outer (f ∷ fs) xs (token (kinds.Punct p) l ∷ rest) pe h (omega (arith, r)) (omega (arith, z))
    ∙ takes limit least (after sc e) outer (f ∷ fs) (have_expr e) (token (kinds.Punct p) l) rest gs next change (closes limit least e f fs l (sign_of_punct p) q (quits least e f fs p s) ∙ k)

pub reads_index : (limit : ℕ) (l : Pos) (a i : t.ExprTree) → ReadsExpr limit a → ReadsExpr limit i → ReadsExpr limit (t.index l a i)
unfolding extend_by close
reads_index limit l a i ra ri least sc outer fs xs rest p h r f =
    let d = run limit least (after (after sc a) i ∷ outer) fs (have_expr (t.index l a i)) rest in
    let tok : Token = token (kinds.Punct puncts.OpenBracket) l in
    between (Leads limit least sc outer fs operand d) l (kinds.Punct puncts.OpenBracket) xs rest p (λ ys us pa pu.
    let q = level_is a in
    let high = pa.0 in
    ra least sc outer fs ys (tok ∷ (us ++ rest)) pa.1 (omega (arith, high, q, h)) (omega (arith, r)) (edge_top (level_of a) (omega (arith, high, q)))
    ∙ (steps limit least (after sc a) outer fs (have_expr a) tok (us ++ rest) (in_index l a ∷ fs) operand (extends limit least a fs l signs.OpenBracket (omega (arith, h)) (omega (arith, high, q)) (omega (arith, r)))
    ∙ behind_some (Leads limit least (after sc a) outer (in_index l a ∷ fs) operand d) (kinds.Punct puncts.CloseBracket) us rest pu (λ m zs pi.
    encloses limit i ri least (after sc a) outer (in_index l a) fs zs puncts.CloseBracket m rest fs (have_expr (t.index l a i)) _ pi (omega arith) (omega (arith, r)) refl refl (inl refl) refl)))

pub reads_member : (limit : ℕ) (l : Pos) (e : t.ExprTree) (arrow : Bool) (n : Name) → ReadsExpr limit e → ReadsExpr limit (t.member l e arrow n)
unfolding extend_by dotted_step
reads_member limit l e false n re least sc outer fs xs rest p h r f =
    let d = run limit least (after sc e ∷ outer) fs (have_expr (t.member l e false n)) rest in
    let tok : Token = token (kinds.Punct puncts.Dot) l in
    between (Leads limit least sc outer fs operand d) l (kinds.Punct puncts.Dot) xs rest p (λ ys us pe pn.
    let q = level_is e in
    let high = pe.0 in
    re least sc outer fs ys (tok ∷ (us ++ rest)) pe.1 (omega (arith, high, q, h)) (omega (arith, r)) (edge_top (level_of e) (omega (arith, high, q)))
    ∙ (steps limit least (after sc e) outer fs (have_expr e) tok (us ++ rest) fs (dotted l false e) (extends limit least e fs l (signs.Member false) (omega (arith, h)) (omega (arith, high, q)) (omega (arith, r)))
    ∙ single (Leads limit least (after sc e) outer fs (dotted l false e) d) pn.0 (kinds.Name n) us rest pn.1 (steps limit least (after sc e) outer fs (dotted l false e) (token (kinds.Name n) pn.0) rest fs (have_expr (t.member l e false n)) refl)))
reads_member limit l e true n re least sc outer fs xs rest p h r f =
    let d = run limit least (after sc e ∷ outer) fs (have_expr (t.member l e true n)) rest in
    let tok : Token = token (kinds.Punct puncts.Arrow) l in
    between (Leads limit least sc outer fs operand d) l (kinds.Punct puncts.Arrow) xs rest p (λ ys us pe pn.
    let q = level_is e in
    let high = pe.0 in
    re least sc outer fs ys (tok ∷ (us ++ rest)) pe.1 (omega (arith, high, q, h)) (omega (arith, r)) (edge_top (level_of e) (omega (arith, high, q)))
    ∙ (steps limit least (after sc e) outer fs (have_expr e) tok (us ++ rest) fs (dotted l true e) (extends limit least e fs l (signs.Member true) (omega (arith, h)) (omega (arith, high, q)) (omega (arith, r)))
    ∙ single (Leads limit least (after sc e) outer fs (dotted l true e) d) pn.0 (kinds.Name n) us rest pn.1 (steps limit least (after sc e) outer fs (dotted l true e) (token (kinds.Name n) pn.0) rest fs (have_expr (t.member l e true n)) refl)))

-- what the token before an operand has to be
pub record IsPrefix (o : Prefix) (p : Punct) : Type 0 where
  pub before : prefix_of (sign_of_punct p) ≡ Some o

-- an operator before its operand
pub reads_prefix : (limit : ℕ) (o : Prefix) (p : Punct) (l : Pos) (e : t.ExprTree) → IsPrefix o p → ReadsExpr limit e → (least : ℕ) (sc : Scope) (outer : Blocks) (fs : List Frame) (xs rest : List Token) → (mark l p ▸ g.expr sc e) xs → right_of_prefix o ≤ level_of e → 13 ≤ right_of_prefix o → expr_depth e + suc (length fs) ≤ limit → Follows 12 rest
    → run limit least (sc ∷ outer) fs operand (xs ++ rest) ≡ run limit least (after sc e ∷ outer) fs (have_expr (prefix_tree l o e)) rest
reads_prefix limit o p l e i re least sc outer fs xs rest d h k r f =
    let deep = expr_deep e in
    before (Leads limit least sc outer fs operand (run limit least (after sc e ∷ outer) fs (have_expr (prefix_tree l o e)) rest)) l (kinds.Punct p) xs rest d (λ ys pe.
    steps limit least sc outer fs operand (token (kinds.Punct p) l) (ys ++ rest) (in_operation (in_prefix l o) ∷ fs) operand (prefix_goes limit fs (token (kinds.Punct p) l) (sign_of_punct p) o refl i.before (omega (arith, r, deep)))
    ∙ (re least sc outer (in_operation (in_prefix l o) ∷ fs) ys rest pe h (omega (arith, r)) (lower 12 (edge (level_of e)) rest (edge_above 12 (level_of e) (omega arith) (omega (arith, h, k))) f)
    ∙ absorbs limit least (after sc e) outer (in_prefix l o) e fs 12 rest f (omega (arith, k))))

unary_prefix : (op : UnaryOp) → IsPrefix (prefixes.Unary op) (unary_punct op)
unary_prefix unaries.Neg = record { before = refl }
unary_prefix unaries.Plus = record { before = refl }
unary_prefix unaries.BitNot = record { before = refl }
unary_prefix unaries.Not = record { before = refl }
unary_prefix unaries.Deref = record { before = refl }
unary_prefix unaries.Address = record { before = refl }

pub reads_unary : (limit : ℕ) (l : Pos) (op : UnaryOp) (e : t.ExprTree) → ReadsExpr limit e → ReadsExpr limit (t.unary l op e)
reads_unary limit l op e re least sc outer fs xs rest p h r f =
    let q = level_is e in
    let high = p.4.0 in
    reads_prefix limit (prefixes.Unary op) (unary_punct op) l e (unary_prefix op) re least sc outer fs xs rest (p.0, p.1, p.2, p.3, p.4.1) (omega (arith, high, q)) (omega arith) (omega (arith, r)) f

pub reads_step : (limit : ℕ) (l : Pos) (how : StepKind) (e : t.ExprTree) → ReadsExpr limit e → ReadsExpr limit (t.step l how e)
unfolding extend_by
reads_step limit l step_kinds.PreInc e re least sc outer fs xs rest p h r f =
    let q = level_is e in
    let high = p.4.0 in
    reads_prefix limit (prefixes.Step step_kinds.PreInc) puncts.PlusPlus l e (record { before = refl }) re least sc outer fs xs rest (p.0, p.1, p.2, p.3, p.4.1) (omega (arith, high, q)) (omega arith) (omega (arith, r)) f
reads_step limit l step_kinds.PreDec e re least sc outer fs xs rest p h r f =
    let q = level_is e in
    let high = p.4.0 in
    reads_prefix limit (prefixes.Step step_kinds.PreDec) puncts.MinusMinus l e (record { before = refl }) re least sc outer fs xs rest (p.0, p.1, p.2, p.3, p.4.1) (omega (arith, high, q)) (omega arith) (omega (arith, r)) f
reads_step limit l step_kinds.PostInc e re least sc outer fs xs rest p h r f =
    let tok : Token = token (kinds.Punct puncts.PlusPlus) l in
    behind (Leads limit least sc outer fs operand (run limit least (after sc e ∷ outer) fs (have_expr (t.step l step_kinds.PostInc e)) rest)) l (kinds.Punct puncts.PlusPlus) xs rest p (λ ys pe.
    let q = level_is e in
    let high = pe.0 in
    re least sc outer fs ys (tok ∷ rest) pe.1 (omega (arith, high, q, h)) (omega (arith, r)) (edge_top (level_of e) (omega (arith, high, q)))
    ∙ steps limit least (after sc e) outer fs (have_expr e) tok rest fs (have_expr (t.step l step_kinds.PostInc e)) (extends limit least e fs l (signs.Step false) (omega (arith, h)) (omega (arith, high, q)) (omega (arith, r))))
reads_step limit l step_kinds.PostDec e re least sc outer fs xs rest p h r f =
    let tok : Token = token (kinds.Punct puncts.MinusMinus) l in
    behind (Leads limit least sc outer fs operand (run limit least (after sc e ∷ outer) fs (have_expr (t.step l step_kinds.PostDec e)) rest)) l (kinds.Punct puncts.MinusMinus) xs rest p (λ ys pe.
    let q = level_is e in
    let high = pe.0 in
    re least sc outer fs ys (tok ∷ rest) pe.1 (omega (arith, high, q, h)) (omega (arith, r)) (edge_top (level_of e) (omega (arith, high, q)))
    ∙ steps limit least (after sc e) outer fs (have_expr e) tok rest fs (have_expr (t.step l step_kinds.PostDec e)) (extends limit least e fs l (signs.Step true) (omega (arith, h)) (omega (arith, high, q)) (omega (arith, r))))

-- what the token between two operands has to be
pub record IsInfix (i : Infix) (p : Punct) : Type 0 where
  pub between : infix_of (sign_of_punct p) ≡ Some i
  pub left : left_of (sign_of_punct p) ≡ left_of_infix i
  pub rank : rank_of (sign_of_punct p) ≡ level_of_infix i

joined : (o : Option Infix) (i : Infix) (e : t.ExprTree) (fs : List Frame) (l : Pos) (sign : Sign) → o ≡ Some i → extend_by o e fs l sign ≡ goes (in_operation (in_right l i e) ∷ fs) operand
unfolding extend_by
joined o i e fs l sign h = ap (λ x. extend_by x e fs l sign) h

-- an operator between its operands; n is the greatest level to which an operator behind them goes on
pub reads_infix : (limit : ℕ) (i : Infix) (p : Punct) (l : Pos) (a b : t.ExprTree) → IsInfix i p → ReadsExpr limit a → ReadsExpr limit b → (least n : ℕ) (sc : Scope) (outer : Blocks) (fs : List Frame) (xs rest : List Token) → (g.expr sc a ▸ (mark l p ▸ g.expr (after sc a) b)) xs
    → hole least fs ≤ level_of_infix i → left_of_infix i ≤ level_of a → level_of_infix i ≤ left_of_infix i → level_of_infix i ≤ edge (level_of a) → right_of_infix i ≤ level_of b → n < right_of_infix i → n ≤ 12 → max (expr_depth a) (expr_depth b) + suc (length fs) ≤ limit → Follows n rest
    → run limit least (sc ∷ outer) fs operand (xs ++ rest) ≡ run limit least (after (after sc a) b ∷ outer) fs (have_expr (infix_tree l i a b)) rest
reads_infix limit i p l a b is ra rb least n sc outer fs xs rest d h u v w y low m r f =
    let tok : Token = token (kinds.Punct p) l in
    let rank_is = is.rank in
    let left_is = is.left in
    between (Leads limit least sc outer fs operand (run limit least (after (after sc a) b ∷ outer) fs (have_expr (infix_tree l i a b)) rest)) l (kinds.Punct p) xs rest d (λ ys zs pa pb.
    ra least sc outer fs ys (tok ∷ (zs ++ rest)) pa (omega (arith, h, u, v)) (omega (arith, r)) (omega (arith, rank_is, w))
    ∙ (steps limit least (after sc a) outer fs (have_expr a) tok (zs ++ rest) (in_operation (in_right l i a) ∷ fs) operand (extends limit least a fs l (sign_of_punct p) (omega (arith, rank_is, h)) (omega (arith, left_is, u)) (omega (arith, r)) ∙ joined (infix_of (sign_of_punct p)) i a fs l (sign_of_punct p) is.between)
    ∙ (rb least (after sc a) outer (in_operation (in_right l i a) ∷ fs) zs rest pb y (omega (arith, r)) (lower n (edge (level_of b)) rest (edge_above n (level_of b) m (omega (arith, low, y))) f)
    ∙ absorbs limit least (after (after sc a) b) outer (in_right l i a) b fs n rest f low)))

binary_infix : (op : BinaryOp) → IsInfix (infixes.Binary op) (binary_punct op)
binary_infix ops.Mul = record { between = refl; left = refl; rank = refl }
binary_infix ops.Div = record { between = refl; left = refl; rank = refl }
binary_infix ops.Rem = record { between = refl; left = refl; rank = refl }
binary_infix ops.Add = record { between = refl; left = refl; rank = refl }
binary_infix ops.Sub = record { between = refl; left = refl; rank = refl }
binary_infix ops.Shl = record { between = refl; left = refl; rank = refl }
binary_infix ops.Shr = record { between = refl; left = refl; rank = refl }
binary_infix ops.Lt = record { between = refl; left = refl; rank = refl }
binary_infix ops.Gt = record { between = refl; left = refl; rank = refl }
binary_infix ops.Le = record { between = refl; left = refl; rank = refl }
binary_infix ops.Ge = record { between = refl; left = refl; rank = refl }
binary_infix ops.Eq = record { between = refl; left = refl; rank = refl }
binary_infix ops.Ne = record { between = refl; left = refl; rank = refl }
binary_infix ops.BitAnd = record { between = refl; left = refl; rank = refl }
binary_infix ops.BitXor = record { between = refl; left = refl; rank = refl }
binary_infix ops.BitOr = record { between = refl; left = refl; rank = refl }

edge_binary : (op : BinaryOp) → edge (level_of_binary op) ≡ level_of_binary op
edge_binary ops.Mul = refl
edge_binary ops.Div = refl
edge_binary ops.Rem = refl
edge_binary ops.Add = refl
edge_binary ops.Sub = refl
edge_binary ops.Shl = refl
edge_binary ops.Shr = refl
edge_binary ops.Lt = refl
edge_binary ops.Gt = refl
edge_binary ops.Le = refl
edge_binary ops.Ge = refl
edge_binary ops.Eq = refl
edge_binary ops.Ne = refl
edge_binary ops.BitAnd = refl
edge_binary ops.BitXor = refl
edge_binary ops.BitOr = refl

pub reads_binary : (limit : ℕ) (l : Pos) (op : BinaryOp) (a b : t.ExprTree) → ReadsExpr limit a → ReadsExpr limit b → ReadsExpr limit (t.binary l op a b)
reads_binary limit l op a b ra rb least sc outer fs xs rest p h r f =
    let range = binary_between op in
    let low = range.0 in
    let high = range.1 in
    let same_level = binary_level op in
    let level_a = level_is a in
    let level_b = level_is b in
    let left = p.3.0 in
    let right = p.4.4.0 in
    let left_high : level_of_binary op ≤ level_of a = omega (arith, same_level, level_a, left) in
    reads_infix limit (infixes.Binary op) (binary_punct op) l a b (binary_infix op) ra rb least (level_of_binary op) sc outer fs xs rest (p.0, p.1, p.2, p.3.1, (p.4.0, p.4.1, p.4.2, p.4.3, p.4.4.1))
    h left_high (omega arith) (edge_same (level_of_binary op) (level_of a) (omega (arith, low)) high left_high) (omega (arith, same_level, level_b, right)) (omega arith) high (omega (arith, r)) (lower (edge (level_of_binary op)) (level_of_binary op) rest (let e = edge_binary op in omega (arith, e)) f)

pub reads_and : (limit : ℕ) (l : Pos) (a b : t.ExprTree) → ReadsExpr limit a → ReadsExpr limit b → ReadsExpr limit (t.and_also l a b)
reads_and limit l a b ra rb least sc outer fs xs rest p h r f =
    let level_a = level_is a in
    let level_b = level_is b in
    let left = p.3.0 in
    let right = p.4.4.0 in
    let left_high : 4 ≤ level_of a = omega (arith, level_a, left) in
    reads_infix limit infixes.And puncts.AndAnd l a b (record { between = refl; left = refl; rank = refl }) ra rb least 4 sc outer fs xs rest (p.0, p.1, p.2, p.3.1, (p.4.0, p.4.1, p.4.2, p.4.3, p.4.4.1))
    h left_high (omega arith) (edge_same 4 (level_of a) (omega arith) (omega arith) left_high) (omega (arith, level_b, right)) (omega arith) (omega arith) (omega (arith, r)) f

pub reads_or : (limit : ℕ) (l : Pos) (a b : t.ExprTree) → ReadsExpr limit a → ReadsExpr limit b → ReadsExpr limit (t.or_else l a b)
reads_or limit l a b ra rb least sc outer fs xs rest p h r f =
    let level_a = level_is a in
    let level_b = level_is b in
    let left = p.3.0 in
    let right = p.4.4.0 in
    let left_high : 3 ≤ level_of a = omega (arith, level_a, left) in
    reads_infix limit infixes.Or puncts.OrOr l a b (record { between = refl; left = refl; rank = refl }) ra rb least 3 sc outer fs xs rest (p.0, p.1, p.2, p.3.1, (p.4.0, p.4.1, p.4.2, p.4.3, p.4.4.1))
    h left_high (omega arith) (edge_same 3 (level_of a) (omega arith) (omega arith) left_high) (omega (arith, level_b, right)) (omega arith) (omega arith) (omega (arith, r)) f

pub reads_comma : (limit : ℕ) (l : Pos) (a b : t.ExprTree) → ReadsExpr limit a → ReadsExpr limit b → ReadsExpr limit (t.comma l a b)
reads_comma limit l a b ra rb least sc outer fs xs rest p h r f =
    let level_b = level_is b in
    let right = p.4.4.0 in
    reads_infix limit infixes.Comma puncts.Comma l a b (record { between = refl; left = refl; rank = refl }) ra rb least 0 sc outer fs xs rest (p.0, p.1, p.2, p.3, (p.4.0, p.4.1, p.4.2, p.4.3, p.4.4.1))
    h (omega arith) (omega arith) (omega arith) (omega (arith, level_b, right)) (omega arith) (omega arith) (omega (arith, r)) f

abbrev AssignMark : Option BinaryOp → Option Punct → Type 0
AssignMark op None = Unit {0}
AssignMark op (Some p) = IsInfix (infixes.Assign op) p

assign_infix : (op : Option BinaryOp) → AssignMark op (assign_punct op)
assign_infix None = record { between = refl; left = refl; rank = refl }
assign_infix (Some ops.Mul) = record { between = refl; left = refl; rank = refl }
assign_infix (Some ops.Div) = record { between = refl; left = refl; rank = refl }
assign_infix (Some ops.Rem) = record { between = refl; left = refl; rank = refl }
assign_infix (Some ops.Add) = record { between = refl; left = refl; rank = refl }
assign_infix (Some ops.Sub) = record { between = refl; left = refl; rank = refl }
assign_infix (Some ops.Shl) = record { between = refl; left = refl; rank = refl }
assign_infix (Some ops.Shr) = record { between = refl; left = refl; rank = refl }
assign_infix (Some ops.Lt) = tt
assign_infix (Some ops.Gt) = tt
assign_infix (Some ops.Le) = tt
assign_infix (Some ops.Ge) = tt
assign_infix (Some ops.Eq) = tt
assign_infix (Some ops.Ne) = tt
assign_infix (Some ops.BitAnd) = record { between = refl; left = refl; rank = refl }
assign_infix (Some ops.BitXor) = record { between = refl; left = refl; rank = refl }
assign_infix (Some ops.BitOr) = record { between = refl; left = refl; rank = refl }

assigned : (limit : ℕ) (l : Pos) (op : Option BinaryOp) (a b : t.ExprTree) → ReadsExpr limit a → ReadsExpr limit b → (o : Option Punct) → AssignMark op o → (least : ℕ) (sc : Scope) (outer : Blocks) (fs : List Frame) (xs rest : List Token)
    → (given (14 ≤ parts.level a) (g.expr sc a) ▸ g.assign_mark l o ▸ given (1 ≤ parts.level b) (g.expr (after sc a) b)) xs → hole least fs ≤ 1 → max (expr_depth a) (expr_depth b) + suc (length fs) ≤ limit → Follows 0 rest
    → run limit least (sc ∷ outer) fs operand (xs ++ rest) ≡ run limit least (after (after sc a) b ∷ outer) fs (have_expr (t.assign l op a b)) rest
assigned limit l op a b ra rb None m least sc outer fs xs rest p h r f = absurd (p.4.3)
assigned limit l op a b ra rb (Some k) m least sc outer fs xs rest p h r f =
    let level_a = level_is a in
    let level_b = level_is b in
    let left = p.3.0 in
    let right = p.4.4.0 in
    let left_high : 14 ≤ level_of a = omega (arith, level_a, left) in
    reads_infix limit (infixes.Assign op) k l a b m ra rb least 0 sc outer fs xs rest (p.0, p.1, p.2, p.3.1, (p.4.0, p.4.1, p.4.2, p.4.3, p.4.4.1))
    h left_high (omega arith) (edge_above 1 (level_of a) (omega arith) (omega (arith, left_high))) (omega (arith, level_b, right)) (omega arith) (omega arith) r f

pub reads_assign : (limit : ℕ) (l : Pos) (op : Option BinaryOp) (a b : t.ExprTree) → ReadsExpr limit a → ReadsExpr limit b → ReadsExpr limit (t.assign l op a b)
reads_assign limit l op a b ra rb least sc outer fs xs rest p h r f = assigned limit l op a b ra rb (assign_punct op) (assign_infix op) least sc outer fs xs rest p h (omega (arith, r)) f

pub reads_conditional : (limit : ℕ) (l : Pos) (c a b : t.ExprTree) → ReadsExpr limit c → ReadsExpr limit a → ReadsExpr limit b → ReadsExpr limit (t.conditional l c a b)
unfolding extend_by close
reads_conditional limit l c a b rc ra rb least sc outer fs xs rest p h r f =
    let d = run limit least (after (after (after sc c) a) b ∷ outer) fs (have_expr (t.conditional l c a b)) rest in
    let tok : Token = token (kinds.Punct puncts.Question) l in
    let sc1 = after sc c in
    between (Leads limit least sc outer fs operand d) l (kinds.Punct puncts.Question) xs rest p (λ ys us pc pu.
    let q = level_is c in
    let high = pc.0 in
    rc least sc outer fs ys (tok ∷ (us ++ rest)) pc.1 (omega (arith, high, q, h)) (omega (arith, r)) (edge_above 2 (level_of c) (omega arith) (omega (arith, high, q)))
    ∙ (steps limit least sc1 outer fs (have_expr c) tok (us ++ rest) (in_then l c ∷ fs) operand (extends limit least c fs l signs.Question (omega (arith, h)) (omega (arith, high, q)) (omega (arith, r)))
    ∙ between_some (Leads limit least sc1 outer (in_then l c ∷ fs) operand d) (kinds.Punct puncts.Colon) us rest pu (λ m vs zs pa pb.
    let q2 = level_is b in
    let high2 = pb.0 in
    encloses limit a ra least sc1 outer (in_then l c) fs vs puncts.Colon m (zs ++ rest) (in_operation (in_else l c a) ∷ fs) operand _ pa (omega arith) (omega (arith, r)) refl refl (inl refl) refl
    ∙ (rb least (after sc1 a) outer (in_operation (in_else l c a) ∷ fs) zs rest pb.1 (omega (arith, high2, q2)) (omega (arith, r)) (lower 1 (edge (level_of b)) rest (edge_above 1 (level_of b) (omega arith) (omega (arith, high2, q2))) f)
    ∙ absorbs limit least (after (after sc1 a) b) outer (in_else l c a) b fs 1 rest f (omega arith)))))
