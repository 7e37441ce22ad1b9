-- Where an expression is needed behind a mark that may be followed by something else.
use Rattle.std.proofs.Common.{◌≡◌, ℕ, ◌+◌, ◌≤◌, List, ◌∷◌, ◌++◌, length, false, refl, sym, ap, ◌∙◌, subst, inl, arith}
use Rattle.std.specs.Prelude.{if◌then◌else◌, nat_le}
use Rattle.c65_base.specs.declared.refusal.Pos.{Pos}
use Rattle.c65_scan.specs.declared.token.Keyword.TheVariants as keywords
use Rattle.c65_scan.specs.declared.token.Punct.TheVariants as puncts
use Rattle.c65_scan.specs.declared.token.Token.{Token}
use Rattle.c65_scan.specs.declared.token.TokenKind.{TokenKind}
use Rattle.c65_scan.specs.declared.token.TokenKind.TheVariants as kinds
use Rattle.c65_tree.specs.Trees as t
use Rattle.c65_tree.specs.Depth.{expr_depth}
use Rattle.c65_parse_trees.specs.declared.operator.Prefix.TheVariants as prefixes
use Rattle.c65_parse_trees.specs.declared.sign.Sign.{Sign}
use Rattle.c65_parse_trees.specs.declared.sign.Sign.TheVariants as signs
use Rattle.c65_parse_trees.specs.Levels.{level_of}
use Rattle.c65_parse_trees.specs.Listings.{nothing_listed}
use Rattle.c65_parse_trees.specs.Signs.{sign_of_kind}
use Rattle.c65_parse_names.specs.Scopes.{Blocks}
use Rattle.c65_parse.specs.declared.frame.TypeUse.TheVariants as uses
use Rattle.c65_parse.specs.Frames.{in_prefix, Frame, in_operation, in_paren, in_call, in_bound, in_type, operand, opened, sizeof_word, sizeof_opened, called, have_expr, opened_bound, fail}
use Rattle.c65_parse.specs.Expressions.{goes, operand_step, hole, extend_by, close}
use Rattle.c65_parse.specs.Specifiers.{specifiers_step}
use Rattle.c65_parse.specs.Machine.{run, opened_step, sizeof_step, sizeof_opened_step, called_step, opened_bound_step}
use Rattle.c65_parse_grammar.specs.Phrases.{token}
use Rattle.c65_parse_grammar.specs.Scopes.{Scope, after, after_exprs}
use Rattle.c65_parse_law_alike.proofs.Alike.{level_is, expr_deep}
use Rattle.c65_parse_law_trees.proofs.Edges.{edge, lower, edge_above, edge_top}
use Rattle.c65_parse_law_trees.proofs.Runs.{steps, same, first_map, split, Leads, before, behind_some, between, between_some}
use Rattle.c65_parse_law_trees.proofs.Steps.{roomy, extends, no_operator, low_operator, closes, absorbs}
use Rattle.c65_parse_law_trees.proofs.Readings.{ReadsExpr, ReadsExprs}
use Rattle.c65_parse_law_trees.proofs.Firsts.{Opens, opens_first, Operand, OperandKind, OperandSign, operand_sign, no_type, begins_expr, Tight, begins_tight}
use Rattle.c65_parse_law_trees.proofs.Exprs.{encloses}

-- behind a parenthesis
opened_same : (limit : ℕ) (l : Pos) (fs : List Frame) (tok : Token) (s : Sign) → OperandSign s → opened_step limit l fs tok s ≡ operand_step limit (in_paren l ∷ fs) tok s
unfolding opened_step
opened_same limit l fs tok s h = ap (λ b. if b then (if nat_le (hole 0 fs) 13 then specifiers_step limit (nothing_listed false) (in_type l uses.Cast ∷ fs) tok.pos s else fail) else operand_step limit (in_paren l ∷ fs) tok s) (no_type s h)

pub behind_paren : (limit : ℕ) (least : ℕ) (sc : Scope) (outer : Blocks) (l : Pos) (fs : List Frame) (xs rest : List Token) → Opens (Operand sc) xs → run limit least (sc ∷ outer) fs (opened l) (xs ++ rest) ≡ run limit least (sc ∷ outer) (in_paren l ∷ fs) operand (xs ++ rest)
behind_paren limit least sc outer l fs xs rest o = same limit least sc outer fs (in_paren l ∷ fs) (opened l) operand (xs ++ rest)
    (first_map (Operand sc) _ (xs ++ rest) (λ tok h. opened_same limit l fs tok (sign_of_kind sc tok.kind) (operand_sign sc tok.kind h)) (opens_first (Operand sc) xs rest o))

-- behind the parenthesis of a call
called_same : (limit : ℕ) (l : Pos) (f : t.ExprTree) (fs : List Frame) (tok : Token) (s : Sign) → OperandSign s → called_step limit l f fs tok s ≡ operand_step limit (in_call l f t.no_exprs ∷ fs) tok s
unfolding called_step
called_same limit l f fs tok signs.Close h = absurd h
called_same limit l f fs tok _ h = refl

pub behind_call : (limit : ℕ) (least : ℕ) (sc : Scope) (outer : Blocks) (l : Pos) (f : t.ExprTree) (fs : List Frame) (xs rest : List Token) → Opens (Operand sc) xs → run limit least (sc ∷ outer) fs (called l f) (xs ++ rest) ≡ run limit least (sc ∷ outer) (in_call l f t.no_exprs ∷ fs) operand (xs ++ rest)
behind_call limit least sc outer l f fs xs rest o = same limit least sc outer fs (in_call l f t.no_exprs ∷ fs) (called l f) operand (xs ++ rest)
    (first_map (Operand sc) _ (xs ++ rest) (λ tok h. called_same limit l f fs tok (sign_of_kind sc tok.kind) (operand_sign sc tok.kind h)) (opens_first (Operand sc) xs rest o))

-- behind the bracket of a bound
bound_same : (limit : ℕ) (l : Pos) (d : t.DeclaratorTree) (fs : List Frame) (tok : Token) (s : Sign) → OperandSign s → opened_bound_step limit l d fs tok s ≡ operand_step limit (in_bound l d ∷ fs) tok s
unfolding opened_bound_step
bound_same limit l d fs tok signs.CloseBracket h = absurd h
bound_same limit l d fs tok _ h = refl

pub behind_bound : (limit : ℕ) (least : ℕ) (sc : Scope) (outer : Blocks) (l : Pos) (d : t.DeclaratorTree) (fs : List Frame) (xs rest : List Token) → Opens (Operand sc) xs → run limit least (sc ∷ outer) fs (opened_bound l d) (xs ++ rest) ≡ run limit least (sc ∷ outer) (in_bound l d ∷ fs) operand (xs ++ rest)
behind_bound limit least sc outer l d fs xs rest o = same limit least sc outer fs (in_bound l d ∷ fs) (opened_bound l d) operand (xs ++ rest)
    (first_map (Operand sc) _ (xs ++ rest) (λ tok h. bound_same limit l d fs tok (sign_of_kind sc tok.kind) (operand_sign sc tok.kind h)) (opens_first (Operand sc) xs rest o))

-- behind sizeof and a parenthesis
sizeof_opened_same : (limit : ℕ) (l k : Pos) (fs : List Frame) (tok : Token) (s : Sign) → OperandSign s → sizeof_opened_step limit l k fs tok s ≡ operand_step limit (in_paren k ∷ in_operation (in_prefix l prefixes.Sizeof) ∷ fs) tok s
unfolding sizeof_opened_step
sizeof_opened_same limit l k fs tok s h = ap (λ b. if b then specifiers_step limit (nothing_listed false) (in_type l uses.Sizeof ∷ fs) tok.pos s else operand_step limit (in_paren k ∷ in_operation (in_prefix l prefixes.Sizeof) ∷ fs) tok s) (no_type s h)

behind_sizeof_paren : (limit : ℕ) (least : ℕ) (sc : Scope) (outer : Blocks) (l k : Pos) (fs : List Frame) (xs rest : List Token) → Opens (Operand sc) xs → run limit least (sc ∷ outer) fs (sizeof_opened l k) (xs ++ rest) ≡ run limit least (sc ∷ outer) (in_paren k ∷ in_operation (in_prefix l prefixes.Sizeof) ∷ fs) operand (xs ++ rest)
behind_sizeof_paren limit least sc outer l k fs xs rest o = same limit least sc outer fs (in_paren k ∷ in_operation (in_prefix l prefixes.Sizeof) ∷ fs) (sizeof_opened l k) operand (xs ++ rest)
    (first_map (Operand sc) _ (xs ++ rest) (λ tok h. sizeof_opened_same limit l k fs tok (sign_of_kind sc tok.kind) (operand_sign sc tok.kind h)) (opens_first (Operand sc) xs rest o))

sizeof_paren : (limit : ℕ) (least : ℕ) (sc : Scope) (outer : Blocks) (l k : Pos) (fs : List Frame) (others rest : List Token) → Opens (Operand sc) others → 3 + length fs ≤ limit
    → run limit least (sc ∷ outer) fs (sizeof_word l) (token (kinds.Punct puncts.OpenParen) k ∷ (others ++ rest)) ≡ run limit least (sc ∷ outer) (in_operation (in_prefix l prefixes.Sizeof) ∷ fs) operand (token (kinds.Punct puncts.OpenParen) k ∷ (others ++ rest))
unfolding sizeof_step operand_step
sizeof_paren limit least sc outer l k fs others rest o r =
    let gs : List Frame = in_operation (in_prefix l prefixes.Sizeof) ∷ fs in
    steps limit least sc outer fs (sizeof_word l) (token (kinds.Punct puncts.OpenParen) k) (others ++ rest) fs (sizeof_opened l k) refl
    ∙ (behind_sizeof_paren limit least sc outer l k fs others rest o
    ∙ (sym (behind_paren limit least sc outer k gs others rest o)
    ∙ sym (steps limit least sc outer gs operand (token (kinds.Punct puncts.OpenParen) k) (others ++ rest) gs (opened k) (roomy limit (2 + length gs) (goes gs (opened k)) (omega (arith, r))))))

sizeof_kind : (limit : ℕ) (least : ℕ) (sc : Scope) (outer : Blocks) (l : Pos) (fs : List Frame) (k : TokenKind) (m : Pos) (others rest : List Token) → OperandKind sc k → (k ≡ kinds.Punct puncts.OpenParen → Opens (Operand sc) others × (3 + length fs ≤ limit))
    → run limit least (sc ∷ outer) fs (sizeof_word l) (token k m ∷ (others ++ rest)) ≡ run limit least (sc ∷ outer) (in_operation (in_prefix l prefixes.Sizeof) ∷ fs) operand (token k m ∷ (others ++ rest))
unfolding sizeof_step
sizeof_kind limit least sc outer l fs (kinds.Punct puncts.OpenParen) m others rest h o = sizeof_paren limit least sc outer l m fs others rest (o refl).0 (o refl).1
sizeof_kind limit least sc outer l fs (kinds.Name n) m others rest h o = same limit least sc outer fs (in_operation (in_prefix l prefixes.Sizeof) ∷ fs) (sizeof_word l) operand (token (kinds.Name n) m ∷ (others ++ rest)) refl
sizeof_kind limit least sc outer l fs (kinds.Number ty n) m others rest h o = same limit least sc outer fs (in_operation (in_prefix l prefixes.Sizeof) ∷ fs) (sizeof_word l) operand (token (kinds.Number ty n) m ∷ (others ++ rest)) refl
sizeof_kind limit least sc outer l fs (kinds.Text bs) m others rest h o = same limit least sc outer fs (in_operation (in_prefix l prefixes.Sizeof) ∷ fs) (sizeof_word l) operand (token (kinds.Text bs) m ∷ (others ++ rest)) refl
sizeof_kind limit least sc outer l fs (kinds.Keyword keywords.Sizeof) m others rest h o = same limit least sc outer fs (in_operation (in_prefix l prefixes.Sizeof) ∷ fs) (sizeof_word l) operand (token (kinds.Keyword keywords.Sizeof) m ∷ (others ++ rest)) refl
sizeof_kind limit least sc outer l fs (kinds.Punct puncts.Star) m others rest h o = same limit least sc outer fs (in_operation (in_prefix l prefixes.Sizeof) ∷ fs) (sizeof_word l) operand (token (kinds.Punct puncts.Star) m ∷ (others ++ rest)) refl
sizeof_kind limit least sc outer l fs (kinds.Punct puncts.Plus) m others rest h o = same limit least sc outer fs (in_operation (in_prefix l prefixes.Sizeof) ∷ fs) (sizeof_word l) operand (token (kinds.Punct puncts.Plus) m ∷ (others ++ rest)) refl
sizeof_kind limit least sc outer l fs (kinds.Punct puncts.Minus) m others rest h o = same limit least sc outer fs (in_operation (in_prefix l prefixes.Sizeof) ∷ fs) (sizeof_word l) operand (token (kinds.Punct puncts.Minus) m ∷ (others ++ rest)) refl
sizeof_kind limit least sc outer l fs (kinds.Punct puncts.Tilde) m others rest h o = same limit least sc outer fs (in_operation (in_prefix l prefixes.Sizeof) ∷ fs) (sizeof_word l) operand (token (kinds.Punct puncts.Tilde) m ∷ (others ++ rest)) refl
sizeof_kind limit least sc outer l fs (kinds.Punct puncts.Exclamation) m others rest h o = same limit least sc outer fs (in_operation (in_prefix l prefixes.Sizeof) ∷ fs) (sizeof_word l) operand (token (kinds.Punct puncts.Exclamation) m ∷ (others ++ rest)) refl
sizeof_kind limit least sc outer l fs (kinds.Punct puncts.Ampersand) m others rest h o = same limit least sc outer fs (in_operation (in_prefix l prefixes.Sizeof) ∷ fs) (sizeof_word l) operand (token (kinds.Punct puncts.Ampersand) m ∷ (others ++ rest)) refl
sizeof_kind limit least sc outer l fs (kinds.Punct puncts.PlusPlus) m others rest h o = same limit least sc outer fs (in_operation (in_prefix l prefixes.Sizeof) ∷ fs) (sizeof_word l) operand (token (kinds.Punct puncts.PlusPlus) m ∷ (others ++ rest)) refl
sizeof_kind limit least sc outer l fs (kinds.Punct puncts.MinusMinus) m others rest h o = same limit least sc outer fs (in_operation (in_prefix l prefixes.Sizeof) ∷ fs) (sizeof_word l) operand (token (kinds.Punct puncts.MinusMinus) m ∷ (others ++ rest)) refl
sizeof_kind limit least sc outer l fs (kinds.Keyword _) m others rest h o = absurd h
sizeof_kind limit least sc outer l fs (kinds.Punct _) m others rest h o = absurd h
sizeof_kind limit least sc outer l fs kinds.End m others rest h o = absurd h

behind_sizeof : (limit : ℕ) (least : ℕ) (sc : Scope) (outer : Blocks) (l : Pos) (fs : List Frame) (e : t.ExprTree) (xs rest : List Token) → Tight sc e xs → expr_depth e + 1 + length fs ≤ limit → run limit least (sc ∷ outer) fs (sizeof_word l) (xs ++ rest) ≡ run limit least (sc ∷ outer) (in_operation (in_prefix l prefixes.Sizeof) ∷ fs) operand (xs ++ rest)
behind_sizeof limit least sc outer l fs e xs rest o r = subst (λ ts. run limit least (sc ∷ outer) fs (sizeof_word l) (ts ++ rest) ≡ run limit least (sc ∷ outer) (in_operation (in_prefix l prefixes.Sizeof) ∷ fs) operand (ts ++ rest)) (sym o.are)
    (sizeof_kind limit least sc outer l fs o.first.kind o.first.pos o.others rest o.it (λ q. let h = o.held q in ((o.held q).0, omega (arith, h.1, r))))

pub reads_paren : (limit : ℕ) (l : Pos) (e : t.ExprTree) → ReadsExpr limit e → ReadsExpr limit (t.paren l e)
unfolding operand_step close
reads_paren limit l e re least sc outer fs xs rest p h r f =
    let deep = expr_deep e in
    let d = run limit least (after sc e ∷ outer) fs (have_expr (t.paren l e)) rest in
    before (Leads limit least sc outer fs operand d) l (kinds.Punct puncts.OpenParen) xs rest p (λ us pu.
    steps limit least sc outer fs operand (token (kinds.Punct puncts.OpenParen) l) (us ++ rest) fs (opened l) (roomy limit (2 + length fs) (goes fs (opened l)) (omega (arith, r, deep)))
    ∙ behind_some (Leads limit least sc outer fs (opened l) d) (kinds.Punct puncts.CloseParen) us rest pu (λ m ys pe.
    behind_paren limit least sc outer l fs ys (token (kinds.Punct puncts.CloseParen) m ∷ rest) (begins_expr e sc ys pe)
    ∙ encloses limit e re least sc outer (in_paren l) fs ys puncts.CloseParen m rest fs (have_expr (t.paren l e)) _ pe (omega arith) (omega (arith, r)) refl refl (inl refl) refl))

pub reads_sizeof : (limit : ℕ) (l : Pos) (e : t.ExprTree) → ReadsExpr limit e → ReadsExpr limit (t.sizeof_expr l e)
unfolding operand_step
reads_sizeof limit l e re least sc outer fs xs rest p h r f =
    let deep = expr_deep e in
    before (Leads limit least sc outer fs operand (run limit least (after sc e ∷ outer) fs (have_expr (t.sizeof_expr l e)) rest)) l (kinds.Keyword keywords.Sizeof) xs rest p (λ ys pe.
    let q = level_is e in
    let high = pe.0 in
    steps limit least sc outer fs operand (token (kinds.Keyword keywords.Sizeof) l) (ys ++ rest) fs (sizeof_word l) (roomy limit (2 + length fs) (goes fs (sizeof_word l)) (omega (arith, r, deep)))
    ∙ (behind_sizeof limit least sc outer l fs e ys rest (begins_tight e sc ys (omega (arith, high)) pe.1) (omega (arith, r))
    ∙ (re least sc outer (in_operation (in_prefix l prefixes.Sizeof) ∷ fs) ys rest pe.1 (omega (arith, high, q)) (omega (arith, r)) (lower 12 (edge (level_of e)) rest (edge_above 12 (level_of e) (omega arith) (omega (arith, high, q))) f)
    ∙ absorbs limit least (after sc e) outer (in_prefix l prefixes.Sizeof) e fs 12 rest f (omega arith))))

-- the comma before an argument, or nothing before the first
pub reads_arguments : (limit : ℕ) (es : t.ExprList) (e : t.ExprTree) → ReadsExprs limit es → ReadsExpr limit e → ReadsExprs limit (t.and_expr es e)
unfolding close
reads_arguments limit t.no_exprs e res re least sc outer l c fs xs rest p r f =
    let d = run limit least (after sc e ∷ outer) (in_call l c t.no_exprs ∷ fs) (have_expr e) rest in
    split (Leads limit least sc outer fs (called l c) d) xs rest p (λ ys us a pu. subst (λ ts. Leads limit least sc outer fs (called l c) d (ts ++ (us ++ rest))) (sym a)
    (split (Leads limit least sc outer fs (called l c) d) us rest pu (λ vs zs b pe. subst (λ ts. Leads limit least sc outer fs (called l c) d (ts ++ (zs ++ rest))) (sym b)
    (let q = level_is e in
    let high = pe.0 in
    behind_call limit least sc outer l c fs zs rest (begins_expr e sc zs pe.1)
    ∙ re least sc outer (in_call l c t.no_exprs ∷ fs) zs rest pe.1 (omega (arith, high, q)) (omega (arith, r)) (lower 0 (edge (level_of e)) rest (omega arith) f)))))
reads_arguments limit (t.and_expr es a) e res re least sc outer l c fs xs rest p r f =
    let d = run limit least (after (after_exprs sc (t.and_expr es a)) e ∷ outer) (in_call l c (t.and_expr es a) ∷ fs) (have_expr e) rest in
    between_some (Leads limit least sc outer fs (called l c) d) (kinds.Punct puncts.Comma) xs rest p (λ m ys zs pes pe.
    let q = level_is e in
    let high = pe.0 in
    let sc1 = after_exprs sc (t.and_expr es a) in
    res least sc outer l c fs ys (token (kinds.Punct puncts.Comma) m ∷ (zs ++ rest)) pes (omega (arith, r)) (omega arith)
    ∙ (steps limit least sc1 outer (in_call l c es ∷ fs) (have_expr a) (token (kinds.Punct puncts.Comma) m) (zs ++ rest) (in_call l c (t.and_expr es a) ∷ fs) operand (closes limit least a (in_call l c es) fs m signs.Comma refl (low_operator least a (in_call l c es ∷ fs) signs.Comma (omega arith)))
    ∙ re least sc1 outer (in_call l c (t.and_expr es a) ∷ fs) zs rest pe.1 (omega (arith, high, q)) (omega (arith, r)) (lower 0 (edge (level_of e)) rest (omega arith) f)))

pub reads_call : (limit : ℕ) (l : Pos) (c : t.ExprTree) (es : t.ExprList) → ReadsExpr limit c → ReadsExprs limit es → ReadsExpr limit (t.call l c es)
unfolding extend_by close called_step
reads_call limit l c t.no_exprs rc res least sc outer fs xs rest p h r f =
    let d = run limit least (after sc c ∷ outer) fs (have_expr (t.call l c t.no_exprs)) rest in
    let tok : Token = token (kinds.Punct puncts.OpenParen) l in
    between (Leads limit least sc outer fs operand d) l (kinds.Punct puncts.OpenParen) xs rest p (λ ys us pc pu.
    let q = level_is c in
    let high = pc.0 in
    rc least sc outer fs ys (tok ∷ (us ++ rest)) pc.1 (omega (arith, high, q, h)) (omega (arith, r)) (edge_top (level_of c) (omega (arith, high, q)))
    ∙ (steps limit least (after sc c) outer fs (have_expr c) tok (us ++ rest) fs (called l c) (extends limit least c fs l signs.Open (omega (arith, h)) (omega (arith, high, q)) (omega (arith, r)))
    ∙ behind_some (Leads limit least (after sc c) outer fs (called l c) d) (kinds.Punct puncts.CloseParen) us rest pu (λ m vs a. subst (λ ts. Leads limit least (after sc c) outer fs (called l c) d (ts ++ (token (kinds.Punct puncts.CloseParen) m ∷ rest))) (sym a)
    (steps limit least (after sc c) outer fs (called l c) (token (kinds.Punct puncts.CloseParen) m) rest fs (have_expr (t.call l c t.no_exprs)) refl))))
reads_call limit l c (t.and_expr es e) rc res least sc outer fs xs rest p h r f =
    let sc1 = after_exprs (after sc c) (t.and_expr es e) in
    let d = run limit least (sc1 ∷ outer) fs (have_expr (t.call l c (t.and_expr es e))) rest in
    let tok : Token = token (kinds.Punct puncts.OpenParen) l in
    between (Leads limit least sc outer fs operand d) l (kinds.Punct puncts.OpenParen) xs rest p (λ ys us pc pu.
    let q = level_is c in
    let high = pc.0 in
    rc least sc outer fs ys (tok ∷ (us ++ rest)) pc.1 (omega (arith, high, q, h)) (omega (arith, r)) (edge_top (level_of c) (omega (arith, high, q)))
    ∙ (steps limit least (after sc c) outer fs (have_expr c) tok (us ++ rest) fs (called l c) (extends limit least c fs l signs.Open (omega (arith, h)) (omega (arith, high, q)) (omega (arith, r)))
    ∙ behind_some (Leads limit least (after sc c) outer fs (called l c) d) (kinds.Punct puncts.CloseParen) us rest pu (λ m vs pes.
    res least (after sc c) outer l c fs vs (token (kinds.Punct puncts.CloseParen) m ∷ rest) pes (omega (arith, r)) (omega arith)
    ∙ steps limit least sc1 outer (in_call l c es ∷ fs) (have_expr e) (token (kinds.Punct puncts.CloseParen) m) rest fs (have_expr (t.call l c (t.and_expr es e))) (closes limit least e (in_call l c es) fs m signs.Close refl (no_operator least e (in_call l c es ∷ fs) signs.Close refl)))))
