-- Type names in expressions: casts and sizeof (C90 6.3.3.4, 6.3.4).
use Rattle.std.proofs.Common.{◌≡◌, ℕ, suc, ◌+◌, ◌≤◌, List, [], ◌∷◌, ◌++◌, length, true, false, refl, ap, ◌∙◌, arith}
use Rattle.std.proofs.lemmas.Bool.{le-leb}
use Rattle.std.specs.Prelude.{if◌then◌else◌, nat_le}
use Rattle.c65_base.specs.declared.refusal.Pos.{Pos}
use Rattle.c65_scan.specs.declared.token.Keyword.TheVariants as keywords
use Rattle.c65_scan.specs.declared.token.Punct.TheVariants as puncts
use Rattle.c65_scan.specs.declared.token.Token.{Token}
use Rattle.c65_scan.specs.declared.token.TokenKind.TheVariants as kinds
use Rattle.c65_tree.specs.Trees as t
use Rattle.c65_tree.specs.Depth.{type_depth}
use Rattle.c65_parse_trees.specs.declared.sign.Sign.{Sign}
use Rattle.c65_parse_trees.specs.declared.sign.Sign.TheVariants as signs
use Rattle.c65_parse_trees.specs.Listings.{nothing_listed}
use Rattle.c65_parse_trees.specs.Signs.{sign_of_kind, begins_type}
use Rattle.c65_parse_names.specs.Scopes.{Blocks}
use Rattle.c65_parse.specs.declared.frame.TypeUse.{TypeUse}
use Rattle.c65_parse.specs.declared.frame.TypeUse.TheVariants as uses
use Rattle.c65_parse_trees.specs.declared.operator.Prefix.TheVariants as prefixes
use Rattle.c65_parse.specs.Frames.{in_prefix, in_cast, Frame, in_operation, in_paren, in_type, in_type_declarator, Held, operand, opened, sizeof_word, sizeof_opened, have_expr, specifiers, have_declarator, fail}
use Rattle.c65_parse.specs.Expressions.{goes, operand_step, hole, hole_of_frame}
use Rattle.c65_parse.specs.Declarators.{declarator_end, close_declarator, with_type}
use Rattle.c65_parse.specs.Specifiers.{specifiers_step}
use Rattle.c65_parse.specs.Machine.{run, opened_step, sizeof_step, sizeof_opened_step}
use Rattle.c65_parse_trees.specs.Levels.{level_of}
use Rattle.c65_parse_grammar.specs.Phrases.{token}
use Rattle.c65_parse_grammar.specs.Scopes.{Scope, after, after_type}
use Rattle.c65_parse_grammar.specs.Expressions as g
use Rattle.c65_parse_law_alike.proofs.Alike.{level_is}
use Rattle.c65_parse_law_trees.proofs.Edges.{edge, lower, edge_above}
use Rattle.c65_parse_law_trees.proofs.Runs.{steps, same, first_map, split, Leads, before, before_some, behind}
use Rattle.c65_parse_law_trees.proofs.Steps.{roomy, absorbs}
use Rattle.c65_parse_law_trees.proofs.Readings.{ReadsExpr, ReadsType}
use Rattle.c65_parse_law_trees.proofs.Firsts.{Opens, opens_first, opens_more, Specifies, begins_list}
use Rattle.c65_parse_law_trees.proofs.Ends.{declarator_deep}

type_opens : (ty : t.TypeTree) (sc : Scope) (m : Pos) (xs : List Token) → g.type_name sc m ty xs → Opens (Specifies false sc) xs
type_opens (t.type_name (t.specifiers p qs) d) sc m xs h = opens_more (Specifies false sc) xs h.0 h.1 h.2 (begins_list qs sc false h.0 h.3.0.0 h.3.1)

type_deep : (ty : t.TypeTree) → 1 ≤ type_depth ty
type_deep (t.type_name q d) = let deep = declarator_deep d in omega (arith, deep)

type_closes : (limit : ℕ) (l : Pos) (purpose : TypeUse) (q : t.SpecifiersTree) (d : t.DeclaratorTree) (fs : List Frame) (m : Pos) → declarator_end limit d (in_type_declarator l purpose q ∷ fs) m signs.Close ≡ with_type l purpose (t.type_name q d) fs
unfolding declarator_end close_declarator
type_closes limit l purpose q d fs m = refl

-- a type name in parentheses, and their end
enclosed : (limit : ℕ) (ty : t.TypeTree) → ReadsType limit ty → (least : ℕ) (sc : Scope) (outer : Blocks) (l : Pos) (purpose : TypeUse) (fs : List Frame) (m : Pos) (xs rest : List Token) (gs : List Frame) (next : Held) → g.type_name sc m ty xs → type_depth ty + suc (length fs) ≤ limit → with_type l purpose ty fs ≡ goes gs next
    → run limit least (sc ∷ outer) (in_type l purpose ∷ fs) (specifiers (nothing_listed false)) (xs ++ token (kinds.Punct puncts.CloseParen) m ∷ rest) ≡ run limit least (after_type sc ty ∷ outer) gs next rest
enclosed limit (t.type_name q d) rty least sc outer l purpose fs m xs rest gs next p r e =
    rty least sc outer l purpose fs m xs rest p r
    ∙ steps limit least (after_type sc (t.type_name q d)) outer (in_type_declarator l purpose q ∷ fs) (have_declarator d) (token (kinds.Punct puncts.CloseParen) m) rest gs next (type_closes limit l purpose q d fs m ∙ e)

hole_low : (least : ℕ) (fs : List Frame) → hole least fs ≤ 13 → nat_le (hole 0 fs) 13 ≡ true
hole_low least [] h = refl
hole_low least (f ∷ fs) h = le-leb (hole_of_frame f) 13 h

cast_same : (limit : ℕ) (l : Pos) (fs : List Frame) (tok : Token) (s : Sign) → nat_le (hole 0 fs) 13 ≡ true → begins_type s ≡ true → opened_step limit l fs tok s ≡ specifiers_step limit (nothing_listed false) (in_type l uses.Cast ∷ fs) tok.pos s
unfolding opened_step
cast_same limit l fs tok s low h = ap (λ b. if b then (if nat_le (hole 0 fs) 13 then specifiers_step limit (nothing_listed false) (in_type l uses.Cast ∷ fs) tok.pos s else fail) else operand_step limit (in_paren l ∷ fs) tok s) h
    ∙ ap (λ b. if b then specifiers_step limit (nothing_listed false) (in_type l uses.Cast ∷ fs) tok.pos s else fail) low

sizeof_same : (limit : ℕ) (l k : Pos) (fs : List Frame) (tok : Token) (s : Sign) → begins_type s ≡ true → sizeof_opened_step limit l k fs tok s ≡ specifiers_step limit (nothing_listed false) (in_type l uses.Sizeof ∷ fs) tok.pos s
unfolding sizeof_opened_step
sizeof_same limit l k fs tok s h = ap (λ b. if b then specifiers_step limit (nothing_listed false) (in_type l uses.Sizeof ∷ fs) tok.pos s else operand_step limit (in_paren k ∷ in_operation (in_prefix l prefixes.Sizeof) ∷ fs) tok s) h

pub reads_sizeof_type : (limit : ℕ) (l : Pos) (ty : t.TypeTree) → ReadsType limit ty → ReadsExpr limit (t.sizeof_type l ty)
unfolding operand_step sizeof_step
reads_sizeof_type limit l ty rty least sc outer fs xs rest p h r f =
    let deep = type_deep ty in
    let end = run limit least (after_type sc ty ∷ outer) fs (have_expr (t.sizeof_type l ty)) rest in
    before (Leads limit least sc outer fs operand end) l (kinds.Keyword keywords.Sizeof) xs rest p (λ us pu.
    steps limit least sc outer fs operand (token (kinds.Keyword keywords.Sizeof) l) (us ++ rest) fs (sizeof_word l) (roomy limit (2 + length fs) (goes fs (sizeof_word l)) (omega (arith, deep, r)))
    ∙ before_some (Leads limit least sc outer fs (sizeof_word l) end) (kinds.Punct puncts.OpenParen) us rest pu (λ k vs pv.
    steps limit least sc outer fs (sizeof_word l) (token (kinds.Punct puncts.OpenParen) k) (vs ++ rest) fs (sizeof_opened l k) refl
    ∙ behind (Leads limit least sc outer fs (sizeof_opened l k) end) pv.0 (kinds.Punct puncts.CloseParen) vs rest pv.1 (λ ys py.
    let tail = token (kinds.Punct puncts.CloseParen) pv.0 ∷ rest in
    same limit least sc outer fs (in_type l uses.Sizeof ∷ fs) (sizeof_opened l k) (specifiers (nothing_listed false)) (ys ++ tail) (first_map (Specifies false sc) _ (ys ++ tail) (λ tok e. sizeof_same limit l k fs tok (sign_of_kind sc tok.kind) e) (opens_first (Specifies false sc) ys tail (type_opens ty sc pv.0 ys py)))
    ∙ enclosed limit ty rty least sc outer l uses.Sizeof fs pv.0 ys rest fs (have_expr (t.sizeof_type l ty)) py (omega (arith, r)) refl)))

pub reads_cast : (limit : ℕ) (l : Pos) (ty : t.TypeTree) (e : t.ExprTree) → ReadsType limit ty → ReadsExpr limit e → ReadsExpr limit (t.cast l ty e)
unfolding operand_step
reads_cast limit l ty e rty re least sc outer fs xs rest p h r f =
    let deep = type_deep ty in
    let sc1 = after_type sc ty in
    let end = run limit least (after sc1 e ∷ outer) fs (have_expr (t.cast l ty e)) rest in
    before (Leads limit least sc outer fs operand end) l (kinds.Punct puncts.OpenParen) xs rest p (λ us pu.
    steps limit least sc outer fs operand (token (kinds.Punct puncts.OpenParen) l) (us ++ rest) fs (opened l) (roomy limit (2 + length fs) (goes fs (opened l)) (omega (arith, deep, r)))
    ∙ split (Leads limit least sc outer fs (opened l) end) us rest pu (λ vs zs pv pe.
    behind (Leads limit least sc outer fs (opened l) end) pv.0 (kinds.Punct puncts.CloseParen) vs (zs ++ rest) pv.1 (λ ys py.
    let tail = token (kinds.Punct puncts.CloseParen) pv.0 ∷ (zs ++ rest) in
    let q = level_is e in
    let high = pe.0 in
    same limit least sc outer fs (in_type l uses.Cast ∷ fs) (opened l) (specifiers (nothing_listed false)) (ys ++ tail) (first_map (Specifies false sc) _ (ys ++ tail) (λ tok k. cast_same limit l fs tok (sign_of_kind sc tok.kind) (hole_low least fs h) k) (opens_first (Specifies false sc) ys tail (type_opens ty sc pv.0 ys py)))
    ∙ (enclosed limit ty rty least sc outer l uses.Cast fs pv.0 ys (zs ++ rest) (in_operation (in_cast l ty) ∷ fs) operand py (omega (arith, r)) refl
    ∙ (re least sc1 outer (in_operation (in_cast l ty) ∷ fs) zs rest pe.1 (omega (arith, high, q)) (omega (arith, r)) (lower 12 (edge (level_of e)) rest (edge_above 12 (level_of e) (omega arith) (omega (arith, high, q))) f)
    ∙ absorbs limit least (after sc1 e) outer (in_cast l ty) e fs 12 rest f (omega arith))))))
