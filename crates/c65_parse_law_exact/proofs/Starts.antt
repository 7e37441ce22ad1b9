-- Each token that may begin a statement begins some statement.
use Rattle.std.proofs.Common.{◌≤◌, List, [], ◌∷◌, ◌++◌, Bool, refl, arith}
use Rattle.std.specs.Prelude.{None, Some}
use Rattle.c65_base.specs.declared.operators.StepKind.TheVariants as steps
use Rattle.c65_base.specs.declared.operators.UnaryOp.{UnaryOp}
use Rattle.c65_base.specs.declared.operators.UnaryOp.TheVariants as unaries
use Rattle.c65_base.specs.declared.names.Name.{Name}
use Rattle.c65_base.specs.declared.refusal.Pos.{Pos}
use Rattle.c65_scan.specs.declared.token.Keyword.{Keyword}
use Rattle.c65_scan.specs.declared.token.Keyword.TheVariants as keywords
use Rattle.c65_scan.specs.declared.token.Punct.{Punct}
use Rattle.c65_scan.specs.declared.token.Punct.TheVariants as puncts
use Rattle.c65_scan.specs.declared.token.Token.{Token}
use Rattle.c65_scan.specs.declared.token.TokenKind.{TokenKind}
use Rattle.c65_scan.specs.declared.token.TokenKind.TheVariants as kinds
use Rattle.c65_tree.specs.Trees as t
use Rattle.c65_parse_frames.specs.declared.sign.Mark.TheVariants as marks
use Rattle.c65_parse_frames.specs.Signs.{sign_of_keyword, sign_of_punct, sign_of, least_depth}
use Rattle.c65_parse_grammar.specs.Phrases.{token}
use Rattle.c65_parse_grammar.specs.Spellings.{unary_punct}
use Rattle.c65_parse_grammar.specs.Parts.{start}
use Rattle.c65_parse_grammar.specs.Scopes.{Scope}
use Rattle.c65_parse_grammar.specs.Expressions as g
use Rattle.c65_parse_grammar.specs.Statements.{statement}
use Rattle.c65_parse_law_sound.proofs.Phrases.{both, behind_nothing}
use Rattle.c65_parse_law_least.proofs.Closings.{zero_tree, zero_token}
use Rattle.c65_parse_law_exact.proofs.Onward.{somewhere, mark_token}
use Rattle.c65_parse_law_exact.proofs.Tests.{zero_test, zero_tested}
use Rattle.c65_parse_law_exact.proofs.Placed.{empty, semicolon, do_end, do_whole}
use Rattle.c65_parse_law_exact.proofs.Words.{for_end, for_ended}

pub record Starting (b : Scope) (tok : Token) : Type 0 where
  pub tree : t.StmtTree
  pub more : List Token
  pub derives : statement b tree (tok ∷ more)

abbrev zero_here : Token
zero_here = zero_token somewhere

abbrev some_name : Name
some_name = record { 0 = 0 }

abbrev name_here : Token
name_here = token (kinds.Name some_name) somewhere

-- an expression that begins with a token
evaluated : (b : Scope) (tok : Token) (e : t.ExprTree) (more : List Token) → g.expr b e (tok ∷ more) → Starting b tok
evaluated b tok e more p = record { tree = t.eval (start e) (Some e); more = more ++ semicolon ∷ []; derives = (refl, both (tok ∷ more) (semicolon ∷ []) p (somewhere, refl)) }

-- the words of statements, and the operator that is a word
keyword_starts : (b : Scope) (label : Bool) (k : Keyword) (l : Pos) → 1 ≤ least_depth (sign_of_keyword k) label → Starting b (token (kinds.Keyword k) l)
keyword_starts b label keywords.Sizeof l h = evaluated b (token (kinds.Keyword keywords.Sizeof) l) (t.sizeof_expr l (zero_tree somewhere)) (zero_here ∷ []) (token (kinds.Keyword keywords.Sizeof) l ∷ [], zero_here ∷ [], refl, refl, (omega arith, refl))
keyword_starts b label keywords.Case l h = record { tree = t.case l (zero_tree somewhere) empty; more = zero_here ∷ mark_token marks.Colon ∷ semicolon ∷ []; derives = (token (kinds.Keyword keywords.Case) l ∷ [], zero_here ∷ mark_token marks.Colon ∷ semicolon ∷ [], refl, refl, (zero_here ∷ [], mark_token marks.Colon ∷ semicolon ∷ [], refl, (omega arith, refl), (mark_token marks.Colon ∷ [], semicolon ∷ [], refl, (somewhere, refl), refl))) }
keyword_starts b label keywords.Default l h = record { tree = t.default l empty; more = mark_token marks.Colon ∷ semicolon ∷ []; derives = (token (kinds.Keyword keywords.Default) l ∷ [], mark_token marks.Colon ∷ semicolon ∷ [], refl, refl, (mark_token marks.Colon ∷ [], semicolon ∷ [], refl, (somewhere, refl), refl)) }
keyword_starts b label keywords.If l h = record { tree = t.if_stmt l (zero_tree somewhere) empty t.no_stmt; more = zero_test ++ semicolon ∷ []; derives = both (token (kinds.Keyword keywords.If) l ∷ []) (zero_test ++ semicolon ∷ []) refl (both zero_test (semicolon ∷ []) (zero_tested b) (behind_nothing (tt, refl))) }
keyword_starts b label keywords.Switch l h = record { tree = t.switch l (zero_tree somewhere) empty; more = zero_test ++ semicolon ∷ []; derives = both (token (kinds.Keyword keywords.Switch) l ∷ []) (zero_test ++ semicolon ∷ []) refl (both zero_test (semicolon ∷ []) (zero_tested b) refl) }
keyword_starts b label keywords.While l h = record { tree = t.while l (zero_tree somewhere) empty; more = zero_test ++ semicolon ∷ []; derives = both (token (kinds.Keyword keywords.While) l ∷ []) (zero_test ++ semicolon ∷ []) refl (both zero_test (semicolon ∷ []) (zero_tested b) refl) }
keyword_starts b label keywords.Do l h = record { tree = t.do_while l empty (zero_tree somewhere); more = semicolon ∷ do_end; derives = do_whole b l empty (token (kinds.Keyword keywords.Do) l ∷ []) (semicolon ∷ []) refl refl }
keyword_starts b label keywords.For l h = record { tree = t.for l None None None empty; more = for_end; derives = for_ended b l (token (kinds.Keyword keywords.For) l) refl }
keyword_starts b label keywords.Goto l h = record { tree = t.goto l some_name; more = name_here ∷ semicolon ∷ []; derives = (token (kinds.Keyword keywords.Goto) l ∷ [], name_here ∷ semicolon ∷ [], refl, refl, (name_here ∷ [], semicolon ∷ [], refl, (somewhere, refl), (somewhere, refl))) }
keyword_starts b label keywords.Continue l h = record { tree = t.continue l; more = semicolon ∷ []; derives = (token (kinds.Keyword keywords.Continue) l ∷ [], semicolon ∷ [], refl, refl, (somewhere, refl)) }
keyword_starts b label keywords.Break l h = record { tree = t.break l; more = semicolon ∷ []; derives = (token (kinds.Keyword keywords.Break) l ∷ [], semicolon ∷ [], refl, refl, (somewhere, refl)) }
keyword_starts b label keywords.Return l h = record { tree = t.return l None; more = semicolon ∷ []; derives = (token (kinds.Keyword keywords.Return) l ∷ [], semicolon ∷ [], refl, refl, ([], semicolon ∷ [], refl, refl, (somewhere, refl))) }
keyword_starts b label _ l h = absurd (omega (arith, h))

-- a sign before an operand
signed_starts : (b : Scope) (op : UnaryOp) (l : Pos) → Starting b (token (kinds.Punct (unary_punct op)) l)
signed_starts b op l = evaluated b (token (kinds.Punct (unary_punct op)) l) (t.unary l op (zero_tree somewhere)) (zero_here ∷ []) (token (kinds.Punct (unary_punct op)) l ∷ [], zero_here ∷ [], refl, refl, (omega arith, refl))

punct_starts : (b : Scope) (label : Bool) (p : Punct) (l : Pos) → 1 ≤ least_depth (sign_of_punct p) label → Starting b (token (kinds.Punct p) l)
punct_starts b label puncts.OpenParen l h = evaluated b (token (kinds.Punct puncts.OpenParen) l) (t.paren l (zero_tree somewhere)) (zero_here ∷ mark_token marks.CloseParen ∷ []) (token (kinds.Punct puncts.OpenParen) l ∷ [], zero_here ∷ mark_token marks.CloseParen ∷ [], refl, refl, (zero_here ∷ [], mark_token marks.CloseParen ∷ [], refl, refl, (somewhere, refl)))
punct_starts b label puncts.OpenBrace l h = record { tree = t.block l [] t.no_stmts; more = mark_token marks.CloseBrace ∷ []; derives = (token (kinds.Punct puncts.OpenBrace) l ∷ [], mark_token marks.CloseBrace ∷ [], refl, refl, ([], mark_token marks.CloseBrace ∷ [], refl, refl, ([], mark_token marks.CloseBrace ∷ [], refl, refl, (somewhere, refl)))) }
punct_starts b label puncts.Semicolon l h = record { tree = t.eval l None; more = []; derives = refl }
punct_starts b label puncts.PlusPlus l h = evaluated b (token (kinds.Punct puncts.PlusPlus) l) (t.step l steps.PreInc (zero_tree somewhere)) (zero_here ∷ []) (token (kinds.Punct puncts.PlusPlus) l ∷ [], zero_here ∷ [], refl, refl, (omega arith, refl))
punct_starts b label puncts.MinusMinus l h = evaluated b (token (kinds.Punct puncts.MinusMinus) l) (t.step l steps.PreDec (zero_tree somewhere)) (zero_here ∷ []) (token (kinds.Punct puncts.MinusMinus) l ∷ [], zero_here ∷ [], refl, refl, (omega arith, refl))
punct_starts b label puncts.Ampersand l h = signed_starts b unaries.Address l
punct_starts b label puncts.Star l h = signed_starts b unaries.Deref l
punct_starts b label puncts.Plus l h = signed_starts b unaries.Plus l
punct_starts b label puncts.Minus l h = signed_starts b unaries.Neg l
punct_starts b label puncts.Tilde l h = signed_starts b unaries.BitNot l
punct_starts b label puncts.Exclamation l h = signed_starts b unaries.Not l
punct_starts b label _ l h = absurd (omega (arith, h))

-- a name may always be a label
kind_starts : (b : Scope) (label : Bool) (k : TokenKind) (l : Pos) → 1 ≤ least_depth (sign_of k) label → Starting b (token k l)
kind_starts b label (kinds.Keyword k) l h = keyword_starts b label k l h
kind_starts b label (kinds.Name n) l h = record { tree = t.label l n empty; more = mark_token marks.Colon ∷ semicolon ∷ []; derives = (token (kinds.Name n) l ∷ [], mark_token marks.Colon ∷ semicolon ∷ [], refl, refl, (mark_token marks.Colon ∷ [], semicolon ∷ [], refl, (somewhere, refl), refl)) }
kind_starts b label (kinds.Number ty n) l h = evaluated b (token (kinds.Number ty n) l) (t.number l ty n) [] refl
kind_starts b label (kinds.Text bs) l h = evaluated b (token (kinds.Text bs) l) (t.text l bs) [] refl
kind_starts b label (kinds.Punct p) l h = punct_starts b label p l h
kind_starts b label kinds.End l h = absurd (omega (arith, h))

pub starts : (b : Scope) (tok : Token) (label : Bool) → 1 ≤ least_depth (sign_of tok.kind) label → Starting b tok
starts b tok label h = kind_starts b label tok.kind tok.pos h
