-- What is known of the readings of expressions, specifiers, declarators and type names.
use Rattle.std.proofs.Common.{ℕ, ◌≤◌, List, [], ◌∷◌, Bool, refl, inl, arith}
use Rattle.c65_base.specs.declared.refusal.Pos.{Pos}
use Rattle.c65_scan.specs.declared.token.Punct.TheVariants as puncts
use Rattle.c65_scan.specs.declared.token.Token.{Token}
use Rattle.c65_scan.specs.declared.token.TokenKind.TheVariants as kinds
use Rattle.c65_tree.specs.Depth.{expr_depth, specifiers_depth, declarator_depth, type_depth}
use Rattle.c65_parse_names.specs.Scopes.{Blocks}
use Rattle.c65_parse.specs.declared.frame.Sort.TheVariants as sorts
use Rattle.c65_parse.specs.Reading.{expr_read, specifiers_read, declarator_read, type_read}
use Rattle.c65_parse_grammar.specs.Phrases.{token, given}
use Rattle.c65_parse_grammar.specs.Parts.{level}
use Rattle.c65_parse_grammar.specs.Scopes.{Scope, after, after_specifiers, after_declarator, after_type}
use Rattle.c65_parse_grammar.specs.Expressions as g
use Rattle.c65_parse_grammar.specs.Statements.{head_specifiers}
use Rattle.c65_parse_law_depth.proofs.Readings.{exprs_grow, specifiers_grow, declarators_grow, types_grow}
use Rattle.c65_parse_law_sound.specs.Units.{EndsOnce}
use Rattle.c65_parse_law_sound.proofs.Derivations.{exprs_are_derived, specifiers_are_derived, declarators_are_derived, types_are_derived}
use Rattle.c65_parse_law_sound.proofs.Within.{exprs_are_within, specifiers_are_within, declarators_are_within, types_are_within}
use Rattle.c65_parse_law_trees.proofs.Top.{exprs_are_read, specifiers_are_read, declarators_are_read, types_are_read}
use Rattle.c65_parse_law_faults.proofs.Local.{looser}
use Rattle.c65_parse_law_faults.proofs.Runs.{expr_local, specifiers_local, declarator_local, type_local}
use Rattle.c65_parse_law_faults.proofs.Whole.{ends_in}
use Rattle.c65_parse_law_least.specs.Viable.{FewTypes}
use Rattle.c65_parse_law_least.proofs.Whole.{expr_outcome, specifiers_outcome, declarator_outcome}
use Rattle.c65_parse_law_least.proofs.Types.{type_outcome}
use Rattle.c65_parse_law_exact.proofs.Exactly.{Known}

abbrev end_at : Pos → Token
end_at l = token kinds.End l

pub known_expr : (least : ℕ) (sc : Scope) (outer : Blocks) (tokens : List Token) → least ≤ 13 → FewTypes (sc ∷ outer) → EndsOnce tokens → Known (λ l e. given (least ≤ level e) (g.expr sc e)) (after sc) outer expr_depth (λ limit. expr_read limit least (sc ∷ outer)) tokens
known_expr least sc outer tokens low few once = record {
  derived = λ tree rest scope e. exprs_are_derived 256 least sc outer tokens tree rest scope low e;
  within = λ tree rest scope e. exprs_are_within 256 least (sc ∷ outer) tokens tree rest scope e;
  went = looser 0 0 1 0 0 (λ unit us ys. expr_read 256 least (sc ∷ outer) ys) tokens (expr_read 256 least (sc ∷ outer) tokens) (omega arith) (omega arith) (expr_local 256 least (sc ∷ outer) tokens tokens tokens (ends_in tokens once));
  halts = λ l. expr_outcome 256 least sc outer tokens (omega arith) low few (ends_in tokens once);
  grows = λ ts. exprs_grow least (sc ∷ outer) ts;
  leaves = λ l limit ts tree p deep. (end_at l ∷ [], _, exprs_are_read limit least sc outer tree ts (end_at l) [] p.1 p.0 deep low (inl refl));
}

pub known_specifiers : (sc : Scope) (outer : Blocks) (tokens : List Token) → FewTypes (sc ∷ outer) → EndsOnce tokens → Known (head_specifiers sc) (after_specifiers sc) outer specifiers_depth (λ limit. specifiers_read limit (sc ∷ outer)) tokens
known_specifiers sc outer tokens few once = record {
  derived = λ tree rest scope e. specifiers_are_derived 256 sc outer tokens tree rest scope e;
  within = λ tree rest scope e. specifiers_are_within 256 (omega arith) (sc ∷ outer) tokens tree rest scope e;
  went = specifiers_local 256 (sc ∷ outer) tokens tokens tokens (ends_in tokens once);
  halts = λ l. specifiers_outcome 256 sc outer l tokens (omega arith) few (ends_in tokens once);
  grows = λ ts. specifiers_grow (sc ∷ outer) ts;
  leaves = λ l limit ts tree p deep. (end_at l ∷ [], _, specifiers_are_read limit sc outer tree ts (end_at l) [] p deep tt);
}

pub known_declarator : (typed : Bool) (sc : Scope) (outer : Blocks) (tokens : List Token) → FewTypes (sc ∷ outer) → EndsOnce tokens → Known (g.declarator (g.named typed) sc) (after_declarator sc) outer declarator_depth (λ limit. declarator_read limit (sorts.Named typed) (sc ∷ outer)) tokens
known_declarator typed sc outer tokens few once = record {
  derived = λ tree rest scope e. declarators_are_derived 256 (sorts.Named typed) sc outer tokens tree rest scope e;
  within = λ tree rest scope e. declarators_are_within 256 (omega arith) (sorts.Named typed) (sc ∷ outer) tokens tree rest scope e;
  went = declarator_local 256 (sorts.Named typed) (sc ∷ outer) tokens tokens tokens (ends_in tokens once);
  halts = λ l. declarator_outcome 256 (sorts.Named typed) sc outer l tokens (omega arith) few (ends_in tokens once);
  grows = λ ts. declarators_grow (sorts.Named typed) (sc ∷ outer) ts;
  leaves = λ l limit ts tree p deep. (end_at l ∷ [], _, declarators_are_read limit (sorts.Named typed) sc outer l tree ts (end_at l) [] p deep tt);
}

pub known_type : (sc : Scope) (outer : Blocks) (tokens : List Token) → FewTypes (sc ∷ outer) → EndsOnce tokens → Known (g.type_name sc) (after_type sc) outer type_depth (λ limit. type_read limit (sc ∷ outer)) tokens
known_type sc outer tokens few once = record {
  derived = λ tree rest scope e. types_are_derived 256 sc outer tokens tree rest scope e;
  within = λ tree rest scope e. types_are_within 256 (omega arith) (sc ∷ outer) tokens tree rest scope e;
  went = type_local 256 (sc ∷ outer) tokens tokens tokens (ends_in tokens once);
  halts = λ l. type_outcome 256 sc outer l tokens (omega arith) few (ends_in tokens once);
  grows = λ ts. types_grow (sc ∷ outer) ts;
  leaves = λ l limit ts tree p deep. (token (kinds.Punct puncts.CloseParen) l ∷ [], _, types_are_read limit sc outer tree ts (token (kinds.Punct puncts.CloseParen) l) [] p deep refl);
}
