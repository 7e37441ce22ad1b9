-- The expressions of statements, with the marks round them.
use Rattle.std.proofs.Common.{◌≡◌, ℕ, ◌≤◌, List, [], ◌∷◌, ◌++◌, false, refl, arith}
use Rattle.std.specs.Prelude.{Ok, Option, None, Some}
use Rattle.c65_base.specs.Answers.{◌>>=◌}
use Rattle.c65_scan.specs.declared.token.Token.{Token}
use Rattle.c65_tree.specs.Trees as t
use Rattle.c65_tree.specs.Lists.{of_option}
use Rattle.c65_tree.specs.Depth.{expr_depth}
use Rattle.c65_parse_names.specs.Scopes.{Blocks}
use Rattle.c65_parse.specs.Reading.{after_token, expr_read}
use Rattle.c65_parse_frames.specs.declared.sign.Sign.TheVariants as signs
use Rattle.c65_parse_frames.specs.declared.sign.Mark.{Mark}
use Rattle.c65_parse_frames.specs.declared.sign.Mark.TheVariants as marks
use Rattle.c65_parse_frames.specs.Signs.{is_mark}
use Rattle.c65_decl.specs.Here.{expected}
use Rattle.c65_decl.specs.Expressions.{test_read, case_read, ended_read, optional_read}
use Rattle.c65_parse_grammar.specs.Phrases.{Phrase, ◌▸◌, given}
use Rattle.c65_parse_grammar.specs.Parts.{level}
use Rattle.c65_parse_grammar.specs.Scopes.{Scope, after, after_option}
use Rattle.c65_parse_grammar.specs.Expressions as g
use Rattle.c65_parse_grammar.specs.Statements.{optional_expr, test}
use Rattle.c65_parse_grammar.specs.Readings.{Continues}
use Rattle.c65_parse_law_sound.proofs.Phrases.{both}
use Rattle.c65_parse_law_sound.proofs.Got.{EndsIn, mark_phrase, first_of_mark, is_mark_of}
use Rattle.c65_parse_law_faults.proofs.Inits.{marks_it}
use Rattle.c65_parse_law_least.specs.Viable.{FewTypes}
use Rattle.c65_parse_law_least.proofs.Closings.{zero_tree, zero_token}
use Rattle.c65_parse_law_exact.proofs.Leaves.{exprs_stop_here}
use Rattle.c65_parse_law_exact.proofs.Pieces.{IsTaken}
use Rattle.c65_parse_law_exact.proofs.Stops.{Going, Taking, Stop, stop_done, stop_if_first, stop_past, stop_mark}
use Rattle.c65_parse_law_exact.proofs.Onward.{somewhere, mark_token, marked, nothing_more, stop_then, onward, extended}

-- an expression of at least this level
abbrev pub level_expr : ℕ → Scope → t.ExprTree → Phrase
level_expr least sc e = given (least ≤ level e) (g.expr sc e)

-- before a mark
abbrev pub ended_expr : ℕ → Mark → Scope → t.ExprTree → Phrase
ended_expr least mark sc e = given (least ≤ level e) (g.expr sc e) ▸ mark_phrase mark

abbrev pub option_ended : Mark → Scope → Option t.ExprTree → Phrase
option_ended mark sc o = optional_expr sc o ▸ mark_phrase mark

with_mark : (limit n least : ℕ) (mark : Mark) (sc : Scope) (xs : List Token) → Continues (level_expr least sc) expr_depth n xs → Continues (ended_expr least mark sc) expr_depth n xs
with_mark limit n least mark sc xs k = extended (level_expr least sc) (ended_expr least mark sc) expr_depth expr_depth n [] (mark_token mark ∷ []) xs (λ e. e) (λ e zs p. both zs (mark_token mark ∷ []) p (somewhere, refl)) (λ e h. h) k

-- an expression and a mark
ended_by : {B : Type 0} (limit least : ℕ) (goes : Going) (takes : Taking B) (build : t.ExprTree → B) (mark : Mark) (sc : Scope) (outer : Blocks) (unit us ts : List Token) → 1 ≤ limit → least ≤ 13 → FewTypes (sc ∷ outer) → is_mark mark signs.End ≡ false → EndsIn ts
    → ((n : ℕ) (xs : List Token) → limit ≤ n → Continues (ended_expr least mark sc) expr_depth n xs → goes n xs)
    → ((e : t.ExprTree) (xs : List Token) → ended_expr least mark sc e xs → expr_depth e ≤ limit → FewTypes (after sc e ∷ outer) → takes (build e) (after sc e ∷ outer) xs)
    → Stop limit 0 1 0 goes takes (λ unit us ys. expr_read limit least (sc ∷ outer) ys >>= (λ e. expected mark e.2 e.1 >>= (λ b. Ok (build e.0, b.0, b.1)))) unit us ts
ended_by limit least goes takes build mark sc outer unit us ts one low few not ends on took = stop_then limit 1 0 1 0 0 (Continues (level_expr least sc) expr_depth) goes (level_expr least sc) (λ e. after sc e ∷ outer) expr_depth takes (λ unit us ys. expr_read limit least (sc ∷ outer) ys) (λ unit us e. expected mark e.2 e.1 >>= (λ b. Ok (build e.0, b.0, b.1))) unit us ts (omega arith) (omega arith) ends (exprs_stop_here limit least sc outer unit us ts one low few ends)
    (λ n xs up k. on n xs up (with_mark limit n least mark sc xs k))
    (λ e xs rest p small more are left short. stop_mark limit 0 0 0 (λ n ys. goes n (xs ++ ys)) (λ x inner ys. takes x inner (xs ++ ys)) mark (after sc e ∷ outer) (λ b. Ok (build e, b.0, b.1)) unit us rest not (omega arith) left
    (nothing_more goes limit xs (on limit xs (omega arith) (record { tree = e; more = mark_token mark ∷ []; derives = both xs (mark_token mark ∷ []) p (somewhere, refl); within = small })))
    (λ tok last m none. stop_done limit 0 0 (λ n ys. goes n (xs ++ (tok ∷ ys))) (λ x inner ys. takes x inner (xs ++ (tok ∷ ys))) (build e) (after sc e ∷ outer) unit us last none (took e (xs ++ tok ∷ []) (both xs (tok ∷ []) p (marked mark tok m)) small more)))

-- a constant expression and a colon
pub case_stops : (limit : ℕ) (sc : Scope) (outer : Blocks) (unit us ts : List Token) → 1 ≤ limit → FewTypes (sc ∷ outer) → EndsIn ts
    → Stop limit 0 1 0 (Continues (ended_expr 2 marks.Colon sc) expr_depth) (IsTaken (ended_expr 2 marks.Colon sc) (λ e. after sc e ∷ outer) expr_depth limit) (λ unit us ys. case_read limit (sc ∷ outer) ys) unit us ts
case_stops limit sc outer unit us ts one few ends = ended_by limit 2 (Continues (ended_expr 2 marks.Colon sc) expr_depth) (IsTaken (ended_expr 2 marks.Colon sc) (λ e. after sc e ∷ outer) expr_depth limit) (λ e. e) marks.Colon sc outer unit us ts one (omega arith) few refl ends
    (λ n xs up k. k)
    (λ e xs p small more. record { derives = p; scope_is = refl; within = small; few = more })

abbrev pub zero_test : List Token
zero_test = mark_token marks.OpenParen ∷ zero_token somewhere ∷ mark_token marks.CloseParen ∷ []

pub zero_tested : (sc : Scope) → test sc (zero_tree somewhere) zero_test
zero_tested sc = (mark_token marks.OpenParen ∷ [], zero_token somewhere ∷ mark_token marks.CloseParen ∷ [], refl, (somewhere, refl), (zero_token somewhere ∷ [], mark_token marks.CloseParen ∷ [], refl, refl, (somewhere, refl)))

-- an expression in parentheses
pub test_stops : (limit : ℕ) (sc : Scope) (outer : Blocks) (unit us ts : List Token) → 1 ≤ limit → FewTypes (sc ∷ outer) → EndsIn ts
    → Stop limit 0 1 0 (Continues (test sc) expr_depth) (IsTaken (test sc) (λ e. after sc e ∷ outer) expr_depth limit) (λ unit us ys. test_read limit (sc ∷ outer) ys) unit us ts
test_stops limit sc outer unit us ts one few ends = stop_mark limit 0 1 1 (Continues (test sc) expr_depth) (IsTaken (test sc) (λ e. after sc e ∷ outer) expr_depth limit) marks.OpenParen (sc ∷ outer) (λ a. expr_read limit 0 a.1 a.0 >>= (λ e. expected marks.CloseParen e.2 e.1 >>= (λ b. Ok (e.0, b.0, b.1)))) unit us ts refl (omega arith) ends
    (record { tree = zero_tree somewhere; more = zero_test; derives = zero_tested sc; within = one })
    (λ tok rest m left. ended_by limit 0 (λ n ys. Continues (test sc) expr_depth n (tok ∷ ys)) (λ e scope ys. IsTaken (test sc) (λ e. after sc e ∷ outer) expr_depth limit e scope (tok ∷ ys)) (λ e. e) marks.CloseParen sc outer unit us rest one (omega arith) few refl left
    (λ n xs up k. onward (ended_expr 0 marks.CloseParen sc) (test sc) expr_depth expr_depth n (tok ∷ []) xs (λ e. e) (λ e zs p. (tok ∷ [], zs, refl, marked marks.OpenParen tok m, (p.0, p.1, p.2, p.3.1, p.4))) (λ e h. h) k)
    (λ e xs p small more. record { derives = (tok ∷ [], xs, refl, marked marks.OpenParen tok m, (p.0, p.1, p.2, p.3.1, p.4)); scope_is = refl; within = small; few = more }))

ended_stops : (limit : ℕ) (mark : Mark) (sc : Scope) (outer : Blocks) (unit us ts : List Token) → 1 ≤ limit → FewTypes (sc ∷ outer) → is_mark mark signs.End ≡ false → EndsIn ts
    → Stop limit 0 1 0 (Continues (option_ended mark sc) (of_option expr_depth)) (IsTaken (option_ended mark sc) (λ o. after_option sc o ∷ outer) (of_option expr_depth) limit) (λ unit us ys. ended_read limit mark (sc ∷ outer) ys) unit us ts
ended_stops limit mark sc outer unit us ts one few not ends = ended_by limit 0 (Continues (option_ended mark sc) (of_option expr_depth)) (IsTaken (option_ended mark sc) (λ o. after_option sc o ∷ outer) (of_option expr_depth) limit) Some mark sc outer unit us ts one (omega arith) few not ends
    (λ n xs up k. record { tree = Some k.tree; more = k.more; derives = let p = k.derives in (p.0, p.1, p.2, p.3.1, p.4); within = k.within })
    (λ e xs p small more. record { derives = (p.0, p.1, p.2, p.3.1, p.4); scope_is = refl; within = small; few = more })

-- an expression or nothing, and a mark
pub optional_stops : (limit : ℕ) (mark : Mark) (sc : Scope) (outer : Blocks) (unit us ts : List Token) → 1 ≤ limit → FewTypes (sc ∷ outer) → is_mark mark signs.End ≡ false → EndsIn ts
    → Stop limit 0 1 0 (Continues (option_ended mark sc) (of_option expr_depth)) (IsTaken (option_ended mark sc) (λ o. after_option sc o ∷ outer) (of_option expr_depth) limit) (λ unit us ys. optional_read limit mark (sc ∷ outer) ys) unit us ts
optional_stops limit mark sc outer unit us ts one few not ends = stop_if_first limit 0 1 0 (Continues (option_ended mark sc) (of_option expr_depth)) (IsTaken (option_ended mark sc) (λ o. after_option sc o ∷ outer) (of_option expr_depth) limit) (marks_it mark) (λ unit us ys. Ok (None, after_token ys, sc ∷ outer)) (λ unit us ys. ended_read limit mark (sc ∷ outer) ys) unit us ts
    (λ e. let first = first_of_mark mark ts not e ends in stop_past limit 0 0 0 1 0 0 (Continues (option_ended mark sc) (of_option expr_depth)) (IsTaken (option_ended mark sc) (λ o. after_option sc o ∷ outer) (of_option expr_depth) limit) (λ unit us ys. Ok (None, ys, sc ∷ outer)) unit us ts (omega arith) (omega arith) (omega arith) first
    (stop_done limit 0 0 (λ n ys. Continues (option_ended mark sc) (of_option expr_depth) n (first.tok ∷ ys)) (λ o scope ys. IsTaken (option_ended mark sc) (λ o. after_option sc o ∷ outer) (of_option expr_depth) limit o scope (first.tok ∷ ys)) None (sc ∷ outer) unit us first.rest first.ends (record { derives = ([], first.tok ∷ [], refl, refl, is_mark_of mark ts first e); scope_is = refl; within = omega arith; few = few })))
    (λ e. ended_stops limit mark sc outer unit us ts one few not ends)
