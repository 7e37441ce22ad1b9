-- That a fault stands at the first token with which no tree within the limit goes on.
use Rattle.std.proofs.Common.{◌≡◌, ℕ, ◌≤◌, List, [], ◌∷◌, ◌++◌, refl, ap, ◌∙◌, subst, inl, arith}
use Rattle.std.proofs.lemmas.List.{append-nil}
use Rattle.std.specs.Prelude.{Result, Ok, Err}
use Rattle.c65_base.specs.Answers.{Fault}
use Rattle.c65_scan.specs.declared.token.Token.{Token}
use Rattle.c65_scan.specs.declared.token.TokenKind.TheVariants as kinds
use Rattle.c65_tree.specs.Trees as t
use Rattle.c65_tree.specs.Depth.{init_depth, decl_depth, unit_depth}
use Rattle.c65_parse.specs.Reading.{Answer}
use Rattle.c65_decl.specs.Initialisers.{initialiser_read}
use Rattle.c65_decl.specs.Decls.{declaration_read}
use Rattle.c65_decl.specs.Statements.{statement_read}
use Rattle.c65_decl.specs.Units.{unit_read}
use Rattle.c65_parse_grammar.specs.Phrases.{Phrase, token}
use Rattle.c65_parse_grammar.specs.Scopes.{after_init, after_decl, after_stmt}
use Rattle.c65_parse_grammar.specs.Statements.{initialiser, declaration, statement}
use Rattle.c65_parse_grammar.specs.Readings.{Continues, units}
use Rattle.c65_parse_law_units.proofs.Whole.{inits_are_read, declarations_are_read, statements_are_read, units_are_read}
use Rattle.c65_parse_law_faults.proofs.Local.{Reader, Triple}
use Rattle.c65_parse_law_faults.proofs.Whole.{ends_in}
use Rattle.c65_parse_law_least.specs.Viable.{StopsAt}
use Rattle.c65_parse_law_least.proofs.Whole.{none}
use Rattle.c65_parse_law_exact.specs.Laws.{InitsStop, DeclarationsStop, StatementsStop, UnitsStop}
use Rattle.c65_parse_law_exact.proofs.Stops.{Taking, Stuck, StopIs}
use Rattle.c65_parse_law_exact.proofs.Pieces.{IsTaken, whole_depth}
use Rattle.c65_parse_law_exact.proofs.Inits.{init_stops}
use Rattle.c65_parse_law_exact.proofs.Declarations.{declaration_stops}
use Rattle.c65_parse_law_exact.proofs.Stmts.{statement_stops}
use Rattle.c65_parse_law_exact.proofs.Units.{unit_stuck, unit_again}

abbrev err_or : {B : Type 0} → Fault → Result B Fault → Fault
err_or d (Ok b) = d
err_or d (Err e) = e

stuck : {A : Type 0} (limit m : ℕ) {Tree : Type 0} (phrase : Tree → Phrase) (depth : Tree → ℕ) (takes : Taking A) (read : Reader (Triple A)) (ts : List Token) (r : Answer A) (e : Fault) → StopIs limit 0 m 0 (Continues phrase depth) takes read ts r → r ≡ Err e → Stuck limit 0 0 (Continues phrase depth) read ts e
stuck limit m phrase depth takes read ts (Ok (a, rest, scope)) e h k = absurd cc
stuck limit m phrase depth takes read ts (Err x) e h k = subst (Stuck limit 0 0 (Continues phrase depth) read ts) (ap (err_or x) k) h

-- where every tree has some tokens behind it with which it is read
stops : {A : Type 0} (limit : ℕ) {Tree : Type 0} (phrase : Tree → Phrase) (depth : Tree → ℕ) (read : Reader (Triple A)) (tokens : List Token) (fault : Fault) → Stuck limit 0 0 (Continues phrase depth) read tokens fault
    → ((ts : List Token) (tree : Tree) → phrase tree ts → depth tree ≤ limit → (behind : List Token) × (a : Triple A) × (read (ts ++ behind) (ts ++ behind) (ts ++ behind) ≡ Ok a)) → StopsAt limit phrase depth tokens fault
stops limit phrase depth read tokens fault s takes =
    let f = s.failed in
    record {
      before = f.before;
      next = f.next;
      others = f.others;
      tokens_are = f.tokens_are;
      fault_is = f.fault_is;
      goes_on = s.goes_on;
      none = none limit (λ ts. read ts ts ts) phrase depth fault f.before f.next (λ more. f.again (f.before ++ f.next ∷ more) (f.before ++ f.next ∷ more) more (omega arith) (omega arith)) takes;
      deeper = s.deeper;
    }

abbrev end : Token
end = token kinds.End (record { file = 0; line = 1 })

pub inits_stop_at : InitsStop
inits_stop_at limit unit sc outer tokens fault one fit few ends e =
    let read : Reader (Triple t.InitTree) = λ unit us ys. initialiser_read limit unit (sc ∷ outer) ys in
    stops limit (initialiser sc) init_depth read tokens fault
    (stuck limit 0 (initialiser sc) init_depth (IsTaken (initialiser sc) (λ i. after_init sc i ∷ outer) init_depth limit) read tokens (initialiser_read limit unit (sc ∷ outer) tokens) fault (init_stops limit sc outer unit [] tokens one few (ends_in tokens ends) fit) e)
    (λ ts tree p deep. (end ∷ [], _, inits_are_read limit (ts ++ end ∷ []) sc outer tree ts end [] p deep (omega arith) (inl refl)))

pub declarations_stop_at : DeclarationsStop
declarations_stop_at limit unit sc outer tokens fault one fit few ends begins e =
    let read : Reader (Triple t.DeclTree) = λ unit us ys. declaration_read limit unit (sc ∷ outer) ys in
    stops limit (declaration sc) decl_depth read tokens fault
    (stuck limit 1 (declaration sc) decl_depth (IsTaken (declaration sc) (λ d. after_decl sc d ∷ outer) decl_depth limit) read tokens (declaration_read limit unit (sc ∷ outer) tokens) fault (declaration_stops limit sc outer unit [] tokens one few begins (ends_in tokens ends) fit) e)
    (λ ts tree p deep. (end ∷ [], _, declarations_are_read limit (ts ++ end ∷ []) sc outer tree ts end [] p deep (omega arith)))

pub statements_stop_at : StatementsStop
statements_stop_at limit unit sc outer tokens fault one fit few ends e =
    let read : Reader (Triple t.StmtTree) = λ unit us ys. statement_read limit unit (sc ∷ outer) ys in
    stops limit (statement sc) whole_depth read tokens fault
    (stuck limit 0 (statement sc) whole_depth (IsTaken (statement sc) (λ s. after_stmt sc s ∷ outer) whole_depth limit) read tokens (statement_read limit unit (sc ∷ outer) tokens) fault (statement_stops limit sc outer unit [] tokens one few (ends_in tokens ends) fit) e)
    (λ ts tree p deep. (end ∷ [], _, statements_are_read limit (ts ++ end ∷ []) sc outer tree ts end [] p (omega (arith, deep)) (omega (arith, deep)) (omega arith) (λ h. refl)))

pub units_stop_at : UnitsStop
units_stop_at limit tokens fault one ends e =
    let s = unit_stuck limit tokens fault one (ends_in tokens ends) e in
    let f = s.failed in
    record {
      before = f.before;
      next = f.next;
      others = f.others;
      tokens_are = f.tokens_are;
      fault_is = f.fault_is;
      goes_on = s.goes_on;
      none = none limit (unit_read limit) units unit_depth fault f.before f.next (λ more. unit_again limit f.before f.next more fault (f.again (f.before ++ f.next ∷ more) (f.before ++ f.next ∷ more) more (omega arith) (omega arith)))
          (λ ts tree p deep. ([], tree, ap (unit_read limit) (append-nil ts) ∙ units_are_read limit ts tree (record { derives = p; within = deep })));
      deeper = s.deeper;
    }
