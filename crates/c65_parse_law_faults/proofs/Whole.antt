-- That nothing goes on at the token of a fault.
use Rattle.std.proofs.Common.{◌≡◌, ℕ, ◌≤◌, max, List, [], ◌∷◌, ◌++◌, refl, sym, ap, ◌∙◌, subst, append_assoc, inl, arith}
use Rattle.std.proofs.lemmas.List.{append-nil}
use Rattle.std.specs.Prelude.{Result, Ok, Err}
use Rattle.c65_base.specs.Answers.{Fault, at, large, Gives}
use Rattle.c65_base.specs.declared.refusal.Pos.{Pos}
use Rattle.c65_base.specs.declared.refusal.Refusal.{Refusal}
use Rattle.c65_base.specs.declared.refusal.Refusal.TheVariants as refusals
use Rattle.c65_scan.specs.declared.token.Punct.TheVariants as puncts
use Rattle.c65_scan.specs.declared.token.Token.{Token}
use Rattle.c65_scan.specs.declared.token.TokenKind.TheVariants as kinds
use Rattle.c65_tree.specs.Trees as t
use Rattle.c65_tree.specs.Depth.{expr_depth, specifiers_depth, declarator_depth, type_depth, init_depth, decl_depth, stmt_depth, inner_depth, unit_depth}
use Rattle.c65_parse.specs.declared.frame.Sort.TheVariants as sorts
use Rattle.c65_parse.specs.declared.frame.Sort.{Sort}
use Rattle.c65_parse.specs.Reading.{Answer, expr_read, specifiers_read, declarator_read, type_read}
use Rattle.c65_decl.specs.Initialisers.{initialiser_read}
use Rattle.c65_decl.specs.Decls.{declaration_read}
use Rattle.c65_decl.specs.Statements.{statement_read}
use Rattle.c65_decl.specs.Units.{unit_read}
use Rattle.c65_parse_grammar.specs.Phrases.{Phrase, token, given}
use Rattle.c65_parse_grammar.specs.Parts.{level}
use Rattle.c65_parse_grammar.specs.Expressions as g
use Rattle.c65_parse_grammar.specs.Statements.{head_specifiers, initialiser, declaration, statement}
use Rattle.c65_parse_grammar.specs.Readings.{units}
use Rattle.c65_parse_law_sound.specs.Units.{EndsOnce}
use Rattle.c65_parse_law_trees.specs.Read.{EndsDeclarator}
use Rattle.c65_parse_law_trees.specs.Tokens.{sort_of}
use Rattle.c65_parse_law_trees.proofs.Top.{exprs_are_read, specifiers_are_read, declarators_are_read, types_are_read}
use Rattle.c65_parse_law_units.proofs.Whole.{inits_are_read, declarations_are_read, statements_are_read, units_are_read}
use Rattle.c65_parse_law_sound.proofs.Got.{EndsIn}
use Rattle.c65_parse_law_faults.specs.Faults.{IsFaultOf, Refuses}
use Rattle.c65_parse_law_faults.specs.Laws.{ExprsAreRefused, SpecifiersAreRefused, DeclaratorsAreRefused, TypesAreRefused, InitsAreRefused, DeclarationsAreRefused, StatementsAreRefused, UnitsAreRefused, RefusesUnit}
use Rattle.c65_parse_law_faults.proofs.Local.{Reader, Triple, Failed, Is}
use Rattle.c65_parse_law_faults.proofs.Runs.{expr_local, specifiers_local, declarator_local, type_local}
use Rattle.c65_parse_law_faults.proofs.Inits.{init_local}
use Rattle.c65_parse_law_faults.proofs.Decls.{declaration_local}
use Rattle.c65_parse_law_faults.proofs.Stmts.{statement_local}
use Rattle.c65_parse_law_faults.proofs.Units.{unit_fails, unit_again}

pub ends_in : (ts : List Token) → EndsOnce ts → EndsIn ts
ends_in [] h = h
ends_in (t ∷ []) h = h
ends_in (t ∷ u ∷ ts) h = ends_in (u ∷ ts) h.1

err_not : {A : Type 0} (a : A) (e : Fault) → Ok a ≡ Err e → ⊥
err_not a e h = cc

-- where every tree has some tokens behind it with which it is read, none goes on at a fault
pub refuses : (limit : ℕ) → {A Tree : Type 0} (read : List Token → Result A Fault) (phrase : Tree → Phrase) (depth : Tree → ℕ) (tokens : List Token) (fault : Fault) (before : List Token) (next : Token) (others : List Token) → tokens ≡ before ++ next ∷ others → IsFaultOf next fault → ((more : List Token) → read (before ++ next ∷ more) ≡ Err fault)
    → ((ts : List Token) (tree : Tree) → phrase tree ts → depth tree ≤ limit → (behind : List Token) × (a : A) × (read (ts ++ behind) ≡ Ok a)) → Refuses limit read phrase depth tokens fault
refuses limit read phrase depth tokens fault before next others are fault_is again takes = record {
  before = before;
  next = next;
  others = others;
  tokens_are = are;
  fault_is = fault_is;
  again = again;
  none = λ k.
      let it = takes ((before ++ next ∷ []) ++ k.more) k.tree k.derives k.within in
      err_not it.1 fault (sym it.2 ∙ (ap read (append_assoc (before ++ next ∷ []) k.more it.0 ∙ append_assoc before (next ∷ []) (k.more ++ it.0)) ∙ again (k.more ++ it.0)));
}

abbrev err_or : {B : Type 0} → Fault → Result B Fault → Fault
err_or d (Ok b) = d
err_or d (Err e) = e

failed : {A : Type 0} (read : Reader (Triple A)) (ts : List Token) (m : ℕ) (r : Answer A) (e : Fault) → Is 0 m 0 read ts r → r ≡ Err e → Failed 0 0 read ts e
failed read ts m (Ok (a, rest, scope)) e h k = absurd cc
failed read ts m (Err x) e h k = subst (Failed 0 0 read ts) (ap (err_or x) k) h

refused : (limit : ℕ) → {A Tree : Type 0} (read : Reader (Triple A)) (phrase : Tree → Phrase) (depth : Tree → ℕ) (tokens : List Token) (fault : Fault) → Failed 0 0 read tokens fault
    → ((ts : List Token) (tree : Tree) → phrase tree ts → depth tree ≤ limit → (behind : List Token) × (a : Triple A) × (read (ts ++ behind) (ts ++ behind) (ts ++ behind) ≡ Ok a)) → Refuses limit (λ ts. read ts ts ts) phrase depth tokens fault
refused limit read phrase depth tokens fault f takes = refuses limit (λ ts. read ts ts ts) phrase depth tokens fault f.before f.next f.others f.tokens_are f.fault_is (λ more. f.again (f.before ++ f.next ∷ more) (f.before ++ f.next ∷ more) more (omega arith) (omega arith)) takes

pub exprs_are_refused : ExprsAreRefused
exprs_are_refused limit least sc outer tokens fault low ends e =
    let end : Token = token kinds.End (record { file = 0; line = 1 }) in
    refused limit (λ unit us ys. expr_read limit least (sc ∷ outer) ys) (λ e. given (least ≤ level e) (g.expr sc e)) expr_depth tokens fault (failed (λ unit us ys. expr_read limit least (sc ∷ outer) ys) tokens 1 (expr_read limit least (sc ∷ outer) tokens) fault (expr_local limit least (sc ∷ outer) [] [] tokens (ends_in tokens ends)) e)
    (λ ts tree p deep. (end ∷ [], _, exprs_are_read limit least sc outer tree ts end [] p.1 p.0 deep low (inl refl)))

pub specifiers_are_refused : SpecifiersAreRefused
specifiers_are_refused limit sc outer l tokens fault ends e =
    let end : Token = token kinds.End l in
    refused limit (λ unit us ys. specifiers_read limit (sc ∷ outer) ys) (head_specifiers sc l) specifiers_depth tokens fault (failed (λ unit us ys. specifiers_read limit (sc ∷ outer) ys) tokens 0 (specifiers_read limit (sc ∷ outer) tokens) fault (specifiers_local limit (sc ∷ outer) [] [] tokens (ends_in tokens ends)) e)
    (λ ts tree p deep. (end ∷ [], _, specifiers_are_read limit sc outer tree ts end [] p deep tt))

ends_there : (sort : Sort) (l : Pos) → EndsDeclarator (g.may_lack (sort_of sort)) l (token kinds.End l)
ends_there (sorts.Named typed) l = tt
ends_there (sorts.Param typed) l = (tt, tt, refl)
ends_there (sorts.Member typed) l = tt
ends_there sorts.Abstract l = (tt, tt, refl)

pub declarators_are_refused : DeclaratorsAreRefused
declarators_are_refused limit sort sc outer l tokens fault ends e =
    let end : Token = token kinds.End l in
    refused limit (λ unit us ys. declarator_read limit sort (sc ∷ outer) ys) (g.declarator (sort_of sort) sc l) declarator_depth tokens fault (failed (λ unit us ys. declarator_read limit sort (sc ∷ outer) ys) tokens 0 (declarator_read limit sort (sc ∷ outer) tokens) fault (declarator_local limit sort (sc ∷ outer) [] [] tokens (ends_in tokens ends)) e)
    (λ ts tree p deep. (end ∷ [], _, declarators_are_read limit sort sc outer l tree ts end [] p deep (ends_there sort l)))

pub types_are_refused : TypesAreRefused
types_are_refused limit sc outer l tokens fault ends e =
    let close : Token = token (kinds.Punct puncts.CloseParen) l in
    refused limit (λ unit us ys. type_read limit (sc ∷ outer) ys) (g.type_name sc l) type_depth tokens fault (failed (λ unit us ys. type_read limit (sc ∷ outer) ys) tokens 0 (type_read limit (sc ∷ outer) tokens) fault (type_local limit (sc ∷ outer) [] [] tokens (ends_in tokens ends)) e)
    (λ ts tree p deep. (close ∷ [], _, types_are_read limit sc outer tree ts close [] p deep refl))

pub inits_are_refused : InitsAreRefused
inits_are_refused limit unit sc outer tokens fault fit ends e =
    let end : Token = token kinds.End (record { file = 0; line = 1 }) in
    refused limit (λ unit us ys. initialiser_read limit unit (sc ∷ outer) ys) (initialiser sc) init_depth tokens fault (failed (λ unit us ys. initialiser_read limit unit (sc ∷ outer) ys) tokens 0 (initialiser_read limit unit (sc ∷ outer) tokens) fault (init_local limit (sc ∷ outer) unit [] tokens (ends_in tokens ends) fit) e)
    (λ ts tree p deep. (end ∷ [], _, inits_are_read limit (ts ++ end ∷ []) sc outer tree ts end [] p deep (omega arith) (inl refl)))

pub declarations_are_refused : DeclarationsAreRefused
declarations_are_refused limit unit sc outer tokens fault fit ends e =
    let end : Token = token kinds.End (record { file = 0; line = 1 }) in
    refused limit (λ unit us ys. declaration_read limit unit (sc ∷ outer) ys) (declaration sc) decl_depth tokens fault (failed (λ unit us ys. declaration_read limit unit (sc ∷ outer) ys) tokens 1 (declaration_read limit unit (sc ∷ outer) tokens) fault (declaration_local limit (sc ∷ outer) unit [] tokens (ends_in tokens ends) fit) e)
    (λ ts tree p deep. (end ∷ [], _, declarations_are_read limit (ts ++ end ∷ []) sc outer tree ts end [] p deep (omega arith)))

pub statements_are_refused : StatementsAreRefused
statements_are_refused limit unit sc outer tokens fault fit ends e =
    let end : Token = token kinds.End (record { file = 0; line = 1 }) in
    refused limit (λ unit us ys. statement_read limit unit (sc ∷ outer) ys) (statement sc) (λ s. max (stmt_depth s) (inner_depth s)) tokens fault (failed (λ unit us ys. statement_read limit unit (sc ∷ outer) ys) tokens 0 (statement_read limit unit (sc ∷ outer) tokens) fault (statement_local limit (sc ∷ outer) unit [] tokens (ends_in tokens ends) fit) e)
    (λ ts tree p deep. (end ∷ [], _, statements_are_read limit (ts ++ end ∷ []) sc outer tree ts end [] p (omega (arith, deep)) (omega (arith, deep)) (omega arith) (λ h. refl)))

pub units_are_refused : UnitsAreRefused
units_are_refused limit tokens fault ends e =
    let f = unit_fails limit tokens fault (ends_in tokens ends) e in
    refuses limit (unit_read limit) units unit_depth tokens fault f.before f.next f.others f.tokens_are f.fault_is (λ more. unit_again limit f.before f.next more fault (f.again (f.before ++ f.next ∷ more) (f.before ++ f.next ∷ more) more (omega arith) (omega arith)))
    (λ ts tree p deep. ([], tree, ap (unit_read limit) (append-nil ts) ∙ units_are_read limit ts tree (record { derives = p; within = deep })))

pub answered : (limit : ℕ) → {X : Type 0} (view : X → t.UnitTree) (r : Result X Refusal) (tokens : List Token) → EndsOnce tokens → Gives view r (unit_read limit tokens) → RefusesUnit limit tokens r
answered limit view (Ok unit) tokens ends h = tt
answered limit view (Err refusals.OutOfMemory) tokens ends h = tt
answered limit view (Err (refusals.At code pos)) tokens ends h = units_are_refused limit tokens (at code pos) ends h
answered limit view (Err (refusals.TooLarge size value)) tokens ends h = units_are_refused limit tokens (large size value) ends h
answered limit view (Err _) tokens ends h = absurd h
