-- That what the grammar derives is read, and that tokens have one tree at most.
use Rattle.std.proofs.Common.{◌≡◌, ℕ, List, [], ◌∷◌, ◌++◌, refl, sym, ap, ◌∙◌, inl, arith, subst}
use Rattle.std.specs.Prelude.{Ok, Err, Result}
use Rattle.c65_scan.specs.declared.token.Token.{Token}
use Rattle.c65_scan.specs.declared.token.TokenKind.TheVariants as kinds
use Rattle.c65_tree.specs.Trees as t
use Rattle.c65_parse_names.specs.Scopes.{Blocks}
use Rattle.c65_parse.specs.Reading.{Answer}
use Rattle.c65_decl.specs.Initialisers.{initialiser_read}
use Rattle.c65_decl.specs.Decls.{declaration_read}
use Rattle.c65_parse_grammar.specs.Phrases.{token}
use Rattle.c65_parse_grammar.specs.Scopes.{after_init, after_decl, after_stmt}
use Rattle.c65_parse_law_units.specs.Declared.{InitsAreRead, DeclarationsAreRead, InitsAreOne, DeclarationsAreOne}
use Rattle.c65_parse_law_units.proofs.Inits.{InitRun, reads_init}
use Rattle.c65_parse_law_units.proofs.Decls.{declaration_is}
use Rattle.c65_parse_law_units.proofs.Stmts.{StmtRun}
use Rattle.c65_parse_law_units.proofs.Blocks.{reads_stmt}
use Rattle.c65_parse_law_units.proofs.Units.{unit_is}
use Rattle.c65_parse_law_units.specs.Units.{StatementsAreRead, StatementsAreOne, UnitsAreRead, UnitsAreOne, AcceptsUnit}
use Rattle.c65_decl.specs.Statements.{statement_read}
use Rattle.c65_decl.specs.Units.{unit_read}
use Rattle.c65_base.specs.Answers.{Fault, Gives}
use Rattle.c65_base.specs.declared.refusal.Refusal.{Refusal}

-- two readings of the same tokens
tree_or : {A : Type 0} → A → Answer A → A
tree_or other r = elim r as (λ _. _) [ Ok a ↦ a.0 | Err e ↦ other ]

same_tree : {A : Type 0} (a b : A) (r : Answer A) (rest more : List Token) (scope behind : Blocks) → r ≡ Ok (a, rest, scope) → r ≡ Ok (b, more, behind) → a ≡ b
unfolding tree_or
same_tree a b r rest more scope behind e f = ap (tree_or a) (sym e ∙ f)

pub inits_are_read : InitsAreRead
inits_are_read limit unit sc outer tree front next others p deep enough ends =
    let run : InitRun limit unit [] sc outer tree (front ++ next ∷ others) (next ∷ others) = reads_init limit tree unit [] sc outer front (next ∷ others) p (omega (arith, deep)) enough tt ends in
    run.are

pub declarations_are_read : DeclarationsAreRead
declarations_are_read limit unit sc outer tree front next others p deep enough = declaration_is limit unit tree sc outer front (next ∷ others) p deep enough tt

pub inits_are_one : InitsAreOne
inits_are_one limit sc ts tree other p q deep low =
    let next : Token = token kinds.End (record { file = 0; line = 1 }) in
    let unit = ts ++ next ∷ [] in
    same_tree tree other (initialiser_read limit unit (sc ∷ []) (ts ++ next ∷ [])) (next ∷ []) (next ∷ []) (after_init sc tree ∷ []) (after_init sc other ∷ [])
    (inits_are_read limit unit sc [] tree ts next [] p deep (omega arith) (inl refl)) (inits_are_read limit unit sc [] other ts next [] q low (omega arith) (inl refl))

pub declarations_are_one : DeclarationsAreOne
declarations_are_one limit sc ts tree other p q deep low =
    let next : Token = token kinds.End (record { file = 0; line = 1 }) in
    let unit = ts ++ next ∷ [] in
    same_tree tree other (declaration_read limit unit (sc ∷ []) (ts ++ next ∷ [])) (next ∷ []) (next ∷ []) (after_decl sc tree ∷ []) (after_decl sc other ∷ [])
    (declarations_are_read limit unit sc [] tree ts next [] p deep (omega arith)) (declarations_are_read limit unit sc [] other ts next [] q low (omega arith))

pub statements_are_read : StatementsAreRead
statements_are_read limit unit sc outer tree front next others p tall inner enough safe =
    let run : StmtRun limit unit unit [] sc outer tree (front ++ next ∷ others) (next ∷ others) = reads_stmt limit tree unit unit [] sc outer front (next ∷ others) p (omega (arith, tall)) inner enough enough tt safe in
    run.are

pub statements_are_one : StatementsAreOne
statements_are_one limit sc ts tree other p q deep low =
    let next : Token = token kinds.End (record { file = 0; line = 1 }) in
    let unit = ts ++ next ∷ [] in
    same_tree tree other (statement_read limit unit (sc ∷ []) (ts ++ next ∷ [])) (next ∷ []) (next ∷ []) (after_stmt sc tree ∷ []) (after_stmt sc other ∷ [])
    (statements_are_read limit unit sc [] tree ts next [] p (omega (arith, deep)) (omega (arith, deep)) (omega arith) (λ h. refl)) (statements_are_read limit unit sc [] other ts next [] q (omega (arith, low)) (omega (arith, low)) (omega arith) (λ h. refl))

pub units_are_read : UnitsAreRead
units_are_read limit tokens unit h = unit_is limit tokens unit h.derives h.within

unit_or : t.UnitTree → Result t.UnitTree Fault → t.UnitTree
unit_or other (Ok u) = u
unit_or other (Err e) = other

pub units_are_one : UnitsAreOne
unfolding unit_or
units_are_one limit tokens unit other h k = ap (unit_or unit) (sym (units_are_read limit tokens unit h) ∙ units_are_read limit tokens other k)

pub accepted : (limit : ℕ) → {X : Type 0} (view : X → t.UnitTree) (r : Result X Refusal) (tokens : List Token) → Gives view r (unit_read limit tokens) → AcceptsUnit limit tokens view r
accepted limit view r tokens h unit k = subst (Gives view r) (units_are_read limit tokens unit k) h
