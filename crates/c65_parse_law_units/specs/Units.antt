-- What the grammar derives as a statement or a unit is what is read of its tokens, and tokens have one at most.
use Rattle.std.specs.Prelude.{◌≡◌, ℕ, ◌≤◌, max, List, ◌∷◌, ◌++◌, length, false, Result, Ok}
use Rattle.c65_base.specs.Answers.{Gives}
use Rattle.c65_base.specs.declared.refusal.Refusal.{Refusal}
use Rattle.c65_scan.specs.declared.token.Token.{Token}
use Rattle.c65_tree.specs.Trees as t
use Rattle.c65_tree.specs.Depth.{stmt_depth, inner_depth}
use Rattle.c65_parse_names.specs.Scopes.{Blocks}
use Rattle.c65_parse_frames.specs.declared.sign.Mark.TheVariants as marks
use Rattle.c65_parse_frames.specs.Signs.{sign_of, is_mark}
use Rattle.c65_decl.specs.Statements.{statement_read}
use Rattle.c65_decl.specs.Units.{unit_read}
use Rattle.c65_parse_grammar.specs.Scopes.{Scope, after_stmt}
use Rattle.c65_parse_grammar.specs.Statements.{is_closed, statement}
use Rattle.c65_parse_grammar.specs.Readings.{IsUnitWithin}
use Rattle.c65_parse_law_trees.specs.One.{HasOne}

-- C90 6.6: an `else` goes on with a statement that ends in an `if` without one
abbrev pub StatementsAreRead : Type 0
StatementsAreRead = (limit : ℕ) (unit : List Token) (sc : Scope) (outer : Blocks) (tree : t.StmtTree) (front : List Token) (next : Token) (others : List Token)
    → statement sc tree front → stmt_depth tree ≤ limit → inner_depth tree ≤ limit → length (front ++ next ∷ others) ≤ length unit → (is_closed tree ≡ false → is_mark marks.Else (sign_of next.kind) ≡ false)
    → statement_read limit unit (sc ∷ outer) (front ++ next ∷ others) ≡ Ok (tree, next ∷ others, after_stmt sc tree ∷ outer)

abbrev pub StatementsAreOne : Type 0
StatementsAreOne = (limit : ℕ) (sc : Scope) → HasOne limit (statement sc) (λ s. max (stmt_depth s) (inner_depth s))

-- C90 6.7
abbrev pub UnitsAreRead : Type 0
UnitsAreRead = (limit : ℕ) (tokens : List Token) (unit : t.UnitTree) → IsUnitWithin limit tokens unit → unit_read limit tokens ≡ Ok unit

abbrev pub UnitsAreOne : Type 0
UnitsAreOne = (limit : ℕ) (tokens : List Token) (unit other : t.UnitTree) → IsUnitWithin limit tokens unit → IsUnitWithin limit tokens other → unit ≡ other

-- where the tokens are those of a unit within the limit, the answer is that unit, unless memory ran out
abbrev pub AcceptsUnit : (limit : ℕ) → {X : Type 0} → List Token → (X → t.UnitTree) → Result X Refusal → Type 0
AcceptsUnit limit tokens view result = (unit : t.UnitTree) → IsUnitWithin limit tokens unit → Gives view result (Ok unit)
