-- What stands at the front of tokens: a tree, the tokens behind it and the scope there, or a fault.
use Rattle.std.specs.Prelude.{ℕ, zero, suc, List, [], ◌∷◌, drop, Bool, true, false, nat_eq, if◌then◌else◌, Result, Ok, Err}
use Rattle.c65_base.specs.Answers.{Fault, ◌>>=◌}
use Rattle.c65_base.specs.declared.refusal.Pos.{Pos}
use Rattle.c65_scan.specs.declared.token.Token.{Token}
use Rattle.c65_scan.specs.declared.token.TokenKind.TheVariants as kinds
use Rattle.c65_tree.specs.Trees.{ExprTree, SpecifiersTree, DeclaratorTree, TypeTree, type_name}
use Rattle.c65_tree.specs.Depth.{specifiers_depth}
use Rattle.c65_parse.specs.declared.frame.Sort.{Sort}
use Rattle.c65_parse.specs.declared.frame.Sort.TheVariants as sorts
use Rattle.c65_parse.specs.declared.state.Parser.{Parser}
use Rattle.c65_parse_names.specs.Scopes.{Blocks}
use Rattle.c65_parse_names.specs.Blocks.{scope_of}
use Rattle.c65_parse_trees.specs.Listings.{Listed, nothing_listed}
use Rattle.c65_parse.specs.Frames.{operand, specifiers, declarator, Done, done_expr, done_specifiers, done_declarator}
use Rattle.c65_parse.specs.Machine.{Reading, run, fault_at}

-- the tokens from the one at which a parser stands
abbrev pub rest_of : Parser → List Token
rest_of p = drop p.at p.tokens.now

abbrev pub blocks_of : Parser → Blocks
blocks_of p = scope_of p.scope

abbrev pub no_token : Token
no_token = record { kind = kinds.End; pos = record { file = 0; line = 1 } }

-- the token so many places on, or the last
abbrev pub token_at : List Token → ℕ → Token
token_at [] n = no_token
token_at (token ∷ []) n = token
token_at (token ∷ next ∷ tokens) zero = token
token_at (token ∷ next ∷ tokens) (suc n) = token_at (next ∷ tokens) n

-- the tokens behind the first; the last stays
abbrev pub after_token : List Token → List Token
after_token [] = []
after_token (token ∷ []) = token ∷ []
after_token (token ∷ next ∷ tokens) = next ∷ tokens

abbrev pub Answer : Type 0 → Type 0
Answer A = Result (A × List Token × Blocks) Fault

-- what was read as an expression
abbrev pub as_expr : Done × List Token × Blocks → Answer ExprTree
as_expr (done_expr e, rest, scope) = Ok (e, rest, scope)
as_expr (done_specifiers q, rest, scope) = Err (fault_at (token_at rest 0))
as_expr (done_declarator d, rest, scope) = Err (fault_at (token_at rest 0))

abbrev pub as_specifiers : Done × List Token × Blocks → Answer Listed
as_specifiers (done_expr e, rest, scope) = Err (fault_at (token_at rest 0))
as_specifiers (done_specifiers q, rest, scope) = Ok (q, rest, scope)
as_specifiers (done_declarator d, rest, scope) = Err (fault_at (token_at rest 0))

abbrev pub as_declarator : Done × List Token × Blocks → Answer DeclaratorTree
as_declarator (done_expr e, rest, scope) = Err (fault_at (token_at rest 0))
as_declarator (done_specifiers q, rest, scope) = Err (fault_at (token_at rest 0))
as_declarator (done_declarator d, rest, scope) = Ok (d, rest, scope)

-- an expression of at least this level (C90 6.3)
abbrev pub expr_read : (limit : ℕ) → ℕ → Blocks → List Token → Answer ExprTree
expr_read limit least scope tokens = run limit least scope [] operand tokens >>= as_expr

abbrev pub listed_read : (limit : ℕ) → Bool → Blocks → List Token → Answer Listed
listed_read limit takes_storage scope tokens = run limit 0 scope [] (specifiers (nothing_listed takes_storage)) tokens >>= as_specifiers

-- declaration specifiers (C90 6.5)
abbrev pub specifiers_read : (limit : ℕ) → Blocks → List Token → Answer SpecifiersTree
specifiers_read limit scope tokens = listed_read limit true scope tokens >>= (λ q. Ok (q.0.tree, q.1, q.2))

-- a declarator of this sort (C90 6.5.4, 6.5.5)
abbrev pub declarator_read : (limit : ℕ) → Sort → Blocks → List Token → Answer DeclaratorTree
declarator_read limit sort scope tokens = run limit 0 scope [] (declarator sort) tokens >>= as_declarator

-- a type name whose specifiers were read
abbrev pub type_behind : (limit : ℕ) → Listed → Blocks → List Token → Answer TypeTree
type_behind limit q scope tokens = if nat_eq (specifiers_depth q.tree) 0 then Err (fault_at (token_at tokens 0)) else (declarator_read limit sorts.Abstract scope tokens >>= (λ d. Ok (type_name q.tree d.0, d.1, d.2)))

-- a type name (C90 6.5.5)
abbrev pub type_read : (limit : ℕ) → Blocks → List Token → Answer TypeTree
type_read limit scope tokens = listed_read limit false scope tokens >>= (λ q. type_behind limit q.0 q.2 q.1)
