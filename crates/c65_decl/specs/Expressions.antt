-- Expressions in the places of statements (C90 6.6): the tree, the tokens behind it and the scope there.
use Rattle.std.specs.Prelude.{ℕ, List, Option, Some, None, Ok, if◌then◌else◌}
use Rattle.c65_base.specs.Answers.{◌>>=◌}
use Rattle.c65_scan.specs.declared.token.Token.{Token}
use Rattle.c65_tree.specs.Trees.{ExprTree}
use Rattle.c65_parse_names.specs.Scopes.{Blocks}
use Rattle.c65_parse.specs.Reading.{Answer, after_token, expr_read}
use Rattle.c65_parse_frames.specs.declared.sign.Mark.{Mark}
use Rattle.c65_parse_frames.specs.declared.sign.Mark.TheVariants as marks
use Rattle.c65_decl.specs.Here.{is_here, expected}

-- in parentheses
abbrev pub test_read : (limit : ℕ) → Blocks → List Token → Answer ExprTree
test_read limit scope ts = do
  a ← expected marks.OpenParen scope ts
  e ← expr_read limit 0 a.1 a.0
  b ← expected marks.CloseParen e.2 e.1
  Ok (e.0, b.0, b.1)

-- a constant expression and a colon (C90 6.6.1)
abbrev pub case_read : (limit : ℕ) → Blocks → List Token → Answer ExprTree
case_read limit scope ts = do
  e ← expr_read limit 2 scope ts
  b ← expected marks.Colon e.2 e.1
  Ok (e.0, b.0, b.1)

abbrev pub ended_read : (limit : ℕ) → Mark → Blocks → List Token → Answer (Option ExprTree)
ended_read limit end scope ts = do
  e ← expr_read limit 0 scope ts
  b ← expected end e.2 e.1
  Ok (Some e.0, b.0, b.1)

-- an expression or nothing, and the token that ends it
abbrev pub optional_read : (limit : ℕ) → Mark → Blocks → List Token → Answer (Option ExprTree)
optional_read limit end scope ts = if is_here end ts then Ok (None, after_token ts, scope) else ended_read limit end scope ts
