-- Initialisers (C90 6.5.7), by a stack of the lists that are open.
use Rattle.std.specs.Prelude.{ℕ, ◌+◌, ◌-◌, nat_le, List, [], ◌∷◌, length, Bool, true, false, Option, Some, None, Ok, Err, if◌then◌else◌}
use Rattle.c65_base.specs.Answers.{large, ◌>>=◌}
use Rattle.c65_base.specs.declared.refusal.Pos.{Pos}
use Rattle.c65_base.specs.declared.refusal.Size.TheVariants.{Depth}
use Rattle.c65_scan.specs.declared.token.Token.{Token}
use Rattle.c65_tree.specs.Trees.{ExprTree, InitTree, value, list}
use Rattle.c65_parse_names.specs.Scopes.{Blocks}
use Rattle.c65_parse.specs.Reading.{Answer, after_token, expr_read}
use Rattle.c65_parse_frames.specs.declared.sign.Mark.TheVariants as marks
use Rattle.c65_parse_frames.specs.Lists.{OpenList, Listed, listed_whole, listed_open, with_initialiser, empty_list}
use Rattle.c65_decl.specs.Here.{is_here, pos_here, unexpected, expected}

-- an assignment expression in so many lists
abbrev pub element_read : (limit : ℕ) → ℕ → Blocks → List Token → Answer ExprTree
element_read limit around scope ts = expr_read (limit - around) 1 scope ts

abbrev pub brace_passed : Blocks → List Token → Answer Bool
brace_passed scope ts = do
  a ← expected marks.CloseBrace scope ts
  Ok (true, a.0, a.1)

abbrev pub behind_comma : Blocks → List Token → Answer Bool
behind_comma scope ts = if is_here marks.CloseBrace ts then brace_passed scope ts else Ok (false, ts, scope)

-- whether a list ends behind an initialiser; a comma may stand before its brace
abbrev pub list_end : Blocks → List Token → Answer Bool
list_end scope ts = if is_here marks.Comma ts then behind_comma scope (after_token ts) else brace_passed scope ts

-- what stands behind a list's initialiser: the next one, or the list is itself an initialiser that ends
abbrev pub lists_next : (InitTree → Blocks → List Token → Answer Listed) → OpenList → List OpenList → Bool × List Token × Blocks → Answer Listed
lists_next go l ls (true, ts, scope) = go (list l.place l.inits) scope ts
lists_next go l ls (false, ts, scope) = Ok (listed_open (l ∷ ls), ts, scope)

abbrev pub lists_closed : List OpenList → InitTree → Blocks → List Token → Answer Listed
lists_closed [] i scope ts = Ok (listed_whole i, ts, scope)
lists_closed (l ∷ ls) i scope ts = list_end scope ts >>= lists_next (lists_closed ls) (with_initialiser l i) ls

-- a list needs an initialiser in it, which is one level deeper
abbrev pub list_begun : (limit : ℕ) → List OpenList → Blocks → List Token → Answer Listed
list_begun limit ls scope ts = if nat_le (length ls + 2) limit then Ok (listed_open (empty_list (pos_here ts) ∷ ls), after_token ts, scope) else Err (large Depth 257)

abbrev pub initialiser_step : (limit : ℕ) → List OpenList → Blocks → List Token → Answer Listed
initialiser_step limit ls scope ts = if is_here marks.OpenBrace ts then list_begun limit ls scope ts else (element_read limit (length ls) scope ts >>= λ e. lists_closed ls (value (pos_here ts) e.0) e.2 e.1)

abbrev pub initialiser_next : (List OpenList → Blocks → List Token → Answer InitTree) → Listed × List Token × Blocks → Answer InitTree
initialiser_next go (listed_whole i, ts, scope) = Ok (i, ts, scope)
initialiser_next go (listed_open ls, ts, scope) = go ls scope ts

-- one step for each of some tokens
abbrev pub initialiser_run : (limit : ℕ) → List Token → List OpenList → Blocks → List Token → Answer InitTree
initialiser_run limit [] ls scope ts = unexpected ts
initialiser_run limit (u ∷ us) ls scope ts = initialiser_step limit ls scope ts >>= initialiser_next (initialiser_run limit us)

-- a reading has no more steps than the unit has tokens
abbrev pub initialiser_read : (limit : ℕ) → List Token → Blocks → List Token → Answer InitTree
initialiser_read limit unit scope ts = initialiser_run limit unit [] scope ts

abbrev pub optional_init_read : (limit : ℕ) → List Token → Blocks → List Token → Answer (Option InitTree)
optional_init_read limit unit scope ts = if is_here marks.Equal ts then (initialiser_read limit unit scope (after_token ts) >>= λ i. Ok (Some i.0, i.1, i.2)) else Ok (None, ts, scope)
