-- Statements (C90 6.6), by a stack of those that are open: the tree, the tokens behind it and the scope there.
use Rattle.std.specs.Prelude.{ℕ, List, [], ◌∷◌, Option, Some, None, Ok, if◌then◌else◌}
use Rattle.c65_base.specs.Answers.{◌>>=◌}
use Rattle.c65_base.specs.declared.refusal.Pos.{Pos}
use Rattle.c65_scan.specs.declared.token.Token.{Token}
use Rattle.c65_tree.specs.Trees.{ExprTree, StmtTree, no_stmt, if_stmt, do_while}
use Rattle.c65_parse_names.specs.Scopes.{Blocks}
use Rattle.c65_parse.specs.Reading.{Answer, after_token}
use Rattle.c65_parse_frames.specs.declared.sign.Mark.TheVariants as marks
use Rattle.c65_parse_frames.specs.Frames.{Frame, in_else, in_head, in_block, in_then, in_do, Plugged, plugged_whole, plugged_open, Begun, begun_open, begun_decl, begun_whole, begun_close, Reached, reached_end, reached_need, place_in, completed, with_statement, with_declaration, block_of}
use Rattle.c65_decl.specs.Here.{is_here, unexpected, expected}
use Rattle.c65_decl.specs.Expressions.{test_read}
use Rattle.c65_decl.specs.Openings.{begun_at}

-- an `else` belongs to the nearest `if` without one (C90 6.6.4.1)
abbrev pub then_plugged : Pos → ExprTree → StmtTree → Blocks → List Token → Answer Plugged
then_plugged l e s scope ts = if is_here marks.Else ts then Ok (plugged_open (in_head (in_else l e s)), after_token ts, scope) else Ok (plugged_whole (if_stmt l e s no_stmt), ts, scope)

-- C90 6.6.5.2
abbrev pub do_plugged : (limit : ℕ) → Pos → StmtTree → Blocks → List Token → Answer Plugged
do_plugged limit l s scope ts = do
  a ← expected marks.While scope ts
  e ← test_read limit a.1 a.0
  b ← expected marks.Semicolon e.2 e.1
  Ok (plugged_whole (do_while l s e.0), b.0, b.1)

-- a frame with a statement in its place
abbrev pub plugged : (limit : ℕ) → Frame → StmtTree → Blocks → List Token → Answer Plugged
plugged limit (in_head h) s scope ts = Ok (plugged_whole (completed h s), ts, scope)
plugged limit (in_block l ds ss) s scope ts = Ok (plugged_open (with_statement l ds ss s), ts, scope)
plugged limit (in_then l e) s scope ts = then_plugged l e s scope ts
plugged limit (in_do l) s scope ts = do_plugged limit l s scope ts

abbrev pub plugged_next : (StmtTree → Blocks → List Token → Answer Reached) → List Frame → Plugged × List Token × Blocks → Answer Reached
plugged_next go fs (plugged_whole s, ts, scope) = go s scope ts
plugged_next go fs (plugged_open f, ts, scope) = Ok (reached_need (f ∷ fs), ts, scope)

-- a statement in the innermost frame, and what is whole by that in the frame round it
abbrev pub all_plugged : (limit : ℕ) → List Frame → StmtTree → Blocks → List Token → Answer Reached
all_plugged limit [] s scope ts = Ok (reached_end s, ts, scope)
all_plugged limit (f ∷ fs) s scope ts = plugged limit f s scope ts >>= plugged_next (all_plugged limit fs) fs

abbrev pub block_plugged : (limit : ℕ) → List Frame → Option StmtTree → Blocks → List Token → Answer Reached
block_plugged limit fs None scope ts = unexpected ts
block_plugged limit fs (Some s) scope ts = all_plugged limit fs s scope ts

abbrev pub block_closed : (limit : ℕ) → List Frame → Blocks → List Token → Answer Reached
block_closed limit [] scope ts = unexpected ts
block_closed limit (f ∷ fs) scope ts = block_plugged limit fs (block_of f) scope ts

abbrev pub behind_begun : (limit : ℕ) → List Frame → Begun × List Token × Blocks → Answer Reached
behind_begun limit fs (begun_open f, ts, scope) = Ok (reached_need (f ∷ fs), ts, scope)
behind_begun limit fs (begun_decl d, ts, scope) = Ok (reached_need (with_declaration fs d), ts, scope)
behind_begun limit fs (begun_whole s, ts, scope) = all_plugged limit fs s scope ts
behind_begun limit fs (begun_close, ts, scope) = block_closed limit fs scope ts

abbrev pub statement_step : (limit : ℕ) → List Token → List Frame → Blocks → List Token → Answer Reached
statement_step limit unit fs scope ts = begun_at limit unit (place_in fs) scope ts >>= behind_begun limit fs

abbrev pub statement_next : (List Frame → Blocks → List Token → Answer StmtTree) → Reached × List Token × Blocks → Answer StmtTree
statement_next go (reached_end s, ts, scope) = Ok (s, ts, scope)
statement_next go (reached_need fs, ts, scope) = go fs scope ts

abbrev pub statement_run : (limit : ℕ) → List Token → List Token → List Frame → Blocks → List Token → Answer StmtTree
statement_run limit unit [] fs scope ts = unexpected ts
statement_run limit unit (u ∷ us) fs scope ts = statement_step limit unit fs scope ts >>= statement_next (statement_run limit unit us)

abbrev pub statement_read : (limit : ℕ) → List Token → Blocks → List Token → Answer StmtTree
statement_read limit unit scope ts = statement_run limit unit unit [] scope ts
