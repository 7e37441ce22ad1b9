-- Statements.
use Rattle.std.proofs.Common.{List, [], ◌∷◌}
use Rattle.std.specs.Prelude.{Option, None, Some, Ok}
use Rattle.c65_base.specs.Answers.{◌>>=◌}
use Rattle.c65_base.specs.declared.refusal.Pos.{Pos}
use Rattle.c65_scan.specs.declared.token.Token.{Token}
use Rattle.c65_tree.specs.Trees.{StmtTree, do_while}
use Rattle.c65_parse_names.specs.Scopes.{Blocks}
use Rattle.c65_parse_frames.specs.declared.sign.Mark.TheVariants as marks
use Rattle.c65_parse_frames.specs.Frames.{Frame, in_head, in_block, in_then, in_do, Plugged, plugged_whole, plugged_open, Begun, begun_open, begun_decl, begun_whole, begun_close, Reached, reached_end, reached_need, place_in, completed, with_statement, with_declaration, block_of}
use Rattle.c65_decl.specs.Here.{unexpected, expected}
use Rattle.c65_decl.specs.Expressions.{test_read}
use Rattle.c65_decl.specs.Openings.{begun_at}
use Rattle.c65_decl.specs.Statements.{then_plugged, do_plugged, plugged, plugged_next, all_plugged, block_plugged, block_closed, behind_begun, statement_step, statement_next, statement_run}
use Rattle.c65_parse_law_depth.specs.Grows.{Growing, GrowsEverywhere}
use Rattle.c65_parse_law_depth.specs.Units.{StatementsGrow}
use Rattle.c65_parse_law_depth.proofs.Growth.{same_grows, then_grows}
use Rattle.c65_parse_law_depth.proofs.Openings.{test_grows, begun_at_grows}

do_grows : (l : Pos) (s : StmtTree) → GrowsEverywhere (λ limit. do_plugged limit l s)
do_grows l s scope ts = then_grows (λ limit. expected marks.While scope ts) (λ limit a. test_read limit a.1 a.0 >>= (λ e. expected marks.Semicolon e.2 e.1 >>= (λ b. Ok (plugged_whole (do_while l s e.0), b.0, b.1)))) (same_grows _) (λ a. then_grows (λ limit. test_read limit a.1 a.0) (λ limit e. expected marks.Semicolon e.2 e.1 >>= (λ b. Ok (plugged_whole (do_while l s e.0), b.0, b.1))) (test_grows a.1 a.0) (λ e. same_grows _))

plugged_grows : (f : Frame) (s : StmtTree) → GrowsEverywhere (λ limit. plugged limit f s)
plugged_grows (in_head h) s scope ts = same_grows (Ok (plugged_whole (completed h s), ts, scope))
plugged_grows (in_block l ds ss) s scope ts = same_grows (Ok (plugged_open (with_statement l ds ss s), ts, scope))
plugged_grows (in_then l e) s scope ts = same_grows (then_plugged l e s scope ts)
plugged_grows (in_do l) s scope ts = do_grows l s scope ts

plugged_next_grows : (fs : List Frame) → ((s : StmtTree) → GrowsEverywhere (λ limit. all_plugged limit fs s)) → (r : Plugged × List Token × Blocks) → Growing (λ limit. plugged_next (all_plugged limit fs) fs r)
plugged_next_grows fs h (plugged_whole s, ts, scope) = h s scope ts
plugged_next_grows fs h (plugged_open f, ts, scope) = same_grows (Ok (reached_need (f ∷ fs), ts, scope))

pub all_grow : (fs : List Frame) (s : StmtTree) → GrowsEverywhere (λ limit. all_plugged limit fs s)
all_grow [] s scope ts = same_grows (Ok (reached_end s, ts, scope))
all_grow (f ∷ fs) s scope ts = then_grows (λ limit. plugged limit f s scope ts) (λ limit. plugged_next (all_plugged limit fs) fs) (plugged_grows f s scope ts) (plugged_next_grows fs (all_grow fs))

block_grows : (fs : List Frame) (o : Option StmtTree) → GrowsEverywhere (λ limit. block_plugged limit fs o)
block_grows fs None scope ts = same_grows (unexpected ts)
block_grows fs (Some s) scope ts = all_grow fs s scope ts

closed_grows : (fs : List Frame) → GrowsEverywhere (λ limit. block_closed limit fs)
closed_grows [] scope ts = same_grows (unexpected ts)
closed_grows (f ∷ fs) scope ts = block_grows fs (block_of f) scope ts

behind_grows : (fs : List Frame) (r : Begun × List Token × Blocks) → Growing (λ limit. behind_begun limit fs r)
behind_grows fs (begun_open f, ts, scope) = same_grows (Ok (reached_need (f ∷ fs), ts, scope))
behind_grows fs (begun_decl d, ts, scope) = same_grows (Ok (reached_need (with_declaration fs d), ts, scope))
behind_grows fs (begun_whole s, ts, scope) = all_grow fs s scope ts
behind_grows fs (begun_close, ts, scope) = closed_grows fs scope ts

pub step_grows : (unit : List Token) (fs : List Frame) → GrowsEverywhere (λ limit. statement_step limit unit fs)
step_grows unit fs scope ts = then_grows (λ limit. begun_at limit unit (place_in fs) scope ts) (λ limit. behind_begun limit fs) (begun_at_grows unit (place_in fs) scope ts) (behind_grows fs)

next_grows : (unit us : List Token) → ((fs : List Frame) → GrowsEverywhere (λ limit. statement_run limit unit us fs)) → (r : Reached × List Token × Blocks) → Growing (λ limit. statement_next (statement_run limit unit us) r)
next_grows unit us h (reached_end s, ts, scope) = same_grows (Ok (s, ts, scope))
next_grows unit us h (reached_need fs, ts, scope) = h fs scope ts

pub run_grows : (unit us : List Token) (fs : List Frame) → GrowsEverywhere (λ limit. statement_run limit unit us fs)
run_grows unit [] fs scope ts = same_grows (unexpected ts)
run_grows unit (u ∷ us) fs scope ts = then_grows (λ limit. statement_step limit unit fs scope ts) (λ limit. statement_next (statement_run limit unit us)) (step_grows unit fs scope ts) (next_grows unit us (run_grows unit us))

pub statements_grow : StatementsGrow
statements_grow unit scope ts = run_grows unit unit [] scope ts
