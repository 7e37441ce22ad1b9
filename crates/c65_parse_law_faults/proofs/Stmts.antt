-- Statements, by a stack of those that are open.
use Rattle.std.proofs.Common.{◌≡◌, ℕ, ◌+◌, ◌≤◌, List, [], ◌∷◌, length, refl, arith}
use Rattle.std.specs.Prelude.{Ok, Option, None, Some}
use Rattle.c65_base.specs.Answers.{◌>>=◌}
use Rattle.c65_base.specs.declared.refusal.Pos.{Pos}
use Rattle.c65_scan.specs.declared.token.Token.{Token}
use Rattle.c65_tree.specs.Trees as t
use Rattle.c65_parse_names.specs.Scopes.{Blocks}
use Rattle.c65_parse.specs.Reading.{after_token}
use Rattle.c65_parse_frames.specs.declared.sign.Mark.TheVariants as marks
use Rattle.c65_parse_frames.specs.Frames.{Frame, in_head, in_block, in_then, in_do, in_else, Plugged, plugged_whole, plugged_open, Begun, begun_open, begun_decl, begun_whole, begun_close, Reached, reached_end, reached_need, place_in, completed, with_statement, with_declaration, block_of}
use Rattle.c65_decl.specs.Here.{expected}
use Rattle.c65_decl.specs.Expressions.{test_read}
use Rattle.c65_decl.specs.Openings.{begun_at}
use Rattle.c65_decl.specs.Statements.{then_plugged, do_plugged, plugged, plugged_next, all_plugged, block_plugged, block_closed, behind_begun, statement_step, statement_next, statement_run, statement_read}
use Rattle.c65_parse_law_sound.proofs.Got.{EndsIn}
use Rattle.c65_parse_law_faults.proofs.Local.{Local, done, fails, alike, if_first}
use Rattle.c65_parse_law_faults.proofs.Seq.{seq, seq_mark, tail, tailed, all_steps}
use Rattle.c65_parse_law_faults.proofs.Inits.{marks_it, past_mark, test_local}
use Rattle.c65_parse_law_faults.proofs.Opens.{at_local}

then_local : (l : Pos) (e : t.ExprTree) (s : t.StmtTree) (scope : Blocks) (unit us ts : List Token) → EndsIn ts → Local 0 0 0 (λ unit us ys. then_plugged l e s scope ys) unit us ts
then_local l e s scope unit us ts ends = if_first 0 0 0 (marks_it marks.Else) (λ unit us ys. Ok (plugged_open (in_head (in_else l e s)), after_token ys, scope)) (λ unit us ys. Ok (plugged_whole (t.if_stmt l e s t.no_stmt), ys, scope)) unit us ts
    (λ h. past_mark 0 0 0 marks.Else (λ unit us ys. Ok (plugged_open (in_head (in_else l e s)), ys, scope)) unit us ts (omega arith) refl h ends (λ rest left short. done 0 0 (plugged_open (in_head (in_else l e s))) scope unit us rest left))
    (λ h. done 0 0 (plugged_whole (t.if_stmt l e s t.no_stmt)) scope unit us ts ends)

do_local : (limit : ℕ) (l : Pos) (s : t.StmtTree) (scope : Blocks) (unit us ts : List Token) → EndsIn ts → Local 0 0 0 (λ unit us ys. do_plugged limit l s scope ys) unit us ts
do_local limit l s scope unit us ts ends = seq_mark 0 0 0 marks.While scope (λ a. test_read limit a.1 a.0 >>= (λ e. expected marks.Semicolon e.2 e.1 >>= (λ b. Ok (plugged_whole (t.do_while l s e.0), b.0, b.1)))) unit us ts refl (omega arith) ends
    (λ xs la. seq 0 0 1 0 0 0 0 (λ unit us ys. test_read limit scope ys) (λ unit us e. expected marks.Semicolon e.2 e.1 >>= (λ b. Ok (plugged_whole (t.do_while l s e.0), b.0, b.1))) unit us xs (omega arith) (omega arith) (omega arith) la (test_local limit scope unit us xs la)
    (λ e inner bs lb short. seq_mark 0 0 0 marks.Semicolon inner (λ b. Ok (plugged_whole (t.do_while l s e), b.0, b.1)) unit us bs refl (omega arith) lb (λ cs lc. done 0 0 (plugged_whole (t.do_while l s e)) inner unit us cs lc)))

plugged_local : (limit : ℕ) (f : Frame) (s : t.StmtTree) (scope : Blocks) (unit us ts : List Token) → EndsIn ts → Local 0 0 0 (λ unit us ys. plugged limit f s scope ys) unit us ts
plugged_local limit (in_head h) s scope unit us ts ends = done 0 0 (plugged_whole (completed h s)) scope unit us ts ends
plugged_local limit (in_block l ds ss) s scope unit us ts ends = done 0 0 (plugged_open (with_statement l ds ss s)) scope unit us ts ends
plugged_local limit (in_then l e) s scope unit us ts ends = then_local l e s scope unit us ts ends
plugged_local limit (in_do l) s scope unit us ts ends = do_local limit l s scope unit us ts ends

next_local : (limit : ℕ) (fs : List Frame) (p : Plugged) (scope : Blocks) (unit us ts : List Token) → EndsIn ts → ((s : t.StmtTree) → Local 0 0 0 (λ unit us ys. all_plugged limit fs s scope ys) unit us ts) → Local 0 0 0 (λ unit us ys. plugged_next (all_plugged limit fs) fs (p, ys, scope)) unit us ts
next_local limit fs (plugged_whole s) scope unit us ts ends f = f s
next_local limit fs (plugged_open g) scope unit us ts ends f = done 0 0 (reached_need (g ∷ fs)) scope unit us ts ends

all_local : (limit : ℕ) (fs : List Frame) (s : t.StmtTree) (scope : Blocks) (unit us ts : List Token) → EndsIn ts → Local 0 0 0 (λ unit us ys. all_plugged limit fs s scope ys) unit us ts
all_local limit [] s scope unit us ts ends = done 0 0 (reached_end s) scope unit us ts ends
all_local limit (f ∷ fs) s scope unit us ts ends = seq 0 0 0 0 0 0 0 (λ unit us ys. plugged limit f s scope ys) (λ unit us. plugged_next (all_plugged limit fs) fs) unit us ts (omega arith) (omega arith) (omega arith) ends (plugged_local limit f s scope unit us ts ends)
    (λ p inner rest left short. next_local limit fs p inner unit us rest left (λ r. all_local limit fs r inner unit us rest left))

block_local : (limit : ℕ) (fs : List Frame) (o : Option t.StmtTree) (scope : Blocks) (unit us ts : List Token) → EndsIn ts → Local 0 0 0 (λ unit us ys. block_plugged limit fs o scope ys) unit us ts
block_local limit fs None scope unit us ts ends = fails 0 0 unit us ts ends
block_local limit fs (Some s) scope unit us ts ends = all_local limit fs s scope unit us ts ends

closed_local : (limit : ℕ) (fs : List Frame) (scope : Blocks) (unit us ts : List Token) → EndsIn ts → Local 0 0 0 (λ unit us ys. block_closed limit fs scope ys) unit us ts
closed_local limit [] scope unit us ts ends = fails 0 0 unit us ts ends
closed_local limit (f ∷ fs) scope unit us ts ends = block_local limit fs (block_of f) scope unit us ts ends

behind_local : (limit : ℕ) (fs : List Frame) (b : Begun) (scope : Blocks) (unit us ts : List Token) → EndsIn ts → Local 0 0 0 (λ unit us ys. behind_begun limit fs (b, ys, scope)) unit us ts
behind_local limit fs (begun_open f) scope unit us ts ends = done 0 0 (reached_need (f ∷ fs)) scope unit us ts ends
behind_local limit fs (begun_decl d) scope unit us ts ends = done 0 0 (reached_need (with_declaration fs d)) scope unit us ts ends
behind_local limit fs (begun_whole s) scope unit us ts ends = all_local limit fs s scope unit us ts ends
behind_local limit fs begun_close scope unit us ts ends = closed_local limit fs scope unit us ts ends

step_local : (limit : ℕ) (fs : List Frame) (scope : Blocks) (unit us ts : List Token) → EndsIn ts → length ts ≤ length unit → Local 0 1 0 (λ unit us ys. statement_step limit unit fs scope ys) unit us ts
step_local limit fs scope unit us ts ends fit = seq 0 0 1 0 1 0 0 (λ unit us ys. begun_at limit unit (place_in fs) scope ys) (λ unit us. behind_begun limit fs) unit us ts (omega arith) (omega arith) (omega arith) ends (at_local limit (place_in fs) scope unit us ts ends fit)
    (λ b inner rest left short. behind_local limit fs b inner unit us rest left)

pub unrolled : (limit : ℕ) (fs : List Frame) (scope : Blocks) (unit us ys : List Token) → 0 + 1 ≤ length us → statement_run limit unit us fs scope ys ≡ (statement_step limit unit fs scope ys >>= statement_next (statement_run limit unit (tail us)))
unrolled limit fs scope unit [] ys h = absurd (omega (arith, h))
unrolled limit fs scope unit (u ∷ us) ys h = refl

more_local : (limit : ℕ) (r : Reached) (scope : Blocks) (unit : List Token) (u : Token) (us ts : List Token) → EndsIn ts → ((fs : List Frame) → Local 0 0 0 (λ unit us ys. statement_run limit unit us fs scope ys) unit us ts) → Local 0 0 1 (λ unit us ys. statement_next (statement_run limit unit (tail us)) (r, ys, scope)) unit (u ∷ us) ts
more_local limit (reached_end s) scope unit u us ts ends f = done 0 1 s scope unit (u ∷ us) ts ends
more_local limit (reached_need fs) scope unit u us ts ends f = tailed 0 0 (λ unit us ys. statement_run limit unit us fs scope ys) unit u us ts (f fs)

run_local : (limit : ℕ) (us : List Token) (fs : List Frame) (scope : Blocks) (unit ts : List Token) → EndsIn ts → length ts ≤ length us → length ts ≤ length unit → Local 0 0 0 (λ unit us ys. statement_run limit unit us fs scope ys) unit us ts
run_local limit us fs scope unit [] ends enough fit = absurd ends
run_local limit [] fs scope unit (t ∷ ts) ends enough fit = absurd (omega (arith, enough))
run_local limit (u ∷ us) fs scope unit (t ∷ ts) ends enough fit = alike 0 0 0 (λ unit us ys. statement_step limit unit fs scope ys >>= statement_next (statement_run limit unit (tail us))) (λ unit us ys. statement_run limit unit us fs scope ys) (t ∷ ts) (statement_run limit unit (u ∷ us) fs scope (t ∷ ts)) (unrolled limit fs scope)
    (seq 0 0 1 0 0 0 1 (λ unit us ys. statement_step limit unit fs scope ys) (λ unit us. statement_next (statement_run limit unit (tail us))) unit (u ∷ us) (t ∷ ts) (omega arith) (omega arith) (omega arith) ends (step_local limit fs scope unit (u ∷ us) (t ∷ ts) ends fit)
    (λ r inner rest left short. more_local limit r inner unit u us rest left (λ gs. run_local limit us gs inner unit rest left (omega (arith, enough, short)) (omega (arith, fit, short)))))

pub statement_local : (limit : ℕ) (scope : Blocks) (unit us ts : List Token) → EndsIn ts → length ts ≤ length unit → Local 0 0 0 (λ unit us ys. statement_read limit unit scope ys) unit us ts
statement_local limit scope unit us ts ends fit = all_steps 0 0 (λ unit us ys. statement_run limit unit us [] scope ys) unit us ts (run_local limit unit [] scope unit ts ends fit fit)
