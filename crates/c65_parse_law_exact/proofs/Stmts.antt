-- Statements, by a stack of those that are open: a fault stands at the first token with which none goes on.
use Rattle.std.proofs.Common.{◌≡◌, ℕ, suc, ◌≤◌, List, [], ◌∷◌, ◌++◌, length, Bool, true, false, refl, sym, ap, ◌∙◌, subst, append_assoc, arith}
use Rattle.std.proofs.lemmas.List.{append-nil}
use Rattle.std.specs.Prelude.{Ok, if◌then◌else◌}
use Rattle.c65_base.specs.Answers.{◌>>=◌}
use Rattle.c65_base.specs.declared.refusal.Pos.{Pos}
use Rattle.c65_scan.specs.declared.token.Keyword.TheVariants as keywords
use Rattle.c65_scan.specs.declared.token.Punct.TheVariants as puncts
use Rattle.c65_scan.specs.declared.token.Token.{Token}
use Rattle.c65_tree.specs.Trees as t
use Rattle.c65_tree.specs.Depth.{expr_depth, decl_depth}
use Rattle.c65_parse_names.specs.Scopes.{Blocks, closed}
use Rattle.c65_parse.specs.Reading.{Answer, after_token}
use Rattle.c65_parse_frames.specs.declared.sign.Mark.TheVariants as marks
use Rattle.c65_parse_frames.specs.Signs.{sign_of, is_mark}
use Rattle.c65_parse_frames.specs.Frames.{in_else, Frame, in_head, in_block, in_then, in_do, Plugged, plugged_whole, plugged_open, Begun, begun_open, begun_decl, begun_whole, begun_close, Reached, reached_end, reached_need, place_in, completed, with_declaration}
use Rattle.c65_decl.specs.Here.{is_here, expected}
use Rattle.c65_decl.specs.Expressions.{test_read}
use Rattle.c65_decl.specs.Openings.{begun_at}
use Rattle.c65_decl.specs.Statements.{do_plugged, plugged_next, all_plugged, block_closed, behind_begun, statement_step, statement_next, statement_run, statement_read}
use Rattle.c65_parse_grammar.specs.Phrases.{Phrase, ◌▸◌, given, word, some_word, some_mark}
use Rattle.c65_parse_grammar.specs.Scopes.{Scope, after, after_decl, after_stmt}
use Rattle.c65_parse_grammar.specs.Statements.{declaration, test, is_closed, statement}
use Rattle.c65_parse_grammar.specs.Readings.{Continues}
use Rattle.c65_parse_law_sound.proofs.Small.{one_deeper}
use Rattle.c65_parse_law_sound.proofs.Phrases.{both, regroup, map_left, map_right, attach, behind_nothing, true_false}
use Rattle.c65_parse_law_sound.proofs.Inits.{at_nothing, nil_behind}
use Rattle.c65_parse_law_sound.proofs.Declarations.{one_more, behind_more}
use Rattle.c65_parse_law_sound.proofs.Got.{EndsIn, first_of_mark, is_mark_of}
use Rattle.c65_parse_law_sound.proofs.Openings.{scope_in, outer_in, stmt_fronts, begun_behind_it}
use Rattle.c65_parse_law_sound.proofs.Statements.{reached_front, reached_behind, head_built, head_behind, head_closed, only_first}
use Rattle.c65_parse_law_sound.proofs.Small.{one_deeper}
use Rattle.c65_parse_law_faults.proofs.Seq.{tail}
use Rattle.c65_parse_law_faults.proofs.Stmts.{unrolled}
use Rattle.c65_parse_law_least.specs.Viable.{FewTypes}
use Rattle.c65_parse_law_least.proofs.Closings.{zero_tree}
use Rattle.c65_parse_law_exact.proofs.Pieces.{IsTaken, whole_depth}
use Rattle.c65_parse_law_exact.proofs.Stops.{Going, Taking, Stop, stop_done, stop_alike, stop_by_first, stop_past, stop_seq, stop_mark, stop_tailed, stop_all_steps, stop_regrouped}
use Rattle.c65_parse_law_exact.proofs.Onward.{somewhere, mark_token, marked, nothing_more, stop_then, extended}
use Rattle.c65_parse_law_exact.proofs.Tests.{zero_test, zero_tested, test_stops}
use Rattle.c65_parse_law_exact.proofs.Placed.{placed_depth, frames_depth, head_room, head_within, semicolon, do_end, closes_on, needed_on, declared_on}
use Rattle.c65_parse_law_exact.proofs.Words.{begun_phrase, begun_depth}
use Rattle.c65_parse_law_exact.proofs.Opens.{Goes}
use Rattle.c65_parse_law_exact.proofs.Names.{place_stops}

abbrev reached_depth : Reached → ℕ
reached_depth (reached_end s) = whole_depth s
reached_depth (reached_need fs) = frames_depth fs

-- behind the tokens that were read
abbrev GoesOn : Scope → List Token → Going
GoesOn sc xs n ys = Continues (statement sc) whole_depth n (xs ++ ys)

abbrev TakesOn : ℕ → Scope → Blocks → List Token → Taking Reached
TakesOn limit sc outer xs r scope ys = IsTaken (reached_front sc) (reached_behind sc outer) reached_depth limit r scope (xs ++ ys)

abbrev Reaches : ℕ → Scope → Blocks → List Token → (List Token → List Token → List Token → Answer Reached) → List Token → List Token → List Token → Type 0
Reaches limit sc outer xs read unit us ts = Stop limit 0 0 0 (GoesOn sc xs) (TakesOn limit sc outer xs) read unit us ts

-- a whole do statement, and nothing else
abbrev whole_front : Scope → Plugged → Phrase
whole_front b (plugged_whole s) = given (is_closed s ≡ true) (statement b s)
whole_front b (plugged_open f) = λ ts. ⊥

abbrev whole_behind : Scope → Blocks → Plugged → Blocks
whole_behind b outer (plugged_whole s) = after_stmt b s ∷ outer
whole_behind b outer (plugged_open f) = outer

abbrev plugged_depth : ℕ → Plugged → ℕ
plugged_depth around (plugged_whole s) = placed_depth around s
plugged_depth around (plugged_open f) = 0

-- the end of a do statement
abbrev while_mark : Token
while_mark = mark_token marks.While

do_ended : (b : Scope) (l : Pos) (s : t.StmtTree) (e : t.ExprTree) (w v : Token) (ds ys : List Token) → (word l keywords.Do ▸ statement b s) ds → some_word keywords.While (w ∷ []) → test (after_stmt b s) e ys → some_mark puncts.Semicolon (v ∷ []) → statement b (t.do_while l s e) (ds ++ (w ∷ (ys ++ v ∷ [])))
do_ended b l s e w v ds ys p m q h = attach ds (w ∷ (ys ++ v ∷ [])) p (both (w ∷ []) (ys ++ v ∷ []) m (both ys (v ∷ []) q h))

do_stops : (limit around : ℕ) (b : Scope) (outer : Blocks) (l : Pos) (s : t.StmtTree) (unit us ts ds : List Token) → (word l keywords.Do ▸ statement b s) ds → placed_depth (suc around) s ≤ limit → 1 ≤ limit → FewTypes (after_stmt b s ∷ outer) → EndsIn ts
    → Stop limit 0 0 0 (λ n ys. Continues (statement b) (placed_depth around) n (ds ++ ys)) (λ r scope ys. IsTaken (whole_front b) (whole_behind b outer) (plugged_depth around) limit r scope (ds ++ ys)) (λ unit us ys. do_plugged limit l s (after_stmt b s ∷ outer) ys) unit us ts
do_stops limit around b outer l s unit us ts ds p low one few ends = stop_mark limit 0 0 0 (λ n ys. Continues (statement b) (placed_depth around) n (ds ++ ys)) (λ r scope ys. IsTaken (whole_front b) (whole_behind b outer) (plugged_depth around) limit r scope (ds ++ ys)) marks.While (after_stmt b s ∷ outer) (λ a. test_read limit a.1 a.0 >>= (λ e. expected marks.Semicolon e.2 e.1 >>= (λ c. Ok (plugged_whole (t.do_while l s e.0), c.0, c.1)))) unit us ts refl (omega arith) ends
    (nothing_more (Continues (statement b) (placed_depth around)) limit ds (record { tree = t.do_while l s (zero_tree somewhere); more = do_end; derives = do_ended b l s (zero_tree somewhere) while_mark semicolon ds zero_test p (somewhere, refl) (zero_tested (after_stmt b s)) (somewhere, refl); within = omega (arith, low, one) }))
    (λ w xs m la. stop_then limit 1 0 0 0 0 (Continues (test (after_stmt b s)) expr_depth) (λ n ys. Continues (statement b) (placed_depth around) n (ds ++ (w ∷ ys))) (test (after_stmt b s)) (λ e. after (after_stmt b s) e ∷ outer) expr_depth (λ r scope ys. IsTaken (whole_front b) (whole_behind b outer) (plugged_depth around) limit r scope (ds ++ (w ∷ ys))) (λ unit us ys. test_read limit (after_stmt b s ∷ outer) ys) (λ unit us e. expected marks.Semicolon e.2 e.1 >>= (λ c. Ok (plugged_whole (t.do_while l s e.0), c.0, c.1))) unit us xs (omega arith) (omega arith) la
    (test_stops limit (after_stmt b s) outer unit us xs one few la)
    (λ n ys up k. subst (Continues (statement b) (placed_depth around) n) (append_assoc ds (w ∷ []) ys) (extended (test (after_stmt b s)) (statement b) expr_depth (placed_depth around) n (ds ++ w ∷ []) (semicolon ∷ []) ys (λ e. t.do_while l s e)
    (λ e zs q. subst (statement b (t.do_while l s e)) (sym (append_assoc ds (w ∷ []) (zs ++ semicolon ∷ []))) (do_ended b l s e w semicolon ds zs p (marked marks.While w m) q (somewhere, refl)))
    (λ e small. omega (arith, low, up, small)) k))
    (λ e ys rest q small more are left short. stop_mark limit 0 0 0 (λ n zs. Continues (statement b) (placed_depth around) n (ds ++ (w ∷ (ys ++ zs)))) (λ r scope zs. IsTaken (whole_front b) (whole_behind b outer) (plugged_depth around) limit r scope (ds ++ (w ∷ (ys ++ zs)))) marks.Semicolon (after (after_stmt b s) e ∷ outer) (λ c. Ok (plugged_whole (t.do_while l s e), c.0, c.1)) unit us rest refl (omega arith) left
    (subst (λ zs. Continues (statement b) (placed_depth around) limit (ds ++ (w ∷ zs))) (sym (append-nil ys)) (record { tree = t.do_while l s e; more = semicolon ∷ []; derives = subst (statement b (t.do_while l s e)) (sym (append_assoc ds (w ∷ ys) (semicolon ∷ []))) (do_ended b l s e w semicolon ds ys p (marked marks.While w m) q (somewhere, refl)); within = omega (arith, low, small) }))
    (λ v last h none. stop_done limit 0 0 (λ n zs. Continues (statement b) (placed_depth around) n (ds ++ (w ∷ (ys ++ (v ∷ zs))))) (λ r scope zs. IsTaken (whole_front b) (whole_behind b outer) (plugged_depth around) limit r scope (ds ++ (w ∷ (ys ++ (v ∷ zs))))) (plugged_whole (t.do_while l s e)) (after (after_stmt b s) e ∷ outer) unit us last none (record { derives = (refl, do_ended b l s e w v ds ys p (marked marks.While w m) q (marked marks.Semicolon v h)); scope_is = refl; within = omega (arith, low, small); few = more }))))

-- behind a statement that an if holds
then_stops : (limit : ℕ) (sc : Scope) (outer : Blocks) (fs : List Frame) (l : Pos) (e : t.ExprTree) (s : t.StmtTree) (unit us ts xs : List Token) (b : Bool) → is_here marks.Else ts ≡ b → (stmt_fronts sc (in_then l e ∷ fs) ▸ statement (scope_in sc (in_then l e ∷ fs)) s) xs → (is_here marks.Else ts ≡ true → is_closed s ≡ true) → frames_depth (in_then l e ∷ fs) ≤ limit → placed_depth (suc (length fs)) s ≤ limit → FewTypes (after_stmt (scope_in sc (in_then l e ∷ fs)) s ∷ outer_in sc outer fs) → EndsIn ts
    → ((r : t.StmtTree) → (stmt_fronts sc fs ▸ statement (scope_in sc fs) r) xs → (is_here marks.Else ts ≡ true → is_closed r ≡ true) → placed_depth (length fs) r ≤ limit → after_stmt (scope_in sc (in_then l e ∷ fs)) s ≡ after_stmt (scope_in sc fs) r → Reaches limit sc outer xs (λ unit us ys. all_plugged limit fs r (after_stmt (scope_in sc (in_then l e ∷ fs)) s ∷ outer_in sc outer fs) ys) unit us ts)
    → Reaches limit sc outer xs (λ unit us ys. (if b then Ok (plugged_open (in_head (in_else l e s)), after_token ys, after_stmt (scope_in sc (in_then l e ∷ fs)) s ∷ outer_in sc outer fs) else Ok (plugged_whole (t.if_stmt l e s t.no_stmt), ys, after_stmt (scope_in sc (in_then l e ∷ fs)) s ∷ outer_in sc outer fs)) >>= plugged_next (all_plugged limit fs) fs) unit us ts
then_stops limit sc outer fs l e s unit us ts xs true here p closes fit low few ends k =
    let first = first_of_mark marks.Else ts refl here ends in
    stop_past limit 0 0 0 0 0 0 (GoesOn sc xs) (TakesOn limit sc outer xs) (λ unit us ys. Ok (reached_need (in_head (in_else l e s) ∷ fs), ys, after_stmt (scope_in sc (in_then l e ∷ fs)) s ∷ outer_in sc outer fs)) unit us ts (omega arith) (omega arith) (omega arith) first
    (stop_done limit 0 0 (λ n ys. GoesOn sc xs n (first.tok ∷ ys)) (λ r scope ys. TakesOn limit sc outer xs r scope (first.tok ∷ ys)) (reached_need (in_head (in_else l e s) ∷ fs)) (after_stmt (scope_in sc (in_then l e ∷ fs)) s ∷ outer_in sc outer fs) unit us first.rest first.ends (record {
      derives = map_right (λ ys q. map_left (λ zs r. map_right (λ vs u. (closes here, u)) r) q) (attach xs (first.tok ∷ []) (regroup p) (is_mark_of marks.Else ts first here));
      scope_is = refl;
      within = omega (arith, fit, low);
      few = few;
    }))
then_stops limit sc outer fs l e s unit us ts xs false here p closes fit low few ends k = k (t.if_stmt l e s t.no_stmt) (map_right (λ ys q. map_right (λ zs r. map_right (λ vs u. behind_nothing (tt, u)) r) (regroup q)) (regroup p)) (λ f. absurd (true_false (sym f ∙ here))) (omega (arith, fit, low)) refl

-- behind a do statement
do_next : (limit : ℕ) (sc : Scope) (outer : Blocks) (fs : List Frame) (ws ds xs ys : List Token) (r : Plugged) (scope : Blocks) (unit us rest : List Token) → stmt_fronts sc fs ws → xs ≡ ws ++ ds → IsTaken (whole_front (scope_in sc fs)) (whole_behind (scope_in sc fs) (outer_in sc outer fs)) (plugged_depth (length fs)) limit r scope (ds ++ ys) → EndsIn rest
    → ((s : t.StmtTree) (ts zs : List Token) → (stmt_fronts sc fs ▸ statement (scope_in sc fs) s) zs → (is_here marks.Else ts ≡ true → is_closed s ≡ true) → placed_depth (length fs) s ≤ limit → FewTypes (after_stmt (scope_in sc fs) s ∷ outer_in sc outer fs) → EndsIn ts → Reaches limit sc outer zs (λ unit us vs. all_plugged limit fs s (after_stmt (scope_in sc fs) s ∷ outer_in sc outer fs) vs) unit us ts)
    → Stop limit 0 0 0 (λ n zs. GoesOn sc xs n (ys ++ zs)) (λ r scope zs. TakesOn limit sc outer xs r scope (ys ++ zs)) (λ unit us zs. plugged_next (all_plugged limit fs) fs (r, zs, scope)) unit us rest
do_next limit sc outer fs ws ds xs ys (plugged_whole s) scope unit us rest p are took left k =
    subst (λ v. Stop limit 0 0 0 (λ n zs. GoesOn sc xs n (ys ++ zs)) (λ r scope zs. TakesOn limit sc outer xs r scope (ys ++ zs)) (λ unit us zs. all_plugged limit fs s v zs) unit us rest) (sym took.scope_is)
    (stop_regrouped limit 0 0 0 (Continues (statement sc) whole_depth) (IsTaken (reached_front sc) (reached_behind sc outer) reached_depth limit) (λ unit us zs. all_plugged limit fs s (after_stmt (scope_in sc fs) s ∷ outer_in sc outer fs) zs) unit us rest xs ys
    (k s rest (xs ++ ys) (subst (stmt_fronts sc fs ▸ statement (scope_in sc fs) s) (sym (append_assoc ws ds ys) ∙ ap (λ vs. vs ++ ys) (sym are)) (both ws (ds ++ ys) p took.derives.1)) (λ e. took.derives.0) took.within (subst FewTypes took.scope_is took.few) left))
do_next limit sc outer fs ws ds xs ys (plugged_open f) scope unit us rest p are took left k = absurd took.derives

-- a whole statement in the innermost frame
all_stops : (limit : ℕ) (sc : Scope) (outer : Blocks) (fs : List Frame) (s : t.StmtTree) (unit us ts xs : List Token) → (stmt_fronts sc fs ▸ statement (scope_in sc fs) s) xs → (is_here marks.Else ts ≡ true → is_closed s ≡ true) → frames_depth fs ≤ limit → placed_depth (length fs) s ≤ limit → FewTypes (after_stmt (scope_in sc fs) s ∷ outer_in sc outer fs) → EndsIn ts
    → Reaches limit sc outer xs (λ unit us ys. all_plugged limit fs s (after_stmt (scope_in sc fs) s ∷ outer_in sc outer fs) ys) unit us ts
all_stops limit sc outer [] s unit us ts xs p closes fit low few ends = stop_done limit 0 0 (GoesOn sc xs) (TakesOn limit sc outer xs) (reached_end s) (after_stmt sc s ∷ outer) unit us ts ends (record { derives = nil_behind (statement sc s) xs (at_nothing (statement sc s) xs p); scope_is = refl; within = omega (arith, low); few = few })
all_stops limit sc outer (in_head h ∷ fs) s unit us ts xs p closes fit low few ends = subst (λ b. Reaches limit sc outer xs (λ unit us ys. all_plugged limit fs (completed h s) (b ∷ outer_in sc outer fs) ys) unit us ts) (sym (head_behind (scope_in sc fs) h s))
    (all_stops limit sc outer fs (completed h s) unit us ts xs (map_right (λ ys q. head_built (scope_in sc fs) h s ys q) (regroup p)) (λ e. sym (head_closed h s) ∙ closes e) (omega (arith, fit)) (head_within limit (length fs) h s (omega (arith, fit)) low) (subst (λ b. FewTypes (b ∷ outer_in sc outer fs)) (head_behind (scope_in sc fs) h s) few) ends)
all_stops limit sc outer (in_block l ds ss ∷ fs) s unit us ts xs p closes fit low few ends = stop_done limit 0 0 (GoesOn sc xs) (TakesOn limit sc outer xs) (reached_need (in_block l ds (t.and_stmt ss s) ∷ fs)) (after_stmt (scope_in sc (in_block l ds ss ∷ fs)) s ∷ outer_in sc outer (in_block l ds ss ∷ fs)) unit us ts ends (record {
  derives = nil_behind (stmt_fronts sc (in_block l ds (t.and_stmt ss s) ∷ fs)) xs (map_right (λ ys q. regroup q) (regroup p));
  scope_is = refl;
  within = omega (arith, fit, low);
  few = few;
})
all_stops limit sc outer (in_then l e ∷ fs) s unit us ts xs p closes fit low few ends = stop_by_first limit 0 0 0 (GoesOn sc xs) (TakesOn limit sc outer xs) (λ x unit us ys. (if is_mark marks.Else (sign_of x.kind) then Ok (plugged_open (in_head (in_else l e s)), after_token ys, after_stmt (scope_in sc (in_then l e ∷ fs)) s ∷ outer_in sc outer fs) else Ok (plugged_whole (t.if_stmt l e s t.no_stmt), ys, after_stmt (scope_in sc (in_then l e ∷ fs)) s ∷ outer_in sc outer fs)) >>= plugged_next (all_plugged limit fs) fs) unit us ts
    (then_stops limit sc outer fs l e s unit us ts xs (is_here marks.Else ts) refl p closes fit low few ends
    (λ r q c small same. subst (λ b. Reaches limit sc outer xs (λ unit us ys. all_plugged limit fs r (b ∷ outer_in sc outer fs) ys) unit us ts) (sym same) (all_stops limit sc outer fs r unit us ts xs q c (omega (arith, fit)) small (subst (λ b. FewTypes (b ∷ outer_in sc outer fs)) same few) ends)))
all_stops limit sc outer (in_do l ∷ fs) s unit us ts xs p closes fit low few ends =
    let q : (stmt_fronts sc fs ▸ (word l keywords.Do ▸ statement (scope_in sc fs) s)) xs = regroup p in
    stop_seq limit 0 0 0 0 0 0 0 (λ n ys. Continues (statement (scope_in sc fs)) (placed_depth (length fs)) n (q.1 ++ ys)) (GoesOn sc xs) (λ r scope ys. IsTaken (whole_front (scope_in sc fs)) (whole_behind (scope_in sc fs) (outer_in sc outer fs)) (plugged_depth (length fs)) limit r scope (q.1 ++ ys)) (TakesOn limit sc outer xs) (λ unit us ys. do_plugged limit l s (after_stmt (scope_in sc fs) s ∷ outer_in sc outer fs) ys) (λ unit us. plugged_next (all_plugged limit fs) fs) unit us ts (omega arith) (omega arith) (omega arith) ends
    (do_stops limit (length fs) (scope_in sc fs) (outer_in sc outer fs) l s unit us ts q.1 q.4 low (omega (arith, fit)) few ends)
    (λ n ys up k. subst (Continues (statement sc) whole_depth n) (sym (append_assoc q.0 q.1 ys) ∙ ap (λ vs. vs ++ ys) (sym q.2)) (closes_on n sc fs q.0 (q.1 ++ ys) q.3 (omega (arith, fit, up)) k))
    (λ r scope ys rest took are left short. do_next limit sc outer fs q.0 q.1 xs ys r scope unit us rest q.3 q.2 took left (λ v vs zs d c small more n. all_stops limit sc outer fs v unit us vs zs d c (omega (arith, fit)) small more n))

-- one more declaration in the block
declared_stops : (limit : ℕ) (sc : Scope) (outer : Blocks) (fs : List Frame) (d : t.DeclTree) (unit us ts xs : List Token) → (place_in fs).takes_declarations ≡ true → (stmt_fronts sc fs ▸ declaration (scope_in sc fs) d) xs → frames_depth fs ≤ limit → decl_depth d ≤ limit → FewTypes (after_decl (scope_in sc fs) d ∷ outer_in sc outer fs) → EndsIn ts
    → Reaches limit sc outer xs (λ unit us ys. Ok (reached_need (with_declaration fs d), ys, after_decl (scope_in sc fs) d ∷ outer_in sc outer fs)) unit us ts
declared_stops limit sc outer [] d unit us ts xs e p fit low few ends = absurd cc
declared_stops limit sc outer (in_head h ∷ fs) d unit us ts xs e p fit low few ends = absurd cc
declared_stops limit sc outer (in_block l ds t.no_stmts ∷ fs) d unit us ts xs e p fit low few ends = stop_done limit 0 0 (GoesOn sc xs) (TakesOn limit sc outer xs) (reached_need (in_block l (ds ++ d ∷ []) t.no_stmts ∷ fs)) (after_decl (scope_in sc (in_block l ds t.no_stmts ∷ fs)) d ∷ outer_in sc outer (in_block l ds t.no_stmts ∷ fs)) unit us ts ends (record {
  derives = nil_behind (stmt_fronts sc (in_block l (ds ++ d ∷ []) t.no_stmts ∷ fs)) xs (map_right (λ ys q. behind_nothing (map_right (λ zs r. one_more (scope_in sc fs) ds d zs r) (regroup (map_left (λ zs r. only_first r) q)))) (regroup p));
  scope_is = ap (λ b. b ∷ scope_in sc fs ∷ outer_in sc outer fs) (behind_more (scope_in sc fs) ds d);
  within = let deep = one_deeper limit decl_depth ds d (omega (arith, fit)) low in omega (arith, fit, deep);
  few = few;
})
declared_stops limit sc outer (in_block l ds (t.and_stmt ss s) ∷ fs) d unit us ts xs e p fit low few ends = absurd cc
declared_stops limit sc outer (in_then l c ∷ fs) d unit us ts xs e p fit low few ends = absurd cc
declared_stops limit sc outer (in_do l ∷ fs) d unit us ts xs e p fit low few ends = absurd cc

-- a block ends
close_stops : (limit : ℕ) (sc : Scope) (outer : Blocks) (fs : List Frame) (unit us ts xs : List Token) → (place_in fs).in_block ≡ true → (stmt_fronts sc fs ▸ some_mark puncts.CloseBrace) xs → frames_depth fs ≤ limit → FewTypes (closed (scope_in sc fs ∷ outer_in sc outer fs)) → EndsIn ts
    → Reaches limit sc outer xs (λ unit us ys. block_closed limit fs (closed (scope_in sc fs ∷ outer_in sc outer fs)) ys) unit us ts
close_stops limit sc outer [] unit us ts xs e p fit few ends = absurd cc
close_stops limit sc outer (in_head h ∷ fs) unit us ts xs e p fit few ends = absurd cc
close_stops limit sc outer (in_block l ds ss ∷ fs) unit us ts xs e p fit few ends = all_stops limit sc outer fs (t.block l ds ss) unit us ts xs (map_right (λ ys q. regroup (regroup q)) (regroup p)) (λ e. refl) (omega (arith, fit)) (omega (arith, fit)) few ends
close_stops limit sc outer (in_then l c ∷ fs) unit us ts xs e p fit few ends = absurd cc
close_stops limit sc outer (in_do l ∷ fs) unit us ts xs e p fit few ends = absurd cc

around_is : (fs : List Frame) → (place_in fs).around ≡ length fs
around_is [] = refl
around_is (f ∷ fs) = refl

-- behind what was begun
behind_stops : (limit : ℕ) (sc : Scope) (outer : Blocks) (fs : List Frame) (r : Begun) (unit us ts xs ys : List Token) → stmt_fronts sc fs xs → begun_phrase (scope_in sc fs) (place_in fs) r ys → frames_depth fs ≤ limit → begun_depth (length fs) r ≤ limit → FewTypes (begun_behind_it (scope_in sc fs) (outer_in sc outer fs) r) → EndsIn ts
    → Reaches limit sc outer (xs ++ ys) (λ unit us zs. behind_begun limit fs (r, zs, begun_behind_it (scope_in sc fs) (outer_in sc outer fs) r)) unit us ts
behind_stops limit sc outer fs (begun_open f) unit us ts xs ys p q fit low few ends = stop_done limit 0 0 (GoesOn sc (xs ++ ys)) (TakesOn limit sc outer (xs ++ ys)) (reached_need (f ∷ fs)) (begun_behind_it (scope_in sc fs) (outer_in sc outer fs) (begun_open f)) unit us ts ends (record { derives = nil_behind (stmt_fronts sc (f ∷ fs)) (xs ++ ys) (both xs ys p q); scope_is = refl; within = omega (arith, fit, low); few = few })
behind_stops limit sc outer fs (begun_decl d) unit us ts xs ys p q fit low few ends = declared_stops limit sc outer fs d unit us ts (xs ++ ys) q.0 (both xs ys p q.1) fit low few ends
behind_stops limit sc outer fs (begun_whole s) unit us ts xs ys p q fit low few ends = all_stops limit sc outer fs s unit us ts (xs ++ ys) (both xs ys p q.1) (λ e. q.0) fit low few ends
behind_stops limit sc outer fs begun_close unit us ts xs ys p q fit low few ends = close_stops limit sc outer fs unit us ts (xs ++ ys) q.0 (both xs ys p q.1) fit few ends

-- at the place in the frames
goes_in : (limit : ℕ) (sc : Scope) (fs : List Frame) (xs : List Token) → stmt_fronts sc fs xs → frames_depth fs ≤ limit → Goes limit (scope_in sc fs) (place_in fs) (GoesOn sc xs)
goes_in limit sc fs xs p fit = record {
  here = nothing_more (Continues (statement sc) whole_depth) limit xs (needed_on limit sc fs xs p fit);
  placed = λ n ys up k. closes_on n sc fs xs ys p (omega (arith, fit, up)) (subst (λ around. Continues (statement (scope_in sc fs)) (placed_depth around) n ys) (around_is fs) k);
  declared = λ e n ys up k. declared_on n sc fs xs ys e p (omega (arith, fit, up)) k;
}

low_frames : (limit : ℕ) (fs : List Frame) → frames_depth fs ≤ limit → length fs ≤ limit
low_frames limit [] fit = omega arith
low_frames limit (in_head h ∷ fs) fit = let room = head_room (length fs) h in omega (arith, fit, room)
low_frames limit (in_block l ds ss ∷ fs) fit = omega (arith, fit)
low_frames limit (in_then l e ∷ fs) fit = omega (arith, fit)
low_frames limit (in_do l ∷ fs) fit = omega (arith, fit)

low_one : (limit : ℕ) (fs : List Frame) → frames_depth fs ≤ limit → 1 ≤ limit
low_one limit [] fit = fit
low_one limit (f ∷ fs) fit = low_one limit fs (omega (arith, fit))

step_stops : (limit : ℕ) (sc : Scope) (outer : Blocks) (fs : List Frame) (unit us ts xs : List Token) → stmt_fronts sc fs xs → frames_depth fs ≤ limit → FewTypes (scope_in sc fs ∷ outer_in sc outer fs) → EndsIn ts → length ts ≤ length unit
    → Stop limit 0 1 0 (GoesOn sc xs) (TakesOn limit sc outer xs) (λ unit us ys. statement_step limit unit fs (scope_in sc fs ∷ outer_in sc outer fs) ys) unit us ts
step_stops limit sc outer fs unit us ts xs p fit few ends long = stop_then limit 1 0 1 0 0 (GoesOn sc xs) (GoesOn sc xs) (begun_phrase (scope_in sc fs) (place_in fs)) (begun_behind_it (scope_in sc fs) (outer_in sc outer fs)) (begun_depth (place_in fs).around) (TakesOn limit sc outer xs) (λ unit us ys. begun_at limit unit (place_in fs) (scope_in sc fs ∷ outer_in sc outer fs) ys) (λ unit us. behind_begun limit fs) unit us ts (omega arith) (omega arith) ends
    (place_stops limit (scope_in sc fs) (outer_in sc outer fs) (place_in fs) (GoesOn sc xs) unit us ts (goes_in limit sc fs xs p fit) (low_one limit fs fit) (subst (λ n. n ≤ limit) (sym (around_is fs)) (low_frames limit fs fit)) few ends long)
    (λ n ys up k. k)
    (λ r ys rest q low more are left short. stop_regrouped limit 0 0 0 (Continues (statement sc) whole_depth) (IsTaken (reached_front sc) (reached_behind sc outer) reached_depth limit) (λ unit us zs. behind_begun limit fs (r, zs, begun_behind_it (scope_in sc fs) (outer_in sc outer fs) r)) unit us rest xs ys
    (behind_stops limit sc outer fs r unit us rest xs ys p q fit (subst (λ n. begun_depth n r ≤ limit) (around_is fs) low) more left))

-- the whole run
abbrev TakesRun : ℕ → Scope → Blocks → List Token → Taking t.StmtTree
TakesRun limit sc outer xs s scope ys = IsTaken (statement sc) (λ s. after_stmt sc s ∷ outer) whole_depth limit s scope (xs ++ ys)

more_stops : (limit : ℕ) (sc : Scope) (outer : Blocks) (r : Reached) (scope : Blocks) (unit : List Token) (u : Token) (us ts xs ys : List Token) → TakesOn limit sc outer xs r scope ys → EndsIn ts
    → ((fs : List Frame) (zs : List Token) → stmt_fronts sc fs zs → frames_depth fs ≤ limit → FewTypes (scope_in sc fs ∷ outer_in sc outer fs) → Stop limit 0 0 0 (GoesOn sc zs) (TakesRun limit sc outer zs) (λ unit us vs. statement_run limit unit us fs (scope_in sc fs ∷ outer_in sc outer fs) vs) unit us ts)
    → Stop limit 0 0 1 (λ n zs. GoesOn sc xs n (ys ++ zs)) (λ s scope zs. TakesRun limit sc outer xs s scope (ys ++ zs)) (λ unit us zs. statement_next (statement_run limit unit (tail us)) (r, zs, scope)) unit (u ∷ us) ts
more_stops limit sc outer (reached_end s) scope unit u us ts xs ys took ends k = stop_done limit 0 1 (λ n zs. GoesOn sc xs n (ys ++ zs)) (λ s scope zs. TakesRun limit sc outer xs s scope (ys ++ zs)) s scope unit (u ∷ us) ts ends
    (subst (λ zs. IsTaken (statement sc) (λ s. after_stmt sc s ∷ outer) whole_depth limit s scope (xs ++ zs)) (sym (append-nil ys)) (record { derives = took.derives; scope_is = took.scope_is; within = took.within; few = took.few }))
more_stops limit sc outer (reached_need fs) scope unit u us ts xs ys took ends k = stop_tailed limit 0 0 (λ n zs. GoesOn sc xs n (ys ++ zs)) (λ s scope zs. TakesRun limit sc outer xs s scope (ys ++ zs)) (λ unit us zs. statement_run limit unit us fs scope zs) unit u us ts
    (subst (λ v. Stop limit 0 0 0 (λ n zs. GoesOn sc xs n (ys ++ zs)) (λ s scope zs. TakesRun limit sc outer xs s scope (ys ++ zs)) (λ unit us zs. statement_run limit unit us fs v zs) unit us ts) (sym took.scope_is)
    (stop_regrouped limit 0 0 0 (Continues (statement sc) whole_depth) (IsTaken (statement sc) (λ s. after_stmt sc s ∷ outer) whole_depth limit) (λ unit us zs. statement_run limit unit us fs (scope_in sc fs ∷ outer_in sc outer fs) zs) unit us ts xs ys
    (k fs (xs ++ ys) took.derives took.within (subst FewTypes took.scope_is took.few))))

run_stops : (limit : ℕ) (sc : Scope) (outer : Blocks) (us : List Token) (fs : List Frame) (unit ts xs : List Token) → stmt_fronts sc fs xs → frames_depth fs ≤ limit → FewTypes (scope_in sc fs ∷ outer_in sc outer fs) → EndsIn ts → length ts ≤ length us → length ts ≤ length unit
    → Stop limit 0 0 0 (GoesOn sc xs) (TakesRun limit sc outer xs) (λ unit us ys. statement_run limit unit us fs (scope_in sc fs ∷ outer_in sc outer fs) ys) unit us ts
run_stops limit sc outer us fs unit [] xs p fit few ends enough long = absurd ends
run_stops limit sc outer [] fs unit (t ∷ ts) xs p fit few ends enough long = absurd (omega (arith, enough))
run_stops limit sc outer (u ∷ us) fs unit (t ∷ ts) xs p fit few ends enough long = stop_alike limit 0 0 0 (GoesOn sc xs) (TakesRun limit sc outer xs) (λ unit us ys. statement_step limit unit fs (scope_in sc fs ∷ outer_in sc outer fs) ys >>= statement_next (statement_run limit unit (tail us))) (λ unit us ys. statement_run limit unit us fs (scope_in sc fs ∷ outer_in sc outer fs) ys) (t ∷ ts) (statement_run limit unit (u ∷ us) fs (scope_in sc fs ∷ outer_in sc outer fs) (t ∷ ts)) (unrolled limit fs (scope_in sc fs ∷ outer_in sc outer fs))
    (stop_seq limit 0 0 1 0 0 0 1 (GoesOn sc xs) (GoesOn sc xs) (TakesOn limit sc outer xs) (TakesRun limit sc outer xs) (λ unit us ys. statement_step limit unit fs (scope_in sc fs ∷ outer_in sc outer fs) ys) (λ unit us. statement_next (statement_run limit unit (tail us))) unit (u ∷ us) (t ∷ ts) (omega arith) (omega arith) (omega arith) ends
    (step_stops limit sc outer fs unit (u ∷ us) (t ∷ ts) xs p fit few ends long)
    (λ n ys up k. k)
    (λ r scope ys rest took are left short. more_stops limit sc outer r scope unit u us rest xs ys took left (λ gs zs q low more. run_stops limit sc outer us gs unit rest zs q low more left (omega (arith, enough, short)) (omega (arith, long, short)))))

-- a statement
pub statement_stops : (limit : ℕ) (sc : Scope) (outer : Blocks) (unit us ts : List Token) → 1 ≤ limit → FewTypes (sc ∷ outer) → EndsIn ts → length ts ≤ length unit
    → Stop limit 0 0 0 (Continues (statement sc) whole_depth) (IsTaken (statement sc) (λ s. after_stmt sc s ∷ outer) whole_depth limit) (λ unit us ys. statement_read limit unit (sc ∷ outer) ys) unit us ts
statement_stops limit sc outer unit us ts one few ends long = stop_all_steps limit 0 0 (Continues (statement sc) whole_depth) (IsTaken (statement sc) (λ s. after_stmt sc s ∷ outer) whole_depth limit) (λ unit us ys. statement_run limit unit us [] (sc ∷ outer) ys) unit us ts (run_stops limit sc outer unit [] unit ts [] refl one few ends long long)
