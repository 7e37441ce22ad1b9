-- All statements, by recursion over their trees.
use Rattle.std.proofs.Common.{◌≡◌, ℕ, suc, ◌+◌, List, ◌++◌, Some}
use Rattle.std.specs.Prelude.{slice_get}
use Rattle.c65_csem.specs.Trees.{Stmt, empty, eval, set_part, clear, block, if_stmt, while, do_while, for_loop, switch, case, default, label, goto, break, continue, return, absent, present, Stmts, no_stmts, and_stmts}
use Rattle.c65_meaning.specs.After.{Sought, ToCase, ToDefault}
use Rattle.c65_meaning.specs.Sites.{count}
use Rattle.c65_meaning.specs.Step.{body_of}
use Rattle.c65_genstmt.specs.declared.jumps.Ways.{Ways}
use Rattle.c65_genstmt.specs.Jumps.{following}
use Rattle.c65_genstmt.specs.Stmts.{case_behind, ways}
use Rattle.c65_agree_state.specs.World.{unit_in, lines_of, IsPlaced}
use Rattle.c65_agree_lines.specs.Lists.{effects_uses}
use Rattle.c65_agree_stmts.specs.Calling.{Calling, Does, AllDo}
use Rattle.c65_agree_stmts.specs.Objects.{HasGround}
use Rattle.c65_agree_stmts.specs.Landings.{LandsIn, LandsAmong}
use Rattle.c65_agree_stmts.specs.Trees.{HasParts, HaveParts}
use Rattle.c65_agree_stmts.specs.Laws.{StatementsDo}
use Rattle.c65_agree_stmts.proofs.Plain.{empty_does, eval_does, none_do, both_do, if_does}
use Rattle.c65_agree_stmts.proofs.While.{while_does}
use Rattle.c65_agree_stmts.proofs.Do.{do_does}
use Rattle.c65_agree_stmts.proofs.For.{for_does}
use Rattle.c65_agree_stmts.proofs.Leaving.{break_does, continue_does, return_does, return_of_does}
use Rattle.c65_agree_stmts.proofs.Blocks.{open_block_does}
use Rattle.c65_agree_stmts.proofs.Labels.{label_does, case_does, default_does, goto_does}
use Rattle.c65_agree_stmts.proofs.Landings.{label_lands, case_lands, default_lands, both_land, block_lands}
use Rattle.c65_agree_stmts.proofs.Arms.{if_lands, while_lands, do_lands, for_lands}
use Rattle.c65_agree_stmts.proofs.Switch.{switch_does, switch_lands}

module _ (x : Calling) (placed : IsPlaced (lines_of x.world x.active)) (ground : HasGround x) (body : body_of (slice_get (unit_in x.world).funcs x.active.func) ≡ Some x.body) where
  mutual
    stmt_does : (s : Stmt) (scope : List ℕ) (at next fresh : ℕ) (w : Ways) → HasParts x scope at s w next fresh → Does x scope at s w next fresh
    stmt_does empty scope at next fresh w h = empty_does x scope at next fresh w
    stmt_does (eval e) scope at next fresh w h = eval_does x scope at next fresh w e h
    stmt_does (set_part i o e) scope at next fresh w h = h
    stmt_does (clear i) scope at next fresh w h = h
    stmt_does (block os ss) scope at next fresh w h = open_block_does x scope at next fresh w os ss ground h.0 (stmts_do ss (os ++ scope) (suc at) next fresh w h.1)
    stmt_does (if_stmt e a b) scope at next fresh w h = if_does x scope at next fresh w e a b placed h.0 (stmt_does a scope (suc at) next _ w h.1) (stmt_does b scope (suc at + count a) (case_behind next a) _ w h.2)
    stmt_does (while e s) scope at next fresh w h = while_does x scope at next fresh w e s placed h.0 h.1 (stmt_does s scope (suc at) next _ (ways (fresh + 1) fresh w.other) h.2)
    stmt_does (do_while s e) scope at next fresh w h = do_does x scope at next fresh w e s placed h.0 h.1 (stmt_does s scope (suc at) next _ (ways (fresh + 1 + 1) (fresh + 1) w.other) h.2)
    stmt_does (for_loop i c n s) scope at next fresh w h = for_does x scope at next fresh w i c n s placed h.0 h.1 h.2 h.3 (stmt_does s scope (suc at) next _ (ways (fresh + effects_uses i + 1 + 1) (fresh + effects_uses i + 1) w.other) h.4)
    stmt_does (switch e s) scope at next fresh w h =
        let c = h.0 in
        switch_does x scope at next fresh w e s c.kind placed ground c.value c.plain c.shape c.kinds c.choice c.begin c.few (λ z. stmt_lands (ToCase z) s scope (suc at) (fresh + 1 + 1) _ (ways fresh w.onward (fresh + 1)) h.1)
        (stmt_lands ToDefault s scope (suc at) (fresh + 1 + 1) _ (ways fresh w.onward (fresh + 1)) h.1)
    stmt_does (case z s) scope at next fresh w h = case_does x scope at next fresh z w s (stmt_does s scope (suc at) (following next) fresh w h)
    stmt_does (default s) scope at next fresh w h = default_does x scope at next fresh w s (stmt_does s scope (suc at) next fresh w h)
    stmt_does (label l s) scope at next fresh w h = label_does x scope at next fresh l w s (stmt_does s scope (suc at) next fresh w h)
    stmt_does (goto l) scope at next fresh w h = goto_does x scope at next fresh l w ground body h.0 h.1
    stmt_does break scope at next fresh w h = break_does x scope at next fresh w
    stmt_does continue scope at next fresh w h = continue_does x scope at next fresh w
    stmt_does (return absent) scope at next fresh w h = return_does x scope at next fresh w
    stmt_does (return (present e)) scope at next fresh w h = return_of_does x scope at next fresh w e h

    stmts_do : (ss : Stmts) (scope : List ℕ) (at next fresh : ℕ) (w : Ways) → HaveParts x scope at ss w next fresh → AllDo x scope at ss w next fresh
    stmts_do no_stmts scope at next fresh w h = none_do x scope at next fresh w
    stmts_do (and_stmts s ss) scope at next fresh w h = both_do x scope at next fresh w s ss (stmt_does s scope at next fresh w h.0) (stmts_do ss scope (at + count s) (case_behind next s) _ w h.1)

    stmt_lands : (what : Sought) (s : Stmt) (scope : List ℕ) (at next fresh : ℕ) (w : Ways) → HasParts x scope at s w next fresh → LandsIn x what scope at s w next fresh
    stmt_lands what empty scope at next fresh w h = λ n v p k le more has ahead goes. tt
    stmt_lands what (eval e) scope at next fresh w h = λ n v p k le more has ahead goes. tt
    stmt_lands what (set_part i o e) scope at next fresh w h = λ n v p k le more has ahead goes. tt
    stmt_lands what (clear i) scope at next fresh w h = λ n v p k le more has ahead goes. tt
    stmt_lands what (block os ss) scope at next fresh w h = block_lands x what scope at next fresh w os ss (stmts_land what ss (os ++ scope) (suc at) next fresh w h.1)
    stmt_lands what (if_stmt e a b) scope at next fresh w h = if_lands x what scope at next fresh w e a b placed (stmt_lands what a scope (suc at) next _ w h.1) (stmt_lands what b scope (suc at + count a) (case_behind next a) _ w h.2)
    stmt_lands what (while e s) scope at next fresh w h = while_lands x what scope at next fresh w e s placed h.0 h.1 (stmt_does s scope (suc at) next _ (ways (fresh + 1) fresh w.other) h.2) (stmt_lands what s scope (suc at) next _ (ways (fresh + 1) fresh w.other) h.2)
    stmt_lands what (do_while s e) scope at next fresh w h = do_lands x what scope at next fresh w e s placed h.0 h.1 (stmt_does s scope (suc at) next _ (ways (fresh + 1 + 1) (fresh + 1) w.other) h.2) (stmt_lands what s scope (suc at) next _ (ways (fresh + 1 + 1) (fresh + 1) w.other) h.2)
    stmt_lands what (for_loop i c n s) scope at next fresh w h = for_lands x what scope at next fresh w i c n s placed h.0 h.1 h.2 h.3 (stmt_does s scope (suc at) next _ (ways (fresh + effects_uses i + 1 + 1) (fresh + effects_uses i + 1) w.other) h.4) (stmt_lands what s scope (suc at) next _ (ways (fresh + effects_uses i + 1 + 1) (fresh + effects_uses i + 1) w.other) h.4)
    stmt_lands what (switch e s) scope at next fresh w h = switch_lands x what scope at next fresh w e s placed (stmt_lands what s scope (suc at) (fresh + 1 + 1) _ (ways fresh w.onward (fresh + 1)) h.1)
    stmt_lands what (case z s) scope at next fresh w h = case_lands x what scope at next fresh z w s placed (stmt_does s scope (suc at) (following next) fresh w h) (stmt_lands what s scope (suc at) (following next) fresh w h)
    stmt_lands what (default s) scope at next fresh w h = default_lands x what scope at next fresh w s placed (stmt_does s scope (suc at) next fresh w h) (stmt_lands what s scope (suc at) next fresh w h)
    stmt_lands what (label l s) scope at next fresh w h = label_lands x what scope at next fresh l w s placed (stmt_does s scope (suc at) next fresh w h) (stmt_lands what s scope (suc at) next fresh w h)
    stmt_lands what (goto l) scope at next fresh w h = λ n v p k le more has ahead goes. tt
    stmt_lands what break scope at next fresh w h = λ n v p k le more has ahead goes. tt
    stmt_lands what continue scope at next fresh w h = λ n v p k le more has ahead goes. tt
    stmt_lands what (return o) scope at next fresh w h = λ n v p k le more has ahead goes. tt

    stmts_land : (what : Sought) (ss : Stmts) (scope : List ℕ) (at next fresh : ℕ) (w : Ways) → HaveParts x scope at ss w next fresh → LandsAmong x what scope at ss w next fresh
    stmts_land what no_stmts scope at next fresh w h = λ n v p k le more has ahead goes. tt
    stmts_land what (and_stmts s ss) scope at next fresh w h =
        both_land x what scope at next fresh w s ss (stmts_do ss scope (at + count s) (case_behind next s) _ w h.1) (stmt_lands what s scope at next fresh w h.0) (stmts_land what ss scope (at + count s) (case_behind next s) _ w h.1)

pub statements_do : StatementsDo
statements_do x scope at next fresh w s placed ground body h = (stmt_does x placed ground body s scope at next fresh w h, λ what. stmt_lands x placed ground body what s scope at next fresh w h)
