-- Statements that stand last in their function.
use Rattle.std.proofs.Common.{◌≡◌, ℕ, suc, ◌+◌, ◌≤◌, max, List, [], ◌∷◌, ◌++◌, Some, None, Bool, true, arith}
use Rattle.std.specs.Prelude.{length, slice_get}
use Rattle.c65_csem.specs.Trees.{Stmt, empty, eval, set_part, clear, block, if_stmt, while, do_while, for_loop, switch, case, default, label, goto, break, continue, return, absent, present, Stmts, no_stmts, and_stmts, UnitTy}
use Rattle.c65_csem_plain.specs.Arms.{arms, arms_in}
use Rattle.c65_meaning.specs.Items.{Item, End, plan_stmt, plan_stmts}
use Rattle.c65_meaning.specs.After.{Sought, after, after_all}
use Rattle.c65_meaning.specs.Sites.{count}
use Rattle.c65_meaning.specs.Step.{body_of}
use Rattle.c65_code.specs.declared.line.Line.{Line}
use Rattle.c65_genframe.specs.Frames.{Framed}
use Rattle.c65_genexpr.specs.declared.wanted.Wanted.TheVariants.{Value}
use Rattle.c65_genexpr.specs.Code.{expr_code}
use Rattle.c65_genstmt.specs.declared.jumps.Ways.{Ways}
use Rattle.c65_genstmt.specs.Stmts.{case_behind, returns_last, any_last}
use Rattle.c65_agree_state.specs.World.{unit_in, lines_of, HasAt, IsPlaced}
use Rattle.c65_agree_lines.specs.Lists.{stmt_code, stmt_uses, last_code, lasts_code}
use Rattle.c65_agree_stmts.specs.Calling.{Calling, Does, EndsIn, WorkEnds, LastDoes}
use Rattle.c65_agree_stmts.specs.Objects.{HasGround}
use Rattle.c65_agree_stmts.specs.Landings.{label_of, label_in, Lands, IsAhead, LandsIn, LandsLast}
use Rattle.c65_agree_stmts.specs.Trees.{HasParts, HaveParts}
use Rattle.c65_agree_stmts.specs.Laws.{LastsDo}
use Rattle.c65_agree_stmts.proofs.Ahead.{ends_of, ending_of, ends_less, ends_with, work_ends, AreEnding, do_with}
use Rattle.c65_agree_stmts.proofs.Plain.{none_do, both_end}
use Rattle.c65_agree_stmts.proofs.Leaving.{last_returns, last_done}
use Rattle.c65_agree_stmts.proofs.Blocks.{open_block_ends}
use Rattle.c65_agree_stmts.proofs.Landings.{lands_more, lands_first, either_lands, inside_lands}
use Rattle.c65_agree_stmts.proofs.Trees.{statements_do}

module _ (x : Calling) where
  abbrev u : UnitTy
  u = unit_in x.world

  abbrev f : Framed
  f = x.active.frame

  -- one statement alone
  one_ends : (scope : List ℕ) (work : List Item → List Item) (w : Ways) (ends : Bool) (lines : List Line) → WorkEnds x scope work w ends lines → AreEnding x scope work w ends lines
  one_ends scope work w ends lines does n v p k c q b t seen le more has stands turns ahead goes =
      ends_with x scope work w ends lines does n v p k c q b t seen le more has stands turns ahead (ends_less x ends (suc n) n v v scope k (p + length lines) (omega arith) (omega arith) goes)

  abbrev LandsAmongLast : Sought → List ℕ → ℕ → Stmts → Ways → ℕ → ℕ → Type 0
  LandsAmongLast what scope at ss w next fresh = (n v p : ℕ) (k : List Item) → n ≤ x.most → x.reserve ≤ v → HasAt (lines_of x.world x.active) p (lasts_code x.active.frame w next ss fresh) → IsAhead x n v scope k w
      → EndsIn x (any_last ss) (suc n) v scope k (p + length (lasts_code x.active.frame w next ss fresh)) → Lands x n (v + arms_in ss) scope (after_all (unit_in x.world) what at ss k) (label_in what w.other next ss)

  one_lands : (what : Sought) (scope : List ℕ) (at next fresh : ℕ) (w : Ways) (s : Stmt) → LandsLast x what scope at s w next fresh → LandsAmongLast what scope at (and_stmts s no_stmts) w next fresh
  one_lands what scope at next fresh w s ls n v p k le more has ahead goes =
      lands_first x n (v + max (arms s) 0) scope (after u what at s k) None (label_of what w.other next s) None
      (lands_more x n (v + arms s) (v + max (arms s) 0) scope (after u what at s k) (label_of what w.other next s) (omega arith) (ls n v p k le more has ahead less_ends)) tt
    where
      end : ℕ
      end = p + length (last_code x.active.frame w next s fresh)

      less_ends : EndsIn x (returns_last s) n v scope k end
      less_ends = ending_of x (returns_last s) n v scope k end (ends_less x (returns_last s) (suc n) n v v scope k end (omega arith) (omega arith) (ends_of x (returns_last s) (suc n) v scope k end goes))

  module _ (placed : IsPlaced (lines_of x.world x.active)) (ground : HasGround x) (body : body_of (slice_get (unit_in x.world).funcs x.active.func) ≡ Some x.body) where
    stmt_does : (s : Stmt) (scope : List ℕ) (at next fresh : ℕ) (w : Ways) → HasParts x scope at s w next fresh → Does x scope at s w next fresh
    stmt_does s scope at next fresh w h = (statements_do x scope at next fresh w s placed ground body h).0

    stmt_lands : (what : Sought) (s : Stmt) (scope : List ℕ) (at next fresh : ℕ) (w : Ways) → HasParts x scope at s w next fresh → LandsIn x what scope at s w next fresh
    stmt_lands what s scope at next fresh w h = (statements_do x scope at next fresh w s placed ground body h).1 what

    mutual
      last_does : (s : Stmt) (scope : List ℕ) (at next fresh : ℕ) (w : Ways) → HasParts x scope at s w next fresh → LastDoes x scope at s w next fresh
      last_does (block os ss) scope at next fresh w h =
          work_ends x scope (plan_stmt u at (block os ss)) w (any_last ss) (lasts_code f w next ss fresh)
          (open_block_ends x scope at w os ss (any_last ss) (lasts_code f w next ss fresh) ground h.0 (lasts_end ss (os ++ scope) (suc at) next fresh w h.1))
      last_does (return absent) scope at next fresh w h = work_ends x scope (plan_stmt u at (return absent)) w true [] (last_returns x scope at w)
      last_does (return (present e)) scope at next fresh w h = work_ends x scope (plan_stmt u at (return (present e))) w true (expr_code f 0 fresh Value e) (last_done x scope w fresh e h at)
      last_does empty scope at next fresh w h = stmt_does empty scope at next fresh w h
      last_does (eval e) scope at next fresh w h = stmt_does (eval e) scope at next fresh w h
      last_does (set_part i o e) scope at next fresh w h = stmt_does (set_part i o e) scope at next fresh w h
      last_does (clear i) scope at next fresh w h = stmt_does (clear i) scope at next fresh w h
      last_does (if_stmt e a b) scope at next fresh w h = stmt_does (if_stmt e a b) scope at next fresh w h
      last_does (while e s) scope at next fresh w h = stmt_does (while e s) scope at next fresh w h
      last_does (do_while s e) scope at next fresh w h = stmt_does (do_while s e) scope at next fresh w h
      last_does (for_loop i c n s) scope at next fresh w h = stmt_does (for_loop i c n s) scope at next fresh w h
      last_does (switch e s) scope at next fresh w h = stmt_does (switch e s) scope at next fresh w h
      last_does (case z s) scope at next fresh w h = stmt_does (case z s) scope at next fresh w h
      last_does (default s) scope at next fresh w h = stmt_does (default s) scope at next fresh w h
      last_does (label l s) scope at next fresh w h = stmt_does (label l s) scope at next fresh w h
      last_does (goto l) scope at next fresh w h = stmt_does (goto l) scope at next fresh w h
      last_does break scope at next fresh w h = stmt_does break scope at next fresh w h
      last_does continue scope at next fresh w h = stmt_does continue scope at next fresh w h

      lasts_end : (ss : Stmts) (scope : List ℕ) (at next fresh : ℕ) (w : Ways) → HaveParts x scope at ss w next fresh → AreEnding x scope (plan_stmts u at ss) w (any_last ss) (lasts_code f w next ss fresh)
      lasts_end no_stmts scope at next fresh w h = do_with x scope at no_stmts w next fresh (none_do x scope at next fresh w)
      lasts_end (and_stmts s no_stmts) scope at next fresh w h = one_ends scope (plan_stmt u at s) w (returns_last s) (last_code f w next s fresh) (last_does s scope at next fresh w h.0)
      lasts_end (and_stmts s (and_stmts r ss)) scope at next fresh w h =
          both_end x scope at next fresh w s (and_stmts r ss) (any_last (and_stmts r ss)) (lasts_code f w (case_behind next s) (and_stmts r ss) (fresh + stmt_uses f s)) (stmt_does s scope at next fresh w h.0)
          (lasts_end (and_stmts r ss) scope (at + count s) (case_behind next s) (fresh + stmt_uses f s) w h.1)

    mutual
      last_lands : (what : Sought) (s : Stmt) (scope : List ℕ) (at next fresh : ℕ) (w : Ways) → HasParts x scope at s w next fresh → LandsLast x what scope at s w next fresh
      last_lands what (block os ss) scope at next fresh w h = λ n v p k le more has ahead goes.
          inside_lands x n v (arms_in ss) scope os k w (any_last ss) (p + length (lasts_code f w next ss fresh)) (after_all u what (suc at) ss (End os ∷ k)) (label_in what w.other next ss) ahead goes
          (λ inside on. lasts_land what ss (os ++ scope) (suc at) next fresh w h.1 n v p (End os ∷ k) le more has inside on)
      last_lands what (return o) scope at next fresh w h = λ n v p k le more has ahead goes. tt
      last_lands what empty scope at next fresh w h = stmt_lands what empty scope at next fresh w h
      last_lands what (eval e) scope at next fresh w h = stmt_lands what (eval e) scope at next fresh w h
      last_lands what (set_part i o e) scope at next fresh w h = stmt_lands what (set_part i o e) scope at next fresh w h
      last_lands what (clear i) scope at next fresh w h = stmt_lands what (clear i) scope at next fresh w h
      last_lands what (if_stmt e a b) scope at next fresh w h = stmt_lands what (if_stmt e a b) scope at next fresh w h
      last_lands what (while e s) scope at next fresh w h = stmt_lands what (while e s) scope at next fresh w h
      last_lands what (do_while s e) scope at next fresh w h = stmt_lands what (do_while s e) scope at next fresh w h
      last_lands what (for_loop i c n s) scope at next fresh w h = stmt_lands what (for_loop i c n s) scope at next fresh w h
      last_lands what (switch e s) scope at next fresh w h = stmt_lands what (switch e s) scope at next fresh w h
      last_lands what (case z s) scope at next fresh w h = stmt_lands what (case z s) scope at next fresh w h
      last_lands what (default s) scope at next fresh w h = stmt_lands what (default s) scope at next fresh w h
      last_lands what (label l s) scope at next fresh w h = stmt_lands what (label l s) scope at next fresh w h
      last_lands what (goto l) scope at next fresh w h = stmt_lands what (goto l) scope at next fresh w h
      last_lands what break scope at next fresh w h = stmt_lands what break scope at next fresh w h
      last_lands what continue scope at next fresh w h = stmt_lands what continue scope at next fresh w h

      lasts_land : (what : Sought) (ss : Stmts) (scope : List ℕ) (at next fresh : ℕ) (w : Ways) → HaveParts x scope at ss w next fresh → LandsAmongLast what scope at ss w next fresh
      lasts_land what no_stmts scope at next fresh w h = λ n v p k le more has ahead goes. tt
      lasts_land what (and_stmts s no_stmts) scope at next fresh w h = one_lands what scope at next fresh w s (last_lands what s scope at next fresh w h.0)
      lasts_land what (and_stmts s (and_stmts r ss)) scope at next fresh w h = λ n v p k le more has ahead goes.
          let rest = and_stmts r ss in
          either_lands x what scope at next fresh (arms_in rest) w s rest (any_last rest) (lasts_code f w (case_behind next s) rest (fresh + stmt_uses f s)) (label_in what w.other (case_behind next s) rest)
          (lasts_end (and_stmts r ss) scope (at + count s) (case_behind next s) (fresh + stmt_uses f s) w h.1) (stmt_lands what s scope at next fresh w h.0) n v p k le more has ahead goes
          (λ there on. lasts_land what (and_stmts r ss) scope (at + count s) (case_behind next s) (fresh + stmt_uses f s) w h.1 n v (p + length (stmt_code f w next s fresh)) k le more there ahead on)

pub lasts_do : LastsDo
lasts_do x scope at next fresh w s placed ground body h = (last_does x placed ground body s scope at next fresh w h, λ what. last_lands x placed ground body what s scope at next fresh w h)
