-- The lines of a statement at which turns are taken: heads of loops, and `goto`s (C90 6.6.5, 6.6.6.1).
use Rattle.std.specs.Prelude.{◌≡◌, ℕ, suc, ◌+◌, false, Some, List, [], ◌∷◌, ◌++◌, length, slice_get}
use Rattle.c65_csem.specs.Trees.{Stmt, eval, set_part, block, if_stmt, while, do_while, for_loop, switch, case, default, label, goto, return, Stmts, no_stmts, and_stmts}
use Rattle.c65_mach.specs.declared.rows.Op.TheVariants.{Jmp}
use Rattle.c65_meaning.specs.Sites.{calls, calls_if}
use Rattle.c65_code.specs.declared.line.Line.{Line}
use Rattle.c65_code.specs.declared.line.Line.TheVariants.{Label}
use Rattle.c65_genframe.specs.Frames.{Framed}
use Rattle.c65_genexpr.specs.declared.wanted.Wanted.TheVariants.{Test}
use Rattle.c65_genexpr.specs.Code.{expr_code}
use Rattle.c65_genexpr.specs.Uses.{uses}
use Rattle.c65_genentry.specs.Words.{jump}
use Rattle.c65_genstmt.specs.declared.jumps.Ways.{Ways}
use Rattle.c65_genstmt.specs.Jumps.{following}
use Rattle.c65_genstmt.specs.Stmts.{is_empty, case_behind, ways}
use Rattle.c65_agree_lines.specs.Lists.{effects_code, effects_uses, guard_code, guard_uses, head_code, head_uses, way_code, stmt_code, stmt_uses}

pub data Turn : Type 0 where
  LoopAt : (q : ℕ) → Turn
  GotoAt : (q : ℕ) → Turn

-- such a line stands there
abbrev pub IsTurn : List Line → Turn → Type 0
IsTurn code (LoopAt q) = (l : ℕ) × (slice_get code q ≡ Some (Label l))
IsTurn code (GotoAt q) = (l : ℕ) × (slice_get code q ≡ Some (jump Jmp l))

abbrev mutual
  -- those of a statement whose lines stand from line p on
  pub turns_of : Framed → Ways → ℕ → Stmt → ℕ → ℕ → List Turn
  turns_of f w l (block os ss) fresh p = all_turns_of f w l ss fresh p
  turns_of f w l (if_stmt e a b) fresh p =
      let first = fresh + 1 + 1 + uses (Some false) e in
      let q = p + length (expr_code f 0 (fresh + 1 + 1) (Test fresh false) e) in
      turns_of f w l a first q ++ turns_of f w (case_behind l a) b (first + stmt_uses f a) (suc (q + length (stmt_code f w l a first) + length (way_code (is_empty b) (fresh + 1))))
  turns_of f w l (while e a) fresh p =
      LoopAt p ∷ turns_of f (ways (fresh + 1) fresh w.other) l a (fresh + 1 + 1 + uses (Some false) e) (suc p + length (expr_code f 0 (fresh + 1 + 1) (Test (fresh + 1) false) e))
  turns_of f w l (do_while a e) fresh p = LoopAt p ∷ turns_of f (ways (fresh + 1 + 1) (fresh + 1) w.other) l a (fresh + 1 + 1 + 1) (suc p)
  turns_of f w l (for_loop i c n a) fresh p =
      let head = fresh + effects_uses i in
      let q = p + length (effects_code f i fresh) in
      LoopAt q ∷ turns_of f (ways (head + 1 + 1) (head + 1) w.other) l a (head + 1 + 1 + 1 + guard_uses c) (suc q + length (guard_code f (head + 1 + 1) c (head + 1 + 1 + 1)))
  turns_of f w l (switch e a) fresh p = turns_of f (ways fresh w.onward (fresh + 1)) (fresh + 1 + 1) a (fresh + head_uses e a) (p + length (head_code f e a fresh))
  turns_of f w l (case z a) fresh p = turns_of f w (following l) a fresh (suc p)
  turns_of f w l (default a) fresh p = turns_of f w l a fresh (suc p)
  turns_of f w l (label n a) fresh p = turns_of f w l a fresh (suc p)
  turns_of f w l (goto n) fresh p = GotoAt p ∷ []
  turns_of f w l _ fresh p = []

  pub all_turns_of : Framed → Ways → ℕ → Stmts → ℕ → ℕ → List Turn
  all_turns_of f w l no_stmts fresh p = []
  all_turns_of f w l (and_stmts a ss) fresh p = turns_of f w l a fresh p ++ all_turns_of f w (case_behind l a) ss (fresh + stmt_uses f a) (p + length (stmt_code f w l a fresh))

abbrev mutual
  -- the calls in the expressions of a statement
  pub stmt_calls : Stmt → ℕ
  stmt_calls (eval e) = calls e
  stmt_calls (set_part i o e) = calls e
  stmt_calls (block os ss) = stmts_calls ss
  stmt_calls (if_stmt e a b) = calls e + stmt_calls a + stmt_calls b
  stmt_calls (while e a) = calls e + stmt_calls a
  stmt_calls (do_while a e) = stmt_calls a + calls e
  stmt_calls (for_loop i c n a) = calls_if i + calls_if c + calls_if n + stmt_calls a
  stmt_calls (switch e a) = calls e + stmt_calls a
  stmt_calls (case z a) = stmt_calls a
  stmt_calls (default a) = stmt_calls a
  stmt_calls (label n a) = stmt_calls a
  stmt_calls (return e) = calls_if e
  stmt_calls _ = 0

  pub stmts_calls : Stmts → ℕ
  stmts_calls no_stmts = 0
  stmts_calls (and_stmts a ss) = stmt_calls a + stmts_calls ss
