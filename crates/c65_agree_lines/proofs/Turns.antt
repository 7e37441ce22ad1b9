-- Loops and `goto`s have their lines, and are counted.
use Rattle.std.proofs.Common.{◌≡◌, ℕ, suc, ◌+◌, List, [], ◌∷◌, ◌++◌, true, false, Some, refl, arith}
use Rattle.std.specs.Prelude.{All, length}
use Rattle.std.proofs.lemmas.List.Elements.{All-nil, All-cons, All-head, All-tail}
use Rattle.c65_csem.specs.Trees.{Stmt, empty, eval, set_part, clear, block, if_stmt, while, do_while, for_loop, switch, case, default, label, goto, break, continue, return, Stmts, no_stmts, and_stmts}
use Rattle.c65_mach.specs.declared.rows.Op.TheVariants.{Jmp}
use Rattle.c65_meaning.specs.Sites.{sites, all_sites}
use Rattle.c65_code.specs.declared.line.Line.{Line}
use Rattle.c65_code.specs.declared.line.Line.TheVariants.{Label}
use Rattle.c65_genframe.specs.Frames.{Framed}
use Rattle.c65_genexpr.specs.declared.wanted.Wanted.TheVariants.{Test}
use Rattle.c65_genexpr.specs.Code.{expr_code}
use Rattle.c65_genexpr.specs.Uses.{uses}
use Rattle.c65_genentry.specs.Words.{jump}
use Rattle.c65_genstmt.specs.declared.jumps.Ways.{Ways}
use Rattle.c65_genstmt.specs.Jumps.{following}
use Rattle.c65_genstmt.specs.Stmts.{is_empty, case_behind, ways}
use Rattle.c65_agree_state.specs.World.{HasAt}
use Rattle.c65_agree_lines.specs.Lists.{effects_code, effects_uses, guard_code, guard_uses, head_code, head_uses, way_code, stmt_code, stmt_uses, stmts_code, last_code, lasts_code}
use Rattle.c65_agree_lines.specs.Turns.{Turn, LoopAt, GotoAt, IsTurn, turns_of, all_turns_of, stmt_calls, stmts_calls}
use Rattle.c65_agree_lines.specs.Laws.{TurnsStand, LastTurnsStand, TurnsAreCounted}
use Rattle.c65_agree_lines.proofs.Stand.{parts_stand}

all_both : (P : Turn → Type 0) (xs ys : List Turn) → All P xs → All P ys → All P (xs ++ ys)
all_both P [] ys h k = k
all_both P (x ∷ xs) ys h k = All-cons P x (xs ++ ys) (All-head P x xs h) (all_both P xs ys (All-tail P x xs h) k)

length_both : (xs ys : List Turn) → length (xs ++ ys) ≡ length xs + length ys
length_both [] ys = omega arith
length_both (x ∷ xs) ys = let h = length_both xs ys in omega (arith, h)

module _ (code : List Line) where
  mutual
    stand : (f : Framed) (w : Ways) (l : ℕ) (s : Stmt) (fresh p : ℕ) → HasAt code p (stmt_code f w l s fresh) → All (IsTurn code) (turns_of f w l s fresh p)
    stand f w l (block os ss) fresh p h = all_stand f w l ss fresh p h
    stand f w l (if_stmt e a b) fresh p h =
        let first = fresh + 1 + 1 + uses (Some false) e in
        let test = expr_code f 0 (fresh + 1 + 1) (Test fresh false) e in
        let one = stmt_code f w l a first in
        let two = stmt_code f w (case_behind l a) b (first + stmt_uses f a) in
        let over = way_code (is_empty b) (fresh + 1) in
        let tested = parts_stand code test (one ++ (over ++ Label fresh ∷ (two ++ Label (fresh + 1) ∷ []))) p h in
        let q = p + length test in
        let body = parts_stand code one (over ++ Label fresh ∷ (two ++ Label (fresh + 1) ∷ [])) q tested.1 in
        let passed = parts_stand code over (Label fresh ∷ (two ++ Label (fresh + 1) ∷ [])) (q + length one) body.1 in
        let last = suc (q + length one + length over) in
        let other = parts_stand code two (Label (fresh + 1) ∷ []) last passed.1.1 in
        all_both (IsTurn code) (turns_of f w l a first q) (turns_of f w (case_behind l a) b (first + stmt_uses f a) last) (stand f w l a first q body.0) (stand f w (case_behind l a) b (first + stmt_uses f a) last other.0)
    stand f w l (while e a) fresh p h =
        let test = expr_code f 0 (fresh + 1 + 1) (Test (fresh + 1) false) e in
        let inner = ways (fresh + 1) fresh w.other in
        let first = fresh + 1 + 1 + uses (Some false) e in
        let one = stmt_code f inner l a first in
        let last = jump Jmp fresh ∷ Label (fresh + 1) ∷ [] in
        let tested = parts_stand code test (one ++ last) (suc p) h.1 in
        let q = suc p + length test in
        let body = parts_stand code one last q tested.1 in
        All-cons (IsTurn code) (LoopAt p) (turns_of f inner l a first q) (fresh, h.0) (stand f inner l a first q body.0)
    stand f w l (do_while a e) fresh p h =
        let inner = ways (fresh + 1 + 1) (fresh + 1) w.other in
        let first = fresh + 1 + 1 + 1 in
        let one = stmt_code f inner l a first in
        let body = parts_stand code one (Label (fresh + 1) ∷ (expr_code f 0 (first + stmt_uses f a) (Test fresh true) e ++ Label (fresh + 1 + 1) ∷ [])) (suc p) h.1 in
        All-cons (IsTurn code) (LoopAt p) (turns_of f inner l a first (suc p)) (fresh, h.0) (stand f inner l a first (suc p) body.0)
    stand f w l (for_loop i c n a) fresh p h =
        let head = fresh + effects_uses i in
        let before = effects_code f i fresh in
        let test = guard_code f (head + 1 + 1) c (head + 1 + 1 + 1) in
        let inner = ways (head + 1 + 1) (head + 1) w.other in
        let first = head + 1 + 1 + 1 + guard_uses c in
        let one = stmt_code f inner l a first in
        let last = Label (head + 1) ∷ (effects_code f n (first + stmt_uses f a) ++ jump Jmp head ∷ Label (head + 1 + 1) ∷ []) in
        let begun = parts_stand code before (Label head ∷ (test ++ (one ++ last))) p h in
        let q = p + length before in
        let tested = parts_stand code test (one ++ last) (suc q) begun.1.1 in
        let body = parts_stand code one last (suc q + length test) tested.1 in
        All-cons (IsTurn code) (LoopAt q) (turns_of f inner l a first (suc q + length test)) (head, begun.1.0) (stand f inner l a first (suc q + length test) body.0)
    stand f w l (switch e a) fresh p h =
        let before = head_code f e a fresh in
        let inner = ways fresh w.onward (fresh + 1) in
        let one = stmt_code f inner (fresh + 1 + 1) a (fresh + head_uses e a) in
        let begun = parts_stand code before (one ++ Label fresh ∷ []) p h in
        let body = parts_stand code one (Label fresh ∷ []) (p + length before) begun.1 in
        stand f inner (fresh + 1 + 1) a (fresh + head_uses e a) (p + length before) body.0
    stand f w l (case z a) fresh p h = stand f w (following l) a fresh (suc p) h.1
    stand f w l (default a) fresh p h = stand f w l a fresh (suc p) h.1
    stand f w l (label n a) fresh p h = stand f w l a fresh (suc p) h.1
    stand f w l (goto n) fresh p h = All-cons (IsTurn code) (GotoAt p) [] (following n, h.0) (All-nil (IsTurn code))
    stand f w l empty fresh p h = All-nil (IsTurn code)
    stand f w l (eval e) fresh p h = All-nil (IsTurn code)
    stand f w l (set_part i o e) fresh p h = All-nil (IsTurn code)
    stand f w l (clear i) fresh p h = All-nil (IsTurn code)
    stand f w l break fresh p h = All-nil (IsTurn code)
    stand f w l continue fresh p h = All-nil (IsTurn code)
    stand f w l (return e) fresh p h = All-nil (IsTurn code)

    all_stand : (f : Framed) (w : Ways) (l : ℕ) (ss : Stmts) (fresh p : ℕ) → HasAt code p (stmts_code f w l ss fresh) → All (IsTurn code) (all_turns_of f w l ss fresh p)
    all_stand f w l no_stmts fresh p h = All-nil (IsTurn code)
    all_stand f w l (and_stmts a ss) fresh p h =
        let one = stmt_code f w l a fresh in
        let parts = parts_stand code one (stmts_code f w (case_behind l a) ss (fresh + stmt_uses f a)) p h in
        all_both (IsTurn code) (turns_of f w l a fresh p) (all_turns_of f w (case_behind l a) ss (fresh + stmt_uses f a) (p + length one)) (stand f w l a fresh p parts.0) (all_stand f w (case_behind l a) ss (fresh + stmt_uses f a) (p + length one) parts.1)

  mutual
    last_stand : (f : Framed) (w : Ways) (l : ℕ) (s : Stmt) (fresh p : ℕ) → HasAt code p (last_code f w l s fresh) → All (IsTurn code) (turns_of f w l s fresh p)
    last_stand f w l (block os ss) fresh p h = lasts_stand f w l ss fresh p h
    last_stand f w l (return e) fresh p h = All-nil (IsTurn code)
    last_stand f w l empty fresh p h = All-nil (IsTurn code)
    last_stand f w l (eval e) fresh p h = All-nil (IsTurn code)
    last_stand f w l (set_part i o e) fresh p h = All-nil (IsTurn code)
    last_stand f w l (clear i) fresh p h = All-nil (IsTurn code)
    last_stand f w l (if_stmt e a b) fresh p h = stand f w l (if_stmt e a b) fresh p h
    last_stand f w l (while e a) fresh p h = stand f w l (while e a) fresh p h
    last_stand f w l (do_while a e) fresh p h = stand f w l (do_while a e) fresh p h
    last_stand f w l (for_loop i c n a) fresh p h = stand f w l (for_loop i c n a) fresh p h
    last_stand f w l (switch e a) fresh p h = stand f w l (switch e a) fresh p h
    last_stand f w l (case z a) fresh p h = stand f w l (case z a) fresh p h
    last_stand f w l (default a) fresh p h = stand f w l (default a) fresh p h
    last_stand f w l (label n a) fresh p h = stand f w l (label n a) fresh p h
    last_stand f w l (goto n) fresh p h = stand f w l (goto n) fresh p h
    last_stand f w l break fresh p h = All-nil (IsTurn code)
    last_stand f w l continue fresh p h = All-nil (IsTurn code)

    lasts_stand : (f : Framed) (w : Ways) (l : ℕ) (ss : Stmts) (fresh p : ℕ) → HasAt code p (lasts_code f w l ss fresh) → All (IsTurn code) (all_turns_of f w l ss fresh p)
    lasts_stand f w l no_stmts fresh p h = All-nil (IsTurn code)
    lasts_stand f w l (and_stmts a no_stmts) fresh p h = all_both (IsTurn code) (turns_of f w l a fresh p) [] (last_stand f w l a fresh p h) (All-nil (IsTurn code))
    lasts_stand f w l (and_stmts a (and_stmts b ss)) fresh p h =
        let one = stmt_code f w l a fresh in
        let more = and_stmts b ss in
        let parts = parts_stand code one (lasts_code f w (case_behind l a) more (fresh + stmt_uses f a)) p h in
        all_both (IsTurn code) (turns_of f w l a fresh p) (all_turns_of f w (case_behind l a) more (fresh + stmt_uses f a) (p + length one)) (stand f w l a fresh p parts.0) (lasts_stand f w (case_behind l a) (and_stmts b ss) (fresh + stmt_uses f a) (p + length one) parts.1)

pub turns_stand : TurnsStand
turns_stand f w l s fresh p code h = stand code f w l s fresh p h

pub last_turns_stand : LastTurnsStand
last_turns_stand f w l s fresh p code h = last_stand code f w l s fresh p h

-- ---- how many there are

mutual
  count : (f : Framed) (w : Ways) (l : ℕ) (s : Stmt) (fresh p : ℕ) → length (turns_of f w l s fresh p) + stmt_calls s ≡ sites s
  count f w l (block os ss) fresh p = count_all f w l ss fresh p
  count f w l (if_stmt e a b) fresh p =
      let first = fresh + 1 + 1 + uses (Some false) e in
      let q = p + length (expr_code f 0 (fresh + 1 + 1) (Test fresh false) e) in
      let last = suc (q + length (stmt_code f w l a first) + length (way_code (is_empty b) (fresh + 1))) in
      let both = length_both (turns_of f w l a first q) (turns_of f w (case_behind l a) b (first + stmt_uses f a) last) in
      let one = count f w l a first q in
      let two = count f w (case_behind l a) b (first + stmt_uses f a) last in
      omega (arith, both, one, two)
  count f w l (while e a) fresh p = let one = count f (ways (fresh + 1) fresh w.other) l a (fresh + 1 + 1 + uses (Some false) e) (suc p + length (expr_code f 0 (fresh + 1 + 1) (Test (fresh + 1) false) e)) in omega (arith, one)
  count f w l (do_while a e) fresh p = let one = count f (ways (fresh + 1 + 1) (fresh + 1) w.other) l a (fresh + 1 + 1 + 1) (suc p) in omega (arith, one)
  count f w l (for_loop i c n a) fresh p =
      let head = fresh + effects_uses i in
      let q = p + length (effects_code f i fresh) in
      let one = count f (ways (head + 1 + 1) (head + 1) w.other) l a (head + 1 + 1 + 1 + guard_uses c) (suc q + length (guard_code f (head + 1 + 1) c (head + 1 + 1 + 1))) in
      omega (arith, one)
  count f w l (switch e a) fresh p = let one = count f (ways fresh w.onward (fresh + 1)) (fresh + 1 + 1) a (fresh + head_uses e a) (p + length (head_code f e a fresh)) in omega (arith, one)
  count f w l (case z a) fresh p = count f w (following l) a fresh (suc p)
  count f w l (default a) fresh p = count f w l a fresh (suc p)
  count f w l (label n a) fresh p = count f w l a fresh (suc p)
  count f w l (goto n) fresh p = refl
  count f w l empty fresh p = refl
  count f w l (eval e) fresh p = omega arith
  count f w l (set_part i o e) fresh p = omega arith
  count f w l (clear i) fresh p = refl
  count f w l break fresh p = refl
  count f w l continue fresh p = refl
  count f w l (return e) fresh p = omega arith

  count_all : (f : Framed) (w : Ways) (l : ℕ) (ss : Stmts) (fresh p : ℕ) → length (all_turns_of f w l ss fresh p) + stmts_calls ss ≡ all_sites ss
  count_all f w l no_stmts fresh p = refl
  count_all f w l (and_stmts a ss) fresh p =
      let q = p + length (stmt_code f w l a fresh) in
      let both = length_both (turns_of f w l a fresh p) (all_turns_of f w (case_behind l a) ss (fresh + stmt_uses f a) q) in
      let one = count f w l a fresh p in
      let rest = count_all f w (case_behind l a) ss (fresh + stmt_uses f a) q in
      omega (arith, both, one, rest)

pub turns_are_counted : TurnsAreCounted
turns_are_counted f w l s fresh p = count f w l s fresh p
