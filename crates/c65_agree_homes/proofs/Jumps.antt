-- Each jump to a label of the function is that of a `goto`.
use Rattle.std.proofs.Common.{◌≡◌, ℕ, zero, suc, ◌+◌, ◌<◌, ◌≤◌, true, false, Option, None, Some, List, [], ◌∷◌, ◌++◌, length, refl, subst, arith}
use Rattle.std.proofs.lemmas.List.Elements.{Contains-append_left}
use Rattle.c65_csem.specs.Trees.{Stmt, empty, eval, set_part, clear, block, if_stmt, while, do_while, for_loop, switch, case, default, label, goto, break, continue, return, Stmts, no_stmts, and_stmts}
use Rattle.c65_mach.specs.declared.rows.Op.TheVariants.{Jmp}
use Rattle.c65_code.specs.declared.line.Line.{Line}
use Rattle.c65_code.specs.declared.line.Line.TheVariants.{Label}
use Rattle.c65_genframe.specs.Frames.{Framed}
use Rattle.c65_genexpr.specs.declared.wanted.Wanted.TheVariants.{Test}
use Rattle.c65_genexpr.specs.Code.{expr_code}
use Rattle.c65_genexpr.specs.Uses.{uses}
use Rattle.c65_genentry.specs.Words.{jump}
use Rattle.c65_genstmt.specs.declared.jumps.Ways.{Ways}
use Rattle.c65_genstmt.specs.Jumps.{following}
use Rattle.c65_genstmt.specs.Objects.{spot_of, object_bytes}
use Rattle.c65_genstmt.specs.Stmts.{is_empty, case_behind, ways, with_stmt}
use Rattle.c65_gen_law_lines.proofs.Puts.{Puts, no_others, Free}
use Rattle.c65_gen_law_lines.proofs.StmtLaws.{set_puts, zeros_puts}
use Rattle.c65_agree_lines.specs.Lists.{maybe_code, effects_code, effects_uses, guard_code, guard_uses, head_code, head_uses, way_code, stmt_code, stmt_uses, stmts_code, stmts_uses, last_code, lasts_code}
use Rattle.c65_agree_lines.specs.Turns.{Turn, LoopAt, GotoAt, turns_of, all_turns_of}
use Rattle.c65_agree_lines.proofs.Listed.{statements_are_listed}
use Rattle.c65_agree_homes.proofs.Quiet.{Quiet, no_jump, quiet_both, quiet_jump, quiet_way, from, quiet_from, quiet_effect, quiet_test, quiet_maybe, quiet_effects, quiet_guard, quiet_switch, Counted, moved, quiet_counts, counts_behind, counts_before, counts_both, counts_more}

-- behind a line
counts_line : (m : ℕ) (line : Line) (code : List Line) (p : ℕ) (ts : List Turn) → Quiet m (line ∷ []) → Counted m code (suc p) ts → Counted m (line ∷ code) p ts
counts_line m line code p ts q c zero e = absurd (no_jump m (line ∷ []) zero q e)
counts_line m line code p ts q c (suc i) e = moved ts (suc p + i) (p + suc i) (omega arith) (c i e)

-- a statement without others in it
leaf : (f : Framed) (m : ℕ) (w : Ways) (l : ℕ) (s : Stmt) (fresh : ℕ) → Puts (from fresh) (with_stmt f w l s (from fresh)) no_others Free → m < fresh → Quiet m (stmt_code f w l s fresh)
leaf f m w l s fresh p lt = subst (Quiet m) (statements_are_listed f w l s (from fresh)).lines_are (quiet_from Free m fresh (with_stmt f w l s (from fresh)) p lt tt)

module _ (f : Framed) (m : ℕ) (some : 0 ≡ m → ⊥) where
  -- where the label is none of those that are given here, nor one where `break` and `continue` lead
  abbrev Counts : Ways → ℕ → Stmt → ℕ → ℕ → Type 0
  Counts w l s fresh p = m < fresh → (w.behind ≡ m → ⊥) → (w.onward ≡ m → ⊥) → fresh + stmt_uses f s ≤ 4294967296 → Counted m (stmt_code f w l s fresh) p (turns_of f w l s fresh p)

  mutual
    pub jumps_count : (s : Stmt) (w : Ways) (l fresh p : ℕ) → Counts w l s fresh p
    jumps_count empty w l fresh p lt far on room = quiet_counts m [] p [] refl
    jumps_count (eval e) w l fresh p lt far on room = quiet_counts m (stmt_code f w l (eval e) fresh) p [] (quiet_effect f m fresh e lt)
    jumps_count (set_part i o e) w l fresh p lt far on room = quiet_counts m (stmt_code f w l (set_part i o e) fresh) p [] (leaf f m w l (set_part i o e) fresh (set_puts f i o e (from fresh)) lt)
    jumps_count (clear i) w l fresh p lt far on room = quiet_counts m (stmt_code f w l (clear i) fresh) p [] (leaf f m w l (clear i) fresh (zeros_puts (spot_of f i 0) (object_bytes f i) (from fresh)) lt)
    jumps_count (block os ss) w l fresh p lt far on room = all_count ss w l fresh p lt far on room
    jumps_count (if_stmt e a b) w l fresh p lt far on room =
        let first = fresh + 1 + 1 + uses (Some false) e in
        let test = expr_code f 0 (fresh + 1 + 1) (Test fresh false) e in
        let one = stmt_code f w l a first in
        let two = stmt_code f w (case_behind l a) b (first + stmt_uses f a) in
        let over = way_code (is_empty b) (fresh + 1) in
        let q = p + length test in
        let last = suc (q + length one + length over) in
        let ts = turns_of f w l a first q in
        let us = turns_of f w (case_behind l a) b (first + stmt_uses f a) last in
        let other = counts_before m two (Label (fresh + 1) ∷ []) last us (jumps_count b w (case_behind l a) (first + stmt_uses f a) last (omega (arith, lt)) far on (omega (arith, room))) refl in
        let passed = counts_line m (Label fresh) (two ++ Label (fresh + 1) ∷ []) (q + length one + length over) us refl other in
        let rest = counts_behind m over (Label fresh ∷ (two ++ Label (fresh + 1) ∷ [])) (q + length one) us (quiet_way m (fresh + 1) (is_empty b) (λ k. omega (arith, lt, k))) passed in
        let body = counts_both m one (over ++ Label fresh ∷ (two ++ Label (fresh + 1) ∷ [])) q ts us (jumps_count a w l first q (omega (arith, lt)) far on (omega (arith, room))) rest in
        counts_behind m test (one ++ (over ++ Label fresh ∷ (two ++ Label (fresh + 1) ∷ []))) p (ts ++ us) (quiet_test f m (fresh + 1 + 1) fresh false e (omega (arith, lt)) (λ k. omega (arith, lt, k))) body
    jumps_count (while e a) w l fresh p lt far on room =
        let test = expr_code f 0 (fresh + 1 + 1) (Test (fresh + 1) false) e in
        let inner = ways (fresh + 1) fresh w.other in
        let first = fresh + 1 + 1 + uses (Some false) e in
        let one = stmt_code f inner l a first in
        let last = jump Jmp fresh ∷ Label (fresh + 1) ∷ [] in
        let q = suc p + length test in
        let ts = turns_of f inner l a first q in
        let body = counts_before m one last q ts (jumps_count a inner l first q (omega (arith, lt)) (λ k. omega (arith, lt, k)) (λ k. omega (arith, lt, k)) (omega (arith, room))) (quiet_jump m fresh (λ k. omega (arith, lt, k))) in
        let tested = counts_behind m test (one ++ last) (suc p) ts (quiet_test f m (fresh + 1 + 1) (fresh + 1) false e (omega (arith, lt)) (λ k. omega (arith, lt, k))) body in
        counts_more m (stmt_code f w l (while e a) fresh) p (LoopAt p) ts (counts_line m (Label fresh) (test ++ (one ++ last)) p ts refl tested)
    jumps_count (do_while a e) w l fresh p lt far on room =
        let inner = ways (fresh + 1 + 1) (fresh + 1) w.other in
        let first = fresh + 1 + 1 + 1 in
        let one = stmt_code f inner l a first in
        let test = expr_code f 0 (first + stmt_uses f a) (Test fresh true) e in
        let last = Label (fresh + 1) ∷ (test ++ Label (fresh + 1 + 1) ∷ []) in
        let ts = turns_of f inner l a first (suc p) in
        let quiet : Quiet m last = quiet_both m test (Label (fresh + 1 + 1) ∷ []) (quiet_test f m (first + stmt_uses f a) fresh true e (omega (arith, lt)) (λ k. omega (arith, lt, k))) refl in
        let body = counts_before m one last (suc p) ts (jumps_count a inner l first (suc p) (omega (arith, lt)) (λ k. omega (arith, lt, k)) (λ k. omega (arith, lt, k)) (omega (arith, room))) quiet in
        counts_more m (stmt_code f w l (do_while a e) fresh) p (LoopAt p) ts (counts_line m (Label fresh) (one ++ last) p ts refl body)
    jumps_count (for_loop i c n a) w l fresh p lt far on room =
        let head = fresh + effects_uses i in
        let before = effects_code f i fresh in
        let test = guard_code f (head + 1 + 1) c (head + 1 + 1 + 1) in
        let inner = ways (head + 1 + 1) (head + 1) w.other in
        let first = head + 1 + 1 + 1 + guard_uses c in
        let one = stmt_code f inner l a first in
        let next = effects_code f n (first + stmt_uses f a) in
        let ends = jump Jmp head ∷ Label (head + 1 + 1) ∷ [] in
        let last = Label (head + 1) ∷ (next ++ ends) in
        let q = p + length before in
        let ts = turns_of f inner l a first (suc q + length test) in
        let quiet : Quiet m last = quiet_both m next ends (quiet_effects f m (first + stmt_uses f a) n (omega (arith, lt))) (quiet_jump m head (λ k. omega (arith, lt, k))) in
        let body = counts_before m one last (suc q + length test) ts (jumps_count a inner l first (suc q + length test) (omega (arith, lt)) (λ k. omega (arith, lt, k)) (λ k. omega (arith, lt, k)) (omega (arith, room))) quiet in
        let tested = counts_behind m test (one ++ last) (suc q) ts (quiet_guard f m (head + 1 + 1 + 1) (head + 1 + 1) c (omega (arith, lt)) (λ k. omega (arith, lt, k))) body in
        let begun = counts_behind m before (Label head ∷ (test ++ (one ++ last))) p ts (quiet_effects f m fresh i lt) (counts_line m (Label head) (test ++ (one ++ last)) q ts refl tested) in
        counts_more m (stmt_code f w l (for_loop i c n a) fresh) p (LoopAt q) ts begun
    jumps_count (switch e a) w l fresh p lt far on room =
        let before = head_code f e a fresh in
        let inner = ways fresh w.onward (fresh + 1) in
        let one = stmt_code f inner (fresh + 1 + 1) a (fresh + head_uses e a) in
        let q = p + length before in
        let ts = turns_of f inner (fresh + 1 + 1) a (fresh + head_uses e a) q in
        let body = counts_before m one (Label fresh ∷ []) q ts (jumps_count a inner (fresh + 1 + 1) (fresh + head_uses e a) q (omega (arith, lt)) (λ k. omega (arith, lt, k)) on (omega (arith, room))) refl in
        counts_behind m before (one ++ Label fresh ∷ []) p ts (quiet_switch f m fresh e a lt (omega (arith, room))) body
    jumps_count (case z a) w l fresh p lt far on room = counts_line m (Label l) (stmt_code f w (following l) a fresh) p (turns_of f w (following l) a fresh (suc p)) refl (jumps_count a w (following l) fresh (suc p) lt far on room)
    jumps_count (default a) w l fresh p lt far on room = counts_line m (Label w.other) (stmt_code f w l a fresh) p (turns_of f w l a fresh (suc p)) refl (jumps_count a w l fresh (suc p) lt far on room)
    jumps_count (label n a) w l fresh p lt far on room = counts_line m (Label (following n)) (stmt_code f w l a fresh) p (turns_of f w l a fresh (suc p)) refl (jumps_count a w l fresh (suc p) lt far on room)
    jumps_count (goto n) w l fresh p lt far on room = its
      where
        its : Counted m (jump Jmp (following n) ∷ []) p (GotoAt p ∷ [])
        its zero e = moved (GotoAt p ∷ []) p (p + 0) (omega arith) (zero, omega arith, refl)
        its (suc i) e = absurd (none e)
          where
            none : ◌≡◌ {A = Option Line} None (Some (jump Jmp m)) → ⊥
            none e = cc
    jumps_count break w l fresh p lt far on room = quiet_counts m (jump Jmp w.behind ∷ []) p [] (quiet_jump m w.behind far)
    jumps_count continue w l fresh p lt far on room = quiet_counts m (jump Jmp w.onward ∷ []) p [] (quiet_jump m w.onward on)
    jumps_count (return e) w l fresh p lt far on room = quiet_counts m (stmt_code f w l (return e) fresh) p [] (quiet_both m (maybe_code f e fresh) (jump Jmp 0 ∷ []) (quiet_maybe f m fresh e lt) (quiet_jump m 0 some))

    all_count : (ss : Stmts) (w : Ways) (l fresh p : ℕ) → m < fresh → (w.behind ≡ m → ⊥) → (w.onward ≡ m → ⊥) → fresh + stmts_uses f ss ≤ 4294967296 → Counted m (stmts_code f w l ss fresh) p (all_turns_of f w l ss fresh p)
    all_count no_stmts w l fresh p lt far on room = quiet_counts m [] p [] refl
    all_count (and_stmts a ss) w l fresh p lt far on room =
        let one = stmt_code f w l a fresh in
        let q = p + length one in
        counts_both m one (stmts_code f w (case_behind l a) ss (fresh + stmt_uses f a)) p (turns_of f w l a fresh p) (all_turns_of f w (case_behind l a) ss (fresh + stmt_uses f a) q)
        (jumps_count a w l fresh p lt far on (omega (arith, room))) (all_count ss w (case_behind l a) (fresh + stmt_uses f a) q (omega (arith, lt)) far on (omega (arith, room)))

  mutual
    pub last_jumps_count : (s : Stmt) (w : Ways) (l fresh p : ℕ) → m < fresh → (w.behind ≡ m → ⊥) → (w.onward ≡ m → ⊥) → fresh + stmt_uses f s ≤ 4294967296 → Counted m (last_code f w l s fresh) p (turns_of f w l s fresh p)
    last_jumps_count (block os ss) w l fresh p lt far on room = lasts_count ss w l fresh p lt far on room
    last_jumps_count (return e) w l fresh p lt far on room = quiet_counts m (maybe_code f e fresh) p [] (quiet_maybe f m fresh e lt)
    last_jumps_count empty w l fresh p lt far on room = jumps_count empty w l fresh p lt far on room
    last_jumps_count (eval e) w l fresh p lt far on room = jumps_count (eval e) w l fresh p lt far on room
    last_jumps_count (set_part i o e) w l fresh p lt far on room = jumps_count (set_part i o e) w l fresh p lt far on room
    last_jumps_count (clear i) w l fresh p lt far on room = jumps_count (clear i) w l fresh p lt far on room
    last_jumps_count (if_stmt e a b) w l fresh p lt far on room = jumps_count (if_stmt e a b) w l fresh p lt far on room
    last_jumps_count (while e a) w l fresh p lt far on room = jumps_count (while e a) w l fresh p lt far on room
    last_jumps_count (do_while a e) w l fresh p lt far on room = jumps_count (do_while a e) w l fresh p lt far on room
    last_jumps_count (for_loop i c n a) w l fresh p lt far on room = jumps_count (for_loop i c n a) w l fresh p lt far on room
    last_jumps_count (switch e a) w l fresh p lt far on room = jumps_count (switch e a) w l fresh p lt far on room
    last_jumps_count (case z a) w l fresh p lt far on room = jumps_count (case z a) w l fresh p lt far on room
    last_jumps_count (default a) w l fresh p lt far on room = jumps_count (default a) w l fresh p lt far on room
    last_jumps_count (label n a) w l fresh p lt far on room = jumps_count (label n a) w l fresh p lt far on room
    last_jumps_count (goto n) w l fresh p lt far on room = jumps_count (goto n) w l fresh p lt far on room
    last_jumps_count break w l fresh p lt far on room = jumps_count break w l fresh p lt far on room
    last_jumps_count continue w l fresh p lt far on room = jumps_count continue w l fresh p lt far on room

    lasts_count : (ss : Stmts) (w : Ways) (l fresh p : ℕ) → m < fresh → (w.behind ≡ m → ⊥) → (w.onward ≡ m → ⊥) → fresh + stmts_uses f ss ≤ 4294967296 → Counted m (lasts_code f w l ss fresh) p (all_turns_of f w l ss fresh p)
    lasts_count no_stmts w l fresh p lt far on room = quiet_counts m [] p [] refl
    lasts_count (and_stmts a no_stmts) w l fresh p lt far on room = λ i e. Contains-append_left (turns_of f w l a fresh p) [] (GotoAt (p + i)) (last_jumps_count a w l fresh p lt far on (omega (arith, room)) i e)
    lasts_count (and_stmts a (and_stmts b ss)) w l fresh p lt far on room =
        let one = stmt_code f w l a fresh in
        let more = and_stmts b ss in
        let q = p + length one in
        counts_both m one (lasts_code f w (case_behind l a) more (fresh + stmt_uses f a)) p (turns_of f w l a fresh p) (all_turns_of f w (case_behind l a) more (fresh + stmt_uses f a) q)
        (jumps_count a w l fresh p lt far on (omega (arith, room))) (lasts_count (and_stmts b ss) w (case_behind l a) (fresh + stmt_uses f a) q (omega (arith, lt)) far on (omega (arith, room)))
