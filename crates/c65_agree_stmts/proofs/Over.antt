-- The end of the first arm of an `if`: a jump leads over the second one, and where that is empty nothing does.
use Rattle.std.proofs.Common.{◌≡◌, ℕ, suc, ◌+◌, Bool, true, false, List, [], ◌∷◌, ◌++◌, refl, ap, ◌∙◌, arith}
use Rattle.std.specs.Prelude.{length}
use Rattle.c65_csem.specs.Trees.{Stmt, empty, eval, set_part, clear, block, if_stmt, while, do_while, for_loop, switch, case, default, label, goto, break, continue, return}
use Rattle.c65_meaning.specs.Items.{Item}
use Rattle.c65_meaning.specs.State.{Running}
use Rattle.c65_code.specs.declared.line.Line.{Line}
use Rattle.c65_code.specs.declared.line.Line.TheVariants.{Label}
use Rattle.c65_genframe.specs.Frames.{Framed}
use Rattle.c65_genstmt.specs.declared.jumps.Ways.{Ways}
use Rattle.c65_genstmt.specs.Stmts.{is_empty}
use Rattle.c65_agree_state.specs.World.{lines_of, place_in, HasAt, IsPlaced}
use Rattle.c65_agree_state.proofs.Followed.{follows_weaken}
use Rattle.c65_agree_state.proofs.Nodes.{has_back}
use Rattle.c65_agree_lines.specs.Lists.{way_code, stmt_code}
use Rattle.c65_agree_stmts.specs.Calling.{Calling}
use Rattle.c65_agree_stmts.proofs.Standing.{jumps, come_turns}
use Rattle.c65_agree_stmts.proofs.Ahead.{onward, passed, behind_label, Goes}

not_empty : (n : ℕ) → false ≡ true → n ≡ 0
not_empty n h = cc

-- an empty statement has no lines
pub no_lines_of : (f : Framed) (w : Ways) (l : ℕ) (s : Stmt) (fresh : ℕ) → is_empty s ≡ true → length (stmt_code f w l s fresh) ≡ 0
no_lines_of f w l empty fresh h = refl
no_lines_of f w l (eval e) fresh h = not_empty _ h
no_lines_of f w l (set_part i o e) fresh h = not_empty _ h
no_lines_of f w l (clear i) fresh h = not_empty _ h
no_lines_of f w l (block os ss) fresh h = not_empty _ h
no_lines_of f w l (if_stmt e a b) fresh h = not_empty _ h
no_lines_of f w l (while e a) fresh h = not_empty _ h
no_lines_of f w l (do_while a e) fresh h = not_empty _ h
no_lines_of f w l (for_loop i c n a) fresh h = not_empty _ h
no_lines_of f w l (switch e a) fresh h = not_empty _ h
no_lines_of f w l (case z a) fresh h = not_empty _ h
no_lines_of f w l (default a) fresh h = not_empty _ h
no_lines_of f w l (label n a) fresh h = not_empty _ h
no_lines_of f w l (goto n) fresh h = not_empty _ h
no_lines_of f w l break fresh h = not_empty _ h
no_lines_of f w l continue fresh h = not_empty _ h
no_lines_of f w l (return o) fresh h = not_empty _ h

-- behind the first arm what follows both of them is followed, with weight for the jump
pub goes_over : (x : Calling) (scope : List ℕ) (k : List Item) (over : Bool) (first end : ℕ) (B : List Line) (n v p : ℕ) → IsPlaced (lines_of x.world x.active) → (over ≡ true → length B ≡ 0)
    → HasAt (lines_of x.world x.active) p (way_code over end ++ Label first ∷ (B ++ Label end ∷ []))
    → Goes x n v scope k (suc (suc (p + length (way_code over end)) + length B)) → Goes x n (1 + v) scope k p
goes_over x scope k false first end B n v p placed none has goes j c q b t seen lt stands turns =
    let code = lines_of x.world x.active in
    let there = has_back code (suc (suc p)) B (Label end ∷ []) has.1.1 in
    let behind : suc (suc (suc p) + length B) ≡ suc (suc (p + 1) + length B) = omega arith in
    jumps x scope c q b t stands j v c.turns p end (Running k x.values c) seen has.0 turns (λ come.
    onward x.world x.active j v c.turns (Running k x.values c) _ _ t _ (behind_label x.world x.active placed (suc (suc p) + length B) end there.0 ∙ ap (place_in x.world x.active) behind) (goes j c q b t _ lt stands) (come_turns x.world c.turns _ _ come))
goes_over x scope k true first end B n v p placed none has goes j c q b t seen lt stands turns =
    let code = lines_of x.world x.active in
    let there = has_back code (suc p) B (Label end ∷ []) has.1 in
    let no_lines : suc p ≡ suc p + length B = omega (arith, none refl) in
    let behind : suc (suc p + length B) ≡ suc (suc (p + 0) + length B) = omega arith in
    follows_weaken x.world j v (1 + v) _ _ t seen (omega arith)
    (onward x.world x.active j v c.turns (Running k x.values c) _ _ t seen
    (passed x.world x.active p first has.0 ∙ (ap (place_in x.world x.active) no_lines ∙ (passed x.world x.active (suc p + length B) end there.0 ∙ ap (place_in x.world x.active) behind)))
    (goes j c q b t seen lt stands) turns)
