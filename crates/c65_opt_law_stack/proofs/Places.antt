-- Windows of a function's lines.
use Rattle.std.proofs.Common.{◌≡◌, ℕ, zero, suc, ◌+◌, ◌≤◌, List, [], ◌∷◌, ◌++◌, length, Some, refl, sym, subst, ap}
use Rattle.std.specs.Prelude.{slice_get, take, drop}
use Rattle.c65_code.specs.declared.line.Line.{Line}
use Rattle.c65_code.specs.declared.line.Sym.{Sym}
use Rattle.c65_code.specs.declared.parts.RegSet.{RegSet}
use Rattle.c65_code.specs.Placement.{Setting}
use Rattle.c65_code.specs.Rewriting.{with_lines}
use Rattle.c65_know.specs.Known.{annotated}
use Rattle.c65_know_law.specs.Laws.{Knows}
use Rattle.c65_live.specs.Tables.{Table, IsLiveTable, live_after}
use Rattle.c65_pass.specs.Rewriting.{Rewriting, rewritten}
use Rattle.c65_pass.specs.Rules.{made_by, match_there, match_at}
use Rattle.c65_opt_law_follow.specs.Windows.{WayOut, AreInner, Justified}
use Rattle.c65_opt_law_follow.specs.Laws.{IsSound, IsApt, exit_place, before_place}
use Rattle.c65_opt_law_follow.proofs.Walks.{HasAt}
use Rattle.c65_opt_law_kept.specs.Laws.{IsFollowedBy}
use Rattle.c65_opt_law_kept.proofs.Kept.{window_is_followed}
use Rattle.c65_opt_law_stack.proofs.Windows.{justified_knowing}

pub at_line : (rule : ℕ) (out : RegSet) (literals : List (Sym × List ℕ)) (lines : List Line) (table : Table) (at : ℕ) (w : Rewriting) (P : Type 0)
    → ((line : Line) (post : List Line) → drop at lines ≡ line ∷ post → made_by rule literals (annotated lines out) table at line post ≡ Some w → P)
    → match_at rule literals (annotated lines out) table at ≡ Some w → P
at_line rule out literals lines table at w P owed m = go (drop at lines) refl m
  where
    go : (rest : List Line) → drop at lines ≡ rest → match_there rule literals (annotated lines out) table at rest ≡ Some w → P
    go [] e k = absurd cc
    go (line ∷ post) e k = owed line post e k

-- the lines at a place stand there
head_at : (lines : List Line) (at : ℕ) (line : Line) (post : List Line) → drop at lines ≡ line ∷ post → slice_get lines at ≡ Some line
head_at [] zero line post e = absurd cc
head_at [] (suc at) line post e = absurd cc
head_at (l ∷ lines) zero line post e = let same : l ≡ line = cc in ap Some same
head_at (l ∷ lines) (suc at) line post e = head_at lines at line post e

tail_at : (lines : List Line) (at : ℕ) (line : Line) (post : List Line) → drop at lines ≡ line ∷ post → drop (suc at) lines ≡ post
tail_at [] zero line post e = absurd cc
tail_at [] (suc at) line post e = absurd cc
tail_at (l ∷ lines) zero line post e = let same : lines ≡ post = cc in same
tail_at (l ∷ lines) (suc at) line post e = tail_at lines at line post e

pub has_at : (lines : List Line) (at : ℕ) (ls post : List Line) → drop at lines ≡ ls ++ post → HasAt lines at ls
has_at lines at [] post e = tt
has_at lines at (l ∷ ls) post e = (head_at lines at l (ls ++ post) e, has_at lines (suc at) ls post (tail_at lines at l (ls ++ post) e))

module _ (f main : ℕ) (out : RegSet) (lines : List Line) (table : Table) (at : ℕ) (w : Rewriting) (is : IsLiveTable lines out table) (sound : IsSound (rewritten lines w)) (more : 1 ≤ length (rewritten lines w)) where
  -- what is justified for the lines at a place, whatever is live and with nothing known there, is followed
  pub window_goes : (count : ℕ) (old new : List Line) → take count (drop at lines) ≡ old → 1 ≤ count → at + count ≤ length lines → record { at = at; count = count; lines = new } ≡ w → AreInner old → AreInner new
      → ((s : Setting) → IsApt f out (with_lines s f lines) → (to : WayOut → ℕ) (after : WayOut → RegSet) → Justified (with_lines s f lines) to after (λ t. Unit {0}) old new) → IsFollowedBy f main out lines (rewritten lines w)
  window_goes count old new e some within made inner new_inner justified =
      subst (λ (x : Rewriting). IsFollowedBy f main out lines (rewritten lines x)) made
      (window_is_followed f main out lines table at (record { at = at; count = count; lines = new }) is refl some within (subst AreInner (sym e) inner) new_inner
      (subst (λ (x : Rewriting). IsSound (rewritten lines x)) (sym made) sound) (subst (λ (x : Rewriting). 1 ≤ length (rewritten lines x)) (sym made) more)
      (λ s apt. subst (λ (x : List Line). Justified (with_lines s f lines) (exit_place lines (at + count)) (λ e. before_place out lines (live_after table) (exit_place lines (at + count) e)) (Knows lines at) x new) (sym e)
      (justified_knowing (with_lines s f lines) (exit_place lines (at + count)) (λ e. before_place out lines (live_after table) (exit_place lines (at + count) e)) (Knows lines at) old new
      (justified s apt (exit_place lines (at + count)) (λ e. before_place out lines (live_after table) (exit_place lines (at + count) e))))))
