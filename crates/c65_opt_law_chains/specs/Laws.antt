-- Rules that send jumps on: what a run comes to before it has ended.
use Rattle.std.specs.Prelude.{◌≡◌, ℕ, ◌+◌, ◌≤◌, Bool, IsTrue, List, [], None, Some, length}
use Rattle.c65_code.specs.declared.code.Code.{Code}
use Rattle.c65_code.specs.declared.line.Line.{Line}
use Rattle.c65_code.specs.declared.line.Sym.{Sym}
use Rattle.c65_code.specs.declared.parts.RegSet.{RegSet}
use Rattle.c65_code.specs.Comes.{Seen, Shown, ComesFrom}
use Rattle.c65_code.specs.Follows.{Grows, through, Follows}
use Rattle.c65_code.specs.LineState.{State}
use Rattle.c65_code.specs.Placement.{Placement, Setting, setting_of, IsPlacement}
use Rattle.c65_code.specs.Rewriting.{with_lines, mapped_in}
use Rattle.c65_code.specs.Segments.{IsSegment}
use Rattle.c65_know.specs.Known.{annotated}
use Rattle.c65_live.specs.Tables.{Table, IsLiveTable}
use Rattle.c65_pass.specs.Rewriting.{Rewriting, rewritten}
use Rattle.c65_pass.specs.Rules.{match_at}
use Rattle.c65_opt_law_follow.specs.Laws.{IsSound, IsApt}

-- a test that is passed before the end alone
abbrev pub IsBeforeEnd : (Shown → Seen → Bool) → Type 0
IsBeforeEnd test = (shown : Shown) (seen : Seen) → IsTrue (test shown seen) → shown.ended ≡ None

-- As `Follows`, but that arrivals are told before the end alone. A run that ends in a call is said to arrive at the line behind it,
-- at which it does nothing more: where this is a jump to which others were sent, no other line is as often arrived at.
pub record FollowsUntilEnd (map : ℕ → ℕ → ℕ) (more : ℕ) (old new : Setting) (main : ℕ) : Type 0 where
  pub by : (test : Shown → Bool) (w : ℕ) (t : State) → t.frames ≡ [] → t.pushed ≡ [] → ComesFrom old main (λ shown seen. test shown) w t → ComesFrom new main (λ shown seen. test shown) w t
  pub turns : (test : Shown → Seen → Bool) → Grows test → IsBeforeEnd test → (w : ℕ) (t : State) → t.frames ≡ [] → t.pushed ≡ [] → ComesFrom old main test w t → ComesFrom new main (λ shown seen. test shown (through map seen)) (w + more) t

-- one map and one weight serve at every placement of the old code
pub record FollowsUntilEndEverywhere (old new : Code) (main : ℕ) : Type 0 where
  pub map : ℕ → ℕ → ℕ
  pub more : ℕ
  pub at : (place : Placement) → IsPlacement old place → FollowsUntilEnd map more (setting_of old place) (setting_of new place) main

-- one map of places and one weight more serve in all codes of a kind
pub record IsFollowedUntilEnd (kind : Setting → Type 0) (f main : ℕ) (old new : List Line) : Type 0 where
  pub map : ℕ → ℕ
  pub more : ℕ
  pub follows : (s : Setting) → kind s → FollowsUntilEnd (mapped_in f map) more (with_lines s f old) (with_lines s f new) main

-- Where the rule matches in lines of a function, with their notes and their live table, each code with what it makes of them follows
-- the code with these lines, with the arrivals before the end.
abbrev pub RuleIsFollowedUntilEnd : ℕ → Type 0
RuleIsFollowedUntilEnd rule = (f main : ℕ) (out : RegSet) (literals : List (Sym × List ℕ)) (lines : List Line) (table : Table) (at : ℕ) (w : Rewriting)
    → IsSegment lines → IsLiveTable lines out table → match_at rule literals (annotated lines out) table at ≡ Some w
    → IsSound (rewritten lines w) → 1 ≤ length (rewritten lines w) → IsFollowedUntilEnd (λ s. IsApt f out (with_lines s f lines)) f main lines (rewritten lines w)

-- What follows another code does so until the end.
abbrev pub FollowingHolds : Type 0
FollowingHolds = (map : ℕ → ℕ → ℕ) (more : ℕ) (old new : Setting) (main : ℕ) → Follows map more old new main → FollowsUntilEnd map more old new main

-- Where a code follows a second one until the end, and this a third, it follows the third: the maps one behind the other, and the
-- weights added.
abbrev pub FollowingUntilEndComposes : Type 0
FollowingUntilEndComposes = (first second : ℕ → ℕ → ℕ) (more rest : ℕ) (a b c : Setting) (main : ℕ) → FollowsUntilEnd first more a b main → FollowsUntilEnd second rest b c main
    → FollowsUntilEnd (λ f p. second f (first f p)) (more + rest) a c main
