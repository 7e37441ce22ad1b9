-- Rules whose lines are followed wherever they stand for others.
use Rattle.std.specs.Prelude.{◌≡◌, ℕ, ◌+◌, ◌≤◌, List, [], ◌∷◌, Some, length}
use Rattle.c65_code.specs.declared.line.Line.{Line}
use Rattle.c65_code.specs.declared.line.Sym.{Sym}
use Rattle.c65_code.specs.declared.parts.RegSet.{RegSet}
use Rattle.c65_code.specs.Follows.{Follows}
use Rattle.c65_code.specs.Placement.{Setting}
use Rattle.c65_code.specs.Rewriting.{with_lines, mapped_in}
use Rattle.c65_code.specs.Segments.{IsSegment}
use Rattle.c65_know.specs.Known.{annotated}
use Rattle.c65_live.specs.Tables.{Table, IsLiveTable}
use Rattle.c65_pass.specs.Rewriting.{Rewriting, rewritten}
use Rattle.c65_pass.specs.Rules.{match_at}
use Rattle.c65_opt_law_follow.specs.Laws.{IsSound, IsApt}

-- one map of places and one weight more serve in all codes in which a function that gives `out` has the old lines
pub record IsFollowedBy (f main : ℕ) (out : RegSet) (old new : List Line) : Type 0 where
  pub map : ℕ → ℕ
  pub more : ℕ
  pub follows : (s : Setting) → IsApt f out (with_lines s f old) → Follows (mapped_in f map) more (with_lines s f old) (with_lines s f new) main

-- Where the rule matches in lines of a function, with their notes and their live table, each code with what it makes of them follows
-- the code with these lines.
abbrev pub RuleIsFollowed : ℕ → Type 0
RuleIsFollowed rule = (f main : ℕ) (out : RegSet) (literals : List (Sym × List ℕ)) (lines : List Line) (table : Table) (at : ℕ) (w : Rewriting)
    → IsSegment lines → IsLiveTable lines out table → match_at rule literals (annotated lines out) table at ≡ Some w
    → IsSound (rewritten lines w) → 1 ≤ length (rewritten lines w) → IsFollowedBy f main out lines (rewritten lines w)
