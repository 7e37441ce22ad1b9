-- Rewriting by one rule in a single walk over the lines.
use Rattle.std.specs.Prelude.{◌≡◌, ℕ, suc, ◌+◌, ◌<◌, ◌≤◌, All, List, Some, None, length}
use Rattle.c65_code.specs.declared.line.Line.{Line}
use Rattle.c65_code.specs.declared.line.Sym.{Sym}
use Rattle.c65_code.specs.declared.parts.RegSet.{RegSet}
use Rattle.c65_code.specs.Segments.{IsSegment}
use Rattle.c65_code.specs.Weights.{lines_size}
use Rattle.c65_code.specs.Writable.{IsLineWritable}
use Rattle.c65_know.specs.Known.{Annotated, known_of, annotated}
use Rattle.c65_live.specs.Tables.{Table}
use Rattle.c65_pass.specs.Passes.{IsTableOf, Rewrites, counted}
use Rattle.c65_pass.specs.Rewriting.{Rewriting, rewritten}
use Rattle.c65_pass.specs.Rules.{match_at}

-- what a rewriting at a place keeps of the lines of a segment, where the rule may add lines
pub record Stays (lines : List Line) (at : ℕ) (w : Rewriting) : Type 0 where
  pub here : w.at ≡ at
  pub some : 0 < w.count
  pub within : w.at + w.count ≤ length lines
  pub segment : IsSegment (rewritten lines w)
  pub size : lines_size (rewritten lines w) ≤ lines_size lines
  pub writable : (n : ℕ) → All (IsLineWritable n) lines → All (IsLineWritable n) (rewritten lines w)

-- what each rewriting of a rule keeps that walks once
abbrev pub IsGoodOnce : ℕ → List (Sym × List ℕ) → Type 0
IsGoodOnce rule literals = (noted : Annotated) (table : Table) (at : ℕ) (w : Rewriting) → IsSegment noted.lines
    → noted.notes ≡ known_of noted.lines → IsTableOf noted table → match_at rule literals noted table at ≡ Some w → Stays noted.lines at w

-- A walk from a place on makes so many rewritings, and then these lines stand. Where the rule matches it rewrites, by the notes
-- and the table of the lines as they stand then, and goes on behind the lines that it put in; else it goes on to the next line.
pub data Once (rule : ℕ) (literals : List (Sym × List ℕ)) (out : RegSet) (new : List Line) : ℕ → List Line → ℕ → Type 0 where
  ends : {at : ℕ} → length new ≤ at → Once rule literals out new at new 0
  passes : {at n : ℕ} {lines : List Line} (table : Table) → at < length lines → IsTableOf (annotated lines out) table
      → match_at rule literals (annotated lines out) table at ≡ None → Once rule literals out new (at + 1) lines n → Once rule literals out new at lines n
  makes : {at n : ℕ} {lines : List Line} {w : Rewriting} (table : Table) → IsTableOf (annotated lines out) table
      → match_at rule literals (annotated lines out) table at ≡ Some w
      → Once rule literals out new (w.at + length w.lines) (rewritten lines w) n → Once rule literals out new at lines (suc n)

-- what stands after one walk, by the count of its rewritings
pub record IsOnce (rule : ℕ) (literals : List (Sym × List ℕ)) (out : RegSet) (old new : List Line) (answer : ℕ) : Type 0 where
  pub times : ℕ
  pub once : Once rule literals out new 0 old times
  pub chain : Rewrites rule literals out old times new
  pub made : answer ≡ counted times
  pub segments : IsSegment old × IsSegment new
  pub extent : lines_size new ≤ lines_size old
  pub writable : (n : ℕ) → All (IsLineWritable n) old → All (IsLineWritable n) new
