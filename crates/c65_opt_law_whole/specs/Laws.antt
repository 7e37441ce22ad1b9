-- What the optimiser makes of a whole code follows it, by what each rule makes of lines.
use Rattle.std.specs.Prelude.{◌≡◌, ℕ, ◌≤◌, true, List, [], ◌∷◌, Some, slice_get, length}
use Rattle.c65_base.specs.declared.options.Options.{Options}
use Rattle.c65_code.specs.declared.code.Code.{Code}
use Rattle.c65_code.specs.declared.code.DataCell.{DataCell}
use Rattle.c65_code.specs.declared.code.DataCell.TheVariants.{Byte, Address}
use Rattle.c65_code.specs.declared.code.Datum.{Datum}
use Rattle.c65_code.specs.declared.code.DatumKind.TheVariants.{Const}
use Rattle.c65_code.specs.declared.line.Line.{Line}
use Rattle.c65_code.specs.declared.line.Sym.{Sym}
use Rattle.c65_code.specs.declared.parts.RegSet.{RegSet}
use Rattle.c65_code.specs.Literals.{is_literal, literals_of}
use Rattle.c65_code.specs.Named.{IsNamed}
use Rattle.c65_code.specs.Placement.{Setting}
use Rattle.c65_code.specs.Rewriting.{HasLiterals, with_lines}
use Rattle.c65_code.specs.Segments.{IsSegment}
use Rattle.c65_asm_law_names.specs.Numbers.{HasSegment, IsClosed}
use Rattle.c65_know.specs.Known.{annotated}
use Rattle.c65_live.specs.Tables.{Table, IsLiveTable}
use Rattle.c65_optimise.specs.Optimised.{IsOptimised}
use Rattle.c65_pass.specs.Once.{Once, IsGoodOnce}
use Rattle.c65_pass.specs.Passes.{Rewrites, IsGood}
use Rattle.c65_pass.specs.Rewriting.{Rewriting, rewritten}
use Rattle.c65_pass.specs.Rules.{match_at}
use Rattle.c65_opt_law_chains.specs.Laws.{FollowsUntilEndEverywhere, IsFollowedUntilEnd}
use Rattle.c65_opt_law_follow.specs.Laws.{AreByteLines, IsSound, IsApt}

-- a code in which a function that gives `out` has these lines, at a placement where these literals stand
pub record IsCodeWith (literals : List (Sym × List ℕ)) (f : ℕ) (out : RegSet) (lines : List Line) (s : Setting) : Type 0 where
  pub literal_bytes : HasLiterals literals s.place
  pub apt : IsApt f out (with_lines s f lines)

-- Where the rule matches in lines of a function, with these literals, each code with what it makes of them follows the code with these
-- lines, with the arrivals before the end.
abbrev pub RuleServes : List (Sym × List ℕ) → ℕ → Type 0
RuleServes literals rule = (f main : ℕ) (out : RegSet) (lines : List Line) (table : Table) (at : ℕ) (w : Rewriting)
    → IsSegment lines → IsLiveTable lines out table → match_at rule literals (annotated lines out) table at ≡ Some w
    → IsSound (rewritten lines w) → 1 ≤ length (rewritten lines w) → IsFollowedUntilEnd (IsCodeWith literals f out lines) f main lines (rewritten lines w)

-- the numbers in what the rule makes are bytes where those in the lines are
abbrev pub RuleKeepsBytes : List (Sym × List ℕ) → ℕ → Type 0
RuleKeepsBytes literals rule = (out : RegSet) (lines : List Line) (table : Table) (at : ℕ) (w : Rewriting)
    → AreByteLines lines → match_at rule literals (annotated lines out) table at ≡ Some w → AreByteLines (rewritten lines w)

-- a segment that may stand for a function's lines, and that is followed there, in all codes by one map of places
pub record IsMadeOf (literals : List (Sym × List ℕ)) (f main : ℕ) (out : RegSet) (old new : List Line) : Type 0 where
  pub segment : IsSegment new
  pub sound : IsSound new
  pub followed : IsFollowedUntilEnd (IsCodeWith literals f out old) f main old new

-- By rewritings of a rule, as many as they are, a function's lines come to such ones.
abbrev pub RewritesAreFollowed : Type 0
RewritesAreFollowed = (rule : ℕ) (literals : List (Sym × List ℕ)) → RuleServes literals rule → RuleKeepsBytes literals rule → IsGood rule literals
    → (f main : ℕ) (out : RegSet) (old : List Line) (n : ℕ) (new : List Line) → IsSegment old → AreByteLines old
    → Rewrites rule literals out old n new → IsMadeOf literals f main out old new

-- So they do by one walk of a rule over them.
abbrev pub WalksAreFollowed : Type 0
WalksAreFollowed = (rule : ℕ) (literals : List (Sym × List ℕ)) → RuleServes literals rule → RuleKeepsBytes literals rule → IsGoodOnce rule literals
    → (f main : ℕ) (out : RegSet) (old : List Line) (n : ℕ) (new : List Line) → IsSegment old → AreByteLines old
    → Once rule literals out new 0 old n → IsMadeOf literals f main out old new

-- bytes alone, with no address among them
abbrev pub AreByteCells : List DataCell → Type 0
AreByteCells [] = Unit {0}
AreByteCells (Byte v ∷ cells) = AreByteCells cells
AreByteCells (Address sym offset ∷ cells) = ⊥

-- data that nothing changes, of bytes alone
pub record IsLiteralData (datum : Datum) : Type 0 where
  pub constant : datum.kind ≡ Const
  pub bytes : AreByteCells datum.cells

-- the data of the symbols that are marked as literals are such
abbrev pub HasConstantLiterals : Code → Type 0
HasConstantLiterals code = (i : ℕ) (datum : Datum) → slice_get code.datums i ≡ Some datum → is_literal code.symbols datum.sym ≡ true → IsLiteralData datum

-- where the options ask for calls to be opened, the rules that open them serve
pub record CallsServe (options : Options) (literals : List (Sym × List ℕ)) : Type 0 where
  pub routines : options.inline_more ≡ true → RuleServes literals 39
  pub library : options.known_functions ≡ true → RuleServes literals 40

-- At each placement the code that the optimiser makes of another one, whose literals are constant, follows that one, by one map of places.
abbrev pub OptimisedIsFollowed : Type 0
OptimisedIsFollowed = (options : Options) (old new : Code) (main : ℕ) → HasConstantLiterals old → IsOptimised options old new
    → CallsServe options (literals_of old.symbols old.datums) → FollowsUntilEndEverywhere old new main

-- It names nothing that that one does not name.
abbrev pub OptimisedNamesNothing : Type 0
OptimisedNamesNothing = (options : Options) (old new : Code) → IsOptimised options old new → (f : ℕ) → IsNamed new f → IsNamed old f

-- A function that has lines in that code has some in it.
abbrev pub OptimisedKeepsFunctions : Type 0
OptimisedKeepsFunctions = (options : Options) (old new : Code) → IsOptimised options old new → (f : ℕ) → HasSegment old f → HasSegment new f

-- So where each symbol that the lines or the data of that code name has a body, each one that its own lines or data name has one.
abbrev pub OptimisedIsClosed : Type 0
OptimisedIsClosed = (options : Options) (old new : Code) → IsOptimised options old new → IsClosed old → IsClosed new
