-- Where the bytes that are kept of a file end, and what is read there.
use Rattle.std.specs.Prelude.{◌≤◌, ℕ, List, [], ◌∷◌, length, take, ◌==◌, nat_lt, if◌then◌else◌, ⊤}
use Rattle.c65_base.specs.Limits.{limit_of}
use Rattle.c65_base.specs.declared.refusal.Size.TheVariants.{File}
use Rattle.c65_lex.specs.Cells.{line_after}
use Rattle.c65_lex.specs.declared.token.PpToken.{PpToken}
use Rattle.c65_macro.specs.Table.{is_line_end}
use Rattle.c65_ppline.specs.declared.calls.Lexed.{Lexed}
use Rattle.c65_ppline.specs.declared.calls.Lexed.TheVariants as lexeds
use Rattle.c65_ppline.specs.declared.line.Cut.{Cut}
use Rattle.c65_ppline.specs.declared.line.Cut.TheVariants as cuts
use Rattle.c65_pptext.specs.declared.ending.Ending.{Ending}
use Rattle.c65_pptext.specs.declared.ending.Ending.TheVariants.{Whole, Long}
use Rattle.c65_pptext.specs.declared.ending.Read.{Read}
use Rattle.c65_pptext.specs.declared.ending.Read.TheVariants as reads

-- as many bytes as a file may have
abbrev pub kept : List ℕ → List ℕ
kept bytes = take (limit_of File) bytes

-- the number of the line behind bytes that begin on a line
abbrev pub line_behind : ℕ → List ℕ → ℕ
line_behind line [] = line
line_behind line (b ∷ bs) = line_behind (line_after b line) bs

abbrev pub ending_in : List ℕ → Ending
ending_in bytes = if nat_lt (limit_of File) (length bytes) then Long (line_behind 1 (kept bytes)) else Whole

-- the end of a comment may stand behind the bytes that are kept
abbrev pub beyond : Cut → Cut
beyond (cuts.OpenComment place) = cuts.LongFile
beyond cuts.LongLine = cuts.LongLine
beyond cuts.LongFile = cuts.LongFile
beyond cuts.Names = cuts.Names

-- The end of the bytes that are kept is the end of no line: the last line goes on.
abbrev pub line_end : Ending → PpToken → Read
line_end Whole t = reads.LineEnd t
line_end (Long line) t = if t.pos.line == line then reads.Cut cuts.LongFile else reads.LineEnd t

abbrev pub at_end : Ending → Read
at_end Whole = reads.End
at_end (Long line) = reads.Cut cuts.LongFile

abbrev pub cut_off : Ending → Cut → Cut
cut_off Whole cut = cut
cut_off (Long line) cut = beyond cut

abbrev pub read_of : Ending → Lexed → Read
read_of ending (lexeds.Token t) = if is_line_end t then line_end ending t else reads.Token t
read_of ending lexeds.End = at_end ending
read_of ending (lexeds.Cut cut) = reads.Cut (cut_off ending cut)

-- bytes on a line or behind it are the last that are kept
abbrev pub EndsFrom : ℕ → Ending → Type 0
EndsFrom line Whole = ⊤
EndsFrom line (Long last) = line ≤ last
