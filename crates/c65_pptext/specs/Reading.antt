-- What is left of a file's text where files tell what they hold, and what is read next of it.
use Rattle.std.specs.Prelude.{◌≡◌, ◌≤◌, ◌<◌, ◌+◌, ◌-◌, ℕ, List, [], length, take, drop, unwrap_or, Bool, Option, Some, None, Result, Ok, Err}
use Rattle.c65_base.specs.Limits.{limit_of}
use Rattle.c65_base.specs.declared.refusal.Refusal.{Refusal}
use Rattle.c65_base.specs.declared.refusal.Size.TheVariants.{File}
use Rattle.c65_lex.specs.Next.{Next}
use Rattle.c65_lex.specs.Unread.{Unread, unread}
use Rattle.c65_pieces.specs.Lines.{IsNextByLines}
use Rattle.c65_pieces.specs.Pieces.{Pieces, TakesPiece, IsFinished, ahead_of, nothing_given}
use Rattle.c65_pieces.specs.Answers.{IsWaiting}
use Rattle.c65_ppline.specs.declared.calls.Lexed.{Lexed}
use Rattle.c65_ppline.specs.Lexing.{Lexing, lexing, lexed}
use Rattle.c65_ppline.specs.Relations.{IsFree}
use Rattle.c65_pptext.specs.declared.ending.Ending.{Ending}
use Rattle.c65_pptext.specs.declared.ending.Ending.TheVariants.{Whole}
use Rattle.c65_pptext.specs.declared.ending.Read.{Read}
use Rattle.c65_pptext.specs.declared.ending.Read.TheVariants as reads
use Rattle.c65_pptext.specs.declared.text.FileText.{FileText}
use Rattle.c65_pptext.specs.Kept.{EndsFrom, kept, line_behind, ending_in, read_of}

-- the bytes of each path
abbrev pub Held : Type 0
Held = List ℕ → Option (List ℕ)

-- the cells ahead of a text, and where the bytes that are kept of it end
pub record TextLeft : Type 0 where
  pub unread : Unread
  pub ending : Ending

-- a text of these bytes, of which nothing was read
abbrev pub text_of : ℕ → List ℕ → TextLeft
text_of number bytes = record { unread = unread number (kept bytes); ending = ending_in bytes }

-- what is left of a text that is given in pieces, where it goes on with these bytes
abbrev pub unread_of : Pieces → List ℕ → Unread
unread_of p more = record { file = p.file; cells = ahead_of p more }

abbrev pub ending_for : List ℕ → Option Ending → Ending
ending_for bytes None = ending_in bytes
ending_for bytes (Some ending) = ending

abbrev pub left_of : List ℕ → FileText → TextLeft
left_of bytes t = record { unread = unread_of t.lexer (drop t.at (kept bytes)); ending = ending_for bytes t.ending }

abbrev pub bytes_of : Held → FileText → List ℕ
bytes_of held t = unwrap_or (held t.path) []

-- what is left of a text, in whichever pieces it was read so far
abbrev pub text_as : Held → FileText → TextLeft
text_as held t = left_of (bytes_of held t) t

-- the file is there, and its first bytes were given
pub record IsOnWay (held : Held) (t : FileText) : Type 0 where
  pub there : held t.path ≡ Some (bytes_of held t)
  pub within : t.at ≤ length (kept (bytes_of held t))
  pub line_is : t.line ≡ line_behind 1 (take t.at (kept (bytes_of held t)))

-- the text agrees with the files: the rest is to be read, or all of it was given
abbrev pub Agrees : Held → FileText → Option Ending → Type 0
Agrees held t None = IsOnWay held t
Agrees held t (Some ending) = t.lexer.edge ≡ None

abbrev pub IsTold : Held → FileText → Type 0
IsTold held t = (t.lexer.file ≡ t.number) × Agrees held t t.ending

-- the text is told, and what is left of it is what was left
abbrev pub IsSame : Held → FileText → FileText → Type 0
IsSame held old new = IsTold held new × (text_as held new ≡ text_as held old)

-- These bytes stand from a place on, within those that are kept where the place is; there are none only at the end.
pub record IsReadBehind (bytes : List ℕ) (at : ℕ) (piece : List ℕ) : Type 0 where
  pub piece_is : piece ≡ take (length piece) (drop at bytes)
  pub there : length piece ≤ length bytes - at
  pub within : at < limit_of File → at + length piece ≤ limit_of File
  pub none : length piece ≡ 0 → length bytes ≤ at

-- where the bytes that are kept end, of which the next one stands on a line, or all were given
abbrev pub EndsSo : ℕ → Option Ending → Ending → Type 0
EndsSo line None ending = EndsFrom line ending
EndsSo line (Some given) ending = ending ≡ given

-- what is read next of a text that is read line by line
abbrev pub IsLexedByLines : Bool → Unread → List (List ℕ) → Lexing → Type 0
IsLexedByLines header old names l = (next : Next) × IsNextByLines header old.cells next × (l ≡ lexed old names next)

-- a text that is at its end
abbrev pub nothing_left : ℕ → TextLeft
nothing_left file = record { unread = record { file = file; cells = [] }; ending = Whole }

-- behind a text's end, and behind what cuts it off, nothing is left
abbrev pub left_behind : Read → TextLeft → Unread → TextLeft
left_behind (reads.Token t) old rest = record old { unread = rest }
left_behind (reads.LineEnd t) old rest = record old { unread = rest }
left_behind reads.End old rest = nothing_left old.unread.file
left_behind (reads.Cut cut) old rest = nothing_left old.unread.file

-- what is read next, what is left then, and the spellings known then
abbrev pub IsTextRead : Bool → TextLeft → List (List ℕ) → Read → TextLeft → List (List ℕ) → Type 0
IsTextRead header old names what left known = (l : Lexing) × IsLexedByLines header old.unread names l × (what ≡ read_of old.ending l.what) × (left ≡ left_behind what old l.rest) × (known ≡ l.names)

abbrev pub ReadsText : (Read → Type 0) → Result Read Refusal → Type 0
ReadsText P (Ok r) = P r
ReadsText P (Err e) = IsFree e

-- What was read of the bytes that were given, with whichever bytes the text goes on; or there is room for a piece, and what
-- comes next is what came next before.
abbrev pub IsTaken : Bool → Pieces → List (List ℕ) → Option Lexed → Pieces → List (List ℕ) → Type 0
IsTaken header old names (Some l) new known = (more : List ℕ) → IsLexedByLines header (unread_of old more) names (lexing l (unread_of new more) known)
IsTaken header old names None new known = IsWaiting old new × TakesPiece new × (known ≡ names)

-- what a text is behind what was read: its end and what cuts it off end it
abbrev pub IsLeft : Read → FileText → FileText → Type 0
IsLeft (reads.Token t) old new = new ≡ old
IsLeft (reads.LineEnd t) old new = new ≡ old
IsLeft reads.End old new = IsFinished (nothing_given old.number) new.lexer × (new ≡ record old { lexer = new.lexer; ending = Some Whole })
IsLeft (reads.Cut cut) old new = IsFinished (nothing_given old.number) new.lexer × (new ≡ record old { lexer = new.lexer; ending = Some Whole })
