-- What the scanner's answers say of the cells ahead.
use Rattle.std.specs.Prelude.{◌≡◌, ℕ, List, [], ◌∷◌, true, false, take, drop, nat_lt, Option, Some, None}
use Rattle.c65_lex.specs.Cells.{Cell, bytes}
use Rattle.c65_lex.specs.Blanks.{Blank, Blanks, blank_of, none, over, unclosed, too_long}
use Rattle.c65_lex.specs.Next.{Next, ended, open_comment, long_line, token, is_any_long, first_line}
use Rattle.c65_pieces.specs.declared.settled.Settled.{Settled}
use Rattle.c65_pieces.specs.declared.blanks.Gap.{Gap}
use Rattle.c65_pieces.specs.declared.blanks.Gap.TheVariants.{Nothing, Over, Unclosed, TooLong}
use Rattle.c65_pieces.specs.declared.scan.Skipped.{Skipped}
use Rattle.c65_pieces.specs.declared.scan.Skipped.TheVariants as skipped
use Rattle.c65_pieces.specs.declared.scan.Scanned.{Scanned}
use Rattle.c65_pieces.specs.declared.scan.Scanned.TheVariants as scanned
use Rattle.c65_pieces.specs.Settled.{ahead}

-- what a place behind a gap of the code is
abbrev pub blank_in : List Settled → Gap → Blank
blank_in lines Nothing = none
blank_in lines (Over place) = over (ahead lines place)
blank_in lines Unclosed = unclosed
blank_in lines TooLong = too_long

-- so many blanks lead here, and no more follow
abbrev pub IsSkipped : List Settled → List Cell → Skipped → Type 0
IsSkipped lines start (skipped.Here place space) = (n : ℕ) × Blanks n start (ahead lines place) × (blank_of (ahead lines place) ≡ none) × (space ≡ nat_lt 0 n)
IsSkipped lines start (skipped.Unclosed line) = (n : ℕ) × (cells : List Cell) × Blanks n start cells × (blank_of cells ≡ unclosed) × (line ≡ first_line cells)
IsSkipped lines start skipped.TooLong = (n : ℕ) × (cells : List Cell) × Blanks n start cells × (blank_of cells ≡ too_long)

abbrev pub IsTaken : List Settled → ℕ → List Cell → Option (List ℕ × ℕ) → Type 0
IsTaken lines n cells None = is_any_long (take n cells) ≡ true
IsTaken lines n cells (Some t) = (is_any_long (take n cells) ≡ false) × (t.0 ≡ bytes (take n cells)) × (ahead lines t.1 ≡ drop n cells)

abbrev pub next_in : List Settled → Scanned → Next
next_in lines scanned.Ended = ended
next_in lines (scanned.Unclosed line) = open_comment line
next_in lines scanned.TooLong = long_line
next_in lines (scanned.Token t) = token t.kind t.spelling t.line t.space (ahead lines t.rest)

-- a comment that goes on: its beginning, on the line where it began, and the end of a line
abbrev pub opening : Option ℕ → List Cell
opening None = []
opening (Some line) = record { byte = 47; line = line; column = 0 } ∷ record { byte = 42; line = line; column = 1 } ∷ record { byte = 10; line = line; column = 2 } ∷ []

-- so many blanks lead here
abbrev pub IsEntered : List Settled → List Cell → Skipped → Type 0
IsEntered lines start (skipped.Here place space) = (n : ℕ) × Blanks n start (ahead lines place) × (space ≡ nat_lt 0 n)
IsEntered lines start (skipped.Unclosed line) = IsSkipped lines start (skipped.Unclosed line)
IsEntered lines start skipped.TooLong = IsSkipped lines start skipped.TooLong
