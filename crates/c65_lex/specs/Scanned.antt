-- What the scanner's answers say of the cells ahead.
use Rattle.std.specs.Prelude.{◌≡◌, ℕ, List, true, false, take, drop, nat_lt, Option, Some, None}
use Rattle.c65_lex.specs.declared.place.Place.{Place}
use Rattle.c65_lex.specs.declared.scan.Skipped.{Skipped}
use Rattle.c65_lex.specs.declared.scan.Skipped.TheVariants.{Here, Unclosed, TooLong}
use Rattle.c65_lex.specs.declared.scan.Scanned.{Scanned}
use Rattle.c65_lex.specs.declared.scan.Scanned.TheVariants as scanned
use Rattle.c65_lex.specs.Cells.{Cell, ahead, bytes}
use Rattle.c65_lex.specs.Blanks.{Blanks, blank_of, none, unclosed, too_long}
use Rattle.c65_lex.specs.Next.{Next, ended, open_comment, long_line, token, is_any_long, first_line}

-- so many blanks lead here, and no more follow
abbrev pub IsSkipped : List ℕ → List Cell → Skipped → Type 0
IsSkipped text start (Here place space) = (n : ℕ) × Blanks n start (ahead text place) × (blank_of (ahead text place) ≡ none) × (space ≡ nat_lt 0 n)
IsSkipped text start (Unclosed line) = (n : ℕ) × (cells : List Cell) × Blanks n start cells × (blank_of cells ≡ unclosed) × (line ≡ first_line cells)
IsSkipped text start TooLong = (n : ℕ) × (cells : List Cell) × Blanks n start cells × (blank_of cells ≡ too_long)

abbrev pub IsTaken : List ℕ → ℕ → List Cell → Option (List ℕ × Place) → Type 0
IsTaken text n cells None = is_any_long (take n cells) ≡ true
IsTaken text n cells (Some t) = (is_any_long (take n cells) ≡ false) × (t.0 ≡ bytes (take n cells)) × (ahead text t.1 ≡ drop n cells)

abbrev pub next_in : List ℕ → Scanned → Next
next_in text scanned.Ended = ended
next_in text (scanned.Unclosed line) = open_comment line
next_in text scanned.TooLong = long_line
next_in text (scanned.Token t) = token t.kind t.spelling t.line t.space (ahead text t.rest)
