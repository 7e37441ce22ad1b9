-- Reading a text with note lines, which are passed over and counted (docs/TEXT.md).
use Rattle.std.specs.Prelude.{◌≡◌, ℕ, ◌-◌, ◌++◌, ◌==◌, ◌&&◌, Bool, false, if◌then◌else◌, nat_lt, List, [], ◌∷◌, Option, Some, None, bytes_eq, ◌⊎◌}
use Rattle.std.specs.List.{list_any}
use Rattle.c65_code.specs.declared.code.Code.{Code}
use Rattle.c65_asm.specs.declared.reading.Answer.{Answer}
use Rattle.c65_asm.specs.declared.reading.Answer.TheVariants as answers
use Rattle.c65_asm.specs.Text.{text_of}
use Rattle.c65_asm.specs.Known.{known_text_of}
use Rattle.c65_asm.specs.Read.{next_number, read_text}

-- the whole lines of a text of which some bytes stand on a line already, each without its line feed, and what stands behind the last
abbrev pub lines_from : List ℕ → List ℕ → List (List ℕ) × List ℕ
lines_from begun [] = ([], begun)
lines_from begun (byte ∷ text) =
    if byte == 10 then (let later = lines_from [] text in (begun ∷ later.0, later.1))
    else lines_from (begun ++ byte ∷ []) text

abbrev pub whole_lines : List ℕ → List (List ℕ)
whole_lines text = (lines_from [] text).0

-- a note line begins with a tab and a semicolon
abbrev pub is_note : List ℕ → Bool
is_note (tab ∷ mark ∷ note) = tab == 9 && mark == 59
is_note _ = false

abbrev pub has_notes : List ℕ → Bool
has_notes text = list_any is_note (whole_lines text)

-- the other lines, each with its line feed

abbrev pub other_line : List ℕ → List ℕ
other_line line = if is_note line then [] else line ++ 10 ∷ []

abbrev pub other_lines : List (List ℕ) → List ℕ
other_lines [] = []
other_lines (line ∷ lines) = other_line line ++ other_lines lines

abbrev pub without_notes : List ℕ → List ℕ
without_notes text = let lines = lines_from [] text in other_lines lines.0 ++ lines.1

-- of so many other lines how many are to come behind a line; none where it is the last of them
abbrev pub left_behind : ℕ → List ℕ → Option ℕ
left_behind n line = if is_note line then Some n else if nat_lt n 2 then None else Some (n - 1)

abbrev pub counted_on : ℕ → Option ℕ → (ℕ → ℕ) → ℕ
counted_on at None go = at
counted_on at (Some n) go = go n

-- the number of the n-th of the other lines, where `at` is that of the first line; where they are fewer, that of the line behind all
abbrev pub counted : ℕ → ℕ → List (List ℕ) → ℕ
counted n at [] = at
counted n at (line ∷ lines) = counted_on at (left_behind n line) (λ left. counted left (next_number at) lines)

abbrev pub line_behind : ℕ → ℕ → ℕ
line_behind line byte = if byte == 10 then next_number line else line

-- the number of the first line at which two texts differ
abbrev pub parting : ℕ → List ℕ → List ℕ → ℕ
parting line (byte ∷ text) (other ∷ others) = if byte == other then parting (line_behind line byte) text others else line
parting line _ _ = line

-- a text with note lines, by what its other lines are read as: it is that of `print_known`
abbrev pub noted_answer : List ℕ → Answer → Answer
noted_answer text (answers.Line n) = answers.Line (counted n 1 (whole_lines text))
noted_answer text (answers.Code code) = if bytes_eq text (known_text_of code) then answers.Code code else answers.Line (parting 1 text (known_text_of code))

-- the code of a text with or without note lines, or the first line at which it is none
abbrev pub read_noted : List ℕ → Answer
read_noted text = if has_notes text then noted_answer text (read_text (without_notes text)) else read_text text

-- the texts of a code: with note lines and without
abbrev pub IsTextOf : Code → List ℕ → Type 0
IsTextOf code text = (text_of code ≡ text) ⊎ (known_text_of code ≡ text)
