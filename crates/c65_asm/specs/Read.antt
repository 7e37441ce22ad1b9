-- What the reader's types say, and what a whole text is read as (docs/TEXT.md).
use Rattle.std.specs.Prelude.{◌≡◌, ℕ, ◌+◌, ◌++◌, ◌∷◌, ◌==◌, not, Bool, true, false, if◌then◌else◌, List, [], map, Option, Some, None, option_map, codes, bytes_eq}
use Rattle.c65_base.specs.declared.code.Code.TheVariants.{AssemblyText}
use Rattle.c65_base.specs.declared.refusal.Refusal.{Refusal}
use Rattle.c65_base.specs.declared.refusal.Refusal.TheVariants as refusals
use Rattle.c65_code.specs.declared.line.Sym.{Sym}
use Rattle.c65_code.specs.declared.code.Code.{Code}
use Rattle.c65_code.specs.declared.code.DataCell.{DataCell}
use Rattle.c65_code.specs.declared.code.DataCell.TheVariants.{Byte}
use Rattle.c65_code.specs.Segments.{is_among}
use Rattle.c65_asm.specs.declared.reader.Open.{Open}
use Rattle.c65_asm.specs.declared.reader.Open.TheVariants as opens
use Rattle.c65_asm.specs.declared.reader.Reader.{Reader}
use Rattle.c65_asm.specs.declared.reading.Answer.{Answer}
use Rattle.c65_asm.specs.declared.reading.Answer.TheVariants as answers
use Rattle.std.proofs.Common.{Bor}
use Rattle.c65_asm.specs.Text.{text_of}
use Rattle.c65_asm.specs.Words.{cut_at}
use Rattle.c65_asm.specs.Symbols.{symbols_of, with_number}
use Rattle.c65_asm.specs.Reading.{Reading, start, step, named, symbol_now}

abbrev pub seen : Reader → Reading
seen r = record { names = r.table; bodies = r.bodies; functions = r.functions.items; datums = r.datums.items; args = r.main_args; opened = r.opened }

-- the lines so far, where a text goes on so
abbrev pub on_if : Bool → Reading → Option Reading
on_if is_on r = if is_on then Some r else None

-- what bytes with commas leave of cells
abbrev pub PutsBytes : List DataCell → List DataCell → Option (List ℕ) → Bool → Type 0
PutsBytes old new (Some values) true = new ≡ old ++ map (λ v. Byte v) values
PutsBytes old new None false = Unit {0}
PutsBytes old new _ _ = ⊥

-- a symbol gets a body, if it has none
abbrev pub Begins : Reading → List ℕ → Reading → Sym → Bool → Type 0
Begins r symbol next sym is_new = (sym ≡ symbol_now (named r symbol) symbol) × (is_new ≡ not (is_among r.bodies sym.0)) × (next ≡ record (named r symbol) { bodies = with_number r.bodies sym.0 })

abbrev pub code_of : Reading → Code
code_of r = record { symbols = symbols_of r.names; functions = r.functions; datums = r.datums; main_args = r.args }

abbrev pub finished_at : Open → Code → Option Code
finished_at opens.Functions code = Some code
finished_at opens.Data code = Some code
finished_at _ code = None

-- the code, where the text may end here
abbrev pub finished : Reading → Option Code
finished r = finished_at r.opened (code_of r)

abbrev pub at_end : ℕ → Option Code → Answer
at_end line None = answers.Line line
at_end line (Some code) = answers.Code code

-- lines are numbered from 1; a text of more than 2 ^ 32 lines is told the last number
abbrev pub next_number : ℕ → ℕ
next_number line = if line == 4294967295 then line else line + 1

-- a last line without a line feed is none
abbrev pub last_in : Reading → ℕ → List ℕ → Answer
last_in r line [] = at_end line (finished r)
last_in r line _ = answers.Line line

abbrev pub behind_line : ℕ → Option Reading → (Reading → Answer) → Answer
behind_line line None go = answers.Line line
behind_line line (Some r) go = go r

-- what is left of a text at a line of which some bytes were read
abbrev pub lines_in : Reading → ℕ → List ℕ → List ℕ → Answer
lines_in r line begun [] = last_in r line begun
lines_in r line begun (byte ∷ text) =
    if byte == 10 then behind_line line (step r begun) (λ next. lines_in next (next_number line) [] text)
    else lines_in r line (begun ++ byte ∷ []) text

-- behind the first line: what the lines so far say, and the text there
abbrev pub seen_first : Reader → Bor (List ℕ) → Reading × List ℕ
seen_first r rest = (seen r, rest.now)

abbrev pub with_rest : List ℕ → Reading → Reading × List ℕ
with_rest rest r = (r, rest)

abbrev pub first_from : Reading → Option (List ℕ × List ℕ) → Option (Reading × List ℕ)
first_from r None = None
first_from r (Some p) = option_map (with_rest p.1) (step r p.0)

-- none where the text has no line feed, or no text goes on with its first line
abbrev pub first_line : Reading → List ℕ → Option (Reading × List ℕ)
first_line r text = first_from r (cut_at 10 text)

abbrev pub compared : List ℕ → Answer → Answer
compared text (answers.Code code) = if bytes_eq (text_of code) text then answers.Code code else answers.Line 1
compared text (answers.Line line) = answers.Line line

-- the code of a text, or the first line with which no text goes on
abbrev pub read_text : List ℕ → Answer
read_text text = compared text (lines_in start 1 [] text)

-- a text that is refused at the line, or want of memory
abbrev pub RefusesText : Answer → Refusal → Type 0
RefusesText answer refusals.OutOfMemory = Unit {0}
RefusesText answer (refusals.Source code file line) = (code ≡ AssemblyText) × (file ≡ codes "<text>") × (answer ≡ answers.Line line)
RefusesText answer _ = ⊥
