-- Lines of #line: the tokens behind the directive's name, expanded (C90 6.8.4).
use Rattle.std.specs.Prelude.{◌≡◌, ℕ, ◌+◌, ◌-◌, ◌*◌, ℤ, pos, ◌-ℤ◌, List, [], ◌∷◌, min, Bool, true, false, ◌&&◌, nat_le, nat_lt, if◌then◌else◌, Option, Some, None, Result, Ok, Err, is_some}
use Rattle.c65_base.specs.declared.names.Name.{Name}
use Rattle.c65_base.specs.declared.refusal.Refusal.{Refusal}
use Rattle.c65_base.specs.Answers.{Gives}
use Rattle.c65_lex.specs.declared.token.PpKind.{PpKind}
use Rattle.c65_lex.specs.declared.token.PpKind.TheVariants as kinds
use Rattle.c65_lex.specs.declared.token.PpToken.{PpToken}
use Rattle.c65_lex.specs.Cells.{begins_with}
use Rattle.c65_macro.specs.Definitions.{is_nothing}
use Rattle.c65_macro.specs.Table.{Table}
use Rattle.c65_scan.specs.Tokens.{spelling_in}
use Rattle.c65_ppline.specs.declared.numbering.Count.{Count}
use Rattle.c65_ppline.specs.declared.numbering.Given.{Given}
use Rattle.c65_ppline.specs.declared.line.Line.{Line}
use Rattle.c65_ppline.specs.Expansions.{ReadsExpansion}
use Rattle.c65_ppline.specs.Lines.{rest, on_line, short_fault}
use Rattle.c65_ppline.specs.Tokens.{is_kind_number}
use Rattle.c65_ppline.specs.Misfits.{Trouble, short, wrong, ◌then◌}

-- each line has its own number
abbrev pub own_count : Count
own_count = record { given = 0; real = 0 }

-- what is added to a line's own number
abbrev pub offset : Count → ℤ
offset c = pos c.given -ℤ pos c.real

-- the value of decimal digits, counted up to 32,768
abbrev pub digits : ℕ → List ℕ → Option ℕ
digits n [] = Some n
digits n (b ∷ bs) = if nat_le 48 b && nat_le b 57 then digits (min (n * 10 + (b - 48)) 32768) bs else None

-- from 1 to 32,767
abbrev pub in_range : Option ℕ → Result ℕ Trouble
in_range None = Err wrong
in_range (Some n) = if nat_lt 0 n && nat_lt n 32768 then Ok n else Err wrong

abbrev pub is_kind_text : PpKind → Bool
is_kind_text kinds.Text = true
is_kind_text _ = false

abbrev pub number : List (List ℕ) → PpToken → Result ℕ Trouble
number names t = if is_kind_number t.kind then in_range (digits 0 (spelling_in names t.spelling)) else Err wrong

-- a string literal without a prefix
abbrev pub file : List (List ℕ) → PpToken → Result Name Trouble
file names t = if is_kind_text t.kind && begins_with 34 (spelling_in names t.spelling) then Ok t.spelling else Err wrong

abbrev pub given : ℕ → Option Name → Given
given n name = record { number = n - 1; file = name }

abbrev pub named : List (List ℕ) → ℕ → List PpToken → Result Given Trouble
named names n [] = Ok (given n None)
named names n (t ∷ ts) = file names t then λ name. if is_nothing ts then Ok (given n (Some name)) else Err wrong

-- The line behind the directive has the number; the directive's own line has one less.
abbrev pub numbers : List (List ℕ) → List PpToken → Result Given Trouble
numbers names [] = Err short
numbers names (t ∷ ts) = number names t then λ n. named names n ts

abbrev pub IsNumber : Bool → Table → List (List ℕ) → Line → List (List ℕ) → Result Given Refusal → Type 0
IsNumber true table names line known result' = Gives {Y = Given} (λ g. g) result' (Err (short_fault line.hash line.cut)) × (known ≡ names)
IsNumber false table names line known result' = ReadsExpansion (λ g. g) (λ now ts. on_line line.hash line.cut (numbers now ts)) table names (rest line) known result'

-- what a #line line gives, where it has its end
abbrev pub IsNumbered : Table → List (List ℕ) → Line → List (List ℕ) → Result Given Refusal → Type 0
IsNumbered table names line known result' = IsNumber (is_some line.cut) table names line known result'
