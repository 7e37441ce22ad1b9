-- Lines of #include: the tokens behind the directive's name (C90 6.8.2).
use Rattle.std.specs.Prelude.{◌≡◌, ℕ, ◌-◌, List, [], ◌∷◌, ◌++◌, length, take, drop, Bool, true, false, not, ◌==◌, ◌&&◌, ◌||◌, if◌then◌else◌, Option, Result, Ok, Err, codes, is_some}
use Rattle.c65_base.specs.declared.refusal.Refusal.{Refusal}
use Rattle.c65_base.specs.Answers.{Gives}
use Rattle.c65_lex.specs.declared.token.PpKind.{PpKind}
use Rattle.c65_lex.specs.declared.token.PpKind.TheVariants as kinds
use Rattle.c65_lex.specs.declared.token.PpToken.{PpToken}
use Rattle.c65_lex.specs.Cells.{begins_with}
use Rattle.c65_macro.specs.Definitions.{is_nothing}
use Rattle.c65_macro.specs.Table.{Table}
use Rattle.c65_scan.specs.Tokens.{spelling_in}
use Rattle.c65_ppfile.specs.declared.include.Header.{Header}
use Rattle.c65_ppline.specs.declared.line.Cut.{Cut}
use Rattle.c65_ppline.specs.declared.line.Line.{Line}
use Rattle.c65_ppline.specs.Expansions.{ReadsExpansion}
use Rattle.c65_ppline.specs.Lines.{rest, on_line, short_fault}
use Rattle.c65_ppline.specs.Misfits.{Trouble, short, wrong}
use Rattle.c65_ppline.specs.Tokens.{is_mark}

-- what stands between the first and the last byte
abbrev pub inner : List ℕ → List ℕ
inner spelling = take (length spelling - 2) (drop 1 spelling)

abbrev pub header : Bool → List ℕ → Header
header quoted name = record { name = name; is_quoted = quoted }

-- a spelling that stands for itself, between quotes or between < and >
abbrev pub whole : List ℕ → Result Header Trouble
whole spelling = if (length (inner spelling) == 0) || not (begins_with 34 spelling || begins_with 60 spelling) then Err wrong else Ok (header (begins_with 34 spelling) (inner spelling))

-- white space between two tokens is one space
abbrev pub spaced : List ℕ → Bool → List ℕ
spaced name space = if space && not (length name == 0) then name ++ 32 ∷ [] else name

abbrev pub closed : List ℕ → List PpToken → Result Header Trouble
closed name ts = if (length name == 0) || not (is_nothing ts) then Err wrong else Ok (header false name)

-- behind a <, with what was read of the name, up to a >
abbrev pub angled : List (List ℕ) → List ℕ → List PpToken → Result Header Trouble
angled names name [] = Err short
angled names name (t ∷ ts) = if is_mark names (codes ">") t then closed name ts else angled names (spaced name t.space ++ spelling_in names t.spelling) ts

-- a spelling that stands alone
abbrev pub plain : List (List ℕ) → PpToken → List PpToken → Result Header Trouble
plain names t ts = if is_nothing ts then whole (spelling_in names t.spelling) else Err wrong

-- tokens that were made by expansion: one string literal, or those from a < on
abbrev pub marked : List (List ℕ) → PpToken → List PpToken → Result Header Trouble
marked names t ts = if is_mark names (codes "<") t then angled names [] ts else Err wrong

abbrev pub by_kind : List (List ℕ) → PpKind → PpToken → List PpToken → Result Header Trouble
by_kind names kinds.Text t ts = plain names t ts
by_kind names kinds.Punct t ts = marked names t ts
by_kind names _ t ts = Err wrong

abbrev pub replaced : List (List ℕ) → List PpToken → Result Header Trouble
replaced names [] = Err short
replaced names (t ∷ ts) = by_kind names t.kind t ts

abbrev pub is_header : PpToken → Bool
is_header t = elim t.kind [ kinds.Header ↦ true | _ ↦ false ]

abbrev pub begins_header : List PpToken → Bool
begins_header [] = false
begins_header (t ∷ ts) = is_header t

abbrev pub plain_line : List (List ℕ) → List PpToken → Result Header Trouble
plain_line names [] = Err short
plain_line names (t ∷ ts) = plain names t ts

-- how the header of an #include line is read
pub data Form : Type 0 where
  named : Form
  expanded : Form
  cut_off : Form

abbrev pub form : List PpToken → Option Cut → Form
form [] cut = cut_off
form (t ∷ ts) cut = if is_header t then named else if is_some cut then cut_off else expanded

abbrev pub IsHeader : Form → Table → List (List ℕ) → Line → List (List ℕ) → Result Header Refusal → Type 0
IsHeader named table names line known result' = Gives (λ h. h) result' (on_line line.hash line.cut (plain_line names (rest line))) × (known ≡ names)
IsHeader expanded table names line known result' = ReadsExpansion (λ h. h) (λ now ts. on_line line.hash line.cut (replaced now ts)) table names (rest line) known result'
IsHeader cut_off table names line known result' = Gives {Y = Header} (λ h. h) result' (Err (short_fault line.hash line.cut)) × (known ≡ names)

-- the header of an #include line
abbrev pub IsIncluded : Table → List (List ℕ) → Line → List (List ℕ) → Result Header Refusal → Type 0
IsIncluded table names line known result' = IsHeader (form (rest line) line.cut) table names line known result'
