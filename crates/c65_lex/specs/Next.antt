-- What comes next in a text (C90 5.1.1.2, phase 3).
use Rattle.std.specs.Prelude.{◌≡◌, ◌⊎◌, ℕ, List, [], ◌∷◌, Bool, true, false, ◌||◌, take, drop, nat_lt}
use Rattle.c65_lex.specs.declared.token.PpKind.{PpKind}
use Rattle.c65_lex.specs.Cells.{Cell, bytes, is_long}
use Rattle.c65_lex.specs.Spellings.{IsToken}
use Rattle.c65_lex.specs.Blanks.{Blanks, blank_of, none, unclosed, too_long}

-- the end of the text; a comment without its end, which begins on a line; a line that is too long;
-- or a token: its class, its spelling, its line, whether white space stands before it, and what is
-- behind it
pub data Next : Type 0 where
  ended : Next
  open_comment : ℕ → Next
  long_line : Next
  token : PpKind → List ℕ → ℕ → Bool → List Cell → Next

-- whether a line is too long at one of these bytes
abbrev pub is_any_long : List Cell → Bool
is_any_long [] = false
is_any_long (c ∷ cs) = is_long c || is_any_long cs

abbrev pub first_line : List Cell → ℕ
first_line [] = 0
first_line (c ∷ cs) = c.line

-- the token that stands at the first of these cells
pub record IsTokenHere (header : Bool) (cells : List Cell) (kind : PpKind) (spelling : List ℕ) (line : ℕ) (rest : List Cell) : Type 0 where
  pub size : ℕ
  pub is_token : IsToken header (bytes cells) kind size
  pub not_long : is_any_long (take size cells) ≡ false
  pub spelling_is : spelling ≡ bytes (take size cells)
  pub line_is : line ≡ first_line cells
  pub rest_is : rest ≡ drop size cells

-- a line is too long at a byte of the white space, the comment or the token that stands here
abbrev pub IsLongHere : Bool → List Cell → Type 0
IsLongHere header cells = (blank_of cells ≡ too_long) ⊎ ((blank_of cells ≡ none) × (kind : PpKind) × (size : ℕ) × IsToken header (bytes cells) kind size × (is_any_long (take size cells) ≡ true))

-- what stands at the first of these cells, behind so many blanks
abbrev pub Stands : Bool → ℕ → List Cell → Next → Type 0
Stands header blanks cells ended = cells ≡ []
Stands header blanks cells (open_comment line) = (blank_of cells ≡ unclosed) × (line ≡ first_line cells)
Stands header blanks cells long_line = IsLongHere header cells
Stands header blanks cells (token kind spelling line space rest) = (blank_of cells ≡ none) × (space ≡ nat_lt 0 blanks) × IsTokenHere header cells kind spelling line rest

-- white space and comments, one after another, lead to what comes next
pub record IsNext (header : Bool) (start : List Cell) (next : Next) : Type 0 where
  pub blanks : ℕ
  pub cells : List Cell
  pub behind : Blanks blanks start cells
  pub stands : Stands header blanks cells next

-- what takes memory: the spelling of a token, and as much of it as stands before the line's limit
abbrev pub TakesMemory : Next → Type 0
TakesMemory ended = ⊥
TakesMemory (open_comment line) = ⊥
TakesMemory long_line = Unit {0}
TakesMemory (token kind spelling line space rest) = Unit {0}

abbrev pub NeedsMemory : Bool → List Cell → Type 0
NeedsMemory header start = (next : Next) × IsNext header start next × TakesMemory next
