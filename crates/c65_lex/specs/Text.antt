-- The preprocessing tokens of a whole text (C90 5.1.1.2, phases 1 to 3, and 6.1).
use Rattle.std.specs.Prelude.{ℕ, List, [], ◌∷◌, Bool, true, false, if◌then◌else◌, bytes_eq, codes}
use Rattle.c65_lex.specs.declared.token.PpKind.{PpKind}
use Rattle.c65_lex.specs.declared.token.PpKind.TheVariants.{Name, Punct, LineEnd}
use Rattle.c65_lex.specs.Cells.{Cell, cells}
use Rattle.c65_lex.specs.Next.{ended, token, IsNext}

-- a token as it stands in a text
pub record Lexeme : Type 0 where
  pub kind : PpKind
  pub spelling : List ℕ
  pub line : ℕ
  pub space : Bool

-- what stands before on the line: nothing, a # that begins it, that and include, or anything else
pub data Before : Type 0 where
  nothing : Before
  hash : Before
  include : Before
  others : Before

abbrev pub is_include : PpKind → List ℕ → Bool
is_include Name spelling = bytes_eq spelling (codes "include")
is_include kind spelling = false

abbrev pub is_hash : PpKind → List ℕ → Bool
is_hash Punct spelling = bytes_eq spelling (codes "#")
is_hash kind spelling = false

abbrev pub is_end : PpKind → Bool
is_end LineEnd = true
is_end kind = false

abbrev pub after : Before → Lexeme → Before
after nothing t = if is_end t.kind then nothing else if is_hash t.kind t.spelling then hash else others
after hash t = if is_end t.kind then nothing else if is_include t.kind t.spelling then include else others
after include t = if is_end t.kind then nothing else others
after others t = if is_end t.kind then nothing else others

-- a header name may stand behind # include alone (C90 6.1.7)
abbrev pub allows_header : Before → Bool
allows_header nothing = false
allows_header hash = false
allows_header include = true
allows_header others = false

-- the tokens from here on, to the text's end
abbrev pub AreTokens : Before → List Cell → List Lexeme → Type 0
AreTokens before start [] = IsNext (allows_header before) start ended
AreTokens before start (t ∷ ts) = (rest : List Cell) × IsNext (allows_header before) start (token t.kind t.spelling t.line t.space rest) × AreTokens (after before t) rest ts

-- the tokens of a text
abbrev pub IsText : List ℕ → List Lexeme → Type 0
IsText text tokens = AreTokens nothing (cells 1 0 text) tokens
