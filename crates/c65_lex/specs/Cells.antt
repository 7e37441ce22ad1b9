-- The bytes of a text when its lines are joined (C90 5.1.1.2, phases 1 and 2).
use Rattle.std.specs.Prelude.{ℕ, ◌+◌, min, List, [], ◌∷◌, map, drop, Bool, false, ◌==◌, ◌&&◌, if◌then◌else◌, nat_le, not}
use Rattle.c65_base.specs.declared.refusal.Size.TheVariants.{Line}
use Rattle.c65_base.specs.Limits.{limit_of}
use Rattle.c65_lex.specs.declared.place.Place.{Place}
use Rattle.c65_lex.specs.declared.place.Reading.{Reading}

-- a byte, the real line that it stands on, and how many bytes of its joined line stand before it,
-- counted up to 32,768
pub record Cell : Type 0 where
  pub byte : ℕ
  pub line : ℕ
  pub column : ℕ

abbrev pub bytes : List Cell → List ℕ
bytes cs = map (λ c. c.byte) cs

abbrev pub begins_with : ℕ → List ℕ → Bool
begins_with b [] = false
begins_with b (c ∷ bs) = c == b

-- a carriage return just before a line feed is dropped
abbrev pub without_returns : List ℕ → List ℕ
without_returns [] = []
without_returns (b ∷ bs) = if (b == 13) && begins_with 10 bs then without_returns bs else b ∷ without_returns bs

abbrev pub next_line : ℕ → ℕ
next_line n = min (n + 1) 4294967295

abbrev pub line_after : ℕ → ℕ → ℕ
line_after b n = if b == 10 then next_line n else n

abbrev pub column_after : ℕ → ℕ → ℕ
column_after b k = if b == 10 then 0 else min (k + 1) (limit_of Line + 1)

-- the end of a text ends its last line: a line that lacks its line feed is given one there
abbrev pub last_line_end : ℕ → ℕ → List Cell
last_line_end n k = if k == 0 then [] else record { byte = 10; line = n; column = k } ∷ []

-- a backslash with its line feed is deleted, which joins two lines
abbrev pub joined : ℕ → ℕ → List ℕ → List Cell
joined n k [] = last_line_end n k
joined n k (b ∷ []) = record { byte = b; line = n; column = k } ∷ last_line_end (line_after b n) (column_after b k)
joined n k (b ∷ c ∷ bs) = if (b == 92) && (c == 10) then joined (next_line n) k bs else record { byte = b; line = n; column = k } ∷ joined (line_after b n) (column_after b k) (c ∷ bs)

-- the cells of these bytes, from a line and a column on
abbrev pub cells : ℕ → ℕ → List ℕ → List Cell
cells n k bs = joined n k (without_returns bs)

-- the cells of a text from a place on
unfoldable pub ahead : List ℕ → Place → List Cell
ahead text place = cells place.line place.column (drop place.at text)

-- how many bytes vanish here: a carriage return, or a backslash with its line end
abbrev pub joint : List ℕ → ℕ
joint [] = 0
joint (b ∷ []) = 0
joint (b ∷ c ∷ bs) = if c == 10 then (if b == 13 then 1 else if b == 92 then 2 else 0) else if (b == 92) && ((c == 13) && begins_with 10 bs) then 3 else 0

abbrev pub cell_of : Reading → Cell
cell_of r = record { byte = r.byte; line = r.line; column = r.column }

-- a line holds at most 32,767 bytes before its line feed
abbrev pub is_long : Cell → Bool
is_long c = not (c.byte == 10) && nat_le (limit_of Line) c.column
