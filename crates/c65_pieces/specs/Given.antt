-- The bytes of a text that were given (C90 5.1.1.2, phases 1 and 2).
use Rattle.std.specs.Prelude.{◌≡◌, ℕ, ◌+◌, ◌≤◌, List, [], ◌∷◌, ◌++◌, length, take, drop, Bool, true, false, ◌==◌, ◌&&◌, ◌||◌, not, nat_le, if◌then◌else◌, ◌⊎◌, vec_len, vec_capacity}
use Rattle.c65_base.specs.declared.refusal.Size.TheVariants.{Line}
use Rattle.c65_base.specs.Limits.{limit_of}
use Rattle.c65_lex.specs.Cells.{Cell, cells, bytes, line_after, column_after}
use Rattle.c65_lex.specs.Next.{is_any_long}
use Rattle.c65_pieces.specs.declared.settled.Settled.{Settled}
use Rattle.c65_pieces.specs.declared.text.Pending.{Pending}
use Rattle.c65_pieces.specs.declared.text.Pending.TheVariants.{Nothing, Return, Backslash, BackslashReturn}
use Rattle.c65_pieces.specs.declared.text.Edge.{Edge}
use Rattle.c65_pieces.specs.declared.text.Text.{Text}
use Rattle.c65_pieces.specs.Settled.{as_cells}
use Rattle.c65_pieces.specs.Lines.{is_sound}

-- the bytes at the end that vanish where a line feed follows them
abbrev pub pending_bytes : Pending → List ℕ
pending_bytes Nothing = []
pending_bytes Return = 13 ∷ []
pending_bytes Backslash = 92 ∷ []
pending_bytes BackslashReturn = 92 ∷ 13 ∷ []

abbrev pub is_nothing : Pending → Bool
is_nothing Nothing = true
is_nothing Return = false
is_nothing Backslash = false
is_nothing BackslashReturn = false

-- the cells where a text goes on with these bytes
abbrev pub cells_from : Edge → List ℕ → List Cell
cells_from edge more = cells edge.line edge.column (pending_bytes edge.pending ++ more)

-- the last byte is a line feed
abbrev pub ends : List ℕ → Bool
ends [] = false
ends (b ∷ []) = b == 10
ends (b ∷ c ∷ bs) = ends (c ∷ bs)

-- whole lines, or nothing
abbrev pub AreLines : List Cell → Type 0
AreLines cs = (cs ≡ []) ⊎ (ends (bytes cs) ≡ true)

-- a line is too long at a byte with so many before it
abbrev pub too_far : ℕ → ℕ → Bool
too_far byte column = not (byte == 10) && nat_le (limit_of Line) column

-- The first bytes are whole lines that are not too long. The others begin with a line that is not so:
-- it is too long, or they are no more bytes than its column says.
pub record AreSorted (settled : List Settled) (ready : ℕ) (long : Bool) (column : ℕ) : Type 0 where
  pub within : ready ≤ length settled
  pub lines : AreLines (as_cells (take ready settled))
  pub short : is_any_long (as_cells (take ready settled)) ≡ false
  pub held : is_sound (as_cells (drop ready settled)) ≡ false
  pub long_is : is_any_long (as_cells (drop ready settled)) ≡ long
  pub counted : long ≡ false → (column ≤ limit_of Line) × (length settled ≤ ready + column)

-- a byte is settled
pub record IsSettled (old : Text) (byte : ℕ) (new : Text) : Type 0 where
  pub settled_is : new.settled.items ≡ old.settled.items ++ record { byte = byte; line = old.edge.line; column = old.edge.column } ∷ []
  pub length_is : vec_len new.settled ≡ vec_len old.settled + 1
  pub capacity_is : vec_capacity new.settled ≡ vec_capacity old.settled
  pub edge_is : new.edge ≡ record { line = line_after byte old.edge.line; column = column_after byte old.edge.column; pending = old.edge.pending }
  pub ready_is : new.ready ≡ (if (byte == 10) && not old.long then length new.settled.items else old.ready)
  pub long_is : new.long ≡ old.long || too_far byte old.edge.column

-- bytes are added
pub record AreAdded (old : Text) (piece : List ℕ) (new : Text) : Type 0 where
  pub joined : (more : List ℕ) → as_cells new.settled.items ++ cells_from new.edge more ≡ as_cells old.settled.items ++ cells_from old.edge (piece ++ more)
  pub length_is : vec_len new.settled + length (pending_bytes new.edge.pending) ≤ (vec_len old.settled + length (pending_bytes old.edge.pending)) + length piece
  pub capacity_is : vec_capacity new.settled ≡ vec_capacity old.settled
  pub sorted : AreSorted old.settled.items old.ready old.long old.edge.column → AreSorted new.settled.items new.ready new.long new.edge.column

-- how many bytes are settled at the end of a text
abbrev pub room : Edge → ℕ
room edge = if (edge.column == 0) && is_nothing edge.pending then 0 else length (pending_bytes edge.pending) + 1

-- a backslash that a line feed would make vanish
abbrev pub IsBackslash : Pending → Type 0
IsBackslash pending = (pending ≡ Backslash) ⊎ (pending ≡ BackslashReturn)

-- what was pending is settled, where nothing follows
pub record IsFlushed (old new : Text) : Type 0 where
  pub none : new.edge.pending ≡ Nothing
  pub joined : as_cells new.settled.items ++ cells_from new.edge [] ≡ as_cells old.settled.items ++ cells_from old.edge []
  pub length_is : vec_len new.settled ≡ vec_len old.settled + length (pending_bytes old.edge.pending)
  pub capacity_is : vec_capacity new.settled ≡ vec_capacity old.settled
  pub none_if : is_nothing old.edge.pending ≡ true → new.edge.column ≡ old.edge.column
  pub further : AreSorted old.settled.items old.ready old.long old.edge.column → old.ready ≤ new.ready
  pub sorted : AreSorted old.settled.items old.ready old.long old.edge.column → AreSorted new.settled.items new.ready new.long new.edge.column

-- the text has ended, and all of it is whole lines, if none is too long
pub record IsClosed (old new : Text) : Type 0 where
  pub all : as_cells new.settled.items ≡ as_cells old.settled.items ++ cells_from old.edge []
  pub edge_is : (new.edge.column ≡ 0) × (new.edge.pending ≡ Nothing)
  pub ready_is : new.long ≡ false → new.ready ≡ length new.settled.items
  pub further : old.ready ≤ new.ready
  pub length_is : vec_len new.settled ≤ vec_len old.settled + room old.edge
  pub capacity_is : vec_capacity new.settled ≡ vec_capacity old.settled
  pub sorted : AreSorted new.settled.items new.ready new.long new.edge.column
