-- What is left of a text that is given in pieces.
use Rattle.std.specs.Prelude.{◌≡◌, ℕ, ◌+◌, ◌≤◌, List, [], ◌++◌, length, Bool, true, false, Option, Some, None, vec_len, vec_capacity}
use Rattle.c65_base.specs.declared.refusal.Size.TheVariants.{Line}
use Rattle.c65_base.specs.Limits.{limit_of}
use Rattle.c65_lex.specs.Cells.{Cell}
use Rattle.c65_lex.specs.Next.{is_any_long}
use Rattle.c65_pieces.specs.declared.text.Pending.TheVariants.{Nothing}
use Rattle.c65_pieces.specs.declared.text.Edge.{Edge}
use Rattle.c65_pieces.specs.declared.text.Text.{Text}
use Rattle.c65_pieces.specs.Settled.{as_cells, ahead}
use Rattle.c65_pieces.specs.Scanned.{opening}
use Rattle.c65_pieces.specs.Lines.{sound_lines}
use Rattle.c65_pieces.specs.Given.{cells_from, room, AreSorted}

-- the file's number, the line where a comment began that was not at its end yet, the cells that are
-- known, and where the text goes on behind them, unless it was finished
pub record Pieces : Type 0 where
  pub file : ℕ
  pub comment : Option ℕ
  pub cells : List Cell
  pub edge : Option Edge

-- a text of which nothing was given
abbrev pub nothing_given : ℕ → Pieces
nothing_given file = record { file = file; comment = None; cells = []; edge = Some (record { line = 1; column = 0; pending = Nothing }) }

abbrev pub IsOpen : Option Edge → Type 0
IsOpen None = ⊥
IsOpen (Some edge) = Unit {0}

-- one piece more may be given: the text was not finished, and no more is known than one line may have
pub record TakesPiece (p : Pieces) : Type 0 where
  pub goes_on : IsOpen p.edge
  pub few : length p.cells ≤ limit_of Line

-- the cells behind those that are known, where the text goes on with these bytes
abbrev pub text_from : Option Edge → List ℕ → List Cell
text_from None more = []
text_from (Some edge) more = cells_from edge more

-- the cells ahead, where the text goes on with these bytes
abbrev pub ahead_of : Pieces → List ℕ → List Cell
ahead_of p more = opening p.comment ++ (p.cells ++ text_from p.edge more)

-- the whole lines ahead, up to the first that is too long
abbrev pub lines_of : Pieces → List Cell
lines_of p = opening p.comment ++ sound_lines p.cells

-- a line that is known is too long
abbrev pub is_too_long : Pieces → Bool
is_too_long p = is_any_long p.cells

-- these bytes are known too
pub record KnowsMore (old : Pieces) (piece : List ℕ) (new : Pieces) : Type 0 where
  pub file_is : new.file ≡ old.file
  pub goes_on : IsOpen new.edge
  pub same : (more : List ℕ) → ahead_of new more ≡ ahead_of old (piece ++ more)

-- no more bytes follow
pub record IsFinished (old new : Pieces) : Type 0 where
  pub file_is : new.file ≡ old.file
  pub over : new.edge ≡ None
  pub same : ahead_of new [] ≡ ahead_of old []

abbrev pub edge_if : Bool → Edge → Option Edge
edge_if true edge = None
edge_if false edge = Some edge

-- what a lexer's fields are seen as
abbrev pub seen : ℕ → Option ℕ → Text → ℕ → Bool → Pieces
seen file comment text at finished = record { file = file; comment = comment; cells = ahead text.settled.items at; edge = edge_if finished text.edge }

-- how many bytes of text a lexer holds at most
abbrev pub most_held : ℕ
most_held = 40960

pub record IsHeld (text : Text) (at : ℕ) (finished : Bool) : Type 0 where
  pub sorted : AreSorted text.settled.items text.ready text.long text.edge.column
  pub place : at ≤ text.ready
  pub spare : vec_len text.settled + room text.edge ≤ vec_capacity text.settled
  pub bound : vec_len text.settled + room text.edge ≤ most_held
  pub over : finished ≡ true → text.long ≡ false → text.ready ≡ length text.settled.items

-- a piece is added to what is left
pub record IsExtended (old : Text) (at : ℕ) (piece : List ℕ) (new : Text) : Type 0 where
  pub joined : (more : List ℕ) → as_cells new.settled.items ++ cells_from new.edge more ≡ ahead old.settled.items at ++ cells_from old.edge (piece ++ more)
  pub sorted : AreSorted new.settled.items new.ready new.long new.edge.column
  pub spare : vec_len new.settled + room new.edge ≤ vec_capacity new.settled
  pub length_is : vec_len new.settled + room new.edge ≤ (length (ahead old.settled.items at) + length piece) + 3
