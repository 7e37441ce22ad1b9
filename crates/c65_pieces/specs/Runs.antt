-- What happens to a lexer from call to call.
use Rattle.std.specs.Prelude.{◌≡◌, ℕ, List, [], ◌∷◌, ◌++◌, Bool}
use Rattle.c65_lex.specs.Cells.{Cell}
use Rattle.c65_lex.specs.Next.{Next, token}
use Rattle.c65_lex.specs.Text.{Lexeme, Before, after, allows_header}
use Rattle.c65_pieces.specs.Lines.{IsNextByLines}
use Rattle.c65_pieces.specs.Pieces.{Pieces, KnowsMore, IsFinished, ahead_of}
use Rattle.c65_pieces.specs.Answers.{IsWaiting}

-- a piece is given; the text is finished; more bytes are wanted; or a token is taken
pub data Event : Type 0 where
  gives : List ℕ → Event
  finishes : Event
  wants : Event
  takes : Lexeme → Event

abbrev pub bytes_given : List Event → List ℕ
bytes_given [] = []
bytes_given (gives piece ∷ events) = piece ++ bytes_given events
bytes_given (finishes ∷ events) = bytes_given events
bytes_given (wants ∷ events) = bytes_given events
bytes_given (takes t ∷ events) = bytes_given events

abbrev pub tokens_taken : List Event → List Lexeme
tokens_taken [] = []
tokens_taken (gives piece ∷ events) = tokens_taken events
tokens_taken (finishes ∷ events) = tokens_taken events
tokens_taken (wants ∷ events) = tokens_taken events
tokens_taken (takes t ∷ events) = t ∷ tokens_taken events

-- what stands on the line before the next token
abbrev pub before_after : Before → List Event → Before
before_after before [] = before
before_after before (gives piece ∷ events) = before_after before events
before_after before (finishes ∷ events) = before_after before events
before_after before (wants ∷ events) = before_after before events
before_after before (takes t ∷ events) = before_after (after before t) events

-- The calls lead from one state of a lexer to another; nothing is given once the text is finished. What
-- comes next of a text is told at once or line by line.
abbrev pub Run : (Bool → List Cell → Next → Type 0) → Before → Pieces → List Event → Pieces → Type 0
Run IsComing before old [] last = last ≡ old
Run IsComing before old (gives piece ∷ events) last = (new : Pieces) × KnowsMore old piece new × Run IsComing before new events last
Run IsComing before old (finishes ∷ events) last = (new : Pieces) × IsFinished old new × (bytes_given events ≡ []) × Run IsComing before new events last
Run IsComing before old (wants ∷ events) last = (new : Pieces) × IsWaiting old new × Run IsComing before new events last
Run IsComing before old (takes t ∷ events) last = (new : Pieces) × ((more : List ℕ) → IsComing (allows_header before) (ahead_of old more) (token t.kind t.spelling t.line t.space (ahead_of new more))) × Run IsComing (after before t) new events last

-- these tokens come next of a text that is read line by line, and then this
abbrev pub AreReadByLines : Before → List Cell → List Lexeme → Next → Type 0
AreReadByLines before start [] next = IsNextByLines (allows_header before) start next
AreReadByLines before start (t ∷ ts) next = (rest : List Cell) × IsNextByLines (allows_header before) start (token t.kind t.spelling t.line t.space rest) × AreReadByLines (after before t) rest ts next
