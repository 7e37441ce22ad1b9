-- What the lexer answers to what comes next on the whole lines ahead.
use Rattle.std.specs.Prelude.{◌≡◌, ◌<◌, ◌≤◌, ◌+◌, ◌⊎◌, ℕ, List, length, slice_get, Option, Some, None, Result, Ok, Err, Bool, true, false, if◌then◌else◌}
use Rattle.c65_base.specs.declared.refusal.Refusal.{Refusal}
use Rattle.c65_base.specs.declared.refusal.Refusal.TheVariants.{OutOfMemory, At, TooLarge}
use Rattle.c65_base.specs.declared.refusal.Size.TheVariants.{Line, Names}
use Rattle.c65_base.specs.Limits.{limit_of}
use Rattle.c65_base.specs.declared.code.Code.TheVariants.{OpenComment}
use Rattle.c65_base.specs.Names.{name_of, with_spelling, Lacks, RefusesName}
use Rattle.c65_lex.specs.declared.token.PpKind.{PpKind}
use Rattle.c65_lex.specs.declared.token.PpToken.{PpToken}
use Rattle.c65_lex.specs.Next.{Next, ended, open_comment, long_line, token, IsNext}
use Rattle.c65_pieces.specs.declared.text.Edge.{Edge}
use Rattle.c65_pieces.specs.declared.lexer.Lexed.{Lexed}
use Rattle.c65_pieces.specs.declared.lexer.Lexed.TheVariants.{Token, More, End}
use Rattle.c65_pieces.specs.declared.lexer.Stop.{Stop}
use Rattle.c65_pieces.specs.declared.lexer.Stop.TheVariants.{Over, Long, Wanting}
use Rattle.c65_pieces.specs.Lines.{IsNextByLines}
use Rattle.c65_pieces.specs.Pieces.{Pieces, IsOpen, is_too_long, ahead_of, lines_of}

abbrev pub Answer : Type 0
Answer = Result Lexed Refusal

-- the token has this class, spelling and place, and its spelling has its name
pub record IsNamed (file : ℕ) (names : List (List ℕ)) (kind : PpKind) (spelling : List ℕ) (line : ℕ) (space : Bool) (given : PpToken) (after : List (List ℕ)) : Type 0 where
  pub kind_is : given.kind ≡ kind
  pub name_is : name_of after spelling ≡ Some given.spelling.0
  pub known : slice_get after given.spelling.0 ≡ Some spelling
  pub file_is : given.pos.file ≡ file
  pub line_is : given.pos.line ≡ line
  pub space_is : given.space ≡ space
  pub names_are : after ≡ with_spelling names spelling
  pub room : Lacks names spelling → length names < limit_of Names

-- the token is the next one of the text, with whichever bytes it goes on, and what is behind it is left
pub record IsGiven (header : Bool) (old : Pieces) (names : List (List ℕ)) (kind : PpKind) (spelling : List ℕ) (line : ℕ) (space : Bool) (given : PpToken) (new : Pieces) (after : List (List ℕ)) : Type 0 where
  pub named : IsNamed old.file names kind spelling line space given after
  pub file_is : new.file ≡ old.file
  pub edge_is : new.edge ≡ old.edge
  pub next : (more : List ℕ) → IsNext header (ahead_of old more) (token kind spelling line space (ahead_of new more))
  pub by_lines : (more : List ℕ) → IsNextByLines header (ahead_of old more) (token kind spelling line space (ahead_of new more))

-- nothing has changed
abbrev pub IsKept : Pieces → List (List ℕ) → Pieces → List (List ℕ) → Type 0
IsKept old names new after = (new ≡ old) × (after ≡ names)

-- there is room for a piece, and what comes next is what came next before, with whichever bytes the
-- text goes on
pub record IsWaiting (old new : Pieces) : Type 0 where
  pub file_is : new.file ≡ old.file
  pub edge_is : new.edge ≡ old.edge
  pub few : length new.cells ≤ limit_of Line
  pub same : (header : Bool) (more : List ℕ) (next : Next) → IsNext header (ahead_of new more) next → IsNext header (ahead_of old more) next
  pub by_lines : (header : Bool) (more : List ℕ) (next : Next) → IsNextByLines header (ahead_of new more) next → IsNextByLines header (ahead_of old more) next

-- What comes next of the text, with whichever bytes it goes on, is this.
abbrev pub ComesByLines : Bool → Pieces → Next → Type 0
ComesByLines header old next = (more : List ℕ) → IsNextByLines header (ahead_of old more) next

-- Of the lines up to the first that is too long this comes next, and no token: then that line is
-- refused; where there is none, of a finished text this is the answer, and of another that more bytes
-- are wanted.
abbrev pub AnswersLines : Bool → Bool → Option Edge → Next → Answer → Pieces → List (List ℕ) → Answer → Pieces → List (List ℕ) → Type 0
AnswersLines header true edge next finished old names result' new after = (result' ≡ Err (TooLarge Line (limit_of Line + 1))) × IsKept old names new after × ComesByLines header old long_line
AnswersLines header false None next finished old names result' new after = (result' ≡ finished) × IsKept old names new after × ((more : List ℕ) → IsNext header (ahead_of old more) next) × ComesByLines header old next
AnswersLines header false (Some edge) next finished old names result' new after = (result' ≡ Ok More) × IsWaiting old new × (after ≡ names)

-- a token, or the refusal of its name
abbrev pub AnswersToken : Bool → Pieces → List (List ℕ) → PpKind → List ℕ → ℕ → Bool → Answer → Pieces → List (List ℕ) → Type 0
AnswersToken header old names kind spelling line space (Ok (Token given)) new after = IsGiven header old names kind spelling line space given new after
AnswersToken header old names kind spelling line space (Ok More) new after = ⊥
AnswersToken header old names kind spelling line space (Ok End) new after = ⊥
AnswersToken header old names kind spelling line space (Err refusal) new after = ((refusal ≡ OutOfMemory) ⊎ RefusesName names spelling refusal) × IsKept old names new after

-- Want of memory may come in place of a token, and of nothing else.
abbrev pub Answers : Bool → Pieces → List (List ℕ) → Next → Answer → Pieces → List (List ℕ) → Type 0
Answers header old names ended result' new after = AnswersLines header (is_too_long old) old.edge ended (Ok End) old names result' new after
Answers header old names (open_comment line) result' new after = AnswersLines header (is_too_long old) old.edge (open_comment line) (Err (At OpenComment (record { file = old.file; line = line }))) old names result' new after
Answers header old names long_line result' new after = ⊥
Answers header old names (token kind spelling line space rest) result' new after = AnswersToken header old names kind spelling line space result' new after

-- the answer to what comes next on the whole lines ahead
abbrev pub IsAnswered : Bool → Pieces → List (List ℕ) → Answer → Pieces → List (List ℕ) → Type 0
IsAnswered header old names result' new after = (next : Next) × IsNext header (lines_of old) next × Answers header old names next result' new after

-- no token is left on the whole lines ahead
abbrev pub HasNone : Bool → Pieces → Type 0
HasNone header p = IsNext header (lines_of p) ended ⊎ ((line : ℕ) × IsNext header (lines_of p) (open_comment line))

-- the text was not finished, and no line that is known is too long
abbrev pub MayGoOn : Pieces → Type 0
MayGoOn p = IsOpen p.edge × (is_too_long p ≡ false)

-- what a lexer does where its whole lines have no further token
abbrev pub stop_of : Bool → Bool → Stop
stop_of finished long = if long then Long else if finished then Over else Wanting
