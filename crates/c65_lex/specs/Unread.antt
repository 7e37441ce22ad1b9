-- What the lexer answers to what comes next in its text.
use Rattle.std.specs.Prelude.{◌≡◌, ◌<◌, ◌+◌, ◌⊎◌, ℕ, List, length, slice_get, Option, Some, None, Result, Ok, Err, Bool}
use Rattle.c65_base.specs.declared.refusal.Refusal.{Refusal}
use Rattle.c65_base.specs.declared.refusal.Refusal.TheVariants.{OutOfMemory, At, TooLarge}
use Rattle.c65_base.specs.declared.refusal.Size.TheVariants.{Line, Names}
use Rattle.c65_base.specs.Limits.{limit_of}
use Rattle.c65_base.specs.declared.code.Code.TheVariants.{OpenComment}
use Rattle.c65_base.specs.Names.{name_of, with_spelling, Lacks, RefusesName}
use Rattle.c65_lex.specs.declared.token.PpKind.{PpKind}
use Rattle.c65_lex.specs.declared.token.PpToken.{PpToken}
use Rattle.c65_lex.specs.Cells.{Cell, cells}
use Rattle.c65_lex.specs.Next.{Next, ended, open_comment, long_line, token, IsNext}

-- what is left of a file's text
pub record Unread : Type 0 where
  pub file : ℕ
  pub cells : List Cell

-- a whole text
abbrev pub unread : ℕ → List ℕ → Unread
unread file text = record { file = file; cells = cells 1 0 text }

-- the token has this class, spelling and place, its spelling has its name, and what is behind it is left
pub record IsGiven (old : Unread) (names : List (List ℕ)) (kind : PpKind) (spelling : List ℕ) (line : ℕ) (space : Bool) (rest : List Cell) (given : PpToken) (new : Unread) (after : List (List ℕ)) : Type 0 where
  pub kind_is : given.kind ≡ kind
  pub name_is : name_of after spelling ≡ Some given.spelling.0
  pub known : slice_get after given.spelling.0 ≡ Some spelling
  pub file_is : given.pos.file ≡ old.file
  pub line_is : given.pos.line ≡ line
  pub space_is : given.space ≡ space
  pub names_are : after ≡ with_spelling names spelling
  pub room : Lacks names spelling → length names < limit_of Names
  pub left : new ≡ record { file = old.file; cells = rest }

-- nothing has changed
abbrev pub IsKept : Unread → List (List ℕ) → Unread → List (List ℕ) → Type 0
IsKept old names new after = (new ≡ old) × (after ≡ names)

-- a token, or the refusal of its name
abbrev pub AnswersToken : Unread → List (List ℕ) → PpKind → List ℕ → ℕ → Bool → List Cell → Result (Option PpToken) Refusal → Unread → List (List ℕ) → Type 0
AnswersToken old names kind spelling line space rest (Ok None) new after = ⊥
AnswersToken old names kind spelling line space rest (Ok (Some given)) new after = IsGiven old names kind spelling line space rest given new after
AnswersToken old names kind spelling line space rest (Err refusal) new after = ((refusal ≡ OutOfMemory) ⊎ RefusesName names spelling refusal) × IsKept old names new after

-- Want of memory may come in place of a long line and of a token, and of nothing else.
abbrev pub Answers : Unread → List (List ℕ) → Next → Result (Option PpToken) Refusal → Unread → List (List ℕ) → Type 0
Answers old names ended result' new after = (result' ≡ Ok None) × IsKept old names new after
Answers old names (open_comment line) result' new after = (result' ≡ Err (At OpenComment (record { file = old.file; line = line }))) × IsKept old names new after
Answers old names long_line result' new after = ((result' ≡ Err (TooLarge Line (limit_of Line + 1))) ⊎ (result' ≡ Err OutOfMemory)) × IsKept old names new after
Answers old names (token kind spelling line space rest) result' new after = AnswersToken old names kind spelling line space rest result' new after

-- the answer to what comes next
abbrev pub IsAnswered : Bool → Unread → List (List ℕ) → Result (Option PpToken) Refusal → Unread → List (List ℕ) → Type 0
IsAnswered header old names result' new after = (next : Next) × IsNext header old.cells next × Answers old names next result' new after
