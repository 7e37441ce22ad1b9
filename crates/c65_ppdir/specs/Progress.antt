-- What reading has come to within a file, and what is read next.
use Rattle.std.specs.Prelude.{◌≡◌, ℕ, List, [], ◌∷◌, ◌++◌, Bool, true, false, if◌then◌else◌, Result, Ok, Err}
use Rattle.c65_base.specs.declared.code.Code.{Code}
use Rattle.c65_base.specs.declared.code.Code.TheVariants as codes
use Rattle.c65_base.specs.declared.refusal.Pos.{Pos}
use Rattle.c65_base.specs.declared.refusal.Refusal.{Refusal}
use Rattle.c65_base.specs.declared.refusal.Refusal.TheVariants as refusals
use Rattle.c65_lex.specs.declared.token.PpToken.{PpToken}
use Rattle.c65_macro.specs.Expand.{Expands, Refuses}
use Rattle.c65_macro.specs.Table.{Table}
use Rattle.c65_ppline.specs.declared.condition.Group.{Group}
use Rattle.c65_ppline.specs.declared.line.Line.{Line}
use Rattle.c65_ppdir.specs.declared.opened.Opened.{Opened}
use Rattle.c65_ppdir.specs.Files.{OpenFile, opened_as}
use Rattle.c65_pptext.specs.Reading.{Held}
use Rattle.c65_pptext.specs.declared.ending.Read.{Read}
use Rattle.c65_ppdir.specs.declared.opened.Unseen.{Unseen}
use Rattle.c65_ppdir.specs.declared.reader.Reader.{Reader}
use Rattle.c65_ppdir.specs.Gathering.{Gathering, IsLineRead}
use Rattle.c65_ppdir.specs.Opening.{IsReadNext, IsSeenNext}
use Rattle.c65_ppline.specs.Relations.{Answers, of, just, ◌then◌}
use Rattle.c65_ppdir.specs.UnitTokens.{with_tokens}

-- the macros, the tokens of the unit, those of the list that is being read, the file, and the spellings
pub record Progress : Type 0 where
  pub table : Table
  pub given : List PpToken
  pub list : List PpToken
  pub file : OpenFile
  pub names : List (List ℕ)

abbrev pub progress : Held → Reader → Opened → List (List ℕ) → Progress
progress held reader file names = record { table = reader.macros; given = reader.output.given; list = reader.output.list.items; file = opened_as held file; names = names }

abbrev pub with_groups : List Group → Progress → Progress
with_groups gs p = record p { file = record p.file { groups = gs } }

-- a token is added to the list
abbrev pub added : PpToken → Progress → Progress
added t p = record p { list = p.list ++ t ∷ [] }

-- a list's expansion, and the spellings known then
abbrev pub expansions : Table → List (List ℕ) → List PpToken → Answers (List PpToken × List (List ℕ))
expansions table names ts (Ok x) = Expands table names ts x.0 x.1
expansions table names ts (Err e) = Refuses e table names ts

abbrev pub ended : Progress → List (List ℕ) → List PpToken → Progress
ended p names given = record { table = p.table; given = given; list = []; file = p.file; names = names }

-- the list ends, and its expansion is added to the unit
abbrev pub flushed : Progress → Answers Progress
flushed p = expansions p.table p.names p.list then λ x. of (with_tokens p.given x.0) then λ given. just (Ok (ended p x.1 given))

abbrev pub is_open_arguments : Code → Bool
is_open_arguments codes.OpenArguments = true
is_open_arguments _ = false

-- A fault that is found here comes behind those of the list before it, but not behind one that is found only where the list
-- ends.
abbrev pub earlier : Refusal → Refusal → Refusal
earlier fault (refusals.At code place) = if is_open_arguments code then fault else refusals.At code place
earlier fault e = e

abbrev pub settled : Refusal → Result Progress Refusal → Refusal
settled fault (Ok p) = fault
settled fault (Err e) = earlier fault e

abbrev pub Settles : Refusal → Progress → Refusal → Type 0
Settles fault p e = (z : Result Progress Refusal) × flushed p z × (e ≡ settled fault z)

abbrev pub settles : {A : Type 0} → Refusal → Progress → Answers A
settles fault p (Ok x) = ⊥
settles fault p (Err e) = Settles fault p e

-- what is read next
abbrev pub read_next : Bool → Progress → Answers (Read × Progress)
read_next header p (Ok x) = (left : OpenFile) × (known : List (List ℕ)) × IsReadNext header p.file p.names x.0 left known × (x.1 ≡ record p { file = left; names = known })
read_next header p (Err e) = ⊥

-- the same of a line that is skipped
abbrev pub seen_next : Progress → Answers (Unseen × Progress)
seen_next p (Ok x) = (left : OpenFile) × IsSeenNext p.file x.0 left × (x.1 ≡ record p { file = left })
seen_next p (Err e) = ⊥

-- the line behind a #
abbrev pub line_read : Pos → Progress → Answers (Line × Progress)
line_read hash p (Ok x) = (g : Gathering) × IsLineRead hash p.file p.names g × (x.0 ≡ g.line) × (x.1 ≡ record p { file = g.file; names = g.names })
line_read hash p (Err e) = ⊥

-- what is read by a definition that knows spellings, with those that it leaves
abbrev pub known_then : {A : Type 0} → (List (List ℕ) → Result A Refusal → Type 0) → Answers (A × List (List ℕ))
known_then P (Ok x) = P x.1 (Ok x.0)
known_then P (Err e) = (known : List (List ℕ)) × P known (Err e)
