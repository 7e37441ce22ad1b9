-- What reading has come to in a unit, and what the next line of it does.
use Rattle.std.specs.Prelude.{ℕ, ◌+◌, pos, List, [], ◌∷◌, ◌++◌, length, Bool, ◌==◌, ◌||◌, nat_lt, map, reverse, if◌then◌else◌, Ok}
use Rattle.c65_base.specs.Limits.{limit_of}
use Rattle.c65_base.specs.declared.refusal.Size.TheVariants.{Includes}
use Rattle.c65_base.specs.declared.names.Name.{Name}
use Rattle.c65_macro.specs.Answered
use Rattle.c65_macro.specs.Items.{learn}
use Rattle.c65_macro.specs.Table.{Table}
use Rattle.c65_ppfile.specs.declared.headers.BuiltIn.{BuiltIn}
use Rattle.c65_ppdir.specs.declared.opened.Opened.{Opened}
use Rattle.c65_ppdir.specs.Files.{OpenFile, opened_as}
use Rattle.c65_pptext.specs.Reading.{Held}
use Rattle.c65_ppdir.specs.declared.reader.Reader.{Reader}
use Rattle.c65_ppdir.specs.declared.reader.Turn.{Turn}
use Rattle.c65_ppdir.specs.declared.reader.Turn.TheVariants as turns
use Rattle.c65_ppdir.specs.declared.unit.Event.{Event}
use Rattle.c65_ppdir.specs.declared.unit.Event.TheVariants as events
use Rattle.c65_ppdir.specs.LineActions.{turn}
use Rattle.c65_ppline.specs.NumberLines.{offset}
use Rattle.c65_ppdir.specs.Opening.{opened}
use Rattle.c65_ppdir.specs.Progress.{Progress, progress, known_then}
use Rattle.c65_ppline.specs.Relations.{Answers, just, ◌then◌}

-- the innermost file; the files that include it, each before the one that includes it; and the headers that were built in
pub record Standing : Type 0 where
  pub here : Progress
  pub outer : List OpenFile
  pub headers : List BuiltIn

abbrev pub standing : Held → Reader → Opened → List Opened → List BuiltIn → List (List ℕ) → Standing
standing held reader file outer headers names = record { here = progress held reader file names; outer = map (opened_as held) (reverse outer); headers = headers }

-- a path as a string literal
abbrev pub escaped : List ℕ → List ℕ
escaped [] = []
escaped (b ∷ bs) = if (b == 34) || (b == 92) then 92 ∷ b ∷ escaped bs else b ∷ escaped bs

abbrev pub literal_of : List ℕ → List ℕ
literal_of path = 34 ∷ (escaped path ++ 34 ∷ [])

-- the name of a spelling
abbrev pub learned : List (List ℕ) → List ℕ → Answers (Name × List (List ℕ))
learned names spelling = known_then (λ known answer. Answered.Gives (λ n. n) answer known (learn names spelling))

-- the lines of a file are counted, and the file is named, as it says itself
abbrev pub counting : OpenFile → Table → Table
counting file table = record table { file = file.literal; offset = offset file.count }

-- a file begins
abbrev pub entered : OpenFile → List (List ℕ) → Progress → Progress
entered file names p = record { table = counting file p.table; given = p.given; list = p.list; file = file; names = names }

-- a file of this number, path and bytes is opened in the innermost one
abbrev pub inner : OpenFile → List (List ℕ) → Standing → Standing
inner file names s = record { here = entered file names s.here; outer = s.here.file ∷ s.outer; headers = s.headers }

abbrev pub opening : ℕ → List ℕ → List ℕ → Standing → Answers Standing
opening number path bytes s = learned s.here.names (literal_of path) then λ x. just (Ok (inner (opened number x.0 bytes) x.1 s))

-- at most 64 files are open
abbrev pub has_room : Standing → Bool
has_room s = nat_lt (length s.outer + 1) (limit_of Includes)

-- the innermost file is at its end
abbrev pub left : Progress → List OpenFile → List BuiltIn → Event × Standing
left p [] headers = (events.End, record { here = p; outer = []; headers = headers })
left p (file ∷ outer) headers = (events.Line, record { here = entered file p.names p; outer = outer; headers = headers })

abbrev pub event_of : Turn → ℕ → Progress → Standing → Event × Standing
event_of turns.Line number p s = (events.Line, record s { here = p })
event_of (turns.Include header) number p s = (events.Include header number, record s { here = p })
event_of turns.FileEnd number p s = left p s.outer s.headers

-- the next line of a unit
abbrev pub advanced : Standing → Answers (Event × Standing)
advanced s = turn s.here then λ x. just (Ok (event_of x.0 s.here.file.number x.1 s))

-- what reading has come to where the unit's own file begins
abbrev pub first_standing : Table → List ℕ → List ℕ → List (List ℕ) → Answers Standing
first_standing table path bytes names = learned names (literal_of path) then λ x. just (Ok (record { here = record { table = record table { file = x.0; offset = pos 0 }; given = []; list = []; file = opened 0 x.0 bytes; names = x.1 }; outer = []; headers = [] }))
