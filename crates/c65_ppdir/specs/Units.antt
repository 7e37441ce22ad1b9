-- Preprocessing: from files that tell what they hold, options, definitions, folders and a path to the tokens of a unit, or to
-- its first refusal (C90 5.1.1.2, phases 1 to 4).
use Rattle.std.specs.Prelude.{◌≡◌, ◌⊎◌, ℕ, ◌+◌, zero, suc, List, [], ◌∷◌, ◌++◌, length, Bool, true, false, Option, Some, None, Result, Ok, Err, ⊤}
use Rattle.c65_base.specs.Limits.{limit_of}
use Rattle.c65_base.specs.declared.options.Options.{Options}
use Rattle.c65_base.specs.declared.refusal.Refusal.{Refusal}
use Rattle.c65_base.specs.declared.refusal.Refusal.TheVariants as refusals
use Rattle.c65_base.specs.declared.refusal.Size.TheVariants as sizes
use Rattle.c65_io.specs.Contents.{Contents}
use Rattle.c65_lex.specs.declared.token.PpToken.{PpToken}
use Rattle.c65_lex.specs.declared.token.PpUnit.{PpUnit}
use Rattle.c65_macro.specs.Answered
use Rattle.c65_macro.specs.Predefined.{initial}
use Rattle.c65_macro.specs.Table.{Table}
use Rattle.c65_lex.specs.declared.define.Define.{Define}
use Rattle.c65_ppfile.specs.declared.files.Found.{Found}
use Rattle.c65_ppfile.specs.declared.files.Found.TheVariants as kinds
use Rattle.c65_ppfile.specs.declared.headers.BuiltIn.{BuiltIn}
use Rattle.c65_ppfile.specs.declared.include.Header.{Header}
use Rattle.c65_ppdir.specs.declared.unit.Event.{Event}
use Rattle.c65_ppdir.specs.declared.unit.Event.TheVariants as events
use Rattle.c65_ppdir.specs.Files.{IsToldFile, AreTold}
use Rattle.c65_ppdir.specs.CommandLine.{all_defined}
use Rattle.c65_ppfile.specs.Finding.{first_held, header_of, path_at}
use Rattle.c65_ppfile.specs.Headers.{path_of, text_behind, with_header}
use Rattle.c65_ppdir.specs.Progress.{known_then}
use Rattle.c65_ppline.specs.Relations.{Answers, just, by_test, ◌then◌, IsFree}
use Rattle.c65_ppfile.specs.Search.{paths_of}
use Rattle.c65_ppdir.specs.Standing.{Standing, standing, first_standing, opening, has_room, advanced}
use Rattle.c65_ppdir.specs.declared.unit.Unit.{Unit as UnitParts}

-- the bytes of each path
abbrev pub Held : Type 0
Held = List ℕ → Option (List ℕ)

-- what stays the same while a unit is read
pub record Surroundings : Type 0 where
  pub held : Held
  pub folders : List (List ℕ)
  pub signed : Bool

abbrev pub around : Held → List (List ℕ) → Bool → Surroundings
around held folders signed = record { held = held; folders = folders; signed = signed }

-- the unit, and the paths of its files by number
pub record Reached : Type 0 where
  pub standing : Standing
  pub paths : List (List ℕ)

abbrev pub reached : Held → UnitParts → List (List ℕ) → List (List ℕ) → Reached
reached held u names paths = record { standing = standing held u.reader u.file u.outer.items u.included.headers.items names; paths = paths }

-- all files of a unit are told
abbrev pub IsToldUnit : Held → UnitParts → Type 0
IsToldUnit held u = IsToldFile held u.file × AreTold held u.outer.items

abbrev pub AreToldWhere : Contents → UnitParts → Type 0
AreToldWhere None u = ⊤
AreToldWhere (Some held) u = IsToldUnit held u

-- what is found for an #include: a file's path and bytes, or a header that is built in
pub data Source : Type 0 where
  file : List ℕ → List ℕ → Source
  built_in : BuiltIn → Source

abbrev pub or_built_in : List ℕ → Option (List ℕ × List ℕ) → Option BuiltIn → Result Source Refusal
or_built_in name (Some f) header = Ok (file f.0 f.1)
or_built_in name None (Some header) = Ok (built_in header)
or_built_in name None None = Err (refusals.Missing name)

-- files come before the headers that are built in
abbrev pub source_of : Held → List (List ℕ) → List ℕ → Result Source Refusal
source_of held paths name = or_built_in name (first_held held paths) (header_of name)

-- what was found is this
abbrev pub IsFor : Held → Found → Source → Type 0
IsFor held (kinds.File path front name) (file p bytes) = (path ≡ p) × (held p ≡ Some bytes)
IsFor held (kinds.BuiltIn header) (built_in h) = header ≡ h
IsFor held _ _ = ⊥

abbrev pub with_path : List ℕ → List (List ℕ) → Standing → Reached
with_path path paths s = record { standing = s; paths = paths ++ path ∷ [] }

abbrev pub opening_file : List ℕ → List ℕ → Reached → Answers Reached
opening_file path bytes r = opening (length r.paths) path bytes r.standing then λ s. just (Ok (with_path path r.paths s))

abbrev pub with_built_in : BuiltIn → Reached → Reached
with_built_in h r = record r { standing = record r.standing { headers = with_header r.standing.headers h } }

abbrev pub entering : Bool → Source → Reached → Answers Reached
entering signed (file path bytes) r = opening_file path bytes r
entering signed (built_in h) r = opening_file (path_of h) (text_behind signed r.standing.headers h) (with_built_in h r)

-- at most 64 files are open, which is looked at once the file is found
abbrev pub with_room : Bool → Source → Reached → Answers Reached
with_room signed source r = by_test (has_room r.standing) (entering signed source r) (just (Err (refusals.TooLarge sizes.Includes (limit_of sizes.Includes + 1))))

-- a header is included in the file of a number
abbrev pub including : Surroundings → Header → ℕ → Reached → Answers Reached
including a h number r = just (source_of a.held (paths_of (path_at r.paths number) a.folders h.is_quoted h.name) h.name) then λ source. with_room a.signed source r

-- a fault has the path of its file in the place of the number
abbrev pub located : List (List ℕ) → Refusal → Refusal
located paths (refusals.At code place) = refusals.Source code (path_at paths place.file) place.line
located paths e = e

abbrev pub by_path : {A : Type 0} → List (List ℕ) → Answers A → Answers A
by_path paths P (Ok x) = P (Ok x)
by_path paths P (Err e) = (fault : Refusal) × P (Err fault) × (e ≡ located paths fault)

abbrev pub unit_of : List PpToken → List (List ℕ) → PpUnit
unit_of tokens paths = record { tokens = tokens; files = paths }

-- the rest of a unit: by so many steps
abbrev pub rest_by : (Reached → Answers (PpUnit × List (List ℕ))) → Surroundings → Event → Reached → Answers (PpUnit × List (List ℕ))
rest_by go a events.Line r = go r
rest_by go a (events.Include header number) r = including a header number r then go
rest_by go a events.End r = just (Ok (unit_of r.standing.here.given r.paths, r.standing.here.names))

abbrev pub rest_from : ℕ → Surroundings → Reached → Answers (PpUnit × List (List ℕ))
rest_from zero a r = λ z. ⊥
rest_from (suc n) a r = by_path r.paths (advanced r.standing) then λ x. rest_by (rest_from n a) a x.0 (record r { standing = x.1 })

abbrev pub rest : Surroundings → Reached → Answers (PpUnit × List (List ℕ))
rest a r z = (n : ℕ) × rest_from n a r z

-- What a line that was read says of the rest: it goes on with the rest from there on, it ends, or it is refused.
abbrev pub Steps : Surroundings → Reached → Reached → Result Bool Refusal → Type 0
Steps a r q (Ok true) = (n : ℕ) (z : Result (PpUnit × List (List ℕ)) Refusal) → rest_from n a q z → rest_from (suc n) a r z
Steps a r q (Ok false) = rest_from 1 a r (Ok (unit_of q.standing.here.given q.paths, q.standing.here.names))
Steps a r q (Err e) = IsFree e ⊎ rest_from 1 a r (Err (located q.paths e))

-- the macros before the first line
abbrev pub macros : Options → List Define → List (List ℕ) → Answers (Table × List (List ℕ))
macros o ds names = known_then (λ known answer. Answered.Gives (λ m. m) answer known (initial o names)) then λ x. all_defined 0 ds x.0 x.1

-- the unit's own file
abbrev pub main_of : List ℕ → Option (List ℕ) → Result (List ℕ) Refusal
main_of path (Some bytes) = Ok bytes
main_of path None = Err (refusals.Missing path)

abbrev pub first_reached : List (List ℕ) → Table → List ℕ → List ℕ → List (List ℕ) → Answers Reached
first_reached paths table path bytes names = first_standing table path bytes names then λ s. just (Ok (with_path path paths s))

abbrev pub begun : Surroundings → Table → List ℕ → List (List ℕ) → Answers Reached
begun a table path names = just (main_of path (a.held path)) then λ bytes. first_reached [] table path bytes names

abbrev pub unit_read : Surroundings → List ℕ → Table → List (List ℕ) → Answers (PpUnit × List (List ℕ))
unit_read a path table names = begun a table path names then rest a

-- a unit and the spellings that are known behind it
abbrev pub preprocessed : Held → Options → List Define → List (List ℕ) → List ℕ → List (List ℕ) → Answers (PpUnit × List (List ℕ))
preprocessed held o ds folders path names = macros o ds names then λ x. unit_read (around held folders o.signed_chars) path x.0 x.1

-- what was answered, seen by view, may come, where the file of a fault is told by its path
abbrev pub ComesAt : {X A : Type 0} → List (List ℕ) → (X → A) → Answers A → Result X Refusal → Type 0
ComesAt paths view P (Ok x) = P (Ok (view x))
ComesAt paths view P (Err e) = IsFree e ⊎ P (Err (located paths e))
