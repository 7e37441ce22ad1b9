-- Which file a path leads to, and what is read of it. Of files that tell nothing, nothing is said.
use Rattle.std.specs.Prelude.{◌≡◌, ◌≤◌, ◌⊎◌, ℕ, List, [], ◌∷◌, ◌++◌, length, slice_get, unwrap_or, Bool, Option, Some, None, Result, Ok, Err, ⊤, if◌then◌else◌}
use Rattle.c65_base.specs.declared.refusal.Refusal.{Refusal}
use Rattle.c65_base.specs.declared.refusal.Refusal.TheVariants as refusals
use Rattle.c65_io.specs.Contents.{Contents}
use Rattle.c65_ppfile.specs.declared.files.Found.{Found}
use Rattle.c65_ppfile.specs.declared.files.Found.TheVariants as kinds
use Rattle.c65_ppfile.specs.declared.headers.BuiltIn.{BuiltIn}
use Rattle.c65_ppfile.specs.declared.include.Header.{Header}
use Rattle.c65_ppfile.specs.Headers.{built_in_of}
use Rattle.c65_ppline.specs.Relations.{IsFree}
use Rattle.c65_ppfile.specs.Search.{is_rooted, paths_of}

abbrev pub TellsNothing : Contents → Type 0
TellsNothing None = ⊤
TellsNothing (Some held) = ⊥

-- no file is there
abbrev pub IsAbsent : Contents → List ℕ → Type 0
IsAbsent None path = ⊤
IsAbsent (Some held) path = held path ≡ None

-- a file is there, and begins with these bytes
abbrev pub Begins : Option (List ℕ) → List ℕ → Type 0
Begins None front = ⊥
Begins (Some bytes) front = (rest : List ℕ) × (bytes ≡ front ++ rest)

abbrev pub BeginsAt : Contents → List ℕ → List ℕ → Type 0
BeginsAt None path front = ⊤
BeginsAt (Some held) path front = Begins (held path) front

-- no more bytes than one piece has
abbrev pub IsPiece : List ℕ → Type 0
IsPiece front = length front ≤ 4096

-- the first of these paths under which a file is there, and its bytes
abbrev pub or_next : List ℕ → Option (List ℕ) → Option (List ℕ × List ℕ) → Option (List ℕ × List ℕ)
or_next path None later = later
or_next path (Some bytes) later = Some (path, bytes)

abbrev pub first_held : (List ℕ → Option (List ℕ)) → List (List ℕ) → Option (List ℕ × List ℕ)
first_held held [] = None
first_held held (path ∷ paths) = or_next path (held path) (first_held held paths)

abbrev pub first_found : Contents → List (List ℕ) → Option (List ℕ × List ℕ)
first_found None paths = None
first_found (Some held) paths = first_held held paths

-- that file has this path, and begins with these bytes
abbrev pub IsFile : Option (List ℕ × List ℕ) → List ℕ → List ℕ → Type 0
IsFile None path front = ⊥
IsFile (Some file) path front = (path ≡ file.0) × Begins (Some file.1) front

abbrev pub IsFirst : Contents → List (List ℕ) → List ℕ → List ℕ → Type 0
IsFirst None paths path front = ⊤
IsFirst (Some held) paths path front = IsFile (first_held held paths) path front

-- the header of a name that is built in; none of a name that begins with /
abbrev pub header_of : List ℕ → Option BuiltIn
header_of name = if is_rooted name then None else built_in_of name

-- The answer of a read from a file's start on: its first bytes, or none where it is absent.
abbrev pub Opens : {V : Type 0} → (V → List ℕ) → Contents → List ℕ → Result (Option V) Refusal → Type 0
Opens view contents path (Ok None) = IsAbsent contents path
Opens view contents path (Ok (Some front)) = BeginsAt contents path (view front) × IsPiece (view front)
Opens view contents path (Err refusal) = IsFree refusal

-- the answer of a look under each path in turn
abbrev pub Finds : {V : Type 0} → (V → List ℕ × List ℕ) → Contents → List (List ℕ) → Result (Option V) Refusal → Type 0
Finds view contents paths (Ok None) = first_found contents paths ≡ None
Finds view contents paths (Ok (Some file)) = IsFirst contents paths (view file).0 (view file).1 × IsPiece (view file).1
Finds view contents paths (Err refusal) = IsFree refusal

-- a file is there, or a header is built in
abbrev pub IsThere : Contents → Found → Type 0
IsThere contents (kinds.File path front name) = BeginsAt contents path front.items × IsPiece front.items
IsThere contents (kinds.BuiltIn header) = ⊤

-- what an #include of a name finds: the first file, which is missing by the name if it is gone later, else the header
abbrev pub IsSought : Contents → List (List ℕ) → List ℕ → Found → Type 0
IsSought contents paths name (kinds.File path front missing) = IsFirst contents paths path front.items × IsPiece front.items × (missing ≡ name)
IsSought contents paths name (kinds.BuiltIn header) = (first_found contents paths ≡ None) × (header_of name ≡ Some header)

-- neither a file nor a header is there
abbrev pub IsNowhere : Contents → List (List ℕ) → List ℕ → Type 0
IsNowhere contents paths name = (first_found contents paths ≡ None) × (header_of name ≡ None)

-- the answer of a search for a header in a file of this path
abbrev pub Seeks : Contents → List ℕ → List (List ℕ) → Header → Result Found Refusal → Type 0
Seeks contents including folders header (Ok found) = IsSought contents (paths_of including folders header.is_quoted header.name) header.name found
Seeks contents including folders header (Err (refusals.Missing name)) = (name ≡ header.name) × IsNowhere contents (paths_of including folders header.is_quoted header.name) header.name
Seeks contents including folders header (Err refusal) = IsFree refusal

-- The answer of a read of the first bytes of the unit's own file.
abbrev pub ReadsMain : {V : Type 0} → (V → List ℕ) → Contents → List ℕ → Result V Refusal → Type 0
ReadsMain view contents path (Ok front) = BeginsAt contents path (view front) × IsPiece (view front)
ReadsMain view contents path (Err (refusals.Missing name)) = (name ≡ path) × IsAbsent contents path
ReadsMain view contents path (Err refusal) = IsFree refusal

-- the first bytes of a file that was found are one piece
abbrev pub IsShort : Found → Type 0
IsShort (kinds.File path front name) = IsPiece front.items
IsShort (kinds.BuiltIn header) = ⊤

-- the path of a file by its number
abbrev pub path_at : List (List ℕ) → ℕ → List ℕ
path_at paths number = unwrap_or (slice_get paths number) []

-- where files tell what they hold, no file and no header was there
abbrev pub IsMissed : Contents → List (List ℕ) → List ℕ → Type 0
IsMissed None paths name = ⊤
IsMissed (Some held) paths name = IsNowhere (Some held) paths name

-- a header is missing by its name as the directive has it, where it is under none of its paths
abbrev pub Includes : {T : Type 0} → Contents → List ℕ → List (List ℕ) → Header → Result T Refusal → Type 0
Includes contents including folders header (Err (refusals.Missing name)) = (name ≡ header.name) × IsMissed contents (paths_of including folders header.is_quoted header.name) header.name
Includes contents including folders header result' = ⊤

-- some #include of this name looks for it where it is not
abbrev pub IsHeaderMissed : Contents → List (List ℕ) → List ℕ → Type 0
IsHeaderMissed contents folders name = (including : List ℕ) × (quoted : Bool) × IsMissed contents (paths_of including folders quoted name) name

abbrev pub Misses : {T : Type 0} → Contents → List (List ℕ) → Result T Refusal → Type 0
Misses contents folders (Err (refusals.Missing name)) = IsHeaderMissed contents folders name
Misses contents folders result' = ⊤

-- What is missing is the unit's own file, or a header that is under none of the paths of its search.
abbrev pub MissesInUnit : {T : Type 0} → Contents → List (List ℕ) → List ℕ → Result T Refusal → Type 0
MissesInUnit contents folders path (Err (refusals.Missing name)) = ((name ≡ path) × IsAbsent contents path) ⊎ IsHeaderMissed contents folders name
MissesInUnit contents folders path result' = ⊤
