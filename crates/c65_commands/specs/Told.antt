-- What `run` takes from its file.
use Rattle.std.specs.Prelude.{◌≡◌, ℕ, List, [], ◌∷◌, Option, Some, None, Result, Ok, Err, ⊤}
use Rattle.c65_base.specs.declared.refusal.Refusal.{Refusal}
use Rattle.c65_base.specs.declared.refusal.Refusal.TheVariants.{OutOfMemory, Missing, ReadFault, BadImage}
use Rattle.c65_io.specs.Contents.{Contents}
use Rattle.c65_mach.specs.declared.image.Image.{Image}
use Rattle.c65_mach.specs.Images.{Parses}

-- the image that a told file spells, or why there is none
abbrev pub HeldImage : Option (List ℕ) → List ℕ → Result Image Refusal → Type 0
HeldImage None file (Err (Missing path)) = path ≡ file
HeldImage held file (Err OutOfMemory) = ⊤
HeldImage (Some bytes) file (Ok image) = Parses bytes (Ok image)
HeldImage (Some bytes) file (Err (BadImage offset)) = Parses bytes (Err (BadImage offset))
HeldImage (Some bytes) file (Err ReadFault) = ⊤
HeldImage held file result = ⊥

abbrev pub ToldImage : Contents → List ℕ → Result Image Refusal → Type 0
ToldImage None file result = ⊤
ToldImage (Some held) file result = HeldImage (held file) file result

-- an image that some bytes spell, or one of the refusals
abbrev pub SomeImage : List ℕ → Result Image Refusal → Type 0
SomeImage file (Ok image) = (bytes : List ℕ) × Parses bytes (Ok image)
SomeImage file (Err OutOfMemory) = ⊤
SomeImage file (Err (Missing path)) = path ≡ file
SomeImage file (Err ReadFault) = ⊤
SomeImage file (Err (BadImage offset)) = ⊤
SomeImage file (Err refusal) = ⊥

-- `run` refuses what a told file holds exactly where it spells no image
abbrev pub RunAnswers : Option (List ℕ) → List ℕ → Result ℕ Refusal → Type 0
RunAnswers None file (Err (Missing path)) = path ≡ file
RunAnswers held file (Err OutOfMemory) = ⊤
RunAnswers None file result = ⊥
RunAnswers (Some bytes) file (Err (Missing path)) = ⊥
RunAnswers (Some bytes) file (Err (BadImage offset)) = Parses bytes (Err (BadImage offset))
RunAnswers (Some bytes) file (Err ReadFault) = ⊤
RunAnswers (Some bytes) file result = (image : Image) × Parses bytes (Ok image)

abbrev pub ToldRun : Contents → List ℕ → Result ℕ Refusal → Type 0
ToldRun None file result = ⊤
ToldRun (Some held) file result = RunAnswers (held file) file result

-- the image that was made is that of the told file
abbrev pub MadeOf : Contents → List ℕ → Option Image → Type 0
MadeOf contents file None = ⊤
MadeOf contents file (Some image) = ToldImage contents file (Ok image)

abbrev pub first_of : List (List ℕ) → List ℕ
first_of [] = []
first_of (file ∷ files) = file
