-- What is law for the bytes of functions and programs.
use Rattle.std.specs.Prelude.{◌≡◌, ℕ, ◌+◌, ◌<◌, ◌≤◌, ◌^◌, ◌==◌, Some, Ok, Err, List, length, map, slice_get}
use Rattle.c65_ctype.specs.Views.{types_of}
use Rattle.c65_csem.specs.declared.items.Parts.{Parts}
use Rattle.c65_csem.specs.declared.items.TFunc.{TFunc}
use Rattle.c65_csem.specs.Trees.{Stmt}
use Rattle.c65_csem.specs.Views.{unit_of, object_of, func_of}
use Rattle.c65_csem.specs.Units.{IsUnit}
use Rattle.c65_mach.specs.declared.image.Image.{Image}
use Rattle.c65_code.specs.declared.code.Code.{Code}
use Rattle.c65_code.specs.Weights.{extent_of}
use Rattle.c65_genframe.specs.declared.modes.Modes.{Modes}
use Rattle.c65_genframe.specs.Frames.{Framed, frame_of}
use Rattle.c65_genstmt.specs.Functions.{drafted_of}
use Rattle.c65_genstmt.specs.Programs.{program_of}
use Rattle.c65_link.specs.Linked.{large, linked}
use Rattle.c65_csem_names.specs.Programs.{IsScopedProgram}
use Rattle.c65_gen_law_size.specs.Data.{datums_size, AreFilled}
use Rattle.c65_gen_law_size.specs.Bulk.{bulk_of}

-- its code, its data and the runtime are together at most its bulk
abbrev pub ProgramsAreWithinTheirBulk : Type 0
ProgramsAreWithinTheirBulk = (parts : Parts) (main : ℕ) (names : List (List ℕ)) (modes : Modes) (code : Code)
    → AreFilled (types_of parts.types) (map object_of parts.objects.items)
    → program_of parts main names modes ≡ Ok code → extent_of code + datums_size code.datums + 8192 ≤ bulk_of parts

-- and so is the file of its image
abbrev pub ImagesAreWithinTheirBulk : Type 0
ImagesAreWithinTheirBulk = (parts : Parts) (main : ℕ) (names : List (List ℕ)) (modes : Modes) (code : Code) (image : Image)
    → AreFilled (types_of parts.types) (map object_of parts.objects.items)
    → program_of parts main names modes ≡ Ok code → linked code ≡ Ok image → length image.payload ≤ bulk_of parts

-- and so are the bytes for which the linker refuses an image as too large
abbrev pub LargeImagesAreWithinTheirBulk : Type 0
LargeImagesAreWithinTheirBulk = (parts : Parts) (main : ℕ) (names : List (List ℕ)) (modes : Modes) (code : Code) (size : ℕ)
    → AreFilled (types_of parts.types) (map object_of parts.objects.items)
    → program_of parts main names modes ≡ Ok code → linked code ≡ Err (large size) → size ≤ bulk_of parts

-- it has a code only where the labels of each function have numbers of 32 bits
abbrev pub LabelsAreFew : Type 0
LabelsAreFew = (parts : Parts) (main : ℕ) (names : List (List ℕ)) (modes : Modes) (code : Code) (i : ℕ) (g : TFunc) (body : Stmt) (f : Framed)
    → program_of parts main names modes ≡ Ok code → slice_get parts.funcs.items i ≡ Some g → (func_of g).body ≡ Some body → frame_of parts modes (func_of g) ≡ Ok f
    → (drafted_of parts (i == main) (func_of g) f).labels < 2 ^ 32

-- the initial values of a well typed, scoped program fill their objects: the premise of the laws above
abbrev pub ScopedProgramsFillTheirObjects : Type 0
ScopedProgramsFillTheirObjects = (parts : Parts) (main : ℕ) → IsUnit (unit_of parts) → IsScopedProgram (unit_of parts) main → AreFilled (types_of parts.types) (map object_of parts.objects.items)
