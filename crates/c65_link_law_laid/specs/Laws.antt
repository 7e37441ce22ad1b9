-- The units of a linked code stand as rows ask for it.
use Rattle.std.specs.Prelude.{◌≡◌, ℕ, ◌+◌, ◌≤◌, List, Option, Some, Ok, slice_get, length}
use Rattle.c65_base.specs.declared.options.Cpu.{Cpu}
use Rattle.c65_mach.specs.declared.image.Image.{Image}
use Rattle.c65_mach.specs.State.{read, loaded_memory}
use Rattle.c65_code.specs.declared.routine.Routine.TheVariants as routines
use Rattle.c65_code.specs.Numbering.{number_of}
use Rattle.c65_code.specs.declared.line.Sym.{Sym}
use Rattle.c65_code.specs.declared.line.Line.{Line}
use Rattle.c65_code.specs.declared.code.Code.{Code}
use Rattle.c65_code.specs.LineState.{Place}
use Rattle.c65_code.specs.Segments.{Segment}
use Rattle.c65_code.specs.Processors.{RunsOn}
use Rattle.c65_link.specs.Linked.{linked_for}
use Rattle.c65_link_law_spots.specs.Sound.{IsSound}
use Rattle.c65_link_law_spots.specs.Laws.{IsUnit}
use Rattle.c65_link_law_follow.specs.Laid.{IsLineNumber, IsGround, IsLaid}
use Rattle.c65_link_law_laid.specs.Linked.{raw_in, ground_in, IsByteOf}

-- the numbers in the lines of functions are of bytes
abbrev pub AreLineNumbers : Code → Type 0
AreLineNumbers code = (k j : ℕ) (f : Sym × Segment) (line : Line) → slice_get code.functions k ≡ Some f → slice_get f.1.lines j ≡ Some line → IsLineNumber line

-- the two starts are no routines that lines call
abbrev pub IsNoStart : Code → ℕ → Type 0
IsNoStart code f = (f ≡ length code.symbols + number_of routines.Start → ⊥) × (f ≡ length code.symbols + number_of routines.StartArgs → ⊥)

-- Whichever S the bytes above begin at: the units stand, and code, data and functions lie where they are to.
abbrev pub LinkedCodesAreLaid : Type 0
LinkedCodesAreLaid = (cpu : Cpu) (code : Code) (image : Image) (args : List (List ℕ)) (top : ℕ) (last : Option ℕ)
    → RunsOn cpu code → IsSound code → AreLineNumbers code → linked_for cpu code ≡ Ok image → 253 ≤ top → top ≤ 255
    → IsGround (ground_in cpu code image top last) (raw_in code args) × ((f : ℕ) → IsUnit code f → IsNoStart code f → IsLaid (ground_in cpu code image top last) (raw_in code args) f)

-- No byte is of two lines, one of which is a function's.
abbrev pub LinesAreApart : Type 0
LinesAreApart = (cpu : Cpu) (code : Code) (image : Image) → IsSound code → linked_for cpu code ≡ Ok image → (k : ℕ) (f : Sym × Segment) (p : ℕ) (q : Place) (b : ℕ)
    → slice_get code.functions k ≡ Some f → IsUnit code q.0 → IsByteOf code (read (loaded_memory image)) (f.0.0, p) b → IsByteOf code (read (loaded_memory image)) q b → (f.0.0, p) ≡ q
