-- The symbols of a code, and their numbers in the code that its text reads as.
use Rattle.std.specs.Prelude.{◌≡◌, ◌⊎◌, ℕ, IsTrue, IsSome, Some, slice_get}
use Rattle.c65_code.specs.declared.code.Code.{Code}
use Rattle.c65_code.specs.declared.code.Symbol.{Symbol}
use Rattle.c65_code.specs.declared.line.Sym.{Sym}
use Rattle.c65_code.specs.Placement.{has_datum, library_of}
use Rattle.c65_code.specs.Comes.{Seen}
use Rattle.c65_code.specs.Named.{IsNamed}
use Rattle.c65_code.specs.Segments.{Segment}
use Rattle.c65_asm.specs.Renumbered.{names_of, renamed}

-- the number that a symbol has in the code that the text reads as
abbrev pub number_in : Code → ℕ → ℕ
number_in code f = (renamed code.symbols (names_of code) (record { 0 = f })).0

-- a function has lines
pub record HasSegment (code : Code) (f : ℕ) : Type 0 where
  pub at : ℕ
  pub unit : Sym × Segment
  pub there : slice_get code.functions at ≡ Some unit
  pub is : unit.0.0 ≡ f

-- a symbol without lines and without a datum is that of a library function
abbrev pub HasBody : Code → ℕ → Symbol → Type 0
HasBody code i symbol = HasSegment code i ⊎ (IsTrue (has_datum code.datums i) ⊎ IsSome (library_of (Some symbol)))

-- What lines or data name has a body. A symbol that nothing names may have none, as that of an object in a frame.
abbrev pub IsClosed : Code → Type 0
IsClosed code = (i : ℕ) (symbol : Symbol) → slice_get code.symbols i ≡ Some symbol → IsNamed code i → HasBody code i symbol

-- arrivals at the lines of a code, from those of its renumbered form
abbrev pub by_number : Code → Seen → Seen
by_number code seen f p = seen (number_in code f) p
