-- The first bytes of a program's data are the first cells of its objects and literals (C90 6.1.4, 6.5.7).
use Rattle.std.specs.Prelude.{◌≡◌, ℕ, ◌+◌, ◌++◌, ◌<◌, Bool, true, List, [], ◌∷◌, pos, Option, Some, None, All, length, slice_get}
use Rattle.c65_ctype.specs.Trees.{type_in}
use Rattle.c65_ctype.specs.Views.{types_of}
use Rattle.c65_csem.specs.declared.items.Cell.{Cell}
use Rattle.c65_csem.specs.declared.items.Cell.TheVariants.{Byte, Piece}
use Rattle.c65_csem.specs.declared.items.Parts.{Parts}
use Rattle.c65_csem.specs.declared.items.TObject.{TObject}
use Rattle.c65_csem.specs.Trees.{UnitTy}
use Rattle.c65_csem.specs.Views.{object_of}
use Rattle.c65_csem_plain.specs.Plain.{AreBytes, IsByte, ArePaired}
use Rattle.c65_meaning.specs.Start.{bytes_at, target_block, cells_of}
use Rattle.c65_code.specs.declared.code.Code.{Code}
use Rattle.c65_code.specs.declared.line.Sym.{Sym}
use Rattle.c65_code.specs.LineState.{State}
use Rattle.c65_code.specs.Placement.{Placement, IsDatumOf}
use Rattle.c65_code.specs.Starts.{IsStart}
use Rattle.c65_genframe.specs.declared.symbols.Numbers.{Numbers}
use Rattle.c65_genframe.specs.Sizes.{bytes_or}
use Rattle.c65_genframe.specs.Symbols.{numbers_of, object_symbol, literal_symbol}
use Rattle.c65_gendata.specs.Cells.{symbol_of, literal_cells}
use Rattle.c65_gendata.specs.Data.{filled, initialised, is_placed, object_datum, data_of}
use Rattle.c65_agree_store.specs.Stands.{At, Placing, CellIs}

-- ---- each object and literal has its datum

abbrev pub ObjectsHaveData : Type 0
ObjectsHaveData = (parts : Parts) (i : ℕ) (o : TObject) → slice_get parts.objects.items i ≡ Some o → is_placed o.class ≡ true
    → (k : ℕ) × (slice_get (data_of parts) k ≡ Some (object_datum (numbers_of parts) (object_of o) (object_symbol (numbers_of parts) i) (bytes_or (types_of parts.types) (type_in (object_of o).ty) 65536)))

abbrev pub LiteralsHaveData : Type 0
LiteralsHaveData = (parts : Parts) (l : ℕ) (text : List ℕ) → slice_get parts.literals.items l ≡ Some text
    → (k : ℕ) × (slice_get (data_of parts) k ≡ Some (filled (literal_symbol (numbers_of parts) l) true (literal_cells text)))

-- ---- their bytes

-- what an initial pointer names has its block at its symbol, and the address that is meant lies below the end of memory
abbrev pub IsNamed : UnitTy → Numbers → Placement → Placing → Cell → Type 0
IsNamed u n place w (Byte b) = Unit {0}
IsNamed u n place w (Piece target offset part) = (o : ℕ) × (offset ≡ pos o)
    × (w (target_block u target) ≡ Some (At (place.address (symbol_of n target).0))) × (place.address (symbol_of n target).0 + o < 65536)

-- an initial value of so many bytes, each one of which is there
abbrev pub Begins : UnitTy → Numbers → Placement → Placing → ℕ → Option (List Cell) → Type 0
Begins u n place w size None = Unit {0}
Begins u n place w size (Some cells) = (length cells ≡ size) × All IsByte cells × ArePaired cells × All (IsNamed u n place w) cells

-- an object that lives as long as the program
abbrev pub ObjectsBegin : Type 0
ObjectsBegin = (code : Code) (place : Placement) (args : List (List ℕ)) (given : List ℕ) (t : State) (u : UnitTy) (n : Numbers) (w : Placing)
    (k : ℕ) (sym : Sym) (constant : Bool) (o size : ℕ) (init : Option (List Cell))
    → IsStart code place args given t → IsDatumOf code k (initialised n sym constant size init) → Begins u n place w size init → o < size
    → CellIs w (cells_of u init o) (t.mem (place.address sym.0 + o))

abbrev pub LiteralsBegin : Type 0
LiteralsBegin = (code : Code) (place : Placement) (args : List (List ℕ)) (given : List ℕ) (t : State) (w : Placing) (k : ℕ) (sym : Sym) (o : ℕ) (text : List ℕ)
    → IsStart code place args given t → IsDatumOf code k (filled sym true (literal_cells text)) → AreBytes text → o < length (text ++ 0 ∷ [])
    → CellIs w (bytes_at (text ++ 0 ∷ []) o) (t.mem (place.address sym.0 + o))
