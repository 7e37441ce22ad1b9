-- The functions of the library on arguments of their types (C90 7.9.6.3, 7.9.7, 7.10.4, 7.11).
use Rattle.std.specs.Prelude.{◌≡◌, ℕ, pos, List, [], ◌∷◌, Result, Ok, Err, IsSome, ⊤}
use Rattle.c65_base.specs.declared.library.Library.{Library}
use Rattle.c65_base.specs.declared.library.Library.TheVariants.{Putchar, Getchar, Puts, Exit, Memcpy, Memset, Strcmp, Strcpy, Strlen, Printf}
use Rattle.c65_meaning.specs.Why.{Why, By, Unfit}
use Rattle.c65_meaning.specs.Store.{Cell, Piece, Store, Value, Whole, Place, Opaque, Cells, NoValue, nth_cell}
use Rattle.c65_meaning.specs.Library.{Effect, effect_of}
use Rattle.c65_meaning.specs.State.{Scene}
use Rattle.c65_meaning_law.specs.Laws.{IsClosed}

-- what an expression of an integer type may be worth, one of an unsigned type, and one of a pointer type
abbrev pub IsNumber : Value → Type 0
IsNumber (Whole z) = ⊤
IsNumber Opaque = ⊤
IsNumber NoValue = ⊤
IsNumber _ = ⊥

abbrev pub IsCount : Value → Type 0
IsCount (Whole (pos n)) = ⊤
IsCount Opaque = ⊤
IsCount NoValue = ⊤
IsCount _ = ⊥

abbrev pub IsPointing : Store → Value → Type 0
IsPointing s (Place b o) = IsSome (s b)
IsPointing s (Whole z) = ⊥
IsPointing s (Cells xs) = ⊥
IsPointing s _ = ⊤

-- the arguments that a function's type asks for, without further ones
abbrev pub AreArguments : Store → Library → List Value → Type 0
AreArguments s Putchar (v ∷ []) = IsNumber v
AreArguments s Getchar [] = ⊤
AreArguments s Puts (v ∷ []) = IsPointing s v
AreArguments s Exit (v ∷ []) = IsNumber v
AreArguments s Memcpy (to ∷ from ∷ n ∷ []) = IsPointing s to × IsPointing s from × IsCount n
AreArguments s Memset (to ∷ v ∷ n ∷ []) = IsPointing s to × IsNumber v × IsCount n
AreArguments s Strcmp (v ∷ w ∷ []) = IsPointing s v × IsPointing s w
AreArguments s Strcpy (to ∷ from ∷ []) = IsPointing s to × IsPointing s from
AreArguments s Strlen (v ∷ []) = IsPointing s v
AreArguments s Printf (v ∷ []) = IsPointing s v
AreArguments s _ _ = ⊥

-- each place in cells is of a block that there is
abbrev pub AreOfBlocks : Store → List Cell → Type 0
AreOfBlocks s xs = (q i b o : ℕ) → nth_cell xs q ≡ Piece i b o → IsSome (s b)

-- and so is a place, or each one in a value's cells
abbrev pub IsOfBlock : Store → Value → Type 0
IsOfBlock s (Place b o) = IsSome (s b)
IsOfBlock s (Cells xs) = AreOfBlocks s xs
IsOfBlock s _ = ⊤

-- a call that goes well leaves memory closed and takes no block away, and its result is of a block that there is; what goes wrong is a
-- numbered action
abbrev pub IsSoundCall : Store → Result Effect Why → Type 0
IsSoundCall s (Ok e) = IsClosed e.store × ((b : ℕ) → IsSome (s b) → IsSome (e.store b)) × IsOfBlock e.store e.result
IsSoundCall s (Err (By action)) = ⊤
IsSoundCall s (Err Unfit) = ⊥

abbrev pub LibraryFits : Type 0
LibraryFits = (f : Library) (args : List Value) (rest : List Cell) (c : Scene) → AreArguments c.store f args → AreOfBlocks c.store rest → IsClosed c.store → IsSoundCall c.store (effect_of c f args rest)
