-- Places that lines name are those of their blocks, and what is read there is what the block holds.
use Rattle.std.specs.Prelude.{◌≡◌, ℕ, ◌+◌, ◌-◌, ◌<◌, ◌≤◌, false, true, ℤ, Ok, Some, length}
use Rattle.c65_ints.specs.declared.types.IntType.{IntType}
use Rattle.c65_ctype.specs.Sizes.{bytes_of}
use Rattle.c65_meaning.specs.Store.{Block, Value, Whole, Number, Pointer, read}
use Rattle.c65_meaning.specs.State.{Scene, block_in}
use Rattle.c65_meaning.specs.Shapes.{literal_block, object_block, object_in, lives_in_frame}
use Rattle.c65_code.specs.LineState.{State, sp_of}
use Rattle.c65_code.specs.Steady.{IsOpen}
use Rattle.c65_genframe.specs.declared.home.Home.TheVariants as homes
use Rattle.c65_genframe.specs.Frames.{home_of, is_raised}
use Rattle.c65_genframe.specs.Symbols.{numbers_of, object_symbol, literal_symbol, function_symbol}
use Rattle.c65_genload.specs.declared.places.Place.{Place}
use Rattle.c65_genload.specs.declared.places.Place.TheVariants.{Data}
use Rattle.c65_agree_store.specs.Stands.{Spot, At, Placing, Banks, ValueIs, IsAt, LiesIn, beyond, stored_at}
use Rattle.c65_agree_store.specs.Laws.{number_in}
use Rattle.c65_agree_state.specs.World.{World, unit_in, Active}
use Rattle.c65_agree_state.specs.Joins.{Joins}
use Rattle.c65_agree_state.specs.Exprs.{Ready}
use Rattle.c65_agree_numbers.specs.Words.{word_of, narrowed}
use Rattle.c65_agree_places.specs.Places.{spot_in, part_at, home_place, IsReached}

-- ---- where blocks stand

-- an object of the active call, but for the parameters of a variadic function
abbrev pub ObjectsAreAtHome : Type 0
ObjectsAreAtHome = (g : World) (a : Active) (pushed needs : ℕ) (c : Scene) (w : Placing) (k : Banks) (t : State) (i b : ℕ) (x : Block) (q : Spot)
    → Ready g a pushed needs c w k t → block_in c.frames i ≡ Some b → IsAt c.store w b x q → is_raised a.frame i ≡ false
    → q ≡ spot_in g a t (home_place g pushed i (home_of a.frame i))

-- these lie higher by as many bytes as the call has passed further arguments: the byte at the base says how many it passed at all
abbrev pub ParametersAreRaised : Type 0
ParametersAreRaised = (g : World) (a : Active) (pushed needs : ℕ) (c : Scene) (w : Placing) (k : Banks) (t : State) (i b d : ℕ) (x : Block) (q : Spot)
    → Ready g a pushed needs c w k t → block_in c.frames i ≡ Some b → IsAt c.store w b x q → is_raised a.frame i ≡ true → home_of a.frame i ≡ Some (homes.Soft d)
    → q ≡ At (sp_of t + pushed + d + (t.mem (sp_of t + pushed) - a.frame.stacked))

-- what lives as long as the program is at its symbol
abbrev pub ObjectsAreAtSymbols : Type 0
ObjectsAreAtSymbols = (g : World) (a : Active) (c : Scene) (w : Placing) (k : Banks) (t : State) (i : ℕ) (x : Block) (q : Spot)
    → Joins g a c w k t → lives_in_frame (object_in (unit_in g) i) ≡ false → i < length g.parts.objects.items → IsAt c.store w (object_block (unit_in g) i) x q
    → q ≡ spot_in g a t (Data (object_symbol (numbers_of g.parts) i) 0)

abbrev pub LiteralsAreAtSymbols : Type 0
LiteralsAreAtSymbols = (g : World) (a : Active) (c : Scene) (w : Placing) (k : Banks) (t : State) (l : ℕ) (x : Block) (q : Spot)
    → Joins g a c w k t → l < length g.parts.literals.items → IsAt c.store w (literal_block (unit_in g) l) x q
    → q ≡ spot_in g a t (Data (literal_symbol (numbers_of g.parts) l) 0)

abbrev pub FunctionsAreAtSymbols : Type 0
FunctionsAreAtSymbols = (g : World) (a : Active) (c : Scene) (w : Placing) (k : Banks) (t : State) (f : ℕ) (x : Block) (q : Spot)
    → Joins g a c w k t → f < length g.parts.funcs.items → IsAt c.store w f x q
    → q ≡ spot_in g a t (Data (function_symbol (numbers_of g.parts) f) 0)

-- a part is so far behind its whole
abbrev pub PartsAreBehind : Type 0
PartsAreBehind = (g : World) (a : Active) (t : State) (place : Place) (size n : ℕ)
    → LiesIn (spot_in g a t place) size → n ≤ size → spot_in g a t (part_at place n) ≡ beyond (spot_in g a t place) n

-- ---- what is read there

-- each byte that a live block holds lies in data or in the software stack from sp on, so that lines and routines may reach it
abbrev pub HeldBytesAreOpen : Type 0
HeldBytesAreOpen = (g : World) (a : Active) (pushed needs : ℕ) (c : Scene) (w : Placing) (k : Banks) (t : State) (b at o : ℕ) (x : Block)
    → Ready g a pushed needs c w k t → IsAt c.store w b x (At at) → o < x.holds → IsOpen g.place (sp_of t) (at + o)

-- the word of a number that is read is that of the machine's bytes at its place, the lowest first, with the sign of a character
abbrev pub NumbersAreThere : Type 0
NumbersAreThere = (g : World) (a : Active) (c : Scene) (w : Placing) (k : Banks) (t : State) (b o : ℕ) (x : Block) (q : Spot) (kind : IntType) (z : ℤ)
    → Joins g a c w k t → IsAt c.store w b x q → IsReached a q → read (Number kind) c.store b o ≡ Ok (Whole z)
    → (o + bytes_of kind ≤ x.holds) × (narrowed kind (number_in (stored_at t q) (bytes_of kind) o) ≡ word_of kind z)

abbrev pub PointersAreThere : Type 0
PointersAreThere = (g : World) (a : Active) (c : Scene) (w : Placing) (k : Banks) (t : State) (b o size : ℕ) (x : Block) (q : Spot) (v : Value)
    → Joins g a c w k t → IsAt c.store w b x q → IsReached a q → read (Pointer size) c.store b o ≡ Ok v
    → (o + 2 ≤ x.holds) × ValueIs w 65536 v (number_in (stored_at t q) 2 o)
