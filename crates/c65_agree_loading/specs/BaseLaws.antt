-- What tells a place in a manner (C90 6.1.4, 6.3.1, 6.3.2.3, 6.3.3.2).
use Rattle.std.specs.Prelude.{◌≡◌, ℕ, ℤ, ◌+◌, ◌<◌, ◌≤◌, true, List, Some, length}
use Rattle.c65_base.specs.declared.operators.BinaryOp.TheVariants.{Add}
use Rattle.c65_ints.specs.declared.types.IntType.{IntType}
use Rattle.c65_ctype.specs.Trees.{QTy, int, pointer, type_in}
use Rattle.c65_ctype.specs.Sizes.{size_of}
use Rattle.c65_csem.specs.Trees.{Typed, node, constant, literal, object, deref, member, address, decay, binary}
use Rattle.c65_meaning.specs.Store as values
use Rattle.c65_meaning.specs.Items.{Item}
use Rattle.c65_code.specs.declared.line.Line.{Line}
use Rattle.c65_code.specs.Placement.{IsPlacement, stack_end}
use Rattle.c65_genframe.specs.declared.home.Home.TheVariants as homes
use Rattle.c65_genframe.specs.Frames.{home_of, type_bytes}
use Rattle.c65_genframe.specs.Symbols.{numbers_of, literal_symbol}
use Rattle.c65_genload.specs.declared.places.Place.{Place}
use Rattle.c65_genexpr.specs.declared.destination.Destination.{Destination}
use Rattle.c65_genexpr.specs.declared.destination.Destination.TheVariants.{Registers}
use Rattle.c65_genexpr.specs.Types.{bare}
use Rattle.c65_genexpr.specs.Operands.{operands_of}
use Rattle.c65_genexpr.specs.Places.{sum_has_base, added_bytes, target_of}
use Rattle.c65_agree_state.specs.World.{World, unit_in, Active}
use Rattle.c65_agree_state.specs.Exprs.{shape_in, ExpressionDoes}
use Rattle.c65_agree_load.specs.Objects.{IsHomed}
use Rattle.c65_agree_operate.specs.Manners.{Manner, usual}
use Rattle.c65_agree_structures.specs.Bases.{TellsPlace, BaseDoes}
use Rattle.c65_agree_structures.specs.Members.{IsPlainPointer}
use Rattle.c65_agree_loading.specs.Bases.{TellsIn, BaseDoesIn, PointerBaseDoesIn, ValueDoesIn, AddressDoesIn}

-- ---- manners

-- lines that tell a place by an address in AX in some manner tell it, and what tells one does so in the usual manner
abbrev pub MannersTell : Type 0
MannersTell = (g : World) (a : Active) (m : Manner) (work : List Item → List Item) (needs pushed : ℕ) (place : Place) (lines : List Line)
    → TellsIn g a m Registers work needs pushed place lines → TellsPlace g a work needs pushed place lines

abbrev pub UsuallyTell : Type 0
UsuallyTell = (g : World) (a : Active) (work : List Item → List Item) (needs pushed : ℕ) (place : Place) (lines : List Line)
    → TellsPlace g a work needs pushed place lines → TellsIn g a usual Registers work needs pushed place lines

-- ---- string literals (C90 6.1.4)

-- the symbol of a literal of the program has an address below the end of the software stack
abbrev pub IsLow : World → ℕ → Type 0
IsLow g n = g.place.address (literal_symbol (numbers_of g.parts) n).0 < stack_end

-- a literal is told by its symbol, without a line
abbrev pub LiteralsAreBases : Type 0
LiteralsAreBases = (g : World) (a : Active) (t : QTy) (n : ℕ) → a.frame.parts ≡ g.parts → n < length g.parts.literals.items → BaseDoes g a (node t (literal n))

-- in each manner and to either destination
abbrev pub LiteralsTell : Type 0
LiteralsTell = (g : World) (a : Active) (m : Manner) (d : Destination) (t : QTy) (n : ℕ) → a.frame.parts ≡ g.parts → n < length g.parts.literals.items → BaseDoesIn g a m d (node t (literal n))

-- its two lines bring the address of its first byte
abbrev pub LiteralsDo : Type 0
LiteralsDo = (g : World) (a : Active) (t : QTy) (n : ℕ) → IsPlacement g.code g.place → a.frame.parts ≡ g.parts → n < length g.parts.literals.items → IsLow g n → ExpressionDoes g a (node t (literal n))

abbrev pub LiteralsDoIn : Type 0
LiteralsDoIn = (g : World) (a : Active) (m : Manner) (t : QTy) (n : ℕ) → IsPlacement g.code g.place → m.over ≤ 1000 → a.frame.parts ≡ g.parts → n < length g.parts.literals.items → IsLow g n → AddressDoesIn g a m (node t (literal n))

-- ---- objects, members, and what pointers name

-- An object that is known takes no lines; of one that lies far above sp the address is brought.
abbrev pub ObjectsTell : Type 0
ObjectsTell = (g : World) (a : Active) (m : Manner) (d : Destination) (t : QTy) (i : ℕ) → IsPlacement g.code g.place → a.frame.parts ≡ g.parts → IsHomed g a i → ((b : ℕ) → home_of a.frame i ≡ Some (homes.Bank b) → ⊥)
    → BaseDoesIn g a m d (node t (object i))

-- A member is told by the base of its structure or union, or by its own address.
abbrev pub MembersTell : Type 0
MembersTell = (g : World) (a : Active) (m : Manner) (d : Destination) (t : QTy) (e : Typed) (i : ℕ) → IsPlacement g.code g.place → a.frame.parts ≡ g.parts → BaseDoesIn g a m d e → AddressDoesIn g a m e → BaseDoesIn g a m d (node t (member e i))

-- What a pointer names is told by the pointer's base,
abbrev pub TargetsTell : Type 0
TargetsTell = (g : World) (a : Active) (m : Manner) (d : Destination) (t : QTy) (e : Typed) → PointerBaseDoesIn g a m d e → BaseDoesIn g a m d (node t (deref e))

-- an address, and an array as a pointer, as its object is,
abbrev pub NamesTell : Type 0
NamesTell = (g : World) (a : Active) (m : Manner) (d : Destination) (t : QTy) (e : Typed) → BaseDoesIn g a m d e → PointerBaseDoesIn g a m d (node t (address e)) × PointerBaseDoesIn g a m d (node t (decay e))

-- and another pointer that is no sum by its value.
abbrev pub PointersTell : Type 0
PointersTell = (g : World) (a : Active) (m : Manner) (d : Destination) (size : ℕ) (e : Typed) → IsPlacement g.code g.place → IsPlainPointer e → shape_in g a e ≡ values.Pointer size → ValueDoesIn g a m e → PointerBaseDoesIn g a m d e

-- A sum of a pointer and a constant is told by the base of the pointer where the generator's place says so.
abbrev pub SumsTell : Type 0
SumsTell = (g : World) (a : Active) (m : Manner) (d : Destination) (kind : IntType) (t s q : QTy) (x : Typed) (z : ℤ) → IsPlacement g.code g.place → bare x ≡ pointer q → type_in s ≡ int kind
    → type_bytes a.frame (type_in q) ≡ size_of (unit_in g).types (type_in q) → size_of (unit_in g).types (type_in q) < 65536
    → ((pushed : ℕ) → sum_has_base (target_of a.frame pushed x) (added_bytes Add (operands_of a.frame (bare x) (type_in s)) (Some z)) ≡ true)
    → PointerBaseDoesIn g a m d x → PointerBaseDoesIn g a m d (node t (binary Add x (node s (constant z))))
