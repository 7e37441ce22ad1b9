-- Where the places of an expression lie.
use Rattle.std.specs.Prelude.{ℕ, ℤ, ◌+◌, ◌-◌, ◌*◌, ◌%◌, ◌==◌, ◌&&◌, nat_le, if◌then◌else◌, Bool, true, false, Option, Some, None, List, []}
use Rattle.c65_base.specs.declared.operators.BinaryOp.{BinaryOp}
use Rattle.c65_base.specs.declared.operators.BinaryOp.TheVariants.{Add}
use Rattle.c65_ctype.specs.Views.{types_of}
use Rattle.c65_csem.specs.Trees.{Typed, node, literal, object, deref, member, address, decay, binary}
use Rattle.c65_code.specs.declared.line.Line.{Line}
use Rattle.c65_genframe.specs.declared.home.Home.{Home}
use Rattle.c65_genframe.specs.declared.home.Home.TheVariants as homes
use Rattle.c65_genframe.specs.Symbols.{numbers_of, literal_symbol, object_symbol}
use Rattle.c65_genframe.specs.Frames.{Framed, home_of, is_raised, saved_bytes}
use Rattle.c65_genload.specs.declared.places.Place.{Place}
use Rattle.c65_genload.specs.declared.places.Place.TheVariants.{Bank, Near, Data, Far}
use Rattle.c65_genload.specs.Addresses.{symbol_code, address_code, raised_code}
use Rattle.c65_genexpr.specs.declared.operands.Operands.{Operands}
use Rattle.c65_genexpr.specs.declared.operands.Operands.TheVariants.{PointerFirst}
use Rattle.c65_genexpr.specs.Types.{bare, offset_at}
use Rattle.c65_genexpr.specs.Operands.{residue_of, operands_of, constant_in}

-- so many bytes more wait; addresses are taken modulo 65,536
abbrev pub more : ℕ → ℕ → ℕ
more pushed n = (pushed + n) % 65536

-- so far above sp, where one byte can say so for four bytes
abbrev pub near : ℕ → Place
near at = if nat_le at 252 then Near at else Far 0

-- a parameter of a variadic function lies higher by the bytes of further arguments
abbrev pub soft_place : Bool → ℕ → Place
soft_place true at = Far 0
soft_place false at = near at

abbrev pub place_at : Framed → ℕ → ℕ → Option Home → Place
place_at f pushed i None = Data (object_symbol (numbers_of f.parts) i) 0
place_at f pushed i (Some (homes.Bank b)) = Bank b
place_at f pushed i (Some (homes.Soft d)) = soft_place (is_raised f i) (more d pushed)

abbrev pub object_place : Framed → ℕ → ℕ → Place
object_place f pushed i = place_at f pushed i (home_of f i)

-- whether one byte can tell what lies so far behind such an offset, for two bytes
abbrev pub within : ℕ → ℕ → Bool
within at n = nat_le n 250 && nat_le (at + n) 250

-- where it cannot, the offset is added to the address
abbrev pub farther : ℕ → ℕ → ℕ
farther at n = if within at n then at + n else 0

-- a part, so far behind the beginning
abbrev pub moved : Place → ℕ → Place
moved (Near at) n = if nat_le n 252 then near (at + n) else Far 0
moved (Data sym at) n = Data sym (more at (n % 65536))
moved (Bank b) n = if n == 0 then Bank b else Far 0
moved (Far at) n = Far (farther at n)

-- whether a part of what lies at a place is told from the same address, or is known as the place is
abbrev pub has_base : Place → ℕ → Bool
has_base (Far at) n = within at n
has_base (Near at) n = nat_le n 252 && nat_le (at + n) 252
has_base (Data sym at) n = true
has_base (Bank b) n = n == 0

-- the bytes of a constant that is added to a pointer
abbrev pub added_bytes : BinaryOp → Operands → Option ℤ → Option ℕ
added_bytes Add (PointerFirst size) (Some z) = Some (residue_of z * size % 4294967296)
added_bytes op operands z = None

-- the same of what a pointer names, and so many bytes behind it
abbrev pub sum_has_base : Place → Option ℕ → Bool
sum_has_base place (Some n) = has_base place n
sum_has_base place None = false

abbrev pub sum_place : Place → Option ℕ → Place
sum_place place (Some n) = moved place n
sum_place place None = Far 0

-- Where a place lies; so many bytes wait. One whose address takes lines of code lies so far behind what its base's lines give.
abbrev mutual
  pub place_of : Framed → ℕ → Typed → Place
  place_of f pushed (node t (literal n)) = Data (literal_symbol (numbers_of f.parts) n) 0
  place_of f pushed (node t (object i)) = object_place f pushed i
  place_of f pushed (node t (member e m)) = moved (place_of f pushed e) (offset_at (types_of f.parts.types) (bare e) m)
  place_of f pushed (node t (deref e)) = target_of f pushed e
  place_of f pushed (node t _) = Far 0

  -- the place that an address names: it is that of an object, or a constant behind it
  pub target_of : Framed → ℕ → Typed → Place
  target_of f pushed (node t (binary op a b)) = sum_place (target_of f pushed a) (added_bytes op (operands_of f (bare a) (bare b)) (constant_in b))
  target_of f pushed (node t (address e)) = place_of f pushed e
  target_of f pushed (node t (decay e)) = place_of f pushed e
  target_of f pushed (node t _) = Far 0

-- A place that is told without a sum. The label of a sum stands among lines, so a place that is told by one is not read beside others.
abbrev mutual
  pub is_plain : Typed → Bool
  is_plain (node t (literal n)) = true
  is_plain (node t (object i)) = true
  is_plain (node t (deref e)) = is_plain e
  is_plain (node t (member e m)) = is_plain e
  is_plain (node t (address e)) = is_plain e
  is_plain (node t (decay e)) = is_plain e
  is_plain (node t _) = false

-- the number of bytes that the call pushed lies at the sp that stands while no value waits
abbrev pub soft_code : Bool → ℕ → ℕ → ℕ → List Line
soft_code true pushed at stacked = raised_code pushed ((at + 65536 - stacked) % 65536)
soft_code false pushed at stacked = address_code at

-- the address of an object; one in regbank has none
abbrev pub code_at : Framed → ℕ → ℕ → Option Home → List Line
code_at f pushed i None = symbol_code (object_symbol (numbers_of f.parts) i) 0
code_at f pushed i (Some (homes.Bank b)) = []
code_at f pushed i (Some (homes.Soft d)) = soft_code (is_raised f i) pushed (more d pushed) f.stacked

abbrev pub object_code : Framed → ℕ → ℕ → List Line
object_code f pushed i = code_at f pushed i (home_of f i)

-- the address of a place, where it takes lines of code
abbrev pub target_code : Place → List Line → List Line
target_code (Far at) lines = lines
target_code _ lines = []

-- The address behind the further arguments, the first of which lies highest: they lie above the objects and the saved bytes of
-- regbank, and all bytes that the call pushed are `stacked` more than they.
abbrev pub rest_code : Framed → ℕ → List Line
rest_code f pushed = raised_code pushed ((pushed + f.soft + saved_bytes f.bank + 65536 - f.stacked) % 65536)
