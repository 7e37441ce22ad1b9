-- The bytes that move to regbank are among those that are passed.
use Rattle.std.proofs.Common.{ℕ, ◌+◌, ◌-◌, ◌≤◌, Bool, true, false, Option, Some, None, List, [], ◌∷◌, slice_get, arith}
use Rattle.std.specs.Prelude.{if◌then◌else◌, ◌&&◌}
use Rattle.c65_ints.specs.declared.types.IntType.{IntType}
use Rattle.c65_ints.specs.declared.types.IntType.TheVariants as ints
use Rattle.c65_ctype.specs.Trees.{Ty, void, int, pointer, array, tag, function, TypesTy, type_in}
use Rattle.c65_ctype.specs.Views.{types_of}
use Rattle.c65_csem.specs.declared.items.Parts.{Parts}
use Rattle.c65_csem.specs.Places.{is_register}
use Rattle.c65_csem.specs.Trees.{ObjectTy}
use Rattle.c65_genframe.specs.declared.home.Home.{Home}
use Rattle.c65_genframe.specs.declared.home.Home.TheVariants.{Bank, Soft}
use Rattle.c65_genframe.specs.Arrivals.{Arrivals, arrive, with_slot, arrived}
use Rattle.c65_genframe.specs.Sizes.{object_in, passed_bytes, slot_bytes, bank_size, bank_bytes}
use Rattle.c65_gen_law_room.specs.Room.{moved_bytes}
use Rattle.c65_gen_law_room.proofs.Entries.{moved_more}
use Rattle.c65_agree_homes.specs.Slots.{all_slots}

int_within : (types : TypesTy) (prototype : Bool) (k : IntType) → bank_size (int k) ≤ passed_bytes types prototype (int k)
int_within types true ints.SChar = omega arith
int_within types false ints.SChar = omega arith
int_within types true ints.UChar = omega arith
int_within types false ints.UChar = omega arith
int_within types true ints.Short = omega arith
int_within types false ints.Short = omega arith
int_within types true ints.UShort = omega arith
int_within types false ints.UShort = omega arith
int_within types true ints.Int = omega arith
int_within types false ints.Int = omega arith
int_within types true ints.UInt = omega arith
int_within types false ints.UInt = omega arith
int_within types true ints.Long = omega arith
int_within types false ints.Long = omega arith
int_within types true ints.ULong = omega arith
int_within types false ints.ULong = omega arith

type_within : (types : TypesTy) (prototype : Bool) (t : Ty) → bank_size t ≤ passed_bytes types prototype t
type_within types prototype (int k) = int_within types prototype k
type_within types true (pointer q) = omega arith
type_within types false (pointer q) = omega arith
type_within types prototype void = omega arith
type_within types prototype (array q n) = omega arith
type_within types prototype (tag n) = omega arith
type_within types prototype (function f) = omega arith

bank_within : (types : TypesTy) (prototype : Bool) (o : Option ObjectTy) → bank_bytes true o ≤ slot_bytes types prototype o
bank_within types prototype None = omega arith
bank_within types prototype (Some o) = go (is_register o.class)
  where
    go : (r : Bool) → (if true && r then bank_size (type_in o.ty) else 0) ≤ passed_bytes types prototype (type_in o.ty)
    go true = type_within types prototype (type_in o.ty)
    go false = omega arith

one_within : (from at bank slot left : ℕ) (h : Option (Option Home)) (a : Arrivals) → bank ≤ slot → moved_bytes (arrive from at bank h left a).moved ≤ moved_bytes a.moved + slot
one_within from at bank slot left (Some (Some (Bank byte))) a le = omega (arith, moved_more a.moved (record { bank = byte; from = from; bytes = bank }), le)
one_within from at bank slot left (Some (Some (Soft offset))) a le = omega arith
one_within from at bank slot left (Some None) a le = omega arith
one_within from at bank slot left None a le = omega arith

pub moved_within : (parts : Parts) (prototype : Bool) (low base : ℕ) (is : List ℕ) (a : Arrivals) → moved_bytes (arrived parts prototype low base is a).moved ≤ moved_bytes a.moved + all_slots parts prototype is
moved_within parts prototype low base [] a = omega arith
moved_within parts prototype low base (i ∷ is) a =
    let slot : ℕ = slot_bytes (types_of parts.types) prototype (object_in parts i) in
    let bank : ℕ = bank_bytes true (object_in parts i) in
    let next : Arrivals = with_slot base (i - low) slot bank a in
    omega (arith, one_within (base + (a.left - slot)) (i - low) bank slot (a.left - slot) (slice_get a.homes (i - low)) a (bank_within (types_of parts.types) prototype (object_in parts i)), moved_within parts prototype low base is next)
