-- The initial values of a scoped program fill their objects.
use Rattle.std.proofs.Common.{◌≡◌, ℕ, ◌≤◌, Option, None, Some, List, [], ◌∷◌, length, refl, sym, subst, arith}
use Rattle.std.specs.Prelude.{unwrap_or}
use Rattle.std.specs.List.{AllByRecursion as ByRecursion}
use Rattle.std.proofs.lemmas.List.Elements.{recursion_from_All}
use Rattle.c65_ctype.specs.Trees.{type_in, TypesTy}
use Rattle.c65_ctype.specs.Sizes.{size_of}
use Rattle.c65_csem.specs.declared.items.Cell.{Cell}
use Rattle.c65_csem.specs.Trees.{ObjectTy, UnitTy}
use Rattle.c65_csem.specs.Views.{unit_of}
use Rattle.c65_csem.specs.Units.{IsObject, IsInit}
use Rattle.c65_genframe.specs.Sizes.{bytes_at, bytes_or}
use Rattle.c65_csem_names.specs.Initial.{IsWhole, BeginsWhole}
use Rattle.c65_gen_law_size.specs.Data.{IsFilled, AreFilled}
use Rattle.c65_gen_law_size.specs.Laws.{ScopedProgramsFillTheirObjects}
use Rattle.c65_gen_law_size.proofs.TypeBytes.{size_is}

bytes_room : (types : TypesTy) (o : ObjectTy) (size : ℕ) (bytes : Option ℕ) → bytes_at types (type_in o.ty) ≡ bytes → size ≡ size_of types (type_in o.ty) → size ≤ 65535 → size ≤ bytes_or types (type_in o.ty) 65536
bytes_room types o size None e f small = subst (λ (b : Option ℕ). size ≤ unwrap_or b 65536) (sym e) (omega (arith, small))
bytes_room types o size (Some k) e f small = subst (λ (b : Option ℕ). size ≤ unwrap_or b 65536) (sym e) (let s = size_is types (type_in o.ty) k e in omega (arith, s, f))

value_fills : (u : UnitTy) (o : ObjectTy) (init : Option (List Cell)) → IsInit u o init → IsWhole init → IsFilled (bytes_or u.types (type_in o.ty) 65536) init
value_fills u o None w h = tt
value_fills u o (Some cells) w h = (bytes_room u.types o (length cells) (bytes_at u.types (type_in o.ty)) refl w.0 h.0, h.1)

values_fill : (u : UnitTy) (os : List ObjectTy) → ByRecursion (IsObject u) os → ByRecursion BeginsWhole os → AreFilled u.types os
values_fill u [] w h = tt
values_fill u (o ∷ os) w h = (value_fills u o o.init w.0.init h.0, values_fill u os w.1 h.1)

pub scoped_programs_fill_their_objects : ScopedProgramsFillTheirObjects
scoped_programs_fill_their_objects parts main w h =
    let u = unit_of parts in values_fill u u.objects (recursion_from_All (IsObject u) u.objects w.objects) (recursion_from_All BeginsWhole u.objects h.values)
