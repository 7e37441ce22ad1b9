-- What a unit declares only grows: structures and unions stay as they were finished, literals stay, functions stay,
-- and an object keeps a type that is alike, its structure or union, its name, whether it has an address, and its class
-- where it is automatic.
use Rattle.std.specs.Prelude.{◌≡◌, ℕ, List, Some, slice_get, IsTrue}
use Rattle.c65_ctype.specs.Trees.{tag, type_in, LayoutTy}
use Rattle.c65_ctype.specs.Tables.{layout_at}
use Rattle.c65_csem.specs.Trees.{ObjectTy, FuncTy, UnitTy}
use Rattle.c65_csem.specs.Places.{are_alike, is_register, is_automatic}

-- an object after further declarations of it
pub record IsLater (o p : ObjectTy) : Type 0 where
  pub alike : IsTrue (are_alike o.ty p.ty)
  pub register : is_register p.class ≡ is_register o.class
  pub tags : (n : ℕ) → type_in o.ty ≡ tag n → type_in p.ty ≡ tag n
  pub name : p.name ≡ o.name
  pub automatic : IsTrue (is_automatic o.class) → p.class ≡ o.class

pub record Grows (u v : UnitTy) : Type 0 where
  pub types : (tag : ℕ) (l : LayoutTy) → layout_at u.types tag ≡ Some l → layout_at v.types tag ≡ Some l
  pub objects : (i : ℕ) (o : ObjectTy) → slice_get u.objects i ≡ Some o → (p : ObjectTy) × (slice_get v.objects i ≡ Some p) × IsLater o p
  pub literals : (i : ℕ) (bytes : List ℕ) → slice_get u.literals i ≡ Some bytes → slice_get v.literals i ≡ Some bytes
  pub funcs : (i : ℕ) (f : FuncTy) → slice_get u.funcs i ≡ Some f → (g : FuncTy) × (slice_get v.funcs i ≡ Some g)
