-- Types as trees (C90 6.1.2.5, 6.5.3, 6.5.4), without where they lie in memory; layouts and tags.
use Rattle.std.specs.Prelude.{ℕ, List, Bool, Option}
use Rattle.c65_base.specs.declared.names.Name.{Name}
use Rattle.c65_base.specs.declared.refusal.Pos.{Pos}
use Rattle.c65_ints.specs.declared.types.IntType.{IntType}

mutual
  -- void, an integer, a pointer to, an array of (with its number of elements where it is known),
  -- the structure or union of a tag, a function
  pub data Ty : Type 0 where
    void : Ty
    int : IntType → Ty
    pointer : QTy → Ty
    array : QTy → Option ℕ → Ty
    tag : ℕ → Ty
    function : Fn → Ty

  -- a type, whether it is const, and whether it is volatile
  pub data QTy : Type 0 where
    qual : Ty → Bool → Bool → QTy

  -- result, parameters, whether more may follow, and whether all go on the stack
  pub data Fn : Type 0 where
    fn : QTy → Params → Bool → Bool → Fn

  -- none without a prototype
  pub data Params : Type 0 where
    unknown : Params
    known : QTys → Params

  pub data QTys : Type 0 where
    end : QTys
    more : QTy → QTys → QTys

-- a member: its name, its type, the byte where it begins, and a bit-field's lowest bit and width
pub record MemberTy : Type 0 where
  pub name : Option Name
  pub ty : QTy
  pub offset : ℕ
  pub bits : Option (ℕ × ℕ)

-- a member as it is declared: a bit-field has a width
pub record FieldTy : Type 0 where
  pub name : Option Name
  pub ty : QTy
  pub width : Option ℕ
  pub pos : Pos

-- a structure or union: its members and its bytes
pub record LayoutTy : Type 0 where
  pub is_union : Bool
  pub members : List MemberTy
  pub size : ℕ

-- a tag: the unit that it came from, and its layout once it is finished
pub record TagTy : Type 0 where
  pub unit : ℕ
  pub is_union : Bool
  pub layout : Option LayoutTy

-- tags by their numbers, and from how many units they come
pub record TypesTy : Type 0 where
  pub tags : List TagTy
  pub units : ℕ

abbrev pub type_in : QTy → Ty
type_in (qual t c v) = t

abbrev pub is_const_in : QTy → Bool
is_const_in (qual t c v) = c

abbrev pub is_volatile_in : QTy → Bool
is_volatile_in (qual t c v) = v
