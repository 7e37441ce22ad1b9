-- What names mean at a place of a unit, and what the unit has declared up to there (C90 6.1.2).
use Rattle.std.specs.Prelude.{ℕ, zero, suc, ◌+◌, List, [], map, Bool, true, false, Option, Some, None, ◌==◌, Result, Ok, if◌then◌else◌}
use Rattle.c65_base.specs.declared.names.Name.{Name}
use Rattle.c65_base.specs.Answers.{Fault}
use Rattle.c65_ints.specs.declared.types.IntType.{IntType}
use Rattle.c65_ints.specs.declared.types.IntType.TheVariants.{SChar, UChar}
use Rattle.c65_ctype.specs.Trees.{QTy}
use Rattle.c65_ctype.specs.Tables.{no_tags}
use Rattle.c65_ctype.specs.Views.{qty_of}
use Rattle.c65_csem.specs.Trees.{UnitTy}
use Rattle.c65_csem.specs.Views.{unit_of}
use Rattle.c65_elab_scope.specs.declared.meaning.Meaning.{Meaning}
use Rattle.c65_elab_scope.specs.declared.scope.Scope.{Scope}
use Rattle.c65_elab_scope.specs.Tables.{TableTy, table_of, no_names, bound, closed_table}

-- what was declared; the ordinary identifiers, the tags, and the names with linkage; the types of
-- typedef names; the number of open blocks; whether plain char is signed; the objects without a name of the
-- function that is gone through; the name of the place behind the further arguments, and the block at which the
-- body of a variadic function began
pub record ScopeTy : Type 0 where
  pub unit : UnitTy
  pub names : TableTy
  pub tags : TableTy
  pub links : TableTy
  pub typedefs : List QTy
  pub block : ℕ
  pub signed_chars : Bool
  pub spills : List ℕ
  pub rest : Name
  pub variadic : Option ℕ

abbrev pub scope_of : Scope → ScopeTy
scope_of s = record { unit = unit_of s.parts; names = table_of s.names; tags = table_of s.tags; links = table_of s.links; typedefs = map qty_of s.typedefs.items; block = s.block; signed_chars = s.signed_chars; spills = s.spills.items; rest = s.rest; variadic = s.variadic }

abbrev pub no_parts : UnitTy
no_parts = record { types = no_tags; objects = []; literals = []; funcs = [] }

-- the beginning of a unit
abbrev pub nothing : Bool → Name → Result ScopeTy Fault
nothing signed_chars rest = Ok (record { unit = no_parts; names = no_names; tags = no_names; links = no_names; typedefs = []; block = 0; signed_chars = signed_chars; spills = []; rest = rest; variadic = None })

abbrev pub char_of : Bool → IntType
char_of signed_chars = if signed_chars then SChar else UChar

-- a block that begins in the body of a variadic function is of it; else it may be that body
abbrev pub variadic_in : Bool → ℕ → Option ℕ → Option ℕ
variadic_in begins block (Some n) = Some n
variadic_in true block None = Some block
variadic_in false block None = None

abbrev pub opened : Bool → ScopeTy → Result ScopeTy Fault
opened variadic s = Ok (record s { block = s.block + 1; variadic = variadic_in variadic (s.block + 1) s.variadic })

-- the body ends with the block at which it began
abbrev pub variadic_behind : ℕ → Option ℕ → Option ℕ
variadic_behind block None = None
variadic_behind block (Some n) = if n == block then None else Some n

-- the end of the innermost block (C90 6.1.2.1)
abbrev pub closed_at : ℕ → ScopeTy → ScopeTy
closed_at zero s = s
closed_at (suc n) s = record s { names = closed_table (suc n) s.names; tags = closed_table (suc n) s.tags; block = n; variadic = variadic_behind (suc n) s.variadic }

abbrev pub closed : ScopeTy → ScopeTy
closed s = closed_at s.block s

abbrev pub tag_bound : ScopeTy → Name → Meaning → Result ScopeTy Fault
tag_bound s n m = Ok (record s { tags = bound s.tags n m s.block })

abbrev pub name_bound : ScopeTy → Name → Meaning → ScopeTy
name_bound s n m = record s { names = bound s.names n m s.block }
