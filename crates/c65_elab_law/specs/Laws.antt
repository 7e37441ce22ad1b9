-- What typing makes is well typed, and each of its steps keeps what holds of a scope.
use Rattle.std.specs.Prelude.{◌≡◌, ℕ, ℤ, List, length, Bool, Option, Ok}
use Rattle.c65_base.specs.declared.names.Name.{Name}
use Rattle.c65_base.specs.declared.refusal.Pos.{Pos}
use Rattle.c65_ints.specs.declared.types.IntType.TheVariants.{Int}
use Rattle.c65_ints.specs.Ranges.{InRange}
use Rattle.c65_tree.specs.declared.expr.Storage.{Storage}
use Rattle.c65_tree.specs.Trees as t
use Rattle.c65_ctype.specs.Trees.{QTy, Fn, FieldTy}
use Rattle.c65_csem.specs.Trees.{Typed, UnitTy}
use Rattle.c65_csem.specs.Typed.{IsTyped, IsGiven, IsSmall, IsSpot}
use Rattle.c65_elab_scope.specs.declared.meaning.Entity.{Entity}
use Rattle.c65_elab_scope.specs.declared.meaning.Meaning.{Meaning}
use Rattle.c65_elab_scope.specs.Scopes.{ScopeTy, nothing, opened, closed, tag_bound}
use Rattle.c65_elab_scope.specs.Parts.{literal_added, completed, fewer_objects, spill_added, without_spills}
use Rattle.c65_elab_scope.specs.Declaring.{declared, func_declared, enumerator_declared, tag_opened, tag_finished}
use Rattle.c65_elab_declare.specs.Headings.{HeadingTy}
use Rattle.c65_elab.specs.Typing.{typed, type_named, specified}
use Rattle.c65_elab.specs.Headings.{declarator_in, headed}
use Rattle.c65_elab_law.specs.Growth.{Grows}
use Rattle.c65_elab_law.specs.Numbers.{IsRanged, IsRangedType, AreRangedSpecifiers, IsRangedDeclarator}
use Rattle.c65_elab_law.specs.Scoped.{IsScope, Keeps, IsAnswer}

-- a tree that was made at some place of a unit is well typed behind it too, and so is an argument or a returned value
pub record TreesStayTyped : Type 0 where
  pub trees : (u v : UnitTy) (e : Typed) → Grows u v → IsTyped u e → IsTyped v e
  pub given : (u v : UnitTy) (e : Typed) → Grows u v → IsGiven u e → IsGiven v e

abbrev pub ScopesBegin : Type 0
ScopesBegin = (signed_chars : Bool) (rest : Name) (s : ScopeTy) → nothing signed_chars rest ≡ Ok s → IsScope s

-- blocks, names, literals, and structures and unions
pub record DeclarationsKeepScopes : Type 0 where
  pub opens : (variadic : Bool) (s u : ScopeTy) → IsScope s → opened variadic s ≡ Ok u → Keeps s u
  pub closes : (s : ScopeTy) → IsScope s → Keeps s (closed s)
  pub names : (s : ScopeTy) (n : Name) (ty : QTy) (storage : Option Storage) (p : Pos) (x : Entity × ScopeTy) → IsScope s → declared s n ty storage p ≡ Ok x → Keeps s x.1
  pub functions : (s : ScopeTy) (n : Name) (f : Fn) (storage : Option Storage) (p : Pos) (x : Entity × ScopeTy) → IsScope s → func_declared s n f storage p ≡ Ok x → Keeps s x.1
  pub enumerators : (s : ScopeTy) (n : Name) (z : ℤ) (p : Pos) (u : ScopeTy) → IsScope s → InRange Int z → enumerator_declared s n z p ≡ Ok u → Keeps s u
  pub counts : (s : ScopeTy) (i n : ℕ) → IsScope s → Keeps s (completed s i n)
  pub forgets : (s u : ScopeTy) → Keeps s u → Keeps s (fewer_objects u (length s.unit.objects))
  pub spills : (s : ScopeTy) (t : QTy) (x : ℕ × ScopeTy) → IsScope s → IsSmall s.unit t → spill_added s t ≡ Ok x → Keeps s x.1 × IsSpot x.1.unit x.0 t
  pub functions_begin : (s : ScopeTy) → IsScope s → Keeps s (without_spills s)
  pub literals : (s : ScopeTy) (bytes : List ℕ) (x : ℕ × ScopeTy) → IsScope s → literal_added s bytes ≡ Ok x → Keeps s x.1
  pub tags : (s : ScopeTy) (is_union : Bool) (x : ℕ × ScopeTy) → IsScope s → tag_opened s is_union ≡ Ok x → Keeps s x.1
  pub tag_names : (s : ScopeTy) (n : Name) (a : Meaning) (u : ScopeTy) → IsScope s → tag_bound s n a ≡ Ok u → Keeps s u
  pub members : (s : ScopeTy) (tag : ℕ) (fields : List FieldTy) (p : Pos) (u : ScopeTy) → IsScope s → tag_finished s tag fields p ≡ Ok u → Keeps s u

-- C90 6.3
abbrev pub ExpressionsAreTyped : Type 0
ExpressionsAreTyped = (e : t.ExprTree) (s : ScopeTy) (x : Typed × ScopeTy) → IsRanged e → IsScope s → typed e s ≡ Ok x → IsAnswer s x

-- C90 6.5
pub record TypesKeepScopes : Type 0 where
  pub specifiers : (q : t.SpecifiersTree) (alone : Bool) (s : ScopeTy) (x : (Option Storage × QTy) × ScopeTy) → AreRangedSpecifiers q → IsScope s → specified q alone s ≡ Ok x → Keeps s x.1
  pub declarators : (base : QTy) (k : t.DeclaratorTree) (s : ScopeTy) (x : (Option Name × QTy) × ScopeTy) → IsRangedDeclarator k → IsScope s → declarator_in base k s ≡ Ok x → Keeps s x.1
  pub headings : (base : QTy) (k : t.DeclaratorTree) (s : ScopeTy) (x : HeadingTy × ScopeTy) → IsRangedDeclarator k → IsScope s → headed base k s ≡ Ok x → Keeps s x.1
  pub type_names : (m : t.TypeTree) (s : ScopeTy) (x : QTy × ScopeTy) → IsRangedType m → IsScope s → type_named m s ≡ Ok x → Keeps s x.1
