-- What each construct makes of well typed operands is well typed.
use Rattle.std.specs.Prelude.{◌≡◌, List, Bool, true, false, Ok}
use Rattle.c65_base.specs.declared.names.Name.{Name}
use Rattle.c65_base.specs.declared.refusal.Pos.{Pos}
use Rattle.c65_base.specs.declared.operators.UnaryOp.{UnaryOp}
use Rattle.c65_base.specs.declared.operators.BinaryOp.{BinaryOp}
use Rattle.c65_base.specs.declared.operators.StepKind.{StepKind}
use Rattle.c65_ctype.specs.Trees.{Ty, QTy, type_in}
use Rattle.c65_ctype.specs.Tables.{IsTable}
use Rattle.c65_csem.specs.Trees.{Typed, Nodes, none, some, UnitTy, type_of}
use Rattle.c65_csem.specs.Places.{is_place, is_scalar, is_tag, is_passed, plain, is_registered}
use Rattle.c65_csem.specs.Typed.{IsValue, IsPromoted, IsTyped, IsGiven, IsCalled}
use Rattle.c65_elab_convert.specs.Values.{value_of}
use Rattle.c65_elab_convert.specs.Unaries.{unary_of}
use Rattle.c65_elab_convert.specs.Casts.{cast_of}
use Rattle.c65_elab_convert.specs.Binaries.{binary_of}
use Rattle.c65_elab_convert.specs.Logic.{both_of, either_of, comma_of, condition_of, switch_value_of}
use Rattle.c65_elab_convert.specs.Choices.{choice_of}
use Rattle.c65_elab_convert.specs.Changes.{assigned_of, assign_of, assign_op_of, step_of}
use Rattle.c65_elab_convert.specs.Access.{index_of, member_of_name, size_of_type, size_of_expr}
use Rattle.c65_elab_convert.specs.Calls.{call_of}
use Rattle.c65_elab_convert.specs.Structures.{packed_of}

-- what is well typed, no place, and has this type
pub record IsOf (u : UnitTy) (t : QTy) (e : Typed) : Type 0 where
  pub typed : IsTyped u e
  pub ty : type_of e ≡ t
  pub value : is_place e ≡ false

-- what assignment to a type takes: a value of that scalar type, or a structure or union of that tag
pub data IsAssigned (u : UnitTy) (t : Ty) : Typed → Type 0 where
  value : {e : Typed} → is_scalar t ≡ true → IsOf u (plain t) e → IsAssigned u t e
  whole : {e : Typed} → is_tag t ≡ true → IsTyped u e → type_in (type_of e) ≡ t → IsAssigned u t e

-- a value on which something depends
pub record IsCondition (u : UnitTy) (e : Typed) : Type 0 where
  pub typed : IsTyped u e
  pub value : IsValue e

-- a promoted integer
pub record IsSwitch (u : UnitTy) (e : Typed) : Type 0 where
  pub typed : IsTyped u e
  pub promoted : IsPromoted (type_of e)
  pub value : is_place e ≡ false

-- expressions one after another, before a call takes them for its parameters
abbrev pub AreExpressions : UnitTy → Nodes → Type 0
AreExpressions u none = Unit {0}
AreExpressions u (some e es) = IsTyped u e × AreExpressions u es

-- a call: a value or nothing, or a structure or union that an object has to take
pub data IsCallTree (u : UnitTy) : Typed → Type 0 where
  usual : {e : Typed} → is_tag (type_in (type_of e)) ≡ false → IsTyped u e → IsCallTree u e
  whole : {e : Typed} → IsCalled u (type_of e) e → IsCallTree u e

-- in each unit, with its table of types
pub record ConstructsAreTyped : Type 0 where
  pub values : (u : UnitTy) (e : Typed) → IsTyped u e → IsTyped u (value_of e)
  pub unaries : (u : UnitTy) (p : Pos) (op : UnaryOp) (register : Bool) (e r : Typed) → IsTyped u e → is_registered u e ≡ register → unary_of u.types p op register e ≡ Ok r → IsTyped u r
  pub casts : (u : UnitTy) (p : Pos) (t : QTy) (e r : Typed) → IsTyped u e → cast_of u.types p t e ≡ Ok r → IsTyped u r
  pub binaries : (u : UnitTy) (p : Pos) (op : BinaryOp) (a b r : Typed) → IsTyped u a → IsTyped u b → binary_of u.types p op a b ≡ Ok r → IsTyped u r
  pub ands : (u : UnitTy) (p : Pos) (a b r : Typed) → IsTyped u a → IsTyped u b → both_of p a b ≡ Ok r → IsTyped u r
  pub ors : (u : UnitTy) (p : Pos) (a b r : Typed) → IsTyped u a → IsTyped u b → either_of p a b ≡ Ok r → IsTyped u r
  pub commas : (u : UnitTy) (a b : Typed) → IsTyped u a → IsTyped u b → IsTyped u (comma_of a b)
  pub conditions : (u : UnitTy) (p : Pos) (e r : Typed) → IsTyped u e → condition_of p e ≡ Ok r → IsCondition u r
  pub switches : (u : UnitTy) (p : Pos) (e r : Typed) → IsTyped u e → switch_value_of u.types p e ≡ Ok r → IsSwitch u r
  pub choices : (u : UnitTy) (p : Pos) (x a b r : Typed) → IsTyped u x → IsTyped u a → IsTyped u b → choice_of u.types p x a b ≡ Ok r → IsTyped u r
  pub assigned : (u : UnitTy) (p : Pos) (t : Ty) (e r : Typed) → IsTyped u e → assigned_of u.types p t e ≡ Ok r → IsAssigned u t r
  pub assignments : (u : UnitTy) (p : Pos) (a b r : Typed) → IsTyped u a → IsTyped u b → assign_of u.types p a b ≡ Ok r → IsTyped u r
  pub compound : (u : UnitTy) (p : Pos) (op : BinaryOp) (a b r : Typed) → IsTyped u a → IsTyped u b → assign_op_of u.types p op a b ≡ Ok r → IsTyped u r
  pub steps : (u : UnitTy) (p : Pos) (how : StepKind) (a r : Typed) → IsTyped u a → step_of u.types p how a ≡ Ok r → IsTyped u r
  pub elements : (u : UnitTy) (p : Pos) (a b r : Typed) → IsTyped u a → IsTyped u b → index_of u.types p a b ≡ Ok r → IsTyped u r
  pub members : (u : UnitTy) (p : Pos) (arrow : Bool) (e r : Typed) (name : Name) → IsTyped u e → member_of_name u.types p arrow e name ≡ Ok r → IsTyped u r
  pub sizes : (u : UnitTy) (p : Pos) (t : Ty) (r : Typed) → IsTable u.types → size_of_type u.types p t ≡ Ok r → IsTyped u r
  pub sizes_of : (u : UnitTy) (p : Pos) (e r : Typed) → IsTable u.types → size_of_expr u.types p e ≡ Ok r → IsTyped u r
  pub calls : (u : UnitTy) (p : Pos) (firsts : List Pos) (f r : Typed) (es : Nodes) → IsTyped u f → AreExpressions u es → call_of u.types p firsts f es ≡ Ok r → IsCallTree u r
  pub packed : (u : UnitTy) (t : Ty) (e : Typed) → IsAssigned u t e → is_passed u.types t ≡ true → IsGiven u (packed_of e)
