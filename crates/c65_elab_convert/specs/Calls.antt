-- Calls (C90 6.3.2.2).
use Rattle.std.specs.Prelude.{ℕ, zero, suc, ◌+◌, List, [], ◌∷◌, Bool, true, false, ◌==◌, Option, Some, None, Result, Ok, Err, nat_le, if◌then◌else◌}
use Rattle.c65_base.specs.declared.code.Code.TheVariants.{NotCallable, ArgumentCount, Operands}
use Rattle.c65_base.specs.declared.refusal.Pos.{Pos}
use Rattle.c65_base.specs.declared.refusal.Size.TheVariants.{ArgumentBytes}
use Rattle.c65_base.specs.Limits.{limit_of}
use Rattle.c65_base.specs.Answers.{Fault, at, large, ◌>>=◌}
use Rattle.c65_ctype.specs.Trees.{Ty, pointer, function, QTy, qual, type_in, Fn, fn, Params, unknown, known, QTys, end, more, TypesTy}
use Rattle.c65_ctype.specs.Sizes.{size_at}
use Rattle.c65_csem.specs.Trees.{Typed, node, Nodes, none, some, call, type_of}
use Rattle.c65_csem.specs.Places.{plain_of}
use Rattle.c65_elab_convert.specs.declared.classes.Category.{Category}
use Rattle.c65_elab_convert.specs.declared.classes.Category.TheVariants as categories
use Rattle.c65_elab_convert.specs.Categories.{category_of, category_in, unfit_operand}
use Rattle.c65_elab_convert.specs.Values.{value_of, promotion, as_int_of}
use Rattle.c65_elab_convert.specs.Changes.{assigned_of}
use Rattle.c65_elab_convert.specs.Structures.{structure_size, packed_in}

-- the function to which a pointer points
abbrev pub callee_in : QTy → Option Fn
callee_in (qual (function f) false false) = Some f
callee_in _ = None

abbrev pub callee : Ty → Option Fn
callee (pointer q) = callee_in q
callee _ = None

-- a structure or union is refused where the argument begins, and another argument at the call
abbrev pub passed_by : TypesTy → Pos → Pos → Category → Typed → Result Typed Fault
passed_by types p first (categories.Int k) e = Ok (as_int_of (promotion types e k) e)
passed_by types p first categories.Pointer e = Ok e
passed_by types p first categories.Tag e = packed_in types first e
passed_by types p first categories.Void e = Err (at (unfit_operand Operands e) p)
passed_by types p first categories.Other e = Err (at (unfit_operand Operands e) p)

-- as it is passed without a prototype: numbers are promoted
abbrev pub passed : TypesTy → Pos → Pos → Typed → Result Typed Fault
passed types p first e = passed_by types p first (category_in (value_of e)) (value_of e)

abbrev pub taken_by : TypesTy → Pos → Pos → Category → QTy → Typed → Result Typed Fault
taken_by types p first (categories.Int k) q e = assigned_of types p (type_in q) e
taken_by types p first categories.Pointer q e = assigned_of types p (type_in q) e
taken_by types p first categories.Tag q e = assigned_of types p (type_in q) e >>= packed_in types first
taken_by types p first categories.Void q e = assigned_of types p (type_in q) e
taken_by types p first categories.Other q e = assigned_of types p (type_in q) e

-- as by assignment to the parameter, where there is one
abbrev pub argument : TypesTy → Pos → Pos → Option QTy → Typed → Result Typed Fault
argument types p first None e = passed types p first e
argument types p first (Some q) e = taken_by types p first (category_of (type_in q)) q e

-- the bytes of arguments with one more
abbrev pub counted : TypesTy → Pos → ℕ → Typed → Result ℕ Fault
counted types p n e = size_at types p (type_in (type_of e)) >>= λ m. if nat_le (n + m) (limit_of ArgumentBytes) then Ok (n + m) else Err (large ArgumentBytes (limit_of ArgumentBytes + 1))

abbrev pub first_type : QTys → Option QTy
first_type end = None
first_type (more q qs) = Some q

abbrev pub other_types : QTys → QTys
other_types end = end
other_types (more q qs) = qs

-- the place where an argument begins, and those of the arguments behind it
abbrev pub first_place : Pos → List Pos → Pos
first_place p [] = p
first_place p (first ∷ firsts) = first

abbrev pub other_places : List Pos → List Pos
other_places [] = []
other_places (first ∷ firsts) = firsts

-- arguments behind n bytes of others, from left to right
abbrev pub given : TypesTy → Pos → List Pos → ℕ → QTys → Nodes → Result Nodes Fault
given types p firsts n qs none = Ok none
given types p firsts n qs (some e es) = do
  x ← argument types p (first_place p firsts) (first_type qs) e
  m ← counted types p n x
  xs ← given types p (other_places firsts) m (other_types qs) es
  Ok (some x xs)

abbrev pub count_of : QTys → ℕ
count_of end = zero
count_of (more q qs) = suc (count_of qs)

abbrev pub count_in : Nodes → ℕ
count_in none = zero
count_in (some e es) = suc (count_in es)

abbrev pub is_count : Bool → ℕ → ℕ → Bool
is_count variadic m n = if variadic then nat_le m n else m == n

abbrev pub known_for : TypesTy → Pos → List Pos → Bool → QTys → Nodes → Result Nodes Fault
known_for types p firsts variadic qs es = if is_count variadic (count_of qs) (count_in es) then given types p firsts 0 qs es else Err (at ArgumentCount p)

abbrev pub arguments_by : TypesTy → Pos → List Pos → Params → Bool → Nodes → Result Nodes Fault
arguments_by types p firsts unknown variadic es = given types p firsts 0 end es
arguments_by types p firsts (known qs) variadic es = known_for types p firsts variadic qs es

abbrev pub arguments_for : TypesTy → Pos → List Pos → Fn → Nodes → Result Nodes Fault
arguments_for types p firsts (fn q ps variadic cdecl) es = arguments_by types p firsts ps variadic es

abbrev pub result_by : TypesTy → Pos → Category → QTy → Result QTy Fault
result_by types p categories.Void q = Ok (plain_of q)
result_by types p (categories.Int k) q = Ok (plain_of q)
result_by types p categories.Pointer q = Ok (plain_of q)
result_by types p categories.Tag q = structure_size types p (type_in q) >>= λ n. Ok (plain_of q)
result_by types p categories.Other q = Err (at Operands p)

-- what a function gives: nothing, a scalar, or a structure or union of at most four bytes
abbrev pub result_type : TypesTy → Pos → Fn → Result QTy Fault
result_type types p (fn q ps variadic cdecl) = result_by types p (category_of (type_in q)) q

-- the type and the arguments of a call
abbrev pub parts_for : TypesTy → Pos → List Pos → Fn → Nodes → Result (QTy × Nodes) Fault
parts_for types p firsts g es = do
  t ← result_type types p g
  xs ← arguments_for types p firsts g es
  Ok (t, xs)

abbrev pub called : TypesTy → Pos → List Pos → Option Fn → Typed → Nodes → Result Typed Fault
called types p firsts None f es = Err (at (unfit_operand NotCallable f) p)
called types p firsts (Some g) f es = do
  x ← parts_for types p firsts g es
  Ok (node x.0 (call f x.1))

-- a call, where its arguments begin at these places
abbrev pub call_of : TypesTy → Pos → List Pos → Typed → Nodes → Result Typed Fault
call_of types p firsts f es = called types p firsts (callee (type_in (type_of (value_of f)))) (value_of f) es
