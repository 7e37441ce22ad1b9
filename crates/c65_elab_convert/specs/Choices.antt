-- The operator ?: (C90 6.3.15).
use Rattle.std.specs.Prelude.{Bool, true, false, ◌||◌, ◌==◌, Option, Some, None, Result, Ok, Err, if◌then◌else◌}
use Rattle.c65_base.specs.declared.refusal.Pos.{Pos}
use Rattle.c65_base.specs.Answers.{Fault, at, ◌>>=◌}
use Rattle.c65_ctype.specs.Trees.{Ty, void, int, pointer, tag, QTy, qual, type_in, TypesTy}
use Rattle.c65_ctype.specs.Composite.{composite_of}
use Rattle.c65_csem.specs.Trees.{Typed, node, choice, type_of}
use Rattle.c65_csem.specs.Places.{plain}
use Rattle.c65_elab_convert.specs.Categories.{unfit_operands}
use Rattle.c65_elab_convert.specs.Values.{value_of, promotion, common_of, as_plain_of}
use Rattle.c65_elab_convert.specs.Pointers.{agree, is_null, meet_in_void}
use Rattle.c65_elab_convert.specs.Logic.{condition_of}

-- a pointer to a type with the qualifiers of both
abbrev pub pointer_with : Ty → QTy → QTy → Ty
pointer_with t (qual q c v) (qual r d w) = pointer (qual t (c || d) (v || w))

abbrev pub composite : TypesTy → QTy → QTy → Ty
composite types q r = type_in (composite_of types q r)

-- two pointers, to q and to r
abbrev pub between_pointers : TypesTy → QTy → QTy → Typed → Typed → Option Ty
between_pointers types q r a b =
    if agree types q r then Some (pointer_with (composite types q r) q r)
    else if is_null a then Some (type_in (type_of b))
    else if is_null b then Some (type_in (type_of a))
    else if meet_in_void q r then Some (pointer_with void q r)
    else None

-- Numbers have their common type, structures and unions their own, and pointers the composite type, that of the operand which
-- is no null pointer constant, or pointer to void.
abbrev pub chosen_by : TypesTy → Ty → Ty → Typed → Typed → Option Ty
chosen_by types (int j) (int k) a b = Some (int (common_of (promotion types a j) (promotion types b k)))
chosen_by types (pointer q) (pointer r) a b = between_pointers types q r a b
chosen_by types (pointer q) (int k) a b = if is_null b then Some (type_in (type_of a)) else None
chosen_by types (int j) (pointer r) a b = if is_null a then Some (type_in (type_of b)) else None
chosen_by types (tag m) (tag n) a b = if m == n then Some (tag m) else None
chosen_by types void void a b = Some void
chosen_by types _ _ a b = None

abbrev pub chosen_type : TypesTy → Typed → Typed → Option Ty
chosen_type types a b = chosen_by types (type_in (type_of a)) (type_in (type_of b)) a b

abbrev pub made : Ty → Typed → Typed → Typed → Typed
made t x a b = node (plain t) (choice x (as_plain_of t a) (as_plain_of t b))

abbrev pub choice_by : Pos → Option Ty → Typed → Typed → Typed → Result Typed Fault
choice_by p (Some t) x a b = Ok (made t x a b)
choice_by p None x a b = Err (at (unfit_operands a b) p)

abbrev pub choice_of : TypesTy → Pos → Typed → Typed → Typed → Result Typed Fault
choice_of types p x a b = do
  z ← condition_of p x
  choice_by p (chosen_type types (value_of a) (value_of b)) z (value_of a) (value_of b)
