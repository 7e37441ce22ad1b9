-- Operators of two operands that are both evaluated (C90 6.3.5 to 6.3.12).
use Rattle.std.specs.Prelude.{ℕ, Bool, true, false, ◌&&◌, not, Result, Ok, Err, if◌then◌else◌}
use Rattle.c65_base.specs.declared.refusal.Pos.{Pos}
use Rattle.c65_base.specs.declared.operators.BinaryOp.{BinaryOp}
use Rattle.c65_base.specs.declared.operators.BinaryOp.TheVariants as ops
use Rattle.c65_base.specs.Answers.{Fault, at, ◌>>=◌}
use Rattle.c65_ints.specs.declared.types.IntType.{IntType}
use Rattle.c65_ints.specs.declared.types.IntType.TheVariants as ints
use Rattle.c65_ctype.specs.Trees.{Ty, int, pointer, type_in, TypesTy}
use Rattle.c65_csem.specs.Trees.{Typed, type_of}
use Rattle.c65_csem.specs.Places.{plain}
use Rattle.c65_elab_convert.specs.declared.classes.Category.{Category}
use Rattle.c65_elab_convert.specs.declared.classes.Category.TheVariants as categories
use Rattle.c65_elab_convert.specs.declared.numbers.Group.{Group}
use Rattle.c65_elab_convert.specs.declared.numbers.Group.TheVariants as groups
use Rattle.c65_elab_convert.specs.declared.pairs.Match.{Match}
use Rattle.c65_elab_convert.specs.declared.pairs.Match.TheVariants as matches
use Rattle.c65_elab_convert.specs.Categories.{category_in, unfit_operands, is_function}
use Rattle.c65_elab_convert.specs.Values.{value_of, promotion, as_int_of, as_plain_of}
use Rattle.c65_elab_convert.specs.Pointers.{agree, target_size}
use Rattle.c65_elab_convert.specs.Pairs.{match_of}
use Rattle.c65_elab_convert.specs.Numbers.{group_of, joined, on_numbers}

-- a pointer plus or minus an integer of type k
abbrev pub moved : TypesTy → Pos → BinaryOp → IntType → Typed → Typed → Result Typed Fault
moved types p op k a b = do
  size ← target_size types p a
  Ok (joined op (type_of a) a (as_int_of (promotion types b k) b))

-- an integer of type k plus a pointer
abbrev pub moved_by : TypesTy → Pos → IntType → Typed → Typed → Result Typed Fault
moved_by types p k a b = do
  size ← target_size types p b
  Ok (joined ops.Add (type_of b) (as_int_of (promotion types a k) a) b)

abbrev pub sum_by : TypesTy → Pos → Category → Category → Typed → Typed → Result Typed Fault
sum_by types p categories.Pointer (categories.Int k) a b = moved types p ops.Add k a b
sum_by types p (categories.Int k) categories.Pointer a b = moved_by types p k a b
sum_by types p _ _ a b = Err (at (unfit_operands a b) p)

abbrev pub sum : TypesTy → Pos → Typed → Typed → Result Typed Fault
sum types p a b = sum_by types p (category_in a) (category_in b) a b

-- pointers to compatible types, whatever their qualifiers
abbrev pub point_alike : TypesTy → Ty → Ty → Bool
point_alike types (pointer q) (pointer r) = agree types q r
point_alike types _ _ = false

-- the difference of two pointers
abbrev pub apart : TypesTy → Pos → Typed → Typed → Result Typed Fault
apart types p a b =
    if point_alike types (type_in (type_of a)) (type_in (type_of b))
    then (target_size types p a >>= λ m. target_size types p b >>= λ n. Ok (joined ops.Sub (plain (int ints.Int)) a b))
    else Err (at (unfit_operands a b) p)

abbrev pub difference_by : TypesTy → Pos → Category → Category → Typed → Typed → Result Typed Fault
difference_by types p categories.Pointer (categories.Int k) a b = moved types p ops.Sub k a b
difference_by types p _ _ a b = apart types p a b

abbrev pub difference : TypesTy → Pos → Typed → Typed → Result Typed Fault
difference types p a b = difference_by types p (category_in a) (category_in b) a b

abbrev pub points_to_function : Ty → Bool
points_to_function (pointer q) = is_function (type_in q)
points_to_function _ = false

-- the order of two pointers to compatible object or incomplete types
abbrev pub order : TypesTy → Pos → BinaryOp → Typed → Typed → Result Typed Fault
order types p op a b =
    if point_alike types (type_in (type_of a)) (type_in (type_of b)) && not (points_to_function (type_in (type_of a)))
    then Ok (joined op (plain (int ints.Int)) a b)
    else Err (at (unfit_operands a b) p)

abbrev pub equality_by : Pos → BinaryOp → Match → Typed → Typed → Result Typed Fault
equality_by p op matches.Both a b = Ok (joined op (plain (int ints.Int)) a b)
equality_by p op matches.Left a b = Ok (joined op (plain (int ints.Int)) (as_plain_of (type_in (type_of b)) a) b)
equality_by p op matches.Right a b = Ok (joined op (plain (int ints.Int)) a (as_plain_of (type_in (type_of a)) b))
equality_by p op matches.Neither a b = Err (at (unfit_operands a b) p)

abbrev pub equality : TypesTy → Pos → BinaryOp → Typed → Typed → Result Typed Fault
equality types p op a b = equality_by p op (match_of types a b) a b

abbrev pub others_by : TypesTy → Pos → BinaryOp → Group → Typed → Typed → Result Typed Fault
others_by types p op groups.Add a b = sum types p a b
others_by types p op groups.Subtract a b = difference types p a b
others_by types p op groups.Order a b = order types p op a b
others_by types p op groups.Equality a b = equality types p op a b
others_by types p op groups.Arithmetic a b = Err (at (unfit_operands a b) p)
others_by types p op groups.Shift a b = Err (at (unfit_operands a b) p)

abbrev pub on_others : TypesTy → Pos → BinaryOp → Typed → Typed → Result Typed Fault
on_others types p op a b = others_by types p op (group_of op) a b

abbrev pub values_by : TypesTy → Pos → BinaryOp → Category → Category → Typed → Typed → Result Typed Fault
values_by types p op (categories.Int j) (categories.Int k) a b = Ok (on_numbers op (promotion types a j) (promotion types b k) a b)
values_by types p op _ _ a b = on_others types p op a b

abbrev pub on_values : TypesTy → Pos → BinaryOp → Typed → Typed → Result Typed Fault
on_values types p op a b = values_by types p op (category_in a) (category_in b) a b

abbrev pub binary_of : TypesTy → Pos → BinaryOp → Typed → Typed → Result Typed Fault
binary_of types p op a b = on_values types p op (value_of a) (value_of b)
