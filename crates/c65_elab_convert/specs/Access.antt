-- Elements, members and sizes (C90 6.3.2.1, 6.3.2.3, 6.3.3.4).
use Rattle.std.specs.Prelude.{ℕ, ◌+◌, pos, List, [], ◌∷◌, ◌&&◌, Bool, true, false, ◌==◌, Option, Some, None, option_map, option_and_then, slice_get, Result, Ok, Err, if◌then◌else◌}
use Rattle.c65_base.specs.declared.code.Code.TheVariants.{BitField, MemberUnknown, Operands}
use Rattle.c65_base.specs.declared.names.Name.{Name}
use Rattle.c65_base.specs.declared.refusal.Pos.{Pos}
use Rattle.c65_base.specs.declared.operators.BinaryOp.TheVariants as ops
use Rattle.c65_base.specs.Answers.{Fault, at, ◌>>=◌}
use Rattle.c65_ints.specs.declared.types.IntType.TheVariants as ints
use Rattle.c65_ctype.specs.Trees.{Ty, int, tag, QTy, qual, type_in, MemberTy, LayoutTy, TypesTy}
use Rattle.c65_ctype.specs.Tables.{layout_at}
use Rattle.c65_ctype.specs.Sizes.{size_at}
use Rattle.c65_csem.specs.Trees.{Typed, node, constant, member, type_of}
use Rattle.c65_csem.specs.Places.{plain, qualified, is_bit_field}
use Rattle.c65_elab_convert.specs.declared.classes.Category.{Category}
use Rattle.c65_elab_convert.specs.declared.classes.Category.TheVariants as categories
use Rattle.c65_elab_convert.specs.Categories.{category_in, unfit_operand, is_array, is_spilled}
use Rattle.c65_elab_convert.specs.Unaries.{deref_of}
use Rattle.c65_elab_convert.specs.Binaries.{binary_of}

-- what the sum points to
abbrev pub index_of : TypesTy → Pos → Typed → Typed → Result Typed Fault
index_of types p a b = binary_of types p ops.Add a b >>= deref_of p

abbrev pub named_by : Option Name → Name → Bool
named_by None name = false
named_by (Some other) name = other.0 == name.0

abbrev pub is_named : MemberTy → Name → Bool
is_named m name = named_by m.name name

-- the place of a member among the members, of which the first one is at i
abbrev pub find_from : ℕ → List MemberTy → Name → Option ℕ
find_from i [] name = None
find_from i (m ∷ ms) name = if is_named m name then Some i else find_from (i + 1) ms name

abbrev pub layout_in : TypesTy → Ty → Option LayoutTy
layout_in types (tag n) = layout_at types n
layout_in types _ = None

abbrev pub typed_member : Bool → Bool → ℕ → MemberTy → ℕ × QTy
typed_member c v i m = (i, qualified c v m.ty)

abbrev pub found_member : Bool → Bool → List MemberTy → Option ℕ → Option (ℕ × QTy)
found_member c v ms None = None
found_member c v ms (Some i) = option_map (typed_member c v i) (slice_get ms i)

abbrev pub member_by : Bool → Bool → Option LayoutTy → Name → Option (ℕ × QTy)
member_by c v None name = None
member_by c v (Some l) name = found_member c v l.members (find_from 0 l.members name)

-- a member's place among the members, and its type with the qualifiers of the structure or union too
abbrev pub member_type : TypesTy → QTy → Name → Option (ℕ × QTy)
member_type types (qual t c v) name = member_by c v (layout_in types t) name

-- an array within what a call gave would be used by its address, and that object has none
abbrev pub member_found : Pos → Typed → Option (ℕ × QTy) → Result Typed Fault
member_found p e None = Err (at MemberUnknown p)
member_found p e (Some x) = if is_spilled e && is_array (type_in x.1) then Err (at Operands p) else Ok (node x.1 (member e x.0))

abbrev pub member_in_by : TypesTy → Pos → Category → Typed → Name → Result Typed Fault
member_in_by types p categories.Tag e name = member_found p e (member_type types (type_of e) name)
member_in_by types p (categories.Int k) e name = Err (at (unfit_operand Operands e) p)
member_in_by types p categories.Pointer e name = Err (at (unfit_operand Operands e) p)
member_in_by types p categories.Void e name = Err (at (unfit_operand Operands e) p)
member_in_by types p categories.Other e name = Err (at (unfit_operand Operands e) p)

abbrev pub member_in : TypesTy → Pos → Typed → Name → Result Typed Fault
member_in types p e name = member_in_by types p (category_in e) e name

abbrev pub member_of_name : TypesTy → Pos → Bool → Typed → Name → Result Typed Fault
member_of_name types p arrow e name = if arrow then (deref_of p e >>= λ x. member_in types p x name) else member_in types p e name

abbrev pub size_of_type : TypesTy → Pos → Ty → Result Typed Fault
size_of_type types p t = size_at types p t >>= λ n. Ok (node (plain (int ints.UInt)) (constant (pos n)))

abbrev pub size_of_expr : TypesTy → Pos → Typed → Result Typed Fault
size_of_expr types p e = if is_bit_field types e then Err (at BitField p) else size_of_type types p (type_in (type_of e))
