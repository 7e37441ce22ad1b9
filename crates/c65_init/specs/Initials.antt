-- What an initialiser makes of an object (C90 6.5.7): the values of a list go to the elements and members
-- in their order, each with what it takes of the items.
use Rattle.std.specs.Prelude.{ℕ, zero, suc, ◌+◌, ◌-◌, ◌==◌, nat_lt, List, length, slice_get, ◌&&◌, Option, Some, None, Result, Ok, Err, if◌then◌else◌}
use Rattle.c65_base.specs.declared.code.Code.TheVariants.{Initialiser}
use Rattle.c65_base.specs.declared.refusal.Pos.{Pos}
use Rattle.c65_base.specs.Answers.{Fault, at, ◌>>=◌}
use Rattle.c65_ctype.specs.Trees.{Ty, int, pointer, array, tag, QTy, type_in}
use Rattle.c65_ctype.specs.Sizes.{size_at}
use Rattle.c65_csem.specs.Trees.{Typed}
use Rattle.c65_elab_scope.specs.Scopes.{ScopeTy}
use Rattle.c65_tree.specs.Trees.{ExprTree, InitTree, value, list}
use Rattle.c65_elab.specs.Constants.{value_at}
use Rattle.c65_init_cells.specs.Cells.{is_below}
use Rattle.c65_init_cells.specs.Items.{items_of, place_of, first_place}
use Rattle.c65_init_cells.specs.Parts.{PartTy, plain_part, element_at, next_member}
use Rattle.c65_init_cells.specs.Sinks.{SinkTy, with_set, with_number, with_pointer, next, text_put}
use Rattle.c65_init_cells.specs.Values.{scalar_value, text_for, takes_whole}
use Rattle.c65_init.specs.Values.{value_for}

-- the object so far, and the scope
abbrev pub Begun : Type 0
Begun = SinkTy × ScopeTy

-- what fills a part with the items of a list from one on, and answers the place behind those it took
abbrev pub Filling : Type 0
Filling = PartTy → List InitTree → ℕ → Begun → Result (ℕ × Begun) Fault

-- ---- scalars

-- the constant value of a part that is a scalar
abbrev pub leaf_put : PartTy → Pos → Typed → SinkTy → ScopeTy → Ty → Result SinkTy Fault
leaf_put part p e k s (int kind) = value_at e p >>= (λ z. Ok (with_number k part.offset kind part.bits e z))
leaf_put part p e k s _ = with_pointer s.unit k part.offset e p

abbrev pub leaf_of : PartTy → ExprTree → Pos → Begun → Result Begun Fault
leaf_of part e p s = do
  x ← value_for (type_in part.ty) e p s.1
  k ← leaf_put part p x.0 s.0 x.1 (type_in part.ty)
  Ok (k, x.1)

abbrev pub scalar_of : PartTy → InitTree → Begun → Result (ℕ × Begun) Fault
scalar_of part i s = do
  e ← scalar_value i
  x ← leaf_of part e (place_of i) s
  Ok (0, x)

-- ---- arrays, structures and unions, by what fills one of their parts

-- the elements from one on, in at most so many turns; the place behind their items, and their number
abbrev pub elements_of : Filling → QTy → ℕ → ℕ → Option ℕ → List InitTree → ℕ → ℕ → ℕ → Begun → Result ((ℕ × ℕ) × Begun) Fault
elements_of one element base size count items zero j taken s = Ok ((j, taken), s)
elements_of one element base size count items (suc turns) j taken s = if nat_lt j (length items) && is_below taken count then (element_at element base size taken >>= (λ part. one part items j s >>= (λ x. elements_of one element base size count items turns x.0 (next taken) x.1))) else Ok ((j, taken), s)

abbrev pub or_end : {A B : Type 0} → Option A → B → (A → Result B Fault) → Result B Fault
or_end None done goes = Ok done
or_end (Some a) done goes = goes a

-- the members from one on; the place behind their items
abbrev pub members_of : Filling → ℕ → ℕ → List InitTree → ℕ → ℕ → ℕ → Begun → Result (ℕ × Begun) Fault
members_of one n base items zero j from s = Ok (j, s)
members_of one n base items (suc turns) j from s = if nat_lt j (length items) then or_end (next_member s.1.unit.types n base from) (j, s) (λ m. one m.0 items j s >>= (λ x. members_of one n base items turns x.0 m.1 x.1)) else Ok (j, s)

abbrev pub parts_of : Filling → PartTy → Ty → List InitTree → ℕ → Begun → Result ((ℕ × ℕ) × Begun) Fault
parts_of one part (array element count) items j s = do
  size ← size_at s.1.unit.types (first_place items) (type_in element)
  elements_of one element part.offset size count items (length items - j) j 0 s
parts_of one part (tag n) items j s = members_of one n part.offset items (length items - j) j 0 s >>= (λ x. Ok ((x.0, 0), x.1))
parts_of one part _ items j s = Ok ((j, 0), s)

-- no item is left
abbrev pub all_taken : Option InitTree → Result (Unit {0}) Fault
all_taken None = Ok tt
all_taken (Some i) = Err (at Initialiser (place_of i))

abbrev pub list_of : Filling → PartTy → List InitTree → Begun → Result (ℕ × Begun) Fault
list_of one part items s = do
  x ← parts_of one part (type_in part.ty) items 0 s
  all ← all_taken (slice_get items x.0.0)
  Ok (x.0.1, x.1)

-- a list in braces
abbrev pub braced_of : Filling → PartTy → InitTree → Begun → Result (ℕ × Begun) Fault
braced_of one part (value p e) s = Err (at Initialiser p)
braced_of one part (list p is) s = list_of one part (items_of is) s

-- a string literal, or a list in braces
abbrev pub array_of : Filling → PartTy → QTy → Option ℕ → Option (List ℕ) → InitTree → Begun → Result (ℕ × Begun) Fault
array_of one part element count (Some text) i s = text_put s.0 (type_in element) count part.offset text (place_of i) >>= (λ x. Ok (x.0, (x.1, s.1)))
array_of one part element count None i s = braced_of one part i s

-- a part from an initialiser of its own; the number of elements of an array
abbrev pub whole_of : Filling → PartTy → Ty → InitTree → Begun → Result (ℕ × Begun) Fault
whole_of one part (array element count) i s = array_of one part element count (text_for (array element count) i) i s
whole_of one part (tag n) i s = braced_of one part i s
whole_of one part _ i s = scalar_of part i s

-- a part that took no item
abbrev pub moved_on : ℕ → InitTree → (ℕ × ℕ) × Begun → Result (ℕ × Begun) Fault
moved_on j i x = if x.0.0 == j then Err (at Initialiser (place_of i)) else Ok (x.0.0, x.1)

-- one item is for the whole part; where no brace begins it, the part takes as many as it has parts
abbrev pub from_item : Filling → PartTy → List InitTree → ℕ → Option InitTree → Begun → Result (ℕ × Begun) Fault
from_item one part items j None s = Ok (j, s)
from_item one part items j (Some i) s = if takes_whole (type_in part.ty) i then whole_of one part (type_in part.ty) i s >>= (λ x. Ok (j + 1, x.1)) else (parts_of one part (type_in part.ty) items j s >>= moved_on j i)

-- one part from the items of a list, where parts lie in parts at most so deep
abbrev pub one_of : ℕ → PartTy → List InitTree → ℕ → Begun → Result (ℕ × Begun) Fault
one_of zero part items j s = Ok (j, s)
one_of (suc n) part items j s = from_item (one_of n) part items j (slice_get items j) s

-- ---- objects

-- no unit has so many types, and so none has parts so deep in parts
unfoldable pub deepest : ℕ
deepest = 4294967295

abbrev pub part_by_part : QTy → InitTree → Begun → Result (ℕ × Begun) Fault
part_by_part t i s = whole_of (one_of deepest) (plain_part t 0) (type_in t) i s

-- the value that begins an automatic object as a whole: of a scalar, or of a structure or union that is
-- copied
abbrev pub whole_value : Ty → InitTree → Result (Option ExprTree) Fault
whole_value (int kind) i = scalar_value i >>= (λ e. Ok (Some e))
whole_value (pointer q) i = scalar_value i >>= (λ e. Ok (Some e))
whole_value (tag n) (value p e) = Ok (Some e)
whole_value (tag n) (list p is) = Ok None
whole_value _ i = Ok None

abbrev pub whole_set : Ty → ExprTree → Pos → Begun → Result Begun Fault
whole_set t e p s = value_for t e p s.1 >>= (λ x. Ok (with_set s.0 0 x.0, x.1))

abbrev pub by_value : QTy → InitTree → Begun → Option ExprTree → Result (ℕ × Begun) Fault
by_value t i s (Some e) = whole_set (type_in t) e (place_of i) s >>= (λ x. Ok (0, x))
by_value t i s None = part_by_part t i s

-- what an initialiser makes of an object; the number of elements that an array has by it
abbrev pub initial_of : QTy → InitTree → Begun → Result (ℕ × Begun) Fault
initial_of t i s = if s.0.is_automatic then (whole_value (type_in t) i >>= by_value t i s) else part_by_part t i s
