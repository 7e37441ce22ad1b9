-- The symbols of places, and of the pieces of which the lines of expressions are made.
use Rattle.std.proofs.Common.{◌≡◌, ℕ, ◌+◌, ◌-◌, ◌%◌, Bool, true, false, Option, None, Some, List, refl}
use Rattle.std.specs.Prelude.{if◌then◌else◌, nat_le, nat_eq}
use Rattle.c65_base.specs.declared.operators.UnaryOp.{UnaryOp}
use Rattle.c65_base.specs.declared.operators.UnaryOp.TheVariants as unary
use Rattle.c65_base.specs.declared.operators.BinaryOp.{BinaryOp}
use Rattle.c65_base.specs.declared.operators.BinaryOp.TheVariants as ops
use Rattle.c65_base.specs.declared.operators.StepKind.{StepKind}
use Rattle.c65_ints.specs.declared.types.IntType.{IntType}
use Rattle.c65_ints.specs.declared.types.IntType.TheVariants as ints
use Rattle.c65_ctype.specs.Trees.{Ty, void, int, pointer, array, tag, function}
use Rattle.c65_ctype.specs.Views.{types_of}
use Rattle.c65_base.specs.declared.library.Library.{Library}
use Rattle.c65_csem.specs.Trees.{Typed, node, literal, object, deref, member, address, decay, binary}
use Rattle.c65_code.specs.declared.line.Line.{Line}
use Rattle.c65_code.specs.declared.routine.Width.{Width}
use Rattle.c65_code.specs.declared.routine.Width.TheVariants.{Ax}
use Rattle.c65_genframe.specs.declared.home.Home.{Home}
use Rattle.c65_genframe.specs.declared.home.Home.TheVariants as homes
use Rattle.c65_genframe.specs.Frames.{Framed, home_of, is_raised, saved_bytes}
use Rattle.c65_genframe.specs.Symbols.{numbers_of, object_symbol, function_symbol}
use Rattle.c65_genwide.specs.Wide.{width_of}
use Rattle.c65_genload.specs.declared.places.Extent.{Extent}
use Rattle.c65_genload.specs.declared.places.Extent.TheVariants.{One, Two, Three, Four}
use Rattle.c65_genload.specs.declared.places.Place.{Place}
use Rattle.c65_genload.specs.declared.places.Place.TheVariants as places
use Rattle.c65_genload.specs.declared.places.Access.{Access}
use Rattle.c65_genload.specs.declared.places.Access.TheVariants.{Whole, Part}
use Rattle.c65_genload.specs.Places.{type_in, settled}
use Rattle.c65_genexpr.specs.declared.operands.Operands.{Operands}
use Rattle.c65_genexpr.specs.declared.operands.Operands.TheVariants.{Numbers, PointerFirst, PointerLast, Pointers}
use Rattle.c65_genexpr.specs.declared.arguments.Passed.{Passed}
use Rattle.c65_genexpr.specs.declared.types.Outcome.{Outcome}
use Rattle.c65_genexpr.specs.declared.types.Outcome.TheVariants.{Nothing, Number, Area}
use Rattle.c65_genexpr.specs.Types.{bare, offset_at}
use Rattle.c65_genexpr.specs.Places.{more, near, soft_place, place_at, added_bytes, sum_place, moved, place_of, target_of, soft_code, code_at, object_code, rest_code}
use Rattle.c65_genexpr.specs.Operands.{operands_of, constant_in, computes, between_code, difference_code, behind_code, unary_code, conversion_code, negative}
use Rattle.c65_genchange.specs.Stepping.{is_post}
use Rattle.c65_genexpr.specs.Steps.{back_code, after_code, long_step_code, open_code, close_code}
use Rattle.c65_genexpr.specs.Spills.{kept_code, first_code, further_code, again_code, spill_code}
use Rattle.c65_genexpr.specs.Arguments.{argument_code}
use Rattle.c65_genexpr.specs.Calls.{count_code, fetch_code, result_code, library_at, named_by, named_code, pointer_code, direct_code, ptr4_code}
use Rattle.c65_gen_law_names.specs.Trees.{KnownObject, KnownTree}
use Rattle.c65_gen_law_names.proofs.Known.{AllKnown, known_if, known_more, known_none, known_then}
use Rattle.c65_gen_law_names.proofs.Loads.{KnownPlace, add_known, address_known, convert_known, divide_known, hold_known, load_known, lowest_known, narrow_known, pass_known, push_known, raised_known, scale_known, settled_known, store_known, symbol_known, wide_known}

-- ---- places

near_known : (P : ℕ → Type 0) (at : ℕ) → KnownPlace P (near at)
near_known P at = by (nat_le at 252)
  where
    by : (b : Bool) → KnownPlace P (if b then places.Near at else places.Far 0)
    by true = tt
    by false = tt

soft_place_known : (P : ℕ → Type 0) (raised : Bool) (at : ℕ) → KnownPlace P (soft_place raised at)
soft_place_known P true at = tt
soft_place_known P false at = near_known P at

place_at_known : (P : ℕ → Type 0) (f : Framed) (pushed i : ℕ) (home : Option Home) → (home ≡ None → P (object_symbol (numbers_of f.parts) i).0) → KnownPlace P (place_at f pushed i home)
place_at_known P f pushed i None known = known refl
place_at_known P f pushed i (Some (homes.Bank b)) known = tt
place_at_known P f pushed i (Some (homes.Soft d)) known = soft_place_known P (is_raised f i) (more d pushed)

moved_when : (P : ℕ → Type 0) (at m : ℕ) (b : Bool) → KnownPlace P (if b then near (at + m) else places.Far 0)
moved_when P at m true = near_known P (at + m)
moved_when P at m false = tt

banked_when : (P : ℕ → Type 0) (at : ℕ) (b : Bool) → KnownPlace P (if b then places.Bank at else places.Far 0)
banked_when P at true = tt
banked_when P at false = tt

moved_known : (P : ℕ → Type 0) (p : Place) (m : ℕ) → KnownPlace P p → KnownPlace P (moved p m)
moved_known P (places.Near at) m h = moved_when P at m (nat_le m 252)
moved_known P (places.Data sym at) m h = h
moved_known P (places.Bank b) m h = banked_when P b (nat_eq m 0)
moved_known P (places.Far at) m h = tt

sum_known : (P : ℕ → Type 0) (p : Place) (bytes : Option ℕ) → KnownPlace P p → KnownPlace P (sum_place p bytes)
sum_known P p None h = tt
sum_known P p (Some m) h = moved_known P p m h

mutual
  pub place_known : (P : ℕ → Type 0) (f : Framed) (pushed : ℕ) (e : Typed) → KnownTree P f e → KnownPlace P (place_of f pushed e)
  place_known P f pushed (node t (literal i)) h = h
  place_known P f pushed (node t (object i)) h = place_at_known P f pushed i (home_of f i) h
  place_known P f pushed (node t (member e m)) h = moved_known P (place_of f pushed e) (offset_at (types_of f.parts.types) (bare e) m) (place_known P f pushed e h)
  place_known P f pushed (node t (deref e)) h = pointed_known P f pushed e h
  place_known P f pushed (node t _) h = tt

  -- what an address names
  pointed_known : (P : ℕ → Type 0) (f : Framed) (pushed : ℕ) (e : Typed) → KnownTree P f e → KnownPlace P (target_of f pushed e)
  pointed_known P f pushed (node t (binary op a b)) h = sum_known P (target_of f pushed a) (added_bytes op (operands_of f (bare a) (bare b)) (constant_in b)) (pointed_known P f pushed a h.0)
  pointed_known P f pushed (node t (address e)) h = place_known P f pushed e h
  pointed_known P f pushed (node t (decay e)) h = place_known P f pushed e h
  pointed_known P f pushed (node t _) h = tt

soft_known : (P : ℕ → Type 0) (raised : Bool) (pushed at stacked : ℕ) → AllKnown P (soft_code raised pushed at stacked)
soft_known P true pushed at stacked = raised_known P pushed ((at + 65536 - stacked) % 65536)
soft_known P false pushed at stacked = address_known P at

home_known : (P : ℕ → Type 0) (f : Framed) (pushed i : ℕ) (home : Option Home) → (home ≡ None → P (object_symbol (numbers_of f.parts) i).0) → AllKnown P (code_at f pushed i home)
home_known P f pushed i None known = symbol_known P (object_symbol (numbers_of f.parts) i) 0 (known refl)
home_known P f pushed i (Some (homes.Bank b)) known = known_none
home_known P f pushed i (Some (homes.Soft d)) known = soft_known P (is_raised f i) pushed (more d pushed) f.stacked

pub object_known : (P : ℕ → Type 0) (f : Framed) (pushed i : ℕ) → KnownObject P f i → AllKnown P (object_code f pushed i)
object_known P f pushed i known = home_known P f pushed i (home_of f i) known

-- the place behind the further arguments
pub further_known : (P : ℕ → Type 0) (f : Framed) (pushed : ℕ) → AllKnown P (rest_code f pushed)
further_known P f pushed = raised_known P pushed ((pushed + f.soft + saved_bytes f.bank + 65536 - f.stacked) % 65536)

-- the structure that a call gives
further_bytes_known : (P : ℕ → Type 0) (e : Extent) → AllKnown P (further_code e)
further_bytes_known P One = known_none
further_bytes_known P Two = record { all = tt }
further_bytes_known P Three = record { all = tt }
further_bytes_known P Four = record { all = tt }

pub spill_known : (P : ℕ → Type 0) (lines : List Line) (e : Extent) → AllKnown P lines → AllKnown P (spill_code lines e)
spill_known P lines e h =
    let kept : AllKnown P kept_code = record { all = tt } in
    let first : AllKnown P first_code = record { all = tt } in
    let again : AllKnown P again_code = record { all = tt } in
    known_then {a = kept_code} kept (known_then h (known_then {a = first_code} first (known_then (further_bytes_known P e) again)))

-- ---- operators

pub conversion_known : (P : ℕ → Type 0) (t : Ty) (from : IntType) → AllKnown P (conversion_code t from)
conversion_known P void from = known_none
conversion_known P (int k) from = convert_known P from k
conversion_known P (pointer q) from = convert_known P from ints.UInt
conversion_known P (array q m) from = convert_known P from ints.UInt
conversion_known P (tag m) from = convert_known P from ints.UInt
conversion_known P (function g) from = convert_known P from ints.UInt

pub unary_known : (P : ℕ → Type 0) (op : UnaryOp) (w : Width) → AllKnown P (unary_code op w)
unary_known P unary.Neg w = record { all = tt }
unary_known P unary.BitNot w = record { all = tt }
unary_known P _ w = known_none

pub between_known : (P : ℕ → Type 0) (operands : Operands) → AllKnown P (between_code operands)
between_known P (Numbers kind) = push_known P (width_of kind)
between_known P (PointerFirst size) = push_known P Ax
between_known P (PointerLast size) = known_then (scale_known P size) (push_known P Ax)
between_known P (Pointers size) = push_known P Ax

difference_known : (P : ℕ → Type 0) (op : BinaryOp) (size : ℕ) → AllKnown P (difference_code op size)
difference_known P ops.Sub size = divide_known P size
difference_known P _ size = known_none

pub behind_known : (P : ℕ → Type 0) (op : BinaryOp) (operands : Operands) (right : IntType) → AllKnown P (behind_code op operands right)
behind_known P op (Numbers kind) right = known_then (convert_known P right kind) (wide_known P op kind)
behind_known P op (PointerFirst size) right = known_then (scale_known P size) (wide_known P op ints.UInt)
behind_known P op (PointerLast size) right = wide_known P op ints.UInt
behind_known P op (Pointers size) right = known_then (wide_known P op ints.UInt) (difference_known P op size)

-- ---- assignments

back_known : (P : ℕ → Type 0) (access : Access) (m : ℕ) → AllKnown P (back_code access m)
back_known P (Whole kind) m = add_known P kind (negative m)
back_known P (Part field) m = known_then (add_known P field.kind (negative m)) (lowest_known P (record field { low = 0 }))

after_known : (P : ℕ → Type 0) (how : StepKind) (access : Access) (m : ℕ) → AllKnown P (after_code how access m)
after_known P how access m = known_if (is_post how) (back_known P access m) known_none

pub long_step_known : (P : ℕ → Type 0) (how : StepKind) (place : Place) (access : Access) (m : ℕ) → KnownPlace P place → AllKnown P (long_step_code how place access m)
long_step_known P how place access m h = known_then (hold_known P place) (known_then (load_known P (settled place) access (settled_known P place h)) (known_then (add_known P (type_in access) m) (known_then (store_known P place access h) (after_known P how access m))))

pub open_known : (P : ℕ → Type 0) (place : Place) (access : Access) (kind : IntType) → KnownPlace P place → AllKnown P (open_code place access kind)
open_known P place access kind h = known_then (hold_known P place) (known_then (load_known P (settled place) access (settled_known P place h)) (known_then (convert_known P (type_in access) kind) (push_known P (width_of kind))))

pub close_known : (P : ℕ → Type 0) (op : BinaryOp) (operands : Operands) (right : IntType) (place : Place) (access : Access) → KnownPlace P place → AllKnown P (close_code op operands right place access)
close_known P op operands right place access h = known_then (behind_known P op operands right) (known_then (convert_known P (computes operands) (type_in access)) (store_known P place access h))

-- ---- calls

count_known : (P : ℕ → Type 0) (counted : Bool) (p : Passed) → AllKnown P (count_code counted p)
count_known P true p = record { all = tt }
count_known P false p = known_none

result_known : (P : ℕ → Type 0) (given : Outcome) → AllKnown P (result_code given)
result_known P Nothing = known_none
result_known P (Number kind) = narrow_known P kind
result_known P (Area bytes) = known_none

named_by_known : (P : ℕ → Type 0) (f : Framed) (i : ℕ) (l : Option Library) (counted : Bool) (p : Passed) (given : Outcome) → P (function_symbol (numbers_of f.parts) i).0 → AllKnown P (named_by f i l counted p given)
named_by_known P f i (Some l) counted p given known = known_then (count_known P counted p) (known_more tt (result_known P given))
named_by_known P f i None counted p given known = known_then (count_known P counted p) (known_more known (result_known P given))

pub named_known : (P : ℕ → Type 0) (f : Framed) (i : ℕ) (counted : Bool) (p : Passed) (given : Outcome) → P (function_symbol (numbers_of f.parts) i).0 → AllKnown P (named_code f i counted p given)
named_known P f i counted p given known = named_by_known P f i (library_at f i) counted p given known

fetch_known : (P : ℕ → Type 0) (p : Passed) → AllKnown P (fetch_code p)
fetch_known P p = record { all = tt }

pub pointer_known : (P : ℕ → Type 0) (counted : Bool) (p : Passed) (given : Outcome) → AllKnown P (pointer_code counted p given)
pointer_known P counted p given = known_then (fetch_known P p) (known_then (count_known P counted p) (known_more tt (known_more tt (result_known P given))))

pub direct_known : (P : ℕ → Type 0) (counted : Bool) (p : Passed) (given : Outcome) → AllKnown P (direct_code counted p given)
direct_known P counted p given =
    let stored : AllKnown P ptr4_code = record { all = tt } in
    known_then {a = ptr4_code} stored (known_then (count_known P counted p) (known_more tt (result_known P given)))

pub argument_known : (P : ℕ → Type 0) (kept : Bool) (size : ℕ) → AllKnown P (argument_code kept size)
argument_known P kept size = known_if kept known_none (pass_known P size)
