-- Where places lie, and the pieces of which the lines of expressions are made.
use Rattle.std.proofs.Common.{◌≡◌, ℕ, zero, suc, ◌+◌, ◌-◌, ◌%◌, ◌<◌, ◌^◌, Bool, true, false, Option, None, Some, List, [], refl, arith, rules}
use Rattle.std.specs.Prelude.{if◌then◌else◌, nat_le, nat_eq}
use Rattle.std.proofs.lemmas.Bool.{and_parts, leb-true}
use Rattle.std.proofs.lemmas.Option.{slice_get_within}
use Rattle.c65_base.specs.declared.operators.UnaryOp.{UnaryOp}
use Rattle.c65_base.specs.declared.operators.UnaryOp.TheVariants as unary
use Rattle.c65_base.specs.declared.operators.BinaryOp.{BinaryOp}
use Rattle.c65_base.specs.declared.operators.BinaryOp.TheVariants as ops
use Rattle.c65_base.specs.declared.operators.StepKind.{StepKind}
use Rattle.c65_ints.specs.declared.types.IntType.{IntType}
use Rattle.c65_ints.specs.declared.types.IntType.TheVariants as ints
use Rattle.c65_ctype.specs.Trees.{Ty, void, int, pointer, array, tag, function}
use Rattle.c65_ctype.specs.Views.{types_of}
use Rattle.c65_base.specs.declared.library.Library.{Library}
use Rattle.c65_csem.specs.Trees.{Typed, node, literal, object, deref, member, address, decay, binary, UnitTy}
use Rattle.c65_csem.specs.Typed.{IsTyped}
use Rattle.c65_code.specs.declared.line.Line.{Line}
use Rattle.c65_code.specs.declared.routine.Width.{Width}
use Rattle.c65_code.specs.declared.routine.Width.TheVariants.{Ax}
use Rattle.c65_code.specs.Writable.{IsLetters}
use Rattle.c65_genframe.specs.declared.home.Home.{Home}
use Rattle.c65_genframe.specs.declared.home.Home.TheVariants as homes
use Rattle.c65_genframe.specs.Registers.{registers}
use Rattle.c65_genframe.specs.Frames.{Framed, home_of, is_raised, saved_bytes}
use Rattle.c65_genframe.specs.Symbols.{numbers_of, object_symbol, function_symbol}
use Rattle.c65_genwide.specs.Wide.{width_of, wide_code}
use Rattle.c65_genload.specs.declared.places.Extent.{Extent}
use Rattle.c65_genload.specs.declared.places.Extent.TheVariants.{One, Two, Three, Four}
use Rattle.c65_genload.specs.declared.places.Place.{Place}
use Rattle.c65_genload.specs.declared.places.Place.TheVariants as places
use Rattle.c65_genload.specs.declared.places.Access.{Access}
use Rattle.c65_genload.specs.declared.places.Access.TheVariants.{Whole, Part}
use Rattle.c65_genload.specs.Places.{type_in, settled}
use Rattle.c65_genload.specs.Numbers.{scale_code}
use Rattle.c65_genload.specs.Conversions.{push_code, convert_code}
use Rattle.c65_genexpr.specs.declared.operands.Operands.{Operands}
use Rattle.c65_genexpr.specs.declared.operands.Operands.TheVariants.{Numbers, PointerFirst, PointerLast, Pointers}
use Rattle.c65_genexpr.specs.declared.arguments.Passed.{Passed}
use Rattle.c65_genexpr.specs.declared.types.Outcome.{Outcome}
use Rattle.c65_genexpr.specs.declared.types.Outcome.TheVariants.{Nothing, Number, Area}
use Rattle.c65_genexpr.specs.Types.{bare, offset_at, given_bytes}
use Rattle.c65_genexpr.specs.Places.{more, near, soft_place, place_at, within, farther, added_bytes, sum_place, moved, place_of, target_of, soft_code, code_at, object_code, rest_code}
use Rattle.c65_genexpr.specs.Operands.{operands_of, constant_in, computes, between_code, difference_code, behind_code, unary_code, conversion_code, negative}
use Rattle.c65_genchange.specs.Stepping.{is_post}
use Rattle.c65_genexpr.specs.Steps.{back_code, after_code, long_step_code, open_code, close_code}
use Rattle.c65_genexpr.specs.Spills.{kept_code, first_code, further_code, again_code, spill_code}
use Rattle.c65_genexpr.specs.Arguments.{reads_of, argument_code}
use Rattle.c65_genexpr.specs.Calls.{count_code, fetch_code, result_code, library_at, named_by, named_code, pointer_code, direct_code, ptr4_code}
use Rattle.c65_asm_law.proofs.Well.{AllWell, well_append, well_none, well_more, well_if, letters_none, letters_a, letters_y, letters_ax, letters_eax}
use Rattle.c65_asm_law.proofs.Known.{Knows}
use Rattle.c65_asm_law.proofs.Loads.{WellPlace, settled_well, narrow_well, add_well, scale_well, divide_well, symbol_well, address_well, raised_well, convert_well, push_well, pass_well, hold_well, lowest_well, load_well, store_well, wide_well}

-- ---- places

near_when : (n at : ℕ) (b : Bool) → nat_le at 252 ≡ b → WellPlace n (if b then places.Near at else places.Far 0)
near_when n at true h = omega (arith, leb-true at 252 h)
near_when n at false h = omega arith

near_well : (n at : ℕ) → WellPlace n (near at)
near_well n at = near_when n at (nat_le at 252) refl

soft_place_well : (n : ℕ) (raised : Bool) (at : ℕ) → WellPlace n (soft_place raised at)
soft_place_well n true at = omega arith
soft_place_well n false at = near_well n at

place_at_well : (n : ℕ) (f : Framed) (pushed i : ℕ) (home : Option Home) → (object_symbol (numbers_of f.parts) i).0 < n → WellPlace n (place_at f pushed i home)
place_at_well n f pushed i None known = (known, omega arith)
place_at_well n f pushed i (Some (homes.Bank b)) known = tt
place_at_well n f pushed i (Some (homes.Soft d)) known = soft_place_well n (is_raised f i) (more d pushed)

farther_few : (at m : ℕ) → farther at m < 2 ^ 8
farther_few at m = by (within at m) refl
  where
    by : (b : Bool) → within at m ≡ b → (if b then at + m else 0) < 2 ^ 8
    by true h = let parts = and_parts (nat_le m 250) (nat_le (at + m) 250) h in omega (arith, leb-true (at + m) 250 parts.1)
    by false h = omega arith

moved_when : (n at m : ℕ) (b : Bool) → WellPlace n (if b then near (at + m) else places.Far 0)
moved_when n at m true = near_well n (at + m)
moved_when n at m false = omega arith

banked_when : (n at : ℕ) (b : Bool) → WellPlace n (if b then places.Bank at else places.Far 0)
banked_when n at true = tt
banked_when n at false = omega arith

moved_well : (n : ℕ) (p : Place) (m : ℕ) → WellPlace n p → WellPlace n (moved p m)
moved_well n (places.Near at) m h = moved_when n at m (nat_le m 252)
moved_well n (places.Data sym at) m h = (h.0, omega arith)
moved_well n (places.Bank b) m h = banked_when n b (nat_eq m 0)
moved_well n (places.Far at) m h = farther_few at m

sum_well : (n : ℕ) (p : Place) (bytes : Option ℕ) → WellPlace n p → WellPlace n (sum_place p bytes)
sum_well n p None h = omega arith
sum_well n p (Some m) h = moved_well n p m h

mutual
  pub place_well : (n : ℕ) (u : UnitTy) (f : Framed) (pushed : ℕ) (e : Typed) → Knows f u n → IsTyped u e → WellPlace n (place_of f pushed e)
  place_well n u f pushed (node t (literal i)) knows h = (knows.literals i (slice_get_within u.literals i h.0 h.1), omega arith)
  place_well n u f pushed (node t (object i)) knows h = place_at_well n f pushed i (home_of f i) (knows.objects i (slice_get_within u.objects i h.0 h.1))
  place_well n u f pushed (node t (member e m)) knows h = moved_well n (place_of f pushed e) (offset_at (types_of f.parts.types) (bare e) m) (place_well n u f pushed e knows h.0)
  place_well n u f pushed (node t (deref e)) knows h = pointed_well n u f pushed e knows h.0
  place_well n u f pushed (node t _) knows h = omega arith

  -- what an address names
  pointed_well : (n : ℕ) (u : UnitTy) (f : Framed) (pushed : ℕ) (e : Typed) → Knows f u n → IsTyped u e → WellPlace n (target_of f pushed e)
  pointed_well n u f pushed (node t (binary op a b)) knows h = sum_well n (target_of f pushed a) (added_bytes op (operands_of f (bare a) (bare b)) (constant_in b)) (pointed_well n u f pushed a knows h.0)
  pointed_well n u f pushed (node t (address e)) knows h = place_well n u f pushed e knows h.0
  pointed_well n u f pushed (node t (decay e)) knows h = place_well n u f pushed e knows h.0
  pointed_well n u f pushed (node t _) knows h = omega arith

soft_well : (n : ℕ) (raised : Bool) (pushed at stacked : ℕ) → pushed < 2 ^ 16 → at < 2 ^ 16 → AllWell n (soft_code raised pushed at stacked)
soft_well n true pushed at stacked few room = raised_well n pushed ((at + 65536 - stacked) % 65536) few
soft_well n false pushed at stacked few room = address_well n at room

home_well : (n : ℕ) (f : Framed) (pushed i : ℕ) (home : Option Home) → pushed < 2 ^ 16 → (object_symbol (numbers_of f.parts) i).0 < n → AllWell n (code_at f pushed i home)
home_well n f pushed i None few known = symbol_well n (object_symbol (numbers_of f.parts) i) 0 known (omega arith)
home_well n f pushed i (Some (homes.Bank b)) few known = well_none n
home_well n f pushed i (Some (homes.Soft d)) few known = soft_well n (is_raised f i) pushed (more d pushed) f.stacked few (omega arith)

pub object_well : (n : ℕ) (f : Framed) (pushed i : ℕ) → pushed < 2 ^ 16 → (object_symbol (numbers_of f.parts) i).0 < n → AllWell n (object_code f pushed i)
object_well n f pushed i few known = home_well n f pushed i (home_of f i) few known

-- the place behind the further arguments
pub further_well : (n : ℕ) (f : Framed) (pushed : ℕ) → pushed < 2 ^ 16 → AllWell n (rest_code f pushed)
further_well n f pushed few = raised_well n pushed ((pushed + f.soft + saved_bytes f.bank + 65536 - f.stacked) % 65536) few

-- the structure that a call gives
further_bytes_well : (n : ℕ) (e : Extent) → AllWell n (further_code e)
further_bytes_well n One = well_none n
further_bytes_well n Two = record { all = search rules }
further_bytes_well n Three = record { all = search rules }
further_bytes_well n Four = record { all = search rules }

pub spill_well : (n : ℕ) (lines : List Line) (e : Extent) → AllWell n lines → AllWell n (spill_code lines e)
spill_well n lines e h =
    let kept : AllWell n kept_code = record { all = search rules } in
    let first : AllWell n first_code = record { all = search rules } in
    let again : AllWell n again_code = record { all = search rules } in
    well_append n kept_code _ kept (well_append n lines _ h (well_append n first_code _ first (well_append n (further_code e) again_code (further_bytes_well n e) again)))

-- ---- operators

pub conversion_well : (n : ℕ) (t : Ty) (from : IntType) → AllWell n (conversion_code t from)
conversion_well n void from = well_none n
conversion_well n (int k) from = convert_well n from k
conversion_well n (pointer q) from = convert_well n from ints.UInt
conversion_well n (array q m) from = convert_well n from ints.UInt
conversion_well n (tag m) from = convert_well n from ints.UInt
conversion_well n (function g) from = convert_well n from ints.UInt

pub unary_well : (n : ℕ) (op : UnaryOp) (w : Width) → AllWell n (unary_code op w)
unary_well n unary.Neg w = record { all = (tt, tt) }
unary_well n unary.BitNot w = record { all = (tt, tt) }
unary_well n _ w = well_none n

pub between_well : (n : ℕ) (operands : Operands) → AllWell n (between_code operands)
between_well n (Numbers kind) = push_well n (width_of kind)
between_well n (PointerFirst size) = push_well n Ax
between_well n (PointerLast size) = well_append n (scale_code size) (push_code Ax) (scale_well n size) (push_well n Ax)
between_well n (Pointers size) = push_well n Ax

difference_well : (n : ℕ) (op : BinaryOp) (size : ℕ) → AllWell n (difference_code op size)
difference_well n ops.Sub size = divide_well n size
difference_well n _ size = well_none n

pub behind_well : (n : ℕ) (op : BinaryOp) (operands : Operands) (right : IntType) → AllWell n (behind_code op operands right)
behind_well n op (Numbers kind) right = well_append n (convert_code right kind) (wide_code op kind) (convert_well n right kind) (wide_well n op kind)
behind_well n op (PointerFirst size) right = well_append n (scale_code size) (wide_code op ints.UInt) (scale_well n size) (wide_well n op ints.UInt)
behind_well n op (PointerLast size) right = wide_well n op ints.UInt
behind_well n op (Pointers size) right = well_append n (wide_code op ints.UInt) (difference_code op size) (wide_well n op ints.UInt) (difference_well n op size)

-- ---- assignments

back_well : (n : ℕ) (access : Access) (m : ℕ) → AllWell n (back_code access m)
back_well n (Whole kind) m = add_well n kind (negative m)
back_well n (Part field) m = well_append n _ _ (add_well n field.kind (negative m)) (lowest_well n (record field { low = 0 }))

after_well : (n : ℕ) (how : StepKind) (access : Access) (m : ℕ) → AllWell n (after_code how access m)
after_well n how access m = well_if n (is_post how) (back_code access m) [] (back_well n access m) (well_none n)

pub long_step_well : (n : ℕ) (how : StepKind) (place : Place) (access : Access) (m : ℕ) → WellPlace n place → AllWell n (long_step_code how place access m)
long_step_well n how place access m h = well_append n _ _ (hold_well n place) (well_append n _ _ (load_well n (settled place) access (settled_well n place h)) (well_append n _ _ (add_well n (type_in access) m) (well_append n _ _ (store_well n place access h) (after_well n how access m))))

pub open_well : (n : ℕ) (place : Place) (access : Access) (kind : IntType) → WellPlace n place → AllWell n (open_code place access kind)
open_well n place access kind h = well_append n _ _ (hold_well n place) (well_append n _ _ (load_well n (settled place) access (settled_well n place h)) (well_append n _ _ (convert_well n (type_in access) kind) (push_well n (width_of kind))))

pub close_well : (n : ℕ) (op : BinaryOp) (operands : Operands) (right : IntType) (place : Place) (access : Access) → WellPlace n place → AllWell n (close_code op operands right place access)
close_well n op operands right place access h = well_append n _ _ (behind_well n op operands right) (well_append n _ _ (convert_well n (computes operands) (type_in access)) (store_well n place access h))

-- ---- calls

in_letters : (n : ℕ) → IsLetters (registers n)
in_letters zero = letters_none
in_letters (suc zero) = letters_a
in_letters (suc (suc zero)) = letters_ax
in_letters (suc (suc (suc n))) = letters_eax

gives_letters : (given : Outcome) → IsLetters (registers (given_bytes given))
gives_letters given = in_letters (given_bytes given)

reads_letters : (counted : Bool) (p : Passed) → IsLetters (reads_of counted p)
reads_letters true p = letters_y
reads_letters false p = in_letters p.last

count_well : (n : ℕ) (counted : Bool) (p : Passed) → p.stacked < 2 ^ 8 → AllWell n (count_code counted p)
count_well n true p few = record { all = ((tt, few), tt) }
count_well n false p few = well_none n

result_well : (n : ℕ) (given : Outcome) → AllWell n (result_code given)
result_well n Nothing = well_none n
result_well n (Number kind) = narrow_well n kind
result_well n (Area bytes) = well_none n

named_by_well : (n : ℕ) (f : Framed) (i : ℕ) (l : Option Library) (counted : Bool) (p : Passed) (given : Outcome) → (function_symbol (numbers_of f.parts) i).0 < n → p.stacked < 2 ^ 8 → AllWell n (named_by f i l counted p given)
named_by_well n f i (Some l) counted p given known few = well_append n (count_code counted p) _ (count_well n counted p few) (well_more n _ _ tt (result_well n given))
named_by_well n f i None counted p given known few = well_append n (count_code counted p) _ (count_well n counted p few) (well_more n _ _ (known, (reads_letters counted p, gives_letters given)) (result_well n given))

pub named_well : (n : ℕ) (f : Framed) (i : ℕ) (counted : Bool) (p : Passed) (given : Outcome) → (function_symbol (numbers_of f.parts) i).0 < n → p.stacked < 2 ^ 8 → AllWell n (named_code f i counted p given)
named_well n f i counted p given known few = named_by_well n f i (library_at f i) counted p given known few

fetch_well : (n : ℕ) (p : Passed) → p.stacked < 2 ^ 8 → AllWell n (fetch_code p)
fetch_well n p few = record { all = search (rules, few) }

pub pointer_well : (n : ℕ) (counted : Bool) (p : Passed) (given : Outcome) → p.stacked < 2 ^ 8 → AllWell n (pointer_code counted p given)
pointer_well n counted p given few = well_append n (fetch_code p) _ (fetch_well n p few) (well_append n (count_code counted p) _ (count_well n counted p few) (well_more n _ _ (reads_letters counted p, gives_letters given) (well_more n _ _ tt (result_well n given))))

pub direct_well : (n : ℕ) (counted : Bool) (p : Passed) (given : Outcome) → p.stacked < 2 ^ 8 → AllWell n (direct_code counted p given)
direct_well n counted p given few =
    let stored : AllWell n ptr4_code = record { all = search rules } in
    well_append n ptr4_code _ stored (well_append n (count_code counted p) _ (count_well n counted p few) (well_more n _ _ (reads_letters counted p, gives_letters given) (result_well n given)))

pub argument_well : (n : ℕ) (kept : Bool) (size : ℕ) → AllWell n (argument_code kept size)
argument_well n kept size = well_if n kept [] _ (well_none n) (pass_well n size)
