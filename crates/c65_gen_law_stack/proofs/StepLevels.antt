-- Where the lines of steps whose value is used lead, and what waits there.
use Rattle.std.proofs.Common.{ℕ, ◌==◌, inl, inr, Option, Some, None, List, [], ◌∷◌, refl}
use Rattle.std.specs.Prelude.{◌&&◌}
use Rattle.c65_base.specs.declared.operators.BinaryOp.{BinaryOp}
use Rattle.c65_base.specs.declared.operators.StepKind.{StepKind}
use Rattle.c65_base.specs.declared.operators.StepKind.TheVariants.{PreInc, PreDec, PostInc, PostDec}
use Rattle.c65_ints.specs.declared.types.IntType.{IntType}
use Rattle.c65_mach.specs.declared.rows.Op.{Op}
use Rattle.c65_mach.specs.declared.rows.Op.TheVariants.{Bne, Dec, Pha, Pla, Sta, Tax, Tay, Txa}
use Rattle.c65_genwide.specs.Lines.{value}
use Rattle.c65_genload.specs.declared.places.Place.{Place}
use Rattle.c65_genload.specs.declared.places.Place.TheVariants as places
use Rattle.c65_genload.specs.declared.places.Access.{Access}
use Rattle.c65_genload.specs.declared.places.Access.TheVariants.{Whole}
use Rattle.c65_genload.specs.Words.{implied}
use Rattle.c65_genload.specs.Places.{extent_of, type_in}
use Rattle.c65_genload.specs.Numbers.{first, second}
use Rattle.c65_genload.specs.Loads.{load_code}
use Rattle.c65_gendirect.specs.Words.{instruction}
use Rattle.c65_genchange.specs.declared.spots.Target.{Target}
use Rattle.c65_genchange.specs.declared.spots.Target.TheVariants.{Byte, Word}
use Rattle.c65_genchange.specs.Spots.{point_code, all_counted, target_of}
use Rattle.c65_genchange.specs.Stepping.{is_post, step_op, down_behind_code, counted_code, front_code, behind_code, summed_code, stepped_code}
use Rattle.c65_genexpr.specs.Steps.{step_by, step_code}
use Rattle.c65_gen_law_lines.proofs.Pieces.{narrow_piece, part_piece, load_piece, long_step_piece}
use Rattle.c65_gen_law_lines.proofs.StackPieces.{narrow_still, bytes_still, load_still, long_step_still}
use Rattle.c65_gen_law_stack.proofs.Levels.{Closed}
use Rattle.c65_gen_law_stack.proofs.EvenLines.{Labels, No}
use Rattle.c65_gen_law_stack.proofs.ChangeLevels.{Steady, steady_then, steady_piece, steady_none, steady_label, steady_if, steady_on, steady_close, steady_branch, steady_closed, reach_steady, carry_steady, up_steady, down_steady, first_steady, next_steady}

implied_steady : {X : Labels} (op : Op) → Steady No X (implied op ∷ [])
implied_steady op = steady_piece (λ v. record { to = λ calls. refl }) refl

value_steady : {X : Labels} (op : BinaryOp) (n : ℕ) → Steady No X (value (instruction op) n ∷ [])
value_steady op n = steady_piece (λ v. record { to = λ calls. refl }) refl

-- ---- by one

down_behind_steady : (target : Target) (label : ℕ) → Steady No No (down_behind_code target label)
down_behind_steady (Byte low) label = down_steady (Byte low) label
down_behind_steady (Word low high) label =
    steady_close label (inr (inr (inr (inl refl)))) (steady_then (implied_steady Tay) (steady_then (steady_branch Bne label (inl refl)) (steady_then (reach_steady Dec high) (steady_then (steady_label label) (reach_steady Dec low)))))

number_steady : (place : Place) (kind : IntType) → Steady No No (load_code place (Whole kind))
number_steady place kind = steady_piece (load_still place (Whole kind)) (load_piece place (Whole kind)).plain

counted_steady : (how : StepKind) (place : Place) (kind : IntType) (target : Target) (label : ℕ) → Steady No No (counted_code how target label (load_code place (Whole kind)))
counted_steady PreInc place kind target label = steady_on (up_steady target label) (number_steady place kind)
counted_steady PreDec place kind target label = steady_on (down_steady target label) (number_steady place kind)
counted_steady PostInc place kind target label = steady_on (number_steady place kind) (up_steady target label)
counted_steady PostDec place kind target label = steady_on (number_steady place kind) (down_behind_steady target label)

-- ---- by so many bytes

front_steady : {X : Labels} (op : BinaryOp) (n : ℕ) (target : Target) → Steady No X (front_code op n target)
front_steady op n (Byte low) = first_steady op (first n) low
front_steady op n (Word low high) = steady_on (first_steady op (first n) low) (steady_on (implied_steady Pha) (steady_on (next_steady op (second n) high) (steady_on (implied_steady Tax) (implied_steady Pla))))

behind_steady : {X : Labels} (op : BinaryOp) (n : ℕ) (target : Target) → Steady No X (behind_code op n target)
behind_steady op n (Byte low) = steady_on (implied_steady Pha) (steady_on (carry_steady op) (steady_on (value_steady op (first n)) (steady_on (reach_steady Sta low) (implied_steady Pla))))
behind_steady op n (Word low high) =
    steady_on (implied_steady Pha) (steady_on (carry_steady op) (steady_on (value_steady op (first n)) (steady_on (reach_steady Sta low)
    (steady_on (implied_steady Txa) (steady_on (value_steady op (second n)) (steady_on (reach_steady Sta high) (implied_steady Pla)))))))

point_steady : {X : Labels} (place : Place) → Steady No X (point_code place)
point_steady (places.Far at) = steady_piece (λ v. record { to = λ calls. refl }) refl
point_steady (places.Bank b) = steady_none
point_steady (places.Near at) = steady_none
point_steady (places.Data s at) = steady_none

summed_steady : {X : Labels} (how : StepKind) (n : ℕ) (place : Place) (kind : IntType) (target : Target) → Steady No X (summed_code how n place kind target)
summed_steady how n place kind target =
    steady_on
    (steady_if (is_post how) (steady_on (steady_piece (bytes_still place (extent_of kind)) (part_piece place (extent_of kind)).plain) (behind_steady (step_op how) n target)) (steady_on (point_steady place) (front_steady (step_op how) n target)))
    (steady_piece (narrow_still kind) (narrow_piece kind).plain)

-- ---- the form

stepped_steady : (how : StepKind) (n : ℕ) (place : Place) (kind : IntType) (target : Target) (label : ℕ) → Steady No No (stepped_code how n place kind target label)
stepped_steady how n place kind target label =
    steady_if ((n == 1) && all_counted target) (counted_steady how place kind target label) (steady_close label (inr refl) (steady_then (summed_steady how n place kind target) (steady_label label)))

step_steady : (how : StepKind) (size n : ℕ) (place : Place) (access : Access) (label : ℕ) → Steady No No (step_code how size n place access label)
step_steady how size n place access label = by (target_of place access)
  where
    by : (t : Option Target) → Steady No No (step_by t how size n place access label)
    by (Some target) = stepped_steady how size place (type_in access) target label
    by None = steady_close label (inr refl) (steady_then (steady_piece (long_step_still how place access n) (long_step_piece how place access n).plain) (steady_label label))

pub step_level : (how : StepKind) (size n : ℕ) (place : Place) (access : Access) (label : ℕ) (v : List ℕ) → Closed [] v (step_code how size n place access label) v
step_level how size n place access label v = steady_closed (step_steady how size n place access label) v
