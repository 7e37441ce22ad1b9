-- The lines of steps whose value is used write nothing of regbank, where the numbers do not lie there.
use Rattle.std.proofs.Common.{ℕ, ◌==◌, Option, Some, None, List, [], ◌∷◌, refl}
use Rattle.std.specs.Prelude.{◌&&◌}
use Rattle.c65_base.specs.declared.operators.BinaryOp.{BinaryOp}
use Rattle.c65_base.specs.declared.operators.StepKind.{StepKind}
use Rattle.c65_base.specs.declared.operators.StepKind.TheVariants.{PreInc, PreDec, PostInc, PostDec}
use Rattle.c65_ints.specs.declared.types.IntType.{IntType}
use Rattle.c65_mach.specs.declared.rows.Op.TheVariants.{Bne, Pha, Pla, Tax, Tay, Txa}
use Rattle.c65_code.specs.declared.line.Line.{Line}
use Rattle.c65_genload.specs.declared.places.Place.{Place}
use Rattle.c65_genload.specs.declared.places.Access.{Access}
use Rattle.c65_genload.specs.declared.places.Access.TheVariants.{Whole}
use Rattle.c65_genload.specs.Words.{implied, branch}
use Rattle.c65_genload.specs.Places.{extent_of, type_in}
use Rattle.c65_genload.specs.Numbers.{first, second}
use Rattle.c65_genchange.specs.declared.spots.Target.{Target}
use Rattle.c65_genchange.specs.declared.spots.Target.TheVariants.{Byte, Word}
use Rattle.c65_genchange.specs.Spots.{all_counted, target_of}
use Rattle.c65_genchange.specs.Stepping.{is_post, step_op, down_behind_code, counted_code, front_code, behind_code, summed_code, stepped_code}
use Rattle.c65_genexpr.specs.Steps.{step_by, step_code}
use Rattle.c65_gen_law_lines.proofs.EffectFacts.{OfAny}
use Rattle.c65_gen_law_stack.proofs.BankPieces.{Clear, clear_then, clear_if, label_clear, narrow_clear, bytes_clear, load_clear, long_step_clear, IsOff}
use Rattle.c65_gen_law_stack.proofs.ChangeClears.{IsOffTarget, put_clear, carry_clear, value_clear, up_clear, down_clear_at, down_clear, first_clear, next_clear, point_clear, target_off}

pha_clear : Clear (implied Pha ∷ [])
pha_clear = record { all = refl }

pla_clear : Clear (implied Pla ∷ [])
pla_clear = record { all = refl }

-- ---- by one

down_behind_clear : (target : Target) (label : ℕ) → IsOffTarget target → Clear (down_behind_code target label)
down_behind_clear (Byte low) label off = down_clear (Byte low) label off
down_behind_clear (Word low high) label off =
    let way : Clear (implied Tay ∷ branch Bne label ∷ []) = record { all = refl } in
    clear_then way (clear_then (down_clear_at high off.1) (clear_then (label_clear label) (down_clear_at low off.0)))

counted_clear : {load : List Line} (how : StepKind) (target : Target) (label : ℕ) → IsOffTarget target → Clear load → Clear (counted_code how target label load)
counted_clear PreInc target label off loads = clear_then (up_clear target label off) loads
counted_clear PreDec target label off loads = clear_then (down_clear target label off) loads
counted_clear PostInc target label off loads = clear_then loads (up_clear target label off)
counted_clear PostDec target label off loads = clear_then loads (down_behind_clear target label off)

-- ---- by so many bytes

front_clear : (op : BinaryOp) (n : ℕ) (target : Target) → IsOffTarget target → Clear (front_code op n target)
front_clear op n (Byte low) off = first_clear op (first n) low off
front_clear op n (Word low high) off =
    let last : Clear (implied Tax ∷ implied Pla ∷ []) = record { all = refl } in
    clear_then (first_clear op (first n) low off.0) (clear_then pha_clear (clear_then (next_clear op (second n) high off.1) last))

behind_clear : (op : BinaryOp) (n : ℕ) (target : Target) → IsOffTarget target → Clear (behind_code op n target)
behind_clear op n (Byte low) off = clear_then pha_clear (clear_then (carry_clear op) (clear_then (value_clear op (first n)) (clear_then (put_clear low off) pla_clear)))
behind_clear op n (Word low high) off =
    let over : Clear (implied Txa ∷ []) = record { all = refl } in
    clear_then pha_clear (clear_then (carry_clear op) (clear_then (value_clear op (first n)) (clear_then (put_clear low off.0) (clear_then over (clear_then (value_clear op (second n)) (clear_then (put_clear high off.1) pla_clear))))))

summed_clear : (how : StepKind) (n : ℕ) (place : Place) (kind : IntType) (target : Target) → IsOffTarget target → Clear (summed_code how n place kind target)
summed_clear how n place kind target off =
    clear_then
    (clear_if (is_post how) (clear_then (bytes_clear place (extent_of kind)) (behind_clear (step_op how) n target off)) (clear_then (point_clear place) (front_clear (step_op how) n target off)))
    (narrow_clear kind)

-- ---- the form

stepped_clear : (how : StepKind) (n : ℕ) (place : Place) (kind : IntType) (target : Target) (label : ℕ) → IsOffTarget target → Clear (stepped_code how n place kind target label)
stepped_clear how n place kind target label off =
    clear_if ((n == 1) && all_counted target) (counted_clear how target label off (load_clear place (Whole kind))) (clear_then (summed_clear how n place kind target off) (label_clear label))

pub step_clear : (how : StepKind) (size n : ℕ) (place : Place) (access : Access) (label : ℕ) → IsOff place → Clear (step_code how size n place access label)
step_clear how size n place access label off = by (target_of place access) (target_off place access off)
  where
    by : (t : Option Target) → OfAny IsOffTarget t → Clear (step_by t how size n place access label)
    by (Some target) there = stepped_clear how size place (type_in access) target label there
    by None there = clear_then (long_step_clear how place access n off) (label_clear label)
