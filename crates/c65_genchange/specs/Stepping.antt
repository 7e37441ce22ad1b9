-- `++` and `--` whose value is used (C90 6.3.2.4, 6.3.3.1), of numbers that are changed where they lie. The value is in AX, as
-- before the step or as behind it. The label is placed once in each form.
use Rattle.std.specs.Prelude.{ℕ, ◌==◌, ◌&&◌, Bool, true, false, if◌then◌else◌, List, [], ◌∷◌, ◌++◌}
use Rattle.c65_base.specs.declared.operators.BinaryOp.{BinaryOp}
use Rattle.c65_base.specs.declared.operators.BinaryOp.TheVariants.{Add, Sub}
use Rattle.c65_base.specs.declared.operators.StepKind.{StepKind}
use Rattle.c65_base.specs.declared.operators.StepKind.TheVariants.{PreInc, PreDec, PostInc, PostDec}
use Rattle.c65_ints.specs.declared.types.IntType.{IntType}
use Rattle.c65_mach.specs.declared.rows.Op.TheVariants.{Bne, Dec, Pha, Pla, Sta, Tax, Tay, Txa}
use Rattle.c65_code.specs.declared.line.Line.{Line}
use Rattle.c65_code.specs.declared.line.Line.TheVariants.{Label}
use Rattle.c65_genwide.specs.Lines.{value}
use Rattle.c65_genwide.specs.Wide.{narrow_code}
use Rattle.c65_genload.specs.declared.places.Place.{Place}
use Rattle.c65_genload.specs.declared.places.Access.TheVariants.{Whole}
use Rattle.c65_genload.specs.Words.{implied, branch}
use Rattle.c65_genload.specs.Places.{extent_of}
use Rattle.c65_genload.specs.Numbers.{first, second}
use Rattle.c65_genload.specs.Loads.{bytes_code, load_code}
use Rattle.c65_gendirect.specs.Words.{instruction, carry_code}
use Rattle.c65_genchange.specs.declared.spots.Target.{Target}
use Rattle.c65_genchange.specs.declared.spots.Target.TheVariants.{Byte, Word}
use Rattle.c65_genchange.specs.Spots.{point_code, reach_code, all_counted}
use Rattle.c65_genchange.specs.Changes.{up_code, down_code, first_code, next_code}

abbrev pub is_post : StepKind → Bool
is_post PreInc = false
is_post PreDec = false
is_post PostInc = true
is_post PostDec = true

abbrev pub step_op : StepKind → BinaryOp
step_op PreInc = Add
step_op PreDec = Sub
step_op PostInc = Add
step_op PostDec = Sub

-- ---- by one, where instructions count

-- one less than what is in AX: the high byte goes down where the low one is 0
abbrev pub down_behind_code : Target → ℕ → List Line
down_behind_code (Byte low) label = down_code (Byte low) label
down_behind_code (Word low high) label = implied Tay ∷ branch Bne label ∷ (reach_code Dec high ++ (Label label ∷ reach_code Dec low))

-- from the lines that load the number
abbrev pub counted_code : StepKind → Target → ℕ → List Line → List Line
counted_code PreInc target label load = up_code target label ++ load
counted_code PreDec target label load = down_code target label ++ load
counted_code PostInc target label load = load ++ up_code target label
counted_code PostDec target label load = load ++ down_behind_code target label

-- ---- by so many bytes

-- the value behind the step comes to AX, and of a byte to A
abbrev pub front_code : BinaryOp → ℕ → Target → List Line
front_code op n (Byte low) = first_code op (first n) low
front_code op n (Word low high) = first_code op (first n) low ++ (implied Pha ∷ (next_code op (second n) high ++ (implied Tax ∷ implied Pla ∷ [])))

-- from the value before it, which is there and stays
abbrev pub behind_code : BinaryOp → ℕ → Target → List Line
behind_code op n (Byte low) = implied Pha ∷ (carry_code op ++ (value (instruction op) (first n) ∷ (reach_code Sta low ++ (implied Pla ∷ []))))
behind_code op n (Word low high) =
    implied Pha ∷ (carry_code op ++ (value (instruction op) (first n) ∷ (reach_code Sta low ++ (implied Txa ∷ value (instruction op) (second n) ∷ (reach_code Sta high ++ (implied Pla ∷ []))))))

-- the address of a place that is anywhere goes from AX to ptr1
abbrev pub summed_code : StepKind → ℕ → Place → IntType → Target → List Line
summed_code how n place kind target =
    (if is_post how then bytes_code place (extent_of kind) ++ behind_code (step_op how) n target else point_code place ++ front_code (step_op how) n target) ++ narrow_code kind

-- ---- the form

-- behind the base of a place, at which a number of this type lies
abbrev pub stepped_code : StepKind → ℕ → Place → IntType → Target → ℕ → List Line
stepped_code how n place kind target label =
    if (n == 1) && all_counted target then counted_code how target label (load_code place (Whole kind))
    else summed_code how n place kind target ++ (Label label ∷ [])
