-- Steps whose value is used: their labels, their size, and that they leave what waits.
use Rattle.std.proofs.Common.{◌≡◌, ℕ, ◌≤◌, ◌==◌, Bool, true, false, Option, None, Some, [], ◌∷◌, ◌++◌, refl, arith}
use Rattle.std.specs.Prelude.{◌&&◌, if◌then◌else◌}
use Rattle.std.proofs.lemmas.Bool.{and_from, and_parts}
use Rattle.c65_base.specs.declared.operators.BinaryOp.{BinaryOp}
use Rattle.c65_base.specs.declared.operators.StepKind.{StepKind}
use Rattle.c65_base.specs.declared.operators.StepKind.TheVariants.{PreInc, PreDec, PostInc, PostDec}
use Rattle.c65_ints.specs.declared.types.IntType.{IntType}
use Rattle.c65_mach.specs.declared.rows.Op.{Op}
use Rattle.c65_mach.specs.declared.rows.Op.TheVariants.{Bne, Pha, Pla, Sta, Tax, Tay, Txa}
use Rattle.c65_code.specs.declared.line.Line.TheVariants.{Label}
use Rattle.c65_genload.specs.declared.places.Place.{Place}
use Rattle.c65_genload.specs.declared.places.Access.{Access}
use Rattle.c65_genload.specs.declared.places.Access.TheVariants.{Whole, Part}
use Rattle.c65_genload.specs.Words.{implied}
use Rattle.c65_genload.specs.Places.{extent_of, type_in}
use Rattle.c65_genload.specs.Numbers.{first, second}
use Rattle.c65_genload.specs.Loads.{load_code}
use Rattle.c65_genchange.specs.declared.spots.Spot.{Spot}
use Rattle.c65_genchange.specs.declared.spots.Target.{Target}
use Rattle.c65_genchange.specs.declared.spots.Target.TheVariants.{Byte, Word}
use Rattle.c65_genchange.specs.Spots.{is_counted, all_counted, target_of, reach_code}
use Rattle.c65_genchange.specs.Stepping.{is_post, step_op, down_behind_code, counted_code, front_code, behind_code, summed_code, stepped_code}
use Rattle.c65_genexpr.specs.Steps.{step_by, step_code}
use Rattle.c65_gen_law_lines.proofs.Made.{is_early, nowhere, once_at}
use Rattle.c65_gen_law_lines.proofs.Quiet.{Quiet, quiet_then, quiet_piece, quiet_label, quiet_branch, quiet_wider, quiet_as, quiet_if}
use Rattle.c65_gen_law_lines.proofs.Pieces.{narrow_piece, part_piece, by_access, load_piece, long_step_piece}
use Rattle.c65_gen_law_lines.proofs.StackPieces.{narrow_still, bytes_still, load_still, long_step_still}
use Rattle.c65_gen_law_lines.proofs.Directs.{carry_quiet}
use Rattle.c65_gen_law_lines.proofs.EffectForms.{reaches_sta, reach_quiet, down_quiet_at, up_quiet, down_quiet, constant_quiet, first_quiet, next_quiet, point_quiet}

implied_quiet : {ok : ℕ → Bool} (op : Op) → is_early (implied op) ≡ true → Quiet ok nowhere 1 (implied op ∷ [])
implied_quiet op fit = quiet_piece (record { plain = refl; fit = and_from (is_early (implied op)) true fit refl; size = omega arith }) (λ v. record { to = λ calls. refl })

-- ---- by one

down_behind_quiet : {ok : ℕ → Bool} (target : Target) (label : ℕ) → ok label ≡ true → all_counted target ≡ true → Quiet ok (once_at label) 17 (down_behind_code target label)
down_behind_quiet (Byte low) label passes h = down_quiet (Byte low) label passes h
down_behind_quiet (Word low high) label passes h =
    let both = and_parts (is_counted low) (is_counted high) h in
    quiet_wider (quiet_as (λ l. omega arith) (quiet_then (implied_quiet Tay refl) (quiet_then (quiet_branch Bne label refl passes) (quiet_then (down_quiet_at high both.1) (quiet_then (quiet_label label) (down_quiet_at low both.0)))))) (omega arith)

number_quiet : {ok : ℕ → Bool} (place : Place) (kind : IntType) → Quiet ok nowhere 19 (load_code place (Whole kind))
number_quiet place kind = quiet_piece (load_piece place (Whole kind)) (load_still place (Whole kind))

counted_quiet : {ok : ℕ → Bool} (how : StepKind) (place : Place) (kind : IntType) (target : Target) (label : ℕ) → ok label ≡ true → all_counted target ≡ true
    → Quiet ok (once_at label) 45 (counted_code how target label (load_code place (Whole kind)))
counted_quiet PreInc place kind target label passes h = quiet_wider (quiet_as (λ l. omega arith) (quiet_then (up_quiet target label passes h) (number_quiet place kind))) (omega arith)
counted_quiet PreDec place kind target label passes h = quiet_wider (quiet_as (λ l. omega arith) (quiet_then (down_quiet target label passes h) (number_quiet place kind))) (omega arith)
counted_quiet PostInc place kind target label passes h = quiet_wider (quiet_as (λ l. omega arith) (quiet_then (number_quiet place kind) (up_quiet target label passes h))) (omega arith)
counted_quiet PostDec place kind target label passes h = quiet_wider (quiet_as (λ l. omega arith) (quiet_then (number_quiet place kind) (down_behind_quiet target label passes h))) (omega arith)

-- ---- by so many bytes

front_quiet : {ok : ℕ → Bool} (op : BinaryOp) (n : ℕ) (target : Target) → Quiet ok nowhere 22 (front_code op n target)
front_quiet op n (Byte low) = quiet_wider (first_quiet op (first n) low) (omega arith)
front_quiet op n (Word low high) =
    quiet_as (λ l. refl) (quiet_then (first_quiet op (first n) low) (quiet_then (implied_quiet Pha refl) (quiet_then (next_quiet op (second n) high) (quiet_then (implied_quiet Tax refl) (implied_quiet Pla refl)))))

store_quiet : {ok : ℕ → Bool} (spot : Spot) → Quiet ok nowhere 4 (reach_code Sta spot)
store_quiet spot = reach_quiet Sta spot reaches_sta

behind_quiet : {ok : ℕ → Bool} (op : BinaryOp) (n : ℕ) (target : Target) → Quiet ok nowhere 16 (behind_code op n target)
behind_quiet op n (Byte low) =
    quiet_wider (quiet_as (λ l. refl) (quiet_then (implied_quiet Pha refl) (quiet_then (carry_quiet op) (quiet_then (constant_quiet op (first n)) (quiet_then (store_quiet low) (implied_quiet Pla refl)))))) (omega arith)
behind_quiet op n (Word low high) =
    quiet_as (λ l. refl) (quiet_then (implied_quiet Pha refl) (quiet_then (carry_quiet op) (quiet_then (constant_quiet op (first n)) (quiet_then (store_quiet low)
    (quiet_then (implied_quiet Txa refl) (quiet_then (constant_quiet op (second n)) (quiet_then (store_quiet high) (implied_quiet Pla refl))))))))

summed_quiet : {ok : ℕ → Bool} (how : StepKind) (n : ℕ) (place : Place) (kind : IntType) (target : Target) → Quiet ok nowhere 45 (summed_code how n place kind target)
summed_quiet how n place kind target =
    quiet_wider (quiet_as (λ l. refl) (quiet_then
    (quiet_if (is_post how) (quiet_as (λ l. refl) (quiet_then (quiet_piece (part_piece place (extent_of kind)) (bytes_still place (extent_of kind))) (behind_quiet (step_op how) n target))) (quiet_wider (quiet_as (λ l. refl) (quiet_then (point_quiet place) (front_quiet (step_op how) n target))) (omega arith)))
    (quiet_piece (narrow_piece kind) (narrow_still kind)))) (omega arith)

-- ---- the form

stepped_quiet : {ok : ℕ → Bool} (how : StepKind) (n : ℕ) (place : Place) (kind : IntType) (target : Target) (label : ℕ) → ok label ≡ true → Quiet ok (once_at label) 45 (stepped_code how n place kind target label)
stepped_quiet {ok = ok} how n place kind target label passes = by (all_counted target) refl (n == 1)
  where
    by : (b : Bool) → all_counted target ≡ b → (c : Bool) → Quiet ok (once_at label) 45 (if c && b then counted_code how target label (load_code place (Whole kind)) else summed_code how n place kind target ++ (Label label ∷ []))
    by true h true = counted_quiet how place kind target label passes h
    by false h true = quiet_as (λ l. omega arith) (quiet_then (summed_quiet how n place kind target) (quiet_label label))
    by b h false = quiet_as (λ l. omega arith) (quiet_then (summed_quiet how n place kind target) (quiet_label label))

stepped_fits : (access : Access) → 45 ≤ by_access 92 196 access
stepped_fits (Whole kind) = omega arith
stepped_fits (Part field) = omega arith

pub step_quiet : {ok : ℕ → Bool} (how : StepKind) (size n : ℕ) (place : Place) (access : Access) (label : ℕ) → ok label ≡ true → Quiet ok (once_at label) (by_access 92 196 access) (step_code how size n place access label)
step_quiet {ok = ok} how size n place access label passes = by (target_of place access)
  where
    by : (t : Option Target) → Quiet ok (once_at label) (by_access 92 196 access) (step_by t how size n place access label)
    by (Some target) = quiet_wider (stepped_quiet how size place (type_in access) target label passes) (stepped_fits access)
    by None = quiet_wider (quiet_as (λ l. omega arith) (quiet_then (quiet_piece (long_step_piece how place access n) (long_step_still how place access n)) (quiet_label label))) (omega arith)
