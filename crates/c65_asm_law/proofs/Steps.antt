-- The lines of steps whose value is used are lines that the text can write.
use Rattle.std.proofs.Common.{ℕ, ◌<◌, ◌^◌, ◌==◌, Option, None, Some, List, [], ◌∷◌, arith}
use Rattle.std.specs.Prelude.{◌&&◌}
use Rattle.c65_base.specs.declared.operators.BinaryOp.{BinaryOp}
use Rattle.c65_base.specs.declared.operators.StepKind.{StepKind}
use Rattle.c65_base.specs.declared.operators.StepKind.TheVariants.{PreInc, PreDec, PostInc, PostDec}
use Rattle.c65_ints.specs.declared.types.IntType.{IntType}
use Rattle.c65_mach.specs.declared.rows.Op.TheVariants.{Dec, Pla, Sta}
use Rattle.c65_code.specs.declared.line.Line.{Line}
use Rattle.c65_genload.specs.declared.places.Place.{Place}
use Rattle.c65_genload.specs.declared.places.Access.{Access}
use Rattle.c65_genload.specs.declared.places.Access.TheVariants.{Whole}
use Rattle.c65_genload.specs.Words.{implied}
use Rattle.c65_genload.specs.Places.{extent_of, type_in}
use Rattle.c65_genload.specs.Numbers.{first, second}
use Rattle.c65_genload.specs.Loads.{bytes_code, load_code}
use Rattle.c65_gendirect.specs.Words.{carry_code}
use Rattle.c65_genchange.specs.declared.spots.Target.{Target}
use Rattle.c65_genchange.specs.declared.spots.Target.TheVariants.{Byte, Word}
use Rattle.c65_genchange.specs.Spots.{point_code, reach_code, all_counted, target_of}
use Rattle.c65_genchange.specs.Changes.{up_code, down_code, first_code, next_code}
use Rattle.c65_genchange.specs.Stepping.{is_post, step_op, down_behind_code, counted_code, front_code, behind_code, summed_code, stepped_code}
use Rattle.c65_genexpr.specs.Steps.{step_by, step_code}
use Rattle.c65_gen_law_lines.proofs.EffectFacts.{OfAny}
use Rattle.c65_asm_law.proofs.Well.{AllWell, well_append, well_more, well_if}
use Rattle.c65_asm_law.proofs.Loads.{WellPlace, narrow_well, bytes_well, load_well}
use Rattle.c65_asm_law.proofs.Places.{long_step_well}
use Rattle.c65_asm_law.proofs.Directs.{carry_well, label_one}
use Rattle.c65_asm_law.proofs.Changes.{WellTarget, spot_well, reach_well, up_well, down_well, first_well, next_well, point_well}

pull_well : (n : ℕ) → AllWell n (implied Pla ∷ [])
pull_well n = record { all = ((tt, tt), tt) }

-- ---- by one

down_behind_well : (n : ℕ) (target : Target) (label : ℕ) → WellTarget n target → label < 2 ^ 32 → AllWell n (down_behind_code target label)
down_behind_well n (Byte low) label h few = down_well n (Byte low) label h few
down_behind_well n (Word low high) label h few = well_more n _ _ (tt, tt) (well_more n _ _ (tt, few) (well_append n (reach_code Dec high) _ (reach_well n Dec high h.1) (well_more n _ _ few (reach_well n Dec low h.0))))

counted_well : (n : ℕ) (how : StepKind) (target : Target) (label : ℕ) (loaded : List Line) → WellTarget n target → label < 2 ^ 32 → AllWell n loaded → AllWell n (counted_code how target label loaded)
counted_well n PreInc target label loaded h few w = well_append n (up_code target label) _ (up_well n target label h few) w
counted_well n PreDec target label loaded h few w = well_append n (down_code target label) _ (down_well n target label h few) w
counted_well n PostInc target label loaded h few w = well_append n loaded _ w (up_well n target label h few)
counted_well n PostDec target label loaded h few w = well_append n loaded _ w (down_behind_well n target label h few)

-- ---- by so many bytes

front_well : (n : ℕ) (op : BinaryOp) (m : ℕ) (target : Target) → WellTarget n target → AllWell n (front_code op m target)
front_well n op m (Byte low) h = first_well n op (first m) low h (omega arith)
front_well n op m (Word low high) h =
    well_append n (first_code op (first m) low) _ (first_well n op (first m) low h.0 (omega arith)) (well_more n _ _ (tt, tt) (well_append n (next_code op (second m) high) _ (next_well n op (second m) high h.1 (omega arith)) (well_more n _ _ (tt, tt) (pull_well n))))

behind_well : (n : ℕ) (op : BinaryOp) (m : ℕ) (target : Target) → WellTarget n target → AllWell n (behind_code op m target)
behind_well n op m (Byte low) h =
    well_more n _ _ (tt, tt) (well_append n (carry_code op) _ (carry_well n op) (well_more n _ _ (tt, omega arith) (well_append n (reach_code Sta low) _ (reach_well n Sta low h) (pull_well n))))
behind_well n op m (Word low high) h =
    well_more n _ _ (tt, tt) (well_append n (carry_code op) _ (carry_well n op) (well_more n _ _ (tt, omega arith) (well_append n (reach_code Sta low) _ (reach_well n Sta low h.0)
    (well_more n _ _ (tt, tt) (well_more n _ _ (tt, omega arith) (well_append n (reach_code Sta high) _ (reach_well n Sta high h.1) (pull_well n)))))))

summed_well : (n : ℕ) (how : StepKind) (m : ℕ) (place : Place) (kind : IntType) (target : Target) → WellPlace n place → WellTarget n target → AllWell n (summed_code how m place kind target)
summed_well n how m place kind target p h =
    well_append n _ _ (well_if n (is_post how) _ _ (well_append n (bytes_code place (extent_of kind)) _ (bytes_well n place (extent_of kind) p) (behind_well n (step_op how) m target h)) (well_append n (point_code place) _ (point_well n place) (front_well n (step_op how) m target h))) (narrow_well n kind)

-- ---- the form

stepped_well : (n : ℕ) (how : StepKind) (m : ℕ) (place : Place) (kind : IntType) (target : Target) (label : ℕ) → WellPlace n place → WellTarget n target → label < 2 ^ 32 → AllWell n (stepped_code how m place kind target label)
stepped_well n how m place kind target label p h few =
    well_if n ((m == 1) && all_counted target) _ _ (counted_well n how target label (load_code place (Whole kind)) h few (load_well n place (Whole kind) p)) (well_append n (summed_code how m place kind target) _ (summed_well n how m place kind target p h) (label_one n label few))

pub step_well : (n : ℕ) (how : StepKind) (size m : ℕ) (place : Place) (access : Access) (label : ℕ) → WellPlace n place → label < 2 ^ 32 → AllWell n (step_code how size m place access label)
step_well n how size m place access label p few = by (target_of place access) (spot_well n place access p)
  where
    by : (t : Option Target) → OfAny (WellTarget n) t → AllWell n (step_by t how size m place access label)
    by (Some target) h = stepped_well n how size place (type_in access) target label p h few
    by None h = well_append n _ _ (long_step_well n how place access m p) (label_one n label few)
