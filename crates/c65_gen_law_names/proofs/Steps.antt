-- The symbols of the lines of steps whose value is used.
use Rattle.std.proofs.Common.{ℕ, ◌==◌, Option, None, Some, List, [], ◌∷◌}
use Rattle.std.specs.Prelude.{◌&&◌}
use Rattle.c65_base.specs.declared.operators.BinaryOp.{BinaryOp}
use Rattle.c65_base.specs.declared.operators.StepKind.{StepKind}
use Rattle.c65_base.specs.declared.operators.StepKind.TheVariants.{PreInc, PreDec, PostInc, PostDec}
use Rattle.c65_ints.specs.declared.types.IntType.{IntType}
use Rattle.c65_mach.specs.declared.rows.Op.TheVariants.{Dec, Pla, Sta}
use Rattle.c65_code.specs.declared.line.Line.{Line}
use Rattle.c65_genload.specs.declared.places.Place.{Place}
use Rattle.c65_genload.specs.declared.places.Access.{Access}
use Rattle.c65_genload.specs.declared.places.Access.TheVariants.{Whole}
use Rattle.c65_genload.specs.Words.{implied}
use Rattle.c65_genload.specs.Places.{extent_of, type_in}
use Rattle.c65_genload.specs.Numbers.{first, second}
use Rattle.c65_genload.specs.Loads.{load_code}
use Rattle.c65_genchange.specs.declared.spots.Target.{Target}
use Rattle.c65_genchange.specs.declared.spots.Target.TheVariants.{Byte, Word}
use Rattle.c65_genchange.specs.Spots.{all_counted, target_of}
use Rattle.c65_genchange.specs.Stepping.{is_post, step_op, down_behind_code, counted_code, front_code, behind_code, summed_code, stepped_code}
use Rattle.c65_genexpr.specs.Steps.{step_by, step_code}
use Rattle.c65_gen_law_lines.proofs.EffectFacts.{OfAny}
use Rattle.c65_gen_law_names.proofs.Known.{AllKnown, known_if, known_more, known_then}
use Rattle.c65_gen_law_names.proofs.Loads.{KnownPlace, bytes_known, load_known, narrow_known}
use Rattle.c65_gen_law_names.proofs.Places.{long_step_known}
use Rattle.c65_gen_law_names.proofs.Directs.{carry_known, label_one}
use Rattle.c65_gen_law_names.proofs.Changes.{KnownTarget, down_known, first_known, next_known, point_known, reach_known, spot_known, up_known}

pull_known : (P : ℕ → Type 0) → AllKnown P (implied Pla ∷ [])
pull_known P = record { all = tt }

-- ---- by one

down_behind_known : (P : ℕ → Type 0) (target : Target) (label : ℕ) → KnownTarget P target → AllKnown P (down_behind_code target label)
down_behind_known P (Byte low) label h = down_known P (Byte low) label h
down_behind_known P (Word low high) label h = known_more tt (known_more tt (known_then (reach_known P Dec high h.1) (known_more tt (reach_known P Dec low h.0))))

counted_known : (P : ℕ → Type 0) (how : StepKind) (target : Target) (label : ℕ) (loaded : List Line) → KnownTarget P target → AllKnown P loaded → AllKnown P (counted_code how target label loaded)
counted_known P PreInc target label loaded h w = known_then (up_known P target label h) w
counted_known P PreDec target label loaded h w = known_then (down_known P target label h) w
counted_known P PostInc target label loaded h w = known_then w (up_known P target label h)
counted_known P PostDec target label loaded h w = known_then w (down_behind_known P target label h)

-- ---- by so many bytes

front_known : (P : ℕ → Type 0) (op : BinaryOp) (m : ℕ) (target : Target) → KnownTarget P target → AllKnown P (front_code op m target)
front_known P op m (Byte low) h = first_known P op (first m) low h
front_known P op m (Word low high) h =
    known_then (first_known P op (first m) low h.0) (known_more tt (known_then (next_known P op (second m) high h.1) (known_more tt (pull_known P))))

behind_known : (P : ℕ → Type 0) (op : BinaryOp) (m : ℕ) (target : Target) → KnownTarget P target → AllKnown P (behind_code op m target)
behind_known P op m (Byte low) h =
    known_more tt (known_then (carry_known P op) (known_more tt (known_then (reach_known P Sta low h) (pull_known P))))
behind_known P op m (Word low high) h =
    known_more tt (known_then (carry_known P op) (known_more tt (known_then (reach_known P Sta low h.0)
    (known_more tt (known_more tt (known_then (reach_known P Sta high h.1) (pull_known P)))))))

summed_known : (P : ℕ → Type 0) (how : StepKind) (m : ℕ) (place : Place) (kind : IntType) (target : Target) → KnownPlace P place → KnownTarget P target → AllKnown P (summed_code how m place kind target)
summed_known P how m place kind target p h =
    known_then (known_if (is_post how) (known_then (bytes_known P place (extent_of kind) p) (behind_known P (step_op how) m target h)) (known_then (point_known P place) (front_known P (step_op how) m target h))) (narrow_known P kind)

-- ---- the form

stepped_known : (P : ℕ → Type 0) (how : StepKind) (m : ℕ) (place : Place) (kind : IntType) (target : Target) (label : ℕ) → KnownPlace P place → KnownTarget P target → AllKnown P (stepped_code how m place kind target label)
stepped_known P how m place kind target label p h =
    known_if ((m == 1) && all_counted target) (counted_known P how target label (load_code place (Whole kind)) h (load_known P place (Whole kind) p)) (known_then (summed_known P how m place kind target p h) (label_one P label))

pub step_known : (P : ℕ → Type 0) (how : StepKind) (size m : ℕ) (place : Place) (access : Access) (label : ℕ) → KnownPlace P place → AllKnown P (step_code how size m place access label)
step_known P how size m place access label p = by (target_of place access) (spot_known P place access p)
  where
    by : (t : Option Target) → OfAny (KnownTarget P) t → AllKnown P (step_by t how size m place access label)
    by (Some target) h = stepped_known P how size place (type_in access) target label p h
    by None h = known_then (long_step_known P how place access m p) (label_one P label)
