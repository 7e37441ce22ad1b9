-- The symbols of lines that change numbers where they lie.
use Rattle.std.proofs.Common.{ℕ, ◌==◌}
use Rattle.c65_base.specs.declared.operators.BinaryOp.{BinaryOp}
use Rattle.c65_base.specs.declared.operators.BinaryOp.TheVariants as ops
use Rattle.c65_mach.specs.declared.rows.Op.{Op}
use Rattle.c65_mach.specs.declared.rows.Op.TheVariants.{Adc, Dec, Inc, Lda, Sta}
use Rattle.c65_genload.specs.declared.places.Extent.{Extent}
use Rattle.c65_genload.specs.declared.places.Extent.TheVariants.{One, Two, Three, Four}
use Rattle.c65_genload.specs.declared.places.Place.{Place}
use Rattle.c65_genload.specs.declared.places.Place.TheVariants as places
use Rattle.c65_genload.specs.declared.places.Access.{Access}
use Rattle.c65_genload.specs.declared.places.Access.TheVariants.{Whole, Part}
use Rattle.c65_genload.specs.Places.{extent_of}
use Rattle.c65_genload.specs.Words.{tmp1, tmp2}
use Rattle.c65_genload.specs.Numbers.{first, second}
use Rattle.c65_gendirect.specs.Words.{instruction}
use Rattle.c65_genchange.specs.declared.spots.Spot.{Spot}
use Rattle.c65_genchange.specs.declared.spots.Spot.TheVariants.{Behind, Data, Zero}
use Rattle.c65_genchange.specs.declared.spots.Target.{Target}
use Rattle.c65_genchange.specs.declared.spots.Target.TheVariants.{Byte, Word}
use Rattle.c65_genchange.specs.declared.changes.Change.{Change}
use Rattle.c65_genchange.specs.declared.changes.Change.TheVariants.{Up, Down, Number, Operand}
use Rattle.c65_genchange.specs.Spots.{point_code, target_by, target_of, reach_code, again_code, is_next, beside_code}
use Rattle.c65_genchange.specs.Changes.{up_code, down_code, byte_code, first_code, next_code, is_neutral, skip_code, low_code, high_code, is_one, carried_code, number_code, aside_code, taken_code, less_code, joined_code, more_code, operand_code, change_code, fill_code}
use Rattle.c65_gen_law_lines.proofs.EffectFacts.{target_in, OfAny}
use Rattle.c65_gen_law_names.proofs.Known.{AllKnown, known_if, known_more, known_none, known_then}
use Rattle.c65_gen_law_names.proofs.Loads.{KnownPlace}
use Rattle.c65_gen_law_names.proofs.Directs.{carry_known, label_one}

-- ---- bytes

abbrev pub KnownSpot : (ℕ → Type 0) → Spot → Type 0
KnownSpot P (Behind pointer at) = Unit {0}
KnownSpot P (Data sym at) = P sym.0
KnownSpot P (Zero at) = Unit {0}

abbrev pub KnownTarget : (ℕ → Type 0) → Target → Type 0
KnownTarget P (Byte low) = KnownSpot P low
KnownTarget P (Word low high) = KnownSpot P low × KnownSpot P high

extent_known : (P : ℕ → Type 0) (place : Place) (extent : Extent) → KnownPlace P place → OfAny (KnownTarget P) (target_by place extent)
extent_known P (places.Bank b) One h = tt
extent_known P (places.Bank b) Two h = (tt, tt)
extent_known P (places.Near at) One h = tt
extent_known P (places.Near at) Two h = (tt, tt)
extent_known P (places.Data s at) One h = h
extent_known P (places.Data s at) Two h = (h, h)
extent_known P (places.Far at) One h = tt
extent_known P (places.Far at) Two h = (tt, tt)
extent_known P place Three h = tt
extent_known P place Four h = tt

pub spot_known : (P : ℕ → Type 0) (place : Place) (access : Access) → KnownPlace P place → OfAny (KnownTarget P) (target_of place access)
spot_known P place (Whole kind) h = extent_known P place (extent_of kind) h
spot_known P place (Part field) h = tt

pub reach_known : (P : ℕ → Type 0) (op : Op) (spot : Spot) → KnownSpot P spot → AllKnown P (reach_code op spot)
reach_known P op (Behind pointer at) h = record { all = tt }
reach_known P op (Data sym at) h = record { all = (h, tt) }
reach_known P op (Zero at) h = record { all = tt }

pub again_known : (P : ℕ → Type 0) (op : Op) (spot : Spot) → KnownSpot P spot → AllKnown P (again_code op spot)
again_known P op (Behind pointer at) h = record { all = tt }
again_known P op (Data sym at) h = record { all = (h, tt) }
again_known P op (Zero at) h = record { all = tt }

beside_known : (P : ℕ → Type 0) (op : Op) (low high : Spot) → KnownSpot P high → AllKnown P (beside_code op low high)
beside_known P op low high h = known_if (is_next low high) (known_more tt (again_known P op high h)) (reach_known P op high h)

-- ---- forms

pub up_known : (P : ℕ → Type 0) (target : Target) (label : ℕ) → KnownTarget P target → AllKnown P (up_code target label)
up_known P (Byte low) label h = known_then (reach_known P Inc low h) (label_one P label)
up_known P (Word low high) label h = known_then (reach_known P Inc low h.0) (known_more tt (known_then (reach_known P Inc high h.1) (label_one P label)))

pub down_known : (P : ℕ → Type 0) (target : Target) (label : ℕ) → KnownTarget P target → AllKnown P (down_code target label)
down_known P (Byte low) label h = known_then (reach_known P Dec low h) (label_one P label)
down_known P (Word low high) label h =
    known_then (reach_known P Lda low h.0) (known_more tt (known_then (reach_known P Dec high h.1) (known_more tt (reach_known P Dec low h.0))))

byte_known : (P : ℕ → Type 0) (op : BinaryOp) (m : ℕ) (spot : Spot) → KnownSpot P spot → AllKnown P (byte_code op m spot)
byte_known P op m spot h = known_more tt (again_known P Sta spot h)

pub first_known : (P : ℕ → Type 0) (op : BinaryOp) (m : ℕ) (spot : Spot) → KnownSpot P spot → AllKnown P (first_code op m spot)
first_known P op m spot h = known_then (reach_known P Lda spot h) (known_then (carry_known P op) (byte_known P op m spot h))

pub next_known : (P : ℕ → Type 0) (op : BinaryOp) (m : ℕ) (spot : Spot) → KnownSpot P spot → AllKnown P (next_code op m spot)
next_known P op m spot h = known_then (reach_known P Lda spot h) (byte_known P op m spot h)

low_known : (P : ℕ → Type 0) (op : BinaryOp) (m : ℕ) (spot : Spot) → KnownSpot P spot → AllKnown P (low_code op m spot)
low_known P op m spot h = known_if (is_neutral op m) known_none (first_known P op m spot h)

skip_known : (P : ℕ → Type 0) (op : BinaryOp) (m label : ℕ) → AllKnown P (skip_code op m label)
skip_known P ops.Add m label = known_if (m == 0) (record { all = tt }) known_none
skip_known P ops.Sub m label = known_if (m == 0) (record { all = tt }) known_none
skip_known P _ m label = known_none

high_known : (P : ℕ → Type 0) (op : BinaryOp) (m : ℕ) (spot : Spot) (label : ℕ) → KnownSpot P spot → AllKnown P (high_code op m spot label)
high_known P op m spot label h =
    known_if (is_neutral op m) known_none (known_then (skip_known P op m label) (next_known P op m spot h))

carried_known : (P : ℕ → Type 0) (op : BinaryOp) (low high : Spot) (label : ℕ) → KnownSpot P high → AllKnown P (carried_code op low high label)
carried_known P op low high label h = known_then (skip_known P op 0 label) (known_then (beside_known P Adc low high h) (again_known P Sta high h))

number_known : (P : ℕ → Type 0) (op : BinaryOp) (m : ℕ) (target : Target) (label : ℕ) → KnownTarget P target → AllKnown P (number_code op m target label)
number_known P op m (Byte low) label h = known_then (low_known P op (first m) low h) (label_one P label)
number_known P op m (Word low high) label h =
    known_if (is_one op m) (known_then (first_known P op 1 low h.0) (known_then (carried_known P op low high label h.1) (label_one P label)))
    (known_then (low_known P op (first m) low h.0) (known_then (high_known P op (second m) high label h.1) (label_one P label)))

taken_known : (P : ℕ → Type 0) (at : ℕ) (spot : Spot) → KnownSpot P spot → AllKnown P (taken_code at spot)
taken_known P at spot h = known_more tt (again_known P Sta spot h)

less_known : (P : ℕ → Type 0) (target : Target) → KnownTarget P target → AllKnown P (less_code target)
less_known P (Byte low) h = known_more tt (known_then (reach_known P Lda low h) (known_more tt (taken_known P tmp1 low h)))
less_known P (Word low high) h =
    let kept : AllKnown P aside_code = record { all = tt } in
    known_then {a = aside_code} kept (known_then (reach_known P Lda low h.0) (known_more tt (known_then (taken_known P tmp1 low h.0)
    (known_then (reach_known P Lda high h.1) (taken_known P tmp2 high h.1)))))

joined_known : (P : ℕ → Type 0) (op : BinaryOp) (spot : Spot) → KnownSpot P spot → AllKnown P (joined_code op spot)
joined_known P op spot h = known_then (reach_known P (instruction op) spot h) (again_known P Sta spot h)

more_known : (P : ℕ → Type 0) (op : BinaryOp) (target : Target) → KnownTarget P target → AllKnown P (more_code op target)
more_known P op (Byte low) h = known_then (carry_known P op) (joined_known P op low h)
more_known P op (Word low high) h = known_then (carry_known P op) (known_then (joined_known P op low h.0) (known_more tt (joined_known P op high h.1)))

operand_known : (P : ℕ → Type 0) (op : BinaryOp) (target : Target) → KnownTarget P target → AllKnown P (operand_code op target)
operand_known P ops.Sub target h = less_known P target h
operand_known P op target h = more_known P op target h

pub change_known : (P : ℕ → Type 0) (change : Change) (label : ℕ) → KnownTarget P (target_in change) → AllKnown P (change_code change label)
change_known P (Up target) label h = up_known P target label h
change_known P (Down target) label h = down_known P target label h
change_known P (Number op m target) label h = number_known P op m target label h
change_known P (Operand op target) label h = known_then (operand_known P op target h) (label_one P label)

pub point_known : (P : ℕ → Type 0) (place : Place) → AllKnown P (point_code place)
point_known P (places.Far at) = record { all = tt }
point_known P (places.Bank b) = known_none
point_known P (places.Near at) = known_none
point_known P (places.Data s at) = known_none

pub fill_known : (P : ℕ → Type 0) (m : ℕ) (low high : Spot) → KnownSpot P low → KnownSpot P high → AllKnown P (fill_code m low high)
fill_known P m low high h k = known_more tt (known_then (reach_known P Sta low h) (beside_known P Sta low high k))
