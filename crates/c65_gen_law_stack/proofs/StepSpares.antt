-- The lines of steps that are light leave ptr2.
use Rattle.std.proofs.Common.{◌≡◌, ℕ, ◌+◌, ◌%◌, ◌<◌, ◌≤◌, ◌==◌, ◌&&◌, ◌||◌, Bool, true, false, not, List, [], ◌∷◌, refl, arith}
use Rattle.std.specs.Prelude.{nat_lt, nat_le}
use Rattle.std.proofs.lemmas.Bool.{and_parts, ltb-true, le-leb}
use Rattle.c65_base.specs.declared.operators.BinaryOp.{BinaryOp}
use Rattle.c65_base.specs.declared.operators.StepKind.{StepKind}
use Rattle.c65_base.specs.declared.operators.StepKind.TheVariants.{PreInc, PreDec, PostInc, PostDec}
use Rattle.c65_ints.specs.declared.types.IntType.{IntType}
use Rattle.c65_mach.specs.declared.rows.Op.{Op}
use Rattle.c65_mach.specs.declared.rows.Op.TheVariants.{Bne, Dec, Inc, Lda, Ldy, Pha, Pla, Sta, Tax, Tay, Txa}
use Rattle.c65_mach.specs.declared.rows.Mode.{Mode}
use Rattle.c65_mach.specs.declared.rows.Mode.TheVariants.{Absolute, Immediate, IndirectY, ZeroPage}
use Rattle.c65_mach.specs.Step.{kind_of}
use Rattle.c65_code.specs.declared.line.Operand.{Operand}
use Rattle.c65_code.specs.declared.line.Operand.TheVariants as operand
use Rattle.c65_code.specs.declared.line.Line.{Line}
use Rattle.c65_code.specs.declared.line.Line.TheVariants.{Do}
use Rattle.c65_code.specs.Access.{is_written}
use Rattle.c65_genwide.specs.Lines.{value}
use Rattle.c65_genload.specs.declared.places.Extent.{Extent}
use Rattle.c65_genload.specs.declared.places.Extent.TheVariants.{One, Two, Three, Four}
use Rattle.c65_genload.specs.declared.places.Place.{Place}
use Rattle.c65_genload.specs.declared.places.Place.TheVariants as places
use Rattle.c65_genload.specs.declared.places.Access.{Access}
use Rattle.c65_genload.specs.declared.places.Access.TheVariants.{Whole, Part}
use Rattle.c65_genload.specs.Words.{implied, branch}
use Rattle.c65_genload.specs.Places.{extent_of}
use Rattle.c65_genload.specs.Numbers.{first, second}
use Rattle.c65_genload.specs.Loads.{bytes_code}
use Rattle.c65_gendirect.specs.Words.{instruction}
use Rattle.c65_genchange.specs.declared.spots.Spot.{Spot}
use Rattle.c65_genchange.specs.declared.spots.Spot.TheVariants.{Behind, Data, Zero}
use Rattle.c65_genchange.specs.declared.spots.Target.{Target}
use Rattle.c65_genchange.specs.declared.spots.Target.TheVariants.{Byte, Word}
use Rattle.c65_genchange.specs.Spots.{spot_at, point_code, target_by, reach_code, again_code, all_counted}
use Rattle.c65_genchange.specs.Changes.{up_code, down_code, byte_code, first_code, next_code}
use Rattle.c65_genchange.specs.Stepping.{is_post, step_op, down_behind_code, counted_code, front_code, behind_code, summed_code, stepped_code}
use Rattle.c65_genexpr.specs.Operating.{is_signed_char, is_light_extent, is_light_target, is_light_step}
use Rattle.c65_genexpr.specs.Steps.{step_by, step_code}
use Rattle.c65_gen_law_stack.specs.Light.{is_apart, lies_beside}
use Rattle.c65_gen_law_stack.proofs.LightPieces.{Spares, spares_then, spares_if, spares_none, spares_label, narrow_spares, few_spares, carry_spares, reader_spares, instruction_reads}

-- ---- bytes that are none of ptr2

abbrev IsApart : Spot → Type 0
IsApart (Zero at) = is_apart at ≡ true
IsApart _ = Unit {0}

abbrev AreApart : Target → Type 0
AreApart (Byte low) = IsApart low
AreApart (Word low high) = IsApart low × IsApart high

behind_ptr2 : (i : ℕ) → 12 ≤ i → is_apart i ≡ true
behind_ptr2 i h = by (nat_lt i 10) (le-leb 12 i h)
  where
    by : (b : Bool) → nat_le 12 i ≡ true → (b || nat_le 12 i) ≡ true
    by true e = refl
    by false e = e

spot_apart : (place : Place) (base : Bool) (i : ℕ) → i ≤ 1 → is_light_target place base ≡ true → IsApart (spot_at place i)
spot_apart (places.Far at) base i few h = tt
spot_apart (places.Bank at) base i few h =
    let low : at < 6 = ltb-true at 6 h in
    let byte : (20 + at) % 256 ≡ 20 + at = omega (arith, low) in
    behind_ptr2 (((20 + at) % 256 + i) % 256) (omega (arith, low, few, byte))
spot_apart (places.Near at) base i few h = tt
spot_apart (places.Data s at) base i few h = tt

-- what an instruction may write lies beside
doing_spares : (op : Op) (mode : Mode) (o : Operand) → lies_beside mode o ≡ true → Spares (Do op mode o ∷ [])
doing_spares op mode o h = record { all = by (is_written (kind_of op)) (lies_beside mode o) h }
  where
    by : (w b : Bool) → b ≡ true → ((not w || b) && true) ≡ true
    by true true e = refl
    by false b e = refl
    by true false e = absurd cc

reach_spares : (op : Op) (spot : Spot) → IsApart spot → Spares (reach_code op spot)
reach_spares op (Behind pointer at) h = let one : Spares (value Ldy at ∷ []) = record { all = refl } in spares_then one (doing_spares op IndirectY (operand.Zero pointer) refl)
reach_spares op (Data s at) h = doing_spares op Absolute (operand.At s at) refl
reach_spares op (Zero at) h = doing_spares op ZeroPage (operand.Zero at) h

again_spares : (op : Op) (spot : Spot) → IsApart spot → Spares (again_code op spot)
again_spares op (Behind pointer at) h = doing_spares op IndirectY (operand.Zero pointer) refl
again_spares op (Data s at) h = doing_spares op Absolute (operand.At s at) refl
again_spares op (Zero at) h = doing_spares op ZeroPage (operand.Zero at) h

value_spares : (op : BinaryOp) (n : ℕ) → Spares (value (instruction op) n ∷ [])
value_spares op n = reader_spares (instruction op) Immediate (operand.Byte n) (instruction_reads op)

-- ---- by one

up_spares : (target : Target) (label : ℕ) → AreApart target → Spares (up_code target label)
up_spares (Byte low) label h = spares_then (reach_spares Inc low h) (spares_label label)
up_spares (Word low high) label h =
    let way : Spares (branch Bne label ∷ []) = record { all = refl } in
    spares_then (reach_spares Inc low h.0) (spares_then way (spares_then (reach_spares Inc high h.1) (spares_label label)))

down_spares : (target : Target) (label : ℕ) → AreApart target → Spares (down_code target label)
down_spares (Byte low) label h = spares_then (reach_spares Dec low h) (spares_label label)
down_spares (Word low high) label h =
    let way : Spares (branch Bne label ∷ []) = record { all = refl } in
    spares_then (reach_spares Lda low h.0) (spares_then way (spares_then (reach_spares Dec high h.1) (spares_then (spares_label label) (reach_spares Dec low h.0))))

down_behind_spares : (target : Target) (label : ℕ) → AreApart target → Spares (down_behind_code target label)
down_behind_spares (Byte low) label h = down_spares (Byte low) label h
down_behind_spares (Word low high) label h =
    let way : Spares (implied Tay ∷ branch Bne label ∷ []) = record { all = refl } in
    spares_then way (spares_then (reach_spares Dec high h.1) (spares_then (spares_label label) (reach_spares Dec low h.0)))

counted_spares : {load : List Line} (how : StepKind) (target : Target) (label : ℕ) → AreApart target → Spares load → Spares (counted_code how target label load)
counted_spares PreInc target label h loads = spares_then (up_spares target label h) loads
counted_spares PreDec target label h loads = spares_then (down_spares target label h) loads
counted_spares PostInc target label h loads = spares_then loads (up_spares target label h)
counted_spares PostDec target label h loads = spares_then loads (down_behind_spares target label h)

-- ---- by so many bytes

byte_spares : (op : BinaryOp) (n : ℕ) (spot : Spot) → IsApart spot → Spares (byte_code op n spot)
byte_spares op n spot h = spares_then (value_spares op n) (again_spares Sta spot h)

first_spares : (op : BinaryOp) (n : ℕ) (spot : Spot) → IsApart spot → Spares (first_code op n spot)
first_spares op n spot h = spares_then (reach_spares Lda spot h) (spares_then (carry_spares op) (byte_spares op n spot h))

next_spares : (op : BinaryOp) (n : ℕ) (spot : Spot) → IsApart spot → Spares (next_code op n spot)
next_spares op n spot h = spares_then (reach_spares Lda spot h) (byte_spares op n spot h)

pha_spares : Spares (implied Pha ∷ [])
pha_spares = record { all = refl }

pla_spares : Spares (implied Pla ∷ [])
pla_spares = record { all = refl }

front_spares : (op : BinaryOp) (n : ℕ) (target : Target) → AreApart target → Spares (front_code op n target)
front_spares op n (Byte low) h = first_spares op (first n) low h
front_spares op n (Word low high) h =
    let last : Spares (implied Tax ∷ implied Pla ∷ []) = record { all = refl } in
    spares_then (first_spares op (first n) low h.0) (spares_then pha_spares (spares_then (next_spares op (second n) high h.1) last))

behind_spares : (op : BinaryOp) (n : ℕ) (target : Target) → AreApart target → Spares (behind_code op n target)
behind_spares op n (Byte low) h = spares_then pha_spares (spares_then (carry_spares op) (spares_then (value_spares op (first n)) (spares_then (reach_spares Sta low h) pla_spares)))
behind_spares op n (Word low high) h =
    let over : Spares (implied Txa ∷ []) = record { all = refl } in
    spares_then pha_spares (spares_then (carry_spares op) (spares_then (value_spares op (first n)) (spares_then (reach_spares Sta low h.0)
    (spares_then over (spares_then (value_spares op (second n)) (spares_then (reach_spares Sta high h.1) pla_spares))))))

point_spares : (place : Place) → Spares (point_code place)
point_spares (places.Far at) = record { all = refl }
point_spares (places.Bank b) = spares_none
point_spares (places.Near at) = spares_none
point_spares (places.Data s at) = spares_none

summed_spares : (how : StepKind) (n : ℕ) (place : Place) (kind : IntType) (target : Target) → AreApart target → not (is_signed_char kind) ≡ true → Spares (bytes_code place (extent_of kind)) → Spares (summed_code how n place kind target)
summed_spares how n place kind target h k bytes =
    spares_then (spares_if (is_post how) (spares_then bytes (behind_spares (step_op how) n target h)) (spares_then (point_spares place) (front_spares (step_op how) n target h))) (narrow_spares kind k)

-- ---- the form

stepped_spares : (how : StepKind) (n : ℕ) (place : Place) (kind : IntType) (target : Target) (label : ℕ) → AreApart target → not (is_signed_char kind) ≡ true → Spares (bytes_code place (extent_of kind)) → Spares (stepped_code how n place kind target label)
stepped_spares how n place kind target label h k bytes =
    spares_if ((n == 1) && all_counted target) (counted_spares how target label h (spares_then bytes (narrow_spares kind k))) (spares_then (summed_spares how n place kind target h k bytes) (spares_label label))

pub step_spares : (how : StepKind) (size n : ℕ) (place : Place) (access : Access) (label : ℕ) (base : Bool) → is_light_step place access base ≡ true → Spares (step_code how size n place access label)
step_spares how size n place (Part field) label base h = absurd cc
step_spares how size n place (Whole kind) label base h =
    let outer = and_parts (is_light_extent (extent_of kind)) (not (is_signed_char kind) && is_light_target place base) h in
    let inner = and_parts (not (is_signed_char kind)) (is_light_target place base) outer.1 in
    by (extent_of kind) outer.0 inner.0 inner.1 (few_spares place (extent_of kind) outer.0)
  where
    by : (extent : Extent) → is_light_extent extent ≡ true → not (is_signed_char kind) ≡ true → is_light_target place base ≡ true → Spares (bytes_code place (extent_of kind)) → Spares (step_by (target_by place extent) how size n place (Whole kind) label)
    by One h k light bytes = stepped_spares how size place kind (Byte (spot_at place 0)) label (spot_apart place base 0 (omega arith) light) k bytes
    by Two h k light bytes = stepped_spares how size place kind (Word (spot_at place 0) (spot_at place 1)) label (spot_apart place base 0 (omega arith) light, spot_apart place base 1 (omega arith) light) k bytes
    by Three h k light bytes = absurd cc
    by Four h k light bytes = absurd cc
