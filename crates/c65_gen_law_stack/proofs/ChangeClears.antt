-- Lines that change numbers where they lie write nothing of regbank, where the numbers do not lie there.
use Rattle.std.proofs.Common.{ℕ, ◌==◌, [], ◌∷◌, refl}
use Rattle.c65_base.specs.declared.operators.BinaryOp.{BinaryOp}
use Rattle.c65_base.specs.declared.operators.BinaryOp.TheVariants as ops
use Rattle.c65_mach.specs.declared.rows.Op.TheVariants.{Adc, Bne, Dec, Inc, Iny, Lda, Sbc, Sec, Sta, Txa}
use Rattle.c65_genwide.specs.Lines.{value}
use Rattle.c65_genload.specs.declared.places.Extent.{Extent}
use Rattle.c65_genload.specs.declared.places.Extent.TheVariants.{One, Two, Three, Four}
use Rattle.c65_genload.specs.declared.places.Place.{Place}
use Rattle.c65_genload.specs.declared.places.Place.TheVariants as places
use Rattle.c65_genload.specs.declared.places.Access.{Access}
use Rattle.c65_genload.specs.declared.places.Access.TheVariants.{Whole, Part}
use Rattle.c65_genload.specs.Places.{extent_of}
use Rattle.c65_genload.specs.Words.{tmp1, tmp2, implied, zero_page, branch}
use Rattle.c65_genload.specs.Numbers.{first, second}
use Rattle.c65_gendirect.specs.Words.{instruction, carry_code}
use Rattle.c65_genchange.specs.declared.spots.Spot.{Spot}
use Rattle.c65_genchange.specs.declared.spots.Spot.TheVariants.{Behind, Data, Zero}
use Rattle.c65_genchange.specs.declared.spots.Target.{Target}
use Rattle.c65_genchange.specs.declared.spots.Target.TheVariants.{Byte, Word}
use Rattle.c65_genchange.specs.declared.changes.Change.{Change}
use Rattle.c65_genchange.specs.declared.changes.Change.TheVariants.{Up, Down, Number, Operand}
use Rattle.c65_genchange.specs.Spots.{point_code, target_by, target_of, reach_code, again_code, is_next}
use Rattle.c65_genchange.specs.Changes.{up_code, down_code, byte_code, first_code, next_code, is_neutral, skip_code, low_code, high_code, is_one, carried_code, number_code, aside_code, taken_code, less_code, joined_code, more_code, operand_code, change_code, fill_code}
use Rattle.c65_gen_law_lines.proofs.EffectFacts.{target_in, OfAny}
use Rattle.c65_gen_law_stack.proofs.BankPieces.{Clear, clear_then, clear_if, clear_none, label_clear, IsOff}

-- ---- bytes that are not in regbank

abbrev pub IsOffByte : Spot → Type 0
IsOffByte (Zero at) = ⊥
IsOffByte _ = Unit {0}

abbrev pub IsOffTarget : Target → Type 0
IsOffTarget (Byte low) = IsOffByte low
IsOffTarget (Word low high) = IsOffByte low × IsOffByte high

pub load_clear : (spot : Spot) → IsOffByte spot → Clear (reach_code Lda spot)
load_clear (Behind pointer at) off = record { all = refl }
load_clear (Data sym at) off = record { all = refl }
load_clear (Zero at) off = absurd off

up_clear_at : (spot : Spot) → IsOffByte spot → Clear (reach_code Inc spot)
up_clear_at (Behind pointer at) off = record { all = refl }
up_clear_at (Data sym at) off = record { all = refl }
up_clear_at (Zero at) off = absurd off

pub down_clear_at : (spot : Spot) → IsOffByte spot → Clear (reach_code Dec spot)
down_clear_at (Behind pointer at) off = record { all = refl }
down_clear_at (Data sym at) off = record { all = refl }
down_clear_at (Zero at) off = absurd off

pub store_clear : (spot : Spot) → IsOffByte spot → Clear (again_code Sta spot)
store_clear (Behind pointer at) off = record { all = refl }
store_clear (Data sym at) off = record { all = refl }
store_clear (Zero at) off = absurd off

pub put_clear : (spot : Spot) → IsOffByte spot → Clear (reach_code Sta spot)
put_clear (Behind pointer at) off = record { all = refl }
put_clear (Data sym at) off = record { all = refl }
put_clear (Zero at) off = absurd off

adc_reach : (spot : Spot) → Clear (reach_code Adc spot)
adc_reach (Behind pointer at) = record { all = refl }
adc_reach (Data sym at) = record { all = refl }
adc_reach (Zero at) = record { all = refl }

adc_again : (spot : Spot) → Clear (again_code Adc spot)
adc_again (Behind pointer at) = record { all = refl }
adc_again (Data sym at) = record { all = refl }
adc_again (Zero at) = record { all = refl }

reach_add : (op : BinaryOp) (spot : Spot) → IsOffByte spot → Clear (reach_code (instruction op) spot)
reach_add ops.Add (Behind pointer at) off = record { all = refl }
reach_add ops.Add (Data sym at) off = record { all = refl }
reach_add ops.Sub (Behind pointer at) off = record { all = refl }
reach_add ops.Sub (Data sym at) off = record { all = refl }
reach_add ops.BitAnd (Behind pointer at) off = record { all = refl }
reach_add ops.BitAnd (Data sym at) off = record { all = refl }
reach_add ops.BitXor (Behind pointer at) off = record { all = refl }
reach_add ops.BitXor (Data sym at) off = record { all = refl }
reach_add op (Zero at) off = absurd off
reach_add _ (Behind pointer at) off = record { all = refl }
reach_add _ (Data sym at) off = record { all = refl }

pub carry_clear : (op : BinaryOp) → Clear (carry_code op)
carry_clear ops.Add = record { all = refl }
carry_clear ops.Sub = record { all = refl }
carry_clear _ = clear_none

pub value_clear : (op : BinaryOp) (n : ℕ) → Clear (value (instruction op) n ∷ [])
value_clear ops.Add n = record { all = refl }
value_clear ops.Sub n = record { all = refl }
value_clear ops.BitAnd n = record { all = refl }
value_clear ops.BitXor n = record { all = refl }
value_clear _ n = record { all = refl }

-- ---- forms

pub up_clear : (target : Target) (label : ℕ) → IsOffTarget target → Clear (up_code target label)
up_clear (Byte low) label off = clear_then (up_clear_at low off) (label_clear label)
up_clear (Word low high) label off =
    let way : Clear (branch Bne label ∷ []) = record { all = refl } in
    clear_then (up_clear_at low off.0) (clear_then way (clear_then (up_clear_at high off.1) (label_clear label)))

pub down_clear : (target : Target) (label : ℕ) → IsOffTarget target → Clear (down_code target label)
down_clear (Byte low) label off = clear_then (down_clear_at low off) (label_clear label)
down_clear (Word low high) label off =
    let way : Clear (branch Bne label ∷ []) = record { all = refl } in
    clear_then (load_clear low off.0) (clear_then way (clear_then (down_clear_at high off.1) (clear_then (label_clear label) (down_clear_at low off.0))))

byte_clear : (op : BinaryOp) (n : ℕ) (spot : Spot) → IsOffByte spot → Clear (byte_code op n spot)
byte_clear op n spot off = clear_then (value_clear op n) (store_clear spot off)

pub first_clear : (op : BinaryOp) (n : ℕ) (spot : Spot) → IsOffByte spot → Clear (first_code op n spot)
first_clear op n spot off = clear_then (load_clear spot off) (clear_then (carry_clear op) (byte_clear op n spot off))

pub next_clear : (op : BinaryOp) (n : ℕ) (spot : Spot) → IsOffByte spot → Clear (next_code op n spot)
next_clear op n spot off = clear_then (load_clear spot off) (byte_clear op n spot off)

low_clear : (op : BinaryOp) (n : ℕ) (spot : Spot) → IsOffByte spot → Clear (low_code op n spot)
low_clear op n spot off = clear_if (is_neutral op n) clear_none (first_clear op n spot off)

skip_clear : (op : BinaryOp) (n label : ℕ) → Clear (skip_code op n label)
skip_clear ops.Add n label = clear_if (n == 0) (record { all = refl }) clear_none
skip_clear ops.Sub n label = clear_if (n == 0) (record { all = refl }) clear_none
skip_clear _ n label = clear_none

high_clear : (op : BinaryOp) (n : ℕ) (spot : Spot) (label : ℕ) → IsOffByte spot → Clear (high_code op n spot label)
high_clear op n spot label off = clear_if (is_neutral op n) clear_none (clear_then (skip_clear op n label) (next_clear op n spot off))

carried_clear : (op : BinaryOp) (low high : Spot) (label : ℕ) → IsOffByte high → Clear (carried_code op low high label)
carried_clear op low high label off =
    let iny : Clear (implied Iny ∷ []) = record { all = refl } in
    clear_then (skip_clear op 0 label) (clear_then (clear_if (is_next low high) (clear_then iny (adc_again high)) (adc_reach high)) (store_clear high off))

number_clear : (op : BinaryOp) (n : ℕ) (target : Target) (label : ℕ) → IsOffTarget target → Clear (number_code op n target label)
number_clear op n (Byte low) label off = clear_then (low_clear op (first n) low off) (label_clear label)
number_clear op n (Word low high) label off =
    clear_if (is_one op n) (clear_then (first_clear op 1 low off.0) (clear_then (carried_clear op low high label off.1) (label_clear label)))
    (clear_then (low_clear op (first n) low off.0) (clear_then (high_clear op (second n) high label off.1) (label_clear label)))

taken_clear : (spot : Spot) → IsOffByte spot → (at : ℕ) → Clear (taken_code at spot)
taken_clear spot off at = let own : Clear (zero_page Sbc at ∷ []) = record { all = refl } in clear_then own (store_clear spot off)

less_clear : (target : Target) → IsOffTarget target → Clear (less_code target)
less_clear (Byte low) off =
    let kept : Clear (zero_page Sta tmp1 ∷ []) = record { all = refl } in
    let sec : Clear (implied Sec ∷ []) = record { all = refl } in
    clear_then kept (clear_then (load_clear low off) (clear_then sec (taken_clear low off tmp1)))
less_clear (Word low high) off =
    let kept : Clear aside_code = record { all = refl } in
    let sec : Clear (implied Sec ∷ []) = record { all = refl } in
    clear_then kept (clear_then (load_clear low off.0) (clear_then sec (clear_then (taken_clear low off.0 tmp1) (clear_then (load_clear high off.1) (taken_clear high off.1 tmp2)))))

joined_clear : (op : BinaryOp) (spot : Spot) → IsOffByte spot → Clear (joined_code op spot)
joined_clear op spot off = clear_then (reach_add op spot off) (store_clear spot off)

more_clear : (op : BinaryOp) (target : Target) → IsOffTarget target → Clear (more_code op target)
more_clear op (Byte low) off = clear_then (carry_clear op) (joined_clear op low off)
more_clear op (Word low high) off =
    let txa : Clear (implied Txa ∷ []) = record { all = refl } in
    clear_then (carry_clear op) (clear_then (joined_clear op low off.0) (clear_then txa (joined_clear op high off.1)))

operand_clear : (op : BinaryOp) (target : Target) → IsOffTarget target → Clear (operand_code op target)
operand_clear ops.Sub target off = less_clear target off
operand_clear op target off = more_clear op target off

pub change_clear : (change : Change) (label : ℕ) → IsOffTarget (target_in change) → Clear (change_code change label)
change_clear (Up target) label off = up_clear target label off
change_clear (Down target) label off = down_clear target label off
change_clear (Number op n target) label off = number_clear op n target label off
change_clear (Operand op target) label off = clear_then (operand_clear op target off) (label_clear label)

pub point_clear : (place : Place) → Clear (point_code place)
point_clear (places.Far at) = record { all = refl }
point_clear (places.Bank b) = clear_none
point_clear (places.Near at) = clear_none
point_clear (places.Data s at) = clear_none

pub fill_clear : (n : ℕ) (low high : Spot) → IsOffByte low → IsOffByte high → Clear (fill_code n low high)
fill_clear n low high first second = let own : Clear (value Lda n ∷ []) = record { all = refl } in let iny : Clear (implied Iny ∷ []) = record { all = refl } in clear_then own (clear_then (put_clear low first) (clear_if (is_next low high) (clear_then iny (store_clear high second)) (put_clear high second)))

-- ---- what is changed lies where the place does

extent_off : (place : Place) (extent : Extent) → IsOff place → OfAny IsOffTarget (target_by place extent)
extent_off (places.Bank b) extent off = absurd off
extent_off (places.Near at) One off = tt
extent_off (places.Near at) Two off = (tt, tt)
extent_off (places.Near at) Three off = tt
extent_off (places.Near at) Four off = tt
extent_off (places.Data s at) One off = tt
extent_off (places.Data s at) Two off = (tt, tt)
extent_off (places.Data s at) Three off = tt
extent_off (places.Data s at) Four off = tt
extent_off (places.Far at) One off = tt
extent_off (places.Far at) Two off = (tt, tt)
extent_off (places.Far at) Three off = tt
extent_off (places.Far at) Four off = tt

pub target_off : (place : Place) (access : Access) → IsOff place → OfAny IsOffTarget (target_of place access)
target_off place (Whole kind) off = extent_off place (extent_of kind) off
target_off place (Part field) off = tt
