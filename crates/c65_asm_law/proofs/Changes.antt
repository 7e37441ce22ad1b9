-- Lines that change numbers where they lie are lines that the text can write.
use Rattle.std.proofs.Common.{ℕ, ◌<◌, ◌^◌, ◌==◌, [], ◌∷◌, ◌++◌, arith, rules}
use Rattle.c65_base.specs.declared.operators.BinaryOp.{BinaryOp}
use Rattle.c65_base.specs.declared.operators.BinaryOp.TheVariants as ops
use Rattle.c65_mach.specs.declared.rows.Op.{Op}
use Rattle.c65_mach.specs.declared.rows.Op.TheVariants.{Adc, Bcc, Bcs, Dec, Inc, Iny, Lda, Sta}
use Rattle.c65_code.specs.declared.line.Line.TheVariants.{Label}
use Rattle.c65_genload.specs.declared.places.Extent.{Extent}
use Rattle.c65_genload.specs.declared.places.Extent.TheVariants.{One, Two, Three, Four}
use Rattle.c65_genload.specs.declared.places.Place.{Place}
use Rattle.c65_genload.specs.declared.places.Place.TheVariants as places
use Rattle.c65_genload.specs.declared.places.Access.{Access}
use Rattle.c65_genload.specs.declared.places.Access.TheVariants.{Whole, Part}
use Rattle.c65_genload.specs.Places.{extent_of}
use Rattle.c65_genload.specs.Words.{tmp1, tmp2, implied, branch}
use Rattle.c65_genload.specs.Numbers.{first, second}
use Rattle.c65_gendirect.specs.Words.{instruction, carry_code}
use Rattle.c65_genchange.specs.declared.spots.Spot.{Spot}
use Rattle.c65_genchange.specs.declared.spots.Spot.TheVariants.{Behind, Data, Zero}
use Rattle.c65_genchange.specs.declared.spots.Target.{Target}
use Rattle.c65_genchange.specs.declared.spots.Target.TheVariants.{Byte, Word}
use Rattle.c65_genchange.specs.declared.changes.Change.{Change}
use Rattle.c65_genchange.specs.declared.changes.Change.TheVariants.{Up, Down, Number, Operand}
use Rattle.c65_genchange.specs.Spots.{point_code, target_by, target_of, reach_code, again_code, is_next, beside_code}
use Rattle.c65_genchange.specs.Changes.{up_code, down_code, byte_code, first_code, next_code, is_neutral, skip_code, low_code, high_code, is_one, carried_code, number_code, aside_code, taken_code, less_code, joined_code, more_code, operand_code, change_code, fill_code}
use Rattle.c65_gen_law_lines.proofs.EffectFacts.{target_in, OfAny}
use Rattle.c65_asm_law.proofs.Well.{AllWell, well_append, well_none, well_more, well_if}
use Rattle.c65_asm_law.proofs.Loads.{WellPlace}
use Rattle.c65_asm_law.proofs.Directs.{carry_well, label_one}

-- ---- bytes

abbrev pub WellSpot : ℕ → Spot → Type 0
WellSpot n (Behind pointer at) = (pointer < 2 ^ 8) × (at < 2 ^ 8)
WellSpot n (Data sym at) = (sym.0 < n) × (at < 2 ^ 16)
WellSpot n (Zero at) = at < 2 ^ 8

abbrev pub WellTarget : ℕ → Target → Type 0
WellTarget n (Byte low) = WellSpot n low
WellTarget n (Word low high) = WellSpot n low × WellSpot n high

extent_well : (n : ℕ) (place : Place) (extent : Extent) → WellPlace n place → OfAny (WellTarget n) (target_by place extent)
extent_well n (places.Bank b) One h = omega arith
extent_well n (places.Bank b) Two h = (omega arith, omega arith)
extent_well n (places.Near at) One h = (omega arith, omega arith)
extent_well n (places.Near at) Two h = ((omega arith, omega arith), (omega arith, omega arith))
extent_well n (places.Data s at) One h = (h.0, omega arith)
extent_well n (places.Data s at) Two h = ((h.0, omega arith), (h.0, omega arith))
extent_well n (places.Far at) One h = (omega arith, omega arith)
extent_well n (places.Far at) Two h = ((omega arith, omega arith), (omega arith, omega arith))
extent_well n place Three h = tt
extent_well n place Four h = tt

pub spot_well : (n : ℕ) (place : Place) (access : Access) → WellPlace n place → OfAny (WellTarget n) (target_of place access)
spot_well n place (Whole kind) h = extent_well n place (extent_of kind) h
spot_well n place (Part field) h = tt

pub reach_well : (n : ℕ) (op : Op) (spot : Spot) → WellSpot n spot → AllWell n (reach_code op spot)
reach_well n op (Behind pointer at) h = record { all = ((tt, h.1), ((tt, h.0), tt)) }
reach_well n op (Data sym at) h = record { all = ((tt, h), tt) }
reach_well n op (Zero at) h = record { all = ((tt, h), tt) }

pub again_well : (n : ℕ) (op : Op) (spot : Spot) → WellSpot n spot → AllWell n (again_code op spot)
again_well n op (Behind pointer at) h = record { all = ((tt, h.0), tt) }
again_well n op (Data sym at) h = record { all = ((tt, h), tt) }
again_well n op (Zero at) h = record { all = ((tt, h), tt) }

beside_well : (n : ℕ) (op : Op) (low high : Spot) → WellSpot n high → AllWell n (beside_code op low high)
beside_well n op low high h = well_if n (is_next low high) (implied Iny ∷ again_code op high) (reach_code op high) (well_more n _ _ (tt, tt) (again_well n op high h)) (reach_well n op high h)

-- ---- forms

pub up_well : (n : ℕ) (target : Target) (label : ℕ) → WellTarget n target → label < 2 ^ 32 → AllWell n (up_code target label)
up_well n (Byte low) label h few = well_append n (reach_code Inc low) _ (reach_well n Inc low h) (label_one n label few)
up_well n (Word low high) label h few = well_append n (reach_code Inc low) _ (reach_well n Inc low h.0) (well_more n _ _ (tt, few) (well_append n (reach_code Inc high) _ (reach_well n Inc high h.1) (label_one n label few)))

pub down_well : (n : ℕ) (target : Target) (label : ℕ) → WellTarget n target → label < 2 ^ 32 → AllWell n (down_code target label)
down_well n (Byte low) label h few = well_append n (reach_code Dec low) _ (reach_well n Dec low h) (label_one n label few)
down_well n (Word low high) label h few =
    well_append n (reach_code Lda low) _ (reach_well n Lda low h.0) (well_more n _ _ (tt, few) (well_append n (reach_code Dec high) _ (reach_well n Dec high h.1) (well_more n _ _ few (reach_well n Dec low h.0))))

byte_well : (n : ℕ) (op : BinaryOp) (m : ℕ) (spot : Spot) → WellSpot n spot → m < 2 ^ 8 → AllWell n (byte_code op m spot)
byte_well n op m spot h few = well_more n _ _ (tt, few) (again_well n Sta spot h)

pub first_well : (n : ℕ) (op : BinaryOp) (m : ℕ) (spot : Spot) → WellSpot n spot → m < 2 ^ 8 → AllWell n (first_code op m spot)
first_well n op m spot h few = well_append n (reach_code Lda spot) _ (reach_well n Lda spot h) (well_append n (carry_code op) _ (carry_well n op) (byte_well n op m spot h few))

pub next_well : (n : ℕ) (op : BinaryOp) (m : ℕ) (spot : Spot) → WellSpot n spot → m < 2 ^ 8 → AllWell n (next_code op m spot)
next_well n op m spot h few = well_append n (reach_code Lda spot) _ (reach_well n Lda spot h) (byte_well n op m spot h few)

low_well : (n : ℕ) (op : BinaryOp) (m : ℕ) (spot : Spot) → WellSpot n spot → m < 2 ^ 8 → AllWell n (low_code op m spot)
low_well n op m spot h few = well_if n (is_neutral op m) [] (first_code op m spot) (well_none n) (first_well n op m spot h few)

skip_well : (n : ℕ) (op : BinaryOp) (m label : ℕ) → label < 2 ^ 32 → AllWell n (skip_code op m label)
skip_well n ops.Add m label few = well_if n (m == 0) (branch Bcc label ∷ []) [] (record { all = ((tt, few), tt) }) (well_none n)
skip_well n ops.Sub m label few = well_if n (m == 0) (branch Bcs label ∷ []) [] (record { all = ((tt, few), tt) }) (well_none n)
skip_well n _ m label few = well_none n

high_well : (n : ℕ) (op : BinaryOp) (m : ℕ) (spot : Spot) (label : ℕ) → WellSpot n spot → m < 2 ^ 8 → label < 2 ^ 32 → AllWell n (high_code op m spot label)
high_well n op m spot label h few low =
    well_if n (is_neutral op m) [] (skip_code op m label ++ next_code op m spot) (well_none n) (well_append n (skip_code op m label) _ (skip_well n op m label low) (next_well n op m spot h few))

carried_well : (n : ℕ) (op : BinaryOp) (low high : Spot) (label : ℕ) → WellSpot n high → label < 2 ^ 32 → AllWell n (carried_code op low high label)
carried_well n op low high label h few = well_append n (skip_code op 0 label) _ (skip_well n op 0 label few) (well_append n (beside_code Adc low high) _ (beside_well n Adc low high h) (again_well n Sta high h))

number_well : (n : ℕ) (op : BinaryOp) (m : ℕ) (target : Target) (label : ℕ) → WellTarget n target → label < 2 ^ 32 → AllWell n (number_code op m target label)
number_well n op m (Byte low) label h few = well_append n (low_code op (first m) low) _ (low_well n op (first m) low h (omega arith)) (label_one n label few)
number_well n op m (Word low high) label h few =
    well_if n (is_one op m) (first_code op 1 low ++ (carried_code op low high label ++ (Label label ∷ []))) _
    (well_append n (first_code op 1 low) _ (first_well n op 1 low h.0 (omega arith)) (well_append n (carried_code op low high label) _ (carried_well n op low high label h.1 few) (label_one n label few)))
    (well_append n (low_code op (first m) low) _ (low_well n op (first m) low h.0 (omega arith)) (well_append n (high_code op (second m) high label) _ (high_well n op (second m) high label h.1 (omega arith) few) (label_one n label few)))

taken_well : (n at : ℕ) (spot : Spot) → at < 2 ^ 8 → WellSpot n spot → AllWell n (taken_code at spot)
taken_well n at spot few h = well_more n _ _ (tt, few) (again_well n Sta spot h)

less_well : (n : ℕ) (target : Target) → WellTarget n target → AllWell n (less_code target)
less_well n (Byte low) h = well_more n _ _ (tt, omega arith) (well_append n (reach_code Lda low) _ (reach_well n Lda low h) (well_more n _ _ (tt, tt) (taken_well n tmp1 low (omega arith) h)))
less_well n (Word low high) h =
    let kept : AllWell n aside_code = record { all = search rules } in
    well_append n aside_code _ kept (well_append n (reach_code Lda low) _ (reach_well n Lda low h.0) (well_more n _ _ (tt, tt) (well_append n (taken_code tmp1 low) _ (taken_well n tmp1 low (omega arith) h.0)
    (well_append n (reach_code Lda high) _ (reach_well n Lda high h.1) (taken_well n tmp2 high (omega arith) h.1)))))

joined_well : (n : ℕ) (op : BinaryOp) (spot : Spot) → WellSpot n spot → AllWell n (joined_code op spot)
joined_well n op spot h = well_append n (reach_code (instruction op) spot) _ (reach_well n (instruction op) spot h) (again_well n Sta spot h)

more_well : (n : ℕ) (op : BinaryOp) (target : Target) → WellTarget n target → AllWell n (more_code op target)
more_well n op (Byte low) h = well_append n (carry_code op) _ (carry_well n op) (joined_well n op low h)
more_well n op (Word low high) h = well_append n (carry_code op) _ (carry_well n op) (well_append n (joined_code op low) _ (joined_well n op low h.0) (well_more n _ _ (tt, tt) (joined_well n op high h.1)))

operand_well : (n : ℕ) (op : BinaryOp) (target : Target) → WellTarget n target → AllWell n (operand_code op target)
operand_well n ops.Sub target h = less_well n target h
operand_well n op target h = more_well n op target h

pub change_well : (n : ℕ) (change : Change) (label : ℕ) → WellTarget n (target_in change) → label < 2 ^ 32 → AllWell n (change_code change label)
change_well n (Up target) label h few = up_well n target label h few
change_well n (Down target) label h few = down_well n target label h few
change_well n (Number op m target) label h few = number_well n op m target label h few
change_well n (Operand op target) label h few = well_append n (operand_code op target) _ (operand_well n op target h) (label_one n label few)

pub point_well : (n : ℕ) (place : Place) → AllWell n (point_code place)
point_well n (places.Far at) = record { all = search rules }
point_well n (places.Bank b) = well_none n
point_well n (places.Near at) = well_none n
point_well n (places.Data s at) = well_none n

pub fill_well : (n m : ℕ) (low high : Spot) → m < 2 ^ 8 → WellSpot n low → WellSpot n high → AllWell n (fill_code m low high)
fill_well n m low high few h k = well_more n _ _ (tt, few) (well_append n (reach_code Sta low) _ (reach_well n Sta low h) (beside_well n Sta low high k))
