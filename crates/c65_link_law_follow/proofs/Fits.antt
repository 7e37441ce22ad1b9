-- Which modes the operations of each kind have, and what numbers their operands are.
use Rattle.std.proofs.Common.{◌≡◌, ℕ, ◌+◌, ◌%◌, ◌/◌, ◌<◌, ◌⊎◌, inl, inr, Bool, true, Some, slice_index, refl, ap, arith}
use Rattle.std.proofs.lemmas.Bool.{or_cases}
use Rattle.c65_mach.specs.declared.rows.Op.{Op}
use Rattle.c65_mach.specs.declared.rows.Op.TheVariants as ops
use Rattle.c65_mach.specs.declared.rows.Mode.{Mode}
use Rattle.c65_mach.specs.declared.rows.Mode.TheVariants.{Implied, Accumulator, Immediate, ZeroPage, ZeroPageX, ZeroPageY, Absolute, AbsoluteX, AbsoluteY, IndirectX, IndirectY, Indirect, Relative, ZeroPageIndirect, AbsoluteIndirectX}
use Rattle.c65_mach.specs.State.{Regs}
use Rattle.c65_mach.specs.Step.{size_of, Reads, Stores, Changes, Registers, Moves, kind_of, apply, read_by, pushes}
use Rattle.c65_code.specs.declared.line.Sym.{Sym}
use Rattle.c65_code.specs.declared.line.Operand.{Operand}
use Rattle.c65_code.specs.declared.line.Operand.TheVariants as operands
use Rattle.c65_code.specs.Placement.{Placement, word_of}
use Rattle.c65_code.specs.Segments.{is_common, is_stored, is_counted, is_shifted, is_loaded_x, is_loaded_y, is_stored_x, is_stored_y, is_index_compared, is_tested, is_implied, is_nmos_row, is_added_row, has_row, is_address, takes}
use Rattle.c65_link.specs.Bytes.{Spot}
use Rattle.c65_link.specs.Symbols.{operand_symbol}
use Rattle.c65_link_law.specs.Coded.{word_at}
use Rattle.c65_link_law_follow.specs.Laid.{IsOperandNumber}
use Rattle.c65_link_law_follow.proofs.Bytes.{HasOperand}

abbrev pub IsStorable : Mode → Type 0
IsStorable Immediate = ⊥
IsStorable mode = HasOperand mode

-- columns of the table

common_fits : (mode : Mode) → is_common mode ≡ true → HasOperand mode
common_fits Implied h = absurd cc
common_fits Accumulator h = absurd cc
common_fits Indirect h = absurd cc
common_fits Relative h = absurd cc
common_fits AbsoluteIndirectX h = absurd cc
common_fits _ h = tt

stored_fits : (mode : Mode) → is_stored mode ≡ true → IsStorable mode
stored_fits Implied h = absurd cc
stored_fits Accumulator h = absurd cc
stored_fits Immediate h = absurd cc
stored_fits Indirect h = absurd cc
stored_fits Relative h = absurd cc
stored_fits AbsoluteIndirectX h = absurd cc
stored_fits _ h = tt

counted_fits : (mode : Mode) → is_counted mode ≡ true → IsStorable mode
counted_fits ZeroPage h = tt
counted_fits ZeroPageX h = tt
counted_fits Absolute h = tt
counted_fits AbsoluteX h = tt
counted_fits _ h = absurd cc

loaded_x_fits : (mode : Mode) → is_loaded_x mode ≡ true → HasOperand mode
loaded_x_fits Immediate h = tt
loaded_x_fits ZeroPage h = tt
loaded_x_fits ZeroPageY h = tt
loaded_x_fits Absolute h = tt
loaded_x_fits AbsoluteY h = tt
loaded_x_fits _ h = absurd cc

loaded_y_fits : (mode : Mode) → is_loaded_y mode ≡ true → HasOperand mode
loaded_y_fits Immediate h = tt
loaded_y_fits ZeroPage h = tt
loaded_y_fits ZeroPageX h = tt
loaded_y_fits Absolute h = tt
loaded_y_fits AbsoluteX h = tt
loaded_y_fits _ h = absurd cc

stored_x_fits : (mode : Mode) → is_stored_x mode ≡ true → IsStorable mode
stored_x_fits ZeroPage h = tt
stored_x_fits ZeroPageY h = tt
stored_x_fits Absolute h = tt
stored_x_fits _ h = absurd cc

stored_y_fits : (mode : Mode) → is_stored_y mode ≡ true → IsStorable mode
stored_y_fits ZeroPage h = tt
stored_y_fits ZeroPageX h = tt
stored_y_fits Absolute h = tt
stored_y_fits _ h = absurd cc

compared_fits : (mode : Mode) → is_index_compared mode ≡ true → HasOperand mode
compared_fits Immediate h = tt
compared_fits ZeroPage h = tt
compared_fits Absolute h = tt
compared_fits _ h = absurd cc

tested_fits : (mode : Mode) → is_tested mode ≡ true → IsStorable mode
tested_fits ZeroPage h = tt
tested_fits Absolute h = tt
tested_fits _ h = absurd cc

tested_reads : (mode : Mode) → is_tested mode ≡ true → HasOperand mode
tested_reads ZeroPage h = tt
tested_reads Absolute h = tt
tested_reads _ h = absurd cc

implied_is : (mode : Mode) → is_implied mode ≡ true → mode ≡ Implied
implied_is Implied h = refl
implied_is _ h = absurd cc

through_reads : (mode : Mode) → is_added_row ops.Lda mode ≡ true → HasOperand mode
through_reads ZeroPageIndirect h = tt
through_reads _ h = absurd cc

through_stores : (mode : Mode) → is_added_row ops.Sta mode ≡ true → IsStorable mode
through_stores ZeroPageIndirect h = tt
through_stores _ h = absurd cc

-- the kinds

nmos_reads : (op : Op) (mode : Mode) → kind_of op ≡ Reads → is_nmos_row op mode ≡ true → HasOperand mode
nmos_reads ops.Adc mode k h = common_fits mode h
nmos_reads ops.And mode k h = common_fits mode h
nmos_reads ops.Cmp mode k h = common_fits mode h
nmos_reads ops.Eor mode k h = common_fits mode h
nmos_reads ops.Lda mode k h = common_fits mode h
nmos_reads ops.Ora mode k h = common_fits mode h
nmos_reads ops.Sbc mode k h = common_fits mode h
nmos_reads ops.Ldx mode k h = loaded_x_fits mode h
nmos_reads ops.Ldy mode k h = loaded_y_fits mode h
nmos_reads ops.Cpx mode k h = compared_fits mode h
nmos_reads ops.Cpy mode k h = compared_fits mode h
nmos_reads ops.Bit mode k h = tested_reads mode h
nmos_reads _ mode k h = absurd cc

added_reads : (op : Op) (mode : Mode) → kind_of op ≡ Reads → is_added_row op mode ≡ true → HasOperand mode
added_reads ops.Lda mode k h = through_reads mode h
added_reads _ mode k h = absurd cc

pub reads_fit : (op : Op) (mode : Mode) → kind_of op ≡ Reads → has_row op mode ≡ true → HasOperand mode
reads_fit op mode k h = by (or_cases (is_nmos_row op mode) (is_added_row op mode) h)
  where
    by : (is_nmos_row op mode ≡ true) ⊎ (is_added_row op mode ≡ true) → HasOperand mode
    by (inl g) = nmos_reads op mode k g
    by (inr g) = added_reads op mode k g

nmos_stores : (op : Op) (mode : Mode) → kind_of op ≡ Stores → is_nmos_row op mode ≡ true → IsStorable mode
nmos_stores ops.Sta mode k h = stored_fits mode h
nmos_stores ops.Stx mode k h = stored_x_fits mode h
nmos_stores ops.Sty mode k h = stored_y_fits mode h
nmos_stores _ mode k h = absurd cc

added_stores : (op : Op) (mode : Mode) → kind_of op ≡ Stores → is_added_row op mode ≡ true → IsStorable mode
added_stores ops.Sta mode k h = through_stores mode h
added_stores ops.Stz mode k h = tested_fits mode h
added_stores _ mode k h = absurd cc

pub stores_fit : (op : Op) (mode : Mode) → kind_of op ≡ Stores → has_row op mode ≡ true → IsStorable mode
stores_fit op mode k h = by (or_cases (is_nmos_row op mode) (is_added_row op mode) h)
  where
    by : (is_nmos_row op mode ≡ true) ⊎ (is_added_row op mode ≡ true) → IsStorable mode
    by (inl g) = nmos_stores op mode k g
    by (inr g) = added_stores op mode k g

shifted_fits : (mode : Mode) → is_shifted mode ≡ true → (mode ≡ Accumulator) ⊎ IsStorable mode
shifted_fits Accumulator h = inl refl
shifted_fits ZeroPage h = inr tt
shifted_fits ZeroPageX h = inr tt
shifted_fits Absolute h = inr tt
shifted_fits AbsoluteX h = inr tt
shifted_fits _ h = absurd cc

nmos_changes : (op : Op) (mode : Mode) → kind_of op ≡ Changes → is_nmos_row op mode ≡ true → (mode ≡ Accumulator) ⊎ IsStorable mode
nmos_changes ops.Asl mode k h = shifted_fits mode h
nmos_changes ops.Lsr mode k h = shifted_fits mode h
nmos_changes ops.Rol mode k h = shifted_fits mode h
nmos_changes ops.Ror mode k h = shifted_fits mode h
nmos_changes ops.Inc mode k h = inr (counted_fits mode h)
nmos_changes ops.Dec mode k h = inr (counted_fits mode h)
nmos_changes _ mode k h = absurd cc

added_changes : (op : Op) (mode : Mode) → kind_of op ≡ Changes → is_added_row op mode ≡ true → (mode ≡ Accumulator) ⊎ IsStorable mode
added_changes ops.Inc Accumulator k h = inl refl
added_changes ops.Dec Accumulator k h = inl refl
added_changes _ _ k h = absurd cc

pub changes_fit : (op : Op) (mode : Mode) → kind_of op ≡ Changes → has_row op mode ≡ true → (mode ≡ Accumulator) ⊎ IsStorable mode
changes_fit op mode k h = by (or_cases (is_nmos_row op mode) (is_added_row op mode) h)
  where
    by : (is_nmos_row op mode ≡ true) ⊎ (is_added_row op mode ≡ true) → (mode ≡ Accumulator) ⊎ IsStorable mode
    by (inl g) = nmos_changes op mode k g
    by (inr g) = added_changes op mode k g

nmos_registers : (op : Op) (mode : Mode) → kind_of op ≡ Registers → is_nmos_row op mode ≡ true → mode ≡ Implied
nmos_registers ops.Clc mode k h = implied_is mode h
nmos_registers ops.Clv mode k h = implied_is mode h
nmos_registers ops.Dex mode k h = implied_is mode h
nmos_registers ops.Dey mode k h = implied_is mode h
nmos_registers ops.Inx mode k h = implied_is mode h
nmos_registers ops.Iny mode k h = implied_is mode h
nmos_registers ops.Nop mode k h = implied_is mode h
nmos_registers ops.Sec mode k h = implied_is mode h
nmos_registers ops.Tax mode k h = implied_is mode h
nmos_registers ops.Tay mode k h = implied_is mode h
nmos_registers ops.Txa mode k h = implied_is mode h
nmos_registers ops.Tya mode k h = implied_is mode h
nmos_registers _ mode k h = absurd cc

added_registers : (op : Op) (mode : Mode) → kind_of op ≡ Registers → is_added_row op mode ≡ true → mode ≡ Implied
added_registers ops.Clc mode k h = absurd cc
added_registers ops.Clv mode k h = absurd cc
added_registers ops.Dex mode k h = absurd cc
added_registers ops.Dey mode k h = absurd cc
added_registers ops.Inx mode k h = absurd cc
added_registers ops.Iny mode k h = absurd cc
added_registers ops.Nop mode k h = absurd cc
added_registers ops.Sec mode k h = absurd cc
added_registers ops.Tax mode k h = absurd cc
added_registers ops.Tay mode k h = absurd cc
added_registers ops.Txa mode k h = absurd cc
added_registers ops.Tya mode k h = absurd cc
added_registers _ mode k h = absurd cc

pub registers_fit : (op : Op) (mode : Mode) → kind_of op ≡ Registers → has_row op mode ≡ true → mode ≡ Implied
registers_fit op mode k h = by (or_cases (is_nmos_row op mode) (is_added_row op mode) h)
  where
    by : (is_nmos_row op mode ≡ true) ⊎ (is_added_row op mode ≡ true) → mode ≡ Implied
    by (inl g) = nmos_registers op mode k g
    by (inr g) = added_registers op mode k g

-- BIT with a number is no line
pub read_is : (op : Op) (mode : Mode) (d : Bool) (v : ℕ) (r : Regs) → has_row op mode ≡ true → read_by op mode d v r ≡ apply d op v r
read_is ops.Bit Immediate d v r h = absurd cc
read_is ops.Bit _ d v r h = refl
read_is _ mode d v r h = refl

-- operations of these kinds push nothing
pub pushes_none : (op : Op) → (kind_of op ≡ Moves → ⊥) → pushes op ≡ 0
pushes_none ops.Brk h = absurd (h refl)
pushes_none ops.Jsr h = absurd (h refl)
pushes_none ops.Pha h = absurd (h refl)
pushes_none ops.Php h = absurd (h refl)
pushes_none ops.Phx h = absurd (h refl)
pushes_none ops.Phy h = absurd (h refl)
pushes_none _ h = refl

-- Operands

abbrev pub IsNoLabel : Operand → Type 0
IsNoLabel (operands.To l) = ⊥
IsNoLabel _ = Unit {0}

-- the operand of a row that is no branch and no jump
pub record IsGiven (mode : Mode) (operand : Operand) : Type 0 where
  pub plain : IsNoLabel operand
  pub small : (place : Placement) → size_of mode ≡ 2 → word_of place operand < 256

at_given : (mode : Mode) → size_of mode ≡ 3 → (operand : Operand) → IsNoLabel operand → IsGiven mode operand
at_given mode three operand plain = record { plain = plain; small = λ place two. absurd (omega (arith, three, two)) }

none_given : (mode : Mode) → size_of mode ≡ 1 → (operand : Operand) → IsNoLabel operand → IsGiven mode operand
none_given mode one operand plain = record { plain = plain; small = λ place two. absurd (omega (arith, one, two)) }

address_at : (op : Op) (operand : Operand) → (kind_of op ≡ Moves → ⊥) → is_address op operand ≡ true → IsNoLabel operand
address_at ops.Jmp operand k h = absurd (k refl)
address_at _ (operands.At s o) k h = tt
address_at _ (operands.To l) k h = absurd cc
address_at _ _ k h = tt

pub given : (op : Op) (mode : Mode) (operand : Operand) → (kind_of op ≡ Moves → ⊥) → HasOperand mode → takes op mode operand ≡ true → IsOperandNumber operand → IsGiven mode operand
given op Immediate (operands.Byte v) k has t n = record { plain = tt; small = λ place two. n }
given op Immediate (operands.Low s o) k has t n = record { plain = tt; small = λ place two. omega arith }
given op Immediate (operands.High s o) k has t n = record { plain = tt; small = λ place two. omega arith }
given op Immediate _ k has t n = absurd cc
given op ZeroPage (operands.Zero i) k has t n = record { plain = tt; small = λ place two. n }
given op ZeroPage _ k has t n = absurd cc
given op ZeroPageX (operands.Zero i) k has t n = record { plain = tt; small = λ place two. n }
given op ZeroPageX _ k has t n = absurd cc
given op ZeroPageY (operands.Zero i) k has t n = record { plain = tt; small = λ place two. n }
given op ZeroPageY _ k has t n = absurd cc
given op IndirectX (operands.Zero i) k has t n = record { plain = tt; small = λ place two. n }
given op IndirectX _ k has t n = absurd cc
given op IndirectY (operands.Zero i) k has t n = record { plain = tt; small = λ place two. n }
given op IndirectY _ k has t n = absurd cc
given op ZeroPageIndirect (operands.Zero i) k has t n = record { plain = tt; small = λ place two. n }
given op ZeroPageIndirect _ k has t n = absurd cc
given op Absolute operand k has t n = at_given Absolute refl operand (address_at op operand k t)
given op AbsoluteX (operands.At s o) k has t n = at_given AbsoluteX refl (operands.At s o) tt
given op AbsoluteX _ k has t n = absurd cc
given op AbsoluteY (operands.At s o) k has t n = at_given AbsoluteY refl (operands.At s o) tt
given op AbsoluteY _ k has t n = absurd cc
given op _ operand k has t n = absurd has

-- an operand that is no label stands for the number that the code has
pub operand_word : (place : Placement) (spot : Spot) (operand : Operand) → ((sym : Sym) → operand_symbol operand ≡ Some sym → slice_index spot.symbols sym.0 ≡ place.address sym.0) → IsNoLabel operand → word_at spot operand ≡ word_of place operand
operand_word place spot operands.Nothing symbols plain = refl
operand_word place spot (operands.Byte v) symbols plain = refl
operand_word place spot (operands.Low s o) symbols plain = ap (λ (n : ℕ). (n + o) % 65536 % 256) (symbols s refl)
operand_word place spot (operands.High s o) symbols plain = ap (λ (n : ℕ). (n + o) % 65536 / 256) (symbols s refl)
operand_word place spot (operands.Zero i) symbols plain = refl
operand_word place spot (operands.At s o) symbols plain = ap (λ (n : ℕ). (n + o) % 65536) (symbols s refl)
operand_word place spot (operands.To l) symbols plain = absurd plain
