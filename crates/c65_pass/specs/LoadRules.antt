-- The rules on loads, stores and transfers, each at the line of a place and the lines after it.
use Rattle.std.specs.Prelude.{ℕ, ◌+◌, ◌%◌, ◌==◌, ◌&&◌, ◌||◌, Bool, true, false, nat_le, if◌then◌else◌, is_some, List, [], ◌∷◌, Option, Some, None}
use Rattle.c65_mach.specs.declared.rows.Op.TheVariants as ops
use Rattle.c65_mach.specs.declared.rows.Mode.{Mode}
use Rattle.c65_mach.specs.declared.rows.Mode.TheVariants.{Immediate, ZeroPage, Absolute}
use Rattle.c65_code.specs.declared.parts.Part.{Part}
use Rattle.c65_code.specs.declared.parts.Part.TheVariants as parts
use Rattle.c65_code.specs.declared.line.Operand.{Operand}
use Rattle.c65_code.specs.declared.line.Operand.TheVariants.{Byte, Zero, At}
use Rattle.c65_code.specs.declared.line.Line.{Line}
use Rattle.c65_code.specs.declared.line.Line.TheVariants.{Do}
use Rattle.c65_code.specs.Parts.{set_of}
use Rattle.c65_know.specs.declared.note.Note.{Note}
use Rattle.c65_know.specs.declared.note.Flag.{Flag}
use Rattle.c65_know.specs.declared.note.Flag.TheVariants as flags
use Rattle.c65_know.specs.Notes.{agreed, zero_byte}
use Rattle.c65_live.specs.Tables.{Table, is_dead}
use Rattle.c65_pass.specs.declared.register.Register.{Register}
use Rattle.c65_pass.specs.declared.register.Register.TheVariants.{A, X, Y}
use Rattle.c65_pass.specs.declared.register.Transfer.{Transfer}
use Rattle.c65_pass.specs.FlowRules.{gone_if, alone_if, shows}
use Rattle.c65_pass.specs.Registers.{is_same_register, part_of, value_of, loaded_by, stored_by, load_op, transfer_by, alone}
use Rattle.c65_pass.specs.Rewriting.{Rewriting}

-- one line in place of so many
abbrev pub instead : ℕ → ℕ → Option Line → Option Rewriting
instead count at None = None
instead count at (Some line) = Some (record { at = at; count = count; lines = line ∷ [] })

-- what is known of a register, and of a byte of the zero page
abbrev pub known_of : Option Note → Register → Option ℕ
known_of None r = None
known_of (Some note) r = value_of note r

abbrev pub byte_of : Option Note → ℕ → Option ℕ
byte_of None i = None
byte_of (Some note) i = zero_byte note i

abbrev pub is_value : ℕ → Option ℕ → Bool
is_value v None = false
is_value v (Some w) = w == v

-- whether a register has a value
abbrev pub has : Option Note → Option Register → ℕ → Bool
has known None v = false
has known (Some r) v = is_value v (known_of known r)

-- N and Z, each dead after a line or known to be as this value sets it
abbrev pub is_flag_free : Option Note → Table → ℕ → Part → Flag → Bool → Bool
is_flag_free known table q part flag value = is_dead table q (set_of (part ∷ [])) || shows (Some flag) value known

abbrev pub is_free : Option Note → Table → ℕ → ℕ → Bool
is_free known table q v = is_flag_free known table q parts.N flags.N (nat_le 128 v) && is_flag_free known table q parts.Z flags.Z (v == 0)

abbrev pub are_flags_dead : Table → ℕ → Bool
are_flags_dead table q = is_dead table q (set_of (parts.N ∷ parts.Z ∷ []))

-- a register, N and Z
abbrev pub is_register_dead : Table → ℕ → Option Register → Bool
is_register_dead table q None = false
is_register_dead table q (Some r) = is_dead table q (set_of (part_of r ∷ parts.N ∷ parts.Z ∷ []))

-- the same byte of the zero page, or at the same address
abbrev pub is_one_place : Mode → Operand → Mode → Operand → Bool
is_one_place ZeroPage (Zero i) ZeroPage (Zero j) = i == j
is_one_place Absolute (At s o) Absolute (At t p) = (s.0 == t.0) && (o == p)
is_one_place _ _ _ _ = false

abbrev pub are_one : Option Register → Option Register → Bool
are_one (Some r) (Some s) = is_same_register r s
are_one _ _ = false

-- a load of the byte that the register has
abbrev pub is_idle_load : Option Note → Table → ℕ → Line → Bool
is_idle_load known table q (Do op Immediate (Byte v)) = has known (loaded_by op) v && is_free known table q v
is_idle_load known table q _ = false

-- a load of a register that is not read
abbrev pub is_dead_load : Table → ℕ → Line → Bool
is_dead_load table q (Do op mode operand) = is_register_dead table q (loaded_by op)
is_dead_load table q _ = false

-- the bytes of sreg to tmp4
abbrev pub is_scratch : ℕ → Bool
is_scratch i = nat_le 2 i && nat_le i 19

-- a store to one of them that is not read
abbrev pub is_dead_store : Table → ℕ → Line → Bool
is_dead_store table q (Do op ZeroPage (Zero i)) = is_some (stored_by op) && (is_scratch i && is_dead table q (set_of (parts.Zp i ∷ [])))
is_dead_store table q _ = false

-- a load of what the same register just stored
abbrev pub is_reload : Table → ℕ → Line → Line → Bool
is_reload table q (Do op mode operand) (Do next there other) = are_one (stored_by op) (loaded_by next) && (is_one_place mode operand there other && are_flags_dead table q)
is_reload table q _ _ = false

-- a store of what the same register just loaded
abbrev pub is_restore : Line → Line → Bool
is_restore (Do op mode operand) (Do next there other) = are_one (loaded_by op) (stored_by next) && is_one_place mode operand there other
is_restore _ _ = false

-- a store over what was just stored
abbrev pub is_overwritten : Line → Line → Bool
is_overwritten (Do op mode operand) (Do next there other) = is_some (stored_by op) && (is_some (stored_by next) && is_one_place mode operand there other)
is_overwritten _ _ = false

abbrev pub target : Option Transfer → Option Register
target None = None
target (Some move) = Some move.to

-- a transfer to a register that is not read
abbrev pub is_dead_transfer : Table → ℕ → Line → Bool
is_dead_transfer table q (Do op mode operand) = is_register_dead table q (target (transfer_by op))
is_dead_transfer table q _ = false

abbrev pub is_value_free : Option Note → Table → ℕ → Option ℕ → Bool
is_value_free known table q None = false
is_value_free known table q (Some v) = is_free known table q v

-- the value that both registers of a transfer have
abbrev pub carried : Option Note → Option Transfer → Option ℕ
carried known None = None
carried known (Some move) = agreed (known_of known move.from) (known_of known move.to)

-- a transfer between registers that are equal
abbrev pub is_idle_transfer : Option Note → Table → ℕ → Line → Bool
is_idle_transfer known table q (Do op mode operand) = is_value_free known table q (carried known (transfer_by op))
is_idle_transfer known table q _ = false

abbrev pub are_back : Option Transfer → Option Transfer → Bool
are_back (Some there) (Some back) = is_same_register there.from back.to && is_same_register there.to back.from
are_back _ _ = false

-- a transfer back again
abbrev pub is_back : Line → Line → Bool
is_back (Do op mode operand) (Do next there other) = are_back (transfer_by op) (transfer_by next)
is_back _ _ = false

-- the transfer in place of a load of a byte that another register has, X before Y
abbrev pub transfer_for : Option Note → Option Register → ℕ → Option Line
transfer_for known (Some A) v = if has known (Some X) v then Some (alone ops.Txa) else (if has known (Some Y) v then Some (alone ops.Tya) else None)
transfer_for known (Some X) v = if has known (Some A) v then Some (alone ops.Tax) else None
transfer_for known (Some Y) v = if has known (Some A) v then Some (alone ops.Tay) else None
transfer_for known None v = None

abbrev pub transferred : Option Note → Line → Option Line
transferred known (Do op Immediate (Byte v)) = transfer_for known (loaded_by op) v
transferred known _ = None

-- the value that a register and a tracked byte of the zero page both have
abbrev pub shared : Option Note → Option Register → ℕ → Option ℕ
shared known None i = None
shared known (Some r) i = agreed (known_of known r) (byte_of known i)

-- a load of a byte that is equal to the register
abbrev pub is_idle_byte_load : Option Note → Table → ℕ → Line → Bool
is_idle_byte_load known table q (Do op ZeroPage (Zero i)) = is_value_free known table q (shared known (loaded_by op) i)
is_idle_byte_load known table q _ = false

-- a store to a byte that is equal to the register
abbrev pub is_idle_store : Option Note → Line → Bool
is_idle_store known (Do op ZeroPage (Zero i)) = is_some (shared known (stored_by op) i)
is_idle_store known _ = false

-- the step in place of a load of a byte one above or below what the register has
abbrev pub step_for : Option Note → Option Register → ℕ → Option Line
step_for known (Some X) v = if has known (Some X) ((v + 255) % 256) then Some (alone ops.Inx) else (if has known (Some X) ((v + 1) % 256) then Some (alone ops.Dex) else None)
step_for known (Some Y) v = if has known (Some Y) ((v + 255) % 256) then Some (alone ops.Iny) else (if has known (Some Y) ((v + 1) % 256) then Some (alone ops.Dey) else None)
step_for known _ v = None

abbrev pub stepped : Option Note → Line → Option Line
stepped known (Do op Immediate (Byte v)) = step_for known (loaded_by op) v
stepped known _ = None

-- modes in which each register can be loaded
abbrev pub is_common_load : Mode → Bool
is_common_load Immediate = true
is_common_load ZeroPage = true
is_common_load Absolute = true
is_common_load _ = false

-- the load into the register to which a load is moved on, where the first register is not read any more
abbrev pub load_for : Table → ℕ → Mode → Operand → Option Register → Option Transfer → Option Line
load_for table q mode operand (Some r) (Some move) = if is_common_load mode && (is_same_register r move.from && is_dead table q (set_of (part_of r ∷ []))) then Some (Do (load_op move.to) mode operand) else None
load_for table q mode operand _ _ = None

abbrev pub loaded_on : Table → ℕ → Line → Line → Option Line
loaded_on table q (Do op mode operand) (Do next there other) = load_for table q mode operand (loaded_by op) (transfer_by next)
loaded_on table q _ _ = None

-- rules on two lines, of which one stays
abbrev pub reload : Table → ℕ → Line → List Line → Option Rewriting
reload table at line [] = None
reload table at line (next ∷ after) = alone_if (is_reload table (at + 1) line next) at line

abbrev pub restore : ℕ → Line → List Line → Option Rewriting
restore at line [] = None
restore at line (next ∷ after) = alone_if (is_restore line next) at line

abbrev pub overwritten : ℕ → Line → List Line → Option Rewriting
overwritten at line [] = None
overwritten at line (next ∷ after) = alone_if (is_overwritten line next) at next

abbrev pub back : ℕ → Line → List Line → Option Rewriting
back at line [] = None
back at line (next ∷ after) = alone_if (is_back line next) at line

abbrev pub moved_on : Table → ℕ → Line → List Line → Option Rewriting
moved_on table at line [] = None
moved_on table at line (next ∷ after) = instead 2 at (loaded_on table (at + 1) line next)

-- Rules 10 to 23. `known` is the note before the line, `after` the lines after it.
abbrev pub load_rule : ℕ → Option Note → Table → ℕ → Line → List Line → Option Rewriting
load_rule rule known table at line after =
    if rule == 10 then gone_if (is_idle_load known table at line) at else (
    if rule == 11 then gone_if (is_dead_load table at line) at else (
    if rule == 12 then gone_if (is_dead_store table at line) at else (
    if rule == 13 then reload table at line after else (
    if rule == 14 then restore at line after else (
    if rule == 15 then overwritten at line after else (
    if rule == 16 then gone_if (is_dead_transfer table at line) at else (
    if rule == 17 then gone_if (is_idle_transfer known table at line) at else (
    if rule == 18 then back at line after else (
    if rule == 19 then instead 1 at (transferred known line) else (
    if rule == 20 then gone_if (is_idle_byte_load known table at line) at else (
    if rule == 21 then gone_if (is_idle_store known line) at else (
    if rule == 22 then instead 1 at (stepped known line) else (
    if rule == 23 then moved_on table at line after else None)))))))))))))
