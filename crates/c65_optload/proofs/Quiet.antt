-- Loads, stores and transfers go on to the next line.
use Rattle.std.proofs.Common.{◌≡◌, ℕ, true, Option, Some, None, is_some, refl}
use Rattle.std.proofs.lemmas.Bool.{and_parts}
use Rattle.c65_mach.specs.declared.rows.Op.{Op}
use Rattle.c65_mach.specs.declared.rows.Op.TheVariants as ops
use Rattle.c65_mach.specs.declared.rows.Mode.{Mode}
use Rattle.c65_mach.specs.declared.rows.Mode.TheVariants.{Immediate, ZeroPage}
use Rattle.c65_code.specs.declared.line.Operand.{Operand}
use Rattle.c65_code.specs.declared.line.Operand.TheVariants.{Byte, Zero}
use Rattle.c65_code.specs.declared.line.Line.{Line}
use Rattle.c65_code.specs.declared.line.Line.TheVariants.{Do}
use Rattle.c65_know.specs.declared.note.Note.{Note}
use Rattle.c65_live.specs.Tables.{Table}
use Rattle.c65_pass.specs.declared.register.Register.{Register}
use Rattle.c65_pass.specs.declared.register.Transfer.{Transfer}
use Rattle.c65_pass.specs.Registers.{loaded_by, stored_by, transfer_by}
use Rattle.c65_pass.specs.LoadRules.{has, is_free, is_register_dead, are_one, is_idle_load, is_dead_load, is_dead_store, is_reload, is_restore, is_overwritten, target, is_dead_transfer, is_value_free, carried, is_idle_transfer, are_back, is_back, shared, is_idle_byte_load, is_idle_store}
use Rattle.c65_pass.proofs.Replaced.{IsQuiet}

pub load_quiet : (op : Op) (mode : Mode) (operand : Operand) → is_some (loaded_by op) ≡ true → IsQuiet (Do op mode operand)
load_quiet ops.Rts mode operand h = absurd cc
load_quiet ops.Jmp mode operand h = absurd cc
load_quiet _ mode operand h = record { plain = refl; onward = refl }

pub store_quiet : (op : Op) (mode : Mode) (operand : Operand) → is_some (stored_by op) ≡ true → IsQuiet (Do op mode operand)
store_quiet ops.Rts mode operand h = absurd cc
store_quiet ops.Jmp mode operand h = absurd cc
store_quiet _ mode operand h = record { plain = refl; onward = refl }

pub transfer_quiet : (op : Op) (mode : Mode) (operand : Operand) → is_some (transfer_by op) ≡ true → IsQuiet (Do op mode operand)
transfer_quiet ops.Rts mode operand h = absurd cc
transfer_quiet ops.Jmp mode operand h = absurd cc
transfer_quiet _ mode operand h = record { plain = refl; onward = refl }

-- ---- what tests say of their operations

has_some : (known : Option Note) (r : Option Register) (v : ℕ) → has known r v ≡ true → is_some r ≡ true
has_some known None v h = absurd cc
has_some known (Some r) v h = refl

dead_some : (table : Table) (q : ℕ) (r : Option Register) → is_register_dead table q r ≡ true → is_some r ≡ true
dead_some table q None h = absurd cc
dead_some table q (Some r) h = refl

target_some : (table : Table) (q : ℕ) (move : Option Transfer) → is_register_dead table q (target move) ≡ true → is_some move ≡ true
target_some table q None h = absurd cc
target_some table q (Some move) h = refl

carried_some : (known : Option Note) (table : Table) (q : ℕ) (move : Option Transfer) → is_value_free known table q (carried known move) ≡ true → is_some move ≡ true
carried_some known table q None h = absurd cc
carried_some known table q (Some move) h = refl

shared_some : (known : Option Note) (table : Table) (q i : ℕ) (r : Option Register) → is_value_free known table q (shared known r i) ≡ true → is_some r ≡ true
shared_some known table q i None h = absurd cc
shared_some known table q i (Some r) h = refl

equal_some : (known : Option Note) (i : ℕ) (r : Option Register) → is_some (shared known r i) ≡ true → is_some r ≡ true
equal_some known i None h = absurd cc
equal_some known i (Some r) h = refl

pub one_some : (r s : Option Register) → are_one r s ≡ true → (is_some r ≡ true) × (is_some s ≡ true)
one_some None s h = absurd cc
one_some (Some r) None h = absurd cc
one_some (Some r) (Some s) h = (refl, refl)

pub back_some : (r s : Option Transfer) → are_back r s ≡ true → (is_some r ≡ true) × (is_some s ≡ true)
back_some None s h = absurd cc
back_some (Some r) None h = absurd cc
back_some (Some r) (Some s) h = (refl, refl)

-- ---- the lines of each rule

pub idle_load_quiet : (known : Option Note) (table : Table) (q : ℕ) (line : Line) → is_idle_load known table q line ≡ true → IsQuiet line
idle_load_quiet known table q (Do op Immediate (Byte v)) h = load_quiet op Immediate (Byte v) (has_some known (loaded_by op) v (and_parts (has known (loaded_by op) v) (is_free known table q v) h).0)
idle_load_quiet known table q _ h = absurd cc

pub dead_load_quiet : (table : Table) (q : ℕ) (line : Line) → is_dead_load table q line ≡ true → IsQuiet line
dead_load_quiet table q (Do op mode operand) h = load_quiet op mode operand (dead_some table q (loaded_by op) h)
dead_load_quiet table q _ h = absurd cc

pub dead_store_quiet : (table : Table) (q : ℕ) (line : Line) → is_dead_store table q line ≡ true → IsQuiet line
dead_store_quiet table q (Do op ZeroPage (Zero i)) h = store_quiet op ZeroPage (Zero i) (and_parts (is_some (stored_by op)) _ h).0
dead_store_quiet table q _ h = absurd cc

pub dead_transfer_quiet : (table : Table) (q : ℕ) (line : Line) → is_dead_transfer table q line ≡ true → IsQuiet line
dead_transfer_quiet table q (Do op mode operand) h = transfer_quiet op mode operand (target_some table q (transfer_by op) h)
dead_transfer_quiet table q _ h = absurd cc

pub idle_transfer_quiet : (known : Option Note) (table : Table) (q : ℕ) (line : Line) → is_idle_transfer known table q line ≡ true → IsQuiet line
idle_transfer_quiet known table q (Do op mode operand) h = transfer_quiet op mode operand (carried_some known table q (transfer_by op) h)
idle_transfer_quiet known table q _ h = absurd cc

pub idle_byte_load_quiet : (known : Option Note) (table : Table) (q : ℕ) (line : Line) → is_idle_byte_load known table q line ≡ true → IsQuiet line
idle_byte_load_quiet known table q (Do op ZeroPage (Zero i)) h = load_quiet op ZeroPage (Zero i) (shared_some known table q i (loaded_by op) h)
idle_byte_load_quiet known table q _ h = absurd cc

pub idle_store_quiet : (known : Option Note) (line : Line) → is_idle_store known line ≡ true → IsQuiet line
idle_store_quiet known (Do op ZeroPage (Zero i)) h = store_quiet op ZeroPage (Zero i) (equal_some known i (stored_by op) h)
idle_store_quiet known _ h = absurd cc

pub reload_quiet : (table : Table) (q : ℕ) (line next : Line) → is_reload table q line next ≡ true → IsQuiet line × IsQuiet next
reload_quiet table q (Do op mode operand) (Do next there other) h =
    let some = one_some (stored_by op) (loaded_by next) (and_parts (are_one (stored_by op) (loaded_by next)) _ h).0 in
    (store_quiet op mode operand some.0, load_quiet next there other some.1)
reload_quiet table q _ _ h = absurd cc

pub restore_quiet : (line next : Line) → is_restore line next ≡ true → IsQuiet line × IsQuiet next
restore_quiet (Do op mode operand) (Do next there other) h =
    let some = one_some (loaded_by op) (stored_by next) (and_parts (are_one (loaded_by op) (stored_by next)) _ h).0 in
    (load_quiet op mode operand some.0, store_quiet next there other some.1)
restore_quiet _ _ h = absurd cc

pub overwritten_quiet : (line next : Line) → is_overwritten line next ≡ true → IsQuiet line
overwritten_quiet (Do op mode operand) (Do next there other) h = store_quiet op mode operand (and_parts (is_some (stored_by op)) _ h).0
overwritten_quiet _ _ h = absurd cc

pub back_quiet : (line next : Line) → is_back line next ≡ true → IsQuiet line × IsQuiet next
back_quiet (Do op mode operand) (Do next there other) h =
    let some = back_some (transfer_by op) (transfer_by next) h in
    (transfer_quiet op mode operand some.0, transfer_quiet next there other some.1)
back_quiet _ _ h = absurd cc
