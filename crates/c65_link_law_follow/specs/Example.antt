-- A routine of five lines as it stands in memory: it counts X down from 2.
--
--     0200  A2 02      LDX #2
--     0202         1:
--     0202  CA         DEX
--     0203  D0 FD      BNE 1
--     0205  60         RTS
use Rattle.std.specs.Prelude.{ℕ, ◌-◌, false, List, [], ◌∷◌, None, slice_index, slice_index_or}
use Rattle.c65_base.specs.declared.options.Cpu.{Cpu}
use Rattle.c65_mach.specs.declared.rows.Op.TheVariants as ops
use Rattle.c65_mach.specs.declared.rows.Mode.TheVariants.{Implied, Immediate, Relative}
use Rattle.c65_code.specs.declared.line.Operand.TheVariants as operands
use Rattle.c65_code.specs.declared.line.Line.{Line}
use Rattle.c65_code.specs.declared.line.Line.TheVariants.{Label, Do}
use Rattle.c65_code.specs.Placement.{Placement}
use Rattle.c65_code.specs.RawMachine.{RawSetting}
use Rattle.c65_link_law_follow.specs.Agree.{Ground}
use Rattle.c65_link_law_follow.specs.Laid.{IsLaid, IsGround}

abbrev pub counting : List Line
counting = Do ops.Ldx Immediate (operands.Byte 2) ∷ Label 1 ∷ Do ops.Dex Implied operands.Nothing ∷ Do ops.Bne Relative (operands.To 1) ∷ Do ops.Rts Implied operands.Nothing ∷ []

abbrev pub counting_bytes : List ℕ
counting_bytes = 0xA2 ∷ 0x02 ∷ 0xCA ∷ 0xD0 ∷ 0xFD ∷ 0x60 ∷ []

abbrev pub counting_addresses : List ℕ
counting_addresses = 0x0200 ∷ 0x0202 ∷ 0x0202 ∷ 0x0203 ∷ 0x0205 ∷ []

abbrev pub nowhere : Placement
nowhere = record { address = λ f. 0; is_data = λ b. false; constant = λ b. None }

abbrev pub counting_ground : Cpu → Ground
counting_ground cpu = record {
  cpu = cpu;
  byte = λ b. slice_index counting_bytes (b - 0x0200);
  end = 0x0206;
  place = nowhere;
  at = λ q. slice_index_or counting_addresses q.1 0x0206;
  top = 253;
  last = None;
}

abbrev pub counting_setting : RawSetting
counting_setting = record { lines = λ f. counting; routine = λ r. 0; is_function = λ f. false; library = λ f. None; place = nowhere; args = [] }

-- it stands so, on both processors
abbrev pub CountingIsLaid : Type 0
CountingIsLaid = (cpu : Cpu) → IsGround (counting_ground cpu) counting_setting × IsLaid (counting_ground cpu) counting_setting 0
