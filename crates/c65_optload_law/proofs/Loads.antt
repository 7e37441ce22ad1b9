-- Loads and transfers that change nothing that is read, and what stands for others.
use Rattle.std.proofs.Common.{◌≡◌, ℕ, ◌+◌, ◌-◌, ◌%◌, ◌<◌, ◌==◌, ◌&&◌, Bool, true, false, if◌then◌else◌, Option, Some, None, List, [], ◌∷◌, refl, sym, subst, ap, ◌∙◌, arith}
use Rattle.std.specs.Prelude.{is_some}
use Rattle.std.proofs.Math.Path.{fun_ext}
use Rattle.std.proofs.lemmas.Bool.{and_parts, eqb-true}
use Rattle.c65_mach.specs.declared.rows.Op.{Op}
use Rattle.c65_mach.specs.declared.rows.Op.TheVariants as ops
use Rattle.c65_mach.specs.declared.rows.Mode.{Mode}
use Rattle.c65_mach.specs.declared.rows.Mode.TheVariants.{Implied, Immediate, ZeroPage, Absolute}
use Rattle.c65_mach.specs.Step.{with_a, with_x, with_y, kind_of}
use Rattle.c65_code.specs.declared.line.Line.{Line}
use Rattle.c65_code.specs.declared.line.Line.TheVariants.{Do}
use Rattle.c65_code.specs.declared.line.Operand.{Operand}
use Rattle.c65_code.specs.declared.line.Operand.TheVariants.{Byte, Zero, At}
use Rattle.c65_code.specs.declared.parts.Part.TheVariants as parts
use Rattle.c65_code.specs.declared.parts.RegSet.{RegSet}
use Rattle.c65_code.specs.LineState.{Bytes, write, State, IsBytes}
use Rattle.c65_code.specs.Moves.{ref_of, value_at}
use Rattle.c65_code.specs.Parts.{set_of}
use Rattle.c65_code.specs.Placement.{Placement, Setting, word_of, located}
use Rattle.c65_code.specs.Steady.{IsSteady}
use Rattle.c65_know.specs.declared.note.Note.{Note}
use Rattle.c65_know.specs.Notes.{zero_byte}
use Rattle.c65_know_law.proofs.Rows.{zero_as}
use Rattle.c65_know_law.specs.Truth.{IsAs, IsTrueOf}
use Rattle.c65_live.specs.Samples.{DeadIsNotLive}
use Rattle.c65_live.specs.Tables.{Table, live_after, is_dead}
use Rattle.c65_pass.specs.declared.register.Register.{Register}
use Rattle.c65_pass.specs.declared.register.Register.TheVariants.{A, X, Y}
use Rattle.c65_pass.specs.declared.register.Transfer.{Transfer}
use Rattle.c65_pass.specs.LoadRules.{known_of, byte_of, has, is_free, are_flags_dead, is_register_dead, is_one_place, are_one, is_idle_load, is_dead_load, is_reload, is_restore, is_overwritten, target, is_dead_transfer, is_value_free, carried, is_idle_transfer, are_back, is_back, transfer_for, transferred, shared, is_idle_byte_load, is_idle_store, step_for, stepped, is_common_load, load_for, loaded_on}
use Rattle.c65_pass.specs.Registers.{is_same_register, part_of, loaded_by, stored_by, load_op, transfer_by, alone}
use Rattle.c65_optarith_law.specs.Straight.{GoesOn, Steps, Agree}
use Rattle.c65_optarith_law.proofs.Agreeing.{DifferIn, agree_same, agree_dead}
use Rattle.c65_optload_law.proofs.Registers.{as_is, held, with_reg, load_is, store_is, move_is, with_held, same_register, one_register, dead_register, same_value, free_value, known_held, has_held, agreed_both}

-- ---- one register

register_dead : (table : Table) (q : ℕ) (o : Option Register) → is_register_dead table q o ≡ true → (r : Register) × (o ≡ Some r) × (is_dead table q (set_of (part_of r ∷ parts.N ∷ parts.Z ∷ [])) ≡ true)
register_dead table q None h = absurd cc
register_dead table q (Some r) h = (r, refl, h)

target_of : (o : Option Transfer) (r : Register) → target o ≡ Some r → (m : Transfer) × (o ≡ Some m) × (m.to ≡ r)
target_of None r h = absurd cc
target_of (Some m) r h = let same : m.to ≡ r = cc in (m, refl, same)

value_free : (known : Option Note) (table : Table) (q : ℕ) (o : Option ℕ) → is_value_free known table q o ≡ true → (v : ℕ) × (o ≡ Some v) × (is_free known table q v ≡ true)
value_free known table q None h = absurd cc
value_free known table q (Some v) h = (v, refl, h)

carried_is : (known : Option Note) (o : Option Transfer) (v : ℕ) → carried known o ≡ Some v → (m : Transfer) × (o ≡ Some m) × (known_of known m.from ≡ Some v) × (known_of known m.to ≡ Some v)
carried_is known None v h = absurd cc
carried_is known (Some m) v h = let both = agreed_both (known_of known m.from) (known_of known m.to) v h in (m, refl, both.0, both.1)

pub shared_is : (known : Option Note) (o : Option Register) (i v : ℕ) → shared known o i ≡ Some v → (r : Register) × (o ≡ Some r) × (known_of known r ≡ Some v) × (byte_of known i ≡ Some v)
shared_is known None i v h = absurd cc
shared_is known (Some r) i v h = let both = agreed_both (known_of known r) (byte_of known i) v h in (r, refl, both.0, both.1)

pub byte_held : (known : Option Note) (t : State) (i v : ℕ) → byte_of known i ≡ Some v → IsTrueOf known t → t.zp i ≡ v
byte_held None t i v e k = absurd cc
byte_held (Some n) t i v e k = as_is (zero_byte n i) v (t.zp i) e (zero_as n t i k)

module _ (dead : DeadIsNotLive) (table : Table) (q : ℕ) (s : Setting) where
  pub dead_load_agrees : (line : Line) (t u : State) → is_dead_load table q line ≡ true → Steps s line t u → Agree (live_after table q) u t
  dead_load_agrees (Do op mode operand) t u h step =
      let d = register_dead table q (loaded_by op) h in dead_register dead table q t u d.0 (value_at (ref_of mode (word_of s.place operand) t) t) (load_is s t u mode operand op d.0 d.1 step) d.2
  dead_load_agrees _ t u h step = absurd cc

  pub dead_transfer_agrees : (line : Line) (t u : State) → is_dead_transfer table q line ≡ true → Steps s line t u → Agree (live_after table q) u t
  dead_transfer_agrees (Do op mode operand) t u h step =
      let d = register_dead table q (target (transfer_by op)) h in
      let m = target_of (transfer_by op) d.0 d.1 in
      dead_register dead table q t u d.0 (held m.0.from t.regs) (subst (λ (r : Register). u ≡ record t { regs = with_reg r (held m.0.from t.regs) t.regs }) m.2 (move_is s t u mode operand op m.0 m.1 step)) d.2
  dead_transfer_agrees _ t u h step = absurd cc

  has_register : (known : Option Note) (o : Option Register) (v : ℕ) → has known o v ≡ true → (r : Register) × (o ≡ Some r) × (has known (Some r) v ≡ true)
  has_register known None v h = absurd cc
  has_register known (Some r) v h = (r, refl, h)

  pub idle_load_agrees : (known : Option Note) (line : Line) (t u : State) → is_idle_load known table q line ≡ true → IsTrueOf known t → Steps s line t u → Agree (live_after table q) u t
  idle_load_agrees known (Do op Immediate (Byte v)) t u h k step =
      let both = and_parts (has known (loaded_by op) v) (is_free known table q v) h in
      let r = has_register known (loaded_by op) v both.0 in
      free_value dead table q t u known r.0 v (load_is s t u Immediate (Byte v) op r.0 r.1 step) (sym (has_held known t r.0 v r.2 k)) both.1 k
  idle_load_agrees known _ t u h k step = absurd cc

  pub idle_transfer_agrees : (known : Option Note) (line : Line) (t u : State) → is_idle_transfer known table q line ≡ true → IsTrueOf known t → Steps s line t u → Agree (live_after table q) u t
  idle_transfer_agrees known (Do op mode operand) t u h k step =
      let v = value_free known table q (carried known (transfer_by op)) h in
      let m = carried_is known (transfer_by op) v.0 v.1 in
      let from = known_held known t m.0.from v.0 m.2 k in
      let to = known_held known t m.0.to v.0 m.3 k in
      free_value dead table q t u known m.0.to v.0 (subst (λ (x : ℕ). u ≡ record t { regs = with_reg m.0.to x t.regs }) from (move_is s t u mode operand op m.0 m.1 step)) (sym to) v.2 k
  idle_transfer_agrees known _ t u h k step = absurd cc

  pub idle_byte_load_agrees : (known : Option Note) (line : Line) (t u : State) → is_idle_byte_load known table q line ≡ true → IsTrueOf known t → Steps s line t u → Agree (live_after table q) u t
  idle_byte_load_agrees known (Do op ZeroPage (Zero i)) t u h k step =
      let v = value_free known table q (shared known (loaded_by op) i) h in
      let r = shared_is known (loaded_by op) i v.0 v.1 in
      let reg = known_held known t r.0 v.0 r.2 k in
      let byte = byte_held known t i v.0 r.3 k in
      free_value dead table q t u known r.0 v.0 (subst (λ (x : ℕ). u ≡ record t { regs = with_reg r.0 x t.regs }) byte (load_is s t u ZeroPage (Zero i) op r.0 r.1 step)) (sym reg) v.2 k
  idle_byte_load_agrees known _ t u h k step = absurd cc
