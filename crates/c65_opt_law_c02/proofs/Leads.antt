-- Lines of the 65C02 lead where the two lines lead for which they stand.
use Rattle.std.proofs.Common.{◌≡◌, ℕ, ◌+◌, ◌-◌, ◌%◌, ◌<◌, ◌==◌, ◌&&◌, Bool, true, false, [], ◌∷◌, Some, None, refl, sym, subst, ap, ◌∙◌, arith}
use Rattle.std.proofs.lemmas.Bool.{and_parts, eqb-true}
use Rattle.c65_mach.specs.declared.rows.Op.TheVariants as ops
use Rattle.c65_mach.specs.declared.rows.Mode.{Mode}
use Rattle.c65_mach.specs.declared.rows.Mode.TheVariants.{Accumulator, Immediate, ZeroPage, Absolute, IndirectY, ZeroPageIndirect}
use Rattle.c65_mach.specs.Step.{after, negative, with_a, with_y, summed}
use Rattle.c65_code.specs.declared.line.Line.{Line}
use Rattle.c65_code.specs.declared.line.Line.TheVariants.{Do}
use Rattle.c65_code.specs.declared.line.Operand.{Operand}
use Rattle.c65_code.specs.declared.line.Operand.TheVariants.{Nothing, Byte}
use Rattle.c65_code.specs.declared.parts.Part.TheVariants as parts
use Rattle.c65_code.specs.declared.parts.RegSet.{RegSet}
use Rattle.c65_code.specs.LineState.{write, State, zero_word, sp_of, IsBytes}
use Rattle.c65_code.specs.Parts.{set_of}
use Rattle.c65_code.specs.Placement.{Setting, word_of}
use Rattle.c65_code.specs.Steady.{IsCalm, IsOpen}
use Rattle.c65_live.specs.Samples.{DeadIsNotLive}
use Rattle.c65_live.specs.Tables.{Table, live_after, is_dead}
use Rattle.c65_pass.specs.ProcessorRules.{is_plain_place, line_if, zero_stored, stepped_up, stepped_down, loaded_through, stored_through}
use Rattle.c65_optarith_law.specs.Straight.{Steps, Agree}
use Rattle.c65_optarith_law.proofs.Agreeing.{DifferIn, agree_dead}

-- a line that leads where these lines led, but for what is not live
abbrev pub Leads : Setting → RegSet → Line → State → State → Type 0
Leads s live line t u = (v : State) × Steps s line t v × Agree live u v

given : (fits : Bool) (new l : Line) → line_if fits new ≡ Some l → (fits ≡ true) × (new ≡ l)
given true new l h = (refl, cc)
given false new l h = absurd cc

-- the states behind LDA #0, LDY #0, CLC and SEC
abbrev cleared : State → State
cleared t = record t { regs = with_a 0 t.regs }

abbrev indexed : State → State
indexed t = record t { regs = with_y 0 t.regs }

abbrev carried : Bool → State → State
carried c t = record t { regs = record t.regs { c = c } }

-- ---- registers that differ

module _ (t : State) where
  in_zero : DifferIn (set_of (parts.A ∷ parts.N ∷ parts.Z ∷ [])) (with_a 0 t.regs) t.regs
  in_zero = record { a = λ h. absurd cc; x = λ h. refl; y = λ h. refl; n = λ h. absurd cc; v = λ h. refl; z = λ h. absurd cc; c = λ h. refl }

  in_index : DifferIn (set_of (parts.Y ∷ parts.N ∷ parts.Z ∷ [])) (with_y 0 t.regs) t.regs
  in_index = record { a = λ h. refl; x = λ h. refl; y = λ h. absurd cc; n = λ h. absurd cc; v = λ h. refl; z = λ h. absurd cc; c = λ h. refl }

  in_loaded : (v : ℕ) → DifferIn (set_of (parts.Y ∷ [])) (with_a v (with_y 0 t.regs)) (with_a v t.regs)
  in_loaded v = record { a = λ h. refl; x = λ h. refl; y = λ h. absurd cc; n = λ h. refl; v = λ h. refl; z = λ h. refl; c = λ h. refl }

  in_summed : (w low : ℕ) (c : Bool) → (summed w (record t.regs { c = c })).a ≡ low → DifferIn (set_of (parts.V ∷ parts.C ∷ [])) (summed w (record t.regs { c = c })) (record (with_a low t.regs) { c = t.regs.c })
  in_summed w low c e = record { a = λ h. e; x = λ h. refl; y = λ h. refl; n = λ h. ap negative e; v = λ h. absurd cc; z = λ h. ap (λ (x : ℕ). x == 0) e; c = λ h. absurd cc }

-- ---- addresses

-- a pointer holds a number below 65,536
without_index : (t : State) (w : ℕ) → IsBytes t → after (zero_word t w) 0 ≡ zero_word t w
without_index t w b = omega (arith, b.zp w, b.zp ((w + 1) % 256))

module _ (dead : DeadIsNotLive) (table : Table) (q : ℕ) (s : Setting) (t u : State) (running : t.ended ≡ None) (calm : IsCalm s t) where
  abbrev To : Line → Type 0
  To line = Leads s (live_after table q) line t u

  abbrev IsFree : RegSet → Type 0
  IsFree those = is_dead table q those ≡ true

  -- ---- a zero that is stored

  cleared_same : (v : State) → u ≡ record v { regs = with_a 0 t.regs } → v.regs ≡ t.regs → IsFree (set_of (parts.A ∷ parts.N ∷ parts.Z ∷ [])) → Agree (live_after table q) u v
  cleared_same v is same d = agree_dead dead table q (set_of (parts.A ∷ parts.N ∷ parts.Z ∷ [])) v u (with_a 0 t.regs) is d (subst (DifferIn (set_of (parts.A ∷ parts.N ∷ parts.Z ∷ [])) (with_a 0 t.regs)) (sym same) (in_zero t))

  zero_put : (mode : Mode) (operand : Operand) → is_plain_place mode ≡ true → IsFree (set_of (parts.A ∷ parts.N ∷ parts.Z ∷ [])) → Steps s (Do ops.Sta mode operand) (cleared t) u → To (Do ops.Stz mode operand)
  zero_put ZeroPage operand h d step =
      let w : ℕ = word_of s.place operand in
      let b = calm.bytes in
      let byte : (i : ℕ) → write t.zp w 0 i < 256 = λ i. subst (λ (x : State). x.zp i < 256) step.does (step.bytes.zp i) in (
        record t { zp = write t.zp w 0 },
        record { onward = tt; running = running; steady = record { calm = calm; within = step.steady.within }; does = refl; bytes = record { a = b.a; x = b.x; y = b.y; zp = byte; mem = b.mem; pushed = b.pushed; frames = b.frames } },
        cleared_same (record t { zp = write t.zp w 0 }) step.does refl d,
      )
  zero_put Absolute operand h d step =
      let w : ℕ = word_of s.place operand in
      let b = calm.bytes in
      let byte : (i : ℕ) → write t.mem w 0 i < 256 = λ i. subst (λ (x : State). x.mem i < 256) step.does (step.bytes.mem i) in (
        record t { mem = write t.mem w 0 },
        record { onward = tt; running = running; steady = record { calm = calm; within = step.steady.within }; does = refl; bytes = record { a = b.a; x = b.x; y = b.y; zp = b.zp; mem = byte; pushed = b.pushed; frames = b.frames } },
        cleared_same (record t { mem = write t.mem w 0 }) step.does refl d,
      )
  zero_put _ operand h d step = absurd cc

  -- ---- A counted

  counted : (w low : ℕ) (c : Bool) → u ≡ record t { regs = summed w (record t.regs { c = c }) } → (summed w (record t.regs { c = c })).a ≡ low → IsFree (set_of (parts.V ∷ parts.C ∷ []))
      → Agree (live_after table q) u (record t { regs = record (with_a low t.regs) { c = t.regs.c } })
  counted w low c is e d =
      agree_dead dead table q (set_of (parts.V ∷ parts.C ∷ [])) (record t { regs = record (with_a low t.regs) { c = t.regs.c } }) u (summed w (record t.regs { c = c })) is d (in_summed t w low c e)

  with_byte : (v : ℕ) → v < 256 → IsBytes (record t { regs = record (with_a v t.regs) { c = t.regs.c } })
  with_byte v small = let b = calm.bytes in record { a = small; x = b.x; y = b.y; zp = b.zp; mem = b.mem; pushed = b.pushed; frames = b.frames }

  added_one : IsFree (set_of (parts.V ∷ parts.C ∷ [])) → u ≡ record t { regs = summed 1 (record t.regs { c = false }) } → To (Do ops.Inc Accumulator Nothing)
  added_one d is =
      let low : ℕ = (t.regs.a + 1) % 256 in
      let e : (t.regs.a + 1 + 0) % 256 ≡ (t.regs.a + 1) % 256 = omega arith in
      let small : (t.regs.a + 1) % 256 < 256 = omega arith in (
        record t { regs = record (with_a low t.regs) { c = t.regs.c } },
        record { onward = tt; running = running; steady = record { calm = calm; within = tt }; does = refl; bytes = with_byte low small },
        counted 1 low false is e d,
      )

  taken_one : IsFree (set_of (parts.V ∷ parts.C ∷ [])) → u ≡ record t { regs = summed 254 (record t.regs { c = true }) } → To (Do ops.Dec Accumulator Nothing)
  taken_one d is =
      let low : ℕ = (t.regs.a + 255) % 256 in
      let e : (t.regs.a + 254 + 1) % 256 ≡ (t.regs.a + 255) % 256 = omega arith in
      let small : (t.regs.a + 255) % 256 < 256 = omega arith in (
        record t { regs = record (with_a low t.regs) { c = t.regs.c } },
        record { onward = tt; running = running; steady = record { calm = calm; within = tt }; does = refl; bytes = with_byte low small },
        counted 254 low true is e d,
      )

  -- ---- a byte to which a pointer points

  module _ (operand : Operand) where
    same_place : after (zero_word t (word_of s.place operand)) 0 ≡ zero_word t (word_of s.place operand)
    same_place = without_index t (word_of s.place operand) calm.bytes

    open_there : IsOpen s.place (sp_of t) (after (zero_word t (word_of s.place operand)) 0) → IsOpen s.place (sp_of t) (zero_word t (word_of s.place operand))
    open_there h = subst (IsOpen s.place (sp_of t)) same_place h

    byte_loaded : IsFree (set_of (parts.Y ∷ [])) → Steps s (Do ops.Lda IndirectY operand) (indexed t) u → To (Do ops.Lda ZeroPageIndirect operand)
    byte_loaded d step =
        let v : ℕ = t.mem (zero_word t (word_of s.place operand)) in
        let b = calm.bytes in
        let is : u ≡ record t { regs = with_a v (with_y 0 t.regs) } = step.does ∙ ap (λ (x : ℕ). record t { regs = with_a (t.mem x) (with_y 0 t.regs) }) same_place in (
          record t { regs = with_a v t.regs },
          record { onward = tt; running = running; steady = record { calm = calm; within = open_there step.steady.within }; does = refl; bytes = record { a = b.mem (zero_word t (word_of s.place operand)); x = b.x; y = b.y; zp = b.zp; mem = b.mem; pushed = b.pushed; frames = b.frames } },
          agree_dead dead table q (set_of (parts.Y ∷ [])) (record t { regs = with_a v t.regs }) u (with_a v (with_y 0 t.regs)) is d (in_loaded t v),
        )

    byte_stored : IsFree (set_of (parts.Y ∷ parts.N ∷ parts.Z ∷ [])) → Steps s (Do ops.Sta IndirectY operand) (indexed t) u → To (Do ops.Sta ZeroPageIndirect operand)
    byte_stored d step =
        let mem : ℕ → ℕ = write t.mem (zero_word t (word_of s.place operand)) t.regs.a in
        let b = calm.bytes in
        let is : u ≡ record t { mem = mem; regs = with_y 0 t.regs } = step.does ∙ ap (λ (x : ℕ). record t { mem = write t.mem x t.regs.a; regs = with_y 0 t.regs }) same_place in
        let byte : (i : ℕ) → mem i < 256 = λ i. subst (λ (x : State). x.mem i < 256) is (step.bytes.mem i) in (
          record t { mem = mem },
          record { onward = tt; running = running; steady = record { calm = calm; within = open_there step.steady.within }; does = refl; bytes = record { a = b.a; x = b.x; y = b.y; zp = b.zp; mem = byte; pushed = b.pushed; frames = b.frames } },
          agree_dead dead table q (set_of (parts.Y ∷ parts.N ∷ parts.Z ∷ [])) (record t { mem = mem }) u (with_y 0 t.regs) is d (in_index t),
        )

-- ---- the lines of the rules

module _ (dead : DeadIsNotLive) (table : Table) (q : ℕ) (s : Setting) where
  pub zero_leads : (line next l : Line) (t m u : State) → zero_stored line next ≡ Some l → is_dead table q (set_of (parts.A ∷ parts.N ∷ parts.Z ∷ [])) ≡ true → Steps s line t m → Steps s next m u → Leads s (live_after table q) l t u
  zero_leads (Do ops.Lda Immediate (Byte v)) (Do ops.Sta mode operand) l t m u e d first second =
      let is = given ((v == 0) && is_plain_place mode) (Do ops.Stz mode operand) l e in
      let both = and_parts (v == 0) (is_plain_place mode) is.0 in
      let behind : m ≡ cleared t = first.does ∙ ap (λ (x : ℕ). record t { regs = with_a x t.regs }) (eqb-true v 0 both.0) in
      subst (λ (x : Line). Leads s (live_after table q) x t u) is.1 (zero_put dead table q s t u first.running first.steady.calm mode operand both.1 d (subst (λ (x : State). Steps s (Do ops.Sta mode operand) x u) behind second))
  zero_leads _ _ l t m u e d first second = absurd cc

  pub up_leads : (line next l : Line) (t m u : State) → stepped_up line next ≡ Some l → is_dead table q (set_of (parts.V ∷ parts.C ∷ [])) ≡ true → Steps s line t m → Steps s next m u → Leads s (live_after table q) l t u
  up_leads (Do ops.Clc mode operand) (Do ops.Adc Immediate (Byte v)) l t m u e d first second =
      let is = given (v == 1) (Do ops.Inc Accumulator Nothing) l e in
      let sum : u ≡ record t { regs = summed 1 (record t.regs { c = false }) } = second.does ∙ (ap (λ (x : State). record x { regs = summed v x.regs }) first.does ∙ ap (λ (x : ℕ). record t { regs = summed x (record t.regs { c = false }) }) (eqb-true v 1 is.0)) in
      subst (λ (x : Line). Leads s (live_after table q) x t u) is.1 (added_one dead table q s t u first.running first.steady.calm d sum)
  up_leads _ _ l t m u e d first second = absurd cc

  pub down_leads : (line next l : Line) (t m u : State) → stepped_down line next ≡ Some l → is_dead table q (set_of (parts.V ∷ parts.C ∷ [])) ≡ true → Steps s line t m → Steps s next m u → Leads s (live_after table q) l t u
  down_leads (Do ops.Sec mode operand) (Do ops.Sbc Immediate (Byte v)) l t m u e d first second =
      let is = given (v == 1) (Do ops.Dec Accumulator Nothing) l e in
      let sum : u ≡ record t { regs = summed 254 (record t.regs { c = true }) } = second.does ∙ (ap (λ (x : State). record x { regs = summed (255 - v) x.regs }) first.does ∙ ap (λ (x : ℕ). record t { regs = summed (255 - x) (record t.regs { c = true }) }) (eqb-true v 1 is.0)) in
      subst (λ (x : Line). Leads s (live_after table q) x t u) is.1 (taken_one dead table q s t u first.running first.steady.calm d sum)
  down_leads _ _ l t m u e d first second = absurd cc

  pub load_leads : (line next l : Line) (t m u : State) → loaded_through line next ≡ Some l → is_dead table q (set_of (parts.Y ∷ [])) ≡ true → Steps s line t m → Steps s next m u → Leads s (live_after table q) l t u
  load_leads (Do ops.Ldy Immediate (Byte v)) (Do ops.Lda IndirectY operand) l t m u e d first second =
      let is = given (v == 0) (Do ops.Lda ZeroPageIndirect operand) l e in
      let behind : m ≡ indexed t = first.does ∙ ap (λ (x : ℕ). record t { regs = with_y x t.regs }) (eqb-true v 0 is.0) in
      subst (λ (x : Line). Leads s (live_after table q) x t u) is.1 (byte_loaded dead table q s t u first.running first.steady.calm operand d (subst (λ (x : State). Steps s (Do ops.Lda IndirectY operand) x u) behind second))
  load_leads _ _ l t m u e d first second = absurd cc

  pub store_leads : (line next l : Line) (t m u : State) → stored_through line next ≡ Some l → is_dead table q (set_of (parts.Y ∷ parts.N ∷ parts.Z ∷ [])) ≡ true → Steps s line t m → Steps s next m u → Leads s (live_after table q) l t u
  store_leads (Do ops.Ldy Immediate (Byte v)) (Do ops.Sta IndirectY operand) l t m u e d first second =
      let is = given (v == 0) (Do ops.Sta ZeroPageIndirect operand) l e in
      let behind : m ≡ indexed t = first.does ∙ ap (λ (x : ℕ). record t { regs = with_y x t.regs }) (eqb-true v 0 is.0) in
      subst (λ (x : Line). Leads s (live_after table q) x t u) is.1 (byte_stored dead table q s t u first.running first.steady.calm operand d (subst (λ (x : State). Steps s (Do ops.Sta IndirectY operand) x u) behind second))
  store_leads _ _ l t m u e d first second = absurd cc
