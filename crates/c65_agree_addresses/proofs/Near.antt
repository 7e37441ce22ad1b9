-- Lines that bring an address to AX, as words.
use Rattle.std.proofs.Common.{◌≡◌, ℕ, ◌+◌, ◌-◌, ◌*◌, ◌/◌, ◌%◌, ◌<◌, ◌≤◌, inr, List, [], ◌∷◌, ◌++◌, length, Bool, true, false, refl, sym, ap, ◌∙◌, subst, arith}
use Rattle.std.specs.Prelude.{nat_lt, ◌==◌, if◌then◌else◌}
use Rattle.std.proofs.lemmas.List.{append-nil}
use Rattle.std.proofs.lemmas.Bool.{eqb-true, ltb-true, ltb-false}
use Rattle.c65_ints.specs.declared.types.IntType.TheVariants.{UInt}
use Rattle.c65_mach.specs.declared.rows.Op.TheVariants.{Lda, Ldx}
use Rattle.c65_mach.specs.State.{Regs}
use Rattle.c65_mach.specs.Step.{bit, apply}
use Rattle.c65_meaning.specs.State.{Scene}
use Rattle.c65_code.specs.declared.line.Sym.{Sym}
use Rattle.c65_code.specs.declared.line.Line.{Line}
use Rattle.c65_code.specs.declared.routine.Routine.TheVariants.{LdAi}
use Rattle.c65_code.specs.declared.routine.Width.TheVariants.{Ax}
use Rattle.c65_code.specs.LineState.{State, sp_of, ax_of, IsBytes}
use Rattle.c65_code.specs.Placement.{IsPlacement, located, stack_end}
use Rattle.c65_genwide.specs.Lines.{call}
use Rattle.c65_genload.specs.Words.{high_of, low_of}
use Rattle.c65_genload.specs.Numbers.{add_word_code, add_code}
use Rattle.c65_genload.specs.Addresses.{symbol_code, address_code, above_code, raised_code, offset_code}
use Rattle.c65_gendirect.specs.declared.bytes.OperandByte.TheVariants.{Low, High}
use Rattle.c65_agree_store.specs.Stands.{Placing, Banks}
use Rattle.c65_agree_state.specs.World.{World, Active}
use Rattle.c65_agree_state.specs.Exprs.{Ready, Kept}
use Rattle.c65_agree_state.proofs.Nodes.{ready_stays}
use Rattle.c65_agree_state.proofs.Parts.{kept_goes_on}
use Rattle.c65_agree_rows.specs.Rows.{FarByte}
use Rattle.c65_agree_rows.specs.Laws.{IsKeptWith}
use Rattle.c65_agree_rows.proofs.Loads.{far_loads_run}
use Rattle.c65_agree_frame.specs.Leads.{Leads}
use Rattle.c65_agree_frame.proofs.Leads.{none_leads, leads_then, leads_as, after_lines}
use Rattle.c65_agree_load.proofs.Kept.{is_on, runs_lead}
use Rattle.c65_agree_direct.specs.Operands.{Loads, LoadsX}
use Rattle.c65_agree_operate.proofs.Exact.{at_regs, To, on_byte, operand_leads, leads_from, registers_kept}
use Rattle.c65_agree_quick.specs.Laws.{IsNow}
use Rattle.c65_agree_quick.proofs.Scratch.{AreScratch, scratch_leads, still_now, now_then}

-- ---- a word and another one

-- two bytes and their carry
sum_is : (a x l h : ℕ) → a < 256 → x < 256 → l < 256 → h < 256 → (a + l + bit false) % 256 + 256 * ((x + h + bit (nat_lt 255 (a + l + bit false))) % 256) ≡ (a + 256 * x + (l + 256 * h)) % 65536
sum_is a x l h one two three four = by (nat_lt 255 (a + l + 0)) refl
  where
    by : (b : Bool) → nat_lt 255 (a + l + 0) ≡ b → (a + l + 0) % 256 + 256 * ((x + h + bit b) % 256) ≡ (a + 256 * x + (l + 256 * h)) % 65536
    by true e = let more : 255 < a + l + 0 = ltb-true 255 (a + l + 0) e in omega arith
    by false e = let less : a + l + 0 ≤ 255 = ltb-false 255 (a + l + 0) e in omega arith

module _ (g : World) (a : Active) (pushed needs : ℕ) (c : Scene) (w : Placing) (b : Banks) (placed : IsPlacement g.code g.place) where
  abbrev Now : State → ℕ → State → Type 0
  Now t n u = IsNow g a c w b Ax n t u

  -- sp and a number
  pub address_leads : (n : ℕ) (t : State) → n < 65536 → Ready g a pushed needs c w b t → Leads g a (address_code n) 8 t (Now t ((sp_of t + n) % 65536))
  address_leads n t small ready =
      let bytes : IsBytes t = ready.joins.bytes in
      let word : ax_of (after_lines g (address_code n) t) ≡ (sp_of t + n) % 65536 = sum_is (t.zp 0) (t.zp 1) (n % 256) (n / 256) (bytes.zp 0) (bytes.zp 1) (omega arith) (omega (arith, small)) ∙ omega (arith, small) in
      scratch_leads g a pushed needs c w b Ax placed (address_code n) ((sp_of t + n) % 65536) t ready (tt, (omega arith, (omega arith, (tt, (omega arith, (omega (arith, small), (tt, (tt, tt)))))))) word

  -- AX and a number
  pub add_leads : (n : ℕ) (t : State) → Ready g a pushed needs c w b t → Leads g a (add_code UInt n) 7 t (Now t ((ax_of t + n) % 65536))
  add_leads n t ready =
      let bytes : IsBytes t = ready.joins.bytes in
      let word : ax_of (after_lines g (add_word_code n) t) ≡ (ax_of t + n) % 65536 = sum_is t.regs.a t.regs.x (n % 256) (n / 256 % 256) bytes.a bytes.x (omega arith) (omega arith) ∙ omega arith in
      scratch_leads g a pushed needs c w b Ax placed (add_code UInt n) ((ax_of t + n) % 65536) t ready (tt, (omega arith, (tt, (tt, (omega arith, (tt, (tt, tt))))))) word

  -- sp and the number in A
  above_leads : (t : State) → Ready g a pushed needs c w b t → Leads g a above_code 7 t (Now t ((sp_of t + t.regs.a) % 65536))
  above_leads t ready =
      let bytes : IsBytes t = ready.joins.bytes in
      let word : ax_of (after_lines g above_code t) ≡ (sp_of t + t.regs.a) % 65536 = sum_is t.regs.a 0 (t.zp 0) (t.zp 1) bytes.a (omega arith) (bytes.zp 0) (bytes.zp 1) ∙ omega arith in
      scratch_leads g a pushed needs c w b Ax placed above_code ((sp_of t + t.regs.a) % 65536) t ready (tt, (omega arith, (tt, (omega arith, (omega arith, (tt, (tt, tt))))))) word

  -- so many bytes behind an address in AX
  pub offset_leads : (n : ℕ) (t : State) → Ready g a pushed needs c w b t → Leads g a (offset_code n) 7 t (Now t ((ax_of t + n) % 65536))
  offset_leads n t ready = by (n == 0) refl
    where
      by : (z : Bool) → (n == 0) ≡ z → Leads g a (if z then [] else add_code UInt n) 7 t (Now t ((ax_of t + n) % 65536))
      by true e =
          let none : n ≡ 0 = eqb-true n 0 e in
          let bytes : IsBytes t = ready.joins.bytes in
          let same : ax_of t ≡ (ax_of t + n) % 65536 = omega (arith, none, bytes.a, bytes.x) in
          leads_as g a [] 0 7 t (Now t ((ax_of t + n) % 65536)) (Now t ((ax_of t + n) % 65536)) (omega arith) (λ u h. h) (none_leads g a t (Now t ((ax_of t + n) % 65536)) (still_now g a pushed needs c w b Ax placed ((ax_of t + n) % 65536) t ready same))
      by false e = add_leads n t ready

  -- ---- a symbol

  pub symbol_leads : (symbol : Sym) (at : ℕ) (t : State) → Ready g a pushed needs c w b t → Leads g a (symbol_code symbol at) 4 t (Now t (located g.place symbol at))
  symbol_leads symbol at t ready =
      let on = is_on g a pushed needs c w b t placed ready in
      let bytes : IsBytes t = ready.joins.bytes in
      let r1 : Regs = on_byte g t LoadsX (High symbol at) t.regs in
      let r2 : Regs = on_byte g t Loads (Low symbol at) r1 in
      let below : located g.place symbol at < 65536 = omega arith in
      leads_then g a (high_of Ldx symbol at ∷ []) (low_of Lda symbol at ∷ []) 2 2 t (To t r1) (Now t (located g.place symbol at)) (operand_leads g a t placed on LoadsX (High symbol at) t.regs tt bytes) (λ u h.
      leads_from g a (low_of Lda symbol at ∷ []) 2 t u r1 (Now t (located g.place symbol at)) h (λ b2.
      leads_as g a (low_of Lda symbol at ∷ []) 2 2 (at_regs t r1) (To t r2) (Now t (located g.place symbol at)) (omega arith)
      (λ v k. record { kept = registers_kept g a pushed needs c w b t v placed ready (k.0 ∙ ap (at_regs t) (same_regs v r2 k.0)) k.1; word = ap ax_of k.0 ∙ omega (arith, below) })
      (operand_leads g a t placed on Loads (Low symbol at) r1 tt b2)))
    where
      same_regs : (v : State) (r : Regs) → v ≡ at_regs t r → r ≡ v.regs
      same_regs v r e = sym (ap (λ (z : State). z.regs) e)

  -- ---- a parameter of a variadic function: the byte at the base says how many bytes the call has passed

  module _ (k : ℕ) (told : (u : State) → Ready g a pushed needs c w b u → u.mem a.base ≡ k) (few : k < 256) (low : a.base < stack_end) where
    count_leads : (t : State) → Ready g a pushed needs c w b t → ax_of t ≡ a.base → Leads g a (call LdAi ∷ []) 256 t (Now t k)
    count_leads t ready is =
        leads_as g a (call LdAi ∷ []) 256 256 t (IsKeptWith g a c w b t (λ u. ax_of u ≡ t.mem (ax_of t))) (Now t k) (omega arith)
        (λ u h. record { kept = h.kept; word = h.result ∙ ap t.mem is ∙ told t ready })
        (runs_lead g a pushed needs c w b t LdAi (IsKeptWith g a c w b t (λ u. ax_of u ≡ t.mem (ax_of t))) (omega arith) ready
        (far_loads_run g a pushed needs c w b t FarByte placed ready (λ i lt. inr (omega (arith, lt, is, ready.sp), omega (arith, lt, is, low)))))

    -- the number in A is in AX too
    higher : (n : ℕ) (t : State) → Ready g a pushed needs c w b t → ax_of t ≡ k → Leads g a (above_code ++ add_code UInt n) (7 + 7) t (Now t ((a.base + 65536 - pushed + k + n) % 65536))
    higher n t ready is =
        let bytes : IsBytes t = ready.joins.bytes in
        let own : t.regs.a ≡ k = omega (arith, is, few, bytes.a) in
        let at : ℕ = (sp_of t + t.regs.a) % 65536 in
        let end : (at + n) % 65536 ≡ (a.base + 65536 - pushed + k + n) % 65536 = omega (arith, own, ready.sp, low) in
        now_then g a pushed needs c w b Ax placed above_code (add_code UInt n) 7 7 at ((a.base + 65536 - pushed + k + n) % 65536) t ready (above_leads t ready) (λ u ready2 is2.
        subst (λ m. Leads g a (add_code UInt n) 7 u (Now u m)) (ap (λ m. (m + n) % 65536) is2 ∙ end) (add_leads n u ready2))

    pub raised_leads : (n : ℕ) (t : State) → Ready g a pushed needs c w b t → Leads g a (raised_code pushed n) (8 + (256 + (7 + 7))) t (Now t ((a.base + 65536 - pushed + k + n) % 65536))
    raised_leads n t ready =
        let small : pushed < 65536 = omega (arith, ready.sp, low) in
        let base_is : (sp_of t + pushed) % 65536 ≡ a.base = omega (arith, ready.sp, low) in
        let last : ℕ = (a.base + 65536 - pushed + k + n) % 65536 in
        now_then g a pushed needs c w b Ax placed (address_code pushed) (call LdAi ∷ (above_code ++ add_code UInt n)) 8 (256 + (7 + 7)) ((sp_of t + pushed) % 65536) last t ready (address_leads pushed t small ready) (λ u ready2 is.
        now_then g a pushed needs c w b Ax placed (call LdAi ∷ []) (above_code ++ add_code UInt n) 256 (7 + 7) k last u ready2 (count_leads u ready2 (is ∙ base_is)) (λ v ready3 is2. higher n v ready3 is2))
