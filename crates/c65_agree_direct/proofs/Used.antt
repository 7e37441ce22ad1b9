-- Instructions on bytes that are read where they lie.
use Rattle.std.proofs.Common.{◌≡◌, ℕ, ◌+◌, inl, inr, [], ◌∷◌, false, refl, sym, ap, ◌∙◌, subst, arith}
use Rattle.c65_mach.specs.declared.rows.Op.{Op}
use Rattle.c65_mach.specs.declared.rows.Op.TheVariants.{Ldy}
use Rattle.c65_mach.specs.declared.rows.Mode.{Mode}
use Rattle.c65_mach.specs.declared.rows.Mode.TheVariants.{Immediate, ZeroPage, IndirectY, Absolute}
use Rattle.c65_mach.specs.State.{Regs}
use Rattle.c65_mach.specs.Step.{apply, after, Reads, kind_of}
use Rattle.c65_code.specs.declared.line.Operand.{Operand}
use Rattle.c65_code.specs.declared.line.Operand.TheVariants as operands
use Rattle.c65_code.specs.declared.line.Line.TheVariants.{Do}
use Rattle.c65_code.specs.LineState.{State, sp_of, zero_word, IsBytes}
use Rattle.c65_code.specs.Placement.{IsPlacement, word_of}
use Rattle.c65_code.specs.Forms.{op_form}
use Rattle.c65_code.specs.Moves.{ref_of, value_at, effect}
use Rattle.c65_code.specs.Steady.{IsOpen, IsAllowed}
use Rattle.c65_code.specs.LineLaws.{IsGivenByte}
use Rattle.c65_gendirect.specs.declared.bytes.OperandByte.TheVariants.{Number, Low, High, Near, Data, Zero}
use Rattle.c65_gendirect.specs.Bytes.{op_of}
use Rattle.c65_agree_state.specs.World.{World, Active}
use Rattle.c65_agree_put.proofs.Stores.{data_is_low}
use Rattle.c65_agree_frame.specs.Leads.{Leads, IsOn}
use Rattle.c65_agree_frame.proofs.Leads.{IsKept, kept_regs, after_lines, lines_lead, leads_as}
use Rattle.c65_agree_direct.specs.Operands.{MayRead, Reading, Loads, LoadsX, Adds, Subtracts, Compares, ComparesX, Conjoins, Disjoins, Excludes, op_in, with_operand}
use Rattle.c65_agree_direct.specs.Laws.{OperandBytesAreUsed}

reads : (r : Reading) → kind_of (op_in r) ≡ Reads
reads Loads = refl
reads LoadsX = refl
reads Adds = refl
reads Subtracts = refl
reads Compares = refl
reads ComparesX = refl
reads Conjoins = refl
reads Disjoins = refl
reads Excludes = refl

-- Y stays
keeps_y : (r : Reading) (v : ℕ) (s : Regs) → (apply false (op_in r) v s).y ≡ s.y
keeps_y Loads v s = refl
keeps_y LoadsX v s = refl
keeps_y Adds v s = refl
keeps_y Subtracts v s = refl
keeps_y Compares v s = refl
keeps_y ComparesX v s = refl
keeps_y Conjoins v s = refl
keeps_y Disjoins v s = refl
keeps_y Excludes v s = refl

-- or is lost before
behind_y : (r : Reading) (v at : ℕ) (s : Regs) → apply false (op_in r) v (apply false Ldy at s) ≡ record (apply false (op_in r) v s) { y = at }
behind_y Loads v at s = refl
behind_y LoadsX v at s = refl
behind_y Adds v at s = refl
behind_y Subtracts v at s = refl
behind_y Compares v at s = refl
behind_y ComparesX v at s = refl
behind_y Conjoins v at s = refl
behind_y Disjoins v at s = refl
behind_y Excludes v at s = refl

module _ (g : World) (a : Active) (r : Reading) (placed : IsPlacement g.code g.place) where
  -- one line on an operand
  line_leads : (mode : Mode) (operand : Operand) (t : State) → IsOn g t → IsAllowed g.place Reads (ref_of mode (word_of g.place operand) t) t → IsGivenByte (ref_of mode (word_of g.place operand) t)
      → Leads g a (Do (op_in r) mode operand ∷ []) 1 t (λ u. (u ≡ record t { regs = apply false (op_in r) (value_at (ref_of mode (word_of g.place operand) t) t) t.regs }) × IsBytes u)
  line_leads mode operand t on within given =
      let op : Op = op_in r in
      let n : ℕ = word_of g.place operand in
      let regs : Regs = apply false op (value_at (ref_of mode n t) t) t.regs in
      leads_as g a (Do op mode operand ∷ []) 1 1 t (λ u. (u ≡ after_lines g (Do op mode operand ∷ []) t) × IsBytes u) (λ u. (u ≡ record t { regs = regs }) × IsBytes u) (omega arith)
      (λ u h. (h.0 ∙ ap (λ kind. effect kind op mode n t) (reads r), h.1))
      (lines_lead g a (Do op mode operand ∷ []) t placed on (
        ap (λ kind. op_form kind op mode operand) (reads r),
        subst (λ kind. IsAllowed g.place kind (ref_of mode n t) t) (sym (reads r)) within,
        given,
        subst (λ kind. IsKept t (effect kind op mode n t)) (sym (reads r)) (kept_regs t regs),
        tt,
      ))

  -- and Y stays
  alone : (mode : Mode) (operand : Operand) (t : State) → IsOn g t → IsAllowed g.place Reads (ref_of mode (word_of g.place operand) t) t → IsGivenByte (ref_of mode (word_of g.place operand) t)
      → Leads g a (Do (op_in r) mode operand ∷ []) 2 t (λ u. (u ≡ record t { regs = record (apply false (op_in r) (value_at (ref_of mode (word_of g.place operand) t) t) t.regs) { y = t.regs.y } }) × IsBytes u)
  alone mode operand t on within given =
      let v : ℕ = value_at (ref_of mode (word_of g.place operand) t) t in
      leads_as g a (Do (op_in r) mode operand ∷ []) 1 2 t (λ u. (u ≡ record t { regs = apply false (op_in r) v t.regs }) × IsBytes u) (λ u. (u ≡ record t { regs = record (apply false (op_in r) v t.regs) { y = t.regs.y } }) × IsBytes u) (omega arith)
      (λ u h. (h.0 ∙ ap (λ y. record t { regs = record (apply false (op_in r) v t.regs) { y = y } }) (keeps_y r v t.regs), h.1))
      (line_leads mode operand t on within given)

  -- above sp
  module _ (at : ℕ) (t : State) (on : IsOn g t) (may : MayRead g t (Near at)) where
    abbrev between : State
    between = record t { regs = apply false Ldy at t.regs }

    abbrev from : ℕ
    from = after (zero_word t 0) at

    place : from ≡ sp_of t + at
    place = go may.1
      where
        go : IsOpen g.place (sp_of t) (sp_of t + at) → from ≡ sp_of t + at
        go (inl d) = let low = data_is_low g placed (sp_of t + at) d in omega (arith, low)
        go (inr h) = omega (arith, h.1)

    near : Leads g a (op_of (op_in r) (Near at)) 2 t (λ u. (u ≡ with_operand g r (Near at) t) × IsBytes u)
    near =
        let op : Op = op_in r in
        let opened : IsOpen g.place (sp_of t) from = subst (IsOpen g.place (sp_of t)) (sym place) may.1 in
        leads_as g a (op_of op (Near at)) 2 2 t (λ u. (u ≡ after_lines g (op_of op (Near at)) t) × IsBytes u) (λ u. (u ≡ with_operand g r (Near at) t) × IsBytes u) (omega arith)
        (λ u h. (h.0 ∙ ap (λ kind. effect kind op IndirectY 0 between) (reads r) ∙ ap (λ n. record t { regs = apply false op (t.mem n) (apply false Ldy at t.regs) }) place ∙ ap (λ s. record t { regs = s }) (behind_y r (t.mem (sp_of t + at)) at t.regs), h.1))
        (lines_lead g a (op_of op (Near at)) t placed on (
          refl,
          tt,
          may.0,
          kept_regs t (apply false Ldy at t.regs),
          (
            ap (λ kind. op_form kind op IndirectY (operands.Zero 0)) (reads r),
            subst (λ kind. IsAllowed g.place kind (ref_of IndirectY 0 between) between) (sym (reads r)) opened,
            tt,
            subst (λ kind. IsKept between (effect kind op IndirectY 0 between)) (sym (reads r)) (kept_regs between (apply false op (t.mem from) (apply false Ldy at t.regs))),
            tt,
          ),
        ))

pub operand_bytes_are_used : OperandBytesAreUsed
operand_bytes_are_used g a r (Number n) t placed on may = alone g a r placed Immediate (operands.Byte n) t on tt may
operand_bytes_are_used g a r (Low s at) t placed on may = alone g a r placed Immediate (operands.Low s at) t on tt (omega arith)
operand_bytes_are_used g a r (High s at) t placed on may = alone g a r placed Immediate (operands.High s at) t on tt (omega arith)
operand_bytes_are_used g a r (Near at) t placed on may = near g a r placed at t on may
operand_bytes_are_used g a r (Data s at) t placed on may = alone g a r placed Absolute (operands.At s at) t on may tt
operand_bytes_are_used g a r (Zero at) t placed on may = alone g a r placed ZeroPage (operands.Zero at) t on (may, λ h. absurd h) tt
