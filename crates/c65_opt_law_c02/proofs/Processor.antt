-- Rules 41 to 45 are followed.
use Rattle.std.proofs.Common.{◌≡◌, ℕ, ◌+◌, ◌==◌, ◌&&◌, Bool, true, false, List, [], ◌∷◌, drop, Option, Some, refl, subst}
use Rattle.c65_mach.specs.declared.rows.Op.TheVariants as ops
use Rattle.c65_mach.specs.declared.rows.Mode.TheVariants.{Accumulator, Immediate, IndirectY, ZeroPageIndirect}
use Rattle.c65_code.specs.declared.line.Line.{Line}
use Rattle.c65_code.specs.declared.line.Line.TheVariants.{Do}
use Rattle.c65_code.specs.declared.line.Operand.TheVariants.{Nothing, Byte}
use Rattle.c65_code.specs.Forms.{form_of}
use Rattle.c65_code.specs.LineState.{State}
use Rattle.c65_code.specs.Parts.{set_of}
use Rattle.c65_code.specs.Placement.{Setting}
use Rattle.c65_live.specs.Samples.{DeadIsNotLive}
use Rattle.c65_live.specs.Tables.{Table, live_after, is_dead}
use Rattle.c65_pass.specs.ProcessorRules.{is_plain_place, line_if, zero_stored, stepped_up, stepped_down, loaded_through, stored_through, shorter, short_line, left_otherwise, processor_rule}
use Rattle.c65_pass.specs.Rewriting.{Rewriting}
use Rattle.c65_optarith_law.specs.Straight.{Steps, IsKept}
use Rattle.c65_optarith_law.proofs.Windows.{IsOwed, at_line as owed_at, instead_kept}
use Rattle.c65_opt_law_kept.specs.Laws.{RuleIsFollowed}
use Rattle.c65_opt_law_kept.proofs.Steps.{IsStep}
use Rattle.c65_opt_law_kept.proofs.Kept.{InRow, kept_is_followed}
use Rattle.c65_opt_law_kept.proofs.Made.{at_line as row_at, instead_row}
use Rattle.c65_opt_law_c02.proofs.Leads.{Leads, zero_leads, up_leads, down_leads, load_leads, store_leads}

-- the two lines are operations, and so is the one
abbrev AreSteps : Line → Line → Line → Type 0
AreSteps line next l = IsStep (form_of line) × IsStep (form_of next) × IsStep (form_of l)

made : (fits : Bool) (line next new l : Line) → line_if fits new ≡ Some l → IsStep (form_of line) → IsStep (form_of next) → IsStep (form_of new) → AreSteps line next l
made true line next new l e first second third = let is : new ≡ l = cc in (first, second, subst (λ (x : Line). IsStep (form_of x)) is third)
made false line next new l e first second third = absurd cc

zero_steps : (line next l : Line) → zero_stored line next ≡ Some l → AreSteps line next l
zero_steps (Do ops.Lda Immediate (Byte v)) (Do ops.Sta mode operand) l e = made ((v == 0) && is_plain_place mode) (Do ops.Lda Immediate (Byte v)) (Do ops.Sta mode operand) (Do ops.Stz mode operand) l e tt tt tt
zero_steps _ _ l e = absurd cc

up_steps : (line next l : Line) → stepped_up line next ≡ Some l → AreSteps line next l
up_steps (Do ops.Clc mode operand) (Do ops.Adc Immediate (Byte v)) l e = made (v == 1) (Do ops.Clc mode operand) (Do ops.Adc Immediate (Byte v)) (Do ops.Inc Accumulator Nothing) l e tt tt tt
up_steps _ _ l e = absurd cc

down_steps : (line next l : Line) → stepped_down line next ≡ Some l → AreSteps line next l
down_steps (Do ops.Sec mode operand) (Do ops.Sbc Immediate (Byte v)) l e = made (v == 1) (Do ops.Sec mode operand) (Do ops.Sbc Immediate (Byte v)) (Do ops.Dec Accumulator Nothing) l e tt tt tt
down_steps _ _ l e = absurd cc

load_steps : (line next l : Line) → loaded_through line next ≡ Some l → AreSteps line next l
load_steps (Do ops.Ldy Immediate (Byte v)) (Do ops.Lda IndirectY operand) l e = made (v == 0) (Do ops.Ldy Immediate (Byte v)) (Do ops.Lda IndirectY operand) (Do ops.Lda ZeroPageIndirect operand) l e tt tt tt
load_steps _ _ l e = absurd cc

store_steps : (line next l : Line) → stored_through line next ≡ Some l → AreSteps line next l
store_steps (Do ops.Ldy Immediate (Byte v)) (Do ops.Sta IndirectY operand) l e = made (v == 0) (Do ops.Ldy Immediate (Byte v)) (Do ops.Sta IndirectY operand) (Do ops.Sta ZeroPageIndirect operand) l e tt tt tt
store_steps _ _ l e = absurd cc

-- ---- the rules

-- one line in place of two
module _ (lines : List Line) (at : ℕ) (line next : Line) (post : List Line) (w : Rewriting) (e : drop at lines ≡ line ∷ next ∷ post) where
  shorter_row : (free : Bool) (new : Option Line) → ((l : Line) → new ≡ Some l → AreSteps line next l) → shorter free at new ≡ Some w → InRow lines at w
  shorter_row true new steps m = instead_row lines at line next post w new e steps m
  shorter_row false new steps m = absurd cc

  shorter_kept : (s : Setting) (table : Table) (t u : State) (free : Bool) (new : Option Line) → ((l : Line) → new ≡ Some l → free ≡ true → (m : State) → Steps s line t m → Steps s next m u → Leads s (live_after table (at + 1)) l t u)
      → shorter free at new ≡ Some w → IsOwed s lines table at t u w
  shorter_kept s table t u true new leads m = instead_kept s lines table at t u line next post w new e (λ l is x first second. leads l is refl x first second) m
  shorter_kept s table t u false new leads m = absurd cc

-- what is owed of one of the rules
record IsShort (rule : ℕ) (table : Table) : Type 0 where
  steps : (line next l : Line) → short_line rule line next ≡ Some l → AreSteps line next l
  leads : (s : Setting) (q : ℕ) (line next l : Line) (t m u : State) → short_line rule line next ≡ Some l → is_dead table q (set_of (left_otherwise rule)) ≡ true → Steps s line t m → Steps s next m u → Leads s (live_after table q) l t u

rule_row : (rule : ℕ) (lines : List Line) (table : Table) (at : ℕ) (w : Rewriting) → IsShort rule table → (line : Line) (post : List Line) → drop at lines ≡ line ∷ post → processor_rule rule table at line post ≡ Some w → InRow lines at w
rule_row rule lines table at w short line [] e m = absurd cc
rule_row rule lines table at w short line (next ∷ post) e m = shorter_row lines at line next post w e (is_dead table (at + 1) (set_of (left_otherwise rule))) (short_line rule line next) (short.steps line next) m

rule_kept : (rule : ℕ) (s : Setting) (lines : List Line) (table : Table) (at : ℕ) (w : Rewriting) (t u : State) → IsShort rule table → (line : Line) (post : List Line) → drop at lines ≡ line ∷ post → processor_rule rule table at line post ≡ Some w → IsOwed s lines table at t u w
rule_kept rule s lines table at w t u short line [] e m = absurd cc
rule_kept rule s lines table at w t u short line (next ∷ post) e m =
    shorter_kept lines at line next post w e s table t u (is_dead table (at + 1) (set_of (left_otherwise rule))) (short_line rule line next) (λ l is d x first second. short.leads s (at + 1) line next l t x u is d first second) m

module _ (dead : DeadIsNotLive) where
  zero : (table : Table) → IsShort 41 table
  zero table = record { steps = zero_steps; leads = λ s q line next l t m u. zero_leads dead table q s line next l t m u }

  up : (table : Table) → IsShort 42 table
  up table = record { steps = up_steps; leads = λ s q line next l t m u. up_leads dead table q s line next l t m u }

  down : (table : Table) → IsShort 43 table
  down table = record { steps = down_steps; leads = λ s q line next l t m u. down_leads dead table q s line next l t m u }

  load : (table : Table) → IsShort 44 table
  load table = record { steps = load_steps; leads = λ s q line next l t m u. load_leads dead table q s line next l t m u }

  store : (table : Table) → IsShort 45 table
  store table = record { steps = store_steps; leads = λ s q line next l t m u. store_leads dead table q s line next l t m u }

  zero_kept : IsKept 41
  zero_kept s literals noted table at w t u m so = owed_at 41 literals noted table at w s t u (rule_kept 41 s noted.lines table at w t u (zero table)) m

  up_kept : IsKept 42
  up_kept s literals noted table at w t u m so = owed_at 42 literals noted table at w s t u (rule_kept 42 s noted.lines table at w t u (up table)) m

  down_kept : IsKept 43
  down_kept s literals noted table at w t u m so = owed_at 43 literals noted table at w s t u (rule_kept 43 s noted.lines table at w t u (down table)) m

  load_kept : IsKept 44
  load_kept s literals noted table at w t u m so = owed_at 44 literals noted table at w s t u (rule_kept 44 s noted.lines table at w t u (load table)) m

  store_kept : IsKept 45
  store_kept s literals noted table at w t u m so = owed_at 45 literals noted table at w s t u (rule_kept 45 s noted.lines table at w t u (store table)) m

  pub zero_followed : RuleIsFollowed 41
  zero_followed = kept_is_followed 41 zero_kept (λ out literals lines table at w m. row_at 41 out literals lines table at w (rule_row 41 lines table at w (zero table)) m)

  pub up_followed : RuleIsFollowed 42
  up_followed = kept_is_followed 42 up_kept (λ out literals lines table at w m. row_at 42 out literals lines table at w (rule_row 42 lines table at w (up table)) m)

  pub down_followed : RuleIsFollowed 43
  down_followed = kept_is_followed 43 down_kept (λ out literals lines table at w m. row_at 43 out literals lines table at w (rule_row 43 lines table at w (down table)) m)

  pub load_followed : RuleIsFollowed 44
  load_followed = kept_is_followed 44 load_kept (λ out literals lines table at w m. row_at 44 out literals lines table at w (rule_row 44 lines table at w (load table)) m)

  pub store_followed : RuleIsFollowed 45
  store_followed = kept_is_followed 45 store_kept (λ out literals lines table at w m. row_at 45 out literals lines table at w (rule_row 45 lines table at w (store table)) m)
