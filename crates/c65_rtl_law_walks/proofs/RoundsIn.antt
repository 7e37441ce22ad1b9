-- Loops that call nothing, where the number of bytes is given that they may push.
use Rattle.std.proofs.Common.{ℕ, ◌+◌, ◌≤◌, Bool, true, false, not, List, [], ◌∷◌, Option, Some, None, length, arith}
use Rattle.std.specs.Prelude.{if◌then◌else◌}
use Rattle.c65_mach.specs.Step.{kind_of, is_taken}
use Rattle.c65_code.specs.declared.line.Callee.{Callee}
use Rattle.c65_code.specs.declared.line.Line.{Line}
use Rattle.c65_code.specs.declared.line.Line.TheVariants.{Label, Do, Call}
use Rattle.c65_code.specs.declared.routine.Routine.{Routine}
use Rattle.c65_code.specs.LineState.{State}
use Rattle.c65_code.specs.Forms.{Form, Mark, Plain, Branch, Jump, Far, Push, Pull, Depth, Return, Run, Enter, Through, Stray, op_form}
use Rattle.c65_code.specs.Segments.{is_among}
use Rattle.c65_code.specs.RawMachine.{RawSetting, Bounds}
use Rattle.c65_rtl.specs.Short.{push_of, pushed_by}
use Rattle.c65_rtl.proofs.Ways.{Way, when}
use Rattle.c65_rtl.proofs.Rounds.{back_or_on, by_round, leads_round}
use Rattle.c65_rtl_law_walks.proofs.Walks.{Takes, Deeper, form_in, label_in, stray_in}
use Rattle.c65_rtl_law_walks.proofs.Turning.{by_turn, leads_turn}

when_more : (b : Bool) (P Q : Type 0) → (P → Q) → when b P → when b Q
when_more true P Q more h = more h
when_more false P Q more h = absurd h

module _ (s : RawSetting) (bounds : Bounds) (deepest : ℕ) (takes : Routine → Takes) (P : State → Type 0) (B : ℕ → State → Type 0) where
  abbrev More : ℕ → Way → Way → Type 0
  More n a b = Deeper s bounds deepest takes P n a b

  back_in : (among : Bool) (l n : ℕ) (a b : Way) → More n a b → (taken : Bool) (t : State) → length t.pushed + n ≤ deepest → back_or_on among (B l) a l taken t → back_or_on among (B l) b l taken t
  back_in true l n a b more true t few h = h
  back_in true l n a b more false t few h = more None t few h
  back_in false l n a b more true t few h = more (Some l) t few h
  back_in false l n a b more false t few h = more None t few h

  form_turn : (form : Form) (passed : List ℕ) (n : ℕ) (a b : Way) → More n a b → (t : State) → length t.pushed + (push_of form + n) ≤ deepest → by_round s.place bounds P B passed form a None t → by_turn s bounds deepest P B passed form b None t
  form_turn (Branch op l) passed n a b more t few h = λ taken e. back_in (is_among passed l) l n a b more taken t (omega arith) (h taken e)
  form_turn (Jump l) passed n a b more t few h = when_more (not (is_among passed l)) (a (Some l) t) (b (Some l) t) (more (Some l) t (omega arith)) h
  form_turn (Plain op mode operand) passed n a b more t few h = form_in s bounds deepest takes P (Plain op mode operand) n a b more t few h
  form_turn Push passed n a b more t few h = form_in s bounds deepest takes P Push n a b more t few h
  form_turn Pull passed n a b more t few h = form_in s bounds deepest takes P Pull n a b more t few h
  form_turn Return passed n a b more t few h = h
  form_turn Mark passed n a b more t few h = h
  form_turn (Far at) passed n a b more t few h = h
  form_turn Depth passed n a b more t few h = absurd h
  form_turn (Run r) passed n a b more t few h = h
  form_turn (Enter g reads gives) passed n a b more t few h = h
  form_turn (Through reads gives) passed n a b more t few h = h
  form_turn Stray passed n a b more t few h = h

  line_turn : (form : Form) (passed : List ℕ) (n : ℕ) (a b : Way) → More n a b → More (push_of form + n) (by_round s.place bounds P B passed form a) (by_turn s bounds deepest P B passed form b)
  line_turn form passed n a b more (Some l) t few h = more (Some l) t (omega arith) h
  line_turn form passed n a b more None t few h = form_turn form passed n a b more t few h

  pub round_in : (lines : List Line) (passed : List ℕ) → More (pushed_by lines) (leads_round s.place bounds P B passed lines) (leads_turn s bounds deepest takes P B passed lines)
  unfolding leads_round leads_turn
  round_in [] passed = λ skip t few h. h
  round_in (Label k ∷ lines) passed = λ skip t few h. label_in s bounds deepest takes P k (pushed_by lines) _ _ (round_in lines (k ∷ passed)) skip t (omega arith) h
  round_in (Do op mode operand ∷ lines) passed = line_turn (op_form (kind_of op) op mode operand) passed (pushed_by lines) _ _ (round_in lines passed)
  round_in (Call callee ∷ lines) passed = λ skip t few h. stray_in s bounds deepest takes P callee (pushed_by lines) _ _ (round_in lines passed) skip t (omega arith) h
