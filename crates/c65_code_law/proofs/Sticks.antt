-- A steady run goes on at every line.
use Rattle.std.proofs.Common.{◌≡◌, ℕ, suc, Option, Some, None, refl, sym, subst, arith}
use Rattle.c65_code.specs.declared.parts.RegSet.{RegSet}
use Rattle.c65_base.specs.declared.library.Library.{Library}
use Rattle.c65_code.specs.declared.routine.Routine.{Routine}
use Rattle.c65_code.specs.declared.routine.Routine.TheVariants as routines
use Rattle.c65_code.specs.declared.line.Callee.TheVariants.{Function}
use Rattle.c65_code.specs.declared.line.Line.{Line}
use Rattle.c65_code.specs.declared.line.Line.TheVariants.{Call}
use Rattle.c65_code.specs.Parts.{union_of}
use Rattle.c65_code.specs.Effects.{ptr4_bytes}
use Rattle.c65_code.specs.LineState.{Place, State, IsBytes}
use Rattle.c65_code.specs.Placement.{Placement, Setting}
use Rattle.c65_code.specs.Forms.{Form, Mark, Plain, Branch, Jump, Far, Push, Pull, Depth, Return, Run, Enter, Through, Stray, form_of}
use Rattle.c65_code.specs.Rows.{Row, row_of}
use Rattle.c65_code.specs.Moves.{settle, MeetsRow, Calls, Goes, IsCallee, Moves}
use Rattle.c65_code.specs.Steady.{IsCalm, IsCallable, IsWithin, RowHasRoom}
use Rattle.c65_code.specs.LineLaws.{IsOwn, given_of, IsGivenByte}
use Rattle.c65_code.proofs.StickLaws.{never_sticks as own_never_stick}
use Rattle.c65_code_law.specs.Laws.{NeverSticks}
use Rattle.c65_code_law.proofs.Routines.{MetIf, row_met}

-- a routine that has room has a row, which some state meets
routine_goes : (place : Placement) (o : Option Row) (t : State) → RowHasRoom place o t → MetIf o t → (u : State) × MeetsRow o t u × IsBytes u
routine_goes place None t h m = absurd h
routine_goes place (Some row) t h m = (m.after, m.meets, m.bytes)

module _ (s : Setting) (p : Place) (t : State) (running : t.ended ≡ None) (calm : IsCalm s t) where
  met_at : (r : Routine) → MetIf (row_of r t) t
  met_at r = row_met t calm.bytes calm.high r

  -- a call of a function with lines, or of one of the library
  call_goes : (f : ℕ) (passed reads gives : RegSet) (o : Option Library) → s.library f ≡ o → IsCallable s o f passed t → (q : Place) × (u : State) × Calls s o f reads gives p t q u × IsBytes u
  call_goes f passed reads gives (Some library) e h =
      let m = routine_goes s.place (row_of (routines.Library library) t) t h.0 (met_at (routines.Library library)) in
      ((p.0, settle (s.lines p.0) (suc p.1)), m.0, (refl, m.1), m.2)
  call_goes f passed reads gives None e h =
      let callable : IsCallable s (s.library f) f reads t = subst (λ (o : Option Library). IsCallable s o f reads t) (sym e) h in
      let gone = own_never_stick s (Call (Function (record { 0 = f }) reads gives)) p t e (omega arith) (record { calm = calm; within = callable }) running in
      (gone.0, gone.1, subst (λ (o : Option Library). Calls s o f reads gives p t gone.0 gone.1) e gone.2.goes, gone.2.bytes)

  through : (f : ℕ) (reads gives : RegSet) → IsCallee s t f → IsCallable s (s.library f) f reads t → (q : Place) × (u : State) × Goes s (Through reads gives) p t q u × IsBytes u
  through f reads gives callee h =
      let gone = call_goes f reads (union_of reads ptr4_bytes) gives (s.library f) refl h in
      (gone.0, gone.1, (f, callee, gone.2), gone.3)

  run : (r : Routine) → RowHasRoom s.place (row_of r t) t → (q : Place) × (u : State) × Goes s (Run r) p t q u × IsBytes u
  run r h = let m = routine_goes s.place (row_of r t) t h (met_at r) in ((p.0, settle (s.lines p.0) (suc p.1)), m.0, (refl, m.1), m.2)

abbrev Going : Setting → Line → Form → Place → State → Type 0
Going s l form p t = form_of l ≡ form → IsGivenByte (given_of s form t) → IsWithin s form t → (q : Place) × (u : State) × Moves s l p t q u

by_form : (s : Setting) (l : Line) (p : Place) (t : State) (form : Form) → t.ended ≡ None → IsCalm s t → (q : Place) × (u : State) × Goes s form p t q u × IsBytes u → form_of l ≡ form → (q : Place) × (u : State) × Moves s l p t q u
by_form s l p t form running calm g e = (g.0, g.1, record { running = running; goes = subst (λ (x : Form). Goes s x p t g.0 g.1) (sym e) g.2; bytes = g.3 })

own : (s : Setting) (l : Line) (p : Place) (t : State) (form : Form) → IsOwn s form t → t.ended ≡ None → IsCalm s t → Going s l form p t
own s l p t form o running calm e given within =
    let P : Form → Type 0 = λ (x : Form). IsOwn s x t in
    own_never_stick s l p t (subst P (sym e) o) (subst (λ (x : Form). IsGivenByte (given_of s x t)) (sym e) given) (record { calm = calm; within = subst (λ (x : Form). IsWithin s x t) (sym e) within }) running

goes_on : (s : Setting) (l : Line) (p : Place) (t : State) (form : Form) → t.ended ≡ None → IsCalm s t → Going s l form p t
goes_on s l p t (Run r) running calm e given within = by_form s l p t (Run r) running calm (run s p t running calm r within) e
goes_on s l p t (Enter f reads gives) running calm e given within = by_form s l p t (Enter f reads gives) running calm (call_goes s p t running calm f reads reads gives (s.library f) refl within) e
goes_on s l p t (Through reads gives) running calm e given within = by_form s l p t (Through reads gives) running calm (through s p t running calm within.0 reads gives within.1 within.2) e
goes_on s l p t (Plain op mode operand) running calm e given within = own s l p t (Plain op mode operand) tt running calm e given within
goes_on s l p t (Branch op k) running calm e given within = own s l p t (Branch op k) tt running calm e given within
goes_on s l p t (Jump k) running calm e given within = own s l p t (Jump k) tt running calm e given within
goes_on s l p t Push running calm e given within = own s l p t Push tt running calm e given within
goes_on s l p t Pull running calm e given within = own s l p t Pull tt running calm e given within
goes_on s l p t Depth running calm e given within = own s l p t Depth tt running calm e given within
goes_on s l p t Return running calm e given within = own s l p t Return tt running calm e given within
goes_on s l p t Mark running calm e given within = absurd within
goes_on s l p t (Far i) running calm e given within = absurd within
goes_on s l p t Stray running calm e given within = absurd within

pub never_sticks : NeverSticks
never_sticks s l p t given steady running = goes_on s l p t (form_of l) running steady.calm refl given steady.within
