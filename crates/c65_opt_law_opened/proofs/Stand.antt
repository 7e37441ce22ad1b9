-- Lines in place of a call.
use Rattle.std.proofs.Common.{◌≡◌, ℕ, ◌+◌, ◌≤◌, List, [], ◌∷◌, length, Some, None, refl, sym, subst, ap, arith}
use Rattle.std.proofs.lemmas.List.{append-nil}
use Rattle.c65_code.specs.declared.line.Line.{Line}
use Rattle.c65_code.specs.declared.parts.RegSet.{RegSet}
use Rattle.c65_code.specs.declared.routine.Routine.{Routine}
use Rattle.c65_code.specs.declared.routine.Routine.TheVariants as routines
use Rattle.c65_code.specs.declared.routine.UnaryRoutine.{UnaryRoutine}
use Rattle.c65_code.specs.declared.routine.UnaryRoutine.TheVariants.{Neg, Compl, Shl1, Shr1, Asr1}
use Rattle.c65_code.specs.declared.routine.Width.TheVariants.{Ax}
use Rattle.c65_code.specs.Forms.{Branch, Jump, Run}
use Rattle.c65_code.specs.LineState.{State, IsBytes}
use Rattle.c65_code.specs.Moves.{MeetsRow}
use Rattle.c65_code.specs.Placement.{Setting}
use Rattle.c65_code.specs.Rows.{row_of}
use Rattle.c65_code.specs.Steady.{IsCalm, IsSteady, RowHasRoom}
use Rattle.c65_code.specs.Weights.{row_cost}
use Rattle.c65_pass.specs.LibraryRules.{opened}
use Rattle.c65_pass.specs.StackRules.{call_of}
use Rattle.c65_opt_law_near.specs.Laws.{IsLow}
use Rattle.c65_opt_law_follow.specs.Windows.{WayOut, Behind, IsSilent, AreInner, ends, goes, Safe, safe_line, safe_jump, safe_branch, Justified}
use Rattle.c65_opt_law_follow.specs.Laws.{IsSound}
use Rattle.c65_opt_law_follow.proofs.Near.{near_itself}
use Rattle.c65_opt_law_opened.specs.Laws.{RoutinesStand}
use Rattle.c65_opt_law_opened.proofs.AtSp.{loads_at_y, loads_at_sp}
use Rattle.c65_opt_law_opened.proofs.Leads.{Leads, IsPassedTo, leads_safe, leads_through, leads_on}
use Rattle.c65_opt_law_opened.proofs.Stored.{stores_at_y}
use Rattle.c65_opt_law_opened.proofs.Unary.{negates, complements, doubles, halves, signed_halves}

-- a call that is safe is steady, and its cost is within the weight
pub record IsSafeCall (s : Setting) (r : Routine) (w : ℕ) (t : State) : Type 0 where
  pub steady : IsSteady s (call_of r) t
  pub cost : row_cost (row_of r t) ≤ w

pub safe_call : (s : Setting) (r : Routine) (w : ℕ) (t : State) → Safe s (call_of r ∷ []) w t → IsSafeCall s r w t
safe_call s r w t (safe_line i st le k) = record { steady = st; cost = omega (arith, le) }
safe_call s r w t (safe_jump l e st le) = absurd (apart l e)
  where
    apart : (l : ℕ) → Run r ≡ Jump l → ⊥
    apart l x = cc
safe_call s r w t (safe_branch op l e st le k) = absurd (apart e)
  where
    apart : Run r ≡ Branch op l → ⊥
    apart x = cc

-- lines that lead from each state in which the call is steady to states to which its row leads, within its cost
abbrev pub Opens : Setting → Routine → List Line → Type 0
Opens s r lines = (t : State) → IsCalm s t → t.ended ≡ None → RowHasRoom s.place (row_of r t) t → (n : ℕ) × Leads s (MeetsRow (row_of r t) t) lines n t × (n ≤ row_cost (row_of r t))

pub opened_stand : (s : Setting) (to : WayOut → ℕ) (after : WayOut → RegSet) (r : Routine) (lines : List Line) → IsSilent r → Opens s r lines → Justified s to after (λ t. Unit {0}) (call_of r ∷ []) lines
opened_stand s to after r lines silent opens = record {
  safe = λ w t h. let here = safe_call s r w t h.safe in let x = opens t here.steady.calm h.running here.steady.within in leads_safe s (MeetsRow (row_of r t) t) lines x.0 w t (omega (arith, x.2, here.cost)) x.1;
  answers = λ w t h e u c way.
      let here = safe_call s r w t h.safe in
      let x = opens t here.steady.calm h.running here.steady.within in
      let led = leads_through s (MeetsRow (row_of r t) t) lines x.0 t e u c x.1 h.bytes way in
      record {
        old_exit = Behind;
        state = u;
        weighs = row_cost (row_of r t) + 0;
        way = goes silent led.holds led.bytes ends;
        less = omega (arith, led.within, x.2);
        same = ap to (sym led.behind);
        near = near_itself (after Behind) u;
      };
}

-- ---- each routine

pub some_is : (xs ys : List Line) → Some xs ≡ Some ys → xs ≡ ys
some_is xs ys e = cc

-- what the lines of a routine are
pub record AreOpened (r : Routine) (lines : List Line) : Type 0 where
  pub silent : IsSilent r
  pub inner : AreInner lines
  pub sound : IsSound lines
  pub opens : (s : Setting) → IsLow s.place → Opens s r lines

-- lines of operations alone
plain_lines : (r : Routine) (lines : List Line) → IsSilent r → AreInner lines → IsSound lines → ((t : State) → 32 ≤ row_cost (row_of r t))
    → ((s : Setting) → IsLow s.place → (t : State) → IsCalm s t → t.ended ≡ None → RowHasRoom s.place (row_of r t) t → IsPassedTo s lines t (MeetsRow (row_of r t) t)) → AreOpened r lines
plain_lines r lines silent inner sound cost passed = record {
  silent = silent;
  inner = inner;
  sound = sound;
  opens = λ s low t calm running room.
      let P : State → Type 0 = MeetsRow (row_of r t) t in
      let x : IsPassedTo s lines t P = passed s low t calm running room in
      let enough : 32 ≤ row_cost (row_of r t) = cost t in
      (length lines + 0, subst (λ (ls : List Line). Leads s P ls (length lines + 0) t) (append-nil lines) (leads_on s P lines [] 0 t x.passable calm (λ end. x.holds)), omega (arith, x.few, enough));
}

-- an operator on AX alone
unary_lines : (op : UnaryRoutine) (lines : List Line) → AreInner lines → IsSound lines → ((t : State) → 32 ≤ row_cost (row_of (routines.Unary op Ax) t))
    → ((s : Setting) (t : State) → IsBytes t → t.ended ≡ None → IsPassedTo s lines t (MeetsRow (row_of (routines.Unary op Ax) t) t)) → AreOpened (routines.Unary op Ax) lines
unary_lines op lines inner sound cost passed = plain_lines (routines.Unary op Ax) lines tt inner sound cost (λ s low t calm running room. passed s t calm.bytes running)

pub routine_opened : (r : Routine) (lines : List Line) → opened r ≡ Some lines → AreOpened r lines
routine_opened routines.LdAxYSp lines e =
    subst (AreOpened routines.LdAxYSp) (some_is _ lines e) (plain_lines routines.LdAxYSp _ tt (tt, (tt, (tt, (tt, tt)))) (record { fit = refl; bytes = (tt, (tt, (tt, (tt, tt)))) }) (λ t. omega arith) loads_at_y)
routine_opened routines.LdAx0Sp lines e =
    subst (AreOpened routines.LdAx0Sp) (some_is _ lines e) (plain_lines routines.LdAx0Sp _ tt (tt, (tt, (tt, (tt, (tt, tt))))) (record { fit = refl; bytes = (omega arith, (tt, (tt, (tt, (tt, tt))))) }) (λ t. omega arith) loads_at_sp)
routine_opened routines.StAxYSp lines e =
    subst (AreOpened routines.StAxYSp) (some_is _ lines e) (record { silent = tt; inner = (tt, (tt, (tt, (tt, (tt, (tt, tt)))))); sound = record { fit = refl; bytes = (tt, (tt, (tt, (tt, (tt, (tt, tt)))))) }; opens = λ s low t calm running room. (6, stores_at_y s low t calm running room, omega arith) })
routine_opened (routines.Unary Neg Ax) lines e = subst (AreOpened (routines.Unary Neg Ax)) (some_is _ lines e) (unary_lines Neg _ (tt, (tt, (tt, (tt, (tt, (tt, (tt, (tt, (tt, tt))))))))) (record { fit = refl; bytes = (tt, (omega arith, (omega arith, (tt, (tt, (omega arith, (omega arith, (tt, (tt, tt))))))))) }) (λ t. omega arith) negates)
routine_opened (routines.Unary Compl Ax) lines e = subst (AreOpened (routines.Unary Compl Ax)) (some_is _ lines e) (unary_lines Compl _ (tt, (tt, (tt, (tt, (tt, (tt, tt)))))) (record { fit = refl; bytes = (omega arith, (tt, (tt, (omega arith, (tt, (tt, tt)))))) }) (λ t. omega arith) complements)
routine_opened (routines.Unary Shl1 Ax) lines e = subst (AreOpened (routines.Unary Shl1 Ax)) (some_is _ lines e) (unary_lines Shl1 _ (tt, (tt, (tt, (tt, tt)))) (record { fit = refl; bytes = (tt, (tt, (tt, (tt, tt)))) }) (λ t. omega arith) doubles)
routine_opened (routines.Unary Shr1 Ax) lines e = subst (AreOpened (routines.Unary Shr1 Ax)) (some_is _ lines e) (unary_lines Shr1 _ (tt, (tt, (tt, (tt, tt)))) (record { fit = refl; bytes = (tt, (tt, (tt, (tt, tt)))) }) (λ t. omega arith) halves)
routine_opened (routines.Unary Asr1 Ax) lines e = subst (AreOpened (routines.Unary Asr1 Ax)) (some_is _ lines e) (unary_lines Asr1 _ (tt, (tt, (tt, (tt, (tt, tt))))) (record { fit = refl; bytes = (omega arith, (tt, (tt, (tt, (tt, tt))))) }) (λ t. omega arith) signed_halves)
routine_opened _ lines e = absurd cc

pub routines_stand : RoutinesStand
routines_stand r lines e s low to after = let x : AreOpened r lines = routine_opened r lines e in opened_stand s to after r lines x.silent (x.opens s low)
