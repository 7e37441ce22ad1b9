-- AX waits where two bytes more may, though no whole value may, and is taken by the routine of an operator.
use Rattle.std.proofs.Common.{◌≡◌, ℕ, ◌+◌, ◌-◌, ◌<◌, ◌≤◌, inr, List, [], ◌∷◌, ◌++◌, Some, true, refl, ap, ◌∙◌, subst, arith}
use Rattle.std.specs.Prelude.{length, min, max}
use Rattle.std.proofs.lemmas.List.Elements.{All-nil}
use Rattle.c65_meaning.specs.State.{Scene}
use Rattle.c65_code.specs.declared.line.Line.{Line}
use Rattle.c65_code.specs.declared.routine.Routine.TheVariants.{PushAx, Tos}
use Rattle.c65_code.specs.declared.routine.TosOp.{TosOp}
use Rattle.c65_code.specs.Numbers.{tos_result, result_width}
use Rattle.c65_genwide.specs.Lines.{call}
use Rattle.c65_genload.specs.Numbers.{number_code, by_code}
use Rattle.c65_agree_rows.specs.Laws.{IsReadyPopped}
use Rattle.c65_agree_frame.proofs.Leads.{leads_then, leads_as}
use Rattle.c65_agree_operate.proofs.Stacked.{over_pushed}
use Rattle.c65_agree_quick.specs.Laws.{IsNow, HasTwo}
use Rattle.c65_agree_quick.proofs.Scratch.{scratch_leads, ready_now}
use Rattle.c65_code.specs.declared.routine.Width.TheVariants.{Ax}
use Rattle.c65_code.specs.LineState.{State, sp_of, ax_of, IsBytes}
use Rattle.c65_code.specs.Placement.{IsPlacement}
use Rattle.c65_code.specs.Texts.{range_of, listed}
use Rattle.c65_code.specs.Rows.{Row, Meets, written, row_of, number_at, primary_of}
use Rattle.c65_code.specs.Steady.{IsOpen, HasRoom}
use Rattle.c65_genload.specs.Conversions.{push_code}
use Rattle.c65_agree_store.specs.Stands.{Placing, Banks}
use Rattle.c65_agree_state.specs.World.{World, Active}
use Rattle.c65_agree_state.specs.Exprs.{Ready}
use Rattle.c65_agree_state.specs.Laws.{OnlyScratch, HasStacks}
use Rattle.c65_agree_state.proofs.Followed.{ready_is_calm}
use Rattle.c65_agree_state.proofs.Scratch.{scratch_changes}
use Rattle.c65_agree_rows.specs.Rows.{IsQuiet, AreAt}
use Rattle.c65_agree_rows.proofs.Quiet.{written_other, listed_are_at, are_at_in, listed_below, in_range, quiet_row, runs_by, quiet_rows_scratch}
use Rattle.c65_agree_frame.specs.Leads.{Leads}
use Rattle.c65_agree_load.proofs.Kept.{runs_lead}
use Rattle.c65_agree_operate.proofs.Routines.{IsPushed, number_waits, operator_leads}

-- ---- pushed

record IsRow (t : State) (row : Row) : Type 0 where
  is : row_of PushAx t ≡ Some row
  quiet : IsQuiet row
  ready : row.ready ≡ true
  sp : row.sp ≡ sp_of t - 2
  settled : row.settled ≡ sp_of t - 2
  writes : row.writes ≡ listed (t.regs.a ∷ t.regs.x ∷ []) (sp_of t - 2)
  near : row.near ≡ range_of 2 (sp_of t - 2)
  far : row.far ≡ []

the_row : (t : State) → (row : Row) × IsRow t row
the_row t = (_, record { is = refl; quiet = quiet_row _ refl refl refl refl refl; ready = refl; sp = refl; settled = refl; writes = refl; near = refl; far = refl })

module _ (g : World) (a : Active) (pushed needs : ℕ) (c : Scene) (w : Placing) (k : Banks) (t : State) (row : Row) (placed : IsPlacement g.code g.place) (r : Ready g a pushed needs c w k t) (two : HasTwo a needs c t) (p : IsRow t row) where
  abbrev at : ℕ
  at = sp_of t - 2

  abbrev bytes : List ℕ
  bytes = t.regs.a ∷ t.regs.x ∷ []

  stacks : HasStacks g t
  stacks = ready_is_calm g a pushed needs c w k t r

  room : HasRoom g.place row t
  room = record {
    ready = p.ready;
    soft = stacks.soft;
    hard = stacks.hard;
    near = rw (p.near, p.sp) (in_range (IsOpen g.place (min (sp_of t) at)) 2 at (λ i lt. inr (omega (arith, lt), omega (arith, lt, stacks.soft, stacks.calm.high))));
    far = rw p.far (All-nil (IsOpen g.place (max (sp_of t) row.sp)));
  }

  behind : (u : State) → Meets row t u → IsBytes u → IsPushed g a pushed needs c w k Ax t u
  behind u meets b =
      let sp : sp_of u ≡ at = meets.sp ∙ p.sp in
      let scratch : OnlyScratch a.base t u = quiet_rows_scratch a.base row t u p.quiet (rw p.writes (listed_below bytes at a.base (omega (arith, stacks.soft)) (omega (arith, r.sp, stacks.soft)))) meets b r.joins.ended stacks.soft (omega (arith, r.sp)) in
      let same : (n : ℕ) → at ≤ n → u.mem n ≡ written t.mem (listed bytes at) n = λ n le. meets.mem n (inr (inr (omega (arith, le, p.settled)))) ∙ ap (λ ws. written t.mem ws n) p.writes in
      let waiting : AreAt u.mem (sp_of u) bytes = rw sp (are_at_in (written t.mem (listed bytes at)) u.mem bytes at same (listed_are_at t.mem bytes at)) in
      record {
        ready = record {
          joins = scratch_changes g a c w k t u placed r.joins scratch;
          sp = omega (arith, sp, r.sp, stacks.soft);
          room = omega (arith, sp, two, stacks.soft);
          none_pushed = meets.pushed ∙ r.none_pushed;
        };
        sp = omega (arith, sp, stacks.soft);
        word = omega (arith, waiting.0, waiting.1.0);
        mem = λ n le. same n (omega (arith, le)) ∙ written_other t.mem (listed bytes at) (sp_of t) n (listed_below bytes at (sp_of t) (omega (arith, stacks.soft)) (omega (arith, stacks.soft))) (inr le);
      }

push_leads : (g : World) (a : Active) (pushed needs : ℕ) (c : Scene) (w : Placing) (k : Banks) (t : State) → IsPlacement g.code g.place → Ready g a pushed needs c w k t → HasTwo a needs c t → Leads g a (push_code Ax) 256 t (IsPushed g a pushed needs c w k Ax t)
push_leads g a pushed needs c w k t placed r two =
    let own = the_row t in
    runs_lead g a pushed needs c w k t PushAx (IsPushed g a pushed needs c w k Ax t) (omega arith) r
    (runs_by g PushAx t own.0 (IsPushed g a pushed needs c w k Ax t) own.1.is (room g a pushed needs c w k t own.0 placed r two own.1) (λ u m b. behind g a pushed needs c w k t own.0 placed r two own.1 u m b))

-- ---- a routine on AX and a number

module _ (g : World) (a : Active) (pushed needs : ℕ) (c : Scene) (w : Placing) (b : Banks) (t : State) (placed : IsPlacement g.code g.place) (ready : Ready g a pushed needs c w b t) (two : HasTwo a needs c t)
    (op : TosOp) (n v : ℕ) (narrow : result_width op Ax ≡ Ax) (few : n < 65536) (given : tos_result op Ax (ax_of t) n ≡ Some v) (small : v < 65536) where
  abbrev Result : State → Type 0
  Result = IsNow g a c w b Ax v t

  -- behind AX, which waits
  module _ (u : State) (push : IsPushed g a pushed needs c w b Ax t u) where
    called : (x : State) → IsNow g a c w b Ax n u x → Leads g a (call (Tos op Ax) ∷ []) 2048 x Result
    called x now =
        let ready2 : Ready g a (pushed + 2) needs c w b x = ready_now g a (pushed + 2) needs c w b Ax placed n u x push.ready now in
        let waits : number_at Ax x.mem (sp_of x) ≡ ax_of t = number_waits g a pushed needs c c w w b b u x Ax push.ready now.kept ∙ push.word in
        let is : tos_result op Ax (number_at Ax x.mem (sp_of x)) (ax_of x) ≡ Some v = ap (λ m. tos_result op Ax m (ax_of x)) waits ∙ ap (tos_result op Ax (ax_of t)) now.word ∙ given in
        leads_as g a (call (Tos op Ax) ∷ []) 2048 2048 x (IsReadyPopped g a pushed needs c w b op Ax v x) Result (omega arith)
        (λ y h. record { kept = over_pushed g a pushed needs c c w w b b Ax t u x y push now.kept h.ready h.are.sp (λ m le free. h.are.mem m (omega (arith, le))); word = subst (λ width. primary_of width y ≡ v) narrow h.result })
        (operator_leads g a pushed needs c w b x op Ax v placed ready2 is (rw narrow small))

    behind_push : Leads g a (number_code Ax n ++ call (Tos op Ax) ∷ []) 2050 u Result
    behind_push =
        leads_then g a (number_code Ax n) (call (Tos op Ax) ∷ []) 2 2048 u (IsNow g a c w b Ax n u) Result
        (scratch_leads g a (pushed + 2) needs c w b Ax placed (number_code Ax n) n u push.ready (omega arith, (omega arith, tt)) (omega (arith, few)))
        (λ x now. called x now)

  pub by_number : Leads g a (by_code op n) 2306 t Result
  by_number =
      leads_then g a (push_code Ax) (number_code Ax n ++ call (Tos op Ax) ∷ []) 256 2050 t (IsPushed g a pushed needs c w b Ax t) Result
      (push_leads g a pushed needs c w b t placed ready two) (λ u push. behind_push u push)
