-- Routines that move sp alone.
use Rattle.std.proofs.Common.{◌≡◌, ℕ, ◌+◌, ◌-◌, ◌*◌, ◌<◌, ◌≤◌, inl, inr, [], Some, true, refl, ap, ◌∙◌, arith}
use Rattle.std.specs.Prelude.{min, max}
use Rattle.std.proofs.lemmas.List.Elements.{All-nil}
use Rattle.c65_code.specs.declared.routine.Routine.{Routine}
use Rattle.c65_code.specs.LineState.{State, sp_of, eax_of, IsBytes}
use Rattle.c65_code.specs.Placement.{IsPlacement}
use Rattle.c65_code.specs.Rows.{Row, Meets, written, row_of}
use Rattle.c65_code.specs.Steady.{IsOpen, HasRoom}
use Rattle.c65_meaning.specs.State.{Scene}
use Rattle.c65_agree_store.specs.Stands.{Placing, Banks}
use Rattle.c65_agree_state.specs.World.{World, Active}
use Rattle.c65_agree_state.specs.Joins.{Joins}
use Rattle.c65_agree_state.specs.Exprs.{Ready}
use Rattle.c65_agree_state.specs.Laws.{HasStacks}
use Rattle.c65_agree_state.proofs.Followed.{ready_is_calm}
use Rattle.c65_agree_state.proofs.Scratch.{scratch_changes}
use Rattle.c65_agree_rows.specs.Rows.{IsSilent, Moving, By, ByY, raising_of, lowering_of, moved_by}
use Rattle.c65_agree_rows.specs.Laws.{RaisesRun, IsRaised, LowersRun, IsLowered}
use Rattle.c65_agree_rows.proofs.Quiet.{silent_row, runs_by, silent_rows_scratch}

-- a routine that moves sp alone, and keeps A, X and sreg
pub record HasMove (r : Routine) (to : ℕ) (t : State) : Type 0 where
  pub row : Row
  pub is : row_of r t ≡ Some row
  pub silent : IsSilent row
  pub ready : row.ready ≡ true
  pub sp : row.sp ≡ to
  pub writes : row.writes ≡ []
  pub near : row.near ≡ []
  pub far : row.far ≡ []
  pub cost : row.cost ≡ 32
  pub room : 63536 ≤ sp_of t → 63472 ≤ to → 63472 + row.room ≤ sp_of t
  pub value : (u : State) → Meets row t u → eax_of u ≡ eax_of t

pub raised : (move : Moving) (t : State) → sp_of t + moved_by move t < 65536 → HasMove (raising_of move) (sp_of t + moved_by move t) t
raised (By count) t lt = record { row = _; is = refl; silent = silent_row _ refl refl refl refl; ready = refl; sp = refl; writes = refl; near = refl; far = refl; cost = refl; room = λ high low. omega (arith, high, low); value = λ u meets. let a = meets.a in let x = meets.x in let s = meets.sreg in omega (arith, a, x, s) }
raised ByY t lt = record { row = _; is = refl; silent = silent_row _ refl refl refl refl; ready = refl; sp = omega (arith, lt); writes = refl; near = refl; far = refl; cost = refl; room = λ high low. omega (arith, high, low); value = λ u meets. let a = meets.a in let x = meets.x in let s = meets.sreg in omega (arith, a, x, s) }

pub lowered : (move : Moving) (t : State) → HasMove (lowering_of move) (sp_of t - moved_by move t) t
lowered (By count) t = record { row = _; is = refl; silent = silent_row _ refl refl refl refl; ready = refl; sp = refl; writes = refl; near = refl; far = refl; cost = refl; room = λ high low. omega (arith, high, low); value = λ u meets. let a = meets.a in let x = meets.x in let s = meets.sreg in omega (arith, a, x, s) }
lowered ByY t = record { row = _; is = refl; silent = silent_row _ refl refl refl refl; ready = refl; sp = refl; writes = refl; near = refl; far = refl; cost = refl; room = λ high low. omega (arith, high, low); value = λ u meets. let a = meets.a in let x = meets.x in let s = meets.sreg in omega (arith, a, x, s) }

module _ (g : World) (a : Active) (pushed needs : ℕ) (c : Scene) (w : Placing) (k : Banks) (t : State) (r : Routine) (to : ℕ) (placed : IsPlacement g.code g.place) (ready : Ready g a pushed needs c w k t) (h : HasMove r to t) (low : 63472 ≤ to) where
  stacks : HasStacks g t
  stacks = ready_is_calm g a pushed needs c w k t ready

  move_room : HasRoom g.place h.row t
  move_room = record { ready = h.ready; soft = stacks.soft; hard = stacks.hard; near = rw h.near (All-nil (IsOpen g.place (min (sp_of t) h.row.sp))); far = rw h.far (All-nil (IsOpen g.place (max (sp_of t) h.row.sp))) }

  move_joins : (u : State) → Meets h.row t u → IsBytes u → Joins g a c w k u
  move_joins u meets b = scratch_changes g a c w k t u placed ready.joins (silent_rows_scratch a.base h.row t u h.silent (rw h.writes tt) meets b ready.joins.ended (h.room stacks.soft low) (omega (arith, ready.sp)))

  move_mem : (u : State) → Meets h.row t u → (n : ℕ) → sp_of t ≤ n → u.mem n ≡ t.mem n
  move_mem u meets n le = meets.mem n (inr (inl le)) ∙ ap (λ ws. written t.mem ws n) h.writes

pub raises_run : RaisesRun
raises_run g a pushed needs c w k t move placed r =
    let count = moved_by move t in
    let h = raised move t (omega (arith, r.sp, r.joins.top)) in
    let low : 63472 ≤ sp_of t + count = omega (arith, (ready_is_calm g a (pushed + count) needs c w k t r).soft) in
    runs_by g (raising_of move) t h.row (IsRaised g a pushed needs c w k count t) h.is (move_room g a (pushed + count) needs c w k t (raising_of move) (sp_of t + count) placed r h low) (λ u m b.
    let sp : sp_of u ≡ sp_of t + count = m.sp ∙ h.sp in
    record {
      ready = record { joins = move_joins g a (pushed + count) needs c w k t (raising_of move) (sp_of t + count) placed r h low u m b; sp = omega (arith, sp, r.sp); room = omega (arith, sp, r.room); none_pushed = m.pushed ∙ r.none_pushed };
      are = record { sp = sp; mem = move_mem g a (pushed + count) needs c w k t (raising_of move) (sp_of t + count) placed r h low u m };
      value = h.value u m;
    })

pub lowers_run : LowersRun
lowers_run g a pushed more needs c w k t move placed r few =
    let count = moved_by move t in
    let h = lowered move t in
    let high : count ≤ sp_of t = omega (arith, r.room, r.joins.few, few) in
    let low : 63472 ≤ sp_of t - count = omega (arith, r.room, r.joins.few, few) in
    runs_by g (lowering_of move) t h.row (IsLowered g a pushed needs c w k count t) h.is (move_room g a pushed (more + needs) c w k t (lowering_of move) (sp_of t - count) placed r h low) (λ u m b.
    let sp : sp_of u ≡ sp_of t - count = m.sp ∙ h.sp in
    record {
      ready = record { joins = move_joins g a pushed (more + needs) c w k t (lowering_of move) (sp_of t - count) placed r h low u m b; sp = omega (arith, sp, high, r.sp); room = omega (arith, sp, high, few, r.room); none_pushed = m.pushed ∙ r.none_pushed };
      are = record { sp = omega (arith, sp, high); mem = move_mem g a pushed (more + needs) c w k t (lowering_of move) (sp_of t - count) placed r h low u m };
      value = h.value u m;
    })
