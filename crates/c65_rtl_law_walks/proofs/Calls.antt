-- A call within a routine comes back.
use Rattle.std.proofs.Common.{ℕ, ◌+◌, ◌≤◌, Option, refl, sym, subst, arith}
use Rattle.std.specs.Prelude.{min, max}
use Rattle.std.proofs.lemmas.List.Elements.{All-weaker}
use Rattle.c65_code.specs.declared.line.Callee.TheVariants as callees
use Rattle.c65_code.specs.declared.line.Line.TheVariants.{Call}
use Rattle.c65_code.specs.LineState.{s_of, sp_of}
use Rattle.c65_code.specs.Forms.{Run}
use Rattle.c65_code.specs.Rows.{Row}
use Rattle.c65_code.specs.RawMachine.{RawComes, IsHookWithin, RawRuns, HasDone, called, entry_of, line_after, IsReachable, reach_of}
use Rattle.c65_code.specs.Steady.{IsOpen}
use Rattle.c65_rtl.proofs.Meeting.{reached}
use Rattle.c65_rtl.proofs.Ways.{on_form, moved_to}
use Rattle.c65_rtl_law_walks.specs.Inside.{CallsComeBack, IsBack, MayRunIn, RowsAreMetWithin}

pub calls_come_back : CallsComeBack
calls_come_back s bounds below pushed weight r row p t meets is no_hook row_is goes_on may =
    let deep = may.hard in
    let room : bounds.hard + 2 ≤ s_of t = omega arith in
    on_form s bounds (IsBack s row p t) (Call (callees.Routine r)) (Run r) (weight row) (2 + weight row) p t refl is may.running
    (subst (λ (k : Option Row). IsHookWithin s.place bounds k t) (sym no_hook) room) (omega arith)
    (λ q u g bytes.
    let e = subst (λ (k : Option Row). RawRuns s k r p t q u) no_hook g in
    moved_to s bounds (IsBack s row p t) (weight row) q (entry_of s (s.routine r)) u (called (line_after s p) t) e.0 e.1
    (subst (λ (k : Option ℕ). RawComes s bounds (HasDone k row (line_after s p) t) (weight row) (entry_of s (s.routine r)) (called (line_after s p) t)) goes_on (meets bounds row (line_after s p) t row_is may)))

pub rows_are_met_within : RowsAreMetWithin
rows_are_met_within s below pushed weight r meets few shallow modest row back t row_is may =
    let soft = may.room.soft in
    let hard = may.room.hard in
    let fits = modest row t row_is in
    let sp_near = fits.1 in
    let near_low : (reach_of t).soft ≤ min (sp_of t) row.sp = omega arith in
    let far_low : (reach_of t).soft ≤ max (sp_of t) row.sp = omega arith in
    let may_in : MayRunIn s (reach_of t) below pushed row t = record {
      ready = may.room.ready;
      near = All-weaker (IsOpen s.place (min (sp_of t) row.sp)) (IsReachable s.place (reach_of t)) (λ b h. reached s.place (reach_of t) (min (sp_of t) row.sp) b b refl near_low h) row.near may.room.near;
      far = All-weaker (IsOpen s.place (max (sp_of t) row.sp)) (IsReachable s.place (reach_of t)) (λ b h. reached s.place (reach_of t) (max (sp_of t) row.sp) b b refl far_low h) row.far may.room.far;
      soft = omega arith;
      hard = omega arith;
      high = may.high;
      bytes = may.bytes;
      running = may.running;
      data_low = may.data_low;
    } in
    record { weight = weight row; within = fits.0; comes = meets (reach_of t) row back t row_is may_in }
