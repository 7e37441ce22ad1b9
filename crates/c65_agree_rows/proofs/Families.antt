-- Families of routines.
use Rattle.std.proofs.Common.{◌≡◌, ℕ, ◌+◌, ◌-◌, ◌*◌, ◌<◌, ◌≤◌, inl, inr, List, [], Some, true, refl, ap, ◌∙◌, subst, arith}
use Rattle.std.specs.Prelude.{length, min, max, All}
use Rattle.std.proofs.lemmas.List.Elements.{All-nil}
use Rattle.c65_code.specs.declared.routine.Routine.{Routine}
use Rattle.c65_code.specs.declared.routine.Routine.TheVariants as routines
use Rattle.c65_code.specs.declared.routine.Width.{Width}
use Rattle.c65_code.specs.declared.routine.Width.TheVariants.{Ax, Eax}
use Rattle.c65_code.specs.declared.routine.TosOp.{TosOp}
use Rattle.c65_code.specs.declared.routine.UnaryRoutine.{UnaryRoutine}
use Rattle.c65_code.specs.LineState.{State, sp_of, IsBytes}
use Rattle.c65_code.specs.Numbers.{words_of, result_width, unary_result, unary_width}
use Rattle.c65_code.specs.Placement.{IsPlacement}
use Rattle.c65_code.specs.Texts.{range_of, listed}
use Rattle.c65_code.specs.Rows.{Row, Meets, written, row_of, row_by, giving, giving_if, costing, popping, tos_row, tos_cost, primary_of, size_of, low_byte, high_byte, upper_word}
use Rattle.c65_code.specs.Steady.{IsOpen, HasRoom}
use Rattle.c65_meaning.specs.State.{Scene}
use Rattle.c65_agree_store.specs.Stands.{Placing, Banks}
use Rattle.c65_agree_state.specs.World.{World, Active}
use Rattle.c65_agree_state.specs.Exprs.{Ready, Kept}
use Rattle.c65_agree_state.specs.Laws.{OnlyScratch, HasStacks}
use Rattle.c65_agree_state.proofs.Followed.{ready_is_calm}
use Rattle.c65_agree_state.proofs.Scratch.{scratch_changes}
use Rattle.c65_agree_state.proofs.Leaves.{scratch_is_kept}
use Rattle.c65_agree_rows.specs.Rows.{IsQuiet, Pushing, Byte, Word, ByteAsWord, Zero, Long, push_of, pushed_by, ArePushed}
use Rattle.c65_agree_rows.specs.Laws.{Runs, IsReadyPushed, PushesRun, OperatorsRun, IsKeptWith, OppositesRun}
use Rattle.c65_agree_rows.proofs.Quiet.{written_other, listed_are_at, are_at_in, listed_below, in_range, quiet_row, runs_by, quiet_rows_scratch}

-- ---- pushed

-- the row of a push
record IsPush (bytes : List ℕ) (t : State) (row : Row) : Type 0 where
  quiet : IsQuiet row
  ready : row.ready ≡ true
  sp : row.sp ≡ sp_of t - length bytes
  settled : row.settled ≡ sp_of t - length bytes
  writes : row.writes ≡ listed bytes (sp_of t - length bytes)
  near : row.near ≡ range_of (length bytes) (sp_of t - length bytes)
  far : row.far ≡ []
  few : length bytes ≤ 4

record HasPush (push : Pushing) (t : State) : Type 0 where
  row : Row
  is : row_of (push_of push) t ≡ Some row
  pushes : IsPush (pushed_by push t) t row

push_rows : (push : Pushing) (t : State) → HasPush push t
push_rows Byte t = record { row = _; is = refl; pushes = record { quiet = quiet_row _ refl refl refl refl refl; ready = refl; sp = refl; settled = refl; writes = refl; near = refl; far = refl; few = omega arith } }
push_rows Word t = record { row = _; is = refl; pushes = record { quiet = quiet_row _ refl refl refl refl refl; ready = refl; sp = refl; settled = refl; writes = refl; near = refl; far = refl; few = omega arith } }
push_rows ByteAsWord t = record { row = _; is = refl; pushes = record { quiet = quiet_row _ refl refl refl refl refl; ready = refl; sp = refl; settled = refl; writes = refl; near = refl; far = refl; few = omega arith } }
push_rows Zero t = record { row = _; is = refl; pushes = record { quiet = quiet_row _ refl refl refl refl refl; ready = refl; sp = refl; settled = refl; writes = refl; near = refl; far = refl; few = omega arith } }
push_rows Long t = record { row = _; is = refl; pushes = record { quiet = quiet_row _ refl refl refl refl refl; ready = refl; sp = refl; settled = refl; writes = refl; near = refl; far = refl; few = omega arith } }

module _ (g : World) (a : Active) (pushed needs : ℕ) (c : Scene) (w : Placing) (k : Banks) (t : State) (bytes : List ℕ) (row : Row) (placed : IsPlacement g.code g.place) (r : Ready g a pushed (1 + needs) c w k t) (p : IsPush bytes t row) where
  abbrev at : ℕ
  at = sp_of t - length bytes

  stacks : HasStacks g t
  stacks = ready_is_calm g a pushed (1 + needs) c w k t r

  push_room : HasRoom g.place row t
  push_room = record {
    ready = p.ready;
    soft = stacks.soft;
    hard = stacks.hard;
    near = rw (p.near, p.sp) (in_range (IsOpen g.place (min (sp_of t) at)) (length bytes) at (λ i lt. inr (omega (arith, lt), omega (arith, lt, stacks.soft, stacks.calm.high, p.few))));
    far = rw p.far (All-nil (IsOpen g.place (max (sp_of t) row.sp)));
  }

  push_ready : (u : State) → Meets row t u → IsBytes u → Ready g a (pushed + length bytes) needs c w k u
  push_ready u meets b =
      let sp : sp_of u ≡ at = meets.sp ∙ p.sp in
      let scratch : OnlyScratch a.base t u = quiet_rows_scratch a.base row t u p.quiet (rw p.writes (listed_below bytes at a.base (omega (arith, stacks.soft, p.few)) (omega (arith, r.sp, stacks.soft, p.few)))) meets b r.joins.ended stacks.soft (omega (arith, r.sp)) in
      record {
        joins = scratch_changes g a c w k t u placed r.joins scratch;
        sp = omega (arith, sp, r.sp, stacks.soft, p.few);
        room = omega (arith, sp, r.room, stacks.soft, p.few);
        none_pushed = meets.pushed ∙ r.none_pushed;
      }

  push_are : (u : State) → Meets row t u → ArePushed bytes t u
  push_are u meets =
      let sp : sp_of u ≡ at = meets.sp ∙ p.sp in
      let same : (n : ℕ) → at ≤ n → u.mem n ≡ written t.mem (listed bytes at) n = λ n le. meets.mem n (inr (inr (omega (arith, le, p.settled)))) ∙ ap (λ ws. written t.mem ws n) p.writes in
      record {
        sp = omega (arith, sp, stacks.soft, p.few);
        waiting = rw sp (are_at_in (written t.mem (listed bytes at)) u.mem bytes at same (listed_are_at t.mem bytes at));
        mem = λ n le. same n (omega (arith, le)) ∙ above n le;
      }
    where
      above : (n : ℕ) → sp_of t ≤ n → written t.mem (listed bytes at) n ≡ t.mem n
      above n le = written_other t.mem (listed bytes at) (sp_of t) n (listed_below bytes at (sp_of t) (omega (arith, stacks.soft, p.few)) (omega (arith, stacks.soft, p.few))) (inr le)

pub pushes_run : PushesRun
pushes_run g a pushed needs c w k t push placed r =
    let h = push_rows push t in
    let bytes = pushed_by push t in
    runs_by g (push_of push) t h.row (IsReadyPushed g a pushed needs c w k push t) h.is (push_room g a pushed needs c w k t bytes h.row placed r h.pushes) (λ u m b.
    record { ready = push_ready g a pushed needs c w k t bytes h.row placed r h.pushes u m b; are = push_are g a pushed needs c w k t bytes h.row placed r h.pushes u m })

-- ---- the primary register

low_and_high : (v : ℕ) → v < 65536 → low_byte v + 256 * high_byte v ≡ v
low_and_high v h = omega arith

all_bytes : (v : ℕ) → v < 4294967296 → low_byte v + 256 * high_byte v + 65536 * upper_word v ≡ v
all_bytes v h = omega arith

-- what a row gives that gives this result
given : (width : Width) (v : ℕ) (row : Row) (t u : State) → Meets (giving width v row) t u → v < words_of width → primary_of width u ≡ v
given Ax v row t u meets h = let a = meets.a in let x = meets.x in omega (arith, a, x, low_and_high v h)
given Eax v row t u meets h = let a = meets.a in let x = meets.x in let s = meets.sreg in omega (arith, a, x, s, all_bytes v h)

-- ---- a value that is taken

giving_keeps : (width : Width) (v : ℕ) (row : Row) → (giving width v row).sp ≡ row.sp
giving_keeps Ax v row = refl
giving_keeps Eax v row = refl

-- a row of the second group that pops, with a result
abbrev popped : TosOp → Width → State → Row
popped op width t = costing (tos_cost op) (popping (size_of width) t (row_by (routines.Tos op width) t))

-- the same, but for the result
record IsPop (count : ℕ) (t : State) (row : Row) : Type 0 where
  quiet : IsQuiet row
  ready : row.ready ≡ true
  sp : row.sp ≡ sp_of t + count
  writes : row.writes ≡ []
  near : row.near ≡ range_of count (sp_of t)
  far : row.far ≡ []

is_pop : (op : TosOp) (width to : Width) (v : ℕ) (t : State) → IsPop (size_of width) t (giving to v (popped op width t))
is_pop op width Ax v t = record { quiet = quiet_row _ refl refl refl refl refl; ready = refl; sp = refl; writes = refl; near = refl; far = refl }
is_pop op width Eax v t = record { quiet = quiet_row _ refl refl refl refl refl; ready = refl; sp = refl; writes = refl; near = refl; far = refl }

module _ (g : World) (a : Active) (pushed needs count : ℕ) (c : Scene) (w : Placing) (k : Banks) (t : State) (row : Row) (placed : IsPlacement g.code g.place) (r : Ready g a (pushed + count) needs c w k t) (p : IsPop count t row) where
  held : HasStacks g t
  held = ready_is_calm g a (pushed + count) needs c w k t r

  pop_room : HasRoom g.place row t
  pop_room = record {
    ready = p.ready;
    soft = held.soft;
    hard = held.hard;
    near = rw (p.near, p.sp) (in_range (IsOpen g.place (min (sp_of t) (sp_of t + count))) count (sp_of t) (λ i lt. inr (omega (arith, lt), omega (arith, lt, r.sp, r.joins.top))));
    far = rw p.far (All-nil (IsOpen g.place (max (sp_of t) row.sp)));
  }

  pop_ready : (u : State) → Meets row t u → IsBytes u → Ready g a pushed needs c w k u
  pop_ready u meets b =
      let sp : sp_of u ≡ sp_of t + count = meets.sp ∙ p.sp in
      let scratch : OnlyScratch a.base t u = quiet_rows_scratch a.base row t u p.quiet (rw p.writes tt) meets b r.joins.ended held.soft (omega (arith, r.sp)) in
      record { joins = scratch_changes g a c w k t u placed r.joins scratch; sp = omega (arith, sp, r.sp); room = omega (arith, sp, r.room); none_pushed = meets.pushed ∙ r.none_pushed }

  pop_mem : (u : State) → Meets row t u → (n : ℕ) → sp_of t ≤ n → u.mem n ≡ t.mem n
  pop_mem u meets n le = meets.mem n (inr (inl le)) ∙ ap (λ ws. written t.mem ws n) p.writes

pub operators_run : OperatorsRun
operators_run g a pushed needs c w k t op width v placed r e small =
    let to = result_width op width in
    let row = giving to v (popped op width t) in
    let is : tos_row op width t ≡ row = ap (λ o. giving_if to o (popped op width t)) e in
    let p : IsPop (size_of width) t row = is_pop op width to v t in
    record {
      room = rw is (pop_room g a pushed needs (size_of width) c w k t row placed r p);
      behind = λ u meets b.
          let m : Meets row t u = subst (λ x. Meets x t u) is meets in
          record {
            ready = pop_ready g a pushed needs (size_of width) c w k t row placed r p u m b;
            are = record { sp = m.sp ∙ p.sp; mem = pop_mem g a pushed needs (size_of width) c w k t row placed r p u m };
            result = given to v (popped op width t) t u m small;
          };
    }

-- ---- all is kept

-- a row that keeps sp and writes nothing
pub record IsStill (t : State) (row : Row) : Type 0 where
  pub quiet : IsQuiet row
  pub sp : row.sp ≡ sp_of t
  pub writes : row.writes ≡ []

module _ (g : World) (a : Active) (pushed needs : ℕ) (c : Scene) (w : Placing) (k : Banks) (t : State) (row : Row) (placed : IsPlacement g.code g.place) (r : Ready g a pushed needs c w k t) where
  still_stacks : HasStacks g t
  still_stacks = ready_is_calm g a pushed needs c w k t r

  pub still_kept : IsStill t row → (u : State) → Meets row t u → IsBytes u → Kept g a c w k t c w k u
  still_kept p u meets b =
      let scratch : OnlyScratch (sp_of t) t u = quiet_rows_scratch (sp_of t) row t u p.quiet (rw p.writes tt) meets b r.joins.ended still_stacks.soft (omega arith) in
      scratch_is_kept g a pushed needs c w k t u placed r scratch (meets.sp ∙ p.sp)

-- a routine that keeps sp and writes nothing, with what it reads and what it leaves
pub record HasRow (r : Routine) (counted others : List ℕ) (Result : State → Type 0) (t : State) : Type 0 where
  pub row : Row
  pub is : row_of r t ≡ Some row
  pub still : IsStill t row
  pub ready : row.ready ≡ true
  pub near : row.near ≡ counted
  pub far : row.far ≡ others
  pub result : (u : State) → Meets row t u → Result u

module _ (g : World) (a : Active) (pushed needs : ℕ) (c : Scene) (w : Placing) (k : Banks) (t : State) (placed : IsPlacement g.code g.place) (ready : Ready g a pushed needs c w k t) where
  pub kept_runs : (r : Routine) (near far : List ℕ) (Result : State → Type 0) → HasRow r near far Result t → All (IsOpen g.place (sp_of t)) near → All (IsOpen g.place (sp_of t)) far
      → Runs g r t (IsKeptWith g a c w k t Result)
  kept_runs r near far Result h opened open_far =
      let lower : min (sp_of t) h.row.sp ≡ sp_of t = omega (arith, h.still.sp) in
      let upper : max (sp_of t) h.row.sp ≡ sp_of t = omega (arith, h.still.sp) in
      let stacks : HasStacks g t = ready_is_calm g a pushed needs c w k t ready in
      let access : HasRoom g.place h.row t = record { ready = h.ready; soft = stacks.soft; hard = stacks.hard; near = rw (h.near, lower) opened; far = rw (h.far, upper) open_far } in
      runs_by g r t h.row (IsKeptWith g a c w k t Result) h.is access (λ u m b. record { kept = still_kept g a pushed needs c w k t h.row placed ready h.still u m b; result = h.result u m })

still_unary : (op : UnaryRoutine) (width to : Width) (v : ℕ) (t : State) → IsStill t (giving to v (costing 256 (row_by (routines.Unary op width) t)))
still_unary op width Ax v t = record { quiet = quiet_row _ refl refl refl refl refl; sp = refl; writes = refl }
still_unary op width Eax v t = record { quiet = quiet_row _ refl refl refl refl refl; sp = refl; writes = refl }

unary_access : (g : World) (op : UnaryRoutine) (width to : Width) (v : ℕ) (t : State) → HasStacks g t → HasRoom g.place (giving to v (costing 256 (row_by (routines.Unary op width) t))) t
unary_access g op width Ax v t h = record { ready = refl; soft = h.soft; hard = h.hard; near = All-nil _; far = All-nil _ }
unary_access g op width Eax v t h = record { ready = refl; soft = h.soft; hard = h.hard; near = All-nil _; far = All-nil _ }

pub opposites_run : OppositesRun
opposites_run g a pushed needs c w k t op width placed r small =
    let to = unary_width op width in
    let v = unary_result op width (primary_of width t) in
    let row = giving to v (costing 256 (row_by (routines.Unary op width) t)) in
    record {
      room = unary_access g op width to v t (ready_is_calm g a pushed needs c w k t r);
      behind = λ u meets b. record { kept = still_kept g a pushed needs c w k t row placed r (still_unary op width to v t) u meets b; result = given to v (costing 256 (row_by (routines.Unary op width) t)) t u meets small };
    }
