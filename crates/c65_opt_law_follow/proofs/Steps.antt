-- Moves of the two codes outside of the window.
use Rattle.std.proofs.Common.{◌≡◌, ℕ, suc, ◌+◌, ◌*◌, ◌<◌, ◌≤◌, ◌⊎◌, inl, inr, List, [], ◌∷◌, length, Option, Some, None, Bool, true, false, ◌||◌, IsTrue, refl, sym, ap, ◌∙◌, subst, arith, lit<}
use Rattle.std.specs.Prelude.{slice_get}
use Rattle.c65_base.specs.declared.library.Library.{Library}
use Rattle.c65_mach.specs.declared.rows.Op.{Op}
use Rattle.c65_mach.specs.declared.rows.Op.TheVariants as ops
use Rattle.c65_mach.specs.declared.rows.Mode.{Mode}
use Rattle.c65_mach.specs.Step.{Kind, Reads, Stores, Changes, Registers, Branches, Moves as Moving, kind_of}
use Rattle.c65_code.proofs.PartLaws.{has_part-union}
use Rattle.c65_code.specs.declared.line.Callee.TheVariants as callees
use Rattle.c65_code.specs.declared.line.Line.{Line}
use Rattle.c65_code.specs.declared.line.Line.TheVariants.{Label, Do, Call}
use Rattle.c65_code.specs.declared.line.Operand.{Operand}
use Rattle.c65_code.specs.declared.line.Operand.TheVariants.{To, Zero}
use Rattle.c65_code.specs.declared.parts.Part.{Part}
use Rattle.c65_code.specs.declared.parts.Part.TheVariants.{Zp}
use Rattle.c65_code.specs.declared.parts.RegSet.{RegSet}
use Rattle.c65_code.specs.declared.routine.Routine.TheVariants as routines
use Rattle.c65_code.specs.Access.{address_reads, op_reads, line_reads}
use Rattle.c65_code.specs.Comes.{Seen, seen_at, Shown, Shows, Comes, here, on}
use Rattle.c65_code.specs.Effects.{kept_at_calls, ptr4_bytes, library_reads}
use Rattle.c65_code.specs.Follows.{IsBelow, Grows, through as at_images}
use Rattle.c65_code.specs.Forms.{Form, Mark, Plain, Branch, Jump, Far, Push, Pull, Depth, Return, Run, Enter, Through, Stray, IsLocal, op_form, form_of}
use Rattle.c65_code.specs.LineLaws.{given_of, IsGivenByte}
use Rattle.c65_code.specs.LineState.{Place, Frame, State, zero_word, sp_of, s_of, IsBytes}
use Rattle.c65_code.specs.Moves.{settle, next, Does, MeetsRow, Enters, Returns, IsCallee, Calls, Goes, Moves}
use Rattle.c65_code.specs.Parts.{no_parts, all_parts, has_part, set_of, union_of, IsPart}
use Rattle.c65_code.specs.Placement.{Setting, stack_start}
use Rattle.c65_code.specs.Rows.{row_of}
use Rattle.c65_code.specs.Steady.{IsCalm, IsSteady, IsWithin, IsCallable, RowHasRoom, HasLines}
use Rattle.c65_code.specs.Weights.{row_cost, call_weight, Weighs}
use Rattle.c65_code_law.proofs.Sticks.{never_sticks}
use Rattle.c65_know_law.specs.Laws.{IsCall}
use Rattle.c65_know_law.proofs.Runs.{does_frames}
use Rattle.c65_opt_law_near.proofs.Operations.{calm_stays}
use Rattle.c65_opt_law_near.proofs.Sets.{in_left, in_right}
use Rattle.c65_opt_law_near.specs.Near.{before, Near}
use Rattle.c65_opt_law_straight.specs.Laws.{AreAsDeep}
use Rattle.c65_opt_law_calls.proofs.Calls.{calls_stay_near, returns_stay_near, ends_stay_near}
use Rattle.c65_opt_law_rows.proofs.Routines.{library_calls_stay_near}
use Rattle.c65_opt_law_rows.specs.Laws.{StaysNear}
use Rattle.c65_opt_law_follow.specs.Windows.{weight_of}
use Rattle.c65_opt_law_follow.proofs.Near.{near_part, hard_same}
use Rattle.c65_opt_law_follow.proofs.Lines.{goes_local, local_goes, next_same, leads, stays_steady, weighs_same, Answered, answered}
use Rattle.c65_opt_law_follow.proofs.Inner.{weighs_local, local_weighs, form_weighs}
use Rattle.c65_opt_law_follow.proofs.Walks.{comes_calm}
use Rattle.c65_opt_law_follow.proofs.Setup.{side, IsAt, IsOut, IsReached, Setup}
use Rattle.c65_opt_law_follow.proofs.Sides.{calm_side, steady_side}
use Rattle.c65_opt_law_follow.proofs.Relation.{near_all, IsFramed, AreFramed, deep, framed_on, Rel, Imaged, Goal, both}

-- ---- lines of calls and returns

no_call : (op : Op) (mode : Mode) (operand : Operand) (k : Kind) (j : ℕ) (reads gives : RegSet) → op_form k op mode operand ≡ Enter j reads gives → ⊥
no_call op mode operand Reads j reads gives e = cc
no_call op mode operand Stores j reads gives e = cc
no_call op mode operand Changes j reads gives e = cc
no_call op mode operand Registers j reads gives e = cc
no_call op mode (To l) Branches j reads gives e = cc
no_call op mode _ Branches j reads gives e = cc
no_call ops.Jmp mode (To l) Moving j reads gives e = cc
no_call ops.Jmp mode (Zero i) Moving j reads gives e = cc
no_call ops.Jmp mode _ Moving j reads gives e = cc
no_call _ mode operand Moving j reads gives e = cc

no_pointer : (op : Op) (mode : Mode) (operand : Operand) (k : Kind) (reads gives : RegSet) → op_form k op mode operand ≡ Through reads gives → ⊥
no_pointer op mode operand Reads reads gives e = cc
no_pointer op mode operand Stores reads gives e = cc
no_pointer op mode operand Changes reads gives e = cc
no_pointer op mode operand Registers reads gives e = cc
no_pointer op mode (To l) Branches reads gives e = cc
no_pointer op mode _ Branches reads gives e = cc
no_pointer ops.Jmp mode (To l) Moving reads gives e = cc
no_pointer ops.Jmp mode (Zero i) Moving reads gives e = cc
no_pointer ops.Jmp mode _ Moving reads gives e = cc
no_pointer _ mode operand Moving reads gives e = cc

rts_reads : (out : RegSet) (op : Op) (mode : Mode) (operand : Operand) (k : Kind) → op_form k op mode operand ≡ Return → (p : Part) → IsTrue (has_part (union_of out kept_at_calls) p) → IsTrue (has_part (op_reads out op mode operand) p)
rts_reads out op mode operand Reads e p h = absurd (cc)
rts_reads out op mode operand Stores e p h = absurd (cc)
rts_reads out op mode operand Changes e p h = absurd (cc)
rts_reads out op mode operand Registers e p h = absurd (cc)
rts_reads out op mode (To l) Branches e p h = absurd (cc)
rts_reads out op mode _ Branches e p h = absurd (cc)
rts_reads out ops.Jmp mode (To l) Moving e p h = absurd (cc)
rts_reads out ops.Jmp mode (Zero i) Moving e p h = absurd (cc)
rts_reads out ops.Jmp mode _ Moving e p h = absurd (cc)
rts_reads out ops.Rts mode operand Moving e p h =
    in_left (union_of (union_of out kept_at_calls) (set_of [])) (union_of (address_reads mode operand) no_parts) p (in_left (union_of out kept_at_calls) (set_of []) p h)
rts_reads out _ mode operand Moving e p h = absurd (cc)

return_line : (out : RegSet) (l : Line) → form_of l ≡ Return → (p : Part) → IsTrue (has_part (union_of out kept_at_calls) p) → IsTrue (has_part (line_reads out l) p)
return_line out (Label k) e p h = absurd (cc)
return_line out (Do op mode operand) e p h = rts_reads out op mode operand (kind_of op) e p h
return_line out (Call (callees.Routine r)) e p h = absurd (cc)
return_line out (Call (callees.Function f reads gives)) e p h = absurd (cc)
return_line out (Call (callees.Pointer reads gives)) e p h = absurd (cc)

module _ (s : Setting) (A B : ℕ → List Line) (f start : ℕ) (old : List Line) (m : ℕ → ℕ → ℕ) (live : ℕ → ℕ → RegSet) (known : ℕ → State → Type 0) (S : Setup s A B f start old m live known) (test : Shown → Seen → Bool) where
  abbrev pub a : Setting
  a = side s A

  abbrev pub b : Setting
  b = side s B

  abbrev pub R : Place → State → Seen → Place → State → Seen → Type 0
  R p t sa p2 t2 sb = Rel s A B f start old m live known p t sa p2 t2 sb

  abbrev pub Out : ℕ → ℕ → Type 0
  Out g q = IsOut f start (start + length old) g q

  abbrev Framed : List Frame → List Frame → Type 0
  Framed xs ys = AreFramed s A B f start old m live known xs ys

  -- both stand at a line, steadily in the old code
  pub record AtLine (n w v g q : ℕ) (l : Line) (t t2 : State) (sa sb : Seen) : Type 0 where
    pub less : w < suc n
    pub again : Goal s A B f start old m live known test n
    pub out : Out g q
    pub rel : R (g, q) t sa (g, m g q) t2 sb
    pub line : slice_get (A g) q ≡ Some l
    pub steady : IsSteady a l t
    pub weight : ℕ
    pub weighs : Weighs a (form_of l) t weight
    pub fits : weight + v ≤ w
    pub running : t.ended ≡ None
    pub rest : (q1 : Place) (u : State) → Moves a l (g, q) t q1 u → Comes a (Shows test) v q1 u (seen_at q1 (seen_at (g, q) sa))

  abbrev pub Done : ℕ → ℕ → ℕ → State → Seen → Type 0
  Done w g q t2 sb = Comes b (Shows (Imaged s A B f start old m live known test)) w (g, m g q) t2 (seen_at (g, m g q) sb)

  module _ (n w v g q : ℕ) (l : Line) (t t2 : State) (sa sb : Seen) (h : AtLine n w v g q l t t2 sa sb) where
    near : Near (live g q) t t2
    near = h.rel.near

    running2 : t2.ended ≡ None
    running2 = sym near.ended ∙ h.running

    deep2 : AreAsDeep t t2
    deep2 = deep s A B f start old m live known t t2 h.rel.frames

    hard2 : s_of t ≡ s_of t2
    hard2 = hard_same (live g q) t t2 near deep2

    calm_a : IsCalm a t2
    calm_a = calm_stays a (live g q) t t2 S.low h.steady.calm h.rel.bytes hard2 near

    calm_b : IsCalm b t2
    calm_b = calm_side s A B t2 calm_a

    one : 1 ≤ h.weight
    one = form_weighs a (form_of l) t h.weight h.weighs

    -- from here on both go on from related places
    go_on : (p : Place) (u : State) (p2 : Place) (u2 : State) → Moves a l (g, q) t p u → R p u (seen_at (g, q) sa) p2 u2 (seen_at (g, m g q) sb) → Comes b (Shows (Imaged s A B f start old m live known test)) v p2 u2 (seen_at p2 (seen_at (g, m g q) sb))
    go_on p u p2 u2 mv r = h.again v (omega (arith, h.less, h.fits, one)) p u (seen_at (g, q) sa) p2 u2 (seen_at (g, m g q) sb) r (h.rest p u mv)

    related : (p : Place) (u : State) (p2 : Place) (u2 : State) → p2 ≡ (p.0, m p.0 p.1) → IsReached f start (start + length old) p.0 p.1 → Near (live p.0 p.1) u u2 → Framed u.frames u2.frames
        → (p.0 ≡ f → p.1 ≤ start → u2.ended ≡ None → known p.1 u2) → IsBytes u2 → R p u (seen_at (g, q) sa) p2 u2 (seen_at (g, m g q) sb)
    related p u p2 u2 place reach near2 frames knows bytes = record {
      place = place;
      reach = reach;
      near = near2;
      frames = frames;
      knows = knows;
      bytes = bytes;
      arrived = both s A B f start old m live known (seen_at (g, q) sa) (seen_at (g, m g q) sb) p p2 h.rel.arrived place;
      left = λ i x o. h.rel.arrived i x;
    }

    -- ---- lines that stay in the function

    module _ (local : IsLocal (form_of l)) where
      after : RegSet
      after = live g (next (A g) (form_of l) q t.regs)

      near_line : Near (before (s.gives g) l (live g (next (A g) (form_of l) q t.regs))) t t2
      near_line = near_part (live g q) (before (s.gives g) l (live g (next (A g) (form_of l) q t.regs))) t t2 (λ p i k. S.live_line g q l t.regs h.line local p i k) near

      move_a : (u : State) → Does s.place (form_of l) t u → IsBytes u → Moves a l (g, q) t (g, next (A g) (form_of l) q t.regs) u
      move_a u d bytes = record { running = h.running; goes = local_goes a (form_of l) (g, q) (g, next (A g) (form_of l) q t.regs) t u local (refl, d); bytes = bytes }

      stays_in : (u : State) → Does s.place (form_of l) t u → IsBytes u → stack_start ≤ sp_of u
      stays_in u d bytes = (comes_calm a (Shows test) v (g, next (A g) (form_of l) q t.regs) u (seen_at (g, next (A g) (form_of l) q t.regs) (seen_at (g, q) sa)) (h.rest (g, next (A g) (form_of l) q t.regs) u (move_a u d bytes))).low

      flags : next (A g) (form_of l) q t.regs ≡ next (A g) (form_of l) q t2.regs
      flags = next_same (s.gives g) (live g (next (A g) (form_of l) q t.regs)) l (A g) q t t2 near_line

      to : (q2 : Place) → q2 ≡ (g, next (B g) (form_of l) (m g q) t2.regs) → q2 ≡ (g, m g (next (A g) (form_of l) q t.regs))
      to q2 e = e ∙ ap (λ (x : ℕ). (g, x)) (sym (ap (m g) flags ∙ S.next_same g q l t2.regs h.out h.line))

      knows_on : (u2 : State) → Does s.place (form_of l) t2 u2 → g ≡ f → next (A g) (form_of l) q t.regs ≤ start → Out g q → known (next (A g) (form_of l) q t.regs) u2
      knows_on u2 d same early (inl other) = absurd (other same)
      knows_on u2 d same early (inr (inl below)) =
          subst (λ (x : ℕ). known x u2) (sym flags) (S.known_step g q l t2 u2 same below h.line local h.rel.bytes running2 d (h.rel.knows same (omega (arith, below)) running2))
      knows_on u2 d same early (inr (inr above)) = S.known_back g q l t.regs u2 same above h.line local early

      onward : Done w g q t2 sb
      onward =
          let st2 = stays_steady a S.low (s.gives g) l (S.fit g q l h.line) (S.byte g q l h.line) local (live g (next (A g) (form_of l) q t.regs)) t t2 h.steady deep2 near_line h.rel.bytes in
          let first = leads a S.low (s.gives g) l t2 (S.fit g q l h.line) (S.byte g q l h.line) local st2 running2 in
          let is : h.weight ≡ weight_of (form_of l) t = weighs_local a (form_of l) t h.weight local h.weighs in
          let as_much : weight_of (form_of l) t2 ≡ weight_of (form_of l) t = weighs_same a S.low (s.gives g) l (S.fit g q l h.line) (S.byte g q l h.line) local (live g (next (A g) (form_of l) q t.regs)) t t2 h.steady deep2 near_line in
          on {w = w} {v = v} {seen = seen_at (g, m g q) sb} l (S.line_same g q l h.out h.line) (steady_side s A B l t2 local st2) (weight_of (form_of l) t2) (local_weighs b (form_of l) t2 local) (omega (arith, h.fits, is, as_much))
          (g, next (B g) (form_of l) (m g q) t2.regs) first.state
          (record { running = running2; goes = local_goes b (form_of l) (g, m g q) (g, next (B g) (form_of l) (m g q) t2.regs) t2 first.state local (refl, first.does); bytes = first.bytes }) (λ q2 u2 mm.
          let d = goes_local b (form_of l) (g, m g q) q2 t2 u2 local mm.goes in
          let x = answered a S.low (s.gives g) l (S.fit g q l h.line) (S.byte g q l h.line) local (live g (next (A g) (form_of l) q t.regs)) t t2 h.steady deep2 near_line h.running stays_in u2 d.1 mm.bytes in
          go_on (g, next (A g) (form_of l) q t.regs) x.state q2 u2 (move_a x.state x.does x.bytes)
          (related (g, next (A g) (form_of l) q t.regs) x.state q2 u2 (to q2 d.0) (S.reach_next g q l t.regs h.out h.line) x.near
          (framed_on s A B f start old m live known t t2 x.state u2 (does_frames s.place (form_of l) t x.state local x.does) (does_frames s.place (form_of l) t2 u2 local d.1) h.rel.frames)
          (λ same early run. knows_on u2 d.1 same early h.out) mm.bytes))

    -- ---- calls

    -- what is called has lines in the new code, or room
    abbrev HasPlace : Option Library → ℕ → State → Type 0
    HasPlace None j u = HasLines (B j)
    HasPlace (Some library) j u = RowHasRoom s.place (row_of (routines.Library library) u) u

    -- one call, by what it goes to: a function with lines, or one of the library that has none
    record IsCalling (j : ℕ) (o : Option Library) (reads gives : RegSet) : Type 0 where
      is : s.library j ≡ o
      call : IsCall (form_of l)
      passed : Near (union_of reads kept_at_calls) t t2
      callable : IsCallable a o j reads t
      weighs : h.weight ≡ call_weight o t
      steady_b : HasPlace o j t2 → IsSteady b l t2
      weighs_b : Weighs b (form_of l) t2 (call_weight o t2)
      to_a : (p : Place) (u : State) → Calls a o j reads gives (g, q) t p u → IsBytes u → Moves a l (g, q) t p u
      from_a : (p : Place) (u : State) → Moves a l (g, q) t p u → Calls a o j reads gives (g, q) t p u
      from_b : (p : Place) (u : State) → Moves b l (g, m g q) t2 p u → Calls b o j reads gives (g, m g q) t2 p u

    given : IsCall (form_of l) → IsGivenByte (given_of b (form_of l) t2)
    given i = by (form_of l) i
      where
        by : (form : Form) → IsCall form → IsGivenByte (given_of b form t2)
        by (Enter j reads gives) i = lit< tt
        by (Through reads gives) i = lit< tt
        by _ i = absurd i

    -- the place behind the call
    knows_behind : (u : State) → IsCall (form_of l) → g ≡ f → settle (A g) (suc q) ≤ start → known (settle (A g) (suc q)) u
    knows_behind u i same early = S.known_ret g q l u same h.line i early

    enters : (j : ℕ) (reads gives : RegSet) → IsCalling j None reads gives → Done w g q t2 sb
    enters j reads gives c =
        let st2 : IsSteady b l t2 = c.steady_b (S.there j c.callable) in
        let go = never_sticks b l (g, m g q) t2 (given c.call) st2 running2 in
        on {w = w} {v = v} {seen = seen_at (g, m g q) sb} l (S.line_same g q l h.out h.line) st2 (call_weight None t2) c.weighs_b (subst (λ (x : ℕ). x + v ≤ w) c.weighs h.fits) go.0 go.1 go.2 (λ q2 u2 mm.
        let e = c.from_b q2 u2 mm in
        let x = calls_stay_near a b j reads gives (union_of reads kept_at_calls) (g, q) q2 (g, m g q) t t2 u2 c.passed (λ p k. k) h.steady.calm.bytes mm.bytes e in
        go_on (j, settle (A j) 0) x.0 q2 u2 (c.to_a (j, settle (A j) 0) x.0 x.1 x.2)
        (related (j, settle (A j) 0) x.0 q2 u2 (e.to ∙ ap (λ (y : ℕ). (j, y)) (sym (S.entry_same j))) (S.reach_entry j) (near_all (live j (settle (A j) 0)) x.0 u2 x.3)
        (subst (λ (ys : List Frame). Framed x.0.frames ys) (sym e.frames) (subst (λ (xs : List Frame). Framed xs (record { back = (g, settle (B g) (suc (m g q))); pushed = t2.pushed; gives = gives } ∷ t2.frames)) (sym x.1.frames) (
          record {
            back = ap (λ (y : ℕ). (g, y)) (sym (S.ret_same g q h.out));
            pushed = near.pushed;
            gives = refl;
            reach = S.reach_ret g q h.out;
            knows = λ same early u. knows_behind u c.call same early;
          },
          h.rel.frames,
        )))
        (λ same early run. S.known_entry j u2 same early) mm.bytes))

    served : (j : ℕ) (library : Library) (reads gives : RegSet) → IsCalling j (Some library) reads gives → Done w g q t2 sb
    served j library reads gives c =
        let stays = library_calls_stay_near a library reads (live g (settle (A g) (suc q))) t t2 S.low h.steady.calm c.callable.0 c.callable.1 hard2 c.passed in
        let st2 : IsSteady b l t2 = c.steady_b stays.room in
        let go = never_sticks b l (g, m g q) t2 (given c.call) st2 running2 in
        on {w = w} {v = v} {seen = seen_at (g, m g q) sb} l (S.line_same g q l h.out h.line) st2 (call_weight (Some library) t2) c.weighs_b (omega (arith, h.fits, c.weighs, stays.cost)) go.0 go.1 go.2 (λ q2 u2 mm.
        let e = c.from_b q2 u2 mm in
        let x = stays.answered (template.0) u2 template.1 template.2 template.3 e.1 mm.bytes in
        go_on (g, settle (A g) (suc q)) x.state q2 u2 (c.to_a (g, settle (A g) (suc q)) x.state (refl, x.meets) x.bytes)
        (related (g, settle (A g) (suc q)) x.state q2 u2 (e.0 ∙ ap (λ (y : ℕ). (g, y)) (sym (S.ret_same g q h.out))) (S.reach_ret g q h.out) x.near
        (framed_on s A B f start old m live known t t2 x.state u2 (does_frames s.place (Run (routines.Library library)) t x.state tt x.meets) (does_frames s.place (Run (routines.Library library)) t2 u2 tt e.1) h.rel.frames)
        (λ same early run. knows_behind u2 c.call same early) mm.bytes))
      where
        given_a : IsCall (form_of l) → IsGivenByte (given_of a (form_of l) t)
        given_a i = by (form_of l) i
          where
            by : (form : Form) → IsCall form → IsGivenByte (given_of a form t)
            by (Enter j reads gives) i = lit< tt
            by (Through reads gives) i = lit< tt
            by _ i = absurd i

        -- some state after it in the old code
        template : (u : State) × MeetsRow (row_of (routines.Library library) t) t u × IsBytes u × (stack_start ≤ sp_of u)
        template =
            let y = never_sticks a l (g, q) t (given_a c.call) h.steady h.running in
            let e = c.from_a y.0 y.1 y.2 in
            (y.1, e.1, y.2.bytes, (comes_calm a (Shows test) v y.0 y.1 (seen_at y.0 (seen_at (g, q) sa)) (h.rest y.0 y.1 y.2)).low)

    calls : (j : ℕ) (o : Option Library) (reads gives : RegSet) → IsCalling j o reads gives → Done w g q t2 sb
    calls j None reads gives c = enters j reads gives c
    calls j (Some library) reads gives c = served j library reads gives c

    passes_reads : (reads : RegSet) → ((p : Part) → IsPart p → IsTrue (has_part reads p) → IsTrue (has_part (line_reads (s.gives g) l) p)) → Near reads t t2
    passes_reads reads k = near_part (live g q) reads t t2 (λ p i x. S.live_reads g q l h.line p i (k p i x)) near

    -- the line of a call
    call_line : (j : ℕ) (reads gives : RegSet) → form_of l ≡ Enter j reads gives → line_reads (s.gives g) l ≡ union_of reads kept_at_calls
    call_line j reads gives e = by l e
      where
        by : (x : Line) → form_of x ≡ Enter j reads gives → line_reads (s.gives g) x ≡ union_of reads kept_at_calls
        by (Label k) e = absurd (cc)
        by (Do op mode operand) e = absurd (no_call op mode operand (kind_of op) j reads gives e)
        by (Call (callees.Routine r)) e = absurd (cc)
        by (Call (callees.Function f2 reads2 gives2)) e = let same : reads2 ≡ reads = cc in ap (λ (x : RegSet). union_of x kept_at_calls) same
        by (Call (callees.Pointer reads2 gives2)) e = absurd (cc)

    pointer_line : (reads gives : RegSet) → form_of l ≡ Through reads gives → line_reads (s.gives g) l ≡ union_of (union_of reads kept_at_calls) ptr4_bytes
    pointer_line reads gives e = by l e
      where
        by : (x : Line) → form_of x ≡ Through reads gives → line_reads (s.gives g) x ≡ union_of (union_of reads kept_at_calls) ptr4_bytes
        by (Label k) e = absurd (cc)
        by (Do op mode operand) e = absurd (no_pointer op mode operand (kind_of op) reads gives e)
        by (Call (callees.Routine r)) e = absurd (cc)
        by (Call (callees.Function f2 reads2 gives2)) e = absurd (cc)
        by (Call (callees.Pointer reads2 gives2)) e = let same : reads2 ≡ reads = cc in ap (λ (x : RegSet). union_of (union_of x kept_at_calls) ptr4_bytes) same

    by_name : (j : ℕ) (reads gives : RegSet) → form_of l ≡ Enter j reads gives → Done w g q t2 sb
    by_name j reads gives e = calls j (s.library j) reads gives (record {
      is = refl;
      call = subst IsCall (sym e) tt;
      passed = passes_reads (union_of reads kept_at_calls) (λ p i k. subst (λ (x : RegSet). IsTrue (has_part x p)) (sym (call_line j reads gives e)) k);
      callable = within;
      weighs = subst (λ (x : Form). Weighs a x t h.weight) e h.weighs;
      steady_b = λ k. record { calm = calm_b; within = subst (λ (x : Form). IsWithin b x t2) (sym e) (callable_b (s.library j) k within) };
      weighs_b = subst (λ (x : Form). Weighs b x t2 (call_weight (s.library j) t2)) (sym e) refl;
      to_a = λ p u c bytes. record { running = h.running; goes = subst (λ (x : Form). Goes a x (g, q) t p u) (sym e) c; bytes = bytes };
      from_a = λ p u mv. subst (λ (x : Form). Goes a x (g, q) t p u) e mv.goes;
      from_b = λ p u mv. subst (λ (x : Form). Goes b x (g, m g q) t2 p u) e mv.goes;
    })
      where
        within : IsCallable a (s.library j) j reads t
        within = subst (λ (x : Form). IsWithin a x t) e h.steady.within

        callable_b : (o : Option Library) → HasPlace o j t2 → IsCallable a o j reads t → IsCallable b o j reads t2
        callable_b None k c = k
        callable_b (Some library) k c = (k, c.1)

    through_pointer : (reads gives : RegSet) → form_of l ≡ Through reads gives → Done w g q t2 sb
    through_pointer reads gives e = calls within.0 (s.library within.0) (union_of reads ptr4_bytes) gives (record {
      is = refl;
      call = subst IsCall (sym e) tt;
      passed = passes_reads (union_of (union_of reads ptr4_bytes) kept_at_calls) (λ p i k. subst (λ (x : RegSet). IsTrue (has_part x p)) (sym (pointer_line reads gives e)) (turned p k));
      callable = wider (s.library within.0) within.2;
      weighs = weighs_one (subst (λ (x : Form). Weighs a x t h.weight) e h.weighs);
      steady_b = λ k. record { calm = calm_b; within = subst (λ (x : Form). IsWithin b x t2) (sym e) (within.0, callee_b within.0 within.1, callable_b (s.library within.0) k within.2) };
      weighs_b = subst (λ (x : Form). Weighs b x t2 (call_weight (s.library within.0) t2)) (sym e) (within.0, callee_b within.0 within.1, refl);
      to_a = λ p u c bytes. record { running = h.running; goes = subst (λ (x : Form). Goes a x (g, q) t p u) (sym e) (within.0, within.1, c); bytes = bytes };
      from_a = λ p u mv. let x = subst (λ (x : Form). Goes a x (g, q) t p u) e mv.goes in subst (λ (j : ℕ). Calls a (s.library j) j (union_of reads ptr4_bytes) gives (g, q) t p u) (callee_one x.0 within.0 x.1 within.1) x.2;
      from_b = λ p u mv. let x = subst (λ (x : Form). Goes b x (g, m g q) t2 p u) e mv.goes in
          subst (λ (j : ℕ). Calls b (s.library j) j (union_of reads ptr4_bytes) gives (g, m g q) t2 p u) (callee_one x.0 within.0 (callee_a x.0 x.1) within.1) x.2;
    })
      where
        within : (j : ℕ) × IsCallee a t j × IsCallable a (s.library j) j reads t
        within = subst (λ (x : Form). IsWithin a x t) e h.steady.within

        pointer_same : zero_word t 14 ≡ zero_word t2 14
        pointer_same =
            let n : Near ptr4_bytes t t2 = passes_reads ptr4_bytes (λ p i k. subst (λ (x : RegSet). IsTrue (has_part x p)) (sym (pointer_line reads gives e)) (in_right (union_of reads kept_at_calls) ptr4_bytes p k)) in
            ap (λ (x : ℕ). x + 256 * t.zp 15) (n.part (Zp 14) refl) ∙ ap (λ (x : ℕ). t2.zp 14 + 256 * x) (n.part (Zp 15) refl)

        callee_b : (j : ℕ) → IsCallee a t j → IsCallee b t2 j
        callee_b j c = (c.0, c.1 ∙ pointer_same)

        callee_a : (j : ℕ) → IsCallee b t2 j → IsCallee a t j
        callee_a j c = (c.0, c.1 ∙ sym pointer_same)

        callee_one : (j k : ℕ) → IsCallee a t j → IsCallee a t k → j ≡ k
        callee_one j k c d = S.own j k c.0 d.0 (c.1 ∙ sym d.1)

        turned : (p : Part) → IsTrue (has_part (union_of (union_of reads ptr4_bytes) kept_at_calls) p) → IsTrue (has_part (union_of (union_of reads kept_at_calls) ptr4_bytes) p)
        turned p k =
            has_part-union (union_of reads kept_at_calls) ptr4_bytes p ∙ (ap (λ (x : Bool). x || has_part ptr4_bytes p) (has_part-union reads kept_at_calls p)
            ∙ turn (has_part reads p) (has_part kept_at_calls p) (has_part ptr4_bytes p) (sym (has_part-union (union_of reads ptr4_bytes) kept_at_calls p ∙ ap (λ (x : Bool). x || has_part kept_at_calls p) (has_part-union reads ptr4_bytes p)) ∙ k))
          where
            turn : (x y z : Bool) → ((x || z) || y) ≡ true → ((x || y) || z) ≡ true
            turn true y z h = refl
            turn false true z h = refl
            turn false false true h = refl
            turn false false false h = absurd (cc)

        wide : (p : Part) → IsTrue (has_part (union_of reads kept_at_calls) p) → IsTrue (has_part (union_of (union_of reads ptr4_bytes) kept_at_calls) p)
        wide p k =
            has_part-union (union_of reads ptr4_bytes) kept_at_calls p ∙ (ap (λ (x : Bool). x || has_part kept_at_calls p) (has_part-union reads ptr4_bytes p)
            ∙ more (has_part reads p) (has_part kept_at_calls p) (has_part ptr4_bytes p) (sym (has_part-union reads kept_at_calls p) ∙ k))
          where
            more : (x y z : Bool) → (x || y) ≡ true → ((x || z) || y) ≡ true
            more true y z h = refl
            more false true true h = refl
            more false true false h = refl
            more false false z h = absurd (cc)

        wider : (o : Option Library) → IsCallable a o within.0 reads t → IsCallable a o within.0 (union_of reads ptr4_bytes) t
        wider None c = c
        wider (Some library) c = (c.0, λ p k. wide p (c.1 p k))

        weighs_one : Weighs a (Through reads gives) t h.weight → h.weight ≡ call_weight (s.library within.0) t
        weighs_one x = x.2 ∙ ap (λ (j : ℕ). call_weight (s.library j) t) (callee_one x.0 within.0 x.1 within.1)

        callable_b : (o : Option Library) → HasPlace o within.0 t2 → IsCallable a o within.0 reads t → IsCallable b o within.0 reads t2
        callable_b None k c = k
        callable_b (Some library) k c = (k, c.1)

    -- ---- returns

    returns : form_of l ≡ Return → Done w g q t2 sb
    returns e =
        let st2 : IsSteady b l t2 = record { calm = calm_b; within = subst (λ (x : Form). IsWithin b x t2) (sym e) (sym near.pushed ∙ subst (λ (x : Form). IsWithin a x t) e h.steady.within) } in
        let go = never_sticks b l (g, m g q) t2 (subst (λ (x : Form). IsGivenByte (given_of b x t2)) (sym e) (lit< tt)) st2 running2 in
        let is : h.weight ≡ 1 = subst (λ (x : Form). Weighs a x t h.weight) e h.weighs in
        on {w = w} {v = v} {seen = seen_at (g, m g q) sb} l (S.line_same g q l h.out h.line) st2 1 (subst (λ (x : Form). Weighs b x t2 1) (sym e) refl) (omega (arith, h.fits, is)) go.0 go.1 go.2 (λ q2 u2 mm.
        back t.frames t2.frames refl refl h.rel.frames q2 u2 mm.bytes (subst (λ (x : Form). Goes b x (g, m g q) t2 q2 u2) e mm.goes))
      where
        gives_live : RegSet
        gives_live = union_of (live g q) (union_of (s.gives g) kept_at_calls)

        reads_of : (p : Part) → IsTrue (has_part (union_of (s.gives g) kept_at_calls) p) → IsTrue (has_part (line_reads (s.gives g) l) p)
        reads_of p k = return_line (s.gives g) l e p k

        near_gives : Near (union_of (live g q) (union_of (s.gives g) kept_at_calls)) t t2
        near_gives = near_part (live g q) (union_of (live g q) (union_of (s.gives g) kept_at_calls)) t t2 (λ p i k. pick p i (has_part (live g q) p) refl (sym (has_part-union (live g q) (union_of (s.gives g) kept_at_calls) p) ∙ k)) near
          where
            pick : (p : Part) → IsPart p → (x : Bool) → has_part (live g q) p ≡ x → (has_part (live g q) p || has_part (union_of (s.gives g) kept_at_calls) p) ≡ true → has_part (live g q) p ≡ true
            pick p i true f k = f
            pick p i false f k = S.live_reads g q l h.line p i (reads_of p (sym (ap (λ (x : Bool). x || has_part (union_of (s.gives g) kept_at_calls) p) f) ∙ k))

        back : (xs ys : List Frame) → t.frames ≡ xs → t2.frames ≡ ys → Framed xs ys → (q2 : Place) (u2 : State) → IsBytes u2 → Returns b ys (g, m g q) t2 q2 u2 → Comes b (Shows (Imaged s A B f start old m live known test)) v q2 u2 (seen_at q2 (seen_at (g, m g q) sb))
        back [] (y ∷ ys) ex ey fr q2 u2 bytes r = absurd fr
        back (x ∷ xs) [] ex ey fr q2 u2 bytes r = absurd fr
        back [] [] ex ey fr q2 u2 bytes r =
            let x = ends_stay_near a b (union_of (live g q) (union_of (s.gives g) kept_at_calls)) (g, q) q2 (g, m g q) t t2 u2 near_gives refl (λ p k. in_right (live g q) (union_of (s.gives g) kept_at_calls) p (in_left (s.gives g) kept_at_calls p k)) h.steady.calm.bytes r in
            go_on (g, q) x.0 q2 u2 (record { running = h.running; goes = subst (λ (f : Form). Goes a f (g, q) t (g, q) x.0) (sym e) (subst (λ (fs : List Frame). Returns a fs (g, q) t (g, q) x.0) (sym ex) x.1); bytes = x.2 })
            (related (g, q) x.0 q2 u2 r.4 h.rel.reach (near_part (union_of (live g q) (union_of (s.gives g) kept_at_calls)) (live g q) x.0 u2 (λ p i k. in_left (live g q) (union_of (s.gives g) kept_at_calls) p k) x.3)
            (subst (λ (fs : List Frame). Framed x.0.frames fs) (sym (ap (λ (y : State). y.frames) r.5 ∙ ey)) (subst (λ (fs : List Frame). Framed fs []) (sym (ap (λ (y : State). y.frames) x.1.5 ∙ ex)) tt))
            (λ same early run. absurd (never r.0 (ap (λ (y : State). y.ended) (sym r.5) ∙ run))) bytes)
          where
            never : (k : ℕ) → Some k ≡ None → ⊥
            never k e = cc
        back (x ∷ xs) (y ∷ ys) ex ey fr q2 u2 bytes r =
            let z = returns_stay_near a b (union_of (live g q) (union_of (s.gives g) kept_at_calls)) (g, q) q2 (g, m g q) x y xs ys t t2 u2 near_gives refl (λ p k. in_right (live g q) (union_of (s.gives g) kept_at_calls) p k) fr.0.pushed fr.0.gives ex h.steady.calm.bytes bytes r in
            go_on x.back z.0 q2 u2 (record { running = h.running; goes = subst (λ (f : Form). Goes a f (g, q) t x.back z.0) (sym e) (subst (λ (fs : List Frame). Returns a fs (g, q) t x.back z.0) (sym ex) z.1); bytes = z.2 })
            (related x.back z.0 q2 u2 (r.1 ∙ fr.0.back) fr.0.reach (near_all (live x.back.0 x.back.1) z.0 u2 z.3)
            (subst (λ (fs : List Frame). Framed z.0.frames fs) (sym r.4) (subst (λ (fs : List Frame). Framed fs ys) (sym z.1.4) fr.1))
            (λ same early run. fr.0.knows same early u2) bytes)

    by_form : (form : Form) → form_of l ≡ form → Done w g q t2 sb
    by_form Return e = returns e
    by_form (Enter j reads gives) e = by_name j reads gives e
    by_form (Through reads gives) e = through_pointer reads gives e
    by_form Mark e = absurd (subst (λ (x : Form). IsWithin a x t) e h.steady.within)
    by_form (Far i) e = absurd (subst (λ (x : Form). IsWithin a x t) e h.steady.within)
    by_form Stray e = absurd (subst (λ (x : Form). IsWithin a x t) e h.steady.within)
    by_form (Plain op mode operand) e = onward (subst IsLocal (sym e) tt)
    by_form (Branch op k) e = onward (subst IsLocal (sym e) tt)
    by_form (Jump k) e = onward (subst IsLocal (sym e) tt)
    by_form Push e = onward (subst IsLocal (sym e) tt)
    by_form Pull e = onward (subst IsLocal (sym e) tt)
    by_form Depth e = onward (subst IsLocal (sym e) tt)
    by_form (Run r) e = onward (subst IsLocal (sym e) tt)

    pub by_line : Done w g q t2 sb
    by_line = by_form (form_of l) refl
