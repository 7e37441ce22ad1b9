-- The lines of main's end, and its return.
use Rattle.std.proofs.Common.{◌≡◌, ℕ, zero, suc, ◌+◌, ◌*◌, ◌<◌, ◌≤◌, ℤ, pos, negsuc, Bool, true, false, List, [], ◌∷◌, ◌++◌, length, Some, refl, sym, ap, ◌∙◌, subst, arith}
use Rattle.std.specs.Prelude.{IsTrue, if◌then◌else◌}
use Rattle.std.proofs.lemmas.List.{append_assoc}
use Rattle.c65_ints.specs.Ranges.{residue}
use Rattle.c65_ints.specs.declared.types.IntType.TheVariants.{Int}
use Rattle.c65_mach.specs.declared.rows.Op.TheVariants.{Rts}
use Rattle.c65_meaning.specs.Store.{Value, Whole, Null, Place, Opaque, Cells, NoValue, Number}
use Rattle.c65_meaning.specs.Operators.{unusable}
use Rattle.c65_meaning.specs.Items.{Item}
use Rattle.c65_meaning.specs.State as meaning
use Rattle.c65_meaning.specs.State.{Scene, Ended, Frame as Call}
use Rattle.c65_meaning.specs.Step.{steps, status_of, frames_below, back_in, left_call}
use Rattle.c65_code.specs.declared.line.Line.{Line}
use Rattle.c65_code.specs.declared.parts.Part.TheVariants.{A}
use Rattle.c65_code.specs.Parts.{has_part}
use Rattle.c65_code.specs.LineState.{State, sp_of, eax_of, IsBytes}
use Rattle.c65_code.specs.Placement.{IsPlacement, stack_end}
use Rattle.c65_code.specs.Forms.{Return}
use Rattle.c65_code.specs.Steady.{IsCalm}
use Rattle.c65_code.specs.Comes.{Seen, seen_at}
use Rattle.c65_genframe.specs.Frames.{Framed, saved_bytes}
use Rattle.c65_genentry.specs.Words.{implied}
use Rattle.c65_genentry.specs.Stack.{raise_code}
use Rattle.c65_genentry.specs.Ends.{restored_code, plain_end, variadic_end, end_code}
use Rattle.c65_agree_step.specs.Ways.{IsAtLine}
use Rattle.c65_agree_step.specs.Laws.{ending}
use Rattle.c65_agree_step.proofs.Ways.{weaken, main_ends}
use Rattle.c65_agree_store.specs.Stands.{Placing, Banks}
use Rattle.c65_agree_state.specs.World.{World, program_in, unit_in, setting_in, Active, lines_of, place_in, total_in, HasAt, HasTurns}
use Rattle.c65_agree_state.specs.Joins.{call_bytes}
use Rattle.c65_agree_state.specs.Follows.{Agrees, Follows}
use Rattle.c65_agree_state.specs.Exprs.{Valued, ResultIs, width_in}
use Rattle.c65_agree_between.specs.Stmts.{Between}
use Rattle.c65_agree_state.proofs.Followed.{follows_weaken, arrivals_count, ready_is_calm}
use Rattle.c65_agree_state.proofs.Nodes.{has_front, has_back}
use Rattle.c65_agree_between.proofs.Between.{between_is_ready}
use Rattle.c65_agree_rows.proofs.Quiet.{nothing_follows, ends_there}
use Rattle.c65_agree_frame.specs.Leads.{IsOn}
use Rattle.c65_agree_frame.specs.Laws.{move_cost}
use Rattle.c65_agree_frame.specs.Ends.{end_cost}
use Rattle.c65_agree_frame.proofs.Banks.{saved_few}
use Rattle.c65_agree_frame.proofs.Stack.{stacks_are_raised}
use Rattle.c65_agree_frame.proofs.Ends.{IsUndone, undone_then, undone_lead, undone_on}
use Rattle.c65_agree_leave.specs.Calls.{scene_behind}
use Rattle.c65_agree_leave.specs.Laws.{params_in}
use Rattle.c65_agree_leave.proofs.Endings.{arguments_else}
use Rattle.c65_agree_end.specs.Laws.{IsFirstCall}

-- ---- the return

module _ (g : World) (a : Active) (t : State) (on : IsOn g t) (none : t.pushed ≡ []) (last : t.frames ≡ []) (gives : IsTrue (has_part ((setting_in g).gives a.symbol) A)) where
  -- the state behind it is as calm
  calm_behind : (v : ℕ) → IsCalm (setting_in g) (ending v t)
  calm_behind v =
      let b = on.stacks.calm.bytes in
      record { low = on.stacks.calm.low; high = on.stacks.calm.high; hard = on.stacks.calm.hard; constant = on.stacks.calm.constant; bytes = record { a = b.a; x = b.x; y = b.y; zp = b.zp; mem = b.mem; pushed = b.pushed; frames = b.frames } }

  pub main_returns : (n v p turns : ℕ) (out : List ℕ) (seen : Seen) → HasAt (lines_of g a) p (implied Rts ∷ []) → HasTurns g turns (place_in g a p) seen → t.output ≡ out → Follows g n (1 + v) (Ended out t.regs.a turns) (place_in g a p) t seen
  main_returns n v p turns out seen has turned text d =
      let q = Agrees g (steps (program_in g) n (Ended out t.regs.a turns)) in
      let at : IsAtLine (setting_in g) a.symbol p t Return = record { line = implied Rts; there = has.0; formed = refl; calm = on.stacks.calm; within = none; running = on.running } in
      weaken (setting_in g) q (4000 * n + (1 + v)) (omega arith) (main_ends q (setting_in g) (4000 * n + v) a.symbol p t seen at last (λ s same small.
      ends_there g n v out t.regs.a turns (a.symbol, p) (ending s t) (seen_at (a.symbol, p) seen) text (ap Some (same gives)) (still s) (calm_behind s) d))
    where
      still : (s : ℕ) → turns ≤ total_in g (seen_at (a.symbol, p) seen)
      still s = let h = arrivals_count g turns (a.symbol, p) seen (omega (arith, turned)) in omega (arith, h)

-- ---- the end

low_byte : (a x : ℕ) (z : ℤ) → a < 256 → a + 256 * x ≡ residue 65536 z → a ≡ residue 256 z
low_byte a x (pos n) lt e = omega (arith, lt, e)
low_byte a x (negsuc n) lt e = omega (arith, lt, e)

module _ (g : World) (a : Active) (placed : IsPlacement g.code g.place) (e : ℕ) (m : IsFirstCall g a e) (t : State) (on : IsOn g t) (none : t.pushed ≡ []) (last : t.frames ≡ []) (sp : sp_of t ≡ a.base) where
  abbrev f : Framed
  f = a.frame

  room : sp_of t + (f.soft + (saved_bytes f.bank + f.stacked)) ≤ stack_end
  room = omega (arith, sp, m.high, m.none_raised)

  -- A stays up to the return
  plain_ends : (n v p turns : ℕ) (out : List ℕ) (seen : Seen) → HasAt (lines_of g a) p (plain_end f.soft f.bank f.stacked) → HasTurns g turns (place_in g a p) seen → t.output ≡ out
      → Follows g n (move_cost f.soft + 256 + (move_cost f.stacked + (1 + v))) (Ended out t.regs.a turns) (place_in g a p) t seen
  plain_ends n v p turns out seen has turned text =
      let first : List Line = raise_code f.soft ++ restored_code f.bank in
      let end : meaning.State = Ended out t.regs.a turns in
      let whole : HasAt (lines_of g a) p (first ++ (raise_code f.stacked ++ implied Rts ∷ [])) = subst (HasAt (lines_of g a) p) (sym (append_assoc (raise_code f.soft) (restored_code f.bank) (raise_code f.stacked ++ implied Rts ∷ []))) has in
      undone_lead g a placed f.soft f.bank t on (omega (arith, room)) n (move_cost f.stacked + (1 + v)) p turns end seen (has_front (lines_of g a) p first (raise_code f.stacked ++ implied Rts ∷ []) whole) turned (λ u1 l1 h1 t1.
      let on1 = undone_on g a placed f.soft (saved_bytes f.bank) 0 t u1 on (omega (arith, room)) h1 in
      let rest = has_back (lines_of g a) p first (raise_code f.stacked ++ implied Rts ∷ []) whole in
      stacks_are_raised g a f.stacked u1 placed on1 (omega (arith, h1.sp, room)) n (1 + v) (p + length first) turns end l1 (has_front (lines_of g a) (p + length first) (raise_code f.stacked) (implied Rts ∷ []) rest) t1 (λ u2 l2 h2 t2.
      let h3 = undone_then f.soft (saved_bytes f.bank) f.stacked t u1 u2 (saved_few f.bank) h1 h2 in
      let on2 = undone_on g a placed f.soft (saved_bytes f.bank) f.stacked t u2 on room h3 in
      let same : u2.regs.a ≡ t.regs.a = omega (arith, h3.stays.value, h3.stays.bytes.a, h3.stays.bytes.x, on.stacks.calm.bytes.a, on.stacks.calm.bytes.x) in
      subst (λ s. Follows g n (1 + v) (Ended out s turns) (place_in g a (p + length first + length (raise_code f.stacked))) u2 l2) same
      (main_returns g a u2 on2 (h3.stays.pushed ∙ none) (h3.stays.frames ∙ last) m.gives n v (p + length first + length (raise_code f.stacked)) turns out l2 (has_back (lines_of g a) (p + length first) (raise_code f.stacked) (implied Rts ∷ []) rest) t2 (h3.stays.output ∙ text))))

  pub main_ends_run : (n v p turns : ℕ) (out : List ℕ) (seen : Seen) → HasAt (lines_of g a) p (end_code f) → HasTurns g turns (place_in g a p) seen → t.output ≡ out → Follows g n (end_cost f + v) (Ended out t.regs.a turns) (place_in g a p) t seen
  main_ends_run n v p turns out seen has turned text = go f.variadic refl has
    where
      go : (b : Bool) → f.variadic ≡ b → HasAt (lines_of g a) p (if b then variadic_end f.soft f.bank else plain_end f.soft f.bank f.stacked) → Follows g n (end_cost f + v) (Ended out t.regs.a turns) (place_in g a p) t seen
      go true h lines = let clash : true ≡ false = sym h ∙ m.plain in cc
      go false h lines =
          follows_weaken g n (move_cost f.soft + 256 + (move_cost f.stacked + (1 + v))) (end_cost f + v) (Ended out t.regs.a turns) (place_in g a p) t seen (omega arith) (plain_ends n v p turns out seen lines turned text)

-- ---- the step

module _ (g : World) (a : Active) (placed : IsPlacement g.code g.place) (e : ℕ) (m : IsFirstCall g a e) (needs : ℕ) (c : Scene) (w : Placing) (k : Banks) (t : State) (between : Between g a needs (params_in g a) c w k t) (p : ℕ) (seen : Seen) (has : HasAt (lines_of g a) p (end_code a.frame)) (turned : HasTurns g c.turns (place_in g a p) seen) where
  on : IsOn g t
  on = record { stacks = ready_is_calm g a 0 needs c w k t (between_is_ready g a needs (params_in g a) c w k t between); running = between.joins.ended }

  -- no call of the meaning is behind either
  none_below : frames_below c.frames ≡ []
  none_below =
      let few : length a.calls ≡ 0 = between.joins.as_many ∙ ap length m.first in
      between.joins.calls ∙ empty a.calls few
    where
      empty : (fs : List Call) → length fs ≡ 0 → fs ≡ []
      empty [] h = refl
      empty (x ∷ fs) h = absurd (omega (arith, h))

  leaves : (v : Value) (n weight : ℕ) → ResultIs Valued w (width_in (Number Int)) v t → (behind : Scene) → behind.out ≡ c.out → behind.turns ≡ c.turns → Follows g n (end_cost a.frame + weight) (status_of behind v) (place_in g a p) t seen
  leaves (Whole z) n weight is behind out turns =
      let status : t.regs.a ≡ residue 256 z = low_byte t.regs.a t.regs.x z between.joins.bytes.a is in
      let there : Follows g n (end_cost a.frame + weight) (Ended behind.out t.regs.a behind.turns) (place_in g a p) t seen =
      main_ends_run g a placed e m t on between.none_pushed (between.joins.frames ∙ m.first) between.sp n weight p behind.turns behind.out seen has (subst (λ x. HasTurns g x (place_in g a p) seen) (sym turns) turned) (between.joins.output ∙ sym out) in
      subst (λ s. Follows g n (end_cost a.frame + weight) (Ended behind.out s behind.turns) (place_in g a p) t seen) status there
  leaves Null n weight is behind out turns = nothing_follows g (unusable Null) n (end_cost a.frame + weight) (place_in g a p) t seen
  leaves (Place b o) n weight is behind out turns = nothing_follows g (unusable (Place b o)) n (end_cost a.frame + weight) (place_in g a p) t seen
  leaves Opaque n weight is behind out turns = nothing_follows g (unusable Opaque) n (end_cost a.frame + weight) (place_in g a p) t seen
  leaves (Cells xs) n weight is behind out turns = nothing_follows g (unusable (Cells xs)) n (end_cost a.frame + weight) (place_in g a p) t seen
  leaves NoValue n weight is behind out turns = nothing_follows g (unusable NoValue) n (end_cost a.frame + weight) (place_in g a p) t seen

  pub is_left : (v : Value) (n weight : ℕ) (below : List Item) (vs : List Value) → ResultIs Valued w (width_in (Number Int)) v t → Follows g n (end_cost a.frame + weight) (left_call (unit_in g) v below vs c) (place_in g a p) t seen
  is_left v n weight below vs is =
      let same = arguments_else (unit_in g) c in
      let behind : Scene = scene_behind g c in
      let ends : left_call (unit_in g) v below vs c ≡ status_of behind v = ap (λ fs. back_in fs below vs behind v) none_below in
      subst (λ s. Follows g n (end_cost a.frame + weight) s (place_in g a p) t seen) (sym ends) (leaves v n weight is behind same.out same.turns)
