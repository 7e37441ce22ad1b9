-- A word that is stored at sp and Y, over a push of its low byte.
use Rattle.std.proofs.Common.{◌≡◌, ℕ, ◌+◌, ◌%◌, ◌≤◌, true, false, List, [], ◌∷◌, None, refl, sym, ap, ◌∙◌, arith}
use Rattle.std.proofs.lemmas.Bool.{leb-true}
use Rattle.std.proofs.lemmas.List.{append-nil}
use Rattle.c65_mach.specs.State.{Regs}
use Rattle.c65_mach.specs.Step.{after, with_a, with_y}
use Rattle.c65_mach.specs.declared.rows.Op.TheVariants as ops
use Rattle.c65_code.specs.declared.line.Line.{Line}
use Rattle.c65_code.specs.declared.parts.Part.{Part}
use Rattle.c65_code.specs.declared.parts.Part.TheVariants as parts
use Rattle.c65_code.specs.declared.routine.Routine.TheVariants as routines
use Rattle.c65_code.specs.Effects.{routine_sets}
use Rattle.c65_code.specs.LineState.{write, zero_word, State, sp_of, Same}
use Rattle.c65_code.specs.Moves.{MeetsRow}
use Rattle.c65_code.specs.Parts.{has_part}
use Rattle.c65_code.specs.Placement.{Setting}
use Rattle.c65_code.specs.Rows.{row_of}
use Rattle.c65_code.specs.Steady.{IsCalm, RowHasRoom}
use Rattle.c65_pass.specs.LibraryRules.{on_stack}
use Rattle.c65_pass.specs.Registers.{alone}
use Rattle.c65_opt_law_near.specs.Laws.{IsLow}
use Rattle.c65_opt_law_opened.proofs.AtSp.{IsInStack, in_stack, at_y, stored_at}
use Rattle.c65_opt_law_opened.proofs.Leads.{Leads, leads_on, leads_push, leads_pull, AllPassable, registers}

abbrev pub storing : List Line
storing = on_stack ops.Sta ∷ alone ops.Pha ∷ alone ops.Txa ∷ alone ops.Iny ∷ on_stack ops.Sta ∷ alone ops.Pla ∷ []

module _ (t : State) where
  -- the address behind sp and Y
  abbrev next_y : ℕ
  next_y = after (zero_word t 0) ((t.regs.y + 1) % 256)

  -- behind the first store, behind the push, and before and behind the second store
  abbrev low_stored : State
  low_stored = record t { mem = write t.mem (at_y t) t.regs.a }

  abbrev low_pushed : State
  low_pushed = record low_stored { pushed = t.regs.a ∷ t.pushed }

  abbrev high_moved : Regs
  high_moved = with_a t.regs.x t.regs

  abbrev stepped_up : Regs
  stepped_up = with_y ((t.regs.y + 1) % 256) high_moved

  abbrev high_stored : State
  high_stored = record low_pushed { regs = stepped_up; mem = write (write t.mem (at_y t) t.regs.a) next_y t.regs.x }

  abbrev pub both_stored : State
  both_stored = record t { regs = with_a t.regs.a stepped_up; mem = write (write t.mem (at_y t) t.regs.a) next_y t.regs.x }

  -- the row of the routine says so
  stored_meets : t.ended ≡ None → at_y t ≡ sp_of t + t.regs.y → next_y ≡ sp_of t + t.regs.y + 1 → MeetsRow (row_of routines.StAxYSp t) t both_stored
  stored_meets running first second = record {
    sp = refl;
    a = refl;
    x = refl;
    sreg = refl;
    pointers = tt;
    bank = tt;
    kept = kept;
    high = λ i h. refl;
    mem = λ b h. ap (λ (n : ℕ). write (write t.mem n t.regs.a) next_y t.regs.x b) first ∙ ap (λ (n : ℕ). write (write t.mem (sp_of t + t.regs.y) t.regs.a) n t.regs.x b) second;
    pushed = refl;
    frames = refl;
    input = refl;
    output = sym (append-nil t.output);
    ended = running;
  }
    where
      kept : (p : Part) → has_part (routine_sets routines.StAxYSp) p ≡ false → Same p t both_stored
      kept parts.A h = refl
      kept parts.X h = refl
      kept (parts.Zp i) h = refl
      kept _ h = absurd (let e : true ≡ false = h in cc)

module _ (s : Setting) (low : IsLow s.place) (t : State) (calm : IsCalm s t) (running : t.ended ≡ None) where
  pub stores_at_y : RowHasRoom s.place (row_of routines.StAxYSp t) t → Leads s (MeetsRow (row_of routines.StAxYSp t) t) storing 6 t
  stores_at_y room =
      let few : t.regs.y ≤ 254 = leb-true t.regs.y 254 room.ready in
      let at : ℕ = sp_of t + t.regs.y in
      let one : IsInStack (sp_of t) at = in_stack s.place (sp_of t) at low calm.low (omega arith) (room.near 0 at (omega arith)) in
      let two : IsInStack (sp_of t) (at + 1) = in_stack s.place (sp_of t) (at + 1) low calm.low (omega arith) (room.near 1 at (omega arith)) in
      let first : at_y t ≡ at = omega (arith, one.to) in
      let second : next_y t ≡ at + 1 = omega (arith, two.to, few) in
      let P : State → Type 0 = MeetsRow (row_of routines.StAxYSp t) t in
      let rest : AllPassable s (alone ops.Txa ∷ alone ops.Iny ∷ on_stack ops.Sta ∷ []) (low_pushed t) =
      (registers s ops.Txa (low_pushed t), (registers s ops.Iny (record (low_pushed t) { regs = high_moved t }), (stored_at s (record (low_pushed t) { regs = stepped_up t }) (at + 1) low two second calm.low, tt))) in
      leads_on s P (on_stack ops.Sta ∷ []) (alone ops.Pha ∷ alone ops.Txa ∷ alone ops.Iny ∷ on_stack ops.Sta ∷ alone ops.Pla ∷ []) 5 t (stored_at s t at low one first calm.low, tt) calm (λ stored.
      leads_push s P (alone ops.Txa ∷ alone ops.Iny ∷ on_stack ops.Sta ∷ alone ops.Pla ∷ []) 4 (low_stored t) stored (omega (arith, room.hard)) (λ pushed.
      leads_on s P (alone ops.Txa ∷ alone ops.Iny ∷ on_stack ops.Sta ∷ []) (alone ops.Pla ∷ []) 1 (low_pushed t) rest pushed (λ last.
      leads_pull s P [] 0 (high_stored t) t.regs.a t.pushed refl last (λ end. stored_meets t running first second))))
