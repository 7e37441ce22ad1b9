-- The end of a function.
use Rattle.std.proofs.Common.{◌≡◌, ℕ, zero, suc, ◌+◌, ◌-◌, ◌*◌, ◌/◌, ◌%◌, ◌<◌, ◌≤◌, ◌⊎◌, inl, inr, Bool, true, false, List, [], ◌∷◌, ◌++◌, length, Some, None, refl, sym, ap, ◌∙◌, subst, arith}
use Rattle.std.specs.Prelude.{if◌then◌else◌, ◌==◌, IsTrue, max, bit_or}
use Rattle.std.specs.Int.{bit_at}
use Rattle.std.proofs.lemmas.Nat.Bits.{bit_at_or, bit_at-lt}
use Rattle.std.proofs.lemmas.Bool.{eqb-true}
use Rattle.std.proofs.lemmas.List.{append_assoc}
use Rattle.c65_mach.specs.declared.rows.Op.TheVariants.{Lda, Ldy, Pha, Pla, Rts, Sta, Tay}
use Rattle.c65_mach.specs.State.{Regs}
use Rattle.c65_mach.specs.Step.{apply, after}
use Rattle.c65_meaning.specs.State as meaning
use Rattle.c65_meaning.specs.Step.{steps}
use Rattle.c65_code.specs.declared.parts.Part.{Part}
use Rattle.c65_code.specs.declared.parts.Part.TheVariants as parts
use Rattle.c65_code.specs.declared.parts.RegSet.{RegSet}
use Rattle.c65_code.specs.declared.routine.Routine.TheVariants.{AddYSp}
use Rattle.c65_code.specs.declared.line.Line.{Line}
use Rattle.c65_code.specs.Parts.{has_part, union_of}
use Rattle.c65_code.specs.Effects.{kept_at_calls}
use Rattle.c65_code.specs.LineState.{Bytes, write, State, Frame, Same, sp_of, s_of, eax_of, zero_word, IsBytes}
use Rattle.c65_code.specs.Placement.{IsPlacement, stack_start, stack_end}
use Rattle.c65_code.specs.Forms.{Push, Pull, Return}
use Rattle.c65_code.specs.Moves.{Keeps, common_of}
use Rattle.c65_code.specs.Comes.{Seen, seen_at}
use Rattle.c65_genframe.specs.Frames.{Framed, saved_bytes}
use Rattle.c65_genwide.specs.Lines.{value, call}
use Rattle.c65_genentry.specs.Words.{sp, tmp1, implied, zero_page, by_y}
use Rattle.c65_genentry.specs.Stack.{raise_code}
use Rattle.c65_genentry.specs.Ends.{restored_code, plain_end, variadic_end, end_code}
use Rattle.c65_agree_step.specs.Ways.{IsAtLine}
use Rattle.c65_agree_step.specs.Laws.{IsBack, pushing, pulling}
use Rattle.c65_agree_step.proofs.Ways.{weaken, returns_go, pushes_go, pulls_go}
use Rattle.c65_agree_state.specs.World.{World, program_in, setting_in, Active, lines_of, place_in, HasAt, HasTurns}
use Rattle.c65_agree_state.specs.Joins.{call_bytes}
use Rattle.c65_agree_state.specs.Follows.{Agrees, Follows}
use Rattle.c65_agree_state.proofs.Followed.{follows_weaken, arrivals_count}
use Rattle.c65_agree_state.proofs.Nodes.{has_front, has_back}
use Rattle.c65_agree_rows.specs.Rows.{ByY}
use Rattle.c65_agree_rows.proofs.Quiet.{write_other, write_same}
use Rattle.c65_agree_frame.specs.Leads.{Leads, IsOn, Stays, SameBank, IsHigher, IsBrought}
use Rattle.c65_agree_frame.specs.Laws.{move_cost}
use Rattle.c65_agree_frame.specs.Ends.{IsPrimary, IsLeft, MayEnd, end_cost, EndsAreFollowed}
use Rattle.c65_agree_frame.proofs.Leads.{leads_then, leads_as, stays_on, kept_regs, kept_zero, lines_lead}
use Rattle.c65_agree_frame.proofs.Stack.{stays_then, stays_above, on_behind, raise_leads, stacks_are_raised}
use Rattle.c65_agree_frame.proofs.Banks.{saved_few, banks_are_brought}

-- ---- the return

kept_part : (r : RegSet) (i : ℕ) → bit_at kept_at_calls.zero_page i ≡ 1 → has_part (union_of r kept_at_calls) (parts.Zp i) ≡ true
kept_part r i h =
    let one : bit_at (bit_or r.zero_page kept_at_calls.zero_page) i ≡ 1 = omega (arith, bit_at_or r.zero_page kept_at_calls.zero_page i, bit_at-lt r.zero_page i, h) in
    ap (λ n. n == 1) one

given_part : (r : RegSet) (p : Part) → IsPrimary p → IsTrue (has_part r p) → IsTrue (has_part (union_of r kept_at_calls) p)
given_part r parts.A prim h = rw h refl
given_part r parts.X prim h = rw h refl
given_part r (parts.Zp i) prim h =
    let bit : bit_at r.zero_page i ≡ 1 = eqb-true (bit_at r.zero_page i) 1 h in
    let one : bit_at (bit_or r.zero_page kept_at_calls.zero_page) i ≡ 1 = omega (arith, bit_at_or r.zero_page kept_at_calls.zero_page i, bit_at-lt kept_at_calls.zero_page i, bit) in
    ap (λ n. n == 1) one
given_part r parts.Y prim h = absurd prim
given_part r parts.N prim h = absurd prim
given_part r parts.V prim h = absurd prim
given_part r parts.Z prim h = absurd prim
given_part r parts.C prim h = absurd prim

module _ (g : World) (a : Active) (frame : Frame) (frames : List Frame) where
  abbrev given : RegSet
  given = common_of frame.gives ((setting_in g).gives a.symbol)

  -- what a return leaves: sp, regbank, memory and what is given
  record IsReturned (t u : State) : Type 0 where
    sp : sp_of u ≡ sp_of t
    bank : SameBank t u
    mem : u.mem ≡ t.mem
    primary : (p : Part) → IsPrimary p → IsTrue (has_part given p) → Same p t u
    pushed : u.pushed ≡ frame.pushed
    frames_are : u.frames ≡ frames
    input : u.input ≡ t.input
    output : u.output ≡ t.output
    ended : u.ended ≡ t.ended
    bytes : IsBytes u

  is_returned : (t u : State) → IsBack (setting_in g) a.symbol frame frames t u → IsBytes u → IsReturned t u
  is_returned t u h b =
      let part : (i : ℕ) → bit_at kept_at_calls.zero_page i ≡ 1 → t.zp i ≡ u.zp i = λ i one. h.keeps.part (parts.Zp i) (kept_part given i one) in
      let low : t.zp 0 ≡ u.zp 0 = part 0 refl in
      let high : t.zp 1 ≡ u.zp 1 = part 1 refl in
      record {
        sp = omega (arith, low, high);
        bank = λ i lt. sym (banks i lt part);
        mem = h.keeps.mem;
        primary = λ p prim is. h.keeps.part p (given_part given p prim is);
        pushed = h.pushed;
        frames_are = h.behind;
        input = h.keeps.input;
        output = h.keeps.output;
        ended = h.keeps.ended;
        bytes = b;
      }
    where
      banks : (i : ℕ) → i < 6 → ((i : ℕ) → bit_at kept_at_calls.zero_page i ≡ 1 → t.zp i ≡ u.zp i) → t.zp (20 + i) ≡ u.zp (20 + i)
      banks zero lt part = part 20 refl
      banks (suc zero) lt part = part 21 refl
      banks (suc (suc zero)) lt part = part 22 refl
      banks (suc (suc (suc zero))) lt part = part 23 refl
      banks (suc (suc (suc (suc zero)))) lt part = part 24 refl
      banks (suc (suc (suc (suc (suc zero))))) lt part = part 25 refl
      banks (suc (suc (suc (suc (suc (suc i)))))) lt part = absurd (omega (arith, lt))

  return_follows : (t : State) (n v p turns : ℕ) (m : meaning.State) (seen : Seen) → IsOn g t → t.pushed ≡ [] → t.frames ≡ frame ∷ frames → HasAt (lines_of g a) p (implied Rts ∷ []) → HasTurns g turns (place_in g a p) seen
      → ((u : State) (later : Seen) → IsReturned t u → HasTurns g turns frame.back later → Follows g n v m frame.back u later)
      → Follows g n (1 + v) m (place_in g a p) t seen
  return_follows t n v p turns m seen on none is has turned k d =
      let q = Agrees g (steps (program_in g) n m) in
      let at : IsAtLine (setting_in g) a.symbol p t Return = record { line = implied Rts; there = has.0; formed = refl; calm = on.stacks.calm; within = none; running = on.running } in
      weaken (setting_in g) q (4000 * n + (1 + v)) (omega arith) (returns_go q (setting_in g) (4000 * n + v) a.symbol p t seen frame frames at is (λ u back bytes.
      k u (seen_at frame.back seen) (is_returned t u back bytes) (arrivals_count g turns frame.back seen (omega (arith, turned))) d))

-- ---- up to the return

-- sp is so much higher, the bytes that were put away are in regbank, and the primary register stays
pub record IsUndone (soft saved more : ℕ) (t u : State) : Type 0 where
  pub sp : sp_of u ≡ sp_of t + (soft + (saved + more))
  pub brought : (i : ℕ) → i < saved → u.zp (20 + i) ≡ t.mem (sp_of t + soft + i)
  pub others : (i : ℕ) → saved ≤ i → i < 6 → u.zp (20 + i) ≡ t.zp (20 + i)
  pub stays : Stays (sp_of t + (soft + (saved + more))) t u

undone_by : (soft saved : ℕ) (t u v : State) → saved ≤ 6 → IsHigher soft t u → IsBrought saved u v → IsUndone soft saved 0 t v
undone_by soft saved t u v few h b =
    let sp : sp_of u + saved ≡ sp_of t + (soft + (saved + 0)) = omega (arith, h.sp) in
    record {
      sp = b.sp ∙ sp;
      brought = λ i lt. b.brought i lt ∙ (h.stays.mem (sp_of u + i) (inr (omega (arith, h.sp))) ∙ ap (λ (k : ℕ). t.mem (k + i)) h.sp);
      others = λ i le lt. b.others i le lt ∙ h.bank i lt;
      stays = subst (λ k. Stays k t v) sp (stays_then (sp_of t + soft) (sp_of u + saved) t u v (omega (arith, h.sp)) h.stays b.stays);
    }

pub undone_then : (soft saved more : ℕ) (t u v : State) → saved ≤ 6 → IsUndone soft saved 0 t u → IsHigher more u v → IsUndone soft saved more t v
undone_then soft saved more t u v few f h =
    let sp : sp_of u + more ≡ sp_of t + (soft + (saved + more)) = omega (arith, f.sp) in
    record {
      sp = h.sp ∙ sp;
      brought = λ i lt. h.bank i (omega (arith, lt, few)) ∙ f.brought i lt;
      others = λ i le lt. h.bank i lt ∙ f.others i le lt;
      stays = subst (λ k. Stays k t v) sp (stays_then (sp_of t + (soft + (saved + 0))) (sp_of u + more) t u v (omega (arith, f.sp)) f.stays h.stays);
    }

module _ (g : World) (a : Active) (placed : IsPlacement g.code g.place) where
  pub undone_lead : (soft bank : ℕ) (t : State) → IsOn g t → sp_of t + (soft + saved_bytes bank) ≤ stack_end → Leads g a (raise_code soft ++ restored_code bank) (move_cost soft + 256) t (IsUndone soft (saved_bytes bank) 0 t)
  undone_lead soft bank t on high =
      leads_then g a (raise_code soft) (restored_code bank) (move_cost soft) 256 t (IsHigher soft t) (IsUndone soft (saved_bytes bank) 0 t) (stacks_are_raised g a soft t placed on (omega (arith, high))) (λ u h.
      leads_as g a (restored_code bank) 256 256 u (IsBrought (saved_bytes bank) u) (IsUndone soft (saved_bytes bank) 0 t) (omega arith) (λ v b. undone_by soft (saved_bytes bank) t u v (saved_few bank) h b)
      (banks_are_brought g a bank u placed (on_behind g (sp_of t + soft) t u placed on h.stays (omega (arith, h.sp, on.stacks.soft)) (omega (arith, h.sp, high))) (omega (arith, h.sp, high))))

  pub undone_on : (soft saved more : ℕ) (t u : State) → IsOn g t → sp_of t + (soft + (saved + more)) ≤ stack_end → IsUndone soft saved more t u → IsOn g u
  undone_on soft saved more t u on high h = on_behind g (sp_of t + (soft + (saved + more))) t u placed on h.stays (omega (arith, h.sp, on.stacks.soft)) (omega (arith, h.sp, high))

-- each part of the primary register
value_part : (t u : State) → IsBytes t → IsBytes u → eax_of u ≡ eax_of t → (p : Part) → IsPrimary p → Same p t u
value_part t u bt bu e parts.A prim = let z2 = bt.zp 2 in let w2 = bu.zp 2 in omega (arith, e, bt.a, bu.a, bt.x, bu.x)
value_part t u bt bu e parts.X prim = omega (arith, e, bt.a, bu.a, bt.x, bu.x)
value_part t u bt bu e (parts.Zp i) (inl is) = let same : t.zp 2 ≡ u.zp 2 = omega (arith, e, bt.a, bu.a, bt.x, bu.x, bt.zp 2, bu.zp 2) in ap t.zp is ∙ (same ∙ sym (ap u.zp is))
value_part t u bt bu e (parts.Zp i) (inr is) = let same : t.zp 3 ≡ u.zp 3 = omega (arith, e, bt.a, bu.a, bt.x, bu.x, bt.zp 2, bu.zp 2) in ap t.zp is ∙ (same ∙ sym (ap u.zp is))
value_part t u bt bu e parts.Y prim = absurd prim
value_part t u bt bu e parts.N prim = absurd prim
value_part t u bt bu e parts.V prim = absurd prim
value_part t u bt bu e parts.Z prim = absurd prim
value_part t u bt bu e parts.C prim = absurd prim

same_then : (p : Part) (t u v : State) → Same p t u → Same p u v → Same p t v
same_then parts.A t u v f s = f ∙ s
same_then parts.X t u v f s = f ∙ s
same_then parts.Y t u v f s = f ∙ s
same_then (parts.Zp i) t u v f s = f ∙ s
same_then parts.N t u v f s = f ∙ s
same_then parts.V t u v f s = f ∙ s
same_then parts.Z t u v f s = f ∙ s
same_then parts.C t u v f s = f ∙ s

module _ (g : World) (a : Active) (frame : Frame) (frames : List Frame) where
  left_by : (more : ℕ) (t u v : State) → more ≡ a.raised + a.frame.stacked → IsBytes t → IsUndone a.frame.soft (saved_bytes a.frame.bank) more t u → IsReturned g a frame frames u v → IsLeft g a frame frames t v
  left_by more t u v e bytes h r = record {
    sp = r.sp ∙ h.sp ∙ ap (λ (k : ℕ). sp_of t + (a.frame.soft + (saved_bytes a.frame.bank + k))) e;
    brought = λ i lt. r.bank i (omega (arith, lt, saved_few a.frame.bank)) ∙ h.brought i lt;
    others = λ i le lt. r.bank i lt ∙ h.others i le lt;
    mem = λ n side. ap (λ (m : Bytes). m n) r.mem ∙ h.stays.mem n (above n side);
    given = λ p prim is. same_then p t u v (value_part t u bytes h.stays.bytes h.stays.value p prim) (r.primary p prim is);
    pushed = r.pushed;
    frames_are = r.frames_are;
    input = r.input ∙ h.stays.input;
    output = r.output ∙ h.stays.output;
    ended = r.ended ∙ h.stays.ended;
    bytes = r.bytes;
  }
    where
      above : (n : ℕ) → (n < stack_start) ⊎ (sp_of v ≤ n) → (n < stack_start) ⊎ (sp_of t + (a.frame.soft + (saved_bytes a.frame.bank + more)) ≤ n)
      above n (inl lt) = inl lt
      above n (inr le) = inr (omega (arith, le, r.sp, h.sp))

-- ---- without further arguments

module _ (g : World) (a : Active) (frame : Frame) (frames : List Frame) (t : State) (n v p turns : ℕ) (m : meaning.State) (seen : Seen) (placed : IsPlacement g.code g.place) (may : MayEnd g a t) (is : t.frames ≡ frame ∷ frames) (turned : HasTurns g turns (place_in g a p) seen) (k : (u : State) (later : Seen) → IsLeft g a frame frames t u → HasTurns g turns frame.back later → Follows g n v m frame.back u later) where
  abbrev f : Framed
  f = a.frame

  plain_follows : f.variadic ≡ false → HasAt (lines_of g a) p (plain_end f.soft f.bank f.stacked) → Follows g n (move_cost f.soft + 256 + (move_cost f.stacked + (1 + v))) m (place_in g a p) t seen
  plain_follows plain has =
      let first : List Line = raise_code f.soft ++ restored_code f.bank in
      let whole : HasAt (lines_of g a) p (first ++ (raise_code f.stacked ++ implied Rts ∷ [])) = subst (HasAt (lines_of g a) p) (sym (append_assoc (raise_code f.soft) (restored_code f.bank) (raise_code f.stacked ++ implied Rts ∷ []))) has in
      let none : a.raised ≡ 0 = may.plain plain in
      undone_lead g a placed f.soft f.bank t may.on (omega (arith, may.within)) n (move_cost f.stacked + (1 + v)) p turns m seen (has_front (lines_of g a) p first (raise_code f.stacked ++ implied Rts ∷ []) whole) turned (λ u1 l1 h1 t1.
      let on1 = undone_on g a placed f.soft (saved_bytes f.bank) 0 t u1 may.on (omega (arith, may.within)) h1 in
      let rest = has_back (lines_of g a) p first (raise_code f.stacked ++ implied Rts ∷ []) whole in
      stacks_are_raised g a f.stacked u1 placed on1 (omega (arith, h1.sp, may.within)) n (1 + v) (p + length first) turns m l1 (has_front (lines_of g a) (p + length first) (raise_code f.stacked) (implied Rts ∷ []) rest) t1 (λ u2 l2 h2 t2.
      let h3 = undone_then f.soft (saved_bytes f.bank) f.stacked t u1 u2 (saved_few f.bank) h1 h2 in
      let on2 = undone_on g a placed f.soft (saved_bytes f.bank) f.stacked t u2 may.on (omega (arith, may.within)) h3 in
      return_follows g a frame frames u2 n v (p + length first + length (raise_code f.stacked)) turns m l2 on2 (h3.stays.pushed ∙ may.none_pushed) (h3.stays.frames ∙ is) (has_back (lines_of g a) (p + length first) (raise_code f.stacked) (implied Rts ∷ []) rest) t2 (λ u3 l3 h4 t3.
      k u3 l3 (left_by g a frame frames f.stacked t u2 u3 (omega (arith, none)) may.on.stacks.calm.bytes h3 h4) t3)))

-- ---- with further arguments

module _ (g : World) (a : Active) (placed : IsPlacement g.code g.place) where
  push_leads : (t : State) → IsOn g t → Leads g a (implied Pha ∷ []) 1 t (λ u. (u ≡ pushing t) × IsBytes u)
  push_leads t on n v p turns m seen has turned k d =
      let q = Agrees g (steps (program_in g) n m) in
      let ends : suc p ≡ p + 1 = omega arith in
      let at : IsAtLine (setting_in g) a.symbol p t Push = record { line = implied Pha; there = has.0; formed = refl; calm = on.stacks.calm; within = tt; running = on.running } in
      weaken (setting_in g) q (4000 * n + (1 + v)) (omega arith) (pushes_go q (setting_in g) (4000 * n + v) a.symbol p t seen at (λ b.
      subst (λ z. Follows g n v m (place_in g a z) (pushing t) (seen_at (place_in g a (suc p)) seen)) (sym ends)
      (k (pushing t) (seen_at (place_in g a (suc p)) seen) (refl, b) (subst (λ z. HasTurns g turns (place_in g a z) (seen_at (place_in g a (suc p)) seen)) ends (arrivals_count g turns (place_in g a (suc p)) seen (omega (arith, turned))))) d))

  pull_leads : (count : ℕ) (rest : List ℕ) (t : State) → IsOn g t → t.pushed ≡ count ∷ rest → Leads g a (implied Pla ∷ []) 1 t (λ u. (u ≡ pulling count rest t) × IsBytes u)
  pull_leads count rest t on is n v p turns m seen has turned k d =
      let q = Agrees g (steps (program_in g) n m) in
      let ends : suc p ≡ p + 1 = omega arith in
      let at : IsAtLine (setting_in g) a.symbol p t Pull = record { line = implied Pla; there = has.0; formed = refl; calm = on.stacks.calm; within = (count, rest, is); running = on.running } in
      weaken (setting_in g) q (4000 * n + (1 + v)) (omega arith) (pulls_go q (setting_in g) (4000 * n + v) a.symbol p count rest t seen at is (λ b.
      subst (λ z. Follows g n v m (place_in g a z) (pulling count rest t) (seen_at (place_in g a (suc p)) seen)) (sym ends)
      (k (pulling count rest t) (seen_at (place_in g a (suc p)) seen) (refl, b) (subst (λ z. HasTurns g turns (place_in g a z) (seen_at (place_in g a (suc p)) seen)) ends (arrivals_count g turns (place_in g a (suc p)) seen (omega (arith, turned))))) d))

  -- A waits in tmp1
  abbrev put_away : State → State
  put_away t = record t { zp = write t.zp 16 t.regs.a }

  away_leads : (t : State) → IsOn g t → Leads g a (zero_page Sta tmp1 ∷ []) 1 t (λ u. (u ≡ put_away t) × IsBytes u)
  away_leads t on = lines_lead g a (zero_page Sta tmp1 ∷ []) t placed on (refl, (omega arith, λ _. omega arith), tt, kept_zero t 16 t.regs.a (omega arith), tt)

  away_other : (t : State) (i : ℕ) → (i ≡ 16 → ⊥) → (put_away t).zp i ≡ t.zp i
  away_other t i ne = write_other t.zp 16 t.regs.a i ne

  away_sp : (t : State) → sp_of (put_away t) ≡ sp_of t
  away_sp t = let low = away_other t 0 (λ e. omega (arith, e)) in let high = away_other t 1 (λ e. omega (arith, e)) in omega (arith, low, high)

  away_on : (t : State) → IsOn g t → IsBytes (put_away t) → IsOn g (put_away t)
  away_on t on b = let sp = away_sp t in stays_on g placed t (put_away t) on (λ i lt. refl) (omega (arith, sp, on.stacks.soft)) (omega (arith, sp, on.stacks.calm.high)) on.stacks.hard on.running b

  -- the byte at sp is in A
  abbrev count_lines : List Line
  count_lines = value Ldy 0 ∷ by_y Lda sp ∷ []

  abbrev with_count : State → State
  with_count t = record t { regs = apply false Lda (t.mem (after (zero_word t 0) 0)) (apply false Ldy 0 t.regs) }

  count_leads : (t : State) → IsOn g t → sp_of t < stack_end → Leads g a count_lines 2 t (λ u. (u ≡ with_count t) × IsBytes u)
  count_leads t on high =
      let place : after (zero_word t 0) 0 ≡ sp_of t = omega (arith, high) in
      lines_lead g a count_lines t placed on (
        refl,
        tt,
        omega arith,
        kept_regs t (apply false Ldy 0 t.regs),
        (refl, inr (omega (arith, place), omega (arith, place, high)), tt, kept_regs (record t { regs = apply false Ldy 0 t.regs }) (apply false Lda (t.mem (after (zero_word t 0) 0)) (apply false Ldy 0 t.regs)), tt),
      )

  regs_on : (t : State) (r : Regs) → IsOn g t → IsBytes (record t { regs = r }) → IsOn g (record t { regs = r })
  regs_on t r on b = stays_on g placed t (record t { regs = r }) on (λ i lt. refl) on.stacks.soft on.stacks.calm.high on.stacks.hard on.running b

  back_leads : (t : State) → IsOn g t → Leads g a (zero_page Lda tmp1 ∷ []) 1 t (λ u. (u ≡ record t { regs = apply false Lda (t.zp 16) t.regs }) × IsBytes u)
  back_leads t on = lines_lead g a (zero_page Lda tmp1 ∷ []) t placed on (refl, (omega arith, λ _. omega arith), tt, kept_regs t (apply false Lda (t.zp 16) t.regs), tt)

  -- the byte at sp is pushed, and the primary register stays
  record IsCounted (t u : State) : Type 0 where
    value : eax_of u ≡ eax_of t
    zero : (i : ℕ) → (i ≡ 16 → ⊥) → u.zp i ≡ t.zp i
    mem : u.mem ≡ t.mem
    pushed : u.pushed ≡ t.mem (sp_of t) ∷ t.pushed
    frames : u.frames ≡ t.frames
    input : u.input ≡ t.input
    output : u.output ≡ t.output
    ended : u.ended ≡ t.ended
    bytes : IsBytes u

  abbrev last_counted : State → State
  last_counted t = let w = pushing (with_count (put_away t)) in record w { regs = apply false Lda (w.zp 16) w.regs }

  counted_state : (t u : State) → sp_of t < stack_end → u ≡ last_counted t → IsBytes u → IsCounted t u
  counted_state t u high e b =
      let sp = away_sp t in
      let place : after (zero_word (put_away t) 0) 0 ≡ sp_of t = omega (arith, sp, high) in
      let a_is : u.regs.a ≡ t.regs.a = ap (λ (x : State). x.regs.a) e ∙ write_same t.zp 16 t.regs.a in
      let x_is : u.regs.x ≡ t.regs.x = ap (λ (x : State). x.regs.x) e in
      let zero : (i : ℕ) → (i ≡ 16 → ⊥) → u.zp i ≡ t.zp i = λ i ne. ap (λ (x : State). x.zp i) e ∙ away_other t i ne in
      let low = zero 2 (λ z. omega (arith, z)) in
      let upper = zero 3 (λ z. omega (arith, z)) in
      record {
        value = omega (arith, a_is, x_is, low, upper);
        zero = zero;
        mem = ap (λ (x : State). x.mem) e;
        pushed = ap (λ (x : State). x.pushed) e ∙ ap (λ (i : ℕ). t.mem i ∷ t.pushed) place;
        frames = ap (λ (x : State). x.frames) e;
        input = ap (λ (x : State). x.input) e;
        output = ap (λ (x : State). x.output) e;
        ended = ap (λ (x : State). x.ended) e;
        bytes = b;
      }

  pushed_on : (t : State) → IsOn g t → 30 ≤ s_of t → IsBytes (pushing t) → IsOn g (pushing t)
  pushed_on t on hard b = stays_on g placed t (pushing t) on (λ i lt. refl) on.stacks.soft on.stacks.calm.high (omega (arith, hard)) on.running b

  head_leads : (t : State) → IsOn g t → 30 ≤ s_of t → sp_of t < stack_end → Leads g a (zero_page Sta tmp1 ∷ value Ldy 0 ∷ by_y Lda sp ∷ implied Pha ∷ zero_page Lda tmp1 ∷ []) 5 t (λ u. IsCounted t u × IsOn g u)
  head_leads t on hard high =
      leads_then g a (zero_page Sta tmp1 ∷ []) (count_lines ++ (implied Pha ∷ zero_page Lda tmp1 ∷ [])) 1 4 t (λ u. (u ≡ put_away t) × IsBytes u) (λ u. IsCounted t u × IsOn g u) (away_leads t on) (λ u1 h1.
      let on1 : IsOn g u1 = rw h1.0 (away_on t on (subst IsBytes h1.0 h1.1)) in
      let sp1 : sp_of u1 ≡ sp_of t = ap sp_of h1.0 ∙ away_sp t in
      let s1 : s_of u1 ≡ s_of t = ap s_of h1.0 in
      leads_then g a count_lines (implied Pha ∷ zero_page Lda tmp1 ∷ []) 2 2 u1 (λ u. (u ≡ with_count u1) × IsBytes u) (λ u. IsCounted t u × IsOn g u) (count_leads u1 on1 (omega (arith, sp1, high))) (λ u2 h2.
      let on2 : IsOn g u2 = rw h2.0 (regs_on u1 (apply false Lda (u1.mem (after (zero_word u1 0) 0)) (apply false Ldy 0 u1.regs)) on1 (subst IsBytes h2.0 h2.1)) in
      let s2 : s_of u2 ≡ s_of u1 = ap s_of h2.0 in
      leads_then g a (implied Pha ∷ []) (zero_page Lda tmp1 ∷ []) 1 1 u2 (λ u. (u ≡ pushing u2) × IsBytes u) (λ u. IsCounted t u × IsOn g u) (push_leads u2 on2) (λ u3 h3.
      let on3 : IsOn g u3 = rw h3.0 (pushed_on u2 on2 (omega (arith, s1, s2, hard)) (subst IsBytes h3.0 h3.1)) in
      leads_as g a (zero_page Lda tmp1 ∷ []) 1 1 u3 (λ u. (u ≡ record u3 { regs = apply false Lda (u3.zp 16) u3.regs }) × IsBytes u) (λ u. IsCounted t u × IsOn g u) (omega arith) (λ u4 h4.
      (counted_state t u4 high (h4.0 ∙ ap (λ (w : State). record w { regs = apply false Lda (w.zp 16) w.regs }) (h3.0 ∙ ap (λ (w : State). pushing w) (h2.0 ∙ ap (λ (w : State). with_count w) h1.0))) h4.1, rw h4.0 (regs_on u3 (apply false Lda (u3.zp 16) u3.regs) on3 (subst IsBytes h4.0 h4.1))))
      (back_leads u3 on3))))

  -- sp is higher by the byte that was pushed
  record IsFreed (count : ℕ) (t u : State) : Type 0 where
    sp : sp_of u ≡ sp_of t + count
    bank : SameBank t u
    value : eax_of u ≡ eax_of t
    mem : (i : ℕ) → (i < stack_start) ⊎ (sp_of t + count ≤ i) → u.mem i ≡ t.mem i
    pushed : u.pushed ≡ []
    frames : u.frames ≡ t.frames
    input : u.input ≡ t.input
    output : u.output ≡ t.output
    ended : u.ended ≡ t.ended
    bytes : IsBytes u

  abbrev y_lines : List Line
  y_lines = implied Tay ∷ zero_page Lda tmp1 ∷ []

  abbrev with_count_y : State → State
  with_count_y t = record t { regs = apply false Lda (t.zp 16) (apply false Tay 0 t.regs) }

  y_lead : (t : State) → IsOn g t → Leads g a y_lines 2 t (λ u. (u ≡ with_count_y t) × IsBytes u)
  y_lead t on = lines_lead g a y_lines t placed on (refl, tt, omega arith, kept_regs t (apply false Tay 0 t.regs), (refl, (omega arith, λ _. omega arith), tt, kept_regs (record t { regs = apply false Tay 0 t.regs }) (apply false Lda (t.zp 16) (apply false Tay 0 t.regs)), tt))

  freed_by : (count : ℕ) (t u v : State) → u ≡ with_count_y (pulling count [] (put_away t)) → IsHigher u.regs.y u v → IsFreed count t v
  freed_by count t u v e h =
      let y : u.regs.y ≡ count = ap (λ (x : State). x.regs.y) e in
      let a_is : u.regs.a ≡ t.regs.a = ap (λ (x : State). x.regs.a) e ∙ write_same t.zp 16 t.regs.a in
      let x_is : u.regs.x ≡ t.regs.x = ap (λ (x : State). x.regs.x) e in
      let zero : (i : ℕ) → (i ≡ 16 → ⊥) → u.zp i ≡ t.zp i = λ i ne. ap (λ (x : State). x.zp i) e ∙ away_other t i ne in
      let z0 = zero 0 (λ z. omega (arith, z)) in
      let z1 = zero 1 (λ z. omega (arith, z)) in
      let z2 = zero 2 (λ z. omega (arith, z)) in
      let z3 = zero 3 (λ z. omega (arith, z)) in
      let sp : sp_of u ≡ sp_of t = omega (arith, z0, z1) in
      record {
        sp = omega (arith, h.sp, sp, y);
        bank = λ i lt. h.bank i lt ∙ zero (20 + i) (λ z. omega (arith, z));
        value = h.stays.value ∙ omega (arith, a_is, x_is, z2, z3);
        mem = λ i side. h.stays.mem i (subst (λ q. (i < stack_start) ⊎ (q ≤ i)) (omega (arith, sp, y)) side) ∙ ap (λ (x : State). x.mem i) e;
        pushed = h.stays.pushed ∙ ap (λ (x : State). x.pushed) e;
        frames = h.stays.frames ∙ ap (λ (x : State). x.frames) e;
        input = h.stays.input ∙ ap (λ (x : State). x.input) e;
        output = h.stays.output ∙ ap (λ (x : State). x.output) e;
        ended = h.stays.ended ∙ ap (λ (x : State). x.ended) e;
        bytes = h.stays.bytes;
      }

  pulled_on : (count : ℕ) (t : State) → IsOn g t → t.pushed ≡ count ∷ [] → IsBytes (pulling count [] t) → IsOn g (pulling count [] t)
  pulled_on count t on is b =
      let before : length t.pushed ≡ 1 = ap length is in
      stays_on g placed t (pulling count [] t) on (λ i lt. refl) on.stacks.soft on.stacks.calm.high (omega (arith, before, on.stacks.hard)) on.running b

  tail_leads : (count : ℕ) (t : State) → IsOn g t → t.pushed ≡ count ∷ [] → sp_of t + count ≤ stack_end → Leads g a (zero_page Sta tmp1 ∷ implied Pla ∷ implied Tay ∷ zero_page Lda tmp1 ∷ call AddYSp ∷ []) 36 t (IsFreed count t)
  tail_leads count t on is high =
      leads_then g a (zero_page Sta tmp1 ∷ []) (implied Pla ∷ implied Tay ∷ zero_page Lda tmp1 ∷ call AddYSp ∷ []) 1 35 t (λ u. (u ≡ put_away t) × IsBytes u) (IsFreed count t) (away_leads t on) (λ u1 h1.
      let on1 : IsOn g u1 = rw h1.0 (away_on t on (subst IsBytes h1.0 h1.1)) in
      let is1 : u1.pushed ≡ count ∷ [] = ap (λ (x : State). x.pushed) h1.0 ∙ is in
      leads_then g a (implied Pla ∷ []) (y_lines ++ call AddYSp ∷ []) 1 34 u1 (λ u. (u ≡ pulling count [] u1) × IsBytes u) (IsFreed count t) (pull_leads count [] u1 on1 is1) (λ u2 h2.
      let on2 : IsOn g u2 = rw h2.0 (pulled_on count u1 on1 is1 (subst IsBytes h2.0 h2.1)) in
      leads_then g a y_lines (call AddYSp ∷ []) 2 32 u2 (λ u. (u ≡ with_count_y u2) × IsBytes u) (IsFreed count t) (y_lead u2 on2) (λ u3 h3.
      let on3 : IsOn g u3 = rw h3.0 (regs_on u2 (apply false Lda (u2.zp 16) (apply false Tay 0 u2.regs)) on2 (subst IsBytes h3.0 h3.1)) in
      let all : u3 ≡ with_count_y (pulling count [] (put_away t)) = h3.0 ∙ ap (λ (w : State). with_count_y w) (h2.0 ∙ ap (λ (w : State). pulling count [] w) h1.0) in
      let y : u3.regs.y ≡ count = ap (λ (x : State). x.regs.y) all in
      let sp3 : sp_of u3 ≡ sp_of t = ap sp_of all ∙ away_sp t in
      leads_as g a (call AddYSp ∷ []) 32 32 u3 (IsHigher u3.regs.y u3) (IsFreed count t) (omega arith) (λ u4 h4. freed_by count t u3 u4 all h4) (raise_leads g a ByY u3 on3 (omega (arith, sp3, y, high))))))

  -- the whole, up to the return
  freed_undone : (soft saved count : ℕ) (t u v w : State) → saved ≤ 6 → t.pushed ≡ [] → IsCounted t u → IsUndone soft saved 0 u v → IsFreed count v w → IsUndone soft saved count t w
  freed_undone soft saved count t u v w few none c h f =
      let z0 = c.zero 0 (λ z. omega (arith, z)) in
      let z1 = c.zero 1 (λ z. omega (arith, z)) in
      let spu : sp_of u ≡ sp_of t = omega (arith, z0, z1) in
      record {
        sp = omega (arith, f.sp, h.sp, spu);
        brought = λ i lt. f.bank i (omega (arith, lt, few)) ∙ (h.brought i lt ∙ (ap (λ (m : Bytes). m (sp_of u + soft + i)) c.mem ∙ ap (λ (q : ℕ). t.mem (q + soft + i)) spu));
        others = λ i le lt. f.bank i lt ∙ (h.others i le lt ∙ c.zero (20 + i) (λ z. omega (arith, z)));
        stays = record {
          value = f.value ∙ (h.stays.value ∙ c.value);
          mem = λ i side. f.mem i (upper i side spu) ∙ (h.stays.mem i (lower i side spu) ∙ ap (λ (m : Bytes). m i) c.mem);
          pushed = f.pushed ∙ sym none;
          frames = f.frames ∙ (h.stays.frames ∙ c.frames);
          input = f.input ∙ (h.stays.input ∙ c.input);
          output = f.output ∙ (h.stays.output ∙ c.output);
          ended = f.ended ∙ (h.stays.ended ∙ c.ended);
          bytes = f.bytes;
        };
      }
    where
      upper : (i : ℕ) → (i < stack_start) ⊎ (sp_of t + (soft + (saved + count)) ≤ i) → sp_of u ≡ sp_of t → (i < stack_start) ⊎ (sp_of v + count ≤ i)
      upper i (inl lt) e = inl lt
      upper i (inr le) e = inr (omega (arith, le, h.sp, e))

      lower : (i : ℕ) → (i < stack_start) ⊎ (sp_of t + (soft + (saved + count)) ≤ i) → sp_of u ≡ sp_of t → (i < stack_start) ⊎ (sp_of u + (soft + (saved + 0)) ≤ i)
      lower i (inl lt) e = inl lt
      lower i (inr le) e = inr (omega (arith, le, e))

module _ (g : World) (a : Active) (frame : Frame) (frames : List Frame) (t : State) (n v p turns : ℕ) (m : meaning.State) (seen : Seen) (placed : IsPlacement g.code g.place) (may : MayEnd g a t) (is : t.frames ≡ frame ∷ frames) (turned : HasTurns g turns (place_in g a p) seen) (k : (u : State) (later : Seen) → IsLeft g a frame frames t u → HasTurns g turns frame.back later → Follows g n v m frame.back u later) where
  abbrev head : List Line
  head = zero_page Sta tmp1 ∷ value Ldy 0 ∷ by_y Lda sp ∷ implied Pha ∷ zero_page Lda tmp1 ∷ []

  abbrev middle : List Line
  middle = raise_code a.frame.soft ++ restored_code a.frame.bank

  abbrev tail : List Line
  tail = zero_page Sta tmp1 ∷ implied Pla ∷ implied Tay ∷ zero_page Lda tmp1 ∷ call AddYSp ∷ []

  variadic_follows : a.frame.variadic ≡ true → HasAt (lines_of g a) p (variadic_end a.frame.soft a.frame.bank) → Follows g n (5 + (move_cost a.frame.soft + 256 + (36 + (1 + v)))) m (place_in g a p) t seen
  variadic_follows further has =
      let count : ℕ = t.mem (sp_of t) in
      let counted = may.counted further in
      let whole : HasAt (lines_of g a) p (head ++ (middle ++ (tail ++ implied Rts ∷ []))) = subst (λ ls. HasAt (lines_of g a) p (head ++ ls)) (sym (append_assoc (raise_code a.frame.soft) (restored_code a.frame.bank) (tail ++ implied Rts ∷ []))) has in
      head_leads g a placed t may.on may.hard (omega (arith, may.within, counted.1)) n (move_cost a.frame.soft + 256 + (36 + (1 + v))) p turns m seen (has_front (lines_of g a) p head (middle ++ (tail ++ implied Rts ∷ [])) whole) turned (λ u1 l1 h1 t1.
      let z0 = h1.0.zero 0 (λ z. omega (arith, z)) in
      let z1 = h1.0.zero 1 (λ z. omega (arith, z)) in
      let sp1 : sp_of u1 ≡ sp_of t = omega (arith, z0, z1) in
      let rest1 = has_back (lines_of g a) p head (middle ++ (tail ++ implied Rts ∷ [])) whole in
      undone_lead g a placed a.frame.soft a.frame.bank u1 h1.1 (omega (arith, sp1, may.within)) n (36 + (1 + v)) (p + length head) turns m l1 (has_front (lines_of g a) (p + length head) middle (tail ++ implied Rts ∷ []) rest1) t1 (λ u2 l2 h2 t2.
      let on2 = undone_on g a placed a.frame.soft (saved_bytes a.frame.bank) 0 u1 u2 h1.1 (omega (arith, sp1, may.within)) h2 in
      let rest2 = has_back (lines_of g a) (p + length head) middle (tail ++ implied Rts ∷ []) rest1 in
      let pushed2 : u2.pushed ≡ count ∷ [] = h2.stays.pushed ∙ (h1.0.pushed ∙ ap (λ (xs : List ℕ). count ∷ xs) may.none_pushed) in
      tail_leads g a placed count u2 on2 pushed2 (omega (arith, h2.sp, sp1, counted.0, may.within)) n (1 + v) (p + length head + length middle) turns m l2 (has_front (lines_of g a) (p + length head + length middle) tail (implied Rts ∷ []) rest2) t2 (λ u3 l3 h3 t3.
      let h4 = freed_undone g a placed a.frame.soft (saved_bytes a.frame.bank) count t u1 u2 u3 (saved_few a.frame.bank) may.none_pushed h1.0 h2 h3 in
      let on3 = undone_on g a placed a.frame.soft (saved_bytes a.frame.bank) count t u3 may.on (omega (arith, counted.0, may.within)) h4 in
      return_follows g a frame frames u3 n v (p + length head + length middle + length tail) turns m l3 on3 h3.pushed (h4.stays.frames ∙ is) (has_back (lines_of g a) (p + length head + length middle) tail (implied Rts ∷ []) rest2) t3 (λ u4 l4 h5 t4.
      k u4 l4 (left_by g a frame frames count t u3 u4 counted.0 may.on.stacks.calm.bytes h4 h5) t4))))

pub ends_are_followed : EndsAreFollowed
ends_are_followed g a frame frames t n v p turns m seen placed may is has turned k = go a.frame.variadic refl has
  where
    go : (b : Bool) → a.frame.variadic ≡ b → HasAt (lines_of g a) p (if b then variadic_end a.frame.soft a.frame.bank else plain_end a.frame.soft a.frame.bank a.frame.stacked) → Follows g n (end_cost a.frame + v) m (place_in g a p) t seen
    go true e has = follows_weaken g n (5 + (move_cost a.frame.soft + 256 + (36 + (1 + v)))) (end_cost a.frame + v) m (place_in g a p) t seen (omega arith) (variadic_follows g a frame frames t n v p turns m seen placed may is turned k e has)
    go false e has = follows_weaken g n (move_cost a.frame.soft + 256 + (move_cost a.frame.stacked + (1 + v))) (end_cost a.frame + v) m (place_in g a p) t seen (omega arith) (plain_follows g a frame frames t n v p turns m seen placed may is turned k e has)
