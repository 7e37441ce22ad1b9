-- The entry of a function.
use Rattle.std.proofs.Common.{◌≡◌, ℕ, zero, suc, ◌+◌, ◌-◌, ◌*◌, ◌/◌, ◌%◌, ◌<◌, ◌≤◌, ◌⊎◌, inl, inr, Bool, true, false, List, [], ◌∷◌, ◌++◌, Some, None, refl, sym, ap, ◌∙◌, subst, arith}
use Rattle.std.specs.Prelude.{if◌then◌else◌, nat_lt, length, min, max, Option}
use Rattle.std.proofs.lemmas.List.Elements.{All-nil}
use Rattle.c65_mach.specs.declared.rows.Op.TheVariants.{Iny, Lda, Ldy, Sta, Txa}
use Rattle.c65_mach.specs.State.{Regs}
use Rattle.c65_mach.specs.Step.{apply, after}
use Rattle.c65_code.specs.declared.routine.Count.TheVariants.{Three}
use Rattle.c65_code.specs.declared.routine.Routine.{Routine}
use Rattle.c65_code.specs.declared.routine.Routine.TheVariants.{PushA, PushAx, PushEax, DecSp}
use Rattle.c65_code.specs.declared.line.Line.{Line}
use Rattle.c65_code.specs.LineState.{Bytes, write, State, sp_of, s_of, eax_of, zero_word, IsBytes}
use Rattle.c65_code.specs.Placement.{IsPlacement, stack_start, stack_end}
use Rattle.c65_code.specs.Texts.{range_of, listed}
use Rattle.c65_code.specs.Rows.{Row, Meets, written, row_of, push_row}
use Rattle.c65_code.specs.Steady.{IsOpen, HasRoom}
use Rattle.c65_genframe.specs.declared.home.Arrival.{Arrival}
use Rattle.c65_genframe.specs.declared.home.Arrival.TheVariants.{Passed, Pushed, Kept}
use Rattle.c65_genframe.specs.declared.home.Moved.{Moved}
use Rattle.c65_genframe.specs.Frames.{Framed, saved_bytes}
use Rattle.c65_genwide.specs.Lines.{value, call}
use Rattle.c65_genwide.specs.Passing.{three_code, pass_bytes}
use Rattle.c65_genentry.specs.Words.{sp, sreg, implied, zero_page, by_y}
use Rattle.c65_genentry.specs.Stack.{lower_code}
use Rattle.c65_genentry.specs.Entry.{pushed_code, kept_code, saved_code, counted_code, count_code, early_moves, late_moves, all_moved, raised_moves, taken_bytes, checked_code, taking_code, entry_code}
use Rattle.c65_agree_state.specs.World.{World, Active}
use Rattle.c65_agree_state.specs.Laws.{OnlyScratch}
use Rattle.c65_agree_rows.specs.Rows.{IsQuiet, AreAt, By}
use Rattle.c65_agree_rows.proofs.Quiet.{write_other, write_same, written_other, listed_are_at, are_at_in, listed_below, in_range, quiet_row, quiet_rows_scratch}
use Rattle.c65_agree_frame.specs.Leads.{Leads, IsOn, Stays, SameBank, IsLower, IsSaved}
use Rattle.c65_agree_frame.specs.Laws.{move_cost}
use Rattle.c65_agree_frame.specs.Entries.{primary_bytes, arriving, HasTaken, IsPlainFrame, entry_cost, EntriesLead}
use Rattle.c65_agree_frame.proofs.Leads.{none_leads, leads_then, leads_as, stays_on, kept_regs, kept_memory, after_lines, AreSafe, lines_lead, routine_leads}
use Rattle.c65_agree_frame.proofs.Stack.{on_behind, drop_leads, stacks_are_lowered}
use Rattle.c65_agree_frame.proofs.Banks.{saved_few, banks_are_saved}

-- ---- bytes that are pushed

-- sp is lower by these bytes, which stand there; registers may be others
pub record IsPushed (bytes : List ℕ) (t u : State) : Type 0 where
  pub sp : sp_of u + length bytes ≡ sp_of t
  pub there : AreAt u.mem (sp_of u) bytes
  pub bank : SameBank t u
  pub mem : (n : ℕ) → (n < stack_start) ⊎ (sp_of t ≤ n) → u.mem n ≡ t.mem n
  pub pushed : u.pushed ≡ t.pushed
  pub frames : u.frames ≡ t.frames
  pub input : u.input ≡ t.input
  pub output : u.output ≡ t.output
  pub ended : u.ended ≡ t.ended
  pub bytes_are : IsBytes u

-- the row of a routine that pushes
record IsPushRow (r : Routine) (bytes : List ℕ) (t : State) (row : Row) : Type 0 where
  is : row_of r t ≡ Some row
  quiet : IsQuiet row
  ready : row.ready ≡ true
  sp : row.sp ≡ sp_of t - length bytes
  settled : row.settled ≡ sp_of t - length bytes
  writes : row.writes ≡ listed bytes (sp_of t - length bytes)
  near : row.near ≡ range_of (length bytes) (sp_of t - length bytes)
  far : row.far ≡ []
  cost : row.cost ≡ 32

module _ (g : World) (a : Active) (placed : IsPlacement g.code g.place) where
  push_leads : (r : Routine) (bytes : List ℕ) (row : Row) (t : State) → IsOn g t → stack_start + 64 + length bytes ≤ sp_of t → IsPushRow r bytes t row → Leads g a (call r ∷ []) 33 t (IsPushed bytes t)
  push_leads r bytes row t on low p =
      leads_as g a (call r ∷ []) row.cost 33 t (λ u. Meets row t u × IsBytes u) (IsPushed bytes t) (omega (arith, p.cost)) (λ u m. is_pushed u m.0 m.1) (routine_leads g a r row t on p.is room)
    where
      room : HasRoom g.place row t
      room = record {
        ready = p.ready;
        soft = on.stacks.soft;
        hard = on.stacks.hard;
        near = rw (p.near, p.sp) (in_range (IsOpen g.place (min (sp_of t) (sp_of t - length bytes))) (length bytes) (sp_of t - length bytes) (λ i lt. inr (omega (arith, lt), omega (arith, lt, low, on.stacks.calm.high))));
        far = rw p.far (All-nil (IsOpen g.place (max (sp_of t) row.sp)));
      }

      is_pushed : (u : State) → Meets row t u → IsBytes u → IsPushed bytes t u
      is_pushed u m b =
          let at : ℕ = sp_of t - length bytes in
          let s : OnlyScratch (sp_of t) t u = quiet_rows_scratch (sp_of t) row t u p.quiet (rw p.writes (listed_below bytes (sp_of t - length bytes) (sp_of t) (omega (arith, low)) (omega (arith, low)))) m b on.running on.stacks.soft (omega arith) in
          let sp : sp_of u ≡ at = m.sp ∙ p.sp in
          let same : (n : ℕ) → at ≤ n → u.mem n ≡ written t.mem (listed bytes at) n = λ n le. m.mem n (inr (inr (omega (arith, le, p.settled)))) ∙ ap (λ ws. written t.mem ws n) p.writes in
          record {
            sp = omega (arith, sp, low);
            there = rw sp (are_at_in (written t.mem (listed bytes at)) u.mem bytes at same (listed_are_at t.mem bytes at));
            bank = λ i lt. sym (s.bank i lt);
            mem = s.mem;
            pushed = s.pushed;
            frames = s.frames;
            input = s.input;
            output = s.output;
            ended = s.ended;
            bytes_are = s.bytes;
          }

  -- three bytes, one behind another
  abbrev three_lines : List Line
  three_lines = value Ldy 0 ∷ by_y Sta sp ∷ implied Iny ∷ implied Txa ∷ by_y Sta sp ∷ implied Iny ∷ zero_page Lda sreg ∷ by_y Sta sp ∷ []

  module _ (t : State) (on : IsOn g t) (high : sp_of t + 3 ≤ stack_end) where
    abbrev p0 : ℕ
    p0 = after (zero_word t 0) 0

    abbrev p1 : ℕ
    p1 = after (zero_word t 0) ((0 + 1) % 256)

    abbrev p2 : ℕ
    p2 = after (zero_word t 0) (((0 + 1) % 256 + 1) % 256)

    is0 : p0 ≡ sp_of t
    is0 = omega (arith, high)

    is1 : p1 ≡ sp_of t + 1
    is1 = omega (arith, high)

    is2 : p2 ≡ sp_of t + 1 + 1
    is2 = omega (arith, high)

    abbrev r1 : Regs
    r1 = apply false Ldy 0 t.regs

    abbrev m2 : Bytes
    m2 = write t.mem p0 t.regs.a

    abbrev r3 : Regs
    r3 = apply false Iny 0 r1

    abbrev r4 : Regs
    r4 = apply false Txa 0 r3

    abbrev m5 : Bytes
    m5 = write m2 p1 t.regs.x

    abbrev r6 : Regs
    r6 = apply false Iny 0 r4

    abbrev r7 : Regs
    r7 = apply false Lda (t.zp 2) r6

    abbrev m8 : Bytes
    m8 = write m5 p2 (t.zp 2)

    open_at : (n : ℕ) → sp_of t ≤ n → n < sp_of t + 3 → IsOpen g.place (sp_of t) n
    open_at n lo hi = inr (lo, omega (arith, hi, high))

    three_safe : AreSafe g three_lines t
    three_safe = (
      refl,
      tt,
      omega arith,
      kept_regs t r1,
      (
        refl,
        open_at p0 (omega (arith, is0)) (omega (arith, is0)),
        tt,
        kept_memory (record t { regs = r1 }) p0 t.regs.a (omega (arith, is0, on.stacks.soft)),
        (
          refl,
          tt,
          omega arith,
          kept_regs (record t { regs = r1; mem = m2 }) r3,
          (
            refl,
            tt,
            omega arith,
            kept_regs (record t { regs = r3; mem = m2 }) r4,
            (
              refl,
              open_at p1 (omega (arith, is1)) (omega (arith, is1)),
              tt,
              kept_memory (record t { regs = r4; mem = m2 }) p1 t.regs.x (omega (arith, is1, on.stacks.soft)),
              (
                refl,
                tt,
                omega arith,
                kept_regs (record t { regs = r4; mem = m5 }) r6,
                (
                  refl,
                  (omega arith, λ _. omega arith),
                  tt,
                  kept_regs (record t { regs = r6; mem = m5 }) r7,
                  (refl, open_at p2 (omega (arith, is2)) (omega (arith, is2)), tt, kept_memory (record t { regs = r7; mem = m5 }) p2 (t.zp 2) (omega (arith, is2, on.stacks.soft)), tt),
                ),
              ),
            ),
          ),
        ),
      ),
    )

    -- the three bytes stand at sp
    three_mem : (n : ℕ) → m8 n ≡ written t.mem (listed (t.regs.a ∷ t.regs.x ∷ t.zp 2 ∷ []) (sp_of t)) n
    three_mem n = rw (is0, is1, is2) refl

    three_lead : Leads g a three_lines 8 t (λ u. (u ≡ after_lines g three_lines t) × IsBytes u)
    three_lead = lines_lead g a three_lines t placed on three_safe

  three_pushed : (t : State) → IsOn g t → stack_start + 64 + 3 ≤ sp_of t → Leads g a three_code 40 t (IsPushed (t.regs.a ∷ t.regs.x ∷ t.zp 2 ∷ []) t)
  three_pushed t on low =
      leads_then g a (call (DecSp Three) ∷ []) three_lines 32 8 t (IsLower 3 t) (IsPushed (t.regs.a ∷ t.regs.x ∷ t.zp 2 ∷ []) t) lowered (λ u h.
      let on1 = on_behind g (sp_of t) t u placed on h.stays (omega (arith, h.sp, low)) (omega (arith, h.sp, on.stacks.calm.high)) in
      leads_as g a three_lines 8 8 u (λ v. (v ≡ after_lines g three_lines u) × IsBytes v) (IsPushed (t.regs.a ∷ t.regs.x ∷ t.zp 2 ∷ []) t) (omega arith) (λ v e. all_three u v h on1 e.0 e.1)
      (three_lead u on1 (omega (arith, h.sp, on.stacks.calm.high))))
    where
      lowered : Leads g a (call (DecSp Three) ∷ []) 32 t (IsLower 3 t)
      lowered = drop_leads g a (By Three) t on (omega (arith, low))

      all_three : (u v : State) (h : IsLower 3 t u) (on1 : IsOn g u) → v ≡ after_lines g three_lines u → IsBytes v → IsPushed (t.regs.a ∷ t.regs.x ∷ t.zp 2 ∷ []) t v
      all_three u v h on1 e b =
          let high : sp_of u + 3 ≤ stack_end = omega (arith, h.sp, on.stacks.calm.high) in
          let bytes : List ℕ = u.regs.a ∷ u.regs.x ∷ u.zp 2 ∷ [] in
          let mem : (n : ℕ) → v.mem n ≡ written u.mem (listed bytes (sp_of u)) n = λ n. ap (λ (x : State). x.mem n) e ∙ three_mem u on1 high n in
          let spv : sp_of v ≡ sp_of u = ap sp_of e in
          let ra : u.regs.a ≡ t.regs.a = omega (arith, h.stays.value, h.stays.bytes.a, h.stays.bytes.x, on.stacks.calm.bytes.a, on.stacks.calm.bytes.x) in
          let rx : u.regs.x ≡ t.regs.x = omega (arith, h.stays.value, h.stays.bytes.a, h.stays.bytes.x, on.stacks.calm.bytes.a, on.stacks.calm.bytes.x) in
          let rs : u.zp 2 ≡ t.zp 2 = omega (arith, h.stays.value, h.stays.bytes.a, h.stays.bytes.x, on.stacks.calm.bytes.a, on.stacks.calm.bytes.x, h.stays.bytes.zp 2, on.stacks.calm.bytes.zp 2) in
          let there : AreAt v.mem (sp_of u) bytes = are_at_in (written u.mem (listed bytes (sp_of u))) v.mem bytes (sp_of u) (λ n le. mem n) (listed_are_at u.mem bytes (sp_of u)) in
          record {
            sp = omega (arith, spv, h.sp);
            there = rw (spv, sym ra, sym rx, sym rs) there;
            bank = λ i lt. ap (λ (x : State). x.zp (20 + i)) e ∙ h.bank i lt;
            mem = λ n side. mem n ∙ (written_other u.mem (listed bytes (sp_of u)) (sp_of u + 3) n (listed_below bytes (sp_of u) (sp_of u + 3) (omega (arith, on1.stacks.soft)) (omega arith)) (beside n side) ∙ h.stays.mem n side);
            pushed = ap (λ (x : State). x.pushed) e ∙ h.stays.pushed;
            frames = ap (λ (x : State). x.frames) e ∙ h.stays.frames;
            input = ap (λ (x : State). x.input) e ∙ h.stays.input;
            output = ap (λ (x : State). x.output) e ∙ h.stays.output;
            ended = ap (λ (x : State). x.ended) e ∙ h.stays.ended;
            bytes_are = b;
          }
        where
          beside : (n : ℕ) → (n < stack_start) ⊎ (sp_of t ≤ n) → (n < stack_start) ⊎ (sp_of u + 3 ≤ n)
          beside n (inl lt) = inl lt
          beside n (inr le) = inr (omega (arith, le, h.sp))

  -- the last parameter
  nothing_pushed : (t : State) → IsOn g t → IsPushed [] t t
  nothing_pushed t on = record { sp = omega arith; there = tt; bank = λ i lt. refl; mem = λ n side. refl; pushed = refl; frames = refl; input = refl; output = refl; ended = refl; bytes_are = on.stacks.calm.bytes }

  pass_leads : (x y z : Bool) (t : State) → IsOn g t → stack_start + 64 + length (if x then t.regs.a ∷ [] else (if y then t.regs.a ∷ t.regs.x ∷ [] else (if z then t.regs.a ∷ t.regs.x ∷ t.zp 2 ∷ [] else t.regs.a ∷ t.regs.x ∷ t.zp 2 ∷ t.zp 3 ∷ []))) ≤ sp_of t
      → Leads g a (if x then call PushA ∷ [] else (if y then call PushAx ∷ [] else (if z then three_code else call PushEax ∷ []))) 40 t (IsPushed (if x then t.regs.a ∷ [] else (if y then t.regs.a ∷ t.regs.x ∷ [] else (if z then t.regs.a ∷ t.regs.x ∷ t.zp 2 ∷ [] else t.regs.a ∷ t.regs.x ∷ t.zp 2 ∷ t.zp 3 ∷ []))) t)
  pass_leads true y z t on low = leads_as g a (call PushA ∷ []) 33 40 t (IsPushed (t.regs.a ∷ []) t) (IsPushed (t.regs.a ∷ []) t) (omega arith) (λ u h. h) (push_leads PushA (t.regs.a ∷ []) (push_row PushA (t.regs.a ∷ []) t) t on low (record { is = refl; quiet = quiet_row _ refl refl refl refl refl; ready = refl; sp = refl; settled = refl; writes = refl; near = refl; far = refl; cost = refl }))
  pass_leads false true z t on low = leads_as g a (call PushAx ∷ []) 33 40 t (IsPushed (t.regs.a ∷ t.regs.x ∷ []) t) (IsPushed (t.regs.a ∷ t.regs.x ∷ []) t) (omega arith) (λ u h. h) (push_leads PushAx (t.regs.a ∷ t.regs.x ∷ []) (push_row PushAx (t.regs.a ∷ t.regs.x ∷ []) t) t on low (record { is = refl; quiet = quiet_row _ refl refl refl refl refl; ready = refl; sp = refl; settled = refl; writes = refl; near = refl; far = refl; cost = refl }))
  pass_leads false false true t on low = three_pushed t on low
  pass_leads false false false t on low = leads_as g a (call PushEax ∷ []) 33 40 t (IsPushed (t.regs.a ∷ t.regs.x ∷ t.zp 2 ∷ t.zp 3 ∷ []) t) (IsPushed (t.regs.a ∷ t.regs.x ∷ t.zp 2 ∷ t.zp 3 ∷ []) t) (omega arith) (λ u h. h) (push_leads PushEax (t.regs.a ∷ t.regs.x ∷ t.zp 2 ∷ t.zp 3 ∷ []) (push_row PushEax (t.regs.a ∷ t.regs.x ∷ t.zp 2 ∷ t.zp 3 ∷ []) t) t on low (record { is = refl; quiet = quiet_row _ refl refl refl refl refl; ready = refl; sp = refl; settled = refl; writes = refl; near = refl; far = refl; cost = refl }))

  pub pushed_lead : (last : Arrival) (t : State) → IsOn g t → stack_start + 64 + length (arriving last t) ≤ sp_of t → Leads g a (pushed_code last) 40 t (IsPushed (arriving last t) t)
  pushed_lead (Pushed bytes) t on low = pass_leads (nat_lt bytes 2) (nat_lt bytes 3) (nat_lt bytes 4) t on low
  pushed_lead Passed t on low = leads_as g a [] 0 40 t (IsPushed [] t) (IsPushed [] t) (omega arith) (λ u h. h) (none_leads g a t (IsPushed [] t) (nothing_pushed t on))
  pushed_lead (Kept bank bytes) t on low = leads_as g a [] 0 40 t (IsPushed [] t) (IsPushed [] t) (omega arith) (λ u h. h) (none_leads g a t (IsPushed [] t) (nothing_pushed t on))

  pushed_on : (bytes : List ℕ) (t u : State) → IsOn g t → stack_start + 64 + length bytes ≤ sp_of t → IsPushed bytes t u → IsOn g u
  pushed_on bytes t u on low h =
      let same : s_of u ≡ s_of t = rw (h.pushed, h.frames) refl in
      stays_on g placed t u on (λ n lt. h.mem n (inl lt)) (omega (arith, h.sp, low)) (omega (arith, h.sp, on.stacks.calm.high)) (omega (arith, same, on.stacks.hard)) (h.ended ∙ on.running) h.bytes_are

  -- ---- the whole

  module _ (soft bank : ℕ) (bytes : List ℕ) (t u v w : State) (p : IsPushed bytes t u) (s : IsSaved (saved_bytes bank) u v) (l : IsLower soft v w) where
    abbrev saved : ℕ
    saved = saved_bytes bank

    sp_all : sp_of w + (soft + (saved + length bytes)) ≡ sp_of t
    sp_all = omega (arith, p.sp, s.lower.sp, l.sp)

    above_u : (n : ℕ) → (n < stack_start) ⊎ (sp_of u ≤ n) → w.mem n ≡ u.mem n
    above_u n side = l.stays.mem n (lower n side) ∙ s.lower.stays.mem n side
      where
        lower : (n : ℕ) → (n < stack_start) ⊎ (sp_of u ≤ n) → (n < stack_start) ⊎ (sp_of v ≤ n)
        lower n (inl lt) = inl lt
        lower n (inr le) = inr (omega (arith, le, s.lower.sp))

    all_above : (n : ℕ) → (n < stack_start) ⊎ (sp_of t ≤ n) → w.mem n ≡ t.mem n
    all_above n side = above_u n (lower n side) ∙ p.mem n side
      where
        lower : (n : ℕ) → (n < stack_start) ⊎ (sp_of t ≤ n) → (n < stack_start) ⊎ (sp_of u ≤ n)
        lower n (inl lt) = inl lt
        lower n (inr le) = inr (omega (arith, le, p.sp))

    all_arrived : AreAt w.mem (sp_of w + (soft + saved)) bytes
    all_arrived =
        let at : sp_of u ≡ sp_of w + (soft + saved) = omega (arith, s.lower.sp, l.sp) in
        subst (λ n. AreAt w.mem n bytes) at (are_at_in u.mem w.mem bytes (sp_of u) (λ n le. above_u n (inr le)) p.there)

    all_saved : (i : ℕ) → i < saved → saved ≤ 6 → w.mem (sp_of w + soft + i) ≡ t.zp (20 + i)
    all_saved i lt few =
        let at : sp_of w + soft + i ≡ sp_of v + i = omega (arith, l.sp) in
        ap w.mem at ∙ (l.stays.mem (sp_of v + i) (inr (omega arith)) ∙ (s.saved i lt ∙ p.bank i (omega (arith, lt, few))))

-- the lines of such an entry
pub append_end : (xs : List Line) → xs ++ [] ≡ xs
append_end [] = refl
append_end (x ∷ xs) = ap (λ ys. x ∷ ys) (append_end xs)

entry_by : (check : Option ℕ) (last : Arrival) (variadic : Bool) (bank soft stacked : ℕ) (moved : List Moved) → check ≡ None → variadic ≡ false → moved ≡ [] → kept_code last ≡ []
    → checked_code check ++ (pushed_code last ++ (counted_code variadic ++ (saved_code bank ++ ((if variadic then raised_moves soft stacked moved else []) ++ (kept_code last ++ (lower_code (taken_bytes variadic soft) ++ (count_code variadic ++ (if variadic then [] else all_moved moved))))))))
    ≡ pushed_code last ++ (saved_code bank ++ lower_code soft)
entry_by None last false bank soft stacked [] c v m k = ap (λ ls. pushed_code last ++ (saved_code bank ++ (ls ++ (lower_code soft ++ [])))) k ∙ ap (λ ls. pushed_code last ++ (saved_code bank ++ ls)) (append_end (lower_code soft))
entry_by (Some n) last variadic bank soft stacked moved c v m k = cc
entry_by None last true bank soft stacked moved c v m k = cc
entry_by None last false bank soft stacked (x ∷ moved) c v m k = cc

nothing_kept : (last : Arrival) → ((bank bytes : ℕ) → last ≡ Kept bank bytes → ⊥) → kept_code last ≡ []
nothing_kept Passed h = refl
nothing_kept (Pushed bytes) h = refl
nothing_kept (Kept bank bytes) h = absurd (h bank bytes refl)

plain_entry : (f : Framed) → IsPlainFrame f → entry_code f ≡ pushed_code f.last ++ (saved_code f.bank ++ lower_code f.soft)
plain_entry f h = entry_by f.check f.last f.variadic f.bank f.soft f.stacked f.moved h.unchecked h.plain h.none_moved (nothing_kept f.last h.none_kept)

pub entries_lead : EntriesLead
entries_lead g a t placed on plain low =
    let f : Framed = a.frame in
    let bytes : List ℕ = arriving f.last t in
    subst (λ ls. Leads g a ls (entry_cost f) t (HasTaken f t)) (sym (plain_entry f plain))
    (leads_as g a (pushed_code f.last ++ (saved_code f.bank ++ lower_code f.soft)) (40 + (256 + move_cost f.soft)) (entry_cost f) t (HasTaken f t) (HasTaken f t) (omega arith) (λ u h. h)
    (leads_then g a (pushed_code f.last) (saved_code f.bank ++ lower_code f.soft) 40 (256 + move_cost f.soft) t (IsPushed bytes t) (HasTaken f t) (pushed_lead g a placed f.last t on (omega (arith, low))) (λ u p.
    let on1 = pushed_on g a placed bytes t u on (omega (arith, low)) p in
    leads_then g a (saved_code f.bank) (lower_code f.soft) 256 (move_cost f.soft) u (IsSaved (saved_bytes f.bank) u) (HasTaken f t) (banks_are_saved g a f.bank u placed on1 (omega (arith, p.sp, low))) (λ v s.
    let on2 = on_behind g (sp_of u) u v placed on1 s.lower.stays (omega (arith, s.lower.sp, p.sp, low)) (omega (arith, s.lower.sp, on1.stacks.calm.high)) in
    leads_as g a (lower_code f.soft) (move_cost f.soft) (move_cost f.soft) v (IsLower f.soft v) (HasTaken f t) (omega arith) (λ w l. all_taken u v w p s l) (stacks_are_lowered g a f.soft v placed on2 (omega (arith, s.lower.sp, p.sp, low)))))))
  where
    all_taken : (u v w : State) → IsPushed (arriving a.frame.last t) t u → IsSaved (saved_bytes a.frame.bank) u v → IsLower a.frame.soft v w → HasTaken a.frame t w
    all_taken u v w p s l = record {
      sp = sp_all g a placed a.frame.soft a.frame.bank (arriving a.frame.last t) t u v w p s l;
      arrived = all_arrived g a placed a.frame.soft a.frame.bank (arriving a.frame.last t) t u v w p s l;
      saved = λ i lt. all_saved g a placed a.frame.soft a.frame.bank (arriving a.frame.last t) t u v w p s l i lt (saved_few a.frame.bank);
      bank = λ i lt. l.bank i lt ∙ (s.lower.bank i lt ∙ p.bank i lt);
      mem = all_above g a placed a.frame.soft a.frame.bank (arriving a.frame.last t) t u v w p s l;
      pushed = l.stays.pushed ∙ (s.lower.stays.pushed ∙ p.pushed);
      frames = l.stays.frames ∙ (s.lower.stays.frames ∙ p.frames);
      input = l.stays.input ∙ (s.lower.stays.input ∙ p.input);
      output = l.stays.output ∙ (s.lower.stays.output ∙ p.output);
      ended = l.stays.ended ∙ (s.lower.stays.ended ∙ p.ended);
      bytes = l.stays.bytes;
    }
