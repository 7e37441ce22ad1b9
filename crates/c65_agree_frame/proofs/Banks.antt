-- Regbank is put away on the software stack, and brought back from it.
use Rattle.std.proofs.Common.{◌≡◌, ℕ, zero, suc, ◌+◌, ◌-◌, ◌*◌, ◌/◌, ◌%◌, ◌<◌, ◌≤◌, ◌⊎◌, inl, inr, Bool, true, false, List, [], ◌∷◌, ◌++◌, Some, refl, sym, ap, ◌∙◌, subst, arith}
use Rattle.std.specs.Prelude.{◌==◌, nat_lt, if◌then◌else◌, min, max, length, slice_get}
use Rattle.std.proofs.lemmas.Bool.{eqb-true, ltb-true, ltb-false, cases_lt}
use Rattle.std.proofs.lemmas.List.Elements.{All-nil}
use Rattle.c65_mach.specs.declared.rows.Op.TheVariants.{Lda, Ldy, Sta}
use Rattle.c65_mach.specs.State.{Regs}
use Rattle.c65_mach.specs.Step.{apply, after}
use Rattle.c65_code.specs.declared.routine.Routine.TheVariants.{SaveRegs, RestRegs}
use Rattle.c65_code.specs.declared.line.Line.{Line}
use Rattle.c65_code.specs.LineState.{Bytes, write, State, sp_of, s_of, eax_of, zero_word, IsBytes}
use Rattle.c65_code.specs.Placement.{IsPlacement, stack_start, stack_end}
use Rattle.c65_code.specs.Texts.{bytes_at, range_of, listed}
use Rattle.c65_code.specs.Rows.{Row, Meets, written, GivesBytes, row_by, costing, push_row, keeping, popping, bank_of}
use Rattle.c65_code.specs.Steady.{IsOpen, HasRoom}
use Rattle.c65_genframe.specs.Frames.{saved_bytes}
use Rattle.c65_genwide.specs.Lines.{value, call}
use Rattle.c65_genentry.specs.Words.{sp, tmp1, regbank, zero_page, by_y}
use Rattle.c65_genentry.specs.Stack.{raise_code, lower_code}
use Rattle.c65_genentry.specs.Entry.{bank_saves, few_saved, saved_code}
use Rattle.c65_genentry.specs.Ends.{bank_loads, few_loads, few_restored, restored_code}
use Rattle.c65_agree_state.specs.World.{World, Active}
use Rattle.c65_agree_state.specs.Laws.{OnlyScratch}
use Rattle.c65_agree_rows.proofs.Quiet.{append_nothing, write_other, write_same, listed_are_at, listed_below, in_range, quiet_row, quiet_rows_scratch, item_is}
use Rattle.c65_agree_frame.specs.Leads.{Leads, IsOn, Stays, SameBank, IsHigher, IsLower, IsSaved, IsBrought}
use Rattle.c65_agree_frame.specs.Laws.{BanksAreSaved, BanksAreBrought, move_cost}
use Rattle.c65_agree_frame.proofs.Leads.{none_leads, leads_then, leads_as, stays_on, kept_regs, kept_zero, kept_memory, after_lines, AreSafe, lines_lead, routine_leads}
use Rattle.c65_agree_frame.proofs.Stack.{stays_same, stays_then, stays_above, on_behind, bank_then, stacks_are_raised, stacks_are_lowered}

-- ---- byte by byte

below_next : (j n : ℕ) → j < suc n → (j < n) ⊎ (j ≡ n)
below_next j n l = go (cases_lt j n)
  where
    go : (j < n) ⊎ (n ≤ j) → (j < n) ⊎ (j ≡ n)
    go (inl lt) = inl lt
    go (inr le) = inr (omega (arith, l, le))

-- what stays of a state while bytes go to and fro: X, and what no routine nor line touches
record Holds (t u : State) : Type 0 where
  x : u.regs.x ≡ t.regs.x
  low : (i : ℕ) → i < 20 → u.zp i ≡ t.zp i
  pushed : u.pushed ≡ t.pushed
  frames : u.frames ≡ t.frames
  input : u.input ≡ t.input
  output : u.output ≡ t.output
  ended : u.ended ≡ t.ended
  bytes : IsBytes u

same_sp : (t u : State) → Holds t u → sp_of u ≡ sp_of t
same_sp t u h = let low = h.low 0 (omega arith) in let high = h.low 1 (omega arith) in omega (arith, low, high)

-- n bytes of regbank stand at sp
record Saves (n : ℕ) (t u : State) : Type 0 where
  holds : Holds t u
  bank : (i : ℕ) → 20 ≤ i → u.zp i ≡ t.zp i
  there : (j : ℕ) → j < n → u.mem (sp_of t + j) ≡ t.zp (20 + j)
  mem : (b : ℕ) → (b < stack_start) ⊎ (sp_of t + n ≤ b) → u.mem b ≡ t.mem b

-- and n bytes at sp are in regbank
record Loads (n : ℕ) (t u : State) : Type 0 where
  holds : Holds t u
  back : (j : ℕ) → j < n → u.zp (20 + j) ≡ t.mem (sp_of t + j)
  others : (i : ℕ) → 20 + n ≤ i → u.zp i ≡ t.zp i
  mem : (b : ℕ) → u.mem b ≡ t.mem b

abbrev one_save : ℕ → List Line
one_save n = value Ldy n ∷ zero_page Lda ((regbank + n) % 256) ∷ by_y Sta sp ∷ []

abbrev one_load : ℕ → List Line
one_load n = value Ldy n ∷ by_y Lda sp ∷ zero_page Sta ((regbank + n) % 256) ∷ []

module _ (g : World) (a : Active) (placed : IsPlacement g.code g.place) where
  holds_on : (t u : State) → IsOn g t → Holds t u → ((b : ℕ) → b < stack_start → u.mem b ≡ t.mem b) → IsOn g u
  holds_on t u on h low =
      let same : s_of u ≡ s_of t = rw (h.pushed, h.frames) refl in
      let sp = same_sp t u h in
      stays_on g placed t u on low (omega (arith, sp, on.stacks.soft)) (omega (arith, sp, on.stacks.calm.high)) (omega (arith, same, on.stacks.hard)) (h.ended ∙ on.running) h.bytes

  saves_lead : (n : ℕ) (t : State) → n ≤ 6 → IsOn g t → sp_of t + n ≤ stack_end → Leads g a (bank_saves n) (3 * n) t (Saves n t)
  saves_lead zero t few on high = none_leads g a t (Saves 0 t) (record {
    holds = record { x = refl; low = λ i lt. refl; pushed = refl; frames = refl; input = refl; output = refl; ended = refl; bytes = on.stacks.calm.bytes };
    bank = λ i le. refl;
    there = λ j lt. absurd (omega (arith, lt));
    mem = λ b side. refl;
  })
  saves_lead (suc n) t few on high =
      leads_as g a (bank_saves (suc n)) (3 * n + 3) (3 * suc n) t (Saves (suc n) t) (Saves (suc n) t) (omega arith) (λ u h. h)
      (leads_then g a (bank_saves n) (one_save n) (3 * n) 3 t (Saves n t) (Saves (suc n) t) (saves_lead n t (omega (arith, few)) on (omega (arith, high))) (λ v first.
      leads_as g a (one_save n) 3 3 v (λ u. (u ≡ after_lines g (one_save n) v) × IsBytes u) (Saves (suc n) t) (omega arith) (λ u e. behind v u first e.0 e.1)
      (lines_lead g a (one_save n) v placed (holds_on t v on first.holds (λ b lt. first.mem b (inl lt))) (safe v first))))
    where
      byte : (20 + n) % 256 ≡ 20 + n
      byte = omega (arith, few)

      safe : (v : State) → Saves n t v → AreSafe g (one_save n) v
      safe v first =
          let sp = same_sp t v first.holds in
          let at : ℕ = after (zero_word v 0) n in
          let place : at ≡ sp_of t + n = omega (arith, sp, high) in (
            refl,
            tt,
            omega (arith, few),
            kept_regs v (apply false Ldy n v.regs),
            (
              refl,
              (omega (arith, byte, few), λ _. omega (arith, byte)),
              tt,
              kept_regs (record v { regs = apply false Ldy n v.regs }) (apply false Lda (v.zp ((20 + n) % 256)) (apply false Ldy n v.regs)),
              (refl, inr (omega (arith, place, sp), omega (arith, place, high)), tt, kept_memory (record v { regs = apply false Lda (v.zp ((20 + n) % 256)) (apply false Ldy n v.regs) }) at (v.zp ((20 + n) % 256)) (omega (arith, place, on.stacks.soft)), tt),
            ),
          )

      behind : (v u : State) → Saves n t v → u ≡ after_lines g (one_save n) v → IsBytes u → Saves (suc n) t u
      behind v u first e b =
          let sp = same_sp t v first.holds in
          let at : ℕ = sp_of t + n in
          let place : after (zero_word v 0) n ≡ at = omega (arith, sp, high) in
          let new : (q : ℕ) → u.mem q ≡ write v.mem at (t.zp (20 + n)) q = λ q.
          ap (λ (x : State). x.mem q) e ∙ (ap (λ (k : ℕ). write v.mem k (v.zp ((20 + n) % 256)) q) place ∙ (ap (λ (k : ℕ). write v.mem at (v.zp k) q) byte ∙ ap (λ (z : ℕ). write v.mem at z q) (first.bank (20 + n) (omega arith)))) in
          record {
            holds = record {
              x = ap (λ (x : State). x.regs.x) e ∙ first.holds.x;
              low = λ i lt. ap (λ (x : State). x.zp i) e ∙ first.holds.low i lt;
              pushed = ap (λ (x : State). x.pushed) e ∙ first.holds.pushed;
              frames = ap (λ (x : State). x.frames) e ∙ first.holds.frames;
              input = ap (λ (x : State). x.input) e ∙ first.holds.input;
              output = ap (λ (x : State). x.output) e ∙ first.holds.output;
              ended = ap (λ (x : State). x.ended) e ∙ first.holds.ended;
              bytes = b;
            };
            bank = λ i le. ap (λ (x : State). x.zp i) e ∙ first.bank i le;
            there = λ j lt. stands j (below_next j n lt) new;
            mem = λ q side. new q ∙ (write_other v.mem at (t.zp (20 + n)) q (λ z. beside q side z) ∙ first.mem q (nearer q side));
          }
        where
          stands : (j : ℕ) → (j < n) ⊎ (j ≡ n) → ((q : ℕ) → u.mem q ≡ write v.mem (sp_of t + n) (t.zp (20 + n)) q) → u.mem (sp_of t + j) ≡ t.zp (20 + j)
          stands j (inl lt) new = new (sp_of t + j) ∙ (write_other v.mem (sp_of t + n) (t.zp (20 + n)) (sp_of t + j) (λ z. omega (arith, z, lt)) ∙ first.there j lt)
          stands j (inr same) new = ap (λ (k : ℕ). u.mem (sp_of t + k)) same ∙ (new (sp_of t + n) ∙ (write_same v.mem (sp_of t + n) (t.zp (20 + n)) ∙ ap (λ (k : ℕ). t.zp (20 + k)) (sym same)))

          beside : (q : ℕ) → (q < stack_start) ⊎ (sp_of t + suc n ≤ q) → q ≡ sp_of t + n → ⊥
          beside q (inl lt) z = omega (arith, lt, z, on.stacks.soft)
          beside q (inr le) z = omega (arith, le, z)

          nearer : (q : ℕ) → (q < stack_start) ⊎ (sp_of t + suc n ≤ q) → (q < stack_start) ⊎ (sp_of t + n ≤ q)
          nearer q (inl lt) = inl lt
          nearer q (inr le) = inr (omega (arith, le))

  loads_lead : (n : ℕ) (t : State) → n ≤ 6 → IsOn g t → sp_of t + n ≤ stack_end → Leads g a (bank_loads n) (3 * n) t (Loads n t)
  loads_lead zero t few on high = none_leads g a t (Loads 0 t) (record {
    holds = record { x = refl; low = λ i lt. refl; pushed = refl; frames = refl; input = refl; output = refl; ended = refl; bytes = on.stacks.calm.bytes };
    back = λ j lt. absurd (omega (arith, lt));
    others = λ i le. refl;
    mem = λ b. refl;
  })
  loads_lead (suc n) t few on high =
      leads_as g a (bank_loads (suc n)) (3 * n + 3) (3 * suc n) t (Loads (suc n) t) (Loads (suc n) t) (omega arith) (λ u h. h)
      (leads_then g a (bank_loads n) (one_load n) (3 * n) 3 t (Loads n t) (Loads (suc n) t) (loads_lead n t (omega (arith, few)) on (omega (arith, high))) (λ v first.
      leads_as g a (one_load n) 3 3 v (λ u. (u ≡ after_lines g (one_load n) v) × IsBytes u) (Loads (suc n) t) (omega arith) (λ u e. behind v u first e.0 e.1)
      (lines_lead g a (one_load n) v placed (holds_on t v on first.holds (λ b lt. first.mem b)) (safe v first))))
    where
      byte : (20 + n) % 256 ≡ 20 + n
      byte = omega (arith, few)

      safe : (v : State) → Loads n t v → AreSafe g (one_load n) v
      safe v first =
          let sp = same_sp t v first.holds in
          let at : ℕ = after (zero_word v 0) n in
          let place : at ≡ sp_of t + n = omega (arith, sp, high) in (
            refl,
            tt,
            omega (arith, few),
            kept_regs v (apply false Ldy n v.regs),
            (
              refl,
              inr (omega (arith, place, sp), omega (arith, place, high)),
              tt,
              kept_regs (record v { regs = apply false Ldy n v.regs }) (apply false Lda (v.mem at) (apply false Ldy n v.regs)),
              (refl, (omega (arith, byte, few), λ _. omega (arith, byte)), tt, kept_zero (record v { regs = apply false Lda (v.mem at) (apply false Ldy n v.regs) }) ((20 + n) % 256) (v.mem at) (omega (arith, byte)), tt),
            ),
          )

      behind : (v u : State) → Loads n t v → u ≡ after_lines g (one_load n) v → IsBytes u → Loads (suc n) t u
      behind v u first e b =
          let sp = same_sp t v first.holds in
          let place : after (zero_word v 0) n ≡ sp_of t + n = omega (arith, sp, high) in
          let new : (q : ℕ) → u.zp q ≡ write v.zp (20 + n) (t.mem (sp_of t + n)) q = λ q.
          ap (λ (x : State). x.zp q) e ∙ (ap (λ (k : ℕ). write v.zp k (v.mem (after (zero_word v 0) n)) q) byte ∙ (ap (λ (k : ℕ). write v.zp (20 + n) (v.mem k) q) place ∙ ap (λ (z : ℕ). write v.zp (20 + n) z q) (first.mem (sp_of t + n)))) in
          record {
            holds = record {
              x = ap (λ (x : State). x.regs.x) e ∙ first.holds.x;
              low = λ i lt. new i ∙ (write_other v.zp (20 + n) (t.mem (sp_of t + n)) i (λ z. omega (arith, z, lt)) ∙ first.holds.low i lt);
              pushed = ap (λ (x : State). x.pushed) e ∙ first.holds.pushed;
              frames = ap (λ (x : State). x.frames) e ∙ first.holds.frames;
              input = ap (λ (x : State). x.input) e ∙ first.holds.input;
              output = ap (λ (x : State). x.output) e ∙ first.holds.output;
              ended = ap (λ (x : State). x.ended) e ∙ first.holds.ended;
              bytes = b;
            };
            back = λ j lt. stands j (below_next j n lt) new;
            others = λ i le. new i ∙ (write_other v.zp (20 + n) (t.mem (sp_of t + n)) i (λ z. omega (arith, z, le)) ∙ first.others i (omega (arith, le)));
            mem = λ q. ap (λ (x : State). x.mem q) e ∙ first.mem q;
          }
        where
          stands : (j : ℕ) → (j < n) ⊎ (j ≡ n) → ((q : ℕ) → u.zp q ≡ write v.zp (20 + n) (t.mem (sp_of t + n)) q) → u.zp (20 + j) ≡ t.mem (sp_of t + j)
          stands j (inl lt) new = new (20 + j) ∙ (write_other v.zp (20 + n) (t.mem (sp_of t + n)) (20 + j) (λ z. omega (arith, z, lt)) ∙ first.back j lt)
          stands j (inr same) new = ap (λ (k : ℕ). u.zp (20 + k)) same ∙ (new (20 + n) ∙ (write_same v.zp (20 + n) (t.mem (sp_of t + n)) ∙ ap (λ (k : ℕ). t.mem (sp_of t + k)) (sym same)))

-- ---- a few bytes

module _ (g : World) (a : Active) (placed : IsPlacement g.code g.place) (bank : ℕ) (few : bank < 6) where
  -- A goes to tmp1 and comes back
  kept_away : (t : State) → IsOn g t → Leads g a (zero_page Sta tmp1 ∷ []) 1 t (λ u. (u ≡ record t { zp = write t.zp 16 t.regs.a }) × IsBytes u)
  kept_away t on = lines_lead g a (zero_page Sta tmp1 ∷ []) t placed on (refl, (omega arith, λ _. omega arith), tt, kept_zero t 16 t.regs.a (omega arith), tt)

  got_back : (t : State) → IsOn g t → Leads g a (zero_page Lda tmp1 ∷ []) 1 t (λ u. (u ≡ record t { regs = apply false Lda (t.zp 16) t.regs }) × IsBytes u)
  got_back t on = lines_lead g a (zero_page Lda tmp1 ∷ []) t placed on (refl, (omega arith, λ _. omega arith), tt, kept_regs t (apply false Lda (t.zp 16) t.regs), tt)

  -- the state with A in tmp1
  record IsAway (t u : State) : Type 0 where
    away : u.zp 16 ≡ t.regs.a
    others : (i : ℕ) → (i ≡ 16 → ⊥) → u.zp i ≡ t.zp i
    regs : u.regs ≡ t.regs
    mem : u.mem ≡ t.mem
    pushed : u.pushed ≡ t.pushed
    frames : u.frames ≡ t.frames
    input : u.input ≡ t.input
    output : u.output ≡ t.output
    ended : u.ended ≡ t.ended
    bytes : IsBytes u

  is_away : (t u : State) → (u ≡ record t { zp = write t.zp 16 t.regs.a }) × IsBytes u → IsAway t u
  is_away t u e = record {
    away = ap (λ (x : State). x.zp 16) e.0 ∙ write_same t.zp 16 t.regs.a;
    others = λ i ne. ap (λ (x : State). x.zp i) e.0 ∙ write_other t.zp 16 t.regs.a i ne;
    regs = ap (λ (x : State). x.regs) e.0;
    mem = ap (λ (x : State). x.mem) e.0;
    pushed = ap (λ (x : State). x.pushed) e.0;
    frames = ap (λ (x : State). x.frames) e.0;
    input = ap (λ (x : State). x.input) e.0;
    output = ap (λ (x : State). x.output) e.0;
    ended = ap (λ (x : State). x.ended) e.0;
    bytes = e.1;
  }

  away_sp : (t u : State) → IsAway t u → sp_of u ≡ sp_of t
  away_sp t u h = let low = h.others 0 (λ e. omega (arith, e)) in let high = h.others 1 (λ e. omega (arith, e)) in omega (arith, low, high)

  away_on : (t u : State) → IsOn g t → IsAway t u → IsOn g u
  away_on t u on h =
      let same : s_of u ≡ s_of t = rw (h.pushed, h.frames) refl in
      let sp = away_sp t u h in
      stays_on g placed t u on (λ b lt. ap (λ (m : Bytes). m b) h.mem) (omega (arith, sp, on.stacks.soft)) (omega (arith, sp, on.stacks.calm.high)) (omega (arith, same, on.stacks.hard)) (h.ended ∙ on.running) h.bytes

  -- A, X and sreg are there again, where tmp1, X and sreg stayed meanwhile
  value_back : (t u v w : State) → IsAway t u → Holds u v → w ≡ record v { regs = apply false Lda (v.zp 16) v.regs } → eax_of w ≡ eax_of t
  value_back t u v w away holds e =
      let a : w.regs.a ≡ t.regs.a = ap (λ (x : State). x.regs.a) e ∙ (holds.low 16 (omega arith) ∙ away.away) in
      let x : w.regs.x ≡ t.regs.x = ap (λ (x : State). x.regs.x) e ∙ (holds.x ∙ ap (λ (r : Regs). r.x) away.regs) in
      let low : w.zp 2 ≡ t.zp 2 = ap (λ (x : State). x.zp 2) e ∙ (holds.low 2 (omega arith) ∙ away.others 2 (λ z. omega (arith, z))) in
      let high : w.zp 3 ≡ t.zp 3 = ap (λ (x : State). x.zp 3) e ∙ (holds.low 3 (omega arith) ∙ away.others 3 (λ z. omega (arith, z))) in
      omega (arith, a, x, low, high)

  few_saved_lead : (t : State) → IsOn g t → stack_start + 64 + bank ≤ sp_of t → Leads g a (few_saved bank) 256 t (IsSaved bank t)
  few_saved_lead t on low =
      leads_as g a (few_saved bank) (move_cost bank + (1 + (3 * bank + 1))) 256 t (IsSaved bank t) (IsSaved bank t) (omega (arith, few)) (λ u h. h)
      (leads_then g a (lower_code bank) (zero_page Sta tmp1 ∷ (bank_saves bank ++ zero_page Lda tmp1 ∷ [])) (move_cost bank) (1 + (3 * bank + 1)) t (IsLower bank t) (IsSaved bank t) (stacks_are_lowered g a bank t placed on low) (λ u1 h1.
      leads_then g a (zero_page Sta tmp1 ∷ []) (bank_saves bank ++ zero_page Lda tmp1 ∷ []) 1 (3 * bank + 1) u1 (λ u. (u ≡ record u1 { zp = write u1.zp 16 u1.regs.a }) × IsBytes u) (IsSaved bank t) (kept_away u1 (on1 u1 h1)) (λ u2 h2.
      leads_then g a (bank_saves bank) (zero_page Lda tmp1 ∷ []) (3 * bank) 1 u2 (Saves bank u2) (IsSaved bank t) (saves_lead g a placed bank u2 (omega (arith, few)) (on2 u1 u2 h1 h2) (room2 u1 u2 h1 h2)) (λ u3 h3.
      leads_as g a (zero_page Lda tmp1 ∷ []) 1 1 u3 (λ u. (u ≡ record u3 { regs = apply false Lda (u3.zp 16) u3.regs }) × IsBytes u) (IsSaved bank t) (omega arith) (λ u4 h4. all_saved u1 u2 u3 u4 h1 (is_away u1 u2 h2) h3 h4)
      (got_back u3 (holds_on g a placed u2 u3 (on2 u1 u2 h1 h2) h3.holds (λ b lt. h3.mem b (inl lt))))))))
    where
      on1 : (u1 : State) → IsLower bank t u1 → IsOn g u1
      on1 u1 h1 = on_behind g (sp_of t) t u1 placed on h1.stays (omega (arith, h1.sp, low)) (omega (arith, h1.sp, on.stacks.calm.high))

      on2 : (u1 u2 : State) → IsLower bank t u1 → (u2 ≡ record u1 { zp = write u1.zp 16 u1.regs.a }) × IsBytes u2 → IsOn g u2
      on2 u1 u2 h1 h2 = away_on u1 u2 (on1 u1 h1) (is_away u1 u2 h2)

      room2 : (u1 u2 : State) → IsLower bank t u1 → (u2 ≡ record u1 { zp = write u1.zp 16 u1.regs.a }) × IsBytes u2 → sp_of u2 + bank ≤ stack_end
      room2 u1 u2 h1 h2 = let sp = away_sp u1 u2 (is_away u1 u2 h2) in omega (arith, sp, h1.sp, on.stacks.calm.high)

      all_saved : (u1 u2 u3 u4 : State) → IsLower bank t u1 → IsAway u1 u2 → Saves bank u2 u3 → (u4 ≡ record u3 { regs = apply false Lda (u3.zp 16) u3.regs }) × IsBytes u4 → IsSaved bank t u4
      all_saved u1 u2 u3 u4 h1 h2 h3 h4 =
          let sp2 = away_sp u1 u2 h2 in
          let sp3 = same_sp u2 u3 h3.holds in
          let sp4 : sp_of u4 ≡ sp_of u3 = ap sp_of h4.0 in
          let zero : (i : ℕ) → i < 6 → u2.zp (20 + i) ≡ t.zp (20 + i) = λ i lt. h2.others (20 + i) (λ z. omega (arith, z)) ∙ h1.bank i lt in
          record {
            lower = record {
              sp = omega (arith, sp4, sp3, sp2, h1.sp);
              bank = λ i lt. ap (λ (x : State). x.zp (20 + i)) h4.0 ∙ (h3.bank (20 + i) (omega arith) ∙ zero i lt);
              stays = record {
                value = value_back u1 u2 u3 u4 h2 h3.holds h4.0 ∙ h1.stays.value;
                mem = λ n side. ap (λ (x : State). x.mem n) h4.0 ∙ (h3.mem n (above n side sp2) ∙ (ap (λ (m : Bytes). m n) h2.mem ∙ h1.stays.mem n side));
                pushed = ap (λ (x : State). x.pushed) h4.0 ∙ (h3.holds.pushed ∙ (h2.pushed ∙ h1.stays.pushed));
                frames = ap (λ (x : State). x.frames) h4.0 ∙ (h3.holds.frames ∙ (h2.frames ∙ h1.stays.frames));
                input = ap (λ (x : State). x.input) h4.0 ∙ (h3.holds.input ∙ (h2.input ∙ h1.stays.input));
                output = ap (λ (x : State). x.output) h4.0 ∙ (h3.holds.output ∙ (h2.output ∙ h1.stays.output));
                ended = ap (λ (x : State). x.ended) h4.0 ∙ (h3.holds.ended ∙ (h2.ended ∙ h1.stays.ended));
                bytes = h4.1;
              };
            };
            saved = λ i lt.
                let at : sp_of u4 + i ≡ sp_of u2 + i = omega (arith, sp4, sp3) in
                ap (λ (x : State). x.mem (sp_of u4 + i)) h4.0 ∙ (ap u3.mem at ∙ (h3.there i lt ∙ zero i (omega (arith, lt, few))));
          }
        where
          above : (n : ℕ) → (n < stack_start) ⊎ (sp_of t ≤ n) → sp_of u2 ≡ sp_of u1 → (n < stack_start) ⊎ (sp_of u2 + bank ≤ n)
          above n (inl lt) sp2 = inl lt
          above n (inr le) sp2 = inr (omega (arith, le, sp2, h1.sp))

  -- sp is where it was, and the bytes are in regbank
  record IsLoaded (t u : State) : Type 0 where
    sp : sp_of u ≡ sp_of t
    brought : (i : ℕ) → i < bank → u.zp (20 + i) ≡ t.mem (sp_of t + i)
    others : (i : ℕ) → bank ≤ i → u.zp (20 + i) ≡ t.zp (20 + i)
    stays : Stays (sp_of t) t u

  few_restored_lead : (t : State) → IsOn g t → sp_of t + bank ≤ stack_end → Leads g a (few_restored bank) 256 t (IsBrought bank t)
  few_restored_lead t on high =
      leads_as g a (few_restored bank) (1 + (3 * bank + 1) + move_cost bank) 256 t (IsBrought bank t) (IsBrought bank t) (omega (arith, few)) (λ u h. h)
      (leads_then g a (few_loads bank) (raise_code bank) (1 + (3 * bank + 1)) (move_cost bank) t (IsLoaded t) (IsBrought bank t) loaded (λ u3 h3.
      leads_as g a (raise_code bank) (move_cost bank) (move_cost bank) u3 (IsHigher bank u3) (IsBrought bank t) (omega arith) (λ u4 h4. all_brought u3 u4 h3 h4) (stacks_are_raised g a bank u3 placed (on3 u3 h3) (omega (arith, h3.sp, high)))))
    where
      on3 : (u3 : State) → IsLoaded t u3 → IsOn g u3
      on3 u3 h3 = on_behind g (sp_of t) t u3 placed on h3.stays (omega (arith, h3.sp, on.stacks.soft)) (omega (arith, h3.sp, on.stacks.calm.high))

      is_loaded : (u1 u2 u3 : State) → IsAway t u1 → Loads bank u1 u2 → (u3 ≡ record u2 { regs = apply false Lda (u2.zp 16) u2.regs }) × IsBytes u3 → IsLoaded t u3
      is_loaded u1 u2 u3 h1 h2 h3 =
          let sp1 = away_sp t u1 h1 in
          let sp2 = same_sp u1 u2 h2.holds in
          record {
            sp = ap sp_of h3.0 ∙ (sp2 ∙ sp1);
            brought = λ i lt. ap (λ (x : State). x.zp (20 + i)) h3.0 ∙ (h2.back i lt ∙ (ap (λ (m : Bytes). m (sp_of u1 + i)) h1.mem ∙ ap (λ (k : ℕ). t.mem (k + i)) sp1));
            others = λ i le. ap (λ (x : State). x.zp (20 + i)) h3.0 ∙ (h2.others (20 + i) (omega (arith, le)) ∙ h1.others (20 + i) (λ z. omega (arith, z)));
            stays = record {
              value = value_back t u1 u2 u3 h1 h2.holds h3.0;
              mem = λ n side. ap (λ (x : State). x.mem n) h3.0 ∙ (h2.mem n ∙ ap (λ (m : Bytes). m n) h1.mem);
              pushed = ap (λ (x : State). x.pushed) h3.0 ∙ (h2.holds.pushed ∙ h1.pushed);
              frames = ap (λ (x : State). x.frames) h3.0 ∙ (h2.holds.frames ∙ h1.frames);
              input = ap (λ (x : State). x.input) h3.0 ∙ (h2.holds.input ∙ h1.input);
              output = ap (λ (x : State). x.output) h3.0 ∙ (h2.holds.output ∙ h1.output);
              ended = ap (λ (x : State). x.ended) h3.0 ∙ (h2.holds.ended ∙ h1.ended);
              bytes = h3.1;
            };
          }

      loaded : Leads g a (few_loads bank) (1 + (3 * bank + 1)) t (IsLoaded t)
      loaded =
          leads_then g a (zero_page Sta tmp1 ∷ []) (bank_loads bank ++ zero_page Lda tmp1 ∷ []) 1 (3 * bank + 1) t (λ u. (u ≡ record t { zp = write t.zp 16 t.regs.a }) × IsBytes u) (IsLoaded t) (kept_away t on) (λ u1 h1.
          let h = is_away t u1 h1 in
          let sp1 = away_sp t u1 h in
          leads_then g a (bank_loads bank) (zero_page Lda tmp1 ∷ []) (3 * bank) 1 u1 (Loads bank u1) (IsLoaded t) (loads_lead g a placed bank u1 (omega (arith, few)) (away_on t u1 on h) (omega (arith, sp1, high))) (λ u2 h2.
          leads_as g a (zero_page Lda tmp1 ∷ []) 1 1 u2 (λ u. (u ≡ record u2 { regs = apply false Lda (u2.zp 16) u2.regs }) × IsBytes u) (IsLoaded t) (omega arith) (λ u3 h3. is_loaded u1 u2 u3 h h2 h3)
          (got_back u2 (holds_on g a placed u1 u2 (away_on t u1 on h) h2.holds (λ b lt. h2.mem b)))))

      all_brought : (u3 u4 : State) → IsLoaded t u3 → IsHigher bank u3 u4 → IsBrought bank t u4
      all_brought u3 u4 h3 h4 = record {
        sp = omega (arith, h4.sp, h3.sp);
        brought = λ i lt. h4.bank i (omega (arith, lt, few)) ∙ h3.brought i lt;
        others = λ i le lt. h4.bank i lt ∙ h3.others i le;
        stays = stays_then (sp_of t) (sp_of t + bank) t u3 u4 (omega arith) h3.stays (subst (λ k. Stays (k + bank) u3 u4) h3.sp h4.stays);
      }

-- ---- all six bytes

bank_item : (t : State) (i : ℕ) → i < 6 → slice_get (bank_of t) i ≡ Some (t.zp (20 + i))
bank_item t zero lt = refl
bank_item t (suc zero) lt = refl
bank_item t (suc (suc zero)) lt = refl
bank_item t (suc (suc (suc zero))) lt = refl
bank_item t (suc (suc (suc (suc zero)))) lt = refl
bank_item t (suc (suc (suc (suc (suc zero))))) lt = refl
bank_item t (suc (suc (suc (suc (suc (suc i)))))) lt = absurd (omega (arith, lt))

given_item : (zp : Bytes) (vs : List ℕ) (at i v : ℕ) → GivesBytes at vs zp → slice_get vs i ≡ Some v → zp (at + i) ≡ v
given_item zp [] at i v h e = cc
given_item zp (x ∷ xs) at zero v h e =
    let here : at + 0 ≡ at = omega arith in
    let same : x ≡ v = cc in
    ap zp here ∙ (h.0 ∙ same)
given_item zp (x ∷ xs) at (suc i) v h e =
    let next : at + suc i ≡ at + 1 + i = omega arith in
    ap zp next ∙ given_item zp xs (at + 1) i v h.1 e

bytes_item : (m : Bytes) (count at i : ℕ) → i < count → slice_get (bytes_at count at m) i ≡ Some (m (at + i))
bytes_item m zero at i lt = absurd (omega (arith, lt))
bytes_item m (suc count) at zero lt = let here : at ≡ at + 0 = omega arith in ap (λ (k : ℕ). Some (m k)) here
bytes_item m (suc count) at (suc i) lt = let next : at + 1 + i ≡ at + suc i = omega arith in bytes_item m count (at + 1) i (omega (arith, lt)) ∙ ap (λ (k : ℕ). Some (m k)) next

module _ (g : World) (a : Active) (t : State) (on : IsOn g t) where
  abbrev save : Row
  save = costing 256 (push_row SaveRegs (bank_of t) t)

  all_saved_lead : stack_start + 64 + 6 ≤ sp_of t → Leads g a (call SaveRegs ∷ []) 256 t (IsSaved 6 t)
  all_saved_lead low = leads_as g a (call SaveRegs ∷ []) 256 256 t (λ u. Meets save t u × IsBytes u) (IsSaved 6 t) (omega arith) (λ u m. is_saved u m.0 m.1) (routine_leads g a SaveRegs save t on refl room)
    where
      at : ℕ
      at = sp_of t - 6

      room : HasRoom g.place save t
      room = record {
        ready = refl;
        soft = on.stacks.soft;
        hard = on.stacks.hard;
        near = in_range (IsOpen g.place (min (sp_of t) (sp_of t - 6))) 6 (sp_of t - 6) (λ i lt. inr (omega (arith, lt), omega (arith, lt, low, on.stacks.calm.high)));
        far = All-nil (IsOpen g.place (max (sp_of t) (sp_of t - 6)));
      }

      is_saved : (u : State) → Meets save t u → IsBytes u → IsSaved 6 t u
      is_saved u m b =
          let s : OnlyScratch (sp_of t) t u = quiet_rows_scratch (sp_of t) save t u (quiet_row save refl refl refl refl refl) (listed_below (bank_of t) (sp_of t - 6) (sp_of t) (omega (arith, low)) (omega (arith, low))) m b on.running on.stacks.soft (omega arith) in
          let ma = m.a in
          let mx = m.x in
          let ms = m.sreg in
          let sp : sp_of u ≡ sp_of t - 6 = m.sp in
          record {
            lower = record {
              sp = omega (arith, sp, low);
              bank = λ i lt. sym (s.bank i lt);
              stays = record { value = omega (arith, ma, mx, ms); mem = s.mem; pushed = s.pushed; frames = s.frames; input = s.input; output = s.output; ended = s.ended; bytes = s.bytes };
            };
            saved = λ i lt.
                let there : sp_of u + i ≡ sp_of t - 6 + i = omega (arith, sp) in
                ap u.mem there ∙ (m.mem (sp_of t - 6 + i) (inr (inr (omega arith))) ∙ item_is (written t.mem (listed (bank_of t) (sp_of t - 6))) (bank_of t) (sp_of t - 6) i (t.zp (20 + i)) (listed_are_at t.mem (bank_of t) (sp_of t - 6)) (bank_item t i lt));
          }

  abbrev restore : Row
  restore = costing 256 (record (keeping t (popping 6 t (row_by RestRegs t))) { bank = Some (bytes_at 6 (sp_of t) t.mem) })

  all_brought_lead : sp_of t + 6 ≤ stack_end → Leads g a (call RestRegs ∷ []) 256 t (IsBrought 6 t)
  all_brought_lead high = leads_as g a (call RestRegs ∷ []) 256 256 t (λ u. Meets restore t u × IsBytes u) (IsBrought 6 t) (omega arith) (λ u m. is_brought u m.0 m.1) (routine_leads g a RestRegs restore t on refl room)
    where
      room : HasRoom g.place restore t
      room = record {
        ready = refl;
        soft = on.stacks.soft;
        hard = on.stacks.hard;
        near = in_range (IsOpen g.place (min (sp_of t) (sp_of t + 6))) 6 (sp_of t) (λ i lt. inr (omega arith, omega (arith, lt, high)));
        far = All-nil (IsOpen g.place (max (sp_of t) (sp_of t + 6)));
      }

      is_brought : (u : State) → Meets restore t u → IsBytes u → IsBrought 6 t u
      is_brought u m b =
          let ma = m.a in
          let mx = m.x in
          let ms = m.sreg in
          record {
            sp = m.sp;
            brought = λ i lt. given_item u.zp (bytes_at 6 (sp_of t) t.mem) 20 i (t.mem (sp_of t + i)) m.bank (bytes_item t.mem 6 (sp_of t) i lt);
            others = λ i le lt. absurd (omega (arith, le, lt));
            stays = record { value = omega (arith, ma, mx, ms); mem = λ n side. m.mem n (kept n side); pushed = m.pushed; frames = m.frames; input = m.input; output = m.output ∙ append_nothing t.output; ended = m.ended ∙ sym on.running; bytes = b };
          }
        where
          kept : (n : ℕ) → (n < stack_start) ⊎ (sp_of t + 6 ≤ n) → (n + 64 < sp_of t) ⊎ ((sp_of t ≤ n) ⊎ (sp_of t ≤ n))
          kept n (inl lt) = inl (omega (arith, lt, on.stacks.soft))
          kept n (inr le) = inr (inl (omega (arith, le)))

-- at most all six bytes are saved
pub saved_few : (bank : ℕ) → saved_bytes bank ≤ 6
saved_few bank = go (nat_lt bank 6) refl
  where
    go : (b : Bool) → nat_lt bank 6 ≡ b → (if b then bank else 6) ≤ 6
    go true e = let lt = ltb-true bank 6 e in omega (arith, lt)
    go false e = omega arith

-- ---- the laws

module _ (g : World) (a : Active) (bank : ℕ) (t : State) (placed : IsPlacement g.code g.place) (on : IsOn g t) where
  saved_by : (few : Bool) → nat_lt bank 6 ≡ few → stack_start + 64 + (if few then bank else 6) ≤ sp_of t → Leads g a (if few then few_saved bank else call SaveRegs ∷ []) 256 t (IsSaved (if few then bank else 6) t)
  saved_by true e low = few_saved_lead g a placed bank (ltb-true bank 6 e) t on low
  saved_by false e low = all_saved_lead g a t on low

  brought_by : (few : Bool) → nat_lt bank 6 ≡ few → sp_of t + (if few then bank else 6) ≤ stack_end → Leads g a (if few then few_restored bank else call RestRegs ∷ []) 256 t (IsBrought (if few then bank else 6) t)
  brought_by true e high = few_restored_lead g a placed bank (ltb-true bank 6 e) t on high
  brought_by false e high = all_brought_lead g a t on high

  none_saved : (count : ℕ) → count ≡ 0 → IsSaved count t t
  none_saved count e = record { lower = record { sp = omega (arith, e); bank = λ i lt. refl; stays = stays_same t (sp_of t) on.stacks.calm.bytes }; saved = λ i lt. absurd (omega (arith, lt, e)) }

  none_brought : (count : ℕ) → count ≡ 0 → IsBrought count t t
  none_brought count e = record { sp = omega (arith, e); brought = λ i lt. absurd (omega (arith, lt, e)); others = λ i le lt. refl; stays = stays_same t (sp_of t + count) on.stacks.calm.bytes }

  no_bytes : bank ≡ 0 → saved_bytes bank ≡ 0
  no_bytes e = ap saved_bytes e

  banks_save : stack_start + 64 + saved_bytes bank ≤ sp_of t → Leads g a (saved_code bank) 256 t (IsSaved (saved_bytes bank) t)
  banks_save low = go (bank == 0) refl
    where
      go : (none : Bool) → (bank == 0) ≡ none → Leads g a (if none then [] else (if nat_lt bank 6 then few_saved bank else call SaveRegs ∷ [])) 256 t (IsSaved (saved_bytes bank) t)
      go true e = leads_as g a [] 0 256 t (IsSaved (saved_bytes bank) t) (IsSaved (saved_bytes bank) t) (omega arith) (λ u h. h) (none_leads g a t (IsSaved (saved_bytes bank) t) (none_saved (saved_bytes bank) (no_bytes (eqb-true bank 0 e))))
      go false e = saved_by (nat_lt bank 6) refl low

  banks_bring : sp_of t + saved_bytes bank ≤ stack_end → Leads g a (restored_code bank) 256 t (IsBrought (saved_bytes bank) t)
  banks_bring high = go (bank == 0) refl
    where
      go : (none : Bool) → (bank == 0) ≡ none → Leads g a (if none then [] else (if nat_lt bank 6 then few_restored bank else call RestRegs ∷ [])) 256 t (IsBrought (saved_bytes bank) t)
      go true e = leads_as g a [] 0 256 t (IsBrought (saved_bytes bank) t) (IsBrought (saved_bytes bank) t) (omega arith) (λ u h. h) (none_leads g a t (IsBrought (saved_bytes bank) t) (none_brought (saved_bytes bank) (no_bytes (eqb-true bank 0 e))))
      go false e = brought_by (nat_lt bank 6) refl high

pub banks_are_saved : BanksAreSaved
banks_are_saved g a bank t placed on low = banks_save g a bank t placed on low

pub banks_are_brought : BanksAreBrought
banks_are_brought g a bank t placed on high = banks_bring g a bank t placed on high
