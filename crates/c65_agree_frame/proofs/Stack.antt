-- sp is raised and lowered.
use Rattle.std.proofs.Common.{◌≡◌, ℕ, zero, suc, ◌+◌, ◌-◌, ◌*◌, ◌/◌, ◌%◌, ◌<◌, ◌≤◌, ◌⊎◌, inl, inr, Bool, true, false, List, [], ◌∷◌, ◌++◌, Option, Some, None, refl, sym, ap, ◌∙◌, subst, arith}
use Rattle.std.specs.Prelude.{◌==◌, if◌then◌else◌, min, max, drop}
use Rattle.std.proofs.lemmas.Bool.{eqb-true}
use Rattle.std.proofs.lemmas.List.Elements.{All-nil}
use Rattle.c65_mach.specs.declared.rows.Op.TheVariants.{Ldy}
use Rattle.c65_mach.specs.Step.{apply}
use Rattle.c65_code.specs.declared.parts.Part.TheVariants.{Zp}
use Rattle.c65_code.specs.declared.routine.Count.{Count}
use Rattle.c65_code.specs.declared.routine.Count.TheVariants.{One, Two, Three, Four, Five, Six, Seven, Eight}
use Rattle.c65_code.specs.declared.routine.Routine.{Routine}
use Rattle.c65_code.specs.LineState.{State, sp_of, s_of, eax_of, IsBytes}
use Rattle.c65_code.specs.Placement.{IsPlacement, stack_start, stack_end}
use Rattle.c65_code.specs.Rows.{Row, Meets, number_of}
use Rattle.c65_code.specs.Steady.{IsOpen, HasRoom}
use Rattle.c65_genwide.specs.Lines.{value, call}
use Rattle.c65_genentry.specs.Stack.{count_of, raise_by, lower_by, small_raise, small_lower, repeated, raise_code, lower_code}
use Rattle.c65_agree_state.specs.World.{World, Active}
use Rattle.c65_agree_state.specs.Laws.{OnlyScratch}
use Rattle.c65_agree_rows.specs.Rows.{Moving, By, ByY, raising_of, lowering_of, moved_by}
use Rattle.c65_agree_rows.proofs.Moves.{HasMove, raised, lowered}
use Rattle.c65_agree_rows.proofs.Quiet.{silent_rows_scratch}
use Rattle.c65_agree_frame.specs.Leads.{Leads, IsOn, Stays, SameBank, IsHigher, IsLower}
use Rattle.c65_agree_frame.specs.Laws.{StacksAreRaised, StacksAreLowered}
use Rattle.c65_agree_frame.proofs.Leads.{none_leads, leads_then, leads_as, stays_on, kept_regs, lines_lead, routine_leads}

-- ---- what stays

pub stays_same : (t : State) (bound : ℕ) → IsBytes t → Stays bound t t
stays_same t bound b = record { value = refl; mem = λ n h. refl; pushed = refl; frames = refl; input = refl; output = refl; ended = refl; bytes = b }

-- above the higher of two bounds
pub stays_then : (low high : ℕ) (t u v : State) → low ≤ high → Stays low t u → Stays high u v → Stays high t v
stays_then low high t u v le f s = record {
  value = s.value ∙ f.value;
  mem = λ n h. s.mem n h ∙ f.mem n (above n h);
  pushed = s.pushed ∙ f.pushed;
  frames = s.frames ∙ f.frames;
  input = s.input ∙ f.input;
  output = s.output ∙ f.output;
  ended = s.ended ∙ f.ended;
  bytes = s.bytes;
}
  where
    above : (n : ℕ) → (n < stack_start) ⊎ (high ≤ n) → (n < stack_start) ⊎ (low ≤ n)
    above n (inl h) = inl h
    above n (inr h) = inr (omega (arith, h, le))

pub stays_above : (low high : ℕ) (t u : State) → low ≤ high → Stays low t u → Stays high t u
stays_above low high t u le f = stays_then low high t u u le f (stays_same u high f.bytes)

-- such a state is calm where sp is in its range
pub on_behind : (g : World) (bound : ℕ) (t u : State) → IsPlacement g.code g.place → IsOn g t → Stays bound t u → stack_start + 64 ≤ sp_of u → sp_of u ≤ stack_end → IsOn g u
on_behind g bound t u placed on s soft high =
    let same : s_of u ≡ s_of t = rw (s.pushed, s.frames) refl in
    stays_on g placed t u on (λ n lt. s.mem n (inl lt)) soft high (omega (arith, same, on.stacks.hard)) (s.ended ∙ on.running) s.bytes

pub bank_then : (t u v : State) → SameBank t u → SameBank u v → SameBank t v
bank_then t u v f s = λ i lt. s i lt ∙ f i lt

pub higher_then : (m n k : ℕ) (t u v : State) → m + n ≡ k → IsHigher m t u → IsHigher n u v → IsHigher k t v
higher_then m n k t u v e f s =
    let far : sp_of u + n ≡ sp_of t + k = omega (arith, f.sp, e) in
    record {
      sp = s.sp ∙ far;
      bank = bank_then t u v f.bank s.bank;
      stays = subst (λ b. Stays b t v) far (stays_then (sp_of t + m) (sp_of u + n) t u v (omega (arith, f.sp)) f.stays s.stays);
    }

pub lower_then : (m n k : ℕ) (t u v : State) → m + n ≡ k → IsLower m t u → IsLower n u v → IsLower k t v
lower_then m n k t u v e f s = record {
  sp = omega (arith, f.sp, s.sp, e);
  bank = bank_then t u v f.bank s.bank;
  stays = stays_then (sp_of t) (sp_of t) t u v (omega arith) f.stays (stays_above (sp_of u) (sp_of t) u v (omega (arith, f.sp)) s.stays);
}

-- other registers
pub stays_regs : (t u : State) (bound : ℕ) → eax_of u ≡ eax_of t → u.mem ≡ t.mem → u.pushed ≡ t.pushed → u.frames ≡ t.frames → u.input ≡ t.input → u.output ≡ t.output → u.ended ≡ t.ended → IsBytes u → Stays bound t u
stays_regs t u bound value mem pushed frames input output ended bytes = record { value = value; mem = λ n h. ap (λ (f : ℕ → ℕ). f n) mem; pushed = pushed; frames = frames; input = input; output = output; ended = ended; bytes = bytes }

-- ---- one routine

scratch_stays : (bound : ℕ) (t u : State) → OnlyScratch bound t u → eax_of u ≡ eax_of t → Stays bound t u
scratch_stays bound t u s value = record { value = value; mem = s.mem; pushed = s.pushed; frames = s.frames; input = s.input; output = s.output; ended = s.ended; bytes = s.bytes }

module _ (g : World) (a : Active) (r : Routine) (to : ℕ) (t : State) (on : IsOn g t) (h : HasMove r to t) (low : stack_start ≤ to) where
  room : HasRoom g.place h.row t
  room = record { ready = h.ready; soft = on.stacks.soft; hard = on.stacks.hard; near = rw h.near (All-nil (IsOpen g.place (min (sp_of t) h.row.sp))); far = rw h.far (All-nil (IsOpen g.place (max (sp_of t) h.row.sp))) }

  -- sp is there, and all else stays
  record IsThere (u : State) : Type 0 where
    sp : sp_of u ≡ to
    bank : SameBank t u
    stays : Stays (sp_of t) t u

  move_leads : Leads g a (call r ∷ []) 32 t IsThere
  move_leads = subst (λ w. Leads g a (call r ∷ []) w t IsThere) h.cost (leads_as g a (call r ∷ []) h.row.cost h.row.cost t (λ u. Meets h.row t u × IsBytes u) IsThere (omega arith) there (routine_leads g a r h.row t on h.is room))
    where
      there : (u : State) → Meets h.row t u × IsBytes u → IsThere u
      there u m =
          let s : OnlyScratch (sp_of t) t u = silent_rows_scratch (sp_of t) h.row t u h.silent (rw h.writes tt) m.0 m.1 on.running (h.room on.stacks.soft low) (omega arith) in
          record { sp = m.0.sp ∙ h.sp; bank = λ i lt. sym (s.bank i lt); stays = scratch_stays (sp_of t) t u s (h.value u m.0) }

pub raise_leads : (g : World) (a : Active) (move : Moving) (t : State) → IsOn g t → sp_of t + moved_by move t ≤ stack_end → Leads g a (call (raising_of move) ∷ []) 32 t (IsHigher (moved_by move t) t)
raise_leads g a move t on high =
    let to = sp_of t + moved_by move t in
    let h : HasMove (raising_of move) to t = raised move t (omega (arith, high)) in
    let above : stack_start ≤ to = omega (arith, on.stacks.soft) in
    leads_as g a (call (raising_of move) ∷ []) 32 32 t (IsThere g a (raising_of move) to t on h above) (IsHigher (moved_by move t) t) (omega arith)
    (λ u x. record { sp = x.sp; bank = x.bank; stays = stays_above (sp_of t) to t u (omega arith) x.stays }) (move_leads g a (raising_of move) to t on h above)

pub drop_leads : (g : World) (a : Active) (move : Moving) (t : State) → IsOn g t → stack_start + moved_by move t ≤ sp_of t → Leads g a (call (lowering_of move) ∷ []) 32 t (IsLower (moved_by move t) t)
drop_leads g a move t on low =
    let to = sp_of t - moved_by move t in
    let h : HasMove (lowering_of move) to t = lowered move t in
    let above : stack_start ≤ to = omega (arith, low) in
    leads_as g a (call (lowering_of move) ∷ []) 32 32 t (IsThere g a (lowering_of move) to t on h above) (IsLower (moved_by move t) t) (omega arith)
    (λ u x. record { sp = omega (arith, x.sp, low); bank = x.bank; stays = x.stays }) (move_leads g a (lowering_of move) to t on h above)

-- ---- so many bytes

number_in : Option Count → ℕ
number_in None = 0
number_in (Some c) = number_of c

counted_of : (n : ℕ) (c : Count) → count_of n ≡ Some c → number_of c ≡ n
unfolding number_in
counted_of zero c h = absurd cc
counted_of (suc zero) c h = sym (ap number_in h)
counted_of (suc (suc zero)) c h = sym (ap number_in h)
counted_of (suc (suc (suc n))) c h = absurd cc

-- Y has the number
pub with_y : (n : ℕ) (t : State) → State
with_y n t = record t { regs = apply false Ldy n t.regs }

module _ (g : World) (a : Active) (placed : IsPlacement g.code g.place) where
  y_leads : (n : ℕ) (t : State) → n < 256 → IsOn g t → Leads g a (value Ldy n ∷ []) 1 t (λ u. (u ≡ record t { regs = apply false Ldy n t.regs }) × IsBytes u)
  y_leads n t few on = lines_lead g a (value Ldy n ∷ []) t placed on (refl, tt, few, kept_regs t (apply false Ldy n t.regs), tt)

  y_on : (n : ℕ) (t u : State) → IsOn g t → (u ≡ record t { regs = apply false Ldy n t.regs }) × IsBytes u → IsOn g u
  y_on n t u on e = rw e.0 (stays_on g placed t (record t { regs = apply false Ldy n t.regs }) on (λ i lt. refl) on.stacks.soft on.stacks.calm.high on.stacks.hard on.running (subst IsBytes e.0 e.1))

  -- by a routine for so few, or by Y
  raise_by_leads : (n : ℕ) (c : Option Count) (t : State) → count_of n ≡ c → n < 256 → IsOn g t → sp_of t + n ≤ stack_end → Leads g a (raise_by n c) 33 t (IsHigher n t)
  raise_by_leads n (Some c) t e few on high =
      let same : number_of c ≡ n = counted_of n c e in
      leads_as g a (raise_by n (Some c)) 32 33 t (IsHigher (number_of c) t) (IsHigher n t) (omega arith) (λ u h. subst (λ k. IsHigher k t u) same h) (raise_leads g a (By c) t on (omega (arith, same, high)))
  raise_by_leads n None t e few on high =
      leads_then g a (value Ldy n ∷ []) (call (raising_of ByY) ∷ []) 1 32 t (λ u. (u ≡ record t { regs = apply false Ldy n t.regs }) × IsBytes u) (IsHigher n t) (y_leads n t few on) (λ u is. behind u is)
    where
      behind : (u : State) → (u ≡ record t { regs = apply false Ldy n t.regs }) × IsBytes u → Leads g a (call (raising_of ByY) ∷ []) 32 u (IsHigher n t)
      behind u is =
          let sp : sp_of u ≡ sp_of t = ap sp_of is.0 in
          let y : u.regs.y ≡ n = ap (λ (x : State). x.regs.y) is.0 in
          let first : IsHigher 0 t u = record { sp = omega (arith, sp); bank = λ i lt. ap (λ (x : State). x.zp (20 + i)) is.0; stays = subst (λ x. IsBytes x → Stays (sp_of t + 0) t x) (sym is.0) (λ b. stays_regs t (record t { regs = apply false Ldy n t.regs }) (sp_of t + 0) refl refl refl refl refl refl refl b) is.1 } in
          leads_as g a (call (raising_of ByY) ∷ []) 32 32 u (IsHigher u.regs.y u) (IsHigher n t) (omega arith) (λ v h. higher_then 0 u.regs.y n t u v (omega (arith, y)) first h) (raise_leads g a ByY u (y_on n t u on is) (omega (arith, sp, y, high)))

  drop_by_leads : (n : ℕ) (c : Option Count) (t : State) → count_of n ≡ c → n < 256 → IsOn g t → stack_start + 64 + n ≤ sp_of t → Leads g a (lower_by n c) 33 t (IsLower n t)
  drop_by_leads n (Some c) t e few on low =
      let same : number_of c ≡ n = counted_of n c e in
      leads_as g a (lower_by n (Some c)) 32 33 t (IsLower (number_of c) t) (IsLower n t) (omega arith) (λ u h. subst (λ k. IsLower k t u) same h) (drop_leads g a (By c) t on (omega (arith, same, low)))
  drop_by_leads n None t e few on low =
      leads_then g a (value Ldy n ∷ []) (call (lowering_of ByY) ∷ []) 1 32 t (λ u. (u ≡ record t { regs = apply false Ldy n t.regs }) × IsBytes u) (IsLower n t) (y_leads n t few on) (λ u is. behind u is)
    where
      behind : (u : State) → (u ≡ record t { regs = apply false Ldy n t.regs }) × IsBytes u → Leads g a (call (lowering_of ByY) ∷ []) 32 u (IsLower n t)
      behind u is =
          let sp : sp_of u ≡ sp_of t = ap sp_of is.0 in
          let y : u.regs.y ≡ n = ap (λ (x : State). x.regs.y) is.0 in
          let first : IsLower 0 t u = record { sp = omega (arith, sp); bank = λ i lt. ap (λ (x : State). x.zp (20 + i)) is.0; stays = subst (λ x. IsBytes x → Stays (sp_of t) t x) (sym is.0) (λ b. stays_regs t (record t { regs = apply false Ldy n t.regs }) (sp_of t) refl refl refl refl refl refl refl b) is.1 } in
          leads_as g a (call (lowering_of ByY) ∷ []) 32 32 u (IsLower u.regs.y u) (IsLower n t) (omega arith) (λ v h. lower_then 0 u.regs.y n t u v (omega (arith, y)) first h) (drop_leads g a ByY u (y_on n t u on is) (omega (arith, sp, y, low)))

  none_higher : (n : ℕ) (t : State) → n ≡ 0 → IsOn g t → IsHigher n t t
  none_higher n t e on = record { sp = omega (arith, e); bank = λ i lt. refl; stays = stays_same t (sp_of t + n) on.stacks.calm.bytes }

  none_lower : (n : ℕ) (t : State) → n ≡ 0 → IsOn g t → IsLower n t t
  none_lower n t e on = record { sp = omega (arith, e); bank = λ i lt. refl; stays = stays_same t (sp_of t) on.stacks.calm.bytes }

  small_raise_leads : (n : ℕ) (t : State) → n < 256 → IsOn g t → sp_of t + n ≤ stack_end → Leads g a (small_raise n) 33 t (IsHigher n t)
  small_raise_leads n t few on high = go (n == 0) refl
    where
      go : (b : Bool) → (n == 0) ≡ b → Leads g a (if b then [] else raise_by n (count_of n)) 33 t (IsHigher n t)
      go true e = leads_as g a [] 0 33 t (IsHigher n t) (IsHigher n t) (omega arith) (λ u h. h) (none_leads g a t (IsHigher n t) (none_higher n t (eqb-true n 0 e) on))
      go false e = raise_by_leads n (count_of n) t refl few on high

  small_lower_leads : (n : ℕ) (t : State) → n < 256 → IsOn g t → stack_start + 64 + n ≤ sp_of t → Leads g a (small_lower n) 33 t (IsLower n t)
  small_lower_leads n t few on low = go (n == 0) refl
    where
      go : (b : Bool) → (n == 0) ≡ b → Leads g a (if b then [] else lower_by n (count_of n)) 33 t (IsLower n t)
      go true e = leads_as g a [] 0 33 t (IsLower n t) (IsLower n t) (omega arith) (λ u h. h) (none_leads g a t (IsLower n t) (none_lower n t (eqb-true n 0 e) on))
      go false e = drop_by_leads n (count_of n) t refl few on low

  higher_on : (n : ℕ) (t u : State) → IsOn g t → sp_of t + n ≤ stack_end → IsHigher n t u → IsOn g u
  higher_on n t u on high h = on_behind g (sp_of t + n) t u placed on h.stays (omega (arith, h.sp, on.stacks.soft)) (omega (arith, h.sp, high))

  lower_on : (n : ℕ) (t u : State) → IsOn g t → stack_start + 64 + n ≤ sp_of t → IsLower n t u → IsOn g u
  lower_on n t u on low h = on_behind g (sp_of t) t u placed on h.stays (omega (arith, h.sp, low)) (omega (arith, h.sp, on.stacks.calm.high))

  raises_lead : (k : ℕ) (t : State) → IsOn g t → sp_of t + 255 * k ≤ stack_end → Leads g a (repeated k (small_raise 255)) (33 * k) t (IsHigher (255 * k) t)
  raises_lead zero t on high = none_leads g a t (IsHigher 0 t) (none_higher 0 t refl on)
  raises_lead (suc k) t on high =
      leads_as g a (repeated (suc k) (small_raise 255)) (33 * k + 33) (33 * suc k) t (IsHigher (255 * suc k) t) (IsHigher (255 * suc k) t) (omega arith) (λ u h. h)
      (leads_then g a (repeated k (small_raise 255)) (small_raise 255) (33 * k) 33 t (IsHigher (255 * k) t) (IsHigher (255 * suc k) t) (raises_lead k t on (omega (arith, high))) (λ u h.
      leads_as g a (small_raise 255) 33 33 u (IsHigher 255 u) (IsHigher (255 * suc k) t) (omega arith) (λ v x. higher_then (255 * k) 255 (255 * suc k) t u v (omega arith) h x)
      (small_raise_leads 255 u (omega arith) (higher_on (255 * k) t u on (omega (arith, high)) h) (omega (arith, h.sp, high)))))

  lowers_lead : (k : ℕ) (t : State) → IsOn g t → stack_start + 64 + 255 * k ≤ sp_of t → Leads g a (repeated k (small_lower 255)) (33 * k) t (IsLower (255 * k) t)
  lowers_lead zero t on low = none_leads g a t (IsLower 0 t) (none_lower 0 t refl on)
  lowers_lead (suc k) t on low =
      leads_as g a (repeated (suc k) (small_lower 255)) (33 * k + 33) (33 * suc k) t (IsLower (255 * suc k) t) (IsLower (255 * suc k) t) (omega arith) (λ u h. h)
      (leads_then g a (repeated k (small_lower 255)) (small_lower 255) (33 * k) 33 t (IsLower (255 * k) t) (IsLower (255 * suc k) t) (lowers_lead k t on (omega (arith, low))) (λ u h.
      leads_as g a (small_lower 255) 33 33 u (IsLower 255 u) (IsLower (255 * suc k) t) (omega arith) (λ v x. lower_then (255 * k) 255 (255 * suc k) t u v (omega arith) h x)
      (small_lower_leads 255 u (omega arith) (lower_on (255 * k) t u on (omega (arith, low)) h) (omega (arith, h.sp, low)))))

pub stacks_are_raised : StacksAreRaised
stacks_are_raised g a count t placed on high =
    let k = count / 255 in
    let n = count % 255 in
    leads_then g a (repeated k (small_raise 255)) (small_raise n) (33 * k) 33 t (IsHigher (255 * k) t) (IsHigher count t) (raises_lead g a placed k t on (omega (arith, high))) (λ u h.
    leads_as g a (small_raise n) 33 33 u (IsHigher n u) (IsHigher count t) (omega arith) (λ v x. higher_then (255 * k) n count t u v (omega arith) h x)
    (small_raise_leads g a placed n u (omega arith) (higher_on g a placed (255 * k) t u on (omega (arith, high)) h) (omega (arith, h.sp, high))))

pub stacks_are_lowered : StacksAreLowered
stacks_are_lowered g a count t placed on low =
    let k = count / 255 in
    let n = count % 255 in
    leads_then g a (repeated k (small_lower 255)) (small_lower n) (33 * k) 33 t (IsLower (255 * k) t) (IsLower count t) (lowers_lead g a placed k t on (omega (arith, low))) (λ u h.
    leads_as g a (small_lower n) 33 33 u (IsLower n u) (IsLower count t) (omega arith) (λ v x. lower_then (255 * k) n count t u v (omega arith) h x)
    (small_lower_leads g a placed n u (omega arith) (lower_on g a placed (255 * k) t u on (omega (arith, low)) h) (omega (arith, h.sp, low))))
