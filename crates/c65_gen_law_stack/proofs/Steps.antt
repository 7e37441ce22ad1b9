-- What the machine does at lines of a function's entry and end.
use Rattle.std.proofs.Common.{◌≡◌, ◌≢◌, ℕ, zero, suc, ◌+◌, ◌-◌, ◌%◌, ◌<◌, ◌≤◌, inl, inr, false, List, [], ◌∷◌, length, refl, ap, ◌∙◌, arith}
use Rattle.std.specs.Prelude.{max}
use Rattle.std.proofs.lemmas.Bool.Decides.{eqb_tells}
use Rattle.c65_code.specs.declared.parts.Part.TheVariants.{Zp}
use Rattle.c65_code.specs.declared.routine.Count.{Count}
use Rattle.c65_code.specs.declared.routine.Routine.TheVariants as routines
use Rattle.c65_code.specs.declared.line.Callee.TheVariants.{Routine}
use Rattle.c65_code.specs.declared.line.Line.TheVariants.{Call}
use Rattle.c65_code.specs.Parts.{has_part}
use Rattle.c65_code.specs.Texts.{bytes_at, listed}
use Rattle.c65_code.specs.LineState.{Bytes, write, Place, State, sp_of, sreg_of}
use Rattle.c65_code.specs.Placement.{Setting}
use Rattle.c65_code.specs.Moves.{Moves}
use Rattle.c65_code.specs.Steady.{IsCalm}
use Rattle.c65_code.specs.Rows.{Row, Meets, written, number_of, bank_of, sp_row, push_row}

-- ---- writes

pub write_other : (m : Bytes) (at v b : ℕ) → b ≢ at → write m at v b ≡ m b
write_other m at v b other = elim (eqb_tells b at) [ inl same ↦ absurd (other same.1) | inr apart ↦ rw apart.0 refl ]

pub write_same : (m : Bytes) (at v : ℕ) → write m at v at ≡ v
write_same m at v = elim (eqb_tells at at) [ inl same ↦ rw same.0 refl | inr apart ↦ absurd (apart.1 refl) ]

-- bytes that are written one behind another leave those above them and below them
above_listed : (vs : List ℕ) (at : ℕ) (m : Bytes) (b : ℕ) → at + length vs ≤ b → written m (listed vs at) b ≡ m b
above_listed [] at m b h = refl
above_listed (v ∷ vs) at m b h = above_listed vs (at + 1) (write m at v) b (omega (arith, h)) ∙ write_other m at v b (λ e. omega (arith, e, h))

below_listed : (vs : List ℕ) (at : ℕ) (m : Bytes) (b : ℕ) → b < at → written m (listed vs at) b ≡ m b
below_listed [] at m b h = refl
below_listed (v ∷ vs) at m b h = below_listed vs (at + 1) (write m at v) b (omega (arith, h)) ∙ write_other m at v b (λ e. omega (arith, e, h))

-- and stand there
listed_there : (vs : List ℕ) (at : ℕ) (m : Bytes) → bytes_at (length vs) at (written m (listed vs at)) ≡ vs
listed_there [] at m = refl
listed_there (v ∷ vs) at m =
    let first : written (write m at v) (listed vs (at + 1)) at ≡ v = below_listed vs (at + 1) (write m at v) at (omega arith) ∙ write_same m at v in
    let rest : bytes_at (length vs) (at + 1) (written (write m at v) (listed vs (at + 1))) ≡ vs = listed_there vs (at + 1) (write m at v) in
    cc

pub bytes_same : (n at : ℕ) (m k : Bytes) → ((b : ℕ) → at ≤ b → k b ≡ m b) → bytes_at n at k ≡ bytes_at n at m
bytes_same zero at m k same = refl
bytes_same (suc n) at m k same =
    let first : k at ≡ m at = same at (omega arith) in
    let rest : bytes_at n (at + 1) k ≡ bytes_at n (at + 1) m = bytes_same n (at + 1) m k (λ b h. same b (omega (arith, h))) in
    cc

-- ---- what states have in common

-- sp is lower by so many bytes, and what lay at it and above lies there still
pub record Sinks (n : ℕ) (t u : State) : Type 0 where
  pub sp : sp_of u + n ≡ sp_of t
  pub mem : (b : ℕ) → sp_of t ≤ b → u.mem b ≡ t.mem b
  pub pushed : u.pushed ≡ t.pushed
  pub frames : u.frames ≡ t.frames

-- and neither A nor regbank has changed
pub record Quiet (n : ℕ) (t u : State) : Type 0 where
  pub sinks : Sinks n t u
  pub a : u.regs.a ≡ t.regs.a
  pub bank : bank_of u ≡ bank_of t

pub sinks_same : (t : State) → Sinks 0 t t
sinks_same t = record { sp = omega arith; mem = λ b h. refl; pushed = refl; frames = refl }

pub sinks_then : {m n : ℕ} {t u v : State} → Sinks m t u → Sinks n u v → Sinks (m + n) t v
sinks_then p q = record {
  sp = omega (arith, p.sp, q.sp);
  mem = λ b h. q.mem b (omega (arith, p.sp, h)) ∙ p.mem b h;
  pushed = q.pushed ∙ p.pushed;
  frames = q.frames ∙ p.frames;
}

pub quiet_same : (t : State) → Quiet 0 t t
quiet_same t = record { sinks = sinks_same t; a = refl; bank = refl }

pub quiet_then : {m n : ℕ} {t u v : State} → Quiet m t u → Quiet n u v → Quiet (m + n) t v
quiet_then p q = record { sinks = sinks_then p.sinks q.sinks; a = q.a ∙ p.a; bank = q.bank ∙ p.bank }

-- sp is higher by so many bytes, and nothing else has changed but Y, the flags and what lies below it
pub record Lifts (n : ℕ) (t u : State) : Type 0 where
  pub sp : sp_of u ≡ sp_of t + n
  pub mem : (b : ℕ) → sp_of u ≤ b → u.mem b ≡ t.mem b
  pub pushed : u.pushed ≡ t.pushed
  pub frames : u.frames ≡ t.frames
  pub a : u.regs.a ≡ t.regs.a
  pub x : u.regs.x ≡ t.regs.x
  pub sreg : sreg_of u ≡ sreg_of t
  pub bank : bank_of u ≡ bank_of t

pub lifts_same : (t : State) → Lifts 0 t t
lifts_same t = record { sp = omega arith; mem = λ b h. refl; pushed = refl; frames = refl; a = refl; x = refl; sreg = refl; bank = refl }

pub lifts_then : {m n : ℕ} {t u v : State} → Lifts m t u → Lifts n u v → Lifts (m + n) t v
lifts_then p q = record {
  sp = omega (arith, p.sp, q.sp);
  mem = λ b h. q.mem b h ∙ p.mem b (omega (arith, q.sp, h));
  pushed = q.pushed ∙ p.pushed;
  frames = q.frames ∙ p.frames;
  a = q.a ∙ p.a;
  x = q.x ∙ p.x;
  sreg = q.sreg ∙ p.sreg;
  bank = q.bank ∙ p.bank;
}

-- ---- rows

pub bank_kept : (row : Row) (t u : State) → Meets row t u → has_part row.changes (Zp 20) ≡ false → has_part row.changes (Zp 21) ≡ false → has_part row.changes (Zp 22) ≡ false
    → has_part row.changes (Zp 23) ≡ false → has_part row.changes (Zp 24) ≡ false → has_part row.changes (Zp 25) ≡ false → bank_of u ≡ bank_of t
bank_kept row t u meets h0 h1 h2 h3 h4 h5 =
    let e0 : t.zp 20 ≡ u.zp 20 = meets.kept (Zp 20) h0 in
    let e1 : t.zp 21 ≡ u.zp 21 = meets.kept (Zp 21) h1 in
    let e2 : t.zp 22 ≡ u.zp 22 = meets.kept (Zp 22) h2 in
    let e3 : t.zp 23 ≡ u.zp 23 = meets.kept (Zp 23) h3 in
    let e4 : t.zp 24 ≡ u.zp 24 = meets.kept (Zp 24) h4 in
    let e5 : t.zp 25 ≡ u.zp 25 = meets.kept (Zp 25) h5 in
    cc

-- what is pushed stands at sp
pub record Pushes (bytes : List ℕ) (t u : State) : Type 0 where
  pub sinks : Sinks (length bytes) t u
  pub there : bytes_at (length bytes) (sp_of u) u.mem ≡ bytes

pushed_by : (row : Row) (bytes : List ℕ) (t u : State) → Meets row t u → row.sp ≡ sp_of t - length bytes → row.settled ≡ sp_of t - length bytes → row.writes ≡ listed bytes (sp_of t - length bytes) → length bytes ≤ sp_of t → Pushes bytes t u
pushed_by row bytes t u meets lower start writes fits =
    let at : ℕ = sp_of t - length bytes in
    let low : sp_of u ≡ at = meets.sp ∙ lower in
    let below : row.settled ≤ sp_of t = omega (arith, start) in
    let all : (b : ℕ) → row.settled ≤ b → u.mem b ≡ written t.mem (listed bytes at) b = λ b h. meets.mem b (inr (inr h)) ∙ ap (λ ws. written t.mem ws b) writes in
    record {
      sinks = record {
        sp = omega (arith, low, fits);
        mem = λ b h. all b (omega (arith, below, h)) ∙ above_listed bytes at t.mem b (omega (arith, h, fits));
        pushed = meets.pushed;
        frames = meets.frames;
      };
      there = ap (λ (k : ℕ). bytes_at (length bytes) k u.mem) low ∙ (bytes_same (length bytes) at (written t.mem (listed bytes at)) u.mem (λ b h. all b (omega (arith, start, h))) ∙ listed_there bytes at t.mem);
    }

pub pushes_a : (s : Setting) (p q : Place) (t u : State) → IsCalm s t → Moves s (Call (Routine routines.PushA)) p t q u → Pushes (t.regs.a ∷ []) t u × Quiet 1 t u
pushes_a s p q t u calm m =
    let row : Row = push_row routines.PushA (t.regs.a ∷ []) t in
    let meets : Meets row t u = m.goes.1 in
    let pushes : Pushes (t.regs.a ∷ []) t u = pushed_by row (t.regs.a ∷ []) t u meets refl refl refl (omega (arith, calm.low)) in
    (pushes, record { sinks = pushes.sinks; a = meets.a; bank = bank_kept row t u meets refl refl refl refl refl refl })

pub pushes_ax : (s : Setting) (p q : Place) (t u : State) → IsCalm s t → Moves s (Call (Routine routines.PushAx)) p t q u → Quiet 2 t u
pushes_ax s p q t u calm m =
    let bytes : List ℕ = t.regs.a ∷ t.regs.x ∷ [] in
    let row : Row = push_row routines.PushAx bytes t in
    let meets : Meets row t u = m.goes.1 in
    let pushes : Pushes bytes t u = pushed_by row bytes t u meets refl refl refl (omega (arith, calm.low)) in
    record { sinks = pushes.sinks; a = meets.a; bank = bank_kept row t u meets refl refl refl refl refl refl }

pub pushes_eax : (s : Setting) (p q : Place) (t u : State) → IsCalm s t → Moves s (Call (Routine routines.PushEax)) p t q u → Quiet 4 t u
pushes_eax s p q t u calm m =
    let bytes : List ℕ = t.regs.a ∷ t.regs.x ∷ t.zp 2 ∷ t.zp 3 ∷ [] in
    let row : Row = push_row routines.PushEax bytes t in
    let meets : Meets row t u = m.goes.1 in
    let pushes : Pushes bytes t u = pushed_by row bytes t u meets refl refl refl (omega (arith, calm.low)) in
    record { sinks = pushes.sinks; a = meets.a; bank = bank_kept row t u meets refl refl refl refl refl refl }

-- regbank is pushed, and stays
pub saves : (s : Setting) (p q : Place) (t u : State) → IsCalm s t → Moves s (Call (Routine routines.SaveRegs)) p t q u → Pushes (bank_of t) t u × Quiet 6 t u
saves s p q t u calm m =
    let row : Row = push_row routines.SaveRegs (bank_of t) t in
    let meets : Meets (record row { cost = 256 }) t u = m.goes.1 in
    let pushes : Pushes (bank_of t) t u = pushed_by (record row { cost = 256 }) (bank_of t) t u meets refl refl refl (omega (arith, calm.low)) in
    (pushes, record { sinks = pushes.sinks; a = meets.a; bank = bank_kept (record row { cost = 256 }) t u meets refl refl refl refl refl refl })

pub lowers : (count : Count) (s : Setting) (p q : Place) (t u : State) → number_of count ≤ sp_of t → Moves s (Call (Routine (routines.DecSp count))) p t q u → Quiet (number_of count) t u
lowers count s p q t u fits m =
    let row : Row = sp_row (routines.DecSp count) (sp_of t - number_of count) t in
    let meets : Meets row t u = m.goes.1 in
    record {
      sinks = record { sp = omega (arith, meets.sp, fits); mem = λ b h. meets.mem b (inr (inl h)); pushed = meets.pushed; frames = meets.frames };
      a = meets.a;
      bank = bank_kept row t u meets refl refl refl refl refl refl;
    }

pub lowers_y : (s : Setting) (p q : Place) (t u : State) → t.regs.y ≤ sp_of t → Moves s (Call (Routine routines.SubYSp)) p t q u → Quiet t.regs.y t u
lowers_y s p q t u fits m =
    let row : Row = record (sp_row routines.SubYSp (sp_of t - t.regs.y) t) { room = max 64 t.regs.y } in
    let meets : Meets row t u = m.goes.1 in
    record {
      sinks = record { sp = omega (arith, meets.sp, fits); mem = λ b h. meets.mem b (inr (inl h)); pushed = meets.pushed; frames = meets.frames };
      a = meets.a;
      bank = bank_kept row t u meets refl refl refl refl refl refl;
    }

pub lifts_some : (count : Count) (s : Setting) (p q : Place) (t u : State) → Moves s (Call (Routine (routines.IncSp count))) p t q u → Lifts (number_of count) t u
lifts_some count s p q t u m =
    let row : Row = sp_row (routines.IncSp count) (sp_of t + number_of count) t in
    let meets : Meets row t u = m.goes.1 in
    record {
      sp = meets.sp;
      mem = λ b h. meets.mem b (inr (inr (omega (arith, meets.sp, h))));
      pushed = meets.pushed;
      frames = meets.frames;
      a = meets.a;
      x = meets.x;
      sreg = meets.sreg;
      bank = bank_kept row t u meets refl refl refl refl refl refl;
    }

-- what is calm behind it has not gone round
pub lifts_y : (s : Setting) (p q : Place) (t u : State) → IsCalm s t → IsCalm s u → Moves s (Call (Routine routines.AddYSp)) p t q u → Lifts t.regs.y t u
lifts_y s p q t u calm after m =
    let row : Row = sp_row routines.AddYSp ((sp_of t + t.regs.y) % 65536) t in
    let meets : Meets row t u = m.goes.1 in
    let y : t.regs.y < 256 = calm.bytes.y in
    record {
      sp = omega (arith, meets.sp, y, calm.low, calm.high, after.low, after.high);
      mem = λ b h. meets.mem b (inr (inr (omega (arith, meets.sp, h))));
      pushed = meets.pushed;
      frames = meets.frames;
      a = meets.a;
      x = meets.x;
      sreg = meets.sreg;
      bank = bank_kept row t u meets refl refl refl refl refl refl;
    }

-- regbank is what stands at sp
pub record Restores (t u : State) : Type 0 where
  pub sp : sp_of u ≡ sp_of t + 6
  pub mem : (b : ℕ) → sp_of u ≤ b → u.mem b ≡ t.mem b
  pub pushed : u.pushed ≡ t.pushed
  pub frames : u.frames ≡ t.frames
  pub a : u.regs.a ≡ t.regs.a
  pub x : u.regs.x ≡ t.regs.x
  pub sreg : sreg_of u ≡ sreg_of t
  pub bank : bank_of u ≡ bytes_at 6 (sp_of t) t.mem

pub restores : (s : Setting) (p q : Place) (t u : State) → Moves s (Call (Routine routines.RestRegs)) p t q u → Restores t u
restores s p q t u m =
    let meets = m.goes.1 in
    record {
      sp = meets.sp;
      mem = λ b h. meets.mem b (inr (inr (omega (arith, meets.sp, h))));
      pushed = meets.pushed;
      frames = meets.frames;
      a = meets.a;
      x = meets.x;
      sreg = meets.sreg;
      bank = let bytes = meets.bank in cc;
    }
