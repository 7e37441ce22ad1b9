-- Routines that do what a load and another routine do.
use Rattle.std.proofs.Common.{◌≡◌, ℕ, zero, ◌+◌, ◌-◌, ◌*◌, ◌/◌, ◌%◌, ◌<◌, ◌≤◌, ◌⊎◌, inl, inr, true, false, [], ◌∷◌, All, max, min, refl, sym, subst, ap, ◌∙◌, arith}
use Rattle.std.proofs.lemmas.List.Elements.{All-nil}
use Rattle.c65_mach.specs.Step.{with_a, with_x, with_y}
use Rattle.c65_code.specs.declared.parts.Part.{Part}
use Rattle.c65_code.specs.declared.parts.Part.TheVariants as parts
use Rattle.c65_code.specs.declared.routine.Count.{Count}
use Rattle.c65_code.specs.declared.routine.Routine.TheVariants as routines
use Rattle.c65_code.specs.Effects.{routine_sets}
use Rattle.c65_code.specs.LineState.{State, sp_of, Same, IsBytes}
use Rattle.c65_code.specs.Moves.{MeetsRow}
use Rattle.c65_code.specs.Parts.{has_part}
use Rattle.c65_code.specs.Placement.{Placement}
use Rattle.c65_code.specs.Rows.{written, number_of, row_of}
use Rattle.c65_code.specs.Steady.{IsOpen, RowHasRoom}
use Rattle.c65_code.specs.Texts.{range_of, listed}
use Rattle.c65_opt_law_stack.proofs.Windows.{Serves}

abbrev pub a_loaded : ℕ → State → State
a_loaded v t = record t { regs = with_a v t.regs }

abbrev pub x_loaded : ℕ → State → State
x_loaded v t = record t { regs = with_x v t.regs }

abbrev pub y_loaded : ℕ → State → State
y_loaded v t = record t { regs = with_y v t.regs }

pub a_bytes : (v : ℕ) (t : State) → v < 256 → IsBytes t → IsBytes (a_loaded v t)
a_bytes v t h b = record { a = h; x = b.x; y = b.y; zp = b.zp; mem = b.mem; pushed = b.pushed; frames = b.frames }

pub x_bytes : (v : ℕ) (t : State) → v < 256 → IsBytes t → IsBytes (x_loaded v t)
x_bytes v t h b = record { a = b.a; x = h; y = b.y; zp = b.zp; mem = b.mem; pushed = b.pushed; frames = b.frames }

pub y_bytes : (v : ℕ) (t : State) → v < 256 → IsBytes t → IsBytes (y_loaded v t)
y_bytes v t h b = record { a = b.a; x = b.x; y = h; zp = b.zp; mem = b.mem; pushed = b.pushed; frames = b.frames }

module _ (place : Placement) (t : State) where
  -- ---- zero pushed

  pub pusha0_serves : RowHasRoom place (row_of routines.PushAx (x_loaded 0 t)) (x_loaded 0 t) → Serves place routines.PushAx routines.PushA0 (x_loaded 0 t) t
  pusha0_serves room = record {
    room = record { ready = refl; soft = room.soft; hard = room.hard; near = room.near; far = room.far };
    cost = omega arith;
    meets = λ u m b. record { sp = m.sp; a = m.a; x = m.x; sreg = m.sreg; pointers = tt; bank = tt; kept = kept u m; high = m.high; mem = m.mem; pushed = m.pushed; frames = m.frames; input = m.input; output = m.output; ended = m.ended };
  }
    where
      kept : (u : State) → MeetsRow (row_of routines.PushA0 t) t u → (p : Part) → has_part (routine_sets routines.PushAx) p ≡ false → Same p (x_loaded 0 t) u
      kept u m parts.A h = sym m.a
      kept u m parts.X h = sym m.x
      kept u m (parts.Zp i) h = m.kept (parts.Zp i) h
      kept u m _ h = absurd (let e : true ≡ false = h in cc)

  pub push0_serves : RowHasRoom place (row_of routines.PushA0 (a_loaded 0 t)) (a_loaded 0 t) → Serves place routines.PushA0 routines.Push0 (a_loaded 0 t) t
  push0_serves room = record {
    room = record { ready = refl; soft = room.soft; hard = room.hard; near = room.near; far = room.far };
    cost = omega arith;
    meets = λ u m b. record { sp = m.sp; a = m.a; x = m.x; sreg = m.sreg; pointers = tt; bank = tt; kept = kept u m; high = m.high; mem = m.mem; pushed = m.pushed; frames = m.frames; input = m.input; output = m.output; ended = m.ended };
  }
    where
      kept : (u : State) → MeetsRow (row_of routines.Push0 t) t u → (p : Part) → has_part (routine_sets routines.PushA0) p ≡ false → Same p (a_loaded 0 t) u
      kept u m parts.A h = sym m.a
      kept u m (parts.Zp i) h = m.kept (parts.Zp i) h
      kept u m _ h = absurd (let e : true ≡ false = h in cc)

  -- ---- the word at sp

  pub ldax0sp_serves : RowHasRoom place (row_of routines.LdAxYSp (y_loaded 1 t)) (y_loaded 1 t) → Serves place routines.LdAxYSp routines.LdAx0Sp (y_loaded 1 t) t
  ldax0sp_serves room = record {
    room = record { ready = refl; soft = room.soft; hard = room.hard; near = subst (λ (n : ℕ). All (IsOpen place (min (sp_of t) (sp_of t))) (range_of 2 n)) at room.near; far = room.far };
    cost = omega arith;
    meets = λ u m b. record {
      sp = m.sp;
      a = subst (λ (n : ℕ). u.regs.a ≡ (t.mem n + 256 * t.mem (n + 1)) % 256) (sym at) m.a;
      x = subst (λ (n : ℕ). u.regs.x ≡ (t.mem n + 256 * t.mem (n + 1)) / 256 % 256) (sym at) m.x;
      sreg = m.sreg;
      pointers = tt;
      bank = tt;
      kept = kept u m;
      high = m.high;
      mem = m.mem;
      pushed = m.pushed;
      frames = m.frames;
      input = m.input;
      output = m.output;
      ended = m.ended;
    };
  }
    where
      at : sp_of t + 1 - 1 ≡ sp_of t
      at = omega arith

      kept : (u : State) → MeetsRow (row_of routines.LdAx0Sp t) t u → (p : Part) → has_part (routine_sets routines.LdAxYSp) p ≡ false → Same p (y_loaded 1 t) u
      kept u m (parts.Zp i) h = m.kept (parts.Zp i) h
      kept u m _ h = absurd (let e : true ≡ false = h in cc)

  pub stax0sp_serves : RowHasRoom place (row_of routines.StAxYSp (y_loaded 0 t)) (y_loaded 0 t) → Serves place routines.StAxYSp routines.StAx0Sp (y_loaded 0 t) t
  stax0sp_serves room = record {
    room = record { ready = refl; soft = room.soft; hard = room.hard; near = subst (λ (n : ℕ). All (IsOpen place (min (sp_of t) (sp_of t))) (range_of 2 n)) at room.near; far = room.far };
    cost = omega arith;
    meets = λ u m b. record {
      sp = m.sp;
      a = m.a;
      x = m.x;
      sreg = m.sreg;
      pointers = tt;
      bank = tt;
      kept = kept u m;
      high = m.high;
      mem = λ i h. subst (λ (n : ℕ). u.mem i ≡ written t.mem (listed (t.regs.a ∷ t.regs.x ∷ []) n) i) (sym at) (m.mem i h);
      pushed = m.pushed;
      frames = m.frames;
      input = m.input;
      output = m.output;
      ended = m.ended;
    };
  }
    where
      at : sp_of t + 0 ≡ sp_of t
      at = omega arith

      kept : (u : State) → MeetsRow (row_of routines.StAx0Sp t) t u → (p : Part) → has_part (routine_sets routines.StAxYSp) p ≡ false → Same p (y_loaded 0 t) u
      kept u m parts.A h = m.kept parts.A h
      kept u m parts.X h = m.kept parts.X h
      kept u m (parts.Zp i) h = m.kept (parts.Zp i) h
      kept u m _ h = absurd (let e : true ≡ false = h in cc)

  -- ---- sp moved by a byte in Y

  module _ (count : Count) (v : ℕ) (same : number_of count ≡ v) where
    pub incsp_serves : RowHasRoom place (row_of routines.AddYSp (y_loaded v t)) (y_loaded v t) → Serves place routines.AddYSp (routines.IncSp count) (y_loaded v t) t
    incsp_serves room = record {
      room = record { ready = refl; soft = room.soft; hard = room.hard; near = All-nil (IsOpen place (min (sp_of t) (sp_of t + number_of count))); far = All-nil (IsOpen place (max (sp_of t) (sp_of t + number_of count))) };
      cost = omega arith;
      meets = λ u m b. record {
        sp = omega (arith, m.sp, same, b.zp 0, b.zp 1);
        a = m.a;
        x = m.x;
        sreg = m.sreg;
        pointers = tt;
        bank = tt;
        kept = kept u m;
        high = m.high;
        mem = m.mem;
        pushed = m.pushed;
        frames = m.frames;
        input = m.input;
        output = m.output;
        ended = m.ended;
      };
    }
      where
        kept : (u : State) → MeetsRow (row_of (routines.IncSp count) t) t u → (p : Part) → has_part (routine_sets routines.AddYSp) p ≡ false → Same p (y_loaded v t) u
        kept u m parts.A h = m.kept parts.A h
        kept u m parts.X h = m.kept parts.X h
        kept u m (parts.Zp i) h = m.kept (parts.Zp i) h
        kept u m _ h = absurd (let e : true ≡ false = h in cc)

    pub decsp_serves : RowHasRoom place (row_of routines.SubYSp (y_loaded v t)) (y_loaded v t) → Serves place routines.SubYSp (routines.DecSp count) (y_loaded v t) t
    decsp_serves room = record {
      room = record { ready = refl; soft = room.soft; hard = room.hard; near = All-nil (IsOpen place (min (sp_of t) (sp_of t - number_of count))); far = All-nil (IsOpen place (max (sp_of t) (sp_of t - number_of count))) };
      cost = omega arith;
      meets = λ u m b. record {
        sp = m.sp ∙ ap (λ (n : ℕ). sp_of t - n) same;
        a = m.a;
        x = m.x;
        sreg = m.sreg;
        pointers = tt;
        bank = tt;
        kept = kept u m;
        high = m.high;
        mem = λ b h. m.mem b (narrow b h);
        pushed = m.pushed;
        frames = m.frames;
        input = m.input;
        output = m.output;
        ended = m.ended;
      };
    }
      where
        narrow : (b : ℕ) → (b + max 64 v < sp_of t) ⊎ ((sp_of t ≤ b) ⊎ (sp_of t ≤ b)) → (b + 64 < sp_of t) ⊎ ((sp_of t ≤ b) ⊎ (sp_of t ≤ b))
        narrow b (inl h) = inl (omega (arith, h))
        narrow b (inr h) = inr h

        kept : (u : State) → MeetsRow (row_of (routines.DecSp count) t) t u → (p : Part) → has_part (routine_sets routines.SubYSp) p ≡ false → Same p (y_loaded v t) u
        kept u m parts.A h = m.kept parts.A h
        kept u m parts.X h = m.kept parts.X h
        kept u m (parts.Zp i) h = m.kept (parts.Zp i) h
        kept u m _ h = absurd (let e : true ≡ false = h in cc)
