-- The operators on the primary register alone.
use Rattle.std.proofs.Common.{◌≡◌, ℕ, ◌==◌, Bool, true, false, if◌then◌else◌, [], ◌∷◌, None, refl, sym, subst, ◌∙◌, arith}
use Rattle.std.proofs.lemmas.Bool.{eqb-true}
use Rattle.std.proofs.lemmas.List.{append-nil}
use Rattle.c65_mach.specs.Step.{Stores, Changes, Reads}
use Rattle.c65_mach.specs.declared.rows.Op.{Op}
use Rattle.c65_mach.specs.declared.rows.Op.TheVariants as ops
use Rattle.c65_mach.specs.declared.rows.Mode.TheVariants.{ZeroPage}
use Rattle.c65_code.specs.declared.line.Operand.TheVariants.{Zero}
use Rattle.c65_code.specs.declared.parts.Part.{Part}
use Rattle.c65_code.specs.declared.parts.Part.TheVariants as parts
use Rattle.c65_code.specs.declared.routine.Routine.TheVariants as routines
use Rattle.c65_code.specs.declared.routine.UnaryRoutine.{UnaryRoutine}
use Rattle.c65_code.specs.declared.routine.UnaryRoutine.TheVariants.{Neg, Compl, Shl1, Shr1, Asr1}
use Rattle.c65_code.specs.declared.routine.Width.TheVariants.{Ax}
use Rattle.c65_code.specs.Effects.{large}
use Rattle.c65_code.specs.LineState.{Bytes, write, State, sp_of, Same, IsBytes}
use Rattle.c65_code.specs.Moves.{MeetsRow}
use Rattle.c65_code.specs.Parts.{has_part}
use Rattle.c65_code.specs.Placement.{Setting}
use Rattle.c65_code.specs.Rows.{Meets, giving, costing, row_by, row_of}
use Rattle.c65_pass.specs.LibraryRules.{with_byte, on_tmp1, on_a}
use Rattle.c65_pass.specs.Registers.{alone}
use Rattle.c65_opt_law_opened.proofs.Bytes.{IsWord, negated, complemented, doubled, halved, signed_halved}
use Rattle.c65_opt_law_opened.proofs.Leads.{Passable, IsPassedTo, registers, number, accumulator}

-- ---- the row

-- a state that differs from another one in registers and tmp1 at most
pub record DiffersHere (t u : State) : Type 0 where
  pub zp : (i : ℕ) → (i ≡ 16 → ⊥) → t.zp i ≡ u.zp i
  pub mem : u.mem ≡ t.mem
  pub pushed : u.pushed ≡ t.pushed
  pub frames : u.frames ≡ t.frames
  pub input : u.input ≡ t.input
  pub output : u.output ≡ t.output
  pub ended : u.ended ≡ t.ended

-- a part that no such operator changes
tmp1_changes : (i : ℕ) → has_part large (parts.Zp i) ≡ false → i ≡ 16 → ⊥
tmp1_changes i h e = let here : true ≡ false = subst (λ (j : ℕ). has_part large (parts.Zp j) ≡ false) e h in cc

pub word_meets : (op : UnaryRoutine) (value : ℕ) (t u : State) → t.ended ≡ None → DiffersHere t u → IsWord u.regs.a u.regs.x value → Meets (giving Ax value (costing 256 (row_by (routines.Unary op Ax) t))) t u
word_meets op value t u running d word = record {
  sp = sp;
  a = word.low_is;
  x = word.high_is;
  sreg = tt;
  pointers = tt;
  bank = tt;
  kept = kept;
  high = λ i h. d.zp i (λ e. omega (arith, e, h));
  mem = λ b h. subst (λ (m : Bytes). m b ≡ t.mem b) (sym d.mem) refl;
  pushed = d.pushed;
  frames = d.frames;
  input = d.input;
  output = d.output ∙ sym (append-nil t.output);
  ended = d.ended ∙ running;
}
  where
    sp : sp_of u ≡ sp_of t
    sp = let low : t.zp 0 ≡ u.zp 0 = d.zp 0 (λ e. omega (arith, e)) in let high : t.zp 1 ≡ u.zp 1 = d.zp 1 (λ e. omega (arith, e)) in omega arith

    kept : (p : Part) → has_part large p ≡ false → Same p t u
    kept (parts.Zp i) h = d.zp i (tmp1_changes i h)
    kept _ h = absurd (let e : true ≡ false = h in cc)

-- ---- tmp1

written_other : (m : Bytes) (v i : ℕ) → (i ≡ 16 → ⊥) → m i ≡ write m 16 v i
written_other m v i other = pick (i == 16) refl
  where
    pick : (b : Bool) → (i == 16) ≡ b → m i ≡ (if b then v else m i)
    pick true e = absurd (other (eqb-true i 16 e))
    pick false e = refl

twice_other : (m : Bytes) (v w i : ℕ) → (i ≡ 16 → ⊥) → m i ≡ write (write m 16 v) 16 w i
twice_other m v w i other = written_other m v i other ∙ written_other (write m 16 v) w i other

-- ---- operations on tmp1

module _ (s : Setting) where
  stored_there : (t : State) → Passable s Stores ops.Stx ZeroPage (Zero 16) t
  stored_there t = record { form = refl; allowed = (omega arith, λ h. omega arith); sp = refl; depth = refl; constant = λ b v e h. h }

  changed_there : (op : Op) (t : State) → Passable s Changes op ZeroPage (Zero 16) t
  changed_there op t = record { form = refl; allowed = (omega arith, λ h. omega arith); sp = refl; depth = refl; constant = λ b v e h. h }

  loaded_there : (t : State) → Passable s Reads ops.Ldx ZeroPage (Zero 16) t
  loaded_there t = record { form = refl; allowed = (omega arith, λ h. omega arith); sp = refl; depth = refl; constant = λ b v e h. h }

-- ---- the lines

module _ (s : Setting) (t : State) (bytes : IsBytes t) (running : t.ended ≡ None) where
  pub negates : IsPassedTo s (alone ops.Clc ∷ with_byte ops.Eor 255 ∷ with_byte ops.Adc 1 ∷ alone ops.Tay ∷ alone ops.Txa ∷ with_byte ops.Eor 255 ∷ with_byte ops.Adc 0 ∷ alone ops.Tax ∷ alone ops.Tya ∷ []) t (MeetsRow (row_of (routines.Unary Neg Ax) t) t)
  negates = record {
    few = omega arith;
    passable = (registers s ops.Clc _, (number s ops.Eor 255 _, (number s ops.Adc 1 _, (registers s ops.Tay _, (registers s ops.Txa _, (number s ops.Eor 255 _, (number s ops.Adc 0 _, (registers s ops.Tax _, (registers s ops.Tya _, tt)))))))));
    holds = word_meets Neg _ t _ running (record { zp = λ i h. refl; mem = refl; pushed = refl; frames = refl; input = refl; output = refl; ended = refl }) (negated t.regs.a t.regs.x bytes.a bytes.x);
  }

  pub complements : IsPassedTo s (with_byte ops.Eor 255 ∷ alone ops.Tay ∷ alone ops.Txa ∷ with_byte ops.Eor 255 ∷ alone ops.Tax ∷ alone ops.Tya ∷ []) t (MeetsRow (row_of (routines.Unary Compl Ax) t) t)
  complements = record {
    few = omega arith;
    passable = (number s ops.Eor 255 _, (registers s ops.Tay _, (registers s ops.Txa _, (number s ops.Eor 255 _, (registers s ops.Tax _, (registers s ops.Tya _, tt))))));
    holds = word_meets Compl _ t _ running (record { zp = λ i h. refl; mem = refl; pushed = refl; frames = refl; input = refl; output = refl; ended = refl }) (complemented t.regs.a t.regs.x bytes.a bytes.x);
  }

  pub doubles : IsPassedTo s (on_tmp1 ops.Stx ∷ on_a ops.Asl ∷ on_tmp1 ops.Rol ∷ on_tmp1 ops.Ldx ∷ []) t (MeetsRow (row_of (routines.Unary Shl1 Ax) t) t)
  doubles = record {
    few = omega arith;
    passable = (stored_there s _, (accumulator s ops.Asl _, (changed_there s ops.Rol _, (loaded_there s _, tt))));
    holds = word_meets Shl1 _ t _ running (record { zp = λ i h. twice_other t.zp _ _ i h; mem = refl; pushed = refl; frames = refl; input = refl; output = refl; ended = refl }) (doubled t.regs.a t.regs.x bytes.a bytes.x);
  }

  pub halves : IsPassedTo s (on_tmp1 ops.Stx ∷ on_tmp1 ops.Lsr ∷ on_a ops.Ror ∷ on_tmp1 ops.Ldx ∷ []) t (MeetsRow (row_of (routines.Unary Shr1 Ax) t) t)
  halves = record {
    few = omega arith;
    passable = (stored_there s _, (changed_there s ops.Lsr _, (accumulator s ops.Ror _, (loaded_there s _, tt))));
    holds = word_meets Shr1 _ t _ running (record { zp = λ i h. twice_other t.zp _ _ i h; mem = refl; pushed = refl; frames = refl; input = refl; output = refl; ended = refl }) (halved t.regs.a t.regs.x bytes.a bytes.x);
  }

  pub signed_halves : IsPassedTo s (with_byte ops.Cpx 128 ∷ on_tmp1 ops.Stx ∷ on_tmp1 ops.Ror ∷ on_a ops.Ror ∷ on_tmp1 ops.Ldx ∷ []) t (MeetsRow (row_of (routines.Unary Asr1 Ax) t) t)
  signed_halves = record {
    few = omega arith;
    passable = (number s ops.Cpx 128 _, (stored_there s _, (changed_there s ops.Ror _, (accumulator s ops.Ror _, (loaded_there s _, tt)))));
    holds = word_meets Asr1 _ t _ running (record { zp = λ i h. twice_other t.zp _ _ i h; mem = refl; pushed = refl; frames = refl; input = refl; output = refl; ended = refl }) (signed_halved t.regs.a t.regs.x bytes.a bytes.x);
  }
