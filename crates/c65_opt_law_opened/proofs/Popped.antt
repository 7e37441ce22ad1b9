-- Behind a routine that pops, memory is as it was but for the free bytes of the software stack.
use Rattle.std.proofs.Common.{◌≡◌, ℕ, ◌+◌, ◌-◌, ◌<◌, ◌≤◌, ◌==◌, ◌⊎◌, inl, inr, Bool, true, false, if◌then◌else◌, length, List, ◌∷◌, max, refl, sym, subst, ◌∙◌, arith}
use Rattle.std.specs.Prelude.{sum_by}
use Rattle.std.proofs.lemmas.Bool.{eqb-true}
use Rattle.c65_mach.specs.Step.{Stores, Reads, after, stored}
use Rattle.c65_mach.specs.declared.rows.Op.{Op}
use Rattle.c65_mach.specs.declared.rows.Mode.TheVariants.{ZeroPage, IndirectY}
use Rattle.c65_code.proofs.PartLaws.{within_iff}
use Rattle.c65_code.specs.declared.line.Line.{Line}
use Rattle.c65_code.specs.declared.line.Operand.TheVariants.{Zero}
use Rattle.c65_code.specs.declared.parts.Part.{Part}
use Rattle.c65_code.specs.declared.parts.RegSet.{RegSet}
use Rattle.c65_code.specs.declared.routine.Routine.{Routine}
use Rattle.c65_code.specs.LineState.{Bytes, write, Frame, State, zero_word, sp_of, s_of, IsBytes}
use Rattle.c65_code.specs.Moves.{MeetsRow}
use Rattle.c65_code.specs.Parts.{has_part, minus_of, no_parts}
use Rattle.c65_code.specs.Placement.{Placement, Setting, stack_start, stack_end}
use Rattle.c65_code.specs.Rows.{row_of}
use Rattle.c65_code.specs.Steady.{IsCalm, IsOpen, RowHasRoom}
use Rattle.c65_code.specs.Weights.{row_cost}
use Rattle.c65_pass.specs.StackRules.{call_of}
use Rattle.c65_opt_law_near.specs.Laws.{IsLow}
use Rattle.c65_opt_law_follow.specs.Windows.{IsSilent}
use Rattle.c65_opt_law_opened.proofs.Leads.{Passable, Leads}

-- a part that a set leaves out is in no set within it
pub left_out : (s t : RegSet) (p : Part) → minus_of s t ≡ no_parts → has_part t p ≡ false → has_part s p ≡ false
left_out s t p e out = pick (has_part s p) refl
  where
    pick : (b : Bool) → has_part s p ≡ b → b ≡ false
    pick true h = let there : has_part t p ≡ true = (within_iff s t).0 e p h in absurd (let wrong : true ≡ false = sym there ∙ out in cc)
    pick false h = refl

pub write_other : (m : Bytes) (i v j : ℕ) → (j ≡ i → ⊥) → write m i v j ≡ m j
write_other m i v j other = pick (j == i) refl
  where
    pick : (b : Bool) → (j == i) ≡ b → (if b then v else m j) ≡ m j
    pick true e = absurd (other (eqb-true j i e))
    pick false e = refl

-- ---- addresses

-- an address outside the free bytes of the software stack
abbrev pub IsUsed : State → ℕ → Type 0
IsUsed t b = (b < stack_start) ⊎ (sp_of t ≤ b)

pub open_used : (place : Placement) (t : State) (k b : ℕ) → IsLow place → IsOpen place (max (sp_of t) (sp_of t + k)) b → IsUsed t b
open_used place t k b low (inl h) = inl (low.data_below b h)
open_used place t k b low (inr h) = inr (omega (arith, h.0))

pub open_below : (place : Placement) (bound b : ℕ) → IsLow place → IsOpen place bound b → b < stack_end
open_below place bound b low (inl h) = let below : b < stack_start = low.data_below b h in omega (arith, below)
open_below place bound b low (inr h) = h.1

pub open_at : (place : Placement) (t : State) (k at b : ℕ) → IsLow place → sp_of t + k ≡ at → IsOpen place (max (sp_of t) (sp_of t + k)) b → IsOpen place at b
open_at place t k at b low e (inl h) = inl h
open_at place t k at b low e (inr h) = inr (omega (arith, h.0, e), h.1)

-- ---- the state behind

-- what such a state has of the one before
pub record IsPopped (t m : State) (k : ℕ) : Type 0 where
  pub sp : sp_of m ≡ sp_of t + k
  pub mem : (b : ℕ) → IsUsed t b → m.mem b ≡ t.mem b
  pub pushed : m.pushed ≡ t.pushed
  pub frames : m.frames ≡ t.frames

module _ (s : Setting) (low : IsLow s.place) where
  pub popped_calm : (t m : State) (k : ℕ) → IsCalm s t → IsPopped t m k → sp_of t + k ≤ stack_end → IsBytes m → IsCalm s m
  popped_calm t m k calm popped top bytes = record {
    low = omega (arith, calm.low, popped.sp);
    high = omega (arith, popped.sp, top);
    hard = subst (λ (n : ℕ). 3 ≤ n) (sym depth) calm.hard;
    constant = λ b v e. popped.mem b (inl (low.constant_below b v e)) ∙ calm.constant b v e;
    bytes = bytes;
  }
    where
      depth : s_of m ≡ s_of t
      depth = subst (λ pushed. 253 - (length pushed + sum_by (λ (f : Frame). 2 + length f.pushed) m.frames) ≡ s_of t) (sym popped.pushed)
          (subst (λ frames. 253 - (length t.pushed + sum_by (λ (f : Frame). 2 + length f.pushed) frames) ≡ s_of t) (sym popped.frames) refl)

  -- a call, and then other lines
  pub leads_call : (P : State → Type 0) (r : Routine) (lines : List Line) (w : ℕ) (t : State) → IsSilent r → IsCalm s t → RowHasRoom s.place (row_of r t) t
      → ((m : State) → MeetsRow (row_of r t) t m → IsBytes m → Leads s P lines w m) → Leads s P (call_of r ∷ lines) (row_cost (row_of r t) + w) t
  leads_call P r lines w t silent calm room on = record { passed = silent; steady = record { calm = calm; within = room }; rest = w; enough = omega arith; next = on }

-- ---- operations on the zero page, and through a pointer there

module _ (s : Setting) where
  pub stored_zero : (op : Op) (i : ℕ) (t : State) → 2 ≤ i → i < 256 → Passable s Stores op ZeroPage (Zero i) t
  stored_zero op i t two less = record { form = refl; allowed = (less, λ h. two); sp = same; depth = refl; constant = λ b v e h. h }
    where
      same : sp_of (record t { zp = write t.zp i (stored op t.regs) }) ≡ sp_of t
      same = let first = write_other t.zp i (stored op t.regs) 0 (λ e. omega (arith, e, two)) in let second = write_other t.zp i (stored op t.regs) 1 (λ e. omega (arith, e, two)) in omega (arith, first, second)

  pub loaded_zero : (op : Op) (i : ℕ) (t : State) → i < 256 → Passable s Reads op ZeroPage (Zero i) t
  loaded_zero op i t less = record { form = refl; allowed = (less, λ h. absurd h); sp = refl; depth = refl; constant = λ b v e h. h }

  pub loaded_through : (op : Op) (i : ℕ) (t : State) (b : ℕ) → IsOpen s.place (sp_of t) b → after (zero_word t i) t.regs.y ≡ b → Passable s Reads op IndirectY (Zero i) t
  loaded_through op i t b h e = record { form = refl; allowed = subst (IsOpen s.place (sp_of t)) (sym e) h; sp = refl; depth = refl; constant = λ b v e h. h }
