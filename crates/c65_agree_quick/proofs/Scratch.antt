-- Lines that change registers and scratch bytes of the zero page alone.
use Rattle.std.proofs.Common.{◌≡◌, ℕ, ◌+◌, ◌<◌, ◌≤◌, ◌⊎◌, inl, inr, List, [], ◌∷◌, ◌++◌, length, refl, sym, ap, ◌∙◌, subst, arith}
use Rattle.c65_mach.specs.declared.rows.Op.{Op}
use Rattle.c65_mach.specs.declared.rows.Mode.{Mode}
use Rattle.c65_mach.specs.declared.rows.Mode.TheVariants.{Implied, Accumulator, Immediate, ZeroPage}
use Rattle.c65_mach.specs.State.{Regs}
use Rattle.c65_mach.specs.Step.{Kind, Reads, Stores, Changes, Registers, kind_of}
use Rattle.c65_meaning.specs.State.{Scene}
use Rattle.c65_code.specs.declared.line.Operand.{Operand}
use Rattle.c65_code.specs.declared.line.Operand.TheVariants.{Byte, Zero}
use Rattle.c65_code.specs.declared.line.Line.{Line}
use Rattle.c65_code.specs.declared.line.Line.TheVariants.{Do}
use Rattle.c65_code.specs.declared.routine.Width.{Width}
use Rattle.c65_code.specs.LineState.{write, State, IsBytes}
use Rattle.c65_code.specs.Placement.{IsPlacement, word_of}
use Rattle.c65_code.specs.Forms.{Plain, op_form}
use Rattle.c65_code.specs.Rows.{primary_of}
use Rattle.c65_code.specs.Moves.{ref_of, effect}
use Rattle.c65_code.specs.Steady.{IsAllowed}
use Rattle.c65_code.specs.LineLaws.{IsGivenByte}
use Rattle.c65_agree_store.specs.Stands.{Placing, Banks}
use Rattle.c65_agree_state.specs.World.{World, Active}
use Rattle.c65_agree_state.specs.Exprs.{Ready, Kept}
use Rattle.c65_agree_state.proofs.Nodes.{ready_stays}
use Rattle.c65_agree_state.proofs.Parts.{kept_goes_on}
use Rattle.c65_agree_rows.proofs.Quiet.{write_other}
use Rattle.c65_agree_frame.specs.Leads.{Leads}
use Rattle.c65_agree_frame.proofs.Leads.{after_lines, IsKept, kept_regs, kept_zero, AreSafe, lines_lead, leads_then, leads_as}
use Rattle.c65_agree_load.proofs.Kept.{is_on, kept_later}
use Rattle.c65_agree_quick.specs.Laws.{IsNow}

-- ---- one line

-- bytes that any lines may change: above sp and below regbank
abbrev pub IsScratchByte : ℕ → Type 0
IsScratchByte i = (2 ≤ i) × (i < 20)

abbrev pub IsScratch : Kind → Mode → Operand → Type 0
IsScratch Registers Implied operand = Unit {0}
IsScratch Changes Accumulator operand = Unit {0}
IsScratch Reads Immediate (Byte v) = v < 256
IsScratch Reads ZeroPage (Zero i) = i < 256
IsScratch Stores ZeroPage (Zero i) = IsScratchByte i
IsScratch Changes ZeroPage (Zero i) = IsScratchByte i
IsScratch _ _ _ = ⊥

-- nothing else is other
pub record IsOther (t u : State) : Type 0 where
  pub only : u ≡ record t { regs = u.regs; zp = u.zp }
  pub others : (i : ℕ) → (i < 2) ⊎ (20 ≤ i) → u.zp i ≡ t.zp i

pub none_other : (t : State) → IsOther t t
none_other t = record { only = refl; others = λ i h. refl }

pub other_then : (t u v : State) → IsOther t u → IsOther u v → IsOther t v
other_then t u v x y = record { only = y.only ∙ ap (λ (s : State). record s { regs = v.regs; zp = v.zp }) x.only; others = λ i h. y.others i h ∙ x.others i h }

-- a line that is safe, and what it leaves
record IsFine (g : World) (op : Op) (kind : Kind) (mode : Mode) (operand : Operand) (t : State) : Type 0 where
  plain : op_form kind op mode operand ≡ Plain op mode operand
  allowed : IsAllowed g.place kind (ref_of mode (word_of g.place operand) t) t
  given : IsGivenByte (ref_of mode (word_of g.place operand) t)
  kept : IsKept t (effect kind op mode (word_of g.place operand) t)
  other : IsOther t (effect kind op mode (word_of g.place operand) t)

regs_other : (t : State) (s : Regs) → IsOther t (record t { regs = s })
regs_other t s = record { only = refl; others = λ i h. refl }

zero_other : (t : State) (s : Regs) (i v : ℕ) → IsScratchByte i → IsOther t (record t { regs = s; zp = write t.zp i v })
zero_other t s i v own = record { only = refl; others = λ j h. write_other t.zp i v j (apart j h) }
  where
    apart : (j : ℕ) → (j < 2) ⊎ (20 ≤ j) → j ≡ i → ⊥
    apart j (inl h) e = omega (arith, own.0, h, e)
    apart j (inr h) e = omega (arith, own.1, h, e)

kept_other : (t : State) (s : Regs) (i v : ℕ) → IsScratchByte i → IsKept t (record t { regs = s; zp = write t.zp i v })
kept_other t s i v own = let k = kept_zero t i v own.0 in record { sp = k.sp; low = k.low; pushed = refl; frames = refl; ended = refl }

is_fine : (g : World) (op : Op) (kind : Kind) (mode : Mode) (operand : Operand) (t : State) → IsScratch kind mode operand → IsFine g op kind mode operand t
is_fine g op Registers Implied operand t h = record { plain = refl; allowed = tt; given = omega arith; kept = kept_regs t _; other = regs_other t _ }
is_fine g op Changes Accumulator operand t h = record { plain = refl; allowed = tt; given = omega arith; kept = kept_regs t _; other = regs_other t _ }
is_fine g op Reads Immediate (Byte v) t h = record { plain = refl; allowed = tt; given = h; kept = kept_regs t _; other = regs_other t _ }
is_fine g op Reads ZeroPage (Zero i) t h = record { plain = refl; allowed = (h, λ w. absurd w); given = tt; kept = kept_regs t _; other = regs_other t _ }
is_fine g op Stores ZeroPage (Zero i) t h = record { plain = refl; allowed = (omega (arith, h.1), λ w. h.0); given = tt; kept = kept_other t t.regs i _ h; other = zero_other t t.regs i _ h }
is_fine g op Changes ZeroPage (Zero i) t h = record { plain = refl; allowed = (omega (arith, h.1), λ w. h.0); given = tt; kept = kept_other t _ i _ h; other = zero_other t _ i _ h }
is_fine g op _ _ _ t h = absurd h

-- ---- lines one behind another

abbrev pub AreScratch : List Line → Type 0
AreScratch [] = Unit {0}
AreScratch (Do op mode operand ∷ ls) = IsScratch (kind_of op) mode operand × AreScratch ls
AreScratch _ = ⊥

pub scratch_append : (xs ys : List Line) → AreScratch xs → AreScratch ys → AreScratch (xs ++ ys)
scratch_append [] ys h k = k
scratch_append (Do op mode operand ∷ xs) ys h k = (h.0, scratch_append xs ys h.1 k)
scratch_append _ ys h k = absurd h

pub after_append : (g : World) (xs ys : List Line) (t : State) → after_lines g (xs ++ ys) t ≡ after_lines g ys (after_lines g xs t)
after_append g [] ys t = refl
after_append g (x ∷ xs) ys t = after_append g xs ys _

pub are_safe : (g : World) (ls : List Line) (t : State) → AreScratch ls → AreSafe g ls t
are_safe g [] t h = tt
are_safe g (Do op mode operand ∷ ls) t h =
    let f = is_fine g op (kind_of op) mode operand t h.0 in
    (f.plain, f.allowed, f.given, f.kept, are_safe g ls _ h.1)
are_safe g _ t h = absurd h

pub are_other : (g : World) (ls : List Line) (t : State) → AreScratch ls → IsOther t (after_lines g ls t)
are_other g [] t h = none_other t
are_other g (Do op mode operand ∷ ls) t h =
    let f = is_fine g op (kind_of op) mode operand t h.0 in
    other_then t _ _ f.other (are_other g ls _ h.1)
are_other g _ t h = absurd h

-- ---- the primary register

module _ (g : World) (a : Active) (pushed needs : ℕ) (c : Scene) (w : Placing) (b : Banks) (width : Width) (placed : IsPlacement g.code g.place) where
  pub ready_now : (n : ℕ) (t u : State) → Ready g a pushed needs c w b t → IsNow g a c w b width n t u → Ready g a pushed needs c w b u
  ready_now n t u ready now = ready_stays g a pushed needs needs c c w w b b t u (omega arith) ready now.kept

  pub other_kept : (t u : State) → Ready g a pushed needs c w b t → IsOther t u → IsBytes u → Kept g a c w b t c w b u
  other_kept t u ready h bytes = subst (λ z. Kept g a c w b t c w b z) (sym h.only) (kept_later g a pushed needs c w b t placed ready u.regs u.zp h.others (subst IsBytes h.only bytes))

  -- such lines, by what they make of the register
  pub scratch_leads : (ls : List Line) (n : ℕ) (t : State) → Ready g a pushed needs c w b t → AreScratch ls → primary_of width (after_lines g ls t) ≡ n → Leads g a ls (length ls) t (IsNow g a c w b width n t)
  scratch_leads ls n t ready own is =
      leads_as g a ls (length ls) (length ls) t (λ u. (u ≡ after_lines g ls t) × IsBytes u) (IsNow g a c w b width n t) (omega arith)
      (λ u h. record { kept = other_kept t u ready (subst (IsOther t) (sym h.0) (are_other g ls t own)) h.1; word = ap (primary_of width) h.0 ∙ is })
      (lines_lead g a ls t placed (is_on g a pushed needs c w b t placed ready) (are_safe g ls t own))

  -- one part behind another
  pub now_then : (xs ys : List Line) (x y m n : ℕ) (t : State) → Ready g a pushed needs c w b t → Leads g a xs x t (IsNow g a c w b width m t)
      → ((u : State) → Ready g a pushed needs c w b u → primary_of width u ≡ m → Leads g a ys y u (IsNow g a c w b width n u)) → Leads g a (xs ++ ys) (x + y) t (IsNow g a c w b width n t)
  now_then xs ys x y m n t ready first second =
      leads_then g a xs ys x y t (IsNow g a c w b width m t) (IsNow g a c w b width n t) first (λ u h.
      leads_as g a ys y y u (IsNow g a c w b width n u) (IsNow g a c w b width n t) (omega arith)
      (λ v k. record { kept = kept_goes_on g a c c c w w w b b b t u v h.kept k.kept; word = k.word })
      (second u (ready_now m t u ready h) h.word))

  -- no lines
  pub still_now : (n : ℕ) (t : State) → Ready g a pushed needs c w b t → primary_of width t ≡ n → IsNow g a c w b width n t t
  still_now n t ready is = record { kept = other_kept t t ready (none_other t) (is_on g a pushed needs c w b t placed ready).stacks.calm.bytes; word = is }
