-- A number of elements becomes its number of bytes (C90 6.3.6).
use Rattle.std.proofs.Common.{◌≡◌, ℕ, zero, suc, ◌+◌, ◌-◌, ◌*◌, ◌%◌, ◌^◌, ◌<◌, ◌≤◌, List, [], ◌∷◌, ◌++◌, length, Bool, true, false, Option, Some, None, refl, sym, ap, ◌∙◌, arith, length-append}
use Rattle.std.specs.Prelude.{nat_lt, ◌==◌, if◌then◌else◌}
use Rattle.std.proofs.lemmas.Bool.{eqb-true}
use Rattle.c65_mach.specs.declared.rows.Op.TheVariants.{Asl, Lda, Ldx, Stx, Tax}
use Rattle.c65_meaning.specs.State.{Scene}
use Rattle.c65_code.specs.declared.line.Line.{Line}
use Rattle.c65_code.specs.declared.routine.TosOp.TheVariants as tos
use Rattle.c65_code.specs.declared.routine.Width.TheVariants.{Ax}
use Rattle.c65_code.specs.LineState.{State, ax_of, IsBytes}
use Rattle.c65_code.specs.Placement.{IsPlacement}
use Rattle.c65_genwide.specs.Lines.{value}
use Rattle.c65_genload.specs.Words.{tmp1, implied, shift_a, zero_page}
use Rattle.c65_genload.specs.Numbers.{by_code, scale_code}
use Rattle.c65_genshift.specs.Shifts.{calls_code, left_turns, left_bits_code, left_byte_code}
use Rattle.c65_genshift.specs.Quick.{power_of, elements_by}
use Rattle.c65_agree_store.specs.Stands.{Placing, Banks}
use Rattle.c65_agree_state.specs.World.{World, Active}
use Rattle.c65_agree_state.specs.Exprs.{Ready}
use Rattle.c65_agree_frame.specs.Leads.{Leads}
use Rattle.c65_agree_frame.proofs.Leads.{none_leads, after_lines, leads_as}
use Rattle.c65_agree_load.proofs.Kept.{is_on}
use Rattle.c65_agree_quick.specs.Laws.{IsNow, HasTwo, ElementsAreScaled}
use Rattle.c65_agree_quick.proofs.Powers.{moved, iterated, steps_move}
use Rattle.c65_agree_quick.proofs.Scratch.{AreScratch, scratch_append, after_append, scratch_leads, still_now}
use Rattle.c65_agree_quick.proofs.Room.{by_number}
use Rattle.c65_agree_quick.proofs.Once.{word_small, calls_lead}
use Rattle.c65_agree_quick.proofs.Turns.{pair, left_carry}
use Rattle.c65_agree_quick.proofs.Bytes.{left_byte_scratch, left_byte_word}
use Rattle.c65_agree_quick.proofs.Shifted.{chosen_below, same_after, repeated_short}
use Rattle.c65_agree_quick.proofs.Products.{power_is}

-- ---- turns in line

turns_scratch : (n : ℕ) → AreScratch (left_turns n)
turns_scratch zero = tt
turns_scratch (suc n) = (tt, ((omega arith, omega arith), turns_scratch n))

turns_word : (g : World) (n : ℕ) (u : State) → u.regs.a < 256 → pair (after_lines g (left_turns n) u) ≡ iterated (λ v. (2 * v) % 65536) n (pair u)
turns_word g zero u h = refl
turns_word g (suc n) u h =
    turns_word g n _ (omega arith) ∙ ap (iterated (λ v. (2 * v) % 65536) n) (left_carry u.regs.a (u.zp 16) (nat_lt 127 u.regs.a) refl h)

abbrev last : List Line
last = zero_page Ldx tmp1 ∷ []

bits_scratch : (n : ℕ) → AreScratch (left_bits_code n)
bits_scratch n = ((omega arith, omega arith), scratch_append (left_turns n) last (turns_scratch n) (omega arith, tt))

bits_word : (g : World) (n : ℕ) (t : State) → IsBytes t → ax_of (after_lines g (left_bits_code n) t) ≡ moved tos.Shl Ax (ax_of t) n
bits_word g n t b =
    let begun : State = after_lines g (zero_page Stx tmp1 ∷ []) t in
    ap ax_of (after_append g (left_turns n) last begun) ∙ turns_word g n begun b.a ∙ steps_move tos.Shl Ax n (ax_of t) (word_small Ax t b) tt

turns_length : (n : ℕ) → length (left_turns n) ≡ 2 * n
turns_length zero = refl
turns_length (suc n) = omega (arith, turns_length n)

bits_short : (n : ℕ) → n < 8 → length (left_bits_code n) ≤ 20
bits_short n few = omega (arith, few, turns_length n, length-append (left_turns n) last)

-- ---- elements

module _ (g : World) (a : Active) (pushed needs : ℕ) (c : Scene) (w : Placing) (b : Banks) (t : State) (placed : IsPlacement g.code g.place) (ready : Ready g a pushed needs c w b t) (two : HasTwo a needs c t) (size : ℕ) (small : size < 65536) where
  abbrev Scaled : State → Type 0
  Scaled = IsNow g a c w b Ax ((ax_of t * size) % 65536) t

  are_bytes : IsBytes t
  are_bytes = (is_on g a pushed needs c w b t placed ready).stacks.calm.bytes

  by_routine : Leads g a (by_code tos.Mul size) 2306 t Scaled
  by_routine = by_number g a pushed needs c w b t placed ready two tos.Mul size ((ax_of t * size) % 65536) refl small refl (omega arith)

  by_calls : (n : ℕ) → size ≡ 2 ^ n → n < 4 → Leads g a (calls_code tos.Shl Ax n) 2306 t Scaled
  by_calls n power few =
      leads_as g a (calls_code tos.Shl Ax n) (256 * n) 2306 t (IsNow g a c w b Ax (moved tos.Shl Ax (ax_of t) n) t) Scaled (omega (arith, few))
      (λ u h. record { kept = h.kept; word = h.word ∙ ap (λ p. (ax_of t * p) % 65536) (sym power) })
      (calls_lead g a pushed needs c w b tos.Shl Ax placed n (ax_of t) t ready refl tt)

  -- lines on scratch bytes that shift by n bits
  by_lines : (ls : List Line) (n : ℕ) → size ≡ 2 ^ n → length ls ≤ 20 → AreScratch ls → ax_of (after_lines g ls t) ≡ moved tos.Shl Ax (ax_of t) n → Leads g a ls 2306 t Scaled
  by_lines ls n power short own is =
      leads_as g a ls (length ls) 2306 t Scaled Scaled (omega (arith, short)) (λ u h. h)
      (scratch_leads g a pushed needs c w b Ax placed ls ((ax_of t * size) % 65536) t ready own (is ∙ ap (λ p. (ax_of t * p) % 65536) (sym power)))

  -- any other size
  by_scale : Leads g a (scale_code size) 2306 t Scaled
  by_scale = by (size == 1) (size == 2) refl refl
    where
      by : (one two : Bool) → (size == 1) ≡ one → (size == 2) ≡ two → Leads g a (if one then [] else (if two then calls_code tos.Shl Ax 1 else by_code tos.Mul size)) 2306 t Scaled
      by true two e f =
          let is : size ≡ 1 = eqb-true size 1 e in
          leads_as g a [] 0 2306 t Scaled Scaled (omega arith) (λ u h. h)
          (none_leads g a t Scaled (still_now g a pushed needs c w b Ax placed ((ax_of t * size) % 65536) t ready (same (ax_of t) (word_small Ax t are_bytes) ∙ ap (λ n. (ax_of t * n) % 65536) (sym is))))
        where
          same : (n : ℕ) → n < 65536 → n ≡ (n * 1) % 65536
          same n h = omega (arith, h)
      by false true e f = by_calls 1 (eqb-true size 2 f) (omega arith)
      by false false e f = by_routine

  by_power : (k : Option ℕ) → power_of size ≡ k → Leads g a (elements_by size k) 2306 t Scaled
  by_power None e = by_scale
  by_power (Some n) e =
      let power : size ≡ 2 ^ n = power_is 32 size n e in
      chosen_below g a _ _ 2306 t Scaled n 4 (λ few. by_calls n power few) (λ four.
      chosen_below g a _ _ 2306 t Scaled n 8 (λ few. by_lines (left_bits_code n) n power (bits_short n few) (bits_scratch n) (bits_word g n t are_bytes)) (λ eight.
      chosen_below g a _ _ 2306 t Scaled n 16 (λ few. by_lines (left_byte_code (n - 8)) n power (repeated_short (n - 8) (shift_a Asl) (implied Tax ∷ value Lda 0 ∷ []) (omega (arith, few)) (omega arith)) (left_byte_scratch (n - 8)) (left_byte_word g (n - 8) t are_bytes ∙ ap (moved tos.Shl Ax (ax_of t)) (same_after n 8 eight))) (λ more. by_scale)))

pub elements_are_scaled : ElementsAreScaled
elements_are_scaled g a pushed needs size c w b t placed small ready two = by_power g a pushed needs c w b t placed ready two size small (power_of size) refl
