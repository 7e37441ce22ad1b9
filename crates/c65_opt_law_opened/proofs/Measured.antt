-- The length of a text that is known.
use Rattle.std.proofs.Common.{◌≡◌, ℕ, ◌+◌, ◌*◌, ◌/◌, ◌%◌, ◌≤◌, Bool, true, false, if◌then◌else◌, List, [], ◌∷◌, Option, Some, None, refl, sym, subst, ap, ◌∙◌, arith}
use Rattle.std.specs.Prelude.{nat_le}
use Rattle.std.proofs.lemmas.Bool.{leb-true}
use Rattle.std.proofs.lemmas.List.{append-nil}
use Rattle.c65_base.specs.declared.library.Library.TheVariants.{Strlen}
use Rattle.c65_mach.specs.State.{Regs}
use Rattle.c65_mach.specs.Step.{with_a, with_x}
use Rattle.c65_mach.specs.declared.rows.Op.TheVariants as ops
use Rattle.c65_code.specs.declared.line.Line.{Line}
use Rattle.c65_code.specs.declared.parts.Part.{Part}
use Rattle.c65_code.specs.declared.parts.Part.TheVariants as parts
use Rattle.c65_code.specs.declared.routine.Routine.TheVariants as routines
use Rattle.c65_code.specs.Effects.{large}
use Rattle.c65_code.specs.LineState.{State, Same}
use Rattle.c65_code.specs.Moves.{MeetsRow}
use Rattle.c65_code.specs.Parts.{has_part}
use Rattle.c65_code.specs.Placement.{word_of}
use Rattle.c65_code.specs.Rows.{low_byte, high_byte, row_of}
use Rattle.c65_code.specs.Texts.{text_length}
use Rattle.c65_pass.specs.KnownCalls.{at_most, measured, with_value, text_loaded}
use Rattle.c65_pass.specs.StackRules.{word_loaded}
use Rattle.c65_opt_law_opened.specs.Texts.{KnownStands}
use Rattle.c65_opt_law_opened.proofs.AtSp.{with_regs}
use Rattle.c65_opt_law_opened.proofs.Known.{AreLoads, word_loads, served}
use Rattle.c65_opt_law_opened.proofs.Leads.{Leads, leads_on, number}
use Rattle.c65_opt_law_opened.proofs.Texts.{text_ends, IsTextLoaded, texts_each, text_below, text_word}

-- a number that is known and no greater than another one
pub record IsAtMost (o : Option ℕ) (most n : ℕ) : Type 0 where
  pub known : o ≡ Some n
  pub within : n ≤ most

pub number_at_most : (o : Option ℕ) (most n : ℕ) → at_most most o ≡ Some n → IsAtMost o most n
number_at_most None most n e = absurd cc
number_at_most (Some k) most n e = pick (nat_le k most) refl e
  where
    pick : (b : Bool) → nat_le k most ≡ b → (if b then Some k else None) ≡ Some n → IsAtMost (Some k) most n
    pick true h i = let same : k ≡ n = cc in let le : k ≤ most = leb-true k most h in record { known = i; within = omega (arith, le, same) }
    pick false h i = absurd cc

record IsMeasured (o : Option ℕ) (lines : List Line) : Type 0 where
  count : ℕ
  known : o ≡ Some count
  same : with_value ops.Ldx (count / 256) ∷ with_value ops.Lda (count % 256) ∷ [] ≡ lines

measured_by : (o : Option ℕ) (lines : List Line) → measured o ≡ Some lines → IsMeasured o lines
measured_by None lines e = absurd cc
measured_by (Some n) lines e = record { count = n; known = refl; same = cc }

-- what the row says where the text has this length
strlen_meets : (t : State) (regs loaded : Regs) (n : ℕ) → t.ended ≡ None → text_length (loaded.a + 256 * loaded.x) t.mem ≡ n → regs.a ≡ low_byte n → regs.x ≡ high_byte n
    → MeetsRow (row_of (routines.Library Strlen) (with_regs t loaded)) (with_regs t loaded) (with_regs t regs)
strlen_meets t regs loaded n running long low high = record {
  sp = refl;
  a = low ∙ ap low_byte (sym long);
  x = high ∙ ap high_byte (sym long);
  sreg = tt;
  pointers = tt;
  bank = tt;
  kept = kept;
  high = λ i h. refl;
  mem = λ b h. refl;
  pushed = refl;
  frames = refl;
  input = refl;
  output = sym (append-nil t.output);
  ended = running;
}
  where
    kept : (p : Part) → has_part large p ≡ false → Same p (with_regs t loaded) (with_regs t regs)
    kept (parts.Zp i) h = refl
    kept _ h = absurd (let e : true ≡ false = h in cc)

pub strlen_stands : KnownStands Strlen
strlen_stands s literals low texts one other lines e to after =
    let made : IsMeasured (at_most 65535 (text_loaded literals (word_loaded one other))) lines = measured_by (at_most 65535 (text_loaded literals (word_loaded one other))) lines e in
    let n : ℕ = made.count in
    let bound : IsAtMost (text_loaded literals (word_loaded one other)) 65535 n = number_at_most (text_loaded literals (word_loaded one other)) 65535 n made.known in
    let word : IsTextLoaded s.place (word_loaded one other) n = text_word s.place literals (word_loaded one other) n low (texts_each s.place literals texts) bound.known in
    let l : ℕ = word_of s.place word.pair.1 in
    let h : ℕ = word_of s.place word.pair.0 in
    let loads : AreLoads s one other l h = word_loads s one other word.pair word.shown word.low word.high in
    let below = text_below s.place n (l + 256 * h) low word.text in
    served s Strlen tt one other l h loads to after lines (λ t c.
    let regs : Regs = loads.second (loads.first t.regs) in
    let P : State → Type 0 = MeetsRow (row_of (routines.Library Strlen) (with_regs t regs)) (with_regs t regs) in
    let at : l + 256 * h ≡ regs.a + 256 * regs.x = omega (arith, loads.low t.regs, loads.high t.regs) in
    let long : text_length (l + 256 * h) t.mem ≡ n = text_ends word.text.bytes n (l + 256 * h) t.mem (λ k v e. c.calm.constant (l + 256 * h + k) v (word.text.constant k v e)) word.text.ends (omega (arith, below)) in (
      2,
      subst (λ (ls : List Line). Leads s P ls 2 t) made.same
          (leads_on s P (with_value ops.Ldx (n / 256) ∷ with_value ops.Lda (n % 256) ∷ []) [] 0 t (number s ops.Ldx (n / 256) t, (number s ops.Lda (n % 256) (with_regs t (with_x (n / 256) t.regs)), tt)) c.calm
          (λ end. strlen_meets t (with_a (n % 256) (with_x (n / 256) t.regs)) regs n c.running (subst (λ (x : ℕ). text_length x t.mem ≡ n) at long) refl (omega (arith, bound.within)))),
      omega arith,
    ))
