-- The lines that rule 38 puts for a push, a word and an operator.
use Rattle.std.proofs.Common.{◌≡◌, ℕ, ◌+◌, ◌-◌, ◌%◌, ◌<◌, true, false, List, [], ◌∷◌, Some, refl, sym, subst, ◌∙◌, arith}
use Rattle.std.specs.Prelude.{not, bit_and, bit_or, bit_xor}
use Rattle.std.proofs.lemmas.Bool.{and_parts}
use Rattle.c65_mach.specs.State.{Regs}
use Rattle.c65_mach.specs.Step.{with_a, with_x, with_y, summed, kind_of}
use Rattle.c65_mach.specs.declared.rows.Op.{Op}
use Rattle.c65_mach.specs.declared.rows.Op.TheVariants as ops
use Rattle.c65_mach.specs.declared.rows.Mode.{Mode}
use Rattle.c65_mach.specs.declared.rows.Mode.TheVariants.{Implied, Immediate}
use Rattle.c65_code.specs.declared.line.Line.{Line}
use Rattle.c65_code.specs.declared.line.Line.TheVariants.{Do}
use Rattle.c65_code.specs.declared.line.Operand.{Operand}
use Rattle.c65_code.specs.declared.line.Operand.TheVariants.{Nothing, Byte, Low, High}
use Rattle.c65_code.specs.declared.routine.TosOp.{TosOp}
use Rattle.c65_code.specs.declared.routine.TosOp.TheVariants as tos
use Rattle.c65_code.specs.declared.routine.Width.TheVariants.{Ax}
use Rattle.c65_code.specs.declared.routine.Routine.TheVariants as routines
use Rattle.c65_code.specs.Forms.{Form, Plain, form_of}
use Rattle.c65_code.specs.LineState.{State}
use Rattle.c65_code.specs.Moves.{Does, ref_of, effect}
use Rattle.c65_code.specs.Placement.{Placement, Setting, word_of}
use Rattle.c65_code.specs.Rows.{row_of}
use Rattle.c65_code.specs.Segments.{has_row, takes, is_barred, is_fit}
use Rattle.c65_code.specs.Steady.{IsAllowed, IsWithin}
use Rattle.c65_pass.specs.Registers.{alone}
use Rattle.c65_pass.specs.StackRules.{by_bytes, word_loaded, operated}
use Rattle.c65_opt_law_straight.specs.Laws.{IsByteLine}
use Rattle.c65_opt_law_follow.specs.Windows.{IsPassed, IsInner, AreInner, weight_of}
use Rattle.c65_opt_law_stack.proofs.Acts.{with_regs, Acts, AllAct}
use Rattle.c65_opt_law_stack.proofs.Operators.{operator_row, Loads, Computes}
use Rattle.c65_opt_law_stack.proofs.Words.{added, taken, anded, ored, xored}

-- ---- lines

acts_by : (s : Setting) (line : Line) (op : Op) (mode : Mode) (operand : Operand) (act : Regs → Regs) → form_of line ≡ Plain op mode operand
    → ((t : State) → IsAllowed s.place (kind_of op) (ref_of mode (word_of s.place operand) t) t) → ((t : State) → effect (kind_of op) op mode (word_of s.place operand) t ≡ with_regs t (act t.regs)) → Acts s line act
acts_by s line op mode operand act e allowed effects = record {
  passed = subst IsPassed (sym e) tt;
  within = λ t. subst (λ (f : Form). IsWithin s f t) (sym e) (allowed t);
  does = λ t. subst (λ (f : Form). Does s.place f t (with_regs t (act t.regs))) (sym e) (sym (effects t));
  only = λ t u d. subst (λ (f : Form). Does s.place f t u) e d ∙ effects t;
  weight = λ t. subst (λ (f : Form). weight_of f t ≡ 1) (sym e) refl;
}

module _ (s : Setting) where
  tay_acts : Acts s (alone ops.Tay) (λ r. with_y r.a r)
  tay_acts = acts_by s (alone ops.Tay) ops.Tay Implied Nothing (λ r. with_y r.a r) refl (λ t. tt) (λ t. refl)

  txa_acts : Acts s (alone ops.Txa) (λ r. with_a r.x r)
  txa_acts = acts_by s (alone ops.Txa) ops.Txa Implied Nothing (λ r. with_a r.x r) refl (λ t. tt) (λ t. refl)

  tax_acts : Acts s (alone ops.Tax) (λ r. with_x r.a r)
  tax_acts = acts_by s (alone ops.Tax) ops.Tax Implied Nothing (λ r. with_x r.a r) refl (λ t. tt) (λ t. refl)

  tya_acts : Acts s (alone ops.Tya) (λ r. with_a r.y r)
  tya_acts = acts_by s (alone ops.Tya) ops.Tya Implied Nothing (λ r. with_a r.y r) refl (λ t. tt) (λ t. refl)

  clc_acts : Acts s (alone ops.Clc) (λ r. record r { c = false })
  clc_acts = acts_by s (alone ops.Clc) ops.Clc Implied Nothing (λ r. record r { c = false }) refl (λ t. tt) (λ t. refl)

  sec_acts : Acts s (alone ops.Sec) (λ r. record r { c = true })
  sec_acts = acts_by s (alone ops.Sec) ops.Sec Implied Nothing (λ r. record r { c = true }) refl (λ t. tt) (λ t. refl)

  module _ (o : Operand) where
    lda_acts : Acts s (Do ops.Lda Immediate o) (with_a (word_of s.place o))
    lda_acts = acts_by s (Do ops.Lda Immediate o) ops.Lda Immediate o (with_a (word_of s.place o)) refl (λ t. tt) (λ t. refl)

    ldx_acts : Acts s (Do ops.Ldx Immediate o) (with_x (word_of s.place o))
    ldx_acts = acts_by s (Do ops.Ldx Immediate o) ops.Ldx Immediate o (with_x (word_of s.place o)) refl (λ t. tt) (λ t. refl)

    adc_acts : Acts s (Do ops.Adc Immediate o) (summed (word_of s.place o))
    adc_acts = acts_by s (Do ops.Adc Immediate o) ops.Adc Immediate o (summed (word_of s.place o)) refl (λ t. tt) (λ t. refl)

    sbc_acts : Acts s (Do ops.Sbc Immediate o) (summed (255 - word_of s.place o))
    sbc_acts = acts_by s (Do ops.Sbc Immediate o) ops.Sbc Immediate o (summed (255 - word_of s.place o)) refl (λ t. tt) (λ t. refl)

    and_acts : Acts s (Do ops.And Immediate o) (λ r. with_a (bit_and r.a (word_of s.place o)) r)
    and_acts = acts_by s (Do ops.And Immediate o) ops.And Immediate o (λ r. with_a (bit_and r.a (word_of s.place o)) r) refl (λ t. tt) (λ t. refl)

    ora_acts : Acts s (Do ops.Ora Immediate o) (λ r. with_a (bit_or r.a (word_of s.place o)) r)
    ora_acts = acts_by s (Do ops.Ora Immediate o) ops.Ora Immediate o (λ r. with_a (bit_or r.a (word_of s.place o)) r) refl (λ t. tt) (λ t. refl)

    eor_acts : Acts s (Do ops.Eor Immediate o) (λ r. with_a (bit_xor r.a (word_of s.place o)) r)
    eor_acts = acts_by s (Do ops.Eor Immediate o) ops.Eor Immediate o (λ r. with_a (bit_xor r.a (word_of s.place o)) r) refl (λ t. tt) (λ t. refl)

  -- the low byte, and then the high one
  abbrev byte_acts : (Regs → Regs) → (Regs → Regs) → List (Regs → Regs)
  byte_acts low high = low ∷ (λ r. with_y r.a r) ∷ (λ r. with_a r.x r) ∷ high ∷ (λ r. with_x r.a r) ∷ (λ r. with_a r.y r) ∷ []

  byte_lines : (op : Op) (h l : Operand) (low high : Regs → Regs) → Acts s (Do op Immediate l) low → Acts s (Do op Immediate h) high → AllAct s (by_bytes op h l) (byte_acts low high)
  byte_lines op h l low high first second = (first, (tay_acts, (txa_acts, (second, (tax_acts, (tya_acts, tt))))))

-- ---- the word

byte_operand : (place : Placement) (op : Op) (o : Operand) → takes op Immediate o ≡ true → IsByteLine (Do op Immediate o) → word_of place o < 256
byte_operand place op (Byte v) fit h = h
byte_operand place op (Low sym offset) fit h = omega arith
byte_operand place op (High sym offset) fit h = omega arith
byte_operand place op _ fit h = absurd cc

fit_operand : (place : Placement) (op : Op) (o : Operand) → is_fit (Do op Immediate o) ≡ true → IsByteLine (Do op Immediate o) → word_of place o < 256
fit_operand place op o fit h = byte_operand place op o (and_parts (takes op Immediate o) (not (is_barred op)) (and_parts (has_row op Immediate) _ fit).1).0 h

-- lines that load a word, with its bytes
pub record IsLoaded (one other : Line) (h l : Operand) : Type 0 where
  pub first_inner : IsInner (form_of one)
  pub second_inner : IsInner (form_of other)
  pub low_byte : (place : Placement) → is_fit one ≡ true → IsByteLine one → is_fit other ≡ true → IsByteLine other → word_of place l < 256
  pub high_byte : (place : Placement) → is_fit one ≡ true → IsByteLine one → is_fit other ≡ true → IsByteLine other → word_of place h < 256
  pub loads : (s : Setting) → word_of s.place l < 256 → word_of s.place h < 256 → Loads s one other (word_of s.place l) (word_of s.place h)

pub loaded : (one other : Line) (word : Operand × Operand) → word_loaded one other ≡ Some word → IsLoaded one other word.0 word.1
loaded (Do ops.Ldx Immediate x) (Do ops.Lda Immediate a) word e =
    let same : (x, a) ≡ word = cc in
    subst (λ (pair : Operand × Operand). IsLoaded (Do ops.Ldx Immediate x) (Do ops.Lda Immediate a) pair.0 pair.1) same (record {
      first_inner = tt;
      second_inner = tt;
      low_byte = λ place f b g d. fit_operand place ops.Lda a g d;
      high_byte = λ place f b g d. fit_operand place ops.Ldx x f b;
      loads = λ s lt ht. record {
        first = with_x (word_of s.place x);
        second = with_a (word_of s.place a);
        one_acts = ldx_acts s x;
        other_acts = lda_acts s a;
        low = λ r. refl;
        high = λ r. refl;
        first_bytes = λ r b. record { a = b.a; x = ht; y = b.y };
        second_bytes = λ r b. record { a = lt; x = b.x; y = b.y };
      };
    })
loaded (Do ops.Lda Immediate a) (Do ops.Ldx Immediate x) word e =
    let same : (x, a) ≡ word = cc in
    subst (λ (pair : Operand × Operand). IsLoaded (Do ops.Lda Immediate a) (Do ops.Ldx Immediate x) pair.0 pair.1) same (record {
      first_inner = tt;
      second_inner = tt;
      low_byte = λ place f b g d. fit_operand place ops.Lda a f b;
      high_byte = λ place f b g d. fit_operand place ops.Ldx x g d;
      loads = λ s lt ht. record {
        first = with_a (word_of s.place a);
        second = with_x (word_of s.place x);
        one_acts = lda_acts s a;
        other_acts = ldx_acts s x;
        low = λ r. refl;
        high = λ r. refl;
        first_bytes = λ r b. record { a = lt; x = b.x; y = b.y };
        second_bytes = λ r b. record { a = b.a; x = ht; y = b.y };
      };
    })
loaded _ _ word e = absurd cc

-- ---- the operators

-- an operator whose lines these are
pub record IsOperated (op : TosOp) (h l : Operand) (lines : List Line) : Type 0 where
  pub value : ℕ → ℕ → ℕ
  pub row : (t : State) → row_of (routines.Tos op Ax) t ≡ Some (operator_row op value t)
  pub inner : AreInner lines
  pub computes : (s : Setting) → word_of s.place l < 256 → word_of s.place h < 256 → Computes s lines value (word_of s.place l) (word_of s.place h)

module _ (h l : Operand) where
  add_done : IsOperated tos.Add h l (alone ops.Clc ∷ by_bytes ops.Adc h l)
  add_done = record {
    value = λ m n. (m + n) % 65536;
    row = λ t. refl;
    inner = (tt, (tt, (tt, (tt, (tt, (tt, (tt, tt)))))));
    computes = λ s lt ht. record {
      acts = (λ r. record r { c = false }) ∷ byte_acts s (summed (word_of s.place l)) (summed (word_of s.place h));
      all = (clc_acts s, byte_lines s ops.Adc h l (summed (word_of s.place l)) (summed (word_of s.place h)) (adc_acts s l) (adc_acts s h));
      few = omega arith;
      word = λ r b. added r.a r.x (word_of s.place l) (word_of s.place h) b.a b.x lt ht;
    };
  }

  sub_done : IsOperated tos.Sub h l (alone ops.Sec ∷ by_bytes ops.Sbc h l)
  sub_done = record {
    value = λ m n. (m + 65536 - n) % 65536;
    row = λ t. refl;
    inner = (tt, (tt, (tt, (tt, (tt, (tt, (tt, tt)))))));
    computes = λ s lt ht. record {
      acts = (λ r. record r { c = true }) ∷ byte_acts s (summed (255 - word_of s.place l)) (summed (255 - word_of s.place h));
      all = (sec_acts s, byte_lines s ops.Sbc h l (summed (255 - word_of s.place l)) (summed (255 - word_of s.place h)) (sbc_acts s l) (sbc_acts s h));
      few = omega arith;
      word = λ r b. taken r.a r.x (word_of s.place l) (word_of s.place h) b.a b.x lt ht;
    };
  }

  and_done : IsOperated tos.And h l (by_bytes ops.And h l)
  and_done = record {
    value = bit_and;
    row = λ t. refl;
    inner = (tt, (tt, (tt, (tt, (tt, (tt, tt))))));
    computes = λ s lt ht. record {
      acts = byte_acts s (λ r. with_a (bit_and r.a (word_of s.place l)) r) (λ r. with_a (bit_and r.a (word_of s.place h)) r);
      all = byte_lines s ops.And h l (λ r. with_a (bit_and r.a (word_of s.place l)) r) (λ r. with_a (bit_and r.a (word_of s.place h)) r) (and_acts s l) (and_acts s h);
      few = omega arith;
      word = λ r b. anded r.a r.x (word_of s.place l) (word_of s.place h) b.a b.x lt ht;
    };
  }

  or_done : IsOperated tos.Or h l (by_bytes ops.Ora h l)
  or_done = record {
    value = bit_or;
    row = λ t. refl;
    inner = (tt, (tt, (tt, (tt, (tt, (tt, tt))))));
    computes = λ s lt ht. record {
      acts = byte_acts s (λ r. with_a (bit_or r.a (word_of s.place l)) r) (λ r. with_a (bit_or r.a (word_of s.place h)) r);
      all = byte_lines s ops.Ora h l (λ r. with_a (bit_or r.a (word_of s.place l)) r) (λ r. with_a (bit_or r.a (word_of s.place h)) r) (ora_acts s l) (ora_acts s h);
      few = omega arith;
      word = λ r b. ored r.a r.x (word_of s.place l) (word_of s.place h) b.a b.x lt ht;
    };
  }

  xor_done : IsOperated tos.Xor h l (by_bytes ops.Eor h l)
  xor_done = record {
    value = bit_xor;
    row = λ t. refl;
    inner = (tt, (tt, (tt, (tt, (tt, (tt, tt))))));
    computes = λ s lt ht. record {
      acts = byte_acts s (λ r. with_a (bit_xor r.a (word_of s.place l)) r) (λ r. with_a (bit_xor r.a (word_of s.place h)) r);
      all = byte_lines s ops.Eor h l (λ r. with_a (bit_xor r.a (word_of s.place l)) r) (λ r. with_a (bit_xor r.a (word_of s.place h)) r) (eor_acts s l) (eor_acts s h);
      few = omega arith;
      word = λ r b. xored r.a r.x (word_of s.place l) (word_of s.place h) b.a b.x lt ht;
    };
  }

  done_as : (op : TosOp) (lines new : List Line) → Some lines ≡ Some new → IsOperated op h l lines → IsOperated op h l new
  done_as op lines new e done = let same : lines ≡ new = cc in subst (IsOperated op h l) same done

  pub operator_done : (op : TosOp) (new : List Line) → operated op h l ≡ Some new → IsOperated op h l new
  operator_done tos.Add new e = done_as tos.Add (alone ops.Clc ∷ by_bytes ops.Adc h l) new e add_done
  operator_done tos.Sub new e = done_as tos.Sub (alone ops.Sec ∷ by_bytes ops.Sbc h l) new e sub_done
  operator_done tos.And new e = done_as tos.And (by_bytes ops.And h l) new e and_done
  operator_done tos.Or new e = done_as tos.Or (by_bytes ops.Ora h l) new e or_done
  operator_done tos.Xor new e = done_as tos.Xor (by_bytes ops.Eor h l) new e xor_done
  operator_done _ new e = absurd cc
