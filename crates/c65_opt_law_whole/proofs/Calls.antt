-- Each rule makes lines whose operands stand in the old lines, or name nothing: rules 33 to 45.
use Rattle.std.proofs.Common.{◌≡◌, ℕ, zero, suc, ◌+◌, ◌/◌, ◌%◌, ◌<◌, ◌≤◌, ◌==◌, ◌&&◌, Bool, true, false, if◌then◌else◌, List, [], ◌∷◌, ◌++◌, Option, Some, None, nat_le, refl, subst, arith}
use Rattle.std.proofs.lemmas.Bool.{leb-true}
use Rattle.c65_base.specs.declared.library.Library.{Library}
use Rattle.c65_base.specs.declared.library.Library.TheVariants.{Memcpy, Memset, Strcmp, Strcpy, Strlen}
use Rattle.c65_mach.specs.declared.rows.Op.{Op}
use Rattle.c65_mach.specs.declared.rows.Op.TheVariants as ops
use Rattle.c65_mach.specs.declared.rows.Mode.TheVariants.{Implied, Accumulator, Immediate, ZeroPage, IndirectY, ZeroPageIndirect}
use Rattle.c65_code.specs.declared.line.Callee.TheVariants as callees
use Rattle.c65_code.specs.declared.line.Line.{Line}
use Rattle.c65_code.specs.declared.line.Line.TheVariants.{Do, Call}
use Rattle.c65_code.specs.declared.line.Operand.{Operand}
use Rattle.c65_code.specs.declared.line.Operand.TheVariants.{Nothing, Byte}
use Rattle.c65_code.specs.declared.line.Sym.{Sym}
use Rattle.c65_code.specs.declared.routine.Routine.{Routine}
use Rattle.c65_code.specs.declared.routine.Routine.TheVariants as routines
use Rattle.c65_code.specs.declared.routine.TosOp.{TosOp}
use Rattle.c65_code.specs.declared.routine.TosOp.TheVariants as tos
use Rattle.c65_code.specs.declared.routine.UnaryRoutine.TheVariants.{Neg, Compl, Shl1, Shr1, Asr1}
use Rattle.c65_code.specs.declared.routine.Width.TheVariants.{Ax}
use Rattle.c65_code.specs.Parts.{set_of}
use Rattle.c65_live.specs.Tables.{Table, is_dead}
use Rattle.c65_pass.specs.KnownCalls.{text_loaded, at_most, count_loaded, with_value, on_zero, through, once_and, times, byte_copied, byte_filled, given_back, measured, copied, filled, text_copied, compared, call_known, lines_known, known_call}
use Rattle.c65_pass.specs.LibraryRules.{with_byte, on_stack, on_tmp1, on_a, opened, call_opened}
use Rattle.c65_pass.specs.ProcessorRules.{is_plain_place, line_if, zero_stored, stepped_up, stepped_down, loaded_through, stored_through, shorter, short_line, left_otherwise, processor_rule}
use Rattle.c65_pass.specs.Registers.{alone}
use Rattle.c65_pass.specs.Rewriting.{Rewriting}
use Rattle.c65_pass.specs.StackRules.{is_settled, call_of, one_call, is_taken_back, nothing_if, word_loaded, by_bytes, operated, operated_by, unstacked, undone, one_routine, called_once, done_in_line}
use Rattle.c65_opt_law_whole.proofs.Copies.{IsOfOperands, Each, Makes, each_append, by_line, instead_of, placed, none_put, call_put, alone_line}

module _ (P : Line → Type 0) (is : IsOfOperands P) where
  line_put : (l new : Line) → Some new ≡ Some l → P new → P l
  line_put l new m h = let e : new ≡ l = cc in subst P e h

  lines_put : (ls new : List Line) → Some new ≡ Some ls → Each P new → Each P ls
  lines_put ls new m h = let e : new ≡ ls = cc in subst (Each P) e h

  line_given : (b : Bool) (new l : Line) → P new → line_if b new ≡ Some l → P l
  line_given true new l h m = line_put l new m h
  line_given false new l h m = absurd cc

  -- ---- the software stack

  undone_lines : (table : Table) (at : ℕ) (w : Rewriting) (line : Line) (post : List Line) → undone table at line post ≡ Some w → Each P w.lines
  undone_lines table at w line [] m = absurd cc
  undone_lines table at w line (next ∷ post) m = placed P (nothing_if (is_taken_back line next)) (is_settled table (at + 1) next) 2 at w (none_put P (is_taken_back line next)) m

  pub makes_33 : Makes P 33
  makes_33 = by_line P 33 (λ literals out lines table at w line post h hs m. undone_lines table at w line post m)

  once_lines : (rule : ℕ) (table : Table) (at : ℕ) (w : Rewriting) (line : Line) (post : List Line) → called_once rule table at line post ≡ Some w → Each P w.lines
  once_lines rule table at w line [] m = absurd cc
  once_lines rule table at w line (next ∷ post) m = placed P (one_call (one_routine rule line next)) (is_settled table (at + 1) next) 2 at w (call_put P is (one_routine rule line next)) m

  pub makes_34 : Makes P 34
  makes_34 = by_line P 34 (λ literals out lines table at w line post h hs m. once_lines 34 table at w line post m)

  pub makes_35 : Makes P 35
  makes_35 = by_line P 35 (λ literals out lines table at w line post h hs m. once_lines 35 table at w line post m)

  pub makes_36 : Makes P 36
  makes_36 = by_line P 36 (λ literals out lines table at w line post h hs m. once_lines 36 table at w line post m)

  pub makes_37 : Makes P 37
  makes_37 = by_line P 37 (λ literals out lines table at w line post h hs m. once_lines 37 table at w line post m)

  -- the operands of a word that is loaded
  IsWordOf : Operand × Operand → Type 0
  IsWordOf word = ((op : Op) → P (Do op Immediate word.0)) × ((op : Op) → P (Do op Immediate word.1))

  word_put : (h l : Operand) (word : Operand × Operand) → Some (h, l) ≡ Some word → ((op : Op) → P (Do op Immediate h)) → ((op : Op) → P (Do op Immediate l)) → IsWordOf word
  unfolding IsWordOf
  word_put h l word m a b = let e : (let x : Operand × Operand = (h, l) in x) ≡ word = cc in subst (λ (x : Operand × Operand). ((op : Op) → P (Do op Immediate x.0)) × ((op : Op) → P (Do op Immediate x.1))) e (a, b)

  word_of : (one other : Line) (word : Operand × Operand) → P one → P other → word_loaded one other ≡ Some word → IsWordOf word
  word_of (Do ops.Ldx Immediate h) (Do ops.Lda Immediate l) word a b m =
      word_put h l word m (λ op. is.moved ops.Ldx op Immediate Immediate h a) (λ op. is.moved ops.Lda op Immediate Immediate l b)
  word_of (Do ops.Lda Immediate l) (Do ops.Ldx Immediate h) word a b m =
      word_put h l word m (λ op. is.moved ops.Ldx op Immediate Immediate h b) (λ op. is.moved ops.Lda op Immediate Immediate l a)
  word_of _ _ word a b m = absurd cc

  bytes_lines : (op : Op) (h l : Operand) → P (Do op Immediate h) → P (Do op Immediate l) → Each P (by_bytes op h l)
  bytes_lines op h l a b = (b, (alone_line P is ops.Tay, (alone_line P is ops.Txa, (a, (alone_line P is ops.Tax, (alone_line P is ops.Tya, tt))))))

  operated_lines : (op : TosOp) (word : Operand × Operand) (ls : List Line) → IsWordOf word → operated op word.0 word.1 ≡ Some ls → Each P ls
  unfolding IsWordOf
  operated_lines tos.Add word ls h m = lines_put ls (alone ops.Clc ∷ by_bytes ops.Adc word.0 word.1) m (alone_line P is ops.Clc, bytes_lines ops.Adc word.0 word.1 (h.0 ops.Adc) (h.1 ops.Adc))
  operated_lines tos.Sub word ls h m = lines_put ls (alone ops.Sec ∷ by_bytes ops.Sbc word.0 word.1) m (alone_line P is ops.Sec, bytes_lines ops.Sbc word.0 word.1 (h.0 ops.Sbc) (h.1 ops.Sbc))
  operated_lines tos.And word ls h m = lines_put ls (by_bytes ops.And word.0 word.1) m (bytes_lines ops.And word.0 word.1 (h.0 ops.And) (h.1 ops.And))
  operated_lines tos.Or word ls h m = lines_put ls (by_bytes ops.Ora word.0 word.1) m (bytes_lines ops.Ora word.0 word.1 (h.0 ops.Ora) (h.1 ops.Ora))
  operated_lines tos.Xor word ls h m = lines_put ls (by_bytes ops.Eor word.0 word.1) m (bytes_lines ops.Eor word.0 word.1 (h.0 ops.Eor) (h.1 ops.Eor))
  operated_lines _ word ls h m = absurd cc

  operated_word : (op : TosOp) (word : Option (Operand × Operand)) (ls : List Line) → ((x : Operand × Operand) → word ≡ Some x → IsWordOf x) → operated_by op word ≡ Some ls → Each P ls
  operated_word op None ls owed m = absurd cc
  operated_word op (Some word) ls owed m = operated_lines op word ls (owed word refl) m

  unstacked_lines : (line one other last : Line) (ls : List Line) → P one → P other → unstacked line one other last ≡ Some ls → Each P ls
  unstacked_lines (Call (callees.Routine routines.PushAx)) one other (Call (callees.Routine (routines.Tos op Ax))) ls a b m = operated_word op (word_loaded one other) ls (λ x e. word_of one other x a b e) m
  unstacked_lines _ one other _ ls a b m = absurd cc

  in_line_lines : (table : Table) (at : ℕ) (w : Rewriting) (line : Line) (post : List Line) → Each P post → done_in_line table at line post ≡ Some w → Each P w.lines
  in_line_lines table at w line (one ∷ other ∷ last ∷ post) hs m =
      placed P (unstacked line one other last) (is_settled table (at + 3) last) 4 at w (λ ls e. unstacked_lines line one other last ls hs.0 hs.1.0 e) m
  in_line_lines table at w line _ hs m = absurd cc

  pub makes_38 : Makes P 38
  makes_38 = by_line P 38 (λ literals out lines table at w line post h hs m. in_line_lines table at w line post hs m)

  -- ---- calls that are opened

  a_byte : (op : Op) (v : ℕ) → v < 256 → P (with_byte op v)
  a_byte op v less = is.byte op Immediate v less

  a_stack : (op : Op) → P (on_stack op)
  a_stack op = is.zero_page op IndirectY 0

  a_tmp1 : (op : Op) → P (on_tmp1 op)
  a_tmp1 op = is.zero_page op ZeroPage 16

  an_a : (op : Op) → P (on_a op)
  an_a op = is.nothing op Accumulator

  plain : (op : Op) → P (alone op)
  plain op = is.nothing op Implied

  opened_lines : (r : Routine) (ls : List Line) → opened r ≡ Some ls → Each P ls
  opened_lines routines.LdAxYSp ls m =
      lines_put ls (on_stack ops.Lda ∷ alone ops.Tax ∷ alone ops.Dey ∷ on_stack ops.Lda ∷ []) m (a_stack ops.Lda, (plain ops.Tax, (plain ops.Dey, (a_stack ops.Lda, tt))))
  opened_lines routines.LdAx0Sp ls m =
      lines_put ls (with_byte ops.Ldy 1 ∷ on_stack ops.Lda ∷ alone ops.Tax ∷ alone ops.Dey ∷ on_stack ops.Lda ∷ []) m (a_byte ops.Ldy 1 (omega arith), (a_stack ops.Lda, (plain ops.Tax, (plain ops.Dey, (a_stack ops.Lda, tt)))))
  opened_lines routines.StAxYSp ls m =
      lines_put ls (on_stack ops.Sta ∷ alone ops.Pha ∷ alone ops.Txa ∷ alone ops.Iny ∷ on_stack ops.Sta ∷ alone ops.Pla ∷ []) m
      (a_stack ops.Sta, (plain ops.Pha, (plain ops.Txa, (plain ops.Iny, (a_stack ops.Sta, (plain ops.Pla, tt))))))
  opened_lines (routines.Unary Neg Ax) ls m =
      lines_put ls (alone ops.Clc ∷ with_byte ops.Eor 255 ∷ with_byte ops.Adc 1 ∷ alone ops.Tay ∷ alone ops.Txa ∷ with_byte ops.Eor 255 ∷ with_byte ops.Adc 0 ∷ alone ops.Tax ∷ alone ops.Tya ∷ []) m
      (plain ops.Clc, (a_byte ops.Eor 255 (omega arith), (a_byte ops.Adc 1 (omega arith), (plain ops.Tay, (plain ops.Txa, (a_byte ops.Eor 255 (omega arith), (a_byte ops.Adc 0 (omega arith), (plain ops.Tax, (plain ops.Tya, tt)))))))))
  opened_lines (routines.Unary Compl Ax) ls m =
      lines_put ls (with_byte ops.Eor 255 ∷ alone ops.Tay ∷ alone ops.Txa ∷ with_byte ops.Eor 255 ∷ alone ops.Tax ∷ alone ops.Tya ∷ []) m
      (a_byte ops.Eor 255 (omega arith), (plain ops.Tay, (plain ops.Txa, (a_byte ops.Eor 255 (omega arith), (plain ops.Tax, (plain ops.Tya, tt))))))
  opened_lines (routines.Unary Shl1 Ax) ls m =
      lines_put ls (on_tmp1 ops.Stx ∷ on_a ops.Asl ∷ on_tmp1 ops.Rol ∷ on_tmp1 ops.Ldx ∷ []) m (a_tmp1 ops.Stx, (an_a ops.Asl, (a_tmp1 ops.Rol, (a_tmp1 ops.Ldx, tt))))
  opened_lines (routines.Unary Shr1 Ax) ls m =
      lines_put ls (on_tmp1 ops.Stx ∷ on_tmp1 ops.Lsr ∷ on_a ops.Ror ∷ on_tmp1 ops.Ldx ∷ []) m (a_tmp1 ops.Stx, (a_tmp1 ops.Lsr, (an_a ops.Ror, (a_tmp1 ops.Ldx, tt))))
  opened_lines (routines.Unary Asr1 Ax) ls m =
      lines_put ls (with_byte ops.Cpx 128 ∷ on_tmp1 ops.Stx ∷ on_tmp1 ops.Ror ∷ on_a ops.Ror ∷ on_tmp1 ops.Ldx ∷ []) m
      (a_byte ops.Cpx 128 (omega arith), (a_tmp1 ops.Stx, (a_tmp1 ops.Ror, (an_a ops.Ror, (a_tmp1 ops.Ldx, tt)))))
  opened_lines _ ls m = absurd cc

  call_lines : (line : Line) (ls : List Line) → call_opened line ≡ Some ls → Each P ls
  call_lines (Call (callees.Routine r)) ls m = opened_lines r ls m
  call_lines _ ls m = absurd cc

  pub makes_39 : Makes P 39
  makes_39 = by_line P 39 (λ literals out lines table at w line post h hs m. placed P (call_opened line) (is_settled table at line) 1 at w (call_lines line) m)

  once_each : (lines : List Line) (n : ℕ) → Each P lines → Each P (once_and lines n)
  once_each lines zero h = h
  once_each lines (suc n) h = each_append P (once_and lines n) (alone ops.Iny ∷ lines) (once_each lines n h) (plain ops.Iny, h)

  times_each : (lines : List Line) (n : ℕ) → Each P lines → Each P (times lines n)
  times_each lines zero h = tt
  times_each lines (suc n) h = once_each lines n h

  a_zero : (op : Op) (i : ℕ) → P (on_zero op i)
  a_zero op i = is.zero_page op ZeroPage i

  a_through : (op : Op) (i : ℕ) → P (through op i)
  a_through op i = is.zero_page op IndirectY i

  copied_each : Each P byte_copied
  copied_each = (a_through ops.Lda 8, (a_through ops.Sta 10, tt))

  filled_each : Each P byte_filled
  filled_each = (a_through ops.Sta 10, tt)

  back_each : Each P given_back
  back_each = (a_zero ops.Lda 10, (a_zero ops.Ldx 11, tt))

  most : (n m : ℕ) (made : Option ℕ) → at_most n made ≡ Some m → m ≤ n
  most n m None e = absurd cc
  most n m (Some k) e = pick (nat_le k n) refl e
    where
      pick : (b : Bool) → nat_le k n ≡ b → (if b then Some k else None) ≡ Some m → m ≤ n
      pick true h e = let same : k ≡ m = cc in subst (λ (x : ℕ). x ≤ n) same (leb-true k n h)
      pick false h e = absurd cc

  measured_lines : (made : Option ℕ) (ls : List Line) → ((n : ℕ) → made ≡ Some n → n ≤ 65535) → measured made ≡ Some ls → Each P ls
  measured_lines None ls small m = absurd cc
  measured_lines (Some n) ls small m =
      let less = small n refl in
      lines_put ls (with_value ops.Ldx (n / 256) ∷ with_value ops.Lda (n % 256) ∷ []) m (a_byte ops.Ldx (n / 256) (omega (arith, less)), (a_byte ops.Lda (n % 256) (omega arith), tt))

  copied_lines : (count : Option ℕ) (ls : List Line) → copied count ≡ Some ls → Each P ls
  copied_lines None ls m = absurd cc
  copied_lines (Some n) ls m =
      lines_put ls (call_of routines.PopPtrs ∷ with_value ops.Ldy 0 ∷ (times byte_copied n ++ given_back)) m
      (is.call routines.PopPtrs, (a_byte ops.Ldy 0 (omega arith), each_append P (times byte_copied n) given_back (times_each byte_copied n copied_each) back_each))

  filled_lines : (count : Option ℕ) (ls : List Line) → filled count ≡ Some ls → Each P ls
  filled_lines None ls m = absurd cc
  filled_lines (Some n) ls m =
      lines_put ls (call_of routines.PopPtrs ∷ with_value ops.Ldy 0 ∷ on_zero ops.Lda 8 ∷ (times byte_filled n ++ given_back)) m
      (is.call routines.PopPtrs, (a_byte ops.Ldy 0 (omega arith), (a_zero ops.Lda 8, each_append P (times byte_filled n) given_back (times_each byte_filled n filled_each) back_each)))

  text_lines : (one other : Line) (count : Option ℕ) (ls : List Line) → P one → P other → text_copied one other count ≡ Some ls → Each P ls
  text_lines one other None ls a b m = absurd cc
  text_lines one other (Some n) ls a b m =
      lines_put ls (one ∷ other ∷ on_zero ops.Sta 8 ∷ on_zero ops.Stx 9 ∷ call_of routines.PopAx ∷ on_zero ops.Sta 10 ∷ on_zero ops.Stx 11 ∷ with_value ops.Ldy 0 ∷ (times byte_copied (n + 1) ++ given_back)) m (
        a,
        (
          b,
          (
            a_zero ops.Sta 8,
            (
              a_zero ops.Stx 9,
              (
                is.call routines.PopAx,
                (
                  a_zero ops.Sta 10,
                  (
                    a_zero ops.Stx 11,
                    (
                      a_byte ops.Ldy 0 (omega arith),
                      each_append P (times byte_copied (n + 1)) given_back (times_each byte_copied (n + 1) copied_each) back_each,
                    ),
                  ),
                ),
              ),
            ),
          ),
        ),
      )

  compared_lines : (count : Option ℕ) (ls : List Line) → compared count ≡ Some ls → Each P ls
  compared_lines None ls m = absurd cc
  compared_lines (Some n) ls m =
      lines_put ls (call_of routines.PopAx ∷ on_zero ops.Sta 8 ∷ on_zero ops.Stx 9 ∷ with_value ops.Ldy 0 ∷ through ops.Lda 8 ∷ with_value ops.Ldx 0 ∷ []) m
      (is.call routines.PopAx, (a_zero ops.Sta 8, (a_zero ops.Stx 9, (a_byte ops.Ldy 0 (omega arith), (a_through ops.Lda 8, (a_byte ops.Ldx 0 (omega arith), tt))))))

  library_lines : (literals : List (Sym × List ℕ)) (f : Library) (one other : Line) (word : Option (Operand × Operand)) (ls : List Line) → P one → P other → call_known literals f one other word ≡ Some ls → Each P ls
  library_lines literals Strlen one other word ls a b m = measured_lines (at_most 65535 (text_loaded literals word)) ls (λ n e. most 65535 n (text_loaded literals word) e) m
  library_lines literals Memcpy one other word ls a b m = copied_lines (count_loaded word) ls m
  library_lines literals Memset one other word ls a b m = filled_lines (count_loaded word) ls m
  library_lines literals Strcpy one other word ls a b m = text_lines one other (at_most 7 (text_loaded literals word)) ls a b m
  library_lines literals Strcmp one other word ls a b m = compared_lines (at_most 0 (text_loaded literals word)) ls m
  library_lines literals _ one other word ls a b m = absurd cc

  known_lines : (literals : List (Sym × List ℕ)) (one other call : Line) (ls : List Line) → P one → P other → lines_known literals one other call ≡ Some ls → Each P ls
  known_lines literals one other (Call (callees.Routine (routines.Library f))) ls a b m = library_lines literals f one other (word_loaded one other) ls a b m
  known_lines literals one other _ ls a b m = absurd cc

  known_call_lines : (literals : List (Sym × List ℕ)) (table : Table) (at : ℕ) (w : Rewriting) (one : Line) (post : List Line) → P one → Each P post → known_call literals table at one post ≡ Some w → Each P w.lines
  known_call_lines literals table at w one (other ∷ call ∷ post) h hs m =
      placed P (lines_known literals one other call) (is_settled table (at + 2) call) 3 at w (λ ls e. known_lines literals one other call ls h hs.0 e) m
  known_call_lines literals table at w one _ h hs m = absurd cc

  pub makes_40 : Makes P 40
  makes_40 = by_line P 40 (λ literals out lines table at w line post h hs m. known_call_lines literals table at w line post h hs m)

  -- ---- the 65C02

  zero_lines : (line next l : Line) → P next → zero_stored line next ≡ Some l → P l
  zero_lines (Do ops.Lda Immediate (Byte v)) (Do ops.Sta mode operand) l h m = line_given ((v == 0) && is_plain_place mode) (Do ops.Stz mode operand) l (is.moved ops.Sta ops.Stz mode mode operand h) m
  zero_lines _ _ l h m = absurd cc

  up_lines : (line next l : Line) → stepped_up line next ≡ Some l → P l
  up_lines (Do ops.Clc mode operand) (Do ops.Adc Immediate (Byte v)) l m = line_given (v == 1) (Do ops.Inc Accumulator Nothing) l (an_a ops.Inc) m
  up_lines _ _ l m = absurd cc

  down_lines : (line next l : Line) → stepped_down line next ≡ Some l → P l
  down_lines (Do ops.Sec mode operand) (Do ops.Sbc Immediate (Byte v)) l m = line_given (v == 1) (Do ops.Dec Accumulator Nothing) l (an_a ops.Dec) m
  down_lines _ _ l m = absurd cc

  load_lines : (line next l : Line) → P next → loaded_through line next ≡ Some l → P l
  load_lines (Do ops.Ldy Immediate (Byte v)) (Do ops.Lda IndirectY operand) l h m = line_given (v == 0) (Do ops.Lda ZeroPageIndirect operand) l (is.moved ops.Lda ops.Lda IndirectY ZeroPageIndirect operand h) m
  load_lines _ _ l h m = absurd cc

  store_lines : (line next l : Line) → P next → stored_through line next ≡ Some l → P l
  store_lines (Do ops.Ldy Immediate (Byte v)) (Do ops.Sta IndirectY operand) l h m = line_given (v == 0) (Do ops.Sta ZeroPageIndirect operand) l (is.moved ops.Sta ops.Sta IndirectY ZeroPageIndirect operand h) m
  store_lines _ _ l h m = absurd cc

  shorter_lines : (b : Bool) (at : ℕ) (made : Option Line) (w : Rewriting) → ((l : Line) → made ≡ Some l → P l) → shorter b at made ≡ Some w → Each P w.lines
  shorter_lines true at made w owed m = instead_of P 2 at made w owed m
  shorter_lines false at made w owed m = absurd cc

  processor_lines : (rule : ℕ) (table : Table) (at : ℕ) (w : Rewriting) (line : Line) (post : List Line) → Each P post → ((next l : Line) → P next → short_line rule line next ≡ Some l → P l)
      → processor_rule rule table at line post ≡ Some w → Each P w.lines
  processor_lines rule table at w line [] hs owed m = absurd cc
  processor_lines rule table at w line (next ∷ post) hs owed m = shorter_lines (is_dead table (at + 1) (set_of (left_otherwise rule))) at (short_line rule line next) w (λ l e. owed next l hs.0 e) m

  pub makes_41 : Makes P 41
  makes_41 = by_line P 41 (λ literals out lines table at w line post h hs m. processor_lines 41 table at w line post hs (λ next l k e. zero_lines line next l k e) m)

  pub makes_42 : Makes P 42
  makes_42 = by_line P 42 (λ literals out lines table at w line post h hs m. processor_lines 42 table at w line post hs (λ next l k e. up_lines line next l e) m)

  pub makes_43 : Makes P 43
  makes_43 = by_line P 43 (λ literals out lines table at w line post h hs m. processor_lines 43 table at w line post hs (λ next l k e. down_lines line next l e) m)

  pub makes_44 : Makes P 44
  makes_44 = by_line P 44 (λ literals out lines table at w line post h hs m. processor_lines 44 table at w line post hs (λ next l k e. load_lines line next l k e) m)

  pub makes_45 : Makes P 45
  makes_45 = by_line P 45 (λ literals out lines table at w line post h hs m. processor_lines 45 table at w line post hs (λ next l k e. store_lines line next l k e) m)
