-- The lines of one case: they lead to its label where the primary register has its bits, and go on behind them where it has not.
use Rattle.std.proofs.Common.{◌≡◌, ℕ, ℤ, suc, ◌+◌, ◌*◌, ◌<◌, List, [], ◌∷◌, refl, sym, ◌∙◌, subst, arith}
use Rattle.std.specs.Prelude.{length}
use Rattle.c65_ints.specs.Ranges.{residue}
use Rattle.c65_mach.specs.declared.rows.Op.TheVariants.{Beq, Bne, Cmp, Cpx, Cpy, Ldy}
use Rattle.c65_mach.specs.declared.rows.Op.{Op}
use Rattle.c65_mach.specs.declared.rows.Mode.TheVariants.{Immediate}
use Rattle.c65_mach.specs.State.{Regs}
use Rattle.c65_mach.specs.Step.{compared, with_y}
use Rattle.c65_meaning.specs.State as meaning
use Rattle.c65_meaning.specs.State.{Scene}
use Rattle.c65_code.specs.declared.line.Line.{Line}
use Rattle.c65_code.specs.declared.line.Line.TheVariants.{Label}
use Rattle.c65_code.specs.declared.line.Operand.TheVariants.{Byte}
use Rattle.c65_code.specs.declared.routine.Width.{Width}
use Rattle.c65_code.specs.declared.routine.Width.TheVariants.{Ax, Eax}
use Rattle.c65_code.specs.LineState.{State, IsBytes}
use Rattle.c65_code.specs.Placement.{IsPlacement}
use Rattle.c65_code.specs.Forms.{Plain, form_of}
use Rattle.c65_code.specs.Moves.{labelled}
use Rattle.c65_code.specs.Numbers.{words_of}
use Rattle.c65_code.specs.Rows.{primary_of}
use Rattle.c65_code.specs.Comes.{Seen}
use Rattle.c65_genwide.specs.Lines.{value}
use Rattle.c65_genentry.specs.Words.{zero_page, branch}
use Rattle.c65_genentry.specs.Choice.{bits_of, byte_of, word_test, long_test, case_code}
use Rattle.c65_agree_step.specs.Laws.{after_operation}
use Rattle.c65_agree_step.proofs.Ways.{labels_are_passed}
use Rattle.c65_agree_store.specs.Stands.{Placing, Banks}
use Rattle.c65_agree_state.specs.World.{World, setting_in, Active, place_in, HasAt, HasCome, IsPlaced, lines_of}
use Rattle.c65_agree_state.specs.Follows.{Follows}
use Rattle.c65_agree_state.specs.Exprs.{Ready}
use Rattle.c65_agree_state.proofs.Nodes.{has_front, has_back}
use Rattle.c65_agree_state.proofs.Followed.{follows_weaken}
use Rattle.c65_agree_choice.proofs.Numbers.{narrow_word, wide_word}
use Rattle.c65_agree_choice.proofs.Ways.{when_same, when_other, Goes, Counted, compares, loads_y, leaves_other, leaves_same}

-- A and X are as at first
pub record Stays (t : State) (r : Regs) : Type 0 where
  pub a : r.a ≡ t.regs.a
  pub x : r.x ≡ t.regs.x
  pub bytes : IsBytes (record t { regs = r })

module _ (g : World) (a : Active) (needs : ℕ) (c : Scene) (w : Placing) (b : Banks) (t : State) (placed : IsPlacement g.code g.place) (ready : Ready g a 0 needs c w b t) (n : ℕ) (m : meaning.State) where
  abbrev pub On : ℕ → ℕ → Regs → Seen → Type 0
  On = Goes g a needs c w b t placed ready n m

  abbrev pub Count : Seen → Type 0
  Count = Counted g a needs c w b t placed ready n m

  abbrev pub Comes : ℕ → Seen → Type 0
  Comes l later = HasCome g c.turns (place_in g a (labelled (lines_of g a) l)) later

  -- to the label of the case, where its bytes are those of the registers
  abbrev pub Taken : ℕ → ℕ → Type 0 → Type 0
  Taken v l Same = Same → (r : Regs) (later : Seen) → Stays t r → Comes l later → On v (labelled (lines_of g a) l) r later

  -- and on where they are others
  abbrev pub Passed : ℕ → ℕ → Type 0 → Type 0
  Passed v p Same = (Same → ⊥) → (r : Regs) (later : Seen) → Stays t r → Count later → On v p r later

  module _ (other p : ℕ) (here : labelled (lines_of g a) other ≡ p) where
    -- on at the label behind the lines of the case
    at_other : (v : ℕ) (r : Regs) (later : Seen) → Comes other later → (Count later → On v p r later) → On v (labelled (lines_of g a) other) r later
    at_other v r later come k = subst (λ q. On v q r later) (sym here) (k (omega (arith, come)))

    -- a byte of a register is compared, and where it is another one the lines are left
    checks : (op : Op) (held byte v q : ℕ) (r : Regs) (seen : Seen) → form_of (value op byte) ≡ Plain op Immediate (Byte byte)
        → after_operation (setting_in g) op Immediate (Byte byte) (record t { regs = r }) ≡ record t { regs = compared held byte r } → held < 256 → byte < 256 → Stays t r → Count seen
        → HasAt (lines_of g a) q (value op byte ∷ branch Bne other ∷ [])
        → (held ≡ byte → (later : Seen) → Stays t (compared held byte r) → Count later → On v (suc (suc q)) (compared held byte r) later)
        → Passed v p (held ≡ byte) → On (1 + (2 + v)) q r seen
    checks op held byte v q r seen formed does lh lb stays counted has k f =
        compares g a needs c w b t placed ready n m op held byte (2 + v) q r seen formed does lb stays.bytes counted (has.0, tt) (λ later bytes more.
        let now : Stays t (compared held byte r) = record { a = stays.a; x = stays.x; bytes = bytes } in
        leaves_other g a needs c w b t placed ready n m v (suc q) other (compared held byte r) later bytes more (has.1.0, tt)
        (λ same last most. k (when_same held byte lh lb same) last now most)
        (λ differ last come. at_other v (compared held byte r) last come (λ most. f (when_other held byte lh lb differ) (compared held byte r) last now most)))

    -- a byte of the zero page, by Y
    checks_y : (i byte v q : ℕ) (r : Regs) (seen : Seen) → i < 256 → byte < 256 → Stays t r → Count seen
        → HasAt (lines_of g a) q (zero_page Ldy i ∷ value Cpy byte ∷ branch Bne other ∷ [])
        → (t.zp i ≡ byte → (s : Regs) (later : Seen) → Stays t s → Count later → On v (suc (suc (suc q))) s later)
        → Passed v p (t.zp i ≡ byte) → On (1 + (1 + (2 + v))) q r seen
    checks_y i byte v q r seen li lb stays counted has k f =
        loads_y g a needs c w b t placed ready n m i (1 + (2 + v)) q r seen li stays.bytes counted (has.0, tt) (λ later bytes more.
        let y : Regs = with_y (t.zp i) r in
        checks Cpy (t.zp i) byte v (suc q) y later refl refl (ready.joins.bytes.zp i) lb (record { a = stays.a; x = stays.x; bytes = bytes }) more has.1
        (λ same last now most. k same (compared (t.zp i) byte y) last now most) f)

  abbrev pub SameWord : ℕ → Type 0
  SameWord bits = (t.regs.x ≡ byte_of bits 256) × (t.regs.a ≡ byte_of bits 1)

  abbrev pub SameLong : ℕ → Type 0
  SameLong bits = (t.zp 2 ≡ byte_of bits 65536) × (t.zp 3 ≡ byte_of bits 16777216) × SameWord bits

  low : (bits unit : ℕ) → byte_of bits unit < 256
  low bits unit = omega arith

  -- A is compared last
  pub last_goes : (v q l byte : ℕ) (r : Regs) (seen : Seen) → byte < 256 → Stays t r → Count seen → HasAt (lines_of g a) q (value Cmp byte ∷ branch Beq l ∷ [])
      → Taken v l (t.regs.a ≡ byte) → Passed v (suc (suc q)) (t.regs.a ≡ byte) → On (1 + (2 + v)) q r seen
  last_goes v q l byte r seen lb stays counted has lands passes =
      let lh : r.a < 256 = stays.bytes.a in
      compares g a needs c w b t placed ready n m Cmp r.a byte (2 + v) q r seen refl refl lb stays.bytes counted (has.0, tt) (λ later bytes more.
      let now : Stays t (compared r.a byte r) = record { a = stays.a; x = stays.x; bytes = bytes } in
      leaves_same g a needs c w b t placed ready n m v (suc q) l (compared r.a byte r) later bytes more (has.1.0, tt)
      (λ differ last most. passes (λ e. when_other r.a byte lh lb differ (stays.a ∙ e)) (compared r.a byte r) last now most)
      (λ same last come. lands (sym stays.a ∙ when_same r.a byte lh lb same) (compared r.a byte r) last now come))

  module _ (v p other l bits : ℕ) (here : labelled (lines_of g a) other ≡ p) where
    abbrev word_weight : ℕ
    word_weight = 1 + (2 + (1 + (2 + v)))

    abbrev long_weight : ℕ
    long_weight = 1 + (1 + (2 + (1 + (1 + (2 + word_weight)))))

    word_goes : (q : ℕ) (r : Regs) (seen : Seen) → suc (suc (suc (suc q))) ≡ p → Stays t r → Count seen → HasAt (lines_of g a) q (word_test bits other l)
        → Taken v l (SameWord bits) → Passed v p (SameWord bits) → On word_weight q r seen
    word_goes q r seen ends stays counted has lands passes =
        checks other p here Cpx r.x (byte_of bits 256) (1 + (2 + v)) q r seen refl refl stays.bytes.x (low bits 256) stays counted (has.0, (has.1.0, tt)) (λ same later now more.
        last_goes v (suc (suc q)) l (byte_of bits 1) (compared r.x (byte_of bits 256) r) later (low bits 1) now more (has.1.1.0, (has.1.1.1.0, tt))
        (λ e. lands (sym stays.x ∙ same, e)) (subst (λ i. Passed v i (t.regs.a ≡ byte_of bits 1)) (sym ends) (λ e. passes (λ h. e h.1)))) (λ differ s later now more.
        follows_weaken g n v (1 + (2 + v)) m _ _ later (omega arith) (passes (λ h. differ (stays.x ∙ h.0)) s later now more))

    long_goes : (q : ℕ) (r : Regs) (seen : Seen) → suc (suc (suc (suc (suc (suc (suc (suc (suc (suc q))))))))) ≡ p → Stays t r → Count seen → HasAt (lines_of g a) q (long_test bits other l)
        → Taken v l (SameLong bits) → Passed v p (SameLong bits) → On long_weight q r seen
    long_goes q r seen ends stays counted has lands passes =
        let q3 : ℕ = suc (suc (suc q)) in
        let q6 : ℕ = suc (suc (suc q3)) in
        checks_y other p here 2 (byte_of bits 65536) (1 + (1 + (2 + word_weight))) q r seen (omega arith) (low bits 65536) stays counted (has.0, (has.1.0, (has.1.1.0, tt))) (λ same s later now more.
        checks_y other p here 3 (byte_of bits 16777216) word_weight q3 s later (omega arith) (low bits 16777216) now more (has.1.1.1.0, (has.1.1.1.1.0, (has.1.1.1.1.1.0, tt))) (λ same2 s2 later2 now2 more2.
        word_goes q6 s2 later2 ends now2 more2 has.1.1.1.1.1.1 (λ e. lands (same, same2, e)) (λ e. passes (λ h. e h.2))) (λ differ s2 later2 now2 more2.
        follows_weaken g n v word_weight m _ _ later2 (omega arith) (passes (λ h. differ h.1) s2 later2 now2 more2))) (λ differ s later now more.
        follows_weaken g n v (1 + (1 + (2 + word_weight))) m _ _ later (omega arith) (passes (λ h. differ h.0) s later now more))

  abbrev pub SameAs : Width → ℤ → Type 0
  SameAs width z = primary_of width t ≡ residue (words_of width) z

  word_is : (z : ℤ) → SameWord (bits_of z) → SameAs Ax z
  word_is z h = omega (arith, h.0, h.1, narrow_word z)

  is_word : (z : ℤ) → SameAs Ax z → SameWord (bits_of z)
  is_word z h =
      let la : t.regs.a < 256 = ready.joins.bytes.a in
      let lx : t.regs.x < 256 = ready.joins.bytes.x in
      (omega (arith, h, la, lx, narrow_word z, low (bits_of z) 1, low (bits_of z) 256), omega (arith, h, la, lx, narrow_word z, low (bits_of z) 1, low (bits_of z) 256))

  long_is : (z : ℤ) → SameLong (bits_of z) → SameAs Eax z
  long_is z h = omega (arith, h.0, h.1, h.2.0, h.2.1, wide_word z)

  -- four bytes of a word are those of another one that is the same
  four_bytes : (a b c d e f g h : ℕ) → a < 256 → b < 256 → c < 256 → d < 256 → e < 256 → f < 256 → g < 256 → h < 256
      → a + 256 * b + 65536 * (c + 256 * d) ≡ e + 256 * f + 65536 * (g + 256 * h) → (c ≡ g) × (d ≡ h) × ((b ≡ f) × (a ≡ e))
  four_bytes a b c d e f g h la lb lc ld le lf lg lh same = (omega (arith, la, lb, lc, ld, le, lf, lg, lh, same), omega (arith, la, lb, lc, ld, le, lf, lg, lh, same), (omega (arith, la, lb, lc, ld, le, lf, lg, lh, same), omega (arith, la, lb, lc, ld, le, lf, lg, lh, same)))

  is_long : (z : ℤ) → SameAs Eax z → SameLong (bits_of z)
  is_long z h =
      let bits : ℕ = bits_of z in
      let i = ready.joins.bytes in
      four_bytes t.regs.a t.regs.x (t.zp 2) (t.zp 3) (byte_of bits 1) (byte_of bits 256) (byte_of bits 65536) (byte_of bits 16777216)
      i.a i.x (i.zp 2) (i.zp 3) (low bits 1) (low bits 256) (low bits 65536) (low bits 16777216) (h ∙ sym (wide_word z))

  -- behind the label that follows a case
  past : (v q other : ℕ) (Same : Type 0) → HasAt (lines_of g a) q (Label other ∷ []) → Passed v (suc q) Same → Passed v q Same
  past v q other Same has passes e r later stays more = subst (λ s. Follows g n v m s (record t { regs = r }) later) (sym (labels_are_passed (setting_in g) a.symbol q other has.0)) (passes e r later stays more)

  pub case_goes : (width : Width) (v q other l : ℕ) (z : ℤ) (r : Regs) (seen : Seen) → IsPlaced (lines_of g a) → Stays t r → Count seen → HasAt (lines_of g a) q (case_code width z l other)
      → Taken v l (SameAs width z) → Passed v (q + length (case_code width z l other)) (SameAs width z) → On (14 + v) q r seen
  case_goes Ax v q other l z r seen labels stays counted has lands passes =
      let T : List Line = word_test (bits_of z) other l in
      let p : ℕ = q + length T in
      let at : HasAt (lines_of g a) p (Label other ∷ []) = has_back (lines_of g a) q T (Label other ∷ []) has in
      let ends : q + length (case_code Ax z l other) ≡ suc p = omega arith in
      let behind : Passed v (suc p) (SameWord (bits_of z)) = subst (λ i. Passed v i (SameWord (bits_of z))) ends (λ e. passes (λ h. e (is_word z h))) in
      follows_weaken g n (word_weight v p other l (bits_of z) (labels p other at.0)) (14 + v) m _ _ seen (omega arith)
      (word_goes v p other l (bits_of z) (labels p other at.0) q r seen (omega arith) stays counted (has_front (lines_of g a) q T (Label other ∷ []) has)
      (λ e. lands (word_is z e)) (past v p other (SameWord (bits_of z)) at behind))
  case_goes Eax v q other l z r seen labels stays counted has lands passes =
      let T : List Line = long_test (bits_of z) other l in
      let p : ℕ = q + length T in
      let at : HasAt (lines_of g a) p (Label other ∷ []) = has_back (lines_of g a) q T (Label other ∷ []) has in
      let ends : q + length (case_code Eax z l other) ≡ suc p = omega arith in
      let behind : Passed v (suc p) (SameLong (bits_of z)) = subst (λ i. Passed v i (SameLong (bits_of z))) ends (λ e. passes (λ h. e (is_long z h))) in
      follows_weaken g n (long_weight v p other l (bits_of z) (labels p other at.0)) (14 + v) m _ _ seen (omega arith)
      (long_goes v p other l (bits_of z) (labels p other at.0) q r seen (omega arith) stays counted (has_front (lines_of g a) q T (Label other ∷ []) has)
      (λ e. lands (long_is z e)) (past v p other (SameLong (bits_of z)) at behind))
