-- Two lines that go, and one in place of two.
use Rattle.std.proofs.Common.{◌≡◌, ℕ, Bool, true, false, List, [], ◌∷◌, drop, Some, refl, sym, subst, ap, ◌∙◌, arith}
use Rattle.std.specs.Prelude.{bit_and, bit_or, bit_xor}
use Rattle.std.proofs.lemmas.List.Elements.{All-tail}
use Rattle.c65_mach.specs.declared.rows.Op.{Op}
use Rattle.c65_mach.specs.declared.rows.Op.TheVariants as ops
use Rattle.c65_mach.specs.declared.rows.Mode.TheVariants.{Immediate}
use Rattle.c65_code.specs.declared.line.Operand.TheVariants.{Byte}
use Rattle.c65_code.specs.declared.line.Line.{Line}
use Rattle.c65_code.specs.declared.line.Line.TheVariants.{Label, Do, Call}
use Rattle.c65_code.specs.Segments.{IsSegment, labels_of, is_closing, closed_by}
use Rattle.c65_code.specs.Writable.{IsLineWritable}
use Rattle.c65_pass.specs.ArithRules.{both_gone_if, joined_masks}
use Rattle.c65_pass.specs.Rewriting.{Rewriting, Keeps}
use Rattle.c65_pass.proofs.Replaced.{IsQuiet, IsBoth}
use Rattle.c65_pass.proofs.Windows.{keeps_window}

no_labels : (line next : Line) → IsQuiet line → IsQuiet next → [] ≡ labels_of (line ∷ next ∷ [])
no_labels (Label l) next quiet after = let no = quiet.plain in absurd cc
no_labels (Do op mode operand) next quiet after = sym after.plain
no_labels (Call callee) next quiet after = sym after.plain

-- lines that close a segment behind a line that goes on close it behind any line
closed_anyhow : (post : List Line) (b : Bool) → closed_by false post ≡ true → closed_by b post ≡ true
closed_anyhow [] b h = absurd cc
closed_anyhow (line ∷ post) b h = h

both_gone : (lines : List Line) (at : ℕ) (line next : Line) (post : List Line) → drop at lines ≡ line ∷ next ∷ post → IsSegment lines → IsQuiet line → IsQuiet next
    → Keeps lines (record { at = at; count = 2; lines = [] })
both_gone lines at line next post e s quiet after =
    keeps_window lines at 2 (line ∷ next ∷ []) [] post e (omega arith) (omega arith) s
    (record { fit = refl; labels = no_labels line next quiet after; targets = refl; closed = λ b k. closed_anyhow post b (ap (λ d. closed_by d post) (sym after.onward) ∙ k) })
    (omega arith) (omega arith) (λ n all. All-tail (IsLineWritable n) next post (All-tail (IsLineWritable n) line (next ∷ post) all))

pub both_gone_keeps : (lines : List Line) (at : ℕ) (line next : Line) (post : List Line) (w : Rewriting) (b : Bool) → drop at lines ≡ line ∷ next ∷ post → IsSegment lines
    → (b ≡ true → IsQuiet line × IsQuiet next) → both_gone_if b at ≡ Some w → Keeps lines w
both_gone_keeps lines at line next post w true e s quiet m =
    let is : record { at = at; count = 2; lines = [] } ≡ w = cc in
    subst (Keeps lines) is (both_gone lines at line next post e s (quiet refl).0 (quiet refl).1)
both_gone_keeps lines at line next post w false e s quiet m = absurd cc

-- ---- one line in place of two

one_of : (op next : Op) (v w u : ℕ) (l : Line) → is_closing (Do op Immediate (Byte v)) ≡ false → is_closing (Do next Immediate (Byte w)) ≡ false
    → is_closing (Do op Immediate (Byte u)) ≡ false → Some (Do op Immediate (Byte u)) ≡ Some l → IsBoth (Do op Immediate (Byte v)) (Do next Immediate (Byte w)) l
one_of op next v w u l first second new h =
    let is : Do op Immediate (Byte u) ≡ l = cc in
    subst (IsBoth (Do op Immediate (Byte v)) (Do next Immediate (Byte w))) is (record {
      first = record { plain = refl; onward = first };
      second = record { plain = refl; onward = second };
      quiet = record { plain = refl; onward = new };
      fit = λ f. f;
      same = refl;
      size = omega arith;
      writable = λ n f. f;
    })

masks_both : (op next : Op) (v w : ℕ) (l : Line) → joined_masks (Do op Immediate (Byte v)) (Do next Immediate (Byte w)) ≡ Some l
    → IsBoth (Do op Immediate (Byte v)) (Do next Immediate (Byte w)) l
masks_both ops.Lda ops.And v w l h = one_of ops.Lda ops.And v w (bit_and v w) l refl refl refl h
masks_both ops.Lda ops.Ora v w l h = one_of ops.Lda ops.Ora v w (bit_or v w) l refl refl refl h
masks_both ops.Lda ops.Eor v w l h = one_of ops.Lda ops.Eor v w (bit_xor v w) l refl refl refl h
masks_both ops.And ops.And v w l h = one_of ops.And ops.And v w (bit_and v w) l refl refl refl h
masks_both ops.Ora ops.Ora v w l h = one_of ops.Ora ops.Ora v w (bit_or v w) l refl refl refl h
masks_both ops.Eor ops.Eor v w l h = one_of ops.Eor ops.Eor v w (bit_xor v w) l refl refl refl h
masks_both _ _ v w l h = absurd cc

pub joined_both : (line next l : Line) → joined_masks line next ≡ Some l → IsBoth line next l
joined_both (Do op Immediate (Byte v)) (Do next Immediate (Byte w)) l h = masks_both op next v w l h
joined_both _ _ l h = absurd cc
