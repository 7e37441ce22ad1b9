-- `negeax`, which changes nothing of the zero page but sreg.
use Rattle.std.proofs.Common.{◌-◌, ◌%◌, [], ◌∷◌, refl, sym}
use Rattle.std.proofs.lemmas.List.{append-nil}
use Rattle.c65_code.specs.declared.routine.Width.TheVariants.{Eax}
use Rattle.c65_code.specs.declared.routine.UnaryRoutine.TheVariants.{Neg}
use Rattle.c65_code.specs.declared.routine.Routine.TheVariants as routines
use Rattle.c65_code.specs.Effects.{small, eax}
use Rattle.c65_code.specs.Parts.{union_of}
use Rattle.c65_code.specs.LineState.{State, write, eax_of}
use Rattle.c65_code.specs.Rows.{Row, unary_row}
use Rattle.c65_code.specs.RawMachine.{RawSetting, called}
use Rattle.c65_rtl.proofs.Ways.{Ends}
use Rattle.c65_rtl.proofs.Meeting.{ends_by}
use Rattle.c65_rtl.proofs.SpPieces.{left}
use Rattle.c65_rtl.proofs.UnaryWords.{AreLongBytes}
use Rattle.c65_rtl.proofs.UnaryLongs.{negeax_lines, negeax_at, negated_bytes}
use Rattle.c65_rtl_law_inner.proofs.Straight.{ComesIn, straight_comes}
use Rattle.c65_rtl_law_wide.specs.Rows.{HoldsInner}

abbrev pub negeax_row : State → Row
negeax_row t = record (unary_row Neg Eax t) { room = 0; changes = union_of small eax }

pub negate_long_comes : (s : RawSetting) → HoldsInner s (routines.Unary Neg Eax) → ComesIn s 0 0 18 negeax_row (routines.Unary Neg Eax)
negate_long_comes s has = straight_comes s 0 (routines.Unary Neg Eax) negeax_row negeax_lines (λ t. refl) has refl
    (λ bounds back t may. negeax_at s.place bounds (Ends (negeax_row t) t) (called back t)
    (λ a x l h y n v z c is_a is_x is_l is_h.
    let bytes : AreLongBytes ((4294967296 - eax_of t) % 4294967296) a x l h = negated_bytes t may.bytes a x l h is_a is_x is_l is_h in
    ends_by (negeax_row t) t (left (called back t) a x y n v z c (write (write t.zp 2 l) 3 h) t.mem) ((2, l) ∷ (3, h) ∷ []) (record {
      zp = λ i two. refl;
      fit = refl;
      small = (refl, refl, refl, refl, refl);
      low_kept = refl;
      high_kept = refl;
      a_kept = tt;
      x_kept = tt;
      sp = refl;
      a = bytes.a;
      x = bytes.x;
      sreg = bytes.sreg;
      pointers = tt;
      bank = tt;
      mem = λ b h. refl;
      input = refl;
      output = sym (append-nil t.output);
      ended = may.running;
    })))
