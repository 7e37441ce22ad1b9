-- Each routine's lines keep what a segment's lines keep.
use Rattle.std.proofs.Common.{◌≡◌, List, IsTrue, false, refl, subst, sym}
use Rattle.c65_code.specs.declared.line.Line.{Line}
use Rattle.c65_code.specs.declared.routine.Routine.{Routine}
use Rattle.c65_code.specs.declared.routine.Routine.TheVariants as routines
use Rattle.c65_code.specs.declared.routine.TosOp.{TosOp}
use Rattle.c65_code.specs.declared.routine.TosOp.TheVariants as tos
use Rattle.c65_code.specs.declared.routine.Width.TheVariants.{Ax, Eax}
use Rattle.c65_code.specs.Segments.{IsSegment}
use Rattle.c65_rtlwide.specs.Wide.{is_wide, lines_of}

false_true : IsTrue false → ⊥
false_true h = cc

operator : (op : TosOp) → IsTrue (is_wide (routines.Tos op Eax)) → IsSegment (lines_of (routines.Tos op Eax))
operator tos.Mul h = record { fit = refl; labels = refl; targets = refl; closed = refl }
operator tos.Div h = record { fit = refl; labels = refl; targets = refl; closed = refl }
operator tos.Mod h = record { fit = refl; labels = refl; targets = refl; closed = refl }
operator tos.UDiv h = record { fit = refl; labels = refl; targets = refl; closed = refl }
operator tos.UMod h = record { fit = refl; labels = refl; targets = refl; closed = refl }
operator _ h = absurd (false_true h)

pub segment_of : (which : Routine) → IsTrue (is_wide which) → IsSegment (lines_of which)
segment_of (routines.Tos op Eax) h = operator op h
segment_of (routines.Tos tos.Mul Ax) h = absurd (false_true h)
segment_of (routines.Tos tos.Div Ax) h = absurd (false_true h)
segment_of (routines.Tos tos.Mod Ax) h = absurd (false_true h)
segment_of (routines.Tos tos.UDiv Ax) h = absurd (false_true h)
segment_of (routines.Tos tos.UMod Ax) h = absurd (false_true h)
segment_of (routines.Tos _ Ax) h = absurd (false_true h)
segment_of _ h = absurd (false_true h)

-- lines that are the routine's
pub closes : (which : Routine) (lines : List Line) → IsTrue (is_wide which) → lines ≡ lines_of which → IsSegment lines
closes which lines h e = subst IsSegment (sym e) (segment_of which h)
