-- The lines of `printf` keep what a segment's lines keep.
use Rattle.std.proofs.Common.{refl}
use Rattle.c65_code.specs.Segments.{IsSegment}
use Rattle.c65_va.specs.Printf.{printf_lines}

pub printf_segment : IsSegment printf_lines
printf_segment = record { fit = refl; labels = refl; targets = refl; closed = refl }
