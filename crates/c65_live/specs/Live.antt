-- What is live after the lines of a function (docs/MACHINE.md, "Zero page"): what may be read behind a line before it is set.
use Rattle.std.specs.Prelude.{◌≡◌, ℕ, ◌+◌, false, IsTrue, List, [], ◌∷◌, Some, slice_get}
use Rattle.c65_mach.specs.declared.rows.Op.TheVariants as ops
use Rattle.c65_mach.specs.declared.rows.Mode.TheVariants.{Indirect}
use Rattle.c65_code.specs.declared.parts.Part.{Part}
use Rattle.c65_code.specs.declared.parts.RegSet.{RegSet}
use Rattle.c65_code.specs.declared.line.Line.{Line}
use Rattle.c65_code.specs.declared.line.Line.TheVariants.{Do}
use Rattle.c65_code.specs.Parts.{no_parts, all_parts, has_part, union_of}
use Rattle.c65_code.specs.Effects.{kept_at_calls}
use Rattle.c65_code.specs.Access.{line_reads, line_sets}
use Rattle.c65_code.specs.Segments.{target_of, is_closing}
use Rattle.c65_code.specs.Moves.{labelled}

-- Line r may come behind line q: the next one, unless q is RTS or JMP, and the label to which q jumps or branches.
pub data Next (lines : List Line) : ℕ → ℕ → Type 0 where
  onward : {q : ℕ} {l : Line} → slice_get lines q ≡ Some l → is_closing l ≡ false → Next lines q (q + 1)
  goes : {q label : ℕ} {l : Line} → slice_get lines q ≡ Some l → target_of l ≡ label ∷ [] → Next lines q (labelled lines label)

-- What may be read once a line has left its function: behind RTS what the function gives, and sp and regbank, which its
-- caller finds as they were; behind a jump through a pointer anything.
abbrev pub left_parts : RegSet → Line → RegSet
left_parts out (Do ops.Rts mode operand) = union_of out kept_at_calls
left_parts out (Do ops.Jmp Indirect operand) = all_parts
left_parts out _ = no_parts

-- A part is live after a line where it may be read outside, or where some line that may come behind reads it, or does not
-- set it and the part is live after that line.
pub data IsLive (lines : List Line) (out : RegSet) : ℕ → Part → Type 0 where
  left : {q : ℕ} {part : Part} {l : Line} → slice_get lines q ≡ Some l → IsTrue (has_part (left_parts out l) part) → IsLive lines out q part
  read : {q r : ℕ} {part : Part} {l : Line} → Next lines q r → slice_get lines r ≡ Some l → IsTrue (has_part (line_reads out l) part) → IsLive lines out q part
  kept : {q r : ℕ} {part : Part} {l : Line} → Next lines q r → slice_get lines r ≡ Some l → has_part (line_sets l) part ≡ false → IsLive lines out r part → IsLive lines out q part
