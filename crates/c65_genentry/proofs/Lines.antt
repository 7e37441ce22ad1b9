-- Lines behind lines.
use Rattle.std.proofs.Common.{◌≡◌, List, ◌++◌, ap, ◌∙◌, append_assoc}
use Rattle.c65_code.specs.declared.line.Line.{Line}
use Rattle.c65_code.specs.Segments.{Drafted}
use Rattle.c65_genwide.specs.Lines.{with_lines}

pub lines_twice : (d e f : Drafted) (xs ys : List Line) → e ≡ with_lines d xs → f ≡ with_lines e ys → f ≡ with_lines d (xs ++ ys)
lines_twice d e f xs ys p q =
    q ∙ ap (λ (g : Drafted). with_lines g ys) p ∙ ap (λ (ls : List Line). record d { lines = ls }) (append_assoc d.lines xs ys)
