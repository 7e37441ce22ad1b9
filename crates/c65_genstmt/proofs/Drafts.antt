-- Drafts and segments by their parts.
use Rattle.std.proofs.Common.{◌≡◌, ℕ, ◌<◌, Bool, Ok, Err, List, [], sym, ap, ◌∙◌}
use Rattle.std.specs.Prelude.{if◌then◌else◌}
use Rattle.std.proofs.lemmas.Bool.{lt-ltb}
use Rattle.c65_base.specs.declared.refusal.Size.TheVariants as sizes
use Rattle.c65_base.specs.Answers.{large}
use Rattle.c65_code.specs.declared.line.Line.{Line}
use Rattle.c65_code.specs.declared.parts.RegSet.{RegSet}
use Rattle.c65_code.specs.Segments.{Drafted, Segment}
use Rattle.c65_genstmt.specs.Functions.{no_lines, closed, finished}

pub draft_is : (d : Drafted) (out : RegSet) → d.lines ≡ [] → d.labels ≡ 0 → d.out ≡ out → d ≡ no_lines out
draft_is d out lines labels gives =
    ap (λ (ls : List Line). record d { lines = ls }) lines
    ∙ ap (λ (n : ℕ). record d { lines = []; labels = n }) labels
    ∙ ap (λ (o : RegSet). no_lines o) gives

pub segment_is : (s : Segment) (d : Drafted) → s.lines ≡ d.lines → s.out ≡ d.out → s ≡ closed d
segment_is s d lines gives =
    ap (λ (ls : List Line). record s { lines = ls }) lines ∙ ap (λ (o : RegSet). record (closed d) { out = o }) gives

-- labels of 32 bits are few
pub finished_is : (s : Segment) (d : Drafted) → d.labels < 4294967296 → s.lines ≡ d.lines → s.out ≡ d.out → finished d ≡ Ok s
finished_is s d few lines gives =
    ap (λ (b : Bool). if b then Ok (closed d) else Err (large sizes.Frame 0)) (lt-ltb d.labels 4294967296 few) ∙ ap (λ (x : Segment). Ok x) (sym (segment_is s d lines gives))
