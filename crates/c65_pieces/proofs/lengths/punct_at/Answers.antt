use Rattle.std.proofs.Common.{◌≡◌, ℕ, List, [], ◌∷◌, Some, refl, ◌∙◌}
use Rattle.c65_lex.specs.Cells.{bytes}
use Rattle.c65_pieces.specs.Settled.{ahead, cell_of}
use Rattle.c65_lex.specs.Lengths.{punct_length, first}
use Rattle.c65_pieces.proofs.lengths.punct_at.Goals as goal

from_first : (b c d : ℕ) (bs : List ℕ) → Some d ≡ first bs → punct_length (b ∷ c ∷ d ∷ []) ≡ punct_length (b ∷ c ∷ bs)
from_first b c d [] e = absurd cc
from_first b c d (x ∷ bs) e = let same : d ≡ x = cc in rw same refl

pub returns-in-Some-peek : goal.returns-in-Some-peek
returns-in-Some-peek c =
    let r = c.in-Some.second in
    let e : ahead c.args.lines.now c.args.rest ≡ cell_of r ∷ ahead c.args.lines.now r.rest = c.in-Some.ensures in
    c.length_of_three.ensures ∙ from_first c.args.first r.byte c.in-Some-peek.third (bytes (ahead c.args.lines.now r.rest)) c.in-Some-peek.ensures ∙ rw e refl
