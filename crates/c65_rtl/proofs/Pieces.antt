-- Pieces of lines put one behind another.
use Rattle.std.proofs.Common.{◌≡◌, List, ◌∷◌, OnOk, Result, subst}
use Rattle.c65_code.specs.declared.line.Line.{Line}
use Rattle.c65_code.specs.Segments.{Drafted}
use Rattle.c65_rtl.specs.Assembly.{with_lines, with_pieces}

-- one piece, and then the others
pub piece_then : {E : Type 0} (r : Result (Unit {0}) E) (a b c : Drafted) (piece : List Line) (pieces : List (List Line)) → b ≡ with_lines a piece → OnOk r (c ≡ with_pieces b pieces) → OnOk r (c ≡ with_pieces a (piece ∷ pieces))
piece_then r a b c piece pieces e h = let P : Drafted → Type 0 = λ d. OnOk r (c ≡ with_pieces d pieces) in subst P e h
