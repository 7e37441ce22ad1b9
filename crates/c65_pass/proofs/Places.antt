-- What a rule makes at a place, by the line there and those after it.
use Rattle.std.proofs.Common.{◌≡◌, ℕ, List, [], ◌∷◌, drop, Some, refl}
use Rattle.c65_code.specs.declared.line.Line.{Line}
use Rattle.c65_code.specs.declared.line.Sym.{Sym}
use Rattle.c65_know.specs.Known.{Annotated}
use Rattle.c65_live.specs.Tables.{Table}
use Rattle.c65_pass.specs.Rewriting.{Rewriting, Keeps}
use Rattle.c65_pass.specs.Rules.{made_by, match_there, match_at}

pub at_line : (rule : ℕ) (literals : List (Sym × List ℕ)) (noted : Annotated) (table : Table) (at : ℕ) (w : Rewriting)
    → ((line : Line) (post : List Line) → drop at noted.lines ≡ line ∷ post → made_by rule literals noted table at line post ≡ Some w → Keeps noted.lines w)
    → match_at rule literals noted table at ≡ Some w → Keeps noted.lines w
at_line rule literals noted table at w keeps m = go (drop at noted.lines) refl m
  where
    go : (rest : List Line) → drop at noted.lines ≡ rest → match_there rule literals noted table at rest ≡ Some w → Keeps noted.lines w
    go [] e k = absurd cc
    go (line ∷ post) e k = keeps line post e k
