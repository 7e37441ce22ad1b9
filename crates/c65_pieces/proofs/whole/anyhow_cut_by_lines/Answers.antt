use Rattle.c65_lex.specs.Text.{nothing}
use Rattle.c65_pieces.specs.Pieces.{nothing_given}
use Rattle.c65_pieces.proofs.Cut.{all_by_lines}
use Rattle.c65_pieces.proofs.ByLines.{one_by_lines}
use Rattle.c65_pieces.proofs.whole.anyhow_cut_by_lines.Goals as goal

pub returns : goal.returns
returns c = record {
  read = λ file events last next r n. all_by_lines events nothing (nothing_given file) last next r n;
  one = λ header text a b p q. one_by_lines header text a b p q;
}
