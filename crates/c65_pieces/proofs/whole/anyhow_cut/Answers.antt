use Rattle.c65_lex.specs.Text.{nothing}
use Rattle.c65_pieces.specs.Pieces.{nothing_given}
use Rattle.c65_pieces.proofs.Cut.{all_tokens}
use Rattle.c65_pieces.proofs.whole.anyhow_cut.Goals as goal

pub returns : goal.returns
returns c = λ file events last r n. all_tokens events nothing (nothing_given file) last r n
