use Rattle.c65_ppfile.proofs.Finding.{free_seeks}
use Rattle.c65_ppfile.proofs.files.seek.Goals as goal

pub returns-clause-seeks : goal.returns-clause-seeks
returns-clause-seeks g c =
    free_seeks (g.F.Files.contents c.args.files.now) c.args.including.now c.args.folders.now c.args.header c.in-Err.refusal c.in-Err.ensures.finds
