use Rattle.c65_ppdir.proofs.Texts.{text_reads}
use Rattle.c65_ppdir.proofs.opened.Opened.read.Goals as goal

pub returns-clause-exact : goal.returns-clause-exact
returns-clause-exact g c =
    λ held told here.
    let x = c.read.ensures.exact held told here in
    text_reads held c.args.self.now c.read.new.self c.args.header c.args.names.now c.read.new.names c.read.result x.0 x.1
