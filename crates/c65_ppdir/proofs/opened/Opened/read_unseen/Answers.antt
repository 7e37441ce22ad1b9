use Rattle.std.proofs.Common.{ℕ, List, false, subst}
use Rattle.c65_ppdir.specs.Files.{opened_as}
use Rattle.c65_ppdir.specs.Opening.{IsReadNext}
use Rattle.c65_ppdir.proofs.opened.Opened.read_unseen.Goals as goal

pub returns-in-Ok-clause-exact : goal.returns-in-Ok-clause-exact
returns-in-Ok-clause-exact g c =
    λ held told here.
    let x = c.in-Ok.ensures.exact held told here in
    (x.0, tt, (c.in-Ok.read, c.read.new.names, subst (λ (ns : List (List ℕ)). IsReadNext false (opened_as held c.args.self.now) ns c.in-Ok.read (opened_as held c.read.new.self) c.read.new.names) c.new-names.ensures x.2, c.unseen_of.ensures))
