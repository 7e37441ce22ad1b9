use Rattle.std.proofs.Common.{◌≡◌, length, Option, subst, rules}
use Rattle.c65_pptext.specs.declared.ending.Ending.{Ending}
use Rattle.c65_pptext.specs.Reading.{Agrees}
use Rattle.c65_pptext.proofs.Behind.{free_err, read_behind}
use Rattle.c65_pptext.proofs.text.FileText.read_on.Goals as goal

pub returns-in-Ok-clause-exact : goal.returns-in-Ok-clause-exact
returns-in-Ok-clause-exact g c =
    λ held told none here.
    let way = subst (λ (x : Option Ending). Agrees held c.args.self.now x) none here.1 in
    let path : c.as_slice.result.now ≡ c.args.self.now.path = search rules in
    let size : length c.read.new.into ≡ c.wanted.result = search rules in
    let read = read_behind (g.F.Files.contents c.args.files.now) held told c.args.self.now c.as_slice.result.now path way c.read.new.into c.in-Ok.count c.wanted.result _ c.in-Ok.ensures.bytes c.in-Ok.ensures.bound.0 size c.wanted.ensures.within (search rules) in
    (c.take_read.ensures.exact held none here read, free_err c.take_read.result c.take_read.ensures.refused)
