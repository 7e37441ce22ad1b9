use Rattle.std.proofs.Common.{◌≡◌, subst}
use Rattle.c65_ppline.specs.declared.directive.Part.{Part}
use Rattle.c65_ppline.specs.declared.directive.Part.TheVariants as parts
use Rattle.c65_ppline.specs.declared.directive.Test.TheVariants as tests
use Rattle.c65_ppline.specs.Conditions.{begin, alternate}
use Rattle.c65_ppdir.specs.LineActions.{begun, parted}
use Rattle.c65_ppdir.specs.Progress.{Progress, progress}
use Rattle.c65_ppline.specs.Relations.{of, Comes}
use Rattle.c65_ppline.proofs.Relations.{goes_on}
use Rattle.c65_ppdir.proofs.reader.Reader.part.Goals as goal

pub returns-in-Ok-clause-exact : goal.returns-in-Ok-clause-exact
returns-in-Ok-clause-exact c =
    λ held.
    let p = progress held c.args.self.now c.args.file.now c.args.names.now in
    let view : Unit {0} → Progress = λ x. progress held c.begin_part.new.self c.begin_part.new.file c.begin_part.new.names in
    let e : parts.Begin c.in-Begin.test ≡ c.args.part = cc (c.in-Begin.is) in
    subst (λ (x : Part). Comes view (parted x c.args.line p) c.begin_part.result) e
    (goes_on view (of (begin c.args.line.hash c.args.file.now.groups)) (begun c.in-Begin.test c.args.line p) (c.in-Ok.is_read, c.begin.new.self) c.begin_part.result c.in-Ok.ensures.after (c.begin_part.ensures.exact held))

pub returns-in-Ok-alternate-clause-exact : goal.returns-in-Ok-alternate-clause-exact
returns-in-Ok-alternate-clause-exact c =
    λ held.
    let p = progress held c.args.self.now c.args.file.now c.args.names.now in
    let call = c.begin_part-in-Ok-alternate in
    let view : Unit {0} → Progress = λ x. progress held call.new.self call.new.file call.new.names in
    let e : parts.Alternate ≡ c.args.part = cc (c.in-Alternate.is) in
    subst (λ (x : Part). Comes view (parted x c.args.line p) call.result) e
    (goes_on view (of (alternate c.args.line.hash c.args.file.now.groups)) (begun tests.Condition c.args.line p) (c.in-Ok-alternate.is_read, c.alternate.new.self) call.result c.in-Ok-alternate.ensures.after (call.ensures.exact held))
