use Rattle.std.proofs.Common.{[], ap, sym, ◌∙◌, subst}
use Rattle.c65_base.specs.declared.refusal.Refusal.{Refusal}
use Rattle.c65_base.specs.Answers.{Fails}
use Rattle.c65_parse_trees.specs.Listings.{Listing, nothing_listed}
use Rattle.c65_parse_trees.specs.Lists.{listed_of}
use Rattle.c65_parse.specs.Frames.{specifiers}
use Rattle.c65_parse.specs.Machine.{run}
use Rattle.c65_parse.specs.Reading.{rest_of, blocks_of, as_specifiers}
use Rattle.c65_parse.proofs.Answering.{refused_first, behind}
use Rattle.c65_parse.proofs.state.Parser.read_specifiers.Goals as goal

pub returns-in-Ok : goal.returns-in-Ok
returns-in-Ok c = behind (λ q. (listed_of q, rest_of c.read.new.self, blocks_of c.read.new.self)) c.specifiers_from.result (run 256 0 (blocks_of c.args.self.now) [] (specifiers (nothing_listed c.args.takes_storage)) (rest_of c.args.self.now)) as_specifiers _
    (ap (λ (q : Listing). run 256 0 (blocks_of c.args.self.now) [] (specifiers q) (rest_of c.args.self.now)) (sym c.new-listing.ensures) ∙ c.in-Ok.ensures) c.specifiers_from.ensures

pub returns-in-Err : goal.returns-in-Err
returns-in-Err c = refused_first c.in-Err.refusal (run 256 0 (blocks_of c.args.self.now) [] (specifiers (nothing_listed c.args.takes_storage)) (rest_of c.args.self.now)) as_specifiers
    (subst (λ (q : Listing). Fails c.in-Err.refusal (run 256 0 (blocks_of c.args.self.now) [] (specifiers q) (rest_of c.args.self.now))) c.new-listing.ensures c.in-Err.ensures)
