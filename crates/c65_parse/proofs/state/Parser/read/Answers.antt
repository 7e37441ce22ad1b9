use Rattle.std.proofs.Common.{◌≡◌, List, [], drop, Ok, ap, ◌∙◌, subst}
use Rattle.std.proofs.lemmas.List.{drop-drop, take_rest}
use Rattle.c65_scan.specs.declared.token.Token.{Token}
use Rattle.c65_parse_names.specs.Blocks.{scope_of}
use Rattle.c65_parse.specs.Machine.{run}
use Rattle.c65_parse.specs.Views.{done_of, held_of}
use Rattle.c65_parse.proofs.state.Parser.read.Goals as goal

pub returns-in-Ok : goal.returns-in-Ok
returns-in-Ok c =
    subst (λ (ts : List Token). run c.args.limit c.args.least (scope_of c.args.self.now.scope) [] (held_of c.args.held) ts ≡ Ok (done_of c.in-Ok.done, drop c.in-Ok.length ts, scope_of c.read.new.scope)) (take_rest c.args.self.now.tokens.now c.args.self.now.at) c.in-Ok.ensures.answer
    ∙ ap (λ (ts : List Token). Ok (done_of c.in-Ok.done, ts, scope_of c.read.new.scope)) (drop-drop c.in-Ok.length c.args.self.now.at c.args.self.now.tokens.now)
