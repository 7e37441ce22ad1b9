use Rattle.std.proofs.Common.{◌≡◌, List, [], ◌+◌, drop, sym, ap, ◌∙◌, subst}
use Rattle.c65_scan.specs.declared.token.Token.{Token}
use Rattle.c65_parse_names.specs.Scopes.{Blocks}
use Rattle.c65_parse_names.specs.Blocks.{scope_of}
use Rattle.c65_base.specs.declared.refusal.Refusal.{Refusal}
use Rattle.c65_base.specs.Answers.{Fails}
use Rattle.c65_parse.specs.Machine.{Reading, run}
use Rattle.c65_parse.specs.Views.{stack_of, held_of}
use Rattle.c65_parse.proofs.Turns.{turn_item, ran_out}
use Rattle.c65_parse.proofs.parser.read.Goals as goal

pub returns-in-Stop : goal.returns-in-Stop
returns-in-Stop c =
    let whole : Reading = run c.args.limit c.args.least (scope_of c.args.scope.now) [] (held_of c.args.held) c.args.tokens.now in
    record {
      answer = turn_item c.args.limit c.args.least (scope_of c.loop-i.scope) c.args.tokens.now c.loop-i.i c.index-tokens-i.result (stack_of c.loop-i.reading.frames.items) (held_of c.loop-i.reading.held) whole _ _ c.index-tokens-i.is c.in-Stop.is c.loop-i-test.true c.loop-i.invariant c.in_ok-step.ensures;
      inside = c.loop-i-test.true;
    }

pub returns-in-Fail-clause-answer : goal.returns-in-Fail-clause-answer
returns-in-Fail-clause-answer c =
    let whole : Reading = run c.args.limit c.args.least (scope_of c.args.scope.now) [] (held_of c.args.held) c.args.tokens.now in
    subst (λ (e : Refusal). Fails e whole) (sym c.fault.ensures) (turn_item c.args.limit c.args.least (scope_of c.loop-i.scope) c.args.tokens.now c.loop-i.i c.index-tokens-i.result (stack_of c.loop-i.reading.frames.items) (held_of c.loop-i.reading.held) whole _ _ c.index-tokens-i.is c.in-Fail.is c.loop-i-test.true c.loop-i.invariant c.in_ok-step.ensures)

pub returns-in-Deep-clause-answer : goal.returns-in-Deep-clause-answer
returns-in-Deep-clause-answer c =
    let whole : Reading = run c.args.limit c.args.least (scope_of c.args.scope.now) [] (held_of c.args.held) c.args.tokens.now in
    subst (λ (e : Refusal). Fails e whole) (sym c.too_deep.ensures) (turn_item c.args.limit c.args.least (scope_of c.loop-i.scope) c.args.tokens.now c.loop-i.i c.index-tokens-i.result (stack_of c.loop-i.reading.frames.items) (held_of c.loop-i.reading.held) whole _ _ c.index-tokens-i.is c.in-Deep.is c.loop-i-test.true c.loop-i.invariant c.in_ok-step.ensures)

pub loop-i-preserved : goal.loop-i-preserved
loop-i-preserved c =
    let whole : Reading = run c.args.limit c.args.least (scope_of c.args.scope.now) [] (held_of c.args.held) c.args.tokens.now in
    ap (λ (scope : Blocks). run c.args.limit c.args.least scope (stack_of c.in-Go.next.frames.items) (held_of c.in-Go.next.held) (drop (c.loop-i.i + 1) c.args.tokens.now)) c.in-Ok.ensures
    ∙ turn_item c.args.limit c.args.least (scope_of c.loop-i.scope) c.args.tokens.now c.loop-i.i c.index-tokens-i.result (stack_of c.loop-i.reading.frames.items) (held_of c.loop-i.reading.held) whole _ _ c.index-tokens-i.is c.in-Go.is c.loop-i-test.true c.loop-i.invariant c.in_ok-step.ensures

pub returns-clause-answer : goal.returns-clause-answer
returns-clause-answer c =
    let whole : Reading = run c.args.limit c.args.least (scope_of c.args.scope.now) [] (held_of c.args.held) c.args.tokens.now in
    subst (λ (e : Refusal). Fails e whole) (sym c.fault-2.ensures) (ran_out c.args.limit c.args.least (scope_of c.loop-i.scope) c.args.tokens.now c.loop-i.i (stack_of c.loop-i.reading.frames.items) (held_of c.loop-i.reading.held) whole c.loop-i-test.false c.loop-i.invariant)
