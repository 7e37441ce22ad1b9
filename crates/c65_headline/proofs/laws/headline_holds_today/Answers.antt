use Rattle.c65_headline.proofs.Today.{holds_today}
use Rattle.c65_headline.proofs.laws.headline_holds_today.Goals as goal

pub returns : goal.returns
returns c = holds_today (record {
  units = c.units_are_one.ensures;
  turns = c.turns_go_on.ensures;
  closed = c.programs_are_closed.ensures;
  mains = c.main_has_lines.ensures;
  literals = c.literals_are_constant.ensures;
  calls = c.opened_calls_serve.ensures;
  follows = c.optimised_is_followed.ensures;
  functions = c.optimised_is_closed.ensures.functions;
  names = c.optimised_names_nothing.ensures;
  notes = c.notes_are_true.ensures;
  runtime = c.linked_runtimes_are_met.ensures;
})
