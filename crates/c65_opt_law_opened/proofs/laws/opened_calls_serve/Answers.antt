use Rattle.c65_opt_law_opened.proofs.laws.opened_calls_serve.Goals as goal

pub returns : goal.returns
returns c options literals = record {
  routines = λ asked. c.routines_serve.ensures literals;
  library = λ asked. c.library_serves.ensures literals;
}
