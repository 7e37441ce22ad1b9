-- The laws that are proved, on which the main theorem stands.
use Rattle.c65_ppdir_law.specs.Once.{UnitsAreOne}
use Rattle.c65_meaning_law_turns.specs.Turns.{TurnsGoOn}
use Rattle.c65_gen_law_names.specs.Laws.{ProgramsAreClosed, MainHasLines}
use Rattle.c65_opt_law_program.specs.Laws.{LiteralsAreConstant}
use Rattle.c65_opt_law_opened.specs.Texts.{OpenedCallsServe}
use Rattle.c65_opt_law_whole.specs.Laws.{OptimisedIsFollowed, OptimisedKeepsFunctions, OptimisedNamesNothing}
use Rattle.c65_know_law.specs.Laws.{NotesAreTrue}
use Rattle.c65_link_law_runtime.specs.Laws.{LinkedRuntimesAreMet}

pub record Grounds : Type 0 where
  pub units : UnitsAreOne
  pub turns : TurnsGoOn
  pub closed : ProgramsAreClosed
  pub mains : MainHasLines
  pub literals : LiteralsAreConstant
  pub calls : OpenedCallsServe
  pub follows : OptimisedIsFollowed
  pub functions : OptimisedKeepsFunctions
  pub names : OptimisedNamesNothing
  pub notes : NotesAreTrue
  pub runtime : LinkedRuntimesAreMet
