-- That the runtime of a linked code does what its rows say.
use Rattle.std.specs.Prelude.{ℕ, List}
use Rattle.c65_code.specs.declared.code.Code.{Code}
use Rattle.c65_code.specs.RawMachine.{IsRuntime}
use Rattle.c65_link_law_reach.specs.Reach.{runtime_in}

-- Each routine does at every call that its row admits, whatever the code and the arguments.
abbrev pub LinkedRuntimesAreMet : Type 0
LinkedRuntimesAreMet = (code : Code) (args : List (List ℕ)) → IsRuntime (runtime_in code args)
