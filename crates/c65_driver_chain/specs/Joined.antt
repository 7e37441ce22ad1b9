-- The program that was joined, in the terms of the front.
use Rattle.std.specs.Prelude.{ℕ, List}
use Rattle.c65_csem.specs.Trees.{UnitTy}
use Rattle.c65_csem.specs.Views.{unit_of}
use Rattle.c65_driver_chain.specs.declared.chain.Joined.{Joined}

abbrev pub program_in : Joined → (UnitTy × ℕ) × List (List ℕ)
program_in x = ((unit_of x.program.0, x.program.1), x.names)
