-- A program as its meaning sees it: its unit, and the number of its main function.
use Rattle.std.specs.Prelude.{ℕ}
use Rattle.c65_csem.specs.declared.items.Parts.{Parts}
use Rattle.c65_csem.specs.Trees.{UnitTy}
use Rattle.c65_csem.specs.Views.{unit_of}

pub record ProgramTy : Type 0 where
  pub unit : UnitTy
  pub main : ℕ

-- of a program in the code
abbrev pub program_of : Parts × ℕ → ProgramTy
program_of p = record { unit = unit_of p.0; main = p.1 }
