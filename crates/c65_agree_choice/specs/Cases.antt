-- The cases of a switch and the words of their numbers (C90 6.6.4.2).
use Rattle.std.specs.Prelude.{ℕ, ℤ, All, List}
use Rattle.c65_ints.specs.declared.types.IntType.{IntType}
use Rattle.c65_ints.specs.Ranges.{residue, InRange}
use Rattle.c65_code.specs.Numbers.{words_of}
use Rattle.c65_code.specs.Placement.{IsPlacement}
use Rattle.c65_genwide.specs.Wide.{width_of}
use Rattle.c65_agree_state.specs.World.{lines_of, IsPlaced}
use Rattle.c65_agree_stmts.specs.Calling.{Calling}

-- of a number of the type in the primary register
abbrev pub number_word : IntType → ℤ → ℕ
number_word kind z = residue (words_of (width_of kind)) z

-- each label of the function has one place, and the cases are numbers of the type, to which their expressions were converted
pub record HasCases (x : Calling) (kind : IntType) (zs : List ℤ) : Type 0 where
  pub placement : IsPlacement x.world.code x.world.place
  pub labels : IsPlaced (lines_of x.world x.active)
  pub ranges : All (InRange kind) zs
