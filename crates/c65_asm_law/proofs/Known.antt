-- The symbols of a unit's items.
use Rattle.std.proofs.Common.{ℕ, ◌<◌, length}
use Rattle.c65_csem.specs.Trees.{UnitTy}
use Rattle.c65_genframe.specs.declared.symbols.Numbers.{Numbers}
use Rattle.c65_genframe.specs.Frames.{Framed}
use Rattle.c65_genframe.specs.Symbols.{numbers_of, object_symbol, literal_symbol, function_symbol}

-- each number of an item of the unit is that of a symbol
pub record KnowsBy (numbers : Numbers) (u : UnitTy) (n : ℕ) : Type 0 where
  pub objects : (i : ℕ) → i < length u.objects → (object_symbol numbers i).0 < n
  pub literals : (i : ℕ) → i < length u.literals → (literal_symbol numbers i).0 < n
  pub funcs : (i : ℕ) → i < length u.funcs → (function_symbol numbers i).0 < n

abbrev pub Knows : Framed → UnitTy → ℕ → Type 0
Knows f u n = KnowsBy (numbers_of f.parts) u n
