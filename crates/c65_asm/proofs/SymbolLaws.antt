-- The symbol of a spelling by its number.
use Rattle.std.proofs.Common.{◌≡◌, ℕ, List, Option, Some, sym, ap}
use Rattle.std.specs.Prelude.{unwrap_or}
use Rattle.c65_base.specs.Names.{name_of}
use Rattle.c65_code.specs.declared.line.Sym.{Sym}
use Rattle.c65_asm.specs.Symbols.{symbol_in}

pub symbol_is : (names : List (List ℕ)) (s : List ℕ) (i : ℕ) → name_of names s ≡ Some i → (let made : Sym = record { 0 = i } in made) ≡ symbol_in names s
symbol_is names s i h = ap (λ (o : Option ℕ). let made : Sym = record { 0 = unwrap_or o 0 } in made) (sym h)
