-- The numbers of symbols: objects, then literals, then functions.
use Rattle.std.specs.Prelude.{ℕ, ◌+◌, ◌%◌, ◌^◌, length}
use Rattle.c65_csem.specs.declared.items.Parts.{Parts}
use Rattle.c65_code.specs.declared.line.Sym.{Sym}
use Rattle.c65_genframe.specs.declared.symbols.Numbers.{Numbers}

abbrev pub numbers_of : Parts → Numbers
numbers_of parts = record { literals = length parts.objects.items; functions = length parts.objects.items + length parts.literals.items }

abbrev pub object_symbol : Numbers → ℕ → Sym
object_symbol n i = record { 0 = i }

abbrev pub literal_symbol : Numbers → ℕ → Sym
literal_symbol n i = record { 0 = (n.literals + i) % 2 ^ 32 }

abbrev pub function_symbol : Numbers → ℕ → Sym
function_symbol n i = record { 0 = (n.functions + i) % 2 ^ 32 }
