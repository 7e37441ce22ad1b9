-- Symbols by the order in which a text first names them.
use Rattle.std.specs.Prelude.{ℕ, ◌++◌, if◌then◌else◌, List, [], ◌∷◌, map, unwrap_or}
use Rattle.c65_base.specs.Names.{name_of}
use Rattle.c65_code.specs.declared.line.Sym.{Sym}
use Rattle.c65_code.specs.declared.code.Symbol.{Symbol}
use Rattle.c65_code.specs.Segments.{is_among}
use Rattle.c65_asm.specs.Words.{begins}

abbrev pub with_number : List ℕ → ℕ → List ℕ
with_number ns n = if is_among ns n then ns else ns ++ n ∷ []

-- the symbol of a spelling that is among these
abbrev pub symbol_in : List (List ℕ) → List ℕ → Sym
symbol_in spellings spelling = record { 0 = unwrap_or (name_of spellings spelling) 0 }

-- literals are spelled `qN`
abbrev pub symbol_of : List ℕ → Symbol
symbol_of spelling = record { spelling = spelling; literal = begins 113 spelling }

abbrev pub symbols_of : List (List ℕ) → List Symbol
symbols_of spellings = map symbol_of spellings
