use Rattle.std.proofs.Common.{◌≡◌, ◌++◌, drop, map}
use Rattle.c65_asm.specs.Symbols.{symbols_of}
use Rattle.c65_asm.proofs.table.symbols.Given as goal

abbrev pub invariant-loop-spelling : goal.invariant-loop-spelling
invariant-loop-spelling l = l.symbols.items ++ symbols_of (map (λ v. v.items) (drop l.spelling-index l.spellings)) ≡ symbols_of (map (λ v. v.items) l.spellings)
