use Rattle.std.proofs.Common.{◌≡◌, drop}
use Rattle.c65_code.specs.Placement.{library_named}
use Rattle.c65_link.proofs.symbols.among.Given as goal

abbrev pub invariant-loop-function : goal.invariant-loop-function
invariant-loop-function l = library_named (drop l.function-index l.functions) l.spelling ≡ library_named l.functions l.spelling
