use Rattle.std.proofs.Common.{◌≡◌, find, drop, bytes_eq}
use Rattle.c65_base.specs.Library.{library_name}
use Rattle.c65_csem.proofs.library.library_among.Given as goal

abbrev pub invariant-loop-function : goal.invariant-loop-function
invariant-loop-function l = find (λ x. bytes_eq (library_name x) l.spelling) (drop l.function-index l.functions) ≡ find (λ x. bytes_eq (library_name x) l.spelling) l.functions
