use Rattle.std.proofs.Common.{◌≡◌, find, drop, bytes_eq}
use Rattle.c65_ppline.specs.DirectiveLines.{directive_spelling}
use Rattle.c65_ppline.proofs.directive.directive_among.Given as goal

abbrev pub invariant-loop-directive : goal.invariant-loop-directive
invariant-loop-directive l = find (λ k. bytes_eq (directive_spelling k) l.spelling) (drop l.directive-index l.directives) ≡ find (λ k. bytes_eq (directive_spelling k) l.spelling) l.directives
