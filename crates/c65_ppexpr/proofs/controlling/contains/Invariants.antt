use Rattle.std.proofs.Common.{◌≡◌, drop}
use Rattle.c65_lex.specs.Spellings.{among}
use Rattle.c65_ppexpr.proofs.controlling.contains.Given as goal

abbrev pub invariant-loop-other : goal.invariant-loop-other
invariant-loop-other l = among (drop l.other-index l.spelling) l.byte ≡ among l.spelling l.byte
