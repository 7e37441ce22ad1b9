use Rattle.std.proofs.Common.{◌⊎◌, IsTrue, ◌↔◌, subst, sym}
use Rattle.c65_code.specs.Parts.{has_part}
use Rattle.c65_code.proofs.PartLaws.{has_part-union, or_iff}
use Rattle.c65_code.proofs.parts.RegSet.union.Goals as goal

pub returns-clause-parts : goal.returns-clause-parts
returns-clause-parts c = λ p. subst (λ b. IsTrue b ↔ (IsTrue (has_part c.args.self p) ⊎ IsTrue (has_part c.args.other p))) (sym (has_part-union c.args.self c.args.other p)) (or_iff (has_part c.args.self p) (has_part c.args.other p))
