use Rattle.std.proofs.Common.{◌≡◌, ◌↔◌, ◌⊎◌, ◌<◌, IsTrue, bit_or, subst, sym, arith}
use Rattle.std.proofs.lemmas.Nat.{one_shl}
use Rattle.c65_code.specs.declared.parts.Part.TheVariants.{Zp}
use Rattle.c65_code.specs.Parts.{IsPart, has_part, with_part}
use Rattle.c65_code.proofs.PartLaws.{with_iff}
use Rattle.c65_code.proofs.parts.RegSet.with.Goals as goal

pub returns-in-Zp-clause-parts : goal.returns-in-Zp-clause-parts
returns-in-Zp-clause-parts c =
    let low : c.in-Zp.byte < 26 = subst IsPart c.in-Zp.is c.requires in
    λ other.
    subst (λ n. IsTrue (has_part (record c.args.self { zero_page = bit_or c.args.self.zero_page n }) other) ↔ ((other ≡ c.args.part) ⊎ IsTrue (has_part c.args.self other)))
    (sym (one_shl c.in-Zp.byte 32 (omega arith)))
    (subst (λ p. IsTrue (has_part (with_part (Zp c.in-Zp.byte) c.args.self) other) ↔ ((other ≡ p) ⊎ IsTrue (has_part c.args.self other))) (sym c.in-Zp.is) (with_iff c.args.self (Zp c.in-Zp.byte) other))
