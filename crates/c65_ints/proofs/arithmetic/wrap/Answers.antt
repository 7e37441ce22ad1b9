use Rattle.std.proofs.Common.{rules, ◌≡◌, ◌-ℤ◌, w64, of_z, to_z}
use Rattle.c65_ints.specs.Ranges.{wrap_of}
use Rattle.c65_ints.proofs.Wraps.{congruent_of}
use Rattle.c65_ints.proofs.arithmetic.wrap.Goals as goal

pub returns-then-residue-modulus-clause-congruent : goal.returns-then-residue-modulus-clause-congruent
returns-then-residue-modulus-clause-congruent c =
    let e : to_z w64 (of_z w64 (to_z w64 (of_z w64 c.rem_euclid-residue.result) -ℤ to_z w64 (of_z w64 c.modulus-modulus.result))) ≡ wrap_of c.args.ty c.args.value = search rules in
    congruent_of _ _ _ e

pub returns-else-is_signed-clause-congruent : goal.returns-else-is_signed-clause-congruent
returns-else-is_signed-clause-congruent c =
    let e : to_z w64 (of_z w64 c.rem_euclid-residue.result) ≡ wrap_of c.args.ty c.args.value = search rules in
    congruent_of _ _ _ e
