use Rattle.std.proofs.Common.{refl, sym}
use Rattle.c65_mach.specs.Table.{row_for}
use Rattle.c65_mach.proofs.rows.decode_for.Goals as goal

pub returns-in-Nmos : goal.returns-in-Nmos
unfolding row_for
returns-in-Nmos c = rw c.in-Nmos.is c.decode.ensures

pub returns-in-Some : goal.returns-in-Some
unfolding row_for
returns-in-Some c = rw (c.in-Cmos.is, sym c.in-Some.ensures) refl

pub returns-in-None : goal.returns-in-None
unfolding row_for
returns-in-None c = rw (c.in-Cmos.is, sym c.in-None.ensures) c.decode-in-None.ensures
