use Rattle.std.proofs.Common.{arith}
use Rattle.c65_mach.proofs.Faults.{first_of}
use Rattle.c65_mach.proofs.Spelling.{found_of, only_of}
use Rattle.c65_mach.proofs.image.Image.parse.Goals as goal

pub returns-clause-found : goal.returns-clause-found
returns-clause-found c = found_of c.args.bytes.now (λ i. omega (arith, c.type_inv.bytes i)) c.read.result c.read.ensures

pub returns-clause-only : goal.returns-clause-only
returns-clause-only c = λ image spells. only_of c.args.bytes.now image spells c.read.result c.read.ensures

pub returns-clause-first : goal.returns-clause-first
returns-clause-first c = first_of c.args.bytes.now (λ i. omega (arith, c.type_inv.bytes i)) c.read.result c.read.ensures
