use Rattle.c65_code.proofs.ExampleLaws.{product, quotient, shift, remainder}
use Rattle.c65_code.proofs.laws.operator_results.Goals as goal

pub returns-clause-product : goal.returns-clause-product
returns-clause-product c = product

pub returns-clause-quotient : goal.returns-clause-quotient
returns-clause-quotient c = quotient

pub returns-clause-shift : goal.returns-clause-shift
returns-clause-shift c = shift

pub returns-clause-remainder : goal.returns-clause-remainder
returns-clause-remainder c = remainder
