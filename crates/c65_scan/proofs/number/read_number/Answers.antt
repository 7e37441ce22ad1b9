use Rattle.c65_scan.proofs.Constants.{number_read}
use Rattle.c65_scan.proofs.number.read_number.Goals as goal

pub returns-in-Some : goal.returns-in-Some
returns-in-Some c = number_read c.args.text.now _ _ _ _ _ c.typed_constant.ensures c.base_of_constant-base.ensures c.digits.ensures c.in-Some.ensures.value
