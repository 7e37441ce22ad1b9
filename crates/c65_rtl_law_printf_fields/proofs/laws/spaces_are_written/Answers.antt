use Rattle.c65_rtl_law_printf_fields.proofs.Spaces.{spaces_are_written}
use Rattle.c65_rtl_law_printf_fields.proofs.laws.spaces_are_written.Goals as goal

pub returns : goal.returns
returns c = spaces_are_written
