use Rattle.c65_asm_fit.proofs.Fitting.{parts_tested}
use Rattle.c65_asm_fit.proofs.code.are_parts_fit.Goals as goal

pub returns : goal.returns
returns c =
    parts_tested c.args.code.now c.has_symbols.result c.has_functions.result c.has_datums.result c.all_three.result
    c.has_symbols.ensures c.has_functions.ensures c.has_datums.ensures c.all_three.ensures
