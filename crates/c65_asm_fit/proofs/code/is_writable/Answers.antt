use Rattle.std.proofs.Common.{◌∙◌, [], List, map, ap}
use Rattle.c65_code.specs.declared.code.Symbol.{Symbol}
use Rattle.c65_asm_fit.specs.Fit.{spelling_of}
use Rattle.c65_asm_fit.specs.Once.{comes_once, has_spelling}
use Rattle.c65_asm_fit.proofs.Fitting.{tested}
use Rattle.c65_asm_fit.proofs.code.is_writable.Goals as goal

pub returns : goal.returns
returns c =
    tested c.args.code.now c.are_parts_fit-parts.result c.in_ok-own.own c.in_ok-once.once c.all_three.result c.are_parts_fit-parts.ensures
    (c.in_ok-own.ensures ∙ ap (λ (ss : List Symbol). comes_once has_spelling [] (map spelling_of ss)) c.as_slice.ensures) c.in_ok-once.ensures c.all_three.ensures
