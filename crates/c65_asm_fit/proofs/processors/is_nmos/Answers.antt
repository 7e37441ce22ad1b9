use Rattle.std.proofs.Common.{IsTrue, subst}
use Rattle.std.specs.Prelude.{◌↔◌, All, List}
use Rattle.std.specs.List.{list_all}
use Rattle.c65_code.specs.declared.line.Sym.{Sym}
use Rattle.c65_code.specs.Segments.{Segment}
use Rattle.c65_code.specs.Processors.{is_nmos_line}
use Rattle.c65_asm_fit.proofs.Fitting.{nmos_is}
use Rattle.c65_asm_fit.proofs.processors.is_nmos.Goals as goal

pub returns : goal.returns
returns c = nmos_is c.args.code.now c.are_nmos_functions.result
    (subst (λ (fs : List (Sym × Segment)). IsTrue c.are_nmos_functions.result ↔ All (λ (f : Sym × Segment). IsTrue (list_all is_nmos_line f.1.lines)) fs) c.as_slice.ensures c.are_nmos_functions.ensures)
