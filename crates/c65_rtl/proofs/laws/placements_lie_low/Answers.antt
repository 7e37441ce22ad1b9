use Rattle.std.proofs.Common.{arith}
use Rattle.c65_rtl.proofs.laws.placements_lie_low.Goals as goal

pub returns : goal.returns
returns c = λ code place is b data_of.
    let datum = is.data_of b data_of in
    let low = is.low datum.0 datum.1 datum.2 in
    let high = is.high datum.0 datum.1 datum.2 in
    let from = datum.3.from in
    let to = datum.3.to in
    (omega arith, omega arith)
