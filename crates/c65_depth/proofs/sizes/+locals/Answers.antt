use Rattle.std.proofs.Common.{arith, length, ap, ◌≤◌}
use Rattle.std.proofs.lemmas.List.{drop_all}
use Rattle.c65_csem.specs.Views.{unit_of, stmts_of}
use Rattle.c65_meaning.specs.Costs.{all_local_bytes}
use Rattle.c65_depth.proofs.Trees.{block_bytes}
use Rattle.c65_depth.proofs.sizes.+locals.Goals as goal

pub local_bytes-returns-in-Block : goal.local_bytes-returns-in-Block
local_bytes-returns-in-Block t c =
    omega (arith, block_bytes (unit_of c.args.parts.now) c.args.stmt.now c.in-Block.objects c.in-Block.stmts c.deref-own.result.now c.deref-inner.result.now c.in-Block.is c.deref-own.ensures.value c.deref-inner.ensures.value, c.bytes_of_objects-bytes.ensures, c.all_local_bytes.ensures, c.saturating_add.ensures)

pub all_local_bytes-returns : goal.all_local_bytes-returns
all_local_bytes-returns t c =
    let all : length c.args.stmts.now ≤ c.loop-stmt.stmt-index = omega arith in
    let none = ap (λ ss. all_local_bytes (unit_of c.args.parts.now) (stmts_of ss)) (drop_all c.loop-stmt.stmt-index c.args.stmts.now all) in
    omega (arith, none, c.loop-stmt.invariant.0, c.loop-stmt.invariant.1)
