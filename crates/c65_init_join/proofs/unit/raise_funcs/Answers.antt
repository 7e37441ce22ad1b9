use Rattle.std.proofs.Common.{◌≡◌, ◌∙◌, ap, arith}
use Rattle.c65_ctype.specs.Trees.{Fn}
use Rattle.c65_csem.specs.Views.{func_of}
use Rattle.c65_init_join.specs.Items.{raised_func}
use Rattle.c65_init_join.proofs.ItemLaws.{length_set, raised_next}
use Rattle.c65_init_join.proofs.unit.raise_funcs.Goals as goal

pub loop-i-preserved : goal.loop-i-preserved
loop-i-preserved c =
    let x = c.index_mut.result.now in
    let y = record x { ty = c.raise_fn.new.ty } in
    let made : func_of y ≡ raised_func c.args.by (func_of x) = ap (λ (q : Fn). record (func_of x) { ty = q }) c.in_ok-raise_fn.ensures in
    record {
      same = length_set c.loop-i.funcs.items c.loop-i.i y ∙ c.loop-i.invariant.same;
      so_far = raised_next func_of (raised_func c.args.by) c.args.funcs.now.items c.loop-i.funcs.items c.loop-i.i x y (omega (arith, c.loop-i-test.true, c.len-i-end.ensures, c.args.funcs.now.ok.0)) c.loop-i.invariant.same c.index_mut.ensures.value made c.loop-i.invariant.so_far;
    }
