use Rattle.std.proofs.Common.{◌≡◌, ◌∙◌, ap, arith}
use Rattle.c65_ctype.specs.Trees.{QTy}
use Rattle.c65_csem.specs.Views.{object_of}
use Rattle.c65_init_join.specs.Items.{raised_object}
use Rattle.c65_init_join.proofs.ItemLaws.{length_set, raised_next}
use Rattle.c65_init_join.proofs.unit.raise_objects.Goals as goal

pub loop-i-preserved : goal.loop-i-preserved
loop-i-preserved c =
    let x = c.index_mut.result.now in
    let y = record x { ty = c.raise_type.new.ty } in
    let made : object_of y ≡ raised_object c.args.by (object_of x) = ap (λ (q : QTy). record (object_of x) { ty = q }) c.in_ok-raise_type.ensures in
    record {
      same = length_set c.loop-i.objects.items c.loop-i.i y ∙ c.loop-i.invariant.same;
      so_far = raised_next object_of (raised_object c.args.by) c.args.objects.now.items c.loop-i.objects.items c.loop-i.i x y (omega (arith, c.loop-i-test.true, c.len-i-end.ensures, c.args.objects.now.ok.0)) c.loop-i.invariant.same c.index_mut.ensures.value made c.loop-i.invariant.so_far;
    }
