use Rattle.std.proofs.Common.{◌≡◌, ◌∙◌, ◌+◌, [], ◌∷◌, ◌++◌, length, map, sym, arith, length-append}
use Rattle.std.proofs.lemmas.Iterator.Adapters.{YieldsList-from_vec}
use Rattle.std.proofs.lemmas.Iterator.Consumers.{YieldsList-turn, YieldsList-end}
use Rattle.c65_ctype.specs.Views.{types_of}
use Rattle.c65_csem.specs.Views.{object_of}
use Rattle.c65_init_join.specs.Joined.{finished_object, selected}
use Rattle.c65_init_join.specs.Numbers.{numbers_of}
use Rattle.c65_init_join.proofs.TurnLaws.{kept_next, nothing_more, drop_end}
use Rattle.c65_init_join.proofs.program.add_objects.Goals as goal

pub loop-object-preserved : goal.loop-object-preserved
loop-object-preserved c =
    let h = c.into_iter-object-iterator.ensures.into_iter_gives in
    let turn = YieldsList-turn (YieldsList-from_vec c.args.objects.items h.0 (h.1 ∙ c.args.objects.ok.0)) c.loop-object.yielded c.loop-object.object-iterator c.loop-object.yielded_by c.next.result c.next.new.self c.in-Some.object c.in-Some.is c.next.ensures.steps in
    let i = length c.loop-object.yielded in
    let longer : length (c.loop-object.yielded ++ c.in-Some.object ∷ []) ≡ i + 1 = omega (arith, length-append c.loop-object.yielded (c.in-Some.object ∷ [])) in
    let f = finished_object (types_of c.args.types.now) (numbers_of c.args.numbers.now) in
    let whole = map object_of c.args.program.now.items ++ map f (selected c.args.kept.now 0 (map object_of c.args.objects.items)) in
    let here = c.loop-object.invariant.count in
    let before = rw here at c.loop-object.invariant.so_far in
    let next = kept_next object_of f c.args.kept.now c.args.objects.items i c.in-Some.object (map object_of c.loop-object.program.items) whole turn.0 turn.1 before in
    record { can_next = tt; is_finite = tt; count = omega (arith, c.in-Some-checked_add.ensures.1, here, longer); so_far = rw (c.in_ok-add_object.ensures, c.is_marked.ensures, c.in-Some-checked_add.ensures.1, here, longer) next }

pub returns : goal.returns
returns c =
    let h = c.into_iter-object-iterator.ensures.into_iter_gives in
    let all = (YieldsList-end (YieldsList-from_vec c.args.objects.items h.0 (h.1 ∙ c.args.objects.ok.0)) c.loop-object.yielded c.loop-object.object-iterator c.loop-object.yielded_by c.next.result c.next.new.self c.in-None.is c.next.ensures.steps).1 in
    let none = drop_end c.args.objects.items (length c.loop-object.yielded) (omega (arith, all)) in
    sym (nothing_more (map object_of c.loop-object.program.items)) ∙ rw none at c.loop-object.invariant.so_far
