use Rattle.std.proofs.Common.{◌≡◌, ◌∙◌, ◌+◌, [], ◌∷◌, ◌++◌, length, map, sym, arith, length-append}
use Rattle.std.proofs.lemmas.Iterator.Adapters.{YieldsList-from_vec}
use Rattle.std.proofs.lemmas.Iterator.Consumers.{YieldsList-turn, YieldsList-end}
use Rattle.c65_csem.specs.Views.{func_of}
use Rattle.c65_init_join.specs.Joined.{finished_func, selected}
use Rattle.c65_init_join.specs.Numbers.{numbers_of}
use Rattle.c65_init_join.proofs.TurnLaws.{kept_next, nothing_more, drop_end}
use Rattle.c65_init_join.proofs.program.add_funcs.Goals as goal

pub loop-func-preserved : goal.loop-func-preserved
loop-func-preserved c =
    let h = c.into_iter-func-iterator.ensures.into_iter_gives in
    let turn = YieldsList-turn (YieldsList-from_vec c.args.funcs.items h.0 (h.1 ∙ c.args.funcs.ok.0)) c.loop-func.yielded c.loop-func.func-iterator c.loop-func.yielded_by c.next.result c.next.new.self c.in-Some.func c.in-Some.is c.next.ensures.steps in
    let i = length c.loop-func.yielded in
    let longer : length (c.loop-func.yielded ++ c.in-Some.func ∷ []) ≡ i + 1 = omega (arith, length-append c.loop-func.yielded (c.in-Some.func ∷ [])) in
    let f = finished_func c.args.names.now c.args.signed_chars (numbers_of c.args.numbers.now) in
    let whole = map func_of c.args.program.now.items ++ map f (selected c.args.kept.now 0 (map func_of c.args.funcs.items)) in
    let here = c.loop-func.invariant.count in
    let before = rw here at c.loop-func.invariant.so_far in
    let next = kept_next func_of f c.args.kept.now c.args.funcs.items i c.in-Some.func (map func_of c.loop-func.program.items) whole turn.0 turn.1 before in
    record { can_next = tt; is_finite = tt; count = omega (arith, c.in-Some-checked_add.ensures.1, here, longer); so_far = rw (c.in_ok-add_func.ensures, c.is_marked.ensures, c.in-Some-checked_add.ensures.1, here, longer) next }

pub returns : goal.returns
returns c =
    let h = c.into_iter-func-iterator.ensures.into_iter_gives in
    let all = (YieldsList-end (YieldsList-from_vec c.args.funcs.items h.0 (h.1 ∙ c.args.funcs.ok.0)) c.loop-func.yielded c.loop-func.func-iterator c.loop-func.yielded_by c.next.result c.next.new.self c.in-None.is c.next.ensures.steps).1 in
    let none = drop_end c.args.funcs.items (length c.loop-func.yielded) (omega (arith, all)) in
    sym (nothing_more (map func_of c.loop-func.program.items)) ∙ rw none at c.loop-func.invariant.so_far
