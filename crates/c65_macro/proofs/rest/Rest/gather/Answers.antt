use Rattle.std.proofs.Common.{◌++◌, ◌∙◌, sym, Ok, Err}
use Rattle.std.proofs.lemmas.Result.{err_from_is_err_and}
use Rattle.c65_macro.specs.Views.{items_of}
use Rattle.c65_macro.specs.Machine.{gather_in}
use Rattle.c65_macro.proofs.Gathering.{taking, gather_more, gather_end, gather_stop, gather_open}
use Rattle.c65_macro.proofs.rest.Rest.gather.Goals as goal

pub returns-in_err-take-clause-value : goal.returns-in_err-take-clause-value
returns-in_err-take-clause-value c = λ nodes tail t.
    let w = c.args.words in
    let start = gather_in nodes w c.args.outside c.args.gathered (items_of nodes c.args.self.now ++ tail) in
    let p = err_from_is_err_and c.from_residual.result c.from_residual.ensures.1 in
    rw (p.1, p.2)
    (gather_stop nodes w c.args.outside c.loop-item.gathered c.take.new.self c.in-Some.item c.pop.new.self c.loop-item.self tail start c.in_err-take.field-0.0 c.in-Some.ensures.taken (c.loop-item.invariant nodes tail t)
    (taking nodes w c.args.outside c.put.result c.loop-item.gathered c.in-Some.item c.pop.new.self tail c.role_of-role.result (Err c.in_err-take.field-0.0) c.take.new.self c.role_of-role.ensures c.put.ensures t (λ is ro put. c.in_err-take.ensures.value nodes w is ro put)))

pub returns-then-branch-clause-value : goal.returns-then-branch-clause-value
returns-then-branch-clause-value c = λ nodes tail t.
    let w = c.args.words in
    let start = gather_in nodes w c.args.outside c.args.gathered (items_of nodes c.args.self.now ++ tail) in
    gather_end nodes w c.args.outside c.loop-item.gathered c.take.new.self c.in-Some.item c.pop.new.self c.loop-item.self tail start c.in_ok-take.field-0 c.in_ok-close.field-0 c.if-branch.true c.in-Some.ensures.taken (c.loop-item.invariant nodes tail t)
    (taking nodes w c.args.outside c.put.result c.loop-item.gathered c.in-Some.item c.pop.new.self tail c.role_of-role.result (Ok c.in_ok-take.field-0) c.take.new.self c.role_of-role.ensures c.put.ensures t (λ is ro put. c.in_ok-take.ensures.value nodes w is ro put))
    c.in_ok-close.ensures.0 c.in_ok-close.ensures.1 c.in_ok-close.ensures.2

pub loop-item-preserved : goal.loop-item-preserved
loop-item-preserved c = λ nodes tail t.
    let w = c.args.words in
    let start = gather_in nodes w c.args.outside c.args.gathered (items_of nodes c.args.self.now ++ tail) in
    gather_more nodes w c.args.outside c.loop-item.gathered c.take.new.self c.in-Some.item c.pop.new.self c.loop-item.self tail start c.in_ok-take.field-0 c.if-branch.false c.in-Some.ensures.taken (c.loop-item.invariant nodes tail t)
    (taking nodes w c.args.outside c.put.result c.loop-item.gathered c.in-Some.item c.pop.new.self tail c.role_of-role.result (Ok c.in_ok-take.field-0) c.take.new.self c.role_of-role.ensures c.put.ensures t (λ is ro put. c.in_ok-take.ensures.value nodes w is ro put))

pub returns-clause-value : goal.returns-clause-value
returns-clause-value c = λ nodes tail t. (sym c.in_default.ensures.taken ∙ c.in_default.ensures.ended, gather_open nodes c.args.words c.args.outside c.loop-item.gathered c.loop-item.self tail (gather_in nodes c.args.words c.args.outside c.args.gathered (items_of nodes c.args.self.now ++ tail)) c.in_default.ensures.ended (c.loop-item.invariant nodes tail t))
