use Rattle.std.proofs.Common.{◌≡◌, ◌∙◌, ◌<◌, sym, ap, is_some, true, false, length, Some, slice_get, arith}
use Rattle.std.proofs.lemmas.Option.{slice_get-get_or}
use Rattle.c65_init_cells.proofs.PartLaws.{named_found, named_passed}
use Rattle.c65_init_cells.proofs.parts.named_member.Goals as goal

pub returns-then-is_some-clause-exact : goal.returns-then-is_some-clause-exact
returns-then-is_some-clause-exact c =
    let named : is_some c.index-members-at.result.name ≡ true = cc (c.is_some.ensures, c.if-is_some.true) in
    let inside : c.loop-at.at < length c.args.members.now = omega (arith, c.loop-at-test.true) in
    let here : slice_get c.args.members.now c.loop-at.at ≡ Some c.index-members-at.result = slice_get-get_or c.args.members.now c.loop-at.at c.index-members-at.result inside ∙ sym (ap Some c.index-members-at.is) in
    sym (named_found c.args.members.now c.loop-at.at c.loop-at.at c.index-members-at.result here named) ∙ c.loop-at.invariant

pub loop-at-preserved : goal.loop-at-preserved
loop-at-preserved c =
    let none : is_some c.index-members-at.result.name ≡ false = cc (c.is_some.ensures, c.if-is_some.false) in
    let inside : c.loop-at.at < length c.args.members.now = omega (arith, c.loop-at-test.true) in
    let here : slice_get c.args.members.now c.loop-at.at ≡ Some c.index-members-at.result = slice_get-get_or c.args.members.now c.loop-at.at c.index-members-at.result inside ∙ sym (ap Some c.index-members-at.is) in
    sym (named_passed c.args.members.now c.loop-at.at c.loop-at.at c.index-members-at.result here none) ∙ c.loop-at.invariant
