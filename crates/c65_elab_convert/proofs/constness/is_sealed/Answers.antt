use Rattle.std.proofs.Common.{◌≡◌, ℕ, List, [], sym, ap, ◌∙◌, arith}
use Rattle.c65_ctype.specs.Views.{types_of}
use Rattle.c65_elab_convert.specs.Constness.{any_sealed, inner_tags}
use Rattle.c65_elab_convert.proofs.SealLaws.{sealed_next, sealed_found, sealed_end}
use Rattle.c65_elab_convert.proofs.constness.is_sealed.Goals as goal

pub returns-then-any_sealed : goal.returns-then-any_sealed
returns-then-any_sealed c =
    let types = types_of c.args.types.now in
    let here = ap (any_sealed types) (sym c.as_slice-level.ensures.value) ∙ sym c.any_sealed.ensures ∙ c.if-any_sealed.true in
    sym (sealed_found types c.loop-left.left c.loop-left.tags.items c.loop-left-test.true here) ∙ c.loop-left.invariant

pub loop-left-preserved : goal.loop-left-preserved
loop-left-preserved c =
    let types = types_of c.args.types.now in
    let none = ap (any_sealed types) (sym c.as_slice-level.ensures.value) ∙ sym c.any_sealed.ensures ∙ c.if-any_sealed.false in
    let inner = c.in_ok-inner.ensures ∙ ap (inner_tags types []) c.as_slice-level.ensures.value in
    sealed_next types c.loop-left.left c.loop-left.tags.items c.in_ok-inner.inner.items c.loop-left-test.true none inner ∙ c.loop-left.invariant

pub returns : goal.returns
returns c =
    let types = types_of c.args.types.now in
    sym (sealed_end types c.loop-left.left c.loop-left.tags.items c.loop-left-test.false) ∙ c.loop-left.invariant
