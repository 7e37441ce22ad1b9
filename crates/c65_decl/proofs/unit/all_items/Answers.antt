use Rattle.std.proofs.Common.{◌≡◌, ◌+◌, List, Bool, Ok, drop, ap, sym, ◌∙◌, refl}
use Rattle.std.specs.Prelude.{if◌then◌else◌}
use Rattle.std.proofs.lemmas.Result.{err_from_is_err_and}
use Rattle.c65_tree.specs.Trees.{ItemTree}
use Rattle.c65_tree.specs.View.{item_of}
use Rattle.c65_parse.specs.Reading.{rest_of, blocks_of}
use Rattle.c65_decl.specs.Units.{items_of, items_run, items_read, items_next, item_read, with_item}
use Rattle.c65_decl.proofs.Turns.{turn, refused}
use Rattle.c65_decl.proofs.unit.all_items.Goals as goal

pub loop-step-preserved : goal.loop-step-preserved
loop-step-preserved c =
    let l = c.loop-step in
    let unit = c.args.unit.now in
    let after = c.read_item.new.parser in
    let before = items_of l.items.items in
    let more = with_item before (item_of c.in_ok-item.item) in
    let t : items_next (items_run 256 unit (drop (l._step-index + 1) unit)) more (blocks_of after) (rest_of after) ≡ items_read 256 unit (blocks_of c.args.parser.now) (rest_of c.args.parser.now) =
    turn (λ us. items_run 256 unit us before (blocks_of l.parser) (rest_of l.parser)) (item_read 256 unit (blocks_of l.parser) (rest_of l.parser)) (λ us i. items_next (items_run 256 unit us) (with_item before i.0) i.2 i.1) unit l._step-index _ _ (λ u rest. refl) c.loop-step-test.true l.invariant c.in_ok-item.ensures in
    ap (λ (is : List ItemTree). items_run 256 unit (drop (l._step-index + 1) unit) is (blocks_of after) (rest_of after)) c.in_ok-items.ensures
    ∙ sym (ap (λ (b : Bool). if b then Ok more else items_run 256 unit (drop (l._step-index + 1) unit) more (blocks_of after) (rest_of after)) (sym c.is_here.ensures ∙ c.if-is_here.false)) ∙ t

pub returns-in_err-item : goal.returns-in_err-item
returns-in_err-item c =
    let l = c.loop-step in
    let unit = c.args.unit.now in
    let before = items_of l.items.items in
    let p = err_from_is_err_and c.from_residual.result c.from_residual.ensures.1 in
    rw (p.1, p.2) (refused (λ us. items_run 256 unit us before (blocks_of l.parser) (rest_of l.parser)) (item_read 256 unit (blocks_of l.parser) (rest_of l.parser)) (λ us i. items_next (items_run 256 unit us) (with_item before i.0) i.2 i.1) unit l._step-index _ _ (λ u rest. refl) c.loop-step-test.true l.invariant c.in_err-item.ensures)
