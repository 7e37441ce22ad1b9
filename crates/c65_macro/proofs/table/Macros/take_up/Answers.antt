use Rattle.std.proofs.Common.{sym, Some}
use Rattle.c65_macro.specs.Table.{lookup}
use Rattle.c65_macro.specs.Views.{items_of}
use Rattle.c65_macro.specs.Machine.{begun_left, begun_with, stage_of, frames_of}
use Rattle.c65_macro.proofs.Going.{into_front, left_is}
use Rattle.c65_macro.proofs.table.Macros.take_up.Goals as goal

pub returns-in-Some-params-clause-value : goal.returns-in-Some-params-clause-value
returns-in-Some-params-clause-value c = λ nodes more x.
    let table = c.args.self.now in
    let level = c.args.state.now.level in
    let names = c.args.names.now in
    let b = c.args.begun in
    let m = c.in-Some.found.now in
    let ps = c.in-Some-params.params in
    let s = stage_of nodes more level in
    into_front nodes table (items_of nodes level.out.items) (frames_of nodes more c.args.state.now.pending.items) (λ go. begun_left nodes table go names s b (lookup table b.name.token.spelling)) (λ go. begun_with nodes table go names s b m (Some ps)) c.gather.result c.gather.new.names (stage_of nodes more c.gather.new.state.level) (frames_of nodes more c.gather.new.state.pending.items)
    (λ go. left_is nodes table go names s b (lookup table b.name.token.spelling) m ps (sym c.in-Some.ensures) c.in-Some-params.is)
    (c.gather.ensures.value nodes more x)
