use Rattle.std.proofs.Common.{◌≡◌, ◌∙◌, [], ◌∷◌, sym, ap}
use Rattle.std.proofs.lemmas.Result.{err_from_is_err_and}
use Rattle.c65_macro.specs.Expand
use Rattle.c65_macro.specs.Items.{done, ◌>>=◌}
use Rattle.c65_macro.specs.Views.{item_of, items_of}
use Rattle.c65_macro.specs.Machine.{rest_in, stage_of, frames_of}
use Rattle.c65_macro.proofs.Seen.{stops_bind}
use Rattle.c65_macro.proofs.Stepping.{steps_front, steps_stop}
use Rattle.c65_macro.proofs.table.Macros.replace_place.Goals as goal

pub returns-in_err-token-clause-value : goal.returns-in_err-token-clause-value
returns-in_err-token-clause-value c = λ nodes more x.
    let table = c.args.self.now in
    let level = c.args.state.now.level in
    let i = item_of nodes c.args.item in
    let is = rest_in nodes more level in
    let fs = frames_of nodes more c.args.state.now.pending.items in
    let y = Expand.place_token table c.args.names.now i c.args.name in
    let p = err_from_is_err_and c.from_residual-in_err-token.result c.from_residual-in_err-token.ensures.1 in
    rw (p.1, p.2)
    (steps_stop (Unit {0}) table (items_of nodes level.out.items) fs (λ go. Expand.replace_place table go c.args.names.now level.outside level.room i is c.args.name) c.in_err-token.field-0.0 c.place_token.new.names (stage_of nodes more level) fs
    (λ go. stops_bind c.in_err-token.field-0.0 y (λ names new. Expand.put_before go names level.outside level.room (new ∷ []) is) (c.in_err-token.ensures.value nodes (c.in_ok-hide.ensures.value nodes x))))

pub returns-clause-value : goal.returns-clause-value
returns-clause-value c = λ nodes more x.
    let table = c.args.self.now in
    let level = c.args.state.now.level in
    let i = item_of nodes c.args.item in
    let is = rest_in nodes more level in
    let fs = frames_of nodes more c.args.state.now.pending.items in
    let names = c.place_token.new.names in
    let y = Expand.place_token table c.args.names.now i c.args.name in
    let e : y ≡ done names (item_of nodes c.in_ok-token.token) = c.in_ok-token.ensures.value nodes (c.in_ok-hide.ensures.value nodes x) in
    steps_front table (items_of nodes level.out.items) fs (λ go. Expand.replace_place table go c.args.names.now level.outside level.room i is c.args.name) (λ go. Expand.put_before go names level.outside level.room (items_of nodes c.in_ok-items.items.items) is) c.put.result names (stage_of nodes more c.put.new.self) fs
    (λ go. ap (λ z. z >>= λ names new. Expand.put_before go names level.outside level.room (new ∷ []) is) e ∙ ap (λ l. Expand.put_before go names level.outside level.room (items_of nodes l) is) (sym c.in_ok-items.ensures))
    (c.put.ensures.value nodes more table names fs)
