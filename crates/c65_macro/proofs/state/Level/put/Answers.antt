use Rattle.std.proofs.Common.{◌≡◌, ◌∙◌, ◌++◌, ◌+◌, ◌<◌, ◌≤◌, List, sym, ap, subst, arith, append_assoc}
use Rattle.std.proofs.lemmas.Bool.{lt-ltb, le-ltb}
use Rattle.c65_macro.specs.Items.{Item, count, put_count}
use Rattle.c65_macro.specs.Expand
use Rattle.c65_macro.specs.Views.{items_of}
use Rattle.c65_macro.specs.Machine.{Later, outcome, outcome_by, rest_in, tail_of}
use Rattle.c65_macro.proofs.Seen.{items_append}
use Rattle.c65_macro.proofs.Tails.{put_more, put_tail}
use Rattle.c65_macro.proofs.Stepping.{put_fits, put_full}
use Rattle.c65_macro.proofs.state.Level.put.Goals as goal

pub returns-then-waiting-gt-LIMIT-clause-value : goal.returns-then-waiting-gt-LIMIT-clause-value
returns-then-waiting-gt-LIMIT-clause-value c = λ nodes more table known frames n.
    let level = c.args.self.now in
    let new = items_of nodes c.args.replacement.items in
    let tail = tail_of more level.is_open in
    let is = rest_in nodes more level in
    let size : c.in_ok-size.size ≡ count new = c.in_ok-size.ensures nodes ∙ ap (λ l. count (items_of nodes l)) c.deref.ensures.value in
    let t : 500000 < level.outside + count new + put_count is = omega (arith, size, c.in_ok-more.ensures, c.in_ok-waiting.ensures, c.put.ensures, put_more nodes level.rest tail (put_tail more level.is_open), c.if-waiting-gt-LIMIT.true) in
    rw c.too_many_tokens.ensures (put_full table n known level.outside level.room (items_of nodes level.out.items) new is frames (lt-ltb 500000 (level.outside + count new + put_count is) t))

pub returns-clause-value : goal.returns-clause-value
returns-clause-value c = λ nodes more table known frames n.
    let level = c.args.self.now in
    let new = items_of nodes c.args.replacement.items in
    let tail = tail_of more level.is_open in
    let is = rest_in nodes more level in
    let out = items_of nodes level.out.items in
    let size : c.in_ok-size.size ≡ count new = c.in_ok-size.ensures nodes ∙ ap (λ l. count (items_of nodes l)) c.deref.ensures.value in
    let t : level.outside + count new + put_count is ≤ 500000 = omega (arith, size, c.in_ok-more.ensures, c.in_ok-waiting.ensures, c.put.ensures, put_more nodes level.rest tail (put_tail more level.is_open), c.if-waiting-gt-LIMIT.false) in
    let e : items_of nodes c.push_all.new.self ++ tail ≡ new ++ is = ap (λ l. items_of nodes l ++ tail) c.in_ok-push_all.ensures ∙ ap (λ l. l ++ tail) (items_append nodes c.args.replacement.items level.rest) ∙ append_assoc new (items_of nodes level.rest) tail in
    let P : List Item → Type 0 = λ r. Later (outcome table n known (record { rest = r; out = out; room = level.room; outside = level.outside }) frames) (outcome_by table n out frames (λ go. Expand.put_before go known level.outside level.room new is)) in
    subst P (sym e) (put_fits table n known level.outside level.room out new is frames (le-ltb 500000 (level.outside + count new + put_count is) t))
