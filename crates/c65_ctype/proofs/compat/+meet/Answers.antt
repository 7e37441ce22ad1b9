use Rattle.std.proofs.Common.{◌∙◌, ap, sym, Some, List, arith, nat_eq, length, ℕ}
use Rattle.std.specs.Prelude.{Option}
use Rattle.std.specs.Global.{Vec}
use Rattle.c65_ctype.specs.declared.types.QType.{QType}
use Rattle.c65_ctype.specs.declared.types.FnType.{out-FnType}
use Rattle.c65_ctype.specs.Compatible.{met, all_stay, params_meet, lists_meet}
use Rattle.c65_ctype.specs.Views.{qtys_of, params_in}
use Rattle.c65_ctype.proofs.MeetLaws.{functions_by, unknown_known, known_unknown, known_known, lists_end}
use Rattle.c65_ctype.proofs.compat.+meet.Goals as goal

pub functions_meet-loop-i-init : goal.functions_meet-loop-i-init
functions_meet-loop-i-init t c =
    let by = functions_by c.args.pairs.now.items c.qualified_meet.new.pairs.items c.args.f.now c.args.g.now c.in_ok-qualified_meet.field-0 c.if-f-g.false c.in_ok-qualified_meet.ensures c.if-not-branch.false in
    let ps = c.qualified_meet.new.pairs.items in
    let va = (out-FnType c.args.f.now).variadic in
    let vb = (out-FnType c.args.g.now).variadic in
    record {
      within = omega arith;
      so_far =
          ap (λ (xs : List QType). lists_meet ps (qtys_of xs) (qtys_of c.as_slice-others.result.now)) c.deref-q-items.ensures.value
          ∙ ap (λ (ys : List QType). lists_meet ps (qtys_of c.in-Some-Some.a.items) (qtys_of ys)) c.as_slice-others.ensures.value
          ∙ sym (known_known ps va vb (qtys_of c.in-Some-Some.a.items) (qtys_of c.in-Some-Some.b.items) c.if-f-g-2.false)
          ∙ ap (λ (o : Option (Vec QType)). params_meet ps (params_in o) va (params_in (Some c.in-Some-Some.b)) vb) (sym c.in-Some-Some.is-0)
          ∙ ap (λ (o : Option (Vec QType)). params_meet ps (params_in (out-FnType c.args.f.now).params) va (params_in o) vb) (sym c.in-Some-Some.is-1)
          ∙ sym by;
    }

pub functions_meet-returns-then-not-g : goal.functions_meet-returns-then-not-g
functions_meet-returns-then-not-g t c =
    let by = functions_by c.args.pairs.now.items c.qualified_meet.new.pairs.items c.args.f.now c.args.g.now c.in_ok-qualified_meet.field-0 c.if-f-g.false c.in_ok-qualified_meet.ensures c.if-not-branch.false in
    let ps = c.qualified_meet.new.pairs.items in
    let va = (out-FnType c.args.f.now).variadic in
    let vb = (out-FnType c.args.g.now).variadic in
    unknown_known ps va vb c.all_stay.result (qtys_of c.in-None-Some.types.items) c.if-not-g.true (c.all_stay.ensures ∙ ap (λ (xs : List QType). all_stay (qtys_of xs)) c.deref.ensures.value)
    ∙ ap (λ (o : Option (Vec QType)). params_meet ps (params_in o) va (params_in (Some c.in-None-Some.types)) vb) (sym c.in-None-Some.is-0)
    ∙ ap (λ (o : Option (Vec QType)). params_meet ps (params_in (out-FnType c.args.f.now).params) va (params_in o) vb) (sym c.in-None-Some.is-1)
    ∙ sym by

pub functions_meet-returns-then-not-f : goal.functions_meet-returns-then-not-f
functions_meet-returns-then-not-f t c =
    let by = functions_by c.args.pairs.now.items c.qualified_meet.new.pairs.items c.args.f.now c.args.g.now c.in_ok-qualified_meet.field-0 c.if-f-g.false c.in_ok-qualified_meet.ensures c.if-not-branch.false in
    let ps = c.qualified_meet.new.pairs.items in
    let va = (out-FnType c.args.f.now).variadic in
    let vb = (out-FnType c.args.g.now).variadic in
    known_unknown ps va vb c.all_stay-then-not-f.result (qtys_of c.in-Some-None.types.items) c.if-not-f.true (c.all_stay-then-not-f.ensures ∙ ap (λ (xs : List QType). all_stay (qtys_of xs)) c.deref-then-not-f.ensures.value)
    ∙ ap (λ (o : Option (Vec QType)). params_meet ps (params_in (Some c.in-Some-None.types)) va (params_in o) vb) (sym c.in-Some-None.is-1)
    ∙ ap (λ (o : Option (Vec QType)). params_meet ps (params_in o) va (params_in (out-FnType c.args.g.now).params) vb) (sym c.in-Some-None.is-0)
    ∙ sym by

pub functions_meet-returns-after-loop-i : goal.functions_meet-returns-after-loop-i
functions_meet-returns-after-loop-i t c =
    let ps = c.loop-i.pairs.items in
    let xs = c.deref-q-items.result.now in
    let ys = c.as_slice-others.result.now in
    ap (λ (n : ℕ). met (nat_eq n (length ys)) ps) (c.len.ensures ∙ sym c.deref-q-items.ensures.len)
    ∙ lists_end ps xs ys c.loop-i.i c.loop-i-test.false c.loop-i.auto.i-end c.loop-i.invariant.within
    ∙ c.loop-i.invariant.so_far
