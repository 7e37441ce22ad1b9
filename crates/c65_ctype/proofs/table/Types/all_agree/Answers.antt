use Rattle.std.proofs.Common.{◌≡◌, ◌+◌, ◌≤◌, length, sym, ap, ◌∙◌, subst, arith, ℕ, Some}
use Rattle.std.specs.Prelude.{Option, option_map, slice_get}
use Rattle.std.specs.Global.{Vec}
use Rattle.c65_ctype.specs.Compatible.{Pairs}
use Rattle.c65_ctype.specs.Visited.{with_new}
use Rattle.c65_ctype.specs.Views.{types_of}
use Rattle.c65_ctype.proofs.AgreeLaws.{Seen, seen_first, seen_next, all_agree, some_differ}
use Rattle.c65_ctype.proofs.table.Types.all_agree.Goals as goal

pub loop-i-init : goal.loop-i-init
loop-i-init c = seen_first (types_of c.args.self.now) c.args.first.items

pub returns-in_default-clause-exact : goal.returns-in_default-clause-exact
returns-in_default-clause-exact c =
    let here = subst (λ (xs : Pairs). slice_get xs c.loop-i.i ≡ Some c.pair_at-s.result) c.as_slice-known.ensures.value c.pair_at-s.ensures in
    let none = sym c.in_ok-found.ensures ∙ ap (λ (o : Option (Vec (ℕ × ℕ))). option_map (λ v. v.items) o) c.in_default.is in
    sym (some_differ (types_of c.args.self.now) c.args.first.items c.loop-i.seen.items c.loop-i.i c.pair_at-s.result here none c.loop-i.invariant 18446744073709551616 (omega (arith, c.loop-i.auto.i-fits)))

pub loop-i-preserved : goal.loop-i-preserved
loop-i-preserved c =
    let types = types_of c.args.self.now in
    let here = subst (λ (xs : Pairs). slice_get xs c.loop-i.i ≡ Some c.pair_at-s.result) c.as_slice-known.ensures.value c.pair_at-s.ensures in
    let next = sym c.in_ok-found.ensures ∙ ap (λ (o : Option (Vec (ℕ × ℕ))). option_map (λ v. v.items) o) c.in-Some.is in
    let added = c.in_ok-add_new.ensures ∙ ap (with_new c.loop-i.seen.items) c.as_slice-new.ensures.value in
    subst (λ (ps : Pairs). Seen types c.args.first.items ps (c.loop-i.i + 1)) (sym added) (seen_next types c.args.first.items c.loop-i.seen.items c.loop-i.i c.pair_at-s.result c.in-Some.found.items here next c.loop-i.invariant)

pub returns-clause-exact : goal.returns-clause-exact
returns-clause-exact c =
    let past = subst (λ (xs : Pairs). length xs ≤ c.loop-i.i) c.as_slice.ensures.value c.loop-i-test.false in
    sym (all_agree (types_of c.args.self.now) c.args.first.items c.loop-i.seen.items c.loop-i.i c.loop-i.invariant past 18446744073709551616)

pub returns-clause-always : goal.returns-clause-always
returns-clause-always c =
    let past = subst (λ (xs : Pairs). length xs ≤ c.loop-i.i) c.as_slice.ensures.value c.loop-i-test.false in
    λ yes n. all_agree (types_of c.args.self.now) c.args.first.items c.loop-i.seen.items c.loop-i.i c.loop-i.invariant past n
