use Rattle.std.proofs.Common.{rules, ◌≡◌, ◌+◌, ◌-◌, true, [], Some, length, take, refl, sym, subst, ap, arith}
use Rattle.c65_know.specs.Notes.{nothing_known}
use Rattle.c65_know.specs.Known.{all_ways, IsPassed}
use Rattle.c65_know.proofs.Passes.{known_length}
use Rattle.c65_know.proofs.Gaps.{gap_of, gap_lengths, gap_before, gap_passed}
use Rattle.c65_know.proofs.noted.noted_after.Goals as goal

pub with_gap-requires : goal.with_gap-requires
with_gap-requires c = omega (arith, c.requires.place, ap length c.requires.right, known_length (Some nothing_known) [] c.args.old.now)

pub renew_by_index-requires-clause-lengths : goal.renew_by_index-requires-clause-lengths
renew_by_index-requires-clause-lengths c =
    gap_lengths _ _ _ _ _ _ _ _ (gap_of c.args.old.now c.args.old.now c.args.new.now c.deref-2.result.now c.in_ok-lines.lines.items c.args.notes.now c.args.notes.now c.in_ok-gap.gap.items c.deref_mut.result.now c.args.at c.args.count
    c.requires.place refl c.deref-2.ensures.value c.in_ok-lines.ensures refl c.requires.right c.in_ok-gap.ensures c.deref_mut.ensures.value)

pub renew_by_index-requires-clause-before : goal.renew_by_index-requires-clause-before
renew_by_index-requires-clause-before c =
    let yes : c.are_straight-straight.result ≡ true = search rules in
    gap_before _ _ _ _ _ _ _ _ (gap_of c.args.old.now c.args.old.now c.args.new.now c.deref-2.result.now c.in_ok-lines.lines.items c.args.notes.now c.args.notes.now c.in_ok-gap.gap.items c.deref_mut.result.now c.args.at c.args.count
    c.requires.place refl c.deref-2.ensures.value c.in_ok-lines.ensures refl c.requires.right c.in_ok-gap.ensures c.deref_mut.ensures.value)
    (c.are_straight-straight.ensures yes).0 (c.are_straight-straight.ensures yes).1

pub renew_by_index-requires-clause-passed : goal.renew_by_index-requires-clause-passed
renew_by_index-requires-clause-passed c =
    let yes : c.are_straight-straight.result ≡ true = search rules in
    let long : c.len.result ≡ length c.deref-2.result.now = omega (arith, c.len.ensures, c.deref-2.ensures.len) in
    let passed = gap_passed _ _ _ _ _ _ _ _ (gap_of c.args.old.now c.args.old.now c.args.new.now c.deref-2.result.now c.in_ok-lines.lines.items c.args.notes.now c.args.notes.now c.in_ok-gap.gap.items c.deref_mut.result.now c.args.at c.args.count
    c.requires.place refl c.deref-2.ensures.value c.in_ok-lines.ensures refl c.requires.right c.in_ok-gap.ensures c.deref_mut.ensures.value)
    (c.are_straight-straight.ensures yes).0 in
    subst (λ n. IsPassed c.deref-2.result.now c.deref_mut.result.now (all_ways (take c.args.at c.deref-2.result.now) (take c.args.at c.deref_mut.result.now)) (n - (length c.args.old.now - (c.args.at + c.args.count)))) (sym long) passed
