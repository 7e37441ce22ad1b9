use Rattle.std.proofs.Common.{[], Some, length, ap, arith}
use Rattle.c65_know.specs.Notes.{nothing_known}
use Rattle.c65_know.proofs.Passes.{known_length}
use Rattle.c65_know.proofs.Gaps.{gap_of, gap_order, gap_place, gap_lengths, gap_before, gap_straight, gap_passed}
use Rattle.c65_know.proofs.noted.Noted.replace.Goals as goal

pub stays_near-near-requires-clause-lengths : goal.stays_near-near-requires-clause-lengths
stays_near-near-requires-clause-lengths c = omega (arith, ap length c.lines-old.ensures.lines, ap length c.deref.ensures.value, ap length c.self.invariant.1, known_length (Some nothing_known) [] c.self.inside.seg.lines)

pub with_gap-requires : goal.with_gap-requires
with_gap-requires c = omega (arith, c.requires.place, ap (λ s. length s.lines) c.self.view_is, ap length c.deref-then-near.ensures.value, ap length c.self.invariant.1, known_length (Some nothing_known) [] c.self.inside.seg.lines)

pub renew_straight-requires : goal.renew_straight-requires
renew_straight-requires c =
    let g = (gap_of c.self.inside.seg.lines c.lines-old.result.now c.args.lines.now c.lines-now.result.now c.replace.new.self.lines c.self.inside.notes.items c.deref-then-near.result.now c.in_ok-notes.notes.items c.deref_mut.result.now c.args.at c.args.count
    (omega (arith, c.requires.place, ap (λ s. length s.lines) c.self.view_is)) c.lines-old.ensures.lines c.lines-now.ensures.lines (ap (λ s. s.lines) c.in_ok-replace.ensures.ok) c.deref-then-near.ensures.value c.self.invariant.1 c.in_ok-notes.ensures c.deref_mut.ensures.value) in
    record {
      order = gap_order _ _ _ _ _ _ _ _ g;
      place = gap_place _ _ _ _ _ _ _ _ g;
      lengths = gap_lengths _ _ _ _ _ _ _ _ g;
      before = gap_before _ _ _ _ _ _ _ _ g (c.stays_near-near.ensures c.if-near.true).0 (c.stays_near-near.ensures c.if-near.true).1;
      straight = gap_straight _ _ _ _ _ _ _ _ g (c.stays_near-near.ensures c.if-near.true).1;
      passed = gap_passed _ _ _ _ _ _ _ _ g (c.stays_near-near.ensures c.if-near.true).0;
    }
