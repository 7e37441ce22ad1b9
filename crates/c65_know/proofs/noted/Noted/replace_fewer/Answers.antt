use Rattle.std.proofs.Common.{rules, ◌≡◌, ◌+◌, ◌-◌, ◌++◌, [], Some, List, length, take, drop, replicate, refl, ap, subst, ◌∙◌, arith}
use Rattle.c65_code.specs.declared.line.Line.{Line}
use Rattle.c65_code.specs.Segments.{targets_of}
use Rattle.c65_know.specs.declared.note.Note.{Note}
use Rattle.c65_know.specs.Notes.{nothing_known}
use Rattle.c65_know.proofs.Passes.{known_length}
use Rattle.c65_know.proofs.Gaps.{gap_of, gap_lengths, gap_before, gap_passed}
use Rattle.c65_know.proofs.noted.Noted.replace_fewer.Goals as goal

pub overwrite-requires-clause-place : goal.overwrite-requires-clause-place
overwrite-requires-clause-place c = omega (arith, c.requires.place, ap (λ s. length s.lines) c.self.view_is, ap length c.self.invariant.1, known_length (Some nothing_known) [] c.self.inside.seg.lines)

pub renew_straight-requires-clause-lengths : goal.renew_straight-requires-clause-lengths
renew_straight-requires-clause-lengths c =
    let filled : c.deref.result.now ≡ replicate (length c.args.lines.now) nothing_known = search rules in
    let made = c.overwrite.ensures ∙ ap (λ (fill : List Note). take c.args.at c.self.inside.notes.items ++ (fill ++ drop (c.args.at + c.args.count) c.self.inside.notes.items)) filled in
    gap_lengths _ _ _ _ _ _ _ _ (gap_of c.self.inside.seg.lines c.lines.result.now c.args.lines.now c.lines-now.result.now c.replace.new.self.lines c.self.inside.notes.items c.self.inside.notes.items c.overwrite.new.notes.items c.deref_mut.result.now c.args.at c.args.count
    (omega (arith, c.requires.place, ap (λ s. length s.lines) c.self.view_is)) c.lines.ensures.lines c.lines-now.ensures.lines (ap (λ s. s.lines) c.in_ok-replace.ensures.ok) refl c.self.invariant.1 made c.deref_mut.ensures.value)

pub renew_straight-requires-clause-before : goal.renew_straight-requires-clause-before
renew_straight-requires-clause-before c =
    let filled : c.deref.result.now ≡ replicate (length c.args.lines.now) nothing_known = search rules in
    let made = c.overwrite.ensures ∙ ap (λ (fill : List Note). take c.args.at c.self.inside.notes.items ++ (fill ++ drop (c.args.at + c.args.count) c.self.inside.notes.items)) filled in
    let is : c.args.self.now.lines ≡ c.lines.result.now = search rules in
    gap_before _ _ _ _ _ _ _ _ (gap_of c.self.inside.seg.lines c.lines.result.now c.args.lines.now c.lines-now.result.now c.replace.new.self.lines c.self.inside.notes.items c.self.inside.notes.items c.overwrite.new.notes.items c.deref_mut.result.now c.args.at c.args.count
    (omega (arith, c.requires.place, ap (λ s. length s.lines) c.self.view_is)) c.lines.ensures.lines c.lines-now.ensures.lines (ap (λ s. s.lines) c.in_ok-replace.ensures.ok) refl c.self.invariant.1 made c.deref_mut.ensures.value)
    (subst (λ (ls : List Line). targets_of (take (c.args.at + c.args.count - c.args.at) (drop c.args.at ls)) ≡ []) is c.requires.old_straight) c.requires.new_straight

pub renew_straight-requires-clause-passed : goal.renew_straight-requires-clause-passed
renew_straight-requires-clause-passed c =
    let filled : c.deref.result.now ≡ replicate (length c.args.lines.now) nothing_known = search rules in
    let made = c.overwrite.ensures ∙ ap (λ (fill : List Note). take c.args.at c.self.inside.notes.items ++ (fill ++ drop (c.args.at + c.args.count) c.self.inside.notes.items)) filled in
    let is : c.args.self.now.lines ≡ c.lines.result.now = search rules in
    gap_passed _ _ _ _ _ _ _ _ (gap_of c.self.inside.seg.lines c.lines.result.now c.args.lines.now c.lines-now.result.now c.replace.new.self.lines c.self.inside.notes.items c.self.inside.notes.items c.overwrite.new.notes.items c.deref_mut.result.now c.args.at c.args.count
    (omega (arith, c.requires.place, ap (λ s. length s.lines) c.self.view_is)) c.lines.ensures.lines c.lines-now.ensures.lines (ap (λ s. s.lines) c.in_ok-replace.ensures.ok) refl c.self.invariant.1 made c.deref_mut.ensures.value)
    (subst (λ (ls : List Line). targets_of (take (c.args.at + c.args.count - c.args.at) (drop c.args.at ls)) ≡ []) is c.requires.old_straight)
