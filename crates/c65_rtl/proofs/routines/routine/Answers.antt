-- The lines are those of the routine, which are a segment's, short where the routine is straight, and meet its row.
use Rattle.std.proofs.Common.{◌≡◌, ◌∙◌, ap, List, []}
use Rattle.c65_code.specs.declared.line.Line.{Line}
use Rattle.c65_code.specs.Segments.{Drafted}
use Rattle.c65_rtl.specs.Assembly.{with_all, with_pieces}
use Rattle.c65_rtl.specs.Routines.{pieces_of}
use Rattle.c65_rtl.proofs.SegmentLaws.{closes}
use Rattle.c65_rtl.proofs.ShortLaws.{short_lines}
use Rattle.c65_rtl.proofs.AllRows.{rows_are_met}
use Rattle.c65_rtl.proofs.routines.routine.Goals as goal

written : (a b : Drafted) (pieces : List (List Line)) → a.lines ≡ [] → b ≡ with_pieces a pieces → b.lines ≡ with_all [] pieces
written a b pieces e w = ap (λ d. d.lines) w ∙ ap (λ lines. with_all lines pieces) e

pub close-requires : goal.close-requires
close-requires c = closes c.args.which c.write.new.draft.lines c.requires (written c.new-draft.result c.write.new.draft (pieces_of c.args.which) c.new-draft.ensures.lines c.in_ok-write.ensures)

pub returns-clause-short : goal.returns-clause-short
returns-clause-short c = λ h. short_lines c.args.which c.close.result.lines h (c.close.ensures.lines ∙ written c.new-draft.result c.write.new.draft (pieces_of c.args.which) c.new-draft.ensures.lines c.in_ok-write.ensures)

pub returns-clause-meets : goal.returns-clause-meets
returns-clause-meets c = λ shown s e. rows_are_met s c.args.which shown (e ∙ (c.close.ensures.lines ∙ written c.new-draft.result c.write.new.draft (pieces_of c.args.which) c.new-draft.ensures.lines c.in_ok-write.ensures))
