-- The lines are those of the routine, which are a segment's.
use Rattle.std.proofs.Common.{◌≡◌, ◌∙◌, ap, List, []}
use Rattle.c65_code.specs.declared.line.Line.{Line}
use Rattle.c65_code.specs.Segments.{Drafted}
use Rattle.c65_rtl.specs.Assembly.{with_all, with_pieces}
use Rattle.c65_rtlwide.specs.Wide.{wide_pieces}
use Rattle.c65_rtlwide.proofs.SegmentLaws.{closes}
use Rattle.c65_rtlwide.proofs.wide.wide_routine.Goals as goal

written : (a b : Drafted) (pieces : List (List Line)) → a.lines ≡ [] → b ≡ with_pieces a pieces → b.lines ≡ with_all [] pieces
written a b pieces e w = ap (λ d. d.lines) w ∙ ap (λ lines. with_all lines pieces) e

pub close-requires : goal.close-requires
close-requires c = closes c.args.which c.write.new.draft.lines c.requires (written c.new-draft.result c.write.new.draft (wide_pieces c.args.which) c.new-draft.ensures.lines c.in_ok-write.ensures)
