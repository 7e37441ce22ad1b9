-- The end of a function undoes its entry.
use Rattle.std.proofs.Common.{◌≡◌, ◌∷◌, sym, ◌∙◌, arith}
use Rattle.c65_gen_law_stack.specs.Calls.{EntriesLowerSp, IsEntered, EndsRaiseSp, IsLeft, EndsUndoEntries}
use Rattle.c65_gen_law_stack.proofs.EntryWay.{entered}
use Rattle.c65_gen_law_stack.proofs.EndWay.{has_left}
use Rattle.c65_gen_law_stack.proofs.FrameOrder.{frames_are_orderly}

pub entries_lower_sp : EntriesLowerSp
entries_lower_sp s parts modes g f p q t u h way = entered f s p q t u (frames_are_orderly parts modes g f h) way

pub ends_raise_sp : EndsRaiseSp
ends_raise_sp s f frame frames p q t u e way = has_left s f frame frames p q t u e way

pub ends_undo_entries : EndsUndoEntries
ends_undo_entries s parts modes g f frame frames p q r o t u v w framed e entry holds end =
    let first : IsEntered f t u = entries_lower_sp s parts modes g f p q t u framed entry in
    let stack : v.frames ≡ frame ∷ frames = holds.frames ∙ (first.frames ∙ e) in
    let last : IsLeft s f frame r v o w = ends_raise_sp s f frame frames r o v w stack end in
    record {
      to = last.to;
      sp = omega (arith, first.sp, first.parameters, holds.sp, holds.parameters, last.sp);
      bank = last.bank ∙ (holds.bank ∙ first.bank);
      frames = sym first.frames ∙ (sym holds.frames ∙ last.frames);
    }
