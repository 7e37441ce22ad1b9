use Rattle.std.proofs.Common.{◌≡◌, OnOk, ◌∷◌, [], subst, sym}
use Rattle.c65_code.specs.declared.routine.Width.{Width}
use Rattle.c65_rtl.specs.Assembly.{with_pieces}
use Rattle.c65_rtl.specs.Shifts.{begin_pieces, shift_long, shifts}
use Rattle.c65_rtl.proofs.Pieces.{piece_then}
use Rattle.c65_rtl.proofs.shifts.begin.Goals as goal

pub returns-in_ok-put-in-Eax : goal.returns-in_ok-put-in-Eax
returns-in_ok-put-in-Eax c =
    let P : Width → Type 0 = λ v. OnOk c.put-in-Eax-2.result (c.put-in-Eax-2.new.draft ≡ with_pieces c.args.draft.now (begin_pieces v)) in
    subst P (sym c.in-Eax.is) (piece_then c.put-in-Eax-2.result c.args.draft.now c.put-in-Eax.new.draft c.put-in-Eax-2.new.draft shift_long (shifts ∷ []) c.in_ok-put-in-Eax.ensures c.put-in-Eax-2.ensures)
