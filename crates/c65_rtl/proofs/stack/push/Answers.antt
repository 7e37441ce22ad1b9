use Rattle.std.proofs.Common.{◌≡◌, OnOk, ◌∷◌, [], subst, sym}
use Rattle.c65_code.specs.declared.routine.Routine.{Routine}
use Rattle.c65_rtl.specs.Assembly.{with_pieces}
use Rattle.c65_rtl.specs.Stack.{push_pieces, no_high_byte, no_word, push_word}
use Rattle.c65_rtl.proofs.Pieces.{piece_then}
use Rattle.c65_rtl.proofs.stack.push.Goals as goal

pub returns-in_ok-put-in-PushA0 : goal.returns-in_ok-put-in-PushA0
returns-in_ok-put-in-PushA0 c =
    let P : Routine → Type 0 = λ v. OnOk c.put-in-PushA0-2.result (c.put-in-PushA0-2.new.draft ≡ with_pieces c.args.draft.now (push_pieces v)) in
    subst P (sym c.in-PushA0.is) (piece_then c.put-in-PushA0-2.result c.args.draft.now c.put-in-PushA0.new.draft c.put-in-PushA0-2.new.draft no_high_byte (push_word ∷ []) c.in_ok-put-in-PushA0.ensures c.put-in-PushA0-2.ensures)

pub returns-in_ok-put-in-Push0 : goal.returns-in_ok-put-in-Push0
returns-in_ok-put-in-Push0 c =
    let P : Routine → Type 0 = λ v. OnOk c.put-in-Push0-2.result (c.put-in-Push0-2.new.draft ≡ with_pieces c.args.draft.now (push_pieces v)) in
    subst P (sym c.in-Push0.is) (piece_then c.put-in-Push0-2.result c.args.draft.now c.put-in-Push0.new.draft c.put-in-Push0-2.new.draft no_word (push_word ∷ []) c.in_ok-put-in-Push0.ensures c.put-in-Push0-2.ensures)
