use Rattle.std.proofs.Common.{◌≡◌, OnOk, ◌∷◌, subst, sym}
use Rattle.c65_base.specs.declared.library.Library.{Library}
use Rattle.c65_rtl.specs.Assembly.{with_pieces}
use Rattle.c65_code.specs.declared.routine.Count.TheVariants.{Four}
use Rattle.c65_rtl.specs.Stack.{top_word_pieces}
use Rattle.c65_rtl.specs.Memory.{copy}
use Rattle.c65_rtl.specs.Library.{memory_pieces, copied, fill}
use Rattle.c65_rtl.proofs.Pieces.{piece_then}
use Rattle.c65_rtl.proofs.library.memory_function.Goals as goal

pub returns-in_ok-copy_bytes-in-Memcpy : goal.returns-in_ok-copy_bytes-in-Memcpy
returns-in_ok-copy_bytes-in-Memcpy c =
    let P : Library → Type 0 = λ v. OnOk c.top_word.result (c.top_word.new.draft ≡ with_pieces c.args.draft.now (memory_pieces v)) in
    subst P (sym c.in-Memcpy.is) (piece_then c.top_word.result c.args.draft.now c.put.new.draft c.top_word.new.draft copied (copy ∷ top_word_pieces 3 Four) c.in_ok-put-in-Memcpy.ensures (piece_then c.top_word.result c.put.new.draft c.copy_bytes.new.draft c.top_word.new.draft copy (top_word_pieces 3 Four) c.in_ok-copy_bytes-in-Memcpy.ensures c.top_word.ensures))

pub returns-in_ok-put-in-Memset : goal.returns-in_ok-put-in-Memset
returns-in_ok-put-in-Memset c =
    let P : Library → Type 0 = λ v. OnOk c.top_word-in-Memset.result (c.top_word-in-Memset.new.draft ≡ with_pieces c.args.draft.now (memory_pieces v)) in
    subst P (sym c.in-Memset.is) (piece_then c.top_word-in-Memset.result c.args.draft.now c.put-in-Memset.new.draft c.top_word-in-Memset.new.draft fill (top_word_pieces 3 Four) c.in_ok-put-in-Memset.ensures c.top_word-in-Memset.ensures)
