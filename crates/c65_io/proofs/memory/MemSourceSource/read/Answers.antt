use Rattle.std.proofs.Common.{Some, length, take, drop, ◌+◌, ◌-◌, ap, sym, ◌∙◌, arith}
use Rattle.c65_io.proofs.ToldLaws.{copied_then_left, none_left}
use Rattle.c65_io.specs.Memory.{MemSourceView}
use Rattle.c65_io.proofs.memory.MemSourceSource.read.Goals as goal

pub returns-clause-bytes : goal.returns-clause-bytes
returns-clause-bytes c =
    let left_is = ap (λ (v : MemSourceView). v.left) (sym c.self.view_is) in (
      ap Some (left_is ∙ sym (copied_then_left c.self.inside.bytes.items c.args.into.now c.copy_from_slice.new.self c.self.inside.at c.min-count.result (omega arith) (c.copy_from_slice.ensures.after ∙ ap (λ bytes. take ((c.self.inside.at + c.min-count.result) - c.self.inside.at) (drop c.self.inside.at bytes)) c.deref-2.ensures.value))),
      λ none. left_is ∙ none_left c.self.inside.bytes.items c.self.inside.at (length c.args.into.now) c.self.invariant (omega arith) c.requires,
    )
