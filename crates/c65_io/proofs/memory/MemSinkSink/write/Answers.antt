use Rattle.std.proofs.Common.{◌∙◌, ap, subst, refl, inl}
use Rattle.std.specs.Prelude.{Contains}
use Rattle.c65_io.specs.Memory.{MemSinkView, next_count}
use Rattle.c65_io.proofs.memory.MemSinkSink.write.Goals as goal

pub returns-then-is_listed-clause-refused : goal.returns-then-is_listed-clause-refused
returns-then-is_listed-clause-refused c =
    let call = c.saturating_add-self-inside.result in
    let at : Contains c.deref.result.now call = c.if-is_listed.ensures.0 refl in
    let listed : Contains c.args.self.now.fail call = subst (λ fail. Contains fail call) (c.deref.ensures.value ∙ ap (λ (v : MemSinkView). v.fail) c.self.view_is) at in
    inl (subst (λ n. Contains c.args.self.now.fail n) (c.saturating_add-self-inside.ensures ∙ ap (λ (v : MemSinkView). next_count v.calls) c.self.view_is) listed)
