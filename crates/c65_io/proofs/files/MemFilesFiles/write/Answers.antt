use Rattle.std.proofs.Common.{◌∙◌, ap, subst, refl, inl}
use Rattle.std.specs.Prelude.{Contains}
use Rattle.c65_io.specs.MemFiles.{MemFilesView}
use Rattle.c65_io.specs.Memory.{next_count}
use Rattle.c65_io.proofs.files.MemFilesFiles.write.Goals as goal

pub returns-then-is_listed-clause-memory : goal.returns-then-is_listed-clause-memory
returns-then-is_listed-clause-memory c =
    let call = c.saturating_add-self-inside.result in
    let at : Contains c.deref.result.now call = c.if-is_listed.ensures.0 refl in
    let listed : Contains c.args.self.now.fail call = subst (λ fail. Contains fail call) (c.deref.ensures.value ∙ ap (λ (v : MemFilesView). v.fail) c.self.view_is) at in
    inl (subst (λ n. Contains c.args.self.now.fail n) (c.saturating_add-self-inside.ensures ∙ ap (λ (v : MemFilesView). next_count v.calls) c.self.view_is) listed)
