use Rattle.std.proofs.Common.{◌≡◌, List, ℕ, Some, None, Err, Ok, sym, ap, ◌∙◌, subst, refl, Option}
use Rattle.std.specs.Prelude.{IsSome, Contains}
use Rattle.c65_io.specs.declared.outside.FileFault.TheVariants.{Missing, Failed}
use Rattle.c65_io.specs.MemFiles.{MemFilesView, held_by}
use Rattle.c65_io.specs.Memory.{next_count}
use Rattle.c65_io.specs.Contents.{ReadsFrom}
use Rattle.c65_io.proofs.files.MemFilesFiles.read.Goals as goal

pub returns-in_default-clause-bytes : goal.returns-in_default-clause-bytes
returns-in_default-clause-bytes c =
    let files = c.deref.ensures.value ∙ ap (λ (v : MemFilesView). v.files) c.self.view_is in
    let none : None ≡ held_by c.args.self.now.files c.args.path.now = c.in_default.ensures ∙ ap (λ fs. held_by fs c.args.path.now) files in
    subst (λ (h : Option (List ℕ)). ReadsFrom h c.args.at c.args.into.now (Err Missing)) none tt

pub returns-in_default-clause-listed : goal.returns-in_default-clause-listed
returns-in_default-clause-listed c =
    let files = c.deref.ensures.value ∙ ap (λ (v : MemFilesView). v.files) c.self.view_is in
    let none : None ≡ held_by c.args.self.now.files c.args.path.now = c.in_default.ensures ∙ ap (λ fs. held_by fs c.args.path.now) files in
    (λ e. absurd cc, λ p. let some : IsSome {T = List ℕ} None = subst (λ (h : Option (List ℕ)). IsSome h) (sym none) p.1 in absurd cc)

pub returns-then-is_listed-clause-bytes : goal.returns-then-is_listed-clause-bytes
returns-then-is_listed-clause-bytes c =
    let files = c.deref.ensures.value ∙ ap (λ (v : MemFilesView). v.files) c.self.view_is in
    let some : Some c.in-Some.bytes.now ≡ held_by c.args.self.now.files c.args.path.now = c.in-Some.ensures ∙ ap (λ fs. held_by fs c.args.path.now) files in
    subst (λ (h : Option (List ℕ)). ReadsFrom h c.args.at c.args.into.now (Err Failed)) some tt

pub returns-then-is_listed-clause-listed : goal.returns-then-is_listed-clause-listed
returns-then-is_listed-clause-listed c =
    let files = c.deref.ensures.value ∙ ap (λ (v : MemFilesView). v.files) c.self.view_is in
    let some : Some c.in-Some.bytes.now ≡ held_by c.args.self.now.files c.args.path.now = c.in-Some.ensures ∙ ap (λ fs. held_by fs c.args.path.now) files in
    let call = c.saturating_add-self-inside.result in
    let at : Contains c.deref-2.result.now call = c.if-is_listed.ensures.0 refl in
    let listed : Contains c.args.self.now.fail call = subst (λ fail. Contains fail call) (c.deref-2.ensures.value ∙ ap (λ (v : MemFilesView). v.fail) c.self.view_is) at in
    let here : Contains c.args.self.now.fail (next_count c.args.self.now.calls) = subst (λ n. Contains c.args.self.now.fail n) (c.saturating_add-self-inside.ensures ∙ ap (λ (v : MemFilesView). next_count v.calls) c.self.view_is) listed in
    (λ e. (here, subst (λ (h : Option (List ℕ)). IsSome h) some refl), λ p. refl)

pub returns-clause-bytes : goal.returns-clause-bytes
returns-clause-bytes c =
    let files = c.deref.ensures.value ∙ ap (λ (v : MemFilesView). v.files) c.self.view_is in
    let some : Some c.in-Some.bytes.now ≡ held_by c.args.self.now.files c.args.path.now = c.in-Some.ensures ∙ ap (λ fs. held_by fs c.args.path.now) files in
    subst (λ (h : Option (List ℕ)). ReadsFrom h c.args.at c.copy_at.new.into (Ok c.copy_at.result)) some
    (c.copy_at.ensures.copied, c.copy_at.ensures.part, c.copy_at.ensures.some c.requires)
