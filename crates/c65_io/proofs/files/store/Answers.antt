use Rattle.std.proofs.Common.{◌≡◌, [], ◌∷◌, ◌++◌, None, refl, sym, ap, ◌∙◌}
use Rattle.std.specs.List.{position}
use Rattle.c65_io.specs.MemFiles.{held_by}
use Rattle.c65_io.proofs.FileLaws.{has, stands, lacking, held_set, held_set_other, held_push, held_push_other}
use Rattle.c65_io.proofs.files.store.Goals as goal

pub returns-in-Some-clause-held : goal.returns-in-Some-clause-held
returns-in-Some-clause-held c =
    let files = c.args.files.now.items in
    let path = c.args.file.path in
    let at = stands path files c.in-Some.index c.args.file (sym (c.in-Some.ensures ∙ ap (λ p. position (has p) c.deref.result.now) c.as_slice.ensures ∙ ap (position (has path)) c.deref.ensures.value)) in (
      held_set path files c.in-Some.index c.args.file at refl,
      λ other ne. held_set_other path other files c.in-Some.index c.args.file at refl ne,
    )

pub returns-in_ok-push-in-None-clause-held : goal.returns-in_ok-push-in-None-clause-held
returns-in_ok-push-in-None-clause-held c =
    let files = c.args.files.now.items in
    let path = c.args.file.path in
    let none : held_by files path ≡ None = lacking path files (sym (c.in-None.ensures ∙ ap (λ p. position (has p) c.deref.result.now) c.as_slice.ensures ∙ ap (position (has path)) c.deref.ensures.value)) in
    let is : c.push.new.self.items ≡ files ++ c.args.file ∷ [] = c.in_ok-push-in-None.ensures.items in (
      ap (λ fs. held_by fs path) is ∙ held_push path files c.args.file none refl,
      λ other ne. ap (λ fs. held_by fs other) is ∙ held_push_other path other files c.args.file refl ne,
    )
