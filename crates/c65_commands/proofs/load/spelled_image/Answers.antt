use Rattle.std.proofs.Common.{List, ℕ, Ok, Err, subst}
use Rattle.c65_base.specs.declared.refusal.Refusal.{Refusal}
use Rattle.c65_base.specs.declared.refusal.Refusal.TheVariants.{BadImage}
use Rattle.c65_mach.specs.Images.{Parses}
use Rattle.c65_commands.proofs.AnswerLaws.{spelled_ok, spelled_bad}
use Rattle.c65_commands.proofs.load.spelled_image.Goals as goal

pub returns-in-Ok-parse-clause-told : goal.returns-in-Ok-parse-clause-told
returns-in-Ok-parse-clause-told g c =
    spelled_ok (g.F.Files.contents c.args.files.now) c.args.path.now c.in-Ok.bytes c.in-Ok-parse.image c.in-Ok.ensures.text
    (subst (λ (bs : List ℕ). Parses bs (Ok c.in-Ok-parse.image)) c.as_slice.ensures c.in-Ok-parse.ensures.exact)

pub returns-in-Err-BadImage-clause-told : goal.returns-in-Err-BadImage-clause-told
returns-in-Err-BadImage-clause-told g c =
    spelled_bad (g.F.Files.contents c.args.files.now) c.args.path.now c.in-Ok.bytes c.in-Err-BadImage.offset c.in-Ok.ensures.text
    (subst (λ (bs : List ℕ). Parses bs (Err (BadImage c.in-Err-BadImage.offset))) c.as_slice.ensures
    (subst (λ (r : Refusal). Parses c.as_slice.result.now (Err r)) c.in-Err-BadImage.field-0-is c.in-Err-BadImage.ensures.exact))
