-- The codes that the tool makes, and their images.
use Rattle.std.proofs.Common.{◌≡◌, ◌∙◌, ℕ, Option, Some, None, Result, Ok, sym, subst}
use Rattle.c65_base.specs.declared.options.Cpu.{Cpu}
use Rattle.c65_base.specs.declared.refusal.Refusal.{Refusal}
use Rattle.c65_mach.specs.declared.image.Image.{Image}
use Rattle.c65_code.specs.declared.code.Code.{Code}
use Rattle.c65_asm.specs.Renumbered.{renumbered}
use Rattle.c65_asm.specs.declared.reading.Answer.TheVariants as answers
use Rattle.c65_asm.proofs.ReadLaws.{text_read}
use Rattle.c65_asm_law_names.proofs.Sound.{renumbered_is_sound}
use Rattle.c65_link.specs.Linked.{linked_for}
use Rattle.c65_link_law_bytes.proofs.Files.{files_are_bytes}
use Rattle.c65_link_law_bytes.proofs.Read.{read_codes_have_bytes}
use Rattle.c65_link_law_images.proofs.WithArguments.{images_follow}
use Rattle.c65_link_law_runtime.specs.Laws.{LinkedRuntimesAreMet}
use Rattle.c65_driver_words.specs.Commands.{Spelled}
use Rattle.c65_driver_words.specs.declared.command.CommandKind.{CommandKind}
use Rattle.c65_driver_words.specs.declared.command.CommandKind.TheVariants as kinds
use Rattle.c65_commands.specs.Compiled.{IsRead}
use Rattle.c65_commands.specs.Outside.{Outside}
use Rattle.c65_commands.specs.Tool.{Serves}
use Rattle.c65_driver_law_images.specs.Laws.{IsLinkable, PrintedCodesAreSound, PrintedCodesReadBack, MadeCodesAreSound, MadeImagesFollow}
use Rattle.c65_driver_law_images.proofs.Processors.{renumbered_runs}

answer_is : (a b : Code) → answers.Code a ≡ answers.Code b → a ≡ b
answer_is a b h = cc

-- what a text reads as is the code that was written, its symbols numbered anew
pub printed_codes_read_back : PrintedCodesReadBack
printed_codes_read_back cpu written code p = answer_is code (renumbered written) (sym p.reads ∙ text_read written p.writable p.typed)

pub printed_codes_are_sound : PrintedCodesAreSound
printed_codes_are_sound cpu written code p =
    let numbers = read_codes_have_bytes written p.typed in
    subst (λ (c : Code). IsLinkable cpu c) (sym (printed_codes_read_back cpu written code p)) (record {
      runs = renumbered_runs cpu written p.runs;
      sound = renumbered_is_sound written p.writable p.typed;
      lines = numbers.0;
      cells = numbers.1;
    })

-- ---- by each command

none_some : {A : Type 0} (x : A) → ◌≡◌ {A = Option A} (Some x) None → ⊥
none_some x h = cc

read_sound : (cpu : Cpu) (code : Code) → IsRead cpu (Some code) → IsLinkable cpu code
read_sound cpu code (again, (written, printed)) = printed_codes_are_sound cpu written code printed

made_sound : (kind : CommandKind) (command : Spelled) (old new : Outside) (code : Code) (image : Option Image) (answer : Result ℕ Refusal) → Serves kind command old new (Some code) image answer → IsLinkable command.options.cpu code
made_sound kinds.Go command old new code image answer s = read_sound command.options.cpu code s.from_text
made_sound kinds.Build command old new code image answer s = read_sound command.options.cpu code s.builds.from_text
made_sound kinds.Text command old new code image answer s = read_sound command.options.cpu code s.texts.from_text
made_sound kinds.Gen command old new code image answer s = read_sound command.options.cpu code s.generates.from_text
made_sound kinds.Run command old new code image answer s = absurd (none_some code s.no_code)
made_sound kinds.Depth command old new code image answer s = absurd (none_some code s.no_code)

linked_image : (kind : CommandKind) (command : Spelled) (old new : Outside) (code : Code) (image : Image) (answer : Result ℕ Refusal) → Serves kind command old new (Some code) (Some image) answer → linked_for command.options.cpu code ≡ Ok image
linked_image kinds.Go command old new code image answer s = s.from_code
linked_image kinds.Build command old new code image answer s = s.builds.from_code
linked_image kinds.Text command old new code image answer s = s.texts.from_code
linked_image kinds.Gen command old new code image answer s = s.generates.from_code
linked_image kinds.Run command old new code image answer s = absurd (none_some code s.no_code)
linked_image kinds.Depth command old new code image answer s = absurd (none_some code s.no_code)

pub made_codes_are_sound : MadeCodesAreSound
made_codes_are_sound command old new code image answer s = made_sound command.kind command old new code image answer s

pub made_images_follow : LinkedRuntimesAreMet → MadeImagesFollow
made_images_follow runtime command old new code image answer s main is_main args input test w bytes given few comes =
    let sound : IsLinkable command.options.cpu code = made_sound command.kind command old new code (Some image) answer s in
    let linked : linked_for command.options.cpu code ≡ Ok image = linked_image command.kind command old new code image answer s in
    images_follow command.options.cpu code image sound.runs sound.sound sound.lines linked (files_are_bytes command.options.cpu code image sound.lines sound.cells linked) main is_main args input test w bytes given few
    (runtime code args) comes
