-- The image of a code that was made of files is within the bulk of their program.
use Rattle.std.proofs.Common.{◌≡◌, ◌∙◌, ℕ, ◌+◌, ◌≤◌, List, [], ◌∷◌, length, Option, Some, None, Result, Ok, Err, refl, sym, subst, ap, arith}
use Rattle.c65_base.specs.declared.options.Cpu.{Cpu}
use Rattle.c65_base.specs.declared.options.Options.{Options}
use Rattle.c65_base.specs.declared.refusal.Refusal.{Refusal}
use Rattle.c65_base.specs.declared.refusal.Refusal.TheVariants.{TooLarge}
use Rattle.c65_base.specs.declared.refusal.Size.TheVariants as sizes
use Rattle.c65_mach.specs.declared.image.Image.{Image}
use Rattle.c65_code.specs.declared.code.Code.{Code}
use Rattle.c65_code.specs.declared.code.Datum.{Datum}
use Rattle.c65_csem.specs.Trees.{UnitTy}
use Rattle.c65_csem.specs.declared.items.Parts.{Parts}
use Rattle.c65_csem.specs.Views.{unit_of}
use Rattle.c65_asm.specs.Renumbered.{renumbered}
use Rattle.c65_genframe.specs.Modes.{modes_of}
use Rattle.c65_genstmt.specs.Programs.{program_of}
use Rattle.c65_link.specs.Linked.{Fault, linked, image_for, linked_for}
use Rattle.c65_link_law.specs.Extents as files
use Rattle.c65_link_law.specs.Extents.{ImagesAreBounded}
use Rattle.c65_gen_law_size.specs.Bulk.{bulk_of}
use Rattle.c65_gen_law_size.specs.Data.{datums_size}
use Rattle.c65_gen_law_size.specs.Laws.{ProgramsAreWithinTheirBulk, ScopedProgramsFillTheirObjects}
use Rattle.c65_gen_law_size.proofs.Layouts.{large_most}
use Rattle.c65_optimise.specs.Optimised.{OptimisedBy}
use Rattle.c65_ppline.specs.Relations.{Answers, ◌then◌}
use Rattle.c65_ppdir.specs.Units.{Held}
use Rattle.c65_driver_chain.specs.Front.{command, programs, IsGood, generated}
use Rattle.c65_driver_words.specs.Commands.{Spelled}
use Rattle.c65_driver_words.specs.declared.command.CommandKind.{CommandKind}
use Rattle.c65_driver_words.specs.declared.command.CommandKind.TheVariants as kinds
use Rattle.c65_commands.specs.Compiled.{IsPrintedAs, IsOfSources, IsLinked, front}
use Rattle.c65_commands.specs.Outside.{Outside}
use Rattle.c65_commands.specs.Tool.{Serves}
use Rattle.c65_driver_law_images.specs.Laws.{PrintedCodesReadBack}
use Rattle.c65_driver_law_size.specs.Laws.{IsWithinBulk, TakesFiles, RefusedImagesAreWithinTheirBulk, MadeImagesAreWithinTheirBulk}
use Rattle.c65_driver_law_size.proofs.Sizes.{taken, renumbered_takes, optimised_takes}

-- the laws on which these stand
pub record Grounds : Type 0 where
  pub printed : PrintedCodesReadBack
  pub programs : ProgramsAreWithinTheirBulk
  pub fills : ScopedProgramsFillTheirObjects
  pub bounded : ImagesAreBounded

-- ---- a code of the front

-- the code takes, with the runtime, no more than the bulk of the program
code_within : (grounds : Grounds) (held : Held) (c : Spelled) (code : Code)
    → (compiled : Code) × (new : Code) × front held c (Ok compiled) × OptimisedBy c.options compiled new × IsPrintedAs c.options.cpu new code → IsWithinBulk held c (taken code + 8192)
code_within grounds held c code (compiled, new, (x, h, (parts, u, good, g)), w, printed) =
    let same : ((unit_of parts, x.0.1), x.1) ≡ x = ap (λ (z : UnitTy). let y : (UnitTy × ℕ) × List (List ℕ) = ((z, x.0.1), x.1) in y) u in
    let made : IsGood x.1 (unit_of parts) x.0.1 = subst (λ (z : UnitTy). IsGood x.1 z x.0.1) (sym u) good in
    let filled = grounds.fills parts x.0.1 made.well_typed.unit made.scoped in
    let whole = grounds.programs parts x.0.1 x.1 (modes_of c.options) compiled filled g in
    let read : taken code ≡ taken new = ap taken (grounds.printed c.options.cpu new code printed) ∙ renumbered_takes new in
    record {
      parts = parts;
      main = x.0.1;
      names = x.1;
      front = subst (λ (y : (UnitTy × ℕ) × List (List ℕ)). programs (command held c.options c.defines c.folders) c.files (Ok y)) (sym same) h;
      within = omega (arith, whole, optimised_takes c.options compiled new w, read);
    }

-- fewer bytes are within it too
fewer : (held : Held) (c : Spelled) (most bytes : ℕ) → bytes ≤ most → IsWithinBulk held c most → IsWithinBulk held c bytes
fewer held c most bytes le h = record { parts = h.parts; main = h.main; names = h.names; front = h.front; within = omega (arith, le, h.within) }

-- ---- its image

file_data : (datums : List Datum) → files.data_size datums ≤ datums_size datums
file_data [] = omega arith
file_data (datum ∷ datums) = omega (arith, file_data datums)

image_is : (cpu : Cpu) (r : Result Image Fault) (image : Image) → image_for cpu r ≡ Ok image → (plain : Image) × (r ≡ Ok plain) × (plain.payload ≡ image.payload)
image_is cpu (Ok plain) image h = (plain, refl, let is : record plain { cpu = cpu } ≡ image = cc in ap (λ (i : Image). i.payload) is)
image_is cpu (Err e) image h = absurd cc

file_most : (grounds : Grounds) (cpu : Cpu) (code : Code) (image : Image) → linked_for cpu code ≡ Ok image → length image.payload ≤ taken code + 8192
file_most grounds cpu code image h =
    let plain = image_is cpu (linked code) image h in
    omega (arith, grounds.bounded code plain.0 plain.1, file_data code.datums, ap length plain.2)

-- ---- by each command

made_with : (grounds : Grounds) (c : Spelled) (kind : CommandKind) (old new : Outside) (code : Code) (image : Option Image) (answer : Result ℕ Refusal) (held : Held)
    → TakesFiles kind → old.files.contents ≡ Some held → Serves kind c old new (Some code) image answer → IsWithinBulk held c (taken code + 8192) × IsLinked c.options.cpu (Some code) image answer
made_with grounds c kinds.Go old new code image answer held is told s = (code_within grounds held c code (s.from_files held told), s.from_code)
made_with grounds c kinds.Build old new code image answer held is told s = (code_within grounds held c code (s.builds.from_files held told), s.builds.from_code)
made_with grounds c kinds.Text old new code image answer held is told s = (code_within grounds held c code (s.texts.from_files held told), s.texts.from_code)
made_with grounds c kinds.Run old new code image answer held is told s = absurd is
made_with grounds c kinds.Gen old new code image answer held is told s = absurd is
made_with grounds c kinds.Depth old new code image answer held is told s = absurd is

pub made_images_are_within_their_bulk : Grounds → MadeImagesAreWithinTheirBulk
made_images_are_within_their_bulk grounds c old new code image answer held is told s =
    let made = made_with grounds c c.kind old new code (Some image) answer held is told s in
    fewer held c (taken code + 8192) (length image.payload) (file_most grounds c.options.cpu code image made.1) made.0

pub refused_images_are_within_their_bulk : Grounds → RefusedImagesAreWithinTheirBulk
refused_images_are_within_their_bulk grounds c old new code size held is told s =
    let made = made_with grounds c c.kind old new code None (Err (TooLarge sizes.Image size)) held is told s in
    fewer held c (taken code + 8192) size (large_most code size made.1) made.0
