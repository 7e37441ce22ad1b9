-- The bulk of a program bounds what it takes.
use Rattle.std.proofs.Common.{◌≡◌, ◌≤◌, List, [], ◌∷◌, refl, sym, ◌∙◌, ap, arith}
use Rattle.std.specs.Prelude.{Result, Ok, Err}
use Rattle.c65_base.specs.Answers.{Fault, ◌>>=◌}
use Rattle.c65_code.specs.declared.code.Code.{Code}
use Rattle.c65_code.specs.declared.code.Datum.{Datum}
use Rattle.c65_gendata.specs.Data.{data_of}
use Rattle.c65_genstmt.specs.Programs.{functions_of, code_of}
use Rattle.c65_gen_law_lines.proofs.ProgramLaws.{programs_are_small}
use Rattle.c65_link_law.specs.Extents as files
use Rattle.c65_link_law.proofs.Extents.{images_are_bounded}
use Rattle.c65_gen_law_size.specs.Data.{datums_size}
use Rattle.c65_gen_law_size.specs.Laws.{ProgramsAreWithinTheirBulk, ImagesAreWithinTheirBulk, LargeImagesAreWithinTheirBulk}
use Rattle.c65_gen_law_size.proofs.Data.{data_size}
use Rattle.c65_gen_law_size.proofs.Layouts.{large_most}

made_data : {A : Type 0} (r : Result A Fault) (k : A → Code) (code : Code) (ds : List Datum) → ((x : A) → (k x).datums ≡ ds) → (r >>= (λ x. Ok (k x))) ≡ Ok code → code.datums ≡ ds
made_data (Ok x) k code ds same h = let is : k x ≡ code = cc in sym (ap (λ (z : Code). z.datums) is) ∙ same x
made_data (Err e) k code ds same h = absurd cc

pub programs_are_within_their_bulk : ProgramsAreWithinTheirBulk
programs_are_within_their_bulk parts main names modes code filled h =
    let datums : code.datums ≡ data_of parts = made_data (functions_of parts main modes) (code_of parts main names) code (data_of parts) (λ fs. refl) h in
    omega (arith, programs_are_small parts main names modes code h, data_size parts filled, ap datums_size datums)

file_data : (datums : List Datum) → files.data_size datums ≤ datums_size datums
file_data [] = omega arith
file_data (datum ∷ datums) = omega (arith, file_data datums)

pub images_are_within_their_bulk : ImagesAreWithinTheirBulk
images_are_within_their_bulk parts main names modes code image filled h made =
    omega (arith, programs_are_within_their_bulk parts main names modes code filled h, images_are_bounded code image made, file_data code.datums)

pub large_images_are_within_their_bulk : LargeImagesAreWithinTheirBulk
large_images_are_within_their_bulk parts main names modes code size filled h refused =
    omega (arith, programs_are_within_their_bulk parts main names modes code filled h, large_most code size refused)
