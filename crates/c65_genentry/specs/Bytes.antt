-- Blocks of bytes that are cleared or copied.
use Rattle.std.specs.Prelude.{ℕ, ◌+◌, ◌/◌, ◌%◌, ◌==◌, if◌then◌else◌, List, [], ◌∷◌, ◌++◌}
use Rattle.c65_mach.specs.declared.rows.Op.TheVariants.{Bne, Cpy, Dex, Inc, Iny, Lda, Ldx, Ldy, Sta}
use Rattle.c65_code.specs.declared.line.Line.{Line}
use Rattle.c65_code.specs.declared.line.Line.TheVariants.{Label}
use Rattle.c65_genwide.specs.Lines.{value}
use Rattle.c65_genentry.specs.Words.{ptr1, ptr2, implied, zero_page, by_y, branch}

-- lines for each of so many pages of 256 bytes, by X from their number down and by Y from 0, and others behind each page; the label is l
abbrev pub pages_code : List Line → List Line → ℕ → ℕ → List Line
pages_code each after pages l =
    if pages == 0 then [] else value Ldx pages ∷ Label l ∷ (each ++ (implied Iny ∷ branch Bne l ∷ (after ++ (implied Dex ∷ branch Bne l ∷ []))))

-- lines for each of so many bytes
abbrev pub rest_code : List Line → ℕ → ℕ → List Line
rest_code each bytes l = if bytes == 0 then [] else Label l ∷ (each ++ (implied Iny ∷ value Cpy bytes ∷ branch Bne l ∷ []))

-- a loop has a label where it has a round
abbrev pub loop_labels : ℕ → ℕ
loop_labels rounds = if rounds == 0 then 0 else 1

abbrev pub block_code : List Line → List Line → ℕ → ℕ → List Line
block_code each after bytes l = pages_code each after (bytes / 256) l ++ rest_code each (bytes % 256) (l + loop_labels (bytes / 256))

abbrev pub block_labels : ℕ → ℕ
block_labels bytes = loop_labels (bytes / 256) + loop_labels (bytes % 256)

-- from the address in ptr1 on
abbrev pub clear_code : ℕ → ℕ → List Line
clear_code bytes l = value Ldy 0 ∷ value Lda 0 ∷ block_code (by_y Sta ptr1 ∷ []) (zero_page Inc (ptr1 + 1) ∷ []) bytes l

-- from there to the address in ptr2
abbrev pub copy_code : ℕ → ℕ → List Line
copy_code bytes l = value Ldy 0 ∷ block_code (by_y Lda ptr1 ∷ by_y Sta ptr2 ∷ []) (zero_page Inc (ptr1 + 1) ∷ zero_page Inc (ptr2 + 1) ∷ []) bytes l
