-- What stands outside the tool, before or after a call: the files, the input and the output, with their counts.
use Rattle.std.specs.Prelude.{ℕ, List, Option}
use Rattle.c65_io.specs.Contents.{Contents}

-- the files
pub record FilesSide : Type 0 where
  pub contents : Contents
  pub faults : ℕ
  pub writes : ℕ
  pub misses : ℕ

-- the files and the output
pub record TextSide : Type 0 where
  pub files : FilesSide
  pub written : Option (List ℕ)
  pub out_faults : ℕ

pub record Outside : Type 0 where
  pub files : FilesSide
  pub left : Option (List ℕ)
  pub input_faults : ℕ
  pub written : Option (List ℕ)
  pub out_faults : ℕ

abbrev pub files_side : Contents → ℕ → ℕ → ℕ → FilesSide
files_side contents faults writes misses = record { contents = contents; faults = faults; writes = writes; misses = misses }

abbrev pub outside : Contents → ℕ → ℕ → ℕ → Option (List ℕ) → ℕ → Option (List ℕ) → ℕ → Outside
outside contents faults writes misses left input_faults written out_faults =
    record { files = files_side contents faults writes misses; left = left; input_faults = input_faults; written = written; out_faults = out_faults }

abbrev pub text_side : Contents → ℕ → ℕ → ℕ → Option (List ℕ) → ℕ → TextSide
text_side contents faults writes misses written out_faults =
    record { files = files_side contents faults writes misses; written = written; out_faults = out_faults }

-- all but the input
abbrev pub text_part : Outside → TextSide
text_part side = record { files = side.files; written = side.written; out_faults = side.out_faults }
