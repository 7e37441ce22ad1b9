-- Lines in the words of the assembler, and lines put behind others.
use Rattle.std.specs.Prelude.{◌≡◌, ℕ, ◌+◌, List, ◌++◌}
use Rattle.c65_mach.specs.declared.rows.Op.{Op}
use Rattle.c65_mach.specs.declared.rows.Mode.TheVariants.{Immediate}
use Rattle.c65_code.specs.declared.line.Operand.TheVariants.{Byte}
use Rattle.c65_code.specs.declared.line.Callee.TheVariants as callees
use Rattle.c65_code.specs.declared.line.Line.{Line}
use Rattle.c65_code.specs.declared.line.Line.TheVariants.{Do, Call}
use Rattle.c65_code.specs.declared.routine.Routine.{Routine}
use Rattle.c65_code.specs.Segments.{Drafted}

-- #v
abbrev pub value : Op → ℕ → Line
value op v = Do op Immediate (Byte v)

abbrev pub call : Routine → Line
call r = Call (callees.Routine r)

-- the draft with lines behind its own
abbrev pub with_lines : Drafted → List Line → Drafted
with_lines draft lines = record draft { lines = draft.lines ++ lines }

-- the draft with lines behind its own, and so many labels more
abbrev pub grown : Drafted → List Line → ℕ → Drafted
grown d lines n = record d { lines = d.lines ++ lines; labels = d.labels + n }

-- a label more
abbrev pub with_label : Drafted → Drafted
with_label d = record d { labels = d.labels + 1 }

-- the draft has its old lines, and perhaps new ones behind them and new labels
pub record Keeps (old new : Drafted) : Type 0 where
  pub lines : List Line
  pub labels : ℕ
  pub is : new ≡ record old { lines = old.lines ++ lines; labels = old.labels + labels }
