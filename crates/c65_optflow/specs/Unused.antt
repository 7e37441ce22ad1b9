-- The labels of a function to which no line refers.
use Rattle.std.specs.Prelude.{if◌then◌else◌, List, [], ◌∷◌}
use Rattle.c65_code.specs.declared.line.Line.{Line}
use Rattle.c65_pass.specs.FlowRules.{is_unused}

-- some of all lines, without those labels
abbrev pub used_lines : List Line → List Line → List Line
used_lines all [] = []
used_lines all (line ∷ lines) = if is_unused all line then used_lines all lines else line ∷ used_lines all lines
