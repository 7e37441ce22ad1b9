-- What a line does to the parts and which lines may come behind it, as it is looked up; and what a sweep makes of a table.
use Rattle.std.specs.Prelude.{◌≡◌, ℕ, ◌+◌, not, if◌then◌else◌, nat_eq, List, [], ◌∷◌, map, get_or, Option, Some, None, slice_get}
use Rattle.std.specs.Map.{lookup}
use Rattle.indexmap.specs.IndexMap.{insert_entry}
use Rattle.c65_code.specs.declared.parts.RegSet.{RegSet}
use Rattle.c65_code.specs.declared.line.Line.{Line}
use Rattle.c65_code.specs.declared.line.Line.TheVariants.{Label}
use Rattle.c65_code.specs.Parts.{no_parts, union_of, minus_of}
use Rattle.c65_code.specs.Access.{line_reads, line_sets}
use Rattle.c65_code.specs.Segments.{target_of, is_closing}
use Rattle.c65_code.specs.Moves.{labelled}
use Rattle.c65_live.specs.declared.flow.Flow.{Flow}
use Rattle.c65_live.specs.Live.{left_parts}

-- labels, each with its line
abbrev pub Labels : Type 0
Labels = List (ℕ × ℕ)

abbrev pub with_label : Line → ℕ → Labels → Labels
with_label (Label l) at labels = insert_entry nat_eq labels l at
with_label _ at labels = labels

abbrev pub labels_from : Labels → ℕ → List Line → Labels
labels_from labels at [] = labels
labels_from labels at (line ∷ lines) = labels_from (with_label line at labels) (at + 1) lines

-- the line of the first of these labels
abbrev pub found : Labels → List ℕ → Option ℕ
found labels [] = None
found labels (l ∷ ls) = lookup (nat_eq l) labels

abbrev pub flow_by : RegSet → Line → Option ℕ → Flow
flow_by out line to = record { reads = line_reads out line; sets = line_sets line; left = left_parts out line; onward = not (is_closing line); to = to }

abbrev pub flow_in : RegSet → Labels → Line → Flow
flow_in out labels line = flow_by out line (found labels (target_of line))

abbrev pub labelled_at : List Line → List ℕ → Option ℕ
labelled_at lines [] = None
labelled_at lines (l ∷ ls) = Some (labelled lines l)

abbrev pub flow_of : List Line → RegSet → Line → Flow
flow_of lines out line = flow_by out line (labelled_at lines (target_of line))

abbrev pub flows_of : List Line → RegSet → List Flow
flows_of lines out = map (flow_of lines out) lines

-- what is live before a line, by what is live after it
abbrev pub before_of : Option Flow → RegSet → RegSet
before_of None after = no_parts
before_of (Some flow) after = union_of flow.reads (minus_of after flow.sets)

abbrev pub before_at : List Flow → List RegSet → ℕ → RegSet
before_at flows live q = before_of (slice_get flows q) (get_or live q no_parts)

abbrev pub before_to : List Flow → List RegSet → Option ℕ → RegSet
before_to flows live None = no_parts
before_to flows live (Some r) = before_at flows live r

-- what is live after a line by the sets of the lines that may come behind it, and what was live there
abbrev pub joined_of : List Flow → List RegSet → ℕ → RegSet → Option Flow → RegSet
joined_of flows live q next None = get_or live q no_parts
joined_of flows live q next (Some flow) = union_of (get_or live q no_parts) (union_of flow.left (union_of (if flow.onward then next else no_parts) (before_to flows live flow.to)))

abbrev pub joined_at : List Flow → List RegSet → ℕ → RegSet
joined_at flows live q = joined_of flows live q (before_at flows live (q + 1)) (slice_get flows q)

-- a table in which a sweep changes nothing
abbrev pub IsClosed : List Flow → List RegSet → Type 0
IsClosed flows live = (q : ℕ) → joined_at flows live q ≡ get_or live q no_parts
