-- What a pass keeps of labels: which of them lines behind refer to, and what is known on the ways to each so far.
use Rattle.std.specs.Prelude.{◌≡◌, ℕ, if◌then◌else◌, Bool, false, List, [], ◌∷◌, Option, Some, None, unwrap_or, is_some, nat_eq}
use Rattle.std.specs.Map.{lookup}
use Rattle.indexmap.specs.IndexMap.{insert_entry}
use Rattle.c65_code.specs.declared.line.Operand.TheVariants.{To}
use Rattle.c65_code.specs.declared.line.Line.{Line}
use Rattle.c65_code.specs.declared.line.Line.TheVariants.{Label, Do}
use Rattle.c65_code.specs.Segments.{targets_of, is_among}
use Rattle.c65_know.specs.declared.note.Note.{Note}
use Rattle.c65_know.specs.Notes.{nothing_known, meet}
use Rattle.c65_know.specs.Known.{Way, leap, joined, met}

-- labels, each with a line that refers to it
abbrev pub References : Type 0
References = List (ℕ × ℕ)

abbrev pub with_reference : Line → ℕ → References → References
with_reference (Do op mode (To l)) at labels = insert_entry nat_eq labels l at
with_reference _ at labels = labels

-- the labels to which these lines refer
abbrev pub AreReferences : References → List Line → Type 0
AreReferences labels lines = (l : ℕ) → is_some (lookup (nat_eq l) labels) ≡ is_among (targets_of lines) l

-- whether a line is a label to which lines behind it refer
abbrev pub is_back : Line → List Line → Bool
is_back (Label l) later = is_among (targets_of later) l
is_back _ later = false

abbrev pub backs_of : List Line → List Bool
backs_of [] = []
backs_of (line ∷ lines) = is_back line lines ∷ backs_of lines

-- labels, each with what is known on all ways to it so far
abbrev pub Index : Type 0
Index = List (ℕ × Note)

abbrev pub IsIndex : Index → List Way → Type 0
IsIndex index ways = (l : ℕ) → lookup (nat_eq l) index ≡ met l None ways

abbrev pub with_way : Line → Note → Index → Index
with_way (Do op mode (To l)) n index = insert_entry nat_eq index l (joined (lookup (nat_eq l) index) (leap op n))
with_way _ n index = index

-- what the way on and the ways to a label both know
abbrev pub known_at : Option Note → Option Note → Note
known_at None None = nothing_known
known_at None (Some m) = m
known_at (Some n) None = n
known_at (Some n) (Some m) = meet n m

abbrev pub noted_at : Option Note → Index → Line → Bool → Note
noted_at way index (Label l) back = if back then nothing_known else known_at way (lookup (nat_eq l) index)
noted_at way index line back = unwrap_or way nothing_known
