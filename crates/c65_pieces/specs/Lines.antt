-- The lines of a text up to the first that is too long, and what comes next of a text that is read line by line.
use Rattle.std.specs.Prelude.{◌≡◌, List, [], ◌∷◌, ◌++◌, Bool, true, false, ◌==◌, ◌&&◌, ◌||◌, not, if◌then◌else◌}
use Rattle.c65_lex.specs.Cells.{Cell, is_long}
use Rattle.c65_lex.specs.Next.{Next, ended, open_comment, long_line, token, is_any_long, IsNext}

-- the line that begins here is known up to its end, and is too long at none of its bytes
abbrev pub is_sound : List Cell → Bool
is_sound [] = false
is_sound (c ∷ cs) = (c.byte == 10) || (not (is_long c) && is_sound cs)

-- up to the first line that is not so
abbrev pub sound_lines : List Cell → List Cell
sound_lines [] = []
sound_lines (c ∷ cs) = if is_sound (c ∷ cs) then c ∷ sound_lines cs else []

-- from that line on
abbrev pub behind_lines : List Cell → List Cell
behind_lines [] = []
behind_lines (c ∷ cs) = if is_sound (c ∷ cs) then behind_lines cs else c ∷ cs

abbrev pub unless_long : Bool → Next → Next
unless_long true next = long_line
unless_long false next = next

-- what comes next among lines, behind which a line may be too long, with the cells that stand there
abbrev pub before_cells : Bool → List Cell → Next → Next
before_cells long behind ended = unless_long long ended
before_cells long behind (open_comment line) = unless_long long (open_comment line)
before_cells long behind long_line = long_line
before_cells long behind (token kind spelling line space rest) = token kind spelling line space (rest ++ behind)

-- What comes next of a text that is read line by line: what comes next among the lines before the first
-- that is too long; and where nothing does, that this line is too long, before any of its tokens.
abbrev pub IsNextByLines : Bool → List Cell → Next → Type 0
IsNextByLines header cells next = (among : Next) × IsNext header (sound_lines cells) among × (next ≡ before_cells (is_any_long cells) (behind_lines cells) among)
