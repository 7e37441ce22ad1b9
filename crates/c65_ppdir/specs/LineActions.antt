-- What each line of a file does (C90 6.8).
use Rattle.std.specs.Prelude.{◌≡◌, ℕ, zero, suc, List, Bool, true, false, not, if◌then◌else◌, Option, Some, None, unwrap_or, Result, Ok, Err, codes}
use Rattle.c65_base.specs.declared.code.Code.TheVariants as faults
use Rattle.c65_base.specs.declared.refusal.Pos.{Pos}
use Rattle.c65_base.specs.declared.refusal.Refusal.{Refusal}
use Rattle.c65_base.specs.declared.refusal.Refusal.TheVariants as refusals
use Rattle.c65_lex.specs.declared.token.PpToken.{PpToken}
use Rattle.c65_ppline.specs.declared.condition.Group.{Group}
use Rattle.c65_ppline.specs.declared.directive.Deed.{Deed}
use Rattle.c65_ppline.specs.declared.directive.Deed.TheVariants as deeds
use Rattle.c65_ppline.specs.declared.directive.Part.{Part}
use Rattle.c65_ppline.specs.declared.directive.Part.TheVariants as parts
use Rattle.c65_ppline.specs.declared.directive.Test.{Test}
use Rattle.c65_ppline.specs.declared.directive.Test.TheVariants as tests
use Rattle.c65_ppline.specs.declared.line.Line.{Line}
use Rattle.c65_ppline.specs.declared.numbering.Given.{Given}
use Rattle.c65_ppdir.specs.declared.opened.Opened.{Opened}
use Rattle.c65_ppdir.specs.Files.{OpenFile, opened_as}
use Rattle.c65_pptext.specs.declared.ending.Read.{Read}
use Rattle.c65_pptext.specs.declared.ending.Read.TheVariants as reads
use Rattle.c65_ppdir.specs.declared.opened.Unseen.{Unseen}
use Rattle.c65_ppdir.specs.declared.opened.Unseen.TheVariants as unseens
use Rattle.c65_ppdir.specs.declared.reader.Turn.{Turn}
use Rattle.c65_ppdir.specs.declared.reader.Turn.TheVariants as turns
use Rattle.c65_ppexpr.specs.ConditionLines.{IsCondition}
use Rattle.c65_ppline.specs.Conditions.{begin, alternate, otherwise, end, taken, first_open, is_active}
use Rattle.c65_ppline.specs.DirectiveLines.{head_of, deed_of, part_of}
use Rattle.c65_ppfile.specs.IncludeLines.{IsIncluded}
use Rattle.c65_ppline.specs.NumberLines.{IsNumbered}
use Rattle.c65_ppdir.specs.Gathering.{used}
use Rattle.c65_ppline.specs.Lines.{ending, cut_refusal}
use Rattle.c65_ppline.specs.MacroLines.{defined, undefined, is_defined, pragma}
use Rattle.c65_ppline.specs.NumberLines.{offset}
use Rattle.c65_ppdir.specs.Opening.{skipped}
use Rattle.c65_ppdir.specs.Progress.{Progress, with_groups, added, flushed, settles, read_next, seen_next, line_read, known_then}
use Rattle.c65_ppline.specs.Relations.{Answers, of, just, by_test, ◌then◌}
use Rattle.c65_ppline.specs.Tokens.{is_mark}

-- a line that is no directive, from behind its first token on: by so many steps
abbrev pub text_by : (Progress → Answers Progress) → Read → Progress → Answers Progress
text_by go (reads.Token t) p = go (added t p)
text_by go (reads.LineEnd t) p = just (Ok (added t p))
text_by go reads.End p = just (Ok p)
text_by go (reads.Cut cut) p = settles (cut_refusal cut) (record p { list = used cut p.list })

abbrev pub text_from : ℕ → Progress → Answers Progress
text_from zero p = λ z. ⊥
text_from (suc n) p = read_next false p then λ x. text_by (text_from n) x.0 x.1

abbrev pub text_line : Progress → Answers Progress
text_line p z = (n : ℕ) × text_from n p z

-- where the line has its end
abbrev pub whole : Line → Progress → Answers Progress
whole line p = of (ending line.cut) then λ _. just (Ok p)

-- a part of a group whose condition holds is taken
abbrev pub chosen : Bool → Progress → Progress
chosen b p = if b then with_groups (taken p.file.groups) p else p

abbrev pub decided : Test → Line → Progress → Answers Progress
decided tests.Condition line p = known_then (IsCondition p.table p.names line) then λ x. just (Ok (chosen x.0 (record p { names = x.1 })))
decided tests.Defined line p = of (is_defined p.table line) then λ b. just (Ok (chosen b p))
decided tests.Undefined line p = of (is_defined p.table line) then λ b. just (Ok (chosen (not b) p))

-- a part begins with these groups open; its condition is read where it counts
abbrev pub begun_if : Bool → Test → Line → Progress → Answers Progress
begun_if true test line p = decided test line p
begun_if false test line p = whole line p

abbrev pub begun : Test → Line → Progress → Bool × List Group → Answers Progress
begun test line p x = begun_if x.0 test line (with_groups x.1 p)

-- directives of groups (C90 6.8.1)
abbrev pub parted : Part → Line → Progress → Answers Progress
parted (parts.Begin test) line p = of (begin line.hash p.file.groups) then begun test line p
parted parts.Alternate line p = of (alternate line.hash p.file.groups) then begun tests.Condition line p
parted parts.Otherwise line p = of (otherwise line.hash p.file.groups) then λ gs. whole line (with_groups gs p)
parted parts.End line p = of (end line.hash p.file.groups) then λ gs. whole line (with_groups gs p)

-- #line counts the lines of its file anew, and names it anew where a name is given (C90 6.8.4)
abbrev pub renamed : Given → Line → OpenFile → OpenFile
renamed given line file = record file { literal = unwrap_or given.file file.literal; count = record { given = given.number; real = line.end } }

abbrev pub renumbered : Given → Line → Progress → Progress
renumbered given line p = record p { table = record p.table { file = unwrap_or given.file p.file.literal; offset = offset (record { given = given.number; real = line.end }) }; file = renamed given line p.file }

abbrev pub renumbering : Line → Progress → Answers Progress
renumbering line p = known_then (IsNumbered p.table p.names line) then λ x. just (Ok (renumbered x.0 line (record p { names = x.1 })))

-- a line that asks for nothing more
abbrev pub as_line : Result (Unit {0}) Refusal → Result Turn Refusal
as_line (Ok x) = Ok turns.Line
as_line (Err e) = Err e

abbrev pub then_line : Answers Progress → Answers (Turn × Progress)
then_line P = P then λ p. just (Ok (turns.Line, p))

-- what a directive does, in lines that are read
abbrev pub obeyed : Deed → Line → Progress → Answers (Turn × Progress)
obeyed deeds.Nothing line p = then_line (whole line p)
obeyed deeds.Define line p = then_line (of (defined p.table p.names line) then λ table. just (Ok (record p { table = table })))
obeyed deeds.Undef line p = then_line (of (undefined p.table p.names line) then λ table. just (Ok (record p { table = table })))
obeyed deeds.Include line p = known_then (IsIncluded p.table p.names line) then λ x. just (Ok (turns.Include x.0, record p { names = x.1 }))
obeyed deeds.Renumber line p = then_line (renumbering line p)
obeyed deeds.Pragma line p = then_line (of (pragma p.names line) then λ _. just (Ok p))
obeyed (deeds.Group part) line p = then_line (parted part line p)
obeyed (deeds.Refused code place) line p = just (Err (refusals.At code place))

abbrev pub directive : Pos → Progress → Answers (Turn × Progress)
directive hash p = line_read hash p then λ x. obeyed (deed_of hash (head_of x.1.names x.0.tokens)) x.0 x.1

-- the file ends, and all its groups are to be closed
abbrev pub closed_by : Option Pos → Progress → Answers (Turn × Progress)
closed_by (Some place) p = settles (refusals.At faults.OpenConditional place) p
closed_by None p = flushed p then λ q. just (Ok (turns.FileEnd, q))

abbrev pub closed : Progress → Answers (Turn × Progress)
closed p = closed_by (first_open p.file.groups) p

-- the list ends at a directive
abbrev pub behind_list : Pos → Progress → Answers (Turn × Progress)
behind_list hash p = flushed p then directive hash

-- a line that is no directive, with its first token
abbrev pub text : PpToken → Progress → Answers (Turn × Progress)
text t p = then_line (text_line (added t p))

-- a line that is read
abbrev pub active_by : Read → Progress → Answers (Turn × Progress)
active_by (reads.Token t) p = by_test (is_mark p.names (codes "#") t) (behind_list t.pos p) (text t p)
active_by (reads.LineEnd t) p = just (Ok (turns.Line, added t p))
active_by reads.End p = closed p
active_by (reads.Cut cut) p = settles (cut_refusal cut) p

abbrev pub active : Progress → Answers (Turn × Progress)
active p = read_next false p then λ x. active_by x.0 x.1

-- of the directives among lines that are skipped those of groups count alone
abbrev pub passed_by : Option Part → Line → Progress → Answers Progress
passed_by None line p = whole line p
passed_by (Some part) line p = parted part line p

abbrev pub passed : Pos → Progress → Answers Progress
passed hash p = line_read hash p then λ x. passed_by (part_of (head_of x.1.names x.0.tokens)) x.0 x.1

abbrev pub skipped_rest : Progress → Answers Progress
skipped_rest p (Ok q) = (left : OpenFile) × skipped p.file (Ok left) × (q ≡ record p { file = left })
skipped_rest p (Err e) = skipped p.file (Err e)

-- a line that is skipped
abbrev pub inactive_by : Unseen → Progress → Answers (Turn × Progress)
inactive_by (unseens.Hash place) p = then_line (passed place p)
inactive_by unseens.Token p = then_line (skipped_rest p)
inactive_by unseens.LineEnd p = just (Ok (turns.Line, p))
inactive_by unseens.End p = closed p
inactive_by (unseens.Cut cut) p = just (Err (cut_refusal cut))

abbrev pub inactive : Progress → Answers (Turn × Progress)
inactive p = seen_next p then λ x. inactive_by x.0 x.1

-- the next line of a file
abbrev pub turn : Progress → Answers (Turn × Progress)
turn p = by_test (is_active p.file.groups) (active p) (inactive p)
