-- What each line of a file does is decided once.
use Rattle.std.proofs.Common.{◌≡◌, ℕ, List, [], Bool, true, false, not, Option, Some, None, Result, Ok, Err, codes, is_some}
use Rattle.c65_base.specs.declared.code.Code.TheVariants as faults
use Rattle.c65_base.specs.declared.refusal.Pos.{Pos}
use Rattle.c65_base.specs.declared.refusal.Refusal.{Refusal}
use Rattle.c65_base.specs.declared.refusal.Refusal.TheVariants as refusals
use Rattle.c65_base.specs.Answers.{at}
use Rattle.c65_lex.specs.declared.token.PpToken.{PpToken}
use Rattle.c65_macro.specs.Items.{Outcome, unfinished, faulty, done}
use Rattle.c65_macro.specs.Table.{Table}
use Rattle.c65_ppline.specs.declared.condition.Group.{Group}
use Rattle.c65_ppline.specs.declared.directive.Deed.{Deed}
use Rattle.c65_ppline.specs.declared.directive.Deed.TheVariants as deeds
use Rattle.c65_ppline.specs.declared.directive.Part.{Part}
use Rattle.c65_ppline.specs.declared.directive.Part.TheVariants as parts
use Rattle.c65_ppline.specs.declared.directive.Test.{Test}
use Rattle.c65_ppline.specs.declared.directive.Test.TheVariants as tests
use Rattle.c65_ppline.specs.declared.line.Cut.{Cut}
use Rattle.c65_ppline.specs.declared.line.Line.{Line}
use Rattle.c65_pptext.specs.declared.ending.Read.{Read}
use Rattle.c65_pptext.specs.declared.ending.Read.TheVariants as reads
use Rattle.c65_ppdir.specs.declared.opened.Unseen.{Unseen}
use Rattle.c65_ppdir.specs.declared.opened.Unseen.TheVariants as unseens
use Rattle.c65_ppdir.specs.declared.reader.Turn.TheVariants as turns
use Rattle.c65_ppexpr.specs.ConditionLines.{IsHeld, IsConditionOf, IsCondition, holds}
use Rattle.c65_ppline.specs.Conditions.{begin, alternate, otherwise, end, first_open, is_active}
use Rattle.c65_ppline.specs.DirectiveLines.{head_of, deed_of, part_of}
use Rattle.c65_ppfile.specs.IncludeLines.{Form, named, expanded, cut_off, form, IsHeader, IsIncluded}
use Rattle.c65_ppline.specs.NumberLines.{IsNumber, IsNumbered}
use Rattle.c65_ppfile.specs.IncludeLines.{replaced, plain_line}
use Rattle.c65_ppdir.specs.LineActions.{whole, chosen, decided, begun_if, begun, parted, renumbered, renumbering, then_line, obeyed, directive, closed_by, behind_list, text, text_line, active_by, active, passed_by, passed, skipped_rest, inactive_by, inactive, turn}
use Rattle.c65_ppline.specs.Lines.{ending, cut_fault, cut_refusal, short_fault, on_line, rest}
use Rattle.c65_ppline.specs.MacroLines.{defined, undefined, is_defined, pragma}
use Rattle.c65_ppline.specs.NumberLines.{numbers}
use Rattle.c65_ppdir.specs.Progress.{Progress, with_groups, added, flushed, read_next, seen_next, line_read, known_then}
use Rattle.c65_ppline.specs.Relations.{Answers, of}
use Rattle.c65_ppexpr.specs.Resolved.{anything, resolved}
use Rattle.c65_ppline.specs.Tokens.{is_mark}
use Rattle.c65_ppdir_law.specs.Once.{IsFinal, HasOne}
use Rattle.c65_ppdir_law.proofs.Alike.{one_then, one_behind, one_just, one_of, one_test, one_given, one_failing, one_read, no_value, is_error}
use Rattle.c65_ppdir_law.proofs.Lists.{one_flushed, one_settles, one_text_line, one_skipped_rest}
use Rattle.c65_ppdir_law.proofs.LineReads.{one_read_next, one_seen_next, one_line_read}

-- conditions
no_memory : {A : Type 0} (e : Refusal) → (let x : Result A Refusal = Err e in x ≡ Err refusals.OutOfMemory) → IsFinal e → ⊥
no_memory {A} e h d = let same : e ≡ refusals.OutOfMemory = is_error {A = A} e refusals.OutOfMemory h in rw same at d

one_held : (table : Table) (hash : Pos) (o : Outcome (Option (List PpToken))) → HasOne (known_then (IsHeld table hash o))
one_held table hash unfinished (Ok x) z d e p q = absurd (no_value x.0 refusals.OutOfMemory p)
one_held table hash unfinished (Err g) z d e (k, p) q = absurd (no_memory g p d)
one_held table hash (faulty f) y z d e p q = one_failing {A = Bool} f y z d e p q
one_held table hash (done names None) y z d e p q = one_failing {A = Bool} (at faults.IfExpression hash) y z d e p q
one_held table hash (done names (Some ts)) y z d e p q = one_read (holds hash) table names ts y z d e p q

one_condition_of : (cut : Option Cut) (table : Table) (names : List (List ℕ)) (line : Line) → HasOne (known_then (IsConditionOf cut table names line))
one_condition_of (Some cut) table names line y z d e p q = one_given {A = Bool} (Err (cut_fault cut)) names y z d e p q
one_condition_of None table names line y z d e p q = one_held table line.hash (resolved table anything names [] (rest line)) y z d e p q

-- the lines of #include and #line
one_header : (f : Form) (table : Table) (names : List (List ℕ)) (line : Line) → HasOne (known_then (IsHeader f table names line))
one_header named table names line y z d e p q = one_given (on_line line.hash line.cut (plain_line names (rest line))) names y z d e p q
one_header expanded table names line y z d e p q = one_read (λ now ts. on_line line.hash line.cut (replaced now ts)) table names (rest line) y z d e p q
one_header cut_off table names line y z d e p q = one_given (Err (short_fault line.hash line.cut)) names y z d e p q

one_number : (b : Bool) (table : Table) (names : List (List ℕ)) (line : Line) → HasOne (known_then (IsNumber b table names line))
one_number true table names line y z d e p q = one_given (Err (short_fault line.hash line.cut)) names y z d e p q
one_number false table names line y z d e p q = one_read (λ now ts. on_line line.hash line.cut (numbers now ts)) table names (rest line) y z d e p q

one_whole : (line : Line) (p : Progress) → HasOne (whole line p)
one_whole line p = one_behind (of (ending line.cut)) (λ _. Ok p) (one_of (ending line.cut))

one_decided : (t : Test) (line : Line) (p : Progress) → HasOne (decided t line p)
one_decided tests.Condition line p = one_behind (known_then (IsCondition p.table p.names line)) (λ x. Ok (chosen x.0 (record p { names = x.1 }))) (one_condition_of line.cut p.table p.names line)
one_decided tests.Defined line p = one_behind (of (is_defined p.table line)) (λ b. Ok (chosen b p)) (one_of (is_defined p.table line))
one_decided tests.Undefined line p = one_behind (of (is_defined p.table line)) (λ b. Ok (chosen (not b) p)) (one_of (is_defined p.table line))

one_begun_if : (b : Bool) (t : Test) (line : Line) (p : Progress) → HasOne (begun_if b t line p)
one_begun_if true t line p = one_decided t line p
one_begun_if false t line p = one_whole line p

one_begun : (t : Test) (line : Line) (p : Progress) (x : Bool × List Group) → HasOne (begun t line p x)
one_begun t line p x = one_begun_if x.0 t line (with_groups x.1 p)

one_parted : (part : Part) (line : Line) (p : Progress) → HasOne (parted part line p)
one_parted (parts.Begin t) line p = one_then (of (begin line.hash p.file.groups)) (begun t line p) (one_of (begin line.hash p.file.groups)) (one_begun t line p)
one_parted parts.Alternate line p = one_then (of (alternate line.hash p.file.groups)) (begun tests.Condition line p) (one_of (alternate line.hash p.file.groups)) (one_begun tests.Condition line p)
one_parted parts.Otherwise line p = one_then (of (otherwise line.hash p.file.groups)) _ (one_of (otherwise line.hash p.file.groups)) (λ gs. one_whole line (with_groups gs p))
one_parted parts.End line p = one_then (of (end line.hash p.file.groups)) _ (one_of (end line.hash p.file.groups)) (λ gs. one_whole line (with_groups gs p))

one_renumbering : (line : Line) (p : Progress) → HasOne (renumbering line p)
one_renumbering line p = one_behind (known_then (IsNumbered p.table p.names line)) (λ x. Ok (renumbered x.0 line (record p { names = x.1 }))) (one_number (is_some line.cut) p.table p.names line)

one_then_line : (P : Answers Progress) → HasOne P → HasOne (then_line P)
one_then_line P h = one_behind P (λ p. Ok (turns.Line, p)) h

-- directives
one_obeyed : (deed : Deed) (line : Line) (p : Progress) → HasOne (obeyed deed line p)
one_obeyed deeds.Nothing line p = one_then_line (whole line p) (one_whole line p)
one_obeyed deeds.Define line p = one_then_line _ (one_behind (of (defined p.table p.names line)) (λ t. Ok (record p { table = t })) (one_of (defined p.table p.names line)))
one_obeyed deeds.Undef line p = one_then_line _ (one_behind (of (undefined p.table p.names line)) (λ t. Ok (record p { table = t })) (one_of (undefined p.table p.names line)))
one_obeyed deeds.Include line p = one_behind (known_then (IsIncluded p.table p.names line)) (λ x. Ok (turns.Include x.0, record p { names = x.1 })) (one_header (form (rest line) line.cut) p.table p.names line)
one_obeyed deeds.Renumber line p = one_then_line (renumbering line p) (one_renumbering line p)
one_obeyed deeds.Pragma line p = one_then_line _ (one_behind (of (pragma p.names line)) (λ _. Ok p) (one_of (pragma p.names line)))
one_obeyed (deeds.Group part) line p = one_then_line (parted part line p) (one_parted part line p)
one_obeyed (deeds.Refused code place) line p = one_just (Err (refusals.At code place))

one_directive : (hash : Pos) (p : Progress) → HasOne (directive hash p)
one_directive hash p = one_then (line_read hash p) _ (one_line_read hash p) (λ x. one_obeyed (deed_of hash (head_of x.1.names x.0.tokens)) x.0 x.1)

one_closed_by : (o : Option Pos) (p : Progress) → HasOne (closed_by o p)
one_closed_by (Some place) p = one_settles (refusals.At faults.OpenConditional place) p
one_closed_by None p = one_behind (flushed p) (λ q. Ok (turns.FileEnd, q)) (one_flushed p)

-- lines that are read
one_active_by : (r : Read) (p : Progress) → HasOne (active_by r p)
one_active_by (reads.Token t) p =
    one_test (is_mark p.names (codes "#") t) (behind_list t.pos p) (text t p) (one_then (flushed p) (directive t.pos) (one_flushed p) (one_directive t.pos)) (one_then_line (text_line (added t p)) (one_text_line (added t p)))
one_active_by (reads.LineEnd t) p = one_just (Ok (turns.Line, added t p))
one_active_by reads.End p = one_closed_by (first_open p.file.groups) p
one_active_by (reads.Cut cut) p = one_settles (cut_refusal cut) p

one_active : (p : Progress) → HasOne (active p)
one_active p = one_then (read_next false p) _ (one_read_next false p) (λ x. one_active_by x.0 x.1)

-- lines that are skipped
one_passed_by : (o : Option Part) (line : Line) (p : Progress) → HasOne (passed_by o line p)
one_passed_by None line p = one_whole line p
one_passed_by (Some part) line p = one_parted part line p

one_passed : (hash : Pos) (p : Progress) → HasOne (passed hash p)
one_passed hash p = one_then (line_read hash p) _ (one_line_read hash p) (λ x. one_passed_by (part_of (head_of x.1.names x.0.tokens)) x.0 x.1)

one_inactive_by : (u : Unseen) (p : Progress) → HasOne (inactive_by u p)
one_inactive_by (unseens.Hash place) p = one_then_line (passed place p) (one_passed place p)
one_inactive_by unseens.Token p = one_then_line (skipped_rest p) (one_skipped_rest p)
one_inactive_by unseens.LineEnd p = one_just (Ok (turns.Line, p))
one_inactive_by unseens.End p = one_closed_by (first_open p.file.groups) p
one_inactive_by (unseens.Cut cut) p = one_just (Err (cut_refusal cut))

one_inactive : (p : Progress) → HasOne (inactive p)
one_inactive p = one_then (seen_next p) _ (one_seen_next p) (λ x. one_inactive_by x.0 x.1)

-- the next line of a file
pub one_turn : (p : Progress) → HasOne (turn p)
one_turn p = one_test (is_active p.file.groups) (active p) (inactive p) (one_active p) (one_inactive p)
