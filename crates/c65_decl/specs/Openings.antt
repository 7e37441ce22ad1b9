-- What stands at a statement's place (C90 6.6).
use Rattle.std.specs.Prelude.{ℕ, ◌+◌, nat_le, List, [], Bool, ◌&&◌, Option, Some, None, Ok, Err, if◌then◌else◌}
use Rattle.c65_base.specs.Answers.{large, ◌>>=◌}
use Rattle.c65_base.specs.declared.refusal.Pos.{Pos}
use Rattle.c65_base.specs.declared.refusal.Size.TheVariants.{Depth}
use Rattle.c65_scan.specs.declared.token.Token.{Token}
use Rattle.c65_tree.specs.Trees.{no_stmts, goto, continue, break, return, eval}
use Rattle.c65_parse_names.specs.Scopes.{Blocks, opened, closed}
use Rattle.c65_parse.specs.Reading.{Answer, after_token}
use Rattle.c65_parse_frames.specs.declared.sign.Sign.{Sign}
use Rattle.c65_parse_frames.specs.declared.sign.Mark.TheVariants as marks
use Rattle.c65_parse_frames.specs.declared.frame.Place.{Place}
use Rattle.c65_parse_frames.specs.Signs.{is_mark, is_label, starts_declaration, least_depth}
use Rattle.c65_parse_frames.specs.Frames.{in_label, in_case, in_default, in_switch, in_while, in_for, in_head, in_block, in_then, in_do, Begun, begun_open, begun_decl, begun_whole, begun_close}
use Rattle.c65_decl.specs.declared.words.Word.{Word}
use Rattle.c65_decl.specs.declared.words.Word.TheVariants as words
use Rattle.c65_decl.specs.Words.{word_of, is_evaluated}
use Rattle.c65_decl.specs.Here.{sign_here, pos_here, is_type_here, colon_follows, unexpected, expected, name_read}
use Rattle.c65_decl.specs.Expressions.{test_read, case_read, optional_read}
use Rattle.c65_decl.specs.Decls.{declaration_read}

abbrev pub label_begun : Pos → Blocks → List Token → Answer Begun
label_begun l scope ts = do
  n ← name_read scope ts
  a ← expected marks.Colon n.2 n.1
  Ok (begun_open (in_head (in_label l n.0)), a.0, a.1)

abbrev pub case_begun : (limit : ℕ) → Pos → Blocks → List Token → Answer Begun
case_begun limit l scope ts = do
  e ← case_read limit scope ts
  Ok (begun_open (in_head (in_case l e.0)), e.1, e.2)

abbrev pub default_begun : Pos → Blocks → List Token → Answer Begun
default_begun l scope ts = do
  a ← expected marks.Colon scope ts
  Ok (begun_open (in_head (in_default l)), a.0, a.1)

abbrev pub if_begun : (limit : ℕ) → Pos → Blocks → List Token → Answer Begun
if_begun limit l scope ts = do
  e ← test_read limit scope ts
  Ok (begun_open (in_then l e.0), e.1, e.2)

abbrev pub switch_begun : (limit : ℕ) → Pos → Blocks → List Token → Answer Begun
switch_begun limit l scope ts = do
  e ← test_read limit scope ts
  Ok (begun_open (in_head (in_switch l e.0)), e.1, e.2)

abbrev pub while_begun : (limit : ℕ) → Pos → Blocks → List Token → Answer Begun
while_begun limit l scope ts = do
  e ← test_read limit scope ts
  Ok (begun_open (in_head (in_while l e.0)), e.1, e.2)

abbrev pub for_begun : (limit : ℕ) → Pos → Blocks → List Token → Answer Begun
for_begun limit l scope ts = do
  a ← expected marks.OpenParen scope ts
  e ← optional_read limit marks.Semicolon a.1 a.0
  f ← optional_read limit marks.Semicolon e.2 e.1
  g ← optional_read limit marks.CloseParen f.2 f.1
  Ok (begun_open (in_head (in_for l e.0 f.0 g.0)), g.1, g.2)

abbrev pub goto_begun : Pos → Blocks → List Token → Answer Begun
goto_begun l scope ts = do
  n ← name_read scope ts
  a ← expected marks.Semicolon n.2 n.1
  Ok (begun_whole (goto l n.0), a.0, a.1)

abbrev pub continue_begun : Pos → Blocks → List Token → Answer Begun
continue_begun l scope ts = do
  a ← expected marks.Semicolon scope ts
  Ok (begun_whole (continue l), a.0, a.1)

abbrev pub break_begun : Pos → Blocks → List Token → Answer Begun
break_begun l scope ts = do
  a ← expected marks.Semicolon scope ts
  Ok (begun_whole (break l), a.0, a.1)

abbrev pub return_begun : (limit : ℕ) → Pos → Blocks → List Token → Answer Begun
return_begun limit l scope ts = do
  e ← optional_read limit marks.Semicolon scope ts
  Ok (begun_whole (return l e.0), e.1, e.2)

abbrev pub eval_begun : (limit : ℕ) → Pos → Blocks → List Token → Answer Begun
eval_begun limit l scope ts = do
  e ← optional_read limit marks.Semicolon scope ts
  Ok (begun_whole (eval l e.0), e.1, e.2)

abbrev pub block_begun : Pos → Blocks → List Token → Answer Begun
block_begun l scope ts = Ok (begun_open (in_block l [] no_stmts), ts, opened scope)

-- behind the word or the brace that begins a statement
abbrev pub begun_behind : (limit : ℕ) → Word → Pos → Blocks → List Token → Answer Begun
begun_behind limit words.Case l scope ts = case_begun limit l scope ts
begun_behind limit words.Default l scope ts = default_begun l scope ts
begun_behind limit words.If l scope ts = if_begun limit l scope ts
begun_behind limit words.Switch l scope ts = switch_begun limit l scope ts
begun_behind limit words.While l scope ts = while_begun limit l scope ts
begun_behind limit words.Do l scope ts = Ok (begun_open (in_do l), ts, scope)
begun_behind limit words.For l scope ts = for_begun limit l scope ts
begun_behind limit words.Goto l scope ts = goto_begun l scope ts
begun_behind limit words.Continue l scope ts = continue_begun l scope ts
begun_behind limit words.Break l scope ts = break_begun l scope ts
begun_behind limit words.Return l scope ts = return_begun limit l scope ts
begun_behind limit words.OpenBrace l scope ts = block_begun l scope ts

abbrev pub word_begun : (limit : ℕ) → Option Word → Pos → Blocks → List Token → Answer Begun
word_begun limit None l scope ts = unexpected ts
word_begun limit (Some w) l scope ts = begun_behind limit w l scope (after_token ts)

abbrev pub unlabelled_begun : (limit : ℕ) → Sign → Blocks → List Token → Answer Begun
unlabelled_begun limit sign scope ts = if is_evaluated sign then eval_begun limit (pos_here ts) scope ts else word_begun limit (word_of sign) (pos_here ts) scope ts

abbrev pub statement_begun : (limit : ℕ) → Sign → Bool → Blocks → List Token → Answer Begun
statement_begun limit sign label scope ts = if label then label_begun (pos_here ts) scope ts else unlabelled_begun limit sign scope ts

abbrev pub closed_here : Blocks → List Token → Begun × List Token × Blocks
closed_here scope ts = (begun_close, after_token ts, closed scope)

abbrev pub declaration_begun : (limit : ℕ) → List Token → Blocks → List Token → Answer Begun
declaration_begun limit unit scope ts = do
  d ← declaration_read limit unit scope ts
  Ok (begun_decl d.0, d.1, d.2)

-- a statement as deep as it is at least, among the frames round it
abbrev pub begun_within : (limit : ℕ) → Place → Sign → Bool → Blocks → List Token → Answer Begun
begun_within limit place sign label scope ts = if nat_le (place.around + least_depth sign label) limit then statement_begun limit sign label scope ts else Err (large Depth 257)

abbrev pub begun_inside : (limit : ℕ) → List Token → Place → Sign → Bool → Bool → Blocks → List Token → Answer Begun
begun_inside limit unit place sign is_type colon scope ts = if place.takes_declarations && starts_declaration sign is_type colon then declaration_begun limit unit scope ts else begun_within limit place sign (is_label sign is_type colon) scope ts

abbrev pub begun_by : (limit : ℕ) → List Token → Place → Sign → Bool → Bool → Blocks → List Token → Answer Begun
begun_by limit unit place sign is_type colon scope ts = if place.in_block && is_mark marks.CloseBrace sign then Ok (closed_here scope ts) else begun_inside limit unit place sign is_type colon scope ts

abbrev pub begun_at : (limit : ℕ) → List Token → Place → Blocks → List Token → Answer Begun
begun_at limit unit place scope ts = begun_by limit unit place (sign_here ts) (is_type_here scope ts) (colon_follows ts) scope ts
