-- Statements (C90 6.6).
use Rattle.std.proofs.Common.{◌≡◌, ℕ, suc, ◌+◌, ◌≤◌, List, [], ◌∷◌, ◌++◌, length, length-append, Bool, true, false, refl, sym, ap, ◌∙◌, subst, inl, arith}
use Rattle.std.specs.Prelude.{Ok, Option, None, Some}
use Rattle.c65_base.specs.Answers.{◌>>=◌}
use Rattle.c65_base.specs.declared.names.Name.{Name}
use Rattle.c65_base.specs.declared.refusal.Pos.{Pos}
use Rattle.c65_scan.specs.declared.token.Keyword.TheVariants as keywords
use Rattle.c65_scan.specs.declared.token.Punct.TheVariants as puncts
use Rattle.c65_scan.specs.declared.token.Token.{Token}
use Rattle.c65_scan.specs.declared.token.TokenKind.TheVariants as kinds
use Rattle.c65_tree.specs.Trees as t
use Rattle.c65_tree.specs.Depth.{expr_depth, stmt_depth, inner_depth}
use Rattle.c65_parse_names.specs.Scopes.{Blocks}
use Rattle.c65_parse.specs.Reading.{Answer, after_token}
use Rattle.c65_parse_frames.specs.declared.sign.Mark.TheVariants as marks
use Rattle.c65_parse_frames.specs.Signs.{sign_of, is_mark}
use Rattle.c65_parse_frames.specs.Frames.{Head, in_label, in_case, in_default, in_else, in_switch, in_while, in_for, Frame, in_head, in_then, in_do, plugged_whole, plugged_open, begun_open, begun_whole, place_in, completed}
use Rattle.c65_decl.specs.declared.words.Word.TheVariants as words
use Rattle.c65_decl.specs.Here.{is_here, pos_here, expected, name_read}
use Rattle.c65_decl.specs.Expressions.{test_read, case_read, optional_read}
use Rattle.c65_decl.specs.Openings.{begun_at}
use Rattle.c65_decl.specs.Statements.{then_plugged, plugged_next, all_plugged, behind_begun, statement_next, statement_run}
use Rattle.c65_parse_grammar.specs.Phrases.{token}
use Rattle.c65_parse_grammar.specs.Parts.{start}
use Rattle.c65_parse_grammar.specs.Scopes.{Scope, after, after_option, after_stmt}
use Rattle.c65_parse_grammar.specs.Statements.{test, is_closed, statement}
use Rattle.c65_parse_law_trees.proofs.Runs.{First, split, single, before, before_some, behind_some, between_some}
use Rattle.c65_parse_law_trees.proofs.Firsts.{Operand, begins_expr}
use Rattle.c65_parse_law_units.proofs.Heres.{Left, left_more, passed, is_here_is, opens_here, opens_long, starts_expr, next, when, unless, expected_is}
use Rattle.c65_parse_law_units.proofs.Tests.{test_is, case_is, maybe_is, uncoloured}
use Rattle.c65_parse_law_units.proofs.Words.{IsWord, word_step, label_step, eval_step, empty_step}

-- what a statement leads to
pub record StmtRun (limit : ℕ) (unit us : List Token) (fs : List Frame) (sc : Scope) (outer : Blocks) (s : t.StmtTree) (ts rest : List Token) : Type 0 where
  pub us_left : List Token
  pub enough : length rest ≤ length us_left
  pub are : statement_run limit unit us fs (sc ∷ outer) ts ≡ (all_plugged limit fs s (after_stmt sc s ∷ outer) rest >>= statement_next (statement_run limit unit us_left))

abbrev pub NoElse : Token → Type 0
NoElse tok = is_mark marks.Else (sign_of tok.kind) ≡ false

abbrev pub ReadsStmt : (limit : ℕ) → t.StmtTree → Type 0
ReadsStmt limit s = (unit us : List Token) (fs : List Frame) (sc : Scope) (outer : Blocks) (xs rest : List Token) → statement sc s xs → stmt_depth s + length fs ≤ limit → inner_depth s ≤ limit → length (xs ++ rest) ≤ length us → length (xs ++ rest) ≤ length unit → Left rest → (is_closed s ≡ false → First NoElse rest) → StmtRun limit unit us fs sc outer s (xs ++ rest) rest

-- one step that opens a frame, and what it leads to
pub opened : (limit : ℕ) (unit us : List Token) (fs gs : List Frame) (scope later : Blocks) (ts behind : List Token) (f : Frame) (d : Answer t.StmtTree) → begun_at limit unit (place_in fs) scope ts ≡ Ok (begun_open f, behind, later) → statement_run limit unit us (f ∷ fs) later behind ≡ d → (u : Token) → statement_run limit unit (u ∷ us) fs scope ts ≡ d
opened limit unit us fs gs scope later ts behind f d h k u = ap (λ x. (x >>= behind_begun limit fs) >>= statement_next (statement_run limit unit us)) h ∙ k

-- a statement whose last part is a statement
headed : (limit : ℕ) (h : Head) (inner s : t.StmtTree) → (unit us : List Token) (fs : List Frame) (sc sc1 : Scope) (outer : Blocks) (ts behind rest : List Token) → completed h inner ≡ s → after_stmt sc1 inner ≡ after_stmt sc s → begun_at limit unit (place_in fs) (sc ∷ outer) ts ≡ Ok (begun_open (in_head h), behind, sc1 ∷ outer) → suc (length behind) ≤ length ts → length ts ≤ length us
    → ((fuel : List Token) → length behind ≤ length fuel → StmtRun limit unit fuel (in_head h ∷ fs) sc1 outer inner behind rest) → StmtRun limit unit us fs sc outer s ts rest
headed limit h inner s unit [] fs sc sc1 outer ts behind rest e a b shorter enough run = absurd (omega (arith, shorter, enough))
headed limit h inner s unit (u ∷ us) fs sc sc1 outer ts behind rest e a b shorter enough run =
    let r : StmtRun limit unit us (in_head h ∷ fs) sc1 outer inner behind rest = run us (omega (arith, shorter, enough)) in
    record {
      us_left = r.us_left;
      enough = r.enough;
      are = opened limit unit us fs fs (sc ∷ outer) (sc1 ∷ outer) ts behind (in_head h) _ b r.are u
          ∙ (ap (λ x. all_plugged limit fs x (after_stmt sc1 inner ∷ outer) rest >>= statement_next (statement_run limit unit r.us_left)) e
          ∙ ap (λ x. all_plugged limit fs s (x ∷ outer) rest >>= statement_next (statement_run limit unit r.us_left)) a);
    }

-- a statement that is whole at once
wholly : (limit : ℕ) (s : t.StmtTree) (unit us : List Token) (fs : List Frame) (sc : Scope) (outer : Blocks) (ts rest : List Token) → begun_at limit unit (place_in fs) (sc ∷ outer) ts ≡ Ok (begun_whole s, rest, after_stmt sc s ∷ outer) → suc (length rest) ≤ length ts → length ts ≤ length us → StmtRun limit unit us fs sc outer s ts rest
wholly limit s unit [] fs sc outer ts rest b shorter enough = absurd (omega (arith, shorter, enough))
wholly limit s unit (u ∷ us) fs sc outer ts rest b shorter enough = record {
  us_left = us;
  enough = omega (arith, shorter, enough);
  are = ap (λ x. (x >>= behind_begun limit fs) >>= statement_next (statement_run limit unit us)) b;
}

case_word : IsWord (sign_of (kinds.Keyword keywords.Case)) words.Case
case_word = record { no_close = refl; no_decl = λ a b. refl; no_label = λ a b. refl; no_eval = refl; word = refl }

default_word : IsWord (sign_of (kinds.Keyword keywords.Default)) words.Default
default_word = record { no_close = refl; no_decl = λ a b. refl; no_label = λ a b. refl; no_eval = refl; word = refl }

if_word : IsWord (sign_of (kinds.Keyword keywords.If)) words.If
if_word = record { no_close = refl; no_decl = λ a b. refl; no_label = λ a b. refl; no_eval = refl; word = refl }

switch_word : IsWord (sign_of (kinds.Keyword keywords.Switch)) words.Switch
switch_word = record { no_close = refl; no_decl = λ a b. refl; no_label = λ a b. refl; no_eval = refl; word = refl }

while_word : IsWord (sign_of (kinds.Keyword keywords.While)) words.While
while_word = record { no_close = refl; no_decl = λ a b. refl; no_label = λ a b. refl; no_eval = refl; word = refl }

do_word : IsWord (sign_of (kinds.Keyword keywords.Do)) words.Do
do_word = record { no_close = refl; no_decl = λ a b. refl; no_label = λ a b. refl; no_eval = refl; word = refl }

for_word : IsWord (sign_of (kinds.Keyword keywords.For)) words.For
for_word = record { no_close = refl; no_decl = λ a b. refl; no_label = λ a b. refl; no_eval = refl; word = refl }

goto_word : IsWord (sign_of (kinds.Keyword keywords.Goto)) words.Goto
goto_word = record { no_close = refl; no_decl = λ a b. refl; no_label = λ a b. refl; no_eval = refl; word = refl }

continue_word : IsWord (sign_of (kinds.Keyword keywords.Continue)) words.Continue
continue_word = record { no_close = refl; no_decl = λ a b. refl; no_label = λ a b. refl; no_eval = refl; word = refl }

break_word : IsWord (sign_of (kinds.Keyword keywords.Break)) words.Break
break_word = record { no_close = refl; no_decl = λ a b. refl; no_label = λ a b. refl; no_eval = refl; word = refl }

return_word : IsWord (sign_of (kinds.Keyword keywords.Return)) words.Return
return_word = record { no_close = refl; no_decl = λ a b. refl; no_label = λ a b. refl; no_eval = refl; word = refl }

abbrev pub Reaches : (limit : ℕ) (unit us : List Token) (fs : List Frame) (sc : Scope) (outer : Blocks) (s : t.StmtTree) (rest ts : List Token) → Type 0
Reaches limit unit us fs sc outer s rest ts = length ts ≤ length us → length ts ≤ length unit → StmtRun limit unit us fs sc outer s ts rest

stmt_deep : (s : t.StmtTree) → 1 ≤ stmt_depth s
stmt_deep (t.label l n s) = omega arith
stmt_deep (t.case l e s) = omega arith
stmt_deep (t.default l s) = omega arith
stmt_deep (t.block l ds ss) = omega arith
stmt_deep (t.eval l e) = omega arith
stmt_deep (t.if_stmt l e s r) = omega arith
stmt_deep (t.switch l e s) = omega arith
stmt_deep (t.while l e s) = omega arith
stmt_deep (t.do_while l s e) = omega arith
stmt_deep (t.for l e f g s) = omega arith
stmt_deep (t.goto l n) = omega arith
stmt_deep (t.continue l) = omega arith
stmt_deep (t.break l) = omega arith
stmt_deep (t.return l e) = omega arith

pub reads_label : (limit : ℕ) (l : Pos) (n : Name) (s : t.StmtTree) → ReadsStmt limit s → ReadsStmt limit (t.label l n s)
reads_label limit l n s rs unit us fs sc outer xs rest p deep inner enough room left safe =
    let some = stmt_deep s in
    before (Reaches limit unit us fs sc outer (t.label l n s) rest) l (kinds.Name n) xs rest p (λ vs pv.
    before_some (λ ts. Reaches limit unit us fs sc outer (t.label l n s) rest (token (kinds.Name n) l ∷ ts)) (kinds.Punct puncts.Colon) vs rest pv (λ k zs ps short small.
    headed limit (in_label l n) s (t.label l n s) unit us fs sc sc outer (token (kinds.Name n) l ∷ token (kinds.Punct puncts.Colon) k ∷ (zs ++ rest)) (zs ++ rest) rest refl refl
    (label_step limit unit fs (sc ∷ outer) n l k (zs ++ rest) (omega (arith, deep, some)) (left_more zs rest left)) (omega arith) short
    (λ fuel more. rs unit fuel (in_head (in_label l n) ∷ fs) sc outer zs rest ps (omega (arith, deep)) inner more (omega (arith, small)) left safe))) enough room

pub reads_case : (limit : ℕ) (l : Pos) (e : t.ExprTree) (s : t.StmtTree) → ReadsStmt limit s → ReadsStmt limit (t.case l e s)
reads_case limit l e s rs unit us fs sc outer xs rest p deep inner enough room left safe =
    let some = stmt_deep s in
    let case_token : Token = token (kinds.Keyword keywords.Case) l in
    before (Reaches limit unit us fs sc outer (t.case l e s) rest) l (kinds.Keyword keywords.Case) xs rest p (λ vs pv.
    between_some (λ ts. Reaches limit unit us fs sc outer (t.case l e s) rest (case_token ∷ ts)) (kinds.Punct puncts.Colon) vs rest pv (λ k ys zs pe ps short small.
    let colon : Token = token (kinds.Punct puncts.Colon) k in
    let long = length-append ys (colon ∷ (zs ++ rest)) in
    headed limit (in_case l e) s (t.case l e s) unit us fs sc (after sc e) outer (case_token ∷ (ys ++ (colon ∷ (zs ++ rest)))) (zs ++ rest) rest refl refl
    (word_step limit unit fs (sc ∷ outer) (kinds.Keyword keywords.Case) l (ys ++ (colon ∷ (zs ++ rest))) words.Case case_word (omega (arith, deep, some)) (left_more ys (colon ∷ (zs ++ rest)) tt)
    ∙ next (case_read limit (sc ∷ outer) (ys ++ (colon ∷ (zs ++ rest)))) (e, zs ++ rest, after sc e ∷ outer) (λ x. Ok (begun_open (in_head (in_case l x.0)), x.1, x.2)) (Ok (begun_open (in_head (in_case l e)), zs ++ rest, after sc e ∷ outer)) (case_is limit sc outer e k ys (zs ++ rest) pe.0 pe.1 (omega (arith, inner)) (left_more zs rest left)) refl)
    (omega (arith, long)) short
    (λ fuel more. rs unit fuel (in_head (in_case l e) ∷ fs) (after sc e) outer zs rest ps (omega (arith, deep)) (omega (arith, inner)) more (omega (arith, small, long)) left safe))) enough room

pub reads_default : (limit : ℕ) (l : Pos) (s : t.StmtTree) → ReadsStmt limit s → ReadsStmt limit (t.default l s)
reads_default limit l s rs unit us fs sc outer xs rest p deep inner enough room left safe =
    let some = stmt_deep s in
    let word : Token = token (kinds.Keyword keywords.Default) l in
    before (Reaches limit unit us fs sc outer (t.default l s) rest) l (kinds.Keyword keywords.Default) xs rest p (λ vs pv.
    before_some (λ ts. Reaches limit unit us fs sc outer (t.default l s) rest (word ∷ ts)) (kinds.Punct puncts.Colon) vs rest pv (λ k zs ps short small.
    let colon : Token = token (kinds.Punct puncts.Colon) k in
    headed limit (in_default l) s (t.default l s) unit us fs sc sc outer (word ∷ colon ∷ (zs ++ rest)) (zs ++ rest) rest refl refl
    (word_step limit unit fs (sc ∷ outer) (kinds.Keyword keywords.Default) l (colon ∷ (zs ++ rest)) words.Default default_word (omega (arith, deep, some)) tt
    ∙ next (expected marks.Colon (sc ∷ outer) (colon ∷ (zs ++ rest))) (zs ++ rest, sc ∷ outer) (λ x. Ok (begun_open (in_head (in_default l)), x.0, x.1)) (Ok (begun_open (in_head (in_default l)), zs ++ rest, sc ∷ outer)) (expected_is marks.Colon (sc ∷ outer) colon (zs ++ rest) refl (left_more zs rest left)) refl)
    (omega arith) short
    (λ fuel more. rs unit fuel (in_head (in_default l) ∷ fs) sc outer zs rest ps (omega (arith, deep)) inner more (omega (arith, small)) left safe))) enough room

pub reads_switch : (limit : ℕ) (l : Pos) (e : t.ExprTree) (s : t.StmtTree) → ReadsStmt limit s → ReadsStmt limit (t.switch l e s)
reads_switch limit l e s rs unit us fs sc outer xs rest p deep inner enough room left safe =
    let some = stmt_deep s in
    let word : Token = token (kinds.Keyword keywords.Switch) l in
    before (Reaches limit unit us fs sc outer (t.switch l e s) rest) l (kinds.Keyword keywords.Switch) xs rest p (λ vs pv.
    split (λ ts. Reaches limit unit us fs sc outer (t.switch l e s) rest (word ∷ ts)) vs rest pv (λ ys zs pe ps short small.
    let long = length-append ys (zs ++ rest) in
    headed limit (in_switch l e) s (t.switch l e s) unit us fs sc (after sc e) outer (word ∷ (ys ++ (zs ++ rest))) (zs ++ rest) rest refl refl
    (word_step limit unit fs (sc ∷ outer) (kinds.Keyword keywords.Switch) l (ys ++ (zs ++ rest)) words.Switch switch_word (omega (arith, deep, some)) (left_more ys (zs ++ rest) (left_more zs rest left))
    ∙ next (test_read limit (sc ∷ outer) (ys ++ (zs ++ rest))) (e, zs ++ rest, after sc e ∷ outer) (λ x. Ok (begun_open (in_head (in_switch l x.0)), x.1, x.2)) (Ok (begun_open (in_head (in_switch l e)), zs ++ rest, after sc e ∷ outer)) (test_is limit sc outer e ys (zs ++ rest) pe (omega (arith, inner)) (left_more zs rest left)) refl)
    (omega (arith, long)) short
    (λ fuel more. rs unit fuel (in_head (in_switch l e) ∷ fs) (after sc e) outer zs rest ps (omega (arith, deep)) (omega (arith, inner)) more (omega (arith, small, long)) left safe))) enough room

pub reads_while : (limit : ℕ) (l : Pos) (e : t.ExprTree) (s : t.StmtTree) → ReadsStmt limit s → ReadsStmt limit (t.while l e s)
reads_while limit l e s rs unit us fs sc outer xs rest p deep inner enough room left safe =
    let some = stmt_deep s in
    let word : Token = token (kinds.Keyword keywords.While) l in
    before (Reaches limit unit us fs sc outer (t.while l e s) rest) l (kinds.Keyword keywords.While) xs rest p (λ vs pv.
    split (λ ts. Reaches limit unit us fs sc outer (t.while l e s) rest (word ∷ ts)) vs rest pv (λ ys zs pe ps short small.
    let long = length-append ys (zs ++ rest) in
    headed limit (in_while l e) s (t.while l e s) unit us fs sc (after sc e) outer (word ∷ (ys ++ (zs ++ rest))) (zs ++ rest) rest refl refl
    (word_step limit unit fs (sc ∷ outer) (kinds.Keyword keywords.While) l (ys ++ (zs ++ rest)) words.While while_word (omega (arith, deep, some)) (left_more ys (zs ++ rest) (left_more zs rest left))
    ∙ next (test_read limit (sc ∷ outer) (ys ++ (zs ++ rest))) (e, zs ++ rest, after sc e ∷ outer) (λ x. Ok (begun_open (in_head (in_while l x.0)), x.1, x.2)) (Ok (begun_open (in_head (in_while l e)), zs ++ rest, after sc e ∷ outer)) (test_is limit sc outer e ys (zs ++ rest) pe (omega (arith, inner)) (left_more zs rest left)) refl)
    (omega (arith, long)) short
    (λ fuel more. rs unit fuel (in_head (in_while l e) ∷ fs) (after sc e) outer zs rest ps (omega (arith, deep)) (omega (arith, inner)) more (omega (arith, small, long)) left safe))) enough room

pub reads_goto : (limit : ℕ) (l : Pos) (n : Name) → ReadsStmt limit (t.goto l n)
reads_goto limit l n unit us fs sc outer xs rest p deep inner enough room left safe =
    let word : Token = token (kinds.Keyword keywords.Goto) l in
    before (Reaches limit unit us fs sc outer (t.goto l n) rest) l (kinds.Keyword keywords.Goto) xs rest p (λ vs pv.
    before_some (λ ts. Reaches limit unit us fs sc outer (t.goto l n) rest (word ∷ ts)) (kinds.Name n) vs rest pv (λ j ws pw.
    let name : Token = token (kinds.Name n) j in
    single (λ ts. Reaches limit unit us fs sc outer (t.goto l n) rest (word ∷ name ∷ ts)) pw.0 (kinds.Punct puncts.Semicolon) ws rest pw.1 (λ short small.
    let semi : Token = token (kinds.Punct puncts.Semicolon) pw.0 in
    wholly limit (t.goto l n) unit us fs sc outer (word ∷ name ∷ semi ∷ rest) rest
    (word_step limit unit fs (sc ∷ outer) (kinds.Keyword keywords.Goto) l (name ∷ semi ∷ rest) words.Goto goto_word deep tt
    ∙ next (name_read (sc ∷ outer) (name ∷ semi ∷ rest)) (n, semi ∷ rest, sc ∷ outer) (λ x. expected marks.Semicolon x.2 x.1 >>= (λ a. Ok (begun_whole (t.goto l x.0), a.0, a.1))) (Ok (begun_whole (t.goto l n), rest, sc ∷ outer)) refl
    (next (expected marks.Semicolon (sc ∷ outer) (semi ∷ rest)) (rest, sc ∷ outer) (λ a. Ok (begun_whole (t.goto l n), a.0, a.1)) (Ok (begun_whole (t.goto l n), rest, sc ∷ outer)) (expected_is marks.Semicolon (sc ∷ outer) semi rest refl left) refl))
    (omega arith) short))) enough room

pub reads_continue : (limit : ℕ) (l : Pos) → ReadsStmt limit (t.continue l)
reads_continue limit l unit us fs sc outer xs rest p deep inner enough room left safe =
    let word : Token = token (kinds.Keyword keywords.Continue) l in
    before (Reaches limit unit us fs sc outer (t.continue l) rest) l (kinds.Keyword keywords.Continue) xs rest p (λ vs pv.
    single (λ ts. Reaches limit unit us fs sc outer (t.continue l) rest (word ∷ ts)) pv.0 (kinds.Punct puncts.Semicolon) vs rest pv.1 (λ short small.
    let semi : Token = token (kinds.Punct puncts.Semicolon) pv.0 in
    wholly limit (t.continue l) unit us fs sc outer (word ∷ semi ∷ rest) rest
    (word_step limit unit fs (sc ∷ outer) (kinds.Keyword keywords.Continue) l (semi ∷ rest) words.Continue continue_word deep tt
    ∙ next (expected marks.Semicolon (sc ∷ outer) (semi ∷ rest)) (rest, sc ∷ outer) (λ a. Ok (begun_whole (t.continue l), a.0, a.1)) (Ok (begun_whole (t.continue l), rest, sc ∷ outer)) (expected_is marks.Semicolon (sc ∷ outer) semi rest refl left) refl)
    (omega arith) short)) enough room

pub reads_break : (limit : ℕ) (l : Pos) → ReadsStmt limit (t.break l)
reads_break limit l unit us fs sc outer xs rest p deep inner enough room left safe =
    let word : Token = token (kinds.Keyword keywords.Break) l in
    before (Reaches limit unit us fs sc outer (t.break l) rest) l (kinds.Keyword keywords.Break) xs rest p (λ vs pv.
    single (λ ts. Reaches limit unit us fs sc outer (t.break l) rest (word ∷ ts)) pv.0 (kinds.Punct puncts.Semicolon) vs rest pv.1 (λ short small.
    let semi : Token = token (kinds.Punct puncts.Semicolon) pv.0 in
    wholly limit (t.break l) unit us fs sc outer (word ∷ semi ∷ rest) rest
    (word_step limit unit fs (sc ∷ outer) (kinds.Keyword keywords.Break) l (semi ∷ rest) words.Break break_word deep tt
    ∙ next (expected marks.Semicolon (sc ∷ outer) (semi ∷ rest)) (rest, sc ∷ outer) (λ a. Ok (begun_whole (t.break l), a.0, a.1)) (Ok (begun_whole (t.break l), rest, sc ∷ outer)) (expected_is marks.Semicolon (sc ∷ outer) semi rest refl left) refl)
    (omega arith) short)) enough room

pub reads_return : (limit : ℕ) (l : Pos) (e : Option t.ExprTree) → ReadsStmt limit (t.return l e)
reads_return limit l e unit us fs sc outer xs rest p deep inner enough room left safe =
    let word : Token = token (kinds.Keyword keywords.Return) l in
    before (Reaches limit unit us fs sc outer (t.return l e) rest) l (kinds.Keyword keywords.Return) xs rest p (λ vs pv.
    behind_some (λ ts. Reaches limit unit us fs sc outer (t.return l e) rest (word ∷ ts)) (kinds.Punct puncts.Semicolon) vs rest pv (λ k ys pe short small.
    let semi : Token = token (kinds.Punct puncts.Semicolon) k in
    let long = length-append ys (semi ∷ rest) in
    wholly limit (t.return l e) unit us fs sc outer (word ∷ (ys ++ (semi ∷ rest))) rest
    (word_step limit unit fs (sc ∷ outer) (kinds.Keyword keywords.Return) l (ys ++ (semi ∷ rest)) words.Return return_word deep (left_more ys (semi ∷ rest) tt)
    ∙ next (optional_read limit marks.Semicolon (sc ∷ outer) (ys ++ (semi ∷ rest))) (e, rest, after_option sc e ∷ outer) (λ x. Ok (begun_whole (t.return l x.0), x.1, x.2)) (Ok (begun_whole (t.return l e), rest, after_option sc e ∷ outer))
    (maybe_is limit marks.Semicolon puncts.Semicolon k sc outer e ys rest (record { name = λ n. refl; operand = refl; paren = refl }) refl (inl refl) pe inner left) refl)
    (omega (arith, long)) short)) enough room

pub reads_eval : (limit : ℕ) (l : Pos) (e : Option t.ExprTree) → ReadsStmt limit (t.eval l e)
reads_eval limit l None unit us fs sc outer xs rest p deep inner enough room left safe =
    let semi : Token = token (kinds.Punct puncts.Semicolon) l in
    single (Reaches limit unit us fs sc outer (t.eval l None) rest) l (kinds.Punct puncts.Semicolon) xs rest p (λ short small.
    wholly limit (t.eval l None) unit us fs sc outer (semi ∷ rest) rest
    (empty_step limit unit fs (sc ∷ outer) l rest deep
    ∙ next (optional_read limit marks.Semicolon (sc ∷ outer) (semi ∷ rest)) (None, rest, sc ∷ outer) (λ x. Ok (begun_whole (t.eval l x.0), x.1, x.2)) (Ok (begun_whole (t.eval l None), rest, sc ∷ outer))
    (maybe_is limit marks.Semicolon puncts.Semicolon l sc outer None [] rest (record { name = λ n. refl; operand = refl; paren = refl }) refl (inl refl) refl (omega arith) left) refl)
    (omega arith) short) enough room
reads_eval limit l (Some e) unit us fs sc outer xs rest p deep inner enough room left safe =
    behind_some (Reaches limit unit us fs sc outer (t.eval l (Some e)) rest) (kinds.Punct puncts.Semicolon) xs rest p.1 (λ k ys pe short small.
    let semi : Token = token (kinds.Punct puncts.Semicolon) k in
    let all = ys ++ (semi ∷ rest) in
    let long = length-append ys (semi ∷ rest) in
    wholly limit (t.eval l (Some e)) unit us fs sc outer all rest
    (eval_step limit unit fs sc outer ys (semi ∷ rest) (begins_expr e sc ys pe) (uncoloured e sc ys (semi ∷ rest) pe refl) tt deep
    ∙ (next (optional_read limit marks.Semicolon (sc ∷ outer) all) (Some e, rest, after sc e ∷ outer) (λ x. Ok (begun_whole (t.eval (pos_here all) x.0), x.1, x.2)) (Ok (begun_whole (t.eval (pos_here all) (Some e)), rest, after sc e ∷ outer))
    (maybe_is limit marks.Semicolon puncts.Semicolon k sc outer (Some e) ys rest (record { name = λ n. refl; operand = refl; paren = refl }) refl (inl refl) pe inner left) refl
    ∙ ap (λ x. Ok (begun_whole (t.eval x (Some e)), rest, after sc e ∷ outer)) (opens_here (λ tok. tok.pos ≡ start e) ys (semi ∷ rest) (starts_expr e sc ys pe) ∙ p.0)))
    (let some = opens_long (Operand sc) ys (begins_expr e sc ys pe) in omega (arith, long, some)) short) enough room

pub reads_for : (limit : ℕ) (l : Pos) (e f g : Option t.ExprTree) (s : t.StmtTree) → ReadsStmt limit s → ReadsStmt limit (t.for l e f g s)
reads_for limit l e f g s rs unit us fs sc outer xs rest p deep inner enough room left safe =
    let some = stmt_deep s in
    let word : Token = token (kinds.Keyword keywords.For) l in
    let all = t.for l e f g s in
    let sc1 = after_option sc e in
    let sc2 = after_option sc1 f in
    let sc3 = after_option sc2 g in
    before (Reaches limit unit us fs sc outer all rest) l (kinds.Keyword keywords.For) xs rest p (λ vs pv.
    before_some (λ ts. Reaches limit unit us fs sc outer all rest (word ∷ ts)) (kinds.Punct puncts.OpenParen) vs rest pv (λ j ws pw.
    let opening : Token = token (kinds.Punct puncts.OpenParen) j in
    between_some (λ ts. Reaches limit unit us fs sc outer all rest (word ∷ opening ∷ ts)) (kinds.Punct puncts.Semicolon) ws rest pw (λ k1 es cs pe pa.
    let semi1 : Token = token (kinds.Punct puncts.Semicolon) k1 in
    between_some (λ ts. Reaches limit unit us fs sc outer all rest (word ∷ opening ∷ (es ++ (semi1 ∷ ts)))) (kinds.Punct puncts.Semicolon) cs rest pa (λ k2 ds bs pf pb.
    let semi2 : Token = token (kinds.Punct puncts.Semicolon) k2 in
    between_some (λ ts. Reaches limit unit us fs sc outer all rest (word ∷ opening ∷ (es ++ (semi1 ∷ (ds ++ (semi2 ∷ ts)))))) (kinds.Punct puncts.CloseParen) bs rest pb (λ k3 gs zs pg ps short small.
    let closing : Token = token (kinds.Punct puncts.CloseParen) k3 in
    let t4 = zs ++ rest in
    let t3 = gs ++ (closing ∷ t4) in
    let t2 = ds ++ (semi2 ∷ t3) in
    let t1 = es ++ (semi1 ∷ t2) in
    let l1 = length-append es (semi1 ∷ t2) in
    let l2 = length-append ds (semi2 ∷ t3) in
    let l3 = length-append gs (closing ∷ t4) in
    headed limit (in_for l e f g) s all unit us fs sc sc3 outer (word ∷ opening ∷ t1) t4 rest refl refl
    (word_step limit unit fs (sc ∷ outer) (kinds.Keyword keywords.For) l (opening ∷ t1) words.For for_word (omega (arith, deep, some)) tt
    ∙ next (expected marks.OpenParen (sc ∷ outer) (opening ∷ t1)) (t1, sc ∷ outer) _ (Ok (begun_open (in_head (in_for l e f g)), t4, sc3 ∷ outer)) (expected_is marks.OpenParen (sc ∷ outer) opening t1 refl (left_more es (semi1 ∷ t2) tt))
    (next (optional_read limit marks.Semicolon (sc ∷ outer) t1) (e, t2, sc1 ∷ outer) _ (Ok (begun_open (in_head (in_for l e f g)), t4, sc3 ∷ outer)) (maybe_is limit marks.Semicolon puncts.Semicolon k1 sc outer e es t2 (record { name = λ n. refl; operand = refl; paren = refl }) refl (inl refl) pe (omega (arith, inner)) (left_more ds (semi2 ∷ t3) tt))
    (next (optional_read limit marks.Semicolon (sc1 ∷ outer) t2) (f, t3, sc2 ∷ outer) _ (Ok (begun_open (in_head (in_for l e f g)), t4, sc3 ∷ outer)) (maybe_is limit marks.Semicolon puncts.Semicolon k2 sc1 outer f ds t3 (record { name = λ n. refl; operand = refl; paren = refl }) refl (inl refl) pf (omega (arith, inner)) (left_more gs (closing ∷ t4) tt))
    (next (optional_read limit marks.CloseParen (sc2 ∷ outer) t3) (g, t4, sc3 ∷ outer) _ (Ok (begun_open (in_head (in_for l e f g)), t4, sc3 ∷ outer)) (maybe_is limit marks.CloseParen puncts.CloseParen k3 sc2 outer g gs t4 (record { name = λ n. refl; operand = refl; paren = refl }) refl (inl refl) pg (omega (arith, inner)) (left_more zs rest left)) refl))))
    (omega (arith, l1, l2, l3)) short
    (λ fuel more. rs unit fuel (in_head (in_for l e f g) ∷ fs) sc3 outer zs rest ps (omega (arith, deep)) (omega (arith, inner)) more (omega (arith, small, l1, l2, l3)) left safe)))))) enough room

-- an `if` behind whose statement stands no `else`
no_else : (l : Pos) (e : t.ExprTree) (s : t.StmtTree) (scope : Blocks) (ts : List Token) → Left ts → First NoElse ts → then_plugged l e s scope ts ≡ Ok (plugged_whole (t.if_stmt l e s t.no_stmt), ts, scope)
no_else l e s scope [] left f = absurd left
no_else l e s scope (r ∷ rs) left f = unless (is_here marks.Else (r ∷ rs)) (Ok (plugged_open (in_head (in_else l e s)), after_token (r ∷ rs), scope)) (Ok (plugged_whole (t.if_stmt l e s t.no_stmt), r ∷ rs, scope)) (is_here_is marks.Else r rs ∙ f)

else_there : (l : Pos) (e : t.ExprTree) (s : t.StmtTree) (scope : Blocks) (k : Pos) (ts : List Token) → Left ts → then_plugged l e s scope (token (kinds.Keyword keywords.Else) k ∷ ts) ≡ Ok (plugged_open (in_head (in_else l e s)), ts, scope)
else_there l e s scope k ts left =
    let word : Token = token (kinds.Keyword keywords.Else) k in
    when (is_here marks.Else (word ∷ ts)) (Ok (plugged_open (in_head (in_else l e s)), after_token (word ∷ ts), scope)) (Ok (plugged_whole (t.if_stmt l e s t.no_stmt), word ∷ ts, scope)) (is_here_is marks.Else word ts)
    ∙ ap (λ x. Ok (plugged_open (in_head (in_else l e s)), x, scope)) (passed word ts left)

-- the test of an `if`, and its statement
if_begins : (limit : ℕ) (l : Pos) (e : t.ExprTree) (unit : List Token) (fs : List Frame) (sc : Scope) (outer : Blocks) (ys ts : List Token) → test sc e ys → expr_depth e ≤ limit → 2 + length fs ≤ limit → Left ts
    → begun_at limit unit (place_in fs) (sc ∷ outer) (token (kinds.Keyword keywords.If) l ∷ (ys ++ ts)) ≡ Ok (begun_open (in_then l e), ts, after sc e ∷ outer)
if_begins limit l e unit fs sc outer ys ts pe small deep left =
    word_step limit unit fs (sc ∷ outer) (kinds.Keyword keywords.If) l (ys ++ ts) words.If if_word deep (left_more ys ts left)
    ∙ next (test_read limit (sc ∷ outer) (ys ++ ts)) (e, ts, after sc e ∷ outer) (λ x. Ok (begun_open (in_then l x.0), x.1, x.2)) (Ok (begun_open (in_then l e), ts, after sc e ∷ outer)) (test_is limit sc outer e ys ts pe small left) refl

pub record Fueled (us : List Token) (n : ℕ) : Type 0 where
  pub first : Token
  pub others : List Token
  pub are : us ≡ first ∷ others
  pub enough : n ≤ length others

pub fueled : (us : List Token) (n : ℕ) → suc n ≤ length us → Fueled us n
fueled [] n h = absurd (omega (arith, h))
fueled (u ∷ us) n h = record { first = u; others = us; are = refl; enough = omega (arith, h) }

pub reads_if : (limit : ℕ) (l : Pos) (e : t.ExprTree) (s : t.StmtTree) → ReadsStmt limit s → ReadsStmt limit (t.if_stmt l e s t.no_stmt)
reads_if limit l e s rs unit us fs sc outer xs rest p deep inner enough room left safe =
    let word : Token = token (kinds.Keyword keywords.If) l in
    let all = t.if_stmt l e s t.no_stmt in
    let sc1 = after sc e in
    let some = stmt_deep s in
    before (Reaches limit unit us fs sc outer all rest) l (kinds.Keyword keywords.If) xs rest p (λ vs pv.
    split (λ ts. Reaches limit unit us fs sc outer all rest (word ∷ ts)) vs rest pv (λ ys ws pe pw.
    split (λ ts. Reaches limit unit us fs sc outer all rest (word ∷ (ys ++ ts))) ws rest pw (λ zs ns ps a. subst (λ ts. Reaches limit unit us fs sc outer all rest (word ∷ (ys ++ (zs ++ (ts ++ rest))))) (sym a) (λ short small.
    let long = length-append ys (zs ++ rest) in
    let fuel : Fueled us (length (zs ++ rest)) = fueled us (length (zs ++ rest)) (omega (arith, short, long)) in
    let run : StmtRun limit unit fuel.others (in_then l e ∷ fs) sc1 outer s (zs ++ rest) rest = rs unit fuel.others (in_then l e ∷ fs) sc1 outer zs rest ps.1 (omega (arith, deep)) (omega (arith, inner)) fuel.enough (omega (arith, small, long)) left (λ h. safe refl) in
    record {
      us_left = run.us_left;
      enough = run.enough;
      are = subst (λ x. statement_run limit unit x fs (sc ∷ outer) (word ∷ (ys ++ (zs ++ rest))) ≡ (all_plugged limit fs all (after_stmt sc1 s ∷ outer) rest >>= statement_next (statement_run limit unit run.us_left))) (sym fuel.are)
          (opened limit unit fuel.others fs fs (sc ∷ outer) (sc1 ∷ outer) (word ∷ (ys ++ (zs ++ rest))) (zs ++ rest) (in_then l e) _ (if_begins limit l e unit fs sc outer ys (zs ++ rest) pe (omega (arith, inner)) (omega (arith, deep, some)) (left_more zs rest left)) run.are fuel.first
          ∙ ap (λ x. (x >>= plugged_next (all_plugged limit fs) fs) >>= statement_next (statement_run limit unit run.us_left)) (no_else l e s (after_stmt sc1 s ∷ outer) rest left (safe refl)));
    })))) enough room

closed_not : (b : Bool) → b ≡ true → b ≡ false → ⊥
closed_not true h k = cc
closed_not false h k = cc

pub reads_if_else : (limit : ℕ) (l : Pos) (e : t.ExprTree) (s r : t.StmtTree) → ReadsStmt limit s → ReadsStmt limit r → ReadsStmt limit (t.if_stmt l e s (t.a_stmt r))
reads_if_else limit l e s r rs rr unit us fs sc outer xs rest p deep inner enough room left safe =
    let word : Token = token (kinds.Keyword keywords.If) l in
    let all = t.if_stmt l e s (t.a_stmt r) in
    let sc1 = after sc e in
    let sc2 = after_stmt sc1 s in
    let some = stmt_deep s in
    before (Reaches limit unit us fs sc outer all rest) l (kinds.Keyword keywords.If) xs rest p (λ vs pv.
    split (λ ts. Reaches limit unit us fs sc outer all rest (word ∷ ts)) vs rest pv (λ ys ws pe pw.
    split (λ ts. Reaches limit unit us fs sc outer all rest (word ∷ (ys ++ ts))) ws rest pw (λ zs ns ps pn.
    before_some (λ ts. Reaches limit unit us fs sc outer all rest (word ∷ (ys ++ (zs ++ ts)))) (kinds.Keyword keywords.Else) ns rest pn (λ k qs pq short small.
    let else_token : Token = token (kinds.Keyword keywords.Else) k in
    let tail = else_token ∷ (qs ++ rest) in
    let long = length-append ys (zs ++ tail) in
    let longer = length-append zs tail in
    let fuel : Fueled us (length (zs ++ tail)) = fueled us (length (zs ++ tail)) (omega (arith, short, long)) in
    let run : StmtRun limit unit fuel.others (in_then l e ∷ fs) sc1 outer s (zs ++ tail) tail = rs unit fuel.others (in_then l e ∷ fs) sc1 outer zs tail ps.1 (omega (arith, deep)) (omega (arith, inner)) fuel.enough (omega (arith, small, long)) tt (λ h. absurd (closed_not (is_closed s) ps.0 h)) in
    let more = run.enough in
    let last : StmtRun limit unit run.us_left (in_head (in_else l e s) ∷ fs) sc2 outer r (qs ++ rest) rest = rr unit run.us_left (in_head (in_else l e s) ∷ fs) sc2 outer qs rest pq (omega (arith, deep)) (omega (arith, inner)) (omega (arith, more)) (omega (arith, small, long, longer)) left safe in
    record {
      us_left = last.us_left;
      enough = last.enough;
      are = subst (λ x. statement_run limit unit x fs (sc ∷ outer) (word ∷ (ys ++ (zs ++ tail))) ≡ (all_plugged limit fs all (after_stmt sc2 r ∷ outer) rest >>= statement_next (statement_run limit unit last.us_left))) (sym fuel.are)
          (opened limit unit fuel.others fs fs (sc ∷ outer) (sc1 ∷ outer) (word ∷ (ys ++ (zs ++ tail))) (zs ++ tail) (in_then l e) _ (if_begins limit l e unit fs sc outer ys (zs ++ tail) pe (omega (arith, inner)) (omega (arith, deep, some)) (left_more zs tail tt)) run.are fuel.first
          ∙ (ap (λ x. (x >>= plugged_next (all_plugged limit fs) fs) >>= statement_next (statement_run limit unit run.us_left)) (else_there l e s (sc2 ∷ outer) k (qs ++ rest) (left_more qs rest left))
          ∙ last.are));
    })))) enough room

pub reads_do : (limit : ℕ) (l : Pos) (s : t.StmtTree) (e : t.ExprTree) → ReadsStmt limit s → ReadsStmt limit (t.do_while l s e)
reads_do limit l s e rs unit us fs sc outer xs rest p deep inner enough room left safe =
    let word : Token = token (kinds.Keyword keywords.Do) l in
    let all = t.do_while l s e in
    let sc1 = after_stmt sc s in
    let sc2 = after sc1 e in
    let some = stmt_deep s in
    before (Reaches limit unit us fs sc outer all rest) l (kinds.Keyword keywords.Do) xs rest p (λ vs pv.
    between_some (λ ts. Reaches limit unit us fs sc outer all rest (word ∷ ts)) (kinds.Keyword keywords.While) vs rest pv (λ k zs ws ps pw.
    let while_token : Token = token (kinds.Keyword keywords.While) k in
    behind_some (λ ts. Reaches limit unit us fs sc outer all rest (word ∷ (zs ++ (while_token ∷ ts)))) (kinds.Punct puncts.Semicolon) ws rest pw (λ j ys pe short small.
    let semi : Token = token (kinds.Punct puncts.Semicolon) j in
    let tail = while_token ∷ (ys ++ (semi ∷ rest)) in
    let longer = length-append ys (semi ∷ rest) in
    let fuel : Fueled us (length (zs ++ tail)) = fueled us (length (zs ++ tail)) (omega (arith, short)) in
    let run : StmtRun limit unit fuel.others (in_do l ∷ fs) sc outer s (zs ++ tail) tail = rs unit fuel.others (in_do l ∷ fs) sc outer zs tail ps (omega (arith, deep)) (omega (arith, inner)) fuel.enough (omega (arith, small)) tt (λ h. refl) in
    let more = run.enough in
    record {
      us_left = run.us_left;
      enough = omega (arith, more, longer);
      are = subst (λ x. statement_run limit unit x fs (sc ∷ outer) (word ∷ (zs ++ tail)) ≡ (all_plugged limit fs all (sc2 ∷ outer) rest >>= statement_next (statement_run limit unit run.us_left))) (sym fuel.are)
          (opened limit unit fuel.others fs fs (sc ∷ outer) (sc ∷ outer) (word ∷ (zs ++ tail)) (zs ++ tail) (in_do l) _ (word_step limit unit fs (sc ∷ outer) (kinds.Keyword keywords.Do) l (zs ++ tail) words.Do do_word (omega (arith, deep, some)) (left_more zs tail tt)) run.are fuel.first
          ∙ ap (λ x. (x >>= plugged_next (all_plugged limit fs) fs) >>= statement_next (statement_run limit unit run.us_left))
          (next (expected marks.While (sc1 ∷ outer) tail) (ys ++ (semi ∷ rest), sc1 ∷ outer) _ (Ok (plugged_whole all, rest, sc2 ∷ outer)) (expected_is marks.While (sc1 ∷ outer) while_token (ys ++ (semi ∷ rest)) refl (left_more ys (semi ∷ rest) tt))
          (next (test_read limit (sc1 ∷ outer) (ys ++ (semi ∷ rest))) (e, semi ∷ rest, sc2 ∷ outer) _ (Ok (plugged_whole all, rest, sc2 ∷ outer)) (test_is limit sc1 outer e ys (semi ∷ rest) pe (omega (arith, inner)) tt)
          (next (expected marks.Semicolon (sc2 ∷ outer) (semi ∷ rest)) (rest, sc2 ∷ outer) (λ b. Ok (plugged_whole all, b.0, b.1)) (Ok (plugged_whole all, rest, sc2 ∷ outer)) (expected_is marks.Semicolon (sc2 ∷ outer) semi rest refl left) refl))));
    }))) enough room
