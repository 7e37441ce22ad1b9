-- What a word or a name begins of a statement (C90 6.6).
use Rattle.std.proofs.Common.{◌≡◌, ℕ, zero, suc, ◌≤◌, List, [], Bool, true, false, refl, sym, ap, ◌∙◌, subst, arith}
use Rattle.std.specs.Prelude.{Ok, Option, None, Some}
use Rattle.c65_base.specs.Answers.{◌>>=◌}
use Rattle.c65_base.specs.declared.names.Name.{Name}
use Rattle.c65_base.specs.declared.refusal.Pos.{Pos}
use Rattle.c65_scan.specs.declared.token.Token.{Token}
use Rattle.c65_scan.specs.declared.token.TokenKind.TheVariants as kinds
use Rattle.c65_tree.specs.Trees as t
use Rattle.c65_parse_trees.specs.declared.sign.Sign.TheVariants as measured
use Rattle.c65_parse_trees.specs.Listings.{nothing_listed}
use Rattle.c65_parse_names.specs.Scopes.{Blocks, is_type_in, opened}
use Rattle.c65_parse.specs.Frames.{Frame, Held, operand, have_expr, specifiers}
use Rattle.c65_parse.specs.Expressions.{goes, within, has_room, operand_step}
use Rattle.c65_parse.specs.Specifiers.{specifiers_step}
use Rattle.c65_parse.specs.Machine.{step}
use Rattle.c65_parse.specs.Reading.{token_at, expr_read, specifiers_read}
use Rattle.c65_parse_frames.specs.declared.sign.Mark.TheVariants as marks
use Rattle.c65_parse_frames.specs.Signs.{sign_of}
use Rattle.c65_parse_frames.specs.Frames.{in_label, in_case, in_default, in_switch, in_while, in_for, in_head, in_block, in_then, in_do, Begun, begun_open, begun_whole}
use Rattle.c65_decl.specs.declared.words.Word.{Word}
use Rattle.c65_decl.specs.declared.words.Word.TheVariants as words
use Rattle.c65_decl.specs.Words.{word_of, name_of}
use Rattle.c65_decl.specs.Here.{sign_here, expected, name_by, name_read}
use Rattle.c65_decl.specs.Expressions.{test_read, case_read, optional_read}
use Rattle.c65_decl.specs.Openings.{label_begun, for_begun, goto_begun, eval_begun, begun_behind, word_begun}
use Rattle.c65_parse_law_sound.proofs.Phrases.{no_none}
use Rattle.c65_parse_law_sound.proofs.Got.{EndsIn, First, first_of_these}
use Rattle.c65_parse_law_faults.proofs.Local.{Local, done, fails, by_first, past}
use Rattle.c65_parse_law_faults.proofs.Seq.{seq, seq_mark}
use Rattle.c65_parse_law_faults.proofs.Runs.{Allows, expr_by, specifiers_by}
use Rattle.c65_parse_law_faults.proofs.Inits.{marks_it, test_local, case_local, optional_by, optional_local}

-- a name, which is known to stand there or is not
name_by_local : (c : ℕ) (o : Option Name) (scope : Blocks) (unit us ts : List Token) → name_of (sign_here ts) ≡ o → (o ≡ None → c ≤ 0) → EndsIn ts → Local c 1 0 (λ unit us ys. name_by o scope ys) unit us ts
name_by_local zero None scope unit us ts e f ends = fails 1 0 unit us ts ends
name_by_local (suc c) None scope unit us ts e f ends = let no = f refl in absurd (omega (arith, no))
name_by_local c (Some n) scope unit us ts e f ends = past c c 0 1 0 0 (λ unit us ys. Ok (n, ys, scope)) unit us ts (omega arith) (omega arith) (omega arith) (first_of_these ts (λ h. no_none n (sym (ap name_of h) ∙ e)) ends)
    (done c 0 n scope unit us (first_of_these ts (λ h. no_none n (sym (ap name_of h) ∙ e)) ends).rest (first_of_these ts (λ h. no_none n (sym (ap name_of h) ∙ e)) ends).ends)

name_local : (c : ℕ) (scope : Blocks) (unit us ts : List Token) → (name_of (sign_here ts) ≡ None → c ≤ 0) → EndsIn ts → Local c 1 0 (λ unit us ys. name_read scope ys) unit us ts
name_local c scope unit us ts f ends = by_first c 1 0 (λ x unit us ys. name_by (name_of (sign_of x.kind)) scope ys) unit us ts (name_by_local c (name_of (sign_here ts)) scope unit us ts refl f ends)

pub label_local : (c : ℕ) (l : Pos) (scope : Blocks) (unit us ts : List Token) → c ≤ 1 → (name_of (sign_here ts) ≡ None → c ≤ 0) → EndsIn ts → Local c 1 0 (λ unit us ys. label_begun l scope ys) unit us ts
label_local c l scope unit us ts low f ends = seq c 0 1 0 1 0 0 (λ unit us ys. name_read scope ys) (λ unit us n. expected marks.Colon n.2 n.1 >>= (λ a. Ok (begun_open (in_head (in_label l n.0)), a.0, a.1))) unit us ts (omega arith) (omega (arith, low)) (omega arith) ends (name_local c scope unit us ts f ends)
    (λ n inner rest left short. seq_mark 0 0 0 marks.Colon inner (λ a. Ok (begun_open (in_head (in_label l n)), a.0, a.1)) unit us rest refl (omega arith) left (λ last none. done 0 0 (begun_open (in_head (in_label l n))) inner unit us last none))

goto_local : (l : Pos) (scope : Blocks) (unit us ts : List Token) → EndsIn ts → Local 0 0 0 (λ unit us ys. goto_begun l scope ys) unit us ts
goto_local l scope unit us ts ends = seq 0 0 1 0 0 0 0 (λ unit us ys. name_read scope ys) (λ unit us n. expected marks.Semicolon n.2 n.1 >>= (λ a. Ok (begun_whole (t.goto l n.0), a.0, a.1))) unit us ts (omega arith) (omega arith) (omega arith) ends (name_local 0 scope unit us ts (λ e. omega arith) ends)
    (λ n inner rest left short. seq_mark 0 0 0 marks.Semicolon inner (λ a. Ok (begun_whole (t.goto l n), a.0, a.1)) unit us rest refl (omega arith) left (λ last none. done 0 0 (begun_whole (t.goto l n)) inner unit us last none))

for_local : (limit : ℕ) (l : Pos) (scope : Blocks) (unit us ts : List Token) → EndsIn ts → Local 0 0 0 (λ unit us ys. for_begun limit l scope ys) unit us ts
for_local limit l scope unit us ts ends = seq_mark 0 0 0 marks.OpenParen scope (λ a. optional_read limit marks.Semicolon a.1 a.0 >>= (λ e. optional_read limit marks.Semicolon e.2 e.1 >>= (λ f. optional_read limit marks.CloseParen f.2 f.1 >>= (λ g. Ok (begun_open (in_head (in_for l e.0 f.0 g.0)), g.1, g.2))))) unit us ts refl (omega arith) ends
    (λ xs la. seq 0 0 1 0 0 0 0 (λ unit us ys. optional_read limit marks.Semicolon scope ys) (λ unit us e. optional_read limit marks.Semicolon e.2 e.1 >>= (λ f. optional_read limit marks.CloseParen f.2 f.1 >>= (λ g. Ok (begun_open (in_head (in_for l e.0 f.0 g.0)), g.1, g.2)))) unit us xs (omega arith) (omega arith) (omega arith) la (optional_local limit marks.Semicolon scope unit us xs refl la)
    (λ e s1 bs lb short. seq 0 0 1 0 0 0 0 (λ unit us ys. optional_read limit marks.Semicolon s1 ys) (λ unit us f. optional_read limit marks.CloseParen f.2 f.1 >>= (λ g. Ok (begun_open (in_head (in_for l e f.0 g.0)), g.1, g.2))) unit us bs (omega arith) (omega arith) (omega arith) lb (optional_local limit marks.Semicolon s1 unit us bs refl lb)
    (λ f s2 cs lc short. seq 0 0 1 0 0 0 0 (λ unit us ys. optional_read limit marks.CloseParen s2 ys) (λ unit us g. Ok (begun_open (in_head (in_for l e f g.0)), g.1, g.2)) unit us cs (omega arith) (omega arith) (omega arith) lc (optional_local limit marks.CloseParen s2 unit us cs refl lc)
    (λ g s3 ds ld short. done 0 0 (begun_open (in_head (in_for l e f g))) s3 unit us ds ld))))

-- a statement of a word and a mark
marked : (b : Begun) (scope : Blocks) (unit us ts : List Token) → EndsIn ts → Local 0 0 0 (λ unit us ys. expected marks.Semicolon scope ys >>= (λ a. Ok (b, a.0, a.1))) unit us ts
marked b scope unit us ts ends = seq_mark 0 0 0 marks.Semicolon scope (λ a. Ok (b, a.0, a.1)) unit us ts refl (omega arith) ends (λ rest left. done 0 0 b scope unit us rest left)

tested : (limit : ℕ) (build : t.ExprTree → Begun) (scope : Blocks) (unit us ts : List Token) → EndsIn ts → Local 0 0 0 (λ unit us ys. test_read limit scope ys >>= (λ e. Ok (build e.0, e.1, e.2))) unit us ts
tested limit build scope unit us ts ends = seq 0 0 1 0 0 0 0 (λ unit us ys. test_read limit scope ys) (λ unit us e. Ok (build e.0, e.1, e.2)) unit us ts (omega arith) (omega arith) (omega arith) ends (test_local limit scope unit us ts ends)
    (λ e inner rest left short. done 0 0 (build e) inner unit us rest left)

behind_local : (limit : ℕ) (w : Word) (l : Pos) (scope : Blocks) (unit us ts : List Token) → EndsIn ts → Local 0 0 0 (λ unit us ys. begun_behind limit w l scope ys) unit us ts
behind_local limit words.Case l scope unit us ts ends = seq 0 0 1 0 0 0 0 (λ unit us ys. case_read limit scope ys) (λ unit us e. Ok (begun_open (in_head (in_case l e.0)), e.1, e.2)) unit us ts (omega arith) (omega arith) (omega arith) ends (case_local limit scope unit us ts ends)
    (λ e inner rest left short. done 0 0 (begun_open (in_head (in_case l e))) inner unit us rest left)
behind_local limit words.Default l scope unit us ts ends = seq_mark 0 0 0 marks.Colon scope (λ a. Ok (begun_open (in_head (in_default l)), a.0, a.1)) unit us ts refl (omega arith) ends (λ rest left. done 0 0 (begun_open (in_head (in_default l))) scope unit us rest left)
behind_local limit words.If l scope unit us ts ends = tested limit (λ e. begun_open (in_then l e)) scope unit us ts ends
behind_local limit words.Switch l scope unit us ts ends = tested limit (λ e. begun_open (in_head (in_switch l e))) scope unit us ts ends
behind_local limit words.While l scope unit us ts ends = tested limit (λ e. begun_open (in_head (in_while l e))) scope unit us ts ends
behind_local limit words.Do l scope unit us ts ends = done 0 0 (begun_open (in_do l)) scope unit us ts ends
behind_local limit words.For l scope unit us ts ends = for_local limit l scope unit us ts ends
behind_local limit words.Goto l scope unit us ts ends = goto_local l scope unit us ts ends
behind_local limit words.Continue l scope unit us ts ends = marked (begun_whole (t.continue l)) scope unit us ts ends
behind_local limit words.Break l scope unit us ts ends = marked (begun_whole (t.break l)) scope unit us ts ends
behind_local limit words.Return l scope unit us ts ends = seq 0 0 1 0 0 0 0 (λ unit us ys. optional_read limit marks.Semicolon scope ys) (λ unit us e. Ok (begun_whole (t.return l e.0), e.1, e.2)) unit us ts (omega arith) (omega arith) (omega arith) ends (optional_local limit marks.Semicolon scope unit us ts refl ends)
    (λ e inner rest left short. done 0 0 (begun_whole (t.return l e)) inner unit us rest left)
behind_local limit words.OpenBrace l scope unit us ts ends = done 0 0 (begun_open (in_block l [] t.no_stmts)) (opened scope) unit us ts ends

pub word_local : (limit : ℕ) (o : Option Word) (l : Pos) (scope : Blocks) (unit us ts : List Token) → word_of (sign_here ts) ≡ o → EndsIn ts → Local 0 1 0 (λ unit us ys. word_begun limit o l scope ys) unit us ts
word_local limit None l scope unit us ts e ends = fails 1 0 unit us ts ends
word_local limit (Some w) l scope unit us ts e ends =
    let first : First ts = first_of_these ts (λ h. no_none w (sym (ap word_of h) ∙ e)) ends in
    past 0 0 0 1 0 0 (λ unit us ys. begun_behind limit w l scope ys) unit us ts (omega arith) (omega arith) (omega arith) first (behind_local limit w l scope unit us first.rest first.ends)

pub eval_local : (limit : ℕ) (c : ℕ) (l : Pos) (scope : Blocks) (unit us ts : List Token) → EndsIn ts → c ≤ 1 → Local c 1 0 (λ unit us ys. expr_read limit 0 scope ys) unit us ts → (marks_it marks.Semicolon (token_at ts 0) ≡ true → c ≤ 0) → Local c 1 0 (λ unit us ys. eval_begun limit l scope ys) unit us ts
eval_local limit c l scope unit us ts ends low h f = seq c 0 1 0 1 0 0 (λ unit us ys. optional_read limit marks.Semicolon scope ys) (λ unit us e. Ok (begun_whole (t.eval l e.0), e.1, e.2)) unit us ts (omega arith) (omega (arith, low)) (omega arith) ends (optional_by limit c marks.Semicolon scope unit us ts refl ends low h f)
    (λ e inner rest left short. done 0 0 (begun_whole (t.eval l e)) inner unit us rest left)

-- a name that is a type is taken as one, and another as an expression
type_goes : (limit : ℕ) (n : Name) (l : Pos) (b : Bool) → b ≡ true → Allows 1 1 (specifiers_step limit (nothing_listed true) [] l (measured.Name n b))
unfolding specifiers_step
type_goes limit n l true e = (omega arith, omega arith)
type_goes limit n l false e = absurd cc

type_step : (limit : ℕ) (scope : Blocks) (n : Name) (l : Pos) → is_type_in scope n ≡ true → Allows 1 1 (step limit 0 scope [] (specifiers (nothing_listed true)) (record { kind = kinds.Name n; pos = l }))
unfolding step
type_step limit scope n l e = type_goes limit n l (is_type_in scope n) e

room_allows : (b : Bool) (fs : List Frame) (held : Held) → Allows 1 1 (within b (goes fs held))
room_allows true fs held = (omega arith, omega arith)
room_allows false fs held = tt

operand_goes : (limit : ℕ) (n : Name) (l : Pos) (b : Bool) → b ≡ false → Allows 1 1 (operand_step limit [] (record { kind = kinds.Name n; pos = l }) (measured.Name n b))
unfolding operand_step
operand_goes limit n l true e = absurd cc
operand_goes limit n l false e = room_allows (has_room limit [] 1) [] (have_expr (t.name l n))

name_step : (limit : ℕ) (scope : Blocks) (n : Name) (l : Pos) → is_type_in scope n ≡ false → Allows 1 1 (step limit 0 scope [] operand (record { kind = kinds.Name n; pos = l }))
unfolding step
name_step limit scope n l e = operand_goes limit n l (is_type_in scope n) e

pub type_taken : (limit : ℕ) (scope : Blocks) (n : Name) (unit us ts : List Token) → EndsIn ts → (token_at ts 0).kind ≡ kinds.Name n → is_type_in scope n ≡ true → Local 1 1 0 (λ unit us ys. specifiers_read limit scope ys) unit us ts
type_taken limit scope n unit us ts ends k e = specifiers_by limit 1 1 scope unit us ts (omega arith) ends (subst (λ x. Allows 1 1 (step limit 0 scope [] (specifiers (nothing_listed true)) (record { kind = x; pos = (token_at ts 0).pos }))) (sym k) (type_step limit scope n (token_at ts 0).pos e))

pub name_taken : (limit : ℕ) (scope : Blocks) (n : Name) (unit us ts : List Token) → EndsIn ts → (token_at ts 0).kind ≡ kinds.Name n → is_type_in scope n ≡ false → Local 1 1 0 (λ unit us ys. expr_read limit 0 scope ys) unit us ts
name_taken limit scope n unit us ts ends k e = expr_by limit 1 0 scope unit us ts (omega arith) ends (subst (λ x. Allows 1 1 (step limit 0 scope [] operand (record { kind = x; pos = (token_at ts 0).pos }))) (sym k) (name_step limit scope n (token_at ts 0).pos e))
