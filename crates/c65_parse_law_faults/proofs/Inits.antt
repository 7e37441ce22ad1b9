-- Initialisers and the expressions of statements.
use Rattle.std.proofs.Common.{◌≡◌, ℕ, zero, suc, ◌+◌, ◌≤◌, List, [], ◌∷◌, length, Bool, true, false, refl, ap, arith}
use Rattle.std.specs.Prelude.{Ok, Err, if◌then◌else◌, nat_le, ◌-◌, None, Some}
use Rattle.c65_base.specs.Answers.{large, ◌>>=◌}
use Rattle.c65_base.specs.declared.refusal.Size.TheVariants.{Depth}
use Rattle.c65_scan.specs.declared.token.Token.{Token}
use Rattle.c65_tree.specs.Trees as t
use Rattle.c65_parse_names.specs.Scopes.{Blocks}
use Rattle.c65_parse.specs.Reading.{token_at, after_token, expr_read}
use Rattle.c65_parse_frames.specs.declared.sign.Sign.TheVariants as signs
use Rattle.c65_parse_frames.specs.declared.sign.Mark.{Mark}
use Rattle.c65_parse_frames.specs.declared.sign.Mark.TheVariants as marks
use Rattle.c65_parse_frames.specs.Signs.{sign_of, is_mark}
use Rattle.c65_parse_frames.specs.Lists.{OpenList, Listed, listed_whole, listed_open, with_initialiser, empty_list}
use Rattle.c65_decl.specs.Here.{expected}
use Rattle.c65_decl.specs.Expressions.{test_read, case_read, ended_read, optional_read}
use Rattle.c65_decl.specs.Initialisers.{element_read, brace_passed, behind_comma, list_end, lists_next, lists_closed, initialiser_step, initialiser_next, initialiser_run, initialiser_read, optional_init_read}
use Rattle.c65_parse_law_sound.proofs.Got.{EndsIn, first_of_mark}
use Rattle.c65_parse_law_faults.proofs.Local.{Reader, Triple, Local, done, too_deep, alike, by_first, local_if, if_first, past}
use Rattle.c65_parse_law_faults.proofs.Seq.{seq, seq_mark, tail, tailed, all_steps}
use Rattle.c65_parse_law_faults.proofs.Runs.{expr_local}

-- whether this mark is the first token
abbrev pub marks_it : Mark → Token → Bool
marks_it mark x = is_mark mark (sign_of x.kind)

-- where a mark is the first token, it is taken
pub taken_mark : {A : Type 0} (c d m n : ℕ) (mark : Mark) (inner : Reader (Triple A)) (unit us ts : List Token) → d ≤ 1 + c → n ≤ 1 + m → is_mark mark signs.End ≡ false → marks_it mark (token_at ts 0) ≡ true → EndsIn ts → ((rest : List Token) → EndsIn rest → suc (length rest) ≤ length ts → Local c m 0 inner unit us rest)
    → Local d n 0 (λ unit us ys. inner unit us (after_token ys)) unit us ts
taken_mark c d m n mark inner unit us ts low up not e ends f =
    let first = first_of_mark mark ts not e ends in
    past c d m n 0 0 inner unit us ts low up (omega arith) first (f first.rest first.ends (let long = ap length first.tokens_are in omega (arith, long)))

pub past_mark : {A : Type 0} (c m n : ℕ) (mark : Mark) (inner : Reader (Triple A)) (unit us ts : List Token) → n ≤ 1 + m → is_mark mark signs.End ≡ false → marks_it mark (token_at ts 0) ≡ true → EndsIn ts → ((rest : List Token) → EndsIn rest → suc (length rest) ≤ length ts → Local c m 0 inner unit us rest)
    → Local 0 n 0 (λ unit us ys. inner unit us (after_token ys)) unit us ts
past_mark c m n mark inner unit us ts up not e ends f = taken_mark c 0 m n mark inner unit us ts (omega arith) up not e ends f

-- in parentheses
pub test_local : (limit : ℕ) (scope : Blocks) (unit us ts : List Token) → EndsIn ts → Local 0 1 0 (λ unit us ys. test_read limit scope ys) unit us ts
test_local limit scope unit us ts ends = seq_mark 0 1 1 marks.OpenParen scope (λ a. expr_read limit 0 a.1 a.0 >>= (λ e. expected marks.CloseParen e.2 e.1 >>= (λ b. Ok (e.0, b.0, b.1)))) unit us ts refl (omega arith) ends
    (λ rest left. seq 0 0 1 0 1 0 0 (λ unit us ys. expr_read limit 0 scope ys) (λ unit us e. expected marks.CloseParen e.2 e.1 >>= (λ b. Ok (e.0, b.0, b.1))) unit us rest (omega arith) (omega arith) (omega arith) left (expr_local limit 0 scope unit us rest left)
    (λ e inner more last short. seq_mark 0 0 0 marks.CloseParen inner (λ b. Ok (e, b.0, b.1)) unit us more refl (omega arith) last (λ all none. done 0 0 e inner unit us all none)))

pub case_local : (limit : ℕ) (scope : Blocks) (unit us ts : List Token) → EndsIn ts → Local 0 1 0 (λ unit us ys. case_read limit scope ys) unit us ts
case_local limit scope unit us ts ends = seq 0 0 1 0 1 0 0 (λ unit us ys. expr_read limit 2 scope ys) (λ unit us e. expected marks.Colon e.2 e.1 >>= (λ b. Ok (e.0, b.0, b.1))) unit us ts (omega arith) (omega arith) (omega arith) ends (expr_local limit 2 scope unit us ts ends)
    (λ e inner more last short. seq_mark 0 0 0 marks.Colon inner (λ b. Ok (e, b.0, b.1)) unit us more refl (omega arith) last (λ all none. done 0 0 e inner unit us all none))

ended_by : (limit : ℕ) (c : ℕ) (mark : Mark) (scope : Blocks) (unit us ts : List Token) → is_mark mark signs.End ≡ false → EndsIn ts → c ≤ 1 → Local c 1 0 (λ unit us ys. expr_read limit 0 scope ys) unit us ts → Local c 1 0 (λ unit us ys. ended_read limit mark scope ys) unit us ts
ended_by limit c mark scope unit us ts not ends low h = seq c 0 1 0 1 0 0 (λ unit us ys. expr_read limit 0 scope ys) (λ unit us e. expected mark e.2 e.1 >>= (λ b. Ok (Some e.0, b.0, b.1))) unit us ts (omega arith) (omega (arith, low)) (omega arith) ends h
    (λ e inner more last short. seq_mark 0 0 0 mark inner (λ b. Ok (Some e, b.0, b.1)) unit us more not (omega arith) last (λ all none. done 0 0 (Some e) inner unit us all none))

-- an expression or nothing, and what ends it; where it is no expression nothing fails
pub optional_by : (limit : ℕ) (c : ℕ) (mark : Mark) (scope : Blocks) (unit us ts : List Token) → is_mark mark signs.End ≡ false → EndsIn ts → c ≤ 1 → Local c 1 0 (λ unit us ys. expr_read limit 0 scope ys) unit us ts → (marks_it mark (token_at ts 0) ≡ true → c ≤ 0) → Local c 1 0 (λ unit us ys. optional_read limit mark scope ys) unit us ts
optional_by limit zero mark scope unit us ts not ends low h f = if_first 0 1 0 (marks_it mark) (λ unit us ys. Ok (None, after_token ys, scope)) (λ unit us ys. ended_read limit mark scope ys) unit us ts
    (λ e. past_mark 0 0 1 mark (λ unit us ys. Ok (None, ys, scope)) unit us ts (omega arith) not e ends (λ rest left short. done 0 0 None scope unit us rest left))
    (λ e. ended_by limit 0 mark scope unit us ts not ends low h)
optional_by limit (suc c) mark scope unit us ts not ends low h f = if_first (suc c) 1 0 (marks_it mark) (λ unit us ys. Ok (None, after_token ys, scope)) (λ unit us ys. ended_read limit mark scope ys) unit us ts
    (λ e. let no = f e in absurd (omega (arith, no)))
    (λ e. ended_by limit (suc c) mark scope unit us ts not ends low h)

pub optional_local : (limit : ℕ) (mark : Mark) (scope : Blocks) (unit us ts : List Token) → is_mark mark signs.End ≡ false → EndsIn ts → Local 0 1 0 (λ unit us ys. optional_read limit mark scope ys) unit us ts
optional_local limit mark scope unit us ts not ends = optional_by limit 0 mark scope unit us ts not ends (omega arith) (expr_local limit 0 scope unit us ts ends) (λ e. omega arith)

-- an element of a list
element_local : (limit : ℕ) (around : ℕ) (scope : Blocks) (unit us ts : List Token) → EndsIn ts → Local 0 1 0 (λ unit us ys. element_read limit around scope ys) unit us ts
element_local limit around scope unit us ts ends = expr_local (limit - around) 1 scope unit us ts ends

-- the end of a list
brace_local : (scope : Blocks) (unit us ts : List Token) → EndsIn ts → Local 0 1 0 (λ unit us ys. brace_passed scope ys) unit us ts
brace_local scope unit us ts ends = seq_mark 0 0 1 marks.CloseBrace scope (λ a. Ok (true, a.0, a.1)) unit us ts refl (omega arith) ends (λ rest left. done 0 0 true scope unit us rest left)

comma_local : (scope : Blocks) (unit us ts : List Token) → EndsIn ts → Local 0 0 0 (λ unit us ys. behind_comma scope ys) unit us ts
comma_local scope unit us ts ends = if_first 0 0 0 (marks_it marks.CloseBrace) (λ unit us ys. brace_passed scope ys) (λ unit us ys. Ok (false, ys, scope)) unit us ts
    (λ e. seq_mark 0 0 0 marks.CloseBrace scope (λ a. Ok (true, a.0, a.1)) unit us ts refl (omega arith) ends (λ rest left. done 0 0 true scope unit us rest left))
    (λ e. done 0 0 false scope unit us ts ends)

end_local : (scope : Blocks) (unit us ts : List Token) → EndsIn ts → Local 0 1 0 (λ unit us ys. list_end scope ys) unit us ts
end_local scope unit us ts ends = if_first 0 1 0 (marks_it marks.Comma) (λ unit us ys. behind_comma scope (after_token ys)) (λ unit us ys. brace_passed scope ys) unit us ts
    (λ e. past_mark 0 0 1 marks.Comma (λ unit us ys. behind_comma scope ys) unit us ts (omega arith) refl e ends (λ rest left short. comma_local scope unit us rest left))
    (λ e. brace_local scope unit us ts ends)

next_local : (l : OpenList) (ls : List OpenList) (b : Bool) (scope : Blocks) (unit us ts : List Token) → EndsIn ts → ((i : t.InitTree) → Local 0 0 0 (λ unit us ys. lists_closed ls i scope ys) unit us ts) → Local 0 0 0 (λ unit us ys. lists_next (lists_closed ls) l ls (b, ys, scope)) unit us ts
next_local l ls true scope unit us ts ends f = f (t.list l.place l.inits)
next_local l ls false scope unit us ts ends f = done 0 0 (listed_open (l ∷ ls)) scope unit us ts ends

closed_local : (ls : List OpenList) (i : t.InitTree) (scope : Blocks) (unit us ts : List Token) → EndsIn ts → Local 0 0 0 (λ unit us ys. lists_closed ls i scope ys) unit us ts
closed_local [] i scope unit us ts ends = done 0 0 (listed_whole i) scope unit us ts ends
closed_local (l ∷ ls) i scope unit us ts ends = seq 0 0 1 0 0 0 0 (λ unit us ys. list_end scope ys) (λ unit us. lists_next (lists_closed ls) (with_initialiser l i) ls) unit us ts (omega arith) (omega arith) (omega arith) ends (end_local scope unit us ts ends)
    (λ b inner rest left short. next_local (with_initialiser l i) ls b inner unit us rest left (λ j. closed_local ls j inner unit us rest left))

begun_local : (limit : ℕ) (ls : List OpenList) (scope : Blocks) (x : Token) (unit us ts : List Token) → marks_it marks.OpenBrace (token_at ts 0) ≡ true → EndsIn ts → Local 0 1 0 (λ unit us ys. if nat_le (length ls + 2) limit then Ok (listed_open (empty_list x.pos ∷ ls), after_token ys, scope) else Err (large Depth 257)) unit us ts
begun_local limit ls scope x unit us ts e ends = local_if 0 1 0 (nat_le (length ls + 2) limit) (λ unit us ys. Ok (listed_open (empty_list x.pos ∷ ls), after_token ys, scope)) (λ unit us ys. Err (large Depth 257)) unit us ts
    (λ h. past_mark 0 0 1 marks.OpenBrace (λ unit us ys. Ok (listed_open (empty_list x.pos ∷ ls), ys, scope)) unit us ts (omega arith) refl e ends (λ rest left short. done 0 0 (listed_open (empty_list x.pos ∷ ls)) scope unit us rest left))
    (λ h. too_deep 0 1 0 unit us ts ends)

init_step : (limit : ℕ) (ls : List OpenList) (scope : Blocks) (unit us ts : List Token) → EndsIn ts → Local 0 1 0 (λ unit us ys. initialiser_step limit ls scope ys) unit us ts
init_step limit ls scope unit us ts ends = by_first 0 1 0 (λ x unit us ys. if marks_it marks.OpenBrace x then (if nat_le (length ls + 2) limit then Ok (listed_open (empty_list x.pos ∷ ls), after_token ys, scope) else Err (large Depth 257)) else (element_read limit (length ls) scope ys >>= (λ e. lists_closed ls (t.value x.pos e.0) e.2 e.1))) unit us ts
    (local_if 0 1 0 (marks_it marks.OpenBrace (token_at ts 0)) (λ unit us ys. if nat_le (length ls + 2) limit then Ok (listed_open (empty_list (token_at ts 0).pos ∷ ls), after_token ys, scope) else Err (large Depth 257)) (λ unit us ys. element_read limit (length ls) scope ys >>= (λ e. lists_closed ls (t.value (token_at ts 0).pos e.0) e.2 e.1)) unit us ts
    (λ e. begun_local limit ls scope (token_at ts 0) unit us ts e ends)
    (λ e. seq 0 0 1 0 1 0 0 (λ unit us ys. element_read limit (length ls) scope ys) (λ unit us e. lists_closed ls (t.value (token_at ts 0).pos e.0) e.2 e.1) unit us ts (omega arith) (omega arith) (omega arith) ends (element_local limit (length ls) scope unit us ts ends)
    (λ v inner rest left short. closed_local ls (t.value (token_at ts 0).pos v) inner unit us rest left)))

-- a step is left where there are tokens
unrolled : (limit : ℕ) (ls : List OpenList) (scope : Blocks) (unit us ys : List Token) → 0 + 1 ≤ length us → initialiser_run limit us ls scope ys ≡ (initialiser_step limit ls scope ys >>= initialiser_next (initialiser_run limit (tail us)))
unrolled limit ls scope unit [] ys h = absurd (omega (arith, h))
unrolled limit ls scope unit (u ∷ us) ys h = refl

init_next : (limit : ℕ) (r : Listed) (scope : Blocks) (unit : List Token) (u : Token) (us ts : List Token) → EndsIn ts → ((ls : List OpenList) → Local 0 0 0 (λ unit us ys. initialiser_run limit us ls scope ys) unit us ts) → Local 0 0 1 (λ unit us ys. initialiser_next (initialiser_run limit (tail us)) (r, ys, scope)) unit (u ∷ us) ts
init_next limit (listed_whole i) scope unit u us ts ends f = done 0 1 i scope unit (u ∷ us) ts ends
init_next limit (listed_open ls) scope unit u us ts ends f = tailed 0 0 (λ unit us ys. initialiser_run limit us ls scope ys) unit u us ts (f ls)

init_run : (limit : ℕ) (us : List Token) (ls : List OpenList) (scope : Blocks) (unit ts : List Token) → EndsIn ts → length ts ≤ length us → Local 0 0 0 (λ unit us ys. initialiser_run limit us ls scope ys) unit us ts
init_run limit us ls scope unit [] ends enough = absurd ends
init_run limit [] ls scope unit (t ∷ ts) ends enough = absurd (omega (arith, enough))
init_run limit (u ∷ us) ls scope unit (t ∷ ts) ends enough = alike 0 0 0 (λ unit us ys. initialiser_step limit ls scope ys >>= initialiser_next (initialiser_run limit (tail us))) (λ unit us ys. initialiser_run limit us ls scope ys) (t ∷ ts) (initialiser_run limit (u ∷ us) ls scope (t ∷ ts)) (unrolled limit ls scope)
    (seq 0 0 1 0 0 0 1 (λ unit us ys. initialiser_step limit ls scope ys) (λ unit us. initialiser_next (initialiser_run limit (tail us))) unit (u ∷ us) (t ∷ ts) (omega arith) (omega arith) (omega arith) ends (init_step limit ls scope unit (u ∷ us) (t ∷ ts) ends)
    (λ r inner rest left short. init_next limit r inner unit u us rest left (λ more. init_run limit us more inner unit rest left (omega (arith, enough, short)))))

pub init_local : (limit : ℕ) (scope : Blocks) (unit us ts : List Token) → EndsIn ts → length ts ≤ length unit → Local 0 0 0 (λ unit us ys. initialiser_read limit unit scope ys) unit us ts
init_local limit scope unit us ts ends fit = all_steps 0 0 (λ unit us ys. initialiser_run limit us [] scope ys) unit us ts (init_run limit unit [] scope unit ts ends fit)

pub optional_init_local : (limit : ℕ) (scope : Blocks) (unit us ts : List Token) → EndsIn ts → length ts ≤ length unit → Local 0 0 0 (λ unit us ys. optional_init_read limit unit scope ys) unit us ts
optional_init_local limit scope unit us ts ends fit = if_first 0 0 0 (marks_it marks.Equal) (λ unit us ys. initialiser_read limit unit scope (after_token ys) >>= (λ i. Ok (Some i.0, i.1, i.2))) (λ unit us ys. Ok (None, ys, scope)) unit us ts
    (λ e. past_mark 0 0 0 marks.Equal (λ unit us ys. initialiser_read limit unit scope ys >>= (λ i. Ok (Some i.0, i.1, i.2))) unit us ts (omega arith) refl e ends
    (λ rest left short. seq 0 0 0 0 0 0 0 (λ unit us ys. initialiser_read limit unit scope ys) (λ unit us i. Ok (Some i.0, i.1, i.2)) unit us rest (omega arith) (omega arith) (omega arith) left (init_local limit scope unit us rest left (omega (arith, fit, short)))
    (λ i inner last none less. done 0 0 (Some i) inner unit us last none)))
    (λ e. done 0 0 None scope unit us ts ends)
