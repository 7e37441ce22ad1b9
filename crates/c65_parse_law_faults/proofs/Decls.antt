-- Declarations.
use Rattle.std.proofs.Common.{◌≡◌, ℕ, ◌+◌, ◌≤◌, List, [], ◌∷◌, length, Bool, true, refl, arith}
use Rattle.std.specs.Prelude.{Ok, if◌then◌else◌, ◌||◌}
use Rattle.c65_base.specs.Answers.{◌>>=◌}
use Rattle.c65_scan.specs.declared.token.Token.{Token}
use Rattle.c65_tree.specs.Trees as t
use Rattle.c65_parse_names.specs.Scopes.{Blocks}
use Rattle.c65_parse.specs.declared.frame.Sort.TheVariants as sorts
use Rattle.c65_parse.specs.Reading.{Answer, token_at, after_token, specifiers_read, declarator_read}
use Rattle.c65_parse_frames.specs.declared.sign.Mark.TheVariants as marks
use Rattle.c65_parse_frames.specs.Signs.{sign_of}
use Rattle.c65_decl.specs.declared.names.Naming.{Naming}
use Rattle.c65_decl.specs.Words.{name_of, is_specifier}
use Rattle.c65_decl.specs.Here.{names_type}
use Rattle.c65_decl.specs.Declaring.{naming_of, declared_maybe, named_read}
use Rattle.c65_decl.specs.Initialisers.{optional_init_read}
use Rattle.c65_decl.specs.Decls.{Progress, all_declared, more_declared, with_declarator, last_declarator, next_declarator, behind_declarator, declarators_step, declarators_next, declarators_run, declarators_read, declaration_from, empty_declaration, declarators_begun, behind_specifiers, declaration_read, with_decl, declarations_run, declarations_read}
use Rattle.c65_parse_grammar.specs.Parts.{declared_name}
use Rattle.c65_parse_law_sound.proofs.Got.{EndsIn}
use Rattle.c65_parse_law_faults.proofs.Local.{Local, done, alike, if_first}
use Rattle.c65_parse_law_faults.proofs.Seq.{seq, seq_mark, tail, tailed, all_steps}
use Rattle.c65_parse_law_faults.proofs.Runs.{specifiers_local, named_local}
use Rattle.c65_parse_law_faults.proofs.Inits.{marks_it, past_mark, optional_init_local}

pub named_read_local : (limit : ℕ) (naming : Naming) (scope : Blocks) (unit us ts : List Token) → EndsIn ts → Local 0 1 0 (λ unit us ys. named_read limit naming scope ys) unit us ts
named_read_local limit naming scope unit us ts ends = seq 0 0 1 0 1 0 0 (λ unit us ys. declarator_read limit (sorts.Named naming.has_type) scope ys) (λ unit us d. Ok (d.0, d.1, declared_maybe (declared_name d.0) naming.makes_types d.2)) unit us ts (omega arith) (omega arith) (omega arith) ends (named_local limit naming.has_type scope unit us ts ends)
    (λ d inner rest left short. done 0 0 d (declared_maybe (declared_name d) naming.makes_types inner) unit us rest left)

last_local : (ds : List t.InitDeclaratorTree) (scope : Blocks) (unit us ts : List Token) → EndsIn ts → Local 0 1 0 (λ unit us ys. last_declarator ds scope ys) unit us ts
last_local ds scope unit us ts ends = seq_mark 0 0 1 marks.Semicolon scope (λ a. Ok (all_declared ds, a.0, a.1)) unit us ts refl (omega arith) ends (λ rest left. done 0 0 (all_declared ds) scope unit us rest left)

next_local : (limit : ℕ) (naming : Naming) (ds : List t.InitDeclaratorTree) (scope : Blocks) (unit us ts : List Token) → EndsIn ts → Local 0 1 0 (λ unit us ys. next_declarator limit naming ds scope ys) unit us ts
next_local limit naming ds scope unit us ts ends = seq 0 0 1 0 1 0 0 (λ unit us ys. named_read limit naming scope ys) (λ unit us e. Ok (more_declared ds e.0, e.1, e.2)) unit us ts (omega arith) (omega arith) (omega arith) ends (named_read_local limit naming scope unit us ts ends)
    (λ e inner rest left short. done 0 0 (more_declared ds e) inner unit us rest left)

behind_local : (limit : ℕ) (naming : Naming) (ds : List t.InitDeclaratorTree) (scope : Blocks) (unit us ts : List Token) → EndsIn ts → Local 0 1 0 (λ unit us ys. behind_declarator limit naming ds scope ys) unit us ts
behind_local limit naming ds scope unit us ts ends = if_first 0 1 0 (marks_it marks.Comma) (λ unit us ys. next_declarator limit naming ds scope (after_token ys)) (λ unit us ys. last_declarator ds scope ys) unit us ts
    (λ e. past_mark 0 1 1 marks.Comma (λ unit us ys. next_declarator limit naming ds scope ys) unit us ts (omega arith) refl e ends (λ rest left short. next_local limit naming ds scope unit us rest left))
    (λ e. last_local ds scope unit us ts ends)

step_local : (limit : ℕ) (naming : Naming) (ds : List t.InitDeclaratorTree) (e : t.DeclaratorTree) (scope : Blocks) (unit us ts : List Token) → EndsIn ts → length ts ≤ length unit → Local 0 1 0 (λ unit us ys. declarators_step limit unit naming ds e scope ys) unit us ts
step_local limit naming ds e scope unit us ts ends fit = seq 0 0 0 1 1 0 0 (λ unit us ys. optional_init_read limit unit scope ys) (λ unit us i. behind_declarator limit naming (with_declarator ds e i.0) i.2 i.1) unit us ts (omega arith) (omega arith) (omega arith) ends (optional_init_local limit scope unit us ts ends fit)
    (λ i inner rest left short. behind_local limit naming (with_declarator ds e i) inner unit us rest left)

unrolled : (limit : ℕ) (naming : Naming) (ds : List t.InitDeclaratorTree) (e : t.DeclaratorTree) (scope : Blocks) (unit us ys : List Token) → 0 + 1 ≤ length us → declarators_run limit unit naming us ds e scope ys ≡ (declarators_step limit unit naming ds e scope ys >>= declarators_next (declarators_run limit unit naming (tail us)))
unrolled limit naming ds e scope unit [] ys h = absurd (omega (arith, h))
unrolled limit naming ds e scope unit (u ∷ us) ys h = refl

more_local : (limit : ℕ) (naming : Naming) (r : Progress) (scope : Blocks) (unit : List Token) (u : Token) (us ts : List Token) → EndsIn ts → ((ds : List t.InitDeclaratorTree) (e : t.DeclaratorTree) → Local 0 0 0 (λ unit us ys. declarators_run limit unit naming us ds e scope ys) unit us ts) → Local 0 0 1 (λ unit us ys. declarators_next (declarators_run limit unit naming (tail us)) (r, ys, scope)) unit (u ∷ us) ts
more_local limit naming (all_declared ds) scope unit u us ts ends f = done 0 1 ds scope unit (u ∷ us) ts ends
more_local limit naming (more_declared ds e) scope unit u us ts ends f = tailed 0 0 (λ unit us ys. declarators_run limit unit naming us ds e scope ys) unit u us ts (f ds e)

run_local : (limit : ℕ) (naming : Naming) (us : List Token) (ds : List t.InitDeclaratorTree) (e : t.DeclaratorTree) (scope : Blocks) (unit ts : List Token) → EndsIn ts → length ts ≤ length us → length ts ≤ length unit → Local 0 0 0 (λ unit us ys. declarators_run limit unit naming us ds e scope ys) unit us ts
run_local limit naming us ds e scope unit [] ends enough fit = absurd ends
run_local limit naming [] ds e scope unit (t ∷ ts) ends enough fit = absurd (omega (arith, enough))
run_local limit naming (u ∷ us) ds e scope unit (t ∷ ts) ends enough fit = alike 0 0 0 (λ unit us ys. declarators_step limit unit naming ds e scope ys >>= declarators_next (declarators_run limit unit naming (tail us))) (λ unit us ys. declarators_run limit unit naming us ds e scope ys) (t ∷ ts) (declarators_run limit unit naming (u ∷ us) ds e scope (t ∷ ts)) (unrolled limit naming ds e scope)
    (seq 0 0 1 0 0 0 1 (λ unit us ys. declarators_step limit unit naming ds e scope ys) (λ unit us. declarators_next (declarators_run limit unit naming (tail us))) unit (u ∷ us) (t ∷ ts) (omega arith) (omega arith) (omega arith) ends (step_local limit naming ds e scope unit (u ∷ us) (t ∷ ts) ends fit)
    (λ r inner rest left short. more_local limit naming r inner unit u us rest left (λ more d. run_local limit naming us more d inner unit rest left (omega (arith, enough, short)) (omega (arith, fit, short)))))

pub from_local : (limit : ℕ) (q : t.SpecifiersTree) (first : t.DeclaratorTree) (scope : Blocks) (unit us ts : List Token) → EndsIn ts → length ts ≤ length unit → Local 0 0 0 (λ unit us ys. declaration_from limit unit q first scope ys) unit us ts
from_local limit q first scope unit us ts ends fit = seq 0 0 0 0 0 0 0 (λ unit us ys. declarators_read limit unit (naming_of q) first scope ys) (λ unit us ds. Ok (record { specifiers = q; declarators = ds.0 }, ds.1, ds.2)) unit us ts (omega arith) (omega arith) (omega arith) ends
    (all_steps 0 0 (λ unit us ys. declarators_run limit unit (naming_of q) us [] first scope ys) unit us ts (run_local limit (naming_of q) unit [] first scope unit ts ends fit fit))
    (λ ds inner rest left short. done 0 0 (record { specifiers = q; declarators = ds }) inner unit us rest left)

begun_local : (limit : ℕ) (q : t.SpecifiersTree) (scope : Blocks) (unit us ts : List Token) → EndsIn ts → length ts ≤ length unit → Local 0 1 0 (λ unit us ys. declarators_begun limit unit q scope ys) unit us ts
begun_local limit q scope unit us ts ends fit = seq 0 0 1 0 1 0 0 (λ unit us ys. named_read limit (naming_of q) scope ys) (λ unit us e. declaration_from limit unit q e.0 e.2 e.1) unit us ts (omega arith) (omega arith) (omega arith) ends (named_read_local limit (naming_of q) scope unit us ts ends)
    (λ e inner rest left short. from_local limit q e inner unit us rest left (omega (arith, fit, short)))

pub empty_local : (q : t.SpecifiersTree) (scope : Blocks) (unit us ts : List Token) → marks_it marks.Semicolon (token_at ts 0) ≡ true → EndsIn ts → Local 0 1 0 (λ unit us ys. Ok (empty_declaration q scope ys)) unit us ts
empty_local q scope unit us ts e ends = past_mark 0 0 1 marks.Semicolon (λ unit us ys. Ok (record { specifiers = q; declarators = [] }, ys, scope)) unit us ts (omega arith) refl e ends (λ rest left short. done 0 0 (record { specifiers = q; declarators = [] }) scope unit us rest left)

specified_local : (limit : ℕ) (q : t.SpecifiersTree) (scope : Blocks) (unit us ts : List Token) → EndsIn ts → length ts ≤ length unit → Local 0 1 0 (λ unit us ys. behind_specifiers limit unit q scope ys) unit us ts
specified_local limit q scope unit us ts ends fit = if_first 0 1 0 (marks_it marks.Semicolon) (λ unit us ys. Ok (empty_declaration q scope ys)) (λ unit us ys. declarators_begun limit unit q scope ys) unit us ts
    (λ e. empty_local q scope unit us ts e ends)
    (λ e. begun_local limit q scope unit us ts ends fit)

-- where specifiers are taken as they are known to be
pub declaration_by : (limit : ℕ) (c m : ℕ) (scope : Blocks) (unit us ts : List Token) → EndsIn ts → length ts ≤ length unit → c ≤ m → Local c m 0 (λ unit us ys. specifiers_read limit scope ys) unit us ts → Local c 1 0 (λ unit us ys. declaration_read limit unit scope ys) unit us ts
declaration_by limit c m scope unit us ts ends fit low h = seq c 0 m 1 1 0 0 (λ unit us ys. specifiers_read limit scope ys) (λ unit us q. behind_specifiers limit unit q.0 q.2 q.1) unit us ts (omega arith) (omega (arith, low)) (omega arith) ends h
    (λ q inner rest left short. specified_local limit q inner unit us rest left (omega (arith, fit, short)))

pub declaration_local : (limit : ℕ) (scope : Blocks) (unit us ts : List Token) → EndsIn ts → length ts ≤ length unit → Local 0 1 0 (λ unit us ys. declaration_read limit unit scope ys) unit us ts
declaration_local limit scope unit us ts ends fit = declaration_by limit 0 0 scope unit us ts ends fit (omega arith) (specifiers_local limit scope unit us ts ends)

-- the declarations of old-style parameters
abbrev begins_it : Blocks → Token → Bool
begins_it scope x = is_specifier (sign_of x.kind) || names_type scope (name_of (sign_of x.kind))

abbrev again_read : (limit : ℕ) → List t.DeclTree → Blocks → List Token → List Token → List Token → Answer (List t.DeclTree)
again_read limit ds scope unit us ys = declaration_read limit unit scope ys >>= (λ e. declarations_run limit unit (tail us) (with_decl ds e.0) e.2 e.1)

ones_unrolled : (limit : ℕ) (ds : List t.DeclTree) (scope : Blocks) (unit us ys : List Token) → 0 + 1 ≤ length us → declarations_run limit unit us ds scope ys ≡ (if begins_it scope (token_at ys 0) then again_read limit ds scope unit us ys else Ok (ds, ys, scope))
ones_unrolled limit ds scope unit [] ys h = absurd (omega (arith, h))
ones_unrolled limit ds scope unit (u ∷ us) ys h = refl

ones_local : (limit : ℕ) (us : List Token) (ds : List t.DeclTree) (scope : Blocks) (unit ts : List Token) → EndsIn ts → length ts ≤ length us → length ts ≤ length unit → Local 0 0 0 (λ unit us ys. declarations_run limit unit us ds scope ys) unit us ts
ones_local limit us ds scope unit [] ends enough fit = absurd ends
ones_local limit [] ds scope unit (t ∷ ts) ends enough fit = absurd (omega (arith, enough))
ones_local limit (u ∷ us) ds scope unit (t ∷ ts) ends enough fit = alike 0 0 0 (λ unit us ys. if begins_it scope (token_at ys 0) then again_read limit ds scope unit us ys else Ok (ds, ys, scope)) (λ unit us ys. declarations_run limit unit us ds scope ys) (t ∷ ts) (declarations_run limit unit (u ∷ us) ds scope (t ∷ ts)) (ones_unrolled limit ds scope)
    (if_first 0 0 0 (begins_it scope) (again_read limit ds scope) (λ unit us ys. Ok (ds, ys, scope)) unit (u ∷ us) (t ∷ ts)
    (λ e. seq 0 0 1 0 0 0 1 (λ unit us ys. declaration_read limit unit scope ys) (λ unit us e. declarations_run limit unit (tail us) (with_decl ds e.0) e.2 e.1) unit (u ∷ us) (t ∷ ts) (omega arith) (omega arith) (omega arith) ends (declaration_local limit scope unit (u ∷ us) (t ∷ ts) ends fit)
    (λ d inner rest left short. tailed 0 0 (λ unit us ys. declarations_run limit unit us (with_decl ds d) inner ys) unit u us rest (ones_local limit us (with_decl ds d) inner unit rest left (omega (arith, enough, short)) (omega (arith, fit, short)))))
    (λ e. done 0 0 ds scope unit (u ∷ us) (t ∷ ts) ends))

pub declarations_local : (limit : ℕ) (scope : Blocks) (unit us ts : List Token) → EndsIn ts → length ts ≤ length unit → Local 0 0 0 (λ unit us ys. declarations_read limit unit scope ys) unit us ts
declarations_local limit scope unit us ts ends fit = all_steps 0 0 (λ unit us ys. declarations_run limit unit us [] scope ys) unit us ts (ones_local limit unit [] scope unit ts ends fit fit)
