-- Function definitions and units (C90 6.7).
use Rattle.std.proofs.Common.{◌≡◌, ℕ, ◌+◌, ◌≤◌, List, [], ◌∷◌, ◌++◌, length, length-append, Bool, true, false, refl, sym, ap, ◌∙◌, subst, arith}
use Rattle.std.proofs.lemmas.Bool.{ne_eqb}
use Rattle.std.specs.Prelude.{Result, Ok, Err, if◌then◌else◌, ◌&&◌, not}
use Rattle.c65_base.specs.Answers.{Fault, ◌>>=◌}
use Rattle.c65_scan.specs.declared.token.Token.{Token}
use Rattle.c65_tree.specs.Trees as t
use Rattle.c65_parse_names.specs.Scopes.{Blocks, opened, closed}
use Rattle.c65_parse_names.specs.Blocks.{no_types}
use Rattle.c65_parse.specs.Machine.{nothing_there}
use Rattle.c65_parse.specs.Reading.{Answer, token_at, specifiers_read}
use Rattle.c65_parse_frames.specs.declared.sign.Mark.TheVariants as marks
use Rattle.c65_parse_frames.specs.Signs.{sign_of}
use Rattle.c65_decl.specs.Words.{goes_on}
use Rattle.c65_decl.specs.Here.{unexpected}
use Rattle.c65_decl.specs.Declaring.{naming_of, named_read, in_function}
use Rattle.c65_decl.specs.Decls.{declaration_from, declarations_read}
use Rattle.c65_decl.specs.Statements.{statement_read}
use Rattle.c65_decl.specs.Units.{body_read, body_needed, function_read, declaration_item, function_item, item_from, empty_item, declared_item, behind_specifiers, item_read, with_item, items_next, items_run, items_read, whole_unit, unit_read}
use Rattle.c65_parse_grammar.specs.Parts.{is_empty}
use Rattle.c65_parse_law_sound.proofs.Phrases.{false_true}
use Rattle.c65_parse_law_sound.proofs.Got.{EndsIn}
use Rattle.c65_parse_law_faults.proofs.Local.{Reader, Triple, Failed, Went, Is, Local, front_here, done, fails, if_first}
use Rattle.c65_parse_law_faults.proofs.Seq.{seq, joined_fail, failed_first, rest_ends, rest_short, tail}
use Rattle.c65_parse_law_faults.proofs.Runs.{specifiers_local}
use Rattle.c65_parse_law_faults.proofs.Inits.{marks_it, past_mark}
use Rattle.c65_parse_law_faults.proofs.Decls.{named_read_local, from_local, declarations_local}
use Rattle.c65_parse_law_faults.proofs.Stmts.{statement_local}

body_local : (limit : ℕ) (q : t.SpecifiersTree) (d : t.DeclaratorTree) (ds : List t.DeclTree) (scope : Blocks) (unit us ts : List Token) → EndsIn ts → length ts ≤ length unit → Local 0 0 0 (λ unit us ys. body_needed limit unit q d ds scope ys) unit us ts
body_local limit q d ds scope unit us ts ends fit = if_first 0 0 0 (marks_it marks.OpenBrace) (λ unit us ys. body_read limit unit q d ds scope ys) (λ unit us ys. unexpected ys) unit us ts
    (λ e. seq 0 0 0 0 0 0 0 (λ unit us ys. statement_read limit unit scope ys) (λ unit us s. Ok (record { specifiers = q; declarator = d; declarations = ds; body = s.0 }, s.1, closed s.2)) unit us ts (omega arith) (omega arith) (omega arith) ends (statement_local limit scope unit us ts ends fit)
    (λ s inner rest left short. done 0 0 (record { specifiers = q; declarator = d; declarations = ds; body = s }) (closed inner) unit us rest left))
    (λ e. fails 0 0 unit us ts ends)

function_local : (limit : ℕ) (q : t.SpecifiersTree) (d : t.DeclaratorTree) (scope : Blocks) (unit us ts : List Token) → EndsIn ts → length ts ≤ length unit → Local 0 0 0 (λ unit us ys. function_read limit unit q d scope ys) unit us ts
function_local limit q d scope unit us ts ends fit = seq 0 0 0 0 0 0 0 (λ unit us ys. declarations_read limit unit (in_function d (opened scope)) ys) (λ unit us ds. body_needed limit unit q d ds.0 ds.2 ds.1) unit us ts (omega arith) (omega arith) (omega arith) ends (declarations_local limit (in_function d (opened scope)) unit us ts ends fit)
    (λ ds inner rest left short. body_local limit q d ds inner unit us rest left (omega (arith, fit, short)))

from_item_local : (limit : ℕ) (q : t.SpecifiersTree) (d : t.DeclaratorTree) (may_declare : Bool) (scope : Blocks) (unit us ts : List Token) → EndsIn ts → length ts ≤ length unit → Local 0 0 0 (λ unit us ys. item_from limit unit q d may_declare scope ys) unit us ts
from_item_local limit q d may_declare scope unit us ts ends fit = if_first 0 0 0 (λ x. may_declare && goes_on (sign_of x.kind)) (λ unit us ys. declaration_item limit unit q d scope ys) (λ unit us ys. function_item limit unit q d scope ys) unit us ts
    (λ e. seq 0 0 0 0 0 0 0 (λ unit us ys. declaration_from limit unit q d scope ys) (λ unit us e. Ok (t.declaration e.0, e.1, e.2)) unit us ts (omega arith) (omega arith) (omega arith) ends (from_local limit q d scope unit us ts ends fit)
    (λ e inner rest left short. done 0 0 (t.declaration e) inner unit us rest left))
    (λ e. seq 0 0 0 0 0 0 0 (λ unit us ys. function_read limit unit q d scope ys) (λ unit us f. Ok (t.definition f.0, f.1, f.2)) unit us ts (omega arith) (omega arith) (omega arith) ends (function_local limit q d scope unit us ts ends fit)
    (λ f inner rest left short. done 0 0 (t.definition f) inner unit us rest left))

declared_local : (limit : ℕ) (q : t.SpecifiersTree) (scope : Blocks) (unit us ts : List Token) → EndsIn ts → length ts ≤ length unit → Local 0 1 0 (λ unit us ys. declared_item limit unit q scope ys) unit us ts
declared_local limit q scope unit us ts ends fit = seq 0 0 1 0 1 0 0 (λ unit us ys. named_read limit (naming_of q) scope ys) (λ unit us d. item_from limit unit q d.0 (not (is_empty q)) d.2 d.1) unit us ts (omega arith) (omega arith) (omega arith) ends (named_read_local limit (naming_of q) scope unit us ts ends)
    (λ d inner rest left short. from_item_local limit q d (not (is_empty q)) inner unit us rest left (omega (arith, fit, short)))

both_true : (a b : Bool) → (a && b) ≡ true → b ≡ true
both_true true b h = h
both_true false b h = absurd (false_true h)

specified_local : (limit : ℕ) (q : t.SpecifiersTree) (scope : Blocks) (unit us ts : List Token) → EndsIn ts → length ts ≤ length unit → Local 0 1 0 (λ unit us ys. behind_specifiers limit unit q scope ys) unit us ts
specified_local limit q scope unit us ts ends fit = if_first 0 1 0 (λ x. not (is_empty q) && marks_it marks.Semicolon x) (λ unit us ys. empty_item q scope ys) (λ unit us ys. declared_item limit unit q scope ys) unit us ts
    (λ e. past_mark 0 0 1 marks.Semicolon (λ unit us ys. Ok (t.declaration (record { specifiers = q; declarators = [] }), ys, scope)) unit us ts (omega arith) refl (both_true (not (is_empty q)) (marks_it marks.Semicolon (token_at ts 0)) e) ends (λ rest left short. done 0 0 (t.declaration (record { specifiers = q; declarators = [] })) scope unit us rest left))
    (λ e. declared_local limit q scope unit us ts ends fit)

item_local : (limit : ℕ) (scope : Blocks) (unit us ts : List Token) → EndsIn ts → length ts ≤ length unit → Local 0 1 0 (λ unit us ys. item_read limit unit scope ys) unit us ts
item_local limit scope unit us ts ends fit = seq 0 0 0 1 1 0 0 (λ unit us ys. specifiers_read limit scope ys) (λ unit us q. behind_specifiers limit unit q.0 q.2 q.1) unit us ts (omega arith) (omega arith) (omega arith) ends (specifiers_local limit scope unit us ts ends)
    (λ q inner rest left short. specified_local limit q inner unit us rest left (omega (arith, fit, short)))

abbrev unit_of : List t.ItemTree → t.UnitTree
unit_of is = record { items = is }

-- the items of a unit: no tokens are left behind them
abbrev Fails : {A : Type 0} → ℕ → Reader A → List Token → Result A Fault → Type 0
Fails k read ts (Ok a) = Unit {0}
Fails k read ts (Err e) = Failed 0 k read ts e

fails_alike : {B : Type 0} (k : ℕ) (read other : Reader B) (ts : List Token) (r : Result B Fault) → ((unit us ys : List Token) → k + 1 ≤ length us → other unit us ys ≡ read unit us ys) → Fails k read ts r → Fails k other ts r
fails_alike k read other ts (Ok a) f h = tt
fails_alike k read other ts (Err e) f h = record { before = h.before; next = h.next; others = h.others; tokens_are = h.tokens_are; fault_is = h.fault_is; late = h.late; again = λ unit us more fit room. f unit us (h.before ++ h.next ∷ more) (let long = length-append h.before (h.next ∷ more) in omega (arith, room, long)) ∙ h.again unit us more fit room }

short : (us : List Token) (n : ℕ) → 1 + n ≤ length us → 0 + n ≤ length (tail us)
short [] n h = absurd (omega (arith, h))
short (u ∷ us) n h = omega (arith, h)

fails_tailed : {B : Type 0} (read : Reader B) (ts : List Token) (r : Result B Fault) → Fails 0 read ts r → Fails 1 (λ unit us ys. read unit (tail us) ys) ts r
fails_tailed read ts (Ok a) h = tt
fails_tailed read ts (Err e) h = record { before = h.before; next = h.next; others = h.others; tokens_are = h.tokens_are; fault_is = h.fault_is; late = h.late; again = λ unit us more fit room. h.again unit (tail us) more fit (short us (length (h.before ++ h.next ∷ more)) room) }

still : {B : Type 0} (k : ℕ) (test : Token → Bool) (a : B) (read : Reader B) (ts : List Token) (r : Result B Fault) → test (token_at ts 0) ≡ false → Fails k read ts r → Fails k (λ unit us ys. if test (token_at ys 0) then Ok a else read unit us ys) ts r
still k test a read ts (Ok x) e h = tt
still k test a read ts (Err x) e h = record { before = h.before; next = h.next; others = h.others; tokens_are = h.tokens_are; fault_is = h.fault_is; late = h.late; again = λ unit us more fit room. ap (λ c. if c then Ok a else read unit us (h.before ++ h.next ∷ more)) (ap test (sym (ap (λ xs. token_at xs 0) h.tokens_are ∙ front_here h.before h.next h.others more)) ∙ e) ∙ h.again unit us more fit room }

if_fails : {B : Type 0} (k : ℕ) (test : Token → Bool) (b : Bool) (a : B) (read : Reader B) (unit us ts : List Token) → test (token_at ts 0) ≡ b → (b ≡ false → Fails k read ts (read unit us ts)) → Fails k (λ unit us ys. if test (token_at ys 0) then Ok a else read unit us ys) ts (if b then Ok a else read unit us ts)
if_fails k test true a read unit us ts e f = tt
if_fails k test false a read unit us ts e f = still k test a read ts (read unit us ts) e (f refl)

behind_fails : {A B : Type 0} (m k j : ℕ) (read : Reader (Triple A)) (g : List Token → List Token → Triple A → Result B Fault) (ts : List Token) (a : A) (rest : List Token) (scope : Blocks) (s : Result B Fault) → j ≤ k + m → Went m k read ts a rest scope → Fails j (λ unit us ys. g unit us (a, ys, scope)) rest s → Fails k (λ unit us ys. read unit us ys >>= g unit us) ts s
behind_fails m k j read g ts a rest scope (Ok x) low w h = tt
behind_fails m k j read g ts a rest scope (Err e) low w h = joined_fail 0 0 m k j read g ts a rest scope e low (omega arith) w h

seq_fails : {A B : Type 0} (m k j : ℕ) (read : Reader (Triple A)) (g : List Token → List Token → Triple A → Result B Fault) (unit us ts : List Token) (r : Answer A) → j ≤ k + m → EndsIn ts → Is 0 m k read ts r
    → ((a : A) (scope : Blocks) (rest : List Token) → EndsIn rest → m + length rest ≤ length ts → Fails j (λ unit us ys. g unit us (a, ys, scope)) rest (g unit us (a, rest, scope)))
    → Fails k (λ unit us ys. read unit us ys >>= g unit us) ts (r >>= g unit us)
seq_fails m k j read g unit us ts (Err e) low ends h f = failed_first 0 k read g ts e h
seq_fails m k j read g unit us ts (Ok (a, rest, scope)) low ends h f = behind_fails m k j read g ts a rest scope (g unit us (a, rest, scope)) low h (f a scope rest (rest_ends m k read ts a rest scope ends h) (rest_short m k read ts a rest scope h))

abbrev after_item : (limit : ℕ) → List t.ItemTree → List Token → List Token → Triple t.ItemTree → Result (List t.ItemTree) Fault
after_item limit is unit us x = items_next (items_run limit unit (tail us)) (with_item is x.0) x.2 x.1

unrolled : (limit : ℕ) (is : List t.ItemTree) (scope : Blocks) (unit us ys : List Token) → 0 + 1 ≤ length us → items_run limit unit us is scope ys ≡ (item_read limit unit scope ys >>= after_item limit is unit us)
unrolled limit is scope unit [] ys h = absurd (omega (arith, h))
unrolled limit is scope unit (u ∷ us) ys h = refl

items_fail : (limit : ℕ) (us : List Token) (is : List t.ItemTree) (scope : Blocks) (unit ts : List Token) → EndsIn ts → length ts ≤ length us → length ts ≤ length unit → Fails 0 (λ unit us ys. items_run limit unit us is scope ys) ts (items_run limit unit us is scope ts)
items_fail limit us is scope unit [] ends enough fit = absurd ends
items_fail limit [] is scope unit (t ∷ ts) ends enough fit = absurd (omega (arith, enough))
items_fail limit (u ∷ us) is scope unit (t ∷ ts) ends enough fit = fails_alike 0 (λ unit us ys. item_read limit unit scope ys >>= after_item limit is unit us) (λ unit us ys. items_run limit unit us is scope ys) (t ∷ ts) (items_run limit unit (u ∷ us) is scope (t ∷ ts)) (unrolled limit is scope)
    (seq_fails 1 0 1 (λ unit us ys. item_read limit unit scope ys) (after_item limit is) unit (u ∷ us) (t ∷ ts) (item_read limit unit scope (t ∷ ts)) (omega arith) ends (item_local limit scope unit (u ∷ us) (t ∷ ts) ends fit)
    (λ i inner rest left short. if_fails 1 (marks_it marks.End) (marks_it marks.End (token_at rest 0)) (with_item is i) (λ unit us ys. items_run limit unit (tail us) (with_item is i) inner ys) unit (u ∷ us) rest refl
    (λ e. fails_tailed (λ unit us ys. items_run limit unit us (with_item is i) inner ys) rest (items_run limit unit us (with_item is i) inner rest) (items_fail limit us (with_item is i) inner unit rest left (omega (arith, enough, short)) (omega (arith, fit, short))))))

abbrev err_or : {B : Type 0} → Fault → Result B Fault → Fault
err_or d (Ok b) = d
err_or d (Err e) = e

fails_with : {B C : Type 0} (read : Reader B) (ts : List Token) (f : B → C) (r : Result B Fault) (e : Fault) → Fails 0 read ts r → (r >>= (λ x. Ok (f x))) ≡ Err e → Failed 0 0 read ts e
fails_with read ts f (Ok x) e h k = absurd cc
fails_with read ts f (Err x) e h k = subst (Failed 0 0 read ts) (ap (err_or x) k) h

-- a unit has tokens
some_tokens : (limit : ℕ) (before : List Token) (next : Token) (more : List Token) → unit_read limit (before ++ next ∷ more) ≡ whole_unit limit (before ++ next ∷ more)
some_tokens limit before next more = ap (λ b. if b then Err nothing_there else whole_unit limit (before ++ next ∷ more)) (ne_eqb (length (before ++ next ∷ more)) 0 (λ e. let long = length-append before (next ∷ more) in omega (arith, e, long)))

pub unit_fails : (limit : ℕ) (ts : List Token) (e : Fault) → EndsIn ts → unit_read limit ts ≡ Err e → Failed 0 0 (λ unit us ys. items_run limit unit us [] (no_types ∷ []) ys) ts e
unit_fails limit [] e ends h = absurd ends
unit_fails limit (t ∷ ts) e ends h = fails_with (λ unit us ys. items_run limit unit us [] (no_types ∷ []) ys) (t ∷ ts) unit_of (items_read limit (t ∷ ts) (no_types ∷ []) (t ∷ ts)) e (items_fail limit (t ∷ ts) [] (no_types ∷ []) (t ∷ ts) (t ∷ ts) ends (omega arith) (omega arith)) (sym (some_tokens limit [] t ts) ∙ h)

pub unit_again : (limit : ℕ) (before : List Token) (next : Token) (more : List Token) (e : Fault) → items_read limit (before ++ next ∷ more) (no_types ∷ []) (before ++ next ∷ more) ≡ Err e → unit_read limit (before ++ next ∷ more) ≡ Err e
unit_again limit before next more e h = some_tokens limit before next more ∙ ap (λ r. r >>= (λ is. Ok (unit_of is))) h
