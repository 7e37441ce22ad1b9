-- What begins at a statement's place (C90 6.6); a name is told from a label by the token behind it.
use Rattle.std.proofs.Common.{◌≡◌, ℕ, zero, suc, ◌+◌, ◌≤◌, List, [], ◌∷◌, ◌++◌, length, Bool, true, false, refl, sym, ap, ◌∙◌, subst, inl, inr, arith}
use Rattle.std.specs.Prelude.{◌⊎◌, nat_le, Ok, Err, if◌then◌else◌, ◌&&◌, Option, None, Some}
use Rattle.c65_base.specs.Answers.{Fault, large}
use Rattle.c65_base.specs.declared.names.Name.{Name}
use Rattle.c65_base.specs.declared.refusal.Size.TheVariants.{Depth}
use Rattle.c65_scan.specs.declared.token.Token.{Token}
use Rattle.c65_scan.specs.declared.token.TokenKind.{TokenKind}
use Rattle.c65_scan.specs.declared.token.TokenKind.TheVariants as kinds
use Rattle.c65_parse_names.specs.Scopes.{Blocks, closed}
use Rattle.c65_parse.specs.Reading.{Answer, token_at, expr_read, specifiers_read}
use Rattle.c65_parse_frames.specs.declared.sign.Sign.{Sign}
use Rattle.c65_parse_frames.specs.declared.sign.Sign.TheVariants as signs
use Rattle.c65_parse_frames.specs.declared.sign.Mark.TheVariants as marks
use Rattle.c65_parse_frames.specs.declared.frame.Place.{Place}
use Rattle.c65_parse_frames.specs.Signs.{sign_of, is_mark, is_label, starts_declaration, least_depth}
use Rattle.c65_parse_frames.specs.Frames.{begun_decl, begun_close}
use Rattle.c65_decl.specs.Words.{word_of, name_of, is_evaluated}
use Rattle.c65_decl.specs.Here.{sign_here, colon_follows, names_type}
use Rattle.c65_decl.specs.Decls.{declaration_read}
use Rattle.c65_decl.specs.Openings.{label_begun, eval_begun, word_begun, statement_begun, closed_here, declaration_begun, begun_within, begun_inside, begun_by, begun_at}
use Rattle.c65_parse_law_sound.proofs.Got.{EndsIn, First, first_of_these, Tells, tells}
use Rattle.c65_parse_law_sound.proofs.Phrases.{no_none, false_true}
use Rattle.c65_parse_law_faults.proofs.Local.{Reader, Triple, Failed, Is, Local, head_or, here_is, done, too_deep, alike, by_first, local_if}
use Rattle.c65_parse_law_faults.proofs.Seq.{seq}
use Rattle.c65_parse_law_faults.proofs.Runs.{expr_local, specifiers_local}
use Rattle.c65_parse_law_faults.proofs.Inits.{taken_mark}
use Rattle.c65_parse_law_faults.proofs.Decls.{declaration_by}
use Rattle.c65_parse_law_faults.proofs.Words.{label_local, word_local, eval_local, type_taken, name_taken}

-- a reading that depends on whether a colon is the second token
pub second_same : (before : List Token) (next : Token) (others more : List Token) → 1 ≤ length before → colon_follows (before ++ next ∷ others) ≡ colon_follows (before ++ next ∷ more)
second_same [] next others more h = absurd (omega (arith, h))
second_same (b ∷ []) next others more h = ap (λ x. is_mark marks.Colon (sign_of x.kind)) (here_is next others ∙ sym (here_is next more))
second_same (b ∷ c ∷ before) next others more h = ap (λ x. is_mark marks.Colon (sign_of x.kind)) (here_is c (before ++ next ∷ others) ∙ sym (here_is c (before ++ next ∷ more)))

pub two_here : (x u : Token) (us more : List Token) → colon_follows (x ∷ u ∷ us) ≡ colon_follows (x ∷ u ∷ more)
two_here x u us more = ap (λ x. is_mark marks.Colon (sign_of x.kind)) (here_is u us ∙ sym (here_is u more))

deep_second : {A : Type 0} (read : Bool → Reader (Triple A)) (x : Token) (ts : List Token) (next : Token) (others : List Token) (e : Fault) → EndsIn ts → e ≡ large Depth 257 → x ∷ ts ≡ next ∷ others
    → ((unit us more : List Token) → length (next ∷ more) ≤ length unit → 0 + length (next ∷ more) ≤ length us → read (colon_follows (x ∷ ts)) unit us (next ∷ more) ≡ Err e)
    → Failed 0 0 (λ unit us ys. read (colon_follows ys) unit us ys) (x ∷ ts) e
deep_second read x [] next others e ends deep are f = absurd ends
deep_second read x (u ∷ us) next others e ends deep are f = record {
  before = next ∷ [];
  next = u;
  others = us;
  tokens_are = ap (λ y. y ∷ u ∷ us) (ap (head_or x) are);
  fault_is = inr deep;
  late = inr deep;
  again = λ unit steps more fit room. ap (λ b. read b unit steps (next ∷ u ∷ more)) (sym (ap (λ y. colon_follows (y ∷ u ∷ us)) (ap (head_or x) are) ∙ two_here next u us more)) ∙ f unit steps (u ∷ more) fit room;
}

late_second : {A : Type 0} (read : Bool → Reader (Triple A)) (first : Token) (ts : List Token) (e : Fault) (h : Failed 1 0 (read (colon_follows (first ∷ ts))) (first ∷ ts) e) → 1 ≤ length h.before → Failed 0 0 (λ unit us ys. read (colon_follows ys) unit us ys) (first ∷ ts) e
late_second read first ts e h late = record { before = h.before; next = h.next; others = h.others; tokens_are = h.tokens_are; fault_is = h.fault_is; late = inl (omega arith); again = λ unit us more fit room. ap (λ b. read b unit us (h.before ++ h.next ∷ more)) (sym (ap colon_follows h.tokens_are ∙ second_same h.before h.next h.others more late)) ∙ h.again unit us more fit room }

failed_second : {A : Type 0} (read : Bool → Reader (Triple A)) (first : Token) (ts : List Token) (e : Fault) → EndsIn ts → (before : List Token) (next : Token) (others : List Token) → e ≡ large Depth 257 → first ∷ ts ≡ before ++ next ∷ others
    → ((unit us more : List Token) → length (before ++ next ∷ more) ≤ length unit → 0 + length (before ++ next ∷ more) ≤ length us → read (colon_follows (first ∷ ts)) unit us (before ++ next ∷ more) ≡ Err e)
    → Failed 0 0 (λ unit us ys. read (colon_follows ys) unit us ys) (first ∷ ts) e
failed_second read first ts e ends [] next others deep are f = deep_second read first ts next others e ends deep are f
failed_second read first ts e ends (b ∷ before) next others deep are f = late_second read first ts e (record { before = b ∷ before; next = next; others = others; tokens_are = are; fault_is = inr deep; late = inr deep; again = f }) (omega arith)

either_second : {A : Type 0} (read : Bool → Reader (Triple A)) (first : Token) (ts : List Token) (e : Fault) → EndsIn ts → (h : Failed 1 0 (read (colon_follows (first ∷ ts))) (first ∷ ts) e) → (1 ≤ length h.before) ⊎ (e ≡ large Depth 257) → Failed 0 0 (λ unit us ys. read (colon_follows ys) unit us ys) (first ∷ ts) e
either_second read first ts e ends h (inl late) = late_second read first ts e h late
either_second read first ts e ends h (inr deep) = failed_second read first ts e ends h.before h.next h.others deep h.tokens_are h.again

second_by : {A : Type 0} (read : Bool → Reader (Triple A)) (first : Token) (ts : List Token) (r : Answer A) → EndsIn ts → Is 1 1 0 (read (colon_follows (first ∷ ts))) (first ∷ ts) r → Is 0 1 0 (λ unit us ys. read (colon_follows ys) unit us ys) (first ∷ ts) r
second_by read first ts (Ok (a, rest, scope)) ends h = record { before = h.before; next = h.next; others = h.others; tokens_are = h.tokens_are; rest_is = h.rest_is; some = h.some; again = λ unit us more fit room. ap (λ b. read b unit us (h.before ++ h.next ∷ more)) (sym (ap colon_follows h.tokens_are ∙ second_same h.before h.next h.others more h.some)) ∙ h.again unit us more fit room }
second_by read first ts (Err e) ends h = either_second read first ts e ends h h.late

by_second : {A : Type 0} (read : Bool → Reader (Triple A)) (unit us ts : List Token) → First ts → Local 1 1 0 (read (colon_follows ts)) unit us ts → Local 0 1 0 (λ unit us ys. read (colon_follows ys) unit us ys) unit us ts
by_second read unit us ts f h = subst (λ xs. Local 0 1 0 (λ unit us ys. read (colon_follows ys) unit us ys) unit us xs) (sym f.tokens_are) (second_by read f.tok f.rest (read (colon_follows (f.tok ∷ f.rest)) unit us (f.tok ∷ f.rest)) f.ends (subst (λ xs. Local 1 1 0 (read (colon_follows xs)) unit us xs) f.tokens_are h))

-- where a name stands: where c is one, and else nothing is demanded
abbrev Named : ℕ → Sign → Type 0
Named zero sign = Unit {0}
Named (suc c) (signs.Name n) = c ≤ 0
Named (suc c) _ = ⊥

named_low : (c : ℕ) (sign : Sign) → Named c sign → c ≤ 1
named_low zero sign h = omega arith
named_low (suc c) (signs.Name n) h = omega (arith, h)
named_low (suc c) _ h = absurd h

named_none : (c : ℕ) (sign : Sign) → Named c sign → name_of sign ≡ None → c ≤ 0
named_none zero sign h e = omega arith
named_none (suc c) (signs.Name n) h e = absurd (no_none n (sym e))
named_none (suc c) _ h e = absurd h

named_mark : (c : ℕ) (sign : Sign) → Named c sign → is_mark marks.Semicolon sign ≡ true → c ≤ 0
named_mark zero sign h e = omega arith
named_mark (suc c) (signs.Name n) h e = absurd (false_true e)
named_mark (suc c) _ h e = absurd h

named_evaluated : (c : ℕ) (sign : Sign) → Named c sign → is_evaluated sign ≡ false → c ≤ 0
named_evaluated zero sign h e = omega arith
named_evaluated (suc c) (signs.Name n) h e = absurd (false_true (sym e))
named_evaluated (suc c) _ h e = absurd h

-- the kind of a token with this sign
name_kind : (sign : Sign) (k : TokenKind) (n : Name) → sign ≡ signs.Name n → Tells sign k → k ≡ kinds.Name n
name_kind sign k n e h = subst (λ s. Tells s k) e h

both_true : (a b : Bool) → (a && b) ≡ true → b ≡ true
both_true true b h = h
both_true false b h = absurd (false_true h)

-- an expression, which takes a name that is no type
operand_by : (limit : ℕ) (c : ℕ) (sign : Sign) (is_type colon : Bool) (scope : Blocks) (unit us ts : List Token) → sign_here ts ≡ sign → names_type scope (name_of sign) ≡ is_type → is_label sign is_type colon ≡ false → Named c sign → EndsIn ts → Local c 1 0 (λ unit us ys. expr_read limit 0 scope ys) unit us ts
operand_by limit zero sign is_type colon scope unit us ts e f l h ends = expr_local limit 0 scope unit us ts ends
operand_by limit (suc zero) (signs.Name n) true colon scope unit us ts e f l h ends = absurd (false_true (sym l))
operand_by limit (suc zero) (signs.Name n) false colon scope unit us ts e f l h ends = name_taken limit scope n unit us ts ends (name_kind (sign_here ts) (token_at ts 0).kind n e (tells (token_at ts 0).kind)) f
operand_by limit (suc (suc c)) (signs.Name n) is_type colon scope unit us ts e f l h ends = absurd (omega (arith, h))
operand_by limit (suc c) _ is_type colon scope unit us ts e f l h ends = absurd h

-- specifiers, which take a name that is a type
typed_by : (limit : ℕ) (c : ℕ) (sign : Sign) (is_type colon : Bool) (scope : Blocks) (unit us ts : List Token) → sign_here ts ≡ sign → names_type scope (name_of sign) ≡ is_type → starts_declaration sign is_type colon ≡ true → Named c sign → EndsIn ts → Local c c 0 (λ unit us ys. specifiers_read limit scope ys) unit us ts
typed_by limit zero sign is_type colon scope unit us ts e f l h ends = specifiers_local limit scope unit us ts ends
typed_by limit (suc zero) (signs.Name n) true colon scope unit us ts e f l h ends = type_taken limit scope n unit us ts ends (name_kind (sign_here ts) (token_at ts 0).kind n e (tells (token_at ts 0).kind)) f
typed_by limit (suc zero) (signs.Name n) false colon scope unit us ts e f l h ends = absurd (false_true l)
typed_by limit (suc (suc c)) (signs.Name n) is_type colon scope unit us ts e f l h ends = absurd (omega (arith, h))
typed_by limit (suc c) _ is_type colon scope unit us ts e f l h ends = absurd h

word_by : (limit : ℕ) (c : ℕ) (sign : Sign) (x : Token) (scope : Blocks) (unit us ts : List Token) → sign_here ts ≡ sign → c ≤ 0 → EndsIn ts → Local c 1 0 (λ unit us ys. word_begun limit (word_of sign) x.pos scope ys) unit us ts
word_by limit zero sign x scope unit us ts e low ends = word_local limit (word_of sign) x.pos scope unit us ts (ap word_of e) ends
word_by limit (suc c) sign x scope unit us ts e low ends = absurd (omega (arith, low))

statement_by : (limit : ℕ) (c : ℕ) (sign : Sign) (is_type colon : Bool) (scope : Blocks) (unit us ts : List Token) → sign_here ts ≡ sign → names_type scope (name_of sign) ≡ is_type → Named c sign → EndsIn ts → Local c 1 0 (λ unit us ys. statement_begun limit sign (is_label sign is_type colon) scope ys) unit us ts
statement_by limit c sign is_type colon scope unit us ts e f h ends =
    let low = named_low c sign h in
    by_first c 1 0 (λ x unit us ys. if is_label sign is_type colon then label_begun x.pos scope ys else (if is_evaluated sign then eval_begun limit x.pos scope ys else word_begun limit (word_of sign) x.pos scope ys)) unit us ts
    (local_if c 1 0 (is_label sign is_type colon) (λ unit us ys. label_begun (token_at ts 0).pos scope ys) (λ unit us ys. if is_evaluated sign then eval_begun limit (token_at ts 0).pos scope ys else word_begun limit (word_of sign) (token_at ts 0).pos scope ys) unit us ts
    (λ l. label_local c (token_at ts 0).pos scope unit us ts low (λ n. named_none c sign h (ap name_of (sym e) ∙ n)) ends)
    (λ l. local_if c 1 0 (is_evaluated sign) (λ unit us ys. eval_begun limit (token_at ts 0).pos scope ys) (λ unit us ys. word_begun limit (word_of sign) (token_at ts 0).pos scope ys) unit us ts
    (λ v. eval_local limit c (token_at ts 0).pos scope unit us ts ends low (operand_by limit c sign is_type colon scope unit us ts e f l h ends) (λ m. named_mark c sign h (ap (is_mark marks.Semicolon) (sym e) ∙ m)))
    (λ v. word_by limit c sign (token_at ts 0) scope unit us ts e (named_evaluated c sign h v) ends)))

begun_local : (limit : ℕ) (c : ℕ) (place : Place) (sign : Sign) (is_type colon : Bool) (scope : Blocks) (unit us ts : List Token) → sign_here ts ≡ sign → names_type scope (name_of sign) ≡ is_type → Named c sign → EndsIn ts → length ts ≤ length unit → Local c 1 0 (λ unit us ys. begun_by limit unit place sign is_type colon scope ys) unit us ts
begun_local limit c place sign is_type colon scope unit us ts e f h ends fit =
    let low = named_low c sign h in
    local_if c 1 0 (place.in_block && is_mark marks.CloseBrace sign) (λ unit us ys. Ok (closed_here scope ys)) (λ unit us ys. begun_inside limit unit place sign is_type colon scope ys) unit us ts
    (λ b. taken_mark c c 0 1 marks.CloseBrace (λ unit us ys. Ok (begun_close, ys, closed scope)) unit us ts (omega arith) (omega arith) refl (ap (is_mark marks.CloseBrace) e ∙ both_true place.in_block (is_mark marks.CloseBrace sign) b) ends (λ rest left short. done c 0 begun_close (closed scope) unit us rest left))
    (λ b. local_if c 1 0 (place.takes_declarations && starts_declaration sign is_type colon) (λ unit us ys. declaration_begun limit unit scope ys) (λ unit us ys. begun_within limit place sign (is_label sign is_type colon) scope ys) unit us ts
    (λ d. seq c 0 1 0 1 0 0 (λ unit us ys. declaration_read limit unit scope ys) (λ unit us x. Ok (begun_decl x.0, x.1, x.2)) unit us ts (omega arith) (omega (arith, low)) (omega arith) ends (declaration_by limit c c scope unit us ts ends fit (omega arith) (typed_by limit c sign is_type colon scope unit us ts e f (both_true place.takes_declarations (starts_declaration sign is_type colon) d) h ends))
    (λ x inner rest left short. done 0 0 (begun_decl x) inner unit us rest left))
    (λ d. local_if c 1 0 (nat_le (place.around + least_depth sign (is_label sign is_type colon)) limit) (λ unit us ys. statement_begun limit sign (is_label sign is_type colon) scope ys) (λ unit us ys. Err (large Depth 257)) unit us ts
    (λ w. statement_by limit c sign is_type colon scope unit us ts e f h ends)
    (λ w. too_deep c 1 0 unit us ts ends)))

-- only at a name the colon counts
pub no_colon : (limit : ℕ) (sign : Sign) (unit : List Token) (place : Place) (is_type colon other : Bool) (scope : Blocks) (ts : List Token) → name_of sign ≡ None → begun_by limit unit place sign is_type colon scope ts ≡ begun_by limit unit place sign is_type other scope ts
no_colon limit (signs.Name n) unit place is_type colon other scope ts e = absurd (no_none n (sym e))
no_colon limit _ unit place is_type colon other scope ts e = refl

not_end : (sign : Sign) (n : Name) → name_of sign ≡ Some n → sign ≡ signs.End → ⊥
not_end sign n e h = no_none n (sym (ap name_of h) ∙ e)

a_name : (sign : Sign) (n : Name) → name_of sign ≡ Some n → Named 1 sign
a_name (signs.Name m) n e = omega arith
a_name _ n e = absurd (no_none n e)

place_by : (limit : ℕ) (o : Option Name) (place : Place) (scope : Blocks) (unit us ts : List Token) → name_of (sign_here ts) ≡ o → EndsIn ts → length ts ≤ length unit → Local 0 1 0 (λ unit us ys. begun_by limit unit place (sign_here ts) (names_type scope (name_of (sign_here ts))) (colon_follows ys) scope ys) unit us ts
place_by limit None place scope unit us ts e ends fit =
    let is_type = names_type scope (name_of (sign_here ts)) in
    alike 0 1 0 (λ unit us ys. begun_by limit unit place (sign_here ts) is_type (colon_follows ts) scope ys) (λ unit us ys. begun_by limit unit place (sign_here ts) is_type (colon_follows ys) scope ys) ts (begun_by limit unit place (sign_here ts) is_type (colon_follows ts) scope ts) (λ unit us ys some. no_colon limit (sign_here ts) unit place is_type (colon_follows ys) (colon_follows ts) scope ys e)
    (begun_local limit 0 place (sign_here ts) is_type (colon_follows ts) scope unit us ts refl refl tt ends fit)
place_by limit (Some n) place scope unit us ts e ends fit =
    let is_type = names_type scope (name_of (sign_here ts)) in
    by_second (λ b unit us ys. begun_by limit unit place (sign_here ts) is_type b scope ys) unit us ts (first_of_these ts (not_end (sign_here ts) n e) ends)
    (begun_local limit 1 place (sign_here ts) is_type (colon_follows ts) scope unit us ts refl refl (a_name (sign_here ts) n e) ends fit)

pub at_local : (limit : ℕ) (place : Place) (scope : Blocks) (unit us ts : List Token) → EndsIn ts → length ts ≤ length unit → Local 0 1 0 (λ unit us ys. begun_at limit unit place scope ys) unit us ts
at_local limit place scope unit us ts ends fit = by_first 0 1 0 (λ x unit us ys. begun_by limit unit place (sign_of x.kind) (names_type scope (name_of (sign_of x.kind))) (colon_follows ys) scope ys) unit us ts (place_by limit (name_of (sign_here ts)) place scope unit us ts refl ends fit)
