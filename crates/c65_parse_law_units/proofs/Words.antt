-- How a statement begins (C90 6.6): the word or the brace at its front.
use Rattle.std.proofs.Common.{◌≡◌, ℕ, ◌+◌, ◌≤◌, List, [], ◌∷◌, ◌++◌, length, Bool, true, false, refl, sym, ap, ◌∙◌, subst, arith}
use Rattle.std.proofs.lemmas.Bool.{le-leb, and_right, and_left, or_right}
use Rattle.std.specs.Prelude.{◌&&◌, ◌||◌, not, nat_le, Ok, Err, Some}
use Rattle.c65_base.specs.Answers.{large}
use Rattle.c65_base.specs.declared.names.Name.{Name}
use Rattle.c65_base.specs.declared.refusal.Pos.{Pos}
use Rattle.c65_base.specs.declared.refusal.Size.TheVariants.{Depth}
use Rattle.c65_scan.specs.declared.token.Keyword.TheVariants as keywords
use Rattle.c65_scan.specs.declared.token.Punct.TheVariants as puncts
use Rattle.c65_scan.specs.declared.token.Token.{Token}
use Rattle.c65_scan.specs.declared.token.TokenKind.{TokenKind}
use Rattle.c65_scan.specs.declared.token.TokenKind.TheVariants as kinds
use Rattle.c65_parse_names.specs.Scopes.{Blocks}
use Rattle.c65_parse.specs.Reading.{token_at, after_token}
use Rattle.c65_parse_frames.specs.declared.sign.Mark.TheVariants as marks
use Rattle.c65_parse_frames.specs.declared.sign.Sign.{Sign}
use Rattle.c65_parse_frames.specs.declared.sign.Sign.TheVariants as signs
use Rattle.c65_parse_frames.specs.Signs.{sign_of, is_mark, starts_declaration, is_label, least_depth}
use Rattle.c65_parse_frames.specs.Frames.{Frame, in_label, in_head, begun_open, place_in}
use Rattle.c65_decl.specs.declared.words.Word.{Word}
use Rattle.c65_decl.specs.Words.{word_of, name_of, is_evaluated}
use Rattle.c65_decl.specs.Here.{pos_here, is_type_here, names_type, colon_follows, expected}
use Rattle.c65_decl.specs.Openings.{eval_begun, begun_behind, word_begun, statement_begun, closed_here, declaration_begun, begun_within, begun_inside, begun_by, begun_at}
use Rattle.c65_parse_grammar.specs.Phrases.{token}
use Rattle.c65_parse_grammar.specs.Scopes.{Scope}
use Rattle.c65_parse_law_trees.proofs.Runs.{First}
use Rattle.c65_parse_law_trees.proofs.Firsts.{Opens, Operand, OperandKind}
use Rattle.c65_parse_law_units.proofs.Heres.{Left, here_is, passed, left_more, next, when, unless, expected_is}
use Rattle.c65_parse_law_units.proofs.Tests.{NoColon, NamedThen, Uncoloured}

around_is : (fs : List Frame) → (place_in fs).around ≡ length fs
around_is [] = refl
around_is (f ∷ fs) = refl

-- a statement begins, and no declaration, and no block ends
record Starts (s : Sign) (is_type colon label : Bool) : Type 0 where
  pub no_close : is_mark marks.CloseBrace s ≡ false
  pub no_decl : starts_declaration s is_type colon ≡ false
  pub labelled : is_label s is_type colon ≡ label

started : (limit : ℕ) (unit : List Token) (fs : List Frame) (scope : Blocks) (s : Sign) (is_type colon label : Bool) (ts : List Token) → Starts s is_type colon label → least_depth s label + length fs ≤ limit
    → begun_by limit unit (place_in fs) s is_type colon scope ts ≡ statement_begun limit s label scope ts
started limit unit fs scope s is_type colon label ts h deep =
    let place = place_in fs in
    let around = around_is fs in
    unless (place.in_block && is_mark marks.CloseBrace s) (Ok (closed_here scope ts)) (begun_inside limit unit place s is_type colon scope ts) (and_right place.in_block (is_mark marks.CloseBrace s) h.no_close)
    ∙ (unless (place.takes_declarations && starts_declaration s is_type colon) (declaration_begun limit unit scope ts) (begun_within limit place s (is_label s is_type colon) scope ts) (and_right place.takes_declarations (starts_declaration s is_type colon) h.no_decl)
    ∙ (ap (λ b. begun_within limit place s b scope ts) h.labelled
    ∙ when (nat_le (place.around + least_depth s label) limit) (statement_begun limit s label scope ts) (Err (large Depth 257)) (le-leb (place.around + least_depth s label) limit (omega (arith, deep, around)))))

-- a word or a brace that begins a statement
pub record IsWord (s : Sign) (w : Word) : Type 0 where
  pub no_close : is_mark marks.CloseBrace s ≡ false
  pub no_decl : (a b : Bool) → starts_declaration s a b ≡ false
  pub no_label : (a b : Bool) → is_label s a b ≡ false
  pub no_eval : is_evaluated s ≡ false
  pub word : word_of s ≡ Some w

pub word_step : (limit : ℕ) (unit : List Token) (fs : List Frame) (scope : Blocks) (k : TokenKind) (l : Pos) (ts : List Token) (w : Word) → IsWord (sign_of k) w → least_depth (sign_of k) false + length fs ≤ limit → Left ts
    → begun_at limit unit (place_in fs) scope (token k l ∷ ts) ≡ begun_behind limit w l scope ts
word_step limit unit fs scope k l ts w h deep left =
    let all = token k l ∷ ts in
    let s = sign_of k in
    ap (λ x. begun_by limit unit (place_in fs) (sign_of x.kind) (is_type_here scope all) (colon_follows all) scope all) (here_is (token k l) ts)
    ∙ (started limit unit fs scope s (is_type_here scope all) (colon_follows all) false all (record { no_close = h.no_close; no_decl = h.no_decl (is_type_here scope all) (colon_follows all); labelled = h.no_label (is_type_here scope all) (colon_follows all) }) deep
    ∙ (unless (is_evaluated s) (eval_begun limit (pos_here all) scope all) (word_begun limit (word_of s) (pos_here all) scope all) h.no_eval
    ∙ (ap (λ o. word_begun limit o (pos_here all) scope all) h.word
    ∙ (ap (λ x. begun_behind limit w x.pos scope (after_token all)) (here_is (token k l) ts)
    ∙ ap (λ x. begun_behind limit w l scope x) (passed (token k l) ts left)))))

second_is : (a b : Token) (ts : List Token) → token_at (a ∷ b ∷ ts) 1 ≡ b
second_is a b [] = refl
second_is a b (c ∷ ts) = refl

-- a label
pub label_step : (limit : ℕ) (unit : List Token) (fs : List Frame) (scope : Blocks) (n : Name) (l k : Pos) (ts : List Token) → 2 + length fs ≤ limit → Left ts
    → begun_at limit unit (place_in fs) scope (token (kinds.Name n) l ∷ token (kinds.Punct puncts.Colon) k ∷ ts) ≡ Ok (begun_open (in_head (in_label l n)), ts, scope)
label_step limit unit fs scope n l k ts deep left =
    let name : Token = token (kinds.Name n) l in
    let colon : Token = token (kinds.Punct puncts.Colon) k in
    let all = name ∷ colon ∷ ts in
    let b : colon_follows all ≡ true = ap (λ x. is_mark marks.Colon (sign_of x.kind)) (second_is name colon ts) in
    started limit unit fs scope (signs.Name n) (is_type_here scope all) (colon_follows all) true all (record { no_close = refl; no_decl = and_right (is_type_here scope all) (not (colon_follows all)) (ap not b); labelled = or_right (is_type_here scope all) (colon_follows all) b }) deep
    ∙ next (expected marks.Colon scope (colon ∷ ts)) (ts, scope) (λ a. Ok (begun_open (in_head (in_label l n)), a.0, a.1)) (Ok (begun_open (in_head (in_label l n)), ts, scope)) (expected_is marks.Colon scope colon ts refl left) refl

pub type_here : (scope : Blocks) (tok : Token) (ts : List Token) → is_type_here scope (tok ∷ ts) ≡ names_type scope (name_of (sign_of tok.kind))
type_here scope tok ts = ap (λ x. names_type scope (name_of (sign_of x.kind))) (here_is tok ts)

pub follows_by : (tok : Token) (ts : List Token) → Left ts → First NoColon ts → colon_follows (tok ∷ ts) ≡ false
follows_by tok [] left h = absurd left
follows_by tok (u ∷ ts) left h = ap (λ x. is_mark marks.Colon (sign_of x.kind)) (second_is tok u ts) ∙ h

none_or : (a b : Bool) → a ≡ false → b ≡ false → (a || b) ≡ false
none_or false b h k = k
none_or true b h k = absurd cc

operand_starts : (sc : Scope) (outer : Blocks) (k : TokenKind) (l : Pos) (ts : List Token) → OperandKind sc k → NamedThen k ts → Left ts → Starts (sign_of k) (is_type_here (sc ∷ outer) (token k l ∷ ts)) (colon_follows (token k l ∷ ts)) false
operand_starts sc outer (kinds.Name n) l ts h c left =
    let all = token (kinds.Name n) l ∷ ts in
    let a : is_type_here (sc ∷ outer) all ≡ false = type_here (sc ∷ outer) (token (kinds.Name n) l) ts ∙ h in
    record { no_close = refl; no_decl = and_left (is_type_here (sc ∷ outer) all) (not (colon_follows all)) a; labelled = none_or (is_type_here (sc ∷ outer) all) (colon_follows all) a (follows_by (token (kinds.Name n) l) ts left c) }
operand_starts sc outer (kinds.Number ty n) l ts h c left = record { no_close = refl; no_decl = refl; labelled = refl }
operand_starts sc outer (kinds.Text bs) l ts h c left = record { no_close = refl; no_decl = refl; labelled = refl }
operand_starts sc outer (kinds.Keyword keywords.Sizeof) l ts h c left = record { no_close = refl; no_decl = refl; labelled = refl }
operand_starts sc outer (kinds.Punct puncts.OpenParen) l ts h c left = record { no_close = refl; no_decl = refl; labelled = refl }
operand_starts sc outer (kinds.Punct puncts.Star) l ts h c left = record { no_close = refl; no_decl = refl; labelled = refl }
operand_starts sc outer (kinds.Punct puncts.Plus) l ts h c left = record { no_close = refl; no_decl = refl; labelled = refl }
operand_starts sc outer (kinds.Punct puncts.Minus) l ts h c left = record { no_close = refl; no_decl = refl; labelled = refl }
operand_starts sc outer (kinds.Punct puncts.Tilde) l ts h c left = record { no_close = refl; no_decl = refl; labelled = refl }
operand_starts sc outer (kinds.Punct puncts.Exclamation) l ts h c left = record { no_close = refl; no_decl = refl; labelled = refl }
operand_starts sc outer (kinds.Punct puncts.Ampersand) l ts h c left = record { no_close = refl; no_decl = refl; labelled = refl }
operand_starts sc outer (kinds.Punct puncts.PlusPlus) l ts h c left = record { no_close = refl; no_decl = refl; labelled = refl }
operand_starts sc outer (kinds.Punct puncts.MinusMinus) l ts h c left = record { no_close = refl; no_decl = refl; labelled = refl }
operand_starts sc outer (kinds.Keyword _) l ts h c left = absurd h
operand_starts sc outer (kinds.Punct _) l ts h c left = absurd h
operand_starts sc outer kinds.End l ts h c left = absurd h

shallow : (sc : Scope) (k : TokenKind) → OperandKind sc k → (least_depth (sign_of k) false ≡ 1) × (is_evaluated (sign_of k) ≡ true)
shallow sc (kinds.Name n) h = (refl, refl)
shallow sc (kinds.Number ty n) h = (refl, refl)
shallow sc (kinds.Text bs) h = (refl, refl)
shallow sc (kinds.Keyword keywords.Sizeof) h = (refl, refl)
shallow sc (kinds.Punct puncts.OpenParen) h = (refl, refl)
shallow sc (kinds.Punct puncts.Star) h = (refl, refl)
shallow sc (kinds.Punct puncts.Plus) h = (refl, refl)
shallow sc (kinds.Punct puncts.Minus) h = (refl, refl)
shallow sc (kinds.Punct puncts.Tilde) h = (refl, refl)
shallow sc (kinds.Punct puncts.Exclamation) h = (refl, refl)
shallow sc (kinds.Punct puncts.Ampersand) h = (refl, refl)
shallow sc (kinds.Punct puncts.PlusPlus) h = (refl, refl)
shallow sc (kinds.Punct puncts.MinusMinus) h = (refl, refl)
shallow sc (kinds.Keyword _) h = absurd h
shallow sc (kinds.Punct _) h = absurd h
shallow sc kinds.End h = absurd h

-- an expression and its semicolon
eval_by : (limit : ℕ) (unit : List Token) (fs : List Frame) (sc : Scope) (outer : Blocks) (k : TokenKind) (l : Pos) (ts : List Token) → OperandKind sc k → NamedThen k ts → Left ts → 1 + length fs ≤ limit
    → begun_at limit unit (place_in fs) (sc ∷ outer) (token k l ∷ ts) ≡ eval_begun limit l (sc ∷ outer) (token k l ∷ ts)
eval_by limit unit fs sc outer k l ts h c left deep =
    let all = token k l ∷ ts in
    let s = sign_of k in
    let small = shallow sc k h in
    let one = small.0 in
    ap (λ x. begun_by limit unit (place_in fs) (sign_of x.kind) (is_type_here (sc ∷ outer) all) (colon_follows all) (sc ∷ outer) all) (here_is (token k l) ts)
    ∙ (started limit unit fs (sc ∷ outer) s (is_type_here (sc ∷ outer) all) (colon_follows all) false all (operand_starts sc outer k l ts h c left) (omega (arith, one, deep))
    ∙ (when (is_evaluated s) (eval_begun limit (pos_here all) (sc ∷ outer) all) (word_begun limit (word_of s) (pos_here all) (sc ∷ outer) all) small.1
    ∙ ap (λ x. eval_begun limit x.pos (sc ∷ outer) all) (here_is (token k l) ts)))

pub eval_step : (limit : ℕ) (unit : List Token) (fs : List Frame) (sc : Scope) (outer : Blocks) (ts rest : List Token) → Opens (Operand sc) ts → Uncoloured (ts ++ rest) → Left rest → 1 + length fs ≤ limit
    → begun_at limit unit (place_in fs) (sc ∷ outer) (ts ++ rest) ≡ eval_begun limit (pos_here (ts ++ rest)) (sc ∷ outer) (ts ++ rest)
eval_step limit unit fs sc outer ts rest o c left deep =
    let all = o.first ∷ (o.others ++ rest) in
    subst (λ x. begun_at limit unit (place_in fs) (sc ∷ outer) (x ++ rest) ≡ eval_begun limit (pos_here (x ++ rest)) (sc ∷ outer) (x ++ rest)) (sym o.are)
    (eval_by limit unit fs sc outer o.first.kind o.first.pos (o.others ++ rest) o.it (subst (λ x. Uncoloured (x ++ rest)) o.are c) (left_more o.others rest left) deep
    ∙ ap (λ x. eval_begun limit x.pos (sc ∷ outer) all) (sym (here_is o.first (o.others ++ rest))))

-- a lone semicolon
pub empty_step : (limit : ℕ) (unit : List Token) (fs : List Frame) (scope : Blocks) (l : Pos) (ts : List Token) → 1 + length fs ≤ limit → begun_at limit unit (place_in fs) scope (token (kinds.Punct puncts.Semicolon) l ∷ ts) ≡ eval_begun limit l scope (token (kinds.Punct puncts.Semicolon) l ∷ ts)
empty_step limit unit fs scope l ts deep =
    let semi : Token = token (kinds.Punct puncts.Semicolon) l in
    let all = semi ∷ ts in
    ap (λ x. begun_by limit unit (place_in fs) (sign_of x.kind) (is_type_here scope all) (colon_follows all) scope all) (here_is semi ts)
    ∙ (started limit unit fs scope signs.Semicolon (is_type_here scope all) (colon_follows all) false all (record { no_close = refl; no_decl = refl; labelled = refl }) deep
    ∙ ap (λ x. eval_begun limit x.pos scope all) (here_is semi ts))
