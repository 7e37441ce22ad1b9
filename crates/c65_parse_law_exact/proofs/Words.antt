-- What a word or a name begins of a statement (C90 6.6): where it is refused, a statement goes on until there.
use Rattle.std.proofs.Common.{◌≡◌, ℕ, ◌+◌, ◌≤◌, List, [], ◌∷◌, ◌++◌, true, false, refl, sym, ap, ◌∙◌, subst, append_assoc, arith}
use Rattle.std.specs.Prelude.{Ok, Option, None, Some}
use Rattle.c65_base.specs.Answers.{◌>>=◌}
use Rattle.c65_base.specs.declared.names.Name.{Name}
use Rattle.c65_base.specs.declared.refusal.Pos.{Pos}
use Rattle.c65_scan.specs.declared.token.Keyword.TheVariants as keywords
use Rattle.c65_scan.specs.declared.token.Punct.TheVariants as puncts
use Rattle.c65_scan.specs.declared.token.Token.{Token}
use Rattle.c65_scan.specs.declared.token.TokenKind.TheVariants as kinds
use Rattle.c65_tree.specs.Trees as t
use Rattle.c65_tree.specs.Lists.{of_option}
use Rattle.c65_tree.specs.Depth.{expr_depth, decl_depth}
use Rattle.c65_parse_names.specs.Scopes.{Blocks, opened}
use Rattle.c65_parse_frames.specs.declared.frame.Place.{Place}
use Rattle.c65_parse_frames.specs.declared.sign.Sign.{Sign}
use Rattle.c65_parse_frames.specs.declared.sign.Sign.TheVariants as signs
use Rattle.c65_parse_frames.specs.declared.sign.Mark.{Mark}
use Rattle.c65_parse_frames.specs.declared.sign.Mark.TheVariants as marks
use Rattle.c65_parse_frames.specs.Signs.{sign_of, least_depth}
use Rattle.c65_parse_frames.specs.Frames.{in_label, in_case, in_default, in_switch, in_while, in_for, in_head, in_block, in_then, in_do, Begun, begun_open, begun_decl, begun_whole, begun_close}
use Rattle.c65_decl.specs.declared.words.Word.{Word}
use Rattle.c65_decl.specs.declared.words.Word.TheVariants as words
use Rattle.c65_decl.specs.Words.{word_of, name_of}
use Rattle.c65_decl.specs.Here.{sign_here, pos_here, expected, name_by, name_read}
use Rattle.c65_decl.specs.Expressions.{test_read, case_read, optional_read}
use Rattle.c65_decl.specs.Openings.{label_begun, for_begun, goto_begun, eval_begun, begun_behind, word_begun}
use Rattle.c65_parse_grammar.specs.Phrases.{Phrase, given, one, token, word, mark, some_mark}
use Rattle.c65_parse_grammar.specs.Parts.{start}
use Rattle.c65_parse_grammar.specs.Scopes.{Scope, after, after_option}
use Rattle.c65_parse_grammar.specs.Statements.{declaration, test, is_closed, statement}
use Rattle.c65_parse_grammar.specs.Readings.{Continues}
use Rattle.c65_parse_law_sound.proofs.Phrases.{both, attach, behind_nothing, some_is, no_none}
use Rattle.c65_parse_law_sound.proofs.Got.{EndsIn, First, first_of_these, tells, one_here}
use Rattle.c65_parse_law_sound.proofs.Openings.{head_front, stmt_front, begun_behind_it, word_kind, eval_is, name_told, word_told, no_name_at_end}
use Rattle.c65_parse_law_least.specs.Viable.{FewTypes}
use Rattle.c65_parse_law_exact.proofs.Pieces.{IsTaken}
use Rattle.c65_parse_law_exact.proofs.Stops.{Going, Taking, Stop, stop_done, stop_fails, stop_by_first, stop_past, stop_mark}
use Rattle.c65_parse_law_exact.proofs.Onward.{somewhere, mark_token, marked, nothing_more, stop_then, stop_mapped, onward, extended}
use Rattle.c65_parse_law_exact.proofs.Tests.{ended_expr, option_ended, case_stops, test_stops, optional_stops}
use Rattle.c65_parse_law_exact.proofs.Placed.{placed_depth, frame_depth, empty, semicolon}

-- the tokens of what was begun at a place
abbrev pub begun_phrase : Scope → Place → Begun → Phrase
begun_phrase b place (begun_open f) = stmt_front b f
begun_phrase b place (begun_decl d) = given (place.takes_declarations ≡ true) (declaration b d)
begun_phrase b place (begun_whole s) = given (is_closed s ≡ true) (statement b s)
begun_phrase b place begun_close = given (place.in_block ≡ true) (some_mark puncts.CloseBrace)

-- the least limit for it
abbrev pub begun_depth : ℕ → Begun → ℕ
begun_depth around (begun_open f) = frame_depth around f
begun_depth around (begun_decl d) = decl_depth d
begun_depth around (begun_whole s) = placed_depth around s
begun_depth around begun_close = 0

abbrev pub TakesBegun : ℕ → Scope → Blocks → Place → Taking Begun
TakesBegun limit b outer place = IsTaken (begun_phrase b place) (begun_behind_it b outer) (begun_depth place.around) limit

-- a statement at the place goes on
abbrev pub Places : Scope → Place → Going
Places b place = Continues (statement b) (placed_depth place.around)

-- as deep as what a word begins is at least
abbrev pub word_depth : Word → ℕ
word_depth words.Case = 2
word_depth words.Default = 2
word_depth words.If = 2
word_depth words.Switch = 2
word_depth words.While = 2
word_depth words.Do = 2
word_depth words.For = 2
word_depth words.Goto = 1
word_depth words.Continue = 1
word_depth words.Break = 1
word_depth words.Return = 1
word_depth words.OpenBrace = 1

same_depth : (w v : Word) → Some w ≡ Some v → (n : ℕ) → n ≡ word_depth w → n ≡ word_depth v
same_depth w v e n h = h ∙ ap word_depth (some_is w v e)

pub word_least : (sign : Sign) (w : Word) → word_of sign ≡ Some w → least_depth sign false ≡ word_depth w
word_least signs.Case w e = same_depth words.Case w e 2 refl
word_least signs.Default w e = same_depth words.Default w e 2 refl
word_least signs.If w e = same_depth words.If w e 2 refl
word_least signs.Switch w e = same_depth words.Switch w e 2 refl
word_least signs.While w e = same_depth words.While w e 2 refl
word_least signs.Do w e = same_depth words.Do w e 2 refl
word_least signs.For w e = same_depth words.For w e 2 refl
word_least signs.Goto w e = same_depth words.Goto w e 1 refl
word_least signs.Continue w e = same_depth words.Continue w e 1 refl
word_least signs.Break w e = same_depth words.Break w e 1 refl
word_least signs.Return w e = same_depth words.Return w e 1 refl
word_least signs.OpenBrace w e = same_depth words.OpenBrace w e 1 refl
word_least _ w e = absurd (no_none w e)

-- a name
abbrev some_name : Name
some_name = record { 0 = 0 }

abbrev pub NameTaken : ℕ → Blocks → List Token → Taking Name
NameTaken limit scope ts = IsTaken (λ n. one (pos_here ts) (kinds.Name n)) (λ n. scope) (λ n. 0) limit

name_by_stops : (limit : ℕ) (goes : Going) (o : Option Name) (scope : Blocks) (unit us ts : List Token) → name_of (sign_here ts) ≡ o → FewTypes scope → EndsIn ts → goes limit [] → Stop limit 0 1 0 goes (NameTaken limit scope ts) (λ unit us ys. name_by o scope ys) unit us ts
name_by_stops limit goes None scope unit us ts e few ends h = stop_fails limit 1 0 goes (NameTaken limit scope ts) unit us ts ends h
name_by_stops limit goes (Some n) scope unit us ts e few ends h =
    let first : First ts = first_of_these ts (no_name_at_end ts n e) ends in
    stop_past limit 0 0 0 1 0 0 goes (NameTaken limit scope ts) (λ unit us ys. Ok (n, ys, scope)) unit us ts (omega arith) (omega arith) (omega arith) first
    (stop_done limit 0 0 (λ n ys. goes n (first.tok ∷ ys)) (λ m inner ys. NameTaken limit scope ts m inner (first.tok ∷ ys)) n scope unit us first.rest first.ends (record {
      derives = one_here ts first (kinds.Name n) (name_told (sign_of first.tok.kind) n first.tok.kind (ap (λ v. name_of (sign_of v.kind)) (sym first.here) ∙ e) (tells first.tok.kind));
      scope_is = refl;
      within = omega arith;
      few = few;
    }))

name_stops : (limit : ℕ) (goes : Going) (scope : Blocks) (unit us ts : List Token) → FewTypes scope → EndsIn ts → goes limit [] → Stop limit 0 1 0 goes (NameTaken limit scope ts) (λ unit us ys. name_read scope ys) unit us ts
name_stops limit goes scope unit us ts few ends h = stop_by_first limit 0 1 0 goes (NameTaken limit scope ts) (λ x unit us ys. name_by (name_of (sign_of x.kind)) scope ys) unit us ts (name_by_stops limit goes (name_of (sign_here ts)) scope unit us ts refl few ends h)

-- a label
abbrev colon : Token
colon = mark_token marks.Colon

pub label_goes : (n around : ℕ) (b : Scope) (l : Pos) (name : Name) (xs : List Token) → one l (kinds.Name name) xs → around + 2 ≤ n → Continues (statement b) (placed_depth around) n xs
label_goes n around b l name xs p room = record { tree = t.label l name empty; more = colon ∷ semicolon ∷ []; derives = both xs (colon ∷ semicolon ∷ []) p (colon ∷ [], semicolon ∷ [], refl, (somewhere, refl), refl); within = omega (arith, room) }

pub empty_goes : (n around : ℕ) (b : Scope) → around + 1 ≤ n → Continues (statement b) (placed_depth around) n []
empty_goes n around b room = record { tree = empty; more = semicolon ∷ []; derives = refl; within = omega (arith, room) }

pub label_stops : (limit : ℕ) (b : Scope) (outer : Blocks) (place : Place) (unit us ts : List Token) → place.around + 2 ≤ limit → FewTypes (b ∷ outer) → EndsIn ts → Stop limit 0 1 0 (Places b place) (TakesBegun limit b outer place) (λ unit us ys. label_begun (pos_here ts) (b ∷ outer) ys) unit us ts
label_stops limit b outer place unit us ts room few ends = stop_then limit 1 0 1 0 0 (Places b place) (Places b place) (λ n. one (pos_here ts) (kinds.Name n)) (λ n. b ∷ outer) (λ n. 0) (TakesBegun limit b outer place) (λ unit us ys. name_read (b ∷ outer) ys) (λ unit us n. expected marks.Colon n.2 n.1 >>= (λ a. Ok (begun_open (in_head (in_label (pos_here ts) n.0)), a.0, a.1))) unit us ts (omega arith) (omega arith) ends
    (name_stops limit (Places b place) (b ∷ outer) unit us ts few ends (empty_goes limit place.around b (omega (arith, room))))
    (λ n xs up k. k)
    (λ name xs rest p low more are left short. stop_mark limit 0 0 0 (λ n ys. Places b place n (xs ++ ys)) (λ r scope ys. TakesBegun limit b outer place r scope (xs ++ ys)) marks.Colon (b ∷ outer) (λ a. Ok (begun_open (in_head (in_label (pos_here ts) name)), a.0, a.1)) unit us rest refl (omega arith) left
    (nothing_more (Places b place) limit xs (label_goes limit place.around b (pos_here ts) name xs p room))
    (λ tok last m none. stop_done limit 0 0 (λ n ys. Places b place n (xs ++ (tok ∷ ys))) (λ r scope ys. TakesBegun limit b outer place r scope (xs ++ (tok ∷ ys))) (begun_open (in_head (in_label (pos_here ts) name))) (b ∷ outer) unit us last none (record { derives = both xs (tok ∷ []) p (marked marks.Colon tok m); scope_is = refl; within = room; few = few })))

eval_goes : (n around : ℕ) (b : Scope) (xs more : List Token) (o : Option t.ExprTree) → option_ended marks.Semicolon b o (xs ++ more) → of_option expr_depth o ≤ n → around + 1 ≤ n → Continues (statement b) (placed_depth around) n xs
eval_goes n around b xs more None p low room = record { tree = t.eval p.4.0 None; more = more; derives = p.2 ∙ (ap (λ ys. ys ++ p.1) p.3 ∙ p.4.1); within = omega (arith, room) }
eval_goes n around b xs more (Some e) p low room = record { tree = t.eval (start e) (Some e); more = more; derives = (refl, p); within = omega (arith, room, low) }

pub eval_stops : (limit : ℕ) (b : Scope) (outer : Blocks) (place : Place) (unit us ts : List Token) → place.around + 1 ≤ limit → FewTypes (b ∷ outer) → EndsIn ts → Stop limit 0 1 0 (Places b place) (TakesBegun limit b outer place) (λ unit us ys. eval_begun limit (pos_here ts) (b ∷ outer) ys) unit us ts
eval_stops limit b outer place unit us ts room few ends = stop_mapped limit 1 1 0 (Continues (option_ended marks.Semicolon b) (of_option expr_depth)) (Places b place) (IsTaken (option_ended marks.Semicolon b) (λ o. after_option b o ∷ outer) (of_option expr_depth) limit) (TakesBegun limit b outer place) (λ o. begun_whole (t.eval (pos_here ts) o)) (λ unit us ys. optional_read limit marks.Semicolon (b ∷ outer) ys) unit us ts (omega arith) ends
    (optional_stops limit marks.Semicolon b outer unit us ts (omega (arith, room)) few refl ends)
    (λ n xs up k. eval_goes n place.around b xs k.more k.tree k.derives k.within (omega (arith, room, up)))
    (λ o scope xs rest are took. record { derives = (refl, eval_is b o ts xs rest are took.derives); scope_is = took.scope_is; within = let low = took.within in omega (arith, room, low); few = took.few })

-- behind a word, whose token stands before
abbrev GoesBehind : Scope → Place → Token → Going
GoesBehind b place tok n ys = Places b place n (tok ∷ ys)

abbrev TakesBehind : ℕ → Scope → Blocks → Place → Token → Taking Begun
TakesBehind limit b outer place tok r scope ys = TakesBegun limit b outer place r scope (tok ∷ ys)

-- a test, and what it makes
tested : (limit : ℕ) (b : Scope) (outer : Blocks) (place : Place) (build : t.ExprTree → Begun) (whole : t.ExprTree → t.StmtTree) (tok : Token) (unit us ts : List Token) → place.around + 2 ≤ limit → FewTypes (b ∷ outer) → EndsIn ts
    → ((e : t.ExprTree) (zs : List Token) → test b e zs → statement b (whole e) (tok ∷ (zs ++ semicolon ∷ [])))
    → ((n : ℕ) (e : t.ExprTree) → place.around + 2 ≤ n → expr_depth e ≤ n → placed_depth place.around (whole e) ≤ n)
    → ((e : t.ExprTree) (scope : Blocks) (xs : List Token) → IsTaken (test b) (λ e. after b e ∷ outer) expr_depth limit e scope xs → TakesBegun limit b outer place (build e) scope (tok ∷ xs))
    → Stop limit 0 0 0 (GoesBehind b place tok) (TakesBehind limit b outer place tok) (λ unit us ys. test_read limit (b ∷ outer) ys >>= (λ e. Ok (build e.0, e.1, e.2))) unit us ts
tested limit b outer place build whole tok unit us ts room few ends f g h = stop_mapped limit 1 0 0 (Continues (test b) expr_depth) (GoesBehind b place tok) (IsTaken (test b) (λ e. after b e ∷ outer) expr_depth limit) (TakesBehind limit b outer place tok) build (λ unit us ys. test_read limit (b ∷ outer) ys) unit us ts (omega arith) ends
    (test_stops limit b outer unit us ts (omega (arith, room)) few ends)
    (λ n xs up k. extended (test b) (statement b) expr_depth (placed_depth place.around) n (tok ∷ []) (semicolon ∷ []) xs whole f (λ e low. g n e (omega (arith, room, up)) low) k)
    (λ e scope xs rest are took. h e scope xs took)

-- a word and a semicolon
ended : (limit : ℕ) (b : Scope) (outer : Blocks) (place : Place) (s : t.StmtTree) (tok : Token) (unit us ts : List Token) → placed_depth place.around s ≤ limit → is_closed s ≡ true → begun_behind_it b outer (begun_whole s) ≡ b ∷ outer → ((v : Token) → some_mark puncts.Semicolon (v ∷ []) → statement b s (tok ∷ v ∷ [])) → FewTypes (b ∷ outer) → EndsIn ts
    → Stop limit 0 0 0 (GoesBehind b place tok) (TakesBehind limit b outer place tok) (λ unit us ys. expected marks.Semicolon (b ∷ outer) ys >>= (λ a. Ok (begun_whole s, a.0, a.1))) unit us ts
ended limit b outer place s tok unit us ts low closed same f few ends = stop_mark limit 0 0 0 (GoesBehind b place tok) (TakesBehind limit b outer place tok) marks.Semicolon (b ∷ outer) (λ a. Ok (begun_whole s, a.0, a.1)) unit us ts refl (omega arith) ends
    (record { tree = s; more = semicolon ∷ []; derives = f semicolon (somewhere, refl); within = low })
    (λ v last m none. stop_done limit 0 0 (λ n ys. GoesBehind b place tok n (v ∷ ys)) (λ r scope ys. TakesBehind limit b outer place tok r scope (v ∷ ys)) (begun_whole s) (b ∷ outer) unit us last none (record { derives = (closed, f v (marked marks.Semicolon v m)); scope_is = sym same; within = low; few = few }))

-- the three expressions of a for statement
abbrev close_mark : Token
close_mark = mark_token marks.CloseParen

abbrev open_mark : Token
open_mark = mark_token marks.OpenParen

for_built : (b : Scope) (l : Pos) (e f h : Option t.ExprTree) (tok v : Token) (xs ys zs : List Token) → word l keywords.For (tok ∷ []) → some_mark puncts.OpenParen (v ∷ []) → option_ended marks.Semicolon b e xs → option_ended marks.Semicolon (after_option b e) f ys → option_ended marks.CloseParen (after_option (after_option b e) f) h zs
    → head_front b (in_for l e f h) (tok ∷ (v ∷ (xs ++ (ys ++ zs))))
for_built b l e f h tok v xs ys zs p m he hf hh = subst (head_front b (in_for l e f h)) (ap (λ os. tok ∷ v ∷ os) (append_assoc xs ys zs)) (tok ∷ v ∷ (xs ++ ys), zs, refl, (tok ∷ v ∷ xs, ys, refl, (tok ∷ v ∷ [], xs, refl, (tok ∷ [], v ∷ [], refl, p, m), he), hf), hh)

-- the whole of what goes on in it
for_whole : (b : Scope) (l : Pos) (e f h : Option t.ExprTree) (tok v : Token) (xs ys zs : List Token) → word l keywords.For (tok ∷ []) → some_mark puncts.OpenParen (v ∷ []) → option_ended marks.Semicolon b e xs → option_ended marks.Semicolon (after_option b e) f ys → option_ended marks.CloseParen (after_option (after_option b e) f) h zs
    → statement b (t.for l e f h empty) (tok ∷ (v ∷ (xs ++ (ys ++ (zs ++ semicolon ∷ [])))))
for_whole b l e f h tok v xs ys zs p m he hf hh = both (tok ∷ []) _ p (both (v ∷ []) _ m (attach xs _ he (attach ys _ hf (attach zs (semicolon ∷ []) hh refl))))

no_option : (mark : Mark) (b : Scope) → option_ended mark b None (mark_token mark ∷ [])
no_option mark b = ([], mark_token mark ∷ [], refl, refl, (somewhere, refl))

-- `( ; ; ) ;`
abbrev pub for_end : List Token
for_end = open_mark ∷ semicolon ∷ semicolon ∷ close_mark ∷ semicolon ∷ []

pub for_ended : (b : Scope) (l : Pos) (tok : Token) → word l keywords.For (tok ∷ []) → statement b (t.for l None None None empty) (tok ∷ for_end)
for_ended b l tok p = for_whole b l None None None tok open_mark (semicolon ∷ []) (semicolon ∷ []) (close_mark ∷ []) p (somewhere, refl) (no_option marks.Semicolon b) (no_option marks.Semicolon b) (no_option marks.CloseParen b)

for_depth : (n around : ℕ) (l : Pos) (e f h : Option t.ExprTree) → around + 2 ≤ n → of_option expr_depth e ≤ n → of_option expr_depth f ≤ n → of_option expr_depth h ≤ n → placed_depth around (t.for l e f h empty) ≤ n
for_depth n around l e f h room i j k = omega (arith, room, i, j, k)

third_option : (limit : ℕ) (b : Scope) (outer : Blocks) (place : Place) (l : Pos) (e f : Option t.ExprTree) (tok v : Token) (xs ys : List Token) (unit us ts : List Token) → word l keywords.For (tok ∷ []) → some_mark puncts.OpenParen (v ∷ []) → option_ended marks.Semicolon b e xs → option_ended marks.Semicolon (after_option b e) f ys → place.around + 2 ≤ limit → of_option expr_depth e ≤ limit → of_option expr_depth f ≤ limit → FewTypes (after_option (after_option b e) f ∷ outer) → EndsIn ts
    → Stop limit 0 0 0 (λ n zs. GoesBehind b place tok n (v ∷ (xs ++ (ys ++ zs)))) (λ r scope zs. TakesBehind limit b outer place tok r scope (v ∷ (xs ++ (ys ++ zs)))) (λ unit us zs. optional_read limit marks.CloseParen (after_option (after_option b e) f ∷ outer) zs >>= (λ h. Ok (begun_open (in_head (in_for l e f h.0)), h.1, h.2))) unit us ts
third_option limit b outer place l e f tok v xs ys unit us ts p m he hf room i j few ends = stop_mapped limit 1 0 0 (Continues (option_ended marks.CloseParen (after_option (after_option b e) f)) (of_option expr_depth)) (λ n zs. GoesBehind b place tok n (v ∷ (xs ++ (ys ++ zs)))) (IsTaken (option_ended marks.CloseParen (after_option (after_option b e) f)) (λ h. after_option (after_option (after_option b e) f) h ∷ outer) (of_option expr_depth) limit) (λ r scope zs. TakesBehind limit b outer place tok r scope (v ∷ (xs ++ (ys ++ zs)))) (λ h. begun_open (in_head (in_for l e f h))) (λ unit us zs. optional_read limit marks.CloseParen (after_option (after_option b e) f ∷ outer) zs) unit us ts (omega arith) ends
    (optional_stops limit marks.CloseParen (after_option (after_option b e) f) outer unit us ts (omega (arith, room)) few refl ends)
    (λ n zs up k. subst (λ os. Continues (statement b) (placed_depth place.around) n (tok ∷ (v ∷ os))) (append_assoc xs ys zs) (extended (option_ended marks.CloseParen (after_option (after_option b e) f)) (statement b) (of_option expr_depth) (placed_depth place.around) n (tok ∷ (v ∷ (xs ++ ys))) (semicolon ∷ []) zs (λ h. t.for l e f h empty)
    (λ h os q. subst (λ ns. statement b (t.for l e f h empty) (tok ∷ (v ∷ ns))) (sym (append_assoc xs ys (os ++ semicolon ∷ []))) (for_whole b l e f h tok v xs ys os p m he hf q))
    (λ h low. for_depth n place.around l e f h (omega (arith, room, up)) (omega (arith, i, up)) (omega (arith, j, up)) low) k))
    (λ h scope zs rest are took. record { derives = for_built b l e f h tok v xs ys zs p m he hf took.derives; scope_is = took.scope_is; within = let low = took.within in omega (arith, room, i, j, low); few = took.few })

second_option : (limit : ℕ) (b : Scope) (outer : Blocks) (place : Place) (l : Pos) (e : Option t.ExprTree) (tok v : Token) (xs : List Token) (unit us ts : List Token) → word l keywords.For (tok ∷ []) → some_mark puncts.OpenParen (v ∷ []) → option_ended marks.Semicolon b e xs → place.around + 2 ≤ limit → of_option expr_depth e ≤ limit → FewTypes (after_option b e ∷ outer) → EndsIn ts
    → Stop limit 0 0 0 (λ n ys. GoesBehind b place tok n (v ∷ (xs ++ ys))) (λ r scope ys. TakesBehind limit b outer place tok r scope (v ∷ (xs ++ ys))) (λ unit us ys. optional_read limit marks.Semicolon (after_option b e ∷ outer) ys >>= (λ f. optional_read limit marks.CloseParen f.2 f.1 >>= (λ h. Ok (begun_open (in_head (in_for l e f.0 h.0)), h.1, h.2)))) unit us ts
second_option limit b outer place l e tok v xs unit us ts p m he room i few ends = stop_then limit 1 0 0 0 0 (Continues (option_ended marks.Semicolon (after_option b e)) (of_option expr_depth)) (λ n ys. GoesBehind b place tok n (v ∷ (xs ++ ys))) (option_ended marks.Semicolon (after_option b e)) (λ f. after_option (after_option b e) f ∷ outer) (of_option expr_depth) (λ r scope ys. TakesBehind limit b outer place tok r scope (v ∷ (xs ++ ys))) (λ unit us ys. optional_read limit marks.Semicolon (after_option b e ∷ outer) ys) (λ unit us f. optional_read limit marks.CloseParen f.2 f.1 >>= (λ h. Ok (begun_open (in_head (in_for l e f.0 h.0)), h.1, h.2))) unit us ts (omega arith) (omega arith) ends
    (optional_stops limit marks.Semicolon (after_option b e) outer unit us ts (omega (arith, room)) few refl ends)
    (λ n ys up k. extended (option_ended marks.Semicolon (after_option b e)) (statement b) (of_option expr_depth) (placed_depth place.around) n (tok ∷ (v ∷ xs)) (close_mark ∷ semicolon ∷ []) ys (λ f. t.for l e f None empty)
    (λ f zs q. for_whole b l e f None tok v xs zs (close_mark ∷ []) p m he q (no_option marks.CloseParen (after_option (after_option b e) f)))
    (λ f low. for_depth n place.around l e f None (omega (arith, room, up)) (omega (arith, i, up)) low (omega arith)) k)
    (λ f ys rest q low more are left short. third_option limit b outer place l e f tok v xs ys unit us rest p m he q room i low more left)

first_option : (limit : ℕ) (b : Scope) (outer : Blocks) (place : Place) (l : Pos) (tok v : Token) (unit us ts : List Token) → word l keywords.For (tok ∷ []) → some_mark puncts.OpenParen (v ∷ []) → place.around + 2 ≤ limit → FewTypes (b ∷ outer) → EndsIn ts
    → Stop limit 0 0 0 (λ n xs. GoesBehind b place tok n (v ∷ xs)) (λ r scope xs. TakesBehind limit b outer place tok r scope (v ∷ xs)) (λ unit us xs. optional_read limit marks.Semicolon (b ∷ outer) xs >>= (λ e. optional_read limit marks.Semicolon e.2 e.1 >>= (λ f. optional_read limit marks.CloseParen f.2 f.1 >>= (λ h. Ok (begun_open (in_head (in_for l e.0 f.0 h.0)), h.1, h.2))))) unit us ts
first_option limit b outer place l tok v unit us ts p m room few ends = stop_then limit 1 0 0 0 0 (Continues (option_ended marks.Semicolon b) (of_option expr_depth)) (λ n xs. GoesBehind b place tok n (v ∷ xs)) (option_ended marks.Semicolon b) (λ e. after_option b e ∷ outer) (of_option expr_depth) (λ r scope xs. TakesBehind limit b outer place tok r scope (v ∷ xs)) (λ unit us xs. optional_read limit marks.Semicolon (b ∷ outer) xs) (λ unit us e. optional_read limit marks.Semicolon e.2 e.1 >>= (λ f. optional_read limit marks.CloseParen f.2 f.1 >>= (λ h. Ok (begun_open (in_head (in_for l e.0 f.0 h.0)), h.1, h.2)))) unit us ts (omega arith) (omega arith) ends
    (optional_stops limit marks.Semicolon b outer unit us ts (omega (arith, room)) few refl ends)
    (λ n xs up k. extended (option_ended marks.Semicolon b) (statement b) (of_option expr_depth) (placed_depth place.around) n (tok ∷ (v ∷ [])) (semicolon ∷ close_mark ∷ semicolon ∷ []) xs (λ e. t.for l e None None empty)
    (λ e zs q. for_whole b l e None None tok v zs (semicolon ∷ []) (close_mark ∷ []) p m q (no_option marks.Semicolon (after_option b e)) (no_option marks.CloseParen (after_option b e)))
    (λ e low. for_depth n place.around l e None None (omega (arith, room, up)) low (omega arith) (omega arith)) k)
    (λ e xs rest q low more are left short. second_option limit b outer place l e tok v xs unit us rest p m q room low more left)

for_stops : (limit : ℕ) (b : Scope) (outer : Blocks) (place : Place) (l : Pos) (tok : Token) (unit us ts : List Token) → word l keywords.For (tok ∷ []) → place.around + 2 ≤ limit → FewTypes (b ∷ outer) → EndsIn ts
    → Stop limit 0 0 0 (GoesBehind b place tok) (TakesBehind limit b outer place tok) (λ unit us ys. for_begun limit l (b ∷ outer) ys) unit us ts
for_stops limit b outer place l tok unit us ts p room few ends = stop_mark limit 0 0 0 (GoesBehind b place tok) (TakesBehind limit b outer place tok) marks.OpenParen (b ∷ outer) (λ a. optional_read limit marks.Semicolon a.1 a.0 >>= (λ e. optional_read limit marks.Semicolon e.2 e.1 >>= (λ f. optional_read limit marks.CloseParen f.2 f.1 >>= (λ h. Ok (begun_open (in_head (in_for l e.0 f.0 h.0)), h.1, h.2))))) unit us ts refl (omega arith) ends
    (record { tree = t.for l None None None empty; more = for_end; derives = for_ended b l tok p; within = omega (arith, room) })
    (λ v xs m la. first_option limit b outer place l tok v unit us xs p (marked marks.OpenParen v m) room few la)

goto_whole : (b : Scope) (l : Pos) (name : Name) (m : Pos) (tok : Token) (xs : List Token) (v : Token) → word l keywords.Goto (tok ∷ []) → one m (kinds.Name name) xs → some_mark puncts.Semicolon (v ∷ []) → statement b (t.goto l name) (tok ∷ (xs ++ v ∷ []))
goto_whole b l name m tok xs v p q h = (tok ∷ [], xs ++ v ∷ [], refl, p, (xs, v ∷ [], refl, (m, q), h))

goto_stops : (limit : ℕ) (b : Scope) (outer : Blocks) (place : Place) (l : Pos) (tok : Token) (unit us ts : List Token) → word l keywords.Goto (tok ∷ []) → place.around + 1 ≤ limit → FewTypes (b ∷ outer) → EndsIn ts
    → Stop limit 0 0 0 (GoesBehind b place tok) (TakesBehind limit b outer place tok) (λ unit us ys. goto_begun l (b ∷ outer) ys) unit us ts
goto_stops limit b outer place l tok unit us ts p room few ends = stop_then limit 1 0 0 0 0 (GoesBehind b place tok) (GoesBehind b place tok) (λ n. one (pos_here ts) (kinds.Name n)) (λ n. b ∷ outer) (λ n. 0) (TakesBehind limit b outer place tok) (λ unit us ys. name_read (b ∷ outer) ys) (λ unit us n. expected marks.Semicolon n.2 n.1 >>= (λ a. Ok (begun_whole (t.goto l n.0), a.0, a.1))) unit us ts (omega arith) (omega arith) ends
    (name_stops limit (GoesBehind b place tok) (b ∷ outer) unit us ts few ends (record { tree = t.goto l some_name; more = token (kinds.Name some_name) somewhere ∷ semicolon ∷ []; derives = (tok ∷ [], token (kinds.Name some_name) somewhere ∷ semicolon ∷ [], refl, p, (token (kinds.Name some_name) somewhere ∷ [], semicolon ∷ [], refl, (somewhere, refl), (somewhere, refl))); within = omega (arith, room) }))
    (λ n xs up k. k)
    (λ name xs rest q low more are left short. stop_mark limit 0 0 0 (λ n ys. GoesBehind b place tok n (xs ++ ys)) (λ r scope ys. TakesBehind limit b outer place tok r scope (xs ++ ys)) marks.Semicolon (b ∷ outer) (λ a. Ok (begun_whole (t.goto l name), a.0, a.1)) unit us rest refl (omega arith) left
    (nothing_more (GoesBehind b place tok) limit xs (record { tree = t.goto l name; more = semicolon ∷ []; derives = goto_whole b l name (pos_here ts) tok xs semicolon p q (somewhere, refl); within = omega (arith, room) }))
    (λ v last m none. stop_done limit 0 0 (λ n ys. GoesBehind b place tok n (xs ++ (v ∷ ys))) (λ r scope ys. TakesBehind limit b outer place tok r scope (xs ++ (v ∷ ys))) (begun_whole (t.goto l name)) (b ∷ outer) unit us last none (record { derives = (refl, goto_whole b l name (pos_here ts) tok xs v p q (marked marks.Semicolon v m)); scope_is = refl; within = omega (arith, room); few = few })))

-- what stands behind the word that begins a statement
pub behind_stops : (limit : ℕ) (b : Scope) (outer : Blocks) (place : Place) (w : Word) (l : Pos) (tok : Token) (unit us ts : List Token) → one l (word_kind w) (tok ∷ []) → place.around + word_depth w ≤ limit → FewTypes (b ∷ outer) → EndsIn ts
    → Stop limit 0 0 0 (GoesBehind b place tok) (TakesBehind limit b outer place tok) (λ unit us ys. begun_behind limit w l (b ∷ outer) ys) unit us ts
behind_stops limit b outer place words.Case l tok unit us ts p room few ends = stop_mapped limit 1 0 0 (Continues (ended_expr 2 marks.Colon b) expr_depth) (GoesBehind b place tok) (IsTaken (ended_expr 2 marks.Colon b) (λ e. after b e ∷ outer) expr_depth limit) (TakesBehind limit b outer place tok) (λ e. begun_open (in_head (in_case l e))) (λ unit us ys. case_read limit (b ∷ outer) ys) unit us ts (omega arith) ends
    (case_stops limit b outer unit us ts (omega (arith, room)) few ends)
    (λ n xs up k. extended (ended_expr 2 marks.Colon b) (statement b) expr_depth (placed_depth place.around) n (tok ∷ []) (semicolon ∷ []) xs (λ e. t.case l e empty) (λ e zs q. both (tok ∷ []) (zs ++ semicolon ∷ []) p (attach zs (semicolon ∷ []) q refl)) (λ e low. omega (arith, room, up, low)) k)
    (λ e scope xs rest are took. record { derives = both (tok ∷ []) xs p took.derives; scope_is = took.scope_is; within = let low = took.within in omega (arith, room, low); few = took.few })
behind_stops limit b outer place words.Default l tok unit us ts p room few ends = stop_mark limit 0 0 0 (GoesBehind b place tok) (TakesBehind limit b outer place tok) marks.Colon (b ∷ outer) (λ a. Ok (begun_open (in_head (in_default l)), a.0, a.1)) unit us ts refl (omega arith) ends
    (record { tree = t.default l empty; more = colon ∷ semicolon ∷ []; derives = (tok ∷ [], colon ∷ semicolon ∷ [], refl, p, (colon ∷ [], semicolon ∷ [], refl, (somewhere, refl), refl)); within = omega (arith, room) })
    (λ v last m none. stop_done limit 0 0 (λ n ys. GoesBehind b place tok n (v ∷ ys)) (λ r scope ys. TakesBehind limit b outer place tok r scope (v ∷ ys)) (begun_open (in_head (in_default l))) (b ∷ outer) unit us last none (record { derives = (tok ∷ [], v ∷ [], refl, p, marked marks.Colon v m); scope_is = refl; within = room; few = few }))
behind_stops limit b outer place words.If l tok unit us ts p room few ends = tested limit b outer place (λ e. begun_open (in_then l e)) (λ e. t.if_stmt l e empty t.no_stmt) tok unit us ts room few ends
    (λ e zs q. both (tok ∷ []) (zs ++ semicolon ∷ []) p (both zs (semicolon ∷ []) q (behind_nothing (tt, refl))))
    (λ n e up low. omega (arith, up, low))
    (λ e scope xs took. record { derives = both (tok ∷ []) xs p took.derives; scope_is = took.scope_is; within = let low = took.within in omega (arith, room, low); few = took.few })
behind_stops limit b outer place words.Switch l tok unit us ts p room few ends = tested limit b outer place (λ e. begun_open (in_head (in_switch l e))) (λ e. t.switch l e empty) tok unit us ts room few ends
    (λ e zs q. both (tok ∷ []) (zs ++ semicolon ∷ []) p (both zs (semicolon ∷ []) q refl))
    (λ n e up low. omega (arith, up, low))
    (λ e scope xs took. record { derives = both (tok ∷ []) xs p took.derives; scope_is = took.scope_is; within = let low = took.within in omega (arith, room, low); few = took.few })
behind_stops limit b outer place words.While l tok unit us ts p room few ends = tested limit b outer place (λ e. begun_open (in_head (in_while l e))) (λ e. t.while l e empty) tok unit us ts room few ends
    (λ e zs q. both (tok ∷ []) (zs ++ semicolon ∷ []) p (both zs (semicolon ∷ []) q refl))
    (λ n e up low. omega (arith, up, low))
    (λ e scope xs took. record { derives = both (tok ∷ []) xs p took.derives; scope_is = took.scope_is; within = let low = took.within in omega (arith, room, low); few = took.few })
behind_stops limit b outer place words.Do l tok unit us ts p room few ends = stop_done limit 0 0 (GoesBehind b place tok) (TakesBehind limit b outer place tok) (begun_open (in_do l)) (b ∷ outer) unit us ts ends (record { derives = p; scope_is = refl; within = room; few = few })
behind_stops limit b outer place words.For l tok unit us ts p room few ends = for_stops limit b outer place l tok unit us ts p room few ends
behind_stops limit b outer place words.Goto l tok unit us ts p room few ends = goto_stops limit b outer place l tok unit us ts p room few ends
behind_stops limit b outer place words.Continue l tok unit us ts p room few ends = ended limit b outer place (t.continue l) tok unit us ts (omega (arith, room)) refl refl (λ v m. (tok ∷ [], v ∷ [], refl, p, m)) few ends
behind_stops limit b outer place words.Break l tok unit us ts p room few ends = ended limit b outer place (t.break l) tok unit us ts (omega (arith, room)) refl refl (λ v m. (tok ∷ [], v ∷ [], refl, p, m)) few ends
behind_stops limit b outer place words.Return l tok unit us ts p room few ends = stop_mapped limit 1 0 0 (Continues (option_ended marks.Semicolon b) (of_option expr_depth)) (GoesBehind b place tok) (IsTaken (option_ended marks.Semicolon b) (λ o. after_option b o ∷ outer) (of_option expr_depth) limit) (TakesBehind limit b outer place tok) (λ o. begun_whole (t.return l o)) (λ unit us ys. optional_read limit marks.Semicolon (b ∷ outer) ys) unit us ts (omega arith) ends
    (optional_stops limit marks.Semicolon b outer unit us ts (omega (arith, room)) few refl ends)
    (λ n xs up k. onward (option_ended marks.Semicolon b) (statement b) (of_option expr_depth) (placed_depth place.around) n (tok ∷ []) xs (λ o. t.return l o) (λ o zs q. both (tok ∷ []) zs p q) (λ o low. omega (arith, room, up, low)) k)
    (λ o scope xs rest are took. record { derives = (refl, both (tok ∷ []) xs p took.derives); scope_is = took.scope_is; within = let low = took.within in omega (arith, room, low); few = took.few })
behind_stops limit b outer place words.OpenBrace l tok unit us ts p room few ends = stop_done limit 0 0 (GoesBehind b place tok) (TakesBehind limit b outer place tok) (begun_open (in_block l [] t.no_stmts)) (opened (b ∷ outer)) unit us ts ends (record { derives = (tok ∷ [], [], refl, (tok ∷ [], [], refl, p, refl), refl); scope_is = refl; within = omega (arith, room); few = (few.0, few) })

pub word_stops : (limit : ℕ) (b : Scope) (outer : Blocks) (place : Place) (sign : Sign) (w : Word) (unit us ts : List Token) → sign_here ts ≡ sign → word_of sign ≡ Some w → place.around + least_depth sign false ≤ limit → FewTypes (b ∷ outer) → EndsIn ts
    → Stop limit 0 1 0 (Places b place) (TakesBegun limit b outer place) (λ unit us ys. word_begun limit (Some w) (pos_here ts) (b ∷ outer) ys) unit us ts
word_stops limit b outer place sign w unit us ts e f room few ends =
    let first : First ts = first_of_these ts (λ h. no_none w (sym (ap word_of (sym e ∙ h)) ∙ f)) ends in
    stop_past limit 0 0 0 1 0 0 (Places b place) (TakesBegun limit b outer place) (λ unit us ys. begun_behind limit w (pos_here ts) (b ∷ outer) ys) unit us ts (omega arith) (omega arith) (omega arith) first
    (behind_stops limit b outer place w (pos_here ts) first.tok unit us first.rest (one_here ts first (word_kind w) (word_told (sign_of first.tok.kind) w first.tok.kind (ap (λ v. word_of (sign_of v.kind)) (sym first.here) ∙ (ap word_of e ∙ f)) (tells first.tok.kind))) (let least = word_least sign w f in omega (arith, least, room)) few first.ends)
