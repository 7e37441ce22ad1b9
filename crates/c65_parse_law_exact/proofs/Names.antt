-- A name at a statement's place: whether it is a label is told by the token behind it, so that a fault of depth may stand
-- at that one.
use Rattle.std.proofs.Common.{◌≡◌, ℕ, ◌+◌, ◌≤◌, List, [], ◌∷◌, ◌++◌, length, Bool, true, false, refl, sym, ap, ◌∙◌, subst, inl, inr, arith}
use Rattle.std.proofs.lemmas.Bool.{leb-true, leb-false, lt-leb, and_right}
use Rattle.std.specs.Prelude.{nat_le, Ok, Err, Option, None, Some, if◌then◌else◌, ◌&&◌, ◌||◌, not}
use Rattle.c65_base.specs.Answers.{Fault, large, ◌>>=◌}
use Rattle.c65_base.specs.declared.names.Name.{Name}
use Rattle.c65_base.specs.declared.refusal.Pos.{Pos}
use Rattle.c65_base.specs.declared.refusal.Size.TheVariants.{Depth}
use Rattle.c65_scan.specs.declared.token.Keyword.{Keyword}
use Rattle.c65_scan.specs.declared.token.Keyword.TheVariants as keywords
use Rattle.c65_scan.specs.declared.token.Punct.{Punct}
use Rattle.c65_scan.specs.declared.token.Punct.TheVariants as puncts
use Rattle.c65_scan.specs.declared.token.Token.{Token}
use Rattle.c65_scan.specs.declared.token.TokenKind.{TokenKind}
use Rattle.c65_scan.specs.declared.token.TokenKind.TheVariants as kinds
use Rattle.c65_tree.specs.Trees as t
use Rattle.c65_tree.specs.Depth.{decl_depth}
use Rattle.c65_parse_names.specs.Scopes.{Blocks}
use Rattle.c65_parse.specs.Reading.{Answer}
use Rattle.c65_parse_frames.specs.declared.frame.Place.{Place}
use Rattle.c65_parse_frames.specs.declared.sign.Sign.TheVariants as signs
use Rattle.c65_parse_frames.specs.declared.sign.Mark.TheVariants as marks
use Rattle.c65_parse_frames.specs.Signs.{sign_of_keyword, sign_of_punct, sign_of, is_mark}
use Rattle.c65_parse_frames.specs.Frames.{in_head, in_label, Begun, begun_open, begun_decl, begun_whole}
use Rattle.c65_decl.specs.Words.{name_of}
use Rattle.c65_decl.specs.Here.{sign_here, pos_here, colon_follows, names_type, is_type_here, expected}
use Rattle.c65_decl.specs.Openings.{label_begun, eval_begun, statement_begun, closed_here, declaration_begun, begun_inside, begun_by, begun_at}
use Rattle.c65_parse_grammar.specs.Phrases.{token}
use Rattle.c65_parse_grammar.specs.Scopes.{Scope}
use Rattle.c65_parse_grammar.specs.Statements.{declaration, statement}
use Rattle.c65_parse_grammar.specs.Readings.{Continues}
use Rattle.c65_parse_law_sound.proofs.Got.{EndsIn}
use Rattle.c65_parse_law_trees.proofs.Top.{exprs_are_read}
use Rattle.c65_parse_law_units.proofs.Whole.{declarations_are_read}
use Rattle.c65_parse_law_faults.specs.Faults.{IsFaultOf}
use Rattle.c65_parse_law_faults.proofs.Local.{Reader, Triple, head_or, here_is}
use Rattle.c65_parse_law_faults.proofs.Opens.{second_same, two_here, no_colon}
use Rattle.c65_parse_law_least.specs.Viable.{FewTypes}
use Rattle.c65_parse_law_exact.proofs.Stops.{Going, Taking, Stuck, StopIs, Stop, stop_alike, stop_by_first}
use Rattle.c65_parse_law_exact.proofs.Onward.{somewhere, mark_token, marked}
use Rattle.c65_parse_law_exact.proofs.Placed.{placed_depth, empty, semicolon}
use Rattle.c65_parse_law_exact.proofs.Words.{TakesBegun}
use Rattle.c65_parse_law_exact.proofs.Opens.{Goes, begun_stops}

-- no fault of the first token by itself
abbrev NotAtOnce : {A : Type 0} → Reader (Triple A) → Token → Type 0
NotAtOnce read first = (e : Fault) → ((unit us more : List Token) → length (first ∷ more) ≤ length unit → length (first ∷ more) ≤ length us → read unit us (first ∷ more) ≡ Err e) → ⊥

later_stuck : {A : Type 0} (limit : ℕ) (goes : Going) (read : Bool → Reader (Triple A)) (first : Token) (ts : List Token) (e : Fault) (before : List Token) (next : Token) (others : List Token) → NotAtOnce (read (colon_follows (first ∷ ts))) first → first ∷ ts ≡ before ++ next ∷ others → IsFaultOf next e
    → ((unit us more : List Token) → length (before ++ next ∷ more) ≤ length unit → 0 + length (before ++ next ∷ more) ≤ length us → read (colon_follows (first ∷ ts)) unit us (before ++ next ∷ more) ≡ Err e)
    → goes limit before → (e ≡ large Depth 257 → (more : ℕ) × (limit ≤ more) × goes more (before ++ next ∷ []))
    → Stuck limit 0 0 goes (λ unit us ys. read (colon_follows ys) unit us ys) (first ∷ ts) e
later_stuck limit goes read first ts e [] next others later are fault again on deep = absurd (later e (λ unit us more fit room. subst (λ v. read (colon_follows (first ∷ ts)) unit us (v ∷ more) ≡ Err e) (sym (ap (head_or first) are)) (again unit us more fit (omega (arith, room)))))
later_stuck limit goes read first ts e (b ∷ before) next others later are fault again on deep = record {
  failed = record { before = b ∷ before; next = next; others = others; tokens_are = are; fault_is = fault; late = inl (omega arith); again = λ unit us more fit room. ap (λ c. read c unit us (b ∷ (before ++ next ∷ more))) (sym (ap colon_follows are ∙ second_same (b ∷ before) next others more (omega arith))) ∙ again unit us more fit room };
  goes_on = on;
  deeper = deep;
}

second_by : {A : Type 0} (limit : ℕ) (goes : Going) (takes : Taking A) (read : Bool → Reader (Triple A)) (first : Token) (ts : List Token) (r : Answer A) → NotAtOnce (read (colon_follows (first ∷ ts))) first → StopIs limit 0 1 0 goes takes (read (colon_follows (first ∷ ts))) (first ∷ ts) r → StopIs limit 0 1 0 goes takes (λ unit us ys. read (colon_follows ys) unit us ys) (first ∷ ts) r
second_by limit goes takes read first ts (Ok (a, rest, scope)) later h = let w = h.went in record {
  went = record { before = w.before; next = w.next; others = w.others; tokens_are = w.tokens_are; rest_is = w.rest_is; some = w.some; again = λ unit us more fit room. ap (λ c. read c unit us (w.before ++ w.next ∷ more)) (sym (ap colon_follows w.tokens_are ∙ second_same w.before w.next w.others more w.some)) ∙ w.again unit us more fit room };
  taken = h.taken;
}
second_by limit goes takes read first ts (Err e) later h = later_stuck limit goes read first ts e h.failed.before h.failed.next h.failed.others later h.failed.tokens_are h.failed.fault_is h.failed.again h.goes_on h.deeper

second_stops : {A : Type 0} (limit : ℕ) (goes : Going) (takes : Taking A) (read : Bool → Reader (Triple A)) (first : Token) (unit us ts : List Token) → NotAtOnce (read (colon_follows (first ∷ ts))) first → Stop limit 0 1 0 goes takes (read (colon_follows (first ∷ ts))) unit us (first ∷ ts) → Stop limit 0 1 0 goes takes (λ unit us ys. read (colon_follows ys) unit us ys) unit us (first ∷ ts)
second_stops limit goes takes read first unit us ts later h = second_by limit goes takes read first ts (read (colon_follows (first ∷ ts)) unit us (first ∷ ts)) later h

-- too deep by its colon
deep_second : {A : Type 0} (limit : ℕ) (goes : Going) (takes : Taking A) (read : Bool → Reader (Triple A)) (first u : Token) (unit us rest : List Token) → ((unit us ys : List Token) → read (colon_follows (first ∷ u ∷ rest)) unit us ys ≡ Err (large Depth 257)) → goes limit (first ∷ []) → ((more : ℕ) × (limit ≤ more) × goes more (first ∷ u ∷ []))
    → Stop limit 0 1 0 goes takes (λ unit us ys. read (colon_follows ys) unit us ys) unit us (first ∷ u ∷ rest)
deep_second limit goes takes read first u unit us rest e on deep = subst (λ r. StopIs limit 0 1 0 goes takes (λ unit us ys. read (colon_follows ys) unit us ys) (first ∷ u ∷ rest) r) (sym (e unit us (first ∷ u ∷ rest))) (record {
  failed = record {
    before = first ∷ [];
    next = u;
    others = rest;
    tokens_are = refl;
    fault_is = inr refl;
    late = inr refl;
    again = λ unit us more fit room. ap (λ c. read c unit us (first ∷ u ∷ more)) (two_here first u more rest) ∙ e unit us (first ∷ u ∷ more);
  };
  goes_on = on;
  deeper = λ x. deep;
})

-- what is read at a name
abbrev AtName : ℕ → Place → Scope → Blocks → Name → Bool → Reader (Triple Begun)
AtName limit place b outer n colon unit us ys = begun_by limit unit place (signs.Name n) (b n) colon (b ∷ outer) ys

name_is : (limit : ℕ) (place : Place) (b : Scope) (outer : Blocks) (n : Name) (colon is_type starts deep : Bool) (unit us ys : List Token) → b n ≡ is_type → (place.takes_declarations && (is_type && not colon)) ≡ starts → nat_le (place.around + (if is_type || colon then 2 else 1)) limit ≡ deep
    → AtName limit place b outer n colon unit us ys ≡ (if starts then declaration_begun limit unit (b ∷ outer) ys else (if deep then statement_begun limit (signs.Name n) (is_type || colon) (b ∷ outer) ys else Err (large Depth 257)))
name_is limit place b outer n colon is_type starts deep unit us ys e f h =
    ap (λ x. if x then Ok (closed_here (b ∷ outer) ys) else begun_inside limit unit place (signs.Name n) (b n) colon (b ∷ outer) ys) (and_right place.in_block false refl)
    ∙ (ap (λ x. begun_inside limit unit place (signs.Name n) x colon (b ∷ outer) ys) e
    ∙ (ap (λ x. if x then declaration_begun limit unit (b ∷ outer) ys else (if nat_le (place.around + (if is_type || colon then 2 else 1)) limit then statement_begun limit (signs.Name n) (is_type || colon) (b ∷ outer) ys else Err (large Depth 257))) f
    ∙ ap (λ x. if starts then declaration_begun limit unit (b ∷ outer) ys else (if x then statement_begun limit (signs.Name n) (is_type || colon) (b ∷ outer) ys else Err (large Depth 257))) h))

-- the least tokens that are read
abbrev name_token : Name → Pos → Token
name_token n l = token (kinds.Name n) l

abbrev last : Token
last = token kinds.End somewhere

answered : {A : Type 0} (r : Answer A) (a : Triple A) (e : Fault) → r ≡ Ok a → r ≡ Err e → ⊥
answered r a e f h = cc

abbrev ended_from : Answer t.ExprTree → Answer (Option t.ExprTree)
ended_from r = r >>= (λ e. expected marks.Semicolon e.2 e.1 >>= (λ c. Ok (Some e.0, c.0, c.1)))

abbrev eval_from : Pos → Answer (Option t.ExprTree) → Answer Begun
eval_from m r = r >>= (λ e. Ok (begun_whole (t.eval m e.0), e.1, e.2))

abbrev decl_from : Answer t.DeclTree → Answer Begun
decl_from r = r >>= (λ d. Ok (begun_decl d.0, d.1, d.2))

eval_answers : (limit : ℕ) (b : Scope) (outer : Blocks) (n : Name) (l m : Pos) → 1 ≤ limit → b n ≡ false → (a : Triple Begun) × (eval_begun limit m (b ∷ outer) (name_token n l ∷ semicolon ∷ last ∷ []) ≡ Ok a)
eval_answers limit b outer n l m one free = ((begun_whole (t.eval m (Some (t.name l n))), last ∷ [], b ∷ outer), ap (λ r. eval_from m (ended_from r)) (exprs_are_read limit 0 b outer (t.name l n) (name_token n l ∷ []) semicolon (last ∷ []) (free, refl) (omega arith) one (omega arith) (inl refl)))

abbrev type_declaration : Name → Pos → t.DeclTree
type_declaration n l = record { specifiers = t.specifiers l (t.and_specifier t.no_specifiers (t.typedef_name l n)); declarators = [] }

type_declared : (b : Scope) (n : Name) (l : Pos) → b n ≡ true → declaration b (type_declaration n l) (name_token n l ∷ semicolon ∷ [])
type_declared b n l e = (name_token n l ∷ [], semicolon ∷ [], refl, ((refl, refl), ([], name_token n l ∷ [], refl, refl, ((refl, e), refl))), ([], semicolon ∷ [], refl, refl, (somewhere, refl)))

declaration_answers : (limit : ℕ) (b : Scope) (outer : Blocks) (n : Name) (l : Pos) → 1 ≤ limit → b n ≡ true → (a : Triple Begun) × (declaration_begun limit (name_token n l ∷ semicolon ∷ last ∷ []) (b ∷ outer) (name_token n l ∷ semicolon ∷ last ∷ []) ≡ Ok a)
declaration_answers limit b outer n l one e = ((begun_decl (type_declaration n l), last ∷ [], b ∷ outer), ap (λ r. decl_from r) (declarations_are_read limit (name_token n l ∷ semicolon ∷ last ∷ []) b outer (type_declaration n l) (name_token n l ∷ semicolon ∷ []) last [] (type_declared b n l e) one (omega arith)))

-- where it is too deep as a label
label_deep : (limit : ℕ) (place : Place) (b : Scope) (outer : Blocks) (n : Name) (colon is_type : Bool) (unit us ys : List Token) → b n ≡ is_type → (is_type || colon) ≡ true → (place.takes_declarations && (is_type && not colon)) ≡ false → nat_le (place.around + 2) limit ≡ false → AtName limit place b outer n colon unit us ys ≡ Err (large Depth 257)
label_deep limit place b outer n colon is_type unit us ys e f h w = name_is limit place b outer n colon is_type false false unit us ys e h (ap (λ x. nat_le (place.around + (if x then 2 else 1)) limit) f ∙ w)

label_read : (limit : ℕ) (place : Place) (b : Scope) (outer : Blocks) (n : Name) (colon is_type : Bool) (unit us ys : List Token) → b n ≡ is_type → (is_type || colon) ≡ true → (place.takes_declarations && (is_type && not colon)) ≡ false → nat_le (place.around + 2) limit ≡ true → AtName limit place b outer n colon unit us ys ≡ label_begun (pos_here ys) (b ∷ outer) ys
label_read limit place b outer n colon is_type unit us ys e f h w = name_is limit place b outer n colon is_type false true unit us ys e h (ap (λ x. nat_le (place.around + (if x then 2 else 1)) limit) f ∙ w) ∙ ap (λ x. statement_begun limit (signs.Name n) x (b ∷ outer) ys) f

-- a label is no fault of its name
label_fine : (limit : ℕ) (place : Place) (b : Scope) (outer : Blocks) (n : Name) (l : Pos) (colon is_type : Bool) → b n ≡ is_type → (is_type || colon) ≡ true → (place.takes_declarations && (is_type && not colon)) ≡ false → nat_le (place.around + 2) limit ≡ true → NotAtOnce (AtName limit place b outer n colon) (name_token n l)
label_fine limit place b outer n l colon is_type e f h w fault again =
    let ts : List Token = name_token n l ∷ mark_token marks.Colon ∷ last ∷ [] in
    answered (AtName limit place b outer n colon ts ts ts) (begun_open (in_head (in_label l n)), last ∷ [], b ∷ outer) fault (label_read limit place b outer n colon is_type ts ts ts e f h w) (again ts ts (mark_token marks.Colon ∷ last ∷ []) (omega arith) (omega arith))

eval_fine : (limit : ℕ) (place : Place) (b : Scope) (outer : Blocks) (n : Name) (l : Pos) → 1 ≤ limit → b n ≡ false → nat_le (place.around + 1) limit ≡ true → NotAtOnce (AtName limit place b outer n false) (name_token n l)
eval_fine limit place b outer n l one e w fault again =
    let ts : List Token = name_token n l ∷ semicolon ∷ last ∷ [] in
    let a = eval_answers limit b outer n l l one e in
    answered (AtName limit place b outer n false ts ts ts) a.0 fault (name_is limit place b outer n false false false true ts ts ts e (and_right place.takes_declarations false refl) w ∙ a.1) (again ts ts (semicolon ∷ last ∷ []) (omega arith) (omega arith))

type_fine : (limit : ℕ) (place : Place) (b : Scope) (outer : Blocks) (n : Name) (l : Pos) → 1 ≤ limit → b n ≡ true → place.takes_declarations ≡ true → NotAtOnce (AtName limit place b outer n false) (name_token n l)
type_fine limit place b outer n l one e takes fault again =
    let ts : List Token = name_token n l ∷ semicolon ∷ last ∷ [] in
    let a = declaration_answers limit b outer n l one e in
    answered (AtName limit place b outer n false ts ts ts) a.0 fault (name_is limit place b outer n false true true (nat_le (place.around + 2) limit) ts ts ts e (ap (λ x. x && true) takes) refl ∙ a.1) (again ts ts (semicolon ∷ last ∷ []) (omega arith) (omega arith))

-- a name at the place
fits_one : (around limit : ℕ) → nat_le (around + 1) limit ≡ false → nat_le (around + 2) limit ≡ false
fits_one around limit e = let over = leb-false (around + 1) limit e in lt-leb (around + 2) limit (omega (arith, over))

-- nothing fits
all_deep : (limit : ℕ) (place : Place) (b : Scope) (outer : Blocks) (n : Name) (colon : Bool) (unit us ys : List Token) → b n ≡ false → nat_le (place.around + 1) limit ≡ false → AtName limit place b outer n colon unit us ys ≡ Err (large Depth 257)
all_deep limit place b outer n true unit us ys e w = name_is limit place b outer n true false false false unit us ys e (and_right place.takes_declarations false refl) (fits_one place.around limit w)
all_deep limit place b outer n false unit us ys e w = name_is limit place b outer n false false false false unit us ys e (and_right place.takes_declarations false refl) w

name_goes : (limit around : ℕ) (b : Scope) (n : Name) (l : Pos) → b n ≡ false → around + 1 ≤ limit → 1 ≤ limit → Continues (statement b) (placed_depth around) limit (name_token n l ∷ [])
name_goes limit around b n l e room one = record { tree = t.eval l (Some (t.name l n)); more = semicolon ∷ []; derives = (refl, (name_token n l ∷ [], semicolon ∷ [], refl, (e, refl), (somewhere, refl))); within = omega (arith, room, one) }

type_goes : (limit : ℕ) (b : Scope) (n : Name) (l : Pos) → b n ≡ true → 1 ≤ limit → Continues (declaration b) decl_depth limit (name_token n l ∷ [])
type_goes limit b n l e one = record { tree = type_declaration n l; more = semicolon ∷ []; derives = type_declared b n l e; within = one }

-- the colon of a label goes on within a greater limit
label_deeper : (limit : ℕ) (b : Scope) (place : Place) (goes : Going) (n : Name) (l : Pos) (u : Token) (rest : List Token) → Goes limit b place goes → colon_follows (name_token n l ∷ u ∷ rest) ≡ true → (more : ℕ) × (limit ≤ more) × goes more (name_token n l ∷ u ∷ [])
label_deeper limit b place goes n l u rest g c =
    let m = marked marks.Colon u (ap (λ v. is_mark marks.Colon (sign_of v.kind)) (sym (here_is u rest)) ∙ c) in
    (limit + (place.around + 2), omega arith, g.placed (limit + (place.around + 2)) (name_token n l ∷ u ∷ []) (omega arith) (record { tree = t.label l n empty; more = semicolon ∷ []; derives = (name_token n l ∷ [], u ∷ semicolon ∷ [], refl, refl, (u ∷ [], semicolon ∷ [], refl, m, refl)); within = omega arith }))

-- where no declaration may stand a type's name is always a label
label_always : (limit : ℕ) (place : Place) (b : Scope) (outer : Blocks) (n : Name) (colon : Bool) (unit us ys : List Token) → b n ≡ true → place.takes_declarations ≡ false → AtName limit place b outer n colon unit us ys ≡ (if nat_le (place.around + 2) limit then label_begun (pos_here ys) (b ∷ outer) ys else Err (large Depth 257))
label_always limit place b outer n colon unit us ys e takes = name_is limit place b outer n colon true false (nat_le (place.around + 2) limit) unit us ys e (ap (λ x. x && not colon) takes) refl

-- that is no type: an expression, or a label by its colon
free_place : (limit : ℕ) (b : Scope) (outer : Blocks) (place : Place) (goes : Going) (n : Name) (l : Pos) (colon one_fits two_fits : Bool) (u : Token) (unit us rest : List Token) → Goes limit b place goes → b n ≡ false → colon_follows (name_token n l ∷ u ∷ rest) ≡ colon → nat_le (place.around + 1) limit ≡ one_fits → nat_le (place.around + 2) limit ≡ two_fits → 1 ≤ limit
    → Stop limit 0 1 0 goes (TakesBegun limit b outer place) (AtName limit place b outer n (colon_follows (name_token n l ∷ u ∷ rest))) unit us (name_token n l ∷ u ∷ rest)
    → Stop limit 0 1 0 goes (TakesBegun limit b outer place) (λ unit us ys. AtName limit place b outer n (colon_follows ys) unit us ys) unit us (name_token n l ∷ u ∷ rest)
free_place limit b outer place goes n l colon false two_fits u unit us rest g e c one two small h = stop_alike limit 0 1 0 goes (TakesBegun limit b outer place) (AtName limit place b outer n (colon_follows (name_token n l ∷ u ∷ rest))) (λ unit us ys. AtName limit place b outer n (colon_follows ys) unit us ys) (name_token n l ∷ u ∷ rest) (AtName limit place b outer n (colon_follows (name_token n l ∷ u ∷ rest)) unit us (name_token n l ∷ u ∷ rest))
    (λ unit us ys some. all_deep limit place b outer n (colon_follows ys) unit us ys e one ∙ sym (all_deep limit place b outer n (colon_follows (name_token n l ∷ u ∷ rest)) unit us ys e one)) h
free_place limit b outer place goes n l false true two_fits u unit us rest g e c one two small h = second_stops limit goes (TakesBegun limit b outer place) (AtName limit place b outer n) (name_token n l) unit us (u ∷ rest) (subst (λ x. NotAtOnce (AtName limit place b outer n x) (name_token n l)) (sym c) (eval_fine limit place b outer n l small e one)) h
free_place limit b outer place goes n l true true true u unit us rest g e c one two small h = second_stops limit goes (TakesBegun limit b outer place) (AtName limit place b outer n) (name_token n l) unit us (u ∷ rest) (subst (λ x. NotAtOnce (AtName limit place b outer n x) (name_token n l)) (sym c) (label_fine limit place b outer n l true false e refl (and_right place.takes_declarations false refl) two)) h
free_place limit b outer place goes n l true true false u unit us rest g e c one two small h = deep_second limit goes (TakesBegun limit b outer place) (AtName limit place b outer n) (name_token n l) u unit us rest
    (λ unit us ys. ap (λ x. AtName limit place b outer n x unit us ys) c ∙ label_deep limit place b outer n true false unit us ys e refl (and_right place.takes_declarations false refl) two)
    (g.placed limit (name_token n l ∷ []) (omega arith) (name_goes limit place.around b n l e (leb-true (place.around + 1) limit one) small))
    (label_deeper limit b place goes n l u rest g c)

-- that is a type: a declaration where one may stand, or a label by its colon
type_place : (limit : ℕ) (b : Scope) (outer : Blocks) (place : Place) (goes : Going) (n : Name) (l : Pos) (takes colon two_fits : Bool) (u : Token) (unit us rest : List Token) → Goes limit b place goes → b n ≡ true → place.takes_declarations ≡ takes → colon_follows (name_token n l ∷ u ∷ rest) ≡ colon → nat_le (place.around + 2) limit ≡ two_fits → 1 ≤ limit
    → Stop limit 0 1 0 goes (TakesBegun limit b outer place) (AtName limit place b outer n (colon_follows (name_token n l ∷ u ∷ rest))) unit us (name_token n l ∷ u ∷ rest)
    → Stop limit 0 1 0 goes (TakesBegun limit b outer place) (λ unit us ys. AtName limit place b outer n (colon_follows ys) unit us ys) unit us (name_token n l ∷ u ∷ rest)
type_place limit b outer place goes n l false colon two_fits u unit us rest g e takes c two small h = stop_alike limit 0 1 0 goes (TakesBegun limit b outer place) (AtName limit place b outer n (colon_follows (name_token n l ∷ u ∷ rest))) (λ unit us ys. AtName limit place b outer n (colon_follows ys) unit us ys) (name_token n l ∷ u ∷ rest) (AtName limit place b outer n (colon_follows (name_token n l ∷ u ∷ rest)) unit us (name_token n l ∷ u ∷ rest))
    (λ unit us ys some. label_always limit place b outer n (colon_follows ys) unit us ys e takes ∙ sym (label_always limit place b outer n (colon_follows (name_token n l ∷ u ∷ rest)) unit us ys e takes)) h
type_place limit b outer place goes n l true false two_fits u unit us rest g e takes c two small h = second_stops limit goes (TakesBegun limit b outer place) (AtName limit place b outer n) (name_token n l) unit us (u ∷ rest) (subst (λ x. NotAtOnce (AtName limit place b outer n x) (name_token n l)) (sym c) (type_fine limit place b outer n l small e takes)) h
type_place limit b outer place goes n l true true true u unit us rest g e takes c two small h = second_stops limit goes (TakesBegun limit b outer place) (AtName limit place b outer n) (name_token n l) unit us (u ∷ rest) (subst (λ x. NotAtOnce (AtName limit place b outer n x) (name_token n l)) (sym c) (label_fine limit place b outer n l true true e refl (and_right place.takes_declarations false refl) two)) h
type_place limit b outer place goes n l true true false u unit us rest g e takes c two small h = deep_second limit goes (TakesBegun limit b outer place) (AtName limit place b outer n) (name_token n l) u unit us rest
    (λ unit us ys. ap (λ x. AtName limit place b outer n x unit us ys) c ∙ label_deep limit place b outer n true true unit us ys e refl (and_right place.takes_declarations false refl) two)
    (g.declared takes limit (name_token n l ∷ []) (omega arith) (type_goes limit b n l e small))
    (label_deeper limit b place goes n l u rest g c)

either_place : (limit : ℕ) (b : Scope) (outer : Blocks) (place : Place) (goes : Going) (n : Name) (l : Pos) (is_type : Bool) (u : Token) (unit us rest : List Token) → Goes limit b place goes → b n ≡ is_type → 1 ≤ limit
    → Stop limit 0 1 0 goes (TakesBegun limit b outer place) (AtName limit place b outer n (colon_follows (name_token n l ∷ u ∷ rest))) unit us (name_token n l ∷ u ∷ rest)
    → Stop limit 0 1 0 goes (TakesBegun limit b outer place) (λ unit us ys. AtName limit place b outer n (colon_follows ys) unit us ys) unit us (name_token n l ∷ u ∷ rest)
either_place limit b outer place goes n l false u unit us rest g e small h = free_place limit b outer place goes n l (colon_follows (name_token n l ∷ u ∷ rest)) (nat_le (place.around + 1) limit) (nat_le (place.around + 2) limit) u unit us rest g e refl refl refl small h
either_place limit b outer place goes n l true u unit us rest g e small h = type_place limit b outer place goes n l place.takes_declarations (colon_follows (name_token n l ∷ u ∷ rest)) (nat_le (place.around + 2) limit) u unit us rest g e refl refl refl small h

keyword_unnamed : (k : Keyword) → name_of (sign_of_keyword k) ≡ None
keyword_unnamed keywords.Sizeof = refl
keyword_unnamed _ = refl

punct_unnamed : (p : Punct) → name_of (sign_of_punct p) ≡ None
punct_unnamed puncts.OpenParen = refl
punct_unnamed _ = refl

-- whether the reading is by the colon
abbrev AtPlace : ℕ → Place → Scope → Blocks → Going → List Token → List Token → TokenKind → Pos → List Token → Type 0
AtPlace limit place b outer goes unit us k l ts = Stop limit 0 1 0 goes (TakesBegun limit b outer place) (λ unit us ys. begun_by limit unit place (sign_here (token k l ∷ ts)) (is_type_here (b ∷ outer) (token k l ∷ ts)) (colon_follows ys) (b ∷ outer) ys) unit us (token k l ∷ ts)

unnamed_place : (limit : ℕ) (b : Scope) (outer : Blocks) (place : Place) (goes : Going) (unit us : List Token) (k : TokenKind) (l : Pos) (ts : List Token) → Goes limit b place goes → 1 ≤ limit → place.around ≤ limit → FewTypes (b ∷ outer) → EndsIn (token k l ∷ ts) → length (token k l ∷ ts) ≤ length unit → name_of (sign_of k) ≡ None → AtPlace limit place b outer goes unit us k l ts
unnamed_place limit b outer place goes unit us k l ts g one low few ends fit e = stop_alike limit 0 1 0 goes (TakesBegun limit b outer place) (λ unit us ys. begun_by limit unit place (sign_here (token k l ∷ ts)) (is_type_here (b ∷ outer) (token k l ∷ ts)) (colon_follows (token k l ∷ ts)) (b ∷ outer) ys) (λ unit us ys. begun_by limit unit place (sign_here (token k l ∷ ts)) (is_type_here (b ∷ outer) (token k l ∷ ts)) (colon_follows ys) (b ∷ outer) ys) (token k l ∷ ts) (begun_by limit unit place (sign_here (token k l ∷ ts)) (is_type_here (b ∷ outer) (token k l ∷ ts)) (colon_follows (token k l ∷ ts)) (b ∷ outer) (token k l ∷ ts))
    (λ unit us ys some. no_colon limit (sign_here (token k l ∷ ts)) unit place (is_type_here (b ∷ outer) (token k l ∷ ts)) (colon_follows ys) (colon_follows (token k l ∷ ts)) (b ∷ outer) ys (ap (λ v. name_of (sign_of v.kind)) (here_is (token k l) ts) ∙ e))
    (begun_stops limit b outer place goes (colon_follows (token k l ∷ ts)) unit us (token k l ∷ ts) g one low few ends fit)

kind_place : (limit : ℕ) (b : Scope) (outer : Blocks) (place : Place) (goes : Going) (unit us : List Token) (k : TokenKind) (l : Pos) (ts : List Token) → Goes limit b place goes → 1 ≤ limit → place.around ≤ limit → FewTypes (b ∷ outer) → EndsIn (token k l ∷ ts) → length (token k l ∷ ts) ≤ length unit → AtPlace limit place b outer goes unit us k l ts
kind_place limit b outer place goes unit us (kinds.Keyword k) l ts g one low few ends fit = unnamed_place limit b outer place goes unit us (kinds.Keyword k) l ts g one low few ends fit (keyword_unnamed k)
kind_place limit b outer place goes unit us (kinds.Name n) l [] g one low few ends fit = absurd cc
kind_place limit b outer place goes unit us (kinds.Name n) l (u ∷ ts) g one low few ends fit = either_place limit b outer place goes n l (b n) u unit us ts g refl one (begun_stops limit b outer place goes (colon_follows (name_token n l ∷ u ∷ ts)) unit us (name_token n l ∷ u ∷ ts) g one low few ends fit)
kind_place limit b outer place goes unit us (kinds.Number ty n) l ts g one low few ends fit = unnamed_place limit b outer place goes unit us (kinds.Number ty n) l ts g one low few ends fit refl
kind_place limit b outer place goes unit us (kinds.Text bs) l ts g one low few ends fit = unnamed_place limit b outer place goes unit us (kinds.Text bs) l ts g one low few ends fit refl
kind_place limit b outer place goes unit us (kinds.Punct p) l ts g one low few ends fit = unnamed_place limit b outer place goes unit us (kinds.Punct p) l ts g one low few ends fit (punct_unnamed p)
kind_place limit b outer place goes unit us kinds.End l ts g one low few ends fit = unnamed_place limit b outer place goes unit us kinds.End l ts g one low few ends fit refl

-- what begins at the place
pub place_stops : (limit : ℕ) (b : Scope) (outer : Blocks) (place : Place) (goes : Going) (unit us ts : List Token) → Goes limit b place goes → 1 ≤ limit → place.around ≤ limit → FewTypes (b ∷ outer) → EndsIn ts → length ts ≤ length unit
    → Stop limit 0 1 0 goes (TakesBegun limit b outer place) (λ unit us ys. begun_at limit unit place (b ∷ outer) ys) unit us ts
place_stops limit b outer place goes unit us [] g one low few ends fit = absurd ends
place_stops limit b outer place goes unit us (tok ∷ ts) g one low few ends fit = stop_by_first limit 0 1 0 goes (TakesBegun limit b outer place) (λ x unit us ys. begun_by limit unit place (sign_of x.kind) (names_type (b ∷ outer) (name_of (sign_of x.kind))) (colon_follows ys) (b ∷ outer) ys) unit us (tok ∷ ts)
    (kind_place limit b outer place goes unit us tok.kind tok.pos ts g one low few ends fit)
