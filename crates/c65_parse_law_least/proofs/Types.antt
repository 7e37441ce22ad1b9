-- Type names: specifiers, and behind them a declarator without a name (C90 6.5.5).
use Rattle.std.proofs.Common.{◌≡◌, ℕ, ◌≤◌, List, [], ◌∷◌, ◌++◌, Bool, true, false, refl, sym, ap, ◌∙◌, subst, append_assoc, arith}
use Rattle.std.proofs.lemmas.Bool.{ne_eqb}
use Rattle.std.specs.Prelude.{Ok, Err, nat_eq, if◌then◌else◌}
use Rattle.c65_base.specs.Answers.{Fault, large, ◌>>=◌}
use Rattle.c65_base.specs.declared.refusal.Pos.{Pos}
use Rattle.c65_base.specs.declared.refusal.Size.TheVariants.{Depth}
use Rattle.c65_scan.specs.declared.token.Punct.TheVariants as puncts
use Rattle.c65_scan.specs.declared.token.Token.{Token}
use Rattle.c65_scan.specs.declared.token.TokenKind.TheVariants as kinds
use Rattle.c65_tree.specs.Trees as t
use Rattle.c65_tree.specs.Depth.{specifiers_depth, type_depth}
use Rattle.c65_parse_trees.specs.Listings.{Listed, nothing_listed}
use Rattle.c65_parse_names.specs.Scopes.{Blocks}
use Rattle.c65_parse.specs.declared.frame.Sort.TheVariants as sorts
use Rattle.c65_parse.specs.Frames.{declarator, specifiers, Done, done_expr, done_specifiers, done_declarator, Held, stop}
use Rattle.c65_parse.specs.Declarators.{close_declarator, declarator_end, without_name, declarator_step}
use Rattle.c65_parse.specs.Machine.{Reading, run, step, fault_at}
use Rattle.c65_parse.specs.Reading.{Answer, token_at, as_specifiers, as_declarator, declarator_read, type_behind, type_read}
use Rattle.c65_parse_grammar.specs.Phrases.{token}
use Rattle.c65_parse_grammar.specs.Scopes.{Scope, after_type}
use Rattle.c65_parse_grammar.specs.Expressions as g
use Rattle.c65_parse_grammar.specs.Readings.{Continues}
use Rattle.c65_parse_law_sound.proofs.Derivations.{types_are_derived}
use Rattle.c65_parse_law_sound.proofs.Got.{EndsIn, ends_behind}
use Rattle.c65_parse_law_sound.proofs.Within.{types_are_within}
use Rattle.c65_parse_law_trees.proofs.Runs.{then_run}
use Rattle.c65_parse_law_trees.proofs.Top.{types_are_read}
use Rattle.c65_parse_law_faults.specs.Faults.{IsFaultOf}
use Rattle.c65_parse_law_faults.proofs.Local.{here_is, fault_of}
use Rattle.c65_parse_law_faults.proofs.Whole.{ends_in}
use Rattle.c65_parse_law_least.specs.Viable.{FewTypes, TypesStop}
use Rattle.c65_parse_law_least.proofs.Places.{of_specifiers, of_declarator}
use Rattle.c65_parse_law_least.proofs.Closings.{Some}
use Rattle.c65_parse_law_least.proofs.Growing.{run_still}
use Rattle.c65_parse_law_least.proofs.Stopping.{Goes, Deeper, Stopped, Rested, Outcome, outcome}
use Rattle.c65_parse_law_least.proofs.Halting.{Halts, stops_by}
use Rattle.c65_parse_law_least.proofs.Whole.{head_or, continues, none, some_specifiers, a_declarator}

abbrev words : Held
words = specifiers (nothing_listed false)

abbrev behind_words : (limit : ℕ) → Listed × List Token × Blocks → Answer t.TypeTree
behind_words limit q = type_behind limit q.0 q.2 q.1

abbrev of_words : (limit : ℕ) → Reading → Answer t.TypeTree
of_words limit r = (r >>= as_specifiers) >>= behind_words limit

abbrev with_declarator : t.SpecifiersTree → t.DeclaratorTree × List Token × Blocks → Answer t.TypeTree
with_declarator q d = Ok (t.type_name q d.0, d.1, d.2)

-- with other tokens behind them these are a type name before an end
record TypeGoes (limit : ℕ) (scope : Blocks) (l : Pos) (before : List Token) : Type 0 where
  more : List Token
  tree : t.TypeTree
  behind : Blocks
  are : type_read limit scope (before ++ (more ++ token kinds.End l ∷ [])) ≡ Ok (tree, token kinds.End l ∷ [], behind)

-- within some greater limit
abbrev TypeDeeper : (limit : ℕ) → Blocks → Pos → List Token → Type 0
TypeDeeper limit scope l before = (more : ℕ) × (limit ≤ more) × TypeGoes more scope l before

-- the tokens before a fault go on, and where it is that of depth, with its own within a greater limit
record TypeStopped (limit : ℕ) (scope : Blocks) (l : Pos) (ts : List Token) (fault : Fault) : Type 0 where
  before : List Token
  next : Token
  others : List Token
  tokens_are : ts ≡ before ++ next ∷ others
  fault_is : IsFaultOf next fault
  again : (more : List Token) → type_read limit scope (before ++ next ∷ more) ≡ Err fault
  goes : TypeGoes limit scope l before
  deeper : fault ≡ large Depth 257 → TypeDeeper limit scope l (before ++ next ∷ [])

-- and behind an answer few names are types
abbrev Typed : (limit : ℕ) → Blocks → Pos → List Token → Answer t.TypeTree → Type 0
Typed limit scope l ts (Ok (ty, rest, behind)) = FewTypes behind
Typed limit scope l ts (Err fault) = TypeStopped limit scope l ts fault

-- no declarator before an end
nameless_step : (limit : ℕ) (scope : Blocks) (l : Pos) → step limit 0 scope [] (declarator sorts.Abstract) (token kinds.End l) ≡ stop (done_declarator (t.nameless l))
unfolding step declarator_step without_name declarator_end close_declarator
nameless_step limit scope l = refl

nameless_read : (limit : ℕ) (scope : Blocks) (l : Pos) → declarator_read limit sorts.Abstract scope (token kinds.End l ∷ []) ≡ Ok (t.nameless l, token kinds.End l ∷ [], scope)
nameless_read limit scope l = ap (λ n. then_run limit 0 scope (token kinds.End l) [] n >>= as_declarator) (nameless_step limit scope l)

behind_some : (limit : ℕ) (q : Listed) (scope : Blocks) (ts : List Token) (b : Bool) → nat_eq (specifiers_depth q.tree) 0 ≡ b → type_behind limit q scope ts ≡ (if b then Err (fault_at (token_at ts 0)) else (declarator_read limit sorts.Abstract scope ts >>= with_declarator q.tree))
behind_some limit q scope ts b e = ap (λ b. if b then Err (fault_at (token_at ts 0)) else (declarator_read limit sorts.Abstract scope ts >>= with_declarator q.tree)) e

whole_type : (limit : ℕ) (scope : Blocks) (l : Pos) (ts : List Token) (d : Done) (q : Listed) (behind : Blocks) → d ≡ done_specifiers q → Some d → run limit 0 scope [] words ts ≡ Ok (d, token kinds.End l ∷ [], behind) → type_read limit scope ts ≡ Ok (t.type_name q.tree (t.nameless l), token kinds.End l ∷ [], behind)
whole_type limit scope l ts d q behind is some e =
    let deep = subst Some is some in
    ap (of_words limit) (e ∙ ap (λ d. Ok (d, token kinds.End l ∷ [], behind)) is)
    ∙ (behind_some limit q behind (token kinds.End l ∷ []) false (ne_eqb (specifiers_depth q.tree) 0 (λ z. omega (arith, z, deep)))
    ∙ ap (λ r. r >>= with_declarator q.tree) (nameless_read limit behind l))

words_go : (limit : ℕ) (scope : Blocks) (l : Pos) (before : List Token) → Goes limit of_specifiers l 0 scope [] words before → TypeGoes limit scope l before
words_go limit scope l before h =
    let it = some_specifiers h.tree h.sort in
    record { more = h.more; tree = t.type_name it.0.tree (t.nameless l); behind = h.behind; are = whole_type limit scope l (before ++ (h.more ++ token kinds.End l ∷ [])) h.tree it.0 h.behind it.1 h.some h.are }

-- the fault is among the specifiers
words_stopped : (limit : ℕ) (scope : Blocks) (l : Pos) (ts : List Token) (fault : Fault) → Stopped limit of_specifiers l 0 scope [] words ts fault → TypeStopped limit scope l ts fault
words_stopped limit scope l ts fault s = record { before = s.before; next = s.next; others = s.others; tokens_are = s.tokens_are; fault_is = s.fault_is; again = λ more. ap (of_words limit) (s.again more); goes = words_go limit scope l s.before s.goes; deeper = λ k. let d = s.deeper k in (d.0, d.1, words_go d.0 scope l (s.before ++ s.next ∷ []) d.2) }

-- the fault is the first token behind them
first_stopped : (limit : ℕ) (scope : Blocks) (l : Pos) (ts : List Token) (fault : Fault) (q : Listed) (rest : List Token) (later : Blocks) (h : Rested limit of_specifiers l 0 scope [] words ts (done_specifiers q) rest later) → IsFaultOf h.next fault → ((more : List Token) → type_behind limit q later (h.next ∷ more) ≡ Err fault) → (fault ≡ large Depth 257 → TypeDeeper limit scope l (h.before ++ h.next ∷ [])) → TypeStopped limit scope l ts fault
first_stopped limit scope l ts fault q rest later h is again deeper = record { before = h.before; next = h.next; others = h.others; tokens_are = h.tokens_are; fault_is = is; again = λ more. ap (of_words limit) (h.again more) ∙ again more; goes = words_go limit scope l h.before h.goes; deeper = deeper }

empty_stopped : (limit : ℕ) (scope : Blocks) (l : Pos) (ts : List Token) (q : Listed) (rest : List Token) (later : Blocks) → Rested limit of_specifiers l 0 scope [] words ts (done_specifiers q) rest later → nat_eq (specifiers_depth q.tree) 0 ≡ true → TypeStopped limit scope l ts (fault_at (token_at rest 0))
empty_stopped limit scope l ts q rest later h e =
    let there : h.next ≡ token_at rest 0 = sym (here_is h.next h.others) ∙ sym (ap (λ xs. token_at xs 0) h.rest_is) in
    first_stopped limit scope l ts (fault_at (token_at rest 0)) q rest later h (subst (λ x. IsFaultOf h.next (fault_at x)) there (fault_of h.next))
    (λ more. behind_some limit q later (h.next ∷ more) true e ∙ ap (λ x. Err (fault_at x)) (here_is h.next more ∙ there)) (λ k. absurd cc)

-- behind specifiers that end at a token the declarator is read
declarator_behind : (limit : ℕ) (scope : Blocks) (q : Listed) (later : Blocks) (before : List Token) (next : Token) → ((more : List Token) → run limit 0 scope [] words (before ++ next ∷ more) ≡ Ok (done_specifiers q, next ∷ more, later)) → nat_eq (specifiers_depth q.tree) 0 ≡ false
    → (x : Token) (xs ys : List Token) → next ≡ x → type_read limit scope ((before ++ x ∷ xs) ++ ys) ≡ (declarator_read limit sorts.Abstract later ((x ∷ xs) ++ ys) >>= with_declarator q.tree)
declarator_behind limit scope q later before next again e x xs ys is =
    ap (type_read limit scope) (append_assoc before (x ∷ xs) ys ∙ ap (λ y. before ++ y ∷ (xs ++ ys)) (sym is))
    ∙ (ap (of_words limit) (again (xs ++ ys))
    ∙ (behind_some limit q later (next ∷ (xs ++ ys)) false e ∙ ap (λ y. declarator_read limit sorts.Abstract later (y ∷ (xs ++ ys)) >>= with_declarator q.tree) is))

declarator_goes : (limit : ℕ) (scope : Blocks) (l : Pos) (q : Listed) (later : Blocks) (before : List Token) (next : Token) → ((more : List Token) → run limit 0 scope [] words (before ++ next ∷ more) ≡ Ok (done_specifiers q, next ∷ more, later)) → nat_eq (specifiers_depth q.tree) 0 ≡ false
    → (x : Token) (xs : List Token) → next ≡ x → Goes limit of_declarator l 0 later [] (declarator sorts.Abstract) (x ∷ xs) → TypeGoes limit scope l (before ++ x ∷ xs)
declarator_goes limit scope l q later before next again e x xs is h =
    let it = a_declarator h.tree h.sort in
    let last : List Token = token kinds.End l ∷ [] in
    record { more = h.more; tree = t.type_name q.tree it.0; behind = h.behind; are = declarator_behind limit scope q later before next again e x xs (h.more ++ last) is ∙ ap (λ r. (r >>= as_declarator) >>= with_declarator q.tree) (h.are ∙ ap (λ d. Ok (d, last, h.behind)) it.1) }

words_still : (limit more : ℕ) → limit ≤ more → (scope : Blocks) (q : Listed) (later : Blocks) (before : List Token) (next : Token) (others : List Token) → run limit 0 scope [] words (before ++ next ∷ others) ≡ Ok (done_specifiers q, next ∷ others, later) → run more 0 scope [] words (before ++ next ∷ others) ≡ Ok (done_specifiers q, next ∷ others, later)
words_still limit more up scope q later before next others e = run_still limit more up 0 (before ++ next ∷ others) scope [] words (done_specifiers q, next ∷ others, later) e

later_stopped : (limit : ℕ) (scope : Blocks) (l : Pos) (ts : List Token) (fault : Fault) (q : Listed) (rest : List Token) (later : Blocks) → Rested limit of_specifiers l 0 scope [] words ts (done_specifiers q) rest later → nat_eq (specifiers_depth q.tree) 0 ≡ false
    → (before : List Token) (next : Token) (others : List Token) → rest ≡ before ++ next ∷ others → IsFaultOf next fault → ((more : List Token) → run limit 0 later [] (declarator sorts.Abstract) (before ++ next ∷ more) ≡ Err fault) → Goes limit of_declarator l 0 later [] (declarator sorts.Abstract) before
    → (fault ≡ large Depth 257 → Deeper limit of_declarator l 0 later [] (declarator sorts.Abstract) (before ++ next ∷ [])) → TypeStopped limit scope l ts fault
later_stopped limit scope l ts fault q rest later h e [] next others are is again goes deeper =
    let first : next ≡ h.next = sym (ap (head_or h.next) (sym h.rest_is ∙ are)) in
    first_stopped limit scope l ts fault q rest later h (subst (λ x. IsFaultOf x fault) first is)
    (λ more. behind_some limit q later (h.next ∷ more) false e ∙ ap (λ r. (r >>= as_declarator) >>= with_declarator q.tree) (subst (λ x. run limit 0 later [] (declarator sorts.Abstract) (x ∷ more) ≡ Err fault) first (again more)))
    (λ k. let d = deeper k in (d.0, d.1, subst (λ x. TypeGoes d.0 scope l (h.before ++ x ∷ [])) first (declarator_goes d.0 scope l q later h.before h.next (λ more. words_still limit d.0 d.1 scope q later h.before h.next more (h.again more)) e next [] (sym first) d.2)))
later_stopped limit scope l ts fault q rest later h e (x ∷ xs) next others are is again goes deeper =
    let first : h.next ≡ x = ap (head_or h.next) (sym h.rest_is ∙ are) in
    record {
      before = h.before ++ x ∷ xs;
      next = next;
      others = others;
      tokens_are = h.tokens_are ∙ (ap (λ ys. h.before ++ ys) (sym h.rest_is ∙ are) ∙ sym (append_assoc h.before (x ∷ xs) (next ∷ others)));
      fault_is = is;
      again = λ more. declarator_behind limit scope q later h.before h.next h.again e x xs (next ∷ more) first ∙ ap (λ r. (r >>= as_declarator) >>= with_declarator q.tree) (again more);
      goes = declarator_goes limit scope l q later h.before h.next h.again e x xs first goes;
      deeper = λ k. let d = deeper k in (d.0, d.1, subst (TypeGoes d.0 scope l) (sym (append_assoc h.before (x ∷ xs) (next ∷ []))) (declarator_goes d.0 scope l q later h.before h.next (λ more. words_still limit d.0 d.1 scope q later h.before h.next more (h.again more)) e x (xs ++ next ∷ []) first d.2));
    }

declared : (limit : ℕ) (scope : Blocks) (l : Pos) (ts : List Token) (q : Listed) (rest : List Token) (later : Blocks) → Rested limit of_specifiers l 0 scope [] words ts (done_specifiers q) rest later → nat_eq (specifiers_depth q.tree) 0 ≡ false → (r : Reading) → Outcome limit of_declarator l 0 later [] (declarator sorts.Abstract) rest r → Typed limit scope l ts ((r >>= as_declarator) >>= with_declarator q.tree)
declared limit scope l ts q rest later h e (Ok (done_expr x, left, behind)) k = absurd k.kind
declared limit scope l ts q rest later h e (Ok (done_specifiers x, left, behind)) k = absurd k.kind
declared limit scope l ts q rest later h e (Ok (done_declarator d, left, behind)) k = k.few
declared limit scope l ts q rest later h e (Err fault) k = later_stopped limit scope l ts fault q rest later h e k.before k.next k.others k.tokens_are k.fault_is k.again k.goes k.deeper

some_typed : (limit : ℕ) (scope : Blocks) (l : Pos) (ts : List Token) (q : Listed) (rest : List Token) (later : Blocks) → EndsIn ts → Rested limit of_specifiers l 0 scope [] words ts (done_specifiers q) rest later → (b : Bool) → nat_eq (specifiers_depth q.tree) 0 ≡ b → Typed limit scope l ts (if b then Err (fault_at (token_at rest 0)) else (declarator_read limit sorts.Abstract later rest >>= with_declarator q.tree))
some_typed limit scope l ts q rest later ends h true e = empty_stopped limit scope l ts q rest later h e
some_typed limit scope l ts q rest later ends h false e =
    let left : EndsIn rest = subst EndsIn (sym h.rest_is) (ends_behind h.before h.next h.others (subst EndsIn h.tokens_are ends)) in
    declared limit scope l ts q rest later h e (run limit 0 later [] (declarator sorts.Abstract) rest) (outcome limit of_declarator l 0 rest later [] (declarator sorts.Abstract) h.few tt left)

typed : (limit : ℕ) (scope : Blocks) (l : Pos) (ts : List Token) (r : Reading) → EndsIn ts → Outcome limit of_specifiers l 0 scope [] words ts r → Typed limit scope l ts (of_words limit r)
typed limit scope l ts (Ok (done_expr e, rest, behind)) ends h = absurd h.kind
typed limit scope l ts (Ok (done_declarator d, rest, behind)) ends h = absurd h.kind
typed limit scope l ts (Ok (done_specifiers q, rest, behind)) ends h = some_typed limit scope l ts q rest behind ends h (nat_eq (specifiers_depth q.tree) 0) refl
typed limit scope l ts (Err fault) ends h = words_stopped limit scope l ts fault h

type_continues : (limit : ℕ) (sc : Scope) (outer : Blocks) (l : Pos) (before : List Token) → 1 ≤ limit → TypeGoes limit (sc ∷ outer) l before → Continues (g.type_name sc l) type_depth limit before
type_continues limit sc outer l before some h =
    let last : List Token = token kinds.End l ∷ [] in
    let all = before ++ (h.more ++ last) in
    continues limit (g.type_name sc) (after_type sc) outer type_depth l before h.more h.tree h.behind (types_are_derived limit sc outer all h.tree last h.behind h.are) (types_are_within limit some (sc ∷ outer) all h.tree last h.behind h.are)

abbrev pub TypeHalts : (limit : ℕ) → Scope → Blocks → Pos → List Token → Answer t.TypeTree → Type 0
TypeHalts limit sc outer l = Halts limit (g.type_name sc l) type_depth (type_read limit (sc ∷ outer))

type_halts : (limit : ℕ) (sc : Scope) (outer : Blocks) (l : Pos) (ts : List Token) (r : Answer t.TypeTree) → 1 ≤ limit → Typed limit (sc ∷ outer) l ts r → TypeHalts limit sc outer l ts r
type_halts limit sc outer l ts (Ok (ty, rest, behind)) some h = h
type_halts limit sc outer l ts (Err fault) some h =
    let close : Token = token (kinds.Punct puncts.CloseParen) l in
    record {
      before = h.before;
      next = h.next;
      others = h.others;
      tokens_are = h.tokens_are;
      fault_is = h.fault_is;
      goes_on = type_continues limit sc outer l h.before some h.goes;
      none = none limit (type_read limit (sc ∷ outer)) (g.type_name sc l) type_depth fault h.before h.next h.again (λ ts tree p deep. (close ∷ [], _, types_are_read limit sc outer tree ts close [] p deep refl));
      deeper = λ k. let d = h.deeper k in let up = d.1 in (d.0, up, type_continues d.0 sc outer l (h.before ++ h.next ∷ []) (omega (arith, some, up)) d.2);
      again = h.again;
    }

pub type_outcome : (limit : ℕ) (sc : Scope) (outer : Blocks) (l : Pos) (tokens : List Token) → 1 ≤ limit → FewTypes (sc ∷ outer) → EndsIn tokens → TypeHalts limit sc outer l tokens (type_read limit (sc ∷ outer) tokens)
type_outcome limit sc outer l tokens some few ends = type_halts limit sc outer l tokens (type_read limit (sc ∷ outer) tokens) some (typed limit (sc ∷ outer) l tokens (run limit 0 (sc ∷ outer) [] words tokens) ends (outcome limit of_specifiers l 0 tokens (sc ∷ outer) [] words few tt ends))

pub types_stop : TypesStop
types_stop limit sc outer l tokens fault some few ends e = stops_by limit (g.type_name sc l) type_depth (type_read limit (sc ∷ outer)) tokens fault (type_read limit (sc ∷ outer) tokens) (type_outcome limit sc outer l tokens some few (ends_in tokens ends)) e
