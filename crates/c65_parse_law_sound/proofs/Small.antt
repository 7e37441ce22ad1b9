-- That no unit is deeper than the limit.
use Rattle.std.proofs.Common.{◌≡◌, ℕ, suc, ◌+◌, ◌-◌, ◌≤◌, List, [], ◌∷◌, ◌++◌, length, Bool, true, false, refl, subst, arith}
use Rattle.std.proofs.lemmas.Bool.{leb-true}
use Rattle.std.specs.Prelude.{nat_le, nat_eq, Result, Ok, Err, Option, None, Some, if◌then◌else◌, ◌&&◌, not}
use Rattle.c65_base.specs.Answers.{Fault, large, ◌>>=◌}
use Rattle.c65_base.specs.declared.refusal.Pos.{Pos}
use Rattle.c65_base.specs.declared.refusal.Size.TheVariants.{Depth}
use Rattle.c65_scan.specs.declared.token.Token.{Token}
use Rattle.c65_tree.specs.Trees as t
use Rattle.c65_tree.specs.Lists.{of_option, deepest}
use Rattle.c65_tree.specs.Depth.{expr_depth, specifiers_depth, declarator_depth, init_depth, inits_depth, init_declarator_depth, decl_depth, stmt_depth, stmts_depth, inner_depth, inners_depth, function_depth, item_depth, unit_depth}
use Rattle.c65_parse_names.specs.Scopes.{Blocks, opened}
use Rattle.c65_parse.specs.declared.frame.Sort.TheVariants as sorts
use Rattle.c65_parse.specs.Machine.{nothing_there}
use Rattle.c65_parse.specs.Reading.{Answer, after_token, expr_read, specifiers_read, declarator_read}
use Rattle.c65_parse_frames.specs.declared.sign.Sign.{Sign}
use Rattle.c65_parse_frames.specs.declared.sign.Sign.TheVariants as signs
use Rattle.c65_parse_frames.specs.declared.sign.Mark.{Mark}
use Rattle.c65_parse_frames.specs.declared.sign.Mark.TheVariants as marks
use Rattle.c65_parse_frames.specs.Signs.{is_mark, is_label, starts_declaration, least_depth}
use Rattle.c65_parse_frames.specs.Lists.{OpenList, Listed, listed_whole, listed_open, with_initialiser, empty_list}
use Rattle.c65_parse_frames.specs.Frames.{Head, in_label, in_case, in_default, in_else, in_switch, in_while, in_for, Frame, in_head, in_block, in_then, in_do, Plugged, plugged_whole, plugged_open, Begun, begun_open, begun_decl, begun_whole, begun_close, Reached, reached_end, reached_need, place_in, completed, with_declaration}
use Rattle.c65_decl.specs.declared.names.Naming.{Naming}
use Rattle.c65_decl.specs.declared.words.Word.{Word}
use Rattle.c65_decl.specs.declared.words.Word.TheVariants as words
use Rattle.c65_decl.specs.Here.{sign_here, pos_here, is_here, is_type_here, colon_follows, begins_specifiers, unexpected, expected, name_read}
use Rattle.c65_decl.specs.Words.{word_of, is_evaluated, goes_on}
use Rattle.c65_decl.specs.Expressions.{test_read, case_read, ended_read, optional_read}
use Rattle.c65_decl.specs.Declaring.{naming_of, named_read, in_function}
use Rattle.c65_decl.specs.Initialisers.{element_read, list_end, lists_next, lists_closed, list_begun, initialiser_step, initialiser_next, initialiser_run, initialiser_read, optional_init_read}
use Rattle.c65_decl.specs.Decls.{Progress, all_declared, more_declared, with_declarator, next_declarator, last_declarator, behind_declarator, declarators_step, declarators_next, declarators_run, declarators_read, declaration_from, empty_declaration, declarators_begun, declaration_read, with_decl, declarations_run, declarations_read}
use Rattle.c65_decl.specs.Openings.{begun_behind, word_begun, unlabelled_begun, statement_begun, closed_here, begun_at}
use Rattle.c65_decl.specs.Statements.{do_plugged, plugged_next, all_plugged, block_closed, behind_begun, statement_step, statement_next, statement_run, statement_read}
use Rattle.c65_decl.specs.Units.{body_needed, function_read, declared_item, item_read, with_item, items_next, items_run, items_read, whole_unit}
use Rattle.c65_parse_grammar.specs.Parts.{is_empty}
use Rattle.c65_parse_grammar.specs.Scopes.{no_types}
use Rattle.c65_parse_law_sound.specs.Units.{UnitsAreUnits}
use Rattle.c65_parse_law_sound.proofs.Within.{Within, then_within, within_if, expr_within, specifiers_within, declarator_within}
use Rattle.c65_parse_law_sound.proofs.Units.{units_are_derived, ok_is}
use Rattle.c65_parse_law_alike.proofs.Alike.{expr_deep}

-- whatever the first reading answers
then_any : {X B : Type 0} (Q : B → Type 0) (r : Result X Fault) (f : X → Answer B) → ((x : X) → Within Q (f x)) → Within Q (r >>= f)
then_any Q (Ok x) f k = k x
then_any Q (Err e) f k = tt

-- the same tree in another
map_within : {A B : Type 0} (f : A → B) (P : A → Type 0) (Q : B → Type 0) (r : Answer A) → Within P r → ((a : A) → P a → Q (f a)) → Within Q (r >>= (λ e. Ok (f e.0, e.1, e.2)))
map_within f P Q (Ok (a, rest, scope)) h k = k a h
map_within f P Q (Err e) h k = tt

-- and a token behind it
mark_within : {A B : Type 0} (f : A → B) (P : A → Type 0) (Q : B → Type 0) (mark : Mark) (r : Answer A) → Within P r → ((a : A) → P a → Q (f a)) → Within Q (r >>= (λ e. expected mark e.2 e.1 >>= (λ b. Ok (f e.0, b.0, b.1))))
mark_within f P Q mark (Ok (a, rest, scope)) h k = then_any Q (expected mark scope rest) (λ b. Ok (f a, b.0, b.1)) (λ b. k a h)
mark_within f P Q mark (Err e) h k = tt

abbrev SmallExpr : (limit : ℕ) → t.ExprTree → Type 0
SmallExpr limit e = expr_depth e ≤ limit

abbrev SmallOption : (limit : ℕ) → Option t.ExprTree → Type 0
SmallOption limit o = of_option expr_depth o ≤ limit

test_within : (limit : ℕ) (scope : Blocks) (ts : List Token) → Within (SmallExpr limit) (test_read limit scope ts)
test_within limit scope ts = then_any (SmallExpr limit) (expected marks.OpenParen scope ts) _ (λ a. mark_within (λ e. e) (SmallExpr limit) (SmallExpr limit) marks.CloseParen (expr_read limit 0 a.1 a.0) (expr_within limit 0 a.1 a.0) (λ e h. h))

case_within : (limit : ℕ) (scope : Blocks) (ts : List Token) → Within (SmallExpr limit) (case_read limit scope ts)
case_within limit scope ts = mark_within (λ e. e) (SmallExpr limit) (SmallExpr limit) marks.Colon (expr_read limit 2 scope ts) (expr_within limit 2 scope ts) (λ e h. h)

optional_within : (limit : ℕ) (mark : Mark) (scope : Blocks) (ts : List Token) → Within (SmallOption limit) (optional_read limit mark scope ts)
optional_within limit mark scope ts = within_if (SmallOption limit) (is_here mark ts) (Ok (None, after_token ts, scope)) (ended_read limit mark scope ts) (λ e. omega arith) (λ e. mark_within Some (SmallExpr limit) (SmallOption limit) mark (expr_read limit 0 scope ts) (expr_within limit 0 scope ts) (λ e h. h))

named_within : (limit : ℕ) (above : 1 ≤ limit) (naming : Naming) (scope : Blocks) (ts : List Token) → Within (λ d. declarator_depth d ≤ limit) (named_read limit naming scope ts)
named_within limit above naming scope ts = then_within _ _ (declarator_read limit (sorts.Named naming.has_type) scope ts) _ (declarator_within limit above (sorts.Named naming.has_type) scope ts) (λ d rest behind h. h)

-- initialisers
abbrev ListsFit : (limit : ℕ) → List OpenList → Type 0
ListsFit limit [] = Unit {0}
ListsFit limit (l ∷ ls) = (inits_depth l.inits + suc (length ls) ≤ limit) × ListsFit limit ls

abbrev ListedFits : (limit : ℕ) → Listed → Type 0
ListedFits limit (listed_whole i) = init_depth i ≤ limit
ListedFits limit (listed_open ls) = ListsFit limit ls

next_list : (limit : ℕ) (l : OpenList) (ls : List OpenList) (go : t.InitTree → Blocks → List Token → Answer Listed) → inits_depth l.inits + suc (length ls) ≤ limit → ListsFit limit ls → ((i : t.InitTree) (scope : Blocks) (ts : List Token) → init_depth i + length ls ≤ limit → Within (ListedFits limit) (go i scope ts)) → (b : Bool) (ts : List Token) (scope : Blocks) → Within (ListedFits limit) (lists_next go l ls (b, ts, scope))
next_list limit l ls go h j k true ts scope = k (t.list l.place l.inits) scope ts (omega (arith, h))
next_list limit l ls go h j k false ts scope = (h, j)

lists_within : (limit : ℕ) (ls : List OpenList) (i : t.InitTree) (scope : Blocks) (ts : List Token) → ListsFit limit ls → init_depth i + length ls ≤ limit → Within (ListedFits limit) (lists_closed ls i scope ts)
lists_within limit [] i scope ts h k = omega (arith, k)
lists_within limit (l ∷ ls) i scope ts h k = then_any (ListedFits limit) (list_end scope ts) (lists_next (lists_closed ls) (with_initialiser l i) ls) (λ b. next_list limit (with_initialiser l i) ls (lists_closed ls) (let j = h.0 in omega (arith, j, k)) h.1 (λ v inner us m. lists_within limit ls v inner us h.1 m) b.0 b.1 b.2)

room_left : (limit around : ℕ) (r : Answer t.ExprTree) → Within (SmallExpr (limit - around)) r → Within (λ e. expr_depth e + around ≤ limit) r
room_left limit around (Ok (e, rest, scope)) h = let one = expr_deep e in omega (arith, h, one)
room_left limit around (Err e) h = tt

element_within : (limit : ℕ) (around : ℕ) (scope : Blocks) (ts : List Token) → Within (λ e. expr_depth e + around ≤ limit) (element_read limit around scope ts)
element_within limit around scope ts = room_left limit around (expr_read (limit - around) 1 scope ts) (expr_within (limit - around) 1 scope ts)

init_step_within : (limit : ℕ) (ls : List OpenList) (scope : Blocks) (ts : List Token) → ListsFit limit ls → Within (ListedFits limit) (initialiser_step limit ls scope ts)
init_step_within limit ls scope ts h = within_if (ListedFits limit) (is_here marks.OpenBrace ts) (list_begun limit ls scope ts) (element_read limit (length ls) scope ts >>= (λ e. lists_closed ls (t.value (pos_here ts) e.0) e.2 e.1))
    (λ e. within_if (ListedFits limit) (nat_le (length ls + 2) limit) (Ok (listed_open (empty_list (pos_here ts) ∷ ls), after_token ts, scope)) (Err (large Depth 257)) (λ q. let p = leb-true (length ls + 2) limit q in (omega (arith, p), h)) (λ q. tt))
    (λ e. then_within (λ v. expr_depth v + length ls ≤ limit) (ListedFits limit) (element_read limit (length ls) scope ts) _ (element_within limit (length ls) scope ts) (λ v rest behind k. lists_within limit ls (t.value (pos_here ts) v) behind rest h k))

init_next : (limit : ℕ) (us : List Token) (r : Listed) (ts : List Token) (scope : Blocks) → ListedFits limit r → ((ls : List OpenList) (scope : Blocks) (ts : List Token) → ListsFit limit ls → Within (λ i. init_depth i ≤ limit) (initialiser_run limit us ls scope ts)) → Within (λ i. init_depth i ≤ limit) (initialiser_next (initialiser_run limit us) (r, ts, scope))
init_next limit us (listed_whole i) ts scope h k = h
init_next limit us (listed_open ls) ts scope h k = k ls scope ts h

init_run : (limit : ℕ) (us : List Token) (ls : List OpenList) (scope : Blocks) (ts : List Token) → ListsFit limit ls → Within (λ i. init_depth i ≤ limit) (initialiser_run limit us ls scope ts)
init_run limit [] ls scope ts h = tt
init_run limit (u ∷ us) ls scope ts h = then_within (ListedFits limit) _ (initialiser_step limit ls scope ts) (initialiser_next (initialiser_run limit us)) (init_step_within limit ls scope ts h) (λ r rest behind k. init_next limit us r rest behind k (λ ms inner vs q. init_run limit us ms inner vs q))

optional_init_within : (limit : ℕ) (unit : List Token) (scope : Blocks) (ts : List Token) → Within (λ o. of_option init_depth o ≤ limit) (optional_init_read limit unit scope ts)
optional_init_within limit unit scope ts = within_if _ (is_here marks.Equal ts) (initialiser_read limit unit scope (after_token ts) >>= (λ i. Ok (Some i.0, i.1, i.2))) (Ok (None, ts, scope)) (λ e. map_within Some (λ i. init_depth i ≤ limit) (λ o. of_option init_depth o ≤ limit) (initialiser_read limit unit scope (after_token ts)) (init_run limit unit [] scope (after_token ts) tt) (λ i h. h)) (λ e. omega arith)

-- declarations
pub one_deeper : (limit : ℕ) → {A : Type 0} (f : A → ℕ) (xs : List A) (x : A) → deepest f xs ≤ limit → f x ≤ limit → deepest f (xs ++ x ∷ []) ≤ limit
one_deeper limit f [] x h k = omega (arith, k)
one_deeper limit f (y ∷ xs) x h k = let rest = one_deeper limit f xs x (omega (arith, h)) k in omega (arith, h, rest)

abbrev SmallDeclarators : (limit : ℕ) → List t.InitDeclaratorTree → Type 0
SmallDeclarators limit ds = deepest init_declarator_depth ds ≤ limit

abbrev SmallProgress : (limit : ℕ) → Progress → Type 0
SmallProgress limit (all_declared ds) = SmallDeclarators limit ds
SmallProgress limit (more_declared ds e) = SmallDeclarators limit ds × (declarator_depth e ≤ limit)

behind_within : (limit : ℕ) (above : 1 ≤ limit) (naming : Naming) (ds : List t.InitDeclaratorTree) (scope : Blocks) (ts : List Token) → SmallDeclarators limit ds → Within (SmallProgress limit) (behind_declarator limit naming ds scope ts)
behind_within limit above naming ds scope ts h = within_if (SmallProgress limit) (is_here marks.Comma ts) (next_declarator limit naming ds scope (after_token ts)) (last_declarator ds scope ts)
    (λ e. map_within (more_declared ds) (λ d. declarator_depth d ≤ limit) (SmallProgress limit) (named_read limit naming scope (after_token ts)) (named_within limit above naming scope (after_token ts)) (λ d k. (h, k)))
    (λ e. then_any (SmallProgress limit) (expected marks.Semicolon scope ts) (λ a. Ok (all_declared ds, a.0, a.1)) (λ a. h))

declarators_step_within : (limit : ℕ) (above : 1 ≤ limit) (unit : List Token) (naming : Naming) (ds : List t.InitDeclaratorTree) (e : t.DeclaratorTree) (scope : Blocks) (ts : List Token) → SmallDeclarators limit ds → declarator_depth e ≤ limit → Within (SmallProgress limit) (declarators_step limit unit naming ds e scope ts)
declarators_step_within limit above unit naming ds e scope ts h k = then_within (λ o. of_option init_depth o ≤ limit) (SmallProgress limit) (optional_init_read limit unit scope ts) (λ i. behind_declarator limit naming (with_declarator ds e i.0) i.2 i.1) (optional_init_within limit unit scope ts)
    (λ i rest behind j. behind_within limit above naming (with_declarator ds e i) behind rest (one_deeper limit init_declarator_depth ds (record { declarator = e; init = i }) h (omega (arith, k, j))))

declarators_next_within : (limit : ℕ) (unit : List Token) (naming : Naming) (us : List Token) (r : Progress) (ts : List Token) (scope : Blocks) → SmallProgress limit r → ((ds : List t.InitDeclaratorTree) (e : t.DeclaratorTree) (scope : Blocks) (ts : List Token) → SmallDeclarators limit ds → declarator_depth e ≤ limit → Within (SmallDeclarators limit) (declarators_run limit unit naming us ds e scope ts)) → Within (SmallDeclarators limit) (declarators_next (declarators_run limit unit naming us) (r, ts, scope))
declarators_next_within limit unit naming us (all_declared ds) ts scope h k = h
declarators_next_within limit unit naming us (more_declared ds e) ts scope h k = k ds e scope ts h.0 h.1

declarators_within : (limit : ℕ) (above : 1 ≤ limit) (unit : List Token) (naming : Naming) (us : List Token) (ds : List t.InitDeclaratorTree) (e : t.DeclaratorTree) (scope : Blocks) (ts : List Token) → SmallDeclarators limit ds → declarator_depth e ≤ limit → Within (SmallDeclarators limit) (declarators_run limit unit naming us ds e scope ts)
declarators_within limit above unit naming [] ds e scope ts h k = tt
declarators_within limit above unit naming (u ∷ us) ds e scope ts h k = then_within (SmallProgress limit) (SmallDeclarators limit) (declarators_step limit unit naming ds e scope ts) (declarators_next (declarators_run limit unit naming us)) (declarators_step_within limit above unit naming ds e scope ts h k) (λ r rest behind j. declarators_next_within limit unit naming us r rest behind j (λ es d inner vs p q. declarators_within limit above unit naming us es d inner vs p q))

abbrev SmallDecl : (limit : ℕ) → t.DeclTree → Type 0
SmallDecl limit d = decl_depth d ≤ limit

from_within : (limit : ℕ) (above : 1 ≤ limit) (unit : List Token) (q : t.SpecifiersTree) (e : t.DeclaratorTree) (scope : Blocks) (ts : List Token) → specifiers_depth q ≤ limit → declarator_depth e ≤ limit → Within (SmallDecl limit) (declaration_from limit unit q e scope ts)
from_within limit above unit q e scope ts h k = map_within (λ ds. record { specifiers = q; declarators = ds }) (SmallDeclarators limit) (SmallDecl limit) (declarators_read limit unit (naming_of q) e scope ts) (declarators_within limit above unit (naming_of q) unit [] e scope ts (omega arith) k) (λ ds j. omega (arith, h, j))

declaration_within : (limit : ℕ) (above : 1 ≤ limit) (unit : List Token) (scope : Blocks) (ts : List Token) → Within (SmallDecl limit) (declaration_read limit unit scope ts)
declaration_within limit above unit scope ts = then_within (λ q. specifiers_depth q ≤ limit) (SmallDecl limit) (specifiers_read limit scope ts) _ (specifiers_within limit above scope ts)
    (λ q rest behind h. within_if (SmallDecl limit) (is_here marks.Semicolon rest) (Ok (empty_declaration q behind rest)) (declarators_begun limit unit q behind rest) (λ e. omega (arith, h))
    (λ e. then_within (λ d. declarator_depth d ≤ limit) (SmallDecl limit) (named_read limit (naming_of q) behind rest) _ (named_within limit above (naming_of q) behind rest) (λ d left inner k. from_within limit above unit q d inner left h k)))

abbrev SmallDecls : (limit : ℕ) → List t.DeclTree → Type 0
SmallDecls limit ds = deepest decl_depth ds ≤ limit

declarations_within : (limit : ℕ) (above : 1 ≤ limit) (unit : List Token) (us : List Token) (ds : List t.DeclTree) (scope : Blocks) (ts : List Token) → SmallDecls limit ds → Within (SmallDecls limit) (declarations_run limit unit us ds scope ts)
declarations_within limit above unit [] ds scope ts h = tt
declarations_within limit above unit (u ∷ us) ds scope ts h = within_if (SmallDecls limit) (begins_specifiers scope ts) (declaration_read limit unit scope ts >>= (λ e. declarations_run limit unit us (with_decl ds e.0) e.2 e.1)) (Ok (ds, ts, scope))
    (λ e. then_within (SmallDecl limit) (SmallDecls limit) (declaration_read limit unit scope ts) _ (declaration_within limit above unit scope ts) (λ d rest behind k. declarations_within limit above unit us (with_decl ds d) behind rest (one_deeper limit decl_depth ds d h k)))
    (λ e. h)

-- statements
abbrev HeadFits : (limit : ℕ) → ℕ → Head → Type 0
HeadFits limit n (in_label l m) = Unit {0}
HeadFits limit n (in_case l e) = SmallExpr limit e
HeadFits limit n (in_default l) = Unit {0}
HeadFits limit n (in_else l e r) = SmallExpr limit e × (stmt_depth r + suc n ≤ limit) × (inner_depth r ≤ limit)
HeadFits limit n (in_switch l e) = SmallExpr limit e
HeadFits limit n (in_while l e) = SmallExpr limit e
HeadFits limit n (in_for l e f g) = SmallOption limit e × SmallOption limit f × SmallOption limit g

abbrev FrameFits : (limit : ℕ) → ℕ → Frame → Type 0
FrameFits limit n (in_head h) = HeadFits limit n h
FrameFits limit n (in_block l ds ss) = SmallDecls limit ds × (stmts_depth ss + suc n ≤ limit) × (inners_depth ss ≤ limit)
FrameFits limit n (in_then l e) = SmallExpr limit e
FrameFits limit n (in_do l) = Unit {0}

abbrev FramesFit : (limit : ℕ) → List Frame → Type 0
FramesFit limit [] = Unit {0}
FramesFit limit (f ∷ fs) = FrameFits limit (length fs) f × FramesFit limit fs

-- a statement in so many frames
abbrev StmtFits : (limit : ℕ) → ℕ → t.StmtTree → Type 0
StmtFits limit n s = (stmt_depth s + n ≤ limit) × (inner_depth s ≤ limit)

abbrev ReachedFits : (limit : ℕ) → Reached → Type 0
ReachedFits limit (reached_end s) = StmtFits limit 0 s
ReachedFits limit (reached_need fs) = FramesFit limit fs

head_small : (limit : ℕ) (n : ℕ) (h : Head) (s : t.StmtTree) → HeadFits limit n h → StmtFits limit (suc n) s → StmtFits limit n (completed h s)
head_small limit n (in_label l m) s h k = (let a = k.0 in omega (arith, a), k.1)
head_small limit n (in_case l e) s h k = (let a = k.0 in omega (arith, a), let b = k.1 in omega (arith, h, b))
head_small limit n (in_default l) s h k = (let a = k.0 in omega (arith, a), k.1)
head_small limit n (in_else l e r) s h k = (let a = k.0 in let b = h.1 in omega (arith, a, b), let a = k.1 in let b = h.2 in let c = h.0 in omega (arith, a, b, c))
head_small limit n (in_switch l e) s h k = (let a = k.0 in omega (arith, a), let b = k.1 in omega (arith, h, b))
head_small limit n (in_while l e) s h k = (let a = k.0 in omega (arith, a), let b = k.1 in omega (arith, h, b))
head_small limit n (in_for l e f g) s h k = (let a = k.0 in omega (arith, a), let b = k.1 in let c = h.0 in let d = h.1 in let i = h.2 in omega (arith, b, c, d, i))

abbrev WholeFits : (limit : ℕ) → ℕ → Plugged → Type 0
WholeFits limit n (plugged_whole s) = StmtFits limit n s
WholeFits limit n (plugged_open f) = ⊥

do_small : (limit : ℕ) (n : ℕ) (l : Pos) (s : t.StmtTree) (e : t.ExprTree) → StmtFits limit (suc n) s → SmallExpr limit e → StmtFits limit n (t.do_while l s e)
do_small limit n l s e h k = (let a = h.0 in omega (arith, a), let b = h.1 in omega (arith, b, k))

do_within : (limit : ℕ) (n : ℕ) (l : Pos) (s : t.StmtTree) (scope : Blocks) (ts : List Token) → StmtFits limit (suc n) s → Within (WholeFits limit n) (do_plugged limit l s scope ts)
do_within limit n l s scope ts h = then_any (WholeFits limit n) (expected marks.While scope ts) _ (λ a. mark_within (λ e. plugged_whole (t.do_while l s e)) (SmallExpr limit) (WholeFits limit n) marks.Semicolon (test_read limit a.1 a.0) (test_within limit a.1 a.0) (λ e k. do_small limit n l s e h k))

then_small : (limit : ℕ) (fs : List Frame) (l : Pos) (e : t.ExprTree) (s : t.StmtTree) (scope : Blocks) (ts : List Token) (b : Bool) → FramesFit limit fs → SmallExpr limit e → StmtFits limit (suc (length fs)) s → ((r : t.StmtTree) → StmtFits limit (length fs) r → Within (ReachedFits limit) (all_plugged limit fs r scope ts))
    → Within (ReachedFits limit) ((if b then Ok (plugged_open (in_head (in_else l e s)), after_token ts, scope) else Ok (plugged_whole (t.if_stmt l e s t.no_stmt), ts, scope)) >>= plugged_next (all_plugged limit fs) fs)
then_small limit fs l e s scope ts true h j k f = ((j, k.0, k.1), h)
then_small limit fs l e s scope ts false h j k f = f (t.if_stmt l e s t.no_stmt) (let a = k.0 in omega (arith, a), let b = k.1 in omega (arith, j, b))

whole_next : (limit : ℕ) (fs : List Frame) (r : Plugged) (ts : List Token) (scope : Blocks) → WholeFits limit (length fs) r → ((s : t.StmtTree) (scope : Blocks) (ts : List Token) → StmtFits limit (length fs) s → Within (ReachedFits limit) (all_plugged limit fs s scope ts)) → Within (ReachedFits limit) (plugged_next (all_plugged limit fs) fs (r, ts, scope))
whole_next limit fs (plugged_whole s) ts scope h k = k s scope ts h
whole_next limit fs (plugged_open f) ts scope h k = absurd h

all_within : (limit : ℕ) (fs : List Frame) (s : t.StmtTree) (scope : Blocks) (ts : List Token) → FramesFit limit fs → StmtFits limit (length fs) s → Within (ReachedFits limit) (all_plugged limit fs s scope ts)
all_within limit [] s scope ts h k = k
all_within limit (in_head g ∷ fs) s scope ts h k = all_within limit fs (completed g s) scope ts h.1 (head_small limit (length fs) g s h.0 k)
all_within limit (in_block l ds ss ∷ fs) s scope ts h k = ((h.0.0, let a = h.0.1 in let b = k.0 in omega (arith, a, b), let a = h.0.2 in let b = k.1 in omega (arith, a, b)), h.1)
all_within limit (in_then l e ∷ fs) s scope ts h k = then_small limit fs l e s scope ts (is_here marks.Else ts) h.1 h.0 k (λ r q. all_within limit fs r scope ts h.1 q)
all_within limit (in_do l ∷ fs) s scope ts h k = then_within (WholeFits limit (length fs)) (ReachedFits limit) (do_plugged limit l s scope ts) (plugged_next (all_plugged limit fs) fs) (do_within limit (length fs) l s scope ts k) (λ r rest behind q. whole_next limit fs r rest behind q (λ v inner us m. all_within limit fs v inner us h.1 m))

abbrev BegunFits : (limit : ℕ) → List Frame → Begun → Type 0
BegunFits limit fs (begun_open f) = FrameFits limit (length fs) f
BegunFits limit fs (begun_decl d) = SmallDecl limit d
BegunFits limit fs (begun_whole s) = StmtFits limit (length fs) s
BegunFits limit fs begun_close = Unit {0}

simple_small : (limit : ℕ) (n : ℕ) (s : t.StmtTree) (d : ℕ) → stmt_depth s ≡ 1 → inner_depth s ≡ d → d ≤ limit → 1 + n ≤ limit → StmtFits limit n s
simple_small limit n s d e f h k = (omega (arith, e, k), omega (arith, f, h))

behind_word : (limit : ℕ) (fs : List Frame) (w : Word) (l : Pos) (scope : Blocks) (ts : List Token) → 1 + length fs ≤ limit → Within (BegunFits limit fs) (begun_behind limit w l scope ts)
behind_word limit fs words.Case l scope ts h = map_within (λ e. begun_open (in_head (in_case l e))) (SmallExpr limit) (BegunFits limit fs) (case_read limit scope ts) (case_within limit scope ts) (λ e k. k)
behind_word limit fs words.Default l scope ts h = then_any (BegunFits limit fs) (expected marks.Colon scope ts) _ (λ a. tt)
behind_word limit fs words.If l scope ts h = map_within (λ e. begun_open (in_then l e)) (SmallExpr limit) (BegunFits limit fs) (test_read limit scope ts) (test_within limit scope ts) (λ e k. k)
behind_word limit fs words.Switch l scope ts h = map_within (λ e. begun_open (in_head (in_switch l e))) (SmallExpr limit) (BegunFits limit fs) (test_read limit scope ts) (test_within limit scope ts) (λ e k. k)
behind_word limit fs words.While l scope ts h = map_within (λ e. begun_open (in_head (in_while l e))) (SmallExpr limit) (BegunFits limit fs) (test_read limit scope ts) (test_within limit scope ts) (λ e k. k)
behind_word limit fs words.Do l scope ts h = tt
behind_word limit fs words.For l scope ts h = then_any (BegunFits limit fs) (expected marks.OpenParen scope ts) _ (λ a.
    then_within (SmallOption limit) (BegunFits limit fs) (optional_read limit marks.Semicolon a.1 a.0) _ (optional_within limit marks.Semicolon a.1 a.0) (λ e us b j.
    then_within (SmallOption limit) (BegunFits limit fs) (optional_read limit marks.Semicolon b us) _ (optional_within limit marks.Semicolon b us) (λ f vs c k.
    then_within (SmallOption limit) (BegunFits limit fs) (optional_read limit marks.CloseParen c vs) _ (optional_within limit marks.CloseParen c vs) (λ g ws d i. (j, k, i)))))
behind_word limit fs words.Goto l scope ts h = then_any (BegunFits limit fs) (name_read scope ts) _ (λ n. then_any (BegunFits limit fs) (expected marks.Semicolon n.2 n.1) _ (λ a. simple_small limit (length fs) (t.goto l n.0) 0 refl refl (omega arith) h))
behind_word limit fs words.Continue l scope ts h = then_any (BegunFits limit fs) (expected marks.Semicolon scope ts) _ (λ a. simple_small limit (length fs) (t.continue l) 0 refl refl (omega arith) h)
behind_word limit fs words.Break l scope ts h = then_any (BegunFits limit fs) (expected marks.Semicolon scope ts) _ (λ a. simple_small limit (length fs) (t.break l) 0 refl refl (omega arith) h)
behind_word limit fs words.Return l scope ts h = map_within (λ e. begun_whole (t.return l e)) (SmallOption limit) (BegunFits limit fs) (optional_read limit marks.Semicolon scope ts) (optional_within limit marks.Semicolon scope ts) (λ e k. simple_small limit (length fs) (t.return l e) (of_option expr_depth e) refl refl k h)
behind_word limit fs words.OpenBrace l scope ts h = (omega arith, omega (arith, h), omega arith)

least_evaluated : (sign : Sign) → is_evaluated sign ≡ true → 1 ≤ least_depth sign false
least_evaluated (signs.Name n) e = omega arith
least_evaluated signs.Operand e = omega arith
least_evaluated signs.OpenParen e = omega arith
least_evaluated signs.Semicolon e = omega arith
least_evaluated _ e = absurd cc

least_word : (sign : Sign) (w : Word) → word_of sign ≡ Some w → 1 ≤ least_depth sign false
least_word signs.Case w e = omega arith
least_word signs.Default w e = omega arith
least_word signs.If w e = omega arith
least_word signs.Switch w e = omega arith
least_word signs.While w e = omega arith
least_word signs.Do w e = omega arith
least_word signs.For w e = omega arith
least_word signs.Goto w e = omega arith
least_word signs.Continue w e = omega arith
least_word signs.Break w e = omega arith
least_word signs.Return w e = omega arith
least_word signs.OpenBrace w e = omega arith
least_word _ w e = absurd cc

word_within : (limit : ℕ) (fs : List Frame) (sign : Sign) (o : Option Word) (l : Pos) (scope : Blocks) (ts : List Token) → word_of sign ≡ o → length fs + least_depth sign false ≤ limit → Within (BegunFits limit fs) (word_begun limit o l scope ts)
word_within limit fs sign None l scope ts e h = tt
word_within limit fs sign (Some w) l scope ts e h = behind_word limit fs w l scope (after_token ts) (let least = least_word sign w e in omega (arith, least, h))

unlabelled_within : (limit : ℕ) (fs : List Frame) (sign : Sign) (scope : Blocks) (ts : List Token) → length fs + least_depth sign false ≤ limit → Within (BegunFits limit fs) (unlabelled_begun limit sign scope ts)
unlabelled_within limit fs sign scope ts h = within_if (BegunFits limit fs) (is_evaluated sign) _ _
    (λ e. map_within (λ o. begun_whole (t.eval (pos_here ts) o)) (SmallOption limit) (BegunFits limit fs) (optional_read limit marks.Semicolon scope ts) (optional_within limit marks.Semicolon scope ts) (λ o k. simple_small limit (length fs) (t.eval (pos_here ts) o) (of_option expr_depth o) refl refl k (let least = least_evaluated sign e in omega (arith, least, h))))
    (λ e. word_within limit fs sign (word_of sign) (pos_here ts) scope ts refl h)

statement_begun_within : (limit : ℕ) (fs : List Frame) (sign : Sign) (label : Bool) (scope : Blocks) (ts : List Token) → length fs + least_depth sign label ≤ limit → Within (BegunFits limit fs) (statement_begun limit sign label scope ts)
statement_begun_within limit fs sign true scope ts h = then_any (BegunFits limit fs) (name_read scope ts) _ (λ n. then_any (BegunFits limit fs) (expected marks.Colon n.2 n.1) _ (λ a. tt))
statement_begun_within limit fs sign false scope ts h = unlabelled_within limit fs sign scope ts h

around_is : (fs : List Frame) → (place_in fs).around ≡ length fs
around_is [] = refl
around_is (f ∷ fs) = refl

begun_at_within : (limit : ℕ) (above : 1 ≤ limit) (unit : List Token) (fs : List Frame) (scope : Blocks) (ts : List Token) → Within (BegunFits limit fs) (begun_at limit unit (place_in fs) scope ts)
begun_at_within limit above unit fs scope ts = within_if (BegunFits limit fs) ((place_in fs).in_block && is_mark marks.CloseBrace (sign_here ts)) (Ok (closed_here scope ts)) _ (λ e. tt)
    (λ e. within_if (BegunFits limit fs) ((place_in fs).takes_declarations && starts_declaration (sign_here ts) (is_type_here scope ts) (colon_follows ts)) _ _
    (λ f. map_within begun_decl (SmallDecl limit) (BegunFits limit fs) (declaration_read limit unit scope ts) (declaration_within limit above unit scope ts) (λ d k. k))
    (λ f. within_if (BegunFits limit fs) (nat_le ((place_in fs).around + least_depth (sign_here ts) (is_label (sign_here ts) (is_type_here scope ts) (colon_follows ts))) limit) _ (Err (large Depth 257))
    (λ q. statement_begun_within limit fs (sign_here ts) (is_label (sign_here ts) (is_type_here scope ts) (colon_follows ts)) scope ts (subst (λ n. n + least_depth (sign_here ts) (is_label (sign_here ts) (is_type_here scope ts) (colon_follows ts)) ≤ limit) (around_is fs) (leb-true _ _ q)))
    (λ q. tt)))

declared_small : (limit : ℕ) (fs : List Frame) (d : t.DeclTree) → FramesFit limit fs → SmallDecl limit d → FramesFit limit (with_declaration fs d)
declared_small limit [] d h k = tt
declared_small limit (in_head g ∷ fs) d h k = h
declared_small limit (in_block l ds ss ∷ fs) d h k = ((one_deeper limit decl_depth ds d h.0.0 k, h.0.1, h.0.2), h.1)
declared_small limit (in_then l e ∷ fs) d h k = h
declared_small limit (in_do l ∷ fs) d h k = h

closed_within : (limit : ℕ) (fs : List Frame) (scope : Blocks) (ts : List Token) → FramesFit limit fs → Within (ReachedFits limit) (block_closed limit fs scope ts)
closed_within limit [] scope ts h = tt
closed_within limit (in_head g ∷ fs) scope ts h = tt
closed_within limit (in_block l ds ss ∷ fs) scope ts h = all_within limit fs (t.block l ds ss) scope ts h.1 (let a = h.0.1 in omega (arith, a), let a = h.0.0 in let b = h.0.2 in omega (arith, a, b))
closed_within limit (in_then l e ∷ fs) scope ts h = tt
closed_within limit (in_do l ∷ fs) scope ts h = tt

behind_begun_within : (limit : ℕ) (fs : List Frame) (r : Begun) (ts : List Token) (scope : Blocks) → FramesFit limit fs → BegunFits limit fs r → Within (ReachedFits limit) (behind_begun limit fs (r, ts, scope))
behind_begun_within limit fs (begun_open f) ts scope h k = (k, h)
behind_begun_within limit fs (begun_decl d) ts scope h k = declared_small limit fs d h k
behind_begun_within limit fs (begun_whole s) ts scope h k = all_within limit fs s scope ts h k
behind_begun_within limit fs begun_close ts scope h k = closed_within limit fs scope ts h

statement_next_within : (limit : ℕ) (unit us : List Token) (r : Reached) (ts : List Token) (scope : Blocks) → ReachedFits limit r → ((fs : List Frame) (scope : Blocks) (ts : List Token) → FramesFit limit fs → Within (StmtFits limit 0) (statement_run limit unit us fs scope ts)) → Within (StmtFits limit 0) (statement_next (statement_run limit unit us) (r, ts, scope))
statement_next_within limit unit us (reached_end s) ts scope h k = h
statement_next_within limit unit us (reached_need fs) ts scope h k = k fs scope ts h

statement_within : (limit : ℕ) (above : 1 ≤ limit) (unit us : List Token) (fs : List Frame) (scope : Blocks) (ts : List Token) → FramesFit limit fs → Within (StmtFits limit 0) (statement_run limit unit us fs scope ts)
statement_within limit above unit [] fs scope ts h = tt
statement_within limit above unit (u ∷ us) fs scope ts h = then_within (ReachedFits limit) (StmtFits limit 0) (statement_step limit unit fs scope ts) (statement_next (statement_run limit unit us))
    (then_within (BegunFits limit fs) (ReachedFits limit) (begun_at limit unit (place_in fs) scope ts) (behind_begun limit fs) (begun_at_within limit above unit fs scope ts) (λ r rest behind k. behind_begun_within limit fs r rest behind h k))
    (λ r rest behind k. statement_next_within limit unit us r rest behind k (λ gs inner vs q. statement_within limit above unit us gs inner vs q))

-- units
abbrev SmallItem : (limit : ℕ) → t.ItemTree → Type 0
SmallItem limit i = item_depth i ≤ limit

body_within : (limit : ℕ) (above : 1 ≤ limit) (unit : List Token) (q : t.SpecifiersTree) (d : t.DeclaratorTree) (ds : List t.DeclTree) (scope : Blocks) (ts : List Token) → specifiers_depth q ≤ limit → declarator_depth d ≤ limit → SmallDecls limit ds → Within (λ f. function_depth f ≤ limit) (body_needed limit unit q d ds scope ts)
body_within limit above unit q d ds scope ts h j k = within_if (λ f. function_depth f ≤ limit) (is_here marks.OpenBrace ts) _ (unexpected ts)
    (λ e. then_within (StmtFits limit 0) (λ f. function_depth f ≤ limit) (statement_read limit unit scope ts) _ (statement_within limit above unit unit [] scope ts tt) (λ s rest behind m. let a = m.0 in let b = m.1 in omega (arith, h, j, k, a, b)))
    (λ e. tt)

function_within : (limit : ℕ) (above : 1 ≤ limit) (unit : List Token) (q : t.SpecifiersTree) (d : t.DeclaratorTree) (scope : Blocks) (ts : List Token) → specifiers_depth q ≤ limit → declarator_depth d ≤ limit → Within (λ f. function_depth f ≤ limit) (function_read limit unit q d scope ts)
function_within limit above unit q d scope ts h j = then_within (SmallDecls limit) (λ f. function_depth f ≤ limit) (declarations_read limit unit (in_function d (opened scope)) ts) _ (declarations_within limit above unit unit [] (in_function d (opened scope)) ts (omega arith)) (λ ds rest behind k. body_within limit above unit q d ds behind rest h j k)

declared_item_within : (limit : ℕ) (above : 1 ≤ limit) (unit : List Token) (q : t.SpecifiersTree) (scope : Blocks) (ts : List Token) → specifiers_depth q ≤ limit → Within (SmallItem limit) (declared_item limit unit q scope ts)
declared_item_within limit above unit q scope ts h = then_within (λ d. declarator_depth d ≤ limit) (SmallItem limit) (named_read limit (naming_of q) scope ts) _ (named_within limit above (naming_of q) scope ts)
    (λ d rest behind j. within_if (SmallItem limit) (not (is_empty q) && goes_on (sign_here rest)) _ _
    (λ e. map_within t.declaration (SmallDecl limit) (SmallItem limit) (declaration_from limit unit q d behind rest) (from_within limit above unit q d behind rest h j) (λ v k. k))
    (λ e. map_within t.definition (λ f. function_depth f ≤ limit) (SmallItem limit) (function_read limit unit q d behind rest) (function_within limit above unit q d behind rest h j) (λ v k. k)))

item_within : (limit : ℕ) (above : 1 ≤ limit) (unit : List Token) (scope : Blocks) (ts : List Token) → Within (SmallItem limit) (item_read limit unit scope ts)
item_within limit above unit scope ts = then_within (λ q. specifiers_depth q ≤ limit) (SmallItem limit) (specifiers_read limit scope ts) _ (specifiers_within limit above scope ts)
    (λ q rest behind h. within_if (SmallItem limit) (not (is_empty q) && is_here marks.Semicolon rest) (Ok (t.declaration (record { specifiers = q; declarators = [] }), after_token rest, behind)) _ (λ e. omega (arith, h)) (λ e. declared_item_within limit above unit q behind rest h))

abbrev SmallItems : (limit : ℕ) → Result (List t.ItemTree) Fault → Type 0
SmallItems limit (Ok is) = deepest item_depth is ≤ limit
SmallItems limit (Err e) = Unit {0}

items_if : (limit : ℕ) (b : Bool) (r q : Result (List t.ItemTree) Fault) → SmallItems limit r → SmallItems limit q → SmallItems limit (if b then r else q)
items_if limit true r q h k = h
items_if limit false r q h k = k

items_step : (limit : ℕ) (unit us : List Token) (is : List t.ItemTree) (r : Answer t.ItemTree) → deepest item_depth is ≤ limit → Within (SmallItem limit) r → ((js : List t.ItemTree) (scope : Blocks) (ts : List Token) → deepest item_depth js ≤ limit → SmallItems limit (items_run limit unit us js scope ts)) → SmallItems limit (r >>= (λ i. items_next (items_run limit unit us) (with_item is i.0) i.2 i.1))
items_step limit unit us is (Ok (i, rest, scope)) h k f = let more = one_deeper limit item_depth is i h k in items_if limit (is_here marks.End rest) (Ok (with_item is i)) (items_run limit unit us (with_item is i) scope rest) more (f (with_item is i) scope rest more)
items_step limit unit us is (Err e) h k f = tt

items_within : (limit : ℕ) (above : 1 ≤ limit) (unit us : List Token) (is : List t.ItemTree) (scope : Blocks) (ts : List Token) → deepest item_depth is ≤ limit → SmallItems limit (items_run limit unit us is scope ts)
items_within limit above unit [] is scope ts h = tt
items_within limit above unit (u ∷ us) is scope ts h = items_step limit unit us is (item_read limit unit scope ts) h (item_within limit above unit scope ts) (λ js inner vs k. items_within limit above unit us js inner vs k)

unit_small : (limit : ℕ) (r : Result (List t.ItemTree) Fault) (unit : t.UnitTree) → SmallItems limit r → (r >>= (λ is. Ok (record { items = is }))) ≡ Ok unit → unit_depth unit ≤ limit
unit_small limit (Ok is) unit h e = subst (λ u. unit_depth u ≤ limit) (ok_is (record { items = is }) unit e) h
unit_small limit (Err e) unit h f = absurd cc

some_small : (limit : ℕ) (ts : List Token) (unit : t.UnitTree) (b : Bool) → SmallItems limit (items_read limit ts (no_types ∷ []) ts) → (if b then Err nothing_there else whole_unit limit ts) ≡ Ok unit → unit_depth unit ≤ limit
some_small limit ts unit true h e = absurd cc
some_small limit ts unit false h e = unit_small limit (items_read limit ts (no_types ∷ []) ts) unit h e

pub units_are_units : UnitsAreUnits
units_are_units limit above ts unit once same = record {
  derives = units_are_derived limit ts unit once same;
  within = some_small limit ts unit (nat_eq (length ts) 0) (items_within limit above ts ts [] (no_types ∷ []) ts (omega arith)) same;
}
