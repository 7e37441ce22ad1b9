-- What is open of statements can be closed: where a statement is needed there is one, and where one was read, or goes
-- on, that what is open goes on.
use Rattle.std.proofs.Common.{◌≡◌, ℕ, suc, ◌+◌, ◌≤◌, List, [], ◌∷◌, ◌++◌, length, true, refl, sym, ap, ◌∙◌, subst, append_assoc, arith}
use Rattle.std.proofs.lemmas.List.{append-nil}
use Rattle.std.specs.Prelude.{max, None}
use Rattle.c65_base.specs.declared.refusal.Pos.{Pos}
use Rattle.c65_scan.specs.declared.token.Keyword.TheVariants as keywords
use Rattle.c65_scan.specs.declared.token.Punct.TheVariants as puncts
use Rattle.c65_scan.specs.declared.token.Token.{Token}
use Rattle.c65_tree.specs.Trees as t
use Rattle.c65_tree.specs.Lists.{of_option, deepest}
use Rattle.c65_tree.specs.Depth.{expr_depth, decl_depth, stmt_depth, stmts_depth, inner_depth, inners_depth}
use Rattle.c65_parse_frames.specs.declared.sign.Mark.TheVariants as marks
use Rattle.c65_parse_frames.specs.Frames.{Head, in_label, in_case, in_default, in_else, in_switch, in_while, in_for, Frame, in_head, in_block, in_then, in_do, place_in, completed}
use Rattle.c65_parse_grammar.specs.Phrases.{◌▸◌, word, some_word, some_mark}
use Rattle.c65_parse_grammar.specs.Scopes.{Scope, after, after_decls, after_stmt}
use Rattle.c65_parse_grammar.specs.Statements.{declaration, test, statement}
use Rattle.c65_parse_grammar.specs.Readings.{Continues}
use Rattle.c65_parse_law_sound.proofs.Small.{one_deeper}
use Rattle.c65_parse_law_sound.proofs.Phrases.{both, regroup, ungroup, map_right, attach, before_nothing, behind_nothing}
use Rattle.c65_parse_law_sound.proofs.Declarations.{one_more}
use Rattle.c65_parse_law_sound.proofs.Openings.{head_scope, inside, scope_in, stmt_front, stmt_fronts}
use Rattle.c65_parse_law_sound.proofs.Statements.{head_built, only_first}
use Rattle.c65_parse_law_sound.proofs.Small.{one_deeper}
use Rattle.c65_parse_law_least.proofs.Closings.{zero_tree}
use Rattle.c65_parse_law_exact.proofs.Pieces.{whole_depth}
use Rattle.c65_parse_law_exact.proofs.Onward.{somewhere, mark_token, onward, extended}
use Rattle.c65_parse_law_exact.proofs.Tests.{zero_test, zero_tested}

-- as deep as a statement is among so many frames
abbrev pub placed_depth : ℕ → t.StmtTree → ℕ
placed_depth around s = max (stmt_depth s + around) (inner_depth s)

-- the least limit for what is open in so many frames: round a statement that is no block's there is room for one more
abbrev pub head_depth : ℕ → Head → ℕ
head_depth around (in_label l n) = around + 2
head_depth around (in_case l e) = max (around + 2) (expr_depth e)
head_depth around (in_default l) = around + 2
head_depth around (in_else l e r) = max (max (around + 2) (expr_depth e)) (max (stmt_depth r + suc around) (inner_depth r))
head_depth around (in_switch l e) = max (around + 2) (expr_depth e)
head_depth around (in_while l e) = max (around + 2) (expr_depth e)
head_depth around (in_for l e f g) = max (around + 2) (max (of_option expr_depth e) (max (of_option expr_depth f) (of_option expr_depth g)))

abbrev pub frame_depth : ℕ → Frame → ℕ
frame_depth around (in_head h) = head_depth around h
frame_depth around (in_block l ds ss) = max (deepest decl_depth ds) (max (stmts_depth ss + suc around) (inners_depth ss))
frame_depth around (in_then l e) = max (around + 2) (expr_depth e)
frame_depth around (in_do l) = around + 2

abbrev pub frames_depth : List Frame → ℕ
frames_depth [] = 1
frames_depth (f ∷ fs) = max (frame_depth (length fs) f) (frames_depth fs)

pub head_room : (around : ℕ) (h : Head) → around + 2 ≤ head_depth around h
head_room around (in_label l n) = omega arith
head_room around (in_case l e) = omega arith
head_room around (in_default l) = omega arith
head_room around (in_else l e r) = omega arith
head_room around (in_switch l e) = omega arith
head_room around (in_while l e) = omega arith
head_room around (in_for l e f g) = omega arith

pub head_within : (limit around : ℕ) (h : Head) (s : t.StmtTree) → head_depth around h ≤ limit → placed_depth (suc around) s ≤ limit → placed_depth around (completed h s) ≤ limit
head_within limit around (in_label l n) s fit low = omega (arith, fit, low)
head_within limit around (in_case l e) s fit low = omega (arith, fit, low)
head_within limit around (in_default l) s fit low = omega (arith, fit, low)
head_within limit around (in_else l e r) s fit low = omega (arith, fit, low)
head_within limit around (in_switch l e) s fit low = omega (arith, fit, low)
head_within limit around (in_while l e) s fit low = omega (arith, fit, low)
head_within limit around (in_for l e f g) s fit low = omega (arith, fit, low)

abbrev brace : Token
brace = mark_token marks.CloseBrace

abbrev pub semicolon : Token
semicolon = mark_token marks.Semicolon

-- the empty statement
abbrev pub empty : t.StmtTree
empty = t.eval somewhere None

-- `while ( 0 ) ;`
abbrev pub do_end : List Token
do_end = mark_token marks.While ∷ (zero_test ++ semicolon ∷ [])

do_ended : (sc : Scope) → (some_word keywords.While ▸ (test sc (zero_tree somewhere) ▸ some_mark puncts.Semicolon)) do_end
do_ended sc = (mark_token marks.While ∷ [], zero_test ++ semicolon ∷ [], refl, (somewhere, refl), both zero_test (semicolon ∷ []) (zero_tested sc) (somewhere, refl))

block_whole : (b : Scope) (l : Pos) (ds : List t.DeclTree) (ss : t.StmtList) (s : t.StmtTree) (us zs : List Token) → stmt_front b (in_block l ds ss) us → statement (inside b (in_block l ds ss)) s zs → statement b (t.block l ds (t.and_stmt ss s)) (us ++ (zs ++ brace ∷ []))
block_whole b l ds ss s us zs p q = map_right (λ vs r. map_right (λ ws u. ungroup u) r) (regroup (regroup (both us (zs ++ brace ∷ []) p (both {B = some_mark puncts.CloseBrace} zs (brace ∷ []) q (somewhere, refl)))))

pub do_whole : (b : Scope) (l : Pos) (s : t.StmtTree) (us zs : List Token) → word l keywords.Do us → statement b s zs → statement b (t.do_while l s (zero_tree somewhere)) (us ++ (zs ++ do_end))
do_whole b l s us zs p q = both us (zs ++ do_end) p (both zs do_end q (do_ended (after_stmt b s)))

-- where a statement goes on, the frame round it does
frame_closes : (n : ℕ) (b : Scope) (around : ℕ) (f : Frame) (us ys : List Token) → stmt_front b f us → frame_depth around f ≤ n → Continues (statement (inside b f)) (placed_depth (suc around)) n ys → Continues (statement b) (placed_depth around) n (us ++ ys)
frame_closes n b around (in_head h) us ys p fit k = onward (statement (head_scope b h)) (statement b) (placed_depth (suc around)) (placed_depth around) n us ys (completed h) (λ s zs q. head_built b h s (us ++ zs) (both us zs p q)) (λ s low. head_within n around h s fit low) k
frame_closes n b around (in_block l ds ss) us ys p fit k = extended (statement (inside b (in_block l ds ss))) (statement b) (placed_depth (suc around)) (placed_depth around) n us (brace ∷ []) ys (λ s. t.block l ds (t.and_stmt ss s)) (λ s zs q. block_whole b l ds ss s us zs p q) (λ s low. omega (arith, fit, low)) k
frame_closes n b around (in_then l e) us ys p fit k = onward (statement (after b e)) (statement b) (placed_depth (suc around)) (placed_depth around) n us ys (λ s. t.if_stmt l e s t.no_stmt) (λ s zs q. attach us zs p (behind_nothing (tt, q))) (λ s low. omega (arith, fit, low)) k
frame_closes n b around (in_do l) us ys p fit k = extended (statement b) (statement b) (placed_depth (suc around)) (placed_depth around) n us do_end ys (λ s. t.do_while l s (zero_tree somewhere)) (λ s zs q. do_whole b l s us zs p q) (λ s low. omega (arith, fit, low)) k

pub closes_on : (n : ℕ) (sc : Scope) (fs : List Frame) (xs ys : List Token) → stmt_fronts sc fs xs → frames_depth fs ≤ n → Continues (statement (scope_in sc fs)) (placed_depth (length fs)) n ys → Continues (statement sc) whole_depth n (xs ++ ys)
closes_on n sc [] xs ys p fit k = subst (λ zs. Continues (statement sc) whole_depth n (zs ++ ys)) (sym p) (record { tree = k.tree; more = k.more; derives = k.derives; within = let low = k.within in omega (arith, low) })
closes_on n sc (f ∷ fs) xs ys p fit k = subst (λ zs. Continues (statement sc) whole_depth n zs) (sym (append_assoc p.0 p.1 ys) ∙ ap (λ zs. zs ++ ys) (sym p.2)) (closes_on n sc fs p.0 (p.1 ++ ys) p.3 (omega (arith, fit)) (frame_closes n (scope_in sc fs) (length fs) f p.1 ys p.4 (omega (arith, fit)) k))

-- where a statement is needed, an empty one, or the end of the block
empty_needed : (n : ℕ) (sc : Scope) (fs : List Frame) (xs : List Token) → stmt_fronts sc fs xs → frames_depth fs ≤ n → 1 + length fs ≤ n → Continues (statement sc) whole_depth n xs
empty_needed n sc fs xs p fit room = subst (Continues (statement sc) whole_depth n) (append-nil xs) (closes_on n sc fs xs [] p fit (record { tree = empty; more = semicolon ∷ []; derives = refl; within = omega (arith, room) }))

block_ends : (n : ℕ) (b : Scope) (around : ℕ) (l : Pos) (ds : List t.DeclTree) (ss : t.StmtList) (us : List Token) → stmt_front b (in_block l ds ss) us → frame_depth around (in_block l ds ss) ≤ n → Continues (statement b) (placed_depth around) n us
block_ends n b around l ds ss us p fit = record { tree = t.block l ds ss; more = brace ∷ []; derives = regroup (regroup (both {B = some_mark puncts.CloseBrace} us (brace ∷ []) p (somewhere, refl))); within = omega (arith, fit) }

pub needed_on : (n : ℕ) (sc : Scope) (fs : List Frame) (xs : List Token) → stmt_fronts sc fs xs → frames_depth fs ≤ n → Continues (statement sc) whole_depth n xs
needed_on n sc [] xs p fit = empty_needed n sc [] xs p fit (omega (arith, fit))
needed_on n sc (in_head h ∷ fs) xs p fit = empty_needed n sc (in_head h ∷ fs) xs p fit (let room = head_room (length fs) h in omega (arith, fit, room))
needed_on n sc (in_block l ds ss ∷ fs) xs p fit = subst (Continues (statement sc) whole_depth n) (sym p.2) (closes_on n sc fs p.0 p.1 p.3 (omega (arith, fit)) (block_ends n (scope_in sc fs) (length fs) l ds ss p.1 p.4 (omega (arith, fit))))
needed_on n sc (in_then l e ∷ fs) xs p fit = empty_needed n sc (in_then l e ∷ fs) xs p fit (omega (arith, fit))
needed_on n sc (in_do l ∷ fs) xs p fit = empty_needed n sc (in_do l ∷ fs) xs p fit (omega (arith, fit))

declared_whole : (b : Scope) (l : Pos) (ds : List t.DeclTree) (d : t.DeclTree) (us zs : List Token) → stmt_front b (in_block l ds t.no_stmts) us → declaration (after_decls b ds) d zs → statement b (t.block l (ds ++ d ∷ []) t.no_stmts) (us ++ (zs ++ brace ∷ []))
declared_whole b l ds d us zs p q = subst (statement b (t.block l (ds ++ d ∷ []) t.no_stmts)) (append_assoc us zs (brace ∷ []))
    (attach (us ++ zs) (brace ∷ []) (map_right (λ vs r. one_more b ds d vs r) (regroup (both us zs (only_first p) q))) (before_nothing {A = some_mark puncts.CloseBrace} (somewhere, refl)))

-- where a declaration goes on, its block does
pub declared_on : (n : ℕ) (sc : Scope) (fs : List Frame) (xs ys : List Token) → (place_in fs).takes_declarations ≡ true → stmt_fronts sc fs xs → frames_depth fs ≤ n → Continues (declaration (scope_in sc fs)) decl_depth n ys → Continues (statement sc) whole_depth n (xs ++ ys)
declared_on n sc [] xs ys e p fit k = absurd cc
declared_on n sc (in_head h ∷ fs) xs ys e p fit k = absurd cc
declared_on n sc (in_block l ds t.no_stmts ∷ fs) xs ys e p fit k = subst (λ zs. Continues (statement sc) whole_depth n zs) (sym (append_assoc p.0 p.1 ys) ∙ ap (λ zs. zs ++ ys) (sym p.2)) (closes_on n sc fs p.0 (p.1 ++ ys) p.3 (omega (arith, fit))
    (extended (declaration (after_decls (scope_in sc fs) ds)) (statement (scope_in sc fs)) decl_depth (placed_depth (length fs)) n p.1 (brace ∷ []) ys (λ d. t.block l (ds ++ d ∷ []) t.no_stmts) (λ d zs q. declared_whole (scope_in sc fs) l ds d p.1 zs p.4 q) (λ d low. let deep = one_deeper n decl_depth ds d (omega (arith, fit)) low in omega (arith, fit, deep)) k))
declared_on n sc (in_block l ds (t.and_stmt ss s) ∷ fs) xs ys e p fit k = absurd cc
declared_on n sc (in_then l c ∷ fs) xs ys e p fit k = absurd cc
declared_on n sc (in_do l ∷ fs) xs ys e p fit k = absurd cc
