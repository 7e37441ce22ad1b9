-- Statements, by what is open of them.
use Rattle.std.proofs.Common.{◌≡◌, ℕ, ◌+◌, List, [], ◌∷◌, ◌++◌, Bool, true, false, refl, sym, ap, ◌∙◌, subst, append_assoc}
use Rattle.std.proofs.lemmas.List.{append-nil}
use Rattle.std.specs.Prelude.{Ok, Err, if◌then◌else◌, nat_le, ◌&&◌}
use Rattle.c65_base.specs.Answers.{large, ◌>>=◌}
use Rattle.c65_base.specs.declared.refusal.Size.TheVariants.{Depth}
use Rattle.c65_base.specs.declared.refusal.Pos.{Pos}
use Rattle.c65_scan.specs.declared.token.Keyword.TheVariants as keywords
use Rattle.c65_scan.specs.declared.token.Punct.TheVariants as puncts
use Rattle.c65_scan.specs.declared.token.Token.{Token}
use Rattle.c65_tree.specs.Trees as t
use Rattle.c65_parse_names.specs.Scopes.{Blocks, closed}
use Rattle.c65_parse.specs.Reading.{Answer, after_token}
use Rattle.c65_parse_frames.specs.declared.sign.Mark.TheVariants as marks
use Rattle.c65_parse_frames.specs.Signs.{is_mark, is_label, starts_declaration, least_depth}
use Rattle.c65_parse_frames.specs.Frames.{Head, in_label, in_case, in_default, in_else, in_switch, in_while, in_for, Frame, in_head, in_block, in_then, in_do, Plugged, plugged_whole, plugged_open, Begun, begun_open, begun_decl, begun_whole, begun_close, Reached, reached_end, reached_need, place_in, completed, with_declaration}
use Rattle.c65_decl.specs.Here.{sign_here, is_here, is_type_here, colon_follows}
use Rattle.c65_decl.specs.Expressions.{test_read}
use Rattle.c65_decl.specs.Decls.{declaration_read}
use Rattle.c65_decl.specs.Openings.{begun_inside, begun_at}
use Rattle.c65_decl.specs.Statements.{do_plugged, plugged_next, all_plugged, block_closed, behind_begun, statement_step, statement_next, statement_run, statement_read}
use Rattle.c65_parse_grammar.specs.Phrases.{Phrase, ◌▸◌, given, word, some_word, some_mark}
use Rattle.c65_parse_grammar.specs.Scopes.{Scope, after, after_decl, after_stmt}
use Rattle.c65_parse_grammar.specs.Statements.{declaration, test, is_closed, statement}
use Rattle.c65_parse_law_sound.proofs.Phrases.{both, regroup, map_left, map_right, attach, behind_nothing, true_false}
use Rattle.c65_parse_law_sound.proofs.Got.{EndsIn, Got, seq, weaken, mapped, got_if, seq_mark, first_of_mark, is_mark_of, past}
use Rattle.c65_parse_law_sound.proofs.Parts.{test_got}
use Rattle.c65_parse_law_sound.proofs.Inits.{at_nothing, nil_behind}
use Rattle.c65_parse_law_sound.proofs.Openings.{head_scope, scope_in, outer_in, head_front, stmt_fronts, begun_front, begun_behind_it, begun_got}
use Rattle.c65_parse_law_sound.proofs.Declarations as decls
use Rattle.c65_parse_law_sound.proofs.Declarations.{declaration_got, starts_is}

pub head_built : (b : Scope) (h : Head) (s : t.StmtTree) (xs : List Token) → (head_front b h ▸ statement (head_scope b h) s) xs → statement b (completed h s) xs
head_built b (in_label l n) s xs p = regroup p
head_built b (in_case l e) s xs p = map_right (λ ys q. regroup q) (regroup p)
head_built b (in_default l) s xs p = regroup p
head_built b (in_else l e r) s xs p = regroup (regroup (regroup p))
head_built b (in_switch l e) s xs p = regroup p
head_built b (in_while l e) s xs p = regroup p
head_built b (in_for l e f h) s xs p = map_right (λ ys q. map_right (λ zs r. map_right (λ us u. map_right (λ vs v. map_right (λ os x. map_right (λ ns y. regroup y) x) (regroup v)) u) (regroup r)) q) (regroup (regroup (regroup (regroup p))))

pub head_behind : (b : Scope) (h : Head) (s : t.StmtTree) → after_stmt (head_scope b h) s ≡ after_stmt b (completed h s)
head_behind b (in_label l n) s = refl
head_behind b (in_case l e) s = refl
head_behind b (in_default l) s = refl
head_behind b (in_else l e r) s = refl
head_behind b (in_switch l e) s = refl
head_behind b (in_while l e) s = refl
head_behind b (in_for l e f h) s = refl

pub head_closed : (h : Head) (s : t.StmtTree) → is_closed s ≡ is_closed (completed h s)
head_closed (in_label l n) s = refl
head_closed (in_case l e) s = refl
head_closed (in_default l) s = refl
head_closed (in_else l e r) s = refl
head_closed (in_switch l e) s = refl
head_closed (in_while l e) s = refl
head_closed (in_for l e f h) s = refl

-- where a reading of statements stands
abbrev pub reached_front : Scope → Reached → Phrase
reached_front sc (reached_end s) = statement sc s
reached_front sc (reached_need fs) = stmt_fronts sc fs

abbrev pub reached_behind : Scope → Blocks → Reached → Blocks
reached_behind sc outer (reached_end s) = after_stmt sc s ∷ outer
reached_behind sc outer (reached_need fs) = scope_in sc fs ∷ outer_in sc outer fs

abbrev Reaches : Scope → Blocks → List Token → List Token → Answer Reached → Type 0
Reaches sc outer xs ts r = Got (λ r ys. reached_front sc r (xs ++ ys)) (reached_behind sc outer) ts r

-- a whole do statement, and nothing else
abbrev whole_front : Scope → Scope → List Frame → Plugged → Phrase
whole_front sc b fs (plugged_whole s) = given (is_closed s ≡ true) (stmt_fronts sc fs ▸ statement b s)
whole_front sc b fs (plugged_open f) = λ ts. ⊥

abbrev whole_behind : Scope → Blocks → Plugged → Blocks
whole_behind b outer (plugged_whole s) = after_stmt b s ∷ outer
whole_behind b outer (plugged_open f) = outer

do_got : (limit : ℕ) (sc b : Scope) (outer : Blocks) (fs : List Frame) (l : Pos) (s : t.StmtTree) (ts xs : List Token) → ((stmt_fronts sc fs ▸ word l keywords.Do) ▸ statement b s) xs → EndsIn ts → Got (λ r ys. whole_front sc b fs r (xs ++ ys)) (whole_behind b outer) ts (do_plugged limit l s (after_stmt b s ∷ outer) ts)
do_got limit sc b outer fs l s ts xs p ends = seq_mark marks.While (λ r ys. whole_front sc b fs r (xs ++ ys)) (whole_behind b outer) (after_stmt b s ∷ outer) ts _ refl ends
    (λ tok us m left. seq (test (after_stmt b s)) (λ e. after (after_stmt b s) e ∷ outer) _ _ us (test_read limit (after_stmt b s ∷ outer) us) _ (test_got limit (after_stmt b s) outer us left)
    (λ e ys vs are q none. seq_mark marks.Semicolon _ (whole_behind b outer) (after (after_stmt b s) e ∷ outer) vs _ refl none
    (λ v os n last. record { front = []; tokens_are = refl; ends = last; derives = (refl, map_right (λ zs r. regroup r) (attach _ _ (regroup p) (both {A = some_word keywords.While} _ _ m (both {A = test (after_stmt b s) e} _ _ q n)))); scope_is = refl })))

-- behind a statement that an if holds
then_got : (limit : ℕ) (sc : Scope) (outer : Blocks) (fs : List Frame) (l : Pos) (e : t.ExprTree) (s : t.StmtTree) (ts xs : List Token) (b : Bool) → is_here marks.Else ts ≡ b → (stmt_fronts sc (in_then l e ∷ fs) ▸ statement (scope_in sc (in_then l e ∷ fs)) s) xs → (is_here marks.Else ts ≡ true → is_closed s ≡ true) → EndsIn ts
    → ((r : t.StmtTree) → (stmt_fronts sc fs ▸ statement (scope_in sc fs) r) xs → (is_here marks.Else ts ≡ true → is_closed r ≡ true) → after_stmt (scope_in sc (in_then l e ∷ fs)) s ≡ after_stmt (scope_in sc fs) r → Reaches sc outer xs ts (all_plugged limit fs r (after_stmt (scope_in sc (in_then l e ∷ fs)) s ∷ outer_in sc outer fs) ts))
    → Reaches sc outer xs ts ((if b then Ok (plugged_open (in_head (in_else l e s)), after_token ts, after_stmt (scope_in sc (in_then l e ∷ fs)) s ∷ outer_in sc outer fs) else Ok (plugged_whole (t.if_stmt l e s t.no_stmt), ts, after_stmt (scope_in sc (in_then l e ∷ fs)) s ∷ outer_in sc outer fs)) >>= plugged_next (all_plugged limit fs) fs)
then_got limit sc outer fs l e s ts xs true here p closes ends k =
    let first = first_of_mark marks.Else ts refl here ends in
    past (λ r ys. reached_front sc r (xs ++ ys)) (reached_behind sc outer) ts first (λ r. Ok (reached_need (in_head (in_else l e s) ∷ fs), r, after_stmt (scope_in sc (in_then l e ∷ fs)) s ∷ outer_in sc outer fs)) (record {
      front = [];
      tokens_are = refl;
      ends = first.ends;
      derives = map_right (λ ys q. map_left (λ zs r. map_right (λ us u. (closes here, u)) r) q) (attach _ _ (regroup p) (is_mark_of marks.Else ts first here));
      scope_is = refl;
    })
then_got limit sc outer fs l e s ts xs false here p closes ends k = k (t.if_stmt l e s t.no_stmt) (map_right (λ ys q. map_right (λ zs r. map_right (λ us u. behind_nothing (tt, u)) r) (regroup q)) (regroup p)) (λ f. absurd (true_false (sym f ∙ here))) refl

do_next : (limit : ℕ) (sc : Scope) (outer : Blocks) (fs : List Frame) (xs ys rest : List Token) (r : Plugged) → whole_front sc (scope_in sc fs) fs r (xs ++ ys) → EndsIn rest
    → ((s : t.StmtTree) (ts zs : List Token) → (stmt_fronts sc fs ▸ statement (scope_in sc fs) s) zs → (is_here marks.Else ts ≡ true → is_closed s ≡ true) → EndsIn ts → Reaches sc outer zs ts (all_plugged limit fs s (after_stmt (scope_in sc fs) s ∷ outer_in sc outer fs) ts))
    → Got (λ r zs. reached_front sc r (xs ++ (ys ++ zs))) (reached_behind sc outer) rest (plugged_next (all_plugged limit fs) fs (r, rest, whole_behind (scope_in sc fs) (outer_in sc outer fs) r))
do_next limit sc outer fs xs ys rest (plugged_whole s) h left k = weaken _ _ _ _ rest _ (k s rest (xs ++ ys) h.1 (λ e. h.0) left) (λ r zs m. subst (reached_front sc r) (append_assoc xs ys zs) m) (λ r. refl)
do_next limit sc outer fs xs ys rest (plugged_open f) h left k = absurd h

all_got : (limit : ℕ) (sc : Scope) (outer : Blocks) (fs : List Frame) (s : t.StmtTree) (ts xs : List Token) → (stmt_fronts sc fs ▸ statement (scope_in sc fs) s) xs → (is_here marks.Else ts ≡ true → is_closed s ≡ true) → EndsIn ts → Reaches sc outer xs ts (all_plugged limit fs s (after_stmt (scope_in sc fs) s ∷ outer_in sc outer fs) ts)
all_got limit sc outer [] s ts xs p closes ends = record { front = []; tokens_are = refl; ends = ends; derives = nil_behind (statement sc s) xs (at_nothing (statement sc s) xs p); scope_is = refl }
all_got limit sc outer (in_head h ∷ fs) s ts xs p closes ends = subst (λ b. Reaches sc outer xs ts (all_plugged limit fs (completed h s) (b ∷ outer_in sc outer fs) ts)) (sym (head_behind (scope_in sc fs) h s)) (all_got limit sc outer fs (completed h s) ts xs (map_right (λ ys q. head_built (scope_in sc fs) h s ys q) (regroup p)) (λ e. sym (head_closed h s) ∙ closes e) ends)
all_got limit sc outer (in_block l ds ss ∷ fs) s ts xs p closes ends = record { front = []; tokens_are = refl; ends = ends; derives = nil_behind (stmt_fronts sc (in_block l ds (t.and_stmt ss s) ∷ fs)) xs (map_right (λ ys q. regroup q) (regroup p)); scope_is = refl }
all_got limit sc outer (in_then l e ∷ fs) s ts xs p closes ends = then_got limit sc outer fs l e s ts xs (is_here marks.Else ts) refl p closes ends
    (λ r q c same. subst (λ b. Reaches sc outer xs ts (all_plugged limit fs r (b ∷ outer_in sc outer fs) ts)) (sym same) (all_got limit sc outer fs r ts xs q c ends))
all_got limit sc outer (in_do l ∷ fs) s ts xs p closes ends = seq (λ r ys. whole_front sc (scope_in sc fs) fs r (xs ++ ys)) (whole_behind (scope_in sc fs) (outer_in sc outer fs)) (λ r ys. reached_front sc r (xs ++ ys)) (reached_behind sc outer) ts (do_plugged limit l s (after_stmt (scope_in sc fs) s ∷ outer_in sc outer fs) ts) (plugged_next (all_plugged limit fs) fs) (do_got limit sc (scope_in sc fs) (outer_in sc outer fs) fs l s ts xs p ends)
    (λ r ys rest are h left. do_next limit sc outer fs xs ys rest r h left (λ v us zs q c n. all_got limit sc outer fs v us zs q c n))

pub both_true : (a b : Bool) → (a && b) ≡ true → (a ≡ true) × (b ≡ true)
both_true true b e = (refl, e)
both_true false b e = absurd cc

-- what begins at a place
inside_got : (limit : ℕ) (unit : List Token) (b : Scope) (outer : Blocks) (fs : List Frame) (ts : List Token) → EndsIn ts → Got (begun_front b fs) (begun_behind_it b outer) ts (begun_inside limit unit (place_in fs) (sign_here ts) (is_type_here (b ∷ outer) ts) (colon_follows ts) (b ∷ outer) ts)
inside_got limit unit b outer fs ts ends = got_if _ _ ts ((place_in fs).takes_declarations && starts_declaration (sign_here ts) (is_type_here (b ∷ outer) ts) (colon_follows ts)) _ _
    (λ e. let two = both_true (place_in fs).takes_declarations (starts_declaration (sign_here ts) (is_type_here (b ∷ outer) ts) (colon_follows ts)) e in
    mapped begun_decl _ _ _ _ ts (declaration_read limit unit (b ∷ outer) ts) (declaration_got limit unit b outer ts (starts_is (sign_here ts) (is_type_here (b ∷ outer) ts) (colon_follows ts) two.1) ends) (λ d xs h. (two.0, h)) (λ d. refl))
    (λ e. got_if _ _ ts (nat_le ((place_in fs).around + least_depth (sign_here ts) (is_label (sign_here ts) (is_type_here (b ∷ outer) ts) (colon_follows ts))) limit) _ (Err (large Depth 257))
    (λ f. begun_got limit b outer fs (is_label (sign_here ts) (is_type_here (b ∷ outer) ts) (colon_follows ts)) ts ends)
    (λ f. tt))

at_got : (limit : ℕ) (unit : List Token) (b : Scope) (outer : Blocks) (fs : List Frame) (ts : List Token) → EndsIn ts → Got (begun_front b fs) (begun_behind_it b outer) ts (begun_at limit unit (place_in fs) (b ∷ outer) ts)
at_got limit unit b outer fs ts ends = got_if _ _ ts ((place_in fs).in_block && is_mark marks.CloseBrace (sign_here ts)) _ _
    (λ e. let two = both_true (place_in fs).in_block (is_mark marks.CloseBrace (sign_here ts)) e in
    let first = first_of_mark marks.CloseBrace ts refl two.1 ends in
    past (begun_front b fs) (begun_behind_it b outer) ts first (λ r. Ok (begun_close, r, closed (b ∷ outer))) (record { front = []; tokens_are = refl; ends = first.ends; derives = is_mark_of marks.CloseBrace ts first two.1; scope_is = refl }))
    (λ e. inside_got limit unit b outer fs ts ends)

-- without the statements, of which there are none
pub only_first : {A : Phrase} {ts : List Token} → (A ▸ (λ us. us ≡ [])) ts → A ts
only_first {A} p = subst A (sym (p.2 ∙ (ap (λ us. p.0 ++ us) p.4 ∙ append-nil p.0))) p.3

-- one more declaration in the block
declared_got : (sc : Scope) (outer : Blocks) (fs : List Frame) (d : t.DeclTree) (ts xs : List Token) → (place_in fs).takes_declarations ≡ true → (stmt_fronts sc fs ▸ declaration (scope_in sc fs) d) xs → EndsIn ts → Reaches sc outer xs ts (Ok (reached_need (with_declaration fs d), ts, after_decl (scope_in sc fs) d ∷ outer_in sc outer fs))
declared_got sc outer [] d ts xs e p ends = absurd cc
declared_got sc outer (in_head h ∷ fs) d ts xs e p ends = absurd cc
declared_got sc outer (in_block l ds t.no_stmts ∷ fs) d ts xs e p ends = record {
  front = [];
  tokens_are = refl;
  ends = ends;
  derives = nil_behind (stmt_fronts sc (in_block l (ds ++ d ∷ []) t.no_stmts ∷ fs)) xs (map_right (λ ys q. behind_nothing (map_right (λ zs r. decls.one_more (scope_in sc fs) ds d zs r) (regroup (map_left (λ zs r. only_first r) q)))) (regroup p));
  scope_is = ap (λ b. b ∷ scope_in sc fs ∷ outer_in sc outer fs) (decls.behind_more (scope_in sc fs) ds d);
}
declared_got sc outer (in_block l ds (t.and_stmt ss s) ∷ fs) d ts xs e p ends = absurd cc
declared_got sc outer (in_then l e ∷ fs) d ts xs f p ends = absurd cc
declared_got sc outer (in_do l ∷ fs) d ts xs e p ends = absurd cc

-- a block ends
close_got : (limit : ℕ) (sc : Scope) (outer : Blocks) (fs : List Frame) (ts xs : List Token) → (stmt_fronts sc fs ▸ some_mark puncts.CloseBrace) xs → EndsIn ts → Reaches sc outer xs ts (block_closed limit fs (closed (scope_in sc fs ∷ outer_in sc outer fs)) ts)
close_got limit sc outer [] ts xs p ends = tt
close_got limit sc outer (in_head h ∷ fs) ts xs p ends = tt
close_got limit sc outer (in_block l ds ss ∷ fs) ts xs p ends = all_got limit sc outer fs (t.block l ds ss) ts xs (map_right (λ ys q. regroup (regroup q)) (regroup p)) (λ e. refl) ends
close_got limit sc outer (in_then l e ∷ fs) ts xs p ends = tt
close_got limit sc outer (in_do l ∷ fs) ts xs p ends = tt

behind_got : (limit : ℕ) (sc : Scope) (outer : Blocks) (fs : List Frame) (r : Begun) (ts xs ys : List Token) → stmt_fronts sc fs xs → begun_front (scope_in sc fs) fs r ys → EndsIn ts → Reaches sc outer (xs ++ ys) ts (behind_begun limit fs (r, ts, begun_behind_it (scope_in sc fs) (outer_in sc outer fs) r))
behind_got limit sc outer fs (begun_open f) ts xs ys p q ends = record { front = []; tokens_are = refl; ends = ends; derives = nil_behind (stmt_fronts sc (f ∷ fs)) (xs ++ ys) (both _ _ p q); scope_is = refl }
behind_got limit sc outer fs (begun_decl d) ts xs ys p q ends = declared_got sc outer fs d ts (xs ++ ys) q.0 (both _ _ p q.1) ends
behind_got limit sc outer fs (begun_whole s) ts xs ys p q ends = all_got limit sc outer fs s ts (xs ++ ys) (both _ _ p q.1) (λ e. q.0) ends
behind_got limit sc outer fs begun_close ts xs ys p q ends = close_got limit sc outer fs ts (xs ++ ys) (both _ _ p q) ends

step_got : (limit : ℕ) (unit : List Token) (sc : Scope) (outer : Blocks) (fs : List Frame) (ts xs : List Token) → stmt_fronts sc fs xs → EndsIn ts → Reaches sc outer xs ts (statement_step limit unit fs (scope_in sc fs ∷ outer_in sc outer fs) ts)
step_got limit unit sc outer fs ts xs p ends = seq (begun_front (scope_in sc fs) fs) (begun_behind_it (scope_in sc fs) (outer_in sc outer fs)) (λ r ys. reached_front sc r (xs ++ ys)) (reached_behind sc outer) ts (begun_at limit unit (place_in fs) (scope_in sc fs ∷ outer_in sc outer fs) ts) (behind_begun limit fs) (at_got limit unit (scope_in sc fs) (outer_in sc outer fs) fs ts ends)
    (λ r ys rest are q left. weaken _ _ _ _ rest _ (behind_got limit sc outer fs r rest xs ys p q left) (λ v zs m. subst (reached_front sc v) (append_assoc xs ys zs) m) (λ v. refl))

run_next : (limit : ℕ) (unit : List Token) (sc : Scope) (outer : Blocks) (us xs ys rest : List Token) (r : Reached) → reached_front sc r (xs ++ ys) → EndsIn rest
    → ((fs : List Frame) (ts zs : List Token) → stmt_fronts sc fs zs → EndsIn ts → Got (λ s vs. statement sc s (zs ++ vs)) (λ s. after_stmt sc s ∷ outer) ts (statement_run limit unit us fs (scope_in sc fs ∷ outer_in sc outer fs) ts))
    → Got (λ s zs. statement sc s (xs ++ (ys ++ zs))) (λ s. after_stmt sc s ∷ outer) rest (statement_next (statement_run limit unit us) (r, rest, reached_behind sc outer r))
run_next limit unit sc outer us xs ys rest (reached_end s) h left k = record { front = []; tokens_are = refl; ends = left; derives = subst (λ v. statement sc s (xs ++ v)) (sym (append-nil ys)) h; scope_is = refl }
run_next limit unit sc outer us xs ys rest (reached_need fs) h left k = weaken _ _ _ _ rest _ (k fs rest (xs ++ ys) h left) (λ s zs m. subst (statement sc s) (append_assoc xs ys zs) m) (λ s. refl)

run_got : (limit : ℕ) (unit : List Token) (sc : Scope) (outer : Blocks) (us : List Token) (fs : List Frame) (ts xs : List Token) → stmt_fronts sc fs xs → EndsIn ts → Got (λ s ys. statement sc s (xs ++ ys)) (λ s. after_stmt sc s ∷ outer) ts (statement_run limit unit us fs (scope_in sc fs ∷ outer_in sc outer fs) ts)
run_got limit unit sc outer [] fs ts xs p ends = tt
run_got limit unit sc outer (u ∷ us) fs ts xs p ends = seq (λ r ys. reached_front sc r (xs ++ ys)) (reached_behind sc outer) (λ s ys. statement sc s (xs ++ ys)) (λ s. after_stmt sc s ∷ outer) ts (statement_step limit unit fs (scope_in sc fs ∷ outer_in sc outer fs) ts) (statement_next (statement_run limit unit us)) (step_got limit unit sc outer fs ts xs p ends)
    (λ r ys rest are h left. run_next limit unit sc outer us xs ys rest r h left (λ gs vs zs. run_got limit unit sc outer us gs vs zs))

pub statement_got : (limit : ℕ) (unit : List Token) (sc : Scope) (outer : Blocks) (ts : List Token) → EndsIn ts → Got (statement sc) (λ s. after_stmt sc s ∷ outer) ts (statement_read limit unit (sc ∷ outer) ts)
statement_got limit unit sc outer ts ends = run_got limit unit sc outer unit [] ts [] refl ends
