-- Declarations.
use Rattle.std.proofs.Common.{◌≡◌, ℕ, List, [], ◌∷◌, ◌++◌, Bool, true, false, refl, sym, subst, append_assoc}
use Rattle.std.proofs.lemmas.List.{append-nil}
use Rattle.std.specs.Prelude.{Option}
use Rattle.c65_scan.specs.declared.token.Punct.TheVariants as puncts
use Rattle.c65_scan.specs.declared.token.Token.{Token}
use Rattle.c65_tree.specs.Trees as t
use Rattle.c65_parse_names.specs.Scopes.{Blocks}
use Rattle.c65_parse_frames.specs.declared.sign.Mark.TheVariants as marks
use Rattle.c65_decl.specs.Here.{is_here}
use Rattle.c65_decl.specs.Declaring.{naming_of, named_read}
use Rattle.c65_decl.specs.Initialisers.{optional_init_read}
use Rattle.c65_decl.specs.Decls.{Progress, all_declared, more_declared, with_declarator, next_declarator, behind_declarator, declarators_step, declarators_next, declarators_run, declarators_read, declaration_from}
use Rattle.c65_parse_grammar.specs.Phrases.{Phrase, ◌▸◌, some_mark}
use Rattle.c65_parse_grammar.specs.Spellings.{comma_unless}
use Rattle.c65_parse_grammar.specs.Parts.{declarator_start, has_type, is_typedef}
use Rattle.c65_parse_grammar.specs.Scopes.{Scope, after_specifiers, after_maybe_init, after_declarators, after_decl, declared}
use Rattle.c65_parse_grammar.specs.Expressions as g
use Rattle.c65_parse_grammar.specs.Statements.{optional_init, init_declarators, declaration}
use Rattle.c65_parse_law_sound.proofs.Phrases.{regroup, map_left, map_right, attach, behind_nothing}
use Rattle.c65_parse_law_sound.proofs.Members.{comma_after}
use Rattle.c65_parse_law_sound.proofs.Got.{EndsIn, Got, seq, weaken, mapped, got_if, seq_mark, first_of_mark, is_mark_of, past}
use Rattle.c65_parse_law_sound.proofs.Parts.{named_got}
use Rattle.c65_parse_law_sound.proofs.Inits.{optional_init_got, at_nothing}

-- whether the next of a list is the first
abbrev pub still_first : Bool → List t.InitDeclaratorTree → Bool
still_first first [] = first
still_first first (d ∷ ds) = false

pub never_first : (ds : List t.InitDeclaratorTree) → still_first false ds ≡ false
never_first [] = refl
never_first (d ∷ ds) = refl

pub behind_one : (first : Bool) (ds : List t.InitDeclaratorTree) (d : t.InitDeclaratorTree) → still_first first (ds ++ d ∷ []) ≡ false
behind_one first [] d = refl
behind_one first (e ∷ ds) d = refl

abbrev pub next_front : Bool → t.SpecifiersTree → Scope → t.DeclaratorTree → Phrase
next_front first q sc e = comma_unless first ▸ g.declarator (g.named (has_type q)) sc (declarator_start e) e

regroup3 : {A B C D E : Phrase} {ts : List Token} → ((A ▸ (B ▸ (C ▸ D))) ▸ E) ts → (A ▸ (B ▸ (C ▸ (D ▸ E)))) ts
regroup3 p = map_right (λ ys r. map_right (λ zs u. regroup u) (regroup r)) (regroup p)

-- one more declarator, with its initialiser
pub one_more : (q : t.SpecifiersTree) (ds : List t.InitDeclaratorTree) (first : Bool) (sc : Scope) (e : t.DeclaratorTree) (i : Option t.InitTree) (xs : List Token)
    → (init_declarators first q sc ds ▸ (comma_unless (still_first first ds) ▸ (g.declarator (g.named (has_type q)) (after_declarators (is_typedef q) sc ds) (declarator_start e) e ▸ optional_init (declared (is_typedef q) (after_declarators (is_typedef q) sc ds) e) i))) xs
    → init_declarators first q sc (with_declarator ds e i) xs
one_more q [] first sc e i xs p = map_right (λ ys r. map_right (λ zs u. behind_nothing u) r) (at_nothing _ xs p)
one_more q (d ∷ ds) first sc e i xs p = map_right (λ ys r. map_right (λ zs u. map_right (λ vs m. one_more q ds false (after_maybe_init (declared (is_typedef q) sc d.declarator) d.init) e i vs (map_right (λ us n. map_left (λ os x. subst (λ b. comma_unless b os) (sym (never_first ds)) x) n) m)) u) r) (regroup3 p)

pub behind_more : (is_type : Bool) (ds : List t.InitDeclaratorTree) (sc : Scope) (e : t.DeclaratorTree) (i : Option t.InitTree) → after_maybe_init (declared is_type (after_declarators is_type sc ds) e) i ≡ after_declarators is_type sc (with_declarator ds e i)
behind_more is_type [] sc e i = refl
behind_more is_type (d ∷ ds) sc e i = behind_more is_type ds (after_maybe_init (declared is_type sc d.declarator) d.init) e i

abbrev pub progress_front : t.SpecifiersTree → Scope → Progress → Phrase
progress_front q sc (all_declared ds) = init_declarators true q sc ds ▸ some_mark puncts.Semicolon
progress_front q sc (more_declared ds e) = init_declarators true q sc ds ▸ next_front (still_first true ds) q (after_declarators (is_typedef q) sc ds) e

abbrev pub progress_behind : t.SpecifiersTree → Scope → Blocks → Progress → Blocks
progress_behind q sc outer (all_declared ds) = after_declarators (is_typedef q) sc ds ∷ outer
progress_behind q sc outer (more_declared ds e) = declared (is_typedef q) (after_declarators (is_typedef q) sc ds) e ∷ outer

next_got : (limit : ℕ) (q : t.SpecifiersTree) (sc : Scope) (outer : Blocks) (ds : List t.InitDeclaratorTree) (tok : Token) (ts xs : List Token) → still_first true ds ≡ false → init_declarators true q sc ds xs → some_mark puncts.Comma (tok ∷ []) → EndsIn ts
    → Got (λ r ys. progress_front q sc r (xs ++ (tok ∷ ys))) (progress_behind q sc outer) ts (next_declarator limit (naming_of q) ds (after_declarators (is_typedef q) sc ds ∷ outer) ts)
next_got limit q sc outer ds tok ts xs e h m ends = mapped (more_declared ds) _ _ _ _ ts (named_read limit (naming_of q) (after_declarators (is_typedef q) sc ds ∷ outer) ts) (named_got limit q (after_declarators (is_typedef q) sc ds) outer ts ends)
    (λ d ys p. (xs, tok ∷ ys, refl, h, (tok ∷ [], ys, refl, comma_after _ tok e m, p)))
    (λ d. refl)

behind_got : (limit : ℕ) (q : t.SpecifiersTree) (sc : Scope) (outer : Blocks) (ds : List t.InitDeclaratorTree) (ts xs : List Token) → still_first true ds ≡ false → init_declarators true q sc ds xs → EndsIn ts
    → Got (λ r ys. progress_front q sc r (xs ++ ys)) (progress_behind q sc outer) ts (behind_declarator limit (naming_of q) ds (after_declarators (is_typedef q) sc ds ∷ outer) ts)
behind_got limit q sc outer ds ts xs e h ends = got_if _ _ ts (is_here marks.Comma ts) _ _
    (λ c. let first = first_of_mark marks.Comma ts refl c ends in past _ _ ts first (λ r. next_declarator limit (naming_of q) ds (after_declarators (is_typedef q) sc ds ∷ outer) r) (next_got limit q sc outer ds first.tok first.rest xs e h (is_mark_of marks.Comma ts first c) first.ends))
    (λ c. seq_mark marks.Semicolon (λ r ys. progress_front q sc r (xs ++ ys)) (progress_behind q sc outer) (after_declarators (is_typedef q) sc ds ∷ outer) ts _ refl ends (λ tok rest m left. record { front = []; tokens_are = refl; ends = left; derives = (xs, tok ∷ [], refl, h, m); scope_is = refl }))

step_got : (limit : ℕ) (unit : List Token) (q : t.SpecifiersTree) (sc : Scope) (outer : Blocks) (ds : List t.InitDeclaratorTree) (e : t.DeclaratorTree) (ts xs : List Token) → progress_front q sc (more_declared ds e) xs → EndsIn ts
    → Got (λ r ys. progress_front q sc r (xs ++ ys)) (progress_behind q sc outer) ts (declarators_step limit unit (naming_of q) ds e (declared (is_typedef q) (after_declarators (is_typedef q) sc ds) e ∷ outer) ts)
step_got limit unit q sc outer ds e ts xs h ends = seq _ _ _ _ ts (optional_init_read limit unit (declared (is_typedef q) (after_declarators (is_typedef q) sc ds) e ∷ outer) ts) _ (optional_init_got limit unit (declared (is_typedef q) (after_declarators (is_typedef q) sc ds) e) outer ts ends)
    (λ i ys rest are p left. subst (λ b. Got (λ r zs. progress_front q sc r (xs ++ (ys ++ zs))) (progress_behind q sc outer) rest (behind_declarator limit (naming_of q) (with_declarator ds e i) (b ∷ outer) rest)) (sym (behind_more (is_typedef q) ds sc e i))
    (weaken _ _ _ _ rest _ (behind_got limit q sc outer (with_declarator ds e i) rest (xs ++ ys) (behind_one true ds _) (one_more q ds true sc e i (xs ++ ys) (map_right (λ zs r. regroup r) (attach _ _ h p))) left) (λ r zs k. subst (progress_front q sc r) (append_assoc xs ys zs) k) (λ r. refl)))

run_next : (limit : ℕ) (unit : List Token) (q : t.SpecifiersTree) (sc : Scope) (outer : Blocks) (us xs ys rest : List Token) (r : Progress) → progress_front q sc r (xs ++ ys) → EndsIn rest
    → ((ds : List t.InitDeclaratorTree) (e : t.DeclaratorTree) (ts zs : List Token) → progress_front q sc (more_declared ds e) zs → EndsIn ts → Got (λ fs vs. (init_declarators true q sc fs ▸ some_mark puncts.Semicolon) (zs ++ vs)) (λ fs. after_declarators (is_typedef q) sc fs ∷ outer) ts (declarators_run limit unit (naming_of q) us ds e (declared (is_typedef q) (after_declarators (is_typedef q) sc ds) e ∷ outer) ts))
    → Got (λ fs zs. (init_declarators true q sc fs ▸ some_mark puncts.Semicolon) (xs ++ (ys ++ zs))) (λ fs. after_declarators (is_typedef q) sc fs ∷ outer) rest (declarators_next (declarators_run limit unit (naming_of q) us) (r, rest, progress_behind q sc outer r))
run_next limit unit q sc outer us xs ys rest (all_declared ds) h left k = record { front = []; tokens_are = refl; ends = left; derives = subst (λ v. (init_declarators true q sc ds ▸ some_mark puncts.Semicolon) (xs ++ v)) (sym (append-nil ys)) h; scope_is = refl }
run_next limit unit q sc outer us xs ys rest (more_declared ds e) h left k = weaken _ _ _ _ rest _ (k ds e rest (xs ++ ys) h left) (λ fs zs m. subst (init_declarators true q sc fs ▸ some_mark puncts.Semicolon) (append_assoc xs ys zs) m) (λ fs. refl)

run_got : (limit : ℕ) (unit : List Token) (q : t.SpecifiersTree) (sc : Scope) (outer : Blocks) (us : List Token) (ds : List t.InitDeclaratorTree) (e : t.DeclaratorTree) (ts xs : List Token) → progress_front q sc (more_declared ds e) xs → EndsIn ts
    → Got (λ fs ys. (init_declarators true q sc fs ▸ some_mark puncts.Semicolon) (xs ++ ys)) (λ fs. after_declarators (is_typedef q) sc fs ∷ outer) ts (declarators_run limit unit (naming_of q) us ds e (declared (is_typedef q) (after_declarators (is_typedef q) sc ds) e ∷ outer) ts)
run_got limit unit q sc outer [] ds e ts xs h ends = tt
run_got limit unit q sc outer (u ∷ us) ds e ts xs h ends = seq (λ r ys. progress_front q sc r (xs ++ ys)) (progress_behind q sc outer) (λ fs ys. (init_declarators true q sc fs ▸ some_mark puncts.Semicolon) (xs ++ ys)) (λ fs. after_declarators (is_typedef q) sc fs ∷ outer) ts (declarators_step limit unit (naming_of q) ds e (declared (is_typedef q) (after_declarators (is_typedef q) sc ds) e ∷ outer) ts) (declarators_next (declarators_run limit unit (naming_of q) us)) (step_got limit unit q sc outer ds e ts xs h ends)
    (λ r ys rest are p left. run_next limit unit q sc outer us xs ys rest r p left (λ gs d vs zs. run_got limit unit q sc outer us gs d vs zs))

-- behind specifiers and a first declarator
pub from_got : (limit : ℕ) (unit : List Token) (q : t.SpecifiersTree) (sc : Scope) (outer : Blocks) (e : t.DeclaratorTree) (ts zs xs : List Token) → g.specifiers sc true q zs → g.declarator (g.named (has_type q)) (after_specifiers sc q) (declarator_start e) e xs → EndsIn ts
    → Got (λ d ys. declaration sc d (zs ++ (xs ++ ys))) (λ d. after_decl sc d ∷ outer) ts (declaration_from limit unit q e (declared (is_typedef q) (after_specifiers sc q) e ∷ outer) ts)
from_got limit unit q sc outer e ts zs xs p h ends = mapped (λ ds. record { specifiers = q; declarators = ds }) _ _ _ _ ts (declarators_read limit unit (naming_of q) e (declared (is_typedef q) (after_specifiers sc q) e ∷ outer) ts) (run_got limit unit q (after_specifiers sc q) outer unit [] e ts xs ([], xs, refl, refl, ([], xs, refl, refl, h)) ends)
    (λ ds ys m. (zs, xs ++ ys, refl, p, m))
    (λ ds. refl)
