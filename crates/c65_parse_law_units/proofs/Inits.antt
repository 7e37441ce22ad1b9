-- Initialisers (C90 6.5.7), with steps enough for as many tokens as are left.
use Rattle.std.proofs.Common.{◌≡◌, ℕ, suc, ◌+◌, ◌-◌, ◌<◌, ◌≤◌, List, [], ◌∷◌, ◌++◌, length, length-append, Bool, true, false, refl, sym, ap, ◌∙◌, subst, inl, inr, arith}
use Rattle.std.proofs.lemmas.Bool.{le-leb}
use Rattle.std.specs.Prelude.{nat_le, Ok, Err, Option, None, Some}
use Rattle.c65_base.specs.Answers.{large, ◌>>=◌}
use Rattle.c65_base.specs.declared.refusal.Pos.{Pos}
use Rattle.c65_base.specs.declared.refusal.Size.TheVariants.{Depth}
use Rattle.c65_scan.specs.declared.token.Punct.TheVariants as puncts
use Rattle.c65_scan.specs.declared.token.Token.{Token}
use Rattle.c65_scan.specs.declared.token.TokenKind.{TokenKind}
use Rattle.c65_scan.specs.declared.token.TokenKind.TheVariants as kinds
use Rattle.c65_tree.specs.Trees as t
use Rattle.c65_tree.specs.Depth.{expr_depth, init_depth, inits_depth}
use Rattle.c65_parse_names.specs.Scopes.{Blocks}
use Rattle.c65_parse.specs.Reading.{after_token}
use Rattle.c65_parse_frames.specs.declared.sign.Mark.TheVariants as marks
use Rattle.c65_parse_frames.specs.Signs.{sign_of, is_mark}
use Rattle.c65_parse_frames.specs.Lists.{OpenList, listed_open, with_initialiser, empty_list}
use Rattle.c65_decl.specs.Here.{is_here, pos_here, expected}
use Rattle.c65_decl.specs.Initialisers.{element_read, brace_passed, behind_comma, list_end, lists_next, lists_closed, list_begun, initialiser_step, initialiser_next, initialiser_run, initialiser_read, optional_init_read}
use Rattle.c65_parse_grammar.specs.Phrases.{token}
use Rattle.c65_parse_grammar.specs.Spellings.{comma_unless}
use Rattle.c65_parse_grammar.specs.Parts.{level, start}
use Rattle.c65_parse_grammar.specs.Scopes.{Scope, after, after_init, after_inits, after_maybe_init}
use Rattle.c65_parse_grammar.specs.Expressions as g
use Rattle.c65_parse_grammar.specs.Statements.{initialiser, initialisers, optional_init}
use Rattle.c65_parse_law_trees.specs.Read.{EndsExpr}
use Rattle.c65_parse_law_trees.proofs.Runs.{First, split, before, before_some, behind_some, between_some}
use Rattle.c65_parse_law_alike.proofs.Alike.{expr_deep}
use Rattle.c65_parse_law_trees.proofs.Firsts.{Opens, opens_mark, opens_map, Operand, begins_expr}
use Rattle.c65_parse_law_trees.proofs.Top.{exprs_are_read}
use Rattle.c65_parse_law_units.proofs.Heres.{Left, left_more, here_is, passed, is_here_is, opens_here, next, when, unless, expected_is, no_mark, not_here, starts_expr, opens_long}

abbrev pub EndsInit : Token → Type 0
EndsInit tok = EndsExpr 1 tok.kind

-- what an initialiser leads to
pub record InitRun (limit : ℕ) (us : List Token) (ls : List OpenList) (sc : Scope) (outer : Blocks) (i : t.InitTree) (ts rest : List Token) : Type 0 where
  pub us_left : List Token
  pub enough : length rest ≤ length us_left
  pub are : initialiser_run limit us ls (sc ∷ outer) ts ≡ (lists_closed ls i (after_init sc i ∷ outer) rest >>= initialiser_next (initialiser_run limit us_left))

abbrev pub ReadsInit : (limit : ℕ) → t.InitTree → Type 0
ReadsInit limit i = (us : List Token) (ls : List OpenList) (sc : Scope) (outer : Blocks) (xs rest : List Token) → initialiser sc i xs → init_depth i + length ls ≤ limit → length (xs ++ rest) ≤ length us → Left rest → First EndsInit rest → InitRun limit us ls sc outer i (xs ++ rest) rest

-- the last initialiser of an open list is what the list has next
pub record InitsRun (limit : ℕ) (us : List Token) (l : Pos) (ls : List OpenList) (sc : Scope) (outer : Blocks) (is : t.InitList) (i : t.InitTree) (ts rest : List Token) : Type 0 where
  pub us_left : List Token
  pub enough : length rest ≤ length us_left
  pub are : initialiser_run limit us (empty_list l ∷ ls) (sc ∷ outer) ts ≡ (lists_closed (record { place = l; inits = is } ∷ ls) i (after_init (after_inits sc is) i ∷ outer) rest >>= initialiser_next (initialiser_run limit us_left))

abbrev pub ReadsInits : (limit : ℕ) → t.InitList → Type 0
ReadsInits limit t.no_inits = Unit {0}
ReadsInits limit (t.and_init is i) = (us : List Token) (l : Pos) (ls : List OpenList) (sc : Scope) (outer : Blocks) (xs rest : List Token) → initialisers sc (t.and_init is i) xs → inits_depth (t.and_init is i) + suc (length ls) ≤ limit → length (xs ++ rest) ≤ length us → Left rest → First EndsInit rest → InitsRun limit us l ls sc outer is i (xs ++ rest) rest

element_step : (limit : ℕ) (ls : List OpenList) (sc : Scope) (outer : Blocks) (l : Pos) (e : t.ExprTree) (xs : List Token) (r : Token) (rs : List Token) → start e ≡ l → 1 ≤ level e → g.expr sc e xs → expr_depth e + length ls ≤ limit → EndsInit r
    → initialiser_step limit ls (sc ∷ outer) (xs ++ r ∷ rs) ≡ lists_closed ls (t.value l e) (after sc e ∷ outer) (r ∷ rs)
element_step limit ls sc outer l e xs r rs at high p deep f =
    unless (is_here marks.OpenBrace (xs ++ r ∷ rs)) (list_begun limit ls (sc ∷ outer) (xs ++ r ∷ rs)) (element_read limit (length ls) (sc ∷ outer) (xs ++ r ∷ rs) >>= (λ x. lists_closed ls (t.value (pos_here (xs ++ r ∷ rs)) x.0) x.2 x.1)) (not_here marks.OpenBrace sc xs (r ∷ rs) (record { name = λ n. refl; operand = refl; paren = refl }) (begins_expr e sc xs p))
    ∙ (next (element_read limit (length ls) (sc ∷ outer) (xs ++ r ∷ rs)) (e, r ∷ rs, after sc e ∷ outer) (λ x. lists_closed ls (t.value (pos_here (xs ++ r ∷ rs)) x.0) x.2 x.1) (lists_closed ls (t.value (pos_here (xs ++ r ∷ rs)) e) (after sc e ∷ outer) (r ∷ rs))
    (exprs_are_read (limit - length ls) 1 sc outer e xs r rs p high (omega (arith, deep)) (omega arith) f) refl
    ∙ ap (λ k. lists_closed ls (t.value k e) (after sc e ∷ outer) (r ∷ rs)) (opens_here (λ tok. tok.pos ≡ start e) xs (r ∷ rs) (starts_expr e sc xs p) ∙ at))

pub reads_value : (limit : ℕ) (l : Pos) (e : t.ExprTree) → ReadsInit limit (t.value l e)
reads_value limit l e us ls sc outer xs [] p deep enough left f = absurd left
reads_value limit l e [] ls sc outer xs (r ∷ rs) p deep enough left f = let long = length-append xs (r ∷ rs) in absurd (omega (arith, enough, long))
reads_value limit l e (u ∷ us) ls sc outer xs (r ∷ rs) p deep enough left f =
    let long = length-append xs (r ∷ rs) in
    let some = opens_long (Operand sc) xs (begins_expr e sc xs p.1) in
    record {
      us_left = us;
      enough = omega (arith, enough, long, some);
      are = ap (λ x. x >>= initialiser_next (initialiser_run limit us)) (element_step limit ls sc outer l e xs r rs p.0.0 p.0.1 p.1 deep f);
    }

init_deep : (i : t.InitTree) → 1 ≤ init_depth i
init_deep (t.value l e) = expr_deep e
init_deep (t.list l is) = omega arith

-- the end of a list
closed_brace : (scope : Blocks) (k : Pos) (rest : List Token) → Left rest → list_end scope (token (kinds.Punct puncts.CloseBrace) k ∷ rest) ≡ Ok (true, rest, scope)
closed_brace scope k rest left =
    unless (is_here marks.Comma (token (kinds.Punct puncts.CloseBrace) k ∷ rest)) (behind_comma scope (after_token (token (kinds.Punct puncts.CloseBrace) k ∷ rest))) (brace_passed scope (token (kinds.Punct puncts.CloseBrace) k ∷ rest)) (is_here_is marks.Comma (token (kinds.Punct puncts.CloseBrace) k) rest)
    ∙ next (expected marks.CloseBrace scope (token (kinds.Punct puncts.CloseBrace) k ∷ rest)) (rest, scope) (λ a. Ok (true, a.0, a.1)) (Ok (true, rest, scope)) (expected_is marks.CloseBrace scope (token (kinds.Punct puncts.CloseBrace) k) rest refl left) refl

comma_passed : (scope : Blocks) (j : Pos) (ts : List Token) → Left ts → list_end scope (token (kinds.Punct puncts.Comma) j ∷ ts) ≡ behind_comma scope ts
comma_passed scope j ts left =
    when (is_here marks.Comma (token (kinds.Punct puncts.Comma) j ∷ ts)) (behind_comma scope (after_token (token (kinds.Punct puncts.Comma) j ∷ ts))) (brace_passed scope (token (kinds.Punct puncts.Comma) j ∷ ts)) (is_here_is marks.Comma (token (kinds.Punct puncts.Comma) j) ts)
    ∙ ap (behind_comma scope) (passed (token (kinds.Punct puncts.Comma) j) ts left)

comma_brace : (scope : Blocks) (j k : Pos) (rest : List Token) → Left rest → list_end scope (token (kinds.Punct puncts.Comma) j ∷ token (kinds.Punct puncts.CloseBrace) k ∷ rest) ≡ Ok (true, rest, scope)
comma_brace scope j k rest left =
    comma_passed scope j (token (kinds.Punct puncts.CloseBrace) k ∷ rest) tt
    ∙ (when (is_here marks.CloseBrace (token (kinds.Punct puncts.CloseBrace) k ∷ rest)) (brace_passed scope (token (kinds.Punct puncts.CloseBrace) k ∷ rest)) (Ok (false, token (kinds.Punct puncts.CloseBrace) k ∷ rest, scope)) (is_here_is marks.CloseBrace (token (kinds.Punct puncts.CloseBrace) k) rest)
    ∙ next (expected marks.CloseBrace scope (token (kinds.Punct puncts.CloseBrace) k ∷ rest)) (rest, scope) (λ a. Ok (true, a.0, a.1)) (Ok (true, rest, scope)) (expected_is marks.CloseBrace scope (token (kinds.Punct puncts.CloseBrace) k) rest refl left) refl)

-- with what an initialiser begins
abbrev InitKind : Scope → TokenKind → Type 0
InitKind sc k = (is_mark marks.CloseBrace (sign_of k) ≡ false)

begins_init : (i : t.InitTree) (sc : Scope) (xs : List Token) → initialiser sc i xs → Opens (λ tok. InitKind sc tok.kind) xs
begins_init (t.value l e) sc xs p = opens_map (Operand sc) (λ tok. InitKind sc tok.kind) xs (λ tok h. no_mark marks.CloseBrace (record { name = λ n. refl; operand = refl; paren = refl }) sc tok.kind h) (begins_expr e sc xs p.1)
begins_init (t.list l is) sc xs p = opens_mark (λ tok. InitKind sc tok.kind) l (kinds.Punct puncts.OpenBrace) xs p.0 p.1 p.2 p.3 refl

comma_more : (scope : Blocks) (j : Pos) (sc : Scope) (xs rest : List Token) → Opens (λ tok. InitKind sc tok.kind) xs → Left rest → list_end scope (token (kinds.Punct puncts.Comma) j ∷ (xs ++ rest)) ≡ Ok (false, xs ++ rest, scope)
comma_more scope j sc xs rest o left =
    comma_passed scope j (xs ++ rest) (left_more xs rest left)
    ∙ unless (is_here marks.CloseBrace (xs ++ rest)) (brace_passed scope (xs ++ rest)) (Ok (false, xs ++ rest, scope)) (opens_here (λ tok. InitKind sc tok.kind) xs rest o)

open_step : (limit : ℕ) (ls : List OpenList) (sc : Scope) (outer : Blocks) (l : Pos) (ts : List Token) → Left ts → length ls + 2 ≤ limit → initialiser_step limit ls (sc ∷ outer) (token (kinds.Punct puncts.OpenBrace) l ∷ ts) ≡ Ok (listed_open (empty_list l ∷ ls), ts, sc ∷ outer)
open_step limit ls sc outer l ts left deep =
    let tok : Token = token (kinds.Punct puncts.OpenBrace) l in
    when (is_here marks.OpenBrace (tok ∷ ts)) (list_begun limit ls (sc ∷ outer) (tok ∷ ts)) (element_read limit (length ls) (sc ∷ outer) (tok ∷ ts) >>= (λ x. lists_closed ls (t.value (pos_here (tok ∷ ts)) x.0) x.2 x.1)) (is_here_is marks.OpenBrace tok ts)
    ∙ (when (nat_le (length ls + 2) limit) (Ok (listed_open (empty_list (pos_here (tok ∷ ts)) ∷ ls), after_token (tok ∷ ts), sc ∷ outer)) (Err (large Depth 257)) (le-leb (length ls + 2) limit deep)
    ∙ (ap (λ x. Ok (listed_open (empty_list x.pos ∷ ls), after_token (tok ∷ ts), sc ∷ outer)) (here_is tok ts)
    ∙ ap (λ x. Ok (listed_open (empty_list l ∷ ls), x, sc ∷ outer)) (passed tok ts left)))

-- the brace behind a list, and a comma before it or none
record ListEnd (is : t.InitList) (i : t.InitTree) (l : Pos) (ls : List OpenList) (scope : Blocks) (ts rest : List Token) : Type 0 where
  pub ends : First EndsInit ts
  pub shorter : length rest < length ts
  pub are : lists_closed (record { place = l; inits = is } ∷ ls) i scope ts ≡ lists_closed ls (t.list l (t.and_init is i)) scope rest

list_ends : (without : Bool) (is : t.InitList) (i : t.InitTree) (l : Pos) (ls : List OpenList) (scope : Blocks) (k : Pos) (us rest : List Token) → comma_unless without us → Left rest → ListEnd is i l ls scope (us ++ (token (kinds.Punct puncts.CloseBrace) k ∷ rest)) rest
list_ends true is i l ls scope k us rest p left =
    let brace : Token = token (kinds.Punct puncts.CloseBrace) k in
    subst (λ ts. ListEnd is i l ls scope (ts ++ (brace ∷ rest)) rest) (sym p) (record {
      ends = inl refl;
      shorter = omega arith;
      are = next (list_end scope (brace ∷ rest)) (true, rest, scope) (lists_next (lists_closed ls) (with_initialiser (record { place = l; inits = is }) i) ls) _ (closed_brace scope k rest left) refl;
    })
list_ends false is i l ls scope k us rest p left =
    let brace : Token = token (kinds.Punct puncts.CloseBrace) k in
    subst (λ ts. ListEnd is i l ls scope (ts ++ (brace ∷ rest)) rest) (sym p.1) (record {
      ends = inr (omega arith);
      shorter = omega arith;
      are = next (list_end scope (token (kinds.Punct puncts.Comma) p.0 ∷ brace ∷ rest)) (true, rest, scope) (lists_next (lists_closed ls) (with_initialiser (record { place = l; inits = is }) i) ls) _ (comma_brace scope p.0 k rest left) refl;
    })

list_run : (limit : ℕ) (is : t.InitList) (i : t.InitTree) → ReadsInits limit (t.and_init is i) → (us : List Token) (l : Pos) (ls : List OpenList) (sc : Scope) (outer : Blocks) (ys zs rest : List Token) → initialisers sc (t.and_init is i) ys → inits_depth (t.and_init is i) + suc (length ls) ≤ limit → suc (length (ys ++ zs)) ≤ length us → Left zs
    → ListEnd is i l ls (after_init (after_inits sc is) i ∷ outer) zs rest → InitRun limit us ls sc outer (t.list l (t.and_init is i)) (token (kinds.Punct puncts.OpenBrace) l ∷ (ys ++ zs)) rest
list_run limit is i ris [] l ls sc outer ys zs rest p deep enough left end = absurd (omega (arith, enough))
list_run limit is i ris (u ∷ us) l ls sc outer ys zs rest p deep enough left end =
    let run : InitsRun limit us l ls sc outer is i (ys ++ zs) zs = ris us l ls sc outer ys zs p deep (omega (arith, enough)) left end.ends in
    let more = run.enough in
    let less = end.shorter in
    record {
      us_left = run.us_left;
      enough = omega (arith, more, less);
      are = ap (λ x. x >>= initialiser_next (initialiser_run limit us)) (open_step limit ls sc outer l (ys ++ zs) (left_more ys zs left) (let some = init_deep i in omega (arith, deep, some)))
          ∙ (run.are ∙ ap (λ x. x >>= initialiser_next (initialiser_run limit run.us_left)) end.are);
    }

pub reads_list : (limit : ℕ) (l : Pos) (is : t.InitList) → ReadsInits limit is → ReadsInit limit (t.list l is)
reads_list limit l t.no_inits ris us ls sc outer xs rest p deep enough left f = absurd (let e = p.4.3.0 in cc)
reads_list limit l (t.and_init is i) ris us ls sc outer xs rest p deep enough left f =
    before (λ ts. length ts ≤ length us → InitRun limit us ls sc outer (t.list l (t.and_init is i)) ts rest) l (kinds.Punct puncts.OpenBrace) xs rest p (λ vs pv.
    split (λ ts. length (token (kinds.Punct puncts.OpenBrace) l ∷ ts) ≤ length us → InitRun limit us ls sc outer (t.list l (t.and_init is i)) (token (kinds.Punct puncts.OpenBrace) l ∷ ts) rest) vs rest pv (λ ys ws py pw.
    behind_some (λ ts. length (token (kinds.Punct puncts.OpenBrace) l ∷ (ys ++ ts)) ≤ length us → InitRun limit us ls sc outer (t.list l (t.and_init is i)) (token (kinds.Punct puncts.OpenBrace) l ∷ (ys ++ ts)) rest) (kinds.Punct puncts.CloseBrace) ws rest pw (λ k zs pz enough.
    let deep_in = init_deep i in
    list_run limit is i ris us l ls sc outer ys (zs ++ (token (kinds.Punct puncts.CloseBrace) k ∷ rest)) rest py.1 (omega (arith, deep)) enough (left_more zs (token (kinds.Punct puncts.CloseBrace) k ∷ rest) tt)
    (list_ends pz.0 is i l ls (after_init (after_inits sc is) i ∷ outer) k zs rest pz.1 left)))) enough

pub reads_more : (limit : ℕ) (is : t.InitList) (i : t.InitTree) → ReadsInits limit is → ReadsInit limit i → ReadsInits limit (t.and_init is i)
reads_more limit t.no_inits i ris ri us l ls sc outer xs rest p deep enough left f =
    split (λ ts. length ts ≤ length us → InitsRun limit us l ls sc outer t.no_inits i ts rest) xs rest p (λ ys vs a pv. subst (λ zs. length (zs ++ (vs ++ rest)) ≤ length us → InitsRun limit us l ls sc outer t.no_inits i (zs ++ (vs ++ rest)) rest) (sym a)
    (split (λ ts. length ts ≤ length us → InitsRun limit us l ls sc outer t.no_inits i ts rest) vs rest pv (λ ws zs b pz. subst (λ qs. length (qs ++ (zs ++ rest)) ≤ length us → InitsRun limit us l ls sc outer t.no_inits i (qs ++ (zs ++ rest)) rest) (sym b) (λ short.
    let run : InitRun limit us (empty_list l ∷ ls) sc outer i (zs ++ rest) rest = ri us (empty_list l ∷ ls) sc outer zs rest pz (omega (arith, deep)) short left f in
    record { us_left = run.us_left; enough = run.enough; are = run.are })))) enough
reads_more limit (t.and_init is e) i ris ri us l ls sc outer xs rest p deep enough left f =
    between_some (λ ts. length ts ≤ length us → InitsRun limit us l ls sc outer (t.and_init is e) i ts rest) (kinds.Punct puncts.Comma) xs rest p (λ j ys zs py pz short.
    let sc1 = after_inits sc (t.and_init is e) in
    let comma : Token = token (kinds.Punct puncts.Comma) j in
    let first : InitsRun limit us l ls sc outer is e (ys ++ (comma ∷ (zs ++ rest))) (comma ∷ (zs ++ rest)) = ris us l ls sc outer ys (comma ∷ (zs ++ rest)) py (omega (arith, deep)) short tt (inr (omega arith)) in
    let open_list : OpenList = record { place = l; inits = t.and_init is e } in
    let fuel = first.enough in
    let run : InitRun limit first.us_left (open_list ∷ ls) sc1 outer i (zs ++ rest) rest = ri first.us_left (open_list ∷ ls) sc1 outer zs rest pz (omega (arith, deep)) (omega (arith, fuel)) left f in
    record {
      us_left = run.us_left;
      enough = run.enough;
      are = first.are
          ∙ (ap (λ x. (x >>= lists_next (lists_closed ls) open_list ls) >>= initialiser_next (initialiser_run limit first.us_left)) (comma_more (sc1 ∷ outer) j sc1 zs rest (begins_init i sc1 zs pz) left)
          ∙ run.are);
    }) enough

mutual
  pub reads_init : (limit : ℕ) (i : t.InitTree) → ReadsInit limit i
  reads_init limit (t.value l e) = reads_value limit l e
  reads_init limit (t.list l is) = reads_list limit l is (reads_inits limit is)

  pub reads_inits : (limit : ℕ) (is : t.InitList) → ReadsInits limit is
  reads_inits limit t.no_inits = tt
  reads_inits limit (t.and_init is i) = reads_more limit is i (reads_inits limit is) (reads_init limit i)

abbrev pub OptionFits : (limit : ℕ) → Option t.InitTree → Type 0
OptionFits limit None = Unit {0}
OptionFits limit (Some i) = init_depth i ≤ limit

-- an initialiser that may lack
pub optional_is : (limit : ℕ) (unit : List Token) (sc : Scope) (outer : Blocks) (i : Option t.InitTree) (xs : List Token) (r : Token) (rs : List Token) → optional_init sc i xs → OptionFits limit i → length (xs ++ r ∷ rs) ≤ length unit → EndsInit r → is_mark marks.Equal (sign_of r.kind) ≡ false
    → optional_init_read limit unit (sc ∷ outer) (xs ++ r ∷ rs) ≡ Ok (i, r ∷ rs, after_maybe_init sc i ∷ outer)
optional_is limit unit sc outer None xs r rs p deep enough f no_equal = subst (λ ts. optional_init_read limit unit (sc ∷ outer) (ts ++ r ∷ rs) ≡ Ok (None, r ∷ rs, sc ∷ outer)) (sym p)
    (unless (is_here marks.Equal (r ∷ rs)) (initialiser_read limit unit (sc ∷ outer) (after_token (r ∷ rs)) >>= (λ i. Ok (Some i.0, i.1, i.2))) (Ok (None, r ∷ rs, sc ∷ outer)) (is_here_is marks.Equal r rs ∙ no_equal))
optional_is limit unit sc outer (Some i) xs r rs p deep enough f no_equal =
    before_some (λ ts. length ts ≤ length unit → optional_init_read limit unit (sc ∷ outer) ts ≡ Ok (Some i, r ∷ rs, after_init sc i ∷ outer)) (kinds.Punct puncts.Equal) xs (r ∷ rs) p (λ l ys py short.
    let tok : Token = token (kinds.Punct puncts.Equal) l in
    let run : InitRun limit unit [] sc outer i (ys ++ r ∷ rs) (r ∷ rs) = reads_init limit i unit [] sc outer ys (r ∷ rs) py (omega (arith, deep)) (omega (arith, short)) tt f in
    when (is_here marks.Equal (tok ∷ (ys ++ r ∷ rs))) (initialiser_read limit unit (sc ∷ outer) (after_token (tok ∷ (ys ++ r ∷ rs))) >>= (λ x. Ok (Some x.0, x.1, x.2))) (Ok (None, tok ∷ (ys ++ r ∷ rs), sc ∷ outer)) (is_here_is marks.Equal tok (ys ++ r ∷ rs))
    ∙ (ap (λ ts. initialiser_read limit unit (sc ∷ outer) ts >>= (λ x. Ok (Some x.0, x.1, x.2))) (passed tok (ys ++ r ∷ rs) (left_more ys (r ∷ rs) tt))
    ∙ next (initialiser_read limit unit (sc ∷ outer) (ys ++ r ∷ rs)) (i, r ∷ rs, after_init sc i ∷ outer) (λ x. Ok (Some x.0, x.1, x.2)) (Ok (Some i, r ∷ rs, after_init sc i ∷ outer)) run.are refl)) enough
