-- Where labels in the arms of `if` and in the bodies of loops lead.
use Rattle.std.proofs.Common.{◌≡◌, ℕ, suc, ◌+◌, max, List, [], ◌∷◌, ◌++◌, Some, ap, ◌∙◌, arith, length-append}
use Rattle.std.specs.Prelude.{length, false}
use Rattle.c65_csem.specs.Trees.{present, absent, UnitTy}
use Rattle.c65_csem_plain.specs.Arms.{arms}
use Rattle.c65_meaning.specs.Items.{Next, Check, test_first, test_last}
use Rattle.c65_meaning.specs.After.{after}
use Rattle.c65_meaning.specs.Sites.{count}
use Rattle.c65_meaning.specs.State.{Running}
use Rattle.c65_code.specs.declared.line.Line.{Line}
use Rattle.c65_code.specs.declared.line.Line.TheVariants.{Label}
use Rattle.c65_genexpr.specs.declared.wanted.Wanted.TheVariants.{Test}
use Rattle.c65_genexpr.specs.Code.{expr_code}
use Rattle.c65_genexpr.specs.Uses.{uses}
use Rattle.c65_genstmt.specs.Stmts.{is_empty, case_behind}
use Rattle.c65_agree_state.specs.World.{unit_in, lines_of, place_in, HasAt}
use Rattle.c65_agree_state.proofs.Nodes.{has_front, has_back}
use Rattle.c65_agree_lines.specs.Lists.{way_code, stmt_code, stmt_uses}
use Rattle.c65_agree_stmts.specs.Landings.{label_of}
use Rattle.c65_agree_stmts.specs.Laws.{IfLands, WhileLands, DoLands, ForLands}
use Rattle.c65_agree_stmts.proofs.Ahead.{onward, passed, Goes, goes_of, going_of, less}
use Rattle.c65_agree_stmts.proofs.Over.{no_lines_of, goes_over}
use Rattle.c65_agree_stmts.proofs.Landings.{ahead_of, is_ahead, lands_more, lands_first}
use Rattle.c65_agree_stmts.proofs.While as whiles
use Rattle.c65_agree_stmts.proofs.Do as dos
use Rattle.c65_agree_stmts.proofs.For as fors

pub if_lands : IfLands
if_lands x what scope at next fresh w e s r placed ls lr n v p k le more has ahead goes =
    lands_first x n (v + max (1 + arms s) (arms r)) scope (after u what (suc at) s k) (after u what (suc at + count s) r k) (label_of what w.other next s) (label_of what w.other (case_behind next s) r)
    (lands_more x n (1 + v + arms s) (v + max (1 + arms s) (arms r)) scope _ _ (omega arith)
    (ls n (1 + v) p1 k le (omega (arith, more)) (has_front code p1 A _ h1) (is_ahead x n (1 + v) scope k w (less x n n v (1 + v) scope k w (omega arith) (omega arith) (ahead_of x n v scope k w ahead)))
    (going_of x n (1 + v) scope k p2
    (goes_over x scope k (is_empty r) fresh (fresh + 1) B n v p2 placed (no_lines_of x.active.frame w (case_behind next s) r (f + stmt_uses x.active.frame s)) h2 (λ j c q b t seen lt stands turns.
    onward x.world x.active j v c.turns (Running k x.values c) _ _ t seen end (all j c q b t seen lt stands) turns)))))
    (lands_more x n (v + arms r) (v + max (1 + arms s) (arms r)) scope _ _ (omega arith)
    (lr n v (suc (p2 + length W)) k le more (has_front code (suc (p2 + length W)) B _ h2b.1) ahead
    (going_of x n v scope k p3 (λ j c q b t seen lt stands turns.
    onward x.world x.active j v c.turns (Running k x.values c) _ _ t seen (passed x.world x.active p3 (fresh + 1) h3.0 ∙ end) (all j c q b t seen lt stands) turns))))
  where
    u : UnitTy
    u = unit_in x.world

    code : List Line
    code = lines_of x.world x.active

    f : ℕ
    f = fresh + 1 + 1 + uses (Some false) e

    T : List Line
    T = expr_code x.active.frame 0 (fresh + 1 + 1) (Test fresh false) e

    A : List Line
    A = stmt_code x.active.frame w next s f

    B : List Line
    B = stmt_code x.active.frame w (case_behind next s) r (f + stmt_uses x.active.frame s)

    last : List Line
    last = Label (fresh + 1) ∷ []

    W : List Line
    W = way_code (is_empty r) (fresh + 1)

    p1 : ℕ
    p1 = p + length T

    p2 : ℕ
    p2 = p1 + length A

    p3 : ℕ
    p3 = suc (p2 + length W) + length B

    h1 : HasAt code p1 (A ++ (W ++ Label fresh ∷ (B ++ last)))
    h1 = has_back code p T _ has

    h2 : HasAt code p2 (W ++ Label fresh ∷ (B ++ last))
    h2 = has_back code p1 A _ h1

    h2b : HasAt code (p2 + length W) (Label fresh ∷ (B ++ last))
    h2b = has_back code p2 W _ h2

    h3 : HasAt code p3 last
    h3 = has_back code (suc (p2 + length W)) B last h2b.1

    end : place_in x.world x.active (suc p3) ≡ place_in x.world x.active (p + length (T ++ (A ++ (W ++ Label fresh ∷ (B ++ last)))))
    end = ap (place_in x.world x.active) (omega (arith, length-append T (A ++ (W ++ Label fresh ∷ (B ++ last))), length-append A (W ++ Label fresh ∷ (B ++ last)), length-append W (Label fresh ∷ (B ++ last)), length-append B last))

    all : Goes x n v scope k (p + length (T ++ (A ++ (W ++ Label fresh ∷ (B ++ last)))))
    all = goes_of x n v scope k (p + length (T ++ (A ++ (W ++ Label fresh ∷ (B ++ last))))) goes

pub while_lands : WhileLands
while_lands x what scope at next fresh w e s placed counted test ds ls n v p k le more has ahead goes =
    let loop = test_first (present e) absent (suc at) s in
    let inner = whiles.inner x scope at next fresh w e s placed counted test ds in
    let B = whiles.B x scope at next fresh w e s placed counted test ds in
    let a = ahead_of x n v scope k w ahead in
    let g = goes_of x n v scope k _ goes in
    let heads = whiles.heads x scope at next fresh w e s placed counted test ds n v p k le more has a g in
    let p1 = whiles.p1 x scope at next fresh w e s placed counted test ds n v p k le more has a g in
    ls n v p1 (Next loop ∷ k) le more (has_front (lines_of x.world x.active) p1 B _ (whiles.h1 x scope at next fresh w e s placed counted test ds n v p k le more has a g))
    (is_ahead x n v scope (Next loop ∷ k) inner (whiles.inside x scope at next fresh w e s placed counted test ds n v p k le more has a g n (λ i lt. heads i) (omega arith)))
    (going_of x n v scope (Next loop ∷ k) (p1 + length B) (λ j c q b t seen lt stands turns.
    whiles.bottom x scope at next fresh w e s placed counted test ds n v p k le more has a g j (λ i lt2. heads i) (omega (arith, lt)) c q b t seen stands turns))

pub do_lands : DoLands
do_lands x what scope at next fresh w e s placed counted test ds ls n v p k le more has ahead goes =
    let loop = test_last e (suc at) s in
    let inner = dos.inner x scope at next fresh w e s placed counted test ds in
    let B = dos.B x scope at next fresh w e s placed counted test ds in
    let a = ahead_of x n v scope k w ahead in
    let g = goes_of x n v scope k _ goes in
    let heads = dos.heads x scope at next fresh w e s placed counted test ds n v p k le more has a g in
    ls n v (suc p) (Check loop ∷ k) le more (has_front (lines_of x.world x.active) (suc p) B _ has.1)
    (is_ahead x n v scope (Check loop ∷ k) inner (dos.inside x scope at next fresh w e s placed counted test ds n v p k le more has a g n (λ i lt. heads i) (omega arith)))
    (going_of x n v scope (Check loop ∷ k) (suc p + length B) (λ j c q b t seen lt stands turns.
    dos.bottom x scope at next fresh w e s placed counted test ds n v p k le more has a g j (λ i lt2. heads i) (omega (arith, lt)) c q b t seen stands turns))

pub for_lands : ForLands
for_lands x what scope at next fresh w i e o s placed counted before test behind ds ls n v p k le more has ahead goes =
    let loop = test_first e o (suc at) s in
    let inner = fors.inner x scope at next fresh w i e o s placed counted before test behind ds in
    let B = fors.B x scope at next fresh w i e o s placed counted before test behind ds in
    let a = ahead_of x n v scope k w ahead in
    let g = goes_of x n v scope k _ goes in
    let heads = fors.heads x scope at next fresh w i e o s placed counted before test behind ds n v p k le more has a g in
    let p1 = fors.p1 x scope at next fresh w i e o s placed counted before test behind ds n v p k le more has a g in
    ls n v p1 (Next loop ∷ k) le more (has_front (lines_of x.world x.active) p1 B _ (fors.h1 x scope at next fresh w i e o s placed counted before test behind ds n v p k le more has a g))
    (is_ahead x n v scope (Next loop ∷ k) inner (fors.inside x scope at next fresh w i e o s placed counted before test behind ds n v p k le more has a g n (λ m lt. heads m) (omega arith)))
    (going_of x n v scope (Next loop ∷ k) (p1 + length B) (λ j c q b t seen lt stands turns.
    fors.bottom x scope at next fresh w i e o s placed counted before test behind ds n v p k le more has a g j (λ m lt2. heads m) (omega (arith, lt)) c q b t seen stands turns))
