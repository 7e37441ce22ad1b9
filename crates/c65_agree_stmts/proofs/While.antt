-- `while`: by induction on the number of steps that are looked at.
use Rattle.std.proofs.Common.{◌≡◌, ℕ, suc, ◌+◌, ◌<◌, ◌≤◌, inr, List, [], ◌∷◌, ◌++◌, Some, refl, sym, ap, ◌∙◌, subst, arith, length-append}
use Rattle.std.specs.Prelude.{length, false}
use Rattle.c65_csem.specs.Trees.{Typed, absent, present, Stmt, while, UnitTy}
use Rattle.c65_mach.specs.declared.rows.Op.TheVariants.{Jmp}
use Rattle.c65_meaning.specs.Items.{Item, Loop, Test, Next, test_first, head_of, plan_stmt}
use Rattle.c65_meaning.specs.State.{Scene, Running, turned}
use Rattle.c65_code.specs.declared.line.Line.{Line}
use Rattle.c65_code.specs.declared.line.Line.TheVariants.{Label}
use Rattle.c65_code.specs.LineState.{Place, State}
use Rattle.c65_code.specs.Moves.{labelled}
use Rattle.c65_code.specs.Comes.{Seen}
use Rattle.c65_genexpr.specs.declared.wanted.Wanted.TheVariants as wanted
use Rattle.c65_genexpr.specs.Code.{expr_code}
use Rattle.c65_genexpr.specs.Uses.{uses}
use Rattle.c65_genentry.specs.Words.{jump}
use Rattle.c65_genstmt.specs.declared.jumps.Ways.{Ways}
use Rattle.c65_genstmt.specs.Stmts.{ways}
use Rattle.c65_agree_store.specs.Stands.{Placing, Banks}
use Rattle.c65_agree_state.specs.World.{unit_in, lines_of, place_in, HasAt, IsPlaced, HasTurns, HasCome}
use Rattle.c65_agree_state.specs.Follows.{Follows}
use Rattle.c65_agree_state.proofs.Followed.{follows_weaken}
use Rattle.c65_agree_state.proofs.Nodes.{has_front, has_back}
use Rattle.c65_agree_lines.specs.Lists.{stmt_code}
use Rattle.c65_agree_stmts.specs.Calling.{Calling, Does, HasTest, HeadIsCounted}
use Rattle.c65_agree_stmts.specs.Laws.{WhileDoes}
use Rattle.c65_agree_stmts.proofs.Bounds.{all_does}
use Rattle.c65_agree_stmts.proofs.Standing.{Stands, stands_turned, earns, jumps, decision_goes, come_turns, turn_taken}
use Rattle.c65_agree_stmts.proofs.Ahead.{onward, passed, at_label, behind_label, Goes, Ahead, less, does_with, IsDone, work_does}

module _ (x : Calling) (scope : List ℕ) (at next fresh : ℕ) (w : Ways) (e : Typed) (s : Stmt) (placed : IsPlaced (lines_of x.world x.active)) (counted : HeadIsCounted x fresh) (test : HasTest x e)
    (ds : Does x scope (suc at) s (ways (fresh + 1) fresh w.other) next (fresh + 1 + 1 + uses (Some false) e)) where
  abbrev pub T : List Line
  T = expr_code x.active.frame 0 (fresh + 1 + 1) (wanted.Test (fresh + 1) false) e

  abbrev pub inner : Ways
  inner = ways (fresh + 1) fresh w.other

  abbrev pub B : List Line
  B = stmt_code x.active.frame inner next s (fresh + 1 + 1 + uses (Some false) e)

  abbrev pub last : List Line
  last = jump Jmp fresh ∷ Label (fresh + 1) ∷ []

  abbrev pub loop : Loop
  loop = test_first (present e) absent (suc at) s

  module _ (n v p : ℕ) (k : List Item) (le : n ≤ x.most) (more : x.reserve ≤ v) (has : HasAt (lines_of x.world x.active) p (Label fresh ∷ (T ++ (B ++ last)))) (ahead : Ahead x n v scope k w) (goes : Goes x n v scope k (p + length (Label fresh ∷ (T ++ (B ++ last))))) where
    abbrev pub place : ℕ → Place
    place i = place_in x.world x.active i

    abbrev pub code : List Line
    code = lines_of x.world x.active

    abbrev pub u : UnitTy
    u = unit_in x.world

    abbrev pub p1 : ℕ
    p1 = suc p + length T

    abbrev pub p2 : ℕ
    p2 = p1 + length B

    pub h1 : HasAt code p1 (B ++ last)
    h1 = has_back code (suc p) T _ has.1

    h2 : HasAt code p2 last
    h2 = has_back code p1 B last h1

    end : place (labelled code (fresh + 1)) ≡ place (p + length (Label fresh ∷ (T ++ (B ++ last))))
    end = behind_label x.world x.active placed (suc p2) (fresh + 1) h2.1.0 ∙ ap place (omega (arith, length-append T (B ++ last), length-append B last))

    back : place (labelled code fresh) ≡ place p
    back = at_label x.world x.active placed p fresh has.0

    abbrev pub HeadDoes : ℕ → Type 0
    HeadDoes j = j ≤ n → (c : Scene) (q : Placing) (b : Banks) (t : State) (seen : Seen) → Stands x scope c q b t → HasTurns x.world c.turns (place p) seen → Follows x.world j v (Running (head_of u loop k) x.values c) (place p) t seen

    -- behind the loop
    leaves : (j : ℕ) → j < n → (c : Scene) (q : Placing) (b : Banks) (t : State) (seen : Seen) → Stands x scope c q b t → HasCome x.world c.turns (place (labelled code (fresh + 1))) seen → Follows x.world j v (Running k x.values c) (place (labelled code (fresh + 1))) t seen
    leaves j lt c q b t seen stands come =
        onward x.world x.active j v c.turns (Running k x.values c) _ _ t seen end (goes j c q b t seen lt stands) (come_turns x.world c.turns _ seen come)

    -- at the head, with a turn
    begins : (j : ℕ) → HeadDoes j → j ≤ n → (c : Scene) (q : Placing) (b : Banks) (t : State) (seen : Seen) → Stands x scope c q b t → HasCome x.world c.turns (place (labelled code fresh)) seen
        → Follows x.world j v (Running (head_of u loop k) x.values (turned c)) (place (labelled code fresh)) t seen
    begins j does jn c q b t seen stands come =
        let here = subst (λ z. HasCome x.world c.turns z seen) back come in
        subst (λ z. Follows x.world j v (Running (head_of u loop k) x.values (turned c)) z t seen) (sym back)
        (does jn (turned c) q b t seen (stands_turned x scope c q b t stands) (turn_taken x.world c.turns (place p) seen (counted p has.0) here))

    -- `continue` goes to the head
    continues : (j : ℕ) → ((i : ℕ) → i < j → HeadDoes i) → j ≤ n → (c : Scene) (q : Placing) (b : Banks) (t : State) (seen : Seen) → Stands x scope c q b t → HasCome x.world c.turns (place (labelled code fresh)) seen
        → Follows x.world j v (Running (Next loop ∷ k) x.values c) (place (labelled code fresh)) t seen
    continues j later jn c q b t seen stands come =
        earns x scope c q b t stands j v (Next loop) k x.values _ seen (come_turns x.world c.turns _ seen come) (λ i lt.
        follows_weaken x.world i v (v + 4000) _ _ t seen (omega arith) (begins i (later i lt) (omega (arith, lt, jn)) c q b t seen stands come))

    -- and so does the end of the body
    pub bottom : (j : ℕ) → ((i : ℕ) → i < j → HeadDoes i) → j ≤ n → (c : Scene) (q : Placing) (b : Banks) (t : State) (seen : Seen) → Stands x scope c q b t → HasTurns x.world c.turns (place p2) seen
        → Follows x.world j v (Running (Next loop ∷ k) x.values c) (place p2) t seen
    bottom j later jn c q b t seen stands turns =
        earns x scope c q b t stands j v (Next loop) k x.values _ seen turns (λ i lt.
        follows_weaken x.world i (1 + v) (v + 4000) _ _ t seen (omega arith)
        (jumps x scope c q b t stands i v c.turns p2 fresh _ seen h2.0 turns (λ come. begins i (later i lt) (omega (arith, lt, jn)) c q b t _ stands come)))

    pub inside : (j : ℕ) → ((i : ℕ) → i < j → HeadDoes i) → j ≤ n → Ahead x j v scope (Next loop ∷ k) inner
    inside j later jn =
        let l = less x n j v v scope k w jn (omega arith) ahead in
        record {
          call = l.call;
          behind = (scope, λ i h. inr h, λ i c q b t seen lt between keeping come. leaves i (omega (arith, lt, jn)) c q b t seen (record { between = between; keeping = keeping }) come);
          onward = (scope, λ i h. inr h, λ i c q b t seen lt between keeping come. continues i (λ h lt2. later h (omega (arith, lt, lt2))) (omega (arith, lt, jn)) c q b t seen (record { between = between; keeping = keeping }) come);
          labels = l.labels;
          returns = l.returns;
        }

    pub head : (j : ℕ) → ((i : ℕ) → i < j → HeadDoes i) → HeadDoes j
    head j later jn c q b t seen stands turns =
        onward x.world x.active j v c.turns (Running (head_of u loop k) x.values c) _ _ t seen (passed x.world x.active p fresh has.0) (λ turns1.
        decision_goes x scope c q b t stands e test false (fresh + 1) (Test loop) (λ c2. Running (plan_stmt u (suc at) s (Next loop ∷ k)) x.values c2) (λ c2. Running k x.values c2)
        j v (suc p) (fresh + 1 + 1) k seen (λ value c2. refl) (has_front code (suc p) T _ has.1) turns1 (λ i c2 q2 b2 y later2 lt stands2 turns2.
        follows_weaken x.world i v (v + 6600) _ _ y later2 (omega arith)
        (does_with x scope (plan_stmt u (suc at) s) inner B ds i v p1 (Next loop ∷ k) c2 q2 b2 y later2 (omega (arith, lt, jn, le)) more (has_front code p1 B _ h1) stands2 turns2
        (inside i (λ h lt2. later h (omega (arith, lt, lt2))) (omega (arith, lt, jn))) (λ h c3 q3 b3 z later3 lt3 stands3 turns3.
        bottom h (λ m lt4. later m (omega (arith, lt, lt3, lt4))) (omega (arith, lt, lt3, jn)) c3 q3 b3 z later3 stands3 turns3))) (λ i c2 q2 b2 y later2 lt stands2 come.
        follows_weaken x.world i v (v + 6600) _ _ y later2 (omega arith) (leaves i (omega (arith, lt, jn)) c2 q2 b2 y later2 stands2 come))) turns

    pub heads : (j : ℕ) → HeadDoes j
    heads = all_does HeadDoes head

  while_done : IsDone x scope (plan_stmt (unit_in x.world) at (while e s)) w (Label fresh ∷ (T ++ (B ++ last)))
  while_done n v p k c q b t seen le more has stands turns ahead goes =
      heads n v p k le more has ahead goes n (omega arith) c q b t seen stands turns

pub while_does : WhileDoes
while_does x scope at next fresh w e s placed counted test ds =
    work_does x scope (plan_stmt (unit_in x.world) at (while e s)) w (stmt_code x.active.frame w next (while e s) fresh) (while_done x scope at next fresh w e s placed counted test ds)
