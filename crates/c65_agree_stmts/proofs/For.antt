-- `for`: by induction on the number of steps that are looked at.
use Rattle.std.proofs.Common.{◌≡◌, ℕ, suc, ◌+◌, ◌<◌, ◌≤◌, inr, List, [], ◌∷◌, ◌++◌, refl, sym, ap, ◌∙◌, subst, arith, length-append}
use Rattle.std.specs.Prelude.{length, false}
use Rattle.c65_csem.specs.Trees.{MaybeTyped, absent, present, Stmt, for_loop, UnitTy}
use Rattle.c65_mach.specs.declared.rows.Op.TheVariants.{Jmp}
use Rattle.c65_meaning.specs.Items.{Item, Loop, Test, Pass, Next, Back, Drop, test_first, first, tested, head_of, plan_stmt}
use Rattle.c65_meaning.specs.State.{Scene, Running, turned}
use Rattle.c65_meaning.specs.Step.{after_body}
use Rattle.c65_code.specs.declared.line.Line.{Line}
use Rattle.c65_code.specs.declared.line.Line.TheVariants.{Label}
use Rattle.c65_code.specs.LineState.{Place, State}
use Rattle.c65_code.specs.Moves.{labelled}
use Rattle.c65_code.specs.Comes.{Seen}
use Rattle.c65_genentry.specs.Words.{jump}
use Rattle.c65_genstmt.specs.declared.jumps.Ways.{Ways}
use Rattle.c65_genstmt.specs.Stmts.{ways}
use Rattle.c65_agree_store.specs.Stands.{Placing, Banks}
use Rattle.c65_agree_state.specs.World.{unit_in, lines_of, place_in, HasAt, IsPlaced, HasTurns, HasCome}
use Rattle.c65_agree_state.specs.Follows.{Follows}
use Rattle.c65_agree_state.proofs.Followed.{follows_weaken}
use Rattle.c65_agree_state.proofs.Nodes.{has_front, has_back}
use Rattle.c65_agree_lines.specs.Lists.{stmt_code, stmt_uses, effects_code, effects_uses, guard_code, guard_uses}
use Rattle.c65_agree_stmts.specs.Calling.{Calling, Does, MayHaveTest, MayHaveEffect, HeadIsCounted}
use Rattle.c65_agree_stmts.specs.Laws.{ForDoes}
use Rattle.c65_agree_stmts.proofs.Bounds.{all_does}
use Rattle.c65_agree_stmts.proofs.Standing.{Stands, stands_turned, earns, jumps, effect_goes, decision_goes, come_turns, turn_taken}
use Rattle.c65_agree_stmts.proofs.Ahead.{onward, passed, at_label, behind_label, Goes, Ahead, less, does_with, IsDone, work_does}

-- ---- its three expressions

module _ (x : Calling) (scope : List ℕ) where
  abbrev pub place : ℕ → Place
  place i = place_in x.world x.active i

  abbrev pub code : List Line
  code = lines_of x.world x.active

  abbrev pub u : UnitTy
  u = unit_in x.world

  -- behind no lines
  nowhere : (p : ℕ) → place p ≡ place (p + length {A = Line} [])
  nowhere p = ap place (omega arith)

  -- what comes first, where it does
  pub first_goes : (i : MaybeTyped) → MayHaveEffect x i → (n v p fresh : ℕ) (k : List Item) (c : Scene) (q : Placing) (b : Banks) (t : State) (seen : Seen) → HasAt code p (effects_code x.active.frame i fresh) → Stands x scope c q b t → HasTurns x.world c.turns (place p) seen
      → ((j : ℕ) (c2 : Scene) (q2 : Placing) (b2 : Banks) (y : State) (later : Seen) → j ≤ n → Stands x scope c2 q2 b2 y → HasTurns x.world c2.turns (place (p + length (effects_code x.active.frame i fresh))) later
      → Follows x.world j v (Running k x.values c2) (place (p + length (effects_code x.active.frame i fresh))) y later)
      → Follows x.world n v (Running (first u i k) x.values c) (place p) t seen
  first_goes absent has n v p fresh k c q b t seen there stands turns f =
      onward x.world x.active n v c.turns (Running k x.values c) _ _ t seen (nowhere p) (f n c q b t seen (omega arith) stands) turns
  first_goes (present e) has n v p fresh k c q b t seen there stands turns f =
      effect_goes x scope c q b t stands e has n v p fresh (Drop ∷ k) seen there turns (λ j value c2 q2 b2 y later lt stands2 turns2.
      earns x scope c2 q2 b2 y stands2 j (v + 2600) Drop k (value ∷ x.values) _ later turns2 (λ h lt2.
      follows_weaken x.world h v (v + 2600 + 4000) _ _ y later (omega arith) (f h c2 q2 b2 y later (omega (arith, lt, lt2)) stands2 turns2)))

  -- the test, where there is one
  pub guard_goes : (e : MaybeTyped) → MayHaveTest x e → (l : Loop) (n v p end fresh : ℕ) (k : List Item) (c : Scene) (q : Placing) (b : Banks) (t : State) (seen : Seen) → HasAt code p (guard_code x.active.frame end e fresh) → Stands x scope c q b t → HasTurns x.world c.turns (place p) seen
      → ((j : ℕ) (c2 : Scene) (q2 : Placing) (b2 : Banks) (y : State) (later : Seen) → j < n → Stands x scope c2 q2 b2 y → HasTurns x.world c2.turns (place (p + length (guard_code x.active.frame end e fresh))) later
      → Follows x.world j v (Running (plan_stmt u l.at l.body (Next l ∷ k)) x.values c2) (place (p + length (guard_code x.active.frame end e fresh))) y later)
      → ((j : ℕ) (c2 : Scene) (q2 : Placing) (b2 : Banks) (y : State) (later : Seen) → j < n → Stands x scope c2 q2 b2 y → HasCome x.world c2.turns (place (labelled code end)) later
      → Follows x.world j v (Running k x.values c2) (place (labelled code end)) y later)
      → Follows x.world n v (Running (tested u e (Test l ∷ k) (Pass l ∷ k)) x.values c) (place p) t seen
  guard_goes absent has l n v p end fresh k c q b t seen there stands turns f f2 =
      earns x scope c q b t stands n v (Pass l) k x.values _ seen turns (λ j lt.
      follows_weaken x.world j v (v + 4000) _ _ t seen (omega arith)
      (onward x.world x.active j v c.turns (Running (plan_stmt u l.at l.body (Next l ∷ k)) x.values c) _ _ t seen (nowhere p) (f j c q b t seen lt stands) turns))
  guard_goes (present e) has l n v p end fresh k c q b t seen there stands turns f f2 =
      decision_goes x scope c q b t stands e has false end (Test l) (λ c2. Running (plan_stmt u l.at l.body (Next l ∷ k)) x.values c2) (λ c2. Running k x.values c2)
      n v p fresh k seen (λ value c2. refl) there turns (λ j c2 q2 b2 y later lt stands2 turns2.
      follows_weaken x.world j v (v + 6600) _ _ y later (omega arith) (f j c2 q2 b2 y later lt stands2 turns2)) (λ j c2 q2 b2 y later lt stands2 come.
      follows_weaken x.world j v (v + 6600) _ _ y later (omega arith) (f2 j c2 q2 b2 y later lt stands2 come))

  -- what comes behind the body, where it does
  pub after_goes : (e : MaybeTyped) → MayHaveEffect x e → (l : Loop) (n v p fresh : ℕ) (k : List Item) (c : Scene) (q : Placing) (b : Banks) (t : State) (seen : Seen) → HasAt code p (effects_code x.active.frame e fresh) → Stands x scope c q b t → HasTurns x.world c.turns (place p) seen
      → ((j : ℕ) (c2 : Scene) (q2 : Placing) (b2 : Banks) (y : State) (later : Seen) → j ≤ n → Stands x scope c2 q2 b2 y → HasTurns x.world c2.turns (place (p + length (effects_code x.active.frame e fresh))) later
      → Follows x.world j v (Running (head_of u l k) x.values (turned c2)) (place (p + length (effects_code x.active.frame e fresh))) y later)
      → Follows x.world n v (after_body u l e k x.values c) (place p) t seen
  after_goes absent has l n v p fresh k c q b t seen there stands turns f =
      onward x.world x.active n v c.turns (Running (head_of u l k) x.values (turned c)) _ _ t seen (nowhere p) (f n c q b t seen (omega arith) stands) turns
  after_goes (present e) has l n v p fresh k c q b t seen there stands turns f =
      effect_goes x scope c q b t stands e has n v p fresh (Back l ∷ k) seen there turns (λ j value c2 q2 b2 y later lt stands2 turns2.
      earns x scope c2 q2 b2 y stands2 j (v + 2600) (Back l) k (value ∷ x.values) _ later turns2 (λ h lt2.
      follows_weaken x.world h v (v + 2600 + 4000) _ _ y later (omega arith) (f h c2 q2 b2 y later (omega (arith, lt, lt2)) stands2 turns2)))

-- ---- the loop

module _ (x : Calling) (scope : List ℕ) (at next fresh : ℕ) (w : Ways) (i e o : MaybeTyped) (s : Stmt) (placed : IsPlaced (lines_of x.world x.active)) (counted : HeadIsCounted x (fresh + effects_uses i))
    (before : MayHaveEffect x i) (test : MayHaveTest x e) (behind : MayHaveEffect x o)
    (ds : Does x scope (suc at) s (ways (fresh + effects_uses i + 1 + 1) (fresh + effects_uses i + 1) w.other) next (fresh + effects_uses i + 1 + 1 + 1 + guard_uses e)) where
  abbrev pub own : ℕ
  own = fresh + effects_uses i

  abbrev pub inner : Ways
  inner = ways (own + 1 + 1) (own + 1) w.other

  abbrev pub I : List Line
  I = effects_code x.active.frame i fresh

  abbrev pub G : List Line
  G = guard_code x.active.frame (own + 1 + 1) e (own + 1 + 1 + 1)

  abbrev pub B : List Line
  B = stmt_code x.active.frame inner next s (own + 1 + 1 + 1 + guard_uses e)

  abbrev pub N : List Line
  N = effects_code x.active.frame o (own + 1 + 1 + 1 + guard_uses e + stmt_uses x.active.frame s)

  abbrev pub last : List Line
  last = jump Jmp own ∷ Label (own + 1 + 1) ∷ []

  abbrev pub loop : Loop
  loop = test_first e o (suc at) s

  module _ (n v p : ℕ) (k : List Item) (le : n ≤ x.most) (more : x.reserve ≤ v) (has : HasAt (lines_of x.world x.active) p (I ++ Label own ∷ (G ++ (B ++ Label (own + 1) ∷ (N ++ last))))) (ahead : Ahead x n v scope k w) (goes : Goes x n v scope k (p + length (I ++ Label own ∷ (G ++ (B ++ Label (own + 1) ∷ (N ++ last)))))) where
    abbrev pub spot : ℕ → Place
    spot m = place_in x.world x.active m

    abbrev pub all : List Line
    all = lines_of x.world x.active

    abbrev pub unit : UnitTy
    unit = unit_in x.world

    abbrev pub p0 : ℕ
    p0 = p + length I

    abbrev pub p1 : ℕ
    p1 = suc p0 + length G

    abbrev pub p2 : ℕ
    p2 = p1 + length B

    abbrev pub p3 : ℕ
    p3 = suc p2 + length N

    h0 : HasAt all p0 (Label own ∷ (G ++ (B ++ Label (own + 1) ∷ (N ++ last))))
    h0 = has_back all p I _ has

    pub h1 : HasAt all p1 (B ++ Label (own + 1) ∷ (N ++ last))
    h1 = has_back all (suc p0) G _ h0.1

    h2 : HasAt all p2 (Label (own + 1) ∷ (N ++ last))
    h2 = has_back all p1 B _ h1

    h3 : HasAt all p3 last
    h3 = has_back all (suc p2) N last h2.1

    end : spot (labelled all (own + 1 + 1)) ≡ spot (p + length (I ++ Label own ∷ (G ++ (B ++ Label (own + 1) ∷ (N ++ last)))))
    end = behind_label x.world x.active placed (suc p3) (own + 1 + 1) h3.1.0 ∙ ap spot (omega (arith, length-append I (Label own ∷ (G ++ (B ++ Label (own + 1) ∷ (N ++ last)))), length-append G (B ++ Label (own + 1) ∷ (N ++ last)), length-append B (Label (own + 1) ∷ (N ++ last)), length-append N last))

    back : spot (labelled all own) ≡ spot p0
    back = at_label x.world x.active placed p0 own h0.0

    abbrev pub HeadDoes : ℕ → Type 0
    HeadDoes j = j ≤ n → (c : Scene) (q : Placing) (b : Banks) (t : State) (seen : Seen) → Stands x scope c q b t → HasTurns x.world c.turns (spot p0) seen → Follows x.world j v (Running (head_of unit loop k) x.values c) (spot p0) t seen

    -- behind the loop
    leaves : (j : ℕ) → j < n → (c : Scene) (q : Placing) (b : Banks) (t : State) (seen : Seen) → Stands x scope c q b t → HasCome x.world c.turns (spot (labelled all (own + 1 + 1))) seen → Follows x.world j v (Running k x.values c) (spot (labelled all (own + 1 + 1))) t seen
    leaves j lt c q b t seen stands come =
        onward x.world x.active j v c.turns (Running k x.values c) _ _ t seen end (goes j c q b t seen lt stands) (come_turns x.world c.turns _ seen come)

    -- at the head, with a turn
    begins : (j : ℕ) → HeadDoes j → j ≤ n → (c : Scene) (q : Placing) (b : Banks) (t : State) (seen : Seen) → Stands x scope c q b t → HasCome x.world c.turns (spot (labelled all own)) seen
        → Follows x.world j v (Running (head_of unit loop k) x.values (turned c)) (spot (labelled all own)) t seen
    begins j does jn c q b t seen stands come =
        let here = subst (λ z. HasCome x.world c.turns z seen) back come in
        subst (λ z. Follows x.world j v (Running (head_of unit loop k) x.values (turned c)) z t seen) (sym back)
        (does jn (turned c) q b t seen (stands_turned x scope c q b t stands) (turn_taken x.world c.turns (spot p0) seen (counted p0 h0.0) here))

    -- behind the body
    pub bottom : (j : ℕ) → ((m : ℕ) → m < j → HeadDoes m) → j ≤ n → (c : Scene) (q : Placing) (b : Banks) (t : State) (seen : Seen) → Stands x scope c q b t → HasTurns x.world c.turns (spot p2) seen
        → Follows x.world j v (Running (Next loop ∷ k) x.values c) (spot p2) t seen
    bottom j later jn c q b t seen stands turns =
        earns x scope c q b t stands j v (Next loop) k x.values _ seen turns (λ h lt.
        follows_weaken x.world h (1 + v) (v + 4000) _ _ t seen (omega arith)
        (onward x.world x.active h (1 + v) c.turns (after_body unit loop o k x.values c) _ _ t seen (passed x.world x.active p2 (own + 1) h2.0) (λ turns1.
        after_goes x scope o behind loop h (1 + v) (suc p2) (own + 1 + 1 + 1 + guard_uses e + stmt_uses x.active.frame s) k c q b t seen (has_front all (suc p2) N last h2.1) stands turns1 (λ m c2 q2 b2 y later2 le2 stands2 turns2.
        jumps x scope c2 q2 b2 y stands2 m v c2.turns p3 own _ later2 h3.0 turns2 (λ come. begins m (later m (omega (arith, lt, le2))) (omega (arith, lt, le2, jn)) c2 q2 b2 y _ stands2 come))) turns))

    -- `continue` goes there too
    continues : (j : ℕ) → ((m : ℕ) → m < j → HeadDoes m) → j ≤ n → (c : Scene) (q : Placing) (b : Banks) (t : State) (seen : Seen) → Stands x scope c q b t → HasCome x.world c.turns (spot (labelled all (own + 1))) seen
        → Follows x.world j v (Running (Next loop ∷ k) x.values c) (spot (labelled all (own + 1))) t seen
    continues j later jn c q b t seen stands come =
        onward x.world x.active j v c.turns (Running (Next loop ∷ k) x.values c) _ _ t seen (at_label x.world x.active placed p2 (own + 1) h2.0) (bottom j later jn c q b t seen stands) (come_turns x.world c.turns _ seen come)

    pub inside : (j : ℕ) → ((m : ℕ) → m < j → HeadDoes m) → j ≤ n → Ahead x j v scope (Next loop ∷ k) inner
    inside j later jn =
        let l = less x n j v v scope k w jn (omega arith) ahead in
        record {
          call = l.call;
          behind = (scope, λ m h. inr h, λ m c q b t seen lt between keeping come. leaves m (omega (arith, lt, jn)) c q b t seen (record { between = between; keeping = keeping }) come);
          onward = (scope, λ m h. inr h, λ m c q b t seen lt between keeping come. continues m (λ h lt2. later h (omega (arith, lt, lt2))) (omega (arith, lt, jn)) c q b t seen (record { between = between; keeping = keeping }) come);
          labels = l.labels;
          returns = l.returns;
        }

    pub head : (j : ℕ) → ((m : ℕ) → m < j → HeadDoes m) → HeadDoes j
    head j later jn c q b t seen stands turns =
        onward x.world x.active j v c.turns (Running (head_of unit loop k) x.values c) _ _ t seen (passed x.world x.active p0 own h0.0) (λ turns1.
        guard_goes x scope e test loop j v (suc p0) (own + 1 + 1) (own + 1 + 1 + 1) k c q b t seen (has_front all (suc p0) G _ h0.1) stands turns1 (λ m c2 q2 b2 y later2 lt stands2 turns2.
        does_with x scope (plan_stmt unit (suc at) s) inner B ds m v p1 (Next loop ∷ k) c2 q2 b2 y later2 (omega (arith, lt, jn, le)) more (has_front all p1 B _ h1) stands2 turns2
        (inside m (λ h lt2. later h (omega (arith, lt, lt2))) (omega (arith, lt, jn))) (λ h c3 q3 b3 z later3 lt3 stands3 turns3.
        bottom h (λ g lt4. later g (omega (arith, lt, lt3, lt4))) (omega (arith, lt, lt3, jn)) c3 q3 b3 z later3 stands3 turns3)) (λ m c2 q2 b2 y later2 lt stands2 come.
        leaves m (omega (arith, lt, jn)) c2 q2 b2 y later2 stands2 come)) turns

    pub heads : (j : ℕ) → HeadDoes j
    heads = all_does HeadDoes head

  for_done : IsDone x scope (plan_stmt (unit_in x.world) at (for_loop i e o s)) w (I ++ Label own ∷ (G ++ (B ++ Label (own + 1) ∷ (N ++ last))))
  for_done n v p k c q b t seen le more has stands turns ahead goes =
      first_goes x scope i before n v p fresh (head_of (unit_in x.world) loop k) c q b t seen (has_front (lines_of x.world x.active) p I _ has) stands turns (λ j c2 q2 b2 y later le2 stands2 turns2.
      heads n v p k le more has ahead goes j le2 c2 q2 b2 y later stands2 turns2)

pub for_does : ForDoes
for_does x scope at next fresh w i e o s placed counted before test behind ds =
    work_does x scope (plan_stmt (unit_in x.world) at (for_loop i e o s)) w (stmt_code x.active.frame w next (for_loop i e o s) fresh) (for_done x scope at next fresh w i e o s placed counted before test behind ds)
