-- A jump or a branch to a line that jumps on may go where that line goes.
use Rattle.std.proofs.Common.{◌≡◌, ℕ, zero, suc, ◌+◌, ◌<◌, ◌≤◌, ◌==◌, ◌⊎◌, inl, inr, Bool, true, false, if◌then◌else◌, List, Some, None, IsTrue, refl, sym, subst, ap, ◌∙◌, arith}
use Rattle.std.specs.Prelude.{slice_get, ◌&&◌}
use Rattle.std.proofs.lemmas.Bool.{cases_eq, eq-eqb, eqb-true}
use Rattle.c65_mach.specs.declared.rows.Op.{Op}
use Rattle.c65_mach.specs.Step.{is_taken}
use Rattle.c65_code.specs.declared.line.Line.{Line}
use Rattle.c65_code.specs.Comes.{Seen, seen_at, none_seen, Shown, shown_by, Shows, Comes, here, on, ComesFrom}
use Rattle.c65_code.specs.Follows.{IsBelow, Grows, through}
use Rattle.c65_code.specs.Forms.{Branch, Jump, form_of}
use Rattle.c65_code.specs.LineState.{Place, State}
use Rattle.c65_code.specs.Moves.{settle, labelled, Moves}
use Rattle.c65_code.specs.Placement.{Setting}
use Rattle.c65_code.specs.Steady.{IsCalm, IsSteady, HasLines}
use Rattle.c65_code.specs.Weights.{Weighs}
use Rattle.c65_opt_law_follow.proofs.Inner.{form_weighs}
use Rattle.c65_opt_law_follow.proofs.Seen.{seen_grows, seen_here}
use Rattle.c65_opt_law_follow.proofs.Setup.{side}
use Rattle.c65_opt_law_follow.proofs.Sides.{calm_side}
use Rattle.c65_opt_law_follow.proofs.Walks.{weaken}
use Rattle.c65_opt_law_chains.specs.Laws.{IsBeforeEnd, FollowsUntilEnd}
use Rattle.c65_opt_law_chains.proofs.Same.{moves_same, weighs_same, steady_same}
use Rattle.c65_opt_law_chains.proofs.Sends.{Sends, jump_sends, branch_sends}

-- ---- arrivals

point : (p : Place) (x y : Seen) (g q : ℕ) → x g q ≤ y g q → seen_at p x g q ≤ seen_at p y g q
point p x y g q le = go ((g == p.0) && (q == p.1))
  where
    go : (b : Bool) → (if b then suc (x g q) else x g q) ≤ (if b then suc (y g q) else y g q)
    go true = omega (arith, le)
    go false = le

seen_apart : (p : Place) (x : Seen) (g q : ℕ) → ((g ≡ p.0) × (q ≡ p.1) → ⊥) → seen_at p x g q ≡ x g q
seen_apart p x g q ne = go (g == p.0) (q == p.1) refl refl
  where
    go : (b c : Bool) → (g == p.0) ≡ b → (q == p.1) ≡ c → (if b && c then suc (x g q) else x g q) ≡ x g q
    go true true eg eq = absurd (ne (eqb-true g p.0 eg, eqb-true q p.1 eq))
    go true false eg eq = refl
    go false c eg eq = refl

-- ---- one line sent on

-- a jump or branch to one label, and to another one
pub data Aims (old new : Line) (j k : ℕ) : Type 0 where
  jumping : form_of old ≡ Jump j → form_of new ≡ Jump k → Aims old new j k
  branching : (op : Op) → form_of old ≡ Branch op j → form_of new ≡ Branch op k → Aims old new j k

-- Two codes with the same places, which differ in one line. In the old one it goes to a line that jumps to where it goes in the new.
pub record IsSentOn (A B : ℕ → List Line) (f at first last : ℕ) (old new hop : Line) (j k : ℕ) : Type 0 where
  pub settles : (g p : ℕ) → settle (A g) p ≡ settle (B g) p
  pub labels : (g n : ℕ) → labelled (A g) n ≡ labelled (B g) n
  pub there : (g : ℕ) → HasLines (A g) → HasLines (B g)
  pub others : (g q : ℕ) (line : Line) → ((g ≡ f) × (q ≡ at) → ⊥) → slice_get (A g) q ≡ Some line → slice_get (B g) q ≡ Some line
  pub old_at : slice_get (A f) at ≡ Some old
  pub new_at : slice_get (B f) at ≡ Some new
  pub aims : Aims old new j k
  pub hop_at : slice_get (A f) first ≡ Some hop
  pub hop_is : form_of hop ≡ Jump k
  pub first_is : settle (A f) (labelled (A f) j) ≡ first
  pub last_is : settle (A f) (labelled (A f) k) ≡ last
  pub apart : first ≡ at → ⊥

same_line : (x y : Line) → Some x ≡ Some y → x ≡ y
same_line x y e = cc

module _ (s : Setting) (A B : ℕ → List Line) (f at first last : ℕ) (old new hop : Line) (j k : ℕ) (H : IsSentOn A B f at first last old new hop j k) where
  abbrev IsHop : ℕ → ℕ → Type 0
  IsHop g q = (g ≡ f) × (q ≡ first)

  -- arrivals at the line that jumps on are told where it jumps to
  abbrev pub sent_place : ℕ → ℕ → ℕ
  sent_place g q = if g == f then (if q == first then last else q) else q

  hop_or : (g q : ℕ) → IsHop g q ⊎ (IsHop g q → ⊥)
  hop_or g q = pick (cases_eq g f) (cases_eq q first)
    where
      pick : (g ≡ f) ⊎ (g ≡ f → ⊥) → (q ≡ first) ⊎ (q ≡ first → ⊥) → IsHop g q ⊎ (IsHop g q → ⊥)
      pick (inl e) (inl h) = inl (e, h)
      pick (inl e) (inr ne) = inr (λ h. ne h.1)
      pick (inr ne) h = inr (λ h. ne h.0)

  imaged : (x y : Seen) → ((g q : ℕ) → (IsHop g q → ⊥) → x g q ≤ y g q) → x f first ≤ y f last → IsBelow x (through sent_place y)
  imaged x y plain hops g q = pick (g == f) (q == first) refl refl
    where
      clash : (b : Bool) → b ≡ true → b ≡ false → ⊥
      clash b h n = cc

      pick : (b c : Bool) → (g == f) ≡ b → (q == first) ≡ c → x g q ≤ y g (if b then (if c then last else q) else q)
      pick true true eg eq = subst (λ (i : ℕ). x i q ≤ y i last) (sym (eqb-true g f eg)) (subst (λ (i : ℕ). x f i ≤ y f last) (sym (eqb-true q first eq)) hops)
      pick true false eg eq = plain g q (λ h. clash (q == first) (eq-eqb q first h.1) eq)
      pick false c eg eq = plain g q (λ h. clash (g == f) (eq-eqb g f h.0) eg)

  -- the arrivals of both codes before those at a place where both stand
  record Rel (p : Place) (sa sb : Seen) : Type 0 where
    plain : (g q : ℕ) → (IsHop g q → ⊥) → sa g q ≤ sb g q
    hops : sa f first ≤ seen_at p sb f last

  arrived : (p : Place) (sa sb : Seen) → Rel p sa sb → (g q : ℕ) → (IsHop g q → ⊥) → seen_at p sa g q ≤ seen_at p sb g q
  arrived p sa sb r g q ne = point p sa sb g q (r.plain g q ne)

  elsewhere : (p : Place) (sa : Seen) → (IsHop p.0 p.1 → ⊥) → seen_at p sa f first ≡ sa f first
  elsewhere p sa ne = seen_apart p sa f first (λ h. ne (sym h.0, sym h.1))

  -- both go on to one place
  step : (p q : Place) (sa sb : Seen) → Rel p sa sb → (IsHop p.0 p.1 → q ≡ (f, last)) → Rel q (seen_at p sa) (seen_at p sb)
  step p q sa sb r to = record { plain = arrived p sa sb r; hops = pick (hop_or p.0 p.1) }
    where
      pick : IsHop p.0 p.1 ⊎ (IsHop p.0 p.1 → ⊥) → seen_at p sa f first ≤ seen_at q (seen_at p sb) f last
      pick (inl h) =
          let e : q ≡ (f, last) = to h in
          let one : seen_at p sa f first ≡ suc (sa f first) = seen_here p sa f first h.0 h.1 in
          let more : seen_at q (seen_at p sb) f last ≡ suc (seen_at p sb f last) = seen_here q (seen_at p sb) f last (ap (λ (x : Place). x.0) e) (ap (λ (x : Place). x.1) e) in
          omega (arith, one, more, r.hops)
      pick (inr ne) = omega (arith, elsewhere p sa ne, r.hops, seen_grows q (seen_at p sb) f last)

  last_in_b : settle (B f) (labelled (B f) k) ≡ last
  last_in_b = sym (H.settles f (labelled (B f) k)) ∙ (ap (settle (A f)) (sym (H.labels f k)) ∙ H.last_is)

  not_at : IsHop f at → ⊥
  not_at h = H.apart (sym h.1)

  -- the old code has gone through the line that jumps on, the new one has not
  past : (sa sb : Seen) → Rel (f, at) sa sb → Rel (f, last) (seen_at (f, first) (seen_at (f, at) sa)) (seen_at (f, at) sb)
  past sa sb r = record {
    plain = λ g q ne. omega (arith, seen_apart (f, first) (seen_at (f, at) sa) g q ne, arrived (f, at) sa sb r g q ne);
    hops = omega (arith, seen_here (f, first) (seen_at (f, at) sa) f first refl refl, elsewhere (f, at) sa not_at, seen_here (f, last) (seen_at (f, at) sb) f last refl refl, r.hops);
  }

  module _ (test : Shown → Seen → Bool) (grows : Grows test) (more : ℕ) where
    abbrev a : Setting
    a = side s A

    abbrev b : Setting
    b = side s B

    abbrev Test : Shown → Seen → Bool
    Test shown seen = test shown (through sent_place seen)

    abbrev Goal : ℕ → Type 0
    Goal n = (w : ℕ) → w < n → (p : Place) (t : State) (sa sb : Seen) → Rel p sa sb → Comes (side s A) (Shows test) w p t (seen_at p sa) → Comes (side s B) (Shows Test) (w + more) p t (seen_at p sb)

    -- where the old code stops at the line that jumps on, and the new one stands there
    abbrev Stops : Type 0
    Stops = (w : ℕ) (t : State) (sa sb : Seen) → Rel (f, first) sa sb → IsTrue (test (shown_by t) (seen_at (f, first) sa)) → IsCalm (side s A) t → Comes (side s B) (Shows Test) (w + more) (f, first) t (seen_at (f, first) sb)

    passed : (p : Place) (t : State) (sa sb : Seen) → Rel p sa sb → (IsHop p.0 p.1 → ⊥) → IsTrue (test (shown_by t) (seen_at p sa)) → IsTrue (Test (shown_by t) (seen_at p sb))
    passed p t sa sb r ne h = grows (shown_by t) (seen_at p sa) (through sent_place (seen_at p sb)) (imaged (seen_at p sa) (seen_at p sb) (arrived p sa sb r) (omega (arith, elsewhere p sa ne, r.hops))) h

    -- behind the line that jumps on, where the old code has come to it from the line that is sent on
    landed : (n v : ℕ) (t : State) (sa sb : Seen) → v < suc n → Goal n → Rel (f, at) sa sb → Comes (side s A) (Shows test) v (f, first) t (seen_at (f, first) (seen_at (f, at) sa))
        → Comes (side s B) (Shows Test) (v + more) (f, last) t (seen_at (f, last) (seen_at (f, at) sb))
    landed n v t sa sb lt again r (here h ca) =
        here (grows (shown_by t) (seen_at (f, first) (seen_at (f, at) sa)) (through sent_place (seen_at (f, last) (seen_at (f, at) sb)))
        (imaged (seen_at (f, first) (seen_at (f, at) sa)) (seen_at (f, last) (seen_at (f, at) sb))
        (λ g q ne. omega (arith, (past sa sb r).plain g q ne, seen_grows (f, last) (seen_at (f, at) sb) g q)) (past sa sb r).hops) h) (calm_side s A B t ca)
    landed n v t sa sb lt again r (on {v = v2} line h st c wc le q0 u0 m0 onward) =
        let is : line ≡ hop = same_line line hop (sym h ∙ H.hop_at) in
        let form : form_of line ≡ Jump k = ap form_of is ∙ H.hop_is in
        let sends = jump_sends s A f first line t k form in
        let one : c ≡ 1 = sends.weight c wc in
        let next = subst (λ (x : ℕ). Comes (side s A) (Shows test) v2 (f, x) t (seen_at (f, x) (seen_at (f, first) (seen_at (f, at) sa)))) H.last_is (onward (f, settle (A f) (labelled (A f) k)) t (sends.does m0.running st.calm.bytes)) in
        weaken (side s B) (Shows Test) (v + more) (omega (arith, le)) (again v2 (omega (arith, lt, le, one)) (f, last) t (seen_at (f, first) (seen_at (f, at) sa)) (seen_at (f, at) sb) (past sa sb r) next)

    -- both stand at a line, steadily in the old code
    record AtLine (n w v c : ℕ) (p : Place) (line : Line) (t : State) (sa sb : Seen) : Type 0 where
      less : w < suc n
      again : Goal n
      rel : Rel p sa sb
      line_at : slice_get (A p.0) p.1 ≡ Some line
      steady : IsSteady (side s A) line t
      weighs : Weighs (side s A) (form_of line) t c
      fits : c + v ≤ w
      running : t.ended ≡ None
      onward : (q : Place) (u : State) → Moves (side s A) line p t q u → Comes (side s A) (Shows test) v q u (seen_at q (seen_at p sa))

    module _ (n w v c : ℕ) (t : State) (sa sb : Seen) where
      -- the line that is sent on, where both lines lead to the same place
      alike : (to d : ℕ) → AtLine n w v c (f, at) old t sa sb → Sends s A f at old t to d → Sends s B f at new t to d → Comes (side s B) (Shows Test) (w + more) (f, at) t (seen_at (f, at) sb)
      alike to d h from onto =
          let one : c ≡ d = from.weight c h.weighs in
          let some : 1 ≤ c = form_weighs (side s A) (form_of old) t c h.weighs in
          on {w = w + more} {v = v + more} {seen = seen_at (f, at) sb} new H.new_at (record { calm = calm_side s A B t h.steady.calm; within = onto.within }) d onto.weighs (omega (arith, h.fits, one)) (f, to) t (onto.does h.running h.steady.calm.bytes) (λ q u mv.
          let is = onto.only q u mv in
          subst (λ (x : Place). Comes (side s B) (Shows Test) (v + more) x u (seen_at x (seen_at (f, at) sb))) (sym is.0)
          (subst (λ (x : State). Comes (side s B) (Shows Test) (v + more) (f, to) x (seen_at (f, to) (seen_at (f, at) sb))) (sym is.1)
          (h.again v (omega (arith, h.less, h.fits, some)) (f, to) t (seen_at (f, at) sa) (seen_at (f, at) sb) (step (f, at) (f, to) sa sb h.rel (λ x. absurd (not_at x))) (h.onward (f, to) t (from.does h.running h.steady.calm.bytes)))))

      -- where the old one leads to the line that jumps on, and the new one to where this goes
      sent : (d : ℕ) → AtLine n w v c (f, at) old t sa sb → Sends s A f at old t first d → Sends s B f at new t last d → Comes (side s B) (Shows Test) (w + more) (f, at) t (seen_at (f, at) sb)
      sent d h from onto =
          let one : c ≡ d = from.weight c h.weighs in
          on {w = w + more} {v = v + more} {seen = seen_at (f, at) sb} new H.new_at (record { calm = calm_side s A B t h.steady.calm; within = onto.within }) d onto.weighs (omega (arith, h.fits, one)) (f, last) t (onto.does h.running h.steady.calm.bytes) (λ q u mv.
          let is = onto.only q u mv in
          subst (λ (x : Place). Comes (side s B) (Shows Test) (v + more) x u (seen_at x (seen_at (f, at) sb))) (sym is.0)
          (subst (λ (x : State). Comes (side s B) (Shows Test) (v + more) (f, last) x (seen_at (f, last) (seen_at (f, at) sb))) (sym is.1)
          (landed n v t sa sb (omega (arith, h.less, h.fits)) h.again h.rel (h.onward (f, first) t (from.does h.running h.steady.calm.bytes)))))

      at_sent : AtLine n w v c (f, at) old t sa sb → Aims old new j k → Comes (side s B) (Shows Test) (w + more) (f, at) t (seen_at (f, at) sb)
      at_sent h (jumping e g) =
          sent 1 h (subst (λ (x : ℕ). Sends s A f at old t x 1) H.first_is (jump_sends s A f at old t j e)) (subst (λ (x : ℕ). Sends s B f at new t x 1) last_in_b (jump_sends s B f at new t k g))
      at_sent h (branching op e g) = turn (is_taken op t.regs) refl
        where
          turn : (x : Bool) → is_taken op t.regs ≡ x → Comes (side s B) (Shows Test) (w + more) (f, at) t (seen_at (f, at) sb)
          turn true z = sent 2 h (subst (λ (x : ℕ). Sends s A f at old t x 2) H.first_is (branch_sends s A f at old t op j true e z)) (subst (λ (x : ℕ). Sends s B f at new t x 2) last_in_b (branch_sends s B f at new t op k true g z))
          turn false z = alike (settle (A f) (suc at)) 2 h (branch_sends s A f at old t op j false e z) (subst (λ (x : ℕ). Sends s B f at new t x 2) (sym (H.settles f (suc at))) (branch_sends s B f at new t op k false g z))

    -- where the line that jumps on leads
    hop_leads : (p q : Place) (line : Line) (t u : State) → slice_get (A p.0) p.1 ≡ Some line → Moves (side s A) line p t q u → IsHop p.0 p.1 → q ≡ (f, last)
    hop_leads p q line t u h mv there =
        let e : p ≡ (f, first) = ap (λ (x : ℕ). (x, p.1)) there.0 ∙ ap (λ (x : ℕ). (f, x)) there.1 in
        let is : line ≡ hop = same_line line hop (sym (subst (λ (x : Place). slice_get (A x.0) x.1 ≡ Some line) e h) ∙ H.hop_at) in
        let sends = jump_sends s A f first line t k (ap form_of is ∙ H.hop_is) in
        (sends.only q u (subst (λ (x : Place). Moves (side s A) line x t q u) e mv)).0 ∙ ap (λ (x : ℕ). (f, x)) H.last_is

    -- any other line
    other : (n w v c : ℕ) (p : Place) (line : Line) (t : State) (sa sb : Seen) → AtLine n w v c p line t sa sb → ((p.0 ≡ f) × (p.1 ≡ at) → ⊥) → (q0 : Place) (u0 : State) → Moves (side s A) line p t q0 u0 → Comes (side s B) (Shows Test) (w + more) p t (seen_at p sb)
    other n w v c p line t sa sb h away q0 u0 m0 =
        let some : 1 ≤ c = form_weighs (side s A) (form_of line) t c h.weighs in
        on {w = w + more} {v = v + more} {seen = seen_at p sb} line (H.others p.0 p.1 line away h.line_at) (steady_same s A B H.settles H.labels H.there line t h.steady) c (weighs_same s A B H.settles H.labels (form_of line) t c h.weighs) (omega (arith, h.fits))
        q0 u0 (moves_same s A B H.settles H.labels line p q0 t u0 m0) (λ q u mv.
        let back = moves_same s B A (λ g x. sym (H.settles g x)) (λ g x. sym (H.labels g x)) line p q t u mv in
        h.again v (omega (arith, h.less, h.fits, some)) q u (seen_at p sa) (seen_at p sb) (step p q sa sb h.rel (hop_leads p q line t u h.line_at back)) (h.onward q u back))

    module _ (stops : Stops) where
      stopped : (w : ℕ) (p : Place) (t : State) (sa sb : Seen) → Rel p sa sb → IsTrue (test (shown_by t) (seen_at p sa)) → IsCalm (side s A) t → Comes (side s B) (Shows Test) (w + more) p t (seen_at p sb)
      stopped w p t sa sb r h ca = pick (hop_or p.0 p.1)
        where
          pick : IsHop p.0 p.1 ⊎ (IsHop p.0 p.1 → ⊥) → Comes (side s B) (Shows Test) (w + more) p t (seen_at p sb)
          pick (inl there) =
              let e : p ≡ (f, first) = ap (λ (x : ℕ). (x, p.1)) there.0 ∙ ap (λ (x : ℕ). (f, x)) there.1 in
              subst (λ (x : Place). Comes (side s B) (Shows Test) (w + more) x t (seen_at x sb)) (sym e)
              (stops w t sa sb (subst (λ (x : Place). Rel x sa sb) e r) (subst (λ (x : Place). IsTrue (test (shown_by t) (seen_at x sa))) e h) ca)
          pick (inr ne) = here (passed p t sa sb r ne h) (calm_side s A B t ca)

      sim : (n : ℕ) → Goal n
      sim zero w lt p t sa sb r c = absurd (omega (arith, lt))
      sim (suc n) w lt p t sa sb r (here h ca) = stopped w p t sa sb r h ca
      sim (suc n) w lt p t sa sb r (on {v = v} line h st c wc le q0 u0 m0 onward) =
          pick (record { less = lt; again = sim n; rel = r; line_at = h; steady = st; weighs = wc; fits = le; running = m0.running; onward = onward }) (cases_eq p.0 f) (cases_eq p.1 at)
        where
          pick : AtLine n w v c p line t sa sb → (p.0 ≡ f) ⊎ (p.0 ≡ f → ⊥) → (p.1 ≡ at) ⊎ (p.1 ≡ at → ⊥) → Comes (side s B) (Shows Test) (w + more) p t (seen_at p sb)
          pick here_at (inl ef) (inl ea) =
              let e : p ≡ (f, at) = ap (λ (x : ℕ). (x, p.1)) ef ∙ ap (λ (x : ℕ). (f, x)) ea in
              let is : line ≡ old = same_line line old (sym (subst (λ (x : Place). slice_get (A x.0) x.1 ≡ Some line) e h) ∙ H.old_at) in
              subst (λ (x : Place). Comes (side s B) (Shows Test) (w + more) x t (seen_at x sb)) (sym e)
              (at_sent n w v c t sa sb (subst (λ (x : Line). AtLine n w v c (f, at) x t sa sb) is (subst (λ (x : Place). AtLine n w v c x line t sa sb) e here_at)) H.aims)
          pick here_at (inl ef) (inr ne) = other n w v c p line t sa sb here_at (λ x. ne x.1) q0 u0 m0
          pick here_at (inr ne) y = other n w v c p line t sa sb here_at (λ x. ne x.0) q0 u0 m0

      runs : (main w : ℕ) (t : State) → ComesFrom (side s A) main test w t → ComesFrom (side s B) main (λ shown seen. test shown (through sent_place seen)) (w + more) t
      runs main w t c =
          subst (λ (x : ℕ). Comes (side s B) (Shows Test) (w + more) (main, x) t (seen_at (main, x) none_seen)) (H.settles main 0)
          (sim (suc w) w (omega arith) (main, settle (A main) 0) t none_seen none_seen (record { plain = λ g q ne. omega arith; hops = omega arith }) c)

  -- ---- the two codes

  -- in one step more the new code comes to where the line jumps on to
  steps_on : (test : Shown → Seen → Bool) (grows : Grows test) → IsBeforeEnd test → Stops test grows 1
  steps_on test grows before w t sa sb r h ca =
      let running : t.ended ≡ None = before (shown_by t) (seen_at (f, first) sa) h in
      let sends = jump_sends s B f first hop t k H.hop_is in
      let onto = subst (λ (x : ℕ). Sends s B f first hop t x 1) last_in_b sends in
      let at_first : slice_get (B f) first ≡ Some hop = H.others f first hop (λ x. H.apart x.1) H.hop_at in
      on {w = w + 1} {v = w} {seen = seen_at (f, first) sb} hop at_first (record { calm = calm_side s A B t ca; within = onto.within }) 1 onto.weighs (omega arith) (f, last) t (onto.does running ca.bytes) (λ q u mv.
      let is = onto.only q u mv in
      subst (λ (x : Place). Comes (side s B) (Shows (λ shown seen. test shown (through sent_place seen))) w x u (seen_at x (seen_at (f, first) sb))) (sym is.0)
      (subst (λ (x : State). Comes (side s B) (Shows (λ shown seen. test shown (through sent_place seen))) w (f, last) x (seen_at (f, last) (seen_at (f, first) sb))) (sym is.1)
      (here (grows (shown_by t) (seen_at (f, first) sa) (through sent_place (seen_at (f, last) (seen_at (f, first) sb))) (imaged (seen_at (f, first) sa) (seen_at (f, last) (seen_at (f, first) sb))
      (λ g q ne. omega (arith, arrived (f, first) sa sb r g q ne, seen_grows (f, last) (seen_at (f, first) sb) g q)) (omega (arith, seen_here (f, first) sa f first refl refl, seen_here (f, last) (seen_at (f, first) sb) f last refl refl, r.hops))) h) (calm_side s A B t ca))))

  pub hop_follows : (main : ℕ) → FollowsUntilEnd sent_place 1 (side s A) (side s B) main
  hop_follows main = record {
    by = λ test w t empty none c.
        weaken (side s B) (Shows (λ shown seen. test shown)) {w = w + 0} w (omega arith)
        (runs (λ shown seen. test shown) (λ shown x y le h. h) 0 (λ v u sa sb r h ca. here h (calm_side s A B u ca)) main w t c);
    turns = λ test grows before w t empty none c. runs test grows 1 (steps_on test grows before) main w t c;
  }
