-- Runs of two codes that differ in a window go together.
use Rattle.std.proofs.Common.{◌≡◌, ℕ, zero, suc, ◌+◌, ◌-◌, ◌<◌, ◌≤◌, ◌⊎◌, inl, inr, List, [], ◌∷◌, length, Option, Some, None, Bool, true, false, IsTrue, refl, sym, ap, ◌∙◌, subst, arith}
use Rattle.std.specs.Prelude.{slice_get, sum_by}
use Rattle.c65_code.specs.declared.line.Line.{Line}
use Rattle.c65_code.specs.declared.parts.RegSet.{RegSet}
use Rattle.c65_code.specs.Comes.{Seen, seen_at, none_seen, Shown, shown_by, Shows, Comes, here, on, ComesFrom}
use Rattle.c65_code.specs.Follows.{Grows, through as at_images, Follows}
use Rattle.c65_code.specs.LineState.{Place, Frame, State}
use Rattle.c65_code.specs.Moves.{settle}
use Rattle.c65_code.specs.Placement.{Setting}
use Rattle.c65_code.specs.Steady.{IsCalm}
use Rattle.c65_opt_law_near.proofs.Operations.{calm_stays}
use Rattle.c65_opt_law_follow.proofs.Near.{near_itself, shown_same, hard_same}
use Rattle.c65_opt_law_follow.proofs.Walks.{weaken, comes_calm}
use Rattle.c65_opt_law_follow.proofs.Setup.{side, IsOut, IsReached, Setup}
use Rattle.c65_opt_law_follow.proofs.Sides.{calm_side}
use Rattle.c65_opt_law_follow.proofs.Relation.{AreFramed, deep, Rel, Imaged, Goal, both}
use Rattle.c65_opt_law_follow.proofs.Steps.{by_line}

module _ (s : Setting) (A B : ℕ → List Line) (f start : ℕ) (old : List Line) (m : ℕ → ℕ → ℕ) (live : ℕ → ℕ → RegSet) (known : ℕ → State → Type 0) (S : Setup s A B f start old m live known) (test : Shown → Seen → Bool) (grows : Grows test) where
  abbrev pub a : Setting
  a = side s A

  abbrev pub b : Setting
  b = side s B

  abbrev pub R : Place → State → Seen → Place → State → Seen → Type 0
  R p t sa p2 t2 sb = Rel s A B f start old m live known p t sa p2 t2 sb

  abbrev pub Test2 : Shown → Seen → Bool
  Test2 = Imaged s A B f start old m live known test

  abbrev pub Ahead : ℕ → Type 0
  Ahead n = Goal s A B f start old m live known test n

  calm2 : (p : Place) (t : State) (sa : Seen) (p2 : Place) (t2 : State) (sb : Seen) → R p t sa p2 t2 sb → IsCalm a t → IsCalm b t2
  calm2 p t sa p2 t2 sb r ca =
      calm_side s A B t2 (calm_stays a (live p.0 p.1) t t2 S.low ca r.bytes (hard_same (live p.0 p.1) t t2 r.near (deep s A B f start old m live known t t2 r.frames)) r.near)

  -- what is owed where both stand at the window's beginning, and the test does not pass
  abbrev pub AtWindow : Type 0
  AtWindow = (n w : ℕ) → w < suc n → Ahead n → (t t2 : State) (sa sb : Seen) → test (shown_by t) (at_images m (seen_at (f, m f start) sb)) ≡ false → R (f, start) t sa (f, m f start) t2 sb → t.ended ≡ None
      → Comes a (Shows test) w (f, start) t (seen_at (f, start) sa) → Comes b (Shows Test2) w (f, m f start) t2 (seen_at (f, m f start) sb)

  outside : (n w : ℕ) → w < suc n → Ahead n → (g q : ℕ) (t t2 : State) (sa sb : Seen) → IsOut f start (start + length old) g q → R (g, q) t sa (g, m g q) t2 sb → Comes a (Shows test) w (g, q) t (seen_at (g, q) sa) → Comes b (Shows Test2) w (g, m g q) t2 (seen_at (g, m g q) sb)
  outside n w lt again g q t t2 sa sb out r (here h ca) =
      here (subst (λ (o : Shown). IsTrue (test o (at_images m (seen_at (g, m g q) sb)))) (shown_same (live g q) t t2 r.near) (grows (shown_by t) (seen_at (g, q) sa) (at_images m (seen_at (g, m g q) sb)) r.arrived h)) (calm2 (g, q) t sa (g, m g q) t2 sb r ca)
  outside n w lt again g q t t2 sa sb out r (on {v = v} l h st c wc le q0 u0 m0 k) =
      by_line s A B f start old m live known S test n w v g q l t t2 sa sb (record { less = lt; again = again; out = out; rel = r; line = h; steady = st; weight = c; weighs = wc; fits = le; running = m0.running; rest = k })

  running : (w : ℕ) (t : State) (sa : Seen) → (IsTrue (test (shown_by t) (seen_at (f, start) sa)) → ⊥) → Comes a (Shows test) w (f, start) t (seen_at (f, start) sa) → t.ended ≡ None
  running w t sa never (here h ca) = absurd (never h)
  running w t sa never (on l h st c wc le q0 u0 m0 k) = m0.running

  module _ (window : AtWindow) where
    pub sim : (n : ℕ) → Goal s A B f start old m live known test n
    sim zero w lt p t sa p2 t2 sb r c = absurd (omega (arith, lt))
    sim (suc n) w lt p t sa p2 t2 sb r c = decide (sim n) (test (shown_by t) (at_images m (seen_at p2 sb))) refl r.reach
      where
        r2 : R p t sa (p.0, m p.0 p.1) t2 sb
        r2 = subst (λ (x : Place). R p t sa x t2 sb) r.place r

        decide : Ahead n → (x : Bool) → test (shown_by t) (at_images m (seen_at p2 sb)) ≡ x → IsReached f start (start + length old) p.0 p.1 → Comes b (Shows Test2) w p2 t2 (seen_at p2 sb)
        decide again true e reach =
            here (let h : IsTrue (test (shown_by t2) (at_images m (seen_at p2 sb))) = ap (λ (o : Shown). test o (at_images m (seen_at p2 sb))) (sym (shown_same (live p.0 p.1) t t2 r.near)) ∙ e in h) (calm2 p t sa p2 t2 sb r (comes_calm a (Shows test) w p t (seen_at p sa) c))
        decide again false e (inr out) = subst (λ (x : Place). Comes b (Shows Test2) w x t2 (seen_at x sb)) (sym r.place) (outside n w lt again p.0 p.1 t t2 sa sb out r2 c)
        decide again false e (inl at) =
            let e2 : p ≡ (f, start) = ap (λ (x : ℕ). (x, p.1)) at.0 ∙ ap (λ (y : ℕ). (f, y)) at.1 in
            let r3 = subst (λ (x : Place). R x t sa (x.0, m x.0 x.1) t2 sb) e2 r2 in
            let c3 = subst (λ (x : Place). Comes a (Shows test) w x t (seen_at x sa)) e2 c in
            let e3 = subst (λ (x : Place). test (shown_by t) (at_images m (seen_at x sb)) ≡ false) (r.place ∙ ap (λ (x : Place). (x.0, m x.0 x.1)) e2) e in
            let going = running w t sa (λ h. shut (test (shown_by t) (at_images m (seen_at (f, m f start) sb))) (grows (shown_by t) (seen_at (f, start) sa) (at_images m (seen_at (f, m f start) sb)) r3.arrived h) e3) c3 in
            subst (λ (x : Place). Comes b (Shows Test2) w x t2 (seen_at x sb)) (sym (r.place ∙ ap (λ (x : Place). (x.0, m x.0 x.1)) e2)) (window n w lt again t t2 sa sb e3 r3 going c3)
          where
            shut : (x : Bool) → x ≡ true → x ≡ false → ⊥
            shut x h k = cc

module _ (s : Setting) (A B : ℕ → List Line) (f start main : ℕ) (old : List Line) (m : ℕ → ℕ → ℕ) (live : ℕ → ℕ → RegSet) (known : ℕ → State → Type 0) (S : Setup s A B f start old m live known)
    (window : (test : Shown → Seen → Bool) (grows : Grows test) → AtWindow s A B f start old m live known S test grows) where
  whole : (test : Shown → Seen → Bool) → Grows test → (w : ℕ) (t : State) → t.frames ≡ [] → ComesFrom (side s A) main test w t → ComesFrom (side s B) main (λ shown seen. test shown (at_images m seen)) w t
  whole test grows w t empty c =
      let place : (main, settle (B main) 0) ≡ (main, m main (settle (A main) 0)) = ap (λ (x : ℕ). (main, x)) (sym (S.entry_same main)) in
      sim s A B f start old m live known S test grows (window test grows) (suc w) w (omega arith) (main, settle (A main) 0) t none_seen (main, settle (B main) 0) t none_seen
      (record {
        place = place;
        reach = S.reach_entry main;
        near = near_itself (live main (settle (A main) 0)) t;
        frames = subst (λ (xs : List Frame). AreFramed s A B f start old m live known xs xs) (sym empty) tt;
        knows = λ same early run. S.known_entry main t same early;
        bytes = (comes_calm (side s A) (Shows test) w (main, settle (A main) 0) t (seen_at (main, settle (A main) 0) none_seen) c).bytes;
        arrived = both s A B f start old m live known none_seen none_seen (main, settle (A main) 0) (main, settle (B main) 0) (λ g q. omega arith) place;
        left = λ g q h. omega arith;
      }) c

  pub follows : Follows m 0 (side s A) (side s B) main
  follows = record {
    by = λ test w t empty none c. whole (λ shown seen. test shown) (λ shown x y le h. h) w t empty c;
    turns = λ test grows w t empty none c. weaken (side s B) (Shows (λ shown seen. test shown (at_images m seen))) (w + 0) (omega arith) (whole test grows w t empty c);
  }
