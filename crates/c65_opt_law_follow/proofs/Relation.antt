-- Where two codes stand that differ in a window, at one moment of runs of theirs.
use Rattle.std.proofs.Common.{◌≡◌, ℕ, suc, ◌+◌, ◌<◌, ◌≤◌, ◌⊎◌, inl, inr, List, [], ◌∷◌, length, Option, Some, None, Bool, true, IsTrue, refl, sym, ap, ◌∙◌, subst, arith}
use Rattle.std.specs.List.{fold}
use Rattle.c65_code.proofs.PartLaws.{all_iff}
use Rattle.c65_code.specs.declared.line.Line.{Line}
use Rattle.c65_code.specs.declared.parts.Part.{Part}
use Rattle.c65_code.specs.declared.parts.RegSet.{RegSet}
use Rattle.c65_code.specs.Comes.{Seen, seen_at, Shown, Shows, Comes}
use Rattle.c65_code.specs.Follows.{IsBelow, Grows, through as at_images}
use Rattle.c65_code.specs.LineState.{Place, Frame, State, IsBytes}
use Rattle.c65_code.specs.Parts.{all_parts, IsPart}
use Rattle.c65_code.specs.Placement.{Setting}
use Rattle.c65_opt_law_near.specs.Near.{Near}
use Rattle.c65_opt_law_straight.specs.Laws.{AreAsDeep}
use Rattle.c65_opt_law_follow.proofs.Near.{near_part}
use Rattle.c65_opt_law_follow.proofs.Seen.{seen_grows, seen_here, seen_room}
use Rattle.c65_opt_law_follow.proofs.Setup.{side, IsAt, IsOut, IsReached}

pub near_all : (less : RegSet) (t u : State) → Near all_parts t u → Near less t u
near_all less t u n = near_part all_parts less t u (λ p i h. (all_iff p).1 i) n

module _ (s : Setting) (A B : ℕ → List Line) (f start : ℕ) (old : List Line) (m : ℕ → ℕ → ℕ) (live : ℕ → ℕ → RegSet) (known : ℕ → State → Type 0) where
  -- an active call in both
  pub record IsFramed (x y : Frame) : Type 0 where
    pub back : y.back ≡ (x.back.0, m x.back.0 x.back.1)
    pub pushed : x.pushed ≡ y.pushed
    pub gives : x.gives ≡ y.gives
    pub reach : IsReached f start (start + length old) x.back.0 x.back.1
    pub knows : x.back.0 ≡ f → x.back.1 ≤ start → (t : State) → known x.back.1 t

  abbrev pub AreFramed : List Frame → List Frame → Type 0
  AreFramed [] [] = Unit {0}
  AreFramed [] (y ∷ ys) = ⊥
  AreFramed (x ∷ xs) [] = ⊥
  AreFramed (x ∷ xs) (y ∷ ys) = IsFramed x y × AreFramed xs ys

  framed_deep : (n k : ℕ) → n ≡ k → (xs ys : List Frame) → AreFramed xs ys → fold (λ (c : ℕ) (f : Frame). c + (2 + length f.pushed)) n xs ≡ fold (λ (c : ℕ) (f : Frame). c + (2 + length f.pushed)) k ys
  framed_deep n k e [] [] h = e
  framed_deep n k e [] (y ∷ ys) h = absurd h
  framed_deep n k e (x ∷ xs) [] h = absurd h
  framed_deep n k e (x ∷ xs) (y ∷ ys) h =
      framed_deep (n + (2 + length x.pushed)) (k + (2 + length y.pushed)) (ap (λ (c : ℕ). c + (2 + length x.pushed)) e ∙ ap (λ (vs : List ℕ). k + (2 + length vs)) h.0.pushed) xs ys h.1

  pub deep : (t u : State) → AreFramed t.frames u.frames → AreAsDeep t u
  deep t u h = framed_deep 0 0 refl t.frames u.frames h

  pub framed_on : (t u v w : State) → v.frames ≡ t.frames → w.frames ≡ u.frames → AreFramed t.frames u.frames → AreFramed v.frames w.frames
  framed_on t u v w e g h = subst (λ (xs : List Frame). AreFramed xs w.frames) (sym e) (subst (AreFramed t.frames) (sym g) h)

  -- Where the two codes stand, at one moment, and their arrivals before those at these places; lines of the window count as left
  -- only when the window is begun again.
  pub record Rel (p : Place) (t : State) (sa : Seen) (p2 : Place) (t2 : State) (sb : Seen) : Type 0 where
    pub place : p2 ≡ (p.0, m p.0 p.1)
    pub reach : IsReached f start (start + length old) p.0 p.1
    pub near : Near (live p.0 p.1) t t2
    pub frames : AreFramed t.frames t2.frames
    pub knows : p.0 ≡ f → p.1 ≤ start → t2.ended ≡ None → known p.1 t2
    pub bytes : IsBytes t2
    pub arrived : IsBelow (seen_at p sa) (at_images m (seen_at p2 sb))
    pub left : (g q : ℕ) → IsOut f start (start + length old) g q ⊎ IsAt f start p.0 p.1 → sa g q ≤ sb g (m g q)

  -- the test on arrivals, of the code with the new lines
  abbrev pub Imaged : (Shown → Seen → Bool) → Shown → Seen → Bool
  Imaged test shown seen = test shown (at_images m seen)

  abbrev pub Goal : (Shown → Seen → Bool) → ℕ → Type 0
  Goal test n = (w : ℕ) → w < n → (p : Place) (t : State) (sa : Seen) (p2 : Place) (t2 : State) (sb : Seen) → Rel p t sa p2 t2 sb → Comes (side s A) (Shows test) w p t (seen_at p sa) → Comes (side s B) (Shows (Imaged test)) w p2 t2 (seen_at p2 sb)

  -- both codes come to a line and its image
  pub both : (sa sb : Seen) (q q2 : Place) → IsBelow sa (at_images m sb) → q2 ≡ (q.0, m q.0 q.1) → IsBelow (seen_at q sa) (at_images m (seen_at q2 sb))
  both sa sb q q2 le e =
      subst (λ (x : Place). IsBelow (seen_at q sa) (at_images m (seen_at x sb))) (sym e)
      (seen_room q sa (at_images m (seen_at (q.0, m q.0 q.1) sb)) (λ g x. omega (arith, le g x, seen_grows (q.0, m q.0 q.1) sb g (m g x))) (omega (arith, le q.0 q.1, seen_here (q.0, m q.0 q.1) sb q.0 (m q.0 q.1) refl refl)))
