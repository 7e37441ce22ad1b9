-- A code in which the functions of a list have other lines, one after another.
use Rattle.std.proofs.Common.{◌≡◌, ℕ, ◌+◌, ◌==◌, Bool, true, false, if◌then◌else◌, List, [], ◌∷◌, refl, sym, subst, ap, ◌∙◌}
use Rattle.std.proofs.Math.Path.{fun_ext}
use Rattle.std.proofs.lemmas.Bool.{eqb-true, eq-eqb}
use Rattle.c65_code.specs.declared.code.Code.{Code}
use Rattle.c65_code.specs.declared.line.Line.{Line}
use Rattle.c65_code.specs.declared.line.Sym.{Sym}
use Rattle.c65_code.specs.declared.parts.RegSet.{RegSet}
use Rattle.c65_code.specs.Placement.{Placement, Setting, setting_of, segment_of, has_segment}
use Rattle.c65_code.specs.Rewriting.{HasLiterals, with_lines, mapped_in}
use Rattle.c65_code.specs.Segments.{Segment}
use Rattle.c65_opt_law_chains.specs.Laws.{FollowsUntilEnd, FollowingUntilEndComposes}
use Rattle.c65_opt_law_follow.specs.Laws.{IsSound, IsApt}
use Rattle.c65_opt_law_near.specs.Laws.{IsLow}
use Rattle.c65_opt_law_whole.specs.Laws.{IsMadeOf}
use Rattle.c65_opt_law_whole.proofs.Followed.{itself}

-- new lines for those that a test picks
unfoldable pub mixed : Setting → (ℕ → List Line) → List (Sym × Segment) → Setting
mixed s new fs = record s { lines = λ g. if has_segment fs g then new g else s.lines g }

swapped : (a b : ℕ) → (a == b) ≡ (b == a)
swapped a b = pick (a == b) refl
  where
    other : (c : Bool) → (a == b) ≡ false → (b == a) ≡ c → false ≡ c
    other false e k = refl
    other true e k = absurd (let f : false ≡ true = sym e ∙ eq-eqb a b (sym (eqb-true b a k)) in cc)

    pick : (c : Bool) → (a == b) ≡ c → (a == b) ≡ (b == a)
    pick true e = e ∙ sym (eq-eqb b a (sym (eqb-true a b e)))
    pick false e = e ∙ other (b == a) e refl

-- with the lines that a function has, a code is as it is
pub with_own : (s : Setting) (n : ℕ) → with_lines s n (s.lines n) ≡ s
with_own s n = ap (λ (ls : ℕ → List Line). let t : Setting = record s { lines = ls } in t) (fun_ext own_lines)
  where
    pick : (g : ℕ) (b : Bool) → (g == n) ≡ b → (if g == n then s.lines n else s.lines g) ≡ s.lines g
    pick g true e = ap (λ (c : Bool). if c then s.lines n else s.lines g) e ∙ ap s.lines (sym (eqb-true g n e))
    pick g false e = ap (λ (c : Bool). if c then s.lines n else s.lines g) e

    own_lines : (g : ℕ) → (if g == n then s.lines n else s.lines g) ≡ s.lines g
    own_lines g = pick g (g == n) refl

-- one function more
lines_more : (own new : ℕ → List Line) (h : Sym × Segment) (fs : List (Sym × Segment)) (g : ℕ) → (if g == h.0.0 then new h.0.0 else (if has_segment fs g then new g else own g)) ≡ (if has_segment (h ∷ fs) g then new g else own g)
lines_more own new h fs g = pick (g == h.0.0) refl
  where
    turned : (h.0.0 == g) ≡ (g == h.0.0)
    turned = swapped h.0.0 g

    by : (b : Bool) → (g == h.0.0) ≡ b → has_segment (h ∷ fs) g ≡ (if b then true else has_segment fs g)
    by b e = ap (λ (c : Bool). if c then true else has_segment fs g) (turned ∙ e)

    pick : (b : Bool) → (g == h.0.0) ≡ b → (if g == h.0.0 then new h.0.0 else (if has_segment fs g then new g else own g)) ≡ (if has_segment (h ∷ fs) g then new g else own g)
    pick true e =
        ap (λ (c : Bool). if c then new h.0.0 else (if has_segment fs g then new g else own g)) e
        ∙ (ap new (sym (eqb-true g h.0.0 e)) ∙ sym (ap (λ (c : Bool). if c then new g else own g) (by true e)))
    pick false e =
        ap (λ (c : Bool). if c then new h.0.0 else (if has_segment fs g then new g else own g)) e
        ∙ sym (ap (λ (c : Bool). if c then new g else own g) (by false e))

sound_more : (own new : ℕ → List Line) (h : Sym × Segment) (fs : List (Sym × Segment)) → IsSound (new h.0.0) → ((g : ℕ) → IsSound (if has_segment fs g then new g else own g)) → (g : ℕ) → IsSound (if has_segment (h ∷ fs) g then new g else own g)
sound_more own new h fs here rest g = subst IsSound (lines_more own new h fs g) (pick (g == h.0.0))
  where
    pick : (b : Bool) → IsSound (if b then new h.0.0 else (if has_segment fs g then new g else own g))
    pick true = here
    pick false = rest g

module _ (s : Setting) (new : ℕ → List Line) where
  one_more : (h : Sym × Segment) (fs : List (Sym × Segment)) → with_lines (mixed s new fs) h.0.0 (new h.0.0) ≡ mixed s new (h ∷ fs)
  unfolding mixed
  one_more h fs = ap (λ (ls : ℕ → List Line). let t : Setting = record s { lines = ls } in t) (fun_ext (lines_more s.lines new h fs))

  -- a function that has its new lines already stays as it is
  stays : (h : Sym × Segment) (fs : List (Sym × Segment)) → has_segment fs h.0.0 ≡ true → mixed s new (h ∷ fs) ≡ mixed s new fs
  unfolding mixed
  stays h fs there =
      let lines : (mixed s new fs).lines h.0.0 ≡ new h.0.0 = ap (λ (c : Bool). if c then new h.0.0 else s.lines h.0.0) there in
      sym (one_more h fs) ∙ (ap (with_lines (mixed s new fs) h.0.0) (sym lines) ∙ with_own (mixed s new fs) h.0.0)

  -- one that has not has its own
  own_here : (n : ℕ) (fs : List (Sym × Segment)) → has_segment fs n ≡ false → with_lines (mixed s new fs) n (s.lines n) ≡ mixed s new fs
  unfolding mixed
  own_here n fs apart =
      let lines : (mixed s new fs).lines n ≡ s.lines n = ap (λ (c : Bool). if c then new n else s.lines n) apart in
      ap (with_lines (mixed s new fs) n) (sym lines) ∙ with_own (mixed s new fs) n

-- what is the same whatever the lines are
pub record IsOpen (s : Setting) : Type 0 where
  pub low : IsLow s.place
  pub own : (g h : ℕ) → s.is_function g ≡ true → s.is_function h ≡ true → s.place.address g ≡ s.place.address h → g ≡ h

-- the lines of a code's functions
abbrev pub lines_in : Code → ℕ → List Line
lines_in code n = (segment_of code.functions n).lines

abbrev pub gives_in : Code → ℕ → RegSet
gives_in code n = (segment_of code.functions n).out

-- The code with the new lines of the functions of a list follows the code, by one map of places at all placements where the literals
-- stand.
pub record IsMixed (literals : List (Sym × List ℕ)) (old : Code) (main : ℕ) (new : ℕ → List Line) (fs : List (Sym × Segment)) : Type 0 where
  pub sound : (g : ℕ) → IsSound (if has_segment fs g then new g else lines_in old g)
  pub map : ℕ → ℕ → ℕ
  pub more : ℕ
  pub follows : (place : Placement) → IsOpen (setting_of old place) → HasLiterals literals place → FollowsUntilEnd map more (setting_of old place) (mixed (setting_of old place) new fs) main

module _ (composes : FollowingUntilEndComposes) (literals : List (Sym × List ℕ)) (old : Code) (main : ℕ) (new : ℕ → List Line) where
  again : (h : Sym × Segment) (fs : List (Sym × Segment)) → has_segment fs h.0.0 ≡ true → IsMadeOf literals h.0.0 main (gives_in old h.0.0) (lines_in old h.0.0) (new h.0.0) → IsMixed literals old main new fs → IsMixed literals old main new (h ∷ fs)
  again h fs there made m = record {
    sound = sound_more (lines_in old) new h fs made.sound m.sound;
    map = m.map;
    more = m.more;
    follows = λ place free stand. subst (λ (t : Setting). FollowsUntilEnd m.map m.more (setting_of old place) t main) (sym (stays (setting_of old place) new h fs there)) (m.follows place free stand);
  }

  module _ (h : Sym × Segment) (fs : List (Sym × Segment)) (apart : has_segment fs h.0.0 ≡ false) (made : IsMadeOf literals h.0.0 main (gives_in old h.0.0) (lines_in old h.0.0) (new h.0.0)) (m : IsMixed literals old main new fs) where
    here_on : (place : Placement) → IsOpen (setting_of old place) → HasLiterals literals place
        → FollowsUntilEnd (mapped_in h.0.0 made.followed.map) made.followed.more (mixed (setting_of old place) new fs) (mixed (setting_of old place) new (h ∷ fs)) main
    unfolding mixed
    here_on place free stand =
        let s : Setting = setting_of old place in
        let own : with_lines (mixed (setting_of old place) new fs) h.0.0 (lines_in old h.0.0) ≡ mixed (setting_of old place) new fs = own_here (setting_of old place) new h.0.0 fs apart in
        let apt : IsApt h.0.0 (gives_in old h.0.0) (mixed (setting_of old place) new fs) = record { gives = refl; low = free.low; own = free.own; sound = m.sound } in
        subst (λ (t : Setting). FollowsUntilEnd (mapped_in h.0.0 made.followed.map) made.followed.more t (mixed (setting_of old place) new (h ∷ fs)) main) own
        (subst (λ (t : Setting). FollowsUntilEnd (mapped_in h.0.0 made.followed.map) made.followed.more (with_lines (mixed (setting_of old place) new fs) h.0.0 (lines_in old h.0.0)) t main) (one_more (setting_of old place) new h fs)
        (made.followed.follows (mixed (setting_of old place) new fs) (record { literal_bytes = stand; apt = subst (IsApt h.0.0 (gives_in old h.0.0)) (sym own) apt })))

    first : IsMixed literals old main new (h ∷ fs)
    first = record {
      sound = sound_more (lines_in old) new h fs made.sound m.sound;
      map = λ f p. mapped_in h.0.0 made.followed.map f (m.map f p);
      more = m.more + made.followed.more;
      follows = λ place free stand.
          composes m.map (mapped_in h.0.0 made.followed.map) m.more made.followed.more (setting_of old place) (mixed (setting_of old place) new fs) (mixed (setting_of old place) new (h ∷ fs)) main
          (m.follows place free stand) (here_on place free stand);
    }

  -- all functions of a list
  pub all_mixed : ((g : ℕ) → IsSound (lines_in old g)) → (fs : List (Sym × Segment)) → ((n : ℕ) → has_segment fs n ≡ true → IsMadeOf literals n main (gives_in old n) (lines_in old n) (new n)) → IsMixed literals old main new fs
  unfolding mixed
  all_mixed sound [] made = record { sound = sound; map = λ f p. p; more = 0; follows = λ place free stand. itself (setting_of old place) main }
  all_mixed sound (h ∷ fs) made =
      let rest = all_mixed sound fs (λ n there. made n (later n (h.0.0 == n) there)) in
      pick (has_segment fs h.0.0) refl rest
    where
      later : (n : ℕ) (b : Bool) → has_segment fs n ≡ true → (if b then true else has_segment fs n) ≡ true
      later n true there = refl
      later n false there = there

      here : has_segment (h ∷ fs) h.0.0 ≡ true
      here = ap (λ (c : Bool). if c then true else has_segment fs h.0.0) (eq-eqb h.0.0 h.0.0 refl)

      pick : (b : Bool) → has_segment fs h.0.0 ≡ b → IsMixed literals old main new fs → IsMixed literals old main new (h ∷ fs)
      pick true e m = again h fs e (made h.0.0 here) m
      pick false e m = first h fs e (made h.0.0 here) m
