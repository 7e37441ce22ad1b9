-- Arrivals.
use Rattle.std.proofs.Common.{◌≡◌, ℕ, suc, ◌+◌, ◌<◌, ◌≤◌, ◌⊎◌, inl, inr, Bool, true, false, refl, sym, subst, arith}
use Rattle.std.specs.Prelude.{◌==◌, ◌&&◌, if◌then◌else◌}
use Rattle.std.proofs.lemmas.Bool.{eq-eqb, eqb-true}
use Rattle.c65_code.specs.LineState.{Place}
use Rattle.c65_code.specs.Comes.{Seen, seen_at}
use Rattle.c65_code.specs.Follows.{IsBelow}

pub seen_grows : (p : Place) (s : Seen) → IsBelow s (seen_at p s)
seen_grows p s g q = go ((g == p.0) && (q == p.1))
  where
    go : (b : Bool) → s g q ≤ (if b then suc (s g q) else s g q)
    go true = omega arith
    go false = omega arith

pub seen_here : (p : Place) (s : Seen) (g q : ℕ) → p.0 ≡ g → p.1 ≡ q → seen_at p s g q ≡ suc (s g q)
seen_here p s g q e0 e1 = rw (eq-eqb g p.0 (sym e0), eq-eqb q p.1 (sym e1)) refl

-- below a bound, if there is room for one more at the place
pub seen_room : (p : Place) (s r : Seen) → IsBelow s r → suc (s p.0 p.1) ≤ r p.0 p.1 → IsBelow (seen_at p s) r
seen_room p s r le room g q = go (g == p.0) (q == p.1) refl refl
  where
    go : (x y : Bool) → (g == p.0) ≡ x → (q == p.1) ≡ y → (if x && y then suc (s g q) else s g q) ≤ r g q
    go true true ex ey =
        let eg : g ≡ p.0 = eqb-true g p.0 ex in
        let eq : q ≡ p.1 = eqb-true q p.1 ey in
        subst (λ n. suc (s n q) ≤ r n q) (sym eg) (subst (λ n. suc (s p.0 n) ≤ r p.0 n) (sym eq) room)
    go true false ex ey = le g q
    go false true ex ey = le g q
    go false false ex ey = le g q

-- elsewhere nothing changes
pub seen_else : (p : Place) (s : Seen) (g q : ℕ) → (q ≡ p.1 → ⊥) → seen_at p s g q ≡ s g q
seen_else p s g q ne = go (g == p.0) (q == p.1) refl
  where
    go : (x y : Bool) → (q == p.1) ≡ y → (if x && y then suc (s g q) else s g q) ≡ s g q
    go true true ey = absurd (ne (eqb-true q p.1 ey))
    go false true ey = refl
    go true false ey = refl
    go false false ey = refl

pub seen_other : (p : Place) (s : Seen) (g q : ℕ) → (g ≡ p.0 → ⊥) → seen_at p s g q ≡ s g q
seen_other p s g q ne = go (g == p.0) (q == p.1) refl
  where
    go : (x y : Bool) → (g == p.0) ≡ x → (if x && y then suc (s g q) else s g q) ≡ s g q
    go true true ex = absurd (ne (eqb-true g p.0 ex))
    go false true ex = refl
    go true false ex = refl
    go false false ex = refl

pub seen_mono : (p : Place) (s r : Seen) → IsBelow s r → IsBelow (seen_at p s) (seen_at p r)
seen_mono p s r le g q = go ((g == p.0) && (q == p.1))
  where
    go : (b : Bool) → (if b then suc (s g q) else s g q) ≤ (if b then suc (r g q) else r g q)
    go true = omega (arith, le g q)
    go false = le g q
