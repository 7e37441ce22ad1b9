-- Sets of parts rise until a sweep changes nothing.
use Rattle.std.proofs.Common.{◌≡◌, ℕ, zero, suc, ◌<◌, ◌≤◌, ◌⊎◌, inl, inr, Bool, true, false, IsTrue, List, length, get_or, set, replicate, refl, sym, ◌∙◌, ap, subst, arith}
use Rattle.std.proofs.lemmas.Bool.{cases_eq, cases_lt}
use Rattle.std.proofs.lemmas.List.{length-set}
use Rattle.std.proofs.lemmas.Option.{slice_get_past}
use Rattle.c65_code.proofs.PartLaws.{are_same, are_same-equal, are_same-itself}
use Rattle.c65_code.specs.declared.line.Line.{Line}
use Rattle.c65_code.specs.declared.parts.RegSet.{RegSet}
use Rattle.c65_code.specs.Parts.{has_part, no_parts}
use Rattle.c65_live.specs.Tables.{Table, IsLiveTable}
use Rattle.c65_live.proofs.Sets.{in_none}
use Rattle.c65_live_law.specs.Laws.{LiveTablesExist}
use Rattle.c65_live_law.proofs.Bounds.{IsSmall, AreSmall, none_small, joined_small, set_small, bound}
use Rattle.c65_live_law.proofs.Room.{room_in, joined_rises}
use Rattle.c65_live_law.proofs.Step.{joined_of, joined_at, AreSound, live_in, sound_set}

-- a line that changes, or none
unfoldable Rises : List Line → RegSet → List RegSet → ℕ → Type 0
Rises lines out live n = (q : ℕ) × (q < n) × (joined_at lines out live q ≡ get_or live q no_parts → ⊥)

unfoldable Stays : List Line → RegSet → List RegSet → ℕ → Type 0
Stays lines out live n = (q : ℕ) → q < n → joined_at lines out live q ≡ get_or live q no_parts

changes : (lines : List Line) (out : RegSet) (live : List RegSet) (n : ℕ) → are_same (joined_at lines out live n) (get_or live n no_parts) ≡ false → joined_at lines out live n ≡ get_or live n no_parts → ⊥
changes lines out live n e same =
    let yes : are_same (joined_at lines out live n) (get_or live n no_parts) ≡ true = subst (λ (s : RegSet). are_same (joined_at lines out live n) s ≡ true) same (are_same-itself (joined_at lines out live n)) in
    cc

one_more : (lines : List Line) (out : RegSet) (live : List RegSet) (n : ℕ) (b : Bool) → are_same (joined_at lines out live n) (get_or live n no_parts) ≡ b → Stays lines out live n → Stays lines out live (suc n) ⊎ Rises lines out live (suc n)
unfolding Stays Rises
one_more lines out live n true e below = inl (λ q h. elim (cases_eq q n) as (λ _. joined_at lines out live q ≡ get_or live q no_parts) [
  | inl same ↦ subst (λ (r : ℕ). joined_at lines out live r ≡ get_or live r no_parts) (sym same) (are_same-equal (joined_at lines out live n) (get_or live n no_parts) e)
  | inr apart ↦ below q (omega (arith, h, apart))
])
one_more lines out live n false e below = inr (n, omega arith, changes lines out live n e)

stays_or_rises : (lines : List Line) (out : RegSet) (live : List RegSet) (n : ℕ) → Stays lines out live n ⊎ Rises lines out live n
unfolding Stays Rises
stays_or_rises lines out live zero = inl (λ q h. absurd (omega (arith, h)))
stays_or_rises lines out live (suc n) = elim (stays_or_rises lines out live n) as (λ _. Stays lines out live (suc n) ⊎ Rises lines out live (suc n)) [
  | inl below ↦ one_more lines out live n (are_same (joined_at lines out live n) (get_or live n no_parts)) refl below
  | inr x ↦ inr (x.0, omega (arith, x.1), x.2)
]

nothing_at : (n q : ℕ) → get_or (replicate n no_parts) q no_parts ≡ no_parts
nothing_at zero q = refl
nothing_at (suc n) zero = refl
nothing_at (suc n) (suc q) = nothing_at n q

long_nothing : (n : ℕ) → length (replicate n no_parts) ≡ n
long_nothing zero = refl
long_nothing (suc n) = omega (arith, long_nothing n)

module _ (lines : List Line) (out : RegSet) (k : ℕ) (small : AreSmall k out lines) where
  record IsOnTheWay (live : List RegSet) : Type 0 where
    long : length live ≡ length lines
    sound : AreSound lines out live
    sets : (q : ℕ) → IsSmall k (get_or live q no_parts)

  table_of : (live : List RegSet) → IsOnTheWay live → Stays lines out live (length lines) → (table : Table) × IsLiveTable lines out table
  unfolding Stays
  table_of live on stays = (record { after = live }, record { long = on.long; each = λ q within p. (on.sound q p, live_in lines out live closed q p) })
    where
      closed : (q : ℕ) → joined_at lines out live q ≡ get_or live q no_parts
      closed q = elim (cases_lt q (length lines)) as (λ _. joined_at lines out live q ≡ get_or live q no_parts) [
        | inl lt ↦ stays q lt
        | inr ge ↦ ap (joined_of lines out live q) (slice_get_past lines q ge)
      ]

  risen : (live : List RegSet) → IsOnTheWay live → (q : ℕ) → q < length live → IsOnTheWay (set live q (joined_at lines out live q))
  risen live on q within = record {
    long = length-set live q (joined_at lines out live q) ∙ on.long;
    sound = sound_set lines out live on.sound q within;
    sets = set_small k lines out small live on.sets q (joined_at lines out live q) within (joined_small k lines out small live on.sets q);
  }

  -- one step leaves less room
  lower : (live : List RegSet) → IsOnTheWay live → (q : ℕ) → q < length live → (joined_at lines out live q ≡ get_or live q no_parts → ⊥) → room_in k (set live q (joined_at lines out live q)) < room_in k live
  lower live on q within rises = joined_rises k lines out live q within (joined_small k lines out small live on.sets q) rises

  inside : (live : List RegSet) → IsOnTheWay live → (q : ℕ) → q < length lines → q < length live
  inside live on q h = let long = on.long in omega (arith, h, long)

  table_from : (fuel : ℕ) (live : List RegSet) → IsOnTheWay live → room_in k live ≤ fuel → (table : Table) × IsLiveTable lines out table
  unfolding Rises
  table_from zero live on h = elim (stays_or_rises lines out live (length lines)) as (λ _. (table : Table) × IsLiveTable lines out table) [
    | inl stays ↦ table_of live on stays
    | inr x ↦ let less = lower live on x.0 (inside live on x.0 x.1) x.2 in absurd (omega (arith, less, h))
  ]
  table_from (suc n) live on h = elim (stays_or_rises lines out live (length lines)) as (λ _. (table : Table) × IsLiveTable lines out table) [
    | inl stays ↦ table_of live on stays
    | inr x ↦
        let within = inside live on x.0 x.1 in
        let less = lower live on x.0 within x.2 in
        table_from n (set live x.0 (joined_at lines out live x.0)) (risen live on x.0 within) (omega (arith, less, h))
  ]

  begun : IsOnTheWay (replicate (length lines) no_parts)
  begun = record {
    long = long_nothing (length lines);
    sound = λ q p h. absurd (in_none p (subst (λ (s : RegSet). IsTrue (has_part s p)) (nothing_at (length lines) q) h));
    sets = λ q. subst (IsSmall k) (sym (nothing_at (length lines) q)) (none_small k);
  }

pub live_tables_exist : LiveTablesExist
live_tables_exist lines out =
    let b = bound out lines in
    let first : List RegSet = replicate (length lines) no_parts in
    table_from lines out b.0 b.1 (room_in b.0 first) first (begun lines out b.0 b.1) (omega arith)
