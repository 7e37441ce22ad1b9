-- What sweeps come to is the table.
use Rattle.std.proofs.Common.{◌≡◌, ℕ, zero, suc, ◌+◌, ◌-◌, ◌<◌, ◌≤◌, Bool, true, false, IsTrue, List, length, get_or, set, replicate, refl, sym, ◌∙◌, ap, subst, inl, inr, arith}
use Rattle.std.proofs.lemmas.Bool.{cases_lt}
use Rattle.std.proofs.lemmas.Option.{slice_get_past}
use Rattle.std.proofs.lemmas.List.{set-get_or}
use Rattle.c65_code.specs.declared.parts.RegSet.{RegSet}
use Rattle.c65_code.specs.declared.line.Line.{Line}
use Rattle.c65_code.specs.Parts.{has_part, no_parts}
use Rattle.c65_live.specs.declared.flow.Flow.{Flow}
use Rattle.c65_live.specs.Flows.{flow_of, flows_of, before_of, before_at, joined_of, joined_at, IsClosed}
use Rattle.c65_live.specs.Sweeps.{AreSound, IsSettled, room}
use Rattle.c65_live.specs.Tables.{IsLiveTable}
use Rattle.c65_live.proofs.Sets.{in_none}
use Rattle.c65_live.proofs.Sound.{sound_set}
use Rattle.c65_live.proofs.Closed.{live_in}
use Rattle.std.proofs.lemmas.List.{length-map}

pub settled_table : (lines : List Line) (out : RegSet) (flows : List Flow) (live : List RegSet) → flows ≡ flows_of lines out → IsSettled flows live → IsLiveTable lines out (record { after = live })
settled_table lines out flows live e settled = record {
  long = settled.long ∙ (ap length e ∙ length-map lines (flow_of lines out));
  each = λ q within p. (settled.sound lines out e q p, live_in lines out live (subst (λ fs. IsClosed fs live) e settled.closed) q p);
}

nothing_at : (n q : ℕ) → get_or (replicate n no_parts) q no_parts ≡ no_parts
nothing_at zero q = refl
nothing_at (suc n) zero = refl
nothing_at (suc n) (suc q) = nothing_at n q

-- with no part at all a table is sound
pub nothing_sound : (lines : List Line) (out : RegSet) (n : ℕ) → AreSound lines out (replicate n no_parts)
nothing_sound lines out n q p h = absurd (in_none p (subst (λ s. IsTrue (has_part s p)) (nothing_at n q) h))

-- past the end nothing is live, and a sweep changes nothing
pub before_past : (flows : List Flow) (live : List RegSet) (q : ℕ) → length flows ≤ q → before_at flows live q ≡ no_parts
before_past flows live q past = ap (λ o. before_of o (get_or live q no_parts)) (slice_get_past flows q past)

pub closed_past : (flows : List Flow) (live : List RegSet) (q : ℕ) → length flows ≤ q → joined_at flows live q ≡ get_or live q no_parts
closed_past flows live q past = ap (joined_of flows live q (before_at flows live (q + 1))) (slice_get_past flows q past)

-- where a set is what it was, the table is too
pub same_set : (live : List RegSet) (q : ℕ) (s : RegSet) → s ≡ get_or live q no_parts → set live q s ≡ live
same_set live q s e = ap (set live q) e ∙ set-get_or live q no_parts

pub sound_step : (lines : List Line) (out : RegSet) (flows : List Flow) (live : List RegSet) (q : ℕ) → flows ≡ flows_of lines out → q < length live → AreSound lines out live → AreSound lines out (set live q (joined_at flows live q))
sound_step lines out flows live q e within sound = subst (λ fs. AreSound lines out (set live q (joined_at fs live q))) (sym e) (sound_set lines out live sound q within)

-- one line more, from above
pub one_lower : (P : ℕ → Type 0) (at : ℕ) → ((q : ℕ) → at ≤ q → P q) → P (at - 1) → (q : ℕ) → at - 1 ≤ q → P q
one_lower P at above here q h = elim (cases_lt q at) as (λ _. P q) [
  | inl lt ↦ let e : at - 1 ≡ q = omega arith in subst P e here
  | inr ge ↦ above q ge
]

pub no_more : (risen : Bool) (live first : List RegSet) → (risen ≡ false → live ≡ first) → (risen ≡ true → room live < room first) → room live ≤ room first
no_more true live first same less = let h = less refl in omega arith
no_more false live first same less = let h : room live ≡ room first = ap room (same refl) in omega arith
