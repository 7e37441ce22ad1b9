-- What a step asks of the limit of depth.
use Rattle.std.proofs.Common.{◌≡◌, ℕ, ◌+◌, ◌≤◌, List, Bool, true, false, refl, ap, sym, ◌∙◌, subst, arith, ◌⊎◌, inl, inr, if◌then◌else◌, nat_le}
use Rattle.std.proofs.lemmas.Bool.{leb-true, le-leb}
use Rattle.c65_parse.specs.declared.frame.Change.{Change}
use Rattle.c65_parse.specs.declared.frame.Change.TheVariants as changes
use Rattle.c65_parse.specs.Frames.{Frame, Held, Next, go, stop, deep, fail}
use Rattle.c65_parse.specs.Expressions.{within}
use Rattle.c65_parse.specs.Machine.{in_block}

abbrev pub IsGo : Next → Type 0
IsGo (go fs held change) = Unit {0}
IsGo (stop done) = ⊥
IsGo deep = ⊥
IsGo fail = ⊥

abbrev pub IsShallow : Next → Type 0
IsShallow (go fs held change) = Unit {0}
IsShallow (stop done) = Unit {0}
IsShallow deep = ⊥
IsShallow fail = Unit {0}

-- the limit does not matter and nothing is too deep, or the reading goes on within each limit from some number on
pub data Needs (f : ℕ → Next) : Type 0 where
  nothing : (n : Next) → IsShallow n → ((limit : ℕ) → f limit ≡ n) → Needs f
  room : (need : ℕ) (fs : List Frame) (held : Held) (change : Change) → ((limit : ℕ) → f limit ≡ within (nat_le need limit) (go fs held change)) → Needs f

pub needs_nothing : (n : Next) → IsShallow n → Needs (λ limit. n)
needs_nothing n h = nothing n h (λ limit. refl)

pub goes_needs : (fs : List Frame) (held : Held) → Needs (λ limit. go fs held changes.Nothing)
goes_needs fs held = needs_nothing (go fs held changes.Nothing) tt

pub fails_needs : Needs (λ limit. fail)
fails_needs = needs_nothing fail tt

pub room_needs : (need : ℕ) (fs : List Frame) (held : Held) → Needs (λ limit. within (nat_le need limit) (go fs held changes.Nothing))
room_needs need fs held = room need fs held changes.Nothing (λ limit. refl)

pub within_needs : (need : ℕ) (n : Next) → IsGo n → Needs (λ limit. within (nat_le need limit) n)
within_needs need (go fs held change) h = room need fs held change (λ limit. refl)
within_needs need (stop done) h = absurd h
within_needs need deep h = absurd h
within_needs need fail h = absurd h

pub if_needs : (b : Bool) (f g : ℕ → Next) → Needs f → Needs g → Needs (λ limit. if b then f limit else g limit)
if_needs true f g h k = h
if_needs false f g h k = k

shallow_block : (n : Next) → IsShallow n → IsShallow (in_block n)
shallow_block (go fs held change) h = tt
shallow_block (stop done) h = tt
shallow_block deep h = absurd h
shallow_block fail h = tt

block_within : (b : Bool) (fs : List Frame) (held : Held) (change : Change) → in_block (within b (go fs held change)) ≡ within b (go fs held changes.Open)
block_within true fs held change = refl
block_within false fs held change = refl

pub block_needs : (f : ℕ → Next) → Needs f → Needs (λ limit. in_block (f limit))
block_needs f (nothing n h e) = nothing (in_block n) (shallow_block n h) (λ limit. ap in_block (e limit))
block_needs f (room need fs held change e) = room need fs held changes.Open (λ limit. ap in_block (e limit) ∙ block_within (nat_le need limit) fs held change)

-- what follows of a greater limit
grows_within : (need limit more : ℕ) (fs : List Frame) (held : Held) (change : Change) (b : Bool) → nat_le need limit ≡ b → limit ≤ more → (within b (go fs held change) ≡ deep) ⊎ (within b (go fs held change) ≡ within (nat_le need more) (go fs held change))
grows_within need limit more fs held change true e h = inr (ap (λ c. within c (go fs held change)) (sym (le-leb need more (let fits = leb-true need limit e in omega (arith, fits, h)))))
grows_within need limit more fs held change false e h = inl refl

pub needs_grow : (f : ℕ → Next) → Needs f → (limit more : ℕ) → limit ≤ more → (f limit ≡ deep) ⊎ (f limit ≡ f more)
needs_grow f (nothing n h e) limit more fits = inr (e limit ∙ sym (e more))
needs_grow f (room need fs held change e) limit more fits = elim (grows_within need limit more fs held change (nat_le need limit) refl fits) as (λ _. (f limit ≡ deep) ⊎ (f limit ≡ f more)) [ inl low ↦ inl (e limit ∙ low) | inr same ↦ inr (e limit ∙ same ∙ sym (e more)) ]

-- a greater limit within which the reading goes on
pub record Opens (f : ℕ → Next) (limit : ℕ) : Type 0 where
  pub more : ℕ
  pub is_more : limit ≤ more
  pub frames : List Frame
  pub held : Held
  pub change : Change
  pub goes_on : f more ≡ go frames held change

pub needs_open : (f : ℕ → Next) → Needs f → (limit : ℕ) → f limit ≡ deep → Opens f limit
needs_open f (nothing n h e) limit low = absurd (subst IsShallow (sym (e limit) ∙ low) h)
needs_open f (room need fs held change e) limit low = record {
  more = limit + need;
  is_more = omega arith;
  frames = fs;
  held = held;
  change = change;
  goes_on = e (limit + need) ∙ ap (λ b. within b (go fs held change)) (le-leb need (limit + need) (omega arith));
}
