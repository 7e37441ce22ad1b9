-- Steps of the meaning that go through bytes one behind another: the machine stands before its lines meanwhile, and each step earns.
use Rattle.std.proofs.Common.{◌≡◌, ℕ, zero, suc, ◌+◌, ◌*◌, ◌<◌, ◌≤◌, List, ◌∷◌, None, Bool, refl, sym, ap, ◌∙◌, subst, arith}
use Rattle.std.specs.Prelude.{nat_lt, if◌then◌else◌, Result, Ok, Err}
use Rattle.c65_meaning.specs.Why.{Why}
use Rattle.c65_meaning.specs.Store.{Value}
use Rattle.c65_meaning.specs.Items.{Item}
use Rattle.c65_meaning.specs.State as meaning
use Rattle.c65_meaning.specs.State.{Scene, Undefined, Running}
use Rattle.c65_meaning.specs.Step.{perform}
use Rattle.c65_code.specs.LineState.{State}
use Rattle.c65_code.specs.Steady.{IsCalm}
use Rattle.c65_code.specs.Comes.{Seen}
use Rattle.c65_agree_state.specs.World.{World, program_in, setting_in, Active, place_in, total_in}
use Rattle.c65_agree_state.specs.Follows.{Follows}
use Rattle.c65_agree_state.proofs.Followed.{follows_weaken, steps_earn}
use Rattle.c65_agree_numbers.proofs.Tests.{less, not_less}
use Rattle.c65_agree_rows.proofs.Quiet.{nothing_follows}

-- The item that is next, the values while bytes are left and those behind the last one, and what a byte does to a scene.
pub record ByteSteps : Type 0 where
  pub size : ℕ
  pub item : ℕ → Item
  pub work : List Item
  pub values : List Value
  pub rest : List Value
  pub byte : ℕ → Scene → Result Scene Why

-- what comes of a byte
abbrev pub next_of : ByteSteps → ℕ → Result Scene Why → meaning.State
next_of b done (Err why) = Undefined why
next_of b done (Ok c) = if nat_lt (suc done) b.size then Running (b.item (suc done) ∷ b.work) b.values c else Running b.work b.rest c

-- the scenes on the way, and that a step does a byte there
pub record AreSteps (g : World) (b : ByteSteps) (c : Scene) (Reached : ℕ → Scene → Type 0) : Type 0 where
  pub out : (done : ℕ) (d : Scene) → Reached done d → d.out ≡ c.out
  pub turns : (done : ℕ) (d : Scene) → Reached done d → d.turns ≡ c.turns
  pub performs : (done : ℕ) (d : Scene) → Reached done d → done < b.size → perform (program_in g) (b.item done) b.work b.values d ≡ next_of b done (b.byte done d)
  pub none : b.size ≡ 0 → perform (program_in g) (b.item 0) b.work b.values c ≡ Running b.work b.rest c
  pub puts : (done : ℕ) (d e : Scene) → Reached done d → b.byte done d ≡ Ok e → Reached (suc done) e

module _ (g : World) (a : Active) (b : ByteSteps) (c : Scene) (Reached : ℕ → Scene → Type 0) (are : AreSteps g b c Reached) (t : State) (seen : Seen) (v p : ℕ) (calm : IsCalm (setting_in g) t) (output : t.output ≡ c.out) (running : t.ended ≡ None) (turned : c.turns ≤ total_in g seen) where
  abbrev Behind : ℕ → ℕ → Type 0
  Behind n weight = (j : ℕ) (d : Scene) → j < n → Reached b.size d → Follows g j weight (Running b.work b.rest d) (place_in g a p) t seen

  -- a step that does a byte
  byte_earns : (n done : ℕ) (d : Scene) → done < b.size → Reached done d → ((j : ℕ) → j < n → (r : Result Scene Why) → b.byte done d ≡ r → Follows g j (v + 4000 * done + 4000) (next_of b done r) (place_in g a p) t seen)
      → Follows g n (v + 4000 * done) (Running (b.item done ∷ b.work) b.values d) (place_in g a p) t seen
  byte_earns n done d lt reached goes =
      let same = are.turns done d reached in
      steps_earn g n (v + 4000 * done) (b.item done) b.work b.values d (place_in g a p) t seen calm (output ∙ sym (are.out done d reached)) running (omega (arith, turned, same))
      (λ j less_than. subst (λ m. Follows g j (v + 4000 * done + 4000) m (place_in g a p) t seen) (sym (are.performs done d reached lt)) (goes j less_than (b.byte done d) refl))

  bytes_earn : (left n done : ℕ) (d : Scene) → suc left + done ≡ b.size → Reached done d → Behind n (v + 4000 * b.size) → Follows g n (v + 4000 * done) (Running (b.item done ∷ b.work) b.values d) (place_in g a p) t seen
  bytes_earn zero n done d e reached behind = byte_earns n done d (omega (arith, e)) reached go
    where
      go : (j : ℕ) → j < n → (r : Result Scene Why) → b.byte done d ≡ r → Follows g j (v + 4000 * done + 4000) (next_of b done r) (place_in g a p) t seen
      go j lt (Err why) f = nothing_follows g why j (v + 4000 * done + 4000) (place_in g a p) t seen
      go j lt (Ok d2) f =
          let last : next_of b done (Ok d2) ≡ Running b.work b.rest d2 = ap (λ (x : Bool). if x then Running (b.item (suc done) ∷ b.work) b.values d2 else Running b.work b.rest d2) (not_less (suc done) b.size (omega (arith, e))) in
          let whole : v + 4000 * b.size ≡ v + 4000 * done + 4000 = omega (arith, e) in
          let all : suc done ≡ b.size = omega (arith, e) in
          subst (λ m. Follows g j (v + 4000 * done + 4000) m (place_in g a p) t seen) (sym last) (subst (λ x. Follows g j x (Running b.work b.rest d2) (place_in g a p) t seen) whole (behind j d2 lt (subst (λ k. Reached k d2) all (are.puts done d d2 reached f))))
  bytes_earn (suc left) n done d e reached behind = byte_earns n done d (omega (arith, e)) reached (go (λ j d2 r2 b2. bytes_earn left j (suc done) d2 (omega (arith, e)) r2 b2))
    where
      go : ((j : ℕ) (d2 : Scene) → Reached (suc done) d2 → Behind j (v + 4000 * b.size) → Follows g j (v + 4000 * suc done) (Running (b.item (suc done) ∷ b.work) b.values d2) (place_in g a p) t seen)
          → (j : ℕ) → j < n → (r : Result Scene Why) → b.byte done d ≡ r → Follows g j (v + 4000 * done + 4000) (next_of b done r) (place_in g a p) t seen
      go deep j lt (Err why) f = nothing_follows g why j (v + 4000 * done + 4000) (place_in g a p) t seen
      go deep j lt (Ok d2) f =
          let more : next_of b done (Ok d2) ≡ Running (b.item (suc done) ∷ b.work) b.values d2 = ap (λ (x : Bool). if x then Running (b.item (suc done) ∷ b.work) b.values d2 else Running b.work b.rest d2) (less (suc done) b.size (omega (arith, e))) in
          let whole : v + 4000 * suc done ≡ v + 4000 * done + 4000 = omega arith in
          subst (λ m. Follows g j (v + 4000 * done + 4000) m (place_in g a p) t seen) (sym more)
          (subst (λ x. Follows g j x (Running (b.item (suc done) ∷ b.work) b.values d2) (place_in g a p) t seen) whole
          (deep j d2 (are.puts done d d2 reached f) (λ i d3 less_than r3. behind i d3 (omega (arith, less_than, lt)) r3)))

  -- all steps, of which there is one where there are no bytes
  pub all_earn : (n : ℕ) → Reached 0 c → Behind n (v + 3600 + 16 * b.size) → Follows g n v (Running (b.item 0 ∷ b.work) b.values c) (place_in g a p) t seen
  all_earn n reached behind = go b.size refl
    where
      go : (size : ℕ) → b.size ≡ size → Follows g n v (Running (b.item 0 ∷ b.work) b.values c) (place_in g a p) t seen
      go zero e =
          steps_earn g n v (b.item 0) b.work b.values c (place_in g a p) t seen calm output running turned (λ j lt.
          subst (λ m. Follows g j (v + 4000) m (place_in g a p) t seen) (sym (are.none e))
          (follows_weaken g j (v + 3600 + 16 * b.size) (v + 4000) _ (place_in g a p) t seen (omega (arith, e)) (behind j c lt (subst (λ k. Reached k c) (sym e) reached))))
      go (suc left) e =
          let start : v + 4000 * 0 ≡ v = omega arith in
          subst (λ x. Follows g n x (Running (b.item 0 ∷ b.work) b.values c) (place_in g a p) t seen) start
          (bytes_earn left n 0 c (omega (arith, e)) reached (λ j d lt r. follows_weaken g j (v + 3600 + 16 * b.size) (v + 4000 * b.size) _ (place_in g a p) t seen (omega (arith, e)) (behind j d lt r)))
