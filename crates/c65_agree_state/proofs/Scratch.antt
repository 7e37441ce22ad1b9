-- A scene goes on belonging to a state of which only registers, scratch bytes of the zero page and bytes below the base change.
use Rattle.std.proofs.Common.{◌≡◌, ℕ, zero, suc, ◌+◌, ◌<◌, ◌≤◌, ◌⊎◌, inl, inr, List, [], ◌∷◌, Some, refl, sym, ◌∙◌, arith}
use Rattle.std.specs.Prelude.{length, slice_get}
use Rattle.std.proofs.lemmas.Bool.{cases_lt}
use Rattle.c65_meaning.specs.Store.{Block}
use Rattle.c65_meaning.specs.State.{Scene, hard_sum}
use Rattle.c65_code.specs.declared.code.DataCell.{DataCell}
use Rattle.c65_code.specs.declared.code.DataCell.TheVariants.{Byte, Address}
use Rattle.c65_code.specs.LineState.{State, s_of}
use Rattle.c65_code.specs.Placement.{Placement, IsPlacement, stack_start, bytes_of_cells, cells_size}
use Rattle.c65_agree_store.specs.Stands.{Spot, At, Banked, Placing, Banks, byte_in, IsAt}
use Rattle.c65_agree_store.proofs.Keep.{free_bytes_change}
use Rattle.c65_agree_state.specs.World.{World, Active}
use Rattle.c65_agree_state.specs.Joins.{Joins}
use Rattle.c65_agree_state.specs.Laws.{OnlyScratch, ScratchChanges}

-- ---- literals and const data lie below the software stack

pub first_bytes : (place : Placement) (cells : List DataCell) (n v : ℕ) → slice_get (bytes_of_cells place cells) n ≡ Some v → n < cells_size cells
first_bytes place [] n v e = cc
first_bytes place (Byte b ∷ cells) zero v e = omega arith
first_bytes place (Byte b ∷ cells) (suc n) v e = omega (arith, first_bytes place cells n v e)
first_bytes place (Address sym offset ∷ cells) zero v e = omega arith
first_bytes place (Address sym offset ∷ cells) (suc zero) v e = omega arith
first_bytes place (Address sym offset ∷ cells) (suc (suc n)) v e = omega (arith, first_bytes place cells n v e)

module _ (g : World) (placed : IsPlacement g.code g.place) where
  pub constants_are_low : (n v : ℕ) → g.place.constant n ≡ Some v → n < stack_start
  constants_are_low n v e =
      let d = placed.constant_of n v e in
      omega (arith, first_bytes g.place d.2.cells d.1 v d.6, placed.high d.0 d.2 d.3, d.5)

module _ (g : World) (a : Active) (placed : IsPlacement g.code g.place) (c : Scene) (w : Placing) (k : Banks) (t u : State) (j : Joins g a c w k t) (o : OnlyScratch a.base t u) where
  same_byte : (b : ℕ) (y : Block) (r : Spot) (p : ℕ) → IsAt c.store w b y r → p < y.holds → byte_in u.mem k r p ≡ byte_in t.mem k r p
  same_byte b y (Banked d i) p at lt = refl
  same_byte b y (At n) p at lt = go (cases_lt (n + p) stack_start) (cases_lt (n + p) a.base)
    where
      within : p < y.size
      within = let whole = j.stands.whole b y at.is in omega arith

      go : (n + p < stack_start) ⊎ (stack_start ≤ n + p) → (n + p < a.base) ⊎ (a.base ≤ n + p) → u.mem (n + p) ≡ t.mem (n + p)
      go (inl h) _ = o.mem (n + p) (inl h)
      go (inr h) (inr h2) = o.mem (n + p) (inr h2)
      go (inr h) (inl h2) = absurd (j.above (n + p) h h2 b y (At n) p at within refl)

  stays_joined : Joins g a c w k u
  stays_joined = record {
    stands = free_bytes_change c.store w t.mem u.mem k k j.stands same_byte;
    bank = λ i lt. j.bank i lt ∙ o.bank i lt;
    symbols = j.symbols;
    fixed = j.fixed;
    sizes = j.sizes;
    sized = j.sized;
    fresh = j.fresh;
    homes = j.homes;
    rests = j.rests;
    since = j.since;
    begun = j.begun;
    owned = j.owned;
    active = j.active;
    calls = j.calls;
    as_many = j.as_many;
    above = j.above;
    reached = j.reached;
    constant = λ n v e. o.mem n (inl (constants_are_low g placed n v e)) ∙ j.constant n v e;
    sealed = j.sealed;
    top = j.top;
    asked = j.asked;
    few = j.few;
    few_calls = j.few_calls;
    counted = λ e. o.mem a.base (inr (omega arith)) ∙ j.counted e;
    count_free = j.count_free;
    hard = hard;
    frames = o.frames ∙ j.frames;
    input = o.input ∙ j.input;
    read = j.read;
    output = o.output ∙ j.output;
    ended = o.ended ∙ j.ended;
    bytes = o.bytes;
  }
    where
      hard : 255 ≤ s_of u + length u.pushed + hard_sum c.frames
      hard = rw (o.pushed, o.frames) j.hard

pub scratch_changes : ScratchChanges
scratch_changes g a c w k t u placed j o = stays_joined g a placed c w k t u j o
