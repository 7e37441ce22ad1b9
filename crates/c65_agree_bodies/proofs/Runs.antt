-- What is known of a run does not hang on how many of its steps are spoken of.
use Rattle.std.proofs.Common.{◌≡◌, ℕ, suc, ◌+◌, ◌≤◌, List, [], ◌∷◌, ◌++◌, Option, Some, None, refl, sym, ap, ◌∙◌, arith}
use Rattle.c65_csem.specs.declared.items.TFunc.{TFunc}
use Rattle.c65_csem.specs.Trees.{Stmt}
use Rattle.c65_csem.specs.Views.{func_of}
use Rattle.c65_meaning.specs.State as meaning
use Rattle.c65_meaning.specs.State.{Scene, Undefined, Deep, Ended, Running}
use Rattle.c65_meaning.specs.Step.{steps}
use Rattle.c65_code.specs.LineState.{Place, State}
use Rattle.c65_code.specs.Placement.{Setting}
use Rattle.c65_code.specs.Comes.{Seen, Comes, here, on}
use Rattle.c65_genframe.specs.declared.home.Home.{Home}
use Rattle.c65_genframe.specs.declared.home.Home.TheVariants as homes
use Rattle.c65_genframe.specs.Frames.{home_of}
use Rattle.c65_agree_store.specs.Stands.{Placing, Banks}
use Rattle.c65_agree_lines.specs.Turns.{Turn}
use Rattle.c65_agree_state.specs.World.{World, program_in, setting_in, Active}
use Rattle.c65_agree_state.specs.Joins.{Joins, home_spot, spot_of}
use Rattle.c65_agree_state.specs.Follows.{Agrees, Follows}
use Rattle.c65_agree_between.specs.Stmts.{Between}
use Rattle.c65_agree_homes.specs.Turns.{function_turns, heads_of, owns_by, owns_of, all_heads, all_owns, CountsTurns}
use Rattle.c65_agree_bodies.specs.Bodies.{for_steps}

-- ---- what is followed

-- ways that come to a moment come to what holds there
comes_to : (s : Setting) (P Q : Place → State → Seen → Type 0) → ((q : Place) (u : State) (later : Seen) → P q u later → Q q u later)
    → {w : ℕ} {p : Place} {t : State} {seen : Seen} → Comes s P w p t seen → Comes s Q w p t seen
comes_to s P Q f {p = p} {t = t} {seen = seen} (here h calm) = here (f p t seen h) calm
comes_to s P Q f (on {v = v} l there steady c weight le q u move goes) = on {v = v} l there steady c weight le q u move (λ r z m. comes_to s P Q f (goes r z m))

module _ (g : World) (m n : ℕ) where
  agrees_still : (s : meaning.State) (p : Place) (t : State) (seen : Seen) → Agrees (for_steps m g) s p t seen → Agrees (for_steps n g) s p t seen
  agrees_still (Undefined why) p t seen h = h
  agrees_still Deep p t seen h = h
  agrees_still (Ended out status turns) p t seen h = h
  agrees_still (Running work values c) p t seen h = h

  pub follows_still : (i w : ℕ) (s : meaning.State) (p : Place) (t : State) (seen : Seen) → i ≤ m → Follows (for_steps m g) i w s p t seen → Follows (for_steps n g) i w s p t seen
  follows_still i w s p t seen le f d =
      comes_to (setting_in g) (Agrees (for_steps m g) (steps (program_in g) i s)) (Agrees (for_steps n g) (steps (program_in g) i s)) (agrees_still (steps (program_in g) i s)) (f (le, d.1))

  -- ---- scenes and states

  spot_still : (a : Active) (i : ℕ) (o : Option Home) → home_spot (for_steps m g) a i o ≡ home_spot (for_steps n g) a i o
  spot_still a i None = refl
  spot_still a i (Some (homes.Bank b)) = refl
  spot_still a i (Some (homes.Soft d)) = refl

  pub joins_still : (a : Active) (c : Scene) (w : Placing) (k : Banks) (t : State) → Joins (for_steps m g) a c w k t → Joins (for_steps n g) a c w k t
  joins_still a c w k t j = record {
    stands = j.stands;
    bank = j.bank;
    symbols = record { funcs = j.symbols.funcs; literals = j.symbols.literals; objects = j.symbols.objects };
    fixed = record { own = j.fixed.own; objects = j.fixed.objects; once = j.fixed.once };
    sizes = j.sizes;
    sized = j.sized;
    fresh = j.fresh;
    homes = λ i b e. j.homes i b e ∙ ap Some (spot_still a i (home_of a.frame i));
    rests = j.rests;
    since = j.since;
    begun = j.begun;
    owned = j.owned;
    active = j.active;
    calls = j.calls;
    as_many = j.as_many;
    above = j.above;
    reached = j.reached;
    constant = j.constant;
    sealed = j.sealed;
    top = j.top;
    asked = j.asked;
    few = j.few;
    hard = j.hard;
    few_calls = j.few_calls;
    counted = j.counted;
    count_free = j.count_free;
    frames = j.frames;
    input = j.input;
    read = j.read;
    output = j.output;
    ended = j.ended;
    bytes = j.bytes;
  }

  pub between_still : (a : Active) (needs : ℕ) (scope : List ℕ) (c : Scene) (w : Placing) (k : Banks) (t : State) → Between (for_steps m g) a needs scope c w k t → Between (for_steps n g) a needs scope c w k t
  between_still a needs scope c w k t h = record { joins = joins_still a c w k t h.joins; sp = h.sp; room = h.room; scoped = h.scoped; sized = h.sized; call = h.call; none_pushed = h.none_pushed }

-- ---- turns

module _ (g : World) (n : ℕ) where
  heads_still : (i : ℕ) (fs : List TFunc) → all_heads g i fs ≡ all_heads (for_steps n g) i fs
  heads_still i [] = refl
  heads_still i (f ∷ fs) = ap (λ rest. heads_of g i (func_of f) ++ rest) (heads_still (suc i) fs)

  own_still : (i : ℕ) (body : Option Stmt) (ts : List Turn) → owns_by g i body ts ≡ owns_by (for_steps n g) i body ts
  own_still i None ts = refl
  own_still i (Some body) ts = refl

  owns_still : (i : ℕ) (fs : List TFunc) → all_owns g i fs ≡ all_owns (for_steps n g) i fs
  owns_still i [] = refl
  owns_still i (f ∷ fs) =
      ap (λ rest. owns_of g i (func_of f) ++ rest) (owns_still (suc i) fs)
      ∙ ap (λ own. own ++ all_owns (for_steps n g) (suc i) fs) (own_still i (func_of f).body (function_turns g.parts g.modes (func_of f)))

  pub turns_still : CountsTurns g → CountsTurns (for_steps n g)
  turns_still h = record { heads = h.heads ∙ heads_still 0 g.parts.funcs.items; owns = h.owns ∙ owns_still 0 g.parts.funcs.items }
