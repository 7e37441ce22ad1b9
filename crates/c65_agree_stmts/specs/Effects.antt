-- What the lines of an expression do whose value is not used (C90 6.6.3).
use Rattle.std.specs.Prelude.{ℕ, ◌+◌, ◌<◌, List, ◌∷◌, length}
use Rattle.c65_csem.specs.Trees.{Typed}
use Rattle.c65_csem_need.specs.Needs.{need}
use Rattle.c65_meaning.specs.Store.{Value}
use Rattle.c65_meaning.specs.Items.{Item, plan}
use Rattle.c65_meaning.specs.State.{Scene, Running}
use Rattle.c65_code.specs.declared.line.Line.{Line}
use Rattle.c65_code.specs.LineState.{State}
use Rattle.c65_code.specs.Comes.{Seen}
use Rattle.c65_geneffect.specs.Effects.{effect_code}
use Rattle.c65_agree_store.specs.Stands.{Placing, Banks}
use Rattle.c65_agree_state.specs.World.{World, unit_in, Active, lines_of, place_in, HasAt, HasTurns}
use Rattle.c65_agree_state.specs.Follows.{Follows}
use Rattle.c65_agree_state.specs.Exprs.{Ready, Kept}

module _ (g : World) (a : Active) where
  -- wherever the expression ends, the rest is followed with its value, which need not stand in a register
  abbrev pub RestOfEffect : ℕ → ℕ → List Item → List Value → ℕ → Scene → Placing → Banks → State → Type 0
  RestOfEffect n w k vs p c q b t = (j : ℕ) (v : Value) (c2 : Scene) (q2 : Placing) (b2 : Banks) (u : State) (seen : Seen)
      → j < n → Kept g a c q b t c2 q2 b2 u → HasTurns g c2.turns (place_in g a p) seen
      → Follows g j (w + 2600) (Running k (v ∷ vs) c2) (place_in g a p) u seen

  abbrev pub Effects : (List Item → List Item) → ℕ → ℕ → List Line → Type 0
  Effects work needs pushed lines = (n w p : ℕ) (k : List Item) (vs : List Value) (c : Scene) (q : Placing) (b : Banks) (t : State) (seen : Seen)
      → HasAt (lines_of g a) p lines → Ready g a pushed needs c q b t → HasTurns g c.turns (place_in g a p) seen
      → RestOfEffect n w k vs (p + length lines) c q b t
      → Follows g n w (Running (work k) vs c) (place_in g a p) t seen

  -- the lines of a tree without its value are to do its work
  abbrev pub EffectDoes : Typed → Type 0
  EffectDoes e = (pushed fresh : ℕ) → Effects (plan (unit_in g) e) (need e) pushed (effect_code a.frame pushed fresh e)
