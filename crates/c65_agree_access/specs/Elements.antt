-- Elements of small arrays, of which the low byte of the index says all (C90 6.3.2.1, 6.3.6).
use Rattle.std.specs.Prelude.{◌≡◌, ℕ, ◌+◌, ◌*◌, ◌%◌, ◌<◌, ◌≤◌, List, ◌∷◌, Some, length}
use Rattle.c65_ints.specs.declared.types.IntType.{IntType}
use Rattle.c65_ctype.specs.Trees.{type_in}
use Rattle.c65_ctype.specs.Sizes.{size_of}
use Rattle.c65_csem.specs.Trees.{Typed, node, object, decay}
use Rattle.c65_csem_need.specs.Needs.{need}
use Rattle.c65_meaning.specs.Store as values
use Rattle.c65_meaning.specs.Store.{Value, Number, block_size}
use Rattle.c65_meaning.specs.Items.{Item, plan}
use Rattle.c65_meaning.specs.Shapes.{object_in, object_size}
use Rattle.c65_meaning.specs.State.{Scene, Running}
use Rattle.c65_code.specs.declared.line.Line.{Line}
use Rattle.c65_code.specs.LineState.{State}
use Rattle.c65_code.specs.Comes.{Seen}
use Rattle.c65_genexpr.specs.declared.elements.Element.{Element}
use Rattle.c65_genexpr.specs.Elements.{element_of}
use Rattle.c65_genexpr.specs.Code.{low_value_code, index_code}
use Rattle.c65_agree_store.specs.Stands.{At, Placing, Banks}
use Rattle.c65_agree_state.specs.World.{World, unit_in, Active, lines_of, place_in, HasAt, HasTurns}
use Rattle.c65_agree_state.specs.Follows.{Follows}
use Rattle.c65_agree_state.specs.Exprs.{Ready, Kept, shape_in}
use Rattle.c65_agree_operate.specs.Manners.{Manner, IsLeft}
use Rattle.c65_agree_order.specs.Bytes.{Any, LowsIn}

-- The place lies in an array of at most 256 bytes, which stands at the element's symbol, as far behind the start of one of its elements as
-- the part does; A has the low byte of how many elements come before that one.
pub record IsIndexed (g : World) (x : Element) (c : Scene) (w : Placing) (t : State) (b o : ℕ) : Type 0 where
  pub start : ℕ
  pub low : (t.regs.a * x.size) % 256 ≡ start % 256
  pub stands : w b ≡ Some (At (g.place.address x.sym.0))
  pub small : block_size c.store b ≤ 256
  pub within : o ≤ block_size c.store b
  pub offset : o ≡ start + x.at
  pub narrow : x.size < 65536

-- if the value is a place, it is the element's
abbrev pub IsElement : World → Element → Scene → Placing → State → Value → Type 0
IsElement g x c w t (values.Place b o) = IsIndexed g x c w t b o
IsElement g x c w t v = Unit {0}

-- a name of a whole object has a type of as many bytes as the object, if of any: an array may be named before its size is known
abbrev pub HasOwnSize : World → Typed → Type 0
HasOwnSize g (node t (object i)) = 0 < size_of (unit_in g).types (type_in t) → size_of (unit_in g).types (type_in t) ≡ object_size (unit_in g).types (object_in (unit_in g) i)
HasOwnSize g (node t _) = Unit {0}

-- so it has as an array
abbrev pub IsOwnArray : World → Typed → Type 0
IsOwnArray g (node t (decay e)) = HasOwnSize g e
IsOwnArray g (node t _) = Unit {0}

module _ (g : World) (a : Active) (m : Manner) where
  -- the lines of a number's low byte do the tree's work
  abbrev pub LowDoes : Typed → Type 0
  LowDoes e = (kind : IntType) (pushed fresh : ℕ) → shape_in g a e ≡ Number kind → LowsIn g a m Any kind (plan (unit_in g) e) (need e) pushed (low_value_code a.frame pushed fresh e)

  -- lines do the work of a tree, and behind them its place is that of the element
  abbrev pub TellsElement : (List Item → List Item) → ℕ → ℕ → Element → List Line → Type 0
  TellsElement work needs pushed x lines = (n w p : ℕ) (k : List Item) (vs : List Value) (c : Scene) (q : Placing) (b : Banks) (t : State) (seen : Seen)
      → HasAt (lines_of g a) p lines → Ready g a pushed needs c q b t → HasTurns g c.turns (place_in g a p) seen
      → ((j : ℕ) (v : Value) (c2 : Scene) (q2 : Placing) (b2 : Banks) (u : State) (later : Seen)
      → j < n → Kept g a c q b t c2 q2 b2 u → IsElement g x c2 q2 u v → IsLeft m c t c2 u → HasTurns g c2.turns (place_in g a (p + length lines)) later
      → Follows g j (w + 6000 + m.over) (Running k (v ∷ vs) c2) (place_in g a (p + length lines)) u later)
      → Follows g n w (Running (work k) vs c) (place_in g a p) t seen

  -- so do the lines of its index
  abbrev pub ElementDoes : Typed → Type 0
  ElementDoes e = (x : Element) (pushed fresh : ℕ) → element_of a.frame e ≡ Some x → TellsElement (plan (unit_in g) e) (need e) pushed x (index_code a.frame pushed fresh e)
