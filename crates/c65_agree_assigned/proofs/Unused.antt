-- The step of an assignment whose value is not used: what lines store, and no register, is asked for.
use Rattle.std.proofs.Common.{◌≡◌, ℕ, ◌+◌, ◌<◌, ◌≤◌, List, ◌∷◌, false, refl, sym, ap, ◌∙◌, subst, arith}
use Rattle.std.specs.Prelude.{Result, Ok, Err, length}
use Rattle.c65_meaning.specs.Why.{Why}
use Rattle.c65_meaning.specs.Store as values
use Rattle.c65_meaning.specs.Store.{Block, Store, Value, Shape, size_in, new_cells, set_block, write}
use Rattle.c65_meaning.specs.Fits.{Fits}
use Rattle.c65_meaning.specs.Items.{Item, Put}
use Rattle.c65_meaning.specs.State.{Scene, Running, with_store}
use Rattle.c65_meaning.specs.Step.{stored, loaded, assigned, go_on}
use Rattle.c65_code.specs.declared.line.Line.{Line}
use Rattle.c65_code.specs.LineState.{State}
use Rattle.c65_code.specs.Comes.{Seen}
use Rattle.c65_agree_store.specs.Stands.{Spot, Placing, Banks, IsAt}
use Rattle.c65_agree_store.specs.Laws.{with_cells}
use Rattle.c65_agree_state.specs.World.{World, Active, lines_of, place_in, HasAt, HasTurns}
use Rattle.c65_agree_state.specs.Follows.{Follows}
use Rattle.c65_agree_state.specs.Exprs.{Ready, Kept}
use Rattle.c65_agree_state.proofs.Followed.{follows_weaken, steps_earn, ready_is_calm}
use Rattle.c65_agree_rows.proofs.Quiet.{nothing_follows}
use Rattle.c65_agree_put.specs.Puts.{with_put}
use Rattle.c65_agree_put.specs.Laws.{IsScalar, IsWrite}
use Rattle.c65_agree_put.proofs.Values.{writes_are_puts}
use Rattle.c65_agree_frame.specs.Leads.{Leads}
use Rattle.c65_agree_assign.specs.Places.{bytes_in, extent_in}
use Rattle.c65_agree_assign.proofs.Assigned.{size_is, put_is}
use Rattle.c65_agree_access.proofs.Putting.{put_back}

module _ (g : World) (a : Active) (pushed needs : ℕ) (f : Shape) (c : Scene) (w : Placing) (k : Banks) (t : State) (b o n weight p : ℕ) (work : List Item) (vs : List Value) (seen : Seen) (ls : List Line) (has : HasAt (lines_of g a) p ls) (r : Ready g a pushed needs c w k t) (scalar : IsScalar f) (turns : HasTurns g c.turns (place_in g a p) seen) (v : Value) (fits : Fits f v) where
  -- the scene in which the value is put
  abbrev put_in : Block → Scene
  put_in x = with_put c b x o (bytes_in (extent_in f)) (new_cells f v x.cells o)

  -- the lines store it, in memory or in regbank
  abbrev pub Stores : Block → State → Type 0
  Stores x u = (later : Banks) × Kept g a c w k t (put_in x) w later u

  module _ (leads : (x : Block) (q : Spot) → IsAt c.store w b x q → x.sealed ≡ false → o + size_in f ≤ x.holds → Leads g a ls 600 t (Stores x))
      (behind : (j : ℕ) (x : Block) (later : Banks) (u : State) (after : Seen) → j < n → Kept g a c w k t (put_in x) w later u → HasTurns g c.turns (place_in g a (p + length ls)) after → Follows g j (weight + 3400) (Running work (v ∷ vs) (put_in x)) (place_in g a (p + length ls)) u after) where
    read_back : (j : ℕ) → j < n → (x : Block) → Leads g a ls 600 t (Stores x) → (s : Result Value Why) → loaded f (put_in x) (values.Place b o) ≡ s → Follows g j (weight + 4000) (go_on s work vs (put_in x)) (place_in g a p) t seen
    read_back j lt x lead (Err why) e = nothing_follows g why j (weight + 4000) (place_in g a p) t seen
    read_back j lt x lead (Ok v2) e =
        let same : v ≡ v2 = sym (put_back f c b o x v v2 scalar fits e) in
        subst (λ z. Follows g j (weight + 4000) (Running work (z ∷ vs) (put_in x)) (place_in g a p) t seen) same
        (follows_weaken g j (600 + (weight + 3400)) (weight + 4000) (Running work (v ∷ vs) (put_in x)) (place_in g a p) t seen (omega arith)
        (lead j (weight + 3400) p c.turns (Running work (v ∷ vs) (put_in x)) seen has turns (λ u after h turned. behind j x h.0 u after lt h.1 turned)))

    is_stored : (j : ℕ) → j < n → (s : Result Store Why) → write false f c.store b o v ≡ s → Follows g j (weight + 4000) (assigned f (values.Place b o) work vs (stored c s)) (place_in g a p) t seen
    is_stored j lt (Err why) e = nothing_follows g why j (weight + 4000) (place_in g a p) t seen
    is_stored j lt (Ok s2) e =
        let i : IsWrite false f c.store b o v s2 = writes_are_puts false f c.store b o v s2 e in
        let there = r.joins.stands.placed b i.block i.is i.live in
        let at : IsAt c.store w b i.block there.0 = record { is = i.is; live = i.live; place = there.1 } in
        let same : s2 ≡ set_block c.store b (with_cells i.block o (bytes_in (extent_in f)) (new_cells f v i.block.cells o)) = i.store ∙ ap (λ y. set_block c.store b (with_cells i.block o y (new_cells f v i.block.cells o))) (size_is f scalar) in
        subst (λ z. Follows g j (weight + 4000) (assigned f (values.Place b o) work vs (Ok (with_store c z))) (place_in g a p) t seen) (sym same)
        (read_back j lt i.block (leads i.block there.0 at (i.may refl) i.fits) (loaded f (put_in i.block) (values.Place b o)) refl)

    pub unused_put : Follows g n weight (Running (Put f ∷ work) (v ∷ values.Place b o ∷ vs) c) (place_in g a p) t seen
    unused_put =
        steps_earn g n weight (Put f) work (v ∷ values.Place b o ∷ vs) c (place_in g a p) t seen (ready_is_calm g a pushed needs c w k t r).calm r.joins.output r.joins.ended (omega (arith, turns))
        (λ j lt. subst (λ s. Follows g j (weight + 4000) (assigned f (values.Place b o) work vs s) (place_in g a p) t seen) (sym (put_is f c b o v scalar fits)) (is_stored j lt (write false f c.store b o v) refl))
