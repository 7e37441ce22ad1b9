-- The steps of a place that a tree names without a sum take no lines.
use Rattle.std.proofs.Common.{◌≡◌, ℕ, ◌+◌, ◌<◌, ◌≤◌, List, ◌∷◌, Option, Some, None, Bool, true, false, refl, sym, ap, ◌∙◌, subst, arith}
use Rattle.std.specs.Prelude.{nat_le, if◌then◌else◌, Ok, Err, length}
use Rattle.std.proofs.lemmas.Bool.Decides.{nat_tests}
use Rattle.c65_ctype.specs.Trees.{MemberTy}
use Rattle.c65_ctype.specs.Views.{types_of}
use Rattle.c65_csem.specs.Trees.{Typed, node, constant, null, literal, object, func, deref, member, load, address, decay, convert, unary, binary, both, either, choice, comma, assign, assign_op, assign_step, step, copy, call, pack, spill, rest}
use Rattle.c65_csem.specs.Places.{member_at}
use Rattle.c65_csem.specs.Typed.{IsTyped}
use Rattle.c65_csem.specs.Views.{object_of}
use Rattle.c65_meaning.specs.declared.action.Action.TheVariants.{EndedObject, OffsetOutside}
use Rattle.c65_meaning.specs.Why.{Unfit, By}
use Rattle.c65_meaning.specs.Store.{Value, is_live, block_size}
use Rattle.c65_meaning.specs.Store as values
use Rattle.c65_meaning.specs.Items.{Item, Push, Name, Follow, Move, Keep, plan}
use Rattle.c65_meaning.specs.Shapes.{bare_type, offset_of, literal_block, object_block, object_in, lives_in_frame}
use Rattle.c65_meaning.specs.State.{Scene, Running, block_in}
use Rattle.c65_meaning.specs.Step as steps
use Rattle.c65_meaning.specs.Step.{go_on, perform}
use Rattle.c65_code.specs.LineState.{Place as Spot, State}
use Rattle.c65_code.specs.Comes.{Seen}
use Rattle.c65_genframe.specs.Symbols.{numbers_of, literal_symbol}
use Rattle.c65_genload.specs.declared.places.Place.{Place}
use Rattle.c65_genload.specs.declared.places.Place.TheVariants.{Data}
use Rattle.c65_genexpr.specs.Types.{offset_in}
use Rattle.c65_genexpr.specs.Places.{place_at, object_place, place_of, is_plain, moved}
use Rattle.c65_agree_store.specs.Stands.{Placing, Banks}
use Rattle.c65_agree_state.specs.World.{World, unit_in, program_in, Active, HasTurns}
use Rattle.c65_agree_state.specs.Follows.{Follows}
use Rattle.c65_agree_state.specs.Exprs.{Ready}
use Rattle.c65_agree_state.proofs.Followed.{follows_weaken, steps_earn, ready_is_calm}
use Rattle.c65_agree_rows.proofs.Quiet.{nothing_follows}
use Rattle.c65_agree_direct.specs.Laws.{IsFrameOf}
use Rattle.c65_agree_direct.proofs.Spots.{item_below, mapped_below, IsKnown, LiesThere, literal_lies, lasting_lies, object_lies, known_whole, live_block, part_lies}

-- one step where nothing is done by lines
pub step_goes : (g : World) (a : Active) (pushed needs n weight : ℕ) (i : Item) (k : List Item) (vs : List Value) (c : Scene) (w : Placing) (b : Banks) (p : Spot) (t : State) (seen : Seen)
    → Ready g a pushed needs c w b t → HasTurns g c.turns p seen
    → ((j : ℕ) → j < n → Follows g j (weight + 4000) (perform (program_in g) i k vs c) p t seen) → Follows g n weight (Running (i ∷ k) vs c) p t seen
step_goes g a pushed needs n weight i k vs c w b p t seen r turns later =
    steps_earn g n weight i k vs c p t seen (ready_is_calm g a pushed needs c w b t r).calm r.joins.output r.joins.ended (omega (arith, turns)) later

-- behind a first step
pub behind_goes : (g : World) (a : Active) (pushed needs n weight : ℕ) (i : Item) (k : List Item) (vs : List Value) (c : Scene) (w : Placing) (b : Banks) (p : Spot) (t : State) (seen : Seen)
    → Ready g a pushed needs c w b t → HasTurns g c.turns p seen
    → ((j : ℕ) → j < n → Follows g j (weight + 4000) (perform (program_in g) i k vs c) p t seen) → Follows g n (weight + 4000) (Running (i ∷ k) vs c) p t seen
behind_goes g a pushed needs n weight i k vs c w b p t seen r turns later =
    step_goes g a pushed needs n (weight + 4000) i k vs c w b p t seen r turns (λ j lt. follows_weaken g j (weight + 4000) (weight + 4000 + 4000) (perform (program_in g) i k vs c) p t seen (omega arith) (later j lt))

-- the work of a place: what is followed with it goes on from before the work
abbrev pub PlaceIsRead : World → Active → ℕ → (List Item → List Item) → Place → Type 0
PlaceIsRead g a pushed work place = (needs n weight : ℕ) (k : List Item) (vs : List Value) (c : Scene) (w : Placing) (b : Banks) (p : Spot) (t : State) (seen : Seen)
    → Ready g a pushed needs c w b t → HasTurns g c.turns p seen
    → ((j m o : ℕ) → j < n → LiesThere g a c w t place m o → Follows g j (weight + 4000) (Running k (values.Place m o ∷ vs) c) p t seen)
    → Follows g n weight (Running (work k) vs c) p t seen

module _ (g : World) (a : Active) (pushed : ℕ) (frame : IsFrameOf g a) where
  literal_read : (l : ℕ) → l < length g.parts.literals.items → PlaceIsRead g a pushed (λ k. Push (values.Place (literal_block (unit_in g) l) 0) ∷ k) (Data (literal_symbol (numbers_of g.parts) l) 0)
  literal_read l lt needs n weight k vs c w b p t seen r turns later =
      step_goes g a pushed needs n weight (Push (values.Place (literal_block (unit_in g) l) 0)) k vs c w b p t seen r turns (λ j less. later j (literal_block (unit_in g) l) 0 less (literal_lies g a pushed needs c w b t r l lt))

  object_read : (i : ℕ) → i < length g.parts.objects.items → IsKnown (object_place a.frame pushed i) → PlaceIsRead g a pushed (λ k. Name i ∷ k) (object_place a.frame pushed i)
  object_read i lt known needs n weight k vs c w b p t seen r turns later =
      step_goes g a pushed needs n weight (Name i) k vs c w b p t seen r turns (λ j less. go j less (lives_in_frame (object_in (unit_in g) i)) refl)
    where
      own : (j : ℕ) → j < n → (m : Option ℕ) → block_in c.frames i ≡ m → Follows g j (weight + 4000) (go_on (steps.place_in m) k vs c) p t seen
      own j less None e = nothing_follows g Unfit j (weight + 4000) p t seen
      own j less (Some m) e = later j m 0 less (object_lies g a pushed needs c w b t r i m e known)

      go : (j : ℕ) → j < n → (lives : Bool) → lives_in_frame (object_in (unit_in g) i) ≡ lives → Follows g j (weight + 4000) (go_on (if lives then steps.place_in (block_in c.frames i) else Ok (values.Place (object_block (unit_in g) i) 0)) k vs c) p t seen
      go j less true e = own j less (block_in c.frames i) refl
      go j less false e =
          let home : object_place a.frame pushed i ≡ place_at a.frame pushed i None = ap (place_at a.frame pushed i) (frame.lasting i e) in
          later j (object_block (unit_in g) i) 0 less (subst (λ l. LiesThere g a c w t l (object_block (unit_in g) i) 0) (sym home) (lasting_lies g a pushed needs c w b t r i e lt))

  part_read : (work : List Item → List Item) (place : Place) (off : ℕ) → IsKnown (moved place off) → PlaceIsRead g a pushed work place → PlaceIsRead g a pushed (λ k. work (Move off ∷ k)) (moved place off)
  part_read work place off known whole needs n weight k vs c w b p t seen r turns later =
      whole needs n weight (Move off ∷ k) vs c w b p t seen r turns (λ j m o lt lies.
      behind_goes g a pushed needs j weight (Move off) k (values.Place m o ∷ vs) c w b p t seen r turns (λ i less. go i (omega (arith, less, lt)) m o lies (is_live c.store m) refl (nat_le (o + off) (block_size c.store m)) refl))
    where
      go : (i : ℕ) → i < n → (m o : ℕ) → LiesThere g a c w t place m o → (live : Bool) → is_live c.store m ≡ live → (inside : Bool) → nat_le (o + off) (block_size c.store m) ≡ inside
          → Follows g i (weight + 4000) (go_on (if live then (if inside then Ok (values.Place m (o + off)) else Err (By OffsetOutside)) else Err (By EndedObject)) k vs c) p t seen
      go i lt m o lies false e inside f = nothing_follows g (By EndedObject) i (weight + 4000) p t seen
      go i lt m o lies true e false f = nothing_follows g (By OffsetOutside) i (weight + 4000) p t seen
      go i lt m o lies true e true f =
          let l = live_block c.store m e in
          let le : o + off ≤ block_size c.store m = grind (arith, nat_tests) in
          later i m (o + off) lt (part_lies g a c w b t r.joins m o off l (omega (arith, le, l.size)) place known lies)

  target_read : (work : List Item → List Item) (place : Place) → PlaceIsRead g a pushed work place → PlaceIsRead g a pushed (λ k. work (Keep ∷ Follow ∷ k)) place
  target_read work place whole needs n weight k vs c w b p t seen r turns later =
      whole needs n weight (Keep ∷ Follow ∷ k) vs c w b p t seen r turns (λ j m o lt lies.
      behind_goes g a pushed needs j weight Keep (Follow ∷ k) (values.Place m o ∷ vs) c w b p t seen r turns (λ i less.
      behind_goes g a pushed needs i weight Follow k (values.Place m o ∷ vs) c w b p t seen r turns (λ h fewer. go h (omega (arith, lt, less, fewer)) m o lies (is_live c.store m))))
    where
      go : (h : ℕ) → h < n → (m o : ℕ) → LiesThere g a c w t place m o → (live : Bool) → Follows g h (weight + 4000) (go_on (if live then Ok (values.Place m o) else Err (By EndedObject)) k vs c) p t seen
      go h lt m o lies true = later h m o lt lies
      go h lt m o lies false = nothing_follows g (By EndedObject) h (weight + 4000) p t seen

  same_offset : (m : Option MemberTy) → offset_in m ≡ offset_of m
  same_offset None = refl
  same_offset (Some m) = refl

  pub places_are_read : (e : Typed) → is_plain e ≡ true → IsTyped (unit_in g) e → IsKnown (place_of a.frame pushed e) → PlaceIsRead g a pushed (plan (unit_in g) e) (place_of a.frame pushed e)
  places_are_read (node t (literal l)) plain typed known =
      subst (λ parts. PlaceIsRead g a pushed (plan (unit_in g) (node t (literal l))) (Data (literal_symbol (numbers_of parts) l) 0)) (sym frame.parts) (literal_read l (item_below g.parts.literals.items l typed.0 typed.1))
  places_are_read (node t (object i)) plain typed known = object_read i (mapped_below object_of g.parts.objects.items i typed.0 typed.1) known
  places_are_read (node t (member e m)) plain typed known =
      let off : ℕ = offset_of (member_at (unit_in g).types (bare_type e) m) in
      let same : offset_in (member_at (types_of a.frame.parts.types) (bare_type e) m) ≡ off = ap (λ parts. offset_in (member_at (types_of parts.types) (bare_type e) m)) frame.parts ∙ same_offset (member_at (unit_in g).types (bare_type e) m) in
      let whole : Place = place_of a.frame pushed e in
      let known_there : IsKnown (moved whole off) = subst (λ n. IsKnown (moved whole n)) same known in
      subst (λ n. PlaceIsRead g a pushed (plan (unit_in g) (node t (member e m))) (moved whole n)) (sym same)
      (part_read (plan (unit_in g) e) whole off known_there (places_are_read e plain typed.0 (known_whole whole off known_there)))
  places_are_read (node t (deref (node s (address e)))) plain typed known = target_read (plan (unit_in g) e) (place_of a.frame pushed e) (places_are_read e plain typed.0.0 known)
  places_are_read (node t (deref (node s (decay e)))) plain typed known = target_read (plan (unit_in g) e) (place_of a.frame pushed e) (places_are_read e plain typed.0.0 known)
  places_are_read (node t (deref (node s (constant z)))) plain typed known = absurd known
  places_are_read (node t (deref (node s null))) plain typed known = absurd known
  places_are_read (node t (deref (node s (literal l)))) plain typed known = absurd known
  places_are_read (node t (deref (node s (object i)))) plain typed known = absurd known
  places_are_read (node t (deref (node s (func i)))) plain typed known = absurd known
  places_are_read (node t (deref (node s (deref e)))) plain typed known = absurd known
  places_are_read (node t (deref (node s (member e m)))) plain typed known = absurd known
  places_are_read (node t (deref (node s (load e)))) plain typed known = absurd known
  places_are_read (node t (deref (node s (convert e)))) plain typed known = absurd known
  places_are_read (node t (deref (node s (unary op e)))) plain typed known = absurd known
  places_are_read (node t (deref (node s (binary op x y)))) plain typed known = cc
  places_are_read (node t (deref (node s (both x y)))) plain typed known = absurd known
  places_are_read (node t (deref (node s (either x y)))) plain typed known = absurd known
  places_are_read (node t (deref (node s (choice x y z)))) plain typed known = absurd known
  places_are_read (node t (deref (node s (comma x y)))) plain typed known = absurd known
  places_are_read (node t (deref (node s (assign x y)))) plain typed known = absurd known
  places_are_read (node t (deref (node s (assign_op op k x y)))) plain typed known = absurd known
  places_are_read (node t (deref (node s (assign_step op x y)))) plain typed known = absurd known
  places_are_read (node t (deref (node s (step how e)))) plain typed known = absurd known
  places_are_read (node t (deref (node s (copy x y)))) plain typed known = absurd known
  places_are_read (node t (deref (node s (call e es)))) plain typed known = absurd known
  places_are_read (node t (deref (node s (pack e)))) plain typed known = absurd known
  places_are_read (node t (deref (node s (spill i e)))) plain typed known = absurd known
  places_are_read (node t (deref (node s rest))) plain typed known = absurd known
  places_are_read (node t (constant z)) plain typed known = absurd known
  places_are_read (node t null) plain typed known = absurd known
  places_are_read (node t (func i)) plain typed known = absurd known
  places_are_read (node t (load e)) plain typed known = absurd known
  places_are_read (node t (address e)) plain typed known = absurd known
  places_are_read (node t (decay e)) plain typed known = absurd known
  places_are_read (node t (convert e)) plain typed known = absurd known
  places_are_read (node t (unary op e)) plain typed known = absurd known
  places_are_read (node t (binary op x y)) plain typed known = absurd known
  places_are_read (node t (both x y)) plain typed known = absurd known
  places_are_read (node t (either x y)) plain typed known = absurd known
  places_are_read (node t (choice x y z)) plain typed known = absurd known
  places_are_read (node t (comma x y)) plain typed known = absurd known
  places_are_read (node t (assign x y)) plain typed known = absurd known
  places_are_read (node t (assign_op op k x y)) plain typed known = absurd known
  places_are_read (node t (assign_step op x y)) plain typed known = absurd known
  places_are_read (node t (step how e)) plain typed known = absurd known
  places_are_read (node t (copy x y)) plain typed known = absurd known
  places_are_read (node t (call e es)) plain typed known = absurd known
  places_are_read (node t (pack e)) plain typed known = absurd known
  places_are_read (node t (spill i e)) plain typed known = absurd known
  places_are_read (node t rest) plain typed known = absurd known
