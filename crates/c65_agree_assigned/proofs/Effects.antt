-- Assignments whose value is not used.
use Rattle.std.proofs.Common.{◌≡◌, ℕ, zero, suc, ◌+◌, ◌*◌, ◌%◌, ◌/◌, ◌<◌, ◌≤◌, inl, inr, max, List, ◌∷◌, ◌++◌, length, Option, Some, None, Bool, true, false, refl, sym, ap, ◌∙◌, subst, arith, length-append}
use Rattle.std.specs.Prelude.{◌==◌, if◌then◌else◌, option_and_then}
use Rattle.std.proofs.lemmas.Bool.{eqb-true}
use Rattle.c65_ints.specs.declared.types.IntType.{IntType}
use Rattle.c65_ints.specs.Ranges.{residue}
use Rattle.c65_ctype.specs.Trees.{QTy}
use Rattle.c65_ctype.specs.Views.{types_of}
use Rattle.c65_csem.specs.Trees.{Typed, node, constant, null, literal, object, func, deref, member, load, address, decay, convert, unary, binary, both, either, choice, comma, assign, assign_op, assign_step, step, copy, call, pack, spill, rest}
use Rattle.c65_csem.specs.Places.{is_bit_field}
use Rattle.c65_csem.specs.Typed.{IsTyped}
use Rattle.c65_csem_need.specs.Needs.{need}
use Rattle.c65_meaning.specs.Store as values
use Rattle.c65_meaning.specs.Store.{Cell, Block, Value, Whole, Null, Opaque, Cells, NoValue, Shape, Number, Field, Pointer, Area, size_in, new_cells}
use Rattle.c65_meaning.specs.Fits.{Fits}
use Rattle.c65_meaning.specs.Items.{Item, Put, plan}
use Rattle.c65_meaning.specs.State.{Scene, Running}
use Rattle.c65_code.specs.declared.line.Line.{Line}
use Rattle.c65_code.specs.declared.routine.Width.TheVariants.{Ax}
use Rattle.c65_code.specs.LineState.{State, eax_of, IsBytes}
use Rattle.c65_code.specs.Placement.{IsPlacement}
use Rattle.c65_genload.specs.Numbers.{first, second}
use Rattle.c65_genload.specs.declared.places.Access.{Access}
use Rattle.c65_genload.specs.declared.places.Access.TheVariants as accesses
use Rattle.c65_genload.specs.declared.places.Extent.{Extent}
use Rattle.c65_genload.specs.declared.places.Extent.TheVariants.{One, Two, Three, Four}
use Rattle.c65_genload.specs.declared.places.Place.{Place}
use Rattle.c65_genload.specs.declared.places.Place.TheVariants.{Bank, Near, Data, Far}
use Rattle.c65_genload.specs.Places.{extent_of}
use Rattle.c65_gendirect.specs.Bytes.{number_byte}
use Rattle.c65_gendirect.specs.declared.direct.Direct.TheVariants as directs
use Rattle.c65_genexpr.specs.declared.destination.Destination.TheVariants.{Registers}
use Rattle.c65_genexpr.specs.declared.wanted.Wanted.TheVariants.{Value as wanted_value}
use Rattle.c65_genexpr.specs.Direct.{direct_of}
use Rattle.c65_genexpr.specs.Elements.{element_at}
use Rattle.c65_genexpr.specs.Operands.{residue_of}
use Rattle.c65_genexpr.specs.Operating.{is_light}
use Rattle.c65_genexpr.specs.Places.{place_of}
use Rattle.c65_genexpr.specs.Types.{access_of}
use Rattle.c65_genexpr.specs.Uses.{uses}
use Rattle.c65_genexpr.specs.Code.{expr_code, base_code}
use Rattle.c65_genchange.specs.Changes.{fill_code}
use Rattle.c65_genchange.specs.Spots.{spot_at, target_by}
use Rattle.c65_geneffect.specs.Changing.{number_in, fill_by, filling_at, filling_of}
use Rattle.c65_geneffect.specs.Effects.{effect_code, filled_or, placed_code}
use Rattle.c65_geneffect.specs.Placing.{placing_at}
use Rattle.c65_geneffect.specs.Setting.{setting_by, below_value, base_for, set_by}
use Rattle.c65_geneffect.specs.declared.changing.Fill.{Fill}
use Rattle.c65_agree_store.specs.Stands.{Spot, Placing, Banks, CellIs, IsAt}
use Rattle.c65_agree_store.specs.Laws.{byte_of}
use Rattle.c65_agree_state.specs.World.{World, unit_in, Active, lines_of, place_in, HasTurns}
use Rattle.c65_agree_state.specs.Follows.{Follows}
use Rattle.c65_agree_state.specs.Exprs.{Ready, Kept, Valued, ResultIs, shape_in, width_in, ExpressionDoes}
use Rattle.c65_agree_state.proofs.Followed.{follows_weaken}
use Rattle.c65_agree_state.proofs.Nodes.{has_front, has_back, ready_stays}
use Rattle.c65_agree_state.proofs.Parts.{kept_goes_on}
use Rattle.c65_agree_numbers.proofs.Residues.{word_below}
use Rattle.c65_agree_put.specs.Puts.{IsOwn, MayPut, with_put}
use Rattle.c65_agree_put.specs.Laws.{IsScalar}
use Rattle.c65_agree_put.proofs.Values.{values_are_laid}
use Rattle.c65_agree_assign.specs.Places.{MayHold, bytes_in, extent_in, kind_in}
use Rattle.c65_agree_assign.proofs.Assigned.{size_is}
use Rattle.c65_agree_frame.specs.Leads.{Leads}
use Rattle.c65_agree_direct.specs.Laws.{IsFrameOf}
use Rattle.c65_agree_direct.proofs.Bytes.{constant_byte}
use Rattle.c65_agree_direct.proofs.Spots.{IsKnown}
use Rattle.c65_agree_direct.proofs.Trees.{IsRead, trees_are_read}
use Rattle.c65_agree_direct.proofs.Values.{IsConstant}
use Rattle.c65_agree_stmts.specs.Effects.{Effects}
use Rattle.c65_agree_access.specs.Destinations.{IsToldFor, TellsFor}
use Rattle.c65_agree_access.proofs.Wholes.{places_are_whole}
use Rattle.c65_agree_access.proofs.HeldEnds.{two_narrow}
use Rattle.c65_agree_access.proofs.HeldNodes.{kind_extent}
use Rattle.c65_agree_access.proofs.Nodes.{AreSides, are_sides, told_in_memory}
use Rattle.c65_agree_access.proofs.Putting.{put_at}
use Rattle.c65_agree_access.proofs.Stacked.{own_memory}
use Rattle.c65_agree_assigned.specs.Laws.{IsDestination, AssignmentEffectsDo}
use Rattle.c65_agree_assigned.proofs.Fills.{place_filled}
use Rattle.c65_agree_assigned.proofs.Forms.{banked_told, assignments_do}
use Rattle.c65_agree_assigned.proofs.Unused.{unused_put}

-- ---- the bytes of the number

two_width : (f : Shape) → IsScalar f → extent_in f ≡ Two → width_in f ≡ Ax
two_width (Number kind) scalar two = two_narrow kind two
two_width (Pointer n) scalar two = refl
two_width (Field kind low width) scalar two = absurd scalar
two_width (Area n) scalar two = absurd scalar

module _ (g : World) (a : Active) (c : Scene) (w : Placing) (t : State) (all : IsBytes t) (number : ℕ) where
  -- a state with the word in AX
  abbrev sample : State
  sample = record t { regs = record t.regs { a = first number; x = second number } }

  sample_bytes : IsBytes sample
  sample_bytes = record { a = omega arith; x = omega arith; y = all.y; zp = all.zp; mem = all.mem; pushed = all.pushed; frames = all.frames }

  in_register : (v : Value) → IsConstant g a c w t number v → ResultIs Valued w Ax v sample
  in_register (Whole z) e =
      let low : number % 256 ≡ residue 65536 z % 256 = ap (λ m. number_byte m 0) e ∙ constant_byte Ax z 0 (omega arith) in
      let high : number / 256 % 256 ≡ residue 65536 z / 256 % 256 = ap (λ m. number_byte m 1) e ∙ constant_byte Ax z 1 (omega arith) in
      let below : residue 65536 z < 65536 = word_below Ax z in
      let word : number % 256 + 256 * (number / 256 % 256) ≡ residue 65536 z = omega (arith, low, high, below) in
      word
  in_register Null e = let none : number ≡ 0 = e in let word : number % 256 + 256 * (number / 256 % 256) ≡ 0 = omega (arith, none) in word
  in_register (values.Place b o) e = absurd e
  in_register Opaque e = absurd e
  in_register (Cells xs) e = absurd e
  in_register NoValue e = absurd e

  laid : (f : Shape) (v : Value) (cells : ℕ → Cell) (o : ℕ) → IsScalar f → extent_in f ≡ Two → Fits f v → IsConstant g a c w t number v → first number ≡ second number → (i : ℕ) → i < 2 → CellIs w (new_cells f v cells o i) (first number)
  laid f v cells o scalar two fits is_number same i lt =
      let size : size_in f ≡ 2 = size_is f scalar ∙ ap bytes_in two in
      let result : ResultIs Valued w (width_in f) v sample = subst (λ width. ResultIs Valued w width v sample) (sym (two_width f scalar two)) (in_register v is_number) in
      subst (CellIs w (new_cells f v cells o i)) (byte i lt) (values_are_laid w f v sample cells o i scalar sample_bytes fits result (omega (arith, lt, size)))
    where
      byte : (i : ℕ) → i < 2 → byte_of i (eax_of sample) ≡ first number
      byte zero lt = omega arith
      byte (suc zero) lt = let high : byte_of 1 (eax_of sample) ≡ second number = omega arith in high ∙ sym same
      byte (suc (suc i)) lt = absurd (omega (arith, lt))

-- ---- the assignment

module _ (g : World) (a : Active) (placed : IsPlacement g.code g.place) (f : Shape) (scalar : IsScalar f) (two : extent_in f ≡ Two) (place : Place) (known : IsKnown place) (number left_needs right_needs pushed : ℕ) (same : first number ≡ second number) (work work2 : List Item → List Item) (base : List Line) where
  abbrev end : List Line
  end = fill_code (first number) (spot_at place 0) (spot_at place 1)

  stores : (c : Scene) (w : Placing) (k : Banks) (t : State) → Ready g a pushed right_needs c w k t → (m o : ℕ) → IsToldFor g a place (extent_in f) c w t (values.Place m o) → (v : Value) → Fits f v → IsConstant g a c w t number v
      → (x : Block) (q : Spot) → IsAt c.store w m x q → x.sealed ≡ false → o + size_in f ≤ x.holds → Leads g a end 600 t (λ u. (later : Banks) × Kept g a c w k t (with_put c m x o (bytes_in (extent_in f)) (new_cells f v x.cells o)) w later u)
  stores c w k t ready m o told v fits is_number x q is unsealed inside =
      let size : bytes_in (extent_in f) ≡ 2 = ap bytes_in two in
      let all : size_in f ≡ 2 = size_is f scalar ∙ size in
      let spot = (told.0.1 x q is).1 in
      let may : MayPut g a c w m x q o 2 = record { block = is; fits = omega (arith, inside, all); own = subst (λ n. IsOwn a q o n) size (own_memory g a t place q o (bytes_in (extent_in f)) told.2 spot); writable = inl unsealed } in
      subst (λ n. Leads g a end 600 t (λ u. (later : Banks) × Kept g a c w k t (with_put c m x o n (new_cells f v x.cells o)) w later u)) (sym size)
      (place_filled g a pushed right_needs c w k t m x o (first number) (new_cells f v x.cells o) placed ready (omega arith) (laid g a c w t ready.joins.bytes number f v x.cells o scalar two fits is_number same) place known q may spot (subst (MayHold place) two told.1))

  fill_does : TellsFor g a work left_needs pushed place (extent_in f) base → IsRead g a pushed f work2 (directs.Number number) → Effects g a (λ k. work (work2 (Put f ∷ k))) (max left_needs (1 + right_needs)) pushed (base ++ end)
  fill_does tells reads n weight p k vs c w b s seen has ready turns goes =
      let lines = lines_of g a in
      let ends : p + length base + length end ≡ p + length (base ++ end) = omega (arith, length-append base end) in
      let ready0 : Ready g a pushed left_needs c w b s = record { joins = ready.joins; sp = ready.sp; room = omega (arith, ready.room); none_pushed = ready.none_pushed } in
      tells n weight p (work2 (Put f ∷ k)) vs c w b s seen (has_front lines p base end has) ready0 turns (λ j y c1 w1 b1 s1 seen1 lt kept1 told turned1.
      let ready1 : Ready g a pushed right_needs c1 w1 b1 s1 = ready_stays g a pushed (max left_needs (1 + right_needs)) right_needs c c1 w w1 b b1 s s1 (omega arith) ready kept1 in
      reads right_needs j (weight + 2600) (Put f ∷ k) (y ∷ vs) c1 w1 b1 (place_in g a (p + length base)) s1 seen1 ready1 turned1 (λ i v lt2 fit is_number.
      put_at g a pushed right_needs f c1 w1 b1 s1 i (weight + 2600 + 4000) (p + length base) k vs seen1 ready1 turned1 v y (λ m o is.
      unused_put g a pushed right_needs f c1 w1 b1 s1 m o i (weight + 2600 + 4000) (p + length base) k vs seen1 end (has_back lines p base end has) ready1 scalar turned1 v fit
      (stores c1 w1 b1 s1 ready1 m o (subst (IsToldFor g a place (extent_in f) c1 w1 s1) is told) v fit (is_number right_needs w1 b1 s1 (λ l q same_spot. same_spot) ready1)) (λ l x later u after less kept2 turned2.
      let c4 : Scene = with_put c1 m x o (bytes_in (extent_in f)) (new_cells f v x.cells o) in
      follows_weaken g l (weight + 2600) (weight + 2600 + 4000 + 3400) (Running k (v ∷ vs) c4) (place_in g a (p + length base + length end)) u after (omega arith)
      (subst (λ z. Follows g l (weight + 2600) (Running k (v ∷ vs) c4) (place_in g a z) u after) (sym ends)
      (goes l v c4 w1 later u after (omega (arith, lt, lt2, less)) (kept_goes_on g a c c1 c4 w w1 w1 b b1 later s s1 u kept1 kept2) (subst (λ z. HasTurns g c1.turns (place_in g a z) after) ends turned2)))))))

-- ---- the form

record IsFilled (place : Place) (extent : Extent) (y : Typed) (fill : Fill) : Type 0 where
  number : ℕ
  is : number_in y ≡ Some number
  two : extent ≡ Two
  same : first number ≡ second number
  known : IsKnown place
  fill_is : fill ≡ record { byte = first number; low = spot_at place 0; high = spot_at place 1 }

module _ (place : Place) (y : Typed) (fill : Fill) (known : IsKnown place) where
  by_number : (extent : Extent) (n : ℕ) → number_in y ≡ Some n → option_and_then (fill_by n) (target_by place extent) ≡ Some fill → IsFilled place extent y fill
  by_number One n is e = absurd cc
  by_number Two n is e = go (first n == second n) refl e
    where
      go : (alike : Bool) → (first n == second n) ≡ alike → (if alike then Some (record { byte = first n; low = spot_at place 0; high = spot_at place 1 }) else None) ≡ Some fill → IsFilled place Two y fill
      go true h e = record { number = n; is = is; two = refl; same = eqb-true (first n) (second n) h; known = known; fill_is = sym cc }
      go false h e = absurd cc
  by_number Three n is e = absurd cc
  by_number Four n is e = absurd cc

  at_known : (kind : IntType) (o : Option ℕ) → number_in y ≡ o → filling_at place (accesses.Whole kind) o ≡ Some fill → IsFilled place (extent_of kind) y fill
  at_known kind (Some n) is e = by_number (extent_of kind) n is e
  at_known kind None is e = absurd cc

filled_form : (place : Place) (kind : IntType) (y : Typed) (fill : Fill) → filling_of place (accesses.Whole kind) y ≡ Some fill → IsFilled place (extent_of kind) y fill
filled_form (Far at) kind y fill e = absurd cc
filled_form (Bank at) kind y fill e = at_known (Bank at) y fill tt kind (number_in y) refl e
filled_form (Near at) kind y fill e = at_known (Near at) y fill tt kind (number_in y) refl e
filled_form (Data s at) kind y fill e = at_known (Data s at) y fill tt kind (number_in y) refl e

-- such a number is read as it is
number_read : (a : Active) (pushed number : ℕ) (y : Typed) → number_in y ≡ Some number → direct_of a.frame pushed y ≡ Some (directs.Number number)
number_read a pushed number (node t (constant z)) h = let same : residue_of z ≡ number = cc in ap (λ n. Some (directs.Number n)) same
number_read a pushed number (node t null) h = let same : 0 ≡ number = cc in ap (λ n. Some (directs.Number n)) same
number_read a pushed number (node t (literal n)) h = absurd cc
number_read a pushed number (node t (object i)) h = absurd cc
number_read a pushed number (node t (func i)) h = absurd cc
number_read a pushed number (node t (deref e)) h = absurd cc
number_read a pushed number (node t (member e m)) h = absurd cc
number_read a pushed number (node t (load e)) h = absurd cc
number_read a pushed number (node t (address e)) h = absurd cc
number_read a pushed number (node t (decay e)) h = absurd cc
number_read a pushed number (node t (convert e)) h = absurd cc
number_read a pushed number (node t (unary op e)) h = absurd cc
number_read a pushed number (node t (binary op u v)) h = absurd cc
number_read a pushed number (node t (both u v)) h = absurd cc
number_read a pushed number (node t (either u v)) h = absurd cc
number_read a pushed number (node t (choice u v z)) h = absurd cc
number_read a pushed number (node t (comma u v)) h = absurd cc
number_read a pushed number (node t (assign u v)) h = absurd cc
number_read a pushed number (node t (assign_op op k u v)) h = absurd cc
number_read a pushed number (node t (assign_step op u v)) h = absurd cc
number_read a pushed number (node t (step how e)) h = absurd cc
number_read a pushed number (node t (copy u v)) h = absurd cc
number_read a pushed number (node t (call e es)) h = absurd cc
number_read a pushed number (node t (pack e)) h = absurd cc
number_read a pushed number (node t (spill i e)) h = absurd cc
number_read a pushed number (node t rest) h = absurd cc

-- ---- the whole

module _ (g : World) (a : Active) (t : QTy) (x y : Typed) (placed : IsPlacement g.code g.place) (frame : IsFrameOf g a) (typed : IsTyped (unit_in g) (node t (assign x y))) (plain : is_bit_field (unit_in g).types x ≡ false) (apart : element_at a.frame x ≡ None) (destination : IsDestination g a x) (does : ExpressionDoes g a (node t (assign x y))) (pushed fresh : ℕ) where
  sides : AreSides g a t x y
  sides = are_sides g a t x y typed (places_are_whole g a x frame.parts typed.2 plain)

  abbrev f : Shape
  f = shape_in g a x

  abbrev place : Place
  place = place_of a.frame pushed x

  abbrev base : List Line
  base = base_code a.frame pushed fresh Registers x

  abbrev whole : List Line
  whole = expr_code a.frame pushed fresh wanted_value (node t (assign x y))

  -- by what is kept at the place
  abbrev by_access : Access → List Line
  by_access z =
      let how = setting_by z place (number_in y) (is_light a.frame pushed y) in
      filled_or (filling_of place z y) base (set_by how place (base_code a.frame pushed fresh (base_for how) x) (expr_code a.frame (below_value how pushed place) (fresh + uses None x) wanted_value y) whole)

  lines_are : effect_code a.frame pushed fresh (node t (assign x y)) ≡ filled_or (filling_of place (accesses.Whole (kind_in f)) y) base whole
  lines_are = ap (λ z. placed_code a.frame pushed fresh (placing_at a.frame pushed z x y) x y (by_access (access_of (types_of a.frame.parts.types) x))) apart ∙ ap by_access sides.whole.access

  abbrev AllDo : List Line → Type 0
  AllDo ls = Effects g a (plan (unit_in g) (node t (assign x y))) (need (node t (assign x y))) pushed ls

  whole_does : AllDo whole
  whole_does n w p k vs c q b s seen has r turns goes = does pushed fresh n w p k vs c q b s seen has r turns (λ j v c2 q2 b2 u later lt done turned. goes j v c2 q2 b2 u later lt done.kept turned)

  told : TellsFor g a (plan (unit_in g) x) (need x) pushed place (extent_in f) base
  told = go destination
    where
      go : IsDestination g a x → TellsFor g a (plan (unit_in g) x) (need x) pushed place (extent_in f) base
      go (inl h) = told_in_memory g a (plan (unit_in g) x) (need x) pushed place (extent_in f) base (h.0 pushed fresh)
      go (inr banked) = banked_told g a x banked pushed fresh

  filled_does : (fill : Fill) → filling_of place (accesses.Whole (kind_in f)) y ≡ Some fill → AllDo (base ++ fill_code fill.byte fill.low fill.high)
  filled_does fill e =
      let h : IsFilled place (extent_of (kind_in f)) y fill = filled_form place (kind_in f) y fill e in
      let two : extent_in f ≡ Two = sym (kind_extent f) ∙ h.two in
      let reads : IsRead g a pushed f (plan (unit_in g) y) (directs.Number h.number) = subst (λ z. IsRead g a pushed z (plan (unit_in g) y) (directs.Number h.number)) sides.right (trees_are_read g a pushed placed frame y (directs.Number h.number) typed.1 (number_read a pushed h.number y h.is)) in
      let does_it = fill_does g a placed f sides.whole.scalar two place h.known h.number (need x) (need y) pushed h.same (plan (unit_in g) x) (plan (unit_in g) y) base told reads in
      subst (λ (z : Fill). AllDo (base ++ fill_code z.byte z.low z.high)) (sym h.fill_is)
      (subst (λ z. Effects g a (λ k. plan (unit_in g) x (plan (unit_in g) y (Put z ∷ k))) (max (need x) (1 + need y)) pushed (base ++ fill_code (first h.number) (spot_at place 0) (spot_at place 1))) (sym sides.whole.shape) does_it)

  by_filling : (o : Option Fill) → filling_of place (accesses.Whole (kind_in f)) y ≡ o → AllDo (filled_or o base whole)
  by_filling None e = whole_does
  by_filling (Some fill) e = filled_does fill e

  effect_does : AllDo (effect_code a.frame pushed fresh (node t (assign x y)))
  effect_does = subst AllDo (sym lines_are) (by_filling (filling_of place (accesses.Whole (kind_in f)) y) refl)

pub assignment_effects_do : AssignmentEffectsDo
assignment_effects_do g a t x y placed frame typed plain apart located destination value pushed fresh =
    effect_does g a t x y placed frame typed plain apart destination (assignments_do g a t x y placed frame typed plain located destination value) pushed fresh
