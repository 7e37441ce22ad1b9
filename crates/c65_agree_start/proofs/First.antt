-- The first store stands where main begins.
use Rattle.std.proofs.Common.{◌≡◌, ℕ, zero, suc, ◌+◌, ◌-◌, ◌<◌, ◌≤◌, ◌⊎◌, inl, inr, Bool, true, false, List, [], ◌∷◌, Some, None, refl, sym, ap, ◌∙◌, subst, arith}
use Rattle.std.specs.Prelude.{length, slice_get, map, not, ◌==◌, if◌then◌else◌}
use Rattle.c65_csem.specs.declared.items.TFunc.{TFunc}
use Rattle.c65_csem.specs.Views.{object_of, func_of}
use Rattle.c65_meaning.specs.Shapes.{literal_block, object_block, first_block, object_in, lives_in_frame}
use Rattle.c65_meaning.specs.Start.{initial_store, first_store, first_scene}
use Rattle.c65_meaning.specs.Step.{params_of}
use Rattle.c65_code.specs.LineState.{State, sp_of}
use Rattle.c65_code.specs.Placement.{stack_start, stack_end}
use Rattle.c65_code.specs.Starts.{IsMainCalled, list_start}
use Rattle.c65_genstmt.specs.Programs.{has_params}
use Rattle.c65_agree_store.specs.Stands.{At, IsFree, beyond}
use Rattle.c65_agree_state.specs.World.{World, unit_in}
use Rattle.c65_agree_state.specs.Fixed.{symbol_at}
use Rattle.c65_agree_state.specs.Joins.{HaveSymbols}
use Rattle.c65_agree_state.proofs.Scratch.{constants_are_low}
use Rattle.c65_agree_numbers.proofs.Tests.{not_less, unequal}
use Rattle.c65_agree_data.proofs.Lists.{item_at}
use Rattle.c65_agree_start.specs.First.{object_spot, program_spot, text_spot, argument_spot, argument_spot_if, first_placing, arguments_from, HasBegun}
use Rattle.c65_agree_start.specs.Laws.{TheFirstStoreStands}
use Rattle.c65_agree_start.proofs.Given.{is_code, length_mapped, Given}
use Rattle.c65_agree_start.proofs.Blocks.{func_spot, literal_spot, lasting_spot}
use Rattle.c65_agree_start.proofs.Held.{StandsFrom}
use Rattle.c65_agree_start.proofs.Program.{program_place, program_stands}
use Rattle.c65_agree_start.proofs.Arguments.{arguments_stand}

-- ---- whether main takes arguments

empty_or : (xs : List ℕ) → (xs ≡ []) ⊎ ((x : ℕ) × (rest : List ℕ) × (xs ≡ x ∷ rest))
empty_or [] = inl refl
empty_or (x ∷ xs) = inr (x, xs, refl)

params_are : (fs : List TFunc) (k : ℕ) (taken : Bool) → has_params (slice_get fs k) ≡ taken → (params_of (slice_get (map func_of fs) k) ≡ [] → taken ≡ false) × ((x : ℕ) (rest : List ℕ) → params_of (slice_get (map func_of fs) k) ≡ x ∷ rest → taken ≡ true)
params_are [] k taken e = (λ f. sym e, λ x rest f. cc)
params_are (f ∷ fs) zero taken e = (λ h. sym e ∙ ap (λ (xs : List ℕ). not (length xs == 0)) h, λ x rest h. sym e ∙ ap (λ (xs : List ℕ). not (length xs == 0)) h ∙ ap not (unequal (length (x ∷ rest)) 0 (λ z. omega (arith, z))))
params_are (f ∷ fs) (suc k) taken e = params_are fs k taken e

-- no block has a text behind the last
no_more_texts : (args : List (List ℕ)) (from i : ℕ) → length args ≤ i → text_spot args from i ≡ None
no_more_texts [] from i le = refl
no_more_texts (arg ∷ args) from zero le = absurd (omega (arith, le))
no_more_texts (arg ∷ args) from (suc i) le = no_more_texts args (from - (length arg + 1)) i (omega (arith, le))

module _ (g : World) (names args : List (List ℕ)) (input : List ℕ) (free : Bool) (t : State) (h : Given g names args input t) where
  abbrev params : List ℕ
  params = params_of (slice_get (unit_in g).funcs g.main)

  -- behind the blocks of the program
  place_behind : (j : ℕ) → first_placing g args (first_block (unit_in g) + j) ≡ argument_spot_if g.code.main_args args j
  place_behind j =
      let b = first_block (unit_in g) + j in
      let back : b - first_block (unit_in g) ≡ j = omega arith in
      ap (λ (x : Bool). if x then program_spot g b else argument_spot_if g.code.main_args args (b - first_block (unit_in g))) (not_less b (first_block (unit_in g)) (omega arith))
      ∙ ap (argument_spot_if g.code.main_args args) back

  low_constants : (n v : ℕ) → g.place.constant n ≡ Some v → n < stack_start
  low_constants n v e = constants_are_low g h.placed n v e

  -- the store without arguments, or with them
  first_stands : (taken : Bool) → g.code.main_args ≡ taken → (xs : List ℕ) → params ≡ xs → StandsFrom g.place (first_placing g args) t.mem (first_store (unit_in g) xs args) (arguments_from taken t)
  first_stands taken e [] f =
      let none : taken ≡ false = (params_are g.parts.funcs.items g.main taken (sym h.code.main_args ∙ e)).0 f in
      let sp : sp_of t ≡ stack_end = subst (λ b. IsMainCalled b args t) (e ∙ none) h.start.called in
      subst (λ b. StandsFrom g.place (first_placing g args) t.mem (initial_store (unit_in g)) (arguments_from b t)) (sym none)
      (subst (StandsFrom g.place (first_placing g args) t.mem (initial_store (unit_in g))) (sym sp) (program_stands g names args input t h))
  first_stands taken e (x ∷ rest) f =
      let all : taken ≡ true = (params_are g.parts.funcs.items g.main taken (sym h.code.main_args ∙ e)).1 x rest f in
      let called : IsMainCalled true args t = subst (λ b. IsMainCalled b args t) (e ∙ all) h.start.called in
      let spots : (j : ℕ) → first_placing g args (first_block (unit_in g) + j) ≡ argument_spot args j = λ j. place_behind j ∙ ap (λ b. argument_spot_if b args j) (e ∙ all) in
      subst (λ b. StandsFrom g.place (first_placing g args) t.mem (first_store (unit_in g) (x ∷ rest) args) (arguments_from b t)) (sym all)
      (arguments_stand g.place (first_placing g args) t.mem h.start.bytes.mem low_constants args (first_block (unit_in g)) (sp_of t + 2) called.laid (omega (arith, h.high)) spots (initial_store (unit_in g)) (program_stands g names args input t h))

  symbols : HaveSymbols g (first_placing g args)
  symbols = record {
    funcs = λ f lt. program_place g names args input t h f (omega (arith, lt, counted_funcs)) ∙ func_spot g t f (omega (arith, lt, counted_funcs));
    literals = λ l lt. program_place g names args input t h (literal_block (unit_in g) l) (omega (arith, lt)) ∙ literal_spot g t l lt;
    objects = λ i lasts lt. program_place g names args input t h (object_block (unit_in g) i) (omega (arith, lt, counted_objects)) ∙ lasting_spot g t i ∙ object_place i lasts lt;
  }
    where
      counted_funcs : length (unit_in g).funcs ≡ length g.parts.funcs.items
      counted_funcs = length_mapped func_of g.parts.funcs.items

      counted_objects : length (unit_in g).objects ≡ length g.parts.objects.items
      counted_objects = length_mapped object_of g.parts.objects.items

      object_place : (i : ℕ) → lives_in_frame (object_in (unit_in g) i) ≡ false → i < length g.parts.objects.items → object_spot g i (object_in (unit_in g) i) ≡ Some (At (symbol_at g i))
      object_place i lasts lt =
          let one = item_at (unit_in g).objects i (omega (arith, lt, counted_objects)) in
          let kind : lives_in_frame (Some one.item) ≡ false = sym (ap lives_in_frame one.is) ∙ lasts in
          ap (object_spot g i) one.is ∙ ap (λ (x : Bool). if x then None else Some (At (symbol_at g i))) kind

  fresh : (b : ℕ) → first_block (unit_in g) + suc (length args) ≤ b → first_placing g args b ≡ None
  fresh b le =
      let j = b - first_block (unit_in g) in
      let back : first_block (unit_in g) + j ≡ b = omega (arith, le) in
      ap (first_placing g args) (sym back) ∙ place_behind j ∙ none g.code.main_args j (omega (arith, le))
    where
      none : (taken : Bool) (j : ℕ) → suc (length args) ≤ j → argument_spot_if taken args j ≡ None
      none false j few = refl
      none true zero few = absurd (omega (arith, few))
      none true (suc i) few = no_more_texts args (list_start (length args)) i (omega (arith, few))

  has_begun : HasBegun g (first_scene (unit_in g) free params args input) (first_placing g args) t
  has_begun =
      let s = first_stands g.code.main_args refl params refl in
      record { stands = s.stands; symbols = symbols; fresh = fresh; above = above s; reached = s.reached; constant = constant; sealed = s.sealed }
    where
      above : StandsFrom g.place (first_placing g args) t.mem (first_store (unit_in g) params args) (arguments_from g.code.main_args t) → (n : ℕ) → stack_start ≤ n → n < arguments_from g.code.main_args t → IsFree (first_store (unit_in g) params args) (first_placing g args) (At n)
      above s n lo hi b x q i at lt e =
          let l = s.lies b x q at in
          let same : At (l.at + i) ≡ At n = ap (λ r. beyond r i) (sym l.is) ∙ e in
          let address : l.at + i ≡ n = cc in
          go (l.at + i) address (l.bytes i lt)
        where
          go : (a : ℕ) → a ≡ n → (a < stack_start) ⊎ (arguments_from g.code.main_args t ≤ a) → ⊥
          go a f (inl less) = omega (arith, f, less, lo)
          go a f (inr most) = omega (arith, f, most, hi)

      constant : (n v : ℕ) → g.place.constant n ≡ Some v → t.mem n ≡ v
      constant n v e =
          let c = h.placed.constant_of n v e in
          ap t.mem c.5 ∙ h.start.data_placed c.0 c.1 v c.2 c.3 c.6

pub the_first_store_stands : TheFirstStoreStands
the_first_store_stands g names args input free t code placed start high program plain pointers inside =
    has_begun g names args input free t (record { code = is_code g names code; placed = placed; start = start; high = high; program = program; plain = plain; pointers = pointers; inside = inside })
