-- Main may be entered.
use Rattle.std.proofs.Common.{◌≡◌, ℕ, zero, suc, ◌+◌, ◌-◌, ◌<◌, ◌≤◌, ◌⊎◌, inl, inr, List, [], ◌∷◌, ◌++◌, Option, Some, None, Bool, true, false, refl, sym, ap, ◌∙◌, subst, arith}
use Rattle.std.specs.Prelude.{length, slice_get, nat_lt, if◌then◌else◌}
use Rattle.std.proofs.lemmas.Bool.{cases_lt}
use Rattle.c65_csem.specs.Trees.{ObjectTy}
use Rattle.c65_csem.specs.Places.{is_automatic, is_fixed, is_fixed_object}
use Rattle.c65_csem.specs.declared.items.Class.{Class}
use Rattle.c65_csem.specs.declared.items.Class.TheVariants as classes
use Rattle.c65_meaning.specs.Store.{Block, Store, size_in_store, set_block}
use Rattle.c65_meaning.specs.Shapes.{literal_block, object_block, first_block, object_in, object_size, lives_in_frame}
use Rattle.c65_meaning.specs.Start.{initial_store, argv_block, text_block, with_texts, first_store, first_scene}
use Rattle.c65_meaning.specs.Step.{params_of}
use Rattle.c65_code.specs.declared.code.Datum.{Datum}
use Rattle.c65_code.specs.LineState.{Bytes, State, sp_of}
use Rattle.c65_code.specs.Placement.{IsIn, stack_start}
use Rattle.c65_code.specs.Starts.{AreLaid, IsMainCalled, list_start}
use Rattle.c65_genframe.specs.Symbols.{numbers_of, literal_symbol, function_symbol}
use Rattle.c65_agree_store.specs.Stands.{Spot, At, Banked, Placing, IsAt, beyond}
use Rattle.c65_agree_store.proofs.Keep.{block_other}
use Rattle.c65_agree_state.specs.World.{World, unit_in}
use Rattle.c65_agree_state.specs.Fixed.{symbol_at, HaveFixed}
use Rattle.c65_agree_numbers.proofs.Tests.{not_less}
use Rattle.c65_agree_start.specs.First.{object_spot, program_spot, text_spot, argument_spot_if, first_placing}
use Rattle.c65_agree_start.proofs.Given.{is_code, Given}
use Rattle.c65_agree_start.proofs.Blocks.{lasting_spot, IsFuncAt, IsDatumAt, HasNumber, IsPlacedAt, placed_of}
use Rattle.c65_agree_start.proofs.Program.{program_place}
use Rattle.c65_agree_start.proofs.First.{the_first_store_stands}
use Rattle.c65_agree_begin.specs.Laws.{MainMayBeEntered}
use Rattle.c65_agree_begin.proofs.Fixed.{HasFixedDatum, fixed_datum}

-- ---- places

-- no block is in regbank
text_no_bank : (args : List (List ℕ)) (from i d b : ℕ) → text_spot args from i ≡ Some (Banked d b) → ⊥
text_no_bank [] from i d b e = cc
text_no_bank (arg ∷ args) from zero d b e = cc
text_no_bank (arg ∷ args) from (suc i) d b e = text_no_bank args (from - (length arg + 1)) i d b e

argument_no_bank : (taken : Bool) (args : List (List ℕ)) (j d b : ℕ) → argument_spot_if taken args j ≡ Some (Banked d b) → ⊥
argument_no_bank false args j d b e = cc
argument_no_bank true args zero d b e = cc
argument_no_bank true args (suc i) d b e = text_no_bank args (list_start (length args)) i d b e

object_no_bank : (g : World) (i d b : ℕ) (o : Option ObjectTy) → object_spot g i o ≡ Some (Banked d b) → ⊥
object_no_bank g i d b None e = cc
object_no_bank g i d b (Some o) e = go (lives_in_frame (Some o)) e
  where
    go : (lives : Bool) → (if lives then None else Some (At (symbol_at g i))) ≡ Some (Banked d b) → ⊥
    go true e = cc
    go false e = cc

no_bank_by : (d b p q : ℕ) (r : Option Spot) → (r ≡ Some (Banked d b) → ⊥) → (x y : Bool) → (if x then Some (At p) else (if y then Some (At q) else r)) ≡ Some (Banked d b) → ⊥
no_bank_by d b p q r none true y e = cc
no_bank_by d b p q r none false true e = cc
no_bank_by d b p q r none false false e = none e

program_no_bank : (g : World) (n d b : ℕ) → program_spot g n ≡ Some (Banked d b) → ⊥
program_no_bank g n d b e =
    let i = n - object_block (unit_in g) 0 in
    no_bank_by d b (g.place.address (function_symbol (numbers_of g.parts) n).0) (g.place.address (literal_symbol (numbers_of g.parts) (n - literal_block (unit_in g) 0)).0) (object_spot g i (object_in (unit_in g) i)) (object_no_bank g i d b (object_in (unit_in g) i))
    (nat_lt n (literal_block (unit_in g) 0)) (nat_lt n (object_block (unit_in g) 0)) e

first_no_bank : (g : World) (args : List (List ℕ)) (n d b : ℕ) → first_placing g args n ≡ Some (Banked d b) → ⊥
first_no_bank g args n d b e = go (nat_lt n (first_block (unit_in g))) e
  where
    go : (x : Bool) → (if x then program_spot g n else argument_spot_if g.code.main_args args (n - first_block (unit_in g))) ≡ Some (Banked d b) → ⊥
    go true e = program_no_bank g n d b e
    go false e = argument_no_bank g.code.main_args args (n - first_block (unit_in g)) d b e

-- ---- arguments lie on the software stack

laid_below : (m : Bytes) (args : List (List ℕ)) (at from lowest : ℕ) → AreLaid m args at from lowest → lowest ≤ from
laid_below m [] at from lowest h = omega (arith, h.1)
laid_below m (arg ∷ args) at from lowest h = let rest = laid_below m args (at + 2) (from - (length arg + 1)) lowest h.2 in omega (arith, rest)

text_above : (m : Bytes) (args : List (List ℕ)) (at from lowest i n : ℕ) → AreLaid m args at from lowest → text_spot args from i ≡ Some (At n) → lowest ≤ n
text_above m [] at from lowest i n h e = cc
text_above m (arg ∷ args) at from lowest zero n h e =
    let same : from - (length arg + 1) ≡ n = cc in
    let rest = laid_below m args (at + 2) (from - (length arg + 1)) lowest h.2 in
    omega (arith, same, rest)
text_above m (arg ∷ args) at from lowest (suc i) n h e = text_above m args (at + 2) (from - (length arg + 1)) lowest i n h.2 e

argument_above : (taken : Bool) (args : List (List ℕ)) (t : State) (j n : ℕ) → IsMainCalled taken args t → stack_start ≤ sp_of t → argument_spot_if taken args j ≡ Some (At n) → stack_start ≤ n
argument_above false args t j n h low e = cc
argument_above true args t zero n h low e =
    let same : list_start (length args) ≡ n = cc in
    let rest = laid_below t.mem args (list_start (length args)) (list_start (length args)) (sp_of t + 2) h.laid in
    omega (arith, same, rest, low)
argument_above true args t (suc i) n h low e = let rest = text_above t.mem args (list_start (length args)) (list_start (length args)) (sp_of t + 2) i n h.laid e in omega (arith, rest, low)

-- ---- the first store, below the arguments

texts_below : (b c : ℕ) (args : List (List ℕ)) (s : Store) → c < b → with_texts b args s c ≡ s c
texts_below b c [] s lt = refl
texts_below b c (arg ∷ args) s lt = texts_below (suc b) c args (set_block s b (text_block false (arg ++ 0 ∷ []))) (omega (arith, lt)) ∙ block_other s b c (text_block false (arg ++ 0 ∷ [])) (λ e. omega (arith, e, lt))

first_below : (g : World) (params : List ℕ) (args : List (List ℕ)) (c : ℕ) → c < first_block (unit_in g) → first_store (unit_in g) params args c ≡ initial_store (unit_in g) c
first_below g [] args c lt = refl
first_below g (i ∷ params) args c lt =
    let list = argv_block (suc (first_block (unit_in g))) (length args) in
    texts_below (suc (first_block (unit_in g))) c args (set_block (initial_store (unit_in g)) (first_block (unit_in g)) list) (omega (arith, lt)) ∙ block_other (initial_store (unit_in g)) (first_block (unit_in g)) c list (λ e. omega (arith, e, lt))

-- ---- objects of blocks

fixed_lives : (class : Class) → is_fixed class ≡ true → is_automatic class ≡ true
fixed_lives classes.Fixed e = refl
fixed_lives classes.Auto e = cc
fixed_lives classes.Register e = cc
fixed_lives classes.External e = cc
fixed_lives classes.Tentative e = cc
fixed_lives classes.Static e = cc
fixed_lives classes.Declared e = cc

no_spot : (g : World) (i : ℕ) (o : Option ObjectTy) → is_fixed_object o ≡ true → object_spot g i o ≡ None
no_spot g i None e = refl
no_spot g i (Some o) e = ap (λ (b : Bool). if b then None else Some (At (symbol_at g i))) (fixed_lives o.class e)

module _ (g : World) (names args : List (List ℕ)) (input : List ℕ) (t : State) (h : Given g names args input t) where
  abbrev params : List ℕ
  params = params_of (slice_get (unit_in g).funcs g.main)

  abbrev store : Store
  store = first_store (unit_in g) params args

  abbrev w : Placing
  w = first_placing g args

  -- a byte of the datum of such an object
  module _ (i n : ℕ) (fixed : is_fixed_object (object_in (unit_in g) i) ≡ true) (lt : n < object_size (unit_in g).types (object_in (unit_in g) i)) where
    d : HasFixedDatum g i
    d = fixed_datum g names i h.code h.plain fixed

    there : symbol_at g i ≡ g.place.address d.datum.sym.0
    there = ap g.place.address (sym d.symbol)

    is_in : IsIn g.place d.datum (symbol_at g i + n)
    is_in = record { from = omega (arith, there); to = omega (arith, there, lt, d.size) }

    -- it is none of a block of the program
    not_placed : (b : ℕ) (x : Block) (at o : ℕ) → program_spot g b ≡ Some (At at) → o < x.size → at + o ≡ symbol_at g i + n → IsFuncAt g t b x at ⊎ IsDatumAt g t b x at → ⊥
    not_placed b x at o spot less e (inl f) =
        let one : x.size ≡ 1 = ap (λ z. z.size) f.block in
        let same : g.place.address (function_symbol (numbers_of g.parts) b).0 ≡ symbol_at g i + n = omega (arith, e, less, one, f.at_is) in
        let in_data : g.place.is_data (symbol_at g i + n) ≡ true = h.placed.data_in d.index (symbol_at g i + n) d.datum d.is is_in in
        let outside : g.place.is_data (g.place.address (function_symbol (numbers_of g.parts) b).0) ≡ false = h.placed.function_outside (function_symbol (numbers_of g.parts) b).0 f.is in
        let clash : true ≡ false = sym in_data ∙ (sym (ap g.place.is_data same) ∙ outside) in
        cc
    not_placed b x at o spot less e (inr k) =
        let inside : IsIn g.place k.datum (symbol_at g i + n) = record { from = omega (arith, e, k.at_is); to = omega (arith, e, k.at_is, less, k.size) } in
        let index : k.index ≡ d.index = h.placed.apart k.index d.index (symbol_at g i + n) k.datum d.datum k.is d.is inside is_in in
        let same : Some k.datum ≡ Some d.datum = sym k.is ∙ (ap (slice_get g.code.datums) index ∙ d.is) in
        let datum : k.datum ≡ d.datum = cc in
        by_number (subst (λ (z : Datum). HasNumber g t b z.sym.0) datum k.number)
      where
        by_number : HasNumber g t b d.datum.sym.0 → ⊥
        by_number (inl l) = omega (arith, l.3, d.symbol, d.below)
        by_number (inr o) =
            let object : b ≡ object_block (unit_in g) i = omega (arith, o.2, o.3, d.symbol, counted) in
            let none : program_spot g b ≡ None = ap (program_spot g) object ∙ (lasting_spot g t i ∙ no_spot g i (object_in (unit_in g) i) fixed) in
            let clash : Some (At at) ≡ None = sym spot ∙ none in
            cc
          where
            counted : length (unit_in g).literals ≡ length g.parts.literals.items
            counted = refl

    not_there : (b : ℕ) (x : Block) (q : Spot) (o : ℕ) → IsAt store w b x q → o < x.size → beyond q o ≡ At (symbol_at g i + n) → ⊥
    not_there b x (Banked e l) o at less is = first_no_bank g args b e l at.place
    not_there b x (At a) o at less is = go (cases_lt b (first_block (unit_in g)))
      where
        same : a + o ≡ symbol_at g i + n
        same = cc

        go : (b < first_block (unit_in g)) ⊎ (first_block (unit_in g) ≤ b) → ⊥
        go (inl low) =
            let p : IsPlacedAt g t b x = placed_of g names args input t h b x (sym (first_below g params args b low) ∙ at.is) in
            let spot : Some (At p.at) ≡ Some (At a) = sym p.spot ∙ (sym (program_place g names args input t h b low) ∙ at.place) in
            let one : p.at ≡ a = cc in
            not_placed b x p.at o p.spot less (omega (arith, one, same)) p.how
        go (inr high) =
            let behind : w b ≡ argument_spot_if g.code.main_args args (b - first_block (unit_in g)) = ap (λ (c : Bool). if c then program_spot g b else argument_spot_if g.code.main_args args (b - first_block (unit_in g))) (not_less b (first_block (unit_in g)) high) in
            let above = argument_above g.code.main_args args t (b - first_block (unit_in g)) a h.start.called h.high (sym behind ∙ at.place) in
            let top = h.placed.high d.index d.datum d.is in
            let bound = is_in.to in
            omega (arith, above, same, top, bound)

  none_fixed : HaveFixed g (first_scene (unit_in g) false params args input) w
  none_fixed = record { own = λ i b o n x q fixed at less lt e. absurd (not_there i n fixed lt b x q o at less e); objects = tt; once = tt }

pub main_may_be_entered : MainMayBeEntered
main_may_be_entered g names args input t k read code placed start high program plain pointers inside =
    let h : Given g names args input t = record { code = is_code g names code; placed = placed; start = start; high = high; program = program; plain = plain; pointers = pointers; inside = inside } in
    let b = the_first_store_stands g names args input false t code placed start high program plain pointers inside in
    record {
      stands = b.stands k;
      shallow = λ n x d i at some. absurd (first_no_bank g args n d i at.place);
      symbols = b.symbols;
      fixed = none_fixed g names args input t h;
      sizes = record { behind = omega arith; sizes = λ b lt. ap size_in_store (first_below g (params_of (slice_get (unit_in g).funcs g.main)) args b lt) };
      fresh = b.fresh;
      above = b.above;
      reached = b.reached;
      constant = b.constant;
      sealed = b.sealed;
      asked = refl;
      input = start.input;
      read = read;
      output = start.output;
      ended = start.ended;
    }
