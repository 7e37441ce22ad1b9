-- The functions of the library on arguments of their types.
use Rattle.std.proofs.Common.{◌≡◌, ℕ, zero, suc, ◌+◌, ◌-◌, ℤ, pos, negsuc, Bool, false, List, [], ◌∷◌, true, Option, Some, None, refl, ap, subst}
use Rattle.std.specs.Prelude.{◌==◌, Result, Ok, Err, IsSome, ⊤, min, length, nat_lt, nat_le, if◌then◌else◌}
use Rattle.c65_ints.specs.Ranges.{residue}
use Rattle.c65_base.specs.declared.library.Library.{Library}
use Rattle.c65_base.specs.declared.library.Library.TheVariants.{Putchar, Getchar, Puts, Exit, Memcpy, Memset, Strcmp, Strcpy, Strlen, Printf}
use Rattle.c65_meaning.specs.declared.action.Action.{Action}
use Rattle.c65_meaning.specs.declared.action.Action.TheVariants.{UnsetBit, EndedObject, LibraryArgument}
use Rattle.c65_meaning.specs.Why.{Why, By, Unfit, ◌>>=◌, or_by}
use Rattle.c65_meaning.specs.Store.{Cell, Piece, Bits, Clouded, byte, Block, Store, Value, Whole, Null, Place, Opaque, Cells, NoValue, nth_cell, set_block, set_cells, Gathered, Lacking, Hidden, Found, gathered, are_of_one, as_pointer, gather, read_pair, reached_or, writable}
use Rattle.c65_meaning.specs.Library.{Effect, got, area, overlap, filled, copied_area, filled_area, set_byte, before, text_in, text_at, Compared, one_more, compared_byte, compared_in, compared_texts, number_in, count_in, number_from, text_from, argument_at, drawn, printed, effect_of}
use Rattle.c65_base.specs.Formats.{Form, signed, unsigned, hexadecimal, signed_long, unsigned_long, character, string, Part, plain, field, form_bytes, parts_of, Argument, text_of}
use Rattle.c65_meaning.specs.State.{Scene}
use Rattle.c65_meaning_law.specs.Laws.{IsClosed}
use Rattle.c65_meaning_law.specs.Library.{IsNumber, IsCount, IsPointing, AreArguments, AreOfBlocks, IsOfBlock, IsSoundCall, LibraryFits}
use Rattle.c65_meaning_law.proofs.Stacks.{Kind, arithmetic, pointing, free, kind_from, Sound, Stands, Suits, CellFits, CellsFit, StoreFits}
use Rattle.c65_meaning_law.proofs.Values.{if_sound, bind_sound, stands}
use Rattle.c65_meaning_law.proofs.Stores.{BlockFits, writable_sound, set_fits, block_set}

-- nothing more is asked than that it went well
abbrev Any : (A : Type 0) → A → Type 0
Any A x = ⊤

module _ (c : Scene) where
  abbrev E : ℕ → Type 0
  E b = IsSome (c.store b)

  -- memory stays closed, and the result is of its kind
  abbrev pub Fine : Kind → Effect → Type 0
  Fine x e = StoreFits E e.store × Suits E x e.result

  number : (x : Kind) (v : Value) (f : ℤ → Result Effect Why) → IsNumber v → ((z : ℤ) → Sound (Fine x) (f z)) → Sound (Fine x) (number_in v f)
  number x (Whole z) f h g = g z
  number x Opaque f h g = tt
  number x NoValue f h g = tt
  number x Null f h g = absurd h
  number x (Cells xs) f h g = absurd h
  number x (Place b o) f h g = absurd h

  counts : (x : Kind) (v : Value) (f : ℕ → Result Effect Why) → IsCount v → ((n : ℕ) → Sound (Fine x) (f n)) → Sound (Fine x) (count_in v f)
  counts x (Whole (pos n)) f h g = g n
  counts x (Whole (negsuc n)) f h g = absurd h
  counts x Opaque f h g = tt
  counts x NoValue f h g = tt
  counts x Null f h g = absurd h
  counts x (Cells xs) f h g = absurd h
  counts x (Place b o) f h g = absurd h

  -- ---- areas

  area_in : (m : Option Block) (o n : ℕ) → IsSome m → ((x : Block) → m ≡ Some x → BlockFits E x) → Sound (BlockFits E) (reached_or LibraryArgument m o n)
  area_in None o n i h = absurd (cc)
  area_in (Some x) o n i h = if_sound (BlockFits E) x.live (if nat_le (o + n) x.holds then Ok x else Err (By LibraryArgument)) (Err (By EndedObject)) (if_sound (BlockFits E) (nat_le (o + n) x.holds) (Ok x) (Err (By LibraryArgument)) (h x refl) tt) tt

  module _ (fits : StoreFits E c.store) where
    in_area : (b o n : ℕ) → E b → Sound (BlockFits E) (area c.store b o n)
    in_area b o n h = area_in (c.store b) o n h (fits.all b)

    fills : (b o n : ℕ) (new : ℕ → Cell) → E b → CellsFit E new → Sound (StoreFits E) (filled c.store b o n new)
    fills b o n new h g = bind_sound (BlockFits E) (StoreFits E) (area c.store b o n >>= writable false) (λ x. Ok (set_block c.store b (record x { cells = set_cells x.cells o n new })))
        (bind_sound (BlockFits E) (BlockFits E) (area c.store b o n) (writable false) (in_area b o n h) (writable_sound E false))
        (λ x i. block_set E c.store b (record x { cells = set_cells x.cells o n new }) fits (set_fits E x.cells o n new i g))

    copies : (to from : Value) (n : ℕ) → IsPointing c.store to → IsPointing c.store from → Sound (StoreFits E) (copied_area c.store to from n)
    copies (Place e p) (Place b o) n h g = if_sound (StoreFits E) (overlap n b o e p) (Err (By LibraryArgument)) (area c.store b o n >>= λ x. filled c.store e p n (λ i. x.cells (o + i))) tt
        (bind_sound (BlockFits E) (StoreFits E) (area c.store b o n) (λ x. filled c.store e p n (λ i. x.cells (o + i))) (in_area b o n g) (λ x i. fills e p n (λ j. x.cells (o + j)) h (λ j. i (o + j))))
    copies (Place e p) Null n h g = tt
    copies (Place e p) Opaque n h g = tt
    copies (Place e p) NoValue n h g = tt
    copies (Place e p) (Whole z) n h g = absurd g
    copies (Place e p) (Cells xs) n h g = absurd g
    copies Null from n h g = tt
    copies Opaque from n h g = tt
    copies NoValue from n h g = tt
    copies (Whole z) from n h g = absurd h
    copies (Cells xs) from n h g = absurd h

    sets : (to : Value) (n v : ℕ) → IsPointing c.store to → Sound (StoreFits E) (filled_area c.store to n v)
    sets (Place b o) n v h = fills b o n (λ i. byte v) h (λ i. tt)
    sets Null n v h = tt
    sets Opaque n v h = tt
    sets NoValue n v h = tt
    sets (Whole z) n v h = absurd h
    sets (Cells xs) n v h = absurd h

    -- ---- texts

    byte_sound : (x : Cell) → Sound (Any ℕ) (set_byte x)
    byte_sound (Bits known v) = if_sound (Any ℕ) (known == 255) (Ok v) (Err (By UnsetBit)) tt tt
    byte_sound (Piece i b o) = tt
    byte_sound Clouded = tt

    before_sound : (v : ℕ) (r : Result (List ℕ) Why) → Sound (Any (List ℕ)) r → Sound (Any (List ℕ)) (before v r)
    before_sound zero r h = tt
    before_sound (suc v) r h = bind_sound (Any (List ℕ)) (Any (List ℕ)) r (λ text. Ok (suc v ∷ text)) h (λ text g. tt)

    text_sound : (cells : ℕ → Cell) (n o : ℕ) → Sound (Any (List ℕ)) (text_in cells n o)
    text_sound cells zero o = tt
    text_sound cells (suc n) o = bind_sound (Any ℕ) (Any (List ℕ)) (set_byte (cells o)) (λ v. before v (text_in cells n (suc o))) (byte_sound (cells o)) (λ v g. before_sound v (text_in cells n (suc o)) (text_sound cells n (suc o)))

    texts : (v : Value) → IsPointing c.store v → Sound (Any (List ℕ)) (text_at c.store v)
    texts (Place b o) h = bind_sound (BlockFits E) (Any (List ℕ)) (area c.store b o 0) (λ x. text_in x.cells (x.holds - o) o) (in_area b o 0 h) (λ x g. text_sound x.cells (x.holds - o) o)
    texts Null h = tt
    texts Opaque h = tt
    texts NoValue h = tt
    texts (Whole z) h = absurd h
    texts (Cells xs) h = absurd h

    -- ---- comparing

    more_sound : (r : Result Compared Why) → Sound (Any Compared) r → Sound (Any Compared) (r >>= λ d. Ok (one_more d))
    more_sound r h = bind_sound (Any Compared) (Any Compared) r (λ d. Ok (one_more d)) h (λ d g. tt)

    bytes_sound : (a b : ℕ) (r : Result Compared Why) → Sound (Any Compared) r → Sound (Any Compared) (compared_byte a b r)
    bytes_sound a b r h = if_sound (Any Compared) (a == b) _ _ (if_sound (Any Compared) (a == 0) _ _ tt (more_sound r h)) tt

    compares : (xs ys : ℕ → Cell) (n o q : ℕ) → Sound (Any Compared) (compared_in xs ys n o q)
    compares xs ys zero o q = tt
    compares xs ys (suc n) o q = bind_sound (Any ℕ) (Any Compared) (set_byte (xs o)) _ (byte_sound (xs o)) (λ a g. bind_sound (Any ℕ) (Any Compared) (set_byte (ys q)) _ (byte_sound (ys q)) (λ b i. bytes_sound a b (compared_in xs ys n (suc o) (suc q)) (compares xs ys n (suc o) (suc q))))

    compare_texts : (v w : Value) → IsPointing c.store v → IsPointing c.store w → Sound (Any Compared) (compared_texts c.store v w)
    compare_texts (Place b o) (Place e q) h g = bind_sound (BlockFits E) (Any Compared) (area c.store b o 0) _ (in_area b o 0 h) (λ x i. bind_sound (BlockFits E) (Any Compared) (area c.store e q 0) _ (in_area e q 0 g) (λ y j. compares x.cells y.cells (min (x.holds - o) (y.holds - q)) o q))
    compare_texts (Place b o) Null h g = tt
    compare_texts (Place b o) Opaque h g = tt
    compare_texts (Place b o) NoValue h g = tt
    compare_texts (Place b o) (Whole z) h g = absurd g
    compare_texts (Place b o) (Cells xs) h g = absurd g
    compare_texts Null w h g = tt
    compare_texts Opaque w h g = tt
    compare_texts NoValue w h g = tt
    compare_texts (Whole z) w h g = absurd h
    compare_texts (Cells xs) w h g = absurd h

    -- ---- printing

    or_sound : {A : Type 0} (action : Action) (o : Option A) → Sound (Any A) (or_by action o)
    or_sound action (Some x) = tt
    or_sound action None = tt

    number_sound : (g : Gathered) → Sound (Any Argument) (number_from g)
    number_sound (Found n) = tt
    number_sound Lacking = tt
    number_sound Hidden = tt

    from_sound : (v : Value) → ((b o : ℕ) → v ≡ Place b o → E b) → Sound (Any Argument) (text_from c.store (Ok v))
    from_sound (Place b o) h = bind_sound (Any (List ℕ)) (Any Argument) (text_at c.store (Place b o)) _ (texts (Place b o) (h b o refl)) (λ t g. tt)
    from_sound (Whole z) h = tt
    from_sound Null h = tt
    from_sound Opaque h = tt
    from_sound (Cells xs) h = tt
    from_sound NoValue h = tt

    piece_sound : (one : Bool) (b o : ℕ) → E b → Sound (Any Argument) (text_from c.store (if one then Ok (Place b o) else Ok Opaque))
    piece_sound true b o h = from_sound (Place b o) (λ e q i. subst E (place_block b o e q i) h)
      where
        block_in : Value → ℕ
        block_in (Place b o) = b
        block_in v = zero

        place_block : (b o e q : ℕ) → Place b o ≡ Place e q → b ≡ e
        place_block b o e q i = ap block_in i
    piece_sound false b o h = tt

    pointer_sound : (g : Gathered) → Sound (Any Argument) (text_from c.store (as_pointer g))
    pointer_sound Lacking = tt
    pointer_sound Hidden = tt
    pointer_sound (Found zero) = tt
    pointer_sound (Found (suc n)) = tt

    pair_sound : (x y : Cell) → CellFits E x → Sound (Any Argument) (text_from c.store (read_pair x y))
    pair_sound (Piece i b o) (Piece j d q) h = piece_sound (are_of_one i b o j d q) b o h
    pair_sound (Piece i b o) (Bits known v) h = pointer_sound (gather (Piece i b o) (gather (Bits known v) (Found 0)))
    pair_sound (Piece i b o) Clouded h = pointer_sound (gather (Piece i b o) (gather Clouded (Found 0)))
    pair_sound (Bits known v) y h = pointer_sound (gather (Bits known v) (gather y (Found 0)))
    pair_sound Clouded y h = pointer_sound (gather Clouded (gather y (Found 0)))

    argument_sound : (f : Form) (cells : ℕ → Cell) (o : ℕ) → CellsFit E cells → Sound (Any Argument) (argument_at c.store f cells o)
    argument_sound string cells o h = pair_sound (cells o) (cells (suc o)) (h o)
    argument_sound signed cells o h = number_sound (gathered 2 cells o)
    argument_sound unsigned cells o h = number_sound (gathered 2 cells o)
    argument_sound hexadecimal cells o h = number_sound (gathered 2 cells o)
    argument_sound signed_long cells o h = number_sound (gathered 4 cells o)
    argument_sound unsigned_long cells o h = number_sound (gathered 4 cells o)
    argument_sound character cells o h = number_sound (gathered 2 cells o)

    drawn_sound : (ps : List Part) (cells : ℕ → Cell) (left : ℕ) → CellsFit E cells → Sound (Any (List Argument)) (drawn c.store ps cells left)
    drawn_sound [] cells left h = tt
    drawn_sound (plain b ∷ ps) cells left h = drawn_sound ps cells left h
    drawn_sound (field w f ∷ ps) cells left h =
        let below : ℕ = left - form_bytes f in
        if_sound (Any (List Argument)) (nat_lt left (form_bytes f)) (Err (By LibraryArgument)) _ tt
        (bind_sound (Any Argument) (Any (List Argument)) (argument_at c.store f cells below) _ (argument_sound f cells below h)
        (λ a g. bind_sound (Any (List Argument)) (Any (List Argument)) (drawn c.store ps cells below) _ (drawn_sound ps cells below h) (λ given i. tt)))

    prints_fine : (rest : List Cell) (format : List ℕ) → CellsFit E (nth_cell rest) → Sound (Fine (arithmetic true)) (printed c rest format)
    prints_fine rest format h =
        bind_sound (Any (List Part)) (Fine (arithmetic true)) (or_by LibraryArgument (parts_of format)) _ (or_sound LibraryArgument (parts_of format))
        (λ ps i. bind_sound (Any (List Argument)) (Fine (arithmetic true)) (drawn c.store ps (nth_cell rest) (length rest)) _ (drawn_sound ps (nth_cell rest) (length rest) h)
        (λ given j. bind_sound (Any (List ℕ)) (Fine (arithmetic true)) (or_by LibraryArgument (text_of ps given)) _ (or_sound LibraryArgument (text_of ps given)) (λ t k. (fits, tt))))

    -- ---- the functions

    got_fine : (input : List ℕ) → Fine (arithmetic true) (got c input)
    got_fine [] = (fits, tt)
    got_fine (b ∷ rest) = (fits, tt)

    place_suits : (v : Value) → IsPointing c.store v → Suits E pointing v
    place_suits (Place b o) h = h
    place_suits Null h = tt
    place_suits Opaque h = tt
    place_suits NoValue h = tt
    place_suits (Whole z) h = absurd h
    place_suits (Cells xs) h = absurd h

    pub fine : (f : Library) (args : List Value) (rest : List Cell) → AreArguments c.store f args → CellsFit E (nth_cell rest) → Sound (Fine (kind_from f)) (effect_of c f args rest)
    fine Putchar (v ∷ []) rest h k = number (arithmetic true) v _ h (λ z. (fits, tt))
    fine Getchar [] rest h k = got_fine c.input
    fine Puts (v ∷ []) rest h k = bind_sound (Any (List ℕ)) (Fine (arithmetic true)) (text_at c.store v) _ (texts v h) (λ text g. (fits, tt))
    fine Exit (v ∷ []) rest h k = number free v _ h (λ z. (fits, tt))
    fine Memcpy (to ∷ from ∷ n ∷ []) rest h k = counts pointing n _ h.2 (λ m. bind_sound (StoreFits E) (Fine pointing) (copied_area c.store to from m) _ (copies to from m h.0 h.1) (λ s g. (g, place_suits to h.0)))
    fine Memset (to ∷ v ∷ n ∷ []) rest h k = number pointing v _ h.1 (λ z. counts pointing n _ h.2 (λ m. bind_sound (StoreFits E) (Fine pointing) (filled_area c.store to m (residue 256 z)) _ (sets to m (residue 256 z) h.0) (λ s g. (g, place_suits to h.0))))
    fine Strcmp (v ∷ w ∷ []) rest h k = bind_sound (Any Compared) (Fine (arithmetic true)) (compared_texts c.store v w) _ (compare_texts v w h.0 h.1) (λ d g. (fits, tt))
    fine Strcpy (to ∷ from ∷ []) rest h k = bind_sound (Any (List ℕ)) (Fine pointing) (text_at c.store from) _ (texts from h.1) (λ text g. bind_sound (StoreFits E) (Fine pointing) (copied_area c.store to from (suc (length text))) _ (copies to from (suc (length text)) h.0 h.1) (λ s i. (i, place_suits to h.0)))
    fine Strlen (v ∷ []) rest h k = bind_sound (Any (List ℕ)) (Fine (arithmetic false)) (text_at c.store v) _ (texts v h) (λ text g. (fits, tt))
    fine Printf (v ∷ []) rest h g = bind_sound (Any (List ℕ)) (Fine (arithmetic true)) (text_at c.store v) _ (texts v h) (λ format i. prints_fine rest format g)
    fine _ _ rest h g = absurd h

  -- ---- the law

  fits_at_first : IsClosed c.store → StoreFits E c.store
  fits_at_first h = record { there = λ b i. i; all = λ b x e q. one b x q (x.cells q) e refl }
    where
      one : (b : ℕ) (x : Block) (q : ℕ) (y : Cell) → c.store b ≡ Some x → x.cells q ≡ y → CellFits E y
      one b x q (Piece i d o) e f = h b x q i d o e f
      one b x q (Bits known value) e f = tt
      one b x q Clouded e f = tt

  cells_at_first : (xs : List Cell) → AreOfBlocks c.store xs → CellsFit E (nth_cell xs)
  cells_at_first xs h = λ q. one q (nth_cell xs q) refl
    where
      one : (q : ℕ) (y : Cell) → nth_cell xs q ≡ y → CellFits E y
      one q (Piece i b o) e = h q i b o e
      one q (Bits known value) e = tt
      one q Clouded e = tt

  closed_after : (s : Store) → StoreFits E s → IsClosed s
  closed_after s h b x q i d o e f = h.there d (subst (CellFits E) f (h.all b x e q))

  of_block : (s : Store) (v : Value) → StoreFits E s → Stands E v → IsOfBlock s v
  of_block s (Place b o) h g = h.there b g
  of_block s (Whole z) h g = tt
  of_block s Null h g = tt
  of_block s (Cells xs) h g = λ q i b o e. h.there b (subst (CellFits E) e (g q))
  of_block s Opaque h g = tt
  of_block s NoValue h g = tt

  sound : (x : Kind) (r : Result Effect Why) → Sound (Fine x) r → IsSoundCall c.store r
  sound x (Ok e) h = (closed_after e.store h.0, h.0.there, of_block e.store e.result h.0 (stands E x e.result h.1))
  sound x (Err (By action)) h = tt
  sound x (Err Unfit) h = absurd h

pub library_fits : LibraryFits
library_fits f args rest c h g i = sound c (kind_from f) (effect_of c f args rest) (fine c (fits_at_first c i) f args rest h (cells_at_first c rest g))
