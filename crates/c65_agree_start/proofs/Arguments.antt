-- The blocks of the program's arguments stand.
use Rattle.std.proofs.Common.{◌≡◌, ℕ, zero, suc, ◌+◌, ◌-◌, ◌*◌, ◌/◌, ◌%◌, ◌<◌, ◌≤◌, ◌⊎◌, inl, inr, Bool, false, List, [], ◌∷◌, ◌++◌, Some, refl, sym, ap, ◌∙◌, subst, arith}
use Rattle.std.specs.Prelude.{length, if◌then◌else◌}
use Rattle.std.proofs.lemmas.Nat.{and_mask}
use Rattle.std.proofs.lemmas.Bool.{cases_lt}
use Rattle.std.proofs.Math.Nat.{mod-eq_of_lt}
use Rattle.c65_meaning.specs.Store.{Piece, byte, Store, set_block}
use Rattle.c65_meaning.specs.Start.{bytes_at, text_block, argv_cells, argv_block, with_texts}
use Rattle.c65_code.specs.LineState.{Bytes, word_at}
use Rattle.c65_code.specs.Placement.{Placement, stack_start, stack_end}
use Rattle.c65_code.specs.Starts.{IsTextAt, AreLaid, list_start}
use Rattle.c65_agree_store.specs.Stands.{At, Placing, CellIs, part_of}
use Rattle.c65_agree_numbers.proofs.Tests.{less, not_less}
use Rattle.c65_agree_start.specs.First.{text_spot, argument_spot}
use Rattle.c65_agree_start.proofs.Held.{StandsFrom, one_more}

-- a byte stands as itself
byte_is : (w : Placing) (v m : ℕ) → m < 256 → m ≡ v → CellIs w (byte v) m
byte_is w v m lt e = and_mask m 8 ∙ mod-eq_of_lt lt ∙ e

-- ---- where they lie

-- each lies below the one before
laid_low : (m : Bytes) (args : List (List ℕ)) (at from lowest : ℕ) → AreLaid m args at from lowest → lowest ≤ from
laid_low m [] at from lowest h = omega (arith, h.1)
laid_low m (arg ∷ args) at from lowest h =
    let deep = laid_low m args (at + 2) (from - (length arg + 1)) lowest h.2 in
    omega (arith, deep)

-- argument i has its address in the list
record IsListed (m : Bytes) (args : List (List ℕ)) (at from i : ℕ) : Type 0 where
  address : ℕ
  spot : text_spot args from i ≡ Some (At address)
  word : word_at m (at + 2 * i) ≡ address

listed : (m : Bytes) (args : List (List ℕ)) (at from lowest i : ℕ) → AreLaid m args at from lowest → i < length args → IsListed m args at from i
listed m [] at from lowest i h lt = absurd (omega arith)
listed m (arg ∷ args) at from lowest zero h lt =
    let here : at + 2 * 0 ≡ at = omega arith in
    record { address = from - (length arg + 1); spot = refl; word = ap (word_at m) here ∙ h.0 }
listed m (arg ∷ args) at from lowest (suc i) h lt =
    let deep = listed m args (at + 2) (from - (length arg + 1)) lowest i h.2 (omega (arith, lt)) in
    let onward : at + 2 * suc i ≡ at + 2 + 2 * i = omega arith in
    record { address = deep.address; spot = deep.spot; word = ap (word_at m) onward ∙ deep.word }

-- and 0 ends the list
list_ends : (m : Bytes) (args : List (List ℕ)) (at from lowest : ℕ) → AreLaid m args at from lowest → word_at m (at + 2 * length args) ≡ 0
list_ends m [] at from lowest h = let here : at + 2 * 0 ≡ at = omega arith in ap (word_at m) here ∙ h.0
list_ends m (arg ∷ args) at from lowest h =
    let onward : at + 2 * length (arg ∷ args) ≡ at + 2 + 2 * length args = omega arith in
    ap (word_at m) onward ∙ list_ends m args (at + 2) (from - (length arg + 1)) lowest h.2

-- ---- texts

text_byte : (m : Bytes) (text : List ℕ) (at o : ℕ) → IsTextAt m at text → o < length (text ++ 0 ∷ []) → (v : ℕ) × (bytes_at (text ++ 0 ∷ []) o ≡ byte v) × (m (at + o) ≡ v)
text_byte m [] at zero h lt = let here : at + 0 ≡ at = omega arith in (0, refl, ap m here ∙ h)
text_byte m [] at (suc o) h lt = absurd (omega (arith, lt))
text_byte m (b ∷ text) at zero h lt = let here : at + 0 ≡ at = omega arith in (b, refl, ap m here ∙ h.0)
text_byte m (b ∷ text) at (suc o) h lt =
    let deep = text_byte m text (at + 1) o h.1 (omega (arith, lt)) in
    let onward : at + suc o ≡ at + 1 + o = omega arith in
    (deep.0, deep.1, ap m onward ∙ deep.2)

closed_length : (text : List ℕ) → length (text ++ 0 ∷ []) ≡ length text + 1
closed_length [] = refl
closed_length (b ∷ text) = let h = closed_length text in omega (arith, h)

module _ (place : Placement) (w : Placing) (m : Bytes) (bytes : (n : ℕ) → m n < 256) (low_constants : (n v : ℕ) → place.constant n ≡ Some v → n < stack_start) where
  texts_stand : (args : List (List ℕ)) (b at from lowest : ℕ) (s : Store) → AreLaid m args at from lowest → stack_start < lowest → from ≤ stack_end → ((i : ℕ) → w (b + i) ≡ text_spot args from i)
      → StandsFrom place w m s from → StandsFrom place w m (with_texts b args s) lowest
  texts_stand [] b at from lowest s laid high top spots h = subst (StandsFrom place w m s) (sym laid.1) h
  texts_stand (arg ∷ args) b at from lowest s laid high top spots h =
      let start = from - (length arg + 1) in
      let size = closed_length arg in
      let low = laid_low m args (at + 2) start lowest laid.2 in
      let first : b + 0 ≡ b = omega arith in
      let one : StandsFrom place w m (set_block s b (text_block false (arg ++ 0 ∷ []))) start =
      one_more place w m s from start b start (text_block false (arg ++ 0 ∷ [])) h (ap w (sym first) ∙ spots 0) refl (omega (arith, size, low, high)) (omega arith) (omega (arith, low, high)) top low_constants (λ o lt. there start arg laid.1 o lt) in
      texts_stand args (suc b) (at + 2) start lowest (set_block s b (text_block false (arg ++ 0 ∷ []))) laid.2 high (omega (arith, top)) (λ i. let next : suc b + i ≡ b + suc i = omega arith in ap w next ∙ spots (suc i)) one
    where
      there : (start : ℕ) (text : List ℕ) → IsTextAt m start text → (o : ℕ) → o < length (text ++ 0 ∷ []) → CellIs w (bytes_at (text ++ 0 ∷ []) o) (m (start + o))
      there start text is o lt =
          let v = text_byte m text start o is lt in
          subst (λ c. CellIs w c (m (start + o))) (sym v.1) (byte_is w v.0 (m (start + o)) (bytes (start + o)) v.2)

  -- ---- their list

  -- the two bytes of a word
  low_byte_is : (at a : ℕ) → word_at m at ≡ a → m at ≡ a % 256
  low_byte_is at a e = omega (arith, e, bytes at, bytes (at + 1))

  high_byte_is : (at a : ℕ) → word_at m at ≡ a → m (at + 1) ≡ a / 256
  high_byte_is at a e = omega (arith, e, bytes at, bytes (at + 1))

  piece_is : (b i at a part : ℕ) → w (b + i) ≡ Some (At a) → word_at m at ≡ a → part < 2 → CellIs w (Piece part (b + i) 0) (m (at + part))
  piece_is b i at a zero spot word lt =
      let here : at + 0 ≡ at = omega arith in
      let same : a + 0 ≡ a = omega arith in
      (a, spot, ap m here ∙ low_byte_is at a word ∙ ap (part_of 0) (sym same))
  piece_is b i at a (suc zero) spot word lt =
      let same : a + 0 ≡ a = omega arith in
      (a, spot, high_byte_is at a word ∙ ap (part_of 1) (sym same))
  piece_is b i at a (suc (suc p)) spot word lt = absurd (omega (arith, lt))

  zero_is : (at part : ℕ) → word_at m at ≡ 0 → part < 2 → m (at + part) ≡ 0
  zero_is at zero word lt = let here : at + 0 ≡ at = omega arith in ap m here ∙ omega (arith, word)
  zero_is at (suc zero) word lt = omega (arith, word)
  zero_is at (suc (suc p)) word lt = absurd (omega (arith, lt))

  module _ (args : List (List ℕ)) (b lowest : ℕ) (laid : AreLaid m args (list_start (length args)) (list_start (length args)) lowest) (high : stack_start < lowest) (spots : (i : ℕ) → w (b + i) ≡ argument_spot args i) where
    abbrev from : ℕ
    from = list_start (length args)

    whole : from + 2 * (length args + 1) ≡ stack_end
    whole = omega (arith, laid_low m args from from lowest laid, high)

    list_cell : (o : ℕ) → o < 2 * suc (length args) → CellIs w (argv_cells (suc b) (length args) o) (m (from + o))
    list_cell o lt = go (cases_lt (o / 2) (length args))
      where
        split : from + o ≡ from + 2 * (o / 2) + o % 2
        split = omega arith

        go : (o / 2 < length args) ⊎ (length args ≤ o / 2) → CellIs w (argv_cells (suc b) (length args) o) (m (from + o))
        go (inl less_than) =
            let i = listed m args from from lowest (o / 2) laid less_than in
            let next : suc b + o / 2 ≡ b + suc (o / 2) = omega arith in
            let spot : w (suc b + o / 2) ≡ Some (At i.address) = ap w next ∙ spots (suc (o / 2)) ∙ i.spot in
            let cell : argv_cells (suc b) (length args) o ≡ Piece (o % 2) (suc b + o / 2) 0 = ap (λ (x : Bool). if x then Piece (o % 2) (suc b + o / 2) 0 else byte 0) (less (o / 2) (length args) less_than) in
            subst (λ c. CellIs w c (m (from + o))) (sym cell) (subst (λ n. CellIs w (Piece (o % 2) (suc b + o / 2) 0) (m n)) (sym split) (piece_is (suc b) (o / 2) (from + 2 * (o / 2)) i.address (o % 2) spot i.word (omega arith)))
        go (inr most) =
            let last : o / 2 ≡ length args = omega (arith, lt, most) in
            let cell : argv_cells (suc b) (length args) o ≡ byte 0 = ap (λ (x : Bool). if x then Piece (o % 2) (suc b + o / 2) 0 else byte 0) (not_less (o / 2) (length args) most) in
            let word : word_at m (from + 2 * (o / 2)) ≡ 0 = ap (λ n. word_at m (from + 2 * n)) last ∙ list_ends m args from from lowest laid in
            subst (λ c. CellIs w c (m (from + o))) (sym cell) (byte_is w 0 (m (from + o)) (bytes (from + o)) (ap m split ∙ zero_is (from + 2 * (o / 2)) (o % 2) word (omega arith)))

    pub arguments_stand : (s : Store) → StandsFrom place w m s stack_end → StandsFrom place w m (with_texts (suc b) args (set_block s b (argv_block (suc b) (length args)))) lowest
    arguments_stand s h =
        let first : b + 0 ≡ b = omega arith in
        let low = laid_low m args from from lowest laid in
        let list : StandsFrom place w m (set_block s b (argv_block (suc b) (length args))) from =
        one_more place w m s stack_end from b from (argv_block (suc b) (length args)) h (ap w (sym first) ∙ spots 0) refl (omega (arith, whole)) (omega arith) (omega (arith, low, high)) (omega arith) low_constants list_cell in
        texts_stand args (suc b) from from lowest (set_block s b (argv_block (suc b) (length args))) laid high (omega arith) (λ i. let next : suc b + i ≡ b + suc i = omega arith in ap w next ∙ spots (suc i)) list
