-- What is stored is what is read back, and a store changes nothing else.
use Rattle.std.proofs.Common.{◌≡◌, ℕ, ◌+◌, refl, ap, arith, Bool, true, false}
use Rattle.std.specs.Prelude.{Option, Some, None, Result, Ok, Err, nat_le, ◌==◌, if◌then◌else◌}
use Rattle.c65_meaning.specs.declared.action.Action.TheVariants.{OutsideObject, ReadOnly, EndedObject}
use Rattle.c65_meaning.specs.Why.{Why, By, ◌>>=◌}
use Rattle.c65_meaning.specs.Store.{Cell, Block, Store, Value, Shape, size_in, set_cells, set_block, read_cells, read, write, with_value, reached, reached_to_write, writable, new_cells}
use Rattle.c65_meaning.specs.Laws.{Holds, number_held, opaque_number, null_held, place_held, opaque_pointer, field_held, opaque_field, StoredIsRead, DiffersIn, ChangesOnly, StoresStay}
use Rattle.c65_meaning.proofs.CellLaws.{set_before, set_behind, number_read, opaque_read, place_read, null_read, clouded_read}
use Rattle.c65_meaning.proofs.BitFieldLaws.{field_read, clouded_field_read}

held_read : (f : Shape) (v w : Value) (cells : ℕ → Cell) (o : ℕ) → Holds f v w → read_cells f (set_cells cells o (size_in f) (new_cells f v cells o)) o ≡ Ok w
held_read f v w cells o (number_held t z) = number_read t z cells o
held_read f v w cells o (opaque_number t) = opaque_read t cells o
held_read f v w cells o (null_held size) = null_read size o cells
held_read f v w cells o (place_held size b p) = place_read size b p o cells
held_read f v w cells o (opaque_pointer size) = clouded_read size o cells
held_read f v w cells o (field_held t low width z fits) = field_read t low width z cells o fits
held_read f v w cells o (opaque_field t low width some) = clouded_field_read t low width cells o some

-- ---- through the store

same_block : (b : ℕ) → (b == b) ≡ true
same_block b = grind arith

own_block : (s : Store) (b : ℕ) (x : Block) → set_block s b x b ≡ Some x
own_block s b x = let e : (b == b) ≡ true = grind arith in rw e refl

other_block : (s : Store) (b c : ℕ) (x : Block) → (c ≡ b → ⊥) → set_block s b x c ≡ s c
other_block s b c x h = let e : (c == b) ≡ false = grind arith in rw e refl

-- what went well
bind_ok : {A B : Type 0} (r : Result A Why) (f : A → Result B Why) (z : B) → (r >>= f) ≡ Ok z → (x : A) × (r ≡ Ok x) × (f x ≡ Ok z)
bind_ok (Ok x) f z h = (x, refl, h)
bind_ok (Err why) f z h = cc

-- a block that was reached is there, live and large enough
record Reached (m : Option Block) (o n : ℕ) (x : Block) : Type 0 where
  there : m ≡ Some x
  lives : x.live ≡ true
  inside : nat_le (o + n) x.holds ≡ true

reached_ok : (m : Option Block) (o n : ℕ) (y : Block) → reached m o n ≡ Ok y → Reached m o n y
reached_ok None o n y h = cc
reached_ok (Some x) o n y h = tested x.live (nat_le (o + n) x.holds) refl refl h
  where
    moved_to : (x ≡ y) → x.live ≡ true → nat_le (o + n) x.holds ≡ true → Reached (Some x) o n y
    moved_to e l i = record { there = ap Some e; lives = rw (← e) l; inside = rw (← e) i }

    tested : (l i : Bool) → x.live ≡ l → nat_le (o + n) x.holds ≡ i → (if l then (if i then Ok x else Err (By OutsideObject)) else Err (By EndedObject)) ≡ Ok y → Reached (Some x) o n y
    tested true true e f g = moved_to (cc) e f
    tested true false e f g = cc
    tested false i e f g = cc

writable_ok : (first : Bool) (x y : Block) → writable first x ≡ Ok y → x ≡ y
writable_ok true x y h = cc
writable_ok false x y h = tested x.sealed h
  where
    tested : (q : Bool) → (if q then Err (By ReadOnly) else Ok x) ≡ Ok y → x ≡ y
    tested true g = cc
    tested false g = cc

-- a store that was written: its block, and what came of it
record Written (f : Shape) (s : Store) (b o : ℕ) (v : Value) (t : Store) : Type 0 where
  at : Block
  reach : Reached (s b) o (size_in f) at
  after : t ≡ set_block s b (with_value f at o v)

abbrev fine : Store → Result Store Why
fine t = Ok t

abbrev seen : Block → Result Block Why
seen x = Ok x

written_ok : (first : Bool) (f : Shape) (s t : Store) (b o : ℕ) (v : Value) → write first f s b o v ≡ Ok t → Written f s b o v t
written_ok first f s t b o v h = outer (bind_ok (reached_to_write first (s b) o (size_in f)) (λ x. Ok (set_block s b (with_value f x o v))) t h)
  where
    inner : (x : Block) → fine (set_block s b (with_value f x o v)) ≡ fine t → ((y : Block) × (reached (s b) o (size_in f) ≡ seen y) × (writable first y ≡ seen x)) → Written f s b o v t
    inner x e (y, r, q) = let same : y ≡ x = writable_ok first y x q in record { at = x; reach = reached_ok (s b) o (size_in f) x (rw (← same) r); after = cc }

    outer : ((x : Block) × (reached_to_write first (s b) o (size_in f) ≡ seen x) × (fine (set_block s b (with_value f x o v)) ≡ fine t)) → Written f s b o v t
    outer (x, r, e) = inner x e (bind_ok (reached (s b) o (size_in f)) (writable first) x r)

read_written : (f : Shape) (s t : Store) (b o : ℕ) (v w : Value) → Holds f v w → Written f s b o v t → read f t b o ≡ Ok w
read_written f s t b o v w h g = rw (g.after, own_block s b (with_value f g.at o v), g.reach.lives, g.reach.inside) (held_read f v w g.at.cells o h)

pub stored_is_read : StoredIsRead
stored_is_read first f s t b o v w h e = read_written f s t b o v w h (written_ok first f s t b o v e)

differs_in : (f : Shape) (x : Block) (o : ℕ) (v : Value) → DiffersIn o (size_in f) x (with_value f x o v)
differs_in f x o v = record { same_size = refl; same_holds = refl; same_life = refl; same_seal = refl; same_before = λ p h. set_before x.cells (new_cells f v x.cells o) o (size_in f) p h; same_behind = λ p h. set_behind x.cells (new_cells f v x.cells o) o (size_in f) p h }

changes_only : (f : Shape) (s t : Store) (b o : ℕ) (v : Value) → Written f s b o v t → ChangesOnly s t b o (size_in f)
changes_only f s t b o v g = rw g.after (record { other_blocks = λ c h. other_block s b c (with_value f g.at o v) h; own_block = rw (g.reach.there, same_block b) (differs_in f g.at o v) })

pub stores_stay : StoresStay
stores_stay first f s t b o v e = changes_only f s t b o v (written_ok first f s t b o v e)
