-- Blocks stay under every change of the store: as large, as sealed, and ended where they had ended.
use Rattle.std.proofs.Common.{◌≡◌, ℕ, ◌+◌, refl, Bool, true, false, ◌∙◌, arith}
use Rattle.std.specs.Prelude.{Result, Ok, Err, Option, Some, None, ⊤, if◌then◌else◌, ◌==◌, nat_le}
use Rattle.c65_meaning.specs.declared.action.Action.{Action}
use Rattle.c65_meaning.specs.declared.action.Action.TheVariants.{OutsideObject, ReadOnly, EndedObject, LibraryArgument}
use Rattle.c65_meaning.specs.Why.{Why, By, ◌>>=◌}
use Rattle.c65_meaning.specs.Store.{Cell, Block, Store, Value, Whole, Null, Place, Opaque, Cells, NoValue, Shape, byte, size_in, set_block, set_cells, reached_or, reached, writable, with_value, with_cell, write, put_cell, carry, end_in, end_block}
use Rattle.c65_meaning.specs.Library.{area, filled, overlap, copied_area, filled_area}
use Rattle.c65_meaning.specs.Laws.{IsLaterBlock, IsLaterIn}

pub same_later : (m : Option Block) → IsLaterIn m m
same_later None = tt
same_later (Some x) = record { same_size = refl; same_holds = refl; same_seal = refl; stays_ended = λ h. h }

pub later_twice : (l m n : Option Block) → IsLaterIn l m → IsLaterIn m n → IsLaterIn l n
later_twice None None None h g = tt
later_twice None None (Some z) h g = absurd g
later_twice None (Some y) n h g = absurd h
later_twice (Some x) None n h g = absurd h
later_twice (Some x) (Some y) None h g = absurd g
later_twice (Some x) (Some y) (Some z) h g = record { same_size = g.same_size ∙ h.same_size; same_holds = g.same_holds ∙ h.same_holds; same_seal = g.same_seal ∙ h.same_seal; stays_ended = λ e. g.stays_ended (h.stays_ended e) }

-- every block of a store is in the other one, some time later
abbrev pub Keeps : Store → Store → Type 0
Keeps s t = (b : ℕ) → IsLaterIn (s b) (t b)

abbrev pub KeepsIf : Store → Result Store Why → Type 0
KeepsIf s (Ok t) = Keeps s t
KeepsIf s (Err why) = ⊤

-- a block in the place of an earlier one
in_place : (s : Store) (b a : ℕ) (x y : Block) (t : Bool) → (a == b) ≡ t → s b ≡ Some x → IsLaterBlock x y → IsLaterIn (s a) (if t then Some y else s a)
in_place s b a x y true e h g = let same : a ≡ b = grind arith in rw (same, h) g
in_place s b a x y false e h g = same_later (s a)

set_keeps : (s : Store) (b : ℕ) (x y : Block) → s b ≡ Some x → IsLaterBlock x y → Keeps s (set_block s b y)
set_keeps s b x y h g a = in_place s b a x y (a == b) refl h g

-- a change of a block that is reached, where the changed block is a later one
module _ (s : Store) (b : ℕ) (change : Block → Block) (keeps : (x : Block) → IsLaterBlock x (change x)) where
  open_keeps : (x : Block) → s b ≡ Some x → (q : Bool) → KeepsIf s ((if q then Err (By ReadOnly) else Ok x) >>= λ y. Ok (set_block s b (change y)))
  open_keeps x h true = tt
  open_keeps x h false = set_keeps s b x (change x) h (keeps x)

  first_keeps : (x : Block) → s b ≡ Some x → (first : Bool) → KeepsIf s (writable first x >>= λ y. Ok (set_block s b (change y)))
  first_keeps x h true = set_keeps s b x (change x) h (keeps x)
  first_keeps x h false = open_keeps x h x.sealed

  room_keeps : (action : Action) (x : Block) → s b ≡ Some x → (first i l : Bool) → KeepsIf s ((if l then (if i then Ok x else Err (By action)) else Err (By EndedObject)) >>= writable first >>= λ y. Ok (set_block s b (change y)))
  room_keeps action x h first i false = tt
  room_keeps action x h first false true = tt
  room_keeps action x h first true true = first_keeps x h first

  change_keeps : (m : Option Block) → s b ≡ m → (action : Action) (first : Bool) (o n : ℕ) → KeepsIf s (reached_or action m o n >>= writable first >>= λ y. Ok (set_block s b (change y)))
  change_keeps None h action first o n = tt
  change_keeps (Some x) h action first o n = room_keeps action x h first (nat_le (o + n) x.holds) x.live

-- other cells alone
new_cells_later : (x : Block) (cells : ℕ → Cell) → IsLaterBlock x (record x { cells = cells })
new_cells_later x cells = record { same_size = refl; same_holds = refl; same_seal = refl; stays_ended = λ h. h }

pub write_keeps : (first : Bool) (f : Shape) (s : Store) (b o : ℕ) (v : Value) → KeepsIf s (write first f s b o v)
write_keeps first f s b o v = change_keeps s b (λ x. with_value f x o v) (λ x. new_cells_later x _) (s b) refl OutsideObject first o (size_in f)

pub put_cell_keeps : (first : Bool) (s : Store) (b o : ℕ) (c : Cell) → KeepsIf s (put_cell first s b o c)
put_cell_keeps first s b o c = change_keeps s b (λ x. with_cell x o c) (λ x. new_cells_later x _) (s b) refl OutsideObject first o 1

then_keeps : (s : Store) (r : Result Block Why) (f : Block → Result Store Why) → ((x : Block) → KeepsIf s (f x)) → KeepsIf s (r >>= f)
then_keeps s (Err why) f h = tt
then_keeps s (Ok x) f h = h x

pub carry_keeps : (first : Bool) (s : Store) (b o c p : ℕ) → KeepsIf s (carry first s b o c p)
carry_keeps first s b o c p = then_keeps s (reached (s b) o 1) (λ x. put_cell first s c p (x.cells o)) (λ x. put_cell_keeps first s c p (x.cells o))

filled_keeps : (s : Store) (b o n : ℕ) (new : ℕ → Cell) → KeepsIf s (filled s b o n new)
filled_keeps s b o n new = change_keeps s b (λ x. record x { cells = set_cells x.cells o n new }) (λ x. new_cells_later x _) (s b) refl LibraryArgument false o n

apart_keeps : (s : Store) (b o c p n : ℕ) (t : Bool) → KeepsIf s (if t then Err (By LibraryArgument) else (area s b o n >>= λ x. filled s c p n (λ i. x.cells (o + i))))
apart_keeps s b o c p n true = tt
apart_keeps s b o c p n false = then_keeps s (area s b o n) (λ x. filled s c p n (λ i. x.cells (o + i))) (λ x. filled_keeps s c p n (λ i. x.cells (o + i)))

pub copied_keeps : (s : Store) (to from : Value) (n : ℕ) → KeepsIf s (copied_area s to from n)
copied_keeps s (Place c p) (Place b o) n = apart_keeps s b o c p n (overlap n b o c p)
copied_keeps s (Place c p) (Whole z) n = tt
copied_keeps s (Place c p) Null n = tt
copied_keeps s (Place c p) Opaque n = tt
copied_keeps s (Place c p) (Cells xs) n = tt
copied_keeps s (Place c p) NoValue n = tt
copied_keeps s (Whole z) from n = tt
copied_keeps s Null from n = tt
copied_keeps s Opaque from n = tt
copied_keeps s (Cells xs) from n = tt
copied_keeps s NoValue from n = tt

pub filled_area_keeps : (s : Store) (to : Value) (n v : ℕ) → KeepsIf s (filled_area s to n v)
filled_area_keeps s (Place b o) n v = filled_keeps s b o n (λ i. byte v)
filled_area_keeps s (Whole z) n v = tt
filled_area_keeps s Null n v = tt
filled_area_keeps s Opaque n v = tt
filled_area_keeps s (Cells xs) n v = tt
filled_area_keeps s NoValue n v = tt

end_in_keeps : (s : Store) (b : ℕ) (m : Option Block) → s b ≡ m → Keeps s (end_in s b m)
end_in_keeps s b None h a = same_later (s a)
end_in_keeps s b (Some x) h a = set_keeps s b x (record x { live = false }) h (record { same_size = refl; same_holds = refl; same_seal = refl; stays_ended = λ h. refl }) a

pub end_keeps : (s : Store) (b : ℕ) → Keeps s (end_block s b)
end_keeps s b = end_in_keeps s b (s b) refl
