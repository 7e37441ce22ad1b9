-- The turns in which the items of a list go to elements and members.
use Rattle.std.proofs.Common.{◌≡◌, ℕ, zero, suc, ◌+◌, ◌-◌, ◌<◌, ◌≤◌, List, [], ◌∷◌, length, map, get_or, Bool, true, false, Option, Some, None, refl, sym, ap, ◌∙◌, subst, arith, lt-ltb, le-ltb, Vec, Global, Ok, Err}
use Rattle.c65_base.specs.declared.code.Code.TheVariants.{Initialiser as InitialiserCode}
use Rattle.c65_base.specs.declared.refusal.Pos.{Pos}
use Rattle.std.specs.Prelude.{Result, ◌&&◌, nat_lt, slice_get, if◌then◌else◌}
use Rattle.std.proofs.lemmas.List.{length-map}
use Rattle.c65_base.specs.declared.refusal.Refusal.{Refusal}
use Rattle.c65_base.specs.Answers.{Fault, Fails, at, ◌>>=◌}
use Rattle.c65_ctype.specs.Trees.{QTy}
use Rattle.c65_tree.specs.declared.stmt.Initialiser.{Initialiser}
use Rattle.c65_tree.specs.Trees as t
use Rattle.c65_tree.specs.declared.stmt.InitKind.TheVariants as k
use Rattle.c65_tree.specs.View.{init_of, init_at}
use Rattle.c65_tree.proofs.Views.{list_view}
use Rattle.c65_elab.proofs.Walks.{fails_bind, then_ok, then_fails}
use Rattle.c65_init_cells.proofs.ItemLaws.{place_is, items_are}
use Rattle.c65_init_cells.specs.Cells.{is_below}
use Rattle.c65_init_cells.specs.Parts.{PartTy, element_at, next_member}
use Rattle.c65_init_cells.specs.Sinks.{next}
use Rattle.c65_init.specs.Initials.{Begun, Filling, elements_of, or_end, members_of, all_taken, list_of, braced_of, from_item, one_of}

chosen : {A : Type 0} (b : Bool) (x y : A) → b ≡ true → (if b then x else y) ≡ x
chosen b x y h = ap (λ c. if c then x else y) h

passed : {A : Type 0} (b : Bool) (x y : A) → b ≡ false → (if b then x else y) ≡ y
passed b x y h = ap (λ c. if c then x else y) h

both : (a b : Bool) → a ≡ true → b ≡ true → (a && b) ≡ true
both true b h k = k
both false b h k = h

not_first : (a b : Bool) → a ≡ false → (a && b) ≡ false
not_first true b h = absurd cc
not_first false b h = refl

not_second : (a b : Bool) → b ≡ false → (a && b) ≡ false
not_second true b h = h
not_second false b h = refl

-- ---- places in a list

pub below : (is : List Initialiser) (j : ℕ) → j < length is → nat_lt j (length (map init_of is)) ≡ true
below is j h = ap (nat_lt j) (length-map is init_of) ∙ lt-ltb j (length is) h

pub beyond : (is : List Initialiser) (j : ℕ) → length is ≤ j → nat_lt j (length (map init_of is)) ≡ false
beyond is j h = ap (nat_lt j) (length-map is init_of) ∙ le-ltb j (length is) h

pub item_there : (is : List Initialiser) (j : ℕ) (x : Initialiser) → j < length is → x ≡ get_or is j x → slice_get (map init_of is) j ≡ Some (init_of x)
item_there [] j x h is = absurd (omega (arith, h))
item_there (y ∷ ys) zero x h is = ap (λ z. Some (init_of z)) (sym is)
item_there (y ∷ ys) (suc j) x h is = item_there ys j x (omega (arith, h)) is

pub no_item : (is : List Initialiser) (j : ℕ) → length is ≤ j → slice_get (map init_of is) j ≡ None
no_item [] j h = refl
no_item (y ∷ ys) zero h = absurd (omega (arith, h))
no_item (y ∷ ys) (suc j) h = no_item ys j (omega (arith, h))

pub left_over : (is : List Initialiser) (j : ℕ) (x : Initialiser) → j < length is → x ≡ get_or is j x → all_taken (slice_get (map init_of is) j) ≡ Err (at InitialiserCode x.pos)
left_over is j x h there = ap all_taken (item_there is j x h there) ∙ ap (λ (l : Pos). Err (at InitialiserCode l)) (place_is x.pos x.kind)

pub none_left_over : (is : List Initialiser) (j : ℕ) → length is ≤ j → all_taken (slice_get (map init_of is) j) ≡ Ok tt
none_left_over is j h = ap all_taken (no_item is j h)

-- ---- lists

pub braced_list : (one : Filling) (part : PartTy) (l : Pos) (is : Vec Initialiser Global) (s : Begun) → braced_of one part (init_at l (k.List is)) s ≡ list_of one part (map init_of is.items) s
braced_list one part l is s = ap (λ (i : t.InitTree). braced_of one part i s) (list_view l is) ∙ ap (λ (xs : List t.InitTree). list_of one part xs s) (items_are is.items)

turn_left : (n turn : ℕ) → turn < n → n - turn ≡ suc (n - (turn + 1))
turn_left n turn h = omega (arith, h)

-- ---- elements

abbrev element_step : Filling → QTy → ℕ → ℕ → Option ℕ → List t.InitTree → ℕ → ℕ → ℕ → Begun → Result ((ℕ × ℕ) × Begun) Fault
element_step one el base size count items m j taken s = element_at el base size taken >>= (λ part. one part items j s >>= (λ x. elements_of one el base size count items m x.0 (next taken) x.1))

element_goes : (one : Filling) (el : QTy) (base size : ℕ) (count : Option ℕ) (is : List Initialiser) (turn j taken : ℕ) (s : Begun) → turn < length is → j < length is → is_below taken count ≡ true → elements_of one el base size count (map init_of is) (length is - turn) j taken s ≡ element_step one el base size count (map init_of is) (length is - (turn + 1)) j taken s
element_goes one el base size count is turn j taken s h k room =
    ap (λ n. elements_of one el base size count (map init_of is) n j taken s) (turn_left (length is) turn h)
    ∙ chosen (nat_lt j (length (map init_of is)) && is_below taken count) (element_step one el base size count (map init_of is) (length is - (turn + 1)) j taken s) (Ok ((j, taken), s)) (both (nat_lt j (length (map init_of is))) (is_below taken count) (below is j k) room)

pub element_next : (one : Filling) (el : QTy) (base size : ℕ) (count : Option ℕ) (is : List Initialiser) (turn j taken i : ℕ) (s u : Begun) (part : PartTy) → turn < length is → j < length is → is_below taken count ≡ true → element_at el base size taken ≡ Ok part → one part (map init_of is) j s ≡ Ok (i, u) → elements_of one el base size count (map init_of is) (length is - turn) j taken s ≡ elements_of one el base size count (map init_of is) (length is - (turn + 1)) i (next taken) u
element_next one el base size count is turn j taken i s u part h k room made filled =
    element_goes one el base size count is turn j taken s h k room
    ∙ then_ok (element_at el base size taken) part (λ q. one q (map init_of is) j s >>= (λ x. elements_of one el base size count (map init_of is) (length is - (turn + 1)) x.0 (next taken) x.1)) _ made
    (then_ok (one part (map init_of is) j s) (i, u) (λ x. elements_of one el base size count (map init_of is) (length is - (turn + 1)) x.0 (next taken) x.1) _ filled refl)

pub element_unmade : (e : Refusal) (one : Filling) (el : QTy) (base size : ℕ) (count : Option ℕ) (is : List Initialiser) (turn j taken : ℕ) (s : Begun) → turn < length is → j < length is → is_below taken count ≡ true → Fails e (element_at el base size taken) → Fails e (elements_of one el base size count (map init_of is) (length is - turn) j taken s)
element_unmade e one el base size count is turn j taken s h k room made =
    subst (Fails e) (sym (element_goes one el base size count is turn j taken s h k room))
    (fails_bind e (element_at el base size taken) (λ q. one q (map init_of is) j s >>= (λ x. elements_of one el base size count (map init_of is) (length is - (turn + 1)) x.0 (next taken) x.1)) made)

pub element_refused : (e : Refusal) (one : Filling) (el : QTy) (base size : ℕ) (count : Option ℕ) (is : List Initialiser) (turn j taken : ℕ) (s : Begun) (part : PartTy) → turn < length is → j < length is → is_below taken count ≡ true → element_at el base size taken ≡ Ok part → Fails e (one part (map init_of is) j s) → Fails e (elements_of one el base size count (map init_of is) (length is - turn) j taken s)
element_refused e one el base size count is turn j taken s part h k room made stops =
    subst (Fails e) (sym (element_goes one el base size count is turn j taken s h k room))
    (then_fails e (element_at el base size taken) part (λ q. one q (map init_of is) j s >>= (λ x. elements_of one el base size count (map init_of is) (length is - (turn + 1)) x.0 (next taken) x.1)) made
    (fails_bind e (one part (map init_of is) j s) (λ x. elements_of one el base size count (map init_of is) (length is - (turn + 1)) x.0 (next taken) x.1) stops))

elements_stop : (one : Filling) (el : QTy) (base size : ℕ) (count : Option ℕ) (items : List t.InitTree) (turns j taken : ℕ) (s : Begun) → (nat_lt j (length items) && is_below taken count) ≡ false → elements_of one el base size count items turns j taken s ≡ Ok ((j, taken), s)
elements_stop one el base size count items zero j taken s h = refl
elements_stop one el base size count items (suc turns) j taken s h = passed (nat_lt j (length items) && is_below taken count) (element_step one el base size count items turns j taken s) (Ok ((j, taken), s)) h

pub elements_taken : (one : Filling) (el : QTy) (base size : ℕ) (count : Option ℕ) (is : List Initialiser) (turns j taken : ℕ) (s : Begun) → length is ≤ j → elements_of one el base size count (map init_of is) turns j taken s ≡ Ok ((j, taken), s)
elements_taken one el base size count is turns j taken s h = elements_stop one el base size count (map init_of is) turns j taken s (not_first (nat_lt j (length (map init_of is))) (is_below taken count) (beyond is j h))

pub elements_full : (one : Filling) (el : QTy) (base size : ℕ) (count : Option ℕ) (is : List Initialiser) (turns j taken : ℕ) (s : Begun) → is_below taken count ≡ false → elements_of one el base size count (map init_of is) turns j taken s ≡ Ok ((j, taken), s)
elements_full one el base size count is turns j taken s h = elements_stop one el base size count (map init_of is) turns j taken s (not_second (nat_lt j (length (map init_of is))) (is_below taken count) h)

pub elements_done : (one : Filling) (el : QTy) (base size : ℕ) (count : Option ℕ) (items : List t.InitTree) (n turn j taken : ℕ) (s : Begun) → n ≤ turn → elements_of one el base size count items (n - turn) j taken s ≡ Ok ((j, taken), s)
elements_done one el base size count items n turn j taken s h =
    let none : n - turn ≡ 0 = omega (arith, h) in
    ap (λ k. elements_of one el base size count items k j taken s) none

-- ---- members

abbrev member_step : Filling → ℕ → ℕ → List t.InitTree → ℕ → ℕ → Begun → PartTy × ℕ → Result (ℕ × Begun) Fault
member_step one n base items turns j s m = one m.0 items j s >>= (λ x. members_of one n base items turns x.0 m.1 x.1)

member_goes : (one : Filling) (n base : ℕ) (is : List Initialiser) (turn j from : ℕ) (s : Begun) → turn < length is → j < length is → members_of one n base (map init_of is) (length is - turn) j from s ≡ or_end (next_member s.1.unit.types n base from) (j, s) (member_step one n base (map init_of is) (length is - (turn + 1)) j s)
member_goes one n base is turn j from s h k =
    ap (λ turns. members_of one n base (map init_of is) turns j from s) (turn_left (length is) turn h)
    ∙ chosen (nat_lt j (length (map init_of is))) (or_end (next_member s.1.unit.types n base from) (j, s) (member_step one n base (map init_of is) (length is - (turn + 1)) j s)) (Ok (j, s)) (below is j k)

pub member_next : (one : Filling) (n base : ℕ) (is : List Initialiser) (turn j from i behind : ℕ) (s u : Begun) (part : PartTy) → turn < length is → j < length is → next_member s.1.unit.types n base from ≡ Some (part, behind) → one part (map init_of is) j s ≡ Ok (i, u) → members_of one n base (map init_of is) (length is - turn) j from s ≡ members_of one n base (map init_of is) (length is - (turn + 1)) i behind u
member_next one n base is turn j from i behind s u part h k there filled =
    member_goes one n base is turn j from s h k
    ∙ ap (λ m. or_end m (j, s) (member_step one n base (map init_of is) (length is - (turn + 1)) j s)) there
    ∙ then_ok (one part (map init_of is) j s) (i, u) (λ x. members_of one n base (map init_of is) (length is - (turn + 1)) x.0 behind x.1) _ filled refl

pub member_refused : (e : Refusal) (one : Filling) (n base : ℕ) (is : List Initialiser) (turn j from behind : ℕ) (s : Begun) (part : PartTy) → turn < length is → j < length is → next_member s.1.unit.types n base from ≡ Some (part, behind) → Fails e (one part (map init_of is) j s) → Fails e (members_of one n base (map init_of is) (length is - turn) j from s)
member_refused e one n base is turn j from behind s part h k there stops =
    subst (Fails e) (sym (member_goes one n base is turn j from s h k ∙ ap (λ m. or_end m (j, s) (member_step one n base (map init_of is) (length is - (turn + 1)) j s)) there))
    (fails_bind e (one part (map init_of is) j s) (λ x. members_of one n base (map init_of is) (length is - (turn + 1)) x.0 behind x.1) stops)

pub members_over : (one : Filling) (n base : ℕ) (is : List Initialiser) (turn j from : ℕ) (s : Begun) → turn < length is → j < length is → next_member s.1.unit.types n base from ≡ None → members_of one n base (map init_of is) (length is - turn) j from s ≡ Ok (j, s)
members_over one n base is turn j from s h k over =
    member_goes one n base is turn j from s h k
    ∙ ap (λ m. or_end m (j, s) (member_step one n base (map init_of is) (length is - (turn + 1)) j s)) over

pub members_taken : (one : Filling) (n base : ℕ) (is : List Initialiser) (turns j from : ℕ) (s : Begun) → length is ≤ j → members_of one n base (map init_of is) turns j from s ≡ Ok (j, s)
members_taken one n base is zero j from s h = refl
members_taken one n base is (suc turns) j from s h = passed (nat_lt j (length (map init_of is))) (or_end (next_member s.1.unit.types n base from) (j, s) (member_step one n base (map init_of is) turns j s)) (Ok (j, s)) (beyond is j h)

pub members_done : (one : Filling) (n base : ℕ) (items : List t.InitTree) (most turn j from : ℕ) (s : Begun) → most ≤ turn → members_of one n base items (most - turn) j from s ≡ Ok (j, s)
members_done one n base items most turn j from s h =
    let none : most - turn ≡ 0 = omega (arith, h) in
    ap (λ k. members_of one n base items k j from s) none

-- ---- one part

pub one_past : (n : ℕ) (part : PartTy) (is : List Initialiser) (j : ℕ) (s : Begun) → length is ≤ j → one_of n part (map init_of is) j s ≡ Ok (j, s)
one_past zero part is j s h = refl
one_past (suc n) part is j s h = ap (λ x. from_item (one_of n) part (map init_of is) j x s) (no_item is j h)

pub one_is : (n m : ℕ) (part : PartTy) (is : List Initialiser) (j : ℕ) (x : Initialiser) (s : Begun) → n ≡ suc m → j < length is → x ≡ get_or is j x → one_of n part (map init_of is) j s ≡ from_item (one_of m) part (map init_of is) j (Some (init_of x)) s
one_is n m part is j x s same h there =
    ap (λ k. one_of k part (map init_of is) j s) same
    ∙ ap (λ i. from_item (one_of m) part (map init_of is) j i s) (item_there is j x h there)
