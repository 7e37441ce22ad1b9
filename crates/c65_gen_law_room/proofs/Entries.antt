-- What entries take beside their objects.
use Rattle.std.proofs.Common.{◌≡◌, ℕ, zero, suc, ◌+◌, ◌-◌, ◌≤◌, Bool, true, false, Option, None, Some, List, [], ◌∷◌, ◌++◌, length, take, slice_get, slice_set, refl, sym, ap, subst, ◌∙◌, arith}
use Rattle.std.specs.Prelude.{if◌then◌else◌, nat_lt, nat_le, Ok, Err}
use Rattle.std.proofs.lemmas.Bool.{ltb-false}
use Rattle.c65_base.specs.declared.refusal.Size.TheVariants as sizes
use Rattle.c65_base.specs.Answers.{large}
use Rattle.c65_csem.specs.declared.items.Parts.{Parts}
use Rattle.c65_csem.specs.Trees.{FuncTy}
use Rattle.c65_ctype.specs.Views.{types_of}
use Rattle.c65_genframe.specs.declared.home.Home.{Home}
use Rattle.c65_genframe.specs.declared.home.Home.TheVariants.{Bank, Soft}
use Rattle.c65_genframe.specs.declared.home.Arrival.{Arrival}
use Rattle.c65_genframe.specs.declared.home.Moved.{Moved}
use Rattle.c65_genframe.specs.Places.{Places, none_placed}
use Rattle.c65_genframe.specs.Arrivals.{Arrivals, arrive, with_slot, arrived}
use Rattle.c65_genframe.specs.Sizes.{object_in, slot_bytes, bank_bytes}
use Rattle.c65_genframe.specs.Marks.{lowest, all_marks}
use Rattle.c65_genframe.specs.Objects.{locals_of}
use Rattle.c65_genframe.specs.Frames.{Framed, has_prototype, is_variadic, takes_stack, register_param, flat, home_at, arrival_at, arrival, is_kept, last_bytes, without_last, bytes_without, saved_bytes, first_arrivals, check_of, settled, passed_bytes, placed_in, all_bytes}
use Rattle.c65_gen_law_room.specs.Room.{kept_bytes, moved_bytes, EntriesTakeTheirObjects}
use Rattle.c65_gen_law_room.proofs.Placed.{bytes_there, banked, Placed, all_placed}
use Rattle.c65_gen_law_room.proofs.Marked.{in_bank, all_spent, all_banked}

-- ---- parameters that move

pub moved_more : (ms : List Moved) (m : Moved) → moved_bytes (ms ++ m ∷ []) ≡ moved_bytes ms + m.bytes
moved_more [] m = omega arith
moved_more (x ∷ ms) m = omega (arith, moved_more ms m)

-- the same homes in regbank
abbrev pub SameBank : List (Option Home) → List (Option Home) → Type 0
SameBank a b = (k n : ℕ) → bytes_there n (flat (slice_get a k)) ≡ bytes_there n (flat (slice_get b k))

soft_set : (hs : List (Option Home)) (k d o : ℕ) → slice_get hs k ≡ Some (Some (Soft o)) → SameBank (slice_set hs k (Some (Soft d))) hs
soft_set [] k d o e j n = refl
soft_set (None ∷ hs) zero d o e j n = absurd cc
soft_set (Some (Bank b) ∷ hs) zero d o e j n = absurd cc
soft_set (Some (Soft c) ∷ hs) zero d o e zero n = refl
soft_set (Some (Soft c) ∷ hs) zero d o e (suc j) n = refl
soft_set (h ∷ hs) (suc k) d o e zero n = refl
soft_set (h ∷ hs) (suc k) d o e (suc j) n = soft_set hs k d o e j n

record Arrives (bytes : ℕ) (a b : Arrivals) : Type 0 where
  homes : SameBank b.homes a.homes
  moved : moved_bytes b.moved ≡ moved_bytes a.moved + bytes

arrives : (from at bank left : ℕ) (h : Option (Option Home)) (a : Arrivals) → slice_get a.homes at ≡ h → Arrives (bytes_there bank (flat h)) a (arrive from at bank h left a)
arrives from at bank left (Some (Some (Bank b))) a e = record { homes = λ k n. refl; moved = moved_more a.moved (record { bank = b; from = from; bytes = bank }) }
arrives from at bank left (Some (Some (Soft o))) a e = record { homes = soft_set a.homes at from o e; moved = omega arith }
arrives from at bank left (Some None) a e = record { homes = λ k n. refl; moved = omega arith }
arrives from at bank left None a e = record { homes = λ k n. refl; moved = omega arith }

pub all_arrive : (parts : Parts) (prototype : Bool) (low base : ℕ) (hs : List (Option Home)) (ps : List ℕ) (a : Arrivals) → SameBank a.homes hs → moved_bytes (arrived parts prototype low base ps a).moved ≡ moved_bytes a.moved + in_bank parts low hs ps
all_arrive parts prototype low base hs [] a same = omega arith
all_arrive parts prototype low base hs (i ∷ ps) a same =
    let slot : ℕ = slot_bytes (types_of parts.types) prototype (object_in parts i) in
    let bank : ℕ = bank_bytes true (object_in parts i) in
    let b : Arrivals = with_slot base (i - low) slot bank a in
    let first : Arrives (bytes_there bank (flat (slice_get a.homes (i - low)))) a b = arrives (base + (a.left - slot)) (i - low) bank (a.left - slot) (slice_get a.homes (i - low)) a refl in
    let rest : moved_bytes (arrived parts prototype low base ps b).moved ≡ moved_bytes b.moved + in_bank parts low hs ps = all_arrive parts prototype low base hs ps b (λ k n. first.homes k n ∙ same k n) in
    omega (arith, first.moved, rest, same (i - low) bank)

-- ---- the last parameter

last_in_bank : (parts : Parts) (low : ℕ) (hs : List (Option Home)) (is : List ℕ) (n i : ℕ) → slice_get is n ≡ Some i → suc n ≡ length is
    → in_bank parts low hs is ≡ in_bank parts low hs (take n is) + bytes_there (bank_bytes true (object_in parts i)) (flat (slice_get hs (i - low)))
last_in_bank parts low hs [] n i e l = absurd cc
last_in_bank parts low hs (j ∷ []) zero i e l =
    let same : j ≡ i = cc in
    omega (arith, ap (λ (n : ℕ). bytes_there (bank_bytes true (object_in parts n)) (flat (slice_get hs (n - low)))) same)
last_in_bank parts low hs (j ∷ k ∷ is) zero i e l = absurd (omega (arith, l))
last_in_bank parts low hs (j ∷ is) (suc n) i e l = omega (arith, last_in_bank parts low hs is n i e (omega (arith, l)))

some_there : (is : List ℕ) (k i : ℕ) → slice_get is k ≡ Some i → 1 ≤ length is
some_there [] k i e = absurd cc
some_there (j ∷ is) k i e = omega arith

home_there : (low i : ℕ) (hs : List (Option Home)) (bank : ℕ) → home_at low hs i ≡ Some (Bank bank) → flat (slice_get hs (i - low)) ≡ Some (Bank bank)
home_there low i hs bank e = by (nat_le low i) e
  where
    by : (b : Bool) → (if b then flat (slice_get hs (i - low)) else None) ≡ Some (Bank bank) → flat (slice_get hs (i - low)) ≡ Some (Bank bank)
    by true e = e
    by false e = absurd cc

-- what is kept is that of the last parameter in regbank
kept_there : (parts : Parts) (prototype : Bool) (low i : ℕ) (hs : List (Option Home)) (is : List ℕ) (home : Option Home) → slice_get is (length is - 1) ≡ Some i → home_at low hs i ≡ home
    → in_bank parts low hs is ≡ in_bank parts low hs (without_last (is_kept (arrival_at parts prototype i home)) is) + kept_bytes (arrival_at parts prototype i home)
kept_there parts prototype low i hs is (Some (Bank bank)) there e =
    let home : flat (slice_get hs (i - low)) ≡ Some (Bank bank) = home_there low i hs bank e in
    let some : suc (length is - 1) ≡ length is = omega (arith, some_there is (length is - 1) i there) in
    omega (arith, last_in_bank parts low hs is (length is - 1) i there some, ap (bytes_there (bank_bytes true (object_in parts i))) home)
kept_there parts prototype low i hs is (Some (Soft d)) there e = omega arith
kept_there parts prototype low i hs is None there e = omega arith

chosen : (b : Bool) (o : Option ℕ) (i : ℕ) → (if b then None else o) ≡ Some i → o ≡ Some i
chosen true o i e = absurd cc
chosen false o i e = e

pub kept_by : (parts : Parts) (prototype : Bool) (low : ℕ) (hs : List (Option Home)) (g : FuncTy) (o : Option ℕ) → register_param g ≡ o
    → in_bank parts low hs g.params ≡ in_bank parts low hs (without_last (is_kept (arrival parts prototype low hs o)) g.params) + kept_bytes (arrival parts prototype low hs o)
kept_by parts prototype low hs g None e = omega arith
kept_by parts prototype low hs g (Some i) e = kept_there parts prototype low i hs g.params (home_at low hs i) (chosen (takes_stack g.ty) (slice_get g.params (length g.params - 1)) i e) refl

-- ---- the frame

answered : {A E : Type 0} (b : Bool) (x : E) (y f : A) → (if b then Err x else Ok y) ≡ Ok f → y ≡ f
answered true x y f h = absurd cc
answered false x y f h = cc

saved_within : (bank : ℕ) → saved_bytes bank ≤ bank
saved_within bank = by (nat_lt bank 6) refl
  where
    by : (b : Bool) → nat_lt bank 6 ≡ b → (if b then bank else 6) ≤ bank
    by true e = omega arith
    by false e = ltb-false bank 6 e

pub entries_take_their_objects : EntriesTakeTheirObjects
entries_take_their_objects parts modes g f h =
    let p : Places = placed_in parts modes g in
    let low : ℕ = lowest (locals_of g) g.params in
    let passed : ℕ = passed_bytes parts g in
    let prototype : Bool = has_prototype g.ty in
    let last : Arrival = arrival parts prototype low p.homes (register_param g) in
    let is : settled parts (check_of parts modes g) g low passed p ≡ f = answered (nat_lt 1024 p.total) (large sizes.Frame p.total) (settled parts (check_of parts modes g) g low passed p) f h in
    let placed : Placed parts low (all_marks (locals_of g) g.params) (none_placed (is_variadic g.ty) passed) p = all_placed parts modes low (all_marks (locals_of g) g.params) (none_placed (is_variadic g.ty) passed) in
    let same : placed.new ≡ p.homes = sym placed.homes in
    let arrivals : Arrivals = first_arrivals p (bytes_without (is_kept last) passed (last_bytes parts prototype (register_param g))) in
    let moves = all_arrive parts prototype low (p.soft + saved_bytes p.bank) p.homes (without_last (is_kept last) g.params) arrivals (λ k n. refl) in
    let keeps = kept_by parts prototype low p.homes g (register_param g) refl in
    let params = all_banked parts (locals_of g) g.params p.homes in
    let there = ap (λ (hs : List (Option Home)). banked parts low (all_marks (locals_of g) g.params) hs) same in
    let all : saved_bytes p.bank + p.soft ≤ all_bytes parts (locals_of g) + (kept_bytes last + moved_bytes (arrived parts prototype low (p.soft + saved_bytes p.bank) (without_last (is_kept last) g.params) arrivals).moved) + (if is_variadic g.ty then 1 else 0) =
    omega (arith, saved_within p.bank, placed.bytes, all_spent parts (locals_of g) g.params, params, there, keeps, moves) in
    subst (λ (x : Framed). saved_bytes x.bank + x.soft ≤ all_bytes parts (locals_of g) + (kept_bytes x.last + moved_bytes x.moved) + (if x.variadic then 1 else 0)) is all
