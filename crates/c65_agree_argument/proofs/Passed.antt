-- Arguments that are there lie where the entry takes their parameters from.
use Rattle.std.proofs.Common.{◌≡◌, ℕ, zero, suc, ◌+◌, ◌<◌, ◌≤◌, Bool, true, false, List, [], ◌∷◌, Option, Some, None, length, refl, sym, ap, ◌∙◌, subst, arith}
use Rattle.std.specs.Prelude.{if◌then◌else◌, slice_get}
use Rattle.c65_ctype.specs.Trees.{Ty, void, int, pointer, array, tag, function, TypesTy, type_in}
use Rattle.c65_csem.specs.Trees.{ObjectTy}
use Rattle.c65_meaning.specs.Store.{Cell, Value, size_in, cell_of, new_cells}
use Rattle.c65_meaning.specs.Shapes.{shape_of, object_in, object_shape}
use Rattle.c65_code.specs.declared.parts.Part.TheVariants.{A, X, Zp}
use Rattle.c65_code.specs.LineState.{Bytes, write, State, sp_of, eax_of, IsBytes}
use Rattle.c65_code.specs.Texts.{listed}
use Rattle.c65_code.specs.Rows.{written}
use Rattle.c65_genframe.specs.declared.home.Home.TheVariants.{Soft}
use Rattle.c65_genframe.specs.declared.home.Arrival.{Arrival}
use Rattle.c65_genframe.specs.declared.home.Arrival.TheVariants.{Passed, Pushed, Kept}
use Rattle.c65_genframe.specs.declared.home.Moved.{Moved}
use Rattle.c65_genframe.specs.Frames.{home_of, is_raised, is_kept, saved_bytes}
use Rattle.c65_genframe.specs.Registers.{registers}
use Rattle.c65_genexpr.specs.Arguments.{argument_bytes}
use Rattle.c65_agree_store.specs.Laws.{byte_of}
use Rattle.c65_agree_store.specs.Stands.{At, Placing, CellIs}
use Rattle.c65_agree_state.specs.World.{World, unit_in, Active}
use Rattle.c65_agree_state.specs.Joins.{home_spot, spot_of}
use Rattle.c65_agree_rows.proofs.Quiet.{write_other, listed_are_at, item_is}
use Rattle.c65_agree_put.proofs.Stores.{four_bytes}
use Rattle.c65_agree_frame.specs.Entries.{primary_bytes, arriving}
use Rattle.c65_agree_leave.specs.Laws.{params_in}
use Rattle.c65_agree_registers.specs.Entries.{HasMoves, IsKeptBeside, register_byte}
use Rattle.c65_agree_enter.specs.Params.{shape_in, no_cells}
use Rattle.c65_agree_enter.specs.Laws.{IsAtEntry, with_arriving, LiesAs, IsPassed, on_stack, moving, in_registers, AllPassed}
use Rattle.c65_agree_enter.proofs.Lines.{shape_size}
use Rattle.c65_agree_call.specs.Calls.{IsPassedIn, HasCome}
use Rattle.c65_agree_argument.specs.Arguments.{Argument, LieAt, AreHeld, is_last, waiting_bytes, IsThere, AreThere}
use Rattle.c65_agree_argument.specs.Passed.{all_bytes, held_bytes, arrival_by, ArrivesAs, values_of, AreSmall, IsTakenAt, stays, moves, IsKeptFor, AllTaken, entering, Takes, ArgumentsArePassed}
use Rattle.c65_agree_argument.proofs.Pushed.{primary_length, primary_item}

-- ---- numbers of bytes

split_by : (last : Bool) (n all held wait : ℕ) → all ≡ held + wait → n + all ≡ (if last then n else 0) + held + (argument_bytes last n + wait)
split_by true n all held wait e = omega (arith, e)
split_by false n all held wait e = omega (arith, e)

-- what does not wait is held
pub bytes_split : (fast : Bool) (xs : List Argument) → all_bytes xs ≡ held_bytes fast xs + waiting_bytes fast xs
bytes_split fast [] = refl
bytes_split fast (x ∷ xs) = split_by (is_last fast xs) x.bytes (all_bytes xs) (held_bytes fast xs) (waiting_bytes fast xs) (bytes_split fast xs)

pub none_last : (xs : List Argument) → is_last false xs ≡ false
none_last [] = refl
none_last (x ∷ xs) = refl

-- where none is held all wait
pub all_wait : (xs : List Argument) → waiting_bytes false xs ≡ all_bytes xs
all_wait [] = refl
all_wait (x ∷ xs) = subst (λ (b : Bool). argument_bytes b x.bytes + waiting_bytes false xs ≡ x.bytes + all_bytes xs) (sym (none_last xs)) (omega (arith, all_wait xs))

-- as many arrive
arriving_length : (fast : Bool) (xs : List Argument) (u : State) → AreSmall xs → length (arriving (arrival_by fast xs) u) ≡ held_bytes fast xs
arriving_length fast [] u small = refl
arriving_length true (x ∷ []) u small = let own = primary_length x.bytes u small.0 small.1 in omega (arith, own)
arriving_length false (x ∷ []) u small = refl
arriving_length fast (x ∷ y ∷ ys) u small = let others = arriving_length fast (y ∷ ys) u small.2 in omega (arith, others)

-- ---- what arrives

primary_same : (count : ℕ) (t u : State) → 1 ≤ count → count ≤ 4 → IsPassedIn (registers count) t u → primary_bytes count u ≡ primary_bytes count t
primary_same zero t u least most same = absurd (omega (arith, least))
primary_same (suc zero) t u least most same = rw (sym (same A refl)) refl
primary_same (suc (suc zero)) t u least most same = rw (sym (same A refl), sym (same X refl)) refl
primary_same (suc (suc (suc zero))) t u least most same = rw (sym (same A refl), sym (same X refl), sym (same (Zp 2) refl)) refl
primary_same (suc (suc (suc (suc zero)))) t u least most same = rw (sym (same A refl), sym (same X refl), sym (same (Zp 2) refl), sym (same (Zp 3) refl)) refl
primary_same (suc (suc (suc (suc (suc n))))) t u least most same = absurd (omega (arith, most))

arriving_item : (fast : Bool) (xs : List Argument) (n i : ℕ) (t u : State) → AreSmall xs → n ≡ held_bytes fast xs → IsPassedIn (registers n) t u → IsBytes t → i < n → slice_get (arriving (arrival_by fast xs) u) i ≡ Some (byte_of i (eax_of t))
arriving_item fast [] n i t u small is same b lt = absurd (omega (arith, is, lt))
arriving_item true (x ∷ []) n i t u small is same b lt =
    let own : n ≡ x.bytes = omega (arith, is) in
    ap (λ (bytes : List ℕ). slice_get bytes i) (primary_same x.bytes t u small.0 small.1 (subst (λ m. IsPassedIn (registers m) t u) own same)) ∙ primary_item t (four_bytes t b) x.bytes i small.0 small.1 (omega (arith, own, lt))
arriving_item false (x ∷ []) n i t u small is same b lt = absurd (omega (arith, is, lt))
arriving_item fast (x ∷ y ∷ ys) n i t u small is same b lt = arriving_item fast (y ∷ ys) n i t u small.2 (omega (arith, is)) same b lt

-- memory above what is written is as before
written_above : (m : Bytes) (vs : List ℕ) (at n : ℕ) → at + length vs ≤ n → written m (listed vs at) n ≡ m n
written_above m [] at n le = refl
written_above m (v ∷ vs) at n le = written_above (write m at v) vs (at + 1) n (omega (arith, le)) ∙ write_other m at v n (λ e. omega (arith, e, le))

-- ---- cells

shape_cells : (types : TypesTy) (t : Ty) (v : Value) (cells : ℕ → Cell) (o i : ℕ) → new_cells (shape_of types t) v cells o i ≡ cell_of v i
shape_cells types void v cells o i = refl
shape_cells types (int k) v cells o i = refl
shape_cells types (pointer q) v cells o i = refl
shape_cells types (array q n) v cells o i = refl
shape_cells types (tag n) v cells o i = refl
shape_cells types (function f) v cells o i = refl

pub object_cells : (types : TypesTy) (x : Option ObjectTy) (v : Value) (cells : ℕ → Cell) (o i : ℕ) → new_cells (object_shape types x) v cells o i ≡ cell_of v i
object_cells types None v cells o i = refl
object_cells types (Some x) v cells o i = shape_cells types (type_in x.ty) v cells o i

-- ---- what is kept in registers

first_same : (count : ℕ) (t u : State) → 1 ≤ count → count ≤ 4 → IsPassedIn (registers count) t u → u.regs.a ≡ t.regs.a
first_same zero t u least most same = absurd (omega (arith, least))
first_same (suc zero) t u least most same = sym (same A refl)
first_same (suc (suc zero)) t u least most same = sym (same A refl)
first_same (suc (suc (suc zero))) t u least most same = sym (same A refl)
first_same (suc (suc (suc (suc zero)))) t u least most same = sym (same A refl)
first_same (suc (suc (suc (suc (suc n))))) t u least most same = absurd (omega (arith, most))

second_same : (count : ℕ) (t u : State) → 2 ≤ count → count ≤ 4 → IsPassedIn (registers count) t u → u.regs.x ≡ t.regs.x
second_same zero t u least most same = absurd (omega (arith, least))
second_same (suc zero) t u least most same = absurd (omega (arith, least))
second_same (suc (suc zero)) t u least most same = sym (same X refl)
second_same (suc (suc (suc zero))) t u least most same = sym (same X refl)
second_same (suc (suc (suc (suc zero)))) t u least most same = sym (same X refl)
second_same (suc (suc (suc (suc (suc n))))) t u least most same = absurd (omega (arith, most))

-- the bytes of A and X are those of the primary register
kept_byte : (t u : State) (count o : ℕ) → IsBytes t → count ≤ 4 → IsPassedIn (registers count) t u → o < count → o < 2 → register_byte o u ≡ byte_of o (eax_of t)
kept_byte t u count zero b most same lt two =
    let item : Some t.regs.a ≡ Some (byte_of 0 (eax_of t)) = primary_item t (four_bytes t b) 2 0 (omega arith) (omega arith) (omega arith) in
    let byte : t.regs.a ≡ byte_of 0 (eax_of t) = cc in
    first_same count t u (omega (arith, lt)) most same ∙ byte
kept_byte t u count (suc zero) b most same lt two =
    let item : Some t.regs.x ≡ Some (byte_of 1 (eax_of t)) = primary_item t (four_bytes t b) 2 1 (omega arith) (omega arith) (omega arith) in
    let byte : t.regs.x ≡ byte_of 1 (eax_of t) = cc in
    second_same count t u (omega (arith, lt)) most same ∙ byte
kept_byte t u count (suc (suc o)) b most same lt two = absurd (omega (arith, two))

-- ---- the last one

kept_few : (taken : ℕ) (last : Arrival) (ms : List Moved) (bank bytes : ℕ) → last ≡ Kept bank bytes → IsKeptBeside taken last ms → bytes ≤ 2
kept_few taken last ms bank bytes e h = let kept : IsKeptBeside taken (Kept bank bytes) ms = subst (λ (l : Arrival). IsKeptBeside taken l ms) e h in kept.0.few

module _ (fast : Bool) (xs : List Argument) where
  kept_fast : (last : Arrival) → ArrivesAs fast xs last → is_kept last ≡ true → fast ≡ true
  kept_fast Passed h e = let clash : false ≡ true = e in cc
  kept_fast (Pushed n) h e = let clash : false ≡ true = e in cc
  kept_fast (Kept bank bytes) h e = h

  pushed_as : (last : Arrival) → ArrivesAs fast xs last → is_kept last ≡ false → last ≡ arrival_by fast xs
  pushed_as Passed h e = h
  pushed_as (Pushed n) h e = h
  pushed_as (Kept bank bytes) h e = let clash : true ≡ false = e in cc

  -- as many bytes are pushed
  pub entering_many : (last : Arrival) (u : State) → AreSmall xs → ArrivesAs fast xs last → length (arriving last u) ≡ entering last (held_bytes fast xs)
  entering_many Passed u small h = ap (λ (l : Arrival). length (arriving l u)) h ∙ arriving_length fast xs u small
  entering_many (Pushed n) u small h = ap (λ (l : Arrival). length (arriving l u)) h ∙ arriving_length fast xs u small
  entering_many (Kept bank bytes) u small h = refl

-- ---- homes

no_more : (b : Bool) (n : ℕ) → n + (if b then 0 else 0) ≡ n
no_more true n = omega arith
no_more false n = omega arith

-- where a home on the software stack is in a call
pub soft_spot : (g : World) (a : Active) (i offset : ℕ) → a.raised ≡ 0 → home_of a.frame i ≡ Some (Soft offset) → spot_of g a i ≡ At (a.base + offset)
soft_spot g a i offset flat home =
    let spot : spot_of g a i ≡ At (a.base + offset + (if is_raised a.frame i then a.raised else 0)) = ap (home_spot g a i) home in
    spot ∙ ap At (ap (λ n. a.base + offset + (if is_raised a.frame i then n else 0)) flat ∙ no_more (is_raised a.frame i) (a.base + offset))

-- ---- the parameters

module _ (g : World) (a : Active) (fast : Bool) (w : Placing) (t u : State) (moved : HasMoves a.frame) (flat : a.raised ≡ 0) (above : (n : ℕ) → sp_of t ≤ n → with_arriving a u n ≡ t.mem n) where
  abbrev low : ℕ
  low = a.frame.soft + saved_bytes a.frame.bank

  abbrev m : Bytes
  m = with_arriving a u

  -- no argument is left
  none_left : (is : List ℕ) → AllPassed g a w u is []
  none_left [] = tt
  none_left (i ∷ is) = tt

  -- cells of an argument are those of its parameter
  lies_as : (i : ℕ) (x : Argument) (byte : ℕ → ℕ) → ((o : ℕ) → o < size_in (shape_in (unit_in g) i) → CellIs w (cell_of x.value o) (byte o)) → LiesAs g w i x.value byte
  lies_as i x byte h o lt = subst (λ (z : Cell). CellIs w z (byte o)) (sym (object_cells (unit_in g).types (object_in (unit_in g) i) x.value no_cells 0 o)) (h o lt)

  -- an argument of which each byte is there
  one_taken : (i offset : ℕ) (x : Argument) → IsTakenAt (unit_in g) a.frame i offset → size_in (shape_in (unit_in g) i) ≤ x.bytes → LieAt w m (a.base + offset) x.bytes x.value → IsPassed g a w u i x.value
  one_taken i offset x (stays home) fits there = on_stack (a.base + offset) (soft_spot g a i offset flat home) (lies_as i x (λ o. m (a.base + offset + o)) (λ o lt. there o (omega (arith, lt, fits))))
  one_taken i offset x (moves k v is home from size) fits there =
      moving k v is (ap (home_spot g a i) home) size
      (subst (λ (n : ℕ). LiesAs g w i x.value (λ o. m (a.base + n + o))) (sym from) (lies_as i x (λ o. m (a.base + offset + o)) (λ o lt. there o (omega (arith, lt, fits)))))

  -- one that waits
  waits : (x : Argument) (here wait : ℕ) → here ≡ sp_of t + wait → LieAt w t.mem (sp_of t + wait) x.bytes x.value → LieAt w m here x.bytes x.value
  waits x here wait is there o lt =
      let byte : m (here + o) ≡ t.mem (sp_of t + wait + o) = above (here + o) (omega (arith, is)) ∙ ap (λ n. t.mem (n + o)) is in
      subst (CellIs w (cell_of x.value o)) (sym byte) (there o lt)

  -- one that is pushed
  pushes : (x : Argument) (here : ℕ) → here ≡ a.base + low → AreHeld w t x.bytes x.value → ((o : ℕ) → o < x.bytes → m (a.base + low + o) ≡ byte_of o (eax_of t)) → LieAt w m here x.bytes x.value
  pushes x here is held there o lt =
      let byte : m (here + o) ≡ byte_of o (eax_of t) = ap (λ n. m (n + o)) is ∙ there o lt in
      subst (CellIs w (cell_of x.value o)) (sym byte) (held o lt)

  -- where all come on the software stack
  all_stacked : (is : List ℕ) (xs : List Argument) → AllTaken false (unit_in g) a.frame low is xs → AreThere fast w t xs → a.base + (low + held_bytes fast xs) ≡ sp_of t → ((o : ℕ) → o < held_bytes fast xs → m (a.base + low + o) ≡ byte_of o (eax_of t))
      → AllPassed g a w u is (values_of xs)
  all_stacked [] [] taken there base held = tt
  all_stacked [] (x ∷ xs) taken there base held = absurd taken
  all_stacked (i ∷ is) [] taken there base held = absurd taken
  all_stacked (i ∷ is) (x ∷ []) taken there base held = (one_taken i (low + 0) x taken.0 taken.1 (last fast there.0 base held), none_left is)
    where
      last : (b : Bool) → IsThere (is_last b []) w t (sp_of t + waiting_bytes b []) x → a.base + (low + held_bytes b (x ∷ [])) ≡ sp_of t → ((o : ℕ) → o < held_bytes b (x ∷ []) → m (a.base + low + o) ≡ byte_of o (eax_of t)) → LieAt w m (a.base + (low + 0)) x.bytes x.value
      last true h e f = pushes x (a.base + (low + 0)) (omega arith) h (λ o lt. f o (omega (arith, lt)))
      last false h e f = waits x (a.base + (low + 0)) 0 (omega (arith, e)) h
  all_stacked (i ∷ is) (x ∷ y ∷ ys) taken there base held =
      let split : waiting_bytes false (y ∷ ys) ≡ held_bytes fast (y ∷ ys) + waiting_bytes fast (y ∷ ys) = all_wait (y ∷ ys) ∙ bytes_split fast (y ∷ ys) in
      let own : a.base + (low + held_bytes fast (y ∷ ys)) ≡ sp_of t = omega (arith, base) in (
        one_taken i (low + waiting_bytes false (y ∷ ys)) x taken.0 taken.1 (waits x (a.base + (low + waiting_bytes false (y ∷ ys))) (waiting_bytes fast (y ∷ ys)) (omega (arith, split, own)) there.0),
        all_stacked is (y ∷ ys) taken.2 there.1 own (λ o lt. held o (omega (arith, lt))),
      )

  -- where the last one is kept in registers
  one_kept : (i : ℕ) (x : Argument) → IsBytes t → x.bytes ≤ 4 → IsPassedIn (registers x.bytes) t u → IsKeptFor (unit_in g) a.frame i → size_in (shape_in (unit_in g) i) ≤ x.bytes → AreHeld w t x.bytes x.value → IsPassed g a w u i x.value
  one_kept i x b most same k fits held =
      in_registers k.bank k.bytes k.last (ap (home_spot g a i) k.home) k.size (lies_as i x (λ o. register_byte o u) (λ o lt.
      let few : k.bytes ≤ 2 = kept_few (saved_bytes a.frame.bank) a.frame.last a.frame.moved k.bank k.bytes k.last moved.kept in
      let byte : register_byte o u ≡ byte_of o (eax_of t) = kept_byte t u x.bytes o b most same (omega (arith, lt, fits)) (omega (arith, lt, shape_size (unit_in g) i, k.size, few)) in
      subst (CellIs w (cell_of x.value o)) (sym byte) (held o (omega (arith, lt, fits)))))

  all_kept : (is : List ℕ) (xs : List Argument) → IsBytes t → AreSmall xs → AllTaken true (unit_in g) a.frame low is xs → AreThere true w t xs → IsPassedIn (registers (held_bytes true xs)) t u → a.base + low ≡ sp_of t → AllPassed g a w u is (values_of xs)
  all_kept [] [] b small taken there same base = tt
  all_kept [] (x ∷ xs) b small taken there same base = absurd taken
  all_kept (i ∷ is) [] b small taken there same base = absurd taken
  all_kept (i ∷ is) (x ∷ []) b small taken there same base =
      let own : held_bytes true (x ∷ []) ≡ x.bytes = omega arith in
      (one_kept i x b small.1 (subst (λ (n : ℕ). IsPassedIn (registers n) t u) own same) taken.0 taken.1 there.0, none_left is)
  all_kept (i ∷ is) (x ∷ y ∷ ys) b small taken there same base =
      let own : held_bytes true (x ∷ y ∷ ys) ≡ held_bytes true (y ∷ ys) = omega arith in (
        one_taken i (low + waiting_bytes true (y ∷ ys)) x taken.0 taken.1 (waits x (a.base + (low + waiting_bytes true (y ∷ ys))) (waiting_bytes true (y ∷ ys)) (omega (arith, base)) there.0),
        all_kept is (y ∷ ys) b small.2 taken.2 there.1 (subst (λ (n : ℕ). IsPassedIn (registers n) t u) own same) base,
      )

module _ (g : World) (a : Active) (fast : Bool) (xs : List Argument) (w : Placing) (t u : State) (small : AreSmall xs) (takes : Takes g a fast xs t) (there : AreThere fast w t xs) (bytes : IsBytes t) (entry : IsAtEntry a t u)
    (same : IsPassedIn (registers (held_bytes fast xs)) t u) where
  abbrev lowest : ℕ
  lowest = a.base + (a.frame.soft + saved_bytes a.frame.bank)

  split : waiting_bytes false xs ≡ held_bytes fast xs + waiting_bytes fast xs
  split = all_wait xs ∙ bytes_split fast xs

  as_many : length (arriving a.frame.last u) ≡ entering a.frame.last (held_bytes fast xs)
  as_many = entering_many fast xs a.frame.last u small takes.arrives

  above_all : (n : ℕ) → sp_of t ≤ n → with_arriving a u n ≡ t.mem n
  above_all n le = written_above u.mem (arriving a.frame.last u) lowest n (omega (arith, as_many, takes.base, le)) ∙ ap (λ (x : Bytes). x n) entry.mem

  stacked : a.base + (a.frame.soft + (saved_bytes a.frame.bank + length (arriving a.frame.last u))) ≡ sp_of u
  stacked = omega (arith, as_many, takes.base, entry.sp)

  by_arrival : (kept : Bool) → is_kept a.frame.last ≡ kept → HasCome g a (values_of xs) w u
  by_arrival true e =
      let quick : fast ≡ true = kept_fast fast xs a.frame.last takes.arrives e in
      let none : entering a.frame.last (held_bytes fast xs) ≡ 0 = ap (λ (b : Bool). if b then 0 else held_bytes fast xs) e in
      record {
        stacked = stacked;
        few = omega (arith, as_many, none);
        lies = all_kept g a fast w t u takes.moves takes.none_raised above_all (params_in g a) xs bytes small (subst (λ (b : Bool). AllTaken b (unit_in g) a.frame (a.frame.soft + saved_bytes a.frame.bank) (params_in g a) xs) e takes.homes)
            (subst (λ (b : Bool). AreThere b w t xs) quick there) (subst (λ (b : Bool). IsPassedIn (registers (held_bytes b xs)) t u) quick same) (omega (arith, takes.base, none));
      }
  by_arrival false e =
      let last : a.frame.last ≡ arrival_by fast xs = pushed_as fast xs a.frame.last takes.arrives e in
      let all : entering a.frame.last (held_bytes fast xs) ≡ held_bytes fast xs = ap (λ (b : Bool). if b then 0 else held_bytes fast xs) e in
      let own : a.frame.stacked ≡ waiting_bytes false xs = takes.stacked ∙ ap (λ (b : Bool). waiting_bytes b xs) e in
      record {
        stacked = stacked;
        few = omega (arith, as_many, all, split, own);
        lies = all_stacked g a fast w t u takes.moves takes.none_raised above_all (params_in g a) xs (subst (λ (b : Bool). AllTaken b (unit_in g) a.frame (a.frame.soft + saved_bytes a.frame.bank) (params_in g a) xs) e takes.homes) there
            (omega (arith, takes.base, all)) (λ o lt. arrived last o lt);
      }
    where
      arrived : a.frame.last ≡ arrival_by fast xs → (o : ℕ) → o < held_bytes fast xs → with_arriving a u (lowest + o) ≡ byte_of o (eax_of t)
      arrived last o lt =
          item_is (with_arriving a u) (arriving a.frame.last u) lowest o (byte_of o (eax_of t)) (listed_are_at u.mem (arriving a.frame.last u) lowest)
          (ap (λ (l : Arrival). slice_get (arriving l u) o) last ∙ arriving_item fast xs (held_bytes fast xs) o t u small refl same bytes lt)

pub arguments_are_passed : ArgumentsArePassed
arguments_are_passed g a fast xs w t u small takes there bytes entry same = by_arrival g a fast xs w t u small takes there bytes entry same (is_kept a.frame.last) refl
