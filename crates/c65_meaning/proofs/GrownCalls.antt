-- What calls and the library leave of output, turns and names of blocks.
use Rattle.std.proofs.Common.{arith, ◌≡◌, ℕ, zero, suc, ◌*◌, refl, sym, take, length, List, [], ◌∷◌, ◌++◌, append-nil, ℤ, pos, negsuc, Bool, true, false, ◌∙◌}
use Rattle.std.specs.Prelude.{Result, Ok, Err, Option, Some, None, ⊤, slice_get, not, ◌&&◌}
use Rattle.c65_ints.specs.Ranges.{residue}
use Rattle.c65_ctype.specs.Trees.{Ty}
use Rattle.c65_base.specs.declared.library.Library.{Library}
use Rattle.c65_base.specs.declared.library.Library.TheVariants.{Putchar, Getchar, Puts, Exit, Memcpy, Memset, Strcmp, Strcpy, Strlen, Printf}
use Rattle.c65_csem.specs.Trees.{Stmt, FuncTy, UnitTy}
use Rattle.c65_meaning.specs.Why.{Why, ◌>>=◌, By, or_by}
use Rattle.c65_meaning.specs.Store.{write, Cell, list_block, nth_cell, Value, Whole, Null, Place, Opaque, Cells, NoValue, Shape, Store}
use Rattle.c65_meaning.specs.Shapes.{object_in, object_shape}
use Rattle.c65_meaning.specs.Items.{Item, Busy}
use Rattle.c65_meaning.specs.Costs.{soft_cost, argument_bytes, has_fixed}
use Rattle.c65_meaning.specs.State.{State, Deep, Running, Scene, Frame, turned, Undefined, rest_in, name_rest}
use Rattle.c65_meaning.specs.After.{Left}
use Rattle.c65_meaning.specs.Library.{Effect, effect_of, arg0, arg1, arg2, arg3, number_in, count_in, got, copied_area, filled_area, text_at, compared_texts, stores, drawn, printed}
use Rattle.c65_base.specs.Formats.{parts_of, text_of}
use Rattle.c65_meaning.specs.Step.{put, begin_object, status_of, back_in, left_call, frames_below, without_frame, params_of, func_in, returned, behind, end_objects, finished, ended_or, library_call, served, called, accepted, allowed, unless_refused, call_of, invoked, unless_deep, with_params, new_frame, is_deep, is_active, begin_rest, with_rest, cells_behind, further, with_passed, end_arguments}
use Rattle.c65_meaning.specs.Calls.{is_variadic, named_count}
use Rattle.c65_meaning.proofs.Blocks.{same_later, Keeps, KeepsIf, write_keeps, copied_keeps, filled_area_keeps}
use Rattle.c65_meaning.proofs.Grown.{Grown, Same, SameIf, itself, same_twice, no_later, more_out, runs, turns_on, same, one_grows, if_grows, stored_same, then_same, begin_keeps, block_begins, end_one, end_same}
use Rattle.c65_meaning.specs.declared.action.Action.TheVariants.{FixedAgain, LibraryArgument}

-- ---- ends of calls

status_grows : (c d : Scene) (v : Value) → Same c d → Grown c (status_of d v)
status_grows c d (Whole z) h = no_later c.out d.out c.turns d.turns h.same_out h.same_turns
status_grows c d Null h = tt
status_grows c d (Place b o) h = tt
status_grows c d Opaque h = tt
status_grows c d (Cells xs) h = tt
status_grows c d NoValue h = tt

back_in_grows : (c : Scene) (fs : List Frame) (k : List Item) (vs : List Value) (d : Scene) (v : Value) → Same c d → Grown c (back_in fs k vs d v)
back_in_grows c [] k vs d v h = status_grows c d v h
back_in_grows c (f ∷ fs) k vs d v h = runs c k (v ∷ vs) d h

without_frame_same : (c d : Scene) → Same c d → Same c (without_frame d)
without_frame_same c d h = record { same_out = h.same_out; same_turns = h.same_turns; names = record { later = h.names.later; blocks = h.names.blocks } }

arguments_end : (u : UnitTy) (c d : Scene) → Same c d → Same c (end_arguments u d)
arguments_end u c d h =
    let params : List ℕ = params_of (slice_get u.funcs (func_in d.frames)) in
    same_twice c (end_objects params d) (end_arguments u d) (end_same params c d h) (end_one (rest_in d.frames) (end_objects params d))

pub left_call_grows : (u : UnitTy) (c : Scene) (v : Value) (k : List Item) (vs : List Value) (d : Scene) → Same c d → Grown c (left_call u v k vs d)
left_call_grows u c v k vs d h = back_in_grows c (frames_below d.frames) k vs (without_frame (end_arguments u d)) v (without_frame_same c (end_arguments u d) (arguments_end u c d h))

pub returned_grows : (u : UnitTy) (v : Value) (vs : List Value) (c : Scene) (o : Option Left) → Grown c (returned u v vs c o)
returned_grows u v vs c None = tt
returned_grows u v vs c (Some r) = left_call_grows u c v (behind r.work) vs (end_objects r.objects c) (end_same r.objects c c (itself c))

-- ---- the library

-- an effect leaves what was written before
record Grows (c : Scene) (e : Effect) : Type 0 where
  written : List ℕ
  begins : e.out ≡ c.out ++ written
  keeps : Keeps c.store e.store

abbrev EffectGrows : Scene → Result Effect Why → Type 0
EffectGrows c (Err why) = ⊤
EffectGrows c (Ok e) = Grows c e

arg0_grows : (c : Scene) (args : List Value) (e : Result Effect Why) → EffectGrows c e → EffectGrows c (arg0 args e)
arg0_grows c [] e h = h
arg0_grows c (a ∷ rest) e h = tt

arg1_grows : (c : Scene) (args : List Value) (f : Value → Result Effect Why) → ((v : Value) → EffectGrows c (f v)) → EffectGrows c (arg1 args f)
arg1_grows c [] f h = tt
arg1_grows c (a ∷ []) f h = h a
arg1_grows c (a ∷ b ∷ rest) f h = tt

arg2_grows : (c : Scene) (args : List Value) (f : Value → Value → Result Effect Why) → ((v w : Value) → EffectGrows c (f v w)) → EffectGrows c (arg2 args f)
arg2_grows c [] f h = tt
arg2_grows c (a ∷ []) f h = tt
arg2_grows c (a ∷ b ∷ []) f h = h a b
arg2_grows c (a ∷ b ∷ d ∷ rest) f h = tt

arg3_grows : (c : Scene) (args : List Value) (f : Value → Value → Value → Result Effect Why) → ((v w x : Value) → EffectGrows c (f v w x)) → EffectGrows c (arg3 args f)
arg3_grows c [] f h = tt
arg3_grows c (a ∷ []) f h = tt
arg3_grows c (a ∷ b ∷ []) f h = tt
arg3_grows c (a ∷ b ∷ d ∷ []) f h = h a b d
arg3_grows c (a ∷ b ∷ d ∷ e ∷ rest) f h = tt

number_grows : (c : Scene) (v : Value) (f : ℤ → Result Effect Why) → ((z : ℤ) → EffectGrows c (f z)) → EffectGrows c (number_in v f)
number_grows c (Whole z) f h = h z
number_grows c Null f h = tt
number_grows c (Place b o) f h = tt
number_grows c Opaque f h = tt
number_grows c (Cells xs) f h = tt
number_grows c NoValue f h = tt

count_grows : (c : Scene) (v : Value) (f : ℕ → Result Effect Why) → ((n : ℕ) → EffectGrows c (f n)) → EffectGrows c (count_in v f)
count_grows c (Whole (pos n)) f h = h n
count_grows c (Whole (negsuc n)) f h = tt
count_grows c Null f h = tt
count_grows c (Place b o) f h = tt
count_grows c Opaque f h = tt
count_grows c (Cells xs) f h = tt
count_grows c NoValue f h = tt

then_grows : {A : Type 0} (c : Scene) (o : Result A Why) (f : A → Result Effect Why) → ((x : A) → EffectGrows c (f x)) → EffectGrows c (o >>= f)
then_grows c (Err why) f h = tt
then_grows c (Ok x) f h = h x

nothing : (c : Scene) (e : Effect) → e.out ≡ c.out → e.store ≡ c.store → Grows c e
nothing c e h g = record { written = []; begins = h ∙ sym (append-nil c.out); keeps = rw g (λ b. same_later (c.store b)) }

writes : (c : Scene) (e : Effect) (w : List ℕ) → e.out ≡ c.out ++ w → e.store ≡ c.store → Grows c e
writes c e w h g = record { written = w; begins = h; keeps = rw g (λ b. same_later (c.store b)) }

storing : (c : Scene) (n : ℕ) (v : Value) (o : Result Store Why) → KeepsIf c.store o → EffectGrows c (o >>= λ s. Ok (stores c n v s))
storing c n v (Err why) h = tt
storing c n v (Ok s) h = record { written = []; begins = sym (append-nil c.out); keeps = h }

got_grows : (c : Scene) (input : List ℕ) → EffectGrows c (Ok (got c input))
got_grows c [] = nothing c (got c []) refl refl
got_grows c (b ∷ rest) = nothing c (got c (b ∷ rest)) refl refl

copy_grows : (c : Scene) (to from : Value) (o : Result (List ℕ) Why) → EffectGrows c (o >>= λ text. copied_area c.store to from (suc (length text)) >>= λ s. Ok (stores c (2 * suc (length text)) to s))
copy_grows c to from (Err why) = tt
copy_grows c to from (Ok text) = storing c (2 * suc (length text)) to (copied_area c.store to from (suc (length text))) (copied_keeps c.store to from (suc (length text)))

printed_grows : (c : Scene) (rest : List Cell) (format : List ℕ) → EffectGrows c (printed c rest format)
printed_grows c rest format =
    then_grows c (or_by LibraryArgument (parts_of format)) _ (λ ps. then_grows c (drawn c.store ps (nth_cell rest) (length rest)) _ (λ given. then_grows c (or_by LibraryArgument (text_of ps given)) _ (λ t. writes c _ t refl refl)))

effect_grows : (c : Scene) (f : Library) (args : List Value) (rest : List Cell) → EffectGrows c (effect_of c f args rest)
effect_grows c Putchar args rest = arg1_grows c args _ (λ v. number_grows c v _ (λ z. writes c _ (residue 256 z ∷ []) refl refl))
effect_grows c Getchar args rest = arg0_grows c args _ (got_grows c c.input)
effect_grows c Puts args rest = arg1_grows c args _ (λ v. then_grows c (text_at c.store v) _ (λ text. writes c _ (text ++ 10 ∷ []) refl refl))
effect_grows c Exit args rest = arg1_grows c args _ (λ v. number_grows c v _ (λ z. nothing c _ refl refl))
effect_grows c Memcpy args rest = arg3_grows c args _ (λ to from v. count_grows c v _ (λ n. storing c (2 * n) to (copied_area c.store to from n) (copied_keeps c.store to from n)))
effect_grows c Memset args rest = arg3_grows c args _ (λ to v w. number_grows c v _ (λ z. count_grows c w _ (λ n. storing c n to (filled_area c.store to n (residue 256 z)) (filled_area_keeps c.store to n (residue 256 z)))))
effect_grows c Strcmp args rest = arg2_grows c args _ (λ v w. then_grows c (compared_texts c.store v w) _ (λ d. nothing c _ refl refl))
effect_grows c Strcpy args rest = arg2_grows c args _ (λ to from. copy_grows c to from (text_at c.store from))
effect_grows c Strlen args rest = arg1_grows c args _ (λ v. then_grows c (text_at c.store v) _ (λ text. nothing c _ refl refl))
effect_grows c Printf args rest = arg1_grows c args _ (λ v. then_grows c (text_at c.store v) _ (printed_grows c rest))

ended_or_grows : (k : List Item) (vs : List Value) (c : Scene) (e : Effect) (o : Option ℕ) → Grows c e → Grown c (ended_or k vs c e o)
ended_or_grows k vs c e None h = record { shows = more_out c.out e.out h.written c.turns h.begins; names = record { later = omega arith; blocks = λ b small. h.keeps b } }
ended_or_grows k vs c e (Some status) h = more_out c.out e.out h.written c.turns h.begins

finished_grows : (k : List Item) (vs : List Value) (c : Scene) (o : Result Effect Why) → EffectGrows c o → Grown c (finished k vs c o)
finished_grows k vs c (Err why) h = tt
finished_grows k vs c (Ok e) h = ended_or_grows k vs c e e.status h

pub library_grows : (n : ℕ) (f : Library) (args : List Value) (rest : List Cell) (k : List Item) (vs : List Value) (c : Scene) → Grown c (library_call n f args rest k vs c)
library_grows zero f args rest k vs c = finished_grows k vs c (effect_of c f args rest) (effect_grows c f args rest)
library_grows (suc n) f args rest k vs c = same (Busy n f args rest ∷ k) vs c

served_grows : (f : Library) (args : List Value) (rest : List Cell) (k : List Item) (vs : List Value) (c : Scene) (o : Result Effect Why) → Grown c (served f args rest k vs c o)
served_grows f args rest k vs c (Err why) = tt
served_grows f args rest k vs c (Ok e) = library_grows e.bytes f args rest k vs c

-- ---- calls

pub put_same : (first : Bool) (shape : Shape) (c : Scene) (at v : Value) → SameIf c (put first shape c at v)
put_same first shape c (Place b o) NoValue = tt
put_same first shape c (Place b o) (Whole z) = stored_same c (write first shape c.store b o (Whole z)) (write_keeps first shape c.store b o (Whole z))
put_same first shape c (Place b o) Null = stored_same c (write first shape c.store b o Null) (write_keeps first shape c.store b o Null)
put_same first shape c (Place b o) (Place d p) = stored_same c (write first shape c.store b o (Place d p)) (write_keeps first shape c.store b o (Place d p))
put_same first shape c (Place b o) Opaque = stored_same c (write first shape c.store b o Opaque) (write_keeps first shape c.store b o Opaque)
put_same first shape c (Place b o) (Cells xs) = stored_same c (write first shape c.store b o (Cells xs)) (write_keeps first shape c.store b o (Cells xs))
put_same first shape c (Whole z) v = tt
put_same first shape c Null v = tt
put_same first shape c Opaque v = tt
put_same first shape c (Cells xs) v = tt
put_same first shape c NoValue v = tt

shift : (c d : Scene) (o : Result Scene Why) → Same c d → SameIf d o → SameIf c o
shift c d (Err why) h g = tt
shift c d (Ok e) h g = same_twice c d e h g

params_same : (u : UnitTy) (c : Scene) (objects : List ℕ) (args : List Value) (d : Scene) → Same c d → SameIf c (with_params u objects args d)
params_same u c [] args d h = h
params_same u c (i ∷ objects) [] d h = tt
params_same u c (i ∷ objects) (v ∷ args) d h = then_same c (with_params u objects args) (put true (object_shape u.types (object_in u i)) (begin_object u i d) (Place d.next 0) v) (shift c (begin_object u i d) _ (begin_keeps u i c d h) (put_same true (object_shape u.types (object_in u i)) (begin_object u i d) (Place d.next 0) v)) (λ e. params_same u c objects args e)

unless_deep_grows : (c : Scene) (k : List Item) (vs : List Value) (o : Result Scene Why) → SameIf (turned c) o → Grown c (unless_deep k vs o)
unless_deep_grows c k vs (Err why) h = tt
unless_deep_grows c k vs (Ok d) h = if_grows c (not d.free && is_deep d.frames) Deep (Running k vs d) tt (turns_on c k vs d h)

new_frame_same : (u : UnitTy) (f cost : ℕ) (c : Scene) → Same c (new_frame u f cost c)
new_frame_same u f cost c = record { same_out = refl; same_turns = refl; names = record { later = omega arith; blocks = λ b small. same_later (c.store b) } }

rest_same : (c : Scene) (variadic : Bool) (xs : List Cell) (d : Scene) → Same c d → Same c (with_rest variadic xs d)
rest_same c true xs d h = same_twice c d (begin_rest xs d) h (block_begins d (list_block xs) (name_rest d.frames d.next))
rest_same c false xs d h = h

passed_same : (u : UnitTy) (c : Scene) (variadic : Bool) (xs : List Cell) (o : Result Scene Why) → SameIf c o → SameIf c (o >>= λ d. Ok (with_rest variadic xs d))
passed_same u c variadic xs (Err why) h = tt
passed_same u c variadic xs (Ok d) h = rest_same c variadic xs d h

called_grows : (u : UnitTy) (f : ℕ) (types : List Ty) (args : List Value) (g : FuncTy) (body : Option Stmt) (l : Option Library) (k : List Item) (vs : List Value) (c : Scene) → Grown c (called u f types args g body l k vs c)
called_grows u f types args g (Some body) l k vs c =
    let first : Scene = new_frame u f (soft_cost u (argument_bytes u types) body) (turned c) in
    if_grows c (has_fixed u body && is_active f (turned c).frames) (Undefined (By FixedAgain)) _ tt
    (unless_deep_grows c _ vs (with_passed u g types args first) (passed_same u (turned c) (is_variadic g.ty) (further u g types args) (with_params u g.params args first) (params_same u (turned c) g.params args first (new_frame_same u f (soft_cost u (argument_bytes u types) body) (turned c)))))
called_grows u f types args g None (Some l) k vs c =
    let named : List Value = take (named_count g.ty) args in
    let behind : List Cell = cells_behind u (named_count g.ty) types args in
    served_grows l named behind k vs c (effect_of c l named behind)
called_grows u f types args g None None k vs c = tt

refused_grows : (u : UnitTy) (c : Scene) (o : Option Why) (s : State) → Grown c s → Grown c (unless_refused u o s)
refused_grows u c None s h = h
refused_grows u c (Some why) s h = tt

accepted_grows : (u : UnitTy) (callee : Ty) (f : ℕ) (types : List Ty) (args : List Value) (o : Option FuncTy) (k : List Item) (vs : List Value) (c : Scene) → Grown c (accepted u callee f types args o k vs c)
accepted_grows u callee f types args None k vs c = tt
accepted_grows u callee f types args (Some g) k vs c = refused_grows u c (allowed u callee types args g) _ (called_grows u f types args g g.body g.library k vs c)

call_of_grows : (u : UnitTy) (callee : Ty) (types : List Ty) (args : List Value) (f : Value) (k : List Item) (vs : List Value) (c : Scene) → Grown c (call_of u callee types args f k vs c)
call_of_grows u callee types args (Place f zero) k vs c = accepted_grows u callee f types args (slice_get u.funcs f) k vs c
call_of_grows u callee types args (Place f (suc o)) k vs c = tt
call_of_grows u callee types args (Whole z) k vs c = tt
call_of_grows u callee types args Null k vs c = tt
call_of_grows u callee types args Opaque k vs c = tt
call_of_grows u callee types args (Cells xs) k vs c = tt
call_of_grows u callee types args NoValue k vs c = tt

pub invoked_grows : (u : UnitTy) (callee : Ty) (types : List Ty) (k : List Item) (o : Option (List Value × List Value)) (c : Scene) → Grown c (invoked u callee types k o c)
invoked_grows u callee types k None c = tt
invoked_grows u callee types k (Some r) c = one_grows c r.1 _ (λ f vs. call_of_grows u callee types r.0 f k vs c)
