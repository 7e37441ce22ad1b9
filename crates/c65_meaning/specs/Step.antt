-- One step of a run: what each item of pending work does (C90 6.1.2.4, 6.3, 6.5.7, 6.6).
use Rattle.std.specs.Prelude.{ℕ, zero, suc, ◌+◌, ◌==◌, ◌&&◌, ◌||◌, not, Bool, true, false, pos, List, [], ◌∷◌, ◌++◌, take, drop, length, Result, Ok, Err, Option, Some, None, slice_get, nat_lt, nat_le, if◌then◌else◌}
use Rattle.c65_ints.specs.Ranges.{residue}
use Rattle.c65_ctype.specs.Trees.{Ty, TypesTy}
use Rattle.c65_ctype.specs.Sizes.{size_of}
use Rattle.c65_base.specs.declared.library.Library.{Library}
use Rattle.c65_csem.specs.Trees.{MaybeTyped, absent, present, Stmt, FuncTy, UnitTy}
use Rattle.c65_meaning.specs.Program.{ProgramTy}
use Rattle.c65_meaning.specs.declared.action.Action.TheVariants.{OutsideObject, CalleeType, NoResult, PartialOverlap, FixedAgain}
use Rattle.c65_meaning.specs.Why.{Why, By, Unfit, ◌>>=◌}
use Rattle.c65_meaning.specs.Integers.{truth}
use Rattle.c65_meaning.specs.Store.{Cell, Store, Value, Whole, Null, Place, Cells, NoValue, Shape, read, write, carry, packed, put_cell, nth_cell, cells_of_value, byte, set_block, unset_block, list_block, end_block, block_size}
use Rattle.c65_meaning.specs.Operators.{unusable, truth_of, named_by, moved, converted, binary, unary, bumped, is_post}
use Rattle.c65_meaning.specs.Shapes.{object_in, object_size, object_sealed, object_shape, lives_in_frame, object_block}
use Rattle.c65_meaning.specs.Items.{Item, Loop, Push, Name, Follow, Move, Fetch, Keep, Change, Apply1, Apply2, Both, Either, Truth, Choose, Drop, Put, Peek, Bump, PutUnder, Carry, Gather, Lay, Reach, Invoke, Busy, Skip, Init, CarryInto, Wipe, Begin, End, Branch, Test, Pass, Enter, Next, Back, Check, Redo, Select, EndSwitch, Jump, LeaveLoop, GoOn, Give, GiveNothing, Leave, plan, plan_stmt, plan_stmts, head_of}
use Rattle.c65_meaning.specs.After.{ToLabel, ToCase, ToDefault, Landing, or_else, after, Left, up_to_call, up_to_break, up_to_continue, without}
use Rattle.c65_meaning.specs.Costs.{has_fixed, argument_bytes, soft_cost}
use Rattle.c65_meaning.specs.State.{Frame, Scene, State, Undefined, Deep, Ended, Running, with_store, turned, soft_sum, hard_sum, block_in, name_object, rest_in, name_rest}
use Rattle.c65_meaning.specs.Library.{Effect, effect_of, overlap}
use Rattle.c65_meaning.specs.Calls.{is_variadic, named_count, accepts}

-- ---- taking values, and going on with what an action gave

-- with the value on top, and with the two on top: the last one first
abbrev pub one : List Value → (Value → List Value → State) → State
one [] f = Undefined Unfit
one (v ∷ vs) f = f v vs

abbrev pub two : List Value → (Value → Value → List Value → State) → State
two [] f = Undefined Unfit
two (y ∷ []) f = Undefined Unfit
two (y ∷ x ∷ vs) f = f y x vs

abbrev pub go_on : Result Value Why → List Item → List Value → Scene → State
go_on (Err why) k vs c = Undefined why
go_on (Ok v) k vs c = Running k (v ∷ vs) c

abbrev pub with_scene : Result Scene Why → List Item → List Value → State
with_scene (Err why) k vs = Undefined why
with_scene (Ok c) k vs = Running k vs c

abbrev pub decided : Result Bool Why → State → State → State
decided (Err why) a b = Undefined why
decided (Ok true) a b = a
decided (Ok false) a b = b

abbrev pub stored : Scene → Result Store Why → Result Scene Why
stored c s = s >>= λ t. Ok (with_store c t)

-- the value that is used: a missing result is none
abbrev pub is_value : Value → Bool
is_value NoValue = false
is_value _ = true

abbrev pub are_values : List Value → Bool
are_values [] = true
are_values (v ∷ vs) = is_value v && are_values vs

-- ---- objects

abbrev pub place_in : Option ℕ → Result Value Why
place_in None = Err Unfit
place_in (Some b) = Ok (Place b 0)

module _ (u : UnitTy) where
  -- the block of an object: the active call's own, or the one of the whole run
  abbrev pub object_place : ℕ → Scene → Result Value Why
  object_place i c = if lives_in_frame (object_in u i) then place_in (block_in c.frames i) else Ok (Place (object_block u i) 0)

  -- a new unset block for an object
  abbrev pub begin_object : ℕ → Scene → Scene
  begin_object i c = record c { frames = name_object c.frames i c.next; store = set_block c.store c.next (unset_block (object_size u.types (object_in u i)) (object_sealed (object_in u i))); next = suc c.next }

  abbrev pub begin_objects : List ℕ → Scene → Scene
  begin_objects [] c = c
  begin_objects (i ∷ rest) c = begin_objects rest (begin_object i c)

abbrev pub end_named : Option ℕ → Scene → Scene
end_named None c = c
end_named (Some b) c = with_store c (end_block c.store b)

abbrev pub end_objects : List ℕ → Scene → Scene
end_objects [] c = c
end_objects (i ∷ rest) c = end_objects rest (end_named (block_in c.frames i) c)

-- ---- loads and stores (C90 6.2.2.1, 6.3.16)

abbrev pub loaded : Shape → Scene → Value → Result Value Why
loaded shape c (Place b o) = read shape c.store b o
loaded shape c v = Err (unusable v)

-- a value is put into a place; `first` says that it is an initial value
abbrev pub put : Bool → Shape → Scene → Value → Value → Result Scene Why
put first shape c (Place b o) NoValue = Err (By NoResult)
put first shape c (Place b o) v = stored c (write first shape c.store b o v)
put first shape c at v = Err (unusable at)

-- the value of an assignment is what the object then holds
abbrev pub assigned : Shape → Value → List Item → List Value → Result Scene Why → State
assigned shape at k vs (Err why) = Undefined why
assigned shape at k vs (Ok c) = go_on (loaded shape c at) k vs c

-- ---- structures and unions, a byte a step (C90 6.3.16.1)

-- areas that overlap in part
abbrev pub partly_overlap : ℕ → Value → Value → Bool
partly_overlap size (Place b o) (Place c p) = overlap size b o c p && not (o == p)
partly_overlap size _ _ = false

abbrev pub carried : Bool → ℕ → Scene → Value → Value → Result Scene Why
carried first done c (Place b o) (Place d p) = stored c (carry first c.store b (o + done) d (p + done))
carried first done c from to = Err Unfit

-- byte `done` of an area of `size` bytes; that areas overlap is met at the first byte
abbrev pub carried_byte : Bool → ℕ → ℕ → Scene → Value → Value → Result Scene Why
carried_byte first done size c from to = if done == 0 && partly_overlap size from to then Err (By PartialOverlap) else carried first done c from to

-- a copy keeps both places until its last byte; then its value is the left place
abbrev pub carry_step : ℕ → ℕ → Value → Value → List Item → List Value → Result Scene Why → State
carry_step done size from to k vs (Err why) = Undefined why
carry_step done size from to k vs (Ok c) = if nat_lt (suc done) size then Running (Carry (suc done) size ∷ k) (from ∷ to ∷ vs) c else Running k (to ∷ vs) c

abbrev pub copy_step : ℕ → ℕ → Value → Value → List Item → List Value → Scene → State
copy_step done size from to k vs c = if nat_lt done size then carry_step done size from to k vs (carried_byte false done size c from to) else Running k (to ∷ vs) c

abbrev pub carry_into_step : ℕ → ℕ → ℕ → ℕ → Value → List Item → List Value → Result Scene Why → State
carry_into_step i o done size from k vs (Err why) = Undefined why
carry_into_step i o done size from k vs (Ok c) = if nat_lt (suc done) size then Running (CarryInto i o (suc done) size ∷ k) (from ∷ vs) c else Running k vs c

abbrev pub set_area_step : ℕ → ℕ → ℕ → ℕ → Value → Value → List Item → List Value → Scene → State
set_area_step i o done size from to k vs c = if nat_lt done size then carry_into_step i o done size from k vs (carried_byte true done size c from to) else Running k vs c

abbrev pub at_offset : ℕ → Result Value Why → Value
at_offset o (Ok (Place b p)) = Place b (p + o)
at_offset o _ = NoValue

abbrev pub cleared : Scene → ℕ → Value → Result Scene Why
cleared c done (Place b o) = stored c (put_cell true c.store b (o + done) (byte 0))
cleared c done v = Err Unfit

abbrev pub wipe_step : ℕ → ℕ → ℕ → List Item → List Value → Result Scene Why → State
wipe_step i done size k vs (Err why) = Undefined why
wipe_step i done size k vs (Ok c) = if nat_lt (suc done) size then Running (Wipe i (suc done) size ∷ k) vs c else Running k vs c

abbrev pub clear_step : ℕ → ℕ → ℕ → Value → List Item → List Value → Scene → State
clear_step i done size at k vs c = if nat_lt done size then wipe_step i done size k vs (cleared c done at) else Running k vs c

-- ---- structures and unions that are passed and returned (C90 6.3.2.2, 6.6.6.4)

abbrev pub gathered_at : ℕ → Scene → Value → Result Value Why
gathered_at size c (Place b o) = packed size c.store b o
gathered_at size c v = Err (unusable v)

-- byte `done` of what a call gave; a missing result is not stored
abbrev pub laid : ℕ → Scene → Value → Value → Result Scene Why
laid done c (Place b o) (Cells xs) = stored c (put_cell true c.store b (o + done) (nth_cell xs done))
laid done c (Place b o) NoValue = Err (By NoResult)
laid done c at v = Err Unfit

-- the cells wait until the last byte; then the value is the place
abbrev pub lay_on : ℕ → ℕ → ℕ → Value → Value → List Item → List Value → Result Scene Why → State
lay_on i done size v at k vs (Err why) = Undefined why
lay_on i done size v at k vs (Ok c) = if nat_lt (suc done) size then Running (Lay i (suc done) size ∷ k) (v ∷ vs) c else Running k (at ∷ vs) c

abbrev pub lay_step : ℕ → ℕ → ℕ → Value → Value → List Item → List Value → Scene → State
lay_step i done size v at k vs c = if nat_lt done size then lay_on i done size v at k vs (laid done c at v) else Running k (at ∷ vs) c

-- ---- further arguments (C90 6.7.1, 7.8)

abbrev pub end_of : Store → Option ℕ → Result Value Why
end_of s None = Err Unfit
end_of s (Some b) = Ok (Place b (block_size s b))

-- the place at the end of the block of the active call's further arguments
abbrev pub rest_place : Scene → Result Value Why
rest_place c = end_of c.store (rest_in c.frames)

-- the cells of arguments of these types: the last one at 0, and the first one up to the end
abbrev pub rest_list : TypesTy → List Ty → List Value → List Cell
rest_list types (t ∷ ts) (v ∷ vs) = rest_list types ts vs ++ cells_of_value (size_of types t) v
rest_list types _ _ = []

-- they are a new block, which may be empty
abbrev pub begin_rest : List Cell → Scene → Scene
begin_rest xs c = record c { frames = name_rest c.frames c.next; store = set_block c.store c.next (list_block xs); next = suc c.next }

abbrev pub with_rest : Bool → List Cell → Scene → Scene
with_rest true xs c = begin_rest xs c
with_rest false xs c = c

abbrev pub under : Bool → Value → List Value → List Value
under true v vs = v ∷ vs
under false v vs = vs

-- ---- calls (C90 6.3.2.2)

-- the arguments of a call: their values from left to right, and the values below them
abbrev pub taken : List Ty → List Value → List Value → Option (List Value × List Value)
taken [] args vs = Some (args, vs)
taken (t ∷ rest) args [] = None
taken (t ∷ rest) args (v ∷ vs) = taken rest (v ∷ args) vs

-- the premise on the stacks, which is not asked in a free run
abbrev pub is_deep : List Frame → Bool
is_deep frames = nat_lt 1984 (soft_sum frames) || nat_lt 224 (hard_sum frames)

-- whether a call of the function is active
abbrev pub is_active : ℕ → List Frame → Bool
is_active f [] = false
is_active f (frame ∷ frames) = frame.func == f || is_active f frames

abbrev pub unless_deep : List Item → List Value → Result Scene Why → State
unless_deep k vs (Err why) = Undefined why
unless_deep k vs (Ok c) = if not c.free && is_deep c.frames then Deep else Running k vs c

abbrev pub ended_or : List Item → List Value → Scene → Effect → Option ℕ → State
ended_or k vs c e None = Running k (e.result ∷ vs) (record c { store = e.store; input = e.input; out = e.out })
ended_or k vs c e (Some status) = Ended e.out status c.turns

abbrev pub finished : List Item → List Value → Scene → Result Effect Why → State
finished k vs c (Err why) = Undefined why
finished k vs c (Ok e) = ended_or k vs c e e.status

abbrev pub library_call : ℕ → Library → List Value → List Cell → List Item → List Value → Scene → State
library_call zero f args rest k vs c = finished k vs c (effect_of c f args rest)
library_call (suc left) f args rest k vs c = Running (Busy left f args rest ∷ k) vs c

-- one step, and one more for each byte
abbrev pub served : Library → List Value → List Cell → List Item → List Value → Scene → Result Effect Why → State
served f args rest k vs c (Err why) = Undefined why
served f args rest k vs c (Ok e) = library_call e.bytes f args rest k vs c

-- on the arguments that the function names and the cells of the further ones
abbrev pub provided : Library → List Value → List Cell → List Item → List Value → Scene → State
provided f args rest k vs c = served f args rest k vs c (effect_of c f args rest)

module _ (u : UnitTy) where
  -- each parameter is a new block that holds its argument
  abbrev pub with_params : List ℕ → List Value → Scene → Result Scene Why
  with_params [] args c = Ok c
  with_params (i ∷ objects) (v ∷ args) c = put true (object_shape u.types (object_in u i)) (begin_object u i c) (Place c.next 0) v >>= with_params objects args
  with_params (i ∷ objects) [] c = Err Unfit

  abbrev pub new_frame : ℕ → ℕ → Scene → Scene
  new_frame f cost c = record c { frames = record { func = f; object = λ i. None; cost = cost; rest = None } ∷ c.frames }

  -- the cells of the arguments behind so many, and behind those of the parameters
  abbrev pub cells_behind : ℕ → List Ty → List Value → List Cell
  cells_behind n types args = rest_list u.types (drop n types) (drop n args)

  abbrev pub further : FuncTy → List Ty → List Value → List Cell
  further g types args = cells_behind (length g.params) types args

  -- the parameters begin, and in a variadic function the further arguments
  abbrev pub with_passed : FuncTy → List Ty → List Value → Scene → Result Scene Why
  with_passed g types args c = with_params g.params args c >>= λ d. Ok (with_rest (is_variadic g.ty) (further g types args) d)

  -- a call of a function that has a body
  abbrev pub entered : ℕ → FuncTy → Stmt → ℕ → List Ty → List Value → List Item → List Value → Scene → State
  entered f g body cost types args k vs c = unless_deep (plan_stmt u 0 body (Leave ∷ k)) vs (with_passed g types args (new_frame f cost c))

  -- a function with an object that has one place for the whole run is entered by one call at a time
  abbrev pub entered_once : ℕ → FuncTy → Stmt → ℕ → List Ty → List Value → List Item → List Value → Scene → State
  entered_once f g body cost types args k vs c = if has_fixed u body && is_active f c.frames then Undefined (By FixedAgain) else entered f g body cost types args k vs c

  abbrev pub called : ℕ → List Ty → List Value → FuncTy → Option Stmt → Option Library → List Item → List Value → Scene → State
  called f types args g (Some body) library k vs c = entered_once f g body (soft_cost u (argument_bytes u types) body) types args k vs (turned c)
  called f types args g None (Some l) k vs c = provided l (take (named_count g.ty) args) (cells_behind (named_count g.ty) types args) k vs c
  called f types args g None None k vs c = Undefined Unfit

  -- the values are there, and the function fits the call
  abbrev pub allowed : Ty → List Ty → List Value → FuncTy → Option Why
  allowed callee types args g = if are_values args then (if accepts u callee types g then None else Some (By CalleeType)) else Some (By NoResult)

  abbrev pub unless_refused : Option Why → State → State
  unless_refused (Some why) s = Undefined why
  unless_refused None s = s

  abbrev pub accepted : Ty → ℕ → List Ty → List Value → Option FuncTy → List Item → List Value → Scene → State
  accepted callee f types args None k vs c = Undefined (By CalleeType)
  accepted callee f types args (Some g) k vs c = unless_refused (allowed callee types args g) (called f types args g g.body g.library k vs c)

  abbrev pub call_of : Ty → List Ty → List Value → Value → List Item → List Value → Scene → State
  call_of callee types args (Place f zero) k vs c = accepted callee f types args (slice_get u.funcs f) k vs c
  call_of callee types args (Place f (suc o)) k vs c = Undefined (By CalleeType)
  call_of callee types args Null k vs c = Undefined (By OutsideObject)
  call_of callee types args v k vs c = Undefined (unusable v)

  abbrev pub invoked : Ty → List Ty → List Item → Option (List Value × List Value) → Scene → State
  invoked callee types k None c = Undefined Unfit
  invoked callee types k (Some r) c = one r.1 (λ f vs. call_of callee types r.0 f k vs c)

-- ---- the end of a call (C90 6.6.6.4, 5.1.2.2.3)

abbrev pub status_of : Scene → Value → State
status_of c (Whole z) = Ended c.out (residue 256 z) c.turns
status_of c v = Undefined (unusable v)

-- without active calls the run ends
abbrev pub back_in : List Frame → List Item → List Value → Scene → Value → State
back_in [] k vs c v = status_of c v
back_in (f ∷ rest) k vs c v = Running k (v ∷ vs) c

-- what follows the end of the active call, for which work goes on up to it
abbrev pub behind : List Item → List Item
behind [] = []
behind (i ∷ k) = k

abbrev pub params_of : Option FuncTy → List ℕ
params_of None = []
params_of (Some f) = f.params

abbrev pub func_in : List Frame → ℕ
func_in [] = 0
func_in (f ∷ rest) = f.func

abbrev pub frames_below : List Frame → List Frame
frames_below [] = []
frames_below (f ∷ rest) = rest

abbrev pub without_frame : Scene → Scene
without_frame c = record c { frames = frames_below c.frames }

-- ---- jumps

abbrev pub has_turn : Bool → Scene → Scene
has_turn true c = turned c
has_turn false c = c

abbrev pub body_of : Option FuncTy → Option Stmt
body_of None = None
body_of (Some f) = f.body

abbrev pub left_for : List Value → Scene → Option Left → State
left_for vs c None = Undefined Unfit
left_for vs c (Some r) = Running r.work vs (end_objects r.objects c)

module _ (u : UnitTy) where
  -- the parameters and the further arguments end with the call
  abbrev pub end_arguments : Scene → Scene
  end_arguments c = end_named (rest_in c.frames) (end_objects (params_of (slice_get u.funcs (func_in c.frames))) c)

  abbrev pub left_call : Value → List Item → List Value → Scene → State
  left_call v k vs c = back_in (frames_below c.frames) k vs (without_frame (end_arguments c)) v

  abbrev pub returned : Value → List Value → Scene → Option Left → State
  returned v vs c None = Undefined Unfit
  returned v vs c (Some r) = left_call v (behind r.work) vs (end_objects r.objects c)

  -- blocks that hold both ends stay, those that are left end, and those that are entered are new
  abbrev pub landed : ℕ → List Value → Scene → Left → Option Landing → State
  landed n vs c from None = Undefined Unfit
  landed n vs c from (Some to) = Running to.work vs (has_turn (nat_le to.at n) (begin_objects u (without to.objects from.objects) (end_objects (without from.objects to.objects) c)))

  abbrev pub label_in : ℕ → List Item → Option Stmt → Option Landing
  label_in l k None = None
  label_in l k (Some body) = after u (ToLabel l) 0 body k

  abbrev pub jumped : ℕ → ℕ → List Value → Scene → Option Left → State
  jumped l n vs c None = Undefined Unfit
  jumped l n vs c (Some from) = landed n vs c from (label_in l from.work (body_of (slice_get u.funcs (func_in c.frames))))

  -- the case label with the value, else the default label, else behind the switch
  abbrev pub switched : List Item → List Value → Scene → Option Landing → State
  switched k vs c None = Running k vs c
  switched k vs c (Some to) = Running to.work vs (begin_objects u to.objects c)

  abbrev pub chosen_case : ℕ → Stmt → List Item → List Value → Scene → Value → State
  chosen_case n body k vs c (Whole z) = switched k vs c (or_else (after u (ToCase z) n body (EndSwitch ∷ k)) (after u ToDefault n body (EndSwitch ∷ k)))
  chosen_case n body k vs c v = Undefined (unusable v)

  -- ---- structures and unions

  -- a place in an object of the active call
  abbrev pub place_in_object : ℕ → ℕ → Scene → Value
  place_in_object i o c = at_offset o (object_place u i c)

  -- ---- loops

  abbrev pub after_body : Loop → MaybeTyped → List Item → List Value → Scene → State
  after_body l absent k vs c = Running (head_of u l k) vs (turned c)
  after_body l (present e) k vs c = Running (plan u e (Back l ∷ k)) vs c

  abbrev pub last_test : Loop → MaybeTyped → List Item → List Value → Scene → State
  last_test l absent k vs c = Undefined Unfit
  last_test l (present e) k vs c = Running (plan u e (Redo l ∷ k)) vs c

-- ---- one item

module _ (p : ProgramTy) where
  -- reaching the end of `main` is `return 0`
  abbrev pub at_the_end : List Frame → Value
  at_the_end frames = if func_in frames == p.main then Whole (pos 0) else NoValue

  abbrev pub perform : Item → List Item → List Value → Scene → State
  perform (Push v) k vs c = Running k (v ∷ vs) c
  perform (Name i) k vs c = go_on (object_place p.unit i c) k vs c
  perform Follow k vs c = one vs (λ v r. go_on (named_by c.store v) k r c)
  perform (Move o) k vs c = one vs (λ v r. go_on (moved c.store v (pos o)) k r c)
  perform (Fetch shape) k vs c = one vs (λ v r. go_on (loaded shape c v) k r c)
  perform Keep k vs c = one vs (λ v r. Running k (v ∷ r) c)
  perform (Change to) k vs c = one vs (λ v r. go_on (converted to v) k r c)
  perform (Apply1 op shape) k vs c = one vs (λ v r. go_on (unary c.store op shape v) k r c)
  perform (Apply2 op left right) k vs c = two vs (λ y x r. go_on (binary c.store op left right x y) k r c)
  perform (Both b) k vs c = one vs (λ v r. decided (truth_of c.store v) (Running (plan p.unit b (Truth ∷ k)) r c) (Running k (Whole (pos 0) ∷ r) c))
  perform (Either b) k vs c = one vs (λ v r. decided (truth_of c.store v) (Running k (Whole (pos 1) ∷ r) c) (Running (plan p.unit b (Truth ∷ k)) r c))
  perform Truth k vs c = one vs (λ v r. go_on (truth_of c.store v >>= λ b. Ok (Whole (truth b))) k r c)
  perform (Choose a b) k vs c = one vs (λ v r. decided (truth_of c.store v) (Running (plan p.unit a k) r c) (Running (plan p.unit b k) r c))
  perform Drop k vs c = one vs (λ v r. Running k r c)
  perform (Put shape) k vs c = two vs (λ v at r. assigned shape at k r (put false shape c at v))
  perform (Peek shape to) k vs c = one vs (λ at r. go_on (loaded shape c at >>= converted to) k (at ∷ r) c)
  perform (Bump kind shape) k vs c = two vs (λ v at r. go_on (bumped c.store kind shape v) k (at ∷ under (is_post kind) v r) c)
  perform (PutUnder shape) k vs c = two vs (λ v at r. with_scene (put false shape c at v) k r)
  perform (Carry done size) k vs c = two vs (λ from to r. copy_step done size from to k r c)
  perform (Gather size) k vs c = one vs (λ v r. go_on (gathered_at size c v) k r c)
  perform (Lay i done size) k vs c = one vs (λ v r. lay_step i done size v (place_in_object p.unit i 0 c) k r c)
  perform Reach k vs c = go_on (rest_place c) k vs c
  perform (Invoke callee types) k vs c = invoked p.unit callee types k (taken types [] vs) c
  perform (Busy left f args rest) k vs c = library_call left f args rest k vs c
  perform Skip k vs c = Running k vs c
  perform (Init i o shape) k vs c = one vs (λ v r. with_scene (put true shape c (place_in_object p.unit i o c) v) k r)
  perform (CarryInto i o done size) k vs c = one vs (λ from r. set_area_step i o done size from (place_in_object p.unit i o c) k r c)
  perform (Wipe i done size) k vs c = clear_step i done size (place_in_object p.unit i 0 c) k vs c
  perform (Begin n objects body) k vs c = Running (plan_stmts p.unit n body (End objects ∷ k)) vs (begin_objects p.unit objects c)
  perform (End objects) k vs c = Running k vs (end_objects objects c)
  perform (Branch m a n b) k vs c = one vs (λ v r. decided (truth_of c.store v) (Running (plan_stmt p.unit m a k) r c) (Running (plan_stmt p.unit n b k) r c))
  perform (Test l) k vs c = one vs (λ v r. decided (truth_of c.store v) (Running (plan_stmt p.unit l.at l.body (Next l ∷ k)) r c) (Running k r c))
  perform (Pass l) k vs c = Running (plan_stmt p.unit l.at l.body (Next l ∷ k)) vs c
  perform (Enter l) k vs c = Running (plan_stmt p.unit l.at l.body (Check l ∷ k)) vs c
  perform (Next l) k vs c = after_body p.unit l l.next k vs c
  perform (Back l) k vs c = one vs (λ v r. Running (head_of p.unit l k) r (turned c))
  perform (Check l) k vs c = last_test p.unit l l.test k vs c
  perform (Redo l) k vs c = one vs (λ v r. decided (truth_of c.store v) (Running (plan_stmt p.unit l.at l.body (Check l ∷ k)) r (turned c)) (Running k r c))
  perform (Select (suc left) n body) k vs c = Running (Select left n body ∷ k) vs c
  perform (Select zero n body) k vs c = one vs (λ v r. chosen_case p.unit n body k r c v)
  perform EndSwitch k vs c = Running k vs c
  perform (Jump l n) k vs c = jumped p.unit l n vs c (up_to_call k)
  perform LeaveLoop k vs c = left_for vs c (up_to_break k)
  perform GoOn k vs c = left_for vs c (up_to_continue k)
  perform Give k vs c = one vs (λ v r. if is_value v then returned p.unit v r c (up_to_call k) else Undefined (By NoResult))
  perform GiveNothing k vs c = returned p.unit NoValue vs c (up_to_call k)
  perform Leave k vs c = left_call p.unit (at_the_end c.frames) k vs c

  -- an end, an undefined action and too deep a call stay
  abbrev pub step : State → State
  step (Undefined why) = Undefined why
  step Deep = Deep
  step (Ended out status turns) = Ended out status turns
  step (Running [] vs c) = Undefined Unfit
  step (Running (i ∷ k) vs c) = perform i k vs c

  -- n steps
  abbrev pub steps : ℕ → State → State
  steps zero s = s
  steps (suc n) s = steps n (step s)
