-- One step of a run beside one of the free run.
use Rattle.std.proofs.Common.{ℕ, zero, suc, pos, List, [], ◌∷◌, true, false, refl, ap}
use Rattle.std.specs.Prelude.{Result}
use Rattle.c65_csem.specs.Trees.{Stmt, MaybeTyped, absent, present, UnitTy}
use Rattle.c65_meaning.specs.Program.{ProgramTy}
use Rattle.c65_meaning.specs.Why.{Why, ◌>>=◌}
use Rattle.c65_meaning.specs.Store.{Value, Whole, Null, Place, Opaque, Cells, NoValue}
use Rattle.c65_meaning.specs.Operators.{is_post, truth_of, converted}
use Rattle.c65_meaning.specs.Items.{Item, Loop, Push, Name, Follow, Move, Fetch, Keep, Change, Apply1, Apply2, Both, Either, Truth, Choose, Drop, Put, Peek, Bump, PutUnder, Carry, Gather, Lay, Reach, Invoke, Busy, Skip, Init, CarryInto, Wipe, Begin, End, Branch, Test, Pass, Enter, Next, Back, Check, Redo, Select, EndSwitch, Jump, LeaveLoop, GoOn, Give, GiveNothing, Leave}
use Rattle.c65_meaning.specs.After.{ToCase, ToDefault, after, or_else, up_to_call, up_to_break, up_to_continue}
use Rattle.c65_meaning.specs.State.{Scene, turned}
use Rattle.c65_meaning.specs.Step.{is_value, under, taken, begin_objects, end_objects, place_in_object, after_body, last_test, chosen_case, at_the_end, perform}
use Rattle.c65_meaning_law_free.specs.Free.{freed_scene}
use Rattle.c65_meaning_law_free.proofs.Scenes.{Room, Shallow, Beside, runs, one_beside, two_beside, go_on_beside, if_beside, decided_beside, with_scene_beside, loaded_same, put_scene, assigned_beside, copy_beside, set_area_beside, clear_beside, gathered_same, lay_beside, begins, ends, goes}
use Rattle.c65_meaning_law_free.proofs.Calls.{left_for_beside, left_call_beside, returned_beside, jumped_beside, switched_beside, library_beside, invoked_beside}

module _ (u : UnitTy) where
  after_body_beside : (room : Room) (l : Loop) (o : MaybeTyped) (k : List Item) (vs : List Value) (c : Scene) → Shallow room c → Beside room (after_body u l o k vs c) (after_body u l o k vs (freed_scene c))
  after_body_beside room l absent k vs c s = runs room _ vs (turned c) s
  after_body_beside room l (present e) k vs c s = runs room _ vs c s

  last_test_beside : (room : Room) (l : Loop) (o : MaybeTyped) (k : List Item) (vs : List Value) (c : Scene) → Shallow room c → Beside room (last_test u l o k vs c) (last_test u l o k vs (freed_scene c))
  last_test_beside room l absent k vs c s = refl
  last_test_beside room l (present e) k vs c s = runs room _ vs c s

  case_beside : (room : Room) (n : ℕ) (body : Stmt) (k : List Item) (vs : List Value) (c : Scene) (v : Value) → Shallow room c → Beside room (chosen_case u n body k vs c v) (chosen_case u n body k vs (freed_scene c) v)
  case_beside room n body k vs c (Whole z) s = switched_beside u room k vs c (or_else (after u (ToCase z) n body (EndSwitch ∷ k)) (after u ToDefault n body (EndSwitch ∷ k))) s
  case_beside room n body k vs c Null s = refl
  case_beside room n body k vs c (Place b o) s = refl
  case_beside room n body k vs c Opaque s = refl
  case_beside room n body k vs c (Cells xs) s = refl
  case_beside room n body k vs c NoValue s = refl

module _ (p : ProgramTy) where
  pub perform_beside : (room : Room) (i : Item) (k : List Item) (vs : List Value) (c : Scene) → Shallow room c → Beside room (perform p i k vs c) (perform p i k vs (freed_scene c))
  perform_beside room (Push v) k vs c s = runs room k (v ∷ vs) c s
  perform_beside room (Name i) k vs c s = go_on_beside room _ _ k vs c refl s
  perform_beside room Follow k vs c s = one_beside room vs _ _ (λ v r. go_on_beside room _ _ k r c refl s)
  perform_beside room (Move o) k vs c s = one_beside room vs _ _ (λ v r. go_on_beside room _ _ k r c refl s)
  perform_beside room (Fetch shape) k vs c s = one_beside room vs _ _ (λ v r. go_on_beside room _ _ k r c (loaded_same shape c v) s)
  perform_beside room Keep k vs c s = one_beside room vs _ _ (λ v r. runs room k (v ∷ r) c s)
  perform_beside room (Change to) k vs c s = one_beside room vs _ _ (λ v r. go_on_beside room _ _ k r c refl s)
  perform_beside room (Apply1 op shape) k vs c s = one_beside room vs _ _ (λ v r. go_on_beside room _ _ k r c refl s)
  perform_beside room (Apply2 op left right) k vs c s = two_beside room vs _ _ (λ y x r. go_on_beside room _ _ k r c refl s)
  perform_beside room (Both b) k vs c s = one_beside room vs _ _ (λ v r. decided_beside room (truth_of c.store v) _ _ _ _ (runs room _ r c s) (runs room k (Whole (pos 0) ∷ r) c s))
  perform_beside room (Either b) k vs c s = one_beside room vs _ _ (λ v r. decided_beside room (truth_of c.store v) _ _ _ _ (runs room k (Whole (pos 1) ∷ r) c s) (runs room _ r c s))
  perform_beside room Truth k vs c s = one_beside room vs _ _ (λ v r. go_on_beside room _ _ k r c refl s)
  perform_beside room (Choose a b) k vs c s = one_beside room vs _ _ (λ v r. decided_beside room (truth_of c.store v) _ _ _ _ (runs room _ r c s) (runs room _ r c s))
  perform_beside room Drop k vs c s = one_beside room vs _ _ (λ v r. runs room k r c s)
  perform_beside room (Put shape) k vs c s = two_beside room vs _ _ (λ v at r. assigned_beside room shape at k r c _ _ (put_scene false shape c at v) s)
  perform_beside room (Peek shape to) k vs c s = one_beside room vs _ _ (λ at r. go_on_beside room _ _ k (at ∷ r) c (ap (λ (o : Result Value Why). o >>= converted to) (loaded_same shape c at)) s)
  perform_beside room (Bump kind shape) k vs c s = two_beside room vs _ _ (λ v at r. go_on_beside room _ _ k (at ∷ under (is_post kind) v r) c refl s)
  perform_beside room (PutUnder shape) k vs c s = two_beside room vs _ _ (λ v at r. with_scene_beside room c _ _ k r (put_scene false shape c at v) s)
  perform_beside room (Carry done size) k vs c s = two_beside room vs _ _ (λ from to r. copy_beside room done size from to k r c s)
  perform_beside room (Gather size) k vs c s = one_beside room vs _ _ (λ v r. go_on_beside room _ _ k r c (gathered_same size c v) s)
  perform_beside room (Lay i done size) k vs c s = one_beside room vs _ _ (λ v r. lay_beside room i done size v (place_in_object p.unit i 0 c) k r c s)
  perform_beside room Reach k vs c s = go_on_beside room _ _ k vs c refl s
  perform_beside room (Invoke callee types) k vs c s = invoked_beside p.unit room callee types k (taken types [] vs) c s
  perform_beside room (Busy left f args rest) k vs c s = library_beside room left f args rest k vs c s
  perform_beside room Skip k vs c s = runs room k vs c s
  perform_beside room (Init i o shape) k vs c s = one_beside room vs _ _ (λ v r. with_scene_beside room c _ _ k r (put_scene true shape c (place_in_object p.unit i o c) v) s)
  perform_beside room (CarryInto i o done size) k vs c s = one_beside room vs _ _ (λ from r. set_area_beside room i o done size from (place_in_object p.unit i o c) k r c s)
  perform_beside room (Wipe i done size) k vs c s = clear_beside room i done size (place_in_object p.unit i 0 c) k vs c s
  perform_beside room (Begin n objects body) k vs c s = goes room _ vs c (begin_objects p.unit objects c) _ (begins p.unit objects c) s
  perform_beside room (End objects) k vs c s = goes room k vs c (end_objects objects c) _ (ends objects c) s
  perform_beside room (Branch m a n b) k vs c s = one_beside room vs _ _ (λ v r. decided_beside room (truth_of c.store v) _ _ _ _ (runs room _ r c s) (runs room _ r c s))
  perform_beside room (Test l) k vs c s = one_beside room vs _ _ (λ v r. decided_beside room (truth_of c.store v) _ _ _ _ (runs room _ r c s) (runs room k r c s))
  perform_beside room (Pass l) k vs c s = runs room _ vs c s
  perform_beside room (Enter l) k vs c s = runs room _ vs c s
  perform_beside room (Next l) k vs c s = after_body_beside p.unit room l l.next k vs c s
  perform_beside room (Back l) k vs c s = one_beside room vs _ _ (λ v r. runs room _ r (turned c) s)
  perform_beside room (Check l) k vs c s = last_test_beside p.unit room l l.test k vs c s
  perform_beside room (Redo l) k vs c s = one_beside room vs _ _ (λ v r. decided_beside room (truth_of c.store v) _ _ _ _ (runs room _ r (turned c) s) (runs room k r c s))
  perform_beside room (Select (suc left) n body) k vs c s = runs room _ vs c s
  perform_beside room (Select zero n body) k vs c s = one_beside room vs _ _ (λ v r. case_beside p.unit room n body k r c v s)
  perform_beside room EndSwitch k vs c s = runs room k vs c s
  perform_beside room (Jump l n) k vs c s = jumped_beside p.unit room l n vs c (up_to_call k) s
  perform_beside room LeaveLoop k vs c s = left_for_beside room vs c (up_to_break k) s
  perform_beside room GoOn k vs c s = left_for_beside room vs c (up_to_continue k) s
  perform_beside room Give k vs c s = one_beside room vs _ _ (λ v r. if_beside room (is_value v) _ _ _ _ (returned_beside p.unit room v r c (up_to_call k) s) refl)
  perform_beside room GiveNothing k vs c s = returned_beside p.unit room NoValue vs c (up_to_call k) s
  perform_beside room Leave k vs c s = left_call_beside p.unit room (at_the_end p c.frames) k vs c s
