-- Scenes that an action gives: the active calls stay, with their functions and costs.
use Rattle.std.proofs.Common.{◌≡◌, ℕ, ◌+◌, List, [], ◌∷◌, Option, Some, None, Bool, true, false, if◌then◌else◌, refl, ◌∙◌}
use Rattle.std.specs.Prelude.{⊤, Result, Ok, Err, slice_get, ◌&&◌, ◌==◌}
use Rattle.c65_ctype.specs.Trees.{Ty}
use Rattle.c65_csem.specs.Trees.{FuncTy, UnitTy}
use Rattle.c65_meaning.specs.Why.{Why, ◌>>=◌}
use Rattle.c65_meaning.specs.Store.{Cell, Store, Value, Whole, Null, Place, Opaque, Cells, NoValue, Shape, write, carry, put_cell, nth_cell, byte}
use Rattle.c65_meaning.specs.Shapes.{object_in, object_shape}
use Rattle.c65_meaning.specs.Calls.{is_variadic}
use Rattle.c65_meaning.specs.State.{Frame, Scene, block_in, name_object, rest_in, name_rest}
use Rattle.c65_meaning.specs.Step.{stored, begin_object, begin_objects, end_named, end_objects, put, partly_overlap, carried, carried_byte, cleared, laid, with_rest, with_params, further, with_passed, has_turn, params_of, func_in, end_arguments}
use Rattle.c65_depth_law_states.proofs.Marks.{Active, active}

-- the active calls of what an action gives
abbrev pub AreIn : List Active → Result Scene Why → Type 0
AreIn calls (Err why) = ⊤
AreIn calls (Ok c) = active c.frames ≡ calls

module _ (calls : List Active) where
  stored_in : (c : Scene) (s : Result Store Why) → active c.frames ≡ calls → AreIn calls (stored c s)
  stored_in c (Err why) o = tt
  stored_in c (Ok s) o = o

  pub bound_in : (r : Result Scene Why) (f : Scene → Result Scene Why) → AreIn calls r → ((d : Scene) → active d.frames ≡ calls → AreIn calls (f d)) → AreIn calls (r >>= f)
  bound_in (Err why) f h n = tt
  bound_in (Ok d) f h n = n d h

  -- ---- stores

  pub put_in : (is_first : Bool) (shape : Shape) (c : Scene) (at v : Value) → active c.frames ≡ calls → AreIn calls (put is_first shape c at v)
  put_in is_first shape c (Place b o) NoValue e = tt
  put_in is_first shape c (Place b o) (Whole z) e = stored_in c (write is_first shape c.store b o (Whole z)) e
  put_in is_first shape c (Place b o) Null e = stored_in c (write is_first shape c.store b o Null) e
  put_in is_first shape c (Place b o) (Place d q) e = stored_in c (write is_first shape c.store b o (Place d q)) e
  put_in is_first shape c (Place b o) Opaque e = stored_in c (write is_first shape c.store b o Opaque) e
  put_in is_first shape c (Place b o) (Cells xs) e = stored_in c (write is_first shape c.store b o (Cells xs)) e
  put_in is_first shape c (Whole z) v e = tt
  put_in is_first shape c Null v e = tt
  put_in is_first shape c Opaque v e = tt
  put_in is_first shape c (Cells xs) v e = tt
  put_in is_first shape c NoValue v e = tt

  carried_in : (is_first : Bool) (done : ℕ) (c : Scene) (from to : Value) → active c.frames ≡ calls → AreIn calls (carried is_first done c from to)
  carried_in is_first done c (Place b o) (Place d q) e = stored_in c (carry is_first c.store b (o + done) d (q + done)) e
  carried_in is_first done c (Place b o) _ e = tt
  carried_in is_first done c _ to e = tt

  unless_in : (t : Bool) (why : Why) (r : Result Scene Why) → AreIn calls r → AreIn calls (if t then Err why else r)
  unless_in true why r h = tt
  unless_in false why r h = h

  pub byte_in : (is_first : Bool) (done size : ℕ) (c : Scene) (from to : Value) → active c.frames ≡ calls → AreIn calls (carried_byte is_first done size c from to)
  byte_in is_first done size c from to e = unless_in (done == 0 && partly_overlap size from to) _ (carried is_first done c from to) (carried_in is_first done c from to e)

  pub cleared_in : (c : Scene) (done : ℕ) (at : Value) → active c.frames ≡ calls → AreIn calls (cleared c done at)
  cleared_in c done (Place b o) e = stored_in c (put_cell true c.store b (o + done) (byte 0)) e
  cleared_in c done _ e = tt

  pub laid_in : (done : ℕ) (c : Scene) (at v : Value) → active c.frames ≡ calls → AreIn calls (laid done c at v)
  laid_in done c (Place b o) (Cells xs) e = stored_in c (put_cell true c.store b (o + done) (nth_cell xs done)) e
  laid_in done c (Place b o) (Whole z) e = tt
  laid_in done c (Place b o) Null e = tt
  laid_in done c (Place b o) (Place d q) e = tt
  laid_in done c (Place b o) Opaque e = tt
  laid_in done c (Place b o) NoValue e = tt
  laid_in done c (Whole z) v e = tt
  laid_in done c Null v e = tt
  laid_in done c Opaque v e = tt
  laid_in done c (Cells xs) v e = tt
  laid_in done c NoValue v e = tt

  -- ---- objects

  pub one_ends : (b : Option ℕ) (c : Scene) → active c.frames ≡ calls → active (end_named b c).frames ≡ calls
  one_ends None c e = e
  one_ends (Some b) c e = e

  pub objects_end : (objects : List ℕ) (c : Scene) → active c.frames ≡ calls → active (end_objects objects c).frames ≡ calls
  objects_end [] c e = e
  objects_end (i ∷ rest) c e = objects_end rest (end_named (block_in c.frames i) c) (one_ends (block_in c.frames i) c e)

  pub turn_in : (t : Bool) (c : Scene) → active c.frames ≡ calls → active (has_turn t c).frames ≡ calls
  turn_in true c e = e
  turn_in false c e = e

  named_object : (frames : List Frame) (i b : ℕ) → active (name_object frames i b) ≡ active frames
  named_object [] i b = refl
  named_object (f ∷ fs) i b = refl

  named_rest : (frames : List Frame) (b : ℕ) → active (name_rest frames b) ≡ active frames
  named_rest [] b = refl
  named_rest (f ∷ fs) b = refl

  rest_in_scene : (variadic : Bool) (xs : List Cell) (c : Scene) → active c.frames ≡ calls → active (with_rest variadic xs c).frames ≡ calls
  rest_in_scene true xs c e = named_rest c.frames c.next ∙ e
  rest_in_scene false xs c e = e

  module _ (u : UnitTy) where
    object_begins : (i : ℕ) (c : Scene) → active c.frames ≡ calls → active (begin_object u i c).frames ≡ calls
    object_begins i c e = named_object c.frames i c.next ∙ e

    pub objects_begin : (objects : List ℕ) (c : Scene) → active c.frames ≡ calls → active (begin_objects u objects c).frames ≡ calls
    objects_begin [] c e = e
    objects_begin (i ∷ rest) c e = objects_begin rest (begin_object u i c) (object_begins i c e)

    params_in : (objects : List ℕ) (args : List Value) (c : Scene) → active c.frames ≡ calls → AreIn calls (with_params u objects args c)
    params_in [] args c e = e
    params_in (i ∷ objects) [] c e = tt
    params_in (i ∷ objects) (v ∷ args) c e =
        bound_in (put true (object_shape u.types (object_in u i)) (begin_object u i c) (Place c.next 0) v) (with_params u objects args)
        (put_in true (object_shape u.types (object_in u i)) (begin_object u i c) (Place c.next 0) v (object_begins i c e))
        (λ d o. params_in objects args d o)

    pub passed_in : (g : FuncTy) (types : List Ty) (args : List Value) (c : Scene) → active c.frames ≡ calls → AreIn calls (with_passed u g types args c)
    passed_in g types args c e =
        bound_in (with_params u g.params args c) (λ d. Ok (with_rest (is_variadic g.ty) (further u g types args) d)) (params_in g.params args c e)
        (λ d o. rest_in_scene (is_variadic g.ty) (further u g types args) d o)

    pub arguments_end : (c : Scene) → active c.frames ≡ calls → active (end_arguments u c).frames ≡ calls
    arguments_end c e =
        let params : List ℕ = params_of (slice_get u.funcs (func_in c.frames)) in
        one_ends (rest_in c.frames) (end_objects params c) (objects_end params c e)
