-- What steps keep of a scene: its active call, those below it, and the turns.
use Rattle.std.proofs.Common.{◌≡◌, ◌∙◌, ℕ, ◌+◌, ◌==◌, Bool, true, false, List, [], ◌∷◌, length, Option, Some, None, Result, Ok, Err, refl}
use Rattle.std.specs.Prelude.{⊤, slice_get, ◌&&◌, if◌then◌else◌}
use Rattle.c65_csem.specs.Trees.{UnitTy}
use Rattle.c65_meaning.specs.declared.action.Action.TheVariants.{PartialOverlap}
use Rattle.c65_meaning.specs.Why.{Why, By}
use Rattle.c65_meaning.specs.Store.{Store, Value, Place, Cells, NoValue, Shape, write, carry, put_cell, nth_cell, byte}
use Rattle.c65_meaning.specs.State.{Frame, Scene, block_in, name_object, rest_in}
use Rattle.c65_meaning.specs.Step.{func_in, begin_object, begin_objects, end_named, end_objects, end_arguments, params_of, stored, put, partly_overlap, carried, carried_byte, cleared, laid}

pub record IsSame (c d : Scene) : Type 0 where
  pub depth : length d.frames ≡ length c.frames
  pub func : func_in d.frames ≡ func_in c.frames
  pub turns : d.turns ≡ c.turns

pub same : (c : Scene) → IsSame c c
same c = record { depth = refl; func = refl; turns = refl }

pub then_same : (c d e : Scene) → IsSame c d → IsSame d e → IsSame c e
then_same c d e a b = record { depth = b.depth ∙ a.depth; func = b.func ∙ a.func; turns = b.turns ∙ a.turns }

-- the same of what may be refused
abbrev pub Keeps : Scene → Result Scene Why → Type 0
Keeps c (Ok d) = IsSame c d
Keeps c (Err why) = ⊤

-- ---- objects

name_length : (frames : List Frame) (i b : ℕ) → length (name_object frames i b) ≡ length frames
name_length [] i b = refl
name_length (f ∷ rest) i b = refl

name_func : (frames : List Frame) (i b : ℕ) → func_in (name_object frames i b) ≡ func_in frames
name_func [] i b = refl
name_func (f ∷ rest) i b = refl

pub begun_same : (u : UnitTy) (objects : List ℕ) (c : Scene) → IsSame c (begin_objects u objects c)
begun_same u [] c = same c
begun_same u (i ∷ rest) c =
    then_same c (begin_object u i c) (begin_objects u rest (begin_object u i c))
    (record { depth = name_length c.frames i c.next; func = name_func c.frames i c.next; turns = refl })
    (begun_same u rest (begin_object u i c))

named_same : (o : Option ℕ) (c : Scene) → IsSame c (end_named o c)
named_same None c = same c
named_same (Some b) c = record { depth = refl; func = refl; turns = refl }

pub ended_same : (objects : List ℕ) (c : Scene) → IsSame c (end_objects objects c)
ended_same [] c = same c
ended_same (i ∷ rest) c = then_same c (end_named (block_in c.frames i) c) (end_objects rest (end_named (block_in c.frames i) c)) (named_same (block_in c.frames i) c) (ended_same rest (end_named (block_in c.frames i) c))

pub arguments_same : (u : UnitTy) (c : Scene) → IsSame c (end_arguments u c)
arguments_same u c =
    let d : Scene = end_objects (params_of (slice_get u.funcs (func_in c.frames))) c in
    then_same c d (end_named (rest_in c.frames) d) (ended_same (params_of (slice_get u.funcs (func_in c.frames))) c) (named_same (rest_in c.frames) d)

-- ---- stores

stored_same : (c : Scene) (s : Result Store Why) → Keeps c (stored c s)
stored_same c (Ok t) = record { depth = refl; func = refl; turns = refl }
stored_same c (Err why) = tt

pub put_same : (first : Bool) (shape : Shape) (c : Scene) (at v : Value) → Keeps c (put first shape c at v)
put_same first shape c (Place b o) NoValue = tt
put_same first shape c (Place b o) v = stored_same c (write first shape c.store b o v)
put_same first shape c _ v = tt

carried_same : (first : Bool) (done : ℕ) (c : Scene) (from to : Value) → Keeps c (carried first done c from to)
carried_same first done c (Place b o) (Place d p) = stored_same c (carry first c.store b (o + done) d (p + done))
carried_same first done c _ _ = tt

pub byte_same : (first : Bool) (done size : ℕ) (c : Scene) (from to : Value) → Keeps c (carried_byte first done size c from to)
byte_same first done size c from to = at (done == 0 && partly_overlap size from to)
  where
    at : (b : Bool) → Keeps c (if b then Err (By PartialOverlap) else carried first done c from to)
    at true = tt
    at false = carried_same first done c from to

pub cleared_same : (c : Scene) (done : ℕ) (v : Value) → Keeps c (cleared c done v)
cleared_same c done (Place b o) = stored_same c (put_cell true c.store b (o + done) (byte 0))
cleared_same c done _ = tt

pub laid_same : (done : ℕ) (c : Scene) (at v : Value) → Keeps c (laid done c at v)
laid_same done c (Place b o) (Cells xs) = stored_same c (put_cell true c.store b (o + done) (nth_cell xs done))
laid_same done c _ _ = tt
