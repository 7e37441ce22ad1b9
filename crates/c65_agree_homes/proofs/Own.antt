-- What a function of a plain program has of its own: distinct objects, and its frame.
use Rattle.std.proofs.Common.{◌≡◌, ℕ, zero, suc, true, Option, None, Some, List, [], ◌∷◌, ◌++◌, refl, sym, ◌∙◌, ap, subst, slice_get}
use Rattle.std.specs.Prelude.{option_map, Ok}
use Rattle.std.proofs.lemmas.Option.{slice_get-map}
use Rattle.c65_ctype.specs.Trees.{type_in}
use Rattle.c65_ctype.specs.Views.{types_of}
use Rattle.c65_csem.specs.Trees.{Stmt, empty, eval, set_part, clear, block, if_stmt, while, do_while, for_loop, switch, case, default, label, goto, break, continue, return, Stmts, no_stmts, and_stmts, ObjectTy, FuncTy}
use Rattle.c65_csem.specs.Statements.{IsDistinct}
use Rattle.c65_csem.specs.Units.{HasBody, IsFunc}
use Rattle.c65_csem.specs.Views.{object_of, func_of}
use Rattle.c65_csem_plain.specs.Body as plain
use Rattle.c65_csem_plain.specs.Plain.{HasPlainBody, own_objects, all_own_objects, IsPlainObject, IsPlainFunc}
use Rattle.c65_meaning.specs.After.{is_among}
use Rattle.c65_meaning.specs.Shapes.{object_in, object_size}
use Rattle.c65_genframe.specs.Objects.{objects_in, objects_in_all, objects_of, locals_of}
use Rattle.c65_genframe.specs.Sizes as frames
use Rattle.c65_genframe.specs.Sizes.{object_bytes}
use Rattle.c65_genframe.specs.Frames.{frame_of, frame_in}
use Rattle.c65_agree_start.proofs.Given.{all_at}
use Rattle.c65_agree_start.proofs.Sizes.{bytes_are_size}
use Rattle.c65_agree_state.specs.World.{World, unit_in, Active}
use Rattle.c65_agree_state.specs.Fixed.{is_object_of}
use Rattle.c65_agree_stmts.proofs.Blocks.{among_left, among_right}
use Rattle.c65_agree_enter.specs.Params.{AreDistinct, bytes_of}
use Rattle.c65_agree_homes.specs.Frames.{IsCallIn}
use Rattle.c65_agree_homes.proofs.Among.{among_clash}
use Rattle.c65_agree_homes.proofs.Distinct.{are_distinct, distinct_second, distinct_apart}
use Rattle.c65_agree_homes.proofs.Homes.{HaveFrame, frames_have_homes}

-- ---- the objects of a body, by the two definitions

mutual
  pub same_objects : (s : Stmt) → objects_in s ≡ plain.objects_of s
  same_objects (block os ss) = ap (λ (xs : List ℕ). os ++ xs) (all_same ss)
  same_objects (if_stmt e a b) = ap (λ (xs : List ℕ). xs ++ objects_in b) (same_objects a) ∙ ap (λ (xs : List ℕ). plain.objects_of a ++ xs) (same_objects b)
  same_objects (while e a) = same_objects a
  same_objects (do_while a e) = same_objects a
  same_objects (for_loop i c n a) = same_objects a
  same_objects (switch e a) = same_objects a
  same_objects (case z a) = same_objects a
  same_objects (default a) = same_objects a
  same_objects (label l a) = same_objects a
  same_objects empty = refl
  same_objects (eval e) = refl
  same_objects (set_part i o e) = refl
  same_objects (clear i) = refl
  same_objects (goto l) = refl
  same_objects break = refl
  same_objects continue = refl
  same_objects (return e) = refl

  all_same : (ss : Stmts) → objects_in_all ss ≡ plain.objects_in ss
  all_same no_stmts = refl
  all_same (and_stmts a ss) = ap (λ (xs : List ℕ). xs ++ objects_in_all ss) (same_objects a) ∙ ap (λ (xs : List ℕ). plain.objects_of a ++ xs) (all_same ss)

no_items : IsDistinct {A = ℕ} []
no_items = record { once = λ i j x e f. cc }

-- ---- objects of several functions

own_all : (fs : List FuncTy) (k : ℕ) (f : FuncTy) (i : ℕ) → slice_get fs k ≡ Some f → is_among (own_objects f.params f.body) i ≡ true → is_among (all_own_objects fs) i ≡ true
own_all [] k f i e a = cc
own_all (h ∷ fs) zero f i e a =
    let same : h ≡ f = cc in
    among_left (own_objects h.params h.body) (all_own_objects fs) i (subst (λ (z : FuncTy). is_among (own_objects z.params z.body) i ≡ true) (sym same) a)
own_all (h ∷ fs) (suc k) f i e a = among_right (own_objects h.params h.body) (all_own_objects fs) i (own_all fs k f i e a)

-- an object of two functions of a list is that of one
own_once : (fs : List FuncTy) → AreDistinct (all_own_objects fs) → (k l i : ℕ) (f g : FuncTy) → slice_get fs k ≡ Some f → slice_get fs l ≡ Some g → is_among (own_objects f.params f.body) i ≡ true → is_among (own_objects g.params g.body) i ≡ true → k ≡ l
own_once [] d k l i f g e m a b = cc
own_once (h ∷ fs) d zero zero i f g e m a b = refl
own_once (h ∷ fs) d zero (suc l) i f g e m a b =
    let same : h ≡ f = cc in
    let here : is_among (own_objects h.params h.body) i ≡ true = subst (λ (z : FuncTy). is_among (own_objects z.params z.body) i ≡ true) (sym same) a in
    among_clash (all_own_objects fs) i (own_all fs l g i m b) (distinct_apart (own_objects h.params h.body) (all_own_objects fs) d i here)
own_once (h ∷ fs) d (suc k) zero i f g e m a b =
    let same : h ≡ g = cc in
    let here : is_among (own_objects h.params h.body) i ≡ true = subst (λ (z : FuncTy). is_among (own_objects z.params z.body) i ≡ true) (sym same) b in
    among_clash (all_own_objects fs) i (own_all fs k f i e a) (distinct_apart (own_objects h.params h.body) (all_own_objects fs) d i here)
own_once (h ∷ fs) d (suc k) (suc l) i f g e m a b = ap suc (own_once fs (distinct_second (own_objects h.params h.body) (all_own_objects fs) d) k l i f g e m a b)

module _ (g : World) (names : List (List ℕ)) (a : Active) (f : FuncTy) (h : IsCallIn g names a f) where
  pub framed : frame_of g.parts g.modes f ≡ Ok a.frame
  framed = sym (ap (frame_in g.parts g.modes) item) ∙ h.call.frame
    where
      item : option_map func_of (slice_get g.parts.funcs.items a.func) ≡ Some f
      item = sym (slice_get-map func_of g.parts.funcs.items a.func) ∙ h.function

  -- ---- objects

  pub has_body : (k : ℕ) (func : FuncTy) → slice_get (unit_in g).funcs k ≡ Some func → HasBody (unit_in g) func func.body
  has_body k func e = (all_at (IsFunc (unit_in g)) (unit_in g).funcs k func h.program.unit.funcs e).body

  -- parameters, and objects of blocks
  pub own_are : (k : ℕ) (func : FuncTy) → slice_get (unit_in g).funcs k ≡ Some func → own_objects func.params func.body ≡ func.params ++ locals_of func
  own_are k func e = go func.body (has_body k func e)
    where
      go : (body : Option Stmt) → HasBody (unit_in g) func body → own_objects func.params body ≡ func.params ++ objects_of body
      go None none = ap (λ (ps : List ℕ). ps ++ []) (sym none)
      go (Some body) is = ap (λ (xs : List ℕ). func.params ++ xs) (sym (same_objects body))

  pub own_distinct : AreDistinct (f.params ++ locals_of f)
  own_distinct = go f.body (has_body a.func f h.function) (all_at (IsPlainFunc names (unit_in g)) (unit_in g).funcs a.func f h.plain.funcs h.function).body
    where
      go : (body : Option Stmt) → HasBody (unit_in g) f body → HasPlainBody (unit_in g) f.params body → AreDistinct (f.params ++ objects_of body)
      go None none is = subst (λ (ps : List ℕ). AreDistinct (ps ++ [])) (sym none) tt
      go (Some body) well is = subst (λ (xs : List ℕ). AreDistinct (f.params ++ xs)) (sym (same_objects body)) (are_distinct (f.params ++ plain.objects_of body) is.objects)

  pub params_distinct : IsDistinct f.params
  params_distinct = go f.body (has_body a.func f h.function)
    where
      go : (body : Option Stmt) → HasBody (unit_in g) f body → IsDistinct f.params
      go None none = subst (λ (ps : List ℕ). IsDistinct ps) (sym none) no_items
      go (Some body) well = well.distinct_params

  -- no other function has an object of it
  pub own_alone : (k i : ℕ) → is_among (f.params ++ locals_of f) i ≡ true → is_object_of (slice_get (unit_in g).funcs k) i ≡ true → k ≡ a.func
  own_alone k i is other = go (slice_get (unit_in g).funcs k) refl other
    where
      go : (o : Option FuncTy) → slice_get (unit_in g).funcs k ≡ o → is_object_of o i ≡ true → k ≡ a.func
      go None e m = cc
      go (Some func) e m =
          own_once (unit_in g).funcs (are_distinct (all_own_objects (unit_in g).funcs) h.plain.apart) k a.func i func f e h.function
          (ap (λ (xs : List ℕ). is_among xs i) (own_are k func e) ∙ m) (ap (λ (xs : List ℕ). is_among xs i) (own_are a.func f h.function) ∙ is)

  -- ---- their bytes

  pub object_same : (i : ℕ) → object_in (unit_in g) i ≡ frames.object_in g.parts i
  object_same i = slice_get-map object_of g.parts.objects.items i

  pub size_same : (i : ℕ) → bytes_of (unit_in g) i ≡ object_bytes (types_of g.parts.types) (frames.object_in g.parts i)
  size_same i = go (object_in (unit_in g) i) refl ∙ ap (object_bytes (types_of g.parts.types)) (object_same i)
    where
      go : (o : Option ObjectTy) → object_in (unit_in g) i ≡ o → object_size (unit_in g).types (object_in (unit_in g) i) ≡ object_bytes (types_of g.parts.types) (object_in (unit_in g) i)
      go None e = ap (object_size (unit_in g).types) e ∙ sym (ap (object_bytes (types_of g.parts.types)) e)
      go (Some o) e =
          let is : IsPlainObject names (unit_in g) o = all_at (IsPlainObject names (unit_in g)) (unit_in g).objects i o h.plain.objects e in
          let same = bytes_are_size (types_of g.parts.types) (type_in o.ty) 65536 is.bytes.some is.bytes.few in
          ap (object_size (unit_in g).types) e ∙ (sym same ∙ sym (ap (object_bytes (types_of g.parts.types)) e))

  pub has_frame : HaveFrame g.parts f a.frame
  has_frame = frames_have_homes g.parts g.modes f a.frame framed (are_distinct f.params params_distinct)
