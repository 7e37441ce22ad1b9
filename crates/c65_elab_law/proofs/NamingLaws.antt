-- Names and literals as expressions are well typed, and calls of undeclared names keep the scope.
use Rattle.std.proofs.Common.{◌≡◌, ℕ, Bool, true, false, Option, Some, None, Ok, refl, subst, List, [], ◌∷◌, ◌++◌, length}
use Rattle.std.specs.Prelude.{slice_get}
use Rattle.c65_base.specs.declared.names.Name.{Name}
use Rattle.c65_base.specs.declared.refusal.Pos.{Pos}
use Rattle.c65_base.specs.declared.operators.BinaryOp.{BinaryOp}
use Rattle.c65_base.specs.declared.operators.UnaryOp.{UnaryOp}
use Rattle.c65_ints.specs.declared.types.IntType.TheVariants.{Int}
use Rattle.c65_csem.specs.declared.items.Class.{Class}
use Rattle.c65_csem.specs.declared.items.Class.TheVariants as c
use Rattle.c65_csem.specs.Trees as n
use Rattle.c65_csem.specs.Trees.{Typed, node, Node, UnitTy, ObjectTy, FuncTy, type_of}
use Rattle.c65_csem.specs.Places.{has_register, is_registered}
use Rattle.c65_csem.specs.Typed.{IsLiteral, IsTyped}
use Rattle.c65_elab_scope.specs.declared.meaning.Bound.{Bound}
use Rattle.c65_elab_scope.specs.declared.meaning.Meaning.{Meaning}
use Rattle.c65_elab_scope.specs.declared.meaning.Meaning.TheVariants as m
use Rattle.c65_elab_scope.specs.Tables.{found}
use Rattle.c65_elab_scope.specs.Scopes.{ScopeTy, char_of}
use Rattle.c65_elab_scope.specs.Declaring.{func_declared}
use Rattle.c65_tree.specs.Trees as t
use Rattle.c65_elab.specs.Naming.{is_rest, object_named, func_named, meaning_named, bound_named, named, implicit, called_unless, called_first, literal_type, literal_typed}
use Rattle.c65_elab.specs.Operators.{register_object, is_register, on_place, assigning}
use Rattle.c65_elab_law.specs.Scoped.{IsMeant, IsBound, IsScope, Keeps, IsAnswer}
use Rattle.c65_elab_law.proofs.GrowthLaws.{alike_self}
use Rattle.c65_elab_law.proofs.OperatorLaws.{bind_ok, ok_is, not_ok}
use Rattle.c65_elab_law.proofs.ScopeLaws.{keeps_self, found_bound, get_more, later_self}
use Rattle.c65_elab_law.proofs.DeclaringLaws.{func_declared_keeps}
use Rattle.c65_elab_law.proofs.ChangeLaws.{assign_typed, assign_op_typed}
use Rattle.c65_elab_law.proofs.UnaryLaws.{unary_typed}

object_typed : (s : ScopeTy) (i : ℕ) (p : Pos) (e : Typed) → object_named i p (slice_get s.unit.objects i) ≡ Ok e → IsTyped s.unit e
object_typed s i p e h = tested (slice_get s.unit.objects i) refl
  where
    tested : (o : Option ObjectTy) → slice_get s.unit.objects i ≡ o → IsTyped s.unit e
    tested None x = absurd (not_ok _ _ (rw x at h))
    tested (Some o) x = subst (IsTyped s.unit) (ok_is _ _ (rw x at h)) (o, x, alike_self o.ty)

func_typed : (s : ScopeTy) (i : ℕ) (p : Pos) (e : Typed) → func_named i p (slice_get s.unit.funcs i) ≡ Ok e → IsTyped s.unit e
func_typed s i p e h = tested (slice_get s.unit.funcs i) refl
  where
    tested : (f : Option FuncTy) → slice_get s.unit.funcs i ≡ f → IsTyped s.unit e
    tested None x = absurd (not_ok _ _ (rw x at h))
    tested (Some f) x = subst (IsTyped s.unit) (ok_is _ _ (rw x at h)) (f, x, f.ty, refl)

meaning_typed : (s : ScopeTy) (p : Pos) (a : Meaning) (e : Typed) → IsMeant a → meaning_named s p a ≡ Ok e → IsTyped s.unit e
meaning_typed s p (m.Object i) e w h = object_typed s i p e h
meaning_typed s p (m.Func i) e w h = func_typed s i p e h
meaning_typed s p (m.Typedef i) e w h = absurd (not_ok _ _ h)
meaning_typed s p (m.Enumerator z) e w h = subst (IsTyped s.unit) (ok_is _ _ h) (Int, refl, w)
meaning_typed s p (m.Tag i) e w h = absurd (not_ok _ _ h)
meaning_typed s p m.Enumeration e w h = absurd (not_ok _ _ h)

bound_typed : (s : ScopeTy) (n : Name) (p : Pos) (b : Option Bound) (e : Typed) → IsBound b → bound_named s n p b ≡ Ok e → IsTyped s.unit e
bound_typed s n p None e w h = tested (is_rest s n) refl
  where
    tested : (b : Bool) → is_rest s n ≡ b → IsTyped s.unit e
    tested true x = subst (IsTyped s.unit) (ok_is _ _ (rw x at h)) refl
    tested false x = absurd (not_ok _ _ (rw x at h))
bound_typed s n p (Some b) e w h = meaning_typed s p b.meaning e w h

pub named_typed : (s : ScopeTy) (n : Name) (p : Pos) (e : Typed) → IsScope s → named s n p ≡ Ok e → IsTyped s.unit e
named_typed s n p e w h = bound_typed s n p (found s.names n) e (found_bound s.names n w.names) h

-- ---- literals

pub get_last : {A : Type 0} (xs : List A) (x : A) → slice_get (xs ++ x ∷ []) (length xs) ≡ Some x
get_last [] x = refl
get_last (y ∷ xs) x = get_last xs x

is_literal : (signed : Bool) (k : ℕ) → IsLiteral (literal_type (char_of signed) k) k
is_literal true k = IsLiteral.of_signed
is_literal false k = IsLiteral.of_unsigned

pub literal_keeps : (s : ScopeTy) (bytes : List ℕ) (x : Typed × ScopeTy) → IsScope s → literal_typed s bytes ≡ Ok x → IsAnswer s x
literal_keeps s bytes x w h = subst (IsAnswer s) (ok_is _ _ h) (record {
  typed = (bytes, get_last s.unit.literals bytes, is_literal s.signed_chars (length bytes));
  kept = record {
    scope = record { types = w.types; one_unit = w.one_unit; names = w.names; objects = w.objects; funcs = w.funcs };
    grown = record { types = λ tag l g. g; objects = λ i o g. (o, g, later_self o); literals = λ i bs g. get_more s.unit.literals (bytes ∷ []) i bs g; funcs = λ i f g. (f, g) };
  };
})

-- ---- calls of names

called_unless_keeps : (s : ScopeTy) (n : Name) (p : Pos) (b : Option Bound) (u : ScopeTy) → IsScope s → called_unless s n p b ≡ Ok u → Keeps s u
called_unless_keeps s n p None u w h = tested (is_rest s n) refl
  where
    tested : (b : Bool) → is_rest s n ≡ b → Keeps s u
    tested true y = subst (Keeps s) (ok_is _ _ (rw y at h)) (keeps_self s w)
    tested false y =
        let (x, hx, h1) = bind_ok (func_declared s n implicit None p) (λ x. Ok x.1) u (rw y at h) in
        subst (Keeps s) (ok_is _ _ h1) (func_declared_keeps s n implicit None p x w hx)
called_unless_keeps s n p (Some b) u w h = subst (Keeps s) (ok_is _ _ h) (keeps_self s w)

pub called_first_keeps : (f : t.ExprTree) (s u : ScopeTy) → IsScope s → called_first f s ≡ Ok u → Keeps s u
called_first_keeps (t.name p n) s u w h = called_unless_keeps s n p (found s.names n) u w h
called_first_keeps (t.number p k a) s u w h = subst (Keeps s) (ok_is _ _ h) (keeps_self s w)
called_first_keeps (t.text p bytes) s u w h = subst (Keeps s) (ok_is _ _ h) (keeps_self s w)
called_first_keeps (t.paren p e) s u w h = subst (Keeps s) (ok_is _ _ h) (keeps_self s w)
called_first_keeps (t.index p a b) s u w h = subst (Keeps s) (ok_is _ _ h) (keeps_self s w)
called_first_keeps (t.call p f es) s u w h = subst (Keeps s) (ok_is _ _ h) (keeps_self s w)
called_first_keeps (t.member p e arrow a) s u w h = subst (Keeps s) (ok_is _ _ h) (keeps_self s w)
called_first_keeps (t.step p how e) s u w h = subst (Keeps s) (ok_is _ _ h) (keeps_self s w)
called_first_keeps (t.unary p op e) s u w h = subst (Keeps s) (ok_is _ _ h) (keeps_self s w)
called_first_keeps (t.sizeof_expr p e) s u w h = subst (Keeps s) (ok_is _ _ h) (keeps_self s w)
called_first_keeps (t.sizeof_type p a) s u w h = subst (Keeps s) (ok_is _ _ h) (keeps_self s w)
called_first_keeps (t.cast p a e) s u w h = subst (Keeps s) (ok_is _ _ h) (keeps_self s w)
called_first_keeps (t.binary p op a b) s u w h = subst (Keeps s) (ok_is _ _ h) (keeps_self s w)
called_first_keeps (t.and_also p a b) s u w h = subst (Keeps s) (ok_is _ _ h) (keeps_self s w)
called_first_keeps (t.or_else p a b) s u w h = subst (Keeps s) (ok_is _ _ h) (keeps_self s w)
called_first_keeps (t.conditional p a b d) s u w h = subst (Keeps s) (ok_is _ _ h) (keeps_self s w)
called_first_keeps (t.assign p op a b) s u w h = subst (Keeps s) (ok_is _ _ h) (keeps_self s w)
called_first_keeps (t.comma p a b) s u w h = subst (Keeps s) (ok_is _ _ h) (keeps_self s w)

-- ---- operators that ask the scope

class_agrees : (o : Option ObjectTy) → has_register o ≡ register_object o
class_agrees None = refl
class_agrees (Some o) = of_class o.class
  where
    of_class : (class : Class) → has_register (Some (record o { class = class })) ≡ register_object (Some (record o { class = class }))
    of_class c.External = refl
    of_class c.Tentative = refl
    of_class c.Declared = refl
    of_class c.Static = refl
    of_class c.Auto = refl
    of_class c.Register = refl
    of_class c.Fixed = refl

register_agrees : (s : ScopeTy) (e : Typed) → is_registered s.unit e ≡ is_register s e
register_agrees s (node q (n.object i)) = class_agrees (slice_get s.unit.objects i)
register_agrees s (node q (n.member e a)) = register_agrees s e
register_agrees s (node q _) = refl

pub on_place_typed : (s : ScopeTy) (p : Pos) (op : UnaryOp) (e r : Typed) → IsTyped s.unit e → on_place s p op e ≡ Ok r → IsTyped s.unit r
on_place_typed s p op e r w h = unary_typed s.unit p op (is_register s e) e r w (register_agrees s e) h

pub assigning_typed : (u : UnitTy) (p : Pos) (op : Option BinaryOp) (a b r : Typed) → IsTyped u a → IsTyped u b → assigning u.types p op a b ≡ Ok r → IsTyped u r
assigning_typed u p None a b r w v h = assign_typed u p a b r w v h
assigning_typed u p (Some op) a b r w v h = assign_op_typed u p op a b r w v h
