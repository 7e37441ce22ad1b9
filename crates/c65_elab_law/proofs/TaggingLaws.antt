-- Specifiers of tags and enumerations, and parameters, keep what holds of a scope.
use Rattle.std.proofs.Common.{◌≡◌, ℕ, Bool, true, false, Option, Some, None, Ok, refl, subst, ℤ, pos, negsuc}
use Rattle.std.specs.Prelude.{Result, ◌&&◌, is_some, int_le}
use Rattle.std.proofs.lemmas.Bool.{and_parts}
use Rattle.c65_base.specs.declared.names.Name.{Name}
use Rattle.c65_base.specs.declared.refusal.Pos.{Pos}
use Rattle.c65_base.specs.Answers.{Fault, ◌>>=◌}
use Rattle.c65_ints.specs.declared.types.IntType.TheVariants.{Int}
use Rattle.c65_ints.specs.Ranges.{InRange}
use Rattle.c65_ctype.specs.Trees.{QTy}
use Rattle.c65_ctype.specs.Tables.{layout_at}
use Rattle.c65_elab_scope.specs.declared.meaning.Meaning.{Meaning}
use Rattle.c65_elab_scope.specs.declared.meaning.Meaning.TheVariants as m
use Rattle.c65_elab_scope.specs.Tables.{found_in}
use Rattle.c65_elab_scope.specs.Scopes.{ScopeTy, tag_bound}
use Rattle.c65_elab_scope.specs.Declaring.{tag_opened, declared}
use Rattle.c65_elab_declare.specs.Constants.{enumerator_value}
use Rattle.c65_elab_declare.specs.Declarators.{FormalTy, adjusted}
use Rattle.c65_elab_declare.specs.Prototypes.{param_form, is_nothing, param_named, param_class, formal_in}
use Rattle.c65_elab_declare.specs.Tagging.{new_tag, same_kind, meant_tag, tag_meant, named_tag, unfinished, tag_begun, begun_tag, begun_enumeration}
use Rattle.c65_elab_law.specs.Scoped.{IsScope, Keeps}
use Rattle.c65_elab_law.proofs.OperatorLaws.{bind_ok, ok_is, not_ok}
use Rattle.c65_elab_law.proofs.ScopeLaws.{keeps_self, keeps_on}
use Rattle.c65_elab_law.proofs.DeclaringLaws.{declared_keeps}
use Rattle.c65_elab_law.proofs.TagLaws.{tag_opened_keeps, tag_bound_keeps, int_value}

new_tag_keeps : (s : ScopeTy) (is_union : Bool) (n : Option Name) (x : ℕ × ScopeTy) → IsScope s → new_tag s is_union n ≡ Ok x → Keeps s x.1
new_tag_keeps s is_union None x w h = tag_opened_keeps s is_union x w h
new_tag_keeps s is_union (Some n) x w h =
    let (y, hy, h1) = bind_ok (tag_opened s is_union) (λ x. tag_bound x.1 n (m.Tag x.0) >>= (λ y. Ok (x.0, y))) x h in
    let (u, hu, h2) = bind_ok (tag_bound y.1 n (m.Tag y.0)) (λ u. Ok (y.0, u)) x h1 in
    let k = tag_opened_keeps s is_union y w hy in
    subst (λ (z : ℕ × ScopeTy). Keeps s z.1) (ok_is _ _ h2) (keeps_on s y.1 u k (tag_bound_keeps y.1 n (m.Tag y.0) u k.scope hu))

-- a tag that is there already
same_scope : (s : ScopeTy) (tag : ℕ) (x : ℕ × ScopeTy) → IsScope s → ◌≡◌ {A = Result (ℕ × ScopeTy) Fault} (Ok (tag, s)) (Ok x) → Keeps s x.1
same_scope s tag x w h = subst (λ (z : ℕ × ScopeTy). Keeps s z.1) (ok_is _ _ h) (keeps_self s w)

tag_meant_keeps : (s : ScopeTy) (is_union : Bool) (n : Name) (p : Pos) (a : Option Meaning) (x : ℕ × ScopeTy) → IsScope s → tag_meant s is_union n p a ≡ Ok x → Keeps s x.1
tag_meant_keeps s is_union n p None x w h = new_tag_keeps s is_union (Some n) x w h
tag_meant_keeps s is_union n p (Some a) x w h =
    let (tag, ht, h1) = bind_ok (same_kind s a is_union p) (λ tag. Ok (tag, s)) x h in
    same_scope s tag x w h1

pub named_tag_keeps : (s : ScopeTy) (is_union : Bool) (n : Option Name) (alone : Bool) (p : Pos) (x : ℕ × ScopeTy) → IsScope s → named_tag s is_union n alone p ≡ Ok x → Keeps s x.1
named_tag_keeps s is_union None alone p x w h = new_tag_keeps s is_union None x w h
named_tag_keeps s is_union (Some n) alone p x w h = tag_meant_keeps s is_union n p (meant_tag s n alone) x w h

unfinished_keeps : (s : ScopeTy) (p : Pos) (tag : ℕ) (x : ℕ × ScopeTy) → IsScope s → unfinished s p tag ≡ Ok x → Keeps s x.1
unfinished_keeps s p tag x w h = tested (is_some (layout_at s.unit.types tag)) refl
  where
    tested : (b : Bool) → is_some (layout_at s.unit.types tag) ≡ b → Keeps s x.1
    tested true y = absurd (not_ok _ _ (rw y at h))
    tested false y = same_scope s tag x w (rw y at h)

tag_begun_keeps : (s : ScopeTy) (is_union : Bool) (n : Name) (p : Pos) (a : Option Meaning) (x : ℕ × ScopeTy) → IsScope s → tag_begun s is_union n p a ≡ Ok x → Keeps s x.1
tag_begun_keeps s is_union n p None x w h = new_tag_keeps s is_union (Some n) x w h
tag_begun_keeps s is_union n p (Some a) x w h =
    let (tag, ht, h1) = bind_ok (same_kind s a is_union p) (λ tag. unfinished s p tag) x h in
    unfinished_keeps s p tag x w h1

pub begun_tag_keeps : (s : ScopeTy) (is_union : Bool) (n : Option Name) (p : Pos) (x : ℕ × ScopeTy) → IsScope s → begun_tag s is_union n p ≡ Ok x → Keeps s x.1
begun_tag_keeps s is_union None p x w h = new_tag_keeps s is_union None x w h
begun_tag_keeps s is_union (Some n) p x w h = tag_begun_keeps s is_union n p (found_in s.tags n s.block) x w h

pub begun_enumeration_keeps : (s : ScopeTy) (n : Option Name) (p : Pos) (u : ScopeTy) → IsScope s → begun_enumeration s n p ≡ Ok u → Keeps s u
begun_enumeration_keeps s None p u w h = subst (Keeps s) (ok_is _ _ h) (keeps_self s w)
begun_enumeration_keeps s (Some n) p u w h = tested (is_some (found_in s.tags n s.block)) refl
  where
    tested : (b : Bool) → is_some (found_in s.tags n s.block) ≡ b → Keeps s u
    tested true y = absurd (not_ok _ _ (rw y at h))
    tested false y = tag_bound_keeps s n m.Enumeration u w (rw y at h)

pub enumerator_in_range : (z : ℤ) (p : Pos) (v : ℤ) → enumerator_value z p ≡ Ok v → InRange Int v
enumerator_in_range z p v h = tested (int_le (negsuc 32767) z && int_le z (pos 32767)) refl
  where
    tested : (b : Bool) → (int_le (negsuc 32767) z && int_le z (pos 32767)) ≡ b → InRange Int v
    tested false y = absurd (not_ok _ _ (rw y at h))
    tested true y =
        let two = and_parts (int_le (negsuc 32767) z) (int_le z (pos 32767)) y in
        subst (InRange Int) (ok_is _ _ (rw y at h)) (int_value z two.0 two.1)

param_named_keeps : (s : ScopeTy) (n : Option Name) (t : QTy) (is_register : Bool) (p : Pos) (u : ScopeTy) → IsScope s → param_named s n t is_register p ≡ Ok u → Keeps s u
param_named_keeps s None t is_register p u w h = subst (Keeps s) (ok_is _ _ h) (keeps_self s w)
param_named_keeps s (Some n) t is_register p u w h =
    let (x, hx, h1) = bind_ok (declared s n t (param_class is_register) p) (λ x. Ok x.1) u h in
    subst (Keeps s) (ok_is _ _ h1) (declared_keeps s n t (param_class is_register) p x w hx)

pub formal_in_keeps : (s : ScopeTy) (name : Option Name) (t : QTy) (is_register sole : Bool) (p : Pos) (x : FormalTy × ScopeTy) → IsScope s → formal_in s name t is_register sole p ≡ Ok x → Keeps s x.1
formal_in_keeps s name t is_register sole p x w h =
    let (u, hu, h1) = bind_ok (adjusted t) (λ u. param_form (sole && is_nothing name u is_register) s.unit.types u p >>= λ form. param_named s name u is_register p >>= λ d. Ok (record { name = name; ty = u; is_register = is_register; pos = p }, d)) x h in
    let (form, hf, h2) = bind_ok (param_form (sole && is_nothing name u is_register) s.unit.types u p) (λ form. param_named s name u is_register p >>= λ d. Ok (record { name = name; ty = u; is_register = is_register; pos = p }, d)) x h1 in
    let (d, hd, h3) = bind_ok (param_named s name u is_register p) (λ d. Ok (record { name = name; ty = u; is_register = is_register; pos = p }, d)) x h2 in
    subst (λ (z : FormalTy × ScopeTy). Keeps s z.1) (ok_is _ _ h3) (param_named_keeps s name u is_register p d w hd)
