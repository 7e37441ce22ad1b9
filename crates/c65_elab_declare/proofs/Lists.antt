-- Lists of specifiers, from the front as the code goes and from the back as the trees grow; and types of
-- parameters.
use Rattle.std.proofs.Common.{◌≡◌, ◌≢◌, ℕ, ◌+◌, ◌-◌, ◌<◌, List, [], ◌∷◌, ◌++◌, ◌≤◌, length, map, take, drop, get_or, Bool, true, false, Option, Some, None, refl, sym, ap, ◌∙◌, subst, arith, Ok, Err}
use Rattle.std.specs.Prelude.{Result, if◌then◌else◌, nat_lt, min}
use Rattle.std.proofs.lemmas.Bool.Decides.{nat_tests}
use Rattle.std.proofs.lemmas.List.{take_more, take_all}
use Rattle.c65_base.specs.declared.refusal.Pos.{Pos}
use Rattle.c65_base.specs.declared.refusal.Refusal.{Refusal}
use Rattle.c65_base.specs.declared.refusal.Refusal.TheVariants as refusals
use Rattle.c65_base.specs.Answers.{Fault, Fails, ◌>>=◌}
use Rattle.c65_ctype.specs.declared.types.QType.{QType}
use Rattle.c65_ctype.specs.Trees as y
use Rattle.c65_ctype.specs.Views.{qty_of, qtys_of}
use Rattle.c65_tree.specs.declared.expr.Specifier.{Specifier}
use Rattle.c65_tree.specs.declared.expr.Specifiers.{Specifiers, out-Specifiers}
use Rattle.c65_tree.specs.Trees as t
use Rattle.c65_tree.specs.View as v
use Rattle.c65_tree.proofs.Views.{specifiers_view}
use Rattle.c65_elab_declare.specs.declared.parts.Formal.{Formal}
use Rattle.c65_elab_declare.specs.declared.parts.Part.{Part}
use Rattle.c65_elab_declare.specs.declared.parts.Role.{Role}
use Rattle.c65_elab_declare.specs.Declarators.{FormalTy, formal_of, formal_tys, part_of, role_behind, applied, built}
use Rattle.c65_elab_declare.specs.Headings.{formals_in, first_formals}
use Rattle.c65_elab_declare.specs.Prototypes.{or_else, storage_at, first_storage, first_of, storage_place, place_or, has_void, is_void_type}
use Rattle.c65_elab_declare.specs.Tagging.{is_signed_word, signed_among, any_signed, is_signed}

else_else : (a b c : Option Pos) → or_else (or_else a b) c ≡ or_else a (or_else b c)
else_else (Some x) b c = refl
else_else None b c = refl

else_none : (a : Option Pos) → or_else a None ≡ a
else_none (Some x) = refl
else_none None = refl

storage_from : (xs : t.SpecifierList) (qs : List Specifier) → first_storage (v.specifiers_from xs qs) ≡ or_else (first_storage xs) (first_of qs)
storage_from xs [] = sym (else_none (first_storage xs))
storage_from xs (q ∷ qs) = storage_from (t.and_specifier xs (v.specifier_of q)) qs ∙ else_else (first_storage xs) (storage_at (v.specifier_of q)) (first_of qs)

pub storage_place_is : (q : Specifiers) → storage_place (v.specifiers_of q) ≡ place_or (first_of (out-Specifiers q).items.items) (out-Specifiers q).pos
storage_place_is q = ap storage_place (specifiers_view q) ∙ ap (λ o. place_or o (out-Specifiers q).pos) (storage_from t.no_specifiers (out-Specifiers q).items.items)

either_way : (a b : Bool) (c : Bool) → (if (if a then true else b) then true else c) ≡ (if a then true else (if b then true else c))
either_way true b c = refl
either_way false b c = refl

or_false : (a : Bool) → (if a then true else false) ≡ a
or_false true = refl
or_false false = refl

signed_from : (xs : t.SpecifierList) (qs : List Specifier) → signed_among (v.specifiers_from xs qs) ≡ (if signed_among xs then true else any_signed qs)
signed_from xs [] = sym (or_false (signed_among xs))
signed_from xs (q ∷ qs) = signed_from (t.and_specifier xs (v.specifier_of q)) qs ∙ either_way (signed_among xs) (is_signed_word (v.specifier_of q)) (any_signed qs)

pub signed_is : (q : Specifiers) → is_signed (v.specifiers_of q) ≡ any_signed (out-Specifiers q).items.items
signed_is q = ap is_signed (specifiers_view q) ∙ signed_from t.no_specifiers (out-Specifiers q).items.items

-- ---- the types of parameters

abbrev and_ty : y.QTys → y.QTy → y.QTys
and_ty y.end q = y.more q y.end
and_ty (y.more p ps) q = y.more p (and_ty ps q)

qtys_push : (xs : List QType) (x : QType) → qtys_of (xs ++ x ∷ []) ≡ and_ty (qtys_of xs) (qty_of x)
qtys_push [] x = refl
qtys_push (q ∷ xs) x = ap (y.more (qty_of q)) (qtys_push xs x)

tys_push : (xs : List Formal) (x : Formal) → formal_tys (map formal_of (xs ++ x ∷ [])) ≡ and_ty (formal_tys (map formal_of xs)) (qty_of x.ty)
tys_push [] x = refl
tys_push (p ∷ xs) x = ap (y.more (qty_of p.ty)) (tys_push xs x)

-- one more type
pub types_next : (qs : List QType) (ps : List Formal) (i : ℕ) (q : QType) (p : Formal) → i < length ps → p ≡ get_or ps i p → qty_of q ≡ qty_of p.ty → qtys_of qs ≡ formal_tys (map formal_of (take i ps)) → qtys_of (qs ++ q ∷ []) ≡ formal_tys (map formal_of (take (i + 1) ps))
types_next qs ps i q p below is same so_far =
    qtys_push qs q ∙ ap (and_ty (qtys_of qs)) same ∙ ap (λ (ts : y.QTys). and_ty ts (qty_of p.ty)) so_far
    ∙ ap (λ (x : Formal). and_ty (formal_tys (map formal_of (take i ps))) (qty_of x.ty)) is
    ∙ sym (tys_push (take i ps) (get_or ps i p))
    ∙ ap (λ (xs : List Formal). formal_tys (map formal_of xs)) (sym (take_more ps i p below))

-- ---- the first part of a declarator

pub first_is : (ps rest : List Part) (p : Part) → take 1 ps ≡ rest ++ p ∷ [] → first_formals (map part_of ps) ≡ formals_in (part_of p)
first_is [] [] p h = absurd (let e : [] ≡ p ∷ [] = h in cc)
first_is [] (r ∷ rest) p h = absurd (let e : [] ≡ r ∷ (rest ++ p ∷ []) = h in cc)
first_is (q ∷ ps) [] p h = let e : q ∷ [] ≡ p ∷ [] = h in ap (λ x. formals_in (part_of x)) (let same : q ≡ p = cc in same)
first_is (q ∷ ps) (r ∷ []) p h = absurd (let e : q ∷ [] ≡ r ∷ p ∷ [] = h in cc)
first_is (q ∷ ps) (r ∷ t ∷ rest) p h = absurd (let e : q ∷ [] ≡ r ∷ t ∷ (rest ++ p ∷ []) = h in cc)

pub none_first : (ps : List Part) → take 1 ps ≡ [] → first_formals (map part_of ps) ≡ None
none_first [] h = refl
none_first (p ∷ ps) h = absurd (let e : p ∷ [] ≡ [] = h in cc)

-- ---- the parts of a declarator, from the last to the first

built_nil : (types : y.TypesTy) (base : y.QTy) (ps : List Part) (role : Role) → length ps < 1 → built types base (map part_of ps) role ≡ Ok base
built_nil types base [] role h = refl
built_nil types base (p ∷ ps) role h = absurd (omega arith)

-- what follows the first part
abbrev pub behind_first : List Part → List Part
behind_first ps = take (length ps - 1) (drop 1 ps)

built_cons : (types : y.TypesTy) (base : y.QTy) (ps : List Part) (x : Part) (role : Role) → 1 ≤ length ps → x ≡ get_or ps 0 x → built types base (map part_of ps) role ≡ (built types base (map part_of (behind_first ps)) (role_behind (part_of x) role) >>= (λ t. applied types (part_of x) role t))
built_cons types base [] x role h is = absurd (omega arith)
built_cons types base (p ∷ ps) x role h is =
    ap (λ (z : Part). built types base (map part_of ps) (role_behind (part_of z) role) >>= (λ t. applied types (part_of z) role t)) (sym is)
    ∙ ap (λ (qs : List Part). built types base (map part_of qs) (role_behind (part_of x) role) >>= (λ t. applied types (part_of x) role t)) (sym (take_all (length (p ∷ ps) - 1) ps (omega arith)))

pub built_base : (types : y.TypesTy) (base t : y.QTy) (ps : List Part) (role : Role) → length ps < 1 → t ≡ base → built types base (map part_of ps) role ≡ Ok t
built_base types base t ps role none same = built_nil types base ps role none ∙ ap (λ (u : y.QTy). Ok u) (sym same)

pub built_more : (types : y.TypesTy) (base t : y.QTy) (ps : List Part) (x : Part) (role behind : Role) → 1 ≤ length ps → x ≡ get_or ps 0 x → behind ≡ role_behind (part_of x) role → built types base (map part_of (behind_first ps)) behind ≡ Ok t → built types base (map part_of ps) role ≡ applied types (part_of x) role t
built_more types base t ps x role behind some is next rest =
    built_cons types base ps x role some is
    ∙ ap (λ (r : Role). built types base (map part_of (behind_first ps)) r >>= (λ u. applied types (part_of x) role u)) (sym next)
    ∙ ap (λ (r : Result y.QTy Fault). r >>= (λ u. applied types (part_of x) role u)) rest

fails_bind : (e : Refusal) (r : Result y.QTy Fault) (f : y.QTy → Result y.QTy Fault) → Fails e r → Fails e (r >>= f)
fails_bind refusals.OutOfMemory r f h = tt
fails_bind (refusals.Usage word) r f h = absurd h
fails_bind (refusals.Missing path) r f h = absurd h
fails_bind refusals.ReadFault r f h = absurd h
fails_bind refusals.WriteFault r f h = absurd h
fails_bind (refusals.Source code file line) r f h = absurd h
fails_bind (refusals.At c p) r f h = ap (λ (x : Result y.QTy Fault). x >>= f) h
fails_bind (refusals.TooLarge l v) r f h = ap (λ (x : Result y.QTy Fault). x >>= f) h
fails_bind (refusals.BadImage offset) r f h = absurd h
fails_bind (refusals.Link kind name) r f h = absurd h
fails_bind (refusals.HardStack pc) r f h = absurd h
fails_bind (refusals.Limit count) r f h = absurd h
fails_bind (refusals.Illegal pc) r f h = absurd h

pub built_fails : (e : Refusal) (types : y.TypesTy) (base : y.QTy) (ps : List Part) (x : Part) (role behind : Role) → 1 ≤ length ps → x ≡ get_or ps 0 x → behind ≡ role_behind (part_of x) role → Fails e (built types base (map part_of (behind_first ps)) behind) → Fails e (built types base (map part_of ps) role)
built_fails e types base ps x role behind some is next rest =
    subst (Fails e) (sym (built_cons types base ps x role some is))
    (fails_bind e (built types base (map part_of (behind_first ps)) (role_behind (part_of x) role)) (λ u. applied types (part_of x) role u)
    (subst (λ (r : Role). Fails e (built types base (map part_of (behind_first ps)) r)) next rest))

-- ---- one parameter of type void, and the depth of types

pub one_void : (fs : List Formal) (x : Formal) → length fs ≡ 1 → x ≡ get_or fs 0 x → has_void (map formal_of fs) ≡ is_void_type (qty_of x.ty)
one_void [] x one is = absurd (omega arith)
one_void (f ∷ []) x one is = ap (λ (y : Formal). is_void_type (qty_of y.ty)) (sym is)
one_void (f ∷ g ∷ fs) x one is = absurd (omega arith)

pub not_one : (fs : List Formal) → length fs ≢ 1 → has_void (map formal_of fs) ≡ false
not_one [] other = refl
not_one (f ∷ []) other = absurd (other refl)
not_one (f ∷ g ∷ fs) other = refl

pub depth_test : (d : ℕ) → nat_lt 256 (min d 4294967295) ≡ nat_lt 256 d
depth_test d = grind (arith, nat_tests)
