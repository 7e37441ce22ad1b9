-- The next item of a list that is used up.
use Rattle.std.proofs.Common.{◌≡◌, ◌∙◌, ℕ, zero, suc, ◌+◌, ◌<◌, ◌≤◌, List, [], ◌∷◌, ◌++◌, length, map, take, drop, get_or, refl, sym, ap, arith, append_assoc}
use Rattle.std.specs.Prelude.{Bool, true, false, Option, if◌then◌else◌}
use Rattle.c65_ctype.specs.declared.types.QType.{QType}
use Rattle.c65_ctype.specs.Trees.{QTy, TypesTy}
use Rattle.c65_ctype.specs.Raised.{appended}
use Rattle.c65_ctype.specs.Views.{qty_of}
use Rattle.c65_base.specs.declared.library.Library.{Library}
use Rattle.c65_csem.specs.declared.items.Parts.{Parts}
use Rattle.c65_csem.specs.Views.{unit_of}
use Rattle.c65_init_join.specs.declared.unit.Unit.{Unit as UnitParts}
use Rattle.c65_init_join.specs.Checks.{agree, fits_all}
use Rattle.c65_init_join.specs.Items.{ItemsTy, items_of, raised_items, all_types, all_items}
use Rattle.c65_init_join.specs.Joined.{one_if, selected}
use Rattle.c65_init_join.specs.Tables.{TableTy, all_entered, unit_declared, all_declared}
use Rattle.c65_init_join.specs.Uses.{is_marked}
use Rattle.c65_init_join.proofs.TableLaws.{entered_append}

drop_suc : {A : Type 0} (xs : List A) (i : ℕ) (x : A) → i < length xs → x ≡ get_or xs i x → drop i xs ≡ x ∷ drop (suc i) xs
drop_suc [] i x below is = absurd (omega arith)
drop_suc {A} (y ∷ ys) zero x below is = ap (λ (z : A). z ∷ ys) (sym is)
drop_suc (y ∷ ys) (suc i) x below is = drop_suc ys i x (omega arith) is

pub one_on : (i : ℕ) → suc i ≡ i + 1
one_on i = omega arith

pub drop_next : {A : Type 0} (xs : List A) (i : ℕ) (x : A) → i < length xs → x ≡ get_or xs i x → drop i xs ≡ x ∷ drop (i + 1) xs
drop_next {A} xs i x below is = drop_suc xs i x below is ∙ ap (λ (k : ℕ). x ∷ drop k xs) (one_on i)

pub nothing_more : {A : Type 0} (xs : List A) → xs ++ [] ≡ xs
nothing_more [] = refl
nothing_more {A} (x ∷ xs) = ap (λ (ys : List A). x ∷ ys) (nothing_more xs)

pub drop_end : {A : Type 0} (xs : List A) (i : ℕ) → length xs ≤ i → drop i xs ≡ []
drop_end [] zero h = refl
drop_end [] (suc i) h = refl
drop_end (x ∷ xs) zero h = absurd (omega arith)
drop_end (x ∷ xs) (suc i) h = drop_end xs i (omega arith)

pub types_next : (t : TypesTy) (us : List Parts) (i : ℕ) (u : Parts) (whole : TypesTy) → i < length us → u ≡ get_or us i u → all_types t (map unit_of (drop i us)) ≡ whole → all_types (appended t (unit_of u).types) (map unit_of (drop (i + 1) us)) ≡ whole
types_next t us i u whole below is so_far =
    sym (ap (λ (vs : List Parts). all_types t (map unit_of vs)) (drop_next us i u below is)) ∙ so_far

pub items_next : (t : TypesTy) (us : List Parts) (i : ℕ) (u : Parts) (done whole : List ItemsTy) → i < length us → u ≡ get_or us i u → done ++ all_items t (map unit_of (drop i us)) ≡ whole → (done ++ raised_items (length t.tags) (unit_of u) ∷ []) ++ all_items (appended t (unit_of u).types) (map unit_of (drop (i + 1) us)) ≡ whole
items_next t us i u done whole below is so_far =
    append_assoc done (raised_items (length t.tags) (unit_of u) ∷ []) (all_items (appended t (unit_of u).types) (map unit_of (drop (i + 1) us)))
    ∙ ap (λ (vs : List Parts). done ++ all_items t (map unit_of vs)) (sym (drop_next us i u below is))
    ∙ so_far

one_more : {A : Type 0} (f : A → A) (b : Bool) (x : A) (ys : List A) → map f (one_if b x) ++ map f ys ≡ map f (one_if b x ++ ys)
one_more f true x ys = refl
one_more f false x ys = refl

-- the next item, where it is kept, finished by f
pub kept_next : {A B : Type 0} (v : A → B) (f : B → B) (marks : List Bool) (xs : List A) (i : ℕ) (x : A) (done whole : List B) → i < length xs → x ≡ get_or xs i x → done ++ map f (selected marks i (map v (drop i xs))) ≡ whole → (done ++ map f (one_if (is_marked marks i) (v x))) ++ map f (selected marks (i + 1) (map v (drop (i + 1) xs))) ≡ whole
kept_next {A} {B} v f marks xs i x done whole below is so_far =
    append_assoc done (map f (one_if (is_marked marks i) (v x))) (map f (selected marks (i + 1) (map v (drop (i + 1) xs))))
    ∙ ap (λ (ys : List B). done ++ ys) (one_more f (is_marked marks i) (v x) (selected marks (i + 1) (map v (drop (i + 1) xs))))
    ∙ sym (ap (λ (ys : List A). done ++ map f (selected marks i (map v ys))) (drop_next xs i x below is))
    ∙ so_far

-- the declarations of the next unit are entered
pub units_next : (t s : TableTy) (us : List UnitParts) (i n : ℕ) (u : UnitParts) → i < length us → u ≡ get_or us i u → n ≡ i → s ≡ all_entered t (unit_declared n (items_of u)) → all_entered s (all_declared (i + 1) (map items_of (drop (i + 1) us))) ≡ all_entered t (all_declared i (map items_of (drop i us)))
units_next t s us i n u below is at made =
    ap (λ (x : TableTy). all_entered x (all_declared (i + 1) (map items_of (drop (i + 1) us)))) (made ∙ ap (λ (k : ℕ). all_entered t (unit_declared k (items_of u))) at)
    ∙ sym (entered_append t (unit_declared i (items_of u)) (all_declared (i + 1) (map items_of (drop (i + 1) us))))
    ∙ sym (ap (λ (vs : List UnitParts). all_entered t (all_declared i (map items_of vs))) (drop_next us i u below is))

take_suc : {A : Type 0} (xs : List A) (i : ℕ) (x : A) → i < length xs → x ≡ get_or xs i x → take (suc i) xs ≡ take i xs ++ x ∷ []
take_suc [] i x below is = absurd (omega arith)
take_suc {A} (y ∷ ys) zero x below is = ap (λ (z : A). z ∷ []) (sym is)
take_suc {A} (y ∷ ys) (suc i) x below is = ap (λ (zs : List A). y ∷ zs) (take_suc ys i x (omega arith) is)

take_next : {A : Type 0} (xs : List A) (i : ℕ) (x : A) → i < length xs → x ≡ get_or xs i x → take (i + 1) xs ≡ take i xs ++ x ∷ []
take_next xs i x below is = sym (ap (λ (k : ℕ). take k xs) (one_on i)) ∙ take_suc xs i x below is

pub map_snoc : {A B : Type 0} (v : A → B) (xs : List A) (x : A) → map v (xs ++ x ∷ []) ≡ map v xs ++ v x ∷ []
map_snoc v [] x = refl
map_snoc {B} v (y ∷ ys) x = ap (λ (zs : List B). v y ∷ zs) (map_snoc v ys x)

-- the next type agrees with those before it
pub agree_next : (types : TypesTy) (library : Option Library) (qs : List QType) (i : ℕ) (q : QType) → i < length qs → q ≡ get_or qs i q → fits_all types library (qty_of q) (map qty_of (take i qs)) ≡ true → agree types library (map qty_of (take (i + 1) qs)) (map qty_of (drop (i + 1) qs)) ≡ agree types library (map qty_of (take i qs)) (map qty_of (drop i qs))
agree_next types library qs i q below is fits =
    let before = map qty_of (take i qs) in
    let behind = map qty_of (drop (i + 1) qs) in
    ap (λ (rs : List QTy). agree types library rs behind) (ap (λ (zs : List QType). map qty_of zs) (take_next qs i q below is) ∙ map_snoc qty_of (take i qs) q)
    ∙ sym (ap (λ (b : Bool). if b then agree types library (before ++ qty_of q ∷ []) behind else false) fits)
    ∙ sym (ap (λ (zs : List QType). agree types library before (map qty_of zs)) (drop_next qs i q below is))

-- the next type does not
pub agree_fails : (types : TypesTy) (library : Option Library) (qs : List QType) (i : ℕ) (q : QType) → i < length qs → q ≡ get_or qs i q → fits_all types library (qty_of q) (map qty_of (take i qs)) ≡ false → agree types library (map qty_of (take i qs)) (map qty_of (drop i qs)) ≡ false
agree_fails types library qs i q below is fits =
    let before = map qty_of (take i qs) in
    let behind = map qty_of (drop (i + 1) qs) in
    ap (λ (zs : List QType). agree types library before (map qty_of zs)) (drop_next qs i q below is)
    ∙ ap (λ (b : Bool). if b then agree types library (before ++ qty_of q ∷ []) behind else false) fits
