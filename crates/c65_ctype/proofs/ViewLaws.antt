-- The types of the code, level by level.
use Rattle.std.proofs.Common.{◌≡◌, ℕ, ◌+◌, ◌<◌, ◌≤◌, List, [], ◌∷◌, ◌++◌, length, take, get_or, refl, sym, ap, ◌∙◌, arith, Some}
use Rattle.std.specs.Prelude.{max, Bool, Option}
use Rattle.std.specs.Global.{Vec}
use Rattle.std.proofs.lemmas.List.{take_more, take_all}
use mathlib.Core.Former.{Count}
use denote.Hole.Carrier
use Rattle.c65_ctype.specs.declared.types.QType.{QType}
use Rattle.c65_ctype.specs.declared.types.FnType.{FnType, FnType', out-FnType, roll-FnType, out-roll-FnType, None', Some', Row_of-QType, end_of-QType, more_of-QType, items-the_row-QType, items_shown-the_row-QType-0}
use Rattle.c65_ctype.specs.Depth.{qty_depth, fn_depth, qtys_depth}
use Rattle.c65_ctype.specs.Raised.{raised, raised_fn, raised_all}
use Rattle.c65_ctype.specs.Trees
use Rattle.c65_ctype.specs.Views.{ty_of, qty_of, fn_of, row_tys, qtys_of, params_in}

row_list : (n : Count) (row : Row_of-QType n) → row_tys row ≡ qtys_of (items-the_row-QType n row)
row_list n end_of-QType = refl
row_list n (more_of-QType t c v rest) = ap (Trees.more (Trees.qual (ty_of t) c v)) (row_list _ rest)

pub fn_view : (f : FnType) → fn_of f ≡ Trees.fn (qty_of (out-FnType f).result) (params_in (out-FnType f).params) (out-FnType f).variadic (out-FnType f).cdecl
unfolding out-FnType Carrier.out
fn_view (FnType' t c v None' variadic cdecl) = refl
fn_view (FnType' t c v (Some' shape row) variadic cdecl) =
    ap (λ (ps : Trees.QTys). Trees.fn (Trees.qual (ty_of t) c v) (Trees.known ps) variadic cdecl) (row_list _ row ∙ ap qtys_of (sym (items_shown-the_row-QType-0 shape row)))

pub fn_made : (q : QType) (ps : Option (Vec QType)) (variadic cdecl : Bool) → fn_of (roll-FnType (record { result = q; params = ps; variadic = variadic; cdecl = cdecl })) ≡ Trees.fn (qty_of q) (params_in ps) variadic cdecl
fn_made q ps variadic cdecl = fn_view (roll-FnType (record { result = q; params = ps; variadic = variadic; cdecl = cdecl })) ∙ rw out-roll-FnType refl

-- a list with one more type at its end
abbrev snoc : Trees.QTys → Trees.QTy → Trees.QTys
snoc Trees.end q = Trees.more q Trees.end
snoc (Trees.more p ps) q = Trees.more p (snoc ps q)

pub qtys_push : (xs : List QType) (x : QType) → qtys_of (xs ++ x ∷ []) ≡ snoc (qtys_of xs) (qty_of x)
qtys_push [] x = refl
qtys_push (y ∷ xs) x = ap (Trees.more (qty_of y)) (qtys_push xs x)

qtys_take : (ys : List QType) (i : ℕ) (y : QType) → i < length ys → y ≡ get_or ys i y → qtys_of (take (i + 1) ys) ≡ snoc (qtys_of (take i ys)) (qty_of y)
qtys_take ys i y below is =
    ap qtys_of (take_more ys i y below) ∙ qtys_push (take i ys) (get_or ys i y) ∙ ap (λ (z : QType). snoc (qtys_of (take i ys)) (qty_of z)) (sym is)

-- one more copy
pub copied_next : (xs ys : List QType) (i : ℕ) (x y : QType) → i < length ys → y ≡ get_or ys i y → qty_of x ≡ qty_of y → qtys_of xs ≡ qtys_of (take i ys) → qtys_of (xs ++ x ∷ []) ≡ qtys_of (take (i + 1) ys)
copied_next xs ys i x y below is same so_far =
    qtys_push xs x ∙ ap (snoc (qtys_of xs)) same ∙ ap (λ (zs : Trees.QTys). snoc zs (qty_of y)) so_far ∙ sym (qtys_take ys i y below is)

snoc_depth : (qs : Trees.QTys) (q : Trees.QTy) → qtys_depth (snoc qs q) ≡ max (qtys_depth qs) (qty_depth q)
snoc_depth Trees.end q = omega arith
snoc_depth (Trees.more p ps) q = omega (arith, snoc_depth ps q)

pub depth_next : (ys : List QType) (i : ℕ) (y : QType) → i < length ys → y ≡ get_or ys i y → qtys_depth (qtys_of (take (i + 1) ys)) ≡ max (qtys_depth (qtys_of (take i ys))) (qty_depth (qty_of y))
depth_next ys i y below is = ap qtys_depth (qtys_take ys i y below is) ∙ snoc_depth (qtys_of (take i ys)) (qty_of y)

snoc_raised : (by : ℕ) (qs : Trees.QTys) (q : Trees.QTy) → raised_all by (snoc qs q) ≡ snoc (raised_all by qs) (raised by q)
snoc_raised by Trees.end q = refl
snoc_raised by (Trees.more p ps) q = ap (Trees.more (raised by p)) (snoc_raised by ps q)

-- one more raised copy
pub raised_next : (by : ℕ) (xs ys : List QType) (i : ℕ) (x y : QType) → i < length ys → y ≡ get_or ys i y → qty_of x ≡ raised by (qty_of y) → qtys_of xs ≡ raised_all by (qtys_of (take i ys)) → qtys_of (xs ++ x ∷ []) ≡ raised_all by (qtys_of (take (i + 1) ys))
raised_next by xs ys i x y below is same so_far =
    qtys_push xs x ∙ ap (snoc (qtys_of xs)) same ∙ ap (λ (zs : Trees.QTys). snoc zs (raised by (qty_of y))) so_far
    ∙ sym (snoc_raised by (qtys_of (take i ys)) (qty_of y)) ∙ ap (raised_all by) (sym (qtys_take ys i y below is))

-- a whole list was gone through
went : (types : Vec QType) (ys : List QType) (i : ℕ) → ys ≡ types.items → length ys ≤ i → qtys_of (take i ys) ≡ qtys_of types.items
went types ys i list past = ap qtys_of (take_all i ys past) ∙ ap qtys_of list

pub copied_whole : (f : FnType) (g : Trees.Fn) (q : QType) (copies types : Vec QType) (ys : List QType) (i : ℕ) → g ≡ Trees.fn (qty_of q) (params_in (Some copies)) (out-FnType f).variadic (out-FnType f).cdecl → qty_of q ≡ qty_of (out-FnType f).result → (out-FnType f).params ≡ Some types → ys ≡ types.items → length ys ≤ i → qtys_of copies.items ≡ qtys_of (take i ys) → g ≡ fn_of f
copied_whole f g q copies types ys i made same is list past so_far =
    let variadic = (out-FnType f).variadic in
    let cdecl = (out-FnType f).cdecl in
    let given = qty_of (out-FnType f).result in
    made
    ∙ ap (λ (x : Trees.QTy). Trees.fn x (Trees.known (qtys_of copies.items)) variadic cdecl) same
    ∙ ap (λ (xs : Trees.QTys). Trees.fn given (Trees.known xs) variadic cdecl) (so_far ∙ went types ys i list past)
    ∙ ap (λ (o : Option (Vec QType)). Trees.fn given (params_in o) variadic cdecl) (sym is)
    ∙ sym (fn_view f)

pub raised_whole : (by : ℕ) (f : FnType) (g : Trees.Fn) (q : QType) (copies types : Vec QType) (ys : List QType) (i : ℕ) → g ≡ Trees.fn (qty_of q) (params_in (Some copies)) (out-FnType f).variadic (out-FnType f).cdecl → qty_of q ≡ raised by (qty_of (out-FnType f).result) → (out-FnType f).params ≡ Some types → ys ≡ types.items → length ys ≤ i → qtys_of copies.items ≡ raised_all by (qtys_of (take i ys)) → g ≡ raised_fn by (fn_of f)
raised_whole by f g q copies types ys i made same is list past so_far =
    let variadic = (out-FnType f).variadic in
    let cdecl = (out-FnType f).cdecl in
    let given = qty_of (out-FnType f).result in
    made
    ∙ ap (λ (x : Trees.QTy). Trees.fn x (Trees.known (qtys_of copies.items)) variadic cdecl) same
    ∙ ap (λ (xs : Trees.QTys). Trees.fn (raised by given) (Trees.known xs) variadic cdecl) (so_far ∙ ap (raised_all by) (went types ys i list past))
    ∙ ap (λ (o : Option (Vec QType)). raised_fn by (Trees.fn given (params_in o) variadic cdecl)) (sym is)
    ∙ ap (raised_fn by) (sym (fn_view f))

pub depth_whole : (f : FnType) (types : Vec QType) (ys : List QType) (i : ℕ) → (out-FnType f).params ≡ Some types → ys ≡ types.items → length ys ≤ i → fn_depth (fn_of f) ≡ max (qty_depth (qty_of (out-FnType f).result)) (qtys_depth (qtys_of (take i ys)))
depth_whole f types ys i is list past =
    let given = qty_of (out-FnType f).result in
    ap fn_depth (fn_view f)
    ∙ ap (λ (o : Option (Vec QType)). fn_depth (Trees.fn given (params_in o) (out-FnType f).variadic (out-FnType f).cdecl)) is
    ∙ ap (λ (xs : Trees.QTys). max (qty_depth given) (qtys_depth xs)) (sym (went types ys i list past))
