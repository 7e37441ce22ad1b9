-- Raised by nothing, a type stays as it is.
use Rattle.std.proofs.Common.{◌≡◌, ◌∙◌, ℕ, zero, suc, ◌+◌, ◌≤◌, refl, ap, arith}
use Rattle.c65_ctype.specs.Trees.{Ty, void, int, pointer, array, tag, function, QTy, qual, Fn, fn, Params, unknown, known, QTys, end, more}
use Rattle.c65_ctype.specs.Raised.{raised_ty, raised, raised_fn, raised_params, raised_all}

mutual
  ty_raised_none : (t : Ty) → raised_ty 0 t ≡ t
  ty_raised_none void = refl
  ty_raised_none (int k) = refl
  ty_raised_none (pointer q) = ap pointer (raised_none q)
  ty_raised_none (array q n) = ap (λ (r : QTy). array r n) (raised_none q)
  ty_raised_none (tag n) = let same : n + 0 ≡ n = omega arith in ap tag same
  ty_raised_none (function f) = ap function (fn_raised_none f)

  raised_none : (q : QTy) → raised 0 q ≡ q
  raised_none (qual t c v) = ap (λ (u : Ty). qual u c v) (ty_raised_none t)

  fn_raised_none : (f : Fn) → raised_fn 0 f ≡ f
  fn_raised_none (fn q ps variadic cdecl) = ap (λ (r : QTy). fn r (raised_params 0 ps) variadic cdecl) (raised_none q) ∙ ap (λ (rs : Params). fn q rs variadic cdecl) (params_raised_none ps)

  params_raised_none : (ps : Params) → raised_params 0 ps ≡ ps
  params_raised_none unknown = refl
  params_raised_none (known qs) = ap known (all_raised_none qs)

  all_raised_none : (qs : QTys) → raised_all 0 qs ≡ qs
  all_raised_none end = refl
  all_raised_none (more q qs) = ap (λ (r : QTy). more r (raised_all 0 qs)) (raised_none q) ∙ ap (λ (rs : QTys). more q rs) (all_raised_none qs)

pub fn_unraised : (by : ℕ) (f : Fn) → by ≤ 0 → raised_fn by f ≡ f
fn_unraised zero f h = fn_raised_none f
fn_unraised (suc by) f h = absurd (omega arith)

pub unraised : (by : ℕ) (q : QTy) → by ≤ 0 → raised by q ≡ q
unraised zero q h = raised_none q
unraised (suc by) q h = absurd (omega arith)
