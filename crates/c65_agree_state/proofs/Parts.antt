-- One part of an expression behind another.
use Rattle.std.proofs.Common.{◌≡◌, ℕ, ◌<◌, ◌≤◌, Option, Some, None, Bool, refl, sym, ap, ◌∙◌, arith}
use Rattle.c65_csem.specs.Trees.{UnitTy}
use Rattle.c65_meaning.specs.Store.{Block, Store, lives_in, size_in_store}
use Rattle.c65_meaning.specs.Shapes.{object_in, object_size}
use Rattle.c65_meaning.specs.State.{Scene, block_in}
use Rattle.c65_code.specs.LineState.{sp_of}
use Rattle.c65_agree_store.specs.Stands.{At, IsFree}
use Rattle.c65_agree_state.specs.Sizes.{HaveSizes, AreSized}
use Rattle.c65_agree_state.specs.Exprs.{bounds_of}
use Rattle.c65_agree_state.specs.Laws.{KeptGoesOn}

-- a block lives by its bounds
pub lives_by : (o p : Option Block) → bounds_of o ≡ bounds_of p → lives_in o ≡ lives_in p
lives_by None None e = refl
lives_by None (Some y) e = cc
lives_by (Some x) None e = cc
lives_by (Some x) (Some y) e =
    let same : (x.size, x.live) ≡ (y.size, y.live) = cc in
    ap (λ (r : ℕ × Bool). r.1) same

-- and has its size
pub size_by : (o p : Option Block) → bounds_of o ≡ bounds_of p → size_in_store o ≡ size_in_store p
size_by None None e = refl
size_by None (Some y) e = cc
size_by (Some x) None e = cc
size_by (Some x) (Some y) e =
    let same : (x.size, x.live) ≡ (y.size, y.live) = cc in
    ap (λ (r : ℕ × Bool). r.0) same

-- sizes stay where bounds do
pub sizes_stay : (u : UnitTy) (s s2 : Store) (next next2 : ℕ) → next ≤ next2 → ((b : ℕ) → b < next → bounds_of (s2 b) ≡ bounds_of (s b)) → HaveSizes u s next → HaveSizes u s2 next2
sizes_stay u s s2 next next2 le same h = record {
  behind = omega (arith, le, h.behind);
  sizes = λ b lt. size_by (s2 b) (s b) (same b (omega (arith, lt, h.behind))) ∙ h.sizes b lt;
}

pub sized_stay : (u : UnitTy) (c c2 : Scene) → c2.frames ≡ c.frames → ((i b : ℕ) → block_in c.frames i ≡ Some b → bounds_of (c2.store b) ≡ bounds_of (c.store b)) → AreSized u c → AreSized u c2
sized_stay u c c2 frames same h i b x named is = go (c.store b) refl
  where
    before : block_in c.frames i ≡ Some b
    before = sym (ap (λ fs. block_in fs i) frames) ∙ named

    go : (o : Option Block) → c.store b ≡ o → x.size ≡ object_size u.types (object_in u i)
    go None f =
        let clash : bounds_of (Some x) ≡ None = ap bounds_of (sym is) ∙ (same i b before ∙ ap bounds_of f) in
        cc
    go (Some y) f = size_by (Some x) (Some y) (ap bounds_of (sym is) ∙ (same i b before ∙ ap bounds_of f)) ∙ h i b y before f

pub kept_goes_on : KeptGoesOn
kept_goes_on g a c c2 c3 w w2 w3 k k2 k3 t t2 t3 h h2 = record {
  joins = h2.joins;
  sp = h2.sp ∙ h.sp;
  frames = h2.frames ∙ h.frames;
  next = omega (arith, h.next, h2.next);
  bounds = λ b lt. h2.bounds b (omega (arith, lt, h.next)) ∙ h.bounds b lt;
  grows = λ b q e. h2.grows b q (h.grows b q e);
  kept = λ n le f. kept n le f;
  banks = λ d i lt. h2.banks d i lt ∙ h.banks d i lt;
  own_bank = λ i le. h2.own_bank i le ∙ h.own_bank i le;
  none_pushed = h2.none_pushed;
}
  where
    kept : (n : ℕ) → sp_of t ≤ n → IsFree c.store w (At n) → (t3.mem n ≡ t.mem n) × IsFree c3.store w3 (At n)
    kept n le f =
        let one = h.kept n le f in
        let two = h2.kept n (omega (arith, le, h.sp)) one.1 in
        (two.0 ∙ one.0, two.1)
