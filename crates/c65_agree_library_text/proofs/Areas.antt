-- Areas of memory that arguments point to.
use Rattle.std.proofs.Common.{◌≡◌, ℕ, ◌+◌, ◌≤◌, Bool, true, false, refl, sym, ap, ◌∙◌, subst, arith}
use Rattle.std.specs.Prelude.{Result, Ok, Err, Option, Some, None, nat_le, if◌then◌else◌}
use Rattle.std.proofs.lemmas.Bool.Decides.{nat_tests}
use Rattle.c65_meaning.specs.declared.action.Action.TheVariants.{LibraryArgument, EndedObject, ReadOnly}
use Rattle.c65_meaning.specs.Why.{Why, By, ◌>>=◌}
use Rattle.c65_meaning.specs.Store.{Cell, Block, Store, reached_or, set_block, writable}
use Rattle.c65_meaning.specs.Library.{area, filled}
use Rattle.c65_agree_store.specs.Laws.{with_cells}

-- what is taken on was given
pub bound : {A B : Type 0} (r : Result A Why) (f : A → Result B Why) (y : B) → (r >>= f) ≡ Ok y → (x : A) × (r ≡ Ok x) × (f x ≡ Ok y)
bound (Err why) f y e = cc
bound (Ok x) f y e = (x, refl, e)

-- so many cells of a live block
pub record IsArea (s : Store) (b o n : ℕ) (x : Block) : Type 0 where
  pub is : s b ≡ Some x
  pub live : x.live ≡ true
  pub fits : o + n ≤ x.holds

pub area_is : (s : Store) (b o n : ℕ) (x : Block) → area s b o n ≡ Ok x → IsArea s b o n x
area_is s b o n x e = of_block (s b) refl e
  where
    of_block : (y : Option Block) → s b ≡ y → reached_or LibraryArgument y o n ≡ Ok x → IsArea s b o n x
    of_block None is e = cc
    of_block (Some y) is e = go y.live refl (nat_le (o + n) y.holds) refl e
      where
        go : (live : Bool) → y.live ≡ live → (fits : Bool) → nat_le (o + n) y.holds ≡ fits → (if live then (if fits then Ok y else Err (By LibraryArgument)) else Err (By EndedObject)) ≡ Ok x → IsArea s b o n x
        go true live true enough e =
            let same : y ≡ x = cc in
            let fits : o + n ≤ y.holds = grind (arith, nat_tests, enough) in
            subst (IsArea s b o n) same (record { is = is; live = live; fits = fits })
        go true live false enough e = cc
        go false live fits enough e = cc

-- that may be written, and is
pub record IsFilled (s : Store) (b o n : ℕ) (new : ℕ → Cell) (s2 : Store) : Type 0 where
  pub block : Block
  pub area : IsArea s b o n block
  pub unsealed : block.sealed ≡ false
  pub store : s2 ≡ set_block s b (with_cells block o n new)

-- the store with them
abbrev with_filled : Store → ℕ → ℕ → ℕ → (ℕ → Cell) → Block → Result Store Why
with_filled s b o n new x = Ok (set_block s b (with_cells x o n new))

pub filled_is : (s : Store) (b o n : ℕ) (new : ℕ → Cell) (s2 : Store) → filled s b o n new ≡ Ok s2 → IsFilled s b o n new s2
filled_is s b o n new s2 e =
    let h = bound (area s b o n >>= writable false) (with_filled s b o n new) s2 e in
    let l = bound (area s b o n) (writable false) h.0 h.1 in
    go l.0 (area_is s b o n l.0 l.1) h.0 l.2 h.2
  where
    go : (x : Block) → IsArea s b o n x → (y : Block) → writable false x ≡ Ok y → with_filled s b o n new y ≡ Ok s2 → IsFilled s b o n new s2
    go x is y f k = open_to x.sealed refl f
      where
        open_to : (shut : Bool) → x.sealed ≡ shut → (if shut then Err (By ReadOnly) else Ok x) ≡ Ok y → IsFilled s b o n new s2
        open_to true shut f = cc
        open_to false shut f =
            let same : x ≡ y = cc in
            let store : s2 ≡ set_block s b (with_cells y o n new) = cc in
            record { block = x; area = is; unsealed = shut; store = store ∙ ap (λ z. set_block s b (with_cells z o n new)) (sym same) }
