-- Lines of a program that count turns.
use Rattle.std.proofs.Common.{◌≡◌, ℕ, zero, suc, ◌+◌, ◌≤◌, Bool, true, false, Option, None, Some, List, [], ◌∷◌, ◌++◌, refl, sym, ◌∙◌, ap, subst, slice_get, arith}
use Rattle.std.specs.Prelude.{◌==◌, ◌&&◌, if◌then◌else◌, option_map, Contains}
use Rattle.std.proofs.lemmas.Bool.{and_from, eq-eqb}
use Rattle.std.proofs.lemmas.Option.{slice_get-map}
use Rattle.c65_csem.specs.declared.items.TFunc.{TFunc}
use Rattle.c65_csem.specs.Trees.{Stmt, FuncTy}
use Rattle.c65_csem.specs.Views.{func_of}
use Rattle.c65_code.specs.declared.line.Line.{Line}
use Rattle.c65_code.specs.LineState.{Place}
use Rattle.c65_code.specs.Placement.{Setting}
use Rattle.c65_gen_law_calls.specs.Lines.{is_calling}
use Rattle.c65_agree_step.specs.Ways.{place_at}
use Rattle.c65_agree_state.specs.World.{World, setting_in, Active, lines_of, place_in, owned_at}
use Rattle.c65_agree_lines.specs.Turns.{Turn, LoopAt, GotoAt}
use Rattle.c65_agree_homes.specs.Turns.{body_turns, framed_turns, turns_if, function_turns, heads_at, gotos_at, calls_at, symbol_of, heads_of, owns_by, owns_of, all_heads, all_owns, CountsTurns}
use Rattle.c65_agree_homes.specs.Frames.{IsCallIn}
use Rattle.c65_agree_homes.specs.Laws.{CallsCountTheirTurns}
use Rattle.c65_agree_homes.proofs.Own.{framed}

-- ---- lists of places

owned_both : (xs ys : List Place) (q : Place) → owned_at (xs ++ ys) q ≡ owned_at xs q + owned_at ys q
owned_both [] ys q = omega arith
owned_both (x ∷ xs) ys q = omega (arith, owned_both xs ys q)

owned_left : (xs ys : List Place) (q : Place) → 1 ≤ owned_at xs q → 1 ≤ owned_at (xs ++ ys) q
owned_left xs ys q h = omega (arith, h, owned_both xs ys q)

owned_right : (xs ys : List Place) (q : Place) → 1 ≤ owned_at ys q → 1 ≤ owned_at (xs ++ ys) q
owned_right xs ys q h = omega (arith, h, owned_both xs ys q)

owned_here : (q : Place) (xs : List Place) → 1 ≤ owned_at (q ∷ xs) q
owned_here q xs =
    let same : ((q.0 == q.0) && (q.1 == q.1)) ≡ true = and_from (q.0 == q.0) (q.1 == q.1) (eq-eqb q.0 q.0 refl) (eq-eqb q.1 q.1 refl) in
    let one : (if (q.0 == q.0) && (q.1 == q.1) then 1 else 0) ≡ 1 = ap {B = ℕ} (λ (b : Bool). if b then 1 else 0) same in
    omega (arith, one)

owned_more : (p q : Place) (xs : List Place) → 1 ≤ owned_at xs q → 1 ≤ owned_at (p ∷ xs) q
owned_more p q xs h = omega (arith, h)

none_before : (n : ℕ) → n ≡ 0 + n
none_before n = omega arith

-- ---- turns of a function

-- the first item of a list, or one behind it
pub contains_cases : {A B : Type 0} (x : A) (xs : List A) (y : A) → Contains (x ∷ xs) y → (x ≡ y → B) → (Contains xs y → B) → B
contains_cases x xs y (zero, lt, e) first rest = first e
contains_cases x xs y (suc k, lt, e) first rest = rest (k, omega (arith, lt), e)

module _ (s : Setting) (symbol : ℕ) where
  heads_owned : (ts : List Turn) (p : ℕ) → Contains ts (LoopAt p) → 1 ≤ owned_at (heads_at s symbol ts) (place_at s symbol p)
  heads_owned [] p (k, lt, e) = absurd (omega (arith, lt))
  heads_owned (LoopAt q ∷ ts) p h = contains_cases (LoopAt q) ts (LoopAt p) h (λ e. here e) (λ more. owned_more (place_at s symbol q) (place_at s symbol p) (heads_at s symbol ts) (heads_owned ts p more))
    where
      here : ◌≡◌ {A = Turn} (LoopAt q) (LoopAt p) → 1 ≤ owned_at (place_at s symbol q ∷ heads_at s symbol ts) (place_at s symbol p)
      here e =
          let same : q ≡ p = cc in
          subst (λ (n : ℕ). 1 ≤ owned_at (place_at s symbol n ∷ heads_at s symbol ts) (place_at s symbol p)) (sym same) (owned_here (place_at s symbol p) (heads_at s symbol ts))
  heads_owned (GotoAt q ∷ ts) p h = contains_cases (GotoAt q) ts (LoopAt p) h (λ e. absurd (other e)) (λ more. heads_owned ts p more)
    where
      other : ◌≡◌ {A = Turn} (GotoAt q) (LoopAt p) → ⊥
      other e = cc

  gotos_owned : (ts : List Turn) (p : ℕ) → Contains ts (GotoAt p) → 1 ≤ owned_at (gotos_at s symbol ts) (place_at s symbol p)
  gotos_owned [] p (k, lt, e) = absurd (omega (arith, lt))
  gotos_owned (GotoAt q ∷ ts) p h = contains_cases (GotoAt q) ts (GotoAt p) h (λ e. here e) (λ more. owned_more (place_at s symbol q) (place_at s symbol p) (gotos_at s symbol ts) (gotos_owned ts p more))
    where
      here : ◌≡◌ {A = Turn} (GotoAt q) (GotoAt p) → 1 ≤ owned_at (place_at s symbol q ∷ gotos_at s symbol ts) (place_at s symbol p)
      here e =
          let same : q ≡ p = cc in
          subst (λ (n : ℕ). 1 ≤ owned_at (place_at s symbol n ∷ gotos_at s symbol ts) (place_at s symbol p)) (sym same) (owned_here (place_at s symbol p) (gotos_at s symbol ts))
  gotos_owned (LoopAt q ∷ ts) p h = contains_cases (LoopAt q) ts (GotoAt p) h (λ e. absurd (other e)) (λ more. gotos_owned ts p more)
    where
      other : ◌≡◌ {A = Turn} (LoopAt q) (GotoAt p) → ⊥
      other e = cc

  calls_owned : (p i : ℕ) (lines : List Line) (line : Line) → slice_get lines i ≡ Some line → is_calling line ≡ true → 1 ≤ owned_at (calls_at s symbol p lines) (place_at s symbol (p + i))
  calls_owned p i [] line e c = absurd (none e)
    where
      none : ◌≡◌ {A = Option Line} None (Some line) → ⊥
      none e = cc
  calls_owned p zero (l ∷ lines) line e c =
      let same : l ≡ line = cc in
      let calls : is_calling l ≡ true = ap is_calling same ∙ c in
      let here : p ≡ p + 0 = omega arith in
      subst (λ (xs : List Place). 1 ≤ owned_at xs (place_at s symbol (p + 0))) (sym (ap (λ (b : Bool). if b then place_at s symbol p ∷ calls_at s symbol (suc p) lines else calls_at s symbol (suc p) lines) calls))
      (subst (λ (n : ℕ). 1 ≤ owned_at (place_at s symbol p ∷ calls_at s symbol (suc p) lines) (place_at s symbol n)) here (owned_here (place_at s symbol p) (calls_at s symbol (suc p) lines)))
  calls_owned p (suc i) (l ∷ lines) line e c =
      let there : suc p + i ≡ p + suc i = omega arith in
      go (is_calling l) (subst (λ (n : ℕ). 1 ≤ owned_at (calls_at s symbol (suc p) lines) (place_at s symbol n)) there (calls_owned (suc p) i lines line e c))
    where
      go : (b : Bool) → 1 ≤ owned_at (calls_at s symbol (suc p) lines) (place_at s symbol (p + suc i)) → 1 ≤ owned_at (if b then place_at s symbol p ∷ calls_at s symbol (suc p) lines else calls_at s symbol (suc p) lines) (place_at s symbol (p + suc i))
      go true h = owned_more (place_at s symbol p) (place_at s symbol (p + suc i)) (calls_at s symbol (suc p) lines) h
      go false h = h

-- ---- turns of a program

module _ (g : World) where
  heads_in : (fs : List TFunc) (i k : ℕ) (f : TFunc) (q : Place) → slice_get fs k ≡ Some f → 1 ≤ owned_at (heads_of g (i + k) (func_of f)) q → 1 ≤ owned_at (all_heads g i fs) q
  heads_in [] i k f q e h = absurd (none e)
    where
      none : ◌≡◌ {A = Option TFunc} None (Some f) → ⊥
      none e = cc
  heads_in (x ∷ fs) i zero f q e h =
      let same : x ≡ f = cc in
      let here : i + 0 ≡ i = omega arith in
      owned_left (heads_of g i (func_of x)) (all_heads g (suc i) fs) q (subst (λ (n : ℕ). 1 ≤ owned_at (heads_of g n (func_of x)) q) here (subst (λ (z : TFunc). 1 ≤ owned_at (heads_of g (i + 0) (func_of z)) q) (sym same) h))
  heads_in (x ∷ fs) i (suc k) f q e h =
      let there : i + suc k ≡ suc i + k = omega arith in
      owned_right (heads_of g i (func_of x)) (all_heads g (suc i) fs) q (heads_in fs (suc i) k f q e (subst (λ (n : ℕ). 1 ≤ owned_at (heads_of g n (func_of f)) q) there h))

  owns_in : (fs : List TFunc) (i k : ℕ) (f : TFunc) (q : Place) → slice_get fs k ≡ Some f → 1 ≤ owned_at (owns_of g (i + k) (func_of f)) q → 1 ≤ owned_at (all_owns g i fs) q
  owns_in [] i k f q e h = absurd (none e)
    where
      none : ◌≡◌ {A = Option TFunc} None (Some f) → ⊥
      none e = cc
  owns_in (x ∷ fs) i zero f q e h =
      let same : x ≡ f = cc in
      let here : i + 0 ≡ i = omega arith in
      owned_left (owns_of g i (func_of x)) (all_owns g (suc i) fs) q (subst (λ (n : ℕ). 1 ≤ owned_at (owns_of g n (func_of x)) q) here (subst (λ (z : TFunc). 1 ≤ owned_at (owns_of g (i + 0) (func_of z)) q) (sym same) h))
  owns_in (x ∷ fs) i (suc k) f q e h =
      let there : i + suc k ≡ suc i + k = omega arith in
      owned_right (owns_of g i (func_of x)) (all_owns g (suc i) fs) q (owns_in fs (suc i) k f q e (subst (λ (n : ℕ). 1 ≤ owned_at (owns_of g n (func_of f)) q) there h))

module _ (g : World) (names : List (List ℕ)) (a : Active) (f : FuncTy) (h : IsCallIn g names a f) (c : CountsTurns g) where
  -- the function among those of the program
  record IsItem : Type 0 where
    item : TFunc
    is : slice_get g.parts.funcs.items a.func ≡ Some item
    same : func_of item ≡ f

  the_item : IsItem
  the_item = go (slice_get g.parts.funcs.items a.func) refl (sym (slice_get-map func_of g.parts.funcs.items a.func) ∙ h.function)
    where
      go : (o : Option TFunc) → slice_get g.parts.funcs.items a.func ≡ o → option_map func_of o ≡ Some f → IsItem
      go None e k = cc
      go (Some x) e k = record { item = x; is = e; same = cc }

  place_same : (p : ℕ) → place_in g a p ≡ place_at (setting_in g) (symbol_of g a.func) p
  place_same p = ap (λ (n : ℕ). place_at (setting_in g) n p) h.call.symbol

  heads_counted : (q : Place) → 1 ≤ owned_at (heads_of g a.func f) q → 1 ≤ owned_at g.heads q
  heads_counted q m =
      let it = the_item in
      subst (λ (xs : List Place). 1 ≤ owned_at xs q) (sym c.heads) (heads_in g g.parts.funcs.items 0 a.func it.item q it.is (subst (λ (n : ℕ). 1 ≤ owned_at (heads_of g n (func_of it.item)) q) (none_before a.func) (subst (λ (z : FuncTy). 1 ≤ owned_at (heads_of g a.func z) q) (sym it.same) m)))

  owns_counted : (q : Place) → 1 ≤ owned_at (owns_of g a.func f) q → 1 ≤ owned_at g.owns q
  owns_counted q m =
      let it = the_item in
      subst (λ (xs : List Place). 1 ≤ owned_at xs q) (sym c.owns) (owns_in g g.parts.funcs.items 0 a.func it.item q it.is (subst (λ (n : ℕ). 1 ≤ owned_at (owns_of g n (func_of it.item)) q) (none_before a.func) (subst (λ (z : FuncTy). 1 ≤ owned_at (owns_of g a.func z) q) (sym it.same) m)))

  -- its turns are those of its body
  turns_are : (body : Stmt) → f.body ≡ Some body → function_turns g.parts g.modes f ≡ body_turns a.frame body
  turns_are body e = ap (framed_turns f.body) (framed g names a f h) ∙ ap (turns_if a.frame) e

  pub loop_counted : (body : Stmt) (p : ℕ) → f.body ≡ Some body → Contains (body_turns a.frame body) (LoopAt p) → 1 ≤ owned_at g.heads (place_in g a p)
  loop_counted body p e k =
      let own = heads_owned (setting_in g) (symbol_of g a.func) (function_turns g.parts g.modes f) p (subst (λ (ts : List Turn). Contains ts (LoopAt p)) (sym (turns_are body e)) k) in
      subst (λ (q : Place). 1 ≤ owned_at g.heads q) (sym (place_same p)) (heads_counted (place_at (setting_in g) (symbol_of g a.func) p) own)

  -- what a function with a body has of its own
  owns_are : (body : Stmt) → f.body ≡ Some body → owns_of g a.func f ≡ gotos_at (setting_in g) (symbol_of g a.func) (body_turns a.frame body) ++ calls_at (setting_in g) (symbol_of g a.func) 0 ((setting_in g).lines (symbol_of g a.func))
  owns_are body e = ap (owns_by g a.func f.body) (turns_are body e) ∙ ap (λ (b : Option Stmt). owns_by g a.func b (body_turns a.frame body)) e

  pub goto_counted : (body : Stmt) (p : ℕ) → f.body ≡ Some body → Contains (body_turns a.frame body) (GotoAt p) → 1 ≤ owned_at g.owns (place_in g a p)
  goto_counted body p e k =
      let q : Place = place_at (setting_in g) (symbol_of g a.func) p in
      let own = owned_left (gotos_at (setting_in g) (symbol_of g a.func) (body_turns a.frame body)) (calls_at (setting_in g) (symbol_of g a.func) 0 ((setting_in g).lines (symbol_of g a.func))) q (gotos_owned (setting_in g) (symbol_of g a.func) (body_turns a.frame body) p k) in
      subst (λ (r : Place). 1 ≤ owned_at g.owns r) (sym (place_same p)) (owns_counted q (subst (λ (xs : List Place). 1 ≤ owned_at xs q) (sym (owns_are body e)) own))

  pub call_counted : (body : Stmt) (p : ℕ) (line : Line) → f.body ≡ Some body → slice_get (lines_of g a) p ≡ Some line → is_calling line ≡ true → 1 ≤ owned_at g.owns (place_in g a p)
  call_counted body p line is e k =
      let q : Place = place_at (setting_in g) (symbol_of g a.func) p in
      let at : slice_get ((setting_in g).lines (symbol_of g a.func)) p ≡ Some line = ap (λ (n : ℕ). slice_get ((setting_in g).lines n) p) (sym h.call.symbol) ∙ e in
      let own = owned_right (gotos_at (setting_in g) (symbol_of g a.func) (body_turns a.frame body)) (calls_at (setting_in g) (symbol_of g a.func) 0 ((setting_in g).lines (symbol_of g a.func))) q (subst (λ (n : ℕ). 1 ≤ owned_at (calls_at (setting_in g) (symbol_of g a.func) 0 ((setting_in g).lines (symbol_of g a.func))) (place_at (setting_in g) (symbol_of g a.func) n)) (sym (none_before p)) (calls_owned (setting_in g) (symbol_of g a.func) 0 p ((setting_in g).lines (symbol_of g a.func)) line at k)) in
      subst (λ (r : Place). 1 ≤ owned_at g.owns r) (sym (place_same p)) (owns_counted q (subst (λ (xs : List Place). 1 ≤ owned_at xs q) (sym (owns_are body is)) own))

pub calls_count_their_turns : CallsCountTheirTurns
calls_count_their_turns g names a f body p line h is c e k = call_counted g names a f h c body p line is e k
