-- The calls that a graph has of a function are those of its body.
use Rattle.std.proofs.Common.{◌≡◌, ℕ, zero, suc, ◌<◌, ◌||◌, ◌⊎◌, inl, inr, Bool, true, false, List, [], ◌∷◌, length, Option, Some, None, slice_get, refl, sym, ap, ◌∙◌, subst, arith}
use Rattle.std.specs.Prelude.{Contains, option_map}
use Rattle.std.proofs.lemmas.Option.{slice_get_within}
use Rattle.std.specs.List.{list_any}
use Rattle.c65_csem.specs.Trees.{Stmt, FuncTy, UnitTy}
use Rattle.c65_meaning.specs.Program.{ProgramTy}
use Rattle.c65_meaning.specs.Step.{body_of}
use Rattle.c65_depth.specs.declared.calls.Call.{Call}
use Rattle.c65_depth.specs.Calls.{calls_of}
use Rattle.c65_depth.specs.Facts.{facts_of, facts_in, graph_of, graph, calls_in, calls_at}
use Rattle.c65_depth.specs.Certificates.{HasCall, body_at}

-- ---- an element that passes

pub either_true : (a b : Bool) → (a || b) ≡ true → (a ≡ true) ⊎ (b ≡ true)
either_true true b h = inl refl
either_true false b h = inr h

pub left_true : (a b : Bool) → a ≡ true → (a || b) ≡ true
left_true true b h = refl
left_true false b h = absurd cc

pub right_true : (a b : Bool) → b ≡ true → (a || b) ≡ true
right_true true b h = refl
right_true false b h = h

-- a call among these that passes a test
pub record Passing (q : Call → Bool) (calls : List Call) : Type 0 where
  pub call : Call
  pub among : Contains calls call
  pub passes : q call ≡ true

pub in_rest : {A : Type 0} (y : A) (ys : List A) (x : A) → Contains ys x → Contains (y ∷ ys) x
in_rest y ys x h = (suc h.0, (let few = h.1 in omega (arith, few)), h.2)

pub any_true : (q : Call → Bool) (calls : List Call) → list_any q calls ≡ true → Passing q calls
any_true q [] h = absurd cc
any_true q (c ∷ calls) h = by_one (either_true (q c) (list_any q calls) h) (any_true q calls)
  where
    by_one : (q c ≡ true) ⊎ (list_any q calls ≡ true) → (list_any q calls ≡ true → Passing q calls) → Passing q (c ∷ calls)
    by_one (inl e) rest = record { call = c; among = (0, omega arith, refl); passes = e }
    by_one (inr e) rest = let r = rest e in record { call = r.call; among = in_rest c calls r.call r.among; passes = r.passes }

pub first_among : {A : Type 0} (y : A) (ys : List A) (x : A) → Contains (y ∷ ys) x → (y ≡ x) ⊎ Contains ys x
first_among y ys x (zero, few, is) = inl is
first_among y ys x (suc k, few, is) = inr (k, omega (arith, few), is)

pub true_any : (q : Call → Bool) (calls : List Call) (c : Call) → Contains calls c → q c ≡ true → list_any q calls ≡ true
true_any q [] c h e = absurd (let few = h.1 in omega (arith, few))
true_any q (d ∷ calls) c h e = by_one (first_among d calls c h) (λ r. true_any q calls c r e)
  where
    by_one : (d ≡ c) ⊎ Contains calls c → (Contains calls c → list_any q calls ≡ true) → list_any q (d ∷ calls) ≡ true
    by_one (inl is) rest = left_true (q d) (list_any q calls) (ap q is ∙ e)
    by_one (inr is) rest = right_true (q d) (list_any q calls) (rest is)

-- ---- of a program

module _ (u : UnitTy) where
  pub graph_long : (fs : List FuncTy) → length (graph_of u fs) ≡ length fs
  graph_long [] = refl
  graph_long (f ∷ fs) = ap suc (graph_long fs)

  pub graph_get : (fs : List FuncTy) (f : ℕ) → slice_get (graph_of u fs) f ≡ option_map (facts_in u) (slice_get fs f)
  graph_get [] f = refl
  graph_get (x ∷ fs) zero = refl
  graph_get (x ∷ fs) (suc f) = graph_get fs f

  of_function : (o : Option FuncTy) → calls_in (option_map (facts_in u) o) ≡ (facts_of u (body_of o)).calls
  of_function None = refl
  of_function (Some x) = refl

  pub calls_are : (f : ℕ) → calls_at (graph u) f ≡ (facts_of u (body_of (slice_get u.funcs f))).calls
  calls_are f = ap calls_in (graph_get u.funcs f) ∙ of_function (slice_get u.funcs f)

module _ (p : ProgramTy) where
  pub body_calls : (f : ℕ) (body : Stmt) → body_at p f ≡ Some body → calls_at (graph p.unit) f ≡ calls_of p.unit body
  body_calls f body is = calls_are p.unit f ∙ ap (λ o. (facts_of p.unit o).calls) is

  pub call_in : (f : ℕ) (c : Call) → HasCall p f c → Contains (calls_at (graph p.unit) f) c
  call_in f c h = subst (λ (calls : List Call). Contains calls c) (sym (body_calls f h.body h.is_body)) h.among

  in_body : (f : ℕ) (c : Call) (o : Option Stmt) → body_at p f ≡ o → Contains (facts_of p.unit o).calls c → HasCall p f c
  in_body f c None is h = absurd (let few = h.1 in omega (arith, few))
  in_body f c (Some body) is h = record { body = body; is_body = is; among = h }

  pub has_call : (f : ℕ) (c : Call) → Contains (calls_at (graph p.unit) f) c → HasCall p f c
  has_call f c h = in_body f c (body_at p f) refl (subst (λ (calls : List Call). Contains calls c) (calls_are p.unit f) h)

  -- a function with a body has a number of the graph
  pub is_numbered : (f : ℕ) (body : Stmt) → body_at p f ≡ Some body → f < length p.unit.funcs
  is_numbered f body is = by_entry (slice_get p.unit.funcs f) refl is
    where
      by_entry : (o : Option FuncTy) → slice_get p.unit.funcs f ≡ o → body_of o ≡ Some body → f < length p.unit.funcs
      by_entry None e is = cc
      by_entry (Some x) e is = slice_get_within p.unit.funcs f x e
