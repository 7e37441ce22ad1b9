-- One step of a walk over a tree: its parts' answers, and what the construct makes of them.
use Rattle.std.proofs.Common.{◌≡◌, Bool, true, false, Ok, Err, refl, ap, subst, length}
use Rattle.std.specs.Prelude.{Result}
use Rattle.c65_base.specs.Answers.{Fault, ◌>>=◌}
use Rattle.c65_csem.specs.Trees as n
use Rattle.c65_csem.specs.Trees.{Typed, Nodes, UnitTy}
use Rattle.c65_csem.specs.Typed.{IsTyped}
use Rattle.c65_elab_scope.specs.Scopes.{ScopeTy, closed}
use Rattle.c65_elab.specs.Typing.{beside, and_node, left}
use Rattle.c65_elab_law.specs.Scoped.{IsScope, Keeps, IsAnswer}
use Rattle.c65_elab_law.specs.WellTyped.{AreExpressions}
use Rattle.c65_elab_law.proofs.GrowthLaws.{stays}
use Rattle.c65_elab_law.proofs.OperatorLaws.{bind_ok, ok_is, not_ok}
use Rattle.c65_elab_law.proofs.ScopeLaws.{keeps_on, closed_keeps, fewer_keeps}

pub beside_is : {A : Type 0} (s : ScopeTy) (r : Result A Fault) (x : A × ScopeTy) → beside s r ≡ Ok x → (r ≡ Ok x.0) × (s ≡ x.1)
beside_is {A} s (Ok a) x h =
    let g : ◌≡◌ {A = A × ScopeTy} (a, s) x = ok_is _ _ h in
    (ap (λ (y : A × ScopeTy). Ok y.0) g, ap (λ (y : A × ScopeTy). y.1) g)
beside_is s (Err f) x h = absurd (not_ok _ _ h)

-- what leaves the scope as it is
pub beside_keeps : {A : Type 0} (s u : ScopeTy) (r : Result A Fault) (x : A × ScopeTy) → Keeps s u → beside u r ≡ Ok x → Keeps s x.1
beside_keeps s u r x k h = subst (Keeps s) (beside_is u r x h).1 k

-- what a construct makes behind its parts
pub ended : (s u : ScopeTy) (r : Result Typed Fault) (x : Typed × ScopeTy) → Keeps s u → ((e : Typed) → r ≡ Ok e → IsTyped u.unit e) → beside u r ≡ Ok x → IsAnswer s x
ended s u r x k f h =
    let b = beside_is u r x h in
    record { typed = subst (λ (v : ScopeTy). IsTyped v.unit x.0) b.1 (f x.0 b.0); kept = subst (Keeps s) b.1 k }

-- behind a scope that was kept
pub answer_on : (s u : ScopeTy) (x : Typed × ScopeTy) → Keeps s u → IsAnswer u x → IsAnswer s x
answer_on s u x k a = record { typed = a.typed; kept = keeps_on s u x.1 k a.kept }

pub one_keeps : (s : ScopeTy) (r : Result (Typed × ScopeTy) Fault) (op : ScopeTy → Typed → Result Typed Fault) (x : Typed × ScopeTy) → ((y : Typed × ScopeTy) → r ≡ Ok y → IsAnswer s y) → ((u : ScopeTy) (a e : Typed) → IsScope u → IsTyped u.unit a → op u a ≡ Ok e → IsTyped u.unit e) → (r >>= λ y. beside y.1 (op y.1 y.0)) ≡ Ok x → IsAnswer s x
one_keeps s r op x part law h =
    let (y, hy, g) = bind_ok r (λ y. beside y.1 (op y.1 y.0)) x h in
    let a = part y hy in
    ended s y.1 (op y.1 y.0) x a.kept (λ e k. law y.1 y.0 e a.kept.scope a.typed k) g

pub two_keeps : (s : ScopeTy) (r : Result (Typed × ScopeTy) Fault) (next : ScopeTy → Result (Typed × ScopeTy) Fault) (op : ScopeTy → Typed → Typed → Result Typed Fault) (x : Typed × ScopeTy) → ((y : Typed × ScopeTy) → r ≡ Ok y → IsAnswer s y) → ((u : ScopeTy) (z : Typed × ScopeTy) → IsScope u → next u ≡ Ok z → IsAnswer u z) → ((u : ScopeTy) (a b e : Typed) → IsScope u → IsTyped u.unit a → IsTyped u.unit b → op u a b ≡ Ok e → IsTyped u.unit e) → (r >>= λ y. next y.1 >>= λ z. beside z.1 (op z.1 y.0 z.0)) ≡ Ok x → IsAnswer s x
two_keeps s r next op x part second law h =
    let (y, hy, g) = bind_ok r (λ y. next y.1 >>= λ z. beside z.1 (op z.1 y.0 z.0)) x h in
    let (z, hz, k) = bind_ok (next y.1) (λ z. beside z.1 (op z.1 y.0 z.0)) x g in
    let a = part y hy in
    let b = second y.1 z a.kept.scope hz in
    ended s z.1 (op z.1 y.0 z.0) x (keeps_on s y.1 z.1 a.kept b.kept) (λ e i. law z.1 y.0 z.0 e b.kept.scope (stays y.1.unit z.1.unit b.kept.grown y.0 a.typed) b.typed i) k

-- ---- one step behind another, in the words of a continuation

pub chain : {A B : Type 0} (r : Result A Fault) (f : A → Result B Fault) (x : B) (P : Type 0) → ((a : A) → r ≡ Ok a → f a ≡ Ok x → P) → (r >>= f) ≡ Ok x → P
chain (Ok a) f x P k h = k a refl h
chain (Err e) f x P k h = absurd (not_ok _ _ h)

pub keeps_then : (s u v : ScopeTy) → Keeps s u → (IsScope u → Keeps u v) → Keeps s v
keeps_then s u v k f = keeps_on s u v k (f k.scope)

-- the scope of an answer that is given
pub given_keeps : {A : Type 0} (s u : ScopeTy) (a : A) (x : A × ScopeTy) → Keeps s u → ◌≡◌ {A = Result (A × ScopeTy) Fault} (Ok (a, u)) (Ok x) → Keeps s x.1
given_keeps {A} s u a x k h = subst (Keeps s) (let g : ◌≡◌ {A = A × ScopeTy} (a, u) x = ok_is _ _ h in ap (λ (y : A × ScopeTy). y.1) g) k

-- a walk that keeps what holds of the scope
abbrev pub Part : {A : Type 0} → (ScopeTy → Result (A × ScopeTy) Fault) → Type 0
Part {A} r = (s : ScopeTy) (x : A × ScopeTy) → IsScope s → r s ≡ Ok x → Keeps s x.1

-- arguments, from left to right
pub record AreAnswers (s : ScopeTy) (x : Nodes × ScopeTy) : Type 0 where
  pub typed : AreExpressions x.1.unit x.0
  pub kept : Keeps s x.1

pub one_more_typed : (u : UnitTy) (xs : Nodes) (e : Typed) → AreExpressions u xs → IsTyped u e → AreExpressions u (and_node xs e)
one_more_typed u n.none e w v = (v, tt)
one_more_typed u (n.some x xs) e w v = (w.0, one_more_typed u xs e w.1 v)

-- the block of a prototype ends, or stays open
pub left_keeps : (stay : Bool) (s u : ScopeTy) → Keeps s u → Keeps s (left stay u (length s.unit.objects))
left_keeps true s u k = k
left_keeps false s u k = fewer_keeps s (closed u) (keeps_on s u (closed u) k (closed_keeps u k.scope))
