-- Answers one behind another.
use Rattle.std.proofs.Common.{◌≡◌, ◌⊎◌, Bool, true, false, Result, Ok, Err, inl, inr, sym, subst}
use Rattle.c65_base.specs.declared.refusal.Refusal.{Refusal}
use Rattle.c65_base.specs.declared.refusal.Refusal.TheVariants as refusals
use Rattle.c65_base.specs.Answers.{Fault, Gives}
use Rattle.c65_ppline.specs.Relations.{Answers, of, by_test, ◌then◌, IsFree, Comes}

-- want of memory may always come
pub is_free : (e : Refusal) → e ≡ refusals.OutOfMemory → IsFree e
is_free e h = subst (λ (x : Refusal). IsFree x) (sym h) tt

pub out_of_memory : {X A : Type 0} (view : X → A) (P : Answers A) (e : Refusal) → e ≡ refusals.OutOfMemory → Comes view P (Err e)
out_of_memory view P e h = inl (is_free e h)

-- the first answer is a value, and the next goes on from it
pub goes : {A B : Type 0} (P : Answers A) (f : A → Answers B) (a : A) (z : Result B Refusal) → P (Ok a) → f a z → (P then f) z
goes P f a (Ok b) p q = (a, p, q)
goes P f a (Err e) p q = inr (a, p, q)

pub goes_on : {X A B : Type 0} (view : X → B) (P : Answers A) (f : A → Answers B) (a : A) (r : Result X Refusal) → P (Ok a) → Comes view (f a) r → Comes view (P then f) r
goes_on view P f a (Ok x) p q = (a, p, q)
goes_on view P f a (Err e) p (inl q) = inl q
goes_on view P f a (Err e) p (inr q) = inr (inr (a, p, q))

-- the first answer is a refusal
pub stops_first : {X Y A B : Type 0} (view : X → A) (other : Y → B) (P : Answers A) (f : A → Answers B) (e : Refusal) → Comes view P (Err e) → Comes other (P then f) (Err e)
stops_first view other P f e (inl h) = inl h
stops_first view other P f e (inr h) = inr (inl h)

-- a definition's value or fault
pub given : {X A : Type 0} (view : X → A) (y : Result A Fault) (r : Result X Refusal) → Gives view r y → Comes view (of y) r
given view y (Ok x) h = h
given view y (Err e) h = inr h

-- a definition's value comes
pub value : {A : Type 0} (y : Result A Fault) (a : A) → y ≡ Ok a → of y (Ok a)
value y a h = h

-- the refusal of another view
pub same_refusal : {X Y A : Type 0} (view : X → A) (other : Y → A) (P : Answers A) (e : Refusal) → Comes view P (Err e) → Comes other P (Err e)
same_refusal view other P e h = h

-- from where one definition goes on another does, with one answer more
pub onward : {X A : Type 0} (view : X → A) (P Q : Answers A) (r : Result X Refusal) → ((z : Result A Refusal) → P z → Q z) → Comes view P r → Comes view Q r
onward view P Q (Ok x) f h = f (Ok (view x)) h
onward view P Q (Err e) f (inl h) = inl h
onward view P Q (Err e) f (inr h) = inr (f (Err e) h)

-- the first answer may be that of another definition
pub then_onward : {A B : Type 0} (P Q : Answers A) (f : A → Answers B) → ((z : Result A Refusal) → P z → Q z) → (z : Result B Refusal) → (P then f) z → (Q then f) z
then_onward P Q f g (Ok b) (a, p, q) = (a, g (Ok a) p, q)
then_onward P Q f g (Err e) (inl p) = inl (g (Err e) p)
then_onward P Q f g (Err e) (inr (a, p, q)) = inr (a, g (Ok a) p, q)

pub onward_err : {A B : Type 0} (e : Refusal) (P : Answers A) (Q : Answers B) → (P (Err e) → Q (Err e)) → IsFree e ⊎ P (Err e) → IsFree e ⊎ Q (Err e)
onward_err e P Q f (inl h) = inl h
onward_err e P Q f (inr h) = inr (f h)

-- a choice by a test
pub tested : {X A : Type 0} (view : X → A) (b : Bool) (P Q : Answers A) (r : Result X Refusal) → b ≡ true → Comes view P r → Comes view (by_test b P Q) r
tested view b P Q r e h = subst (λ (c : Bool). Comes view (by_test c P Q) r) (sym e) h

pub tested_not : {X A : Type 0} (view : X → A) (b : Bool) (P Q : Answers A) (r : Result X Refusal) → b ≡ false → Comes view Q r → Comes view (by_test b P Q) r
tested_not view b P Q r e h = subst (λ (c : Bool). Comes view (by_test c P Q) r) (sym e) h
