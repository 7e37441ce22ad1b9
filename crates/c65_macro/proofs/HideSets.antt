-- Laws of hide sets and of their nodes.
use Rattle.std.proofs.Common.{◌≡◌, ℕ, zero, suc, ◌+◌, ◌≤◌, ◌<◌, List, [], ◌∷◌, ◌++◌, length, get_or, Bool, true, false, Some, refl, sym, ap, ◌∙◌, arith, append_assoc, length-append, ◌⊎◌, inl, inr}
use Rattle.std.specs.Prelude.{slice_get, ◌==◌, ◌||◌, ◌&&◌, cond, not, if◌then◌else◌}
use Rattle.std.specs.List.{list_any}
use Rattle.std.proofs.lemmas.List.{append-nil, get_or_append_left, get_or_push}
use Rattle.std.proofs.lemmas.List.Folds.{list_any-append}
use Rattle.std.proofs.lemmas.Bool.{eqb-true}
use Rattle.std.proofs.Math.Path.{fun_ext}
use Rattle.c65_base.specs.declared.names.Name.{Name}
use Rattle.c65_macro.specs.declared.sets.Node.{Node}
use Rattle.c65_macro.specs.Sets.{Set, none, with_name, both, either, set_at, sets_from, set_of, Extends, IsLinked, IsSeen}

pub extends_same : {A : Type 0} (xs : List A) → Extends xs xs
extends_same xs = ([], sym (append-nil xs))

pub extends_trans : {A : Type 0} (xs ys zs : List A) → Extends xs ys → Extends ys zs → Extends xs zs
extends_trans xs ys zs (a, e) (b, f) = (a ++ b, f ∙ ap (λ l. l ++ b) e ∙ append_assoc xs a b)

pub extends_length : {A : Type 0} (xs ys : List A) → Extends xs ys → length xs ≤ length ys
extends_length xs ys (a, e) = omega (arith, ap (λ l. length l) e, length-append xs a)

get_more : {A : Type 0} (xs ys : List A) (k : ℕ) (x : A) → slice_get xs k ≡ Some x → slice_get (xs ++ ys) k ≡ Some x
get_more [] ys k x h = absurd cc
get_more (y ∷ xs) ys zero x h = h
get_more (y ∷ xs) ys (suc k) x h = get_more xs ys k x h

pub extends_get : {A : Type 0} (xs ys : List A) (k : ℕ) (x : A) → Extends xs ys → slice_get xs k ≡ Some x → slice_get ys k ≡ Some x
extends_get xs ys k x (a, e) h = ap (λ l. slice_get l k) e ∙ get_more xs a k x h

from_append : (s : List Set) (ns ms : List Node) → sets_from s (ns ++ ms) ≡ sets_from (sets_from s ns) ms
from_append s [] ms = refl
from_append s (n ∷ ns) ms = from_append (s ++ with_name n.name.0 (set_at s n.rest.0) ∷ []) ns ms

from_length : (s : List Set) (ns : List Node) → length (sets_from s ns) ≡ length s + length ns
from_length s [] = omega arith
from_length s (n ∷ ns) =
    let x : Set = with_name n.name.0 (set_at s n.rest.0) in
    omega (arith, from_length (s ++ x ∷ []) ns, length-append s (x ∷ []))

from_keeps : (s : List Set) (ns : List Node) (k : ℕ) → k < length s → get_or (sets_from s ns) k none ≡ get_or s k none
from_keeps s [] k h = refl
from_keeps s (n ∷ ns) k h =
    let x : Set = with_name n.name.0 (set_at s n.rest.0) in
    let l : k < length (s ++ x ∷ []) = omega (arith, length-append s (x ∷ [])) in
    from_keeps (s ++ x ∷ []) ns k l ∙ get_or_append_left s (x ∷ []) none k h

-- a set stays as nodes are added
pub set_stays : (ns ms : List Node) (k : ℕ) → k ≤ length ns → set_of (ns ++ ms) k ≡ set_of ns k
set_stays ns ms zero h = refl
set_stays ns ms (suc k) h =
    let l : k < length (sets_from [] ns) = omega (arith, from_length [] ns) in
    ap (λ s. get_or s k none) (from_append [] ns ms) ∙ from_keeps (sets_from [] ns) ms k l

-- the last set
set_last : (ns : List Node) (node : Node) → set_of (ns ++ node ∷ []) (suc (length ns)) ≡ with_name node.name.0 (set_of ns node.rest.0)
set_last ns node =
    let s : List Set = sets_from [] ns in
    let x : Set = with_name node.name.0 (set_at s node.rest.0) in
    ap (λ s. get_or s (length ns) none) (from_append [] ns (node ∷ [])) ∙ get_or_push s x none (length ns) (omega (arith, from_length [] ns))

pub extends_set : (ns table : List Node) (k : ℕ) → Extends ns table → k ≤ length ns → set_of table k ≡ set_of ns k
extends_set ns table k (ms, e) h = ap (λ (t : List Node). set_of t k) e ∙ set_stays ns ms k h

-- the set of a new node
pub set_new : (ns table : List Node) (node : Node) (number : ℕ) → Extends (ns ++ node ∷ []) table → node.rest.0 ≤ length ns → number ≡ length ns + 1
    → set_of table number ≡ with_name node.name.0 (set_of table node.rest.0)
set_new ns table node number x h e =
    let l : length (ns ++ node ∷ []) ≡ length ns + 1 = length-append ns (node ∷ []) in
    let n : number ≡ suc (length ns) = omega (arith, e) in
    let back : set_of table node.rest.0 ≡ set_of ns node.rest.0 = extends_set (ns ++ node ∷ []) table node.rest.0 x (omega (arith, l, h)) ∙ set_stays ns (node ∷ []) node.rest.0 h in
    extends_set (ns ++ node ∷ []) table number x (omega (arith, e, l)) ∙ ap (λ (k : ℕ). set_of (ns ++ node ∷ []) k) n ∙ set_last ns node ∙ ap (λ (s : Set). with_name node.name.0 s) (sym back)

-- a list up to a place, what stands there, and the rest
split_at : (ns : List Node) (k : ℕ) (node : Node) → slice_get ns k ≡ Some node → (front back : List Node) × (ns ≡ (front ++ node ∷ []) ++ back) × (length front ≡ k)
split_at [] k node h = absurd cc
split_at (n ∷ ns) zero node h = ([], ns, ap (λ (m : Node). m ∷ ns) (let e : n ≡ node = cc in e), refl)
split_at (n ∷ ns) (suc k) node h =
    let r = split_at ns k node h in
    (n ∷ r.0, r.1, ap (λ (l : List Node). n ∷ l) r.2, ap suc r.3)

-- the set of a node
pub set_node : (ns table : List Node) (k : ℕ) (node : Node) (number : ℕ) → IsLinked ns → Extends ns table → slice_get ns k ≡ Some node → number ≡ k + 1
    → set_of table number ≡ with_name node.name.0 (set_of table node.rest.0)
set_node ns table k node number linked (ms, e) h n =
    let r = split_at ns k node h in
    let le : node.rest.0 ≤ k = linked k node h in
    set_new r.0 table node number (r.1 ++ ms, e ∙ ap (λ (l : List Node). l ++ ms) r.2 ∙ append_assoc (r.0 ++ node ∷ []) r.1 ms) (omega (arith, le, r.3)) (omega (arith, n, r.3))

-- a name that no node has is in no set
push_lacks : (name : ℕ) (s : List Set) (x : Set) → ((k : ℕ) → get_or s k none name ≡ false) → x name ≡ false → (k : ℕ) → get_or (s ++ x ∷ []) k none name ≡ false
push_lacks name [] x h e zero = e
push_lacks name [] x h e (suc k) = refl
push_lacks name (y ∷ s) x h e zero = h 0
push_lacks name (y ∷ s) x h e (suc k) = push_lacks name s x (λ j. h (suc j)) e k

at_lacks : (name : ℕ) (s : List Set) → ((k : ℕ) → get_or s k none name ≡ false) → (k : ℕ) → set_at s k name ≡ false
at_lacks name s h zero = refl
at_lacks name s h (suc k) = h k

or_left : (a b : Bool) → (a || b) ≡ false → a ≡ false
or_left true b h = h
or_left false b h = refl

or_right : (a b : Bool) → (a || b) ≡ false → b ≡ false
or_right true b h = absurd cc
or_right false b h = h

or_false : (a b : Bool) → a ≡ false → b ≡ false → (a || b) ≡ false
or_false true b h g = absurd cc
or_false false b h g = g

from_lacks : (name : ℕ) (s : List Set) (ns : List Node) → ((k : ℕ) → get_or s k none name ≡ false) → list_any (λ node. node.name.0 == name) ns ≡ false → (k : ℕ) → get_or (sets_from s ns) k none name ≡ false
from_lacks name s [] h e = h
from_lacks name s (n ∷ ns) h e =
    from_lacks name (s ++ with_name n.name.0 (set_at s n.rest.0) ∷ []) ns
    (push_lacks name s (with_name n.name.0 (set_at s n.rest.0)) h (or_false (n.name.0 == name) (set_at s n.rest.0 name) (or_left (n.name.0 == name) (list_any (λ node. node.name.0 == name) ns) e) (at_lacks name s h n.rest.0)))
    (or_right (n.name.0 == name) (list_any (λ node. node.name.0 == name) ns) e)

pub set_lacks : (name : ℕ) (ns : List Node) → list_any (λ node. node.name.0 == name) ns ≡ false → (k : ℕ) → set_of ns k name ≡ false
set_lacks name ns e k = at_lacks name (sets_from [] ns) (from_lacks name [] ns (λ j. refl) e) k

-- one more node goes on with an earlier set
push_linked : (ns : List Node) (node : Node) (k : ℕ) (n : Node) (before : ℕ) → slice_get (ns ++ node ∷ []) k ≡ Some n → (slice_get ns k ≡ Some n) ⊎ ((k ≡ length ns) × (node ≡ n))
push_linked [] node zero n before h = inr (refl, let e : node ≡ n = cc in e)
push_linked [] node (suc k) n before h = absurd cc
push_linked (m ∷ ns) node zero n before h = inl h
push_linked (m ∷ ns) node (suc k) n before h = elim (push_linked ns node k n before h) as (λ _. (slice_get ns k ≡ Some n) ⊎ ((suc k ≡ length (m ∷ ns)) × (node ≡ n))) [ inl x ↦ inl x | inr x ↦ inr (omega (arith, x.0), x.1) ]

pub linked_more : (ns : List Node) (node : Node) → IsLinked ns → node.rest.0 ≤ length ns → IsLinked (ns ++ node ∷ [])
linked_more ns node l h k n e = elim (push_linked ns node k n 0 e) as (λ _. n.rest.0 ≤ k) [
  | inl x ↦ l k n x
  | inr x ↦ (let r : node.rest.0 ≡ n.rest.0 = ap (λ (m : Node). m.rest.0) x.1 in omega (arith, h, r, x.0))
]

-- the sets of the operations, by their members
pub both_same : (s : Set) → s ≡ both s s
both_same s = fun_ext (λ n. by (s n))
  where
    by : (b : Bool) → b ≡ (b && b)
    by true = refl
    by false = refl

pub either_none : (s : Set) → s ≡ either s none
either_none s = fun_ext (λ n. by (s n))
  where
    by : (b : Bool) → b ≡ (b || false)
    by true = refl
    by false = refl

-- what is common so far, and what is still to be gone over: a member goes over, and another name is left
pub both_step_in : (done rest other : Set) (name : ℕ) → other name ≡ true → either (with_name name done) (both rest other) ≡ either done (both (with_name name rest) other)
both_step_in done rest other name h = fun_ext (λ n. by n (name == n) refl)
  where
    at : (n : ℕ) (a b c : Bool) → c ≡ true → ((true || a) || (b && c)) ≡ (a || ((true || b) && c))
    at n true b c e = refl
    at n false b true e = refl
    at n false b false e = absurd cc

    no : (a b c : Bool) → ((false || a) || (b && c)) ≡ (a || ((false || b) && c))
    no a b c = refl

    by : (n : ℕ) (t : Bool) → (name == n) ≡ t → ((t || done n) || (rest n && other n)) ≡ (done n || ((t || rest n) && other n))
    by n true e = at n (done n) (rest n) (other n) (ap other (sym (eqb-true name n e)) ∙ h)
    by n false e = no (done n) (rest n) (other n)

pub both_step_out : (done rest other : Set) (name : ℕ) → other name ≡ false → either done (both rest other) ≡ either done (both (with_name name rest) other)
both_step_out done rest other name h = fun_ext (λ n. by n (name == n) refl)
  where
    at : (a b c : Bool) → c ≡ false → (a || (b && c)) ≡ (a || ((true || b) && c))
    at a true c e = refl
    at a false true e = absurd cc
    at a false false e = refl

    by : (n : ℕ) (t : Bool) → (name == n) ≡ t → (done n || (rest n && other n)) ≡ (done n || ((t || rest n) && other n))
    by n true e = at (done n) (rest n) (other n) (ap other (sym (eqb-true name n e)) ∙ h)
    by n false e = refl

pub both_all : (done other : Set) → done ≡ either done (both none other)
both_all done other = either_none done

pub both_start : (a b : Set) → either none (both a b) ≡ both a b
both_start a b = refl

-- what is joined so far has the second set in it
pub holds_start : (other : Set) → either other other ≡ other
holds_start other = fun_ext (λ n. by (other n))
  where
    by : (b : Bool) → (b || b) ≡ b
    by true = refl
    by false = refl

pub holds_more : (other all : Set) (name : ℕ) → either other all ≡ all → either other (with_name name all) ≡ with_name name all
holds_more other all name h = fun_ext (λ n. by (other n) (all n) (name == n) (ap (λ (s : Set). s n) h))
  where
    by : (a b t : Bool) → (a || b) ≡ b → (a || (t || b)) ≡ (t || b)
    by true b true h = refl
    by true b false h = h
    by false b t h = refl

-- one more name is joined
pub join_new : (rest all : Set) (name : ℕ) → either rest (with_name name all) ≡ either (with_name name rest) all
join_new rest all name = fun_ext (λ n. by (rest n) (name == n) (all n))
  where
    by : (a t b : Bool) → (a || (t || b)) ≡ ((t || a) || b)
    by true true b = refl
    by true false b = refl
    by false true b = refl
    by false false b = refl

pub join_old : (rest other all : Set) (name : ℕ) → either other all ≡ all → other name ≡ true → either rest all ≡ either (with_name name rest) all
join_old rest other all name h o = fun_ext (λ n. by n (name == n) refl)
  where
    at : (a b c : Bool) → c ≡ true → (c || b) ≡ b → (a || b) ≡ ((true || a) || b)
    at true b c e f = refl
    at false b true e f = sym f
    at false b false e f = absurd cc

    by : (n : ℕ) (t : Bool) → (name == n) ≡ t → (rest n || all n) ≡ ((t || rest n) || all n)
    by n true e = at (rest n) (all n) (other n) (ap other (sym (eqb-true name n e)) ∙ o) (ap (λ (s : Set). s n) h)
    by n false e = refl

-- the names of one more node are seen
pub seen_more : (seen more : List Name) (ns : List Node) (node : Node) → IsSeen seen ns → ((q : Name) → list_any (λ (n : Name). q.0 == n.0) more ≡ cond (node.name.0 == q.0) true (list_any (λ (n : Name). q.0 == n.0) seen)) → IsSeen more (ns ++ node ∷ [])
seen_more seen more ns node h u name e =
    let q : Name = record { 0 = name } in
    list_any-append (λ (n : Node). n.name.0 == name) ns (node ∷ []) ∙ by (node.name.0 == name) (list_any (λ (n : Name). name == n.0) seen) refl refl (sym (u q) ∙ e)
  where
    by : (b s : Bool) → (node.name.0 == name) ≡ b → list_any (λ (n : Name). name == n.0) seen ≡ s → cond b true s ≡ false → (list_any (λ (n : Node). n.name.0 == name) ns || (b || false)) ≡ false
    by true s f g k = absurd cc
    by false true f g k = absurd cc
    by false false f g k = or_false (list_any (λ (n : Node). n.name.0 == name) ns) false (h name g) refl

-- one node of the first set is gone over
pub both_step : (done rest other at : Set) (name : ℕ) → at ≡ with_name name rest → either (if other name then with_name name done else done) (both rest other) ≡ either done (both at other)
both_step done rest other at name e = by (other name) refl ∙ ap (λ (s : Set). either done (both s other)) (sym e)
  where
    by : (b : Bool) → other name ≡ b → either (if b then with_name name done else done) (both rest other) ≡ either done (both (with_name name rest) other)
    by true h = both_step_in done rest other name h
    by false h = both_step_out done rest other name h

pub join_step : (rest other all at : Set) (name : ℕ) → at ≡ with_name name rest → either other all ≡ all → either rest (if other name then all else with_name name all) ≡ either at all
join_step rest other all at name e h = by (other name) refl ∙ ap (λ (s : Set). either s all) (sym e)
  where
    by : (b : Bool) → other name ≡ b → either rest (if b then all else with_name name all) ≡ either (with_name name rest) all
    by true o = join_old rest other all name h o
    by false o = join_new rest all name

pub holds_step : (other all : Set) (name : ℕ) → either other all ≡ all → either other (if other name then all else with_name name all) ≡ (if other name then all else with_name name all)
holds_step other all name h = by (other name)
  where
    by : (b : Bool) → either other (if b then all else with_name name all) ≡ (if b then all else with_name name all)
    by true = h
    by false = holds_more other all name h

pub none_left : (s t : Set) → s ≡ none → either s t ≡ t
none_left s t e = ap (λ (u : Set). either u t) e

pub not_false : (b : Bool) → false ≡ not b → b ≡ true
not_false true h = refl
not_false false h = absurd cc
