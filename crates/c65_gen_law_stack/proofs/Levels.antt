-- Where labels stand and where branches lead, and what waits there.
use Rattle.std.proofs.Common.{◌≡◌, ℕ, zero, suc, ◌≤◌, ◌⊎◌, inl, inr, true, not, Option, None, Some, is_some, List, [], ◌∷◌, ◌++◌, slice_get, take, refl, sym, ◌∙◌, ap, subst, arith}
use Rattle.std.specs.List.{list_all}
use Rattle.std.proofs.lemmas.Bool.{and_parts}
use Rattle.c65_mach.specs.declared.rows.Op.{Op}
use Rattle.c65_mach.specs.declared.rows.Mode.{Mode}
use Rattle.c65_code.specs.declared.line.Operand.{Operand}
use Rattle.c65_code.specs.declared.line.Operand.TheVariants.{Nothing, Byte, Low, High, Zero, At, To}
use Rattle.c65_code.specs.declared.line.Line.{Line}
use Rattle.c65_code.specs.declared.line.Line.TheVariants.{Label, Do, Call}
use Rattle.c65_code.specs.Segments.{is_to, target_of}
use Rattle.c65_gen_law_lines.specs.Stack.{Waiting, waiting_by, behind, waits}
use Rattle.c65_gen_law_lines.specs.Labels.{times}
use Rattle.c65_gen_law_lines.proofs.Made.{is_plain}
use Rattle.c65_gen_law_lines.proofs.Leaves.{waits_append, Leaves}
use Rattle.c65_gen_law_lines.proofs.StackLaws.{joined, nothing_more}
use Rattle.c65_gen_law_stack.specs.Heights.{values_in, height_at, AreLevel}

-- these values wait
abbrev pub Holds : List ℕ → Option Waiting → Type 0
Holds h None = ⊥
Holds h (Some w) = w.values ≡ h

-- among the lines the label stands where these values wait
abbrev pub Stands : ℕ → List ℕ → Option Waiting → List Line → Type 0
Stands l h w [] = ⊥
Stands l h w (line ∷ lines) = ((line ≡ Label l) × Holds h w) ⊎ Stands l h (behind line w) lines

-- and a line that leads to the label
abbrev pub Leads : ℕ → List ℕ → Option Waiting → List Line → Type 0
Leads l h w [] = ⊥
Leads l h w (line ∷ lines) = ((target_of line ≡ l ∷ []) × Holds h w) ⊎ Leads l h (behind line w) lines

stands_first : (l : ℕ) (h : List ℕ) (w : Option Waiting) (a b : List Line) → Stands l h w a → Stands l h w (a ++ b)
stands_first l h w [] b s = absurd s
stands_first l h w (line ∷ a) b (inl s) = inl s
stands_first l h w (line ∷ a) b (inr s) = inr (stands_first l h (behind line w) a b s)

stands_second : (l : ℕ) (h : List ℕ) (w : Option Waiting) (a b : List Line) → Stands l h (waits w a) b → Stands l h w (a ++ b)
stands_second l h w [] b s = s
stands_second l h w (line ∷ a) b s = inr (stands_second l h (behind line w) a b s)

leads_split : (l : ℕ) (h : List ℕ) (w : Option Waiting) (a b : List Line) → Leads l h w (a ++ b) → Leads l h w a ⊎ Leads l h (waits w a) b
leads_split l h w [] b s = inr s
leads_split l h w (line ∷ a) b (inl s) = inl (inl s)
leads_split l h w (line ∷ a) b (inr s) = elim (leads_split l h (behind line w) a b s) [ inl x ↦ inl (inr x) | inr y ↦ inr y ]

-- lines without branches and labels
no_target : (op : Op) (mode : Mode) (operand : Operand) (l : ℕ) → not (is_to operand) ≡ true → target_of (Do op mode operand) ≡ l ∷ [] → ⊥
no_target op mode Nothing l h e = absurd cc
no_target op mode (Byte v) l h e = absurd cc
no_target op mode (Low s o) l h e = absurd cc
no_target op mode (High s o) l h e = absurd cc
no_target op mode (Zero i) l h e = absurd cc
no_target op mode (At s o) l h e = absurd cc
no_target op mode (To k) l h e = absurd cc

pub plain_leads : (l : ℕ) (h : List ℕ) (w : Option Waiting) (a : List Line) → list_all is_plain a ≡ true → Leads l h w a → ⊥
plain_leads l h w [] p s = s
plain_leads l h w (Label k ∷ a) p s = absurd cc
plain_leads l h w (Do op mode operand ∷ a) p (inl s) = no_target op mode operand l (and_parts (not (is_to operand)) (list_all is_plain a) p).0 s.0
plain_leads l h w (Do op mode operand ∷ a) p (inr s) = plain_leads l h (behind (Do op mode operand) w) a (and_parts (not (is_to operand)) (list_all is_plain a) p).1 s
plain_leads l h w (Call callee ∷ a) p (inl s) = absurd (let e : [] ≡ _ = s.0 in cc)
plain_leads l h w (Call callee ∷ a) p (inr s) = plain_leads l h (behind (Call callee) w) a p s

-- ---- what lines do

-- These calls lead from values that wait to others. Labels stand there where P says, and each branch leads to a label that stands there
-- where the same values wait, or elsewhere where X says.
pub record Level (P X : ℕ → List ℕ → Type 0) (cs : List (List ℕ)) (v : List ℕ) (a : List Line) (u : List ℕ) : Type 0 where
  pub to : (calls rest : List (List ℕ)) → calls ≡ cs ++ rest → waits (Some (waiting_by v calls)) a ≡ Some (waiting_by u rest)
  pub puts : (calls rest : List (List ℕ)) → calls ≡ cs ++ rest → (l : ℕ) (h : List ℕ) → P l h → Stands l h (Some (waiting_by v calls)) a
  pub found : (calls rest : List (List ℕ)) → calls ≡ cs ++ rest → (l : ℕ) (h : List ℕ) → Leads l h (Some (waiting_by v calls)) a → Stands l h (Some (waiting_by v calls)) a ⊎ X l h

abbrev pub Nowhere : ℕ → List ℕ → Type 0
Nowhere l h = ⊥

abbrev pub There : ℕ → List ℕ → ℕ → List ℕ → Type 0
There k v l h = (l ≡ k) × (h ≡ v)

abbrev pub Or : (ℕ → List ℕ → Type 0) → (ℕ → List ℕ → Type 0) → ℕ → List ℕ → Type 0
Or P Q l h = P l h ⊎ Q l h

pub level_then : {P Q X : ℕ → List ℕ → Type 0} {cs ds : List (List ℕ)} {v u t : List ℕ} {a b : List Line} → Level P X cs v a u → Level Q X ds u b t → Level (Or P Q) X (cs ++ ds) v (a ++ b) t
level_then {P = P} {Q = Q} {X = X} {cs = cs} {ds = ds} {v = v} {u = u} {t = t} {a = a} {b = b} p q = record {
  to = λ calls rest e. waits_append a b (Some (waiting_by v calls)) ∙ (ap (λ w. waits w b) (p.to calls (ds ++ rest) (e ∙ joined cs ds rest)) ∙ q.to (ds ++ rest) rest refl);
  puts = λ calls rest e l h s. put calls rest (e ∙ joined cs ds rest) l h s;
  found = λ calls rest e l h s. find calls rest (e ∙ joined cs ds rest) l h (leads_split l h (Some (waiting_by v calls)) a b s);
}
  where
    put : (calls rest : List (List ℕ)) → calls ≡ cs ++ (ds ++ rest) → (l : ℕ) (h : List ℕ) → P l h ⊎ Q l h → Stands l h (Some (waiting_by v calls)) (a ++ b)
    put calls rest e l h (inl s) = stands_first l h (Some (waiting_by v calls)) a b (p.puts calls (ds ++ rest) e l h s)
    put calls rest e l h (inr s) = stands_second l h (Some (waiting_by v calls)) a b (subst (λ (w : Option Waiting). Stands l h w b) (sym (p.to calls (ds ++ rest) e)) (q.puts (ds ++ rest) rest refl l h s))

    again : (calls rest : List (List ℕ)) → calls ≡ cs ++ (ds ++ rest) → (l : ℕ) (h : List ℕ) → Stands l h (Some (waiting_by u (ds ++ rest))) b ⊎ X l h → Stands l h (Some (waiting_by v calls)) (a ++ b) ⊎ X l h
    again calls rest e l h (inl s) = inl (stands_second l h (Some (waiting_by v calls)) a b (subst (λ (w : Option Waiting). Stands l h w b) (sym (p.to calls (ds ++ rest) e)) s))
    again calls rest e l h (inr x) = inr x

    before : (calls : List (List ℕ)) (l : ℕ) (h : List ℕ) → Stands l h (Some (waiting_by v calls)) a ⊎ X l h → Stands l h (Some (waiting_by v calls)) (a ++ b) ⊎ X l h
    before calls l h (inl s) = inl (stands_first l h (Some (waiting_by v calls)) a b s)
    before calls l h (inr x) = inr x

    find : (calls rest : List (List ℕ)) → calls ≡ cs ++ (ds ++ rest) → (l : ℕ) (h : List ℕ) → Leads l h (Some (waiting_by v calls)) a ⊎ Leads l h (waits (Some (waiting_by v calls)) a) b → Stands l h (Some (waiting_by v calls)) (a ++ b) ⊎ X l h
    find calls rest e l h (inl s) = before calls l h (p.found calls (ds ++ rest) e l h s)
    find calls rest e l h (inr s) = again calls rest e l h (q.found (ds ++ rest) rest refl l h (subst (λ (w : Option Waiting). Leads l h w b) (p.to calls (ds ++ rest) e) s))

-- fewer labels may be named, and what leads to them is no longer open
pub level_end : {P Q X Y : ℕ → List ℕ → Type 0} {cs : List (List ℕ)} {v u : List ℕ} {a : List Line} → Level P X cs v a u → ((l : ℕ) (h : List ℕ) → Q l h → P l h) → ((l : ℕ) (h : List ℕ) → X l h → P l h ⊎ Y l h) → Level Q Y cs v a u
level_end {P = P} {X = X} {Y = Y} {cs = cs} {v = v} {a = a} p fewer closes = record {
  to = p.to;
  puts = λ calls rest e l h s. p.puts calls rest e l h (fewer l h s);
  found = λ calls rest e l h s. find calls rest e l h (p.found calls rest e l h s);
}
  where
    closed : (calls rest : List (List ℕ)) → calls ≡ cs ++ rest → (l : ℕ) (h : List ℕ) → P l h ⊎ Y l h → Stands l h (Some (waiting_by v calls)) a ⊎ Y l h
    closed calls rest e l h (inl x) = inl (p.puts calls rest e l h x)
    closed calls rest e l h (inr y) = inr y

    find : (calls rest : List (List ℕ)) → calls ≡ cs ++ rest → (l : ℕ) (h : List ℕ) → Stands l h (Some (waiting_by v calls)) a ⊎ X l h → Stands l h (Some (waiting_by v calls)) a ⊎ Y l h
    find calls rest e l h (inl s) = inl s
    find calls rest e l h (inr x) = closed calls rest e l h (closes l h x)

pub level_as : {P X : ℕ → List ℕ → Type 0} {cs ds : List (List ℕ)} {v u : List ℕ} {a : List Line} → cs ≡ ds → Level P X cs v a u → Level P X ds v a u
level_as {P = P} {X = X} {v = v} {u = u} {a = a} e p = subst (λ (x : List (List ℕ)). Level P X x v a u) e p

-- where the second lines have no calls
pub level_behind : {P Q X : ℕ → List ℕ → Type 0} {cs : List (List ℕ)} {v u t : List ℕ} {a b : List Line} → Level P X cs v a u → Level Q X [] u b t → Level (Or P Q) X cs v (a ++ b) t
level_behind {cs = cs} p q = level_as (nothing_more cs) (level_then p q)

-- lines without labels and branches
pub level_plain : {X : ℕ → List ℕ → Type 0} {cs : List (List ℕ)} {v u : List ℕ} {a : List Line} → ((rest : List (List ℕ)) → waits (Some (waiting_by v (cs ++ rest))) a ≡ Some (waiting_by u rest)) → list_all is_plain a ≡ true → Level Nowhere X cs v a u
level_plain {v = v} {a = a} to plain = record {
  to = λ calls rest e. ap (λ (x : List (List ℕ)). waits (Some (waiting_by v x)) a) e ∙ to rest;
  puts = λ calls rest e l h s. absurd s;
  found = λ calls rest e l h s. absurd (plain_leads l h (Some (waiting_by v calls)) a plain s);
}

pub level_piece : {X : ℕ → List ℕ → Type 0} {v u : List ℕ} {a : List Line} → Leaves v a u → list_all is_plain a ≡ true → Level Nowhere X [] v a u
level_piece p plain = level_plain p.to plain

pub level_none : {X : ℕ → List ℕ → Type 0} {v : List ℕ} → Level Nowhere X [] v [] v
level_none = level_plain (λ rest. refl) refl

pub level_label : {X : ℕ → List ℕ → Type 0} (k : ℕ) (v : List ℕ) → Level (There k v) X [] v (Label k ∷ []) v
level_label k v = record {
  to = λ calls rest e. ap (λ (x : List (List ℕ)). Some (waiting_by v x)) e;
  puts = λ calls rest e l h s. inl (ap Label (sym s.0), sym s.1);
  found = λ calls rest e l h s. elim s [ inl x ↦ absurd (let g = x.0 in cc) | inr y ↦ absurd y ];
}

-- a branch or a jump
pub level_leads : (op : Op) (mode : Mode) (k : ℕ) (v : List ℕ) → Level Nowhere (There k v) [] v (Do op mode (To k) ∷ []) v
level_leads op mode k v = record {
  to = λ calls rest e. ap (λ (x : List (List ℕ)). Some (waiting_by v x)) e;
  puts = λ calls rest e l h s. absurd s;
  found = λ calls rest e l h s. elim s [ inl x ↦ inr (same k l x.0, sym x.1) | inr y ↦ absurd y ];
}
  where
    head_of : List ℕ → ℕ
    head_of [] = 0
    head_of (n ∷ ns) = n

    same : (k l : ℕ) → k ∷ [] ≡ l ∷ [] → l ≡ k
    same k l e = sym (ap head_of e)

-- ---- closed lines

abbrev pub Closed : List (List ℕ) → List ℕ → List Line → List ℕ → Type 0
Closed cs v a u = Level Nowhere Nowhere cs v a u

pub closed_open : {X : ℕ → List ℕ → Type 0} {cs : List (List ℕ)} {v u : List ℕ} {a : List Line} → Closed cs v a u → Level Nowhere X cs v a u
closed_open p = level_end p (λ l h x. x) (λ l h x. absurd x)

pub closed_then : {cs ds : List (List ℕ)} {v u t : List ℕ} {a b : List Line} → Closed cs v a u → Closed ds u b t → Closed (cs ++ ds) v (a ++ b) t
closed_then p q = level_end (level_then p q) (λ l h x. absurd x) (λ l h x. inr x)

pub closed_behind : {cs : List (List ℕ)} {v u t : List ℕ} {a b : List Line} → Closed cs v a u → Closed [] u b t → Closed cs v (a ++ b) t
closed_behind {cs = cs} p q = level_as (nothing_more cs) (closed_then p q)

pub closed_as : {cs ds : List (List ℕ)} {v u : List ℕ} {a : List Line} → cs ≡ ds → Closed cs v a u → Closed ds v a u
closed_as e p = level_as e p

-- ---- by the numbers of lines

stands_at : (l : ℕ) (h : List ℕ) (w : Option Waiting) (a : List Line) → Stands l h w a → (i : ℕ) × (slice_get a i ≡ Some (Label l)) × (values_in (waits w (take i a)) ≡ Some h)
stands_at l h w [] s = absurd s
stands_at l h None (line ∷ a) (inl s) = absurd s.1
stands_at l h (Some w) (line ∷ a) (inl s) = (zero, ap (λ (x : Line). Some x) s.0, ap (λ (x : List ℕ). Some x) s.1)
stands_at l h w (line ∷ a) (inr s) =
    let rest : (i : ℕ) × (slice_get a i ≡ Some (Label l)) × (values_in (waits (behind line w) (take i a)) ≡ Some h) = stands_at l h (behind line w) a s in
    (suc rest.0, rest.1, rest.2)

holds_some : (h : List ℕ) (w : Option Waiting) → values_in w ≡ Some h → Holds h w
holds_some h None e = absurd cc
holds_some h (Some w) e = cc

leads_at : (l : ℕ) (h : List ℕ) (line : Line) (w : Option Waiting) (a : List Line) (j : ℕ) → slice_get a j ≡ Some line → target_of line ≡ l ∷ [] → values_in (waits w (take j a)) ≡ Some h → Leads l h w a
leads_at l h line w [] j e t k = absurd cc
leads_at l h line w (first ∷ a) zero e t k = let same : first ≡ line = cc in inl (ap target_of same ∙ t, holds_some h w k)
leads_at l h line w (first ∷ a) (suc j) e t k = inr (leads_at l h line (behind first w) a j e t k)

some_time : (l : ℕ) (a : List Line) (i : ℕ) → slice_get a i ≡ Some (Label l) → 1 ≤ times l a
some_time l [] i e = absurd cc
some_time l (Label k ∷ a) zero e = let same : k ≡ l = cc in rw same (grind arith)
some_time l (Label k ∷ a) (suc i) e = omega (arith, some_time l a i e)
some_time l (Do op mode operand ∷ a) zero e = absurd cc
some_time l (Do op mode operand ∷ a) (suc i) e = some_time l a i e
some_time l (Call callee ∷ a) zero e = absurd cc
some_time l (Call callee ∷ a) (suc i) e = some_time l a i e

none_stays : (a : List Line) → waits None a ≡ None
none_stays [] = refl
none_stays (line ∷ a) = none_stays a

-- what waits is known at each line, where it is at the end
known_at : (w : Option Waiting) (a : List Line) (x : Waiting) → waits w a ≡ Some x → (j : ℕ) → (y : Waiting) × (waits w (take j a) ≡ Some y)
known_at (Some w) a x e zero = (w, refl)
known_at None a x e j = absurd (let n : waits None a ≡ None = none_stays a in cc)
known_at (Some w) [] x e (suc j) = (w, refl)
known_at (Some w) (line ∷ a) x e (suc j) = known_at (behind line (Some w)) a x e j

one_place : (l : ℕ) (a : List Line) (i k : ℕ) → times l a ≤ 1 → slice_get a i ≡ Some (Label l) → slice_get a k ≡ Some (Label l) → i ≡ k
one_place l [] i k few e g = absurd cc
one_place l (line ∷ a) zero zero few e g = refl
one_place l (Label n ∷ a) zero (suc k) few e g = let h = some_time l (Label n ∷ []) zero e in absurd (omega (arith, few, h, some_time l a k g))
one_place l (Label n ∷ a) (suc i) zero few e g = let h = some_time l (Label n ∷ []) zero g in absurd (omega (arith, few, h, some_time l a i e))
one_place l (Label n ∷ a) (suc i) (suc k) few e g = ap suc (one_place l a i k (omega (arith, few)) e g)
one_place l (Do op mode operand ∷ a) zero (suc k) few e g = absurd cc
one_place l (Do op mode operand ∷ a) (suc i) zero few e g = absurd cc
one_place l (Do op mode operand ∷ a) (suc i) (suc k) few e g = ap suc (one_place l a i k few e g)
one_place l (Call callee ∷ a) zero (suc k) few e g = absurd cc
one_place l (Call callee ∷ a) (suc i) zero few e g = absurd cc
one_place l (Call callee ∷ a) (suc i) (suc k) few e g = ap suc (one_place l a i k few e g)

-- a label of the same height for each line that leads to one
record Met (w : Option Waiting) (a : List Line) (l j : ℕ) : Type 0 where
  at : ℕ
  stands : slice_get a at ≡ Some (Label l)
  same : height_at w a at ≡ height_at w a j

met : (w : Option Waiting) (a : List Line) (x : Waiting) → waits w a ≡ Some x → ((l : ℕ) (h : List ℕ) → Leads l h w a → Stands l h w a) → (j l : ℕ) (line : Line) → slice_get a j ≡ Some line → target_of line ≡ l ∷ [] → Met w a l j
met w a x e finds j l line g t =
    let y = known_at w a x e j in
    let here : height_at w a j ≡ Some y.0.values = ap values_in y.1 in
    let there = stands_at l y.0.values w a (finds l y.0.values (leads_at l y.0.values line w a j g t here)) in
    record { at = there.0; stands = there.1; same = there.2 ∙ sym here }

pub all_level : (w : Option Waiting) (a : List Line) (x : Waiting) → waits w a ≡ Some x → ((l : ℕ) (h : List ℕ) → Leads l h w a → Stands l h w a) → ((l : ℕ) → times l a ≤ 1) → AreLevel w a
all_level w a x e finds few = record {
  known = λ i. ap (λ (o : Option Waiting). is_some (values_in o)) (known_at w a x e i).1;
  found = λ j l line g t. let m = met w a x e finds j l line g t in (m.at, m.stands);
  level = λ i j l line s g t.
      let m = met w a x e finds j l line g t in
      ap (height_at w a) (one_place l a i m.at (few l) s m.stands) ∙ m.same;
}

-- closed lines are level
pub closed_lines : {cs : List (List ℕ)} {v u : List ℕ} {a : List Line} (rest : List (List ℕ)) → Closed cs v a u → ((l : ℕ) → times l a ≤ 1) → AreLevel (Some (waiting_by v (cs ++ rest))) a
closed_lines {cs = cs} {v = v} {u = u} {a = a} rest p few =
    all_level (Some (waiting_by v (cs ++ rest))) a (waiting_by u rest) (p.to (cs ++ rest) rest refl) (λ l h s. elim (p.found (cs ++ rest) rest refl l h s) [ inl x ↦ x | inr y ↦ absurd y ]) few
