-- More steps change nothing.
use Rattle.std.proofs.Common.{◌≡◌, ℕ, zero, suc, ◌+◌, List, [], ◌∷◌, ◌++◌, refl, sym, ap, ◌∙◌, arith, Bool, true, false, Option, Some, None, length, drop}
use Rattle.std.specs.Prelude.{if◌then◌else◌, nat_lt, not, ◌||◌}
use Rattle.c65_base.specs.declared.names.Name.{Name}
use Rattle.c65_base.specs.Answers.{Fault}
use Rattle.c65_lex.specs.declared.token.PpToken.{PpToken}
use Rattle.c65_macro.specs.declared.item.Macro.{Macro}
use Rattle.c65_macro.specs.Table.{Table, same_name, lookup, is_line_end}
use Rattle.c65_macro.specs.Items.{Item, Outcome, unfinished, faulty, done, ◌>>=◌, count, put_count, items, tokens}
use Rattle.c65_macro.specs.Uses.{Gathering, no_use, unclosed, above, closed, is_fit, use_at}
use Rattle.c65_macro.specs.Fill.{replacement}
use Rattle.c65_macro.specs.Sets.{with_name, both}
use Rattle.c65_macro.specs.Expand.{Expander, pass, keep, put_before, wanted, each, finish, replace_use, replace_with, place_token, replace_place, replace, in_front, macro_of, expand, expansion, Expands, Faults}
use Rattle.c65_macro.specs.Machine.{Frame, Later, with_argument, use_with, use_left, below, climb}

pub later_same : {A : Type 0} (r : Outcome A) → Later r r
later_same unfinished = tt
later_same (faulty f) = refl
later_same (done names x) = refl

pub later_trans : {A : Type 0} (a b c : Outcome A) → Later a b → Later b c → Later a c
later_trans unfinished b c h k = tt
later_trans (faulty f) unfinished c h k = absurd cc
later_trans (faulty f) (faulty g) c h k = k ∙ h
later_trans (faulty f) (done names x) c h k = absurd cc
later_trans (done names x) unfinished c h k = absurd cc
later_trans (done names x) (faulty g) c h k = absurd cc
later_trans (done names x) (done ms y) c h k = k ∙ h

pub later_bind : {A B : Type 0} (a b : Outcome A) (f g : List (List ℕ) → A → Outcome B) → Later a b → ((names : List (List ℕ)) (x : A) → Later (f names x) (g names x)) → Later (a >>= f) (b >>= g)
later_bind unfinished b f g h k = tt
later_bind (faulty e) b f g h k = ap (λ z. z >>= g) h
later_bind {B} (done names x) b f g h k = let e : (b >>= g) ≡ g names x = ap (λ z. z >>= g) h in rw e (k names x)

later_then : {A B : Type 0} (a : Outcome A) (f g : List (List ℕ) → A → Outcome B) → ((names : List (List ℕ)) (x : A) → Later (f names x) (g names x)) → Later (a >>= f) (a >>= g)
later_then a f g k = later_bind a a f g (later_same a) k

later_if : {A : Type 0} (b : Bool) (r s r' s' : Outcome A) → Later r r' → Later s s' → Later (if b then r else s) (if b then r' else s')
later_if true r s r' s' h k = h
later_if false r s r' s' h k = k

-- g goes at least as far as f
abbrev pub Further : Expander → Expander → Type 0
Further f g = (names : List (List ℕ)) (outside room : ℕ) (is : List Item) → Later (f names outside room is) (g names outside room is)

later_pass : (f g : Expander) (names : List (List ℕ)) (outside room : ℕ) (i : Item) (is : List Item) → Further f g → Later (pass f names outside room i is) (pass g names outside room i is)
later_pass f g names outside room i is h = later_bind (f names outside room is) (g names outside room is) _ _ (h names outside room is) (λ names out. later_same (done names (i ∷ out)))

later_keep : (f g : Expander) (names : List (List ℕ)) (outside room : ℕ) (i : Item) (is : List Item) → Further f g → Later (keep f names outside room i is) (keep g names outside room i is)
later_keep f g names outside zero i is h = later_if (is_line_end i.token) _ _ _ _ (later_pass f g names outside zero i is h) refl
later_keep f g names outside (suc room) i is h = later_if (is_line_end i.token) _ _ _ _ (later_pass f g names outside (suc room) i is h) (later_pass f g names outside room i is h)

later_put : (f g : Expander) (names : List (List ℕ)) (outside room : ℕ) (new is : List Item) → Further f g → Later (put_before f names outside room new is) (put_before g names outside room new is)
later_put f g names outside room new is h = later_if (nat_lt 500000 (outside + count new + put_count is)) _ _ _ _ refl (h names outside room (new ++ is))

later_each : (table : Table) (f g : List (List ℕ) → List Item → Outcome (List Item)) (body : List PpToken) (names : List (List ℕ)) (ps : List Name) (args : List (List Item))
    → ((names : List (List ℕ)) (is : List Item) → Later (f names is) (g names is)) → Later (each table f body names ps args) (each table g body names ps args)
later_each table f g body names [] args h = refl
later_each table f g body names (p ∷ ps) [] h = refl
later_each table f g body names (p ∷ ps) (a ∷ args) h =
    later_bind (f names (wanted table body p a)) (g names (wanted table body p a)) _ _ (h names (wanted table body p a))
    (λ names full. later_bind (each table f body names ps args) (each table g body names ps args) _ _ (later_each table f g body names ps args h) (λ names fulls. refl))

later_finish : (table : Table) (f g : Expander) (names : List (List ℕ)) (outside room : ℕ) (i close : Item) (rest : List Item) (m : Macro) (ps : List Name) (args fulls : List (List Item)) → Further f g
    → Later (finish table f names outside room i close rest m ps args fulls) (finish table g names outside room i close rest m ps args fulls)
later_finish table f g names outside room i close rest m ps args fulls h =
    later_then (replacement (record { words = table.words; params = Some ps; raw = args; full = fulls; place = i.token.pos }) names (with_name m.name.0 (both i.hide close.hide)) i.token.space m.body) _ _
    (λ names new. later_put f g names outside room new rest h)

later_use : (table : Table) (f g : Expander) (names : List (List ℕ)) (outside room : ℕ) (i : Item) (is : List Item) (m : Macro) (ps : List Name) (u : Gathering) → Further f g
    → Later (replace_use table f names outside room i is m ps u) (replace_use table g names outside room i is m ps u)
later_use table f g names outside room i is m ps no_use h = later_keep f g names outside room i is h
later_use table f g names outside room i is m ps unclosed h = refl
later_use table f g names outside room i is m ps (above e) h = refl
later_use table f g names outside room i is m ps (closed args size close rest) h =
    later_if (not (is_fit ps args)) _ _ _ _ refl
    (later_bind (each table (λ names arg. f names (outside + size + put_count rest) 500000 arg) m.body names ps args) (each table (λ names arg. g names (outside + size + put_count rest) 500000 arg) m.body names ps args) _ _
    (later_each table _ _ m.body names ps args (λ names arg. h names (outside + size + put_count rest) 500000 arg))
    (λ names fulls. later_finish table f g names outside room i close rest m ps args fulls h))

later_with : (table : Table) (f g : Expander) (names : List (List ℕ)) (outside room : ℕ) (i : Item) (is : List Item) (m : Macro) (ps : Option (List Name)) → Further f g
    → Later (replace_with table f names outside room i is m ps) (replace_with table g names outside room i is m ps)
later_with table f g names outside room i is m None h =
    later_then (replacement (record { words = table.words; params = None; raw = []; full = []; place = i.token.pos }) names (with_name m.name.0 i.hide) i.token.space m.body) _ _
    (λ names new. later_put f g names outside room new is h)
later_with table f g names outside room i is m (Some ps) h = later_use table f g names outside room i is m ps (use_at table.words outside is) h

later_place : (table : Table) (f g : Expander) (names : List (List ℕ)) (outside room : ℕ) (i : Item) (is : List Item) (name : Name) → Further f g
    → Later (replace_place table f names outside room i is name) (replace_place table g names outside room i is name)
later_place table f g names outside room i is name h = later_then (place_token table names i name) _ _ (λ names new. later_put f g names outside room (new ∷ []) is h)

later_replace : (table : Table) (f g : Expander) (names : List (List ℕ)) (outside room : ℕ) (i : Item) (is : List Item) (m : Macro) → Further f g
    → Later (replace table f names outside room i is m) (replace table g names outside room i is m)
later_replace table f g names outside room i is m h = later_if (same_name m.name table.words.line || same_name m.name table.words.file) _ _ _ _ (later_place table f g names outside room i is m.name h) (later_with table f g names outside room i is m m.params h)

pub later_front : (table : Table) (f g : Expander) (names : List (List ℕ)) (outside room : ℕ) (i : Item) (is : List Item) (m : Option Macro) → Further f g
    → Later (in_front table f names outside room i is m) (in_front table g names outside room i is m)
later_front table f g names outside room i is None h = later_keep f g names outside room i is h
later_front table f g names outside room i is (Some m) h = later_if (i.hide i.token.spelling.0) _ _ _ _ (later_keep f g names outside room i is h) (later_replace table f g names outside room i is m h)

-- one more step goes at least as far
pub one_more : (table : Table) (n : ℕ) → Further (expand table n) (expand table (suc n))
one_more table zero names outside room is = tt
one_more table (suc n) names outside room [] = refl
one_more table (suc n) names outside room (i ∷ is) = later_front table (expand table n) (expand table (suc n)) names outside room i is (macro_of table i.token) (one_more table n)

-- so do any number of steps more
pub more_steps : (table : Table) (n k : ℕ) → Further (expand table n) (expand table (k + n))
more_steps table n zero names outside room is = let e : 0 + n ≡ n = omega arith in rw e (later_same (expand table n names outside room is))
more_steps table n (suc k) names outside room is =
    let e : suc k + n ≡ suc (k + n) = omega arith in
    rw e (later_trans (expand table n names outside room is) (expand table (k + n) names outside room is) (expand table (suc (k + n)) names outside room is) (more_steps table n k names outside room is) (one_more table (k + n) names outside room is))

-- a list has one expansion at most
pub one_expansion : (table : Table) (names : List (List ℕ)) (line : List PpToken) (a b : List PpToken) (known spelled : List (List ℕ)) → Expands table names line a known → Expands table names line b spelled → (a ≡ b) × (known ≡ spelled)
one_expansion table names line a b known spelled (n, x, e, f) (m, y, g, h) =
    let p : Later (expansion table n names line) (expansion table (m + n) names line) = more_steps table n m names 0 500000 (items line) in
    let q : Later (expansion table m names line) (expansion table (n + m) names line) = more_steps table m n names 0 500000 (items line) in
    let p' : expansion table (m + n) names line ≡ done known x = rw e at p in
    let q' : expansion table (n + m) names line ≡ done spelled y = rw g at q in
    let s : m + n ≡ n + m = omega arith in
    let z : done known x ≡ done spelled y = sym p' ∙ ap (λ (k : ℕ). expansion table k names line) s ∙ q' in
    let xy : x ≡ y = cc in
    (f ∙ ap tokens xy ∙ sym h, cc)

-- a list that has an expansion has no fault
pub no_fault : (table : Table) (names : List (List ℕ)) (line a : List PpToken) (known : List (List ℕ)) (fault : Fault) → Expands table names line a known → Faults table names line fault → ⊥
no_fault table names line a known fault (n, x, e, f) (m, g) =
    let p : Later (expansion table n names line) (expansion table (m + n) names line) = more_steps table n m names 0 500000 (items line) in
    let q : Later (expansion table m names line) (expansion table (n + m) names line) = more_steps table m n names 0 500000 (items line) in
    let p' : expansion table (m + n) names line ≡ done known x = rw e at p in
    let q' : expansion table (n + m) names line ≡ faulty fault = rw g at q in
    let s : m + n ≡ n + m = omega arith in
    let z : done known x ≡ faulty fault = sym p' ∙ ap (λ (k : ℕ). expansion table k names line) s ∙ q' in
    cc

-- a list has one fault at most
pub one_fault : (table : Table) (names : List (List ℕ)) (line : List PpToken) (a b : Fault) → Faults table names line a → Faults table names line b → a ≡ b
one_fault table names line a b (n, e) (m, g) =
    let p : Later (expansion table n names line) (expansion table (m + n) names line) = more_steps table n m names 0 500000 (items line) in
    let q : Later (expansion table m names line) (expansion table (n + m) names line) = more_steps table m n names 0 500000 (items line) in
    let p' : expansion table (m + n) names line ≡ faulty a = rw e at p in
    let q' : expansion table (n + m) names line ≡ faulty b = rw g at q in
    let s : m + n ≡ n + m = omega arith in
    let z : faulty a ≡ faulty b = sym p' ∙ ap (λ (k : ℕ). expansion table k names line) s ∙ q' in
    cc

later_below : (table : Table) (n : ℕ) → Further (below table n) (below table (suc n))
later_below table zero names outside room is = tt
later_below table (suc n) names outside room is = one_more table n names outside room is

pub later_use_with : (table : Table) (f g : Expander) (names : List (List ℕ)) (u : Frame) (m : Macro) (ps : Option (List Name)) → Further f g → Later (use_with table f names u m ps) (use_with table g names u m ps)
later_use_with table f g names u m None h = tt
later_use_with table f g names u m (Some ps) h =
    later_bind (each table (λ names arg. f names u.inside 500000 arg) m.body names (drop (length u.full) ps) (drop (length u.full) u.raw)) (each table (λ names arg. g names u.inside 500000 arg) m.body names (drop (length u.full) ps) (drop (length u.full) u.raw)) _ _
    (later_each table _ _ m.body names (drop (length u.full) ps) (drop (length u.full) u.raw) (λ names arg. h names u.inside 500000 arg))
    (λ names fulls. later_finish table f g names u.stage.outside u.stage.room u.name u.close u.stage.rest m ps u.raw (u.full ++ fulls) h)

later_use_left : (table : Table) (f g : Expander) (names : List (List ℕ)) (u : Frame) (m : Option Macro) → Further f g → Later (use_left table f names u m) (use_left table g names u m)
later_use_left table f g names u None h = tt
later_use_left table f g names u (Some m) h = later_use_with table f g names u m m.params h

pub later_climb : (table : Table) (n : ℕ) (names : List (List ℕ)) (fs : List Frame) (out : List Item) → Later (climb table n names fs out) (climb table (suc n) names fs out)
later_climb table n names [] out = refl
later_climb table n names (f ∷ fs) out =
    later_bind (use_left table (below table n) names (with_argument f out) (lookup table f.name.token.spelling)) (use_left table (below table (suc n)) names (with_argument f out) (lookup table f.name.token.spelling)) _ _
    (later_use_left table (below table n) (below table (suc n)) names (with_argument f out) (lookup table f.name.token.spelling) (later_below table n))
    (λ names more. later_climb table n names fs (f.stage.out ++ more))
