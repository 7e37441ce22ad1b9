-- What a scope forgets at the end of a block is what it learnt there.
use Rattle.std.proofs.Common.{◌≡◌, ◌≢◌, ℕ, zero, suc, ◌<◌, ◌≤◌, List, [], ◌∷◌, ◌++◌, length, get_or, set, Bool, true, false, refl, sym, ap, ◌∙◌, subst, arith, inl, inr, eq-eqb, eqb-true, true≢false}
use Rattle.std.specs.Prelude.{nat_eq, if◌then◌else◌, reverse, Vec, ◌-◌, ◌+◌}
use Rattle.std.proofs.Common.{Option, Some, None, option_to_list, MatchOption, vec_len}
use Rattle.std.specs.declared.alloc.Global.{Global}
use Rattle.std.proofs.lemmas.List.{reverse-append}
use Rattle.std.proofs.Math.Path.{fun_ext}
use Rattle.std.proofs.lemmas.Bool.{cases_lt}
use Rattle.c65_base.specs.declared.names.Name.{Name}
use Rattle.c65_parse_names.specs.Scopes.{Blocks, with_kind, with_declared, closed}
use Rattle.c65_parse_names.specs.Blocks.{Stacks, stacks_of, head_or, tail_of, with_kind_of, without_kind_of, without_block, kinds_of, outer_of, stack_at}

undone : (t : Bool) (bs : List Bool) (b : Bool) → (if t then tail_of (if t then b ∷ bs else bs) else (if t then b ∷ bs else bs)) ≡ bs
undone true bs b = refl
undone false bs b = refl

forgotten : (stacks : Stacks) (name : Name) (b : Bool) → without_kind_of (with_kind_of stacks name b) name ≡ stacks
forgotten stacks name b = fun_ext (λ (m : Name). undone (nat_eq m.0 name.0) (stacks m) b)

kind_then : (t : Bool) (bs : List Bool) (b : Bool) → head_or false (if t then b ∷ bs else bs) ≡ (if t then b else head_or false bs)
kind_then true bs b = refl
kind_then false bs b = refl

learnt : (stacks : Stacks) (name : Name) (b : Bool) → kinds_of (with_kind_of stacks name b) ≡ with_kind (kinds_of stacks) name b
learnt stacks name b = fun_ext (λ (m : Name). kind_then (nat_eq m.0 name.0) (stacks m) b)

pub block_push : (names : List Name) (name : Name) (stacks : Stacks) → without_block (names ++ name ∷ []) stacks ≡ without_block names (without_kind_of stacks name)
block_push [] name stacks = refl
block_push (n ∷ names) name stacks = ap (λ (s : Stacks). without_kind_of s n) (block_push names name stacks)

block_undone : (names : List Name) (name : Name) (stacks : Stacks) (b : Bool) → without_block (names ++ name ∷ []) (with_kind_of stacks name b) ≡ without_block names stacks
block_undone names name stacks b = block_push names name (with_kind_of stacks name b) ∙ ap (without_block names) (forgotten stacks name b)

abbrev scope_at : Stacks → List (Vec Name Global) → Blocks
scope_at stacks blocks = kinds_of stacks ∷ outer_of (reverse blocks) stacks

outer_undone : (rest : List (Vec Name Global)) (block after : Vec Name Global) (name : Name) (stacks : Stacks) (b : Bool) → after.items ≡ block.items ++ name ∷ [] → outer_of (reverse (rest ++ after ∷ [])) (with_kind_of stacks name b) ≡ outer_of (reverse (rest ++ block ∷ [])) stacks
outer_undone rest block after name stacks b h =
    let e : without_block after.items (with_kind_of stacks name b) ≡ without_block block.items stacks =
    ap (λ (names : List Name). without_block names (with_kind_of stacks name b)) h ∙ block_undone block.items name stacks b in
    rw (reverse-append rest (after ∷ []), reverse-append rest (block ∷ [])) (ap (λ (s : Stacks). kinds_of s ∷ outer_of (reverse rest) s) e)

-- a declaration in the innermost block that is open
pub declared_in : (rest : List (Vec Name Global)) (block after : Vec Name Global) (name : Name) (stacks : Stacks) (b : Bool) → after.items ≡ block.items ++ name ∷ [] → kinds_of (with_kind_of stacks name b) ∷ outer_of (reverse (rest ++ after ∷ [])) (with_kind_of stacks name b) ≡ with_declared name b (kinds_of stacks ∷ outer_of (reverse (rest ++ block ∷ [])) stacks)
declared_in rest block after name stacks b h = ap (λ (k : Name → Bool). k ∷ outer_of (reverse (rest ++ after ∷ [])) (with_kind_of stacks name b)) (learnt stacks name b) ∙ ap (λ (o : Blocks). with_kind (kinds_of stacks) name b ∷ o) (outer_undone rest block after name stacks b h)

-- a declaration where no block is open
pub declared_out : (name : Name) (stacks : Stacks) (b : Bool) → kinds_of (with_kind_of stacks name b) ∷ [] ≡ with_declared name b (kinds_of stacks ∷ [])
declared_out name stacks b = ap (λ (k : Name → Bool). k ∷ []) (learnt stacks name b)

-- the end of a block
pub closed_block : (rest : List (Vec Name Global)) (block : Vec Name Global) (stacks : Stacks) → kinds_of (without_block block.items stacks) ∷ outer_of (reverse rest) (without_block block.items stacks) ≡ closed (kinds_of stacks ∷ outer_of (reverse (rest ++ block ∷ [])) stacks)
closed_block rest block stacks = rw (reverse-append rest (block ∷ [])) refl

-- the stack of a name in range
pub stack_get : (kinds : List (Vec Bool Global)) (i : ℕ) (d : Vec Bool Global) → i < length kinds → stack_at kinds i ≡ reverse (get_or kinds i d).items
stack_get [] i d l = let f : ⊥ = omega arith in absurd f
stack_get (k ∷ kinds) zero d l = refl
stack_get (k ∷ kinds) (suc i) d l = stack_get kinds i d (omega arith)

-- and out of range
pub stack_none : (kinds : List (Vec Bool Global)) (i : ℕ) → length kinds ≤ i → stack_at kinds i ≡ []
stack_none [] i l = refl
stack_none (k ∷ kinds) zero l = let f : ⊥ = omega arith in absurd f
stack_none (k ∷ kinds) (suc i) l = stack_none kinds i (omega arith)

stack_set : (kinds : List (Vec Bool Global)) (i : ℕ) (v : Vec Bool Global) → i < length kinds → stack_at (set kinds i v) i ≡ reverse v.items
stack_set [] i v l = let f : ⊥ = omega arith in absurd f
stack_set (k ∷ kinds) zero v l = refl
stack_set (k ∷ kinds) (suc i) v l = stack_set kinds i v (omega arith)

stack_other : (kinds : List (Vec Bool Global)) (i j : ℕ) (v : Vec Bool Global) → j ≢ i → stack_at (set kinds i v) j ≡ stack_at kinds j
stack_other [] i j v h = refl
stack_other (k ∷ kinds) zero zero v h = absurd (h refl)
stack_other (k ∷ kinds) zero (suc j) v h = refl
stack_other (k ∷ kinds) (suc i) zero v h = refl
stack_other (k ∷ kinds) (suc i) (suc j) v h = stack_other kinds i j v (λ (e : j ≡ i). h (ap suc e))

stack_grown : (kinds : List (Vec Bool Global)) (none : Vec Bool Global) (i : ℕ) → none.items ≡ [] → stack_at (kinds ++ none ∷ []) i ≡ stack_at kinds i
stack_grown [] none zero h = ap reverse h
stack_grown [] none (suc i) h = refl
stack_grown (k ∷ kinds) none zero h = refl
stack_grown (k ∷ kinds) none (suc i) h = stack_grown kinds none i h

-- an empty stack more
pub grown : (kinds : List (Vec Bool Global)) (none : Vec Bool Global) → none.items ≡ [] → stacks_of (kinds ++ none ∷ []) ≡ stacks_of kinds
grown kinds none h = fun_ext (λ (m : Name). stack_grown kinds none m.0 h)

changed_at : (kinds : List (Vec Bool Global)) (i j : ℕ) (w : Vec Bool Global) (f : List Bool → List Bool) (t : Bool) → i < length kinds → reverse w.items ≡ f (stack_at kinds i) → nat_eq j i ≡ t → stack_at (set kinds i w) j ≡ (if t then f (stack_at kinds j) else stack_at kinds j)
changed_at kinds i j w f true l h e = let same : i ≡ j = sym (eqb-true j i e) in subst (λ (k : ℕ). stack_at (set kinds i w) k ≡ f (stack_at kinds k)) same (stack_set kinds i w l ∙ h)
changed_at kinds i j w f false l h e = stack_other kinds i j w (λ (same : j ≡ i). true≢false (sym (eq-eqb j i same) ∙ e))

changed : (kinds : List (Vec Bool Global)) (name : Name) (w : Vec Bool Global) (f : List Bool → List Bool) → name.0 < length kinds → reverse w.items ≡ f (stack_at kinds name.0) → (m : Name) → stack_at (set kinds name.0 w) m.0 ≡ (if nat_eq m.0 name.0 then f (stack_at kinds m.0) else stack_at kinds m.0)
changed kinds name w f l h m = changed_at kinds name.0 m.0 w f (nat_eq m.0 name.0) l h refl

-- one kind more for one name
pub pushed_on : (kinds : List (Vec Bool Global)) (name : Name) (v w : Vec Bool Global) (b : Bool) → name.0 < length kinds → v ≡ get_or kinds name.0 v → w.items ≡ v.items ++ b ∷ [] → stacks_of (set kinds name.0 w) ≡ with_kind_of (stacks_of kinds) name b
pushed_on kinds name v w b l is h =
    let old : stack_at kinds name.0 ≡ reverse v.items = stack_get kinds name.0 v l ∙ ap (λ (u : Vec Bool Global). reverse u.items) (sym is) in
    let e : reverse w.items ≡ b ∷ stack_at kinds name.0 = ap reverse h ∙ reverse-append v.items (b ∷ []) ∙ ap (λ (bs : List Bool). b ∷ bs) (sym old) in
    fun_ext (changed kinds name w (λ (bs : List Bool). b ∷ bs) l e)

-- one kind less for one name
pub popped_off : (kinds : List (Vec Bool Global)) (name : Name) (v w : Vec Bool Global) → name.0 < length kinds → v ≡ get_or kinds name.0 v → reverse w.items ≡ tail_of (reverse v.items) → stacks_of (set kinds name.0 w) ≡ without_kind_of (stacks_of kinds) name
popped_off kinds name v w l is h =
    let old : stack_at kinds name.0 ≡ reverse v.items = stack_get kinds name.0 v l ∙ ap (λ (u : Vec Bool Global). reverse u.items) (sym is) in
    fun_ext (changed kinds name w tail_of l (h ∙ ap tail_of (sym old)))

no_kinds : (kinds : List (Vec Bool Global)) (name m : Name) (t : Bool) → length kinds ≤ name.0 → nat_eq m.0 name.0 ≡ t → stack_at kinds m.0 ≡ (if t then tail_of (stack_at kinds m.0) else stack_at kinds m.0)
no_kinds kinds name m true l e = let none : stack_at kinds m.0 ≡ [] = ap (stack_at kinds) (eqb-true m.0 name.0 e) ∙ stack_none kinds name.0 l in none ∙ sym (ap tail_of none)
no_kinds kinds name m false l e = refl

-- a name out of range has no kinds
pub forgets_nothing : (kinds : List (Vec Bool Global)) (name : Name) → length kinds ≤ name.0 → stacks_of kinds ≡ without_kind_of (stacks_of kinds) name
forgets_nothing kinds name l = fun_ext (λ (m : Name). no_kinds kinds name m (nat_eq m.0 name.0) l refl)

abbrev scope_with : List (Vec Bool Global) → List (Vec Name Global) → Blocks
scope_with kinds blocks = kinds_of (stacks_of kinds) ∷ outer_of (reverse blocks) (stacks_of kinds)

pub closed_scope : (old new : List (Vec Bool Global)) (blocks rest : List (Vec Name Global)) (block : Vec Name Global) → blocks ≡ rest ++ block ∷ [] → stacks_of new ≡ without_block block.items (stacks_of old) → scope_with new rest ≡ closed (scope_with old blocks)
closed_scope old new blocks rest block h k =
    ap (λ (s : Stacks). kinds_of s ∷ outer_of (reverse rest) s) k ∙ closed_block rest block (stacks_of old) ∙ ap (λ (bs : List (Vec Name Global)). closed (scope_with old bs)) (sym h)

pub declared_scope : (old new : List (Vec Bool Global)) (blocks rest after : List (Vec Name Global)) (block longer : Vec Name Global) (name : Name) (b : Bool) → blocks ≡ rest ++ block ∷ [] → after ≡ rest ++ longer ∷ [] → longer.items ≡ block.items ++ name ∷ [] → stacks_of new ≡ with_kind_of (stacks_of old) name b → scope_with new after ≡ with_declared name b (scope_with old blocks)
declared_scope old new blocks rest after block longer name b h i j k =
    ap (scope_with new) i ∙ ap (λ (s : Stacks). kinds_of s ∷ outer_of (reverse (rest ++ longer ∷ [])) s) k ∙ declared_in rest block longer name (stacks_of old) b j
    ∙ ap (λ (bs : List (Vec Name Global)). with_declared name b (scope_with old bs)) (sym h)

pub declared_outside : (old new : List (Vec Bool Global)) (blocks after : List (Vec Name Global)) (name : Name) (b : Bool) → blocks ≡ [] → after ≡ [] → stacks_of new ≡ with_kind_of (stacks_of old) name b → scope_with new after ≡ with_declared name b (scope_with old blocks)
declared_outside old new blocks after name b h i k =
    ap (scope_with new) i ∙ ap (λ (s : Stacks). kinds_of s ∷ []) k ∙ declared_out name (stacks_of old) b ∙ ap (λ (bs : List (Vec Name Global)). with_declared name b (scope_with old bs)) (sym h)

head_joined : (d : Bool) (xs ys : List Bool) → head_or d (xs ++ ys) ≡ head_or (head_or d ys) xs
head_joined d [] ys = refl
head_joined d (x ∷ xs) ys = refl

head_reversed : (d b : Bool) (bs : List Bool) → head_or d (reverse (b ∷ bs)) ≡ head_or b (reverse bs)
head_reversed d b bs = ap (head_or d) (reverse-append (b ∷ []) bs) ∙ head_joined d (reverse bs) (b ∷ [])

last_at : (b d : Bool) (bs : List Bool) → get_or (b ∷ bs) (length bs) d ≡ head_or b (reverse bs)
last_at b d [] = refl
last_at b d (c ∷ bs) = last_at c d bs ∙ sym (head_reversed b c bs)

-- the last of the kinds is the nearest
pub nearest_at : (bs : List Bool) → get_or bs (length bs - 1) false ≡ head_or false (reverse bs)
nearest_at [] = refl
nearest_at (b ∷ bs) =
    let e : length (b ∷ bs) - 1 ≡ length bs = omega arith in
    ap (λ (i : ℕ). get_or (b ∷ bs) i false) e ∙ last_at b false bs ∙ sym (head_reversed false b bs)

no_items : (bs : List Bool) → length bs ≡ 0 → bs ≡ []
no_items [] h = refl
no_items (b ∷ bs) h = let f : ⊥ = omega arith in absurd f

-- without the last of the kinds
pub left : (v w : Vec Bool Global) (r : Option Bool) → v.items ≡ w.items ++ option_to_list r → MatchOption r ((vec_len v ≡ 0) × (vec_len w ≡ 0)) (λ x. vec_len w + 1 ≡ vec_len v) → reverse w.items ≡ tail_of (reverse v.items)
left v w (Some b) h k = sym (ap tail_of (ap reverse h ∙ reverse-append w.items (b ∷ [])))
left v w None h k =
    let n : length w.items ≡ 0 = omega (arith, k.1, w.ok) in
    let e : w.items ≡ [] = no_items w.items n in
    ap reverse e ∙ sym (ap (λ (bs : List Bool). tail_of (reverse bs)) (h ∙ ap (λ (bs : List Bool). bs ++ []) e))

-- what is not below the length is beyond the end
pub beyond : (i n : ℕ) → (i < n → false ≡ true) → n ≤ i
beyond i n h = elim (cases_lt i n) [ inl l ↦ absurd (true≢false (sym (h l))) | inr l ↦ l ]

no_blocks : (bs : List (Vec Name Global)) → length bs ≡ 0 → bs ≡ []
no_blocks [] h = refl
no_blocks (b ∷ bs) h = let f : ⊥ = omega arith in absurd f

-- a stack of blocks of no length
pub empty : (v : Vec (Vec Name Global) Global) → vec_len v ≡ 0 → v.items ≡ []
empty v h = no_blocks v.items (omega (arith, h, v.ok))
