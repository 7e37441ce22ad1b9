-- With which tokens no tree goes on, however deep.
use Rattle.std.proofs.Common.{◌≡◌, ℕ, ◌≤◌, max, List, [], ◌∷◌, ◌++◌, length, length-append, sym, ap, ◌∙◌, append_assoc, arith, inl, inr}
use Rattle.std.specs.Prelude.{◌⊎◌, Result, Ok, Err}
use Rattle.c65_base.specs.Answers.{Fault, at, large}
use Rattle.c65_base.specs.declared.code.Code.{Code}
use Rattle.c65_base.specs.declared.refusal.Pos.{Pos}
use Rattle.c65_base.specs.declared.refusal.Size.{Size}
use Rattle.c65_base.specs.declared.refusal.Size.TheVariants.{Depth}
use Rattle.c65_scan.specs.declared.token.Token.{Token}
use Rattle.c65_parse_names.specs.Scopes.{Blocks}
use Rattle.c65_parse.specs.Reading.{Answer}
use Rattle.c65_parse_grammar.specs.Phrases.{Phrase}
use Rattle.c65_parse_grammar.specs.Readings.{Never, code_of}
use Rattle.c65_parse_law_depth.specs.Grows.{Growing}
use Rattle.c65_parse_law_faults.specs.Faults.{IsFaultOf}
use Rattle.c65_parse_law_least.proofs.Whole.{none}

-- a greater limit changes faults of depth alone, whatever is read
abbrev pub GrowsAlways : {A : Type 0} → (ℕ → List Token → Result A Fault) → Type 0
GrowsAlways read = (tokens : List Token) → Growing (λ limit. read limit tokens)

-- every tree has some tokens behind it with which something is read within its depth
abbrev pub Reads : {A Tree : Type 0} → (ℕ → List Token → Result A Fault) → (Tree → Phrase) → (Tree → ℕ) → Type 0
Reads {A} {Tree} read phrase depth = (limit : ℕ) (ts : List Token) (tree : Tree) → phrase tree ts → depth tree ≤ limit → (behind : List Token) × (a : A) × (read limit (ts ++ behind) ≡ Ok a)

err_or : {B : Type 0} → Fault → Result B Fault → Fault
err_or d (Ok b) = d
err_or d (Err e) = e

grown : {A : Type 0} (r s : Result A Fault) (fault : Fault) → (fault ≡ large Depth 257 → ⊥) → r ≡ Err fault → (r ≡ Err (large Depth 257)) ⊎ (r ≡ s) → s ≡ Err fault
unfolding err_or
grown r s fault other e (inl deep) = absurd (other (ap (err_or fault) (sym e ∙ deep)))
grown r s fault other e (inr same) = sym same ∙ e

-- where the fault is not that of depth, no tree goes on with its token
pub never : (limit : ℕ) {A Tree : Type 0} (read : ℕ → List Token → Result A Fault) (phrase : Tree → Phrase) (depth : Tree → ℕ) (fault : Fault) (before : List Token) (next : Token) → (fault ≡ large Depth 257 → ⊥) → ((more : List Token) → read limit (before ++ next ∷ more) ≡ Err fault) → GrowsAlways read → Reads read phrase depth → Never phrase depth (before ++ next ∷ [])
never limit read phrase depth fault before next other again grows reads n k =
    none (max limit n) (read (max limit n)) phrase depth fault before next
    (λ more. grown (read limit (before ++ next ∷ more)) (read (max limit n) (before ++ next ∷ more)) fault other (again more) (grows (before ++ next ∷ more) limit (max limit n) (omega arith)))
    (reads (max limit n)) (record { tree = k.tree; more = k.more; derives = k.derives; within = let w = k.within in omega (arith, w) })

-- every tree is read before some tokens that are left
abbrev pub Leaves : {Tree : Type 0} → (ℕ → List Token → Answer Tree) → (Tree → Phrase) → (Tree → ℕ) → Type 0
Leaves {Tree} read phrase depth = (limit : ℕ) (ts : List Token) (tree : Tree) → phrase tree ts → depth tree ≤ limit → (behind : List Token) × (scope : Blocks) × (read limit (ts ++ behind) ≡ Ok (tree, behind, scope))

left_or : {A : Type 0} → List Token → Answer A → List Token
left_or d (Ok a) = a.1
left_or d (Err e) = d

too_many : (next : Token) (more behind : List Token) → next ∷ (more ++ behind) ≡ behind → ⊥
too_many next more behind e = let long = length-append more behind in let same = ap length e in omega (arith, long, same)

still_read : {A : Type 0} (r s : Answer A) (a b : A) (rest left : List Token) (scope behind : Blocks) → r ≡ Ok (a, rest, scope) → s ≡ Ok (b, left, behind) → (r ≡ Err (large Depth 257)) ⊎ (r ≡ s) → rest ≡ left
unfolding left_or
still_read r s a b rest left scope behind e f (inl deep) = absurd (let both = sym e ∙ deep in cc)
still_read r s a b rest left scope behind e f (inr same) = ap (left_or rest) (sym e ∙ (same ∙ f))

-- behind a tree that was read no tree goes on with the next token
pub never_more : (limit : ℕ) {Tree : Type 0} (read : ℕ → List Token → Answer Tree) (phrase : Tree → Phrase) (depth : Tree → ℕ) (tree : Tree) (scope : Blocks) (before : List Token) (next : Token) → ((more : List Token) → read limit (before ++ next ∷ more) ≡ Ok (tree, next ∷ more, scope)) → GrowsAlways read → Leaves read phrase depth → Never phrase depth (before ++ next ∷ [])
never_more limit read phrase depth tree scope before next again grows leaves n k =
    let all = (before ++ next ∷ []) ++ k.more in
    let it = leaves (max limit n) all k.tree k.derives (let w = k.within in omega (arith, w)) in
    let same : all ++ it.0 ≡ before ++ next ∷ (k.more ++ it.0) = append_assoc (before ++ next ∷ []) k.more it.0 ∙ append_assoc before (next ∷ []) (k.more ++ it.0) in
    too_many next k.more it.0
    (still_read (read limit (before ++ next ∷ (k.more ++ it.0))) (read (max limit n) (before ++ next ∷ (k.more ++ it.0))) tree k.tree (next ∷ (k.more ++ it.0)) it.0 scope it.1 (again (k.more ++ it.0)) (ap (read (max limit n)) (sym same) ∙ it.2) (grows (before ++ next ∷ (k.more ++ it.0)) limit (max limit n) (omega arith)))

pub no_depth : (code : Code) (pos : Pos) → at code pos ≡ large Depth 257 → ⊥
no_depth code pos e = cc

code_at : Code → Fault → Code
code_at d (at code pos) = code
code_at d (large size value) = d

pos_at : Pos → Fault → Pos
pos_at d (at code pos) = pos
pos_at d (large size value) = d

size_at : Size → Fault → Size
size_at d (at code pos) = d
size_at d (large size value) = size

value_at : ℕ → Fault → ℕ
value_at d (at code pos) = d
value_at d (large size value) = value

-- the token of a fault
pub code_is : (next : Token) (code : Code) (pos : Pos) → IsFaultOf next (at code pos) → (code ≡ code_of next.kind) × (pos ≡ next.pos)
unfolding code_at pos_at
code_is next code pos (inl e) = (ap (code_at code) e, ap (pos_at pos) e)
code_is next code pos (inr e) = absurd (no_depth code pos e)

pub depth_is : (next : Token) (size : Size) (value : ℕ) → IsFaultOf next (large size value) → large size value ≡ large Depth 257
depth_is next size value (inl e) = absurd cc
depth_is next size value (inr e) = e

pub size_is : (size : Size) (value : ℕ) → large size value ≡ large Depth 257 → (size ≡ Depth) × (value ≡ 257)
unfolding size_at value_at
size_is size value e = (ap (size_at size) e, ap (value_at value) e)
