-- Pieces of a replacement.
use Rattle.std.proofs.Common.{◌≡◌, ℕ, List, [], ◌∷◌, ◌++◌, refl, sym, ap, ◌∙◌, append_assoc, Option, Some, None, option_map, Bool, true, false, Bor}
use Rattle.std.specs.Prelude.{if◌then◌else◌, ◌||◌}
use Rattle.c65_base.specs.declared.names.Name.{Name}
use Rattle.c65_base.specs.declared.refusal.Pos.{Pos}
use Rattle.c65_lex.specs.declared.token.PpToken.{PpToken}
use Rattle.c65_macro.specs.declared.sets.Node.{Node}
use Rattle.c65_macro.specs.declared.marked.Marked.{Marked}
use Rattle.c65_macro.specs.declared.fill.Used.{Used}
use Rattle.c65_macro.specs.Sets.{Set, either, set_of}
use Rattle.c65_macro.specs.Items.{Item, Outcome, done, ◌>>=◌, hide_all}
use Rattle.c65_macro.specs.Fill.{join, glue, operand, plain, literal, string_of, argument_of, stands, begins_paste}
use Rattle.c65_macro.specs.Views.{item_of, items_of, tokens_of, use_of}
use Rattle.c65_macro.proofs.Seen.{bind_assoc, seen_argument, tokens_items, items_push, items_append}

pub join_none : (names : List (List ℕ)) (place : Pos) (xs : List Item) → join names place xs [] ≡ done names xs
join_none names place [] = refl
join_none names place (x ∷ []) = refl
join_none names place (x ∷ z ∷ xs) = ap (λ (o : Outcome (List Item)). o >>= λ names zs. done names (x ∷ zs)) (join_none names place (z ∷ xs))

pub join_last : (names : List (List ℕ)) (place : Pos) (xs : List Item) (x y : Item) (ys : List Item) → join names place (xs ++ x ∷ []) (y ∷ ys) ≡ (glue names place x y >>= λ names z. done names (xs ++ z ∷ ys))
join_last names place [] x y ys = refl
join_last names place (w ∷ []) x y ys = bind_assoc (glue names place x y) (λ names z. done names (z ∷ ys)) (λ names zs. done names (w ∷ zs))
join_last names place (w ∷ v ∷ xs) x y ys =
    ap (λ (o : Outcome (List Item)). o >>= λ names zs. done names (w ∷ zs)) (join_last names place (v ∷ xs) x y ys)
    ∙ bind_assoc (glue names place x y) (λ names z. done names ((v ∷ xs) ++ z ∷ ys)) (λ names zs. done names (w ∷ zs))

-- an operand behind a #
string_seen : (nodes : List Node) (names : List (List ℕ)) (place : Pos) (space : Bool) (ms : List Marked) → string_of names place space (Some (items_of nodes ms)) ≡ (literal names place space (tokens_of ms) >>= λ names i. done names (i ∷ []))
string_seen nodes names place space ms = ap (λ ts. literal names place space ts >>= λ names i. done names (i ∷ [])) (tokens_items nodes ms)

pub operand_some : (nodes : List Node) (ps : Option (List Name)) (used : Used) (names : List (List ℕ)) (glued : Bool) (hash : Option Bool) (space : Bool) (t : PpToken) (ts : List PpToken) (a : Bor (List Marked))
    → hash ≡ Some space → Some a.now ≡ argument_of ps used.raw.items t
    → operand (use_of nodes ps used) names glued hash t ts ≡ (literal names used.place space (tokens_of a.now) >>= λ names i. done names (i ∷ []))
operand_some nodes ps used names glued hash space t ts a h e =
    ap (λ o. operand (use_of nodes ps used) names glued o t ts) h
    ∙ ap (λ o. string_of names used.place space o) (seen_argument nodes ps used.raw.items t (Some a) e)
    ∙ string_seen nodes names used.place space a.now

pub operand_none : (nodes : List Node) (ps : Option (List Name)) (used : Used) (names : List (List ℕ)) (glued : Bool) (hash : Option Bool) (space : Bool) (t : PpToken) (ts : List PpToken)
    → hash ≡ Some space → None ≡ argument_of ps used.raw.items t → operand (use_of nodes ps used) names glued hash t ts ≡ done names []
operand_none nodes ps used names glued hash space t ts h e =
    ap (λ o. operand (use_of nodes ps used) names glued o t ts) h
    ∙ ap (λ o. string_of names used.place space o) (seen_argument nodes ps used.raw.items t None e)

pub operand_plain : (nodes : List Node) (ps : Option (List Name)) (used : Used) (names : List (List ℕ)) (glued : Bool) (hash : Option Bool) (t : PpToken) (ts : List PpToken)
    → hash ≡ None → operand (use_of nodes ps used) names glued hash t ts ≡ done names (plain (use_of nodes ps used) glued t ts)
operand_plain nodes ps used names glued hash t ts h = ap (λ o. operand (use_of nodes ps used) names glued o t ts) h

-- what stands for a token, as it is written or fully replaced
pub plain_raw : (nodes : List Node) (ps : Option (List Name)) (used : Used) (glued : Bool) (t : PpToken) (ts : List PpToken) (r : Option (Bor (List Marked))) (b : Bool)
    → option_map (λ (a : Bor (List Marked)). a.now) r ≡ argument_of ps used.raw.items t → b ≡ (glued || begins_paste used.words ts) → b ≡ true
    → stands used.place t (option_map (λ (a : Bor (List Marked)). items_of nodes a.now) r) ≡ plain (use_of nodes ps used) glued t ts
plain_raw nodes ps used glued t ts r b e h k =
    let u = use_of nodes ps used in
    ap (λ o. stands used.place t o) (sym (seen_argument nodes ps used.raw.items t r e))
    ∙ ap (λ (b : Bool). if b then stands used.place t (argument_of ps u.raw t) else stands used.place t (argument_of ps u.full t)) (sym k ∙ h)

pub plain_full : (nodes : List Node) (ps : Option (List Name)) (used : Used) (glued : Bool) (t : PpToken) (ts : List PpToken) (r : Option (Bor (List Marked))) (b : Bool)
    → option_map (λ (a : Bor (List Marked)). a.now) r ≡ argument_of ps used.full.items t → b ≡ (glued || begins_paste used.words ts) → b ≡ false
    → stands used.place t (option_map (λ (a : Bor (List Marked)). items_of nodes a.now) r) ≡ plain (use_of nodes ps used) glued t ts
plain_full nodes ps used glued t ts r b e h k =
    let u = use_of nodes ps used in
    ap (λ o. stands used.place t o) (sym (seen_argument nodes ps used.full.items t r e))
    ∙ ap (λ (b : Bool). if b then stands used.place t (argument_of ps u.raw t) else stands used.place t (argument_of ps u.full t)) (sym k ∙ h)

-- one token more is hidden
pub hidden_push : (nodes : List Node) (hide : Set) (out rest : List Marked) (m : Marked) (k : ℕ) → set_of nodes k ≡ either hide (set_of nodes m.hide.0)
    → items_of nodes (out ++ record { token = m.token; hide = record { 0 = k }; put = true } ∷ []) ++ hide_all hide (items_of nodes rest) ≡ items_of nodes out ++ hide_all hide (items_of nodes (m ∷ rest))
hidden_push nodes hide out rest m k e =
    let x : Marked = record { token = m.token; hide = record { 0 = k }; put = true } in
    ap (λ l. l ++ hide_all hide (items_of nodes rest)) (items_push nodes out x)
    ∙ append_assoc (items_of nodes out) (item_of nodes x ∷ []) (hide_all hide (items_of nodes rest))
    ∙ ap (λ (s : Set). items_of nodes out ++ record { token = m.token; hide = s; put = true } ∷ hide_all hide (items_of nodes rest)) e

-- joined lists as they are seen
pub join_seen : (nodes : List Node) (names : List (List ℕ)) (place : Pos) (left front right more : List Marked) (last first : Marked) → left ≡ front ++ last ∷ [] → right ≡ first ∷ more
    → join names place (items_of nodes left) (items_of nodes right) ≡ (glue names place (item_of nodes last) (item_of nodes first) >>= λ names z. done names (items_of nodes front ++ z ∷ items_of nodes more))
join_seen nodes names place left front right more last first e f =
    ap (λ l. join names place (items_of nodes l) (items_of nodes right)) e
    ∙ ap (λ l. join names place (items_of nodes (front ++ last ∷ [])) (items_of nodes l)) f
    ∙ ap (λ l. join names place l (items_of nodes (first ∷ more))) (items_push nodes front last)
    ∙ join_last names place (items_of nodes front) (item_of nodes last) (item_of nodes first) (items_of nodes more)

pub items_mid : (nodes : List Node) (front more all : List Marked) (z : Marked) → all ≡ (front ++ z ∷ []) ++ more → items_of nodes front ++ item_of nodes z ∷ items_of nodes more ≡ items_of nodes all
items_mid nodes front more all z e =
    sym (ap (λ l. items_of nodes l) e ∙ items_append nodes (front ++ z ∷ []) more ∙ ap (λ l. l ++ items_of nodes more) (items_push nodes front z) ∙ append_assoc (items_of nodes front) (item_of nodes z ∷ []) (items_of nodes more))
