-- Replacements and uses as steps of an expansion.
use Rattle.std.proofs.Common.{◌≡◌, ◌≢◌, ℕ, suc, ◌+◌, List, [], ◌∷◌, ◌++◌, length, map, refl, sym, ap, ◌∙◌, subst, arith, Bool, true, false, Option, Some, None, option_map, Result, Err, Bor}
use Rattle.std.specs.Prelude.{if◌then◌else◌, is_some, not, slice_get}
use Rattle.std.specs.Slice.{IsItemAt}
use Rattle.std.proofs.lemmas.Option.{slice_get-map, slice_get-get_or, slice_get_past}
use Rattle.std.proofs.lemmas.List.{append-nil, map-append}
use Rattle.c65_base.specs.declared.names.Name.{Name}
use Rattle.c65_base.specs.declared.refusal.Pos.{Pos}
use Rattle.c65_base.specs.declared.refusal.Refusal.{Refusal}
use Rattle.c65_base.specs.declared.refusal.Refusal.TheVariants as refusals
use Rattle.c65_base.specs.declared.code.Code.TheVariants as codes
use Rattle.c65_base.specs.Answers.{at}
use Rattle.c65_lex.specs.declared.token.PpToken.{PpToken}
use Rattle.c65_macro.specs.declared.item.Macro.{Macro}
use Rattle.c65_macro.specs.declared.item.Words.{Words}
use Rattle.c65_macro.specs.declared.sets.Node.{Node}
use Rattle.c65_macro.specs.declared.marked.Marked.{Marked}
use Rattle.c65_macro.specs.declared.gather.Gathered.{Gathered}
use Rattle.c65_macro.specs.declared.state.Level.{Level}
use Rattle.c65_macro.specs.declared.state.Pending.{Pending}
use Rattle.c65_macro.specs.Sets.{Set}
use Rattle.c65_macro.specs.Table.{Table, lookup, is_name_kind}
use Rattle.c65_macro.specs.Items.{Item, Outcome, faulty, done, ◌>>=◌, put_count}
use Rattle.c65_macro.specs.Fill.{replacement}
use Rattle.c65_macro.specs.Uses.{Gathering, no_use, unclosed, above, closed, behind, gather, use_at, is_fit}
use Rattle.c65_macro.specs.Expand.{Expander, put_before, wanted, finish, replace_use, macro_of}
use Rattle.c65_macro.specs.Answered.{Stops}
use Rattle.c65_macro.specs.Views.{item_of, items_of, lists_of}
use Rattle.c65_macro.specs.Machine.{Stage, Frame, Later, Steps, StopsGathering, use_with, use_left, with_argument, outcome, outcome_by, frames_of, frame_of, stage_of, rest_in, tail_of, gather_in}
use Rattle.c65_macro.proofs.Seen.{stops_bind, fit_map, reverse_push}
use Rattle.c65_macro.proofs.Tails.{behind_more, gather_new}
use Rattle.c65_macro.proofs.Stepping.{steps_front, steps_stop, next_argument, all_params, all_arguments}

-- a replacement that is put before the rest
pub replaced : {X : Type 0} (table : Table) (out : List Item) (fs : List Frame) (names : List (List ℕ)) (outside room : ℕ) (is new : List Item) (y : Outcome (List Item)) (r : Result X Refusal) (s : Stage) (gs : List Frame) → y ≡ done names new
    → Steps table out fs (λ go. put_before go names outside room new is) r names s gs → Steps table out fs (λ go. y >>= λ names new. put_before go names outside room new is) r names s gs
replaced table out fs names outside room is new y r s gs h k =
    steps_front table out fs (λ go. y >>= λ names new. put_before go names outside room new is) (λ go. put_before go names outside room new is) r names s gs (λ go. ap (λ z. z >>= λ names new. put_before go names outside room new is) h) k

pub replaced_stop : (X : Type 0) (table : Table) (out : List Item) (fs : List Frame) (names : List (List ℕ)) (outside room : ℕ) (is : List Item) (y : Outcome (List Item)) (e : Refusal) (s : Stage) (gs : List Frame) → Stops e y
    → Steps {X = X} table out fs (λ go. y >>= λ names new. put_before go names outside room new is) (Err e) names s gs
replaced_stop X table out fs names outside room is y e s gs h = steps_stop X table out fs (λ go. y >>= λ names new. put_before go names outside room new is) e names s gs (λ go. stops_bind e y (λ names new. put_before go names outside room new is) h)

-- equal parts make equal replacements
pub replacement_parts : (w v : Words) (p q : Option (List Name)) (r s f g : List (List Item)) (place : Pos) (names : List (List ℕ)) (h k : Set) (space : Bool) (body text : List PpToken) → w ≡ v → p ≡ q → r ≡ s → f ≡ g → h ≡ k → body ≡ text
    → replacement (record { words = w; params = p; raw = r; full = f; place = place }) names h space body ≡ replacement (record { words = v; params = q; raw = s; full = g; place = place }) names k space text
replacement_parts w v p q r s f g place names h k space body text a b c d e t =
    ap (λ w. replacement (record { words = w; params = p; raw = r; full = f; place = place }) names h space body) a
    ∙ ap (λ p. replacement (record { words = v; params = p; raw = r; full = f; place = place }) names h space body) b
    ∙ ap (λ r. replacement (record { words = v; params = q; raw = r; full = f; place = place }) names h space body) c
    ∙ ap (λ f. replacement (record { words = v; params = q; raw = s; full = f; place = place }) names h space body) d
    ∙ ap (λ h. replacement (record { words = v; params = q; raw = s; full = g; place = place }) names h space body) e
    ∙ ap (λ b. replacement (record { words = v; params = q; raw = s; full = g; place = place }) names k space b) t

-- whether a use stands there
use_by : Words → ℕ → Option (List Item) → Gathering
use_by w outside o = elim o [ None ↦ no_use | Some rest ↦ gather w outside false 0 [] [] 0 rest ]

pub use_none : (w : Words) (outside : ℕ) (is : List Item) → is_some (behind w is) ≡ false → use_at w outside is ≡ no_use
unfolding use_by
use_none w outside is h = ap (λ o. use_by w outside o) (by (behind w is) h)
  where
    by : (o : Option (List Item)) → is_some o ≡ false → o ≡ None
    by None h = refl
    by (Some x) h = absurd cc

pub use_some : (w v : Words) (outside : ℕ) (is new : List Item) → w ≡ v → is_some (behind v is) ≡ true → ((rest : List Item) → behind v is ≡ Some rest → new ≡ rest) → use_at w outside is ≡ gather v outside false 0 [] [] 0 new
unfolding use_by
use_some w v outside is new e h k = ap (λ (w : Words). use_at w outside is) e ∙ by (behind v is) refl h
  where
    by : (o : Option (List Item)) → behind v is ≡ o → is_some o ≡ true → use_by v outside (behind v is) ≡ gather v outside false 0 [] [] 0 new
    by None e h = absurd cc
    by (Some rest) e h = ap (λ o. use_by v outside o) e ∙ ap (λ l. gather v outside false 0 [] [] 0 l) (sym (k rest e))

-- a use that is refused
pub use_stop : (table : Table) (go : Expander) (names : List (List ℕ)) (outside room : ℕ) (i : Item) (is : List Item) (m : Macro) (ps : List Name) (g : Gathering) (e : Refusal) → StopsGathering e g → Stops e (replace_use table go names outside room i is m ps g)
use_stop table go names outside room i is m ps g refusals.OutOfMemory k = tt
use_stop table go names outside room i is m ps g (refusals.TooLarge limit value) k = ap (λ g. replace_use table go names outside room i is m ps g) k
use_stop table go names outside room i is m ps g _ k = absurd k

-- the tokens behind its name are not looked at any more
pub use_behind : (table : Table) (go : Expander) (names : List (List ℕ)) (outside room : ℕ) (i : Item) (is js : List Item) (m : Macro) (ps : List Name) (g : Gathering) → g ≢ no_use → replace_use table go names outside room i is m ps g ≡ replace_use table go names outside room i js m ps g
use_behind table go names outside room i is js m ps no_use h = absurd (h refl)
use_behind table go names outside room i is js m ps unclosed h = refl
use_behind table go names outside room i is js m ps (above f) h = refl
use_behind table go names outside room i is js m ps (closed args size close rest) h = refl

pub use_unfit : (nodes : List Node) (table : Table) (go : Expander) (names : List (List ℕ)) (outside room : ℕ) (i : Item) (is : List Item) (m : Macro) (ps : List Name) (g : Gathering) (args : List (List Marked)) (size : ℕ) (close : Item) (rest : List Item)
    → g ≡ closed (lists_of nodes args) size close rest → is_fit ps args ≡ false → replace_use table go names outside room i is m ps g ≡ faulty (at codes.MacroArguments i.token.pos)
use_unfit nodes table go names outside room i is m ps g args size close rest h k =
    let f : is_fit ps (lists_of nodes args) ≡ false = fit_map (item_of nodes) ps args ∙ k in
    ap (λ g. replace_use table go names outside room i is m ps g) h ∙ by _ _ (is_fit ps (lists_of nodes args)) f
  where
    by : {A : Type 0} (x y : A) (b : Bool) → b ≡ false → (if not b then x else y) ≡ x
    by x y true e = absurd cc
    by x y false e = refl

pub use_fits : (nodes : List Node) (table : Table) (go : Expander) (names : List (List ℕ)) (outside room : ℕ) (i : Item) (is : List Item) (m : Macro) (ps : List Name) (g : Gathering) (args : List (List Marked)) (size : ℕ) (close : Item) (rest : List Item) (inside : ℕ) (out : List Item) (full : List (List Item))
    → g ≡ closed (lists_of nodes args) size close rest → is_fit ps args ≡ true → inside ≡ outside + size + put_count rest → full ≡ []
    → replace_use table go names outside room i is m ps g ≡ use_with table go names (record { stage = record { rest = rest; out = out; room = room; outside = outside }; name = i; close = close; raw = lists_of nodes args; full = full; inside = inside }) m (Some ps)
use_fits nodes table go names outside room i is m ps g args size close rest inside out full h k n l =
    let f : is_fit ps (lists_of nodes args) ≡ true = fit_map (item_of nodes) ps args ∙ k in
    let e : outside + size + put_count rest ≡ inside = sym n in
    ap (λ g. replace_use table go names outside room i is m ps g) h
    ∙ by _ _ (is_fit ps (lists_of nodes args)) f
    ∙ ap (λ (o : ℕ). use_with table go names (record { stage = record { rest = rest; out = out; room = room; outside = outside }; name = i; close = close; raw = lists_of nodes args; full = []; inside = o }) m (Some ps)) e
    ∙ ap (λ z. use_with table go names (record { stage = record { rest = rest; out = out; room = room; outside = outside }; name = i; close = close; raw = lists_of nodes args; full = z; inside = inside }) m (Some ps)) (sym l)
  where
    by : {A : Type 0} (x y : A) (b : Bool) → b ≡ true → (if not b then x else y) ≡ y
    by x y true e = refl
    by x y false e = absurd cc

-- one more argument is done
pub left_with : (table : Table) (go : Expander) (names : List (List ℕ)) (f g : Frame) (o : Option Macro) (m : Macro) (ps : List Name) → o ≡ Some m → m.params ≡ Some ps → f ≡ g → use_left table go names f o ≡ use_with table go names g m (Some ps)
left_with table go names f g o m ps h k e =
    ap (λ o. use_left table go names f o) h ∙ ap (λ p. use_with table go names f m p) k ∙ ap (λ (f : Frame). use_with table go names f m (Some ps)) e

pub argument_done : (nodes : List Node) (full : List (List Marked)) (out : List Marked) (stage : Stage) (name close : Item) (raw : List (List Item)) (inside : ℕ)
    → with_argument (record { stage = stage; name = name; close = close; raw = raw; full = lists_of nodes full; inside = inside }) (items_of nodes out) ≡ record { stage = stage; name = name; close = close; raw = raw; full = lists_of nodes (full ++ out ∷ []); inside = inside }
argument_done nodes full out stage name close raw inside = ap (λ l. record { stage = stage; name = name; close = close; raw = raw; full = l; inside = inside }) (sym (map-append (items_of nodes) full (out ∷ [])))

-- a use is put on the stack, or taken from it
pub frames_push : (nodes : List Node) (more : List PpToken) (ps : List Pending) (p : Pending) → frames_of nodes more (ps ++ p ∷ []) ≡ frame_of nodes more p ∷ frames_of nodes more ps
frames_push nodes more ps p = ap (λ l. map (frame_of nodes more) l) (reverse_push ps p)

-- the macro of a token is that of its name
pub macro_lookup : (table : Table) (t : PpToken) (m : Macro) → macro_of table t ≡ Some m → lookup table t.spelling ≡ Some m
macro_lookup table t m h = by (is_name_kind t.kind) h
  where
    by : (b : Bool) → (if b then lookup table t.spelling else None) ≡ Some m → lookup table t.spelling ≡ Some m
    by true h = h
    by false h = absurd cc

pub if_true : {A : Type 0} (b : Bool) (x y : A) → b ≡ true → (if b then x else y) ≡ x
if_true true x y h = refl
if_true false x y h = absurd cc

pub if_false : {A : Type 0} (b : Bool) (x y : A) → b ≡ false → (if b then x else y) ≡ y
if_false true x y h = absurd cc
if_false false x y h = refl

length_seen : (nodes : List Node) (full : List (List Marked)) → length (lists_of nodes full) ≡ length full
length_seen nodes [] = refl
length_seen nodes (a ∷ full) = ap suc (length_seen nodes full)

pub get_at : {A : Type 0} (xs : List A) (n k : ℕ) (o : Option A) → n ≡ k → slice_get xs n ≡ o → slice_get xs k ≡ o
get_at xs n k o e h = ap (λ (j : ℕ). slice_get xs j) (sym e) ∙ h

get_seen : (nodes : List Node) (raw : List (List Marked)) (k : ℕ) (a : List Marked) → slice_get raw k ≡ Some a → slice_get (lists_of nodes raw) k ≡ Some (items_of nodes a)
get_seen nodes raw k a h = slice_get-map (items_of nodes) raw k ∙ ap (λ o. option_map (items_of nodes) o) h

get_none : (nodes : List Node) (raw : List (List Marked)) (k : ℕ) → slice_get raw k ≡ None → slice_get (lists_of nodes raw) k ≡ None
get_none nodes raw k h = slice_get-map (items_of nodes) raw k ∙ ap (λ o. option_map (items_of nodes) o) h

-- the next argument of a use begins
pub next_steps : (nodes : List Node) (more : List PpToken) (table : Table) (names : List (List ℕ)) (p : Pending) (stack new : List Pending) (m : Macro) (params : List Name) (param : Name) (argument list : List Marked) (level : Level)
    → slice_get params (length p.full.items) ≡ Some param → slice_get p.raw.items (length p.full.items) ≡ Some argument → lookup table p.name.token.spelling ≡ Some m → m.params ≡ Some params
    → level.rest ≡ list → items_of nodes list ≡ wanted table m.body param (items_of nodes argument) → level.out.items ≡ [] → level.room ≡ 500000 → level.outside ≡ p.inside → level.is_open ≡ false → new ≡ stack ++ p ∷ []
    → (n : ℕ) → Later (outcome table n names (stage_of nodes more level) (frames_of nodes more new)) (outcome_by table n (items_of nodes p.level.out.items) (frames_of nodes more stack) (λ go. use_with table go names (frame_of nodes more p) m (Some params)))
next_steps nodes more table names p stack new m params param argument list level hp ha hm hs rest wants out room outside ends stacked n =
    let u = frame_of nodes more p in
    let k : length p.full.items ≡ length u.full = sym (length_seen nodes p.full.items) in
    let left : rest_in nodes more level ≡ wanted table m.body param (items_of nodes argument) =
    ap (λ (b : Bool). items_of nodes level.rest ++ tail_of more b) ends ∙ append-nil (items_of nodes level.rest) ∙ ap (λ l. items_of nodes l) rest ∙ wants in
    let stage : stage_of nodes more level ≡ record { rest = wanted table m.body param (items_of nodes argument); out = []; room = 500000; outside = u.inside } =
    ap (λ l. record { rest = l; out = items_of nodes level.out.items; room = level.room; outside = level.outside }) left
    ∙ ap (λ l. record { rest = wanted table m.body param (items_of nodes argument); out = items_of nodes l; room = level.room; outside = level.outside }) out
    ∙ ap (λ (r : ℕ). record { rest = wanted table m.body param (items_of nodes argument); out = []; room = r; outside = level.outside }) room
    ∙ ap (λ (o : ℕ). record { rest = wanted table m.body param (items_of nodes argument); out = []; room = 500000; outside = o }) outside in
    let fs : frames_of nodes more new ≡ u ∷ frames_of nodes more stack = ap (λ l. frames_of nodes more l) stacked ∙ frames_push nodes more stack p in
    let y = outcome_by table n u.stage.out (frames_of nodes more stack) (λ go. use_with table go names u m (Some params)) in
    let P : Stage → Type 0 = λ s. Later (outcome table n names s (u ∷ frames_of nodes more stack)) y in
    let Q : List Frame → Type 0 = λ l. Later (outcome table n names (stage_of nodes more level) l) y in
    subst Q (sym fs) (subst P (sym stage)
    (next_argument table n names u m params param (items_of nodes argument) (frames_of nodes more stack) (get_at params _ _ (Some param) k hp) (get_at (lists_of nodes p.raw.items) _ _ (Some (items_of nodes argument)) k (get_seen nodes p.raw.items (length p.full.items) argument ha)) hm hs))

-- no argument is left
pub done_params : (nodes : List Node) (more : List PpToken) (table : Table) (go : Expander) (names : List (List ℕ)) (p : Pending) (m : Macro) (params : List Name) → slice_get params (length p.full.items) ≡ None
    → use_with table go names (frame_of nodes more p) m (Some params) ≡ finish table go names p.level.outside p.level.room (item_of nodes p.name) (item_of nodes p.close) (rest_in nodes more p.level) m params (lists_of nodes p.raw.items) (lists_of nodes p.full.items)
done_params nodes more table go names p m params h =
    all_params table go names (frame_of nodes more p) m params (get_at params _ _ None (sym (length_seen nodes p.full.items)) h)

pub done_arguments : (nodes : List Node) (more : List PpToken) (table : Table) (go : Expander) (names : List (List ℕ)) (p : Pending) (m : Macro) (params : List Name) → slice_get p.raw.items (length p.full.items) ≡ None
    → use_with table go names (frame_of nodes more p) m (Some params) ≡ finish table go names p.level.outside p.level.room (item_of nodes p.name) (item_of nodes p.close) (rest_in nodes more p.level) m params (lists_of nodes p.raw.items) (lists_of nodes p.full.items)
done_arguments nodes more table go names p m params h =
    all_arguments table go names (frame_of nodes more p) m params (get_at (lists_of nodes p.raw.items) _ _ None (sym (length_seen nodes p.full.items)) (get_none nodes p.raw.items (length p.full.items) h))

-- what a look-up by index gives
pub item_there : {X : Type 0} (xs : List X) (i : ℕ) (r : Bor X) → IsItemAt xs i (Some r) → slice_get xs i ≡ Some r.now
item_there xs i r h = slice_get-get_or xs i r.now h.3.0 ∙ ap Some (sym (h.4 (omega arith) r.now))

pub item_past : {X : Type 0} (xs : List X) (i : ℕ) → IsItemAt xs i None → slice_get xs i ≡ None
item_past xs i h = slice_get_past xs i h.3

-- a use that opens there
pub use_opens : (nodes : List Node) (w v : Words) (outside : ℕ) (is tail new : List Item) (g : Gathered) → w ≡ v → is_some (behind v is) ≡ true → ((rest : List Item) → behind v is ≡ Some rest → new ≡ rest)
    → g.lists.items ≡ [] → g.list.items ≡ [] → g.size ≡ 0 → g.depth ≡ 0 → g.gap ≡ false → use_at w outside (is ++ tail) ≡ gather_in nodes w outside g (new ++ tail)
use_opens nodes w v outside is tail new g e h k a b c d f =
    use_some w v outside (is ++ tail) (new ++ tail) e (by (behind v is) refl h) (λ rest m. there (behind v is) refl h rest m)
    ∙ ap (λ (v : Words). gather v outside false 0 [] [] 0 (new ++ tail)) (sym e)
    ∙ sym (gather_new nodes w outside g (new ++ tail) a b c d f)
  where
    by : (o : Option (List Item)) → behind v is ≡ o → is_some o ≡ true → is_some (behind v (is ++ tail)) ≡ true
    by None q r = absurd cc
    by (Some ms) q r = ap (λ o. is_some o) (behind_more v is tail ms q)

    there : (o : Option (List Item)) → behind v is ≡ o → is_some o ≡ true → (rest : List Item) → behind v (is ++ tail) ≡ Some rest → new ++ tail ≡ rest
    there None q r rest m = absurd cc
    there (Some ms) q r rest m = let z : Some (ms ++ tail) ≡ Some rest = sym (behind_more v is tail ms q) ∙ m in let y : ms ++ tail ≡ rest = cc in ap (λ l. l ++ tail) (k ms q) ∙ y
