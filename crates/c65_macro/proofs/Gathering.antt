-- The arguments of a use, one token after another.
use Rattle.std.proofs.Common.{◌≡◌, ◌≢◌, ℕ, zero, suc, ◌+◌, ◌-◌, List, [], ◌∷◌, ◌++◌, refl, sym, ap, ◌∙◌, subst, arith, Bool, true, false, Result, Ok, Err}
use Rattle.std.proofs.lemmas.List.{map-append}
use Rattle.c65_base.specs.declared.refusal.Refusal.{Refusal}
use Rattle.c65_macro.specs.declared.item.Words.{Words}
use Rattle.c65_macro.specs.declared.sets.Node.{Node}
use Rattle.c65_macro.specs.declared.marked.Marked.{Marked}
use Rattle.c65_macro.specs.declared.uses.Role.{Role}
use Rattle.c65_macro.specs.declared.uses.Role.TheVariants.{Opening, Closing, Comma, Other}
use Rattle.c65_macro.specs.declared.gather.Gathered.{Gathered}
use Rattle.c65_macro.specs.declared.gather.Arguments.{Arguments}
use Rattle.c65_macro.specs.declared.gather.Inside.TheVariants as insides
use Rattle.c65_macro.specs.Items.{Item, put_count}
use Rattle.c65_macro.specs.Uses.{Gathering, closed, role, gather, gather_as, one_more, gathered, next_argument}
use Rattle.c65_macro.specs.Views.{item_of, items_of, lists_of, put_of}
use Rattle.c65_macro.specs.Machine.{gather_in, StopsGathering, IsAdded, IsSeparated, IsTaken, IsGathered}
use Rattle.c65_macro.proofs.Tails.{put_more}

stops_as : (e : Refusal) (g h : Gathering) → g ≡ h → StopsGathering e h → StopsGathering e g
stops_as e g h q s = let P : Gathering → Type 0 = λ z. StopsGathering e z in subst P (sym q) s

-- what a token does by its role
as_role : (nodes : List Node) (w : Words) (outside : ℕ) (g : Gathered) (i : Item) (is : List Item) (r : Role) → role w i.token ≡ r
    → gather_in nodes w outside g (i ∷ is) ≡ gather_as w outside g.gap g.depth (lists_of nodes g.lists.items) (items_of nodes g.list.items) g.size i is r (λ gap depth args arg size. gather w outside gap depth args arg size is)
as_role nodes w outside g i is r h = ap (λ (r : Role). gather_as w outside g.gap g.depth (lists_of nodes g.lists.items) (items_of nodes g.list.items) g.size i is r (λ gap depth args arg size. gather w outside gap depth args arg size is)) h

-- what one more token of the argument gives, at a depth
abbrev added_at : List Node → Words → ℕ → Gathered → ℕ → Item → List Item → Gathering
added_at nodes w outside g d i is = one_more outside g.size is (gather w outside false d (lists_of nodes g.lists.items) (items_of nodes g.list.items ++ gathered g.gap i ∷ []) (g.size + 1) is)

deep_closing : (nodes : List Node) (w : Words) (outside : ℕ) (g : Gathered) (d : ℕ) (i : Item) (is : List Item) → d ≢ 0
    → gather_as w outside g.gap d (lists_of nodes g.lists.items) (items_of nodes g.list.items) g.size i is Closing (λ gap depth args arg size. gather w outside gap depth args arg size is) ≡ added_at nodes w outside g (d - 1) i is
deep_closing nodes w outside g zero i is h = absurd (h refl)
deep_closing nodes w outside g (suc d) i is h = let e : d ≡ suc d - 1 = omega arith in ap (λ (k : ℕ). added_at nodes w outside g k i is) e

deep_comma : (nodes : List Node) (w : Words) (outside : ℕ) (g : Gathered) (d : ℕ) (i : Item) (is : List Item) → d ≢ 0
    → gather_as w outside g.gap d (lists_of nodes g.lists.items) (items_of nodes g.list.items) g.size i is Comma (λ gap depth args arg size. gather w outside gap depth args arg size is) ≡ added_at nodes w outside g d i is
deep_comma nodes w outside g zero i is h = absurd (h refl)
deep_comma nodes w outside g (suc d) i is h = refl

taken_added : (nodes : List Node) (w : Words) (outside : ℕ) (g h : Gathered) (d : ℕ) (i : Item) (is : List Item) (r : Result Bool Refusal)
    → gather_in nodes w outside g (i ∷ is) ≡ added_at nodes w outside g d i is → IsAdded nodes w outside g d i is r h → IsTaken nodes w outside g i is r h
taken_added nodes w outside g h d i is (Ok true) e a = absurd (let f : true ≡ false = a.0 in cc)
taken_added nodes w outside g h d i is (Ok false) e a = e ∙ a.1
taken_added nodes w outside g h d i is (Err x) e a = stops_as x (gather_in nodes w outside g (i ∷ is)) (added_at nodes w outside g d i is) e a

pub take_opening : (nodes : List Node) (w : Words) (outside : ℕ) (g h : Gathered) (d : ℕ) (i : Item) (is : List Item) (r : Result Bool Refusal) → role w i.token ≡ Opening → d ≡ g.depth + 1
    → IsAdded nodes w outside g d i is r h → IsTaken nodes w outside g i is r h
take_opening nodes w outside g h d i is r ro de a =
    let e : suc g.depth ≡ d = omega (arith, de) in
    taken_added nodes w outside g h d i is r (as_role nodes w outside g i is Opening ro ∙ ap (λ (k : ℕ). added_at nodes w outside g k i is) e) a

pub take_closing : (nodes : List Node) (w : Words) (outside : ℕ) (g h : Gathered) (i : Item) (is : List Item) (r : Result Bool Refusal) → role w i.token ≡ Closing → g.depth ≢ 0
    → IsAdded nodes w outside g (g.depth - 1) i is r h → IsTaken nodes w outside g i is r h
take_closing nodes w outside g h i is r ro ne a = taken_added nodes w outside g h (g.depth - 1) i is r (as_role nodes w outside g i is Closing ro ∙ deep_closing nodes w outside g g.depth i is ne) a

pub take_comma : (nodes : List Node) (w : Words) (outside : ℕ) (g h : Gathered) (i : Item) (is : List Item) (r : Result Bool Refusal) → role w i.token ≡ Comma → g.depth ≢ 0
    → IsAdded nodes w outside g g.depth i is r h → IsTaken nodes w outside g i is r h
take_comma nodes w outside g h i is r ro ne a = taken_added nodes w outside g h g.depth i is r (as_role nodes w outside g i is Comma ro ∙ deep_comma nodes w outside g g.depth i is ne) a

pub take_other : (nodes : List Node) (w : Words) (outside : ℕ) (g h : Gathered) (i : Item) (is : List Item) (r : Result Bool Refusal) → role w i.token ≡ Other
    → IsAdded nodes w outside g g.depth i is r h → IsTaken nodes w outside g i is r h
take_other nodes w outside g h i is r ro a = taken_added nodes w outside g h g.depth i is r (as_role nodes w outside g i is Other ro) a

shallow_comma : (nodes : List Node) (w : Words) (outside : ℕ) (g : Gathered) (d : ℕ) (i : Item) (is : List Item) → d ≡ 0
    → gather_as w outside g.gap d (lists_of nodes g.lists.items) (items_of nodes g.list.items) g.size i is Comma (λ gap depth args arg size. gather w outside gap depth args arg size is)
    ≡ next_argument (lists_of nodes g.lists.items) (gather w outside false d (lists_of nodes g.lists.items ++ items_of nodes g.list.items ∷ []) [] g.size is)
shallow_comma nodes w outside g zero i is h = refl
shallow_comma nodes w outside g (suc d) i is h = absurd (let f : suc d ≡ 0 = h in omega arith)

pub take_separate : (nodes : List Node) (w : Words) (outside : ℕ) (g h : Gathered) (i : Item) (is : List Item) (r : Result Bool Refusal) → role w i.token ≡ Comma → g.depth ≡ 0
    → IsSeparated nodes w outside g is r h → IsTaken nodes w outside g i is r h
take_separate nodes w outside g h i is (Ok true) ro z a = absurd (let f : true ≡ false = a.0 in cc)
take_separate nodes w outside g h i is (Ok false) ro z a = as_role nodes w outside g i is Comma ro ∙ shallow_comma nodes w outside g g.depth i is z ∙ a.1
take_separate nodes w outside g h i is (Err x) ro z a =
    stops_as x (gather_in nodes w outside g (i ∷ is)) (next_argument (lists_of nodes g.lists.items) (gather w outside false g.depth (lists_of nodes g.lists.items ++ items_of nodes g.list.items ∷ []) [] g.size is))
    (as_role nodes w outside g i is Comma ro ∙ shallow_comma nodes w outside g g.depth i is z) a

shallow_closing : (nodes : List Node) (w : Words) (outside : ℕ) (g : Gathered) (d : ℕ) (i : Item) (is : List Item) → d ≡ 0
    → gather_as w outside g.gap d (lists_of nodes g.lists.items) (items_of nodes g.list.items) g.size i is Closing (λ gap depth args arg size. gather w outside gap depth args arg size is)
    ≡ closed (lists_of nodes g.lists.items ++ items_of nodes g.list.items ∷ []) g.size i is
shallow_closing nodes w outside g zero i is h = refl
shallow_closing nodes w outside g (suc d) i is h = absurd (let f : suc d ≡ 0 = h in omega arith)

pub take_end : (nodes : List Node) (w : Words) (outside : ℕ) (g : Gathered) (i : Item) (is : List Item) → role w i.token ≡ Closing → g.depth ≡ 0 → IsTaken nodes w outside g i is (Ok true) g
take_end nodes w outside g i is ro z = as_role nodes w outside g i is Closing ro ∙ shallow_closing nodes w outside g g.depth i is z

-- a token that is taken from the list
abbrev pub Taking : List Node → Words → ℕ → ℕ → Gathered → Marked → Role → Result Bool Refusal → Gathered → Type 0
Taking nodes w outside put g m r a h = (is : List Item) → role w m.token ≡ r → put_count is ≡ put → IsTaken nodes w outside g (item_of nodes m) is a h

pub taking : (nodes : List Node) (w : Words) (outside put : ℕ) (g : Gathered) (m : Marked) (ms : List Marked) (tail : List Item) (r : Role) (a : Result Bool Refusal) (h : Gathered)
    → r ≡ role w m.token → put ≡ put_of ms → put_count tail ≡ 0 → Taking nodes w outside put g m r a h → IsTaken nodes w outside g (item_of nodes m) (items_of nodes ms ++ tail) a h
taking nodes w outside put g m ms tail r a h er ep et t = t (items_of nodes ms ++ tail) (sym er) (put_more nodes ms tail et ∙ sym ep)

pub gather_more : (nodes : List Node) (w : Words) (outside : ℕ) (g h : Gathered) (m : Marked) (ms old : List Marked) (tail : List Item) (start : Gathering) (ends : Bool) → ends ≡ false → old ≡ m ∷ ms
    → gather_in nodes w outside g (items_of nodes old ++ tail) ≡ start → IsTaken nodes w outside g (item_of nodes m) (items_of nodes ms ++ tail) (Ok ends) h → gather_in nodes w outside h (items_of nodes ms ++ tail) ≡ start
gather_more nodes w outside g h m ms old tail start true z e s t = absurd cc
gather_more nodes w outside g h m ms old tail start false z e s t = sym t ∙ ap (λ l. gather_in nodes w outside g (items_of nodes l ++ tail)) (sym e) ∙ s

pub gather_end : (nodes : List Node) (w : Words) (outside : ℕ) (g h : Gathered) (m : Marked) (ms old : List Marked) (tail : List Item) (start : Gathering) (ends : Bool) (a : Arguments) → ends ≡ true → old ≡ m ∷ ms
    → gather_in nodes w outside g (items_of nodes old ++ tail) ≡ start → IsTaken nodes w outside g (item_of nodes m) (items_of nodes ms ++ tail) (Ok ends) h
    → a.lists.items ≡ h.lists.items ++ h.list.items ∷ [] → a.size ≡ h.size → a.close ≡ m → IsGathered nodes w outside tail (Ok (insides.Closed a)) ms start
gather_end nodes w outside g h m ms old tail start false a z e s t l n c = absurd cc
gather_end nodes w outside g h m ms old tail start true a z e s t l n c =
    let is = items_of nodes ms ++ tail in
    let lists : lists_of nodes a.lists.items ≡ lists_of nodes h.lists.items ++ items_of nodes h.list.items ∷ [] = ap (λ x. lists_of nodes x) l ∙ map-append (items_of nodes) h.lists.items (h.list.items ∷ []) in
    let all : closed (lists_of nodes h.lists.items ++ items_of nodes h.list.items ∷ []) h.size (item_of nodes m) is ≡ closed (lists_of nodes a.lists.items) a.size (item_of nodes a.close) is =
    ap (λ x. closed x h.size (item_of nodes m) is) (sym lists) ∙ ap (λ (k : ℕ). closed (lists_of nodes a.lists.items) k (item_of nodes m) is) (sym n) ∙ ap (λ (k : Marked). closed (lists_of nodes a.lists.items) a.size (item_of nodes k) is) (sym c) in
    sym s ∙ ap (λ l. gather_in nodes w outside g (items_of nodes l ++ tail)) e ∙ t ∙ all

pub gather_stop : (nodes : List Node) (w : Words) (outside : ℕ) (g h : Gathered) (m : Marked) (ms old : List Marked) (tail : List Item) (start : Gathering) (x : Refusal) → old ≡ m ∷ ms
    → gather_in nodes w outside g (items_of nodes old ++ tail) ≡ start → IsTaken nodes w outside g (item_of nodes m) (items_of nodes ms ++ tail) (Err x) h → IsGathered nodes w outside tail (Err x) ms start
gather_stop nodes w outside g h m ms old tail start x e s t = stops_as x start (gather_in nodes w outside g (item_of nodes m ∷ items_of nodes ms ++ tail)) (sym s ∙ ap (λ l. gather_in nodes w outside g (items_of nodes l ++ tail)) e) t

-- no parenthesis closes the use among these tokens
pub gather_open : (nodes : List Node) (w : Words) (outside : ℕ) (g : Gathered) (old : List Marked) (tail : List Item) (start : Gathering) → old ≡ [] → gather_in nodes w outside g (items_of nodes old ++ tail) ≡ start → start ≡ gather_in nodes w outside g tail
gather_open nodes w outside g old tail start e s = sym s ∙ ap (λ l. gather_in nodes w outside g (items_of nodes l ++ tail)) e
