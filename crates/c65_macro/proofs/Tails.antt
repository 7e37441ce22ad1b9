-- What comes behind a list that is not at its end.
use Rattle.std.proofs.Common.{◌≡◌, ◌≢◌, ℕ, zero, suc, ◌+◌, List, [], ◌∷◌, ◌++◌, refl, sym, ap, ◌∙◌, arith, Bool, true, false, Option, Some, None}
use Rattle.std.specs.Prelude.{if◌then◌else◌, is_some, nat_lt, nat_le, length, ◌&&◌}
use Rattle.std.proofs.lemmas.List.{append-nil}
use Rattle.c65_base.specs.declared.refusal.Size.TheVariants as sizes
use Rattle.c65_base.specs.Answers.{large}
use Rattle.c65_lex.specs.declared.token.PpToken.{PpToken}
use Rattle.c65_macro.specs.declared.item.Words.{Words}
use Rattle.c65_macro.specs.declared.sets.Node.{Node}
use Rattle.c65_macro.specs.declared.marked.Marked.{Marked}
use Rattle.c65_macro.specs.declared.uses.Role.{Role}
use Rattle.c65_macro.specs.declared.uses.Role.TheVariants.{Opening, Closing, Comma, LineEnd, Other}
use Rattle.c65_macro.specs.declared.gather.Gathered.{Gathered}
use Rattle.c65_macro.specs.Table.{is_line_end, is_mark}
use Rattle.c65_macro.specs.Items.{Item, put_count, weight, items}
use Rattle.c65_macro.specs.Uses.{Gathering, no_use, above, role, gather, gather_as, one_more, next_argument, gathered, behind, only_ends}
use Rattle.c65_macro.specs.Views.{items_of, lists_of, put_of}
use Rattle.c65_macro.specs.Machine.{tail_of, gather_in}
use Rattle.c65_macro.proofs.Seen.{put_seen}

put_append : (is js : List Item) → put_count (is ++ js) ≡ put_count is + put_count js
put_append [] js = omega arith
put_append (i ∷ is) js = sum (if i.put then weight i.token else 0) (put_count is) (put_count js) (put_count (is ++ js)) (put_append is js)
  where
    sum : (a b c d : ℕ) → d ≡ b + c → a + d ≡ (a + b) + c
    sum a b c d h = omega (arith, h)

-- no replacement has put there what comes behind
pub put_more : (nodes : List Node) (ms : List Marked) (tail : List Item) → put_count tail ≡ 0 → put_count (items_of nodes ms ++ tail) ≡ put_of ms
put_more nodes ms tail h = omega (arith, put_append (items_of nodes ms) tail, put_seen nodes ms, h)

put_items : (ts : List PpToken) → put_count (items ts) ≡ 0
put_items [] = refl
put_items (t ∷ ts) = omega (arith, put_items ts)

pub put_tail : (more : List PpToken) (b : Bool) → put_count (tail_of more b) ≡ 0
put_tail more true = put_items more
put_tail more false = refl

-- the role of a token that ends no line
not_end : (a b c : Bool) → (if a then Opening else if b then Closing else if c then Comma else Other) ≢ LineEnd
not_end true b c h = cc
not_end false true c h = cc
not_end false false true h = cc
not_end false false false h = cc

role_other : (w : Words) (t : PpToken) → is_line_end t ≡ false → role w t ≢ LineEnd
role_other w t e f = not_end (is_mark w.opening t) (is_mark w.closing t) (is_mark w.comma t) (sym (ap (λ (b : Bool). if b then LineEnd else if is_mark w.opening t then Opening else if is_mark w.closing t then Closing else if is_mark w.comma t then Comma else Other) e) ∙ f)

behind_as : Words → List Item → Role → Option (List Item)
behind_as w is r = elim r [ LineEnd ↦ behind w is | Opening ↦ Some is | Closing ↦ None | Comma ↦ None | Other ↦ None ]

-- a parenthesis that opens in the list opens there whatever comes behind
pub behind_more : (w : Words) (is tail rest : List Item) → behind w is ≡ Some rest → behind w (is ++ tail) ≡ Some (rest ++ tail)
unfolding behind_as
behind_more w [] tail rest h = absurd cc
behind_more w (i ∷ is) tail rest h = by (role w i.token) refl (λ k. behind_more w is tail rest k)
  where
    by : (r : Role) → role w i.token ≡ r → (behind w is ≡ Some rest → behind w (is ++ tail) ≡ Some (rest ++ tail)) → behind w ((i ∷ is) ++ tail) ≡ Some (rest ++ tail)
    by LineEnd e ih = ap (λ r. behind_as w (is ++ tail) r) e ∙ ih (sym (ap (λ r. behind_as w is r) e) ∙ h)
    by Opening e ih = let f : Some is ≡ Some rest = sym (ap (λ r. behind_as w is r) e) ∙ h in let g : is ≡ rest = cc in ap (λ r. behind_as w (is ++ tail) r) e ∙ ap (λ l. Some (l ++ tail)) g
    by Closing e ih = let f : None ≡ Some rest = sym (ap (λ r. behind_as w is r) e) ∙ h in absurd cc
    by Comma e ih = let f : None ≡ Some rest = sym (ap (λ r. behind_as w is r) e) ∙ h in absurd cc
    by Other e ih = let f : None ≡ Some rest = sym (ap (λ r. behind_as w is r) e) ∙ h in absurd cc

-- a list that has more than line ends tells that no parenthesis opens
none_behind : (w : Words) (is tail : List Item) → is_some (behind w is) ≡ false → only_ends is ≡ false → is_some (behind w (is ++ tail)) ≡ false
unfolding behind_as
none_behind w [] tail h k = absurd cc
none_behind w (i ∷ is) tail h k = by (role w i.token) refl (λ x y. none_behind w is tail x y)
  where
    ends : (b : Bool) → is_line_end i.token ≡ b → role w i.token ≡ LineEnd → only_ends is ≡ false
    ends true e f = sym (ap (λ (b : Bool). b && only_ends is) e) ∙ k
    ends false e f = absurd (role_other w i.token e f)

    by : (r : Role) → role w i.token ≡ r → (is_some (behind w is) ≡ false → only_ends is ≡ false → is_some (behind w (is ++ tail)) ≡ false) → is_some (behind w ((i ∷ is) ++ tail)) ≡ false
    by LineEnd e ih = ap (λ r. is_some (behind_as w (is ++ tail) r)) e ∙ ih (sym (ap (λ r. is_some (behind_as w is r)) e) ∙ h) (ends (is_line_end i.token) refl e)
    by Opening e ih = let f : true ≡ false = sym (ap (λ r. is_some (behind_as w is r)) e) ∙ h in absurd cc
    by Closing e ih = ap (λ r. is_some (behind_as w (is ++ tail) r)) e
    by Comma e ih = ap (λ r. is_some (behind_as w (is ++ tail) r)) e
    by Other e ih = ap (λ r. is_some (behind_as w (is ++ tail) r)) e

-- so does one behind which nothing comes
pub none_opens : (w : Words) (is : List Item) (more : List PpToken) (b : Bool) → is_some (behind w is) ≡ false → (b ≡ true → only_ends is ≡ false) → is_some (behind w (is ++ tail_of more b)) ≡ false
none_opens w is more true h k = none_behind w is (items more) h (k refl)
none_opens w is more false h k = let e : is ++ [] ≡ is = append-nil is in ap (λ l. is_some (behind w l)) e ∙ h

-- nothing is gathered yet
pub gather_new : (nodes : List Node) (w : Words) (outside : ℕ) (g : Gathered) (is : List Item) → g.lists.items ≡ [] → g.list.items ≡ [] → g.size ≡ 0 → g.depth ≡ 0 → g.gap ≡ false
    → gather_in nodes w outside g is ≡ gather w outside false 0 [] [] 0 is
gather_new nodes w outside g is a b c d e =
    ap (λ l. gather w outside g.gap g.depth (lists_of nodes l) (items_of nodes g.list.items) g.size is) a
    ∙ ap (λ l. gather w outside g.gap g.depth [] (items_of nodes l) g.size is) b
    ∙ ap (λ (k : ℕ). gather w outside g.gap g.depth [] [] k is) c
    ∙ ap (λ (k : ℕ). gather w outside g.gap k [] [] 0 is) d
    ∙ ap (λ (x : Bool). gather w outside x 0 [] [] 0 is) e

-- what is gathered is a use
more_used : (outside size : ℕ) (is : List Item) (g : Gathering) → g ≢ no_use → one_more outside size is g ≢ no_use
more_used outside size is g h = by (nat_lt 500000 (outside + (size + 1) + put_count is))
  where
    by : (b : Bool) → (if b then above (large sizes.Tokens 500001) else g) ≢ no_use
    by true e = cc
    by false e = h e

next_used : (args : List (List Item)) (g : Gathering) → g ≢ no_use → next_argument args g ≢ no_use
next_used args g h = by (nat_le 126 (length args))
  where
    by : (b : Bool) → (if b then above (large sizes.MacroArguments 128) else g) ≢ no_use
    by true e = cc
    by false e = h e

as_used : (w : Words) (outside : ℕ) (gap : Bool) (depth : ℕ) (args : List (List Item)) (arg : List Item) (size : ℕ) (i : Item) (is : List Item) (r : Role) (go : Bool → ℕ → List (List Item) → List Item → ℕ → Gathering)
    → ((gap : Bool) (depth : ℕ) (args : List (List Item)) (arg : List Item) (size : ℕ) → go gap depth args arg size ≢ no_use) → gather_as w outside gap depth args arg size i is r go ≢ no_use
as_used w outside gap depth args arg size i is LineEnd go h = h true depth args arg size
as_used w outside gap depth args arg size i is Opening go h = more_used outside size is _ (h false (suc depth) args (arg ++ gathered gap i ∷ []) (size + 1))
as_used w outside gap zero args arg size i is Closing go h = λ e. cc
as_used w outside gap (suc depth) args arg size i is Closing go h = more_used outside size is _ (h false depth args (arg ++ gathered gap i ∷ []) (size + 1))
as_used w outside gap zero args arg size i is Comma go h = next_used args _ (h false zero (args ++ arg ∷ []) [] size)
as_used w outside gap (suc depth) args arg size i is Comma go h = more_used outside size is _ (h false (suc depth) args (arg ++ gathered gap i ∷ []) (size + 1))
as_used w outside gap depth args arg size i is Other go h = more_used outside size is _ (h false depth args (arg ++ gathered gap i ∷ []) (size + 1))

pub gather_used : (w : Words) (outside : ℕ) (gap : Bool) (depth : ℕ) (args : List (List Item)) (arg : List Item) (size : ℕ) (is : List Item) → gather w outside gap depth args arg size is ≢ no_use
gather_used w outside gap depth args arg size [] = λ e. cc
gather_used w outside gap depth args arg size (i ∷ is) = as_used w outside gap depth args arg size i is (role w i.token) _ (λ gap depth args arg size. gather_used w outside gap depth args arg size is)
