-- Only one thing comes next.
use Rattle.std.proofs.Common.{◌≡◌, ℕ, zero, suc, ◌+◌, ◌-◌, ◌<◌, ◌≤◌, List, [], take, drop, refl, sym, ap, ◌∙◌, subst, arith, Bool, true, false, ◌⊎◌, inl, inr, Some}
use Rattle.std.proofs.lemmas.Bool.{cases_lt}
use Rattle.c65_lex.specs.declared.token.PpKind.{PpKind}
use Rattle.c65_lex.specs.Cells.{Cell, bytes}
use Rattle.c65_lex.specs.Spellings.{IsToken, class_of}
use Rattle.c65_lex.specs.Blanks.{Blanks, blank_of, none, over, too_long, unclosed}
use Rattle.c65_lex.specs.Next.{Next, ended, open_comment, long_line, token, is_any_long, IsLongHere, Stands, IsNext}

over_is : (a b : List Cell) → over a ≡ over b → a ≡ b
over_is a b e = cc

blanks_same : (n : ℕ) (start a b : List Cell) → Blanks n start a → Blanks n start b → a ≡ b
blanks_same zero start a b p q = p ∙ sym q
blanks_same (suc n) start a b (x, p, e) (y, q, f) =
    let k = blanks_same n start x y p q in
    over_is a b (sym e ∙ ap blank_of k ∙ f)

-- the way goes on from each place before its end
pub record GoesOn (n : ℕ) (start : List Cell) : Type 0 where
  pub here : List Cell
  pub next : List Cell
  pub behind : Blanks n start here
  pub on : blank_of here ≡ over next

goes_on : (n j : ℕ) (start b : List Cell) → Blanks (suc (j + n)) start b → GoesOn n start
goes_on n zero start b (x, p, e) = record { here = x; next = b; behind = p_at (omega arith) p; on = e }
  where
    p_at : 0 + n ≡ n → Blanks (0 + n) start x → Blanks n start x
    p_at e p = subst (λ (k : ℕ). Blanks k start x) e p
goes_on n (suc j) start b (x, p, e) =
    let k : suc j + n ≡ suc (j + n) = omega arith in
    goes_on n j start x (subst (λ (y : ℕ). Blanks y start x) k p)

abbrev IsLast : List Cell → Type 0
IsLast cs = (after : List Cell) → blank_of cs ≡ over after → ⊥

not_further : (n m : ℕ) (start a b : List Cell) → n < m → Blanks n start a → IsLast a → Blanks m start b → ⊥
not_further n m start a b l p last q =
    let k : m ≡ suc ((m - suc n) + n) = omega arith in
    let g = goes_on n (m - suc n) start b (subst (λ (x : ℕ). Blanks x start b) k q) in
    let same = blanks_same n start a g.here p g.behind in
    last g.next (ap blank_of same ∙ g.on)

same_count : (n m : ℕ) (start a b : List Cell) → Blanks n start a → IsLast a → Blanks m start b → IsLast b → n ≡ m
same_count n m start a b p k q l = by (cases_lt n m) (cases_lt m n)
  where
    by : (n < m) ⊎ (m ≤ n) → (m < n) ⊎ (n ≤ m) → n ≡ m
    by (inl x) y = absurd (not_further n m start a b x p k q)
    by (inr x) (inl y) = absurd (not_further m n start b a y q l p)
    by (inr x) (inr y) = omega arith

-- what stands somewhere is no white space and no whole comment
last_here : (header : Bool) (n : ℕ) (cs : List Cell) (next : Next) → Stands header n cs next → IsLast cs
last_here header n cs ended s after e = let k : none ≡ over after = ap blank_of (sym s) ∙ e in cc
last_here header n cs (open_comment line) s after e = let k : unclosed ≡ over after = sym s.0 ∙ e in cc
last_here header n cs long_line (inl s) after e = let k : too_long ≡ over after = sym s ∙ e in cc
last_here header n cs long_line (inr s) after e = let k : none ≡ over after = sym s.0 ∙ e in cc
last_here header n cs (token kind spelling line space rest) s after e = let k : none ≡ over after = sym s.0 ∙ e in cc

some_kind : (a b : PpKind) → Some a ≡ Some b → a ≡ b
some_kind a b e = cc

same_size : (header : Bool) (bs : List ℕ) (k l : PpKind) (m n : ℕ) → IsToken header bs k m → IsToken header bs l n → m ≡ n
same_size header bs k l m n s t =
    let x : m ≤ n = t.longest m k s.fits s.spelled in
    let y : n ≤ m = s.longest n l t.fits t.spelled in
    omega arith

same_kind : (header : Bool) (bs : List ℕ) (k l : PpKind) (m n : ℕ) → IsToken header bs k m → IsToken header bs l n → k ≡ l
same_kind header bs k l m n s t =
    let z = same_size header bs k l m n s t in
    some_kind k l (sym s.spelled ∙ ap (λ (x : ℕ). class_of header (take x bs)) z ∙ t.spelled)

no_token_at_end : (header : Bool) (k : PpKind) (n : ℕ) → IsToken header [] k n → ⊥
no_token_at_end header k n t =
    let z : n ≡ 0 = omega (arith, t.fits) in
    by header (subst (λ (x : ℕ). class_of header (take x []) ≡ Some k) z t.spelled)
  where
    by : (h : Bool) → class_of h [] ≡ Some k → ⊥
    by true e = cc
    by false e = cc

same_token : (header : Bool) (n : ℕ) (cs : List Cell) (k l : PpKind) (s t : List ℕ) (i j : ℕ) (u v : Bool) (x y : List Cell) → Stands header n cs (token k s i u x) → Stands header n cs (token l t j v y) → token k s i u x ≡ token l t j v y
same_token header n cs k l s t i j u v x y a b =
    let p = a.2 in
    let q = b.2 in
    let z = same_size header (bytes cs) k l p.size q.size p.is_token q.is_token in
    let w = same_kind header (bytes cs) k l p.size q.size p.is_token q.is_token in
    let e : s ≡ t = p.spelling_is ∙ ap (λ (m : ℕ). bytes (take m cs)) z ∙ sym q.spelling_is in
    let f : i ≡ j = p.line_is ∙ sym q.line_is in
    let g : u ≡ v = a.1 ∙ sym b.1 in
    let h : x ≡ y = p.rest_is ∙ ap (λ (m : ℕ). drop m cs) z ∙ sym q.rest_is in
    cc

not_long_token : (header : Bool) (n : ℕ) (cs : List Cell) (k : PpKind) (s : List ℕ) (i : ℕ) (u : Bool) (x : List Cell) → Stands header n cs (token k s i u x) → IsLongHere header cs → ⊥
not_long_token header n cs k s i u x a (inl e) = let f : none ≡ too_long = sym a.0 ∙ e in cc
not_long_token header n cs k s i u x a (inr (e, l, m, t, b)) =
    let p = a.2 in
    let z = same_size header (bytes cs) k l p.size m p.is_token t in
    let f : true ≡ false = sym b ∙ ap (λ (y : ℕ). is_any_long (take y cs)) (sym z) ∙ p.not_long in
    cc

not_end_long : (header : Bool) → IsLongHere header [] → ⊥
not_end_long header (inl e) = cc
not_end_long header (inr (e, l, m, t, b)) = no_token_at_end header l m t

end_is : (P : List Cell → Type 0) (cs : List Cell) → cs ≡ [] → P cs → P []
end_is P cs e p = subst P e p

stands_one : (header : Bool) (n : ℕ) (cs : List Cell) (a b : Next) → Stands header n cs a → Stands header n cs b → a ≡ b
stands_one header n cs ended ended s t = refl
stands_one header n cs ended (open_comment j) s t = let k : none ≡ unclosed = ap blank_of (sym s) ∙ t.0 in absurd cc
stands_one header n cs ended long_line s t = absurd (not_end_long header (end_is (IsLongHere header) cs s t))
stands_one header n cs ended (token l t j v y) s b = absurd (no_token_at_end header l b.2.size (end_is (λ (x : List Cell). IsToken header (bytes x) l b.2.size) cs s b.2.is_token))
stands_one header n cs (open_comment i) ended s t = let k : none ≡ unclosed = ap blank_of (sym t) ∙ s.0 in absurd cc
stands_one header n cs (open_comment i) (open_comment j) s t = ap open_comment (s.1 ∙ sym t.1)
stands_one header n cs (open_comment i) long_line s (inl e) = let k : unclosed ≡ too_long = sym s.0 ∙ e in absurd cc
stands_one header n cs (open_comment i) long_line s (inr e) = let k : unclosed ≡ none = sym s.0 ∙ e.0 in absurd cc
stands_one header n cs (open_comment i) (token l t j v y) s b = let k : unclosed ≡ none = sym s.0 ∙ b.0 in absurd cc
stands_one header n cs long_line ended s t = absurd (not_end_long header (end_is (IsLongHere header) cs t s))
stands_one header n cs long_line (open_comment j) (inl e) t = let k : unclosed ≡ too_long = sym t.0 ∙ e in absurd cc
stands_one header n cs long_line (open_comment j) (inr e) t = let k : unclosed ≡ none = sym t.0 ∙ e.0 in absurd cc
stands_one header n cs long_line long_line s t = refl
stands_one header n cs long_line (token l t j v y) s b = absurd (not_long_token header n cs l t j v y b s)
stands_one header n cs (token k s i u x) ended a t = absurd (no_token_at_end header k a.2.size (end_is (λ (x : List Cell). IsToken header (bytes x) k a.2.size) cs t a.2.is_token))
stands_one header n cs (token k s i u x) (open_comment j) a t = let k : unclosed ≡ none = sym t.0 ∙ a.0 in absurd cc
stands_one header n cs (token k s i u x) long_line a t = absurd (not_long_token header n cs k s i u x a t)
stands_one header n cs (token k s i u x) (token l t j v y) a b = same_token header n cs k l s t i j u v x y a b

-- only one thing comes next
pub one_next : (header : Bool) (start : List Cell) (a b : Next) → IsNext header start a → IsNext header start b → a ≡ b
one_next header start a b p q =
    let n = same_count p.blanks q.blanks start p.cells q.cells p.behind (last_here header p.blanks p.cells a p.stands) q.behind (last_here header q.blanks q.cells b q.stands) in
    let c : p.cells ≡ q.cells = blanks_same q.blanks start p.cells q.cells (subst (λ (x : ℕ). Blanks x start p.cells) n p.behind) q.behind in
    let s : Stands header q.blanks q.cells a = subst (λ (x : List Cell). Stands header q.blanks x a) c (subst (λ (x : ℕ). Stands header x p.cells a) n p.stands) in
    stands_one header q.blanks q.cells a b s q.stands
