-- The use of a function-like macro: its arguments (C90 6.8.3).
use Rattle.std.specs.Prelude.{ℕ, zero, suc, ◌+◌, List, [], ◌∷◌, ◌++◌, length, Bool, true, false, ◌==◌, ◌&&◌, ◌||◌, not, nat_lt, nat_le, Option, Some, None, if◌then◌else◌}
use Rattle.c65_base.specs.declared.names.Name.{Name}
use Rattle.c65_base.specs.declared.refusal.Size.TheVariants as sizes
use Rattle.c65_base.specs.Answers.{Fault, large}
use Rattle.c65_lex.specs.declared.token.PpToken.{PpToken}
use Rattle.c65_macro.specs.declared.item.Words.{Words}
use Rattle.c65_macro.specs.declared.uses.Role.{Role}
use Rattle.c65_macro.specs.declared.uses.Role.TheVariants.{Opening, Closing, Comma, LineEnd, Other}
use Rattle.c65_macro.specs.Table.{is_line_end, is_mark}
use Rattle.c65_macro.specs.Definitions.{is_parameter}
use Rattle.c65_macro.specs.Fill.{begins_paste}
use Rattle.c65_macro.specs.Items.{Item, put_count}

-- what a token is within a use
abbrev pub role : Words → PpToken → Role
role w t = if is_line_end t then LineEnd else if is_mark w.opening t then Opening else if is_mark w.closing t then Closing else if is_mark w.comma t then Comma else Other

-- no use; one without its end; one above a limit; or one with its arguments, how many tokens they
-- have together, its Closing parenthesis, and what stands behind it
pub data Gathering : Type 0 where
  no_use : Gathering
  unclosed : Gathering
  above : Fault → Gathering
  closed : List (List Item) → ℕ → Item → List Item → Gathering

-- a token of an argument, with white space before it also where a line ended there
abbrev pub gathered : Bool → Item → Item
gathered gap i = record { token = record i.token { space = i.token.space || gap }; hide = i.hide; put = false }

-- one more argument begins
abbrev pub next_argument : List (List Item) → Gathering → Gathering
next_argument args g = if nat_le 126 (length args) then above (large sizes.MacroArguments 128) else g

-- One more token is gathered: with those outside, those gathered and those that replacements have
-- put behind it, at most 500,000 wait.
abbrev pub one_more : ℕ → ℕ → List Item → Gathering → Gathering
one_more outside size is g = if nat_lt 500000 (outside + (size + 1) + put_count is) then above (large sizes.Tokens 500001) else g

-- a gap tells that a line ended just before, the depth counts parentheses
abbrev pub gather_as : Words → ℕ → Bool → ℕ → List (List Item) → List Item → ℕ → Item → List Item → Role → (Bool → ℕ → List (List Item) → List Item → ℕ → Gathering) → Gathering
gather_as w outside gap depth args arg size i is LineEnd go = go true depth args arg size
gather_as w outside gap depth args arg size i is Opening go = one_more outside size is (go false (suc depth) args (arg ++ gathered gap i ∷ []) (size + 1))
gather_as w outside gap zero args arg size i is Closing go = closed (args ++ arg ∷ []) size i is
gather_as w outside gap (suc depth) args arg size i is Closing go = one_more outside size is (go false depth args (arg ++ gathered gap i ∷ []) (size + 1))
gather_as w outside gap zero args arg size i is Comma go = next_argument args (go false zero (args ++ arg ∷ []) [] size)
gather_as w outside gap (suc depth) args arg size i is Comma go = one_more outside size is (go false (suc depth) args (arg ++ gathered gap i ∷ []) (size + 1))
gather_as w outside gap depth args arg size i is Other go = one_more outside size is (go false depth args (arg ++ gathered gap i ∷ []) (size + 1))

abbrev pub gather : Words → ℕ → Bool → ℕ → List (List Item) → List Item → ℕ → List Item → Gathering
gather w outside gap depth args arg size [] = unclosed
gather w outside gap depth args arg size (i ∷ is) = gather_as w outside gap depth args arg size i is (role w i.token) (λ gap depth args arg size. gather w outside gap depth args arg size is)

-- what stands behind the parenthesis that opens next, behind line ends or none
abbrev pub behind : Words → List Item → Option (List Item)
behind w [] = None
behind w (i ∷ is) = elim (role w i.token) [ LineEnd ↦ behind w is | Opening ↦ Some is | Closing ↦ None | Comma ↦ None | Other ↦ None ]

-- whether nothing but line ends stands there
abbrev pub only_ends : List Item → Bool
only_ends [] = true
only_ends (i ∷ is) = is_line_end i.token && only_ends is

-- the use whose name stands just before: line ends before its parenthesis are dropped
abbrev pub use_at : Words → ℕ → List Item → Gathering
use_at w outside is = elim (behind w is) [ None ↦ no_use | Some rest ↦ gather w outside false 0 [] [] 0 rest ]

-- a macro without parameters has one empty argument in its parentheses
abbrev pub is_blank : {A : Type 0} → List (List A) → Bool
is_blank [] = false
is_blank ([] ∷ []) = true
is_blank ([] ∷ b ∷ args) = false
is_blank ((i ∷ is) ∷ args) = false

abbrev pub is_fit : {A : Type 0} → List Name → List (List A) → Bool
is_fit [] args = is_blank args
is_fit (p ∷ ps) args = length (p ∷ ps) == length args

-- whether a parameter stands in a body at a place that is beside no # and no ##
abbrev pub is_replaced : Words → Name → Bool → List PpToken → Bool
is_replaced w p beside [] = false
is_replaced w p beside (t ∷ ts) = (not beside && (is_parameter (p ∷ []) t && not (begins_paste w ts))) || is_replaced w p (is_mark w.hash t || is_mark w.paste t) ts
