-- Comparisons by routines: the left side waits on the software stack while the right one comes.
use Rattle.std.proofs.Common.{◌≡◌, ℕ, suc, ◌+◌, ◌*◌, ◌<◌, ◌≤◌, ◌%◌, max, List, [], ◌∷◌, ◌++◌, length, ℤ, pos, Bool, true, false, Some, refl, sym, ap, ◌∙◌, subst, arith, length-append}
use Rattle.std.specs.Prelude.{◌==◌, not, if◌then◌else◌, int_lt, int_le, Result, Ok, Err}
use Rattle.std.specs.Bool.{beq}
use Rattle.std.proofs.Math.Nat.{mod-eq_of_lt}
use Rattle.c65_base.specs.declared.operators.BinaryOp.{BinaryOp}
use Rattle.c65_base.specs.declared.operators.BinaryOp.TheVariants as ops
use Rattle.c65_ints.specs.declared.types.IntType.{IntType}
use Rattle.c65_ints.specs.declared.types.IntType.TheVariants as I
use Rattle.c65_ints.specs.Ranges.{is_signed_of, InRange}
use Rattle.c65_csem.specs.Places.{is_promoted}
use Rattle.c65_mach.specs.State.{Regs}
use Rattle.c65_mach.specs.Step.{apply, is_taken}
use Rattle.c65_mach.specs.declared.rows.Op.TheVariants.{Tay}
use Rattle.c65_meaning.specs.Why.{Why}
use Rattle.c65_meaning.specs.Integers.{truth, same_number}
use Rattle.c65_meaning.specs.Store.{Value, Whole, Number}
use Rattle.c65_meaning.specs.Items.{Item, Apply2}
use Rattle.c65_meaning.specs.Operators.{calculated, binary}
use Rattle.c65_meaning.specs.State.{Scene, Running}
use Rattle.c65_meaning.specs.Step.{go_on}
use Rattle.c65_code.specs.declared.line.Line.{Line}
use Rattle.c65_code.specs.declared.line.Line.TheVariants.{Label}
use Rattle.c65_code.specs.declared.routine.Routine.TheVariants.{Tos}
use Rattle.c65_code.specs.declared.routine.TosOp.{TosOp}
use Rattle.c65_code.specs.declared.routine.Width.{Width}
use Rattle.c65_code.specs.declared.routine.Width.TheVariants.{Ax, Eax}
use Rattle.c65_code.specs.LineState.{State, sp_of, ax_of, IsBytes}
use Rattle.c65_code.specs.Placement.{IsPlacement}
use Rattle.c65_code.specs.Numbers.{words_of, tos_result, result_width}
use Rattle.c65_code.specs.Rows.{number_at, primary_of, size_of}
use Rattle.c65_code.specs.Comes.{Seen}
use Rattle.c65_genwide.specs.Lines.{call}
use Rattle.c65_genwide.specs.Wide.{width_of, tos_of, is_comparison, narrow_code, wide_code}
use Rattle.c65_genload.specs.Conversions.{convert_code, push_code, waiting}
use Rattle.c65_genload.specs.Words.{implied}
use Rattle.c65_genexpr.specs.declared.comparing.Comparing.TheVariants as how
use Rattle.c65_genexpr.specs.declared.operands.Operands.TheVariants.{Numbers}
use Rattle.c65_genexpr.specs.Places.{more}
use Rattle.c65_genexpr.specs.Comparing.{comparison_by}
use Rattle.c65_genexpr.specs.Wanted.{by_sense, branch_code}
use Rattle.c65_agree_store.specs.Stands.{At, Placing, Banks, IsFree}
use Rattle.c65_agree_step.proofs.Ways.{labels_are_passed}
use Rattle.c65_agree_numbers.specs.Words.{word_of, narrowed, converted_word, result_type, result_word, is_shift}
use Rattle.c65_agree_numbers.specs.Laws.{GivesWord}
use Rattle.c65_agree_numbers.proofs.Residues.{word_below}
use Rattle.c65_agree_numbers.proofs.Operators.{operators_are_on_words}
use Rattle.c65_agree_state.specs.World.{World, setting_in, Active, lines_of, place_in, HasAt, HasTurns}
use Rattle.c65_agree_state.specs.Follows.{Follows}
use Rattle.c65_agree_state.specs.Exprs.{Ready, Valued, MayFit, ResultIs, Kept, Done}
use Rattle.c65_agree_state.proofs.Followed.{follows_weaken, steps_earn, ready_is_calm}
use Rattle.c65_agree_state.proofs.Nodes.{has_front, has_back, ready_stays}
use Rattle.c65_agree_state.proofs.Parts.{kept_goes_on}
use Rattle.c65_agree_rows.specs.Laws.{IsReadyPopped}
use Rattle.c65_agree_rows.proofs.Quiet.{nothing_follows}
use Rattle.c65_agree_frame.specs.Leads.{Leads}
use Rattle.c65_agree_frame.proofs.Leads.{leads_then, leads_as}
use Rattle.c65_agree_load.proofs.Kept.{is_on}
use Rattle.c65_agree_operate.specs.Manners.{Manner, IsLeft, DoesIn}
use Rattle.c65_agree_operate.specs.Laws.{on_numbers}
use Rattle.c65_agree_operate.proofs.Manners.{left_then, left_scene, left_heavy}
use Rattle.c65_agree_operate.proofs.Converted.{IsBrought, convert_leads}
use Rattle.c65_agree_operate.proofs.Given.{IsCalculated, is_calculated}
use Rattle.c65_agree_operate.proofs.Routines.{IsPushed, push_leads, number_waits, operator_leads}
use Rattle.c65_agree_operate.proofs.Exact.{at_regs, To, implied_leads, registers_kept}
use Rattle.c65_agree_operate.proofs.Stacked.{over_pushed, waiting_is}
use Rattle.c65_agree_compare.specs.Branches.{RestOfSettled, SettlesIn}
use Rattle.c65_agree_compare.specs.Laws.{StackedComparisonsSettle}
use Rattle.c65_agree_compare.proofs.Taken.{is_told, is_branch, branch_settles}

-- ---- what a comparison gives

-- 1 or 0
pub compared : (op : BinaryOp) (t : IntType) (p q z : ℤ) → is_comparison op ≡ true → calculated op t p q ≡ Ok (Whole z) → (y : Bool) × (z ≡ truth y)
compared ops.Lt t p q z h e = (int_lt p q, cc)
compared ops.Gt t p q z h e = (int_lt q p, cc)
compared ops.Le t p q z h e = (int_le p q, cc)
compared ops.Ge t p q z h e = (int_le q p, cc)
compared ops.Eq t p q z h e = (same_number p q, cc)
compared ops.Ne t p q z h e = (not (same_number p q), cc)
compared ops.Mul t p q z h e = absurd (cc)
compared ops.Div t p q z h e = absurd (cc)
compared ops.Rem t p q z h e = absurd (cc)
compared ops.Add t p q z h e = absurd (cc)
compared ops.Sub t p q z h e = absurd (cc)
compared ops.Shl t p q z h e = absurd (cc)
compared ops.Shr t p q z h e = absurd (cc)
compared ops.BitAnd t p q z h e = absurd (cc)
compared ops.BitXor t p q z h e = absurd (cc)
compared ops.BitOr t p q z h e = absurd (cc)

in_ax : (op : BinaryOp) (sign : Bool) (width : Width) → is_comparison op ≡ true → (result_width (tos_of op sign) width ≡ Ax) × (is_shift op ≡ false)
in_ax ops.Lt true width h = (refl, refl)
in_ax ops.Lt false width h = (refl, refl)
in_ax ops.Gt true width h = (refl, refl)
in_ax ops.Gt false width h = (refl, refl)
in_ax ops.Le true width h = (refl, refl)
in_ax ops.Le false width h = (refl, refl)
in_ax ops.Ge true width h = (refl, refl)
in_ax ops.Ge false width h = (refl, refl)
in_ax ops.Eq sign width h = (refl, refl)
in_ax ops.Ne sign width h = (refl, refl)
in_ax ops.Mul sign width h = absurd (cc)
in_ax ops.Div sign width h = absurd (cc)
in_ax ops.Rem sign width h = absurd (cc)
in_ax ops.Add sign width h = absurd (cc)
in_ax ops.Sub sign width h = absurd (cc)
in_ax ops.Shl sign width h = absurd (cc)
in_ax ops.Shr sign width h = absurd (cc)
in_ax ops.BitAnd sign width h = absurd (cc)
in_ax ops.BitXor sign width h = absurd (cc)
in_ax ops.BitOr sign width h = absurd (cc)

-- a word of a promoted type is the same in its own type
same_type : (t : IntType) (n : ℕ) → is_promoted t ≡ true → n < words_of (width_of t) → converted_word t t n ≡ n
same_type I.SChar n p h = cc
same_type I.UChar n p h = cc
same_type I.Short n p h = omega arith
same_type I.UShort n p h = omega arith
same_type I.Int n p h = omega arith
same_type I.UInt n p h = omega arith
same_type I.Long n p h = refl
same_type I.ULong n p h = refl

abbrev pub word_in : Bool → ℕ
word_in y = if y then 1 else 0

truth_word : (y : Bool) → word_of I.Int (truth y) ≡ word_in y
truth_word true = refl
truth_word false = refl

word_few : (y : Bool) → word_in y < 65536
word_few true = omega arith
word_few false = omega arith

low_word : (y : Bool) (a x : ℕ) → a + 256 * x ≡ word_in y → (a == 0) ≡ not y
low_word true a x e = let one : a ≡ 1 = omega (arith, e) in ap (λ n. n == 0) one
low_word false a x e = let none : a ≡ 0 = omega (arith, e) in ap (λ n. n == 0) none

module _ (op : BinaryOp) (t : IntType) (p q z : ℤ) (y : Bool) (compares : is_comparison op ≡ true) (left : InRange t p) (right : InRange t q) (is : calculated op t p q ≡ Ok (Whole z)) (truth_is : z ≡ truth y) where
  gives : GivesWord op t (word_of t p) (word_of t q) z
  gives = operators_are_on_words op t p q z (in_ax op true Ax compares).1 left right is

  -- the routine of the operator on the two words
  pub word_given : tos_result (tos_of op (is_signed_of t)) (width_of t) (word_of t p) (word_of t q) ≡ Some (word_in y)
  word_given = gives.given ∙ ap Some (as_word gives.word gives.is ∙ ap (word_of I.Int) truth_is ∙ truth_word y)
    where
      as_word : (n : ℕ) → result_word op t n ≡ word_of (result_type op t) z → n ≡ word_of I.Int z
      as_word n e = ap (λ (c : Bool). if c then n else narrowed t n) (sym compares) ∙ e ∙ ap (λ (c : Bool). word_of (if c then I.Int else t) z) compares

-- ---- behind the right side

-- what waited is taken off, and A is 1 or 0
pub record IsCompared (g : World) (a : Active) (pushed needs : ℕ) (c : Scene) (w : Placing) (k : Banks) (width : Width) (y : Bool) (t u : State) : Type 0 where
  pub ready : Ready g a pushed needs c w k u
  pub sp : sp_of u ≡ sp_of t + size_of width
  pub mem : (m : ℕ) → sp_of t + size_of width ≤ m → IsFree c.store w (At m) → u.mem m ≡ t.mem m
  pub z : u.regs.z ≡ not y

module _ (g : World) (a : Active) (op : BinaryOp) (t : IntType) (pushed needs : ℕ) (placed : IsPlacement g.code g.place) (compares : is_comparison op ≡ true) (promoted : is_promoted t ≡ true) (c : Scene) (w : Placing) (k : Banks) (x : State)
    (ready : Ready g a (pushed + size_of (width_of t)) needs c w k x) (p q z : ℤ) (y : Bool) (there : number_at (width_of t) x.mem (sp_of x) ≡ word_of t p) (here : primary_of (width_of t) x ≡ word_of t q) (left : InRange t p) (right : InRange t q) (is : calculated op t p q ≡ Ok (Whole z)) (truth_is : z ≡ truth y) where
  abbrev routine : TosOp
  routine = tos_of op (is_signed_of t)

  abbrev back : List Line
  back = (convert_code t t ++ wide_code op t) ++ implied Tay ∷ []

  one_call : wide_code op t ≡ call (Tos routine (width_of t)) ∷ []
  one_call = ap (λ (b : Bool). call (Tos routine (width_of t)) ∷ (if b then [] else narrow_code t)) compares

  module _ (s : State) (brought : IsBrought g a c w k x (primary_of (width_of t)) (converted_word t t (word_of t q)) false s) where
    later : Ready g a (pushed + size_of (width_of t)) needs c w k s
    later = ready_stays g a (pushed + size_of (width_of t)) needs needs c c w w k k x s (omega arith) ready brought.kept

    given : tos_result routine (width_of t) (number_at (width_of t) s.mem (sp_of s)) (primary_of (width_of t) s) ≡ Some (word_in y)
    given =
        let waits : number_at (width_of t) s.mem (sp_of s) ≡ word_of t p = number_waits g a pushed needs c c w w k k x s (width_of t) ready brought.kept ∙ there in
        let own : primary_of (width_of t) s ≡ word_of t q = brought.word ∙ same_type t (word_of t q) promoted (word_below (width_of t) q) in
        ap (λ n. tos_result routine (width_of t) n (primary_of (width_of t) s)) waits ∙ ap (tos_result routine (width_of t) (word_of t p)) own ∙ word_given op t p q z y compares left right is truth_is

    in_word : result_width routine (width_of t) ≡ Ax
    in_word = (in_ax op (is_signed_of t) (width_of t) compares).0

    small : word_in y < words_of (result_width routine (width_of t))
    small = subst (λ width. word_in y < words_of width) (sym in_word) (word_few y)

    called : Leads g a (wide_code op t) 2048 s (IsReadyPopped g a pushed needs c w k routine (width_of t) (word_in y) s)
    called = subst (λ ls. Leads g a ls 2048 s (IsReadyPopped g a pushed needs c w k routine (width_of t) (word_in y) s)) (sym one_call) (operator_leads g a pushed needs c w k s routine (width_of t) (word_in y) placed later given small)

    -- Z from A
    tested : (u : State) → IsReadyPopped g a pushed needs c w k routine (width_of t) (word_in y) s u → Leads g a (implied Tay ∷ []) 1 u (IsCompared g a pushed needs c w k (width_of t) y x)
    tested u h =
        let behind : Regs = apply false Tay 0 u.regs in
        let word : ax_of u ≡ word_in y = subst (λ width. primary_of width u ≡ word_in y) in_word h.result in
        leads_as g a (implied Tay ∷ []) 1 1 u (To u behind) (IsCompared g a pushed needs c w k (width_of t) y x) (omega arith) (λ v e.
        let kept = registers_kept g a pushed needs c w k u v placed h.ready (e.0 ∙ ap (λ (n : State). at_regs u n.regs) (sym e.0)) e.1 in
        record {
          ready = ready_stays g a pushed needs needs c c w w k k u v (omega arith) h.ready kept;
          sp = kept.sp ∙ h.are.sp ∙ ap (λ n. n + size_of (width_of t)) brought.kept.sp;
          mem = λ m le free. ap (λ (n : State). n.mem m) e.0 ∙ h.are.mem m (omega (arith, le, brought.kept.sp)) ∙ (brought.kept.kept m (omega (arith, le)) free).0;
          z = ap (λ (n : State). n.regs.z) e.0 ∙ low_word y u.regs.a u.regs.x word;
        })
        (implied_leads g a u placed (is_on g a pushed needs c w k u placed h.ready) Tay refl u.regs h.ready.joins.bytes)

  pub back_leads : Leads g a back 2305 x (IsCompared g a pushed needs c w k (width_of t) y x)
  back_leads =
      leads_then g a (convert_code t t ++ wide_code op t) (implied Tay ∷ []) 2304 1 x (λ u. (s : State) × IsBrought g a c w k x (primary_of (width_of t)) (converted_word t t (word_of t q)) false s × IsReadyPopped g a pushed needs c w k routine (width_of t) (word_in y) s u) (IsCompared g a pushed needs c w k (width_of t) y x)
      (leads_then g a (convert_code t t) (wide_code op t) 256 2048 x (IsBrought g a c w k x (primary_of (width_of t)) (converted_word t t (word_of t q)) false) (λ u. (s : State) × IsBrought g a c w k x (primary_of (width_of t)) (converted_word t t (word_of t q)) false s × IsReadyPopped g a pushed needs c w k routine (width_of t) (word_in y) s u)
      (convert_leads g a (pushed + size_of (width_of t)) needs c w k x placed ready t t (word_of t q) false here (λ h. cc))
      (λ s h. leads_as g a (wide_code op t) 2048 2048 s (IsReadyPopped g a pushed needs c w k routine (width_of t) (word_in y) s) (λ u. (v : State) × IsBrought g a c w k x (primary_of (width_of t)) (converted_word t t (word_of t q)) false v × IsReadyPopped g a pushed needs c w k routine (width_of t) (word_in y) v u) (omega arith) (λ u e. (s, h, e)) (called s h)))
      (λ u h. tested h.0 h.1 u h.2)

-- ---- over both sides

module _ (g : World) (a : Active) (m : Manner) (op : BinaryOp) (t : IntType) (s : Bool) (to own needs more_needs pushed : ℕ) (first second : List Item → List Item) (left right : List Line) (placed : IsPlacement g.code g.place) (heavy : m.light ≡ false) (few : m.over ≤ 1000) (compares : is_comparison op ≡ true) (promoted : is_promoted t ≡ true) where
  abbrev size : ℕ
  size = size_of (width_of t)

  abbrev push : List Line
  push = push_code (width_of t)

  abbrev work : List Line
  work = convert_code t t ++ wide_code op t

  abbrev end : List Line
  end = work ++ implied Tay ∷ branch_code s to

  abbrev body : List Line
  body = left ++ (push ++ (right ++ end))

  abbrev all : List Line
  all = body ++ Label own ∷ []

  -- the lines behind the right side, in two parts
  parts : (code : List Line) (p : ℕ) → HasAt code p end → HasAt code p (work ++ implied Tay ∷ []) × HasAt code (p + length work + 1) (branch_code s to)
  parts code p has =
      let behind : HasAt code (p + length work) (implied Tay ∷ branch_code s to) = has_back code p work (implied Tay ∷ branch_code s to) has in
      let next : suc (p + length work) ≡ p + length work + 1 = omega arith in
      (join code p work (has_front code p work (implied Tay ∷ branch_code s to) has) (behind.0, tt), subst (λ q. HasAt code q (branch_code s to)) next behind.1)
    where
      join : (ls : List Line) (q : ℕ) (xs : List Line) → HasAt ls q xs → HasAt ls (q + length xs) (implied Tay ∷ []) → HasAt ls q (xs ++ implied Tay ∷ [])
      join ls q [] h i = let e : q + 0 ≡ q = omega arith in subst (λ n. HasAt ls n (implied Tay ∷ [])) e i
      join ls q (y ∷ xs) h i = let e : q + length (y ∷ xs) ≡ suc q + length xs = omega arith in (h.0, join ls (suc q) xs h.1 (subst (λ n. HasAt ls n (implied Tay ∷ [])) e i))

  -- behind both sides, where the left one began at the state r and the right one at the state s2
  module _ (n weight p : ℕ) (k : List Item) (vs : List Value) (c : Scene) (w : Placing) (b : Banks) (r : State) (has : HasAt (lines_of g a) p all) (rest : RestOfSettled g a m s to n weight (p + length all) k vs c w b r)
      (c1 : Scene) (w1 : Placing) (b1 : Banks) (s1 : State) (va : Value) (done1 : Done g a Valued (Number t) c w b r va c1 w1 b1 s1) (left1 : IsLeft m c r c1 s1) (s2 : State) (push2 : IsPushed g a pushed more_needs c1 w1 b1 (width_of t) s1 s2)
      (c3 : Scene) (w3 : Placing) (b3 : Banks) (s3 : State) (vb : Value) (done3 : Done g a Valued (Number t) c1 w1 b1 s2 vb c3 w3 b3 s3) (left3 : IsLeft m c1 s2 c3 s3) where
    abbrev at : ℕ
    at = p + length left + length push + length right

    abbrev branch_at : ℕ
    branch_at = at + length work + 1

    label_at : p + length body ≡ suc branch_at
    label_at = omega (arith, length-append left (push ++ (right ++ end)), length-append push (right ++ end), length-append right end, length-append work (implied Tay ∷ branch_code s to))

    label : HasAt (lines_of g a) (suc branch_at) (Label own ∷ [])
    label = subst (λ q. HasAt (lines_of g a) q (Label own ∷ [])) label_at (has_back (lines_of g a) p body (Label own ∷ []) has)

    ends : place_in g a (suc branch_at) ≡ place_in g a (p + length all)
    ends = let e : suc (suc branch_at) ≡ p + length all = omega (arith, label_at, length-append body (Label own ∷ [])) in labels_are_passed (setting_in g) a.symbol (suc branch_at) own label.0 ∙ ap (place_in g a) e

    ready3 : Ready g a (pushed + size) more_needs c3 w3 b3 s3
    ready3 = ready_stays g a (pushed + size) more_needs more_needs c1 c3 w1 w3 b1 b3 s2 s3 (omega arith) push2.ready done3.kept

    waited : number_at (width_of t) s3.mem (sp_of s3) ≡ primary_of (width_of t) s1
    waited = number_waits g a pushed more_needs c1 c3 w1 w3 b1 b3 s2 s3 (width_of t) push2.ready done3.kept ∙ push2.word

    kept_to : (y : Bool) (v : State) → IsCompared g a pushed more_needs c3 w3 b3 (width_of t) y s3 v → Kept g a c w b r c3 w3 b3 v
    kept_to y v h = kept_goes_on g a c c1 c3 w w1 w3 b b1 b3 r s1 v done1.kept (over_pushed g a pushed more_needs c1 c3 w1 w3 b1 b3 (width_of t) s1 s2 s3 v push2 done3.kept h.ready h.sp h.mem)

    left_to : (v : State) → IsLeft m c r c3 v
    left_to v = left_then m c c1 c3 r s1 v left1 (left_then m c1 c3 c3 s1 s3 v (left_heavy m c1 c3 s2 s3 s1 s3 heavy left3) (left_scene m c3 s3 v heavy))

    abbrev more_weight : ℕ
    more_weight = weight + 2344 + 2600 + m.over + 4000

    of_numbers : (o : ℕ) → o < n → (seen : Seen) → HasAt (lines_of g a) at end → HasTurns g c3.turns (place_in g a at) seen → (x : Value) → IsCalculated op t va vb x
        → Follows g o more_weight (Running k (x ∷ vs) c3) (place_in g a at) s3 seen
    of_numbers o lt seen there turned x h =
        let fits1 : InRange t h.a = subst (MayFit Valued (Number t)) h.left done1.fits in
        let fits3 : InRange t h.b = subst (MayFit Valued (Number t)) h.right done3.fits in
        let result1 : primary_of (width_of t) s1 ≡ word_of t h.a = subst (λ v. ResultIs Valued w1 (width_of t) v s1) h.left done1.result in
        let result3 : primary_of (width_of t) s3 ≡ word_of t h.b = subst (λ v. ResultIs Valued w3 (width_of t) v s3) h.right done3.result in
        let truth_is = compared op t h.a h.b h.z compares h.is in
        let y : Bool = truth_is.0 in
        let value : Running k (Whole (truth y) ∷ vs) c3 ≡ Running k (x ∷ vs) c3 = ap (λ v. Running k (v ∷ vs) c3) (ap Whole (sym truth_is.1) ∙ sym h.result) in
        let same : at + length (work ++ implied Tay ∷ []) ≡ branch_at = omega (arith, length-append work (implied Tay ∷ [])) in
        let has2 = parts (lines_of g a) at there in
        subst (λ z. Follows g o more_weight z (place_in g a at) s3 seen) value
        (follows_weaken g o (2305 + (2 + (weight + 2700 + m.over))) more_weight (Running k (Whole (truth y) ∷ vs) c3) (place_in g a at) s3 seen (omega arith)
        (back_leads g a op t pushed more_needs placed compares promoted c3 w3 b3 s3 ready3 h.a h.b h.z y (waited ∙ result1) result3 fits1 fits3 h.is truth_is.1 o (2 + (weight + 2700 + m.over)) at c3.turns (Running k (Whole (truth y) ∷ vs) c3) seen has2.0 turned (λ v after taken turned2.
        subst (λ q. Follows g o (2 + (weight + 2700 + m.over)) (Running k (Whole (truth y) ∷ vs) c3) (place_in g a q) v after) (sym same)
        (branch_settles g a m s to pushed more_needs n weight branch_at (p + length all) ends k vs c w b r rest o lt y c3 w3 b3 v after taken.ready (kept_to y v taken) (left_to v) (by_sense s) (is_branch s to) has2.1 (is_told s y v taken.z)
        (subst (λ q. HasTurns g c3.turns (place_in g a q) after) same turned2)))))

    stepped : (o : ℕ) → o < n → (seen : Seen) → HasAt (lines_of g a) at end → HasTurns g c3.turns (place_in g a at) seen → (x : Result Value Why) → binary c3.store op (Number t) (Number t) va vb ≡ x
        → Follows g o more_weight (go_on x k vs c3) (place_in g a at) s3 seen
    stepped o lt seen there turned (Err why) e = nothing_follows g why o more_weight (place_in g a at) s3 seen
    stepped o lt seen there turned (Ok x) e = of_numbers o lt seen there turned x (is_calculated c3.store op t t va vb x e)

    followed : (j : ℕ) → j ≤ n → (seen : Seen) → HasAt (lines_of g a) at end → HasTurns g c3.turns (place_in g a at) seen → Follows g j (weight + 2344 + 2600 + m.over) (Running (Apply2 op (Number t) (Number t) ∷ k) (vb ∷ va ∷ vs) c3) (place_in g a at) s3 seen
    followed j le seen there turned =
        steps_earn g j (weight + 2344 + 2600 + m.over) (Apply2 op (Number t) (Number t)) k (vb ∷ va ∷ vs) c3 (place_in g a at) s3 seen (ready_is_calm g a (pushed + size) more_needs c3 w3 b3 s3 ready3).calm ready3.joins.output ready3.joins.ended (omega (arith, turned)) (λ o less.
        stepped o (omega (arith, le, less)) seen there turned (binary c3.store op (Number t) (Number t) va vb) refl)

  -- so many bytes wait while the right side comes
  two_wait : (c : Scene) (w : Placing) (b : Banks) (r : State) → Ready g a (pushed + size) more_needs c w b r → more pushed (waiting (width_of t)) ≡ pushed + size
  two_wait c w b r ready = ap (λ n. (pushed + n) % 65536) (waiting_is (width_of t)) ∙ mod-eq_of_lt (omega (arith, ready.sp, ready.joins.top))

  settles : DoesIn g a m Valued (Number t) first needs pushed left → DoesIn g a m Valued (Number t) second more_needs (more pushed (waiting (width_of t))) right
      → SettlesIn g a m s to (on_numbers op t t first second) (max needs (1 + more_needs)) pushed all
  settles before behind n weight p k vs c w b r seen has ready turns rest =
      let lines = lines_of g a in
      let has0 : HasAt lines p body = has_front lines p body (Label own ∷ []) has in
      let has1 : HasAt lines (p + length left) (push ++ (right ++ end)) = has_back lines p left (push ++ (right ++ end)) has0 in
      let has2 : HasAt lines (p + length left + length push) (right ++ end) = has_back lines (p + length left) push (right ++ end) has1 in
      let ready0 : Ready g a pushed needs c w b r = record { joins = ready.joins; sp = ready.sp; room = omega (arith, ready.room); none_pushed = ready.none_pushed } in
      before n weight p (second (Apply2 op (Number t) (Number t) ∷ k)) vs c w b r seen (has_front lines p left (push ++ (right ++ end)) has0) ready0 turns (λ j va c1 w1 b1 s1 seen1 lt done1 left1 turned1.
      let ready1 : Ready g a pushed (1 + more_needs) c1 w1 b1 s1 = ready_stays g a pushed (max needs (1 + more_needs)) (1 + more_needs) c c1 w w1 b b1 r s1 (omega arith) ready done1.kept in
      follows_weaken g j (256 + (weight + 2344)) (weight + 2600 + m.over) (Running (second (Apply2 op (Number t) (Number t) ∷ k)) (va ∷ vs) c1) (place_in g a (p + length left)) s1 seen1 (omega arith)
      (push_leads g a pushed more_needs c1 w1 b1 s1 placed ready1 (width_of t) j (weight + 2344) (p + length left) c1.turns (Running (second (Apply2 op (Number t) (Number t) ∷ k)) (va ∷ vs) c1) seen1 (has_front lines (p + length left) push (right ++ end) has1) turned1 (λ s2 seen2 push2 turned2.
      let ready2 : Ready g a (more pushed (waiting (width_of t))) more_needs c1 w1 b1 s2 = subst (λ q. Ready g a q more_needs c1 w1 b1 s2) (sym (two_wait c1 w1 b1 s2 push2.ready)) push2.ready in
      behind j (weight + 2344) (p + length left + length push) (Apply2 op (Number t) (Number t) ∷ k) (va ∷ vs) c1 w1 b1 s2 seen2 (has_front lines (p + length left + length push) right end has2) ready2 turned2 (λ i vb c3 w3 b3 s3 seen3 lt3 done3 left3 turned3.
      followed n weight p k vs c w b r has rest c1 w1 b1 s1 va done1 left1 s2 push2 c3 w3 b3 s3 vb done3 left3 i (omega (arith, lt, lt3)) seen3 (has_back lines (p + length left + length push) right end has2) turned3))))

pub stacked_comparisons_settle : StackedComparisonsSettle
stacked_comparisons_settle g a m op t s to own needs more_needs pushed first second left right placed heavy few compares promoted before behind =
    settles g a m op t s to own needs more_needs pushed first second left right placed heavy few compares promoted before behind
