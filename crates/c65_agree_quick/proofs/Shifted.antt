-- The lines of a shift by a number of bits, whichever they are.
use Rattle.std.proofs.Common.{◌≡◌, ℕ, zero, suc, ◌+◌, ◌-◌, ◌*◌, ◌/◌, ◌%◌, ◌<◌, ◌≤◌, List, [], ◌∷◌, ◌++◌, length, Bool, true, false, refl, sym, ap, ◌∙◌, subst, arith, length-append}
use Rattle.std.specs.Prelude.{◌||◌, nat_lt, nat_le, if◌then◌else◌, replicate}
use Rattle.std.proofs.lemmas.List.{length-replicate}
use Rattle.std.proofs.lemmas.Bool.{and_parts, ltb-true, ltb-false, leb-true}
use Rattle.c65_mach.specs.declared.rows.Op.TheVariants.{Asl, Lda, Ldx, Lsr, Tax}
use Rattle.c65_meaning.specs.State.{Scene}
use Rattle.c65_code.specs.declared.line.Line.{Line}
use Rattle.c65_code.specs.declared.line.Line.TheVariants.{Label}
use Rattle.c65_code.specs.declared.routine.TosOp.{TosOp}
use Rattle.c65_code.specs.declared.routine.TosOp.TheVariants as tos
use Rattle.c65_code.specs.declared.routine.Width.{Width}
use Rattle.c65_code.specs.declared.routine.Width.TheVariants.{Ax, Eax}
use Rattle.c65_code.specs.LineState.{State, ax_of, eax_of, IsBytes}
use Rattle.c65_code.specs.Placement.{IsPlacement}
use Rattle.c65_code.specs.Rows.{primary_of}
use Rattle.c65_genwide.specs.Lines.{value}
use Rattle.c65_genload.specs.Words.{implied, shift_a}
use Rattle.c65_genshift.specs.Shifts.{calls_code, turns_code, left_turn, right_turn, left_byte_code, right_byte_code, left_one_code, left_two_code, left_three_code, right_one_code, right_two_code, right_three_code, labelled, left_word_code, right_word_code, left_long_code, right_long_code, shift_code, is_short, is_short_long}
use Rattle.c65_agree_store.specs.Stands.{Placing, Banks}
use Rattle.c65_agree_state.specs.World.{World, Active, lines_of, IsPlaced}
use Rattle.c65_agree_state.specs.Exprs.{Ready}
use Rattle.c65_agree_frame.specs.Leads.{Leads}
use Rattle.c65_agree_frame.proofs.Leads.{after_lines, leads_then, leads_as}
use Rattle.c65_agree_load.proofs.Kept.{is_on}
use Rattle.c65_agree_operate.proofs.Routines.{label_leads}
use Rattle.c65_agree_quick.specs.Laws.{IsNow}
use Rattle.c65_agree_quick.proofs.Powers.{moved, iterated, IsNear, steps_move, left_again, right_again}
use Rattle.c65_agree_quick.proofs.Scratch.{AreScratch, scratch_leads, now_then}
use Rattle.c65_agree_quick.proofs.Once.{word_small, calls_lead}
use Rattle.c65_agree_quick.proofs.Turns.{Turns, body, cost, cost_is, turns_lead, turns_left, turns_right}
use Rattle.c65_agree_quick.proofs.Bytes.{three_up, left_byte_scratch, left_byte_word, right_byte_scratch, right_byte_word, left_one_scratch, left_one_word, left_two_scratch, left_two_word, left_three_scratch, left_three_word, right_one_scratch, right_one_word, right_two_scratch, right_two_word, right_three_scratch, right_three_word}

-- the lines that are put for a count below a bound, or for the others
pub chosen_below : (g : World) (a : Active) (x y : List Line) (w : ℕ) (t : State) (Behind : State → Type 0) (n k : ℕ) → (n < k → Leads g a x w t Behind) → (k ≤ n → Leads g a y w t Behind) → Leads g a (if nat_lt n k then x else y) w t Behind
chosen_below g a x y w t Behind n k p q = go (nat_lt n k) refl
  where
    go : (b : Bool) → nat_lt n k ≡ b → Leads g a (if b then x else y) w t Behind
    go true e = p (ltb-true n k e)
    go false e = q (ltb-false n k e)

pub labelled_leads : (g : World) (a : Active) (label w : ℕ) (lines : List Line) (t : State) (Behind : State → Type 0) → Leads g a lines w t Behind → Leads g a (labelled label lines) w t Behind
labelled_leads g a label w lines t Behind h =
    leads_as g a (labelled label lines) (w + 0) w t Behind Behind (omega arith) (λ u b. b)
    (leads_then g a lines (Label label ∷ []) w 0 t Behind Behind h (λ u b. label_leads g a label u Behind b))

pub same_after : (n k : ℕ) → k ≤ n → k + (n - k) ≡ n
same_after n k h = omega arith

-- a few bits behind whole bytes
pub short_below : (n : ℕ) → is_short_long n ≡ true → n < 32
short_below n h = ltb-true n 32 (and_parts (nat_lt n 32) (nat_lt (n % 8) 4 || nat_le 24 n) h).0

few_more : (n : ℕ) → is_short_long n ≡ true → n < 24 → n % 8 < 4
few_more n h less = by (nat_lt (n % 8) 4) (nat_le 24 n) refl refl (and_parts (nat_lt n 32) (nat_lt (n % 8) 4 || nat_le 24 n) h).1
  where
    by : (x y : Bool) → nat_lt (n % 8) 4 ≡ x → nat_le 24 n ≡ y → (x || y) ≡ true → n % 8 < 4
    by true y e f h = ltb-true (n % 8) 4 e
    by false true e f h = let much : 24 ≤ n = leb-true 24 n f in absurd (omega (arith, much, less))
    by false false e f h = absurd (cc)

-- a shift of A by some bits, and a few lines more
pub repeated_short : (n : ℕ) (l : Line) (ls : List Line) → n < 8 → length ls ≤ 4 → length (replicate n l ++ ls) ≤ 20
repeated_short n l ls few more = omega (arith, length-append (replicate n l) ls, length-replicate n l)

module _ (g : World) (a : Active) (pushed needs : ℕ) (c : Scene) (w : Placing) (b : Banks) (t : State) (placed : IsPlacement g.code g.place) (own : IsPlaced (lines_of g a)) (ready : Ready g a pushed needs c w b t) (label : ℕ) where
  abbrev Moved : TosOp → Width → ℕ → State → Type 0
  Moved op width n = IsNow g a c w b width (moved op width (primary_of width t) n) t

  are_bytes : IsBytes t
  are_bytes = (is_on g a pushed needs c w b t placed ready).stacks.calm.bytes

  called : (op : TosOp) (width : Width) (n : ℕ) → n < 4 → IsNear op n → Leads g a (calls_code op width n) 800 t (Moved op width n)
  called op width n few near =
      leads_as g a (calls_code op width n) (256 * n) 800 t (Moved op width n) (Moved op width n) (omega (arith, few)) (λ u h. h)
      (calls_lead g a pushed needs c w b op width placed n (primary_of width t) t ready refl near)

  -- lines on scratch bytes that shift by so many bits
  scratch : (op : TosOp) (width : Width) (ls : List Line) (n k : ℕ) → n ≡ k → length ls ≤ 800 → AreScratch ls → primary_of width (after_lines g ls t) ≡ moved op width (primary_of width t) n → Leads g a ls 800 t (Moved op width k)
  scratch op width ls n k same few own is =
      let word : primary_of width (after_lines g ls t) ≡ moved op width (primary_of width t) k = is ∙ ap (moved op width (primary_of width t)) same in
      leads_as g a ls (length ls) 800 t (Moved op width k) (Moved op width k) few (λ u h. h) (scratch_leads g a pushed needs c w b width placed ls (moved op width (primary_of width t) k) t ready own word)

  -- whole bytes, and then calls
  bytes_then : (op : TosOp) (ls : List Line) (n k : ℕ) → k + (n - k) ≡ n → n - k < 4 → IsNear op (n - k) → length ls ≤ 8 → AreScratch ls → eax_of (after_lines g ls t) ≡ moved op Eax (eax_of t) k
      → moved op Eax (moved op Eax (eax_of t) k) (n - k) ≡ moved op Eax (eax_of t) (k + (n - k)) → Leads g a (ls ++ calls_code op Eax (n - k)) 800 t (Moved op Eax n)
  bytes_then op ls n k same few near short own is again =
      let m : ℕ = moved op Eax (eax_of t) k in
      let all : moved op Eax m (n - k) ≡ moved op Eax (eax_of t) n = again ∙ ap (moved op Eax (eax_of t)) same in
      leads_as g a (ls ++ calls_code op Eax (n - k)) (length ls + 256 * (n - k)) 800 t (Moved op Eax n) (Moved op Eax n) (omega (arith, few, short)) (λ u h. h)
      (now_then g a pushed needs c w b Eax placed ls (calls_code op Eax (n - k)) (length ls) (256 * (n - k)) m (moved op Eax (eax_of t) n) t ready
      (scratch_leads g a pushed needs c w b Eax placed ls m t ready own is)
      (λ u ready2 is2. subst (λ x. Leads g a (calls_code op Eax (n - k)) (256 * (n - k)) u (IsNow g a c w b Eax x u)) all (calls_lead g a pushed needs c w b op Eax placed (n - k) m u ready2 is2 near)))

  -- ---- words

  -- turns in a loop, of which there is at least one
  turned : (op : TosOp) (turn : List Line) (f : ℕ → ℕ) → Turns g turn f → length turn ≡ 2 → (n : ℕ) → 4 ≤ n → n < 8 → ((k : ℕ) → iterated f k (ax_of t) ≡ moved op Ax (ax_of t) k) → Leads g a (turns_code turn n label) 800 t (Moved op Ax n)
  turned op turn f turns two n some few is = by n refl
    where
      bounded : (k x : ℕ) → x ≡ suc k * (length (body g a pushed needs c w b t placed own ready turn f turns label) + 2) → suc k < 8 → 2 + (x + 1) ≤ 800
      bounded k x e small =
          let long : length (body g a pushed needs c w b t placed own ready turn f turns label) ≡ 3 = length-append turn _ ∙ ap (λ y. y + 1) two in
          let all : x ≡ suc k * 5 = e ∙ ap (λ y. suc k * (y + 2)) long in
          omega (arith, all, small)

      by : (k : ℕ) → n ≡ k → Leads g a (turns_code turn n label) 800 t (Moved op Ax n)
      by zero e = absurd (omega (arith, e, some))
      by (suc k) e =
          let weight : cost g a pushed needs c w b t placed own ready turn f turns label k ≡ suc k * (length (body g a pushed needs c w b t placed own ready turn f turns label) + 2) = cost_is g a pushed needs c w b t placed own ready turn f turns label k in
          subst (λ x. Leads g a (turns_code turn x label) 800 t (Moved op Ax x)) (sym e)
          (leads_as g a (turns_code turn (suc k) label) (2 + (cost g a pushed needs c w b t placed own ready turn f turns label k + 1)) 800 t (IsNow g a c w b Ax (iterated f (suc k) (ax_of t)) t) (Moved op Ax (suc k)) (bounded k (cost g a pushed needs c w b t placed own ready turn f turns label k) weight (omega (arith, e, few)))
          (λ u h. record { kept = h.kept; word = h.word ∙ is (suc k) })
          (turns_lead g a pushed needs c w b t placed own ready turn f turns label k (omega (arith, e, few))))

  left_word : (n : ℕ) → n < 16 → Leads g a (left_word_code n label) 800 t (Moved tos.Shl Ax n)
  left_word n less =
      let end : State → Type 0 = Moved tos.Shl Ax n in
      chosen_below g a _ _ 800 t end n 4 (λ few. labelled_leads g a label 800 (calls_code tos.Shl Ax n) t end (called tos.Shl Ax n few tt)) (λ four.
      chosen_below g a _ _ 800 t end n 8 (λ few. turned tos.Shl left_turn (λ x. (2 * x) % 65536) (turns_left g) refl n four few (λ k. steps_move tos.Shl Ax k (ax_of t) (word_small Ax t are_bytes) tt)) (λ eight.
      labelled_leads g a label 800 (left_byte_code (n - 8)) t end (scratch tos.Shl Ax (left_byte_code (n - 8)) (8 + (n - 8)) n (same_after n 8 eight) (omega (arith, repeated_short (n - 8) (shift_a Asl) (implied Tax ∷ value Lda 0 ∷ []) (omega (arith, less)) (omega arith))) (left_byte_scratch (n - 8)) (left_byte_word g (n - 8) t are_bytes))))

  right_word : (n : ℕ) → n < 16 → Leads g a (right_word_code n label) 800 t (Moved tos.Shr Ax n)
  right_word n less =
      let end : State → Type 0 = Moved tos.Shr Ax n in
      chosen_below g a _ _ 800 t end n 4 (λ few. labelled_leads g a label 800 (calls_code tos.Shr Ax n) t end (called tos.Shr Ax n few tt)) (λ four.
      chosen_below g a _ _ 800 t end n 8 (λ few. turned tos.Shr right_turn (λ x. x / 2) (turns_right g) refl n four few (λ k. steps_move tos.Shr Ax k (ax_of t) (word_small Ax t are_bytes) tt)) (λ eight.
      labelled_leads g a label 800 (right_byte_code (n - 8)) t end (scratch tos.Shr Ax (right_byte_code (n - 8)) (8 + (n - 8)) n (same_after n 8 eight) (omega (arith, repeated_short (n - 8) (shift_a Lsr) (value Ldx 0 ∷ []) (omega (arith, less)) (omega arith))) (right_byte_scratch (n - 8)) (right_byte_word g (n - 8) t are_bytes))))

  -- ---- long words

  left_long : (n : ℕ) → n < 32 → (n < 24 → n % 8 < 4) → Leads g a (left_long_code n) 800 t (Moved tos.Shl Eax n)
  left_long n less rest =
      let end : State → Type 0 = Moved tos.Shl Eax n in
      chosen_below g a _ _ 800 t end n 8 (λ one. called tos.Shl Eax n (omega (arith, one, rest (omega (arith, one)))) tt) (λ eight.
      chosen_below g a _ _ 800 t end n 16 (λ two. bytes_then tos.Shl left_one_code n 8 (same_after n 8 eight) (omega (arith, two, eight, rest (omega (arith, two)))) tt (omega arith) left_one_scratch (left_one_word g t are_bytes) (left_again Eax (eax_of t) 8 (n - 8))) (λ sixteen.
      chosen_below g a _ _ 800 t end n 24 (λ three. bytes_then tos.Shl left_two_code n 16 (same_after n 16 sixteen) (omega (arith, three, sixteen, rest three)) tt (omega arith) left_two_scratch (left_two_word g t are_bytes) (left_again Eax (eax_of t) 16 (n - 16))) (λ more.
      scratch tos.Shl Eax (left_three_code (n - 24)) (24 + (n - 24)) n (same_after n 24 more) (omega (arith, repeated_short (n - 24) (shift_a Asl) three_up (omega (arith, less)) (omega arith))) (left_three_scratch (n - 24)) (left_three_word g (n - 24) t are_bytes))))

  right_long : (n : ℕ) → n < 32 → (n < 24 → n % 8 < 4) → Leads g a (right_long_code n) 800 t (Moved tos.Shr Eax n)
  right_long n less rest =
      let end : State → Type 0 = Moved tos.Shr Eax n in
      chosen_below g a _ _ 800 t end n 8 (λ one. called tos.Shr Eax n (omega (arith, one, rest (omega (arith, one)))) tt) (λ eight.
      chosen_below g a _ _ 800 t end n 16 (λ two. bytes_then tos.Shr right_one_code n 8 (same_after n 8 eight) (omega (arith, two, eight, rest (omega (arith, two)))) tt (omega arith) right_one_scratch (right_one_word g t are_bytes) (right_again (eax_of t) 8 (n - 8))) (λ sixteen.
      chosen_below g a _ _ 800 t end n 24 (λ three. bytes_then tos.Shr right_two_code n 16 (same_after n 16 sixteen) (omega (arith, three, sixteen, rest three)) tt (omega arith) right_two_scratch (right_two_word g t are_bytes) (right_again (eax_of t) 16 (n - 16))) (λ more.
      scratch tos.Shr Eax (right_three_code (n - 24)) (24 + (n - 24)) n (same_after n 24 more) (omega (arith, length-replicate (n - 24) (shift_a Lsr), less)) (right_three_scratch (n - 24)) (right_three_word g (n - 24) t are_bytes))))

  -- ---- all of them

  pub shift_leads : (op : TosOp) (width : Width) (n : ℕ) → is_short op width n ≡ true → Leads g a (shift_code op width n label) 800 t (Moved op width n)
  shift_leads tos.Shl Ax n h = left_word n (ltb-true n 16 h)
  shift_leads tos.Shl Eax n h = labelled_leads g a label 800 (left_long_code n) t (Moved tos.Shl Eax n) (left_long n (short_below n h) (few_more n h))
  shift_leads tos.Shr Ax n h = right_word n (ltb-true n 16 h)
  shift_leads tos.Shr Eax n h = labelled_leads g a label 800 (right_long_code n) t (Moved tos.Shr Eax n) (right_long n (short_below n h) (few_more n h))
  shift_leads tos.Asr width n h = let few : n < 4 = ltb-true n 4 h in labelled_leads g a label 800 (calls_code tos.Asr width n) t (Moved tos.Asr width n) (called tos.Asr width n few few)
  shift_leads _ width n h = absurd (cc)
