-- What jumps leave of pending work: a tail, which is no heavier.
use Rattle.std.proofs.Common.{◌≡◌, ℕ, ◌+◌, ◌≤◌, List, [], ◌∷◌, ◌++◌, Option, Some, None, refl, arith}
use Rattle.std.specs.Prelude.{⊤}
use Rattle.c65_csem.specs.Trees.{UnitTy}
use Rattle.c65_meaning.specs.Items.{Item, Begin, End, Branch, Test, Pass, Enter, Next, Check, Select, EndSwitch, Jump, Leave}
use Rattle.c65_meaning.specs.After.{Left, ending, up_to_call, up_to_break, up_to_continue}
use Rattle.c65_meaning_law_turns.specs.Weights.{weight}
use Rattle.c65_meaning_law_turns.specs.Places.{IsFrom}

abbrev pub OfLeft : (Left → Type 0) → Option Left → Type 0
OfLeft P None = ⊤
OfLeft P (Some r) = P r

ended : (P Q : Left → Type 0) (objects : List ℕ) (m : Option Left) → ((r : Left) → P r → Q (record r { objects = objects ++ r.objects })) → OfLeft P m → OfLeft Q (ending objects m)
ended P Q objects None f h = tt
ended P Q objects (Some r) f h = f r h

widened : (P Q : Left → Type 0) (m : Option Left) → ((r : Left) → P r → Q r) → OfLeft P m → OfLeft Q m
widened P Q None f h = tt
widened P Q (Some r) f h = f r h

-- up to the end of the active call, which stays
abbrev pub Calls : Left → Type 0
Calls r = (k : List Item) × (r.work ≡ Leave ∷ k)

pub call_left : (k : List Item) → OfLeft Calls (up_to_call k)
call_left [] = tt
call_left (Leave ∷ k) = (k, refl)
call_left (End objects ∷ k) = ended Calls Calls objects (up_to_call k) (λ r h. h) (call_left k)
call_left (_ ∷ k) = call_left k

module _ (u : UnitTy) (low : ℕ) where
  pub record Stays (most : ℕ) (r : Left) : Type 0 where
    pub light : weight u r.work ≤ most
    pub from : IsFrom low r.work

  more : (m n : ℕ) (o : Option Left) → m ≤ n → OfLeft (Stays m) o → OfLeft (Stays n) o
  more m n o le h = widened (Stays m) (Stays n) o (λ r s. record { light = let x : weight u r.work ≤ m = s.light in omega arith; from = s.from }) h

  -- an item that is no end of a call goes before work that is no heavier
  heavier : (i : Item) (k : List Item) → (i ≡ Leave → ⊥) → weight u k ≤ weight u (i ∷ k)
  heavier Leave k n = absurd (n refl)
  heavier _ k n = omega arith

  rest_from : (i : Item) (k : List Item) → (i ≡ Leave → ⊥) → IsFrom low (i ∷ k) → IsFrom low k
  rest_from (Begin n objects ss) k e h = h.1
  rest_from (Branch m a n b) k e h = h.2
  rest_from (Test l) k e h = h.1
  rest_from (Pass l) k e h = h.1
  rest_from (Enter l) k e h = h.1
  rest_from (Select left n body) k e h = h.1
  rest_from (Jump l n) k e h = h.1
  rest_from Leave k e h = absurd (e refl)
  rest_from _ k e h = h

  pub break_left : (k : List Item) → IsFrom low k → OfLeft (Stays (weight u k)) (up_to_break k)
  break_left [] h = tt
  break_left (Next l ∷ k) h = record { light = omega arith; from = h }
  break_left (Check l ∷ k) h = record { light = omega arith; from = h }
  break_left (EndSwitch ∷ k) h = record { light = omega arith; from = h }
  break_left (Leave ∷ k) h = tt
  break_left (End objects ∷ k) h = more (weight u k) ((1 + weight u k)) (ending objects (up_to_break k)) (omega arith) (ended (Stays (weight u k)) (Stays (weight u k)) objects (up_to_break k) (λ r s. record { light = s.light; from = s.from }) (break_left k h))
  break_left (i ∷ k) h = more (weight u k) (weight u (i ∷ k)) (up_to_break k) (heavier i k (λ e. cc)) (break_left k (rest_from i k (λ e. cc) h))

  pub continue_left : (k : List Item) → IsFrom low k → OfLeft (Stays (weight u k)) (up_to_continue k)
  continue_left [] h = tt
  continue_left (Next l ∷ k) h = record { light = omega arith; from = h }
  continue_left (Check l ∷ k) h = record { light = omega arith; from = h }
  continue_left (Leave ∷ k) h = tt
  continue_left (End objects ∷ k) h = more (weight u k) ((1 + weight u k)) (ending objects (up_to_continue k)) (omega arith) (ended (Stays (weight u k)) (Stays (weight u k)) objects (up_to_continue k) (λ r s. record { light = s.light; from = s.from }) (continue_left k h))
  continue_left (i ∷ k) h = more (weight u k) (weight u (i ∷ k)) (up_to_continue k) (heavier i k (λ e. cc)) (continue_left k (rest_from i k (λ e. cc) h))
