-- The lines of an operator on AX and a word that is read where it lies, by their forms, as words.
use Rattle.std.proofs.Common.{◌≡◌, ℕ, ◌+◌, ◌*◌, ◌%◌, ◌<◌, ◌≤◌, List, [], ◌∷◌, ◌++◌, ℤ, pos, int_div, unsigned_abs, true, refl, sym, ap, ◌∙◌, subst, arith}
use Rattle.std.specs.Prelude.{◌==◌}
use Rattle.std.proofs.lemmas.List.{append-nil}
use Rattle.c65_base.specs.declared.operators.BinaryOp.{BinaryOp}
use Rattle.c65_base.specs.declared.operators.BinaryOp.TheVariants as ops
use Rattle.c65_ints.specs.declared.types.IntType.TheVariants.{UInt}
use Rattle.c65_ints.specs.Ranges.{residue}
use Rattle.c65_meaning.specs.State.{Scene}
use Rattle.c65_code.specs.declared.line.Line.{Line}
use Rattle.c65_code.specs.declared.line.Line.TheVariants.{Label}
use Rattle.c65_code.specs.LineState.{State, ax_of}
use Rattle.c65_code.specs.Placement.{IsPlacement}
use Rattle.c65_genload.specs.Numbers.{divide_code}
use Rattle.c65_gendirect.specs.declared.bytes.OperandByte.{OperandByte}
use Rattle.c65_gendirect.specs.Words.{word_code, taken_from_code}
use Rattle.c65_genshift.specs.Quick.{elements_code}
use Rattle.c65_genexpr.specs.declared.operating.Form.TheVariants.{Word, Under, Indexed, Distance, DistanceUnder}
use Rattle.c65_genexpr.specs.Operating.{takes_bytes, placed, value_form}
use Rattle.c65_agree_store.specs.Stands.{Placing, Banks}
use Rattle.c65_agree_state.specs.World.{World, Active, lines_of, IsPlaced}
use Rattle.c65_agree_state.specs.Exprs.{Ready}
use Rattle.c65_agree_state.proofs.Nodes.{ready_stays}
use Rattle.c65_agree_state.proofs.Parts.{kept_goes_on}
use Rattle.c65_agree_frame.specs.Leads.{Leads}
use Rattle.c65_agree_frame.proofs.Leads.{leads_then, leads_as}
use Rattle.c65_agree_load.proofs.Kept.{is_on}
use Rattle.c65_agree_direct.specs.Operands.{byte_in}
use Rattle.c65_agree_operate.specs.Manners.{Manner}
use Rattle.c65_agree_operate.proofs.Manners.{left_then, left_held}
use Rattle.c65_agree_operate.proofs.Exact.{registers_kept, registers_held, one_more}
use Rattle.c65_agree_operate.proofs.Lefts.{HasWord}
use Rattle.c65_agree_operate.proofs.Routines.{label_leads}
use Rattle.c65_agree_operate_bytes.specs.Laws.{IsAside}
use Rattle.c65_agree_operate_bytes.proofs.Words.{word_on, begins, byte_on, by_bytes}
use Rattle.c65_agree_operate_bytes.proofs.Direct.{Worked}
use Rattle.c65_agree_operate_bytes.proofs.Short.{word_leads}
use Rattle.c65_agree_operate_bytes.proofs.Rights.{HasPair}
use Rattle.c65_agree_operate_bytes.proofs.Under.{Under as TakenFrom, under_leads}
use Rattle.c65_agree_quick.specs.Laws.{HasTwo}
use Rattle.c65_agree_pointers.specs.Sums.{told}
use Rattle.c65_agree_pointers.proofs.Elements.{scaled, divided}

module _ (g : World) (a : Active) (m : Manner) (label pushed needs : ℕ) (low high : OperandByte) (on_place : IsPlacement g.code g.place) (own : IsPlaced (lines_of g a)) (c : Scene) (w : Placing) (b : Banks) where
  abbrev Has : State → ℕ → State → Type 0
  Has u n x = HasWord g a m UInt c w b u n x

  -- one part behind another
  has_then : (n k : ℕ) (u y x : State) → Has u n y → Has y k x → Has u k x
  has_then n k u y x first second = record { kept = kept_goes_on g a c c c w w w b b b u y x first.kept second.kept; word = second.word; left = left_then m c c c u y x first.left second.left }

  module _ (u : State) (ready : Ready g a pushed needs c w b u) (p : ℕ) (pair : HasPair g u low high p) where
    -- by bytes
    word_of_both : (op : BinaryOp) → takes_bytes op ≡ true → Leads g a (word_code op low high label ++ placed op label) 9 u (Has u (word_on op (ax_of u) p))
    word_of_both op takes =
        leads_as g a (word_code op low high label ++ placed op label) 9 9 u (Worked op (byte_in g u low) (byte_in g u high) u) (Has u (word_on op (ax_of u) p)) (omega arith)
        (λ x h. record {
          kept = registers_kept g a pushed needs c w b u x on_place ready h.only h.bytes;
          word = ap (λ n. n + 256 * x.regs.x) h.a ∙ ap (λ n. byte_on op u.regs.a (byte_in g u low) (begins op u.regs.c) + 256 * n) h.x ∙ by_bytes u.regs.a u.regs.x (byte_in g u low) (byte_in g u high) ready.joins.bytes.a ready.joins.bytes.x pair.small pair.small2 op u.regs.c takes ∙ ap (word_on op (ax_of u)) pair.word;
          left = left_held m c u x (registers_held u x h.only);
        })
        (word_leads g a op u on_place (is_on g a pushed needs c w b u on_place ready) (one_more g a pushed needs c w b u ready) own label low high pair.may pair.may2)

    -- of sums and differences, which have no label behind
    word_alone : (op : BinaryOp) → takes_bytes op ≡ true → placed op label ≡ [] → Leads g a (word_code op low high label) 9 u (Has u (word_on op (ax_of u) p))
    word_alone op takes none = subst (λ ls. Leads g a ls 9 u (Has u (word_on op (ax_of u) p))) (ap (λ ls. word_code op low high label ++ ls) none ∙ append-nil (word_code op low high label)) (word_of_both op takes)

    -- AX is taken from the word
    taken_from : IsAside low → IsAside high → Leads g a (taken_from_code low high) 14 u (Has u (word_on ops.Sub p (ax_of u)))
    taken_from apart apart2 =
        leads_as g a (taken_from_code low high) 14 14 u (TakenFrom g a pushed needs c w b u on_place ready low high) (Has u (word_on ops.Sub p (ax_of u))) (omega arith)
        (λ x h. record { kept = h.kept; word = h.word ∙ ap (λ n. word_on ops.Sub n (ax_of u)) pair.word; left = left_held m c u x h.held })
        (under_leads g a pushed needs c w b u on_place ready low high pair.may pair.may2 apart apart2 pair.small pair.small2)

    pub word_form : (op : BinaryOp) → takes_bytes op ≡ true → Leads g a (value_form (Word op low high) label) 2560 u (Has u (word_on op (ax_of u) p))
    word_form op takes = leads_as g a (value_form (Word op low high) label) 9 2560 u (Has u (word_on op (ax_of u) p)) (Has u (word_on op (ax_of u) p)) (omega arith) (λ x h. h) (word_of_both op takes)

    pub under_form : IsAside low → IsAside high → Leads g a (value_form (Under low high) label) 2560 u (Has u (word_on ops.Sub p (ax_of u)))
    under_form apart apart2 =
        let Result : State → Type 0 = Has u (word_on ops.Sub p (ax_of u)) in
        leads_as g a (value_form (Under low high) label) 14 2560 u Result Result (omega arith) (λ x h. h)
        (leads_then g a (taken_from_code low high) (Label label ∷ []) 14 0 u Result Result (taken_from apart apart2) (λ x h. label_leads g a label x Result h))

    -- ---- bytes between two places, as elements

    module _ (two : HasTwo a needs c u) (size : ℕ) (d : ℤ) (few : unsigned_abs d ≤ 32767) (light : m.light ≡ true → (told size == 1) ≡ true) where
      abbrev quotient : ℕ
      quotient = residue 65536 (int_div d (pos size))

      then_divided : (y : State) → Has u (residue 65536 d) y → Leads g a (divide_code (told size)) 2306 y (Has u quotient)
      then_divided y h =
          let ready2 : Ready g a pushed needs c w b y = ready_stays g a pushed needs needs c c w w b b u y (omega arith) ready h.kept in
          leads_as g a (divide_code (told size)) 2306 2306 y (Has y quotient) (Has u quotient) (omega arith) (λ x k. has_then (residue 65536 d) quotient u y x h k)
          (divided g a m pushed needs c w b y on_place ready2 (omega (arith, two, h.kept.sp)) size d few h.word light)

      pub distance_form : word_on ops.Sub (ax_of u) p ≡ residue 65536 d → Leads g a (value_form (Distance (told size) low high) label) 2560 u (Has u quotient)
      distance_form is =
          leads_as g a (value_form (Distance (told size) low high) label) (9 + 2306) 2560 u (Has u quotient) (Has u quotient) (omega arith) (λ x h. h)
          (leads_then g a (word_code ops.Sub low high label) (divide_code (told size)) 9 2306 u (Has u (residue 65536 d)) (Has u quotient)
          (subst (λ n. Leads g a (word_code ops.Sub low high label) 9 u (Has u n)) is (word_alone ops.Sub refl refl)) (λ y h. then_divided y h))

      pub distance_under_form : IsAside low → IsAside high → word_on ops.Sub p (ax_of u) ≡ residue 65536 d → Leads g a (value_form (DistanceUnder (told size) low high) label) 2560 u (Has u quotient)
      distance_under_form apart apart2 is =
          let Result : State → Type 0 = Has u quotient in
          leads_as g a (value_form (DistanceUnder (told size) low high) label) (14 + 2306 + 0) 2560 u Result Result (omega arith) (λ x h. h)
          (leads_then g a (taken_from_code low high ++ divide_code (told size)) (Label label ∷ []) (14 + 2306) 0 u Result Result
          (leads_then g a (taken_from_code low high) (divide_code (told size)) 14 2306 u (Has u (residue 65536 d)) Result
          (subst (λ n. Leads g a (taken_from_code low high) 14 u (Has u n)) is (taken_from apart apart2)) (λ y h. then_divided y h))
          (λ x h. label_leads g a label x Result h))

  -- ---- elements as bytes, and a word that is read behind their lines

  pub indexed_form : (u : State) (p size : ℕ) → Ready g a pushed needs c w b u → HasTwo a needs c u → size < 65536 → (m.light ≡ true → (size == 1) ≡ true) → ((y : State) → Ready g a pushed needs c w b y → HasPair g y low high p)
      → Leads g a (value_form (Indexed size low high) label) 2560 u (Has u (word_on ops.Add ((ax_of u * size) % 65536) p))
  indexed_form u p size ready two small light again =
      let n : ℕ = (ax_of u * size) % 65536 in
      let Result : State → Type 0 = Has u (word_on ops.Add n p) in
      leads_as g a (value_form (Indexed size low high) label) (2306 + 9) 2560 u Result Result (omega arith) (λ x h. h)
      (leads_then g a (elements_code size) (word_code ops.Add low high label) 2306 9 u (Has u n) Result (scaled g a m pushed needs c w b u on_place ready two size small light) (λ y h.
      let ready2 : Ready g a pushed needs c w b y = ready_stays g a pushed needs needs c c w w b b u y (omega arith) ready h.kept in
      leads_as g a (word_code ops.Add low high label) 9 9 y (Has y (word_on ops.Add (ax_of y) p)) Result (omega arith)
      (λ x k. has_then n (word_on ops.Add n p) u y x h (record { kept = k.kept; word = k.word ∙ ap (λ i. (i + p) % 65536) h.word; left = k.left }))
      (word_alone y ready2 p (again y ready2) ops.Add refl refl)))
