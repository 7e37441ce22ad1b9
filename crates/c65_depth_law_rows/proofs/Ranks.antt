-- A function that lies on no call cycle leads to more functions than each that it calls.
use Rattle.std.proofs.Common.{◌≡◌, ℕ, zero, suc, ◌<◌, ◌⊎◌, inl, inr, Bool, true, false, List, [], ◌∷◌, length, refl, sym, ap, ◌∙◌, subst, arith}
use Rattle.c65_meaning.specs.Program.{ProgramTy}
use Rattle.c65_depth.specs.Reached.{is_marked, leads}
use Rattle.c65_depth.specs.Tables.{each}
use Rattle.c65_depth.specs.Certificates.{Names, IsReachable, next, by_call, by_calls, on_cycle}
use Rattle.c65_depth_law.proofs.Least.{each_has, each_long}
use Rattle.c65_depth_law_ways.specs.Ways.{HasNoBound}
use Rattle.c65_depth_law_ways.proofs.Marks.{marked, trues, trues_few, same_or_fewer, under_each}
use Rattle.c65_depth_law_ways.proofs.Ways.{marks_lead}
use Rattle.c65_depth_law_fits.proofs.Passed.{g}

-- where one is lacking there are fewer marks than places
lacking : (xs : List Bool) (f : ℕ) → f < length xs → marked xs f ≡ false → trues xs < length xs
lacking [] f few e = absurd (omega (arith, few))
lacking (true ∷ xs) zero few e = absurd (let clash : true ≡ false = e in cc)
lacking (false ∷ xs) zero few e = let rest = trues_few xs in omega (arith, rest)
lacking (true ∷ xs) (suc f) few e = let rest = lacking xs f (omega (arith, few)) e in omega (arith, rest)
lacking (false ∷ xs) (suc f) few e = let rest = lacking xs f (omega (arith, few)) e in omega (arith, rest)

module _ (p : ProgramTy) where
  abbrev leads_to : ℕ → ℕ → Bool
  leads_to f h = marked (leads (g p) h) f

  -- the functions to which one leads, and how many they are
  abbrev ways_from : ℕ → List Bool
  ways_from f = each (length (g p)) (leads_to f)

  abbrev pub rank : ℕ → ℕ
  rank f = trues (ways_from f)

  way_is : (f h : ℕ) → h < length (g p) → marked (ways_from f) h ≡ leads_to f h
  way_is f h few = ap is_marked (each_has (length (g p)) (leads_to f) h few)

  module _ (bounded : (f : ℕ) → HasNoBound p f → ⊥) where
    no_cycle : (f : ℕ) → IsReachable p f → leads_to f f ≡ true → ⊥
    no_cycle f r e = bounded f (record { reached = r; unbounded = on_cycle ((marks_lead p f f).0 e) })

    pub lower : (f h : ℕ) → IsReachable p f → Names p f h → h < length (g p) → rank h < rank f
    lower f h r names few =
        by_marks (same_or_fewer (ways_from h) (ways_from f) (under_each (length (g p)) (leads_to h) (leads_to f) (λ i e. (marks_lead p f i).1 (by_calls names ((marks_lead p h i).0 e)))))
      where
        by_marks : (ways_from h ≡ ways_from f) ⊎ (rank h < rank f) → rank h < rank f
        by_marks (inl same) = absurd (no_cycle h (next r names) (sym (way_is h h few) ∙ (ap (λ xs. marked xs h) same ∙ (way_is f h few ∙ (marks_lead p f h).1 (by_call names)))))
        by_marks (inr less) = less

    pub rank_few : (f : ℕ) → IsReachable p f → f < length (g p) → rank f < length (g p)
    rank_few f r few = by_mark (leads_to f f) refl
      where
        by_mark : (b : Bool) → leads_to f f ≡ b → rank f < length (g p)
        by_mark true e = absurd (no_cycle f r e)
        by_mark false e =
            let long = each_long (length (g p)) (leads_to f) in
            let less = lacking (ways_from f) f (subst (λ n. f < n) (sym long) few) (way_is f f few ∙ e) in
            omega (arith, less, long)
