-- Which objects belong to a function, in the order of their numbers.
use Rattle.std.specs.Prelude.{ℕ, ◌+◌, ◌-◌, min, max, List, [], ◌∷◌, slice_set, replicate}
use Rattle.c65_genframe.specs.declared.mark.Mark.{Mark}
use Rattle.c65_genframe.specs.declared.mark.Mark.TheVariants.{Other, Local, Parameter}

abbrev pub least : ℕ → List ℕ → ℕ
least first [] = first
least first (i ∷ is) = least (min first i) is

abbrev pub greatest : ℕ → List ℕ → ℕ
greatest first [] = first
greatest first (i ∷ is) = greatest (max first i) is

-- each of these objects gets a mark; the first mark is that of the object with number low
abbrev pub marked : ℕ → Mark → List Mark → List ℕ → List Mark
marked low mark marks [] = marks
marked low mark marks (i ∷ is) = marked low mark (slice_set marks (i - low) mark) is

abbrev pub lowest : List ℕ → List ℕ → ℕ
lowest locals params = least (least 0xffffffff locals) params

abbrev pub no_marks : List ℕ → List ℕ → List Mark
no_marks locals params = replicate (greatest (greatest 0 locals) params + 1 - lowest locals params) Other

-- the marks of all objects from the lowest number to the highest; an object that is both is a parameter
abbrev pub all_marks : List ℕ → List ℕ → List Mark
all_marks locals params = let low = lowest locals params in marked low Parameter (marked low Local (no_marks locals params) locals) params
