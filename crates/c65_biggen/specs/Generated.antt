-- The source of the generated program: so many functions, each of which mixes a number, and a main function that calls each.
use Rattle.std.specs.Prelude.{ℕ, zero, suc, ◌+◌, ◌*◌, ◌%◌, List, [], ◌++◌, codes, decimal}

-- the number in a function, from that in the one before
abbrev pub next : ℕ → ℕ
next number = (25173 * number + 13849) % 65536

abbrev pub function_line : ℕ → ℕ → List ℕ
function_line index number = codes "unsigned f" ++ (decimal index ++ (codes "(unsigned x){return(x*3u+" ++ (decimal number ++ codes "u)^(x>>1);}\n")))

-- so many functions, from this index and number on
abbrev pub functions : ℕ → ℕ → ℕ → List ℕ
functions zero index number = []
functions (suc more) index number = function_line index number ++ functions more (index + 1) (next number)

abbrev pub call_line : ℕ → List ℕ
call_line index = codes "x=f" ++ (decimal index ++ codes "(x);\n")

-- so many calls, from this index on
abbrev pub calls : ℕ → ℕ → List ℕ
calls zero index = []
calls (suc more) index = call_line index ++ calls more (index + 1)

abbrev pub generated_source : ℕ → List ℕ
generated_source count =
    functions count 0 count ++ (codes "int main(void){unsigned x=1u;\n" ++ (calls count 0 ++ codes "return(int)(x&255u);}\n"))
