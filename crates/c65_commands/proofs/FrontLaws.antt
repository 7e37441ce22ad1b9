-- What the code of a command's files is, before and after later stages.
use Rattle.std.proofs.Common.{◌≡◌, ◌⊎◌, ℕ, inl, inr, List, Option, Some, None, Result, Ok, Err, sym, subst}
use Rattle.c65_base.specs.declared.options.Options.{Options}
use Rattle.c65_base.specs.declared.refusal.Refusal.{Refusal}
use Rattle.c65_base.specs.declared.refusal.Refusal.TheVariants.{OutOfMemory}
use Rattle.c65_code.specs.declared.code.Code.{Code}
use Rattle.c65_io.specs.Contents.{Contents}
use Rattle.c65_mach.specs.declared.image.Image.{Image}
use Rattle.c65_lex.specs.declared.define.Define.{Define}
use Rattle.c65_optimise.specs.Optimised.{OptimisedBy}
use Rattle.c65_ppline.specs.Relations.{Answers, IsFree}
use Rattle.c65_ppdir.specs.Units.{Held}
use Rattle.c65_driver_chain.specs.Front.{command, compiled}
use Rattle.c65_driver_words.specs.Commands.{Spelled}
use Rattle.c65_commands.specs.Compiled.{IsPrintedAs, front, IsOfFront, IsOfSources}

same_refusal : (A B : Type 0) (o : Options) (P : Answers Code) (code : Option Code) (r : Refusal) → IsOfFront {T = A} o P code (Err r) → IsOfFront {T = B} o P code (Err r)
same_refusal A B o P None r made = made
same_refusal A B o P (Some c) r made = made

onward : (A B : Type 0) (o : Options) (P : Answers Code) (code : Option Code) (a : A) (r : Result B Refusal) → IsOfFront {T = A} o P code (Ok a) → IsOfFront {T = B} o P code r
onward A B o P None a r made = absurd made
onward A B o P (Some c) a r made = made

-- the refusal of a stage is the command's
pub sources_stop : (A B : Type 0) (c : Spelled) (contents : Contents) (code : Option Code) (r : Refusal) → IsOfSources {T = A} c contents code (Err r) → IsOfSources {T = B} c contents code (Err r)
sources_stop A B c contents code r made held told = same_refusal A B c.options (front held c) code r (made held told)

-- whatever comes behind the code
pub sources_go : (A B : Type 0) (c : Spelled) (contents : Contents) (code : Option Code) (a : A) (r : Result B Refusal) → IsOfSources {T = A} c contents code (Ok a) → IsOfSources {T = B} c contents code r
sources_go A B c contents code a r made held told = onward A B c.options (front held c) code a r (made held told)

-- want of memory
pub sources_free : (T : Type 0) (c : Spelled) (contents : Contents) → IsOfSources {T = T} c contents None (Err OutOfMemory)
sources_free T c contents held told = inl tt

pub sources_short : (c : Spelled) (contents : Contents) (code : Option Code) → code ≡ None → IsOfSources {T = Image} c contents code (Err OutOfMemory)
sources_short c contents code none = subst (λ (made : Option Code). IsOfSources {T = Image} c contents made (Err OutOfMemory)) (sym none) (sources_free Image c contents)

-- the parts of a command, as they were given to the front
from_parts : (c : Spelled) (held : Held) (o : Options) (ds : List Define) (folders files : List (List ℕ)) (z : Result Code Refusal) → o ≡ c.options → ds ≡ c.defines → folders ≡ c.folders → files ≡ c.files
    → compiled (command held o ds folders) files z → front held c z
from_parts c held o ds folders files z options defines is of given =
    subst (λ (x : Options). compiled (command held x c.defines c.folders) c.files z) options
    (subst (λ (xs : List Define). compiled (command held o xs c.folders) c.files z) defines
    (subst (λ (xs : List (List ℕ)). compiled (command held o ds xs) c.files z) is
    (subst (λ (xs : List (List ℕ)). compiled (command held o ds folders) xs z) of given)))

-- no code
pub sources_not : (c : Spelled) (contents : Contents) (code : Option Code) (o : Options) (ds : List Define) (folders files : List (List ℕ)) (r : Refusal) → code ≡ None → o ≡ c.options → ds ≡ c.defines → folders ≡ c.folders → files ≡ c.files
    → ((held : Held) → contents ≡ Some held → IsFree r ⊎ compiled (command held o ds folders) files (Err r)) → IsOfSources {T = Image} c contents code (Err r)
sources_not c contents code o ds folders files r none options defines is of given =
    subst (λ (made : Option Code). IsOfSources {T = Image} c contents made (Err r)) (sym none) (λ held told. stopped held (given held told))
  where
    stopped : (held : Held) → IsFree r ⊎ compiled (command held o ds folders) files (Err r) → IsFree r ⊎ front held c (Err r)
    stopped held (inl free) = inl free
    stopped held (inr stops) = inr (from_parts c held o ds folders files (Err r) options defines is of stops)

-- a code, rewritten, as its text reads
pub sources_read : (c : Spelled) (contents : Contents) (code new read : Code) (o : Options) (ds : List Define) (folders files : List (List ℕ)) (r : Result Image Refusal) → o ≡ c.options → ds ≡ c.defines → folders ≡ c.folders → files ≡ c.files
    → ((held : Held) → contents ≡ Some held → compiled (command held o ds folders) files (Ok code)) → OptimisedBy c.options code new → IsPrintedAs c.options.cpu new read → IsOfSources {T = Image} c contents (Some read) r
sources_read c contents code new read o ds folders files r options defines is of given rewritten reads held told =
    (code, new, from_parts c held o ds folders files (Ok code) options defines is of (given held told), rewritten, reads)
