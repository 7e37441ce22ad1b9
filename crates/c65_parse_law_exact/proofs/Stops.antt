-- Readings with what their tokens are: those before a fault go on, and those of an answer are its own.
use Rattle.std.proofs.Common.{◌≡◌, ℕ, suc, ◌+◌, ◌≤◌, List, [], ◌∷◌, ◌++◌, length, Bool, true, false, refl, sym, ap, ◌∙◌, subst, append_assoc, inl, arith}
use Rattle.std.specs.Prelude.{Ok, Err, if◌then◌else◌}
use Rattle.c65_base.specs.Answers.{Fault, large, ◌>>=◌}
use Rattle.c65_base.specs.declared.refusal.Size.TheVariants.{Depth}
use Rattle.c65_scan.specs.declared.token.Token.{Token}
use Rattle.c65_parse_names.specs.Scopes.{Blocks}
use Rattle.c65_parse.specs.Machine.{fault_at}
use Rattle.c65_parse.specs.Reading.{Answer, token_at, after_token}
use Rattle.c65_parse_frames.specs.declared.sign.Sign.TheVariants as signs
use Rattle.c65_parse_frames.specs.declared.sign.Mark.{Mark}
use Rattle.c65_parse_frames.specs.Signs.{sign_of, is_mark}
use Rattle.c65_decl.specs.Here.{is_here, unexpected, expected}
use Rattle.c65_parse_law_sound.proofs.Got.{EndsIn, First, mark_phrase, first_of_mark, is_mark_of}
use Rattle.c65_parse_law_faults.specs.Faults.{IsFaultOf}
use Rattle.c65_parse_law_faults.proofs.Local as local
use Rattle.c65_parse_law_faults.proofs.Local.{Reader, Triple, Failed, Went}
use Rattle.c65_parse_law_faults.proofs.Seq as seqs
use Rattle.c65_parse_law_faults.proofs.Seq.{tail, rest_ends, rest_short}

-- what tokens have to be so that they go on within a limit
abbrev pub Going : Type 1
Going = ℕ → List Token → Type 0

-- what the tokens of an answer are, with the scope behind them
abbrev pub Taking : Type 0 → Type 1
Taking A = A → Blocks → List Token → Type 0

-- the tokens before a fault go on within the limit; and with the next one within a greater limit, where that is the fault
pub record Stuck {A : Type 0} (limit c k : ℕ) (goes : Going) (read : Reader A) (ts : List Token) (e : Fault) : Type 0 where
  pub failed : Failed c k read ts e
  pub goes_on : goes limit failed.before
  pub deeper : e ≡ large Depth 257 → (more : ℕ) × (limit ≤ more) × goes more (failed.before ++ failed.next ∷ [])

pub record Took {A : Type 0} (m k : ℕ) (takes : Taking A) (read : Reader (Triple A)) (ts : List Token) (a : A) (rest : List Token) (scope : Blocks) : Type 0 where
  pub went : Went m k read ts a rest scope
  pub taken : takes a scope went.before

abbrev pub StopIs : {A : Type 0} → ℕ → ℕ → ℕ → ℕ → Going → Taking A → Reader (Triple A) → List Token → Answer A → Type 0
StopIs limit c m k goes takes read ts (Ok (a, rest, scope)) = Took m k takes read ts a rest scope
StopIs limit c m k goes takes read ts (Err e) = Stuck limit c k goes read ts e

-- c, m and k are those of `Local`
abbrev pub Stop : {A : Type 0} → ℕ → ℕ → ℕ → ℕ → Going → Taking A → Reader (Triple A) → List Token → List Token → List Token → Type 0
Stop limit c m k goes takes read unit us ts = StopIs limit c m k goes takes read ts (read unit us ts)

-- an answer that stands
pub stop_done : {A : Type 0} (limit c k : ℕ) (goes : Going) (takes : Taking A) (a : A) (scope : Blocks) (unit us ts : List Token) → EndsIn ts → takes a scope [] → Stop limit c 0 k goes takes (λ unit us ys. Ok (a, ys, scope)) unit us ts
stop_done limit c k goes takes a scope unit us [] ends h = absurd ends
stop_done limit c k goes takes a scope unit us (t ∷ ts) ends h = record { went = local.done c k a scope unit us (t ∷ ts) ends; taken = h }

-- the fault of the first token
pub stop_fails : {A : Type 0} (limit m k : ℕ) (goes : Going) (takes : Taking A) (unit us ts : List Token) → EndsIn ts → goes limit [] → Stop {A = A} limit 0 m k goes takes (λ unit us ys. unexpected ys) unit us ts
stop_fails limit m k goes takes unit us [] ends h = absurd ends
stop_fails {A} limit m k goes takes unit us (t ∷ ts) ends h = record { failed = local.fails {A = A} m k unit us (t ∷ ts) ends; goes_on = h; deeper = λ e. absurd cc }

-- the limit of depth: the first token goes on within a greater one
pub stop_deep : {A : Type 0} (limit c m k : ℕ) (goes : Going) (takes : Taking A) (unit us ts : List Token) → EndsIn ts → goes limit [] → ((x : Token) (xs : List Token) → ts ≡ x ∷ xs → (more : ℕ) × (limit ≤ more) × goes more (x ∷ [])) → Stop {A = A} limit c m k goes takes (λ unit us ys. Err (large Depth 257)) unit us ts
stop_deep limit c m k goes takes unit us [] ends h f = absurd ends
stop_deep {A} limit c m k goes takes unit us (t ∷ ts) ends h f = record { failed = local.too_deep {A = A} c m k unit us (t ∷ ts) ends; goes_on = h; deeper = λ e. f t ts refl }

-- as another says
pub weaker : {A : Type 0} (limit c m k : ℕ) (goes others : Going) (takes others_take : Taking A) (read : Reader (Triple A)) (ts : List Token) (r : Answer A) → ((n : ℕ) (xs : List Token) → limit ≤ n → goes n xs → others n xs) → ((a : A) (scope : Blocks) (xs : List Token) → takes a scope xs → others_take a scope xs)
    → StopIs limit c m k goes takes read ts r → StopIs limit c m k others others_take read ts r
weaker limit c m k goes others takes others_take read ts (Ok (a, rest, scope)) f g h = record { went = h.went; taken = g a scope h.went.before h.taken }
weaker limit c m k goes others takes others_take read ts (Err e) f g h = record { failed = h.failed; goes_on = f limit h.failed.before (omega arith) h.goes_on; deeper = λ x. let d = h.deeper x in (d.0, d.1, f d.0 (h.failed.before ++ h.failed.next ∷ []) d.1 d.2) }

-- fewer tokens are demanded
pub looser : {A : Type 0} (limit c d m n k : ℕ) (goes : Going) (takes : Taking A) (read : Reader (Triple A)) (ts : List Token) (r : Answer A) → d ≤ c → n ≤ m → StopIs limit c m k goes takes read ts r → StopIs limit d n k goes takes read ts r
looser limit c d m n k goes takes read ts (Ok (a, rest, scope)) low less h = record { went = local.looser c d m n k read ts (Ok (a, rest, scope)) low less h.went; taken = h.taken }
looser limit c d m n k goes takes read ts (Err e) low less h = record { failed = local.looser c d m n k read ts (Err e) low less h.failed; goes_on = h.goes_on; deeper = h.deeper }

-- a reading that answers the same of the tokens
pub stop_alike : {A : Type 0} (limit c m k : ℕ) (goes : Going) (takes : Taking A) (read other : Reader (Triple A)) (ts : List Token) (r : Answer A) → ((unit us ys : List Token) → k + 1 ≤ length us → other unit us ys ≡ read unit us ys) → StopIs limit c m k goes takes read ts r → StopIs limit c m k goes takes other ts r
stop_alike limit c m k goes takes read other ts (Ok (a, rest, scope)) f h = record { went = local.alike c m k read other ts (Ok (a, rest, scope)) f h.went; taken = h.taken }
stop_alike limit c m k goes takes read other ts (Err e) f h = record { failed = local.alike c m k read other ts (Err e) f h.failed; goes_on = h.goes_on; deeper = h.deeper }

-- as another says of other limits
pub lifted : {A : Type 0} (low high c m k : ℕ) (goes others : Going) (takes : Taking A) (read : Reader (Triple A)) (ts : List Token) (r : Answer A) → ((xs : List Token) → goes low xs → others high xs) → ((n : ℕ) (xs : List Token) → low ≤ n → goes n xs → (more : ℕ) × (high ≤ more) × others more xs)
    → StopIs low c m k goes takes read ts r → StopIs high c m k others takes read ts r
lifted low high c m k goes others takes read ts (Ok (a, rest, scope)) f g h = record { went = h.went; taken = h.taken }
lifted low high c m k goes others takes read ts (Err e) f g h = record { failed = h.failed; goes_on = f h.failed.before h.goes_on; deeper = λ x. let d = h.deeper x in g d.0 (h.failed.before ++ h.failed.next ∷ []) d.1 d.2 }

-- behind tokens in two parts
pub stop_regrouped : {A : Type 0} (limit c m k : ℕ) (goes : Going) (takes : Taking A) (read : Reader (Triple A)) (unit us ts xs ys : List Token) → Stop limit c m k (λ n zs. goes n ((xs ++ ys) ++ zs)) (λ a scope zs. takes a scope ((xs ++ ys) ++ zs)) read unit us ts
    → Stop limit c m k (λ n zs. goes n (xs ++ (ys ++ zs))) (λ a scope zs. takes a scope (xs ++ (ys ++ zs))) read unit us ts
stop_regrouped limit c m k goes takes read unit us ts xs ys h = weaker limit c m k (λ n zs. goes n ((xs ++ ys) ++ zs)) (λ n zs. goes n (xs ++ (ys ++ zs))) (λ a scope zs. takes a scope ((xs ++ ys) ++ zs)) (λ a scope zs. takes a scope (xs ++ (ys ++ zs))) read ts (read unit us ts)
    (λ n zs low g. subst (goes n) (append_assoc xs ys zs) g)
    (λ a scope zs g. subst (takes a scope) (append_assoc xs ys zs) g) h

-- in a scope that is another
pub stop_in_scope : {A : Type 0} (limit c m k : ℕ) (goes : Going) (takes : Taking A) (read : Blocks → Reader (Triple A)) (unit us ts : List Token) (scope other : Blocks) → scope ≡ other → Stop limit c m k goes takes (read other) unit us ts → Stop limit c m k goes takes (read scope) unit us ts
stop_in_scope limit c m k goes takes read unit us ts scope other e h = subst (λ s. Stop limit c m k goes takes (read s) unit us ts) (sym e) h

-- a reading that depends on the first token
first_by : {A : Type 0} (limit c m k : ℕ) (goes : Going) (takes : Taking A) (read : Token → Reader (Triple A)) (ts : List Token) (r : Answer A) → StopIs limit c m k goes takes (read (token_at ts 0)) ts r → StopIs limit c m k goes takes (λ unit us ys. read (token_at ys 0) unit us ys) ts r
first_by limit c m k goes takes read ts (Ok (a, rest, scope)) h = record { went = local.first_by c m k read ts (Ok (a, rest, scope)) h.went; taken = h.taken }
first_by limit c m k goes takes read ts (Err e) h = record { failed = local.first_by c m k read ts (Err e) h.failed; goes_on = h.goes_on; deeper = h.deeper }

pub stop_by_first : {A : Type 0} (limit c m k : ℕ) (goes : Going) (takes : Taking A) (read : Token → Reader (Triple A)) (unit us ts : List Token) → Stop limit c m k goes takes (read (token_at ts 0)) unit us ts → Stop limit c m k goes takes (λ unit us ys. read (token_at ys 0) unit us ys) unit us ts
stop_by_first limit c m k goes takes read unit us ts h = first_by limit c m k goes takes read ts (read (token_at ts 0) unit us ts) h

pub stop_if : {A : Type 0} (limit c m k : ℕ) (goes : Going) (takes : Taking A) (b : Bool) (yes_read no_read : Reader (Triple A)) (unit us ts : List Token) → (b ≡ true → Stop limit c m k goes takes yes_read unit us ts) → (b ≡ false → Stop limit c m k goes takes no_read unit us ts)
    → Stop limit c m k goes takes (λ unit us ys. if b then yes_read unit us ys else no_read unit us ys) unit us ts
stop_if limit c m k goes takes true yes_read no_read unit us ts f g = f refl
stop_if limit c m k goes takes false yes_read no_read unit us ts f g = g refl

-- by a test of the first token
pub stop_if_first : {A : Type 0} (limit c m k : ℕ) (goes : Going) (takes : Taking A) (test : Token → Bool) (yes_read no_read : Reader (Triple A)) (unit us ts : List Token) → (test (token_at ts 0) ≡ true → Stop limit c m k goes takes yes_read unit us ts) → (test (token_at ts 0) ≡ false → Stop limit c m k goes takes no_read unit us ts)
    → Stop limit c m k goes takes (λ unit us ys. if test (token_at ys 0) then yes_read unit us ys else no_read unit us ys) unit us ts
stop_if_first limit c m k goes takes test yes_read no_read unit us ts f g = stop_by_first limit c m k goes takes (λ x unit us ys. if test x then yes_read unit us ys else no_read unit us ys) unit us ts (stop_if limit c m k goes takes (test (token_at ts 0)) yes_read no_read unit us ts f g)

-- a token before what is read
shifted : {A : Type 0} (limit c d m n k j : ℕ) (goes : Going) (takes : Taking A) (tok : Token) (inner outer : Reader (Triple A)) (ts : List Token) (r : Answer A) → d ≤ 1 + c → n ≤ 1 + m → j ≤ k + 1
    → ((unit us before : List Token) (next : Token) (more : List Token) → outer unit us (tok ∷ (before ++ next ∷ more)) ≡ inner unit us (before ++ next ∷ more))
    → StopIs limit c m j (λ n xs. goes n (tok ∷ xs)) (λ a scope xs. takes a scope (tok ∷ xs)) inner ts r → StopIs limit d n k goes takes outer (tok ∷ ts) r
shifted limit c d m n k j goes takes tok inner outer ts (Ok (a, rest, scope)) low less near f h = record { went = local.shifted c d m n k j tok inner outer ts (Ok (a, rest, scope)) low less near f h.went; taken = h.taken }
shifted limit c d m n k j goes takes tok inner outer ts (Err e) low less near f h = record { failed = local.shifted c d m n k j tok inner outer ts (Err e) low less near f h.failed; goes_on = h.goes_on; deeper = h.deeper }

-- the first token is taken
pub stop_past : {A : Type 0} (limit c d m n k j : ℕ) (goes : Going) (takes : Taking A) (inner : Reader (Triple A)) (unit us ts : List Token) → d ≤ 1 + c → n ≤ 1 + m → j ≤ k + 1 → (first : First ts) → Stop limit c m j (λ n xs. goes n (first.tok ∷ xs)) (λ a scope xs. takes a scope (first.tok ∷ xs)) inner unit us first.rest
    → Stop limit d n k goes takes (λ unit us ys. inner unit us (after_token ys)) unit us ts
stop_past limit c d m n k j goes takes inner unit us ts low less near first h = subst (λ xs. StopIs limit d n k goes takes (λ unit us ys. inner unit us (after_token ys)) xs (inner unit us (after_token ts))) (sym first.tokens_are)
    (subst (λ xs. StopIs limit d n k goes takes (λ unit us ys. inner unit us (after_token ys)) (first.tok ∷ first.rest) (inner unit us xs)) (sym first.behind)
    (shifted limit c d m n k j goes takes first.tok inner (λ unit us ys. inner unit us (after_token ys)) first.rest (inner unit us first.rest) low less near (λ unit us before next more. ap (inner unit us) (local.passed first.tok before next more)) h))

-- where a mark is the first token, it is taken
pub stop_past_mark : {A : Type 0} (limit c m n : ℕ) (goes : Going) (takes : Taking A) (mark : Mark) (inner : Reader (Triple A)) (unit us ts : List Token) → n ≤ 1 + m → is_mark mark signs.End ≡ false → is_here mark ts ≡ true → EndsIn ts
    → ((first : First ts) → mark_phrase mark (first.tok ∷ []) → suc (length first.rest) ≤ length ts → Stop limit c m 0 (λ n xs. goes n (first.tok ∷ xs)) (λ a scope xs. takes a scope (first.tok ∷ xs)) inner unit us first.rest)
    → Stop limit 0 n 0 goes takes (λ unit us ys. inner unit us (after_token ys)) unit us ts
stop_past_mark limit c m n goes takes mark inner unit us ts up not e ends f =
    let first = first_of_mark mark ts not e ends in
    stop_past limit c 0 m n 0 0 goes takes inner unit us ts (omega arith) up (omega arith) first (f first (is_mark_of mark ts first e) (let long = ap length first.tokens_are in omega (arith, long)))

-- the token of a mark
ends_after : (tok : Token) (ts : List Token) → EndsIn ts → EndsIn (tok ∷ ts)
ends_after tok [] ends = absurd ends
ends_after tok (t ∷ ts) ends = ends

pub mark_taken : (mark : Mark) (tok : Token) (rest : List Token) → is_mark mark signs.End ≡ false → is_mark mark (sign_of tok.kind) ≡ true → EndsIn rest → mark_phrase mark (tok ∷ [])
mark_taken mark tok rest not e ends =
    let here : is_here mark (tok ∷ rest) ≡ true = ap (λ x. is_mark mark (sign_of x.kind)) (local.here_is tok rest) ∙ e in
    let first = first_of_mark mark (tok ∷ rest) not here (ends_after tok rest ends) in
    subst (λ x. mark_phrase mark (x ∷ [])) (sym first.here ∙ local.here_is tok rest) (is_mark_of mark (tok ∷ rest) first here)

-- one reading, and then another
joined : {A B : Type 0} (limit c b m n o k j : ℕ) (goes : Going) (firsts : Taking A) (takes : Taking B) (read : Reader (Triple A)) (g : List Token → List Token → Triple A → Answer B) (ts : List Token) (a : A) (rest : List Token) (scope : Blocks) (s : Answer B) → j ≤ k + m → c ≤ m + b → o ≤ m + n
    → (w : Took m k firsts read ts a rest scope) → StopIs limit b n j (λ n xs. goes n (w.went.before ++ xs)) (λ x inner xs. takes x inner (w.went.before ++ xs)) (λ unit us ys. g unit us (a, ys, scope)) rest s
    → StopIs limit c o k goes takes (λ unit us ys. read unit us ys >>= g unit us) ts s
joined limit c b m n o k j goes firsts takes read g ts a rest scope (Err e) low early up w f = record {
  failed = seqs.joined_fail c b m k j read g ts a rest scope e low early w.went f.failed;
  goes_on = f.goes_on;
  deeper = λ x. let d = f.deeper x in (d.0, d.1, subst (goes d.0) (sym (append_assoc w.went.before f.failed.before (f.failed.next ∷ []))) d.2);
}
joined limit c b m n o k j goes firsts takes read g ts a rest scope (Ok (x, left, inner)) low early up w f = record {
  went = seqs.joined c b m n o k j read g ts a rest scope (Ok (x, left, inner)) low early up w.went f.went;
  taken = f.taken;
}

seq_by : {A B : Type 0} (limit c b m n o k j : ℕ) (begins goes : Going) (firsts : Taking A) (takes : Taking B) (read : Reader (Triple A)) (g : List Token → List Token → Triple A → Answer B) (unit us ts : List Token) (r : Answer A) → j ≤ k + m → c ≤ m + b → o ≤ m + n → EndsIn ts
    → StopIs limit c m k begins firsts read ts r
    → ((n : ℕ) (xs : List Token) → limit ≤ n → begins n xs → goes n xs)
    → ((a : A) (scope : Blocks) (xs rest : List Token) → firsts a scope xs → ts ≡ xs ++ rest → EndsIn rest → m + length rest ≤ length ts → Stop limit b n j (λ n ys. goes n (xs ++ ys)) (λ x inner ys. takes x inner (xs ++ ys)) (λ unit us ys. g unit us (a, ys, scope)) unit us rest)
    → StopIs limit c o k goes takes (λ unit us ys. read unit us ys >>= g unit us) ts (r >>= g unit us)
seq_by limit c b m n o k j begins goes firsts takes read g unit us ts (Err e) low early up ends h begun f = record {
  failed = seqs.failed_first c k read g ts e h.failed;
  goes_on = begun limit h.failed.before (omega arith) h.goes_on;
  deeper = λ x. let d = h.deeper x in (d.0, d.1, begun d.0 (h.failed.before ++ h.failed.next ∷ []) d.1 d.2);
}
seq_by limit c b m n o k j begins goes firsts takes read g unit us ts (Ok (a, rest, scope)) low early up ends h begun f = joined limit c b m n o k j goes firsts takes read g ts a rest scope (g unit us (a, rest, scope)) low early up h
    (f a scope h.went.before rest h.taken (h.went.tokens_are ∙ ap (λ xs. h.went.before ++ xs) (sym h.went.rest_is)) (rest_ends m k read ts a rest scope ends h.went) (rest_short m k read ts a rest scope h.went))

pub stop_seq : {A B : Type 0} (limit c b m n o k j : ℕ) (begins goes : Going) (firsts : Taking A) (takes : Taking B) (read : Reader (Triple A)) (g : List Token → List Token → Triple A → Answer B) (unit us ts : List Token) → j ≤ k + m → c ≤ m + b → o ≤ m + n → EndsIn ts
    → Stop limit c m k begins firsts read unit us ts
    → ((n : ℕ) (xs : List Token) → limit ≤ n → begins n xs → goes n xs)
    → ((a : A) (scope : Blocks) (xs rest : List Token) → firsts a scope xs → ts ≡ xs ++ rest → EndsIn rest → m + length rest ≤ length ts → Stop limit b n j (λ n ys. goes n (xs ++ ys)) (λ x inner ys. takes x inner (xs ++ ys)) (λ unit us ys. g unit us (a, ys, scope)) unit us rest)
    → Stop limit c o k goes takes (λ unit us ys. read unit us ys >>= g unit us) unit us ts
stop_seq limit c b m n o k j begins goes firsts takes read g unit us ts low early up ends h begun f = seq_by limit c b m n o k j begins goes firsts takes read g unit us ts (read unit us ts) low early up ends h begun f

-- a mark that is needed, and then a reading
mark_by : {B : Type 0} (limit b n o : ℕ) (goes : Going) (takes : Taking B) (mark : Mark) (scope : Blocks) (g : List Token × Blocks → Answer B) (unit us ts : List Token) (here : Bool) → is_mark mark (sign_of (token_at ts 0).kind) ≡ here → is_mark mark signs.End ≡ false → o ≤ 1 + n → EndsIn ts → goes limit []
    → ((tok : Token) (rest : List Token) → is_mark mark (sign_of tok.kind) ≡ true → EndsIn rest → Stop limit b n 0 (λ n xs. goes n (tok ∷ xs)) (λ x inner xs. takes x inner (tok ∷ xs)) (λ unit us ys. g (ys, scope)) unit us rest)
    → Stop limit 0 o 0 goes takes (λ unit us ys. (if here then Ok (after_token ys, scope) else unexpected ys) >>= g) unit us ts
mark_by limit b n o goes takes mark scope g unit us [] here e not up ends start f = absurd ends
mark_by limit b n o goes takes mark scope g unit us (t ∷ ts) false e not up ends start f = record {
  failed = record {
    before = [];
    next = t;
    others = ts;
    tokens_are = refl;
    fault_is = subst (λ x. IsFaultOf t (fault_at x)) (sym (local.here_is t ts)) (local.fault_of t);
    late = inl (omega arith);
    again = λ unit us more fit room. ap (λ x. Err (fault_at x)) (local.here_is t more ∙ sym (local.here_is t ts));
  };
  goes_on = start;
  deeper = λ x. absurd cc;
}
mark_by limit b n o goes takes mark scope g unit us (t ∷ ts) true e not up ends start f =
    let first = first_of_mark mark (t ∷ ts) not e ends in
    stop_past limit b 0 n o 0 0 goes takes (λ unit us ys. g (ys, scope)) unit us (t ∷ ts) (omega arith) up (omega arith) first (f first.tok first.rest (ap (λ x. is_mark mark (sign_of x.kind)) (sym first.here) ∙ e) first.ends)

pub stop_mark : {B : Type 0} (limit b n o : ℕ) (goes : Going) (takes : Taking B) (mark : Mark) (scope : Blocks) (g : List Token × Blocks → Answer B) (unit us ts : List Token) → is_mark mark signs.End ≡ false → o ≤ 1 + n → EndsIn ts → goes limit []
    → ((tok : Token) (rest : List Token) → is_mark mark (sign_of tok.kind) ≡ true → EndsIn rest → Stop limit b n 0 (λ n xs. goes n (tok ∷ xs)) (λ x inner xs. takes x inner (tok ∷ xs)) (λ unit us ys. g (ys, scope)) unit us rest)
    → Stop limit 0 o 0 goes takes (λ unit us ys. expected mark scope ys >>= g) unit us ts
stop_mark limit b n o goes takes mark scope g unit us ts not up ends start f = stop_by_first limit 0 o 0 goes takes (λ x unit us ys. (if is_mark mark (sign_of x.kind) then Ok (after_token ys, scope) else unexpected ys) >>= g) unit us ts
    (mark_by limit b n o goes takes mark scope g unit us ts (is_mark mark (sign_of (token_at ts 0).kind)) refl not up ends start f)

-- the steps that are left behind one
tailed_by : {A : Type 0} (limit c m : ℕ) (goes : Going) (takes : Taking A) (read : Reader (Triple A)) (ts : List Token) (r : Answer A) → StopIs limit c m 0 goes takes read ts r → StopIs limit c m 1 goes takes (λ unit us ys. read unit (tail us) ys) ts r
tailed_by limit c m goes takes read ts (Ok (a, rest, scope)) h = record { went = seqs.tailed_by c m read ts (Ok (a, rest, scope)) h.went; taken = h.taken }
tailed_by limit c m goes takes read ts (Err e) h = record { failed = seqs.tailed_by c m read ts (Err e) h.failed; goes_on = h.goes_on; deeper = h.deeper }

pub stop_tailed : {A : Type 0} (limit c m : ℕ) (goes : Going) (takes : Taking A) (read : Reader (Triple A)) (unit : List Token) (u : Token) (us ts : List Token) → Stop limit c m 0 goes takes read unit us ts → Stop limit c m 1 goes takes (λ unit us ys. read unit (tail us) ys) unit (u ∷ us) ts
stop_tailed limit c m goes takes read unit u us ts h = tailed_by limit c m goes takes read ts (read unit us ts) h

-- as many steps as the unit has tokens
all_by : {A : Type 0} (limit c m : ℕ) (goes : Going) (takes : Taking A) (read : Reader (Triple A)) (ts : List Token) (r : Answer A) → StopIs limit c m 0 goes takes read ts r → StopIs limit c m 0 goes takes (λ unit us ys. read unit unit ys) ts r
all_by limit c m goes takes read ts (Ok (a, rest, scope)) h = record { went = seqs.all_by c m read ts (Ok (a, rest, scope)) h.went; taken = h.taken }
all_by limit c m goes takes read ts (Err e) h = record { failed = seqs.all_by c m read ts (Err e) h.failed; goes_on = h.goes_on; deeper = h.deeper }

pub stop_all_steps : {A : Type 0} (limit c m : ℕ) (goes : Going) (takes : Taking A) (read : Reader (Triple A)) (unit us ts : List Token) → Stop limit c m 0 goes takes read unit unit ts → Stop limit c m 0 goes takes (λ unit us ys. read unit unit ys) unit us ts
stop_all_steps limit c m goes takes read unit us ts h = all_by limit c m goes takes read ts (read unit unit ts) h
