-- One reading, and then another.
use Rattle.std.proofs.Common.{◌≡◌, ℕ, ◌+◌, ◌≤◌, List, [], ◌∷◌, ◌++◌, length, length-append, Bool, true, false, refl, sym, ap, ◌∙◌, subst, append_assoc, inl, inr, arith}
use Rattle.std.specs.Prelude.{◌⊎◌, Result, Ok, Err, if◌then◌else◌}
use Rattle.c65_base.specs.Answers.{Fault, large, ◌>>=◌}
use Rattle.c65_base.specs.declared.refusal.Size.TheVariants.{Depth}
use Rattle.c65_scan.specs.declared.token.Token.{Token}
use Rattle.c65_parse_names.specs.Scopes.{Blocks}
use Rattle.c65_parse.specs.Machine.{fault_at}
use Rattle.c65_parse.specs.Reading.{Answer, token_at, after_token}
use Rattle.c65_parse_frames.specs.declared.sign.Sign.TheVariants as signs
use Rattle.c65_parse_frames.specs.declared.sign.Mark.{Mark}
use Rattle.c65_parse_frames.specs.Signs.{sign_of, is_mark}
use Rattle.c65_decl.specs.Here.{unexpected, expected}
use Rattle.c65_parse_law_sound.proofs.Got.{EndsIn, ends_behind, first_of_mark}
use Rattle.c65_parse_law_faults.specs.Faults.{IsFaultOf}
use Rattle.c65_parse_law_faults.proofs.Local.{Reader, Triple, Failed, Went, Is, Local, front_same, here_is, fault_of, by_first, past}

-- what the second answers of the tokens that the first leaves
pub then_same : {A B : Type 0} (m k j : ℕ) (read : Reader (Triple A)) (g : List Token → List Token → Triple A → Result B Fault) (ts : List Token) (a : A) (rest : List Token) (scope : Blocks) (w : Went m k read ts a rest scope) (before : List Token) (next : Token) (others unit us more : List Token) (d : Result B Fault)
    → j ≤ k + m → rest ≡ before ++ next ∷ others
    → (length (before ++ next ∷ more) ≤ length unit → j + length (before ++ next ∷ more) ≤ length us → g unit us (a, before ++ next ∷ more, scope) ≡ d)
    → length ((w.before ++ before) ++ next ∷ more) ≤ length unit → k + length ((w.before ++ before) ++ next ∷ more) ≤ length us
    → (read unit us ((w.before ++ before) ++ next ∷ more) >>= g unit us) ≡ d
then_same m k j read g ts a rest scope w before next others unit us more d low are h fit room =
    let same = front_same w.next w.others before next others more (sym w.rest_is ∙ are) in
    let whole : (w.before ++ before) ++ next ∷ more ≡ w.before ++ w.next ∷ same.0 = append_assoc w.before before (next ∷ more) ∙ ap (λ xs. w.before ++ xs) same.1 in
    let some = w.some in
    let long = length-append w.before (before ++ next ∷ more) in
    let fit_parts = subst (λ xs. length xs ≤ length unit) (append_assoc w.before before (next ∷ more)) fit in
    let room_parts = subst (λ xs. k + length xs ≤ length us) (append_assoc w.before before (next ∷ more)) room in
    ap (λ xs. read unit us xs >>= g unit us) whole
    ∙ (ap (λ x. x >>= g unit us) (w.again unit us same.0 (subst (λ xs. length xs ≤ length unit) whole fit) (subst (λ xs. k + length xs ≤ length us) whole room))
    ∙ (ap (λ xs. g unit us (a, xs, scope)) (sym same.1) ∙ h (omega (arith, fit_parts, long)) (omega (arith, room_parts, long, low, some))))

abbrev pub joined_fail : {A B : Type 0} (c b m k j : ℕ) (read : Reader (Triple A)) (g : List Token → List Token → Triple A → Result B Fault) (ts : List Token) (a : A) (rest : List Token) (scope : Blocks) (e : Fault) → j ≤ k + m → c ≤ m + b → Went m k read ts a rest scope → Failed b j (λ unit us ys. g unit us (a, ys, scope)) rest e
    → Failed c k (λ unit us ys. read unit us ys >>= g unit us) ts e
joined_fail c b m k j read g ts a rest scope e low early w f = record {
  before = w.before ++ f.before;
  next = f.next;
  others = f.others;
  tokens_are = w.tokens_are ∙ (ap (λ xs. w.before ++ xs) (sym w.rest_is ∙ f.tokens_are) ∙ sym (append_assoc w.before f.before (f.next ∷ f.others)));
  fault_is = f.fault_is;
  late = later f.late;
  again = λ unit us more fit room. then_same m k j read g ts a rest scope w f.before f.next f.others unit us more (Err e) low f.tokens_are (λ x y. f.again unit us more x y) fit room;
}
  where
    later : (b ≤ length f.before) ⊎ (e ≡ large Depth 257) → (c ≤ length (w.before ++ f.before)) ⊎ (e ≡ large Depth 257)
    later (inl x) = inl (let some = w.some in let long = length-append w.before f.before in omega (arith, some, long, early, x))
    later (inr x) = inr x

abbrev pub joined : {A B : Type 0} (c b m n o k j : ℕ) (read : Reader (Triple A)) (g : List Token → List Token → Triple A → Answer B) (ts : List Token) (a : A) (rest : List Token) (scope : Blocks) (s : Answer B) → j ≤ k + m → c ≤ m + b → o ≤ m + n → Went m k read ts a rest scope → Is b n j (λ unit us ys. g unit us (a, ys, scope)) rest s
    → Is c o k (λ unit us ys. read unit us ys >>= g unit us) ts s
joined c b m n o k j read g ts a rest scope (Err e) low early up w f = joined_fail c b m k j read g ts a rest scope e low early w f
joined c b m n o k j read g ts a rest scope (Ok (x, left, inner)) low early up w f = record {
  before = w.before ++ f.before;
  next = f.next;
  others = f.others;
  tokens_are = w.tokens_are ∙ (ap (λ xs. w.before ++ xs) (sym w.rest_is ∙ f.tokens_are) ∙ sym (append_assoc w.before f.before (f.next ∷ f.others)));
  rest_is = f.rest_is;
  some = let some = w.some in let more = f.some in let long = length-append w.before f.before in omega (arith, some, more, long, up);
  again = λ unit us more fit room. then_same m k j read g ts a rest scope w f.before f.next f.others unit us more (Ok (x, f.next ∷ more, inner)) low f.tokens_are (λ x y. f.again unit us more x y) fit room;
}

abbrev pub failed_first : {A B : Type 0} (c k : ℕ) (read : Reader A) (g : List Token → List Token → A → Result B Fault) (ts : List Token) (e : Fault) → Failed c k read ts e → Failed c k (λ unit us ys. read unit us ys >>= g unit us) ts e
failed_first c k read g ts e f = record { before = f.before; next = f.next; others = f.others; tokens_are = f.tokens_are; fault_is = f.fault_is; late = f.late; again = λ unit us more fit room. ap (λ x. x >>= g unit us) (f.again unit us more fit room) }

pub rest_ends : {A : Type 0} (m k : ℕ) (read : Reader (Triple A)) (ts : List Token) (a : A) (rest : List Token) (scope : Blocks) → EndsIn ts → Went m k read ts a rest scope → EndsIn rest
rest_ends m k read ts a rest scope ends w = subst EndsIn (sym w.rest_is) (ends_behind w.before w.next w.others (subst EndsIn w.tokens_are ends))

pub rest_short : {A : Type 0} (m k : ℕ) (read : Reader (Triple A)) (ts : List Token) (a : A) (rest : List Token) (scope : Blocks) → Went m k read ts a rest scope → m + length rest ≤ length ts
rest_short m k read ts a rest scope w = let some = w.some in let long = ap length (w.tokens_are ∙ ap (λ xs. w.before ++ xs) (sym w.rest_is)) ∙ length-append w.before rest in omega (arith, some, long)

seq_by : {A B : Type 0} (c b m n o k j : ℕ) (read : Reader (Triple A)) (g : List Token → List Token → Triple A → Answer B) (unit us ts : List Token) (r : Answer A) → j ≤ k + m → c ≤ m + b → o ≤ m + n → EndsIn ts → Is c m k read ts r
    → ((a : A) (scope : Blocks) (rest : List Token) → EndsIn rest → m + length rest ≤ length ts → Local b n j (λ unit us ys. g unit us (a, ys, scope)) unit us rest)
    → Is c o k (λ unit us ys. read unit us ys >>= g unit us) ts (r >>= g unit us)
seq_by c b m n o k j read g unit us ts (Err e) low early up ends h f = failed_first c k read g ts e h
seq_by c b m n o k j read g unit us ts (Ok (a, rest, scope)) low early up ends h f = joined c b m n o k j read g ts a rest scope (g unit us (a, rest, scope)) low early up h (f a scope rest (rest_ends m k read ts a rest scope ends h) (rest_short m k read ts a rest scope h))

pub seq : {A B : Type 0} (c b m n o k j : ℕ) (read : Reader (Triple A)) (g : List Token → List Token → Triple A → Answer B) (unit us ts : List Token) → j ≤ k + m → c ≤ m + b → o ≤ m + n → EndsIn ts → Local c m k read unit us ts
    → ((a : A) (scope : Blocks) (rest : List Token) → EndsIn rest → m + length rest ≤ length ts → Local b n j (λ unit us ys. g unit us (a, ys, scope)) unit us rest)
    → Local c o k (λ unit us ys. read unit us ys >>= g unit us) unit us ts
seq c b m n o k j read g unit us ts low early up ends h f = seq_by c b m n o k j read g unit us ts (read unit us ts) low early up ends h f

-- a mark that is needed, and then a reading
mark_by : {B : Type 0} (b n o : ℕ) (mark : Mark) (scope : Blocks) (g : List Token × Blocks → Answer B) (unit us ts : List Token) (here : Bool) → is_mark mark (sign_of (token_at ts 0).kind) ≡ here → is_mark mark signs.End ≡ false → o ≤ 1 + n → EndsIn ts
    → ((rest : List Token) → EndsIn rest → Local b n 0 (λ unit us ys. g (ys, scope)) unit us rest)
    → Local 0 o 0 (λ unit us ys. (if here then Ok (after_token ys, scope) else unexpected ys) >>= g) unit us ts
mark_by b n o mark scope g unit us [] here e not up ends f = absurd ends
mark_by b n o mark scope g unit us (t ∷ ts) false e not up ends f = record {
  before = [];
  next = t;
  others = ts;
  tokens_are = refl;
  fault_is = subst (λ x. IsFaultOf t (fault_at x)) (sym (here_is t ts)) (fault_of t);
  late = inl (omega arith);
  again = λ unit us more fit room. ap (λ x. Err (fault_at x)) (here_is t more ∙ sym (here_is t ts));
}
mark_by b n o mark scope g unit us (t ∷ ts) true e not up ends f =
    let first = first_of_mark mark (t ∷ ts) not e ends in
    past b 0 n o 0 0 (λ unit us ys. g (ys, scope)) unit us (t ∷ ts) (omega arith) up (omega arith) first (f first.rest first.ends)

pub seq_mark : {B : Type 0} (b n o : ℕ) (mark : Mark) (scope : Blocks) (g : List Token × Blocks → Answer B) (unit us ts : List Token) → is_mark mark signs.End ≡ false → o ≤ 1 + n → EndsIn ts
    → ((rest : List Token) → EndsIn rest → Local b n 0 (λ unit us ys. g (ys, scope)) unit us rest)
    → Local 0 o 0 (λ unit us ys. expected mark scope ys >>= g) unit us ts
seq_mark b n o mark scope g unit us ts not up ends f = by_first 0 o 0 (λ x unit us ys. (if is_mark mark (sign_of x.kind) then Ok (after_token ys, scope) else unexpected ys) >>= g) unit us ts
    (mark_by b n o mark scope g unit us ts (is_mark mark (sign_of (token_at ts 0).kind)) refl not up ends f)

abbrev pub tail : List Token → List Token
tail [] = []
tail (x ∷ xs) = xs

-- the steps that are left behind one
abbrev pub tailed_by : {A : Type 0} (c m : ℕ) (read : Reader (Triple A)) (ts : List Token) (r : Answer A) → Is c m 0 read ts r → Is c m 1 (λ unit us ys. read unit (tail us) ys) ts r
tailed_by c m read ts (Ok (a, rest, scope)) h = record { before = h.before; next = h.next; others = h.others; tokens_are = h.tokens_are; rest_is = h.rest_is; some = h.some; again = λ unit us more fit room. h.again unit (tail us) more fit (short us (length (h.before ++ h.next ∷ more)) room) }
  where
    short : (us : List Token) (n : ℕ) → 1 + n ≤ length us → 0 + n ≤ length (tail us)
    short [] n h = absurd (omega (arith, h))
    short (u ∷ us) n h = omega (arith, h)
tailed_by c m read ts (Err e) h = record { before = h.before; next = h.next; others = h.others; tokens_are = h.tokens_are; fault_is = h.fault_is; late = h.late; again = λ unit us more fit room. h.again unit (tail us) more fit (short us (length (h.before ++ h.next ∷ more)) room) }
  where
    short : (us : List Token) (n : ℕ) → 1 + n ≤ length us → 0 + n ≤ length (tail us)
    short [] n h = absurd (omega (arith, h))
    short (u ∷ us) n h = omega (arith, h)

pub tailed : {A : Type 0} (c m : ℕ) (read : Reader (Triple A)) (unit : List Token) (u : Token) (us ts : List Token) → Local c m 0 read unit us ts → Local c m 1 (λ unit us ys. read unit (tail us) ys) unit (u ∷ us) ts
tailed c m read unit u us ts h = tailed_by c m read ts (read unit us ts) h

-- as many steps as the unit has tokens
abbrev pub all_by : {A : Type 0} (c m : ℕ) (read : Reader (Triple A)) (ts : List Token) (r : Answer A) → Is c m 0 read ts r → Is c m 0 (λ unit us ys. read unit unit ys) ts r
all_by c m read ts (Ok (a, rest, scope)) h = record { before = h.before; next = h.next; others = h.others; tokens_are = h.tokens_are; rest_is = h.rest_is; some = h.some; again = λ unit us more fit room. h.again unit unit more fit (omega (arith, fit)) }
all_by c m read ts (Err e) h = record { before = h.before; next = h.next; others = h.others; tokens_are = h.tokens_are; fault_is = h.fault_is; late = h.late; again = λ unit us more fit room. h.again unit unit more fit (omega (arith, fit)) }

pub all_steps : {A : Type 0} (c m : ℕ) (read : Reader (Triple A)) (unit us ts : List Token) → Local c m 0 read unit unit ts → Local c m 0 (λ unit us ys. read unit unit ys) unit us ts
all_steps c m read unit us ts h = all_by c m read ts (read unit unit ts) h
