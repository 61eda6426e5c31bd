-- What the value of a phrase weighs at most, by the tokens that it takes.
use Rattle.std.proofs.Common.{◌≡◌, ℕ, ◌+◌, ◌≤◌, Bool, List, [], ◌∷◌, ◌++◌, ap, ◌∙◌, ⊎_elim, arith}
use Rattle.phrases.specs.Phrases.{Phrase, Both, nothing, none, token, ◌<|>◌, Repeated, done, more}
use Rattle.sql_read.specs.declared.kind.Kind.{Kind}
use Rattle.sql_read.specs.declared.kind.Kind.TheVariants as k
use Rattle.sql_read.specs.declared.token_list.Token.{Token}
use Rattle.sql_read.specs.Tokens.{Tokens}
use Rattle.sql_read.specs.Schema.{is, word}
use Rattle.sql_read.proofs.GoodSchema.{is_true}
use Rattle.query_read.specs.Expressions as g
use Rattle.query_sizes.proofs.Totals.{total, total-append, total_more}

-- A blank is no token of any text. It stands for what no text has, as the argument of an aggregate, so it counts for as many tokens as the
-- least of those takes.
abbrev pub sized : Kind → ℕ
sized k.Blank = 3
sized kind = 1

abbrev pub size : Token → ℕ
size t = sized t.kind

abbrev pub taken : Tokens → ℕ
taken xs = total size xs

sized_least : (kind : Kind) → 1 ≤ sized kind
sized_least k.Blank = omega arith
sized_least kind = omega arith

-- With n for what stands before, the tokens of the phrase are enough for what its value weighs.
pub record Weighs {A : Type 0} (n : ℕ) (w : A → ℕ) (L : Phrase Token A) : Type 0 where
  pub most : (xs : Tokens) (a : A) → L xs a → w a ≤ n + taken xs

-- what takes nothing that counts
pub idle : {A : Type 0} (n : ℕ) (L : Phrase Token A) → Weighs n (λ _. n) L
idle n L = record { most = λ xs a l. omega arith }

pub weighs_token : (n : ℕ) (test : Token → Bool) → Weighs n (λ _. n + 1) (token test)
weighs_token n test = record { most = λ xs t l. let e : taken xs ≡ size t + 0 = ap taken l.0 in let s = sized_least t.kind in omega (arith, e, s) }

weighs_blank : (n : ℕ) → Weighs n (λ _. n + 3) (word k.Blank)
weighs_blank n = record { most = λ xs t l. let e : taken xs ≡ size t + 0 = ap taken l.0 in let s : size t ≡ 3 = ap sized (is_true k.Blank t l.1) in omega (arith, e, s) }

pub weighs_value : {A : Type 0} (n : ℕ) (w : A → ℕ) (a : A) → w a ≤ n → Weighs n w (nothing a)
weighs_value n w a h = record { most = λ xs b l. let e : w a ≡ w b = ap w l.1 in omega (arith, h, e) }

pub weighs_none : {A : Type 0} (n : ℕ) (w : A → ℕ) → Weighs n w none
weighs_none n w = record { most = λ xs a l. absurd l }

pub weighs_both : {A B : Type 0} {n : ℕ} {u : A → ℕ} {w : B → ℕ} {L : Phrase Token A} {M : A → Phrase Token B} → Weighs n u L → ((a : A) → Weighs (u a) w (M a)) → Weighs n w (Both L M)
weighs_both p q = record {
  most = λ zs b l.
      let x = p.most l.left l.between l.reads_left in
      let y = (q l.between).most l.right b l.reads_right in
      let e : taken zs ≡ taken l.left + taken l.right = ap taken l.cut ∙ total-append size l.left l.right in
      omega (arith, x, y, e);
}

pub weighs_either : {A : Type 0} {n : ℕ} {w : A → ℕ} {L M : Phrase Token A} → Weighs n w L → Weighs n w M → Weighs n w (L <|> M)
weighs_either p q = record { most = λ xs a l. ⊎_elim (p.most xs a) (q.most xs a) l }

-- each turn weighs no more than its tokens
turns : {A : Type 0} (w : A → ℕ) (M : A → Phrase Token A) → ((a : A) → Weighs (w a) w (M a)) → (a : A) (xs : Tokens) (c : A) → Repeated M a xs c → w c ≤ w a + taken xs
turns w M h a xs c (done _) = omega arith
turns w M h a xs c (more _ b _ us vs l m) =
    let x = (h a).most us b l in
    let y = turns w M h b vs c m in
    omega (arith, x, y, total-append size us vs)

pub weighs_repeated : {A : Type 0} (w : A → ℕ) (M : A → Phrase Token A) → ((a : A) → Weighs (w a) w (M a)) → (a : A) → Weighs (w a) w (Repeated M a)
weighs_repeated w M h a = record { most = turns w M h a }

-- behind other tokens
pub behind : {A : Type 0} {w : A → ℕ} {L : Phrase Token A} (n : ℕ) → Weighs 0 w L → Weighs n (λ a. n + w a) L
behind n p = record { most = λ xs a l. let x = p.most xs a l in omega (arith, x) }

-- a phrase, or the gap in its place
pub weighs_gap : {A : Type 0} (n : ℕ) (w : A → ℕ) (a : A) → w a ≤ n + 3 → Weighs n w (g.gap a)
weighs_gap n w a h = weighs_both (weighs_blank n) (λ _. weighs_value (n + 3) w a h)

-- a phrase, and as many more as come with a comma before each
pub weighs_series : {A : Type 0} (c : A → ℕ) (L : Phrase Token A) → Weighs 0 c L → Weighs 0 (λ xs. total c xs) (g.series L)
weighs_series {A = A} c L p =
    weighs_both p (λ x.
    let first : total c (x ∷ []) ≡ c x = omega arith in
    record { most = λ xs ys l. let y = turns (λ ys. total c ys) (g.another L) one_more (x ∷ []) xs ys l in omega (arith, first, y) })
  where
    one_more : (ys : List A) → Weighs (total c ys) (λ zs. total c zs) (g.another L ys)
    one_more ys =
        weighs_both (weighs_token (total c ys) (is k.Comma)) (λ _.
        weighs_both (behind (total c ys + 1) p) (λ y.
        weighs_value (total c ys + 1 + c y) (λ zs. total c zs) (ys ++ y ∷ []) (omega (arith, total_more c ys y))))
