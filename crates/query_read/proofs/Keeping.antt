-- What the value of a phrase is like, where each token of its text has a value and a scale within bounds.
use Rattle.std.proofs.Common.{Bool, List, [], ◌∷◌, ◌++◌, subst, ⊎_elim}
use Rattle.phrases.specs.Phrases.{Phrase, Both, nothing, none, token, ◌<|>◌, Repeated, done, more}
use Rattle.sql_read.specs.declared.token_list.Token.{Token}
use Rattle.sql_read.specs.Numbers as numbers
use Rattle.sql_read.specs.Tokens.{Tokens}
use Rattle.query_read.specs.Expressions as g

-- ---- lists

abbrev pub Each : {A : Type 0} → (A → Type 0) → List A → Type 0
Each P [] = Unit {0}
Each P (x ∷ xs) = P x × Each P xs

pub each_apart : {A : Type 0} (P : A → Type 0) (xs ys : List A) → Each P (xs ++ ys) → Each P xs × Each P ys
each_apart P [] ys h = (tt, h)
each_apart P (x ∷ xs) ys h = let (a, b) = each_apart P xs ys h.1 in ((h.0, a), b)

each_more : {A : Type 0} (P : A → Type 0) (xs : List A) (x : A) → Each P xs → P x → Each P (xs ++ x ∷ [])
each_more P [] x h p = (p, tt)
each_more P (y ∷ xs) x h p = (h.0, each_more P xs x h.1 p)

-- ---- phrases

abbrev pub Within : Tokens → Type 0
Within = Each numbers.IsMeasured

pub record Keeps {A : Type 0} (P : A → Type 0) (L : Phrase Token A) : Type 0 where
  pub holds : (xs : Tokens) (a : A) → L xs a → Within xs → P a

pub anything : {A : Type 0} {L : Phrase Token A} → Keeps (λ _. Unit {0}) L
anything = record { holds = λ xs a l h. tt }

pub keeps_token : (test : Token → Bool) → Keeps numbers.IsMeasured (token test)
keeps_token test = record { holds = λ xs t l h. (subst Within l.0 h).0 }

pub keeps_value : {A : Type 0} (P : A → Type 0) (a : A) → P a → Keeps P (nothing a)
keeps_value P a p = record { holds = λ xs b l h. subst P l.1 p }

pub keeps_none : {A : Type 0} (P : A → Type 0) → Keeps P none
keeps_none P = record { holds = λ xs a l h. absurd l }

pub keeps_both : {A B : Type 0} {Q : A → Type 0} {P : B → Type 0} {L : Phrase Token A} {M : A → Phrase Token B} → Keeps Q L → ((a : A) → Q a → Keeps P (M a)) → Keeps P (Both L M)
keeps_both p q = record {
  holds = λ zs b l h.
      let (left, right) = each_apart numbers.IsMeasured l.left l.right (subst Within l.cut h) in
      (q l.between (p.holds l.left l.between l.reads_left left)).holds l.right b l.reads_right right;
}

pub keeps_either : {A : Type 0} {P : A → Type 0} {L M : Phrase Token A} → Keeps P L → Keeps P M → Keeps P (L <|> M)
keeps_either p q = record { holds = λ xs a l h. ⊎_elim (λ x. p.holds xs a x h) (λ x. q.holds xs a x h) l }

turns : {A : Type 0} (P : A → Type 0) (M : A → Phrase Token A) → ((a : A) → P a → Keeps P (M a)) → (a : A) (xs : Tokens) (c : A) → Repeated M a xs c → Within xs → P a → P c
turns P M f a xs c (done _) h p = p
turns P M f a xs c (more _ b _ us vs l m) h p =
    let (left, right) = each_apart numbers.IsMeasured us vs h in
    turns P M f b vs c m right ((f a p).holds us b l left)

pub keeps_repeated : {A : Type 0} (P : A → Type 0) (M : A → Phrase Token A) → ((a : A) → P a → Keeps P (M a)) → (a : A) → P a → Keeps P (Repeated M a)
keeps_repeated P M f a p = record { holds = λ xs c l h. turns P M f a xs c l h p }

pub keeps_gap : {A : Type 0} (P : A → Type 0) (a : A) → P a → Keeps P (g.gap a)
keeps_gap P a p = keeps_both anything (λ _ _. keeps_value P a p)

pub keeps_series : {A : Type 0} (P : A → Type 0) (L : Phrase Token A) → Keeps P L → Keeps (Each P) (g.series L)
keeps_series {A = A} P L p = keeps_both p (λ x h. keeps_repeated (Each P) (g.another L) one_more (x ∷ []) (h, tt))
  where
    one_more : (xs : List A) → Each P xs → Keeps (Each P) (g.another L xs)
    one_more xs h = keeps_both anything (λ _ _. keeps_both p (λ x q. keeps_value (Each P) (xs ++ x ∷ []) (each_more P xs x h q)))
