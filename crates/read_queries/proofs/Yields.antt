-- What the value of a phrase is like, whatever its tokens.
use Rattle.std.proofs.Common.{subst, ⊎_elim}
use Rattle.phrases.specs.Phrases.{Phrase, Both, nothing, ◌<|>◌, Repeated, done, more}
use Rattle.sql_read.specs.declared.token_list.Token.{Token}
use Rattle.sql_read.specs.Tokens.{Tokens}

pub record Yields {A : Type 0} (P : A → Type 0) (L : Phrase Token A) : Type 0 where
  pub holds : (xs : Tokens) (a : A) → L xs a → P a

pub anything : {A : Type 0} {L : Phrase Token A} → Yields (λ _. Unit {0}) L
anything = record { holds = λ xs a l. tt }

pub yields_value : {A : Type 0} (P : A → Type 0) (a : A) → P a → Yields P (nothing a)
yields_value P a p = record { holds = λ xs b l. subst P l.1 p }

pub yields_both : {A B : Type 0} {Q : A → Type 0} {P : B → Type 0} {L : Phrase Token A} {M : A → Phrase Token B} → Yields Q L → ((a : A) → Q a → Yields P (M a)) → Yields P (Both L M)
yields_both p q = record { holds = λ xs b l. (q l.between (p.holds l.left l.between l.reads_left)).holds l.right b l.reads_right }

pub yields_either : {A : Type 0} {P : A → Type 0} {L M : Phrase Token A} → Yields P L → Yields P M → Yields P (L <|> M)
yields_either p q = record { holds = λ xs a l. ⊎_elim (p.holds xs a) (q.holds xs a) l }

turns : {A : Type 0} (P : A → Type 0) (M : A → Phrase Token A) → ((a : A) → P a → Yields P (M a)) → (a : A) (xs : Tokens) (c : A) → Repeated M a xs c → P a → P c
turns P M f a xs c (done _) p = p
turns P M f a xs c (more _ b _ us vs l m) p = turns P M f b vs c m ((f a p).holds us b l)

pub yields_repeated : {A : Type 0} (P : A → Type 0) (M : A → Phrase Token A) → ((a : A) → P a → Yields P (M a)) → (a : A) → P a → Yields P (Repeated M a)
yields_repeated P M f a p = record { holds = λ xs c l. turns P M f a xs c l p }
