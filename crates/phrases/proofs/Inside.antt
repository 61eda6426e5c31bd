-- Which tokens the texts of a phrase are made of.
use Rattle.std.proofs.Common.{◌≡◌, Bool, true, ◌&&◌, List, refl, ap, ◌∙◌, ⊎_elim}
use Rattle.std.specs.List.{list_all}
use Rattle.std.proofs.lemmas.List.Folds.{list_all-append}
use Rattle.phrases.specs.Phrases.{Phrase, Both, nothing, token, ◌<|>◌, Repeated, done, more}

-- each token of each text passes the test
abbrev pub MadeOf : {T A : Type 0} → (T → Bool) → Phrase T A → Type 0
MadeOf {T = T} {A = A} test L = (xs : List T) (a : A) → L xs a → list_all test xs ≡ true

pub made_token : {T : Type 0} (test passes : T → Bool) → ((t : T) → passes t ≡ true → test t ≡ true) → MadeOf test (token passes)
made_token test passes h xs t l = let e = h t l.1 in ap (list_all test) l.0 ∙ ap (λ b. b && true) e

pub made_nothing : {T A : Type 0} (test : T → Bool) (a : A) → MadeOf test (nothing a)
made_nothing test a xs b l = ap (list_all test) l.0

pub made_both : {T A B : Type 0} (test : T → Bool) (L : Phrase T A) (M : A → Phrase T B) → MadeOf test L → ((a : A) → MadeOf test (M a)) → MadeOf test (Both L M)
made_both test L M h g xs b l = ap (list_all test) l.cut ∙ list_all-append test l.left l.right ∙ ap (λ x. x && list_all test l.right) (h l.left l.between l.reads_left) ∙ g l.between l.right b l.reads_right

pub made_either : {T A : Type 0} (test : T → Bool) (L M : Phrase T A) → MadeOf test L → MadeOf test M → MadeOf test (L <|> M)
made_either test L M h g xs a l = ⊎_elim (h xs a) (g xs a) l

pub made_repeated : {T A : Type 0} (test : T → Bool) (M : A → Phrase T A) → ((a : A) → MadeOf test (M a)) → (a : A) → MadeOf test (Repeated M a)
made_repeated test M h a xs c (done _) = refl
made_repeated test M h a xs c (more _ b _ us vs l m) = list_all-append test us vs ∙ ap (λ x. x && list_all test vs) (h a us b l) ∙ made_repeated test M h b vs c m
