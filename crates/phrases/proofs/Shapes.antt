-- Texts of phrases, their first tokens, and shapes of rules that come again.
use Rattle.std.proofs.Common.{◌≡◌, ℕ, suc, ◌+◌, ◌-◌, ◌<◌, ◌≤◌, Bool, true, false, ◌||◌, List, [], ◌∷◌, ◌++◌, refl, ap, ◌∙◌, ⊎_elim, append_assoc, arith}
use Rattle.std.proofs.lemmas.List.{append-nil}
use Rattle.phrases.specs.Phrases.{Phrase, Both, nothing, token, Repeated, done}
use Rattle.phrases.specs.Parsers.{Parser, pure, passes, next, expect, repeat, ◌>>=◌}
use Rattle.phrases.proofs.Good.{Fits, Some, free, good_pure, good_expect, good_bind}
use Rattle.phrases.proofs.Repeats.{Turns, good_repeat, repeated_first, next-apart}

-- ---- texts of phrases

pub some_token : {T : Type 0} (test : T → Bool) (t : T) → test t ≡ true → Some (token test)
some_token test t h = record { text = t ∷ []; value = t; reads = (refl, h) }

pub some_both : {T A B : Type 0} (L : Phrase T A) (M : A → Phrase T B) → Some L → ((a : A) → Some (M a)) → Some (Both L M)
some_both L M s t = let u = t s.value in record { text = s.text ++ u.text; value = u.value; reads = record { left = s.text; right = u.text; between = s.value; reads_left = s.reads; reads_right = u.reads; cut = refl } }

pub some_nothing : {T A : Type 0} (a : A) → Some {T = T} (nothing a)
some_nothing a = record { text = []; value = a; reads = (refl, refl) }

pub some_repeated : {T A : Type 0} (M : A → Phrase T A) (a : A) → Some (Repeated M a)
some_repeated M a = record { text = []; value = a; reads = done a }

-- ---- first tokens

pub or_left : (a b : Bool) → (a || b) ≡ false → a ≡ false
or_left true b h = h
or_left false b h = refl

pub or_right : (a b : Bool) → (a || b) ≡ false → b ≡ false
or_right true b h = absurd (cc)
or_right false b h = h

pub next-free : {T : Type 0} (ts : List T) → next free ts ≡ false
next-free [] = refl
next-free (t ∷ ts) = refl

-- what a test says of the first token of a phrase that begins with a token
pub begins_token : {T B : Type 0} (test : T → Bool) (M : T → Phrase T B) (sel : T → Bool) (c : Bool) → ((t : T) → test t ≡ true → sel t ≡ c) → (zs rest : List T) (b : B) → Both (token test) M zs b → next sel (zs ++ rest) ≡ c
begins_token test M sel c h zs rest b l = ap (λ z. next sel (z ++ rest)) (l.cut ∙ ap (λ x. x ++ l.right) l.reads_left.0) ∙ h l.between l.reads_left.1

pub begins_both : {T A B : Type 0} (L : Phrase T A) (M : A → Phrase T B) (sel : T → Bool) (c : Bool) → ((xs rest : List T) (a : A) → L xs a → next sel (xs ++ rest) ≡ c) → (zs rest : List T) (b : B) → Both L M zs b → next sel (zs ++ rest) ≡ c
begins_both L M sel c h zs rest b l = ap (λ z. next sel (z ++ rest)) l.cut ∙ ap (λ z. next sel z) (append_assoc l.left l.right rest) ∙ h l.left (l.right ++ rest) l.between l.reads_left

pub begins_nothing : {T A : Type 0} (a : A) (sel : T → Bool) (c : Bool) (xs rest : List T) (b : A) → nothing a xs b → next sel rest ≡ c → next sel (xs ++ rest) ≡ c
begins_nothing a sel c xs rest b l h = ap (λ x. next sel (x ++ rest)) l.0 ∙ h

-- ---- shapes

pub good_map : {T F A B : Type 0} {gap : T → Bool} (L : Phrase T A) (p : Parser T F A) (stop : T → Bool) → Fits gap L stop p → (f : A → B) → Fits gap (Both L (λ a. nothing (f a))) stop (p >>= (λ a. pure (f a)))
good_map L p stop gp f = good_bind L (λ a. nothing (f a)) p (λ a. pure (f a)) stop stop gp (λ a. good_pure (f a) stop)
    (λ a ys rest b l h. ap (λ y. next stop (y ++ rest)) l.0 ∙ h) (λ a. some_nothing (f a))

-- a token, and what follows it
pub good_after : {T F B : Type 0} {gap : T → Bool} (fault : F) (test : T → Bool) (M : T → Phrase T B) (q : T → Parser T F B) (stop : T → Bool) → ((t : T) → Fits gap (M t) stop (q t)) → ((t : T) → Some (M t)) → Fits gap (Both (token test) M) stop (expect fault test >>= q)
good_after fault test M q stop gq some = good_bind (token test) M (expect fault test) q free stop (good_expect fault test free) gq (λ a ys rest b l h. next-free (ys ++ rest)) some

pub next-or_left : {T : Type 0} (a b : T → Bool) (ts : List T) → next (λ x. a x || b x) ts ≡ false → next a ts ≡ false
next-or_left a b [] h = refl
next-or_left a b (t ∷ ts) h = or_left (a t) (b t) h

pub next-or_right : {T : Type 0} (a b : T → Bool) (ts : List T) → next (λ x. a x || b x) ts ≡ false → next b ts ≡ false
next-or_right a b [] h = refl
next-or_right a b (t ∷ ts) h = or_right (a t) (b t) h

-- a repetition: what begins a turn goes on with it, and what goes on with a turn
pub good_repeated : {T F A : Type 0} {gap : T → Bool} (M : A → Phrase T A) (stop sel : T → Bool) (turn : A → Parser T F A) → Turns gap M stop sel turn → (a : A) → Fits gap (Repeated M a) (λ x. sel x || stop x) (repeat sel turn a)
good_repeated M stop sel turn t a = good_repeat M stop sel turn t (λ x. sel x || stop x) (λ x h. or_left (sel x) (stop x) h) (λ x h. or_right (sel x) (stop x) h) a

pub after_repeated : {T F A : Type 0} {gap : T → Bool} (M : A → Phrase T A) (stop sel : T → Bool) (turn : A → Parser T F A) → Turns gap M stop sel turn → (a b : A) (ys rest : List T) → Repeated M a ys b → next stop rest ≡ false → next stop (ys ++ rest) ≡ false
after_repeated M stop sel turn t a b ys rest l h = ⊎_elim (λ e. ap (passes stop) e ∙ h) (λ e. next-apart stop sel t.apart (ys ++ rest) e) (repeated_first M stop sel turn t a b ys rest l)

-- a rule, and as many turns as come after it
pub good_list : {T F A B : Type 0} {gap : T → Bool} (L : Phrase T A) (p : Parser T F A) (stop : T → Bool) (M : B → Phrase T B) (sel : T → Bool) (turn : B → Parser T F B) (f : A → B)
    → Fits gap L stop p → Turns gap M stop sel turn → Fits gap (Both L (λ a. Repeated M (f a))) (λ x. sel x || stop x) (p >>= (λ a. repeat sel turn (f a)))
good_list L p stop M sel turn f gp t = good_bind L (λ a. Repeated M (f a)) p (λ a. repeat sel turn (f a)) stop (λ x. sel x || stop x) gp
    (λ a. good_repeated M stop sel turn t (f a))
    (λ a ys rest b l h. after_repeated M stop sel turn t (f a) b ys rest l (next-or_right sel stop rest h))
    (λ a. some_repeated M (f a))

-- a rule whose value is made anew has the same texts
pub map_text : {T A B : Type 0} (L : Phrase T A) (f : A → B) (zs : List T) (b : B) → (l : Both L (λ a. nothing (f a)) zs b) → zs ≡ l.left
map_text L f zs b l = l.cut ∙ ap (λ y. l.left ++ y) l.reads_right.0 ∙ append-nil l.left

next-same : {T : Type 0} (sel test : T → Bool) (c : Bool) → ((t : T) → sel t ≡ true → test t ≡ c) → (ts : List T) → next sel ts ≡ true → next test ts ≡ c
next-same sel test c h [] e = absurd (cc)
next-same sel test c h (t ∷ ts) e = h t e

-- what a test says of the first token of a repetition and what follows it
pub begins_repeated : {T F A B : Type 0} {gap : T → Bool} (M : A → Phrase T A) (stop sel : T → Bool) (turn : A → Parser T F A) → Turns gap M stop sel turn → (N : A → Phrase T B) (test : T → Bool) (c : Bool)
    → ((t : T) → sel t ≡ true → test t ≡ c) → ((a : A) (ys rest : List T) (b : B) → N a ys b → next test (ys ++ rest) ≡ c)
    → (a : A) (zs rest : List T) (b : B) → Both (Repeated M a) N zs b → next test (zs ++ rest) ≡ c
begins_repeated M stop sel turn t N test c turns_do after_does a zs rest b l =
    ap (λ z. next test (z ++ rest)) l.cut ∙ ap (λ z. next test z) (append_assoc l.left l.right rest)
    ∙ ⊎_elim
    (λ e. ap (passes test) e ∙ after_does l.between l.right rest b l.reads_right)
    (λ e. next-same sel test c turns_do (l.left ++ (l.right ++ rest)) e)
    (repeated_first M stop sel turn t a l.between l.left (l.right ++ rest) l.reads_left)

-- ---- a count of turns beside a loop that counts up

pub one_more : {X : Type 0} {x : X} (f : ℕ → X) (n at : ℕ) → at < n → x ≡ f (n - at) → x ≡ f (suc (n - (at + 1)))
one_more f n at below e = let turn : n - at ≡ suc (n - (at + 1)) = omega arith in e ∙ ap f turn

pub no_more : {X : Type 0} {x : X} (f : ℕ → X) (n at : ℕ) → n ≤ at → x ≡ f (n - at) → x ≡ f 0
no_more f n at past e = let none : n - at ≡ 0 = omega arith in e ∙ ap f none
