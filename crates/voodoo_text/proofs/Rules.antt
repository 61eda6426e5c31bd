-- What is kept of a rule of the grammar beside its parser, and that each way to put rules together keeps it.
use Rattle.std.proofs.Common.{◌≡◌, ℕ, zero, suc, Bool, true, false, List, ◌++◌, length, refl, ap, sym, ◌∙◌, subst, inl, ⊎_elim, append_assoc}
use Rattle.phrases.specs.declared.refusal.ReadError.TheVariants.{Refused}
use Rattle.phrases.specs.Phrases.{Phrase, Both, nothing, ◌<|>◌, Repeated}
use Rattle.phrases.specs.Parsers.{◌>>=◌, pure, next, either, turns, repeat}
use Rattle.phrases.proofs.Good.{Fits, Some, free, bool_cases, bind_err, cond_is, good_pure, good_bind, good_either, good_same}
use Rattle.phrases.proofs.Repeats.{good_repeat}
use Rattle.phrases.proofs.Shapes.{some_both, some_nothing, some_repeated, next-free, good_map}
use Rattle.phrases.proofs.First.{Starts, Avoids}
use Rattle.phrases.proofs.Deeper.{Rel, rel_pure, rel_bind, rel_either, rel_repeat, rel_map}
use Rattle.voodoo_text.specs.declared.refusal.TextKind.TheVariants.{BadNumber}
use Rattle.voodoo_text.specs.Tokens.{Token}
use Rattle.voodoo_text.specs.Places.{Parser}
use Rattle.voodoo_text.proofs.OneToken.{Blames}

-- The rule L where ranges are asked, and M where they are not. The parser reads L, another one reads M, and they differ only where the
-- first says that a number is bad.
pub record Rule {A : Type 0} (L M : Phrase Token A) (stop : Token → Bool) (p : Parser A) : Type 0 where
  pub easy : Parser A
  pub reads : Fits free L stop p
  pub reads_easy : Fits free M stop easy
  pub rel : Rel BadNumber p easy
  pub blames : Blames p
  pub text : Some L
  pub text_easy : Some M

-- ---- what a refusal says

blames_pure : {A : Type 0} (a : A) → Blames (pure a)
blames_pure a ts fault left h = absurd (cc)

blames_bind : {A B : Type 0} (L : Phrase Token A) (stop : Token → Bool) (p : Parser A) (q : A → Parser B) → Fits free L stop p → Blames p → ((a : A) → Blames (q a)) → Blames (p >>= q)
blames_bind L stop p q good h g ts fault left e = ⊎_elim
    (λ x. h ts fault left x)
    (λ x.
    let t = good.sound ts x.1 x.0 x.2 in
    let b = g x.0 x.1 fault left x.3 in
    record { before = t.text ++ b.before; rest = b.rest; cut = t.cut ∙ ap (λ y. t.text ++ y) b.cut ∙ sym (append_assoc t.text b.before b.rest); place = b.place; says = b.says })
    (bind_err (p ts) q (Refused fault left) e)

blames_either : {A : Type 0} (sel : Token → Bool) (p q : Parser A) → Blames p → Blames q → Blames (either sel p q)
blames_either sel p q h g ts fault left e = ⊎_elim
    (λ x. h ts fault left (sym (cond_is (next sel ts) true (p ts) (q ts) x) ∙ e))
    (λ x. g ts fault left (sym (cond_is (next sel ts) false (p ts) (q ts) x) ∙ e))
    (bool_cases (next sel ts))

blames_turns : {A : Type 0} (M : A → Phrase Token A) (stop sel : Token → Bool) (turn : A → Parser A) → ((a : A) → Fits free (M a) stop (turn a)) → ((a : A) → Blames (turn a)) → (n : ℕ) (a : A) → Blames (turns sel turn n a)
unfolding turns
blames_turns M stop sel turn good h zero a = blames_pure a
blames_turns M stop sel turn good h (suc n) a =
    blames_either sel (turn a >>= turns sel turn n) (pure a)
    (blames_bind (M a) stop (turn a) (turns sel turn n) (good a) (h a) (blames_turns M stop sel turn good h n))
    (blames_pure a)

-- ---- rules

pub ends : {A : Type 0} {stop : Token → Bool} (a : A) → Rule (nothing a) (nothing a) stop (pure a)
ends {stop = stop} a = record {
  easy = pure a;
  reads = good_pure a stop;
  reads_easy = good_pure a stop;
  rel = rel_pure BadNumber a;
  blames = blames_pure a;
  text = some_nothing a;
  text_easy = some_nothing a;
}

-- nothing goes on with the first rule
pub after : {A B : Type 0} {stop : Token → Bool} {L L' : Phrase Token A} {M M' : A → Phrase Token B} {p : Parser A} {q : A → Parser B}
    → Rule L L' free p → ((a : A) → Rule (M a) (M' a) stop (q a)) → Rule (Both L M) (Both L' M') stop (p >>= q)
after {stop = stop} {L = L} {L' = L'} {M = M} {M' = M'} {p = p} {q = q} r s = record {
  easy = r.easy >>= (λ a. (s a).easy);
  reads = good_bind L M p q free stop r.reads (λ a. (s a).reads) (λ a ys rest b l h. next-free (ys ++ rest)) (λ a. (s a).text);
  reads_easy = good_bind L' M' r.easy (λ a. (s a).easy) free stop r.reads_easy (λ a. (s a).reads_easy) (λ a ys rest b l h. next-free (ys ++ rest)) (λ a. (s a).text_easy);
  rel = rel_bind BadNumber p r.easy q (λ a. (s a).easy) r.rel (λ a. (s a).rel);
  blames = blames_bind L free p q r.reads r.blames (λ a. (s a).blames);
  text = some_both L M r.text (λ a. (s a).text);
  text_easy = some_both L' M' r.text_easy (λ a. (s a).text_easy);
}

-- what follows the first rule does not go on with it
pub closed_by : {A B : Type 0} {stop sel : Token → Bool} {L L' : Phrase Token A} {M M' : A → Phrase Token B} {p : Parser A} {q : A → Parser B}
    → Rule L L' sel p → ((a : A) → Rule (M a) (M' a) stop (q a)) → ((a : A) → Avoids sel (M a)) → ((a : A) → Avoids sel (M' a)) → Rule (Both L M) (Both L' M') stop (p >>= q)
closed_by {stop = stop} {sel = sel} {L = L} {L' = L'} {M = M} {M' = M'} {p = p} {q = q} r s apart apart' = record {
  easy = r.easy >>= (λ a. (s a).easy);
  reads = good_bind L M p q sel stop r.reads (λ a. (s a).reads) (λ a ys rest b l h. apart a ys rest b l) (λ a. (s a).text);
  reads_easy = good_bind L' M' r.easy (λ a. (s a).easy) sel stop r.reads_easy (λ a. (s a).reads_easy) (λ a ys rest b l h. apart' a ys rest b l) (λ a. (s a).text_easy);
  rel = rel_bind BadNumber p r.easy q (λ a. (s a).easy) r.rel (λ a. (s a).rel);
  blames = blames_bind L sel p q r.reads r.blames (λ a. (s a).blames);
  text = some_both L M r.text (λ a. (s a).text);
  text_easy = some_both L' M' r.text_easy (λ a. (s a).text_easy);
}

-- a rule whose value is made anew
pub made : {A B : Type 0} {stop : Token → Bool} {L L' : Phrase Token A} {p : Parser A} (f : A → B) → Rule L L' stop p → Rule (Both L (λ a. nothing (f a))) (Both L' (λ a. nothing (f a))) stop (p >>= (λ a. pure (f a)))
made {stop = stop} {L = L} {L' = L'} {p = p} f r = record {
  easy = r.easy >>= (λ a. pure (f a));
  reads = good_map L p stop r.reads f;
  reads_easy = good_map L' r.easy stop r.reads_easy f;
  rel = rel_map BadNumber p r.easy f r.rel;
  blames = blames_bind L stop p (λ a. pure (f a)) r.reads r.blames (λ a. blames_pure (f a));
  text = some_both L (λ a. nothing (f a)) r.text (λ a. some_nothing (f a));
  text_easy = some_both L' (λ a. nothing (f a)) r.text_easy (λ a. some_nothing (f a));
}

-- by the next token
pub choice : {A : Type 0} {stop : Token → Bool} {L L' M M' : Phrase Token A} {p q : Parser A} (sel : Token → Bool) → Rule L L' stop p → Rule M M' stop q
    → Starts sel L → Starts sel L' → Avoids sel M → Avoids sel M' → Rule (L <|> M) (L' <|> M') stop (either sel p q)
choice {stop = stop} {L = L} {L' = L'} {M = M} {M' = M'} {p = p} {q = q} sel r s begins begins' avoids avoids' = record {
  easy = either sel r.easy s.easy;
  reads = good_either L M p q sel stop r.reads s.reads begins (λ xs rest a l h. avoids xs rest a l);
  reads_easy = good_either L' M' r.easy s.easy sel stop r.reads_easy s.reads_easy begins' (λ xs rest a l h. avoids' xs rest a l);
  rel = rel_either BadNumber sel p r.easy q s.easy r.rel s.rel;
  blames = blames_either sel p q r.blames s.blames;
  text = let t = r.text in record { text = t.text; value = t.value; reads = inl t.reads };
  text_easy = let t = r.text_easy in record { text = t.text; value = t.value; reads = inl t.reads };
}

-- as many turns as begin so
pub many : {A : Type 0} {L L' : A → Phrase Token A} {turn : A → Parser A} (sel : Token → Bool) → ((a : A) → Rule (L a) (L' a) free (turn a))
    → ((a : A) → Starts sel (L a)) → ((a : A) → Starts sel (L' a)) → (a : A) → Rule (Repeated L a) (Repeated L' a) sel (repeat sel turn a)
many {L = L} {L' = L'} {turn = turn} sel r begins begins' a = record {
  easy = repeat sel (λ b. (r b).easy) a;
  reads = good_repeat L free sel turn (record { good = λ b. (r b).reads; begins = begins; apart = λ t h. refl }) sel (λ x h. h) (λ x h. refl) a;
  reads_easy = good_repeat L' free sel (λ b. (r b).easy) (record { good = λ b. (r b).reads_easy; begins = begins'; apart = λ t h. refl }) sel (λ x h. h) (λ x h. refl) a;
  rel = rel_repeat BadNumber sel turn (λ b. (r b).easy) (λ b. (r b).rel) a;
  blames = λ ts. blames_turns L free sel turn (λ b. (r b).reads) (λ b. (r b).blames) (length ts) a ts;
  text = some_repeated L a;
  text_easy = some_repeated L' a;
}

-- ---- other words for the same

abbrev pub Same : {A : Type 0} → Phrase Token A → Phrase Token A → Type 0
Same {A = A} L M = ((xs : List Token) (a : A) → L xs a → M xs a) × ((xs : List Token) (a : A) → M xs a → L xs a)

pub same_phrase : {A : Type 0} {stop : Token → Bool} {L L' : Phrase Token A} {p : Parser A} (M M' : Phrase Token A) → Same L M → Same L' M' → Rule L L' stop p → Rule M M' stop p
same_phrase {stop = stop} {L = L} {L' = L'} {p = p} M M' e e' r = record {
  easy = r.easy;
  reads = good_same L M stop p e.0 e.1 r.reads;
  reads_easy = good_same L' M' stop r.easy e'.0 e'.1 r.reads_easy;
  rel = r.rel;
  blames = r.blames;
  text = let t = r.text in record { text = t.text; value = t.value; reads = e.0 t.text t.value t.reads };
  text_easy = let t = r.text_easy in record { text = t.text; value = t.value; reads = e'.0 t.text t.value t.reads };
}

pub same_parser : {A : Type 0} {stop : Token → Bool} {L L' : Phrase Token A} {p : Parser A} (q : Parser A) → ((ts : List Token) → p ts ≡ q ts) → Rule L L' stop p → Rule L L' stop q
same_parser {stop = stop} {L = L} {L' = L'} q e r = subst (λ s. Rule L L' stop s) (λ i ts. e ts i) r
