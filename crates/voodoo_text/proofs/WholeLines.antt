-- The rule of a whole line: a statement, and nothing behind it.
use Rattle.std.proofs.Common.{◌≡◌, ℕ, Bool, true, false, cond, ◌&&◌, List, [], ◌∷◌, ◌++◌, length, Ok, Err, refl, ap, sym, ◌∙◌, subst, inl, inr, ⊎_elim, append-nil}
use Rattle.std.specs.Prelude.{Option, Some, codes}
use Rattle.std.specs.Option.{option_map}
use Rattle.std.specs.Str.{bytes_eq}
use Rattle.std.proofs.lemmas.Slice.Eq.{bytes_eq-Decides}
use Rattle.phrases.specs.declared.refusal.ReadError.{ReadError}
use Rattle.phrases.specs.declared.refusal.ReadError.TheVariants.{Refused}
use Rattle.phrases.specs.Phrases.{Phrase, Both, nothing, ◌<|>◌, ◌>>◌}
use Rattle.phrases.specs.Parsers as parser
use Rattle.phrases.specs.Parsers.{head, pure, ◌>>=◌}
use Rattle.phrases.proofs.Good.{Fits, Takes, Refuses, free, bool_cases, ok_is}
use Rattle.phrases.proofs.Deeper.{within_good}
use Rattle.phrases.proofs.Shapes.{some_nothing}
use Rattle.programs.specs.declared.op.Op.TheVariants as op
use Rattle.programs.specs.declared.op.Statement.{Statement}
use Rattle.voodoo_text.specs.declared.kind.Kind.TheVariants as k
use Rattle.voodoo_text.specs.declared.refusal.TextKind.{TextKind}
use Rattle.voodoo_text.specs.declared.refusal.TextKind.TheVariants.{BadNumber}
use Rattle.voodoo_text.specs.Kinds.{same_kind, fault_of}
use Rattle.voodoo_text.specs.Values.{Bytes}
use Rattle.voodoo_text.specs.Tokens.{Token}
use Rattle.voodoo_text.specs.Places.{Parser, is}
use Rattle.voodoo_text.specs.Statements as st
use Rattle.voodoo_text.specs.Statements.{statement}
use Rattle.voodoo_text.specs.PlaceGrammar as place
use Rattle.voodoo_text.specs.Grammar as g
use Rattle.voodoo_text.specs.PlaceGrammar.{Asked, ranges, order_alone, word}
use Rattle.voodoo_text.proofs.OneToken.{Blames, Says}
use Rattle.voodoo_text.proofs.Rules.{Rule, Same, ends, after, closed_by, made, choice, same_phrase, same_parser}
use Rattle.voodoo_text.proofs.TokenRules.{rule_word, rule_operator, begins, differs, never_number, says_kind}
use Rattle.voodoo_text.proofs.LineRules.{name, next, arguments}

-- ---- what follows the first name

abbrev persisted : Phrase Token (Option Statement)
persisted = word k.Open >> Both place.name (λ shown. Both (place.next place.name) (λ a. word k.Close >> nothing (Some (statement shown (op.Persist a)))))

abbrev assigned : Asked → Bytes → Phrase Token (Option Statement)
assigned m target = word k.Equal >> Both place.operator (λ a. word k.Open >> Both (g.arguments m a) (λ x. word k.Close >> nothing (option_map (statement target) x)))

rule_persisted : Rule persisted persisted free st.persisted
unfolding st.persisted
rule_persisted = after (rule_word k.Open) (λ _. after name (λ shown. after (next name) (λ a. after (rule_word k.Close) (λ _. ends _))))

rule_assigned : (target : Bytes) → Rule (assigned ranges target) (assigned order_alone target) free (st.assigned target)
unfolding st.assigned same_kind
rule_assigned target = after (rule_word k.Equal) (λ _. after rule_operator (λ a. after (rule_word k.Open) (λ _.
    closed_by (arguments a) (λ x. after (rule_word k.Close) (λ _. ends _)) (λ x. differs k.Close k.Comma _ refl) (λ x. differs k.Close k.Comma _ refl))))

-- the word Persist, and then a parenthesis, or any name
abbrev behind : Asked → Bytes → Phrase Token (Option Statement)
behind m bytes = (λ xs x. (bytes ≡ codes "Persist") × persisted xs x) <|> assigned m bytes

behind_persist : (m : Asked) (bytes : Bytes) → bytes ≡ codes "Persist" → Same (persisted <|> assigned m bytes) (behind m bytes)
behind_persist m bytes e = (
  λ xs x l. ⊎_elim (λ a. inl (e, a)) (λ b. inr b) l,
  λ xs x l. ⊎_elim (λ a. inl a.1) (λ b. inr b) l,
)

behind_other : (m : Asked) (bytes : Bytes) → (bytes ≡ codes "Persist" → ⊥) → Same (assigned m bytes) (behind m bytes)
behind_other m bytes ne = (
  λ xs x l. inr l,
  λ xs x l. ⊎_elim (λ a. absurd (ne a.0)) (λ b. b) l,
)

word_is : (b : Bool) (bytes : Bytes) (ts : List Token) → bytes_eq bytes (codes "Persist") ≡ b → cond (b && parser.next (is k.Open) ts) (st.persisted ts) (st.assigned bytes ts) ≡ st.after_word bytes ts
unfolding st.after_word
word_is b bytes ts e = ap (λ c. cond (c && parser.next (is k.Open) ts) (st.persisted ts) (st.assigned bytes ts)) (sym e)

rule_behind : (bytes : Bytes) → Rule (behind ranges bytes) (behind order_alone bytes) free (st.after_word bytes)
unfolding same_kind
rule_behind bytes = ⊎_elim
    (λ e.
    let same = (bytes_eq-Decides bytes (codes "Persist")).0 e in
    same_parser (st.after_word bytes) (λ ts. word_is true bytes ts e)
    (same_phrase (behind ranges bytes) (behind order_alone bytes) (behind_persist ranges bytes same) (behind_persist order_alone bytes same)
    (choice (is k.Open) rule_persisted (rule_assigned bytes) (begins k.Open _) (begins k.Open _) (differs k.Equal k.Open _ refl) (differs k.Equal k.Open _ refl))))
    (λ e.
    let other : bytes ≡ codes "Persist" → ⊥ = λ h. let f = (bytes_eq-Decides bytes (codes "Persist")).1 h in cc in
    same_parser (st.after_word bytes) (λ ts. word_is false bytes ts e)
    (same_phrase (behind ranges bytes) (behind order_alone bytes) (behind_other ranges bytes other) (behind_other order_alone bytes other) (rule_assigned bytes)))
    (bool_cases (bytes_eq bytes (codes "Persist")))

-- ---- a statement

same_line : (m : Asked) → Same (Both place.name (behind m)) (g.line m)
same_line m = (
  λ xs x l. ⊎_elim
      (λ a. inl (record { left = l.left; right = l.right; between = l.between; reads_left = (l.reads_left, a.0); reads_right = a.1; cut = l.cut }))
      (λ b. inr (record { left = l.left; right = l.right; between = l.between; reads_left = l.reads_left; reads_right = b; cut = l.cut }))
      l.reads_right,
  λ xs x l. ⊎_elim
      (λ a. record { left = a.left; right = a.right; between = a.between; reads_left = a.reads_left.0; reads_right = inl (a.reads_left.1, a.reads_right); cut = a.cut })
      (λ b. record { left = b.left; right = b.right; between = b.between; reads_left = b.reads_left; reads_right = inr b.reads_right; cut = b.cut })
      l,
)

rule_statement : Rule (g.line ranges) (g.line order_alone) free st.statement_of
unfolding st.statement_of
rule_statement = same_phrase (g.line ranges) (g.line order_alone) (same_line ranges) (same_line order_alone) (after name rule_behind)

-- ---- the end

-- any token
abbrev pub every : Token → Bool
every t = true

end_takes : (ts rest : List Token) (a : Unit {0}) → st.at_end ts ≡ Ok (a, rest) → Takes (nothing {A = Unit {0}} tt) st.at_end ts a rest
unfolding st.at_end
end_takes [] rest a h = let e = ok_is tt a [] rest h in record { text = []; cut = e.1; reads = (refl, e.0); local = at_end rest e.1 }
  where
    at_end : (rest : List Token) → [] ≡ rest → (s : List Token) → head s ≡ head rest → st.at_end s ≡ Ok (a, s)
    at_end [] e [] same = refl
    at_end [] e (u ∷ s) same = absurd (cc)
    at_end (u ∷ rest) e s same = absurd (cc)
end_takes (t ∷ ts) rest a h = absurd (cc)

end_refuses : (ts : List Token) (d : ReadError TextKind) → st.at_end ts ≡ Err d → Refuses (nothing {A = Unit {0}} tt) st.at_end ts d
unfolding st.at_end
end_refuses [] d h = absurd (cc)
end_refuses (t ∷ ts) d h = record { before = []; rest = t ∷ ts; fault = fault_of t.kind; is = cc; cut = refl; viable = inl refl; local = at_same }
  where
    at_same : (s : List Token) → head s ≡ head (t ∷ ts) → st.at_end s ≡ Err (Refused (fault_of t.kind) (length s))
    at_same [] same = absurd (cc)
    at_same (u ∷ s) same = let is : u ≡ t = cc in ap (λ x. Err (Refused (fault_of x.kind) (length (u ∷ s)))) is

end_complete : (rest : List Token) → parser.next every rest ≡ false → st.at_end rest ≡ Ok (tt, rest)
unfolding st.at_end
end_complete [] h = refl
end_complete (t ∷ ts) h = absurd (cc)

fits_end : Fits free (nothing {A = Unit {0}} tt) every st.at_end
fits_end = record {
  sound = end_takes;
  complete = λ xs rest a l h. let e = l.0 in inl (rw e (end_complete rest h));
  refuses = end_refuses;
}

never_deep : (ts : List Token) (fault : TextKind) (left : ℕ) → st.at_end ts ≡ Err (Refused fault left) → fault ≡ BadNumber → ⊥
unfolding st.at_end
never_deep [] fault left h e = cc
never_deep (t ∷ ts) fault left h e = never_number t.kind (cc)

blames_end : Blames st.at_end
unfolding st.at_end
blames_end [] fault left h = absurd (cc)
blames_end (t ∷ ts) fault left h =
    let same : fault_of t.kind ≡ fault = cc in
    record { before = []; rest = t ∷ ts; cut = refl; place = cc; says = subst (λ f. Says f (t ∷ ts)) same (says_kind t.kind t.word ts) }

rule_end : Rule (nothing {A = Unit {0}} tt) (nothing {A = Unit {0}} tt) every st.at_end
rule_end = record {
  easy = st.at_end;
  reads = fits_end;
  reads_easy = fits_end;
  rel = record { below = λ ts. inl refl; deeper = λ ts left h. absurd (never_deep ts BadNumber left h refl); shrinks = within_good (nothing {A = Unit {0}} tt) every st.at_end fits_end };
  blames = blames_end;
  text = some_nothing {A = Unit {0}} tt;
  text_easy = some_nothing {A = Unit {0}} tt;
}

-- ---- the whole line

abbrev ended_line : Asked → Phrase Token (Option Statement)
ended_line m = Both (g.line m) (λ x. Both (nothing {A = Unit {0}} tt) (λ _. nothing x))

same_ended : (m : Asked) → Same (ended_line m) (g.line m)
same_ended m = (
  λ xs x l.
      let r = l.reads_right in
      let none : l.right ≡ [] = r.cut ∙ ap (λ y. y ++ r.right) r.reads_left.0 ∙ r.reads_right.0 in
      let whole : xs ≡ l.left = l.cut ∙ ap (λ y. l.left ++ y) none ∙ append-nil l.left in
      subst (λ y. g.line m y x) (sym whole) (subst (λ y. g.line m l.left y) r.reads_right.1 l.reads_left),
  λ xs x l. record {
    left = xs;
    right = [];
    between = x;
    reads_left = l;
    reads_right = record { left = []; right = []; between = tt; reads_left = (refl, refl); reads_right = (refl, refl); cut = refl };
    cut = sym (append-nil xs);
  },
)

-- what stands behind a statement is nothing
abbrev pub closing : Option Statement → Parser (Option Statement)
closing x = st.at_end >>= (λ _. pure x)

abbrev pub whole : Parser (Option Statement)
whole = st.statement_of >>= closing

pub rule_whole : Rule (g.line ranges) (g.line order_alone) every whole
rule_whole = same_phrase (g.line ranges) (g.line order_alone) (same_ended ranges) (same_ended order_alone) (after rule_statement (λ x. made (λ _. x) rule_end))
